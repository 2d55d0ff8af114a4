use Rattle.std.proofs.Common.{◌≡◌, ◌+◌, ◌-◌, ℕ, List, length, Ok, Err, eqb-true, sym, subst, ◌∙◌}
use Rattle.std.proofs.lemmas.Bool.{eqb-false}
use Rattle.nr_client.specs.Following.{FollowsOver}
use Rattle.nr_client.specs.Walking.{parent_along}
use Rattle.nr_client.proofs.Sequences.{runs_out}
use Rattle.nr_client.proofs.Walks.{last_is, no_parent, one_less, parent_of}
use Rattle.nr_client.proofs.walking.parent_of_names.Goals as goal

pub returns-then-is_empty-clause-follows : goal.returns-then-is_empty-clause-follows
returns-then-is_empty-clause-follows g c =
    no_parent g.L.Calls.relations c.args.uid c.args.gid c.args.at c.args.root.now c.args.names.now
    (g.L.Calls.at c.args.link.now) (eqb-true (length c.args.names.now) 0 (sym c.is_empty.ensures ∙ c.if-is_empty.true))

pub returns-in_default-clause-follows : goal.returns-in_default-clause-follows
returns-in_default-clause-follows g c = runs_out g.L.Calls.relations (parent_along c.args.uid c.args.gid c.args.root.now c.args.at c.args.names.now) (g.L.Calls.at c.args.link.now)

pub returns-in-Ok-walk_names-clause-follows : goal.returns-in-Ok-walk_names-clause-follows
returns-in-Ok-walk_names-clause-follows g c =
    let len : length c.args.names.now - 1 + 1 ≡ length c.args.names.now = one_less (length c.args.names.now) (eqb-false (length c.args.names.now) 0 (sym c.is_empty.ensures ∙ c.if-is_empty.false)) in
    let is = last_is c.args.names.now (length c.args.names.now - 1) c.split_at.result.1.now c.index-last-0.result c.split_at.ensures.back c.index-last-0.is in
    let same : c.index-last-0.result ≡ c.in-Ok.name = sym (c.in-Ok.ensures ∙ c.as_slice.ensures.value) in
    subst (λ (last : List ℕ). FollowsOver g.L.Calls.relations (parent_along c.args.uid c.args.gid c.args.root.now c.args.at c.args.names.now)
    (g.L.Calls.at c.args.link.now) (g.L.Calls.at c.walk_names.new.link) (Ok (c.in-Ok-walk_names.dir, last))) same
    (parent_of g.L.Calls.relations c.args.uid c.args.gid c.args.at c.args.root.now c.args.names.now (length c.args.names.now - 1) c.split_at.result.0.now c.index-last-0.result
    (g.L.Calls.at c.args.link.now) (g.L.Calls.at c.walk_names.new.link) (Ok c.in-Ok-walk_names.dir) len c.split_at.ensures.front is c.in-Ok-walk_names.ensures.follows)

pub returns-in-Err-clause-follows : goal.returns-in-Err-clause-follows
returns-in-Err-clause-follows g c =
    let len : length c.args.names.now - 1 + 1 ≡ length c.args.names.now = one_less (length c.args.names.now) (eqb-false (length c.args.names.now) 0 (sym c.is_empty.ensures ∙ c.if-is_empty.false)) in
    let is = last_is c.args.names.now (length c.args.names.now - 1) c.split_at.result.1.now c.index-last-0.result c.split_at.ensures.back c.index-last-0.is in
    parent_of g.L.Calls.relations c.args.uid c.args.gid c.args.at c.args.root.now c.args.names.now (length c.args.names.now - 1) c.split_at.result.0.now c.index-last-0.result
    (g.L.Calls.at c.args.link.now) (g.L.Calls.at c.walk_names.new.link) (Err c.in-Err.end) len c.split_at.ensures.front is c.in-Err.ensures.follows
