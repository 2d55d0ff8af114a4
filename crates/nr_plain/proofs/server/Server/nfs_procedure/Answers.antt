use Rattle.std.proofs.Common.{◌+◌, ◌≤◌, length, ap, sym, ◌∙◌, subst, arith}
use Rattle.nr_tree.specs.Rules.{entry_cost}
use Rattle.nr_plain.specs.private.Code.{entry_of}
use Rattle.nr_plain.specs.Stands.{PlainServerState, IsServing}
use Rattle.nr_plain.proofs.Serving.{costs, reply_is, entry_kept, same_kept, serving_entry, serving_same}
use Rattle.nr_plain.proofs.server.Server.nfs_procedure.Goals.{then-change, else-change}
use Rattle.nr_plain.proofs.server.Server.nfs_procedure.Goals as goal

pub returns-clause-reply : goal.returns-clause-reply
returns-clause-reply c =
    reply_is c.args.self.now (entry_of c.args.request.now) c.args.request.now.xid c.args.p c.self.inside.tree c.space-space.result (ap (λ (k : PlainServerState). k.tree) c.self.view_is) c.space-space.ensures c.in_ok-change.change.reply c.in_ok-change.ensures.result.0

pub overflow_add-self-then-change : goal.overflow_add-self-then-change
overflow_add-self-then-change c =
    let fits : c.args.self.now.cost + entry_cost + length c.args.request.now.arguments.now ≤ c.args.self.now.parameters.capacity =
    costs c.args.self.now (entry_of c.args.request.now) c.args.request.now.xid c.args.p c.self.inside.tree c.space-space.result (ap (λ (k : PlainServerState). k.tree) c.self.view_is) c.space-space.ensures c.executed.new.tree c.in_ok-change.change.is_entry c.in_ok-change.ensures.tree c.in_ok-change.ensures.result.1 c.if-change.true in
    omega (arith, fits, c.entry_cost.ensures, ap (λ (k : PlainServerState). k.cost) c.self.view_is, ap (λ (k : PlainServerState). k.parameters.capacity) c.self.view_is, c.self.invariant.capacity)

pub invariant_of-self-then-change : goal.invariant_of-self-then-change
invariant_of-self-then-change c =
    subst (λ (k : PlainServerState). IsServing (record { tree = c.executed.new.tree; count = k.count + 1; cost = k.cost + c.entry_cost.result; parameters = k.parameters; cache = k.cache })) (sym c.self.view_is)
    (serving_entry c.args.self.now (entry_of c.args.request.now) c.args.request.now.xid c.args.p c.self.inside.tree c.space-space.result (ap (λ (k : PlainServerState). k.tree) c.self.view_is) c.space-space.ensures c.executed.new.tree c.in_ok-change.change.is_entry c.in_ok-change.ensures.tree c.in_ok-change.ensures.result.1 c.entry_cost.result c.entry_cost.ensures c.if-change.true (subst IsServing c.self.view_is c.self.invariant) c.facts.ensures)

pub invariant_of-self-else-change : goal.invariant_of-self-else-change
invariant_of-self-else-change c =
    subst (λ (k : PlainServerState). IsServing (record { tree = c.executed.new.tree; count = k.count; cost = k.cost; parameters = k.parameters; cache = k.cache })) (sym c.self.view_is)
    (serving_same c.args.self.now (entry_of c.args.request.now) c.args.request.now.xid c.args.p c.self.inside.tree c.space-space.result (ap (λ (k : PlainServerState). k.tree) c.self.view_is) c.space-space.ensures c.executed.new.tree c.in_ok-change.change.is_entry c.in_ok-change.ensures.tree c.in_ok-change.ensures.result.1 c.if-change.false (subst IsServing c.self.view_is c.self.invariant))

pub returns-clause-kept : goal.returns-clause-kept
returns-clause-kept c = elim c.if-change.branch [
  | then-change w ↦ w.self-is
      ∙ ap (λ (k : PlainServerState). record { tree = c.executed.new.tree; count = k.count + 1; cost = k.cost + w.entry_cost.result; parameters = k.parameters; cache = k.cache }) c.self.view_is
      ∙ entry_kept c.args.self.now (entry_of c.args.request.now) c.args.request.now.xid c.args.p c.self.inside.tree c.space-space.result (ap (λ (k : PlainServerState). k.tree) c.self.view_is) c.space-space.ensures c.executed.new.tree c.in_ok-change.change.is_entry c.in_ok-change.ensures.tree c.in_ok-change.ensures.result.1 w.entry_cost.result w.entry_cost.ensures w.if-change.true c.requires
  | else-change w ↦ w.self-is
      ∙ ap (λ (k : PlainServerState). record { tree = c.executed.new.tree; count = k.count; cost = k.cost; parameters = k.parameters; cache = k.cache }) c.self.view_is
      ∙ same_kept c.args.self.now (entry_of c.args.request.now) c.args.request.now.xid c.args.p c.self.inside.tree c.space-space.result (ap (λ (k : PlainServerState). k.tree) c.self.view_is) c.space-space.ensures c.executed.new.tree c.in_ok-change.change.is_entry c.in_ok-change.ensures.tree c.in_ok-change.ensures.result.1 w.if-change.false
]
