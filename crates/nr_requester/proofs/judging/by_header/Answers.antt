use Rattle.std.proofs.Common.{length, sym, ◌∙◌}
use Rattle.nr_reduce.specs.KeptClient.{bytes_under}
use Rattle.nr_requester.specs.Judged.{kept_view, kept_views}
use Rattle.nr_requester.proofs.MessageBodies.{own_none, own_call, no_call, named_call, by_call, one_offers, one_room, one_held, same_all, same_set, brings_lem, own_given, header_with}
use Rattle.std.specs.Prelude.{get_or}
use Rattle.nr_requester.proofs.judging.by_header.Goals as goal

pub returns-in_default-clause-err : goal.returns-in_default-clause-err
returns-in_default-clause-err c = no_call (kept_views c.args.sent c.args.calls.now) (bytes_under c.args.regions.now.memory) c.args.named c.args.message.now (header_with c.args.header c.args.lists.now) (sym c.requires.header) c.in_default.ensures

pub returns-in_default-clause-own : goal.returns-in_default-clause-own
returns-in_default-clause-own c = sym (own_none (kept_views c.args.sent c.args.calls.now) c.args.named c.args.message.now (header_with c.args.header c.args.lists.now) (sym c.requires.header) c.in_default.ensures)

pub returns-in_default-clause-same : goal.returns-in_default-clause-same
returns-in_default-clause-same c = same_all c.args.calls.now

pub returns-then-names_another-clause-own : goal.returns-then-names_another-clause-own
returns-then-names_another-clause-own c =
    c.own_of-own.ensures
    ∙ sym (own_call (kept_views c.args.sent c.args.calls.now) c.args.named c.args.message.now (header_with c.args.header c.args.lists.now) (kept_view c.args.sent (get_or c.args.calls.now c.in-Some.at c.index-calls-at.result)) (sym c.requires.header) (c.in-Some.ensures.1 c.index-calls-at.result))

pub returns-then-names_another-clause-err : goal.returns-then-names_another-clause-err
returns-then-names_another-clause-err c =
    named_call (kept_views c.args.sent c.args.calls.now) (bytes_under c.args.regions.now.memory) c.args.named c.args.message.now (header_with c.args.header c.args.lists.now) (kept_view c.args.sent (get_or c.args.calls.now c.in-Some.at c.index-calls-at-2.result)) (sym c.requires.header) (c.in-Some.ensures.1 c.index-calls-at-2.result)
    (sym c.names_another.ensures ∙ c.if-names_another.true)

pub returns-then-names_another-clause-same : goal.returns-then-names_another-clause-same
returns-then-names_another-clause-same c = same_all c.args.calls.now

pub found-requires-clause-held : goal.found-requires-clause-held
found-requires-clause-held c = one_held c.args.regions.now.memory c.args.calls.now c.in-Some.at c.index-calls-at-3.result c.in-Some.ensures.0 c.requires.held

pub found-requires-clause-offers : goal.found-requires-clause-offers
found-requires-clause-offers c = one_offers c.args.calls.now c.in-Some.at c.index-calls-at-3.result c.in-Some.ensures.0 c.requires.offers

pub found-requires-clause-room : goal.found-requires-clause-room
found-requires-clause-room c = one_room (length c.args.message.now) c.args.calls.now c.in-Some.at c.index-calls-at-3.result c.in-Some.ensures.0 c.requires.rooms

pub returns-in-Ok-clause-ok : goal.returns-in-Ok-clause-ok
returns-in-Ok-clause-ok c =
    brings_lem c.args.sent c.args.calls.now (bytes_under c.args.regions.now.memory) c.args.named c.args.message.now (header_with c.args.header c.args.lists.now) c.in-Some.at c.found.new.call c.index-calls-at-3.result c.in-Ok.found c.in-Some.ensures.0 (sym c.requires.header) (c.in-Some.ensures.1 c.index-calls-at-3.result)
    (c.in-Ok.ensures.ok c.args.sent) c.in-Ok.ensures.within (own_given c.args.calls.now c.in-Some.at c.index-calls-at-3.result c.index-calls-at-2.result c.args.named c.names_another.result c.in-Some.ensures.0 c.names_another.ensures c.if-names_another.false)

pub returns-in-Ok-clause-same : goal.returns-in-Ok-clause-same
returns-in-Ok-clause-same c = same_set c.args.calls.now c.in-Some.at c.found.new.call c.index-calls-at-3.result c.in-Some.ensures.0 c.in-Ok.ensures.same

pub returns-in-Err-clause-err : goal.returns-in-Err-clause-err
returns-in-Err-clause-err c =
    let e = c.in-Err.ensures.err c.args.sent in
    (by_call (kept_views c.args.sent c.args.calls.now) (bytes_under c.args.regions.now.memory) c.args.named c.args.message.now (header_with c.args.header c.args.lists.now) (kept_view c.args.sent (get_or c.args.calls.now c.in-Some.at c.index-calls-at-3.result)) (sym c.requires.header) (c.in-Some.ensures.1 c.index-calls-at-3.result) (own_given c.args.calls.now c.in-Some.at c.index-calls-at-3.result c.index-calls-at-2.result c.args.named c.names_another.result c.in-Some.ensures.0 c.names_another.ensures c.if-names_another.false) ∙ e.0, e.1)

pub returns-in-Err-clause-same : goal.returns-in-Err-clause-same
returns-in-Err-clause-same c = same_set c.args.calls.now c.in-Some.at c.found.new.call c.index-calls-at-3.result c.in-Some.ensures.0 c.in-Err.ensures.same

pub returns-in-Ok-clause-own : goal.returns-in-Ok-clause-own
returns-in-Ok-clause-own c =
    c.own_of-own.ensures
    ∙ sym (own_call (kept_views c.args.sent c.args.calls.now) c.args.named c.args.message.now (header_with c.args.header c.args.lists.now) (kept_view c.args.sent (get_or c.args.calls.now c.in-Some.at c.index-calls-at.result)) (sym c.requires.header) (c.in-Some.ensures.1 c.index-calls-at.result))

pub returns-in-Err-clause-own : goal.returns-in-Err-clause-own
returns-in-Err-clause-own c =
    c.own_of-own.ensures
    ∙ sym (own_call (kept_views c.args.sent c.args.calls.now) c.args.named c.args.message.now (header_with c.args.header c.args.lists.now) (kept_view c.args.sent (get_or c.args.calls.now c.in-Some.at c.index-calls-at.result)) (sym c.requires.header) (c.in-Some.ensures.1 c.index-calls-at.result))
