use Rattle.std.proofs.Common.{◌≡◌, ◌∙◌, ℕ, List, [], ◌∷◌, ◌++◌, map, sym, ap, subst}
use Rattle.std.proofs.lemmas.List.{map-append}
use Rattle.nr_reduce.specs.History.{AcceptedCall}
use Rattle.nr_reduce.specs.declared.call.Submission.TheVariants as submissions
use Rattle.nr_world.specs.declared.awaited.AwaitedCall.{AwaitedCall}
use Rattle.nr_world.specs.DrillLinkState.{AwaitedLine}
use Rattle.nr_world.specs.OpenTickets.{LinesOpen, SubmitsLine}
use Rattle.nr_world.specs.Views.{call_view, line_view}
use Rattle.nr_world.proofs.GivenCalls.{more_open}
use Rattle.nr_world.proofs.calls.submit_line.Goals as goal

pub returns-in-Ok-submit_copy-clause-submits : goal.returns-in-Ok-submit_copy-clause-submits
returns-in-Ok-submit_copy-clause-submits c =
    let ticket : ℕ = c.in-Ok-submit_copy.ticket in
    let old : List AwaitedCall = c.args.awaited.now.items in
    let x : AwaitedCall = record { ticket = ticket; index = c.args.index; call = c.in-Ok-copy_call.own_call; form = c.in-Ok.own_form } in
    let items : c.push_reserved.new.self.items ≡ old ++ x ∷ [] = c.push_reserved.ensures.items ∙ ap (λ (calls : List AwaitedCall). calls ++ x ∷ []) c.reserve.ensures.items in
    let lines : map line_view c.push_reserved.new.self.items ≡ map line_view old ++ record { xid = ticket; index = c.args.index } ∷ [] =
    ap (λ (calls : List AwaitedCall). map line_view calls) items ∙ map-append line_view old (x ∷ []) in
    let calls : map call_view c.push_reserved.new.self.items ≡ map call_view old ++ record { xid = ticket; call = c.args.call.now; form = c.args.form.now } ∷ [] =
    ap (λ (calls : List AwaitedCall). map call_view calls) items ∙ map-append call_view old (x ∷ [])
    ∙ (λ i. map call_view old ++ record { xid = ticket; call = c.in-Ok-copy_call.ensures i; form = c.in-Ok.ensures i } ∷ []) in
    subst (λ (xid : ℕ). SubmitsLine c.args.call.now c.args.form.now c.args.index (submissions.Accepted xid) c.args.client.now c.submit_copy.new.client (map line_view old) (map line_view c.push_reserved.new.self.items) (map call_view old)
    (map call_view c.push_reserved.new.self.items)) (sym c.xid-xid.ensures)
    (c.in-Ok-submit_copy.ensures.accepted, c.in-Ok-submit_copy.ensures.stands, lines, calls)

pub returns-in-Ok-submit_copy-clause-tickets : goal.returns-in-Ok-submit_copy-clause-tickets
returns-in-Ok-submit_copy-clause-tickets c h =
    let ticket : ℕ = c.in-Ok-submit_copy.ticket in
    let old : List AwaitedCall = c.args.awaited.now.items in
    let x : AwaitedCall = record { ticket = ticket; index = c.args.index; call = c.in-Ok-copy_call.own_call; form = c.in-Ok.own_form } in
    let items : c.push_reserved.new.self.items ≡ old ++ x ∷ [] = c.push_reserved.ensures.items ∙ ap (λ (calls : List AwaitedCall). calls ++ x ∷ []) c.reserve.ensures.items in
    let lines : map line_view c.push_reserved.new.self.items ≡ map line_view old ++ line_view x ∷ [] =
    ap (λ (calls : List AwaitedCall). map line_view calls) items ∙ map-append line_view old (x ∷ []) in
    subst (λ (ls : List AwaitedLine). LinesOpen c.submit_copy.new.client.state ls) (sym lines)
    (more_open c.args.client.now.state c.submit_copy.new.client.state ticket c.args.index c.args.call.now (map line_view old) c.in-Ok-submit_copy.ensures.tickets h)
