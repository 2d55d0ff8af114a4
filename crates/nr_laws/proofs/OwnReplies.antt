-- A reply that is handed over is that of the Execute of its call, whatever its plan.
use Rattle.std.proofs.Common.{◌≡◌, ℕ, List, ◌∷◌, ◌++◌, Some, Result, sym, ap, ◌∙◌, append_assoc}
use Rattle.nr_header.specs.declared.header.ChunkLists.{ChunkLists}
use Rattle.nr_rpc.specs.declared.head.CallHead.{CallHead}
use Rattle.nr_rpc.specs.Reading.{target_of}
use Rattle.nr_reduce.specs.declared.call.Outcome.TheVariants as outcomes
use Rattle.nr_reduce.specs.declared.mark.Mark.{Mark}
use Rattle.nr_reduce.specs.declared.mark.Mark.TheVariants as marks
use Rattle.nr_reduce.specs.ClientState.{call_payload}
use Rattle.nr_reduce.specs.Holds.{answer_for}
use Rattle.nr_reduce.specs.Server.{offer_of, answer_of_target}
use Rattle.nr_reduce.specs.RunLaws.{server_by}
use Rattle.nr_laws.specs.MarkAt.{MarkAt}
use Rattle.nr_laws.specs.Payloads.{form_conveyed}
use Rattle.nr_laws.specs.HandedOver.{ExecutedRepliesAreHandedOver}
use Rattle.nr_laws.proofs.ConveyedReplies.{both_conveyed}
use Rattle.nr_laws.proofs.OwnExecutes.{own_executes}
use Rattle.nr_laws.proofs.OwnPayloads.{payloads_are_own}
use Rattle.nr_laws.proofs.Replied.{replied_by_lem}
use Rattle.nr_laws.proofs.Basics.{some_is_lem}

pub executed_replies_are_handed_over : ExecutedRepliesAreHandedOver
executed_replies_are_handed_over opened link run before xid plan reply typed far has at =
    let r = replied_by_lem opened link run before at.after xid reply typed far at.is in
    let b = both_conveyed opened link run before xid plan reply typed far has at r in
    let e = r.answer.call in
    let m = r.by.mark in
    let done : Mark = marks.Done link xid (outcomes.Reply reply) in
    let execute : Mark = marks.Execute link xid e.moment e.payload e.place e.reply in
    let here : before ≡ m.earlier ++ execute ∷ m.later = m.is ∙ ap (λ (x : ℕ). m.earlier ++ marks.Execute link x e.moment e.payload e.place e.reply ∷ m.later) r.own in
    let whole : run ≡ m.earlier ++ execute ∷ (m.later ++ done ∷ at.after) = at.is ∙ ap (λ (b : List Mark). b ++ done ∷ at.after) here ∙ append_assoc m.earlier (execute ∷ m.later) (done ∷ at.after) in
    let mark : MarkAt run m.earlier execute = record { after = m.later ++ done ∷ at.after; is = whole } in
    let conveyed : form_conveyed has.form (call_payload xid has.call) ≡ Some e.payload = payloads_are_own opened link run m.earlier xid plan e.moment e.payload e.place e.reply typed far has mark in
    let own = own_executes opened link run m.earlier xid plan e.moment e.payload e.place e.reply typed far has mark in
    let offer : ChunkLists = offer_of (server_by opened r.answer.earlier) e.xid in
    let down : ℕ = (server_by opened r.answer.earlier).down_max in
    let answers : answer_for offer down has.call.prog has.call.vers has.call.proc e.reply ≡ Some r.answer.answer =
    ap (λ (x : Result CallHead ℕ). answer_of_target offer down e.reply (target_of x)) (sym own.head) ∙ r.answer.is_answer in
    let same : reply ≡ e.reply = some_is_lem reply e.reply (sym b.handed ∙ b.own has.call.prog has.call.vers has.call.proc answers) in
    record {
      moment = e.moment;
      payload = e.payload;
      place = e.place;
      before = m.earlier;
      at = record { after = m.later; is = here ∙ ap (λ (p : List ℕ). m.earlier ++ marks.Execute link xid e.moment e.payload e.place p ∷ m.later) (sym same) };
      conveyed = conveyed;
    }
