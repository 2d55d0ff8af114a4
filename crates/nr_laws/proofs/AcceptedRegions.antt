-- The regions of an accepted call stand in the client's state from its Submit on.
use Rattle.std.proofs.Common.{◌≡◌, ℕ, Bool, true, ◌&&◌, List, [], ◌∷◌, ◌++◌, length, Result, refl, sym, ap, subst, ◌∙◌, append_assoc, eq-eqb}
use Rattle.nr_wire.specs.declared.hello.Side.TheVariants.{Initiator}
use Rattle.nr_reduce.specs.declared.call.Call.{Call}
use Rattle.nr_reduce.specs.declared.call.Form.{Form}
use Rattle.nr_reduce.specs.declared.call.Submission.TheVariants as submissions
use Rattle.nr_reduce.specs.declared.mark.Mark.{Mark}
use Rattle.nr_reduce.specs.declared.mark.Mark.TheVariants as marks
use Rattle.nr_reduce.specs.declared.mark.LinkParameters.{LinkParameters}
use Rattle.nr_reduce.specs.declared.outline.Plan.{Plan}
use Rattle.nr_reduce.specs.History.{AcceptedCall, bytes_received}
use Rattle.nr_reduce.specs.Events.{RunEvent, events, if_own}
use Rattle.nr_reduce.specs.Events.RunEvent.{CallSubmitted}
use Rattle.nr_reduce.specs.Plans.{TooLarge, buffers}
use Rattle.nr_reduce.specs.EndRules.{EndState, next_end_state}
use Rattle.nr_reduce.specs.ClientState.{ClientState, OutstandingCall, call_payload, stag_for}
use Rattle.nr_reduce.specs.Client.{client_rules, outstanding_of, plan_or}
use Rattle.nr_reduce.specs.Run.{client}
use Rattle.nr_reduce.specs.Asked.{AskedSoFar, IsAccepted}
use Rattle.nr_reduce.proofs.Steps.{events_one}
use Rattle.nr_laws.specs.Typed.{IsTyped}
use Rattle.nr_laws.proofs.ClientRun.{client_goes}
use Rattle.nr_laws.proofs.ClientSays.{asked as asked_in, asked_from, asked_append, client_after}
use Rattle.nr_laws.proofs.ClientMemory.{HasBuffers, AllBacked, backed_at, keeps_along}
use Rattle.nr_laws.proofs.Following.{events_more}

record SplitEvents (link : ℕ) (run earlier : List Mark) (a : AcceptedCall) : Type 0 where
  place : ℕ
  rest : List RunEvent
  is : events link Initiator run ≡ events link Initiator earlier ++ CallSubmitted place a ∷ rest

split_events : (link : ℕ) (run earlier later : List Mark) (call : Call) (form : Form) (xid : ℕ) → run ≡ earlier ++ marks.Submit link call form (submissions.Accepted xid) ∷ later → SplitEvents link run earlier (record { xid = xid; call = call; form = form })
split_events link run earlier later call form xid is =
    let mark = marks.Submit link call form (submissions.Accepted xid) in
    let a : AcceptedCall = record { xid = xid; call = call; form = form } in
    let place : ℕ = length (bytes_received link Initiator earlier) in
    let more = events_more link Initiator (earlier ++ mark ∷ []) later in
    let own : events link Initiator (earlier ++ mark ∷ []) ≡ events link Initiator earlier ++ CallSubmitted place a ∷ [] =
    events_one link Initiator earlier mark ∙ ap (λ (b : Bool). events link Initiator earlier ++ if_own (b && true) (CallSubmitted place a ∷ [])) (eq-eqb link link refl) in
    record {
      place = place;
      rest = more.0;
      is = ap (λ (r : List Mark). events link Initiator r) (is ∙ sym (append_assoc earlier (mark ∷ []) later)) ∙ more.1
          ∙ ap (λ (es : List RunEvent). es ++ more.0) own ∙ append_assoc (events link Initiator earlier) (CallSubmitted place a ∷ []) more.0;
    }

pub accepted_regions : (opened : LinkParameters) (link : ℕ) (run earlier later : List Mark) (call : Call) (form : Form) (xid : ℕ) → IsTyped run → AskedSoFar opened link run → run ≡ earlier ++ marks.Submit link call form (submissions.Accepted xid) ∷ later
    → (h : IsAccepted opened link earlier call form xid) → HasBuffers (client opened link run).state.regions (buffers (stag_for (client opened link earlier).state xid) h.plan)
unfolding client
accepted_regions opened link run earlier later call form xid typed asked is h =
    let a : AcceptedCall = record { xid = xid; call = call; form = form } in
    let s = split_events link run earlier later call form xid is in
    let g = (client_goes opened link run typed asked).goes in
    let all = (keeps_along opened (events link Initiator run) g).keeps in
    let es : List RunEvent = events link Initiator earlier in
    let r : EndState ClientState = client_after opened es in
    let o : OutstandingCall = outstanding_of r.state a in
    let more : List OutstandingCall = asked_from opened (next_end_state (client_rules opened) r (CallSubmitted s.place a)) s.rest in
    let calls : asked_in opened (events link Initiator run) ≡ asked_in opened es ++ o ∷ more = ap (λ (xs : List RunEvent). asked_in opened xs) s.is ∙ asked_append opened es (CallSubmitted s.place a ∷ s.rest) in
    let own = backed_at (client opened link run).state.regions (asked_in opened es) o more (subst (λ (os : List OutstandingCall). AllBacked (client opened link run).state.regions os) calls all.backed) in
    let plan : o.plan ≡ h.plan = ap (λ (x : Result Plan TooLarge). plan_or (call_payload xid call) x) h.planned in
    subst (λ (p : Plan). HasBuffers (client opened link run).state.regions (buffers (stag_for r.state xid) p)) plan own
