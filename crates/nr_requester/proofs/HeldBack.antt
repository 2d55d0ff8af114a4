-- Sends are held back only while all credits are taken, and a new call is accepted only while none is.
use Rattle.std.proofs.Common.{◌≡◌, ◌≢◌, ℕ, zero, suc, ◌+◌, ◌-◌, ◌≤◌, Bool, true, false, cond, ◌&&◌, eqb, ltb, List, [], ◌∷◌, length, map, take, Option, None, Some, is_none, Result, Ok, Err, refl, sym, ap, ◌∙◌, arith, eqb-true}
use Rattle.std.proofs.lemmas.List.{length-map}
use Rattle.nr_link.specs.declared.end.End.{End}
use Rattle.nr_reduce.specs.declared.call.Call.{Call}
use Rattle.nr_reduce.specs.declared.call.Form.{Form}
use Rattle.nr_reduce.specs.declared.call.Refused.TheVariants as refusals
use Rattle.nr_reduce.specs.declared.call.Submission.{Submission}
use Rattle.nr_reduce.specs.declared.call.Submission.TheVariants as submissions
use Rattle.nr_reduce.specs.declared.outline.Plan.{Plan}
use Rattle.nr_reduce.specs.declared.mark.LinkParameters.{LinkParameters}
use Rattle.nr_reduce.specs.declared.mark.Mark.{Mark}
use Rattle.nr_reduce.specs.Plans.{TooLarge}
use Rattle.nr_reduce.specs.ClientState.{WaitingCall, ClientState}
use Rattle.nr_reduce.specs.EndRules.{EndState}
use Rattle.nr_reduce.specs.KeptCalls.{numbered_calls}
use Rattle.nr_reduce.specs.SubmitAnswer.{calls_to_resend}
use Rattle.nr_reduce.specs.Run.{client}
use Rattle.nr_reduce.proofs.Numbered.{numbered_length}
use Rattle.nr_requester.specs.RequesterState.{RequesterState, RequesterSide}
use Rattle.nr_requester.specs.Answers.{plan_under, answer_by_plan, answer_if, answer_of}
use Rattle.nr_requester.specs.Standing.{LinkKeeps, KeepsClient, waiting_message}
use Rattle.nr_requester.proofs.Accepting.{HeldForCredit}

-- ---- None waits while none is held back

no_length : {X : Type 0} (xs : List X) → length xs ≡ 0 → xs ≡ []
no_length [] is = refl
no_length (x ∷ xs) is = absurd (omega (arith, is))

pub none_wait : (opened : LinkParameters) (link : ℕ) (h : RequesterSide) (run : List Mark) → KeepsClient opened link h run → h.state.side.ended ≡ None → length h.state.side.send_queue.held ≡ 0 → (client opened link run).state.waiting ≡ []
none_wait opened link h run s lives unheld =
    let k : ClientState = (client opened link run).state in
    let held : length h.state.side.send_queue.held ≡ length k.waiting = ap (λ (ms : List (List ℕ)). length ms) (s.side lives).held ∙ length-map k.waiting (waiting_message opened) in
    no_length k.waiting (sym held ∙ unheld)

-- ---- All that could be sent again was

pub none_taken : (n : ℕ) (w : WaitingCall) (ws : List WaitingCall) → take n (w ∷ ws) ≡ [] → n ≡ 0
none_taken zero w ws is = refl
none_taken (suc n) w ws is = absurd (let long = ap (λ (xs : List WaitingCall). length xs) is in omega (arith, long))

-- of a client that hasn't ended
left_over : (has_hello : Bool) (grant out : ℕ) (w : WaitingCall) (ws : List WaitingCall) → (has_hello ≡ false → grant ≡ 1) → cond has_hello (take (grant - out) (w ∷ ws)) [] ≡ [] → grant ≤ out + length (w ∷ ws)
left_over true grant out w ws first is = (let none = none_taken (grant - out) w ws is in omega (arith, none))
left_over false grant out w ws first is = (let one = first refl in omega (arith, one))

resent_all : (e : EndState ClientState) (w : WaitingCall) (ws : List WaitingCall) → e.ended ≡ None → e.state.waiting ≡ w ∷ ws → (e.state.has_hello ≡ false → e.state.grant ≡ 1) → calls_to_resend e ≡ [] → e.state.grant ≤ length e.state.outstanding + length (w ∷ ws)
unfolding calls_to_resend
resent_all e w ws stays there first is =
    left_over e.state.has_hello e.state.grant (length e.state.outstanding) w ws first
    ((λ i. cond (is_none (sym stays i) && e.state.has_hello) (take (e.state.grant - length e.state.outstanding) (sym there i)) []) ∙ is)

pub held_for_credit : (opened : LinkParameters) (link : ℕ) (h : RequesterSide) (run : List Mark) → KeepsClient opened link h run → calls_to_resend (client opened link run) ≡ [] → h.state.side.ended ≡ None → HeldForCredit h.state
held_for_credit opened link h run s resent lives some = by k.waiting refl
  where
    k : ClientState
    k = (client opened link run).state

    keeps : LinkKeeps opened h.state.side k
    keeps = s.side lives

    by : (ws : List WaitingCall) → k.waiting ≡ ws → h.state.grant ≤ length h.state.outstanding
    by [] none = absurd (some (ap (λ (ms : List (List ℕ)). length ms) keeps.held ∙ ap (λ (ws : List WaitingCall). length (map (waiting_message opened) ws)) none))
    by (w ∷ ws) there =
        let all : length h.state.outstanding ≡ length (numbered_calls k) = s.kept.keeps.outstanding in
        let counted : length (numbered_calls k) ≡ length k.outstanding + length k.waiting = numbered_length k in
        let count : length k.waiting ≡ length (w ∷ ws) = ap (λ (xs : List WaitingCall). length xs) there in
        let grant : h.state.grant ≡ k.grant = s.kept.keeps.grant in
        let few = resent_all (client opened link run) w ws (sym s.kept.keeps.ended ∙ lives) there keeps.granted resent in
        omega (arith, all, counted, count, grant, few)

-- ---- An accepted call

planned_unheld : (r : RequesterState) (p : Result Plan TooLarge) (xid : ℕ) → answer_by_plan r p ≡ submissions.Accepted xid → length r.side.send_queue.held ≡ 0
planned_unheld r (Err large) xid is = absurd cc
planned_unheld r (Ok plan) xid is = by (eqb (length r.side.send_queue.held) 0) refl (ltb (length r.outstanding) r.grant) _ is
  where
    by : (b : Bool) → eqb (length r.side.send_queue.held) 0 ≡ b → (c : Bool) (some : Submission) → cond (b && c) some (submissions.Refused (refusals.NoCredit (length r.outstanding) r.grant)) ≡ submissions.Accepted xid → length r.side.send_queue.held ≡ 0
    by true e c some is = eqb-true (length r.side.send_queue.held) 0 e
    by false e c some is = absurd cc

pub accepted_unheld : (r : RequesterState) (call : Call) (form : Form) (xid : ℕ) → answer_of r call form ≡ submissions.Accepted xid → (r.side.ended ≡ None) × (length r.side.send_queue.held ≡ 0)
unfolding answer_of
accepted_unheld r call form xid is = by r.side.ended refl is
  where
    by : (x : Option End) → r.side.ended ≡ x → answer_if r call form x ≡ submissions.Accepted xid → (r.side.ended ≡ None) × (length r.side.send_queue.held ≡ 0)
    by None e is = (e, planned_unheld r (plan_under r call form) xid is)
    by (Some end) e is = absurd cc
