-- A hello that agrees on other lengths of Sends than an earlier one ends a client that was reopened: so one that has the hello goes by the lengths
-- by which its calls were planned.
use Rattle.std.proofs.Common.{◌≡◌, ◌≤◌, Bool, true, false, cond, eqb, eqb-true, List, Option, None, Some, refl, sym, ap, subst, ◌∙◌, arith}
use Rattle.std.proofs.lemmas.Bool.{and_parts}
use Rattle.nr_wire.specs.declared.hello.Side.TheVariants.{Responder}
use Rattle.nr_wire.specs.Hello.{hello_of}
use Rattle.nr_link.specs.declared.agreement.Agreement.{Agreement}
use Rattle.nr_link.specs.declared.end.End.{End}
use Rattle.nr_link.specs.declared.end.End.TheVariants as ends
use Rattle.nr_link.specs.Reasons.{REASON_SIZES}
use Rattle.nr_link.specs.Frames.{Frame, is_hello}
use Rattle.nr_link.specs.Ending.{frame_end_by, hello_end}
use Rattle.nr_reduce.specs.declared.mark.LinkParameters.{LinkParameters}
use Rattle.nr_reduce.specs.Events.{RunEvent}
use Rattle.nr_reduce.specs.Events.RunEvent.{FrameReceived}
use Rattle.nr_reduce.specs.EndRules.{EndState, live, end_state_after}
use Rattle.nr_reduce.specs.Hellos.{client_agreement, agreement_with}
use Rattle.nr_reduce.specs.OfferedRegions.{region_grants}
use Rattle.nr_reduce.specs.Opening.{lengths_before}
use Rattle.nr_reduce.specs.ClientState.{ClientState}
use Rattle.nr_reduce.specs.Client.{client_segment, client_rules, client_end, client_readiness, initial_client, or_message_end, or_other_sizes, has_same_sizes}
use Rattle.nr_reduce.proofs.OwnStags.{kept_after}
use Rattle.nr_reduce.proofs.Unresumed.{HasOpening, opening_after}
use Rattle.nr_laws.specs.EndCauses.{AgreesAgain}
use Rattle.nr_laws.proofs.Brought.{IsHelloFrame}
use Rattle.nr_laws.proofs.FirstHellos.{first_hello, first_hello_is}
use Rattle.nr_link.specs.Agreement.{IsSendLimit}
use Rattle.nr_laws.proofs.AgreedSizes.{matched_agreement, matched_up, matched_down, up_limited, down_limited, client_agrees}

-- ---- The server's hello

hello_end_is : (opened : LinkParameters) (k : ClientState) (f : Frame) → HasOpening opened k → is_hello f ≡ true → f.bytes ≡ first_hello opened Responder
    → client_end k (FrameReceived f) ≡ cond (has_same_sizes opened.agreed (matched_agreement opened)) None (Some (ends.Bad f.at REASON_SIZES))
unfolding client_end client_agreement
hello_end_is opened k f opening first own =
    let read : IsHelloFrame Responder f.bytes = subst (IsHelloFrame Responder) (sym own) (first_hello_is opened Responder) in
    let same : agreement_with opened.client f ≡ matched_agreement opened = client_agrees opened f own in
    ap (λ (b : Bool). cond b (or_other_sizes k f (hello_end (hello_of Responder f.bytes))) (or_message_end k f (frame_end_by (client_readiness k) (region_grants f.end k.regions) f (client_segment k f)))) first
    ∙ ap (λ (o : Option End). or_other_sizes k f o) (ap hello_end read.says)
    ∙ (λ i. cond (has_same_sizes (opening.1 i) (agreement_with (opening.0 i) f)) None (Some (ends.Bad f.at REASON_SIZES)))
    ∙ ap (λ (a : Agreement). cond (has_same_sizes opened.agreed a) None (Some (ends.Bad f.at REASON_SIZES))) same

pub hello_stays : (opened : LinkParameters) (k : ClientState) (f : Frame) → HasOpening opened k → is_hello f ≡ true → f.bytes ≡ first_hello opened Responder → AgreesAgain opened → client_end k (FrameReceived f) ≡ None
hello_stays opened k f opening first own again = hello_end_is opened k f opening first own ∙ ap (λ (b : Bool). cond b None (Some (ends.Bad f.at REASON_SIZES))) again

-- any hello that doesn't end it agrees on the same lengths
pub hello_same : (k : ClientState) (f : Frame) → is_hello f ≡ true → client_end k (FrameReceived f) ≡ None → has_same_sizes k.agreed (agreement_with k.terms f) ≡ true
unfolding client_end
hello_same k f first stays =
    by (hello_end (hello_of Responder f.bytes))
    (sym (ap (λ (b : Bool). cond b (or_other_sizes k f (hello_end (hello_of Responder f.bytes))) (or_message_end k f (frame_end_by (client_readiness k) (region_grants f.end k.regions) f (client_segment k f)))) first) ∙ stays)
  where
    same : (b : Bool) → cond b None (Some (ends.Bad f.at REASON_SIZES)) ≡ None → b ≡ true
    same true e = refl
    same false e = absurd cc

    by : (o : Option End) → or_other_sizes k f o ≡ None → has_same_sizes k.agreed (agreement_with k.terms f) ≡ true
    by None e = same (has_same_sizes k.agreed (agreement_with k.terms f)) e
    by (Some end) e = absurd cc

pub hello_agrees : (opened : LinkParameters) (k : ClientState) (f : Frame) → HasOpening opened k → is_hello f ≡ true → f.bytes ≡ first_hello opened Responder → client_end k (FrameReceived f) ≡ None → AgreesAgain opened
unfolding client_agreement
hello_agrees opened k f opening first own stays =
    let same : agreement_with opened.client f ≡ matched_agreement opened = client_agrees opened f own in
    ap (λ (a : Agreement). has_same_sizes opened.agreed a) (sym same) ∙ (λ i. has_same_sizes (sym opening.1 i) (agreement_with (sym opening.0 i) f)) ∙ hello_same k f first stays

-- ---- The calls that wait are planned for lengths up to those that are agreed on again

pub lengths_same : (agreed : Option Agreement) (a : Agreement) → IsSendLimit a.up → IsSendLimit a.down → has_same_sizes agreed a ≡ true → ((lengths_before agreed).up ≤ a.up) × ((lengths_before agreed).down ≤ a.down)
lengths_same None a up down e = (up.0, down.0)
lengths_same (Some earlier) a up down e =
    let both = and_parts (eqb earlier.up a.up) (eqb earlier.down a.down) e in
    let same_up = eqb-true earlier.up a.up both.0 in
    let same_down = eqb-true earlier.down a.down both.1 in
    (omega (arith, same_up), omega (arith, same_down))

pub lengths_again : (opened : LinkParameters) → AgreesAgain opened → ((lengths_before opened.agreed).up ≤ matched_up opened) × ((lengths_before opened.agreed).down ≤ matched_down opened)
lengths_again opened again = lengths_same opened.agreed (matched_agreement opened) (up_limited opened) (down_limited opened) again

-- ---- A client that some events lead to

pub reached_opening : (opened : LinkParameters) (k : ClientState) → (es : List RunEvent) × (end_state_after (client_rules opened) (initial_client opened) es ≡ live k) → HasOpening opened k
reached_opening opened k r = subst (λ (x : EndState ClientState). HasOpening opened x.state) r.1 (kept_after (client_rules opened) (HasOpening opened) (opening_after opened) (initial_client opened) r.0 (refl, refl))
