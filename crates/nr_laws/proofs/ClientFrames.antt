-- A client receives some frames one after the other.
use Rattle.std.proofs.Common.{◌≡◌, ℕ, ◌+◌, List, [], ◌∷◌, ◌++◌, length, Some, None, refl, sym, ap, subst, ◌∙◌, arith, append_assoc, append-nil, ◌⊎◌, inl, inr}
use Rattle.std.specs.List.{concat}
use Rattle.nr_xdr.specs.Item.{IsBytes}
use Rattle.nr_xdr.proofs.Chains.{IsBytes_left, IsBytes_right}
use Rattle.nr_wire.specs.declared.hello.Side.TheVariants.{Initiator, Responder}
use Rattle.nr_reduce.specs.declared.mark.LinkParameters.{LinkParameters}
use Rattle.nr_reduce.specs.Opening.{IsOpened}
use Rattle.nr_reduce.specs.Events.{RunEvent}
use Rattle.nr_link.specs.declared.end.End.{End}
use Rattle.nr_link.specs.Frames.{Frame}
use Rattle.nr_reduce.specs.Events.RunEvent.{FrameReceived}
use Rattle.nr_reduce.specs.EndRules.{EndState, live, end_state_after, output_for_all}
use Rattle.nr_reduce.specs.ClientState.{ClientState}
use Rattle.nr_reduce.specs.ServerState.{ServerState}
use Rattle.nr_reduce.specs.Client.{client_rules, client_state_after}
use Rattle.nr_laws.proofs.FrameContents.{FrameContent, frame_bytes, output_bytes, total_of, sends_in, requests_in, written_segment}
use Rattle.nr_laws.proofs.LinkInvariants.{Transit}
use Rattle.nr_laws.proofs.Totals.{total_append}
use Rattle.nr_laws.proofs.StreamFrames.{frames_at, spelled_append}
use Rattle.nr_laws.proofs.TotalsAtClient.{down_one}
use Rattle.nr_laws.specs.EndCauses.{IsDenied, AgreesAgain}
use Rattle.nr_laws.proofs.EndReasons.{EndsForMessage}
use Rattle.nr_laws.proofs.Guards.{Guards}
use Rattle.nr_laws.proofs.ClientStep.{LacksAccess, step_down}
use Rattle.nr_laws.proofs.AgreeingEnds.{EndsAgree, IsPlace, frame_of}
use Rattle.nr_laws.proofs.ServerFrames.{lives, place_next_lem, events_of, AreSome, ends_first}
use Rattle.nr_laws.proofs.ClientFrame.{client_took}
use Rattle.nr_laws.proofs.OfferedAccesses.{AccessesAgree}
use Rattle.nr_laws.proofs.AccessSteps.{accessed_down}

pub record ClientRan (opened : LinkParameters) (k : ClientState) (s : ServerState) (u d all_up all_down : List FrameContent) (w : Transit) (new left : List FrameContent) (es : List RunEvent) : Type 0 where
  pub after : ClientState
  pub said : List FrameContent
  pub state : end_state_after (client_rules opened) (live k) es ≡ live after
  pub output : output_for_all (client_rules opened) (live k) es ≡ output_bytes opened Initiator (total_of sends_in all_up) (total_of requests_in all_up) said
  pub linked : EndsAgree opened after s u (d ++ new) (all_up ++ said) all_down (down_one w said left)
  pub guarded : IsOpened opened → (up : ℕ) → Guards opened k s u d all_up all_down w up → Guards opened after s u (d ++ new) (all_up ++ said) all_down (down_one w said left) up
  pub accessed : (at : ℕ) → AccessesAgree opened k s d all_up all_down at → AccessesAgree opened after s (d ++ new) (all_up ++ said) all_down at

pub client_runs : (opened : LinkParameters) (s : ServerState) (u all_down left new : List FrameContent) (k : ClientState) (d all_up : List FrameContent) (w : Transit) (n r place : ℕ) → EndsAgree opened k s u d all_up all_down w → w.down ≡ new ++ left
    → n ≡ total_of sends_in d → r ≡ total_of requests_in d → IsPlace d place → IsBytes (concat (frames_at opened Responder n r new)) → AreSome (frames_at opened Responder n r new)
    → (end_state_after (client_rules opened) (live k) (events_of place (frames_at opened Responder n r new))).ended ≡ None
    → ClientRan opened k s u d all_up all_down w new left (events_of place (frames_at opened Responder n r new))
client_runs opened s u all_down left [] k d all_up w n r place l first sends requests at bytes some e =
    let same : EndsAgree opened k s u (d ++ []) (all_up ++ []) all_down (down_one w [] left) =
    subst (λ (ps : List FrameContent). EndsAgree opened k s u ps (all_up ++ []) all_down (down_one w [] left)) (sym (append-nil d))
    (subst (λ (ps : List FrameContent). EndsAgree opened k s u d ps all_down (down_one w [] left)) (sym (append-nil all_up))
    (subst (λ (ps : List FrameContent). EndsAgree opened k s u d all_up all_down (record { queued_up = ps; up = w.up; queued_down = w.queued_down; down = left })) (sym (append-nil w.queued_up))
    (subst (λ (ps : List FrameContent). EndsAgree opened k s u d all_up all_down (record { queued_up = w.queued_up; up = w.up; queued_down = w.queued_down; down = ps })) first l))) in
    let guarded : IsOpened opened → (up : ℕ) → Guards opened k s u d all_up all_down w up → Guards opened k s u (d ++ []) (all_up ++ []) all_down (down_one w [] left) up =
    λ o up g.
    subst (λ (ps : List FrameContent). Guards opened k s u ps (all_up ++ []) all_down (down_one w [] left) up) (sym (append-nil d))
    (subst (λ (ps : List FrameContent). Guards opened k s u d ps all_down (down_one w [] left) up) (sym (append-nil all_up))
    (subst (λ (ps : List FrameContent). Guards opened k s u d all_up all_down (record { queued_up = ps; up = w.up; queued_down = w.queued_down; down = left }) up) (sym (append-nil w.queued_up))
    (subst (λ (ps : List FrameContent). Guards opened k s u d all_up all_down (record { queued_up = w.queued_up; up = w.up; queued_down = w.queued_down; down = ps }) up) first g))) in
    let accessed : (at : ℕ) → AccessesAgree opened k s d all_up all_down at → AccessesAgree opened k s (d ++ []) (all_up ++ []) all_down at =
    λ at h.
    subst (λ (ps : List FrameContent). AccessesAgree opened k s ps (all_up ++ []) all_down at) (sym (append-nil d))
    (subst (λ (ps : List FrameContent). AccessesAgree opened k s d ps all_down at) (sym (append-nil all_up)) h) in
    record { after = k; said = []; state = refl; output = refl; linked = same; guarded = guarded; accessed = accessed }
client_runs opened s u all_down left (p ∷ new) k d all_up w n r place l first sends requests at bytes some e =
    let rules = client_rules opened in
    let frame = frame_bytes opened Responder (written_segment n r p) in
    let later = frames_at opened Responder (n + sends_in p) (r + requests_in p) new in
    let event = FrameReceived (frame_of frame place) in
    let es = events_of (place + length frame) later in
    let a = lives rules k event es e in
    let t = client_took opened k s u d all_up all_down w p (new ++ left) n r place l first sends requests at (IsBytes_left frame (concat later) bytes) a.stays in
    let after = client_state_after opened k event in
    let goes_on : (end_state_after rules (live after) es).ended ≡ None = ap (λ (x : EndState ClientState). (end_state_after rules x es).ended) (sym a.next) ∙ e in
    let m = client_runs opened s u all_down left new after (d ++ p ∷ []) (all_up ++ t.said) (down_one w t.said (new ++ left)) (n + sends_in p) (r + requests_in p) (place + length frame) t.linked refl
    (omega (arith, sends, total_append sends_in d (p ∷ []))) (omega (arith, requests, total_append requests_in d (p ∷ []))) (place_next_lem d p frame place at some.0)
    (IsBytes_right frame (concat later) bytes) some.1 goes_on in
    record {
      guarded = λ o up g.
          let step = step_down opened k s u d all_up all_down w up p (new ++ left) n r place o l g first sends requests at in
          let one = subst (λ (ps : List FrameContent). Guards opened after s u (d ++ p ∷ []) (all_up ++ ps) all_down (down_one w ps (new ++ left)) up) (sym t.said_is) (step.kept a.stays) in
          subst (λ (ps : List FrameContent). Guards opened m.after s u ps (all_up ++ (t.said ++ m.said)) all_down (down_one w (t.said ++ m.said) left) up) (append_assoc d (p ∷ []) new)
          (subst (λ (ps : List FrameContent). Guards opened m.after s u ((d ++ p ∷ []) ++ new) ps all_down (down_one w (t.said ++ m.said) left) up) (append_assoc all_up t.said m.said)
          (subst (λ (ps : List FrameContent). Guards opened m.after s u ((d ++ p ∷ []) ++ new) ((all_up ++ t.said) ++ m.said) all_down (record { queued_up = ps; up = w.up; queued_down = w.queued_down; down = left }) up) (append_assoc w.queued_up t.said m.said)
          (m.guarded o up one)));
      accessed = λ reached h.
          let one = subst (λ (ps : List FrameContent). AccessesAgree opened after s (d ++ p ∷ []) (all_up ++ ps) all_down reached) (sym t.said_is)
          (accessed_down opened k s u d all_up all_down w p (new ++ left) n r place reached l first sends requests at a.stays h) in
          subst (λ (ps : List FrameContent). AccessesAgree opened m.after s ps (all_up ++ (t.said ++ m.said)) all_down reached) (append_assoc d (p ∷ []) new)
          (subst (λ (ps : List FrameContent). AccessesAgree opened m.after s ((d ++ p ∷ []) ++ new) ps all_down reached) (append_assoc all_up t.said m.said) (m.accessed reached one));
      after = m.after;
      said = t.said ++ m.said;
      state = ap (λ (x : EndState ClientState). end_state_after rules x es) a.next ∙ m.state;
      output =
          (λ i. (a.says ∙ t.output) i ++ (ap (λ (x : EndState ClientState). output_for_all rules x es) a.next ∙ m.output) i)
          ∙ (λ i. output_bytes opened Initiator (total_of sends_in all_up) (total_of requests_in all_up) t.said ++ output_bytes opened Initiator (total_append sends_in all_up t.said i) (total_append requests_in all_up t.said i) m.said)
          ∙ sym (spelled_append opened Initiator (total_of sends_in all_up) (total_of requests_in all_up) t.said m.said);
      linked =
          subst (λ (ps : List FrameContent). EndsAgree opened m.after s u ps (all_up ++ (t.said ++ m.said)) all_down (down_one w (t.said ++ m.said) left)) (append_assoc d (p ∷ []) new)
          (subst (λ (ps : List FrameContent). EndsAgree opened m.after s u ((d ++ p ∷ []) ++ new) ps all_down (down_one w (t.said ++ m.said) left)) (append_assoc all_up t.said m.said)
          (subst (λ (ps : List FrameContent). EndsAgree opened m.after s u ((d ++ p ∷ []) ++ new) ((all_up ++ t.said) ++ m.said) all_down (record { queued_up = ps; up = w.up; queued_down = w.queued_down; down = left })) (append_assoc w.queued_up t.said m.said) m.linked));
    }

-- ---- If the client ends by them, it does so for what it makes of a message, or for what its memory denies

pub client_ends : (opened : LinkParameters) (s : ServerState) (u all_down left : List FrameContent) (o : IsOpened opened) (again : AgreesAgain opened) (end : End) (up : ℕ) (new : List FrameContent) (k : ClientState) (d all_up : List FrameContent) (w : Transit) (n r place : ℕ) → EndsAgree opened k s u d all_up all_down w → Guards opened k s u d all_up all_down w up → w.down ≡ new ++ left
    → n ≡ total_of sends_in d → r ≡ total_of requests_in d → IsPlace d place → IsBytes (concat (frames_at opened Responder n r new)) → AreSome (frames_at opened Responder n r new)
    → (end_state_after (client_rules opened) (live k) (events_of place (frames_at opened Responder n r new))).ended ≡ Some end → EndsForMessage end ⊎ IsDenied end
client_ends opened s u all_down left o again end up [] k d all_up w n r place l g first sends requests at bytes some e = absurd (let wrong : None ≡ Some end = e in cc)
client_ends opened s u all_down left o again end up (p ∷ new) k d all_up w n r place l g first sends requests at bytes some e =
    let rules = client_rules opened in
    let frame = frame_bytes opened Responder (written_segment n r p) in
    let later = frames_at opened Responder (n + sends_in p) (r + requests_in p) new in
    let event = FrameReceived (frame_of frame place) in
    let es = events_of (place + length frame) later in
    let step = step_down opened k s u d all_up all_down w up p (new ++ left) n r place o l g first sends requests at in
    (ends_first rules k event es end (EndsForMessage end ⊎ IsDenied end) e).first (λ now. by (step.only again end now))
    (λ stays rest.
    let t = client_took opened k s u d all_up all_down w p (new ++ left) n r place l first sends requests at (IsBytes_left frame (concat later) bytes) stays in
    let after = client_state_after opened k event in
    let one = subst (λ (ps : List FrameContent). Guards opened after s u (d ++ p ∷ []) (all_up ++ ps) all_down (down_one w ps (new ++ left)) up) (sym t.said_is) (step.kept stays) in
    client_ends opened s u all_down left o again end up new after (d ++ p ∷ []) (all_up ++ t.said) (down_one w t.said (new ++ left)) (n + sends_in p) (r + requests_in p) (place + length frame) t.linked one refl
    (omega (arith, sends, total_append sends_in d (p ∷ []))) (omega (arith, requests, total_append requests_in d (p ∷ []))) (place_next_lem d p frame place at some.0)
    (IsBytes_right frame (concat later) bytes) some.1 rest)
  where
    by : {f : Frame} → EndsForMessage end ⊎ LacksAccess k f end → EndsForMessage end ⊎ IsDenied end
    by (inl h) = inl h
    by (inr h) = inr h.denied
