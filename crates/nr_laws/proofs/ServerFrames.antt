-- A server receives some frames one after the other.
use Rattle.std.proofs.Common.{◌≡◌, ℕ, ◌+◌, ◌<◌, List, [], ◌∷◌, ◌++◌, length, map, Option, Some, None, refl, sym, ap, subst, ◌∙◌, arith, append_assoc, append-nil, length-append, add-zero}
use Rattle.std.specs.List.{concat}
use Rattle.nr_xdr.specs.Item.{IsBytes}
use Rattle.nr_xdr.proofs.Chains.{IsBytes_left, IsBytes_right}
use Rattle.nr_wire.specs.declared.hello.Side.TheVariants.{Initiator, Responder}
use Rattle.nr_link.specs.declared.end.End.{End}
use Rattle.nr_link.specs.Frames.{frames_from}
use Rattle.nr_reduce.specs.declared.mark.LinkParameters.{LinkParameters}
use Rattle.nr_reduce.specs.Opening.{IsOpened}
use Rattle.nr_reduce.specs.Events.{RunEvent}
use Rattle.nr_reduce.specs.Events.RunEvent.{FrameReceived}
use Rattle.nr_reduce.specs.EndRules.{EndMachine, EndState, live, next_end_state, next_end_state_by, end_state_after, output_for, output_for_by, output_for_all}
use Rattle.nr_reduce.specs.ClientState.{ClientState}
use Rattle.nr_reduce.specs.ServerState.{ServerState}
use Rattle.nr_reduce.specs.Server.{server_rules, server_state_after}
use Rattle.nr_reduce.proofs.Steps.{ended_stays}
use Rattle.nr_laws.proofs.FrameContents.{FrameContent, frame_bytes, output_bytes, total_of, sends_in, requests_in, written_segment}
use Rattle.nr_laws.proofs.LinkInvariants.{Transit}
use Rattle.nr_laws.proofs.Totals.{total_append}
use Rattle.nr_laws.proofs.StreamFrames.{frames_at, spelled_append}
use Rattle.nr_laws.proofs.EndReasons.{EndsForCall}
use Rattle.nr_laws.proofs.Guards.{Guards}
use Rattle.nr_laws.proofs.ServerStep.{step_up_lem}
use Rattle.nr_laws.proofs.AgreeingEnds.{EndsAgree, IsPlace, frame_of, taken_up, server_took}
use Rattle.nr_laws.proofs.OfferedAccesses.{AccessesAgree}
use Rattle.nr_laws.proofs.AccessSteps.{accessed_up}

-- ---- An end that hasn't ended by some events

pub record GoesOn {S : Type 0} (rules : EndMachine S) (s : S) (event : RunEvent) (es : List RunEvent) : Type 0 where
  pub stays : rules.end_at s event ≡ None
  pub next : next_end_state rules (live s) event ≡ live (rules.state_after s event)
  pub says : output_for rules (live s) event ≡ rules.output_at s event

pub lives : {S : Type 0} (rules : EndMachine S) (s : S) (event : RunEvent) (es : List RunEvent) → (end_state_after rules (next_end_state rules (live s) event) es).ended ≡ None → GoesOn rules s event es
lives rules s event es e = by (rules.end_at s event) refl
  where
    by : (o : Option End) → rules.end_at s event ≡ o → GoesOn rules s event es
    by None is = record { stays = is; next = ap (λ (x : Option End). next_end_state_by rules s event x) is; says = ap (λ (x : Option End). output_for_by rules s event x) is }
    by (Some end) is =
        let ended : (end_state_after rules (next_end_state rules (live s) event) es).ended ≡ Some end =
        ap (λ (x : Option End). (end_state_after rules (next_end_state_by rules s event x) es).ended) is ∙ ap (λ (r : EndState _). r.ended) (ended_stays rules s end es).0 in
        absurd (let wrong : Some end ≡ None = sym ended ∙ e in cc)

-- ---- Offsets

pub place_next_lem : (u : List FrameContent) (p : FrameContent) (bytes : List ℕ) (place : ℕ) → IsPlace u place → 0 < length bytes → IsPlace (u ++ p ∷ []) (place + length bytes)
place_next_lem [] p bytes place at some = omega (arith, some)
place_next_lem (q ∷ u) p bytes place at some = omega (arith, at)

-- ---- The frames of frames, as events

abbrev pub events_of : (place : ℕ) → List (List ℕ) → List RunEvent
events_of place frames = map FrameReceived (frames_from place frames)

pub record ServerRan (opened : LinkParameters) (k : ClientState) (s : ServerState) (u d all_up all_down : List FrameContent) (w : Transit) (new left : List FrameContent) (es : List RunEvent) (place end : ℕ) : Type 0 where
  pub after : ServerState
  pub said : List FrameContent
  pub state : end_state_after (server_rules opened) (live s) es ≡ live after
  pub output : output_for_all (server_rules opened) (live s) es ≡ output_bytes opened Responder (total_of sends_in all_down) (total_of requests_in all_down) said
  pub linked : EndsAgree opened k after (u ++ new) d all_up (all_down ++ said) (taken_up w left said)
  pub guarded : IsOpened opened → Guards opened k s u d all_up all_down w place → Guards opened k after (u ++ new) d all_up (all_down ++ said) (taken_up w left said) end
  pub accessed : IsOpened opened → Guards opened k s u d all_up all_down w place → (at : ℕ) → AccessesAgree opened k s d all_up all_down at → AccessesAgree opened k after d all_up (all_down ++ said) at

abbrev pub AreSome : List (List ℕ) → Type 0
AreSome [] = Unit {0}
AreSome (f ∷ fs) = (0 < length f) × AreSome fs

pub server_runs : (opened : LinkParameters) (k : ClientState) (d all_up left new : List FrameContent) (s : ServerState) (u all_down : List FrameContent) (w : Transit) (n r place : ℕ) → EndsAgree opened k s u d all_up all_down w → w.up ≡ new ++ left
    → n ≡ total_of sends_in u → r ≡ total_of requests_in u → IsPlace u place → IsBytes (concat (frames_at opened Initiator n r new)) → AreSome (frames_at opened Initiator n r new)
    → (end_state_after (server_rules opened) (live s) (events_of place (frames_at opened Initiator n r new))).ended ≡ None
    → ServerRan opened k s u d all_up all_down w new left (events_of place (frames_at opened Initiator n r new)) place (place + length (concat (frames_at opened Initiator n r new)))
server_runs opened k d all_up left [] s u all_down w n r place l first sends requests at bytes some e =
    let same : EndsAgree opened k s (u ++ []) d all_up (all_down ++ []) (taken_up w left []) =
    subst (λ (ps : List FrameContent). EndsAgree opened k s ps d all_up (all_down ++ []) (taken_up w left [])) (sym (append-nil u))
    (subst (λ (ps : List FrameContent). EndsAgree opened k s u d all_up ps (taken_up w left [])) (sym (append-nil all_down))
    (subst (λ (ps : List FrameContent). EndsAgree opened k s u d all_up all_down (record { queued_up = w.queued_up; up = left; queued_down = ps; down = w.down })) (sym (append-nil w.queued_down))
    (subst (λ (ps : List FrameContent). EndsAgree opened k s u d all_up all_down (record { queued_up = w.queued_up; up = ps; queued_down = w.queued_down; down = w.down })) first l))) in
    let guarded : IsOpened opened → Guards opened k s u d all_up all_down w place → Guards opened k s (u ++ []) d all_up (all_down ++ []) (taken_up w left []) (place + 0) =
    λ o g.
    subst (λ (x : ℕ). Guards opened k s (u ++ []) d all_up (all_down ++ []) (taken_up w left []) x) (sym (add-zero place))
    (subst (λ (ps : List FrameContent). Guards opened k s ps d all_up (all_down ++ []) (taken_up w left []) place) (sym (append-nil u))
    (subst (λ (ps : List FrameContent). Guards opened k s u d all_up ps (taken_up w left []) place) (sym (append-nil all_down))
    (subst (λ (ps : List FrameContent). Guards opened k s u d all_up all_down (record { queued_up = w.queued_up; up = left; queued_down = ps; down = w.down }) place) (sym (append-nil w.queued_down))
    (subst (λ (ps : List FrameContent). Guards opened k s u d all_up all_down (record { queued_up = w.queued_up; up = ps; queued_down = w.queued_down; down = w.down }) place) first g)))) in
    let accessed : IsOpened opened → Guards opened k s u d all_up all_down w place → (reached : ℕ) → AccessesAgree opened k s d all_up all_down reached → AccessesAgree opened k s d all_up (all_down ++ []) reached =
    λ o g reached h. subst (λ (ps : List FrameContent). AccessesAgree opened k s d all_up ps reached) (sym (append-nil all_down)) h in
    record { after = s; said = []; state = refl; output = refl; linked = same; guarded = guarded; accessed = accessed }
server_runs opened k d all_up left (p ∷ new) s u all_down w n r place l first sends requests at bytes some e =
    let rules = server_rules opened in
    let frame = frame_bytes opened Initiator (written_segment n r p) in
    let later = frames_at opened Initiator (n + sends_in p) (r + requests_in p) new in
    let event = FrameReceived (frame_of frame place) in
    let es = events_of (place + length frame) later in
    let a = lives rules s event es e in
    let t = server_took opened k s u d all_up all_down w p (new ++ left) n r place l first sends requests at (IsBytes_left frame (concat later) bytes) a.stays in
    let after = server_state_after opened s event in
    let goes_on : (end_state_after rules (live after) es).ended ≡ None = ap (λ (x : EndState ServerState). (end_state_after rules x es).ended) (sym a.next) ∙ e in
    let m = server_runs opened k d all_up left new after (u ++ p ∷ []) (all_down ++ t.said) (taken_up w (new ++ left) t.said) (n + sends_in p) (r + requests_in p) (place + length frame) t.linked refl
    (omega (arith, sends, total_append sends_in u (p ∷ []))) (omega (arith, requests, total_append requests_in u (p ∷ []))) (place_next_lem u p frame place at some.0)
    (IsBytes_right frame (concat later) bytes) some.1 goes_on in
    let ends : (place + length frame) + length (concat later) ≡ place + length (frame ++ concat later) = omega (arith, length-append frame (concat later)) in
    record {
      guarded = λ o g.
          let step = step_up_lem opened k s u d all_up all_down w p (new ++ left) n r place o l g first sends requests at (IsBytes_left frame (concat later) bytes) some.0 in
          let one = subst (λ (ps : List FrameContent). Guards opened k after (u ++ p ∷ []) d all_up (all_down ++ ps) (taken_up w (new ++ left) ps) (place + length frame)) (sym t.said_is) (step.kept a.stays) in
          subst (λ (x : ℕ). Guards opened k m.after (u ++ p ∷ new) d all_up (all_down ++ (t.said ++ m.said)) (taken_up w left (t.said ++ m.said)) x) ends
          (subst (λ (ps : List FrameContent). Guards opened k m.after ps d all_up (all_down ++ (t.said ++ m.said)) (taken_up w left (t.said ++ m.said)) ((place + length frame) + length (concat later))) (append_assoc u (p ∷ []) new)
          (subst (λ (ps : List FrameContent). Guards opened k m.after ((u ++ p ∷ []) ++ new) d all_up ps (taken_up w left (t.said ++ m.said)) ((place + length frame) + length (concat later))) (append_assoc all_down t.said m.said)
          (subst (λ (ps : List FrameContent). Guards opened k m.after ((u ++ p ∷ []) ++ new) d all_up ((all_down ++ t.said) ++ m.said) (record { queued_up = w.queued_up; up = left; queued_down = ps; down = w.down }) ((place + length frame) + length (concat later))) (append_assoc w.queued_down t.said m.said)
          (m.guarded o one))));
      accessed = λ o g reached h.
          let step = step_up_lem opened k s u d all_up all_down w p (new ++ left) n r place o l g first sends requests at (IsBytes_left frame (concat later) bytes) some.0 in
          let kept = step.kept a.stays in
          let one = subst (λ (ps : List FrameContent). Guards opened k after (u ++ p ∷ []) d all_up (all_down ++ ps) (taken_up w (new ++ left) ps) (place + length frame)) (sym t.said_is) kept in
          let two = subst (λ (ps : List FrameContent). AccessesAgree opened k after d all_up (all_down ++ ps) reached) (sym t.said_is)
          (accessed_up opened k s u d all_up all_down w p (new ++ left) n r place reached l first sends requests at a.stays kept.answered.once h) in
          subst (λ (ps : List FrameContent). AccessesAgree opened k m.after d all_up ps reached) (append_assoc all_down t.said m.said) (m.accessed o one reached two);
      after = m.after;
      said = t.said ++ m.said;
      state = ap (λ (x : EndState ServerState). end_state_after rules x es) a.next ∙ m.state;
      output =
          (λ i. (a.says ∙ t.output) i ++ (ap (λ (x : EndState ServerState). output_for_all rules x es) a.next ∙ m.output) i)
          ∙ (λ i. output_bytes opened Responder (total_of sends_in all_down) (total_of requests_in all_down) t.said ++ output_bytes opened Responder (total_append sends_in all_down t.said i) (total_append requests_in all_down t.said i) m.said)
          ∙ sym (spelled_append opened Responder (total_of sends_in all_down) (total_of requests_in all_down) t.said m.said);
      linked =
          subst (λ (ps : List FrameContent). EndsAgree opened k m.after ps d all_up (all_down ++ (t.said ++ m.said)) (taken_up w left (t.said ++ m.said))) (append_assoc u (p ∷ []) new)
          (subst (λ (ps : List FrameContent). EndsAgree opened k m.after ((u ++ p ∷ []) ++ new) d all_up ps (taken_up w left (t.said ++ m.said))) (append_assoc all_down t.said m.said)
          (subst (λ (ps : List FrameContent). EndsAgree opened k m.after ((u ++ p ∷ []) ++ new) d all_up ((all_down ++ t.said) ++ m.said) (record { queued_up = w.queued_up; up = left; queued_down = ps; down = w.down })) (append_assoc w.queued_down t.said m.said) m.linked));
    }

-- ---- If the server ends by them, it does so for what it makes of a call

pub record Ends {S : Type 0} (rules : EndMachine S) (s : S) (event : RunEvent) (es : List RunEvent) (end : End) (Lasting : Type 0) : Type 0 where
  pub first : (rules.end_at s event ≡ Some end → Lasting) → (rules.end_at s event ≡ None → (end_state_after rules (live (rules.state_after s event)) es).ended ≡ Some end → Lasting) → Lasting

pub ends_first : {S : Type 0} (rules : EndMachine S) (s : S) (event : RunEvent) (es : List RunEvent) (end : End) (Lasting : Type 0) → (end_state_after rules (next_end_state rules (live s) event) es).ended ≡ Some end → Ends rules s event es end Lasting
ends_first rules s event es end Lasting e = record { first = λ now later. by now later (rules.end_at s event) refl }
  where
    by : (rules.end_at s event ≡ Some end → Lasting) → (rules.end_at s event ≡ None → (end_state_after rules (live (rules.state_after s event)) es).ended ≡ Some end → Lasting) → (o : Option End) → rules.end_at s event ≡ o → Lasting
    by now later None is = later is (ap (λ (x : Option End). (end_state_after rules (next_end_state_by rules s event x) es).ended) (sym is) ∙ e)
    by now later (Some x) is =
        let ended : (end_state_after rules (next_end_state rules (live s) event) es).ended ≡ Some x =
        ap (λ (y : Option End). (end_state_after rules (next_end_state_by rules s event y) es).ended) is ∙ ap (λ (r : EndState _). r.ended) (ended_stays rules s x es).0 in
        now (is ∙ sym ended ∙ e)

pub server_ends : (opened : LinkParameters) (k : ClientState) (d all_up left : List FrameContent) (o : IsOpened opened) (end : End) (new : List FrameContent) (s : ServerState) (u all_down : List FrameContent) (w : Transit) (n r place : ℕ) → EndsAgree opened k s u d all_up all_down w → Guards opened k s u d all_up all_down w place → w.up ≡ new ++ left
    → n ≡ total_of sends_in u → r ≡ total_of requests_in u → IsPlace u place → IsBytes (concat (frames_at opened Initiator n r new)) → AreSome (frames_at opened Initiator n r new)
    → (end_state_after (server_rules opened) (live s) (events_of place (frames_at opened Initiator n r new))).ended ≡ Some end → EndsForCall end
server_ends opened k d all_up left o end [] s u all_down w n r place l g first sends requests at bytes some e = absurd (let wrong : None ≡ Some end = e in cc)
server_ends opened k d all_up left o end (p ∷ new) s u all_down w n r place l g first sends requests at bytes some e =
    let rules = server_rules opened in
    let frame = frame_bytes opened Initiator (written_segment n r p) in
    let later = frames_at opened Initiator (n + sends_in p) (r + requests_in p) new in
    let event = FrameReceived (frame_of frame place) in
    let es = events_of (place + length frame) later in
    let step = step_up_lem opened k s u d all_up all_down w p (new ++ left) n r place o l g first sends requests at (IsBytes_left frame (concat later) bytes) some.0 in
    (ends_first rules s event es end (EndsForCall end) e).first (λ now. step.only end now)
    (λ stays rest.
    let t = server_took opened k s u d all_up all_down w p (new ++ left) n r place l first sends requests at (IsBytes_left frame (concat later) bytes) stays in
    let after = server_state_after opened s event in
    let one = subst (λ (ps : List FrameContent). Guards opened k after (u ++ p ∷ []) d all_up (all_down ++ ps) (taken_up w (new ++ left) ps) (place + length frame)) (sym t.said_is) (step.kept stays) in
    server_ends opened k d all_up left o end new after (u ++ p ∷ []) (all_down ++ t.said) (taken_up w (new ++ left) t.said) (n + sends_in p) (r + requests_in p) (place + length frame) t.linked one refl
    (omega (arith, sends, total_append sends_in u (p ∷ []))) (omega (arith, requests, total_append requests_in u (p ∷ []))) (place_next_lem u p frame place at some.0)
    (IsBytes_right frame (concat later) bytes) some.1 rest)
