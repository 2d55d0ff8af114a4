-- A client that left its link: nothing happens at its old end but that the memory of calls is given back whose answers came.
use Rattle.std.proofs.Common.{◌≡◌, ℕ, Bool, true, false, ◌||◌, inl, inr, ◌⊎◌, List, [], ◌∷◌, ◌++◌, Option, None, Some, refl, sym, ap, subst, ◌∙◌, append_assoc}
use Rattle.std.specs.List.{AllByRecursion, Contains}
use Rattle.std.proofs.lemmas.List.Folds.{list_any-append}
use Rattle.nr_wire.specs.declared.hello.Side.TheVariants.{Initiator}
use Rattle.nr_link.specs.declared.end.End.{End}
use Rattle.nr_reduce.specs.declared.mark.Mark.{Mark}
use Rattle.nr_reduce.specs.declared.mark.LinkParameters.{LinkParameters}
use Rattle.nr_reduce.specs.History.{abandons, is_abandoned}
use Rattle.nr_reduce.specs.Events.{RunEvent, events, events_at}
use Rattle.nr_reduce.specs.Events.RunEvent.{FrameReceived, CallSubmitted, MemoryRevoked, CallExecuted, QueueWritten, ServerTold}
use Rattle.nr_reduce.specs.EndRules.{EndState, next_end_state, next_end_state_in, end_state_after}
use Rattle.nr_reduce.specs.ClientState.{ClientState}
use Rattle.nr_reduce.specs.Client.{client_end, client_state_after, client_rules, initial_client}
use Rattle.nr_reduce.specs.Run.{client}
use Rattle.nr_reduce.specs.Reopening.{HasAnswer, IsLate, IsReopened}
use Rattle.nr_reduce.specs.ReopenedLinks.{LeftLinksStay}
use Rattle.nr_reduce.proofs.GoingOn.{no_element}
use Rattle.nr_reduce.proofs.OutcomesApart.{all_more}
use Rattle.nr_reduce.proofs.Steps.{end_state_after_append, events_one}

-- ---- What is late

pub record IsRevoke (opened : LinkParameters) (link : ℕ) (before : List Mark) (e : RunEvent) : Type 0 where
  pub place : ℕ
  pub xid : ℕ
  pub is : e ≡ MemoryRevoked place xid
  pub answered : HasAnswer opened link before xid

pub late_is : (opened : LinkParameters) (link : ℕ) (before : List Mark) (e : RunEvent) → IsLate opened link before e → IsRevoke opened link before e
late_is opened link before (MemoryRevoked place xid) h = record { place = place; xid = xid; is = refl; answered = h }
late_is opened link before (FrameReceived frame) h = absurd h
late_is opened link before (CallSubmitted place call) h = absurd h
late_is opened link before (CallExecuted call) h = absurd h
late_is opened link before (QueueWritten taken) h = absurd h
late_is opened link before (ServerTold what) h = absurd h

-- ---- It takes no STag and brings no outcome.

abbrev KeepsBoth : ClientState → ClientState → Type 0
KeepsBoth k later = (later.stag ≡ k.stag) × (later.outcomes ≡ k.outcomes)

one_revoke : (opened : LinkParameters) (r : EndState ClientState) (place xid : ℕ) → KeepsBoth r.state (next_end_state (client_rules opened) r (MemoryRevoked place xid)).state
unfolding client_end client_state_after
one_revoke opened r place xid = by r.ended
  where
    by : (e : Option End) → KeepsBoth r.state (next_end_state_in (client_rules opened) r.state (MemoryRevoked place xid) e).state
    by None = (refl, refl)
    by (Some end) = (refl, refl)

all_late : (opened : LinkParameters) (link : ℕ) (before : List Mark) (r : EndState ClientState) (late : List RunEvent) → AllByRecursion (IsLate opened link before) late
    → KeepsBoth r.state (end_state_after (client_rules opened) r late).state
all_late opened link before r [] h = (refl, refl)
all_late opened link before r (e ∷ late) h =
    let v = late_is opened link before e h.0 in
    let one : KeepsBoth r.state (next_end_state (client_rules opened) r e).state =
    subst (λ (x : RunEvent). KeepsBoth r.state (next_end_state (client_rules opened) r x).state) (sym v.is) (one_revoke opened r v.place v.xid) in
    let rest = all_late opened link before (next_end_state (client_rules opened) r e) late h.1 in
    (rest.0 ∙ one.0, rest.1 ∙ one.1)

-- So a client that left a link gives no STag there, and gets no outcome.
pub client_left : (opened next_opened : LinkParameters) (link : ℕ) (run before : List Mark) → IsReopened opened next_opened link run before
    → ((client opened link run).state.stag ≡ (client opened link before).state.stag) × ((client opened link run).state.outcomes ≡ (client opened link before).state.outcomes)
unfolding client
client_left opened next_opened link run before is =
    let first : EndState ClientState = initial_client opened in
    let whole : end_state_after (client_rules opened) first (events link Initiator run) ≡ end_state_after (client_rules opened) (end_state_after (client_rules opened) first (events link Initiator before)) is.late =
    ap (λ (es : List RunEvent). end_state_after (client_rules opened) first es) is.left ∙ end_state_after_append (client_rules opened) first (events link Initiator before) is.late in
    let both = all_late opened link before (end_state_after (client_rules opened) first (events link Initiator before)) is.late is.harmless in
    (ap (λ (s : EndState ClientState). s.state.stag) whole ∙ both.0, ap (λ (s : EndState ClientState). s.state.outcomes) whole ∙ both.1)

-- ---- Before any event no answer came, so a client that left a link without one has none there.

pub nothing_late : (opened next_opened : LinkParameters) (link : ℕ) (run before : List Mark) → IsReopened opened next_opened link run before → events link Initiator before ≡ [] → events link Initiator run ≡ []
unfolding client
nothing_late opened next_opened link run before is none = is.left ∙ ap (λ (es : List RunEvent). es ++ is.late) none ∙ by is.late is.harmless
  where
    no_answer : (xid : ℕ) → HasAnswer opened link before xid → ⊥
    no_answer xid h =
        no_element h.completed
        (subst (λ (es : List RunEvent). Contains (end_state_after (client_rules opened) (initial_client opened) es).state.outcomes h.completed) none h.is_received)

    by : (late : List RunEvent) → AllByRecursion (IsLate opened link before) late → late ≡ []
    by [] h = refl
    by (e ∷ late) h = (let v = late_is opened link before e h.0 in absurd (no_answer v.xid v.answered))

-- ---- One mark more

one_of : (a b : Bool) → (a || (b || false)) ≡ true → (a ≡ true) ⊎ (b ≡ true)
one_of true b e = inl refl
one_of false true e = inr refl
one_of false false e = inl e

pub left_links_stay : LeftLinksStay
left_links_stay opened next_opened link run before mark is late given_up = record {
  after = is.after ++ mark ∷ [];
  is_cut = ap (λ (r : List Mark). r ++ mark ∷ []) is.is_cut ∙ append_assoc before is.after (mark ∷ []);
  numbered = is.numbered;
  stays = is.stays;
  late = is.late ++ events_at link Initiator run mark;
  left = events_one link Initiator run mark ∙ ap (λ (es : List RunEvent). es ++ events_at link Initiator run mark) is.left
      ∙ append_assoc (events link Initiator before) is.late (events_at link Initiator run mark);
  harmless = all_more (IsLate opened link before) is.late (events_at link Initiator run mark) is.harmless late;
  given_up = λ xid e. by xid (one_of (is_abandoned link xid run) (abandons link xid mark) (sym (list_any-append (abandons link xid) run (mark ∷ [])) ∙ e));
  next = is.next;
  stags = is.stags;
}
  where
    by : (xid : ℕ) → (is_abandoned link xid run ≡ true) ⊎ (abandons link xid mark ≡ true) → (is_abandoned link xid before ≡ true) ⊎ HasAnswer opened link before xid
    by xid (inl earlier) = is.given_up xid earlier
    by xid (inr now) = inr (given_up xid now)
