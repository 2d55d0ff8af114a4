-- On a link with nothing left to do, nothing is queued or in transit; so no call is outstanding, and each has its outcome.
use Rattle.std.proofs.Common.{◌≡◌, ℕ, ◌+◌, ◌<◌, Bool, true, false, cond, not, ◌||◌, eqb, List, [], ◌∷◌, ◌++◌, length, map, filter, None, refl, sym, ap, subst, ◌∙◌, arith, append_assoc, append-nil, length-append}
use Rattle.std.specs.Prelude.{slice_get, Contains}
use Rattle.std.specs.List.{concat, flat_map, AllByRecursion}
use Rattle.std.proofs.lemmas.Bool.{eqb-true}
use Rattle.std.proofs.lemmas.List.Elements.{All-contains, All-from_recursion, Contains-append_left, Contains-append_right, Contains-push}
use Rattle.nr_wire.specs.declared.hello.Side.{Side}
use Rattle.nr_wire.specs.declared.hello.Side.TheVariants.{Initiator, Responder}
use Rattle.nr_wire.specs.declared.stream.Awaited.{Awaited}
use Rattle.nr_wire.specs.declared.stream.Awaited.TheVariants.{Hello as HelloFrom, Fpdu}
use Rattle.nr_wire.specs.Stream.{Split, split, AreFrames, awaited_after}
use Rattle.nr_wire.proofs.Splits.{split_frames}
use Rattle.nr_reduce.specs.declared.mark.Mark.{Mark}
use Rattle.nr_reduce.specs.declared.mark.LinkParameters.{LinkParameters}
use Rattle.nr_reduce.specs.History.{AcceptedCall, CompletedCall, accepted_calls, completed_calls, bytes_sent, bytes_received, is_abandoned}
use Rattle.nr_reduce.specs.EndRules.{EndState}
use Rattle.nr_reduce.specs.ClientState.{ClientState, OutstandingCall}
use Rattle.nr_reduce.specs.ServerState.{ServerState, ReadyCall}
use Rattle.nr_reduce.specs.Run.{client, output_due, end_of_side}
use Rattle.nr_reduce.specs.Credits.{calls_outstanding}
use Rattle.nr_reduce.specs.OutcomesDue.{outcomes_due, outcomes_of_call, is_completed}
use Rattle.nr_reduce.specs.Asked.{Asked}
use Rattle.nr_reduce.specs.Served.{Served, first_ready, next_call}
use Rattle.nr_reduce.specs.Matched.{Matched}
use Rattle.nr_laws.specs.Typed.{IsTyped}
use Rattle.nr_laws.specs.Completion.{IsQuiescent, IsAwaitedStill, HasOutcome, CallsComplete}
use Rattle.nr_laws.proofs.FrameContents.{FrameContent, written_segment, output_bytes, total_of, hellos_in, sends_in, requests_in}
use Rattle.nr_laws.proofs.LinkInvariants.{Transit, TotalsAgree}
use Rattle.nr_laws.proofs.StreamFrames.{AreWritableFrom, proper_frame, IsOf, frames_at, length_frames, spelled_concat}
use Rattle.nr_laws.proofs.Writable.{IsOutput, stream_proper, stream_left}
use Rattle.nr_laws.proofs.NothingLeft.{nothing_in_transit, quiet}
use Rattle.nr_laws.proofs.EachRun.{joins}
use Rattle.nr_laws.proofs.AgreeingEnds.{EndsAgree}
use Rattle.nr_laws.proofs.ClientStep.{has_hello_lem}
use Rattle.nr_laws.proofs.ResentCalls.{none_waits_still}
use Rattle.nr_laws.proofs.AccountedCalls.{IsAccounted, is_outstanding, has_outcome}
use Rattle.nr_laws.proofs.AccountedRuns.{gone_in, accounts}

-- ---- A stream determines its frames

are_frames : (opened : LinkParameters) (side : Side) (a : Awaited) (n r : ℕ) (ps : List FrameContent) → IsOf side a → AreWritableFrom a n r ps → AreFrames a (frames_at opened side n r ps)
are_frames opened side a n r [] of h = tt
are_frames opened side a n r (p ∷ ps) of h = (proper_frame opened side a (written_segment n r p) of h.0, are_frames opened side Fpdu (n + sends_in p) (r + requests_in p) ps tt h.1)

split_none : (a : Awaited) → (split a []).frames ≡ []
unfolding split
split_none a = refl

stream_frames : (opened : LinkParameters) (side : Side) (ps : List FrameContent) → IsOutput ps → (split (HelloFrom side) (output_bytes opened side 0 0 ps)).frames ≡ frames_at opened side 0 0 ps
stream_frames opened side ps h =
    let a = HelloFrom side in
    let fs = frames_at opened side 0 0 ps in
    ap (λ (xs : List ℕ). (split a xs).frames) (spelled_concat opened side 0 0 ps ∙ sym (append-nil (concat fs)))
    ∙ ap (λ (s : Split). s.frames) (split_frames a fs [] (are_frames opened side a 0 0 ps refl (stream_proper side ps h)))
    ∙ ap (λ (xs : List (List ℕ)). fs ++ xs) (split_none (awaited_after a fs)) ∙ append-nil fs

as_many_lem : (opened : LinkParameters) (side : Side) (ps qs : List FrameContent) → frames_at opened side 0 0 ps ≡ frames_at opened side 0 0 qs → length ps ≡ length qs
as_many_lem opened side ps qs e = sym (length_frames opened side 0 0 ps) ∙ ap (λ (fs : List (List ℕ)). length fs) e ∙ length_frames opened side 0 0 qs

nothing_behind : (ps qs : List FrameContent) → length ps ≡ length (ps ++ qs) → qs ≡ []
nothing_behind ps [] e = refl
nothing_behind ps (q ∷ qs) e = absurd (omega (arith, e, length-append ps (q ∷ qs)))

-- all that was sent was received
record AllArrived (u all : List FrameContent) (under_way queued : List FrameContent) : Type 0 where
  under_way_none : under_way ≡ []
  queued_none : queued ≡ []

empties : (opened : LinkParameters) (side : Side) (received sent due : List ℕ) (u under_way queued all : List FrameContent) → IsOutput all → u ++ (under_way ++ queued) ≡ all → (split (HelloFrom side) received).frames ≡ frames_at opened side 0 0 u
    → sent ≡ output_bytes opened side 0 0 (u ++ under_way) → due ≡ output_bytes opened side 0 0 all → received ≡ sent → sent ≡ due → AllArrived u all under_way queued
empties opened side received sent due u under_way queued all stream parts frames is_sent is_due got wrote =
    let front : IsOutput (u ++ under_way) = stream_left (u ++ under_way) queued (subst IsOutput (sym parts ∙ sym (append_assoc u under_way queued)) stream) in
    let one : frames_at opened side 0 0 u ≡ frames_at opened side 0 0 (u ++ under_way) =
    sym frames ∙ ap (λ (xs : List ℕ). (split (HelloFrom side) xs).frames) (got ∙ is_sent) ∙ stream_frames opened side (u ++ under_way) front in
    let two : frames_at opened side 0 0 (u ++ under_way) ≡ frames_at opened side 0 0 all =
    sym (stream_frames opened side (u ++ under_way) front) ∙ ap (λ (xs : List ℕ). (split (HelloFrom side) xs).frames) (sym is_sent ∙ wrote ∙ is_due) ∙ stream_frames opened side all stream in
    record {
      under_way_none = nothing_behind u under_way (as_many_lem opened side u (u ++ under_way) one);
      queued_none = nothing_behind (u ++ under_way) queued (as_many_lem opened side (u ++ under_way) all two ∙ ap (λ (ps : List FrameContent). length ps) (sym parts ∙ sym (append_assoc u under_way queued)));
    }

none_ready : (ready : List ReadyCall) → slice_get ready 0 ≡ None → ready ≡ []
none_ready [] e = refl
none_ready (r ∷ ready) e = absurd cc

-- no call is outstanding, and the client has the hello
record NoneOutstanding (k : ClientState) : Type 0 where
  none : k.outstanding ≡ []
  greeted : k.has_hello ≡ true

all_arrived : (u under_way queued all : List FrameContent) → AllArrived u all under_way queued → u ++ (under_way ++ queued) ≡ all → u ≡ all
all_arrived u under_way queued all h parts = sym (append-nil u) ∙ (λ i. u ++ (sym h.under_way_none i ++ sym h.queued_none i)) ∙ parts

greeted_client : (opened : LinkParameters) (k : ClientState) (s : ServerState) (u d all_up all_down : List FrameContent) (w : Transit) → EndsAgree opened k s u d all_up all_down w → 0 < total_of hellos_in d → k.has_hello ≡ true
greeted_client opened k s u [] all_up all_down w l some = absurd (omega (arith, some))
greeted_client opened k s u (q ∷ d) all_up all_down w l some = has_hello_lem opened k s u q d all_up all_down w l

none_outstanding_lem : (opened : LinkParameters) (link : ℕ) (run : List Mark) → IsTyped run → Asked opened link run → Served opened link run → Matched link run → IsQuiescent opened link run → NoneOutstanding (client opened link run).state
unfolding end_of_side next_call
none_outstanding_lem opened link run typed asked served matched settled =
    let j = joins opened link run asked.each served.each matched typed settled.client_stays settled.server_stays in
    let up = empties opened Initiator (bytes_received link Responder run) (bytes_sent link Initiator run) (output_due opened link Initiator run) j.u j.w.up j.w.queued_up j.all_up
    j.linked.stream_up j.linked.parts_up j.frames_up j.sent_up j.due_up settled.nothing_waits.up asked.written in
    let down = empties opened Responder (bytes_received link Initiator run) (bytes_sent link Responder run) (output_due opened link Responder run) j.d j.w.down j.w.queued_down j.all_down
    j.linked.stream_down j.linked.parts_down j.frames_down j.sent_down j.due_down settled.nothing_waits.down served.written in
    let way : j.w ≡ nothing_in_transit = λ i. record { queued_up = up.queued_none i; up = up.under_way_none i; queued_down = down.queued_none i; down = down.under_way_none i } in
    let ready : j.s.ready ≡ [] = none_ready j.s.ready (ap (λ (r : EndState ServerState). first_ready r.state.ready r.ended) (sym j.server_is) ∙ settled.nothing_waits.executed) in
    let hellos : 0 < total_of hellos_in j.d = omega (
      arith,
      j.linked.begins_up,
      j.linked.hellos_down,
      ap (total_of hellos_in) (all_arrived j.u j.w.up j.w.queued_up j.all_up up j.linked.parts_up),
      ap (total_of hellos_in) (all_arrived j.d j.w.down j.w.queued_down j.all_down down j.linked.parts_down),
    ) in
    record {
      none = ap (λ (r : EndState ClientState). r.state.outstanding) j.client_is
          ∙ quiet opened j.k j.s (subst (λ (w : Transit). TotalsAgree j.k j.s w) way j.linked.counts) j.linked.waits.ready_calls ready;
      greeted = ap (λ (r : EndState ClientState). r.state.has_hello) j.client_is ∙ greeted_client opened j.k j.s j.u j.d j.all_up j.all_down j.w j.linked hellos;
    }

-- ---- The outcome of each call

some_outcome : (calls : List CompletedCall) (xid : ℕ) → has_outcome calls xid ≡ true → HasOutcome calls xid
some_outcome [] xid e = absurd cc
some_outcome (c ∷ calls) xid e = by (eqb c.xid xid) refl e (some_outcome calls xid)
  where
    by : (b : Bool) → eqb c.xid xid ≡ b → (b || has_outcome calls xid) ≡ true → (has_outcome calls xid ≡ true → HasOutcome calls xid) → HasOutcome (c ∷ calls) xid
    by true is e rest =
        let same : c ≡ record { xid = xid; outcome = c.outcome } = λ i. record { xid = eqb-true c.xid xid is i; outcome = c.outcome } in
        (c.outcome, subst (λ (x : CompletedCall). Contains (c ∷ calls) x) same (Contains-append_left (c ∷ []) calls c (Contains-push [] c)))
    by false is e rest =
        let later = rest e in
        (later.0, Contains-append_right (c ∷ []) calls (record { xid = xid; outcome = later.0 }) later.1)

of_calls : (P : ℕ → Type 0) (calls : List AcceptedCall) → AllByRecursion P (map (λ (a : AcceptedCall). a.xid) calls) → AllByRecursion (λ (a : AcceptedCall). P a.xid) calls
of_calls P [] h = tt
of_calls P (a ∷ calls) h = (h.0, of_calls P calls h.1)

of_call_lem : (P : ℕ → Type 0) (calls : List AcceptedCall) (a : AcceptedCall) → AllByRecursion P (map (λ (c : AcceptedCall). c.xid) calls) → Contains calls a → P a.xid
of_call_lem P calls a h there = All-contains (λ (c : AcceptedCall). P c.xid) calls a (All-from_recursion (λ (c : AcceptedCall). P c.xid) calls (of_calls P calls h)) there

left_over : (b c : Bool) → (b || c) ≡ true → c ≡ false → b ≡ true
left_over true c e none = refl
left_over false true e none = absurd cc
left_over false false e none = absurd cc

outcome_of : (opened : LinkParameters) (link : ℕ) (run : List Mark) → (client opened link run).ended ≡ None → (client opened link run).state.outstanding ≡ [] → (a : AcceptedCall) → IsAwaitedStill link run a → has_outcome (client opened link run).state.outcomes a.xid ≡ true
outcome_of opened link run stays none a kept =
    let k = (client opened link run).state in
    let h = of_call_lem (IsAccounted (gone_in link run) k) (accepted_calls link run) a (accounts opened link run stays).each kept.accepted in
    left_over (has_outcome k.outcomes a.xid) (gone_in link run a.xid)
    (ap (λ (os : List OutstandingCall). is_outstanding os a.xid || (has_outcome k.outcomes a.xid || gone_in link run a.xid)) (sym none) ∙ h) kept.kept

-- ---- What is handed over

none_both : {A : Type 0} (xs ys : List A) → xs ++ ys ≡ [] → (xs ≡ []) × (ys ≡ [])
none_both [] ys e = (refl, e)
none_both (x ∷ xs) ys e = absurd cc

filter_append : {A : Type 0} (p : A → Bool) (xs ys : List A) → filter p (xs ++ ys) ≡ filter p xs ++ filter p ys
filter_append p [] ys = refl
filter_append p (x ∷ xs) ys = by (p x) (filter_append p xs ys)
  where
    by : (b : Bool) → filter p (xs ++ ys) ≡ filter p xs ++ filter p ys → cond b (x ∷ filter p (xs ++ ys)) (filter p (xs ++ ys)) ≡ cond b (x ∷ filter p xs) (filter p xs) ++ filter p ys
    by true e = ap (λ (zs : List _). x ∷ zs) e
    by false e = e

none_each : {X A : Type 0} (p : A → Bool) (f : X → List A) (xs : List X) → filter p (flat_map f xs) ≡ [] → AllByRecursion (λ (x : X). filter p (f x) ≡ []) xs
none_each p f [] e = tt
none_each p f (x ∷ xs) e =
    let both = none_both (filter p (f x)) (filter p (flat_map f xs)) (sym (filter_append p (f x) (flat_map f xs)) ∙ e) in
    (both.0, none_each p f xs both.1)

tested : (g : ℕ → Bool) (xid : ℕ) (calls : List CompletedCall) → filter (λ (c : CompletedCall). not (g c.xid)) (filter (λ (c : CompletedCall). eqb c.xid xid) calls) ≡ [] → has_outcome calls xid ≡ true → g xid ≡ true
tested g xid [] e some = absurd cc
tested g xid (c ∷ calls) e some = by (eqb c.xid xid) refl e some (tested g xid calls)
  where
    rest : List CompletedCall
    rest = filter (λ (x : CompletedCall). eqb x.xid xid) calls

    passed : (b : Bool) (more : List CompletedCall) → cond (not b) (c ∷ more) more ≡ [] → b ≡ true
    passed true more e = refl
    passed false more e = absurd cc

    by : (b : Bool) → eqb c.xid xid ≡ b → filter (λ (x : CompletedCall). not (g x.xid)) (cond b (c ∷ rest) rest) ≡ [] → (b || has_outcome calls xid) ≡ true
        → (filter (λ (x : CompletedCall). not (g x.xid)) rest ≡ [] → has_outcome calls xid ≡ true → g xid ≡ true) → g xid ≡ true
    by true is e some later = ap g (sym (eqb-true c.xid xid is)) ∙ passed (g c.xid) (filter (λ (x : CompletedCall). not (g x.xid)) rest) e
    by false is e some later = later e some

other_of : (b c : Bool) → (b || c) ≡ true → b ≡ false → c ≡ true
other_of true c e none = absurd cc
other_of false c e none = e

handed_over_lem : (opened : LinkParameters) (link : ℕ) (run : List Mark) → outcomes_due opened link run ≡ [] → (a : AcceptedCall) → IsAwaitedStill link run a → has_outcome (client opened link run).state.outcomes a.xid ≡ true → has_outcome (completed_calls link run) a.xid ≡ true
unfolding outcomes_due
handed_over_lem opened link run none a kept some =
    let outs = (client opened link run).state.outcomes in
    let g : ℕ → Bool = λ x. is_abandoned link x run || is_completed link x run in
    let each = none_each (λ (c : CompletedCall). not (g c.xid)) (outcomes_of_call outs) (accepted_calls link run) none in
    let one : filter (λ (c : CompletedCall). not (g c.xid)) (outcomes_of_call outs a) ≡ [] =
    All-contains (λ (x : AcceptedCall). filter (λ (c : CompletedCall). not (g c.xid)) (outcomes_of_call outs x) ≡ []) (accepted_calls link run) a
    (All-from_recursion (λ (x : AcceptedCall). filter (λ (c : CompletedCall). not (g c.xid)) (outcomes_of_call outs x) ≡ []) (accepted_calls link run) each) kept.accepted in
    other_of (is_abandoned link a.xid run) (is_completed link a.xid run) (tested g a.xid outs one some) kept.kept

pub calls_complete_lem : CallsComplete
unfolding end_of_side calls_outstanding
calls_complete_lem opened link run typed asked served matched settled =
    let left = none_outstanding_lem opened link run typed asked served matched settled in
    let none = left.none in
    record {
      none_outstanding = ap (λ (os : List OutstandingCall). length os) none;
      none_waits = none_waits_still opened link run settled.client_stays left.greeted none asked.none_left;
      has_outcome = λ a kept. some_outcome (client opened link run).state.outcomes a.xid (outcome_of opened link run settled.client_stays none a kept);
      has_done = λ due a kept. some_outcome (completed_calls link run) a.xid (handed_over_lem opened link run due a kept (outcome_of opened link run settled.client_stays none a kept));
    }
