-- A Send whose call is pending adds its read chunks to the regions of a server; nothing else adds one, and what is closed stays as it is.
use Rattle.std.proofs.Common.{◌≡◌, ℕ, zero, suc, ◌+◌, ◌<◌, Bool, true, false, cond, List, [], ◌∷◌, ◌++◌, length, Option, None, Some, Result, Ok, Err, refl, sym, ap, subst, ◌∙◌, arith, append-nil}
use Rattle.std.specs.Prelude.{Contains, replicate, slice_index_or}
use Rattle.std.proofs.lemmas.List.Elements.{Contains-append_left}
use Rattle.nr_header.specs.declared.header.ChunkLists.{ChunkLists}
use Rattle.nr_wire.specs.Segment.{Segment}
use Rattle.nr_wire.specs.Segment.Segment.{Tagged, Untagged}
use Rattle.nr_link.specs.Frames.{Frame, is_hello}
use Rattle.nr_link.specs.ReceiveState.{message_completed}
use Rattle.nr_link.specs.Ending.{frame_segment}
use Rattle.nr_regions.specs.declared.right.Right.TheVariants.{Sink}
use Rattle.nr_reduce.specs.declared.mark.LinkParameters.{LinkParameters}
use Rattle.nr_reduce.specs.Chunks.{total_at}
use Rattle.nr_reduce.specs.Events.{RunEvent}
use Rattle.nr_reduce.specs.Events.RunEvent.{FrameReceived, CallSubmitted, MemoryRevoked, CallExecuted, QueueWritten, ServerTold}
use Rattle.nr_reduce.specs.EndRules.{EndState, next_end_state, end_state_after}
use Rattle.nr_reduce.specs.OfferedRegions.{Region, until_at, closed_if, regions_closed}
use Rattle.nr_reduce.specs.ServerState.{ServerState, PendingCall, next_stag}
use Rattle.nr_reduce.specs.ServerReads.{chunks_of, regions_from, regions_of, is_over}
use Rattle.nr_reduce.specs.ServerMessages.{Verdict, verdict}
use Rattle.nr_reduce.specs.ServerMessages.Verdict.{EndsLink, OtherVersion, BadChunks, MakesPending}
use Rattle.nr_reduce.specs.ServerFrames.{frame_effect}
use Rattle.nr_reduce.specs.Server.{server_rules, server_state_after, initial_server, with_effect, with_own_hello}
use Rattle.nr_reduce.specs.Run.{server}
use Rattle.nr_reduce.specs.RunLaws.{server_by}
use Rattle.nr_reduce.proofs.Steps.{end_state_after_append}
use Rattle.nr_laws.specs.ServerRegions.{MakesCall, without_ends, SendsAddChunks, NothingElseAddsRegions, ClosedRegionsStay}
use Rattle.nr_laws.proofs.SendRegions.{chunks_by, chunks_of_message, chunks_in, frame_chunks, state_at, counts_or_not, counted}

-- ---- What a frame adds

ends_closed : (test : Region → Bool) (place : ℕ) (xs : List Region) → without_ends (regions_closed test place xs) ≡ without_ends xs
unfolding regions_closed
ends_closed test place [] = refl
ends_closed test place (x ∷ xs) = λ i. by (test x) i ∷ ends_closed test place xs i
  where
    by : (b : Bool) → record (closed_if b place x) { until = None } ≡ record x { until = None }
    by true = refl
    by false = refl

ends_append : (xs ys : List Region) → without_ends (xs ++ ys) ≡ without_ends xs ++ without_ends ys
ends_append [] ys = refl
ends_append (x ∷ xs) ys = ap (λ (zs : List Region). record x { until = None } ∷ zs) (ends_append xs ys)

ends_from : (number place stag : ℕ) (lists : ChunkLists) (ps : List ℕ) → without_ends (regions_from number place stag lists ps) ≡ regions_from number place stag lists ps
ends_from number place stag lists [] = refl
ends_from number place stag lists (p ∷ ps) =
    let own : Region = record { call = number; position = p; stag = stag; right = Sink; bytes = replicate (total_at p lists.read) 0; from = place; until = None } in
    ap (λ (zs : List Region). own ∷ zs) (ends_from number place (stag + 1) lists ps)

frame_adds : (opened : LinkParameters) (k : ServerState) (f : Frame) → is_hello f ≡ false → without_ends (server_state_after opened k (FrameReceived f)).regions ≡ without_ends k.regions ++ without_ends (chunks_in k f (frame_segment f))
unfolding server_state_after
frame_adds opened k f behind =
    ap (λ (b : Bool). without_ends (cond b (with_own_hello opened k f) (with_effect k f (frame_effect k f))).regions) behind
    ∙ ends_closed (is_over (frame_effect k f).calls (frame_effect k f).reads) f.end (frame_effect k f).regions
    ∙ ap without_ends (frame_chunks k f) ∙ ends_append k.regions (chunks_in k f (frame_segment f))

after_one_lem : (opened : LinkParameters) (es : List RunEvent) (e : RunEvent) → server_by opened (es ++ e ∷ []) ≡ (next_end_state (server_rules opened) (state_at opened es) e).state
after_one_lem opened es e = ap (λ (r : EndState ServerState). r.state) (end_state_after_append (server_rules opened) (initial_server opened) es (e ∷ []))

pub sends_add_chunks : SendsAddChunks
sends_add_chunks opened link run es later f c is made =
    ap (λ (s : ServerState). without_ends s.regions) (after_one_lem opened es (FrameReceived f) ∙ counted opened (state_at opened es) (FrameReceived f) made.stays)
    ∙ frame_adds opened k f made.behind_hello
    ∙ ap (λ (xs : List Region). without_ends k.regions ++ without_ends xs) same
    ∙ ap (λ (xs : List Region). without_ends k.regions ++ xs) (ends_from c.number f.end (next_stag k) c.lists (chunks_of c.lists))
  where
    k : ServerState
    k = server_by opened es

    by_segment : (s : Segment) → message_completed k.received s ≡ Some made.message → chunks_in k f (Ok s) ≡ chunks_of_message k f.end (Some made.message)
    by_segment (Tagged last opcode stag to payload) whole = absurd (let wrong : None ≡ Some made.message = whole in cc)
    by_segment (Untagged last opcode w queue msn offset payload) whole = ap (λ (o : Option (List ℕ)). chunks_of_message k f.end o) whole

    same : chunks_in k f (frame_segment f) ≡ regions_of k f.end c
    same = ap (λ (r : Result Segment ℕ). chunks_in k f r) made.is_segment ∙ by_segment made.segment made.whole ∙ ap (λ (v : Verdict). chunks_by k f.end v) made.is_pending

-- ---- What adds none

no_chunks_lem : (opened : LinkParameters) (es : List RunEvent) (f : Frame) → (next_end_state (server_rules opened) (state_at opened es) (FrameReceived f)).ended ≡ None → is_hello f ≡ false → ((c : PendingCall) → MakesCall opened es f c → ⊥)
    → (r : Result Segment ℕ) → frame_segment f ≡ r → chunks_in (server_by opened es) f r ≡ []
no_chunks_lem opened es f stays behind none (Err reason) is = refl
no_chunks_lem opened es f stays behind none (Ok (Tagged last opcode stag to payload)) is = refl
no_chunks_lem opened es f stays behind none (Ok (Untagged last opcode w queue msn offset payload)) is = by_whole (message_completed k.received segment) refl
  where
    k : ServerState
    k = server_by opened es

    segment : Segment
    segment = Untagged last opcode w queue msn offset payload

    by_verdict : (message : List ℕ) → message_completed k.received segment ≡ Some message → (v : Verdict) → verdict k message ≡ v → chunks_by k f.end v ≡ []
    by_verdict message whole (EndsLink reason) own = refl
    by_verdict message whole OtherVersion own = refl
    by_verdict message whole BadChunks own = refl
    by_verdict message whole (MakesPending c) own =
        absurd (none c (record { segment = segment; message = message; stays = stays; behind_hello = behind; is_segment = is; whole = whole; is_pending = own }))

    by_whole : (o : Option (List ℕ)) → message_completed k.received segment ≡ o → chunks_of_message k f.end o ≡ []
    by_whole None whole = refl
    by_whole (Some message) whole = by_verdict message whole (verdict k message) refl

adds_none : (opened : LinkParameters) (es : List RunEvent) (e : RunEvent) → ((f : Frame) (c : PendingCall) → e ≡ FrameReceived f → MakesCall opened es f c → ⊥) → (next_end_state (server_rules opened) (state_at opened es) e).ended ≡ None
    → without_ends (server_state_after opened (server_by opened es) e).regions ≡ without_ends (server_by opened es).regions
unfolding server_state_after
adds_none opened es (FrameReceived f) none stays = by (is_hello f) refl
  where
    k : ServerState
    k = server_by opened es

    by : (b : Bool) → is_hello f ≡ b → without_ends (cond (is_hello f) (with_own_hello opened k f) (with_effect k f (frame_effect k f))).regions ≡ without_ends k.regions
    by true is = ap (λ (b : Bool). without_ends (cond b (with_own_hello opened k f) (with_effect k f (frame_effect k f))).regions) is
    by false is =
        frame_adds opened k f is
        ∙ ap (λ (xs : List Region). without_ends k.regions ++ without_ends xs) (no_chunks_lem opened es f stays is (λ c made. none f c refl made) (frame_segment f) refl)
        ∙ append-nil (without_ends k.regions)
adds_none opened es (CallSubmitted place a) none stays = refl
adds_none opened es (MemoryRevoked place xid) none stays = refl
adds_none opened es (CallExecuted e) none stays = refl
adds_none opened es (QueueWritten taken) none stays = refl
adds_none opened es (ServerTold what) none stays = refl

pub nothing_else_adds_regions : NothingElseAddsRegions
nothing_else_adds_regions opened link run es later e is none =
    let k : ServerState = server_by opened es in
    ap (λ (s : ServerState). without_ends s.regions) (after_one_lem opened es e)
    ∙ counts_or_not opened (λ (s : ServerState). without_ends s.regions ≡ without_ends k.regions) (state_at opened es) e refl (λ stays. adds_none opened es e none stays)

-- ---- What is closed

same_closed : (b : Bool) (p place : ℕ) (r : Region) → r.until ≡ Some place → closed_if b p r ≡ r
same_closed true p place r is = λ i. record r { until = (ap (λ (u : Option ℕ). until_at p u) is ∙ sym is) i }
same_closed false p place r is = refl

closed_stays : (test : Region → Bool) (p place : ℕ) (r : Region) → r.until ≡ Some place → (k : ℕ) (xs : List Region) → k < length xs → slice_index_or xs k r ≡ r → Contains (regions_closed test p xs) r
unfolding regions_closed
closed_stays test p place r until k [] lt is = absurd (omega (arith, lt))
closed_stays test p place r until zero (x ∷ xs) lt is = (zero, omega (arith), ap (λ (y : Region). closed_if (test x) p y) is ∙ same_closed (test x) p place r until)
closed_stays test p place r until (suc k) (x ∷ xs) lt is = (let m = closed_stays test p place r until k xs (omega (arith, lt)) is in (suc m.0, (let l = m.1 in omega (arith, l)), m.2))

event_stays : (opened : LinkParameters) (k : ServerState) (e : RunEvent) (place : ℕ) (r : Region) → r.until ≡ Some place → Contains k.regions r → Contains (server_state_after opened k e).regions r
unfolding server_state_after
event_stays opened k (FrameReceived f) place r until there = by (is_hello f)
  where
    more : Contains (frame_effect k f).regions r
    more = subst (λ (xs : List Region). Contains xs r) (sym (frame_chunks k f)) (Contains-append_left k.regions (chunks_in k f (frame_segment f)) r there)

    by : (b : Bool) → Contains (cond b (with_own_hello opened k f) (with_effect k f (frame_effect k f))).regions r
    by true = there
    by false = closed_stays (is_over (frame_effect k f).calls (frame_effect k f).reads) f.end place r until more.0 (frame_effect k f).regions more.1 more.2
event_stays opened k (CallSubmitted p a) place r until there = there
event_stays opened k (MemoryRevoked p xid) place r until there = there
event_stays opened k (CallExecuted e) place r until there = there
event_stays opened k (QueueWritten taken) place r until there = there
event_stays opened k (ServerTold what) place r until there = there

stays_after : (opened : LinkParameters) (place : ℕ) (r : Region) → r.until ≡ Some place → (s : EndState ServerState) (es : List RunEvent) → Contains s.state.regions r → Contains (end_state_after (server_rules opened) s es).state.regions r
stays_after opened place r until s [] there = there
stays_after opened place r until s (e ∷ es) there =
    stays_after opened place r until (next_end_state (server_rules opened) s e) es
    (counts_or_not opened (λ (k : ServerState). Contains k.regions r) s e there (λ stays. event_stays opened s.state e place r until there))

pub closed_regions_stay : ClosedRegionsStay
unfolding server
closed_regions_stay opened link run earlier later r place is there until =
    subst (λ (x : EndState ServerState). Contains x.state.regions r)
    (sym (ap (λ (es : List RunEvent). state_at opened es) is ∙ end_state_after_append (server_rules opened) (initial_server opened) earlier later))
    (stays_after opened place r until (state_at opened earlier) later there)
