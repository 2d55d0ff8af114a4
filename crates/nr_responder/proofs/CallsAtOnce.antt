-- A Send whose call has a read list without bytes: nothing is read for it, and it is complete at once.
use Rattle.std.proofs.Common.{◌≡◌, ℕ, ◌+◌, ◌<◌, ◌≤◌, Bool, true, false, not, eqb, cond, List, [], ◌∷◌, ◌++◌, length, Option, Some, None, Ok, refl, sym, ap, subst, ◌∙◌, arith, inl, append-nil}
use Rattle.std.specs.Prelude.{find}
use Rattle.std.specs.List.{AllByRecursion, filter}
use Rattle.std.proofs.lemmas.Bool.{eq-eqb}
use Rattle.std.proofs.lemmas.List.{map-append}
use Rattle.nr_wire.specs.declared.stream.Awaited.TheVariants.{Fpdu}
use Rattle.nr_wire.specs.Constants.{OPCODE_SEND}
use Rattle.nr_wire.specs.Segment.{Segment}
use Rattle.nr_wire.specs.Segment.Segment.{Untagged}
use Rattle.nr_header.specs.declared.header.ReadSegment.{ReadSegment}
use Rattle.nr_link.specs.Frames.{Frame, is_hello}
use Rattle.nr_link.specs.Input.{InputState}
use Rattle.nr_link.specs.ReceiveState.{ReceiveState, begun_bytes}
use Rattle.nr_link.specs.Ending.{segment_taken, frame_segment}
use Rattle.nr_endpoint.specs.LinkState.{LinkState}
use Rattle.nr_endpoint.specs.SegmentEnds.{SendIsFine}
use Rattle.nr_endpoint.specs.Judging.{segment_end, next_frame, with_frame}
use Rattle.nr_endpoint.proofs.Alive.{alive_send}
use Rattle.nr_reduce.specs.declared.mark.LinkParameters.{LinkParameters}
use Rattle.nr_reduce.specs.Chunks.{call_conveyed, total_at}
use Rattle.nr_reduce.specs.OfferedRegions.{Region, region_bytes, region_bytes_by, region_grants}
use Rattle.nr_reduce.specs.StandingLaws.{StagsFrom}
use Rattle.nr_reduce.specs.Events.RunEvent.{FrameReceived}
use Rattle.nr_reduce.specs.EndRules.{EndState, live, next_end_state}
use Rattle.nr_reduce.specs.ServerState.{PendingCall, PendingRead, ReadyCall, ServerState, is_pending, next_stag}
use Rattle.nr_reduce.specs.ServerReads.{chunks_of, is_over, is_read, open_reads, reads_from, reads_of, regions_from, regions_of, sink_of, stag_by}
use Rattle.nr_reduce.specs.ServerMessages.{CallVerdict, Verdict, by_payload, pending_payload, verdict}
use Rattle.nr_reduce.specs.ServerMessages.CallVerdict.{IsReady, Refuses}
use Rattle.nr_reduce.specs.ServerMessages.Verdict.{MakesPending}
use Rattle.nr_reduce.specs.ServerFrames.{FrameEffect, by_message, frame_effect, message_effect, ready_if_whole, with_verdict}
use Rattle.nr_reduce.specs.Server.{effect_output, server_rules, with_effect}
use Rattle.nr_responder.specs.ResponderState.{ResponderSide, queued_bytes}
use Rattle.nr_responder.specs.Keeping.{IsServer, Keeps, KeepsEnd}
use Rattle.nr_responder.specs.private.CallsRead.{HasNoBytes, payload_at_once}
use Rattle.nr_responder.specs.private.Handling.{with_ready}
use Rattle.nr_responder.proofs.CallsRead.{skip_old, is_of, taken_side}
use Rattle.nr_responder.proofs.Frames.{behind, TakesFrame, later_frame}
use Rattle.nr_responder.proofs.LastResponses.{no_zero_stag}
use Rattle.nr_responder.proofs.PendingReads.{total_more}
use Rattle.nr_responder.proofs.SendFrames.{frame_lives, framed, payloads_told, told_keeps, told_server}
use Rattle.nr_responder.proofs.ServerSteps.{closed_if_over, effect_is, inline_effect, new_is_read, over_pushed, pending_effect, quiet_output, ready_call, ready_state, with_inline_call}
use Rattle.nr_responder.proofs.Whole.{begun_behind, goes_on_lem, lives_on_lem, same_message, told_framed, told_link, whole_message}

-- ---- Nothing is read

zero_total : (p : ℕ) (read : List ReadSegment) → HasNoBytes read → total_at p read ≡ 0
unfolding total_at
zero_total p [] h = refl
zero_total p (r ∷ read) h = total_more r read p h.0 (zero_total p read h.1)

pub filter_none : (read : List ReadSegment) (ps : List ℕ) → HasNoBytes read → filter (λ p. not (eqb (total_at p read) 0)) ps ≡ []
filter_none read [] h = refl
filter_none read (p ∷ ps) h =
    ap (λ (b : Bool). cond (not b) (p ∷ filter (λ p. not (eqb (total_at p read) 0)) ps) (filter (λ p. not (eqb (total_at p read) 0)) ps)) (eq-eqb (total_at p read) 0 (zero_total p read h))
    ∙ filter_none read ps h

no_reads : (regions : List Region) (n : ℕ) (before read : List ReadSegment) → HasNoBytes read → reads_from regions n before read ≡ []
no_reads regions n before [] h = refl
no_reads regions n before (r ∷ read) h =
    (λ i. cond (eq-eqb r.length 0 h.0 i) [] (record {
      number = n;
      position = r.position;
      sink = sink_of regions n r.position;
      at = total_at r.position before;
      size = r.length;
      stag = r.handle;
      to = r.offset;
    } ∷ []) ++ reads_from regions n (before ++ r ∷ []) read)
    ∙ no_reads regions n (before ++ r ∷ []) read h.1

-- a Send that comes now has no sink
no_sink : (k : ServerState) (place number position : ℕ) → AllByRecursion (λ r. r.call ≤ k.received.sends) k.regions → StagsFrom 1 k.regions → number ≡ k.received.sends + 1 →
    region_bytes (region_grants place k.regions) k.regions k.accesses_received (sink_of k.regions number position) ≡ []
unfolding region_bytes
no_sink k place number position before numbered own =
    let nothing : List Region = [] in
    let none : find (is_of number position) k.regions ≡ None =
    ap (λ (rs : List Region). find (is_of number position) rs) (sym (append-nil k.regions)) ∙ skip_old k.received.sends number position k.regions nothing before own in
    ap (λ (o : Option Region). region_bytes_by (region_grants place k.regions) k.accesses_received (find (λ r. eqb r.stag (stag_by o)) k.regions)) none
    ∙ ap (region_bytes_by (region_grants place k.regions) k.accesses_received) (no_zero_stag 0 k.regions numbered)

payload_same : (k : ServerState) (at place : ℕ) (c : PendingCall) → IsServer k at → c.number ≡ k.received.sends + 1 → pending_payload k place c ≡ payload_at_once c
unfolding pending_payload
payload_same k at place c is own = λ i. call_conveyed c.inline c.lists.read (λ position. no_sink k place c.number position is.regions_before is.numbered own i)

complete_message : (k : ServerState) (at place : ℕ) (message : List ℕ) (c : PendingCall) → IsServer k at → c.number ≡ k.received.sends + 1 → verdict k message ≡ MakesPending c → HasNoBytes c.lists.read →
    by_message k place (Some message) ≡ with_verdict (by_payload c (payload_at_once c)) (pending_effect k c)
complete_message k at place message c is own judged none =
    let chunks : chunks_of c.lists ≡ [] = filter_none c.lists.read _ none in
    let reads : k.reads ++ reads_of (k.regions ++ regions_of k place c) c ≡ k.reads =
    ap (λ (rs : List PendingRead). k.reads ++ rs) (no_reads (k.regions ++ regions_of k place c) c.number [] c.lists.read none) ∙ append-nil k.reads in
    let regions : k.regions ++ regions_of k place c ≡ k.regions =
    ap (λ (ps : List ℕ). k.regions ++ regions_from c.number place (next_stag k) c.lists ps) chunks ∙ append-nil k.regions in
    let plain : FrameEffect = pending_effect k c in
    let same : record { calls = k.calls ++ c ∷ []; reads = k.reads ++ reads_of (k.regions ++ regions_of k place c) c; regions = k.regions ++ regions_of k place c; ready = []; errors = []; kept = length (open_reads k); refusal = None } ≡ plain =
    λ i. record { calls = k.calls ++ c ∷ []; reads = reads i; regions = regions i; ready = []; errors = []; kept = length (open_reads k); refusal = None } in
    let read : is_read k.reads c.number ≡ true = ap (is_read k.reads) own ∙ new_is_read k is.reads_before in
    ap (λ (v : Verdict). message_effect k place message v) judged
    ∙ ap (λ (s : FrameEffect). ready_if_whole k place c s) same
    ∙ ap (λ (b : Bool). cond b (with_verdict (by_payload c (pending_payload k place c)) plain) plain) read
    ∙ ap (λ (p : Option (List ℕ)). with_verdict (by_payload c p) plain) (payload_same k at place c is own)

-- the payload ends the link
pub complete_refused : (k : ServerState) (at place reason : ℕ) (message : List ℕ) (c : PendingCall) → IsServer k at → c.number ≡ k.received.sends + 1 → verdict k message ≡ MakesPending c → HasNoBytes c.lists.read →
    by_payload c (payload_at_once c) ≡ Refuses reason → (by_message k place (Some message)).refusal ≡ Some reason
complete_refused k at place reason message c is own judged none refuses =
    ap (λ (s : FrameEffect). s.refusal) (complete_message k at place message c is own judged none ∙ ap (λ (v : CallVerdict). with_verdict v (pending_effect k c)) refuses)

-- ---- The frame

pub complete_takes : (opened : LinkParameters) (k : ServerState) (input : InputState) (v : ResponderSide) (frame : List ℕ) (w queue_number msn offset : ℕ) (payload : List ℕ) (c : PendingCall) (whole : List ℕ) → Keeps opened k input v → 0 < v.link.state.place → 0 < length frame →
    segment_taken false frame ≡ Ok (Untagged true OPCODE_SEND w queue_number msn offset payload) → (with_frame v.link.state Fpdu frame).ended ≡ None →
    c.number ≡ k.received.sends + 1 → is_pending k c.xid ≡ false → verdict k (whole_message v.link.state payload) ≡ MakesPending c → HasNoBytes c.lists.read → c.inline ≡ Some whole → by_payload c (payload_at_once c) ≡ IsReady (ready_call c whole) →
    TakesFrame opened k (behind input frame) (next_frame v.link.state frame) v (with_ready v (record { awaited = Fpdu; rest = []; state = told_link v.link.state frame }) c)
unfolding frame_segment
complete_takes opened k input v frame w queue_number msn offset payload c whole h behind_hello some is lives own new judged none inline ready =
    let s : LinkState = v.link.state in
    let f : Frame = next_frame s frame in
    let segment : Segment = Untagged true OPCODE_SEND w queue_number msn offset payload in
    let received : ReceiveState = record { sends = k.received.sends + 1; begun = None; requests = k.received.requests } in
    let k' : ServerState = with_inline_call k received c whole in
    let both : (segment_end s f segment ≡ None) × (with_frame s Fpdu frame ≡ framed s frame segment) = frame_lives s frame segment h.link.side is lives in
    let fine : SendIsFine s true payload = (alive_send s f true OPCODE_SEND w queue_number msn offset payload refl refl (λ e. omega (arith, e)) both.0).1 in
    let later : is_hello f ≡ false = later_frame s.place behind_hello in
    let message : verdict k (begun_bytes k.received.begun ++ payload) ≡ MakesPending c = ap (verdict k) (sym (same_message opened k s payload h.link (fine.fits refl))) ∙ judged in
    let effect : frame_effect k f ≡ inline_effect k c whole =
    effect_is k f true OPCODE_SEND w queue_number msn offset payload is
    ∙ complete_message k s.place f.end (begun_bytes k.received.begun ++ payload) c h.server own message none
    ∙ ap (λ (v : CallVerdict). with_verdict v (pending_effect k c)) ready in
    let at = goes_on_lem opened k f (inline_effect k c whole) later (lives_on_lem opened k input v frame h behind_hello some lives) effect refl in
    let closed = over_pushed k.calls c k.reads k.received.sends k.regions own h.server.regions_before h.server.closed in
    let state : with_effect k f (inline_effect k c whole) ≡ k' = ready_state k f true OPCODE_SEND w queue_number msn offset payload c whole is (closed_if_over (is_over (k.calls ++ c ∷ []) k.reads) k.regions closed) in
    let next : next_end_state (server_rules opened) (live k) (FrameReceived f) ≡ live k' = at.next ∙ ap (λ (t : ServerState). live t) state in
    let after : LinkState = taken_side s frame in
    let link : told_link s frame ≡ after = told_framed opened k s frame w queue_number msn offset payload h.link both.1 in
    let output : effect_output k (inline_effect k c whole) ≡ [] = quiet_output k in
    let keeps : Keeps opened k' (behind input frame) (with_ready v (record { awaited = Fpdu; rest = []; state = after }) c) =
    record {
      link = told_keeps opened k s frame c whole h.link h.server fine.receive;
      input = record { awaited = refl; rest = refl; place = ap (λ (n : ℕ). n + length frame) h.input.place };
      begins = begun_behind v.link after h.begins behind_hello refl (omega arith);
      server = told_server k s.place (s.place + length frame) c whole (omega arith) own new h.server;
      calls = ap (λ (cs : List PendingCall). cs ++ c ∷ []) h.calls;
      ready = ap (λ (xs : List ℕ). xs ++ c.xid ∷ []) h.ready ∙ sym (map-append (λ (r : ReadyCall). r.xid) k.ready (ready_call c whole ∷ []));
      credits = h.credits;
      reads = h.reads;
      sinks = h.sinks;
      payloads = payloads_told k.calls k.reads c whole k.ready v.fetching.payloads inline new h.server.ready h.payloads;
      quiet = λ e. absurd (omega (arith, e, behind_hello));
    } in
    let kept_now : Keeps opened k' (behind input frame) (with_ready v (record { awaited = Fpdu; rest = []; state = told_link s frame }) c) =
    subst (λ (t : LinkState). Keeps opened k' (behind input frame) (with_ready v (record { awaited = Fpdu; rest = []; state = t }) c)) (sym link) keeps in
    record {
      keeps = subst (λ (e : EndState ServerState). KeepsEnd opened e (behind input frame) (with_ready v (record { awaited = Fpdu; rest = []; state = told_link s frame }) c)) (sym next) (inl (refl, kept_now));
      output = ap (λ (t : LinkState). queued_bytes t.send_queue) link ∙ sym (append-nil (queued_bytes s.send_queue)) ∙ ap (λ (bytes : List ℕ). queued_bytes s.send_queue ++ bytes) (sym (at.due ∙ output));
    }
