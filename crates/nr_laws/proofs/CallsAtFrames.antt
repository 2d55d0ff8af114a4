-- What is conveyed of a call at the frame that completes it, whether that ends the server or not: what its form conveys of its own
-- payload.
use Rattle.std.proofs.Common.{◌≡◌, ℕ, ◌+◌, zero, suc, ◌<◌, ◌≤◌, true, false, eqb, List, [], ◌∷◌, ◌++◌, Option, None, Some, Ok, refl, sym, ap, subst, ◌∙◌, arith}
use Rattle.std.specs.Prelude.{IfSome}
use Rattle.std.specs.List.{list_any}
use Rattle.nr_xdr.specs.Item.{IsBytes}
use Rattle.nr_xdr.specs.Fields.{word_at}
use Rattle.nr_header.specs.declared.header.ChunkLists.{ChunkLists}
use Rattle.nr_header.specs.declared.header.ReadSegment.{ReadSegment}
use Rattle.nr_header.specs.declared.header.Header.{Header}
use Rattle.nr_header.specs.Reading.{header_of}
use Rattle.nr_wire.specs.declared.hello.Side.TheVariants.{Responder}
use Rattle.nr_wire.specs.Segment.{Segment}
use Rattle.nr_link.specs.Frames.{Frame, is_hello}
use Rattle.nr_link.specs.Ending.{frame_segment, missing_access}
use Rattle.nr_reduce.specs.declared.call.Submission.TheVariants as submissions
use Rattle.nr_reduce.specs.declared.mark.Mark.{Mark}
use Rattle.nr_reduce.specs.declared.mark.Mark.TheVariants as marks
use Rattle.nr_reduce.specs.declared.mark.LinkParameters.{LinkParameters}
use Rattle.nr_reduce.specs.declared.outline.Plan.{Plan}
use Rattle.nr_reduce.specs.Plans.{entries_from, read_list, lists_of, regions_needed, HasWordPosition}
use Rattle.nr_reduce.specs.Chunks.{total_at, call_conveyed}
use Rattle.nr_reduce.specs.OfferedRegions.{Region, region_grants}
use Rattle.nr_reduce.specs.ClientState.{call_payload, stag_for}
use Rattle.nr_reduce.specs.Events.{RunEvent, events}
use Rattle.nr_reduce.specs.Events.RunEvent.{FrameReceived}
use Rattle.nr_reduce.specs.ServerState.{PendingCall, PendingRead}
use Rattle.nr_reduce.specs.ServerReads.{is_read, sink_of, reads_of, reads_from, regions_of}
use Rattle.nr_reduce.specs.ServerMessages.{verdict, pending_payload, chunk_bytes}
use Rattle.nr_reduce.specs.ServerMessages.Verdict.{MakesPending}
use Rattle.nr_link.specs.ReceiveState.{message_completed}
use Rattle.nr_reduce.specs.ServerFrames.{call_of_number, with_access}
use Rattle.nr_reduce.specs.Server.{server_rules, initial_server}
use Rattle.nr_reduce.specs.Matched.{Matched}
use Rattle.nr_reduce.specs.Asked.{AskedSoFar, IsPlannedAs}
use Rattle.nr_reduce.specs.Served.{ServedSoFar}
use Rattle.nr_reduce.specs.EndRules.{end_state_after}
use Rattle.nr_reduce.specs.Run.{client}
use Rattle.nr_reduce.specs.RunLaws.{server_by, known_stream, ends_response, IsReceivedCall}
use Rattle.nr_reduce.specs.ChunkBytes.{ChunkHolds, lists_by}
use Rattle.nr_reduce.proofs.Conveyed.{Known, known_from, each_found}
use Rattle.nr_reduce.proofs.WrittenChunks.{added_up}
use Rattle.nr_laws.proofs.LinkInvariants.{IsUnused}
use Rattle.nr_laws.specs.Payloads.{form_conveyed}
use Rattle.nr_laws.specs.RefusedMessages.{IsRefusedMessage}
use Rattle.nr_laws.specs.Typed.{TypedMark, IsTypedCall, IsTyped}
use Rattle.nr_laws.proofs.AcceptedRegions.{accepted_regions}
use Rattle.nr_laws.proofs.ClientRun.{WasSubmitted}
use Rattle.nr_laws.proofs.ConveyedCalls.{planned_fits, plan_reads}
use Rattle.nr_laws.proofs.ConveyedForms.{HasChunk, no_bytes_lem, planned_chunk, received_conveys}
use Rattle.nr_laws.proofs.EmptyChunks.{new_empty, pending_empty}
use Rattle.nr_laws.proofs.ExecutedCalls.{frame_message, received_message}
use Rattle.nr_laws.proofs.ExecutedPayloads.{IsOfPlan}
use Rattle.nr_laws.proofs.WaitingCalls.{accepted_stags, accepted_plan}
use Rattle.nr_laws.proofs.HeaderXid.{header_xid, call_xid_lem}
use Rattle.nr_laws.proofs.HeldChunks.{sink_holds}
use Rattle.nr_laws.proofs.JudgedCalls.{pending_fine, read_fine}
use Rattle.nr_laws.proofs.OnceByXid.{at_mark}
use Rattle.nr_laws.proofs.PendingSends.{verdict_new}
use Rattle.nr_laws.proofs.PlanLists.{ReadsLists}
use Rattle.nr_laws.proofs.ReadPayloads.{region_small, stag_small, read_region, region_holds, any_right, own_unread}
use Rattle.nr_laws.proofs.ServerReadsOfRuns.{verdict_lists}
use Rattle.nr_laws.proofs.SinkReads.{own_reads, total_own, reads_own}
use Rattle.nr_laws.proofs.SuitedCalls.{HasNoBytes, calls_suit_lem, IsSuited}
use Rattle.nr_laws.proofs.TotalsAtServer.{found_has}
use Rattle.std.proofs.lemmas.Bool.{not-true}
use Rattle.nr_laws.proofs.SinksKept.{total_nil}
use Rattle.nr_reduce.specs.Limits.{numbers_end}

-- ---- The chunks of a plan

-- a call that its message completes has no bytes to be read
nothing_read : (regions : List Region) (reads : List PendingRead) (c : PendingCall) (stag : ℕ) (p : Plan) → HasChunk p → c.lists.read ≡ (lists_of stag p).read → is_read (reads ++ reads_of regions c) c.number ≡ true → added_up p.read ≡ 0
unfolding lists_of
nothing_read regions reads c stag p chunk lists whole = by p.read_at refl lists
  where
    none : list_any (λ r. eqb r.number c.number) (reads_of regions c) ≡ false
    none = any_right c.number reads (reads_of regions c) (not-true (list_any (λ r. eqb r.number c.number) (reads ++ reads_of regions c)) whole)

    by : (o : Option ℕ) → p.read_at ≡ o → c.lists.read ≡ read_list stag p o → added_up p.read ≡ 0
    by None at e = ap added_up (chunk.apart at)
    by (Some position) at e =
        let same : reads_of regions c ≡ own_reads c.number position (sink_of regions c.number position) stag 0 p.read =
        ap (λ (read : List ReadSegment). reads_from regions c.number [] read) e ∙ reads_own regions c.number position stag 0 [] p.read (total_nil position) in
        own_unread c.number position (sink_of regions c.number position) stag 0 p.read (ap (list_any (λ r. eqb r.number c.number)) (sym same) ∙ none)

-- a chunk without bytes brings what its plan has of it
empty_brings : (c : PendingCall) (stag position : ℕ) (p : Plan) (bytes : List ℕ) → HasChunk p → c.lists.read ≡ entries_from position stag 0 p.read → added_up p.read ≡ 0 → (total_at position c.lists.read ≡ 0 → bytes ≡ []) → bytes ≡ p.region
empty_brings c stag position p bytes chunk lists none empty =
    empty (ap (λ (read : List ReadSegment). total_at position read) lists ∙ total_own position stag 0 p.read ∙ none) ∙ sym (no_bytes_lem p.region (chunk.size ∙ none))

plan_holds_lem : (c : PendingCall) (stag : ℕ) (p : Plan) (chunk : ℕ → List ℕ) → c.lists.read ≡ (lists_of stag p).read → ((position : ℕ) → c.lists.read ≡ entries_from position stag 0 p.read → chunk position ≡ p.region) → ChunkHolds chunk p
unfolding lists_of
plan_holds_lem c stag p chunk lists held = by p.read_at lists
  where
    by : (o : Option ℕ) → c.lists.read ≡ read_list stag p o → IfSome o (λ position. chunk position ≡ p.region)
    by None e = tt
    by (Some position) e = held position e

none_or_some : (n : ℕ) (P : Type 0) → (n ≡ 0 → P) → (0 < n → P) → P
none_or_some zero P none some = none refl
none_or_some (suc n) P none some = some (omega arith)

-- ---- What is conveyed of a call that was received

module _ (opened : LinkParameters) (link : ℕ) (run : List Mark) (typed : IsTyped run) {n : ℕ} {m : List ℕ} (w : WasSubmitted opened link run n m) where
  pub submit_typed : IsBytes (call_payload w.xid w.call) × HasWordPosition w.form × IsTypedCall w.call
  submit_typed = at_mark TypedMark run w.earlier (marks.Submit link w.call w.form (submissions.Accepted w.xid)) w.later w.is typed

  submit_plan : IsPlannedAs w.xid w.call w.form w.accepted.plan
  submit_plan = accepted_plan opened link w.earlier w.call w.form w.xid w.accepted.plan w.accepted w.accepted.planned

  submit_stags : stag_for (client opened link w.earlier).state w.xid + regions_needed w.accepted.plan ≤ numbers_end
  submit_stags = accepted_stags opened link w.earlier w.call w.form w.xid w.accepted

  submit_reads : (header : Header) → header_of m ≡ Ok header → ReadsLists (stag_for (client opened link w.earlier).state w.xid) w.accepted.plan m header
  submit_reads header is =
      let stag : ℕ = stag_for (client opened link w.earlier).state w.xid in
      let p : Plan = w.accepted.plan in
      let fine = planned_fits (call_payload w.xid w.call) w.form submit_plan.up submit_plan.down stag p submit_plan.up_fits submit_plan.planned submit_typed.0 submit_typed.1 submit_stags in
      subst (λ (x : List ℕ). ReadsLists stag p x header) (sym w.message_is)
      (plan_reads w.xid opened.wished stag p header fine.0 fine.1 w.accepted.xids (ap header_of (sym w.message_is) ∙ is))

  pub submit_xid : word_at 0 m ≡ w.xid
  submit_xid =
      let fits = w.accepted.xids in
      ap (λ (x : List ℕ). word_at 0 x) w.message_is ∙ call_xid_lem w.xid opened.wished (stag_for (client opened link w.earlier).state w.xid) w.accepted.plan (omega (arith, fits))

  -- if its chunks hold the plan's region
  submit_conveys : (c : PendingCall) (chunk : ℕ → List ℕ) (header : Header) → header_of m ≡ Ok header → c.lists ≡ lists_by header.body → c.inline ≡ known_stream m header.body
      → ((position : ℕ) → c.lists.read ≡ entries_from position (stag_for (client opened link w.earlier).state w.xid) 0 w.accepted.plan.read → chunk position ≡ w.accepted.plan.region)
      → call_conveyed c.inline c.lists.read chunk ≡ form_conveyed w.form (call_payload w.xid w.call)
  submit_conveys c chunk header is lists stream held =
      let p : Plan = w.accepted.plan in
      let stag : ℕ = (stag_for (client opened link w.earlier).state w.xid) in
      let reading = submit_reads header is in
      let of_plan : IsOfPlan stag p c = record { lists = lists ∙ reading.lists; stream = stream ∙ reading.known } in
      received_conveys (call_payload w.xid w.call) w.form submit_plan.up submit_plan.down stag p c chunk submit_typed.0 submit_typed.1 submit_plan.up_fits submit_plan.planned submit_stags of_plan (plan_holds_lem c stag p chunk (ap (λ (x : ChunkLists). x.read) of_plan.lists) held)

-- ---- At a frame

pub record ConveyedAt (opened : LinkParameters) (link : ℕ) (run : List Mark) (c : PendingCall) (payload : Option (List ℕ)) : Type 0 where
  pub index : ℕ
  pub message : List ℕ
  pub submitted : WasSubmitted opened link run index message
  pub number : c.number ≡ index + 1
  pub xid : c.xid ≡ word_at 0 message
  pub accepted : IsRefusedMessage message → ⊥
  pub conveyed : payload ≡ form_conveyed submitted.form (call_payload submitted.xid submitted.call)

module _ (opened : LinkParameters) (link : ℕ) (run : List Mark) (typed : IsTyped run) (asked : AskedSoFar opened link run) (served : ServedSoFar opened link run) (matched : Matched link run)
    (es : List RunEvent) (f : Frame) (more : List RunEvent) (segment : Segment) (all : events link Responder run ≡ es ++ FrameReceived f ∷ more) (behind : is_hello f ≡ false) (is : frame_segment f ≡ Ok segment)
    (live : (end_state_after (server_rules opened) (initial_server opened) es).ended ≡ None) where
  -- of a call that its message completes
  pub conveyed_by_message : (message : List ℕ) (c : PendingCall) → message_completed (server_by opened es).received segment ≡ Some message → verdict (server_by opened es) message ≡ MakesPending c
      → is_read ((server_by opened es).reads ++ reads_of ((server_by opened es).regions ++ regions_of (server_by opened es) f.end c) c) c.number ≡ true → ConveyedAt opened link run c (pending_payload (server_by opened es) f.end c)
  unfolding pending_payload
  conveyed_by_message message c whole v read =
      let k = server_by opened es in
      let w = frame_message opened link run typed asked matched es f more segment message all behind is whole live in
      let l = verdict_lists k message c v in
      let new = (verdict_new k message c v).0 in
      let p : Plan = w.accepted.plan in
      let stag : ℕ = (stag_for (client opened link w.earlier).state w.xid) in
      let chunk = chunk_bytes k f.end c in
      let formed = submit_plan opened link run typed w in
      let region = planned_chunk (call_payload w.xid w.call) w.form formed.up formed.down p formed.planned in
      let lists = l.lists ∙ (submit_reads opened link run typed w l.header l.is).lists in
      let none : added_up p.read ≡ 0 = nothing_read (k.regions ++ regions_of k f.end c) k.reads c stag p region (ap (λ (x : ChunkLists). x.read) lists) read in
      record {
        index = k.received.sends;
        message = message;
        submitted = w;
        number = new.number;
        xid = new.own;
        accepted = pending_fine k message c v;
        conveyed = submit_conveys opened link run typed w c chunk l.header l.is l.lists l.stream
            (λ position own. empty_brings c stag position p (chunk position) region own none (λ e. new_empty opened es f.end c position new.number));
      }

  -- and of one that the last read for it completes, if the access of the frame is allowed
  pub conveyed_by_read : missing_access (region_grants f.end (server_by opened es).regions) f segment ≡ None → (q : PendingRead) (rest : List PendingRead) (c : PendingCall) → ends_response segment ≡ true → (server_by opened es).reads ≡ q ∷ rest
      → call_of_number (server_by opened es) q.number ≡ Some c → is_read rest c.number ≡ true → ConveyedAt opened link run c (pending_payload (with_access (server_by opened es) f segment) f.end c)
  unfolding pending_payload
  conveyed_by_read allowed q rest c ends reads found read =
      let k = server_by opened es in
      let known : Known opened es k = known_from opened [] es (record { calls = tt; ready = tt }) in
      let own = each_found (IsReceivedCall opened es) q.number k.calls c known.calls found in
      let w = received_message opened link run typed asked matched c (FrameReceived f ∷ more) es all own live in
      let p : Plan = w.accepted.plan in
      let stag : ℕ = (stag_for (client opened link w.earlier).state w.xid) in
      let chunk = chunk_bytes (with_access k f segment) f.end c in
      let formed = submit_plan opened link run typed w in
      let region = planned_chunk (call_payload w.xid w.call) w.form formed.up formed.down p formed.planned in
      let regions : List Region = (client opened link run).state.regions in
      let reading = submit_reads opened link run typed w own.header own.is_header in
      let suits : IsSuited k.received.sends k.reads c = each_found (IsSuited k.received.sends k.reads) q.number k.calls c (calls_suit_lem opened es).calls_suit found in
      let number : c.number ≡ q.number = found_has (λ (x : PendingCall). x.number) q.number k.calls c found in
      let some : HasNoBytes c.lists.read → ⊥ = λ none. (subst (λ (rs : List PendingRead). IsUnused (λ (x : PendingRead). x.number) c.number rs) reads (suits.unread none)).0 (sym number) in
      let with_bytes : (position : ℕ) → c.lists.read ≡ entries_from position stag 0 p.read → 0 < added_up p.read → chunk position ≡ p.region =
      λ position lists bytes.
      let backed = read_region regions stag p bytes (accepted_regions opened link run w.earlier w.later w.call w.form w.xid typed asked w.is w.accepted) in
      sink_holds opened link run typed asked served matched es f more segment q rest c all behind is live allowed ends reads found read
      (record { position = position; handle = stag; lengths = p.read; lists = lists; some = bytes; region = p.region; size = region.size; region_fits = region_small (call_payload w.xid w.call) w.form formed.up formed.down p formed.planned; handle_fits = stag_small stag p bytes (submit_stags opened link run typed w); holds = region_holds regions stag p.region backed }) in
      let held : (position : ℕ) → c.lists.read ≡ entries_from position stag 0 p.read → chunk position ≡ p.region =
      λ position lists.
      none_or_some (added_up p.read) (chunk position ≡ p.region)
      (λ none. empty_brings c stag position p (chunk position) region lists none (λ zero_is. pending_empty opened es f segment q.number c position found zero_is)) (with_bytes position lists) in
      record {
        index = (server_by opened own.earlier).received.sends;
        message = own.message;
        submitted = w;
        number = own.number;
        xid = own.xid ∙ header_xid own.message own.header own.is_header;
        accepted = read_fine stag p own.message own.header c own.is_header own.lists own.stream reading.inline reading.lists suits.suits some;
        conveyed = submit_conveys opened link run typed w c chunk own.header own.is_header own.lists own.stream held;
      }
