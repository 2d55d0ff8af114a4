-- The marks of a `get` by several jobs and of a connection on one link are of their types.
use Rattle.std.proofs.Common.{◌≡◌, ℕ, suc, not, List, [], ◌∷◌, ◌++◌, Option, Result, Ok, Err, refl, sym, ap, subst, ◌∙◌}
use Rattle.std.specs.List.{AllByRecursion, filter, flat_map}
use Rattle.std.proofs.lemmas.List.Elements.{filter-append}
use Rattle.nr_xdr.specs.Item.{IsBytes}
use Rattle.nr_outside.specs.Streams.{SinkAt, SourceAt}
use Rattle.nr_links.specs.Links.{LinkLog}
use Rattle.nr_nfs_base.specs.declared.attributes.Attributes.{Attributes}
use Rattle.nr_reduce.specs.declared.call.Call.{Call}
use Rattle.nr_reduce.specs.declared.mark.Mark.{Mark}
use Rattle.nr_reduce.specs.declared.mark.LinkParameters.{LinkParameters}
use Rattle.nr_reduce.specs.Served.{Served}
use Rattle.nr_laws.specs.Typed.{IsTyped}
use Rattle.nr_shared.specs.declared.entry.Entry.{Entry as SharedEntry}
use Rattle.nr_shared.specs.declared.entry.Entry.TheVariants as entries
use Rattle.nr_shared.specs.Histories.{Allows, AreAllowed}
use Rattle.nr_shared.specs.OneLink.{mark_at}
use Rattle.nr_plain.specs.History.{setup_in}
use Rattle.nr_byte_laws.proofs.ByteClients.{none_again}
use Rattle.nr_client.specs.declared.client_end.ClientEnd.{ClientEnd}
use Rattle.nr_client.specs.Jobs.{FileReads, ReadsFileByJobs, view_at}
use Rattle.nr_client.specs.Jobs.ReadsFileByJobs.{NoAttributes, Shared}
use Rattle.nr_client.specs.Reading.{piece_left}
use Rattle.nr_client.specs.Requests.{getattr_call, getattr_result}
use Rattle.nr_commands.specs.ByJobs.{link_of}
use Rattle.nr_commands.specs.ByJobs.GetsByJobs.{Found, NotFound, NotOpened}
use Rattle.nr_commands.specs.Sessions.{SessionAt, sink_of, source_of}
use Rattle.nr_host.specs.Connections.{answer_of}
use Rattle.nr_host_laws.specs.OwnMarks.{own_marks}
use Rattle.nr_host_laws.proofs.TypedMarks.{RepliesInBytes, of_calls_bytes}
use Rattle.nr_service_laws.specs.ClientMarks.{AreMarksOf, moves_bytes, without_bytes}
use Rattle.nr_service_laws.specs.Exchanges.{Exchange, asked_exchanges, tells_finds}
use Rattle.nr_service_laws.specs.Exchanges.Exchange.{Answered, Forgotten, GivenUp, HandedOver, Submitted}
use Rattle.nr_service_laws.specs.ServedCommands.{client_marks}
use Rattle.nr_service_laws.proofs.ByteCalls.{AreWords, IsByteCall, getattr_is, read_is}
use Rattle.nr_service_laws.proofs.ByteCommands.{finds_bytes}
use Rattle.nr_service_laws.proofs.ByteExchanges.{AreBytes, CallsAreBytes, both_calls, first_bytes, request_bytes}
use Rattle.nr_service_laws.proofs.TypedCommands.{MarksOfBytes}
use Rattle.nr_pair_laws.specs.JobPairs.{JobsAreTyped}
use Rattle.nr_pair_laws.specs.JobRuns.{IsJobMark, IsJobsRun, SaysOfFile}
use Rattle.nr_pair_laws.specs.Pairs.{AreSidesOf}
use Rattle.nr_pair_laws.proofs.AnsweredCalls.{exchanged_in, is_exchanged}
use Rattle.nr_pair_laws.proofs.FaultCounts.{counts_of_both}
use Rattle.nr_pair_laws.proofs.JobAnswers.{job_far, run_first}
use Rattle.nr_pair_laws.proofs.JobRuns.{session_of}
use Rattle.nr_pair_laws.proofs.Pairs.{connection_replies}
use Rattle.nr_pair_laws.proofs.TypedPairs.{typed_by}

-- exchanges of calls of bytes, and then marks whose calls are of bytes if the outcomes of those are
exchanged_then : (link : ℕ) (made : List Exchange) (run rest : List Mark) → AreMarksOf link made run → CallsAreBytes made → (AreBytes made → MarksOfBytes rest) → MarksOfBytes (run ++ rest)
exchanged_then link [] run rest is h later = subst (λ (r : List Mark). MarksOfBytes (r ++ rest)) (sym is) (later tt)
exchanged_then link (Answered call outcome ∷ made) run rest (xid, more, (is, are)) h later =
    subst (λ (r : List Mark). MarksOfBytes (r ++ rest)) (sym is) (h.0, λ o. exchanged_then link made more rest are (h.1 o) (λ all. later (o, all)))
exchanged_then link (Forgotten call ∷ made) run rest (xid, more, (is, are)) h later = subst (λ (r : List Mark). MarksOfBytes (r ++ rest)) (sym is) (h.0, exchanged_then link made more rest are h.1 later)
exchanged_then link (Submitted number call ∷ made) run rest (xid, more, (is, are)) h later = subst (λ (r : List Mark). MarksOfBytes (r ++ rest)) (sym is) (h.0, exchanged_then link made more rest are h.1 later)
exchanged_then link (HandedOver number outcome ∷ made) run rest (xid, more, (is, are)) h later =
    subst (λ (r : List Mark). MarksOfBytes (r ++ rest)) (sym is) (λ o. exchanged_then link made more rest are (h o) (λ all. later (o, all)))
exchanged_then link (GivenUp number ∷ made) run rest (xid, more, (is, are)) h later = subst (λ (r : List Mark). MarksOfBytes (r ++ rest)) (sym is) (exchanged_then link made more rest are h later)

-- each call of the shared requester's history is a READ of a file whose handle is bytes
module _ (uid gid : ℕ) (file : List ℕ) (size n link : ℕ) (words : AreWords uid gid) (bytes : IsBytes file) where
  one_entry : (e : SharedEntry) (rest : List Mark) → Allows (FileReads uid gid file size) e → MarksOfBytes (without_bytes rest) → MarksOfBytes (without_bytes (mark_at n link e ++ rest))
  one_entry (entries.Submit call form xid) rest ((offset, (less, is)), auto) later = (subst IsByteCall (sym is) (read_is uid gid file offset (piece_left size offset) words bytes), later)
  one_entry (entries.Initial initial) rest allowed later = later
  one_entry (entries.Wrote moved) rest allowed later = later
  one_entry (entries.Fed moved previous) rest allowed later = later
  one_entry (entries.Done xid outcome submit) rest allowed later = λ o. later
  one_entry (entries.Lost xid submit) rest allowed later = later
  one_entry (entries.Forget xid submit) rest allowed later = later
  one_entry (entries.Revoke xid held submit) rest allowed later = later
  one_entry entries.WriteFailed rest allowed later = later
  one_entry (entries.Stopped cause previous) rest allowed later = later
  one_entry (entries.OutOfMemory piece previous) rest allowed later = later
  one_entry (entries.Rejoin sink previous) rest allowed later = later

  all_entries : (history : List SharedEntry) → AreAllowed (FileReads uid gid file size) history → MarksOfBytes (without_bytes (flat_map (mark_at n link) history))
  all_entries [] allowed = tt
  all_entries (e ∷ history) allowed = one_entry e (flat_map (mark_at n link) history) (allowed 0 e refl) (all_entries history (λ k x at. allowed (suc k) x at))

-- a run of a `get` by jobs whose calls are of bytes, and that of a connection
job_typed : (opened : LinkParameters) (link : ℕ) (own : List Mark) → Served opened link own
    → (s : SessionAt) (source : SourceAt) (sink : SinkAt) (log log' : Option LinkLog) (result : Result (Unit {0}) ClientEnd) (made : List Exchange) (history : List SharedEntry)
    (ran : IsJobsRun opened link s source sink log log' result made history) → CallsAreBytes made → (AreBytes made → (k : ℕ) → MarksOfBytes (without_bytes (flat_map (mark_at k link) history)))
    → (both : List Mark) → AreSidesOf link ran.run own both → RepliesInBytes (flat_map answer_of (own_marks link both)) → IsTyped both
job_typed opened link own law s source sink log log' result made history ran calls reads both sides replies =
    let b = job_far opened link ran.run own both ran.own ran.asked sides law in
    let later = flat_map (mark_at ran.fed link) history in
    let marks = exchanged_then link made (without_bytes ran.alone) (without_bytes later) ran.marks_are calls (λ all. reads all ran.fed) in
    let parts : client_marks link both ≡ ran.alone ++ later = sides.client_side ∙ ran.run_is ∙ run_first ran.alone ran.fed link history in
    let kept : filter (is_exchanged link) both ≡ without_bytes ran.alone ++ without_bytes later =
    sym (exchanged_in link both) ∙ ap (λ (r : List Mark). without_bytes r) parts ∙ filter-append (λ (m : Mark). not (moves_bytes m)) ran.alone later in
    typed_by opened link both (none_again opened ran.first_link.resumed) b.far replies
    (subst (λ (r : List Mark). AllByRecursion (IsJobMark link) r) (sym sides.client_side) ran.own) (subst (λ (r : List Mark). MarksOfBytes r) (sym kept) marks) sides.no_others

pub jobs_are_typed_lem : JobsAreTyped
jobs_are_typed_lem limits first J opened link outside outside' end connection get before after out out' result (NotOpened why is fails same) of tree entries = tt
jobs_are_typed_lem limits first J opened link outside outside' end connection get before after out out' result (NotFound dialed s s' why opens finds is same closes) of tree entries = λ ran both sides.
    let made = (tells_finds get.uid get.gid get.export get.path s s' (Err why) finds).made in
    let finding = finds_bytes get.uid get.gid get.export get.path (of.uid, of.gid) of.export of.path s s' (Err why) finds in
    job_typed opened link connection.ended.run connection.served s (source_of s') (sink_of s') dialed.ended after.ended result
    made [] ran finding.0 (λ all k. tt) both sides (connection_replies limits first J opened link outside outside' end connection both sides.server_side tree (of_calls_bytes (setup_in first) [] J entries))
jobs_are_typed_lem limits first J opened link outside outside' end connection get before after out out' result (Found dialed s s' file opens finds hangs) of tree entries = by hangs.reads
  where
    found : List Exchange
    found = (tells_finds get.uid get.gid get.export get.path s s' (Ok file) finds).made

    call : Call
    call = getattr_call get.uid get.gid file

    typed : (made : List Exchange) (history : List SharedEntry) (ran : IsJobsRun opened link s hangs.source hangs.sink dialed.ended after.ended result made history) → CallsAreBytes made
        → (AreBytes made → (k : ℕ) → MarksOfBytes (without_bytes (flat_map (mark_at k link) history))) → (both : List Mark) → AreSidesOf link ran.run connection.ended.run both → IsTyped both
    typed made history ran calls reads both sides =
        job_typed opened link connection.ended.run connection.served s hangs.source hangs.sink dialed.ended after.ended result made history ran calls reads both sides
        (connection_replies limits first J opened link outside outside' end connection both sides.server_side tree (of_calls_bytes (setup_in first) [] J entries))

    finding : CallsAreBytes found × (AreBytes found → IsBytes file)
    finding = let is = finds_bytes get.uid get.gid get.export get.path (of.uid, of.gid) of.export of.path s s' (Ok file) finds in (is.0, λ all. is.1 all file refl)

    asks : AreBytes found → IsByteCall call
    asks all = getattr_is get.uid get.gid file (of.uid, of.gid) (finding.1 all)

    by : (reads : ReadsFileByJobs get.uid get.gid file (link_of s') hangs.source hangs.sink out.taken out'.taken result)
        → SaysOfFile (λ source sink made history. (ran : IsJobsRun opened link s source sink dialed.ended after.ended result made history) → (both : List Mark) → AreSidesOf link ran.run connection.ended.run both →
        IsTyped both) (tells_finds get.uid get.gid get.export get.path s s' (Ok file) finds).made get.uid get.gid file s' hangs.source hangs.sink out.taken out'.taken result reads
    by (NoAttributes mid why gets is same none) = λ ran both sides.
        let asked = (asked_exchanges getattr_result call (view_at (link_of s')) (view_at mid) (Err why) gets.asks).made in
        let of_asked : AreBytes found → CallsAreBytes asked =
        (λ all. (request_bytes (λ (value : Attributes). Unit {0}) getattr_result call (asks all) (λ outcome value o e. tt) s' (session_of mid) (Err why) (gets.asks, counts_of_both {A = Attributes} (Err why) s' (session_of mid) gets.source_count gets.sink_count)).0) in
        typed (found ++ asked) [] ran (both_calls found asked finding.0 of_asked) (λ all k. tt) both sides
    by (Shared mid outcome attributes gets shared) = λ ran both sides.
        let asked = Answered call outcome ∷ [] in
        let reads : AreBytes (found ++ asked) → (k : ℕ) → MarksOfBytes (without_bytes (flat_map (mark_at k link) shared.back.history)) =
        (λ all k. all_entries get.uid get.gid file attributes.size k link (of.uid, of.gid) (finding.1 (first_bytes found asked all)) shared.back.history shared.back.allowed) in
        typed (found ++ asked) shared.back.history ran (both_calls found asked finding.0 (λ all. (asks all, λ o. tt))) reads both sides
