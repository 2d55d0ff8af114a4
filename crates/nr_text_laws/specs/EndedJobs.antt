-- Why a `get` by several jobs ends if its path leads to a regular file.
use Rattle.std.specs.Prelude.{◌≡◌, ℕ, List, [], ◌∷◌, ◌++◌, length, Option, Result, Ok, Err}
use Rattle.nr_outside.specs.Streams.{SinkAt, SourceAt}
use Rattle.nr_reduce.specs.declared.call.Outcome.{Outcome}
use Rattle.nr_reduce.specs.declared.mark.Entry.{Entry}
use Rattle.nr_shared.specs.declared.entry.Entry.{Entry as SharedEntry}
use Rattle.nr_tree.specs.Sane.{IsSane}
use Rattle.nr_plain.specs.Setup.{Setup}
use Rattle.nr_words.specs.Lines.{Text}
use Rattle.nr_words.specs.declared.commands.GetByJobs.{GetByJobs}
use Rattle.nr_client.specs.declared.client_end.ClientEnd.{ClientEnd}
use Rattle.nr_client.specs.Dialing.{DialerAt}
use Rattle.nr_client.specs.Jobs.{AreExchanges, LinkAt, ReadsFileByJobs}
use Rattle.nr_client.specs.Jobs.ReadsFileByJobs.{NoAttributes, Shared}
use Rattle.nr_client.specs.Paths.{path_names}
use Rattle.nr_commands.specs.ByJobs.{GetsByJobs, link_of}
use Rattle.nr_commands.specs.ByJobs.GetsByJobs.{Found, NotFound, NotOpened}
use Rattle.nr_service_laws.specs.Exchanges.{Exchange}
use Rattle.nr_service_laws.specs.Exchanges.Exchange.{Answered}
use Rattle.nr_reply_laws.specs.Replies.{AreIds}
use Rattle.nr_pair_laws.specs.FilesAt.{KeepPath}
use Rattle.nr_pair_laws.specs.JobPairs.{AreJobsAnsweredFrom}
use Rattle.nr_pair_laws.specs.JobRuns.{SaysOfJobs}
use Rattle.nr_pair_laws.specs.PutThenGet.{HoldsFile, root_handle}
use Rattle.nr_text_laws.specs.EndedGets.{EndsForACause}

-- these calls of a shared requester's history, each with the outcome that its caller was handed, in order of offset
abbrev pub exchanges_of : (uid gid : ℕ) (file : List ℕ) (seen : List SharedEntry) (mine : List ℕ) (before after : List Outcome) → AreExchanges uid gid file seen mine before after → List Exchange
exchanges_of uid gid file seen mine before [] made = []
exchanges_of uid gid file seen mine before (outcome ∷ after) ((call, is, exchange), made) = Answered call outcome ∷ exchanges_of uid gid file seen mine (before ++ outcome ∷ []) after made

-- the READs of jobs that were answered and whose outcomes were used; none if the requester wasn't shared
abbrev pub reads_of_file : (uid gid : ℕ) (file : List ℕ) (link : LinkAt) (source : SourceAt) (sink : SinkAt) (taken taken' : Option (List ℕ)) (result : Result (Unit {0}) ClientEnd)
    → ReadsFileByJobs uid gid file link source sink taken taken' result → List Exchange
reads_of_file uid gid file link source sink taken taken' result (NoAttributes link' end gets is same none) = []
reads_of_file uid gid file link source sink taken taken' result (Shared link' outcome attributes gets shared) =
    exchanges_of uid gid file shared.seen shared.mine (outcome ∷ []) shared.reads.outcomes shared.reads.made

abbrev pub reads_of_jobs : (get : GetByJobs Text) (before after : DialerAt) (out out' : SinkAt) (result : Result (Unit {0}) ClientEnd) → GetsByJobs get before after out out' result → List Exchange
reads_of_jobs get before after out out' result (NotOpened end is fails same) = []
reads_of_jobs get before after out out' result (NotFound dialed s s' end opens finds is same closes) = []
reads_of_jobs get before after out out' result (Found dialed s s' file opens finds hangs) =
    reads_of_file get.uid get.gid file (link_of s') hangs.source hangs.sink out.taken out'.taken result hangs.reads

-- The same ends, and no other, for a `get` by jobs that opened a session and whose calls are answered at places of a journal (`AreJobsAnsweredFrom`, which
-- `jobs_are_served` of nr_pair_laws gives). Its calls are those that were made before the requester was shared, and the READs whose outcomes were used.
abbrev pub EndsOfJobsHaveCauses : Type 0
EndsOfJobsHaveCauses =
    (s : Setup) (J : List Entry) (get : GetByJobs Text) (before after : DialerAt) (out out' : SinkAt) (end : ClientEnd) (gets : GetsByJobs get before after out out' (Err end))
    (names : List (List ℕ)) (bytes : List ℕ) (from : ℕ) (h : HoldsFile s J names bytes from) → IsSane s.tree → AreIds get.uid get.gid → path_names get.path ≡ Ok names →
    KeepPath s J root_handle names from (length J) →
    SaysOfJobs get before after out out' (Err end) (λ dialed at source sink made history. AreJobsAnsweredFrom s J from made history →
    EndsForACause s J from get.uid get.gid get.export (made ++ reads_of_jobs get before after out out' (Err end) gets) names h.file end) gets
