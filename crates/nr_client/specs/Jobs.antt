-- A file is read by several jobs over a shared requester.
use Rattle.std.specs.Prelude.{◌≡◌, ⊤, ℕ, ◌<◌, ◌⊎◌, List, [], ◌∷◌, ◌++◌, Option, None, Some, Result, Ok, Err}
use mathlib.Core.Option.{some}
use lib.ListN.{get_elem?}
use Rattle.nr_outside.specs.Faults.{last_count}
use Rattle.nr_outside.specs.Streams.{SinkAt, SourceAt}
use Rattle.nr_nfs_base.specs.declared.attributes.Attributes.{Attributes}
use Rattle.nr_reduce.specs.declared.call.Call.{Call}
use Rattle.nr_reduce.specs.declared.call.Form.{Form}
use Rattle.nr_reduce.specs.declared.call.Form.TheVariants as forms
use Rattle.nr_reduce.specs.declared.call.Outcome.{Outcome}
use Rattle.nr_requester.specs.RequesterState.{RequesterSide}
use Rattle.nr_turnstile.specs.Rule.{Begins, IsIn}
use Rattle.nr_shared.specs.declared.call_end.CallEnd.{CallEnd}
use Rattle.nr_shared.specs.declared.entry.Entry.{Entry}
use Rattle.nr_shared.specs.declared.entry.Entry.TheVariants as entries
use Rattle.nr_shared.specs.declared.entry.InitialState.{InitialState}
use Rattle.nr_shared.specs.Ending.{IsCause}
use Rattle.nr_shared.specs.Histories.{initial_of}
use Rattle.nr_shared.specs.Opening.{GivesBack}
use Rattle.nr_client.specs.declared.client_end.ClientEnd.{ClientEnd}
use Rattle.nr_client.specs.declared.client_end.ClientEnd.TheVariants as client
use Rattle.nr_client.specs.Calls.{Answers}
use Rattle.nr_client.specs.Following.Next.{Calls}
use Rattle.nr_client.specs.LinkParts.{LinkParts}
use Rattle.nr_client.specs.Reading.{EndsAtReply, TakesRead, piece_left, read_call, reading}
use Rattle.nr_client.specs.Requests.{Asks, SinkFaults, SourceFaults, getattr_call, getattr_result}
use Rattle.nr_client.specs.Views.{LinkView, link_view}

-- the most jobs of a request
abbrev pub jobs_max : ℕ
jobs_max = 16

-- ---- Calls of a caller

-- A caller with these places made this call and was handed its outcome: the call's Submit and the Done that closes it are its own.
pub record IsExchange (seen : List Entry) (mine : List ℕ) (call : Call) (outcome : Outcome) : Type 0 where
  pub xid : ℕ
  pub at : ℕ
  pub asked : get_elem? seen at ≡ some (entries.Submit call forms.Auto xid)
  pub done : ℕ
  pub answered : get_elem? seen done ≡ some (entries.Done xid outcome at)
  pub own : IsIn at mine × IsIn done mine

-- A call has no answer, for a cause that a beginning of the history has, in which the requester was shared already.
pub record LacksAnswer (seen : List Entry) (call : Call) (end : CallEnd) : Type 0 where
  pub before : List Entry
  pub initial : InitialState
  pub is_initial : initial_of before ≡ Some initial
  pub begins : Begins before seen
  pub cause : IsCause end call forms.Auto before

-- ---- The READs of a file

-- In order of offset these are the outcomes of the calls that read a file after these outcomes. Each call follows from the outcomes before its own.
abbrev pub AreExchanges : (uid gid : ℕ) → (file : List ℕ) → (seen : List Entry) → (mine : List ℕ) → (before after : List Outcome) → Type 0
AreExchanges uid gid file seen mine before [] = ⊤
AreExchanges uid gid file seen mine before (outcome ∷ after) =
    ((call : Call) × (reading uid gid file before ≡ Calls call) × IsExchange seen mine call outcome)
    × AreExchanges uid gid file seen mine (before ++ outcome ∷ []) after

-- a READ of what is left of a piece of a file of this size, from an offset below the size on
abbrev pub IsPiece : (uid gid : ℕ) → (file : List ℕ) → (size : ℕ) → Call → Type 0
IsPiece uid gid file size call = (offset : ℕ) × ((offset < size) × (call ≡ read_call uid gid file offset (piece_left size offset)))

-- the calls that callers may make: such READs, in the form Auto
abbrev pub FileReads : (uid gid : ℕ) → (file : List ℕ) → (size : ℕ) → Call → Form → Type 0
FileReads uid gid file size call form = IsPiece uid gid file size call × (form ≡ forms.Auto)

-- How it ends after these outcomes, of which the first is GETATTR's: by the replies, or the next call has no answer.
abbrev pub EndsByJobs : (uid gid : ℕ) → (file : List ℕ) → (seen : List Entry) → List Outcome → (taken taken' : Option (List ℕ))
    → Result (Unit {0}) ClientEnd → Type 0
EndsByJobs uid gid file seen outcomes taken taken' given =
    EndsAtReply uid gid file outcomes taken taken' given
    ⊎ ((call : Call) × (end : CallEnd) × ((reading uid gid file outcomes ≡ Calls call) × ((given ≡ Err (client.Link end))
    × (LacksAnswer seen call end × TakesRead given outcomes taken taken'))))

-- After this outcome of GETATTR a file was read into an output by callers of a shared requester, whose places one caller has at the end. The output
-- took the data of the replies in order of offset, whichever job had read them.
pub record ReadsByJobs (uid gid : ℕ) (file : List ℕ) (first : Outcome) (seen : List Entry) (mine : List ℕ) (taken taken' : Option (List ℕ))
    (given : Result (Unit {0}) ClientEnd) : Type 0 where
  pub outcomes : List Outcome
  pub made : AreExchanges uid gid file seen mine (first ∷ []) outcomes
  pub ends : EndsByJobs uid gid file seen (first ∷ outcomes) taken taken' given

-- ---- A session's link, whose requester callers share

-- a link at a moment: its requester, what is known of its source and its sink, and how many bytes were read of it
abbrev pub LinkAt : Type 0
LinkAt = LinkParts SourceAt SinkAt

abbrev pub link_at : RequesterSide → SourceAt → SinkAt → ℕ → LinkAt
link_at requester source sink read = record { requester = requester; source = source; sink = sink; read = read }

-- how a session sees it
abbrev pub view_at : LinkAt → LinkView
view_at link = link_view link.source.left link.source.given link.sink.taken link.read link.requester link.source.faults link.sink.faults

-- GETATTR of a file was answered over a link with this outcome, which gives these attributes. No fault count rose.
pub record GetsAttributes (uid gid : ℕ) (file : List ℕ) (outcome : Outcome) (attributes : Attributes) (link link' : LinkAt) : Type 0 where
  pub answers : Answers (view_at link) (view_at link') (getattr_call uid gid file) outcome
  pub gives : getattr_result outcome ≡ Ok attributes
  pub source_count : link'.source.faults ≡ link.source.faults
  pub sink_count : link'.sink.faults ≡ link.sink.faults

-- GETATTR has no answer over a link, or its result is this end; or memory ran out. The fault counts rise only if it has no answer for that.
pub record GetsNoAttributes (uid gid : ℕ) (file : List ℕ) (end : ClientEnd) (link link' : LinkAt) : Type 0 where
  pub asks : Asks getattr_result (getattr_call uid gid file) (view_at link) (view_at link') (Err end)
  pub source_count : SourceFaults {A = Attributes} (Err end) link.source.faults link'.source.faults
  pub sink_count : SinkFaults {A = Attributes} (Err end) link.sink.faults link'.sink.faults

-- The requester of a link, with its source and its sink, was shared by callers that read a file of this size, which this outcome of GETATTR gave, and
-- taken back. The link, whose sink has this number, wasn't dialled again. Each call of the complete history is a READ of what is left of a piece of the
-- file (`allowed` of GivesBack). Whatever marks the requester had made, what was given back stands for those and the history's, which keep the law of its
-- side (`represents` of GivesBack).
pub record ReadsShared (uid gid : ℕ) (file : List ℕ) (first : Outcome) (size : ℕ) (link : LinkAt) (source : SourceAt) (sink : SinkAt)
    (taken taken' : Option (List ℕ)) (result : Result (Unit {0}) ClientEnd) : Type 0 where
  pub initial : InitialState
  pub seen : List Entry
  pub mine : List ℕ
  pub is_initial : initial_of seen ≡ Some initial
  pub of_requester : initial.requester ≡ link.requester
  pub of_sink : (initial.sink.taken ≡ link.sink.taken) × (initial.sink.faults ≡ link.sink.faults)
  pub once : initial.tries ≡ None
  pub requester : RequesterSide
  pub number : ℕ
  pub back : GivesBack {I = SourceAt} {O = SinkAt} {D = Unit {0}} (λ x. number) (λ x. x.left) (λ x. x.given) (λ x. x.faults) (λ x. number) (λ x. x.taken) (λ x. x.faults) (λ x. None) (λ x. None) (λ x. last_count)
      (FileReads uid gid file size) seen mine link.source tt [] link.read requester (Some (source, sink)) tt
  pub reads : ReadsByJobs uid gid file first seen mine taken taken' result

-- A file was read into an output by jobs over a link, whose source and sink came back so. GETATTR was made first. It gave no size, and nothing else was
-- done; or callers that shared the requester read the file.
pub data ReadsFileByJobs (uid gid : ℕ) (file : List ℕ) (link : LinkAt) (source : SourceAt) (sink : SinkAt) (taken taken' : Option (List ℕ))
    (result : Result (Unit {0}) ClientEnd) : Type 0 where
  NoAttributes : (link' : LinkAt) (end : ClientEnd) → GetsNoAttributes uid gid file end link link' → result ≡ Err end
      → (source ≡ link'.source) × (sink ≡ link'.sink) → taken' ≡ taken → ReadsFileByJobs uid gid file link source sink taken taken' result
  Shared : (link' : LinkAt) (outcome : Outcome) (attributes : Attributes) → GetsAttributes uid gid file outcome attributes link link'
      → ReadsShared uid gid file outcome attributes.size link' source sink taken taken' result
      → ReadsFileByJobs uid gid file link source sink taken taken' result
