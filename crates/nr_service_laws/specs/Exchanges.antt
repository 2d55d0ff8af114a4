-- The calls that were submitted, and the outcomes that were handed over, by what the contracts of a session say.
use Rattle.std.specs.Prelude.{ℕ, Bool, true, false, List, [], ◌∷◌, ◌++◌, length, map, nat_lt, Option, None, Some, Result, Ok, Err, MatchBool}
use Rattle.std.specs.List.{flat_map}
use mathlib.Core.Logic.{inl, inr}
use Rattle.nr_outside.specs.Streams.{SinkAt, SourceAt}
use Rattle.nr_nfs_base.specs.Limits.{link_target_max}
use Rattle.nr_words.specs.Limits.{mount_path_max}
use Rattle.nr_words.specs.Lines.{Text}
use Rattle.nr_words.specs.declared.commands.Action.{Action}
use Rattle.nr_words.specs.declared.commands.Action.TheVariants as actions
use Rattle.nr_reduce.specs.declared.call.Call.{Call}
use Rattle.nr_reduce.specs.declared.call.Outcome.{Outcome}
use Rattle.nr_shared.specs.declared.call_end.CallEnd.{CallEnd}
use Rattle.nr_client.specs.declared.client_end.ClientEnd.{ClientEnd}
use Rattle.nr_client.specs.declared.client_end.ClientEnd.TheVariants as client
use Rattle.nr_client.specs.Calls.{GivesUp}
use Rattle.nr_client.specs.Following.{EndsWith, Follows, MakesCalls, Next, Unanswered}
use Rattle.nr_client.specs.Following.Next.{Calls, Returns}
use Rattle.nr_client.specs.Listing.{list_next}
use Rattle.nr_client.specs.Reading.{EndsReading, LeadsBy, OpenRead, ReadStep, ReadingAt, ReadsFile, starts_at, xids_of}
use Rattle.nr_client.specs.Reading.ReadStepOver.{MakesAlone, AsksAhead, TakesOldest, Looks}
use Rattle.nr_client.specs.Reading.EndsReadingOver.{EndsByReplies, OutputFails, NotAnswered, NotSubmitted, OldestForgotten}
use Rattle.nr_client.specs.Requests.{Asks, create_result, getattr_call, getattr_result, mkdir_call, mnt_call, mnt_result, readlink_call, readlink_result, remove_call, remove_result, symlink_call}
use Rattle.nr_client.specs.Views.{LinkView}
use Rattle.nr_client.specs.Walking.{parent_next, walk_next}
use Rattle.nr_client.specs.Writing.{EndsWriting, WritesFile, writing}
use Rattle.nr_client.specs.Writing.EndsWritingOver.{FollowsInput, InputFails}
use Rattle.nr_commands.specs.Commands.{Finds, FindsParent, Gets, Lists, MakesDirectory, MakesSymlink, Mounts, MountsAndPrints, Puts, ReadsLink, ReadsOut, Removes, Stats, Symlinks, WritesIn}
use Rattle.nr_commands.specs.Printed.{attributes_text, handle_text, names_text, path_text}
use Rattle.nr_commands.specs.Running.{text_of}
use Rattle.nr_commands.specs.Sessions.{Fails, Part, Request, Requests, SessionAt, Text as Prints, Then}

-- What a request does with a call: it is submitted and its outcome handed over, or it is forgotten, before any other call is submitted or handed
-- over. Or each of these apart, of a call that was submitted under this xid, beside others.
pub data Exchange : Type 0 where
  Answered : (call : Call) → (outcome : Outcome) → Exchange
  Forgotten : (call : Call) → Exchange
  Submitted : (xid : ℕ) → (call : Call) → Exchange
  HandedOver : (xid : ℕ) → (outcome : Outcome) → Exchange
  GivenUp : (xid : ℕ) → Exchange

-- the call that is submitted, and the outcome that is handed over
abbrev pub exchange_calls : Exchange → List Call
exchange_calls (Answered call outcome) = call ∷ []
exchange_calls (Forgotten call) = call ∷ []
exchange_calls (Submitted xid call) = call ∷ []
exchange_calls (HandedOver xid outcome) = []
exchange_calls (GivenUp xid) = []

abbrev pub exchange_outcomes : Exchange → List Outcome
exchange_outcomes (Answered call outcome) = outcome ∷ []
exchange_outcomes (Forgotten call) = []
exchange_outcomes (Submitted xid call) = []
exchange_outcomes (HandedOver xid outcome) = outcome ∷ []
exchange_outcomes (GivenUp xid) = []

-- those of several, in order
abbrev pub outcomes_in : List Exchange → List Outcome
outcomes_in made = flat_map exchange_outcomes made

abbrev pub calls_in : List Exchange → List Call
calls_in made = flat_map exchange_calls made

-- These, in order; and why the last call has no answer, if it has none, and if it was forgotten for that.
pub record Exchanges : Type 0 where
  pub made : List Exchange
  pub unanswered : Option CallEnd
  pub lost : Option CallEnd

abbrev pub none : Exchanges
none = record { made = []; unanswered = None; lost = None }

abbrev pub one : Exchange → Exchanges
one exchange = record { made = exchange ∷ []; unanswered = None; lost = None }

-- A call was not submitted for this cause; or it was forgotten by this exchange.
abbrev pub refused_by : CallEnd → Exchanges
refused_by end = record { made = []; unanswered = Some end; lost = None }

abbrev pub lost_by : Exchange → CallEnd → Exchanges
lost_by exchange end = record { made = exchange ∷ []; unanswered = Some end; lost = Some end }

-- these, and then more
abbrev pub and_then : Exchanges → Exchanges → Exchanges
and_then first second = record { made = first.made ++ second.made; unanswered = second.unanswered; lost = second.lost }

-- the calls of these xids are given up in the end
abbrev pub giving_up : Exchanges → List ℕ → Exchanges
giving_up exchanges xids = record { made = exchanges.made ++ map GivenUp xids; unanswered = exchanges.unanswered; lost = exchanges.lost }

-- ---- Requests of nr_client

-- a call without an answer: it was not submitted, or it was, and was forgotten
abbrev pub given_up_exchanges : (v w : LinkView) (call : Call) (end : CallEnd) → GivesUp v w call end → Exchanges
given_up_exchanges v w call end (inl refused) = refused_by end
given_up_exchanges v w call end (inr gone) = lost_by (Forgotten call) end

abbrev pub unanswered_exchanges : (call : Call) (v w : LinkView) (end : ClientEnd) → Unanswered call v w end → Exchanges
unanswered_exchanges call v w end (inl (cause, (is, (gives_up, why)))) = given_up_exchanges v w call cause gives_up
unanswered_exchanges call v w end (inr memory) = none

-- a request of one call
abbrev pub asked_exchanges : {A : Type 0} (reads : Outcome → Result A ClientEnd) (call : Call) (v w : LinkView) (result : Result A ClientEnd)
    → Asks reads call v w result → Exchanges
asked_exchanges reads call v w result (inl (outcome, is)) = one (Answered call outcome)
asked_exchanges reads call v w result (inr (inl (cause, (is, (gives_up, why))))) = given_up_exchanges v w call cause gives_up
asked_exchanges reads call v w result (inr (inr memory)) = none

-- a request of several calls
abbrev pub made_exchanges : {A : Type 0} (request : List Outcome → Next A) (outcomes : List Outcome) (v w : LinkView)
    → MakesCalls request outcomes v w → Exchanges
made_exchanges request [] v w made = none
made_exchanges request (outcome ∷ outcomes) v w (call, mid, (is, (answers, rest))) =
    and_then (one (Answered call outcome)) (made_exchanges (λ later. request (outcome ∷ later)) outcomes mid w rest)

abbrev pub end_exchanges : {A : Type 0} (next : Next A) (v w : LinkView) (given : Result A ClientEnd) → EndsWith next v w given → Exchanges
end_exchanges (Returns result) v w given ends = none
end_exchanges (Calls call) v w given (end, (is, unanswered)) = unanswered_exchanges call v w end unanswered

abbrev pub followed_exchanges : {A : Type 0} (request : List Outcome → Next A) (v w : LinkView) (given : Result A ClientEnd)
    → Follows request v w given → Exchanges
followed_exchanges request v w given f =
    and_then (made_exchanges request f.outcomes v f.between f.made) (end_exchanges (request f.outcomes) f.between w given f.ends)

-- a file is read: its READs are submitted before the outcomes of earlier ones are handed over
abbrev pub step_exchanges : (uid gid : ℕ) (file : List ℕ) (s t : ReadingAt) → ReadStep uid gid file s t → Exchanges
step_exchanges uid gid file s t (MakesAlone call outcome alone answers replies waits) = one (Answered call outcome)
step_exchanges uid gid file s t (AsksAhead read ahead submits replies waits) = one (Submitted read.xid read.call)
step_exchanges uid gid file s t (TakesOldest read outcome full is completes replies waits) = one (HandedOver read.xid outcome)
step_exchanges uid gid file s t (Looks looks replies waits) = none

abbrev pub steps_exchanges : (uid gid : ℕ) (file : List ℕ) (first : ReadingAt) (states : List ReadingAt) (last : ReadingAt) → LeadsBy uid gid file first states last → Exchanges
steps_exchanges uid gid file first [] last same = none
steps_exchanges uid gid file first (s ∷ states) last (step, leads) =
    and_then (steps_exchanges uid gid file first states s leads) (step_exchanges uid gid file s last step)

abbrev pub reading_end_exchanges : (uid gid : ℕ) (file : List ℕ) (s : ReadingAt) (left : List OpenRead) (w : LinkView) (taken taken' : Option (List ℕ)) (given : Result (Unit {0}) ClientEnd)
    → EndsReading uid gid file s left w taken taken' given → Exchanges
reading_end_exchanges uid gid file s left w taken taken' given (EndsByReplies same is waits takes) = none
reading_end_exchanges uid gid file s left w taken taken' given (OutputFails is same waits takes) = none
reading_end_exchanges uid gid file s left w taken taken' given (NotAnswered call end alone is unanswered waits takes) = unanswered_exchanges call s.link w end unanswered
reading_end_exchanges uid gid file s left w taken taken' given (NotSubmitted call end ahead is refused waits takes) = refused_by end
reading_end_exchanges uid gid file s left w taken taken' given (OldestForgotten read end full is given_is forgets waits takes) = lost_by (GivenUp read.xid) end

abbrev pub read_exchanges : (uid gid : ℕ) (file : List ℕ) (v w : LinkView) (taken taken' : Option (List ℕ)) (given : Result (Unit {0}) ClientEnd)
    → ReadsFile uid gid file v w taken taken' given → Exchanges
read_exchanges uid gid file v w taken taken' given f =
    and_then (steps_exchanges uid gid file (starts_at v) f.between f.last f.made)
    (giving_up (reading_end_exchanges uid gid file f.last f.left f.ended taken taken' given f.ends) (xids_of f.left))

-- a file is written
abbrev pub write_exchanges_by : (uid gid : ℕ) (dir name handed rest : List ℕ) (v w : LinkView) (result : Result (Unit {0}) ClientEnd)
    → EndsWriting uid gid dir name handed rest v w result → Exchanges
write_exchanges_by uid gid dir name handed rest v w result (FollowsInput follows count ahead) =
    followed_exchanges (writing uid gid dir name (handed ++ rest)) v w result follows
write_exchanges_by uid gid dir name handed rest v w result (InputFails outcomes is made ahead) =
    made_exchanges (writing uid gid dir name (handed ++ rest)) outcomes v w made

abbrev pub write_exchanges : (uid gid : ℕ) (dir name : List ℕ) (v w : LinkView) (left given left' given' : Option (List ℕ)) (result : Result (Unit {0}) ClientEnd)
    → WritesFile uid gid dir name v w left given left' given' result → Exchanges
write_exchanges uid gid dir name v w left given left' given' result writes = write_exchanges_by uid gid dir name writes.handed writes.rest v w result writes.calls

-- ---- Parts of a command

-- what each way to do a part exchanges
abbrev pub Tells : {A : Type 0} → Part A → Type 0
Tells {A} part = (s s' : SessionAt) (result : Result A ClientEnd) → part s s' result → Exchanges

abbrev pub tells_none : {A : Type 0} (part : Part A) → Tells part
tells_none part s s' result is = none

abbrev pub tells_request : {A : Type 0} (reads : Outcome → Result A ClientEnd) (call : Call) → Tells (Request reads call)
tells_request reads call s s' result is = asked_exchanges reads call s s' result is.0

abbrev pub tells_requests : {A : Type 0} (request : List Outcome → Next A) → Tells (Requests request)
tells_requests request s s' result is = followed_exchanges request s s' result is.0

-- one part, and then the part that follows from its value
abbrev pub tells_then : {A B : Type 0} (first : Part A) (next : A → Part B) → Tells first → ((value : A) → Tells (next value)) → Tells (Then first next)
tells_then first next exchanges later s s' result (inl (value, (mid, (is, goes)))) = and_then (exchanges s mid (Ok value) is) (later value mid s' result goes)
tells_then first next exchanges later s s' result (inr (end, (is, same))) = exchanges s s' (Err end) is

-- nothing if a limit is exceeded, else a request
abbrev pub within_exchanges : (above : Bool) (Above Within : Type 0) → (Within → Exchanges) → MatchBool above Above Within → Exchanges
within_exchanges true Above Within exchanges is = none
within_exchanges false Above Within exchanges is = exchanges is

abbrev pub tells_mounts : (uid gid : ℕ) (export : List ℕ) → Tells (Mounts uid gid export)
tells_mounts uid gid export s s' result is =
    within_exchanges (nat_lt mount_path_max (length export)) (Fails (client.Budget mount_path_max) s s' result) (Request mnt_result (mnt_call uid gid export) s s' result)
    (tells_request mnt_result (mnt_call uid gid export) s s' result) is

abbrev pub tells_symlinks : (uid gid : ℕ) (dir name target : List ℕ) → Tells (Symlinks uid gid dir name target)
tells_symlinks uid gid dir name target s s' result is =
    within_exchanges (nat_lt link_target_max (length target)) (Fails (client.Budget link_target_max) s s' result) (Request create_result (symlink_call uid gid dir name target) s s' result)
    (tells_request create_result (symlink_call uid gid dir name target) s s' result) is

abbrev pub tells_finds : (uid gid : ℕ) (export path : List ℕ) → Tells (Finds uid gid export path)
tells_finds uid gid export path =
    tells_then (Mounts uid gid export) (λ root. Requests (walk_next uid gid root path)) (tells_mounts uid gid export) (λ root. tells_requests (walk_next uid gid root path))

abbrev pub tells_finds_parent : (uid gid : ℕ) (export path : List ℕ) → Tells (FindsParent uid gid export path)
tells_finds_parent uid gid export path =
    tells_then (Mounts uid gid export) (λ root. Requests (parent_next uid gid root path)) (tells_mounts uid gid export) (λ root. tells_requests (parent_next uid gid root path))

-- ---- Commands

abbrev pub tells_mount : (uid gid : ℕ) (export : List ℕ) → Tells (MountsAndPrints uid gid export)
tells_mount uid gid export = tells_then (Mounts uid gid export) (λ root. Prints (handle_text root)) (tells_mounts uid gid export) (λ root. tells_none (Prints (handle_text root)))

abbrev pub tells_list : (uid gid : ℕ) (export path : List ℕ) → Tells (Lists uid gid export path)
tells_list uid gid export path =
    tells_then (Finds uid gid export path) (λ dir. Then (Requests (list_next uid gid dir)) (λ names. Prints (names_text names))) (tells_finds uid gid export path)
    (λ dir. tells_then (Requests (list_next uid gid dir)) (λ names. Prints (names_text names)) (tells_requests (list_next uid gid dir)) (λ names. tells_none (Prints (names_text names))))

abbrev pub tells_stat : (uid gid : ℕ) (export path : List ℕ) → Tells (Stats uid gid export path)
tells_stat uid gid export path =
    tells_then (Finds uid gid export path) (λ file. Then (Request getattr_result (getattr_call uid gid file)) (λ attributes. Prints (attributes_text attributes)))
    (tells_finds uid gid export path)
    (λ file. tells_then (Request getattr_result (getattr_call uid gid file)) (λ attributes. Prints (attributes_text attributes))
    (tells_request getattr_result (getattr_call uid gid file)) (λ attributes. tells_none (Prints (attributes_text attributes))))

abbrev pub tells_read_link : (uid gid : ℕ) (export path : List ℕ) → Tells (ReadsLink uid gid export path)
tells_read_link uid gid export path =
    tells_then (Finds uid gid export path) (λ file. Then (Request readlink_result (readlink_call uid gid file)) (λ link. Prints (path_text link.path)))
    (tells_finds uid gid export path)
    (λ file. tells_then (Request readlink_result (readlink_call uid gid file)) (λ link. Prints (path_text link.path))
    (tells_request readlink_result (readlink_call uid gid file)) (λ link. tells_none (Prints (path_text link.path))))

abbrev pub tells_make_directory : (uid gid : ℕ) (export path : List ℕ) → Tells (MakesDirectory uid gid export path)
tells_make_directory uid gid export path =
    tells_then (FindsParent uid gid export path) (λ place. Then (Request create_result (mkdir_call uid gid place.0 place.1)) (λ made. Prints []))
    (tells_finds_parent uid gid export path)
    (λ place. tells_then (Request create_result (mkdir_call uid gid place.0 place.1)) (λ made. Prints [])
    (tells_request create_result (mkdir_call uid gid place.0 place.1)) (λ made. tells_none (Prints [])))

abbrev pub tells_remove : (uid gid : ℕ) (export path : List ℕ) → Tells (Removes uid gid export path)
tells_remove uid gid export path =
    tells_then (FindsParent uid gid export path) (λ place. Then (Request remove_result (remove_call uid gid place.0 place.1)) (λ removed. Prints []))
    (tells_finds_parent uid gid export path)
    (λ place. tells_then (Request remove_result (remove_call uid gid place.0 place.1)) (λ removed. Prints [])
    (tells_request remove_result (remove_call uid gid place.0 place.1)) (λ removed. tells_none (Prints [])))

abbrev pub tells_make_symlink : (uid gid : ℕ) (export path target : List ℕ) → Tells (MakesSymlink uid gid export path target)
tells_make_symlink uid gid export path target =
    tells_then (FindsParent uid gid export path) (λ place. Then (Symlinks uid gid place.0 place.1 target) (λ made. Prints []))
    (tells_finds_parent uid gid export path)
    (λ place. tells_then (Symlinks uid gid place.0 place.1 target) (λ made. Prints []) (tells_symlinks uid gid place.0 place.1 target) (λ made. tells_none (Prints [])))

abbrev pub tells_reads_out : (uid gid : ℕ) (file : List ℕ) (out out' : SinkAt) → Tells (ReadsOut uid gid file out out')
tells_reads_out uid gid file out out' s s' text (done, ((reads, counts), silent)) =
    read_exchanges uid gid file s s' out.taken out'.taken done reads

abbrev pub tells_writes_in : (uid gid : ℕ) (dir name : List ℕ) (input input' : SourceAt) → Tells (WritesIn uid gid dir name input input')
tells_writes_in uid gid dir name input input' s s' text (done, ((writes, counts), silent)) =
    write_exchanges uid gid dir name s s' input.left input.given input'.left input'.given done writes

abbrev pub tells_get : (uid gid : ℕ) (export path : List ℕ) (out out' : SinkAt) → Tells (Gets uid gid export path out out')
tells_get uid gid export path out out' s s' text (inl (file, (mid, (finds, reads)))) =
    and_then (tells_finds uid gid export path s mid (Ok file) finds) (tells_reads_out uid gid file out out' mid s' text reads)
tells_get uid gid export path out out' s s' text (inr (end, (finds, same))) = tells_finds uid gid export path s s' (Err end) finds

abbrev pub tells_put : (uid gid : ℕ) (export path : List ℕ) (input input' : SourceAt) → Tells (Puts uid gid export path input input')
tells_put uid gid export path input input' s s' text (inl (place, (mid, (finds, writes)))) =
    and_then (tells_finds_parent uid gid export path s mid (Ok place) finds) (tells_writes_in uid gid place.0 place.1 input input' mid s' text writes)
tells_put uid gid export path input input' s s' text (inr (end, (finds, same))) = tells_finds_parent uid gid export path s s' (Err end) finds

-- what each command exchanges, up to its text
abbrev pub tells_text : (uid gid : ℕ) (export : List ℕ) (action : Action Text) (input input' : SourceAt) (out out' : SinkAt) → Tells (text_of uid gid export action input input' out out')
tells_text uid gid export actions.Mount input input' out out' s s' text is = tells_mount uid gid export s s' text is.0
tells_text uid gid export (actions.List path) input input' out out' s s' text is = tells_list uid gid export path s s' text is.0
tells_text uid gid export (actions.Stat path) input input' out out' s s' text is = tells_stat uid gid export path s s' text is.0
tells_text uid gid export (actions.ReadLink path) input input' out out' s s' text is = tells_read_link uid gid export path s s' text is.0
tells_text uid gid export (actions.MakeDirectory path) input input' out out' s s' text is = tells_make_directory uid gid export path s s' text is.0
tells_text uid gid export (actions.Remove path) input input' out out' s s' text is = tells_remove uid gid export path s s' text is.0
tells_text uid gid export (actions.Link path target) input input' out out' s s' text is = tells_make_symlink uid gid export path target s s' text is.0
tells_text uid gid export (actions.Put path) input input' out out' s s' text is = tells_put uid gid export path input input' s s' text is.0
tells_text uid gid export (actions.Get path) input input' out out' s s' text is = tells_get uid gid export path out out' s s' text is.0
