-- Each part of a command whose outcomes are replies ends by them, and counts the faults of its link.
use Rattle.std.proofs.Common.{◌≡◌, ◌⊎◌, ℕ, Bool, true, false, List, [], ◌∷◌, ◌++◌, length, Option, Result, Ok, Err, inl, inr, sym, ap, subst}
use Rattle.std.specs.Prelude.{MatchBool, nat_lt}
use Rattle.nr_outside.specs.Streams.{SinkAt, SourceAt}
use Rattle.nr_nfs_base.specs.Limits.{link_target_max}
use Rattle.nr_words.specs.Limits.{mount_path_max}
use Rattle.nr_reduce.specs.declared.call.Call.{Call}
use Rattle.nr_reduce.specs.declared.call.Outcome.{Outcome}
use Rattle.nr_client.specs.declared.client_end.ClientEnd.{ClientEnd}
use Rattle.nr_client.specs.declared.client_end.ClientEnd.TheVariants as client
use Rattle.nr_client.specs.Following.{EndsWith, Follows, Next, Unanswered}
use Rattle.nr_client.specs.Following.Next.{Calls, Returns}
use Rattle.nr_client.specs.Reading.{EndsReading, OpenRead, ReadingAt, ReadsFile, reading}
use Rattle.nr_client.specs.Reading.EndsReadingOver.{EndsByReplies, OutputFails, NotAnswered, NotSubmitted, OldestForgotten}
use Rattle.nr_client.specs.Requests.{Asks, create_result, mnt_call, mnt_result, symlink_call}
use Rattle.nr_client.specs.Walking.{parent_next, walk_next}
use Rattle.nr_client.specs.Writing.{EndsWriting, writing}
use Rattle.nr_client.specs.Writing.EndsWritingOver.{FollowsInput, InputFails}
use Rattle.nr_client.proofs.LinkRelations.{both_counts}
use Rattle.nr_commands.specs.Commands.{Finds, FindsParent, IsSilent, Mounts, ReadsOut, Symlinks, WritesIn}
use Rattle.nr_commands.specs.Sessions.{CountsFaults, Fails, Part, Request, Requests, SessionAt, Text as Prints, Then}
use Rattle.nr_client.specs.Requests.{SinkFaults, SourceFaults}
use Rattle.nr_client.specs.Views.{LinkView}
use Rattle.nr_service_laws.specs.CommandEnds.{AreReplies, ResultCanFollowReplies, CanFollowReplies}
use Rattle.nr_service_laws.specs.Exchanges.{Exchange, Exchanges, Tells, asked_exchanges, followed_exchanges, outcomes_in, read_exchanges, tells_finds, tells_finds_parent, tells_mounts, tells_none, tells_reads_out, tells_request, tells_requests, tells_symlinks, tells_then, tells_writes_in, within_exchanges, write_exchanges_by}
use Rattle.nr_service_laws.proofs.OutcomesInOrder.{followed_outcomes, outcomes_both, read_outcomes}
use Rattle.nr_service_laws.proofs.ReplyResults.{ReadsReplies, gives_fine}
use Rattle.nr_service_laws.proofs.ReplyRequests.{NextFine, RequestFine, create_fine, file_fine, mnt_fine, parent_fine, walk_fine, writing_fine}

-- ---- Replies of two lists

replies_both : (xs ys : List Outcome) → AreReplies (xs ++ ys) → AreReplies xs × AreReplies ys
replies_both [] ys are = (tt, are)
replies_both (x ∷ xs) ys (is, are) = let rest = replies_both xs ys are in ((is, rest.0), rest.1)

pub replies_made : (made later : List Exchange) → AreReplies (outcomes_in (made ++ later)) → AreReplies (outcomes_in made) × AreReplies (outcomes_in later)
replies_made made later are = replies_both (outcomes_in made) (outcomes_in later) (subst AreReplies (outcomes_both made later) are)

-- ---- Requests

asks_fine : {A : Type 0} (reads : Outcome → Result A ClientEnd) (call : Call) (b c : LinkView) (result : Result A ClientEnd) (asks : Asks reads call b c result)
    → ReadsReplies reads → AreReplies (outcomes_in (asked_exchanges reads call b c result asks).made) → ResultCanFollowReplies result
asks_fine reads call b c result (inl (outcome, (answers, gives))) fine are = gives_fine result (reads outcome) gives (fine outcome are.0)
asks_fine {A} reads call b c result (inr (inl (cause, (is, rest)))) fine are = subst (λ (r : Result A ClientEnd). ResultCanFollowReplies r) (sym is) tt
asks_fine {A} reads call b c result (inr (inr (is, same))) fine are = subst (λ (r : Result A ClientEnd). ResultCanFollowReplies r) (sym is) tt

unanswered_fine : (call : Call) (b c : LinkView) (end : ClientEnd) → Unanswered call b c end → CanFollowReplies end
unanswered_fine call b c end (inl (cause, (is, rest))) = subst CanFollowReplies (sym is) tt
unanswered_fine call b c end (inr (is, same)) = subst CanFollowReplies (sym is) tt

end_fine : {A : Type 0} (next : Next A) (b c : LinkView) (given : Result A ClientEnd) → EndsWith next b c given → NextFine next → ResultCanFollowReplies given
end_fine (Returns result) b c given (gives, same) fine = gives_fine given result gives fine
end_fine {A} (Calls call) b c given (end, (is, gone)) fine = subst (λ (r : Result A ClientEnd). ResultCanFollowReplies r) (sym is) (unanswered_fine call b c end gone)

follows_fine : {A : Type 0} (request : List Outcome → Next A) (b c : LinkView) (given : Result A ClientEnd) (f : Follows request b c given)
    → RequestFine request → AreReplies (outcomes_in (followed_exchanges request b c given f).made) → ResultCanFollowReplies given
follows_fine request b c given f fine are =
    end_fine (request f.outcomes) f.between c given f.ends (fine f.outcomes (subst AreReplies (followed_outcomes request b c given f) are))

-- ---- A file

read_result_fine : (given result : Result (Unit {0}) ClientEnd) (next : Next (Unit {0})) → NextFine next → (given ≡ Err client.Memory) ⊎ (next ≡ Returns given) → ResultCanFollowReplies given
read_result_fine given result next fine (inl is) = subst (λ (r : Result (Unit {0}) ClientEnd). ResultCanFollowReplies r) (sym is) tt
read_result_fine given result next fine (inr is) = subst (λ (n : Next (Unit {0})). NextFine n) is fine

reading_end_fine : (uid gid : ℕ) (file : List ℕ) (s : ReadingAt) (left : List OpenRead) (b : LinkView) (taken taken' : Option (List ℕ)) (given : Result (Unit {0}) ClientEnd)
    → EndsReading uid gid file s left b taken taken' given → AreReplies s.outcomes → ResultCanFollowReplies given
reading_end_fine uid gid file s left b taken taken' given (EndsByReplies same is waits takes) are =
    read_result_fine given given (reading uid gid file s.outcomes) (file_fine uid gid file s.outcomes are) is
reading_end_fine uid gid file s left b taken taken' given (OutputFails is same waits takes) are = subst (λ (r : Result (Unit {0}) ClientEnd). ResultCanFollowReplies r) (sym is) tt
reading_end_fine uid gid file s left b taken taken' given (NotAnswered call end alone is gone waits takes) are =
    subst (λ (r : Result (Unit {0}) ClientEnd). ResultCanFollowReplies r) (sym is) (unanswered_fine call s.link b end gone)
reading_end_fine uid gid file s left b taken taken' given (NotSubmitted call end ahead is refused waits takes) are =
    subst (λ (r : Result (Unit {0}) ClientEnd). ResultCanFollowReplies r) (sym is) tt
reading_end_fine uid gid file s left b taken taken' given (OldestForgotten read end full is given_is forgets waits takes) are =
    subst (λ (r : Result (Unit {0}) ClientEnd). ResultCanFollowReplies r) (sym given_is) tt

reads_fine : (uid gid : ℕ) (file : List ℕ) (b c : LinkView) (taken taken' : Option (List ℕ)) (given : Result (Unit {0}) ClientEnd)
    (f : ReadsFile uid gid file b c taken taken' given) → AreReplies (outcomes_in (read_exchanges uid gid file b c taken taken' given f).made) → ResultCanFollowReplies given
reads_fine uid gid file b c taken taken' given f are =
    reading_end_fine uid gid file f.last f.left f.ended taken taken' given f.ends (subst AreReplies (read_outcomes uid gid file b c taken taken' given f) are)

writes_fine : (uid gid : ℕ) (dir name handed rest : List ℕ) (b c : LinkView) (result : Result (Unit {0}) ClientEnd) (w : EndsWriting uid gid dir name handed rest b c result)
    → AreReplies (outcomes_in (write_exchanges_by uid gid dir name handed rest b c result w).made) → ResultCanFollowReplies result
writes_fine uid gid dir name handed rest b c result (FollowsInput follows count ahead) are =
    follows_fine (writing uid gid dir name (handed ++ rest)) b c result follows (writing_fine uid gid dir name (handed ++ rest)) are
writes_fine uid gid dir name handed rest b c result (InputFails outcomes is made ahead) are = subst (λ (r : Result (Unit {0}) ClientEnd). ResultCanFollowReplies r) (sym is) tt

-- ---- Fault counts of two parts

pub counts_then : {A B : Type 0} (s mid s' : SessionAt) (value : A) (result : Result B ClientEnd) → CountsFaults {A = A} s mid (Ok value) → CountsFaults mid s' result → CountsFaults s s' result
counts_then s mid s' value result first second =
    (subst (λ (n : ℕ). SourceFaults result n s'.source_faults) first.0 second.0, subst (λ (n : ℕ). SinkFaults result n s'.sink_faults) first.1 second.1)

pub counts_as : (A B : Type 0) (s s' : SessionAt) (end : ClientEnd) → CountsFaults {A = A} s s' (Err end) → CountsFaults {A = B} s s' (Err end)
counts_as A B s s' client.DialFault counts = counts
counts_as A B s s' (client.Link end) counts = counts
counts_as A B s s' (client.Rpc kind code) counts = counts
counts_as A B s s' (client.Mount status) counts = counts
counts_as A B s s' (client.Nfs status) counts = counts
counts_as A B s s' client.Chunk counts = counts
counts_as A B s s' (client.Version low high) counts = counts
counts_as A B s s' (client.BadReply at reason) counts = counts
counts_as A B s s' (client.BadPath at) counts = counts
counts_as A B s s' client.InputFault counts = counts
counts_as A B s s' client.OutputFault counts = counts
counts_as A B s s' (client.Budget count) counts = counts
counts_as A B s s' client.Memory counts = counts

-- ---- Parts

-- the counts of the link rise only if a call has no answer for that; if all outcomes are replies, so is the end
abbrev pub IsFine : List Outcome → {A : Type 0} → Part A
IsFine handed_over s s' result = CountsFaults s s' result × (AreReplies handed_over → ResultCanFollowReplies result)

pub fine_as : (A B : Type 0) (handed_over : List Outcome) (s s' : SessionAt) (end : ClientEnd) (result : Result B ClientEnd) → result ≡ Err end → IsFine handed_over {A = A} s s' (Err end)
    → IsFine handed_over s s' result
fine_as A B handed_over s s' end result same one = subst (λ (r : Result B ClientEnd). IsFine handed_over s s' r) (sym same) (counts_as A B s s' end one.0, one.1)

abbrev pub PartFine : {A : Type 0} (part : Part A) → Tells part → Type 0
PartFine {A} part exchanges = (s s' : SessionAt) (result : Result A ClientEnd) (is : part s s' result) → IsFine (outcomes_in (exchanges s s' result is).made) s s' result

same_counts : (s s' : SessionAt) → s' ≡ s → (s'.source_faults ≡ s.source_faults) × (s'.sink_faults ≡ s.sink_faults)
same_counts s s' same = (ap (λ (x : SessionAt). x.source_faults) same, ap (λ (x : SessionAt). x.sink_faults) same)

pub part_text : (text : List ℕ) → PartFine (Prints text) (tells_none (Prints text))
part_text text s s' (Ok t) (same, is) = (same_counts s s' same, λ are. tt)
part_text text s s' (Err end) (same, is) = subst (λ (e : ClientEnd). IsFine [] {A = List ℕ} s s' (Err e)) (sym is) (same_counts s s' same, λ are. tt)

pub part_request : {A : Type 0} (reads : Outcome → Result A ClientEnd) (call : Call) → ReadsReplies reads → PartFine (Request reads call) (tells_request reads call)
part_request reads call fine s s' result is = (both_counts result s s' is.1, λ are. asks_fine reads call s s' result is.0 fine are)

pub part_requests : {A : Type 0} (request : List Outcome → Next A) → RequestFine request → PartFine (Requests request) (tells_requests request)
part_requests request fine s s' result is = (both_counts result s s' is.1, λ are. follows_fine request s s' result is.0 fine are)

pub part_then : {A B : Type 0} (first : Part A) (next : A → Part B) (exchanges : Tells first) (later : (value : A) → Tells (next value)) → PartFine first exchanges → ((value : A) → PartFine (next value) (later value))
    → PartFine (Then first next) (tells_then first next exchanges later)
part_then first next exchanges later fine then s s' result (inl (value, (mid, (is, goes)))) =
    let one = fine s mid (Ok value) is in
    let two = then value mid s' result goes in
    (counts_then s mid s' value result one.0 two.0, λ are. two.1 (replies_made (exchanges s mid (Ok value) is).made (later value mid s' result goes).made are).1)
part_then {A} {B} first next exchanges later fine then s s' result (inr (end, (is, same))) = fine_as A B (outcomes_in (exchanges s s' (Err end) is).made) s s' end result same (fine s s' (Err end) is)

fails_fine : {A : Type 0} (max : ℕ) (s s' : SessionAt) (result : Result A ClientEnd) → Fails (client.Budget max) s s' result → IsFine [] s s' result
fails_fine {A} max s s' result (same, is) = subst (λ (r : Result A ClientEnd). IsFine [] s s' r) (sym is) (same_counts s s' same, λ are. tt)

within_fine : (above : Bool) (Above Within : Type 0) (Is : List Outcome → Type 0) (exchanges : Within → Exchanges) → (Above → Is []) → ((is : Within) → Is (outcomes_in (exchanges is).made))
    → (is : MatchBool above Above Within) → Is (outcomes_in (within_exchanges above Above Within exchanges is).made)
within_fine true Above Within Is exchanges beyond within is = beyond is
within_fine false Above Within Is exchanges beyond within is = within is

pub part_mounts : (uid gid : ℕ) (export : List ℕ) → PartFine (Mounts uid gid export) (tells_mounts uid gid export)
part_mounts uid gid export s s' result is =
    within_fine (nat_lt mount_path_max (length export)) (Fails (client.Budget mount_path_max) s s' result) (Request mnt_result (mnt_call uid gid export) s s' result)
    (λ (handed_over : List Outcome). IsFine handed_over s s' result) (tells_request mnt_result (mnt_call uid gid export) s s' result)
    (fails_fine mount_path_max s s' result) (part_request mnt_result (mnt_call uid gid export) mnt_fine s s' result) is

pub part_symlinks : (uid gid : ℕ) (dir name target : List ℕ) → PartFine (Symlinks uid gid dir name target) (tells_symlinks uid gid dir name target)
part_symlinks uid gid dir name target s s' result is =
    within_fine (nat_lt link_target_max (length target)) (Fails (client.Budget link_target_max) s s' result) (Request create_result (symlink_call uid gid dir name target) s s' result)
    (λ (handed_over : List Outcome). IsFine handed_over s s' result) (tells_request create_result (symlink_call uid gid dir name target) s s' result)
    (fails_fine link_target_max s s' result) (part_request create_result (symlink_call uid gid dir name target) create_fine s s' result) is

pub part_finds : (uid gid : ℕ) (export path : List ℕ) → PartFine (Finds uid gid export path) (tells_finds uid gid export path)
part_finds uid gid export path =
    part_then (Mounts uid gid export) (λ root. Requests (walk_next uid gid root path)) (tells_mounts uid gid export) (λ root. tells_requests (walk_next uid gid root path))
    (part_mounts uid gid export) (λ root. part_requests (walk_next uid gid root path) (walk_fine uid gid root path))

pub part_finds_parent : (uid gid : ℕ) (export path : List ℕ) → PartFine (FindsParent uid gid export path) (tells_finds_parent uid gid export path)
part_finds_parent uid gid export path =
    part_then (Mounts uid gid export) (λ root. Requests (parent_next uid gid root path)) (tells_mounts uid gid export) (λ root. tells_requests (parent_next uid gid root path))
    (part_mounts uid gid export) (λ root. part_requests (parent_next uid gid root path) (parent_fine uid gid root path))

-- ---- Parts that have no text

silent_fine : (handed_over : List Outcome) (s s' : SessionAt) (done : Result (Unit {0}) ClientEnd) (text : Result (List ℕ) ClientEnd) → IsSilent done text → IsFine handed_over s s' done → IsFine handed_over s s' text
silent_fine handed_over s s' (Ok done) (Ok text) silent fine = (fine.0, λ are. tt)
silent_fine handed_over s s' (Ok done) (Err why) silent fine = absurd silent
silent_fine handed_over s s' (Err end) (Ok text) silent fine = absurd silent
silent_fine handed_over s s' (Err end) (Err why) silent fine =
    subst (λ (e : ClientEnd). IsFine handed_over {A = List ℕ} s s' (Err e)) (sym silent) (counts_as (Unit {0}) (List ℕ) s s' end fine.0, fine.1)

pub part_reads_out : (uid gid : ℕ) (file : List ℕ) (out out' : SinkAt) → PartFine (ReadsOut uid gid file out out') (tells_reads_out uid gid file out out')
part_reads_out uid gid file out out' s s' text (done, ((reads, counts), silent)) =
    silent_fine (outcomes_in (tells_reads_out uid gid file out out' s s' text (done, ((reads, counts), silent))).made) s s' done text silent
    (both_counts done s s' counts.1, λ are. reads_fine uid gid file s s' out.taken out'.taken done reads are)

pub part_writes_in : (uid gid : ℕ) (dir name : List ℕ) (input input' : SourceAt) → PartFine (WritesIn uid gid dir name input input') (tells_writes_in uid gid dir name input input')
part_writes_in uid gid dir name input input' s s' text (done, ((writes, counts), silent)) =
    silent_fine (outcomes_in (tells_writes_in uid gid dir name input input' s s' text (done, ((writes, counts), silent))).made) s s' done text silent
    (both_counts done s s' counts.1, λ are. writes_fine uid gid dir name writes.handed writes.rest s s' done writes.calls are)
