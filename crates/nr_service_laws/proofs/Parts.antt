-- Parts of a command: each is marks of the link, and so are two parts one after the other.
use Rattle.std.proofs.Common.{◌≡◌, ℕ, Bool, true, false, List, length, Result, Ok, Err, inl, inr, ap, ◌∙◌}
use Rattle.std.specs.Prelude.{MatchBool, nat_lt}
use Rattle.nr_outside.specs.Streams.{SinkAt, SourceAt}
use Rattle.nr_nfs_base.specs.Limits.{link_target_max}
use Rattle.nr_words.specs.Limits.{mount_path_max}
use Rattle.nr_reduce.specs.declared.call.Call.{Call}
use Rattle.nr_reduce.specs.declared.call.Outcome.{Outcome}
use Rattle.nr_client.specs.declared.client_end.ClientEnd.{ClientEnd}
use Rattle.nr_client.specs.declared.client_end.ClientEnd.TheVariants as client
use Rattle.nr_client.specs.Following.{Next}
use Rattle.nr_client.specs.Requests.{create_result, mnt_call, mnt_result, symlink_call}
use Rattle.nr_client.specs.Walking.{parent_next, walk_next}
use Rattle.nr_client.proofs.CallsMade.{end_in}
use Rattle.nr_commands.specs.Commands.{Finds, FindsParent, IsSilent, Mounts, ReadsOut, Symlinks, WritesIn}
use Rattle.nr_commands.specs.Sessions.{Fails, Part, Request, Requests, SessionAt, Text as Prints, Then}
use Rattle.nr_service_laws.specs.Exchanges.{Exchanges, Tells, none, read_exchanges, tells_finds, tells_finds_parent, tells_mounts, tells_none, tells_reads_out, tells_request, tells_requests, tells_symlinks, tells_then, tells_writes_in, within_exchanges, write_exchanges}
use Rattle.nr_service_laws.specs.SessionMarks.{HasDone}
use Rattle.nr_service_laws.proofs.Extending.{does_as, does_both, does_none_at}
use Rattle.nr_service_laws.proofs.Files.{does_reads, does_writes}
use Rattle.nr_service_laws.proofs.SeveralCalls.{does_asks, does_follows}

-- each way to do a part is marks of the link, with what it exchanges
abbrev pub Has : {A : Type 0} (part : Part A) → Tells part → Type 0
Has {A} part exchanges = (s s' : SessionAt) (result : Result A ClientEnd) (is : part s s' result) → HasDone result s s' (exchanges s s' result is)

does_stay : {A : Type 0} (s s' : SessionAt) (result : Result A ClientEnd) → s' ≡ s → HasDone result s s' none
does_stay s s' result same = does_none_at result s s' same

pub has_text : (text : List ℕ) → Has (Prints text) (tells_none (Prints text))
has_text text s s' result is = does_stay s s' result is.0

pub has_request : {A : Type 0} (reads : Outcome → Result A ClientEnd) (call : Call) → Has (Request reads call) (tells_request reads call)
has_request reads call s s' result is = does_asks reads call s s' result is.0

pub has_requests : {A : Type 0} (request : List Outcome → Next A) → Has (Requests request) (tells_requests request)
has_requests request s s' result is = does_follows request s s' result is.0

pub has_then : {A B : Type 0} (first : Part A) (next : A → Part B) (exchanges : Tells first) (later : (value : A) → Tells (next value)) → Has first exchanges → ((value : A) → Has (next value) (later value))
    → Has (Then first next) (tells_then first next exchanges later)
has_then {A} first next exchanges later has then s s' result (inl (value, (mid, (is, goes)))) =
    does_both {A = A} value result s mid s' (exchanges s mid (Ok value) is) (later value mid s' result goes)
    (has s mid (Ok value) is) (then value mid s' result goes)
has_then {A} {B} first next exchanges later has then s s' result (inr (end, (is, same))) =
    does_as {A = A} {B = B} (Err end) result s s' (exchanges s s' (Err end) is)
    (λ e ended. same ∙ ap (λ (x : ClientEnd). Err x) (ap (end_in {A = A}) ended)) (has s s' (Err end) is)

has_within : (above : Bool) (Above Within : Type 0) (exchanges : Within → Exchanges) (Done : Exchanges → Type 0) → (Above → Done none) → ((is : Within) → Done (exchanges is))
    → (is : MatchBool above Above Within) → Done (within_exchanges above Above Within exchanges is)
has_within true Above Within exchanges Done beyond within is = beyond is
has_within false Above Within exchanges Done beyond within is = within is

pub has_mounts : (uid gid : ℕ) (export : List ℕ) → Has (Mounts uid gid export) (tells_mounts uid gid export)
has_mounts uid gid export s s' result is =
    has_within (nat_lt mount_path_max (length export)) (Fails (client.Budget mount_path_max) s s' result) (Request mnt_result (mnt_call uid gid export) s s' result)
    (tells_request mnt_result (mnt_call uid gid export) s s' result) (λ exchanges. HasDone result s s' exchanges)
    (λ fails. does_stay s s' result fails.0) (λ made. has_request mnt_result (mnt_call uid gid export) s s' result made) is

pub has_symlinks : (uid gid : ℕ) (dir name target : List ℕ) → Has (Symlinks uid gid dir name target) (tells_symlinks uid gid dir name target)
has_symlinks uid gid dir name target s s' result is =
    has_within (nat_lt link_target_max (length target)) (Fails (client.Budget link_target_max) s s' result) (Request create_result (symlink_call uid gid dir name target) s s' result)
    (tells_request create_result (symlink_call uid gid dir name target) s s' result) (λ exchanges. HasDone result s s' exchanges)
    (λ fails. does_stay s s' result fails.0) (λ made. has_request create_result (symlink_call uid gid dir name target) s s' result made) is

pub has_finds : (uid gid : ℕ) (export path : List ℕ) → Has (Finds uid gid export path) (tells_finds uid gid export path)
has_finds uid gid export path =
    has_then (Mounts uid gid export) (λ root. Requests (walk_next uid gid root path)) (tells_mounts uid gid export) (λ root. tells_requests (walk_next uid gid root path))
    (has_mounts uid gid export) (λ root. has_requests (walk_next uid gid root path))

pub has_finds_parent : (uid gid : ℕ) (export path : List ℕ) → Has (FindsParent uid gid export path) (tells_finds_parent uid gid export path)
has_finds_parent uid gid export path =
    has_then (Mounts uid gid export) (λ root. Requests (parent_next uid gid root path)) (tells_mounts uid gid export) (λ root. tells_requests (parent_next uid gid root path))
    (has_mounts uid gid export) (λ root. has_requests (parent_next uid gid root path))

-- ---- Parts that have no text

silent_end : (done : Result (Unit {0}) ClientEnd) (text : Result (List ℕ) ClientEnd) (end : ClientEnd) → IsSilent done text → done ≡ Err end → text ≡ Err end
silent_end (Ok done) text end silent is = absurd (let wrong = is in cc)
silent_end (Err why) (Ok text) end silent is = absurd silent
silent_end (Err why) (Err same) end silent is = ap (λ (x : ClientEnd). Err x) (silent ∙ ap (end_in {A = Unit {0}}) is)

pub has_reads_out : (uid gid : ℕ) (file : List ℕ) (out out' : SinkAt) → Has (ReadsOut uid gid file out out') (tells_reads_out uid gid file out out')
has_reads_out uid gid file out out' s s' text (done, ((reads, counts), silent)) =
    does_as {A = Unit {0}} {B = List ℕ} done text s s'
    (read_exchanges uid gid file s s' out.taken out'.taken done reads) (λ end is. silent_end done text end silent is)
    (does_reads uid gid file s s' out.taken out'.taken done reads)

pub has_writes_in : (uid gid : ℕ) (dir name : List ℕ) (input input' : SourceAt) → Has (WritesIn uid gid dir name input input') (tells_writes_in uid gid dir name input input')
has_writes_in uid gid dir name input input' s s' text (done, ((writes, counts), silent)) =
    does_as {A = Unit {0}} {B = List ℕ} done text s s'
    (write_exchanges uid gid dir name s s' input.left input.given input'.left input'.given done writes)
    (λ end is. silent_end done text end silent is)
    (does_writes uid gid dir name s s' input.left input.given input'.left input'.given done writes)
