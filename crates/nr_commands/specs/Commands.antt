-- The requests of each command, and what it prints.
use Rattle.std.specs.Prelude.{◌≡◌, ℕ, ◌⊎◌, List, [], Result, Ok, Err, length, nat_lt, MatchBool}
use Rattle.nr_outside.specs.Streams.{SinkAt, SourceAt}
use Rattle.nr_nfs_base.specs.Limits.{link_target_max}
use Rattle.nr_nfs_res.specs.declared.create.CreateOk.{CreateOk}
use Rattle.nr_words.specs.Limits.{mount_path_max}
use Rattle.nr_client.specs.declared.client_end.ClientEnd.{ClientEnd}
use Rattle.nr_client.specs.declared.client_end.ClientEnd.TheVariants as client
use Rattle.nr_client.specs.Calls.{link_relations}
use Rattle.nr_client.specs.Listing.{list_next}
use Rattle.nr_client.specs.Reading.{InputFaults, OutputFaults, ReadsFileOver}
use Rattle.nr_client.specs.Relations.{CallRelations}
use Rattle.nr_client.specs.Requests.{CountsFaultsOver, create_result, getattr_call, getattr_result, mkdir_call, mnt_call, mnt_result, readlink_call, readlink_result, remove_call, remove_result, symlink_call}
use Rattle.nr_client.specs.Walking.{parent_next, walk_next}
use Rattle.nr_client.specs.Writing.{WritesFileOver}
use Rattle.nr_commands.specs.Printed.{attributes_text, handle_text, names_text, path_text}
use Rattle.nr_commands.specs.Sessions.{FailsOver, Part, PartOver, RequestOver, RequestsOver, TextOver, ThenOver}

-- MNT of an export, whose path has at most 1024 bytes (RFC 1813 section 5.1.4)
abbrev pub MountsOver : {V : Type 0} → CallRelations V → (uid gid : ℕ) → List ℕ → PartOver V (List ℕ)
MountsOver rel uid gid export s s' result =
    MatchBool (nat_lt mount_path_max (length export)) (FailsOver (client.Budget mount_path_max) s s' result) (RequestOver rel mnt_result (mnt_call uid gid export) s s' result)

-- from the root of an export to the file of a path, or to the directory that has its last component
abbrev pub FindsOver : {V : Type 0} → CallRelations V → (uid gid : ℕ) → (export path : List ℕ) → PartOver V (List ℕ)
FindsOver rel uid gid export path = ThenOver (MountsOver rel uid gid export) (λ root. RequestsOver rel (walk_next uid gid root path))

abbrev pub FindsParentOver : {V : Type 0} → CallRelations V → (uid gid : ℕ) → (export path : List ℕ) → PartOver V (List ℕ × List ℕ)
FindsParentOver rel uid gid export path = ThenOver (MountsOver rel uid gid export) (λ root. RequestsOver rel (parent_next uid gid root path))

-- `mount`
abbrev pub MountsAndPrintsOver : {V : Type 0} → CallRelations V → (uid gid : ℕ) → List ℕ → PartOver V (List ℕ)
MountsAndPrintsOver rel uid gid export = ThenOver (MountsOver rel uid gid export) (λ root. TextOver (handle_text root))

-- `ls`, `stat` and `readlink`
abbrev pub ListsOver : {V : Type 0} → CallRelations V → (uid gid : ℕ) → (export path : List ℕ) → PartOver V (List ℕ)
ListsOver rel uid gid export path = ThenOver (FindsOver rel uid gid export path) (λ dir. ThenOver (RequestsOver rel (list_next uid gid dir)) (λ names. TextOver (names_text names)))

abbrev pub StatsOver : {V : Type 0} → CallRelations V → (uid gid : ℕ) → (export path : List ℕ) → PartOver V (List ℕ)
StatsOver rel uid gid export path =
    ThenOver (FindsOver rel uid gid export path) (λ file. ThenOver (RequestOver rel getattr_result (getattr_call uid gid file)) (λ attributes. TextOver (attributes_text attributes)))

abbrev pub ReadsLinkOver : {V : Type 0} → CallRelations V → (uid gid : ℕ) → (export path : List ℕ) → PartOver V (List ℕ)
ReadsLinkOver rel uid gid export path =
    ThenOver (FindsOver rel uid gid export path) (λ file. ThenOver (RequestOver rel readlink_result (readlink_call uid gid file)) (λ link. TextOver (path_text link.path)))

-- `mkdir`, `rm` and `ln`, which print nothing
abbrev pub MakesDirectoryOver : {V : Type 0} → CallRelations V → (uid gid : ℕ) → (export path : List ℕ) → PartOver V (List ℕ)
MakesDirectoryOver rel uid gid export path =
    ThenOver (FindsParentOver rel uid gid export path) (λ place. ThenOver (RequestOver rel create_result (mkdir_call uid gid place.0 place.1)) (λ made. TextOver []))

abbrev pub RemovesOver : {V : Type 0} → CallRelations V → (uid gid : ℕ) → (export path : List ℕ) → PartOver V (List ℕ)
RemovesOver rel uid gid export path =
    ThenOver (FindsParentOver rel uid gid export path) (λ place. ThenOver (RequestOver rel remove_result (remove_call uid gid place.0 place.1)) (λ removed. TextOver []))

-- SYMLINK, whose path has at most 1024 bytes
abbrev pub SymlinksOver : {V : Type 0} → CallRelations V → (uid gid : ℕ) → (dir name target : List ℕ) → PartOver V CreateOk
SymlinksOver rel uid gid dir name target s s' result =
    MatchBool (nat_lt link_target_max (length target)) (FailsOver (client.Budget link_target_max) s s' result) (RequestOver rel create_result (symlink_call uid gid dir name target) s s' result)

abbrev pub MakesSymlinkOver : {V : Type 0} → CallRelations V → (uid gid : ℕ) → (export path target : List ℕ) → PartOver V (List ℕ)
MakesSymlinkOver rel uid gid export path target =
    ThenOver (FindsParentOver rel uid gid export path) (λ place. ThenOver (SymlinksOver rel uid gid place.0 place.1 target) (λ made. TextOver []))

-- ---- `get` and `put`, which print nothing else

-- a request without a value was done, and nothing is to be printed; or it ended
abbrev pub IsSilent : Result (Unit {0}) ClientEnd → Result (List ℕ) ClientEnd → Type 0
IsSilent (Ok done) (Ok text) = text ≡ []
IsSilent (Ok done) (Err why) = ⊥
IsSilent (Err end) (Ok text) = ⊥
IsSilent (Err end) (Err why) = why ≡ end

-- the bytes of a file were written to the output
abbrev pub ReadsOutOver : {V : Type 0} → CallRelations V → (uid gid : ℕ) → (file : List ℕ) → (out out' : SinkAt) → PartOver V (List ℕ)
ReadsOutOver rel uid gid file out out' s s' text =
    (done : Result (Unit {0}) ClientEnd)
    × ((ReadsFileOver rel uid gid file s s' out.taken out'.taken done × (OutputFaults done out.faults out'.faults × CountsFaultsOver rel done s s')) × IsSilent done text)

-- the bytes of the input were written to a file of this name
abbrev pub WritesInOver : {V : Type 0} → CallRelations V → (uid gid : ℕ) → (dir name : List ℕ) → (input input' : SourceAt) → PartOver V (List ℕ)
WritesInOver rel uid gid dir name input input' s s' text =
    (done : Result (Unit {0}) ClientEnd)
    × ((WritesFileOver rel uid gid dir name s s' input.left input.given input'.left input'.given done × (InputFaults done input.faults input'.faults × CountsFaultsOver rel done s s'))
    × IsSilent done text)

-- a file was found, and its bytes written to the output; if none was found, the output is as before
abbrev pub GetsOver : {V : Type 0} → CallRelations V → (uid gid : ℕ) → (export path : List ℕ) → (out out' : SinkAt) → PartOver V (List ℕ)
GetsOver {V} rel uid gid export path out out' s s' text =
    ((file : List ℕ) × ((mid : V) × (FindsOver rel uid gid export path s mid (Ok file) × ReadsOutOver rel uid gid file out out' mid s' text)))
    ⊎ ((end : ClientEnd) × (FindsOver rel uid gid export path s s' (Err end) × ((text ≡ Err end) × (out' ≡ out))))

-- a directory was found, and the bytes of the input written to a file in it; if none was found, the input is as before
abbrev pub PutsOver : {V : Type 0} → CallRelations V → (uid gid : ℕ) → (export path : List ℕ) → (input input' : SourceAt) → PartOver V (List ℕ)
PutsOver {V} rel uid gid export path input input' s s' text =
    ((place : List ℕ × List ℕ) × ((mid : V) × (FindsParentOver rel uid gid export path s mid (Ok place) × WritesInOver rel uid gid place.0 place.1 input input' mid s' text)))
    ⊎ ((end : ClientEnd) × (FindsParentOver rel uid gid export path s s' (Err end) × ((text ≡ Err end) × (input' ≡ input))))

-- ---- Over a link that one caller has

abbrev pub Mounts : (uid gid : ℕ) → List ℕ → Part (List ℕ)
Mounts uid gid export = MountsOver link_relations uid gid export

abbrev pub Finds : (uid gid : ℕ) → (export path : List ℕ) → Part (List ℕ)
Finds uid gid export path = FindsOver link_relations uid gid export path

abbrev pub FindsParent : (uid gid : ℕ) → (export path : List ℕ) → Part (List ℕ × List ℕ)
FindsParent uid gid export path = FindsParentOver link_relations uid gid export path

abbrev pub MountsAndPrints : (uid gid : ℕ) → List ℕ → Part (List ℕ)
MountsAndPrints uid gid export = MountsAndPrintsOver link_relations uid gid export

abbrev pub Lists : (uid gid : ℕ) → (export path : List ℕ) → Part (List ℕ)
Lists uid gid export path = ListsOver link_relations uid gid export path

abbrev pub Stats : (uid gid : ℕ) → (export path : List ℕ) → Part (List ℕ)
Stats uid gid export path = StatsOver link_relations uid gid export path

abbrev pub ReadsLink : (uid gid : ℕ) → (export path : List ℕ) → Part (List ℕ)
ReadsLink uid gid export path = ReadsLinkOver link_relations uid gid export path

abbrev pub MakesDirectory : (uid gid : ℕ) → (export path : List ℕ) → Part (List ℕ)
MakesDirectory uid gid export path = MakesDirectoryOver link_relations uid gid export path

abbrev pub Removes : (uid gid : ℕ) → (export path : List ℕ) → Part (List ℕ)
Removes uid gid export path = RemovesOver link_relations uid gid export path

abbrev pub Symlinks : (uid gid : ℕ) → (dir name target : List ℕ) → Part CreateOk
Symlinks uid gid dir name target = SymlinksOver link_relations uid gid dir name target

abbrev pub MakesSymlink : (uid gid : ℕ) → (export path target : List ℕ) → Part (List ℕ)
MakesSymlink uid gid export path target = MakesSymlinkOver link_relations uid gid export path target

abbrev pub ReadsOut : (uid gid : ℕ) → (file : List ℕ) → (out out' : SinkAt) → Part (List ℕ)
ReadsOut uid gid file out out' = ReadsOutOver link_relations uid gid file out out'

abbrev pub WritesIn : (uid gid : ℕ) → (dir name : List ℕ) → (input input' : SourceAt) → Part (List ℕ)
WritesIn uid gid dir name input input' = WritesInOver link_relations uid gid dir name input input'

abbrev pub Gets : (uid gid : ℕ) → (export path : List ℕ) → (out out' : SinkAt) → Part (List ℕ)
Gets uid gid export path out out' = GetsOver link_relations uid gid export path out out'

abbrev pub Puts : (uid gid : ℕ) → (export path : List ℕ) → (input input' : SourceAt) → Part (List ℕ)
Puts uid gid export path input input' = PutsOver link_relations uid gid export path input input'
