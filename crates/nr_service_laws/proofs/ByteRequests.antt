-- Requests whose arguments are bytes make calls of bytes, if the outcomes of the calls before are bytes.
use Rattle.std.proofs.Common.{◌≡◌, ℕ, zero, suc, ◌+◌, ◌<◌, Bool, true, false, cond, eqb, ltb, List, [], ◌∷◌, length, take, drop, None, Some, Result, Ok, Err, refl, subst}
use Rattle.std.specs.Prelude.{fold}
use Rattle.std.specs.List.{AllByRecursion}
use Rattle.nr_xdr.specs.Item.{IsBytes}
use Rattle.nr_xdr.proofs.WordBytes.{IsBytes_drop, IsBytes_take}
use Rattle.nr_nfs_base.specs.Limits.{transfer_max}
use Rattle.nr_outside.specs.Whole.{input_max}
use Rattle.nr_reduce.specs.declared.call.Call.{Call}
use Rattle.nr_reduce.specs.declared.call.Outcome.{Outcome}
use Rattle.nr_script.proofs.ByteLists.{bytes_more, no_bytes_lem}
use Rattle.nr_byte_laws.specs.DueBytes.{OutcomeIsBytes}
use Rattle.nr_client.specs.declared.client_end.ClientEnd.{ClientEnd}
use Rattle.nr_client.specs.declared.client_end.ClientEnd.TheVariants as client
use Rattle.nr_client.specs.Following.{Next, asking, go_on}
use Rattle.nr_client.specs.Following.Next.{Calls, Returns}
use Rattle.nr_client.specs.Listing.{list_from, list_next, listed_after, none_listed, readdir_call}
use Rattle.nr_client.specs.Paths.{component_max, names_in, onto_first, path_names, pieces_of, slash, with_name, with_offsets}
use Rattle.nr_client.specs.Reading.{FileRead, OpenRead, file_read, next_read, offset_ahead, piece_left, read_ahead, read_call, reading}
use Rattle.nr_client.specs.Reading.FileRead.{NothingKnown, ReadEnds, SizeKnown}
use Rattle.nr_client.specs.Requests.{lookup_call}
use Rattle.nr_client.specs.Walking.{object_result, parent_along, parent_from, parent_next, walk_from, walk_next}
use Rattle.nr_client.specs.Writing.{FileWrite, after_write_reply, created_file, file_write, next_write, piece_at, with_count, with_handle, write_call, write_end, write_result, writing}
use Rattle.nr_client.specs.Writing.FileWrite.{Created, NotCreated, WriteEnds}
use Rattle.nr_service_laws.proofs.ByteCalls.{AreWords, IsByteCall, create_is, getattr_is, lookup_is, read_is, readdir_is, write_is}
use Rattle.nr_service_laws.proofs.ByteResults.{ReadsBytes, created_bytes, object_bytes}

-- The next call is of bytes, or the value has this property.
abbrev pub NextOfBytes : {A : Type 0} → (A → Type 0) → Next A → Type 0
NextOfBytes P (Calls call) = IsByteCall call
NextOfBytes P (Returns (Ok value)) = P value
NextOfBytes P (Returns (Err end)) = Unit {0}

-- So it is after any outcomes that are bytes.
abbrev pub RequestOfBytes : {A : Type 0} → (A → Type 0) → (List Outcome → Next A) → Type 0
RequestOfBytes P request = (outcomes : List Outcome) → AllByRecursion OutcomeIsBytes outcomes → NextOfBytes P (request outcomes)

abbrev pub Any : {A : Type 0} → A → Type 0
Any value = Unit {0}

abbrev pub PairOfBytes : List ℕ × List ℕ → Type 0
PairOfBytes pair = IsBytes pair.0 × IsBytes pair.1

goes_on : {A B : Type 0} (P : A → Type 0) (r : Result B ClientEnd) (next : B → Next A) → ((value : B) → r ≡ Ok value → NextOfBytes P (next value)) → NextOfBytes P (go_on r next)
goes_on P (Ok value) next h = h value refl
goes_on P (Err end) next h = tt

asks : {A B : Type 0} (P : A → Type 0) (Q : B → Type 0) (call : Call) (reads : Outcome → Result B ClientEnd) (next : B → List Outcome → Next A) → IsByteCall call → ReadsBytes Q reads
    → ((value : B) → Q value → RequestOfBytes P (next value)) → RequestOfBytes P (asking call reads next)
asks P Q call reads next own of_reads more [] all = own
asks P Q call reads next own of_reads more (outcome ∷ later) all =
    goes_on P (reads outcome) (λ value. next value later) (λ value is. more value (of_reads outcome value all.0 is) later all.1)

-- ---- Paths

abbrev AreOfParts : List (ℕ × List ℕ) → Type 0
AreOfParts components = AllByRecursion (λ (c : ℕ × List ℕ). IsBytes c.1) components

onto_lem : (byte : ℕ) (pieces : List (List ℕ)) → byte < 256 → AllByRecursion IsBytes pieces → AllByRecursion IsBytes (onto_first byte pieces)
onto_lem byte [] lt h = (bytes_more byte [] lt no_bytes_lem, tt)
onto_lem byte (piece ∷ pieces) lt h = (bytes_more byte piece lt h.0, h.1)

pieces_lem : (path : List ℕ) → IsBytes path → AllByRecursion IsBytes (pieces_of path)
pieces_lem [] h = (no_bytes_lem, tt)
pieces_lem (byte ∷ bytes) h = by (eqb byte slash) (pieces_lem bytes (λ i. h (suc i)))
  where
    by : (b : Bool) → AllByRecursion IsBytes (pieces_of bytes) → AllByRecursion IsBytes (cond b ([] ∷ pieces_of bytes) (onto_first byte (pieces_of bytes)))
    by true rest = (no_bytes_lem, rest)
    by false rest = onto_lem byte (pieces_of bytes) (h zero) rest

offsets_lem : (at : ℕ) (pieces : List (List ℕ)) → AllByRecursion IsBytes pieces → AreOfParts (with_offsets at pieces)
offsets_lem at [] h = tt
offsets_lem at ([] ∷ pieces) h = offsets_lem (suc at) pieces h.1
offsets_lem at ((byte ∷ piece) ∷ pieces) h = (h.0, offsets_lem (suc (at + suc (length piece))) pieces h.1)

named : (name : List ℕ) (r : Result (List (List ℕ)) ClientEnd) (names : List (List ℕ)) → IsBytes name → with_name name r ≡ Ok names
    → ((more : List (List ℕ)) → r ≡ Ok more → AllByRecursion IsBytes more) → AllByRecursion IsBytes names
named name (Ok more) names b e h = (let same : name ∷ more ≡ names = cc in subst (λ (l : List (List ℕ)). AllByRecursion IsBytes l) same (b, h more refl))
named name (Err end) names b e h = absurd cc

names_lem : (components : List (ℕ × List ℕ)) (names : List (List ℕ)) → AreOfParts components → names_in components ≡ Ok names → AllByRecursion IsBytes names
names_lem [] names h e = (let same : ◌≡◌ {A = List (List ℕ)} [] names = cc in subst (λ (l : List (List ℕ)). AllByRecursion IsBytes l) same tt)
names_lem (c ∷ rest) names h e = by (ltb component_max (length c.1)) e (λ more is. names_lem rest more h.1 is)
  where
    by : (b : Bool) → cond b (Err (client.BadPath c.0)) (with_name c.1 (names_in rest)) ≡ Ok names → ((more : List (List ℕ)) → names_in rest ≡ Ok more → AllByRecursion IsBytes more) → AllByRecursion IsBytes names
    by true e more = absurd cc
    by false e more = named c.1 (names_in rest) names h.0 e more

path_lem : (path : List ℕ) (names : List (List ℕ)) → IsBytes path → path_names path ≡ Ok names → AllByRecursion IsBytes names
path_lem path names h e = names_lem (with_offsets 0 (pieces_of path)) names (offsets_lem 0 (pieces_of path) (pieces_lem path h)) e

-- ---- Along a path

walks_from : (uid gid : ℕ) → AreWords uid gid → (names : List (List ℕ)) → AllByRecursion IsBytes names → (dir : List ℕ) → IsBytes dir → RequestOfBytes IsBytes (walk_from uid gid dir names)
walks_from uid gid words [] n dir d = λ outcomes all. d
walks_from uid gid words (name ∷ names) n dir d =
    asks IsBytes IsBytes (lookup_call uid gid dir name) object_result (λ object. walk_from uid gid object names) (lookup_is uid gid dir name words d n.0) object_bytes
    (λ object o. walks_from uid gid words names n.1 object o)

parents_from : (uid gid : ℕ) → AreWords uid gid → (name : List ℕ) (names : List (List ℕ)) → IsBytes name → AllByRecursion IsBytes names → (dir : List ℕ) → IsBytes dir
    → RequestOfBytes PairOfBytes (parent_from uid gid dir name names)
parents_from uid gid words name [] b n dir d = λ outcomes all. (d, b)
parents_from uid gid words name (next ∷ names) b n dir d =
    asks PairOfBytes IsBytes (lookup_call uid gid dir name) object_result (λ object. parent_from uid gid object next names) (lookup_is uid gid dir name words d b) object_bytes
    (λ object o. parents_from uid gid words next names n.0 n.1 object o)

parents_along : (uid gid : ℕ) → AreWords uid gid → (dir : List ℕ) (at : ℕ) (names : List (List ℕ)) → IsBytes dir → AllByRecursion IsBytes names → RequestOfBytes PairOfBytes (parent_along uid gid dir at names)
parents_along uid gid words dir at [] d n = λ outcomes all. tt
parents_along uid gid words dir at (name ∷ names) d n = parents_from uid gid words name names n.0 n.1 dir d

pub walks : (uid gid : ℕ) (root path : List ℕ) → AreWords uid gid → IsBytes root → IsBytes path → RequestOfBytes IsBytes (walk_next uid gid root path)
walks uid gid root path words r p =
    λ outcomes all. goes_on IsBytes (path_names path) (λ names. walk_from uid gid root names outcomes) (λ names is. walks_from uid gid words names (path_lem path names p is) root r outcomes all)

pub walks_to_parent : (uid gid : ℕ) (root path : List ℕ) → AreWords uid gid → IsBytes root → IsBytes path → RequestOfBytes PairOfBytes (parent_next uid gid root path)
walks_to_parent uid gid root path words r p =
    λ outcomes all. goes_on PairOfBytes (path_names path) (λ names. parent_along uid gid root (length path) names outcomes)
    (λ names is. parents_along uid gid words root (length path) names r (path_lem path names p is) outcomes all)

-- ---- A directory that is listed

lists_from : (uid gid : ℕ) (dir : List ℕ) → AreWords uid gid → IsBytes dir → (listed : _) → RequestOfBytes Any (list_from uid gid dir listed)
lists_from uid gid dir words d listed [] all = by listed.eof
  where
    by : (b : Bool) → NextOfBytes Any (cond b (Returns (Ok listed.names)) (Calls (readdir_call uid gid dir listed.cookie listed.verifier)))
    by true = tt
    by false = readdir_is uid gid dir listed.cookie listed.verifier words d
lists_from uid gid dir words d listed (outcome ∷ later) all =
    goes_on Any (listed_after listed outcome) (λ more. list_from uid gid dir more later) (λ more is. lists_from uid gid dir words d more later all.1)

pub lists : (uid gid : ℕ) (dir : List ℕ) → AreWords uid gid → IsBytes dir → RequestOfBytes Any (list_next uid gid dir)
lists uid gid dir words d = lists_from uid gid dir words d none_listed

-- ---- A file that is read

next_read_lem : (uid gid : ℕ) (file : List ℕ) → AreWords uid gid → IsBytes file → (s : FileRead) → NextOfBytes Any (next_read uid gid file s)
next_read_lem uid gid file words f NothingKnown = getattr_is uid gid file words f
next_read_lem uid gid file words f (SizeKnown size at bytes) = by (ltb at size)
  where
    by : (b : Bool) → NextOfBytes {A = Unit {0}} Any (cond b (Calls (read_call uid gid file at (piece_left size at))) (Returns (Ok tt)))
    by true = read_is uid gid file at (piece_left size at) words f
    by false = tt
next_read_lem uid gid file words f (ReadEnds end bytes) = tt

pub reads_next : (uid gid : ℕ) (file : List ℕ) (outcomes : List Outcome) (call : Call) → AreWords uid gid → IsBytes file → reading uid gid file outcomes ≡ Calls call → IsByteCall call
reads_next uid gid file outcomes call words f is = subst (λ (n : Next (Unit {0})). NextOfBytes Any n) is (next_read_lem uid gid file words f (file_read outcomes))

pub reads_ahead : (uid gid : ℕ) (file : List ℕ) (s : FileRead) (reads : List OpenRead) (call : Call) → AreWords uid gid → IsBytes file → read_ahead uid gid file s reads ≡ Some call → IsByteCall call
reads_ahead uid gid file NothingKnown reads call words f e = absurd cc
reads_ahead uid gid file (SizeKnown size at bytes) reads call words f e = by (ltb (offset_ahead size at reads) size) e
  where
    by : (b : Bool) → cond b (Some (read_call uid gid file (offset_ahead size at reads) (piece_left size (offset_ahead size at reads)))) None ≡ Some call → IsByteCall call
    by true e =
        let same : read_call uid gid file (offset_ahead size at reads) (piece_left size (offset_ahead size at reads)) ≡ call = cc in
        subst IsByteCall same (read_is uid gid file (offset_ahead size at reads) (piece_left size (offset_ahead size at reads)) words f)
    by false e = absurd cc
reads_ahead uid gid file (ReadEnds end bytes) reads call words f e = absurd cc

-- ---- A file that is written

abbrev WriteOfBytes : FileWrite → Type 0
WriteOfBytes NotCreated = Unit {0}
WriteOfBytes (Created file at) = IsBytes file
WriteOfBytes (WriteEnds end) = Unit {0}

handle_write : (r : Result (List ℕ) ClientEnd) → ((file : List ℕ) → r ≡ Ok file → IsBytes file) → WriteOfBytes (with_handle r)
handle_write (Ok file) h = h file refl
handle_write (Err end) h = tt

count_write : (file : List ℕ) (at : ℕ) (r : Result ℕ ClientEnd) → IsBytes file → WriteOfBytes (with_count file at r)
count_write file at (Ok count) f = f
count_write file at (Err end) f = tt

after_write : (input : List ℕ) (s : FileWrite) (outcome : Outcome) → WriteOfBytes s → OutcomeIsBytes outcome → WriteOfBytes (after_write_reply input s outcome)
after_write input NotCreated outcome h o = handle_write (created_file outcome) (λ file is. created_bytes outcome file o is)
after_write input (Created file at) outcome h o = count_write file at (write_result (length (piece_at input at)) outcome) h
after_write input (WriteEnds end) outcome h o = tt

after_writes : (input : List ℕ) (s : FileWrite) (outcomes : List Outcome) → WriteOfBytes s → AllByRecursion OutcomeIsBytes outcomes → WriteOfBytes (fold (after_write_reply input) s outcomes)
after_writes input s [] h all = h
after_writes input s (outcome ∷ outcomes) h all = after_writes input (after_write_reply input s outcome) outcomes (after_write input s outcome h all.0) all.1

returned : (r : Result (Unit {0}) ClientEnd) → NextOfBytes Any (Returns r)
returned (Ok done) = tt
returned (Err end) = tt

next_write_lem : (uid gid : ℕ) (dir name input : List ℕ) → AreWords uid gid → IsBytes dir → IsBytes name → IsBytes input → (s : FileWrite) → WriteOfBytes s → NextOfBytes Any (next_write uid gid dir name input s)
next_write_lem uid gid dir name input words d n i NotCreated h = create_is uid gid dir name words d n
next_write_lem uid gid dir name input words d n i (Created file at) h = by (ltb at (length (take input_max input)))
  where
    by : (b : Bool) → NextOfBytes Any (cond b (Calls (write_call uid gid file at (piece_at input at))) (Returns (write_end input)))
    by true =
        write_is uid gid file at (piece_at input at) words h
        (IsBytes_take transfer_max (drop at (take input_max input)) (IsBytes_drop at (take input_max input) (IsBytes_take input_max input i)))
    by false = returned (write_end input)
next_write_lem uid gid dir name input words d n i (WriteEnds end) h = tt

pub writes : (uid gid : ℕ) (dir name input : List ℕ) → AreWords uid gid → IsBytes dir → IsBytes name → IsBytes input → RequestOfBytes Any (writing uid gid dir name input)
writes uid gid dir name input words d n i outcomes all = next_write_lem uid gid dir name input words d n i (file_write input outcomes) (after_writes input NotCreated outcomes tt all)
