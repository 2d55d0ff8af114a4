-- What each request makes of outcomes that are judged call by call.
use Rattle.std.proofs.Common.{◌≡◌, ℕ, ◌%◌, ◌<◌, ◌≤◌, Bool, true, false, cond, List, [], ◌∷◌, ◌++◌, length, map, take, drop, fold, Result, Ok, Err, inl, inr, refl, sym, ap, subst, ◌∙◌, arith, append-nil, append_assoc, ltb-true, mod-lt, length-take, length-drop}
use Rattle.std.specs.Prelude.{◌⊎◌, nat_lt, ltb}
use Rattle.nr_outside.specs.Whole.{input_max}
use Rattle.nr_nfs_base.specs.Limits.{transfer_max}
use Rattle.nr_nfs_base.specs.declared.attributes.Attributes.{Attributes}
use Rattle.nr_nfs_base.specs.declared.verifier.Verifier.{Verifier}
use Rattle.nr_nfs_res.specs.Readdir.{ReaddirOk}
use Rattle.nr_nfs_res.specs.declared.bytes.ReadOk.{ReadOk}
use Rattle.nr_nfs_res.specs.declared.readdir.Entry.{Entry}
use Rattle.nr_reduce.specs.declared.call.Call.{Call}
use Rattle.nr_reduce.specs.declared.call.Outcome.{Outcome}
use Rattle.nr_client.specs.declared.client_end.ClientEnd.{ClientEnd}
use Rattle.nr_client.specs.declared.client_end.ClientEnd.TheVariants as client
use Rattle.nr_client.specs.Following.{Next, go_on}
use Rattle.nr_client.specs.Following.Next.{Calls, Returns}
use Rattle.nr_client.specs.Listing.{entries_max, eof_offset, is_stuck, list_from, list_next, listed_after, listed_or, no_progress, none_listed, readdir_call, readdir_result}
use Rattle.nr_client.specs.Paths.{component_max, components_of, names_in, path_names, with_name}
use Rattle.nr_client.specs.Reading.{FileRead, after_reply, next_read, piece_left, read_call, read_result, reading, with_data, with_size}
use Rattle.nr_client.specs.Reading.FileRead.{NothingKnown, ReadEnds, SizeKnown}
use Rattle.nr_client.specs.Requests.{create_result, getattr_call, getattr_result, lookup_call, mkdir_call, mnt_call, mnt_result, readlink_call, readlink_result, remove_call, remove_result, symlink_call}
use Rattle.nr_client.specs.Walking.{object_result, parent_along, parent_from, parent_next, walk_from, walk_next}
use Rattle.nr_client.specs.Writing.{FileWrite, after_write_reply, create_call, created_file, next_write, piece_at, with_count, with_handle, write_call, write_end, write_result, writing}
use Rattle.nr_client.specs.Writing.FileWrite.{Created, NotCreated, WriteEnds}
use Rattle.nr_service_laws.specs.PeerEnds.{LacksName}
use Rattle.nr_service_laws.specs.ReplyEnds.{AreAnswers}

-- ---- Results

-- an end that is read of a reply, or of a path: never one of the link, of the dialer, of the input or of the output
abbrev pub IsReadEnd : (ClientEnd → Type 0) → ClientEnd → Type 0
IsReadEnd F client.DialFault = ⊥
IsReadEnd F (client.Link end) = ⊥
IsReadEnd F client.InputFault = ⊥
IsReadEnd F client.OutputFault = ⊥
IsReadEnd F end = F end

abbrev pub ResultIs : {A : Type 0} → (A → Type 0) → (ClientEnd → Type 0) → Result A ClientEnd → Type 0
ResultIs V F (Ok value) = V value
ResultIs V F (Err end) = IsReadEnd F end

abbrev pub Any : {A : Type 0} → A → Type 0
Any value = Unit {0}

pub either_is : {A : Type 0} (V : A → Type 0) (F : ClientEnd → Type 0) (b : Bool) (x y : Result A ClientEnd) → ResultIs V F x → ResultIs V F y → ResultIs V F (cond b x y)
either_is V F true x y f g = f
either_is V F false x y f g = g

-- how the outcome of a READDIR ends a list: it is no results; or these list nothing, and are not the end; or too much is listed
abbrev pub ReaddirEnds : Outcome → ClientEnd → Type 0
ReaddirEnds o end =
    (readdir_result o ≡ Err end)
    ⊎ ((listing : ReaddirOk) × ((readdir_result o ≡ Ok listing) × (((is_stuck listing ≡ true) × (end ≡ client.BadReply (eof_offset o) no_progress)) ⊎ (end ≡ client.Budget entries_max))))

-- R judges the outcome of a call, V the file handles, F the ends. Each result of a call whose outcome is judged so has such a value or such an end.
pub record Judgement (R : Call → Outcome → Type 0) (V : List ℕ → Type 0) (F : ClientEnd → Type 0) (uid gid : ℕ) : Type 0 where
  pub mounted : (export : List ℕ) (o : Outcome) → R (mnt_call uid gid export) o → ResultIs V F (mnt_result o)
  pub found : (dir name : List ℕ) (o : Outcome) → R (lookup_call uid gid dir name) o → ResultIs V F (object_result o)
  pub attributes : (file : List ℕ) (o : Outcome) → R (getattr_call uid gid file) o → ResultIs Any F (getattr_result o)
  pub link_read : (file : List ℕ) (o : Outcome) → R (readlink_call uid gid file) o → ResultIs Any F (readlink_result o)
  pub directory_made : (dir name : List ℕ) (o : Outcome) → R (mkdir_call uid gid dir name) o → ResultIs Any F (create_result o)
  pub link_made : (dir name path : List ℕ) (o : Outcome) → R (symlink_call uid gid dir name path) o → ResultIs Any F (create_result o)
  pub removed : (dir name : List ℕ) (o : Outcome) → R (remove_call uid gid dir name) o → ResultIs Any F (remove_result o)
  pub created : (dir name : List ℕ) (o : Outcome) → R (create_call uid gid dir name) o → ResultIs V F (created_file o)
  pub read : (file : List ℕ) (offset count : ℕ) (o : Outcome) → V file → 0 < count → count ≤ transfer_max → R (read_call uid gid file offset count) o → ResultIs Any F (read_result count o)
  pub written : (file : List ℕ) (offset : ℕ) (bytes : List ℕ) (o : Outcome) → V file → 0 < length bytes → length bytes ≤ transfer_max → R (write_call uid gid file offset bytes) o
      → ResultIs Any F (write_result (length bytes) o)
  pub listed : (dir : List ℕ) (cookie : ℕ) (verifier : Verifier) (earlier : List Outcome) (o : Outcome) (end : ClientEnd) → AreAnswers R (list_next uid gid dir) earlier
      → list_next uid gid dir earlier ≡ Calls (readdir_call uid gid dir cookie verifier) → R (readdir_call uid gid dir cookie verifier) o
      → list_next uid gid dir (earlier ++ o ∷ []) ≡ Returns (Err end) → ReaddirEnds o end → IsReadEnd F end

-- ---- What is listed

ends_with : (o : Outcome) (end : ClientEnd) (so_far : _) (r : Result ReaddirOk ClientEnd) → readdir_result o ≡ r → listed_or so_far (eof_offset o) r ≡ Err end → ReaddirEnds o end
ends_with o end so_far (Err e) is same = inl (is ∙ (let first : e ≡ end = cc in ap (λ (x : ClientEnd). Err x) first))
ends_with o end so_far (Ok listing) is same =
    inr (listing, (is, by (ltb entries_max (length (so_far.names ++ map (λ (entry : Entry). entry.name) listing.entries))) (is_stuck listing) refl _ same))
  where
    by : {A : Type 0} (long stuck : Bool) → is_stuck listing ≡ stuck → (x : A) → ◌≡◌ {A = Result A ClientEnd} (cond long (Err (client.Budget entries_max)) (cond stuck (Err (client.BadReply (eof_offset o) no_progress)) (Ok x))) (Err end)
        → ((is_stuck listing ≡ true) × (end ≡ client.BadReply (eof_offset o) no_progress)) ⊎ (end ≡ client.Budget entries_max)
    by true stuck stuck_is x same = (let e : client.Budget entries_max ≡ end = cc in inr (sym e))
    by false true stuck_is x same = (let e : client.BadReply (eof_offset o) no_progress ≡ end = cc in inl (stuck_is, sym e))
    by false false stuck_is x same = absurd (let wrong = same in cc)

pub readdir_ends : (so_far : _) (o : Outcome) (end : ClientEnd) → listed_after so_far o ≡ Err end → ReaddirEnds o end
readdir_ends so_far o end same = ends_with o end so_far (readdir_result o) refl same

-- ---- Several calls

abbrev pub NextIs : {A : Type 0} → (A → Type 0) → (ClientEnd → Type 0) → Next A → Type 0
NextIs V F (Calls call) = Unit {0}
NextIs V F (Returns result) = ResultIs V F result

-- what a request makes of such outcomes
abbrev pub RequestIs : (Call → Outcome → Type 0) → {A : Type 0} → (A → Type 0) → (ClientEnd → Type 0) → (List Outcome → Next A) → Type 0
RequestIs R V F request = (outcomes : List Outcome) → AreAnswers R request outcomes → NextIs V F (request outcomes)

abbrev call_in : {A : Type 0} → Call → Next A → Call
call_in other (Calls call) = call
call_in other (Returns result) = other

-- it is the call that the request makes
at_call : {A : Type 0} (R : Call → Outcome → Type 0) (call : Call) (o : Outcome) → (x : Call) × ((◌≡◌ {A = Next A} (Calls call) (Calls x)) × R x o) → R call o
at_call {A} R call o (x, (is, judged)) = subst (λ (y : Call). R y o) (sym (ap (call_in {A = A} call) is)) judged

go_on_is : {A B : Type 0} (R : Call → Outcome → Type 0) (V : B → Type 0) (W : A → Type 0) (F : ClientEnd → Type 0) (r : Result B ClientEnd) (next : B → List Outcome → Next A) (outcomes : List Outcome)
    → ResultIs V F r → AreAnswers R (λ os. go_on r (λ value. next value os)) outcomes → ((value : B) → V value → AreAnswers R (next value) outcomes → NextIs W F (next value outcomes))
    → NextIs W F (go_on r (λ value. next value outcomes))
go_on_is R V W F (Ok value) next outcomes is are goes = goes value is are
go_on_is R V W F (Err end) next outcomes is are goes = is

-- one outcome more
pub answers_more : (R : Call → Outcome → Type 0) {A : Type 0} (request : List Outcome → Next A) (outcomes : List Outcome) (call : Call) (o : Outcome)
    → AreAnswers R request outcomes → request outcomes ≡ Calls call → R call o → AreAnswers R request (outcomes ++ o ∷ [])
answers_more R request [] call o are is judged = ((call, (is, judged)), tt)
answers_more R request (first ∷ outcomes) call o (one, are) is judged = (one, answers_more R (λ os. request (first ∷ os)) outcomes call o are is judged)

-- ---- The components of a path

-- a path gives names, or it is bad
names_end : (components : List (ℕ × List ℕ)) (end : ClientEnd) → names_in components ≡ Err end → (at : ℕ) × (end ≡ client.BadPath at)
names_end [] end is = absurd (let wrong = is in cc)
names_end (component ∷ rest) end is = by (ltb component_max (length component.1)) (names_in rest) is (λ e same. names_end rest e same)
  where
    by : (b : Bool) (r : Result (List (List ℕ)) ClientEnd) → cond b (Err (client.BadPath component.0)) (with_name component.1 r) ≡ Err end
        → ((e : ClientEnd) → r ≡ Err e → (at : ℕ) × (e ≡ client.BadPath at)) → (at : ℕ) × (end ≡ client.BadPath at)
    by true r same more = (let e : client.BadPath component.0 ≡ end = cc in (component.0, sym e))
    by false (Ok names) same more = absurd (let wrong = same in cc)
    by false (Err e) same more = (let is : e ≡ end = cc in subst (λ (x : ClientEnd). (at : ℕ) × (x ≡ client.BadPath at)) is (more e refl))

path_is : (F : ClientEnd → Type 0) (path : List ℕ) → ((at : ℕ) → path_names path ≡ Err (client.BadPath at) → F (client.BadPath at)) → ResultIs (λ (names : List (List ℕ)). path_names path ≡ Ok names) F (path_names path)
path_is F path bad = by (path_names path) refl
  where
    by : (r : Result (List (List ℕ)) ClientEnd) → path_names path ≡ r → ResultIs (λ (names : List (List ℕ)). path_names path ≡ Ok names) F r
    by (Ok names) is = is
    by (Err end) is =
        let found = names_end (components_of path) end is in
        subst (λ (e : ClientEnd). IsReadEnd F e) (sym found.1) (bad found.0 (is ∙ ap (λ (e : ClientEnd). Err e) found.1))

-- the same of a path that needs a name
abbrev pub BadParent : (ClientEnd → Type 0) → List ℕ → Type 0
BadParent F path = (at : ℕ) → LacksName path at → F (client.BadPath at)

module _ (R : Call → Outcome → Type 0) (V : List ℕ → Type 0) (F : ClientEnd → Type 0) (uid gid : ℕ) (judge : Judgement R V F uid gid) where
  -- ---- Paths

  walk_from_is : (dir : List ℕ) (names : List (List ℕ)) → V dir → RequestIs R V F (walk_from uid gid dir names)
  walk_from_is dir [] holds outcomes are = holds
  walk_from_is dir (name ∷ names) holds [] are = tt
  walk_from_is dir (name ∷ names) holds (o ∷ later) (one, are) =
      go_on_is R V V F (object_result o) (λ object. walk_from uid gid object names) later
      (judge.found dir name o (at_call {A = List ℕ} R (lookup_call uid gid dir name) o one)) are
      (λ object is rest. walk_from_is object names is later rest)

  parent_from_is : (dir name : List ℕ) (names : List (List ℕ)) → V dir → RequestIs R (λ (p : List ℕ × List ℕ). V p.0) F (parent_from uid gid dir name names)
  parent_from_is dir name [] holds outcomes are = holds
  parent_from_is dir name (next ∷ names) holds [] are = tt
  parent_from_is dir name (next ∷ names) holds (o ∷ later) (one, are) =
      go_on_is R V (λ (p : List ℕ × List ℕ). V p.0) F (object_result o) (λ object. parent_from uid gid object next names) later
      (judge.found dir name o (at_call {A = List ℕ × List ℕ} R (lookup_call uid gid dir name) o one)) are
      (λ object is rest. parent_from_is object next names is later rest)

  parent_along_is : (dir : List ℕ) (at : ℕ) (names : List (List ℕ)) → V dir → (names ≡ [] → F (client.BadPath at)) → RequestIs R (λ (p : List ℕ × List ℕ). V p.0) F (parent_along uid gid dir at names)
  parent_along_is dir at [] holds none outcomes are = none refl
  parent_along_is dir at (name ∷ names) holds none outcomes are = parent_from_is dir name names holds outcomes are

  pub walk_is : (root path : List ℕ) → V root → ((at : ℕ) → path_names path ≡ Err (client.BadPath at) → F (client.BadPath at)) → RequestIs R V F (walk_next uid gid root path)
  walk_is root path holds bad outcomes are =
      go_on_is R (λ (names : List (List ℕ)). path_names path ≡ Ok names) V F (path_names path) (λ names. walk_from uid gid root names) outcomes (path_is F path bad) are
      (λ names is rest. walk_from_is root names holds outcomes rest)

  pub parent_is : (root path : List ℕ) → V root → BadParent F path → RequestIs R (λ (p : List ℕ × List ℕ). V p.0) F (parent_next uid gid root path)
  parent_is root path holds bad outcomes are =
      go_on_is R (λ (names : List (List ℕ)). path_names path ≡ Ok names) (λ (p : List ℕ × List ℕ). V p.0) F (path_names path) (λ names. parent_along uid gid root (length path) names) outcomes
      (path_is F path (λ at is. bad at (inl is))) are
      (λ names is rest. parent_along_is root (length path) names holds (λ none. bad (length path) (inr (is ∙ ap (λ (n : List (List ℕ)). Ok n) none, refl))) outcomes rest)

  -- ---- A list

  either_next : {A : Type 0} (W : A → Type 0) (b : Bool) (x y : Next A) → NextIs W F x → NextIs W F y → NextIs W F (cond b x y)
  either_next W true x y f g = f
  either_next W false x y f g = g

  no_return : {A : Type 0} (W : Type 0) (result : Result A ClientEnd) (call : Call) → ◌≡◌ {A = Next A} (Returns result) (Calls call) → W
  no_return W result call is = absurd (let wrong = is in cc)

  -- a call that is made only in one case
  if_made : {A : Type 0} (b : Bool) (call : Call) (result : Result A ClientEnd) (o : Outcome) → (x : Call) × ((◌≡◌ {A = Next A} (cond b (Calls call) (Returns result)) (Calls x)) × R x o) → R call o × (b ≡ true)
  if_made {A} true call result o made = (at_call {A = A} R call o made, refl)
  if_made false call result o (x, (is, judged)) = no_return _ result x is

  if_returned : {A : Type 0} (b : Bool) (call : Call) (result : Result A ClientEnd) (o : Outcome) → (x : Call) × ((◌≡◌ {A = Next A} (cond b (Returns result) (Calls call)) (Calls x)) × R x o) → R call o
  if_returned {A} false call result o made = at_call {A = A} R call o made
  if_returned true call result o (x, (is, judged)) = no_return _ result x is

  -- the call that is made, if one is
  is_call : {A : Type 0} (b : Bool) (result : Result A ClientEnd) (call x : Call) → ◌≡◌ {A = Next A} (cond b (Returns result) (Calls call)) (Calls x) → call ≡ x
  is_call {A} true result call x is = no_return _ result x is
  is_call {A} false result call x is = ap (call_in {A = A} call) is

  list_from_is : (dir : List ℕ) (earlier : List Outcome) (so_far : _) → AreAnswers R (list_next uid gid dir) earlier
      → ((os : List Outcome) → list_next uid gid dir (earlier ++ os) ≡ list_from uid gid dir so_far os) → RequestIs R Any F (list_from uid gid dir so_far)
  list_from_is dir earlier so_far answers same [] are = either_next Any so_far.eof (Returns (Ok so_far.names)) (Calls (readdir_call uid gid dir so_far.cookie so_far.verifier)) tt tt
  list_from_is dir earlier so_far answers same (o ∷ later) ((x, (is, judged)), are) =
      go_on_is R (λ more. listed_after so_far o ≡ Ok more) Any F (listed_after so_far o) (λ more. list_from uid gid dir more) later (by (listed_after so_far o) refl) are
      (λ more goes rest. list_from_is dir (earlier ++ o ∷ []) more (answers_more R (list_next uid gid dir) earlier x o answers at_call judged)
      (λ os. ap (list_next uid gid dir) (append_assoc earlier (o ∷ []) os) ∙ same (o ∷ os) ∙ ap (λ r. go_on r (λ m. list_from uid gid dir m os)) goes) later rest)
    where
      at_call : list_next uid gid dir earlier ≡ Calls x
      at_call = sym (ap (list_next uid gid dir) (append-nil earlier)) ∙ same [] ∙ is

      made : readdir_call uid gid dir so_far.cookie so_far.verifier ≡ x
      made = is_call {A = List (List ℕ)} so_far.eof (Ok so_far.names) (readdir_call uid gid dir so_far.cookie so_far.verifier) x is

      by : (r : _) → listed_after so_far o ≡ r → ResultIs (λ more. listed_after so_far o ≡ Ok more) F r
      by (Ok more) goes = goes
      by (Err end) ends =
          judge.listed dir so_far.cookie so_far.verifier earlier o end answers (subst (λ (c : Call). list_next uid gid dir earlier ≡ Calls c) (sym made) at_call) (subst (λ (c : Call). R c o) (sym made) judged)
          (same (o ∷ []) ∙ ap (λ r. go_on r (λ m. list_from uid gid dir m [])) ends) (readdir_ends so_far o end ends)

  pub list_is : (dir : List ℕ) → RequestIs R Any F (list_next uid gid dir)
  list_is dir = list_from_is dir [] none_listed tt (λ os. refl)

  -- ---- A file that is read

  abbrev ReadIs : FileRead → Type 0
  ReadIs NothingKnown = Unit {0}
  ReadIs (SizeKnown size at bytes) = Unit {0}
  ReadIs (ReadEnds end bytes) = IsReadEnd F end

  size_is : (r : Result Attributes ClientEnd) → ResultIs Any F r → ReadIs (with_size r)
  size_is (Ok attributes) is = tt
  size_is (Err end) is = is

  data_is : (size at : ℕ) (bytes : List ℕ) (r : Result ReadOk ClientEnd) → ResultIs Any F r → ReadIs (with_data size at bytes r)
  data_is size at bytes (Ok results) is = tt
  data_is size at bytes (Err end) is = is

  piece_fits : (size at : ℕ) → at < size → (0 < piece_left size at) × (piece_left size at ≤ transfer_max)
  piece_fits size at lt = let within : at % transfer_max < transfer_max = mod-lt at (omega arith) in (omega (arith, lt, within), omega (arith, lt, within))

  one_read_is : (file : List ℕ) (state : FileRead) (o : Outcome) → V file → (call : Call) × ((next_read uid gid file state ≡ Calls call) × R call o) → ReadIs (after_reply state o)
  one_read_is file NothingKnown o holds one = size_is (getattr_result o) (judge.attributes file o (at_call {A = Unit {0}} R (getattr_call uid gid file) o one))
  one_read_is file (SizeKnown size at bytes) o holds one =
      let made = if_made {A = Unit {0}} (nat_lt at size) (read_call uid gid file at (piece_left size at)) (Ok tt) o one in
      let fits = piece_fits size at (ltb-true at size made.1) in
      data_is size at bytes (read_result (piece_left size at) o) (judge.read file at (piece_left size at) o holds fits.0 fits.1 made.0)
  one_read_is file (ReadEnds end bytes) o holds (call, (is, judged)) = no_return _ (Err end) call is

  next_read_is : (file : List ℕ) (state : FileRead) → ReadIs state → NextIs Any F (next_read uid gid file state)
  next_read_is file NothingKnown is = tt
  next_read_is file (SizeKnown size at bytes) is = either_next Any (nat_lt at size) (Calls (read_call uid gid file at (piece_left size at))) (Returns (Ok tt)) tt tt
  next_read_is file (ReadEnds end bytes) is = is

  reading_from_is : (file : List ℕ) (state : FileRead) → V file → ReadIs state → RequestIs R Any F (λ os. next_read uid gid file (fold after_reply state os))
  reading_from_is file state holds is [] are = next_read_is file state is
  reading_from_is file state holds is (o ∷ later) (one, are) = reading_from_is file (after_reply state o) holds (one_read_is file state o holds one) later are

  pub reading_is : (file : List ℕ) → V file → RequestIs R Any F (reading uid gid file)
  reading_is file holds = reading_from_is file NothingKnown holds tt

  -- ---- A file that is written

  abbrev WriteIs : FileWrite → Type 0
  WriteIs NotCreated = Unit {0}
  WriteIs (Created file at) = V file
  WriteIs (WriteEnds end) = IsReadEnd F end

  with_handle_is : (r : Result (List ℕ) ClientEnd) → ResultIs V F r → WriteIs (with_handle r)
  with_handle_is (Ok file) is = is
  with_handle_is (Err end) is = is

  with_count_is : (file : List ℕ) (at : ℕ) (r : Result ℕ ClientEnd) → V file → ResultIs Any F r → WriteIs (with_count file at r)
  with_count_is file at (Ok count) holds is = holds
  with_count_is file at (Err end) holds is = is

  sent_fits : (input : List ℕ) (at : ℕ) → at < length (take input_max input) → (0 < length (piece_at input at)) × (length (piece_at input at) ≤ transfer_max)
  sent_fits input at lt =
      let cut = length-take transfer_max (drop at (take input_max input)) in
      let left = length-drop at (take input_max input) in
      (omega (arith, lt, cut, left), omega (arith, lt, cut, left))

  one_write_is : (dir name input : List ℕ) (state : FileWrite) (o : Outcome) → WriteIs state → (call : Call) × ((next_write uid gid dir name input state ≡ Calls call) × R call o)
      → WriteIs (after_write_reply input state o)
  one_write_is dir name input NotCreated o is one = with_handle_is (created_file o) (judge.created dir name o (at_call {A = Unit {0}} R (create_call uid gid dir name) o one))
  one_write_is dir name input (Created file at) o is one =
      let made = if_made {A = Unit {0}} (nat_lt at (length (take input_max input))) (write_call uid gid file at (piece_at input at)) (write_end input) o one in
      let fits = sent_fits input at (ltb-true at (length (take input_max input)) made.1) in
      with_count_is file at (write_result (length (piece_at input at)) o) is (judge.written file at (piece_at input at) o is fits.0 fits.1 made.0)
  one_write_is dir name input (WriteEnds end) o is (call, (same, judged)) = no_return _ (Err end) call same

  within_is : (input : List ℕ) (b : Bool) → (b ≡ true → F (client.Budget input_max)) → ResultIs {A = Unit {0}} Any F (cond b (Err (client.Budget input_max)) (Ok tt))
  within_is input true over = over refl
  within_is input false over = tt

  next_write_is : (dir name input : List ℕ) (state : FileWrite) → (input_max < length input → F (client.Budget input_max)) → WriteIs state → NextIs Any F (next_write uid gid dir name input state)
  next_write_is dir name input NotCreated over is = tt
  next_write_is dir name input (Created file at) over is =
      either_next Any (nat_lt at (length (take input_max input))) (Calls (write_call uid gid file at (piece_at input at))) (Returns (write_end input)) tt
      (within_is input (nat_lt input_max (length input)) (λ long. over (ltb-true input_max (length input) long)))
  next_write_is dir name input (WriteEnds end) over is = is

  writing_from_is : (dir name input : List ℕ) (state : FileWrite) → (input_max < length input → F (client.Budget input_max)) → WriteIs state
      → RequestIs R Any F (λ os. next_write uid gid dir name input (fold (after_write_reply input) state os))
  writing_from_is dir name input state over is [] are = next_write_is dir name input state over is
  writing_from_is dir name input state over is (o ∷ later) (one, are) =
      writing_from_is dir name input (after_write_reply input state o) over (one_write_is dir name input state o is one) later are

  pub writing_is : (dir name input : List ℕ) → (input_max < length input → F (client.Budget input_max)) → RequestIs R Any F (writing uid gid dir name input)
  writing_is dir name input over = writing_from_is dir name input NotCreated over tt
