-- A listing, call after call.
use Rattle.std.proofs.Common.{◌≡◌, ◌⊎◌, ℕ, suc, ◌+◌, ◌-◌, ◌<◌, ◌≤◌, ltb, Bool, true, false, not, ◌&&◌, if◌then◌else◌, List, [], ◌∷◌, ◌++◌, length, map, drop, get_or, Result, Ok, Err, inl, inr, arith, refl, sym, ap, subst, ◌∙◌, append-nil, append_assoc, le-ltb, lt-ltb, ltb-false}
use Rattle.std.proofs.lemmas.List.{drop_all, drop_more, length-append, length-map}
use Rattle.nr_nfs_res.specs.Readdir.{ReaddirOk}
use Rattle.nr_nfs_res.specs.declared.readdir.Entry.{Entry}
use Rattle.nr_reduce.specs.declared.call.Call.{Call}
use Rattle.nr_reduce.specs.declared.call.Outcome.{Outcome}
use Rattle.nr_client.specs.declared.client_end.ClientEnd.{ClientEnd}
use Rattle.nr_client.specs.declared.client_end.ClientEnd.TheVariants as client
use Rattle.nr_client.specs.declared.listing.Listed.{Listed}
use Rattle.nr_client.specs.Following.{Next, FollowsOver}
use Rattle.nr_client.specs.Following.Next.{Calls, Returns}
use Rattle.nr_client.specs.Listing.{entries_max, eof_offset, is_empty, is_stuck, last_cookie, list_from, listed_after, listed_or, listed_with, no_progress, readdir_call, readdir_result}
use Rattle.nr_client.specs.Results.{Gives}
use Rattle.nr_client.specs.Relations.{CallRelations}
use Rattle.nr_client.specs.Requests.{AsksOver}
use Rattle.nr_client.proofs.Sequences.{LeadsTo, ends_there, given_end, gives_itself, goes_on, returns_at_once}

-- ---- From call to call

module _ {V : Type 0} (rel : CallRelations V) (uid gid : ℕ) (whole : List Outcome → Next (List (List ℕ))) (dir : List ℕ) (listed : Listed) (unfinished : listed.eof ≡ false) (b c d : V)
    (so_far : LeadsTo rel whole b (list_from uid gid dir listed) c) where
  first : list_from uid gid dir listed [] ≡ Calls (readdir_call uid gid dir listed.cookie listed.verifier)
  first = ap (λ (eof : Bool). if eof then Returns (Ok listed.names) else Calls (readdir_call uid gid dir listed.cookie listed.verifier)) unfinished

  pub list_goes_on : (more : Listed) → AsksOver rel (listed_after listed) (readdir_call uid gid dir listed.cookie listed.verifier) c d (Ok more) → LeadsTo rel whole b (list_from uid gid dir more) d
  list_goes_on more asks = λ e result rest.
      so_far e result
      (goes_on rel (list_from uid gid dir listed) (readdir_call uid gid dir listed.cookie listed.verifier) (listed_after listed) (list_from uid gid dir) more c d e result first (λ outcome. refl) asks rest)

  pub list_stops : (end : ClientEnd) → AsksOver rel (listed_after listed) (readdir_call uid gid dir listed.cookie listed.verifier) c d (Err end) → FollowsOver rel whole b d (Err end)
  list_stops end asks =
      so_far d (Err end)
      (ends_there rel (list_from uid gid dir listed) (readdir_call uid gid dir listed.cookie listed.verifier) (listed_after listed) (list_from uid gid dir) end c d first (λ outcome. refl) asks)

pub list_ends : {V : Type 0} (rel : CallRelations V) (uid gid : ℕ) (whole : List Outcome → Next (List (List ℕ))) (dir : List ℕ) (listed : Listed) (b c : V)
    → listed.eof ≡ true → LeadsTo rel whole b (list_from uid gid dir listed) c → FollowsOver rel whole b c (Ok listed.names)
list_ends {V} rel uid gid whole dir listed b c finished so_far =
    so_far c (Ok listed.names)
    (returns_at_once rel (list_from uid gid dir listed) (Ok listed.names) (Ok listed.names) c
    (ap (λ (eof : Bool). if eof then Returns (Ok listed.names) else Calls (readdir_call uid gid dir listed.cookie listed.verifier)) finished) refl)

-- ---- One part of the directory

-- what is listed with it, by the two tests
abbrev pub by_tests : (over stuck : Bool) → Listed → ReaddirOk → ℕ → Result Listed ClientEnd
by_tests over stuck listed listing at =
    if over then Err (client.Budget entries_max)
    else (if stuck then Err (client.BadReply at no_progress)
    else Ok (record {
      names = listed.names ++ map (λ (entry : Entry). entry.name) listing.entries;
      cookie = last_cookie listed.cookie listing.entries;
      verifier = listing.verifier;
      eof = listing.eof;
    }))

len_with : (listed : Listed) (listing : ReaddirOk) → length (listed.names ++ map (λ (entry : Entry). entry.name) listing.entries) ≡ length listed.names + length listing.entries
len_with listed listing =
    length-append listed.names (map (λ (entry : Entry). entry.name) listing.entries)
    ∙ ap (λ (n : ℕ). length listed.names + n) (length-map listing.entries (λ (entry : Entry). entry.name))

pub over_budget : (listed : Listed) (listing : ReaddirOk) (at : ℕ) → length listed.names ≤ entries_max → entries_max - length listed.names < length listing.entries
    → listed_with listed listing at ≡ Err (client.Budget entries_max)
over_budget listed listing at within over =
    let len = len_with listed listing in
    ap (λ (b : Bool). by_tests b (is_stuck listing) listed listing at)
    (lt-ltb entries_max (length (listed.names ++ map (λ (entry : Entry). entry.name) listing.entries)) (omega (arith, len, within, over)))

fits_budget : (listed : Listed) (listing : ReaddirOk) (at : ℕ) → length listed.names ≤ entries_max → length listing.entries ≤ entries_max - length listed.names
    → listed_with listed listing at ≡ by_tests false (is_stuck listing) listed listing at
fits_budget listed listing at within fits =
    let len = len_with listed listing in
    ap (λ (b : Bool). by_tests b (is_stuck listing) listed listing at)
    (le-ltb entries_max (length (listed.names ++ map (λ (entry : Entry). entry.name) listing.entries)) (omega (arith, len, within, fits)))

pub makes_no_progress : (listed : Listed) (listing : ReaddirOk) (at : ℕ) → length listed.names ≤ entries_max → length listing.entries ≤ entries_max - length listed.names
    → is_stuck listing ≡ true → listed_with listed listing at ≡ Err (client.BadReply at no_progress)
makes_no_progress listed listing at within fits stuck =
    fits_budget listed listing at within fits ∙ ap (λ (b : Bool). by_tests false b listed listing at) stuck

pub is_added : (listed more : Listed) (listing : ReaddirOk) (at : ℕ) → length listed.names ≤ entries_max → length listing.entries ≤ entries_max - length listed.names
    → is_stuck listing ≡ false
    → more.names ≡ listed.names ++ map (λ (entry : Entry). entry.name) listing.entries → more.cookie ≡ last_cookie listed.cookie listing.entries → more.verifier ≡ listing.verifier → more.eof ≡ listing.eof
    → listed_with listed listing at ≡ Ok more
is_added listed more listing at within fits goes names cookie verifier eof =
    let all : Ok more ≡ by_tests false false listed listing at = λ k. Ok (record { names = names k; cookie = cookie k; verifier = verifier k; eof = eof k }) in
    fits_budget listed listing at within fits ∙ ap (λ (b : Bool). by_tests false b listed listing at) goes ∙ sym all

-- how many more calls there are at most
abbrev pub calls_left : Listed → ℕ
calls_left listed = if listed.eof then 0 else suc (entries_max - length listed.names)

some_entry : (entries : List Entry) (eof : Bool) → (is_empty entries && not eof) ≡ false → (eof ≡ true) ⊎ (0 < length entries)
some_entry [] true goes = inl refl
some_entry [] false goes = absurd (let wrong : true ≡ false = goes in cc)
some_entry (entry ∷ entries) eof goes = inr (omega arith)

fewer : (eof : Bool) (names entries : ℕ) → (eof ≡ true) ⊎ (0 < entries) → names + entries ≤ entries_max → (if eof then 0 else suc (entries_max - (names + entries))) < suc (entries_max - names)
fewer true names entries some within = omega arith
fewer false names entries (inl wrong) within = absurd (let no : false ≡ true = wrong in cc)
fewer false names entries (inr more) within = omega (arith, more, within)

-- a listing after a call: it is within the maximum, and fewer calls are left
pub record Shrinks (listed more : Listed) : Type 0 where
  pub within : length more.names ≤ entries_max
  pub left : calls_left more < suc (entries_max - length listed.names)

abbrev pub in_ok : Listed → Result Listed ClientEnd → Listed
in_ok other (Ok more) = more
in_ok other (Err end) = other

shrinks_by : (over stuck : Bool) (listed more : Listed) (listing : ReaddirOk) (at : ℕ) → ltb entries_max (length (listed.names ++ map (λ (entry : Entry). entry.name) listing.entries)) ≡ over
    → is_stuck listing ≡ stuck → by_tests over stuck listed listing at ≡ Ok more → Shrinks listed more
shrinks_by true stuck listed more listing at over goes is = absurd (let wrong : Err (client.Budget entries_max) ≡ Ok more = is in cc)
shrinks_by false true listed more listing at over goes is = absurd (let wrong : Err (client.BadReply at no_progress) ≡ Ok more = is in cc)
shrinks_by false false listed more listing at over goes is =
    let len = len_with listed listing in
    let below = ltb-false entries_max (length (listed.names ++ map (λ (entry : Entry). entry.name) listing.entries)) over in
    let sum : length listed.names + length listing.entries ≤ entries_max = omega (arith, len, below) in
    let left = fewer listing.eof (length listed.names) (length listing.entries) (some_entry listing.entries listing.eof goes) sum in
    subst (λ (m : Listed). Shrinks listed m) (ap (λ (r : Result Listed ClientEnd). in_ok more r) is)
    (record {
      within = below;
      left = subst (λ (n : ℕ). (if listing.eof then 0 else suc (entries_max - n)) < suc (entries_max - length listed.names)) (sym len) left;
    })

pub shrinks : (listed more : Listed) (listing : ReaddirOk) (at : ℕ) → listed_with listed listing at ≡ Ok more → Shrinks listed more
shrinks listed more listing at is =
    shrinks_by (ltb entries_max (length (listed.names ++ map (λ (entry : Entry). entry.name) listing.entries))) (is_stuck listing) listed more listing at refl refl is

shrinks_or : (listed more : Listed) (at : ℕ) (read : Result ReaddirOk ClientEnd) → listed_or listed at read ≡ Ok more → Shrinks listed more
shrinks_or listed more at (Ok listing) is = shrinks listed more listing at is
shrinks_or listed more at (Err end) is = absurd (let wrong : Err end ≡ Ok more = is in cc)

pub asked_shrinks : {V : Type 0} (rel : CallRelations V) (call : Call) (listed more : Listed) (b c : V) → AsksOver rel (listed_after listed) call b c (Ok more) → Shrinks listed more
asked_shrinks {V} rel call listed more b c (inl (outcome, (answers, gives))) = shrinks_or listed more (eof_offset outcome) (readdir_result outcome) gives
asked_shrinks {V} rel call listed more b c (inr (inl (cause, (is, given_up)))) = absurd (let wrong : Ok more ≡ Err (client.Link cause) = is in cc)
asked_shrinks {V} rel call listed more b c (inr (inr (is, same))) = absurd (let wrong : Ok more ≡ Err client.Memory = is in cc)

-- ---- The results of a call

pub with_listing : (listed : Listed) (result : Result Listed ClientEnd) (outcome : Outcome) (listing : ReaddirOk) (at : ℕ)
    → readdir_result outcome ≡ Ok listing → at ≡ eof_offset outcome → Gives result (listed_with listed listing at) → Gives result (listed_after listed outcome)
with_listing listed result outcome listing at read offset gives =
    subst (λ (r : Result ReaddirOk ClientEnd). Gives result (listed_or listed (eof_offset outcome) r)) (sym read)
    (subst (λ (n : ℕ). Gives result (listed_with listed listing n)) offset gives)

pub without_listing : (listed : Listed) (outcome : Outcome) (end : ClientEnd) → Gives {A = ReaddirOk} (Err end) (readdir_result outcome) → Gives {A = Listed} (Err end) (listed_after listed outcome)
without_listing listed outcome end gives = by (given_end end (readdir_result outcome) gives)
  where
    by : (end ≡ client.Memory) ⊎ (readdir_result outcome ≡ Err end) → Gives {A = Listed} (Err end) (listed_after listed outcome)
    by (inl out) = subst (λ (e : ClientEnd). Gives {A = Listed} (Err e) (listed_after listed outcome)) (sym out) tt
    by (inr failed) = subst (λ (r : Result ReaddirOk ClientEnd). Gives {A = Listed} (Err end) (listed_or listed (eof_offset outcome) r)) (sym failed) (gives_itself Listed end)

-- ---- The entries of a reply

-- with the names so far, and those of the entries that are left, it is as with all entries
pub record Adding (names : List (List ℕ)) (cookie : ℕ) (entries : List Entry) (index : ℕ) (so_far : List (List ℕ)) (last : ℕ) : Type 0 where
  pub names_are : so_far ++ map (λ (entry : Entry). entry.name) (drop index entries) ≡ names ++ map (λ (entry : Entry). entry.name) entries
  pub cookie_is : last_cookie last (drop index entries) ≡ last_cookie cookie entries

pub adding_begins : (names : List (List ℕ)) (cookie : ℕ) (entries : List Entry) → Adding names cookie entries 0 names cookie
adding_begins names cookie entries = record { names_are = refl; cookie_is = refl }

pub adding_goes_on : (names : List (List ℕ)) (cookie : ℕ) (entries : List Entry) (index : ℕ) (so_far next : List (List ℕ)) (last : ℕ) (entry : Entry)
    → index < length entries → entry ≡ get_or entries index entry → next ≡ so_far ++ entry.name ∷ [] → Adding names cookie entries index so_far last → Adding names cookie entries (index + 1) next entry.cookie
adding_goes_on names cookie entries index so_far next last entry inside is pushed adding =
    let at : drop index entries ≡ entry ∷ drop (index + 1) entries = drop_more entries index entry inside ∙ ap (λ (e : Entry). e ∷ drop (index + 1) entries) (sym is) in
    record {
      names_are =
          ap (λ (ns : List (List ℕ)). ns ++ map (λ (e : Entry). e.name) (drop (index + 1) entries)) pushed
          ∙ append_assoc so_far (entry.name ∷ []) (map (λ (e : Entry). e.name) (drop (index + 1) entries))
          ∙ ap (λ (es : List Entry). so_far ++ map (λ (e : Entry). e.name) es) (sym at)
          ∙ adding.names_are;
      cookie_is = ap (λ (es : List Entry). last_cookie last es) (sym at) ∙ adding.cookie_is;
    }

pub names_added : (names : List (List ℕ)) (cookie : ℕ) (entries : List Entry) (index : ℕ) (so_far : List (List ℕ)) (last : ℕ) → length entries ≤ index → Adding names cookie entries index so_far last
    → so_far ≡ names ++ map (λ (entry : Entry). entry.name) entries
names_added names cookie entries index so_far last over adding =
    sym (append-nil so_far) ∙ ap (λ (es : List Entry). so_far ++ map (λ (e : Entry). e.name) es) (sym (drop_all index entries over)) ∙ adding.names_are

pub cookie_added : (names : List (List ℕ)) (cookie : ℕ) (entries : List Entry) (index : ℕ) (so_far : List (List ℕ)) (last : ℕ) → length entries ≤ index → Adding names cookie entries index so_far last
    → last ≡ last_cookie cookie entries
cookie_added names cookie entries index so_far last over adding = ap (λ (es : List Entry). last_cookie last es) (sym (drop_all index entries over)) ∙ adding.cookie_is
