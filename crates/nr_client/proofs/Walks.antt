-- Requests along a path, name after name.
use Rattle.std.proofs.Common.{◌≡◌, ◌⊎◌, ℕ, zero, suc, ◌+◌, ◌-◌, ◌<◌, ◌≤◌, List, [], ◌∷◌, ◌++◌, length, take, drop, get_or, Result, Ok, Err, inl, inr, arith, refl, sym, ap, subst, ◌∙◌}
use Rattle.std.proofs.lemmas.List.{drop_all, drop_more, get_or-drop, take_all, take_more}
use Rattle.nr_nfs_res.specs.declared.lookup.LookupOk.{LookupOk}
use Rattle.nr_reduce.specs.declared.call.Call.{Call}
use Rattle.nr_reduce.specs.declared.call.Outcome.{Outcome}
use Rattle.nr_client.specs.declared.client_end.ClientEnd.{ClientEnd}
use Rattle.nr_client.specs.declared.client_end.ClientEnd.TheVariants as client
use Rattle.nr_client.specs.Following.{Next, asking, go_on, FollowsOver, MakesCallsOver, EndsWithOver}
use Rattle.nr_client.specs.Following.Next.{Calls, Returns}
use Rattle.nr_client.specs.Paths.{path_names}
use Rattle.nr_client.specs.Requests.{lookup_call, lookup_result, AsksOver}
use Rattle.nr_client.specs.Results.{Gives}
use Rattle.nr_client.specs.Walking.{object_in, object_result, parent_along, parent_from, walk_from}
use Rattle.nr_client.specs.Relations.{CallRelations}
use Rattle.nr_client.proofs.Sequences.{LeadsTo, end_of, ends_there, gives_itself, given_end, goes_on, returns_at_once, runs_out}

-- the file handle in the results of a LOOKUP
pub asks_object : {V : Type 0} (rel : CallRelations V) (call : Call) (b c : V) (found : LookupOk) → AsksOver rel lookup_result call b c (Ok found) → AsksOver rel object_result call b c (Ok found.object)
asks_object {V} rel call b c found (inl (outcome, (answers, gives))) = inl (outcome, (answers, ap (λ (r : Result LookupOk ClientEnd). object_in r) gives))
asks_object {V} rel call b c found (inr (inl (cause, (is, given_up)))) = absurd (let wrong : Ok found ≡ Err (client.Link cause) = is in cc)
asks_object {V} rel call b c found (inr (inr (is, same))) = absurd (let wrong : Ok found ≡ Err client.Memory = is in cc)

no_object : (end : ClientEnd) (read : Result LookupOk ClientEnd) → (end ≡ client.Memory) ⊎ (read ≡ Err end) → Gives {A = List ℕ} (Err end) (object_in read)
no_object end read (inl out) = subst (λ (e : ClientEnd). Gives {A = List ℕ} (Err e) (object_in read)) (sym out) tt
no_object end read (inr failed) = subst (λ (r : Result LookupOk ClientEnd). Gives {A = List ℕ} (Err end) (object_in r)) (sym failed) (gives_itself (List ℕ) end)

pub asks_no_object : {V : Type 0} (rel : CallRelations V) (call : Call) (b c : V) (end : ClientEnd) → AsksOver rel lookup_result call b c (Err end) → AsksOver rel object_result call b c (Err end)
asks_no_object {V} rel call b c end (inl (outcome, (answers, gives))) = inl (outcome, (answers, no_object end (lookup_result outcome) (given_end end (lookup_result outcome) gives)))
asks_no_object {V} rel call b c end (inr (inl (cause, (is, given_up)))) =
    inr (inl (cause, (ap (λ (r : Result LookupOk ClientEnd). Err (end_of r)) is, given_up)))
asks_no_object {V} rel call b c end (inr (inr (is, same))) =
    inr (inr (ap (λ (r : Result LookupOk ClientEnd). Err (end_of r)) is, same))

-- ---- From name to name

at_name : (names : List (List ℕ)) (index : ℕ) (name : List ℕ) → index < length names → name ≡ get_or names index name → drop index names ≡ name ∷ drop (index + 1) names
at_name names index name inside is = drop_more names index name inside ∙ ap (λ (n : List ℕ). n ∷ drop (index + 1) names) (sym is)

module _ {V : Type 0} (rel : CallRelations V) (uid gid : ℕ) (whole : List Outcome → Next (List ℕ)) (dir : List ℕ) (names : List (List ℕ)) (index : ℕ) (name : List ℕ) (inside : index < length names) (is : name ≡ get_or names index name)
    (b c d : V) (so_far : LeadsTo rel whole b (walk_from uid gid dir (drop index names)) c) where
  now : LeadsTo rel whole b (walk_from uid gid dir (name ∷ drop (index + 1) names)) c
  now = subst (λ (left : List (List ℕ)). LeadsTo rel whole b (walk_from uid gid dir left) c) (at_name names index name inside is) so_far

  pub walk_goes_on : (object : List ℕ) → AsksOver rel object_result (lookup_call uid gid dir name) c d (Ok object) → LeadsTo rel whole b (walk_from uid gid object (drop (index + 1) names)) d
  walk_goes_on object asks = λ e result rest.
      now e result
      (goes_on rel (walk_from uid gid dir (name ∷ drop (index + 1) names)) (lookup_call uid gid dir name) object_result (λ found. walk_from uid gid found (drop (index + 1) names))
      object c d e result refl (λ outcome. refl) asks rest)

  pub walk_stops : (end : ClientEnd) → AsksOver rel object_result (lookup_call uid gid dir name) c d (Err end) → FollowsOver rel whole b d (Err end)
  walk_stops end asks =
      now d (Err end)
      (ends_there rel (walk_from uid gid dir (name ∷ drop (index + 1) names)) (lookup_call uid gid dir name) object_result (λ found. walk_from uid gid found (drop (index + 1) names))
      end c d refl (λ outcome. refl) asks)

pub walk_ends : {V : Type 0} (rel : CallRelations V) (uid gid : ℕ) (whole : List Outcome → Next (List ℕ)) (dir : List ℕ) (names : List (List ℕ)) (index : ℕ) (b c : V)
    → length names ≤ index → LeadsTo rel whole b (walk_from uid gid dir (drop index names)) c → FollowsOver rel whole b c (Ok dir)
walk_ends {V} rel uid gid whole dir names index b c over so_far =
    let left : drop index names ≡ [] = drop_all index names over in
    so_far c (Ok dir)
    (returns_at_once rel (walk_from uid gid dir (drop index names)) (Ok dir) (Ok dir) c (ap (λ (ns : List (List ℕ)). walk_from uid gid dir ns []) left) refl)

-- ---- Up to the last name

abbrev pub beside : List ℕ → Result (List ℕ) ClientEnd → Result (List ℕ × List ℕ) ClientEnd
beside last (Ok dir) = Ok (dir, last)
beside last (Err end) = Err end

abbrev pub with_last : List ℕ → Next (List ℕ) → Next (List ℕ × List ℕ)
with_last last (Calls call) = Calls call
with_last last (Returns answer) = Returns (beside last answer)

-- a LOOKUP of the first of two names or more
first_of : (uid gid at : ℕ) (last : List ℕ) (front : List (List ℕ)) (dir name : List ℕ) (outcomes : List Outcome)
    → parent_from uid gid dir name (front ++ last ∷ []) outcomes ≡ asking (lookup_call uid gid dir name) object_result (λ object. parent_along uid gid object at (front ++ last ∷ [])) outcomes
first_of uid gid at last [] dir name outcomes = refl
first_of uid gid at last (next ∷ front) dir name outcomes = refl

either : (last : List ℕ) (read : Result (List ℕ) ClientEnd) (up : List ℕ → Next (List ℕ × List ℕ)) (down : List ℕ → Next (List ℕ))
    → ((object : List ℕ) → up object ≡ with_last last (down object)) → go_on read up ≡ with_last last (go_on read down)
either last (Ok object) up down same = same object
either last (Err end) up down same = refl

parent_is : (uid gid at : ℕ) (last : List ℕ) (front : List (List ℕ)) (dir : List ℕ) (outcomes : List Outcome)
    → parent_along uid gid dir at (front ++ last ∷ []) outcomes ≡ with_last last (walk_from uid gid dir front outcomes)
parent_is uid gid at last [] dir outcomes = refl
parent_is uid gid at last (name ∷ front) dir [] = first_of uid gid at last front dir name []
parent_is uid gid at last (name ∷ front) dir (outcome ∷ later) =
    first_of uid gid at last front dir name (outcome ∷ later)
    ∙ either last (object_result outcome) (λ object. parent_along uid gid object at (front ++ last ∷ []) later) (λ object. walk_from uid gid object front later)
    (λ object. parent_is uid gid at last front object later)

made_with_last : {V : Type 0} (rel : CallRelations V) (last : List ℕ) (down : List Outcome → Next (List ℕ)) (up : List Outcome → Next (List ℕ × List ℕ)) → ((outcomes : List Outcome) → up outcomes ≡ with_last last (down outcomes))
    → (outcomes : List Outcome) (b c : V) → MakesCallsOver rel down outcomes b c → MakesCallsOver rel up outcomes b c
made_with_last {V} rel last down up same [] b c made = made
made_with_last {V} rel last down up same (outcome ∷ later) b c (call, d, (first, (answers, more))) = (
  call,
  d,
  (
    same [] ∙ ap (λ (next : Next (List ℕ)). with_last last next) first,
    (
      answers,
      made_with_last rel last (λ outcomes. down (outcome ∷ outcomes)) (λ outcomes. up (outcome ∷ outcomes)) (λ outcomes. same (outcome ∷ outcomes)) later d c more,
    ),
  ),
)

gives_beside : (last : List ℕ) (result read : Result (List ℕ) ClientEnd) → Gives result read → Gives (beside last result) (beside last read)
gives_beside last (Ok dir) read gives = ap (λ (r : Result (List ℕ) ClientEnd). beside last r) gives
gives_beside last (Err end) read gives = by (given_end end read gives)
  where
    by : (end ≡ client.Memory) ⊎ (read ≡ Err end) → Gives {A = List ℕ × List ℕ} (Err end) (beside last read)
    by (inl out) = subst (λ (e : ClientEnd). Gives {A = List ℕ × List ℕ} (Err e) (beside last read)) (sym out) tt
    by (inr failed) = subst (λ (r : Result (List ℕ) ClientEnd). Gives {A = List ℕ × List ℕ} (Err end) (beside last r)) (sym failed) (gives_itself (List ℕ × List ℕ) end)

ends_with_last : {V : Type 0} (rel : CallRelations V) (last : List ℕ) (next : Next (List ℕ)) (b c : V) (result : Result (List ℕ) ClientEnd)
    → EndsWithOver rel next b c result → EndsWithOver rel (with_last last next) b c (beside last result)
ends_with_last {V} rel last (Calls call) b c result (end, (is, unanswered)) = (end, (ap (λ (r : Result (List ℕ) ClientEnd). beside last r) is, unanswered))
ends_with_last {V} rel last (Returns answer) b c result (gives, same) = (gives_beside last result answer gives, same)

-- the names before the last were walked
pub parent_follows : {V : Type 0} (rel : CallRelations V) (uid gid at : ℕ) (last : List ℕ) (front : List (List ℕ)) (dir : List ℕ) (b c : V) (result : Result (List ℕ) ClientEnd)
    → FollowsOver rel (walk_from uid gid dir front) b c result → FollowsOver rel (parent_along uid gid dir at (front ++ last ∷ [])) b c (beside last result)
parent_follows {V} rel uid gid at last front dir b c result walked = record {
  outcomes = walked.outcomes;
  between = walked.between;
  made = made_with_last rel last (walk_from uid gid dir front) (parent_along uid gid dir at (front ++ last ∷ [])) (parent_is uid gid at last front dir) walked.outcomes b walked.between walked.made;
  ends = subst (λ (next : Next (List ℕ × List ℕ)). EndsWithOver rel next walked.between c (beside last result))
      (sym (parent_is uid gid at last front dir walked.outcomes))
      (ends_with_last rel last (walk_from uid gid dir front walked.outcomes) walked.between c result walked.ends);
}

-- ---- The names of a path

pub along : {V : Type 0} {A : Type 0} (rel : CallRelations V) (path : List ℕ) (names : List (List ℕ)) (more : List (List ℕ) → List Outcome → Next A) (b c : V) (result : Result A ClientEnd)
    → path_names path ≡ Ok names → FollowsOver rel (more names) b c result → FollowsOver rel (λ outcomes. go_on (path_names path) (λ ns. more ns outcomes)) b c result
along {V} {A} rel path names more b c result is follows =
    subst (λ (request : List Outcome → Next A). FollowsOver rel request b c result)
    (sym (ap (λ (r : Result (List (List ℕ)) ClientEnd). λ (outcomes : List Outcome). go_on r (λ ns. more ns outcomes)) is)) follows

pub bad_path : {V : Type 0} {A : Type 0} (rel : CallRelations V) (path : List ℕ) (end : ClientEnd) (more : List (List ℕ) → List Outcome → Next A) (b : V)
    → Gives {A = List (List ℕ)} (Err end) (path_names path) → FollowsOver rel (λ outcomes. go_on (path_names path) (λ ns. more ns outcomes)) b b (Err end)
bad_path {V} {A} rel path end more b gives = by (given_end end (path_names path) gives)
  where
    by : (end ≡ client.Memory) ⊎ (path_names path ≡ Err end) → FollowsOver rel (λ outcomes. go_on (path_names path) (λ ns. more ns outcomes)) b b (Err end)
    by (inl out) =
        subst (λ (e : ClientEnd). FollowsOver rel (λ outcomes. go_on (path_names path) (λ ns. more ns outcomes)) b b (Err e)) (sym out)
        (runs_out rel (λ outcomes. go_on (path_names path) (λ ns. more ns outcomes)) b)
    by (inr failed) =
        returns_at_once rel (λ outcomes. go_on (path_names path) (λ ns. more ns outcomes)) (Err end) (Err end) b
        (ap (λ (r : Result (List (List ℕ)) ClientEnd). go_on r (λ ns. more ns [])) failed) (gives_itself A end)

-- no name is there
pub no_parent : {V : Type 0} (rel : CallRelations V) (uid gid at : ℕ) (dir : List ℕ) (names : List (List ℕ)) (b : V) → length names ≡ 0 → FollowsOver rel (parent_along uid gid dir at names) b b (Err (client.BadPath at))
no_parent {V} rel uid gid at dir [] b none = returns_at_once rel (parent_along uid gid dir at []) (Err (client.BadPath at)) (Err (client.BadPath at)) b refl refl
no_parent {V} rel uid gid at dir (name ∷ names) b none = absurd (omega (arith, none))

-- the names before the last one of these were walked
pub parent_of : {V : Type 0} (rel : CallRelations V) (uid gid at : ℕ) (dir : List ℕ) (names : List (List ℕ)) (n : ℕ) (front : List (List ℕ)) (last : List ℕ) (b c : V) (result : Result (List ℕ) ClientEnd)
    → n + 1 ≡ length names → front ≡ take n names → last ≡ get_or names n last → FollowsOver rel (walk_from uid gid dir front) b c result → FollowsOver rel (parent_along uid gid dir at names) b c (beside last result)
parent_of {V} rel uid gid at dir names n front last b c result len before is walked =
    let whole : names ≡ take n names ++ get_or names n last ∷ [] = sym (take_all (n + 1) names (omega (arith, len))) ∙ take_more names n last (omega (arith, len)) in
    let parts : names ≡ front ++ last ∷ [] = whole ∙ (λ k. sym before k ++ sym is k ∷ []) in
    subst (λ (ns : List (List ℕ)). FollowsOver rel (parent_along uid gid dir at ns) b c (beside last result)) (sym parts) (parent_follows rel uid gid at last front dir b c result walked)

pub one_less : (n : ℕ) → (n ≡ 0 → ⊥) → n - 1 + 1 ≡ n
one_less zero some = absurd (some refl)
one_less (suc n) some = omega arith

pub last_is : (names : List (List ℕ)) (n : ℕ) (back : List (List ℕ)) (last : List ℕ) → back ≡ drop n names → last ≡ get_or back 0 last → last ≡ get_or names n last
last_is names n back last behind is =
    let same : n + 0 ≡ n = omega arith in
    is ∙ ap (λ (ns : List (List ℕ)). get_or ns 0 last) behind ∙ get_or-drop n names 0 last ∙ ap (λ (k : ℕ). get_or names k last) same
