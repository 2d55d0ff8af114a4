-- LOOKUPs along a path, each answered at its place, find what is found in the trees there.
use Rattle.std.proofs.Common.{◌≡◌, ℕ, zero, suc, ◌≤◌, List, [], ◌∷◌, ◌++◌, length, Result, Ok, Err, inl, inr, refl, sym, ap, subst, ◌∙◌, arith, append_assoc}
use Rattle.std.specs.Prelude.{◌⊎◌, nat_eq, nat_lt}
use Rattle.std.specs.Cmp.Lexicographic.{pointwise}
use Rattle.nr_rpc.specs.declared.cred.Cred.TheVariants as creds
use Rattle.nr_nfs_base.specs.Limits.{name_length_max}
use Rattle.nr_nfs_base.specs.declared.caller.Caller.{Caller}
use Rattle.nr_reduce.specs.declared.call.Call.{Call}
use Rattle.nr_reduce.specs.declared.call.Outcome.{Outcome}
use Rattle.nr_reduce.specs.declared.mark.Entry.{Entry}
use Rattle.nr_tree.specs.Tree.{Tree}
use Rattle.nr_plain.specs.Journal.{tree_at}
use Rattle.nr_plain.specs.Setup.{Setup, caller_of}
use Rattle.nr_words.specs.Limits.{mount_path_max}
use Rattle.nr_client.specs.declared.client_end.ClientEnd.{ClientEnd}
use Rattle.nr_client.specs.declared.client_end.ClientEnd.TheVariants as client
use Rattle.nr_client.specs.Following.{EndsWith, MakesCalls, Next, asking, go_on}
use Rattle.nr_client.specs.Following.Next.{Calls, Returns}
use Rattle.nr_client.specs.Paths.{path_names}
use Rattle.nr_client.specs.Requests.{lookup_call, machine}
use Rattle.nr_client.specs.Walking.{object_result, parent_from, parent_next, walk_from, walk_next}
use Rattle.nr_client.specs.Walking.{parent_along as parent_request}
use Rattle.nr_client.specs.Views.{LinkView}
use Rattle.nr_commands.specs.Commands.{Finds, FindsParent, Mounts}
use Rattle.nr_commands.specs.Sessions.{Requests, SessionAt, Then}
use Rattle.nr_service_laws.specs.Exchanges.{Exchange, tells_finds, tells_finds_parent, tells_mounts, tells_requests, tells_then}
use Rattle.nr_reply_laws.specs.Replies.{AreIds}
use Rattle.nr_pair_laws.specs.Pairs.{AreAnsweredFrom, IsAnsweredAt, place_after}
use Rattle.nr_pair_laws.proofs.Walked.{AreShort, path_short}
use Rattle.nr_text_laws.specs.CommandTexts.{IsUnanswered, file_of, object_along, object_in, on_value, parent_after, parent_along, parent_of, root_of}
use Rattle.nr_text_laws.proofs.Parts.{IsMounted, IsPlaced, exchanged, mounted, no_answer, returned, root_long, same_end}
use Rattle.nr_text_laws.proofs.Replies.{object_found, object_there}

-- ---- Places

-- a place, and others after it
abbrev pub from_place : ℕ → (ℕ → ℕ) → ℕ → ℕ
from_place place places zero = place
from_place place places (suc i) = places i

pub rises : (place : ℕ) (places : ℕ → ℕ) → place ≤ places 0 → ((i : ℕ) → places i ≤ places (suc i)) → (i : ℕ) → from_place place places i ≤ from_place place places (suc i)
rises place places first rise zero = first
rises place places first rise (suc i) = rise i

pub ends_at : (place : ℕ) (places : ℕ → ℕ) (last : ℕ) → place ≤ last → ((i : ℕ) → places i ≤ last) → (i : ℕ) → from_place place places i ≤ last
ends_at place places last first ends zero = first
ends_at place places last first ends (suc i) = ends i

module _ (s : Setup) (J : List Entry) (uid gid : ℕ) (ids : AreIds uid gid) where
  -- ---- One LOOKUP

  abbrev user : Caller
  user = caller_of (creds.Sys 0 machine uid gid [])

  abbrev Placed : {A : Type 0} → ((trees : ℕ → Tree) → Result A ClientEnd) → (from : ℕ) → Result A ClientEnd → List Exchange → Type 0
  Placed finds from result rest = IsUnanswered result ⊎ IsPlaced s J finds from result rest

  -- a request that is answered from a place on with what the trees give
  abbrev Follows : {A : Type 0} → (List Outcome → Next A) → ((trees : ℕ → Tree) → Result A ClientEnd) → Type 0
  Follows {A} request finds =
      (outcomes : List Outcome) (b m b' : LinkView) (result : Result A ClientEnd) (made : MakesCalls request outcomes b m) (ends : EndsWith (request outcomes) m b' result) (from : ℕ) (rest : List Exchange)
      → AreAnsweredFrom s J from [] (exchanged request outcomes b m b' result made ends rest) → Placed finds from result rest

  -- a request that makes no call
  ended : {A : Type 0} (r : Result A ClientEnd) → Follows (λ later. Returns r) (λ trees. r)
  ended {A} r outcomes b m b' result made ends from rest are = by (returned s J r outcomes b m b' result made ends from rest are)
    where
      by : IsUnanswered result ⊎ ((result ≡ r) × AreAnsweredFrom s J from [] rest) → IsUnanswered result ⊎ IsPlaced s J (λ trees. r) from result rest
      by (inl un) = inl un
      by (inr (same, later)) = inr (record { places = λ i. from; last = from; first = omega arith; rise = λ i. omega arith; ends = λ i. omega arith; is = same; later = later })

  -- LOOKUP, and what follows from the handle
  step : {A : Type 0} (dir name : List ℕ) (next : List ℕ → List Outcome → Next A) (finds : List ℕ → (trees : ℕ → Tree) → Result A ClientEnd) → length dir ≡ 8 → length name ≤ name_length_max
      → ((g : List ℕ) → length g ≡ 8 → Follows (next g) (finds g))
      → Follows (asking (lookup_call uid gid dir name) object_result next) (λ trees. on_value (object_in (trees 0) user dir name) (λ object. finds object (λ i. trees (suc i))))
  step {A} dir name next finds long short after [] b m b' result made (end, (is, un)) from rest are = inl (no_answer (lookup_call uid gid dir name) m b' end result is un)
  step {A} dir name next finds long short after (o ∷ outcomes) b m b' result (call, c, (is, (answers, more))) ends from rest (place, (a, (low, later))) =
      by (object_result o) refl more ends moved
    where
      same : lookup_call uid gid dir name ≡ call
      same = let calls : ◌≡◌ {A = Next A} (Calls (lookup_call uid gid dir name)) (Calls call) = is in cc

      at : (x : IsAnsweredAt s J (lookup_call uid gid dir name) o place) × AreAnsweredFrom s J (place_after s J (lookup_call uid gid dir name) o place x) []
          (exchanged (λ later. go_on (object_result o) (λ object. next object later)) outcomes c m b' result more ends rest)
      at = subst (λ (y : Call). (x : IsAnsweredAt s J y o place) × AreAnsweredFrom s J (place_after s J y o place x) []
          (exchanged (λ later. go_on (object_result o) (λ object. next object later)) outcomes c m b' result more ends rest)) (sym same) (a, later)

      there : (object_result o ≡ object_in (tree_at s J place) user dir name) × (place_after s J (lookup_call uid gid dir name) o place at.0 ≡ place)
      there = object_there s J uid gid ids dir name o place (omega (arith, long)) short at.0

      moved : AreAnsweredFrom s J place [] (exchanged (λ later. go_on (object_result o) (λ object. next object later)) outcomes c m b' result more ends rest)
      moved = subst (λ (x : ℕ). AreAnsweredFrom s J x [] (exchanged (λ later. go_on (object_result o) (λ object. next object later)) outcomes c m b' result more ends rest)) there.1 at.1

      refused : (end : ClientEnd) → object_result o ≡ Err end → Placed (λ trees. Err end) place result rest → Placed (λ trees. on_value (object_in (trees 0) user dir name) (λ object. finds object (λ i. trees (suc i)))) from result rest
      refused end found (inl gone) = inl gone
      refused end found (inr p) =
          inr (record {
            places = λ j. place;
            last = p.last;
            first = low;
            rise = λ j. omega arith;
            ends = λ j. (let up = p.first in let down = p.ends 0 in omega (arith, up, down));
            is = p.is ∙ ap (λ (r : Result (List ℕ) ClientEnd). on_value r (λ object. finds object (λ j. tree_at s J place))) (sym (sym there.0 ∙ found));
            later = p.later;
          })

      gone_on : (g : List ℕ) → object_result o ≡ Ok g → Placed (finds g) place result rest → Placed (λ trees. on_value (object_in (trees 0) user dir name) (λ object. finds object (λ i. trees (suc i)))) from result rest
      gone_on g found (inl gone) = inl gone
      gone_on g found (inr p) =
          inr (record {
            places = from_place place p.places;
            last = p.last;
            first = low;
            rise = rises place p.places p.first p.rise;
            ends = ends_at place p.places p.last (let up = p.first in let down = p.ends 0 in omega (arith, up, down)) p.ends;
            is = p.is ∙ ap (λ (r : Result (List ℕ) ClientEnd). on_value r (λ object. finds object (λ j. tree_at s J (p.places j)))) (sym (sym there.0 ∙ found));
            later = p.later;
          })

      by : (r : Result (List ℕ) ClientEnd) → object_result o ≡ r → (more : MakesCalls (λ later. go_on r (λ object. next object later)) outcomes c m) → (ends : EndsWith (go_on r (λ object. next object outcomes)) m b' result)
          → AreAnsweredFrom s J place [] (exchanged (λ later. go_on r (λ object. next object later)) outcomes c m b' result more ends rest)
          → Placed (λ trees. on_value (object_in (trees 0) user dir name) (λ object. finds object (λ i. trees (suc i)))) from result rest
      by (Err end) found more ends are = refused end found (ended (Err end) outcomes c m b' result more ends place rest are)
      by (Ok g) found more ends are =
          gone_on g found (after g (object_found (tree_at s J place) user dir name g (sym there.0 ∙ found)).1 outcomes c m b' result more ends place rest are)

  -- ---- A path

  walked : (names : List (List ℕ)) (dir : List ℕ) → AreShort names → length dir ≡ 8 → Follows (walk_from uid gid dir names) (λ trees. object_along trees user dir names)
  walked [] dir few long = ended (Ok dir)
  walked (name ∷ names) dir few long = step dir name (λ object. walk_from uid gid object names) (λ object trees. object_along trees user object names) long few.0 (λ g good. walked names g few.1 good)

  parent_walked : (names : List (List ℕ)) (dir name : List ℕ) → length name ≤ name_length_max → AreShort names → length dir ≡ 8 → Follows (parent_from uid gid dir name names) (λ trees. parent_after trees user dir name names)
  parent_walked [] dir name short few long = ended (Ok (dir, name))
  parent_walked (next ∷ names) dir name short few long =
      step dir name (λ object. parent_from uid gid object next names) (λ object trees. parent_after trees user object next names) long short (λ g good. parent_walked names g next few.0 few.1 good)

  parent_named : (names : List (List ℕ)) (dir : List ℕ) (at : ℕ) → AreShort names → length dir ≡ 8 → Follows (parent_request uid gid dir at names) (λ trees. parent_along trees user dir at names)
  parent_named [] dir at few long = ended (Err (client.BadPath at))
  parent_named (name ∷ names) dir at few long = parent_walked names dir name few.0 few.1 long

  -- the names of a path, or why it is bad
  named : {A : Type 0} (r : Result (List (List ℕ)) ClientEnd) (next : List (List ℕ) → List Outcome → Next A) (finds : List (List ℕ) → (trees : ℕ → Tree) → Result A ClientEnd)
      → ((names : List (List ℕ)) → r ≡ Ok names → Follows (next names) (finds names)) → Follows (λ outcomes. go_on r (λ names. next names outcomes)) (λ trees. on_value r (λ names. finds names trees))
  named {A} (Ok names) next finds each = each names refl
  named {A} (Err end) next finds each = ended (Err end)

  file_walked : (root path : List ℕ) → length root ≡ 8 → Follows (walk_next uid gid root path) (λ trees. on_value (path_names path) (λ names. object_along trees user root names))
  file_walked root path long = named (path_names path) (λ names. walk_from uid gid root names) (λ names trees. object_along trees user root names) (λ names is. walked names root (path_short path names is) long)

  parent_found : (root path : List ℕ) → length root ≡ 8 → Follows (parent_next uid gid root path) (λ trees. on_value (path_names path) (λ names. parent_along trees user root (length path) names))
  parent_found root path long =
      named (path_names path) (λ names. parent_request uid gid root (length path) names) (λ names trees. parent_along trees user root (length path) names) (λ names is. parent_named names root (length path) (path_short path names is) long)

  -- ---- From the root of an export

  from_root : {A : Type 0} (export : List ℕ) (request : List ℕ → List Outcome → Next A) (finds : List ℕ → (trees : ℕ → Tree) → Result A ClientEnd) → ((root : List ℕ) → length root ≡ 8 → Follows (request root) (finds root))
      → (t t' : SessionAt) (result : Result A ClientEnd) (is : Then (Mounts uid gid export) (λ root. Requests (request root)) t t' result) (from : ℕ) (rest : List Exchange)
      → AreAnsweredFrom s J from [] ((tells_then (Mounts uid gid export) (λ root. Requests (request root)) (tells_mounts uid gid export) (λ root. tells_requests (request root)) t t' result is).made ++ rest)
      → IsUnanswered result ⊎ IsPlaced s J (λ trees. on_value (root_of s.parameters.export export) (λ root. finds root trees)) from result rest
  from_root {A} export request finds each t t' result (inl (root, (mid, (mounts, asks)))) from rest are =
      by (mounted s J uid gid ids export t mid (Ok root) mounts from ((tells_requests (request root) mid t' result asks).made ++ rest) (subst (λ (l : List Exchange). AreAnsweredFrom s J from [] l) (append_assoc (tells_mounts uid gid export t mid (Ok root) mounts).made (tells_requests (request root) mid t' result asks).made rest) are))
    where
      place_on : (m : IsMounted s J export from (Ok root) ((tells_requests (request root) mid t' result asks).made ++ rest)) → IsUnanswered result ⊎ IsPlaced s J (finds root) m.place result rest
          → IsUnanswered result ⊎ IsPlaced s J (λ trees. on_value (root_of s.parameters.export export) (λ root. finds root trees)) from result rest
      place_on m (inl un) = inl un
      place_on m (inr p) =
          inr (record {
            places = p.places;
            last = p.last;
            first = (let low = m.low in let up = p.first in omega (arith, low, up));
            rise = p.rise;
            ends = p.ends;
            is = p.is ∙ ap (λ (r : Result (List ℕ) ClientEnd). on_value r (λ root. finds root (λ i. tree_at s J (p.places i)))) m.is;
            later = p.later;
          })

      by : IsUnanswered {A = List ℕ} (Ok root) ⊎ IsMounted s J export from (Ok root) ((tells_requests (request root) mid t' result asks).made ++ rest)
          → IsUnanswered result ⊎ IsPlaced s J (λ trees. on_value (root_of s.parameters.export export) (λ root. finds root trees)) from result rest
      by (inl un) = absurd un
      by (inr m) =
          let long = root_long (nat_lt mount_path_max (length export)) (pointwise nat_eq export s.parameters.export) root m.is in
          place_on m (each root long asks.0.outcomes mid asks.0.between t' result asks.0.made asks.0.ends m.place rest m.later)
  from_root {A} export request finds each t t' result (inr (end, (mounts, same))) from rest are = by (mounted s J uid gid ids export t t' (Err end) mounts from rest are)
    where
      by : IsUnanswered {A = List ℕ} (Err end) ⊎ IsMounted s J export from (Err end) rest
          → IsUnanswered result ⊎ IsPlaced s J (λ trees. on_value (root_of s.parameters.export export) (λ root. finds root trees)) from result rest
      by (inl un) = inl (same_end (List ℕ) end result same un)
      by (inr m) =
          inr (record {
            places = λ i. m.place;
            last = m.place;
            first = m.low;
            rise = λ i. omega arith;
            ends = λ i. omega arith;
            is = same ∙ ap (λ (r : Result (List ℕ) ClientEnd). on_value r (λ root. finds root (λ i. tree_at s J m.place))) m.is;
            later = m.later;
          })

  pub found : (export path : List ℕ) (t t' : SessionAt) (result : Result (List ℕ) ClientEnd) (is : Finds uid gid export path t t' result) (from : ℕ) (rest : List Exchange)
      → AreAnsweredFrom s J from [] ((tells_finds uid gid export path t t' result is).made ++ rest)
      → IsUnanswered result ⊎ IsPlaced s J (file_of s.parameters.export export path (caller_of (creds.Sys 0 machine uid gid []))) from result rest
  found export path = from_root export (λ root. walk_next uid gid root path) (λ root trees. on_value (path_names path) (λ names. object_along trees user root names)) (λ root long. file_walked root path long)

  pub found_parent : (export path : List ℕ) (t t' : SessionAt) (result : Result (List ℕ × List ℕ) ClientEnd) (is : FindsParent uid gid export path t t' result) (from : ℕ) (rest : List Exchange)
      → AreAnsweredFrom s J from [] ((tells_finds_parent uid gid export path t t' result is).made ++ rest)
      → IsUnanswered result ⊎ IsPlaced s J (parent_of s.parameters.export export path (caller_of (creds.Sys 0 machine uid gid []))) from result rest
  found_parent export path = from_root export (λ root. parent_next uid gid root path) (λ root trees. on_value (path_names path) (λ names. parent_along trees user root (length path) names)) (λ root long. parent_found root path long)
