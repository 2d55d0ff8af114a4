-- The calls of a `put` command, in order.
use Rattle.std.proofs.Common.{◌≡◌, ℕ, ◌≤◌, Bool, true, false, List, [], ◌∷◌, ◌++◌, length, Option, Ok, Err, inl, inr, refl, ap, sym, ◌∙◌, subst, append-nil, append_assoc}
use Rattle.std.specs.Prelude.{IfSome, MatchBool, None, Some, nat_lt}
use Rattle.std.specs.Io.KnownBytes.{IsAtEnd}
use Rattle.nr_outside.specs.Streams.{SourceAt}
use Rattle.nr_outside.specs.Content.{HandsOut}
use Rattle.nr_words.specs.Limits.{mount_path_max}
use Rattle.nr_reduce.specs.declared.call.Call.{Call}
use Rattle.nr_reduce.specs.declared.call.Outcome.{Outcome}
use Rattle.nr_reduce.specs.declared.mark.Entry.{Entry}
use Rattle.nr_plain.specs.Setup.{Setup}
use Rattle.nr_client.specs.declared.client_end.ClientEnd.TheVariants as client
use Rattle.nr_client.specs.Following.{EndsWith, Follows, MakesCalls, Next}
use Rattle.nr_client.specs.Following.Next.{Calls, Returns}
use Rattle.nr_client.specs.Requests.{mnt_call, mnt_result}
use Rattle.nr_client.specs.Walking.{parent_next}
use Rattle.nr_client.specs.Writing.{EndsWriting, WritesFile, writing}
use Rattle.nr_client.specs.Writing.EndsWritingOver.{FollowsInput, InputFails}
use Rattle.nr_client.specs.Views.{LinkView}
use Rattle.nr_commands.specs.Commands.{FindsParent, Mounts, WritesIn}
use Rattle.nr_commands.specs.Sessions.{Fails, Request, SessionAt}
use Rattle.nr_service_laws.specs.Exchanges.{Exchange, end_exchanges, followed_exchanges, made_exchanges, none, tells_finds_parent, tells_mounts, tells_request, tells_requests, tells_writes_in, within_exchanges, write_exchanges, write_exchanges_by}
use Rattle.nr_pair_laws.specs.PutCommands.{CommandsPutTheirInput, OthersKeep}
use Rattle.nr_pair_laws.specs.FilesAt.{KeepPath}
use Rattle.nr_pair_laws.specs.Pairs.{AreAnsweredFrom, IsAnsweredAt, place_after}
use Rattle.nr_pair_laws.specs.PutThenGet.{AnsweredInOrder, HoldsFile, OnCall, PutsFile, mounting, root_handle}
use Rattle.nr_pair_laws.proofs.PutThenGet.{put_leaves}

-- an input whose rest is nothing gave all that it had
at_end : (left : Option (List ℕ)) (rest : List ℕ) → IfSome left (λ known. rest ≡ known) → rest ≡ [] → IsAtEnd left
at_end None rest is none = tt
at_end (Some known) rest is none = sym is ∙ none

module _ (s : Setup) (J : List Entry) (names : List (List ℕ)) (last : ℕ) where
  -- these exchanges were answered from a place on, and the entries of others keep the path
  pub record IsKept (least : ℕ) (made : List Exchange) : Type 0 where
    pub answered : AreAnsweredFrom s J least [] made
    pub kept : OthersKeep s J names last least [] made answered

  -- calls made one at a time were answered in order, up to the place from which the rest is
  pub record Part {A : Type 0} (request : List Outcome → Next A) (os : List Outcome) (least : ℕ) (rest : List Exchange) : Type 0 where
    pub to : ℕ
    pub made : AnsweredInOrder s J (KeepPath s J root_handle names) request os least to
    pub later : IsKept to rest

  on_call : {A : Type 0} (next : Next A) (call : Call) (P : Call → Type 0) → next ≡ Calls call → P call → OnCall next P
  on_call next call P is holds = subst (λ (n : Next _). OnCall n P) (sym is) holds

  pub made_in_order : {A : Type 0} (request : List Outcome → Next A) (os : List Outcome) (b b' : LinkView) (made : MakesCalls request os b b') (least : ℕ) (rest : List Exchange)
      → IsKept least ((made_exchanges request os b b' made).made ++ rest) → Part request os least rest
  made_in_order request [] b b' made least rest k = record { to = least; made = refl; later = k }
  made_in_order {A} request (o ∷ os) b b' (call, c, (is, (answers, more))) least rest k =
      let place : ℕ = k.answered.0 in
      let a : IsAnsweredAt s J call o place = k.answered.1.0 in
      let part = made_in_order (λ later. request (o ∷ later)) os c b' more (place_after s J call o place a) rest (record { answered = k.answered.1.1.1; kept = k.kept.1 }) in
      record {
        to = part.to;
        made = on_call (request []) call (λ x. (place : ℕ) × (answered : IsAnsweredAt s J x o place) × ((least ≤ place) × (KeepPath s J root_handle names least place
            × AnsweredInOrder s J (KeepPath s J root_handle names) (λ later. request (o ∷ later)) os (place_after s J x o place answered) part.to))) is
            (place, a, (k.answered.1.1.0, (k.kept.0, part.made)));
        later = part.later;
      }

  -- a request that gave a value made its calls so, and its calls gave the value
  pub record Done {A : Type 0} (request : List Outcome → Next A) (value : A) (least : ℕ) (rest : List Exchange) : Type 0 where
    pub outcomes : List Outcome
    pub part : Part request outcomes least rest
    pub gives : request outcomes ≡ Returns (Ok value)

  no_more : {A : Type 0} (next : Next A) (b b' : LinkView) (value : A) (ends : EndsWith next b b' (Ok value))
      → (next ≡ Returns (Ok value)) × ((end_exchanges next b b' (Ok value) ends).made ≡ [])
  no_more (Returns result) b b' value ends = (ap Returns ends.0, refl)
  no_more (Calls call) b b' value (end, (is, unanswered)) = absurd cc

  pub followed : {A : Type 0} (request : List Outcome → Next A) (b b' : LinkView) (value : A) (f : Follows request b b' (Ok value)) (least : ℕ) (rest : List Exchange)
      → IsKept least ((followed_exchanges request b b' (Ok value) f).made ++ rest) → Done request value least rest
  followed request b b' value f least rest k =
      let ends = no_more (request f.outcomes) f.between b' value f.ends in
      let first = (made_exchanges request f.outcomes b f.between f.made).made in
      let whole : (followed_exchanges request b b' (Ok value) f).made ++ rest ≡ first ++ rest = ap (λ (l : List Exchange). (first ++ l) ++ rest) ends.1 ∙ ap (λ (l : List Exchange). l ++ rest) (append-nil first) in
      record {
        outcomes = f.outcomes;
        part = made_in_order request f.outcomes b f.between f.made least rest (subst (λ (l : List Exchange). IsKept least l) whole k);
        gives = ends.0;
      }

  -- MNT
  pub record HasMounted (uid gid : ℕ) (export root : List ℕ) (least : ℕ) (rest : List Exchange) : Type 0 where
    pub outcome : Outcome
    pub part : Part (mounting uid gid export) (outcome ∷ []) least rest
    pub gives : mnt_result outcome ≡ Ok root

  mount_answered : (uid gid : ℕ) (export root : List ℕ) (before after : SessionAt) (least : ℕ) (rest : List Exchange) (b : Bool)
      (is : MatchBool b (Fails {A = List ℕ} (client.Budget mount_path_max) before after (Ok root)) (Request mnt_result (mnt_call uid gid export) before after (Ok root)))
      → IsKept least ((within_exchanges b (Fails {A = List ℕ} (client.Budget mount_path_max) before after (Ok root)) (Request mnt_result (mnt_call uid gid export) before after (Ok root))
      (tells_request mnt_result (mnt_call uid gid export) before after (Ok root)) is).made ++ rest)
      → HasMounted uid gid export root least rest
  mount_answered uid gid export root before after least rest true (same, wrong) k = absurd cc
  mount_answered uid gid export root before after least rest false (inl (outcome, (answers, gives)), counts) k =
      record {
        outcome = outcome;
        part = record {
          to = place_after s J (mnt_call uid gid export) outcome k.answered.0 k.answered.1.0;
          made = (k.answered.0, k.answered.1.0, (k.answered.1.1.0, (k.kept.0, refl)));
          later = record { answered = k.answered.1.1.1; kept = k.kept.1 };
        };
        gives = gives;
      }
  mount_answered uid gid export root before after least rest false (inr (inl (cause, (wrong, why))), counts) k = absurd cc
  mount_answered uid gid export root before after least rest false (inr (inr (wrong, same)), counts) k = absurd cc

  pub mounted : (uid gid : ℕ) (export root : List ℕ) (before after : SessionAt) (is : Mounts uid gid export before after (Ok root)) (least : ℕ) (rest : List Exchange)
      → IsKept least ((tells_mounts uid gid export before after (Ok root) is).made ++ rest) → HasMounted uid gid export root least rest
  mounted uid gid export root before after is least rest k = mount_answered uid gid export root before after least rest (nat_lt mount_path_max (length export)) is k

  -- LOOKUPs up to the directory
  pub record HasFound (uid gid : ℕ) (export path dir name : List ℕ) (least : ℕ) (rest : List Exchange) : Type 0 where
    pub root : List ℕ
    pub between : List Exchange
    pub mount : HasMounted uid gid export root least between
    pub finds : Done (parent_next uid gid root path) (dir, name) mount.part.to rest

  pub found : (uid gid : ℕ) (export path dir name : List ℕ) (before after : SessionAt) (is : FindsParent uid gid export path before after (Ok (dir, name))) (least : ℕ) (rest : List Exchange)
      → IsKept least ((tells_finds_parent uid gid export path before after (Ok (dir, name)) is).made ++ rest) → HasFound uid gid export path dir name least rest
  found uid gid export path dir name before after (inl (root, (mid, (mounts, requests)))) least rest k =
      let first = (tells_mounts uid gid export before mid (Ok root) mounts).made in
      let second = (tells_requests (parent_next uid gid root path) mid after (Ok (dir, name)) requests).made in
      let m = mounted uid gid export root before mid mounts least (second ++ rest) (subst (λ (l : List Exchange). IsKept least l) (append_assoc first second rest) k) in
      record {
        root = root;
        between = second ++ rest;
        mount = m;
        finds = followed (parent_next uid gid root path) mid after (dir, name) requests.0 m.part.to rest m.part.later;
      }
  found uid gid export path dir name before after (inr (end, (first, wrong))) least rest k = absurd cc

  -- CREATE and WRITEs
  pub record HasPut (uid gid : ℕ) (dir name bytes rest : List ℕ) (input input' : SourceAt) (least : ℕ) : Type 0 where
    pub all_read : rest ≡ []
    pub hands_out : HandsOut input.left input.given input'.left input'.given bytes
    pub all : IsAtEnd input'.left
    pub writes : Done (writing uid gid dir name bytes) tt least []

  file_written : (uid gid : ℕ) (dir name : List ℕ) (before after : SessionAt) (input input' : SourceAt) (least : ℕ)
      (w : WritesFile uid gid dir name before after input.left input.given input'.left input'.given (Ok tt))
      → IsKept least ((write_exchanges uid gid dir name before after input.left input.given input'.left input'.given (Ok tt) w).made ++ [])
      → HasPut uid gid dir name w.handed w.rest input input' least
  file_written uid gid dir name before after input input' least w k = by w.calls k
    where
      by : (calls : EndsWriting uid gid dir name w.handed w.rest before after (Ok tt))
          → IsKept least ((write_exchanges_by uid gid dir name w.handed w.rest before after (Ok tt) calls).made ++ []) → HasPut uid gid dir name w.handed w.rest input input' least
      by (FollowsInput follows count ahead) k =
          let whole : w.handed ++ w.rest ≡ w.handed = ap (λ (l : List ℕ). w.handed ++ l) w.is_read ∙ append-nil w.handed in
          let d = followed (writing uid gid dir name (w.handed ++ w.rest)) before after tt follows least [] k in
          record { all_read = w.is_read; hands_out = w.hands_out; all = at_end input'.left w.rest w.is_rest w.is_read; writes = subst (λ (l : List ℕ). Done (writing uid gid dir name l) tt least []) whole d }
      by (InputFails outcomes wrong made ahead) k = absurd cc

  written : (uid gid : ℕ) (dir name : List ℕ) (before after : SessionAt) (input input' : SourceAt) (text : List ℕ) (least : ℕ) (is : WritesIn uid gid dir name input input' before after (Ok text))
      → IsKept least ((tells_writes_in uid gid dir name input input' before after (Ok text) is).made ++ []) → HasPut uid gid dir name is.1.0.0.handed is.1.0.0.rest input input' least
  written uid gid dir name before after input input' text least (Ok done, ((writes, counts), silent)) k = file_written uid gid dir name before after input input' least writes k
  written uid gid dir name before after input input' text least (Err end, ((writes, counts), silent)) k = absurd silent

pub puts_input : CommandsPutTheirInput
puts_input s J uid gid export path names input input' before after text (inl (place, (mid, (finds, (done, ((wrote, counts), silent)))))) least to answered sane fit ids names_are keeps =
    let writes : WritesIn uid gid place.0 place.1 input input' mid after (Ok text) = (done, ((wrote, counts), silent)) in
    let first = (tells_finds_parent uid gid export path before mid (Ok place) finds).made in
    let second = (tells_writes_in uid gid place.0 place.1 input input' mid after (Ok text) writes).made in
    let k : IsKept s J names to least (first ++ second) = record { answered = answered; kept = keeps } in
    let f = found s J names to uid gid export path place.0 place.1 before mid finds least (second ++ []) (subst (λ (l : List Exchange). IsKept s J names to least (first ++ l)) (sym (append-nil second)) k) in
    let w = written s J names to uid gid place.0 place.1 mid after input input' text f.finds.part.to writes f.finds.part.later in
    let p : PutsFile s J uid gid export path names wrote.handed least w.writes.part.to = record {
      names_are = names_are;
      root = f.root;
      mounted = f.mount.outcome;
      mounted_at = f.mount.part.to;
      mounts = f.mount.part.made;
      root_is = f.mount.gives;
      dir = place.0;
      name = place.1;
      found = f.finds.outcomes;
      found_at = f.finds.part.to;
      finds = f.finds.part.made;
      place_is = f.finds.gives;
      written = w.writes.outcomes;
      writes = w.writes.part.made;
      done = w.writes.gives;
    } in
    record {
      hands_out = w.hands_out;
      all = w.all;
      all_read = w.all_read;
      within = subst (λ (k : ℕ). k ≤ length J) (sym w.writes.part.later.kept) w.writes.part.later.answered;
      holds = subst (λ (k : ℕ). HoldsFile s J names wrote.handed k) (sym w.writes.part.later.kept) (put_leaves s J uid gid export path names wrote.handed least w.writes.part.to sane fit ids p);
    }
puts_input s J uid gid export path names input input' before after text (inr (end, (finds, (wrong, same)))) least to answered sane fit ids names_are keeps = absurd cc
