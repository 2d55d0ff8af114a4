-- The calls of a `get` by its exchanges, each answered at a place of a journal.
use Rattle.std.proofs.Common.{◌≡◌, ◌⊎◌, ℕ, ◌≤◌, Bool, true, false, List, [], ◌∷◌, ◌++◌, length, map, Option, Result, Ok, Err, inl, inr, refl, sym, ap, subst, arith}
use Rattle.std.specs.Prelude.{MatchBool, nat_lt}
use Rattle.std.specs.List.{AllByRecursion}
use Rattle.std.specs.Io.KnownBytes.{Appends}
use Rattle.nr_words.specs.Limits.{mount_path_max}
use Rattle.nr_reduce.specs.declared.call.Call.{Call}
use Rattle.nr_reduce.specs.declared.call.Outcome.{Outcome}
use Rattle.nr_reduce.specs.declared.mark.Entry.{Entry}
use Rattle.nr_plain.specs.Setup.{Setup}
use Rattle.nr_client.specs.declared.client_end.ClientEnd.{ClientEnd}
use Rattle.nr_client.specs.declared.client_end.ClientEnd.TheVariants as client
use Rattle.nr_client.specs.Following.{EndsWith, Follows, Next}
use Rattle.nr_client.specs.Following.Next.{Calls, Returns}
use Rattle.nr_client.specs.Reading.{EndsReading, OpenRead, ReadsFile, TakesRead, bytes_read, reading, starts_at}
use Rattle.nr_client.specs.Reading.EndsReadingOver.{EndsByReplies, NotAnswered, NotSubmitted, OldestForgotten, OutputFails}
use Rattle.nr_client.specs.Requests.{mnt_call, mnt_result}
use Rattle.nr_client.specs.Walking.{walk_next}
use Rattle.nr_client.specs.Views.{LinkView}
use Rattle.nr_commands.specs.Sessions.{Fails, Request, SessionAt}
use Rattle.nr_service_laws.specs.Exchanges.{Exchange, followed_exchanges, made_exchanges, read_exchanges, steps_exchanges, tells_finds, tells_mounts, tells_reads_out, tells_request, within_exchanges}
use Rattle.nr_service_laws.specs.Exchanges.Exchange.{Answered, Forgotten, GivenUp, HandedOver, Submitted}
use Rattle.nr_service_laws.specs.ReplyEnds.{AreAnswers}
use Rattle.nr_service_laws.proofs.JudgedParts.{AreJudged, IsOf, answers_of, judged_both, reads_after, steps_judged}
use Rattle.nr_pair_laws.specs.FilesAt.{KeepPath}
use Rattle.nr_pair_laws.specs.Getting.{GetsReadTheFile}
use Rattle.nr_pair_laws.specs.Pairs.{AreAnsweredFrom, IsAnsweredAt, IsAnsweredBetween, OpenCall, place_after}
use Rattle.nr_pair_laws.specs.PutThenGet.{AnsweredSince, OnCall, mounting, root_handle}

-- ---- Each outcome at a place

module _ (s : Setup) (J : List Entry) (from : ℕ) where
  abbrev pub AnsweredAfter : Call → Outcome → Type 0
  AnsweredAfter call o = (place : ℕ) × ((answered : IsAnsweredAt s J call o place) × (from ≤ place))

  abbrev open_read : OpenCall → OpenRead
  open_read c = record { xid = c.xid; call = c.call }

  found : (next : ℕ) (xid : ℕ) (outcome : Outcome) (waiting : List OpenCall) → AllByRecursion (λ (c : OpenCall). from ≤ c.least) waiting
      → AllByRecursion (λ (c : OpenCall). c.xid ≡ xid → IsAnsweredBetween s J c.call outcome c.least next) waiting → (call : Call) → IsOf (map open_read waiting) xid call → AnsweredAfter call outcome
  found next xid outcome [] low each call of = absurd of
  found next xid outcome (c ∷ waiting) low each call (inl (same, is)) =
      let a = each.0 same in
      let first = low.0 in
      let least = a.1.1.0 in
      subst (λ (k : Call). AnsweredAfter k outcome) is (a.0, (a.1.0, (let m : from ≤ a.0 = omega (arith, first, least) in m)))
  found next xid outcome (c ∷ waiting) low each call (inr of) = found next xid outcome waiting low.1 each.1 call of

  pub judged : (made : List Exchange) (waiting : List OpenCall) (least : ℕ) → from ≤ least → AllByRecursion (λ (c : OpenCall). from ≤ c.least) waiting → AreAnsweredFrom s J least waiting made
      → AreJudged AnsweredAfter (map open_read waiting) made
  judged [] waiting least first low are = tt
  judged (Answered call outcome ∷ made) waiting least first low (place, (a, (above, rest))) =
      let here : from ≤ place = omega (arith, first, above) in
      ((place, (a, here)), judged made waiting (place_after s J call outcome place a) (omega (arith, here)) low rest)
  judged (Submitted xid call ∷ made) waiting least first low are = judged made (record { xid = xid; call = call; least = least } ∷ waiting) least first (first, low) are
  judged (HandedOver xid outcome ∷ made) waiting least first low (next, (above, (each, rest))) =
      ((λ call of. found next xid outcome waiting low each call of), judged made waiting next (omega (arith, first, above)) low rest)
  judged (Forgotten call ∷ made) waiting least first low are = judged made waiting least first low are
  judged (GivenUp xid ∷ made) waiting least first low are = judged made waiting least first low are

  -- ---- Requests

  pub since : {A : Type 0} (dir : List ℕ) (names : List (List ℕ)) → KeepPath s J dir names from (length J) → (request : List Outcome → Next A) (outcomes : List Outcome) → AreAnswers AnsweredAfter request outcomes
      → AnsweredSince s J (KeepPath s J dir names) request outcomes from
  since dir names keep request [] are = tt
  since {A} dir names keep request (o ∷ later) ((call, (is, (place, (a, low)))), rest) =
      let within = a.at.within in
      let others : KeepPath s J dir names from place = (λ k lo hi. keep k lo (omega (arith, hi, within))) in
      let then = since dir names keep (λ more. request (o ∷ more)) later rest in
      subst (λ (n : Next A). OnCall n (λ c. (p : ℕ) × (answered : IsAnsweredAt s J c o p) × ((from ≤ p) × (KeepPath s J dir names from p
      × AnsweredSince s J (KeepPath s J dir names) (λ more. request (o ∷ more)) later from)))) (sym is) (place, a, (low, (others, then)))

-- a request that has its value by these outcomes
pub record HasValue {A : Type 0} (R : Call → Outcome → Type 0) (request : List Outcome → Next A) (value : A) : Type 0 where
  pub outcomes : List Outcome
  pub answers : AreAnswers R request outcomes
  pub is : request outcomes ≡ Returns (Ok value)

pub followed : {A : Type 0} (R : Call → Outcome → Type 0) (request : List Outcome → Next A) (b c : LinkView) (value : A) (f : Follows request b c (Ok value)) (before : List OpenRead)
    → AreJudged R before (followed_exchanges request b c (Ok value) f).made → HasValue R request value
followed {A} R request b c value f before are =
    let made = (made_exchanges request f.outcomes b f.between f.made).made in
    record { outcomes = f.outcomes; answers = answers_of R request f.outcomes b f.between f.made before (judged_both R before made _ are).0; is = ends (request f.outcomes) f.ends }
  where
    ends : (next : Next A) → EndsWith next f.between c (Ok value) → next ≡ Returns (Ok value)
    ends (Returns result) (gives, same) = ap (λ (r : Result A ClientEnd). Returns r) gives
    ends (Calls call) (end, (same, gone)) = absurd (let wrong = same in cc)

-- MNT
pub mounted : (R : Call → Outcome → Type 0) (uid gid : ℕ) (export : List ℕ) (s m : SessionAt) (root : List ℕ) (b : Bool) → (is : MatchBool b (Fails (client.Budget mount_path_max) s m (Ok root)) (Request mnt_result (mnt_call uid gid export) s m (Ok root)))
    → AreJudged R [] (within_exchanges b (Fails (client.Budget mount_path_max) s m (Ok root)) (Request mnt_result (mnt_call uid gid export) s m (Ok root)) (tells_request mnt_result (mnt_call uid gid export) s m (Ok root)) is).made
    → (o : Outcome) × ((mnt_result o ≡ Ok root) × R (mnt_call uid gid export) o)
mounted R uid gid export s m root true (same, wrong) are = absurd (let w = wrong in cc)
mounted R uid gid export s m root false ((inl (o, (answers, gives))), counts) are = (o, (gives, are.0))
mounted R uid gid export s m root false ((inr (inl (cause, (wrong, rest)))), counts) are = absurd (let w = wrong in cc)
mounted R uid gid export s m root false ((inr (inr (wrong, same))), counts) are = absurd (let w = wrong in cc)

-- ---- A file that is read

-- a file that was read to its end
record IsReadWhole (R : Call → Outcome → Type 0) (uid gid : ℕ) (file : List ℕ) (taken taken' : Option (List ℕ)) : Type 0 where
  outcomes : List Outcome
  answers : AreAnswers R (reading uid gid file) outcomes
  is : reading uid gid file outcomes ≡ Returns (Ok tt)
  takes : Appends taken taken' (bytes_read outcomes)

read_whole : (R : Call → Outcome → Type 0) (uid gid : ℕ) (file : List ℕ) (b c : LinkView) (taken taken' : Option (List ℕ)) (f : ReadsFile uid gid file b c taken taken' (Ok tt)) (before : List OpenRead)
    → AreJudged R before (read_exchanges uid gid file b c taken taken' (Ok tt) f).made → IsReadWhole R uid gid file taken taken'
read_whole R uid gid file b c taken taken' f before are =
    by f.ends (steps_judged R uid gid file before b f.between f.last f.made (judged_both R before (steps_exchanges uid gid file (starts_at b) f.between f.last f.made).made _ are).0).answers
  where
    takes_all : TakesRead (Ok tt) f.last.outcomes taken taken' → Appends taken taken' (bytes_read f.last.outcomes)
    takes_all (inl takes) = takes
    takes_all (inr (wrong, rest)) = absurd (let w = wrong in cc)

    returned : (◌≡◌ {A = Result (Unit {0}) ClientEnd} (Ok tt) (Err client.Memory)) ⊎ (reading uid gid file f.last.outcomes ≡ Returns (Ok tt)) → reading uid gid file f.last.outcomes ≡ Returns (Ok tt)
    returned (inl wrong) = absurd (let w = wrong in cc)
    returned (inr is) = is

    by : EndsReading uid gid file f.last f.left f.ended taken taken' (Ok tt) → AreAnswers R (reading uid gid file) f.last.outcomes → IsReadWhole R uid gid file taken taken'
    by (EndsByReplies same is waits takes) answers = record { outcomes = f.last.outcomes; answers = answers; is = returned is; takes = takes_all takes }
    by (OutputFails wrong same waits takes) answers = absurd (let w = wrong in cc)
    by (NotAnswered call end alone wrong unanswered waits takes) answers = absurd (let w = wrong in cc)
    by (NotSubmitted call end ahead wrong refused waits takes) answers = absurd (let w = wrong in cc)
    by (OldestForgotten read end full is wrong forgets waits takes) answers = absurd (let w = wrong in cc)

-- ---- The command

pub gets_read_the_file_lem : GetsReadTheFile
gets_read_the_file_lem s J uid gid export path names out out' before after text from (inr (end, (finds, (wrong, same)))) are_names keep are = absurd (let w = wrong in cc)
gets_read_the_file_lem s J uid gid export path names out out' before after text from (inl (file, (mid, (inr (end, (is, wrong)), reads)))) are_names keep are = absurd (let w = wrong in cc)
gets_read_the_file_lem s J uid gid export path names out out' before after text from (inl (file, (mid, (inl (root, (m, (mounts, walks))), (Err end, ((reads, counts), silent)))))) are_names keep are = absurd silent
gets_read_the_file_lem s J uid gid export path names out out' before after text from (inl (file, (mid, (inl (root, (m, (mounts, walks))), (Ok done, ((reads, counts), silent)))))) are_names keep are =
    let R = AnsweredAfter s J from in
    let finds_made = (tells_finds uid gid export path before mid (Ok file) (inl (root, (m, (mounts, walks))))).made in
    let reads_made = (tells_reads_out uid gid file out out' mid after (Ok text) (Ok done, ((reads, counts), silent))).made in
    let all = judged s J from (finds_made ++ reads_made) [] from (omega arith) tt are in
    let parts = judged_both R [] finds_made reads_made all in
    let mounts_made = (tells_mounts uid gid export before m (Ok root) mounts).made in
    let walks_made = (followed_exchanges (walk_next uid gid root path) m mid (Ok file) walks.0).made in
    let found_parts = judged_both R [] mounts_made walks_made parts.0 in
    let mount = mounted R uid gid export before m root (nat_lt mount_path_max (length export)) mounts found_parts.0 in
    let walk = followed R (walk_next uid gid root path) m mid file walks.0 (reads_after [] mounts_made) found_parts.1 in
    let read = read_whole R uid gid file mid after out.taken out'.taken reads (reads_after [] finds_made) parts.1 in (
      read.outcomes,
      (
        record {
          names_are = are_names;
          root = root;
          mounted = mount.0;
          mounts = since s J from root_handle names keep (mounting uid gid export) (mount.0 ∷ []) ((mnt_call uid gid export, (refl, mount.1.1)), tt);
          root_is = mount.1.0;
          file = file;
          found = walk.outcomes;
          finds = since s J from root_handle names keep (walk_next uid gid root path) walk.outcomes walk.answers;
          file_is = walk.is;
          reads = since s J from root_handle names keep (reading uid gid file) read.outcomes read.answers;
          done = read.is;
        },
        read.takes,
      ),
    )
