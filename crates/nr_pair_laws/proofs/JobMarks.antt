-- The law of a client's side by its own marks alone, whichever marks its callers make; and where its marks stand in a run of both sides.
use Rattle.std.proofs.Common.{◌≡◌, ℕ, zero, suc, ◌+◌, ◌<◌, Bool, true, false, cond, eqb, List, [], ◌∷◌, ◌++◌, length, Some, refl, sym, ap, subst, ◌∙◌, arith, append-nil}
use Rattle.std.specs.Prelude.{Contains}
use Rattle.std.specs.List.{AllByRecursion, filter, flat_map}
use Rattle.std.proofs.lemmas.List.Elements.{filter-append}
use mathlib.Core.Option.{some, some-injective, some-ne-none}
use lib.ListN.{get_elem?}
use Rattle.nr_wire.specs.declared.hello.Side.TheVariants.{Initiator, Responder}
use Rattle.nr_reduce.specs.declared.call.Form.TheVariants as forms
use Rattle.nr_reduce.specs.declared.call.Submission.TheVariants as submissions
use Rattle.nr_reduce.specs.declared.mark.LinkParameters.{LinkParameters}
use Rattle.nr_reduce.specs.declared.mark.Mark.{Mark}
use Rattle.nr_reduce.specs.declared.mark.Mark.TheVariants as marks
use Rattle.nr_reduce.specs.Asked.{AskedMark, revoked_bytes}
use Rattle.nr_reduce.specs.AtEachMark.{AtEachMark}
use Rattle.nr_reduce.specs.ClientState.{ClientState}
use Rattle.nr_reduce.specs.EndRules.{EndState}
use Rattle.nr_reduce.specs.History.{bytes_received, fed_at}
use Rattle.nr_reduce.specs.OfferedRegions.{region_bytes, region_grants}
use Rattle.nr_reduce.specs.Run.{client, grants_of, placed_bytes}
use Rattle.nr_service_laws.specs.ServedCommands.{client_marks, is_client_mark}
use Rattle.nr_service_laws.proofs.ClientLaws.{asked_back, asked_others, client_same, waits_back}
use Rattle.nr_service_laws.proofs.OpenLinks.{others_not_fed}
use Rattle.nr_service_laws.proofs.ServedOutcomes.{kept_all}
use Rattle.nr_pair_laws.specs.JobRuns.{IsJobMark}

-- ---- The law of each mark

received_same : (link : ℕ) (both : List Mark) → bytes_received link Initiator both ≡ bytes_received link Initiator (client_marks link both)
unfolding bytes_received
received_same link both = kept_all (fed_at link Initiator) (is_client_mark link) both (others_not_fed link)

-- what the regions of a call hold, by a client and how many bytes it received
abbrev revoked_by : (xid : ℕ) → EndState ClientState → (received : ℕ) → List ℕ
revoked_by xid c received =
    flat_map (λ r. region_bytes (region_grants received c.state.regions) c.state.regions c.state.accesses_received r.stag) (filter (λ r. eqb r.call xid) c.state.regions)

revoked_same : (opened : LinkParameters) (link : ℕ) (both : List Mark) (xid : ℕ) → revoked_bytes opened link both xid ≡ revoked_bytes opened link (client_marks link both) xid
unfolding placed_bytes grants_of
revoked_same opened link both xid =
    ap (λ (c : EndState ClientState). revoked_by xid c (length (bytes_received link Initiator both))) (client_same opened link both)
    ∙ ap (λ (l : List ℕ). revoked_by xid (client opened link (client_marks link both)) (length l)) (received_same link both)

module _ (Relates : List ℕ → List ℕ → Type 0) (opened : LinkParameters) (link : ℕ) where
  asked_here : (before : List Mark) (m : Mark) → IsJobMark link m → AskedMark Relates opened link (client_marks link before) m → AskedMark Relates opened link before m
  asked_here before (marks.Wrote l Initiator bytes) own h = asked_back Relates opened link before (marks.Wrote l Initiator bytes) own h
  asked_here before (marks.Fed l Initiator bytes) own h = tt
  asked_here before (marks.Submit l call forms.Auto (submissions.Accepted xid)) own h = asked_back Relates opened link before (marks.Submit l call forms.Auto (submissions.Accepted xid)) own h
  asked_here before (marks.Done l xid outcome) own h = asked_back Relates opened link before (marks.Done l xid outcome) own h
  asked_here before (marks.Forget l xid) own h = asked_back Relates opened link before (marks.Forget l xid) own h
  asked_here before (marks.Lost l xid) own h = λ same.
      let lost = h same in
      let back : client opened link (client_marks link before) ≡ client opened link before = sym (client_same opened link before) in
      record {
        awaited = waits_back Relates opened link before xid lost.awaited;
        ended = lost.ended;
        is_ended = subst (λ (c : EndState ClientState). c.ended ≡ Some lost.ended) back lost.is_ended;
        none = λ c there. lost.none c (subst (λ (e : EndState ClientState). Contains e.state.outcomes c) (client_same opened link before) there);
      }
  asked_here before (marks.Revoke l xid bytes) own h = λ same.
      let revoked = h same in
      record { awaited = waits_back Relates opened link before xid revoked.awaited; bytes_are = revoked.bytes_are ∙ sym (revoked_same opened link before xid) }
  asked_here before (marks.Wrote l Responder bytes) own h = absurd own
  asked_here before (marks.Fed l Responder bytes) own h = absurd own
  asked_here before (marks.Submit l call forms.Auto (submissions.Refused why)) own h = absurd own
  asked_here before (marks.Submit l call forms.Auto submissions.Dropped) own h = absurd own
  asked_here before (marks.Submit l call forms.Inline answer) own h = absurd own
  asked_here before (marks.Submit l call forms.Chunk answer) own h = absurd own
  asked_here before (marks.Submit l call forms.Long answer) own h = absurd own
  asked_here before (marks.Submit l call (forms.Given offer) answer) own h = absurd own
  asked_here before (marks.Execute l xid moment payload place reply) own h = absurd own
  asked_here before (marks.Drop l) own h = absurd own
  asked_here before (marks.Told l what) own h = absurd own

  asked_all : (before rest : List Mark) → AllByRecursion (IsJobMark link) (client_marks link rest)
      → AtEachMark (AskedMark Relates opened link) (client_marks link before) (client_marks link rest) → AtEachMark (AskedMark Relates opened link) before rest
  asked_all before [] own each = tt
  asked_all before (m ∷ rest) own each = by (is_client_mark link m) refl own each (asked_all (before ++ m ∷ []) rest)
    where
      more : client_marks link (before ++ m ∷ []) ≡ client_marks link before ++ cond (is_client_mark link m) (m ∷ []) []
      more = filter-append (is_client_mark link) before (m ∷ [])

      later : (xs : List Mark) → client_marks link (before ++ m ∷ []) ≡ xs → AtEachMark (AskedMark Relates opened link) xs (client_marks link rest) → AtEachMark (AskedMark Relates opened link) (client_marks link (before ++ m ∷ [])) (client_marks link rest)
      later xs same each = subst (λ (l : List Mark). AtEachMark (AskedMark Relates opened link) l (client_marks link rest)) (sym same) each

      by : (b : Bool) → is_client_mark link m ≡ b → AllByRecursion (IsJobMark link) (cond b (m ∷ client_marks link rest) (client_marks link rest))
          → AtEachMark (AskedMark Relates opened link) (client_marks link before) (cond b (m ∷ client_marks link rest) (client_marks link rest))
          → (AllByRecursion (IsJobMark link) (client_marks link rest) → AtEachMark (AskedMark Relates opened link) (client_marks link (before ++ m ∷ [])) (client_marks link rest) → AtEachMark (AskedMark Relates opened link) (before ++ m ∷ []) rest)
          → AskedMark Relates opened link before m × AtEachMark (AskedMark Relates opened link) (before ++ m ∷ []) rest
      by true is own each goes =
          (asked_here before m own.0 each.0, goes own.1 (later (client_marks link before ++ m ∷ []) (more ∙ ap (λ (b : Bool). client_marks link before ++ cond b (m ∷ []) []) is) each.1))
      by false is own each goes = (
        asked_others Relates opened link before m is,
        goes own (later (client_marks link before) (more ∙ ap (λ (b : Bool). client_marks link before ++ cond b (m ∷ []) []) is ∙ append-nil (client_marks link before)) each),
      )

  -- the law of a client's side by its marks holds in each run that has these
  pub job_asked_in_both : (both : List Mark) → AllByRecursion (IsJobMark link) (client_marks link both) → AtEachMark (AskedMark Relates opened link) [] (client_marks link both)
      → AtEachMark (AskedMark Relates opened link) [] both
  job_asked_in_both both own each = asked_all [] both own each

-- ---- What holds of each mark of the client in a run of both sides

pub client_each : (P : Mark → Type 0) (link : ℕ) (before rest : List Mark) → AllByRecursion P (client_marks link rest) → AtEachMark (λ earlier m. is_client_mark link m ≡ true → P m) before rest
client_each P link before [] all = tt
client_each P link before (m ∷ rest) all = by (is_client_mark link m) refl all (client_each P link (before ++ m ∷ []) rest)
  where
    by : (b : Bool) → is_client_mark link m ≡ b → AllByRecursion P (cond b (m ∷ client_marks link rest) (client_marks link rest)) → (AllByRecursion P (client_marks link rest) → AtEachMark (λ earlier k. is_client_mark link k ≡ true → P k) (before ++ m ∷ []) rest)
        → (is_client_mark link m ≡ true → P m) × AtEachMark (λ earlier k. is_client_mark link k ≡ true → P k) (before ++ m ∷ []) rest
    by true is all goes = ((λ same. all.0), goes all.1)
    by false is all goes = ((λ same. absurd (let wrong : true ≡ false = sym same ∙ is in cc)), goes all)

-- ---- Places

-- a mark that is kept stands in the run
pub record KeptAt (f : Mark → Bool) (run xs : List Mark) (m : Mark) (rest : List Mark) : Type 0 where
  pub before : List Mark
  pub after : List Mark
  pub is : run ≡ before ++ m ∷ after
  pub first : filter f before ≡ xs
  pub kept : filter f after ≡ rest

pub kept_at : (f : Mark → Bool) (run xs : List Mark) (m : Mark) (ys : List Mark) → filter f run ≡ xs ++ m ∷ ys → KeptAt f run xs m ys
kept_at f [] [] m ys is = absurd cc
kept_at f [] (x ∷ xs) m ys is = absurd cc
kept_at f (k ∷ run) xs m ys is = by (f k) refl xs is (λ xs e. kept_at f run xs m ys e)
  where
    by : (b : Bool) → f k ≡ b → (xs : List Mark) → cond b (k ∷ filter f run) (filter f run) ≡ xs ++ m ∷ ys → ((xs : List Mark) → filter f run ≡ xs ++ m ∷ ys → KeptAt f run xs m ys) → KeptAt f (k ∷ run) xs m ys
    by true same [] is goes =
        let head : k ≡ m = cc in let rest : filter f run ≡ ys = cc in record { before = []; after = run; is = ap (λ (y : Mark). y ∷ run) head; first = refl; kept = rest }
    by true same (x ∷ xs) is goes =
        let head : k ≡ x = cc in
        let rest : filter f run ≡ xs ++ m ∷ ys = cc in
        let found = goes xs rest in
        record {
          before = k ∷ found.before;
          after = found.after;
          is = ap (λ (l : List Mark). k ∷ l) found.is;
          first = ap (λ (b : Bool). cond b (k ∷ filter f found.before) (filter f found.before)) same ∙ ap (λ (y : Mark). y ∷ filter f found.before) head ∙ ap (λ (l : List Mark). x ∷ l) found.first;
          kept = found.kept;
        }
    by false same xs is goes =
        let found = goes xs is in
        record {
          before = k ∷ found.before;
          after = found.after;
          is = ap (λ (l : List Mark). k ∷ l) found.is;
          first = ap (λ (b : Bool). cond b (k ∷ filter f found.before) (filter f found.before)) same ∙ found.first;
          kept = found.kept;
        }

-- ---- Elements of a list, by their places

pub record OneAt {E : Type 0} (xs : List E) (k : ℕ) (a : E) : Type 0 where
  pub before : List E
  pub after : List E
  pub is : xs ≡ before ++ a ∷ after
  pub place : length before ≡ k

pub one_at : {E : Type 0} (xs : List E) (k : ℕ) (a : E) → get_elem? xs k ≡ some a → OneAt xs k a
one_at [] k a at = absurd (some-ne-none a (sym at))
one_at {E} (x ∷ xs) zero a at = record { before = []; after = xs; is = ap (λ (y : E). y ∷ xs) (some-injective x a at); place = refl }
one_at {E} (x ∷ xs) (suc k) a at =
    let one = one_at xs k a at in record { before = x ∷ one.before; after = one.after; is = ap (λ (l : List E). x ∷ l) one.is; place = ap (λ (n : ℕ). suc n) one.place }

pub record TwoAt {E : Type 0} (xs : List E) (i j : ℕ) (a b : E) : Type 0 where
  pub before : List E
  pub between : List E
  pub after : List E
  pub is : xs ≡ before ++ a ∷ (between ++ b ∷ after)
  pub first : length before ≡ i
  pub second : length before + suc (length between) ≡ j

pub two_at : {E : Type 0} (xs : List E) (i j : ℕ) (a b : E) → i < j → get_elem? xs i ≡ some a → get_elem? xs j ≡ some b → TwoAt xs i j a b
two_at [] i j a b less first second = absurd (some-ne-none a (sym first))
two_at (x ∷ xs) i zero a b less first second = absurd (omega (arith, less))
two_at {E} (x ∷ xs) zero (suc j) a b less first second =
    let one = one_at xs j b second in
    let place = one.place in
    record {
      before = [];
      between = one.before;
      after = one.after;
      is = ap (λ (y : E). y ∷ xs) (some-injective x a first) ∙ ap (λ (l : List E). a ∷ l) one.is;
      first = refl;
      second = omega (arith, place);
    }
two_at {E} (x ∷ xs) (suc i) (suc j) a b less first second =
    let two = two_at xs i j a b (omega (arith, less)) first second in
    let place = two.second in
    record {
      before = x ∷ two.before;
      between = two.between;
      after = two.after;
      is = ap (λ (l : List E). x ∷ l) two.is;
      first = ap (λ (n : ℕ). suc n) two.first;
      second = omega (arith, place);
    }
