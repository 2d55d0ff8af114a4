-- A call over a shared requester: what it added to the history, and its outcome.
use Rattle.std.proofs.Common.{◌≡◌, inl, inr, arith, ℕ, zero, suc, List, [], ◌∷◌, ◌++◌, length, take, Some, Result, Ok, Err, refl, sym, ap, subst, ◌∙◌}
use Rattle.std.proofs.Math.Seq.{take-append_seam}
use Rattle.std.specs.declared.vec.Vec.{Vec}
use Rattle.std.specs.declared.alloc.Global.{Global}
use Rattle.std.specs.List.{All, slice_index_or}
use Rattle.std.proofs.lemmas.List.Elements.{All-append}
use mathlib.Core.Option.{some}
use lib.ListN.{get_elem?}
use Rattle.nr_reduce.specs.declared.call.Call.{Call}
use Rattle.nr_reduce.specs.declared.call.Form.{Form}
use Rattle.nr_reduce.specs.declared.call.Form.TheVariants as forms
use Rattle.nr_reduce.specs.declared.call.Outcome.{Outcome}
use Rattle.nr_requester.specs.declared.taking.Done.{Done}
use Rattle.nr_turnstile.specs.declared.turnstile.Pass.{Pass}
use Rattle.nr_turnstile.specs.Passes.{mine_of, seen_by}
use Rattle.nr_turnstile.specs.Rule.{Begins, IsIn, in_order}
use Rattle.nr_shared.specs.declared.call_end.CallEnd.{CallEnd}
use Rattle.nr_shared.specs.declared.entry.Entry.{Entry}
use Rattle.nr_shared.specs.declared.entry.Entry.TheVariants as entries
use Rattle.nr_shared.specs.declared.entry.InitialState.{InitialState}
use Rattle.nr_shared.specs.declared.requester_with_sink.RequesterWithSink.{RequesterWithSink}
use Rattle.nr_shared.specs.Adding.{Adds, AreAt}
use Rattle.nr_shared.specs.Callers.{KeepsLaw}
use Rattle.nr_shared.specs.Histories.{initial_of}
use Rattle.nr_shared.specs.Waiting.{Calls, OwnAnswer}
use Rattle.nr_shared.proofs.Adding.{begins_then, still_at}
use Rattle.nr_shared.proofs.Lists.{at_after, begins_self, in_more, still_first, still_ordered}
use Rattle.nr_shared.proofs.Submitting.{link_cause}
use Rattle.nr_client.specs.Jobs.{AreExchanges, IsExchange, LacksAnswer}
use Rattle.nr_client.specs.Reading.{piece_left, read_call}
use Rattle.nr_client.specs.declared.jobs.PieceRead.{PieceRead}
use Rattle.nr_client.specs.private.JobReads.{AreFetched, Grows}

-- ---- Entries

-- the last of these entries stands at one of the places
pub last_at : (seen : List Entry) (ks : List ℕ) (es : List Entry) (e : Entry) → AreAt seen ks (es ++ e ∷ []) → (k : ℕ) × (IsIn k ks × (get_elem? seen k ≡ some e))
last_at seen [] [] e at = absurd at
last_at seen [] (f ∷ es) e at = absurd at
last_at seen (j ∷ ks) [] e at = (j, ((0, refl), at.0))
last_at seen (j ∷ ks) (f ∷ es) e at = let l = last_at seen ks es e at.1 in (l.0, ((suc l.1.0.0, l.1.0.1), l.1.1))

-- a history that begins with the initial state did so before it was given up
initial_before : (h : List Entry) (xid at : ℕ) (c : InitialState) → initial_of (h ++ entries.Forget xid at ∷ []) ≡ Some c → initial_of h ≡ Some c
initial_before [] xid at c is = absurd cc
initial_before (entries.Initial initial ∷ xs) xid at c is = is
initial_before (entries.Submit call form x ∷ xs) xid at c is = absurd cc
initial_before (entries.Wrote bytes ∷ xs) xid at c is = absurd cc
initial_before (entries.Fed bytes previous ∷ xs) xid at c is = absurd cc
initial_before (entries.Done x outcome submit ∷ xs) xid at c is = absurd cc
initial_before (entries.Lost x submit ∷ xs) xid at c is = absurd cc
initial_before (entries.Forget x submit ∷ xs) xid at c is = absurd cc
initial_before (entries.Revoke x bytes submit ∷ xs) xid at c is = absurd cc
initial_before (entries.WriteFailed ∷ xs) xid at c is = absurd cc
initial_before (entries.Stopped cause previous ∷ xs) xid at c is = absurd cc
initial_before (entries.OutOfMemory piece previous ∷ xs) xid at c is = absurd cc
initial_before (entries.Rejoin sink previous ∷ xs) xid at c is = absurd cc

pub in_later : (xs ys : List ℕ) (y : ℕ) → IsIn y ys → IsIn y (xs ++ ys)
in_later xs ys y i = let a = at_after xs ys i.0 y i.1 in (a.0, a.1.1)

pub still_there : (xs ys : List Entry) (k : ℕ) (e : Entry) → Begins xs ys → get_elem? xs k ≡ some e → get_elem? ys k ≡ some e
still_there xs ys k e begins at = (still_at xs ys (k ∷ []) (e ∷ []) begins (at, tt)).0

pub exchange_on : (xs ys : List Entry) (ks ls : List ℕ) (call : Call) (outcome : Outcome) → Begins xs ys → ((k : ℕ) → IsIn k ks → IsIn k ls) → IsExchange xs ks call outcome → IsExchange ys ls call outcome
exchange_on xs ys ks ls call outcome begins own x = record {
  xid = x.xid;
  at = x.at;
  asked = still_there xs ys x.at (entries.Submit call forms.Auto x.xid) begins x.asked;
  done = x.done;
  answered = still_there xs ys x.done (entries.Done x.xid outcome x.at) begins x.answered;
  own = (own x.at x.own.0, own x.done x.own.1);
}

pub fetched_on : (xs ys : List Entry) (ks ls : List ℕ) (uid gid : ℕ) (file : List ℕ) (size : ℕ) (pieces : List PieceRead) → Begins xs ys → ((k : ℕ) → IsIn k ks → IsIn k ls)
    → AreFetched uid gid file size xs ks pieces → AreFetched uid gid file size ys ls pieces
fetched_on xs ys ks ls uid gid file size pieces begins own all k d lt =
    let piece = slice_index_or pieces k d in exchange_on xs ys ks ls (read_call uid gid file piece.at (piece_left size piece.at)) piece.outcome begins own (all k d lt)

pub all_one : {X : Type 0} (P : X → Type 0) (x : X) → P x → All P (x ∷ [])
all_one P x p zero d lt = p
all_one P x p (suc k) d lt = absurd (omega (arith, lt))

pub all_first : {X : Type 0} (P : X → Type 0) (x : X) (xs : List X) → All P (x ∷ xs) → P x × All P xs
all_first P x xs all = (all 0 x (omega arith), λ k d lt. all (suc k) d (omega (arith, lt)))

-- the lists of the jobs, of which one more was taken back
pub lists_more : (uid gid : ℕ) (file : List ℕ) (size : ℕ) (xs ys : List Entry) (ks ls : List ℕ) (lists more : List (Vec PieceRead Global)) (list : Vec PieceRead Global) → Begins xs ys → ((k : ℕ) → IsIn k ks → IsIn k ls)
    → All (λ (l : Vec PieceRead Global). AreFetched uid gid file size xs ks l.items) lists → AreFetched uid gid file size ys ls list.items → more ≡ lists ++ list ∷ [] → All (λ (l : Vec PieceRead Global). AreFetched uid gid file size ys ls l.items) more
lists_more uid gid file size xs ys ks ls lists more list begins own all one is =
    let P : Vec PieceRead Global → Type 0 = λ l. AreFetched uid gid file size ys ls l.items in
    subst (All P) (sym is) (All-append P lists (list ∷ []) (λ k d lt. fetched_on xs ys ks ls uid gid file size (slice_index_or lists k d).items begins own (all k d lt)) (all_one P list one))

pub fetched_more : (xs : List Entry) (ks : List ℕ) (uid gid : ℕ) (file : List ℕ) (size at count : ℕ) (outcome : Outcome) (pieces : List PieceRead) → AreFetched uid gid file size xs ks pieces
    → IsExchange xs ks (read_call uid gid file at count) outcome → count ≡ piece_left size at → AreFetched uid gid file size xs ks (pieces ++ record { at = at; outcome = outcome } ∷ [])
fetched_more xs ks uid gid file size at count outcome pieces all one same =
    let P : PieceRead → Type 0 = λ piece. IsExchange xs ks (read_call uid gid file piece.at (piece_left size piece.at)) piece.outcome in
    let x : PieceRead = record { at = at; outcome = outcome } in
    All-append P pieces (x ∷ []) all (all_one P x (subst (λ (n : ℕ). IsExchange xs ks (read_call uid gid file at n) outcome) same one))

-- a list that was lent as a slice, after that
pub all_lent : {X : Type 0} (len : ℕ) (new rest : List X) → length new ≡ len → take len (new ++ rest) ≡ new
all_lent len new rest e = ap (λ (n : ℕ). take n (new ++ rest)) (sym e) ∙ take-append_seam new rest

module _ {O C : Type 0} where
  pub grows_adds : (p q : Pass (RequesterWithSink O C) Entry) (es : List Entry) → Adds p q es → Grows p q
  grows_adds p q es a = record { seen = a.seen; mine = λ k i. subst (IsIn k) (sym a.mine) (in_more (mine_of p) a.places k i) }

  pub grows_none : (p q : Pass (RequesterWithSink O C) Entry) → seen_by q ≡ seen_by p → mine_of q ≡ mine_of p → Grows p q
  grows_none p q seen mine = record { seen = subst (Begins (seen_by p)) (sym seen) (begins_self (seen_by p)); mine = λ k i. subst (IsIn k) (sym mine) i }

  pub grows_then : (p q r : Pass (RequesterWithSink O C) Entry) → Grows p q → Grows q r → Grows p r
  grows_then p q r one two = record { seen = begins_then (seen_by p) (seen_by q) (seen_by r) one.seen two.seen; mine = λ k i. two.mine k (one.mine k i) }

  -- a pass that takes in another
  pub joined_grows : (p o q : Pass (RequesterWithSink O C) Entry) → Begins (seen_by p) (seen_by q) → mine_of q ≡ in_order (mine_of p) (mine_of o) → Grows p q
  joined_grows p o q seen mine = record { seen = seen; mine = λ k i. subst (IsIn k) (sym mine) (still_first (mine_of p) (mine_of o) k i) }

  -- ---- A call

  pub call_grows : (p q : Pass (RequesterWithSink O C) Entry) (call : Call) (form : Form) (result : Result Done CallEnd) → Calls p q call form result → Grows p q
  call_grows p q call form (Ok done) o = grows_adds p q ((o.writes_before ++ entries.Submit call form o.xid ∷ o.writes_after) ++ entries.Done o.xid done.outcome o.at ∷ []) o.adds
  call_grows p q call form (Err end) (inl n) = grows_adds p q n.writes_before n.adds
  call_grows p q call form (Err end) (inr n) = grows_adds p q ((n.writes_before ++ entries.Submit call form n.xid ∷ n.writes_after) ++ entries.Forget n.xid n.at ∷ []) n.adds

  pub exchanged : (p q : Pass (RequesterWithSink O C) Entry) (call : Call) (done : Done) → OwnAnswer p q call forms.Auto done → IsExchange (seen_by q) (mine_of q) call done.outcome
  exchanged p q call done o =
      let l = last_at (seen_by q) o.adds.places (o.writes_before ++ entries.Submit call forms.Auto o.xid ∷ o.writes_after) (entries.Done o.xid done.outcome o.at) o.adds.at in
      record {
        xid = o.xid;
        at = o.at;
        asked = o.stands;
        done = l.0;
        answered = l.1.1;
        own = (o.own, subst (IsIn l.0) (sym o.adds.mine) (in_later (mine_of p) o.adds.places l.0 l.1.0));
      }

  pub lacks : (p q : Pass (RequesterWithSink O C) Entry) (call : Call) (end : CallEnd) → KeepsLaw (seen_by q) → Calls p q call forms.Auto (Err end) → LacksAnswer (seen_by q) call end
  lacks p q call end law (inl n) = record { before = seen_by q; initial = law.initial; is_initial = law.is_initial; begins = begins_self (seen_by q); cause = n.cause }
  lacks p q call end law (inr n) = record {
    before = n.before;
    initial = law.initial;
    is_initial = initial_before n.before n.xid n.at law.initial (ap (λ (l : List Entry). initial_of l) (sym n.seen) ∙ law.is_initial);
    begins = (entries.Forget n.xid n.at ∷ [], n.seen);
    cause = link_cause end call forms.Auto n.before n.ended;
  }

  -- ---- What was exchanged stays

  pub exchange_grows : (p q : Pass (RequesterWithSink O C) Entry) (call : Call) (outcome : Outcome) → Grows p q → IsExchange (seen_by p) (mine_of p) call outcome → IsExchange (seen_by q) (mine_of q) call outcome
  exchange_grows p q call outcome g = exchange_on (seen_by p) (seen_by q) (mine_of p) (mine_of q) call outcome g.seen g.mine

  pub exchanges_grow : (uid gid : ℕ) (file : List ℕ) (p q : Pass (RequesterWithSink O C) Entry) (before after : List Outcome) → Grows p q
      → AreExchanges uid gid file (seen_by p) (mine_of p) before after → AreExchanges uid gid file (seen_by q) (mine_of q) before after
  exchanges_grow uid gid file p q before [] g all = tt
  exchanges_grow uid gid file p q before (o ∷ after) g all =
      ((all.0.0, all.0.1, exchange_grows p q all.0.0 o g all.0.2), exchanges_grow uid gid file p q (before ++ o ∷ []) after g all.1)

  pub joined_fetched : (p o q : Pass (RequesterWithSink O C) Entry) (uid gid : ℕ) (file : List ℕ) (size : ℕ) (pieces : List PieceRead) → Begins (seen_by o) (seen_by q) → mine_of q ≡ in_order (mine_of p) (mine_of o)
      → AreFetched uid gid file size (seen_by o) (mine_of o) pieces → AreFetched uid gid file size (seen_by q) (mine_of q) pieces
  joined_fetched p o q uid gid file size pieces second mine all =
      fetched_on (seen_by o) (seen_by q) (mine_of o) (mine_of q) uid gid file size pieces second (λ k i. subst (IsIn k) (sym mine) (still_ordered (mine_of p) (mine_of o) k i)) all
