-- Pending calls when a call is executed, and after a Read Response.
use Rattle.std.proofs.Common.{◌≡◌, ◌≢◌, ℕ, Bool, true, false, not, cond, ◌||◌, ◌&&◌, eqb, List, [], ◌∷◌, ◌++◌, take, drop, Option, None, Some, refl, sym, ap, subst, ◌∙◌, arith, eq-eqb, ne_eqb, eqb-true, append-nil, take-append-drop}
use Rattle.std.specs.Prelude.{find}
use Rattle.std.specs.List.{filter, list_any}
use Rattle.nr_reduce.specs.declared.mark.LinkParameters.{LinkParameters}
use Rattle.nr_reduce.specs.Chunks.{is_read_chunk_of_item}
use Rattle.nr_reduce.specs.History.{ExecutedCall}
use Rattle.nr_reduce.specs.Events.RunEvent.{CallExecuted}
use Rattle.nr_reduce.specs.ServerState.{ServerState, PendingCall, PendingRead, ReadyCall}
use Rattle.nr_reduce.specs.ServerFrames.{FrameEffect, with_verdict, ready_if_whole, with_refused_call, read_effect, is_stream_read}
use Rattle.nr_reduce.specs.ServerMessages.{CallVerdict, by_payload, pending_payload, chunk_bytes}
use Rattle.nr_reduce.specs.ServerReads.{is_read}
use Rattle.nr_reduce.specs.Server.{server_state_after}
use Rattle.nr_reduce.specs.ServerMessages.CallVerdict.{Refuses, IsReady}
use Rattle.nr_laws.proofs.LinkInvariants.{AreDistinct, IsUnused, AreAtMost, AreReady, AreWhole, PendingAgree}
use Rattle.nr_laws.proofs.Totals.{apart_kept, apart_push}
use Rattle.nr_laws.proofs.TotalsAtServer.{found_has}
use Rattle.nr_laws.proofs.DistinctKeys.{any_append, any_left, any_right, below_kept, below_taken, below_dropped, below_append, none_absent, any_kept, or_right_lem}
use Rattle.nr_laws.proofs.PendingSends.{AfterEffect, payload_own, pending_agree_same, whole_append}
use Rattle.std.proofs.lemmas.Bool.{and_parts}

-- ---- One call has a number, and one has an xid

-- each with this key has that mark
abbrev pub Agree : (key mark : PendingCall → ℕ) → (n x : ℕ) → List PendingCall → Type 0
Agree key mark n x [] = Unit {0}
Agree key mark n x (c ∷ calls) = (key c ≡ n → mark c ≡ x) × Agree key mark n x calls

agree_absent : (key mark : PendingCall → ℕ) (n x : ℕ) (calls : List PendingCall) → IsUnused key n calls → Agree key mark n x calls
agree_absent key mark n x [] h = tt
agree_absent key mark n x (c ∷ calls) h = ((λ e. absurd (h.0 e)), agree_absent key mark n x calls h.1)

no_truth : false ≡ true → ⊥
no_truth e = absurd cc

not_there_lem : (key mark : PendingCall → ℕ) (n x : ℕ) (calls : List PendingCall) → IsUnused key n calls → list_any (λ c. eqb (key c) n && eqb (mark c) x) calls ≡ true → ⊥
not_there_lem key mark n x [] h e = absurd cc
not_there_lem key mark n x (c ∷ calls) h e =
    not_there_lem key mark n x calls h.1 (sym (ap (λ (b : Bool). (b && eqb (mark c) x) || list_any (λ (d : PendingCall). eqb (key d) n && eqb (mark d) x) calls) (ne_eqb (key c) n h.0)) ∙ e)

absent_to : (key : PendingCall → ℕ) (m n : ℕ) (calls : List PendingCall) → m ≡ n → IsUnused key m calls → IsUnused key n calls
absent_to key m n calls e h = subst (λ (k : ℕ). IsUnused key k calls) e h

agree : (key mark : PendingCall → ℕ) (n x : ℕ) (calls : List PendingCall) → AreDistinct key calls → list_any (λ c. eqb (key c) n && eqb (mark c) x) calls ≡ true → Agree key mark n x calls
agree key mark n x [] apart e = tt
agree key mark n x (c ∷ calls) apart e = by (eqb (key c) n) (eqb (mark c) x) refl refl e (λ rest. agree key mark n x calls apart.1 rest)
  where
    rest_any : Bool
    rest_any = list_any (λ (d : PendingCall). eqb (key d) n && eqb (mark d) x) calls

    by : (a b : Bool) → eqb (key c) n ≡ a → eqb (mark c) x ≡ b → ((a && b) || rest_any) ≡ true → (rest_any ≡ true → Agree key mark n x calls) → (key c ≡ n → mark c ≡ x) × Agree key mark n x calls
    by true true ka mb e later = ((λ k. eqb-true (mark c) x mb), agree_absent key mark n x calls (absent_to key (key c) n calls (eqb-true (key c) n ka) apart.0))
    by true false ka mb e later = absurd (not_there_lem key mark n x calls (absent_to key (key c) n calls (eqb-true (key c) n ka) apart.0) e)
    by false b ka mb e later = ((λ k. absurd (no_truth (sym ka ∙ eq-eqb (key c) n k))), later e)

-- ---- The first that waits is executed

first_or : (m n : ℕ) (rest : Bool) → (eqb m n || rest) ≡ true → (m ≡ n → ⊥) → rest ≡ true
first_or m n rest e no_first = by (eqb m n) refl e
  where
    by : (b : Bool) → eqb m n ≡ b → (b || rest) ≡ true → rest ≡ true
    by true is e = absurd (no_first (eqb-true m n is))
    by false is e = e

ready_rest : (reads : List PendingRead) (r : ReadyCall) (rest : List ReadyCall) (xid : ℕ) (calls : List PendingCall) → AreReady reads (r ∷ rest) calls → Agree (λ (c : PendingCall). c.number) (λ (c : PendingCall). c.xid) r.number xid calls
    → AreReady reads rest (filter (λ (c : PendingCall). not (eqb c.xid xid)) calls)
ready_rest reads r rest xid [] h a = tt
ready_rest reads r rest xid (c ∷ calls) h a = by (eqb c.xid xid) refl (ready_rest reads r rest xid calls h.1 a.1)
  where
    left : List PendingCall
    left = filter (λ (d : PendingCall). not (eqb d.xid xid)) calls

    by : (b : Bool) → eqb c.xid xid ≡ b → AreReady reads rest left → AreReady reads rest (cond (not b) (c ∷ left) left)
    by true is later = later
    by false is later =
        ((λ e. first_or r.number c.number (list_any (λ (x : ReadyCall). eqb x.number c.number) rest) (h.0 e) (λ same. no_truth (sym is ∙ eq-eqb c.xid xid (a.0 (sym same))))), later)

survives : {X : Type 0} (key : X → ℕ) (q : X → Bool) (n : ℕ) (xs : List X) → ((x : X) → q x ≡ true → key x ≡ n → ⊥) → list_any q xs ≡ true → list_any q (filter (λ (x : X). not (eqb (key x) n)) xs) ≡ true
survives key q n [] other e = absurd cc
survives {X} key q n (x ∷ xs) other e = by (eqb (key x) n) (q x) refl refl e (λ rest. survives key q n xs other rest)
  where
    left : List X
    left = filter (λ (y : X). not (eqb (key y) n)) xs

    by : (b d : Bool) → eqb (key x) n ≡ b → q x ≡ d → (d || list_any q xs) ≡ true → (list_any q xs ≡ true → list_any q left ≡ true) → list_any q (cond (not b) (x ∷ left) left) ≡ true
    by true true is own e later = absurd (other x own (eqb-true (key x) n is))
    by true false is own e later = later e
    by false true is own e later = ap (λ (b : Bool). b || list_any q left) own
    by false false is own e later = ap (λ (b : Bool). b || list_any q left) own ∙ later e

any_swap : (p q : PendingCall → Bool) (calls : List PendingCall) → list_any (λ c. p c && q c) calls ≡ list_any (λ c. q c && p c) calls
any_swap p q [] = refl
any_swap p q (c ∷ calls) = λ i. and_swap (p c) (q c) i || any_swap p q calls i
  where
    and_swap : (a b : Bool) → (a && b) ≡ (b && a)
    and_swap true true = refl
    and_swap true false = refl
    and_swap false true = refl
    and_swap false false = refl

agreed : (key mark : PendingCall → ℕ) (n x : ℕ) (calls : List PendingCall) → Agree key mark n x calls → (q : PendingCall → Bool) → ((c : PendingCall) → q c ≡ true → key c ≡ n) → list_any q calls ≡ true
    → (m : ℕ) → ((c : PendingCall) → q c ≡ true → mark c ≡ m) → m ≡ x
agreed key mark n x [] a q keys e m marks_are = absurd (no_truth e)
agreed key mark n x (c ∷ calls) a q keys e m marks_are = by (q c) refl e (λ rest. agreed key mark n x calls a.1 q keys rest m marks_are)
  where
    by : (b : Bool) → q c ≡ b → (b || list_any q calls) ≡ true → (list_any q calls ≡ true → m ≡ x) → m ≡ x
    by true is e later = sym (marks_are c is) ∙ a.0 (keys c is)
    by false is e later = later e

whole_rest : (reads : List PendingRead) (calls : List PendingCall) (n xid : ℕ) (rest : List ReadyCall) → IsUnused (λ (r : ReadyCall). r.number) n rest
    → Agree (λ (c : PendingCall). c.xid) (λ (c : PendingCall). c.number) xid n calls → AreWhole reads calls rest → AreWhole reads (filter (λ (c : PendingCall). not (eqb c.xid xid)) calls) rest
whole_rest reads calls n xid [] absent a h = tt
whole_rest reads calls n xid (r ∷ rest) absent a h =
    let q : PendingCall → Bool = λ c. eqb c.number r.number && eqb c.xid r.xid in
    let other : (c : PendingCall) → q c ≡ true → c.xid ≡ xid → ⊥ =
    λ c is same.
    let parts = and_parts (eqb c.number r.number) (eqb c.xid r.xid) is in
    absent.0 (agreed (λ (d : PendingCall). d.xid) (λ (d : PendingCall). d.number) xid n calls a q
    (λ d d_is. eqb-true d.xid r.xid (and_parts (eqb d.number r.number) (eqb d.xid r.xid) d_is).1 ∙ sym (eqb-true c.xid r.xid parts.1) ∙ same)
    h.0 r.number (λ d d_is. eqb-true d.number r.number (and_parts (eqb d.number r.number) (eqb d.xid r.xid) d_is).0)) in
    (survives (λ (c : PendingCall). c.xid) q xid calls other h.0, h.1, whole_rest reads calls n xid rest absent.1 a h.2)

pub pending_agree_executes : (opened : LinkParameters) (s : ServerState) (e : ExecutedCall) (r : ReadyCall) (rest : List ReadyCall) → PendingAgree s → s.ready ≡ r ∷ rest → e.xid ≡ r.xid → PendingAgree (server_state_after opened s (CallExecuted e))
unfolding server_state_after
pending_agree_executes opened s e r rest w first own =
    let h : AreWhole s.reads s.calls (r ∷ rest) = subst (λ (xs : List ReadyCall). AreWhole s.reads s.calls xs) first w.whole_calls in
    let there : list_any (λ (c : PendingCall). eqb c.number r.number && eqb c.xid e.xid) s.calls ≡ true =
    ap (λ (x : ℕ). list_any (λ (c : PendingCall). eqb c.number r.number && eqb c.xid x) s.calls) own ∙ h.0 in
    let by_number = agree (λ (c : PendingCall). c.number) (λ (c : PendingCall). c.xid) r.number e.xid s.calls w.numbers there in
    let by_xid = agree (λ (c : PendingCall). c.xid) (λ (c : PendingCall). c.number) e.xid r.number s.calls w.xids (any_swap (λ (c : PendingCall). eqb c.xid e.xid) (λ (c : PendingCall). eqb c.number r.number) s.calls ∙ there) in
    let apart = subst (λ (xs : List ReadyCall). AreDistinct (λ (x : ReadyCall). x.number) xs) first w.ready_apart in
    let left : drop 1 s.ready ≡ rest = ap (λ (xs : List ReadyCall). drop 1 xs) first in
    record {
      numbers = apart_kept (λ (c : PendingCall). c.number) (λ (c : PendingCall). not (eqb c.xid e.xid)) s.calls w.numbers;
      xids = apart_kept (λ (c : PendingCall). c.xid) (λ (c : PendingCall). not (eqb c.xid e.xid)) s.calls w.xids;
      calls_below = below_kept (λ (c : PendingCall). c.number) s.received.sends (λ (c : PendingCall). not (eqb c.xid e.xid)) s.calls w.calls_below;
      reads_below = w.reads_below;
      ready_apart = subst (λ (xs : List ReadyCall). AreDistinct (λ (x : ReadyCall). x.number) xs) (sym left) apart.1;
      ready_calls = subst (λ (xs : List ReadyCall). AreReady s.reads xs (filter (λ (c : PendingCall). not (eqb c.xid e.xid)) s.calls)) (sym left)
          (ready_rest s.reads r rest e.xid s.calls (subst (λ (xs : List ReadyCall). AreReady s.reads xs s.calls) first w.ready_calls) by_number);
      whole_calls = subst (λ (xs : List ReadyCall). AreWhole s.reads (filter (λ (c : PendingCall). not (eqb c.xid e.xid)) s.calls) xs) (sym left)
          (whole_rest s.reads s.calls r.number e.xid rest apart.0 by_xid h.2);
    }

-- and so its call was there, once
pub executed_there : (s : ServerState) (xid : ℕ) (r : ReadyCall) (rest : List ReadyCall) → PendingAgree s → s.ready ≡ r ∷ rest → xid ≡ r.xid → list_any (λ (c : PendingCall). eqb c.xid xid) s.calls ≡ true
executed_there s xid r rest w first own =
    let h : AreWhole s.reads s.calls (r ∷ rest) = subst (λ (xs : List ReadyCall). AreWhole s.reads s.calls xs) first w.whole_calls in
    second xid r.number s.calls (ap (λ (x : ℕ). list_any (λ (c : PendingCall). eqb c.number r.number && eqb c.xid x) s.calls) own ∙ h.0)
  where
    second : (xid n : ℕ) (calls : List PendingCall) → list_any (λ (c : PendingCall). eqb c.number n && eqb c.xid xid) calls ≡ true → list_any (λ (c : PendingCall). eqb c.xid xid) calls ≡ true
    second xid n [] e = absurd (no_truth e)
    second xid n (c ∷ calls) e = by (eqb c.number n) (eqb c.xid xid) e (second xid n calls)
      where
        by : (a b : Bool) → ((a && b) || list_any (λ (d : PendingCall). eqb d.number n && eqb d.xid xid) calls) ≡ true
            → (list_any (λ (d : PendingCall). eqb d.number n && eqb d.xid xid) calls ≡ true → list_any (λ (d : PendingCall). eqb d.xid xid) calls ≡ true)
            → (b || list_any (λ (d : PendingCall). eqb d.xid xid) calls) ≡ true
        by a true e later = refl
        by true false e later = later e
        by false false e later = later e

-- ---- The last byte of a read is received

-- what is read of the others stays
read_tail_lem : (r : PendingRead) (others : List PendingRead) (n : ℕ) → r.number ≢ n → is_read others n ≡ is_read (r ∷ others) n
read_tail_lem r others n ne = ap (λ (b : Bool). not (b || list_any (λ (x : PendingRead). eqb x.number n) others)) (sym (ne_eqb r.number n ne))

unread_head : (r : PendingRead) (others : List PendingRead) (n : ℕ) → is_read (r ∷ others) n ≡ true → r.number ≢ n
unread_head r others n e same =
    no_truth (sym (ap (λ (b : Bool). not (b || list_any (λ (x : PendingRead). eqb x.number n) others)) (eq-eqb r.number n same)) ∙ e)

-- those whose number isn't the read's
ready_tail : (r : PendingRead) (others : List PendingRead) (ready : List ReadyCall) (calls : List PendingCall) → IsUnused (λ (c : PendingCall). c.number) r.number calls → AreReady (r ∷ others) ready calls → AreReady others ready calls
ready_tail r others ready [] absent h = tt
ready_tail r others ready (c ∷ calls) absent h =
    ((λ e. h.0 (sym (read_tail_lem r others c.number (λ same. absent.0 (sym same))) ∙ e)), ready_tail r others ready calls absent.1 h.1)

whole_tail : (r : PendingRead) (others : List PendingRead) (calls : List PendingCall) (ready : List ReadyCall) → AreWhole (r ∷ others) calls ready → AreWhole others calls ready
whole_tail r others calls [] h = tt
whole_tail r others calls (x ∷ ready) h = (h.0, read_tail_lem r others x.number (unread_head r others x.number h.1) ∙ h.1, whole_tail r others calls ready h.2)

-- a call is ready if its own read was the last
ready_new : (r : PendingRead) (others : List PendingRead) (ready new : List ReadyCall) (n : ℕ) (calls : List PendingCall) → r.number ≡ n
    → (is_read others n ≡ true → list_any (λ (x : ReadyCall). eqb x.number n) new ≡ true) → AreReady (r ∷ others) ready calls → AreReady others (ready ++ new) calls
ready_new r others ready new n [] own h k = tt
ready_new r others ready new n (c ∷ calls) own h k = (by (eqb c.number n) refl, ready_new r others ready new n calls own h k.1)
  where
    by : (b : Bool) → eqb c.number n ≡ b → is_read others c.number ≡ true → list_any (λ (x : ReadyCall). eqb x.number c.number) (ready ++ new) ≡ true
    by true is e =
        let same = eqb-true c.number n is in
        any_right (λ (x : ReadyCall). eqb x.number c.number) ready new
        (ap (λ (m : ℕ). list_any (λ (x : ReadyCall). eqb x.number m) new) same ∙ h (ap (λ (m : ℕ). is_read others m) (sym same) ∙ e))
    by false is e =
        any_left (λ (x : ReadyCall). eqb x.number c.number) ready new
        (k.0 (sym (read_tail_lem r others c.number (λ same. no_truth (sym is ∙ eq-eqb c.number n (sym same ∙ own)))) ∙ e))

none_found : {X : Type 0} (p : X → Bool) (xs : List X) → find p xs ≡ None → list_any p xs ≡ false
none_found p [] e = refl
none_found p (x ∷ xs) e = by (p x) e (none_found p xs)
  where
    by : (b : Bool) → cond b (Some x) (find p xs) ≡ None → (find p xs ≡ None → list_any p xs ≡ false) → (b || list_any p xs) ≡ false
    by true e later = absurd cc
    by false e later = later e

absent_left : (n : ℕ) (calls : List PendingCall) → IsUnused (λ (c : PendingCall). c.number) n (filter (λ (c : PendingCall). not (eqb c.number n)) calls)
absent_left n [] = tt
absent_left n (c ∷ calls) = by (eqb c.number n) refl (absent_left n calls)
  where
    left : List PendingCall
    left = filter (λ (d : PendingCall). not (eqb d.number n)) calls

    by : (b : Bool) → eqb c.number n ≡ b → IsUnused (λ (d : PendingCall). d.number) n left → IsUnused (λ (d : PendingCall). d.number) n (cond (not b) (c ∷ left) left)
    by true is rest = rest
    by false is rest = ((λ same. no_truth (sym is ∙ eq-eqb c.number n same)), rest)

ready_kept : (reads : List PendingRead) (ready : List ReadyCall) (p : PendingCall → Bool) (calls : List PendingCall) → AreReady reads ready calls → AreReady reads ready (filter p calls)
ready_kept reads ready p [] h = tt
ready_kept reads ready p (c ∷ calls) h = by (p c) (ready_kept reads ready p calls h.1)
  where
    by : (b : Bool) → AreReady reads ready (filter p calls) → AreReady reads ready (cond b (c ∷ filter p calls) (filter p calls))
    by true rest = (h.0, rest)
    by false rest = rest

-- the reads of a call that is refused are dropped if they aren't open: what is read of the others stays
abbrev dropped : ℕ → ℕ → List PendingRead → List PendingRead
dropped kept m reads = take kept reads ++ filter (λ (x : PendingRead). not (eqb x.number m)) (drop kept reads)

read_dropped : (kept m n : ℕ) (reads : List PendingRead) → m ≢ n → is_read (dropped kept m reads) n ≡ is_read reads n
read_dropped kept m n reads ne =
    let p : PendingRead → Bool = λ x. eqb x.number n in
    ap (λ (b : Bool). not b)
    (any_append p (take kept reads) (filter (λ (x : PendingRead). not (eqb x.number m)) (drop kept reads))
    ∙ ap (λ (b : Bool). list_any p (take kept reads) || b) (any_kept (λ (x : PendingRead). x.number) m n (drop kept reads) ne)
    ∙ sym (any_append p (take kept reads) (drop kept reads))
    ∙ ap (λ (xs : List PendingRead). list_any p xs) (take-append-drop kept reads))

ready_dropped : (kept m : ℕ) (reads : List PendingRead) (ready : List ReadyCall) (calls : List PendingCall) → IsUnused (λ (c : PendingCall). c.number) m calls → AreReady reads ready calls → AreReady (dropped kept m reads) ready calls
ready_dropped kept m reads ready [] absent h = tt
ready_dropped kept m reads ready (c ∷ calls) absent h =
    ((λ e. h.0 (sym (read_dropped kept m c.number reads (λ same. absent.0 (sym same))) ∙ e)), ready_dropped kept m reads ready calls absent.1 h.1)

whole_dropped : (kept m : ℕ) (r : PendingRead) (others : List PendingRead) (calls : List PendingCall) (ready : List ReadyCall) → r.number ≡ m → AreWhole (r ∷ others) calls ready
    → AreWhole (dropped kept m others) (filter (λ (c : PendingCall). not (eqb c.number m)) calls) ready
whole_dropped kept m r others calls [] own h = tt
whole_dropped kept m r others calls (x ∷ ready) own h =
    let ne : r.number ≢ x.number = unread_head r others x.number h.1 in
    let other : m ≢ x.number = λ e. ne (own ∙ e) in (
      survives (λ (c : PendingCall). c.number) (λ (c : PendingCall). eqb c.number x.number && eqb c.xid x.xid) m calls
          (λ c is same. other (sym same ∙ eqb-true c.number x.number (and_parts (eqb c.number x.number) (eqb c.xid x.xid) is).0)) h.0,
      read_dropped kept m x.number others other ∙ read_tail_lem r others x.number ne ∙ h.1,
      whole_dropped kept m r others calls ready own h.2,
    )

-- what a last byte makes
abbrev state_with : ServerState → List PendingCall → List PendingRead → List ReadyCall → ServerState
state_with s calls reads ready = record s { calls = calls; reads = reads; ready = ready }

to_whole : (s t c_k : ServerState) (place : ℕ) (r : PendingRead) (others : List PendingRead) (c : PendingCall) (st : FrameEffect) (o : CallVerdict) (b : Bool) → PendingAgree s → s.reads ≡ r ∷ others → r.number ≡ c.number
    → list_any (λ (x : PendingCall). eqb x.number c.number && eqb x.xid c.xid) s.calls ≡ true
    → st.calls ≡ s.calls → st.reads ≡ others → st.ready ≡ [] → is_read others c.number ≡ b → by_payload c (pending_payload c_k place c) ≡ o
    → AfterEffect s t (cond b (with_verdict o st) st) 0 → (cond b (with_verdict o st) st).refusal ≡ None → PendingAgree t
to_whole s t c_k place r others c st o false w first own there calls reads none read is b goes_on =
    let ready_calls : AreReady (r ∷ others) s.ready s.calls = subst (λ (rs : List PendingRead). AreReady rs s.ready s.calls) first w.ready_calls in
    let whole_calls : AreWhole (r ∷ others) s.calls s.ready = subst (λ (rs : List PendingRead). AreWhole rs s.calls s.ready) first w.whole_calls in
    let at = state_with s s.calls others (s.ready ++ []) in
    pending_agree_same at t
    (record {
      numbers = w.numbers;
      xids = w.xids;
      calls_below = w.calls_below;
      reads_below = (subst (λ (rs : List PendingRead). AreAtMost (λ (x : PendingRead). x.number) s.received.sends rs) first w.reads_below).1;
      ready_apart = subst (λ (xs : List ReadyCall). AreDistinct (λ (x : ReadyCall). x.number) xs) (sym (append-nil s.ready)) w.ready_apart;
      ready_calls = ready_new r others s.ready [] c.number s.calls own (λ e. absurd (no_truth (sym read ∙ e))) ready_calls;
      whole_calls = subst (λ (xs : List ReadyCall). AreWhole others s.calls xs) (sym (append-nil s.ready)) (whole_tail r others s.calls s.ready whole_calls);
    })
    (b.calls ∙ calls) (b.reads ∙ reads) (b.ready ∙ ap (λ (xs : List ReadyCall). s.ready ++ xs) none) (omega (arith, b.sends_are))
to_whole s t c_k place r others c st (Refuses reason) true w first own there calls reads none read is b goes_on = absurd cc
to_whole s t c_k place r others c st (IsReady x) true w first own there calls reads none read is b goes_on =
    let mine = payload_own c (pending_payload c_k place c) x is in
    let ready_calls : AreReady (r ∷ others) s.ready s.calls = subst (λ (rs : List PendingRead). AreReady rs s.ready s.calls) first w.ready_calls in
    let whole_calls : AreWhole (r ∷ others) s.calls s.ready = subst (λ (rs : List PendingRead). AreWhole rs s.calls s.ready) first w.whole_calls in
    let at = state_with s s.calls others (s.ready ++ x ∷ []) in
    pending_agree_same at t
    (record {
      numbers = w.numbers;
      xids = w.xids;
      calls_below = w.calls_below;
      reads_below = (subst (λ (rs : List PendingRead). AreAtMost (λ (x : PendingRead). x.number) s.received.sends rs) first w.reads_below).1;
      ready_apart = apart_push (λ (y : ReadyCall). y.number) s.ready x w.ready_apart
          (subst (λ (m : ℕ). IsUnused (λ (y : ReadyCall). y.number) m s.ready) (own ∙ sym mine.0) (head_unready r others s.calls s.ready whole_calls));
      ready_calls = ready_new r others s.ready (x ∷ []) c.number s.calls own (λ e. ap (λ (y : Bool). y || false) (eq-eqb x.number c.number mine.0)) ready_calls;
      whole_calls = whole_append others s.calls s.ready (x ∷ []) (whole_tail r others s.calls s.ready whole_calls)
          ((λ i. list_any (λ (d : PendingCall). eqb d.number (mine.0 i) && eqb d.xid (mine.1 i)) s.calls) ∙ there, ap (λ (m : ℕ). is_read others m) mine.0 ∙ read, tt);
    })
    (b.calls ∙ calls) (b.reads ∙ reads) b.ready (omega (arith, b.sends_are))
  where
    head_unready : (r : PendingRead) (others : List PendingRead) (calls : List PendingCall) (ready : List ReadyCall) → AreWhole (r ∷ others) calls ready → IsUnused (λ (y : ReadyCall). y.number) r.number ready
    head_unready r others calls [] h = tt
    head_unready r others calls (y ∷ ready) h = ((λ same. unread_head r others y.number h.1 (sym same)), head_unready r others calls ready h.2)

found_there : (n : ℕ) (calls : List PendingCall) (c : PendingCall) → find (λ (x : PendingCall). eqb x.number n) calls ≡ Some c → list_any (λ (x : PendingCall). eqb x.number c.number && eqb x.xid c.xid) calls ≡ true
found_there n [] c e = absurd cc
found_there n (d ∷ calls) c e = by (eqb d.number n) e (found_there n calls c)
  where
    same_call : Some d ≡ Some c → d ≡ c
    same_call e = cc

    by : (b : Bool) → cond b (Some d) (find (λ (x : PendingCall). eqb x.number n) calls) ≡ Some c
        → (find (λ (x : PendingCall). eqb x.number n) calls ≡ Some c → list_any (λ (x : PendingCall). eqb x.number c.number && eqb x.xid c.xid) calls ≡ true)
        → ((eqb d.number c.number && eqb d.xid c.xid) || list_any (λ (x : PendingCall). eqb x.number c.number && eqb x.xid c.xid) calls) ≡ true
    by true e later =
        let same = same_call e in
        λ i. (eq-eqb d.number c.number (ap (λ (x : PendingCall). x.number) same) i && eq-eqb d.xid c.xid (ap (λ (x : PendingCall). x.xid) same) i) || list_any (λ (x : PendingCall). eqb x.number c.number && eqb x.xid c.xid) calls
    by false e later = or_right_lem (eqb d.number c.number && eqb d.xid c.xid) (list_any (λ (x : PendingCall). eqb x.number c.number && eqb x.xid c.xid) calls) (later e)

pub pending_agree_read : (s t c_k : ServerState) (place : ℕ) (r : PendingRead) (others : List PendingRead) (o : Option PendingCall) (st : FrameEffect) → PendingAgree s → s.reads ≡ r ∷ others → find (λ (c : PendingCall). eqb c.number r.number) s.calls ≡ o
    → st.calls ≡ s.calls → st.reads ≡ others → st.ready ≡ [] → AfterEffect s t (read_effect c_k place r o st) 0 → (read_effect c_k place r o st).refusal ≡ None → PendingAgree t
pending_agree_read s t c_k place r others None st w first found calls reads none b goes_on =
    let absent = none_absent (λ (c : PendingCall). c.number) r.number s.calls (none_found (λ (c : PendingCall). eqb c.number r.number) s.calls found) in
    let at = state_with s s.calls others (s.ready ++ []) in
    pending_agree_same at t
    (record {
      numbers = w.numbers;
      xids = w.xids;
      calls_below = w.calls_below;
      reads_below = (subst (λ (rs : List PendingRead). AreAtMost (λ (x : PendingRead). x.number) s.received.sends rs) first w.reads_below).1;
      ready_apart = subst (λ (xs : List ReadyCall). AreDistinct (λ (x : ReadyCall). x.number) xs) (sym (append-nil s.ready)) w.ready_apart;
      ready_calls = subst (λ (xs : List ReadyCall). AreReady others xs s.calls) (sym (append-nil s.ready)) (ready_tail r others s.ready s.calls absent (subst (λ (rs : List PendingRead). AreReady rs s.ready s.calls) first w.ready_calls));
      whole_calls = subst (λ (xs : List ReadyCall). AreWhole others s.calls xs) (sym (append-nil s.ready)) (whole_tail r others s.calls s.ready (subst (λ (rs : List PendingRead). AreWhole rs s.calls s.ready) first w.whole_calls));
    })
    (b.calls ∙ calls) (b.reads ∙ reads) (b.ready ∙ ap (λ (xs : List ReadyCall). s.ready ++ xs) none) (omega (arith, b.sends_are))
pending_agree_read s t c_k place r others (Some c) st w first found calls reads none b goes_on =
    by (is_stream_read c r st.reads && not (is_read_chunk_of_item (chunk_bytes c_k place c 0) c.lists.read)) b goes_on
  where
    own : c.number ≡ r.number
    own = found_has (λ (x : PendingCall). x.number) r.number s.calls c found

    by : (x : Bool) → AfterEffect s t (cond x (with_refused_call c_k c st) (ready_if_whole c_k place c st)) 0 → (cond x (with_refused_call c_k c st) (ready_if_whole c_k place c st)).refusal ≡ None → PendingAgree t
    by true b goes_on =
        let p : PendingCall → Bool = λ d. not (eqb d.number c.number) in
        let ready_calls : AreReady (r ∷ others) s.ready s.calls = subst (λ (rs : List PendingRead). AreReady rs s.ready s.calls) first w.ready_calls in
        let absent = absent_left c.number s.calls in
        let tail = ready_tail r others s.ready (filter p s.calls) (absent_to (λ (x : PendingCall). x.number) c.number r.number (filter p s.calls) own absent) (ready_kept (r ∷ others) s.ready p s.calls ready_calls) in
        let reads_below = (subst (λ (rs : List PendingRead). AreAtMost (λ (x : PendingRead). x.number) s.received.sends rs) first w.reads_below).1 in
        let at = state_with s (filter p s.calls) (dropped st.kept c.number others) (s.ready ++ []) in
        pending_agree_same at t
        (record {
          numbers = apart_kept (λ (x : PendingCall). x.number) p s.calls w.numbers;
          xids = apart_kept (λ (x : PendingCall). x.xid) p s.calls w.xids;
          calls_below = below_kept (λ (x : PendingCall). x.number) s.received.sends p s.calls w.calls_below;
          reads_below = below_append (λ (x : PendingRead). x.number) s.received.sends _ _ (below_taken (λ (x : PendingRead). x.number) s.received.sends st.kept others reads_below)
              (below_kept (λ (x : PendingRead). x.number) s.received.sends (λ (x : PendingRead). not (eqb x.number c.number)) (drop st.kept others) (below_dropped (λ (x : PendingRead). x.number) s.received.sends st.kept others reads_below));
          ready_apart = subst (λ (xs : List ReadyCall). AreDistinct (λ (x : ReadyCall). x.number) xs) (sym (append-nil s.ready)) w.ready_apart;
          ready_calls = subst (λ (xs : List ReadyCall). AreReady (dropped st.kept c.number others) xs (filter p s.calls)) (sym (append-nil s.ready)) (ready_dropped st.kept c.number others s.ready (filter p s.calls) absent tail);
          whole_calls = subst (λ (xs : List ReadyCall). AreWhole (dropped st.kept c.number others) (filter p s.calls) xs) (sym (append-nil s.ready))
              (whole_dropped st.kept c.number r others s.calls s.ready (sym own) (subst (λ (rs : List PendingRead). AreWhole rs s.calls s.ready) first w.whole_calls));
        })
        (b.calls ∙ ap (λ (cs : List PendingCall). filter p cs) calls) (b.reads ∙ ap (λ (rs : List PendingRead). dropped st.kept c.number rs) reads) (b.ready ∙ ap (λ (xs : List ReadyCall). s.ready ++ xs) none) (omega (arith, b.sends_are))
    by false b goes_on =
        to_whole s t c_k place r others c st (by_payload c (pending_payload c_k place c)) (is_read st.reads c.number) w first (sym own) (found_there r.number s.calls c found) calls reads none
        (ap (λ (rs : List PendingRead). is_read rs c.number) (sym reads)) refl b goes_on
