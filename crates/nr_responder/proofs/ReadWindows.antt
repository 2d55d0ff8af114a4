-- Something is left to be read for each call whose payload is completed in the buffer of its sink.
use Rattle.std.proofs.Common.{◌≡◌, ◌≢◌, ℕ, zero, suc, ◌+◌, ◌⊎◌, ◌<◌, ◌≤◌, Bool, true, false, not, cond, eqb, ◌||◌, List, [], ◌∷◌, ◌++◌, length, get_or, set, map, refl, sym, ap, subst, ◌∙◌, arith, inl, inr}
use Rattle.std.specs.List.{list_any, filter, remove}
use Rattle.std.proofs.lemmas.Bool.{cases_eq, eq-eqb, eqb-true, ne_eqb}
use Rattle.nr_header.specs.declared.header.ReadSegment.{ReadSegment}
use Rattle.nr_reduce.specs.Chunks.{positions, total_at}
use Rattle.nr_reduce.specs.ServerState.{PendingRead}
use Rattle.nr_reduce.specs.ServerReads.{is_read, reads_from}
use Rattle.nr_responder.specs.declared.call.Pending.{Pending}
use Rattle.nr_responder.specs.declared.call.ReadEntry.{ReadEntry}
use Rattle.nr_responder.specs.private.CallsRead.{chunk_positions, has_bytes_at, sinks_from}
use Rattle.nr_responder.specs.private.ReadsDone.{reads_without}
use Rattle.nr_responder.specs.private.Starting.{reads_more}
use Rattle.nr_responder.specs.Sound.{OthersAreRead, WindowsAreRead, around_share, calls_share}
use Rattle.nr_responder.specs.Views.{read_view}
use Rattle.nr_responder.proofs.PendingReads.{some_read}
use Rattle.nr_responder.proofs.Shares.{part_of, part_less, part_other, part_own, share_empty, share_none, share_pushed, share_removed, share_set}

abbrev number_of : Pending → ℕ
number_of c = c.number

abbrev around_in : Pending → ℕ
around_in c = c.around

abbrev one_each : Pending → ℕ
one_each c = 1

-- ---- Reads

-- nothing was read before, if nothing is read with more
fewer_read : (n : ℕ) (reads more : List PendingRead) → is_read (reads ++ more) n ≡ true → is_read reads n ≡ true
fewer_read n [] more read = refl
fewer_read n (r ∷ reads) more read = by (eqb r.number n) (fewer_read n reads more) read
  where
    by : (b : Bool) → (is_read (reads ++ more) n ≡ true → is_read reads n ≡ true) → not (b || list_any (λ x. eqb x.number n) (reads ++ more)) ≡ true → not (b || list_any (λ x. eqb x.number n) reads) ≡ true
    by true rest e = absurd (let wrong : false ≡ true = e in cc)
    by false rest e = rest e

others_any : (n m : ℕ) (reads : List PendingRead) → n ≢ m → list_any (λ r. eqb r.number n) (filter (λ r. not (eqb r.number m)) reads) ≡ list_any (λ r. eqb r.number n) reads
others_any n m [] ne = refl
others_any n m (r ∷ reads) ne = by (eqb r.number m) refl (others_any n m reads ne)
  where
    left : List PendingRead
    left = filter (λ x. not (eqb x.number m)) reads

    by : (b : Bool) → eqb r.number m ≡ b → list_any (λ x. eqb x.number n) left ≡ list_any (λ x. eqb x.number n) reads → list_any (λ x. eqb x.number n) (cond (not b) (r ∷ left) left) ≡ (eqb r.number n || list_any (λ x. eqb x.number n) reads)
    by true is rest = rest ∙ ap (λ (b : Bool). b || list_any (λ x. eqb x.number n) reads) (sym (ne_eqb r.number n (λ e. ne (sym e ∙ eqb-true r.number m is))))
    by false is rest = ap (λ (b : Bool). eqb r.number n || b) rest

without_any : (n m kept : ℕ) (reads : List PendingRead) → n ≢ m → list_any (λ r. eqb r.number n) (reads_without m kept reads) ≡ list_any (λ r. eqb r.number n) reads
without_any n m zero reads ne = others_any n m reads ne
without_any n m (suc kept) [] ne = refl
without_any n m (suc kept) (r ∷ reads) ne = ap (λ (b : Bool). eqb r.number n || b) (without_any n m kept reads ne)

-- the reads of a call that begin
any_more : (p : PendingRead → Bool) (reads more : List PendingRead) → list_any p more ≡ true → list_any p (reads ++ more) ≡ true
any_more p [] more some = some
any_more p (r ∷ reads) more some = by (any_more p reads more some) (p r)
  where
    by : list_any p (reads ++ more) ≡ true → (b : Bool) → (b || list_any p (reads ++ more)) ≡ true
    by rest true = refl
    by rest false = rest

filter_first : (p : ℕ → Bool) (xs : List ℕ) (y : ℕ) (ys : List ℕ) → filter p xs ≡ y ∷ ys → p y ≡ true
filter_first p [] y ys is = absurd (let wrong : [] ≡ y ∷ ys = is in cc)
filter_first p (x ∷ xs) y ys is = by (p x) refl (filter_first p xs y ys) is
  where
    by : (b : Bool) → p x ≡ b → (filter p xs ≡ y ∷ ys → p y ≡ true) → cond b (x ∷ filter p xs) (filter p xs) ≡ y ∷ ys → p y ≡ true
    by true found rest e = (let same : x ≡ y = cc in ap p (sym same) ∙ found)
    by false found rest e = rest e

pub begun_unread : (number next start : ℕ) (read : List ReadSegment) (chunks : List ℕ) (old new : List ReadEntry) → chunks ≡ chunk_positions read → chunks ≡ start ∷ [] → map read_view new ≡ reads_more old number next read chunks → is_read (map read_view new) number ≡ false
begun_unread number next start read chunks old new are one reads_are =
    let long : not (eqb (total_at start read) 0) ≡ true = filter_first (has_bytes_at read) (positions read) start [] (sym are ∙ one) in
    let some : total_at start read ≢ 0 = λ e. (let two : false ≡ true = ap not (sym (eq-eqb (total_at start read) 0 e)) ∙ long in absurd cc) in
    ap (λ (rs : List PendingRead). is_read rs number) reads_are
    ∙ ap not (any_more (λ r. eqb r.number number) (map read_view old) (reads_from (sinks_from number next read chunks) number [] read) (some_read (sinks_from number next read chunks) number start [] read some))

-- ---- Calls

pub empty_windows : (calls : List Pending) (reads : List ReadEntry) → calls ≡ [] → WindowsAreRead calls reads
empty_windows calls reads none = subst (λ (cs : List Pending). WindowsAreRead cs reads) (sym none) (record { read = λ n read. refl; own = λ n two. refl })

none_part : (n : ℕ) (c : Pending) → c.around ≡ 0 → part_of number_of around_in n c ≡ 0
none_part n c none = by (eqb c.number n)
  where
    by : (b : Bool) → cond b c.around 0 ≡ 0
    by true = none
    by false = refl

-- a call more, of which nothing is left to be read
pub pushed_windows : (calls later : List Pending) (c : Pending) (reads : List ReadEntry) → later ≡ calls ++ c ∷ [] → c.around ≡ 0 → is_read (map read_view reads) c.number ≡ true → WindowsAreRead calls reads → WindowsAreRead later reads
pushed_windows calls later c reads is none fresh h = record {
  read = λ n read. (let one = same n in let rest = h.read n read in omega (arith, one, rest));
  own = λ n two. by n two (cases_eq c.number n);
}
  where
    same : (n : ℕ) → around_share n later ≡ around_share n calls
    same n = (let sum = ap (λ (cs : List Pending). around_share n cs) is ∙ share_pushed number_of around_in n calls c in let part = none_part n c none in omega (arith, sum, part))

    by : (n : ℕ) → 1 < calls_share n later → (c.number ≡ n) ⊎ (c.number ≢ n) → around_share n later ≡ 0
    by n two (inl e) = (let one = same n in let rest = h.read n (subst (λ (m : ℕ). is_read (map read_view reads) m ≡ true) e fresh) in omega (arith, one, rest))
    by n two (inr ne) =
        let count = ap (λ (cs : List Pending). calls_share n cs) is ∙ share_pushed number_of one_each n calls c in
        let part = part_other number_of one_each n c ne in
        let one = same n in
        let rest = h.own n (omega (arith, two, count, part)) in
        omega (arith, one, rest)

-- a call more, whose reads begin
pub begun_windows : (calls later : List Pending) (c : Pending) (number : ℕ) (old new : List ReadEntry) (more : List PendingRead) → map read_view new ≡ map read_view old ++ more → later ≡ calls ++ c ∷ [] → c.number ≡ number → list_any (λ x. eqb x.number number) calls ≡ false →
    (c.around ≢ 0 → is_read (map read_view new) number ≡ false) → WindowsAreRead calls old → WindowsAreRead later new
begun_windows calls later c number old new more reads_are is number_is alone unread h = record {
  read = λ n read. by n read (cases_eq c.number n) (cases_eq c.around 0);
  own = λ n two. by_own n two (cases_eq c.number n);
}
  where
    sum : (n : ℕ) → around_share n later ≡ around_share n calls + part_of number_of around_in n c
    sum n = ap (λ (cs : List Pending). around_share n cs) is ∙ share_pushed number_of around_in n calls c

    by : (n : ℕ) → is_read (map read_view new) n ≡ true → (c.number ≡ n) ⊎ (c.number ≢ n) → (c.around ≡ 0) ⊎ (c.around ≢ 0) → around_share n later ≡ 0
    by n read own (inl none) =
        let rest = h.read n (fewer_read n (map read_view old) more (subst (λ (rs : List PendingRead). is_read rs n ≡ true) reads_are read)) in
        let all = sum n in
        let part = none_part n c none in
        omega (arith, rest, all, part)
    by n read (inl e) (inr some) =
        absurd (let two : true ≡ false = sym (subst (λ (m : ℕ). is_read (map read_view new) m ≡ true) (sym e ∙ number_is) read) ∙ unread some in cc)
    by n read (inr ne) (inr some) =
        let rest = h.read n (fewer_read n (map read_view old) more (subst (λ (rs : List PendingRead). is_read rs n ≡ true) reads_are read)) in
        let all = sum n in
        let part = part_other number_of around_in n c ne in
        omega (arith, rest, all, part)

    by_own : (n : ℕ) → 1 < calls_share n later → (c.number ≡ n) ⊎ (c.number ≢ n) → around_share n later ≡ 0
    by_own n two (inl e) =
        let count = ap (λ (cs : List Pending). calls_share n cs) is ∙ share_pushed number_of one_each n calls c in
        let part = part_own number_of one_each n c e in
        let none = share_none number_of one_each n calls (subst (λ (m : ℕ). list_any (λ x. eqb x.number m) calls ≡ false) (sym number_is ∙ e) alone) in
        absurd (omega (arith, two, count, part, none))
    by_own n two (inr ne) =
        let count = ap (λ (cs : List Pending). calls_share n cs) is ∙ share_pushed number_of one_each n calls c in
        let part = part_other number_of one_each n c ne in
        let rest = h.own n (omega (arith, two, count, part)) in
        let all = sum n in
        let own = part_other number_of around_in n c ne in
        omega (arith, rest, all, own)

pub removed_windows : (calls later : List Pending) (at : ℕ) (d : Pending) (reads : List ReadEntry) → later ≡ remove calls at → at < length calls → WindowsAreRead calls reads → WindowsAreRead later reads
removed_windows calls later at d reads is lt h = record {
  read = λ n read. (let all = sum n in let rest = h.read n read in omega (arith, all, rest));
  own = λ n two.
      let count : calls_share n later + part_of number_of one_each n (get_or calls at d) ≡ calls_share n calls = ap (λ (cs : List Pending). calls_share n cs + part_of number_of one_each n (get_or calls at d)) is ∙ share_removed number_of one_each n calls at d lt in
      let all = sum n in
      let rest = h.own n (omega (arith, two, count)) in
      omega (arith, all, rest);
}
  where
    sum : (n : ℕ) → around_share n later + part_of number_of around_in n (get_or calls at d) ≡ around_share n calls
    sum n = ap (λ (cs : List Pending). around_share n cs + part_of number_of around_in n (get_or calls at d)) is ∙ share_removed number_of around_in n calls at d lt

-- one call is set, with as many bytes outside or fewer
record IsLess (calls later : List Pending) : Type 0 where
  around : (n : ℕ) → around_share n later ≤ around_share n calls
  count : (n : ℕ) → calls_share n later ≡ calls_share n calls

set_less : (calls later : List Pending) (at : ℕ) (c d : Pending) → later ≡ set calls at c → at < length calls → c.number ≡ (get_or calls at d).number → c.around ≤ (get_or calls at d).around → IsLess calls later
set_less calls later at c d is lt same le = record {
  around = λ n.
      let all = ap (λ (cs : List Pending). around_share n cs + part_of number_of around_in n (get_or calls at d)) is ∙ share_set number_of around_in n calls at c d lt in
      let part = part_less number_of around_in n c (get_or calls at d) same le in
      omega (arith, all, part);
  count = λ n.
      let all = ap (λ (cs : List Pending). calls_share n cs + part_of number_of one_each n (get_or calls at d)) is ∙ share_set number_of one_each n calls at c d lt in
      let part = ap {B = ℕ} (λ (m : ℕ). cond (eqb m n) 1 0) same in
      omega (arith, all, part);
}

pub set_windows : (calls later : List Pending) (at : ℕ) (c d : Pending) (reads : List ReadEntry) → later ≡ set calls at c → at < length calls → c.number ≡ (get_or calls at d).number → c.around ≤ (get_or calls at d).around → WindowsAreRead calls reads → WindowsAreRead later reads
set_windows calls later at c d reads is lt same le h =
    let l : IsLess calls later = set_less calls later at c d is lt same le in
    record {
      read = λ n read. (let few = l.around n in let rest = h.read n read in omega (arith, few, rest));
      own = λ n two. (let few = l.around n in let count = l.count n in let rest = h.own n (omega (arith, two, count)) in omega (arith, few, rest));
    }

-- of a call of which nothing is left to be read no bytes are outside
pub none_outside : (calls : List Pending) (at : ℕ) (d : Pending) (reads : List ReadEntry) → at < length calls → is_read (map read_view reads) (get_or calls at d).number ≡ true → WindowsAreRead calls reads → (get_or calls at d).around ≡ 0
none_outside calls at d reads lt read h =
    let all = share_removed number_of around_in (get_or calls at d).number calls at d lt in
    let part = part_own number_of around_in (get_or calls at d).number (get_or calls at d) refl in
    let none = h.read (get_or calls at d).number read in
    omega (arith, all, part, none)

-- ---- The call whose read is done

-- the first read is taken out
pub first_done : (calls : List Pending) (reads later : List ReadEntry) (first : ReadEntry) → map read_view reads ≡ read_view first ∷ map read_view later → WindowsAreRead calls reads → OthersAreRead first.number calls later
first_done calls reads later first is h = record {
  read = λ n ne read. h.read n
      (ap (λ (rs : List PendingRead). is_read rs n) is ∙ ap (λ (b : Bool). not (b || list_any (λ r. eqb r.number n) (map read_view later))) (ne_eqb first.number n (λ e. ne (sym e))) ∙ read);
  own = h.own;
}

-- all the others, and this
with_done : (done : ℕ) (calls : List Pending) (reads : List ReadEntry) → (is_read (map read_view reads) done ≡ true → around_share done calls ≡ 0) → OthersAreRead done calls reads → WindowsAreRead calls reads
with_done done calls reads own h = record { read = λ n read. by n read (cases_eq n done); own = h.own }
  where
    by : (n : ℕ) → is_read (map read_view reads) n ≡ true → (n ≡ done) ⊎ (n ≢ done) → around_share n calls ≡ 0
    by n read (inl e) = ap (λ (m : ℕ). around_share m calls) e ∙ own (subst (λ (m : ℕ). is_read (map read_view reads) m ≡ true) e read)
    by n read (inr ne) = h.read n ne read

-- more is left to be read for it
pub done_unread : (done : ℕ) (calls : List Pending) (reads : List ReadEntry) → is_read (map read_view reads) done ≡ false → OthersAreRead done calls reads → WindowsAreRead calls reads
done_unread done calls reads unread h = with_done done calls reads (λ read. absurd (let two : true ≡ false = sym read ∙ unread in cc)) h

-- it is pending no more
pub done_gone : (done : ℕ) (calls : List Pending) (reads : List ReadEntry) → ((k : ℕ) (d : Pending) → k < length calls → (get_or calls k d).number ≢ done) → OthersAreRead done calls reads → WindowsAreRead calls reads
done_gone done calls reads gone h = with_done done calls reads (λ read. share_none number_of around_in done calls (none calls gone)) h
  where
    none : (cs : List Pending) → ((k : ℕ) (d : Pending) → k < length cs → (get_or cs k d).number ≢ done) → list_any (λ x. eqb x.number done) cs ≡ false
    none [] ne = refl
    none (c ∷ cs) ne = ap (λ (b : Bool). b || list_any (λ x. eqb x.number done) cs) (ne_eqb c.number done (ne zero c (omega arith))) ∙ none cs (λ k d lt. ne (suc k) d (omega (arith, lt)))

-- no other call of its number has bytes outside
done_only : (done : ℕ) (calls : List Pending) (at : ℕ) (d : Pending) → at < length calls → (get_or calls at d).number ≡ done → ((n : ℕ) → 1 < calls_share n calls → around_share n calls ≡ 0) → around_share done calls ≤ (get_or calls at d).around
done_only done calls at d lt is own = by (calls_share done calls) refl
  where
    by : (count : ℕ) → calls_share done calls ≡ count → around_share done calls ≤ (get_or calls at d).around
    by (suc (suc n)) e = (let none = own done (omega (arith, e)) in omega (arith, none))
    by zero e = (let none = share_empty number_of around_in done calls e in omega (arith, none))
    by (suc zero) e =
        let counted = share_removed number_of one_each done calls at d lt in
        let one = part_own number_of one_each done (get_or calls at d) is in
        let none = share_empty number_of around_in done (remove calls at) (omega (arith, counted, one, e)) in
        let all = share_removed number_of around_in done calls at d lt in
        let part = part_own number_of around_in done (get_or calls at d) is in
        omega (arith, none, all, part)

-- it has none
pub done_none : (done : ℕ) (calls : List Pending) (at : ℕ) (d : Pending) (reads : List ReadEntry) → at < length calls → (get_or calls at d).number ≡ done → (get_or calls at d).around ≡ 0 → OthersAreRead done calls reads → WindowsAreRead calls reads
done_none done calls at d reads lt is none h = with_done done calls reads (λ read. (let few = done_only done calls at d lt is h.own in omega (arith, few, none))) h

-- its payload is completed
pub done_placed : (done : ℕ) (calls later : List Pending) (at : ℕ) (c d : Pending) (reads : List ReadEntry) → at < length calls → (get_or calls at d).number ≡ done → later ≡ set calls at c → c.number ≡ done → c.around ≡ 0 → OthersAreRead done calls reads → WindowsAreRead later reads
done_placed done calls later at c d reads lt is later_is same none h =
    let l : IsLess calls later = set_less calls later at c d later_is lt (same ∙ sym is) (omega (arith, none)) in
    let few : around_share done later ≤ 0 =
    (let all = ap (λ (cs : List Pending). around_share done cs + part_of number_of around_in done (get_or calls at d)) later_is ∙ share_set number_of around_in done calls at c d lt in
    let part = part_own number_of around_in done (get_or calls at d) is in
    let new = none_part done c none in
    let most = done_only done calls at d lt is h.own in
    omega (arith, all, part, new, most)) in
    with_done done later reads (λ read. omega (arith, few)) (record {
      read = λ n ne read. (let less = l.around n in let rest = h.read n ne read in omega (arith, less, rest));
      own = λ n two. (let less = l.around n in let count = l.count n in let rest = h.own n (omega (arith, two, count)) in omega (arith, less, rest));
    })

-- it is refused, and its reads that wait are dropped
pub done_refused : (done kept : ℕ) (calls later : List Pending) (at : ℕ) (d : Pending) (reads left : List ReadEntry) → at < length calls → (get_or calls at d).number ≡ done → (get_or calls at d).around ≡ 0 → later ≡ remove calls at → map read_view left ≡ reads_without done kept (map read_view reads) →
    OthersAreRead done calls reads → WindowsAreRead later left
done_refused done kept calls later at d reads left lt is none later_is left_is h =
    removed_windows calls later at d left later_is lt (with_done done calls left (λ read. (let few = done_only done calls at d lt is h.own in omega (arith, few, none))) (record {
      read = λ n ne read. h.read n ne (ap not (sym (without_any n done kept (map read_view reads) ne)) ∙ ap (λ (rs : List PendingRead). is_read rs n) (sym left_is) ∙ read);
      own = h.own;
    }))
