-- The sinks of a responder stay within their bounds.
use Rattle.std.proofs.Common.{◌≡◌, ◌≢◌, ℕ, zero, suc, ◌+◌, ◌<◌, ◌≤◌, Bool, true, false, not, ◌||◌, eqb, cond, List, [], ◌∷◌, ◌++◌, length, map, take, drop, Option, None, Some, refl, sym, ap, subst, ◌∙◌, arith, inl, inr, is_some, length-append}
use Rattle.std.specs.Prelude.{◌⊎◌}
use Rattle.std.specs.List.{AllByRecursion, list_any, filter}
use Rattle.std.proofs.lemmas.Bool.{eqb-true, eq-eqb, ne_eqb, cases_lt}
use Rattle.std.proofs.lemmas.List.{length-take, drop_all}
use Rattle.nr_header.specs.Constants.{PAYLOAD_MAX, READ_SEGMENTS_MAX}
use Rattle.nr_header.specs.declared.header.ChunkLists.{ChunkLists}
use Rattle.nr_header.specs.WithinLimits.{read_total}
use Rattle.nr_link.specs.declared.end.End.{End}
use Rattle.nr_link.specs.declared.end.End.TheVariants as ends
use Rattle.nr_link.specs.Limits.{open_reads_max}
use Rattle.nr_endpoint.specs.ReceiveQueue.{ReceiveQueue}
use Rattle.nr_link.specs.Input.{InputState}
use Rattle.nr_regions.specs.RegisteredMemory.{RegisteredMemory, AreHeldFrom}
use Rattle.nr_endpoint.specs.LinkState.{LinkState, LinkSide}
use Rattle.nr_endpoint.specs.Judging.{with_end_of}
use Rattle.nr_endpoint.specs.Calls.{after_call}
use Rattle.nr_endpoint.specs.Calls.Call.{NextEvent, OutOfMemory, Send, Stop}
use Rattle.nr_reduce.specs.Holds.{chunk_error}
use Rattle.nr_reduce.specs.Limits.{numbers_end}
use Rattle.nr_reduce.specs.OfferedRegions.{Region}
use Rattle.nr_reduce.specs.ServerState.{PendingCall, PendingRead, ServerState}
use Rattle.nr_reduce.specs.ServerReads.{chunks_of, reads_from, regions_from}
use Rattle.nr_reduce.specs.declared.mark.LinkParameters.{LinkParameters}
use Rattle.nr_responder.specs.Fetching.{Fetching, SinkRegion, open_if, open_sinks, sink_of_region}
use Rattle.nr_responder.specs.HeldBytes.{sinks_count, sinks_share, sinks_total, IsOfPending, RegionsHave, SameReceives, SharesFit, SinksFit, ReceivesFit}
use Rattle.nr_responder.specs.Keeping.{Keeps}
use Rattle.nr_responder.specs.ResponderState.{ResponderSide, end_of}
use Rattle.nr_responder.specs.private.CallsRead.{reading_call, registered, sinks_of}
use Rattle.nr_responder.specs.private.Handling.{Handled, on_link, with_ready}
use Rattle.nr_responder.specs.private.Handling.Handled.{Stopped, Refused, Ready, Fetched, Completed}
use Rattle.nr_responder.specs.private.Reading.{is_sink_over, over_sinks, left_sinks, released}
use Rattle.nr_responder.specs.private.ReadsDone.{ReadHandled, ReadRanOut, calls_without, ended_as, reading_on, reads_without, still_open, with_sent}
use Rattle.nr_responder.specs.private.ReadsDone.ReadHandled.{GoesOn, Readies, Stops, Refused as RefusedRead}
use Rattle.nr_responder.proofs.ChunkTotals.{chunks_few, own_count, own_share, sinks_within}
use Rattle.nr_responder.proofs.OwnedSinks.{live_count, live_most}
use Rattle.nr_responder.proofs.PendingReads.{AreOf, reads_own}
use Rattle.nr_responder.proofs.Posted.{stopped_as, memory_as, memory_ends, sent_link, told_link_lem}
use Rattle.nr_responder.proofs.Shares.{share_append, share_filtered, sizes_append}
use Rattle.nr_responder.proofs.SinkTotals.{claim_of_sink, registered_have, released_have, regions_total}
use Rattle.nr_link.specs.Agreement.{IsSendLimit}

-- ---- Reads of pending calls

more_pending : (calls more : List PendingCall) (n : ℕ) → list_any (λ c. eqb c.number n) calls ≡ true → list_any (λ c. eqb c.number n) (calls ++ more) ≡ true
more_pending [] more n e = absurd (let wrong : false ≡ true = e in cc)
more_pending (c ∷ calls) more n e = by (eqb c.number n) (more_pending calls more n) e
  where
    by : (b : Bool) → (list_any (λ c. eqb c.number n) calls ≡ true → list_any (λ c. eqb c.number n) (calls ++ more) ≡ true) → (b || list_any (λ c. eqb c.number n) calls) ≡ true → (b || list_any (λ c. eqb c.number n) (calls ++ more)) ≡ true
    by true rest e = refl
    by false rest e = rest e

all_more : (calls more : List PendingCall) (reads : List PendingRead) → AllByRecursion (IsOfPending calls) reads → AllByRecursion (IsOfPending (calls ++ more)) reads
all_more calls more [] h = tt
all_more calls more (r ∷ reads) h = (more_pending calls more r.number h.0, all_more calls more reads h.1)

last_pending : (calls : List PendingCall) (c : PendingCall) (n : ℕ) → n ≡ c.number → list_any (λ c. eqb c.number n) (calls ++ c ∷ []) ≡ true
last_pending [] c n is = ap (λ (b : Bool). b || false) (eq-eqb c.number n (sym is))
last_pending (d ∷ calls) c n is = by (eqb d.number n) (last_pending calls c n is)
  where
    by : (b : Bool) → list_any (λ c. eqb c.number n) (calls ++ c ∷ []) ≡ true → (b || list_any (λ c. eqb c.number n) (calls ++ c ∷ [])) ≡ true
    by true e = refl
    by false e = e

own_pending : (calls : List PendingCall) (c : PendingCall) (reads : List PendingRead) → AreOf c.number reads → AllByRecursion (IsOfPending (calls ++ c ∷ [])) reads
own_pending calls c [] h = tt
own_pending calls c (r ∷ reads) h = (last_pending calls c r.number h.0, own_pending calls c reads h.1)

drop_split : (P : PendingRead → Type 0) (n : ℕ) (xs ys : List PendingRead) → AllByRecursion P (drop n xs) → AllByRecursion P ys → AllByRecursion P (drop n (xs ++ ys))
drop_split P n [] ys h more = all_dropped n ys more
  where
    all_dropped : (n : ℕ) (ys : List PendingRead) → AllByRecursion P ys → AllByRecursion P (drop n ys)
    all_dropped zero ys h = h
    all_dropped (suc n) [] h = tt
    all_dropped (suc n) (y ∷ ys) h = all_dropped n ys h.1
drop_split P zero (x ∷ xs) ys h more = (h.0, drop_split P zero xs ys h.1 more)
drop_split P (suc n) (x ∷ xs) ys h more = drop_split P n xs ys h more

drop_next : (P : PendingRead → Type 0) (n : ℕ) (x : PendingRead) (xs : List PendingRead) → AllByRecursion P (drop n (x ∷ xs)) → AllByRecursion P (drop n xs)
drop_next P zero x xs h = h.1
drop_next P (suc n) x [] h = tt
drop_next P (suc n) x (y ∷ xs) h = drop_next P n y xs h

-- ---- The call with a number is gone

still_pending : (n m : ℕ) (calls : List PendingCall) → m ≢ n → list_any (λ c. eqb c.number m) calls ≡ true → list_any (λ c. eqb c.number m) (calls_without n calls) ≡ true
still_pending n m [] ne e = e
still_pending n m (c ∷ calls) ne e = by (still_pending n m calls ne) (eqb c.number n) refl (eqb c.number m) refl e
  where
    left : List PendingCall
    left = calls_without n calls

    by : (list_any (λ c. eqb c.number m) calls ≡ true → list_any (λ c. eqb c.number m) left ≡ true) → (a : Bool) → eqb c.number n ≡ a → (b : Bool) → eqb c.number m ≡ b → (b || list_any (λ c. eqb c.number m) calls) ≡ true →
        list_any (λ c. eqb c.number m) (cond (not a) (c ∷ left) left) ≡ true
    by rest true is true at e = absurd (ne (sym (eqb-true c.number m at) ∙ eqb-true c.number n is))
    by rest true is false at e = rest e
    by rest false is true at e = ap (λ (b : Bool). b || list_any (λ c. eqb c.number m) left) at
    by rest false is false at e = or_right (eqb c.number m) (rest e)
      where
        or_right : (b : Bool) → list_any (λ c. eqb c.number m) left ≡ true → (b || list_any (λ c. eqb c.number m) left) ≡ true
        or_right true e = refl
        or_right false e = e

pub without_pending : (n : ℕ) (calls : List PendingCall) (reads : List PendingRead) → AllByRecursion (IsOfPending calls) reads → AllByRecursion (IsOfPending (calls_without n calls)) (filter (λ r. not (eqb r.number n)) reads)
without_pending n calls [] h = tt
without_pending n calls (r ∷ reads) h = by (eqb r.number n) refl (without_pending n calls reads h.1)
  where
    eqb_ne : (a b : ℕ) → eqb a b ≡ false → a ≢ b
    eqb_ne a b e same = absurd (let two : true ≡ false = sym (eq-eqb a b same) ∙ e in cc)

    by : (b : Bool) → eqb r.number n ≡ b → AllByRecursion (IsOfPending (calls_without n calls)) (filter (λ r. not (eqb r.number n)) reads) →
        AllByRecursion (IsOfPending (calls_without n calls)) (cond (not b) (r ∷ filter (λ r. not (eqb r.number n)) reads) (filter (λ r. not (eqb r.number n)) reads))
    by true is rest = rest
    by false is rest = (still_pending n r.number calls (eqb_ne r.number n is) h.0, rest)

-- the reads that aren't open once the first is done
pub kept_waiting : (P : PendingRead → Type 0) (r : PendingRead) (rest : List PendingRead) → AllByRecursion P (drop open_reads_max (r ∷ rest)) → AllByRecursion P (drop (still_open r rest) rest)
kept_waiting P r rest h = by (cases_lt (length rest) 7)
  where
    len : length (take open_reads_max (r ∷ rest)) ≡ length (take open_reads_max (r ∷ rest))
    len = refl

    by : (length rest < 7) ⊎ (7 ≤ length rest) → AllByRecursion P (drop (still_open r rest) rest)
    by (inl few) =
        let n : still_open r rest ≡ length rest = omega (arith, few, length-take open_reads_max (r ∷ rest)) in
        subst (λ (xs : List PendingRead). AllByRecursion P xs) (sym (drop_all (still_open r rest) rest (omega (arith, n)))) tt
    by (inr many) =
        let n : still_open r rest ≡ 7 = omega (arith, many, length-take open_reads_max (r ∷ rest)) in
        subst (λ (k : ℕ). AllByRecursion P (drop k rest)) (sym n) h

few_kept : (P : PendingRead → Type 0) (n m : ℕ) (xs ys : List PendingRead) → n ≤ m → AllByRecursion P ys → AllByRecursion P (drop m (take n xs ++ ys))
few_kept P zero m xs ys le h = drop_split P m [] ys (none m) h
  where
    none : (m : ℕ) → AllByRecursion P (drop m [])
    none zero = tt
    none (suc m) = tt
few_kept P (suc n) m [] ys le h = drop_split P m [] ys (none m) h
  where
    none : (m : ℕ) → AllByRecursion P (drop m [])
    none zero = tt
    none (suc m) = tt
few_kept P (suc n) zero (x ∷ xs) ys le h = absurd (omega (arith, le))
few_kept P (suc n) (suc m) (x ∷ xs) ys le h = few_kept P n m xs ys (omega (arith, le)) h

-- ---- Receives

pub receives_on : (p q r : ReceiveQueue) → SameReceives p q → SameReceives q r → SameReceives p r
receives_on p q r a b = record { count = b.count ∙ a.count; len = b.len ∙ a.len }

pub receives_fit_on : (credits : ℕ) (q r : ReceiveQueue) → ReceivesFit credits q → SameReceives q r → ReceivesFit credits r
receives_fit_on credits q r a b = record { count = b.count ∙ a.count; len = subst IsSendLimit (sym b.len) a.len }

pub receives_same : (q r : ReceiveQueue) → r ≡ q → SameReceives q r
receives_same q r is = record { count = ap (λ (x : ReceiveQueue). x.receives) is; len = ap (λ (x : ReceiveQueue). x.receive_length) is }

pub told_receives : (l : LinkSide) → SameReceives l.state.receive_queue (after_call l NextEvent).state.receive_queue
told_receives l = (let t = told_link_lem l (after_call l NextEvent) refl in record { count = ap (λ (x : ReceiveQueue). x.receives) t.queue; len = ap (λ (x : ReceiveQueue). x.receive_length) t.queue })

-- ---- What changes neither sinks nor calls

pub on_link_fits : (v : ResponderSide) (l : LinkSide) → SameReceives v.link.state.receive_queue l.state.receive_queue → l.state.memory ≡ v.link.state.memory → (l.state.ended ≡ None → end_of v ≡ None) → SinksFit v → SinksFit (on_link v l)
on_link_fits v l same memory lives h = record {
  receives = receives_fit_on _ v.link.state.receive_queue l.state.receive_queue h.receives same;
  memory = subst (λ (m : RegisteredMemory). RegionsHave m (sinks_total v.fetching.sinks)) (sym memory) h.memory;
  most = h.most;
  count = h.count;
  each = λ live. (let f : SharesFit v = h.each (lives live) in record { shares = f.shares; counts = f.counts; waiting = f.waiting });
}

pub ready_fits : (v : ResponderSide) (l : LinkSide) (c : PendingCall) → SameReceives v.link.state.receive_queue l.state.receive_queue → l.state.memory ≡ v.link.state.memory → (l.state.ended ≡ None → end_of v ≡ None) → SinksFit v → SinksFit (with_ready v l c)
ready_fits v l c same memory lives h = record {
  receives = receives_fit_on _ v.link.state.receive_queue l.state.receive_queue h.receives same;
  memory = subst (λ (m : RegisteredMemory). RegionsHave m (sinks_total v.fetching.sinks)) (sym memory) h.memory;
  most = (let most = h.most in omega (arith, most, length-append v.calls (c ∷ [])));
  count = (let count = h.count in omega (arith, count, length-append v.calls (c ∷ [])));
  each = λ live. (let f : SharesFit v = h.each (lives live) in record { shares = f.shares; counts = f.counts; waiting = all_more v.calls (c ∷ []) (drop open_reads_max v.fetching.reads) f.waiting });
}

-- a side that is stopped ends
stop_ends : (l : LinkSide) (reason : ℕ) → l.state.ended ≡ None → (after_call l (Stop reason)).state.ended ≡ None → ⊥
unfolding after_call
stop_ends l reason live none =
    let now : Some (ends.Bad l.state.last reason) ≡ None = sym (ap (λ (o : Option End). (cond (is_some o) l.state (with_end_of (ends.Bad l.state.last reason) l.state)).ended) live) ∙ none in
    absurd cc

-- and keeps its sinks
ended_fits : (v : ResponderSide) (l : LinkSide) (fetching : Fetching) → SameReceives v.link.state.receive_queue l.state.receive_queue → l.state.memory ≡ v.link.state.memory → fetching.sinks ≡ v.fetching.sinks → (l.state.ended ≡ None → ⊥) → SinksFit v → SinksFit (ended_as v l fetching)
ended_fits v l fetching same memory sinks over h = record {
  receives = receives_fit_on _ v.link.state.receive_queue l.state.receive_queue h.receives same;
  memory = subst (λ (m : RegisteredMemory). RegionsHave m (sinks_total fetching.sinks)) (sym memory) (subst (λ (ss : List SinkRegion). RegionsHave v.link.state.memory (sinks_total ss)) (sym sinks) h.memory);
  most = (let most = h.most in let same = ap (λ (ss : List SinkRegion). sinks_total ss) sinks in omega (arith, most, same));
  count = (let count = h.count in let same = ap (λ (ss : List SinkRegion). length ss) sinks in omega (arith, count, same));
  each = λ live. absurd (over live);
}

-- ---- What lives

-- a side that lives keeps a server's state
abbrev pub LivesOn : ResponderSide → Type 0
LivesOn v = end_of v ≡ None → (opened : LinkParameters) × ((k : ServerState) × ((so_far : InputState) × Keeps opened k so_far v))

pub live_fits : (v : ResponderSide) → LivesOn v → end_of v ≡ None → ReceivesFit v.credits.receives v.link.state.receive_queue → RegionsHave v.link.state.memory (sinks_total v.fetching.sinks) → SharesFit v → SinksFit v
live_fits v on live receives have fit =
    let h = on live in
    record { receives = receives; memory = have; most = live_most h.0 h.1.0 h.1.1.0 v h.1.1.1 fit; count = live_count h.0 h.1.0 h.1.1.0 v h.1.1.1 fit; each = λ live. fit }

-- ---- A call that is read

none_yet : (n : ℕ) (regions : List Region) → AllByRecursion (λ r. r.call ≤ n) regions → sinks_share (n + 1) (open_sinks regions) ≡ 0
none_yet n [] h = refl
none_yet n (g ∷ regions) h = by g.until (none_yet n regions h.1)
  where
    one : cond (eqb g.call (n + 1)) (length g.bytes) 0 ≡ 0
    one = ap (λ (b : Bool). cond b (length g.bytes) 0) (ne_eqb g.call (n + 1) (λ e. (let le = h.0 in omega (arith, le, e))))

    by : (o : Option ℕ) → sinks_share (n + 1) (open_sinks regions) ≡ 0 → sinks_share (n + 1) (open_if o (sink_of_region g) (open_sinks regions)) ≡ 0
    by None rest = omega (arith, one, rest)
    by (Some until) rest = rest

abbrev one_if : Bool → ℕ
one_if b = cond b 1 0

count_none : (n : ℕ) (regions : List Region) → AllByRecursion (λ r. r.call ≤ n) regions → sinks_count (n + 1) (open_sinks regions) ≡ 0
count_none n [] h = refl
count_none n (g ∷ regions) h = by g.until (count_none n regions h.1)
  where
    one : one_if (eqb g.call (n + 1)) ≡ 0
    one = ap one_if (ne_eqb g.call (n + 1) (λ e. (let le = h.0 in omega (arith, le, e))))

    by : (o : Option ℕ) → sinks_count (n + 1) (open_sinks regions) ≡ 0 → sinks_count (n + 1) (open_if o (sink_of_region g) (open_sinks regions)) ≡ 0
    by None rest = omega (arith, one, rest)
    by (Some until) rest = rest

from_total : (number place stag : ℕ) (lists : ChunkLists) (ps : List ℕ) → regions_total (regions_from number place stag lists ps) ≡ sinks_total (open_sinks (regions_from number place stag lists ps))
from_total number place stag lists [] = refl
from_total number place stag lists (p ∷ ps) = (let rest = from_total number place (stag + 1) lists ps in omega (arith, rest))

from_length : (number place stag : ℕ) (lists : ChunkLists) (ps : List ℕ) → length (regions_from number place stag lists ps) ≡ length ps
from_length number place stag lists [] = refl
from_length number place stag lists (p ∷ ps) = (let rest = from_length number place (stag + 1) lists ps in omega (arith, rest))

reading_shares : (k : ServerState) (v : ResponderSide) (c : PendingCall) → v.fetching.sinks ≡ open_sinks k.regions → AllByRecursion (λ r. r.call ≤ k.received.sends) k.regions → c.number ≡ k.received.sends + 1 → read_total c.lists.read ≤ PAYLOAD_MAX → length c.lists.read ≤ READ_SEGMENTS_MAX →
    SharesFit v → SharesFit (reading_call v c)
reading_shares k v c sinks before number total few f = record {
  shares = λ n. one n (eqb c.number n) refl;
  counts = λ n. count n (eqb c.number n) refl;
  waiting =
      drop_split (IsOfPending (v.calls ++ c ∷ [])) open_reads_max v.fetching.reads (reads_from (sinks_of v.link.state c) c.number [] c.lists.read) (all_more v.calls (c ∷ []) (drop open_reads_max v.fetching.reads) f.waiting)
      (own_pending v.calls c (reads_from (sinks_of v.link.state c) c.number [] c.lists.read) (reads_own (sinks_of v.link.state c) c.number [] c.lists.read));
}
  where
    new : List SinkRegion
    new = open_sinks (sinks_of v.link.state c)

    all : sinks_total new ≤ PAYLOAD_MAX
    all = (let within = sinks_within c.number 0 v.link.state.memory.next c.lists in omega (arith, within, total))

    both : (n : ℕ) → sinks_share n (v.fetching.sinks ++ new) ≡ sinks_share n v.fetching.sinks + sinks_share n new
    both n = share_append (λ (s : SinkRegion). s.number) (λ (s : SinkRegion). s.len) n v.fetching.sinks new

    own : (n : ℕ) → sinks_share n new ≤ cond (eqb c.number n) (sinks_total new) 0
    own n = own_share c.number 0 v.link.state.memory.next n c.lists (chunks_of c.lists)

    one : (n : ℕ) (b : Bool) → eqb c.number n ≡ b → sinks_share n (v.fetching.sinks ++ new) ≤ PAYLOAD_MAX
    one n true is =
        let same : n ≡ k.received.sends + 1 = sym (eqb-true c.number n is) ∙ number in
        let old : sinks_share n v.fetching.sinks ≡ 0 = (λ i. sinks_share (same i) (sinks i)) ∙ none_yet k.received.sends k.regions before in
        let more : sinks_share n new ≤ sinks_total new = subst (λ (b : Bool). sinks_share n new ≤ cond b (sinks_total new) 0) is (own n) in
        let sum = both n in
        omega (arith, old, more, all, sum)
    one n false is =
        let more : sinks_share n new ≤ 0 = subst (λ (b : Bool). sinks_share n new ≤ cond b (sinks_total new) 0) is (own n) in
        let sum = both n in
        let first = f.shares n in
        omega (arith, more, sum, first)

    counts_of : (n : ℕ) → sinks_count n (v.fetching.sinks ++ new) ≡ sinks_count n v.fetching.sinks + sinks_count n new
    counts_of n = share_append (λ (s : SinkRegion). s.number) (λ (s : SinkRegion). 1) n v.fetching.sinks new

    new_count : (n : ℕ) → sinks_count n new ≤ cond (eqb c.number n) (length (chunks_of c.lists)) 0
    new_count n = own_count c.number 0 v.link.state.memory.next n c.lists (chunks_of c.lists)

    count : (n : ℕ) (b : Bool) → eqb c.number n ≡ b → sinks_count n (v.fetching.sinks ++ new) ≤ READ_SEGMENTS_MAX
    count n true is =
        let same : n ≡ k.received.sends + 1 = sym (eqb-true c.number n is) ∙ number in
        let old : sinks_count n v.fetching.sinks ≡ 0 = (λ i. sinks_count (same i) (sinks i)) ∙ count_none k.received.sends k.regions before in
        let more : sinks_count n new ≤ length (chunks_of c.lists) = subst (λ (b : Bool). sinks_count n new ≤ cond b (length (chunks_of c.lists)) 0) is (new_count n) in
        let chunks = chunks_few c.lists in
        let sum = counts_of n in
        omega (arith, old, more, chunks, few, sum)
    count n false is =
        let more : sinks_count n new ≤ 0 = subst (λ (b : Bool). sinks_count n new ≤ cond b (length (chunks_of c.lists)) 0) is (new_count n) in
        let sum = counts_of n in
        let first = f.counts n in
        omega (arith, more, sum, first)

reading_memory : (v : ResponderSide) (c : PendingCall) → v.link.state.memory.next + length (chunks_of c.lists) ≤ numbers_end → read_total c.lists.read ≤ PAYLOAD_MAX → RegionsHave v.link.state.memory (sinks_total v.fetching.sinks) →
    RegionsHave (reading_call v c).link.state.memory (sinks_total (reading_call v c).fetching.sinks)
reading_memory v c fits total have =
    let regions : List Region = sinks_of v.link.state c in
    let sum : regions_total regions ≡ sinks_total (open_sinks regions) = from_total c.number 0 v.link.state.memory.next c.lists (chunks_of c.lists) in
    let len = from_length c.number 0 v.link.state.memory.next c.lists (chunks_of c.lists) in
    let within = sinks_within c.number 0 v.link.state.memory.next c.lists in
    let more = registered_have regions v.link.state.memory (sinks_total v.fetching.sinks) (omega (arith, fits, len)) (omega (arith, sum, within, total)) have in
    let both = sizes_append (λ (s : SinkRegion). s.len) v.fetching.sinks (open_sinks regions) in
    subst (λ (n : ℕ). RegionsHave (registered regions v.link.state.memory) n) (omega (arith, sum, both)) more

-- ---- What was made of a message

told_memory : (l : LinkSide) → (after_call l NextEvent).state.memory ≡ l.state.memory
told_memory l = (told_link_lem l (after_call l NextEvent) refl).memory

told_live : (l : LinkSide) → (after_call l NextEvent).state.ended ≡ l.state.ended
told_live l = (told_link_lem l (after_call l NextEvent) refl).live

always : (o : Option End) → o ≡ None → (p : Option End) → p ≡ None → o ≡ None
always o is p e = is

pub handled_fits : (opened : LinkParameters) (k : ServerState) (so_far : InputState) (message : List ℕ) (v after : ResponderSide) (m : LinkSide) → Keeps opened k so_far v → end_of v ≡ None → m.state.ended ≡ None → SinksFit (on_link v m) → LivesOn after → Handled k message (on_link v m) after → SinksFit after
handled_fits opened k so_far message v after m keeps live lives h on (Stopped reason refusal other is) =
    let told : LinkSide = after_call m NextEvent in
    let stays = stopped_as told (after_call told (Stop reason)) reason refl in
    subst SinksFit (sym is) (on_link_fits (on_link v m) (after_call told (Stop reason)) (receives_on _ _ _ (told_receives m) (receives_same _ _ stays.input.queue)) (stays.memory ∙ told_memory m) (λ e. lives) h)
handled_fits opened k so_far message v after m keeps live lives h on (Refused answer effect short is) =
    let told : LinkSide = after_call m NextEvent in
    let sent = sent_link told (after_call told (Send answer)) answer (told_live m ∙ lives) refl in
    subst SinksFit (sym is) (on_link_fits (on_link v m) (after_call told (Send answer)) (receives_on _ _ _ (told_receives m) (receives_same _ _ (ap (λ (x : LinkSide). x.state.receive_queue) sent))) (ap (λ (x : LinkSide). x.state.memory) sent ∙ told_memory m) (λ e. lives) h)
handled_fits opened k so_far message v after m keeps live lives h on (Ready xid write reply stream head new judged call own is) =
    subst SinksFit (sym is) (ready_fits (on_link v m) (after_call m NextEvent) _ (told_receives m) (told_memory m) (λ e. lives) h)
handled_fits opened k so_far message v after m keeps live lives h on (Completed c own new judged none alone is) =
    subst SinksFit (sym is) (ready_fits (on_link v m) (after_call m NextEvent) c (told_receives m) (told_memory m) (λ e. lives) h)
handled_fits opened k so_far message v after m keeps live lives h on (Fetched c own new judged fits total few chunks is) =
    let told : LinkSide = after_call m NextEvent in
    let w : ResponderSide = on_link (on_link v m) told in
    let g : SinksFit w = on_link_fits (on_link v m) told (told_receives m) (told_memory m) (λ e. lives) h in
    let live_now : end_of (reading_call w c) ≡ None = told_live m ∙ lives in
    subst SinksFit (sym is)
    (live_fits (reading_call w c) (subst LivesOn is on) live_now g.receives (reading_memory w c fits total g.memory)
    (reading_shares k w c keeps.sinks keeps.server.regions_before own total few (g.each (told_live m ∙ lives))))

-- ---- What was made of a read that is done

done_memory : (v : ResponderSide) (t : LinkState) (calls : List PendingCall) (reads : List PendingRead) (kept : ℕ) (xids : List ℕ) (payloads : List (Option (List ℕ))) → t.memory ≡ v.link.state.memory → AreHeldFrom v.link.state.memory 0 (map claim_of_sink v.fetching.sinks) →
    RegionsHave v.link.state.memory (sinks_total v.fetching.sinks) → RegionsHave (reading_on v t calls reads kept xids payloads).link.state.memory (sinks_total (reading_on v t calls reads kept xids payloads).fetching.sinks)
done_memory v t calls reads kept xids payloads memory held have =
    let left = released_have (is_sink_over calls reads) v.link.state.memory 0 v.fetching.sinks 0 held (subst (λ (n : ℕ). RegionsHave v.link.state.memory n) (omega arith) have) in
    subst (λ (m : RegisteredMemory). RegionsHave (released (over_sinks calls reads v.fetching.sinks) m) (sinks_total (left_sinks calls reads v.fetching.sinks))) (sym memory)
    (subst (λ (n : ℕ). RegionsHave (released (over_sinks calls reads v.fetching.sinks) v.link.state.memory) n) (omega arith) left)

done_shares : (v : ResponderSide) (t : LinkState) (calls : List PendingCall) (reads : List PendingRead) (kept : ℕ) (xids : List ℕ) (payloads : List (Option (List ℕ))) → ((n : ℕ) → sinks_share n v.fetching.sinks ≤ PAYLOAD_MAX) → ((n : ℕ) → sinks_count n v.fetching.sinks ≤ READ_SEGMENTS_MAX) → AllByRecursion (IsOfPending calls) (drop open_reads_max reads) →
    SharesFit (reading_on v t calls reads kept xids payloads)
done_shares v t calls reads kept xids payloads shares counts waiting = record {
  counts = λ n. (let fewer = share_filtered (λ (s : SinkRegion). s.number) (λ (s : SinkRegion). 1) n (λ s. not (is_sink_over calls reads s)) v.fetching.sinks in let most = counts n in omega (arith, fewer, most));
  shares = λ n. (let fewer = share_filtered (λ (s : SinkRegion). s.number) (λ (s : SinkRegion). s.len) n (λ s. not (is_sink_over calls reads s)) v.fetching.sinks in let most = shares n in omega (arith, fewer, most));
  waiting = waiting;
}

-- a step of a read that is done, of a side that hasn't ended
pub read_fits : (v after : ResponderSide) (r : PendingRead) (rest : List PendingRead) → v.fetching.reads ≡ r ∷ rest → end_of v ≡ None → AreHeldFrom v.link.state.memory 0 (map claim_of_sink v.fetching.sinks) → SinksFit v → LivesOn after → ReadHandled v r rest after → SinksFit after
read_fits v after r rest reads live held h on handled = by handled
  where
    f : SharesFit v
    f = h.each live

    waiting : AllByRecursion (IsOfPending v.calls) (drop open_reads_max (r ∷ rest))
    waiting = subst (λ (rs : List PendingRead). AllByRecursion (IsOfPending v.calls) (drop open_reads_max rs)) reads f.waiting

    goes : (xids : List ℕ) (payloads : List (Option (List ℕ))) → after ≡ reading_on v v.link.state v.calls rest (still_open r rest) xids payloads → SinksFit after
    goes xids payloads is =
        subst SinksFit (sym is)
        (live_fits (reading_on v v.link.state v.calls rest (still_open r rest) xids payloads) (subst LivesOn is on) live h.receives (done_memory v v.link.state v.calls rest (still_open r rest) xids payloads refl held h.memory)
        (done_shares v v.link.state v.calls rest (still_open r rest) xids payloads f.shares f.counts (drop_next (IsOfPending v.calls) open_reads_max r rest waiting)))

    few : still_open r rest ≤ open_reads_max
    few = omega (arith, length-take open_reads_max (r ∷ rest))

    by : ReadHandled v r rest after → SinksFit after
    by (GoesOn nothing is) = goes [] [] is
    by (Readies m is) = goes (m.call.xid ∷ []) (Some m.payload ∷ []) is
    by (Stops reason other ended fetching sinks fewer is) =
        let stays = stopped_as v.link (after_call v.link (Stop reason)) reason refl in
        subst SinksFit (sym is) (ended_fits v (after_call v.link (Stop reason)) fetching (receives_same _ _ stays.input.queue) stays.memory sinks (stop_ends v.link reason live) h)
    by (RefusedRead c is) =
        let n : ℕ = c.call.number in
        let left : List PendingRead = reads_without n (still_open r rest) rest in
        let message : List ℕ = chunk_error c.call.xid v.credits.word in
        subst SinksFit (sym is)
        (live_fits (reading_on v (with_sent v.link.state message) (calls_without n v.calls) left (still_open r rest) [] []) (subst LivesOn is on) live h.receives
        (done_memory v (with_sent v.link.state message) (calls_without n v.calls) left (still_open r rest) [] [] refl held h.memory)
        (done_shares v (with_sent v.link.state message) (calls_without n v.calls) left (still_open r rest) [] [] f.shares f.counts
        (few_kept (IsOfPending (calls_without n v.calls)) (still_open r rest) open_reads_max rest (filter (λ q. not (eqb q.number n)) (drop (still_open r rest) rest)) few
        (without_pending n v.calls (drop (still_open r rest) rest) (kept_waiting (IsOfPending v.calls) r rest waiting)))))

pub read_out_fits : (v after : ResponderSide) (r : PendingRead) (rest : List PendingRead) → end_of v ≡ None → SinksFit v → ReadRanOut v r rest after → SinksFit after
read_out_fits v after r rest live h ran =
    let stays = memory_as v.link (after_call v.link OutOfMemory) refl in
    let ended = memory_ends v.link (after_call v.link OutOfMemory) live refl in
    subst SinksFit (sym ran.is_out) (ended_fits v (after_call v.link OutOfMemory) ran.fetching (receives_same _ _ stays.input.queue) stays.memory ran.sinks (λ none. (let two : None ≡ Some ends.Memory = sym none ∙ ended.0 in absurd cc)) h)
