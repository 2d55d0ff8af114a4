-- What a frame makes of the pending reads of a server.
use Rattle.std.proofs.Common.{◌≡◌, ℕ, zero, suc, ◌+◌, ◌-◌, ◌≤◌, ◌<◌, Bool, true, false, cond, ◌&&◌, not, eqb, List, [], ◌∷◌, ◌++◌, length, take, drop, replicate, Option, None, Some, refl, sym, ap, subst, ◌∙◌, arith, append_assoc, append-nil, length-append, take-append-drop, eq-eqb, eqb-true}
use Rattle.std.proofs.lemmas.List.{length-take, take_at}
use Rattle.std.specs.List.{filter}
use Rattle.nr_regions.specs.declared.right.Right.TheVariants.{Sink}
use Rattle.nr_header.specs.declared.header.ReadSegment.{ReadSegment}
use Rattle.nr_reduce.specs.Chunks.{is_read_chunk_of_item, total_at}
use Rattle.nr_reduce.specs.Plans.{entries_from}
use Rattle.nr_reduce.specs.OfferedRegions.{Region}
use Rattle.nr_reduce.specs.ServerState.{ServerState, PendingCall, PendingRead, next_stag}
use Rattle.nr_reduce.specs.ServerReads.{open_reads, regions_from, regions_of, stag_by, sink_of, reads_from, reads_of, is_read}
use Rattle.nr_reduce.specs.ServerMessages.{CallVerdict, chunk_bytes, pending_payload, by_payload}
use Rattle.nr_reduce.specs.ServerMessages.CallVerdict.{Refuses, IsReady}
use Rattle.nr_reduce.specs.ServerFrames.{FrameEffect, no_effect, with_verdict, ready_if_whole, with_refused_call, is_stream_read, read_effect}
use Rattle.nr_reduce.specs.Server.{newly_open_reads}
use Rattle.nr_reduce.proofs.WrittenChunks.{added_up}
use Rattle.nr_reduce.proofs.OwnStags.{AreNumbered}
use Rattle.nr_laws.proofs.ClientMemory.{none_from, find_right}
use Rattle.nr_laws.proofs.SinkReads.{own_reads, total_own, reads_own, chunks_own, own_chunks, reads_none, into, into_append, SinksBelow, below_append, below_more, into_none, into_zero, own_into, own_other, own_below}
use Rattle.nr_laws.proofs.PendingSinks.{OwnersBelow, owners_more, owners_append, sink_none, CallReads, EachReads, each_append, each_two, each_same, each_refused}
use Rattle.nr_laws.proofs.Basics.{above_zero}

pub record SinksKept (k : ServerState) (done : List PendingRead) : Type 0 where
  pub calls : EachReads (done ++ k.reads) k.regions k.calls
  pub sinks : SinksBelow (1 + length k.regions) (done ++ k.reads)
  pub owners : OwnersBelow k.received.sends k.regions

pub record EffectKept (k : ServerState) (done later : List PendingRead) (s : FrameEffect) (sends : ℕ) : Type 0 where
  pub calls : EachReads (later ++ s.reads) s.regions s.calls
  pub sinks : SinksBelow (1 + length s.regions) (later ++ s.reads)
  pub owners : OwnersBelow sends s.regions
  pub opened : later ++ take 8 s.reads ≡ (done ++ take 8 k.reads) ++ newly_open_reads s

-- ---- The first reads

front_kept : (n : ℕ) (xs ys : List PendingRead) → length xs ≤ n → take n (xs ++ ys) ≡ xs ++ drop (length xs) (take n (xs ++ ys))
front_kept n [] ys le = refl
front_kept zero (x ∷ xs) ys le = absurd (omega (arith, le))
front_kept (suc n) (x ∷ xs) ys le = ap (λ (rs : List PendingRead). x ∷ rs) (front_kept n xs ys (omega (arith, le)))

pub front_taken : (n m : ℕ) (xs ys : List PendingRead) → m ≤ n → take n (xs ++ ys) ≡ take m xs ++ drop (length (take m xs)) (take n (xs ++ ys))
front_taken n m xs ys le =
    let l = length-take m xs in
    let same : xs ++ ys ≡ take m xs ++ (drop m xs ++ ys) = ap (λ (rs : List PendingRead). rs ++ ys) (sym (take-append-drop m xs)) ∙ append_assoc (take m xs) (drop m xs) ys in
    ap (λ (rs : List PendingRead). take n rs) same ∙ front_kept n (take m xs) (drop m xs ++ ys) (omega (arith, l, le))
    ∙ ap (λ (rs : List PendingRead). take m xs ++ drop (length (take m xs)) (take n rs)) (sym same)

drop_whole : (xs : List PendingRead) → drop (length xs) xs ≡ []
drop_whole [] = refl
drop_whole (x ∷ xs) = drop_whole xs

-- ---- Nothing new

pub same_kept_lem : (k : ServerState) (done : List PendingRead) (s : FrameEffect) → s.calls ≡ k.calls → s.reads ≡ k.reads → s.regions ≡ k.regions → s.kept ≡ length (open_reads k) → (sends : ℕ) → k.received.sends ≤ sends → SinksKept k done → EffectKept k done done s sends
same_kept_lem k done s calls reads regions kept sends le h = record {
  calls = subst (λ (cs : List PendingCall). EachReads (done ++ s.reads) s.regions cs) (sym calls)
      (subst (λ (rs : List Region). EachReads (done ++ s.reads) rs k.calls) (sym regions) (subst (λ (rs : List PendingRead). EachReads (done ++ rs) k.regions k.calls) (sym reads) h.calls));
  sinks = subst (λ (rs : List Region). SinksBelow (1 + length rs) (done ++ s.reads)) (sym regions) (subst (λ (rs : List PendingRead). SinksBelow (1 + length k.regions) (done ++ rs)) (sym reads) h.sinks);
  owners = subst (λ (rs : List Region). OwnersBelow sends rs) (sym regions) (owners_more k.received.sends sends k.regions le h.owners);
  opened = ap (λ (rs : List PendingRead). done ++ take 8 rs) reads ∙ sym (append-nil (done ++ take 8 k.reads))
      ∙ ap (λ (rs : List PendingRead). (done ++ take 8 k.reads) ++ rs) (sym (drop_whole (take 8 k.reads)) ∙ (λ i. drop (sym kept i) (take 8 (sym reads i))));
}

-- a call that is ready, or refused by its head, leaves all of this
pub ready_kept : (k t : ServerState) (place : ℕ) (c : PendingCall) (done later : List PendingRead) (s : FrameEffect) (sends : ℕ) → EffectKept k done later s sends → EffectKept k done later (ready_if_whole t place c s) sends
ready_kept k t place c done later s sends h = by (is_read s.reads c.number)
  where
    by_verdict : (v : CallVerdict) → EffectKept k done later (with_verdict v s) sends
    by_verdict (Refuses reason) = record { calls = h.calls; sinks = h.sinks; owners = h.owners; opened = h.opened }
    by_verdict (IsReady r) = record { calls = h.calls; sinks = h.sinks; owners = h.owners; opened = h.opened }

    by : (b : Bool) → EffectKept k done later (cond b (with_verdict (by_payload c (pending_payload t place c)) s) s) sends
    by true = by_verdict (by_payload c (pending_payload t place c))
    by false = h

-- ---- A call that becomes pending

pub record IsOwnRead (read : List ReadSegment) : Type 0 where
  pub position : ℕ
  pub handle : ℕ
  pub lengths : List ℕ
  pub is : read ≡ entries_from position handle 0 lengths

abbrev with_new : ServerState → PendingCall → List Region → List PendingRead → FrameEffect
with_new k c newr new = record (no_effect k) { calls = k.calls ++ c ∷ []; reads = k.reads ++ new; regions = k.regions ++ newr }

new_kept : (k : ServerState) (c : PendingCall) (done : List PendingRead) (newr : List Region) (new : List PendingRead) → SinksKept k done → ((s : ℕ) → s < 1 + length k.regions → into s new ≡ []) → SinksBelow (1 + length (k.regions ++ newr)) new
    → OwnersBelow (k.received.sends + 1) newr → CallReads ((done ++ k.reads) ++ new) (k.regions ++ newr) c → EffectKept k done done (with_new k c newr new) (k.received.sends + 1)
new_kept k c done newr new h none below owners call =
    let l = length-append k.regions newr in
    let same : (done ++ k.reads) ++ new ≡ done ++ (k.reads ++ new) = append_assoc done k.reads new in
    record {
      calls = each_same ((done ++ k.reads) ++ new) (done ++ (k.reads ++ new)) (k.regions ++ newr) (k.calls ++ c ∷ []) same
          (each_two ((done ++ k.reads) ++ new) (k.regions ++ newr) k.calls (c ∷ []) (each_append (done ++ k.reads) new k.regions newr k.calls none h.calls) (call, tt));
      sinks = subst (λ (rs : List PendingRead). SinksBelow (1 + length (k.regions ++ newr)) rs) same
          (below_append (1 + length (k.regions ++ newr)) (done ++ k.reads) new (below_more (1 + length k.regions) (1 + length (k.regions ++ newr)) (done ++ k.reads) (omega (arith, l)) h.sinks) below);
      owners = owners_append (k.received.sends + 1) k.regions newr (owners_more k.received.sends (k.received.sends + 1) k.regions (omega arith) h.owners) owners;
      opened = ap (λ (rs : List PendingRead). done ++ rs) (front_taken 8 8 k.reads new (omega arith)) ∙ sym (append_assoc done (take 8 k.reads) (drop (length (take 8 k.reads)) (take 8 (k.reads ++ new))));
    }

pub total_nil : (position : ℕ) → total_at position [] ≡ 0
unfolding total_at
total_nil position = refl

reads_are_lem : (regions : List Region) (c : PendingCall) (o : IsOwnRead c.lists.read) → reads_of regions c ≡ own_reads c.number o.position (sink_of regions c.number o.position) o.handle 0 o.lengths
reads_are_lem regions c o = ap (λ (read : List ReadSegment). reads_from regions c.number [] read) o.is ∙ reads_own regions c.number o.position o.handle 0 [] o.lengths (total_nil o.position)

abbrev new_region : ServerState → ℕ → (c : PendingCall) → IsOwnRead c.lists.read → Region
new_region k place c o = record { call = c.number; position = o.position; stag = next_stag k; right = Sink; bytes = replicate (total_at o.position c.lists.read) 0; from = place; until = None }

regions_are_lem : (k : ServerState) (place : ℕ) (c : PendingCall) (o : IsOwnRead c.lists.read) → regions_of k place c ≡ regions_from c.number place (next_stag k) c.lists (own_chunks o.position (added_up o.lengths))
regions_are_lem k place c o = ap (λ (ps : List ℕ). regions_from c.number place (next_stag k) c.lists ps) (chunks_own c.lists o.position o.handle o.lengths o.is)

sink_first : (r : Region) (number position : ℕ) → r.call ≡ number → r.position ≡ position → sink_of (r ∷ []) number position ≡ r.stag
sink_first r number position a b = (λ i. stag_by (cond (eq-eqb r.call number a i && eq-eqb r.position position b i) (Some r) None))

pub pending_kept : (k : ServerState) (done : List PendingRead) (place : ℕ) (c : PendingCall) → IsOwnRead c.lists.read → c.number ≡ k.received.sends + 1 → AreNumbered 1 k.regions → SinksKept k done
    → EffectKept k done done (with_new k c (regions_of k place c) (reads_of (k.regions ++ regions_of k place c) c)) (k.received.sends + 1)
pending_kept k done place c o number numbered h = by (eqb (added_up o.lengths) 0) refl
  where
    by_none : added_up o.lengths ≡ 0 → EffectKept k done done (with_new k c [] []) (k.received.sends + 1)
    by_none none = new_kept k c done [] [] h (λ s lt. refl) tt tt (record {
      position = o.position;
      handle = o.handle;
      lengths = o.lengths;
      lists = o.is;
      sink = 0;
      own = ap (λ (rs : List PendingRead). into 0 rs) (append-nil (done ++ k.reads)) ∙ into_zero (1 + length k.regions) (done ++ k.reads) h.sinks ∙ sym (reads_none c.number o.position 0 o.handle 0 o.lengths none);
      below = omega arith;
      some = λ some. absurd (omega (arith, some, none));
      region = λ some. absurd (omega (arith, some, none));
      found = λ some. absurd (omega (arith, some, none));
    })

    by_some : 0 < added_up o.lengths → EffectKept k done done (with_new k c (new_region k place c o ∷ []) (own_reads c.number o.position (next_stag k) o.handle 0 o.lengths)) (k.received.sends + 1)
    by_some some =
        let r : Region = new_region k place c o in
        let next : ℕ = next_stag k in
        let new = own_reads c.number o.position next o.handle 0 o.lengths in
        let l = length-append k.regions (r ∷ []) in
        let total : total_at o.position c.lists.read ≡ added_up o.lengths = ap (λ (read : List ReadSegment). total_at o.position read) o.is ∙ total_own o.position o.handle 0 o.lengths in
        let found : sink_of (k.regions ++ r ∷ []) c.number o.position ≡ next = sink_none k.regions (r ∷ []) k.received.sends c.number o.position (omega (arith, number)) h.owners ∙ sink_first r c.number o.position refl refl in
        new_kept k c done (r ∷ []) new h
        (λ s lt. own_other c.number o.position next o.handle 0 s o.lengths (λ e. absurd (omega (arith, e, lt))))
        (own_below c.number o.position next o.handle 0 (1 + length (k.regions ++ r ∷ [])) o.lengths (omega arith) (omega (arith, l)))
        ((omega (arith, number)), tt)
        (record {
          position = o.position;
          handle = o.handle;
          lengths = o.lengths;
          lists = o.is;
          sink = next;
          own = into_append next (done ++ k.reads) new ∙ (λ i. into_none next (1 + length k.regions) (done ++ k.reads) (omega arith) h.sinks i ++ own_into c.number o.position next o.handle 0 o.lengths i);
          below = omega (arith, l);
          some = λ s. omega arith;
          region = λ s. record {
            region = r;
            there = find_right next k.regions (r ∷ []) (none_from 1 next k.regions (omega arith) numbered) ∙ ap (λ (b : Bool). cond b (Some r) None) (eq-eqb next next refl);
            own = refl;
            holds = ap (λ (n : ℕ). replicate n 0) total;
          };
          found = λ s. found;
        })

    chunk : (b : Bool) → eqb (added_up o.lengths) 0 ≡ b → regions_from c.number place (next_stag k) c.lists (own_chunks o.position (added_up o.lengths)) ≡ cond b [] (new_region k place c o ∷ [])
    chunk true is = ap (λ (b : Bool). regions_from c.number place (next_stag k) c.lists (cond (not b) (o.position ∷ []) [])) is
    chunk false is = ap (λ (b : Bool). regions_from c.number place (next_stag k) c.lists (cond (not b) (o.position ∷ []) [])) is

    by : (b : Bool) → eqb (added_up o.lengths) 0 ≡ b → EffectKept k done done (with_new k c (regions_of k place c) (reads_of (k.regions ++ regions_of k place c) c)) (k.received.sends + 1)
    by true is =
        let none : added_up o.lengths ≡ 0 = eqb-true (added_up o.lengths) 0 is in
        subst (λ (rs : List Region). EffectKept k done done (with_new k c rs (reads_of (k.regions ++ rs) c)) (k.received.sends + 1)) (sym (regions_are_lem k place c o ∙ chunk true is))
        (subst (λ (new : List PendingRead). EffectKept k done done (with_new k c [] new) (k.received.sends + 1))
        (sym (reads_are_lem (k.regions ++ []) c o ∙ reads_none c.number o.position (sink_of (k.regions ++ []) c.number o.position) o.handle 0 o.lengths none)) (by_none none))
    by false is =
        let some : 0 < added_up o.lengths = above_zero (added_up o.lengths) is in
        let r : Region = new_region k place c o in
        let found : sink_of (k.regions ++ r ∷ []) c.number o.position ≡ next_stag k = sink_none k.regions (r ∷ []) k.received.sends c.number o.position (omega (arith, number)) h.owners ∙ sink_first r c.number o.position refl refl in
        subst (λ (rs : List Region). EffectKept k done done (with_new k c rs (reads_of (k.regions ++ rs) c)) (k.received.sends + 1)) (sym (regions_are_lem k place c o ∙ chunk false is))
        (subst (λ (new : List PendingRead). EffectKept k done done (with_new k c (r ∷ []) new) (k.received.sends + 1))
        (sym (reads_are_lem (k.regions ++ r ∷ []) c o ∙ ap (λ (s : ℕ). own_reads c.number o.position s o.handle 0 o.lengths) found)) (by_some some))

-- ---- A read that is done

below_filter : (n : ℕ) (p : PendingRead → Bool) (reads : List PendingRead) → SinksBelow n reads → SinksBelow n (filter p reads)
below_filter n p [] h = tt
below_filter n p (r ∷ reads) h = by (p r) (below_filter n p reads h.2)
  where
    by : (b : Bool) → SinksBelow n (filter p reads) → SinksBelow n (cond b (r ∷ filter p reads) (filter p reads))
    by true rest = (h.0, h.1, rest)
    by false rest = rest

pub below_left : (n : ℕ) (xs ys : List PendingRead) → SinksBelow n (xs ++ ys) → SinksBelow n xs × SinksBelow n ys
below_left n [] ys h = (tt, h)
below_left n (x ∷ xs) ys h = (let r = below_left n xs ys h.2 in ((h.0, h.1, r.0), r.1))

abbrev first_done : ServerState → List PendingRead → FrameEffect
first_done k rest = record (no_effect k) { reads = rest; kept = length (open_reads k) - 1 }

open_first : (k : ServerState) (r : PendingRead) (rest : List PendingRead) → k.reads ≡ r ∷ rest → length (open_reads k) - 1 ≡ length (take 7 rest)
open_first k r rest is = (let e = ap (λ (rs : List PendingRead). length (take 8 rs)) is in omega (arith, e))

done_kept : (k : ServerState) (done : List PendingRead) (r : PendingRead) (rest : List PendingRead) → k.reads ≡ r ∷ rest → SinksKept k done → EffectKept k done (done ++ r ∷ []) (first_done k rest) k.received.sends
done_kept k done r rest is h =
    let same : done ++ k.reads ≡ (done ++ r ∷ []) ++ rest = ap (λ (rs : List PendingRead). done ++ rs) is ∙ sym (append_assoc done (r ∷ []) rest) in
    let kept = open_first k r rest is in
    record {
      calls = each_same (done ++ k.reads) ((done ++ r ∷ []) ++ rest) k.regions k.calls same h.calls;
      sinks = subst (λ (rs : List PendingRead). SinksBelow (1 + length k.regions) rs) same h.sinks;
      owners = h.owners;
      opened =
          ap (λ (rs : List PendingRead). (done ++ r ∷ []) ++ rs) (ap (λ (rs : List PendingRead). take 8 rs) (sym (append-nil rest)) ∙ front_taken 8 7 rest [] (omega arith))
          ∙ sym (append_assoc (done ++ r ∷ []) (take 7 rest) (drop (length (take 7 rest)) (take 8 (rest ++ []))))
          ∙ (λ i. (append_assoc done (r ∷ []) (take 7 rest) ∙ ap (λ (rs : List PendingRead). done ++ take 8 rs) (sym is)) i ++ drop (sym kept i) (take 8 (append-nil rest i)));
    }

take_short : (m n : ℕ) (xs : List PendingRead) → m ≡ length (take n xs) → take m xs ≡ take n xs
take_short m n xs e =
    let same : take (length (take n xs)) (take n xs ++ drop n xs) ≡ take n xs = take_at (take n xs) (drop n xs) (length (take n xs)) refl in
    (λ i. take (e i) (sym (take-append-drop n xs) i)) ∙ same

refused_kept : (k t : ServerState) (done : List PendingRead) (r : PendingRead) (rest : List PendingRead) (c : PendingCall) → k.reads ≡ r ∷ rest → SinksKept k done → EffectKept k done (done ++ r ∷ []) (with_refused_call t c (first_done k rest)) k.received.sends
refused_kept k t done r rest c is h =
    let m : ℕ = length (open_reads k) - 1 in
    let kept = open_first k r rest is in
    let front = take m rest in
    let back = drop m rest in
    let p = λ (x : PendingRead). not (eqb x.number c.number) in
    let same : done ++ k.reads ≡ ((done ++ r ∷ []) ++ front) ++ back =
    ap (λ (rs : List PendingRead). done ++ rs) is ∙ sym (append_assoc done (r ∷ []) rest) ∙ ap (λ (rs : List PendingRead). (done ++ r ∷ []) ++ rs) (sym (take-append-drop m rest)) ∙ sym (append_assoc (done ++ r ∷ []) front back) in
    let l = length-take 7 rest in
    let seven : front ≡ take 7 rest = take_short m 7 rest kept in
    let all : SinksBelow (1 + length k.regions) (((done ++ r ∷ []) ++ front) ++ back) = subst (λ (rs : List PendingRead). SinksBelow (1 + length k.regions) rs) same h.sinks in
    let parts = below_left (1 + length k.regions) ((done ++ r ∷ []) ++ front) back all in
    let new = filter p back in
    let first : take 8 (front ++ new) ≡ take 7 rest ++ drop m (take 8 (front ++ new)) =
    front_kept 8 front new (let q = ap (λ (rs : List PendingRead). length rs) seven in omega (arith, q, l))
    ∙ (λ i. seven i ++ drop ((ap (λ (rs : List PendingRead). length rs) seven ∙ sym kept) i) (take 8 (front ++ new))) in
    record {
      calls = each_same (((done ++ r ∷ []) ++ front) ++ new) ((done ++ r ∷ []) ++ (front ++ new)) k.regions (filter (λ x. not (eqb x.number c.number)) k.calls) (append_assoc (done ++ r ∷ []) front new)
          (each_refused ((done ++ r ∷ []) ++ front) back k.regions c.number k.calls (each_same (done ++ k.reads) (((done ++ r ∷ []) ++ front) ++ back) k.regions k.calls same h.calls));
      sinks = subst (λ (rs : List PendingRead). SinksBelow (1 + length k.regions) rs) (append_assoc (done ++ r ∷ []) front new)
          (below_append (1 + length k.regions) ((done ++ r ∷ []) ++ front) new parts.0 (below_filter (1 + length k.regions) p back parts.1));
      owners = h.owners;
      opened =
          ap (λ (rs : List PendingRead). (done ++ r ∷ []) ++ rs) first
          ∙ sym (append_assoc (done ++ r ∷ []) (take 7 rest) (drop m (take 8 (front ++ new))))
          ∙ ap (λ (rs : List PendingRead). rs ++ drop m (take 8 (front ++ new))) (append_assoc done (r ∷ []) (take 7 rest) ∙ ap (λ (rs : List PendingRead). done ++ take 8 rs) (sym is));
    }

pub read_kept : (k t : ServerState) (place : ℕ) (done : List PendingRead) (r : PendingRead) (rest : List PendingRead) (o : Option PendingCall) → k.reads ≡ r ∷ rest → SinksKept k done
    → EffectKept k done (done ++ r ∷ []) (read_effect t place r o (first_done k rest)) k.received.sends
read_kept k t place done r rest None is h = done_kept k done r rest is h
read_kept k t place done r rest (Some c) is h = by (is_stream_read c r rest && not (is_read_chunk_of_item (chunk_bytes t place c 0) c.lists.read))
  where
    by : (b : Bool) → EffectKept k done (done ++ r ∷ []) (cond b (with_refused_call t c (first_done k rest)) (ready_if_whole t place c (first_done k rest))) k.received.sends
    by true = refused_kept k t done r rest c is h
    by false = ready_kept k t place c done (done ++ r ∷ []) (first_done k rest) k.received.sends (done_kept k done r rest is h)
