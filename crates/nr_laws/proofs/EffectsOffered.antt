-- After a frame that a server receives each read that waits, or is newly open, is of a pending call that offers it.
use Rattle.std.proofs.Common.{◌≡◌, ℕ, zero, suc, ◌-◌, ◌≤◌, Bool, true, false, cond, not, eqb, List, [], ◌∷◌, ◌++◌, length, take, drop, filter, Ok, refl, sym, ap, subst, ◌∙◌, arith, inl, inr, length-take}
use Rattle.std.specs.List.{AllByRecursion}
use Rattle.nr_xdr.specs.Fields.{word_at}
use Rattle.nr_wire.specs.Segment.Segment.{Tagged}
use Rattle.nr_header.specs.declared.header.ReadSegment.{ReadSegment}
use Rattle.nr_link.specs.Frames.{Frame}
use Rattle.nr_link.specs.Limits.{open_reads_max}
use Rattle.nr_link.specs.Ending.{frame_segment}
use Rattle.nr_reduce.specs.Chunks.{total_at}
use Rattle.nr_reduce.specs.OfferedRegions.{Region}
use Rattle.nr_reduce.specs.ServerState.{ServerState, PendingCall, PendingRead}
use Rattle.nr_reduce.specs.ServerReads.{open_reads, read_of, reads_from, reads_of, regions_of}
use Rattle.nr_reduce.specs.ServerMessages.{CallVerdict, by_payload, pending_payload, verdict}
use Rattle.nr_reduce.specs.ServerMessages.CallVerdict.{Refuses, IsReady}
use Rattle.nr_reduce.specs.ServerMessages.Verdict.{MakesPending}
use Rattle.nr_reduce.specs.ServerFrames.{FrameEffect, no_effect, with_verdict, with_refused_call, frame_effect}
use Rattle.nr_laws.proofs.PendingSends.{verdict_new}
use Rattle.nr_laws.proofs.ServerReadsOfRuns.{verdict_lists}
use Rattle.nr_laws.proofs.OfferedAccesses.{EntryOffered, ListsOffered, CallOffered, ReadOffered, SendOffered}
use Rattle.nr_laws.proofs.Basics.{each_append, each_drop, each_all, each_filter, each_kept}
use Rattle.nr_laws.proofs.EachEffect.{send_effect, tagged_effect_lem, part_effect}
use Rattle.nr_laws.proofs.FrameContents.{SentMessage, CompletesMessage, last_segment, part_segment}

-- ---- Lists

drop_taken : {X : Type 0} (n : ℕ) (xs : List X) → drop (length (take n xs)) xs ≡ drop n xs
drop_taken zero xs = refl
drop_taken (suc n) [] = refl
drop_taken (suc n) (x ∷ xs) = drop_taken n xs

each_dropped : {X : Type 0} (P : X → Type 0) (n : ℕ) (xs ys : List X) → AllByRecursion P (drop n xs) → AllByRecursion P ys → AllByRecursion P (drop n (xs ++ ys))
each_dropped P zero xs ys h k = each_append P xs ys h k
each_dropped P (suc n) [] ys h k = each_drop P (suc n) ys k
each_dropped P (suc n) (x ∷ xs) ys h k = each_dropped P n xs ys h k

none_behind_lem : {X : Type 0} (P : X → Type 0) (n : ℕ) (xs : List X) → AllByRecursion P (drop n (take n xs))
none_behind_lem P zero xs = tt
none_behind_lem P (suc n) [] = tt
none_behind_lem P (suc n) (x ∷ xs) = none_behind_lem P n xs

-- ---- Reads of pending calls

pub read_left : (regions : List Region) (calls more : List PendingCall) (r : PendingRead) → ReadOffered regions calls r → ReadOffered regions (calls ++ more) r
read_left regions [] more r h = absurd h
read_left regions (c ∷ calls) more r (inl h) = inl h
read_left regions (c ∷ calls) more r (inr h) = inr (read_left regions calls more r h)

read_right : (regions : List Region) (calls more : List PendingCall) (r : PendingRead) → ReadOffered regions more r → ReadOffered regions (calls ++ more) r
read_right regions [] more r h = h
read_right regions (c ∷ calls) more r h = inr (read_right regions calls more r h)

pub read_kept : (regions : List Region) (Q : PendingCall → Type 0) (p : PendingCall → Bool) (calls : List PendingCall) (r : PendingRead) → AllByRecursion Q calls → ((c : PendingCall) → Q c → c.number ≡ r.number → p c ≡ true) → ReadOffered regions calls r
    → ReadOffered regions (filter p calls) r
read_kept regions Q p [] r each own h = absurd h
read_kept regions Q p (c ∷ calls) r each own (inl h) = by (p c) (own c each.0 h.0)
  where
    by : (b : Bool) → b ≡ true → ReadOffered regions (cond b (c ∷ filter p calls) (filter p calls)) r
    by true e = inl h
    by false e = absurd cc
read_kept regions Q p (c ∷ calls) r each own (inr h) = by (p c) (read_kept regions Q p calls r each.1 own h)
  where
    by : (b : Bool) → ReadOffered regions (filter p calls) r → ReadOffered regions (cond b (c ∷ filter p calls) (filter p calls)) r
    by true rest = inr rest
    by false rest = rest

-- ---- The effect of a frame

pub record EffectOffered (regions : List Region) (s : FrameEffect) : Type 0 where
  pub calls : AllByRecursion (CallOffered regions) s.calls
  pub waiting : AllByRecursion (ReadOffered regions s.calls) (drop s.kept s.reads)
  pub few : s.kept ≤ open_reads_max

none_more : (regions : List Region) (k : ServerState) (calls : AllByRecursion (CallOffered regions) k.calls) (waiting : AllByRecursion (ReadOffered regions k.calls) (drop open_reads_max k.reads)) → EffectOffered regions (no_effect k)
none_more regions k calls waiting = record {
  calls = calls;
  waiting = subst (AllByRecursion (ReadOffered regions k.calls)) (sym (drop_taken open_reads_max k.reads)) waiting;
  few = omega (arith, length-take open_reads_max k.reads);
}

judged_more : (regions : List Region) (v : CallVerdict) (s : FrameEffect) → EffectOffered regions s → EffectOffered regions (with_verdict v s)
judged_more regions (Refuses reason) s h = record { calls = h.calls; waiting = h.waiting; few = h.few }
judged_more regions (IsReady r) s h = record { calls = h.calls; waiting = h.waiting; few = h.few }

-- the reads of a new call
new_reads : (regions : List Region) (sinks : List Region) (c : PendingCall) (before read : List ReadSegment) → AllByRecursion (EntryOffered regions c.xid) read → AllByRecursion (ReadOffered regions (c ∷ [])) (reads_from sinks c.number before read)
new_reads regions sinks c before [] h = tt
new_reads regions sinks c before (r ∷ read) h = by (eqb r.length 0) (new_reads regions sinks c (before ++ r ∷ []) read h.1)
  where
    rest : List PendingRead
    rest = reads_from sinks c.number (before ++ r ∷ []) read

    by : (b : Bool) → AllByRecursion (ReadOffered regions (c ∷ [])) rest → AllByRecursion (ReadOffered regions (c ∷ [])) (cond b [] (read_of sinks c.number (total_at r.position before) r ∷ []) ++ rest)
    by true others = others
    by false others = (inl (refl, h.0), others)

-- a call that is refused, and its reads that wait
refused_more : (regions : List Region) (k : ServerState) (c : PendingCall) (s : FrameEffect) → EffectOffered regions s → EffectOffered regions (with_refused_call k c s)
refused_more regions k c s h =
    let other = λ (x : PendingCall). not (eqb x.number c.number) in
    let left = λ (r : PendingRead). not (eqb r.number c.number) in
    record {
      calls = each_kept (CallOffered regions) other s.calls h.calls;
      waiting = each_dropped (ReadOffered regions (filter other s.calls)) s.kept (take s.kept s.reads) (filter left (drop s.kept s.reads)) (none_behind_lem (ReadOffered regions (filter other s.calls)) s.kept s.reads)
          (each_filter (ReadOffered regions s.calls) (ReadOffered regions (filter other s.calls)) left (drop s.kept s.reads)
          (λ r e x. read_kept regions (CallOffered regions) other s.calls r h.calls (λ y own same. ap (λ (n : ℕ). not (eqb n c.number)) same ∙ e) x) h.waiting);
      few = h.few;
    }

pub effect_send : (regions : List Region) (k : ServerState) (f : Frame) (message : SentMessage) → CompletesMessage k.received message → SendOffered regions message.bytes → AllByRecursion (CallOffered regions) k.calls → AllByRecursion (ReadOffered regions k.calls) (drop open_reads_max k.reads)
    → frame_segment f ≡ Ok (last_segment k.received.sends message) → EffectOffered regions (frame_effect k f)
effect_send regions k f message completes own calls waiting is =
    send_effect k (SendOffered regions) (EffectOffered regions) (record {
      judged = λ t place c s g. judged_more regions (by_payload c (pending_payload t place c)) s g;
      ends = λ message reason own is. record { calls = h.calls; waiting = h.waiting; few = h.few };
      version = λ message own. record { calls = h.calls; waiting = h.waiting; few = h.few };
      chunks = λ message own. record { calls = h.calls; waiting = h.waiting; few = h.few };
      pending = pending;
    }) f message completes own is
  where
    h : EffectOffered regions (no_effect k)
    h = none_more regions k calls waiting

    pending : (place : ℕ) (message : List ℕ) (c : PendingCall) → SendOffered regions message → verdict k message ≡ MakesPending c
        → EffectOffered regions (record (no_effect k) { calls = k.calls ++ c ∷ []; reads = k.reads ++ reads_of (k.regions ++ regions_of k place c) c; regions = k.regions ++ regions_of k place c })
    pending place message c own is =
        let sinks = k.regions ++ regions_of k place c in
        let new = verdict_new k message c is in
        let l = verdict_lists k message c is in
        let one : CallOffered regions c =
        subst (λ (n : ℕ). ListsOffered regions n c.lists) (sym new.0.own) (subst (ListsOffered regions (word_at 0 message)) (sym l.lists) (own l.header l.is)) in
        record {
          calls = each_append (CallOffered regions) k.calls (c ∷ []) calls (one, tt);
          waiting = each_dropped (ReadOffered regions (k.calls ++ c ∷ [])) (length (open_reads k)) k.reads (reads_of sinks c)
              (each_all (ReadOffered regions k.calls) (ReadOffered regions (k.calls ++ c ∷ [])) (drop (length (open_reads k)) k.reads) (read_left regions k.calls (c ∷ [])) h.waiting)
              (each_all (ReadOffered regions (c ∷ [])) (ReadOffered regions (k.calls ++ c ∷ [])) (reads_of sinks c) (read_right regions k.calls (c ∷ [])) (new_reads regions sinks c [] c.lists.read one.read));
          few = h.few;
        }

-- a segment of a Send that isn't its last
pub effect_part : (regions : List Region) (k : ServerState) (f : Frame) (offset : ℕ) (payload : List ℕ) → AllByRecursion (CallOffered regions) k.calls → AllByRecursion (ReadOffered regions k.calls) (drop open_reads_max k.reads)
    → frame_segment f ≡ Ok (part_segment k.received.sends offset payload) → EffectOffered regions (frame_effect k f)
effect_part regions k f offset payload calls waiting is = part_effect k (EffectOffered regions) (none_more regions k calls waiting) f offset payload is

pub effect_tagged : (regions : List Region) (k : ServerState) (f : Frame) (last : Bool) (opcode stag to : ℕ) (payload : List ℕ) → AllByRecursion (CallOffered regions) k.calls → AllByRecursion (ReadOffered regions k.calls) (drop open_reads_max k.reads)
    → frame_segment f ≡ Ok (Tagged last opcode stag to payload) → EffectOffered regions (frame_effect k f)
effect_tagged regions k f last opcode stag to payload calls waiting is =
    tagged_effect_lem k (EffectOffered regions)
    (record { unchanged = none_more regions k calls waiting; judged = λ t place c s g. judged_more regions (by_payload c (pending_payload t place c)) s g; read = read; refused = λ r reads c is found. refused_more regions k c _ (read r reads is) }) f last opcode stag to payload is
  where
    read : (r : PendingRead) (reads : List PendingRead) → k.reads ≡ r ∷ reads → EffectOffered regions (record (no_effect k) { reads = reads; kept = length (open_reads k) - 1 })
    read r reads is =
        let kept : length (open_reads k) - 1 ≡ length (take 7 reads) = ap (λ (xs : List PendingRead). length (take open_reads_max xs) - 1) is ∙ omega arith in
        record {
          calls = calls;
          waiting = subst (λ (n : ℕ). AllByRecursion (ReadOffered regions k.calls) (drop n reads)) (sym kept)
              (subst (AllByRecursion (ReadOffered regions k.calls)) (ap (λ (xs : List PendingRead). drop open_reads_max xs) is ∙ sym (drop_taken 7 reads)) waiting);
          few = omega (arith, length-take open_reads_max k.reads);
        }
