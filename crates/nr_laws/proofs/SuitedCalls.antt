-- Each pending call of a server suits its read list, if its stream is in its message; and no read is left of a call whose read list
-- has no bytes.
use Rattle.std.proofs.Common.{◌≡◌, ℕ, zero, suc, ◌+◌, ◌≤◌, Bool, true, false, cond, not, eqb, List, [], ◌∷◌, ◌++◌, take, drop, Result, Ok, Err, refl, sym, ap, subst, ◌∙◌, arith, eq-eqb}
use Rattle.std.specs.List.{filter}
use Rattle.nr_wire.specs.Segment.{Segment}
use Rattle.nr_header.specs.declared.header.ReadSegment.{ReadSegment}
use Rattle.nr_link.specs.Frames.{Frame, is_hello}
use Rattle.nr_link.specs.Ending.{frame_segment}
use Rattle.nr_reduce.specs.declared.mark.LinkParameters.{LinkParameters}
use Rattle.nr_reduce.specs.Chunks.{total_at}
use Rattle.nr_reduce.specs.OfferedRegions.{Region}
use Rattle.nr_reduce.specs.Events.{RunEvent}
use Rattle.nr_reduce.specs.Events.RunEvent.{FrameReceived, CallSubmitted, MemoryRevoked, CallExecuted, QueueWritten, ServerTold}
use Rattle.nr_reduce.specs.ServerState.{ServerState, PendingCall, PendingRead}
use Rattle.nr_reduce.specs.ServerReads.{read_of, reads_of, reads_from, regions_of}
use Rattle.nr_reduce.specs.ServerMessages.{Verdict, verdict}
use Rattle.nr_reduce.specs.ServerMessages.Verdict.{MakesPending}
use Rattle.nr_reduce.specs.ServerFrames.{FrameEffect, with_refused_call, frame_effect}
use Rattle.nr_reduce.specs.Server.{server_rules, server_state_after, initial_server, with_effect, received_by, with_own_hello}
use Rattle.nr_reduce.specs.RunLaws.{server_by}
use Rattle.nr_reduce.proofs.Conveyed.{Each}
use Rattle.nr_reduce.proofs.Once.{NumberIs, verdict_number, whole_with, rises_with}
use Rattle.nr_reduce.proofs.OwnStags.{kept_after}
use Rattle.nr_laws.proofs.LinkInvariants.{IsUnused, AreAtMost}
use Rattle.nr_laws.proofs.DistinctKeys.{AreOf, of_absent, below_more, below_append, below_absent, below_kept, below_taken, below_dropped}
use Rattle.nr_laws.proofs.PendingSends.{readings_from_of}
use Rattle.nr_laws.proofs.EachEffect.{each_effect, held_messages, held_responses}
use Rattle.nr_laws.proofs.MadePending.{Suits, made_pending}

-- no entry of a read list has bytes
abbrev pub HasNoBytes : List ReadSegment → Type 0
HasNoBytes [] = Unit {0}
HasNoBytes (r ∷ read) = (r.length ≡ 0) × HasNoBytes read

pub record IsSuited (sends : ℕ) (reads : List PendingRead) (c : PendingCall) : Type 0 where
  pub below : c.number ≤ sends
  pub suits : Suits c
  pub unread : HasNoBytes c.lists.read → IsUnused (λ (r : PendingRead). r.number) c.number reads

pub record AreSuited (sends : ℕ) (calls : List PendingCall) (reads : List PendingRead) : Type 0 where
  pub calls_suit : Each (IsSuited sends reads) calls
  pub reads_below : AreAtMost (λ (r : PendingRead). r.number) sends reads

-- ---- Reads of other numbers

unused_append : (n : ℕ) (xs ys : List PendingRead) → IsUnused (λ (r : PendingRead). r.number) n xs → IsUnused (λ (r : PendingRead). r.number) n ys → IsUnused (λ (r : PendingRead). r.number) n (xs ++ ys)
unused_append n [] ys h g = g
unused_append n (x ∷ xs) ys h g = (h.0, unused_append n xs ys h.1 g)

unused_taken : (n i : ℕ) (xs : List PendingRead) → IsUnused (λ (r : PendingRead). r.number) n xs → IsUnused (λ (r : PendingRead). r.number) n (take i xs)
unused_taken n zero xs h = tt
unused_taken n (suc i) [] h = tt
unused_taken n (suc i) (x ∷ xs) h = (h.0, unused_taken n i xs h.1)

unused_dropped : (n i : ℕ) (xs : List PendingRead) → IsUnused (λ (r : PendingRead). r.number) n xs → IsUnused (λ (r : PendingRead). r.number) n (drop i xs)
unused_dropped n zero xs h = h
unused_dropped n (suc i) [] h = tt
unused_dropped n (suc i) (x ∷ xs) h = unused_dropped n i xs h.1

unused_kept : (n : ℕ) (p : PendingRead → Bool) (xs : List PendingRead) → IsUnused (λ (r : PendingRead). r.number) n xs → IsUnused (λ (r : PendingRead). r.number) n (filter p xs)
unused_kept n p [] h = tt
unused_kept n p (x ∷ xs) h = by (p x) (unused_kept n p xs h.1)
  where
    by : (b : Bool) → IsUnused (λ (r : PendingRead). r.number) n (filter p xs) → IsUnused (λ (r : PendingRead). r.number) n (cond b (x ∷ filter p xs) (filter p xs))
    by true rest = (h.0, rest)
    by false rest = rest

reads_nothing : (regions : List Region) (number : ℕ) (before read : List ReadSegment) → HasNoBytes read → reads_from regions number before read ≡ []
reads_nothing regions number before [] h = refl
reads_nothing regions number before (r ∷ read) h =
    ap (λ (b : Bool). cond b [] (read_of regions number (total_at r.position before) r ∷ []) ++ reads_from regions number (before ++ r ∷ []) read) (eq-eqb r.length 0 h.0)
    ∙ reads_nothing regions number (before ++ r ∷ []) read h.1

of_most : (n m : ℕ) (xs : List PendingRead) → n ≤ m → AreOf (λ (r : PendingRead). r.number) n xs → AreAtMost (λ (r : PendingRead). r.number) m xs
of_most n m [] le h = tt
of_most n m (x ∷ xs) le h = ((let e = h.0 in omega (arith, e, le)), of_most n m xs le h.1)

-- ---- Calls with other reads

suited_more : (n m : ℕ) (reads others : List PendingRead) (calls : List PendingCall) → n ≤ m
    → ((number : ℕ) → number ≤ n → IsUnused (λ (r : PendingRead). r.number) number reads → IsUnused (λ (r : PendingRead). r.number) number others) → Each (IsSuited n reads) calls → Each (IsSuited m others) calls
suited_more n m reads others [] le f h = tt
suited_more n m reads others (c ∷ calls) le f h = (
  record { below = (let b = h.0.below in omega (arith, b, le)); suits = h.0.suits; unread = λ none. f c.number h.0.below (h.0.unread none) },
  suited_more n m reads others calls le f h.1,
)

suited_kept : (n : ℕ) (reads : List PendingRead) (p : PendingCall → Bool) (calls : List PendingCall) → Each (IsSuited n reads) calls → Each (IsSuited n reads) (filter p calls)
suited_kept n reads p [] h = tt
suited_kept n reads p (c ∷ calls) h = by (p c) (suited_kept n reads p calls h.1)
  where
    by : (b : Bool) → Each (IsSuited n reads) (filter p calls) → Each (IsSuited n reads) (cond b (c ∷ filter p calls) (filter p calls))
    by true rest = (h.0, rest)
    by false rest = rest

suited_both : (n : ℕ) (reads : List PendingRead) (xs ys : List PendingCall) → Each (IsSuited n reads) xs → Each (IsSuited n reads) ys → Each (IsSuited n reads) (xs ++ ys)
suited_both n reads [] ys h g = g
suited_both n reads (x ∷ xs) ys h g = (h.0, suited_both n reads xs ys h.1 g)

-- with more Sends
suited_sends : (n m : ℕ) (calls : List PendingCall) (reads : List PendingRead) → n ≤ m → AreSuited n calls reads → AreSuited m calls reads
suited_sends n m calls reads le h = record {
  calls_suit = suited_more n m reads reads calls le (λ number below unused. unused) h.calls_suit;
  reads_below = below_more (λ (r : PendingRead). r.number) n m reads le h.reads_below;
}

-- ---- The call that a message makes pending

pub verdict_suits : (k : ServerState) (message : List ℕ) (c : PendingCall) → verdict k message ≡ MakesPending c → Suits c
verdict_suits k message c e = (made_pending k message c e).suits

-- ---- What a frame leaves

suited_effect : (k : ServerState) (f : Frame) → AreSuited k.received.sends k.calls k.reads → AreSuited (received_by k.received (frame_segment f)).sends (frame_effect k f).calls (frame_effect k f).reads
suited_effect k f h =
    each_effect k (λ m. n ≡ k.received.sends + 1) (λ s. AreSuited n s.calls s.reads) (held_messages k (λ m. n ≡ k.received.sends + 1) (λ calls reads regions. AreSuited n calls reads) same pending)
    (held_responses k (λ calls reads regions. AreSuited n calls reads) same refused read) f (λ s m is whole. ap (λ (r : Result Segment ℕ). (received_by k.received r).sends) is ∙ whole_with k.received s m whole)
  where
    n : ℕ
    n = (received_by k.received (frame_segment f)).sends

    grow : (r : Result Segment ℕ) → k.received.sends ≤ (received_by k.received r).sends
    grow (Err reason) = omega arith
    grow (Ok s) = rises_with k.received s

    same : AreSuited n k.calls k.reads
    same = suited_sends k.received.sends n k.calls k.reads (grow (frame_segment f)) h

    pending : (place : ℕ) (message : List ℕ) (c : PendingCall) → n ≡ k.received.sends + 1 → verdict k message ≡ MakesPending c → AreSuited n (k.calls ++ c ∷ []) (k.reads ++ reads_of (k.regions ++ regions_of k place c) c)
    pending place message c next is =
        let regions : List Region = k.regions ++ regions_of k place c in
        let number : c.number ≡ k.received.sends + 1 = subst (λ (v : Verdict). NumberIs (k.received.sends + 1) v) is (verdict_number k message) in
        let news : List PendingRead = reads_of regions c in
        let own = readings_from_of regions c.number [] c.lists.read in
        record {
          calls_suit = suited_both n (k.reads ++ news) k.calls (c ∷ [])
              (suited_more k.received.sends n k.reads (k.reads ++ news) k.calls (omega (arith, next))
              (λ old below unused. unused_append old k.reads news unused (of_absent (λ (r : PendingRead). r.number) c.number old news (λ e. omega (arith, e, below, number)) own)) h.calls_suit) (
                record {
                  below = omega (arith, number, next);
                  suits = verdict_suits k message c is;
                  unread = λ none.
                      unused_append c.number k.reads news (below_absent (λ (r : PendingRead). r.number) k.received.sends c.number k.reads (omega (arith, number)) h.reads_below)
                      (subst (λ (rs : List PendingRead). IsUnused (λ (r : PendingRead). r.number) c.number rs) (sym (reads_nothing regions c.number [] c.lists.read none)) tt);
                },
                tt,
              );
          reads_below = below_append (λ (r : PendingRead). r.number) n k.reads news (below_more (λ (r : PendingRead). r.number) k.received.sends n k.reads (omega (arith, next)) h.reads_below)
              (of_most c.number n news (omega (arith, number, next)) own);
        }

    refused : (c : PendingCall) (s : FrameEffect) → AreSuited n s.calls s.reads → AreSuited n (with_refused_call k c s).calls (with_refused_call k c s).reads
    refused c s h =
        let left : List PendingRead = take s.kept s.reads ++ filter (λ x. not (eqb x.number c.number)) (drop s.kept s.reads) in
        record {
          calls_suit = suited_kept n left (λ other. not (eqb other.number c.number)) s.calls
              (suited_more n n s.reads left s.calls (omega arith)
              (λ number below unused. unused_append number (take s.kept s.reads) (filter (λ x. not (eqb x.number c.number)) (drop s.kept s.reads)) (unused_taken number s.kept s.reads unused)
              (unused_kept number (λ x. not (eqb x.number c.number)) (drop s.kept s.reads) (unused_dropped number s.kept s.reads unused))) h.calls_suit);
          reads_below = below_append (λ (x : PendingRead). x.number) n (take s.kept s.reads) (filter (λ x. not (eqb x.number c.number)) (drop s.kept s.reads)) (below_taken (λ (x : PendingRead). x.number) n s.kept s.reads h.reads_below)
              (below_kept (λ (x : PendingRead). x.number) n (λ x. not (eqb x.number c.number)) (drop s.kept s.reads) (below_dropped (λ (x : PendingRead). x.number) n s.kept s.reads h.reads_below));
        }

    read : (r : PendingRead) (reads : List PendingRead) → k.reads ≡ r ∷ reads → AreSuited n k.calls reads
    read r reads is =
        let all : AreSuited n k.calls (r ∷ reads) = subst (λ (rs : List PendingRead). AreSuited n k.calls rs) is same in
        record { calls_suit = suited_more n n (r ∷ reads) reads k.calls (omega arith) (λ number below unused. unused.1) all.calls_suit; reads_below = all.reads_below.1 }

abbrev StateSuits : ServerState → Type 0
StateSuits k = AreSuited k.received.sends k.calls k.reads

suited_after : (opened : LinkParameters) (k : ServerState) (event : RunEvent) → StateSuits k → StateSuits (server_state_after opened k event)
unfolding server_state_after
suited_after opened k (FrameReceived f) h = by (is_hello f)
  where
    by : (b : Bool) → StateSuits (cond b (with_own_hello opened k f) (with_effect k f (frame_effect k f)))
    by true = h
    by false = suited_effect k f h
suited_after opened k (CallSubmitted place a) h = h
suited_after opened k (MemoryRevoked place xid) h = h
suited_after opened k (CallExecuted e) h = record { calls_suit = suited_kept k.received.sends k.reads (λ c. not (eqb c.xid e.xid)) k.calls h.calls_suit; reads_below = h.reads_below }
suited_after opened k (QueueWritten taken) h = h
suited_after opened k (ServerTold what) h = h

-- whatever the client sends
pub calls_suit_lem : (opened : LinkParameters) (es : List RunEvent) → AreSuited (server_by opened es).received.sends (server_by opened es).calls (server_by opened es).reads
calls_suit_lem opened es = kept_after (server_rules opened) StateSuits (suited_after opened) (initial_server opened) es (record { calls_suit = tt; reads_below = tt })
