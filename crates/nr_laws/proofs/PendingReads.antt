-- Each read of a pending call is of its read list: at a position that has an entry there.
use Rattle.std.proofs.Common.{◌≡◌, ◌≢◌, ℕ, ◌<◌, Bool, true, false, cond, not, ◌||◌, eqb, List, [], ◌∷◌, ◌++◌, take, drop, refl, sym, ap, subst, ◌∙◌, arith, append_assoc, eq-eqb}
use Rattle.std.specs.List.{list_any, filter, AllByRecursion}
use Rattle.nr_header.specs.declared.header.ReadSegment.{ReadSegment}
use Rattle.nr_link.specs.Frames.{Frame}
use Rattle.nr_reduce.specs.Chunks.{total_at}
use Rattle.nr_reduce.specs.OfferedRegions.{Region}
use Rattle.nr_reduce.specs.ServerState.{ServerState, PendingCall, PendingRead}
use Rattle.nr_reduce.specs.ServerReads.{reads_from, read_of, reads_of, regions_of}
use Rattle.nr_reduce.specs.ServerMessages.{verdict}
use Rattle.nr_reduce.specs.ServerMessages.Verdict.{MakesPending}
use Rattle.nr_reduce.specs.ServerFrames.{FrameEffect, with_refused_call, frame_effect}
use Rattle.nr_laws.proofs.LinkInvariants.{AreAtMost, PendingAgree}
use Rattle.nr_laws.proofs.DistinctKeys.{any_right}
use Rattle.nr_laws.proofs.PendingSends.{verdict_new}
use Rattle.nr_laws.proofs.Basics.{each_append, each_take, each_drop, each_kept}
use Rattle.nr_laws.proofs.EachEffect.{each_effect, held_messages, held_responses}

abbrev pub HasPosition : ℕ → List ReadSegment → Type 0
HasPosition position read = list_any (λ (s : ReadSegment). eqb s.position position) read ≡ true

abbrev pub IsOwn : PendingCall → PendingRead → Type 0
IsOwn c r = r.number ≡ c.number → HasPosition r.position c.lists.read

-- each read of each of these calls
abbrev pub AreOwn : List PendingRead → List PendingCall → Type 0
AreOwn reads calls = AllByRecursion (λ (c : PendingCall). AllByRecursion (IsOwn c) reads) calls

other_reads : (reads others : List PendingRead) → ((c : PendingCall) → AllByRecursion (IsOwn c) reads → AllByRecursion (IsOwn c) others) → (calls : List PendingCall) → AreOwn reads calls → AreOwn others calls
other_reads reads others f [] h = tt
other_reads reads others f (c ∷ calls) h = (f c h.0, other_reads reads others f calls h.1)

-- ---- A new call

-- reads of numbers below that of a call aren't its
earlier_reads : (c : PendingCall) (n : ℕ) (reads : List PendingRead) → AreAtMost (λ (r : PendingRead). r.number) n reads → n < c.number → AllByRecursion (IsOwn c) reads
earlier_reads c n [] h lt = tt
earlier_reads c n (r ∷ reads) h lt = ((λ same. absurd (let le = h.0 in omega (arith, le, lt, same))), earlier_reads c n reads h.1 lt)

-- nor are those of another number
others_reads : (c : PendingCall) (regions : List Region) (number : ℕ) (before read : List ReadSegment) → number ≢ c.number → AllByRecursion (IsOwn c) (reads_from regions number before read)
others_reads c regions number before [] ne = tt
others_reads c regions number before (s ∷ read) ne = each_append (IsOwn c) _ _ (by (eqb s.length 0)) (others_reads c regions number (before ++ s ∷ []) read ne)
  where
    by : (b : Bool) → AllByRecursion (IsOwn c) (cond b [] (read_of regions number (total_at s.position before) s ∷ []))
    by true = tt
    by false = ((λ same. absurd (ne same)), tt)

-- its own are of its entries
listed_reads : (c : PendingCall) (regions : List Region) (number : ℕ) (before read : List ReadSegment) → c.lists.read ≡ before ++ read → AllByRecursion (IsOwn c) (reads_from regions number before read)
listed_reads c regions number before [] is = tt
listed_reads c regions number before (s ∷ read) is =
    each_append (IsOwn c) _ _ (by (eqb s.length 0)) (listed_reads c regions number (before ++ s ∷ []) read (is ∙ sym (append_assoc before (s ∷ []) read)))
  where
    at : ReadSegment → Bool
    at t = eqb t.position s.position

    there : HasPosition s.position c.lists.read
    there = ap (λ (xs : List ReadSegment). list_any at xs) is ∙ any_right at before (s ∷ read) (ap (λ (b : Bool). b || list_any at read) (eq-eqb s.position s.position refl))

    by : (b : Bool) → AllByRecursion (IsOwn c) (cond b [] (read_of regions number (total_at s.position before) s ∷ []))
    by true = tt
    by false = ((λ same. there), tt)

more_reads : (n number : ℕ) (reads : List PendingRead) (regions : List Region) (read : List ReadSegment) → n < number → (calls : List PendingCall) → AreAtMost (λ (c : PendingCall). c.number) n calls → AreOwn reads calls
    → AreOwn (reads ++ reads_from regions number [] read) calls
more_reads n number reads regions read lt [] below h = tt
more_reads n number reads regions read lt (c ∷ calls) below h = (
  each_append (IsOwn c) reads (reads_from regions number [] read) h.0 (others_reads c regions number [] read (λ same. (let le = below.0 in omega (arith, le, lt, same)))),
  more_reads n number reads regions read lt calls below.1 h.1,
)

-- ---- What a frame leaves

pub own_effect : (k : ServerState) (f : Frame) → PendingAgree k → AreOwn k.reads k.calls → AreOwn (frame_effect k f).reads (frame_effect k f).calls
own_effect k f w h =
    each_effect k (λ m. Unit {0}) (λ s. AreOwn s.reads s.calls) (held_messages k (λ m. Unit {0}) (λ calls reads regions. AreOwn reads calls) h pending)
    (held_responses k (λ calls reads regions. AreOwn reads calls) h refused read) f (λ s m is e. tt)
  where
    pending : (place : ℕ) (message : List ℕ) (c : PendingCall) → Unit {0} → verdict k message ≡ MakesPending c → AreOwn (k.reads ++ reads_of (k.regions ++ regions_of k place c) c) (k.calls ++ c ∷ [])
    pending place message c good is =
        let new = verdict_new k message c is in
        let number = new.0.number in
        let lt : k.received.sends < c.number = omega (arith, number) in
        let regions = k.regions ++ regions_of k place c in
        let news = reads_of regions c in
        each_append (λ (d : PendingCall). AllByRecursion (IsOwn d) (k.reads ++ news)) k.calls (c ∷ [])
        (more_reads k.received.sends c.number k.reads regions c.lists.read lt k.calls w.calls_below h)
        (each_append (IsOwn c) k.reads news (earlier_reads c k.received.sends k.reads w.reads_below lt) (listed_reads c regions c.number [] c.lists.read refl), tt)

    refused : (c : PendingCall) (s : FrameEffect) → AreOwn s.reads s.calls → AreOwn (with_refused_call k c s).reads (with_refused_call k c s).calls
    refused c s h =
        let mine : PendingRead → Bool = λ x. not (eqb x.number c.number) in
        let left : List PendingRead = take s.kept s.reads ++ filter mine (drop s.kept s.reads) in
        each_kept (λ (d : PendingCall). AllByRecursion (IsOwn d) left) (λ (d : PendingCall). not (eqb d.number c.number)) s.calls
        (other_reads s.reads left (λ d g. each_append (IsOwn d) _ _ (each_take (IsOwn d) s.kept s.reads g) (each_kept (IsOwn d) mine (drop s.kept s.reads) (each_drop (IsOwn d) s.kept s.reads g))) s.calls h)

    read : (r : PendingRead) (reads : List PendingRead) → k.reads ≡ r ∷ reads → AreOwn reads k.calls
    read r reads is = other_reads (r ∷ reads) reads (λ c g. g.1) k.calls (subst (λ (rs : List PendingRead). AreOwn rs k.calls) is h)

pub own_executed : (reads : List PendingRead) (p : PendingCall → Bool) (calls : List PendingCall) → AreOwn reads calls → AreOwn reads (filter p calls)
own_executed reads p calls h = each_kept (λ (d : PendingCall). AllByRecursion (IsOwn d) reads) p calls h
