-- The pending calls of a server have their sink regions, and their reads are done or still to do, from frame to frame.
use Rattle.std.proofs.Common.{◌≡◌, ◌≢◌, ℕ, ◌+◌, ◌≤◌, ◌<◌, Bool, true, false, cond, ◌&&◌, not, eqb, List, [], ◌∷◌, ◌++◌, length, map, replicate, Some, refl, sym, ap, subst, ◌∙◌, arith, append-nil, length-append, eq-eqb, ne_eqb}
use Rattle.std.specs.List.{filter, find}
use Rattle.nr_reduce.specs.Plans.{entries_from}
use Rattle.nr_reduce.specs.OfferedRegions.{Region, closed_if, regions_closed}
use Rattle.nr_reduce.specs.ServerState.{PendingCall, PendingRead}
use Rattle.nr_reduce.specs.ServerReads.{stag_by, sink_of}
use Rattle.nr_reduce.proofs.WrittenChunks.{added_up}
use Rattle.nr_laws.proofs.ClientMemory.{HasRegion, has_closed, find_left}
use Rattle.nr_laws.proofs.SinkReads.{own_reads, into, into_append, OfNumber, own_number, number_right, into_kept}
use Rattle.nr_laws.proofs.Basics.{and_false}
use Rattle.nr_reduce.proofs.OwnStags.{closed_length}

-- ---- Finding a call's region

closed_same : (b : Bool) (place number position : ℕ) (r : Region) → ((eqb (closed_if b place r).call number && eqb (closed_if b place r).position position) ≡ (eqb r.call number && eqb r.position position)) × ((closed_if b place r).stag ≡ r.stag)
closed_same true place number position r = (refl, refl)
closed_same false place number position r = (refl, refl)

pub sink_closed : (test : Region → Bool) (place : ℕ) (regions : List Region) (number position : ℕ) → sink_of (regions_closed test place regions) number position ≡ sink_of regions number position
unfolding regions_closed
sink_closed test place [] number position = refl
sink_closed test place (r ∷ regions) number position =
    let c = closed_same (test r) place number position r in
    ap (λ (b : Bool). stag_by (cond b (Some (closed_if (test r) place r)) (find (λ x. eqb x.call number && eqb x.position position) (map (λ x. closed_if (test x) place x) regions)))) c.0
    ∙ by (eqb r.call number && eqb r.position position) (sink_closed test place regions number position) c.1
  where
    by : (b : Bool) → stag_by (find (λ x. eqb x.call number && eqb x.position position) (map (λ x. closed_if (test x) place x) regions)) ≡ stag_by (find (λ x. eqb x.call number && eqb x.position position) regions) → (closed_if (test r) place r).stag ≡ r.stag
        → stag_by (cond b (Some (closed_if (test r) place r)) (find (λ x. eqb x.call number && eqb x.position position) (map (λ x. closed_if (test x) place x) regions))) ≡ stag_by (cond b (Some r) (find (λ x. eqb x.call number && eqb x.position position) regions))
    by true e s = s
    by false e s = e

sink_left : (xs ys : List Region) (number position : ℕ) → 0 < sink_of xs number position → sink_of (xs ++ ys) number position ≡ sink_of xs number position
sink_left [] ys number position h = absurd (omega (arith, h))
sink_left (x ∷ xs) ys number position h = by (eqb x.call number && eqb x.position position) h (λ g. sink_left xs ys number position g)
  where
    by : (b : Bool) → 0 < stag_by (cond b (Some x) (find (λ x. eqb x.call number && eqb x.position position) xs)) → (0 < sink_of xs number position → sink_of (xs ++ ys) number position ≡ sink_of xs number position)
        → stag_by (cond b (Some x) (find (λ x. eqb x.call number && eqb x.position position) (xs ++ ys))) ≡ stag_by (cond b (Some x) (find (λ x. eqb x.call number && eqb x.position position) xs))
    by true h rest = refl
    by false h rest = rest h

-- regions of the Sends up to this one
abbrev pub OwnersBelow : ℕ → List Region → Type 0
OwnersBelow n [] = Unit {0}
OwnersBelow n (r ∷ regions) = (r.call ≤ n) × OwnersBelow n regions

pub owners_more : (n m : ℕ) (regions : List Region) → n ≤ m → OwnersBelow n regions → OwnersBelow m regions
owners_more n m [] le h = tt
owners_more n m (r ∷ regions) le h = ((let a = h.0 in omega (arith, a, le)), owners_more n m regions le h.1)

pub owners_append : (n : ℕ) (xs ys : List Region) → OwnersBelow n xs → OwnersBelow n ys → OwnersBelow n (xs ++ ys)
owners_append n [] ys h g = g
owners_append n (x ∷ xs) ys h g = (h.0, owners_append n xs ys h.1 g)

pub owners_closed : (test : Region → Bool) (place n : ℕ) (regions : List Region) → OwnersBelow n regions → OwnersBelow n (regions_closed test place regions)
unfolding regions_closed
owners_closed test place n [] h = tt
owners_closed test place n (r ∷ regions) h = (by (test r), owners_closed test place n regions h.1)
  where
    by : (b : Bool) → (closed_if b place r).call ≤ n
    by true = h.0
    by false = h.0

pub sink_none : (regions more : List Region) (n number position : ℕ) → n < number → OwnersBelow n regions → sink_of (regions ++ more) number position ≡ sink_of more number position
sink_none [] more n number position lt h = refl
sink_none (r ∷ regions) more n number position lt h =
    ap (λ (b : Bool). stag_by (cond b (Some r) (find (λ x. eqb x.call number && eqb x.position position) (regions ++ more)))) (and_false (eqb r.call number) (eqb r.position position) (ne_eqb r.call number (λ e. let a = h.0 in omega (arith, a, e, lt))))
    ∙ sink_none regions more n number position lt h.1

-- ---- A call with its reads

pub record CallReads (reads : List PendingRead) (regions : List Region) (c : PendingCall) : Type 0 where
  pub position : ℕ
  pub handle : ℕ
  pub lengths : List ℕ
  pub lists : c.lists.read ≡ entries_from position handle 0 lengths
  pub sink : ℕ
  pub own : into sink reads ≡ own_reads c.number position sink handle 0 lengths
  pub below : sink < 1 + length regions
  pub some : 0 < added_up lengths → 0 < sink
  pub region : 0 < added_up lengths → HasRegion regions sink (replicate (added_up lengths) 0)
  pub found : 0 < added_up lengths → sink_of regions c.number position ≡ sink

abbrev pub EachReads : List PendingRead → List Region → List PendingCall → Type 0
EachReads reads regions [] = Unit {0}
EachReads reads regions (c ∷ calls) = CallReads reads regions c × EachReads reads regions calls

pub each_closed : (test : Region → Bool) (place : ℕ) (reads : List PendingRead) (regions : List Region) (calls : List PendingCall) → EachReads reads regions calls → EachReads reads (regions_closed test place regions) calls
each_closed test place reads regions [] h = tt
each_closed test place reads regions (c ∷ calls) h =
    let x = h.0 in (
      record {
        position = x.position;
        handle = x.handle;
        lengths = x.lengths;
        lists = x.lists;
        sink = x.sink;
        own = x.own;
        below = (let b = x.below in let l = closed_length test place regions in omega (arith, b, l));
        region = λ some. has_closed test place regions x.sink (replicate (added_up x.lengths) 0) (x.region some);
        found = λ some. sink_closed test place regions c.number x.position ∙ x.found some;
        some = x.some;
      },
      each_closed test place reads regions calls h.1,
    )

pub each_append : (reads new : List PendingRead) (xs ys : List Region) (calls : List PendingCall) → ((s : ℕ) → s < 1 + length xs → into s new ≡ []) → EachReads reads xs calls → EachReads (reads ++ new) (xs ++ ys) calls
each_append reads new xs ys [] none h = tt
each_append reads new xs ys (c ∷ calls) none h =
    let x = h.0 in (
      record {
        position = x.position;
        handle = x.handle;
        lengths = x.lengths;
        lists = x.lists;
        sink = x.sink;
        own = into_append x.sink reads new ∙ ap (λ (rs : List PendingRead). into x.sink reads ++ rs) (none x.sink x.below) ∙ append-nil (into x.sink reads) ∙ x.own;
        below = (let b = x.below in let l = length-append xs ys in omega (arith, b, l));
        region = λ some. (let r = x.region some in record { region = r.region; there = find_left x.sink xs ys r.region r.there; own = r.own; holds = r.holds });
        found = λ some. (let f = x.found some in let p = x.some some in sink_left xs ys c.number x.position (omega (arith, f, p)) ∙ f);
        some = x.some;
      },
      each_append reads new xs ys calls none h.1,
    )

pub each_filter : (reads : List PendingRead) (regions : List Region) (p : PendingCall → Bool) (calls : List PendingCall) → EachReads reads regions calls → EachReads reads regions (filter p calls)
each_filter reads regions p [] h = tt
each_filter reads regions p (c ∷ calls) h = by (p c) (each_filter reads regions p calls h.1)
  where
    by : (b : Bool) → EachReads reads regions (filter p calls) → EachReads reads regions (cond b (c ∷ filter p calls) (filter p calls))
    by true rest = (h.0, rest)
    by false rest = rest

pub each_two : (reads : List PendingRead) (regions : List Region) (xs ys : List PendingCall) → EachReads reads regions xs → EachReads reads regions ys → EachReads reads regions (xs ++ ys)
each_two reads regions [] ys h g = g
each_two reads regions (x ∷ xs) ys h g = (h.0, each_two reads regions xs ys h.1 g)

pub each_same : (reads others : List PendingRead) (regions : List Region) (calls : List PendingCall) → reads ≡ others → EachReads reads regions calls → EachReads others regions calls
each_same reads others regions calls e h = subst (λ (rs : List PendingRead). EachReads rs regions calls) e h

-- reads of a call that is refused go
pub each_refused : (front back : List PendingRead) (regions : List Region) (number : ℕ) (calls : List PendingCall) → EachReads (front ++ back) regions calls
    → EachReads (front ++ filter (λ r. not (eqb r.number number)) back) regions (filter (λ c. not (eqb c.number number)) calls)
each_refused front back regions number [] h = tt
each_refused front back regions number (c ∷ calls) h = by (eqb c.number number) refl (each_refused front back regions number calls h.1)
  where
    kept : List PendingRead
    kept = filter (λ r. not (eqb r.number number)) back

    others : List PendingCall
    others = filter (λ c. not (eqb c.number number)) calls

    by : (b : Bool) → eqb c.number number ≡ b → EachReads (front ++ kept) regions others → EachReads (front ++ kept) regions (cond (not b) (c ∷ others) others)
    by true is rest = rest
    by false is rest =
        let x = h.0 in
        let ne : c.number ≢ number = λ e. (let t : true ≡ false = sym (eq-eqb c.number number e) ∙ is in absurd cc) in
        let all : OfNumber c.number (into x.sink (front ++ back)) = subst (OfNumber c.number) (sym x.own) (own_number c.number x.position x.sink x.handle 0 x.lengths) in
        let last : OfNumber c.number (into x.sink back) = number_right c.number (into x.sink front) (into x.sink back) (subst (OfNumber c.number) (into_append x.sink front back) all) in (
          record {
            position = x.position;
            handle = x.handle;
            lengths = x.lengths;
            lists = x.lists;
            sink = x.sink;
            own = into_append x.sink front kept ∙ ap (λ (rs : List PendingRead). into x.sink front ++ rs) (into_kept c.number number x.sink back ne last) ∙ sym (into_append x.sink front back) ∙ x.own;
            below = x.below;
            region = x.region;
            found = x.found;
            some = x.some;
          },
          rest,
        )
