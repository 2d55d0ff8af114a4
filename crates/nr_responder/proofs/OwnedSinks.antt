-- The sinks of a responder that keeps a server's state: each is of a pending call, or a Read Request into it is open.
use Rattle.std.proofs.Common.{◌≡◌, ℕ, zero, suc, ◌+◌, ◌*◌, ◌≤◌, Bool, true, false, not, ◌||◌, ◌&&◌, eqb, cond, List, [], ◌∷◌, ◌++◌, length, map, take, drop, Option, None, Some, refl, sym, ap, subst, ◌∙◌, arith, inl, inr, is_some, length-append}
use Rattle.std.specs.Prelude.{◌⊎◌}
use Rattle.std.specs.List.{AllByRecursion, list_any}
use Rattle.std.proofs.lemmas.Bool.{eqb-true, eq-eqb}
use Rattle.std.proofs.lemmas.List.{length-map, length-take}
use Rattle.nr_header.specs.Constants.{PAYLOAD_MAX, READ_SEGMENTS_MAX}
use Rattle.nr_link.specs.Limits.{open_reads_max}
use Rattle.nr_link.specs.Input.{InputState}
use Rattle.nr_reduce.specs.OfferedRegions.{Region}
use Rattle.nr_reduce.specs.ServerState.{PendingCall, PendingRead, ServerState}
use Rattle.nr_reduce.specs.ServerReads.{is_over, is_read, is_read_at}
use Rattle.nr_reduce.specs.declared.mark.LinkParameters.{LinkParameters}
use Rattle.nr_responder.specs.Fetching.{SinkRegion, open_sinks, open_if, sink_of_region}
use Rattle.nr_responder.specs.HeldBytes.{sinks_total, sizes, IsOfPending, SharesFit}
use Rattle.nr_responder.specs.Keeping.{Keeps}
use Rattle.nr_responder.specs.ResponderState.{ResponderSide}
use Rattle.nr_responder.proofs.Shares.{IsOwned, most_of, owned_total}

-- the numbers of the pending calls, and of the reads that are open
abbrev pub owners : List PendingCall → List PendingRead → List ℕ
owners calls reads = map (λ c. c.number) calls ++ map (λ r. r.number) (take open_reads_max reads)

same_eqb : (a b : ℕ) → eqb a b ≡ true → eqb b a ≡ true
same_eqb a b e = eq-eqb b a (sym (eqb-true a b e))

-- ---- Whether a number is among them

any_left : (p : ℕ → Bool) (xs ys : List ℕ) → list_any p xs ≡ true → list_any p (xs ++ ys) ≡ true
any_left p [] ys e = absurd (let wrong : false ≡ true = e in cc)
any_left p (x ∷ xs) ys e = by (p x) (any_left p xs ys) e
  where
    by : (b : Bool) → (list_any p xs ≡ true → list_any p (xs ++ ys) ≡ true) → (b || list_any p xs) ≡ true → (b || list_any p (xs ++ ys)) ≡ true
    by true rest e = refl
    by false rest e = rest e

any_right : (p : ℕ → Bool) (xs ys : List ℕ) → list_any p ys ≡ true → list_any p (xs ++ ys) ≡ true
any_right p [] ys e = e
any_right p (x ∷ xs) ys e = by (p x) (any_right p xs ys e)
  where
    by : (b : Bool) → list_any p (xs ++ ys) ≡ true → (b || list_any p (xs ++ ys)) ≡ true
    by true rest = refl
    by false rest = rest

-- a pending call has it
pub call_among : (n : ℕ) (calls : List PendingCall) → list_any (λ c. eqb c.number n) calls ≡ true → list_any (λ m. eqb n m) (map (λ c. c.number) calls) ≡ true
call_among n [] e = absurd (let wrong : false ≡ true = e in cc)
call_among n (c ∷ calls) e = by (call_among n calls) (eqb c.number n) refl e
  where
    by : (list_any (λ c. eqb c.number n) calls ≡ true → list_any (λ m. eqb n m) (map (λ c. c.number) calls) ≡ true) → (b : Bool) → eqb c.number n ≡ b → (b || list_any (λ c. eqb c.number n) calls) ≡ true →
        (eqb n c.number || list_any (λ m. eqb n m) (map (λ c. c.number) calls)) ≡ true
    by rest true is e = ap (λ (b : Bool). b || list_any (λ m. eqb n m) (map (λ c. c.number) calls)) (same_eqb c.number n is)
    by rest false is e = or_right (eqb n c.number) (rest e)
      where
        or_right : (b : Bool) → list_any (λ m. eqb n m) (map (λ c. c.number) calls) ≡ true → (b || list_any (λ m. eqb n m) (map (λ c. c.number) calls)) ≡ true
        or_right true e = refl
        or_right false e = e

-- ---- Reads

abbrev at_place : (n p : ℕ) → PendingRead → Bool
at_place n p r = eqb r.number n && eqb r.position p

and_left : (a b : Bool) → (a && b) ≡ true → a ≡ true
and_left true b e = refl
and_left false b e = absurd (let wrong : false ≡ true = e in cc)

-- one of some reads that are of pending calls
any_pending : (n p : ℕ) (calls : List PendingCall) (reads : List PendingRead) → list_any (at_place n p) reads ≡ true → AllByRecursion (IsOfPending calls) reads → list_any (λ c. eqb c.number n) calls ≡ true
any_pending n p calls [] e h = absurd (let wrong : false ≡ true = e in cc)
any_pending n p calls (r ∷ reads) e h = by (λ (e : list_any (at_place n p) reads ≡ true). any_pending n p calls reads e h.1) (at_place n p r) refl e
  where
    by : (list_any (at_place n p) reads ≡ true → list_any (λ c. eqb c.number n) calls ≡ true) → (b : Bool) → at_place n p r ≡ b → (b || list_any (at_place n p) reads) ≡ true → list_any (λ c. eqb c.number n) calls ≡ true
    by rest true is e = ap (λ (m : ℕ). list_any (λ c. eqb c.number m) calls) (sym (eqb-true r.number n (and_left (eqb r.number n) (eqb r.position p) is))) ∙ h.0
    by rest false is e = rest e

-- or it is among the first
read_owner : (n p i : ℕ) (calls : List PendingCall) (reads : List PendingRead) → list_any (at_place n p) reads ≡ true → AllByRecursion (IsOfPending calls) (drop i reads) →
    (list_any (λ c. eqb c.number n) calls ≡ true) ⊎ (list_any (λ m. eqb n m) (map (λ r. r.number) (take i reads)) ≡ true)
read_owner n p zero calls reads e h = inl (any_pending n p calls reads e h)
read_owner n p (suc i) calls [] e h = absurd (let wrong : false ≡ true = e in cc)
read_owner n p (suc i) calls (r ∷ reads) e h = by (λ (e : list_any (at_place n p) reads ≡ true). read_owner n p i calls reads e h) (at_place n p r) refl e
  where
    rest_of : Bool
    rest_of = list_any (λ m. eqb n m) (map (λ (r : PendingRead). r.number) (take i reads))

    or_right : (b : Bool) → rest_of ≡ true → (b || rest_of) ≡ true
    or_right true e = refl
    or_right false e = e

    later : (list_any (λ c. eqb c.number n) calls ≡ true) ⊎ (rest_of ≡ true) → (list_any (λ c. eqb c.number n) calls ≡ true) ⊎ ((eqb n r.number || rest_of) ≡ true)
    later (inl e) = inl e
    later (inr e) = inr (or_right (eqb n r.number) e)

    by : (list_any (at_place n p) reads ≡ true → (list_any (λ c. eqb c.number n) calls ≡ true) ⊎ (rest_of ≡ true)) → (b : Bool) → at_place n p r ≡ b → (b || list_any (at_place n p) reads) ≡ true →
        (list_any (λ c. eqb c.number n) calls ≡ true) ⊎ ((eqb n r.number || rest_of) ≡ true)
    by rest true is e = inr (ap (λ (b : Bool). b || rest_of) (same_eqb r.number n (and_left (eqb r.number n) (eqb r.position p) is)))
    by rest false is e = later (rest e)

-- ---- Sinks that are open

not_false : (b : Bool) → not b ≡ false → b ≡ true
not_false true e = refl
not_false false e = absurd (let wrong : true ≡ false = e in cc)

abbrev IsOurs : List PendingCall → List PendingRead → SinkRegion → Type 0
IsOurs calls reads s = IsOwned (λ (x : SinkRegion). x.number) (owners calls reads) s

sink_owned : (calls : List PendingCall) (reads : List PendingRead) (g : Region) → AllByRecursion (IsOfPending calls) (drop open_reads_max reads) → is_over calls reads g ≡ false → IsOurs calls reads (sink_of_region g)
sink_owned calls reads g waiting open_now = by (list_any (λ c. eqb c.number g.call) calls) refl open_now
  where
    pending : list_any (λ c. eqb c.number g.call) calls ≡ true → IsOurs calls reads (sink_of_region g)
    pending e = any_left (λ m. eqb g.call m) (map (λ c. c.number) calls) (map (λ r. r.number) (take open_reads_max reads)) (call_among g.call calls e)

    either : (list_any (λ c. eqb c.number g.call) calls ≡ true) ⊎ (list_any (λ m. eqb g.call m) (map (λ r. r.number) (take open_reads_max reads)) ≡ true) → IsOurs calls reads (sink_of_region g)
    either (inl e) = pending e
    either (inr e) = any_right (λ m. eqb g.call m) (map (λ c. c.number) calls) (map (λ r. r.number) (take open_reads_max reads)) e

    by : (b : Bool) → list_any (λ c. eqb c.number g.call) calls ≡ b → cond b (is_read reads g.call) (is_read_at reads g.call g.position) ≡ false → IsOurs calls reads (sink_of_region g)
    by true is e = pending is
    by false is e = either (read_owner g.call g.position open_reads_max calls reads (not_false (list_any (at_place g.call g.position) reads) e) waiting)

sinks_owned : (calls : List PendingCall) (reads : List PendingRead) (regions : List Region) → AllByRecursion (IsOfPending calls) (drop open_reads_max reads) → AllByRecursion (λ r. is_some r.until ≡ is_over calls reads r) regions →
    AllByRecursion (IsOurs calls reads) (open_sinks regions)
sinks_owned calls reads [] waiting closed = tt
sinks_owned calls reads (g ∷ regions) waiting closed = by g.until refl (sinks_owned calls reads regions waiting closed.1)
  where
    by : (o : Option ℕ) → g.until ≡ o → AllByRecursion (IsOurs calls reads) (open_sinks regions) → AllByRecursion (IsOurs calls reads) (open_if o (sink_of_region g) (open_sinks regions))
    by None is rest = (sink_owned calls reads g waiting (sym closed.0 ∙ ap (λ (o : Option ℕ). is_some o) is), rest)
    by (Some until) is rest = rest

most_is : (calls : List ℕ) → most_of PAYLOAD_MAX calls ≡ PAYLOAD_MAX * length calls
most_is [] = omega arith
most_is (c ∷ calls) = (let rest = most_is calls in omega (arith, rest))

sizes_one : (sinks : List SinkRegion) → sizes (λ (s : SinkRegion). 1) sinks ≡ length sinks
sizes_one [] = refl
sizes_one (s ∷ sinks) = (let rest = sizes_one sinks in omega (arith, rest))

count_is : (calls : List ℕ) → most_of READ_SEGMENTS_MAX calls ≡ READ_SEGMENTS_MAX * length calls
count_is [] = omega arith
count_is (c ∷ calls) = (let rest = count_is calls in omega (arith, rest))

-- The sinks are of pending calls, and of Read Requests that are open.
owned_lem : (opened : LinkParameters) (k : ServerState) (so_far : InputState) (v : ResponderSide) → Keeps opened k so_far v → SharesFit v → AllByRecursion (IsOurs k.calls k.reads) v.fetching.sinks
owned_lem opened k so_far v h fit =
    let waiting : AllByRecursion (IsOfPending k.calls) (drop open_reads_max k.reads) = subst (λ (cs : List PendingCall). AllByRecursion (IsOfPending cs) (drop open_reads_max k.reads)) h.calls (subst (λ (rs : List PendingRead). AllByRecursion (IsOfPending v.calls) (drop open_reads_max rs)) h.reads fit.waiting) in
    subst (λ (ss : List SinkRegion). AllByRecursion (IsOurs k.calls k.reads) ss) (sym h.sinks) (sinks_owned k.calls k.reads k.regions waiting h.server.closed)

owners_few : (calls : List PendingCall) (reads : List PendingRead) → length (owners calls reads) ≤ length calls + open_reads_max
owners_few calls reads =
    let parts = length-append (map (λ (c : PendingCall). c.number) calls) (map (λ (r : PendingRead). r.number) (take open_reads_max reads)) in
    let of_calls = length-map calls (λ (c : PendingCall). c.number) in
    let of_reads = length-map (take open_reads_max reads) (λ (r : PendingRead). r.number) in
    let first = length-take open_reads_max reads in
    omega (arith, parts, of_calls, of_reads, first)

-- So they are no more than the segments of a read list for each pending call, and for each Read Request that may be open.
pub live_count : (opened : LinkParameters) (k : ServerState) (so_far : InputState) (v : ResponderSide) → Keeps opened k so_far v → SharesFit v → length v.fetching.sinks ≤ READ_SEGMENTS_MAX * (length v.calls + open_reads_max)
live_count opened k so_far v h fit =
    let total = owned_total (λ (x : SinkRegion). x.number) (λ (x : SinkRegion). 1) READ_SEGMENTS_MAX (owners k.calls k.reads) v.fetching.sinks (owned_lem opened k so_far v h fit) fit.counts in
    let all = count_is (owners k.calls k.reads) in
    let few = owners_few k.calls k.reads in
    let size = sizes_one v.fetching.sinks in
    let same = ap (λ (cs : List PendingCall). length cs) h.calls in
    omega (arith, total, all, few, size, same)

-- So all sinks together have at most the bytes of a payload for each pending call, and for each Read Request that may be open.
pub live_most : (opened : LinkParameters) (k : ServerState) (so_far : InputState) (v : ResponderSide) → Keeps opened k so_far v → SharesFit v → sinks_total v.fetching.sinks ≤ PAYLOAD_MAX * (length v.calls + open_reads_max)
live_most opened k so_far v h fit =
    let total = owned_total (λ (x : SinkRegion). x.number) (λ (x : SinkRegion). x.len) PAYLOAD_MAX (owners k.calls k.reads) v.fetching.sinks (owned_lem opened k so_far v h fit) fit.shares in
    let all = most_is (owners k.calls k.reads) in
    let few = owners_few k.calls k.reads in
    let same = ap (λ (cs : List PendingCall). length cs) h.calls in
    omega (arith, total, all, few, same)
