-- Of the regions of a call, all of which a peer reaches until a message names one, all but one are counted as released.
use Rattle.std.proofs.Common.{◌≡◌, ◌≢◌, ℕ, ◌+◌, ◌<◌, ◌≤◌, Bool, true, false, cond, eqb, List, [], ◌∷◌, ◌++◌, length, map, Option, None, Some, refl, sym, ap, subst, ◌∙◌, arith}
use Rattle.std.specs.Prelude.{is_some, replicate, ◌||◌}
use Rattle.std.specs.List.{AllByRecursion, filter, list_any}
use Rattle.std.proofs.lemmas.Bool.{eqb-true, eq-eqb}
use Rattle.nr_regions.specs.declared.right.Right.{Right}
use Rattle.nr_regions.specs.declared.right.Right.TheVariants.{Fetch, Fill}
use Rattle.nr_regions.specs.Access.{contents}
use Rattle.nr_regions.specs.RegisteredMemory.{Region as HeldRegion, RegisteredMemory, live_region, after_invalidate}
use Rattle.nr_regions.proofs.Holding.{live_invalidate_here, live_invalidate_other}
use Rattle.nr_reduce.specs.declared.outline.Plan.{Plan}
use Rattle.nr_reduce.specs.Plans.{Buffer, buffer_if, buffers, has_segment, one_if, write_stag, reply_stag, total}
use Rattle.nr_reduce.specs.OfferedRegions.{Region, region_grants}
use Rattle.nr_reduce.specs.OfferedMemory.{HoldsRegions, held_if_open, registered_region}
use Rattle.nr_reduce.specs.ClientState.{ClientState, OutstandingCall}
use Rattle.nr_reduce.specs.KeptCalls.{AreKept, stags_unless}
use Rattle.nr_reduce.specs.KeptClient.{IsRegionOpen, OpensFor}
use Rattle.nr_reduce.specs.Run.{client}
use Rattle.nr_reduce.specs.KeptCalls.{numbered_calls}
use Rattle.nr_reduce.specs.declared.mark.LinkParameters.{LinkParameters}
use Rattle.nr_reduce.specs.declared.mark.Mark.{Mark}
use Rattle.nr_requester.specs.RequesterState.{StoredCall, RequesterSide, kept_call, stags_of}
use Rattle.nr_requester.specs.Standing.{KeepsClient}
use Rattle.nr_requester.specs.AfterCalls.{live_count}
use Rattle.nr_requester.specs.Laws.{CountsAllButNamed, NamedRegionIsNotCounted}

-- ---- STags that rise

abbrev Rises : ℕ → List ℕ → Type 0
Rises low [] = Unit {0}
Rises low (s ∷ ss) = (low ≤ s) × Rises (s + 1) ss

lower : (low high : ℕ) (ss : List ℕ) → low ≤ high → Rises high ss → Rises low ss
lower low high [] le h = tt
lower low high (s ∷ ss) le h = ((let first = h.0 in omega (arith, le, first)), h.1)

front : (low s : ℕ) (b : Bool) (right : Right) (bytes : List ℕ) (rest : List Buffer) → low ≤ s → Rises (s + one_if b) (map (λ x. x.stag) rest) → Rises low (map (λ x. x.stag) (buffer_if b s right bytes ++ rest))
front low s true right bytes rest le h = (le, h)
front low s false right bytes rest le h = lower low (s + 0) (map (λ x. x.stag) rest) (omega (arith, le)) h

last : (low s : ℕ) (b : Bool) (right : Right) (bytes : List ℕ) → low ≤ s → Rises low (map (λ x. x.stag) (buffer_if b s right bytes))
last low s true right bytes le = (le, tt)
last low s false right bytes le = tt

plan_rises : (stag : ℕ) (p : Plan) → Rises stag (map (λ x. x.stag) (buffers stag p))
unfolding buffers
plan_rises stag p =
    let w : List Buffer = buffer_if (has_segment p.write) (write_stag stag p) Fill (replicate (total p.write) 0) in
    let y : List Buffer = buffer_if (has_segment p.reply) (reply_stag stag p) Fill (replicate (total p.reply) 0) in
    front stag stag (has_segment (Some p.read)) Fetch p.region (w ++ y) (omega arith)
    (front (write_stag stag p) (write_stag stag p) (has_segment p.write) Fill (replicate (total p.write) 0) y (omega arith)
    (last (reply_stag stag p) (reply_stag stag p) (has_segment p.reply) Fill (replicate (total p.reply) 0) (omega arith)))

unless_rises : (b : Bool) (stag : ℕ) (p : Plan) → Rises stag (stags_unless b (buffers stag p))
unless_rises true stag p = tt
unless_rises false stag p = plan_rises stag p

-- ---- The count

abbrev AllLive : RegisteredMemory → List ℕ → Type 0
AllLive m ss = AllByRecursion (λ s. is_some (live_region m s) ≡ true) ss

-- the count with one more
counted : (m : RegisteredMemory) (s : ℕ) (ss : List ℕ) (b : Bool) → is_some (live_region m s) ≡ b → live_count m (s ∷ ss) ≡ cond b 1 0 + live_count m ss
counted m s ss b is =
    ap (λ (x : Bool). length (cond x (s ∷ filter (λ stag. is_some (live_region m stag)) ss) (filter (λ stag. is_some (live_region m stag)) ss))) is ∙ by b
  where
    by : (x : Bool) → length (cond x (s ∷ filter (λ stag. is_some (live_region m stag)) ss) (filter (λ stag. is_some (live_region m stag)) ss)) ≡ cond x 1 0 + live_count m ss
    by true = omega arith
    by false = omega arith

all_counted : (m : RegisteredMemory) (ss : List ℕ) → AllLive m ss → live_count m ss ≡ length ss
all_counted m [] live = refl
all_counted m (s ∷ ss) live = (let one = counted m s ss true live.0 in let rest = all_counted m ss live.1 in omega (arith, one, rest))

-- those above one that died
others_live : (m : RegisteredMemory) (stag low : ℕ) (ss : List ℕ) → stag < low → Rises low ss → AllLive m ss → AllLive (after_invalidate m stag) ss
others_live m stag low [] lt rises live = tt
others_live m stag low (s ∷ ss) lt rises live =
    let first = rises.0 in
    let differs : s ≢ stag = λ is. omega (arith, is, first, lt) in
    (ap (λ (o : Option HeldRegion). is_some o) (live_invalidate_other m stag s differs) ∙ live.0, others_live m stag (s + 1) ss (omega (arith, first, lt)) rises.1 live.1)

all_but_one : (m : RegisteredMemory) (low : ℕ) (ss : List ℕ) (stag : ℕ) → Rises low ss → AllLive m ss → list_any (λ s. eqb s stag) ss ≡ true → live_count (after_invalidate m stag) ss + 1 ≡ length ss
all_but_one m low [] stag rises live e = absurd cc
all_but_one m low (s ∷ ss) stag rises live e = by (all_but_one m (s + 1) ss stag rises.1 live.1) (eqb s stag) refl e
  where
    by : (list_any (λ x. eqb x stag) ss ≡ true → live_count (after_invalidate m stag) ss + 1 ≡ length ss) → (b : Bool) → eqb s stag ≡ b → (b || list_any (λ x. eqb x stag) ss) ≡ true → live_count (after_invalidate m stag) (s ∷ ss) + 1 ≡ length (s ∷ ss)
    by later true is h =
        let same : s ≡ stag = eqb-true s stag is in
        let none : is_some (live_region (after_invalidate m stag) s) ≡ false = ap (λ (n : ℕ). is_some (live_region (after_invalidate m stag) n)) same ∙ ap (λ (o : Option HeldRegion). is_some o) (live_invalidate_here m stag) in
        let one = counted (after_invalidate m stag) s ss false none in
        let rest = all_counted (after_invalidate m stag) ss (others_live m stag (s + 1) ss (omega (arith, same)) rises.1 live.1) in
        omega (arith, one, rest)
    by later false is h =
        let differs : s ≢ stag = λ same. (let wrong : true ≡ false = sym (eq-eqb s stag same) ∙ is in cc) in
        let there : is_some (live_region (after_invalidate m stag) s) ≡ true = ap (λ (o : Option HeldRegion). is_some o) (live_invalidate_other m stag s differs) ∙ live.0 in
        let one = counted (after_invalidate m stag) s ss true there in
        let rest = later h in
        omega (arith, one, rest)

-- ---- Of the calls of a client

-- an open region is one that a peer reaches
open_live : (k : ClientState) (m : RegisteredMemory) (place xid stag : ℕ) → HoldsRegions k.regions k.accesses_received place m → IsRegionOpen k.regions xid stag → is_some (live_region m stag) ≡ true
open_live k m place xid stag holds o =
    let r : Region = o.region in
    ap (λ (x : Option HeldRegion). is_some x) (holds stag ∙ ap (λ (x : Option Region). registered_region (region_grants place k.regions) k.accesses_received x) o.there)
    ∙ ap (λ (u : Option ℕ). is_some (held_if_open u (record { right = r.right; buf = contents (region_grants place k.regions) r.stag r.bytes k.accesses_received }))) o.is_open

all_open : (k : ClientState) (m : RegisteredMemory) (place xid : ℕ) (ss : List ℕ) → HoldsRegions k.regions k.accesses_received place m → AllByRecursion (λ stag. IsRegionOpen k.regions xid stag) ss → AllLive m ss
all_open k m place xid [] holds opens = tt
all_open k m place xid (s ∷ ss) holds opens = (open_live k m place xid s holds opens.0, all_open k m place xid ss holds opens.1)

all_calls : (k : ClientState) (m : RegisteredMemory) (place sent : ℕ) (cs : List StoredCall) (os : List OutstandingCall) → HoldsRegions k.regions k.accesses_received place m → AreKept k (map (kept_call sent) cs) os → AllByRecursion (OpensFor k.regions) (map (kept_call sent) cs) →
    AllByRecursion (λ (c : StoredCall). CountsAllButNamed m (stags_of c.claims)) cs
all_calls k m place sent [] os holds kept opens = tt
all_calls k m place sent (c ∷ cs) [] holds kept opens = absurd kept
all_calls k m place sent (c ∷ cs) (o ∷ os) holds kept opens =
    let ss : List ℕ = stags_of c.claims in
    let live : AllLive m ss = all_open k m place c.xid ss holds opens.0 in
    let rises : Rises o.stag ss = subst (λ (xs : List ℕ). Rises o.stag xs) (sym kept.0.stags) (unless_rises o.is_revoked o.stag o.plan) in
    ((all_counted m ss live, λ stag e. all_but_one m o.stag ss stag rises live e), all_calls k m place sent cs os holds kept.1 opens.1)

pub all_but_named : (opened : LinkParameters) (link : ℕ) (h : RequesterSide) (run : List Mark) → KeepsClient opened link h run → h.state.side.ended ≡ None → AllByRecursion (λ (c : StoredCall). CountsAllButNamed h.state.side.memory (stags_of c.claims)) h.state.outstanding
all_but_named opened link h run s lives =
    let is_live : (client opened link run).ended ≡ None = sym s.kept.keeps.ended ∙ lives in
    let calls = s.kept.keeps.calls is_live in
    let memory = s.kept.keeps.memory is_live in
    all_calls (client opened link run).state h.state.side.memory _ h.state.sent h.state.outstanding (numbered_calls (client opened link run).state) memory.holds calls.kept calls.opens

pub named_is_not_counted : NamedRegionIsNotCounted
named_is_not_counted opened link h run s lives = all_but_named opened link h run s.keeps lives
