-- A region of a server is closed as soon as nothing is left to be read for it, and not before.
use Rattle.std.proofs.Common.{◌≡◌, ℕ, zero, suc, ◌+◌, ◌<◌, Bool, true, false, cond, not, ◌&&◌, ◌||◌, eqb, List, [], ◌∷◌, ◌++◌, length, Option, None, Some, refl, sym, ap, subst, ◌∙◌, arith, append_assoc, append-nil, inl, inr, ◌⊎◌, eq-eqb, eqb-true}
use Rattle.std.proofs.lemmas.Bool.{and_parts}
use Rattle.std.specs.Prelude.{Contains, slice_index_or}
use Rattle.std.specs.List.{filter, list_any, AllByRecursion}
use Rattle.nr_wire.specs.declared.hello.Side.TheVariants.{Responder}
use Rattle.nr_link.specs.Frames.{is_hello}
use Rattle.nr_reduce.specs.declared.mark.Mark.{Mark}
use Rattle.nr_reduce.specs.declared.mark.LinkParameters.{LinkParameters}
use Rattle.nr_reduce.specs.Events.{RunEvent, events}
use Rattle.nr_reduce.specs.Events.RunEvent.{FrameReceived, CallSubmitted, MemoryRevoked, CallExecuted, QueueWritten, ServerTold}
use Rattle.nr_reduce.specs.EndRules.{EndState, next_end_state, end_state_after}
use Rattle.nr_reduce.specs.History.{ExecutedCall}
use Rattle.nr_reduce.specs.OfferedRegions.{Region, until_at, closed_if, regions_closed}
use Rattle.nr_reduce.specs.ServerState.{ServerState, PendingCall, PendingRead, ReadyCall, credit_told}
use Rattle.nr_reduce.specs.ServerReads.{is_read, is_read_at, is_over}
use Rattle.nr_reduce.specs.ServerFrames.{frame_effect}
use Rattle.nr_reduce.specs.Server.{server_rules, server_state_after, initial_server, with_effect, with_own_hello}
use Rattle.nr_reduce.specs.RunLaws.{server_by}
use Rattle.nr_reduce.specs.Served.{ServedSoFar}
use Rattle.nr_reduce.proofs.Steps.{end_state_after_append}
use Rattle.nr_laws.specs.Typed.{IsTyped}
use Rattle.nr_laws.proofs.LinkInvariants.{IsUnused, AreDistinct, AreWhole, PendingAgree}
use Rattle.nr_laws.specs.ServerRegions.{IsPendingNumber, HasReadLeft, LiveServerRegionsAreRead}
use Rattle.nr_laws.proofs.EventOutputs.{GoesOn, later_preserve, places_after}
use Rattle.nr_laws.proofs.DistinctKeys.{or_right_lem}
use Rattle.nr_laws.proofs.KeptAtServer.{KeptAtServer, kept_at_server}
use Rattle.nr_laws.proofs.Basics.{each_all}
use Rattle.nr_laws.proofs.SendRegions.{counts_or_not, region_of_list}
use Rattle.nr_laws.proofs.ServerAlong.{ServerPlain}
use Rattle.nr_laws.proofs.ServerSide.{server_goes}

-- ---- A test that some element passes

pub record SomeOne {X : Type 0} (p : X → Bool) (xs : List X) : Type 0 where
  pub one : X
  pub there : Contains xs one
  pub passes : p one ≡ true

pub some_one : {X : Type 0} (p : X → Bool) (xs : List X) → list_any p xs ≡ true → SomeOne p xs
some_one p [] e = absurd (let wrong : false ≡ true = e in cc)
some_one p (x ∷ xs) e = by (p x) refl e (some_one p xs)
  where
    by : (b : Bool) → p x ≡ b → (b || list_any p xs) ≡ true → (list_any p xs ≡ true → SomeOne p xs) → SomeOne p (x ∷ xs)
    by true is e later = record { one = x; there = (zero, omega (arith), refl); passes = is }
    by false is e later = (let s = later e in record { one = s.one; there = (suc s.there.0, (let lt = s.there.1 in omega (arith, lt)), s.there.2); passes = s.passes })

pub passes_any : {X : Type 0} (p : X → Bool) (xs : List X) (x : X) → Contains xs x → p x ≡ true → list_any p xs ≡ true
passes_any p xs x there passes = at there.0 xs there.1 there.2
  where
    at : (k : ℕ) (ys : List _) → k < length ys → slice_index_or ys k x ≡ x → list_any p ys ≡ true
    at k [] lt is = absurd (omega (arith, lt))
    at zero (y ∷ ys) lt is = ap (λ (b : Bool). b || list_any p ys) (ap p is ∙ passes)
    at (suc k) (y ∷ ys) lt is = or_right_lem (p y) (list_any p ys) (at k ys (omega (arith, lt)) is)

-- ---- Whether a region is over, in plain words

pub left_to_read : (k : ServerState) (r : Region) → is_over k.calls k.reads r ≡ false → HasReadLeft k r
left_to_read k r e = by (list_any (λ (c : PendingCall). eqb c.number r.call) k.calls) refl e
  where
    some : (b : Bool) → not b ≡ false → b ≡ true
    some true e = refl
    some false e = absurd (let wrong : true ≡ false = e in cc)

    by : (b : Bool) → list_any (λ (c : PendingCall). eqb c.number r.call) k.calls ≡ b → cond b (is_read k.reads r.call) (is_read_at k.reads r.call r.position) ≡ false → HasReadLeft k r
    by true is e =
        let c = some_one (λ (c : PendingCall). eqb c.number r.call) k.calls is in
        let x = some_one (λ (x : PendingRead). eqb x.number r.call) k.reads (some _ e) in
        record { read = x.one; is_left = x.there; own = eqb-true x.one.number r.call x.passes; of_chunk = inl (record { call = c.one; there = c.there; own = eqb-true c.one.number r.call c.passes }) }
    by false is e =
        let x = some_one (λ (x : PendingRead). eqb x.number r.call && eqb x.position r.position) k.reads (some _ e) in
        let both = and_parts (eqb x.one.number r.call) (eqb x.one.position r.position) x.passes in
        record { read = x.one; is_left = x.there; own = eqb-true x.one.number r.call both.0; of_chunk = inr (eqb-true x.one.position r.position both.1) }

pub none_left_lem : (k : ServerState) (r : Region) → is_over k.calls k.reads r ≡ true → HasReadLeft k r → ⊥
none_left_lem k r e h = by (list_any (λ (c : PendingCall). eqb c.number r.call) k.calls) refl e
  where
    none : (b : Bool) → b ≡ true → not b ≡ true → ⊥
    none true is e = (let wrong : false ≡ true = e in cc)
    none false is e = (let wrong : false ≡ true = is in cc)

    own : eqb h.read.number r.call ≡ true
    own = eq-eqb h.read.number r.call h.own

    at : IsPendingNumber k r.call ⊎ (h.read.position ≡ r.position) → list_any (λ (c : PendingCall). eqb c.number r.call) k.calls ≡ false → eqb h.read.position r.position ≡ true
    at (inl c) is = absurd (let wrong : false ≡ true = sym is ∙ passes_any (λ (c : PendingCall). eqb c.number r.call) k.calls c.call c.there (eq-eqb c.call.number r.call c.own) in cc)
    at (inr same) is = eq-eqb h.read.position r.position same

    by : (b : Bool) → list_any (λ (c : PendingCall). eqb c.number r.call) k.calls ≡ b → cond b (is_read k.reads r.call) (is_read_at k.reads r.call r.position) ≡ true → ⊥
    by true is e = none _ (passes_any (λ (x : PendingRead). eqb x.number r.call) k.reads h.read h.is_left own) e
    by false is e = none _ (passes_any (λ (x : PendingRead). eqb x.number r.call && eqb x.position r.position) k.reads h.read h.is_left ((λ i. own i && at h.of_chunk is i))) e

-- ---- A call that is executed has nothing left to be read

abbrev IsLive : ServerState → Region → Type 0
IsLive k r = r.until ≡ None → HasReadLeft k r

-- a call with another xid stays pending
stays_in : (xid : ℕ) (calls : List PendingCall) (c : PendingCall) → Contains calls c → eqb c.xid xid ≡ false → Contains (filter (λ (d : PendingCall). not (eqb d.xid xid)) calls) c
stays_in xid calls c there other = at there.0 calls there.1 there.2
  where
    more : (b : Bool) (d : PendingCall) (left : List PendingCall) → Contains left c → Contains (cond (not b) (d ∷ left) left) c
    more true d left h = h
    more false d left h = (suc h.0, (let lt = h.1 in omega (arith, lt)), h.2)

    at : (k : ℕ) (ds : List PendingCall) → k < length ds → slice_index_or ds k c ≡ c → Contains (filter (λ (d : PendingCall). not (eqb d.xid xid)) ds) c
    at k [] lt is = absurd (omega (arith, lt))
    at zero (d ∷ ds) lt is =
        subst (λ (b : Bool). Contains (cond (not b) (d ∷ filter (λ (x : PendingCall). not (eqb x.xid xid)) ds) (filter (λ (x : PendingCall). not (eqb x.xid xid)) ds)) c) (sym (ap (λ (x : PendingCall). eqb x.xid xid) is ∙ other))
        (zero, omega (arith), is)
    at (suc k) (d ∷ ds) lt is = more (eqb d.xid xid) d (filter (λ (x : PendingCall). not (eqb x.xid xid)) ds) (at k ds (omega (arith, lt)) is)

same_number_lem : (calls : List PendingCall) (c d : PendingCall) → AreDistinct (λ (x : PendingCall). x.xid) calls → Contains calls c → Contains calls d → c.xid ≡ d.xid → c.number ≡ d.number
same_number_lem calls c d apart one two same = at one.0 two.0 calls apart one.1 one.2 two.1 two.2
  where
    unused : (n j : ℕ) (xs : List PendingCall) (x : PendingCall) → IsUnused (λ (y : PendingCall). y.xid) n xs → j < length xs → slice_index_or xs j x ≡ x → x.xid ≡ n → ⊥
    unused n j [] x h lt is e = omega (arith, lt)
    unused n zero (y ∷ xs) x h lt is e = h.0 (ap (λ (z : PendingCall). z.xid) is ∙ e)
    unused n (suc j) (y ∷ xs) x h lt is e = unused n j xs x h.1 (omega (arith, lt)) is e

    at : (i j : ℕ) (xs : List PendingCall) → AreDistinct (λ (x : PendingCall). x.xid) xs → i < length xs → slice_index_or xs i c ≡ c → j < length xs → slice_index_or xs j d ≡ d → c.number ≡ d.number
    at i j [] apart lt is ltj isj = absurd (omega (arith, lt))
    at zero zero (y ∷ xs) apart lt is ltj isj = ap (λ (z : PendingCall). z.number) (sym is ∙ isj)
    at zero (suc j) (y ∷ xs) apart lt is ltj isj = absurd (unused y.xid j xs d apart.0 (omega (arith, ltj)) isj (sym same ∙ sym (ap (λ (z : PendingCall). z.xid) is)))
    at (suc i) zero (y ∷ xs) apart lt is ltj isj = absurd (unused y.xid i xs c apart.0 (omega (arith, lt)) is (same ∙ sym (ap (λ (z : PendingCall). z.xid) isj)))
    at (suc i) (suc j) (y ∷ xs) apart lt is ltj isj = at i j xs apart.1 (omega (arith, lt)) is (omega (arith, ltj)) isj

-- the pending call of this xid is complete
is_whole_lem : (k : ServerState) (xid : ℕ) (x : ReadyCall) (rest : List ReadyCall) → PendingAgree k → k.ready ≡ x ∷ rest → xid ≡ x.xid → (c : PendingCall) → Contains k.calls c → c.xid ≡ xid → (read : PendingRead) → Contains k.reads read → read.number ≡ c.number → ⊥
is_whole_lem k xid x rest agree first is c there own read left of_call =
    let w : AreWhole k.reads k.calls (x ∷ rest) = subst (λ (xs : List ReadyCall). AreWhole k.reads k.calls xs) first agree.whole_calls in
    let d = some_one (λ (c : PendingCall). eqb c.number x.number && eqb c.xid x.xid) k.calls w.0 in
    let both = and_parts (eqb d.one.number x.number) (eqb d.one.xid x.xid) d.passes in
    let same : c.number ≡ d.one.number = same_number_lem k.calls c d.one agree.xids there d.there (own ∙ is ∙ sym (eqb-true d.one.xid x.xid both.1)) in
    none (is_read_of x.number) w.1 (passes_any (λ (r : PendingRead). eqb r.number x.number) k.reads read left (eq-eqb read.number x.number (of_call ∙ same ∙ eqb-true d.one.number x.number both.0)))
  where
    is_read_of : ℕ → Bool
    is_read_of n = list_any (λ (r : PendingRead). eqb r.number n) k.reads

    none : (b : Bool) → not b ≡ true → b ≡ true → ⊥
    none true e is = (let wrong : false ≡ true = e in cc)
    none false e is = (let wrong : false ≡ true = is in cc)

executed_left : (opened : LinkParameters) (k : ServerState) (e : ExecutedCall) (x : ReadyCall) (rest : List ReadyCall) → PendingAgree k → k.ready ≡ x ∷ rest → e.xid ≡ x.xid → (r : Region) → HasReadLeft k r → HasReadLeft (server_state_after opened k (CallExecuted e)) r
unfolding server_state_after
executed_left opened k e x rest agree first own r h = record { read = h.read; is_left = h.is_left; own = h.own; of_chunk = by h.of_chunk }
  where
    left : List PendingCall
    left = filter (λ (c : PendingCall). not (eqb c.xid e.xid)) k.calls

    by_xid : (c : PendingCall) → Contains k.calls c → c.number ≡ r.call → (b : Bool) → eqb c.xid e.xid ≡ b → Contains left c
    by_xid c there number true is = absurd (is_whole_lem k e.xid x rest agree first own c there (eqb-true c.xid e.xid is) h.read h.is_left (h.own ∙ sym number))
    by_xid c there number false is = stays_in e.xid k.calls c there is

    by : IsPendingNumber k r.call ⊎ (h.read.position ≡ r.position) → IsPendingNumber (server_state_after opened k (CallExecuted e)) r.call ⊎ (h.read.position ≡ r.position)
    by (inl c) = inl (record { call = c.call; there = by_xid c.call c.there c.own (eqb c.call.xid e.xid) refl; own = c.own })
    by (inr same) = inr same

-- ---- Each event

closed_live : (k : ServerState) (place : ℕ) (xs : List Region) → AllByRecursion (IsLive k) (regions_closed (is_over k.calls k.reads) place xs)
unfolding regions_closed
closed_live k place [] = tt
closed_live k place (x ∷ xs) = (by (is_over k.calls k.reads x) refl, closed_live k place xs)
  where
    some : (u : Option ℕ) → until_at place u ≡ None → ⊥
    some None e = (let t : Some place ≡ None = e in cc)
    some (Some u) e = (let t : Some u ≡ None = e in cc)

    by : (b : Bool) → is_over k.calls k.reads x ≡ b → IsLive k (closed_if b place x)
    by true is none = absurd (some x.until none)
    by false is none = left_to_read k x is

abbrev AllLive : ServerState → Type 0
AllLive k = AllByRecursion (IsLive k) k.regions

-- the calls and the reads are the same
left_of_same : (k t : ServerState) (r : Region) → t.calls ≡ k.calls → t.reads ≡ k.reads → HasReadLeft k r → HasReadLeft t r
left_of_same k t r calls reads h = record { read = h.read; is_left = subst (λ (rs : List PendingRead). Contains rs h.read) (sym reads) h.is_left; own = h.own; of_chunk = by h.of_chunk }
  where
    by : IsPendingNumber k r.call ⊎ (h.read.position ≡ r.position) → IsPendingNumber t r.call ⊎ (h.read.position ≡ r.position)
    by (inl c) = inl (record { call = c.call; there = subst (λ (cs : List PendingCall). Contains cs c.call) (sym calls) c.there; own = c.own })
    by (inr same) = inr same

live_event : (opened : LinkParameters) (s : EndState ServerState) (e : RunEvent) → PendingAgree s.state → ServerPlain s e → AllLive s.state → AllLive (server_state_after opened s.state e)
unfolding server_state_after
live_event opened s (FrameReceived f) agree good h = by (is_hello f)
  where
    k : ServerState
    k = s.state

    by : (b : Bool) → AllLive (cond b (with_own_hello opened k f) (with_effect k f (frame_effect k f)))
    by true = each_all (IsLive k) (IsLive (with_own_hello opened k f)) k.regions (λ r live none. left_of_same k (with_own_hello opened k f) r refl refl (live none)) h
    by false = closed_live (with_effect k f (frame_effect k f)) f.end (frame_effect k f).regions
live_event opened s (CallSubmitted place a) agree good h = h
live_event opened s (MemoryRevoked place xid) agree good h = h
live_event opened s (CallExecuted e) agree good h =
    each_all (IsLive s.state) (IsLive (server_state_after opened s.state (CallExecuted e))) s.state.regions (λ r live none. executed_left opened s.state e good.call good.others agree good.is_next good.xid r (live none)) h
live_event opened s (QueueWritten taken) agree good h = each_all (IsLive s.state) (IsLive (server_state_after opened s.state (QueueWritten taken))) s.state.regions (λ r live none. left_of_same s.state (record s.state { written = s.state.written + taken }) r refl refl (live none)) h
live_event opened s (ServerTold what) agree good h = each_all (IsLive s.state) (IsLive (server_state_after opened s.state (ServerTold what))) s.state.regions (λ r live none. left_of_same s.state (record s.state { credit = credit_told s.state.credit what }) r refl refl (live none)) h

-- ---- A run

module _ (opened : LinkParameters) (link : ℕ) (run : List Mark) (typed : IsTyped run) (served : ServedSoFar opened link run) where
  live_along : (front es more : List RunEvent) → events link Responder run ≡ front ++ (es ++ more) → AllLive (server_by opened front) → AllLive (server_by opened (front ++ es))
  live_along front [] more is h = subst (λ (xs : List RunEvent). AllLive (server_by opened xs)) (sym (append-nil front)) h
  live_along front (e ∷ es) more is h =
      let s : EndState ServerState = end_state_after (server_rules opened) (initial_server opened) front in
      let kept : KeptAtServer s.state = kept_at_server opened link run typed served front (e ∷ (es ++ more)) is in
      let goes : GoesOn (server_rules opened) ServerPlain (places_after 0 front) s (e ∷ (es ++ more)) =
      later_preserve (server_rules opened) ServerPlain 0 (initial_server opened) front (e ∷ (es ++ more)) (subst (λ (xs : List RunEvent). GoesOn (server_rules opened) ServerPlain 0 (initial_server opened) xs) is (server_goes opened link run typed served).goes) in
      let one : AllLive (next_end_state (server_rules opened) s e).state = counts_or_not opened AllLive s e h (λ stays. live_event opened s e kept.agree goes.1 h) in
      let next : AllLive (server_by opened (front ++ e ∷ [])) = subst (λ (r : EndState ServerState). AllLive r.state) (sym (end_state_after_append (server_rules opened) (initial_server opened) front (e ∷ []))) one in
      subst (λ (xs : List RunEvent). AllLive (server_by opened xs)) (append_assoc front (e ∷ []) es) (live_along (front ++ e ∷ []) es more (is ∙ sym (append_assoc front (e ∷ []) (es ++ more))) next)

live_nothing : (opened : LinkParameters) → AllLive (server_by opened [])
live_nothing opened = tt

pub live_server_regions_are_read : LiveServerRegionsAreRead
live_server_regions_are_read opened link run earlier later r typed served is there none =
    region_of_list (IsLive (server_by opened earlier)) _ r (live_along opened link run typed served [] earlier later is (live_nothing opened)) there none
