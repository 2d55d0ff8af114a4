-- The regions of a call are released one after the other: those of other calls stay held, and hold what they held.
use Rattle.std.proofs.Common.{◌≡◌, ℕ, ◌+◌, ◌<◌, ◌≤◌, List, [], ◌∷◌, ◌++◌, map, Option, None, Some, refl, sym, ap, ◌∙◌, arith, append-nil, append_assoc}
use Rattle.std.specs.Prelude.{IfSome, ◌≢◌}
use Rattle.std.specs.List.{flat_map}
use Rattle.nr_regions.specs.RegisteredMemory.{RegisteredMemory, Claim, Region, IsHeld, bytes_in, after_release, AreHeldFrom}
use Rattle.nr_regions.proofs.Holding.{release_other}
use Rattle.nr_endpoint.specs.declared.offering.Claims.{Claims}
use Rattle.nr_reduce.specs.KeptClient.{bytes_under, released_all}
use Rattle.nr_requester.specs.RequesterState.{stag_of, stags_of}
use Rattle.nr_requester.specs.HeldClaims.{claim_list, call_claims}
use Rattle.nr_requester.specs.AfterPiece.{buffer_under, buffers_under}
use Rattle.nr_requester.specs.Buffers.{buffer_bytes, bytes_of_buffers}

-- ---- One region is released

release_next : (m : RegisteredMemory) (s : ℕ) → (after_release m s).next ≡ m.next
unfolding after_release
release_next m s = refl

still_held : (m : RegisteredMemory) (s : ℕ) (c : Claim) → c.stag ≢ s → IsHeld m c → IsHeld (after_release m s) c
still_held m s c ne h = record { region = h.region; there = release_other m s c.stag ne ∙ h.there; len = h.len; given = (let g = h.given in let n = release_next m s in omega (arith, g, n)) }

pub bytes_still : (m : RegisteredMemory) (s q : ℕ) → q ≢ s → bytes_under (after_release m s) q ≡ bytes_under m q
bytes_still m s q ne = ap (λ (r : Option Region). bytes_in r) (release_other m s q ne)

pub from_lower : (m : RegisteredMemory) (low lower : ℕ) (cs : List Claim) → lower ≤ low → AreHeldFrom m low cs → AreHeldFrom m lower cs
from_lower m low lower [] le h = omega (arith, le, h)
from_lower m low lower (c ∷ cs) le h = ((let at = h.0 in omega (arith, le, at)), h.1)

-- the region under an STag below these is released
held_above : (m : RegisteredMemory) (low s : ℕ) (cs : List Claim) → s < low → AreHeldFrom m low cs → AreHeldFrom (after_release m s) low cs
held_above m low s [] lt h = (let n = release_next m s in omega (arith, n, h))
held_above m low s (c ∷ cs) lt h = (h.0, (still_held m s c (λ e. (let at = h.0 in omega (arith, lt, at, e))) h.1.0, held_above m (c.stag + 1) s cs (let at = h.0 in omega (arith, lt, at)) h.1.1))

at_least : (m : RegisteredMemory) (low : ℕ) (xs : List Claim) (c : Claim) (zs : List Claim) → AreHeldFrom m low (xs ++ c ∷ zs) → low ≤ c.stag
at_least m low [] c zs h = h.0
at_least m low (x ∷ xs) c zs h = (let more = at_least m (x.stag + 1) xs c zs h.1.1 in let at = h.0 in omega (arith, more, at))

pub one_released : (m : RegisteredMemory) (low : ℕ) (xs : List Claim) (c : Claim) (zs : List Claim) → AreHeldFrom m low (xs ++ c ∷ zs) → AreHeldFrom (after_release m c.stag) low (xs ++ zs)
one_released m low [] c zs h = from_lower (after_release m c.stag) (c.stag + 1) low zs (let at = h.0 in omega (arith, at)) (held_above m (c.stag + 1) c.stag zs (omega arith) h.1.1)
one_released m low (x ∷ xs) c zs h =
    (h.0, (still_held m c.stag x (λ e. (let more = at_least m (x.stag + 1) xs c zs h.1.1 in omega (arith, more, e))) h.1.0, one_released m (x.stag + 1) xs c zs h.1.1))

-- those after some others, and those before some others
held_later : (m : RegisteredMemory) (low : ℕ) (xs ys : List Claim) → AreHeldFrom m low (xs ++ ys) → AreHeldFrom m low ys
held_later m low [] ys h = h
held_later m low (x ∷ xs) ys h = from_lower m (x.stag + 1) low ys (let at = h.0 in omega (arith, at)) (held_later m (x.stag + 1) xs ys h.1.1)

next_above : (m : RegisteredMemory) (low : ℕ) (ys : List Claim) → AreHeldFrom m low ys → low ≤ m.next
next_above m low [] h = h
next_above m low (y ∷ ys) h = (let more = next_above m (y.stag + 1) ys h.1.1 in let at = h.0 in omega (arith, more, at))

held_first : (m : RegisteredMemory) (low : ℕ) (xs ys : List Claim) → AreHeldFrom m low (xs ++ ys) → AreHeldFrom m low xs
held_first m low [] ys h = next_above m low ys h
held_first m low (x ∷ xs) ys h = (h.0, (h.1.0, held_first m (x.stag + 1) xs ys h.1.1))

pub held_middle : (m : RegisteredMemory) (low : ℕ) (xs ys zs : List Claim) → AreHeldFrom m low (xs ++ (ys ++ zs)) → AreHeldFrom m low ys
held_middle m low xs ys zs h = held_first m low ys zs (held_later m low xs (ys ++ zs) h)

-- ---- Several

abbrev claim_stags : List Claim → List ℕ
claim_stags cs = map (λ (c : Claim). c.stag) cs

-- the regions in the middle are released
pub all_released : (m : RegisteredMemory) (low : ℕ) (xs ys zs : List Claim) → AreHeldFrom m low (xs ++ (ys ++ zs)) → AreHeldFrom (released_all m (claim_stags ys)) low (xs ++ zs)
all_released m low xs [] zs h = h
all_released m low xs (y ∷ ys) zs h = all_released (after_release m y.stag) low xs ys zs (one_released m low xs y (ys ++ zs) h)

-- and those before and after hold what they held
one_bytes : (m : RegisteredMemory) (low : ℕ) (c : Claim) (cs : List Claim) (s : ℕ) → AreHeldFrom m low (c ∷ cs) → c.stag < s → bytes_under (after_release m c.stag) s ≡ bytes_under m s
one_bytes m low c cs s h lt = bytes_still m c.stag s (λ e. (let same = e in omega (arith, lt, same)))

-- ---- The regions of a call

pub stags_are_of : (c : Claims) → claim_stags (call_claims c) ≡ stags_of c
stags_are_of c = by c.read c.write c.reply
  where
    by : (r w p : Option Claim) → map (λ (x : Claim). x.stag) (claim_list r ++ (claim_list w ++ claim_list p)) ≡ stag_of r ++ (stag_of w ++ stag_of p)
    by None None None = refl
    by None None (Some p) = refl
    by None (Some w) None = refl
    by None (Some w) (Some p) = refl
    by (Some r) None None = refl
    by (Some r) None (Some p) = refl
    by (Some r) (Some w) None = refl
    by (Some r) (Some w) (Some p) = refl

pub first_held : (m : RegisteredMemory) (low : ℕ) (a : Option Claim) (cs : List Claim) → AreHeldFrom m low (claim_list a ++ cs) → IfSome a (IsHeld m)
first_held m low None cs h = tt
first_held m low (Some c) cs h = h.1.0

pub rest_held : (m : RegisteredMemory) (low : ℕ) (a : Option Claim) (cs : List Claim) → AreHeldFrom m low (claim_list a ++ cs) → AreHeldFrom (released_all m (stag_of a)) low cs
rest_held m low None cs h = h
rest_held m low (Some c) cs h = one_released m low [] c cs h

pub held_one : (m : RegisteredMemory) (low : ℕ) (a : Option Claim) → AreHeldFrom m low (claim_list a) → IfSome a (IsHeld m)
held_one m low None h = tt
held_one m low (Some c) h = h.1.0

-- a region of the call that is released later holds what it held
later_bytes : (m : RegisteredMemory) (low : ℕ) (a : Claim) (cs : List Claim) (b : Claim) (ds : List Claim) → AreHeldFrom m low (a ∷ (cs ++ b ∷ ds)) → buffer_under (after_release m a.stag) (Some b) ≡ buffer_under m (Some b)
later_bytes m low a cs b ds h =
    ap (λ (x : List ℕ). Some x) (bytes_still m a.stag b.stag (λ e. (let more = at_least m (a.stag + 1) cs b ds h.1.1 in let same = e in omega (arith, more, same))))

pub buffers_still : (m : RegisteredMemory) (low : ℕ) (c : Claims) → AreHeldFrom m low (call_claims c) →
    (buffer_under (released_all m (stag_of c.read)) c.write ≡ buffer_under m c.write) × (buffer_under (released_all (released_all m (stag_of c.read)) (stag_of c.write)) c.reply ≡ buffer_under m c.reply)
buffers_still m low c h = by c.read c.write c.reply h
  where
    by : (r w p : Option Claim) → AreHeldFrom m low (claim_list r ++ (claim_list w ++ claim_list p)) →
        (buffer_under (released_all m (stag_of r)) w ≡ buffer_under m w) × (buffer_under (released_all (released_all m (stag_of r)) (stag_of w)) p ≡ buffer_under m p)
    by None None p h = (refl, refl)
    by None (Some w) None h = (refl, refl)
    by None (Some w) (Some p) h = (refl, later_bytes m low w [] p [] h)
    by (Some r) None None h = (refl, refl)
    by (Some r) None (Some p) h = (refl, later_bytes m low r [] p [] h)
    by (Some r) (Some w) None h = (later_bytes m low r [] w [] h, refl)
    by (Some r) (Some w) (Some p) h = (
      later_bytes m low r [] w (p ∷ []) h,
      later_bytes (after_release m r.stag) low w [] p [] (one_released m low [] r (w ∷ p ∷ []) h) ∙ later_bytes m low r (w ∷ []) p [] h,
    )

pub released_front : (m : RegisteredMemory) (a : Option Claim) (stags : List ℕ) → released_all m (stag_of a ++ stags) ≡ released_all (released_all m (stag_of a)) stags
released_front m None stags = refl
released_front m (Some a) stags = refl

pub released_claims : (m : RegisteredMemory) (c : Claims) → released_all m (stags_of c) ≡ released_all (released_all (released_all m (stag_of c.read)) (stag_of c.write)) (stag_of c.reply)
released_claims m c = released_front m c.read (stag_of c.write ++ stag_of c.reply) ∙ released_front (released_all m (stag_of c.read)) c.write (stag_of c.reply)

-- ---- What they hold, one after the other

joined_buffer : (m : RegisteredMemory) (a : Option Claim) → buffer_bytes (buffer_under m a) ≡ flat_map (bytes_under m) (stag_of a)
joined_buffer m None = refl
joined_buffer m (Some a) = sym (append-nil (bytes_under m a.stag))

flat_both : (f : ℕ → List ℕ) (xs ys : List ℕ) → flat_map f (xs ++ ys) ≡ flat_map f xs ++ flat_map f ys
flat_both f [] ys = refl
flat_both f (x ∷ xs) ys = ap (λ (bytes : List ℕ). f x ++ bytes) (flat_both f xs ys) ∙ sym (append_assoc (f x) (flat_map f xs) (flat_map f ys))

pub joined_buffers : (m : RegisteredMemory) (c : Claims) → bytes_of_buffers (buffers_under m c) ≡ flat_map (bytes_under m) (stags_of c)
joined_buffers m c =
    (λ i. joined_buffer m c.read i ++ (joined_buffer m c.write i ++ joined_buffer m c.reply i))
    ∙ ap (λ (bytes : List ℕ). flat_map (bytes_under m) (stag_of c.read) ++ bytes) (sym (flat_both (bytes_under m) (stag_of c.write) (stag_of c.reply)))
    ∙ sym (flat_both (bytes_under m) (stag_of c.read) (stag_of c.write ++ stag_of c.reply))
