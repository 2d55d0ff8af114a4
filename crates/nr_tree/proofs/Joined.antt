-- Blocks that come and go keep an order's blocks few.
use Rattle.std.proofs.Common.{◌≡◌, ℕ, zero, suc, ◌+◌, ◌*◌, ◌-◌, ◌<◌, ◌≤◌, List, [], ◌∷◌, ◌++◌, length, drop, get_or, set, remove, Some, Result, Ok, Err, OnOk, OnErr, ◌⊎◌, inl, inr, refl, ap, sym, ◌∙◌, subst, arith, length-append}
use Rattle.std.proofs.lemmas.List.{length-set, append_assoc}
use Rattle.std.proofs.lemmas.Option.{get_or_from_slice_get}
use Rattle.std.specs.Prelude.{slice_get}
use Rattle.std.specs.List.{concat}
use Rattle.nr_tree.specs.private.Blocks.{IndexBlock, no_block, lists, IsIn, block_max, joined_max, IsFilled, IsApart, AreApart, AreRoomy, AreJoined, IsTaken, IsAround, IsAfter, IsJoined, HasRoomLast, IsFullLast}
use Rattle.nr_tree.proofs.Blocks.{drop_empty, get_in, in_block, in_offset, push_block, push_last, remove_in, set_in}

-- ===== the lists of blocks

pub lists_long : (bs : List IndexBlock) → length (lists bs) ≡ length bs
lists_long [] = refl
lists_long (b ∷ bs) = ap suc (lists_long bs)

pub list_at : (bs : List IndexBlock) (i : ℕ) → get_or (lists bs) i [] ≡ (get_or bs i no_block).indexes
list_at [] i = refl
list_at (b ∷ bs) zero = refl
list_at (b ∷ bs) (suc i) = list_at bs i

pub lists_set : (bs : List IndexBlock) (i : ℕ) (b : IndexBlock) → lists (set bs i b) ≡ set (lists bs) i b.indexes
lists_set [] i b = refl
lists_set (a ∷ bs) zero b = refl
lists_set (a ∷ bs) (suc i) b = ap (λ (l : List (List ℕ)). a.indexes ∷ l) (lists_set bs i b)

pub lists_remove : (bs : List IndexBlock) (i : ℕ) → lists (remove bs i) ≡ remove (lists bs) i
lists_remove [] zero = refl
lists_remove [] (suc i) = refl
lists_remove (b ∷ bs) zero = refl
lists_remove (b ∷ bs) (suc i) = ap (λ (l : List (List ℕ)). b.indexes ∷ l) (lists_remove bs i)

pub lists_append : (bs cs : List IndexBlock) → lists (bs ++ cs) ≡ lists bs ++ lists cs
lists_append [] cs = refl
lists_append (b ∷ bs) cs = ap (λ (l : List (List ℕ)). b.indexes ∷ l) (lists_append bs cs)

-- the block that an index gives
pub block_at : (bs : List IndexBlock) (i : ℕ) (b : IndexBlock) → i < length bs → b ≡ get_or bs i b → get_or bs i no_block ≡ b
block_at [] i b lt at = absurd (omega (arith, lt))
block_at (a ∷ bs) zero b lt at = sym at
block_at (a ∷ bs) (suc i) b lt at = block_at bs i b (omega (arith, lt)) at

-- ===== an index of a block is another one

fewer_indexes : (xs : List ℕ) (i : ℕ) → length (remove xs i) ≤ length xs
fewer_indexes [] zero = omega arith
fewer_indexes [] (suc i) = omega arith
fewer_indexes (x ∷ xs) zero = omega arith
fewer_indexes (x ∷ xs) (suc i) = omega (arith, fewer_indexes xs i)

few_at : (bs : List IndexBlock) (i : ℕ) → i < length bs → AreApart bs → length (get_or bs i no_block).indexes ≤ block_max
few_at [] i lt h = absurd (omega (arith, lt))
few_at (b ∷ bs) zero lt h = h.0.1
few_at (b ∷ bs) (suc i) lt h = few_at bs i (omega (arith, lt)) h.2

apart_set : (bs : List IndexBlock) (i : ℕ) (d : IndexBlock) → i < length bs → length d.indexes ≡ length (get_or bs i no_block).indexes → AreApart bs → AreApart (set bs i d)
apart_set [] i d lt same h = tt
apart_set (b ∷ bs) zero d lt same h = ((omega (arith, same, h.0.0), omega (arith, same, h.0.1)), by bs h.1, h.2) where
  by : (cs : List IndexBlock) → IsApart b cs → IsApart d cs
  by [] p = tt
  by (c ∷ cs) p = omega (arith, same, p)
apart_set (b ∷ bs) (suc i) d lt same h = (h.0, by bs i same h.1, apart_set bs i d (omega (arith, lt)) same h.2) where
  by : (cs : List IndexBlock) (k : ℕ) → length d.indexes ≡ length (get_or cs k no_block).indexes → IsApart b cs → IsApart b (set cs k d)
  by [] k e p = tt
  by (c ∷ cs) zero e p = omega (arith, e, p)
  by (c ∷ cs) (suc k) e p = p

-- ===== an index is taken out of a block

pub taken : (bs : List IndexBlock) (i : ℕ) (b : IndexBlock) → AreApart bs → length b.indexes ≤ block_max → IsTaken i (set bs i b)
taken [] i b h le = tt
taken (a ∷ bs) zero b h le = (le, h.2)
taken (a ∷ bs) (suc i) b h le = (h.0, λ some. same bs i some h.1, taken bs i b h.2 le) where
  same : (cs : List IndexBlock) (k : ℕ) → 0 < k → IsApart a cs → IsApart a (set cs k b)
  same [] k some p = tt
  same (c ∷ cs) zero some p = absurd (omega (arith, some))
  same (c ∷ cs) (suc k) some p = p

pub emptied : (bs : List IndexBlock) (i : ℕ) → IsTaken i bs → IsAround i (remove bs i)
emptied [] zero h = tt
emptied [] (suc i) h = tt
emptied (b ∷ []) zero h = tt
emptied (b ∷ c ∷ bs) zero h = (h.1.0, h.1.2)
emptied (b ∷ bs) (suc i) h = (h.0, λ some. same bs i some (h.1 some), emptied bs i h.2) where
  same : (cs : List IndexBlock) (k : ℕ) → 0 < k → IsApart b cs → IsApart b (remove cs k)
  same [] zero some p = tt
  same [] (suc k) some p = tt
  same (c ∷ cs) zero some p = absurd (omega (arith, some))
  same (c ∷ cs) (suc k) some p = p

pub not_emptied : (bs : List IndexBlock) (i : ℕ) → i < length bs → 0 < length (get_or bs i no_block).indexes → IsTaken i bs → IsAround i bs
not_emptied [] i lt some h = tt
not_emptied (b ∷ bs) zero lt some h = ((some, h.0), h.1)
not_emptied (b ∷ bs) (suc i) lt some h = (h.0, h.1, not_emptied bs i (omega (arith, lt)) some h.2)

-- ===== two blocks that aren't small

abbrev Large : List IndexBlock → ℕ → Type 0
Large bs i = suc i < length bs → joined_max < length (get_or bs i no_block).indexes + length (get_or bs (suc i) no_block).indexes

large_next : (b : IndexBlock) (bs : List IndexBlock) (i : ℕ) → Large (b ∷ bs) (suc i) → Large bs i
large_next b bs i l lt = l (omega (arith, lt))

apart_by : (b : IndexBlock) (bs : List IndexBlock) → Large (b ∷ bs) zero → IsApart b bs
apart_by b [] l = tt
apart_by b (c ∷ bs) l = l (omega arith)

pub after_large : (bs : List IndexBlock) (i : ℕ) → Large bs i → IsAround i bs → IsAfter i bs
after_large [] zero l h = tt
after_large [] (suc i) l h = tt
after_large (b ∷ bs) zero l h = (h.0, apart_by b bs l, h.1)
after_large (b ∷ bs) (suc i) l h = (h.0, h.1, after_large bs i (large_next b bs i l) h.2)

pub apart_large : (bs : List IndexBlock) (i : ℕ) → Large bs i → IsAfter (suc i) bs → AreApart bs
apart_large [] i l h = tt
apart_large (b ∷ bs) zero l h = (h.0, apart_by b bs l, h.2)
apart_large (b ∷ bs) (suc i) l h = (h.0, h.1 (omega arith), apart_large bs i (large_next b bs i l) h.2)

-- ===== two blocks that become one

-- the block at an index, and the next one, are one
abbrev joined : List IndexBlock → ℕ → IndexBlock → List IndexBlock
joined bs i d = set (remove bs (suc i)) i d

-- the block has the indexes of both
abbrev IsBoth : List IndexBlock → ℕ → IndexBlock → Type 0
IsBoth bs i d = length d.indexes ≡ length (get_or bs i no_block).indexes + length (get_or bs (suc i) no_block).indexes

apart_more : (d c : IndexBlock) (bs : List IndexBlock) → length c.indexes ≤ length d.indexes → IsApart c bs → IsApart d bs
apart_more d c [] le h = tt
apart_more d c (b ∷ bs) le h = omega (arith, le, h)

first_joined : (d b c : IndexBlock) (bs : List IndexBlock) → length d.indexes ≡ length b.indexes + length c.indexes → length d.indexes ≤ joined_max → IsFilled b → AreApart (c ∷ bs) → AreApart (d ∷ bs)
first_joined d b c bs both few some h = ((omega (arith, both, some.0), omega (arith, few)), apart_more d c bs (omega (arith, both)) h.1, h.2)

pub after_joined : (bs : List IndexBlock) (i : ℕ) (d : IndexBlock) → suc i < length bs → IsBoth bs i d → length d.indexes ≤ joined_max → IsAround i bs → IsAfter i (joined bs i d)
after_joined [] i d lt both few h = absurd (omega (arith, lt))
after_joined (b ∷ []) zero d lt both few h = absurd (omega (arith, lt))
after_joined (b ∷ c ∷ bs) zero d lt both few h = first_joined d b c bs both few h.0 h.1
after_joined (b ∷ bs) (suc i) d lt both few h = (h.0, λ some. same bs i some (omega (arith, lt)) (h.1 some), after_joined bs i d (omega (arith, lt)) both few h.2) where
  same : (cs : List IndexBlock) (k : ℕ) → 0 < k → suc k < length cs → IsApart b cs → IsApart b (joined cs k d)
  same [] k some more p = absurd (omega (arith, more))
  same (c ∷ cs) zero some more p = absurd (omega (arith, some))
  same (c ∷ cs) (suc k) some more p = p

pub apart_joined : (bs : List IndexBlock) (i : ℕ) (d : IndexBlock) → suc i < length bs → IsBoth bs i d → length d.indexes ≤ joined_max → IsAfter (suc i) bs → AreApart (joined bs i d)
apart_joined [] i d lt both few h = absurd (omega (arith, lt))
apart_joined (b ∷ []) zero d lt both few h = absurd (omega (arith, lt))
apart_joined (b ∷ c ∷ bs) zero d lt both few h = first_joined d b c bs both few h.0 h.2
apart_joined (b ∷ bs) (suc i) d lt both few h = (h.0, same bs i (omega (arith, lt)) both (h.1 (omega arith)), apart_joined bs i d (omega (arith, lt)) both few h.2) where
  same : (cs : List IndexBlock) (k : ℕ) → suc k < length cs → IsBoth cs k d → IsApart b cs → IsApart b (joined cs k d)
  same [] k more two p = absurd (omega (arith, more))
  same (c ∷ []) zero more two p = absurd (omega (arith, more))
  same (c ∷ e ∷ cs) zero more two p = omega (arith, two, p)
  same (c ∷ cs) (suc k) more two p = p

-- ===== room

roomy_tail : (b : IndexBlock) (bs : List IndexBlock) → AreRoomy (b ∷ bs) → AreRoomy bs
roomy_tail b [] h = tt
roomy_tail b (c ∷ bs) h = h.1

roomy_cons : (b : IndexBlock) (bs : List IndexBlock) → (0 < length bs → joined_max ≤ b.room) → AreRoomy bs → AreRoomy (b ∷ bs)
roomy_cons b [] room h = tt
roomy_cons b (c ∷ bs) room h = (room (omega arith), h)

roomy_first : (b : IndexBlock) (bs : List IndexBlock) → AreRoomy (b ∷ bs) → 0 < length bs → joined_max ≤ b.room
roomy_first b [] h some = absurd (omega (arith, some))
roomy_first b (c ∷ bs) h some = h.0

pub room_at : (bs : List IndexBlock) (i : ℕ) → AreRoomy bs → suc i < length bs → joined_max ≤ (get_or bs i no_block).room
room_at [] i h lt = absurd (omega (arith, lt))
room_at (b ∷ bs) zero h lt = roomy_first b bs h (omega (arith, lt))
room_at (b ∷ bs) (suc i) h lt = room_at bs i (roomy_tail b bs h) (omega (arith, lt))

pub roomy_set : (bs : List IndexBlock) (i : ℕ) (d : IndexBlock) → (get_or bs i no_block).room ≤ d.room → AreRoomy bs → AreRoomy (set bs i d)
roomy_set [] i d le h = tt
roomy_set (b ∷ bs) zero d le h = roomy_cons d bs (λ some. omega (arith, le, roomy_first b bs h some)) (roomy_tail b bs h)
roomy_set (b ∷ bs) (suc i) d le h = roomy_cons b (set bs i d) (λ some. roomy_first b bs h (omega (arith, some, length-set bs i d))) (roomy_set bs i d le (roomy_tail b bs h))

fewer : (bs : List IndexBlock) (i : ℕ) → length (remove bs i) ≤ length bs
fewer [] zero = omega arith
fewer [] (suc i) = omega arith
fewer (b ∷ bs) zero = omega arith
fewer (b ∷ bs) (suc i) = omega (arith, fewer bs i)

pub roomy_remove : (bs : List IndexBlock) (i : ℕ) → AreRoomy bs → AreRoomy (remove bs i)
roomy_remove [] zero h = tt
roomy_remove [] (suc i) h = tt
roomy_remove (b ∷ bs) zero h = roomy_tail b bs h
roomy_remove (b ∷ bs) (suc i) h = roomy_cons b (remove bs i) (λ some. roomy_first b bs h (omega (arith, some, fewer bs i))) (roomy_remove bs i (roomy_tail b bs h))

-- the block before the one that goes is still there
pub get_before : (bs : List IndexBlock) (i : ℕ) → i < length bs → get_or (remove bs (suc i)) i no_block ≡ get_or bs i no_block
get_before [] i lt = absurd (omega (arith, lt))
get_before (b ∷ bs) zero lt = refl
get_before (b ∷ bs) (suc i) lt = get_before bs i (omega (arith, lt))

pub roomy_joined : (bs : List IndexBlock) (i : ℕ) (d : IndexBlock) → i < length bs → (get_or bs i no_block).room ≤ d.room → AreRoomy bs → AreRoomy (joined bs i d)
roomy_joined bs i d lt le h =
    roomy_set (remove bs (suc i)) i d (subst (λ (b : IndexBlock). b.room ≤ d.room) (sym (get_before bs i lt)) le) (roomy_remove bs (suc i) h)

-- ===== the indexes stay

pub same_joined : (bs : List IndexBlock) (i : ℕ) (d : IndexBlock) → suc i < length bs → d.indexes ≡ (get_or bs i no_block).indexes ++ (get_or bs (suc i) no_block).indexes
    → concat (lists (joined bs i d)) ≡ concat (lists bs)
same_joined [] i d lt both = absurd (omega (arith, lt))
same_joined (b ∷ []) zero d lt both = absurd (omega (arith, lt))
same_joined (b ∷ c ∷ bs) zero d lt both = ap (λ (l : List ℕ). l ++ concat (lists bs)) both ∙ append_assoc b.indexes c.indexes (concat (lists bs))
same_joined (b ∷ bs) (suc i) d lt both = ap (λ (l : List ℕ). b.indexes ++ l) (same_joined bs i d (omega (arith, lt)) both)

-- ===== an index is put last

-- the last block, which is found at one below the count
pub last_at : (bs : List IndexBlock) (b : IndexBlock) (i : ℕ) → i + 1 ≡ length bs → get_or bs i no_block ≡ b → HasRoomLast bs → length b.indexes < block_max
last_at [] b i last at h = absurd h
last_at (a ∷ []) b zero last at h = subst (λ (x : IndexBlock). length x.indexes < block_max) at h
last_at (a ∷ []) b (suc i) last at h = absurd (omega (arith, last))
last_at (a ∷ c ∷ bs) b zero last at h = absurd (omega (arith, last))
last_at (a ∷ c ∷ bs) b (suc i) last at h = last_at (c ∷ bs) b i (omega (arith, last)) at h

pub has_last : (bs : List IndexBlock) → HasRoomLast bs → 0 < length bs
has_last [] h = absurd h
has_last (b ∷ bs) h = omega arith

pub last_has : (bs : List IndexBlock) (i : ℕ) → i + 1 ≡ length bs → length (get_or bs i no_block).indexes < block_max → HasRoomLast bs
last_has [] i last less = absurd (omega (arith, last))
last_has (a ∷ []) zero last less = less
last_has (a ∷ []) (suc i) last less = absurd (omega (arith, last))
last_has (a ∷ c ∷ bs) zero last less = absurd (omega (arith, last))
last_has (a ∷ c ∷ bs) (suc i) last less = last_has (c ∷ bs) i (omega (arith, last)) less

pub last_full : (bs : List IndexBlock) (i : ℕ) → i + 1 ≡ length bs → block_max ≤ length (get_or bs i no_block).indexes → block_max ≤ (get_or bs i no_block).room → IsFullLast bs
last_full [] i last long room = tt
last_full (a ∷ []) zero last long room = (long, room)
last_full (a ∷ []) (suc i) last long room = absurd (omega (arith, last))
last_full (a ∷ c ∷ bs) zero last long room = absurd (omega (arith, last))
last_full (a ∷ c ∷ bs) (suc i) last long room = last_full (c ∷ bs) i (omega (arith, last)) long room

-- the last block has the indexes that it had, or one more
pub apart_last : (bs : List IndexBlock) (i : ℕ) (d : IndexBlock) → i + 1 ≡ length bs → length (get_or bs i no_block).indexes ≤ length d.indexes → length d.indexes ≤ block_max → AreApart bs → AreApart (set bs i d)
apart_last [] i d last more few h = tt
apart_last (b ∷ []) zero d last more few h = ((omega (arith, more, h.0.0), few), tt, tt)
apart_last (b ∷ []) (suc i) d last more few h = absurd (omega (arith, last))
apart_last (b ∷ c ∷ bs) zero d last more few h = absurd (omega (arith, last))
apart_last (b ∷ c ∷ bs) (suc i) d last more few h = (h.0, same i more, apart_last (c ∷ bs) i d (omega (arith, last)) more few h.2) where
  same : (k : ℕ) → length (get_or (c ∷ bs) k no_block).indexes ≤ length d.indexes → IsApart b (set (c ∷ bs) k d)
  same zero le = omega (arith, le, h.1)
  same (suc k) le = h.1

pub pushed_joined : (bs : List IndexBlock) (d : IndexBlock) → length d.indexes ≡ 1 → IsFullLast bs → AreJoined bs → AreJoined (bs ++ d ∷ [])
pushed_joined [] d one full h = (((omega (arith, one), omega (arith, one)), tt, tt), tt)
pushed_joined (b ∷ []) d one full h = ((h.0.0, omega (arith, full.0), ((omega (arith, one), omega (arith, one)), tt, tt)), (omega (arith, full.1), tt))
pushed_joined (b ∷ c ∷ bs) d one full h =
    let rest : AreJoined (c ∷ bs ++ d ∷ []) = pushed_joined (c ∷ bs) d one full (h.0.2, h.1.1) in
    ((h.0.0, h.0.1, rest.0), (h.1.0, rest.1))

-- ===== how many blocks there are

pub few_blocks : (bs : List IndexBlock) → AreApart bs → 1025 * length bs ≤ 2 * length (concat (lists bs)) + 1025
few_blocks [] h = omega arith
few_blocks (b ∷ []) h = omega arith
few_blocks (b ∷ c ∷ bs) h =
    let rest : 1025 * length bs ≤ 2 * length (concat (lists bs)) + 1025 = few_blocks bs h.2.2 in
    let first : length (b.indexes ++ (c.indexes ++ concat (lists bs))) ≡ length b.indexes + length (c.indexes ++ concat (lists bs)) = length-append b.indexes (c.indexes ++ concat (lists bs)) in
    let second : length (c.indexes ++ concat (lists bs)) ≡ length c.indexes + length (concat (lists bs)) = length-append c.indexes (concat (lists bs)) in
    omega (arith, rest, first, second, h.1)

-- the list of the block that an index gives
pub list_is : (bs : List IndexBlock) (i : ℕ) (b : IndexBlock) → i < length bs → b ≡ get_or bs i b → get_or (lists bs) i [] ≡ b.indexes
list_is bs i b lt at = list_at bs i ∙ ap (λ (x : IndexBlock). x.indexes) (block_at bs i b lt at)

pub lists_drop : (bs : List IndexBlock) (i : ℕ) → drop i (lists bs) ≡ lists (drop i bs)
lists_drop [] zero = refl
lists_drop [] (suc i) = refl
lists_drop (b ∷ bs) zero = refl
lists_drop (b ∷ bs) (suc i) = lists_drop bs i

-- a place that lies in a block lies within it
pub found_in : (bs : List IndexBlock) (block offset place : ℕ) → IsIn (lists bs) block offset place → (block < length bs) × (offset < length (get_or bs block no_block).indexes)
found_in bs block offset place h =
    (subst (λ (n : ℕ). block < n) (lists_long bs) (in_block (lists bs) block offset place h), subst (λ (l : List ℕ). offset < length l) (list_at bs block) (in_offset (lists bs) block offset place h))

pub get_found : (bs : List IndexBlock) (block offset place : ℕ) (b : IndexBlock) → IsIn (lists bs) block offset place → b ≡ get_or bs block b
    → (offset < length b.indexes) × (get_or b.indexes offset 0 ≡ get_or (concat (lists bs)) place 0)
get_found bs block offset place b h at =
    let within = found_in bs block offset place h in
    let same : get_or bs block no_block ≡ b = block_at bs block b within.0 at in
    let list : get_or (lists bs) block [] ≡ b.indexes = list_at bs block ∙ ap (λ (x : IndexBlock). x.indexes) same in
    (subst (λ (x : IndexBlock). offset < length x.indexes) same within.1, ap (λ (l : List ℕ). get_or l offset 0) (sym list) ∙ get_in (lists bs) block offset place h)

pub set_found : (bs cs : List IndexBlock) (block offset place x : ℕ) → IsIn (lists bs) block offset place
    → cs ≡ set bs block (record { indexes = set (get_or bs block no_block).indexes offset x; room = (get_or bs block no_block).room })
    → concat (lists cs) ≡ set (concat (lists bs)) place x
set_found bs cs block offset place x h is =
    ap (λ (l : List IndexBlock). concat (lists l)) is
    ∙ ap concat (lists_set bs block (record { indexes = set (get_or bs block no_block).indexes offset x; room = (get_or bs block no_block).room }))
    ∙ ap (λ (l : List ℕ). concat (set (lists bs) block (set l offset x))) (sym (list_at bs block))
    ∙ set_in (lists bs) block offset place x h

pub remove_found : (bs cs : List IndexBlock) (block offset place : ℕ) → IsIn (lists bs) block offset place
    → cs ≡ set bs block (record { indexes = remove (get_or bs block no_block).indexes offset; room = (get_or bs block no_block).room })
    → concat (lists cs) ≡ remove (concat (lists bs)) place
remove_found bs cs block offset place h is =
    ap (λ (l : List IndexBlock). concat (lists l)) is
    ∙ ap concat (lists_set bs block (record { indexes = remove (get_or bs block no_block).indexes offset; room = (get_or bs block no_block).room }))
    ∙ ap (λ (l : List ℕ). concat (set (lists bs) block (remove l offset))) (sym (list_at bs block))
    ∙ remove_in (lists bs) block offset place h

-- the block at an index has other indexes, of the same count
pub set_joined : (bs cs : List IndexBlock) (block offset x : ℕ) → block < length bs
    → cs ≡ set bs block (record { indexes = set (get_or bs block no_block).indexes offset x; room = (get_or bs block no_block).room }) → AreJoined bs → AreJoined cs
set_joined bs cs block offset x lt is h =
    let d : IndexBlock = record { indexes = set (get_or bs block no_block).indexes offset x; room = (get_or bs block no_block).room } in
    let same : length d.indexes ≡ length (get_or bs block no_block).indexes = length-set (get_or bs block no_block).indexes offset x in
    subst AreJoined (sym is) (apart_set bs block d lt same h.0, roomy_set bs block d (omega arith) h.1)

-- or one index less
pub removed_taken : (bs cs : List IndexBlock) (block offset : ℕ) → block < length bs
    → cs ≡ set bs block (record { indexes = remove (get_or bs block no_block).indexes offset; room = (get_or bs block no_block).room }) → AreJoined bs
    → (block < length cs) × (IsTaken block cs × AreRoomy cs)
removed_taken bs cs block offset lt is h =
    let d : IndexBlock = record { indexes = remove (get_or bs block no_block).indexes offset; room = (get_or bs block no_block).room } in
    let few : length d.indexes ≤ block_max = omega (arith, fewer_indexes (get_or bs block no_block).indexes offset, few_at bs block lt h.0) in
    subst (λ (l : List IndexBlock). (block < length l) × (IsTaken block l × AreRoomy l)) (sym is)
    (subst (λ (n : ℕ). block < n) (sym (length-set bs block d)) lt, (taken bs block d h.0 few, roomy_set bs block d (omega arith) h.1))

-- an empty block goes
pub same_emptied : (bs : List IndexBlock) (i : ℕ) (b : IndexBlock) → i < length bs → b ≡ get_or bs i b → length b.indexes ≡ 0 → concat (lists (remove bs i)) ≡ concat (lists bs)
same_emptied bs i b lt at none =
    ap concat (lists_remove bs i)
    ∙ drop_empty (lists bs) i (subst (λ (n : ℕ). i < n) (sym (lists_long bs)) lt) (ap (λ (l : List ℕ). length l) (list_is bs i b lt at) ∙ none)

-- what a block and the next one, which become one, make of the blocks
pub joined_all : (bs after : List IndexBlock) (i : ℕ) → (i + 1 < length bs) × (length (get_or bs i no_block).indexes + length (get_or bs (i + 1) no_block).indexes ≤ joined_max) → IsJoined bs i after → AreRoomy bs
    → (concat (lists after) ≡ concat (lists bs)) × (AreRoomy after × ((IsAround i bs → IsAfter i after) × (IsAfter (i + 1) bs → AreApart after)))
joined_all bs after i small (d, both, room, is) h =
    let one : i + 1 ≡ suc i = omega arith in
    let lt : suc i < length bs = omega (arith, small.0) in
    let within : i < length bs = omega (arith, small.0) in
    let indexes : d.indexes ≡ (get_or bs i no_block).indexes ++ (get_or bs (suc i) no_block).indexes = both ∙ ap (λ (n : ℕ). (get_or bs i no_block).indexes ++ (get_or bs n no_block).indexes) one in
    let same : after ≡ joined bs i d = is ∙ ap (λ (n : ℕ). set (remove bs n) i d) one in
    let long : IsBoth bs i d = ap (λ (l : List ℕ). length l) indexes ∙ length-append (get_or bs i no_block).indexes (get_or bs (suc i) no_block).indexes in
    let sum : length (get_or bs i no_block).indexes + length (get_or bs (suc i) no_block).indexes ≤ joined_max =
    subst (λ (n : ℕ). length (get_or bs i no_block).indexes + length (get_or bs n no_block).indexes ≤ joined_max) one small.1 in
    let few : length d.indexes ≤ joined_max = omega (arith, long, sum) in (
      ap (λ (l : List IndexBlock). concat (lists l)) same ∙ same_joined bs i d lt indexes,
      (
        subst AreRoomy (sym same) (roomy_joined bs i d within room h),
        (
          λ a. subst (λ (l : List IndexBlock). IsAfter i l) (sym same) (after_joined bs i d lt long few a),
          λ a. subst AreApart (sym same) (apart_joined bs i d lt long few (subst (λ (n : ℕ). IsAfter n bs) one a)),
        ),
      ),
    )

-- or two that are too large for one
pub large_all : (bs : List IndexBlock) (i : ℕ) → (i + 1 < length bs → joined_max < length (get_or bs i no_block).indexes + length (get_or bs (i + 1) no_block).indexes)
    → (IsAround i bs → IsAfter i bs) × (IsAfter (i + 1) bs → AreApart bs)
large_all bs i apart =
    let one : i + 1 ≡ suc i = omega arith in
    let large : Large bs i = λ lt. subst (λ (n : ℕ). joined_max < length (get_or bs i no_block).indexes + length (get_or bs n no_block).indexes) one (apart (omega (arith, lt))) in
    (λ a. after_large bs i large a, λ a. apart_large bs i large (subst (λ (n : ℕ). IsAfter n bs) one a))

-- a block with one index is put last
pub pushed_all : (bs after : List IndexBlock) (d : IndexBlock) (x : ℕ) → after ≡ bs ++ d ∷ [] → d.indexes ≡ x ∷ [] → IsFullLast bs → AreJoined bs → (concat (lists after) ≡ concat (lists bs) ++ x ∷ []) × AreJoined after
pushed_all bs after d x is one full h = (
  ap (λ (l : List IndexBlock). concat (lists l)) is ∙ ap concat (lists_append bs (d ∷ [])) ∙ ap (λ (l : List ℕ). concat (lists bs ++ l ∷ [])) one ∙ push_block (lists bs) x,
  subst AreJoined (sym is) (pushed_joined bs d (ap (λ (l : List ℕ). length l) one) full h),
)

set_same : (ls : List (List ℕ)) (i : ℕ) → concat (set ls i (get_or ls i [])) ≡ concat ls
set_same [] i = refl
set_same (l ∷ ls) zero = refl
set_same (l ∷ ls) (suc i) = ap (λ (x : List ℕ). l ++ x) (set_same ls i)

-- the last block, which may have one index more, gets it or not
pub pushed_last : (bs : List IndexBlock) (i : ℕ) (b c : IndexBlock) (x : ℕ) → i + 1 ≡ length bs → b ≡ get_or bs i b → HasRoomLast bs → AreJoined bs → b.room ≤ c.room
    → (c.indexes ≡ b.indexes ++ x ∷ [] → concat (lists (set bs i c)) ≡ concat (lists bs) ++ x ∷ [])
    × ((c.indexes ≡ b.indexes → concat (lists (set bs i c)) ≡ concat (lists bs))
    × ((c.indexes ≡ b.indexes ++ x ∷ []) ⊎ (c.indexes ≡ b.indexes) → AreJoined (set bs i c)))
pushed_last bs i b c x last at has h room =
    let lt : i < length bs = omega (arith, last) in
    let same : get_or bs i no_block ≡ b = block_at bs i b lt at in
    let list : get_or (lists bs) i [] ≡ b.indexes = list_is bs i b lt at in
    let less : length b.indexes < block_max = last_at bs b i last same has in
    let end : i + 1 ≡ length (lists bs) = last ∙ sym (lists_long bs) in
    let size : length (get_or bs i no_block).indexes ≡ length b.indexes = ap (λ (y : IndexBlock). length y.indexes) same in
    let rooms : (get_or bs i no_block).room ≤ c.room = subst (λ (y : IndexBlock). y.room ≤ c.room) (sym same) room in (
      λ e. ap concat (lists_set bs i c) ∙ ap (λ (l : List ℕ). concat (set (lists bs) i l)) (e ∙ ap (λ (l : List ℕ). l ++ x ∷ []) (sym list)) ∙ push_last (lists bs) i x end,
      (
        λ e. ap concat (lists_set bs i c) ∙ ap (λ (l : List ℕ). concat (set (lists bs) i l)) (e ∙ sym list) ∙ set_same (lists bs) i,
        λ e. (by size less e, roomy_set bs i c rooms h.1),
      ),
    )
  where
    by : length (get_or bs i no_block).indexes ≡ length b.indexes → length b.indexes < block_max → (c.indexes ≡ b.indexes ++ x ∷ []) ⊎ (c.indexes ≡ b.indexes) → AreApart (set bs i c)
    by size less (inl e) =
        let more : length c.indexes ≡ length b.indexes + 1 = ap (λ (l : List ℕ). length l) e ∙ length-append b.indexes (x ∷ []) in
        apart_last bs i c last (omega (arith, size, more)) (omega (arith, less, more)) h.0
    by size less (inr e) =
        let equal : length c.indexes ≡ length b.indexes = ap (λ (l : List ℕ). length l) e in
        apart_last bs i c last (omega (arith, size, equal)) (omega (arith, less, equal)) h.0

pub ok_or_err : {A E : Type 0} {P Q : Type 0} (r : Result A E) → OnOk r P → OnErr r Q → P ⊎ Q
ok_or_err (Ok value) p q = inl p
ok_or_err (Err why) p q = inr q

-- the last block of some
pub last_found : (bs : List IndexBlock) (b : IndexBlock) → Some b ≡ slice_get bs (length bs - 1) → (length bs - 1 + 1 ≡ length bs) × (get_or bs (length bs - 1) no_block ≡ b)
last_found [] b is = absurd cc
last_found (c ∷ bs) b is = (omega arith, get_or_from_slice_get (c ∷ bs) (length (c ∷ bs) - 1) b no_block (sym is))
