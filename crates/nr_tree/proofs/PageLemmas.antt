-- Changes of pages, and what they make of the bytes.
use Rattle.std.proofs.Common.{◌≡◌, ◌≢◌, ℕ, ◌+◌, ◌-◌, ◌*◌, ◌/◌, ◌%◌, ◌<◌, ◌≤◌, ◌⊎◌, inl, inr, Bool, true, false, cond, List, ◌++◌, length, take, drop, get_or, Option, None, Some, IfSome, is_some, refl, ap, sym, ◌∙◌, subst, arith, length-append, replicate, min}
use Rattle.std.proofs.lemmas.List.{places}
use Rattle.std.proofs.lemmas.Bool.{cases_lt, cases_eq}
use Rattle.std.specs.BTreeMap.{is_at}
use Rattle.std.specs.Ordering.{nat_cmp}
use Rattle.std.specs.declared.vec.Vec.{Vec}
use Rattle.std.specs.declared.alloc.Global.{Global}
use Rattle.nr_tree.specs.Pages.{page_size}
use Rattle.nr_tree.specs.Paged.{Pages, page, items_of, byte, HasSize, HasByte, AreSized, AreZeros, ArePages, AreSet, KeepsBytes, IsOver, WritesOver, ClearsTail}
use Rattle.nr_tree.proofs.NodeMaps.{same_number}

-- ===== one page changes

pub other_number : (k q : ℕ) → q ≢ k → is_at (nat_cmp k) q ≡ false
other_number k q ne = by (is_at (nat_cmp k) q) refl where
  by : (b : Bool) → is_at (nat_cmp k) q ≡ b → b ≡ false
  by true e = absurd (ne (sym (same_number k q e)))
  by false e = refl

-- what an update leaves under other numbers
pub others_stay : (ps qs : Pages) (k : ℕ) (o : Option (Vec ℕ Global)) → ((q : ℕ) → page qs q ≡ cond (is_at (nat_cmp k) q) o (page ps q)) → (q : ℕ) → q ≢ k → page qs q ≡ page ps q
others_stay ps qs k o is q ne = is q ∙ ap (λ (b : Bool). cond b o (page ps q)) (other_number k q ne)

-- the byte at an offset is that of its page
byte_of : (ps qs : Pages) (i : ℕ) → page qs (i / page_size) ≡ page ps (i / page_size) → byte qs i ≡ byte ps i
byte_of ps qs i same = ap (λ (o : Option (Vec ℕ Global)). get_or (items_of o) (i % page_size) 0) same

byte_at : (ps : Pages) (i : ℕ) (v : Vec ℕ Global) → page ps (i / page_size) ≡ Some v → byte ps i ≡ get_or v.items (i % page_size) 0
byte_at ps i v here = ap (λ (o : Option (Vec ℕ Global)). get_or (items_of o) (i % page_size) 0) here

pub byte_none : (ps : Pages) (i : ℕ) → page ps (i / page_size) ≡ None → byte ps i ≡ 0
byte_none ps i here = ap (λ (o : Option (Vec ℕ Global)). get_or (items_of o) (i % page_size) 0) here

-- ===== pages that keep the bytes

pub keeps_same : (ps : Pages) (first end : ℕ) → AreSized ps → KeepsBytes ps ps first end
keeps_same ps first end sized = record { sized = sized; bytes = λ i. refl; below = λ p lt. refl; above = λ p le. refl }

pub keeps_then : (ps qs rs : Pages) (first end n : ℕ) → KeepsBytes ps qs first end → KeepsBytes qs rs n (n + 1) → first ≤ n → n < end → KeepsBytes ps rs first end
keeps_then ps qs rs first end n h k from to = record {
  sized = k.sized;
  bytes = λ i. k.bytes i ∙ h.bytes i;
  below = λ p lt. k.below p (omega (arith, lt, from)) ∙ h.below p lt;
  above = λ p le. k.above p (omega (arith, le, to)) ∙ h.above p le;
}

-- one more page is there
pub kept_then : (qs rs : Pages) (first n : ℕ) → ((p : ℕ) → first ≤ p → p < n → is_some (page qs p) ≡ true) → ((p : ℕ) → is_some (page qs p) ≡ true → is_some (page rs p) ≡ true) → is_some (page rs n) ≡ true
    → (p : ℕ) → first ≤ p → p < n + 1 → is_some (page rs p) ≡ true
kept_then qs rs first n had stays here p from to = by (cases_lt p n) where
  by : (p < n) ⊎ (n ≤ p) → is_some (page rs p) ≡ true
  by (inl lt) = stays p (had p from lt)
  by (inr le) = let same : n ≡ p = omega (arith, le, to) in subst (λ (q : ℕ). is_some (page rs q) ≡ true) same here

-- one more page has a byte
pub set_then : (qs rs : Pages) (first n : ℕ) → ((p : ℕ) → first ≤ p → p < n → IfSome (page qs p) HasByte) → KeepsBytes qs rs n (n + 1) → IfSome (page rs n) HasByte
    → (p : ℕ) → first ≤ p → p < n + 1 → IfSome (page rs p) HasByte
set_then qs rs first n had keeps here p from to = by (cases_lt p n) where
  by : (p < n) ⊎ (n ≤ p) → IfSome (page rs p) HasByte
  by (inl lt) = subst (λ (o : Option (Vec ℕ Global)). IfSome o HasByte) (sym (keeps.below p lt)) (had p from lt)
  by (inr le) = let same : n ≡ p = omega (arith, le, to) in subst (λ (q : ℕ). IfSome (page rs q) HasByte) same here

-- one more part lies in a page with a byte
pub set_more : (qs rs : Pages) (offset at n : ℕ) → at % page_size + n ≤ page_size → AreSet qs offset at → ((p : ℕ) → p < at / page_size → page rs p ≡ page qs p) → IfSome (page rs (at / page_size)) HasByte → AreSet rs offset (at + n)
set_more qs rs offset at n fits had below here i from to = by (cases_lt (i / page_size) (at / page_size)) where
  by : (i / page_size < at / page_size) ⊎ (at / page_size ≤ i / page_size) → IfSome (page rs (i / page_size)) HasByte
  by (inl lt) = subst (λ (o : Option (Vec ℕ Global)). IfSome o HasByte) (sym (below (i / page_size) lt)) (had i from (omega (arith, lt)))
  by (inr le) = let same : at / page_size ≡ i / page_size = omega (arith, le, fits, to) in subst (λ (q : ℕ). IfSome (page rs q) HasByte) same here

-- ===== one more page goes

pub gone_then : (qs rs : Pages) (first n : ℕ) → ((p : ℕ) → first ≤ p → p < n → page qs p ≡ None) → ((q : ℕ) → page rs q ≡ cond (is_at (nat_cmp n) q) None (page qs q)) → page rs n ≡ None
    → (p : ℕ) → first ≤ p → p < n + 1 → page rs p ≡ None
gone_then qs rs first n had is here p from to = by (cases_lt p n) where
  by : (p < n) ⊎ (n ≤ p) → page rs p ≡ None
  by (inl lt) = let ne : p ≢ n = omega (arith, lt) in others_stay qs rs n None is p ne ∙ had p from lt
  by (inr le) = let same : n ≡ p = omega (arith, le, to) in subst (λ (q : ℕ). page rs q ≡ None) same here

pub stay_below : (ps qs rs : Pages) (first n : ℕ) → first ≤ n → ((p : ℕ) → p < first → page qs p ≡ page ps p) → ((q : ℕ) → page rs q ≡ cond (is_at (nat_cmp n) q) None (page qs q))
    → (p : ℕ) → p < first → page rs p ≡ page ps p
stay_below ps qs rs first n from had is p lt = let ne : p ≢ n = omega (arith, lt, from) in others_stay qs rs n None is p ne ∙ had p lt

pub stay_above : (ps qs rs : Pages) (end n : ℕ) → n < end → ((p : ℕ) → end ≤ p → page qs p ≡ page ps p) → ((q : ℕ) → page rs q ≡ cond (is_at (nat_cmp n) q) None (page qs q))
    → (p : ℕ) → end ≤ p → page rs p ≡ page ps p
stay_above ps qs rs end n to had is p le = let ne : p ≢ n = omega (arith, le, to) in others_stay qs rs n None is p ne ∙ had p le

-- ===== a list with a piece in it

spliced_length : (xs ys zs : List ℕ) (r : ℕ) → r + length ys ≤ length xs → zs ≡ take r xs ++ (ys ++ drop (r + length ys) xs) → length zs ≡ length xs
spliced_length xs ys zs r fits is = grind (arith, places)

spliced_below : (xs ys zs : List ℕ) (r j : ℕ) → r + length ys ≤ length xs → zs ≡ take r xs ++ (ys ++ drop (r + length ys) xs) → j < r → get_or zs j 0 ≡ get_or xs j 0
spliced_below xs ys zs r j fits is lt = grind (arith, places)

spliced_in : (xs ys zs : List ℕ) (r j k : ℕ) → r + length ys ≤ length xs → zs ≡ take r xs ++ (ys ++ drop (r + length ys) xs) → j ≡ r + k → k < length ys → get_or zs j 0 ≡ get_or ys k 0
spliced_in xs ys zs r j k fits is at lt = let back : j - r ≡ k = omega (arith, at) in grind (arith, places)

spliced_above : (xs ys zs : List ℕ) (r j : ℕ) → r + length ys ≤ length xs → zs ≡ take r xs ++ (ys ++ drop (r + length ys) xs) → r + length ys ≤ j → get_or zs j 0 ≡ get_or xs j 0
spliced_above xs ys zs r j fits is le = let back : (r + length ys) + ((j - r) - length ys) ≡ j = omega (arith, le) in grind (arith, places)

-- ===== a piece that is put into a page

module _ (ps qs : Pages) (offset : ℕ) (piece : List ℕ) (v w : Vec ℕ Global)
    (sized : AreSized ps) (some : 0 < length piece) (fits : offset % page_size + length piece ≤ page_size) (here : page ps (offset / page_size) ≡ Some v)
    (is : (q : ℕ) → page qs q ≡ cond (is_at (nat_cmp (offset / page_size)) q) (Some w) (page ps q))
    (now : page qs (offset / page_size) ≡ Some w)
    (made : w.items ≡ take (offset % page_size) v.items ++ (piece ++ drop (offset % page_size + length piece) v.items)) where
  size : length v.items ≡ page_size
  size = subst (λ (o : Option (Vec ℕ Global)). IfSome o HasSize) here (sized (offset / page_size))

  room : offset % page_size + length piece ≤ length v.items
  room = omega (arith, size, fits)

  others : (q : ℕ) → q ≢ offset / page_size → page qs q ≡ page ps q
  others = others_stay ps qs (offset / page_size) (Some w) is

  all_sized : (p : ℕ) → IfSome (page qs p) HasSize
  all_sized p = by (cases_eq p (offset / page_size)) where
    by : (p ≡ offset / page_size) ⊎ (p ≢ offset / page_size) → IfSome (page qs p) HasSize
    by (inl e) = subst (λ (o : Option (Vec ℕ Global)). IfSome o HasSize) (sym (ap (page qs) e ∙ now)) (spliced_length v.items piece w.items (offset % page_size) room made ∙ size)
    by (inr ne) = subst (λ (o : Option (Vec ℕ Global)). IfSome o HasSize) (sym (others p ne)) (sized p)

  put_inside : (k : ℕ) → k < length piece → byte qs (offset + k) ≡ get_or piece k 0
  put_inside k lt =
      let number : (offset + k) / page_size ≡ offset / page_size = omega (arith, lt, fits) in
      let at : (offset + k) % page_size ≡ offset % page_size + k = omega (arith, lt, fits) in
      byte_at qs (offset + k) w (ap (page qs) number ∙ now) ∙ spliced_in v.items piece w.items (offset % page_size) ((offset + k) % page_size) k room made at lt

  put_below : (i : ℕ) → i < offset → byte qs i ≡ byte ps i
  put_below i lt = by (cases_eq (i / page_size) (offset / page_size)) where
    by : (i / page_size ≡ offset / page_size) ⊎ (i / page_size ≢ offset / page_size) → byte qs i ≡ byte ps i
    by (inl e) =
        let low : i % page_size < offset % page_size = omega (arith, e, lt) in
        byte_at qs i w (ap (page qs) e ∙ now) ∙ spliced_below v.items piece w.items (offset % page_size) (i % page_size) room made low ∙ sym (byte_at ps i v (ap (page ps) e ∙ here))
    by (inr ne) = byte_of ps qs i (others (i / page_size) ne)

  put_above : (i : ℕ) → offset + length piece ≤ i → byte qs i ≡ byte ps i
  put_above i le = by (cases_eq (i / page_size) (offset / page_size)) where
    by : (i / page_size ≡ offset / page_size) ⊎ (i / page_size ≢ offset / page_size) → byte qs i ≡ byte ps i
    by (inl e) =
        let high : offset % page_size + length piece ≤ i % page_size = omega (arith, e, le) in
        byte_at qs i w (ap (page qs) e ∙ now) ∙ spliced_above v.items piece w.items (offset % page_size) (i % page_size) room made high ∙ sym (byte_at ps i v (ap (page ps) e ∙ here))
    by (inr ne) = byte_of ps qs i (others (i / page_size) ne)

  pub piece_put : WritesOver ps qs offset piece
  piece_put = record {
    sized = all_sized;
    over = record { inside = put_inside; below = put_below; above = put_above };
    below = λ p lt. let ne : p ≢ offset / page_size = omega (arith, lt) in others p ne;
    above = λ p le. let ne : p ≢ offset / page_size = omega (arith, le, some) in others p ne;
  }

-- ===== a page of zeros goes

module _ (ps qs rs : Pages) (offset : ℕ) (piece : List ℕ) (some : 0 < length piece) (over : WritesOver ps qs offset piece) (zero : (i : ℕ) → i / page_size ≡ offset / page_size → byte qs i ≡ 0)
    (is : (q : ℕ) → page rs q ≡ cond (is_at (nat_cmp (offset / page_size)) q) None (page qs q)) (now : page rs (offset / page_size) ≡ None) where
  left : (q : ℕ) → q ≢ offset / page_size → page rs q ≡ page qs q
  left = others_stay qs rs (offset / page_size) None is

  left_sized : (p : ℕ) → IfSome (page rs p) HasSize
  left_sized p = by (cases_eq p (offset / page_size)) where
    by : (p ≡ offset / page_size) ⊎ (p ≢ offset / page_size) → IfSome (page rs p) HasSize
    by (inl e) = subst (λ (o : Option (Vec ℕ Global)). IfSome o HasSize) (sym (ap (page rs) e ∙ now)) tt
    by (inr ne) = subst (λ (o : Option (Vec ℕ Global)). IfSome o HasSize) (sym (left p ne)) (over.sized p)

  left_bytes : (i : ℕ) → byte rs i ≡ byte qs i
  left_bytes i = by (cases_eq (i / page_size) (offset / page_size)) where
    by : (i / page_size ≡ offset / page_size) ⊎ (i / page_size ≢ offset / page_size) → byte rs i ≡ byte qs i
    by (inl e) = byte_none rs i (ap (page rs) e ∙ now) ∙ sym (zero i e)
    by (inr ne) = byte_of qs rs i (left (i / page_size) ne)

  pub writes_zeros : WritesOver ps rs offset piece
  writes_zeros = record {
    sized = left_sized;
    over = record { inside = λ k lt. left_bytes (offset + k) ∙ over.over.inside k lt; below = λ i lt. left_bytes i ∙ over.over.below i lt; above = λ i le. left_bytes i ∙ over.over.above i le };
    below = λ p lt. let ne : p ≢ offset / page_size = omega (arith, lt) in left p ne ∙ over.below p lt;
    above = λ p le. let ne : p ≢ offset / page_size = omega (arith, le, some) in left p ne ∙ over.above p le;
  }

-- ===== pieces after one another

pub writes_none : (ps : Pages) (offset : ℕ) (xs : List ℕ) → length xs ≡ 0 → AreSized ps → WritesOver ps ps offset xs
writes_none ps offset xs none sized = record {
  sized = sized;
  over = record { inside = λ k lt. absurd (omega (arith, lt, none)); below = λ i lt. refl; above = λ i le. refl };
  below = λ p lt. refl;
  above = λ p le. refl;
}

over_then : (f g h : ℕ → ℕ) (offset : ℕ) (xs ys : List ℕ) → IsOver f g offset xs → IsOver g h (offset + length xs) ys → IsOver f h offset (xs ++ ys)
over_then f g h offset xs ys a b = record {
  inside = in_both;
  below = λ i lt. b.below i (omega (arith, lt)) ∙ a.below i lt;
  above = λ i le. let past : (offset + length xs) + length ys ≤ i = omega (arith, le, length-append xs ys) in b.above i past ∙ a.above i (omega (arith, past));
} where
  in_both : (k : ℕ) → k < length (xs ++ ys) → h (offset + k) ≡ get_or (xs ++ ys) k 0
  in_both k lt = by (cases_lt k (length xs)) where
    by : (k < length xs) ⊎ (length xs ≤ k) → h (offset + k) ≡ get_or (xs ++ ys) k 0
    by (inl low) = let first : get_or (xs ++ ys) k 0 ≡ get_or xs k 0 = grind (arith, places) in b.below (offset + k) (omega (arith, low)) ∙ a.inside k low ∙ sym first
    by (inr high) =
        let second : get_or (xs ++ ys) k 0 ≡ get_or ys (k - length xs) 0 = grind (arith, places) in
        let at : offset + length xs + (k - length xs) ≡ offset + k = omega (arith, high) in
        let short : k - length xs < length ys = omega (arith, high, lt, length-append xs ys) in
        ap h (sym at) ∙ b.inside (k - length xs) short ∙ sym second

pub writes_then : (ps qs rs : Pages) (offset : ℕ) (xs ys zs : List ℕ) → WritesOver ps qs offset xs → WritesOver qs rs (offset + length xs) ys → zs ≡ xs ++ ys → WritesOver ps rs offset zs
writes_then ps qs rs offset xs ys zs a b is = subst (λ (l : List ℕ). WritesOver ps rs offset l) (sym is) (record {
  sized = b.sized;
  over = over_then (byte ps) (byte qs) (byte rs) offset xs ys a.over b.over;
  below = λ p lt. b.below p (omega (arith, lt)) ∙ a.below p lt;
  above = λ p le. let past : (offset + length xs) + length ys ≤ page_size * p = omega (arith, le, length-append xs ys) in b.above p past ∙ a.above p (omega (arith, past));
})

-- the pages that the rest lies in are as they were: a part ends at the end of its page, or with the piece
pub kept_after : (qs rs : Pages) (at : ℕ) (xs ys zs : List ℕ) → length zs ≡ length xs + length ys → length xs ≡ min (page_size - at % page_size) (length zs) → WritesOver qs rs at xs
    → ((i : ℕ) → at ≤ i → i < at + length zs → is_some (page qs (i / page_size)) ≡ true) → (i : ℕ) → at + length xs ≤ i → i < at + length xs + length ys → is_some (page rs (i / page_size)) ≡ true
kept_after qs rs at xs ys zs both least w kept i from to =
    let past : at + length xs ≤ page_size * (i / page_size) = omega (arith, both, least, from, to) in ap is_some (w.above (i / page_size) past) ∙ kept i (omega (arith, from)) (omega (arith, to, both))

-- ===== room, then the piece

pub over_kept : (ps qs rs : Pages) (first end offset : ℕ) (xs : List ℕ) → KeepsBytes ps qs first end → WritesOver qs rs offset xs → IsOver (byte ps) (byte rs) offset xs
over_kept ps qs rs first end offset xs a w = record {
  inside = w.over.inside;
  below = λ i lt. w.over.below i lt ∙ a.bytes i;
  above = λ i le. w.over.above i le ∙ a.bytes i;
}

pub set_kept : (ps qs rs : Pages) (first end offset : ℕ) (xs : List ℕ) → KeepsBytes ps qs first end → WritesOver qs rs offset xs → first ≡ offset / page_size → end ≡ (offset + length xs + 4095) / page_size
    → 0 < length xs → ((p : ℕ) → IfSome (page ps p) HasByte) → AreSet rs offset (offset + length xs) → (p : ℕ) → IfSome (page rs p) HasByte
set_kept ps qs rs first end offset xs a w begin last some set between p = by (cases_lt p first) (cases_lt p end) (cases_lt (page_size * p) offset) where
  by : (p < first) ⊎ (first ≤ p) → (p < end) ⊎ (end ≤ p) → (page_size * p < offset) ⊎ (offset ≤ page_size * p) → IfSome (page rs p) HasByte
  by (inl lt) c d = subst (λ (o : Option (Vec ℕ Global)). IfSome o HasByte) (sym (w.below p (omega (arith, lt, begin)) ∙ a.below p lt)) (set p)
  by (inr le) (inl lt) (inl low) =
      let same : offset / page_size ≡ p = omega (arith, low, begin, le) in
      subst (λ (q : ℕ). IfSome (page rs q) HasByte) same (between offset (omega arith) (omega (arith, some)))
  by (inr le) (inl lt) (inr high) =
      let same : (page_size * p) / page_size ≡ p = omega arith in
      subst (λ (q : ℕ). IfSome (page rs q) HasByte) same (between (page_size * p) high (omega (arith, lt, last)))
  by (inr le) (inr past) d =
      let after : offset + length xs ≤ page_size * p = omega (arith, past, last) in
      subst (λ (o : Option (Vec ℕ Global)). IfSome o HasByte) (sym (w.above p after ∙ a.above p past)) (set p)

pub set_again : (ps qs ss : Pages) (first end : ℕ) → KeepsBytes ps qs first end → KeepsBytes qs ss first end → ((p : ℕ) → IfSome (page ps p) HasByte) → ((p : ℕ) → first ≤ p → p < end → IfSome (page ss p) HasByte)
    → (p : ℕ) → IfSome (page ss p) HasByte
set_again ps qs ss first end a b set between p = by (cases_lt p first) (cases_lt p end) where
  by : (p < first) ⊎ (first ≤ p) → (p < end) ⊎ (end ≤ p) → IfSome (page ss p) HasByte
  by (inl lt) c = subst (λ (o : Option (Vec ℕ Global)). IfSome o HasByte) (sym (b.below p lt ∙ a.below p lt)) (set p)
  by (inr le) (inl lt) = between p le lt
  by (inr le) (inr past) = subst (λ (o : Option (Vec ℕ Global)). IfSome o HasByte) (sym (b.above p past ∙ a.above p past)) (set p)

-- the numbers of the pages that a piece lies in
pub room_for : (qs : Pages) (first end offset len : ℕ) → first ≡ offset / page_size → end ≡ (offset + len + 4095) / page_size → ((p : ℕ) → first ≤ p → p < end → is_some (page qs p) ≡ true)
    → (i : ℕ) → offset ≤ i → i < offset + len → is_some (page qs (i / page_size)) ≡ true
room_for qs first end offset len begin last kept i from to = kept (i / page_size) (omega (arith, from, begin)) (omega (arith, to, last))

-- ===== the tail of a page is cleared

pub tail_cleared : (ps qs : Pages) (from room : ℕ) (zs : List ℕ) → room ≡ page_size - from % page_size → AreZeros zs room → WritesOver ps qs from zs → IfSome (page qs (from / page_size)) HasByte → ClearsTail ps qs from
tail_cleared ps qs from room zs is zeros w set = record { sized = w.sized; below = w.over.below; clear = clear; others = λ p ne. by p ne (cases_lt p (from / page_size)); set = set } where
  clear : (i : ℕ) → from ≤ i → i / page_size ≡ from / page_size → byte qs i ≡ 0
  clear i le same =
      let at : from + (i - from) ≡ i = omega (arith, le) in
      let short : i - from < length zs = omega (arith, le, same, is, zeros.length) in
      ap (byte qs) (sym at) ∙ w.over.inside (i - from) short ∙ zeros.zero (i - from)

  by : (p : ℕ) → p ≢ from / page_size → (p < from / page_size) ⊎ (from / page_size ≤ p) → page qs p ≡ page ps p
  by p ne (inl lt) = w.below p lt
  by p ne (inr le) = w.above p (omega (arith, ne, le, is, zeros.length))

pub tail_absent : (ps : Pages) (from : ℕ) → AreSized ps → page ps (from / page_size) ≡ None → ClearsTail ps ps from
tail_absent ps from sized none = record {
  sized = sized;
  below = λ i lt. refl;
  clear = λ i le e. byte_none ps i (ap (page ps) e ∙ none);
  others = λ p ne. refl;
  set = subst (λ (o : Option (Vec ℕ Global)). IfSome o HasByte) (sym none) tt;
}

-- ===== a file that is cut

module _ (ps qs rs : Pages) (from len first end : ℕ) (begin : first ≡ from / page_size) (last : end ≡ len / page_size + 1) (shorter : from < len) (pages : ArePages ps len) (clears : ClearsTail ps qs from)
    (lower : (p : ℕ) → p < first + 1 → page rs p ≡ page qs p) (gone : (p : ℕ) → first + 1 ≤ p → p < end → page rs p ≡ None) (upper : (p : ℕ) → end ≤ p → page rs p ≡ page qs p) where
  other : (p : ℕ) → p ≢ first → page qs p ≡ page ps p
  other p ne = clears.others p (λ e. ne (e ∙ sym begin))

  cut_sized : AreSized rs
  cut_sized p = by (cases_lt p (first + 1)) (cases_lt p end) where
    by : (p < first + 1) ⊎ (first + 1 ≤ p) → (p < end) ⊎ (end ≤ p) → IfSome (page rs p) HasSize
    by (inl lt) c = subst (λ (o : Option (Vec ℕ Global)). IfSome o HasSize) (sym (lower p lt)) (clears.sized p)
    by (inr le) (inl lt) = subst (λ (o : Option (Vec ℕ Global)). IfSome o HasSize) (sym (gone p le lt)) tt
    by (inr le) (inr past) = subst (λ (o : Option (Vec ℕ Global)). IfSome o HasSize) (sym (upper p past)) (clears.sized p)

  -- a page is the first, or as it was, or gone
  set_before : (p : ℕ) → IfSome (page qs p) HasByte
  set_before p = by (cases_eq p first) where
    by : (p ≡ first) ⊎ (p ≢ first) → IfSome (page qs p) HasByte
    by (inl e) = subst (λ (q : ℕ). IfSome (page qs q) HasByte) (sym (e ∙ begin)) clears.set
    by (inr ne) = subst (λ (o : Option (Vec ℕ Global)). IfSome o HasByte) (sym (other p ne)) (pages.set p)

  cut_set : (p : ℕ) → IfSome (page rs p) HasByte
  cut_set p = by (cases_lt p (first + 1)) (cases_lt p end) where
    by : (p < first + 1) ⊎ (first + 1 ≤ p) → (p < end) ⊎ (end ≤ p) → IfSome (page rs p) HasByte
    by (inl lt) c = subst (λ (o : Option (Vec ℕ Global)). IfSome o HasByte) (sym (lower p lt)) (set_before p)
    by (inr le) (inl lt) = subst (λ (o : Option (Vec ℕ Global)). IfSome o HasByte) (sym (gone p le lt)) tt
    by (inr le) (inr past) = subst (λ (o : Option (Vec ℕ Global)). IfSome o HasByte) (sym (upper p past)) (set_before p)

  cut_ends : (i : ℕ) → from ≤ i → byte rs i ≡ 0
  cut_ends i le = by (cases_lt (i / page_size) (first + 1)) (cases_lt (i / page_size) end) where
    by : (i / page_size < first + 1) ⊎ (first + 1 ≤ i / page_size) → (i / page_size < end) ⊎ (end ≤ i / page_size) → byte rs i ≡ 0
    by (inl lt) c =
        let same : i / page_size ≡ from / page_size = omega (arith, lt, le, begin) in
        byte_of qs rs i (lower (i / page_size) lt) ∙ clears.clear i le same
    by (inr high) (inl lt) = byte_none rs i (gone (i / page_size) high lt)
    by (inr high) (inr past) =
        let ne : i / page_size ≢ first = omega (arith, high) in
        let after : len ≤ i = omega (arith, past, last) in
        byte_of qs rs i (upper (i / page_size) past) ∙ byte_of ps qs i (other (i / page_size) ne) ∙ pages.ends i after

  pub cut_pages : ArePages rs from
  cut_pages = record { sized = cut_sized; set = cut_set; ends = cut_ends }

  pub cut_below : (i : ℕ) → i < from → byte rs i ≡ byte ps i
  cut_below i lt =
      let low : i / page_size < first + 1 = omega (arith, lt, begin) in
      byte_of qs rs i (lower (i / page_size) low) ∙ clears.below i lt

-- ===== the part of a page

pub part_in : (ps : Pages) (offset count : ℕ) (v : Vec ℕ Global) (xs : List ℕ) → offset % page_size + count ≤ page_size → page ps (offset / page_size) ≡ Some v
    → ((k : ℕ) → k < count → get_or xs k 0 ≡ get_or v.items (offset % page_size + k) 0) → (k : ℕ) → k < count → get_or xs k 0 ≡ byte ps (offset + k)
part_in ps offset count v xs fits here is k lt =
    let number : (offset + k) / page_size ≡ offset / page_size = omega (arith, lt, fits) in
    let at : (offset + k) % page_size ≡ offset % page_size + k = omega (arith, lt, fits) in
    is k lt ∙ sym (ap (λ (j : ℕ). get_or v.items j 0) at) ∙ sym (byte_at ps (offset + k) v (ap (page ps) number ∙ here))

pub part_zero : (ps : Pages) (offset count : ℕ) (xs : List ℕ) → offset % page_size + count ≤ page_size → page ps (offset / page_size) ≡ None
    → ((k : ℕ) → k < count → get_or xs k 0 ≡ 0) → (k : ℕ) → k < count → get_or xs k 0 ≡ byte ps (offset + k)
part_zero ps offset count xs fits here is k lt =
    let number : (offset + k) / page_size ≡ offset / page_size = omega (arith, lt, fits) in
    is k lt ∙ sym (byte_none ps (offset + k) (ap (page ps) number ∙ here))

pub first_zeros : (n len : ℕ) → len ≤ n → AreZeros (take len (replicate {A = ℕ} n 0)) len
first_zeros n len le = record { length = zeros_length n len le; zero = λ i. by i (cases_lt i len) } where
  zeros_length : (n len : ℕ) → len ≤ n → length (take len (replicate {A = ℕ} n 0)) ≡ len
  zeros_length n len le = grind (arith, places)

  zero_in : (n len i : ℕ) → len ≤ n → i < len → get_or (take len (replicate {A = ℕ} n 0)) i 0 ≡ 0
  zero_in n len i le lt = grind (arith, places)

  zero_past : (xs : List ℕ) (i : ℕ) → length xs ≤ i → get_or xs i 0 ≡ 0
  zero_past xs i ge = grind (arith, places)

  by : (i : ℕ) → (i < len) ⊎ (len ≤ i) → get_or (take len (replicate {A = ℕ} n 0)) i 0 ≡ 0
  by i (inl lt) = zero_in n len i le lt
  by i (inr ge) = zero_past (take len (replicate {A = ℕ} n 0)) i (omega (arith, ge, zeros_length n len le))
