-- Read lists are read if and only if they are encoded and their positions may stand.
use Rattle.std.proofs.Common.{◌≡◌, ◌≢◌, ℕ, zero, suc, ◌≤◌, Bool, true, false, List, [], ◌∷◌, length, Ok, Err, refl, sym, subst, ◌∙◌, arith, inl, inr}
use Rattle.std.specs.List.{AllByRecursion}
use Rattle.std.proofs.lemmas.Bool.Decides.{eqb_tells, nat_tests}
use Rattle.nr_xdr.specs.Item.{Item, IsBytes}
use Rattle.nr_xdr.specs.Item.Item.{Unsigned, Hyper, Boolean}
use Rattle.nr_xdr.specs.Reading.{Cursor, Takes}
use Rattle.nr_xdr.specs.Sequencing.{◌>>=◌}
use Rattle.nr_xdr.specs.Items.{TakesAll}
use Rattle.nr_xdr.proofs.SequencingSteps.{bind_ok, chosen, done, ok_is, number_step, number_again, boolean_step, boolean_placed}
use Rattle.nr_header.specs.declared.header.RdmaSegment.{RdmaSegment}
use Rattle.nr_header.specs.declared.header.ReadSegment.{ReadSegment}
use Rattle.nr_header.specs.Header.{read_items}
use Rattle.nr_header.specs.WithinLimits.{Ends}
use Rattle.nr_header.specs.Reading.{is_allowed, other_position, end_at, segment_at, entry_at, read_list_at}
use Rattle.nr_header.proofs.Segments.{Before, Again, segment_take, segment_again, end_take, end_again}

abbrev pub EntryEnds : ReadSegment → Type 0
EntryEnds r = Ends r.offset r.length

-- each position may stand after those before it
abbrev pub Stand : Bool → ℕ → List ReadSegment → Type 0
Stand zero_allowed seen [] = Unit {0}
Stand zero_allowed seen (r ∷ rs) = (is_allowed zero_allowed seen r.position ≡ true) × Stand zero_allowed (other_position seen r.position) rs

abbrev pub place_items : ReadSegment → List Item → List Item
place_items r more = Unsigned r.position ∷ (Unsigned r.handle ∷ (Unsigned r.length ∷ (Hyper r.offset ∷ more)))

record TookEntry (zero_allowed : Bool) (seen : ℕ) (r : ReadSegment) (c d : Cursor) : Type 0 where
  before : Before (place_items r) c d
  stands : is_allowed zero_allowed seen r.position ≡ true
  ends : EntryEnds r
  fits : IsBytes d.rest

entry_take : (place : ℕ) (zero_allowed : Bool) (seen : ℕ) (c : Cursor) (x : ReadSegment × Cursor) → IsBytes c.rest → entry_at place zero_allowed seen c ≡ Ok x → TookEntry zero_allowed seen x.0 c x.1
unfolding entry_at
entry_take place zero_allowed seen c x fits e =
    let position = number_step c _ x fits e in
    let target = segment_at place position.0.1 >>= λ segment. done {A = ReadSegment × Cursor} (record { position = position.0.0; handle = segment.0.handle; length = segment.0.length; offset = segment.0.offset }, segment.1) in
    elim (chosen (is_allowed zero_allowed seen position.0.0) target (Err place) (Ok x) position.3) [
      | inl stands ↦
          let segment = bind_ok (segment_at place position.0.1) _ x stands.1 in
          let s = segment_take place position.0.1 segment.0 position.2 segment.1 in
          let made : ReadSegment × Cursor = (record { position = position.0.0; handle = segment.0.0.handle; length = segment.0.0.length; offset = segment.0.0.offset }, segment.0.1) in
          subst (λ (y : ReadSegment × Cursor). TookEntry zero_allowed seen y.0 c y.1) (ok_is made x segment.2) (record {
            before = λ more after behind. (position.0.1, position.1, s.before more after behind);
            stands = stands.0;
            ends = s.ends;
            fits = s.fits;
          })
      | inr falls ↦ absurd (let wrong : Err place ≡ done x = falls.1 in cc)
    ]

abbrev target_of : ReadSegment → RdmaSegment
target_of r = record { handle = r.handle; length = r.length; offset = r.offset }

entry_again : (place : ℕ) (zero_allowed : Bool) (seen : ℕ) (r : ReadSegment) (more : List Item) (c after : Cursor) → is_allowed zero_allowed seen r.position ≡ true → EntryEnds r
    → TakesAll c after (place_items r more) → Again (entry_at place zero_allowed seen c) r more after
unfolding entry_at
entry_again place zero_allowed seen r more c after stands ends (a, at_position, others) =
    let (d, read, last) = segment_again place (target_of r) more a after ends others in
    (d, rw (number_again c r.position a at_position, stands, read) refl, last)

pub record TookRead (room : ℕ) (zero_allowed : Bool) (seen : ℕ) (read : List ReadSegment) (c d : Cursor) : Type 0 where
  pub before : Before (read_items read) c d
  pub stand : Stand zero_allowed seen read
  pub ends : AllByRecursion EntryEnds read
  pub within : length read ≤ room
  pub fits : IsBytes d.rest

read_none : (room : ℕ) (zero_allowed : Bool) (seen : ℕ) (c d : Cursor) (x : List ReadSegment × Cursor) → Takes c d (Boolean false) → IsBytes d.rest
    → done {A = List ReadSegment × Cursor} ([], d) ≡ done x → TookRead room zero_allowed seen x.0 c x.1
read_none room zero_allowed seen c d x taken fits e =
    let made : List ReadSegment × Cursor = ([], d) in
    subst (λ (y : List ReadSegment × Cursor). TookRead room zero_allowed seen y.0 c y.1) (ok_is made x e) (record {
      before = λ more after behind. (d, taken, behind);
      stand = tt;
      ends = tt;
      within = omega arith;
      fits = fits;
    })

read_more : (room : ℕ) (zero_allowed : Bool) (seen : ℕ) (r : ReadSegment) (rs : List ReadSegment) (c d f after : Cursor) (x : List ReadSegment × Cursor)
    → Takes c d (Boolean true) → TookEntry zero_allowed seen r d f → TookRead room zero_allowed (other_position seen r.position) rs f after
    → done {A = List ReadSegment × Cursor} (r ∷ rs, after) ≡ done x → TookRead (suc room) zero_allowed seen x.0 c x.1
read_more room zero_allowed seen r rs c d f after x taken first others e =
    let made : List ReadSegment × Cursor = (r ∷ rs, after) in
    subst (λ (y : List ReadSegment × Cursor). TookRead (suc room) zero_allowed seen y.0 c y.1) (ok_is made x e) (record {
      before = λ more end behind. (d, taken, first.before (read_items rs more) end (others.before more end behind));
      stand = (first.stands, others.stand);
      ends = (first.ends, others.ends);
      within = omega (arith, others.within);
      fits = others.fits;
    })

pub read_list_take : (room : ℕ) (zero_allowed : Bool) (seen : ℕ) (c : Cursor) (x : List ReadSegment × Cursor) → IsBytes c.rest → read_list_at room zero_allowed seen c ≡ Ok x
    → TookRead room zero_allowed seen x.0 c x.1
unfolding read_list_at
read_list_take zero zero_allowed seen c x fits e =
    let end = bind_ok (end_at c) _ x e in
    let t = end_take c end.0 fits end.1 in
    read_none 0 zero_allowed seen c end.0 x t.0 t.1 end.2
read_list_take (suc room) zero_allowed seen c x fits e =
    let more = boolean_step c _ x fits e in
    let entries = entry_at c.place zero_allowed seen more.0.1 >>= λ entry. read_list_at room zero_allowed (other_position seen entry.0.position) entry.1 >>= λ others. done {A = List ReadSegment × Cursor} (entry.0 ∷ others.0, others.1) in
    elim (chosen more.0.0 entries (Ok ([], more.0.1)) (Ok x) more.3) [
      | inl goes ↦
          let entry = bind_ok (entry_at c.place zero_allowed seen more.0.1) _ x goes.1 in
          let k = entry_take c.place zero_allowed seen more.0.1 entry.0 more.2 entry.1 in
          let others = bind_ok (read_list_at room zero_allowed (other_position seen entry.0.0.position) entry.0.1) _ x entry.2 in
          let ks = read_list_take room zero_allowed (other_position seen entry.0.0.position) entry.0.1 others.0 k.fits others.1 in
          read_more room zero_allowed seen entry.0.0 others.0.0 c more.0.1 entry.0.1 others.0.1 x (subst (λ (b : Bool). Takes c more.0.1 (Boolean b)) goes.0 more.1) k ks others.2
      | inr stops ↦ read_none (suc room) zero_allowed seen c more.0.1 x (subst (λ (b : Bool). Takes c more.0.1 (Boolean b)) stops.0 more.1) more.2 stops.1
    ]

pub read_list_again : (read : List ReadSegment) (room : ℕ) (zero_allowed : Bool) (seen : ℕ) (more : List Item) (c after : Cursor) → length read ≤ room
    → Stand zero_allowed seen read → AllByRecursion EntryEnds read → TakesAll c after (read_items read more) → Again (read_list_at room zero_allowed seen c) read more after
unfolding read_list_at
read_list_again [] zero zero_allowed seen more c after within stand ends (d, taken, behind) = (d, rw (end_again c d taken) refl, behind)
read_list_again [] (suc room) zero_allowed seen more c after within stand ends (d, taken, behind) = (d, rw (boolean_placed c false d taken) refl, behind)
read_list_again (r ∷ rs) zero zero_allowed seen more c after within stand ends taken = absurd (omega (arith, within))
read_list_again (r ∷ rs) (suc room) zero_allowed seen more c after within stand ends (d, taken, behind) =
    let (f, first, others) = entry_again c.place zero_allowed seen r (read_items rs more) d after stand.0 ends.0 behind in
    let (g, read, last) = read_list_again rs room zero_allowed (other_position seen r.position) more f after (omega (arith, within)) stand.1 ends.1 others in
    (g, rw (boolean_placed c true d taken, first, read) refl, last)

-- ---- positions

-- the position other than 0 of a list, 0 if there is none
abbrev pub position_of : ℕ → List ReadSegment → ℕ
position_of seen [] = seen
position_of seen (r ∷ rs) = position_of (other_position seen r.position) rs

-- what is seen stays
position_stays : (zero_allowed : Bool) (seen : ℕ) (rs : List ReadSegment) → Stand zero_allowed seen rs → seen ≢ 0 → position_of seen rs ≡ seen
position_stays zero_allowed seen [] stand some = refl
position_stays zero_allowed seen (r ∷ rs) stand some =
    let same : other_position seen r.position ≡ seen = grind (arith, nat_tests, stand.0) in
    let later : other_position seen r.position ≢ 0 = λ e. some (sym same ∙ e) in
    position_stays zero_allowed (other_position seen r.position) rs stand.1 later ∙ same

pub stand_one : (zero_allowed : Bool) (seen : ℕ) (rs : List ReadSegment) → Stand zero_allowed seen rs → AllByRecursion (λ r. r.position ≢ 0 → r.position ≡ position_of seen rs) rs
stand_one zero_allowed seen [] stand = tt
stand_one zero_allowed seen (r ∷ rs) stand = (
  λ some. let now : other_position seen r.position ≡ r.position = grind (arith, nat_tests) in
      let later : other_position seen r.position ≢ 0 = λ e. some (sym now ∙ e) in
      sym (position_stays zero_allowed (other_position seen r.position) rs stand.1 later ∙ now),
  stand_one zero_allowed (other_position seen r.position) rs stand.1,
)

pub stand_apart : (seen : ℕ) (rs : List ReadSegment) → Stand false seen rs → AllByRecursion (λ r. r.position ≢ 0) rs
stand_apart seen [] stand = tt
stand_apart seen (r ∷ rs) stand =
    ((λ e. absurd (let wrong : is_allowed false seen 0 ≡ true = subst (λ (p : ℕ). is_allowed false seen p ≡ true) e stand.0 in cc)), stand_apart (other_position seen r.position) rs stand.1)

-- whether position 0 may stand in the list
abbrev pub ZeroAllowed : Bool → List ReadSegment → Type 0
ZeroAllowed true rs = Unit {0}
ZeroAllowed false rs = AllByRecursion (λ r. r.position ≢ 0) rs

stand_first : (zero_allowed : Bool) (seen position one : ℕ) → (seen ≢ 0 → seen ≡ one) → (position ≢ 0 → position ≡ one) → (zero_allowed ≡ false → position ≢ 0)
    → is_allowed zero_allowed seen position ≡ true
stand_first true seen position one before here apart = grind (arith, nat_tests)
stand_first false seen position one before here apart = let some = apart refl in grind (arith, nat_tests)

next_is : (seen position one : ℕ) → (seen ≢ 0 → seen ≡ one) → (position ≢ 0 → position ≡ one) → other_position seen position ≢ 0 → other_position seen position ≡ one
next_is seen position one before here some =
    elim (eqb_tells position 0) [
      | inl none ↦ rw none.0 (before (rw none.0 at some))
      | inr other ↦ rw other.0 (here other.1)
    ]

zero_head : (zero_allowed : Bool) (r : ReadSegment) (rs : List ReadSegment) → ZeroAllowed zero_allowed (r ∷ rs) → (zero_allowed ≡ false → r.position ≢ 0) × ZeroAllowed zero_allowed rs
zero_head true r rs z = (λ e. absurd cc, tt)
zero_head false r rs z = (λ e. z.0, z.1)

pub one_stands : (zero_allowed : Bool) (seen one : ℕ) (rs : List ReadSegment) → (seen ≢ 0 → seen ≡ one) → AllByRecursion (λ r. r.position ≢ 0 → r.position ≡ one) rs
    → ZeroAllowed zero_allowed rs → Stand zero_allowed seen rs
one_stands zero_allowed seen one [] before all zeros = tt
one_stands zero_allowed seen one (r ∷ rs) before all zeros =
    let z = zero_head zero_allowed r rs zeros in
    let next : other_position seen r.position ≢ 0 → other_position seen r.position ≡ one = λ some. next_is seen r.position one before all.0 some in
    (stand_first zero_allowed seen r.position one before all.0 z.0, one_stands zero_allowed (other_position seen r.position) one rs next all.1 z.1)
