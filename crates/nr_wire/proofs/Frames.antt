-- The three facts of a frame on which all laws of streams stand: its fields are some, it is no shorter than its fields,
-- and its length doesn't change as bytes are appended.
use Rattle.std.proofs.Common.{◌≡◌, ℕ, ◌+◌, ◌-◌, ◌<◌, ◌≤◌, Bool, true, false, List, [], ◌++◌, length, replicate, take, drop, Option, None, Some, refl, sym, ap, ◌∙◌, subst, inl, inr, arith, cond, IfSome, IsNone, ◌↔◌}
use Rattle.std.proofs.lemmas.Bool.{leb-true, le-leb, and_parts, and_from, both_ways, false_from_ne_true, cases_lt, lt-ltb, le-ltb}
use Rattle.std.proofs.lemmas.List.{take-append-le, drop-append-le, length-drop, length-take-le, length-append, length-replicate, take-append-drop, append_assoc, append-nil}
use Rattle.nr_xdr.specs.Item.{pad_len}
use Rattle.nr_wire.specs.Constants.{HELLO_LEN, LENGTH_LEN}
use Rattle.nr_wire.specs.declared.hello.Side.{Side}
use Rattle.nr_wire.specs.declared.stream.Awaited.{Awaited}
use Rattle.nr_wire.specs.declared.stream.Awaited.TheVariants.{Hello, Fpdu}
use Rattle.nr_wire.specs.Fields.{half_word_at, half_word_of}
use Rattle.nr_wire.specs.Hello.{hello_reason, hello_size, hello_len}
use Rattle.nr_wire.specs.Segment.{fpdu_size, fpdu_len, ulpdu_len}
use Rattle.nr_wire.specs.Stream.{fields_len, frame_len, is_whole, IsFrame, IsPartial, bytes_needed}

pub half_word_at_append : (place : ℕ) (xs ys : List ℕ) → place + 2 ≤ length xs → half_word_at place (xs ++ ys) ≡ half_word_at place xs
half_word_at_append place xs ys le =
    let enough : 2 ≤ length (drop place xs) = omega (arith, length-drop place xs) in
    ap half_word_of (ap (take 2) (drop-append-le place xs ys (omega arith)) ∙ take-append-le 2 (drop place xs) ys enough)

pub hello_len_append : (side : Side) (xs ys : List ℕ) → HELLO_LEN ≤ length xs → hello_len side (xs ++ ys) ≡ hello_len side xs
unfolding hello_len
hello_len_append side xs ys le =
    let head : take HELLO_LEN (xs ++ ys) ≡ take HELLO_LEN xs = take-append-le HELLO_LEN xs ys le in
    let private : half_word_at 18 (xs ++ ys) ≡ half_word_at 18 xs = half_word_at_append 18 xs ys (omega arith) in
    ap (λ (front : List ℕ). hello_size (hello_reason side front) (half_word_at 18 (xs ++ ys))) head
    ∙ ap (λ (n : ℕ). hello_size (hello_reason side (take HELLO_LEN xs)) n) private

hello_size_least : (flaw : Option ℕ) (n : ℕ) → HELLO_LEN ≤ hello_size flaw n
hello_size_least None n = omega arith
hello_size_least (Some reason) n = omega arith

pub fpdu_size_least : (n : ℕ) → (8 ≤ fpdu_size n) × (LENGTH_LEN + n ≤ fpdu_size n)
unfolding fpdu_size pad_len
fpdu_size_least n = (omega arith, omega arith)

pub fields_some : (a : Awaited) → 0 < fields_len a
fields_some (Hello side) = omega arith
fields_some Fpdu = omega arith

pub fields_within : (a : Awaited) (bytes : List ℕ) → fields_len a ≤ frame_len a bytes
unfolding hello_len fpdu_len
fields_within (Hello side) bytes = hello_size_least (hello_reason side (take HELLO_LEN bytes)) (half_word_at 18 bytes)
fields_within Fpdu bytes = omega (arith, fpdu_size_least (ulpdu_len bytes))

pub frame_len_append : (a : Awaited) (xs ys : List ℕ) → fields_len a ≤ length xs → frame_len a (xs ++ ys) ≡ frame_len a xs
unfolding fpdu_len
frame_len_append (Hello side) xs ys le = hello_len_append side xs ys le
frame_len_append Fpdu xs ys le = ap fpdu_size (half_word_at_append 0 xs ys (omega arith))

-- what the test says
pub record Whole (a : Awaited) (bytes : List ℕ) : Type 0 where
  pub fields : fields_len a ≤ length bytes
  pub frame : frame_len a bytes ≤ length bytes

pub whole_from : (a : Awaited) (bytes : List ℕ) → is_whole a bytes ≡ true → Whole a bytes
unfolding is_whole
whole_from a bytes e =
    let parts = and_parts _ _ e in
    record { fields = leb-true _ _ parts.0; frame = leb-true _ _ parts.1 }

pub is_whole_from : (a : Awaited) (bytes : List ℕ) → Whole a bytes → is_whole a bytes ≡ true
unfolding is_whole
is_whole_from a bytes w = and_from _ _ (le-leb _ _ w.fields) (le-leb _ _ w.frame)

-- a complete frame by itself has its own length
pub frame_len_take : (a : Awaited) (bytes : List ℕ) → Whole a bytes → frame_len a (take (frame_len a bytes) bytes) ≡ frame_len a bytes
frame_len_take a bytes w =
    let n = frame_len a bytes in
    let len : length (take n bytes) ≡ n = length-take-le n bytes w.frame in
    sym (frame_len_append a (take n bytes) (drop n bytes) (omega (arith, fields_within a bytes)))
    ∙ ap (frame_len a) (take-append-drop n bytes)

pub IsFrame_take : (a : Awaited) (bytes : List ℕ) → Whole a bytes → IsFrame a (take (frame_len a bytes) bytes)
IsFrame_take a bytes w =
    let len : length (take (frame_len a bytes) bytes) ≡ frame_len a bytes = length-take-le (frame_len a bytes) bytes w.frame in
    record { fields = omega (arith, fields_within a bytes); len = frame_len_take a bytes w ∙ sym len }

-- a frame is complete, whatever comes after it
pub whole_append : (a : Awaited) (xs ys : List ℕ) → Whole a xs → Whole a (xs ++ ys)
whole_append a xs ys w =
    let len = frame_len_append a xs ys w.fields in
    record { fields = omega (arith, length-append xs ys, w.fields); frame = omega (arith, length-append xs ys, w.frame, len) }

pub partial_not_whole : (a : Awaited) (bytes : List ℕ) → IsPartial a bytes → is_whole a bytes ≡ false
partial_not_whole a bytes p =
    false_from_ne_true _ (λ e.
    let w = whole_from a bytes e in
    omega (arith, p.some, length-append bytes p.more, p.frame.len, frame_len_append a bytes p.more w.fields, w.frame))

-- what is less than its frame, brought to the length of its fields, and then to the frame's
begun : (a : Awaited) (bytes more : List ℕ) → fields_len a ≤ length (bytes ++ more) → length (bytes ++ more) ≤ frame_len a (bytes ++ more) → length bytes < frame_len a (bytes ++ more) → IsPartial a bytes
begun a bytes more fields within lt =
    let front = bytes ++ more in
    let n = frame_len a front in
    let zeros = replicate (n - length front) 0 in
    let len : length (front ++ zeros) ≡ n = omega (arith, length-append front zeros, length-replicate {A = ℕ} (n - length front) 0) in
    let frame : IsFrame a (front ++ zeros) = record {
      fields = omega (arith, fields_within a front);
      len = frame_len_append a front zeros fields ∙ sym len;
    } in
    record {
      more = more ++ zeros;
      some = omega (arith, length-append bytes more, length-append more zeros, length-replicate {A = ℕ} (n - length front) 0);
      frame = subst (IsFrame a) (append_assoc bytes more zeros) frame;
    }

not_whole : (a : Awaited) (bytes : List ℕ) → is_whole a bytes ≡ false → fields_len a ≤ length bytes → length bytes < frame_len a bytes
not_whole a bytes e fields =
    elim (cases_lt (length bytes) (frame_len a bytes)) [
      | inl lt ↦ lt
      | inr le ↦ absurd (both_ways _ e (is_whole_from a bytes (record { fields = fields; frame = le })))
    ]

pub partial_from : (a : Awaited) (bytes : List ℕ) → is_whole a bytes ≡ false → IsPartial a bytes
partial_from a bytes e =
    elim (cases_lt (length bytes) (fields_len a)) [
      | inl lt ↦
          let zeros = replicate (fields_len a - length bytes) 0 in
          let len : length (bytes ++ zeros) ≡ fields_len a = omega (arith, length-append bytes zeros, length-replicate {A = ℕ} (fields_len a - length bytes) 0) in
          let within = fields_within a (bytes ++ zeros) in
          begun a bytes zeros (omega arith) (omega arith) (omega arith)
      | inr le ↦
          let same : bytes ++ [] ≡ bytes = append-nil bytes in
          let lt : length bytes < frame_len a (bytes ++ []) = rw same (not_whole a bytes e le) in
          begun a bytes [] (rw same le) (rw same (omega (arith, not_whole a bytes e le))) lt
    ]

-- what a complete FPDU has room for
pub fpdu_holds : (frame : List ℕ) → IsFrame Fpdu frame → (4 ≤ length frame) × (LENGTH_LEN + ulpdu_len frame ≤ length frame)
unfolding fpdu_len
fpdu_holds frame f = let least = fpdu_size_least (ulpdu_len frame) in (omega (arith, f.len), omega (arith, f.len))

-- what is found at the front of some bytes
abbrev pub found : Awaited → List ℕ → Option ℕ
found a bytes = cond (is_whole a bytes) (Some (frame_len a bytes)) None

found_by : (a : Awaited) (bytes : List ℕ) (w : Bool) → is_whole a bytes ≡ w → IfSome (cond w (Some (frame_len a bytes)) None) (λ len. IsFrame a (take len bytes) × (len ≤ length bytes))
found_by a bytes true e = (IsFrame_take a bytes (whole_from a bytes e), (whole_from a bytes e).frame)
found_by a bytes false e = tt

pub frame_found : (a : Awaited) (bytes : List ℕ) (r : Option ℕ) → r ≡ found a bytes → IfSome r (λ len. IsFrame a (take len bytes) × (len ≤ length bytes))
frame_found a bytes r e = rw e (found_by a bytes (is_whole a bytes) refl)

none_by : (a : Awaited) (bytes : List ℕ) (w : Bool) → is_whole a bytes ≡ w → IsNone (cond w (Some (frame_len a bytes)) None) ↔ IsPartial a bytes
none_by a bytes true e = (λ h. absurd (let wrong : true ≡ false = h in cc), λ p. absurd (both_ways _ (partial_not_whole a bytes p) e))
none_by a bytes false e = (λ h. partial_from a bytes e, λ p. refl)

pub none_iff : (a : Awaited) (bytes : List ℕ) (r : Option ℕ) → r ≡ found a bytes → IsNone r ↔ IsPartial a bytes
none_iff a bytes r e = rw e (none_by a bytes (is_whole a bytes) refl)

-- nothing is less than any frame
pub partial_nil : (a : Awaited) → IsPartial a []
partial_nil a = partial_from a [] (false_from_ne_true _ (λ e. let w = whole_from a [] e in omega (arith, fields_some a, w.fields)))

-- the frame is longer than what is less than it
pub shorter_than_frame : (a : Awaited) (rest more : List ℕ) → IsPartial a rest → length rest ≤ frame_len a (rest ++ more)
shorter_than_frame a rest more p =
    elim (cases_lt (length rest) (fields_len a)) [
      | inl lt ↦ omega (arith, fields_within a (rest ++ more))
      | inr le ↦ omega (arith, not_whole a rest (partial_not_whole a rest p) le, frame_len_append a rest more le)
    ]

-- fewer bytes than its fields, or than it has
short_partial : (a : Awaited) (bytes : List ℕ) → length bytes < fields_len a → IsPartial a bytes
short_partial a bytes lt = partial_from a bytes (false_from_ne_true _ (λ e. let w = whole_from a bytes e in omega (arith, w.fields)))

long_partial : (a : Awaited) (bytes : List ℕ) → length bytes < frame_len a bytes → IsPartial a bytes
long_partial a bytes lt = partial_from a bytes (false_from_ne_true _ (λ e. let w = whole_from a bytes e in omega (arith, w.frame)))

needed_fields : (a : Awaited) (rest : List ℕ) → length rest < fields_len a → bytes_needed a rest ≡ fields_len a - length rest
unfolding bytes_needed
needed_fields a rest lt = rw (lt-ltb (length rest) (fields_len a) lt) refl

needed_frame : (a : Awaited) (rest : List ℕ) → fields_len a ≤ length rest → bytes_needed a rest ≡ frame_len a rest - length rest
unfolding bytes_needed
needed_frame a rest le = rw (le-ltb (length rest) (fields_len a) le) refl

-- some bytes are needed if and only if the frame isn't complete
pub needed_some : (a : Awaited) (rest : List ℕ) → IsPartial a rest ↔ (0 < bytes_needed a rest)
needed_some a rest =
    elim (cases_lt (length rest) (fields_len a)) [
      | inl lt ↦ (λ p. omega (arith, needed_fields a rest lt), λ h. short_partial a rest lt)
      | inr le ↦ (
        λ p. omega (arith, needed_frame a rest le, not_whole a rest (partial_not_whole a rest p) le),
        λ h. long_partial a rest (omega (arith, needed_frame a rest le)),
      )
    ]

-- fewer bytes than are needed don't complete it
pub needed_less : (a : Awaited) (rest more : List ℕ) → length more < bytes_needed a rest → IsPartial a (rest ++ more)
needed_less a rest more lt =
    elim (cases_lt (length rest) (fields_len a)) [
      | inl short ↦ short_partial a (rest ++ more) (omega (arith, length-append rest more, needed_fields a rest short))
      | inr le ↦ long_partial a (rest ++ more) (omega (arith, length-append rest more, needed_frame a rest le, frame_len_append a rest more le))
    ]

-- as many as are needed complete its fields, or else the frame
pub needed_just : (a : Awaited) (rest more : List ℕ) → IsPartial a rest → length more ≡ bytes_needed a rest
    → (length rest < fields_len a → length (rest ++ more) ≡ fields_len a) × (fields_len a ≤ length rest → IsFrame a (rest ++ more))
needed_just a rest more p e = (
  λ lt. omega (arith, length-append rest more, needed_fields a rest lt),
  λ le.
      let lt = not_whole a rest (partial_not_whole a rest p) le in
      let same = frame_len_append a rest more le in
      record {
        fields = omega (arith, length-append rest more);
        len = same ∙ omega (arith, length-append rest more, needed_frame a rest le);
      },
)
