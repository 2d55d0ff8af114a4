-- A hello is read if and only if it is encoded.
use Rattle.std.proofs.Common.{◌≡◌, ℕ, ◌+◌, ◌^◌, ◌<◌, ◌≤◌, Bool, true, false, not, cond, eqb, ltb, List, ◌∷◌, ◌++◌, length, get_or, take, drop, Option, None, Some, refl, sym, ap, ◌∙◌, subst, ◌↔◌, arith}
use Rattle.std.specs.List.{starts_with}
use Rattle.std.specs.Prelude.{nat_eq}
use Rattle.std.proofs.lemmas.Bool.{ltb-false, le-ltb, eqb-true, eq-eqb}
use Rattle.std.proofs.lemmas.Bool.Decides.{Decides-eqb}
use Rattle.std.proofs.lemmas.List.{take_at, drop_at, take-append-drop, length-append, length-take-le, length-drop, drop_more, take_all, take-take, get_or-take, get_or_append_left}
use Rattle.std.proofs.lemmas.Slice.Eq.{starts_is}
use Rattle.nr_xdr.specs.Item.{IsBytes}
use Rattle.nr_xdr.proofs.WordBytes.{IsBytes_take, IsBytes_drop}
use Rattle.nr_wire.specs.Constants.{HELLO_LEN, HELLO_REVISION, PRIVATE_MAX}
use Rattle.nr_wire.specs.declared.hello.Side.{Side}
use Rattle.nr_wire.specs.declared.hello.Side.TheVariants.{Initiator, Responder}
use Rattle.nr_wire.specs.declared.stream.Awaited.TheVariants.{Hello as HelloFrom}
use Rattle.nr_wire.specs.Fields.{half_word, half_word_of}
use Rattle.nr_wire.specs.Hello.{Hello, key, hello_encoding, flags_of, revision_of, private_len, is_refused_by, IsAccepted, hello_reason, hello_of, hello_size, hello_len}
use Rattle.nr_wire.specs.Next.{Next, hello_in}
use Rattle.nr_wire.specs.Next.Next.{Whole, More, Bad}
use Rattle.nr_wire.specs.Stream.{is_whole, IsFrame, IsPartial}
use Rattle.nr_wire.proofs.HalfWords.{half_word_half_word_of, half_word_of_half_word}
use Rattle.nr_wire.proofs.Nexts.{answer, fine_from, whole_by, more_iff, bad_iff}
use Rattle.nr_wire.proofs.FrontFrame.{front_frame}
use Rattle.nr_wire.proofs.Frames.{Whole as IsWhole, whole_from, is_whole_from, partial_not_whole, partial_from, fields_within, half_word_at_append}

pub length_key : (side : Side) → length (key side) ≡ 16
unfolding key
length_key Initiator = refl
length_key Responder = refl

-- the 20 bytes that open a hello
opening : Hello → List ℕ
opening hello = key hello.side ++ (hello.flags ∷ HELLO_REVISION ∷ half_word (length hello.private))

encoding_opening : (hello : Hello) → hello_encoding hello ≡ opening hello ++ hello.private
unfolding hello_encoding opening
encoding_opening hello = refl

length_opening : (hello : Hello) → length (opening hello) ≡ 20
unfolding opening key half_word
length_opening hello = elim hello.side as (λ (s : Side). length (key s ++ (hello.flags ∷ HELLO_REVISION ∷ half_word (length hello.private))) ≡ 20) [ Initiator ↦ refl | Responder ↦ refl ]

-- its fields
record Fields (side : Side) (flags n : ℕ) (head : List ℕ) : Type 0 where
  key_is : starts_with nat_eq head (key side) ≡ true
  flags_is : flags_of head ≡ flags
  revision_is : revision_of head ≡ HELLO_REVISION
  private_is : private_len head ≡ n

by_side : (side : Side) (flags n : ℕ) → n < 2 ^ 16 → Fields side flags n (key side ++ (flags ∷ HELLO_REVISION ∷ half_word n))
unfolding key half_word
by_side Initiator flags n lt = record { key_is = refl; flags_is = refl; revision_is = refl; private_is = half_word_of_half_word n lt }
by_side Responder flags n lt = record { key_is = refl; flags_is = refl; revision_is = refl; private_is = half_word_of_half_word n lt }

-- why fields are refused
abbrev flaw_by : Bool → Bool → Bool → Bool → Option ℕ
flaw_by same refused revision long = cond (not same) (Some 1) (cond refused (Some 2) (cond (not revision) (Some 3) (cond long (Some 4) None)))

no_flaw : (side : Side) (flags n : ℕ) (head : List ℕ) → Fields side flags n head → is_refused_by side flags ≡ false → n ≤ PRIVATE_MAX → hello_reason side head ≡ None
unfolding hello_reason
no_flaw side flags n head f fine le =
    λ i. flaw_by (f.key_is i) ((ap (is_refused_by side) f.flags_is ∙ fine) i) (eq-eqb (revision_of head) HELLO_REVISION f.revision_is i) ((ap (ltb PRIVATE_MAX) f.private_is ∙ le-ltb PRIVATE_MAX n le) i)

abbrev as_answer : Side → List ℕ → Next Hello
as_answer side bytes =
    let frame = take (hello_len side bytes) bytes in
    answer (is_whole (HelloFrom side) bytes) (hello_reason side (take HELLO_LEN frame)) (record { side = side; flags = flags_of frame; private = drop HELLO_LEN frame }) (hello_len side bytes)

hello_in_answer : (side : Side) (bytes : List ℕ) → hello_in side bytes ≡ as_answer side bytes
unfolding hello_in hello_of
hello_in_answer side bytes = refl

-- a complete hello that isn't refused
record Encoded (hello : Hello) (frame : List ℕ) : Type 0 where
  flaw : hello_reason hello.side (take HELLO_LEN frame) ≡ None
  flags : flags_of frame ≡ hello.flags
  private : drop HELLO_LEN frame ≡ hello.private
  frame_is : IsFrame (HelloFrom hello.side) frame

encoded : (hello : Hello) → IsAccepted hello → Encoded hello (hello_encoding hello)
unfolding hello_len opening
encoded hello h =
    let side = hello.side in
    let n = length hello.private in
    let head = opening hello in
    let fields = by_side side hello.flags n (omega (arith, h.1)) in
    let frame = hello_encoding hello in
    let is : frame ≡ head ++ hello.private = encoding_opening hello in
    let front : take HELLO_LEN frame ≡ head = ap (take HELLO_LEN) is ∙ take_at head hello.private HELLO_LEN (length_opening hello) in
    let flaw : hello_reason side (take HELLO_LEN frame) ≡ None = ap (hello_reason side) front ∙ no_flaw side hello.flags n head fields h.0 h.1 in
    let size : private_len frame ≡ n = ap private_len is ∙ half_word_at_append 18 head hello.private (omega (arith, length_opening hello)) ∙ fields.private_is in
    let len : hello_len side frame ≡ HELLO_LEN + n = λ i. hello_size (flaw i) (size i) in
    let whole : length frame ≡ HELLO_LEN + n = ap length is ∙ length-append head hello.private ∙ ap (λ (k : ℕ). k + n) (length_opening hello) in
    record {
      flaw = flaw;
      flags = ap flags_of is ∙ get_or_append_left head hello.private 0 16 (omega (arith, length_opening hello)) ∙ fields.flags_is;
      private = ap (drop HELLO_LEN) is ∙ drop_at head hello.private HELLO_LEN (length_opening hello);
      frame_is = record { fields = omega (arith, whole); len = len ∙ sym whole };
    }

-- what is encoded so is read
pub hello_again : (hello : Hello) (more : List ℕ) → IsAccepted hello → hello_in hello.side (hello_encoding hello ++ more) ≡ Whole hello (length (hello_encoding hello))
hello_again hello more h =
    let side = hello.side in
    let s = encoded hello h in
    let frame = hello_encoding hello in
    let bytes = frame ++ more in
    let front = front_frame (HelloFrom side) frame more s.frame_is in
    let value : ◌≡◌ {A = Hello} (record { side = side; flags = flags_of frame; private = drop HELLO_LEN frame }) hello = λ i. record { side = side; flags = s.flags i; private = s.private i } in
    hello_in_answer side bytes
    ∙ whole_by (is_whole (HelloFrom side) bytes) (hello_reason side (take HELLO_LEN (take (hello_len side bytes) bytes)))
    (record { side = side; flags = flags_of (take (hello_len side bytes) bytes); private = drop HELLO_LEN (take (hello_len side bytes) bytes) }) hello (hello_len side bytes) (length frame)
    (record {
      whole_is = front.whole;
      flaw_is = ap (λ (x : List ℕ). hello_reason side (take HELLO_LEN x)) front.front ∙ s.flaw;
      value_is = ap (λ (x : List ℕ). record { side = side; flags = flags_of x; private = drop HELLO_LEN x }) front.front ∙ value;
      len_is = front.len;
    })

-- the tests of a hello without a flaw
record Passed (same refused revision long : Bool) : Type 0 where
  same_is : same ≡ true
  refused_is : refused ≡ false
  revision_is : revision ≡ true
  long_is : long ≡ false

abbrev some : ℕ → Option ℕ
some n = Some n

passed : (same refused revision long : Bool) → flaw_by same refused revision long ≡ None → Passed same refused revision long
passed true false true false e = record { same_is = refl; refused_is = refl; revision_is = refl; long_is = refl }
passed true false true true e = absurd (let wrong : some 4 ≡ None = e in cc)
passed true false false long e = absurd (let wrong : some 3 ≡ None = e in cc)
passed true true revision long e = absurd (let wrong : some 2 ≡ None = e in cc)
passed false refused revision long e = absurd (let wrong : some 1 ≡ None = e in cc)

passed_in : (side : Side) (head : List ℕ) → hello_reason side head ≡ None
    → Passed (starts_with nat_eq head (key side)) (is_refused_by side (flags_of head)) (eqb (revision_of head) HELLO_REVISION) (ltb PRIVATE_MAX (private_len head))
unfolding hello_reason
passed_in side head e = passed (starts_with nat_eq head (key side)) (is_refused_by side (flags_of head)) (eqb (revision_of head) HELLO_REVISION) (ltb PRIVATE_MAX (private_len head)) e

-- 20 bytes that pass are an opening
opening_of : (side : Side) (head : List ℕ) → IsBytes head → length head ≡ 20 → hello_reason side head ≡ None → head ≡ key side ++ (flags_of head ∷ HELLO_REVISION ∷ half_word (private_len head))
opening_of side head fits len e =
    let p = passed_in side head e in
    let starts : head ≡ key side ++ drop (length (key side)) head = (starts_is Decides-eqb head (key side) (starts_with nat_eq head (key side)) refl).0 p.same_is in
    let two : length (drop 18 head) ≡ 2 = omega (arith, length-drop 18 head) in
    let last : drop 18 head ≡ half_word (private_len head) =
    sym (ap half_word (ap half_word_of (take_all 2 (drop 18 head) (omega (arith, two)))) ∙ half_word_half_word_of (drop 18 head) two (IsBytes_drop 18 head fits)) in
    let revision : get_or head 17 0 ≡ HELLO_REVISION = eqb-true _ _ p.revision_is in
    let cells : drop 16 head ≡ flags_of head ∷ HELLO_REVISION ∷ half_word (private_len head) =
    drop_more head 16 0 (omega (arith, len))
    ∙ ap (λ (x : List ℕ). flags_of head ∷ x) (drop_more head 17 0 (omega (arith, len)) ∙ (λ i. revision i ∷ last i)) in
    starts ∙ ap (λ (n : ℕ). key side ++ drop n head) (length_key side) ∙ ap (λ (x : List ℕ). key side ++ x) cells

-- what is read is encoded so
pub record HelloFound (side : Side) (bytes : List ℕ) (hello : Hello) (len : ℕ) : Type 0 where
  pub side_is : hello.side ≡ side
  pub accepted : IsAccepted hello
  pub encoded_is : take len bytes ≡ hello_encoding hello
  pub within : len ≤ length bytes

hello_there : (side : Side) (bytes : List ℕ) → IsBytes bytes → IsWhole (HelloFrom side) bytes
    → hello_reason side (take HELLO_LEN (take (hello_len side bytes) bytes)) ≡ None
    → HelloFound side bytes (record { side = side; flags = flags_of (take (hello_len side bytes) bytes); private = drop HELLO_LEN (take (hello_len side bytes) bytes) }) (hello_len side bytes)
unfolding hello_encoding hello_len
hello_there side bytes fits w e =
    let size = hello_len side bytes in
    let frame = take size bytes in
    let head = take HELLO_LEN frame in
    let least = fields_within (HelloFrom side) bytes in
    let front : head ≡ take HELLO_LEN bytes = take-take HELLO_LEN size bytes least in
    let frame_len : length frame ≡ size = length-take-le size bytes w.frame in
    let head_len : length head ≡ 20 = length-take-le HELLO_LEN frame (omega arith) in
    let n = private_len bytes in
    let flaw : hello_reason side (take HELLO_LEN bytes) ≡ None = ap (hello_reason side) (sym front) ∙ e in
    let is : size ≡ HELLO_LEN + n = ap (λ (f : Option ℕ). hello_size f n) flaw in
    let n_is : private_len head ≡ n =
    sym (half_word_at_append 18 head (drop HELLO_LEN bytes) (omega arith))
    ∙ ap private_len (ap (λ (x : List ℕ). x ++ drop HELLO_LEN bytes) front ∙ take-append-drop HELLO_LEN bytes) in
    let private = drop HELLO_LEN frame in
    let private_is : length private ≡ n = omega (arith, length-drop HELLO_LEN frame, is) in
    let p = passed_in side head e in
    let opened = opening_of side head (IsBytes_take HELLO_LEN frame (IsBytes_take size bytes fits)) head_len e in
    let flags : flags_of head ≡ flags_of frame = get_or-take HELLO_LEN frame 16 0 (omega arith) in
    let below : private_len head ≤ PRIVATE_MAX = ltb-false _ _ p.long_is in
    record {
      side_is = refl;
      accepted = (ap (is_refused_by side) (sym flags) ∙ p.refused_is, omega arith);
      encoded_is = sym (take-append-drop HELLO_LEN frame)
          ∙ ap (λ (x : List ℕ). x ++ private) (opened ∙ (λ i. key side ++ (flags i ∷ HELLO_REVISION ∷ half_word ((n_is ∙ sym private_is) i))));
      within = w.frame;
    }

pub hello_found : (side : Side) (bytes : List ℕ) (hello : Hello) (len : ℕ) → IsBytes bytes → hello_in side bytes ≡ Whole hello len → HelloFound side bytes hello len
hello_found side bytes hello len fits e =
    let size = hello_len side bytes in
    let frame = take size bytes in
    let read : Hello = record { side = side; flags = flags_of frame; private = drop HELLO_LEN frame } in
    let f = fine_from (is_whole (HelloFrom side) bytes) (hello_reason side (take HELLO_LEN frame)) read hello size len (sym (hello_in_answer side bytes) ∙ e) in
    let there = hello_there side bytes fits (whole_from (HelloFrom side) bytes f.whole_is) f.flaw_is in
    subst (λ (n : ℕ). HelloFound side bytes hello n) f.len_is (subst (λ (h : Hello). HelloFound side bytes h size) f.value_is there)

pub hello_more : (side : Side) (bytes : List ℕ) → (hello_in side bytes ≡ More) ↔ IsPartial (HelloFrom side) bytes
hello_more side bytes =
    let frame = take (hello_len side bytes) bytes in
    let iff = more_iff (is_whole (HelloFrom side) bytes) (hello_reason side (take HELLO_LEN frame)) (record { side = side; flags = flags_of frame; private = drop HELLO_LEN frame }) (hello_len side bytes) in
    let same = hello_in_answer side bytes in (
      λ e. partial_from (HelloFrom side) bytes (iff.0 (sym same ∙ e)),
      λ p. same ∙ iff.1 (partial_not_whole (HelloFrom side) bytes p),
    )

front_of_frame : (side : Side) (bytes : List ℕ) → take HELLO_LEN (take (hello_len side bytes) bytes) ≡ take HELLO_LEN bytes
front_of_frame side bytes = take-take HELLO_LEN (hello_len side bytes) bytes (fields_within (HelloFrom side) bytes)

refused_len : (side : Side) (bytes : List ℕ) (reason : ℕ) → hello_reason side (take HELLO_LEN bytes) ≡ Some reason → hello_len side bytes ≡ HELLO_LEN
unfolding hello_len
refused_len side bytes reason e = ap (λ (f : Option ℕ). hello_size f (private_len bytes)) e

pub hello_bad : (side : Side) (bytes : List ℕ) (reason : ℕ) → (hello_in side bytes ≡ Bad reason) ↔ ((HELLO_LEN ≤ length bytes) × (hello_reason side (take HELLO_LEN bytes) ≡ Some reason))
hello_bad side bytes reason =
    let frame = take (hello_len side bytes) bytes in
    let iff = bad_iff (is_whole (HelloFrom side) bytes) (hello_reason side (take HELLO_LEN frame)) (record { side = side; flags = flags_of frame; private = drop HELLO_LEN frame }) (hello_len side bytes) reason in
    let same = hello_in_answer side bytes in
    let front = ap (hello_reason side) (front_of_frame side bytes) in (
      λ e. let p = iff.0 (sym same ∙ e) in ((whole_from (HelloFrom side) bytes p.0).fields, sym front ∙ p.1),
      λ p.
          let len = refused_len side bytes reason p.1 in
          same ∙ iff.1 (is_whole_from (HelloFrom side) bytes (record { fields = p.0; frame = omega (arith, len, p.0) }), front ∙ p.1),
    )
