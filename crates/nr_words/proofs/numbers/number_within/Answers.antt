use Rattle.std.proofs.Common.{refl, ◌≡◌, ◌+◌, ◌-◌, ◌*◌, arith, get_or, sym, ◌∙◌}
use Rattle.nr_words.proofs.Digits.{none_at, past_at, whole_at, next_digit, digit_test, below_digits, above_digits, inside, below, not_zero}
use Rattle.nr_words.proofs.numbers.number_within.Goals as goal

pub returns-then-byte-lt48 : goal.returns-then-byte-lt48
returns-then-byte-lt48 c =
    none_at c.args.low c.args.high c.loop-byte.value c.loop-byte.byte-index c.args.text.now c.args.text.now refl (omega arith) c.loop-byte.invariant.0
    (below_digits _ c.if-byte-lt48.true)

pub returns-then-byte-gt57 : goal.returns-then-byte-gt57
returns-then-byte-gt57 c =
    none_at c.args.low c.args.high c.loop-byte.value c.loop-byte.byte-index c.args.text.now c.args.text.now refl (omega arith) c.loop-byte.invariant.0
    (above_digits _ c.if-byte-gt57.true)

pub returns-then-next-from : goal.returns-then-next-from
returns-then-next-from c =
    past_at c.args.low c.args.high c.loop-byte.value c.loop-byte.byte-index c.args.text.now c.args.text.now refl (omega arith) c.loop-byte.invariant.0
    (digit_test _ c.if-byte-lt48.false c.if-byte-gt57.false) (omega arith)

pub loop-byte-preserved : goal.loop-byte-preserved
loop-byte-preserved c =
    let items = c.args.text.now in
    let i = c.loop-byte.byte-index in
    let next = c.from.result * 10 + c.from-in-loop-byte.result in
    let same : c.loop-byte.value * 10 + (get_or items i 0 - 48) ≡ next = omega arith in
    let step = next_digit c.loop-byte.value items i (omega arith) (digit_test _ c.if-byte-lt48.false c.if-byte-gt57.false) in
    (c.loop-byte.invariant.0 ∙ rw same at step, omega arith)

pub returns-then-value-low : goal.returns-then-value-low
returns-then-value-low c =
    sym (whole_at c.args.low c.args.high c.loop-byte.value c.loop-byte.byte-index c.args.text.now c.args.text.now refl (not_zero c.args.text.now c.args.text.now refl c.if-is_empty.ensures) (omega arith) c.loop-byte.invariant.0
    ∙ below c.args.low c.args.high c.loop-byte.value c.if-value-low.true)

pub returns : goal.returns
returns c =
    sym (whole_at c.args.low c.args.high c.loop-byte.value c.loop-byte.byte-index c.args.text.now c.args.text.now refl (not_zero c.args.text.now c.args.text.now refl c.if-is_empty.ensures) (omega arith) c.loop-byte.invariant.0
    ∙ inside c.args.low c.args.high c.loop-byte.value c.if-value-low.false c.loop-byte.invariant.1)
