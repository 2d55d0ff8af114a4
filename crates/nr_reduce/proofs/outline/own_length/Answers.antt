use Rattle.std.proofs.Common.{arith}
use Rattle.nr_reduce.proofs.Segments.{begins_within}
use Rattle.nr_reduce.proofs.outline.own_length.Goals as goal

pub overflow_cast-before : goal.overflow_cast-before
overflow_cast-before c = (let b = begins_within c.args.len c.args.index c.requires in let small = c.ranges.len.fits in omega (arith, b, small))

pub overflow_mul-before : goal.overflow_mul-before
overflow_mul-before c = (let b = begins_within c.args.len c.args.index c.requires in let small = c.ranges.len.fits in omega (arith, b, small))

pub overflow_sub-len : goal.overflow_sub-len
overflow_sub-len c = (let b = begins_within c.args.len c.args.index c.requires in omega (arith, b))
