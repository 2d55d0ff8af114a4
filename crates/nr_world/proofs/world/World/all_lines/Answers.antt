use Rattle.std.proofs.Common.{arith, sym, subst}
use Rattle.nr_script.specs.declared.script.Line.{Line}
use Rattle.nr_world.specs.private.Stands.{MakesLine}
use Rattle.nr_world.specs.private.Within.{CanMake}
use Rattle.nr_world.proofs.LineSteps.{lines_on, lines_end, line_within}
use Rattle.nr_world.proofs.world.World.all_lines.Goals as goal

pub loop-line-init : goal.loop-line-init
loop-line-init c = (c.requires, λ tree opening d h may. (d, h, may, λ last made. made))

pub line-requires : goal.line-requires
line-requires c = subst (λ (e : Line). CanMake e c.loop-line.self) (sym c.line-item.is)
    (line_within c.loop-line.self c.args.lines.now c.loop-line.line-index c.line-item.result c.loop-line-test.true c.loop-line.invariant.0)

pub loop-line-preserved : goal.loop-line-preserved
loop-line-preserved c = lines_on c.args.self.now c.loop-line.self c.line.new.self c.args.lines.now c.loop-line.line-index c.line-item.result c.loop-line-test.true c.loop-line.invariant
    (subst (λ (e : Line). MakesLine e c.loop-line.self c.line.new.self) c.line-item.is c.in_ok-line.ensures)

pub returns : goal.returns
returns c = lines_end c.args.self.now c.loop-line.self c.args.lines.now c.loop-line.line-index (omega (arith, c.loop-line-test.false)) c.loop-line.invariant
