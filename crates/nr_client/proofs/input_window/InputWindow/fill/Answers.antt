use Rattle.std.proofs.Common.{refl, ◌∙◌}
use Rattle.nr_client.proofs.InputWindows.{takes_none, takes_then}
use Rattle.nr_client.proofs.input_window.InputWindow.fill.Goals as goal

pub loop-self-init : goal.loop-self-init
loop-self-init g c = (takes_none _ _ _ _ c.requires.below, refl)

pub loop-self-preserved : goal.loop-self-preserved
loop-self-preserved g c =
    (takes_then _ _ _ _ _ _ _ _ _ _ c.loop-self.invariant.0 c.read_more.ensures.takes, c.in-Ok.ensures.counted ∙ c.loop-self.invariant.1)

pub returns-in-Err-clause-takes : goal.returns-in-Err-clause-takes
returns-in-Err-clause-takes g c = takes_then _ _ _ _ _ _ _ _ _ _ c.loop-self.invariant.0 c.read_more.ensures.takes

pub returns-in-Err-clause-stops : goal.returns-in-Err-clause-stops
returns-in-Err-clause-stops g c = record { failed = c.loop-self.input; unrisen = c.loop-self.invariant.1; nothing = c.in-Err.ensures.nothing }
