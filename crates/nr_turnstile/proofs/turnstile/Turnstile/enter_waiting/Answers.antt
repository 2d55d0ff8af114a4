use Rattle.std.proofs.Common.{rules}
use Rattle.nr_turnstile.proofs.Steps.{enters_waiting}
use Rattle.nr_turnstile.proofs.turnstile.Turnstile.enter_waiting.Goals as goal

pub swap-requires : goal.swap-requires
swap-requires g c = (c.requires.0, search rules, enters_waiting _ _ _ _ _ _ c.requires.2)
