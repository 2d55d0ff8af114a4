use Rattle.std.proofs.Common.{rules}
use Rattle.nr_turnstile.proofs.Steps.{appends}
use Rattle.nr_turnstile.proofs.turnstile.Turnstile.append.Goals as goal

pub fetch_add-requires : goal.fetch_add-requires
fetch_add-requires g c = let h = c.requires.value in (h.1.0, search rules, appends _ _ _ _ _ _ _ h.1.2 c.requires.may.0 c.requires.may.1)
