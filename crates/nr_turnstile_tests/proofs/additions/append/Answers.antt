use Rattle.nr_turnstile.proofs.Held.{written}
use Rattle.nr_turnstile_tests.proofs.additions.append.Goals as goal

pub note-requires-clause-value : goal.note-requires-clause-value
note-requires-clause-value g c = let t = c.take_turn-turn.ensures.got.1 in let w = c.add.new.self in (w, (t.1.0, written _ _ w c.value-value.ensures.value, t.1.2))
