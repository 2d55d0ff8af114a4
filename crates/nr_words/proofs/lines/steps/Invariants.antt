use Rattle.std.proofs.Common.{◌≡◌, drop, map, string_bytes}
use Rattle.nr_words.specs.Lines.{steps, start, plain_state}
use Rattle.nr_words.proofs.lines.steps.Given as goal

abbrev pub invariant-loop-word : goal.invariant-loop-word
invariant-loop-word l = steps l.subcommand start (map string_bytes l.words) ≡ steps l.subcommand (plain_state l.state) (map string_bytes (drop l.word-index l.words))
