use Rattle.std.proofs.Common.{map, string_bytes, option_map, sym, ap, ◌∙◌}
use Rattle.nr_words.specs.Lines.{plain_command}
use Rattle.nr_words.proofs.Possible.{line_possible}
use Rattle.nr_words.proofs.words.read_words.Goals as goal

pub returns-in-Some-clause-possible : goal.returns-in-Some-clause-possible
returns-in-Some-clause-possible c =
    line_possible (map string_bytes c.args.words.now) _ (sym c.read_line.ensures ∙ ap (option_map plain_command) c.in-Some.is)
