use Rattle.std.proofs.Common.{◌≡◌, Some, sym, ap, ap₂, ◌∙◌}
use Rattle.std.specs.Prelude.{option_and_then}
use Rattle.clap.specs.Words.{found_of, rows_of}
use Rattle.nr_words.specs.declared.lines.Subcommand.{Subcommand}
use Rattle.nr_words.specs.Lines.{command_of, subcommand_named}
use Rattle.nr_words.specs.Spelled.{options_of, positionals_of, spelled}
use Rattle.nr_words.proofs.Rows.{found_rows}
use Rattle.nr_words.proofs.words.matched.Goals as goal

pub returns : goal.returns
returns c =
    let rows = rows_of (found_of c.in_ok-name.given.now) in
    let named : subcommand_named c.in_ok-name.name.now ≡ Some c.in_ok-subcommand.subcommand = sym c.subcommand_named.ensures ∙ c.in_ok-subcommand.was in
    let found = found_rows c.subcommand.result c.args.matches.now c.in_ok-name.name c.in_ok-name.given c.in_ok-name.was c.subcommand.ensures.name c.subcommand.ensures.rows in
    c.command_of.ensures ∙ ap₂ (command_of c.in_ok-subcommand.subcommand) c.options_of.ensures c.positionals_of.ensures
    ∙ sym (ap spelled found ∙ ap (option_and_then (λ (s : Subcommand). command_of s (options_of rows) (positionals_of s rows))) named)
