use Rattle.std.proofs.Common.{map, string_bytes, option_map, sym, ap, subst, ◌∙◌, List}
use Rattle.clap.specs.Words.{App, Text, HasKind, kind_of, fault_of, is_simple, is_simple_and_free, subcommand_of}
use Rattle.nr_words.specs.Lines.{plain_command}
use Rattle.nr_words.specs.Spelled.{spelled}
use Rattle.nr_words.specs.Reads.{is_some_command}
use Rattle.nr_words.proofs.Requests.{known, known_simple}
use Rattle.nr_words.proofs.Faults.{read_of_fault}
use Rattle.nr_words.proofs.words.read_other.Goals as goal

pub returns-in-Err : goal.returns-in-Err
returns-in-Err c =
    let words : List Text = map string_bytes c.args.words.now in
    let same = c.in_ok-program.ensures.same in
    let kinds = c.in-Err.ensures.kinds (ap is_simple_and_free same ∙ known) in
    read_of_fault words (kind_of c.in-Err.error) c.fault_of_error.result c.fault_of_error.ensures (subst (λ (a : App). HasKind (fault_of a words) c.in-Err.error) same kinds)

pub returns-in-None : goal.returns-in-None
returns-in-None c =
    let words : List Text = map string_bytes c.args.words.now in
    let same = c.in_ok-program.ensures.same in
    let subs = (c.in-Ok.ensures.matches (ap is_simple same ∙ known_simple)).1 ∙ ap (λ (a : App). subcommand_of a words) same in (
      ap (λ (a : App). fault_of a words) (sym same) ∙ c.in-Ok.ensures.kinds (ap is_simple_and_free same ∙ known),
      ap is_some_command (ap spelled (sym subs) ∙ sym c.matched.ensures ∙ ap (option_map plain_command) c.in-None.is),
    )

pub returns-then-is_command : goal.returns-then-is_command
returns-then-is_command c =
    let words : List Text = map string_bytes c.args.words.now in
    let same = c.in_ok-program.ensures.same in
    let subs = (c.in-Ok.ensures.matches (ap is_simple same ∙ known_simple)).1 ∙ ap (λ (a : App). subcommand_of a words) same in (
      ap (λ (a : App). fault_of a words) (sym same) ∙ c.in-Ok.ensures.kinds (ap is_simple_and_free same ∙ known),
      ap spelled (sym subs) ∙ sym c.matched.ensures ∙ ap (option_map plain_command) c.in-Some.is,
      sym c.is_command.ensures ∙ c.if-is_command.true,
    )

pub returns : goal.returns
returns c =
    let words : List Text = map string_bytes c.args.words.now in
    let same = c.in_ok-program.ensures.same in
    let subs = (c.in-Ok.ensures.matches (ap is_simple same ∙ known_simple)).1 ∙ ap (λ (a : App). subcommand_of a words) same in (
      ap (λ (a : App). fault_of a words) (sym same) ∙ c.in-Ok.ensures.kinds (ap is_simple_and_free same ∙ known),
      ap is_some_command (ap spelled (sym subs) ∙ sym c.matched.ensures ∙ ap (option_map plain_command) c.in-Some.is) ∙ sym c.is_command.ensures ∙ c.if-is_command.false,
    )
