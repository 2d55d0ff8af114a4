use Rattle.std.proofs.Common.{◌≡◌, ◌-◌, Some, option_map, string_bytes, length, take, drop, map, get_or, sym, ap, ◌∙◌, refl, arith}
use Rattle.std.proofs.lemmas.List.{take_all, length-drop}
use Rattle.nr_words.specs.Lines.{subcommand_named, steps, start, plain_state}
use Rattle.nr_words.proofs.Walks.{line_of_two}
use Rattle.nr_words.proofs.lines.read_line.Goals as goal

pub returns : goal.returns
returns c =
    let words = c.args.words.now in
    let rest : take (length words - 2) (drop 2 words) ≡ drop 2 words = take_all (length words - 2) (drop 2 words) (omega (arith, length-drop 2 words)) in
    let subcommand : subcommand_named (string_bytes (get_or words 1 c.index-words-1.result)) ≡ Some c.in_ok-subcommand.subcommand = rw (← c.index-words-1.is, ← c.as_str.ensures.value) (sym c.subcommand_named.ensures ∙ c.in_ok-subcommand.was) in
    let state : steps c.in_ok-subcommand.subcommand start (map string_bytes (drop 2 words)) ≡ Some (plain_state c.in_ok-state.state) = rw (← rest) (sym c.steps.ensures ∙ ap (option_map plain_state) c.in_ok-state.was) in
    c.finished.ensures ∙ sym (line_of_two words c.index-words-1.result c.if-words-lt2.false ∙ rw (subcommand, state) refl)
