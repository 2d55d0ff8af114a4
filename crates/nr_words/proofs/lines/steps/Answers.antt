use Rattle.std.proofs.Common.{◌≡◌, None, Some, option_map, string_bytes, sym, ap, ◌∙◌}
use Rattle.nr_words.specs.Lines.{step, plain_state}
use Rattle.nr_words.proofs.Walks.{step_on, step_off, no_step}
use Rattle.nr_words.proofs.lines.steps.Goals as goal

pub returns-in_err-state : goal.returns-in_err-state
returns-in_err-state c =
    let off : step c.args.subcommand (plain_state c.loop-word.state) (string_bytes c.word-item.result) ≡ None = rw (← c.as_str.ensures.value) (sym c.step.ensures ∙ ap (option_map plain_state) c.in_err-state.was) in
    let no = step_off c.args.subcommand (plain_state c.loop-word.state) c.args.words.now c.loop-word.word-index c.word-item.result c.loop-word-test.true c.word-item.is off in
    rw c.from_residual.ensures (sym (c.loop-word.invariant ∙ no))

pub loop-word-preserved : goal.loop-word-preserved
loop-word-preserved c =
    let on : step c.args.subcommand (plain_state c.loop-word.state) (string_bytes c.word-item.result) ≡ Some (plain_state c.in_ok-state.state) = rw (← c.as_str.ensures.value) (sym c.step.ensures ∙ ap (option_map plain_state) c.in_ok-state.was) in
    c.loop-word.invariant ∙ step_on c.args.subcommand (plain_state c.loop-word.state) (plain_state c.in_ok-state.state) c.args.words.now c.loop-word.word-index c.word-item.result c.loop-word-test.true c.word-item.is on

pub returns : goal.returns
returns c = sym (c.loop-word.invariant ∙ no_step c.args.subcommand (plain_state c.loop-word.state) c.args.words.now c.loop-word.word-index c.loop-word-test.false)
