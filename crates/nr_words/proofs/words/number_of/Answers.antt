use Rattle.std.proofs.Common.{Option, option_map, sym, ap, ◌∙◌, Bor}
use Rattle.std.specs.Prelude.{option_and_then}
use Rattle.clap.specs.Words.{Text, found_of}
use Rattle.clap.proofs.WalkLemmas.{first_value-rows}
use Rattle.nr_words.specs.Numbers.{number_within}
use Rattle.nr_words.specs.Spelled.{without_sign}
use Rattle.nr_words.proofs.words.number_of.Goals as goal

pub returns-in_err-text : goal.returns-in_err-text
returns-in_err-text c =
    let seen = c.get_str.ensures ∙ first_value-rows (found_of c.args.given.now) c.args.id.now in
    c.from_residual.ensures ∙ ap (λ (o : Option Text). option_and_then (λ t. number_within c.args.low c.args.high (without_sign t)) o) (ap (option_map (λ (s : Bor Text). s.now)) (sym c.in_err-text.was) ∙ seen)

pub returns : goal.returns
returns c =
    let seen = c.get_str.ensures ∙ first_value-rows (found_of c.args.given.now) c.args.id.now in
    c.number_within.ensures ∙ ap (number_within c.args.low c.args.high) (c.without_sign.ensures ∙ ap without_sign c.as_bytes.ensures.value)
    ∙ ap (λ (o : Option Text). option_and_then (λ t. number_within c.args.low c.args.high (without_sign t)) o) (ap (option_map (λ (s : Bor Text). s.now)) (sym c.in_ok-text.was) ∙ seen)
