use Rattle.std.proofs.Common.{Option, option_map, [], sym, ap, ◌∙◌, Bor}
use Rattle.std.specs.Prelude.{unwrap_or}
use Rattle.clap.specs.Words.{Text, found_of}
use Rattle.clap.proofs.WalkLemmas.{first_value-rows}
use Rattle.nr_words.proofs.words.text_of.Goals as goal

pub returns-in-Some : goal.returns-in-Some
returns-in-Some c =
    let seen = c.get_str.ensures ∙ first_value-rows (found_of c.args.given.now) c.args.id.now in
    ap (λ (o : Option Text). unwrap_or o []) (ap (option_map (λ (s : Bor Text). s.now)) (sym c.in-Some.is) ∙ seen)

pub returns-in-None : goal.returns-in-None
returns-in-None c =
    let seen = c.get_str.ensures ∙ first_value-rows (found_of c.args.given.now) c.args.id.now in
    ap (λ (o : Option Text). unwrap_or o []) (ap (option_map (λ (s : Bor Text). s.now)) (sym c.in-None.is) ∙ seen)
