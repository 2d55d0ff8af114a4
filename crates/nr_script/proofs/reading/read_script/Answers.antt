use Rattle.std.proofs.Common.{◌∙◌, Some, sym, ap}
use Rattle.nr_texts.specs.Words.{parts, newline}
use Rattle.nr_script.specs.Script.{ScriptLines, script_from}
use Rattle.nr_script.proofs.TypedScripts.{script_is}
use Rattle.nr_script.proofs.reading.read_script.Goals as goal

pub into_script-requires : goal.into_script-requires
into_script-requires c =
    script_is c.args.text.now c.add_lines.new.draft c.requires
    (c.in_ok-opening.ensures.says ∙ ap (λ (d : ScriptLines). script_from c.in_ok-opening.number (Some d) (parts newline c.in_ok-opening.rest.now)) (sym c.new-draft.ensures) ∙ c.in_ok-add_lines.ensures)
