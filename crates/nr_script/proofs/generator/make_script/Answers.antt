use Rattle.std.proofs.Common.{◌≡◌, ◌++◌, ◌∙◌, List, sym, ap, subst, arith, false}
use Rattle.nr_script.specs.declared.script.Line.{Line}
use Rattle.nr_script.specs.Generator.{drawn_lines, made_script}
use Rattle.nr_script.specs.Script.{IsScript}
use Rattle.nr_script.proofs.MadeScripts.{made_is}
use Rattle.nr_script.proofs.generator.make_script.Goals as goal

pub new-requires : goal.new-requires
unfolding made_script
new-requires c =
    let all : List Line = drawn_lines c.args.clients c.args.calls c.args.seed in
    let is : c.push_all.new.lines.items ≡ all = c.in_ok-push_all.ensures ∙ ap (λ (ls : List Line). ls ++ all) c.new-lines.ensures.items in
    subst (λ (ls : List Line). IsScript (record { opening = record { clients = c.args.clients; credits = 8; capacity = 1099511627776; client_units = 1; server_units = 1; numbered = false; invalidates = false }; lines = ls })) (sym is)
    (made_is c.args.seed c.args.clients c.args.calls (omega (arith, c.requires.0)) c.requires.1 c.requires.2)
