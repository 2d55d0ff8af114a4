use Rattle.std.proofs.Common.{◌≡◌, false, refl, ap, ap₂, ◌∙◌}
use Rattle.clap.specs.Words.{App, AddsArg, AddsSubcommand, Rule, rule_of, with_rule, with_subcommand}
use Rattle.clap.specs.declared.builder.arg.Arg.{Arg}
use Rattle.clap.specs.declared.builder.command.Command.{Command}
use Rattle.nr_words.specs.Program.{Builds, with_command}

pub one_more : {app sub : App} {program command more : Command} → Builds app program → Builds sub command → AddsSubcommand program command more → Builds (with_command app sub) more
one_more a b adds = record {
  same = adds.shape b.local ∙ ap₂ with_subcommand a.same (ap (λ (s : App). s.top) b.same);
  local = rw (adds.globals, a.local, b.local) refl;
}

pub one_rule : {app : App} {rule : Rule} {a : Arg} {command more : Command} → Builds app command → rule_of a ≡ rule → a.global ≡ false → AddsArg command a more → Builds (with_rule app rule) more
one_rule b is local adds = record {
  same = adds.shape local ∙ ap₂ with_rule b.same is;
  local = rw (adds.globals, b.local, local) refl;
}
