use Rattle.nr_responder.specs.Sound.{state_of}
use Rattle.std.proofs.Common.{rules, length, ◌∙◌, sym, ◌≡◌}
use Rattle.std.proofs.lemmas.List.{length-map}
use Rattle.nr_responder.specs.Views.{call_view}
use Rattle.nr_responder.proofs.Counts.{calls_of_run}
use Rattle.nr_responder.proofs.server_end.ServerEnd.unanswered.Goals as goal

pub returns-clause-of_run : goal.returns-clause-of_run
returns-clause-of_run c = λ other opened link run h.
    let own : c.len.result ≡ length c.args.self.now.calls.items = search rules in
    own ∙ sym (length-map c.args.self.now.calls.items call_view) ∙ calls_of_run opened link run (state_of c.args.self.now) other h
