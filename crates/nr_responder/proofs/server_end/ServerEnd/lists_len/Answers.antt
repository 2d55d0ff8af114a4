use Rattle.std.proofs.Common.{arith}
use Rattle.std.proofs.lemmas.List.{length-map}
use Rattle.nr_responder.specs.declared.call.Ready.{Ready}
use Rattle.nr_responder.specs.Views.{call_view, read_view, sink_view}
use Rattle.nr_responder.proofs.server_end.ServerEnd.lists_len.Goals as goal

pub returns-clause-is : goal.returns-clause-is
returns-clause-is c =
    let unsent_is = c.requires.sound.0.unsent_is in
    omega (
      arith,
      c.len.ensures,
      c.len-2.ensures,
      c.len-3.ensures,
      c.len-4.ensures,
      c.len-5.ensures,
      unsent_is,
      length-map c.args.self.now.calls.items call_view,
      length-map c.args.self.now.ready.items (λ (q : Ready). q.xid),
      length-map c.args.self.now.reads.items read_view,
      length-map c.args.self.now.sinks.items sink_view,
    )
