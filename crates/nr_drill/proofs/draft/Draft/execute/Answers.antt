use Rattle.nr_drill.proofs.Executions.{executes}
use Rattle.nr_drill.proofs.draft.Draft.execute.Goals as goal

pub returns : goal.returns
returns c =
    executes c.args.call.0 c.args.call.1 c.args.call.2 c.args.call.3 c.args.moment c.args.payload.now c.args.reply.now c.args.self.now c.add_place.new.self c.add_entry.new.self c.is_at_end-is_new.result c.is_at_end-is_new.ensures c.add_place.ensures.tables
    c.add_place.ensures.calls c.add_place.ensures.journal c.in_ok-add_entry.ensures.journal c.in_ok-add_entry.ensures.tables c.in_ok-add_entry.ensures.calls
