use Rattle.std.proofs.Common.{ℕ, List, subst}
use Rattle.nr_xdr.specs.Item.{IsBytes}
use Rattle.nr_world.proofs.DrillServers.{executes_code, old_found}
use Rattle.nr_world.proofs.server.DrillServer.execute.Goals as goal

pub returns-in-Err-Old : goal.returns-in-Err-Old
returns-in-Err-Old c = old_found c.args.client _ c.args.payload.now c.self.inside.server c.execute_for.new.self c.self.inside.seconds.items c.args.self.now c.in-Err-Old.field-0 c.self.view_is c.in-Err-Old.field-0-is c.in-Err-Old.ensures.err
    c.in-Err-Old.ensures.cause

pub returns : goal.returns
returns c = executes_code c.args.client c.args.now c.args.payload.now c.in-Ok.reply.payload c.in-Ok.reply.place c.journal_len-before.result c.second_at-second.result c.self.inside.server c.execute_for.new.self c.self.inside.seconds.items
    c.args.self.now c.note_entry.new.self c.self.view_is c.is_bytes.ensures (subst (λ (xs : List ℕ). IsBytes xs) c.as_slice.ensures c.is_bytes-2.ensures) c.in-Ok.ensures.limit c.in-Ok.ensures.answered c.journal_len-before.ensures.len c.second_at-second.ensures c.in_ok-note_entry.ensures
