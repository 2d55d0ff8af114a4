use Rattle.nr_plain.proofs.Fits.{write_results_fit}
use Rattle.nr_plain.proofs.WrittenReplies.{reply_has_room}
use Rattle.nr_plain.proofs.changing.write_of.Goals as goal

pub reply-requires-clause-room : goal.reply-requires-clause-room
reply-requires-clause-room c = reply_has_room c.in_ok-room.room c.args.call.now.xid _ c.in_ok-room.ensures (write_results_fit c.in_ok-results.results)
