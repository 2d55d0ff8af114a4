use Rattle.nr_plain.proofs.WrittenReplies.{reply_has_room}
use Rattle.nr_plain.proofs.changing.change_in.Goals as goal

pub reply-requires-clause-room : goal.reply-requires-clause-room
reply-requires-clause-room g c = reply_has_room c.in_ok-room.room c.args.call.now.xid _ c.in_ok-room.ensures c.in_ok-results.ensures.fits
