use Rattle.std.proofs.Common.{ap, subst, arith}
use Rattle.nr_responder.specs.private.CallsRead.{HasNoBytes}
use Rattle.nr_responder.specs.private.Handling.FetchesCall.{EndsFor, IsComplete}
use Rattle.nr_responder.specs.Sound.{room_len}
use Rattle.nr_responder.proofs.Sounds.{sound_less}
use Rattle.nr_responder.proofs.Begun.{pushed_view}
use Rattle.nr_responder.proofs.HeldSinks.{read_has_room}
use Rattle.nr_responder.proofs.server_end.ServerEnd.complete_at_once.Goals as goal

pub push-requires-clause-room : goal.push-requires-clause-room
push-requires-clause-room c =
    read_has_room c.args.self.now.endpoint.outside c.args.self.now.sinks.items c.args.self.now.reads.items c.args.call c.requires.fresh c.requires.call.empty.0 (let room = ap room_len c.requires.call.empty.1 in omega (arith, room))

pub returns-in-None-clause-fetched : goal.returns-in-None-clause-fetched
returns-in-None-clause-fetched c =
    IsComplete (subst HasNoBytes c.requires.call.list c.requires.none) (c.judge_at_once.ensures.alone c.in-None.is)
    (pushed_view c.args.self.now c.push.new.self c.args.call c.push.ensures.same.0 c.push.ensures.same.1 c.push.ensures.reads.0 c.push.ensures.reads.1 c.push.ensures.pushed.0 c.push.ensures.pushed.1)

pub returns-in-Some-clause-fetched : goal.returns-in-Some-clause-fetched
returns-in-Some-clause-fetched c = EndsFor c.in-Some.reason c.in-Some.ensures.reason.1 (subst HasNoBytes c.requires.call.list c.requires.none) c.in-Some.ensures.ends c.end_for.ensures.ended

pub end_for-requires-clause-sound : goal.end_for-requires-clause-sound
end_for-requires-clause-sound c = sound_less c.args.self.now c.requires.call.sound

pub push-requires-clause-read : goal.push-requires-clause-read
push-requires-clause-read c = (c.requires.call.empty.0, c.requires.fresh)
