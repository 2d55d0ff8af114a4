use Rattle.std.proofs.Common.{rules, inr, refl}
use Rattle.nr_responder.proofs.HeldSinks.{fetched_as}
use Rattle.nr_responder.proofs.Posted.{memory_as, sent_memory}
use Rattle.nr_responder.proofs.Sounds.{sound_refused, sound_ended, sound_room_as}
use Rattle.nr_responder.proofs.server_end.ServerEnd.refuse.Goals as goal

pub returns-then-send_error-clause-sound : goal.returns-then-send_error-clause-sound
returns-then-send_error-clause-sound c = (
  sound_room_as 0 c.send_error.new.endpoint.link.state c.args.self.now.calls.items c.args.self.now.ready.items _ _ _ _ _ _ _ refl refl (search rules) (sound_refused c.args.made c.args.self.now.endpoint.link c.send_error.new.endpoint.link c.args.self.now.calls.items c.args.self.now.ready.items c.args.self.now.used.items _ c.args.buf _ _ _
      c.requires.live (c.send_error.ensures.sent c.if-send_error.true) c.requires.buf (search rules) c.requires.sound.0),
  fetched_as c.args.self.now.endpoint c.send_error.new.endpoint c.args.self.now.calls.items c.args.self.now.reads.items c.args.self.now.sinks.items (sent_memory c.args.made c.args.self.now.endpoint.link c.send_error.new.endpoint.link c.requires.live (c.send_error.ensures.sent c.if-send_error.true)) c.send_error.ensures.outside c.requires.sound.1,
)

pub returns-else-send_error-clause-sound : goal.returns-else-send_error-clause-sound
returns-else-send_error-clause-sound c = (
  sound_ended 1 17 c.args.self.now.endpoint.link c.send_error.new.endpoint.link c.args.self.now.calls.items c.args.self.now.ready.items c.args.self.now.used.items _ _ _
      (inr (c.send_error.ensures.out c.if-send_error.false)) c.requires.sound.0,
  fetched_as c.args.self.now.endpoint c.send_error.new.endpoint c.args.self.now.calls.items c.args.self.now.reads.items c.args.self.now.sinks.items (memory_as c.args.self.now.endpoint.link c.send_error.new.endpoint.link (c.send_error.ensures.out c.if-send_error.false)).memory c.send_error.ensures.outside c.requires.sound.1,
)

pub returns-then-send_error-clause-windows : goal.returns-then-send_error-clause-windows
returns-then-send_error-clause-windows c = λ live. c.requires.windows

pub returns-else-send_error-clause-windows : goal.returns-else-send_error-clause-windows
returns-else-send_error-clause-windows c = λ live. c.requires.windows
