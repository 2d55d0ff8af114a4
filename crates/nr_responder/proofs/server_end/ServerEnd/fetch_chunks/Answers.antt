use Rattle.nr_responder.proofs.Sounds.{sound_less}
use Rattle.nr_responder.proofs.server_end.ServerEnd.fetch_chunks.Goals as goal

pub run_out-requires : goal.run_out-requires
run_out-requires c = record { sound = sound_less c.args.self.now c.requires.call.sound }
