use Rattle.std.proofs.Common.{ℕ, refl}
use Rattle.nr_reduce.specs.History.{is_dropped}
use Rattle.nr_drill.specs.Drill.{Setting, Drill, after_raw}
use Rattle.nr_drill.proofs.Followed.{raw_adds}
use Rattle.nr_world.proofs.SameServer.{raw_leaves}
use Rattle.nr_world.proofs.Stands.{on_ok, world_goes}
use Rattle.nr_world.proofs.world.World.raw.Goals as goal

pub returns : goal.returns
returns c = on_ok c.raw.result _ _ c.raw.ensures (λ goes. world_goes (λ (s : Setting) (link : ℕ) (d : Drill). after_raw link c.args.side c.args.bytes.now (is_dropped link d.marks) d)
    (λ s link d. (raw_adds link c.args.side c.args.bytes.now (is_dropped link d.marks) d, raw_leaves s link c.args.side c.args.bytes.now (is_dropped link d.marks) d)) c.args.client c.args.self.now _ c.index_mut.result.now c.raw.new.self
    c.index_mut.ensures.value c.requires (record { first_line = refl; links = refl; owners = refl; seconds = refl; creds = refl }) refl (goes c.args.self.now.marks))
