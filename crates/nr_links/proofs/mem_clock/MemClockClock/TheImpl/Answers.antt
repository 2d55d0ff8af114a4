use Rattle.std.proofs.Common.{refl}
use Rattle.nr_links.proofs.Given.{gives_moment}
use Rattle.nr_links.proofs.mem_clock.MemClockClock.TheImpl.Goals as goal

pub now-tells : goal.now-tells
now-tells g c = record {
  nanos = c.ensures.nanos;
  gave = gives_moment c.args.self.now c.new.self.now c.result c.ensures.moment c.ensures.clock;
}

pub another-tells : goal.another-tells
another-tells g c = rw c.ensures refl
