use Rattle.nr_cache.proofs.Caches.{no_entries}
use Rattle.nr_cache.proofs.cache.Cache.new.Goals as goal

pub returns : goal.returns
returns c = no_entries c.new.result c.new.ensures.empty
