-- Links in memory.
use Rattle.std.specs.Prelude.{ℕ, ◌+◌, Bool, false, true, if◌then◌else◌, List, [], ◌∷◌, ◌++◌, map, drop, take, Some}
use Rattle.nr_outside.specs.Faults.{next_count}
use Rattle.nr_outside.specs.MemSink.{MemSinkState}
use Rattle.nr_outside.specs.MemSource.{MemSourceState}
use Rattle.nr_links.specs.CountedState.{CountedState}
use Rattle.nr_links.specs.Links.{EndedLink, LinkLog, ended_link, is_faulty}
use Rattle.nr_links.specs.declared.mem_links.LinkPlan.{LinkPlan}
use Rattle.nr_links.specs.declared.mem_links.MemLink.{MemLink}

-- what the links to come will be, the links hung up, how many were made, the numbers of the calls that are to fail, the number
-- of calls so far, and both counts
pub record MemLinksState : Type 0 where
  pub plans : List LinkPlan
  pub ended : List MemLink
  pub made : ℕ
  pub failing : List ℕ
  pub calls : ℕ
  pub faults : ℕ
  pub lost : ℕ

-- the same before any call
abbrev pub planned : List LinkPlan → List ℕ → MemLinksState
planned plans failing = record { plans = plans; ended = []; made = 0; failing = failing; calls = 0; faults = 0; lost = 0 }

-- a dialer or an acceptor: its links, and the addresses asked for
pub record MemState : Type 0 where
  pub links : MemLinksState
  pub asked : List (List ℕ)

-- whether an acceptor was asked to listen
abbrev pub has_some : List (List ℕ) → Bool
has_some [] = false
has_some (address ∷ others) = true

-- the source and the sink of a link as it is made, with its number
abbrev pub new_source : ℕ → LinkPlan → CountedState MemSourceState
new_source number p = record {
  inner = record { bytes = p.bytes.items; place = 0; sizes = p.sizes.items; failing = p.failing_reads.items; calls = 0; faults = 0 };
  faults = 0;
  link = number;
}

abbrev pub new_sink : ℕ → LinkPlan → CountedState MemSinkState
new_sink number p = record {
  inner = record { bytes = []; failing = p.failing_writes.items; calls = 0; faults = 0 };
  faults = 0;
  link = number;
}

abbrev pub new_link : ℕ → LinkPlan → MemLink
new_link number p = record { source = new_source number p; sink = new_sink number p }

-- after a call that failed
abbrev pub after_failed : MemLinksState → MemLinksState
after_failed s = record s { calls = next_count s.calls; faults = next_count s.faults }

-- after a call that made the first of the planned links
abbrev pub after_made : MemLinksState → MemLinksState
after_made s = record s { plans = drop 1 s.plans; made = s.made + 1; calls = next_count s.calls }

-- after this link was hung up
abbrev pub after_ended : MemLinksState → MemLink → MemLinksState
after_ended s link = record s {
  ended = s.ended ++ link ∷ [];
  lost = if is_faulty link.source.faults link.sink.faults then next_count s.lost else s.lost;
}

-- the log of the links
abbrev pub as_ended : MemLink → EndedLink
as_ended link = ended_link link.source.link (Some (take link.source.inner.place link.source.inner.bytes))
    (Some (drop link.source.inner.place link.source.inner.bytes)) (Some link.sink.inner.bytes)

abbrev pub link_log : MemLinksState → LinkLog
link_log s = record { made = s.made; ended = map as_ended s.ended }
