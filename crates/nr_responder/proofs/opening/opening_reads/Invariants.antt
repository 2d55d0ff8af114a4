use Rattle.std.proofs.Common.{◌≡◌, ◌≤◌, ◌++◌, drop, take, All}
use Rattle.std.specs.Prelude.{map}
use Rattle.nr_link.specs.Limits.{open_reads_max}
use Rattle.nr_endpoint.specs.Requesting.{FitsSink}
use Rattle.nr_responder.specs.private.Reading.{remote_of}
use Rattle.nr_responder.specs.Views.{read_view}
use Rattle.nr_responder.proofs.opening.opening_reads.Given as goal

abbrev pub invariant-opened : goal.invariant-opened
invariant-opened l = record {
  reads : l.opened.items ++ map remote_of (drop l.i (take open_reads_max (map read_view l.fn.reads))) ≡ map remote_of (drop l.fn.kept (take open_reads_max (map read_view l.fn.reads)));
  from : l.fn.kept ≤ l.i;
  fits : All FitsSink l.opened.items;
}
