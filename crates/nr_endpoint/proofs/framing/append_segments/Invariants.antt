use Rattle.std.proofs.Common.{◌≡◌, ◌≤◌, ◌+◌, ◌*◌, ◌++◌, length}
use Rattle.std.specs.Prelude.{min}
use Rattle.nr_link.specs.Limits.{segment_max}
use Rattle.nr_endpoint.proofs.Cuts.{pieces}
use Rattle.nr_endpoint.proofs.framing.append_segments.Given as goal

abbrev pub invariant-loop-i : goal.invariant-loop-i
invariant-loop-i l = record {
  items : l.out.items ≡ l.initial.out.items ++ pieces l.operation l.bytes l.i;
  spare : l.initial.out.spare ≤ l.out.spare + (27 * l.i + min (length l.bytes) (segment_max * l.i));
  kept : l.out.kept ≡ l.initial.out.kept;
}
