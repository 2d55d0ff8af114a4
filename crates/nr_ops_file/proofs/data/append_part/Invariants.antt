use Rattle.std.proofs.Common.{◌≡◌, ◌-◌, ◌≤◌, ◌++◌, length, take, drop}
use Rattle.nr_ops_file.proofs.data.append_part.Given as goal

abbrev pub invariant-loop-at : goal.invariant-loop-at
invariant-loop-at l =
    (l.at ≤ l.end) × (l.offset ≤ l.at) × (length (take (l.end - l.at) (drop l.at l.file)) ≡ l.end - l.at)
    × (l.reply.items ++ take (l.end - l.at) (drop l.at l.file) ≡ l.fn.reply.items ++ take (l.end - l.offset) (drop l.offset l.file))

abbrev pub decreases-loop-at : goal.decreases-loop-at
decreases-loop-at l = l.end - l.at
