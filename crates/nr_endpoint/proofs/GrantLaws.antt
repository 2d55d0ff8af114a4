-- Why an FPDU ends a side, by the grants that its memory stands for.
use Rattle.std.proofs.Common.{◌≡◌, ℕ, List, Option, Some, None, Result, Ok, Err, refl, ap, ◌∙◌}
use Rattle.nr_wire.specs.Segment.{Segment}
use Rattle.nr_regions.specs.declared.denied.Denied.{Denied}
use Rattle.nr_regions.specs.RegisteredMemory.{Access, denial}
use Rattle.nr_regions.specs.Access.{Grant, grant_denial}
use Rattle.nr_regions.proofs.Contents.{same_denial}
use Rattle.nr_link.specs.declared.end.End.{End}
use Rattle.nr_link.specs.Frames.{Frame}
use Rattle.nr_link.specs.SegmentFaults.{segment_reason}
use Rattle.nr_link.specs.Ending.{access_of, end_of_fault, frame_end_by}
use Rattle.nr_link.specs.Ending as link
use Rattle.nr_endpoint.specs.LinkState.{LinkState}
use Rattle.nr_endpoint.specs.Judging.{readiness, missing_access, segment_end, next_frame, with_fpdu, with_segment_by, next_segment}
use Rattle.nr_endpoint.specs.Laws.{DeniesAlike, GrantsEndAlike, OffersDenyAlike}
use Rattle.nr_endpoint.proofs.EndLaws.{effect_ended}

lacks_same : (s : LinkState) (grants : List Grant) (f : Frame) (segment : Segment) → DeniesAlike s.memory grants f.end → missing_access s.memory segment ≡ link.missing_access grants f segment
lacks_same s grants f segment alike = by (access_of segment)
  where
    by : (a : Option Access) → Rattle.std.specs.Prelude.option_and_then (denial s.memory) a ≡ Rattle.std.specs.Prelude.option_and_then (λ (access : Access). grant_denial grants access f.end) a
    by None = refl
    by (Some access) = alike access

segment_ended : (s : LinkState) (f : Frame) (segment : Segment) (e : Option End) → s.ended ≡ None → (with_segment_by f segment e s).ended ≡ e
segment_ended s f segment None live = effect_ended s segment ∙ live
segment_ended s f segment (Some end) live = refl

fpdu_ended : (s : LinkState) (grants : List Grant) (f : Frame) (r : Result Segment ℕ) → s.ended ≡ None → DeniesAlike s.memory grants f.end →
    (with_fpdu f r s).ended ≡ frame_end_by (readiness s) grants f r
unfolding with_fpdu segment_end
fpdu_ended s grants f (Ok segment) live alike =
    segment_ended s f segment (segment_end s f segment) live
    ∙ ap (λ (missing : Option Denied). end_of_fault f segment (segment_reason (readiness s missing) segment)) (lacks_same s grants f segment alike)
fpdu_ended s grants f (Err reason) live alike = refl

pub grants_end_alike : GrantsEndAlike
grants_end_alike s grants frame live alike = fpdu_ended s grants (next_frame s frame) (next_segment s frame) live alike

pub offers_deny_alike : OffersDenyAlike
offers_deny_alike m grants end same access = same_denial grants m access end (same access.stag)
