use Rattle.std.proofs.Common.{ℕ, List, Some, refl, ap, ◌∙◌, length}
use Rattle.nr_regions.proofs.Contents.{contents_are}
use Rattle.nr_regions.proofs.Streams.{contents_to_release, contents_of_stream}
use Rattle.nr_regions.proofs.laws.contents_at_release.Goals as goal

pub returns-clause-region : goal.returns-clause-region
returns-clause-region c = λ grants m stag until right buf before after given there is.
    contents_are grants stag right (length buf) before m buf refl given there is.stays_open
    ∙ ap (λ (b : List ℕ). Some (record { right = right; buf = b })) (contents_to_release grants stag until right (length buf) buf before after is)

pub returns-clause-whole_stream : goal.returns-clause-whole_stream
returns-clause-whole_stream c = contents_of_stream
