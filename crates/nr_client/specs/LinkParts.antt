-- The client end of a link, with its source and its sink, and how many bytes were read of it; the requester of a new link.
use Rattle.std.specs.Prelude.{◌≡◌, ℕ, []}
use Rattle.nr_link.specs.declared.agreement.SideTerms.{SideTerms}
use Rattle.nr_reduce.specs.Opening.{ClientOpened}
use Rattle.nr_reduce.specs.declared.mark.LinkParameters.{LinkParameters}
use Rattle.nr_requester.specs.RequesterState.{RequesterSide}
use Rattle.nr_requester.specs.Standing.{RequesterRepresents}

pub record LinkParts (I O : Type 0) : Type 0 where
  pub requester : RequesterSide
  pub source : I
  pub sink : O
  pub read : ℕ

-- On each link that opens with these credits and these terms, and whose xids and STags begin with 1, the requester represents a run without marks.
abbrev pub RepresentsNewLink : RequesterSide → (credits : ℕ) → SideTerms → Type 0
RepresentsNewLink requester credits terms =
    (opened : LinkParameters) (link : ℕ) → opened.first_xid ≡ 1 → opened.first_stag ≡ 1 → ClientOpened opened credits terms → RequesterRepresents opened link requester []
