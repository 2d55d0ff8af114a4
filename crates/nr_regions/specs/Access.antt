-- What a peer may access by a list of grants, and what its tagged segments leave in a region.
use Rattle.std.specs.Prelude.{◌≡◌, ◌≢◌, ℕ, ◌+◌, ◌<◌, ◌≤◌, Bool, ◌&&◌, ◌==◌, nat_lt, nat_le, if◌then◌else◌, List, [], ◌∷◌, map, length, Option, None, Some, is_none, find, Contains}
use Rattle.nr_regions.specs.declared.right.Right.{Right}
use Rattle.nr_regions.specs.declared.right.Kind.{Kind}
use Rattle.nr_regions.specs.declared.denied.Denied.{Denied}
use Rattle.nr_regions.specs.RegisteredMemory.{Access, right_for, denial_in, bytes_after_write}

-- A region offered to a peer under an STag, with a right and a length. It applies to the frames of the peer's stream that
-- end after `from` and not after `until`.
pub record Grant : Type 0 where
  pub stag : ℕ
  pub right : Right
  pub len : ℕ
  pub from : ℕ
  pub until : ℕ

-- whether a grant of this STag applies to a frame with this end
abbrev pub applies : ℕ → ℕ → Grant → Bool
applies stag end g = g.stag == stag && (nat_lt g.from end && nat_le end g.until)

-- the grant of an STag that applies to a frame with this end
unfoldable pub grant_at : List Grant → ℕ → ℕ → Option Grant
grant_at grants stag end = find (applies stag end) grants

-- the right and the length of a grant
abbrev pub grant_offer : Option Grant → Option (Right × ℕ)
grant_offer None = None
grant_offer (Some g) = Some (g.right, g.len)

-- why the grants deny an access by a frame with this end: the first reason that applies
unfoldable pub grant_denial : List Grant → Access → ℕ → Option Denied
grant_denial grants access end = denial_in (grant_offer (grant_at grants access.stag end)) access

-- The access is allowed: all of its range lies within a grant that applies, whose right is the one that it needs.
pub record Allowed (grants : List Grant) (access : Access) (end : ℕ) : Type 0 where
  pub grant : Grant
  pub there : Contains grants grant
  pub stag : grant.stag ≡ access.stag
  pub begun : grant.from < end
  pub not_ended : end ≤ grant.until
  pub within : access.to + access.len ≤ grant.len
  pub right : grant.right ≡ access.right

-- no grant of the list has this one's STag
abbrev pub HasOwnStag : Grant → List Grant → Type 0
HasOwnStag g [] = Unit {0}
HasOwnStag g (other ∷ grants) = (g.stag ≢ other.stag) × HasOwnStag g grants

-- no two of the grants have the same STag
abbrev pub HaveOwnStags : List Grant → Type 0
HaveOwnStags [] = Unit {0}
HaveOwnStags (g ∷ grants) = HasOwnStag g grants × HaveOwnStags grants

-- the grants, that of an STag with this end
abbrev pub with_end : ℕ → ℕ → Grant → Grant
with_end stag until g = if g.stag == stag then record g { until = until } else g

abbrev pub with_ends : ℕ → ℕ → List Grant → List Grant
with_ends stag until grants = map (with_end stag until) grants

-- a tagged segment: its kind, the address of its payload, and the end of its frame in the stream
pub record TaggedSegment : Type 0 where
  pub kind : Kind
  pub stag : ℕ
  pub to : ℕ
  pub payload : List ℕ
  pub end : ℕ

abbrev pub access_of_tagged : TaggedSegment → Access
access_of_tagged s = record { right = right_for s.kind; stag = s.stag; to = s.to; len = length s.payload }

-- an allowed segment for the region under this STag writes its payload over the region's bytes, any other writes nothing
abbrev pub after_segment : List Grant → ℕ → List ℕ → TaggedSegment → List ℕ
after_segment grants stag bytes s =
    if s.stag == stag && is_none (grant_denial grants (access_of_tagged s) s.end) then bytes_after_write bytes s.to s.payload else bytes

-- the bytes of a region that was registered with these, after some segments, the later over the earlier
abbrev pub contents : List Grant → ℕ → List ℕ → List TaggedSegment → List ℕ
contents grants stag bytes [] = bytes
contents grants stag bytes (s ∷ segments) = contents grants stag (after_segment grants stag bytes s) segments
