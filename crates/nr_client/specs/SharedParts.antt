-- A link of one caller of a shared requester, which is dialled again if it is lost.
use Rattle.std.specs.Prelude.{◌≡◌, true, is_some, [], ◌∷◌, Option}
use Rattle.nr_links.specs.Links.{HasOpenLink, LinkLog}
use Rattle.nr_turnstile.specs.Passes.{seen_by}
use Rattle.nr_shared.specs.declared.call_rule.AnyCall.{AnyCall}
use Rattle.nr_shared.specs.declared.shared.Pass.{Pass}
use Rattle.nr_shared.specs.declared.shared.SharedRequester.{SharedRequester}
use Rattle.nr_shared.specs.declared.source_reader.InitialSource.{InitialSource}
use Rattle.nr_shared.specs.Histories.{tries_of}
use Rattle.nr_shared.specs.Sharing.{SharedRests}

pub record SharedParts (I O D : Type 0) : Type 0 where
  pub shared : SharedRequester I O AnyCall D
  pub pass : Pass I O AnyCall D

-- The pass is a caller's, of this requester, and outside of its turns. The link may be dialled again; when it was shared, the dialer had hung up fewer
-- links than it had made.
pub record IsAtRest {I O D : Type 0} (ended : D → Option LinkLog) (shared : SharedRequester I O AnyCall D) (pass : Pass I O AnyCall D) : Type 0 where
  pub rests : SharedRests shared pass
  pub tries : is_some (tries_of (seen_by pass.main)) ≡ true
  pub first : InitialSource I O AnyCall D
  pub source : seen_by pass.source ≡ first ∷ []
  pub open_link : HasOpenLink (ended first.dialer.value)
