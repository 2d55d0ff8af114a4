-- A shared requester, with a pass of it.
use Rattle.nr_shared.specs.declared.call_rule.AnyCall.{AnyCall}
use Rattle.nr_shared.specs.declared.no_dialer.NoDialer.{NoDialer}
use Rattle.nr_shared.specs.declared.shared.Pass.{Pass}
use Rattle.nr_shared.specs.declared.shared.SharedRequester.{SharedRequester}

pub record CallerParts (J K : Type 0) : Type 0 where
  pub remote : SharedRequester J K AnyCall (NoDialer J K)
  pub pass : Pass J K AnyCall (NoDialer J K)
