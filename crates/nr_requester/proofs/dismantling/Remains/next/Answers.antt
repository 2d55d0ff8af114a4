use Rattle.std.proofs.Common.{subst}
use Rattle.nr_requester.specs.RequesterState.{RequesterSide}
use Rattle.nr_requester.specs.Remaining.{GoesBack}
use Rattle.nr_requester.proofs.HandedBack.{goes_back}
use Rattle.nr_requester.proofs.dismantling.Remains.next.Goals as goal

pub returns-in-Some-clause-some : goal.returns-in-Some-clause-some
returns-in-Some-clause-some c =
    subst (λ (h : RequesterSide). GoesBack h c.revoke_xid.result.0 c.revoke_xid.result.1 c.revoke_xid.new.self) c.self.view_is
    (goes_back c.self.inside.requester c.revoke_xid.new.self c.in-Some.xid c.revoke_xid.result.0 c.revoke_xid.result.1 c.revoke_xid.ensures.number c.revoke_xid.ensures.call c.in-Some.ensures.some.1 c.revoke_xid.ensures.buffers c.revoke_xid.ensures.state)
