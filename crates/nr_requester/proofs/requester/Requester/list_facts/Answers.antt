use Rattle.std.proofs.Common.{subst}
use Rattle.nr_requester.specs.RequesterState.{RequesterSide}
use Rattle.nr_requester.specs.KeptLists.{ListsFit}
use Rattle.nr_requester.proofs.KeptLists.{lists_fit}
use Rattle.nr_requester.proofs.requester.Requester.list_facts.Goals as goal

pub returns : goal.returns
returns c =
    let i = c.self.inside in
    subst (λ (h : RequesterSide). ListsFit h.state) c.self.view_is
    (lists_fit i.endpoint i.receive_length i.sent i.wished i.sends i.next_xid i.grant i.local_releases i.outstanding.items i.answered.items _ c.self.invariant.0 c.self.invariant.1.0)
