use Rattle.nr_requester.proofs.EarlierBeside.{earlier_done_law, earlier_forget_law, earlier_revoke_law}
use Rattle.nr_requester.proofs.laws.earlier_links_keep_their_law.Goals as goal

pub returns-clause-done : goal.returns-clause-done
returns-clause-done c = earlier_done_law

pub returns-clause-forget : goal.returns-clause-forget
returns-clause-forget c = earlier_forget_law

pub returns-clause-revoke : goal.returns-clause-revoke
returns-clause-revoke c = earlier_revoke_law
