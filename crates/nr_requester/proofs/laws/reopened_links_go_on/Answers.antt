use Rattle.nr_requester.proofs.AllResent.{feed_is_marks}
use Rattle.nr_requester.proofs.KeptOn.{answers_as_kept, done_keeps_on, drain_keeps_on, first_is_kept, forget_keeps_on, lost_keeps_on, others_keep_on, revoke_keeps_on, submit_keeps_on}
use Rattle.nr_requester.proofs.KeptState.{agrees_as_kept, answers_are_kept, counts_as_kept, end_as_kept, memory_as_kept, releases_as_kept}
use Rattle.nr_requester.proofs.RevokedBytes.{buffers_are_kept}
use Rattle.nr_requester.proofs.SameTerms.{feed_keeps_terms}
use Rattle.nr_requester.proofs.OwnAlike.{alike_are_kept}
use Rattle.nr_requester.proofs.laws.reopened_links_go_on.Goals as goal

pub returns-clause-submit : goal.returns-clause-submit
returns-clause-submit c = submit_keeps_on

pub returns-clause-drain : goal.returns-clause-drain
returns-clause-drain c = drain_keeps_on

pub returns-clause-feed : goal.returns-clause-feed
returns-clause-feed c = feed_is_marks

pub returns-clause-revoke : goal.returns-clause-revoke
returns-clause-revoke c = revoke_keeps_on

pub returns-clause-forget : goal.returns-clause-forget
returns-clause-forget c = forget_keeps_on

pub returns-clause-done : goal.returns-clause-done
returns-clause-done c = done_keeps_on

pub returns-clause-lost : goal.returns-clause-lost
returns-clause-lost c = lost_keeps_on

pub returns-clause-others : goal.returns-clause-others
returns-clause-others c = others_keep_on

pub returns-clause-answer : goal.returns-clause-answer
returns-clause-answer c = answers_as_kept

pub returns-clause-buffers : goal.returns-clause-buffers
returns-clause-buffers c = buffers_are_kept

pub returns-clause-first : goal.returns-clause-first
returns-clause-first c = first_is_kept

pub returns-clause-counts : goal.returns-clause-counts
returns-clause-counts c = counts_as_kept

pub returns-clause-agrees : goal.returns-clause-agrees
returns-clause-agrees c = agrees_as_kept

pub returns-clause-end : goal.returns-clause-end
returns-clause-end c = end_as_kept

pub returns-clause-memory : goal.returns-clause-memory
returns-clause-memory c = memory_as_kept

pub returns-clause-answers : goal.returns-clause-answers
returns-clause-answers c = answers_are_kept

pub returns-clause-releases : goal.returns-clause-releases
returns-clause-releases c = releases_as_kept

pub returns-clause-terms : goal.returns-clause-terms
returns-clause-terms c = feed_keeps_terms

pub returns-clause-alike : goal.returns-clause-alike
returns-clause-alike c = alike_are_kept
