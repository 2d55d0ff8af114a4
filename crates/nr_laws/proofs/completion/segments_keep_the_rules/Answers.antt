use Rattle.nr_laws.proofs.LawsBefore.{laws_kept_before}
use Rattle.nr_laws.proofs.ReadCalls.{server_ends_for_calls}
use Rattle.nr_laws.proofs.ReadReplies.{client_ends_for_replies}
use Rattle.nr_laws.proofs.completion.segments_keep_the_rules.Goals as goal

pub returns-clause-server : goal.returns-clause-server
returns-clause-server c = server_ends_for_calls

pub returns-clause-client : goal.returns-clause-client
returns-clause-client c = client_ends_for_replies

pub returns-clause-before : goal.returns-clause-before
returns-clause-before c = laws_kept_before
