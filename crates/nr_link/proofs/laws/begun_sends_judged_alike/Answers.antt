use Rattle.nr_link.proofs.BegunSends.{judged_alike, kept_alike, messages_alike}
use Rattle.nr_link.proofs.laws.begun_sends_judged_alike.Goals as goal

pub returns-clause-judged : goal.returns-clause-judged
returns-clause-judged c = judged_alike

pub returns-clause-kept : goal.returns-clause-kept
returns-clause-kept c = kept_alike

pub returns-clause-messages : goal.returns-clause-messages
returns-clause-messages c = messages_alike
