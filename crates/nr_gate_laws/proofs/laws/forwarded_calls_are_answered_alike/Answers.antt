use Rattle.std.proofs.Common.{take, ◌∙◌, ap}
use Rattle.std.specs.Option.{option_map}
use Rattle.nr_plain.specs.Journal.{state_of}
use Rattle.nr_plain.specs.Replies.{Answer, plain_answer}
use Rattle.nr_gate_laws.proofs.Forwarding.{answered_alike, replies_map, reply_comes_back}
use Rattle.nr_gate_laws.proofs.laws.forwarded_calls_are_answered_alike.Goals as goal

pub returns-clause-answers : goal.returns-clause-answers
returns-clause-answers c s st m x q bytes fits two = answered_alike s st m x q bytes fits two

pub returns-clause-replies : goal.returns-clause-replies
returns-clause-replies c s J place m x q bytes fits two =
    ap (option_map (λ (a : Answer). a.reply)) (answered_alike s.parameters (state_of s (take place J)) m x q bytes fits two)
    ∙ replies_map x (plain_answer s.parameters (state_of s (take place J)) m q)

pub returns-clause-back : goal.returns-clause-back
returns-clause-back c = reply_comes_back
