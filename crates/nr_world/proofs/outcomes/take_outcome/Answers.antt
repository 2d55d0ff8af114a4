use Rattle.nr_world.proofs.TakenOutcomes.{took, none_comes}
use Rattle.nr_world.proofs.outcomes.take_outcome.Goals as goal

pub try_take-requires : goal.try_take-requires
try_take-requires c = record { «open» = c.requires.«open» }

pub unreachable-requires : goal.unreachable-requires
unreachable-requires c = none_comes c.args.client.now c.args.ticket c.requires.came c.in-NotYet.ensures.taken.1.0

pub unreachable-unreachable : goal.unreachable-unreachable
unreachable-unreachable c = none_comes c.args.client.now c.args.ticket c.requires.came c.in-NotYet.ensures.taken.1.0

pub unreachable-requires-in-Failed : goal.unreachable-requires-in-Failed
unreachable-requires-in-Failed c = none_comes c.args.client.now c.args.ticket c.requires.came c.in-Failed.ensures.taken.0

pub unreachable-unreachable-in-Failed : goal.unreachable-unreachable-in-Failed
unreachable-unreachable-in-Failed c = none_comes c.args.client.now c.args.ticket c.requires.came c.in-Failed.ensures.taken.0

pub returns-clause-taken : goal.returns-clause-taken
returns-clause-taken c = took c.args.client.now c.try_take.new.self c.args.ticket _ c.in-Done.ensures.taken c.in-Done.ensures.keeps

pub returns-clause-tickets : goal.returns-clause-tickets
returns-clause-tickets c = c.in-Done.ensures.tickets

pub returns-clause-fed : goal.returns-clause-fed
returns-clause-fed c = c.in-Done.ensures.fed
