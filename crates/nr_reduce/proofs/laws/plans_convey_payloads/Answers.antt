use Rattle.nr_reduce.proofs.Asking.{asks, asks_from}
use Rattle.nr_reduce.proofs.Offers.{offer_conveys}
use Rattle.nr_reduce.proofs.Readings.{message_again, offer_message}
use Rattle.nr_reduce.proofs.Sizes.{message_size}
use Rattle.nr_reduce.proofs.laws.plans_convey_payloads.Goals as goal

pub returns-clause-message : goal.returns-clause-message
returns-clause-message c = λ payload form up down xid credit stag p h.
    asks payload form up down xid credit stag p h.bytes h.own h.plan h.xid_fits h.credit_fits h.stags_fit

pub returns-clause-size : goal.returns-clause-size
returns-clause-size c = message_size

pub returns-clause-memory : goal.returns-clause-memory
returns-clause-memory c = asks_from

pub returns-clause-lists : goal.returns-clause-lists
returns-clause-lists c = message_again

pub returns-clause-given : goal.returns-clause-given
returns-clause-given c = offer_conveys

pub returns-clause-given_message : goal.returns-clause-given_message
returns-clause-given_message c = offer_message
