use Rattle.nr_requester.proofs.RevokedBytes.{buffers_stopped}
use Rattle.nr_requester.proofs.StoppedLaw.{agrees_stopped, counts_stopped, first_stopped, memory_stopped, piece_stays_stopped}
use Rattle.nr_requester.proofs.StopsOn.{done_stops_on, drain_stops_on, forget_stops_on, others_stop_on, piece_stops, refuses_stopped, revoke_stops_on}
use Rattle.nr_requester.proofs.KeptState.{answers_stopped}
use Rattle.nr_requester.proofs.laws.stopped_requesters_go_on.Goals as goal

pub returns-clause-piece : goal.returns-clause-piece
returns-clause-piece c = piece_stops

pub returns-clause-drain : goal.returns-clause-drain
returns-clause-drain c = drain_stops_on

pub returns-clause-revoke : goal.returns-clause-revoke
returns-clause-revoke c = revoke_stops_on

pub returns-clause-forget : goal.returns-clause-forget
returns-clause-forget c = forget_stops_on

pub returns-clause-done : goal.returns-clause-done
returns-clause-done c = done_stops_on

pub returns-clause-others : goal.returns-clause-others
returns-clause-others c = others_stop_on

pub returns-clause-refused : goal.returns-clause-refused
returns-clause-refused c = refuses_stopped

pub returns-clause-later : goal.returns-clause-later
returns-clause-later c = piece_stays_stopped

pub returns-clause-memory : goal.returns-clause-memory
returns-clause-memory c = memory_stopped

pub returns-clause-counts : goal.returns-clause-counts
returns-clause-counts c = counts_stopped

pub returns-clause-agrees : goal.returns-clause-agrees
returns-clause-agrees c = agrees_stopped

pub returns-clause-buffers : goal.returns-clause-buffers
returns-clause-buffers c = buffers_stopped

pub returns-clause-first : goal.returns-clause-first
returns-clause-first c = first_stopped

pub returns-clause-answers : goal.returns-clause-answers
returns-clause-answers c = answers_stopped
