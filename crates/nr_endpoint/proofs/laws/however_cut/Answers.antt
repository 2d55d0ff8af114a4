use Rattle.std.proofs.Common.{◌++◌, refl}
use Rattle.nr_wire.specs.Stream.{is_whole}
use Rattle.nr_endpoint.specs.LinkState.{has_ended}
use Rattle.nr_endpoint.specs.Judging.{with_frame}
use Rattle.nr_endpoint.specs.Calls.{after_call}
use Rattle.nr_endpoint.proofs.Pieces.{step_taken}
use Rattle.nr_endpoint.proofs.CutLaws.{pieces_join, steps_reach, end_stays_lem, keeps_less_than_frame, ended_keeps_nothing}
use Rattle.nr_endpoint.proofs.laws.however_cut.Goals as goal

pub returns-clause-pieces : goal.returns-clause-pieces
returns-clause-pieces c = pieces_join

pub returns-clause-steps : goal.returns-clause-steps
returns-clause-steps c = steps_reach

pub returns-clause-end_stays : goal.returns-clause-end_stays
returns-clause-end_stays c = end_stays_lem

pub returns-clause-partial : goal.returns-clause-partial
returns-clause-partial c = keeps_less_than_frame

pub returns-clause-ended_empty : goal.returns-clause-ended_empty
returns-clause-ended_empty c = ended_keeps_nothing

pub returns-clause-step : goal.returns-clause-step
unfolding after_call
returns-clause-step c = λ link piece live p. step_taken has_ended with_frame link piece (is_whole link.awaited (link.rest ++ piece)) refl live p
