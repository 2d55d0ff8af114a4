use Rattle.nr_endpoint.proofs.EndLaws.{frames_end_for_these, no_frame_stops, others_come_from_stop, memory_comes_from_out_of_memory}
use Rattle.nr_endpoint.proofs.LastOutput.{end_is_kept, ended_queues_nothing, stop_queues_last, out_of_memory_queues_nothing}
use Rattle.nr_endpoint.proofs.laws.reasons_of_frames.Goals as goal

pub returns-clause-frames : goal.returns-clause-frames
returns-clause-frames c = frames_end_for_these

pub returns-clause-no_stop : goal.returns-clause-no_stop
returns-clause-no_stop c = no_frame_stops

pub returns-clause-stops : goal.returns-clause-stops
returns-clause-stops c = others_come_from_stop

pub returns-clause-memory : goal.returns-clause-memory
returns-clause-memory c = memory_comes_from_out_of_memory

pub returns-clause-ended : goal.returns-clause-ended
returns-clause-ended c = ended_queues_nothing

pub returns-clause-stop_queues : goal.returns-clause-stop_queues
returns-clause-stop_queues c = stop_queues_last

pub returns-clause-no_memory : goal.returns-clause-no_memory
returns-clause-no_memory c = out_of_memory_queues_nothing

pub returns-clause-kept : goal.returns-clause-kept
returns-clause-kept c = end_is_kept
