use Rattle.nr_laws.proofs.SegmentedMessages.{send_is_its_segments, segments_read_back, last_segment_names, message_is_received, messages_are_received, segments_break_no_rule}
use Rattle.nr_laws.proofs.payloads.messages_in_segments.Goals as goal

pub returns-clause-sent : goal.returns-clause-sent
returns-clause-sent c = send_is_its_segments

pub returns-clause-read : goal.returns-clause-read
returns-clause-read c = segments_read_back

pub returns-clause-names : goal.returns-clause-names
returns-clause-names c = last_segment_names

pub returns-clause-received : goal.returns-clause-received
returns-clause-received c = message_is_received

pub returns-clause-in_order : goal.returns-clause-in_order
returns-clause-in_order c = messages_are_received

pub returns-clause-allowed : goal.returns-clause-allowed
returns-clause-allowed c = segments_break_no_rule
