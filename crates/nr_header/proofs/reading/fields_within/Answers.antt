use Rattle.std.proofs.Common.{arith}
use Rattle.nr_header.specs.Storage.{lists_of}
use Rattle.nr_header.proofs.Readings.{limits_kept_in_room, lists_in_room, stream_within_room}
use Rattle.nr_header.proofs.reading.fields_within.Goals as goal

pub returns-clause-stream : goal.returns-clause-stream
returns-clause-stream c = stream_within_room c.args.bytes.now (lists_of c.fields.new.room) c.fields.result (λ i. omega (arith, c.type_inv.bytes i)) c.fields.ensures.is

pub returns-clause-limits : goal.returns-clause-limits
returns-clause-limits c = limits_kept_in_room c.args.bytes.now (lists_of c.fields.new.room) c.fields.result (λ i. omega (arith, c.type_inv.bytes i)) c.fields.ensures.is

pub returns-clause-lists : goal.returns-clause-lists
returns-clause-lists c = lists_in_room c.args.bytes.now (lists_of c.fields.new.room) c.fields.result c.fields.ensures.is c.fields.ensures.own
