use Rattle.std.proofs.Common.{◌∙◌, arith}
use Rattle.nr_header.proofs.Messages.{header_is_found, message_is_read}
use Rattle.nr_header.proofs.Readings.{stream_within, limits_kept}
use Rattle.nr_header.proofs.reading.read_header.Goals as goal

pub returns-clause-found : goal.returns-clause-found
returns-clause-found c = header_is_found c.args.bytes.now c.read_header_inner.result (λ i. omega (arith, c.type_inv.bytes i)) c.read_header_inner.ensures.is

pub returns-clause-only : goal.returns-clause-only
returns-clause-only c = λ header is. c.read_header_inner.ensures.is ∙ message_is_read header c.args.bytes.now is

pub returns-clause-stream : goal.returns-clause-stream
returns-clause-stream c = stream_within c.args.bytes.now c.read_header_inner.result (λ i. omega (arith, c.type_inv.bytes i)) c.read_header_inner.ensures.is

pub returns-clause-limits : goal.returns-clause-limits
returns-clause-limits c = limits_kept c.args.bytes.now c.read_header_inner.result (λ i. omega (arith, c.type_inv.bytes i)) c.read_header_inner.ensures.is
