use Rattle.nr_gate.proofs.OwnXid.{as_word, in_place_of, written_over}
use Rattle.std.proofs.Common.{◌∙◌, arith}
use Rattle.nr_gate.proofs.forwarding.with_own_xid.Goals as goal

pub returns-in-Ok-clause-some : goal.returns-in-Ok-clause-some
returns-in-Ok-clause-some c =
    in_place_of c.args.xid c.in-Ok.own c.args.reply (c.in-Ok.ensures ∙ as_word c.args.xid c.to_be_bytes-first.result c.to_be_bytes-first.ensures) (omega (arith, c.if-len-lt-XID_LEN.true, c.len.ensures))

pub returns-clause-some : goal.returns-clause-some
returns-clause-some c =
    written_over c.args.xid c.to_be_bytes-first.result c.args.reply c.overwrite.new.self (as_word c.args.xid c.to_be_bytes-first.result c.to_be_bytes-first.ensures) c.overwrite.ensures
