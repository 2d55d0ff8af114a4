use Rattle.std.proofs.Common.{◌∙◌}
use Rattle.nr_gate.proofs.Asked.{args_inside, asked_other, asked_version2}
use Rattle.nr_gate.proofs.asking.asked_by.Goals as goal

pub split_at-requires : goal.split_at-requires
split_at-requires c =
    args_inside c.args.bytes.now c.args.head c.in-Version2.xid c.in-Version2.prog c.in-Version2.vers c.in-Version2.proc c.in-Version2.args_at c.in-Version2.cred c.in-Version2.is c.requires.begins

pub returns-in-Other : goal.returns-in-Other
returns-in-Other c = asked_other c.args.bytes.now c.args.head c.in-Other.xid c.in-Other._version c.in-Other.is c.requires.is

pub returns-in-Ok : goal.returns-in-Ok
returns-in-Ok c =
    asked_version2 c.args.bytes.now c.args.head c.in-Version2.xid c.in-Version2.prog c.in-Version2.vers c.in-Version2.proc c.in-Version2.args_at c.in-Version2.cred c.in-Version2.is c.requires.begins
    c.in-Ok.args c.requires.is (c.in-Ok.ensures ∙ c.split_at.ensures.back)
