use Rattle.std.proofs.Common.{sym}
use Rattle.nr_reduce.specs.KeptClient.{bytes_under}
use Rattle.nr_requester.specs.Judged.{kept_views}
use Rattle.nr_requester.proofs.MessageBodies.{own_bad, bad_header, same_all}
use Rattle.nr_requester.proofs.judging.judged.Goals as goal

pub returns-in-Err-clause-err : goal.returns-in-Err-clause-err
returns-in-Err-clause-err c = bad_header (kept_views c.args.sent c.args.calls.now) (bytes_under c.args.regions.now.memory) c.args.named c.args.message.now c.in-Err.fault c.reason_of.result c.requires.message (sym c.in-Err.ensures.exact) c.reason_of.ensures

pub returns-in-Err-clause-same : goal.returns-in-Err-clause-same
returns-in-Err-clause-same c = same_all c.args.calls.now

pub returns-in-Err-clause-own : goal.returns-in-Err-clause-own
returns-in-Err-clause-own c = sym (own_bad (kept_views c.args.sent c.args.calls.now) c.args.named c.args.message.now c.in-Err.fault (sym c.in-Err.ensures.exact))
