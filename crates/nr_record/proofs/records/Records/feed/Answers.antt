use Rattle.std.proofs.Common.{◌++◌}
use Rattle.nr_record.specs.RecordsState.{kept}
use Rattle.nr_record.proofs.Above.{answer_ok, answer_err}
use Rattle.nr_record.proofs.records.Records.feed.Goals as goal

pub returns-clause-ok : goal.returns-clause-ok
returns-clause-ok c = λ stream taken s. answer_ok c.feed_inner.result (kept c.feed_inner.new.self) (stream ++ c.args.piece.now) taken (c.feed_inner.ensures.stands stream taken s) c.feed_inner.ensures.ok

pub returns-clause-err : goal.returns-clause-err
returns-clause-err c = λ stream taken s. answer_err c.feed_inner.result (kept c.feed_inner.new.self) (stream ++ c.args.piece.now) taken (c.feed_inner.ensures.stands stream taken s) c.feed_inner.ensures.err
