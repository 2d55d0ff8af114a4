use Rattle.std.proofs.Common.{ap, ◌++◌, [], ◌∷◌, ◌∙◌, arith}
use Rattle.nr_endpoint.specs.Requesting.{FitsSink}
use Rattle.nr_endpoint.specs.declared.requests.RemoteRead.{RemoteRead}
use Rattle.nr_responder.proofs.OpenedReads.{on_err_any, opening_step, some_open}
use Rattle.nr_responder.proofs.Removed.{all_pushed_as}
use Rattle.nr_responder.proofs.opening.opening_reads.Goals as goal

pub returns-in_err-push-clause-err : goal.returns-in_err-push-clause-err
returns-in_err-push-clause-err c = on_err_any c.from_residual.result (some_open c.args.kept c.opened.i c.open_count-end.result c.args.reads.now c.opened.invariant.from c.opened-test.true c.open_count-end.ensures)

pub opened-preserved : goal.opened-preserved
opened-preserved c = record {
  reads = opening_step c.args.reads.now c.opened.i c.open_count-end.result _ c.opened.opened.items c.push.new.self.items _ c.opened-test.true c.open_count-end.ensures c.opened.invariant.reads (c.in_ok-push.ensures.items ∙ ap (λ (r : RemoteRead). c.opened.opened.items ++ r ∷ []) c.remote_read.ensures.read);
  from = (let from = c.opened.invariant.from in omega (arith, from));
  fits = all_pushed_as FitsSink c.opened.opened.items c.push.new.self.items c.remote_read.result c.opened.invariant.fits c.remote_read.ensures.fits c.in_ok-push.ensures.items;
}
