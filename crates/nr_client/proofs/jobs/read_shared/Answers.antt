use Rattle.std.proofs.Common.{◌≡◌, [], ◌∷◌, None, refl, ap, subst}
use Rattle.nr_outside.specs.Faults.{last_count}
use Rattle.nr_turnstile.specs.Passes.{mine_of, seen_by}
use Rattle.nr_shared.specs.Feeding.{address_of}
use Rattle.nr_shared.specs.Histories.{tries_in}
use Rattle.nr_shared.specs.Opening.{GivesBack}
use Rattle.nr_shared.proofs.Closed.{back_by, link_back}
use Rattle.nr_client.proofs.JobReading.{back_known, initial_first, initial_on, none_read, one_same, started}
use Rattle.nr_client.proofs.jobs.read_shared.Goals as goal

pub returns-in-Err-clause-reads : goal.returns-in-Err-clause-reads
returns-in-Err-clause-reads g c first told = record {
  initial = record { requester = c.args.link.requester; sink = record { link = g.O.LinkSink.link c.args.link.sink; faults = g.O.Sink.faults c.args.link.sink; taken = g.O.Sink.taken c.args.link.sink }; tries = None };
  seen = g.N.Appended.entry ∷ [];
  mine = [];
  is_initial = initial_first (record { requester = c.args.link.requester; sink = record { link = g.O.LinkSink.link c.args.link.sink; faults = g.O.Sink.faults c.args.link.sink; taken = g.O.Sink.taken c.args.link.sink }; tries = None }) g.N.Appended.entry c.requires.entry;
  of_requester = refl;
  of_sink = (refl, refl);
  once = refl;
  requester = _;
  number = _;
  back = back_known _ _ _ _ _ _ _ _ _ _ _ _ _ _ _ _ _ _ (back_by _ _ _ _ _ _ _ _ _ _ g.C.CallRule.allows _ c.requires.only _ _ _ _ _ _ _ _ _ c.in-Err.ensures.err.1.1);
  reads = none_read c.args.file.now.uid c.args.file.now.gid c.args.file.now.handle.now first c.args.file.now.size (g.N.Appended.entry ∷ []) (g.K.Sink.taken c.args.out.now) told;
}

pub returns-clause-reads : goal.returns-clause-reads
returns-clause-reads g c first told =
    let q = c.read_rounds-result.new.pass in let seen = c.in-Ok.ensures.seen in let (b0, (shared, (value, read))) = c.in-Ok.ensures.source in let (b, (last, back)) = c.close-requester.ensures in
    let same : b ≡ b0 = one_same b0 b _ (seen_by q.source) shared last c.read_rounds-result.ensures.source in record {
      initial = record { requester = c.args.link.requester; sink = record { link = g.O.LinkSink.link c.args.link.sink; faults = g.O.Sink.faults c.args.link.sink; taken = g.O.Sink.taken c.args.link.sink }; tries = None };
      seen = seen_by q.main;
      mine = mine_of q.main;
      is_initial = initial_on (record { requester = c.args.link.requester; sink = record { link = g.O.LinkSink.link c.args.link.sink; faults = g.O.Sink.faults c.args.link.sink; taken = g.O.Sink.taken c.args.link.sink }; tries = None }) g.N.Appended.entry _ (seen_by q.main) c.requires.entry seen.0 c.read_rounds-result.ensures.grows.seen;
      of_requester = refl;
      of_sink = (refl, refl);
      once = refl;
      requester = c.close-requester.result.0;
      number = _;
      back = back_known _ _ _ _ _ _ _ _ _ _ _ _ _ _ _ _ _ _ (back_by _ _ _ _ _ _ _ _ _ _ g.C.CallRule.allows _ c.requires.only _ _ _ _ _ _ _ _ _
          (subst (λ o. GivesBack g.I.LinkSource.link g.I.Source.left g.I.Source.given g.I.Source.faults g.O.LinkSink.link g.O.Sink.taken g.O.Sink.faults (λ d. None) (λ d. None) (λ d. last_count) g.C.CallRule.allows (seen_by q.main) (mine_of q.main) c.args.link.source b0.dialer.value (address_of b0) c.args.link.read c.close-requester.result.0 o c.close-requester.result.2) c.in-Some.is
          (subst (λ i. GivesBack g.I.LinkSource.link g.I.Source.left g.I.Source.given g.I.Source.faults g.O.LinkSink.link g.O.Sink.taken g.O.Sink.faults (λ d. None) (λ d. None) (λ d. last_count) g.C.CallRule.allows (seen_by q.main) (mine_of q.main) i b0.dialer.value (address_of b0) c.args.link.read c.close-requester.result.0 c.close-requester.result.1 c.close-requester.result.2) value
          (subst (λ n. GivesBack g.I.LinkSource.link g.I.Source.left g.I.Source.given g.I.Source.faults g.O.LinkSink.link g.O.Sink.taken g.O.Sink.faults (λ d. None) (λ d. None) (λ d. last_count) g.C.CallRule.allows (seen_by q.main) (mine_of q.main) b0.source.value b0.dialer.value (address_of b0) n c.close-requester.result.0 c.close-requester.result.1 c.close-requester.result.2) read
          (subst (λ x. GivesBack g.I.LinkSource.link g.I.Source.left g.I.Source.given g.I.Source.faults g.O.LinkSink.link g.O.Sink.taken g.O.Sink.faults (λ d. None) (λ d. None) (λ d. last_count) g.C.CallRule.allows (seen_by q.main) (mine_of q.main) x.source.value x.dialer.value (address_of x) x.read c.close-requester.result.0 c.close-requester.result.1 c.close-requester.result.2) same back)))));
      reads = c.read_rounds-result.ensures.ends first (g.K.Sink.taken c.args.out.now)
          (started c.args.file.now.uid c.args.file.now.gid c.args.file.now.handle.now first c.args.file.now.size _ (g.K.Sink.taken c.args.out.now) told);
    }

pub unreachable-requires : goal.unreachable-requires
unreachable-requires g c =
    let q = c.read_rounds-result.new.pass in let seen = c.in-Ok.ensures.seen in let (b, (last, back)) = c.close-requester.ensures in
    let is = initial_on (record { requester = c.args.link.requester; sink = record { link = g.O.LinkSink.link c.args.link.sink; faults = g.O.Sink.faults c.args.link.sink; taken = g.O.Sink.taken c.args.link.sink }; tries = None }) g.N.Appended.entry _ (seen_by q.main) c.requires.entry seen.0 c.read_rounds-result.ensures.grows.seen in
    link_back _ _ _ _ _ _ _ _ _ _ _ _ _ _ _ _ _ _ _ (ap tries_in is) (record { requester = c.args.link.requester; sink = record { link = g.O.LinkSink.link c.args.link.sink; faults = g.O.Sink.faults c.args.link.sink; taken = g.O.Sink.taken c.args.link.sink }; tries = None }) is
    (subst (λ o. GivesBack g.I.LinkSource.link g.I.Source.left g.I.Source.given g.I.Source.faults g.O.LinkSink.link g.O.Sink.taken g.O.Sink.faults (λ d. None) (λ d. None) (λ d. last_count) g.C.CallRule.allows (seen_by q.main) (mine_of q.main) b.source.value b.dialer.value (address_of b) b.read c.close-requester.result.0 o c.close-requester.result.2) c.in-None.is back)
