use Rattle.std.proofs.Common.{List, sym, ap, subst, ◌∙◌}
use Rattle.nr_turnstile.specs.Passes.{id_of, seen_by}
use Rattle.nr_turnstile.specs.Turns.{pass_of}
use Rattle.nr_shared.specs.declared.entry.Entry.{Entry}
use Rattle.nr_shared.specs.Histories.{tries_in}
use Rattle.nr_shared.specs.Output.{MayFeed}
use Rattle.nr_shared.proofs.Alone.{alone, alone_writes}
use Rattle.nr_shared.proofs.Asking.{feeding_same}
use Rattle.nr_shared.proofs.FeedsOn.{Reads, either_way, hangs_up, lies_same, of_feeds, reads_after, reads_turned, to_feeds}
use Rattle.nr_shared.proofs.shared.SharedRequester.needs_input.Goals as goal

pub input_or_link_under-needs_input-requires-clause-feeding : goal.input_or_link_under-needs_input-requires-clause-feeding
input_or_link_under-needs_input-requires-clause-feeding g c = let (b, (f, home)) = c.requires in let t = c.take_turn-turn.ensures.got.1 in
    let al = alone g.O.LinkSink.link g.O.Sink.taken g.O.Sink.faults g.C.CallRule.allows c.take_turn-turn.result.turnstile.now c.args.reader.now.pass (pass_of c.take_turn-turn.result) t.0 f.lies t t.2 f.feeding in
    (alone_writes (pass_of c.take_turn-turn.result) (pass_of c.drain_under.new.turn) c.drain_under.ensures.wrote t.7 al.feeding).feeding

pub input_or_link_under-needs_input-requires-clause-link : goal.input_or_link_under-needs_input-requires-clause-link
input_or_link_under-needs_input-requires-clause-link g c = let (b, (f, home)) = c.requires in let t = c.take_turn-turn.ensures.got.1 in let s = c.args.reader.now in let d = pass_of c.drain_under.new.turn in
    let al = alone g.O.LinkSink.link g.O.Sink.taken g.O.Sink.faults g.C.CallRule.allows c.take_turn-turn.result.turnstile.now s.pass (pass_of c.take_turn-turn.result) t.0 f.lies t t.2 f.feeding in
    let be = alone_writes (pass_of c.take_turn-turn.result) d c.drain_under.ensures.wrote t.7 al.feeding in
    hangs_up g.I.LinkSource.link g.I.Source.left g.I.Source.given g.I.Source.faults g.O.LinkSink.link g.O.Sink.taken g.O.Sink.faults g.D.Dialer.asked g.D.Dialer.ended g.D.Dialer.faults b s.source s.dialer s.read (seen_by d)
    (reads_turned g.I.LinkSource.link g.I.Source.left g.I.Source.given g.I.Source.faults g.D.Dialer.asked g.D.Dialer.ended g.D.Dialer.faults b s.source s.dialer s.read (seen_by s.pass) (seen_by d)
    (of_feeds g.I.LinkSource.link g.I.Source.left g.I.Source.given g.I.Source.faults g.D.Dialer.asked g.D.Dialer.ended g.D.Dialer.faults b s f) (ap tries_in (be.initial_is ∙ al.initial_is)) (be.bytes ∙ al.bytes) (be.part ∙ al.part))

pub returns-clause-reads : goal.returns-clause-reads
returns-clause-reads g c = λ b f home. (
    let t = c.take_turn-turn.ensures.got.1 in let s = c.args.reader.now in let d = pass_of c.drain_under.new.turn in let i = c.input_or_link_under-needs_input in let u = pass_of i.new.turn in let z = c.put_back.new.self.1.0 in
    let al = alone g.O.LinkSink.link g.O.Sink.taken g.O.Sink.faults g.C.CallRule.allows c.take_turn-turn.result.turnstile.now s.pass (pass_of c.take_turn-turn.result) t.0 f.lies t t.2 f.feeding in
    let be = alone_writes (pass_of c.take_turn-turn.result) d c.drain_under.ensures.wrote t.7 al.feeding in
    let drained = reads_turned g.I.LinkSource.link g.I.Source.left g.I.Source.given g.I.Source.faults g.D.Dialer.asked g.D.Dialer.ended g.D.Dialer.faults b s.source s.dialer s.read (seen_by s.pass) (seen_by d)
    (of_feeds g.I.LinkSource.link g.I.Source.left g.I.Source.given g.I.Source.faults g.D.Dialer.asked g.D.Dialer.ended g.D.Dialer.faults b s f) (ap tries_in (be.initial_is ∙ al.initial_is)) (be.bytes ∙ al.bytes) (be.part ∙ al.part) in
    let after = reads_after g.I.LinkSource.link g.I.Source.left g.I.Source.given g.I.Source.faults g.O.LinkSink.link g.O.Sink.taken g.O.Sink.faults g.D.Dialer.asked g.D.Dialer.ended g.D.Dialer.faults b s.source i.new.source s.dialer i.new.dialer s.read (seen_by d) (seen_by u) _
    be.feeding.initial (c.as_str.ensures.value ∙ f.address) be.feeding.is_initial drained (either_way i.result (λ is. (i.ensures.input is).0) i.ensures.other) in
    to_feeds g.I.LinkSource.link g.I.Source.left g.I.Source.given g.I.Source.faults g.D.Dialer.asked g.D.Dialer.ended g.D.Dialer.faults b _
    f.address (c.put_back.ensures.0.0 ∙ (ap (λ m. id_of m) (i.ensures.same.0 ∙ (c.drain_under.ensures.same.0 ∙ c.take_turn-turn.ensures.got.0)) ∙ sym home)) (c.put_back.ensures.0.1, c.put_back.ensures.0.2)
    (lies_same u z c.put_back.ensures.1 c.put_back.ensures.2 i.ensures.ready.lies) (feeding_same u z c.put_back.ensures.1 c.put_back.ensures.2 i.ensures.feeding) f.room
    (subst (λ (l : List Entry). Reads g.I.LinkSource.link g.I.Source.left g.I.Source.given g.I.Source.faults g.D.Dialer.asked g.D.Dialer.ended g.D.Dialer.faults b i.new.source i.new.dialer s.read l) (sym c.put_back.ensures.1) after))

pub returns-clause-needs_input : goal.returns-clause-needs_input
returns-clause-needs_input g c = λ is. subst (λ (l : List Entry). MayFeed l) (sym c.put_back.ensures.1) (c.input_or_link_under-needs_input.ensures.input is).1
