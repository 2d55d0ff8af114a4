use Rattle.std.proofs.Common.{◌≡◌, ℕ, List, [], Option, Some, length, refl, sym, ap, subst, ◌∙◌}
use Rattle.std.specs.String.{string_bytes}
use Rattle.nr_turnstile.specs.Rule.{places}
use Rattle.nr_turnstile.specs.Passes.{home_of, mine_of, seen_by}
use Rattle.nr_shared.specs.declared.entry.Entry.{Entry}
use Rattle.nr_shared.specs.declared.requester_with_sink.RequesterWithSink.{RequesterWithSink}
use Rattle.nr_shared.specs.Callers.{KeepsLaw}
use Rattle.nr_shared.specs.Numbered.{IsBegun}
use Rattle.nr_shared.specs.Opening.{GivesBack}
use Rattle.nr_shared.specs.private.Reading.{both}
use Rattle.nr_shared.proofs.Closed.{unshared_as}
use Rattle.nr_shared.proofs.Ends.{law_of}
use Rattle.nr_shared.proofs.Opened.{earlier_begun, first_reader, first_feeds, first_lies}
use Rattle.nr_shared.proofs.Resting.{new_caller}
use Rattle.nr_shared.proofs.opening.share.Goals as goal

pub new_or_value-requires-clause-stands : goal.new_or_value-requires-clause-stands
new_or_value-requires-clause-stands g c = c.requires.stands

pub new_or_value-requires-clause-earlier : goal.new_or_value-requires-clause-earlier
new_or_value-requires-clause-earlier g c = earlier_begun g.I.LinkSource.link g.D.Dialer.ended g.H.OpeningHistory.history c.args.source c.args.dialer c.requires.begun

pub share_reader-requires-clause-feeds : goal.share_reader-requires-clause-feeds
share_reader-requires-clause-feeds g c =
    let m = c.in-Ok-new_or_value.ensures.ok in let u = c.split-caller.ensures.unchanged in let history = g.H.OpeningHistory.history in
    let p = c.split-caller.new.pass in
    let seen : seen_by p ≡ history = ap (λ x. x.0.seen) u.1 ∙ ap (λ v. v.seen) m.1 in
    let mine : mine_of p ≡ places (length history) = ap (λ x. x.0.mine) u.1 ∙ ap (λ v. v.mine) m.1 in
    let begun : IsBegun g.I.LinkSource.link g.D.Dialer.ended history c.of-first_source.result.value c.of-first_dialer.result.value =
    subst (λ (d : g.row.D.Denot). IsBegun g.I.LinkSource.link g.D.Dialer.ended history c.of-first_source.result.value d) (sym c.of-first_dialer.ensures)
    (subst (λ (i : g.row.I.Denot). IsBegun g.I.LinkSource.link g.D.Dialer.ended history i c.args.dialer) (sym c.of-first_source.ensures) c.requires.begun) in
    first_reader g.I.LinkSource.link g.I.Source.left g.I.Source.given g.I.Source.faults g.D.Dialer.asked g.D.Dialer.ended g.D.Dialer.faults _ _ history (ap (λ t. string_bytes t) (sym c.of-first_addr.ensures)) (ap home_of (sym c.of-first.ensures)) (ap (λ x. x.1) u.1 ∙ m.0.1, ap (λ x. x.0.stage) u.1 ∙ m.0.2)
    (first_lies history p seen mine) (first_feeds g.I.LinkSource.link g.D.Dialer.ended history c.args.source c.args.dialer p c.requires.begun seen mine) seen begun
    (ap Some (sym c.of-first_source.ensures)) (sym c.of-first_dialer.ensures) refl c.requires.read (sym c.in-Ok.buf.ok.0 ∙ c.in-Ok.ensures.len)

pub returns-in-Ok-share_reader-clause-rests : goal.returns-in-Ok-share_reader-clause-rests
returns-in-Ok-share_reader-clause-rests g c =
    let m = c.in-Ok-new_or_value.ensures.ok in let u = c.split-caller.ensures.unchanged in let history = g.H.OpeningHistory.history in
    let t = c.in-Ok-share_reader.ensures.ok in let n = c.split-caller.ensures.new in
    let seen : seen_by c.split-caller.result ≡ history = ap (λ w. w.seen) n.1 ∙ ap (λ v. v.seen) m.1 in
    record {
      main = n.0;
      source = t.0;
      initial_source = record { source = c.of-first_source.result; dialer = c.of-first_dialer.result; addr = c.of-first_addr.result; pass = c.of-first.result; read = c.args.read };
      has_seen = t.1;
      home = ap home_of c.of-first.ensures ∙ (u.0.0 ∙ m.0.0);
      caller = new_caller c.split-caller.result (ap (λ w. w.mine) n.1);
      law = subst KeepsLaw (sym seen) (law_of g.O.LinkSink.link g.O.Sink.taken g.O.Sink.faults g.C.CallRule.allows c.args.with_sink history c.requires.stands);
    }

pub returns-in-Ok-share_reader-clause-source : goal.returns-in-Ok-share_reader-clause-source
returns-in-Ok-share_reader-clause-source g c = (record { source = c.of-first_source.result; dialer = c.of-first_dialer.result; addr = c.of-first_addr.result; pass = c.of-first.result; read = c.args.read }, (c.in-Ok-share_reader.ensures.ok.1, (c.of-first_source.ensures, (c.of-first_dialer.ensures, (ap (λ t. string_bytes t) c.of-first_addr.ensures, refl)))))

-- ---- Out of memory

pub returns-in_default-clause-err : goal.returns-in_default-clause-err
returns-in_default-clause-err g c = let b = c.given_back.ensures in
    unshared_as g.I.LinkSource.link g.I.Source.left g.I.Source.given g.I.Source.faults g.O.LinkSink.link g.O.Sink.taken g.O.Sink.faults g.D.Dialer.asked g.D.Dialer.ended g.D.Dialer.faults g.C.CallRule.allows c.args.with_sink g.H.OpeningHistory.history c.args.source c.args.dialer (string_bytes c.args.addr) c.args.read _ _ _
    c.requires.read c.requires.stands c.requires.begun b.requester b.link b.dialer

pub returns-in-Err-clause-err : goal.returns-in-Err-clause-err
returns-in-Err-clause-err g c = let b = c.given_back-in-Err.ensures in let same = c.in-Err.ensures.err in
    unshared_as g.I.LinkSource.link g.I.Source.left g.I.Source.given g.I.Source.faults g.O.LinkSink.link g.O.Sink.taken g.O.Sink.faults g.D.Dialer.asked g.D.Dialer.ended g.D.Dialer.faults g.C.CallRule.allows c.args.with_sink g.H.OpeningHistory.history c.args.source c.args.dialer (string_bytes c.args.addr) c.args.read _ _ _
    c.requires.read c.requires.stands c.requires.begun
    (b.requester ∙ ap (λ (m : RequesterWithSink g.row.O.Denot g.row.C.Denot). m.requester) same)
    (b.link ∙ ap (λ (m : RequesterWithSink g.row.O.Denot g.row.C.Denot). both (Some c.args.source) m.sink) same) b.dialer

pub take_back-requires-clause-caller : goal.take_back-requires-clause-caller
take_back-requires-clause-caller g c = new_caller c.split-caller.result (ap (λ w. w.mine) c.split-caller.ensures.new.1)

pub take_back-requires-clause-feeds : goal.take_back-requires-clause-feeds
take_back-requires-clause-feeds g c =
    let m = c.in-Ok-new_or_value.ensures.ok in let u = c.split-caller.ensures.unchanged in
    (record { source = c.of-first_source.result; dialer = c.of-first_dialer.result; addr = c.of-first_addr.result; pass = c.of-first.result; read = c.args.read }, (c.in-Err-share_reader.ensures.err, ap home_of c.of-first.ensures ∙ (u.0.0 ∙ m.0.0)))

pub returns-clause-err : goal.returns-clause-err
returns-clause-err g c =
    let m = c.in-Ok-new_or_value.ensures.ok in let n = c.split-caller.ensures.new in let history = g.H.OpeningHistory.history in let r = c.take_back.result in let caller = c.split-caller.result in
    let seen : seen_by caller ≡ history = ap (λ w. w.seen) n.1 ∙ ap (λ v. v.seen) m.1 in
    let mine : mine_of caller ≡ [] = ap (λ w. w.mine) n.1 in
    subst (λ (l : List Entry). GivesBack g.I.LinkSource.link g.I.Source.left g.I.Source.given g.I.Source.faults g.O.LinkSink.link g.O.Sink.taken g.O.Sink.faults g.D.Dialer.asked g.D.Dialer.ended g.D.Dialer.faults g.C.CallRule.allows l [] c.args.source c.args.dialer (string_bytes c.args.addr) c.args.read r.0 r.1 r.2) seen
    (subst (λ (ks : List ℕ). GivesBack g.I.LinkSource.link g.I.Source.left g.I.Source.given g.I.Source.faults g.O.LinkSink.link g.O.Sink.taken g.O.Sink.faults g.D.Dialer.asked g.D.Dialer.ended g.D.Dialer.faults g.C.CallRule.allows (seen_by caller) ks c.args.source c.args.dialer (string_bytes c.args.addr) c.args.read r.0 r.1 r.2) mine
    (subst (λ (d : g.row.D.Denot). GivesBack g.I.LinkSource.link g.I.Source.left g.I.Source.given g.I.Source.faults g.O.LinkSink.link g.O.Sink.taken g.O.Sink.faults g.D.Dialer.asked g.D.Dialer.ended g.D.Dialer.faults g.C.CallRule.allows (seen_by caller) (mine_of caller) c.args.source d (string_bytes c.args.addr) c.args.read r.0 r.1 r.2) c.of-first_dialer.ensures
    (subst (λ (i : g.row.I.Denot). GivesBack g.I.LinkSource.link g.I.Source.left g.I.Source.given g.I.Source.faults g.O.LinkSink.link g.O.Sink.taken g.O.Sink.faults g.D.Dialer.asked g.D.Dialer.ended g.D.Dialer.faults g.C.CallRule.allows (seen_by caller) (mine_of caller) i c.of-first_dialer.result.value (string_bytes c.args.addr) c.args.read r.0 r.1 r.2) c.of-first_source.ensures
    (subst (λ (a : List ℕ). GivesBack g.I.LinkSource.link g.I.Source.left g.I.Source.given g.I.Source.faults g.O.LinkSink.link g.O.Sink.taken g.O.Sink.faults g.D.Dialer.asked g.D.Dialer.ended g.D.Dialer.faults g.C.CallRule.allows (seen_by caller) (mine_of caller) c.of-first_source.result.value c.of-first_dialer.result.value a c.args.read r.0 r.1 r.2) (ap (λ t. string_bytes t) c.of-first_addr.ensures)
    (c.take_back.ensures (record { source = c.of-first_source.result; dialer = c.of-first_dialer.result; addr = c.of-first_addr.result; pass = c.of-first.result; read = c.args.read }) c.in-Err-share_reader.ensures.err)))))
