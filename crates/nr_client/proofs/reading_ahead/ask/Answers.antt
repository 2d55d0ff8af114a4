use Rattle.std.proofs.Common.{◌≡◌, ℕ, List, [], ◌∷◌, ◌++◌, ap, subst, sym, ◌∙◌}
use Rattle.nr_client.specs.private.OpenReads.{AreOpen}
use Rattle.nr_client.proofs.FileEnds.{not_submitted_from, out_before_from}
use Rattle.nr_client.proofs.FileReading.{ahead_from, asked_from}
use Rattle.nr_client.proofs.Tickets.{open_with_last, still_open}
use Rattle.nr_client.proofs.reading_ahead.ask.Goals as goal

pub returns-in-Err-clause-err : goal.returns-in-Err-clause-err
returns-in-Err-clause-err g c at t below ahead first taken so_far =
    out_before_from g.L.Calls.relations c.args.file.now.uid c.args.file.now.gid c.args.file.now.handle.now c.args.file.now.size at at c.args.tickets.now.items c.reserve.new.self.items first taken t
    (g.L.Calls.at c.args.link.now) c.reserve.ensures.items so_far

pub returns-in-Err-read_call-clause-err : goal.returns-in-Err-read_call-clause-err
returns-in-Err-read_call-clause-err g c at t below ahead first taken so_far =
    out_before_from g.L.Calls.relations c.args.file.now.uid c.args.file.now.gid c.args.file.now.handle.now c.args.file.now.size at at c.args.tickets.now.items c.reserve.new.self.items first taken t
    (g.L.Calls.at c.args.link.now) c.reserve.ensures.items so_far

pub returns-in-Err-submit-clause-open : goal.returns-in-Err-submit-clause-open
returns-in-Err-submit-clause-open g c =
    subst (λ (l : List ℕ). AreOpen g.L.Calls.relations (g.L.Calls.at c.submit.new.self) l) (sym c.reserve.ensures.items)
    (still_open g.L.Calls.relations (g.L.Calls.at c.args.link.now) (g.L.Calls.at c.submit.new.self) c.args.tickets.now.items c.in-Err-submit.ensures.keeps c.requires.open)

pub returns-in-Err-submit-clause-err : goal.returns-in-Err-submit-clause-err
returns-in-Err-submit-clause-err g c at t below ahead first taken so_far =
    not_submitted_from g.L.Calls.relations c.args.file.now.uid c.args.file.now.gid c.args.file.now.handle.now c.args.file.now.size at c.args.next.now c.piece_left-count.result c.args.tickets.now.items c.reserve.new.self.items c.in-Ok.call c.in-Err-submit.end first taken t
    (g.L.Calls.at c.args.link.now) (g.L.Calls.at c.submit.new.self) c.reserve.ensures.items c.in-Ok.ensures c.piece_left-count.ensures.is below ahead c.requires.may
    c.in-Err-submit.ensures.err so_far

pub returns-clause-open : goal.returns-clause-open
returns-clause-open g c =
    let all : c.push_reserved.new.self.items ≡ c.args.tickets.now.items ++ c.in-Ok-submit.ticket ∷ [] =
    c.push_reserved.ensures.items ∙ ap (λ (l : List ℕ). l ++ c.in-Ok-submit.ticket ∷ []) c.reserve.ensures.items in
    subst (λ (l : List ℕ). AreOpen g.L.Calls.relations (g.L.Calls.at c.submit.new.self) l) (sym all)
    (open_with_last g.L.Calls.relations c.in-Ok-submit.ticket c.in-Ok.call (g.L.Calls.at c.args.link.now) (g.L.Calls.at c.submit.new.self) c.args.tickets.now.items c.in-Ok-submit.ensures.opens c.requires.open)

pub returns-clause-ahead : goal.returns-clause-ahead
returns-clause-ahead g c at ahead =
    let all : c.push_reserved.new.self.items ≡ c.args.tickets.now.items ++ c.in-Ok-submit.ticket ∷ [] =
    c.push_reserved.ensures.items ∙ ap (λ (l : List ℕ). l ++ c.in-Ok-submit.ticket ∷ []) c.reserve.ensures.items in
    ahead_from g.L.Calls.relations c.args.file.now.size at c.args.next.now c.piece_left-count.result c.args.tickets.now.items c.push_reserved.new.self.items c.in-Ok-submit.ticket c.in-Ok.call (g.L.Calls.at c.args.link.now) (g.L.Calls.at c.submit.new.self)
    all c.piece_left-count.ensures.is c.in-Ok-submit.ensures.opens ahead

pub returns-clause-ok : goal.returns-clause-ok
returns-clause-ok g c at t below ahead first taken so_far =
    let all : c.push_reserved.new.self.items ≡ c.args.tickets.now.items ++ c.in-Ok-submit.ticket ∷ [] =
    c.push_reserved.ensures.items ∙ ap (λ (l : List ℕ). l ++ c.in-Ok-submit.ticket ∷ []) c.reserve.ensures.items in
    asked_from g.L.Calls.relations c.args.file.now.uid c.args.file.now.gid c.args.file.now.handle.now c.args.file.now.size at c.args.next.now c.piece_left-count.result c.args.tickets.now.items c.push_reserved.new.self.items c.in-Ok-submit.ticket c.in-Ok.call first taken t
    (g.L.Calls.at c.args.link.now) (g.L.Calls.at c.submit.new.self) all c.in-Ok.ensures c.piece_left-count.ensures.is below ahead c.requires.may c.in-Ok-submit.ensures.ok so_far
