use Rattle.std.proofs.Common.{rules, ◌≡◌, ℕ, ◌+◌, ◌≤◌, arith, List, length, take, Option, Vec, sym, ap, subst, ◌∙◌, take-take, length-take-le}
use Rattle.std.specs.Vec.{with_items}
use Rattle.std.proofs.lemmas.List.{take-append-le}
use Rattle.nr_outside.specs.Content.{HandsOut}
use Rattle.nr_links.specs.Limits.{piece_max}
use Rattle.nr_turnstile.specs.Passes.{seen_by}
use Rattle.nr_shared.proofs.FeedsOn.{Reads, of_feeds, reads_more, reads_stopped, to_feeds}
use Rattle.nr_shared.proofs.shared.SharedRequester.receive_piece.Goals as goal

-- what was read into a buffer is in it
module _ {Z : Type 0} where
  filled : (v : Vec ℕ Z) (read : List ℕ) → length v.items ≡ piece_max → length (with_items v read).items ≡ piece_max
  filled v read room = sym (with_items v read).ok.0 ∙ (v.ok.0 ∙ room)

  front : (n : ℕ) (v : Vec ℕ Z) (read : List ℕ) → length v.items ≡ piece_max → length read ≡ piece_max → n ≤ piece_max → take n (with_items v read).items ≡ take n read
  front n v read room whole few = (let len = v.ok.0 in take-take n v.len _ (omega (arith, len, room, few))) ∙ take-append-le n read _ (omega (arith, whole, few))

pub feed-requires-clause-feeding : goal.feed-requires-clause-feeding
feed-requires-clause-feeding g c = let (b, (f, home)) = c.requires in (c.needs_input.ensures.reads b f home).feeding

pub feed-requires-clause-lies : goal.feed-requires-clause-lies
feed-requires-clause-lies g c = let (b, (f, home)) = c.requires in (c.needs_input.ensures.reads b f home).lies

pub stop-requires-clause-feeding : goal.stop-requires-clause-feeding
stop-requires-clause-feeding g c = let (b, (f, home)) = c.requires in (c.needs_input.ensures.reads b f home).feeding

pub stop-requires-clause-lies : goal.stop-requires-clause-lies
stop-requires-clause-lies g c = let (b, (f, home)) = c.requires in (c.needs_input.ensures.reads b f home).lies

pub returns-in-Err : goal.returns-in-Err
returns-in-Err g c = λ b f home. (
    let s = c.needs_input.new.reader in let n = c.needs_input.ensures.reads b f home in let w = c.stop.ensures in let e = c.read_piece.ensures in let x = c.in-Err.ensures in
    let there = subst (λ (o : Option g.row.I.Denot). Reads g.I.LinkSource.link g.I.Source.left g.I.Source.given g.I.Source.faults g.D.Dialer.asked g.D.Dialer.ended g.D.Dialer.faults b o s.dialer c.read_piece.new.read (seen_by s.pass)) c.in-Some.is
    (subst (λ (m : ℕ). Reads g.I.LinkSource.link g.I.Source.left g.I.Source.given g.I.Source.faults g.D.Dialer.asked g.D.Dialer.ended g.D.Dialer.faults b s.source s.dialer m (seen_by s.pass)) (sym x.none.1.0) (of_feeds g.I.LinkSource.link g.I.Source.left g.I.Source.given g.I.Source.faults g.D.Dialer.asked g.D.Dialer.ended g.D.Dialer.faults b s n)) in
    to_feeds g.I.LinkSource.link g.I.Source.left g.I.Source.given g.I.Source.faults g.D.Dialer.asked g.D.Dialer.ended g.D.Dialer.faults b _ n.address (w.rests.0 ∙ sym home) (w.rests.1, w.rests.2) w.lies w.feeding (filled s.buf c.read_piece.new.buf n.room)
    (reads_stopped g.I.LinkSource.link g.I.Source.left g.I.Source.given g.I.Source.faults g.D.Dialer.asked g.D.Dialer.ended g.D.Dialer.faults b _ c.read_piece.new.source s.dialer c.read_piece.new.read (seen_by s.pass) (seen_by c.stop.new.feeding) c.in-Err.cause there w.tries x.none.1.1 e.link e.never_falls x.counted
    (c.needs_input.ensures.needs_input (search rules)).0 x.none.0 x.cause w.fed w.present))

pub returns-in-Ok : goal.returns-in-Ok
returns-in-Ok g c = λ b f home. (
    let s = c.needs_input.new.reader in let n = c.needs_input.ensures.reads b f home in let w = c.feed.ensures in let e = c.read_piece.ensures in let x = c.in-Ok.ensures in let k = c.in-Ok.n in
    let was = c.in-Some.source in let is = c.read_piece.new.source in
    let piece : c.split_at.result.0.now ≡ take k c.read_piece.new.buf = c.split_at.ensures.front ∙ (ap (λ (l : List ℕ). take k l) c.deref.ensures.value ∙ front k s.buf c.read_piece.new.buf n.room e.room x.piece.1.0) in
    let long : length c.split_at.result.0.now ≡ k = ap length piece ∙ length-take-le k c.read_piece.new.buf (let room = e.room in let few = x.piece.1.0 in omega (arith, room, few)) in
    let there = subst (λ (o : Option g.row.I.Denot). Reads g.I.LinkSource.link g.I.Source.left g.I.Source.given g.I.Source.faults g.D.Dialer.asked g.D.Dialer.ended g.D.Dialer.faults b o s.dialer s.read (seen_by s.pass)) c.in-Some.is (of_feeds g.I.LinkSource.link g.I.Source.left g.I.Source.given g.I.Source.faults g.D.Dialer.asked g.D.Dialer.ended g.D.Dialer.faults b s n) in
    to_feeds g.I.LinkSource.link g.I.Source.left g.I.Source.given g.I.Source.faults g.D.Dialer.asked g.D.Dialer.ended g.D.Dialer.faults b _ n.address (w.rests.0 ∙ sym home) (w.rests.1, w.rests.2) w.lies w.feeding (filled s.buf c.read_piece.new.buf n.room)
    (reads_more g.I.LinkSource.link g.I.Source.left g.I.Source.given g.I.Source.faults g.D.Dialer.asked g.D.Dialer.ended g.D.Dialer.faults b was is s.dialer s.read c.read_piece.new.read (seen_by s.pass) (seen_by c.feed.new.feeding) c.split_at.result.0.now c.feed.result there w.tries
    (subst (λ (bytes : List ℕ). HandsOut (g.I.Source.left was) (g.I.Source.given was) (g.I.Source.left is) (g.I.Source.given is) bytes) (sym piece) x.gave) e.link x.counted
    (c.needs_input.ensures.needs_input (search rules)).0 (x.piece.1.1.0 ∙ ap (λ (m : ℕ). s.read + m) (sym long)) x.piece.1.1.1 w.fed w.present))
