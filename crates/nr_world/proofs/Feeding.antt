-- Bytes that are fed to an end.
use Rattle.std.specs.Prelude.{◌&&◌, if◌then◌else◌}
use Rattle.std.proofs.Common.{◌≡◌, ◌≢◌, ℕ, eqb, Bool, false, List, [], ◌∷◌, ◌++◌, take, drop, Some, inl, refl, ap, sym, subst, ◌∙◌}
use Rattle.nr_wire.specs.declared.hello.Side.TheVariants.{Responder}
use Rattle.nr_reduce.specs.declared.mark.LinkParameters.{LinkParameters}
use Rattle.nr_reduce.specs.declared.mark.Mark.{Mark}
use Rattle.nr_reduce.proofs.Standing.{itself}
use Rattle.nr_responder.specs.ResponderState.{ResponderSide, end_of}
use Rattle.nr_responder.specs.Standing.{ResponderRepresents}
use Rattle.nr_drill.specs.Drill.{Setting, Drill, Pipes, pipes_of, with_pipes, with_mark, after_feeding, after_feeding_up, after_up, settled}
use Rattle.nr_drill.specs.InBytes.{RepliedInBytes}
use Rattle.nr_world.specs.DrillLinkState.{DrillLinkState}
use Rattle.nr_world.specs.LinkStands.{LinkStands}
use Rattle.nr_world.specs.Steps.{Goes, StandsAt}
use Rattle.nr_world.proofs.Ends.{represents_of}
use Rattle.nr_world.proofs.Standing.{with_ends, IsPlain, EndsStand, other_pipes, plain_mark, replied_one}
use Rattle.nr_world.proofs.Writes.{not_own, one_more_mark}
use Rattle.nr_world.proofs.Requesters.{others_leave}
use Rattle.nr_link.specs.declared.end.End.TheVariants as ends
use Rattle.nr_reduce.specs.declared.mark.Mark.TheVariants as marks

-- ---- The server

pub up_nothing : (v : DrillLinkState) (n : ℕ) (run : List Mark) → take n v.pipes.up ≡ [] → Goes (λ s link. after_feeding_up link n) v v run run
up_nothing v n run none s link d at =
    let piece : take n (pipes_of link d).up ≡ [] = ap (λ (p : Pipes). take n p.up) (sym at.stands.pipes) ∙ none in
    subst (λ (xs : List ℕ). StandsAt s link (after_feeding link Responder xs (record { up = drop n (pipes_of link d).up; down = (pipes_of link d).down }) d) v run) (sym piece) at

plain_fed_up : (link : ℕ) (bytes : List ℕ) → IsPlain link (marks.Fed link Responder bytes)
plain_fed_up link bytes = record { drops = refl; answer = λ s. refl; settle = λ s xid. refl; accepts = refl; kept = λ xid. refl; replied = λ before. tt }

not_fed : (link : ℕ) (bytes : List ℕ) → (if (eqb link link && false) then bytes else []) ≡ []
not_fed link bytes = ap (λ (b : Bool). if (b && false) then bytes else []) (itself link)

-- a responder was fed this piece
abbrev pub TakesPiece : ResponderSide → List ℕ → ResponderSide → Type 0
TakesPiece v piece v2 = (opened : LinkParameters) (link : ℕ) (run : List Mark) → ResponderRepresents opened link run v → ResponderRepresents opened link (run ++ marks.Fed link Responder piece ∷ []) v2

pub up_fed : (v : DrillLinkState) (server : ResponderSide) (n : ℕ) (piece : List ℕ) (pipes : Pipes) (run run2 : List Mark) → piece ≡ take n v.pipes.up → piece ≢ [] → TakesPiece v.server piece server → end_of server ≢ Some ends.Memory →
    pipes ≡ record { up = drop n v.pipes.up; down = v.pipes.down } → run2 ≡ run ++ marks.Fed v.number Responder piece ∷ [] → Goes (λ s link. after_feeding_up link n) v (with_ends v v.client server pipes) run run2
up_fed v server n [] pipes run run2 taken some takes ends_not is more s link d at = absurd (some refl)
up_fed v server n (b ∷ bytes) pipes run run2 taken some takes ends_not is more s link d at =
    let h = at.stands in
    let o = s.opened link in
    let piece : List ℕ = b ∷ bytes in
    let mark : Mark = marks.Fed link Responder piece in
    let rest : Pipes = record { up = drop n (pipes_of link d).up; down = (pipes_of link d).down } in
    let all : take n (pipes_of link d).up ≡ piece = ap (λ (p : Pipes). take n p.up) (sym h.pipes) ∙ sym taken in
    let e : EndsStand s link (d.marks ++ mark ∷ []) v.client server = record {
      client = others_leave o link v.client d.marks mark h.client (not_own link _) refl (not_fed link piece) (λ xid. refl);
      server = represents_of o link (d.marks ++ mark ∷ []) server ends_not (takes o link d.marks (inl h.server));
      client_memory = h.client_memory;
      server_memory = ends_not;
    } in
    let one : LinkStands s link (with_mark mark d) (with_ends v v.client server v.pipes) = plain_mark s link d v v.client server mark (plain_fed_up link piece) h e in
    let own : rest ≡ pipes = sym (is ∙ ap (λ (p : Pipes). record { up = drop n p.up; down = p.down }) h.pipes) in
    let run_is : run2 ≡ d.marks ++ mark ∷ [] = one_more_mark v.number link (λ (l : ℕ). marks.Fed l Responder piece) run run2 d.marks h.number at.marks more in
    subst (λ (xs : List ℕ). StandsAt s link (after_feeding link Responder xs rest d) (with_ends v v.client server pipes) run2) (sym all) (record {
      stands = subst (λ (p : Pipes). LinkStands s link (with_pipes link rest (with_mark mark d)) (with_ends v v.client server p)) own
          (other_pipes s link (with_mark mark d) (with_ends v v.client server v.pipes) v.client server rest one e);
      marks = run_is;
      replies = subst RepliedInBytes (sym more) (replied_one run (marks.Fed v.number Responder piece) (λ before. tt) at.replies);
    })

pub up_is : (n : ℕ) (s : Setting) (link : ℕ) (d : Drill) → after_up s link n d ≡ settled s link (after_feeding_up link n d)
unfolding after_up
up_is n s link d = refl
