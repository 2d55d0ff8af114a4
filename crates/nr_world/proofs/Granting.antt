-- A server that is told to grant other credits, and its receives, which stay.
use Rattle.std.proofs.Common.{◌≡◌, ◌≢◌, ℕ, List, [], ◌∷◌, ◌++◌, Some, inl, refl, sym, subst, ◌∙◌}
use Rattle.nr_reduce.specs.declared.mark.LinkParameters.{LinkParameters}
use Rattle.nr_reduce.specs.declared.mark.Mark.{Mark}
use Rattle.nr_reduce.specs.declared.mark.Told.TheVariants.{Granted}
use Rattle.nr_reduce.specs.Events.RunEvent.{ServerTold}
use Rattle.nr_responder.specs.ResponderState.{ResponderSide, end_of}
use Rattle.nr_responder.specs.Standing.{ResponderRepresents}
use Rattle.nr_responder.proofs.KeptReceives.{server_receives}
use Rattle.nr_drill.specs.Drill.{Setting, Drill, after_grant}
use Rattle.nr_drill.specs.InBytes.{RepliedInBytes}
use Rattle.nr_world.specs.DrillLinkState.{DrillLinkState}
use Rattle.nr_world.specs.LinkStands.{LinkStands}
use Rattle.nr_world.specs.Steps.{Goes}
use Rattle.nr_world.proofs.Ends.{represents_of}
use Rattle.nr_world.proofs.Standing.{with_ends, IsPlain, EndsStand, plain_mark, replied_one, from_view}
use Rattle.nr_world.proofs.Writes.{not_own, one_more_mark}
use Rattle.nr_world.proofs.Requesters.{others_leave}
use Rattle.nr_link.specs.declared.end.End.TheVariants as ends
use Rattle.nr_reduce.specs.declared.mark.Mark.TheVariants as marks

-- a server that stood for marks stands for these and that of what it was told
abbrev pub TakesGrant : ℕ → (before after : ResponderSide) → Type 0
TakesGrant credits before after = (opened : LinkParameters) (link : ℕ) (run : List Mark) → ResponderRepresents opened link run before → ResponderRepresents opened link (run ++ marks.Told link (Granted credits) ∷ []) after

plain_told : (link credits : ℕ) → IsPlain link (marks.Told link (Granted credits))
plain_told link credits = record { drops = refl; answer = λ s. refl; settle = λ s xid. refl; accepts = refl; kept = λ xid. refl; replied = λ before. tt }

grants : (v : DrillLinkState) (server : ResponderSide) (credits : ℕ) (run run2 : List Mark) → TakesGrant credits v.server server → end_of server ≡ end_of v.server → run2 ≡ run ++ marks.Told v.number (Granted credits) ∷ [] →
    Goes (λ s link. after_grant link credits) v (with_ends v v.client server v.pipes) run run2
grants v server credits run run2 takes same more s link d at =
    let h = at.stands in
    let o = s.opened link in
    let mark : Mark = marks.Told link (Granted credits) in
    let memory : end_of server ≢ Some ends.Memory = (λ e. h.server_memory (sym same ∙ e)) in
    let both : EndsStand s link (d.marks ++ mark ∷ []) v.client server = record {
      client = others_leave o link v.client d.marks mark h.client (not_own link (ServerTold (Granted credits) ∷ [])) refl refl (λ xid. refl);
      server = represents_of o link (d.marks ++ mark ∷ []) server memory (takes o link d.marks (inl h.server));
      client_memory = h.client_memory;
      server_memory = memory;
    } in
    record {
      stands = plain_mark s link d v v.client server mark (plain_told link credits) h both;
      marks = one_more_mark v.number link (λ (l : ℕ). marks.Told l (Granted credits)) run run2 d.marks h.number at.marks more;
      replies = subst RepliedInBytes (sym more) (replied_one run (marks.Told v.number (Granted credits)) (λ before. tt) at.replies);
    }

-- as the code has it
pub grants_to : (v v0 : DrillLinkState) (server : ResponderSide) (credits : ℕ) (run run2 : List Mark) → v ≡ v0 → TakesGrant credits v.server server → end_of server ≡ end_of v.server →
    run2 ≡ run ++ marks.Told v.number (Granted credits) ∷ [] → Goes (λ s link. after_grant link credits) v0 (with_ends v v.client server v.pipes) run run2
grants_to v v0 server credits run run2 is takes same more =
    from_view (λ s link. after_grant link credits) v v0 (with_ends v v.client server v.pipes) run run2 is (grants v server credits run run2 takes same more)

-- ---- Its receives are those that it was opened with

pub receives_are : (s : Setting) (link : ℕ) (d : Drill) (v : DrillLinkState) → LinkStands s link d v → v.server.credits.receives ≡ (s.opened link).receives
receives_are s link d v h = server_receives (s.opened link) link d.marks v.server h.server
