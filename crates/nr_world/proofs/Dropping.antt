-- A link that is dropped, and bytes that are put into its pipes.
use Rattle.std.specs.Prelude.{◌-◌}
use Rattle.std.proofs.Common.{◌≡◌, ℕ, ◌≤◌, Bool, true, false, List, [], ◌∷◌, ◌++◌, length, refl, ap, sym, subst, ◌∙◌}
use Rattle.std.proofs.lemmas.List.{length-set}
use Rattle.nr_wire.specs.declared.hello.Side.{Side}
use Rattle.nr_reduce.specs.declared.mark.Mark.{Mark}
use Rattle.nr_reduce.specs.History.{is_dropped}
use Rattle.nr_drill.specs.Drill.{Pipes, pipes_of, with_pipes, with_mark, appended, empty_pipes, after_drop, after_raw}
use Rattle.nr_drill.specs.InBytes.{RepliedInBytes}
use Rattle.nr_drill.proofs.Carried.{own_pipes, dropped_at_last}
use Rattle.nr_world.specs.DrillLinkState.{DrillLinkState}
use Rattle.nr_world.specs.LinkStands.{LinkStands}
use Rattle.nr_world.specs.Steps.{Goes, StandsAt}
use Rattle.nr_world.proofs.Standing.{with_ends, ends_of, other_pipes, replied_one, below_room}
use Rattle.nr_world.proofs.Writes.{server_stays, one_more_mark}
use Rattle.nr_world.proofs.WaitingCalls.{leaves_calls}
use Rattle.nr_world.proofs.Requesters.{others_leave}
use Rattle.nr_world.proofs.CallLines.{tracks_on}
use Rattle.nr_reduce.specs.declared.mark.Mark.TheVariants as marks

-- the link once it is dropped
abbrev pub dropped_link : DrillLinkState → DrillLinkState
dropped_link v = record v { pipes = empty_pipes; is_dropped = true }

pub drops : (v : DrillLinkState) (run run2 : List Mark) → run2 ≡ run ++ marks.Drop v.number ∷ [] → Goes (λ s link. after_drop link) v (dropped_link v) run run2
drops v run run2 more s link d at =
    let h = at.stands in
    let mark : Mark = marks.Drop link in
    record {
      stands = record {
        number = h.number;
        first = h.first;
        room = subst (λ (n : ℕ). link ≤ n) (sym (length-set d.pipes (link - 1) empty_pipes)) h.room;
        pipes = sym (own_pipes link empty_pipes (with_mark mark d) (below_room link (length d.pipes) h.first h.room));
        dropped = sym (dropped_at_last link d.marks);
        client = others_leave (s.opened link) link v.client d.marks mark h.client refl refl refl (λ xid. refl);
        server = server_stays (s.opened link) link d.marks v.server mark refl h.server_memory h.server;
        client_memory = h.client_memory;
        server_memory = h.server_memory;
        tracks = tracks_on s link d.marks mark v.lines v.awaited v.calls v.waiting refl (λ xid. refl) (leaves_calls (s.opened link) link d.marks mark refl) (λ xid. refl) h.tracks;
      };
      marks = one_more_mark v.number link (λ (l : ℕ). marks.Drop l) run run2 d.marks h.number at.marks more;
      replies = subst RepliedInBytes (sym more) (replied_one run (marks.Drop v.number) (λ before. tt) at.replies);
    }

-- ---- Bytes that are put after those that wait

pub raw_gone : (v : DrillLinkState) (side : Side) (bytes : List ℕ) (run : List Mark) → v.is_dropped ≡ true → Goes (λ s link d. after_raw link side bytes (is_dropped link d.marks) d) v v run run
raw_gone v side bytes run gone s link d at =
    subst (λ (b : Bool). StandsAt s link (after_raw link side bytes b d) v run) (sym gone ∙ at.stands.dropped) at

pub raw_put : (v : DrillLinkState) (side : Side) (bytes : List ℕ) (pipes : Pipes) (run : List Mark) → v.is_dropped ≡ false → pipes ≡ appended side bytes v.pipes →
    Goes (λ s link d. after_raw link side bytes (is_dropped link d.marks) d) v (with_ends v v.client v.server pipes) run run
raw_put v side bytes pipes run stands is s link d at =
    let h = at.stands in
    let own : appended side bytes (pipes_of link d) ≡ pipes = sym (is ∙ ap (λ (p : Pipes). appended side bytes p) h.pipes) in
    subst (λ (b : Bool). StandsAt s link (after_raw link side bytes b d) (with_ends v v.client v.server pipes) run) (sym stands ∙ h.dropped) (record {
      stands = subst (λ (p : Pipes). LinkStands s link (with_pipes link (appended side bytes (pipes_of link d)) d) (with_ends v v.client v.server p)) own
          (other_pipes s link d v v.client v.server (appended side bytes (pipes_of link d)) h (ends_of s link d v h));
      marks = at.marks;
      replies = at.replies;
    })
