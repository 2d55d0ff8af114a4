-- What a link stands for after one mark more.
use Rattle.std.specs.Prelude.{◌-◌, Result, Ok, Err, OnOk}
use Rattle.std.proofs.Common.{◌≡◌, ◌≢◌, ℕ, ◌≤◌, ◌<◌, arith, false, List, [], ◌∷◌, ◌++◌, length, Some, sym, subst, ◌∙◌}
use Rattle.std.proofs.lemmas.List.{length-set}
use Rattle.nr_reduce.specs.declared.mark.Mark.{Mark}
use Rattle.nr_reduce.specs.History.{is_drop_of, accepted_at}
use Rattle.nr_reduce.proofs.Standing.{AtEachMark_more}
use Rattle.nr_requester.specs.RequesterState.{RequesterSide}
use Rattle.nr_requester.specs.Laws.{GivesUpNothing}
use Rattle.nr_responder.specs.ResponderState.{ResponderSide, end_of}
use Rattle.nr_responder.specs.Standing.{RepresentsServer}
use Rattle.nr_drill.specs.Drill.{client_of, Setting, Drill, Pipes, with_pipes, with_mark, answer_at}
use Rattle.nr_drill.specs.InBytes.{RepliedInBytes, RepliedMark}
use Rattle.nr_drill.proofs.Carried.{own_pipes, same_dropped}
use Rattle.nr_world.specs.DrillLinkState.{DrillLinkState}
use Rattle.nr_world.specs.LinkStands.{LinkStands, StandsForClient, TracksCalls}
use Rattle.nr_world.specs.Steps.{Goes, StandsAt}
use Rattle.nr_world.proofs.WaitingCalls.{leaves_calls}
use Rattle.nr_world.proofs.CallLines.{SettlesNothing, tracks_on}
use Rattle.nr_link.specs.declared.end.End.TheVariants as ends

-- the link with other ends and pipes
abbrev pub with_ends : DrillLinkState → RequesterSide → ResponderSide → Pipes → DrillLinkState
with_ends v client server pipes = record v { client = client; server = server; pipes = pipes }

-- a mark that is no Submit and no Drop, and settles no call
pub record IsPlain (link : ℕ) (mark : Mark) : Type 0 where
  pub drops : is_drop_of link mark ≡ false
  pub answer : (s : Setting) → answer_at s (client_of s link) mark ≡ []
  pub settle : (s : Setting) → SettlesNothing s link mark
  pub accepts : accepted_at link mark ≡ []
  pub kept : GivesUpNothing link mark
  pub replied : (before : List Mark) → RepliedMark before mark

-- both ends after a mark
pub record EndsStand (s : Setting) (link : ℕ) (run : List Mark) (asks : RequesterSide) (serves : ResponderSide) : Type 0 where
  pub client : StandsForClient (s.opened link) link asks run
  pub server : RepresentsServer (s.opened link) link run serves
  pub client_memory : asks.state.side.ended ≢ Some ends.Memory
  pub server_memory : end_of serves ≢ Some ends.Memory

pub ends_of : (s : Setting) (link : ℕ) (d : Drill) (v : DrillLinkState) → LinkStands s link d v → EndsStand s link d.marks v.client v.server
ends_of s link d v h = record { client = h.client; server = h.server; client_memory = h.client_memory; server_memory = h.server_memory }

pub below_room : (link : ℕ) (n : ℕ) → 1 ≤ link → link ≤ n → link - 1 < n
below_room link n first room = omega (arith, first, room)

-- other pipes, and no mark
pub other_pipes : (s : Setting) (link : ℕ) (d : Drill) (v : DrillLinkState) (client : RequesterSide) (server : ResponderSide) (pipes : Pipes) → LinkStands s link d v → EndsStand s link d.marks client server →
    LinkStands s link (with_pipes link pipes d) (with_ends v client server pipes)
other_pipes s link d v client server pipes h e = record {
  number = h.number;
  first = h.first;
  room = subst (λ (n : ℕ). link ≤ n) (sym (length-set d.pipes (link - 1) pipes)) h.room;
  pipes = sym (own_pipes link pipes d (below_room link (length d.pipes) h.first h.room));
  dropped = h.dropped;
  client = e.client;
  server = e.server;
  client_memory = e.client_memory;
  server_memory = e.server_memory;
  tracks = h.tracks;
}

-- what is known of the calls after a plain mark
pub plain_tracks : (s : Setting) (link : ℕ) (run : List Mark) (v : DrillLinkState) (mark : Mark) → IsPlain link mark → TracksCalls s link run v.lines v.awaited v.calls v.waiting → TracksCalls s link (run ++ mark ∷ []) v.lines v.awaited v.calls v.waiting
plain_tracks s link run v mark p t = tracks_on s link run mark v.lines v.awaited v.calls v.waiting (p.answer s) (p.settle s) (leaves_calls (s.opened link) link run mark p.accepts) p.kept t

-- a mark, and the same pipes
pub plain_mark : (s : Setting) (link : ℕ) (d : Drill) (v : DrillLinkState) (client : RequesterSide) (server : ResponderSide) (mark : Mark) → IsPlain link mark → LinkStands s link d v →
    EndsStand s link (d.marks ++ mark ∷ []) client server → LinkStands s link (with_mark mark d) (with_ends v client server v.pipes)
plain_mark s link d v client server mark p h e = record {
  number = h.number;
  first = h.first;
  room = h.room;
  pipes = h.pipes;
  dropped = h.dropped ∙ sym (same_dropped link d.marks mark p.drops);
  client = e.client;
  server = e.server;
  client_memory = e.client_memory;
  server_memory = e.server_memory;
  tracks = plain_tracks s link d.marks v mark p h.tracks;
}

pub replied_one : (run : List Mark) (mark : Mark) → ((before : List Mark) → RepliedMark before mark) → RepliedInBytes run → RepliedInBytes (run ++ mark ∷ [])
replied_one run mark replied h = AtEachMark_more RepliedMark [] run mark h (replied run)

-- one step after another
pub steps_compose : (f g h : Setting → ℕ → Drill → Drill) (v v1 v2 : DrillLinkState) (run run1 run2 : List Mark) → ((s : Setting) (link : ℕ) (d : Drill) → h s link d ≡ g s link (f s link d)) →
    Goes f v v1 run run1 → Goes g v1 v2 run1 run2 → Goes h v v2 run run2
steps_compose f g h v v1 v2 run run1 run2 is first second s link d at =
    subst (λ (x : Drill). StandsAt s link x v2 run2) (sym (is s link d)) (second s link (f s link d) (first s link d at))

-- what holds of an Ok
pub on_ok : {T E : Type 0} (r : Result T E) (P Q : Type 0) → (P → Q) → OnOk r P → OnOk r Q
on_ok (Ok x) P Q f h = f h
on_ok (Err e) P Q f h = h

-- the link before a step, as the code has it
pub from_view : (f : Setting → ℕ → Drill → Drill) (before h after : DrillLinkState) (run run2 : List Mark) → before ≡ h → Goes f before after run run2 → Goes f h after run run2
from_view f before h after run run2 is goes = subst (λ (x : DrillLinkState). Goes f x after run run2) is goes
