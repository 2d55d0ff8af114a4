-- A link opens.
use Rattle.std.proofs.Common.{◌≡◌, ◌≢◌, ℕ, List, [], ◌++◌, length, Option, None, Some, refl, ap, sym, subst, ◌∙◌, arith, map}
use Rattle.nr_link.specs.declared.end.End.{End}
use Rattle.nr_reduce.specs.declared.mark.LinkParameters.{LinkParameters}
use Rattle.nr_reduce.specs.declared.mark.Mark.{Mark}
use Rattle.nr_responder.specs.ResponderState.{end_of}
use Rattle.nr_texts.specs.declared.opening.Opening.{Opening}
use Rattle.nr_drill.specs.Drill.{client_of, Setting, Drill, Pipes, pipes_of, settled, after_up, after_down, after_all_up, after_all_down, after_opening}
use Rattle.nr_world.specs.DrillLinkState.{DrillLinkState, AwaitedLine}
use Rattle.nr_world.specs.LinkStands.{awaited_lines, LinkStands, TracksCalls, as_waiting, due_calls, waiting_calls}
use Rattle.nr_drill.specs.Follows.{parameters_of}
use Rattle.nr_world.specs.Steps.{Goes, StandsAt, Opens, IsBeforeOpening, IsFresh, HasNoMarkOf}
use Rattle.nr_world.proofs.Ends.{represents_of}
use Rattle.nr_world.proofs.Apart.{all_elsewhere, stands_by}
use Rattle.nr_reduce.specs.History.{accepted_calls, AcceptedCall}
use Rattle.std.specs.List.{filter}
use Rattle.nr_reduce.proofs.Unresumed.{none_waits}
use Rattle.nr_requester.specs.KeptAnswers.{is_due}
use Rattle.nr_reduce.specs.Opening.{IsFirstLink}
use Rattle.nr_reduce.specs.ClientState.{WaitingCall}
use Rattle.nr_world.proofs.Requesters.{first_stands}
use Rattle.nr_link.specs.declared.end.End.TheVariants as ends

none_awaited : (s : Setting) (link : ℕ) → [] ≡ awaited_lines s link []
unfolding awaited_lines
none_awaited s link = refl

none_due : (o : LinkParameters) (link : ℕ) → waiting_calls o link [] ≡ [] → [] ≡ due_calls o link []
unfolding due_calls accepted_calls
none_due o link none = sym (ap (λ (cs : List AcceptedCall). filter (λ (a : AcceptedCall). is_due link [] a.xid) cs) none)

abbrev no_marks : Drill → Drill
no_marks d = record d { marks = [] }

not_memory : (o : Option End) → o ≡ None → o ≢ Some ends.Memory
not_memory o none e = absurd (let no = sym none ∙ e in cc)

-- nothing is known of calls at first
first_tracks : (s : Setting) (link : ℕ) → (s.opened link).resumed ≡ [] → TracksCalls s link [] 0 [] [] []
first_tracks s link none =
    let waits : waiting_calls (s.opened link) link [] ≡ [] = ap (λ (ws : List WaitingCall). map as_waiting ws) (none_waits (s.opened link) link [] none) in
    record {
      lines_are = refl;
      awaited_are = none_awaited s link;
      calls_are = none_due (s.opened link) link waits;
      waiting_are = sym waits;
      same_ids = refl;
      none_before = λ xid above. refl;
    }

pub fresh_stands : (s : Setting) (link : ℕ) (opening : Opening) (d : Drill) (v : DrillLinkState) → IsFresh link opening v → s.opened link ≡ parameters_of opening link → IsBeforeOpening link d → HasNoMarkOf s (client_of s link) d.marks → LinkStands s link d v
fresh_stands s link opening d v f opened before others =
    let o : LinkParameters = s.opened link in
    let is_first : IsFirstLink o = record { resumed = ap (λ (p : LinkParameters). p.resumed) opened; agreed = ap (λ (p : LinkParameters). p.agreed) opened } in
    let first : LinkStands s link (no_marks d) v = record {
      number = f.number;
      first = before.first;
      room = before.room;
      pipes = f.pipes ∙ sym before.pipes;
      dropped = f.stands;
      client = first_stands o link v.client []
          (f.client o link (ap (λ (p : LinkParameters). p.first_xid) opened) (ap (λ (p : LinkParameters). p.first_stag) opened)
          (ap (λ (p : LinkParameters). p.wished) opened, (ap (λ (p : LinkParameters). p.client) opened, is_first)));
      server = represents_of o link [] v.server (not_memory (end_of v.server) f.server_live) (f.server o link (ap (λ (p : LinkParameters). p.granted) opened, ap (λ (p : LinkParameters). p.receives) opened, ap (λ (p : LinkParameters). p.server) opened, ap (λ (p : LinkParameters). p.low) opened));
      client_memory = not_memory v.client.state.side.ended f.client_live;
      server_memory = not_memory (end_of v.server) f.server_live;
      tracks = subst (λ (w : ℕ × (List AwaitedLine × (List AcceptedCall × List AcceptedCall))). TracksCalls s link [] w.0 w.1.0 w.1.1.0 w.1.1.1) (λ i. (sym f.lines i, (sym f.awaited i, (sym f.calls i, sym f.waiting i)))) (first_tracks s link is_first.resumed);
    } in
    stands_by s link (record d { marks = [] ++ d.marks }) d v refl refl (omega arith)
    (all_elsewhere s link (no_marks d) v d.marks others first)

-- ---- All that waits

pub all_up_goes : (v v2 : DrillLinkState) (run run2 : List Mark) (n : ℕ) → n ≡ length v.pipes.up → Goes (λ s link. after_up s link n) v v2 run run2 → Goes after_all_up v v2 run run2
all_up_goes v v2 run run2 n all goes s link d at =
    let count : n ≡ length (pipes_of link d).up = all ∙ ap (λ (p : Pipes). length p.up) at.stands.pipes in
    subst (λ (k : ℕ). StandsAt s link (after_up s link k d) v2 run2) count (goes s link d at)

pub all_down_goes : (v v2 : DrillLinkState) (run run2 : List Mark) (n : ℕ) → n ≡ length v.pipes.down → Goes (λ s link. after_down s link n) v v2 run run2 → Goes after_all_down v v2 run run2
all_down_goes v v2 run run2 n all goes s link d at =
    let count : n ≡ length (pipes_of link d).down = all ∙ ap (λ (p : Pipes). length p.down) at.stands.pipes in
    subst (λ (k : ℕ). StandsAt s link (after_down s link k d) v2 run2) count (goes s link d at)

-- ---- The hellos go to both ends

pub opening_is : (s : Setting) (link : ℕ) (d : Drill) → after_opening s link d ≡ after_all_down s link (after_all_up s link (settled s link d))
unfolding after_opening
opening_is s link d = refl

pub opens : (link : ℕ) (opening : Opening) (v v2 : DrillLinkState) (run run2 : List Mark) → IsFresh link opening v → Goes after_opening v v2 run run2 → Opens link opening v2 run run2
opens link opening v v2 run run2 f goes s d opened before others marks_are replies =
    goes s link d (record {
      stands = fresh_stands s link opening d v f opened before others;
      marks = marks_are;
      replies = replies;
    })
