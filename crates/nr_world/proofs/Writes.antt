-- Each end writes what it has to write.
use Rattle.std.specs.Prelude.{◌&&◌}
use Rattle.std.proofs.Common.{◌≡◌, ◌≢◌, ℕ, eqb, Bool, false, List, [], ◌∷◌, ◌++◌, length, Some, inl, refl, ap, sym, subst, ◌∙◌}
use Rattle.nr_wire.specs.declared.hello.Side.TheVariants.{Initiator, Responder}
use Rattle.nr_reduce.specs.declared.mark.LinkParameters.{LinkParameters}
use Rattle.nr_reduce.specs.declared.mark.Mark.{Mark}
use Rattle.nr_reduce.specs.Events.{RunEvent, if_own}
use Rattle.nr_reduce.specs.Events.RunEvent.{QueueWritten}
use Rattle.nr_reduce.proofs.Standing.{itself}
use Rattle.nr_requester.specs.RequesterState.{RequesterSide, queue_of}
use Rattle.nr_requester.specs.AfterCalls.{after_drain}
use Rattle.nr_responder.specs.ResponderState.{ResponderSide, queue, may_write, end_of, after_drain as after_server_drain}
use Rattle.nr_responder.specs.Standing.{RepresentsServer}
use Rattle.nr_reduce.proofs.Unconcerned.{of_other_side}
use Rattle.nr_reduce.specs.Concerns.{concerns}
use Rattle.nr_responder.proofs.OwnLaw.{others_leave_it as others_leave_server, all_may_be_written}
use Rattle.nr_drill.specs.Drill.{Setting, Drill, Pipes, pipes_of, with_pipes, with_mark, appended, unwritten, after_output, after_all_output, settled}
use Rattle.nr_drill.specs.InBytes.{RepliedInBytes}
use Rattle.nr_drill.proofs.Lawful.{left_is, down_written}
use Rattle.nr_world.specs.DrillLinkState.{DrillLinkState}
use Rattle.nr_world.specs.LinkStands.{LinkStands, StandsForClient}
use Rattle.nr_world.specs.Steps.{Goes, StandsAt, ClientWrites, ServerWrites}
use Rattle.nr_world.proofs.Ends.{requester_quiet, responder_quiet, represents_of}
use Rattle.nr_world.proofs.Standing.{with_ends, IsPlain, EndsStand, other_pipes, plain_mark, replied_one}
use Rattle.nr_world.proofs.Requesters.{others_leave, asks_on}
use Rattle.nr_link.specs.declared.end.End.TheVariants as ends
use Rattle.nr_reduce.specs.declared.mark.Mark.TheVariants as marks

-- ---- Marks of the other side

pub not_own : (link : ℕ) (es : List RunEvent) → if_own (eqb link link && false) es ≡ []
not_own link es = ap (λ (b : Bool). if_own (b && false) es) (itself link)

-- a mark of a link's client leaves its server
pub server_stays : (o : LinkParameters) (link : ℕ) (run : List Mark) (v : ResponderSide) (mark : Mark) → concerns link Responder mark ≡ false → end_of v ≢ Some ends.Memory → RepresentsServer o link run v → RepresentsServer o link (run ++ mark ∷ []) v
server_stays o link run v mark other some h = represents_of o link (run ++ mark ∷ []) v some (others_leave_server o link v run mark other (inl h))

-- the link with other ends, and the same marks
pub other_ends : (s : Setting) (link : ℕ) (d : Drill) (v : DrillLinkState) (client : RequesterSide) (server : ResponderSide) → LinkStands s link d v → EndsStand s link d.marks client server →
    LinkStands s link d (with_ends v client server v.pipes)
other_ends s link d v client server h e = record {
  number = h.number;
  first = h.first;
  room = h.room;
  pipes = h.pipes;
  dropped = h.dropped;
  client = e.client;
  server = e.server;
  client_memory = e.client_memory;
  server_memory = e.server_memory;
  tracks = h.tracks;
}

-- ---- The client

same_end : (n : ℕ) (h : RequesterSide) → (after_drain n h).state.side.ended ≡ h.state.side.ended
unfolding after_drain
same_end n h = refl

end_after : (h h2 : RequesterSide) (bytes : List ℕ) → ClientWrites h h2 bytes → h.state.side.ended ≢ Some ends.Memory → h2.state.side.ended ≢ Some ends.Memory
end_after h h2 bytes w some e = some (sym (ap (λ (x : RequesterSide). x.state.side.ended) w.state ∙ same_end w.n h) ∙ e)

client_left : (s : Setting) (link : ℕ) (d : Drill) (v : DrillLinkState) → LinkStands s link d v → unwritten (s.opened link) link Initiator d.marks ≡ queue_of v.client.state
client_left s link d v h = left_is (s.opened link) link Initiator d.marks (queue_of v.client.state) h.client.1.keeps.kept.output

client_same : (o : LinkParameters) (link : ℕ) (run : List Mark) (h h2 : RequesterSide) (bytes : List ℕ) → ClientWrites h h2 bytes → bytes ≡ [] → StandsForClient o link h run → StandsForClient o link h2 run
client_same o link run h h2 bytes w none r =
    let wrote : StandsForClient o link (after_drain w.n h) (run ++ marks.Wrote link Initiator [] ∷ []) =
    subst (λ (x : RequesterSide). StandsForClient o link x (run ++ marks.Wrote link Initiator [] ∷ [])) w.state
    (subst (λ (xs : List ℕ). StandsForClient o link h2 (run ++ marks.Wrote link Initiator xs ∷ [])) none (asks_on h h2 (λ (l : ℕ). marks.Wrote l Initiator bytes) w.stands o link run r)) in
    subst (λ (x : RequesterSide). StandsForClient o link x run) (sym w.state) (requester_quiet o link run h w.n (sym w.all ∙ none) r wrote)

pub up_none : (v : DrillLinkState) (client : RequesterSide) (bytes : List ℕ) (run : List Mark) → ClientWrites v.client client bytes → bytes ≡ [] →
    Goes (λ s link. after_all_output s link Initiator) v (with_ends v client v.server v.pipes) run run
up_none v client bytes run w none s link d at =
    let h = at.stands in
    let left : unwritten (s.opened link) link Initiator d.marks ≡ [] = client_left s link d v h ∙ sym w.all ∙ none in
    subst (λ (xs : List ℕ). StandsAt s link (after_output link Initiator xs d) (with_ends v client v.server v.pipes) run) (sym left) (record {
      stands = other_ends s link d v client v.server h (record {
        client = client_same (s.opened link) link d.marks v.client client bytes w none h.client;
        server = h.server;
        client_memory = end_after v.client client bytes w h.client_memory;
        server_memory = h.server_memory;
      });
      marks = at.marks;
      replies = at.replies;
    })

plain_wrote_up : (link : ℕ) (bytes : List ℕ) → IsPlain link (marks.Wrote link Initiator bytes)
plain_wrote_up link bytes = record { drops = refl; answer = λ s. refl; settle = λ s xid. refl; accepts = refl; kept = λ xid. refl; replied = λ before. tt }

-- the marks after one more of the link
pub one_more_mark : (number link : ℕ) (of : ℕ → Mark) (run run2 all : List Mark) → number ≡ link → run ≡ all → run2 ≡ run ++ of number ∷ [] → run2 ≡ all ++ of link ∷ []
one_more_mark number link of run run2 all same is more = more ∙ (λ i. is i ++ of (same i) ∷ [])

pub up_some : (v : DrillLinkState) (client : RequesterSide) (bytes : List ℕ) (pipes : Pipes) (run run2 : List Mark) → ClientWrites v.client client bytes → bytes ≢ [] → pipes ≡ appended Initiator bytes v.pipes →
    run2 ≡ run ++ marks.Wrote v.number Initiator bytes ∷ [] → Goes (λ s link. after_all_output s link Initiator) v (with_ends v client v.server pipes) run run2
up_some v client [] pipes run run2 w some is more s link d at = absurd (some refl)
up_some v client (b ∷ bytes) pipes run run2 w some is more s link d at =
    let h = at.stands in
    let o = s.opened link in
    let all : List ℕ = b ∷ bytes in
    let mark : Mark = marks.Wrote link Initiator all in
    let left : unwritten o link Initiator d.marks ≡ all = client_left s link d v h ∙ sym w.all in
    let e : EndsStand s link (d.marks ++ mark ∷ []) client v.server = record {
      client = asks_on v.client client (λ (l : ℕ). marks.Wrote l Initiator all) w.stands o link d.marks h.client;
      server = server_stays o link d.marks v.server mark (of_other_side (eqb link link)) h.server_memory h.server;
      client_memory = end_after v.client client all w h.client_memory;
      server_memory = h.server_memory;
    } in
    let one : LinkStands s link (with_mark mark d) (with_ends v client v.server v.pipes) = plain_mark s link d v client v.server mark (plain_wrote_up link all) h e in
    let own : appended Initiator all (pipes_of link d) ≡ pipes = sym (is ∙ ap (λ (p : Pipes). appended Initiator all p) h.pipes) in
    let run_is : run2 ≡ d.marks ++ mark ∷ [] = one_more_mark v.number link (λ (l : ℕ). marks.Wrote l Initiator all) run run2 d.marks h.number at.marks more in
    subst (λ (xs : List ℕ). StandsAt s link (after_output link Initiator xs d) (with_ends v client v.server pipes) run2) (sym left) (record {
      stands = subst (λ (p : Pipes). LinkStands s link (with_pipes link (appended Initiator all (pipes_of link d)) (with_mark mark d)) (with_ends v client v.server p)) own
          (other_pipes s link (with_mark mark d) (with_ends v client v.server v.pipes) client v.server (appended Initiator all (pipes_of link d)) one e);
      marks = run_is;
      replies = subst RepliedInBytes (sym more) (replied_one run (marks.Wrote v.number Initiator all) (λ before. tt) at.replies);
    })

-- ---- The server

server_end_after : (v v2 : ResponderSide) (bytes : List ℕ) → ServerWrites v v2 bytes → end_of v ≢ Some ends.Memory → end_of v2 ≢ Some ends.Memory
server_end_after v v2 bytes w some e = some (sym (ap (λ (x : ResponderSide). end_of x) w.state) ∙ e)

server_left : (s : Setting) (link : ℕ) (d : Drill) (v : DrillLinkState) → LinkStands s link d v → unwritten (s.opened link) link Responder d.marks ≡ may_write v.server
server_left s link d v h =
    left_is (s.opened link) link Responder d.marks (queue v.server) h.server.stands.output ∙ sym (all_may_be_written (s.opened link) link v.server d.marks h.server)

server_same : (o : LinkParameters) (link : ℕ) (run : List Mark) (v v2 : ResponderSide) (bytes : List ℕ) → ServerWrites v v2 bytes → bytes ≡ [] → end_of v ≢ Some ends.Memory → RepresentsServer o link run v → RepresentsServer o link run v2
server_same o link run v v2 bytes w none some r =
    let wrote : RepresentsServer o link (run ++ marks.Wrote link Responder [] ∷ []) (after_server_drain v w.n) =
    subst (λ (x : ResponderSide). RepresentsServer o link (run ++ marks.Wrote link Responder [] ∷ []) x) w.state
    (subst (λ (xs : List ℕ). RepresentsServer o link (run ++ marks.Wrote link Responder xs ∷ []) v2) none
    (represents_of o link (run ++ marks.Wrote link Responder bytes ∷ []) v2 (server_end_after v v2 bytes w some) (w.stands o link run (inl r)))) in
    subst (λ (x : ResponderSide). RepresentsServer o link run x) (sym w.state)
    (responder_quiet o link run v w.n w.within (sym (all_may_be_written o link v run r) ∙ sym w.all ∙ none) r wrote)

pub down_none : (v : DrillLinkState) (server : ResponderSide) (bytes : List ℕ) (run : List Mark) → ServerWrites v.server server bytes → bytes ≡ [] →
    Goes (λ s link. after_all_output s link Responder) v (with_ends v v.client server v.pipes) run run
down_none v server bytes run w none s link d at =
    let h = at.stands in
    let left : unwritten (s.opened link) link Responder d.marks ≡ [] = server_left s link d v h ∙ sym w.all ∙ none in
    subst (λ (xs : List ℕ). StandsAt s link (after_output link Responder xs d) (with_ends v v.client server v.pipes) run) (sym left) (record {
      stands = other_ends s link d v v.client server h (record {
        client = h.client;
        server = server_same (s.opened link) link d.marks v.server server bytes w none h.server_memory h.server;
        client_memory = h.client_memory;
        server_memory = server_end_after v.server server bytes w h.server_memory;
      });
      marks = at.marks;
      replies = at.replies;
    })

plain_wrote_down : (link : ℕ) (bytes : List ℕ) → IsPlain link (marks.Wrote link Responder bytes)
plain_wrote_down link bytes = record { drops = refl; answer = λ s. refl; settle = λ s xid. refl; accepts = refl; kept = λ xid. refl; replied = λ before. tt }

pub down_some : (v : DrillLinkState) (server : ResponderSide) (bytes : List ℕ) (pipes : Pipes) (run run2 : List Mark) → ServerWrites v.server server bytes → bytes ≢ [] → pipes ≡ appended Responder bytes v.pipes →
    run2 ≡ run ++ marks.Wrote v.number Responder bytes ∷ [] → Goes (λ s link. after_all_output s link Responder) v (with_ends v v.client server pipes) run run2
down_some v server [] pipes run run2 w some is more s link d at = absurd (some refl)
down_some v server (b ∷ bytes) pipes run run2 w some is more s link d at =
    let h = at.stands in
    let o = s.opened link in
    let all : List ℕ = b ∷ bytes in
    let mark : Mark = marks.Wrote link Responder all in
    let left : unwritten o link Responder d.marks ≡ all = server_left s link d v h ∙ sym w.all in
    let e : EndsStand s link (d.marks ++ mark ∷ []) v.client server = record {
      client = others_leave o link v.client d.marks mark h.client (not_own link (QueueWritten (length all) ∷ [])) (down_written link all) refl (λ xid. refl);
      server = represents_of o link (d.marks ++ mark ∷ []) server (server_end_after v.server server all w h.server_memory) (w.stands o link d.marks (inl h.server));
      client_memory = h.client_memory;
      server_memory = server_end_after v.server server all w h.server_memory;
    } in
    let one : LinkStands s link (with_mark mark d) (with_ends v v.client server v.pipes) = plain_mark s link d v v.client server mark (plain_wrote_down link all) h e in
    let own : appended Responder all (pipes_of link d) ≡ pipes = sym (is ∙ ap (λ (p : Pipes). appended Responder all p) h.pipes) in
    let run_is : run2 ≡ d.marks ++ mark ∷ [] = one_more_mark v.number link (λ (l : ℕ). marks.Wrote l Responder all) run run2 d.marks h.number at.marks more in
    subst (λ (xs : List ℕ). StandsAt s link (after_output link Responder xs d) (with_ends v v.client server pipes) run2) (sym left) (record {
      stands = subst (λ (p : Pipes). LinkStands s link (with_pipes link (appended Responder all (pipes_of link d)) (with_mark mark d)) (with_ends v v.client server p)) own
          (other_pipes s link (with_mark mark d) (with_ends v v.client server v.pipes) v.client server (appended Responder all (pipes_of link d)) one e);
      marks = run_is;
      replies = subst RepliedInBytes (sym more) (replied_one run (marks.Wrote v.number Responder all) (λ before. tt) at.replies);
    })

-- ---- Both

pub settled_is : (s : Setting) (link : ℕ) (d : Drill) → settled s link d ≡ after_all_output s link Responder (after_all_output s link Initiator d)
unfolding settled
settled_is s link d = refl
