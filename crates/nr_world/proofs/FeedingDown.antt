-- Bytes that are fed to a client, which sends calls again then, as the grant allows.
use Rattle.std.specs.Prelude.{◌-◌, is_none, ◌&&◌}
use Rattle.std.specs.List.{AllByRecursion}
use Rattle.std.proofs.Common.{◌≡◌, ◌≢◌, ℕ, zero, suc, ◌+◌, ◌<◌, ◌≤◌, arith, cond, eqb, List, [], ◌∷◌, ◌++◌, length, map, take, drop, Option, None, Some, refl, ap, sym, subst, ◌∙◌, append_assoc, append-nil}
use Rattle.std.proofs.lemmas.List.{length-map, length-set}
use Rattle.nr_wire.specs.declared.hello.Side.TheVariants.{Initiator}
use Rattle.nr_link.specs.declared.end.End.{End}
use Rattle.nr_reduce.specs.declared.mark.LinkParameters.{LinkParameters}
use Rattle.nr_reduce.specs.declared.mark.Mark.{Mark}
use Rattle.nr_reduce.specs.ClientState.{WaitingCall}
use Rattle.nr_reduce.specs.History.{AcceptedCall, is_dropped}
use Rattle.nr_reduce.specs.KeptClient.{CanResume}
use Rattle.nr_reduce.specs.Resending.{resends_after}
use Rattle.nr_reduce.specs.Run.{client}
use Rattle.nr_reduce.specs.SubmitAnswer.{calls_to_resend}
use Rattle.nr_reduce.proofs.Resending.{resent_next}
use Rattle.nr_reduce.proofs.Unconcerned.{fed_elsewhere, submit_elsewhere}
use Rattle.nr_requester.specs.RequesterState.{RequesterSide}
use Rattle.nr_requester.specs.ReopenedLinks.{RequesterKeeps}
use Rattle.nr_requester.specs.Resends.{KeepsPiece}
use Rattle.nr_requester.specs.Standing.{waiting_message}
use Rattle.nr_responder.specs.ResponderState.{ResponderSide, end_of}
use Rattle.nr_responder.specs.Standing.{RepresentsServer}
use Rattle.nr_drill.specs.Drill.{Setting, Drill, Pipes, pipes_of, resend_mark, after_feeding, after_feeding_down, after_resends, after_outcomes, after_down, settled}
use Rattle.nr_drill.specs.InBytes.{RepliedInBytes}
use Rattle.nr_drill.proofs.Carried.{same_dropped, own_pipes}
use Rattle.nr_world.specs.DrillLinkState.{AwaitedLine, DrillLinkState}
use Rattle.nr_world.specs.LinkStands.{StandsForClient, TracksCalls, all_own, as_waiting, waiting_calls}
use Rattle.nr_world.specs.Steps.{Goes, StandsAt}
use Rattle.nr_world.specs.private.Working.{NotesResends, again_mark, resends_of}
use Rattle.nr_world.proofs.GivenCalls.{accepted_lives}
use Rattle.nr_world.proofs.Requesters.{ended_as, none_again}
use Rattle.nr_world.proofs.Standing.{IsPlain, below_room, from_view, plain_tracks, replied_one}
use Rattle.nr_world.proofs.SubmittedCalls.{tracks_resent}
use Rattle.nr_world.proofs.WaitingCalls.{first_waiting, waiting_below}
use Rattle.nr_world.proofs.Writes.{server_stays}
use Rattle.nr_link.specs.declared.end.End.TheVariants as ends
use Rattle.nr_reduce.specs.declared.call.Submission.TheVariants as submissions
use Rattle.nr_reduce.specs.declared.mark.Mark.TheVariants as marks

-- ---- Nothing is fed

resends_none : (s : Setting) (link : ℕ) (d : Drill) → calls_to_resend (client (s.opened link) link d.marks) ≡ [] → after_resends s link d ≡ d
unfolding after_resends
resends_none s link d none = ap (λ (ws : List WaitingCall). record d { marks = d.marks ++ map (resend_mark link) ws }) none ∙ (λ i. record d { marks = append-nil d.marks i })

pub down_nothing : (v : DrillLinkState) (n : ℕ) (run : List Mark) → take n v.pipes.down ≡ [] → Goes (λ s link d. after_resends s link (after_feeding_down link n d)) v v run run
down_nothing v n run none s link d at =
    let piece : take n (pipes_of link d).down ≡ [] = ap (λ (p : Pipes). take n p.down) (sym at.stands.pipes) ∙ none in
    let rest : Pipes = record { up = (pipes_of link d).up; down = drop n (pipes_of link d).down } in
    subst (λ (xs : List ℕ). StandsAt s link (after_resends s link (after_feeding link Initiator xs rest d)) v run) (sym piece)
    (subst (λ (x : Drill). StandsAt s link x v run) (sym (resends_none s link d (none_again (s.opened link) link v.client d.marks at.stands.client))) at)

-- ---- Calls that are sent again

-- what is known of the calls then: the first ones wait no more
pub record TracksAgain (s : Setting) (link : ℕ) (run : List Mark) (ws : List WaitingCall) (lines : ℕ) (awaited : List AwaitedLine) (calls waiting : List AcceptedCall) : Type 0 where
  pub tracks : TracksCalls s link (run ++ map (resend_mark link) ws) lines awaited calls (drop (length ws) waiting)
  pub first : map as_waiting ws ≡ take (length ws) waiting
  pub few : length ws ≤ length waiting

head_below : (first : ℕ) (ws : List WaitingCall) (w : WaitingCall) (others : List WaitingCall) → ws ≡ w ∷ others → AllByRecursion (λ (x : WaitingCall). x.xid < first) ws → w.xid < first
head_below first ws w others is all = (subst (λ (xs : List WaitingCall). AllByRecursion (λ (x : WaitingCall). x.xid < first) xs) is all).0

pub tracks_again : (s : Setting) (link : ℕ) (run : List Mark) (ws : List WaitingCall) (lines : ℕ) (awaited : List AwaitedLine) (calls waiting : List AcceptedCall) → CanResume (s.opened link).resumed (s.opened link).first_xid →
    calls_to_resend (client (s.opened link) link run) ≡ ws → TracksCalls s link run lines awaited calls waiting → TracksAgain s link run ws lines awaited calls waiting
tracks_again s link run [] lines awaited calls waiting can is t = record {
  tracks = subst (λ (r : List Mark). TracksCalls s link r lines awaited calls waiting) (sym (append-nil run)) t;
  first = refl;
  few = omega arith;
}
tracks_again s link run (w ∷ ws) lines awaited calls waiting can is t =
    let o = s.opened link in
    let mark : Mark = resend_mark link w in
    let first = first_waiting o link run w ws is in
    let below = head_below o.first_xid (client o link run).state.waiting w first.others first.before (waiting_below o link run can) in
    let all : waiting ≡ as_waiting w ∷ map as_waiting first.others = t.waiting_are ∙ ap (λ (xs : List WaitingCall). map as_waiting xs) first.before in
    let one : TracksCalls s link (run ++ mark ∷ []) lines awaited calls (map as_waiting first.others) = tracks_resent s link run w lines awaited calls waiting first below t in
    let rest : TracksAgain s link (run ++ mark ∷ []) ws lines awaited calls (map as_waiting first.others) =
    tracks_again s link (run ++ mark ∷ []) ws lines awaited calls (map as_waiting first.others) can (resent_next o link run w ws is) one in
    record {
      tracks = subst (λ (r : List Mark). TracksCalls s link r lines awaited calls (drop (suc (length ws)) waiting)) (append_assoc run (mark ∷ []) (map (resend_mark link) ws))
          (subst (λ (cs : List AcceptedCall). TracksCalls s link ((run ++ mark ∷ []) ++ map (resend_mark link) ws) lines awaited calls (drop (suc (length ws)) cs)) (sym all) rest.tracks);
      first = ap (λ (cs : List AcceptedCall). as_waiting w ∷ cs) rest.first ∙ sym (ap (λ (cs : List AcceptedCall). take (suc (length ws)) cs) all);
      few = (let le = rest.few in let e = ap (λ (cs : List AcceptedCall). length cs) all in omega (arith, le, e));
    }

-- none of them ends the client, nor concerns the server, nor drops the link
again_lives : (o : LinkParameters) (link : ℕ) (run : List Mark) (ws : List WaitingCall) → (client o link run).ended ≡ None → (client o link (run ++ map (resend_mark link) ws)).ended ≡ None
again_lives o link run [] live = ap (λ (r : List Mark). (client o link r).ended) (append-nil run) ∙ live
again_lives o link run (w ∷ ws) live =
    ap (λ (r : List Mark). (client o link r).ended) (sym (append_assoc run (resend_mark link w ∷ []) (map (resend_mark link) ws)))
    ∙ again_lives o link (run ++ resend_mark link w ∷ []) ws (accepted_lives o link run w.call w.form w.xid live)

again_server : (o : LinkParameters) (link : ℕ) (run : List Mark) (ws : List WaitingCall) (v : ResponderSide) → end_of v ≢ Some ends.Memory → RepresentsServer o link run v → RepresentsServer o link (run ++ map (resend_mark link) ws) v
again_server o link run [] v some h = subst (λ (r : List Mark). RepresentsServer o link r v) (sym (append-nil run)) h
again_server o link run (w ∷ ws) v some h =
    subst (λ (r : List Mark). RepresentsServer o link r v) (append_assoc run (resend_mark link w ∷ []) (map (resend_mark link) ws))
    (again_server o link (run ++ resend_mark link w ∷ []) ws v some (server_stays o link run v (resend_mark link w) (submit_elsewhere link link w.call w.form (submissions.Accepted w.xid)) some h))

again_dropped : (link : ℕ) (run : List Mark) (ws : List WaitingCall) → is_dropped link (run ++ map (resend_mark link) ws) ≡ is_dropped link run
again_dropped link run [] = ap (λ (r : List Mark). is_dropped link r) (append-nil run)
again_dropped link run (w ∷ ws) =
    ap (λ (r : List Mark). is_dropped link r) (sym (append_assoc run (resend_mark link w ∷ []) (map (resend_mark link) ws)))
    ∙ again_dropped link (run ++ resend_mark link w ∷ []) ws ∙ same_dropped link run (resend_mark link w) refl

again_replied : (link : ℕ) (run : List Mark) (ws : List WaitingCall) → RepliedInBytes run → RepliedInBytes (run ++ map (resend_mark link) ws)
again_replied link run [] h = subst RepliedInBytes (sym (append-nil run)) h
again_replied link run (w ∷ ws) h =
    subst RepliedInBytes (append_assoc run (resend_mark link w ∷ []) (map (resend_mark link) ws))
    (again_replied link (run ++ resend_mark link w ∷ []) ws (replied_one run (resend_mark link w) (λ before. tt) h))

-- a client that has ended sends none again
none_if_ended : (o : LinkParameters) (link : ℕ) (run : List Mark) (end : End) → (client o link run).ended ≡ Some end → calls_to_resend (client o link run) ≡ []
unfolding calls_to_resend
none_if_ended o link run end is =
    ap (λ (e : Option End). cond (is_none e && (client o link run).state.has_hello) (take ((client o link run).state.grant - length (client o link run).state.outstanding) (client o link run).state.waiting) []) is

-- so many were sent again as the code counts
counted_again : (o : LinkParameters) (link : ℕ) (run : List Mark) (asks : RequesterSide) (ws : List WaitingCall) (waiting : List AcceptedCall) → calls_to_resend (client o link run) ≡ ws → length ws ≤ length waiting →
    StandsForClient o link asks (run ++ map (resend_mark link) ws) → drop (length ws) waiting ≡ waiting_calls o link (run ++ map (resend_mark link) ws) →
    resends_of asks.state.side.ended (length waiting) (length asks.state.side.send_queue.held) ≡ length ws
counted_again o link run asks ws waiting is few k left = by asks.state.side.ended refl
  where
    all : List Mark
    all = run ++ map (resend_mark link) ws

    length_drop : (n : ℕ) (xs : List AcceptedCall) → n ≤ length xs → length (drop n xs) + n ≡ length xs
    length_drop zero xs le = omega arith
    length_drop (suc n) [] le = absurd (omega (arith, le))
    length_drop (suc n) (x ∷ xs) le = (let rest = length_drop n xs (omega (arith, le)) in omega (arith, rest))

    some_apart : (end : End) (e : Option End) → e ≡ Some end → e ≡ None → ⊥
    some_apart end None e f = absurd cc
    some_apart end (Some x) e f = absurd cc

    none_again_if : (end : End) → (client o link all).ended ≡ Some end → ws ≡ []
    none_again_if end ended = on (client o link run).ended refl
      where
        on : (e : Option End) → (client o link run).ended ≡ e → ws ≡ []
        on None live = absurd (some_apart end (client o link all).ended ended (again_lives o link run ws live))
        on (Some x) gone = sym is ∙ none_if_ended o link run x gone

    by : (e : Option End) → asks.state.side.ended ≡ e → resends_of e (length waiting) (length asks.state.side.send_queue.held) ≡ length ws
    by (Some end) e = sym (ap (λ (xs : List WaitingCall). length xs) (none_again_if end (sym (ended_as o link asks all k) ∙ e)))
    by None e =
        let held = ap (λ (ms : List (List ℕ)). length ms) (k.1.keeps.side e).held in
        let same = length-map (client o link all).state.waiting (waiting_message o) in
        let left_count = ap (λ (cs : List AcceptedCall). length cs) left in
        let as_count = length-map (client o link all).state.waiting as_waiting in
        let dropped = length_drop (length ws) waiting few in
        omega (arith, held, same, left_count, as_count, dropped)

-- ---- The piece

plain_fed_down : (link : ℕ) (bytes : List ℕ) → IsPlain link (marks.Fed link Initiator bytes)
plain_fed_down link bytes = record { drops = refl; answer = λ s. refl; settle = λ s xid. refl; accepts = refl; kept = λ xid. refl; replied = λ before. tt }

marks_again : (link : ℕ) (ws : List WaitingCall) (waiting : List AcceptedCall) → map as_waiting ws ≡ take (length ws) waiting → map (again_mark link) (take (length ws) waiting) ≡ map (resend_mark link) ws
marks_again link ws waiting is = ap (λ (cs : List AcceptedCall). map (again_mark link) cs) (sym is) ∙ both ws
  where
    both : (xs : List WaitingCall) → map (again_mark link) (map as_waiting xs) ≡ map (resend_mark link) xs
    both [] = refl
    both (x ∷ xs) = ap (λ (ms : List Mark). resend_mark link x ∷ ms) (both xs)

-- the link after a piece: with another client, these pipes, and these calls that wait
abbrev pub fed_link : DrillLinkState → RequesterSide → Pipes → DrillLinkState
fed_link v asks pipes =
    record v { client = asks; pipes = pipes; waiting = drop (resends_of asks.state.side.ended (length v.waiting) (length asks.state.side.send_queue.held)) v.waiting }

pub down_fed : (v : DrillLinkState) (asks : RequesterSide) (n : ℕ) (piece : List ℕ) (pipes : Pipes) (run run2 : List Mark) → piece ≡ take n v.pipes.down → piece ≢ [] → KeepsPiece v.client piece asks →
    asks.state.side.ended ≢ Some ends.Memory → pipes ≡ record { up = v.pipes.up; down = drop n v.pipes.down } →
    run2 ≡ (run ++ marks.Fed v.number Initiator piece ∷ []) ++ map (again_mark v.number) (take (resends_of asks.state.side.ended (length v.waiting) (length asks.state.side.send_queue.held)) v.waiting) →
    Goes (λ s link d. after_resends s link (after_feeding_down link n d)) v (fed_link v asks pipes) run run2
unfolding after_resends
down_fed v asks n [] pipes run run2 taken some takes ends_not is more s link d at = absurd (some refl)
down_fed v asks n (b ∷ bytes) pipes run run2 taken some takes ends_not is more s link d at =
    let h = at.stands in
    let o = s.opened link in
    let piece : List ℕ = b ∷ bytes in
    let mark : Mark = marks.Fed link Initiator piece in
    let fed : List Mark = d.marks ++ mark ∷ [] in
    let ws : List WaitingCall = calls_to_resend (client o link fed) in
    let rest : Pipes = record { up = (pipes_of link d).up; down = drop n (pipes_of link d).down } in
    let all : take n (pipes_of link d).down ≡ piece = ap (λ (p : Pipes). take n p.down) (sym h.pipes) ∙ sym taken in
    let own : rest ≡ pipes = sym (is ∙ ap (λ (p : Pipes). record { up = p.up; down = drop n p.down }) h.pipes) in
    let k : StandsForClient o link asks (fed ++ resends_after o link fed) =
    (h.client.0, subst (λ (r : List Mark). RequesterKeeps all_own h.client.0 o link asks r) (sym (append_assoc d.marks (mark ∷ []) (resends_after o link fed))) (takes all_own h.client.0 o link d.marks h.client.1)) in
    let before : TracksCalls s link fed v.lines v.awaited v.calls v.waiting = plain_tracks s link d.marks v mark (plain_fed_down link piece) h.tracks in
    let again : TracksAgain s link fed ws v.lines v.awaited v.calls v.waiting = tracks_again s link fed ws v.lines v.awaited v.calls v.waiting h.client.1.keeps.resumes refl before in
    let count : resends_of asks.state.side.ended (length v.waiting) (length asks.state.side.send_queue.held) ≡ length ws =
    counted_again o link fed asks ws v.waiting refl again.few k again.tracks.waiting_are in
    let run_is : run2 ≡ fed ++ map (resend_mark link) ws =
    more ∙ (λ i. (at.marks i ++ marks.Fed (h.number i) Initiator piece ∷ []) ++ map (again_mark (h.number i)) (take (count i) v.waiting))
    ∙ ap (λ (ms : List Mark). fed ++ ms) (marks_again link ws v.waiting again.first) in
    subst (λ (xs : List ℕ). StandsAt s link (after_resends s link (after_feeding link Initiator xs rest d)) (fed_link v asks pipes) run2) (sym all) (record {
      stands = record {
        number = h.number;
        first = h.first;
        room = subst (λ (m : ℕ). link ≤ m) (sym (length-set d.pipes (link - 1) rest)) h.room;
        pipes = sym own ∙ sym (own_pipes link rest d (below_room link (length d.pipes) h.first h.room));
        dropped = h.dropped ∙ sym (again_dropped link fed ws ∙ same_dropped link d.marks mark refl);
        client = k;
        server = again_server o link fed ws v.server h.server_memory (server_stays o link d.marks v.server mark (fed_elsewhere (eqb link link)) h.server_memory h.server);
        client_memory = ends_not;
        server_memory = h.server_memory;
        tracks = subst (λ (m : ℕ). TracksCalls s link (fed ++ map (resend_mark link) ws) v.lines v.awaited v.calls (drop m v.waiting)) (sym count) again.tracks;
      };
      marks = run_is;
      replies = subst RepliedInBytes (sym run_is) (again_replied link fed ws (replied_one d.marks mark (λ before. tt) (subst RepliedInBytes at.marks at.replies)));
    })

-- as the code has it
pub fed_and_noted : (v v0 v2 : DrillLinkState) (asks : RequesterSide) (n : ℕ) (piece : List ℕ) (pipes : Pipes) (run run1 run2 : List Mark) → v ≡ v0 → piece ≡ take n v.pipes.down → piece ≢ [] → KeepsPiece v.client piece asks →
    asks.state.side.ended ≢ Some ends.Memory → pipes ≡ record { up = v.pipes.up; down = drop n v.pipes.down } → run1 ≡ run ++ marks.Fed v.number Initiator piece ∷ [] → NotesResends (record v { client = asks; pipes = pipes }) v2 run1 run2 →
    Goes (λ s link d. after_resends s link (after_feeding_down link n d)) v0 v2 run run2
fed_and_noted v v0 v2 asks n piece pipes run run1 run2 is taken some takes ends_not rest more notes =
    let f : Setting → ℕ → Drill → Drill = λ s link d. after_resends s link (after_feeding_down link n d) in
    subst (λ (x : DrillLinkState). Goes f v0 x run run2) (sym notes.link_is)
    (from_view f v v0 (fed_link v asks pipes) run run2 is
    (down_fed v asks n piece pipes run run2 taken some takes ends_not rest
    (notes.marks_are ∙ ap (λ (ms : List Mark). ms ++ map (again_mark v.number) (take (resends_of asks.state.side.ended (length v.waiting) (length asks.state.side.send_queue.held)) v.waiting)) more)))

-- fed, handed over, settled
down_is : (s : Setting) (link n : ℕ) (d : Drill) → after_down s link n d ≡ settled s link (after_outcomes s link (after_resends s link (after_feeding_down link n d)))
unfolding after_down
down_is s link n d = refl

pub downs : (n : ℕ) (v v1 v2 : DrillLinkState) (run run1 run2 : List Mark) → Goes (λ s link d. after_outcomes s link (after_resends s link (after_feeding_down link n d))) v v1 run run1 → Goes settled v1 v2 run1 run2 →
    Goes (λ s link. after_down s link n) v v2 run run2
downs n v v1 v2 run run1 run2 hands writes s link d at =
    subst (λ (x : Drill). StandsAt s link x v2 run2) (sym (down_is s link n d))
    (writes s link (after_outcomes s link (after_resends s link (after_feeding_down link n d))) (hands s link d at))
