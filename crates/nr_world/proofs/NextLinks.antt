-- The next link of a client begins: its calls go on there.
use Rattle.std.specs.Prelude.{◌&&◌, ◌||◌, not}
use Rattle.std.specs.List.{filter, flat_map, list_any}
use Rattle.std.proofs.Common.{◌≡◌, ◌≢◌, ℕ, ◌≤◌, arith, Bool, true, false, eqb, List, [], ◌∷◌, length, None, Some, refl, ap, sym, subst, ◌∙◌}
use Rattle.nr_link.specs.Agreement.{terms_with}
use Rattle.nr_reduce.specs.History.{AcceptedCall}
use Rattle.nr_reduce.specs.Opening.{ServerOpened}
use Rattle.nr_reduce.specs.Reopening.{reopened}
use Rattle.nr_reduce.specs.Run.{client}
use Rattle.nr_reduce.specs.declared.mark.LinkParameters.{LinkParameters}
use Rattle.nr_reduce.specs.declared.mark.Mark.{Mark}
use Rattle.nr_requester.specs.RequesterState.{RequesterSide}
use Rattle.nr_requester.specs.Reopening.{ReopenStands, after_reopen}
use Rattle.nr_responder.specs.ResponderState.{ResponderSide, end_of}
use Rattle.nr_responder.specs.Standing.{RepresentsServer, ResponderRepresents}
use Rattle.nr_texts.specs.declared.opening.Opening.{Opening}
use Rattle.nr_drill.specs.Drill.{Setting, Drill, answer_at, client_of, link_of, pipes_of, settles, after_opening}
use Rattle.nr_drill.proofs.OpenCalls.{SameOn, same_settled}
use Rattle.nr_world.specs.DrillLinkState.{AwaitedLine, DrillLinkState}
use Rattle.nr_world.specs.LinkStands.{LinkStands, StandsForClient, TracksCalls, answers_of, awaited_lines, due_calls, lines_from, settles_elsewhere, waiting_calls, all_own}
use Rattle.nr_world.specs.Steps.{Goes, HasNext, MayLeave, OpensServerSo, Reopens}
use Rattle.nr_world.specs.private.Working.{begun_link}
use Rattle.nr_world.proofs.Apart.{stands_by}
use Rattle.nr_world.proofs.Ends.{represents_of}
use Rattle.nr_world.proofs.EarlierCalls.{none_settled}
use Rattle.nr_world.proofs.FreshLinks.{NoneOf, due_at_first, elsewhere_all, lives_on, next_calls, next_first, no_mark_of, opened_so, server_over, stands_still, waits_at_first}
use Rattle.nr_world.proofs.KeptDue.{kept_are_due, no_answers}
use Rattle.nr_laws.proofs.ResumedCalls.{next_least}
use Rattle.nr_world.proofs.Requesters.{next_stands}
use Rattle.nr_drill.proofs.OpenCalls.{same_answers}
use Rattle.nr_link.specs.declared.end.End.TheVariants as ends

-- ---- Another setting that says the same of a link and of the links of all marks

or_false : (b : Bool) → (b || false) ≡ b
or_false true = refl
or_false false = refl

owner_same : (s t : Setting) (link : ℕ) → t.opened link ≡ s.opened link → client_of t link ≡ client_of s link
owner_same s t link is = ap (λ (o : LinkParameters). client_of (record { server = s.server; opened = λ other. o }) link) is

answers_same : (s t : Setting) (link other : ℕ) (run : List Mark) → SameOn s t run → client_of t other ≡ client_of s link → answers_of t other run ≡ answers_of s link run
answers_same s t link other run is own = ap (λ (c : ℕ). flat_map (answer_at t c) run) own ∙ same_answers s t (client_of s link) run is

settled_same : (s t : Setting) (link other : ℕ) (run : List Mark) (xid : ℕ) → SameOn s t run → client_of t other ≡ client_of s link → list_any (settles t (client_of t other) xid) run ≡ list_any (settles s (client_of s link) xid) run
settled_same s t link other run xid is own = ap (λ (c : ℕ). list_any (settles t c xid) run) own ∙ same_settled s t (client_of s link) xid run is

awaited_same : (s t : Setting) (link other : ℕ) (run : List Mark) → SameOn s t run → client_of t other ≡ client_of s link → awaited_lines t other run ≡ awaited_lines s link run
unfolding awaited_lines
awaited_same s t link other run is own = (λ i. filter (λ (line : AwaitedLine). not (settled_same s t link other run line.xid is own i)) (lines_from 0 (answers_same s t link other run is own i)))

elsewhere_same : (s t : Setting) (link xid : ℕ) (run : List Mark) → SameOn s t run → client_of t link ≡ client_of s link → list_any (settles_elsewhere t link xid) run ≡ list_any (settles_elsewhere s link xid) run
elsewhere_same s t link xid [] is own = refl
elsewhere_same s t link xid (mark ∷ run) is own =
    let one : settles t (client_of t link) xid mark ≡ settles s (client_of s link) xid mark =
    sym (or_false (settles t (client_of t link) xid mark)) ∙ settled_same s t link link (mark ∷ []) xid (is.0, tt) own ∙ or_false (settles s (client_of s link) xid mark) in
    (λ i. (not (eqb (link_of mark) link) && one i) || elsewhere_same s t link xid run is.1 own i)

tracks_same : (s t : Setting) (link : ℕ) (run : List Mark) (lines : ℕ) (awaited : List AwaitedLine) (calls waiting : List AcceptedCall) → SameOn s t run → t.opened link ≡ s.opened link → TracksCalls s link run lines awaited calls waiting →
    TracksCalls t link run lines awaited calls waiting
tracks_same s t link run lines awaited calls waiting is opened h =
    let own : client_of t link ≡ client_of s link = owner_same s t link opened in
    record {
      lines_are = h.lines_are ∙ sym (ap length (answers_same s t link link run is own));
      awaited_are = h.awaited_are ∙ sym (awaited_same s t link link run is own);
      calls_are = h.calls_are ∙ sym (ap (λ (o : LinkParameters). due_calls o link run) opened);
      waiting_are = h.waiting_are ∙ sym (ap (λ (o : LinkParameters). waiting_calls o link run) opened);
      same_ids = h.same_ids;
      none_before = λ xid above. elsewhere_same s t link xid run is own ∙ h.none_before xid (subst (λ (o : LinkParameters). o.first_xid ≤ xid) opened above);
    }

-- the link stands in another drill with these marks, in which its pipes are the same
pub same_stands : (s t : Setting) (link : ℕ) (d e : Drill) (v : DrillLinkState) → SameOn s t d.marks → t.opened link ≡ s.opened link → e.marks ≡ d.marks → pipes_of link e ≡ pipes_of link d → length d.pipes ≤ length e.pipes → LinkStands s link d v →
    LinkStands t link e v
same_stands s t link d e v is opened run pipes room h =
    stands_by t link d e v run pipes room (record {
      number = h.number;
      first = h.first;
      room = h.room;
      pipes = h.pipes;
      dropped = h.dropped;
      client = subst (λ (o : LinkParameters). StandsForClient o link v.client d.marks) (sym opened) h.client;
      server = subst (λ (o : LinkParameters). RepresentsServer o link d.marks v.server) (sym opened) h.server;
      client_memory = h.client_memory;
      server_memory = h.server_memory;
      tracks = tracks_same s t link d.marks v.lines v.awaited v.calls v.waiting is opened h.tracks;
    })

-- ---- What the client knows of its calls is what it knew

-- no call that the client still submits was settled before
none_settled_above : (s : Setting) (link : ℕ) (d : Drill) (v : DrillLinkState) (xid : ℕ) → LinkStands s link d v → (client (s.opened link) link d.marks).state.next_xid ≤ xid → list_any (settles s (client_of s link) xid) d.marks ≡ false
none_settled_above s link d v xid h above =
    let same = h.client.1.keeps.kept.keeps.xid in
    let least = next_least (s.opened link) link d.marks in
    none_settled s link xid d.marks (h.client.1.answers.to_come xid (omega (arith, same, above))) (h.tracks.none_before xid (omega (arith, least, above)))

next_tracks : (s t : Setting) (link next : ℕ) (d e : Drill) (v : DrillLinkState) → MayLeave (s.opened link) link d.marks → HasNext s t link next d e → LinkStands s link d v →
    TracksCalls t next e.marks v.lines v.awaited v.calls v.calls
next_tracks s t link next d e v m x h =
    let o : LinkParameters = s.opened link in
    let run : List Mark = d.marks in
    let none : NoneOf next run = subst (NoneOf next) x.marks x.begins.none in
    let is_next : v.calls ≡ next_calls (t.opened next) = h.tracks.calls_are ∙ sym (kept_are_due o link run m) ∙ ap next_calls (sym x.opened) in
    let due : due_calls (t.opened next) next run ≡ next_calls (t.opened next) = due_at_first (t.opened next) next run none in
    let waits : waiting_calls (t.opened next) next run ≡ next_calls (t.opened next) = waits_at_first (t.opened next) next run none in
    subst (λ (marks : List Mark). TracksCalls t next marks v.lines v.awaited v.calls v.calls) (sym x.marks) (record {
      lines_are = h.tracks.lines_are ∙ sym (ap length (answers_same s t link next run x.same x.client));
      awaited_are = h.tracks.awaited_are ∙ sym (awaited_same s t link next run x.same x.client);
      calls_are = is_next ∙ sym due;
      waiting_are = is_next ∙ sym waits;
      same_ids = h.tracks.same_ids;
      none_before = λ xid above.
          sym (elsewhere_all t next xid run none)
          ∙ settled_same s t link next run xid x.same x.client
          ∙ none_settled_above s link d v xid h (subst (λ (n : ℕ). n ≤ xid) (ap (λ (p : LinkParameters). p.first_xid) x.opened ∙ next_first o link run) above);
    })

-- ---- The link with its next number, another server, and the client that went on

-- what the code made of both ends
pub record BeginsAnew (number : ℕ) (opening : Opening) (before : DrillLinkState) (asks : RequesterSide) (serves : ResponderSide) (after : DrillLinkState) : Type 0 where
  pub goes_on : ReopenStands before.client asks
  pub client_live : asks.state.side.ended ≡ None
  pub server_live : end_of serves ≡ None
  pub server : (opened : LinkParameters) (l : ℕ) → ServerOpened opened opening.credits opening.credits (terms_with opening.server_units opening.invalidates) → ResponderRepresents opened l [] serves
  pub link_is : after ≡ begun_link (record before { client = asks }) number serves before.calls

begun_stands : (number : ℕ) (opening : Opening) (v v2 : DrillLinkState) (asks : RequesterSide) (serves : ResponderSide) → BeginsAnew number opening v asks serves v2 → (s t : Setting) (link : ℕ) (d e : Drill) →
    MayLeave (s.opened link) link d.marks → HasNext s t link number d e → OpensServerSo opening (s.opened link) → LinkStands s link d v → LinkStands t number e v2
begun_stands number opening v v2 asks serves b s t link d e m x so h =
    let o : LinkParameters = s.opened link in
    let next : LinkParameters = t.opened number in
    let none : NoneOf number e.marks = x.begins.none in
    let none_here : NoneOf number d.marks = subst (NoneOf number) x.marks none in
    let left = b.goes_on all_own h.client.0 o link number d.marks m.opens m.asked h.client.1 (no_mark_of number d.marks none_here) in
    let asks_stand : StandsForClient (reopened o link d.marks) number asks d.marks =
    next_stands v.client.state v.client.marks (reopened o link d.marks) number asks d.marks (no_answers o link v.client d.marks m h.client) left.0 in
    let fresh : ServerOpened next opening.credits opening.credits (terms_with opening.server_units opening.invalidates) = opened_so opening o link d.marks next x.opened so in
    let memory : end_of serves ≢ Some ends.Memory = lives_on (end_of serves) b.server_live in
    subst (λ (y : DrillLinkState). LinkStands t number e y) (sym b.link_is) (record {
      number = refl;
      first = x.begins.first;
      room = x.begins.room;
      pipes = sym x.begins.pipes;
      dropped = sym (stands_still number e.marks none);
      client = subst (λ (p : LinkParameters). StandsForClient p number asks e.marks) (sym x.opened) (subst (λ (run : List Mark). StandsForClient (reopened o link d.marks) number asks run) (sym x.marks) asks_stand);
      server = server_over next number [] e.marks serves none memory (represents_of next number [] serves memory (b.server next number fresh));
      client_memory = lives_on asks.state.side.ended b.client_live;
      server_memory = memory;
      tracks = next_tracks s t link number d e v m x h;
    })

-- and once the hellos went to both ends
pub reopens : (number : ℕ) (opening : Opening) (v v2 v3 : DrillLinkState) (asks : RequesterSide) (serves : ResponderSide) (run run3 : List Mark) → BeginsAnew number opening v asks serves v2 → Goes after_opening v2 v3 run run3 → Reopens number opening v v3 run run3
reopens number opening v v2 v3 asks serves run run3 b goes s t link d e m x so at = goes t number e (record {
  stands = begun_stands number opening v v2 asks serves b s t link d e m x so at.stands;
  marks = at.marks ∙ sym x.marks;
  replies = at.replies;
})

-- a client that was reopened is alive
pub reopened_live : (before asks : RequesterSide) (staging : List ℕ) → asks ≡ after_reopen before staging → asks.state.side.ended ≡ None
unfolding after_reopen
reopened_live before asks staging is = ap (λ (h : RequesterSide). h.state.side.ended) is
