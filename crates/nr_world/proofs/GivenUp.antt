-- A call that is given up: forgotten, or revoked.
use Rattle.std.specs.Prelude.{◌-◌, if◌then◌else◌, is_none, is_some, slice_get}
use Rattle.std.specs.List.{AllByRecursion, list_any}
use Rattle.std.proofs.Common.{◌≡◌, ◌≢◌, ℕ, Bool, true, false, not, ◌&&◌, ◌||◌, List, [], ◌∷◌, ◌++◌, Option, None, Some, refl, ap, sym, subst, ◌∙◌}
use Rattle.nr_link.specs.declared.end.End.{End}
use Rattle.nr_reduce.specs.declared.call.Submission.{Submission}
use Rattle.nr_reduce.specs.declared.mark.Mark.{Mark}
use Rattle.nr_reduce.specs.History.{is_dropped, AcceptedCall}
use Rattle.nr_reduce.specs.Asked.{revoked_bytes}
use Rattle.nr_reduce.specs.Run.{client}
use Rattle.nr_requester.specs.RequesterState.{RequesterSide}
use Rattle.nr_requester.specs.AfterCalls.{after_forget as forgotten, after_revoke as revoked}
use Rattle.nr_requester.specs.Buffers.{bytes_of_buffers}
use Rattle.nr_requester.specs.OpenCalls.{open_call, buffers_of}
use Rattle.nr_requester.proofs.HandedBack.{open_remains}
use Rattle.nr_drill.specs.Drill.{Setting, Drill, with_mark, settled, answer_of_line, is_open, open_xid, after_giving_up, after_forget, after_taking_back, after_revoke, client_of, settles}
use Rattle.nr_drill.specs.InBytes.{RepliedInBytes}
use Rattle.nr_drill.proofs.Carried.{same_dropped}
use Rattle.nr_world.specs.DrillLinkState.{AwaitedLine, DrillLinkState}
use Rattle.nr_world.specs.LinkStands.{answers_of, LinkStands, StandsForClient}
use Rattle.nr_world.specs.OpenTickets.{LinesOpen, IsTakenOut, TakesLine, calls_without, TakesCall}
use Rattle.nr_world.specs.Steps.{Goes, StandsAt}
use Rattle.nr_world.proofs.Standing.{replied_one, from_view}
use Rattle.nr_world.proofs.Writes.{server_stays, one_more_mark}
use Rattle.nr_world.proofs.GivenLines.{line_answer, line_awaited, not_awaited, left_without}
use Rattle.nr_requester.specs.ReopenedLinks.{KeepsOn}
use Rattle.nr_world.proofs.Requesters.{ended_as, revoked_are, asks_on}
use Rattle.nr_world.proofs.SettledCalls.{SettlesOne, forget_settles, tracks_less, revoke_settles}
use Rattle.nr_reduce.specs.declared.call.Submission.TheVariants as submissions
use Rattle.nr_reduce.specs.declared.mark.Mark.TheVariants as marks

-- the link with another client, and these lines and calls
abbrev pub with_client : DrillLinkState → RequesterSide → List AwaitedLine → List AcceptedCall → DrillLinkState
with_client v client awaited calls = record v { client = client; awaited = awaited; calls = calls }

-- ---- Which call is open

abbrev xid_of : Setting → ℕ → Drill → ℕ → Option ℕ
xid_of s link d number = open_xid s link d.marks (answer_of_line s (client_of s link) number d.marks)

answer_is : (s : Setting) (link number : ℕ) (d : Drill) → answer_of_line s (client_of s link) number d.marks ≡ slice_get (answers_of s link d.marks) (number - 1)
unfolding answer_of_line
answer_is s link number d = refl

none_open : (s : Setting) (link : ℕ) (run : List Mark) (answer : Option Submission) → ((xid : ℕ) → answer ≡ Some (submissions.Accepted xid) → is_open s link xid run ≡ false) → open_xid s link run answer ≡ None
none_open s link run (Some (submissions.Accepted xid)) h = ap (λ (b : Bool). if b then Some xid else None) (h xid refl)
none_open s link run (Some (submissions.Refused why)) h = refl
none_open s link run (Some submissions.Dropped) h = refl
none_open s link run None h = refl

-- the parts of `is_open`
abbrev opened_if : Bool → Bool → Option End → Bool
opened_if dropped settled ended = not (dropped || settled) && is_none ended

abbrev is_settled : Setting → ℕ → ℕ → List Mark → Bool
is_settled s link xid run = list_any (settles s (client_of s link) xid) run

shut_if_ended : (dropped settled : Bool) (ended : Option End) → is_some ended ≡ true → opened_if dropped settled ended ≡ false
shut_if_ended true settled ended e = refl
shut_if_ended false true ended e = refl
shut_if_ended false false None e = absurd cc
shut_if_ended false false (Some end) e = refl

shut_if_over : (dropped settled : Bool) (ended : Option End) → not settled ≡ false → opened_if dropped settled ended ≡ false
shut_if_over true settled ended e = refl
shut_if_over false true ended e = refl
shut_if_over false false ended e = absurd cc

open_if : (dropped settled : Bool) (ended : Option End) → dropped ≡ false → ended ≡ None → not settled ≡ true → opened_if dropped settled ended ≡ true
open_if true settled ended e none due = absurd cc
open_if false true ended e none due = absurd cc
open_if false false ended e none due = ap (λ (o : Option End). is_none o) none

-- no call of this number is open, in all drills at which the link stands
abbrev pub NoneOpen : ℕ → DrillLinkState → Type 0
NoneOpen number v = (s : Setting) (link : ℕ) (d : Drill) → LinkStands s link d v → xid_of s link d number ≡ None

ended_is : (s : Setting) (link : ℕ) (d : Drill) (v : DrillLinkState) → LinkStands s link d v → v.client.state.side.ended ≡ (client (s.opened link) link d.marks).ended
ended_is s link d v h = ended_as (s.opened link) link v.client d.marks h.client

pub none_if_dropped : (number : ℕ) (v : DrillLinkState) → v.is_dropped ≡ true → NoneOpen number v
none_if_dropped number v gone s link d h = none_open s link d.marks (answer_of_line s (client_of s link) number d.marks) (λ xid is.
    ap (λ (b : Bool). opened_if b (is_settled s link xid d.marks) (client (s.opened link) link d.marks).ended) (sym h.dropped ∙ gone))

pub none_if_ended : (number : ℕ) (v : DrillLinkState) → is_some v.client.state.side.ended ≡ true → NoneOpen number v
none_if_ended number v ended s link d h = none_open s link d.marks (answer_of_line s (client_of s link) number d.marks) (λ xid is.
    shut_if_ended (is_dropped link d.marks) (is_settled s link xid d.marks) (client (s.opened link) link d.marks).ended
    (ap (λ (o : Option End). is_some o) (sym (ended_is s link d v h)) ∙ ended))

none_if_absent : (number : ℕ) (v : DrillLinkState) → AllByRecursion (λ (line : AwaitedLine). line.index ≢ number - 1) v.awaited → NoneOpen number v
none_if_absent number v none s link d h = none_open s link d.marks (answer_of_line s (client_of s link) number d.marks) (λ xid is.
    shut_if_over (is_dropped link d.marks) (is_settled s link xid d.marks) (client (s.opened link) link d.marks).ended
    (not_awaited s link d.marks (number - 1) xid (subst (λ (lines : List AwaitedLine). AllByRecursion (λ (line : AwaitedLine). line.index ≢ number - 1) lines) h.tracks.awaited_are none) (sym (answer_is s link number d) ∙ is)))

open_one : (s : Setting) (link : ℕ) (d : Drill) (v : DrillLinkState) (number xid : ℕ) (left : List AwaitedLine) → v.is_dropped ≡ false → v.client.state.side.ended ≡ None → IsTakenOut (number - 1) xid v.awaited left → LinkStands s link d v →
    xid_of s link d number ≡ Some xid
open_one s link d v number xid left stands live t h =
    ap (λ (answer : Option Submission). open_xid s link d.marks answer) (answer_is s link number d ∙ line_answer s link d.marks (number - 1) xid v.awaited left h.tracks.awaited_are t)
    ∙ ap (λ (b : Bool). if b then Some xid else None) (open_if (is_dropped link d.marks) (is_settled s link xid d.marks) (client (s.opened link) link d.marks).ended
    (sym h.dropped ∙ stands) (sym (ended_is s link d v h) ∙ live) (line_awaited s link d.marks (number - 1) xid v.awaited left h.tracks.awaited_are t))

-- ---- No call of this number is open

-- a step of the call of a number, if it is open
abbrev pub IsIdle : ℕ → (Setting → ℕ → Drill → Drill) → Type 0
IsIdle number f = (s : Setting) (link : ℕ) (d : Drill) → xid_of s link d number ≡ None → f s link d ≡ d

pub forget_idle : (number : ℕ) → IsIdle number (λ s link. after_forget s link number)
unfolding after_forget
forget_idle number s link d none = ap (λ (o : Option ℕ). after_giving_up link o d) none

pub revoke_idle : (number : ℕ) → IsIdle number (λ s link. after_revoke s link number)
unfolding after_revoke
revoke_idle number s link d none = ap (λ (o : Option ℕ). after_taking_back s link o d) none

pub stays : (number : ℕ) (f : Setting → ℕ → Drill → Drill) (v : DrillLinkState) (run : List Mark) → IsIdle number f → NoneOpen number v → Goes f v v run run
stays number f v run idle none s link d at = subst (λ (x : Drill). StandsAt s link x v run) (sym (idle s link d (none s link d at.stands))) at

pub stays_absent : (number : ℕ) (f : Setting → ℕ → Drill → Drill) (v h : DrillLinkState) (result : Option ℕ) (left : List AwaitedLine) (calls : List AcceptedCall) (run : List Mark) → IsIdle number f → v ≡ h → result ≡ None →
    TakesLine (number - 1) result v.awaited left → TakesCall result v.calls calls → Goes f h (with_client v v.client left calls) run run
stays_absent number f v h (Some xid) left calls run idle is none t u = absurd cc
stays_absent number f v h None left calls run idle is none t u =
    from_view f v h (with_client v v.client left calls) run run is
    (subst (λ (lines : List AwaitedLine). Goes f v (with_client v v.client lines calls) run run) (sym t.0)
    (subst (λ (cs : List AcceptedCall). Goes f v (with_client v v.client v.awaited cs) run run) (sym u) (stays number f v run idle (none_if_absent number v t.1))))

-- ---- One is given up

-- what was taken out of a link that stands and isn't ended
pub record TookOut (v : DrillLinkState) (number xid : ℕ) (left : List AwaitedLine) (calls : List AcceptedCall) : Type 0 where
  pub stands : v.is_dropped ≡ false
  pub live : v.client.state.side.ended ≡ None
  pub tickets : LinesOpen v.client.state v.awaited
  pub taken : IsTakenOut (number - 1) xid v.awaited left
  pub call : calls ≡ calls_without xid v.calls

given_up : (s : Setting) (link : ℕ) (d : Drill) (v : DrillLinkState) (client : RequesterSide) (number xid : ℕ) (left : List AwaitedLine) (calls : List AcceptedCall) (mark : Mark) → SettlesOne s link xid mark → TookOut v number xid left calls → LinkStands s link d v →
    StandsForClient (s.opened link) link client (d.marks ++ mark ∷ []) → client.state.side.ended ≡ v.client.state.side.ended → LinkStands s link (with_mark mark d) (with_client v client left calls)
given_up s link d v client number xid left calls mark g t h represents same = record {
  number = h.number;
  first = h.first;
  room = h.room;
  pipes = h.pipes;
  dropped = h.dropped ∙ sym (same_dropped link d.marks mark g.drops);
  client = represents;
  server = server_stays (s.opened link) link d.marks v.server mark g.others h.server_memory h.server;
  client_memory = λ e. h.client_memory (sym same ∙ e);
  server_memory = h.server_memory;
  tracks = tracks_less s link xid d.marks mark v.lines v.awaited left v.calls calls v.waiting g (left_without v.client.state (number - 1) xid v.awaited left t.tickets t.taken) t.call h.tracks;
}

forgotten_end : (h : RequesterSide) (xid : ℕ) → (forgotten h xid).state.side.ended ≡ h.state.side.ended
unfolding forgotten
forgotten_end h xid = refl

pub forgets : (v : DrillLinkState) (client : RequesterSide) (number xid : ℕ) (left : List AwaitedLine) (calls : List AcceptedCall) (run run2 : List Mark) → TookOut v number xid left calls → client ≡ forgotten v.client xid → KeepsOn v.client (λ link. marks.Forget link xid) client →
    run2 ≡ run ++ marks.Forget v.number xid ∷ [] → Goes (λ s link. after_forget s link number) v (with_client v client left calls) run run2
unfolding after_forget
forgets v client number xid left calls run run2 t is stands_on more s link d at =
    let h = at.stands in
    subst (λ (o : Option ℕ). StandsAt s link (after_giving_up link o d) (with_client v client left calls) run2) (sym (open_one s link d v number xid left t.stands t.live t.taken h)) (record {
      stands = given_up s link d v client number xid left calls (marks.Forget link xid) (forget_settles s link xid) t h (asks_on v.client client (λ (l : ℕ). marks.Forget l xid) stands_on (s.opened link) link d.marks h.client)
          (ap (λ (x : RequesterSide). x.state.side.ended) is ∙ forgotten_end v.client xid);
      marks = one_more_mark v.number link (λ (l : ℕ). marks.Forget l xid) run run2 d.marks h.number at.marks more;
      replies = subst RepliedInBytes (sym more) (replied_one run (marks.Forget v.number xid) (λ before. tt) at.replies);
    })

-- ---- Its memory is revoked

revoked_end : (h : RequesterSide) (xid : ℕ) → (revoked h xid).state.side.ended ≡ h.state.side.ended
unfolding revoked
revoked_end h xid = refl

pub revokes : (v v3 : DrillLinkState) (client : RequesterSide) (number xid : ℕ) (bytes : List ℕ) (left : List AwaitedLine) (calls : List AcceptedCall) (run run2 run3 : List Mark) → TookOut v number xid left calls → is_some (open_call xid v.client.state) ≡ true →
    bytes ≡ bytes_of_buffers (buffers_of xid v.client.state) → client ≡ revoked v.client xid → KeepsOn v.client (λ link. marks.Revoke link xid (bytes_of_buffers (buffers_of xid v.client.state))) client →
    run2 ≡ run ++ marks.Revoke v.number xid bytes ∷ [] → Goes settled (with_client v client left calls) v3 run2 run3 → Goes (λ s link. after_revoke s link number) v v3 run run3
unfolding after_revoke
revokes v v3 client number xid bytes left calls run run2 run3 t there own is stands_on more settles s link d at =
    let h = at.stands in
    let o = s.opened link in
    let placed : revoked_bytes o link d.marks xid ≡ bytes = sym (revoked_are o link v.client d.marks xid h.client (open_remains v.client.state xid there)) ∙ sym own in
    let represents : StandsForClient o link client (d.marks ++ marks.Revoke link xid bytes ∷ []) =
    subst (λ (bs : List ℕ). StandsForClient o link client (d.marks ++ marks.Revoke link xid bs ∷ [])) (sym own) (asks_on v.client client (λ (l : ℕ). marks.Revoke l xid (bytes_of_buffers (buffers_of xid v.client.state))) stands_on o link d.marks h.client) in
    let marked : StandsAt s link (with_mark (marks.Revoke link xid bytes) d) (with_client v client left calls) run2 = record {
      stands = given_up s link d v client number xid left calls (marks.Revoke link xid bytes) (revoke_settles s link xid bytes) t h represents (ap (λ (x : RequesterSide). x.state.side.ended) is ∙ revoked_end v.client xid);
      marks = one_more_mark v.number link (λ (l : ℕ). marks.Revoke l xid bytes) run run2 d.marks h.number at.marks more;
      replies = subst RepliedInBytes (sym more) (replied_one run (marks.Revoke v.number xid bytes) (λ before. tt) at.replies);
    } in
    subst (λ (o : Option ℕ). StandsAt s link (after_taking_back s link o d) v3 run3) (sym (open_one s link d v number xid left t.stands t.live t.taken h))
    (subst (λ (bs : List ℕ). StandsAt s link (settled s link (with_mark (marks.Revoke link xid bs) d)) v3 run3) (sym placed) (settles s link (with_mark (marks.Revoke link xid bytes) d) marked))

-- what a test of an option shows
true_false : true ≢ false
true_false e = absurd cc

pub none_of : (o e : Option End) (b : Bool) → e ≡ o → b ≡ is_some e → b ≡ false → o ≡ None
none_of None e b same is shut = refl
none_of (Some end) e b same is shut = absurd (true_false (ap (λ (x : Option End). is_some x) (sym same) ∙ sym is ∙ shut))

pub some_of : (o e : Option End) (b : Bool) → e ≡ o → b ≡ is_some e → b ≡ true → is_some o ≡ true
some_of o e b same is there = ap (λ (x : Option End). is_some x) (sym same) ∙ sym is ∙ there
