-- Marks of other links leave a link.
use Rattle.std.specs.Prelude.{◌-◌, ◌||◌, ◌==◌, if◌then◌else◌, ◌&&◌}
use Rattle.std.specs.List.{AllByRecursion, list_any}
use Rattle.std.proofs.Common.{◌≡◌, ◌≢◌, ℕ, ◌≤◌, arith, eqb, Bool, false, List, [], ◌∷◌, ◌++◌, length, refl, ap, sym, subst, ◌∙◌, append_assoc, append-nil, not}
use Rattle.nr_world.proofs.CallLines.{SettlesNothing, tracks_on}
use Rattle.nr_wire.specs.declared.hello.Side.TheVariants.{Initiator, Responder}
use Rattle.nr_reduce.specs.declared.mark.Mark.{Mark}
use Rattle.nr_reduce.specs.History.{CompletedCall, is_dropped, accepted_as, accepted_at}
use Rattle.nr_reduce.specs.Concerns.{is_judged}
use Rattle.nr_reduce.proofs.Unconcerned.{not_judged, none_abandoned, none_completed}
use Rattle.nr_requester.specs.Laws.{GivesUpNothing}
use Rattle.nr_responder.specs.Standing.{RepresentsServer}
use Rattle.nr_drill.specs.Drill.{client_of, link_of, Setting, Drill, pipes_of, with_mark, answer_at, is_sent_again}
use Rattle.nr_drill.proofs.Carried.{not_drop, not_fed, same_dropped}
use Rattle.nr_drill.proofs.Followed.{apart, unconcerned, not_written, no_event, Extends}
use Rattle.nr_world.specs.DrillLinkState.{DrillLinkState}
use Rattle.nr_world.specs.LinkStands.{LinkStands, StandsForClient, TracksCalls}
use Rattle.nr_world.specs.Laws.{OtherLinksStand}
use Rattle.nr_world.proofs.Writes.{server_stays}
use Rattle.nr_world.proofs.WaitingCalls.{leaves_calls}
use Rattle.std.proofs.lemmas.Bool.{ne_eqb}
use Rattle.nr_world.proofs.Requesters.{others_leave}
use Rattle.nr_reduce.specs.declared.mark.Mark.TheVariants as marks

-- ---- A mark of a link of another client

not_answered : (s : Setting) (link : ℕ) (mark : Mark) → client_of s (link_of mark) ≢ client_of s link → answer_at s (client_of s link) mark ≡ []
not_answered s link (marks.Submit l call form answer) ne = ap (λ (b : Bool). if b && not (is_sent_again s l answer) then answer ∷ [] else []) (ne_eqb (client_of s l) (client_of s link) ne)
not_answered s link (marks.Fed l side bytes) ne = refl
not_answered s link (marks.Wrote l side bytes) ne = refl
not_answered s link (marks.Execute l xid moment payload place reply) ne = refl
not_answered s link (marks.Done l xid outcome) ne = refl
not_answered s link (marks.Lost l xid) ne = refl
not_answered s link (marks.Forget l xid) ne = refl
not_answered s link (marks.Revoke l xid bytes) ne = refl
not_answered s link (marks.Drop l) ne = refl
not_answered s link (marks.Told l what) ne = refl

not_settled : (s : Setting) (link : ℕ) (mark : Mark) → client_of s (link_of mark) ≢ client_of s link → SettlesNothing s link mark
not_settled s link (marks.Done l x outcome) ne xid = ap (λ (b : Bool). b && x == xid) (ne_eqb (client_of s l) (client_of s link) ne)
not_settled s link (marks.Lost l x) ne xid = ap (λ (b : Bool). b && x == xid) (ne_eqb (client_of s l) (client_of s link) ne)
not_settled s link (marks.Forget l x) ne xid = ap (λ (b : Bool). b && x == xid) (ne_eqb (client_of s l) (client_of s link) ne)
not_settled s link (marks.Revoke l x bytes) ne xid = ap (λ (b : Bool). b && x == xid) (ne_eqb (client_of s l) (client_of s link) ne)
not_settled s link (marks.Submit l call form answer) ne xid = refl
not_settled s link (marks.Fed l side bytes) ne xid = refl
not_settled s link (marks.Wrote l side bytes) ne xid = refl
not_settled s link (marks.Execute l x moment payload place reply) ne xid = refl
not_settled s link (marks.Drop l) ne xid = refl
not_settled s link (marks.Told l what) ne xid = refl

pub not_given_up : (link : ℕ) (mark : Mark) → link_of mark ≢ link → GivesUpNothing link mark
not_given_up link mark ne xid =
    let e : is_judged link Initiator mark ≡ false = not_judged link Initiator mark (unconcerned link Initiator mark ne) in
    (λ i. none_abandoned link xid mark e i || list_any (λ (c : CompletedCall). eqb c.xid xid) (none_completed link mark e i))

pub not_accepted : (link : ℕ) (mark : Mark) → link_of mark ≢ link → accepted_at link mark ≡ []
not_accepted link (marks.Submit l call form answer) ne = ap (λ (b : Bool). if b then accepted_as answer call form else []) (apart l link ne)
not_accepted link (marks.Fed l side bytes) ne = refl
not_accepted link (marks.Wrote l side bytes) ne = refl
not_accepted link (marks.Execute l xid moment payload place reply) ne = refl
not_accepted link (marks.Done l xid outcome) ne = refl
not_accepted link (marks.Lost l xid) ne = refl
not_accepted link (marks.Forget l xid) ne = refl
not_accepted link (marks.Revoke l xid bytes) ne = refl
not_accepted link (marks.Drop l) ne = refl
not_accepted link (marks.Told l what) ne = refl

other_link : (s : Setting) (l link : ℕ) → client_of s l ≢ client_of s link → l ≢ link
other_link s l link ne same = ne (ap (client_of s) same)

-- ---- The link

-- it depends on the marks, on its pipes, and on how many links there are
pub stands_by : (s : Setting) (link : ℕ) (d d2 : Drill) (v : DrillLinkState) → d2.marks ≡ d.marks → pipes_of link d2 ≡ pipes_of link d → length d.pipes ≤ length d2.pipes → LinkStands s link d v → LinkStands s link d2 v
stands_by s link d d2 v run pipes room h = record {
  number = h.number;
  first = h.first;
  room = (let le = h.room in omega (arith, le, room));
  pipes = h.pipes ∙ sym pipes;
  dropped = h.dropped ∙ ap (λ (r : List Mark). is_dropped link r) (sym run);
  client = subst (λ (r : List Mark). StandsForClient (s.opened link) link v.client r) (sym run) h.client;
  server = subst (λ (r : List Mark). RepresentsServer (s.opened link) link r v.server) (sym run) h.server;
  client_memory = h.client_memory;
  server_memory = h.server_memory;
  tracks = subst (λ (r : List Mark). TracksCalls s link r v.lines v.awaited v.calls v.waiting) (sym run) h.tracks;
}

pub one_elsewhere : (s : Setting) (link : ℕ) (d : Drill) (v : DrillLinkState) (mark : Mark) → client_of s (link_of mark) ≢ client_of s link → LinkStands s link d v → LinkStands s link (with_mark mark d) v
one_elsewhere s link d v mark other h =
    let ne : link_of mark ≢ link = other_link s (link_of mark) link other in
    let leaves = leaves_calls (s.opened link) link d.marks mark (not_accepted link mark ne) in
    record {
      number = h.number;
      first = h.first;
      room = h.room;
      pipes = h.pipes;
      dropped = h.dropped ∙ sym (same_dropped link d.marks mark (not_drop link mark ne));
      client = others_leave (s.opened link) link v.client d.marks mark h.client (no_event link Initiator d.marks mark ne) (not_written link Initiator mark ne) (not_fed link Initiator mark ne) (not_given_up link mark ne);
      server = server_stays (s.opened link) link d.marks v.server mark (unconcerned link Responder mark ne) h.server_memory h.server;
      client_memory = h.client_memory;
      server_memory = h.server_memory;
      tracks = tracks_on s link d.marks mark v.lines v.awaited v.calls v.waiting (not_answered s link mark other) (not_settled s link mark other) leaves (not_given_up link mark ne) h.tracks;
    }

abbrev with_marks : List Mark → Drill → Drill
with_marks added d = record d { marks = d.marks ++ added }

pub all_elsewhere : (s : Setting) (link : ℕ) (d : Drill) (v : DrillLinkState) (added : List Mark) → AllByRecursion (λ (mark : Mark). client_of s (link_of mark) ≢ client_of s link) added → LinkStands s link d v → LinkStands s link (with_marks added d) v
all_elsewhere s link d v [] ne h = stands_by s link d (with_marks [] d) v (append-nil d.marks) refl (omega arith) h
all_elsewhere s link d v (mark ∷ added) ne h =
    stands_by s link (with_marks added (with_mark mark d)) (with_marks (mark ∷ added) d) v (sym (append_assoc d.marks (mark ∷ []) added)) refl (omega arith)
    (all_elsewhere s link (with_mark mark d) v added ne.1 (one_elsewhere s link d v mark ne.0 h))

own_apart : (s : Setting) (link other : ℕ) (added : List Mark) → client_of s other ≢ client_of s link → AllByRecursion (λ (mark : Mark). link_of mark ≡ other) added →
    AllByRecursion (λ (mark : Mark). client_of s (link_of mark) ≢ client_of s link) added
own_apart s link other [] ne own = tt
own_apart s link other (mark ∷ added) ne own = ((λ e. ne (ap (client_of s) (sym own.0) ∙ e)), own_apart s link other added ne own.1)

indices_apart : (link other : ℕ) → 1 ≤ link → 1 ≤ other → other ≢ link → link - 1 ≢ other - 1
indices_apart link other a b ne e = ne (omega (arith, a, b, e))

-- What is done on a link of another client leaves it: marks and pipes of the other are not its own.
pub stands_elsewhere : (s : Setting) (link other : ℕ) (old new : Drill) (v : DrillLinkState) → 1 ≤ other → client_of s other ≢ client_of s link → Extends other old new → LinkStands s link old v → LinkStands s link new v
stands_elsewhere s link other old new v first ne x h =
    stands_by s link (with_marks x.marks.added old) new v x.marks.is (x.pipes link (indices_apart link other h.first first (other_link s other link ne))) (let e = x.room in omega (arith, e))
    (all_elsewhere s link old v x.marks.added (own_apart s link other x.marks.added ne x.marks.own) h)

-- ---- The law

pub other_links_stand : OtherLinksStand
other_links_stand s link other old new v ne x h =
    stands_by s link (with_marks x.added old) new v x.marks (x.pipes link h.first (λ e. other_link s other link ne (sym e))) (let e = x.room in omega (arith, e))
    (all_elsewhere s link old v x.added (own_apart s link other x.added ne x.own) h)
