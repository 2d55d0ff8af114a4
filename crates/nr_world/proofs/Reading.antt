-- What is reported of a link.
use Rattle.std.specs.Prelude.{◌&&◌, not, is_none, is_some, IfSome, MatchOption}
use Rattle.std.proofs.Common.{◌≡◌, ◌≢◌, ℕ, ◌≤◌, ◌<◌, arith, Bool, true, false, List, [], ◌∷◌, length, Option, None, Some, inl, inr, refl, ap, sym, ◌∙◌}
use Rattle.nr_wire.specs.declared.hello.Side.TheVariants.{Initiator, Responder}
use Rattle.nr_reduce.specs.declared.mark.LinkParameters.{LinkParameters}
use Rattle.nr_reduce.specs.declared.mark.Mark.{Mark}
use Rattle.nr_reduce.specs.EndRules.{EndState}
use Rattle.nr_reduce.specs.ServerState.{ReadyCall, ServerState}
use Rattle.nr_reduce.specs.Served.{next_call}
use Rattle.nr_reduce.specs.Run.{end_of_side}
use Rattle.nr_responder.specs.ResponderState.{ResponderSide, end_of}
use Rattle.nr_responder.specs.Keeping.{KeepsEnd}
use Rattle.nr_responder.specs.Standing.{RepresentsServer}
use Rattle.nr_drill.specs.Drill.{Setting, Drill, Pipes, pipes_of, if_standing, waiting_call}
use Rattle.nr_drill.specs.Follows.{is_empty, is_still}
use Rattle.nr_world.specs.DrillLinkState.{DrillLinkState}
use Rattle.nr_world.specs.LinkStands.{LinkStands}

pub client_end_is : (s : Setting) (link : ℕ) (d : Drill) (v : DrillLinkState) → LinkStands s link d v → v.client.state.side.ended ≡ end_of_side (s.opened link) link Initiator d.marks
unfolding end_of_side
client_end_is s link d v h = h.client.1.keeps.kept.keeps.ended

server_kept_end : (o : LinkParameters) (link : ℕ) (run : List Mark) (v : ResponderSide) (h : RepresentsServer o link run v) → KeepsEnd o h.end h.input v → end_of v ≡ h.end.ended
server_kept_end o link run v h (inl live) = live.1.link.live ∙ sym live.0
server_kept_end o link run v h (inr over) = over.why

pub server_end_is : (s : Setting) (link : ℕ) (d : Drill) (v : DrillLinkState) → LinkStands s link d v → end_of v.server ≡ end_of_side (s.opened link) link Responder d.marks
unfolding end_of_side
server_end_is s link d v h =
    server_kept_end (s.opened link) link d.marks v.server h.server h.server.keeps ∙ ap (λ (e : EndState ServerState). e.ended) h.server.stands.keeps

-- ---- Whether anything moves

some_wait : (xs : List ℕ) (n : ℕ) → n ≡ length xs → 0 < n → xs ≢ []
some_wait xs n all some none = (let e : length xs ≡ 0 = ap length none in absurd (omega (arith, all, some, e)))

pub none_wait : (xs : List ℕ) (n : ℕ) → n ≡ length xs → n ≤ 0 → xs ≡ []
none_wait [] n all none = refl
none_wait (x ∷ xs) n all none = absurd (omega (arith, all, none))

filled : (xs : List ℕ) → xs ≢ [] → is_empty xs ≡ false
filled [] some = absurd (some refl)
filled (x ∷ xs) some = refl

still_as : (s : Setting) (link : ℕ) (d : Drill) (v : DrillLinkState) → LinkStands s link d v → (up down : Bool) → is_empty v.pipes.up ≡ up → is_empty v.pipes.down ≡ down →
    is_still s d link ≡ (up && (down && is_none (if_standing v.is_dropped (next_call (s.opened link) link d.marks))))
unfolding is_still waiting_call
still_as s link d v h up down up_is down_is =
    let pipes : pipes_of link d ≡ v.pipes = sym h.pipes in
    λ i. (ap (λ (p : Pipes). is_empty p.up) pipes ∙ up_is) i && ((ap (λ (p : Pipes). is_empty p.down) pipes ∙ down_is) i && is_none (if_standing (sym h.dropped i) (next_call (s.opened link) link d.marks)))

pub moves_up : (s : Setting) (link : ℕ) (d : Drill) (v : DrillLinkState) → LinkStands s link d v → (n : ℕ) → n ≡ length v.pipes.up → 0 < n → false ≡ is_still s d link
moves_up s link d v h n all some =
    sym (still_as s link d v h false (is_empty v.pipes.down) (filled v.pipes.up (some_wait v.pipes.up n all some)) refl)

pub moves_down : (s : Setting) (link : ℕ) (d : Drill) (v : DrillLinkState) → LinkStands s link d v → (n : ℕ) → v.pipes.up ≡ [] → n ≡ length v.pipes.down → 0 < n → false ≡ is_still s d link
moves_down s link d v h n up all some =
    sym (still_as s link d v h true false (ap is_empty up) (filled v.pipes.down (some_wait v.pipes.down n all some)))

pub still_dropped : (s : Setting) (link : ℕ) (d : Drill) (v : DrillLinkState) → LinkStands s link d v → v.pipes.up ≡ [] → v.pipes.down ≡ [] → v.is_dropped ≡ true → true ≡ is_still s d link
still_dropped s link d v h up down gone =
    sym (still_as s link d v h true true (ap is_empty up) (ap is_empty down) ∙ ap (λ (b : Bool). is_none (if_standing b (next_call (s.opened link) link d.marks))) gone)

abbrev pub IsNextOf : Option ReadyCall → ℕ → Type 0
IsNextOf next xid = IfSome next (λ r. xid ≡ r.xid) × (is_some next ≡ true)

same_call : (next : Option ReadyCall) (r : Option ℕ) → MatchOption r (next ≡ None) (IsNextOf next) → is_none next ≡ is_none r
same_call next None e = ap (λ (o : Option ReadyCall). is_none o) e
same_call None (Some xid) e = absurd (let no = e.1 in cc)
same_call (Some call) (Some xid) e = refl

pub still_by_call : (s : Setting) (link : ℕ) (d : Drill) (v : DrillLinkState) → LinkStands s link d v → v.pipes.up ≡ [] → v.pipes.down ≡ [] → v.is_dropped ≡ false → (r : Option ℕ) →
    MatchOption r (next_call (s.opened link) link d.marks ≡ None) (IsNextOf (next_call (s.opened link) link d.marks)) → is_none r ≡ is_still s d link
still_by_call s link d v h up down stands r e =
    sym (still_as s link d v h true true (ap is_empty up) (ap is_empty down) ∙ ap (λ (b : Bool). is_none (if_standing b (next_call (s.opened link) link d.marks))) stands
    ∙ same_call (next_call (s.opened link) link d.marks) r e)

pub none_by : (o : Option ℕ) (b : Bool) → is_some o ≡ not b → b ≡ is_none o
none_by None true e = refl
none_by None false e = absurd cc
none_by (Some n) true e = absurd cc
none_by (Some n) false e = refl
