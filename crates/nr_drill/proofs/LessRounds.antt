-- A drain ends, on links that run.
use Rattle.std.specs.Prelude.{◌-◌, ◌&&◌, ◌<◌, ◌≤◌, is_none, slice_get, slice_index_or, filter, sum_by}
use Rattle.std.specs.List.{list_all, AllByRecursion}
use Rattle.std.proofs.Common.{◌≡◌, ◌≢◌, ℕ, zero, suc, ◌+◌, ◌*◌, ◌⊎◌, inl, inr, arith, Bool, true, false, List, [], ◌∷◌, ◌++◌, length, map, take, drop, Option, None, Some, refl, sym, ap, subst, ◌∙◌, append-nil, append_assoc, length-append}
use Rattle.nr_wire.specs.declared.hello.Side.TheVariants.{Initiator, Responder}
use Rattle.nr_reduce.specs.declared.mark.Mark.{Mark}
use Rattle.nr_reduce.specs.declared.mark.LinkParameters.{LinkParameters}
use Rattle.nr_link.specs.declared.end.End.{End}
use Rattle.nr_link.specs.Frames.{frames_completed}
use Rattle.std.proofs.lemmas.List.{take_all}
use Rattle.nr_reduce.specs.ClientState.{ClientState, WaitingCall}
use Rattle.nr_reduce.specs.SubmitAnswer.{calls_to_resend}
use Rattle.nr_reduce.specs.Opening.{IsOpened}
use Rattle.nr_reduce.specs.OutcomesDue.{outcomes_due}
use Rattle.nr_reduce.specs.History.{CompletedCall, bytes_sent, bytes_received, is_dropped}
use Rattle.nr_reduce.specs.Events.{RunEvent}
use Rattle.nr_reduce.specs.EndRules.{EndState, end_state_after}
use Rattle.nr_reduce.specs.ServerState.{ReadyCall}
use Rattle.nr_reduce.specs.Client.{client_rules}
use Rattle.nr_reduce.specs.Server.{server_rules}
use Rattle.nr_reduce.specs.Run.{client, server, output_due, end_of_side}
use Rattle.nr_reduce.specs.Served.{next_call, first_ready}
use Rattle.nr_reduce.proofs.Steps.{client_one, server_one}
use Rattle.nr_drill.specs.Drill.{link_of, Setting, Drill, Pipes, empty_pipes, unwritten, pipes_of, settled, if_standing, waiting_call, resend_mark, after_feeding, after_resends, after_up, after_down, after_outcomes, after_done, after_dones, after_handing, after_execution, after_work, after_calls, after_all_up, after_all_work, after_all_down, after_moves, after_round}
use Rattle.nr_drill.specs.Follows.{is_empty, is_still, Drains}
use Rattle.nr_drill.specs.WorkLeft.{DrainStep, after_step, frame_len, is_send, send_bytes_left, work_left, stays, IsLess}
use Rattle.nr_drill.specs.WorkLeft.DrainStep.{AllUp, Work, AllDown}
use Rattle.nr_drill.specs.DrainSteps.{Moves}
use Rattle.nr_drill.specs.Drains.{IsRunning}
use Rattle.nr_drill.specs.Unnumbered.{Heard}
use Rattle.nr_drill.proofs.ByteDrills.{next_of_lem}
use Rattle.nr_drill.proofs.KeptReplies.{IsKnown}
use Rattle.nr_drill.proofs.Followed.{Extends, no_event, elsewhere, moves_adds}
use Rattle.nr_drill.proofs.Carried.{Carries, same_here, settled_same, dones_keep, carries_up, carries_work, carries_down, carries_elsewhere}
use Rattle.nr_drill.proofs.Lawful.{Keeps, NoneAgain, lawful_after_up, lawful_work, lawful_after_down}
use Rattle.nr_drill.proofs.LessWork.{same_due, work_less}
use Rattle.nr_drill.proofs.LessSteps.{running_keeps, running_carries}
use Rattle.nr_drill.proofs.LessUp.{up_less_lem}
use Rattle.nr_drill.proofs.LessDown.{down_less_lem, outcomes_leave}
use Rattle.nr_drill.proofs.Opening.{heard_by_lem}
use Rattle.nr_drill.proofs.DrainedSteps.{running_from, step_adds}

-- ===== the order

less_through : (a b c : List ℕ) → IsLess a b → IsLess b c → IsLess a c
less_through [] b c h g = absurd h
less_through (x ∷ a) [] c h g = absurd h
less_through (x ∷ a) (y ∷ b) [] h g = absurd g
less_through (x ∷ a) (y ∷ b) (z ∷ c) (inl lt) (inl also) = inl (omega (arith, lt, also))
less_through (x ∷ a) (y ∷ b) (z ∷ c) (inl lt) (inr (e, r)) = inl (omega (arith, lt, e))
less_through (x ∷ a) (y ∷ b) (z ∷ c) (inr (e, r)) (inl lt) = inl (omega (arith, lt, e))
less_through (x ∷ a) (y ∷ b) (z ∷ c) (inr (e, r)) (inr (f, q)) = inr (e ∙ f, less_through a b c r q)

-- no more than
abbrev NotMore : List ℕ → List ℕ → Type 0
NotMore new old = (new ≡ old) ⊎ IsLess new old

not_more_lem : (a b c : List ℕ) → NotMore a b → NotMore b c → NotMore a c
not_more_lem a b c (inl e) (inl f) = inl (e ∙ f)
not_more_lem a b c (inl e) (inr g) = inr (subst (λ (x : List ℕ). IsLess x c) (sym e) g)
not_more_lem a b c (inr h) (inl f) = inr (subst (λ (x : List ℕ). IsLess a x) f h)
not_more_lem a b c (inr h) (inr g) = inr (less_through a b c h g)

then_less : (a b c : List ℕ) → NotMore a b → IsLess b c → IsLess a c
then_less a b c (inl e) g = subst (λ (x : List ℕ). IsLess x c) (sym e) g
then_less a b c (inr h) g = less_through a b c h g

less_then : (a b c : List ℕ) → IsLess a b → NotMore b c → IsLess a c
less_then a b c h (inl f) = subst (λ (x : List ℕ). IsLess a x) f h
less_then a b c h (inr g) = less_through a b c h g

less_front : (a b x y : List ℕ) → IsLess a b → IsLess (a ++ x) (b ++ y)
less_front [] b x y h = absurd h
less_front (n ∷ a) [] x y h = absurd h
less_front (n ∷ a) (m ∷ b) x y (inl lt) = inl lt
less_front (n ∷ a) (m ∷ b) x y (inr (e, r)) = inr (e, less_front a b x y r)

less_behind : (a x y : List ℕ) → IsLess x y → IsLess (a ++ x) (a ++ y)
less_behind [] x y h = h
less_behind (n ∷ a) x y h = inr (refl, less_behind a x y h)

-- ===== lists of as many numbers, by this order

heads : (n : ℕ) (P : List ℕ → Type 0) → ((x : List ℕ) → length x ≡ suc n → ((y : List ℕ) → length y ≡ suc n → IsLess y x → P y) → P x) →
    ((Q : List ℕ → Type 0) → ((x : List ℕ) → length x ≡ n → ((y : List ℕ) → length y ≡ n → IsLess y x → Q y) → Q x) → (x : List ℕ) → length x ≡ n → Q x) →
    (b a : ℕ) → a < b → (x : List ℕ) → length x ≡ n → P (a ∷ x)
heads n P step ind zero a lt x e = absurd (omega (arith, lt))
heads n P step ind (suc b) a lt x e =
    ind (λ (xs : List ℕ). P (a ∷ xs)) (λ xs exs rec. step (a ∷ xs) (omega (arith, exs)) (λ y ey less. by (heads n P step ind b) xs rec y ey less)) x e
  where
    by : ((c : ℕ) → c < b → (ys : List ℕ) → length ys ≡ n → P (c ∷ ys)) → (xs : List ℕ) → ((ys : List ℕ) → length ys ≡ n → IsLess ys xs → P (a ∷ ys)) →
        (y : List ℕ) → length y ≡ suc n → IsLess y (a ∷ xs) → P y
    by smaller xs rec [] ey less = absurd less
    by smaller xs rec (c ∷ ys) ey (inl below) = smaller c (omega (arith, below, lt)) ys (omega (arith, ey))
    by smaller xs rec (c ∷ ys) ey (inr (same, r)) = subst (λ (k : ℕ). P (k ∷ ys)) (sym same) (rec ys (omega (arith, ey)) r)

pub by_less : (n : ℕ) (P : List ℕ → Type 0) → ((x : List ℕ) → length x ≡ n → ((y : List ℕ) → length y ≡ n → IsLess y x → P y) → P x) → (x : List ℕ) → length x ≡ n → P x
by_less zero P step [] e = step [] e (λ y ey less. none y less)
  where
    none : (y : List ℕ) → IsLess y [] → P y
    none [] less = absurd less
    none (b ∷ y) less = absurd less
by_less zero P step (a ∷ x) e = absurd (omega (arith, e))
by_less (suc n) P step [] e = absurd (omega (arith, e))
by_less (suc n) P step (a ∷ x) e = heads n P step (by_less n) (suc a) a (omega arith) x (omega (arith, e))

-- ===== what is done on another link leaves the work of a link

ends_elsewhere : (o : LinkParameters) (link other : ℕ) (run added : List Mark) → other ≢ link → AllByRecursion (λ (mark : Mark). link_of mark ≡ other) added →
    (client o link (run ++ added) ≡ client o link run) × (server o link (run ++ added) ≡ server o link run) × (output_due o link Initiator (run ++ added) ≡ output_due o link Initiator run)
ends_elsewhere o link other run [] ne own =
    (ap (λ (r : List Mark). client o link r) (append-nil run), ap (λ (r : List Mark). server o link r) (append-nil run), ap (λ (r : List Mark). output_due o link Initiator r) (append-nil run))
ends_elsewhere o link other run (mark ∷ added) ne own =
    let from : link_of mark ≢ link = (λ same. ne (sym own.0 ∙ same)) in
    let rest = ends_elsewhere o link other (run ++ mark ∷ []) added ne own.1 in
    let shift = sym (append_assoc run (mark ∷ []) added) in (
      ap (λ (r : List Mark). client o link r) shift ∙ rest.0 ∙ client_one o link run mark ∙ ap (λ (es : List RunEvent). end_state_after (client_rules o) (client o link run) es) (no_event link Initiator run mark from),
      ap (λ (r : List Mark). server o link r) shift ∙ rest.1 ∙ server_one o link run mark ∙ ap (λ (es : List RunEvent). end_state_after (server_rules o) (server o link run) es) (no_event link Responder run mark from),
      ap (λ (r : List Mark). output_due o link Initiator r) shift ∙ rest.2 ∙ same_due o link run mark [] (no_event link Initiator run mark from) refl,
    )

record LeftAlone (s : Setting) (link : ℕ) (old new : Drill) : Type 0 where
  client_is : client (s.opened link) link new.marks ≡ client (s.opened link) link old.marks
  server_is : server (s.opened link) link new.marks ≡ server (s.opened link) link old.marks
  due : output_due (s.opened link) link Initiator new.marks ≡ output_due (s.opened link) link Initiator old.marks
  sent : bytes_sent link Initiator new.marks ≡ bytes_sent link Initiator old.marks
  got : bytes_received link Responder new.marks ≡ bytes_received link Responder old.marks
  pipes : pipes_of link new ≡ pipes_of link old
  dropped : is_dropped link new.marks ≡ is_dropped link old.marks

left_alone_lem : (s : Setting) (link other : ℕ) (old new : Drill) → other ≢ link → link - 1 ≢ other - 1 → Extends other old new → LeftAlone s link old new
left_alone_lem s link other old new ne apart x =
    let o = s.opened link in
    let ends = ends_elsewhere o link other old.marks x.marks.added ne x.marks.own in
    let same = same_here link other old.marks x.marks.added ne x.marks.own in
    let is = x.marks.is in
    record {
      client_is = ap (λ (r : List Mark). client o link r) is ∙ ends.0;
      server_is = ap (λ (r : List Mark). server o link r) is ∙ ends.1;
      due = ap (λ (r : List Mark). output_due o link Initiator r) is ∙ ends.2;
      sent = ap (λ (r : List Mark). bytes_sent link Initiator r) is ∙ same.sent Initiator;
      got = ap (λ (r : List Mark). bytes_received link Responder r) is ∙ same.received Responder;
      pipes = x.pipes link apart;
      dropped = ap (λ (r : List Mark). is_dropped link r) is ∙ same.dropped;
    }

same_left_lem : (s : Setting) (link : ℕ) (old new : Drill) → LeftAlone s link old new → work_left s new link ≡ work_left s old link
unfolding work_left send_bytes_left end_of_side unwritten
same_left_lem s link old new a = λ i.
    (stays (a.client_is i).ended + stays (a.server_is i).ended)
    ∷ length (a.client_is i).state.waiting
    ∷ sum_by frame_len (filter is_send (frames_completed Initiator (a.got i) ((a.pipes i).up ++ drop (length (a.sent i)) (a.due i))))
    ∷ length (a.server_is i).state.reads
    ∷ length (a.server_is i).state.ready
    ∷ length (a.pipes i).down
    ∷ length (a.pipes i).up
    ∷ []

same_still : (s : Setting) (link : ℕ) (old new : Drill) → LeftAlone s link old new → is_still s new link ≡ is_still s old link
unfolding is_still waiting_call next_call
same_still s link old new a = λ i.
    is_empty (a.pipes i).up && (is_empty (a.pipes i).down && is_none (if_standing (a.dropped i) (first_ready (a.server_is i).state.ready (a.server_is i).ended)))

-- ===== the steps of a link

-- a drill on which a link runs, and of which is known what each step keeps
abbrev Good : Setting → ℕ → Drill → Type 0
Good s link d = IsRunning s link d × IsKnown s.server d

step_keeps : (s : Setting) (link : ℕ) (step : DrainStep) (d : Drill) → IsOpened (s.opened link) → Keeps s link d → Keeps s link (after_step s link step d)
step_keeps s link AllUp d numbers h = lawful_after_up s link (length (pipes_of link d).up) d h
step_keeps s link Work d numbers h = lawful_work s link d h
step_keeps s link AllDown d numbers h = lawful_after_down s link (length (pipes_of link d).down) d numbers h

step_carries : (s : Setting) (link : ℕ) (step : DrainStep) (d : Drill) → Keeps s link d → Carries link d → Carries link (after_step s link step d)
step_carries s link AllUp d h c = carries_up s link (length (pipes_of link d).up) d h c
step_carries s link Work d h c = carries_work s link d c
step_carries s link AllDown d h c = carries_down s link (length (pipes_of link d).down) d h c

running_heard : (s : Setting) (link : ℕ) (d : Drill) → IsRunning s link d → Heard (s.opened link) link d.marks
running_heard s link d r = record { client = r.client_heard; server = r.server_heard; number = r.number }

step_runs : (s : Setting) (link : ℕ) (step : DrainStep) (d : Drill) → IsOpened (s.opened link) → IsRunning s link d → IsRunning s link (after_step s link step d)
step_runs s link step d numbers r =
    let h = running_keeps s link d r in
    running_from s link (after_step s link step d) (step_keeps s link step d numbers h) (step_carries s link step d h (running_carries s link d r))
    (heard_by_lem (s.opened link) link link d (after_step s link step d) (step_adds s link step d) (running_heard s link d r))

other_runs : (s : Setting) (link other : ℕ) (old new : Drill) → other ≢ link → link - 1 ≢ other - 1 → Extends other old new → IsRunning s link old → IsRunning s link new
other_runs s link other old new ne apart x r =
    let h = running_keeps s link old r in
    let same = elsewhere (s.opened link) link other old.marks new.marks ne x.marks in
    running_from s link new (same.lawful h.0, same.written h.0 h.1, ap (λ (k : EndState ClientState). calls_to_resend k) same.same_client ∙ h.2) (carries_elsewhere link other old new ne apart x (running_carries s link old r))
    (heard_by_lem (s.opened link) link other old new x (running_heard s link old r))

-- What is asked of a link: it was opened in range, steps of it keep what is known, and a call that waits is executed, or refused as old.
pub record Fits (s : Setting) (link : ℕ) : Type 0 where
  pub numbers : IsOpened (s.opened link)
  pub keeps : (step : DrainStep) (d : Drill) → IsRunning s link d → IsKnown s.server d → IsKnown s.server (after_step s link step d)
  pub answers : (d : Drill) (call : ReadyCall) → IsRunning s link d → IsKnown s.server d → waiting_call s link d.marks ≡ Some call → (after_work s link d).marks ≢ d.marks

good_step : (s : Setting) (link : ℕ) → Fits s link → (step : DrainStep) (d : Drill) → Good s link d → Good s link (after_step s link step d)
good_step s link f step d g = (step_runs s link step d f.numbers g.0, f.keeps step d g.0 g.1)

idle_up : (s : Setting) (link : ℕ) (d : Drill) → IsRunning s link d → (pipes_of link d).up ≡ [] → after_all_up s link d ≡ d
unfolding after_up
idle_up s link d r none =
    let up = (pipes_of link d).up in
    let n = length up in
    let rest : Pipes = record (pipes_of link d) { up = drop n up } in
    let nothing : take n up ≡ [] = take_all n up (omega arith) ∙ none in
    ap (λ (xs : List ℕ). settled s link (after_feeding link Responder xs rest d)) nothing ∙ settled_same s link d (running_keeps s link d r).1

up_not_more : (s : Setting) (link : ℕ) (d : Drill) → IsRunning s link d → NotMore (work_left s (after_all_up s link d) link) (work_left s d link)
up_not_more s link d r = by (pipes_of link d).up refl
  where
    by : (xs : List ℕ) → (pipes_of link d).up ≡ xs → NotMore (work_left s (after_all_up s link d) link) (work_left s d link)
    by [] e = inl (ap (λ (x : Drill). work_left s x link) (idle_up s link d r e))
    by (b ∷ xs) e = inr (up_less_lem s link d (running_keeps s link d r) r.room r.server_heard (λ none. some b xs (sym e ∙ none)))
      where
        some : (b : ℕ) (xs : List ℕ) → b ∷ xs ≡ [] → ⊥
        some b xs x = absurd cc

dones_pipes : (s : Setting) (link n : ℕ) (d : Drill) → (after_dones s link n d).pipes ≡ d.pipes
unfolding after_done
dones_pipes s link zero d = refl
dones_pipes s link (suc n) d = dones_pipes s link n (after_done s link d) ∙ by (slice_get (outcomes_due (s.opened link) link d.marks) 0)
  where
    by : (c : Option CompletedCall) → (after_handing link c d).pipes ≡ d.pipes
    by None = refl
    by (Some c) = refl

outcomes_left : (s : Setting) (link : ℕ) (d : Drill) → Keeps s link d → work_left s (settled s link (after_outcomes s link d)) link ≡ work_left s d link
unfolding after_outcomes work_left send_bytes_left end_of_side
outcomes_left s link d h =
    let o = s.opened link in
    let n = length (outcomes_due o link d.marks) in
    let mid = after_dones s link n d in
    let kept = dones_keep s link n d h in
    let leaves = outcomes_leave s o link d in
    let pipes = ap (λ (ps : List Pipes). slice_index_or ps (link - 1) empty_pipes) (dones_pipes s link n d) in
    ap (λ (x : Drill). work_left s x link) (settled_same s link mid kept.1)
    ∙ (λ i. (stays (leaves.client_end i) + stays (leaves.server_end i))
    ∷ length (leaves.waits i)
    ∷ sum_by frame_len (filter is_send (frames_completed Initiator (leaves.got i) ((pipes i).up ++ (kept.1.client ∙ sym h.1.client) i)))
    ∷ length (leaves.reads i)
    ∷ length (leaves.ready i)
    ∷ length (pipes i).down
    ∷ length (pipes i).up
    ∷ [])

none_again : (s : Setting) (link : ℕ) (d : Drill) → NoneAgain (s.opened link) link d.marks → after_resends s link d ≡ d
unfolding after_resends
none_again s link d none =
    ap (λ (ws : List WaitingCall). record d { marks = d.marks ++ map (resend_mark link) ws }) none ∙ ap (λ (run : List Mark). record d { marks = run }) (append-nil d.marks)

nothing_down : (s : Setting) (link : ℕ) (d : Drill) → IsRunning s link d → (pipes_of link d).down ≡ [] → after_all_down s link d ≡ settled s link (after_outcomes s link d)
unfolding after_down
nothing_down s link d r none =
    let down = (pipes_of link d).down in
    let n = length down in
    let rest : Pipes = record (pipes_of link d) { down = drop n down } in
    let nothing : take n down ≡ [] = take_all n down (omega arith) ∙ none in
    ap (λ (xs : List ℕ). settled s link (after_outcomes s link (after_resends s link (after_feeding link Initiator xs rest d)))) nothing
    ∙ ap (λ (x : Drill). settled s link (after_outcomes s link x)) (none_again s link d (running_keeps s link d r).2)

idle_down : (s : Setting) (link : ℕ) (d : Drill) → IsRunning s link d → (pipes_of link d).down ≡ [] → work_left s (after_all_down s link d) link ≡ work_left s d link
idle_down s link d r none = ap (λ (x : Drill). work_left s x link) (nothing_down s link d r none) ∙ outcomes_left s link d (running_keeps s link d r)

down_not_more : (s : Setting) (link : ℕ) → Fits s link → (d : Drill) → Good s link d → NotMore (work_left s (after_all_down s link d) link) (work_left s d link)
down_not_more s link f d g = by (pipes_of link d).down refl
  where
    by : (xs : List ℕ) → (pipes_of link d).down ≡ xs → NotMore (work_left s (after_all_down s link d) link) (work_left s d link)
    by [] e = inl (idle_down s link d g.0 e)
    by (b ∷ xs) e = inr (down_less_lem s link d f.numbers (running_keeps s link d g.0) (running_carries s link d g.0) g.0.client_heard (λ none. some b xs (sym e ∙ none)) (f.keeps AllDown d g.0 g.1).bytes.typed.typed)
      where
        some : (b : ℕ) (xs : List ℕ) → b ∷ xs ≡ [] → ⊥
        some b xs x = absurd cc

-- calls

work_idle : (s : Setting) (link : ℕ) (d : Drill) → waiting_call s link d.marks ≡ None → after_work s link d ≡ d
unfolding after_work
work_idle s link d e = ap (λ (c : Option ReadyCall). after_execution s link c d) e

work_of : (s : Setting) (link : ℕ) → Fits s link → (d : Drill) (call : ReadyCall) → Good s link d → waiting_call s link d.marks ≡ Some call → IsLess (work_left s (after_work s link d) link) (work_left s d link)
work_of s link f d call g e = work_less s link d (running_keeps s link d g.0) g.0.room (f.answers d call g.0 g.1 e)

work_not_more : (s : Setting) (link : ℕ) → Fits s link → (d : Drill) → Good s link d → NotMore (work_left s (after_work s link d) link) (work_left s d link)
work_not_more s link f d g = by (waiting_call s link d.marks) refl
  where
    by : (c : Option ReadyCall) → waiting_call s link d.marks ≡ c → NotMore (work_left s (after_work s link d) link) (work_left s d link)
    by None e = inl (ap (λ (x : Drill). work_left s x link) (work_idle s link d e))
    by (Some call) e = inr (work_of s link f d call g e)

calls_good : (s : Setting) (link : ℕ) → Fits s link → (n : ℕ) (d : Drill) → Good s link d → Good s link (after_calls s link n d)
calls_good s link f zero d g = g
calls_good s link f (suc n) d g = calls_good s link f n (after_work s link d) (good_step s link f Work d g)

calls_not_more : (s : Setting) (link : ℕ) → Fits s link → (n : ℕ) (d : Drill) → Good s link d → NotMore (work_left s (after_calls s link n d) link) (work_left s d link)
calls_not_more s link f zero d g = inl refl
calls_not_more s link f (suc n) d g =
    not_more_lem (work_left s (after_calls s link (suc n) d) link) (work_left s (after_work s link d) link) (work_left s d link)
    (calls_not_more s link f n (after_work s link d) (good_step s link f Work d g)) (work_not_more s link f d g)

calls_idle : (s : Setting) (link n : ℕ) (d : Drill) → waiting_call s link d.marks ≡ None → after_calls s link n d ≡ d
calls_idle s link zero d e = refl
calls_idle s link (suc n) d e = ap (λ (x : Drill). after_calls s link n x) (work_idle s link d e) ∙ calls_idle s link n d e

calls_less : (s : Setting) (link : ℕ) → Fits s link → (n : ℕ) (d : Drill) (call : ReadyCall) → 0 < n → Good s link d → waiting_call s link d.marks ≡ Some call → IsLess (work_left s (after_calls s link n d) link) (work_left s d link)
calls_less s link f zero d call some g e = absurd (omega (arith, some))
calls_less s link f (suc n) d call some g e =
    then_less (work_left s (after_calls s link (suc n) d) link) (work_left s (after_work s link d) link) (work_left s d link)
    (calls_not_more s link f n (after_work s link d) (good_step s link f Work d g)) (work_of s link f d call g e)

some_ready : (s : Setting) (link : ℕ) (d : Drill) (call : ReadyCall) → waiting_call s link d.marks ≡ Some call → 0 < length (server (s.opened link) link d.marks).state.ready
unfolding waiting_call next_call
some_ready s link d call e =
    let server_is = server (s.opened link) link d.marks in
    by server_is.state.ready server_is.ended (next_of_lem (is_dropped link d.marks) call (first_ready server_is.state.ready server_is.ended) e)
  where
    by : (ready : List ReadyCall) (ended : Option End) → first_ready ready ended ≡ Some call → 0 < length ready
    by ready (Some end) e = absurd cc
    by [] None e = absurd cc
    by (r ∷ ready) None e = omega arith

-- ===== all up, all calls, all down

moves_good : (s : Setting) (link : ℕ) → Fits s link → (d : Drill) → Good s link d → Good s link (after_moves s link d)
unfolding after_moves after_all_work
moves_good s link f d g =
    let one = after_all_up s link d in
    let n = length (server (s.opened link) link one.marks).state.ready in
    good_step s link f AllDown (after_calls s link n one) (calls_good s link f n one (good_step s link f AllUp d g))

moves_not_more : (s : Setting) (link : ℕ) → Fits s link → (d : Drill) → Good s link d → NotMore (work_left s (after_moves s link d) link) (work_left s d link)
unfolding after_moves after_all_work
moves_not_more s link f d g =
    let one = after_all_up s link d in
    let n = length (server (s.opened link) link one.marks).state.ready in
    let two = after_calls s link n one in
    let g_one = good_step s link f AllUp d g in
    not_more_lem (work_left s (after_all_down s link two) link) (work_left s two link) (work_left s d link) (down_not_more s link f two (calls_good s link f n one g_one))
    (not_more_lem (work_left s two link) (work_left s one link) (work_left s d link) (calls_not_more s link f n one g_one) (up_not_more s link d g.0))

still_cases : (up down : List ℕ) (c : Option ReadyCall) → (is_empty up && (is_empty down && is_none c)) ≡ false →
    (up ≢ []) ⊎ ((up ≡ []) × (((call : ReadyCall) × (c ≡ Some call)) ⊎ ((c ≡ None) × (down ≢ []))))
still_cases (b ∷ up) down c e = inl (λ none. absurd cc)
still_cases [] down (Some call) e = inr (refl, inl (call, refl))
still_cases [] [] None e = absurd cc
still_cases [] (b ∷ down) None e = inr (refl, inr (refl, λ none. absurd cc))

-- if something moves on the link
moves_less : (s : Setting) (link : ℕ) → Fits s link → (d : Drill) → Good s link d → is_still s d link ≡ false → IsLess (work_left s (after_moves s link d) link) (work_left s d link)
unfolding after_moves after_all_work is_still
moves_less s link f d g e = by (still_cases (pipes_of link d).up (pipes_of link d).down (waiting_call s link d.marks) e)
  where
    ready_after : Drill → ℕ
    ready_after x = length (server (s.opened link) link x.marks).state.ready

    one : Drill
    one = after_all_up s link d

    -- what an up that moves nothing leaves, goes on
    Goal : Drill → Type 0
    Goal x = IsLess (work_left s (after_all_down s link (after_calls s link (ready_after x) x)) link) (work_left s d link)

    idle : (pipes_of link d).up ≡ [] → Goal d → Goal one
    idle none goal = subst Goal (sym (idle_up s link d g.0 none)) goal

    by : ((pipes_of link d).up ≢ []) ⊎ (((pipes_of link d).up ≡ []) × (((call : ReadyCall) × (waiting_call s link d.marks ≡ Some call)) ⊎ ((waiting_call s link d.marks ≡ None) × ((pipes_of link d).down ≢ [])))) → Goal one
    by (inl some) =
        let two = after_calls s link (ready_after one) one in
        let g_one = good_step s link f AllUp d g in
        then_less (work_left s (after_all_down s link two) link) (work_left s one link) (work_left s d link)
        (not_more_lem (work_left s (after_all_down s link two) link) (work_left s two link) (work_left s one link) (down_not_more s link f two (calls_good s link f (ready_after one) one g_one)) (calls_not_more s link f (ready_after one) one g_one))
        (up_less_lem s link d (running_keeps s link d g.0) g.0.room g.0.server_heard some)
    by (inr (none, inl (call, is))) =
        let two = after_calls s link (ready_after d) d in
        idle none
        (then_less (work_left s (after_all_down s link two) link) (work_left s two link) (work_left s d link) (down_not_more s link f two (calls_good s link f (ready_after d) d g))
        (calls_less s link f (ready_after d) d call (some_ready s link d call is) g is))
    by (inr (none, inr (waits, some))) =
        idle none
        (subst (λ (x : Drill). IsLess (work_left s (after_all_down s link x) link) (work_left s d link)) (sym (calls_idle s link (ready_after d) d waits))
        (down_less_lem s link d f.numbers (running_keeps s link d g.0) (running_carries s link d g.0) g.0.client_heard some (f.keeps AllDown d g.0 g.1).bytes.typed.typed))

-- ===== a round

-- links from 1 on, no two of which are the same
abbrev pub AreApart : List ℕ → Type 0
AreApart [] = Unit {0}
AreApart (l ∷ links) = (1 ≤ l) × AllByRecursion (λ (k : ℕ). (1 ≤ k) × (k ≢ l)) links × AreApart links

abbrev pub AllRun : Setting → List ℕ → Drill → Type 0
AllRun s links d = AllByRecursion (λ (l : ℕ). IsRunning s l d) links

-- the work that is left on these links
abbrev pub all_left : Setting → List ℕ → Drill → List ℕ
all_left s [] d = []
all_left s (l ∷ links) d = work_left s d l ++ all_left s links d

apart_pipes : (a b : ℕ) → 1 ≤ a → 1 ≤ b → a ≢ b → a - 1 ≢ b - 1
apart_pipes a b one also ne = λ same. ne (let x = one in let y = also in let z = same in omega (arith, x, y, z))

alone_through : (s : Setting) (link : ℕ) (a b c : Drill) → LeftAlone s link a b → LeftAlone s link b c → LeftAlone s link a c
alone_through s link a b c x y = record {
  client_is = y.client_is ∙ x.client_is;
  server_is = y.server_is ∙ x.server_is;
  due = y.due ∙ x.due;
  sent = y.sent ∙ x.sent;
  got = y.got ∙ x.got;
  pipes = y.pipes ∙ x.pipes;
  dropped = y.dropped ∙ x.dropped;
}

moves_leave : (s : Setting) (link l : ℕ) (d : Drill) → 1 ≤ link → 1 ≤ l → l ≢ link → LeftAlone s link d (after_moves s l d)
moves_leave s link l d one some ne = left_alone_lem s link l d (after_moves s l d) ne (λ same. apart_pipes l link some one ne (sym same)) (moves_adds s l d)

round_leaves : (s : Setting) (link : ℕ) (links : List ℕ) (d : Drill) → 1 ≤ link → AllByRecursion (λ (k : ℕ). (1 ≤ k) × (k ≢ link)) links → LeftAlone s link d (after_round s links d)
round_leaves s link [] d one others = record { client_is = refl; server_is = refl; due = refl; sent = refl; got = refl; pipes = refl; dropped = refl }
round_leaves s link (l ∷ links) d one others =
    alone_through s link d (after_moves s l d) (after_round s links (after_moves s l d)) (moves_leave s link l d one others.0.0 others.0.1) (round_leaves s link links (after_moves s l d) one others.1)

all_same : (s : Setting) (l : ℕ) (links : List ℕ) (d : Drill) → 1 ≤ l → AllByRecursion (λ (k : ℕ). (1 ≤ k) × (k ≢ l)) links →
    (all_left s links (after_moves s l d) ≡ all_left s links d) × (list_all (is_still s (after_moves s l d)) links ≡ list_all (is_still s d) links)
all_same s l [] d one others = (refl, refl)
all_same s l (k ∷ links) d one others =
    let a = moves_leave s k l d others.0.0 one (λ same. others.0.1 (sym same)) in
    let rest = all_same s l links d one others.1 in
    ((λ i. same_left_lem s k d (after_moves s l d) a i ++ rest.0 i), (λ i. same_still s k d (after_moves s l d) a i && rest.1 i))

others_run : (s : Setting) (l : ℕ) (links : List ℕ) (d : Drill) → 1 ≤ l → AllByRecursion (λ (k : ℕ). (1 ≤ k) × (k ≢ l)) links → AllRun s links d → AllRun s links (after_moves s l d)
others_run s l [] d one others r = tt
others_run s l (k ∷ links) d one others r = (
  other_runs s k l d (after_moves s l d) (λ same. others.0.1 (sym same)) (apart_pipes k l others.0.0 one others.0.1) (moves_adds s l d) r.0,
  others_run s l links d one others.1 r.1,
)

-- the links of a round still run after it, and what is known is kept
record RoundGood (s : Setting) (links : List ℕ) (new : Drill) : Type 0 where
  run : AllRun s links new
  known : IsKnown s.server new

round_runs : (s : Setting) (link : ℕ) (links : List ℕ) (d : Drill) → 1 ≤ link → AllByRecursion (λ (k : ℕ). (1 ≤ k) × (k ≢ link)) links → IsRunning s link d → IsRunning s link (after_round s links d)
round_runs s link [] d one others r = r
round_runs s link (l ∷ links) d one others r =
    round_runs s link links (after_moves s l d) one others.1
    (other_runs s link l d (after_moves s l d) others.0.1 (λ same. apart_pipes l link others.0.0 one others.0.1 (sym same)) (moves_adds s l d) r)

abbrev pub AllFit : Setting → List ℕ → Type 0
AllFit s links = AllByRecursion (Fits s) links

round_good : (s : Setting) (links : List ℕ) → AllFit s links → (d : Drill) → AreApart links → AllRun s links d → IsKnown s.server d → RoundGood s links (after_round s links d)
round_good s [] fits d apart r t = record { run = tt; known = t }
round_good s (l ∷ links) fits d apart r t =
    let mid = after_moves s l d in
    let g = moves_good s l fits.0 d (r.0, t) in
    let rest = round_good s links fits.1 mid apart.2 (others_run s l links d apart.0 apart.1 r.1) g.1 in
    record { run = (round_runs s l links mid apart.0 apart.1 g.0, rest.run); known = rest.known }

not_all : (a b : Bool) → a && b ≡ false → (a ≡ false) ⊎ (b ≡ false)
not_all true b e = inr e
not_all false b e = inl refl

both_lists : (a b x y : List ℕ) → NotMore a b → NotMore x y → NotMore (a ++ x) (b ++ y)
both_lists a b x y (inr h) f = inr (less_front a b x y h)
both_lists a b x y (inl e) (inl f) = inl (λ i. e i ++ f i)
both_lists a b x y (inl e) (inr g) = inr (subst (λ (z : List ℕ). IsLess (z ++ x) (b ++ y)) (sym e) (less_behind b x y g))

later_list : (a b x y : List ℕ) → NotMore a b → IsLess x y → IsLess (a ++ x) (b ++ y)
later_list a b x y (inr h) g = less_front a b x y h
later_list a b x y (inl e) g = subst (λ (z : List ℕ). IsLess (z ++ x) (b ++ y)) (sym e) (less_behind b x y g)

record RoundLess (s : Setting) (links : List ℕ) (d new : Drill) : Type 0 where
  not_more : NotMore (all_left s links new) (all_left s links d)
  less : list_all (is_still s d) links ≡ false → IsLess (all_left s links new) (all_left s links d)

round_less : (s : Setting) (links : List ℕ) → AllFit s links → (d : Drill) → AreApart links → AllRun s links d → IsKnown s.server d → RoundLess s links d (after_round s links d)
round_less s [] fits d apart r t = record { not_more = inl refl; less = λ e. absurd (wrong e) }
  where
    wrong : true ≡ false → ⊥
    wrong e = absurd cc
round_less s (l ∷ links) fits d apart r t =
    let mid = after_moves s l d in
    let g = moves_good s l fits.0 d (r.0, t) in
    by (round_less s links fits.1 mid apart.2 (others_run s l links d apart.0 apart.1 r.1) g.1)
  where
    mid : Drill
    mid = after_moves s l d

    new : Drill
    new = after_round s links mid

    own : work_left s new l ≡ work_left s mid l
    own = same_left_lem s l mid new (round_leaves s l links mid apart.0 apart.1)

    same : (all_left s links mid ≡ all_left s links d) × (list_all (is_still s mid) links ≡ list_all (is_still s d) links)
    same = all_same s l links d apart.0 apart.1

    front : NotMore (work_left s new l) (work_left s d l)
    front = not_more_lem (work_left s new l) (work_left s mid l) (work_left s d l) (inl own) (moves_not_more s l fits.0 d (r.0, t))

    by : RoundLess s links mid new → RoundLess s (l ∷ links) d new
    by rest = record {
      not_more = both_lists (work_left s new l) (work_left s d l) (all_left s links new) (all_left s links d) front (subst (λ (x : List ℕ). NotMore (all_left s links new) x) same.0 rest.not_more);
      less = λ e. which (not_all (is_still s d l) (list_all (is_still s d) links) e);
    }
      where
        which : (is_still s d l ≡ false) ⊎ (list_all (is_still s d) links ≡ false) → IsLess (all_left s (l ∷ links) new) (all_left s (l ∷ links) d)
        which (inl moves) =
            less_front (work_left s new l) (work_left s d l) (all_left s links new) (all_left s links d)
            (subst (λ (x : List ℕ). IsLess x (work_left s d l)) (sym own) (moves_less s l fits.0 d (r.0, t) moves))
        which (inr later) =
            later_list (work_left s new l) (work_left s d l) (all_left s links new) (all_left s links d) front
            (subst (λ (x : List ℕ). IsLess (all_left s links new) x) same.0 (rest.less (same.1 ∙ later)))

-- ===== a drain ends

seven : (s : Setting) (link : ℕ) (d : Drill) → length (work_left s d link) ≡ 7
unfolding work_left
seven s link d = refl

all_long : (s : Setting) (links : List ℕ) (d : Drill) → length (all_left s links d) ≡ 7 * length links
all_long s [] d = refl
all_long s (l ∷ links) d = omega (arith, length-append (work_left s d l) (all_left s links d), seven s l d, all_long s links d)

Ends : Setting → List ℕ → Drill → Type 0
Ends s links d = (rounds : ℕ) × (new : Drill) × Drains s links rounds d new

-- If the server has a reply to each call that waits, and steps keep what is known: a number of rounds, and nothing moves on any of the links.
pub drain_ends : (s : Setting) (links : List ℕ) → AreApart links → AllFit s links → (d : Drill) → AllRun s links d → IsKnown s.server d → (rounds : ℕ) × (new : Drill) × Drains s links rounds d new
unfolding Ends
drain_ends s links apart fits d r t = by_less (7 * length links) P step (all_left s links d) (all_long s links d) d refl r t
  where
    P : List ℕ → Type 0
    P x = (d : Drill) → all_left s links d ≡ x → AllRun s links d → IsKnown s.server d → Ends s links d

    step : (x : List ℕ) → length x ≡ 7 * length links → ((y : List ℕ) → length y ≡ 7 * length links → IsLess y x → P y) → P x
    step x long less d is r t = by (list_all (is_still s d) links) refl
      where
        by : (b : Bool) → list_all (is_still s d) links ≡ b → Ends s links d
        by true e = (zero, d, (e, refl))
        by false e =
            let new = after_round s links d in
            let good = round_good s links fits d apart r t in
            let fewer = (round_less s links fits d apart r t).less e in
            let rest = less (all_left s links new) (all_long s links new) (subst (λ (y : List ℕ). IsLess (all_left s links new) y) is fewer) new refl good.run good.known in
            (suc rest.0, rest.1, (e, rest.2))

-- ===== if no outcome is due, a step that adds a mark moves something

idle_all : (s : Setting) (link : ℕ) (d : Drill) → IsRunning s link d → outcomes_due (s.opened link) link d.marks ≡ [] → (pipes_of link d).down ≡ [] → after_all_down s link d ≡ d
unfolding after_outcomes
idle_all s link d r due none =
    nothing_down s link d r none ∙ ap (λ (cs : List CompletedCall). settled s link (after_dones s link (length cs) d)) due ∙ settled_same s link d (running_keeps s link d r).1

pub moves_if : (s : Setting) (link : ℕ) (step : DrainStep) (d : Drill) → IsRunning s link d → outcomes_due (s.opened link) link d.marks ≡ [] → (after_step s link step d).marks ≢ d.marks → Moves s link step d
moves_if s link AllUp d r due moved = λ none. moved (ap (λ (x : Drill). x.marks) (idle_up s link d r none))
moves_if s link Work d r due moved = moved
moves_if s link AllDown d r due moved = λ none. moved (ap (λ (x : Drill). x.marks) (idle_all s link d r due none))
