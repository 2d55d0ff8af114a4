-- Until a server has received its client's hello no call waits.
use Rattle.std.proofs.Common.{◌≡◌, ℕ, ◌&&◌, not, Bool, true, false, cond, eqb, List, [], ◌∷◌, ◌++◌, length, drop, map, Option, None, Some, refl, sym, ap, subst, ◌∙◌, append_assoc, append-nil}
use Rattle.std.specs.List.{filter, AllByRecursion}
use Rattle.std.proofs.lemmas.Bool.{eqb-true}
use Rattle.std.proofs.lemmas.Grind.{flat_map-append}
use Rattle.nr_wire.specs.declared.hello.Side.{Side}
use Rattle.nr_wire.specs.declared.hello.Side.TheVariants.{Initiator, Responder}
use Rattle.nr_wire.specs.declared.stream.Awaited.{Awaited}
use Rattle.nr_wire.specs.declared.stream.Awaited.TheVariants.{Hello as HelloFrom}
use Rattle.nr_wire.specs.Stream.{awaited_after}
use Rattle.nr_link.specs.Frames.{Frame, frames_from, frames_completed}
use Rattle.nr_link.specs.Input.{InputState, input_of, input_split}
use Rattle.nr_link.proofs.Inputs.{input_of_append, input_of_frames}
use Rattle.nr_reduce.specs.declared.call.Submission.TheVariants as submissions
use Rattle.nr_reduce.specs.declared.mark.Mark.{Mark}
use Rattle.nr_reduce.specs.declared.mark.Mark.TheVariants as marks
use Rattle.nr_reduce.specs.declared.mark.LinkParameters.{LinkParameters}
use Rattle.nr_reduce.specs.History.{bytes_received, fed_at, same_side}
use Rattle.nr_reduce.specs.Events.{RunEvent, if_own, events_at, events}
use Rattle.nr_reduce.specs.Events.RunEvent.{FrameReceived, CallSubmitted, MemoryRevoked, CallExecuted, QueueWritten, ServerTold}
use Rattle.nr_link.specs.declared.end.End.{End}
use Rattle.nr_reduce.specs.AtEachMark.{AtEachMark}
use Rattle.nr_reduce.specs.Matched.{IsPrefixOf}
use Rattle.nr_reduce.specs.Served.{IsExecuted, ServedMark, first_ready, next_call}
use Rattle.nr_reduce.specs.EndRules.{EndState, next_end_state, end_state_after, output_for, output_for_by, output_for_in, output_for_all}
use Rattle.nr_reduce.specs.ServerState.{PendingCall, ReadyCall, ServerState}
use Rattle.nr_reduce.specs.Server.{server_rules, server_end, server_output, server_state_after, old_end}
use Rattle.nr_reduce.specs.Run.{server, output_due}
use Rattle.nr_reduce.specs.StandingLaws.{IsUnasked, NoCallBeforeHello, NothingDueBeforeHello}
use Rattle.nr_reduce.proofs.Steps.{server_one, output_due_down_one}
use Rattle.nr_reduce.proofs.Standing.{received_one}
use Rattle.nr_reduce.specs.declared.mark.Told.TheVariants.{Granted, Old}

-- ---- A stream of which a hello is awaited has no complete frame

no_frames : (a : Awaited) (frames : List (List ℕ)) (peer : Side) → awaited_after a frames ≡ HelloFrom peer → (a ≡ HelloFrom peer) × (frames ≡ [])
no_frames a [] peer e = (e, refl)
no_frames a (x ∷ frames) peer e = absurd cc

record IsEarlier (peer : Side) (x y : List ℕ) : Type 0 where
  before : (input_of peer x).awaited ≡ HelloFrom peer
  none : frames_completed peer x y ≡ []

earlier : (peer : Side) (x y : List ℕ) → (input_of peer (x ++ y)).awaited ≡ HelloFrom peer → IsEarlier peer x y
earlier peer x y e =
    let p = no_frames (input_of peer x).awaited (input_split (input_of peer x) y).frames peer (ap (λ (i : InputState). i.awaited) (sym (input_of_append peer x y)) ∙ e) in
    record {
      before = p.0;
      none = sym (input_of_frames peer x y) ∙ ap (λ (frames : List (List ℕ)). frames_from (input_of peer x).place frames) p.1;
    }

-- ---- Events without a frame

abbrev IsQuiet : EndState ServerState → Type 0
IsQuiet e = (e.ended ≡ None) × IsUnasked e.state

abbrev BringsNoFrame : RunEvent → Type 0
BringsNoFrame (FrameReceived f) = ⊥
BringsNoFrame (CallSubmitted place a) = Unit {0}
BringsNoFrame (MemoryRevoked place xid) = Unit {0}
BringsNoFrame (CallExecuted call) = Unit {0}
BringsNoFrame (QueueWritten taken) = Unit {0}
BringsNoFrame (ServerTold what) = Unit {0}

unasked_after : (opened : LinkParameters) (k : ServerState) (event : RunEvent) → BringsNoFrame event → IsUnasked k → IsUnasked (server_state_after opened k event)
unfolding server_state_after
unasked_after opened k (FrameReceived f) none u = absurd none
unasked_after opened k (CallSubmitted place a) none u = u
unasked_after opened k (MemoryRevoked place xid) none u = u
unasked_after opened k (CallExecuted call) none u = record {
  received = u.received;
  calls = ap (λ (calls : List PendingCall). filter (λ c. not (eqb c.xid call.xid)) calls) u.calls;
  reads = u.reads;
  ready = ap (λ (ready : List ReadyCall). drop 1 ready) u.ready;
  regions = u.regions;
}
unasked_after opened k (QueueWritten taken) none u = record { received = u.received; calls = u.calls; reads = u.reads; ready = u.ready; regions = u.regions }
unasked_after opened k (ServerTold what) none u = record { received = u.received; calls = u.calls; reads = u.reads; ready = u.ready; regions = u.regions }

lives_after : (opened : LinkParameters) (k : ServerState) (event : RunEvent) → BringsNoFrame event → IsUnasked k → server_end opened k event ≡ None
unfolding server_end
lives_after opened k (FrameReceived f) none u = absurd none
lives_after opened k (CallSubmitted place a) none u = refl
lives_after opened k (MemoryRevoked place xid) none u = refl
lives_after opened k (CallExecuted call) none u = refl
lives_after opened k (QueueWritten taken) none u = refl
lives_after opened k (ServerTold (Granted credits)) none u = refl
lives_after opened k (ServerTold (Old xid at)) none u = ap (old_end at) u.ready

quiet_event : (opened : LinkParameters) (e : EndState ServerState) (event : RunEvent) → BringsNoFrame event → IsQuiet e → IsQuiet (next_end_state (server_rules opened) e event)
quiet_event opened e event none q =
    let lives = lives_after opened e.state event none q.1 in
    let rules = server_rules opened in
    let step : next_end_state rules e event ≡ record { state = server_state_after opened e.state event; ended = None } =
    ap (λ (x : Option Rattle.nr_link.specs.declared.end.End.End). Rattle.nr_reduce.specs.EndRules.next_end_state_in rules e.state event x) q.0
    ∙ ap (λ (x : Option Rattle.nr_link.specs.declared.end.End.End). Rattle.nr_reduce.specs.EndRules.next_end_state_by rules e.state event x) lives in
    subst IsQuiet (sym step) (refl, unasked_after opened e.state event none q.1)

quiet_events : (opened : LinkParameters) (e : EndState ServerState) (es : List RunEvent) → AllByRecursion BringsNoFrame es → IsQuiet e → IsQuiet (end_state_after (server_rules opened) e es)
quiet_events opened e [] none q = q
quiet_events opened e (event ∷ es) none q = quiet_events opened (next_end_state (server_rules opened) e event) es none.1 (quiet_event opened e event none.0 q)

-- ---- The events of a mark

own_none : (b : Bool) (es : List RunEvent) → AllByRecursion BringsNoFrame es → AllByRecursion BringsNoFrame (if_own b es)
own_none true es h = h
own_none false es h = tt

mark_brings : (link : ℕ) (run : List Mark) (mark : Mark) → frames_completed Initiator (bytes_received link Responder run) (fed_at link Responder mark) ≡ [] → AllByRecursion BringsNoFrame (events_at link Responder run mark)
mark_brings link run (marks.Fed l s bytes) none = by (eqb l link && same_side s Responder) none
  where
    by : (b : Bool) → frames_completed Initiator (bytes_received link Responder run) (cond b bytes []) ≡ [] →
        AllByRecursion BringsNoFrame (if_own b (map FrameReceived (frames_completed Initiator (bytes_received link Responder run) bytes)))
    by true e = subst (λ (frames : List Frame). AllByRecursion BringsNoFrame (map FrameReceived frames)) (sym e) tt
    by false e = tt
mark_brings link run (marks.Wrote l s bytes) none = own_none (eqb l link && same_side s Responder) (QueueWritten (length bytes) ∷ []) (tt, tt)
mark_brings link run (marks.Submit l call form (submissions.Accepted xid)) none = own_none (eqb l link && same_side Initiator Responder) _ (tt, tt)
mark_brings link run (marks.Submit l call form (submissions.Refused why)) none = tt
mark_brings link run (marks.Submit l call form submissions.Dropped) none = tt
mark_brings link run (marks.Execute l xid moment payload place reply) none = own_none (eqb l link && same_side Responder Responder) _ (tt, tt)
mark_brings link run (marks.Revoke l xid bytes) none = own_none (eqb l link && same_side Initiator Responder) _ (tt, tt)
mark_brings link run (marks.Done l xid outcome) none = tt
mark_brings link run (marks.Lost l xid) none = tt
mark_brings link run (marks.Forget l xid) none = tt
mark_brings link run (marks.Drop l) none = tt
mark_brings link run (marks.Told l what) none = own_none (eqb l link && same_side Responder Responder) _ (tt, tt)

quiet_mark : (opened : LinkParameters) (link : ℕ) (run : List Mark) (mark : Mark) → (input_of Initiator (bytes_received link Responder (run ++ mark ∷ []))).awaited ≡ HelloFrom Initiator →
    IsQuiet (server opened link run) → IsQuiet (server opened link (run ++ mark ∷ []))
quiet_mark opened link run mark e q =
    let p = earlier Initiator (bytes_received link Responder run) (fed_at link Responder mark) (ap (λ (stream : List ℕ). (input_of Initiator stream).awaited) (sym (received_one link Responder run mark)) ∙ e) in
    subst IsQuiet (sym (server_one opened link run mark)) (quiet_events opened (server opened link run) (events_at link Responder run mark) (mark_brings link run mark p.none) q)

received_parts : (link : ℕ) (side : Side) (run more : List Mark) → bytes_received link side (run ++ more) ≡ bytes_received link side run ++ bytes_received link side more
unfolding bytes_received
received_parts link side run more = flat_map-append (fed_at link side) run more

awaits_before : (link : ℕ) (run more : List Mark) → (input_of Initiator (bytes_received link Responder (run ++ more))).awaited ≡ HelloFrom Initiator → (input_of Initiator (bytes_received link Responder run)).awaited ≡ HelloFrom Initiator
awaits_before link run more e =
    (earlier Initiator (bytes_received link Responder run) (bytes_received link Responder more) (ap (λ (stream : List ℕ). (input_of Initiator stream).awaited) (sym (received_parts link Responder run more)) ∙ e)).before

quiet_from : (opened : LinkParameters) (link : ℕ) (before run : List Mark) → (input_of Initiator (bytes_received link Responder (before ++ run))).awaited ≡ HelloFrom Initiator →
    IsQuiet (server opened link before) → IsQuiet (server opened link (before ++ run))
quiet_from opened link before [] e q = subst (λ (run : List Mark). IsQuiet (server opened link run)) (sym (append-nil before)) q
quiet_from opened link before (mark ∷ run) e q =
    let same : (before ++ mark ∷ []) ++ run ≡ before ++ mark ∷ run = append_assoc before (mark ∷ []) run in
    let all : (input_of Initiator (bytes_received link Responder ((before ++ mark ∷ []) ++ run))).awaited ≡ HelloFrom Initiator = ap (λ (r : List Mark). (input_of Initiator (bytes_received link Responder r)).awaited) same ∙ e in
    subst (λ (r : List Mark). IsQuiet (server opened link r)) same
    (quiet_from opened link (before ++ mark ∷ []) run all (quiet_mark opened link before mark (awaits_before link (before ++ mark ∷ []) run all) q))

begins_quiet : (opened : LinkParameters) (link : ℕ) → IsQuiet (server opened link [])
unfolding server events
begins_quiet opened link = (refl, record { received = refl; calls = refl; reads = refl; ready = refl; regions = refl })

pub no_call_before_hello_lem : NoCallBeforeHello
no_call_before_hello_lem opened link run e = quiet_from opened link [] run e (begins_quiet opened link)

-- ---- Nothing is due

abbrev IsSilent : RunEvent → Type 0
IsSilent (FrameReceived f) = ⊥
IsSilent (CallSubmitted place a) = Unit {0}
IsSilent (MemoryRevoked place xid) = Unit {0}
IsSilent (CallExecuted call) = ⊥
IsSilent (QueueWritten taken) = Unit {0}
IsSilent (ServerTold what) = Unit {0}

brings_no_frame : (event : RunEvent) → IsSilent event → BringsNoFrame event
brings_no_frame (FrameReceived f) silent = silent
brings_no_frame (CallSubmitted place a) silent = tt
brings_no_frame (MemoryRevoked place xid) silent = tt
brings_no_frame (CallExecuted call) silent = tt
brings_no_frame (QueueWritten taken) silent = tt
brings_no_frame (ServerTold what) silent = tt

silent_output : (opened : LinkParameters) (k : ServerState) (event : RunEvent) → IsSilent event → server_output opened k event ≡ []
unfolding server_output
silent_output opened k (FrameReceived f) silent = absurd silent
silent_output opened k (CallSubmitted place a) silent = refl
silent_output opened k (MemoryRevoked place xid) silent = refl
silent_output opened k (CallExecuted call) silent = absurd silent
silent_output opened k (QueueWritten taken) silent = refl
silent_output opened k (ServerTold what) silent = refl

silent_event : (opened : LinkParameters) (e : EndState ServerState) (event : RunEvent) → IsSilent event → IsQuiet e → output_for (server_rules opened) e event ≡ []
silent_event opened e event silent q =
    ap (λ (x : Option End). output_for_in (server_rules opened) e.state event x) q.0
    ∙ ap (λ (x : Option End). output_for_by (server_rules opened) e.state event x) (lives_after opened e.state event (brings_no_frame event silent) q.1)
    ∙ silent_output opened e.state event silent

silent_events : (opened : LinkParameters) (e : EndState ServerState) (es : List RunEvent) → AllByRecursion IsSilent es → IsQuiet e → output_for_all (server_rules opened) e es ≡ []
silent_events opened e [] silent q = refl
silent_events opened e (event ∷ es) silent q =
    (λ i. silent_event opened e event silent.0 q i ++ output_for_all (server_rules opened) (next_end_state (server_rules opened) e event) es)
    ∙ silent_events opened (next_end_state (server_rules opened) e event) es silent.1 (quiet_event opened e event (brings_no_frame event silent.0) q)

-- no call is the next one
never_next : (opened : LinkParameters) (link : ℕ) (run : List Mark) (xid : ℕ) (payload : List ℕ) → IsQuiet (server opened link run) → IsExecuted opened link run xid payload → ⊥
unfolding next_call
never_next opened link run xid payload q h =
    let none : first_ready (server opened link run).state.ready (server opened link run).ended ≡ first_ready [] None = λ i. first_ready (q.1.ready i) (q.0 i) in
    let wrong : None ≡ Some h.call = sym none ∙ h.is_next in
    cc

own_silent : (b : Bool) (es : List RunEvent) → AllByRecursion IsSilent es → AllByRecursion IsSilent (if_own b es)
own_silent true es h = h
own_silent false es h = tt

mark_silent : (opened : LinkParameters) (link : ℕ) (run : List Mark) (mark : Mark) → frames_completed Initiator (bytes_received link Responder run) (fed_at link Responder mark) ≡ [] → IsQuiet (server opened link run) →
    ServedMark IsPrefixOf opened link run mark → AllByRecursion IsSilent (events_at link Responder run mark)
mark_silent opened link run (marks.Fed l s bytes) none q h = by (eqb l link && same_side s Responder) none
  where
    by : (b : Bool) → frames_completed Initiator (bytes_received link Responder run) (cond b bytes []) ≡ [] →
        AllByRecursion IsSilent (if_own b (map FrameReceived (frames_completed Initiator (bytes_received link Responder run) bytes)))
    by true e = subst (λ (frames : List Frame). AllByRecursion IsSilent (map FrameReceived frames)) (sym e) tt
    by false e = tt
mark_silent opened link run (marks.Wrote l s bytes) none q h = own_silent (eqb l link && same_side s Responder) (QueueWritten (length bytes) ∷ []) (tt, tt)
mark_silent opened link run (marks.Submit l call form (submissions.Accepted xid)) none q h = own_silent (eqb l link && same_side Initiator Responder) _ (tt, tt)
mark_silent opened link run (marks.Submit l call form (submissions.Refused why)) none q h = tt
mark_silent opened link run (marks.Submit l call form submissions.Dropped) none q h = tt
mark_silent opened link run (marks.Execute l xid moment payload place reply) none q h = by (eqb l link) refl
  where
    es : List RunEvent
    es = CallExecuted (record { xid = xid; moment = moment; payload = payload; place = place; reply = reply }) ∷ []

    by : (b : Bool) → eqb l link ≡ b → AllByRecursion IsSilent (if_own (eqb l link && true) es)
    by true e = absurd (never_next opened link run xid payload q (h (eqb-true l link e)))
    by false e = subst (λ (b : Bool). AllByRecursion IsSilent (if_own (b && true) es)) (sym e) tt
mark_silent opened link run (marks.Revoke l xid bytes) none q h = own_silent (eqb l link && same_side Initiator Responder) _ (tt, tt)
mark_silent opened link run (marks.Done l xid outcome) none q h = tt
mark_silent opened link run (marks.Lost l xid) none q h = tt
mark_silent opened link run (marks.Forget l xid) none q h = tt
mark_silent opened link run (marks.Drop l) none q h = tt
mark_silent opened link run (marks.Told l what) none q h = own_silent (eqb l link && same_side Responder Responder) _ (tt, tt)

due_from : (opened : LinkParameters) (link : ℕ) (before run : List Mark) → (input_of Initiator (bytes_received link Responder (before ++ run))).awaited ≡ HelloFrom Initiator →
    IsQuiet (server opened link before) → output_due opened link Responder before ≡ [] → AtEachMark (ServedMark IsPrefixOf opened link) before run → output_due opened link Responder (before ++ run) ≡ []
due_from opened link before [] e q due served = ap (λ (run : List Mark). output_due opened link Responder run) (append-nil before) ∙ due
due_from opened link before (mark ∷ run) e q due served =
    let same : (before ++ mark ∷ []) ++ run ≡ before ++ mark ∷ run = append_assoc before (mark ∷ []) run in
    let all : (input_of Initiator (bytes_received link Responder ((before ++ mark ∷ []) ++ run))).awaited ≡ HelloFrom Initiator = ap (λ (r : List Mark). (input_of Initiator (bytes_received link Responder r)).awaited) same ∙ e in
    let one : (input_of Initiator (bytes_received link Responder (before ++ mark ∷ []))).awaited ≡ HelloFrom Initiator = awaits_before link (before ++ mark ∷ []) run all in
    let p : IsEarlier Initiator (bytes_received link Responder before) (fed_at link Responder mark) =
    earlier Initiator (bytes_received link Responder before) (fed_at link Responder mark) (ap (λ (stream : List ℕ). (input_of Initiator stream).awaited) (sym (received_one link Responder before mark)) ∙ one) in
    let none : output_for_all (server_rules opened) (server opened link before) (events_at link Responder before mark) ≡ [] =
    silent_events opened (server opened link before) (events_at link Responder before mark) (mark_silent opened link before mark p.none q served.0) q in
    let due_one : output_due opened link Responder (before ++ mark ∷ []) ≡ [] = output_due_down_one opened link before mark ∙ (λ i. due i ++ none i) in
    ap (λ (r : List Mark). output_due opened link Responder r) (sym same) ∙ due_from opened link (before ++ mark ∷ []) run all (quiet_mark opened link before mark one q) due_one served.1

begins_silent : (opened : LinkParameters) (link : ℕ) → output_due opened link Responder [] ≡ []
unfolding output_due events
begins_silent opened link = refl

pub nothing_due_before_hello : NothingDueBeforeHello
nothing_due_before_hello opened link run e served = due_from opened link [] run e (begins_quiet opened link) (begins_silent opened link) served
