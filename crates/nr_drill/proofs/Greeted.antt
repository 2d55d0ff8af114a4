-- A client that received a frame and hasn't ended has its server's hello: the first frame is that (RFC 5044 section 7.1).
use Rattle.std.proofs.Common.{◌≡◌, ◌≢◌, ℕ, ◌+◌, Bool, true, false, cond, eqb, eqb-true, ◌&&◌, List, [], ◌∷◌, ◌++◌, length, map, Option, None, Some, Result, Ok, Err, refl, sym, ap, subst, ◌∙◌, append_assoc, append-nil}
use Rattle.nr_wire.specs.declared.hello.Side.TheVariants.{Initiator, Responder}
use Rattle.nr_link.specs.declared.end.End.{End}
use Rattle.nr_wire.specs.Segment.{Segment}
use Rattle.nr_wire.specs.Stream.{split}
use Rattle.nr_link.specs.ReceiveState.{ReadRequest, message_completed, read_request_of}
use Rattle.nr_link.specs.Frames.{Frame, frames_from, frames_of, frames_completed, is_hello}
use Rattle.nr_reduce.specs.declared.mark.Mark.{Mark}
use Rattle.nr_reduce.specs.declared.mark.Mark.TheVariants as marks
use Rattle.nr_reduce.specs.declared.mark.LinkParameters.{LinkParameters}
use Rattle.nr_reduce.specs.History.{fed_at, bytes_received}
use Rattle.nr_reduce.specs.Events.{RunEvent, if_own, events_at}
use Rattle.nr_reduce.specs.Events.RunEvent.{FrameReceived, CallSubmitted, MemoryRevoked, CallExecuted, QueueWritten, ServerTold}
use Rattle.nr_reduce.specs.EndRules.{EndState, next_end_state, next_end_state_by, next_end_state_in, end_state_after}
use Rattle.nr_reduce.specs.ClientState.{ClientState}
use Rattle.nr_reduce.specs.Client.{client_rules, client_segment, client_end, client_state_after, with_hello, with_message, with_request, with_segment, due_with_response}
use Rattle.nr_reduce.specs.Run.{client}
use Rattle.nr_reduce.proofs.Standing.{itself, received_one}
use Rattle.nr_reduce.proofs.Steps.{client_one, ended_stays}
use Rattle.nr_drill.proofs.LessFrames.{frames_one}

-- ===== a hello stays

segment_hello : (k : ClientState) (f : Frame) (r : Result Segment ℕ) → (with_segment k f r).has_hello ≡ k.has_hello
segment_hello k f (Err reason) = refl
segment_hello k f (Ok s) = by (message_completed k.received s) (read_request_of s)
  where
    by : (m : Option (List ℕ)) (q : Option ReadRequest) → (with_request (with_message k f.end m) (due_with_response k f s) q).has_hello ≡ k.has_hello
    by None None = refl
    by None (Some q) = refl
    by (Some m) None = refl
    by (Some m) (Some q) = refl

abbrev Has : ClientState → Type 0
Has k = k.has_hello ≡ true

event_hello : (o : LinkParameters) (k : ClientState) (e : RunEvent) → Has k → Has (client_state_after o k e)
unfolding client_state_after
event_hello o k (FrameReceived f) h = by (is_hello f)
  where
    by : (b : Bool) → Has (cond b (with_hello o k f) (with_segment k f (client_segment k f)))
    by true = refl
    by false = segment_hello k f (client_segment k f) ∙ h
event_hello o k (CallSubmitted place a) h = h
event_hello o k (MemoryRevoked place xid) h = h
event_hello o k (CallExecuted call) h = h
event_hello o k (QueueWritten taken) h = h
event_hello o k (ServerTold what) h = h

next_hello : (o : LinkParameters) (k : ClientState) (ended : Option End) (e : RunEvent) → Has k → Has (next_end_state_in (client_rules o) k e ended).state
next_hello o k (Some end) e h = h
next_hello o k None e h = by (client_end k e)
  where
    by : (why : Option End) → Has (next_end_state_by (client_rules o) k e why).state
    by None = event_hello o k e h
    by (Some end) = h

all_hello : (o : LinkParameters) (r : EndState ClientState) (es : List RunEvent) → Has r.state → Has (end_state_after (client_rules o) r es).state
all_hello o r [] h = h
all_hello o r (e ∷ es) h = all_hello o (next_end_state (client_rules o) r e) es (next_hello o r.state r.ended e h)

-- ===== the first frame is one

abbrev HasUnlessEnded : EndState ClientState → Type 0
HasUnlessEnded r = r.ended ≡ None → Has r.state

ended_then : (o : LinkParameters) (r : EndState ClientState) (end : End) (es : List RunEvent) → r.ended ≡ Some end → HasUnlessEnded (end_state_after (client_rules o) r es)
ended_then o r end es is none =
    let stays = ended_stays (client_rules o) r.state end es in
    absurd (let wrong : Some end ≡ None = sym (ap (λ (x : EndState ClientState). x.ended) stays.0) ∙ ap (λ (e : Option End). (end_state_after (client_rules o) (record { state = r.state; ended = e }) es).ended) (sym is) ∙ none in cc)

first_event : (o : LinkParameters) (k : ClientState) (f : Frame) → is_hello f ≡ true → HasUnlessEnded (next_end_state_by (client_rules o) k (FrameReceived f) (client_end k (FrameReceived f)))
unfolding client_state_after
first_event o k f first = by (client_end k (FrameReceived f))
  where
    by : (why : Option End) → HasUnlessEnded (next_end_state_by (client_rules o) k (FrameReceived f) why)
    by None stays = ap (λ (b : Bool). (cond b (with_hello o k f) (with_segment k f (client_segment k f))).has_hello) first
    by (Some end) stays = absurd cc

first_frame : (o : LinkParameters) (r : EndState ClientState) (f : Frame) (es : List RunEvent) → is_hello f ≡ true → HasUnlessEnded (end_state_after (client_rules o) r (FrameReceived f ∷ es))
first_frame o r f es first stays = by r.ended refl
  where
    next : EndState ClientState
    next = next_end_state (client_rules o) r (FrameReceived f)

    by_next : (e : Option End) → next.ended ≡ e → Has (end_state_after (client_rules o) next es).state
    by_next None is = all_hello o next es (has is)
      where
        has : next.ended ≡ None → Has next.state
        has = from r.ended
          where
            from : (ended : Option End) → HasUnlessEnded (next_end_state_in (client_rules o) r.state (FrameReceived f) ended)
            from None none = first_event o r.state f first none
            from (Some end) none = absurd cc
    by_next (Some end) is = ended_then o next end es is stays

    by : (e : Option End) → r.ended ≡ e → Has (end_state_after (client_rules o) next es).state
    by e is = by_next next.ended refl

-- the first frame of a stream begins it
head_first : (bytes : List (List ℕ)) (f : Frame) (fs : List Frame) → frames_from 0 bytes ≡ f ∷ fs → is_hello f ≡ true
head_first [] f fs e = absurd cc
head_first (b ∷ bytes) f fs e = (let is : record { at = 0; end = 0 + length b; bytes = b } ≡ f = cc in ap is_hello (sym is))

stream_first : (stream : List ℕ) (f : Frame) (fs : List Frame) → frames_of Responder stream ≡ f ∷ fs → is_hello f ≡ true
unfolding frames_of
stream_first stream f fs e = head_first _ f fs e

-- ===== a mark more

abbrev GreetedOnce : LinkParameters → ℕ → List Mark → Type 0
GreetedOnce o link run = frames_of Responder (bytes_received link Initiator run) ≢ [] → HasUnlessEnded (client o link run)

-- one that is fed to the client
fed_once : (o : LinkParameters) (link : ℕ) (run : List Mark) (bytes : List ℕ) → GreetedOnce o link run → GreetedOnce o link (run ++ marks.Fed link Initiator bytes ∷ [])
fed_once o link run bytes h some = by (frames_of Responder old) refl
  where
    mark : Mark
    mark = marks.Fed link Initiator bytes

    old : List ℕ
    old = bytes_received link Initiator run

    new : List Frame
    new = frames_completed Responder old bytes

    events_are : events_at link Initiator run mark ≡ map FrameReceived new
    events_are = ap (λ (b : Bool). if_own (b && true) (map FrameReceived new)) (itself link)

    received : bytes_received link Initiator (run ++ mark ∷ []) ≡ old ++ bytes
    received = received_one link Initiator run mark ∙ ap (λ (b : Bool). old ++ cond (b && true) bytes []) (itself link)

    state : client o link (run ++ mark ∷ []) ≡ end_state_after (client_rules o) (client o link run) (map FrameReceived new)
    state = client_one o link run mark ∙ ap (λ (es : List RunEvent). end_state_after (client_rules o) (client o link run) es) events_are

    all : frames_of Responder (old ++ bytes) ≡ frames_of Responder old ++ new
    all = frames_one Responder old bytes

    not_none : frames_of Responder (old ++ bytes) ≢ []
    not_none = subst (λ (xs : List ℕ). frames_of Responder xs ≢ []) received some

    begins : (fs : List Frame) → frames_of Responder old ≡ [] → new ≡ fs → HasUnlessEnded (end_state_after (client_rules o) (client o link run) (map FrameReceived fs))
    begins [] none is = absurd (not_none (all ∙ ap (λ (xs : List Frame). xs ++ new) none ∙ is))
    begins (f ∷ fs) none is = first_frame o (client o link run) f (map FrameReceived fs) (stream_first (old ++ bytes) f fs (all ∙ ap (λ (xs : List Frame). xs ++ new) none ∙ is))

    goes_on : (f : Frame) (fs : List Frame) → frames_of Responder old ≡ f ∷ fs → HasUnlessEnded (end_state_after (client_rules o) (client o link run) (map FrameReceived new))
    goes_on f fs is stays = by_end (client o link run).ended refl
      where
        heard : frames_of Responder old ≢ []
        heard none = absurd (let wrong : f ∷ fs ≡ [] = sym is ∙ none in cc)

        by_end : (e : Option End) → (client o link run).ended ≡ e → Has (end_state_after (client_rules o) (client o link run) (map FrameReceived new)).state
        by_end None live = all_hello o (client o link run) (map FrameReceived new) (h heard live)
        by_end (Some end) ended = ended_then o (client o link run) end (map FrameReceived new) ended stays

    by : (fs : List Frame) → frames_of Responder old ≡ fs → HasUnlessEnded (client o link (run ++ mark ∷ []))
    by [] none = subst HasUnlessEnded (sym state) (begins new none refl)
    by (f ∷ fs) is = subst HasUnlessEnded (sym state) (goes_on f fs is)

-- one that isn't: the client received nothing, and no event brings its hello or takes it
other_once : (o : LinkParameters) (link : ℕ) (run : List Mark) (mark : Mark) → fed_at link Initiator mark ≡ [] → GreetedOnce o link run → GreetedOnce o link (run ++ mark ∷ [])
other_once o link run mark none h some stays = by_end (client o link run).ended refl
  where
    same : bytes_received link Initiator (run ++ mark ∷ []) ≡ bytes_received link Initiator run
    same = received_one link Initiator run mark ∙ ap (λ (xs : List ℕ). bytes_received link Initiator run ++ xs) none ∙ append-nil (bytes_received link Initiator run)

    state : client o link (run ++ mark ∷ []) ≡ end_state_after (client_rules o) (client o link run) (events_at link Initiator run mark)
    state = client_one o link run mark

    by_end : (e : Option End) → (client o link run).ended ≡ e → Has (client o link (run ++ mark ∷ [])).state
    by_end None live =
        subst (λ (r : EndState ClientState). Has r.state) (sym state)
        (all_hello o (client o link run) (events_at link Initiator run mark) (h (subst (λ (xs : List ℕ). frames_of Responder xs ≢ []) same some) live))
    by_end (Some end) ended =
        subst (λ (r : EndState ClientState). Has r.state) (sym state)
        (ended_then o (client o link run) end (events_at link Initiator run mark) ended (ap (λ (r : EndState ClientState). r.ended) (sym state) ∙ stays))

once_mark : (o : LinkParameters) (link : ℕ) (run : List Mark) (mark : Mark) → GreetedOnce o link run → GreetedOnce o link (run ++ mark ∷ [])
once_mark o link run (marks.Fed l Initiator bytes) h = by (eqb l link) refl
  where
    by : (b : Bool) → eqb l link ≡ b → GreetedOnce o link (run ++ marks.Fed l Initiator bytes ∷ [])
    by true is = subst (λ (m : ℕ). GreetedOnce o link (run ++ marks.Fed m Initiator bytes ∷ [])) (sym (eqb-true l link is)) (fed_once o link run bytes h)
    by false is = other_once o link run (marks.Fed l Initiator bytes) (ap (λ (b : Bool). cond (b && true) bytes []) is) h
once_mark o link run (marks.Fed l Responder bytes) h = other_once o link run (marks.Fed l Responder bytes) (by (eqb l link)) h
  where
    by : (b : Bool) → cond (b && false) bytes [] ≡ []
    by true = refl
    by false = refl
once_mark o link run (marks.Submit l call form answer) h = other_once o link run (marks.Submit l call form answer) refl h
once_mark o link run (marks.Wrote l side bytes) h = other_once o link run (marks.Wrote l side bytes) refl h
once_mark o link run (marks.Execute l xid moment payload place reply) h = other_once o link run (marks.Execute l xid moment payload place reply) refl h
once_mark o link run (marks.Done l xid outcome) h = other_once o link run (marks.Done l xid outcome) refl h
once_mark o link run (marks.Lost l xid) h = other_once o link run (marks.Lost l xid) refl h
once_mark o link run (marks.Forget l xid) h = other_once o link run (marks.Forget l xid) refl h
once_mark o link run (marks.Revoke l xid bytes) h = other_once o link run (marks.Revoke l xid bytes) refl h
once_mark o link run (marks.Drop l) h = other_once o link run (marks.Drop l) refl h
once_mark o link run (marks.Told l what) h = other_once o link run (marks.Told l what) refl h

once_from : (o : LinkParameters) (link : ℕ) (before run : List Mark) → GreetedOnce o link before → GreetedOnce o link (before ++ run)
once_from o link before [] h = subst (GreetedOnce o link) (sym (append-nil before)) h
once_from o link before (mark ∷ run) h = subst (GreetedOnce o link) (append_assoc before (mark ∷ []) run) (once_from o link (before ++ mark ∷ []) run (once_mark o link before mark h))

none_came : (o : LinkParameters) (link : ℕ) → GreetedOnce o link []
unfolding bytes_received frames_of split
none_came o link some = absurd (some refl)

pub greeted_by_frames : (o : LinkParameters) (link : ℕ) (run : List Mark) → frames_of Responder (bytes_received link Initiator run) ≢ [] → (client o link run).ended ≡ None → (client o link run).state.has_hello ≡ true
greeted_by_frames o link run some stays = once_from o link [] run (none_came o link) some stays
