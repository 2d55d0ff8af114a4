-- What the server of a run wrote, and what its client received of it.
use Rattle.std.proofs.Common.{◌≡◌, ℕ, Bool, true, false, ◌&&◌, eqb, List, [], ◌∷◌, ◌++◌, length, map, Option, None, Some, refl, sym, ap, subst, arith, inl, inr, eqb-true}
use Rattle.nr_wire.specs.declared.hello.Side.TheVariants.{Initiator, Responder}
use Rattle.nr_wire.specs.declared.stream.Awaited.TheVariants.{Hello as HelloFrom}
use Rattle.nr_link.specs.declared.end.End.{End as Stop}
use Rattle.nr_link.specs.Frames.{Frame, frames_completed}
use Rattle.nr_reduce.specs.declared.call.Submission.TheVariants as submissions
use Rattle.nr_reduce.specs.declared.mark.Mark.{Mark}
use Rattle.nr_reduce.specs.declared.mark.Mark.TheVariants as marks
use Rattle.nr_reduce.specs.declared.mark.LinkParameters.{LinkParameters}
use Rattle.nr_reduce.specs.History.{bytes_received, same_side}
use Rattle.nr_reduce.specs.Matched.{Matched, IsPrefixOf}
use Rattle.nr_reduce.specs.Events.{events, events_at, if_own}
use Rattle.nr_reduce.specs.Events.RunEvent.{FrameReceived, CallSubmitted, MemoryRevoked, CallExecuted, QueueWritten, ServerTold}
use Rattle.nr_reduce.specs.EndRules.{EndState, end_state_after}
use Rattle.nr_reduce.specs.ServerState.{ServerState, ReadyCall}
use Rattle.nr_reduce.specs.Server.{server_rules, initial_server}
use Rattle.nr_reduce.specs.Run.{server, output_due}
use Rattle.nr_reduce.specs.Asked.{AskedSoFar}
use Rattle.nr_reduce.specs.Served.{ServedMark, ServedSoFar, next_call, first_ready}
use Rattle.nr_laws.specs.Typed.{TypedMark, IsTyped}
use Rattle.nr_laws.proofs.Flows.{flows_down}
use Rattle.nr_laws.proofs.EventOutputs.{GoesOn, Goes, each_preserves, nothing_preserves, FirstGood, along, places_after, whole_bytes}
use Rattle.nr_laws.proofs.Outputs.{Output, server_says, server_final_outputs}
use Rattle.nr_laws.proofs.Outputs.Output.{ASegment}
use Rattle.nr_laws.proofs.Brought.{AreFrom, Receives, receives}
use Rattle.nr_laws.proofs.ClientRun.{each_both}
use Rattle.nr_laws.proofs.ServerAlong.{ServerGood, ServerPlain, hello_preserves, outs_of, ServerTells, Shape}
use Rattle.nr_laws.proofs.ServerEvents.{server_step}
use Rattle.nr_laws.proofs.ExecutedCalls.{plain_came, server_receives_of}

record FirstReady (ready : List ReadyCall) (ended : Option Stop) (call : ReadyCall) : Type 0 where
  stays : ended ≡ None
  others : List ReadyCall
  is : ready ≡ call ∷ others

first_ready_lem : (ready : List ReadyCall) (ended : Option Stop) (call : ReadyCall) → first_ready ready ended ≡ Some call → FirstReady ready ended call
first_ready_lem ready (Some end) call e = absurd cc
first_ready_lem [] None call e = absurd cc
first_ready_lem (x ∷ ready) None call e = record { stays = refl; others = ready; is = (let s : Some x ≡ Some call = e in let t : x ≡ call = cc in ap (λ (y : ReadyCall). y ∷ ready) t) }

abbrev ServerMark : LinkParameters → ℕ → List Mark → Mark → Type 0
ServerMark opened link before mark = ServedMark IsPrefixOf opened link before mark × TypedMark before mark

first_good : (opened : LinkParameters) (link : ℕ) (before : List Mark) (mark : Mark) → ServerMark opened link before mark → FirstGood ServerPlain (server opened link before) (events_at link Responder before mark)
unfolding next_call
first_good opened link before (marks.Execute l xid moment payload place reply) h = by (eqb l link) refl
  where
    by : (b : Bool) → eqb l link ≡ b → FirstGood ServerPlain (server opened link before) (if_own (b && true) (CallExecuted (record { xid = xid; moment = moment; payload = payload; place = place; reply = reply }) ∷ []))
    by false is = tt
    by true is =
        let x = h.0 (eqb-true l link is) in
        let f = first_ready_lem (server opened link before).state.ready (server opened link before).ended x.call x.is_next in
        record { stays = f.stays; call = x.call; others = f.others; is_next = f.is; xid = x.own; payload = x.conveyed; bytes = h.1 }
first_good opened link before (marks.Submit l call form (submissions.Accepted xid)) h = by (eqb l link && false)
  where
    by : (b : Bool) → FirstGood ServerPlain (server opened link before) (if_own b (CallSubmitted (length (bytes_received link Responder before)) (record { xid = xid; call = call; form = form }) ∷ []))
    by true = tt
    by false = tt
first_good opened link before (marks.Submit l call form (submissions.Refused why)) h = tt
first_good opened link before (marks.Submit l call form submissions.Dropped) h = tt
first_good opened link before (marks.Fed l s bytes) h = by (eqb l link && same_side s Responder) (frames_completed Initiator (bytes_received link Responder before) bytes)
  where
    by : (b : Bool) (fs : List Frame) → FirstGood ServerPlain (server opened link before) (if_own b (map FrameReceived fs))
    by true [] = tt
    by true (f ∷ fs) = tt
    by false fs = tt
first_good opened link before (marks.Wrote l s bytes) h = by (eqb l link && same_side s Responder)
  where
    by : (b : Bool) → FirstGood ServerPlain (server opened link before) (if_own b (QueueWritten (length bytes) ∷ []))
    by true = tt
    by false = tt
first_good opened link before (marks.Revoke l xid bytes) h = by (eqb l link && false)
  where
    by : (b : Bool) → FirstGood ServerPlain (server opened link before) (if_own b (MemoryRevoked (length (bytes_received link Responder before)) xid ∷ []))
    by true = tt
    by false = tt
first_good opened link before (marks.Done l xid outcome) h = tt
first_good opened link before (marks.Lost l xid) h = tt
first_good opened link before (marks.Forget l xid) h = tt
first_good opened link before (marks.Drop l) h = tt
first_good opened link before (marks.Told l what) h = by (eqb l link && true)
  where
    by : (b : Bool) → FirstGood ServerPlain (server opened link before) (if_own b (ServerTold what ∷ []))
    by true = tt
    by false = tt

pub server_goes : (opened : LinkParameters) (link : ℕ) (run : List Mark) → IsTyped run → ServedSoFar opened link run → Goes (server_rules opened) ServerPlain (initial_server opened) link Responder run
unfolding server
server_goes opened link run typed served =
    each_preserves (server_rules opened) ServerPlain (λ r f h. tt) (initial_server opened) link Responder (ServerMark opened link) (first_good opened link) [] run typed
    (each_both (ServedMark IsPrefixOf opened link) TypedMark [] run served typed) (nothing_preserves (server_rules opened) ServerPlain (initial_server opened) link Responder)

tells_nothing : (opened : LinkParameters) → ServerTells opened [] 0 (initial_server opened) []
tells_nothing opened = record {
  state = refl;
  outs_are = refl;
  bytes = refl;
  begun = λ i. omega arith;
  fit = tt;
  shape = inl (refl, refl, refl, refl);
  none_begun = refl;
  said = λ xs s ys m e one. absurd (none_at xs s ys e);
}
  where
    none_at : (xs : List Output) (s : _) (ys : List Output) → [] ≡ xs ++ ASegment s ∷ ys → ⊥
    none_at [] s ys e = absurd cc
    none_at (x ∷ xs) s ys e = absurd cc

pub server_tells : (opened : LinkParameters) (link : ℕ) (run : List Mark) → IsTyped run → AskedSoFar opened link run → ServedSoFar opened link run → Matched link run
    → ServerTells opened (events link Responder run) (whole_bytes link Responder run) (server opened link run) (outs_of opened (events link Responder run))
unfolding server
server_tells opened link run typed asked served matched =
    let g = server_goes opened link run typed served in
    let r = server_receives_of opened link run typed asked matched in
    let es = events link Responder run in
    let goes : GoesOn (server_rules opened) ServerGood 0 (initial_server opened) es = hello_preserves opened 0 (initial_server opened) es r.came g.goes r.brings r.from (plain_came opened link run typed asked matched) in
    let t : ServerTells opened es (places_after 0 es) (end_state_after (server_rules opened) (initial_server opened) es) (outs_of opened es) =
    along (server_rules opened) (server_says opened) server_final_outputs ServerGood (ServerTells opened)
    (λ es place r outs e next good t. server_step opened es place r.state r.ended outs e next good t) [] 0 (initial_server opened) [] es goes (tells_nothing opened) in
    subst (λ (p : ℕ). ServerTells opened es p (server opened link run) (outs_of opened es)) g.place t

shape_from : (place : ℕ) (r : EndState ServerState) (outs : List Output) → Shape place r outs → AreFrom (HelloFrom Responder) outs
shape_from place r outs (inl h) = subst (λ (xs : List Output). AreFrom (HelloFrom Responder) xs) (sym h.1) tt
shape_from place r outs (inr h) = subst (λ (xs : List Output). AreFrom (HelloFrom Responder) xs) (sym h.1.2) (h.1.3, h.1.4)

pub client_receives_of : (opened : LinkParameters) (link : ℕ) (run : List Mark) → IsTyped run → AskedSoFar opened link run → ServedSoFar opened link run → Matched link run
    → Receives link Initiator run (outs_of opened (events link Responder run))
unfolding output_due
client_receives_of opened link run typed asked served matched =
    let t = server_tells opened link run typed asked served matched in
    let outs = outs_of opened (events link Responder run) in
    receives link Initiator run outs (shape_from (whole_bytes link Responder run) (server opened link run) outs t.shape)
    (subst (λ (xs : List ℕ). IsPrefixOf (bytes_received link Initiator run) xs) t.bytes (flows_down opened link run matched served))
