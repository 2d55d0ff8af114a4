-- On a matched link each side goes by what both agree on, from the other's hello on.
use Rattle.std.proofs.Common.{◌≡◌, ℕ, zero, suc, ◌≤◌, ◌<◌, Bool, true, false, cond, List, [], ◌∷◌, ◌++◌, length, Option, None, Some, refl, sym, ap, subst, ◌∙◌, arith, append-nil, length-append, eqb-true}
use Rattle.nr_wire.specs.declared.hello.Side.TheVariants.{Initiator, Responder}
use Rattle.nr_link.specs.declared.agreement.Agreement.{Agreement}
use Rattle.nr_link.specs.declared.end.End.{End as Stop}
use Rattle.nr_link.specs.Frames.{is_hello, Frame}
use Rattle.nr_reduce.specs.declared.mark.Mark.{Mark}
use Rattle.nr_reduce.specs.declared.mark.LinkParameters.{LinkParameters}
use Rattle.nr_reduce.specs.Events.{RunEvent, events}
use Rattle.nr_reduce.specs.Events.RunEvent.{FrameReceived, CallSubmitted, MemoryRevoked, CallExecuted, QueueWritten, ServerTold}
use Rattle.nr_reduce.specs.EndRules.{EndMachine, EndState, next_end_state_by, next_end_state_in}
use Rattle.nr_reduce.specs.ClientState.{ClientState}
use Rattle.nr_reduce.specs.Client.{client_segment, client_rules, client_end, client_state_after, initial_client, with_hello, with_segment, has_same_sizes}
use Rattle.nr_reduce.specs.ServerState.{ReadyCall, ServerState}
use Rattle.nr_reduce.specs.ServerFrames.{frame_effect}
use Rattle.nr_reduce.specs.Server.{server_rules, server_end, server_state_after, initial_server, with_effect, with_own_hello}
use Rattle.nr_reduce.specs.Hellos.{client_agreement, server_hello}
use Rattle.nr_reduce.specs.Run.{client, server}
use Rattle.nr_laws.specs.Typed.{IsTyped}
use Rattle.nr_laws.specs.MatchedSoFar.{MatchedSoFar}
use Rattle.nr_laws.specs.Agreed.{SidesAgree, ClientGoesByAgreement, ServerGoesByAgreement}
use Rattle.nr_laws.proofs.Basics.{above_zero}
use Rattle.nr_laws.proofs.Brought.{IsHelloFrame}
use Rattle.nr_laws.proofs.EventOutputs.{IsNext, GoesOn, along, place_after, places_after, outputs_by, outputs_in}
use Rattle.nr_laws.proofs.Outputs.{Output, effect_outputs, server_says, server_final_outputs}
use Rattle.nr_laws.proofs.Outputs.Output.{AHello}
use Rattle.nr_laws.proofs.ClientSays.{ClientGood}
use Rattle.nr_laws.proofs.ClientRun.{client_goes}
use Rattle.nr_laws.proofs.ServerAlong.{ServerPlain, outs_of}
use Rattle.nr_laws.proofs.ServerEnds.{hello_goes, stopped_as_old}
use Rattle.nr_reduce.specs.declared.mark.Told.{Told}
use Rattle.nr_reduce.proofs.Unresumed.{HasOpening, opening_segment, opening_after}
use Rattle.nr_laws.specs.EndCauses.{AgreesAgain}
use Rattle.nr_laws.proofs.SizesAgain.{hello_stays, hello_agrees}
use Rattle.nr_laws.proofs.ServerSide.{server_goes, client_receives_of}
use Rattle.nr_laws.proofs.FirstHellos.{first_hello, first_hello_is, first_of_server}
use Rattle.nr_laws.proofs.AgreedSizes.{matched_up, matched_down, matched_invalidates, up_limited, down_limited, client_agrees, server_agrees, segment_sizes, segment_hello}
use Rattle.nr_laws.proofs.MatchedHellos.{HearsHello, HearHello, FirstIs, first_part, first_more, brought_hello, heard_at, heard_along, server_hears}

some_place : (place : ℕ) → (place ≡ 0 → ⊥) → 0 < place
some_place zero h = absurd (h refl)
some_place (suc n) h = omega arith

-- ---- A server

abbrev ServerSized : LinkParameters → ServerState → Type 0
ServerSized opened k = (k.up_max ≡ matched_up opened) × (k.down_max ≡ matched_down opened) × (k.invalidates ≡ matched_invalidates opened)

record ServerMatched (opened : LinkParameters) (place : ℕ) (r : EndState ServerState) (outs : List Output) : Type 0 where
  first : place ≡ 0 → (outs ≡ []) × (r.ended ≡ None) × (r.state.ready ≡ [])
  greeted : 0 < place → 0 < length outs
  hello : FirstIs (first_hello opened Responder) outs
  sized : 0 < place → ServerSized opened r.state

server_later : (opened : LinkParameters) (place end : ℕ) (r t : EndState ServerState) (outs more : List Output) → 0 < place → 0 < end → t.state.up_max ≡ r.state.up_max → t.state.down_max ≡ r.state.down_max → t.state.invalidates ≡ r.state.invalidates → ServerMatched opened place r outs
    → ServerMatched opened end t (outs ++ more)
server_later opened place end r t outs more some later up down names h = record {
  first = λ e. absurd (omega (arith, e, later));
  greeted = λ e. omega (arith, h.greeted some, length-append outs more);
  hello = first_more (first_hello opened Responder) outs more (h.greeted some) h.hello;
  sized = λ e. (up ∙ (h.sized some).0, down ∙ (h.sized some).1, names ∙ (h.sized some).2);
}

server_quiet : (opened : LinkParameters) (place : ℕ) (r t : EndState ServerState) (outs : List Output) → t.ended ≡ r.ended → t.state.ready ≡ r.state.ready → t.state.up_max ≡ r.state.up_max → t.state.down_max ≡ r.state.down_max → t.state.invalidates ≡ r.state.invalidates → ServerMatched opened place r outs
    → ServerMatched opened place t (outs ++ [])
server_quiet opened place r t outs ended ready up down names h = subst (ServerMatched opened place t) (sym (append-nil outs)) (record {
  first = λ e. (let f = h.first e in (f.0, ended ∙ f.1, ready ∙ f.2));
  greeted = h.greeted;
  hello = h.hello;
  sized = λ e. (up ∙ (h.sized e).0, down ∙ (h.sized e).1, names ∙ (h.sized e).2);
})

server_greets : (opened : LinkParameters) (k : ServerState) (f : Frame) (outs : List Output) → 0 < f.end → f.bytes ≡ first_hello opened Initiator → outs ≡ []
    → ServerMatched opened f.end (record { state = with_own_hello opened k f; ended = None }) (outs ++ AHello (server_hello opened f) ∷ [])
server_greets opened k f outs some own none =
    let agreed = server_agrees opened f own in
    subst (λ (xs : List Output). ServerMatched opened f.end (record { state = with_own_hello opened k f; ended = None }) (xs ++ AHello (server_hello opened f) ∷ [])) (sym none) (record {
      first = λ e. absurd (omega (arith, e, some));
      greeted = λ e. omega arith;
      hello = first_of_server opened f own;
      sized = λ e. (ap (λ (a : Agreement). a.up) agreed, ap (λ (a : Agreement). a.down) agreed, ap (λ (a : Agreement). a.invalidates) agreed);
    })

server_frame : (opened : LinkParameters) (place : ℕ) (k : ServerState) (outs : List Output) (f : Frame) → IsNext place (FrameReceived f) → (is_hello f ≡ true → f.bytes ≡ first_hello opened Initiator) → ServerMatched opened place (record { state = k; ended = None }) outs
    → (o : Option Stop) → server_end opened k (FrameReceived f) ≡ o
    → ServerMatched opened f.end (next_end_state_by (server_rules opened) k (FrameReceived f) o) (outs ++ outputs_by (server_rules opened) (server_says opened) server_final_outputs k (FrameReceived f) o)
unfolding server_state_after server_says
server_frame opened place k outs f next hears h (Some end) stops = by (is_hello f) refl
  where
    by : (b : Bool) → is_hello f ≡ b → ServerMatched opened f.end (record { state = k; ended = Some end }) (outs ++ server_final_outputs end)
    by true is = absurd (let wrong : None ≡ Some end = sym (hello_goes opened k f is (subst (IsHelloFrame Initiator) (sym (hears is)) (first_hello_is opened Initiator))) ∙ stops in cc)
    by false is = server_later opened place f.end (record { state = k; ended = None }) (record { state = k; ended = Some end }) outs (server_final_outputs end)
        (let some = above_zero f.at is in let at = next.0 in omega (arith, some, at)) (let l = next.1 in omega (arith, l)) refl refl refl h
server_frame opened place k outs f next hears h None stays = by (is_hello f) refl
  where
    by : (b : Bool) → is_hello f ≡ b → ServerMatched opened f.end (record { state = cond b (with_own_hello opened k f) (with_effect k f (frame_effect k f)); ended = None }) (outs ++ cond b (AHello (server_hello opened f) ∷ []) (effect_outputs k (frame_effect k f)))
    by true is = server_greets opened k f outs (let l = next.1 in omega (arith, l)) (hears is) (h.first (sym next.0 ∙ eqb-true f.at 0 is)).0
    by false is = server_later opened place f.end (record { state = k; ended = None }) (record { state = with_effect k f (frame_effect k f); ended = None }) outs (effect_outputs k (frame_effect k f))
        (let some = above_zero f.at is in let at = next.0 in omega (arith, some, at)) (let l = next.1 in omega (arith, l)) refl refl refl h

-- one that ended, or has a call to execute, received a frame
ended_place : (opened : LinkParameters) (place : ℕ) (k : ServerState) (end : Stop) (outs : List Output) → ServerMatched opened place (record { state = k; ended = Some end }) outs → 0 < place
ended_place opened place k end outs h = some_place place (λ e. (let wrong : Some end ≡ None = (h.first e).1 in cc))

ready_place : (opened : LinkParameters) (place : ℕ) (r : EndState ServerState) (outs : List Output) (call : ReadyCall) (others : List ReadyCall) → r.state.ready ≡ call ∷ others → ServerMatched opened place r outs → 0 < place
ready_place opened place r outs call others is h = some_place place (λ e. (let wrong : call ∷ others ≡ [] = sym is ∙ (h.first e).2 in cc))

server_hears_told : (opened : LinkParameters) (place : ℕ) (k : ServerState) (outs : List Output) (what : Told) → ServerMatched opened place (record { state = k; ended = None }) outs
    → (o : Option Stop) → server_end opened k (ServerTold what) ≡ o
    → ServerMatched opened place (next_end_state_by (server_rules opened) k (ServerTold what) o) (outs ++ outputs_by (server_rules opened) (server_says opened) server_final_outputs k (ServerTold what) o)
unfolding server_state_after server_says
server_hears_told opened place k outs what h (Some end) stops =
    let old = stopped_as_old opened k what end stops in
    let some = ready_place opened place (record { state = k; ended = None }) outs old.call old.others old.is_next h in
    server_later opened place place (record { state = k; ended = None }) (record { state = k; ended = Some end }) outs (server_final_outputs end) some some refl refl refl h
server_hears_told opened place k outs what h None stays =
    server_quiet opened place (record { state = k; ended = None }) (record { state = server_state_after opened k (ServerTold what); ended = None }) outs refl refl refl refl refl h

server_step : (opened : LinkParameters) (place : ℕ) (k : ServerState) (ended : Option Stop) (outs : List Output) (e : RunEvent) → IsNext place e → ServerPlain (record { state = k; ended = ended }) e × HearsHello (first_hello opened Initiator) e
    → ServerMatched opened place (record { state = k; ended = ended }) outs
    → ServerMatched opened (place_after place e) (next_end_state_in (server_rules opened) k e ended) (outs ++ outputs_in (server_rules opened) (server_says opened) server_final_outputs k e ended)
unfolding server_state_after server_says server_end
server_step opened place k None outs (FrameReceived f) next good h = server_frame opened place k outs f next good.1 h (server_end opened k (FrameReceived f)) refl
server_step opened place k None outs (CallSubmitted p a) next good h = server_quiet opened place (record { state = k; ended = None }) (record { state = k; ended = None }) outs refl refl refl refl refl h
server_step opened place k None outs (MemoryRevoked p xid) next good h = server_quiet opened place (record { state = k; ended = None }) (record { state = k; ended = None }) outs refl refl refl refl refl h
server_step opened place k None outs (CallExecuted e) next good h =
    let some = ready_place opened place (record { state = k; ended = None }) outs good.0.call good.0.others good.0.is_next h in
    server_later opened place place (record { state = k; ended = None }) (record { state = server_state_after opened k (CallExecuted e); ended = None }) outs (server_says opened k (CallExecuted e)) some some refl refl refl h
server_step opened place k None outs (QueueWritten taken) next good h =
    server_quiet opened place (record { state = k; ended = None }) (record { state = server_state_after opened k (QueueWritten taken); ended = None }) outs refl refl refl refl refl h
server_step opened place k None outs (ServerTold what) next good h = server_hears_told opened place k outs what h (server_end opened k (ServerTold what)) refl
server_step opened place k (Some end) outs (FrameReceived f) next good h =
    server_later opened place f.end (record { state = k; ended = Some end }) (record { state = k; ended = Some end }) outs [] (ended_place opened place k end outs h) (let l = next.1 in omega (arith, l)) refl refl refl h
server_step opened place k (Some end) outs (CallSubmitted p a) next good h = server_quiet opened place (record { state = k; ended = Some end }) (record { state = k; ended = Some end }) outs refl refl refl refl refl h
server_step opened place k (Some end) outs (MemoryRevoked p xid) next good h = server_quiet opened place (record { state = k; ended = Some end }) (record { state = k; ended = Some end }) outs refl refl refl refl refl h
server_step opened place k (Some end) outs (CallExecuted e) next good h = server_quiet opened place (record { state = k; ended = Some end }) (record { state = k; ended = Some end }) outs refl refl refl refl refl h
server_step opened place k (Some end) outs (QueueWritten taken) next good h = server_quiet opened place (record { state = k; ended = Some end }) (record { state = k; ended = Some end }) outs refl refl refl refl refl h
server_step opened place k (Some end) outs (ServerTold what) next good h = server_quiet opened place (record { state = k; ended = Some end }) (record { state = k; ended = Some end }) outs refl refl refl refl refl h

server_matched : (opened : LinkParameters) (link : ℕ) (run : List Mark) → IsTyped run → MatchedSoFar opened link run
    → ServerMatched opened (places_after 0 (events link Responder run)) (server opened link run) (outs_of opened (events link Responder run))
unfolding server
server_matched opened link run typed far =
    let rules = server_rules opened in
    let bytes : List ℕ = first_hello opened Initiator in
    let es = events link Responder run in
    along rules (server_says opened) server_final_outputs (λ r e. ServerPlain r e × HearsHello bytes e) (λ es place r outs. ServerMatched opened place r outs)
    (λ es place r outs e next good h. server_step opened place r.state r.ended outs e next good h)
    [] 0 (initial_server opened) [] es (heard_along rules ServerPlain bytes 0 (initial_server opened) es (server_goes opened link run typed far.served).goes (server_hears opened link run typed far))
    (record { first = λ e. (refl, refl, refl); greeted = λ e. absurd (omega (arith, e)); hello = tt; sized = λ e. absurd (omega (arith, e)) })

-- ---- What a client hears

client_hears : (opened : LinkParameters) (link : ℕ) (run : List Mark) → IsTyped run → MatchedSoFar opened link run → HearHello (first_hello opened Responder) (events link Initiator run)
client_hears opened link run typed far =
    let r = client_receives_of opened link run typed far.asked far.served far.matched in
    let bytes : List ℕ = first_hello opened Responder in
    brought_hello Responder bytes (events link Initiator run) r.came r.brings r.from (first_part bytes r.came r.left (subst (FirstIs bytes) (sym r.parts) (server_matched opened link run typed far).hello))

-- ---- A client

abbrev pub ClientSized : LinkParameters → ClientState → Type 0
ClientSized opened k = (k.up_max ≡ matched_up opened) × (k.down_max ≡ matched_down opened) × (k.invalidates ≡ matched_invalidates opened)

record ClientMatched (opened : LinkParameters) (place : ℕ) (r : EndState ClientState) : Type 0 where
  first : place ≡ 0 → r.ended ≡ None
  sized : 0 < place → AgreesAgain opened → ClientSized opened r.state
  within : (r.state.up_max ≤ matched_up opened) × (r.state.down_max ≤ matched_down opened)
  opening : HasOpening opened r.state
  again : r.state.has_hello ≡ true → AgreesAgain opened
  greeted : r.state.has_hello ≡ true → ClientSized opened r.state

client_later : (opened : LinkParameters) (place end : ℕ) (r t : EndState ClientState) → 0 < place → 0 < end → t.state.up_max ≡ r.state.up_max → t.state.down_max ≡ r.state.down_max → t.state.invalidates ≡ r.state.invalidates → t.state.has_hello ≡ r.state.has_hello → HasOpening opened t.state → ClientMatched opened place r → ClientMatched opened end t
client_later opened place end r t some later up down names hello opening h = record {
  first = λ e. absurd (omega (arith, e, later));
  sized = λ e same. (up ∙ (h.sized some same).0, down ∙ (h.sized some same).1, names ∙ (h.sized some same).2);
  within = (omega (arith, up, h.within.0), omega (arith, down, h.within.1));
  opening = opening;
  again = λ e. h.again (sym hello ∙ e);
  greeted = λ e. (let s = h.greeted (sym hello ∙ e) in (up ∙ s.0, down ∙ s.1, names ∙ s.2));
}

client_quiet : (opened : LinkParameters) (place : ℕ) (r t : EndState ClientState) → t.ended ≡ r.ended → t.state.up_max ≡ r.state.up_max → t.state.down_max ≡ r.state.down_max → t.state.invalidates ≡ r.state.invalidates → t.state.has_hello ≡ r.state.has_hello → HasOpening opened t.state → ClientMatched opened place r → ClientMatched opened place t
client_quiet opened place r t ended up down names hello opening h = record {
  first = λ e. ended ∙ h.first e;
  sized = λ e same. (up ∙ (h.sized e same).0, down ∙ (h.sized e same).1, names ∙ (h.sized e same).2);
  within = (omega (arith, up, h.within.0), omega (arith, down, h.within.1));
  opening = opening;
  again = λ e. h.again (sym hello ∙ e);
  greeted = λ e. (let s = h.greeted (sym hello ∙ e) in (up ∙ s.0, down ∙ s.1, names ∙ s.2));
}

client_frame : (opened : LinkParameters) (place : ℕ) (k : ClientState) (f : Frame) → IsNext place (FrameReceived f) → (is_hello f ≡ true → f.bytes ≡ first_hello opened Responder) → ClientMatched opened place (record { state = k; ended = None })
    → (o : Option Stop) → client_end k (FrameReceived f) ≡ o → ClientMatched opened f.end (next_end_state_by (client_rules opened) k (FrameReceived f) o)
unfolding client_state_after
client_frame opened place k f next hears h (Some end) stops = by (is_hello f) refl
  where
    by : (b : Bool) → is_hello f ≡ b → ClientMatched opened f.end (record { state = k; ended = Some end })
    by true is = record {
      first = λ e. absurd (let l = next.1 in omega (arith, e, l));
      sized = λ e same. absurd (let wrong : None ≡ Some end = sym (hello_stays opened k f h.opening is (hears is) same) ∙ stops in cc);
      within = h.within;
      opening = h.opening;
      again = h.again;
      greeted = h.greeted;
    }
    by false is = client_later opened place f.end (record { state = k; ended = None }) (record { state = k; ended = Some end })
        (let some = above_zero f.at is in let at = next.0 in omega (arith, some, at)) (let l = next.1 in omega (arith, l)) refl refl refl refl h.opening h
client_frame opened place k f next hears h None stays = by (is_hello f) refl
  where
    by : (b : Bool) → is_hello f ≡ b → ClientMatched opened f.end (record { state = cond b (with_hello opened k f) (with_segment k f (client_segment k f)); ended = None })
    by true is =
        let agreed = client_agrees opened f (hears is) in
        let up : (client_agreement opened f).up ≡ matched_up opened = ap (λ (a : Agreement). a.up) agreed in
        let down : (client_agreement opened f).down ≡ matched_down opened = ap (λ (a : Agreement). a.down) agreed in
        let names : (client_agreement opened f).invalidates ≡ matched_invalidates opened = ap (λ (a : Agreement). a.invalidates) agreed in
        record { first = λ e. absurd (let l = next.1 in omega (arith, e, l)); sized = λ e same. (up, down, names); within = (omega (arith, up), omega (arith, down)); opening = h.opening; again = λ e. hello_agrees opened k f h.opening is (hears is) stays; greeted = λ e. (up, down, names) }
    by false is =
        let same = segment_sizes k f (client_segment k f) in
        client_later opened place f.end (record { state = k; ended = None }) (record { state = with_segment k f (client_segment k f); ended = None })
        (let some = above_zero f.at is in let at = next.0 in omega (arith, some, at)) (let l = next.1 in omega (arith, l)) same.0 same.1 same.2 (segment_hello k f (client_segment k f)) (opening_segment opened k f (client_segment k f) h.opening) h

client_step : (opened : LinkParameters) (place : ℕ) (k : ClientState) (ended : Option Stop) (e : RunEvent) → IsNext place e → ClientGood opened (record { state = k; ended = ended }) e × HearsHello (first_hello opened Responder) e
    → ClientMatched opened place (record { state = k; ended = ended }) → ClientMatched opened (place_after place e) (next_end_state_in (client_rules opened) k e ended)
unfolding client_state_after client_end
client_step opened place k None (FrameReceived f) next good h = client_frame opened place k f next good.1 h (client_end k (FrameReceived f)) refl
client_step opened place k None (CallSubmitted p a) next good h = client_quiet opened place (record { state = k; ended = None }) (record { state = client_state_after opened k (CallSubmitted p a); ended = None }) refl refl refl refl refl (opening_after opened k (CallSubmitted p a) h.opening) h
client_step opened place k None (MemoryRevoked p xid) next good h = client_quiet opened place (record { state = k; ended = None }) (record { state = client_state_after opened k (MemoryRevoked p xid); ended = None }) refl refl refl refl refl (opening_after opened k (MemoryRevoked p xid) h.opening) h
client_step opened place k None (CallExecuted e) next good h = h
client_step opened place k None (QueueWritten taken) next good h = client_quiet opened place (record { state = k; ended = None }) (record { state = client_state_after opened k (QueueWritten taken); ended = None }) refl refl refl refl refl (opening_after opened k (QueueWritten taken) h.opening) h
client_step opened place k None (ServerTold what) next good h = client_quiet opened place (record { state = k; ended = None }) (record { state = client_state_after opened k (ServerTold what); ended = None }) refl refl refl refl refl (opening_after opened k (ServerTold what) h.opening) h
client_step opened place k (Some end) (FrameReceived f) next good h =
    client_later opened place f.end (record { state = k; ended = Some end }) (record { state = k; ended = Some end }) (some_place place (λ e. (let wrong : Some end ≡ None = h.first e in cc))) (let l = next.1 in omega (arith, l)) refl refl refl refl h.opening h
client_step opened place k (Some end) (CallSubmitted p a) next good h = h
client_step opened place k (Some end) (MemoryRevoked p xid) next good h = h
client_step opened place k (Some end) (CallExecuted e) next good h = h
client_step opened place k (Some end) (QueueWritten taken) next good h = h
client_step opened place k (Some end) (ServerTold what) next good h = h

client_matched : (opened : LinkParameters) (link : ℕ) (run : List Mark) → IsTyped run → MatchedSoFar opened link run → ClientMatched opened (places_after 0 (events link Initiator run)) (client opened link run)
unfolding client
client_matched opened link run typed far =
    let rules = client_rules opened in
    let bytes : List ℕ = first_hello opened Responder in
    let es = events link Initiator run in
    along rules (λ k e. []) (λ end. []) (λ r e. ClientGood opened r e × HearsHello bytes e) (λ es place r outs. ClientMatched opened place r)
    (λ es place r outs e next good h. client_step opened place r.state r.ended e next good h)
    [] 0 (initial_client opened) [] es (heard_along rules (ClientGood opened) bytes 0 (initial_client opened) es (client_goes opened link run typed far.asked).goes (client_hears opened link run typed far))
    (record { first = λ e. refl; sized = λ e same. absurd (omega (arith, e)); within = ((up_limited opened).0, (down_limited opened).0); opening = (refl, refl); again = λ e. absurd cc; greeted = λ e. absurd cc })

pub client_within : (opened : LinkParameters) (link : ℕ) (run : List Mark) → IsTyped run → MatchedSoFar opened link run
    → ((client opened link run).state.up_max ≤ matched_up opened) × ((client opened link run).state.down_max ≤ matched_down opened)
client_within opened link run typed far = (client_matched opened link run typed far).within

pub client_again : (opened : LinkParameters) (link : ℕ) (run : List Mark) → IsTyped run → MatchedSoFar opened link run → (client opened link run).state.has_hello ≡ true → AgreesAgain opened
client_again opened link run typed far hello = (client_matched opened link run typed far).again hello

pub client_sized : (opened : LinkParameters) (link : ℕ) (run : List Mark) → IsTyped run → MatchedSoFar opened link run → (client opened link run).state.has_hello ≡ true → ClientSized opened (client opened link run).state
client_sized opened link run typed far hello = (client_matched opened link run typed far).greeted hello

-- and what it was opened with stays
pub client_opening : (opened : LinkParameters) (link : ℕ) (run : List Mark) → IsTyped run → MatchedSoFar opened link run → HasOpening opened (client opened link run).state
client_opening opened link run typed far = (client_matched opened link run typed far).opening

-- a server that has a call to execute received a hello
pub executing_sized : (opened : LinkParameters) (link : ℕ) (run : List Mark) (call : ReadyCall) (others : List ReadyCall) → IsTyped run → MatchedSoFar opened link run → (server opened link run).state.ready ≡ call ∷ others
    → (server opened link run).state.down_max ≡ matched_down opened
executing_sized opened link run call others typed far is =
    let m = server_matched opened link run typed far in
    (m.sized (ready_place opened (places_after 0 (events link Responder run)) (server opened link run) (outs_of opened (events link Responder run)) call others is m)).1

-- ---- The laws

places_grow : {S : Type 0} (rules : EndMachine S) (Good : EndState S → RunEvent → Type 0) (place : ℕ) (r : EndState S) (es : List RunEvent) → GoesOn rules Good place r es → place ≤ places_after place es
places_grow rules Good place r [] g = omega arith
places_grow rules Good place r (e ∷ es) g =
    let rest = places_grow rules Good (place_after place e) _ es g.2 in
    omega (arith, rest, grows e g.0)
  where
    grows : (e : RunEvent) → IsNext place e → place ≤ place_after place e
    grows (FrameReceived f) next = (let l = next.1 in omega (arith, l))
    grows (CallSubmitted p a) next = omega arith
    grows (MemoryRevoked p xid) next = omega arith
    grows (CallExecuted e) next = omega arith
    grows (QueueWritten taken) next = omega arith
    grows (ServerTold what) next = omega arith

-- the place after some events with a frame among them
place_some : {S : Type 0} (rules : EndMachine S) (Good : EndState S → RunEvent → Type 0) (place : ℕ) (r : EndState S) (before : List RunEvent) (f : Frame) (after : List RunEvent) → GoesOn rules Good place r (before ++ FrameReceived f ∷ after)
    → 0 < places_after place (before ++ FrameReceived f ∷ after)
place_some rules Good place r [] f after g =
    let next = g.0 in
    let lt = next.1 in
    let rest = places_grow rules Good f.end _ after g.2 in
    omega (arith, lt, rest)
place_some rules Good place r (e ∷ before) f after g = place_some rules Good (place_after place e) _ before f after g.2

pub sides_agree : SidesAgree
sides_agree opened link run f g typed far up down =
    let own = heard_at (first_hello opened Responder) up.before f up.after (subst (HearHello (first_hello opened Responder)) up.is (client_hears opened link run typed far)) up.first in
    let other = heard_at (first_hello opened Initiator) down.before g down.after (subst (HearHello (first_hello opened Initiator)) down.is (server_hears opened link run typed far)) down.first in
    client_agrees opened f own ∙ sym (server_agrees opened g other)

pub client_goes_by_agreement : ClientGoesByAgreement
client_goes_by_agreement opened link run f typed far h again =
    let own = heard_at (first_hello opened Responder) h.before f h.after (subst (HearHello (first_hello opened Responder)) h.is (client_hears opened link run typed far)) h.first in
    let agreed = client_agrees opened f own in
    let goes = (client_goes opened link run typed far.asked).goes in
    let some : 0 < places_after 0 (events link Initiator run) =
    subst (λ (es : List RunEvent). 0 < places_after 0 es) (sym h.is)
    (place_some (client_rules opened) (ClientGood opened) 0 (initial_client opened) h.before f h.after (subst (λ (es : List RunEvent). GoesOn (client_rules opened) (ClientGood opened) 0 (initial_client opened) es) h.is goes)) in
    let sized = (client_matched opened link run typed far).sized some (ap (λ (a : Agreement). has_same_sizes opened.agreed a) (sym agreed) ∙ again) in
    (sized.0 ∙ ap (λ (a : Agreement). a.up) (sym agreed), (sized.1 ∙ ap (λ (a : Agreement). a.down) (sym agreed), sized.2 ∙ ap (λ (a : Agreement). a.invalidates) (sym agreed)))

pub server_goes_by_agreement : ServerGoesByAgreement
server_goes_by_agreement opened link run g typed far h =
    let own = heard_at (first_hello opened Initiator) h.before g h.after (subst (HearHello (first_hello opened Initiator)) h.is (server_hears opened link run typed far)) h.first in
    let agreed = server_agrees opened g own in
    let goes = (server_goes opened link run typed far.served).goes in
    let some : 0 < places_after 0 (events link Responder run) =
    subst (λ (es : List RunEvent). 0 < places_after 0 es) (sym h.is)
    (place_some (server_rules opened) ServerPlain 0 (initial_server opened) h.before g h.after (subst (λ (es : List RunEvent). GoesOn (server_rules opened) ServerPlain 0 (initial_server opened) es) h.is goes)) in
    let sized = (server_matched opened link run typed far).sized some in
    (sized.0 ∙ ap (λ (a : Agreement). a.up) (sym agreed), (sized.1 ∙ ap (λ (a : Agreement). a.down) (sym agreed), sized.2 ∙ ap (λ (a : Agreement). a.invalidates) (sym agreed)))
