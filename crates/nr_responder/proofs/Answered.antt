-- A responder that answers a call goes on by the execution of that call.
use Rattle.std.proofs.Common.{◌≡◌, ◌≢◌, ℕ, zero, suc, ◌+◌, ◌<◌, Bool, true, false, not, ◌||◌, eqb, cond, List, [], ◌∷◌, ◌++◌, length, drop, get_or, Option, Some, None, refl, sym, ap, subst, ◌∙◌, arith, inl, is_some}
use Rattle.std.specs.Prelude.{map, slice_get}
use Rattle.std.specs.List.{AllByRecursion, list_any, find, remove}
use Rattle.std.proofs.lemmas.List.{append-nil}
use Rattle.nr_responder.proofs.Fed.{not_ended_lem}
use Rattle.std.proofs.lemmas.Bool.{eqb-true, eq-eqb, ne_eqb}
use Rattle.nr_header.specs.declared.header.ChunkLists.{ChunkLists}
use Rattle.nr_rpc.specs.Reading.{call_of, target_of}
use Rattle.nr_link.specs.declared.end.End.{End}
use Rattle.nr_link.specs.Input.{InputState}
use Rattle.nr_link.specs.Agreement.{IsSendLimit}
use Rattle.nr_link.specs.Output.{send_by}
use Rattle.nr_endpoint.specs.declared.framing.RemoteWrite.{RemoteWrite}
use Rattle.nr_endpoint.specs.FedBytes.{fed_bytes}
use Rattle.nr_endpoint.specs.LinkState.{LinkSide}
use Rattle.nr_endpoint.specs.Calls.{after_calls}
use Rattle.nr_endpoint.specs.Offering.{answer_calls, writes_output, after_answer}
use Rattle.nr_endpoint.proofs.WholeCalls.{answered_state}
use Rattle.nr_reduce.specs.declared.mark.LinkParameters.{LinkParameters}
use Rattle.nr_reduce.specs.declared.mark.Mark.{Mark}
use Rattle.nr_reduce.specs.declared.mark.Mark.TheVariants as marks
use Rattle.nr_outside.specs.declared.moment.Moment.{Moment}
use Rattle.nr_reduce.specs.History.{ExecutedCall}
use Rattle.nr_reduce.specs.Events.RunEvent.{CallExecuted}
use Rattle.nr_reduce.specs.EndRules.{EndState, live, next_end_state_in, output_for_in}
use Rattle.nr_reduce.specs.Holds.{Answer}
use Rattle.nr_reduce.specs.Server.{server_rules, server_end, server_output, server_state_after, execution_output, offer_by, offer_of, answer_of_target, answer_output}
use Rattle.nr_reduce.specs.Served.{first_ready, next_call, IsExecuted}
use Rattle.nr_responder.specs.Sound.{payloads_of, xids_of}
use Rattle.nr_responder.specs.declared.call.Ready.{Ready}
use Rattle.nr_responder.specs.Fetching.{payload_taken}
use Rattle.nr_responder.specs.Keeping.{IsReadyOf, HasPayload, ArePayloads, Begins, Keeps, KeepsEnd}
use Rattle.nr_responder.specs.Keeping.Begins.{BeforeHello, AfterHello}
use Rattle.nr_responder.specs.Standing.{RepresentsServer, ResponderRepresents}
use Rattle.nr_responder.specs.declared.call.Sent.{Sent}
use Rattle.nr_responder.specs.Heard.{Hears}
use Rattle.nr_responder.specs.Steps.{GoesOn}
use Rattle.nr_responder.specs.declared.call.Pending.{Pending}
use Rattle.nr_responder.specs.Views.{call_view}
use Rattle.nr_responder.specs.Answering.{IsPayload, Answers, answer_to, message_for, name_for, writes_for}
use Rattle.nr_responder.proofs.Executed.{executed, with_answer, answered_keeps, answered_server, payloads_out}
use Rattle.nr_responder.proofs.Queues.{answered_queue}
use Rattle.nr_responder.proofs.Marks.{executed_stands, represents}
use Rattle.nr_responder.proofs.NextCalls.{next_is_lem}
use Rattle.nr_responder.specs.ResponderState.{present_word, queue, end_of}
use Rattle.nr_reduce.specs.ServerState.{PendingCall, PendingRead, ReadyCall, ServerState, credit_word}
use Rattle.nr_reduce.specs.ServerReads.{is_read}
use Rattle.nr_responder.specs.ResponderState.{ResponderSide}
use Rattle.nr_responder.specs.Keeping.{OwnXids}
use Rattle.nr_responder.proofs.Executed.{without_call, none_out_lem}
use Rattle.nr_responder.proofs.Words.{word_is}

abbrev pub has : ℕ → PendingCall → Bool
has x c = eqb c.xid x

-- the call of an xid at its place
pub record Found (x : ℕ) (P : PendingCall → Type 0) (calls : List PendingCall) (at : ℕ) (call : PendingCall) : Type 0 where
  pub kept : PendingCall
  pub same : kept ≡ call
  pub first : find (has x) calls ≡ Some kept
  pub holds : P kept
  pub there : list_any (has x) calls ≡ true
  pub left : remove calls at ≡ without_call x calls

pub found : (x : ℕ) (P : PendingCall → Type 0) (calls : List PendingCall) (at : ℕ) (call : PendingCall) → OwnXids calls → AllByRecursion (λ c. c.xid ≡ x → P c) calls →
    slice_get calls at ≡ Some call → call.xid ≡ x → Found x P calls at call
found x P [] zero call own all is xid = absurd cc
found x P [] (suc at) call own all is xid = absurd cc
found x P (c ∷ calls) zero call own all is xid =
    let same : c ≡ call = cc in
    let c_xid : c.xid ≡ x = ap (λ (d : PendingCall). d.xid) same ∙ xid in
    let yes : eqb c.xid x ≡ true = eq-eqb c.xid x c_xid in
    record {
      kept = c;
      same = same;
      first = ap (λ (b : Bool). cond b (Some c) (find (has x) calls)) yes;
      holds = all.0 c_xid;
      there = ap (λ (b : Bool). b || list_any (has x) calls) yes;
      left = sym (ap (λ (b : Bool). cond (not b) (c ∷ without_call x calls) (without_call x calls)) yes ∙ none_out_lem x calls (ap (λ (y : ℕ). list_any (λ d. eqb d.xid y) calls) (sym c_xid) ∙ own.0));
    }
found x P (c ∷ calls) (suc at) call own all is xid = by (found x P calls at call own.1 all.1 is xid) (eqb c.xid x) refl
  where
    by : Found x P calls at call → (b : Bool) → eqb c.xid x ≡ b → Found x P (c ∷ calls) (suc at) call
    by f true is_x =
        let same : c.xid ≡ x = eqb-true c.xid x is_x in
        let none : list_any (has x) calls ≡ false = ap (λ (y : ℕ). list_any (λ d. eqb d.xid y) calls) (sym same) ∙ own.0 in
        absurd (let two : true ≡ false = sym f.there ∙ none in cc)
    by f false other = record {
      kept = f.kept;
      same = f.same;
      first = ap (λ (b : Bool). cond b (Some c) (find (has x) calls)) other ∙ f.first;
      holds = f.holds;
      there = ap (λ (b : Bool). b || list_any (has x) calls) other ∙ f.there;
      left = ap (λ (cs : List PendingCall). c ∷ cs) f.left ∙ sym (ap (λ (b : Bool). cond (not b) (c ∷ without_call x calls) (without_call x calls)) other);
    }

-- ---- The side with the answer queued

pub answer_link : (l : LinkSide) (writes : List RemoteWrite) (named : Option ℕ) (message : List ℕ) → l.state.ended ≡ None → after_calls l (answer_calls writes named message) ≡ record { awaited = l.awaited; rest = l.rest; state = with_answer l.state (writes_output writes) named message }
answer_link l writes named message live =
    sym (answered_state l (after_answer writes named message l.state) writes named message refl)
    ∙ ap (λ (o : Option End). record { awaited = l.awaited; rest = l.rest; state = cond (is_some o) l.state (with_answer l.state (writes_output writes) named message) }) live

pub answered_fed : (l m : LinkSide) (writes : List RemoteWrite) (named : Option ℕ) (message : List ℕ) → l.state.ended ≡ None → m ≡ after_calls l (answer_calls writes named message) → fed_bytes m ≡ fed_bytes l
answered_fed l m writes named message live is = ap fed_bytes (is ∙ answer_link l writes named message live)

begins_answered : (l : LinkSide) (writes : List ℕ) (named : Option ℕ) (message : List ℕ) → 0 < l.state.place → Begins l → Begins (record { awaited = l.awaited; rest = l.rest; state = with_answer l.state writes named message })
begins_answered l writes named message some (BeforeHello place awaited hello none) = absurd (omega (arith, place, some))
begins_answered l writes named message some (AfterHello place awaited hello) = AfterHello place awaited hello

-- ---- The server that executed

executed_live : (opened : LinkParameters) (k : ServerState) (e : ExecutedCall) (o : Option End) → o ≡ None → next_end_state_in (server_rules opened) k (CallExecuted e) o ≡ live (executed k e.xid (execution_output k e))
unfolding server_end server_state_after
executed_live opened k e o is = ap (λ (x : Option End). next_end_state_in (server_rules opened) k (CallExecuted e) x) is

executed_due : (opened : LinkParameters) (k : ServerState) (e : ExecutedCall) (o : Option End) → o ≡ None → output_for_in (server_rules opened) k (CallExecuted e) o ≡ execution_output k e
unfolding server_end server_output
executed_due opened k e o is = ap (λ (x : Option End). output_for_in (server_rules opened) k (CallExecuted e) x) is

-- the output for an answer: its RDMA Writes and its message
output_is : (k : ServerState) (xid : ℕ) (offer : ChunkLists) (a : Option Answer) → answer_output k xid offer a ≡ writes_for offer a ++ send_by (name_for k.invalidates offer a) (k.messages_queued + 1) (message_for xid (credit_word k) offer a)
output_is k xid offer None = refl
output_is k xid offer (Some a) = refl

due_is : (k : ServerState) (e : ExecutedCall) (offer : ChunkLists) (down : ℕ) (invalidates : Bool) → offer_of k e.xid ≡ offer → k.down_max ≡ down → k.invalidates ≡ invalidates →
    execution_output k e ≡ writes_for offer (answer_of_target offer down e.reply (target_of (call_of e.payload))) ++ send_by (name_for invalidates offer (answer_of_target offer down e.reply (target_of (call_of e.payload)))) (k.messages_queued + 1) (message_for e.xid (credit_word k) offer (answer_of_target offer down e.reply (target_of (call_of e.payload))))
unfolding execution_output
due_is k e offer down invalidates is agreed names =
    (λ i. answer_output k e.xid (is i) (answer_of_target (is i) (agreed i) e.reply (target_of (call_of e.payload))))
    ∙ output_is k e.xid offer (answer_of_target offer down e.reply (target_of (call_of e.payload)))
    ∙ ap (λ (b : Bool). writes_for offer (answer_of_target offer down e.reply (target_of (call_of e.payload))) ++ send_by (name_for b offer (answer_of_target offer down e.reply (target_of (call_of e.payload)))) (k.messages_queued + 1) (message_for e.xid (credit_word k) offer (answer_of_target offer down e.reply (target_of (call_of e.payload))))) names

first_of_lem : (ready : List ReadyCall) (r : ReadyCall) → slice_get ready 0 ≡ Some r → ready ≡ r ∷ drop 1 ready
first_of_lem [] r is = absurd cc
first_of_lem (q ∷ ready) r is = ap (λ (x : ReadyCall). x ∷ ready) (let h : q ≡ r = cc in h)

drop_map : (ready : List ReadyCall) → drop 1 (map (λ r. r.xid) ready) ≡ map (λ r. r.xid) (drop 1 ready)
drop_map [] = refl
drop_map (r ∷ ready) = refl

-- ---- The payload of the first that is ready

-- what a kept call has by its payload
abbrev pub HasStream : ReadyCall → Option (List ℕ) → PendingCall → Type 0
HasStream r None c = c.inline ≡ Some r.payload
HasStream r (Some payload) c = payload ≡ r.payload

each_has : (r : ReadyCall) (p : Option (List ℕ)) (calls : List PendingCall) → HasPayload calls r p → AllByRecursion (λ c. c.xid ≡ r.xid → HasStream r p c) calls
each_has r None calls h = h
each_has r (Some payload) [] h = tt
each_has r (Some payload) (c ∷ calls) h = ((λ e. h), each_has r (Some payload) calls h)

stream_is : (r : ReadyCall) (p : Option (List ℕ)) (c : PendingCall) (stream : List ℕ) → HasStream r p c → IsPayload c p stream → stream ≡ r.payload
stream_is r None c stream has is = (let two : Some stream ≡ Some r.payload = sym is ∙ has in cc)
stream_is r (Some payload) c stream has is = is ∙ has

-- the payload of the first
pub record FirstPayload (calls : List PendingCall) (r : ReadyCall) (ready : List ReadyCall) (payloads : List (Option (List ℕ))) : Type 0 where
  pub first : Option (List ℕ)
  pub is_first : slice_get payloads 0 ≡ Some first
  pub has : HasPayload calls r first
  pub others : ArePayloads calls ready (drop 1 payloads)

pub first_payload : (calls : List PendingCall) (r : ReadyCall) (ready : List ReadyCall) (payloads : List (Option (List ℕ))) → ArePayloads calls (r ∷ ready) payloads → FirstPayload calls r ready payloads
first_payload calls r ready [] h = absurd h
first_payload calls r ready (p ∷ payloads) h = record { first = p; is_first = refl; has = h.0; others = h.1 }

-- ---- What it keeps then

pub not_zero : (n : ℕ) → (n ≡ 0 → ⊥) → 0 < n
not_zero zero no_zero = absurd (no_zero refl)
not_zero (suc n) no_zero = omega arith

never_some : (ready : List ReadyCall) (r : ReadyCall) → ready ≡ r ∷ drop 1 ready → map (λ q. q.xid) ready ≡ [] → ⊥
never_some [] r is none = (let two : [] ≡ r ∷ [] = is in cc)
never_some (q ∷ ready) r is none = (let two : q.xid ∷ map (λ q. q.xid) ready ≡ [] = none in cc)

pub answered_goes : (opened : LinkParameters) (end : EndState ServerState) (so_far : InputState) (v after : ResponderSide) (e : ExecutedCall) (r : ReadyCall) (sent : Sent) → end.ended ≡ None → Keeps opened end.state so_far v →
    slice_get end.state.ready 0 ≡ Some r → e.xid ≡ r.xid → e.payload ≡ r.payload → Answers v after e.xid e.reply sent → GoesOn opened end so_far v (CallExecuted e ∷ []) so_far after
answered_goes opened end so_far v after e r sent is h next xid payload a =
    let k : ServerState = end.state in
    let ready : k.ready ≡ r ∷ drop 1 k.ready = first_of_lem k.ready r next in
    let behind : 0 < v.link.state.place = not_zero v.link.state.place (λ zero_place. never_some k.ready r ready (sym h.ready ∙ (h.quiet zero_place).0)) in
    let own : FirstPayload k.calls r (drop 1 k.ready) v.fetching.payloads = first_payload k.calls r (drop 1 k.ready) v.fetching.payloads (subst (λ (rs : List ReadyCall). ArePayloads k.calls rs v.fetching.payloads) ready h.payloads) in
    let place : slice_get k.calls a.at ≡ Some a.call = ap (λ (cs : List PendingCall). slice_get cs a.at) (sym h.calls) ∙ a.place in
    let f : Found r.xid (HasStream r own.first) k.calls a.at a.call = found r.xid (HasStream r own.first) k.calls a.at a.call h.server.xids (each_has r own.first k.calls own.has) place (a.own ∙ xid) in
    let same_first : a.payload ≡ own.first = (let two : Some a.payload ≡ Some own.first = sym a.first ∙ own.is_first in cc) in
    let stream : a.stream ≡ e.payload =
    stream_is r own.first a.call a.stream (subst (HasStream r own.first) f.same f.holds) (subst (λ (p : Option (List ℕ)). IsPayload a.call p a.stream) same_first a.conveyed) ∙ sym payload in
    let offer : offer_of k e.xid ≡ a.call.lists = ap (λ (x : ℕ). offer_of k x) xid ∙ (ap offer_by f.first ∙ ap (λ (c : PendingCall). c.lists) f.same) in
    let down : ℕ = v.link.state.agreed.down in
    let answer : Option Answer = answer_to down a.call a.stream e.reply in
    let same_answer : answer_of_target a.call.lists down e.reply (target_of (call_of e.payload)) ≡ answer = ap (λ (bytes : List ℕ). answer_of_target a.call.lists down e.reply (target_of (call_of bytes))) (sym stream) in
    let word : present_word v ≡ credit_word k = word_is opened k so_far v h in
    let message : List ℕ = message_for e.xid (present_word v) a.call.lists answer in
    let invalidates : Bool = v.link.state.agreed.invalidates in
    let named : Option ℕ = name_for invalidates a.call.lists answer in
    let writes : List ℕ = writes_output a.writes in
    let due : execution_output k e ≡ writes ++ send_by named (k.messages_queued + 1) message =
    due_is k e a.call.lists down invalidates offer (sym h.link.down) (sym h.link.invalidates)
    ∙ (λ i. writes_for a.call.lists (same_answer i) ++ send_by (name_for invalidates a.call.lists (same_answer i)) (k.messages_queued + 1) (message_for e.xid (sym word i) a.call.lists (same_answer i)))
    ∙ ap (λ (bytes : List ℕ). bytes ++ send_by named (k.messages_queued + 1) message) (sym a.written) in
    let then : ResponderSide = record {
      link = record { awaited = v.link.awaited; rest = v.link.rest; state = with_answer v.link.state writes named message };
      calls = remove v.calls a.at;
      ready = drop 1 v.ready;
      credits = v.credits;
      fetching = payload_taken v.fetching;
    } in
    let same : after ≡ then = a.state ∙ ap (λ (l : LinkSide). record { link = l; calls = remove v.calls a.at; ready = drop 1 v.ready; credits = v.credits; fetching = payload_taken v.fetching }) (answer_link v.link a.writes named message h.link.live) in
    let out : List ℕ = writes ++ send_by named (k.messages_queued + 1) message in
    let keeps : Keeps opened (executed k r.xid out) so_far then = record {
      link = answered_keeps opened k v.link.state writes named message r (drop 1 k.ready) ready h.link h.server;
      input = record { awaited = h.input.awaited; rest = h.input.rest; place = h.input.place };
      begins = begins_answered v.link writes named message behind h.begins;
      server = answered_server k v.link.state.place out r (drop 1 k.ready) ready h.server;
      calls = ap (λ (cs : List PendingCall). remove cs a.at) h.calls ∙ f.left;
      ready = ap (drop 1) h.ready ∙ drop_map k.ready;
      credits = h.credits;
      reads = h.reads;
      sinks = h.sinks;
      payloads = payloads_out r.xid k.calls (drop 1 k.ready) (drop 1 v.fetching.payloads) own.others;
      quiet = λ z. absurd (omega (arith, z, behind));
    } in
    record {
      keeps =
          subst (λ (s : EndState ServerState). KeepsEnd opened s so_far after) (sym (executed_live opened k e end.ended is ∙ (λ i. live (executed k (xid i) (due i)))))
          (inl (refl, subst (λ (w : ResponderSide). Keeps opened (executed k r.xid out) so_far w) (sym same) keeps));
      output =
          ap queue same
          ∙ answered_queue named k.messages_queued writes message v.link.state.send_queue h.link.queue.sends
          ∙ ap (λ (bytes : List ℕ). queue v ++ bytes) (sym due ∙ sym (executed_due opened k e end.ended is) ∙ sym (append-nil (output_for_in (server_rules opened) k (CallExecuted e) end.ended)));
      heard = λ lives. subst (λ (w : ResponderSide). Hears v.link.state (CallExecuted e ∷ []) w.link.state) (sym same) (record { last = refl; client = refl });
    }

-- how long a Send of a responder may be
pub down_limit : (opened : LinkParameters) (link : ℕ) (run : List Mark) (v : ResponderSide) → ResponderRepresents opened link run v → end_of v ≡ None → IsSendLimit v.link.state.agreed.down
down_limit opened link run v stands live_now =
    let h : RepresentsServer opened link run v = represents opened link run v live_now stands in
    let both : (h.end.ended ≡ None) × Keeps opened h.end.state h.input v = not_ended_lem opened h.end h.input v live_now h.keeps in
    subst IsSendLimit (sym both.1.link.down) both.1.server.down

pub answered_stands : (opened : LinkParameters) (link : ℕ) (run : List Mark) (v after : ResponderSide) (xid : ℕ) (moment : Moment) (payload : List ℕ) (place : ℕ) (reply : List ℕ) (sent : Sent) → ResponderRepresents opened link run v → end_of v ≡ None →
    IsExecuted opened link run xid payload → Answers v after xid reply sent → ResponderRepresents opened link (run ++ marks.Execute link xid moment payload place reply ∷ []) after
answered_stands opened link run v after xid moment payload place reply sent stands live_now x a =
    let h : RepresentsServer opened link run v = represents opened link run v live_now stands in
    let e : ExecutedCall = record { xid = xid; moment = moment; payload = payload; place = place; reply = reply } in
    let both : (h.end.ended ≡ None) × Keeps opened h.end.state h.input v = not_ended_lem opened h.end h.input v live_now h.keeps in
    let next : slice_get h.end.state.ready 0 ≡ Some x.call = ap (λ (o : Option End). first_ready h.end.state.ready o) (sym both.0) ∙ sym (next_is_lem opened link run v h) ∙ x.is_next in
    inl (executed_stands opened link run v after xid moment payload place reply h
    (answered_goes opened h.end h.input v after e x.call sent both.0 both.1 next x.own x.conveyed a))

-- ---- Its payload

-- what is kept of the call that is next
pub record NextKept (opened : LinkParameters) (link : ℕ) (run : List Mark) (v : ResponderSide) (xid : ℕ) : Type 0 where
  pub server : ServerState
  pub call : ReadyCall
  pub calls : v.calls ≡ server.calls
  pub reads : v.fetching.reads ≡ server.reads
  pub xids : OwnXids server.calls
  pub is_next : next_call opened link run ≡ Some call
  pub own : xid ≡ call.xid
  pub ready : IsReadyOf server.calls server.reads call
  pub payload : FirstPayload server.calls call (drop 1 server.ready) v.fetching.payloads

xid_of_first : (ready : List ReadyCall) (xid : ℕ) → slice_get (map (λ q. q.xid) ready) 0 ≡ Some xid → (r : ReadyCall) × ((slice_get ready 0 ≡ Some r) × (xid ≡ r.xid))
xid_of_first [] xid is = absurd cc
xid_of_first (r ∷ ready) xid is = (r, (refl, (let h : r.xid ≡ xid = cc in sym h)))

pub next_kept : (opened : LinkParameters) (link : ℕ) (run : List Mark) (v : ResponderSide) (xid : ℕ) → ResponderRepresents opened link run v → end_of v ≡ None → slice_get v.ready 0 ≡ Some xid → NextKept opened link run v xid
next_kept opened link run v xid stands live_now first =
    let h : RepresentsServer opened link run v = represents opened link run v live_now stands in
    let both : (h.end.ended ≡ None) × Keeps opened h.end.state h.input v = not_ended_lem opened h.end h.input v live_now h.keeps in
    let f = xid_of_first h.end.state.ready xid (ap (λ (xs : List ℕ). slice_get xs 0) (sym both.1.ready) ∙ first) in
    let ready : h.end.state.ready ≡ f.0 ∷ drop 1 h.end.state.ready = first_of_lem h.end.state.ready f.0 f.1.0 in
    record {
      server = h.end.state;
      call = f.0;
      calls = both.1.calls;
      reads = both.1.reads;
      xids = both.1.server.xids;
      is_next = next_is_lem opened link run v h ∙ ap (λ (o : Option End). first_ready h.end.state.ready o) both.0 ∙ f.1.0;
      own = f.1.1;
      ready = (subst (λ (rs : List ReadyCall). AllByRecursion (IsReadyOf h.end.state.calls h.end.state.reads) rs) ready both.1.server.ready).0;
      payload = first_payload h.end.state.calls f.0 (drop 1 h.end.state.ready) v.fetching.payloads (subst (λ (rs : List ReadyCall). ArePayloads h.end.state.calls rs v.fetching.payloads) ready both.1.payloads);
    }

pub payload_is_lem : (opened : LinkParameters) (link : ℕ) (run : List Mark) (v : ResponderSide) (xid : ℕ) → ResponderRepresents opened link run v → end_of v ≡ None → slice_get v.ready 0 ≡ Some xid →
    (at : ℕ) (call : PendingCall) (payload : Option (List ℕ)) (stream : List ℕ) → slice_get v.calls at ≡ Some call → call.xid ≡ xid → slice_get v.fetching.payloads 0 ≡ Some payload → IsPayload call payload stream → IsExecuted opened link run xid stream
payload_is_lem opened link run v xid h live_now first at call payload stream place own first_is conveyed =
    let n : NextKept opened link run v xid = next_kept opened link run v xid h live_now first in
    let p : Option (List ℕ) = n.payload.first in
    let f : Found n.call.xid (HasStream n.call p) n.server.calls at call = found n.call.xid (HasStream n.call p) n.server.calls at call n.xids (each_has n.call p n.server.calls n.payload.has) (ap (λ (cs : List PendingCall). slice_get cs at) (sym n.calls) ∙ place) (own ∙ n.own) in
    let same_first : payload ≡ p = (let two : Some payload ≡ Some p = sym first_is ∙ n.payload.is_first in cc) in
    record {
      call = n.call;
      is_next = n.is_next;
      own = n.own;
      conveyed = stream_is n.call p call stream (subst (HasStream n.call p) f.same f.holds) (subst (λ (q : Option (List ℕ)). IsPayload call q stream) same_first conveyed);
    }

pub payload_there_lem : (opened : LinkParameters) (link : ℕ) (run : List Mark) (v : ResponderSide) (xid : ℕ) → ResponderRepresents opened link run v → end_of v ≡ None → slice_get v.ready 0 ≡ Some xid → list_any (has xid) v.calls ≡ true
payload_there_lem opened link run v xid h live_now first =
    let n : NextKept opened link run v xid = next_kept opened link run v xid h live_now first in
    ap (λ (cs : List PendingCall). list_any (has xid) cs) n.calls ∙ ap (λ (x : ℕ). list_any (has x) n.server.calls) n.own ∙ n.ready.pending

-- the xids and the payloads of calls that are ready, without the first
pub xids_dropped : (ready : List Ready) → xids_of (drop 1 ready) ≡ drop 1 (xids_of ready)
xids_dropped [] = refl
xids_dropped (q ∷ ready) = refl

pub payloads_dropped : (ready : List Ready) → payloads_of (drop 1 ready) ≡ drop 1 (payloads_of ready)
payloads_dropped [] = refl
payloads_dropped (q ∷ ready) = refl

-- a call whose payload isn't read has its stream in its message
pub inline_is_lem : (opened : LinkParameters) (link : ℕ) (run : List Mark) (v : ResponderSide) (xid : ℕ) → ResponderRepresents opened link run v → end_of v ≡ None → slice_get v.ready 0 ≡ Some xid →
    (at : ℕ) (call : PendingCall) → slice_get v.calls at ≡ Some call → call.xid ≡ xid → slice_get v.fetching.payloads 0 ≡ Some None → is_some call.inline ≡ true
inline_is_lem opened link run v xid h live_now first at call place own first_is =
    let n : NextKept opened link run v xid = next_kept opened link run v xid h live_now first in
    let p : Option (List ℕ) = n.payload.first in
    let f : Found n.call.xid (HasStream n.call p) n.server.calls at call = found n.call.xid (HasStream n.call p) n.server.calls at call n.xids (each_has n.call p n.server.calls n.payload.has) (ap (λ (cs : List PendingCall). slice_get cs at) (sym n.calls) ∙ place) (own ∙ n.own) in
    let none : p ≡ None = (let two : Some p ≡ Some None = sym n.payload.is_first ∙ first_is in cc) in
    by n.call call (subst (HasStream n.call p) f.same f.holds) none
  where
    by : (r : ReadyCall) (c : PendingCall) {p : Option (List ℕ)} → HasStream r p c → p ≡ None → is_some c.inline ≡ true
    by r c {p} holds none = ap (λ (o : Option (List ℕ)). is_some o) (subst (λ (q : Option (List ℕ)). HasStream r q c) none holds)

-- nothing is left to be read for it
pub next_read_lem : (opened : LinkParameters) (link : ℕ) (run : List Mark) (v : ResponderSide) (xid : ℕ) → ResponderRepresents opened link run v → end_of v ≡ None → slice_get v.ready 0 ≡ Some xid → (at : ℕ) (call : PendingCall) → slice_get v.calls at ≡ Some call → call.xid ≡ xid →
    is_read v.fetching.reads call.number ≡ true
next_read_lem opened link run v xid h live_now first at call place own =
    let n : NextKept opened link run v xid = next_kept opened link run v xid h live_now first in
    let f : Found n.call.xid (λ c. c.number ≡ n.call.number) n.server.calls at call = found n.call.xid (λ c. c.number ≡ n.call.number) n.server.calls at call n.xids n.ready.own (ap (λ (cs : List PendingCall). slice_get cs at) (sym n.calls) ∙ place) (own ∙ n.own) in
    ap (λ (rs : List PendingRead). is_read rs call.number) n.reads ∙ ap (is_read n.server.reads) (ap (λ (c : PendingCall). c.number) (sym f.same) ∙ f.holds) ∙ n.ready.read

pub none_any : (x : ℕ) (calls : List Pending) → ((k : ℕ) (d : Pending) → k < length calls → (get_or calls k d).xid ≢ x) → list_any (has x) (map call_view calls) ≡ false
none_any x [] none = refl
none_any x (c ∷ calls) none =
    ap (λ (b : Bool). b || list_any (has x) (map call_view calls)) (ne_eqb c.xid x (none zero c (omega arith))) ∙ none_any x calls (λ k d lt. none (suc k) d (omega (arith, lt)))

-- the item at a place, whatever is there if none is
pub same_item : {X : Type 0} (xs : List X) (at : ℕ) (d e : X) → at < length xs → get_or xs at e ≡ get_or xs at d
same_item [] at d e lt = absurd (omega (arith, lt))
same_item (x ∷ xs) zero d e lt = refl
same_item (x ∷ xs) (suc at) d e lt = same_item xs at d e (omega (arith, lt))

pub get_view : (calls : List Pending) (at : ℕ) (c : Pending) → at < length calls → c ≡ get_or calls at c → slice_get (map call_view calls) at ≡ Some (call_view c)
get_view [] at c lt is = absurd (omega (arith, lt))
get_view (d ∷ calls) zero c lt is = ap (λ (x : Pending). Some (call_view x)) (sym is)
get_view (d ∷ calls) (suc at) c lt is = get_view calls at c (omega (arith, lt)) is

-- the payload that was read with the chunks of the call that is next
pub payload_read_lem : (opened : LinkParameters) (link : ℕ) (run : List Mark) (v : ResponderSide) (xid : ℕ) (payload : List ℕ) → ResponderRepresents opened link run v → end_of v ≡ None → slice_get v.ready 0 ≡ Some xid → slice_get v.fetching.payloads 0 ≡ Some (Some payload) →
    IsExecuted opened link run xid payload
payload_read_lem opened link run v xid payload h live_now first first_is =
    let n : NextKept opened link run v xid = next_kept opened link run v xid h live_now first in
    let p : Option (List ℕ) = n.payload.first in
    let same : p ≡ Some payload = (let two : Some p ≡ Some (Some payload) = sym n.payload.is_first ∙ first_is in cc) in
    record { call = n.call; is_next = n.is_next; own = n.own; conveyed = by n.server.calls n.call (subst (λ (q : Option (List ℕ)). HasPayload n.server.calls n.call q) same n.payload.has) }
  where
    by : (calls : List PendingCall) (r : ReadyCall) → HasPayload calls r (Some payload) → payload ≡ r.payload
    by calls r has = has
