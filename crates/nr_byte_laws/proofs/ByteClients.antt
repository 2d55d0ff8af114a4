-- What a client writes are bytes, whatever its server sends.
use Rattle.std.specs.Prelude.{not, sum}
use Rattle.std.specs.List.{AllByRecursion}
use Rattle.std.proofs.Common.{◌≡◌, ℕ, ◌+◌, Bool, true, false, cond, eqb, ltb, leb, List, [], ◌∷◌, ◌++◌, length, map, take, drop, replicate, Option, None, Some, Result, Ok, Err, refl, sym, subst, ◌&&◌}
use Rattle.nr_xdr.specs.Item.{IsBytes}
use Rattle.nr_xdr.specs.Fields.{word_at}
use Rattle.nr_xdr.proofs.WordBytes.{IsBytes_take, IsBytes_drop}
use Rattle.nr_wire.specs.declared.hello.Side.TheVariants.{Initiator}
use Rattle.nr_wire.specs.Segment.{Segment}
use Rattle.nr_wire.specs.Segment.Segment.{Tagged, Untagged}
use Rattle.nr_regions.specs.declared.right.Right.{Right}
use Rattle.nr_regions.specs.declared.right.Right.TheVariants.{Fetch, Fill}
use Rattle.nr_link.specs.Frames.{Frame, is_hello}
use Rattle.nr_reduce.specs.Hellos.{client_hello}
use Rattle.nr_link.specs.ReceiveState.{ReadRequest, ReceiveState, begun_bytes, message_completed, read_request_of}
use Rattle.nr_link.specs.Ending.{tagged_access}
use Rattle.nr_link.proofs.TakenSegments.{taken_read}
use Rattle.nr_reduce.specs.declared.call.Form.{Form}
use Rattle.nr_reduce.specs.declared.call.Form.TheVariants as forms
use Rattle.nr_reduce.specs.declared.item.Item.{Item}
use Rattle.nr_reduce.specs.declared.item.Of.TheVariants.{Call}
use Rattle.nr_reduce.specs.declared.mark.Mark.{Mark}
use Rattle.nr_reduce.specs.declared.mark.LinkParameters.{LinkParameters}
use Rattle.nr_reduce.specs.declared.outline.Plan.{Plan}
use Rattle.nr_reduce.specs.History.{AcceptedCall}
use Rattle.nr_reduce.specs.Events.{RunEvent, events}
use Rattle.nr_reduce.specs.Events.RunEvent.{FrameReceived, CallSubmitted, MemoryRevoked, CallExecuted, QueueWritten, ServerTold}
use Rattle.nr_reduce.specs.EndRules.{output_for_all}
use Rattle.nr_reduce.specs.Items.{reducible_item}
use Rattle.nr_reduce.specs.OfferedRegions.{region_grants}
use Rattle.nr_reduce.specs.Plans.{TooLarge, Buffer, plan_of, plan_in_form, inline_plan, given_within, given_total, within, plan_size, reduced_plan, reduced_plan_by, long_plan, offering, auto_offer, auto_plan, write_offer, given_read, buffer_if, buffers, has_segment, total, read_stag, write_stag, reply_stag, regions_needed}
use Rattle.nr_reduce.specs.declared.mark.ResumedCall.{ResumedCall}
use Rattle.nr_reduce.specs.ClientState.{ClientState, OutstandingCall, WaitingCall, call_payload, plan_for, plan_unless, waiting_call, waiting_from, waiting_regions, client_memory_at, region_of}
use Rattle.nr_reduce.specs.ClientMessages.{reply_verdict}
use Rattle.nr_reduce.specs.Client.{client_segment, outcomes_of, due_with_response, with_hello, client_rules, client_output, client_state_after, call_output, calls_output, response_output, segment_request, plan_or, outstanding_of, with_message, with_request, with_segment, revoked_call, revoked_waiting, regions_unless_waiting, initial_client}
use Rattle.nr_reduce.specs.Run.{client, output_due}
use Rattle.nr_laws.specs.Typed.{IsTyped}
use Rattle.nr_byte_laws.specs.DueBytes.{CompletedInBytes, ResumedInBytes, AreInBytes}
use Rattle.nr_laws.proofs.WaitingCalls.{first_there, others_there}
use Rattle.nr_laws.proofs.EventOutputs.{IsNext}
use Rattle.nr_laws.proofs.Basics.{each_append, each_kept}
use Rattle.nr_laws.proofs.Bytes.{bytes_both}
use Rattle.nr_laws.proofs.CallTargets.{bytes_zeros, bytes_region}
use Rattle.nr_laws.proofs.Words.{payload_bytes_lem, payload_by}
use Rattle.nr_laws.proofs.ServerEvents.{received_bytes, completed_bytes}
use Rattle.nr_laws.proofs.WrittenBytes.{message_bytes_lem}
use Rattle.nr_script.proofs.ByteLists.{no_bytes_lem}
use Rattle.nr_byte_laws.proofs.ByteStreams.{send_bytes, response_bytes_lem, client_hello_bytes, final_bytes}
use Rattle.nr_byte_laws.proofs.ByteRuns.{RegionOfBytes, AccessOfBytes, memory_bytes, regions_closed_lem, CarriesBytes, KeepsBytes, run_bytes}
use Rattle.nr_byte_laws.proofs.PayloadBytes.{IfBytes, MemoryOfBytes, brought_bytes}

-- ===== plans

abbrev pub PlanOfBytes : Plan → Type 0
PlanOfBytes p = IsBytes p.inline × IsBytes p.region

reduced_by : (payload : List ℕ) (p : Plan) (o : Option Item) → IsBytes payload → PlanOfBytes p → PlanOfBytes (reduced_plan_by payload p o)
reduced_by payload p None h g = g
reduced_by payload p (Some i) h g = (IsBytes_take i.pos payload h, IsBytes_take i.len (drop i.pos payload) (IsBytes_drop i.pos payload h))

reduced_bytes : (payload : List ℕ) (p : Plan) → IsBytes payload → PlanOfBytes p → PlanOfBytes (reduced_plan payload p)
unfolding reduced_plan
reduced_bytes payload p h g = reduced_by payload p (reducible_item Call payload) h g

plan_if : (b : Bool) (p q : Plan) → PlanOfBytes p → PlanOfBytes q → PlanOfBytes (cond b p q)
plan_if true p q h g = h
plan_if false p q h g = g

offering_bytes : (payload : List ℕ) (o : Option ℕ) (p : Plan) → PlanOfBytes p → PlanOfBytes (offering payload o p)
offering_bytes payload None p h = h
offering_bytes payload (Some n) p h = h

auto_bytes : (payload : List ℕ) (up : ℕ) (p : Plan) → IsBytes payload → PlanOfBytes p → PlanOfBytes (auto_plan payload up p)
auto_bytes payload up p h g =
    let reduced = reduced_plan payload p in
    let long = long_plan payload p in
    plan_if (leb (plan_size p) up) p (cond (not (eqb (length reduced.read) 0) && leb (plan_size reduced) up) reduced long) g
    (plan_if (not (eqb (length reduced.read) 0) && leb (plan_size reduced) up) reduced long (reduced_bytes payload p h g) (no_bytes_lem, h))

given_bytes : (payload : List ℕ) (at : ℕ) (o : Option (List ℕ)) (p : Plan) → IsBytes payload → PlanOfBytes p → PlanOfBytes (given_read payload at o p)
given_bytes payload at None p h g = g
given_bytes payload at (Some lengths) p h g = (IsBytes_take at payload h, bytes_region payload at (sum lengths) h)

form_bytes : (payload : List ℕ) (form : Form) (up down : ℕ) → IsBytes payload → PlanOfBytes (plan_in_form payload form up down)
form_bytes payload forms.Auto up down h =
    let p = inline_plan payload in
    auto_bytes payload up (auto_offer payload down p) h (plan_if (leb _ down) p (offering payload (write_offer payload) p) (h, no_bytes_lem) (offering_bytes payload (write_offer payload) p (h, no_bytes_lem)))
form_bytes payload forms.Inline up down h = (h, no_bytes_lem)
form_bytes payload forms.Chunk up down h = reduced_bytes payload _ h (h, no_bytes_lem)
form_bytes payload forms.Long up down h = (no_bytes_lem, h)
form_bytes payload (forms.Given offer) up down h = given_bytes payload offer.read_at offer.read _ h (h, no_bytes_lem)

abbrev pub PlansBytes : Result Plan TooLarge → Type 0
PlansBytes (Ok p) = PlanOfBytes p
PlansBytes (Err large) = Unit {0}

within_bytes : (need room : ℕ) (answer : Result Plan TooLarge) → PlansBytes answer → PlansBytes (within need room answer)
within_bytes need room answer h = by (ltb room need)
  where
    by : (b : Bool) → PlansBytes (cond b (Err (record { need = need; room = room })) answer)
    by true = tt
    by false = h

given_within_lem : (form : Form) (answer : Result Plan TooLarge) → PlansBytes answer → PlansBytes (given_within form answer)
given_within_lem forms.Auto answer h = h
given_within_lem forms.Inline answer h = h
given_within_lem forms.Chunk answer h = h
given_within_lem forms.Long answer h = h
given_within_lem (forms.Given offer) answer h = within_bytes (given_total offer) _ answer h

pub plan_bytes : (payload : List ℕ) (form : Form) (up down : ℕ) → IsBytes payload → PlansBytes (plan_of payload form up down)
unfolding plan_of
plan_bytes payload form up down h =
    within_bytes (length payload) _ _ (given_within_lem form _ (within_bytes (plan_size (plan_in_form payload form up down)) up (Ok (plan_in_form payload form up down)) (form_bytes payload form up down h)))

or_bytes : (payload : List ℕ) (r : Result Plan TooLarge) → IsBytes payload → PlansBytes r → PlanOfBytes (plan_or payload r)
or_bytes payload (Ok p) h g = g
or_bytes payload (Err large) h g = (h, no_bytes_lem)

-- a call that waits to be sent again has its plan
abbrev WaitsInBytes : WaitingCall → Type 0
WaitsInBytes w = PlanOfBytes w.plan

submitted_bytes : (k : ClientState) (a : AcceptedCall) → IsBytes (call_payload a.xid a.call) → AllByRecursion WaitsInBytes k.waiting → PlanOfBytes (outstanding_of k a).plan
unfolding plan_for
submitted_bytes k a h waits = by (waiting_call k a.xid) refl
  where
    payload : List ℕ
    payload = call_payload a.xid a.call

    by : (x : Option WaitingCall) → waiting_call k a.xid ≡ x → PlanOfBytes (plan_or payload (plan_unless x (plan_of payload a.form k.up_max k.down_max)))
    by None is = or_bytes payload (plan_of payload a.form k.up_max k.down_max) h (plan_bytes payload a.form k.up_max k.down_max h)
    by (Some w) is = first_there WaitsInBytes k.waiting a.xid w waits is

buffer_regions : (xid place : ℕ) (b : Bool) (stag : ℕ) (right : Right) (bytes : List ℕ) → IsBytes bytes → AllByRecursion RegionOfBytes (map (region_of xid place) (buffer_if b stag right bytes))
buffer_regions xid place true stag right bytes h = (h, tt)
buffer_regions xid place false stag right bytes h = tt

mapped_both : (xid place : ℕ) (xs ys : List Buffer) → AllByRecursion RegionOfBytes (map (region_of xid place) xs) → AllByRecursion RegionOfBytes (map (region_of xid place) ys) →
    AllByRecursion RegionOfBytes (map (region_of xid place) (xs ++ ys))
mapped_both xid place [] ys h g = g
mapped_both xid place (x ∷ xs) ys h g = (h.0, mapped_both xid place xs ys h.1 g)

plan_regions : (xid place stag : ℕ) (p : Plan) → PlanOfBytes p → AllByRecursion RegionOfBytes (map (region_of xid place) (buffers stag p))
unfolding buffers
plan_regions xid place stag p h =
    let read = buffer_if (has_segment (Some p.read)) (read_stag stag p) Fetch p.region in
    let write = buffer_if (has_segment p.write) (write_stag stag p) Fill (replicate (total p.write) 0) in
    let reply = buffer_if (has_segment p.reply) (reply_stag stag p) Fill (replicate (total p.reply) 0) in
    mapped_both xid place read (write ++ reply) (buffer_regions xid place (has_segment (Some p.read)) (read_stag stag p) Fetch p.region h.1)
    (mapped_both xid place write reply (buffer_regions xid place (has_segment p.write) (write_stag stag p) Fill (replicate (total p.write) 0) (bytes_zeros (total p.write)))
    (buffer_regions xid place (has_segment p.reply) (reply_stag stag p) Fill (replicate (total p.reply) 0) (bytes_zeros (total p.reply))))

-- ===== a client

abbrev CallOfBytes : OutstandingCall → Type 0
CallOfBytes o = IsBytes o.plan.inline

record ClientOfBytes (k : ClientState) : Type 0 where
  begun : IsBytes (begun_bytes k.received.begun)
  calls : AllByRecursion CallOfBytes k.outstanding
  regions : AllByRecursion RegionOfBytes k.regions
  accesses : AllByRecursion AccessOfBytes k.accesses_received
  outcomes : AllByRecursion CompletedInBytes k.outcomes
  waits : AllByRecursion WaitsInBytes k.waiting

memory_of_bytes : (k : ClientState) (place : ℕ) → ClientOfBytes k → MemoryOfBytes (client_memory_at k place)
memory_of_bytes k place h stag = memory_bytes (region_grants place k.regions) k.regions k.accesses_received stag h.regions h.accesses

call_bytes : (o : LinkParameters) (msn : ℕ) (c : OutstandingCall) → CallOfBytes c → IsBytes (call_output o msn c)
call_bytes o msn c h = send_bytes msn _ (message_bytes_lem c.xid o.wished c.stag c.plan h)

calls_bytes : (o : LinkParameters) (msn : ℕ) (cs : List OutstandingCall) → AllByRecursion CallOfBytes cs → IsBytes (calls_output o msn cs)
calls_bytes o msn [] h = no_bytes_lem
calls_bytes o msn (c ∷ cs) h = bytes_both (call_output o msn c) (calls_output o (msn + 1) cs) (call_bytes o msn c h.0) (calls_bytes o (msn + 1) cs h.1)

read_bytes_lem : (k : ClientState) (place : ℕ) (q : Option ReadRequest) → ClientOfBytes k → IsBytes (response_output k place q)
read_bytes_lem k place None h = no_bytes_lem
read_bytes_lem k place (Some r) h =
    let memory = client_memory_at k place r.stag in
    response_bytes_lem r.sink r.sink_to (take r.size (drop r.to memory))
    (IsBytes_take r.size (drop r.to memory) (IsBytes_drop r.to memory (memory_of_bytes k place h r.stag)))

client_written_lem : (o : LinkParameters) (k : ClientState) (e : RunEvent) → CarriesBytes (record { state = k; ended = None }) e → ClientOfBytes k → IsBytes (client_output o k e)
unfolding client_output
client_written_lem o k (FrameReceived f) c h = by (is_hello f)
  where
    by : (b : Bool) → IsBytes (cond b (calls_output o 1 k.outstanding) (response_output k f.end (segment_request (client_segment k f))))
    by true = calls_bytes o 1 k.outstanding h.calls
    by false = read_bytes_lem k f.end (segment_request (client_segment k f)) h
client_written_lem o k (CallSubmitted place a) c h = by k.has_hello
  where
    by : (b : Bool) → IsBytes (cond b (call_output o (k.sends + 1) (outstanding_of k a)) [])
    by true = call_bytes o (k.sends + 1) (outstanding_of k a) (submitted_bytes k a c h.waits).0
    by false = no_bytes_lem
client_written_lem o k (MemoryRevoked place xid) c h = no_bytes_lem
client_written_lem o k (CallExecuted call) c h = no_bytes_lem
client_written_lem o k (QueueWritten taken) c h = no_bytes_lem
client_written_lem o k (ServerTold what) c h = no_bytes_lem

message_after : (k : ClientState) (place : ℕ) (m : Option (List ℕ)) → IfBytes m → ClientOfBytes k → ClientOfBytes (with_message k place m)
message_after k place None b h = h
message_after k place (Some m) b h = record {
  begun = h.begun;
  calls = each_kept CallOfBytes (λ o. not (eqb o.xid (word_at 0 m))) k.outstanding h.calls;
  regions = regions_closed_lem (λ r. eqb r.call (word_at 0 m)) place k.regions h.regions;
  accesses = h.accesses;
  outcomes = each_append CompletedInBytes k.outcomes (outcomes_of (reply_verdict k place m)) h.outcomes (brought_bytes k place m b (memory_of_bytes k place h));
  waits = h.waits;
}

request_after : (k : ClientState) (due : ℕ) (q : Option ReadRequest) → ClientOfBytes k → ClientOfBytes (with_request k due q)
request_after k due None h = h
request_after k due (Some q) h = record { begun = h.begun; calls = h.calls; regions = h.regions; accesses = h.accesses; outcomes = h.outcomes; waits = h.waits }

pub access_bytes : (f : Frame) (s : Segment) → IsBytes (payload_by s) → AllByRecursion AccessOfBytes (tagged_access f s)
access_bytes f (Tagged last opcode stag to payload) h = (h, tt)
access_bytes f (Untagged last opcode w queue msn offset payload) h = tt

same_accesses : (k : ClientState) (place : ℕ) (m : Option (List ℕ)) (due : ℕ) (q : Option ReadRequest) → IfBytes m → ClientOfBytes k → ClientOfBytes (with_request (with_message k place m) due q)
same_accesses k place m due q b h = request_after (with_message k place m) due q (message_after k place m b h)

completed_lem : (r : ReceiveState) (segment : Segment) → IsBytes (begun_bytes r.begun) → IsBytes (payload_by segment) → IfBytes (message_completed r segment)
completed_lem r segment begun b = by (message_completed r segment) refl
  where
    by : (o : Option (List ℕ)) → message_completed r segment ≡ o → IfBytes o
    by None is = tt
    by (Some message) is = completed_bytes r segment message begun b is

segment_after : (k : ClientState) (f : Frame) (r : Result Segment ℕ) → client_segment k f ≡ r → IsBytes f.bytes → ClientOfBytes k → ClientOfBytes (with_segment k f r)
segment_after k f (Err reason) is b h = h
segment_after k f (Ok segment) is b h =
    let own = payload_bytes_lem f.bytes segment b (taken_read k.invalidates f.bytes segment is) in
    let m = same_accesses k f.end (message_completed k.received segment) (due_with_response k f segment) (read_request_of segment) (completed_lem k.received segment h.begun own) h in
    record {
      begun = received_bytes k.received segment h.begun own;
      calls = m.calls;
      regions = m.regions;
      accesses = each_append AccessOfBytes k.accesses_received (tagged_access f segment) h.accesses (access_bytes f segment own);
      outcomes = m.outcomes;
      waits = m.waits;
    }

mapped_calls : (g : OutstandingCall → OutstandingCall) (cs : List OutstandingCall) → ((c : OutstandingCall) → CallOfBytes c → CallOfBytes (g c)) → AllByRecursion CallOfBytes cs → AllByRecursion CallOfBytes (map g cs)
mapped_calls g [] each h = tt
mapped_calls g (c ∷ cs) each h = (each c h.0, mapped_calls g cs each h.1)

revoked_bytes_lem : (xid : ℕ) (c : OutstandingCall) → CallOfBytes c → CallOfBytes (revoked_call xid c)
revoked_bytes_lem xid c h = by (eqb c.xid xid)
  where
    by : (b : Bool) → CallOfBytes (cond b (record c { is_revoked = true }) c)
    by true = h
    by false = h

revoked_waits : (xid : ℕ) (ws : List WaitingCall) → AllByRecursion WaitsInBytes ws → AllByRecursion WaitsInBytes (map (revoked_waiting xid) ws)
revoked_waits xid [] h = tt
revoked_waits xid (w ∷ ws) h = (by (eqb w.xid xid), revoked_waits xid ws h.1)
  where
    by : (b : Bool) → WaitsInBytes (cond b (record w { is_revoked = true }) w)
    by true = h.0
    by false = h.0

taken_regions : (x : Option WaitingCall) (place : ℕ) (o : OutstandingCall) → PlanOfBytes o.plan → AllByRecursion RegionOfBytes (regions_unless_waiting x place o)
taken_regions None place o plan = plan_regions o.xid place o.stag o.plan plan
taken_regions (Some w) place o plan = tt

client_after : (o : LinkParameters) (place : ℕ) (k : ClientState) (e : RunEvent) → IsNext place e → CarriesBytes (record { state = k; ended = None }) e → ClientOfBytes k → ClientOfBytes (client_state_after o k e)
unfolding client_state_after
client_after o place k (FrameReceived f) next c h = by (is_hello f)
  where
    by : (b : Bool) → ClientOfBytes (cond b (with_hello o k f) (with_segment k f (client_segment k f)))
    by true = record { begun = h.begun; calls = h.calls; regions = h.regions; accesses = h.accesses; outcomes = h.outcomes; waits = h.waits }
    by false = segment_after k f (client_segment k f) refl next.2 h
client_after o place k (CallSubmitted p a) next c h =
    let plan = submitted_bytes k a c h.waits in
    record {
      begun = h.begun;
      calls = each_append CallOfBytes k.outstanding (outstanding_of k a ∷ []) h.calls (plan.0, tt);
      regions = each_append RegionOfBytes k.regions (regions_unless_waiting (waiting_call k a.xid) p (outstanding_of k a)) h.regions (taken_regions (waiting_call k a.xid) p (outstanding_of k a) plan);
      accesses = h.accesses;
      outcomes = h.outcomes;
      waits = others_there WaitsInBytes k.waiting a.xid h.waits;
    }
client_after o place k (MemoryRevoked p xid) next c h = record {
  begun = h.begun;
  calls = mapped_calls (revoked_call xid) k.outstanding (revoked_bytes_lem xid) h.calls;
  regions = regions_closed_lem (λ r. eqb r.call xid) p k.regions h.regions;
  accesses = h.accesses;
  outcomes = h.outcomes;
  waits = revoked_waits xid k.waiting h.waits;
}
client_after o place k (CallExecuted call) next c h = h
client_after o place k (QueueWritten taken) next c h = record { begun = h.begun; calls = h.calls; regions = h.regions; accesses = h.accesses; outcomes = h.outcomes; waits = h.waits }
client_after o place k (ServerTold what) next c h = record { begun = h.begun; calls = h.calls; regions = h.regions; accesses = h.accesses; outcomes = h.outcomes; waits = h.waits }

client_keeps : (o : LinkParameters) → KeepsBytes (client_rules o) ClientOfBytes
client_keeps o = record {
  written = λ place k e next c h. client_written_lem o k e c h;
  after = λ place k e next c h. client_after o place k e next c h;
  last = final_bytes;
}

first_waits : (stag : ℕ) (rs : List ResumedCall) → AllByRecursion ResumedInBytes rs → AllByRecursion WaitsInBytes (waiting_from stag rs)
first_waits stag [] h = tt
first_waits stag (r ∷ rs) h = (h.0, first_waits (stag + regions_needed r.plan) rs h.1)

first_regions : (ws : List WaitingCall) → AllByRecursion WaitsInBytes ws → AllByRecursion RegionOfBytes (waiting_regions ws)
first_regions [] h = tt
first_regions (w ∷ ws) h = each_append RegionOfBytes (map (region_of w.xid 0) (buffers w.stag w.plan)) (waiting_regions ws) (plan_regions w.xid 0 w.stag w.plan h.0) (first_regions ws h.1)

begins : (o : LinkParameters) → AreInBytes Initiator o → ClientOfBytes (initial_client o).state
begins o again =
    let waits = first_waits o.first_stag o.resumed again in
    record { begun = no_bytes_lem; calls = tt; regions = first_regions (waiting_from o.first_stag o.resumed) waits; accesses = tt; outcomes = tt; waits = waits }

-- a client of a link that was not reopened sends nothing again
pub none_again : (o : LinkParameters) → o.resumed ≡ [] → AreInBytes Initiator o
none_again o none = subst (AllByRecursion ResumedInBytes) (sym none) tt

-- On every link of a run that is of its types, what its client has to write are bytes, if what it sends again are, and so are the replies that
-- messages brought to it.
pub client_due : (o : LinkParameters) (link : ℕ) (run : List Mark) → AreInBytes Initiator o → IsTyped run → IsBytes (output_due o link Initiator run)
unfolding output_due
client_due o link run again typed =
    let all = run_bytes (client_rules o) ClientOfBytes (client_keeps o) (initial_client o) link Initiator run typed (begins o again) in
    bytes_both (client_hello o) (output_for_all (client_rules o) (initial_client o) (events link Initiator run)) (client_hello_bytes o) all.0

pub outcome_bytes : (o : LinkParameters) (link : ℕ) (run : List Mark) → AreInBytes Initiator o → IsTyped run → AllByRecursion CompletedInBytes (client o link run).state.outcomes
unfolding client
outcome_bytes o link run again typed = (run_bytes (client_rules o) ClientOfBytes (client_keeps o) (initial_client o) link Initiator run typed (begins o again)).1.outcomes
