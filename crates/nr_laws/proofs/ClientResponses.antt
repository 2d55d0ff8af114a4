-- What the client of a run answers to Read Requests: for each, in order, a Read Response with the bytes of the region that it offered.
use Rattle.std.proofs.Common.{◌≡◌, ℕ, ◌+◌, Bool, true, false, cond, eqb, List, [], ◌∷◌, ◌++◌, take, drop, map, Option, None, Some, Result, Ok, Err, refl, sym, ap, subst, ◌∙◌, append_assoc, append-nil}
use Rattle.std.specs.List.{range_with_len}
use Rattle.std.specs.Prelude.{option_and_then}
use Rattle.nr_xdr.specs.Fields.{word_at}
use Rattle.nr_link.specs.Output.{segment_count}
use Rattle.nr_laws.specs.MessageSegments.{message_segment}
use Rattle.nr_wire.specs.Constants.{OPCODE_READ_REQUEST}
use Rattle.nr_wire.specs.Segment.{Segment, segment_of}
use Rattle.nr_wire.specs.Segment.Segment.{Tagged, Untagged}
use Rattle.nr_link.specs.declared.end.End.{End as Stop}
use Rattle.nr_link.specs.declared.end.End.TheVariants as ends
use Rattle.nr_link.specs.Ending.{is_hello_reason}
use Rattle.nr_link.specs.Frames.{Frame, is_hello}
use Rattle.nr_link.specs.Ending.{missing_access}
use Rattle.nr_link.specs.ReceiveState.{read_request_in, read_request_of, message_completed}
use Rattle.nr_regions.specs.declared.right.Right.TheVariants.{Fetch}
use Rattle.nr_regions.specs.RegisteredMemory.{Access}
use Rattle.nr_regions.specs.Access.{HaveOwnStags, grant_denial}
use Rattle.nr_reduce.specs.declared.mark.LinkParameters.{LinkParameters}
use Rattle.nr_reduce.specs.OfferedRegions.{Region, closed_if, regions_closed, region_grants}
use Rattle.nr_reduce.specs.Events.{RunEvent}
use Rattle.nr_reduce.specs.Events.RunEvent.{FrameReceived, CallSubmitted, MemoryRevoked, CallExecuted, QueueWritten, ServerTold}
use Rattle.nr_reduce.specs.EndRules.{EndState, next_end_state, next_end_state_by, next_end_state_in, end_state_after}
use Rattle.nr_reduce.specs.ClientState.{ClientState, OutstandingCall, client_memory_at, waiting_call}
use Rattle.nr_reduce.specs.Client.{client_segment, client_rules, client_end, client_state_after, initial_client, with_message, with_segment, outstanding_of, segment_request, with_hello, due_with_response, regions_unless_waiting}
use Rattle.nr_reduce.proofs.OwnStags.{ClientNumbers, own_stags, client_numbers}
use Rattle.nr_reduce.proofs.Steps.{end_state_after_append}
use Rattle.nr_reduce.proofs.Touches.{client_touched}
use Rattle.nr_laws.proofs.EventOutputs.{GoesOn, along, outputs_by, outputs_in, outputs_all}
use Rattle.nr_laws.proofs.ReadFrames.{client_read}
use Rattle.nr_laws.proofs.Brought.{Brings}
use Rattle.nr_laws.proofs.ClientMemory.{find_left, find_closed}
use Rattle.nr_laws.proofs.ClientSays.{ClientGood}
use Rattle.nr_laws.proofs.FetchedRegions.{IsFetched, is_fetched, fetched_bytes}
use Rattle.nr_laws.proofs.Outputs.{Output, message_outputs, message_of_call, terminate_segment, one_response, call_sends, client_says, final_outputs, response_outputs, response_segments}
use Rattle.nr_laws.proofs.Outputs.Output.{AHello, ASegment}
use Rattle.nr_laws.proofs.ReadsAlong.{request_in, requests_in}
use Rattle.nr_laws.proofs.Revoked.{request_regions}

-- ---- Tagged segments among outputs, and Read Requests among events

abbrev pub tagged_one : Segment → List Segment
tagged_one (Tagged last opcode stag to payload) = Tagged last opcode stag to payload ∷ []
tagged_one (Untagged last opcode w queue msn offset payload) = []

abbrev pub tagged_in : List Output → List Segment
tagged_in [] = []
tagged_in (AHello bytes ∷ outs) = tagged_in outs
tagged_in (ASegment s ∷ outs) = tagged_one s ++ tagged_in outs

pub tagged_append : (xs ys : List Output) → tagged_in (xs ++ ys) ≡ tagged_in xs ++ tagged_in ys
tagged_append [] ys = refl
tagged_append (AHello bytes ∷ xs) ys = tagged_append xs ys
tagged_append (ASegment s ∷ xs) ys = ap (λ (ss : List Segment). tagged_one s ++ ss) (tagged_append xs ys) ∙ sym (append_assoc (tagged_one s) (tagged_in xs) (tagged_in ys))

abbrev heard_by : Result Segment ℕ → List (List ℕ)
heard_by (Ok s) = request_in s
heard_by (Err reason) = []

abbrev pub heard_in : List RunEvent → List (List ℕ)
heard_in [] = []
heard_in (FrameReceived f ∷ es) = cond (is_hello f) [] (heard_by (segment_of f.bytes)) ++ heard_in es
heard_in (CallSubmitted p a ∷ es) = heard_in es
heard_in (MemoryRevoked p xid ∷ es) = heard_in es
heard_in (CallExecuted e ∷ es) = heard_in es
heard_in (QueueWritten taken ∷ es) = heard_in es
heard_in (ServerTold what ∷ es) = heard_in es

heard_append : (es more : List RunEvent) → heard_in (es ++ more) ≡ heard_in es ++ heard_in more
heard_append [] more = refl
heard_append (FrameReceived f ∷ es) more =
    let own : List (List ℕ) = cond (is_hello f) [] (heard_by (segment_of f.bytes)) in
    ap (λ (ps : List (List ℕ)). own ++ ps) (heard_append es more) ∙ sym (append_assoc own (heard_in es) (heard_in more))
heard_append (CallSubmitted p a ∷ es) more = heard_append es more
heard_append (MemoryRevoked p xid ∷ es) more = heard_append es more
heard_append (CallExecuted e ∷ es) more = heard_append es more
heard_append (QueueWritten taken ∷ es) more = heard_append es more
heard_append (ServerTold what ∷ es) more = heard_append es more

pub heard_brought : (es : List RunEvent) (came : List Output) → Brings es came → heard_in es ≡ requests_in came
heard_brought [] came b = ap requests_in (sym b)
heard_brought (FrameReceived f ∷ es) [] b = absurd b
heard_brought (FrameReceived f ∷ es) (AHello bytes ∷ came) b = (λ i. cond (b.0.0 i) [] (heard_by (segment_of f.bytes)) ++ heard_brought es came b.1 i)
heard_brought (FrameReceived f ∷ es) (ASegment s ∷ came) b = (λ i. cond (b.0.0 i) [] (heard_by (b.0.1 i)) ++ heard_brought es came b.1 i)
heard_brought (CallSubmitted p a ∷ es) came b = heard_brought es came b
heard_brought (MemoryRevoked p xid ∷ es) came b = heard_brought es came b
heard_brought (CallExecuted e ∷ es) came b = heard_brought es came b
heard_brought (QueueWritten taken ∷ es) came b = heard_brought es came b
heard_brought (ServerTold what ∷ es) came b = heard_brought es came b

-- ---- Answers to Read Requests

pub record Answered : Type 0 where
  pub request : List ℕ
  pub bytes : List ℕ

abbrev pub response_of : Answered → List Segment
response_of a = response_segments (read_request_in a.request).sink (read_request_in a.request).sink_to a.bytes

abbrev pub responses_of : List Answered → List Segment
responses_of [] = []
responses_of (a ∷ others) = response_of a ++ responses_of others

pub responses_append : (xs ys : List Answered) → responses_of (xs ++ ys) ≡ responses_of xs ++ responses_of ys
responses_append [] ys = refl
responses_append (x ∷ xs) ys = ap (λ (ss : List Segment). response_of x ++ ss) (responses_append xs ys) ∙ sym (append_assoc (response_of x) (responses_of xs) (responses_of ys))

abbrev pub requests_of : List Answered → List (List ℕ)
requests_of [] = []
requests_of (a ∷ others) = a.request ∷ requests_of others

requests_more : (xs ys : List Answered) → requests_of (xs ++ ys) ≡ requests_of xs ++ requests_of ys
requests_more [] ys = refl
requests_more (x ∷ xs) ys = ap (λ (ps : List (List ℕ)). x.request ∷ ps) (requests_more xs ys)

-- the data are bytes of a region that is offered to be read
pub record IsData (regions : List Region) (a : Answered) : Type 0 where
  pub fetched : IsFetched regions (read_request_in a.request).stag
  pub holds : a.bytes ≡ take (read_request_in a.request).size (drop (read_request_in a.request).to fetched.region.bytes)

abbrev pub EachData : List Region → List Answered → Type 0
EachData regions [] = Unit {0}
EachData regions (a ∷ others) = IsData regions a × EachData regions others

data_with : (xs ys : List Region) → ((a : Answered) → IsData xs a → IsData ys a) → (others : List Answered) → EachData xs others → EachData ys others
data_with xs ys f [] h = tt
data_with xs ys f (a ∷ others) h = (f a h.0, data_with xs ys f others h.1)

data_more : (regions : List Region) (others bs : List Answered) → EachData regions others → EachData regions bs → EachData regions (others ++ bs)
data_more regions [] bs h g = g
data_more regions (a ∷ others) bs h g = (h.0, data_more regions others bs h.1 g)

closed_fields : (b : Bool) (place : ℕ) (r : Region) → ((closed_if b place r).stag ≡ r.stag) × ((closed_if b place r).right ≡ r.right) × ((closed_if b place r).bytes ≡ r.bytes)
closed_fields true place r = (refl, refl, refl)
closed_fields false place r = (refl, refl, refl)

data_closed : (test : Region → Bool) (place : ℕ) (regions : List Region) (a : Answered) → IsData regions a → IsData (regions_closed test place regions) a
data_closed test place regions a h =
    let f = h.fetched in
    let c = closed_fields (test f.region) place f.region in
    record {
      fetched = record { region = closed_if (test f.region) place f.region; there = find_closed test place (read_request_in a.request).stag regions f.region f.there; own = c.0 ∙ f.own; right = c.1 ∙ f.right };
      holds = h.holds ∙ ap (λ (bytes : List ℕ). take (read_request_in a.request).size (drop (read_request_in a.request).to bytes)) (sym c.2);
    }

data_left : (xs ys : List Region) (a : Answered) → IsData xs a → IsData (xs ++ ys) a
data_left xs ys a h =
    let f = h.fetched in
    record { fetched = record { region = f.region; there = find_left (read_request_in a.request).stag xs ys f.region f.there; own = f.own; right = f.right }; holds = h.holds }

-- ---- Along the events

pub record ClientAnswers (opened : LinkParameters) (es : List RunEvent) (k : ClientState) (ended : Option Stop) (outs : List Output) : Type 0 where
  pub answered : List Answered
  pub later : List (List ℕ)
  pub segments : tagged_in outs ≡ responses_of answered
  pub holds : EachData k.regions answered
  pub requests : heard_in es ≡ requests_of answered ++ later
  pub live : ended ≡ None → later ≡ []

tagged_pieces : (msn : ℕ) (message is : List ℕ) → tagged_in (map ASegment (map (message_segment msn message) is)) ≡ []
tagged_pieces msn message [] = refl
tagged_pieces msn message (i ∷ is) = tagged_pieces msn message is

tagged_message : (msn : ℕ) (message : List ℕ) → tagged_in (message_outputs msn message) ≡ []
tagged_message msn message = tagged_pieces msn message (range_with_len 0 (segment_count message))

tagged_sends : (opened : LinkParameters) (msn : ℕ) (os : List OutstandingCall) → tagged_in (call_sends opened msn os) ≡ []
tagged_sends opened msn [] = refl
tagged_sends opened msn (o ∷ os) =
    tagged_append (message_outputs msn (message_of_call opened o)) (call_sends opened (msn + 1) os)
    ∙ (λ i. tagged_message msn (message_of_call opened o) i ++ tagged_sends opened (msn + 1) os i)

tagged_final : (end : Stop) → tagged_in (final_outputs end) ≡ []
tagged_final (ends.Bad at reason) = by (is_hello_reason reason)
  where
    by : (b : Bool) → tagged_in (cond b [] (ASegment (terminate_segment reason) ∷ [])) ≡ []
    by true = refl
    by false = refl
tagged_final (ends.Denied stag offset why) = refl
tagged_final (ends.NoBuffer msn) = refl
tagged_final (ends.Terminated reason) = refl
tagged_final ends.Memory = refl

tagged_responses : (stag to : ℕ) (bytes : List ℕ) (is : List ℕ) → tagged_in (map ASegment (map (one_response stag to bytes) is)) ≡ map (one_response stag to bytes) is
tagged_responses stag to bytes [] = refl
tagged_responses stag to bytes (i ∷ is) = ap (λ (ss : List Segment). one_response stag to bytes i ∷ ss) (tagged_responses stag to bytes is)

-- an event without a Read Request, or after the end, for which nothing tagged is said
quiet_answers : (opened : LinkParameters) (es : List RunEvent) (e : RunEvent) (k after : ClientState) (ended now : Option Stop) (outs more : List Output) → tagged_in more ≡ [] → (now ≡ None → (ended ≡ None) × (heard_in (e ∷ []) ≡ []))
    → ((a : Answered) → IsData k.regions a → IsData after.regions a) → ClientAnswers opened es k ended outs → ClientAnswers opened (es ++ e ∷ []) after now (outs ++ more)
quiet_answers opened es e k after ended now outs more none live kept h = record {
  answered = h.answered;
  later = h.later ++ heard_in (e ∷ []);
  segments = tagged_append outs more ∙ ap (λ (ss : List Segment). tagged_in outs ++ ss) none ∙ append-nil (tagged_in outs) ∙ h.segments;
  holds = data_with k.regions after.regions kept h.answered h.holds;
  requests = heard_append es (e ∷ []) ∙ ap (λ (ps : List (List ℕ)). ps ++ heard_in (e ∷ [])) h.requests ∙ append_assoc (requests_of h.answered) h.later (heard_in (e ∷ []));
  live = λ n. (let l = live n in (λ i. h.live l.0 i ++ l.1 i));
}

message_regions : (k : ClientState) (place : ℕ) (o : Option (List ℕ)) (a : Answered) → IsData k.regions a → IsData (with_message k place o).regions a
message_regions k place None a h = h
message_regions k place (Some message) a h = data_closed (λ r. eqb r.call (word_at 0 message)) place k.regions a h

segment_regions : (k : ClientState) (f : Frame) (r : Result Segment ℕ) (a : Answered) → IsData k.regions a → IsData (with_segment k f r).regions a
segment_regions k f (Err reason) a h = h
segment_regions k f (Ok s) a h = subst (λ (rs : List Region). IsData rs a) (sym (request_regions (with_message k f.end (message_completed k.received s)) (due_with_response k f s) (read_request_of s))) (message_regions k f.end (message_completed k.received s) a h)

fetched_request : (opened : LinkParameters) (k : ClientState) (f : Frame) (opcode w queue msn offset : ℕ) (last : Bool) (payload : List ℕ) → HaveOwnStags (region_grants f.end k.regions) → is_hello f ≡ false → client_segment k f ≡ Ok (Untagged last opcode w queue msn offset payload)
    → client_end k (FrameReceived f) ≡ None → eqb opcode OPCODE_READ_REQUEST ≡ true → IsData k.regions (record { request = payload; bytes = take (read_request_in payload).size (drop (read_request_in payload).to (client_memory_at k f.end (read_request_in payload).stag)) })
fetched_request opened k f opcode w queue msn offset last payload own behind is stays asks =
    let q = read_request_in payload in
    let access : Access = record { right = Fetch; stag = q.stag; to = q.to; len = q.size } in
    let lacks : missing_access (region_grants f.end k.regions) f (Untagged last opcode w queue msn offset payload) ≡ None = client_touched k f (Untagged last opcode w queue msn offset payload) behind is stays in
    let allowed : grant_denial (region_grants f.end k.regions) access f.end ≡ None =
    ap (λ (b : Bool). option_and_then (λ (x : Access). grant_denial (region_grants f.end k.regions) x f.end) (cond b (Some access) None)) (sym asks) ∙ lacks in
    let t = is_fetched f.end f.end access k.regions refl own allowed in
    record { fetched = t; holds = ap (λ (bytes : List ℕ). take q.size (drop q.to bytes)) (fetched_bytes f.end q.stag k.regions k.accesses_received own t) }

-- ---- Each event

-- a frame that doesn't end the client, after the hello
heard_answers : (opened : LinkParameters) (es : List RunEvent) (k : ClientState) (outs : List Output) (f : Frame) → HaveOwnStags (region_grants f.end k.regions) → is_hello f ≡ false → client_end k (FrameReceived f) ≡ None → ClientAnswers opened es k None outs
    → (r : Result Segment ℕ) → client_segment k f ≡ r → ClientAnswers opened (es ++ FrameReceived f ∷ []) (with_segment k f r) None (outs ++ response_outputs k f.end (segment_request r))
heard_answers opened es k outs f own behind stays h (Err reason) is =
    quiet_answers opened es (FrameReceived f) k k None None outs [] refl (λ n. (refl, (λ i. cond (behind i) [] (heard_by ((sym (client_read k f behind stays) ∙ is) i)) ++ []))) (λ a d. d) h
heard_answers opened es k outs f own behind stays h (Ok (Tagged last opcode stag to payload)) is =
    let s : Segment = Tagged last opcode stag to payload in
    quiet_answers opened es (FrameReceived f) k (with_segment k f (Ok s)) None None outs [] refl (λ n. (refl, (λ i. cond (behind i) [] (heard_by ((sym (client_read k f behind stays) ∙ is) i)) ++ []))) (segment_regions k f (Ok s)) h
heard_answers opened es k outs f own behind stays h (Ok (Untagged last opcode w queue msn offset payload)) is = by (eqb opcode OPCODE_READ_REQUEST) refl
  where
    s : Segment
    s = Untagged last opcode w queue msn offset payload

    after : ClientState
    after = with_segment k f (Ok s)

    one : Answered
    one = record { request = payload; bytes = take (read_request_in payload).size (drop (read_request_in payload).to (client_memory_at k f.end (read_request_in payload).stag)) }

    heard : heard_in (FrameReceived f ∷ []) ≡ cond (eqb opcode OPCODE_READ_REQUEST) (payload ∷ []) [] ++ []
    heard = (λ i. cond (behind i) [] (heard_by ((sym (client_read k f behind stays) ∙ is) i)) ++ [])

    by : (b : Bool) → eqb opcode OPCODE_READ_REQUEST ≡ b → ClientAnswers opened (es ++ FrameReceived f ∷ []) after None (outs ++ response_outputs k f.end (cond b (Some (read_request_in payload)) None))
    by false asks = quiet_answers opened es (FrameReceived f) k after None None outs [] refl (λ n. (refl, heard ∙ ap (λ (b : Bool). cond b (payload ∷ []) [] ++ []) asks)) (segment_regions k f (Ok s)) h
    by true asks =
        let q = read_request_in payload in
        let more : List Output = response_outputs k f.end (Some q) in
        record {
          answered = h.answered ++ one ∷ [];
          later = [];
          segments = tagged_append outs more ∙ (λ i. h.segments i ++ tagged_responses q.sink q.sink_to one.bytes (range_with_len 0 (segment_count one.bytes)) i)
              ∙ ap (λ (ss : List Segment). responses_of h.answered ++ ss) (sym (append-nil (response_of one))) ∙ sym (responses_append h.answered (one ∷ []));
          holds = data_more after.regions h.answered (one ∷ []) (data_with k.regions after.regions (segment_regions k f (Ok s)) h.answered h.holds)
              (segment_regions k f (Ok s) one (fetched_request opened k f opcode w queue msn offset last payload own behind is stays asks), tt);
          requests = heard_append es (FrameReceived f ∷ [])
              ∙ (λ i. (h.requests ∙ ap (λ (ps : List (List ℕ)). requests_of h.answered ++ ps) (h.live refl) ∙ append-nil (requests_of h.answered)) i ++ (heard ∙ ap (λ (b : Bool). cond b (payload ∷ []) [] ++ []) asks) i)
              ∙ sym (requests_more h.answered (one ∷ [])) ∙ sym (append-nil (requests_of (h.answered ++ one ∷ [])));
          live = λ n. refl;
        }

frame_answers : (opened : LinkParameters) (es : List RunEvent) (k : ClientState) (outs : List Output) (f : Frame) → HaveOwnStags (region_grants f.end k.regions) → client_end k (FrameReceived f) ≡ None → ClientAnswers opened es k None outs
    → ClientAnswers opened (es ++ FrameReceived f ∷ []) (client_state_after opened k (FrameReceived f)) None (outs ++ client_says opened k (FrameReceived f))
unfolding client_state_after client_says
frame_answers opened es k outs f own stays h = by (is_hello f) refl
  where
    by : (b : Bool) → is_hello f ≡ b → ClientAnswers opened (es ++ FrameReceived f ∷ []) (cond b (with_hello opened k f) (with_segment k f (client_segment k f))) None
        (outs ++ cond b (call_sends opened 1 k.outstanding) (response_outputs k f.end (segment_request (client_segment k f))))
    by true first =
        quiet_answers opened es (FrameReceived f) k (with_hello opened k f) None None outs (call_sends opened 1 k.outstanding) (tagged_sends opened 1 k.outstanding)
        (λ n. (refl, (λ i. cond (first i) [] (heard_by (segment_of f.bytes)) ++ []))) (λ a d. d) h
    by false behind = heard_answers opened es k outs f own behind stays h (client_segment k f) refl

ended_answers : (opened : LinkParameters) (es : List RunEvent) (k : ClientState) (ended : Option Stop) (end : Stop) (outs more : List Output) (e : RunEvent) → tagged_in more ≡ [] → ClientAnswers opened es k ended outs → ClientAnswers opened (es ++ e ∷ []) k (Some end) (outs ++ more)
ended_answers opened es k ended end outs more e none h = quiet_answers opened es e k k ended (Some end) outs more none (λ n. absurd cc) (λ a d. d) h

answers_event : (opened : LinkParameters) (es : List RunEvent) (k : ClientState) (outs : List Output) (e : RunEvent) → ((place : ℕ) → HaveOwnStags (region_grants place k.regions)) → ClientAnswers opened es k None outs → (o : Option Stop) → client_end k e ≡ o
    → ClientAnswers opened (es ++ e ∷ []) (next_end_state_by (client_rules opened) k e o).state (next_end_state_by (client_rules opened) k e o).ended (outs ++ outputs_by (client_rules opened) (client_says opened) final_outputs k e o)
unfolding client_state_after client_says
answers_event opened es k outs e own h (Some end) stops = ended_answers opened es k None end outs (final_outputs end) e (tagged_final end) h
answers_event opened es k outs (FrameReceived f) own h None stays = frame_answers opened es k outs f (own f.end) stays h
answers_event opened es k outs (CallSubmitted p a) own h None stays =
    quiet_answers opened es (CallSubmitted p a) k (client_state_after opened k (CallSubmitted p a)) None None outs (client_says opened k (CallSubmitted p a)) (by k.has_hello) (λ n. (refl, refl))
    (data_left k.regions (regions_unless_waiting (waiting_call k a.xid) p (outstanding_of k a))) h
  where
    by : (b : Bool) → tagged_in (cond b (message_outputs (k.sends + 1) (message_of_call opened (outstanding_of k a))) []) ≡ []
    by true = tagged_message (k.sends + 1) (message_of_call opened (outstanding_of k a))
    by false = refl
answers_event opened es k outs (MemoryRevoked p xid) own h None stays =
    quiet_answers opened es (MemoryRevoked p xid) k (client_state_after opened k (MemoryRevoked p xid)) None None outs [] refl (λ n. (refl, refl)) (data_closed (λ r. eqb r.call xid) p k.regions) h
answers_event opened es k outs (CallExecuted x) own h None stays = quiet_answers opened es (CallExecuted x) k k None None outs [] refl (λ n. (refl, refl)) (λ a d. d) h
answers_event opened es k outs (QueueWritten taken) own h None stays = quiet_answers opened es (QueueWritten taken) k (client_state_after opened k (QueueWritten taken)) None None outs [] refl (λ n. (refl, refl)) (λ a d. d) h
answers_event opened es k outs (ServerTold what) own h None stays = quiet_answers opened es (ServerTold what) k (client_state_after opened k (ServerTold what)) None None outs [] refl (λ n. (refl, refl)) (λ a d. d) h

answers_in : (opened : LinkParameters) (es : List RunEvent) (k : ClientState) (ended : Option Stop) (outs : List Output) (e : RunEvent) → ((place : ℕ) → HaveOwnStags (region_grants place k.regions)) → ClientAnswers opened es k ended outs
    → ClientAnswers opened (es ++ e ∷ []) (next_end_state_in (client_rules opened) k e ended).state (next_end_state_in (client_rules opened) k e ended).ended (outs ++ outputs_in (client_rules opened) (client_says opened) final_outputs k e ended)
answers_in opened es k (Some end) outs e own h = ended_answers opened es k (Some end) end outs [] e refl h
answers_in opened es k None outs e own h = answers_event opened es k outs e own h (client_end k e) refl

pub record AnswersAt (opened : LinkParameters) (es : List RunEvent) (r : EndState ClientState) (outs : List Output) : Type 0 where
  pub state : r ≡ end_state_after (client_rules opened) (initial_client opened) es
  pub answers : ClientAnswers opened es r.state r.ended outs

answers_nothing : (opened : LinkParameters) → ClientAnswers opened [] (initial_client opened).state None []
answers_nothing opened = record { answered = []; later = []; segments = refl; holds = tt; requests = refl; live = λ n. refl }

pub answers_along : (opened : LinkParameters) (es : List RunEvent) → GoesOn (client_rules opened) (ClientGood opened) 0 (initial_client opened) es
    → AnswersAt opened es (end_state_after (client_rules opened) (initial_client opened) es) (outputs_all (client_rules opened) (client_says opened) final_outputs (initial_client opened) es)
answers_along opened es g =
    along (client_rules opened) (client_says opened) final_outputs (ClientGood opened) (λ es place r outs. AnswersAt opened es r outs)
    (λ es place r outs e next good p. record {
      state = ap (λ (x : EndState ClientState). next_end_state (client_rules opened) x e) p.state ∙ sym (end_state_after_append (client_rules opened) (initial_client opened) es (e ∷ []));
      answers = answers_in opened es r.state r.ended outs e (λ q. own_stags q opened.first_stag r.state.regions (subst (λ (x : EndState ClientState). ClientNumbers opened x.state) (sym p.state) (client_numbers opened es)).regions) p.answers;
    })
    [] 0 (initial_client opened) [] es g (record { state = refl; answers = answers_nothing opened })
