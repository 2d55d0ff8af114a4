-- Each event of a server on a matched link.
use Rattle.std.proofs.Common.{◌≡◌, ℕ, ◌+◌, ◌≤◌, ◌<◌, Bool, true, false, cond, ◌&&◌, not, eqb, List, [], ◌∷◌, ◌++◌, length, map, Option, None, Some, Result, Ok, refl, sym, ap, subst, ◌∙◌, arith, append-nil, length-append, inl, inr, eqb-true}
use Rattle.nr_xdr.specs.Item.{IsBytes}
use Rattle.nr_wire.specs.declared.hello.Side.TheVariants.{Initiator}
use Rattle.nr_wire.specs.declared.stream.Awaited.TheVariants.{Fpdu}
use Rattle.nr_wire.specs.Constants.{OPCODE_READ_REQUEST}
use Rattle.nr_wire.specs.Segment.{Segment}
use Rattle.nr_wire.specs.Segment.Segment.{Tagged, Untagged}
use Rattle.nr_link.specs.declared.end.End.{End as Stop}
use Rattle.nr_link.specs.declared.end.End.TheVariants as ends
use Rattle.nr_link.specs.Frames.{Frame, is_hello}
use Rattle.nr_link.specs.Output.{refusing_hello}
use Rattle.nr_link.specs.ReceiveState.{ReceiveState, received_after, message_completed, begun_bytes, is_send, send_continued, stag_invalidated}
use Rattle.nr_link.specs.Ending.{frame_segment}
use Rattle.nr_link.proofs.TakenSegments.{frame_read}
use Rattle.nr_reduce.specs.Hellos.{server_hello}
use Rattle.nr_reduce.proofs.OwnLimits.{ServerLimits, server_limits}
use Rattle.nr_reduce.specs.declared.mark.LinkParameters.{LinkParameters}
use Rattle.nr_reduce.specs.History.{ExecutedCall}
use Rattle.nr_reduce.specs.Events.{RunEvent}
use Rattle.nr_reduce.specs.Events.RunEvent.{FrameReceived, CallSubmitted, MemoryRevoked, CallExecuted, QueueWritten, ServerTold}
use Rattle.nr_reduce.specs.EndRules.{EndState, next_end_state, next_end_state_by, output_for_by}
use Rattle.nr_reduce.specs.Holds.{Answer, answer_message, chunk_error}
use Rattle.nr_reduce.specs.ChunkBytes.{answer_segments}
use Rattle.nr_reduce.specs.ServerState.{ServerState, ReadyCall, credit_word}
use Rattle.nr_reduce.specs.ServerFrames.{FrameEffect, frame_effect}
use Rattle.nr_reduce.specs.Server.{server_rules, server_end, server_output, server_state_after, with_effect, received_by, offer_of, with_own_hello, stag_named}
use Rattle.nr_reduce.specs.RunLaws.{server_by}
use Rattle.nr_laws.proofs.FirstHellos.{server_hello_is}
use Rattle.nr_laws.proofs.EventOutputs.{IsNext, place_after, outputs_by, outputs_for}
use Rattle.nr_laws.proofs.Outputs.{Output, bytes_of_all, server_says, server_said, message_outputs, server_final_outputs, server_final_said, final_outputs, effect_outputs, answer_outputs, answer_of_call, named_outputs}
use Rattle.nr_laws.proofs.Outputs.Output.{AHello, ASegment}
use Rattle.nr_laws.proofs.Brought.{AreFrom, IsHelloFrame}
use Rattle.nr_laws.proofs.Words.{payload_bytes_lem, payload_by}
use Rattle.nr_laws.specs.MessageSegments.{named_segment}
use Rattle.nr_laws.proofs.Completions.{completed_by, completed_from, begun_from, begun_append, completed_at_lem, Completes, completes_none, completes_message, completes_tagged, completes_final, completes_named}
use Rattle.nr_laws.proofs.Memory.{Part, parts_out, out_append}
use Rattle.nr_laws.proofs.ClientAlong.{final_words}
use Rattle.nr_laws.proofs.ServerOutputs.{CallsFit, IsFine, fine_frame, AreFine, fine_effect, fine_answer, tagged_answer, CallFits}
use Rattle.nr_laws.proofs.ServerEnds.{BigEnd, segment_ends, hello_goes, stopped_as_old}
use Rattle.nr_link.specs.Reasons.{REASON_OLD}
use Rattle.nr_reduce.specs.declared.mark.Told.{Told}
use Rattle.nr_laws.proofs.PlainOutputs.{plain_message, plain_effect, names_none_at}
use Rattle.nr_laws.proofs.SegmentedMessages.{last_segment_names}
use Rattle.nr_laws.proofs.ServerAlong.{IsGoodExecution, ServerGood, SaidBy, is_live, outs_of, at_most_lem, nothing_at, Greeted, greeted_more, Shape, ServerTells, Grows, grown}
use Rattle.nr_laws.proofs.ServerAlong.Said.{IsRefusal, IsAnswer, IsNoAnswer}
use Rattle.nr_laws.proofs.Basics.{above_zero, each_kept, first_is_lem, rest_is_lem, PartedTwo, parted_two}
use Rattle.nr_laws.proofs.Basics.PartedTwo.{InFirst, InSecond}
use Rattle.std.specs.List.{range_with_len}
use Rattle.nr_link.specs.Output.{segment_count, segment_payload}
use Rattle.nr_laws.proofs.Bytes.{bytes_both}

-- ---- The bytes that are received

pub received_bytes : (h : ReceiveState) (s : Segment) → IsBytes (begun_bytes h.begun) → IsBytes (payload_by s) → IsBytes (begun_bytes (received_after h s).begun)
received_bytes h (Tagged last opcode stag to payload) b p = b
received_bytes h (Untagged last opcode w queue msn offset payload) b p = by (is_send opcode)
  where
    by_last : (l : Bool) → IsBytes (begun_bytes (send_continued h l payload).begun)
    by_last true = λ i. omega arith
    by_last false = bytes_both (begun_bytes h.begun) payload b p

    by_read : (c : Bool) → IsBytes (begun_bytes (cond c (record { sends = h.sends; begun = h.begun; requests = h.requests + 1 }) h).begun)
    by_read true = b
    by_read false = b

    by : (c : Bool) → IsBytes (begun_bytes (cond c (send_continued h last payload) (cond (eqb opcode OPCODE_READ_REQUEST) (record { sends = h.sends; begun = h.begun; requests = h.requests + 1 }) h)).begun)
    by true = by_last last
    by false = by_read (eqb opcode OPCODE_READ_REQUEST)

pub completed_bytes : (h : ReceiveState) (s : Segment) (m : List ℕ) → IsBytes (begun_bytes h.begun) → IsBytes (payload_by s) → message_completed h s ≡ Some m → IsBytes m
completed_bytes h (Tagged last opcode stag to payload) m b p e = absurd cc
completed_bytes h (Untagged last opcode w queue msn offset payload) m b p e = by (is_send opcode && last) e
  where
    by : (c : Bool) → cond c (Some (begun_bytes h.begun ++ payload)) None ≡ Some m → IsBytes m
    by true e = subst IsBytes (let t : begun_bytes h.begun ++ payload ≡ m = cc in t) (bytes_both (begun_bytes h.begun) payload b p)
    by false e = absurd cc

-- ---- An end

server_final_words : (end : Stop) → BigEnd (Some end) → AreFrom Fpdu (server_final_outputs end)
server_final_words (ends.Bad at reason) h = by (eqb reason 2) refl
  where
    by : (b : Bool) → eqb reason 2 ≡ b → AreFrom Fpdu (cond b (AHello refusing_hello ∷ []) (final_outputs (ends.Bad at reason)))
    by true is = absurd (let e = eqb-true reason 2 is in omega (arith, e, h))
    by false is = final_words (ends.Bad at reason)
server_final_words (ends.Denied stag offset why) h = final_words (ends.Denied stag offset why)
server_final_words (ends.NoBuffer msn) h = final_words (ends.NoBuffer msn)
server_final_words (ends.Terminated reason) h = tt
server_final_words ends.Memory h = tt

server_final_none : (end : Stop) → Completes (server_final_outputs end) []
server_final_none (ends.Bad at reason) = by (eqb reason 2)
  where
    by : (b : Bool) → Completes (cond b (AHello refusing_hello ∷ []) (final_outputs (ends.Bad at reason))) []
    by true = record { completed = refl; begun = refl }
    by false = completes_final (ends.Bad at reason)
server_final_none (ends.Denied stag offset why) = completes_final (ends.Denied stag offset why)
server_final_none (ends.NoBuffer msn) = completes_final (ends.NoBuffer msn)
server_final_none (ends.Terminated reason) = completes_none
server_final_none ends.Memory = completes_none

-- outputs without a message have no cause to give
no_cause_lem : {W : Type 0} (more pre : List Output) (s : Segment) (post : List Output) (m : List ℕ) → completed_from None more ≡ [] → more ≡ pre ++ ASegment s ∷ post → completed_by (begun_from None pre) s ≡ m ∷ [] → W
no_cause_lem more pre s post m none is one = absurd (nothing_at (completed_from None more) (completed_from None pre) m (completed_from None post) none (ap (λ (xs : List Output). completed_from None xs) is ∙ completed_at_lem pre s post m one))

-- ---- Frames

hello_step : (opened : LinkParameters) (es : List RunEvent) (place : ℕ) (k : ServerState) (outs : List Output) (f : Frame) → IsNext place (FrameReceived f) → is_hello f ≡ true → IsHelloFrame Initiator f.bytes
    → ServerTells opened es place (record { state = k; ended = None }) outs → Grows opened es place (record { state = k; ended = None }) outs (FrameReceived f) (AHello (server_hello opened f) ∷ [])
unfolding server_says server_output server_state_after
hello_step opened es place k outs f next first read t =
    let rules = server_rules opened in
    let stays = hello_goes opened k f first read in
    let same : next_end_state rules (record { state = k; ended = None }) (FrameReceived f) ≡ record { state = with_own_hello opened k f; ended = None } =
    ap (λ (o : Option Stop). next_end_state_by rules k (FrameReceived f) o) stays ∙ ap (λ (b : Bool). record { state = cond b (with_own_hello opened k f) (with_effect k f (frame_effect k f)); ended = None }) first in
    let at_start : place ≡ 0 = sym next.0 ∙ eqb-true f.at 0 first in
    let none : outs ≡ [] = by_shape t.shape at_start in
    record {
      outputs = ap (λ (o : Option Stop). outputs_by rules (server_says opened) server_final_outputs k (FrameReceived f) o) stays ∙ ap (λ (b : Bool). cond b (AHello (server_hello opened f) ∷ []) (effect_outputs k (frame_effect k f))) first;
      said = ap (λ (o : Option Stop). output_for_by rules k (FrameReceived f) o) stays ∙ ap (λ (b : Bool). cond b (server_hello opened f) (Rattle.nr_reduce.specs.Server.effect_output k (frame_effect k f))) first ∙ sym (append-nil (server_hello opened f));
      begun = subst (λ (r : EndState ServerState). IsBytes (begun_bytes r.state.received.begun)) (sym same) t.begun;
      fit = subst (λ (r : EndState ServerState). CallsFit r.state.calls) (sym same) t.fit;
      shape = inr ((let g = next.1 in omega (arith, g)), (server_hello opened f, [], ap (λ (xs : List Output). xs ++ AHello (server_hello opened f) ∷ []) none, server_hello_is opened f, tt));
      none_begun = refl;
      cause = λ pre s post m is one. no_cause_lem (AHello (server_hello opened f) ∷ []) pre s post m refl is one;
    }
  where
    by_shape : Shape place (record { state = k; ended = None }) outs → place ≡ 0 → outs ≡ []
    by_shape (inl h) z = h.1
    by_shape (inr h) z = absurd (let lt = h.0 in omega (arith, lt, z))

later_shape : (place : ℕ) (r : EndState ServerState) (outs : List Output) → 0 < place → Shape place r outs → Greeted outs
later_shape place r outs some (inl h) = absurd (let z = h.0 in omega (arith, z, some))
later_shape place r outs some (inr h) = h.1

segment_step : (opened : LinkParameters) (es : List RunEvent) (place : ℕ) (k : ServerState) (outs : List Output) (f : Frame) (s : Segment) → IsNext place (FrameReceived f) → is_hello f ≡ false → frame_segment f ≡ Ok s
    → ServerTells opened es place (record { state = k; ended = None }) outs → (o : Option Stop) → server_end opened k (FrameReceived f) ≡ o
    → Grows opened es place (record { state = k; ended = None }) outs (FrameReceived f) (outputs_by (server_rules opened) (server_says opened) server_final_outputs k (FrameReceived f) o)
unfolding server_says server_output server_state_after
segment_step opened es place k outs f s next behind is t (Some end) stops =
    let rules = server_rules opened in
    let same : next_end_state rules (record { state = k; ended = None }) (FrameReceived f) ≡ record { state = k; ended = Some end } = ap (λ (o : Option Stop). next_end_state_by rules k (FrameReceived f) o) stops in
    let greeted = later_shape place (record { state = k; ended = None }) outs (let p = above_zero f.at behind in let e = next.0 in omega (arith, p, e)) t.shape in
    let words = server_final_words end (subst BigEnd stops (segment_ends opened k f s behind is)) in
    let none = server_final_none end in
    record {
      outputs = ap (λ (o : Option Stop). outputs_by rules (server_says opened) server_final_outputs k (FrameReceived f) o) stops;
      said = ap (λ (o : Option Stop). output_for_by rules k (FrameReceived f) o) stops ∙ server_final_said end;
      begun = subst (λ (r : EndState ServerState). IsBytes (begun_bytes r.state.received.begun)) (sym same) t.begun;
      fit = subst (λ (r : EndState ServerState). CallsFit r.state.calls) (sym same) t.fit;
      shape = inr ((let g = next.1 in omega (arith, g)), greeted_more outs (server_final_outputs end) greeted words);
      none_begun = none.begun;
      cause = λ pre x post m e one. no_cause_lem (server_final_outputs end) pre x post m none.completed e one;
    }
segment_step opened es place k outs f s next behind is t None stays =
    let rules = server_rules opened in
    let effect : FrameEffect = frame_effect k f in
    let same : next_end_state rules (record { state = k; ended = None }) (FrameReceived f) ≡ record { state = with_effect k f effect; ended = None } =
    ap (λ (o : Option Stop). next_end_state_by rules k (FrameReceived f) o) stays ∙ ap (λ (b : Bool). record { state = cond b (with_own_hello opened k f) (with_effect k f effect); ended = None }) behind in
    let greeted = later_shape place (record { state = k; ended = None }) outs (let p = above_zero f.at behind in let e = next.0 in omega (arith, p, e)) t.shape in
    let payload : IsBytes (payload_by s) = payload_bytes_lem f.bytes s next.2 (frame_read f s is) in
    let fine : IsFine effect = fine_frame k f (λ x m own whole. completed_bytes k.received x m t.begun (payload_bytes_lem f.bytes x next.2 (frame_read f x own)) whole) t.fit in
    let own : AreFine (effect_outputs k effect) effect.errors = fine_effect k effect fine in
    let says : cond (is_hello f) (AHello (server_hello opened f) ∷ []) (effect_outputs k effect) ≡ effect_outputs k effect = ap (λ (b : Bool). cond b (AHello (server_hello opened f) ∷ []) (effect_outputs k effect)) behind in
    record {
      outputs = ap (λ (o : Option Stop). outputs_by rules (server_says opened) server_final_outputs k (FrameReceived f) o) stays;
      said = ap (λ (o : Option Stop). output_for_by rules k (FrameReceived f) o) stays ∙ server_said opened k (FrameReceived f);
      begun = subst (λ (r : EndState ServerState). IsBytes (begun_bytes r.state.received.begun)) (sym same)
          (subst (λ (x : Result Segment ℕ). IsBytes (begun_bytes (received_by k.received x).begun)) (sym is) (received_bytes k.received s t.begun payload));
      fit = subst (λ (r : EndState ServerState). CallsFit r.state.calls) (sym same) fine.fit;
      shape = inr ((let g = next.1 in omega (arith, g)), subst (λ (xs : List Output). Greeted (outs ++ xs)) (sym says) (greeted_more outs (effect_outputs k effect) greeted own.words));
      none_begun = subst (λ (xs : List Output). begun_from None xs ≡ None) (sym says) own.completes.begun;
      cause = λ pre x post m e one.
          (let all = at_most_lem effect.errors fine.errors (completed_from None pre) m (completed_from None post)
          (sym own.completes.completed ∙ ap (λ (xs : List Output). completed_from None xs) (sym says ∙ e) ∙ completed_at_lem pre x post m one) in
          let at : k ≡ server_by opened es = ap (λ (r : EndState ServerState). r.state) t.state in
          record {
            said = IsRefusal (record {
              earlier = es;
              frame = f;
              later = [];
              is = refl;
              behind = behind;
              segment = s;
              is_segment = is;
              live = sym (ap (λ (r : EndState ServerState). r.ended) t.state);
              stays = ap (λ (q : ServerState). server_end opened q (FrameReceived f)) (sym at) ∙ stays;
              errors = ap (λ (q : ServerState). (frame_effect q f).errors) (sym at) ∙ all.0;
              kind = all.1;
            });
            names = names_none_at (effect_outputs k effect) pre x post (sym says ∙ e) (plain_effect k effect);
          });
    }

-- ---- The STag that an answer names

whole_last : (b : Option (List ℕ)) (named : Option ℕ) (msn : ℕ) (message : List ℕ) (i : ℕ) (m : List ℕ) → completed_by b (named_segment named msn message i) ≡ m ∷ [] → eqb (i + 1) (segment_count message) ≡ true
whole_last b None msn message i m = by (eqb (i + 1) (segment_count message))
  where
    by : (last : Bool) → cond last ((begun_bytes b ++ segment_payload message i) ∷ []) [] ≡ m ∷ [] → last ≡ true
    by true e = refl
    by false e = absurd cc
whole_last b (Some stag) msn message i m = by (eqb (i + 1) (segment_count message))
  where
    by : (last : Bool) → cond last ((begun_bytes b ++ segment_payload message i) ∷ []) [] ≡ m ∷ [] → last ≡ true
    by true e = refl
    by false e = absurd cc

names_here : (b : Option (List ℕ)) (named : Option ℕ) (msn : ℕ) (message : List ℕ) (i : ℕ) (m : List ℕ) → completed_by b (named_segment named msn message i) ≡ m ∷ [] → stag_invalidated (named_segment named msn message i) ≡ named
names_here b named msn message i m one = last_segment_names named msn message i ∙ ap (λ (last : Bool). cond last named None) (whole_last b named msn message i m one)

segment_same : (x s : Segment) → ASegment x ≡ ASegment s → x ≡ s
segment_same x s e = cc

-- the segment that completes the message names its STag
names_at : (b : Option (List ℕ)) (named : Option ℕ) (msn : ℕ) (message is : List ℕ) (front : List Output) (s : Segment) (post : List Output) (m : List ℕ) → map ASegment (map (named_segment named msn message) is) ≡ front ++ ASegment s ∷ post → completed_by b s ≡ m ∷ [] → stag_invalidated s ≡ named
names_at b named msn message [] [] s post m e one = absurd cc
names_at b named msn message [] (x ∷ front) s post m e one = absurd cc
names_at b named msn message (i ∷ is) [] s post m e one =
    let same : named_segment named msn message i ≡ s = segment_same (named_segment named msn message i) s (first_is_lem (ASegment (named_segment named msn message i)) (ASegment s) (map ASegment (map (named_segment named msn message) is)) post e) in
    ap stag_invalidated (sym same) ∙ names_here b named msn message i m (ap (λ (x : Segment). completed_by b x) same ∙ one)
names_at b named msn message (i ∷ is) (x ∷ front) s post m e one =
    names_at b named msn message is front s post m (rest_is_lem (ASegment (named_segment named msn message i)) x (map ASegment (map (named_segment named msn message) is)) (front ++ ASegment s ∷ post) e) one

-- ---- An executed call

ready_shape : (place : ℕ) (k : ServerState) (outs : List Output) (call : ReadyCall) (others : List ReadyCall) → k.ready ≡ call ∷ others → Shape place (record { state = k; ended = None }) outs → (0 < place) × Greeted outs
ready_shape place k outs call others is (inl h) = absurd (let e = sym h.2 ∙ is in cc)
ready_shape place k outs call others is (inr h) = h

executed_step : (opened : LinkParameters) (es : List RunEvent) (place : ℕ) (k : ServerState) (outs : List Output) (e : ExecutedCall) → IsGoodExecution (record { state = k; ended = None }) e
    → ServerTells opened es place (record { state = k; ended = None }) outs → (o : Option Answer) → answer_of_call k e ≡ o → Grows opened es place (record { state = k; ended = None }) outs (CallExecuted e) (answer_outputs k e.xid (offer_of k e.xid) o)
unfolding server_says server_output server_state_after server_end
executed_step opened es place k outs e good t o is =
    let at : k ≡ server_by opened es = ap (λ (r : EndState ServerState). r.state) t.state in
    let limits : ServerLimits k = subst (λ (x : ServerState). ServerLimits x) (sym at) (server_limits opened es) in
    let own = fine_answer k e limits t.fit o is in
    let there = ready_shape place k outs good.call good.others good.is_next t.shape in
    record {
      outputs = ap (λ (x : Option Answer). answer_outputs k e.xid (offer_of k e.xid) x) is;
      said = server_said opened k (CallExecuted e) ∙ ap (λ (x : Option Answer). bytes_of_all (answer_outputs k e.xid (offer_of k e.xid) x)) is;
      begun = t.begun;
      fit = each_kept CallFits (λ c. not (eqb c.xid e.xid)) k.calls t.fit;
      shape = inr (there.0, greeted_more outs (answer_outputs k e.xid (offer_of k e.xid) o) there.1 own.words);
      none_begun = own.completes.begun;
      cause = λ pre s post m same one. by o is pre s post m same one (ap (λ (q : ServerState). answer_of_call q e) (sym at)) at (sym (ap (λ (r : EndState ServerState). r.ended) t.state)) t.outs_are;
    }
  where
    first_is : (m : List ℕ) (x : List ℕ) (a b : List (List ℕ)) → x ∷ [] ≡ a ++ m ∷ b → m ≡ x
    first_is m x [] b e = (let s : x ≡ m = cc in sym s)
    first_is m x (y ∷ a) b e = absurd (let l = ap (λ (zs : List (List ℕ)). length zs) e in let n = length-append a (m ∷ b) in omega (arith, l, n))

    -- no segment of a message writes
    no_writes : (named : Option ℕ) (msn : ℕ) (message : List ℕ) (is : List ℕ) → parts_out (map ASegment (map (named_segment named msn message) is)) ≡ []
    no_writes named msn message [] = refl
    no_writes named msn message (i ∷ is) = no_writes named msn message is

    left_none : (xs ys : List Part) → xs ++ ys ≡ [] → xs ≡ []
    left_none [] ys h = refl
    left_none (x ∷ xs) ys h = absurd cc

    front_writes : (named : Option ℕ) (msn : ℕ) (message : List ℕ) (front : List Output) (s : Segment) (post : List Output) → named_outputs named msn message ≡ front ++ ASegment s ∷ post → parts_out front ≡ []
    front_writes named msn message front s post h =
        left_none (parts_out front) (parts_out (ASegment s ∷ post))
        (sym (out_append front (ASegment s ∷ post)) ∙ ap parts_out (sym h) ∙ no_writes named msn message (range_with_len 0 (segment_count message)))

    answered : (a : Answer) → answer_of_call k e ≡ Some a → (pre : List Output) (s : Segment) (post : List Output) (m : List ℕ) → completed_by (begun_from None pre) s ≡ m ∷ []
        → answer_of_call (server_by opened es) e ≡ answer_of_call k e → k ≡ server_by opened es → is_live opened es → outs ≡ outs_of opened es
        → PartedTwo (map ASegment (answer_segments (offer_of k e.xid) a)) (named_outputs (stag_named k.invalidates (offer_of k e.xid)) (k.messages_queued + 1) (answer_message e.xid (credit_word k) (offer_of k e.xid) a)) pre (ASegment s) post
        → SaidBy opened (es ++ CallExecuted e ∷ []) (outs ++ pre) m s
    answered a is pre s post m one there at live outs_are (InFirst more within) =
        no_cause_lem (map ASegment (answer_segments (offer_of k e.xid) a)) pre s more m (completes_tagged (answer_segments (offer_of k e.xid) a) (tagged_answer (offer_of k e.xid) a)).completed within one
    answered a is pre s post m one there at live outs_are (InSecond front is_pre then) =
        let offer = offer_of k e.xid in
        let segments : List Output = map ASegment (answer_segments offer a) in
        let message = answer_message e.xid (credit_word k) offer a in
        let quiet = completes_tagged (answer_segments offer a) (tagged_answer offer a) in
        let begun : begun_from None pre ≡ begun_from None front = ap (λ (xs : List Output). begun_from None xs) is_pre ∙ begun_append None segments front ∙ ap (λ (b : Option (List ℕ)). begun_from b front) quiet.begun in
        let own : completed_by (begun_from None front) s ≡ m ∷ [] = ap (λ (b : Option (List ℕ)). completed_by b s) (sym begun) ∙ one in
        let none : parts_out front ≡ [] = front_writes (stag_named k.invalidates offer) (k.messages_queued + 1) message front s post then in
        record {
          said = IsAnswer (record {
            earlier = es;
            call = e;
            later = [];
            is = refl;
            live = live;
            answer = a;
            is_answer = there ∙ is;
            message = first_is m message (completed_from None front) (completed_from None post)
                (sym (completes_named (stag_named k.invalidates offer) (k.messages_queued + 1) message).completed ∙ ap (λ (xs : List Output). completed_from None xs) then ∙ completed_at_lem front s post m own)
                ∙ ap (λ (q : ServerState). answer_message e.xid (credit_word q) (offer_of q e.xid) a) at;
            before = (λ i. parts_out (outs_are i ++ is_pre i)) ∙ out_append (outs_of opened es) (segments ++ front)
                ∙ ap (λ (ps : List Part). parts_out (outs_of opened es) ++ ps) (out_append segments front ∙ ap (λ (ps : List Part). parts_out segments ++ ps) none ∙ append-nil (parts_out segments))
                ∙ ap (λ (q : ServerState). parts_out (outs_of opened es) ++ parts_out (map ASegment (answer_segments (offer_of q e.xid) a))) at;
          });
          names = names_at (begun_from None front) (stag_named k.invalidates offer) (k.messages_queued + 1) message (range_with_len 0 (segment_count message)) front s post m then own
              ∙ ap (λ (q : ServerState). stag_named q.invalidates (offer_of q e.xid)) at;
        }

    by : (o : Option Answer) → answer_of_call k e ≡ o → (pre : List Output) (s : Segment) (post : List Output) (m : List ℕ) → answer_outputs k e.xid (offer_of k e.xid) o ≡ pre ++ ASegment s ∷ post → completed_by (begun_from None pre) s ≡ m ∷ []
        → answer_of_call (server_by opened es) e ≡ answer_of_call k e → k ≡ server_by opened es → is_live opened es → outs ≡ outs_of opened es → SaidBy opened (es ++ CallExecuted e ∷ []) (outs ++ pre) m s
    by None is pre s post m same one there at live outs_are = record {
      said = IsNoAnswer (record {
        earlier = es;
        call = e;
        later = [];
        is = refl;
        live = live;
        none = there ∙ is;
        message = first_is m (chunk_error e.xid (credit_word k)) (completed_from None pre) (completed_from None post)
            (sym (completes_message (k.messages_queued + 1) (chunk_error e.xid (credit_word k))).completed ∙ ap (λ (xs : List Output). completed_from None xs) same ∙ completed_at_lem pre s post m one)
            ∙ ap (λ (q : ServerState). chunk_error e.xid (credit_word q)) at;
      });
      names = names_none_at (message_outputs (k.messages_queued + 1) (chunk_error e.xid (credit_word k))) pre s post same (plain_message (k.messages_queued + 1) (chunk_error e.xid (credit_word k)));
    }
    by (Some a) is pre s post m same one there at live outs_are =
        answered a is pre s post m one there at live outs_are
        (parted_two (map ASegment (answer_segments (offer_of k e.xid) a)) (named_outputs (stag_named k.invalidates (offer_of k e.xid)) (k.messages_queued + 1) (answer_message e.xid (credit_word k) (offer_of k e.xid) a)) pre (ASegment s) post same)

-- ---- Each event

ended_shape : (place later : ℕ) (k : ServerState) (end : Stop) (outs : List Output) → place ≤ later → Shape place (record { state = k; ended = Some end }) outs → Shape later (record { state = k; ended = Some end }) (outs ++ [])
ended_shape place later k end outs le (inl h) = absurd (let e = h.3 in cc)
ended_shape place later k end outs le (inr h) = inr ((let a = h.0 in omega (arith, a, le)), subst Greeted (sym (append-nil outs)) h.1)

same_shape : (place : ℕ) (r t : EndState ServerState) (outs : List Output) → t.state.ready ≡ r.state.ready → t.ended ≡ r.ended → Shape place r outs → Shape place t (outs ++ [])
same_shape place r t outs ready ended (inl h) = inl (h.0, append-nil outs ∙ h.1, ready ∙ h.2, ended ∙ h.3)
same_shape place r t outs ready ended (inr h) = inr (h.0, subst Greeted (sym (append-nil outs)) h.1)

-- what a server is told has no output, or an old call ends it
told_step : (opened : LinkParameters) (es : List RunEvent) (place : ℕ) (k : ServerState) (outs : List Output) (what : Told)
    → ServerTells opened es place (record { state = k; ended = None }) outs → (o : Option Stop) → server_end opened k (ServerTold what) ≡ o
    → Grows opened es place (record { state = k; ended = None }) outs (ServerTold what) (outputs_by (server_rules opened) (server_says opened) server_final_outputs k (ServerTold what) o)
unfolding server_says server_output server_state_after
told_step opened es place k outs what t (Some end) stops =
    let rules = server_rules opened in
    let same : next_end_state rules (record { state = k; ended = None }) (ServerTold what) ≡ record { state = k; ended = Some end } = ap (λ (o : Option Stop). next_end_state_by rules k (ServerTold what) o) stops in
    let old = stopped_as_old opened k what end stops in
    let there = ready_shape place k outs old.call old.others old.is_next t.shape in
    let words = server_final_words end (subst (λ (x : Stop). BigEnd (Some x)) (sym old.is) (let big : 5 ≤ REASON_OLD = omega arith in big)) in
    let none = server_final_none end in
    record {
      outputs = ap (λ (o : Option Stop). outputs_by rules (server_says opened) server_final_outputs k (ServerTold what) o) stops;
      said = ap (λ (o : Option Stop). output_for_by rules k (ServerTold what) o) stops ∙ server_final_said end;
      begun = subst (λ (r : EndState ServerState). IsBytes (begun_bytes r.state.received.begun)) (sym same) t.begun;
      fit = subst (λ (r : EndState ServerState). CallsFit r.state.calls) (sym same) t.fit;
      shape = inr (there.0, greeted_more outs (server_final_outputs end) there.1 words);
      none_begun = none.begun;
      cause = λ pre s post m is one. no_cause_lem (server_final_outputs end) pre s post m none.completed is one;
    }
told_step opened es place k outs what t None stays =
    let rules = server_rules opened in
    let same : next_end_state rules (record { state = k; ended = None }) (ServerTold what) ≡ record { state = server_state_after opened k (ServerTold what); ended = None } =
    ap (λ (o : Option Stop). next_end_state_by rules k (ServerTold what) o) stays in
    record {
      outputs = ap (λ (o : Option Stop). outputs_by rules (server_says opened) server_final_outputs k (ServerTold what) o) stays;
      said = ap (λ (o : Option Stop). output_for_by rules k (ServerTold what) o) stays;
      begun = subst (λ (r : EndState ServerState). IsBytes (begun_bytes r.state.received.begun)) (sym same) t.begun;
      fit = subst (λ (r : EndState ServerState). CallsFit r.state.calls) (sym same) t.fit;
      shape = subst (λ (r : EndState ServerState). Shape place r (outs ++ [])) (sym same)
          (same_shape place (record { state = k; ended = None }) (record { state = server_state_after opened k (ServerTold what); ended = None }) outs refl refl t.shape);
      none_begun = refl;
      cause = λ pre s post m is one. no_cause_lem [] pre s post m refl is one;
    }

pub server_step : (opened : LinkParameters) (es : List RunEvent) (place : ℕ) (k : ServerState) (ended : Option Stop) (outs : List Output) (e : RunEvent) → IsNext place e → ServerGood (record { state = k; ended = ended }) e
    → ServerTells opened es place (record { state = k; ended = ended }) outs
    → ServerTells opened (es ++ e ∷ []) (place_after place e) (next_end_state (server_rules opened) (record { state = k; ended = ended }) e) (outs ++ outputs_for (server_rules opened) (server_says opened) server_final_outputs (record { state = k; ended = ended }) e)
unfolding server_says server_output server_state_after server_end
server_step opened es place k None outs (FrameReceived f) next (inl h) t = grown opened es place (record { state = k; ended = None }) outs (FrameReceived f) (AHello (server_hello opened f) ∷ []) t (hello_step opened es place k outs f next h.0 h.1 t)
server_step opened es place k None outs (FrameReceived f) next (inr h) t =
    grown opened es place (record { state = k; ended = None }) outs (FrameReceived f) (outputs_by (server_rules opened) (server_says opened) server_final_outputs k (FrameReceived f) (server_end opened k (FrameReceived f))) t
    (segment_step opened es place k outs f h.0 next h.1 h.2 t (server_end opened k (FrameReceived f)) refl)
server_step opened es place k None outs (CallSubmitted p a) next good t = grown opened es place (record { state = k; ended = None }) outs (CallSubmitted p a) [] t
    (record { outputs = refl; said = refl; begun = t.begun; fit = t.fit; shape = same_shape place (record { state = k; ended = None }) (record { state = k; ended = None }) outs refl refl t.shape; none_begun = refl; cause = λ pre s post m is one. no_cause_lem [] pre s post m refl is one })
server_step opened es place k None outs (MemoryRevoked p xid) next good t = grown opened es place (record { state = k; ended = None }) outs (MemoryRevoked p xid) [] t
    (record { outputs = refl; said = refl; begun = t.begun; fit = t.fit; shape = same_shape place (record { state = k; ended = None }) (record { state = k; ended = None }) outs refl refl t.shape; none_begun = refl; cause = λ pre s post m is one. no_cause_lem [] pre s post m refl is one })
server_step opened es place k None outs (CallExecuted e) next good t =
    grown opened es place (record { state = k; ended = None }) outs (CallExecuted e) (answer_outputs k e.xid (offer_of k e.xid) (answer_of_call k e)) t (executed_step opened es place k outs e good t (answer_of_call k e) refl)
server_step opened es place k None outs (QueueWritten taken) next good t = grown opened es place (record { state = k; ended = None }) outs (QueueWritten taken) [] t
    (record { outputs = refl; said = refl; begun = t.begun; fit = t.fit; shape = same_shape place (record { state = k; ended = None }) (record { state = server_state_after opened k (QueueWritten taken); ended = None }) outs refl refl t.shape; none_begun = refl; cause = λ pre s post m is one. no_cause_lem [] pre s post m refl is one })
server_step opened es place k None outs (ServerTold what) next good t =
    grown opened es place (record { state = k; ended = None }) outs (ServerTold what) (outputs_by (server_rules opened) (server_says opened) server_final_outputs k (ServerTold what) (server_end opened k (ServerTold what))) t
    (told_step opened es place k outs what t (server_end opened k (ServerTold what)) refl)
server_step opened es place k (Some end) outs (FrameReceived f) next good t = grown opened es place (record { state = k; ended = Some end }) outs (FrameReceived f) [] t
    (record { outputs = refl; said = refl; begun = t.begun; fit = t.fit; shape = ended_shape place f.end k end outs (let l = next.1 in omega (arith, l)) t.shape; none_begun = refl; cause = λ pre s post m is one. no_cause_lem [] pre s post m refl is one })
server_step opened es place k (Some end) outs (CallSubmitted p a) next good t = grown opened es place (record { state = k; ended = Some end }) outs (CallSubmitted p a) [] t
    (record { outputs = refl; said = refl; begun = t.begun; fit = t.fit; shape = ended_shape place place k end outs (omega arith) t.shape; none_begun = refl; cause = λ pre s post m is one. no_cause_lem [] pre s post m refl is one })
server_step opened es place k (Some end) outs (MemoryRevoked p xid) next good t = grown opened es place (record { state = k; ended = Some end }) outs (MemoryRevoked p xid) [] t
    (record { outputs = refl; said = refl; begun = t.begun; fit = t.fit; shape = ended_shape place place k end outs (omega arith) t.shape; none_begun = refl; cause = λ pre s post m is one. no_cause_lem [] pre s post m refl is one })
server_step opened es place k (Some end) outs (CallExecuted e) next good t = absurd (let s = good.stays in cc)
server_step opened es place k (Some end) outs (QueueWritten taken) next good t = grown opened es place (record { state = k; ended = Some end }) outs (QueueWritten taken) [] t
    (record { outputs = refl; said = refl; begun = t.begun; fit = t.fit; shape = ended_shape place place k end outs (omega arith) t.shape; none_begun = refl; cause = λ pre s post m is one. no_cause_lem [] pre s post m refl is one })
server_step opened es place k (Some end) outs (ServerTold what) next good t = grown opened es place (record { state = k; ended = Some end }) outs (ServerTold what) [] t
    (record { outputs = refl; said = refl; begun = t.begun; fit = t.fit; shape = ended_shape place place k end outs (omega arith) t.shape; none_begun = refl; cause = λ pre s post m is one. no_cause_lem [] pre s post m refl is one })
