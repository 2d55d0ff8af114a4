-- The messages that outputs complete, each of any number of segments.
use Rattle.std.proofs.Common.{◌≡◌, ℕ, ◌+◌, Bool, true, false, cond, ◌&&◌, eqb, List, [], ◌∷◌, ◌++◌, length, map, Option, None, Some, refl, sym, ap, ◌∙◌, arith, append_assoc}
use Rattle.std.specs.Prelude.{option_to_list}
use Rattle.nr_wire.specs.Constants.{OPCODE_READ_REQUEST}
use Rattle.nr_wire.specs.Segment.{Segment}
use Rattle.nr_wire.specs.Segment.Segment.{Tagged, Untagged}
use Rattle.nr_link.specs.declared.end.End.{End as Stop}
use Rattle.nr_link.specs.declared.end.End.TheVariants as ends
use Rattle.nr_link.specs.Ending.{is_hello_reason}
use Rattle.nr_link.specs.ReceiveState.{ReceiveState, nothing_received, is_send, begun_bytes, received_after, message_completed, send_continued}
use Rattle.nr_reduce.specs.declared.mark.LinkParameters.{LinkParameters}
use Rattle.nr_reduce.specs.ClientState.{OutstandingCall}
use Rattle.nr_reduce.specs.ServerState.{PendingRead}
use Rattle.nr_laws.specs.MessageSegments.{named_segments, messages_completed, received_after_all}
use Rattle.nr_laws.proofs.SegmentedMessages.{message_is_received}
use Rattle.nr_laws.proofs.Outputs.{Output, message_outputs, named_outputs, call_sends, message_sends, message_of_call, request_outputs, final_outputs, terminate_segment}
use Rattle.nr_laws.proofs.Outputs.Output.{AHello, ASegment}
use Rattle.nr_laws.proofs.TaggedSegments.{AreTagged}

-- the message that a segment completes if these bytes of a Send have begun, and the bytes that have begun after it
abbrev pub completed_by : Option (List ℕ) → Segment → List (List ℕ)
completed_by b (Tagged last opcode stag to payload) = []
completed_by b (Untagged last opcode w queue msn offset payload) = cond (is_send opcode && last) ((begun_bytes b ++ payload) ∷ []) []

abbrev pub begun_by : Option (List ℕ) → Segment → Option (List ℕ)
begun_by b (Tagged last opcode stag to payload) = b
begun_by b (Untagged last opcode w queue msn offset payload) = cond (is_send opcode) (cond last None (Some (begun_bytes b ++ payload))) b

abbrev pub completed_from : Option (List ℕ) → List Output → List (List ℕ)
completed_from b [] = []
completed_from b (AHello bytes ∷ outs) = completed_from b outs
completed_from b (ASegment s ∷ outs) = completed_by b s ++ completed_from (begun_by b s) outs

abbrev pub begun_from : Option (List ℕ) → List Output → Option (List ℕ)
begun_from b [] = b
begun_from b (AHello bytes ∷ outs) = begun_from b outs
begun_from b (ASegment s ∷ outs) = begun_from (begun_by b s) outs

pub begun_append : (b : Option (List ℕ)) (xs ys : List Output) → begun_from b (xs ++ ys) ≡ begun_from (begun_from b xs) ys
begun_append b [] ys = refl
begun_append b (AHello bytes ∷ xs) ys = begun_append b xs ys
begun_append b (ASegment s ∷ xs) ys = begun_append (begun_by b s) xs ys

pub completed_append : (b : Option (List ℕ)) (xs ys : List Output) → completed_from b (xs ++ ys) ≡ completed_from b xs ++ completed_from (begun_from b xs) ys
completed_append b [] ys = refl
completed_append b (AHello bytes ∷ xs) ys = completed_append b xs ys
completed_append b (ASegment s ∷ xs) ys =
    ap (λ (ms : List (List ℕ)). completed_by b s ++ ms) (completed_append (begun_by b s) xs ys)
    ∙ sym (append_assoc (completed_by b s) (completed_from (begun_by b s) xs) (completed_from (begun_from (begun_by b s) xs) ys))

-- after the last segment of a Send none has begun
pub none_begun_lem : (b : Option (List ℕ)) (s : Segment) (m : List ℕ) → completed_by b s ≡ m ∷ [] → begun_by b s ≡ None
none_begun_lem b (Tagged last opcode stag to payload) m e = absurd cc
none_begun_lem b (Untagged last opcode w queue msn offset payload) m e = by (is_send opcode) last e
  where
    by : (c d : Bool) → cond (c && d) ((begun_bytes b ++ payload) ∷ []) [] ≡ m ∷ [] → cond c (cond d None (Some (begun_bytes b ++ payload))) b ≡ None
    by true true e = refl
    by true false e = absurd cc
    by false d e = absurd cc

-- the messages of outputs, at the segment that completes one of them
pub completed_at_lem : (pre : List Output) (s : Segment) (post : List Output) (m : List ℕ) → completed_by (begun_from None pre) s ≡ m ∷ []
    → completed_from None (pre ++ ASegment s ∷ post) ≡ completed_from None pre ++ m ∷ completed_from None post
completed_at_lem pre s post m one =
    completed_append None pre (ASegment s ∷ post)
    ∙ (λ i. completed_from None pre ++ (one i ++ completed_from (none_begun_lem (begun_from None pre) s m one i) post))

-- ---- As a side receives them

pub begun_is : (h : ReceiveState) (s : Segment) → (received_after h s).begun ≡ begun_by h.begun s
begun_is h (Tagged last opcode stag to payload) = refl
begun_is h (Untagged last opcode w queue msn offset payload) = by (is_send opcode) last (eqb opcode OPCODE_READ_REQUEST)
  where
    by : (c d r : Bool) → (cond c (send_continued h d payload) (cond r (record { sends = h.sends; begun = h.begun; requests = h.requests + 1 }) h)).begun ≡ cond c (cond d None (Some (begun_bytes h.begun ++ payload))) h.begun
    by true true r = refl
    by true false r = refl
    by false d true = refl
    by false d false = refl

pub completed_is : (h : ReceiveState) (s : Segment) → option_to_list (message_completed h s) ≡ completed_by h.begun s
completed_is h (Tagged last opcode stag to payload) = refl
completed_is h (Untagged last opcode w queue msn offset payload) = by (is_send opcode && last)
  where
    by : (c : Bool) → option_to_list (cond c (Some (begun_bytes h.begun ++ payload)) None) ≡ cond c ((begun_bytes h.begun ++ payload) ∷ []) []
    by true = refl
    by false = refl

pub sends_is : (h : ReceiveState) (s : Segment) → (received_after h s).sends ≡ h.sends + length (completed_by h.begun s)
sends_is h (Tagged last opcode stag to payload) = omega arith
sends_is h (Untagged last opcode w queue msn offset payload) = by (is_send opcode) last (eqb opcode OPCODE_READ_REQUEST)
  where
    by : (c d r : Bool) → (cond c (send_continued h d payload) (cond r (record { sends = h.sends; begun = h.begun; requests = h.requests + 1 }) h)).sends ≡ h.sends + length (cond (c && d) ((begun_bytes h.begun ++ payload) ∷ []) [])
    by true true r = refl
    by true false r = omega arith
    by false d true = omega arith
    by false d false = omega arith

segments_completed : (h : ReceiveState) (segments : List Segment) → completed_from h.begun (map ASegment segments) ≡ messages_completed h segments
segments_completed h [] = refl
segments_completed h (s ∷ segments) =
    (λ i. sym (completed_is h s) i ++ completed_from (sym (begun_is h s) i) (map ASegment segments))
    ∙ ap (λ (ms : List (List ℕ)). option_to_list (message_completed h s) ++ ms) (segments_completed (received_after h s) segments)

segments_begun : (h : ReceiveState) (segments : List Segment) → begun_from h.begun (map ASegment segments) ≡ (received_after_all h segments).begun
segments_begun h [] = refl
segments_begun h (s ∷ segments) = ap (λ (b : Option (List ℕ)). begun_from b (map ASegment segments)) (sym (begun_is h s)) ∙ segments_begun (received_after h s) segments

-- ---- Outputs that complete messages, and leave none begun

pub record Completes (outs : List Output) (ms : List (List ℕ)) : Type 0 where
  pub completed : completed_from None outs ≡ ms
  pub begun : begun_from None outs ≡ None

pub completes_none : Completes [] []
completes_none = record { completed = refl; begun = refl }

pub completes_append : (xs ys : List Output) (ms ns : List (List ℕ)) → Completes xs ms → Completes ys ns → Completes (xs ++ ys) (ms ++ ns)
completes_append xs ys ms ns p q = record {
  completed = completed_append None xs ys ∙ (λ i. p.completed i ++ completed_from (p.begun i) ys) ∙ ap (λ (zs : List (List ℕ)). ms ++ zs) q.completed;
  begun = begun_append None xs ys ∙ ap (λ (b : Option (List ℕ)). begun_from b ys) p.begun ∙ q.begun;
}

pub completes_named : (named : Option ℕ) (msn : ℕ) (message : List ℕ) → Completes (named_outputs named msn message) (message ∷ [])
completes_named named msn message =
    let r = message_is_received nothing_received named msn message refl in
    record {
      completed = segments_completed nothing_received (named_segments named msn message) ∙ r.messages;
      begun = segments_begun nothing_received (named_segments named msn message) ∙ ap (λ (h : ReceiveState). h.begun) r.state;
    }

pub completes_message : (msn : ℕ) (message : List ℕ) → Completes (message_outputs msn message) (message ∷ [])
completes_message msn message = completes_named None msn message

pub completes_calls : (opened : LinkParameters) (msn : ℕ) (os : List OutstandingCall) → Completes (call_sends opened msn os) (map (message_of_call opened) os)
completes_calls opened msn [] = completes_none
completes_calls opened msn (o ∷ os) =
    completes_append (message_outputs msn (message_of_call opened o)) (call_sends opened (msn + 1) os) (message_of_call opened o ∷ []) (map (message_of_call opened) os)
    (completes_message msn (message_of_call opened o)) (completes_calls opened (msn + 1) os)

pub completes_sends : (msn : ℕ) (ms : List (List ℕ)) → Completes (message_sends msn ms) ms
completes_sends msn [] = completes_none
completes_sends msn (m ∷ ms) = completes_append (message_outputs msn m) (message_sends (msn + 1) ms) (m ∷ []) ms (completes_message msn m) (completes_sends (msn + 1) ms)

pub completes_requests : (msn : ℕ) (reads : List PendingRead) → Completes (request_outputs msn reads) []
completes_requests msn [] = completes_none
completes_requests msn (r ∷ reads) = (let q = completes_requests (msn + 1) reads in record { completed = q.completed; begun = q.begun })

pub completes_tagged : (segments : List Segment) → AreTagged segments → Completes (map ASegment segments) []
completes_tagged [] h = completes_none
completes_tagged (Tagged last opcode stag to payload ∷ segments) h = (let q = completes_tagged segments h in record { completed = q.completed; begun = q.begun })
completes_tagged (Untagged last opcode w queue msn offset payload ∷ segments) h = absurd h

pub completes_final : (end : Stop) → Completes (final_outputs end) []
completes_final (ends.Bad at reason) = by (is_hello_reason reason)
  where
    by : (b : Bool) → Completes (cond b [] (ASegment (terminate_segment reason) ∷ [])) []
    by true = completes_none
    by false = record { completed = refl; begun = refl }
completes_final (ends.Denied stag offset why) = record { completed = refl; begun = refl }
completes_final (ends.NoBuffer msn) = record { completed = refl; begun = refl }
completes_final (ends.Terminated reason) = completes_none
completes_final ends.Memory = completes_none
