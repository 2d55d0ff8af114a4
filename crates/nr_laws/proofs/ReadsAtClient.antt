-- Reads agree after each event of the client, and when the server executes a call and writes.
use Rattle.std.proofs.Common.{◌≡◌, ℕ, ◌+◌, ◌*◌, ◌≤◌, ◌<◌, min, Bool, true, false, cond, eqb, List, [], ◌∷◌, ◌++◌, length, map, take, drop, Option, None, Some, Ok, refl, sym, ap, subst, ◌∙◌, arith, append_assoc, append-nil, length-take, length-drop}
use Rattle.std.specs.List.{range_with_len}
use Rattle.nr_wire.specs.Constants.{OPCODE_WRITE, OPCODE_READ_REQUEST, OPCODE_READ_RESPONSE, QUEUE_READ_REQUEST}
use Rattle.nr_wire.specs.Segment.{Segment}
use Rattle.nr_wire.specs.Segment.Segment.{Untagged}
use Rattle.nr_header.specs.declared.header.RdmaSegment.{RdmaSegment as Part}
use Rattle.nr_header.specs.declared.header.ChunkLists.{ChunkLists}
use Rattle.nr_reduce.specs.declared.mark.LinkParameters.{LinkParameters}
use Rattle.nr_link.specs.Output.{msn_word, segment_count, segment_payload}
use Rattle.nr_link.specs.Frames.{Frame}
use Rattle.nr_link.specs.ReceiveState.{ReadRequest, read_request_in}
use Rattle.nr_reduce.specs.Holds.{Answer, answer_message, first_chunk, no_segments, chunk_error}
use Rattle.nr_reduce.specs.Events.RunEvent.{FrameReceived}
use Rattle.nr_reduce.specs.ClientState.{ClientState, client_memory_at}
use Rattle.nr_reduce.specs.ServerState.{ServerState, PendingRead, credit_word}
use Rattle.nr_laws.proofs.FrameContents.{FrameContent, Carries, request_frame, client_frames, tagged_frames, write_frames, answer_frames, send_frames}
use Rattle.nr_laws.proofs.FrameContents.FrameContent.{RequestFrame, TaggedFrame}
use Rattle.nr_laws.proofs.LinkInvariants.{Transit, AreResponses, requests_of, ReadsAgree}
use Rattle.nr_laws.proofs.TotalsAtClient.{says_is, request_payload, down_one}
use Rattle.nr_laws.proofs.ExpectedResponses.{answers_append, answers_one}
use Rattle.nr_laws.proofs.ReadsAtServer.{requests_append, send_asks_none}
use Rattle.nr_link.specs.Limits.{segment_max}
use Rattle.nr_reduce.specs.Server.{stag_named}
use Rattle.nr_laws.proofs.ReadContents.{plain_is}
use Rattle.nr_laws.proofs.PlainSegments.{plain_segment}

-- ---- The client receives a Read Request, and answers it by the bytes that it asks for

-- the request can be read back, it asks for some bytes, and they are there
pub record IsThere (k : ClientState) (place sink at size stag to : ℕ) : Type 0 where
  pub read : read_request_in (request_payload sink at size stag to) ≡ record { sink = sink; sink_to = at; size = size; stag = stag; to = to }
  pub some : 0 < size
  pub there : to + size ≤ length (client_memory_at k place stag)

pub first_asked : (asked : List PendingRead) (sink at size stag to : ℕ) (ps : List FrameContent) → RequestFrame sink at size stag to ∷ ps ≡ map request_frame asked
    → (r : PendingRead) × (others : List PendingRead) × (asked ≡ r ∷ others) × (r.sink ≡ sink) × (r.at ≡ at) × (r.size ≡ size) × (ps ≡ map request_frame others)
first_asked [] sink at size stag to ps e = absurd cc
first_asked (r ∷ others) sink at size stag to ps e = (r, others, refl, cc, cc, cc, cc)

pub reads_read_down : (opened : LinkParameters) (k : ClientState) (s : ServerState) (w : Transit) (f : Frame) (sink at size stag to : ℕ) (rest : List FrameContent) → ReadsAgree s w → w.down ≡ RequestFrame sink at size stag to ∷ rest
    → Carries k.invalidates k.received.sends k.received.requests f (RequestFrame sink at size stag to) → IsThere k f.end sink at size stag to
    → ReadsAgree s (down_one w (client_frames opened k (FrameReceived f)) rest)
reads_read_down opened k s w f sink at size stag to rest c first p there =
    let segment : Segment = Untagged true OPCODE_READ_REQUEST 0 QUEUE_READ_REQUEST (msn_word (k.received.requests + 1)) 0 (request_payload sink at size stag to) in
    let is : plain_segment k f ≡ Ok segment = plain_is k f (RequestFrame sink at size stag to) segment p refl in
    let bytes = take size (drop to (client_memory_at k f.end stag)) in
    let len : length bytes ≡ size = omega (arith, length-take size (drop to (client_memory_at k f.end stag)), length-drop to (client_memory_at k f.end stag), there.there) in
    let said : client_frames opened k (FrameReceived f) ≡ tagged_frames OPCODE_READ_RESPONSE sink at bytes =
    says_is opened k f (Ok segment) p.behind is ∙ ap (λ (r : ReadRequest). tagged_frames OPCODE_READ_RESPONSE r.sink r.sink_to (take r.size (drop r.to (client_memory_at k f.end r.stag)))) there.read in
    let asked : RequestFrame sink at size stag to ∷ requests_of (rest ++ w.queued_down) ≡ map request_frame c.asked =
    ap (λ (ps : List FrameContent). requests_of (ps ++ w.queued_down)) (sym first) ∙ c.requests in
    let a = first_asked c.asked sink at size stag to (requests_of (rest ++ w.queued_down)) asked in
    let one : AreResponses 0 (a.0 ∷ []) (tagged_frames OPCODE_READ_RESPONSE sink at bytes) =
    subst (λ (n : ℕ). AreResponses 0 (a.0 ∷ []) (tagged_frames OPCODE_READ_RESPONSE n at bytes)) a.3
    (subst (λ (n : ℕ). AreResponses 0 (a.0 ∷ []) (tagged_frames OPCODE_READ_RESPONSE a.0.sink n bytes)) a.4
    (answers_one a.0 bytes (len ∙ sym a.5) (omega (arith, a.5, there.some)))) in
    let said_one : AreResponses 0 (a.0 ∷ []) (client_frames opened k (FrameReceived f)) = subst (λ (ps : List FrameContent). AreResponses 0 (a.0 ∷ []) ps) (sym said) one in
    let all = answers_append s.response_bytes c.answered (w.up ++ w.queued_up) (a.0 ∷ []) (client_frames opened k (FrameReceived f)) c.answers said_one in
    record {
      answered = c.answered ++ a.0 ∷ [];
      asked = a.1;
      parts = c.parts ∙ ap (λ (xs : List PendingRead). c.answered ++ xs) a.2 ∙ sym (append_assoc c.answered (a.0 ∷ []) a.1);
      answers = subst (λ (ps : List FrameContent). AreResponses s.response_bytes (c.answered ++ a.0 ∷ []) ps) (append_assoc w.up w.queued_up (client_frames opened k (FrameReceived f))) all;
      requests = a.6;
    }

-- ---- Pieces that are neither

-- no Response is among them
abbrev pub AnswersNone : List FrameContent → Type 0
AnswersNone ps = AreResponses 0 [] ps

pub reads_says_up : (s : ServerState) (w : Transit) (said rest : List FrameContent) → ReadsAgree s w → AnswersNone said → requests_of w.down ≡ requests_of rest → ReadsAgree s (down_one w said rest)
reads_says_up s w said rest c none same =
    let all : AreResponses s.response_bytes (c.answered ++ []) ((w.up ++ w.queued_up) ++ said) = answers_append s.response_bytes c.answered (w.up ++ w.queued_up) [] said c.answers none in
    record {
      answered = c.answered;
      asked = c.asked;
      parts = c.parts;
      answers = subst (λ (ps : List FrameContent). AreResponses s.response_bytes c.answered ps) (append_assoc w.up w.queued_up said) (subst (λ (rs : List PendingRead). AreResponses s.response_bytes rs ((w.up ++ w.queued_up) ++ said)) (append-nil c.answered) all);
      requests = requests_append rest w.queued_down ∙ ap (λ (ps : List FrameContent). ps ++ requests_of w.queued_down) (sym same) ∙ sym (requests_append w.down w.queued_down) ∙ c.requests;
    }

-- what the server sends of an answer asks for nothing
pub none_filled : (chunk : List Part) (bytes : List ℕ) → requests_of (write_frames chunk bytes) ≡ []
unfolding tagged_frames
none_filled [] bytes = refl
none_filled (p ∷ chunk) bytes =
    requests_append (cond (eqb (min p.length (length bytes)) 0) [] (tagged_frames OPCODE_WRITE p.handle p.offset (take p.length bytes))) (write_frames chunk (drop p.length bytes))
    ∙ (λ i. by (eqb (min p.length (length bytes)) 0) i ++ none_filled chunk (drop p.length bytes) i)
  where
    none_cut : (f : ℕ → Bool) (g h : ℕ → ℕ) (b : ℕ → List ℕ) (is : List ℕ) → requests_of (map (λ i. TaggedFrame (f i) (g i) p.handle (h i) (b i)) is) ≡ []
    none_cut f g h b [] = refl
    none_cut f g h b (i ∷ is) = none_cut f g h b is

    by : (b : Bool) → requests_of (cond b [] (tagged_frames OPCODE_WRITE p.handle p.offset (take p.length bytes))) ≡ []
    by true = refl
    by false = none_cut (λ i. eqb (i + 1) (segment_count (take p.length bytes))) (λ i. OPCODE_WRITE) (λ i. p.offset + segment_max * i) (λ i. segment_payload (take p.length bytes) i) (range_with_len 0 (segment_count (take p.length bytes)))

none_long : (b : Bool) (chunk : List Part) (bytes : List ℕ) → requests_of (cond b (write_frames chunk bytes) []) ≡ []
none_long true chunk bytes = none_filled chunk bytes
none_long false chunk bytes = refl

pub none_answered : (s : ServerState) (xid : ℕ) (offer : ChunkLists) (a : Option Answer) → requests_of (answer_frames s xid offer a) ≡ []
none_answered s xid offer None = send_asks_none None (chunk_error xid (credit_word s))
none_answered s xid offer (Some a) =
    let moved = write_frames (first_chunk offer.write) a.moved in
    let long = cond a.long (write_frames (no_segments offer.reply) a.stream) [] in
    let last = send_frames (stag_named s.invalidates offer) (answer_message xid (credit_word s) offer a) in
    requests_append moved (long ++ last)
    ∙ ap (λ (ps : List FrameContent). requests_of moved ++ ps) (requests_append long last)
    ∙ (λ i. none_filled (first_chunk offer.write) a.moved i ++ (none_long a.long (no_segments offer.reply) a.stream i ++ send_asks_none (stag_named s.invalidates offer) (answer_message xid (credit_word s) offer a) i))

-- it sends more that asks for nothing, and its reads stay
pub reads_says_down : (s t : ServerState) (w : Transit) (said : List FrameContent) → ReadsAgree s w → t.reads ≡ s.reads → t.response_bytes ≡ s.response_bytes → requests_of said ≡ []
    → ReadsAgree t (record { queued_up = w.queued_up; up = w.up; queued_down = w.queued_down ++ said; down = w.down })
reads_says_down s t w said c same came none = record {
  answered = c.answered;
  asked = c.asked;
  parts = ap (λ (rs : List PendingRead). take 8 rs) same ∙ c.parts;
  answers = subst (λ (n : ℕ). AreResponses n c.answered (w.up ++ w.queued_up)) (sym came) c.answers;
  requests =
      ap (λ (ps : List FrameContent). requests_of ps) (sym (append_assoc w.down w.queued_down said))
      ∙ requests_append (w.down ++ w.queued_down) said ∙ ap (λ (ps : List FrameContent). requests_of (w.down ++ w.queued_down) ++ ps) none ∙ append-nil (requests_of (w.down ++ w.queued_down)) ∙ c.requests;
}

-- what was queued is in transit
pub reads_writes_up : (s : ServerState) (w : Transit) → ReadsAgree s w → ReadsAgree s (record { queued_up = []; up = w.up ++ w.queued_up; queued_down = w.queued_down; down = w.down })
reads_writes_up s w c = record {
  answered = c.answered;
  asked = c.asked;
  parts = c.parts;
  answers = subst (λ (ps : List FrameContent). AreResponses s.response_bytes c.answered ps) (sym (append-nil (w.up ++ w.queued_up))) c.answers;
  requests = c.requests;
}

pub reads_writes_down : (s : ServerState) (w : Transit) → ReadsAgree s w → ReadsAgree s (record { queued_up = w.queued_up; up = w.up; queued_down = []; down = w.down ++ w.queued_down })
reads_writes_down s w c = record {
  answered = c.answered;
  asked = c.asked;
  parts = c.parts;
  answers = c.answers;
  requests = ap (λ (ps : List FrameContent). requests_of ps) (append-nil (w.down ++ w.queued_down)) ∙ c.requests;
}
