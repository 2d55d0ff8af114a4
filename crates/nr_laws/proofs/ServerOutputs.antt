-- What the server of a link says along its events: each of its messages answers an executed call, or refuses a Send.
use Rattle.std.proofs.Common.{◌≡◌, ℕ, ◌+◌, ◌*◌, ◌≤◌, Bool, true, false, cond, not, eqb, List, [], ◌∷◌, ◌++◌, length, map, Option, None, Some, Ok, refl, sym, subst, arith, append-nil}
use Rattle.std.specs.List.{find, AllByRecursion}
use Rattle.std.proofs.lemmas.List.Elements.{All-nil}
use Rattle.nr_header.specs.WithinLimits.{ListsWithin}
use Rattle.nr_xdr.specs.Item.{IsBytes, word}
use Rattle.nr_xdr.specs.Fields.{word_at}
use Rattle.nr_rpc.specs.declared.head.CallTarget.{CallTarget}
use Rattle.nr_rpc.specs.Reading.{call_of, target_of}
use Rattle.nr_header.specs.Length.{reply_chunk_len}
use Rattle.nr_header.specs.declared.header.ChunkLists.{ChunkLists}
use Rattle.nr_wire.specs.Segment.{Segment}
use Rattle.nr_wire.specs.declared.stream.Awaited.TheVariants.{Fpdu}
use Rattle.nr_link.specs.Frames.{Frame}
use Rattle.nr_link.specs.ReceiveState.{message_completed}
use Rattle.nr_link.specs.Ending.{frame_segment}
use Rattle.nr_reduce.proofs.OwnLimits.{ServerLimits}
use Rattle.nr_reduce.specs.History.{ExecutedCall}
use Rattle.nr_reduce.specs.Holds.{Answer, answer_for, answer_size, answer_message, chunk_error, version_error, first_chunk, no_segments}
use Rattle.nr_reduce.specs.ChunkBytes.{answer_segments, chunk_segments}
use Rattle.nr_reduce.specs.ServerState.{ServerState, PendingCall, PendingRead, credit_word}
use Rattle.nr_reduce.specs.ServerMessages.{CallVerdict, pending_payload, by_payload}
use Rattle.nr_reduce.specs.ServerMessages.CallVerdict.{Refuses, IsReady}
use Rattle.nr_reduce.specs.ServerFrames.{FrameEffect, with_verdict, frame_effect}
use Rattle.nr_reduce.specs.Server.{offer_by, offer_of, answer_of_target, newly_open_reads, stag_named}
use Rattle.nr_reduce.proofs.AnswerMessages.{answer_length}
use Rattle.nr_laws.proofs.WritableOffers.{OfferFits, verdict_fits}
use Rattle.nr_laws.proofs.Outputs.{Output, IsShort, AreShort, message_sends, request_outputs, effect_outputs, answer_outputs, answer_of_call, AnswerShort, message_outputs, named_outputs}
use Rattle.nr_laws.proofs.Outputs.Output.{ASegment}
use Rattle.nr_laws.proofs.Brought.{AreFrom}
use Rattle.nr_laws.proofs.Words.{message_words, request_word, chunk_words, from_append, named_words}
use Rattle.nr_laws.proofs.TaggedSegments.{AreTagged, tagged_append, tagged_chunk}
use Rattle.nr_laws.proofs.Completions.{Completes, completes_append, completes_message, completes_sends, completes_requests, completes_tagged, completes_named}
use Rattle.std.proofs.lemmas.List.{map-append}
use Rattle.nr_laws.proofs.EachEffect.{MessageRule, ResponseRule, each_effect}
use Rattle.nr_header.proofs.Lengths.{word_len}
use Rattle.nr_laws.proofs.Basics.{each_append, each_kept}
use Rattle.nr_wire.specs.Constants.{UNITS_MAX}
use Rattle.nr_link.specs.Limits.{send_unit}
use Rattle.nr_laws.proofs.NamedStags.{named_word_lem}

-- ---- Error messages

pub chunk_error_short : (xid credit : ℕ) → IsShort (chunk_error xid credit)
unfolding chunk_error
chunk_error_short xid credit =
    omega (arith, word_len xid (word 1 ++ (word credit ++ (word 4 ++ (word 2 ++ [])))), word_len 1 (word credit ++ (word 4 ++ (word 2 ++ []))), word_len credit (word 4 ++ (word 2 ++ [])), word_len 4 (word 2 ++ []), word_len 2 [])

pub version_error_short : (xid version credit : ℕ) → IsShort (version_error xid version credit)
unfolding version_error
version_error_short xid version credit =
    omega (
      arith,
      word_len xid (word version ++ (word credit ++ (word 4 ++ (word 1 ++ (word 1 ++ (word 1 ++ [])))))),
      word_len version (word credit ++ (word 4 ++ (word 1 ++ (word 1 ++ (word 1 ++ []))))),
      word_len credit (word 4 ++ (word 1 ++ (word 1 ++ (word 1 ++ [])))),
      word_len 4 (word 1 ++ (word 1 ++ (word 1 ++ []))),
      word_len 1 (word 1 ++ (word 1 ++ [])),
      word_len 1 (word 1 ++ []),
      word_len 1 [],
    )

-- an error message: ERR_CHUNK or ERR_VERS
pub data IsError (m : List ℕ) : Type 0 where
  OfChunks : (xid credit : ℕ) → m ≡ chunk_error xid credit → IsError m
  OfVersion : (xid version credit : ℕ) → m ≡ version_error xid version credit → IsError m

error_short : (m : List ℕ) → IsError m → IsShort m
error_short m (OfChunks xid credit is) = subst IsShort (sym is) (chunk_error_short xid credit)
error_short m (OfVersion xid version credit is) = subst IsShort (sym is) (version_error_short xid version credit)

-- at most one
pub data AtMostOne : List (List ℕ) → Type 0 where
  NoError : AtMostOne []
  OneError : (m : List ℕ) → IsError m → AtMostOne (m ∷ [])

pub errors_short : (ms : List (List ℕ)) → AtMostOne ms → AreShort ms
errors_short ms NoError = tt
errors_short ms (OneError m e) = (error_short m e, tt)

-- ---- What a frame leaves

abbrev pub CallFits : PendingCall → Type 0
CallFits c = OfferFits c.lists

abbrev pub CallsFit : List PendingCall → Type 0
CallsFit calls = AllByRecursion CallFits calls

pub record IsFine (s : FrameEffect) : Type 0 where
  pub errors : AtMostOne s.errors
  pub fit : CallsFit s.calls

fine_verdict : (o : CallVerdict) (s : FrameEffect) → IsFine s → IsFine (with_verdict o s)
fine_verdict (Refuses reason) s h = record { errors = h.errors; fit = h.fit }
fine_verdict (IsReady r) s h = record { errors = h.errors; fit = h.fit }

pub fine_messages : (k : ServerState) → CallsFit k.calls → MessageRule k IsBytes IsFine
fine_messages k h = record {
  judged = λ t place c s g. fine_verdict (by_payload c (pending_payload t place c)) s g;
  ends = λ message reason bytes is. record { errors = NoError; fit = h };
  version = λ message bytes. record { errors = OneError _ (OfVersion (word_at 0 message) (word_at 4 message) (credit_word k) refl); fit = h };
  chunks = λ message bytes. record { errors = OneError _ (OfChunks (word_at 0 message) (credit_word k) refl); fit = h };
  pending = λ place message c bytes is. record { errors = NoError; fit = each_append CallFits k.calls (c ∷ []) h (verdict_fits k message c bytes is, tt) };
}

pub fine_responses : (k : ServerState) → CallsFit k.calls → ResponseRule k IsFine
fine_responses k h = record {
  unchanged = record { errors = NoError; fit = h };
  judged = λ t place c s g. fine_verdict (by_payload c (pending_payload t place c)) s g;
  read = λ r reads is. record { errors = NoError; fit = h };
  refused = λ r reads c is found. record { errors = OneError _ (OfChunks c.xid (credit_word k) refl); fit = each_kept CallFits (λ other. not (eqb other.number c.number)) k.calls h };
}

pub fine_frame : (k : ServerState) (f : Frame) → ((s : Segment) (m : List ℕ) → frame_segment f ≡ Ok s → message_completed k.received s ≡ Some m → IsBytes m) → CallsFit k.calls → IsFine (frame_effect k f)
fine_frame k f bytes h = each_effect k IsBytes IsFine (fine_messages k h) (fine_responses k h) f bytes

-- ---- Outputs that can be read

sends_words : (msn : ℕ) (ms : List (List ℕ)) → AreShort ms → AreFrom Fpdu (message_sends msn ms)
sends_words msn [] h = tt
sends_words msn (m ∷ ms) h = from_append (message_outputs msn m) (message_sends (msn + 1) ms) (message_words msn m h.0) (sends_words (msn + 1) ms h.1)

requests_words : (msn : ℕ) (reads : List PendingRead) → AreFrom Fpdu (request_outputs msn reads)
requests_words msn [] = tt
requests_words msn (r ∷ reads) = (request_word msn r, requests_words (msn + 1) reads)

pub record AreFine (outs : List Output) (ms : List (List ℕ)) : Type 0 where
  pub words : AreFrom Fpdu outs
  pub completes : Completes outs ms

pub fine_effect : (k : ServerState) (s : FrameEffect) → IsFine s → AreFine (effect_outputs k s) s.errors
fine_effect k s h =
    let sends = message_sends (k.messages_queued + 1) s.errors in
    let reads = request_outputs (k.requests_sent + 1) (newly_open_reads s) in
    let short = errors_short s.errors h.errors in
    record {
      words = from_append sends reads (sends_words (k.messages_queued + 1) s.errors short) (requests_words (k.requests_sent + 1) (newly_open_reads s));
      completes = subst (λ (ms : List (List ℕ)). Completes (sends ++ reads) ms) (append-nil s.errors)
          (completes_append sends reads s.errors [] (completes_sends (k.messages_queued + 1) s.errors) (completes_requests (k.requests_sent + 1) (newly_open_reads s)));
    }

pub tagged_answer : (offer : ChunkLists) (a : Answer) → AreTagged (answer_segments offer a)
tagged_answer offer a = tagged_append (chunk_segments (first_chunk offer.write) a.moved) (cond a.long (chunk_segments (no_segments offer.reply) a.stream) []) (tagged_chunk (first_chunk offer.write) a.moved) (by a.long)
  where
    by : (b : Bool) → AreTagged (cond b (chunk_segments (no_segments offer.reply) a.stream) [])
    by true = tagged_chunk (no_segments offer.reply) a.stream
    by false = tt

answer_words : (offer : ChunkLists) (a : Answer) → OfferFits offer → AreFrom Fpdu (map ASegment (answer_segments offer a))
answer_words offer a h =
    subst (λ (os : List Output). AreFrom Fpdu os) (sym (map-append ASegment (chunk_segments (first_chunk offer.write) a.moved) (cond a.long (chunk_segments (no_segments offer.reply) a.stream) [])))
    (from_append (map ASegment (chunk_segments (first_chunk offer.write) a.moved)) (map ASegment (cond a.long (chunk_segments (no_segments offer.reply) a.stream) []))
    (chunk_words (first_chunk offer.write) a.moved h.writes) (by a.long))
  where
    by : (b : Bool) → AreFrom Fpdu (map ASegment (cond b (chunk_segments (no_segments offer.reply) a.stream) []))
    by true = chunk_words (no_segments offer.reply) a.stream h.replies
    by false = tt

pub answer_short_lem : (offer : ChunkLists) (down prog vers proc xid credit : ℕ) (reply : List ℕ) (a : Answer) → down ≤ send_unit * UNITS_MAX → OfferFits offer → answer_for offer down prog vers proc reply ≡ Some a → IsShort (answer_message xid credit offer a)
answer_short_lem offer down prog vers proc xid credit reply a small fits e =
    let sizes = answer_length offer down prog vers proc xid credit reply a e in
    by a.long refl sizes.0 sizes.1
  where
    by : (b : Bool) → a.long ≡ b
        → (a.long ≡ false → (length (answer_message xid credit offer a) ≡ answer_size offer.write + length a.stream) × (length (answer_message xid credit offer a) ≤ down))
        → (a.long ≡ true → length (answer_message xid credit offer a) ≡ answer_size offer.write + reply_chunk_len (length (no_segments offer.reply)))
        → IsShort (answer_message xid credit offer a)
    by true is short long = omega (arith, long is, fits.size)
    by false is short long = omega (arith, (short is).1, small)

pub for_target : (offer : ChunkLists) (down : ℕ) (reply : List ℕ) (t : Option CallTarget) (a : Answer) → answer_of_target offer down reply t ≡ Some a
    → (prog : ℕ) × (vers : ℕ) × (proc : ℕ) × (answer_for offer down prog vers proc reply ≡ Some a)
for_target offer down reply None a e = (0, 0, 0, e)
for_target offer down reply (Some t) a e = (t.prog, t.vers, t.proc, e)

nothing_within : ListsWithin (record { read = []; write = []; reply = None })
nothing_within = record {
  read_segments = omega arith;
  read_ends = All-nil _;
  one_position = (0, All-nil _);
  write_chunks = omega arith;
  chunk_segments = All-nil _;
  write_segments = omega arith;
  write_ends = All-nil _;
  reply_segments = tt;
  reply_ends = tt;
}

pub found_fits : (xid : ℕ) (calls : List PendingCall) → CallsFit calls → OfferFits (offer_by (find (λ (c : PendingCall). eqb c.xid xid) calls))
found_fits xid [] h = record { reads = tt; total = omega arith; size = omega arith; writes = tt; replies = tt; items = (tt, (tt, (tt, tt))); within = nothing_within }
found_fits xid (c ∷ calls) h = by (eqb c.xid xid) (found_fits xid calls h.1)
  where
    by : (b : Bool) → OfferFits (offer_by (find (λ (c : PendingCall). eqb c.xid xid) calls)) → OfferFits (offer_by (cond b (Some c) (find (λ (c : PendingCall). eqb c.xid xid) calls)))
    by true k = h.0
    by false k = k

-- what a server sends of an executed call
pub answer_is_short : (k : ServerState) (e : ExecutedCall) → ServerLimits k → CallsFit k.calls → (o : Option Answer) → answer_of_call k e ≡ o → AnswerShort k e.xid (offer_of k e.xid) o
answer_is_short k e l h None is = chunk_error_short e.xid (credit_word k)
answer_is_short k e l h (Some a) is =
    let down = l.down.1 in
    let t = for_target (offer_of k e.xid) k.down_max e.reply (target_of (call_of e.payload)) a is in
    answer_short_lem (offer_of k e.xid) k.down_max t.0 t.1 t.2 e.xid (credit_word k) e.reply a (omega (arith, down)) (found_fits e.xid k.calls h) t.3

abbrev pub answer_messages : ServerState → ℕ → ChunkLists → Option Answer → List (List ℕ)
answer_messages k xid offer None = chunk_error xid (credit_word k) ∷ []
answer_messages k xid offer (Some a) = answer_message xid (credit_word k) offer a ∷ []

pub fine_answer : (k : ServerState) (e : ExecutedCall) → ServerLimits k → CallsFit k.calls → (o : Option Answer) → answer_of_call k e ≡ o → AreFine (answer_outputs k e.xid (offer_of k e.xid) o) (answer_messages k e.xid (offer_of k e.xid) o)
fine_answer k e l h None is =
    let m = chunk_error e.xid (credit_word k) in
    let short = chunk_error_short e.xid (credit_word k) in
    record { words = message_words (k.messages_queued + 1) m short; completes = completes_message (k.messages_queued + 1) m }
fine_answer k e l h (Some a) is =
    let offer = offer_of k e.xid in
    let segments = map ASegment (answer_segments offer a) in
    let m = answer_message e.xid (credit_word k) offer a in
    let named = stag_named k.invalidates offer in
    let send : List Output = named_outputs named (k.messages_queued + 1) m in
    let short = answer_is_short k e l h (Some a) is in
    record {
      words = from_append segments send (answer_words offer a (found_fits e.xid k.calls h)) (named_words named (k.messages_queued + 1) m short (named_word_lem k.invalidates offer (found_fits e.xid k.calls h)));
      completes = completes_append segments send [] (m ∷ []) (completes_tagged (answer_segments offer a) (tagged_answer offer a)) (completes_named named (k.messages_queued + 1) m);
    }
