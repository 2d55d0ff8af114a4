-- Each message of a server has the size of a message and its credits, and can be read.
use Rattle.std.specs.List.{find}
use Rattle.nr_header.specs.Constants.{PAYLOAD_MAX}
use Rattle.nr_laws.proofs.FrameContents.{SentMessage, CompletesMessage, last_segment}
use Rattle.nr_laws.proofs.AnswerLists.{IsRead, read_answer, read_chunk_error, read_version_error}
use Rattle.std.proofs.Common.{◌≡◌, ℕ, ◌+◌, ◌≤◌, ◌<◌, ◌^◌, Bool, true, false, cond, eqb, List, [], ◌∷◌, ◌++◌, length, take, drop, Some, Ok, refl, sym, ap, ◌∙◌, arith, length-append, append_assoc, take_all}
use Rattle.std.proofs.Math.Seq.{drop-append_seam}
use Rattle.std.proofs.lemmas.List.{take-append-le}
use Rattle.nr_xdr.specs.Item.{word, word_of}
use Rattle.nr_xdr.specs.Items.{encodings}
use Rattle.nr_xdr.specs.Fields.{word_at}
use Rattle.nr_xdr.proofs.WordBytes.{length_word, word_of_word}
use Rattle.nr_wire.specs.Segment.Segment.{Tagged}
use Rattle.nr_header.specs.Length.{reply_chunk_len}
use Rattle.nr_header.specs.declared.header.ChunkLists.{ChunkLists}
use Rattle.nr_header.specs.declared.header.Body.TheVariants.{Msg, Nomsg}
use Rattle.nr_header.specs.Header.{header_encoding, lists_items}
use Rattle.nr_link.specs.Frames.{Frame}
use Rattle.nr_link.specs.Ending.{frame_segment}
use Rattle.nr_link.specs.Agreement.{IsSendLimit}
use Rattle.nr_reduce.specs.Limits.{send_unit}
use Rattle.nr_reduce.specs.Holds.{Answer, answer_for, answer_message, answer_lists, answer_size, chunk_error, version_error, no_segments}
use Rattle.nr_reduce.specs.ServerState.{PendingCall, ServerState, credit_word}
use Rattle.nr_reduce.specs.ServerMessages.{CallVerdict, by_payload, pending_payload}
use Rattle.nr_reduce.specs.ServerMessages.CallVerdict.{Refuses, IsReady}
use Rattle.nr_reduce.specs.ServerFrames.{FrameEffect, with_verdict, frame_effect}
use Rattle.nr_reduce.proofs.AnswerMessages.{answer_length}
use Rattle.nr_laws.proofs.WritableOffers.{OfferFits}
use Rattle.nr_laws.proofs.EachEffect.{send_effect, tagged_effect_lem}
use Rattle.nr_header.proofs.Lengths.{word_len}

-- a message of at most `most` bytes, whose credit word is at most `credit`
pub record IsReply (most credit : ℕ) (message : List ℕ) : Type 0 where
  pub least : 16 ≤ length message
  pub size : length message ≤ most
  pub credits : word_at 8 message ≤ credit
  pub read : IsRead message

abbrev pub AreReplies : (most credit : ℕ) → List (List ℕ) → Type 0
AreReplies most credit [] = Unit {0}
AreReplies most credit (m ∷ messages) = IsReply most credit m × AreReplies most credit messages

third_word : (a b c : ℕ) (rest : List ℕ) → c < 2 ^ 32 → word_at 8 (word a ++ (word b ++ (word c ++ rest))) ≡ c
third_word a b c rest lt =
    let front = word a ++ word b in
    let len : length front ≡ 8 = omega (arith, length-append (word a) (word b), length_word a, length_word b) in
    let dropped : drop 8 (word a ++ (word b ++ (word c ++ rest))) ≡ word c ++ rest =
    ap (λ (xs : List ℕ). drop 8 xs) (sym (append_assoc (word a) (word b) (word c ++ rest))) ∙ ap (λ (n : ℕ). drop n (front ++ (word c ++ rest))) (sym len) ∙ drop-append_seam front (word c ++ rest) in
    ap (λ (xs : List ℕ). word_of (take 4 xs)) dropped
    ∙ ap word_of (take-append-le 4 (word c) rest (omega (arith, length_word c)) ∙ take_all 4 (word c) (omega (arith, length_word c)))
    ∙ word_of_word c lt

pub chunk_error_reply : (most xid credit : ℕ) → send_unit ≤ most → xid < 2 ^ 32 → credit < 2 ^ 32 → IsReply most credit (chunk_error xid credit)
unfolding chunk_error
chunk_error_reply most xid credit room small lt =
    let a = word_len xid (word 1 ++ (word credit ++ (word 4 ++ (word 2 ++ [])))) in
    let b = word_len 1 (word credit ++ (word 4 ++ (word 2 ++ []))) in
    let c = word_len credit (word 4 ++ (word 2 ++ [])) in
    let d = word_len 4 (word 2 ++ []) in
    let e = word_len 2 [] in
    record { least = omega (arith, a, b, c, d, e); size = omega (arith, a, b, c, d, e, room); credits = omega (arith, third_word xid 1 credit (word 4 ++ (word 2 ++ [])) lt); read = read_chunk_error xid credit small lt }

version_error_reply : (most xid version credit : ℕ) → send_unit ≤ most → xid < 2 ^ 32 → version < 2 ^ 32 → credit < 2 ^ 32 → IsReply most credit (version_error xid version credit)
unfolding version_error
version_error_reply most xid version credit room small other lt =
    let rest = word 4 ++ (word 1 ++ (word 1 ++ (word 1 ++ []))) in
    let a = word_len xid (word version ++ (word credit ++ rest)) in
    let b = word_len version (word credit ++ rest) in
    let c = word_len credit rest in
    let d = word_len 4 (word 1 ++ (word 1 ++ (word 1 ++ []))) in
    let e = word_len 1 (word 1 ++ (word 1 ++ [])) in
    let f = word_len 1 (word 1 ++ []) in
    let g = word_len 1 [] in
    record { least = omega (arith, a, b, c, d, e, f, g); size = omega (arith, a, b, c, d, e, f, g, room); credits = omega (arith, third_word xid version credit rest lt); read = read_version_error xid version credit small other lt }

-- ---- Of a frame's effect

replies_verdict : (most credit : ℕ) (o : CallVerdict) (s : FrameEffect) → AreReplies most credit s.errors → AreReplies most credit (with_verdict o s).errors
replies_verdict most credit (Refuses reason) s h = h
replies_verdict most credit (IsReady r) s h = h

pub replies_send : (most : ℕ) → send_unit ≤ most → (k : ServerState) (f : Frame) (message : SentMessage) → CompletesMessage k.received message → word_at 0 message.bytes < 2 ^ 32 → word_at 4 message.bytes < 2 ^ 32 → credit_word k < 2 ^ 32
    → frame_segment f ≡ Ok (last_segment k.received.sends message) → AreReplies most (credit_word k) (frame_effect k f).errors
replies_send most room k f message completes xid version lt is =
    send_effect k (λ m. (word_at 0 m < 2 ^ 32) × (word_at 4 m < 2 ^ 32)) (λ s. AreReplies most (credit_word k) s.errors) (record {
      judged = λ t place c s h. replies_verdict most (credit_word k) (by_payload c (pending_payload t place c)) s h;
      ends = λ m reason fit is. tt;
      version = λ m fit. (version_error_reply most (word_at 0 m) (word_at 4 m) (credit_word k) room fit.0 fit.1 lt, tt);
      chunks = λ m fit. (chunk_error_reply most (word_at 0 m) (credit_word k) room fit.0 lt, tt);
      pending = λ place m c fit is. tt;
    }) f message completes (xid, version) is

pub replies_tagged : (most : ℕ) → send_unit ≤ most → (k : ServerState) (f : Frame) (last : Bool) (opcode stag to : ℕ) (payload : List ℕ) → ((n : ℕ) (c : PendingCall) → find (λ (y : PendingCall). eqb y.number n) k.calls ≡ Some c → c.xid < 2 ^ 32) → credit_word k < 2 ^ 32
    → frame_segment f ≡ Ok (Tagged last opcode stag to payload) → AreReplies most (credit_word k) (frame_effect k f).errors
replies_tagged most room k f last opcode stag to payload small lt is =
    tagged_effect_lem k (λ s. AreReplies most (credit_word k) s.errors) (record {
      unchanged = tt;
      judged = λ t place c s h. replies_verdict most (credit_word k) (by_payload c (pending_payload t place c)) s h;
      read = λ r reads is. tt;
      refused = λ r reads c is found. (chunk_error_reply most c.xid (credit_word k) room (small r.number c found) lt, tt);
    }) f last opcode stag to payload is

-- ---- Of an executed call

encoding_words : (xid credit : ℕ) (b : Bool) (lists : ChunkLists) (stream : List ℕ) → credit < 2 ^ 32
    → word_at 8 (header_encoding (record { xid = xid; credit = credit; body = cond b (Nomsg lists) (Msg lists 0) }) ++ stream) ≡ credit
encoding_words xid credit true lists stream lt =
    let rest = encodings (lists_items lists) in
    ap (λ (xs : List ℕ). word_at 8 xs)
    (append_assoc (word xid) (word 1 ++ (word credit ++ (word 1 ++ rest))) stream
    ∙ ap (λ (xs : List ℕ). word xid ++ xs) (append_assoc (word 1) (word credit ++ (word 1 ++ rest)) stream ∙ ap (λ (xs : List ℕ). word 1 ++ xs) (append_assoc (word credit) (word 1 ++ rest) stream)))
    ∙ third_word xid 1 credit ((word 1 ++ rest) ++ stream) lt
encoding_words xid credit false lists stream lt =
    let rest = encodings (lists_items lists) in
    ap (λ (xs : List ℕ). word_at 8 xs)
    (append_assoc (word xid) (word 1 ++ (word credit ++ (word 0 ++ rest))) stream
    ∙ ap (λ (xs : List ℕ). word xid ++ xs) (append_assoc (word 1) (word credit ++ (word 0 ++ rest)) stream ∙ ap (λ (xs : List ℕ). word 1 ++ xs) (append_assoc (word credit) (word 0 ++ rest) stream)))
    ∙ third_word xid 1 credit ((word 0 ++ rest) ++ stream) lt

pub answer_reply : (offer : ChunkLists) (most down prog vers proc xid credit : ℕ) (reply : List ℕ) (a : Answer) → IsSendLimit down → down ≤ most → xid < 2 ^ 32 → credit < 2 ^ 32 → OfferFits offer → answer_for offer down prog vers proc reply ≡ Some a
    → IsReply most credit (answer_message xid credit offer a)
unfolding answer_message
answer_reply offer most down prog vers proc xid credit reply a limit room word lt fits e =
    let sizes = answer_length offer down prog vers proc xid credit reply a e in
    let words = encoding_words xid credit a.long (answer_lists offer a) (cond a.long [] a.stream) lt in
    let short : a.long ≡ false → length a.stream ≤ PAYLOAD_MAX = λ is. (let s = sizes.0 is in omega (arith, s.0, s.1, limit.1)) in
    by a.long refl sizes.0 sizes.1 words (read_answer offer xid credit a word lt fits.items fits.within short)
  where
    by : (b : Bool) → a.long ≡ b
        → (a.long ≡ false → (length (answer_message xid credit offer a) ≡ answer_size offer.write + length a.stream) × (length (answer_message xid credit offer a) ≤ down))
        → (a.long ≡ true → length (answer_message xid credit offer a) ≡ answer_size offer.write + reply_chunk_len (length (no_segments offer.reply)))
        → word_at 8 (answer_message xid credit offer a) ≡ credit → IsRead (answer_message xid credit offer a) → IsReply most credit (answer_message xid credit offer a)
    by true is short long words back = record { least = omega (arith, long is); size = omega (arith, long is, fits.size, limit.0, room); credits = omega (arith, words); read = back }
    by false is short long words back = record { least = omega (arith, (short is).0); size = omega (arith, (short is).1, room); credits = omega (arith, words); read = back }
