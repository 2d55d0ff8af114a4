-- There is a Send of each call that a client accepted among the frames that its server received and those that wait for it.
use Rattle.std.specs.Prelude.{◌<◌, filter}
use Rattle.std.specs.List.{concat}
use Rattle.std.proofs.Common.{◌≡◌, ◌≢◌, ℕ, suc, ◌+◌, arith, cond, eqb, ne_eqb, inl, inr, map, Bool, true, false, List, [], ◌∷◌, ◌++◌, length, drop, None, Ok, refl, sym, ap, ◌∙◌, append-nil, append_assoc, length-append, ◌&&◌, ◌||◌, Option}
use Rattle.std.proofs.Math.Seq.{drop-append_seam}
use Rattle.std.proofs.lemmas.List.{length-map}
use Rattle.std.proofs.lemmas.List.Elements.{filter-append}
use Rattle.nr_wire.specs.declared.hello.Side.{Side}
use Rattle.nr_wire.specs.declared.hello.Side.TheVariants.{Initiator, Responder}
use Rattle.nr_wire.specs.declared.stream.Awaited.{Awaited}
use Rattle.nr_wire.specs.declared.stream.Awaited.TheVariants.{Hello as HelloFrom, Fpdu}
use Rattle.nr_wire.specs.Constants.{OPCODE_SEND, OPCODE_SEND_INVALIDATE}
use Rattle.nr_wire.specs.Segment.{Segment, encoding}
use Rattle.nr_wire.specs.Segment.Segment.{Tagged, Untagged}
use Rattle.nr_wire.proofs.Frames.{fields_some}
use Rattle.nr_wire.specs.Stream.{Split, split, AreFrames, awaited_after}
use Rattle.nr_wire.proofs.Splits.{split_append, split_frames, split_Splits}
use Rattle.nr_link.specs.Frames.{Frame, frames_from, frames_of, frames_completed, is_hello}
use Rattle.nr_link.specs.Ending.{frame_segment, segment_taken}
use Rattle.nr_link.proofs.TakenSegments.{plain_taken}
use Rattle.nr_link.proofs.Streams.{frames_from_append, frames_completed_split}
use Rattle.nr_reduce.specs.declared.mark.Mark.{Mark}
use Rattle.nr_reduce.specs.declared.mark.LinkParameters.{LinkParameters}
use Rattle.nr_reduce.specs.History.{bytes_received}
use Rattle.nr_reduce.specs.Events.{events}
use Rattle.nr_reduce.specs.Run.{client, output_due}
use Rattle.nr_reduce.specs.Asked.{AskedSoFar}
use Rattle.nr_laws.specs.Typed.{IsTyped}
use Rattle.nr_laws.proofs.Outputs.{Output, bytes_of, bytes_of_all, message_of_call}
use Rattle.nr_laws.proofs.Outputs.Output.{AHello, ASegment}
use Rattle.nr_link.specs.ReceiveState.{begun_bytes}
use Rattle.nr_laws.proofs.Completions.{completed_by, begun_by, completed_from}
use Rattle.nr_reduce.specs.Hellos.{client_hello}
use Rattle.nr_laws.proofs.Brought.{AreFrom, encoding_is}
use Rattle.nr_laws.proofs.PlainOutputs.{ArePlain, IsPlain, client_plain}
use Rattle.nr_laws.proofs.FirstHellos.{client_hello_is}
use Rattle.nr_laws.proofs.EventOutputs.{whole_bytes}
use Rattle.nr_laws.proofs.ClientSays.{HasHello, asked, asked_count}
use Rattle.nr_laws.proofs.ClientRun.{client_outs, client_outputs}
use Rattle.nr_drill.specs.WorkLeft.{is_send, is_send_segment}
use Rattle.nr_drill.proofs.LessUp.{some_bytes_lem}

-- ===== the frames of some bytes and of more

pub frames_one : (side : Side) (old more : List ℕ) → frames_of side (old ++ more) ≡ frames_of side old ++ frames_completed side old more
unfolding frames_of
frames_one side old more =
    let s = split (HelloFrom side) old in
    let later = (split (awaited_after (HelloFrom side) s.frames) (s.rest ++ more)).frames in
    ap (λ (x : Split). frames_from 0 x.frames) (split_append (HelloFrom side) old more)
    ∙ frames_from_append 0 s.frames later
    ∙ ap (λ (fs : List Frame). frames_from 0 s.frames ++ fs) (ap (λ (n : ℕ). frames_from n later) (omega arith) ∙ sym (frames_completed_split side old more))

pub completed_is : (side : Side) (old more : List ℕ) → frames_completed side old more ≡ drop (length (frames_of side old)) (frames_of side (old ++ more))
unfolding frames_completed
completed_is side old more = refl

pub completed_two : (side : Side) (old x y : List ℕ) → frames_completed side old (x ++ y) ≡ frames_completed side old x ++ frames_completed side (old ++ x) y
completed_two side old x y =
    let first = frames_completed side old x in
    let second = frames_completed side (old ++ x) y in
    completed_is side old (x ++ y)
    ∙ ap (λ (fs : List Frame). drop (length (frames_of side old)) fs)
    (ap (λ (xs : List ℕ). frames_of side xs) (sym (append_assoc old x y)) ∙ frames_one side (old ++ x) y ∙ ap (λ (fs : List Frame). fs ++ second) (frames_one side old x) ∙ append_assoc (frames_of side old) first second)
    ∙ drop-append_seam (frames_of side old) (first ++ second)

-- if a frame was received, one was received later too
pub still_heard : (side : Side) (old more : List ℕ) → frames_of side old ≢ [] → frames_of side (old ++ more) ≢ []
still_heard side old more heard = λ none. by (frames_of side old) (frames_completed side old more) heard (sym (frames_one side old more) ∙ none)
  where
    by : (xs ys : List Frame) → xs ≢ [] → xs ++ ys ≡ [] → ⊥
    by [] ys some e = some refl
    by (x ∷ xs) ys some e = absurd cc

-- ===== the frames of what a client writes

concat_bytes : (outs : List Output) → concat (map bytes_of outs) ≡ bytes_of_all outs
concat_bytes [] = refl
concat_bytes (o ∷ outs) = ap (λ (xs : List ℕ). bytes_of o ++ xs) (concat_bytes outs)

are_frames : (outs : List Output) → AreFrom Fpdu outs → AreFrames Fpdu (map bytes_of outs)
are_frames [] h = tt
are_frames (AHello bytes ∷ outs) h = absurd h
are_frames (ASegment s ∷ outs) h = ((encoding_is s h.0).is_frame, are_frames outs h.1)

split_none : (a : Awaited) → (split a []).frames ≡ []
unfolding split
split_none a = refl

-- its hello and the segments after it
stream_frames : (o : LinkParameters) (outs : List Output) → AreFrom Fpdu outs → frames_of Initiator (client_hello o ++ bytes_of_all outs) ≡ frames_from 0 (client_hello o ∷ map bytes_of outs)
unfolding frames_of
stream_frames o outs h =
    let a = HelloFrom Initiator in
    let fs = client_hello o ∷ map bytes_of outs in
    ap (λ (xs : List ℕ). frames_from 0 (split a xs).frames) (ap (λ (xs : List ℕ). client_hello o ++ xs) (sym (concat_bytes outs)) ∙ sym (append-nil (concat fs)))
    ∙ ap (λ (s : Split). frames_from 0 s.frames) (split_frames a fs [] ((client_hello_is o).is_frame, are_frames outs h))
    ∙ ap (λ (xs : List (List ℕ)). frames_from 0 (fs ++ xs)) (split_none (awaited_after a fs)) ∙ ap (λ (xs : List (List ℕ)). frames_from 0 xs) (append-nil fs)

-- ===== how many of them are Sends

abbrev sends_among : List Frame → ℕ
sends_among fs = length (filter is_send fs)

one_more_lem : (f : Frame) (fs : List Frame) (b : Bool) → is_send f ≡ b → sends_among (f ∷ fs) ≡ cond b (suc (sends_among fs)) (sends_among fs)
one_more_lem f fs true is = ap (λ (b : Bool). length (cond b (f ∷ filter is_send fs) (filter is_send fs))) is
one_more_lem f fs false is = ap (λ (b : Bool). length (cond b (f ∷ filter is_send fs) (filter is_send fs))) is

counted : (b : Option (List ℕ)) (segment : Segment) (ms : List (List ℕ)) (n : ℕ) → n ≡ length ms → IsPlain segment → cond (is_send_segment (Ok segment)) (suc n) n ≡ length (completed_by b segment ++ ms)
counted b (Tagged last opcode stag to payload) ms n is plain = is
counted b (Untagged last opcode w queue msn offset payload) ms n is plain = by (eqb opcode OPCODE_SEND) (eqb opcode OPCODE_SEND_INVALIDATE) last plain
  where
    by : (a c d : Bool) → c ≡ false → cond (a && d) (suc n) n ≡ length (cond ((a || c) && d) ((begun_bytes b ++ payload) ∷ []) [] ++ ms)
    by true c true e = ap suc is
    by true c false e = is
    by false false d e = is
    by false true d e = absurd cc

-- as many as the messages that they complete
segments_sends : (b : Option (List ℕ)) (place : ℕ) (outs : List Output) → 0 < place → AreFrom Fpdu outs → ArePlain outs → sends_among (frames_from place (map bytes_of outs)) ≡ length (completed_from b outs)
unfolding frame_segment
segments_sends b place [] some h plain = refl
segments_sends b place (AHello bytes ∷ outs) some h plain = absurd h
segments_sends b place (ASegment s ∷ outs) some h plain =
    let f : Frame = record { at = place; end = place + length (encoding s); bytes = encoding s } in
    let later = frames_from (place + length (encoding s)) (map bytes_of outs) in
    let appended : is_hello f ≡ false = ne_eqb place 0 (λ e. omega (arith, e, some)) in
    let taken : segment_taken false (encoding s) ≡ Ok s = plain_taken false (encoding s) s (encoding_is s h.0).says plain.0 in
    let read : is_send f ≡ is_send_segment (Ok s) = (λ i. cond (appended i) false (is_send_segment (segment_taken false (encoding s)))) ∙ ap is_send_segment taken in
    one_more_lem f later (is_send_segment (Ok s)) read
    ∙ counted b s (completed_from (begun_by b s) outs) (sends_among later) (segments_sends (begun_by b s) (place + length (encoding s)) outs (omega (arith, some)) h.1 plain.1) plain.0

stream_sends : (o : LinkParameters) (outs : List Output) → AreFrom Fpdu outs → ArePlain outs → sends_among (frames_of Initiator (client_hello o ++ bytes_of_all outs)) ≡ length (completed_from None outs)
stream_sends o outs h plain =
    let n = length (client_hello o) in
    let some : 0 < 0 + n = (let a = (client_hello_is o).is_frame.fields in let b = fields_some (HelloFrom Initiator) in omega (arith, a, b)) in
    ap sends_among (stream_frames o outs h) ∙ segments_sends None (0 + n) outs some h plain

-- ===== on a link whose client hasn't ended

has_hello_lem : (place : ℕ) (b : Bool) → 0 < place → HasHello place b → b ≡ true
has_hello_lem place b some (inl none) = absurd (let e = none.0 in omega (arith, e, some))
has_hello_lem place b some (inr is) = is.1

whole_some : (link : ℕ) (run : List Mark) → frames_of Responder (bytes_received link Initiator run) ≢ [] → 0 < whole_bytes link Initiator run
unfolding frames_of
whole_some link run heard =
    let got = bytes_received link Initiator run in
    some_bytes_lem Responder (split (HelloFrom Responder) got).frames (λ none. heard (ap (λ (fs : List (List ℕ)). frames_from 0 fs) none)) (split_Splits (HelloFrom Responder) got).each

-- if it has the server's hello, there is a Send of each call that it accepted among the frames that the server has, and those to come
pub sends_waiting : (o : LinkParameters) (link : ℕ) (run : List Mark) (way : List ℕ) → IsTyped run → AskedSoFar o link run → (client o link run).ended ≡ None → frames_of Responder (bytes_received link Initiator run) ≢ [] →
    bytes_received link Responder run ++ way ≡ output_due o link Initiator run →
    length (filter is_send (frames_of Initiator (bytes_received link Responder run))) + length (filter is_send (frames_completed Initiator (bytes_received link Responder run) way)) ≡ (client o link run).state.sends
sends_waiting o link run way typed asked_so lives heard carried =
    let got = bytes_received link Responder run in
    let t = client_outputs o link run typed asked_so in
    let k = (client o link run).state in
    let calls = asked o (events link Initiator run) in
    let knows : k.has_hello ≡ true = has_hello_lem (whole_bytes link Initiator run) k.has_hello (whole_some link run heard) (t.says.greeted lives) in
    let all : sends_among (frames_of Initiator (got ++ way)) ≡ length (completed_from None (client_outs o link run)) =
    ap (λ (xs : List ℕ). sends_among (frames_of Initiator xs)) (carried ∙ t.bytes) ∙ stream_sends o (client_outs o link run) t.says.words (client_plain o link run) in
    let said : length (completed_from None (client_outs o link run)) ≡ length calls =
    ap (λ (ms : List (List ℕ)). length ms) (t.says.completes.completed ∙ (λ i. cond (knows i) (map (message_of_call o) calls) [])) ∙ length-map calls (message_of_call o) in
    let accepted : length calls ≡ k.sends = asked_count o (events link Initiator run) ∙ sym t.says.count in
    let both : sends_among (frames_of Initiator (got ++ way)) ≡ sends_among (frames_of Initiator got) + sends_among (frames_completed Initiator got way) =
    ap sends_among (frames_one Initiator got way) ∙ ap (λ (fs : List Frame). length fs) (filter-append is_send (frames_of Initiator got) (frames_completed Initiator got way))
    ∙ length-append (filter is_send (frames_of Initiator got)) (filter is_send (frames_completed Initiator got way)) in
    sym both ∙ all ∙ said ∙ accepted
