-- What the code made of a message is what is said of it, and what a step leaves of the link.
use Rattle.std.proofs.Common.{◌≡◌, ℕ, ◌+◌, ◌≤◌, List, [], ◌++◌, length, drop, take, Option, Some, None, refl, sym, ap, subst, ◌∙◌, arith, inl, inr, length-append}
use Rattle.std.specs.Prelude.{◌⊎◌}
use Rattle.std.proofs.lemmas.List.{length-take}
use Rattle.nr_wire.specs.Stream.{IsPartial}
use Rattle.nr_wire.specs.Feeding.{bytes_taken}
use Rattle.nr_wire.proofs.Feedings.{bytes_taken_partial}
use Rattle.nr_header.specs.declared.header.ChunkLists.{ChunkLists}
use Rattle.nr_xdr.specs.Fields.{word_at}
use Rattle.nr_link.specs.Reasons.{REASON_HEAD, REASON_XID}
use Rattle.nr_endpoint.specs.LinkState.{LinkSide}
use Rattle.nr_endpoint.specs.Judging.{with_frame}
use Rattle.nr_endpoint.specs.Calls.{after_call}
use Rattle.nr_endpoint.specs.Calls.Call.{NextEvent, Stop, Send}
use Rattle.nr_endpoint.specs.FedBytes.{fed_bytes}
use Rattle.nr_endpoint.proofs.Pieces.{frame_place}
use Rattle.nr_endpoint.proofs.StagedFrames.{taken_whole}
use Rattle.nr_reduce.specs.ServerState.{PendingCall, ServerState}
use Rattle.nr_reduce.specs.ServerMessages.{verdict}
use Rattle.nr_reduce.specs.ServerMessages.Verdict.{MakesPending}
use Rattle.nr_reduce.specs.ServerFrames.{by_message}
use Rattle.nr_reduce.specs.Holds.{chunk_error, version_error}
use Rattle.nr_header.specs.Constants.{VERSION}
use Rattle.nr_link.specs.Limits.{send_unit}
use Rattle.nr_header.proofs.Lengths.{chunk_error_length, versions_length}
use Rattle.nr_responder.specs.ResponderState.{ResponderSide}
use Rattle.nr_responder.specs.private.Handling.{Handled, IsServerOf, MessageTakes, Begins, Makes, OrOut, begun_call, inline_call, refused_effect, on_link, out, with_ready, IsReadCall}
use Rattle.nr_responder.specs.private.Handling.Handled.{Stopped, Refused, Ready, Fetched, Completed}
use Rattle.nr_responder.specs.private.Handling.MessageTakes.{EndsFor, ErrorFor}
use Rattle.nr_responder.specs.private.Handling.Begins.{NoCall, OtherXid, IsReady}
use Rattle.nr_responder.specs.private.Handling.Makes.{Ends, RefusesVersion, RefusesChunks, Calls, Fetches, Completes, EndsAtOnce, LeavesReads, NoServer}
use Rattle.nr_responder.specs.Views.{IsCall}
use Rattle.nr_responder.specs.Sound.{SameInput}
use Rattle.nr_responder.proofs.CallsAtOnce.{complete_refused}
use Rattle.nr_responder.proofs.Judged.{ends_refusal, version_refused, chunks_refused, no_call_refused, other_call_refused, plain_lists_lem}
use Rattle.nr_responder.proofs.FrameCounts.{SameCounts, frame_counts}
use Rattle.nr_responder.proofs.Fed.{StepOf}
use Rattle.nr_responder.proofs.Fed.StepOf.{Part, WholeFrame}

-- ---- What was made of a message

abbrev pub told_of : ResponderSide → ResponderSide
told_of v = on_link v (after_call v.link NextEvent)

-- each server whose calls are kept goes on by it
abbrev pub Goes : ResponderSide → ℕ → List ℕ → ResponderSide → Type 0
Goes v number message after = (k : ServerState) → IsServerOf k v → number ≡ k.received.sends + 1 → Handled k message v after

-- or memory ran out
pub record RanOutOf (v : ResponderSide) (number : ℕ) (message : List ℕ) (after : ResponderSide) : Type 0 where
  pub is_out : after ≡ out (told_of v)
  pub takes : (k : ServerState) → IsServerOf k v → number ≡ k.received.sends + 1 → MessageTakes k message

ended_or_out : (v after : ResponderSide) (number reason : ℕ) (message : List ℕ) → 5 ≤ reason → ((k : ServerState) → IsServerOf k v → number ≡ k.received.sends + 1 → (place : ℕ) → (by_message k place (Some message)).refusal ≡ Some reason) →
    OrOut (told_of v) (after_call (after_call v.link NextEvent) (Stop reason)) after → Goes v number message after ⊎ RanOutOf v number message after
ended_or_out v after number reason message other refuses (inl is) = inl (λ k server count. Stopped reason (refuses k server count) other is)
ended_or_out v after number reason message other refuses (inr is) = inr (record { is_out = is; takes = λ k server count. EndsFor reason (refuses k server count) other })

refused_or_out : (v after : ResponderSide) (number : ℕ) (message answer : List ℕ) → length answer ≤ send_unit → ((k : ServerState) → IsServerOf k v → (place : ℕ) → by_message k place (Some message) ≡ refused_effect k answer) →
    OrOut (told_of v) (after_call (after_call v.link NextEvent) (Send answer)) after → Goes v number message after ⊎ RanOutOf v number message after
refused_or_out v after number message answer short effect (inl is) = inl (λ k server count. Refused answer (effect k server) short is)
refused_or_out v after number message answer short effect (inr is) = inr (record { is_out = is; takes = λ k server count. ErrorFor answer (effect k server) })

told_next : (l : LinkSide) → l.state.memory.next ≡ (after_call l NextEvent).state.memory.next
unfolding after_call
told_next l = refl

pub told_server_of : (k : ServerState) (v : ResponderSide) → IsServerOf k v → IsServerOf k (told_of v)
told_server_of k v server = record { calls = server.calls; credits = server.credits; reads = server.reads; ready = server.ready; new_read = server.new_read; next = server.next ∙ told_next v.link; place = server.place; is_server = server.is_server }

judged_call : (k : ServerState) (message : List ℕ) (lists : ChunkLists) (stream_at : ℕ) → IsCall k message lists stream_at →
    verdict k message ≡ MakesPending (inline_call k (word_at 0 message) lists.write lists.reply (drop stream_at message))
judged_call k message lists stream_at call = call.pending ∙ ap MakesPending (plain_lists_lem k (word_at 0 message) lists (drop stream_at message) call.no_reads)

begins_handled : (v after : ResponderSide) (number : ℕ) (message : List ℕ) (lists : ChunkLists) (stream_at : ℕ) → ((k : ServerState) → IsServerOf k v → IsCall k message lists stream_at) → Begins (told_of v) after number message lists stream_at →
    Goes v number message after ⊎ RanOutOf v number message after
begins_handled v after number message lists stream_at call (NoCall at reads is) =
    ended_or_out v after number REASON_HEAD message (omega arith)
    (λ k server count place. no_call_refused k message place (word_at 0 message) at lists.write lists.reply (drop stream_at message) server.new_read (judged_call k message lists stream_at (call k server)) reads) is
begins_handled v after number message lists stream_at call (OtherXid head reads other is) =
    ended_or_out v after number REASON_XID message (omega arith)
    (λ k server count place. other_call_refused k message place (word_at 0 message) lists.write lists.reply (drop stream_at message) head server.new_read (judged_call k message lists stream_at (call k server)) reads other) is
begins_handled v after number message lists stream_at call (IsReady head reads own is) = inl by
  where
    by : Goes v number message after
    by k server count =
        let c : IsCall k message lists stream_at = call k server in
        let same : begun_call number message lists stream_at ≡ inline_call k (word_at 0 message) lists.write lists.reply (drop stream_at message) =
        λ i. record { number = count i; xid = word_at 0 message; lists = record { read = c.no_reads i; write = lists.write; reply = lists.reply }; inline = Some (drop stream_at message) } in
        Ready (word_at 0 message) lists.write lists.reply (drop stream_at message) head c.own (judged_call k message lists stream_at c) reads own
        (is ∙ ap (λ (c : PendingCall). with_ready (told_of v) (after_call v.link NextEvent) c) same)

-- an error message is short
version_short : (xid version credits : ℕ) → length (version_error xid version credits) ≤ send_unit
unfolding version_error
version_short xid version credits = omega (arith, versions_length xid credits version VERSION VERSION)

pub chunk_short : (xid credits : ℕ) → length (chunk_error xid credits) ≤ send_unit
unfolding chunk_error
chunk_short xid credits = omega (arith, chunk_error_length xid credits VERSION)

-- the call has the number of its Send
at_number : (k : ServerState) (message : List ℕ) (xid number : ℕ) (lists : ChunkLists) (inline : Option (List ℕ)) → number ≡ k.received.sends + 1 → IsReadCall k message xid lists inline →
    verdict k message ≡ MakesPending (record { number = number; xid = xid; lists = lists; inline = inline })
at_number k message xid number lists inline count r = r.pending ∙ (λ i. MakesPending (record { number = sym count i; xid = xid; lists = lists; inline = inline }))

pub makes_handled : (v after : ResponderSide) (number : ℕ) (message : List ℕ) → Makes (told_of v) number message after → Goes v number message after ⊎ RanOutOf v number message after
makes_handled v after number message (Ends reason other judged is) =
    ended_or_out v after number reason message other (λ k server count place. ends_refusal k message reason place (judged k (told_server_of k v server))) is
makes_handled v after number message (RefusesVersion judged is) =
    refused_or_out v after number message (version_error (word_at 0 message) (word_at 4 message) v.credits.word) (version_short (word_at 0 message) (word_at 4 message) v.credits.word)
    (λ k server place. version_refused k message v.credits.word place (judged k (told_server_of k v server)) server.credits) is
makes_handled v after number message (RefusesChunks judged is) =
    refused_or_out v after number message (chunk_error (word_at 0 message) v.credits.word) (chunk_short (word_at 0 message) v.credits.word)
    (λ k server place. chunks_refused k message v.credits.word place (judged k (told_server_of k v server)) server.credits) is
makes_handled v after number message (Calls lists stream_at judged begins) =
    begins_handled v after number message lists stream_at (λ k server. judged k (told_server_of k v server)) begins
makes_handled v after number message (Fetches xid lists inline judged fits total few chunks is) =
    inl (λ k server count.
    let r = judged k (told_server_of k v server) in
    Fetched (record { number = number; xid = xid; lists = lists; inline = inline }) count r.own (at_number k message xid number lists inline count r) fits total few chunks is)
makes_handled v after number message (Completes xid lists inline judged none alone is) =
    inl (λ k server count.
    let r = judged k (told_server_of k v server) in
    let c : PendingCall = record { number = number; xid = xid; lists = lists; inline = inline } in
    Completed c count r.own (at_number k message xid number lists inline count r) none alone is)
makes_handled v after number message (EndsAtOnce xid lists inline reason other judged none refuses is) =
    ended_or_out v after number reason message other
    (λ k server count place.
    let c : PendingCall = record { number = number; xid = xid; lists = lists; inline = inline } in
    complete_refused k server.place place reason message c server.is_server count (at_number k message xid number lists inline count (judged k (told_server_of k v server))) none refuses) is
makes_handled v after number message (LeavesReads takes is) = inr (record { is_out = is; takes = λ k server count. takes k (told_server_of k v server) })
makes_handled v after number message (NoServer no_server) = inl (λ k server count. absurd (no_server k (told_server_of k v server) count))

-- ---- What is left of the link

pub same_fed : (l m : LinkSide) → SameInput l m → fed_bytes m ≤ fed_bytes l
same_fed l m same = by same.rest
  where
    by : ((m.rest ≡ l.rest) ⊎ (m.rest ≡ [])) → fed_bytes m ≤ fed_bytes l
    by (inl is) = omega (arith, same.place, ap (λ (xs : List ℕ). length xs) is)
    by (inr none) = omega (arith, same.place, ap (λ (xs : List ℕ). length xs) none)

-- ---- The link after a step

pub step_counts : (l m : LinkSide) (piece : List ℕ) → StepOf l piece m → SameCounts l.state m.state
step_counts l m piece (Part w is) = subst (λ (x : LinkSide). SameCounts l.state x.state) (sym is) (record { next = refl; lent = refl; receives = refl; receive_length = refl; ends_are = refl })
step_counts l m piece (WholeFrame frame w frame_is long is) = subst (λ (x : LinkSide). SameCounts l.state x.state) (sym is) (frame_counts l.state l.awaited frame)

-- how far a step goes
pub step_within : (l m : LinkSide) (piece : List ℕ) → IsPartial l.awaited l.rest → StepOf l piece m → m.state.ended ≡ None → fed_bytes m ≤ fed_bytes l + bytes_taken l.awaited l.rest piece
step_within l m piece p (Part w is) lives =
    let n = bytes_taken_partial l.awaited l.rest piece w in
    let bytes : fed_bytes m ≡ l.state.place + length (l.rest ++ piece) = ap fed_bytes is in
    omega (arith, n, bytes, length-append l.rest piece)
step_within l m piece p (WholeFrame frame w frame_is long is) lives =
    let t = taken_whole l.awaited l.rest piece p w in
    let place = frame_place l.state l.awaited frame (sym (ap (λ (x : LinkSide). x.state.ended) is) ∙ lives) in
    let bytes : fed_bytes m ≡ (with_frame l.state l.awaited frame).place + 0 = ap fed_bytes is in
    let front : length (take (bytes_taken l.awaited l.rest piece) piece) ≤ bytes_taken l.awaited l.rest piece = omega (arith, length-take (bytes_taken l.awaited l.rest piece) piece) in
    let len : length frame ≡ length l.rest + length (take (bytes_taken l.awaited l.rest piece) piece) =
    ap (λ (xs : List ℕ). length xs) (frame_is ∙ sym t.0) ∙ length-append l.rest (take (bytes_taken l.awaited l.rest piece) piece) in
    omega (arith, bytes, place, len, front)
