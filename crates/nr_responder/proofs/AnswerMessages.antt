-- The message of an answer fits into a receive of the client.
use Rattle.std.proofs.Common.{◌≡◌, ℕ, ◌+◌, ◌*◌, ◌≤◌, Bool, true, false, List, [], ◌∷◌, length, Option, None, Some, refl, arith}
use Rattle.std.specs.Prelude.{sum_by}
use Rattle.std.proofs.lemmas.List.Sums.{sum_by-cons}
use Rattle.nr_header.specs.declared.header.RdmaSegment.{RdmaSegment}
use Rattle.nr_header.specs.declared.header.ChunkLists.{ChunkLists}
use Rattle.nr_header.specs.Constants.{VERSION}
use Rattle.nr_header.specs.Length.{write_chunk_len, write_list_len}
use Rattle.nr_header.specs.WithinLimits.{ListsWithin}
use Rattle.nr_header.proofs.Lengths.{chunk_error_length}
use Rattle.nr_link.specs.Agreement.{IsSendLimit}
use Rattle.nr_link.specs.Limits.{send_unit}
use Rattle.nr_rpc.specs.Reading.{call_of, target_of}
use Rattle.nr_rpc.specs.declared.head.CallTarget.{CallTarget}
use Rattle.nr_reduce.specs.Holds.{Answer, answer_for, answer_message, chunk_error}
use Rattle.nr_reduce.specs.Server.{answer_of_target}
use Rattle.nr_reduce.specs.ServerState.{PendingCall}
use Rattle.nr_reduce.proofs.AnswerMessages.{answer_length}
use Rattle.nr_responder.specs.Answering.{answer_to, message_for}
use Rattle.nr_responder.proofs.OutputLengths.{reply_few}

error_short : (xid credits : ℕ) → length (chunk_error xid credits) ≤ send_unit
unfolding chunk_error
error_short xid credits = (let len = chunk_error_length xid credits VERSION in omega (arith, len))

list_len : (chunks : List (List RdmaSegment)) → write_list_len chunks ≡ 8 * length chunks + 16 * sum_by (λ (chunk : List RdmaSegment). length chunk) chunks
list_len [] = refl
list_len (chunk ∷ chunks) =
    let all = sum_by-cons (λ (c : List RdmaSegment). write_chunk_len (length c)) chunk chunks in
    let count = sum_by-cons (λ (c : List RdmaSegment). length c) chunk chunks in
    let rest = list_len chunks in
    omega (arith, all, count, rest)

-- an answer that an offer within the limits holds
held_short : (down xid credits : ℕ) (lists : ChunkLists) (prog vers proc : ℕ) (reply : List ℕ) (o : Option Answer) → IsSendLimit down → ListsWithin lists → answer_for lists down prog vers proc reply ≡ o → length (message_for xid credits lists o) ≤ down
held_short down xid credits lists prog vers proc reply None limit within is = (let small = error_short xid credits in let least = limit.0 in omega (arith, small, least))
held_short down xid credits lists prog vers proc reply (Some a) limit within is = by a.long refl
  where
    by : (long : Bool) → a.long ≡ long → length (answer_message xid credits lists a) ≤ down
    by false here = ((answer_length lists down prog vers proc xid credits reply a is).0 here).1
    by true away =
        let len = (answer_length lists down prog vers proc xid credits reply a is).1 away in
        let least = limit.0 in
        let list = list_len lists.write in
        let chunks = within.write_chunks in
        let segments = within.write_segments in
        let few = reply_few lists.reply within.reply_segments in
        omega (arith, len, list, chunks, segments, few, least)

target_short : (down xid credits : ℕ) (lists : ChunkLists) (reply : List ℕ) (o : Option CallTarget) → IsSendLimit down → ListsWithin lists → length (message_for xid credits lists (answer_of_target lists down reply o)) ≤ down
target_short down xid credits lists reply None limit within = held_short down xid credits lists 0 0 0 reply (answer_for lists down 0 0 0 reply) limit within refl
target_short down xid credits lists reply (Some t) limit within = held_short down xid credits lists t.prog t.vers t.proc reply (answer_for lists down t.prog t.vers t.proc reply) limit within refl

-- Whatever the reply, the message of the answer to a call with lists within the limits has at most the bytes of a Send.
pub message_short : (down xid credits : ℕ) (c : PendingCall) (stream reply : List ℕ) → IsSendLimit down → ListsWithin c.lists → length (message_for xid credits c.lists (answer_to down c stream reply)) ≤ down
message_short down xid credits c stream reply limit within = target_short down xid credits c.lists reply (target_of (call_of stream)) limit within
