-- A message with a read list, by what the code made of its call.
use Rattle.std.proofs.Common.{◌≡◌, ℕ, ◌+◌, ◌<◌, ◌≤◌, Bool, true, false, cond, ltb, List, length, drop, Option, refl, ap, ◌∙◌, arith}
use Rattle.std.specs.Prelude.{nat_lt}
use Rattle.std.proofs.lemmas.Bool.{le-ltb, ltb-false}
use Rattle.nr_xdr.specs.Fields.{word_at}
use Rattle.nr_header.specs.declared.header.ChunkLists.{ChunkLists}
use Rattle.nr_link.specs.Reasons.{REASON_STAGS}
use Rattle.nr_reduce.specs.Limits.{numbers_end}
use Rattle.nr_reduce.specs.ServerState.{PendingCall, ServerState, next_stag}
use Rattle.nr_reduce.specs.Chunks.{positions}
use Rattle.nr_reduce.specs.ServerReads.{chunks_of}
use Rattle.nr_reduce.specs.ServerMessages.{by_need}
use Rattle.nr_reduce.specs.ServerMessages.Verdict.{EndsLink, MakesPending}
use Rattle.nr_responder.specs.Fetching.{HasBytes}
use Rattle.nr_responder.specs.ResponderState.{ResponderSide}
use Rattle.nr_responder.specs.private.CallsRead.{HasNoBytes}
use Rattle.nr_responder.specs.private.Handling.{FetchesCall, IsReadCall, IsServerOf, Makes, MessageTakes, OfServers}
use Rattle.nr_responder.specs.private.Handling.FetchesCall.{Spends, ReadsChunks, IsComplete, EndsFor, RunsOut}
use Rattle.nr_responder.specs.private.Handling.Makes.{Ends, Fetches, Completes, EndsAtOnce, LeavesReads}
use Rattle.nr_responder.specs.private.Handling.MessageTakes.{EndsFor as TakesEnd, ReadsFor as TakesReads}
use Rattle.nr_responder.specs.Views.{call_with, inline_of, IsOfReads}
use Rattle.nr_responder.proofs.CallsAtOnce.{filter_none}
use Rattle.nr_responder.proofs.Judged.{ends_refusal}

-- the STags of its sinks are more than are left, or not
spends : (k : ServerState) (c : PendingCall) → numbers_end < next_stag k + length (chunks_of c.lists) → by_need k c ≡ EndsLink REASON_STAGS
spends k c lt = ap (λ (b : Bool). cond b (EndsLink REASON_STAGS) (MakesPending c)) (lt_ltb numbers_end (next_stag k + length (chunks_of c.lists)) lt)
  where
    lt_ltb : (m n : ℕ) → m < n → ltb m n ≡ true
    lt_ltb m n lt = by (ltb m n) refl
      where
        by : (b : Bool) → ltb m n ≡ b → b ≡ true
        by true e = refl
        by false e = absurd (omega (arith, lt, ltb-false m n e))

fits : (k : ServerState) (c : PendingCall) → next_stag k + length (chunks_of c.lists) ≤ numbers_end → by_need k c ≡ MakesPending c
fits k c le = ap (λ (b : Bool). cond b (EndsLink REASON_STAGS) (MakesPending c)) (le-ltb numbers_end (next_stag k + length (chunks_of c.lists)) le)

takes : (k : ServerState) (message : List ℕ) (lists : ChunkLists) (stream_at : ℕ) (inline : Bool) → HasBytes lists.read → IsOfReads k message lists stream_at inline → MessageTakes k message
takes k message lists stream_at inline bytes r = by (nat_lt numbers_end (next_stag k + length (chunks_of lists))) refl
  where
    c : PendingCall
    c = call_with (k.received.sends + 1) (word_at 0 message) lists (inline_of inline (drop stream_at message))

    by : (b : Bool) → nat_lt numbers_end (next_stag k + length (chunks_of lists)) ≡ b → MessageTakes k message
    by true e = TakesEnd REASON_STAGS (λ place. ends_refusal k message REASON_STAGS place (r.needs ∙ ap (λ (b : Bool). cond b (EndsLink REASON_STAGS) (MakesPending c)) e)) (omega arith)
    by false e = TakesReads (record { call = c; judged = r.needs ∙ ap (λ (b : Bool). cond b (EndsLink REASON_STAGS) (MakesPending c)) e; bytes = bytes })

pub fetched_makes : (v after : ResponderSide) (number : ℕ) (message : List ℕ) (lists : ChunkLists) (stream_at : ℕ) (inline : Bool) → OfServers (λ k. IsOfReads k message lists stream_at inline) v → v.link.state.memory.next ≤ numbers_end →
    FetchesCall v after (call_with number (word_at 0 message) lists (inline_of inline (drop stream_at message))) → Makes v number message after
fetched_makes v after number message lists stream_at inline of_reads few = by
  where
    stream : Option (List ℕ)
    stream = inline_of inline (drop stream_at message)

    read_call : (k : ServerState) → IsServerOf k v → v.link.state.memory.next + length (chunks_of lists) ≤ numbers_end → IsReadCall k message (word_at 0 message) lists stream
    read_call k server le =
        let r = of_reads k server in
        let next = server.next in
        record { own = r.own; pending = r.needs ∙ fits k (call_with (k.received.sends + 1) (word_at 0 message) lists stream) (omega (arith, le, next)) }

    no_chunks : HasNoBytes lists.read → v.link.state.memory.next + length (chunks_of lists) ≤ numbers_end
    no_chunks none = (let count = ap (λ (ps : List ℕ). length ps) (filter_none lists.read (positions lists.read) none) in omega (arith, few, count))

    by : FetchesCall v after (call_with number (word_at 0 message) lists stream) → Makes v number message after
    by (Spends lt is) =
        Ends REASON_STAGS (omega arith)
        (λ k server. (of_reads k server).needs ∙ spends k (call_with (k.received.sends + 1) (word_at 0 message) lists stream) (let next = server.next in omega (arith, lt, next))) is
    by (ReadsChunks le total few some is) = Fetches (word_at 0 message) lists stream (λ k server. read_call k server le) le total few some is
    by (IsComplete none alone is) = Completes (word_at 0 message) lists stream (λ k server. read_call k server (no_chunks none)) none alone is
    by (EndsFor reason other none refuses is) = EndsAtOnce (word_at 0 message) lists stream reason other (λ k server. read_call k server (no_chunks none)) none refuses is
    by (RunsOut bytes is) = LeavesReads (λ k server. takes k message lists stream_at inline bytes (of_reads k server)) is
