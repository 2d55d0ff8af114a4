-- What a client makes of the message of an answer that it can read: what the answer's lists and its memory convey.
use Rattle.std.proofs.Common.{◌≡◌, ℕ, ◌^◌, ◌≤◌, ◌<◌, true, false, cond, List, drop, Option, None, Some, Ok, sym, ap, ◌∙◌}
use Rattle.nr_xdr.specs.Item.{IsBytes}
use Rattle.nr_header.specs.Constants.{PAYLOAD_MAX}
use Rattle.nr_header.specs.declared.header.ReadSegment.{ReadSegment}
use Rattle.nr_header.specs.declared.header.Body.{Body}
use Rattle.nr_header.specs.declared.header.Body.TheVariants.{Msg, Nomsg, ErrVers, ErrChunk}
use Rattle.nr_header.specs.declared.header.Header.{Header}
use Rattle.nr_header.specs.Reading.{header_of}
use Rattle.nr_reduce.specs.declared.call.Outcome.TheVariants as outcomes
use Rattle.nr_reduce.specs.Plans.{lists_of}
use Rattle.nr_reduce.specs.Chunks.{answers_offer, reply_conveyed}
use Rattle.nr_reduce.specs.Holds.{Answer, answer_for, answer_lists, answer_message}
use Rattle.nr_reduce.specs.ChunkBytes.{IsOffer, offered_lists, lists_by, inline_by}
use Rattle.nr_reduce.specs.ClientState.{ClientState, OutstandingCall, client_memory_at}
use Rattle.nr_reduce.specs.ClientMessages.{reply_by_body}
use Rattle.nr_reduce.specs.ClientMessages.ReplyVerdict.{GivesOutcome}
use Rattle.nr_reduce.proofs.AnswerMessages.{answer_again}
use Rattle.nr_laws.proofs.InlineReplies.{lists_bring}
use Rattle.nr_laws.proofs.Replied.{same_body_lem}

body_conveys : (k : ClientState) (place : ℕ) (o : OutstandingCall) (m : List ℕ) (b : Body) (y : ℕ) (q : List ℕ) → reply_by_body k place o m b ≡ GivesOutcome y (Some (outcomes.Reply q))
    → reply_conveyed o.call.prog o.call.vers o.call.proc (inline_by m b) (lists_by b) (client_memory_at k place) ≡ Some q
body_conveys k place o m (Msg lists at) y q e = (lists_bring k place o (Some (drop at m)) lists (answers_offer false (lists_of o.stag o.plan) lists) y q e).conveys
body_conveys k place o m (Nomsg lists) y q e = (lists_bring k place o None lists (answers_offer true (lists_of o.stag o.plan) lists) y q e).conveys
body_conveys k place o m (ErrVers version low high) y q e = absurd cc
body_conveys k place o m (ErrChunk version) y q e = absurd cc

pub client_reads : (read : List ReadSegment) (ws rs : ℕ) (w r : Option (List ℕ)) (down prog vers proc xid credit : ℕ) (reply : List ℕ) (a : Answer) (k : ClientState) (place : ℕ) (o : OutstandingCall) (m : List ℕ) (h : Header) (y : ℕ) (q : List ℕ)
    → IsBytes reply → IsOffer (offered_lists read ws rs w r) → answer_for (offered_lists read ws rs w r) down prog vers proc reply ≡ Some a → down ≤ PAYLOAD_MAX → xid < 2 ^ 32 → credit < 2 ^ 32
    → m ≡ answer_message xid credit (offered_lists read ws rs w r) a → header_of m ≡ Ok h → reply_by_body k place o m h.body ≡ GivesOutcome y (Some (outcomes.Reply q))
    → reply_conveyed o.call.prog o.call.vers o.call.proc (cond a.long None (Some a.stream)) (answer_lists (offered_lists read ws rs w r) a) (client_memory_at k place) ≡ Some q
client_reads read ws rs w r down prog vers proc xid credit reply a k place o m h y q bytes offer e room fx fc is reads gives =
    let again = answer_again read ws rs w r down prog vers proc xid credit reply a bytes offer e room fx fc in
    let own : again.body ≡ h.body = same_body_lem xid credit again.body h (sym again.reads ∙ ap header_of (sym is) ∙ reads) in
    let inline : inline_by m h.body ≡ cond a.long None (Some a.stream) = (λ i. inline_by (is i) (sym own i)) ∙ again.stream in
    let lists : lists_by h.body ≡ answer_lists (offered_lists read ws rs w r) a = ap lists_by (sym own) ∙ again.lists in
    (λ i. reply_conveyed o.call.prog o.call.vers o.call.proc (sym inline i) (sym lists i) (client_memory_at k place)) ∙ body_conveys k place o m h.body y q gives
