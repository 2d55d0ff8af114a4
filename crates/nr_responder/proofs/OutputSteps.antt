-- The output of a responder stays within its bounds at each of its steps.
use Rattle.std.proofs.Common.{◌≡◌, ◌*◌, ◌≢◌, ℕ, zero, suc, ◌+◌, ◌<◌, ◌≤◌, List, [], ◌∷◌, length, drop, Option, None, Some, refl, sym, ap, subst, ◌∙◌, arith, inl, inr}
use Rattle.std.specs.Prelude.{◌⊎◌, slice_get}
use Rattle.std.specs.List.{remove}
use Rattle.nr_wire.specs.Stream.{IsPartial}
use Rattle.nr_link.specs.declared.end.End.{End}
use Rattle.nr_link.specs.declared.end.End.TheVariants as ends
use Rattle.nr_link.specs.Limits.{open_reads_max, send_unit}
use Rattle.nr_link.specs.Input.{InputState}
use Rattle.nr_endpoint.specs.LinkState.{LinkSide}
use Rattle.nr_endpoint.specs.ReceiveQueue.DeliveredEvent.{ReadDone}
use Rattle.nr_endpoint.specs.Calls.{after_call, after_calls}
use Rattle.nr_endpoint.specs.Calls.Call.{FeedOne, NextEvent, OutOfMemory}
use Rattle.nr_endpoint.specs.Offering.{answer_calls, writes_output}
use Rattle.nr_reduce.specs.declared.mark.LinkParameters.{LinkParameters}
use Rattle.nr_reduce.specs.ServerState.{PendingCall, PendingRead, ServerState}
use Rattle.nr_responder.specs.declared.call.Sent.{Sent}
use Rattle.nr_responder.specs.Answering.{Answers, answer_to, answered_by, message_for, name_for, writes_for}
use Rattle.nr_header.specs.declared.header.ChunkLists.{ChunkLists}
use Rattle.nr_header.specs.WithinLimits.{ListsWithin}
use Rattle.nr_rpc.specs.Reading.{call_of, target_of}
use Rattle.nr_reduce.specs.Holds.{Answer}
use Rattle.nr_responder.proofs.OutputLengths.{AnswerFits, target_fits, writes_len}
use Rattle.nr_responder.specs.HeldBytes.{sent_reply_max, writes_max, OutputFits, OutputLives, QueueFits, SharesFit}
use Rattle.nr_responder.specs.Keeping.{Keeps, OwnNumbers}
use Rattle.nr_responder.specs.ResponderState.{ResponderSide, end_of, present_word}
use Rattle.nr_responder.specs.private.Handling.{IsServerOf, IsTaken, on_link}
use Rattle.nr_responder.specs.private.ReadsDone.{HandlesRead}
use Rattle.nr_responder.proofs.Answered.{answer_link}
use Rattle.nr_responder.proofs.DoneReads.{impossible_none}
use Rattle.nr_responder.proofs.Executed.{with_answer}
use Rattle.nr_responder.proofs.Fed.{StepOf, step_next, step_of}
use Rattle.nr_responder.proofs.Handled.{Goes, RanOutOf, makes_handled, told_of, told_server_of}
use Rattle.nr_responder.proofs.OutputBounds.{ended_out, fed_lives, handled_out, live_out, memory_out, read_out, told_lives, waits_lem}
use Rattle.nr_responder.proofs.Posted.{told_link_lem}
use Rattle.nr_responder.proofs.QueueBounds.{sends_fit}
use Rattle.nr_responder.proofs.Removed.{length_removed}
use Rattle.nr_responder.proofs.ServerSteps.{new_is_read}
use Rattle.nr_responder.proofs.Stepped.{FewDeliveries, few_deliveries}
use Rattle.nr_link.specs.Agreement.{IsSendLimit}
use Rattle.nr_wire.specs.Constants.{UNITS_MAX}
use Rattle.nr_responder.proofs.Words.{word_is}

pub failed_out : (v : ResponderSide) (piece : List ℕ) (m : LinkSide) (end : End) → end_of v ≡ None → IsPartial v.link.awaited v.link.rest → m.state.ended ≡ Some end → (end ≢ ends.Memory → m ≡ after_call v.link (FeedOne piece)) → (end ≡ ends.Memory → m ≡ after_call v.link OutOfMemory) → OutputFits v → OutputFits (on_link v m)
failed_out v piece m end live p ended fed out_of h = by end ended fed out_of
  where
    went : (end : End) → m.state.ended ≡ Some end → m ≡ after_call v.link (FeedOne piece) → OutputFits (on_link v m)
    went end ended is = ended_out v piece m end live (step_of v.link m piece p live is) ended h

    by : (end : End) → m.state.ended ≡ Some end → (end ≢ ends.Memory → m ≡ after_call v.link (FeedOne piece)) → (end ≡ ends.Memory → m ≡ after_call v.link OutOfMemory) → OutputFits (on_link v m)
    by (ends.Bad at reason) ended fed out_of = went (ends.Bad at reason) ended (fed (λ e. absurd cc))
    by (ends.Denied stag offset why) ended fed out_of = went (ends.Denied stag offset why) ended (fed (λ e. absurd cc))
    by (ends.NoBuffer msn) ended fed out_of = went (ends.NoBuffer msn) ended (fed (λ e. absurd cc))
    by (ends.Terminated reason) ended fed out_of = went (ends.Terminated reason) ended (fed (λ e. absurd cc))
    by ends.Memory ended fed out_of = memory_out v (on_link v m) live refl (out_of refl) h

pub step_out : (opened : LinkParameters) (k : ServerState) (so_far : InputState) (v after : ResponderSide) (piece : List ℕ) (m : LinkSide) → Keeps opened k so_far v → end_of v ≡ None → m.state.ended ≡ None → StepOf v.link piece m → SharesFit v → OutputFits v → (end_of after ≡ None → SharesFit after) →
    v.credits.word ≡ present_word v → IsTaken (on_link v m) after → OutputFits after
step_out opened k so_far v after piece m h live lives step shares fit on word taken = by (few_deliveries opened k so_far v piece m h lives step)
  where
    w : ResponderSide
    w = on_link v m

    f : OutputLives w
    f = fed_lives opened k so_far v piece m h step lives (fit.each live)

    server : IsServerOf k w
    server = record { calls = sym h.calls; credits = sym (word ∙ word_is opened k so_far v h); reads = sym h.reads; ready = h.ready; new_read = new_is_read k h.server.reads_before; next = sym h.link.next ∙ sym (step_next v.link m piece step); place = v.link.state.place; is_server = h.server }

    told_live : end_of (told_of w) ≡ None
    told_live = (told_link_lem m (after_call m NextEvent) refl).live ∙ lives

    t : OutputLives (told_of w)
    t = told_lives w f

    told_shares : SharesFit (told_of w)
    told_shares = record { shares = shares.shares; counts = shares.counts; waiting = shares.waiting }

    message : (bytes : List ℕ) → Goes w (k.received.sends + 1) bytes after ⊎ RanOutOf w (k.received.sends + 1) bytes after → OutputFits after
    message bytes (inl goes) = handled_out opened k so_far bytes v after m h lives f on (goes k server refl)
    message bytes (inr ran) = memory_out (told_of w) after told_live (ap (λ (x : ResponderSide). x.calls) ran.is_out) (ap (λ (x : ResponderSide). x.link) ran.is_out) (live_out (told_of w) t)

    numbers : OwnNumbers v.calls
    numbers = subst OwnNumbers (sym h.calls) h.server.numbers

    which : (x : PendingRead) (rest : List PendingRead) → v.fetching.reads ≡ x ∷ rest → HandlesRead (told_of w) x rest after → OutputFits after
    which x rest reads (inl impossible) = absurd (impossible_none k (told_of w) x rest (told_server_of k w server) reads impossible)
    which x rest reads (inr (inl handled)) = read_out (told_of w) after x rest reads told_live numbers told_shares t handled
    which x rest reads (inr (inr ran)) = memory_out (told_of w) after told_live (ap (λ (y : ResponderSide). y.calls) ran.is_out) (ap (λ (y : ResponderSide). y.link) ran.is_out) (live_out (told_of w) t)

    read : m.state.receive_queue.deliveries ≡ ReadDone ∷ [] → (reads : List PendingRead) → v.fetching.reads ≡ reads → (v.fetching.reads ≢ []) → OutputFits after
    read done [] none some = absurd (some none)
    read done (x ∷ rest) reads some = which x rest reads (taken.read done x rest reads)

    by : FewDeliveries k.received.sends v.fetching.reads m.state.receive_queue.deliveries → OutputFits after
    by (inl none) = subst OutputFits (sym (taken.none none)) (live_out w f)
    by (inr (inl one)) = message one.0 (makes_handled w after (k.received.sends + 1) one.0 (taken.some (k.received.sends + 1) None one.0 one.1))
    by (inr (inr done)) = read done.0 v.fetching.reads refl done.1

-- ---- An answer

place_within : (calls : List PendingCall) (at : ℕ) (c : PendingCall) → slice_get calls at ≡ Some c → at < length calls
place_within [] at c there = absurd cc
place_within (d ∷ calls) zero c there = omega arith
place_within (d ∷ calls) (suc at) c there = (let rest = place_within calls at c there in omega (arith, rest))

answer_few : (lists : ChunkLists) (reply : List ℕ) (o : Option Answer) → ListsWithin lists → AnswerFits reply o → length reply ≤ sent_reply_max → length (writes_for lists o) ≤ writes_max
answer_few lists reply None within fits most = omega arith
answer_few lists reply (Some a) within fits most = writes_len lists a (length reply) within fits most

pub writes_few : (lists : ChunkLists) (down : ℕ) (c : PendingCall) (stream reply : List ℕ) → c.lists ≡ lists → ListsWithin lists → length reply ≤ sent_reply_max → length (writes_for lists (answer_to down c stream reply)) ≤ writes_max
writes_few lists down c stream reply is within most = answer_few lists reply (answer_to down c stream reply) within (target_fits c.lists down reply (target_of (call_of stream))) most

pub answered_out : (v after : ResponderSide) (xid : ℕ) (reply : List ℕ) (sent : Sent) → end_of v ≡ None → IsSendLimit v.link.state.agreed.down → OutputFits v → (end_of after ≡ None → SharesFit after) → Answers v after xid reply sent → OutputFits after
answered_out v after xid reply sent live limit fit on a = subst OutputFits (sym a.state) (live_out w f)
  where
    message : List ℕ
    message = message_for xid (present_word v) a.call.lists (answer_to v.link.state.agreed.down a.call a.stream reply)

    named : Option ℕ
    named = name_for v.link.state.agreed.invalidates a.call.lists (answer_to v.link.state.agreed.down a.call a.stream reply)

    w : ResponderSide
    w = answered_by a.at a.writes named message v

    link_is : after_calls v.link (answer_calls a.writes named message) ≡ record { awaited = v.link.awaited; rest = v.link.rest; state = with_answer v.link.state (writes_output a.writes) named message }
    link_is = answer_link v.link a.writes named message live

    h : OutputLives v
    h = fit.each live

    live_now : end_of w ≡ None
    live_now = ap (λ (l : LinkSide). l.state.ended) link_is ∙ live

    shares : SharesFit w
    shares = subst SharesFit a.state (on (ap end_of a.state ∙ live_now))

    fewer : length (remove v.calls a.at) + 1 ≡ length v.calls
    fewer = length_removed v.calls a.at (place_within v.calls a.at a.call a.place)

    waiting : ℕ
    waiting = length (drop open_reads_max v.fetching.reads)

    short : length message ≤ send_unit * UNITS_MAX
    short = (let least = a.short in let most = limit.1 in omega (arith, least, most))

    f : OutputLives w
    f = record {
      queue =
          subst (λ (l : LinkSide). QueueFits l.state.send_queue waiting (length (remove v.calls a.at))) (sym link_is)
          (sends_fit v.link.state.send_queue (writes_output a.writes) named message waiting (length v.calls) waiting (length (remove v.calls a.at)) a.few short (omega arith) (omega (arith, fewer)) (waits_lem w shares h.reads) h.queue);
      reads = h.reads;
      hello = (let small = h.hello in let len = ap (λ (l : LinkSide). length l.state.send_queue.hello) link_is in omega (arith, small, len));
      none = λ e. ap (λ (l : LinkSide). length l.state.send_queue.hello) link_is ∙ h.none (sym (ap (λ (l : LinkSide). l.state.place) link_is) ∙ e);
      held = ap (λ (l : LinkSide). l.state.send_queue.held) link_is ∙ h.held;
    }
