-- How many Read Requests a responder keeps that are open or wait, also once it has ended.
use Rattle.std.proofs.Common.{◌≡◌, ◌≢◌, ℕ, ◌+◌, ◌≤◌, List, [], ◌∷◌, length, None, refl, sym, ap, ◌∙◌, arith, inl, inr}
use Rattle.std.specs.Prelude.{◌⊎◌}
use Rattle.nr_link.specs.Input.{InputState}
use Rattle.nr_endpoint.specs.LinkState.{LinkSide}
use Rattle.nr_endpoint.specs.ReceiveQueue.DeliveredEvent.{ReadDone}
use Rattle.nr_endpoint.specs.Calls.{after_call}
use Rattle.nr_endpoint.specs.Calls.Call.{NextEvent}
use Rattle.nr_reduce.specs.declared.mark.LinkParameters.{LinkParameters}
use Rattle.nr_reduce.specs.ServerState.{PendingCall, PendingRead, ServerState}
use Rattle.nr_responder.specs.declared.call.Sent.{Sent}
use Rattle.nr_responder.specs.Answering.{Answers, answer_to, message_for, name_for}
use Rattle.nr_responder.specs.Fetching.{Fetching}
use Rattle.nr_responder.specs.HeldBytes.{OutputFits, ReadsFit, SinksFit}
use Rattle.nr_responder.specs.Keeping.{Keeps}
use Rattle.nr_responder.specs.ResponderState.{ResponderSide, after_drain, end_of, opened_side, present_word}
use Rattle.nr_responder.specs.private.Handling.{Handled, IsServerOf, IsTaken, on_link}
use Rattle.nr_responder.specs.private.Handling.Handled.{Stopped, Ready, Fetched, Completed}
use Rattle.nr_responder.specs.private.Handling.Handled.{Refused as RefusedMessage}
use Rattle.nr_responder.specs.private.ReadsDone.{HandlesRead, ReadHandled}
use Rattle.nr_responder.specs.private.ReadsDone.ReadHandled.{GoesOn, Readies, Stops}
use Rattle.nr_responder.specs.private.ReadsDone.ReadHandled.{Refused as RefusedRead}
use Rattle.nr_responder.proofs.Answered.{answer_link}
use Rattle.nr_responder.proofs.DoneReads.{impossible_none}
use Rattle.nr_responder.proofs.Fed.{StepOf, step_next}
use Rattle.nr_responder.proofs.Handled.{Goes, RanOutOf, makes_handled, told_of, told_server_of}
use Rattle.nr_responder.proofs.KeptLists.{reads_most}
use Rattle.nr_responder.proofs.Posted.{told_link_lem}
use Rattle.nr_responder.proofs.ServerSteps.{new_is_read}
use Rattle.nr_responder.proofs.Stepped.{FewDeliveries, few_deliveries}
use Rattle.nr_responder.proofs.Words.{word_is}
use Rattle.nr_link.specs.declared.agreement.SideTerms.{SideTerms}

-- it has no Read Request more, and no call fewer
pub record ReadsStay (v after : ResponderSide) : Type 0 where
  pub reads : length after.fetching.reads ≤ length v.fetching.reads
  pub calls : length v.calls ≤ length after.calls

abbrev pub LivesOrStays : (v after : ResponderSide) → Type 0
LivesOrStays v after = (end_of after ≡ None) ⊎ ReadsStay v after

pub few_after : (v after : ResponderSide) → LivesOrStays v after → SinksFit after → OutputFits after → ReadsFit v → ReadsFit after
few_after v after (inl live) sinks output few = reads_most after sinks output live
few_after v after (inr s) sinks output few = (let reads = s.reads in let calls = s.calls in omega (arith, reads, calls, few))

same_reads : (v after : ResponderSide) → after.fetching ≡ v.fetching → after.calls ≡ v.calls → ReadsStay v after
same_reads v after fetching calls = record {
  reads = (let same = ap (λ (f : Fetching). length f.reads) fetching in omega (arith, same));
  calls = (let same = ap (λ (cs : List PendingCall). length cs) calls in omega (arith, same));
}

-- the side of the link ended in a step
pub failed_reads : (v : ResponderSide) (m : LinkSide) → LivesOrStays v (on_link v m)
failed_reads v m = inr (same_reads v (on_link v m) refl refl)

pub step_reads : (opened : LinkParameters) (k : ServerState) (so_far : InputState) (v after : ResponderSide) (piece : List ℕ) (m : LinkSide) → Keeps opened k so_far v → m.state.ended ≡ None → StepOf v.link piece m → v.credits.word ≡ present_word v → IsTaken (on_link v m) after → LivesOrStays v after
step_reads opened k so_far v after piece m h lives step word taken = by (few_deliveries opened k so_far v piece m h lives step)
  where
    w : ResponderSide
    w = on_link v m

    server : IsServerOf k w
    server = record { calls = sym h.calls; credits = sym (word ∙ word_is opened k so_far v h); reads = sym h.reads; ready = h.ready; new_read = new_is_read k h.server.reads_before; next = sym h.link.next ∙ sym (step_next v.link m piece step); place = v.link.state.place; is_server = h.server }

    told_live : end_of (told_of w) ≡ None
    told_live = (told_link_lem m (after_call m NextEvent) refl).live ∙ lives

    handled : (bytes : List ℕ) → Handled k bytes w after → LivesOrStays v after
    handled bytes (Stopped reason refusal other is) = inr (same_reads v after (ap (λ (x : ResponderSide). x.fetching) is) (ap (λ (x : ResponderSide). x.calls) is))
    handled bytes (RefusedMessage answer effect short is) = inr (same_reads v after (ap (λ (x : ResponderSide). x.fetching) is) (ap (λ (x : ResponderSide). x.calls) is))
    handled bytes (Ready xid write reply stream head new judged call own is) = inl (ap end_of is ∙ told_live)
    handled bytes (Fetched c own new judged fits total few chunks is) = inl (ap end_of is ∙ told_live)
    handled bytes (Completed c own new judged none alone is) = inl (ap end_of is ∙ told_live)

    message : (bytes : List ℕ) → Goes w (k.received.sends + 1) bytes after ⊎ RanOutOf w (k.received.sends + 1) bytes after → LivesOrStays v after
    message bytes (inl goes) = handled bytes (goes k server refl)
    message bytes (inr ran) = inr (same_reads v after (ap (λ (x : ResponderSide). x.fetching) ran.is_out) (ap (λ (x : ResponderSide). x.calls) ran.is_out))

    one_less : (x : PendingRead) (rest : List PendingRead) (f : Fetching) → v.fetching.reads ≡ x ∷ rest → length f.reads ≤ length rest → after.fetching ≡ f → after.calls ≡ v.calls → LivesOrStays v after
    one_less x rest f reads fewer fetching calls = inr (record {
      reads = (let all = ap (λ (rs : List PendingRead). length rs) reads in let same = ap (λ (g : Fetching). length g.reads) fetching in omega (arith, all, same, fewer));
      calls = (let same = ap (λ (cs : List PendingCall). length cs) calls in omega (arith, same));
    })

    done : (x : PendingRead) (rest : List PendingRead) → v.fetching.reads ≡ x ∷ rest → ReadHandled (told_of w) x rest after → LivesOrStays v after
    done x rest reads (GoesOn nothing is) = inl (ap end_of is ∙ told_live)
    done x rest reads (Readies m is) = inl (ap end_of is ∙ told_live)
    done x rest reads (Stops reason other ended f sinks fewer is) = one_less x rest f reads fewer (ap (λ (y : ResponderSide). y.fetching) is) (ap (λ (y : ResponderSide). y.calls) is)
    done x rest reads (RefusedRead c is) = inl (ap end_of is ∙ told_live)

    which : (x : PendingRead) (rest : List PendingRead) → v.fetching.reads ≡ x ∷ rest → HandlesRead (told_of w) x rest after → LivesOrStays v after
    which x rest reads (inl impossible) = absurd (impossible_none k (told_of w) x rest (told_server_of k w server) reads impossible)
    which x rest reads (inr (inl handled)) = done x rest reads handled
    which x rest reads (inr (inr ran)) = one_less x rest ran.fetching reads ran.fewer (ap (λ (y : ResponderSide). y.fetching) ran.is_out) (ap (λ (y : ResponderSide). y.calls) ran.is_out)

    read : m.state.receive_queue.deliveries ≡ ReadDone ∷ [] → (reads : List PendingRead) → v.fetching.reads ≡ reads → (v.fetching.reads ≢ []) → LivesOrStays v after
    read told [] none some = absurd (some none)
    read told (x ∷ rest) reads some = which x rest reads (taken.read told x rest reads)

    by : FewDeliveries k.received.sends v.fetching.reads m.state.receive_queue.deliveries → LivesOrStays v after
    by (inl none) = inr (same_reads v after (ap (λ (x : ResponderSide). x.fetching) (taken.none none)) (ap (λ (x : ResponderSide). x.calls) (taken.none none)))
    by (inr (inl one)) = message one.0 (makes_handled w after (k.received.sends + 1) one.0 (taken.some (k.received.sends + 1) None one.0 one.1))
    by (inr (inr told)) = read told.0 v.fetching.reads refl told.1

-- ---- An answer, a drain, and as it is opened

pub answered_reads : (v after : ResponderSide) (xid : ℕ) (reply : List ℕ) (sent : Sent) → end_of v ≡ None → Answers v after xid reply sent → LivesOrStays v after
answered_reads v after xid reply sent live a =
    inl (ap end_of a.state ∙ (ap (λ (l : LinkSide). l.state.ended) (answer_link v.link a.writes (name_for v.link.state.agreed.invalidates a.call.lists (answer_to v.link.state.agreed.down a.call a.stream reply)) (message_for xid (present_word v) a.call.lists (answer_to v.link.state.agreed.down a.call a.stream reply)) live) ∙ live))

pub drained_reads : (v after : ResponderSide) (n : ℕ) → after ≡ after_drain v n → ReadsFit v → ReadsFit after
drained_reads v after n is few =
    let reads = ap (λ (x : ResponderSide). length x.fetching.reads) is in
    let calls = ap (λ (x : ResponderSide). length x.calls) is in
    omega (arith, reads, calls, few)

pub opened_reads : (v : ResponderSide) (credits low : ℕ) (terms : SideTerms) → v ≡ opened_side credits low terms → ReadsFit v
opened_reads v credits low terms is = (let reads = ap (λ (x : ResponderSide). length x.fetching.reads) is in omega (arith, reads))
