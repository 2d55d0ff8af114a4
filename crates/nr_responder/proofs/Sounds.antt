-- What a responder keeps of its own, call by call.
use Rattle.std.proofs.Common.{◌≡◌, ℕ, true, false, ◌+◌, ◌<◌, ◌≤◌, List, [], ◌∷◌, ◌++◌, length, drop, get_or, Option, None, All, refl, sym, ap, subst, ◌∙◌, arith, length-append}
use Rattle.std.specs.Prelude.{◌⊎◌, Result, Ok, Err, IfOk, IsOk}
use Rattle.std.specs.List.{remove}
use Rattle.nr_link.specs.Agreement.{IsSendLimit}
use Rattle.nr_endpoint.specs.Receives.{IsReceive}
use Rattle.nr_endpoint.specs.ReceiveQueue.{ReceiveQueue, DeliveredEvent, receives_kept, lent_for}
use Rattle.nr_endpoint.specs.ReceiveQueue.DeliveredEvent.{MessageReceived}
use Rattle.nr_endpoint.specs.SendQueue.{SendQueue, with_fpdus, send_output, written}
use Rattle.nr_endpoint.specs.LinkState.{LinkState, LinkSide}
use Rattle.nr_endpoint.specs.Calls.{after_call}
use Rattle.nr_endpoint.specs.Calls.Call.{NextEvent, Stop, Send, OutOfMemory}
use Rattle.nr_responder.specs.declared.call.Pending.{Pending}
use Rattle.nr_responder.specs.declared.call.Ready.{Ready}
use Rattle.nr_responder.specs.ResponderState.{unsent, drained_posted, left_by}
use Rattle.nr_responder.specs.Sound.{InReceive, QueuesInvariant, ServerEndInvariant, ServerEndInvariantWith}
use Rattle.nr_responder.specs.declared.server_end.ServerEnd.{ServerEnd}
use Rattle.nr_responder.proofs.Executed.{with_answer, fewer_wait}
use Rattle.nr_responder.proofs.FrameCounts.{SameCounts}
use Rattle.nr_responder.proofs.Posted.{ended_as, sent_link, told_link_lem}
use Rattle.nr_responder.proofs.Removed.{length_removed, all_removed, all_pushed_lem}

-- with receives of the same length
pub limit_as : (m n : ℕ) → n ≡ m → IsSendLimit m → IsSendLimit n
limit_as m n is h = subst IsSendLimit (sym is) h

pub bufs_as : (m n : ℕ) (calls : List Pending) → n ≡ m → All (InReceive m) calls → All (InReceive n) calls
bufs_as m n calls is h = subst (λ (k : ℕ). All (InReceive k) calls) (sym is) h

pub used_as : (m n : ℕ) (used : List (List ℕ)) → n ≡ m → All (IsReceive m) used → All (IsReceive n) used
used_as m n used is h = subst (λ (k : ℕ). All (IsReceive k) used) (sym is) h

-- with the same counts, and no more lent than before
pub sound_as : (n m : ℕ) (s t : LinkState) (calls : List Pending) (ready : List Ready) (used : List (List ℕ)) (a b c : ℕ) → m ≤ n → t.receive_queue.lent ≡ s.receive_queue.lent → t.receive_queue.receives ≡ s.receive_queue.receives →
    t.receive_queue.receive_length ≡ s.receive_queue.receive_length → t.send_queue.send_ends ≡ s.send_queue.send_ends → QueuesInvariant n s calls ready used a b c → QueuesInvariant m t calls ready used a b c
sound_as n m s t calls ready used a b c le lent receives len ends h = record {
  unsent_is = h.unsent_is ∙ ap (λ (xs : List ℕ). length xs) (sym ends);
  lent = omega (arith, h.lent, lent, le);
  few = h.few;
  bufs = bufs_as _ _ _ (len) h.bufs;
  used_bufs = used_as _ _ _ (len) h.used_bufs;
  calls_fit = omega (arith, h.calls_fit, receives);
  ready_fit = omega (arith, h.ready_fit, receives);
  used_fit = omega (arith, h.used_fit, receives);
  limit = limit_as _ _ (len) h.limit;
}

pub sound_step : (s t : LinkState) (calls : List Pending) (ready : List Ready) (used : List (List ℕ)) (a b c : ℕ) → SameCounts s t → QueuesInvariant 0 s calls ready used a b c → QueuesInvariant 0 t calls ready used a b c
sound_step s t calls ready used a b c same h = sound_as 0 0 s t calls ready used a b c (omega arith) same.lent same.receives same.receive_length same.ends_are h

pub sound_ended : (n reason : ℕ) (l m : LinkSide) (calls : List Pending) (ready : List Ready) (used : List (List ℕ)) (a b c : ℕ) → (m ≡ after_call l (Stop reason)) ⊎ (m ≡ after_call l OutOfMemory) →
    QueuesInvariant n l.state calls ready used a b c → QueuesInvariant 0 m.state calls ready used a b c
sound_ended n reason l m calls ready used a b c is h =
    let same = ended_as l m reason is in
    sound_as n 0 l.state m.state calls ready used a b c (omega arith) (ap (λ (q : ReceiveQueue). q.lent) same.input.queue) (ap (λ (q : ReceiveQueue). q.receives) same.input.queue) (ap (λ (q : ReceiveQueue). q.receive_length) same.input.queue) same.ends_are h

-- an event is delivered: a message lends its receive
pub sound_told : (l m : LinkSide) (number : ℕ) (invalidated : Option ℕ) (message : List ℕ) (rest : List DeliveredEvent) (calls : List Pending) (ready : List Ready) (used : List (List ℕ)) (a b c : ℕ) → m ≡ after_call l NextEvent →
    l.state.receive_queue.deliveries ≡ MessageReceived number invalidated message ∷ rest → QueuesInvariant 0 l.state calls ready used a b c → QueuesInvariant 1 m.state calls ready used a b c
sound_told l m number invalidated message rest calls ready used a b c is one h =
    let t = told_link_lem l m is in
    let lends : lent_for l.state.receive_queue.deliveries ≡ 1 = ap lent_for one in
    record {
      unsent_is = h.unsent_is ∙ ap (λ (xs : List ℕ). length xs) (sym t.ends_are);
      lent = omega (arith, h.lent, ap (λ (q : ReceiveQueue). q.lent) t.queue, lends);
      few = h.few;
      bufs = bufs_as _ _ _ (ap (λ (q : ReceiveQueue). q.receive_length) t.queue) h.bufs;
      used_bufs = used_as _ _ _ (ap (λ (q : ReceiveQueue). q.receive_length) t.queue) h.used_bufs;
      calls_fit = omega (arith, h.calls_fit, ap (λ (q : ReceiveQueue). q.receives) t.queue);
      ready_fit = omega (arith, h.ready_fit, ap (λ (q : ReceiveQueue). q.receives) t.queue);
      used_fit = omega (arith, h.used_fit, ap (λ (q : ReceiveQueue). q.receives) t.queue);
      limit = limit_as _ _ (ap (λ (q : ReceiveQueue). q.receive_length) t.queue) h.limit;
    }

pub sound_read : (l m : LinkSide) (calls : List Pending) (ready : List Ready) (used : List (List ℕ)) (a b c : ℕ) → m ≡ after_call l NextEvent → QueuesInvariant 0 l.state calls ready used a b c → QueuesInvariant 0 m.state calls ready used a b c
sound_read l m calls ready used a b c is h =
    let t = told_link_lem l m is in
    record {
      unsent_is = h.unsent_is ∙ ap (λ (xs : List ℕ). length xs) (sym t.ends_are);
      lent = omega (arith, h.lent, ap (λ (q : ReceiveQueue). q.lent) t.queue);
      few = h.few;
      bufs = bufs_as _ _ _ (ap (λ (q : ReceiveQueue). q.receive_length) t.queue) h.bufs;
      used_bufs = used_as _ _ _ (ap (λ (q : ReceiveQueue). q.receive_length) t.queue) h.used_bufs;
      calls_fit = omega (arith, h.calls_fit, ap (λ (q : ReceiveQueue). q.receives) t.queue);
      ready_fit = omega (arith, h.ready_fit, ap (λ (q : ReceiveQueue). q.receives) t.queue);
      used_fit = omega (arith, h.used_fit, ap (λ (q : ReceiveQueue). q.receives) t.queue);
      limit = limit_as _ _ (ap (λ (q : ReceiveQueue). q.receive_length) t.queue) h.limit;
    }

-- a Send is queued for the message of a buffer
pub sound_sent : (l m : LinkSide) (message : List ℕ) (calls : List Pending) (ready : List Ready) (used after : List (List ℕ)) (buf : List ℕ) (a b c : ℕ) → l.state.ended ≡ None → m ≡ after_call l (Send message) → IsReceive l.state.receive_queue.receive_length buf →
    after ≡ used ++ buf ∷ [] → QueuesInvariant 1 l.state calls ready used a b c → QueuesInvariant 0 m.state calls ready after a b c
sound_sent l m message calls ready used after buf a b c live is whole more h =
    let now = sent_link l m message live is in
    let count : length after ≡ length used + 1 = ap (λ (xs : List (List ℕ)). length xs) more ∙ length-append used (buf ∷ []) in
    let ends : length m.state.send_queue.send_ends ≡ unsent l.state + 1 =
    ap (λ (x : LinkSide). length x.state.send_queue.send_ends) now ∙ length-append l.state.send_queue.send_ends (length (l.state.send_queue.fpdus ++ send_output l.state.send_queue None message) ∷ []) in
    record {
      unsent_is = omega (arith, count, ends, h.unsent_is);
      lent = omega (arith, count, h.lent, ap (λ (x : LinkSide). x.state.receive_queue.lent) now);
      few = h.few;
      bufs = bufs_as _ _ _ (ap (λ (x : LinkSide). x.state.receive_queue.receive_length) now) h.bufs;
      used_bufs = used_as _ _ _ (ap (λ (x : LinkSide). x.state.receive_queue.receive_length) now) (subst (λ (xs : List (List ℕ)). All (IsReceive l.state.receive_queue.receive_length) xs) (sym more) (all_pushed_lem (IsReceive l.state.receive_queue.receive_length) used buf h.used_bufs whole));
      calls_fit = omega (arith, h.calls_fit, ap (λ (x : LinkSide). x.state.receive_queue.receives) now);
      ready_fit = omega (arith, h.ready_fit, ap (λ (x : LinkSide). x.state.receive_queue.receives) now);
      used_fit = omega (arith, h.used_fit, ap (λ (x : LinkSide). x.state.receive_queue.receives) now);
      limit = limit_as _ _ (ap (λ (x : LinkSide). x.state.receive_queue.receive_length) now) h.limit;
    }

-- and of one that was made
pub sound_refused : {E : Type 0} (made : Result (List ℕ) E) (l m : LinkSide) (calls : List Pending) (ready : List Ready) (used after : List (List ℕ)) (buf : List ℕ) (a b c : ℕ) → l.state.ended ≡ None →
    IfOk made (λ x. m ≡ after_call l (Send x)) × IsOk made → IsReceive l.state.receive_queue.receive_length buf → after ≡ used ++ buf ∷ [] → QueuesInvariant 1 l.state calls ready used a b c → QueuesInvariant 0 m.state calls ready after a b c
sound_refused (Ok x) l m calls ready used after buf a b c live sent whole more h = sound_sent l m x calls ready used after buf a b c live sent.0 whole more h
sound_refused (Err e) l m calls ready used after buf a b c live sent whole more h = absurd (let wrong : false ≡ true = sent.1 in cc)

-- a call more, which is ready
pub sound_pushed : (s : LinkState) (calls later : List Pending) (call : Pending) (q : Ready) (ready more : List Ready) (used : List (List ℕ)) (a b c : ℕ) → InReceive s.receive_queue.receive_length call → later ≡ calls ++ call ∷ [] → more ≡ ready ++ q ∷ [] →
    QueuesInvariant 1 s calls ready used a b c → QueuesInvariant 0 s later more used a b c
sound_pushed s calls later call q ready more used a b c whole is ready_is h =
    let count : length later ≡ length calls + 1 = ap (λ (xs : List Pending). length xs) is ∙ length-append calls (call ∷ []) in
    let ready_count : length more ≡ length ready + 1 = ap (λ (xs : List Ready). length xs) ready_is ∙ length-append ready (q ∷ []) in
    record {
      unsent_is = h.unsent_is;
      lent = omega (arith, count, h.lent);
      few = omega (arith, count, ready_count, h.few);
      bufs = subst (λ (xs : List Pending). All (InReceive s.receive_queue.receive_length) xs) (sym is) (all_pushed_lem (InReceive s.receive_queue.receive_length) calls call h.bufs whole);
      used_bufs = h.used_bufs;
      calls_fit = h.calls_fit;
      ready_fit = h.ready_fit;
      used_fit = h.used_fit;
      limit = h.limit;
    }

-- with the same room
pub sound_room_as : (n : ℕ) (s : LinkState) (calls : List Pending) (ready : List Ready) (used : List (List ℕ)) (a b c d e f : ℕ) → d ≡ a → e ≡ b → f ≡ c → QueuesInvariant n s calls ready used a b c → QueuesInvariant n s calls ready used d e f
sound_room_as n s calls ready used a b c d e f first second third h = record {
  unsent_is = h.unsent_is;
  lent = h.lent;
  few = h.few;
  bufs = h.bufs;
  used_bufs = h.used_bufs;
  calls_fit = omega (arith, h.calls_fit, first);
  ready_fit = omega (arith, h.ready_fit, second);
  used_fit = omega (arith, h.used_fit, third);
  limit = h.limit;
}

-- how many there are at most
pub sound_room : (n : ℕ) (s : LinkState) (calls : List Pending) (ready : List Ready) (used : List (List ℕ)) (a b c : ℕ) → QueuesInvariant n s calls ready used a b c → receives_kept s.receive_queue + s.receive_queue.lent ≡ s.receive_queue.receives →
    (length calls + n ≤ a) × ((length ready + n ≤ b) × (length used + n ≤ c))
sound_room n s calls ready used a b c h all = (omega (arith, h.lent, h.calls_fit, all), (omega (arith, h.lent, h.few, h.ready_fit, all), omega (arith, h.lent, h.used_fit, all)))

-- the answer to the call at a place is queued
pub sound_answered : (s t : LinkState) (writes : List ℕ) (named : Option ℕ) (message : List ℕ) (at : ℕ) (call : Pending) (calls later : List Pending) (ready more : List Ready) (used after : List (List ℕ)) (a b c : ℕ) → t ≡ with_answer s writes named message → at < length calls → InReceive s.receive_queue.receive_length call →
    later ≡ remove calls at → more ≡ drop 1 ready → 0 < length ready → after ≡ used ++ call.buf ∷ [] → QueuesInvariant 0 s calls ready used a b c → QueuesInvariant 0 t later more after a b c
sound_answered s t writes named message at call calls later ready more used after a b c is lt whole left ready_is some used_is h =
    let q : SendQueue = with_fpdus writes s.send_queue in
    let count : length later + 1 ≡ length calls = ap (λ (xs : List Pending). length xs + 1) left ∙ length_removed calls at lt in
    let ready_count : length more + 1 ≡ length ready = ap (λ (xs : List Ready). length xs + 1) ready_is ∙ fewer ready some in
    let used_count : length after ≡ length used + 1 = ap (λ (xs : List (List ℕ)). length xs) used_is ∙ length-append used (call.buf ∷ []) in
    let ends : length t.send_queue.send_ends ≡ unsent s + 1 =
    ap (λ (x : LinkState). length x.send_queue.send_ends) is ∙ length-append s.send_queue.send_ends (length (q.fpdus ++ send_output q named message) ∷ []) in
    record {
      unsent_is = omega (arith, used_count, ends, h.unsent_is);
      lent = omega (arith, used_count, count, h.lent, ap (λ (x : LinkState). x.receive_queue.lent) is);
      few = omega (arith, count, ready_count, h.few);
      bufs = bufs_as _ _ _ (ap (λ (x : LinkState). x.receive_queue.receive_length) is) (subst (λ (xs : List Pending). All (InReceive s.receive_queue.receive_length) xs) (sym left) (all_removed (InReceive s.receive_queue.receive_length) calls at h.bufs));
      used_bufs = used_as _ _ _ (ap (λ (x : LinkState). x.receive_queue.receive_length) is) (subst (λ (xs : List (List ℕ)). All (IsReceive s.receive_queue.receive_length) xs) (sym used_is) (all_pushed_lem (IsReceive s.receive_queue.receive_length) used call.buf h.used_bufs whole.0));
      calls_fit = omega (arith, h.calls_fit, ap (λ (x : LinkState). x.receive_queue.receives) is);
      ready_fit = omega (arith, h.ready_fit, ap (λ (x : LinkState). x.receive_queue.receives) is);
      used_fit = omega (arith, h.used_fit, ap (λ (x : LinkState). x.receive_queue.receives) is);
      limit = limit_as _ _ (ap (λ (x : LinkState). x.receive_queue.receive_length) is) h.limit;
    }
  where
    fewer : (xs : List Ready) → 0 < length xs → length (drop 1 xs) + 1 ≡ length xs
    fewer [] lt = absurd (omega (arith, lt))
    fewer (x ∷ xs) lt = omega arith

-- n bytes were written, and the receives of the answers that left are posted again
pub sound_drained : (s t : LinkState) (n : ℕ) (calls : List Pending) (ready : List Ready) (used after : List (List ℕ)) (a b c later : ℕ) → t ≡ drained_posted s n (left_by s n) → length after ≡ length (written n s.send_queue).send_ends →
    All (IsReceive s.receive_queue.receive_length) after → later ≡ c → QueuesInvariant 0 s calls ready used a b c → QueuesInvariant 0 t calls ready after a b later
sound_drained s t n calls ready used after a b c later is count bufs room h =
    let few : length (written n s.send_queue).send_ends ≤ unsent s = fewer_wait s n in
    record {
      unsent_is = count ∙ ap (λ (x : LinkState). length x.send_queue.send_ends) (sym is);
      lent = omega (arith, ap (λ (x : LinkState). x.receive_queue.lent) is, h.lent, h.unsent_is, few, count);
      few = h.few;
      bufs = bufs_as _ _ _ (ap (λ (x : LinkState). x.receive_queue.receive_length) is) h.bufs;
      used_bufs = used_as _ _ _ (ap (λ (x : LinkState). x.receive_queue.receive_length) is) bufs;
      calls_fit = omega (arith, h.calls_fit, ap (λ (x : LinkState). x.receive_queue.receives) is);
      ready_fit = omega (arith, h.ready_fit, ap (λ (x : LinkState). x.receive_queue.receives) is);
      used_fit = omega (arith, h.used_fit, room, ap (λ (x : LinkState). x.receive_queue.receives) is);
      limit = limit_as _ _ (ap (λ (x : LinkState). x.receive_queue.receive_length) is) h.limit;
    }

-- a call that is kept lies in its receive
pub kept_receive : (n : ℕ) (s : LinkState) (calls : List Pending) (ready : List Ready) (used : List (List ℕ)) (a b c at : ℕ) (call : Pending) → at < length calls → call ≡ get_or calls at call → QueuesInvariant n s calls ready used a b c →
    InReceive s.receive_queue.receive_length call
kept_receive n s calls ready used a b c at call lt is h = subst (InReceive s.receive_queue.receive_length) (sym is) (h.bufs at call lt)

pub sound_less : (r : ServerEnd) → ServerEndInvariantWith 1 r → ServerEndInvariant r
sound_less r h = (sound_as 1 0 r.endpoint.link.state r.endpoint.link.state r.calls.items r.ready.items r.used.items _ _ _ (omega arith) refl refl refl refl h.0, h.1)
