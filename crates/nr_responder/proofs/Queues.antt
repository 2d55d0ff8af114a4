-- What a responder's side of the link queues is what is due of the server of a run.
use Rattle.std.proofs.Common.{◌≡◌, ◌≢◌, ℕ, ◌+◌, ◌-◌, ◌<◌, ◌≤◌, ◌^◌, Bool, true, false, eqb, cond, List, [], ◌∷◌, ◌++◌, length, drop, refl, sym, ap, ◌∙◌, arith, append_assoc, subst, length-append, length-drop, Option, None, Some}
use Rattle.std.specs.List.{AllByRecursion}
use Rattle.std.proofs.lemmas.Bool.{eqb-true, le-ltb}
use Rattle.std.proofs.lemmas.List.{append-nil, drop_all}
use Rattle.std.proofs.Math.Nat.{mod-add-mod, mod-mod}
use Rattle.nr_wire.specs.declared.hello.Side.TheVariants.{Responder}
use Rattle.nr_wire.specs.Constants.{REASON_FLAGS}
use Rattle.nr_wire.specs.Segment.Segment.{Untagged}
use Rattle.nr_link.specs.declared.end.End.{End}
use Rattle.nr_link.specs.declared.end.End.TheVariants as ends
use Rattle.nr_link.specs.Output.{cut, msn_word, send, send_by, send_invalidating, refusing_hello, terminate_message}
use Rattle.nr_link.specs.Ending.{final_output, last_output, rejection}
use Rattle.nr_endpoint.specs.SendQueue.{SendQueue, writable, next_number, with_hello, with_send, with_send_by, with_fpdus, with_end, written, output_len, send_output, ends_left}
use Rattle.nr_responder.specs.ResponderState.{queued_bytes}
use Rattle.nr_responder.specs.Keeping.{QueueHas, IsEnd, ends_queued}
use Rattle.nr_endpoint.proofs.Queued.{send_by_some, terminate_queues}
use Rattle.nr_responder.proofs.Ends.{ends_none, ends_more, each_more, ends_drained, each_drained}

-- ---- Numbers count modulo 2 ^ 32

pub next_word : (n : ℕ) → msn_word (msn_word n + 1) ≡ msn_word (n + 1)
next_word n = mod-add-mod n (2 ^ 32) 1

send_word : (n m : ℕ) (message : List ℕ) → msn_word n ≡ msn_word m → send n message ≡ send m message
unfolding send
send_word n m message e = ap (λ (w : ℕ). cut (λ last offset payload. Untagged last 3 0 0 w offset payload) message) e

-- a Send of either kind
sends_word : (named : Option ℕ) (n m : ℕ) (message : List ℕ) → msn_word n ≡ msn_word m → send_by named n message ≡ send_by named m message
unfolding send_invalidating
sends_word None n m message e = send_word n m message e
sends_word (Some stag) n m message e = ap (λ (w : ℕ). cut (λ last offset payload. Untagged last 4 (cond last stag 0) 0 w offset payload) message) e

-- the Send after n others, on a side that counts words
pub next_send : (named : Option ℕ) (n last : ℕ) (message : List ℕ) → last ≡ msn_word n → send_by named (next_number last) message ≡ send_by named (n + 1) message
next_send named n last message e =
    sends_word named (next_number last) (n + 1) message (ap (λ (w : ℕ). msn_word (next_number w)) e ∙ mod-mod (msn_word n + 1) (2 ^ 32) ∙ next_word n)

pub next_last : (n last : ℕ) → last ≡ msn_word n → next_number last ≡ msn_word (n + 1)
next_last n last e = ap next_number e ∙ next_word n

-- ---- What is queued

pub sent_queue : (n : ℕ) (message : List ℕ) (q : SendQueue) → q.last_send ≡ msn_word n → queued_bytes (with_send message q) ≡ queued_bytes q ++ send (n + 1) message
sent_queue n message q e =
    sym (append_assoc q.hello q.fpdus (send (next_number q.last_send) message))
    ∙ ap (λ (bytes : List ℕ). (q.hello ++ q.fpdus) ++ bytes) (next_send None n q.last_send message e)

-- its hello, if nothing was queued before
pub hello_queue : (bytes : List ℕ) (q : SendQueue) → q.fpdus ≡ [] → queued_bytes (with_hello bytes q) ≡ queued_bytes q ++ bytes
hello_queue bytes q none =
    ap (λ (fpdus : List ℕ). (q.hello ++ bytes) ++ fpdus) none
    ∙ append-nil (q.hello ++ bytes)
    ∙ ap (λ (before : List ℕ). before ++ bytes) (sym (ap (λ (fpdus : List ℕ). q.hello ++ fpdus) none ∙ append-nil q.hello))

no_rejection : (q : SendQueue) (last : List ℕ) → (q.hello ++ []) ++ (q.fpdus ++ last) ≡ (q.hello ++ q.fpdus) ++ last
no_rejection q last = ap (λ (hello : List ℕ). hello ++ (q.fpdus ++ last)) (append-nil q.hello) ∙ sym (append_assoc q.hello q.fpdus last)

rejected : (q : SendQueue) (hello last : List ℕ) → q.fpdus ≡ [] → (q.hello ++ hello) ++ (q.fpdus ++ last) ≡ (q.hello ++ q.fpdus) ++ (hello ++ last)
rejected q hello last none =
    ap (λ (fpdus : List ℕ). (q.hello ++ hello) ++ (fpdus ++ last)) none
    ∙ append_assoc q.hello hello last
    ∙ ap (λ (before : List ℕ). before ++ (hello ++ last)) (sym (ap (λ (fpdus : List ℕ). q.hello ++ fpdus) none ∙ append-nil q.hello))

-- What it writes last. A hello that is rejected comes before any FPDU.
pub last_queue : (end : End) (q : SendQueue) → ((at : ℕ) → end ≡ ends.Bad at REASON_FLAGS → q.fpdus ≡ []) → queued_bytes (with_end Responder end q) ≡ queued_bytes q ++ last_output Responder end
unfolding with_end
last_queue (ends.Bad at reason) q none = by (eqb reason REASON_FLAGS) refl
  where
    last : List ℕ
    last = final_output (ends.Bad at reason)

    by : (b : Bool) → eqb reason REASON_FLAGS ≡ b → (q.hello ++ cond (eqb reason REASON_FLAGS) refusing_hello []) ++ (q.fpdus ++ last) ≡ (q.hello ++ q.fpdus) ++ (cond (eqb reason REASON_FLAGS) refusing_hello [] ++ last)
    by true is = rejected q (cond (eqb reason REASON_FLAGS) refusing_hello []) last (none at (ap (λ (n : ℕ). ends.Bad at n) (eqb-true reason REASON_FLAGS is)))
    by false is =
        ap (λ (b : Bool). (q.hello ++ cond b refusing_hello []) ++ (q.fpdus ++ last)) is ∙ no_rejection q last
        ∙ ap (λ (b : Bool). (q.hello ++ q.fpdus) ++ (cond b refusing_hello [] ++ last)) (sym is)
last_queue (ends.Denied stag offset why) q none = no_rejection q (final_output (ends.Denied stag offset why))
last_queue (ends.NoBuffer msn) q none = no_rejection q (final_output (ends.NoBuffer msn))
last_queue (ends.Terminated reason) q none = no_rejection q (final_output (ends.Terminated reason))
last_queue ends.Memory q none = no_rejection q (final_output ends.Memory)

-- RDMA Writes and then a Send
pub answered_queue : (named : Option ℕ) (n : ℕ) (writes message : List ℕ) (q : SendQueue) → q.last_send ≡ msn_word n → queued_bytes (with_send_by named message (with_fpdus writes q)) ≡ queued_bytes q ++ (writes ++ send_by named (n + 1) message)
answered_queue named n writes message q e =
    ap (λ (bytes : List ℕ). q.hello ++ bytes) (append_assoc q.fpdus writes (send_by named (next_number q.last_send) message))
    ∙ sym (append_assoc q.hello q.fpdus (writes ++ send_by named (next_number q.last_send) message))
    ∙ ap (λ (bytes : List ℕ). (q.hello ++ q.fpdus) ++ (writes ++ bytes)) (next_send named n q.last_send message e)

-- ---- What may be written of it

no_length : (xs : List ℕ) → length xs ≡ 0 → xs ≡ []
no_length [] none = refl
no_length (x ∷ xs) none = absurd (omega (arith, none))

nothing_after : (xs ys : List ℕ) → xs ++ [] ≡ xs ++ ys → ys ≡ []
nothing_after xs ys same =
    let nothing : List ℕ = [] in
    no_length ys (omega (arith, ap (λ (zs : List ℕ). length zs) same, length-append xs nothing, length-append xs ys))

-- all of it, also once n bytes were written
pub sendable_drained : (b : Bool) (n : ℕ) (q : SendQueue) → writable b q ≡ queued_bytes q → writable b (written n q) ≡ queued_bytes (written n q)
unfolding written
sendable_drained true n q all = refl
sendable_drained false n q all =
    let nothing : List ℕ = [] in
    let m : ℕ = n - length q.hello in
    ap (λ (bytes : List ℕ). drop n q.hello ++ bytes) (sym (ap (drop m) (nothing_after q.hello q.fpdus all) ∙ drop_all m nothing (omega arith)))

-- and after what a side writes last, if that is no FPDU before the peer's hello
pub sendable_ended : (b : Bool) (end : End) (q : SendQueue) → (b ≡ false → (q.fpdus ≡ []) × (final_output end ≡ [])) → writable b (with_end Responder end q) ≡ queued_bytes (with_end Responder end q)
unfolding with_end
sendable_ended true end q none = refl
sendable_ended false end q none = (let both : (q.fpdus ≡ []) × (final_output end ≡ []) = none refl in λ i. (q.hello ++ rejection Responder end) ++ (sym both.0 i ++ sym both.1 i))

-- ---- What a queue has

pub fpdus_has : (w d m r : ℕ) (ends writes : List ℕ) (q : SendQueue) → QueueHas w d m r ends q → QueueHas w (d + length writes) m r ends (with_fpdus writes q)
fpdus_has w d m r ends writes q h = record {
  due_is = omega (arith, h.due_is, length-append q.fpdus writes);
  ends_are = h.ends_are;
  each = h.each;
  sends = h.sends;
  requests_are = h.requests_are;
  responses = h.responses;
}

pub one_has : (named : Option ℕ) (w d m r : ℕ) (ends message : List ℕ) (q : SendQueue) → QueueHas w d m r ends q →
    QueueHas w (d + length (send_by named (m + 1) message)) (m + 1) r (ends ++ (d + length (send_by named (m + 1) message)) ∷ []) (with_send_by named message q)
one_has named w d m r ends message q h =
    let bytes : List ℕ = send_by named (m + 1) message in
    let same : length (send_output q named message) ≡ length bytes = ap (λ (xs : List ℕ). length xs) (next_send named m q.last_send message h.sends) in
    let both : length (q.fpdus ++ send_output q named message) ≡ length q.fpdus + length bytes = omega (arith, same, length-append q.fpdus (send_output q named message)) in
    let some : 1 ≤ length bytes = send_by_some named (m + 1) message in
    let after : w + length q.hello < d + length bytes = omega (arith, h.due_is, some) in
    let end : length (q.fpdus ++ send_output q named message) ≡ d + length bytes - w - length q.hello = omega (arith, both, h.due_is) in
    record {
      due_is = omega (arith, h.due_is, both);
      ends_are = (λ i. h.ends_are i ++ end i ∷ []) ∙ sym (ends_more w (length q.hello) (d + length bytes) ends after);
      each = each_more w (length q.hello) (d + length bytes) ends after h.each;
      sends = next_last m q.last_send h.sends;
      requests_are = h.requests_are;
      responses = h.responses;
    }

pub sent_has : (w d m r : ℕ) (ends message : List ℕ) (q : SendQueue) → QueueHas w d m r ends q →
    QueueHas w (d + length (send (m + 1) message)) (m + 1) r (ends ++ (d + length (send (m + 1) message)) ∷ []) (with_send message q)
sent_has w d m r ends message q h = one_has None w d m r ends message q h

pub answered_has : (named : Option ℕ) (w d m r : ℕ) (ends writes message : List ℕ) (q : SendQueue) → QueueHas w d m r ends q →
    QueueHas w (d + length (writes ++ send_by named (m + 1) message)) (m + 1) r (ends ++ (d + length (writes ++ send_by named (m + 1) message)) ∷ []) (with_send_by named message (with_fpdus writes q))
answered_has named w d m r ends writes message q h =
    let both : d + length writes + length (send_by named (m + 1) message) ≡ d + length (writes ++ send_by named (m + 1) message) = omega (arith, length-append writes (send_by named (m + 1) message)) in
    subst (λ (n : ℕ). QueueHas w n (m + 1) r (ends ++ n ∷ []) (with_send_by named message (with_fpdus writes q))) both
    (one_has named w (d + length writes) m r ends message (with_fpdus writes q) (fpdus_has w d m r ends writes q h))

-- n bytes of it were written
pub drained_has : (w d m r n : ℕ) (ends : List ℕ) (q : SendQueue) → n ≤ output_len q → QueueHas w d m r ends q → QueueHas (w + n) d m r ends (written n q)
unfolding written
drained_has w d m r n ends q within h =
    let hello : length (drop n q.hello) ≡ length q.hello - n = length-drop n q.hello in
    let fpdus : length (drop (n - length q.hello) q.fpdus) ≡ length q.fpdus - (n - length q.hello) = length-drop (n - length q.hello) q.fpdus in
    record {
      due_is = omega (arith, h.due_is, hello, fpdus, within);
      ends_are =
          ap (λ (xs : List ℕ). ends_left (n - length q.hello) xs) h.ends_are
          ∙ sym (ends_drained w (length q.hello) n ends h.each)
          ∙ ap (λ (len : ℕ). ends_queued (w + n) len ends) (sym hello);
      each = subst (λ (len : ℕ). AllByRecursion (IsEnd (w + n) len) ends) (sym hello) (each_drained w (length q.hello) n ends h.each);
      sends = h.sends;
      requests_are = h.requests_are;
      responses = ap (λ (xs : List ℕ). ends_left (n - length q.hello) xs) h.responses;
    }

-- a hello is queued before any message
pub greeted_has : (w d m r : ℕ) (ends bytes : List ℕ) (q : SendQueue) → ends ≡ [] → QueueHas w d m r ends q → QueueHas w (d + length bytes) m r ends (with_hello bytes q)
greeted_has w d m r ends bytes q none h =
    let no_ends : (n : ℕ) → ends_queued w n ends ≡ [] = λ n. ap (λ (xs : List ℕ). ends_queued w n xs) none ∙ ends_none w n in
    record {
      due_is = omega (arith, h.due_is, length-append q.hello bytes);
      ends_are = h.ends_are ∙ no_ends (length q.hello) ∙ sym (no_ends (length (q.hello ++ bytes)));
      each = subst (λ (xs : List ℕ). AllByRecursion (IsEnd w (length (q.hello ++ bytes))) xs) (sym none) tt;
      sends = h.sends;
      requests_are = h.requests_are;
      responses = h.responses;
    }

-- ---- What is written last has bytes

abbrev empty_queue : SendQueue
empty_queue = record { hello = []; fpdus = []; send_ends = []; response_ends = []; sends_left = 0; last_send = 0; last_request = 0; held = [] }

terminates : (at reason : ℕ) → 5 ≤ reason → final_output (ends.Bad at reason) ≡ terminate_message reason
unfolding final_output
terminates at reason le = ap (λ (b : Bool). cond b [] (terminate_message reason)) (le-ltb reason 5 le)

pub last_some : (at reason : ℕ) → 5 ≤ reason → last_output Responder (ends.Bad at reason) ≢ []
unfolding with_end
last_some at reason le none =
    let end : End = ends.Bad at reason in
    let queued : 0 < length (rejection Responder end) + length (final_output end) = terminate_queues Responder end reason empty_queue (terminates at reason le) in
    let len : length (last_output Responder (ends.Bad at reason)) ≡ 0 = ap (λ (xs : List ℕ). length xs) none in
    absurd (omega (arith, queued, len, length-append (rejection Responder (ends.Bad at reason)) (final_output (ends.Bad at reason))))
