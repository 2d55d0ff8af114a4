-- A responder whose output was handed on, some or all of it, and whose receives are posted again for the answers that left.
use Rattle.std.proofs.Common.{◌≡◌, ℕ, zero, suc, ◌-◌, ◌≤◌, Bool, true, false, List, [], ◌∷◌, ◌++◌, length, take, drop, Option, Some, None, refl, sym, ap, subst, ◌∙◌, arith, inl, inr, is_some, length-append, append_assoc}
use Rattle.std.proofs.lemmas.List.{append-nil, drop_all, length-take, take-append-drop}
use Rattle.nr_wire.specs.declared.hello.Side.TheVariants.{Responder}
use Rattle.nr_link.specs.declared.end.End.{End}
use Rattle.nr_link.specs.Input.{InputState}
use Rattle.nr_endpoint.specs.SendQueue.{SendQueue, writable, written, output_len}
use Rattle.nr_endpoint.specs.LinkState.{LinkSide}
use Rattle.nr_endpoint.specs.Calls.{after_call}
use Rattle.nr_endpoint.specs.Calls.Call.{Drain}
use Rattle.nr_reduce.specs.declared.mark.Mark.{Mark}
use Rattle.nr_reduce.specs.declared.mark.Mark.TheVariants as marks
use Rattle.nr_reduce.specs.declared.mark.LinkParameters.{LinkParameters}
use Rattle.nr_reduce.specs.Events.RunEvent.{QueueWritten}
use Rattle.nr_reduce.specs.EndRules.{EndState, live, next_end_state_in, output_for_in, end_state_after}
use Rattle.nr_reduce.specs.ServerState.{ServerState}
use Rattle.nr_reduce.specs.Server.{server_rules, server_end, server_output, server_state_after}
use Rattle.nr_responder.specs.ResponderState.{ResponderSide, queue, queued_bytes, may_write, posted_times, drained_posted, left_by, after_drain}
use Rattle.nr_responder.specs.Keeping.{Begins, Keeps, KeepsEnd}
use Rattle.nr_responder.specs.Keeping.Begins.{BeforeHello, AfterHello}
use Rattle.nr_responder.specs.Standing.{ResponderRepresents}
use Rattle.nr_responder.proofs.Executed.{drained, drained_keeps, drained_server}
use Rattle.nr_responder.proofs.Queues.{sendable_drained}
use Rattle.nr_responder.proofs.Marks.{wrote_represents, own_bytes, stays_out}

pub drained_link : (l m : LinkSide) (n posts : ℕ) → m ≡ after_call l (Drain n) → posted_times posts m ≡ record { awaited = l.awaited; rest = l.rest; state = drained_posted l.state n posts }
unfolding after_call
drained_link l m n posts is = ap (λ (x : LinkSide). posted_times posts x) is

pub drained_queues : (l m : LinkSide) (n : ℕ) → m ≡ after_call l (Drain n) → (m.state.receive_queue ≡ l.state.receive_queue) × (m.state.send_queue ≡ written n l.state.send_queue)
unfolding after_call
drained_queues l m n is = (ap (λ (x : LinkSide). x.state.receive_queue) is, ap (λ (x : LinkSide). x.state.send_queue) is)

-- what is written, and what is left
left_over : (hello fpdus : List ℕ) (n : ℕ) → take n (hello ++ fpdus) ++ (drop n hello ++ drop (n - length hello) fpdus) ≡ hello ++ fpdus
left_over [] fpdus n =
    let nothing : List ℕ = [] in
    let all : n - 0 ≡ n = omega arith in
    (λ i. take n fpdus ++ (drop_all n nothing (omega arith) i ++ drop (all i) fpdus)) ∙ take-append-drop n fpdus
left_over (x ∷ hello) fpdus zero = ap (λ (m : ℕ). (x ∷ hello) ++ drop m fpdus) (let e : 0 - length (x ∷ hello) ≡ 0 = omega arith in e)
left_over (x ∷ hello) fpdus (suc n) =
    ap (λ (m : ℕ). x ∷ (take n (hello ++ fpdus) ++ (drop n hello ++ drop m fpdus))) (let e : suc n - length (x ∷ hello) ≡ n - length hello = omega arith in e)
    ∙ ap (λ (xs : List ℕ). x ∷ xs) (left_over hello fpdus n)

pub split_queue : (has_hello : Bool) (n : ℕ) (q : SendQueue) → n ≤ length (writable has_hello q) → take n (writable has_hello q) ++ queued_bytes (written n q) ≡ queued_bytes q
unfolding written
split_queue true n q within = left_over q.hello q.fpdus n
split_queue false n q within =
    let nothing : List ℕ = [] in
    let few : n ≤ length q.hello = omega (arith, within, length-append q.hello nothing) in
    let zero_left : n - length q.hello ≡ 0 = omega (arith, few) in
    (λ i. take n (append-nil q.hello i) ++ (drop n q.hello ++ drop (zero_left i) q.fpdus))
    ∙ sym (append_assoc (take n q.hello) (drop n q.hello) q.fpdus)
    ∙ ap (λ (xs : List ℕ). xs ++ q.fpdus) (take-append-drop n q.hello)

may_within : (has_hello : Bool) (q : SendQueue) → length (writable has_hello q) ≤ output_len q
may_within true q = omega (arith, length-append q.hello q.fpdus)
may_within false q = (let nothing : List ℕ = [] in omega (arith, length-append q.hello nothing))

live_next_lem : (opened : LinkParameters) (k : ServerState) (n : ℕ) (o : Option End) → o ≡ None → next_end_state_in (server_rules opened) k (QueueWritten n) o ≡ live (drained k n)
unfolding server_end server_state_after
live_next_lem opened k n o is = ap (λ (e : Option End). next_end_state_in (server_rules opened) k (QueueWritten n) e) is

live_silent : (opened : LinkParameters) (k : ServerState) (n : ℕ) (o : Option End) → output_for_in (server_rules opened) k (QueueWritten n) o ++ [] ≡ []
unfolding server_end server_output
live_silent opened k n None = refl
live_silent opened k n (Some end) = refl

ended_next : (opened : LinkParameters) (k : ServerState) (n : ℕ) (o : Option End) → is_some o ≡ true → next_end_state_in (server_rules opened) k (QueueWritten n) o ≡ record { state = k; ended = o }
ended_next opened k n None is = absurd cc
ended_next opened k n (Some end) is = refl

begins_drained : (l : LinkSide) (n posts : ℕ) → Begins l → Begins (record { awaited = l.awaited; rest = l.rest; state = drained_posted l.state n posts })
unfolding written
begins_drained l n posts (BeforeHello place awaited hello none) =
    let nothing : List ℕ = [] in
    BeforeHello place awaited hello (ap (λ (bytes : List ℕ). drop (n - length l.state.send_queue.hello) bytes) none ∙ drop_all (n - length l.state.send_queue.hello) nothing (omega arith))
begins_drained l n posts (AfterHello place awaited hello) = AfterHello place awaited hello

keeps_drained : (opened : LinkParameters) (end : EndState ServerState) (so_far : InputState) (v : ResponderSide) (n : ℕ) → n ≤ output_len v.link.state.send_queue → KeepsEnd opened end so_far v →
    KeepsEnd opened (next_end_state_in (server_rules opened) end.state (QueueWritten n) end.ended) so_far (after_drain v n)
keeps_drained opened end so_far v n within (inl (is, h)) =
    let posts : ℕ = left_by v.link.state n in
    let keeps : Keeps opened (drained end.state n) so_far (after_drain v n) = record {
      link = drained_keeps opened end.state n v.link.state within h.link;
      input = record { awaited = h.input.awaited; rest = h.input.rest; place = h.input.place };
      begins = begins_drained v.link n posts h.begins;
      server = drained_server end.state v.link.state.place n h.server;
      calls = h.calls;
      ready = h.ready;
      credits = h.credits;
      reads = h.reads;
      sinks = h.sinks;
      payloads = h.payloads;
      quiet = h.quiet;
    } in
    subst (λ (e : EndState ServerState). KeepsEnd opened e so_far (after_drain v n)) (sym (live_next_lem opened end.state n end.ended is)) (inl (refl, keeps))
keeps_drained opened end so_far v n within (inr ended) =
    subst (λ (e : EndState ServerState). KeepsEnd opened e so_far (after_drain v n)) (sym (ended_next opened end.state n end.ended ended.over))
    (inr (record { over = ended.over; why = ended.why; calls = ended.calls; ready = ended.ready; credits = ended.credits; agreed = ended.agreed; sendable = sendable_drained v.link.state.has_hello n v.link.state.send_queue ended.sendable }))

pub drained_stands : (opened : LinkParameters) (link : ℕ) (run : List Mark) (v : ResponderSide) (n : ℕ) → n ≤ length (may_write v) → ResponderRepresents opened link run v →
    ResponderRepresents opened link (run ++ marks.Wrote link Responder (take n (may_write v)) ∷ []) (after_drain v n)
drained_stands opened link run v n within (inl h) =
    let count : n ≡ length (take n (may_write v)) = omega (arith, length-take n (may_write v), within) in
    let most : n ≤ output_len v.link.state.send_queue = omega (arith, within, may_within v.link.state.has_hello v.link.state.send_queue) in
    inl (wrote_represents opened link run v (after_drain v n) (take n (may_write v)) h (split_queue v.link.state.has_hello n v.link.state.send_queue within)
    (subst (λ (m : ℕ). KeepsEnd opened (end_state_after (server_rules opened) h.end (QueueWritten m ∷ [])) h.input (after_drain v n)) count (keeps_drained opened h.end h.input v n most h.keeps))
    (live_silent opened h.end.state (length (take n (may_write v))) h.end.ended) (record { last = refl; client = refl }))
drained_stands opened link run v n within (inr out) =
    inr (stays_out opened link run v (after_drain v n) (marks.Wrote link Responder (take n (may_write v))) out refl (record { calls = refl; ready = refl; credits = refl }) refl
    (ap (λ (bytes : List ℕ). bytes ++ queue (after_drain v n)) (own_bytes link (take n (may_write v))) ∙ split_queue v.link.state.has_hello n v.link.state.send_queue within))
