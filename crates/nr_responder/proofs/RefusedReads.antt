-- What holds of a responder whose call is refused as a read is done.
use Rattle.std.proofs.Common.{◌≡◌, ◌≢◌, ℕ, zero, suc, ◌+◌, ◌<◌, ◌≤◌, Bool, true, false, not, cond, eqb, ◌||◌, List, [], ◌∷◌, ◌++◌, length, take, drop, get_or, map, refl, sym, ap, subst, ◌∙◌, arith, length-append, All, None}
use Rattle.std.specs.List.{AllByRecursion, filter, list_any, remove}
use Rattle.std.proofs.lemmas.List.{length-drop, length-take}
use Rattle.nr_endpoint.specs.Receives.{IsReceive}
use Rattle.nr_endpoint.specs.LinkState.{LinkState, LinkSide}
use Rattle.nr_endpoint.specs.SendQueue.{with_send}
use Rattle.nr_reduce.specs.ServerState.{PendingRead}
use Rattle.nr_reduce.specs.ServerReads.{is_read}
use Rattle.nr_responder.specs.declared.call.Pending.{Pending}
use Rattle.nr_responder.specs.declared.call.Ready.{Ready}
use Rattle.nr_responder.specs.declared.call.ReadEntry.{ReadEntry}
use Rattle.nr_responder.specs.ResponderState.{unsent}
use Rattle.nr_responder.specs.Sound.{AreFetched, QueuesInvariant, HasOutside, KeepsOutside, around_of, claims_of, HasRoom, InReceive}
use Rattle.nr_responder.specs.Views.{call_view, read_view, sink_view}
use Rattle.nr_endpoint.specs.EndpointState.{EndpointState}
use Rattle.nr_endpoint.specs.ReceiveQueue.{ReceiveQueue}
use Rattle.nr_endpoint.specs.SendQueue.{send_output}
use Rattle.nr_header.specs.Constants.{PAYLOAD_MAX}
use Rattle.nr_responder.specs.Fetching.{SinkRegion}
use Rattle.nr_responder.specs.declared.call.OpenSink.{OpenSink}
use Rattle.nr_responder.specs.private.Reading.{left_sinks, with_opened_after, with_released}
use Rattle.nr_responder.specs.private.ReadsDone.{reads_without, side_after_done, with_sent}
use Rattle.nr_responder.proofs.HeldSinks.{fetched_as}
use Rattle.nr_responder.proofs.Windows.{around_removed, keeps_as, keeps_on, rooms_closed, same_outside}
use Rattle.std.specs.FinMap.{FinMap}
use Rattle.std.specs.Ordering.{nat_cmp}
use Rattle.nr_regions.specs.RegisteredMemory.{Outside, RegisteredMemory, AreHeldFrom}
use Rattle.nr_responder.proofs.ReadsGoOn.{requests_ends}
use Rattle.nr_responder.proofs.Removed.{all_pushed_lem, all_removed, length_removed}
use Rattle.nr_responder.proofs.Sounds.{bufs_as, used_as, limit_as}

any_append : (n : ℕ) (xs ys : List PendingRead) → list_any (λ r. eqb r.number n) xs ≡ false → list_any (λ r. eqb r.number n) ys ≡ false → list_any (λ r. eqb r.number n) (xs ++ ys) ≡ false
any_append n [] ys none more = more
any_append n (x ∷ xs) ys none more = by (any_append n xs ys) (eqb x.number n) refl none
  where
    by : (list_any (λ r. eqb r.number n) xs ≡ false → list_any (λ r. eqb r.number n) ys ≡ false → list_any (λ r. eqb r.number n) (xs ++ ys) ≡ false) → (b : Bool) → eqb x.number n ≡ b → (b || list_any (λ r. eqb r.number n) xs) ≡ false →
        (eqb x.number n || list_any (λ r. eqb r.number n) (xs ++ ys)) ≡ false
    by rest true e h = absurd cc
    by rest false e h = ap (λ (b : Bool). b || list_any (λ r. eqb r.number n) (xs ++ ys)) e ∙ rest h more

any_split : (n i : ℕ) (xs : List PendingRead) → list_any (λ r. eqb r.number n) xs ≡ false → (list_any (λ r. eqb r.number n) (take i xs) ≡ false) × (list_any (λ r. eqb r.number n) (drop i xs) ≡ false)
any_split n zero xs none = (refl, none)
any_split n (suc i) [] none = (refl, refl)
any_split n (suc i) (x ∷ xs) none = by (any_split n i xs) (eqb x.number n) refl none
  where
    by : (list_any (λ r. eqb r.number n) xs ≡ false → (list_any (λ r. eqb r.number n) (take i xs) ≡ false) × (list_any (λ r. eqb r.number n) (drop i xs) ≡ false)) → (b : Bool) → eqb x.number n ≡ b → (b || list_any (λ r. eqb r.number n) xs) ≡ false →
        ((eqb x.number n || list_any (λ r. eqb r.number n) (take i xs)) ≡ false) × (list_any (λ r. eqb r.number n) (drop i xs) ≡ false)
    by rest true e h = absurd cc
    by rest false e h = (ap (λ (b : Bool). b || list_any (λ r. eqb r.number n) (take i xs)) e ∙ (rest h).0, (rest h).1)

any_filtered : (n m : ℕ) (xs : List PendingRead) → list_any (λ r. eqb r.number n) xs ≡ false → list_any (λ r. eqb r.number n) (filter (λ r. not (eqb r.number m)) xs) ≡ false
any_filtered n m [] none = refl
any_filtered n m (x ∷ xs) none = by (any_filtered n m xs) (eqb x.number n) refl (not (eqb x.number m)) none
  where
    by : (list_any (λ r. eqb r.number n) xs ≡ false → list_any (λ r. eqb r.number n) (filter (λ r. not (eqb r.number m)) xs) ≡ false) → (b : Bool) → eqb x.number n ≡ b → (k : Bool) → (b || list_any (λ r. eqb r.number n) xs) ≡ false →
        list_any (λ r. eqb r.number n) (cond k (x ∷ filter (λ r. not (eqb r.number m)) xs) (filter (λ r. not (eqb r.number m)) xs)) ≡ false
    by rest true e k h = absurd cc
    by rest false e true h = ap (λ (b : Bool). b || list_any (λ r. eqb r.number n) (filter (λ r. not (eqb r.number m)) xs)) e ∙ rest h
    by rest false e false h = rest h

-- fewer reads are left
filter_fewer : (keep : PendingRead → Bool) (reads : List PendingRead) → length (filter keep reads) ≤ length reads
filter_fewer keep [] = omega arith
filter_fewer keep (r ∷ reads) = by (keep r) (filter_fewer keep reads)
  where
    by : (b : Bool) → length (filter keep reads) ≤ length reads → length (cond b (r ∷ filter keep reads) (filter keep reads)) ≤ length (r ∷ reads)
    by true rest = omega (arith, rest)
    by false rest = omega (arith, rest)

pub dropped_fewer : (m kept : ℕ) (reads later : List PendingRead) → later ≡ reads_without m kept reads → length later ≤ length reads
dropped_fewer m kept reads later is =
    let same = ap (λ (rs : List PendingRead). length rs) is in
    let sum = length-append (take kept reads) (filter (λ r. not (eqb r.number m)) (drop kept reads)) in
    let few = filter_fewer (λ r. not (eqb r.number m)) (drop kept reads) in
    omega (arith, same, sum, few, length-take kept reads, length-drop kept reads)

pub dropped_rooms : (around : FinMap nat_cmp Outside) (sinks : List OpenSink) (m kept : ℕ) (reads later : List ReadEntry) (c : Pending) → map read_view later ≡ reads_without m kept (map read_view reads) → HasRoom around sinks reads c → HasRoom around sinks later c
dropped_rooms around sinks m kept reads later c is room = record {
  space = λ left. room.space (by (list_any (λ r. eqb r.number c.number) (map read_view reads)) refl left);
  apart = λ some. subst (λ (rs : List PendingRead). AllByRecursion (λ r. r.number ≡ c.number → r.position ≢ 0) rs) (sym is) (kept_each (λ r. r.number ≡ c.number → r.position ≢ 0) kept (map read_view reads) (room.apart some));
  few = room.few;
}
  where
    by : (b : Bool) → list_any (λ r. eqb r.number c.number) (map read_view reads) ≡ b → is_read (map read_view later) c.number ≡ false → not (list_any (λ r. eqb r.number c.number) (map read_view reads)) ≡ false
    by true e left = ap (λ (b : Bool). not b) e
    by false e left =
        let s = any_split c.number kept (map read_view reads) e in
        let none : list_any (λ r. eqb r.number c.number) (map read_view later) ≡ false =
        ap (λ (rs : List PendingRead). list_any (λ r. eqb r.number c.number) rs) is ∙ any_append c.number (take kept (map read_view reads)) (filter (λ r. not (eqb r.number m)) (drop kept (map read_view reads))) s.0 (any_filtered c.number m (drop kept (map read_view reads)) s.1) in
        absurd (let two : true ≡ false = sym (ap (λ (b : Bool). not b) none) ∙ left in cc)

    filtered_each : (P : PendingRead → Type 0) (rs : List PendingRead) → AllByRecursion P rs → AllByRecursion P (filter (λ r. not (eqb r.number m)) rs)
    filtered_each P [] h = tt
    filtered_each P (r ∷ rs) h = choose (filtered_each P rs h.1) (not (eqb r.number m))
      where
        choose : AllByRecursion P (filter (λ q. not (eqb q.number m)) rs) → (b : Bool) → AllByRecursion P (cond b (r ∷ filter (λ q. not (eqb q.number m)) rs) (filter (λ q. not (eqb q.number m)) rs))
        choose rest true = (h.0, rest)
        choose rest false = rest

    kept_each : (P : PendingRead → Type 0) (n : ℕ) (rs : List PendingRead) → AllByRecursion P rs → AllByRecursion P (take n rs ++ filter (λ r. not (eqb r.number m)) (drop n rs))
    kept_each P zero rs h = filtered_each P rs h
    kept_each P (suc n) [] h = tt
    kept_each P (suc n) (r ∷ rs) h = (h.0, kept_each P n rs h.1)

pub dropped_fetched : (e f : EndpointState) (m kept : ℕ) (calls : List Pending) (reads later : List ReadEntry) (sinks : List OpenSink) → map read_view later ≡ reads_without m kept (map read_view reads) → f.link.state.memory ≡ e.link.state.memory → f.outside ≡ e.outside →
    AreFetched e calls reads sinks → AreFetched f calls later sinks
dropped_fetched e f m kept calls reads later sinks is memory outside h =
    fetched_as e f calls later sinks memory outside (record { held = h.held; short = h.short; rooms = λ k d lt. dropped_rooms e.outside sinks m kept reads later (get_or calls k d) is (h.rooms k d lt); outside = h.outside })

-- the message of a call was queued, and its receive waits until that has left
pub refused_sound : (s t : LinkState) (at : ℕ) (call : Pending) (calls later : List Pending) (ready : List Ready) (used after : List (List ℕ)) (a b c d e : ℕ) → t.receive_queue ≡ s.receive_queue → length t.send_queue.send_ends ≡ unsent s + 1 → at < length calls → InReceive s.receive_queue.receive_length call → later ≡ remove calls at →
    length ready < length calls → after ≡ used ++ call.buf ∷ [] → d ≡ a → e ≡ c → QueuesInvariant 0 s calls ready used a b c → QueuesInvariant 0 t later ready after d b e
refused_sound s t at call calls later ready used after a b c d e queue ends lt whole left few used_is calls_room used_room h =
    let count : length later + 1 ≡ length calls = ap (λ (xs : List Pending). length xs + 1) left ∙ length_removed calls at lt in
    let used_count : length after ≡ length used + 1 = ap (λ (xs : List (List ℕ)). length xs) used_is ∙ length-append used (call.buf ∷ []) in
    record {
      unsent_is = omega (arith, used_count, ends, h.unsent_is);
      lent = omega (arith, used_count, count, h.lent, ap (λ (q : ReceiveQueue). q.lent) queue);
      few = omega (arith, count, few);
      bufs = bufs_as _ _ _ (ap (λ (q : ReceiveQueue). q.receive_length) queue) (subst (λ (xs : List Pending). All (InReceive s.receive_queue.receive_length) xs) (sym left) (all_removed (InReceive s.receive_queue.receive_length) calls at h.bufs));
      used_bufs = used_as _ _ _ (ap (λ (q : ReceiveQueue). q.receive_length) queue) (subst (λ (xs : List (List ℕ)). All (IsReceive s.receive_queue.receive_length) xs) (sym used_is) (all_pushed_lem (IsReceive s.receive_queue.receive_length) used call.buf h.used_bufs whole.0));
      calls_fit = omega (arith, h.calls_fit, calls_room, ap (λ (q : ReceiveQueue). q.receives) queue);
      ready_fit = omega (arith, h.ready_fit, ap (λ (q : ReceiveQueue). q.receives) queue);
      used_fit = omega (arith, h.used_fit, used_room, ap (λ (q : ReceiveQueue). q.receives) queue);
      limit = limit_as _ _ (ap (λ (q : ReceiveQueue). q.receive_length) queue) h.limit;
    }

pub refused_ends : (message : List ℕ) (opened : List PendingRead) (over : List SinkRegion) (l m n : LinkSide) → m ≡ with_opened_after message opened l → n ≡ with_released over m → length n.state.send_queue.send_ends ≡ unsent l.state + 1
refused_ends message opened over l m n sent closed =
    ap (λ (x : LinkSide). length x.state.send_queue.send_ends) closed ∙ ap (λ (x : LinkSide). length x.state.send_queue.send_ends) sent
    ∙ ap (λ (xs : List ℕ). length xs) (requests_ends opened (with_send message l.state.send_queue))
    ∙ length-append l.state.send_queue.send_ends (length (l.state.send_queue.fpdus ++ send_output l.state.send_queue None message) ∷ [])

pub refused_link : (message : List ℕ) (opened : List PendingRead) (over : List SinkRegion) (l m n : LinkSide) → m ≡ with_opened_after message opened l → n ≡ with_released over m →
    n ≡ record { awaited = l.awaited; rest = l.rest; state = side_after_done (with_sent l.state message) opened over }
refused_link message opened over l m n sent closed = closed ∙ ap (λ (x : LinkSide). with_released over x) sent

pub refused_fetched : (e f g : EndpointState) (m kept at : ℕ) (d : Pending) (message : List ℕ) (opened : List PendingRead) (calls left : List Pending) (reads later : List ReadEntry) (sinks left_open : List OpenSink) → map read_view later ≡ reads_without m kept (map read_view reads) → at < length calls → (get_or calls at d).around ≡ 0 → left ≡ remove calls at →
    f.link ≡ with_opened_after message opened e.link → f.outside ≡ e.outside → AreHeldFrom g.link.state.memory 0 (claims_of left_open) → All (λ s. s.registration.len ≤ PAYLOAD_MAX) left_open → ((n : ℕ) → HasOutside f n → HasOutside g n) → KeepsOutside f g →
    map sink_view left_open ≡ left_sinks (map call_view left) (map read_view later) (map sink_view sinks) → AreFetched e calls reads sinks → AreFetched g left later left_open
refused_fetched e f g m kept at d message opened calls left reads later sinks left_open is lt none left_is sent outside held short fewer keeps sinks_are h =
    let memory : f.link.state.memory ≡ e.link.state.memory = ap (λ (l : LinkSide). l.state.memory) sent in
    record {
      held = held;
      short = short;
      rooms = rooms_closed e g left later sinks left_open (keeps_on e f g (keeps_as e f memory outside) keeps) sinks_are held
          (subst (λ (cs : List Pending). All (HasRoom e.outside sinks later) cs) (sym left_is) (all_removed (HasRoom e.outside sinks later) calls at (λ k d lt. dropped_rooms e.outside sinks m kept reads later (get_or calls k d) is (h.rooms k d lt))));
      outside = fewer (around_of left) (same_outside e f (around_of left) (ap (λ (m : RegisteredMemory). m.next) memory) outside (subst (λ (n : ℕ). HasOutside e n) (sym (ap (λ (cs : List Pending). around_of cs) left_is ∙ around_removed calls at d lt none)) h.outside));
    }
