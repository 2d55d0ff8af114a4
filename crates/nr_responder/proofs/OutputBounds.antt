-- The output of a responder stays within its bounds.
use Rattle.std.proofs.Common.{◌≡◌, ℕ, ◌+◌, ◌*◌, ◌<◌, ◌≤◌, Bool, true, false, not, ◌||◌, eqb, cond, List, [], ◌∷◌, ◌++◌, length, map, take, drop, Option, None, Some, Result, Ok, Err, refl, sym, ap, subst, ◌∙◌, arith, is_some, length-append, inl, inr}
use Rattle.std.specs.Prelude.{◌⊎◌}
use Rattle.std.specs.List.{AllByRecursion, list_any, filter}
use Rattle.std.proofs.lemmas.Bool.{eqb-true, ne_eqb}
use Rattle.std.proofs.lemmas.List.{length-map, length-take, length-drop, take-append-drop}
use Rattle.nr_wire.specs.Hello.{Hello, hello_of}
use Rattle.nr_wire.specs.declared.hello.Side.{Side}
use Rattle.nr_wire.specs.declared.hello.Side.TheVariants.{Initiator, Responder}
use Rattle.nr_wire.specs.declared.stream.Awaited.{Awaited}
use Rattle.nr_wire.specs.declared.stream.Awaited.TheVariants.{Fpdu}
use Rattle.nr_header.specs.Constants.{READ_SEGMENTS_MAX}
use Rattle.nr_link.specs.declared.end.End.{End}
use Rattle.nr_link.specs.declared.end.End.TheVariants as ends
use Rattle.nr_link.specs.Frames.{Frame}
use Rattle.nr_link.specs.Limits.{open_reads_max}
use Rattle.nr_link.specs.Input.{InputState}
use Rattle.nr_endpoint.specs.SendQueue.{SendQueue, with_end, with_send, with_hello}
use Rattle.nr_endpoint.specs.Hellos.{own_private}
use Rattle.nr_endpoint.specs.LinkState.{LinkState, LinkSide, initial_link}
use Rattle.nr_endpoint.specs.Judging.{next_frame, reply_hello, with_end_of, with_frame, with_peer_hello, with_other_sizes}
use Rattle.nr_endpoint.specs.Calls.{after_call}
use Rattle.nr_endpoint.specs.Calls.Call.{NextEvent, OutOfMemory, Send, Stop}
use Rattle.nr_reduce.specs.Holds.{chunk_error}
use Rattle.nr_reduce.specs.ServerState.{PendingCall, PendingRead, ServerState}
use Rattle.nr_reduce.specs.Chunks.{total_at}
use Rattle.nr_reduce.specs.ServerReads.{read_of, reads_from}
use Rattle.nr_reduce.specs.declared.mark.LinkParameters.{LinkParameters}
use Rattle.nr_header.specs.declared.header.ReadSegment.{ReadSegment}
use Rattle.nr_reduce.specs.OfferedRegions.{Region}
use Rattle.nr_endpoint.specs.OutputSizes.{request_max}
use Rattle.nr_responder.specs.HeldBytes.{sizes, reads_share, requests_max, IsOfPending, OutputFits, OutputLives, QueueFits, QueueMost, SharesFit}
use Rattle.nr_responder.specs.Keeping.{Begins, Keeps, OwnNumbers}
use Rattle.nr_responder.specs.Keeping.Begins.{BeforeHello, AfterHello}
use Rattle.nr_responder.specs.ResponderState.{ResponderSide, after_drain, end_of, opened_side}
use Rattle.nr_responder.specs.private.CallsRead.{opened_with, reading_call, reads_with, sinks_of}
use Rattle.nr_responder.specs.private.Handling.{Handled, inline_call, on_link, with_ready}
use Rattle.nr_responder.specs.private.Handling.Handled.{Stopped, Refused, Ready, Fetched, Completed}
use Rattle.nr_responder.specs.private.Reading.{opening}
use Rattle.nr_responder.specs.private.ReadsDone.{ReadHandled, calls_without, reading_on, reads_without, still_open, with_sent}
use Rattle.nr_responder.specs.private.ReadsDone.ReadHandled.{GoesOn, Readies, Stops, Refused as RefusedRead}
use Rattle.nr_responder.proofs.Fed.{StepOf}
use Rattle.nr_responder.proofs.Fed.StepOf.{Part, WholeFrame}
use Rattle.nr_responder.proofs.Frames.{frame_ended}
use Rattle.nr_endpoint.proofs.Pieces.{frame_place}
use Rattle.nr_responder.proofs.Handled.{chunk_short, told_of}
use Rattle.nr_responder.proofs.Out.{lives_same}
use Rattle.nr_endpoint.proofs.OutputSizes.{end_hello, hello_len, rejection_len, written_hello, end_held, terminate_len, written_held}
use Rattle.nr_responder.proofs.OwnedSinks.{call_among}
use Rattle.nr_responder.proofs.PendingReads.{AreOf, reads_own}
use Rattle.nr_responder.proofs.Posted.{sent_link, told_link_lem}
use Rattle.nr_responder.proofs.QueueBounds.{end_most, more_calls, most_of_fits, requests_fit, requests_hello, send_fits, written_fits, written_most, requests_held}
use Rattle.nr_responder.proofs.Responses.{frame_is}
use Rattle.nr_responder.proofs.Shares.{IsOwned, most_of, owned_total, share_append, share_filtered}
use Rattle.nr_responder.proofs.SinkBounds.{kept_waiting, without_pending}
use Rattle.nr_link.specs.declared.agreement.SideTerms.{SideTerms}
use Rattle.nr_link.specs.Output.{hello_with, terminate_message}
use Rattle.nr_reduce.proofs.PrivateData.{responder_short}
use Rattle.nr_link.specs.Reasons.{REASON_SIZES}

-- ---- Reads that wait

sizes_one : (reads : List PendingRead) → sizes (λ (r : PendingRead). 1) reads ≡ length reads
sizes_one [] = refl
sizes_one (r ∷ reads) = (let rest = sizes_one reads in omega (arith, rest))

most_is : (numbers : List ℕ) → most_of READ_SEGMENTS_MAX numbers ≡ READ_SEGMENTS_MAX * length numbers
most_is [] = omega arith
most_is (n ∷ numbers) = (let rest = most_is numbers in omega (arith, rest))

all_owned : (calls : List PendingCall) (reads : List PendingRead) → AllByRecursion (IsOfPending calls) reads → AllByRecursion (IsOwned (λ (r : PendingRead). r.number) (map (λ c. c.number) calls)) reads
all_owned calls [] h = tt
all_owned calls (r ∷ reads) h = (call_among r.number calls h.0, all_owned calls reads h.1)

-- reads of pending calls, of which each has at most so many
waiting_most : (calls : List PendingCall) (reads : List PendingRead) → AllByRecursion (IsOfPending calls) reads → ((n : ℕ) → reads_share n reads ≤ READ_SEGMENTS_MAX) → request_max * length reads ≤ requests_max * length calls
waiting_most calls reads pending few =
    let total = owned_total (λ (r : PendingRead). r.number) (λ (r : PendingRead). 1) READ_SEGMENTS_MAX (map (λ (c : PendingCall). c.number) calls) reads (all_owned calls reads pending) few in
    let all = most_is (map (λ (c : PendingCall). c.number) calls) in
    let count = length-map calls (λ (c : PendingCall). c.number) in
    let size = sizes_one reads in
    omega (arith, total, all, count, size)

share_parts : (n i : ℕ) (reads : List PendingRead) → reads_share n (take i reads) + reads_share n (drop i reads) ≡ reads_share n reads
share_parts n i reads = sym (share_append (λ (r : PendingRead). r.number) (λ (r : PendingRead). 1) n (take i reads) (drop i reads)) ∙ ap (λ (rs : List PendingRead). reads_share n rs) (take-append-drop i reads)

fewer_dropped : (i : ℕ) (reads : List PendingRead) → ((n : ℕ) → reads_share n reads ≤ READ_SEGMENTS_MAX) → (n : ℕ) → reads_share n (drop i reads) ≤ READ_SEGMENTS_MAX
fewer_dropped i reads few n = (let parts = share_parts n i reads in let most = few n in omega (arith, parts, most))

pub waits_lem : (v : ResponderSide) → SharesFit v → ((n : ℕ) → reads_share n v.fetching.reads ≤ READ_SEGMENTS_MAX) → request_max * length (drop open_reads_max v.fetching.reads) ≤ requests_max * length v.calls
waits_lem v g few = waiting_most v.calls (drop open_reads_max v.fetching.reads) g.waiting (fewer_dropped open_reads_max v.fetching.reads few)

-- ---- What lives, and what has ended

pub live_out : (v : ResponderSide) → OutputLives v → OutputFits v
live_out v f = record {
  most = most_of_fits v.link.state.send_queue (length (drop open_reads_max v.fetching.reads)) (length v.calls) f.queue;
  hello = (let small = f.hello in omega (arith, small));
  held = f.held;
  each = λ live. f;
}

-- the side ended with output of its own
out_over : (v after : ResponderSide) (side : Side) (end : End) → end_of v ≡ None → after.calls ≡ v.calls → after.link.state.send_queue ≡ with_end side end v.link.state.send_queue → (end_of after ≡ None → ⊥) → OutputFits v → OutputFits after
out_over v after side end live calls queue over h =
    let f : OutputLives v = h.each live in
    record {
      most =
          subst (λ (q : SendQueue). QueueMost q (length after.calls)) (sym queue)
          (subst (λ (cs : List PendingCall). QueueMost (with_end side end v.link.state.send_queue) (length cs)) (sym calls) (end_most side end v.link.state.send_queue (length (drop open_reads_max v.fetching.reads)) (length v.calls) f.queue));
      hello = (let small = f.hello in let len = ap (λ (q : SendQueue). length q.hello) queue in let more = end_hello side end v.link.state.send_queue in let last = rejection_len side end in omega (arith, small, len, more, last));
      held = ap (λ (q : SendQueue). q.held) queue ∙ end_held side end v.link.state.send_queue ∙ f.held;
      each = λ live_now. absurd (over live_now);
    }

-- or without
out_same_over : (v after : ResponderSide) → after.calls ≡ v.calls → after.link.state.send_queue ≡ v.link.state.send_queue → (end_of after ≡ None → ⊥) → OutputFits v → OutputFits after
out_same_over v after calls queue over h = record {
  most = subst (λ (q : SendQueue). QueueMost q (length after.calls)) (sym queue) (subst (λ (cs : List PendingCall). QueueMost v.link.state.send_queue (length cs)) (sym calls) h.most);
  hello = (let small = h.hello in let len = ap (λ (q : SendQueue). length q.hello) queue in omega (arith, small, len));
  held = ap (λ (q : SendQueue). q.held) queue ∙ h.held;
  each = λ live_now. absurd (over live_now);
}

stopped_queue : (l : LinkSide) (reason : ℕ) → l.state.ended ≡ None → ((after_call l (Stop reason)).state.send_queue ≡ with_end l.state.side (ends.Bad l.state.last reason) l.state.send_queue) × ((after_call l (Stop reason)).state.ended ≡ Some (ends.Bad l.state.last reason))
unfolding after_call
stopped_queue l reason live = (
  ap (λ (o : Option End). (cond (is_some o) l.state (with_end_of (ends.Bad l.state.last reason) l.state)).send_queue) live,
  ap (λ (o : Option End). (cond (is_some o) l.state (with_end_of (ends.Bad l.state.last reason) l.state)).ended) live,
)

memory_queue : (l : LinkSide) → l.state.ended ≡ None → ((after_call l OutOfMemory).state.send_queue ≡ l.state.send_queue) × ((after_call l OutOfMemory).state.ended ≡ Some ends.Memory)
unfolding after_call
memory_queue l live = (
  ap (λ (o : Option End). (cond (is_some o) l.state (record l.state { ended = Some ends.Memory })).send_queue) live,
  ap (λ (o : Option End). (cond (is_some o) l.state (record l.state { ended = Some ends.Memory })).ended) live,
)

not_none : (o : Option End) (end : End) → o ≡ Some end → o ≡ None → ⊥
not_none o end is none = (let two : Some end ≡ None = sym is ∙ none in absurd cc)

pub stop_out : (v after : ResponderSide) (reason : ℕ) → end_of v ≡ None → after.calls ≡ v.calls → after.link ≡ after_call v.link (Stop reason) → OutputFits v → OutputFits after
stop_out v after reason live calls is h =
    let s = stopped_queue v.link reason live in
    out_over v after v.link.state.side (ends.Bad v.link.state.last reason) live calls (ap (λ (l : LinkSide). l.state.send_queue) is ∙ s.0) (λ none. not_none (end_of after) _ (ap (λ (l : LinkSide). l.state.ended) is ∙ s.1) none) h

pub memory_out : (v after : ResponderSide) → end_of v ≡ None → after.calls ≡ v.calls → after.link ≡ after_call v.link OutOfMemory → OutputFits v → OutputFits after
memory_out v after live calls is h =
    let s = memory_queue v.link live in
    out_same_over v after calls (ap (λ (l : LinkSide). l.state.send_queue) is ∙ s.0) (λ none. not_none (end_of after) _ (ap (λ (l : LinkSide). l.state.ended) is ∙ s.1) none) h

-- ---- A piece

told_queue : (l : LinkSide) → ((after_call l NextEvent).state.send_queue ≡ l.state.send_queue) × ((after_call l NextEvent).state.place ≡ l.state.place)
unfolding after_call
told_queue l = (refl, refl)

same_lives : (v : ResponderSide) (l : LinkSide) → l.state.send_queue ≡ v.link.state.send_queue → (l.state.place ≡ 0 → v.link.state.place ≡ 0) → OutputLives v → OutputLives (on_link v l)
same_lives v l queue place f = record {
  queue = subst (λ (q : SendQueue). QueueFits q (length (drop open_reads_max v.fetching.reads)) (length v.calls)) (sym queue) f.queue;
  reads = f.reads;
  hello = (let small = f.hello in let len = ap (λ (q : SendQueue). length q.hello) queue in omega (arith, small, len));
  none = λ e. ap (λ (q : SendQueue). length q.hello) queue ∙ f.none (place e);
  held = ap (λ (q : SendQueue). q.held) queue ∙ f.held;
}

pub told_lives : (w : ResponderSide) → OutputLives w → OutputLives (told_of w)
told_lives w f = (let t = told_queue w.link in same_lives w (after_call w.link NextEvent) t.0 (λ e. sym t.1 ∙ e) f)

-- the client's hello
greeted_lives : (v : ResponderSide) (m : LinkSide) (f : Frame) (r : Result Hello ℕ) → v.link.state.side ≡ Responder → v.link.state.place ≡ 0 → 0 < f.end → m.state ≡ with_peer_hello f r v.link.state → m.state.ended ≡ None → OutputLives v → OutputLives (on_link v m)
unfolding with_peer_hello
greeted_lives v m f (Err reason) side place some is lives h = absurd (not_none m.state.ended _ (ap (λ (t : LinkState). t.ended) is) lives)
greeted_lives v m f (Ok hello) side place some is lives h = record {
  queue = subst (λ (q : SendQueue). QueueFits q (length (drop open_reads_max v.fetching.reads)) (length v.calls)) (sym (ap (λ (t : LinkState). t.send_queue) is)) (λ n. h.queue n);
  reads = h.reads;
  hello =
      (let none = h.none place in
      let reply : List ℕ = reply_hello v.link.state.side (own_private v.link.state.terms v.link.state.side hello.private) in
      let len : length m.state.send_queue.hello ≡ length (v.link.state.send_queue.hello ++ reply) = ap (λ (t : LinkState). length t.send_queue.hello) is in
      let private : List ℕ = own_private v.link.state.terms Responder hello.private in
      let own : length reply ≡ length (hello_with Responder private) = ap (λ (x : Side). length (reply_hello x (own_private v.link.state.terms x hello.private))) side in
      let short = hello_len Responder private (responder_short v.link.state.terms hello.private) in
      omega (arith, none, len, own, short, length-append v.link.state.send_queue.hello reply));
  none = λ e. absurd (let at : m.state.place ≡ f.end = ap (λ (t : LinkState). t.place) is in omega (arith, at, e, some));
  held = ap (λ (t : LinkState). t.send_queue.held) is ∙ h.held;
}

pub fed_lives : (opened : LinkParameters) (k : ServerState) (so_far : InputState) (v : ResponderSide) (piece : List ℕ) (m : LinkSide) → Keeps opened k so_far v → StepOf v.link piece m → m.state.ended ≡ None → OutputLives v → OutputLives (on_link v m)
fed_lives opened k so_far v piece m h (Part w link) lives f = same_lives v m (ap (λ (l : LinkSide). l.state.send_queue) link) (λ e. sym (ap (λ (l : LinkSide). l.state.place) link) ∙ e) f
fed_lives opened k so_far v piece m h (WholeFrame frame w frame_is_taken long link) lives f = by h.begins
  where
    s : LinkState
    s = v.link.state

    state : m.state ≡ with_frame s v.link.awaited frame
    state = ap (λ (l : LinkSide). l.state) link

    by : Begins v.link → OutputLives (on_link v m)
    by (BeforeHello place awaited hello none) =
        greeted_lives v m (next_frame s frame) (hello_of Initiator frame) h.link.side place (omega (arith, long)) (state ∙ ap (λ (a : Awaited). with_frame s a frame) awaited) lives f
    by (AfterHello place awaited hello) =
        let now : m.state ≡ with_frame s Fpdu frame = state ∙ ap (λ (a : Awaited). with_frame s a frame) awaited in
        let lives_on : (with_frame s Fpdu frame).ended ≡ None = sym (ap (λ (t : LinkState). t.ended) now) ∙ lives in
        let queue = ap (λ (t : LinkState). t.send_queue) now ∙ (lives_same s frame (frame_is opened k s frame h.link h.server lives_on) lives_on).queue in
        let at = ap (λ (t : LinkState). t.place) now ∙ frame_place s Fpdu frame lives_on in
        same_lives v m queue (λ e. absurd (omega (arith, at, e, long))) f

-- the side ended with a Terminate after its hello
sizes_out : (v after : ResponderSide) (f : Frame) → end_of v ≡ None → after.calls ≡ v.calls → after.link.state ≡ with_other_sizes f v.link.state → OutputFits v → OutputFits after
sizes_out v after f live calls is h =
    let lives : OutputLives v = h.each live in
    let fpdus : after.link.state.send_queue.fpdus ≡ v.link.state.send_queue.fpdus = ap (λ (t : LinkState). t.send_queue.fpdus) is in
    let queue : after.link.state.send_queue ≡ with_hello (terminate_message REASON_SIZES) v.link.state.send_queue = ap (λ (t : LinkState). t.send_queue) is in
    record {
      most =
          subst (λ (q : SendQueue). QueueMost q (length after.calls)) (sym queue)
          (subst (λ (cs : List PendingCall). QueueMost (with_hello (terminate_message REASON_SIZES) v.link.state.send_queue) (length cs)) (sym calls) (λ n. h.most n));
      hello = (let small = lives.hello in let len = ap (λ (q : SendQueue). length q.hello) queue in omega (arith, small, len, terminate_len REASON_SIZES, length-append v.link.state.send_queue.hello (terminate_message REASON_SIZES)));
      held = ap (λ (q : SendQueue). q.held) queue ∙ h.held;
      each = λ live_now. absurd (not_none (end_of after) _ (ap (λ (t : LinkState). t.ended) is) live_now);
    }

-- a frame that ends the side
pub ended_out : (v : ResponderSide) (piece : List ℕ) (m : LinkSide) (end : End) → end_of v ≡ None → StepOf v.link piece m → m.state.ended ≡ Some end → OutputFits v → OutputFits (on_link v m)
ended_out v piece m end live (Part w link) ended h = absurd (not_none (end_of v) end (sym (ap (λ (l : LinkSide). l.state.ended) link) ∙ ended) live)
ended_out v piece m end live (WholeFrame frame w frame_is_taken long link) ended h = by (frame_ended v.link.state v.link.awaited frame end live (sym (ap (λ (t : LinkState). t.ended) state) ∙ ended))
  where
    state : m.state ≡ with_frame v.link.state v.link.awaited frame
    state = ap (λ (l : LinkSide). l.state) link

    by : (with_frame v.link.state v.link.awaited frame ≡ with_end_of end v.link.state) ⊎ (with_frame v.link.state v.link.awaited frame ≡ with_other_sizes (next_frame v.link.state frame) v.link.state) → OutputFits (on_link v m)
    by (inl over) = out_over v (on_link v m) v.link.state.side end live refl (ap (λ (t : LinkState). t.send_queue) (state ∙ over)) (λ none. not_none m.state.ended end ended none) h
    by (inr over) = sizes_out v (on_link v m) (next_frame v.link.state frame) live refl (state ∙ over) h

-- ---- What was made of a message

abbrev one_if : Bool → ℕ
one_if b = cond b 1 0

none_before : (n : ℕ) (reads : List PendingRead) → AllByRecursion (λ r. r.number ≤ n) reads → reads_share (n + 1) reads ≡ 0
none_before n [] h = refl
none_before n (r ∷ reads) h =
    let here : one_if (eqb r.number (n + 1)) ≡ 0 = ap one_if (ne_eqb r.number (n + 1) (λ e. (let le = h.0 in omega (arith, le, e)))) in
    let rest = none_before n reads h.1 in
    omega (arith, here, rest)

own_reads : (n m : ℕ) (reads : List PendingRead) → AreOf n reads → reads_share m reads ≤ cond (eqb n m) (length reads) 0
own_reads n m reads h = by (eqb n m) refl reads h
  where
    by : (b : Bool) → eqb n m ≡ b → (reads : List PendingRead) → AreOf n reads → reads_share m reads ≤ cond b (length reads) 0
    by true e [] h = omega arith
    by false e [] h = omega arith
    by true e (r ∷ reads) h =
        let rest = by true e reads h.1 in
        let here : one_if (eqb r.number m) ≡ 1 = ap (λ (k : ℕ). one_if (eqb k m)) h.0 ∙ ap one_if e in
        omega (arith, rest, here)
    by false e (r ∷ reads) h =
        let rest = by false e reads h.1 in
        let here : one_if (eqb r.number m) ≡ 0 = ap (λ (k : ℕ). one_if (eqb k m)) h.0 ∙ ap one_if e in
        omega (arith, rest, here)

new_count : (regions : List Region) (n : ℕ) (before read : List ReadSegment) → length (reads_from regions n before read) ≤ length read
new_count regions n before [] = omega arith
new_count regions n before (r ∷ read) = by (eqb r.length 0) (new_count regions n (before ++ r ∷ []) read)
  where
    by : (b : Bool) → length (reads_from regions n (before ++ r ∷ []) read) ≤ length read →
        length (cond b [] (read_of regions n (total_at r.position before) r ∷ []) ++ reads_from regions n (before ++ r ∷ []) read) ≤ length (r ∷ read)
    by true rest = omega (arith, rest)
    by false rest = omega (arith, rest)

reading_lives : (k : ServerState) (v : ResponderSide) (c : PendingCall) → v.fetching.reads ≡ k.reads → AllByRecursion (λ r. r.number ≤ k.received.sends) k.reads → c.number ≡ k.received.sends + 1 → length c.lists.read ≤ READ_SEGMENTS_MAX → OutputLives v → OutputLives (reading_call v c)
reading_lives k v c reads before number few f = record {
  queue = requests_fit (opened_with v c) v.link.state.send_queue (length (drop open_reads_max v.fetching.reads) + length new) (length (v.calls ++ c ∷ [])) (length (drop open_reads_max all)) counts wide;
  reads = λ n. each n (eqb c.number n) refl;
  hello = (let small = f.hello in let same = ap (λ (bytes : List ℕ). length bytes) (requests_hello (opened_with v c) v.link.state.send_queue) in omega (arith, small, same));
  none = λ e. ap (λ (bytes : List ℕ). length bytes) (requests_hello (opened_with v c) v.link.state.send_queue) ∙ f.none e;
  held = requests_held (opened_with v c) v.link.state.send_queue ∙ f.held;
}
  where
    new : List PendingRead
    new = reads_from (sinks_of v.link.state c) c.number [] c.lists.read

    all : List PendingRead
    all = reads_with v c

    new_few : length new ≤ READ_SEGMENTS_MAX
    new_few = (let count = new_count (sinks_of v.link.state c) c.number [] c.lists.read in omega (arith, count, few))

    wide : QueueFits v.link.state.send_queue (length (drop open_reads_max v.fetching.reads) + length new) (length (v.calls ++ c ∷ []))
    wide =
        more_calls v.link.state.send_queue (length (drop open_reads_max v.fetching.reads)) (length v.calls) (length (drop open_reads_max v.fetching.reads) + length new) (length (v.calls ++ c ∷ [])) (omega (arith, new_few, length-append v.calls (c ∷ []))) f.queue

    counts : length (drop open_reads_max all) + length (opened_with v c) ≤ length (drop open_reads_max v.fetching.reads) + length new
    counts =
        omega (
          arith,
          length-append v.fetching.reads new,
          length-drop open_reads_max all,
          length-drop open_reads_max v.fetching.reads,
          length-drop (length (take open_reads_max v.fetching.reads)) (take open_reads_max all),
          length-take open_reads_max all,
          length-take open_reads_max v.fetching.reads,
        )

    both : (n : ℕ) → reads_share n all ≡ reads_share n v.fetching.reads + reads_share n new
    both n = share_append (λ (r : PendingRead). r.number) (λ (r : PendingRead). 1) n v.fetching.reads new

    each : (n : ℕ) (b : Bool) → eqb c.number n ≡ b → reads_share n all ≤ READ_SEGMENTS_MAX
    each n true is =
        let same : n ≡ k.received.sends + 1 = sym (eqb-true c.number n is) ∙ number in
        let old : reads_share n v.fetching.reads ≡ 0 = (λ i. reads_share (same i) (reads i)) ∙ none_before k.received.sends k.reads before in
        let more : reads_share n new ≤ length new = subst (λ (b : Bool). reads_share n new ≤ cond b (length new) 0) is (own_reads c.number n new (reads_own (sinks_of v.link.state c) c.number [] c.lists.read)) in
        let sum = both n in
        omega (arith, old, more, new_few, sum)
    each n false is =
        let more : reads_share n new ≤ 0 = subst (λ (b : Bool). reads_share n new ≤ cond b (length new) 0) is (own_reads c.number n new (reads_own (sinks_of v.link.state c) c.number [] c.lists.read)) in
        let sum = both n in
        let first = f.reads n in
        omega (arith, more, sum, first)

ready_lives : (v : ResponderSide) (l : LinkSide) (c : PendingCall) → l.state.send_queue ≡ v.link.state.send_queue → (l.state.place ≡ 0 → v.link.state.place ≡ 0) → OutputLives v → OutputLives (with_ready v l c)
ready_lives v l c queue place f = record {
  queue =
      subst (λ (q : SendQueue). QueueFits q (length (drop open_reads_max v.fetching.reads)) (length (v.calls ++ c ∷ []))) (sym queue)
      (more_calls v.link.state.send_queue (length (drop open_reads_max v.fetching.reads)) (length v.calls) (length (drop open_reads_max v.fetching.reads)) (length (v.calls ++ c ∷ [])) (omega (arith, length-append v.calls (c ∷ []))) f.queue);
  reads = f.reads;
  hello = (let small = f.hello in let len = ap (λ (q : SendQueue). length q.hello) queue in omega (arith, small, len));
  none = λ e. ap (λ (q : SendQueue). length q.hello) queue ∙ f.none (place e);
  held = ap (λ (q : SendQueue). q.held) queue ∙ f.held;
}

-- one that lives, after what was made of a message; `g` is what holds of its sinks then
pub handled_out : (opened : LinkParameters) (k : ServerState) (so_far : InputState) (message : List ℕ) (v after : ResponderSide) (m : LinkSide) → Keeps opened k so_far v → m.state.ended ≡ None → OutputLives (on_link v m) → (end_of after ≡ None → SharesFit after) → Handled k message (on_link v m) after → OutputFits after
handled_out opened k so_far message v after m keeps lives h g (Stopped reason refusal other is) =
    stop_out (told_of (on_link v m)) after reason ((told_link_lem m (after_call m NextEvent) refl).live ∙ lives) (ap (λ (x : ResponderSide). x.calls) is) (ap (λ (x : ResponderSide). x.link) is) (live_out (told_of (on_link v m)) (told_lives (on_link v m) h))
handled_out opened k so_far message v after m keeps lives h g (Refused answer effect short is) = subst OutputFits (sym is) (live_out now f)
  where
    told : LinkSide
    told = after_call m NextEvent

    told_live : told.state.ended ≡ None
    told_live = (told_link_lem m told refl).live ∙ lives

    t : OutputLives (told_of (on_link v m))
    t = told_lives (on_link v m) h

    now : ResponderSide
    now = on_link (on_link v m) (after_call told (Send answer))

    sent : after_call told (Send answer) ≡ record { awaited = told.awaited; rest = told.rest; state = record told.state { send_queue = with_send answer told.state.send_queue } }
    sent = sent_link told (after_call told (Send answer)) answer told_live refl

    live_now : end_of now ≡ None
    live_now = ap (λ (l : LinkSide). l.state.ended) sent ∙ told_live

    shares : SharesFit now
    shares = subst SharesFit is (g (ap end_of is ∙ live_now))

    f : OutputLives now
    f = record {
      queue =
          subst (λ (l : LinkSide). QueueFits l.state.send_queue (length (drop open_reads_max v.fetching.reads)) (length v.calls)) (sym sent)
          (send_fits told.state.send_queue answer (length (drop open_reads_max v.fetching.reads)) (length v.calls) (length (drop open_reads_max v.fetching.reads)) (length v.calls) (omega (arith, short)) (omega arith) (omega arith) (waits_lem now shares t.reads) t.queue);
      reads = t.reads;
      hello = (let small = t.hello in let len = ap (λ (l : LinkSide). length l.state.send_queue.hello) sent in omega (arith, small, len));
      none = λ e. ap (λ (l : LinkSide). length l.state.send_queue.hello) sent ∙ t.none (sym (ap (λ (l : LinkSide). l.state.place) sent) ∙ e);
      held = ap (λ (l : LinkSide). l.state.send_queue.held) sent ∙ t.held;
    }
handled_out opened k so_far message v after m keeps lives h g (Ready xid write reply stream head new judged call own is) = subst OutputFits (sym is) (live_out _ (ready_lives (on_link v m) (after_call m NextEvent) (inline_call k xid write reply stream) (told_queue m).0 (λ e. sym (told_queue m).1 ∙ e) h))
handled_out opened k so_far message v after m keeps lives h g (Completed c own new judged none alone is) = subst OutputFits (sym is) (live_out _ (ready_lives (on_link v m) (after_call m NextEvent) c (told_queue m).0 (λ e. sym (told_queue m).1 ∙ e) h))
handled_out opened k so_far message v after m keeps lives h g (Fetched c own new judged fits total few chunks is) =
    subst OutputFits (sym is) (live_out _ (reading_lives k (told_of (on_link v m)) c keeps.reads keeps.server.reads_before own few (told_lives (on_link v m) h)))

-- ---- What was made of a read that is done

goes_lives : (v : ResponderSide) (r : PendingRead) (rest : List PendingRead) (xids : List ℕ) (payloads : List (Option (List ℕ))) → v.fetching.reads ≡ r ∷ rest → OutputLives v → OutputLives (reading_on v v.link.state v.calls rest (still_open r rest) xids payloads)
goes_lives v r rest xids payloads reads f = record {
  queue =
      requests_fit opened v.link.state.send_queue (length (drop open_reads_max (r ∷ rest))) (length v.calls) (length (drop open_reads_max rest))
      (omega (arith, length-drop open_reads_max rest, length-drop open_reads_max (r ∷ rest), length-drop (still_open r rest) (take open_reads_max rest), length-take open_reads_max rest, length-take open_reads_max (r ∷ rest)))
      (subst (λ (rs : List PendingRead). QueueFits v.link.state.send_queue (length (drop open_reads_max rs)) (length v.calls)) reads f.queue);
  reads = λ n. (let all : reads_share n (r ∷ rest) ≤ READ_SEGMENTS_MAX = subst (λ (rs : List PendingRead). reads_share n rs ≤ READ_SEGMENTS_MAX) reads (f.reads n) in omega (arith, all));
  hello = (let small = f.hello in let same = ap (λ (bytes : List ℕ). length bytes) (requests_hello opened v.link.state.send_queue) in omega (arith, small, same));
  none = λ e. ap (λ (bytes : List ℕ). length bytes) (requests_hello opened v.link.state.send_queue) ∙ f.none e;
  held = requests_held opened v.link.state.send_queue ∙ f.held;
}
  where
    opened : List PendingRead
    opened = opening (still_open r rest) rest

-- one call at most has a number
one_without : (n : ℕ) (calls : List PendingCall) → OwnNumbers calls → length calls ≤ length (calls_without n calls) + 1
one_without n [] own = omega arith
one_without n (c ∷ calls) own = by (eqb c.number n) refl (one_without n calls own.1)
  where
    none_out : (calls : List PendingCall) → list_any (λ d. eqb d.number n) calls ≡ false → length (calls_without n calls) ≡ length calls
    none_out [] none = refl
    none_out (d ∷ calls) none = within (eqb d.number n) refl (none_out calls) none
      where
        within : (b : Bool) → eqb d.number n ≡ b → (list_any (λ d. eqb d.number n) calls ≡ false → length (calls_without n calls) ≡ length calls) → (b || list_any (λ d. eqb d.number n) calls) ≡ false →
            length (cond (not b) (d ∷ calls_without n calls) (calls_without n calls)) ≡ length (d ∷ calls)
        within true e rest none = absurd (let wrong : true ≡ false = none in cc)
        within false e rest none = (let same = rest none in omega (arith, same))

    by : (b : Bool) → eqb c.number n ≡ b → length calls ≤ length (calls_without n calls) + 1 → length (c ∷ calls) ≤ length (cond (not b) (c ∷ calls_without n calls) (calls_without n calls)) + 1
    by true e rest = (let same = none_out calls (ap (λ (m : ℕ). list_any (λ d. eqb d.number m) calls) (sym (eqb-true c.number n e)) ∙ own.0) in omega (arith, same))
    by false e rest = omega (arith, rest)

filter_fewer : {X : Type 0} (keep : X → Bool) (xs : List X) → length (filter keep xs) ≤ length xs
filter_fewer keep [] = omega arith
filter_fewer keep (x ∷ xs) = by (keep x) (filter_fewer keep xs)
  where
    by : (b : Bool) → length (filter keep xs) ≤ length xs → length (cond b (x ∷ filter keep xs) (filter keep xs)) ≤ length (x ∷ xs)
    by true rest = omega (arith, rest)
    by false rest = omega (arith, rest)

refused_lives : (v : ResponderSide) (n : ℕ) (r : PendingRead) (rest : List PendingRead) (xid : ℕ) → v.fetching.reads ≡ r ∷ rest → OwnNumbers v.calls → SharesFit v → OutputLives v →
    OutputLives (reading_on v (with_sent v.link.state (chunk_error xid v.credits.word)) (calls_without n v.calls) (reads_without n (still_open r rest) rest) (still_open r rest) [] [])
refused_lives v n r rest xid reads own g f = record {
  queue = requests_fit opened (with_send message q) (length waiting) (length calls) (length (drop open_reads_max left)) counts sent;
  reads = each;
  hello = (let small = f.hello in let same = ap (λ (bytes : List ℕ). length bytes) (requests_hello opened (with_send message q)) in omega (arith, small, same));
  none = λ e. ap (λ (bytes : List ℕ). length bytes) (requests_hello opened (with_send message q)) ∙ f.none e;
  held = requests_held opened (with_send message q) ∙ f.held;
}
  where
    q : SendQueue
    q = v.link.state.send_queue

    message : List ℕ
    message = chunk_error xid v.credits.word

    calls : List PendingCall
    calls = calls_without n v.calls

    kept : ℕ
    kept = still_open r rest

    waiting : List PendingRead
    waiting = filter (λ x. not (eqb x.number n)) (drop kept rest)

    left : List PendingRead
    left = reads_without n kept rest

    opened : List PendingRead
    opened = opening kept left

    all : (m : ℕ) → reads_share m (r ∷ rest) ≤ READ_SEGMENTS_MAX
    all m = subst (λ (rs : List PendingRead). reads_share m rs ≤ READ_SEGMENTS_MAX) reads (f.reads m)

    fewer : (m : ℕ) → reads_share m waiting ≤ reads_share m (drop kept rest)
    fewer m = share_filtered (λ (x : PendingRead). x.number) (λ (x : PendingRead). 1) m (λ x. not (eqb x.number n)) (drop kept rest)

    each : (m : ℕ) → reads_share m left ≤ READ_SEGMENTS_MAX
    each m =
        let parts = share_parts m kept rest in
        let some = fewer m in
        let sum = share_append (λ (x : PendingRead). x.number) (λ (x : PendingRead). 1) m (take kept rest) waiting in
        let most = all m in
        omega (arith, parts, some, sum, most)

    waiting_few : (m : ℕ) → reads_share m waiting ≤ READ_SEGMENTS_MAX
    waiting_few m = (let parts = share_parts m kept rest in let some = fewer m in let most = all m in omega (arith, parts, some, most))

    pending : AllByRecursion (IsOfPending calls) waiting
    pending = without_pending n v.calls (drop kept rest) (kept_waiting (IsOfPending v.calls) r rest (subst (λ (rs : List PendingRead). AllByRecursion (IsOfPending v.calls) (drop open_reads_max rs)) reads g.waiting))

    sent : QueueFits (with_send message q) (length waiting) (length calls)
    sent =
        send_fits q message (length (drop open_reads_max (r ∷ rest))) (length v.calls) (length waiting) (length calls) (let small = chunk_short xid v.credits.word in omega (arith, small))
        (omega (arith, filter_fewer (λ (x : PendingRead). not (eqb x.number n)) (drop kept rest), length-drop kept rest, length-drop open_reads_max (r ∷ rest), length-take open_reads_max (r ∷ rest)))
        (one_without n v.calls own) (waiting_most calls waiting pending waiting_few) (subst (λ (rs : List PendingRead). QueueFits q (length (drop open_reads_max rs)) (length v.calls)) reads f.queue)

    counts : length (drop open_reads_max left) + length opened ≤ length waiting
    counts =
        omega (
          arith,
          length-append (take kept rest) waiting,
          length-take kept rest,
          length-drop open_reads_max left,
          length-drop kept (take open_reads_max left),
          length-take open_reads_max left,
          length-take open_reads_max (r ∷ rest),
        )

pub read_out : (v after : ResponderSide) (r : PendingRead) (rest : List PendingRead) → v.fetching.reads ≡ r ∷ rest → end_of v ≡ None → OwnNumbers v.calls → SharesFit v → OutputLives v → ReadHandled v r rest after → OutputFits after
read_out v after r rest reads live own g f (GoesOn nothing is) = subst OutputFits (sym is) (live_out _ (goes_lives v r rest [] [] reads f))
read_out v after r rest reads live own g f (Readies m is) = subst OutputFits (sym is) (live_out _ (goes_lives v r rest (m.call.xid ∷ []) (Some m.payload ∷ []) reads f))
read_out v after r rest reads live own g f (Stops reason other ended fetching sinks fewer is) = stop_out v after reason live (ap (λ (x : ResponderSide). x.calls) is) (ap (λ (x : ResponderSide). x.link) is) (live_out v f)
read_out v after r rest reads live own g f (RefusedRead c is) = subst OutputFits (sym is) (live_out _ (refused_lives v c.call.number r rest c.call.xid reads own g f))

-- ---- As it is opened, and a drain

pub drained_out : (v after : ResponderSide) (n : ℕ) → after ≡ after_drain v n → OutputFits v → OutputFits after
drained_out v after n is h =
    let fewer = written_hello n v.link.state.send_queue in
    subst OutputFits (sym is) (record {
      most = written_most n v.link.state.send_queue (length v.calls) h.most;
      hello = (let small = h.hello in omega (arith, small, fewer));
      held = written_held n v.link.state.send_queue ∙ h.held;
      each = λ live.
          let f : OutputLives v = h.each live in
          record {
            queue = written_fits n v.link.state.send_queue (length (drop open_reads_max v.fetching.reads)) (length v.calls) f.queue;
            reads = f.reads;
            hello = (let small = f.hello in omega (arith, small, fewer));
            none = λ e. (let zero_now = f.none e in omega (arith, zero_now, fewer));
            held = written_held n v.link.state.send_queue ∙ f.held;
          };
    })

first_lives : (credits low : ℕ) (terms : SideTerms) → OutputLives (opened_side credits low terms)
unfolding initial_link
first_lives credits low terms = record { queue = λ n. omega arith; reads = λ n. omega arith; hello = omega arith; none = λ e. refl; held = refl }

pub opened_out : (v : ResponderSide) (credits low : ℕ) (terms : SideTerms) → v ≡ opened_side credits low terms → OutputFits v
opened_out v credits low terms is = subst OutputFits (sym is) (live_out (opened_side credits low terms) (first_lives credits low terms))
