-- What a responder keeps stays within its bounds at each of its steps.
use Rattle.std.proofs.Common.{◌≡◌, ◌≢◌, ℕ, zero, suc, ◌+◌, ◌*◌, ◌≤◌, Bool, true, false, not, ◌||◌, eqb, List, [], ◌∷◌, ◌++◌, length, map, drop, None, Some, refl, sym, ap, subst, ◌∙◌, arith, inl, inr, Option}
use Rattle.std.specs.Prelude.{◌⊎◌, slice_get, Result, Ok, Err, IfOk, OnErr}
use Rattle.std.specs.List.{AllByRecursion, list_any, remove}
use Rattle.std.proofs.lemmas.Bool.{eqb-true, eq-eqb}
use Rattle.nr_wire.specs.Stream.{IsPartial}
use Rattle.nr_link.specs.declared.end.End.{End}
use Rattle.nr_link.specs.declared.end.End.TheVariants as ends
use Rattle.nr_header.specs.Constants.{PAYLOAD_MAX}
use Rattle.nr_link.specs.Limits.{open_reads_max, send_unit}
use Rattle.nr_link.specs.Input.{InputState}
use Rattle.nr_outside.specs.declared.moment.Moment.{Moment}
use Rattle.nr_regions.specs.RegisteredMemory.{RegisteredMemory, bytes_held, AreHeldFrom}
use Rattle.nr_endpoint.specs.LinkState.{LinkSide, initial_link}
use Rattle.nr_endpoint.specs.ReceiveQueue.{receives_kept}
use Rattle.nr_endpoint.specs.ReceiveQueue.DeliveredEvent.{ReadDone}
use Rattle.nr_endpoint.specs.Calls.{after_call, after_calls}
use Rattle.nr_endpoint.specs.Calls.Call.{FeedOne, NextEvent, OutOfMemory}
use Rattle.nr_endpoint.specs.Offering.{answer_calls, writes_output}
use Rattle.nr_reduce.specs.declared.mark.LinkParameters.{LinkParameters}
use Rattle.nr_reduce.specs.declared.mark.Mark.{Mark}
use Rattle.nr_reduce.specs.declared.mark.Mark.TheVariants as marks
use Rattle.nr_reduce.specs.Served.{IsExecuted}
use Rattle.nr_reduce.specs.ServerState.{PendingCall, PendingRead, ServerState}
use Rattle.nr_reduce.specs.ServerReads.{is_read}
use Rattle.nr_responder.specs.declared.call.Sent.{Sent}
use Rattle.nr_responder.specs.Answering.{Answers, answer_to, answered_by, message_for, name_for}
use Rattle.nr_responder.specs.HeldBytes.{sinks_total, IsOfPending, IsBounded, KeptFits, ListsFit, OutputFits, RegionsHave, SharesFit, SinksFit, held_unit, ReceivesFit}
use Rattle.nr_responder.specs.Keeping.{Keeps}
use Rattle.nr_responder.specs.ResponderState.{ResponderSide, ResponderState, after_drain, bytes_held_by, end_of, opened_side, present_word, unsent}
use Rattle.nr_responder.specs.Standing.{RepresentsServer, ResponderRepresents, RepresentsSome}
use Rattle.nr_responder.specs.Rooms.{payload_room}
use Rattle.nr_responder.specs.private.Handling.{IsServerOf, IsTaken, on_link, out}
use Rattle.nr_responder.specs.private.ReadsDone.{HandlesRead}
use Rattle.nr_responder.proofs.Answered.{NextKept, next_kept, answer_link, answered_stands, payload_is_lem, down_limit}
use Rattle.nr_responder.proofs.DoneReads.{impossible_none}
use Rattle.nr_responder.proofs.Executed.{with_answer}
use Rattle.nr_responder.proofs.Fed.{StepOf, not_ended_lem, step_next, step_of}
use Rattle.nr_responder.proofs.ServerSteps.{new_is_read}
use Rattle.nr_responder.proofs.Handled.{Goes, RanOutOf, makes_handled, step_counts, told_of, told_server_of}
use Rattle.nr_responder.proofs.Marks.{represents}
use Rattle.nr_responder.proofs.OutputSteps.{answered_out}
use Rattle.nr_responder.proofs.ReadBounds.{answered_reads, few_after}
use Rattle.nr_endpoint.proofs.SendQueues.{ends_left_fewer}
use Rattle.nr_responder.proofs.Posted.{memory_as, told_link_lem}
use Rattle.nr_responder.proofs.SinkBounds.{LivesOn, handled_fits, live_fits, on_link_fits, read_fits, read_out_fits, receives_fit_on, receives_same, told_receives}
use Rattle.nr_responder.proofs.SinkTotals.{claim_of_sink, fed_one_have, opened_have}
use Rattle.nr_responder.proofs.Stepped.{FewDeliveries, few_deliveries}
use Rattle.nr_link.specs.declared.agreement.SideTerms.{SideTerms}
use Rattle.nr_wire.specs.Constants.{UNITS_MAX}
use Rattle.std.proofs.lemmas.Nat.{mul-le}
use Rattle.nr_responder.proofs.Opened.{own_limit}
use Rattle.nr_responder.proofs.Words.{word_is}
use Rattle.nr_endpoint.specs.SendQueue.{held_len}

-- one that lives and stands for some marks keeps a server's state
pub lives_on_lem : (opened : LinkParameters) (link : ℕ) (run : List Mark) (v : ResponderSide) → ResponderRepresents opened link run v → LivesOn v
lives_on_lem opened link run v stands live =
    let h : RepresentsServer opened link run v = represents opened link run v live stands in
    (opened, (h.end.state, (h.input, (not_ended_lem opened h.end h.input v live h.keeps).1)))

-- ---- A step on a piece

abbrev pub AreHeld : ResponderSide → LinkSide → Type 0
AreHeld v m = AreHeldFrom m.state.memory 0 (map claim_of_sink v.fetching.sinks)

-- the side of the link took a piece, and has not ended
pub fed_fits : (v : ResponderSide) (piece : List ℕ) (m : LinkSide) → end_of v ≡ None → StepOf v.link piece m → m ≡ after_call v.link (FeedOne piece) → SinksFit v → SinksFit (on_link v m)
fed_fits v piece m live step is h =
    let have : RegionsHave m.state.memory (sinks_total v.fetching.sinks) = subst (λ (l : LinkSide). RegionsHave l.state.memory (sinks_total v.fetching.sinks)) (sym is) (fed_one_have (sinks_total v.fetching.sinks) v.link piece h.memory) in
    let counts = step_counts v.link m piece step in
    record { receives = receives_fit_on _ v.link.state.receive_queue m.state.receive_queue h.receives (record { count = counts.receives; len = counts.receive_length }); memory = have; most = h.most; count = h.count; each = λ lives. (let f : SharesFit v = h.each live in record { shares = f.shares; counts = f.counts; waiting = f.waiting }) }

-- or it ended, or ran out of memory
pub failed_fits : (v : ResponderSide) (piece : List ℕ) (m : LinkSide) (end : End) → end_of v ≡ None → IsPartial v.link.awaited v.link.rest → (end ≢ ends.Memory → m ≡ after_call v.link (FeedOne piece)) → (end ≡ ends.Memory → m ≡ after_call v.link OutOfMemory) → SinksFit v → SinksFit (on_link v m)
failed_fits v piece m end live p fed out_of h = by end fed out_of
  where
    went : m ≡ after_call v.link (FeedOne piece) → SinksFit (on_link v m)
    went is = fed_fits v piece m live (step_of v.link m piece p live is) is h

    by : (end : End) → (end ≢ ends.Memory → m ≡ after_call v.link (FeedOne piece)) → (end ≡ ends.Memory → m ≡ after_call v.link OutOfMemory) → SinksFit (on_link v m)
    by (ends.Bad at reason) fed out_of = went (fed (λ e. absurd cc))
    by (ends.Denied stag offset why) fed out_of = went (fed (λ e. absurd cc))
    by (ends.NoBuffer msn) fed out_of = went (fed (λ e. absurd cc))
    by (ends.Terminated reason) fed out_of = went (fed (λ e. absurd cc))
    by ends.Memory fed out_of = (let stays = memory_as v.link m (out_of refl) in on_link_fits v m (receives_same _ _ stays.input.queue) stays.memory (λ e. live) h)

told_fits : (v : ResponderSide) (m : LinkSide) → m.state.ended ≡ None → SinksFit (on_link v m) → SinksFit (told_of (on_link v m))
told_fits v m lives h = on_link_fits (on_link v m) (after_call m NextEvent) (told_receives m) (told_link_lem m (after_call m NextEvent) refl).memory (λ e. lives) h

out_fits : (w : ResponderSide) → end_of w ≡ None → SinksFit w → SinksFit (out w)
out_fits w live h = (let stays = memory_as w.link (after_call w.link OutOfMemory) refl in on_link_fits w (after_call w.link OutOfMemory) (receives_same _ _ stays.input.queue) stays.memory (λ e. live) h)

pub step_fits : (opened : LinkParameters) (k : ServerState) (so_far : InputState) (v after : ResponderSide) (piece : List ℕ) (m : LinkSide) → Keeps opened k so_far v → end_of v ≡ None → m.state.ended ≡ None → m ≡ after_call v.link (FeedOne piece) → StepOf v.link piece m → AreHeld v m →
    SinksFit v → LivesOn after → v.credits.word ≡ present_word v → IsTaken (on_link v m) after → SinksFit after
step_fits opened k so_far v after piece m h live lives is step held fit on word taken = by (few_deliveries opened k so_far v piece m h lives step)
  where
    w : ResponderSide
    w = on_link v m

    g : SinksFit w
    g = fed_fits v piece m live step is fit

    server : IsServerOf k w
    server = record { calls = sym h.calls; credits = sym (word ∙ word_is opened k so_far v h); reads = sym h.reads; ready = h.ready; new_read = new_is_read k h.server.reads_before; next = sym h.link.next ∙ sym (step_next v.link m piece step); place = v.link.state.place; is_server = h.server }

    told_live : end_of (told_of w) ≡ None
    told_live = (told_link_lem m (after_call m NextEvent) refl).live ∙ lives

    told : SinksFit (told_of w)
    told = told_fits v m lives g

    message : (bytes : List ℕ) → Goes w (k.received.sends + 1) bytes after ⊎ RanOutOf w (k.received.sends + 1) bytes after → SinksFit after
    message bytes (inl goes) = handled_fits opened k so_far bytes v after m h live lives g on (goes k server refl)
    message bytes (inr ran) = subst SinksFit (sym ran.is_out) (out_fits (told_of w) told_live told)

    held_told : AreHeldFrom (told_of w).link.state.memory 0 (map claim_of_sink v.fetching.sinks)
    held_told = subst (λ (n : RegisteredMemory). AreHeldFrom n 0 (map claim_of_sink v.fetching.sinks)) (sym (told_link_lem m (after_call m NextEvent) refl).memory) held

    which : (x : PendingRead) (rest : List PendingRead) → v.fetching.reads ≡ x ∷ rest → HandlesRead (told_of w) x rest after → SinksFit after
    which x rest reads (inl impossible) = absurd (impossible_none k (told_of w) x rest (told_server_of k w server) reads impossible)
    which x rest reads (inr (inl handled)) = read_fits (told_of w) after x rest reads told_live held_told told on handled
    which x rest reads (inr (inr ran)) = read_out_fits (told_of w) after x rest told_live told ran

    read : m.state.receive_queue.deliveries ≡ ReadDone ∷ [] → (reads : List PendingRead) → v.fetching.reads ≡ reads → (v.fetching.reads ≢ []) → SinksFit after
    read done [] none some = absurd (some none)
    read done (x ∷ rest) reads some = which x rest reads (taken.read done x rest reads)

    by : FewDeliveries k.received.sends v.fetching.reads m.state.receive_queue.deliveries → SinksFit after
    by (inl none) = subst SinksFit (sym (taken.none none)) g
    by (inr (inl one)) = message one.0 (makes_handled w after (k.received.sends + 1) one.0 (taken.some (k.received.sends + 1) None one.0 one.1))
    by (inr (inr done)) = read done.0 v.fetching.reads refl done.1

-- ---- An answer

-- some other call is pending without the call at a place
still_there : (n at : ℕ) (calls : List PendingCall) (c : PendingCall) → slice_get calls at ≡ Some c → c.number ≢ n → list_any (λ c. eqb c.number n) calls ≡ true → list_any (λ c. eqb c.number n) (remove calls at) ≡ true
still_there n at [] c there ne e = absurd (let wrong : false ≡ true = e in cc)
still_there n zero (d ∷ calls) c there ne e = by (eqb d.number n) refl e
  where
    same : d ≡ c
    same = cc

    by : (b : Bool) → eqb d.number n ≡ b → (b || list_any (λ c. eqb c.number n) calls) ≡ true → list_any (λ c. eqb c.number n) calls ≡ true
    by true is e = absurd (ne (ap (λ (x : PendingCall). x.number) (sym same) ∙ eqb-true d.number n is))
    by false is e = e
still_there n (suc at) (d ∷ calls) c there ne e = by (still_there n at calls c there ne) (eqb d.number n) e
  where
    by : (list_any (λ c. eqb c.number n) calls ≡ true → list_any (λ c. eqb c.number n) (remove calls at) ≡ true) → (b : Bool) → (b || list_any (λ c. eqb c.number n) calls) ≡ true → (b || list_any (λ c. eqb c.number n) (remove calls at)) ≡ true
    by rest true e = refl
    by rest false e = rest e

-- a call of which nothing is left to be read has no read
others_read : (n : ℕ) (reads : List PendingRead) → is_read reads n ≡ true → AllByRecursion (λ r. n ≢ r.number) reads
others_read n [] e = tt
others_read n (r ∷ reads) e = by (others_read n reads) (eqb r.number n) refl e
  where
    by : (is_read reads n ≡ true → AllByRecursion (λ r. n ≢ r.number) reads) → (b : Bool) → eqb r.number n ≡ b → not (b || list_any (λ r. eqb r.number n) reads) ≡ true → AllByRecursion (λ r. n ≢ r.number) (r ∷ reads)
    by rest true is e = absurd (let wrong : false ≡ true = e in cc)
    by rest false is e = ((λ same. absurd (let two : true ≡ false = sym (eq-eqb r.number n (sym same)) ∙ is in cc)), rest e)

all_drop : (P : PendingRead → Type 0) (i : ℕ) (reads : List PendingRead) → AllByRecursion P reads → AllByRecursion P (drop i reads)
all_drop P zero reads h = h
all_drop P (suc i) [] h = tt
all_drop P (suc i) (r ∷ reads) h = all_drop P i reads h.1

still_all : (at : ℕ) (calls : List PendingCall) (c : PendingCall) (reads : List PendingRead) → slice_get calls at ≡ Some c → AllByRecursion (λ r. c.number ≢ r.number) reads → AllByRecursion (IsOfPending calls) reads → AllByRecursion (IsOfPending (remove calls at)) reads
still_all at calls c [] there ne h = tt
still_all at calls c (r ∷ reads) there ne h = (still_there r.number at calls c there ne.0 h.0, still_all at calls c reads there ne.1 h.1)

own_number : (calls : List PendingCall) (at : ℕ) (c : PendingCall) (x n : ℕ) → slice_get calls at ≡ Some c → c.xid ≡ x → AllByRecursion (λ c. c.xid ≡ x → c.number ≡ n) calls → c.number ≡ n
own_number [] at c x n there own all = absurd cc
own_number (d ∷ calls) zero c x n there own all = (let same : d ≡ c = cc in ap (λ (y : PendingCall). y.number) (sym same) ∙ all.0 (ap (λ (y : PendingCall). y.xid) same ∙ own))
own_number (d ∷ calls) (suc at) c x n there own all = own_number calls at c x n there own all.1

pub answered_fits : (opened : LinkParameters) (link : ℕ) (run : List Mark) (v after : ResponderSide) (xid : ℕ) (reply : List ℕ) (sent : Sent) → ResponderRepresents opened link run v → end_of v ≡ None → slice_get v.ready 0 ≡ Some xid → LivesOn after → SinksFit v → Answers v after xid reply sent → SinksFit after
answered_fits opened link run v after xid reply sent stands live first on fit a = subst SinksFit (sym a.state) (live_fits w (subst LivesOn a.state on) live_now (receives_fit_on _ _ _ fit.receives (receives_same _ _ (ap (λ (l : LinkSide). l.state.receive_queue) link_is))) have (record { shares = f.shares; counts = f.counts; waiting = waiting }))
  where
    message : List ℕ
    message = message_for xid (present_word v) a.call.lists (answer_to v.link.state.agreed.down a.call a.stream reply)

    named : Option ℕ
    named = name_for v.link.state.agreed.invalidates a.call.lists (answer_to v.link.state.agreed.down a.call a.stream reply)

    w : ResponderSide
    w = answered_by a.at a.writes named message v

    link_is : after_calls v.link (answer_calls a.writes named message) ≡ record { awaited = v.link.awaited; rest = v.link.rest; state = with_answer v.link.state (writes_output a.writes) named message }
    link_is = answer_link v.link a.writes named message live

    f : SharesFit v
    f = fit.each live

    live_now : end_of w ≡ None
    live_now = ap (λ (l : LinkSide). l.state.ended) link_is ∙ live

    have : RegionsHave w.link.state.memory (sinks_total w.fetching.sinks)
    have = subst (λ (m : RegisteredMemory). RegionsHave m (sinks_total v.fetching.sinks)) (sym (ap (λ (l : LinkSide). l.state.memory) link_is)) fit.memory

    n : NextKept opened link run v xid
    n = next_kept opened link run v xid stands live first

    number : a.call.number ≡ n.call.number
    number = own_number n.server.calls a.at a.call n.call.xid n.call.number (ap (λ (cs : List PendingCall). slice_get cs a.at) (sym n.calls) ∙ a.place) (a.own ∙ n.own) n.ready.own

    read : is_read v.fetching.reads a.call.number ≡ true
    read = (λ i. is_read (n.reads i) (number i)) ∙ n.ready.read

    waiting : AllByRecursion (IsOfPending w.calls) (drop open_reads_max v.fetching.reads)
    waiting = still_all a.at v.calls a.call (drop open_reads_max v.fetching.reads) a.place (all_drop (λ r. a.call.number ≢ r.number) open_reads_max v.fetching.reads (others_read a.call.number v.fetching.reads read)) f.waiting

-- ---- A drain

pub drained_fits : (v after : ResponderSide) (n : ℕ) → after ≡ after_drain v n → SinksFit v → SinksFit after
drained_fits v after n is h = subst SinksFit (sym is) (record { receives = record { count = h.receives.count; len = h.receives.len }; memory = h.memory; most = h.most; count = h.count; each = λ live. (let f : SharesFit v = h.each live in record { shares = f.shares; counts = f.counts; waiting = f.waiting }) })

-- ---- As it is opened

opened_receives : (credits low : ℕ) (terms : SideTerms) → ReceivesFit credits (opened_side credits low terms).link.state.receive_queue
unfolding initial_link
opened_receives credits low terms = record { count = refl; len = own_limit terms }

pub opened_fits : (v : ResponderSide) (credits low : ℕ) (terms : SideTerms) → v ≡ opened_side credits low terms → SinksFit v
opened_fits v credits low terms is =
    subst SinksFit (sym is) (record {
      receives = opened_receives credits low terms;
      memory = opened_have (opened_side credits low terms).link credits terms refl;
      most = omega arith;
      count = omega arith;
      each = λ live. record { shares = λ n. omega arith; counts = λ n. omega arith; waiting = tt };
    })

-- ---- An answer stands on

some_moment : Moment
some_moment = record { seconds = 0; nanos = 0 }

pub answer_fits : {E : Type 0} (r : Result Sent E) (s t : ResponderState) (xid : ℕ) (reply : List ℕ) → end_of s.side ≡ None → slice_get s.side.ready 0 ≡ Some xid → IfOk r (λ (sent : Sent). Answers s.side t.side xid reply sent) → OnErr r (t ≡ s) →
    (opened : LinkParameters) (link : ℕ) (run : List Mark) → ResponderRepresents opened link run s.side → KeptFits s.side → KeptFits t.side × RepresentsSome t.side
answer_fits (Ok sent) s t xid reply live first a err opened link run stands fit =
    let x : IsExecuted opened link run xid a.stream = payload_is_lem opened link run s.side xid stands live first a.at a.call a.payload a.stream a.place a.own a.first a.conveyed in
    let more : List Mark = run ++ marks.Execute link xid some_moment a.stream 0 reply ∷ [] in
    let on : ResponderRepresents opened link more t.side = answered_stands opened link run s.side t.side xid some_moment a.stream 0 reply sent stands live x a in
    let sinks : SinksFit t.side = answered_fits opened link run s.side t.side xid reply sent stands live first (lives_on_lem opened link more t.side on) fit.sinks a in
    let output : OutputFits t.side = answered_out s.side t.side xid reply sent live (down_limit opened link run s.side stands live) fit.output sinks.each a in
    (record { sinks = sinks; output = output; reads = few_after s.side t.side (answered_reads s.side t.side xid reply sent live a) sinks output fit.reads }, (opened, (link, (more, on))))
answer_fits (Err e) s t xid reply live first a err opened link run stands fit =
    (subst (λ (x : ResponderState). KeptFits x.side) (sym err) fit, subst (λ (x : ResponderState). RepresentsSome x.side) (sym err) (opened, (link, (run, stands))))

-- ---- What is held

pub regions_most : (v : ResponderSide) → SinksFit v → bytes_held v.link.state.memory ≤ PAYLOAD_MAX * (length v.calls + open_reads_max)
unfolding bytes_held
regions_most v h = (let sum = h.memory.bytes_are in let most = h.most in omega (arith, sum, most))

-- All is within the bound: the receives are those of the credits, lent or kept.
pub held_bound : (v : ResponderState) (result : ℕ) → result ≡ bytes_held_by v → IsBounded v → ListsFit v.side → v.rooms ≤ payload_room * (2 * length v.side.calls) → receives_kept v.side.link.state.receive_queue + v.side.link.state.receive_queue.lent ≡ v.side.link.state.receive_queue.receives →
    length v.side.calls + unsent v.side.link.state ≤ v.side.link.state.receive_queue.lent → result ≤ held_unit * (v.side.credits.receives + 4)
held_bound v result is b lists rooms receives lent =
    let staging = b.1 in
    let output = b.0.output.most 0 in
    let hello = b.0.output.hello in
    let held = ap held_len b.0.output.held in
    let waiting = ends_left_fewer 0 v.side.link.state.send_queue.send_ends in
    let most = b.0.sinks.receives.len.1 in
    let n : ℕ = v.side.link.state.receive_queue.receive_length in
    let of_kept = mul-le n (receives_kept v.side.link.state.receive_queue) (send_unit * UNITS_MAX) (receives_kept v.side.link.state.receive_queue) most (omega arith) in
    let of_lent = mul-le n (length v.side.calls + unsent v.side.link.state) (send_unit * UNITS_MAX) (length v.side.calls + unsent v.side.link.state) most (omega arith) in
    let regions = regions_most v.side b.0.sinks in
    let count = b.0.sinks.receives.count in
    let ready = lists.ready in
    let sinks = lists.sinks in
    let reads = lists.reads in
    omega (arith, is, staging, of_kept, of_lent, regions, count, output, hello, held, waiting, rooms, receives, lent, ready, sinks, reads)
