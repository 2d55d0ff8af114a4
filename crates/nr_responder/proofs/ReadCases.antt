-- What a read that is done makes of the server of a run, case by case: its call is gone, waits for more, is ready, or ends the link.
use Rattle.std.proofs.Common.{◌≡◌, ℕ, ◌-◌, ◌≤◌, Bool, true, false, not, ◌&&◌, ◌||◌, eqb, cond, List, [], ◌∷◌, ◌++◌, length, Option, Some, None, Result, Ok, refl, sym, ap, subst, ◌∙◌, append-nil}
use Rattle.std.specs.Prelude.{find}
use Rattle.std.specs.List.{AllByRecursion, list_any}
use Rattle.std.proofs.lemmas.Bool.{eqb-true, eq-eqb}
use Rattle.nr_wire.specs.Constants.{OPCODE_READ_RESPONSE}
use Rattle.nr_wire.specs.Segment.{Segment}
use Rattle.nr_wire.specs.Segment.Segment.{Tagged}
use Rattle.nr_regions.specs.Access.{TaggedSegment}
use Rattle.nr_link.specs.Frames.{Frame}
use Rattle.nr_link.specs.Ending.{frame_segment}
use Rattle.nr_reduce.specs.Chunks.{is_read_chunk_of_item}
use Rattle.nr_reduce.specs.OfferedRegions.{Region}
use Rattle.nr_reduce.specs.ServerState.{PendingCall, PendingRead, ReadyCall, ServerState, credit_word, receives_in_use}
use Rattle.nr_reduce.specs.ServerReads.{is_over, is_read, is_read_at, open_reads}
use Rattle.nr_reduce.specs.ServerMessages.{CallVerdict, chunk_bytes, pending_payload, by_payload}
use Rattle.nr_reduce.specs.ServerMessages.CallVerdict.{Refuses, IsReady}
use Rattle.nr_reduce.specs.ServerFrames.{FrameEffect, with_verdict, ready_if_whole, with_refused_call, is_stream_read, read_effect, call_of_number, response_effect, effect_in, frame_effect}
use Rattle.nr_responder.specs.Keeping.{OwnXids, OwnReady, IsReadyOf, IsServer}
use Rattle.nr_responder.proofs.SendFrames.{no_call_lem, ready_pushed, ready_last}
use Rattle.nr_responder.proofs.LastResponses.{last_access, done_effect, EffectHolds}

-- with the access of the response's segment
abbrev pub heard : ServerState → TaggedSegment → ServerState
heard k a = record k { accesses_received = k.accesses_received ++ a ∷ [] }

-- it changes nothing in the credit word
pub heard_word : (k : ServerState) (a : TaggedSegment) → credit_word (heard k a) ≡ credit_word k
unfolding credit_word receives_in_use
heard_word k a = refl

-- the effect before the call is looked at
abbrev pub read_off : ServerState → List PendingRead → FrameEffect
read_off k rest = done_effect k k.calls rest [] (length (open_reads k) - 1)

pub last_effect : (k : ServerState) (f : Frame) (stag to : ℕ) (payload : List ℕ) (r : PendingRead) (rest : List PendingRead) → frame_segment f ≡ Ok (Tagged true OPCODE_READ_RESPONSE stag to payload) → k.reads ≡ r ∷ rest →
    frame_effect k f ≡ read_effect (heard k (last_access f stag to payload)) f.end r (call_of_number k r.number) (read_off k rest)
unfolding frame_effect
last_effect k f stag to payload r rest is reads =
    ap (λ (s : Result Segment ℕ). effect_in k f s) is ∙ ap (λ (rs : List PendingRead). response_effect (heard k (last_access f stag to payload)) f.end rs) reads

-- whether the stream of a call is there by this read, and its read chunk isn't the item's
abbrev pub is_bad_stream : ServerState → ℕ → PendingCall → PendingRead → List PendingRead → Bool
is_bad_stream k place c r rest = is_stream_read c r rest && not (is_read_chunk_of_item (chunk_bytes k place c 0) c.lists.read)

pub call_gone : (k h : ServerState) (place : ℕ) (r : PendingRead) (rest : List PendingRead) → call_of_number k r.number ≡ None → read_effect h place r (call_of_number k r.number) (read_off k rest) ≡ read_off k rest
call_gone k h place r rest none = ap (λ (o : Option PendingCall). read_effect h place r o (read_off k rest)) none

fine_by : (k h : ServerState) (place : ℕ) (r : PendingRead) (rest : List PendingRead) (c : PendingCall) → call_of_number k r.number ≡ Some c → is_bad_stream h place c r rest ≡ false →
    read_effect h place r (call_of_number k r.number) (read_off k rest) ≡ ready_if_whole h place c (read_off k rest)
fine_by k h place r rest c found fine =
    ap (λ (o : Option PendingCall). read_effect h place r o (read_off k rest)) found
    ∙ ap (λ (b : Bool). cond b (with_refused_call h c (read_off k rest)) (ready_if_whole h place c (read_off k rest))) fine

pub call_waits : (k h : ServerState) (place : ℕ) (r : PendingRead) (rest : List PendingRead) (c : PendingCall) → call_of_number k r.number ≡ Some c → is_bad_stream h place c r rest ≡ false → is_read rest c.number ≡ false →
    read_effect h place r (call_of_number k r.number) (read_off k rest) ≡ read_off k rest
call_waits k h place r rest c found fine more =
    fine_by k h place r rest c found fine
    ∙ ap (λ (b : Bool). cond b (with_verdict (by_payload c (pending_payload h place c)) (read_off k rest)) (read_off k rest)) more

judged_by : (k h : ServerState) (place : ℕ) (r : PendingRead) (rest : List PendingRead) (c : PendingCall) (v : CallVerdict) → call_of_number k r.number ≡ Some c → is_bad_stream h place c r rest ≡ false → is_read rest c.number ≡ true →
    by_payload c (pending_payload h place c) ≡ v → read_effect h place r (call_of_number k r.number) (read_off k rest) ≡ with_verdict v (read_off k rest)
judged_by k h place r rest c v found fine read is =
    fine_by k h place r rest c found fine
    ∙ ap (λ (b : Bool). cond b (with_verdict (by_payload c (pending_payload h place c)) (read_off k rest)) (read_off k rest)) read
    ∙ ap (λ (w : CallVerdict). with_verdict w (read_off k rest)) is

pub call_ready : (k h : ServerState) (place : ℕ) (r : PendingRead) (rest : List PendingRead) (c : PendingCall) (q : ReadyCall) → call_of_number k r.number ≡ Some c → is_bad_stream h place c r rest ≡ false → is_read rest c.number ≡ true →
    by_payload c (pending_payload h place c) ≡ IsReady q → read_effect h place r (call_of_number k r.number) (read_off k rest) ≡ done_effect k k.calls rest (q ∷ []) (length (open_reads k) - 1)
call_ready k h place r rest c q found fine read is = judged_by k h place r rest c (IsReady q) found fine read is

pub call_stops : (k h : ServerState) (place : ℕ) (r : PendingRead) (rest : List PendingRead) (c : PendingCall) (reason : ℕ) → call_of_number k r.number ≡ Some c → is_bad_stream h place c r rest ≡ false → is_read rest c.number ≡ true →
    by_payload c (pending_payload h place c) ≡ Refuses reason → (read_effect h place r (call_of_number k r.number) (read_off k rest)).refusal ≡ Some reason
call_stops k h place r rest c reason found fine read is = ap (λ (s : FrameEffect). s.refusal) (judged_by k h place r rest c (Refuses reason) found fine read is)

pub call_refused : (k h : ServerState) (place : ℕ) (r : PendingRead) (rest : List PendingRead) (c : PendingCall) → call_of_number k r.number ≡ Some c → is_bad_stream h place c r rest ≡ true →
    read_effect h place r (call_of_number k r.number) (read_off k rest) ≡ with_refused_call h c (read_off k rest)
call_refused k h place r rest c found bad =
    ap (λ (o : Option PendingCall). read_effect h place r o (read_off k rest)) found
    ∙ ap (λ (b : Bool). cond b (with_refused_call h c (read_off k rest)) (ready_if_whole h place c (read_off k rest))) bad

-- ---- With one read less

fewer_by : (a b : Bool) → not (a || b) ≡ true → not b ≡ true
fewer_by true b e = absurd cc
fewer_by false b e = e

pub fewer_over : (calls : List PendingCall) (r : PendingRead) (rest : List PendingRead) (g : Region) → is_over calls (r ∷ rest) g ≡ true → is_over calls rest g ≡ true
fewer_over calls r rest g over = by (list_any (λ c. eqb c.number g.call) calls) over
  where
    by : (b : Bool) → cond b (is_read (r ∷ rest) g.call) (is_read_at (r ∷ rest) g.call g.position) ≡ true → cond b (is_read rest g.call) (is_read_at rest g.call g.position) ≡ true
    by true e = fewer_by (eqb r.number g.call) (list_any (λ x. eqb x.number g.call) rest) e
    by false e = fewer_by (eqb r.number g.call && eqb r.position g.position) (list_any (λ x. eqb x.number g.call && eqb x.position g.position) rest) e

still_ready_of : (calls : List PendingCall) (r : PendingRead) (rest : List PendingRead) (ready : List ReadyCall) → AllByRecursion (IsReadyOf calls (r ∷ rest)) ready → AllByRecursion (IsReadyOf calls rest) ready
still_ready_of calls r rest [] h = tt
still_ready_of calls r rest (q ∷ ready) h = (
  record { pending = h.0.pending; own = h.0.own; read = fewer_by (eqb r.number q.number) (list_any (λ x. eqb x.number q.number) rest) h.0.read },
  still_ready_of calls r rest ready h.1,
)

-- nothing becomes ready
pub waits_hold : (k : ServerState) (place : ℕ) (r : PendingRead) (rest : List PendingRead) → k.reads ≡ r ∷ rest → IsServer k place → EffectHolds k k.calls rest []
waits_hold k place r rest reads is = record {
  calls_before = is.calls_before;
  reads_before = (subst (λ (rs : List PendingRead). AllByRecursion (λ x. x.number ≤ k.received.sends) rs) reads is.reads_before).1;
  over = λ g over. fewer_over k.calls r rest g (sym (ap (λ (rs : List PendingRead). is_over k.calls rs g) reads) ∙ over);
  numbers = is.numbers;
  xids = is.xids;
  ready_xids = subst OwnReady (sym (append-nil k.ready)) is.ready_xids;
  ready_of = subst (λ (ready : List ReadyCall). AllByRecursion (IsReadyOf k.calls rest) ready) (sym (append-nil k.ready))
      (still_ready_of k.calls r rest k.ready (subst (λ (rs : List PendingRead). AllByRecursion (IsReadyOf k.calls rs) k.ready) reads is.ready));
}

-- ---- A call that is found by its number

pub found_number : (n : ℕ) (calls : List PendingCall) (c : PendingCall) → find (λ d. eqb d.number n) calls ≡ Some c → c.number ≡ n
found_number n [] c is = absurd cc
found_number n (x ∷ calls) c is = by (λ (e : find (λ d. eqb d.number n) calls ≡ Some c). found_number n calls c e) (eqb x.number n) refl is
  where
    by : (find (λ d. eqb d.number n) calls ≡ Some c → c.number ≡ n) → (b : Bool) → eqb x.number n ≡ b → cond b (Some x) (find (λ d. eqb d.number n) calls) ≡ Some c → c.number ≡ n
    by rest true same e = ap (λ (d : PendingCall). d.number) (let own : c ≡ x = (let two : x ≡ c = cc in sym two) in own) ∙ eqb-true x.number n same
    by rest false other e = rest e

found_xid : (n : ℕ) (calls : List PendingCall) (c : PendingCall) → find (λ d. eqb d.number n) calls ≡ Some c → list_any (λ d. eqb d.xid c.xid) calls ≡ true
found_xid n [] c is = absurd cc
found_xid n (x ∷ calls) c is = by (λ (e : find (λ d. eqb d.number n) calls ≡ Some c). found_xid n calls c e) (eqb x.number n) is
  where
    or_true : (b : Bool) → (b || true) ≡ true
    or_true true = refl
    or_true false = refl

    by : (find (λ d. eqb d.number n) calls ≡ Some c → list_any (λ d. eqb d.xid c.xid) calls ≡ true) → (b : Bool) → cond b (Some x) (find (λ d. eqb d.number n) calls) ≡ Some c → (eqb x.xid c.xid || list_any (λ d. eqb d.xid c.xid) calls) ≡ true
    by rest true e = ap (λ (b : Bool). b || list_any (λ d. eqb d.xid c.xid) calls) (eq-eqb x.xid c.xid (ap (λ (d : PendingCall). d.xid) (let same : x ≡ c = cc in same)))
    by rest false e = ap (λ (b : Bool). eqb x.xid c.xid || b) (rest e) ∙ or_true (eqb x.xid c.xid)

found_own : (n : ℕ) (calls : List PendingCall) (c : PendingCall) → OwnXids calls → find (λ d. eqb d.number n) calls ≡ Some c → AllByRecursion (λ d. d.xid ≡ c.xid → d.number ≡ c.number) calls
found_own n [] c own is = tt
found_own n (x ∷ calls) c own is = by (λ (e : find (λ d. eqb d.number n) calls ≡ Some c). found_own n calls c own.1 e) (eqb x.number n) is
  where
    by : (find (λ d. eqb d.number n) calls ≡ Some c → AllByRecursion (λ d. d.xid ≡ c.xid → d.number ≡ c.number) calls) → (b : Bool) → cond b (Some x) (find (λ d. eqb d.number n) calls) ≡ Some c →
        AllByRecursion (λ d. d.xid ≡ c.xid → d.number ≡ c.number) (x ∷ calls)
    by rest true e =
        let same : x ≡ c = cc in
        ((λ _. ap (λ (d : PendingCall). d.number) same), no_call_lem c.xid c.number calls (ap (λ (y : ℕ). list_any (λ d. eqb d.xid y) calls) (sym (ap (λ (d : PendingCall). d.xid) same)) ∙ own.0))
    by rest false e = (
      (λ xid. absurd (let two : true ≡ false = sym (found_xid n calls c e) ∙ (ap (λ (y : ℕ). list_any (λ d. eqb d.xid y) calls) (sym xid) ∙ own.0) in cc)),
      rest e,
    )

at_number : (P : PendingCall → Type 0) (n : ℕ) (calls : List PendingCall) (c : PendingCall) → AllByRecursion P calls → find (λ d. eqb d.number n) calls ≡ Some c → P c
at_number P n [] c h is = absurd cc
at_number P n (x ∷ calls) c h is = by (λ (e : find (λ d. eqb d.number n) calls ≡ Some c). at_number P n calls c h.1 e) (eqb x.number n) is
  where
    by : (find (λ d. eqb d.number n) calls ≡ Some c → P c) → (b : Bool) → cond b (Some x) (find (λ d. eqb d.number n) calls) ≡ Some c → P c
    by rest true e = subst P (let same : x ≡ c = cc in same) h.0
    by rest false e = rest e

-- a call for which something is read isn't ready
not_ready_yet : (calls : List PendingCall) (r : PendingRead) (rest : List PendingRead) (c : PendingCall) (ready : List ReadyCall) → find (λ d. eqb d.number r.number) calls ≡ Some c → AllByRecursion (IsReadyOf calls (r ∷ rest)) ready →
    list_any (λ q. eqb q.xid c.xid) ready ≡ false
not_ready_yet calls r rest c [] found h = refl
not_ready_yet calls r rest c (q ∷ ready) found h = by (not_ready_yet calls r rest c ready found h.1) (eqb q.xid c.xid) refl
  where
    read_now : (b : Bool) → b ≡ true → not (b || list_any (λ x. eqb x.number q.number) rest) ≡ true → ⊥
    read_now true is e = absurd cc
    read_now false is e = absurd cc

    by : list_any (λ p. eqb p.xid c.xid) ready ≡ false → (b : Bool) → eqb q.xid c.xid ≡ b → (eqb q.xid c.xid || list_any (λ p. eqb p.xid c.xid) ready) ≡ false
    by others true is =
        let same : c.xid ≡ q.xid = sym (eqb-true q.xid c.xid is) in
        let number : c.number ≡ q.number = at_number (λ d. d.xid ≡ q.xid → d.number ≡ q.number) r.number calls c h.0.own found same in
        absurd (read_now (eqb r.number q.number) (eq-eqb r.number q.number (sym (found_number r.number calls c found) ∙ number)) h.0.read)
    by others false is = ap (λ (b : Bool). b || list_any (λ p. eqb p.xid c.xid) ready) is ∙ others

-- the call becomes ready
pub ready_holds : (k : ServerState) (place : ℕ) (r : PendingRead) (rest : List PendingRead) (c : PendingCall) (q : ReadyCall) → k.reads ≡ r ∷ rest → call_of_number k r.number ≡ Some c → is_read rest c.number ≡ true → q.number ≡ c.number → q.xid ≡ c.xid →
    IsServer k place → EffectHolds k k.calls rest (q ∷ [])
ready_holds k place r rest c q reads found read number xid is =
    let w : EffectHolds k k.calls rest [] = waits_hold k place r rest reads is in
    let ready : AllByRecursion (IsReadyOf k.calls (r ∷ rest)) k.ready = subst (λ (rs : List PendingRead). AllByRecursion (IsReadyOf k.calls rs) k.ready) reads is.ready in
    record {
      calls_before = w.calls_before;
      reads_before = w.reads_before;
      over = w.over;
      numbers = w.numbers;
      xids = w.xids;
      ready_xids = ready_pushed k.ready q (ap (λ (y : ℕ). list_any (λ p. eqb p.xid y) k.ready) xid ∙ not_ready_yet k.calls r rest c k.ready found ready) is.ready_xids;
      ready_of = ready_last (IsReadyOf k.calls rest) k.ready q
          (record {
            pending = ap (λ (y : ℕ). list_any (λ d. eqb d.xid y) k.calls) xid ∙ found_xid r.number k.calls c found;
            own = subst (λ (y : ℕ). AllByRecursion (λ d. d.xid ≡ y → d.number ≡ q.number) k.calls) (sym xid) (subst (λ (n : ℕ). AllByRecursion (λ d. d.xid ≡ c.xid → d.number ≡ n) k.calls) (sym number) (found_own r.number k.calls c is.xids found));
            read = ap (λ (n : ℕ). is_read rest n) number ∙ read;
          })
          (still_ready_of k.calls r rest k.ready ready);
    }
