-- Pending calls after a Send.
use Rattle.std.proofs.Common.{◌≡◌, ◌≢◌, ℕ, ◌+◌, ◌≤◌, ◌<◌, Bool, true, false, not, cond, ◌||◌, ◌&&◌, eqb, List, [], ◌∷◌, ◌++◌, Option, None, Some, Result, Ok, Err, refl, sym, ap, subst, ◌∙◌, arith, eq-eqb, append-nil}
use Rattle.std.specs.List.{list_any}
use Rattle.nr_header.specs.declared.header.ReadSegment.{ReadSegment}
use Rattle.nr_xdr.specs.Fields.{word_at}
use Rattle.nr_rpc.specs.declared.head.CallHead.{CallHead}
use Rattle.nr_rpc.specs.Reading.{call_of, head_xid}
use Rattle.nr_reduce.specs.Chunks.{total_at}
use Rattle.nr_reduce.specs.OfferedRegions.{Region}
use Rattle.nr_reduce.specs.ServerState.{ServerState, PendingCall, PendingRead, ReadyCall, is_pending}
use Rattle.nr_reduce.specs.ServerFrames.{FrameEffect, no_effect, message_effect, with_verdict}
use Rattle.nr_reduce.specs.ServerMessages.{Verdict, CallVerdict, verdict, by_payload, by_head, pending_payload}
use Rattle.nr_reduce.specs.ServerReads.{is_read, reads_of, reads_from, read_of, regions_of}
use Rattle.nr_reduce.specs.ServerMessages.Verdict.{EndsLink, OtherVersion, BadChunks, MakesPending}
use Rattle.nr_reduce.specs.ServerMessages.CallVerdict.{Refuses, IsReady}
use Rattle.nr_laws.proofs.LinkInvariants.{AreDistinct, IsUnused, AreAtMost, AreReady, AreWhole, PendingAgree}
use Rattle.nr_laws.proofs.Totals.{apart_push}
use Rattle.nr_laws.proofs.DistinctKeys.{any_left, any_right, below_more, below_append, below_absent, below_at, none_absent, AreOf, of_absent, of_below, of_append, any_others}
use Rattle.nr_laws.proofs.HeaderXid.{header_xid}
use Rattle.nr_laws.proofs.MadePending.{made_pending}

-- ---- The call that a message opens

pub record IsNew (k : ServerState) (c : PendingCall) (xid : ℕ) : Type 0 where
  pub number : c.number ≡ k.received.sends + 1
  pub own : c.xid ≡ xid

pub verdict_new : (k : ServerState) (message : List ℕ) (c : PendingCall) → verdict k message ≡ MakesPending c → IsNew k c (word_at 0 message) × (is_pending k (word_at 0 message) ≡ false)
verdict_new k message c e =
    let m = made_pending k message c e in (
      record { number = ap (λ (x : PendingCall). x.number) m.is; own = ap (λ (x : PendingCall). x.xid) m.is ∙ header_xid message m.header m.is_header },
      m.free,
    )

-- ---- What it makes ready is its own

head_own : (c : PendingCall) (payload : List ℕ) (r : Result CallHead ℕ) (x : ReadyCall) → by_head c payload r ≡ IsReady x → (x.number ≡ c.number) × (x.xid ≡ c.xid)
head_own c payload (Ok head) x e = by (eqb (head_xid head) c.xid) e
  where
    by : (b : Bool) → cond b (IsReady (record { number = c.number; xid = c.xid; payload = payload })) (Refuses 19) ≡ IsReady x → (x.number ≡ c.number) × (x.xid ≡ c.xid)
    by true e = (cc, cc)
    by false e = absurd cc
head_own c payload (Err at) x e = absurd cc

pub payload_own : (c : PendingCall) (payload : Option (List ℕ)) (x : ReadyCall) → by_payload c payload ≡ IsReady x → (x.number ≡ c.number) × (x.xid ≡ c.xid)
payload_own c None x e = absurd cc
payload_own c (Some payload) x e = head_own c payload (call_of payload) x e

-- ---- its reads are its own

pub readings_from_of : (regions : List Region) (number : ℕ) (before read : List ReadSegment) → AreOf (λ (r : PendingRead). r.number) number (reads_from regions number before read)
readings_from_of regions number before [] = tt
readings_from_of regions number before (r ∷ read) =
    of_append (λ (x : PendingRead). x.number) number _ _ (by (eqb r.length 0)) (readings_from_of regions number (before ++ r ∷ []) read)
  where
    by : (b : Bool) → AreOf (λ (x : PendingRead). x.number) number (cond b [] (read_of regions number (total_at r.position before) r ∷ []))
    by true = tt
    by false = (refl, tt)

-- ---- More reads, more that is ready

ready_more : (reads news : List PendingRead) (ready more : List ReadyCall) (calls : List PendingCall) (n m : ℕ) → n < m → AreOf (λ (r : PendingRead). r.number) m news → AreAtMost (λ (c : PendingCall). c.number) n calls
    → AreReady reads ready calls → AreReady (reads ++ news) (ready ++ more) calls
ready_more reads news ready more [] n m lt of below h = tt
ready_more reads news ready more (c ∷ calls) n m lt of below h =
    let ne : m ≢ c.number = λ e. omega (arith, e, lt, below.0) in
    let same : is_read (reads ++ news) c.number ≡ is_read reads c.number =
    ap (λ (b : Bool). not b) (any_others (λ (r : PendingRead). r.number) c.number reads news (of_absent (λ (r : PendingRead). r.number) m c.number news ne of)) in (
      (λ e. any_left (λ (r : ReadyCall). eqb r.number c.number) ready more (h.0 (sym same ∙ e))),
      ready_more reads news ready more calls n m lt of below.1 h.1,
    )

ready_append : (reads : List PendingRead) (ready : List ReadyCall) (calls more : List PendingCall) → AreReady reads ready calls → AreReady reads ready more → AreReady reads ready (calls ++ more)
ready_append reads ready [] more h k = k
ready_append reads ready (c ∷ calls) more h k = (h.0, ready_append reads ready calls more h.1 k)

whole_more : (reads news : List PendingRead) (calls more : List PendingCall) (ready : List ReadyCall) (n m : ℕ) → n < m → AreOf (λ (r : PendingRead). r.number) m news → AreAtMost (λ (c : PendingCall). c.number) n calls
    → AreWhole reads calls ready → AreWhole (reads ++ news) (calls ++ more) ready
whole_more reads news calls more [] n m lt of below h = tt
whole_more reads news calls more (r ∷ ready) n m lt of below h =
    let le : r.number ≤ n = below_at (λ (c : PendingCall). c.number) n r.number (λ (c : PendingCall). eqb c.xid r.xid) calls below h.0 in
    let ne : m ≢ r.number = λ e. omega (arith, e, lt, le) in
    let same : is_read (reads ++ news) r.number ≡ is_read reads r.number =
    ap (λ (b : Bool). not b) (any_others (λ (x : PendingRead). x.number) r.number reads news (of_absent (λ (x : PendingRead). x.number) m r.number news ne of)) in
    (any_left (λ (c : PendingCall). eqb c.number r.number && eqb c.xid r.xid) calls more h.0, same ∙ h.1, whole_more reads news calls more ready n m lt of below h.2)

pub whole_below : (reads : List PendingRead) (calls : List PendingCall) (ready : List ReadyCall) (n : ℕ) → AreAtMost (λ (c : PendingCall). c.number) n calls → AreWhole reads calls ready → AreAtMost (λ (r : ReadyCall). r.number) n ready
whole_below reads calls [] n below h = tt
whole_below reads calls (r ∷ ready) n below h =
    (below_at (λ (c : PendingCall). c.number) n r.number (λ (c : PendingCall). eqb c.xid r.xid) calls below h.0, whole_below reads calls ready n below h.2)

pub whole_append : (reads : List PendingRead) (calls : List PendingCall) (ready more : List ReadyCall) → AreWhole reads calls ready → AreWhole reads calls more → AreWhole reads calls (ready ++ more)
whole_append reads calls [] more h k = k
whole_append reads calls (r ∷ ready) more h k = (h.0, h.1, whole_append reads calls ready more h.2 k)

-- ---- A Send

-- what a state after a step is made of
pub record AfterEffect (k t : ServerState) (st : FrameEffect) (sends : ℕ) : Type 0 where
  pub sends_are : t.received.sends ≡ k.received.sends + sends
  pub calls : t.calls ≡ st.calls
  pub reads : t.reads ≡ st.reads
  pub ready : t.ready ≡ k.ready ++ st.ready

pub pending_agree_same : (k t : ServerState) → PendingAgree k → t.calls ≡ k.calls → t.reads ≡ k.reads → t.ready ≡ k.ready → k.received.sends ≤ t.received.sends → PendingAgree t
pending_agree_same k t w calls reads ready le = record {
  numbers = subst (λ (cs : List PendingCall). AreDistinct (λ (c : PendingCall). c.number) cs) (sym calls) w.numbers;
  xids = subst (λ (cs : List PendingCall). AreDistinct (λ (c : PendingCall). c.xid) cs) (sym calls) w.xids;
  calls_below = subst (λ (cs : List PendingCall). AreAtMost (λ (c : PendingCall). c.number) t.received.sends cs) (sym calls) (below_more (λ (c : PendingCall). c.number) k.received.sends t.received.sends k.calls le w.calls_below);
  reads_below = subst (λ (rs : List PendingRead). AreAtMost (λ (r : PendingRead). r.number) t.received.sends rs) (sym reads) (below_more (λ (r : PendingRead). r.number) k.received.sends t.received.sends k.reads le w.reads_below);
  ready_apart = subst (λ (rs : List ReadyCall). AreDistinct (λ (r : ReadyCall). r.number) rs) (sym ready) w.ready_apart;
  ready_calls = subst (λ (cs : List PendingCall). AreReady t.reads t.ready cs) (sym calls) (subst (λ (rs : List PendingRead). AreReady rs t.ready k.calls) (sym reads) (subst (λ (xs : List ReadyCall). AreReady k.reads xs k.calls) (sym ready) w.ready_calls));
  whole_calls = subst (λ (cs : List PendingCall). AreWhole t.reads cs t.ready) (sym calls) (subst (λ (rs : List PendingRead). AreWhole rs k.calls t.ready) (sym reads) (subst (λ (xs : List ReadyCall). AreWhole k.reads k.calls xs) (sym ready) w.whole_calls));
}

-- a new call, with what it makes ready
record Adds (reads : List PendingRead) (c : PendingCall) (new : List ReadyCall) : Type 0 where
  whole : is_read reads c.number ≡ true → (x : ReadyCall) × (new ≡ x ∷ []) × (x.number ≡ c.number) × (x.xid ≡ c.xid)
  partial : is_read reads c.number ≡ false → new ≡ []

pending_agree_opened : (k t : ServerState) (c : PendingCall) (news : List PendingRead) (new : List ReadyCall) → PendingAgree k → IsNew k c c.xid → is_pending k c.xid ≡ false → AreOf (λ (r : PendingRead). r.number) c.number news
    → t.calls ≡ k.calls ++ c ∷ [] → t.reads ≡ k.reads ++ news → t.ready ≡ k.ready ++ new → t.received.sends ≡ c.number
    → (b : Bool) → is_read (k.reads ++ news) c.number ≡ b → Adds (k.reads ++ news) c new → PendingAgree t
pending_agree_opened k t c news new w is free of calls reads ready sends b whole a =
    let n = k.received.sends in
    let lt : n < c.number = omega (arith, is.number) in
    let below = below_more (λ (x : PendingCall). x.number) n c.number k.calls (omega (arith, lt)) w.calls_below in
    let absent = below_absent (λ (x : PendingCall). x.number) n c.number k.calls lt w.calls_below in
    let ready_absent = below_absent (λ (x : ReadyCall). x.number) n c.number k.ready lt (whole_below k.reads k.calls k.ready n w.calls_below w.whole_calls) in
    let rest = ready_more k.reads news k.ready new k.calls n c.number lt of w.calls_below w.ready_calls in
    let wholes = whole_more k.reads news k.calls (c ∷ []) k.ready n c.number lt of w.calls_below w.whole_calls in
    let at : ServerState = record k { calls = k.calls ++ c ∷ []; reads = k.reads ++ news; ready = k.ready ++ new; received = record { sends = c.number; begun = t.received.begun; requests = t.received.requests } } in
    pending_agree_same at t
    (record {
      numbers = apart_push (λ (x : PendingCall). x.number) k.calls c w.numbers absent;
      xids = apart_push (λ (x : PendingCall). x.xid) k.calls c w.xids (none_absent (λ (x : PendingCall). x.xid) c.xid k.calls free);
      calls_below = below_append (λ (x : PendingCall). x.number) c.number k.calls (c ∷ []) below (omega arith, tt);
      reads_below = below_append (λ (x : PendingRead). x.number) c.number k.reads news (below_more (λ (x : PendingRead). x.number) n c.number k.reads (omega (arith, lt)) w.reads_below) (of_below (λ (x : PendingRead). x.number) c.number news of);
      ready_apart = apart_by b whole ready_absent;
      ready_calls = ready_append (k.reads ++ news) (k.ready ++ new) k.calls (c ∷ []) rest ((λ e. ready_by e), tt);
      whole_calls = whole_append (k.reads ++ news) (k.calls ++ c ∷ []) k.ready new wholes (whole_by b whole);
    })
    calls reads ready (omega (arith, sends))
  where
    apart_by : (b : Bool) → is_read (k.reads ++ news) c.number ≡ b → IsUnused (λ (x : ReadyCall). x.number) c.number k.ready → AreDistinct (λ (x : ReadyCall). x.number) (k.ready ++ new)
    apart_by true e absent =
        let x = a.whole e in
        subst (λ (xs : List ReadyCall). AreDistinct (λ (y : ReadyCall). y.number) (k.ready ++ xs)) (sym x.1)
        (apart_push (λ (y : ReadyCall). y.number) k.ready x.0 w.ready_apart (subst (λ (m : ℕ). IsUnused (λ (y : ReadyCall). y.number) m k.ready) (sym x.2) absent))
    apart_by false e absent = subst (λ (xs : List ReadyCall). AreDistinct (λ (y : ReadyCall). y.number) (k.ready ++ xs)) (sym (a.partial e)) (subst (λ (xs : List ReadyCall). AreDistinct (λ (y : ReadyCall). y.number) xs) (sym (append-nil k.ready)) w.ready_apart)

    ready_by : is_read (k.reads ++ news) c.number ≡ true → list_any (λ (r : ReadyCall). eqb r.number c.number) (k.ready ++ new) ≡ true
    ready_by e =
        let x = a.whole e in
        any_right (λ (r : ReadyCall). eqb r.number c.number) k.ready new
        (ap (λ (xs : List ReadyCall). list_any (λ (r : ReadyCall). eqb r.number c.number) xs) x.1 ∙ ap (λ (b : Bool). b || false) (eq-eqb x.0.number c.number x.2))

    whole_by : (b : Bool) → is_read (k.reads ++ news) c.number ≡ b → AreWhole (k.reads ++ news) (k.calls ++ c ∷ []) new
    whole_by true e =
        let x = a.whole e in
        subst (λ (xs : List ReadyCall). AreWhole (k.reads ++ news) (k.calls ++ c ∷ []) xs) (sym x.1) (
          any_right (λ (y : PendingCall). eqb y.number x.0.number && eqb y.xid x.0.xid) k.calls (c ∷ [])
              ((λ i. (eq-eqb c.number x.0.number (sym x.2) i && eq-eqb c.xid x.0.xid (sym x.3) i) || false)),
          ap (λ (m : ℕ). is_read (k.reads ++ news) m) x.2 ∙ e,
          tt,
        )
    whole_by false e = subst (λ (xs : List ReadyCall). AreWhole (k.reads ++ news) (k.calls ++ c ∷ []) xs) (sym (a.partial e)) tt

-- the step of a message
opens_adds : (k : ServerState) (place : ℕ) (c : PendingCall) (o : CallVerdict) (st : FrameEffect) (b : Bool) → is_read st.reads c.number ≡ b → st.ready ≡ [] → by_payload c (pending_payload k place c) ≡ o
    → (cond b (with_verdict o st) st).refusal ≡ None → Adds st.reads c (cond b (with_verdict o st) st).ready
opens_adds k place c (Refuses reason) st true e none is goes_on = absurd cc
opens_adds k place c (IsReady x) st true e none is goes_on = record {
  whole = λ f. (x, refl, (payload_own c (pending_payload k place c) x is).0, (payload_own c (pending_payload k place c) x is).1);
  partial = λ f. absurd (differ (sym e ∙ f));
}
  where
    differ : true ≡ false → ⊥
    differ e = absurd cc
opens_adds k place c o st false e none is goes_on = record {
  whole = λ f. absurd (differ (sym f ∙ e));
  partial = λ f. none;
}
  where
    differ : true ≡ false → ⊥
    differ e = absurd cc

kept_by_lem : (o : CallVerdict) (st : FrameEffect) (b : Bool) → ((cond b (with_verdict o st) st).calls ≡ st.calls) × ((cond b (with_verdict o st) st).reads ≡ st.reads)
kept_by_lem (Refuses reason) st true = (refl, refl)
kept_by_lem (IsReady x) st true = (refl, refl)
kept_by_lem o st false = (refl, refl)

pub pending_agree_message : (k t : ServerState) (place : ℕ) (message : List ℕ) (v : Verdict) → verdict k message ≡ v → PendingAgree k → AfterEffect k t (message_effect k place message v) 1 → (message_effect k place message v).refusal ≡ None → PendingAgree t
pending_agree_message k t place message (EndsLink reason) is w b goes_on = absurd cc
pending_agree_message k t place message OtherVersion is w b goes_on = pending_agree_same k t w b.calls b.reads (b.ready ∙ append-nil k.ready) (omega (arith, b.sends_are))
pending_agree_message k t place message BadChunks is w b goes_on = pending_agree_same k t w b.calls b.reads (b.ready ∙ append-nil k.ready) (omega (arith, b.sends_are))
pending_agree_message k t place message (MakesPending c) is w b goes_on =
    let new = verdict_new k message c is in
    let regions = k.regions ++ regions_of k place c in
    let news = reads_of regions c in
    let st : FrameEffect = record (no_effect k) { calls = k.calls ++ c ∷ []; reads = k.reads ++ news; regions = regions } in
    let o = by_payload c (pending_payload k place c) in
    let whole = is_read st.reads c.number in
    let same = kept_by_lem o st whole in
    pending_agree_opened k t c news (cond whole (with_verdict o st) st).ready w
    (record { number = new.0.number; own = refl })
    (ap (λ (x : ℕ). is_pending k x) new.0.own ∙ new.1)
    (readings_from_of regions c.number [] c.lists.read)
    (b.calls ∙ same.0) (b.reads ∙ same.1) b.ready (omega (arith, b.sends_are, new.0.number))
    whole refl (opens_adds k place c o st whole refl refl refl goes_on)
