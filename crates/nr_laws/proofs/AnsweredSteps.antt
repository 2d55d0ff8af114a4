-- At each moment every call of a matched link is outstanding or has its message, and no call has two; so a message that is received
-- answers a call that is outstanding and whose Send has left.
use Rattle.std.proofs.Common.{◌≡◌, ◌≢◌, ℕ, ◌+◌, ◌≤◌, ◌<◌, Bool, true, false, cond, not, ◌&&◌, eqb, List, [], ◌∷◌, ◌++◌, map, filter, Some, refl, sym, ap, subst, ◌∙◌, arith, ◌⊎◌, inl, inr}
use Rattle.std.specs.List.{AllByRecursion, find}
use Rattle.std.proofs.lemmas.Bool.{lt-ltb, eqb-true, ne_eqb, eq-eqb, cases_lt}
use Rattle.std.proofs.lemmas.List.{map-append}
use Rattle.nr_xdr.specs.Fields.{word_at}
use Rattle.nr_reduce.specs.Limits.{numbers_end}
use Rattle.nr_reduce.specs.Plans.{one_if}
use Rattle.nr_reduce.specs.Written.{ends_written}
use Rattle.nr_reduce.specs.ClientState.{ClientState, OutstandingCall, is_sent}
use Rattle.nr_reduce.specs.ClientMessages.{answered_call}
use Rattle.nr_reduce.specs.ServerState.{ServerState, PendingCall}
use Rattle.nr_reduce.specs.declared.mark.LinkParameters.{LinkParameters}
use Rattle.nr_reduce.specs.StandingLaws.{xid_of_send}
use Rattle.nr_reduce.proofs.XidsFollow.{Follows, AllFollow}
use Rattle.nr_laws.proofs.CallNumbers.{Rise}
use Rattle.nr_laws.proofs.Basics.{each_all}
use Rattle.nr_laws.proofs.FrameContents.{FrameContent, SentMessage}
use Rattle.nr_laws.proofs.FrameContents.FrameContent.{SendFrame}
use Rattle.nr_laws.proofs.LinkInvariants.{Transit}
use Rattle.nr_laws.proofs.AnsweredCalls.{message_xids, times, call_xids, outstanding_xids, xids_append, times_append}

-- how often an xid is that of a message of the server or of a pending call
abbrev pub given_to : ℕ → List FrameContent → List PendingCall → ℕ
given_to x all_down calls = times x (message_xids all_down) + times x (call_xids calls)

-- The xids rise. Each xid that has a message, or is pending, is that of a Send which was received; each Send has its call outstanding, or its
-- message; and all are words.
pub record Answered (xid : ℕ → ℕ) (k : ClientState) (s : ServerState) (u d all_down : List FrameContent) (w : Transit) : Type 0 where
  pub rise : Rise xid
  pub once : (x : ℕ) → given_to x all_down s.calls ≤ 1
  pub given : (x : ℕ) → 1 ≤ given_to x all_down s.calls → (n : ℕ) × (n < s.received.sends) × (x ≡ xid n)
  pub open_calls : (n : ℕ) → n < k.sends → 1 ≤ times (xid n) (outstanding_xids k.outstanding) + times (xid n) (message_xids d)
  pub room : (n : ℕ) → n < k.sends → xid n < numbers_end

said_more_lem : (x : ℕ) (all_down said : List FrameContent) → times x (message_xids (all_down ++ said)) ≡ times x (message_xids all_down) + times x (message_xids said)
said_more_lem x all_down said = ap (λ (xs : List ℕ). times x xs) (xids_append all_down said) ∙ times_append x (message_xids all_down) (message_xids said)

-- ---- A frame at the server

abbrev FrameAt : (xid : ℕ → ℕ) → ClientState → ServerState → ServerState → (u d all_down : List FrameContent) → Transit → FrameContent → (rest said : List FrameContent) → Type 0
FrameAt xid k s t u d all_down w p rest said = Answered xid k t (u ++ p ∷ []) d (all_down ++ said) (record { queued_up = w.queued_up; up = rest; queued_down = w.queued_down ++ said; down = w.down })

cases_eq : (x y : ℕ) → (x ≡ y) ⊎ (x ≢ y)
cases_eq x y = by (eqb x y) refl
  where
    by : (b : Bool) → eqb x y ≡ b → (x ≡ y) ⊎ (x ≢ y)
    by true e = inl (eqb-true x y e)
    by false e = inr (λ same. absurd (let wrong : true ≡ false = sym (eq-eqb x y same) ∙ e in cc))

one_most : (b : Bool) → one_if b ≤ 1
one_most true = omega arith
one_most false = omega arith

-- the next Send has no message, and is not pending
next_not_given : (xid : ℕ → ℕ) (sends g : ℕ) → Rise xid → (1 ≤ g → (n : ℕ) × (n < sends) × (xid sends ≡ xid n)) → g ≤ 0
next_not_given xid sends g rise given = by (cases_lt 0 g)
  where
    by : (0 < g) ⊎ (g ≤ 0) → g ≤ 0
    by (inl some) =
        let m = given (omega (arith, some)) in
        let less : xid m.0 < xid sends = rise m.0 sends m.1 in
        let same : xid sends ≡ xid m.0 = m.2 in
        absurd (omega (arith, less, same))
    by (inr none) = none

pub answered_send : (xid : ℕ → ℕ) (k : ClientState) (s t : ServerState) (u d all_down : List FrameContent) (w : Transit) (p : FrameContent) (rest said : List FrameContent) → t.received.sends ≡ s.received.sends + 1
    → ((x : ℕ) → times x (message_xids said) + times x (call_xids t.calls) ≤ one_if (eqb (xid s.received.sends) x) + times x (call_xids s.calls))
    → Answered xid k s u d all_down w → FrameAt xid k s t u d all_down w p rest said
answered_send xid k s t u d all_down w p rest said sends new h = record {
  rise = h.rise;
  once = λ x. once x (cases_eq x (xid s.received.sends));
  given = λ x some. given x some (cases_eq x (xid s.received.sends));
  open_calls = h.open_calls;
  room = h.room;
}
  where
    once : (x : ℕ) → (x ≡ xid s.received.sends) ⊎ (x ≢ xid s.received.sends) → given_to x (all_down ++ said) t.calls ≤ 1
    once x (inl e) =
        let none : given_to x all_down s.calls ≤ 0 = next_not_given xid s.received.sends (given_to x all_down s.calls) h.rise (λ some. (let m = h.given x some in (m.0, m.1, sym e ∙ m.2))) in
        omega (arith, said_more_lem x all_down said, new x, none, one_most (eqb (xid s.received.sends) x))
    once x (inr ne) = omega (arith, said_more_lem x all_down said, new x, h.once x, ap one_if (ne_eqb (xid s.received.sends) x (λ e. ne (sym e))))

    given : (x : ℕ) → 1 ≤ given_to x (all_down ++ said) t.calls → (x ≡ xid s.received.sends) ⊎ (x ≢ xid s.received.sends) → (n : ℕ) × (n < t.received.sends) × (x ≡ xid n)
    given x some (inl e) = (s.received.sends, omega (arith, sends), e)
    given x some (inr ne) =
        let m = h.given x (omega (arith, some, said_more_lem x all_down said, new x, ap one_if (ne_eqb (xid s.received.sends) x (λ e. ne (sym e))))) in
        (m.0, (let lt = m.1 in omega (arith, lt, sends)), m.2)

-- nothing is given to more calls
given_more : (xid : ℕ → ℕ) (s t : ServerState) (all_down said : List FrameContent) (x : ℕ) → t.received.sends ≡ s.received.sends → times x (message_xids said) + times x (call_xids t.calls) ≤ times x (call_xids s.calls)
    → (1 ≤ given_to x all_down s.calls → (n : ℕ) × (n < s.received.sends) × (x ≡ xid n)) → 1 ≤ given_to x (all_down ++ said) t.calls → (n : ℕ) × (n < t.received.sends) × (x ≡ xid n)
given_more xid s t all_down said x sends new given some =
    let m = given (omega (arith, some, said_more_lem x all_down said, new)) in
    (m.0, (let lt = m.1 in omega (arith, lt, sends)), m.2)

pub answered_other : (xid : ℕ → ℕ) (k : ClientState) (s t : ServerState) (u d all_down : List FrameContent) (w : Transit) (p : FrameContent) (rest said : List FrameContent) → t.received.sends ≡ s.received.sends
    → ((x : ℕ) → times x (message_xids said) + times x (call_xids t.calls) ≤ times x (call_xids s.calls))
    → Answered xid k s u d all_down w → FrameAt xid k s t u d all_down w p rest said
answered_other xid k s t u d all_down w p rest said sends new h = record {
  rise = h.rise;
  once = λ x. omega (arith, said_more_lem x all_down said, new x, h.once x);
  given = λ x some. given_more xid s t all_down said x sends (new x) (h.given x) some;
  open_calls = h.open_calls;
  room = h.room;
}

-- a call is executed, or the server's queue is written
pub answered_server : (xid : ℕ → ℕ) (k : ClientState) (s t : ServerState) (u d all_down : List FrameContent) (w v : Transit) (said : List FrameContent) → t.received.sends ≡ s.received.sends
    → ((x : ℕ) → times x (message_xids said) + times x (call_xids t.calls) ≤ times x (call_xids s.calls)) → Answered xid k s u d all_down w → Answered xid k t u d (all_down ++ said) v
answered_server xid k s t u d all_down w v said sends new h = record {
  rise = h.rise;
  once = λ x. omega (arith, said_more_lem x all_down said, new x, h.once x);
  given = λ x some. given_more xid s t all_down said x sends (new x) (h.given x) some;
  open_calls = h.open_calls;
  room = h.room;
}

-- ---- A frame at the client

-- the calls of other xids stay
others_times : (x xid : ℕ) (os : List OutstandingCall) → eqb x xid ≡ false → times x (outstanding_xids (filter (λ (o : OutstandingCall). not (eqb o.xid xid)) os)) ≡ times x (outstanding_xids os)
others_times x xid [] ne = refl
others_times x xid (o ∷ os) ne = by (eqb o.xid xid) refl (others_times x xid os ne)
  where
    rest : List OutstandingCall
    rest = filter (λ (y : OutstandingCall). not (eqb y.xid xid)) os

    by : (b : Bool) → eqb o.xid xid ≡ b → times x (outstanding_xids rest) ≡ times x (outstanding_xids os) → times x (outstanding_xids (cond (not b) (o ∷ rest) rest)) ≡ times x (outstanding_xids (o ∷ os))
    by true is same =
        let other : eqb o.xid x ≡ false = ne_eqb o.xid x (λ e. absurd (let wrong : true ≡ false = sym (eq-eqb x xid (sym e ∙ eqb-true o.xid xid is)) ∙ ne in cc)) in
        omega (arith, same, ap one_if other)
    by false is same = omega (arith, same)

pub answered_message_lem : (xid : ℕ → ℕ) (k t : ClientState) (s : ServerState) (u d all_down : List FrameContent) (w v : Transit) (message : SentMessage) → t.outstanding ≡ filter (λ (o : OutstandingCall). not (eqb o.xid (word_at 0 message.bytes))) k.outstanding → t.sends ≡ k.sends
    → Answered xid k s u d all_down w → Answered xid t s u (d ++ SendFrame message ∷ []) all_down v
answered_message_lem xid k t s u d all_down w v message left accepted h = record {
  rise = h.rise;
  once = h.once;
  given = h.given;
  open_calls = λ n lt. open_call (xid n) (h.open_calls n (omega (arith, lt, accepted))) (eqb (word_at 0 message.bytes) (xid n)) refl;
  room = λ n lt. h.room n (omega (arith, lt, accepted));
}
  where
    more : (x : ℕ) → times x (message_xids (d ++ SendFrame message ∷ [])) ≡ times x (message_xids d) + (one_if (eqb (word_at 0 message.bytes) x) + 0)
    more x = said_more_lem x d (SendFrame message ∷ [])

    open_call : (x : ℕ) → 1 ≤ times x (outstanding_xids k.outstanding) + times x (message_xids d) → (b : Bool) → eqb (word_at 0 message.bytes) x ≡ b → 1 ≤ times x (outstanding_xids t.outstanding) + times x (message_xids (d ++ SendFrame message ∷ []))
    open_call x before true is = omega (arith, more x, ap one_if is)
    open_call x before false is =
        let other : eqb x (word_at 0 message.bytes) ≡ false = ne_eqb x (word_at 0 message.bytes) (λ e. absurd (let wrong : true ≡ false = sym (eq-eqb (word_at 0 message.bytes) x (sym e)) ∙ is in cc)) in
        omega (arith, more x, before, ap (λ (os : List OutstandingCall). times x (outstanding_xids os)) left, others_times x (word_at 0 message.bytes) k.outstanding other)

-- a frame without a message
pub answered_same : (xid : ℕ → ℕ) (k t : ClientState) (s : ServerState) (u d all_down : List FrameContent) (w v : Transit) (p : FrameContent) → t.outstanding ≡ k.outstanding → t.sends ≡ k.sends → message_xids (p ∷ []) ≡ []
    → Answered xid k s u d all_down w → Answered xid t s u (d ++ p ∷ []) all_down v
answered_same xid k t s u d all_down w v p same accepted none h = record {
  rise = h.rise;
  once = h.once;
  given = h.given;
  open_calls = λ n lt.
      omega (arith, h.open_calls n (omega (arith, lt, accepted)), ap (λ (os : List OutstandingCall). times (xid n) (outstanding_xids os)) same, said_more_lem (xid n) d (p ∷ []), ap (λ (xs : List ℕ). times (xid n) xs) none);
  room = λ n lt. h.room n (omega (arith, lt, accepted));
}

-- ---- Events of the client

pub answered_submit : (xid : ℕ → ℕ) (k t : ClientState) (s : ServerState) (u d all_down : List FrameContent) (w v : Transit) (o : OutstandingCall) → t.outstanding ≡ k.outstanding ++ o ∷ [] → t.sends ≡ k.sends + 1 → o.xid ≡ xid k.sends → o.xid < numbers_end
    → Answered xid k s u d all_down w → Answered xid t s u d all_down v
answered_submit xid k t s u d all_down w v o outs accepted own small h = record {
  rise = h.rise;
  once = h.once;
  given = h.given;
  open_calls = λ n lt. open_call n (cases_lt n k.sends) lt;
  room = λ n lt. room n (cases_lt n k.sends) lt;
}
  where
    more : (x : ℕ) → times x (outstanding_xids t.outstanding) ≡ times x (outstanding_xids k.outstanding) + (one_if (eqb o.xid x) + 0)
    more x =
        ap (λ (os : List OutstandingCall). times x (outstanding_xids os)) outs ∙ ap (λ (xs : List ℕ). times x xs) (map-append (λ (y : OutstandingCall). y.xid) k.outstanding (o ∷ []))
        ∙ times_append x (outstanding_xids k.outstanding) (o.xid ∷ [])

    -- the new one is the last
    is_last : (n : ℕ) → k.sends ≤ n → n < t.sends → o.xid ≡ xid n
    is_last n ge lt = own ∙ ap xid (omega (arith, ge, lt, accepted))

    open_call : (n : ℕ) → (n < k.sends) ⊎ (k.sends ≤ n) → n < t.sends → 1 ≤ times (xid n) (outstanding_xids t.outstanding) + times (xid n) (message_xids d)
    open_call n (inl before) lt = omega (arith, more (xid n), h.open_calls n before)
    open_call n (inr ge) lt = omega (arith, more (xid n), ap one_if (eq-eqb o.xid (xid n) (is_last n ge lt)))

    room : (n : ℕ) → (n < k.sends) ⊎ (k.sends ≤ n) → n < t.sends → xid n < numbers_end
    room n (inl before) lt = h.room n before
    room n (inr ge) lt = (let same = is_last n ge lt in omega (arith, same, small))

map_times : (f : OutstandingCall → OutstandingCall) (x : ℕ) (os : List OutstandingCall) → ((o : OutstandingCall) → (f o).xid ≡ o.xid) → times x (outstanding_xids (map f os)) ≡ times x (outstanding_xids os)
map_times f x [] same = refl
map_times f x (o ∷ os) same = omega (arith, ap (λ (n : ℕ). one_if (eqb n x)) (same o), map_times f x os same)

-- the calls go on as others of the same xids
pub answered_map : (xid : ℕ → ℕ) (f : OutstandingCall → OutstandingCall) (k t : ClientState) (s : ServerState) (u d all_down : List FrameContent) (w v : Transit) → t.outstanding ≡ map f k.outstanding → ((o : OutstandingCall) → (f o).xid ≡ o.xid) → t.sends ≡ k.sends
    → Answered xid k s u d all_down w → Answered xid t s u d all_down v
answered_map xid f k t s u d all_down w v outs same accepted h = record {
  rise = h.rise;
  once = h.once;
  given = h.given;
  open_calls = λ n lt.
      omega (arith, h.open_calls n (omega (arith, lt, accepted)), ap (λ (os : List OutstandingCall). times (xid n) (outstanding_xids os)) outs, map_times f (xid n) k.outstanding same);
  room = λ n lt. h.room n (omega (arith, lt, accepted));
}

-- ---- The message at the front answers a call

found_sent : (sent : OutstandingCall → Bool) (x : ℕ) (os : List OutstandingCall) → AllByRecursion (λ (o : OutstandingCall). o.xid ≡ x → sent o ≡ true) os → 1 ≤ times x (outstanding_xids os)
    → (o : OutstandingCall) × (find (λ (y : OutstandingCall). eqb y.xid x && sent y) os ≡ Some o)
found_sent sent x [] own some = absurd (omega (arith, some))
found_sent sent x (o ∷ os) own some = by (eqb o.xid x) refl (found_sent sent x os own.1)
  where
    by : (b : Bool) → eqb o.xid x ≡ b → (1 ≤ times x (outstanding_xids os) → (y : OutstandingCall) × (find (λ (z : OutstandingCall). eqb z.xid x && sent z) os ≡ Some y))
        → (y : OutstandingCall) × (find (λ (z : OutstandingCall). eqb z.xid x && sent z) (o ∷ os) ≡ Some y)
    by true is later = (o, (λ i. cond (is i && own.0 (eqb-true o.xid x is) i) (Some o) (find (λ (z : OutstandingCall). eqb z.xid x && sent z) os)))
    by false is later =
        let m = later (omega (arith, some, ap one_if is)) in
        (m.0, (λ i. cond (is i && sent o) (Some o) (find (λ (z : OutstandingCall). eqb z.xid x && sent z) os)) ∙ m.1)

pub answers_one : (opened : LinkParameters) (k : ClientState) (s : ServerState) (u d all_down : List FrameContent) (w : Transit) (message : SentMessage) (rest : List FrameContent) → all_down ≡ d ++ SendFrame message ∷ rest → s.received.sends ≤ k.sends → AllFollow opened k → s.received.sends ≤ ends_written k.written k.send_ends
    → Answered (xid_of_send opened) k s u d all_down w → (o : OutstandingCall) × (answered_call k (word_at 0 message.bytes) ≡ Some o)
answers_one opened k s u d all_down w message rest parts sends own left h =
    let x = word_at 0 message.bytes in
    let there : times x (message_xids all_down) ≡ times x (message_xids d) + (1 + times x (message_xids rest)) =
    ap (λ (ps : List FrameContent). times x (message_xids ps)) parts ∙ said_more_lem x d (SendFrame message ∷ rest)
    ∙ ap (λ (b : Bool). times x (message_xids d) + (one_if b + times x (message_xids rest))) (eq-eqb x x refl) in
    let m = h.given x (omega (arith, there)) in
    let below : m.0 < s.received.sends = m.1 in
    let is : x ≡ xid_of_send opened m.0 = m.2 in
    let open_call : 1 ≤ times x (outstanding_xids k.outstanding) + times x (message_xids d) =
    subst (λ (y : ℕ). 1 ≤ times y (outstanding_xids k.outstanding) + times y (message_xids d)) (sym is) (h.open_calls m.0 (omega (arith, below, sends))) in
    let some : 1 ≤ times x (outstanding_xids k.outstanding) = omega (arith, there, h.once x, open_call) in
    found_sent (is_sent k) x k.outstanding
    (each_all (λ (o : OutstandingCall). Follows opened k.sends o) (λ (o : OutstandingCall). o.xid ≡ x → is_sent k o ≡ true) k.outstanding
    (λ o follows same. lt-ltb o.send (ends_written k.written k.send_ends) (left_by o.send (sym follows.0 ∙ same ∙ is) below (cases_lt m.0 o.send))) own)
    some
  where
    -- of two Sends with one xid neither is later
    left_by : (send : ℕ) {n : ℕ} → xid_of_send opened send ≡ xid_of_send opened n → n < s.received.sends → (n < send) ⊎ (send ≤ n) → send < ends_written k.written k.send_ends
    left_by send {n} same below (inl later) = (let less : xid_of_send opened n < xid_of_send opened send = h.rise n send later in absurd (omega (arith, less, same)))
    left_by send {n} same below (inr le) = omega (arith, le, below, left)
