-- What a requester may write, as what is due and not yet written.
use Rattle.std.proofs.Common.{◌≡◌, ℕ, ◌+◌, ◌-◌, Bool, true, false, cond, eqb, List, [], ◌∷◌, ◌++◌, length, drop, map, inl, inr, refl, sym, ap, ◌∙◌, arith, append_assoc, length-append}
use Rattle.std.proofs.lemmas.List.{append-nil, drop_all, drop-append-le}
use Rattle.std.proofs.Math.Seq.{drop-append-add}
use Rattle.std.proofs.lemmas.Bool.{cases_lt}
use Rattle.nr_wire.specs.Constants.{OPCODE_SEND, QUEUE_SEND}
use Rattle.nr_wire.specs.Segment.Segment.{Untagged}
use Rattle.nr_link.specs.Output.{msn_word, send, cut}
use Rattle.nr_endpoint.specs.SendQueue.{SendQueue, writable, written}
use Rattle.nr_reduce.specs.declared.mark.LinkParameters.{LinkParameters}
use Rattle.nr_reduce.specs.ClientState.{OutstandingCall}
use Rattle.nr_reduce.specs.Client.{call_output, calls_output, call_ends, revoked_call}

pub split_drop : (n : ℕ) (a b : List ℕ) → drop n (a ++ b) ≡ drop n a ++ drop (n - length a) b
split_drop n a b =
    elim (cases_lt n (length a)) [
      | inl lt ↦
          let none : n - length a ≡ 0 = omega (arith, lt) in
          drop-append-le n a b (omega (arith, lt)) ∙ ap (λ (m : ℕ). drop n a ++ drop m b) (sym none)
      | inr le ↦
          let sum : length a + (n - length a) ≡ n = omega (arith, le) in
          ap (λ (m : ℕ). drop m (a ++ b)) (sym sum)
          ∙ drop-append-add a b (n - length a)
          ∙ ap (λ (xs : List ℕ). xs ++ drop (n - length a) b) (sym (drop_all n a le))
    ]

-- the queue once n of its bytes were written
pub written_writable : (h : Bool) (n : ℕ) (q : SendQueue) → writable h (written n q) ≡ drop n (writable h q)
unfolding written
written_writable true n q = sym (split_drop n q.hello q.fpdus)
written_writable false n q = append-nil (drop n q.hello) ∙ ap (drop n) (sym (append-nil q.hello))

-- ---- Message numbers

pub next_word : (n : ℕ) → msn_word (msn_word n + 1) ≡ msn_word (n + 1)
next_word n = omega arith

pub word_word : (n : ℕ) → msn_word (msn_word n) ≡ msn_word n
word_word n = omega arith

-- a Send goes by the word of its number
pub send_word : (m n : ℕ) (message : List ℕ) → msn_word m ≡ msn_word n → send m message ≡ send n message
unfolding send
send_word m n message e = λ i. cut (λ last offset payload. Untagged last OPCODE_SEND 0 QUEUE_SEND (e i) offset payload) message

-- ---- Sends of the calls that wait for the server's hello

pub output_append : (opened : LinkParameters) (msn : ℕ) (os : List OutstandingCall) (o : OutstandingCall) →
    calls_output opened msn (os ++ o ∷ []) ≡ calls_output opened msn os ++ call_output opened (msn + length os) o
output_append opened msn [] o = append-nil (call_output opened msn o) ∙ ap (λ (n : ℕ). call_output opened n o) (omega arith)
output_append opened msn (x ∷ os) o =
    ap (λ (xs : List ℕ). call_output opened msn x ++ xs)
    (output_append opened (msn + 1) os o ∙ ap (λ (n : ℕ). calls_output opened (msn + 1) os ++ call_output opened n o) (omega arith))
    ∙ sym (append_assoc (call_output opened msn x) (calls_output opened (msn + 1) os) (call_output opened (msn + length (x ∷ os)) o))

pub output_revoked : (opened : LinkParameters) (xid msn : ℕ) (os : List OutstandingCall) → calls_output opened msn (map (revoked_call xid) os) ≡ calls_output opened msn os
output_revoked opened xid msn [] = refl
output_revoked opened xid msn (o ∷ os) = λ i. one (eqb o.xid xid) i ++ output_revoked opened xid (msn + 1) os i
  where
    one : (b : Bool) → call_output opened msn (cond b (record o { is_revoked = true }) o) ≡ call_output opened msn o
    one true = refl
    one false = refl

-- ---- Where they end

pub ends_append : (opened : LinkParameters) (due msn : ℕ) (os : List OutstandingCall) (o : OutstandingCall) →
    call_ends opened due msn (os ++ o ∷ []) ≡ call_ends opened due msn os ++ (due + length (calls_output opened msn os) + length (call_output opened (msn + length os) o)) ∷ []
ends_append opened due msn [] o =
    (let first : msn ≡ msn + 0 = omega arith in
    let at : due + length (call_output opened msn o) ≡ due + 0 + length (call_output opened (msn + 0) o) = ap (λ (n : ℕ). due + length (call_output opened n o)) first ∙ omega arith in
    ap (λ (e : ℕ). e ∷ []) at)
ends_append opened due msn (x ∷ os) o =
    let first : List ℕ = call_output opened msn x in
    let next : msn + 1 + length os ≡ msn + length (x ∷ os) = omega arith in
    let at : due + length first + length (calls_output opened (msn + 1) os) + length (call_output opened (msn + 1 + length os) o) ≡ due + length (first ++ calls_output opened (msn + 1) os) + length (call_output opened (msn + length (x ∷ os)) o) =
    ap (λ (n : ℕ). due + length first + length (calls_output opened (msn + 1) os) + length (call_output opened n o)) next ∙ omega (arith, length-append first (calls_output opened (msn + 1) os)) in
    ap (λ (xs : List ℕ). (due + length first) ∷ xs)
    (ends_append opened (due + length first) (msn + 1) os o ∙ ap (λ (e : ℕ). call_ends opened (due + length first) (msn + 1) os ++ e ∷ []) at)

pub ends_many : (opened : LinkParameters) (due msn : ℕ) (os : List OutstandingCall) → length (call_ends opened due msn os) ≡ length os
ends_many opened due msn [] = refl
ends_many opened due msn (x ∷ os) = (let rest = ends_many opened (due + length (call_output opened msn x)) (msn + 1) os in omega (arith, rest))

pub ends_revoked : (opened : LinkParameters) (xid due msn : ℕ) (os : List OutstandingCall) → call_ends opened due msn (map (revoked_call xid) os) ≡ call_ends opened due msn os
ends_revoked opened xid due msn [] = refl
ends_revoked opened xid due msn (o ∷ os) =
    ap (λ (n : ℕ). (due + n) ∷ call_ends opened (due + n) (msn + 1) (map (revoked_call xid) os)) (one (eqb o.xid xid))
    ∙ ap (λ (xs : List ℕ). (due + length (call_output opened msn o)) ∷ xs) (ends_revoked opened xid (due + length (call_output opened msn o)) (msn + 1) os)
  where
    one : (b : Bool) → length (call_output opened msn (cond b (record o { is_revoked = true }) o)) ≡ length (call_output opened msn o)
    one true = refl
    one false = refl
