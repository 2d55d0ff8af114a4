-- The calls of a history, and those that its requester has.
use Rattle.std.proofs.Common.{◌≡◌, ◌≢◌, ◌⊎◌, ℕ, Bool, true, false, eqb, is_some, if◌then◌else◌, List, [], ◌∷◌, ◌++◌, length, Option, Some, None, unwrap_or, refl, sym, ap, ◌∙◌, ⊎_elim}
use Rattle.std.proofs.lemmas.Bool.{cases_eq, eqb-true, ne_eqb}
use Rattle.atomic_table.proofs.Lists.{at_longer, at_last}
use Rattle.nr_reduce.specs.declared.call.Call.{Call}
use Rattle.nr_requester.specs.RequesterState.{RequesterState}
use Rattle.nr_requester.specs.OpenCalls.{open_call, KeepsTickets, OpensTicket, ClosesTicket}
use Rattle.nr_shared.specs.declared.entry.Entry.{Entry}
use Rattle.nr_shared.specs.Histories.{closes_of, ClosesCall, ClosesCalls, IsUnclosed, submitted_call, IsCallAt, place_of}
use Rattle.nr_shared.specs.Standing.{KeepsCalls}
use Rattle.nr_shared.proofs.Histories.{asked_end, asked_old, place_same, place_new}
use Rattle.nr_shared.proofs.Lists.{each_end, none_left}

-- what is unclosed with one entry more was so before
pub unclosed_old : (h : List Entry) (e : Entry) (k : ℕ) → IsUnclosed (h ++ e ∷ []) k → IsUnclosed h k
unclosed_old h e k none n f at = none n f (at_longer h (e ∷ []) n f at)

pub none_some : {A : Type 0} (a : A) → None ≡ Some a → ⊥
none_some a e = absurd cc

pub none_true : {A : Type 0} (o : Option A) → o ≡ None → is_some o ≡ true → ⊥
none_true o none there = false_true (sym (ap is_some none) ∙ there)
  where
    false_true : false ≡ true → ⊥
    false_true e = absurd cc

-- an entry that is no call and closes none
pub calls_kept : (r s : RequesterState) (h : List Entry) (e : Entry) → ((xid : ℕ) → submitted_call xid e ≡ None) → KeepsTickets r s → KeepsCalls r h → KeepsCalls s (h ++ e ∷ [])
calls_kept r s h e none keeps has xid k call asked unclosed =
    let old = has xid k call (asked_old h e xid k call (none xid) asked) (unclosed_old h e k unclosed) in
    (place_same xid h e (ap is_some (none xid)) ∙ old.0, keeps xid ∙ old.1)

pub asked_new : (b : Bool) (call c : Call) → (if b then Some call else None) ≡ Some c → (b ≡ true) × (call ≡ c)
asked_new true call c e = (refl, ap (λ (o : Option Call). unwrap_or o call) e)
asked_new false call c e = absurd (none_some c e)

-- a call that is accepted
pub calls_more : (r s : RequesterState) (h : List Entry) (e : Entry) (xid : ℕ) (call : Call) → ((x : ℕ) → submitted_call x e ≡ (if eqb xid x then Some call else None)) → OpensTicket xid call r s → KeepsCalls r h
    → KeepsCalls s (h ++ e ∷ [])
calls_more r s h e xid call is opens has x k c asked unclosed = ⊎_elim
    (λ (old : IsCallAt h x k c).
    (let was = has x k c old (unclosed_old h e k unclosed) in ⊎_elim
    (λ (same : x ≡ xid). absurd (none_some c (sym opens.fresh ∙ (ap (λ z. open_call z r) (sym same) ∙ was.1))))
    (λ (other : x ≢ xid).
    (place_same x h e (ap is_some (is x) ∙ ap (λ b. is_some (if b then Some call else None)) (ne_eqb xid x (λ z. other (sym z)))) ∙ was.0, opens.others x other ∙ was.1))
    (cases_eq x xid)))
    (λ (new : (k ≡ length h) × (submitted_call x e ≡ Some c)).
    (let both = asked_new (eqb xid x) call c (sym (is x) ∙ new.1) in
    let same : xid ≡ x = eqb-true xid x both.0 in
    (place_new x h e (ap is_some new.1) ∙ ap (λ n. Some n) (sym new.0), ap (λ z. open_call z s) (sym same) ∙ (opens.own ∙ ap (λ z. Some z) both.1))))
    (asked_end h e x k c asked)

-- a call that is closed
pub calls_fewer : (r s : RequesterState) (h : List Entry) (e : Entry) (xid k0 : ℕ) (call : Call) → ((x : ℕ) → submitted_call x e ≡ None) → closes_of e ≡ Some k0 → IsCallAt h xid k0 call → IsUnclosed h k0
    → ClosesTicket xid r s → KeepsCalls r h → KeepsCalls s (h ++ e ∷ [])
calls_fewer r s h e xid k0 call none closes own before shuts has x k c asked after =
    let was = has x k c (asked_old h e x k c (none x) asked) (unclosed_old h e k after) in
    let first = has xid k0 call own before in
    let apart : k ≢ k0 = λ same. after (length h) e (at_last h e (length h) refl) (closes ∙ ap (λ n. Some n) (sym same)) in
    let other : x ≢ xid = λ same. apart (ap (λ (o : Option ℕ). unwrap_or o 0) (sym was.0 ∙ (ap (λ z. place_of z h) same ∙ first.0))) in
    (place_same x h e (ap is_some (none x)) ∙ was.0, shuts.others x other ∙ was.1)

-- ---- The entries that close them

pub none_closes : ClosesCalls []
none_closes before later e is = absurd (none_left before later e is)

pub closes_end : (h : List Entry) (e : Entry) → ClosesCall h e → ClosesCalls h → ClosesCalls (h ++ e ∷ [])
closes_end h e own all = each_end ClosesCall h e own all
