-- If nothing is queued or in transit, and no call is ready, no call is outstanding.
use Rattle.std.proofs.Common.{◌≡◌, ℕ, Bool, true, false, cond, eqb, List, [], ◌∷◌, length, take, refl, sym, ap, ◌∙◌, arith}
use Rattle.std.specs.List.{list_any}
use Rattle.nr_reduce.specs.declared.mark.LinkParameters.{LinkParameters}
use Rattle.nr_reduce.specs.ClientState.{ClientState}
use Rattle.nr_reduce.specs.ServerState.{ServerState, PendingCall, PendingRead, ReadyCall}
use Rattle.nr_reduce.specs.ServerReads.{is_read}
use Rattle.nr_laws.proofs.LinkInvariants.{Transit, TotalsAgree, calls_sent, hello_bit, AreReady}

nothing_left : {A : Type 0} (xs : List A) → length xs ≡ 0 → xs ≡ []
nothing_left [] e = refl
nothing_left (x ∷ xs) e = absurd (omega (arith, e))

none_open : (reads : List PendingRead) → length (take 8 reads) ≡ 0 → reads ≡ []
none_open [] e = refl
none_open (r ∷ reads) e = absurd (omega (arith, e))

none_waits : (reads : List PendingRead) (ready : List ReadyCall) (calls : List PendingCall) → reads ≡ [] → ready ≡ [] → AreReady reads ready calls → calls ≡ []
none_waits reads ready [] free none h = refl
none_waits reads ready (c ∷ calls) free none h =
    absurd (no_contradiction (sym (ap (λ (rs : List ReadyCall). list_any (λ (r : ReadyCall). eqb r.number c.number) rs) none) ∙ h.0 (ap (λ (rs : List PendingRead). is_read rs c.number) free)))
  where
    no_contradiction : false ≡ true → ⊥
    no_contradiction e = absurd cc

greeted_is : (b : Bool) (n : ℕ) → hello_bit b ≡ 1 → cond b n 0 ≡ n
greeted_is true n e = refl
greeted_is false n e = absurd (omega (arith, e))

abbrev pub nothing_in_transit : Transit
nothing_in_transit = record { queued_up = []; up = []; queued_down = []; down = [] }

pub quiet : (opened : LinkParameters) (k : ClientState) (s : ServerState) → TotalsAgree k s nothing_in_transit → AreReady s.reads s.ready s.calls → s.ready ≡ [] → k.outstanding ≡ []
quiet opened k s c h none =
    let no_reads : s.reads ≡ [] = none_open s.reads c.reads in
    let no_calls : length s.calls ≡ 0 = ap (λ (cs : List PendingCall). length cs) (none_waits s.reads s.ready s.calls no_reads none h) in
    let all : calls_sent k ≡ k.sends = greeted_is k.has_hello k.sends (omega (arith, c.hello)) in
    nothing_left k.outstanding (omega (arith, c.out, c.calls_up, c.messages_down, c.waiting, no_calls, all))
