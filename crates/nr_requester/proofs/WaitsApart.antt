-- A message answers no call that waits to be sent again.
use Rattle.std.proofs.Common.{◌≡◌, ◌≢◌, ℕ, ◌+◌, ◌<◌, List, [], ◌∷◌, ◌++◌, Option, None, Some, refl, sym, subst, ◌∙◌, arith}
use Rattle.std.specs.List.{AllByRecursion}
use Rattle.nr_xdr.specs.Fields.{word_at}
use Rattle.nr_reduce.specs.declared.mark.LinkParameters.{LinkParameters}
use Rattle.nr_reduce.specs.declared.call.Outcome.{Outcome}
use Rattle.nr_reduce.specs.EndRules.{live}
use Rattle.nr_reduce.specs.ClientState.{OutstandingCall, WaitingCall, ClientState}
use Rattle.nr_reduce.specs.ClientMessages.{reply_verdict}
use Rattle.nr_reduce.specs.ClientMessages.ReplyVerdict.{GivesOutcome}
use Rattle.nr_reduce.specs.KeptCalls.{KeptCall, AreKept, numbered_from, numbered_calls}
use Rattle.nr_reduce.specs.KeptClient.{KeptClient, ClientKeeps, AreRising, NoneWaitsOf}
use Rattle.nr_reduce.proofs.AnsweredXids.{verdict_of}

-- the xids of kept calls are those of the client's calls
above_kept : (k : ClientState) (x : ℕ) (cs : List KeptCall) (os : List OutstandingCall) → AreKept k cs os → AllByRecursion (λ (d : KeptCall). x < d.xid) cs → AllByRecursion (λ (o : OutstandingCall). x < o.xid) os
above_kept k x [] [] is h = tt
above_kept k x [] (o ∷ os) is h = absurd is
above_kept k x (c ∷ cs) [] is h = absurd is
above_kept k x (c ∷ cs) (o ∷ os) is h = (subst (λ (y : ℕ). x < y) is.0.xid h.0, above_kept k x cs os is.1 h.1)

last_all : (P : OutstandingCall → Type 0) (xs ys : List OutstandingCall) → AllByRecursion P (xs ++ ys) → AllByRecursion P ys
last_all P [] ys h = h
last_all P (x ∷ xs) ys h = last_all P xs ys h.1

others_wait : (x n : ℕ) (ws : List WaitingCall) → AllByRecursion (λ (o : OutstandingCall). x < o.xid) (numbered_from n ws) → AllByRecursion (λ (w : WaitingCall). w.xid ≢ x) ws
others_wait x n [] h = tt
others_wait x n (w ∷ ws) h = ((λ same. (let lt = h.0 in absurd (omega (arith, same, lt)))), others_wait x (n + 1) ws h.1)

apart : (k : ClientState) (next n : ℕ) (cs : List KeptCall) (os : List OutstandingCall) (ws : List WaitingCall) → AreKept k cs (os ++ numbered_from n ws) → AreRising cs next →
    AllByRecursion (λ (o : OutstandingCall). AllByRecursion (λ (w : WaitingCall). w.xid ≢ o.xid) ws) os
apart k next n cs [] ws is rising = tt
apart k next n [] (o ∷ os) ws is rising = absurd is
apart k next n (c ∷ cs) (o ∷ os) ws is rising = (
  subst (λ (x : ℕ). AllByRecursion (λ (w : WaitingCall). w.xid ≢ x) ws) is.0.xid
      (others_wait c.xid n ws (last_all (λ (p : OutstandingCall). c.xid < p.xid) os (numbered_from n ws) (above_kept k c.xid cs (os ++ numbered_from n ws) is.1 rising.1.0))),
  apart k next n cs os ws is.1 rising.1.1,
)

pub none_waits_of : (opened : LinkParameters) (kept : KeptClient) (k : ClientState) (count place : ℕ) (message : List ℕ) (xid : ℕ) (outcome : Option Outcome) → ClientKeeps opened kept (live k) count →
    reply_verdict k place message ≡ GivesOutcome xid outcome → NoneWaitsOf k (word_at 0 message)
none_waits_of opened kept k count place message xid outcome keeps is =
    let calls = keeps.calls refl in
    let v = verdict_of (λ (o : OutstandingCall). AllByRecursion (λ (w : WaitingCall). w.xid ≢ o.xid) k.waiting) k place message xid outcome (apart k kept.next_xid k.sends kept.calls k.outstanding k.waiting calls.kept calls.rising) is in
    subst (λ (x : ℕ). AllByRecursion (λ (w : WaitingCall). w.xid ≢ x) k.waiting) (v.own ∙ v.first) v.holds
