-- What callers of a shared requester know.
use Rattle.std.specs.Prelude.{◌≡◌, ◌≢◌, ℕ, Bool, nat_lt, List, [], ◌∷◌, Some}
use Rattle.nr_reduce.specs.declared.call.Call.{Call}
use Rattle.nr_reduce.specs.declared.call.Form.{Form}
use Rattle.nr_reduce.specs.declared.mark.LinkParameters.{LinkParameters}
use Rattle.nr_reduce.specs.declared.mark.Mark.{Mark}
use Rattle.nr_reduce.specs.Credits.{credits_granted}
use Rattle.nr_reduce.specs.Run.{client}
use Rattle.nr_reduce.specs.SubmitAnswer.{calls_counted}
use Rattle.nr_requester.specs.MaySubmit.{client_may_submit}
use Rattle.nr_turnstile.specs.Passes.{Rests, Misses, home_of, id_of, seen_by}
use Rattle.nr_shared.specs.declared.entry.Entry.{Entry}
use Rattle.nr_shared.specs.declared.entry.Entry.TheVariants as entries
use Rattle.nr_shared.specs.declared.entry.Stop.TheVariants as causes
use Rattle.nr_shared.specs.declared.source_reader.InitialSource.{InitialSource}
use Rattle.nr_shared.specs.declared.shared.SharedRequester.{SharedRequester}
use Rattle.nr_shared.specs.declared.shared.Pass.{Pass}
use Rattle.nr_shared.specs.declared.shared.TrySubmit.{TrySubmit}
use Rattle.nr_shared.specs.declared.shared.TrySubmit.TheVariants as submits
use Rattle.nr_shared.specs.declared.shared.TryTake.{TryTake}
use Rattle.nr_shared.specs.declared.shared.TryTake.TheVariants as tries
use Rattle.nr_shared.specs.declared.shared.TryRevoke.{TryRevoke}
use Rattle.nr_shared.specs.declared.shared.TryRevoke.TheVariants as revokes
use Rattle.nr_shared.specs.Histories.{stop_of}
use Rattle.nr_shared.specs.LinkRuns.{OnLink}
use Rattle.nr_shared.specs.Adding.{Adds}
use Rattle.nr_shared.specs.Callers.{HasOpenCall, IsCaller, KeepsLaw, KeepsOpen}
use Rattle.nr_shared.specs.Ending.{IsRefused}
use Rattle.nr_shared.specs.Waiting.{IsTakeTurn, OpensCall, RevokesCall}

-- Whether a call may be submitted, by the run of a history at which memory didn't run out: a credit is left, and, if the client has a number and hasn't
-- ended, the next xid isn't too far above the least one.
abbrev pub SaysCredit : Bool → List Entry → Type 0
SaysCredit has history = stop_of history ≢ Some causes.Memory → OnLink 0 history (λ opened link run. has ≡ client_may_submit opened link run)

-- The same if memory ran out: only whether a credit is left, by what was fed before, of which `n` bytes are of the piece at which it ran out.
abbrev pub SaysCreditOutOfMemory : Bool → List Entry → Type 0
SaysCreditOutOfMemory has history = stop_of history ≡ Some causes.Memory → (n : ℕ) × OnLink n history (λ opened link run.
    has ≡ nat_lt (calls_counted (client opened link run).state) (credits_granted opened link run))

module _ {I O C D : Type 0} where
  -- The pass is a caller's, of this shared requester, and outside of both turns. Its source is that of this requester. What it has seen keeps
  -- the law of a client.
  pub record SharedRests (s : SharedRequester I O C D) (p : Pass I O C D) : Type 0 where
    pub main : Rests s.main p.main
    pub source : Rests s.source p.source
    pub initial_source : InitialSource I O C D
    pub has_seen : seen_by p.source ≡ initial_source ∷ []
    pub home : home_of initial_source.pass.value ≡ id_of s.main
    pub caller : IsCaller p.main
    pub law : KeepsLaw (seen_by p.main)

  -- One requester call under one turn, or the turn was taken and all comes back.
  abbrev pub TrySubmits : Pass I O C D → Pass I O C D → Call → Form → TrySubmit → Type 0
  TrySubmits p q call form (submits.Submitted xid) = OpensCall p.main q.main call form xid × HasOpenCall q.main xid
  TrySubmits p q call form (submits.Refused c why) = Adds p.main q.main [] × (KeepsOpen p.main q.main × ((c ≡ call) × IsRefused why call form (seen_by q.main)))
  TrySubmits p q call form (submits.Busy c f) = Misses p.main q.main × ((c ≡ call) × (f ≡ form))

  -- the same of a take
  abbrev pub TryTakes : Pass I O C D → Pass I O C D → (xid : ℕ) → TryTake → Type 0
  TryTakes p q xid (tries.Taken take) = IsTakeTurn p.main q.main xid take
  TryTakes p q xid (tries.Busy ticket) = Misses p.main q.main × (ticket ≡ xid)

  -- the same of a revoke
  abbrev pub TryRevokes : Pass I O C D → Pass I O C D → (xid : ℕ) → TryRevoke → Type 0
  TryRevokes p q xid (revokes.Revoked call buffers) = RevokesCall p.main q.main xid call buffers
  TryRevokes p q xid (revokes.Busy ticket) = Misses p.main q.main × (ticket ≡ xid)
