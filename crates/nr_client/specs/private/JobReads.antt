-- A file that is being read by jobs, by what a caller has seen of the history.
use Rattle.std.specs.Prelude.{◌≡◌, ⊤, ℕ, suc, ◌+◌, ◌⊎◌, ◌<◌, ◌≤◌, All, List, [], ◌∷◌, Option, None, Some, Result}
use mathlib.Core.Option.{some}
use lib.ListN.{get_elem?}
use Rattle.std.specs.Io.KnownBytes.{Appends}
use Rattle.nr_reduce.specs.declared.call.Call.{Call}
use Rattle.nr_reduce.specs.declared.call.Form.{Form}
use Rattle.nr_reduce.specs.declared.call.Form.TheVariants as forms
use Rattle.nr_reduce.specs.declared.call.Outcome.{Outcome}
use Rattle.nr_turnstile.specs.declared.turnstile.Pass.{Pass}
use Rattle.nr_turnstile.specs.Passes.{mine_of, seen_by}
use Rattle.nr_turnstile.specs.Rule.{Begins, IsIn, IsOpen}
use Rattle.nr_shared.specs.declared.call_end.CallEnd.{CallEnd}
use Rattle.nr_shared.specs.declared.entry.Entry.{Entry}
use Rattle.nr_shared.specs.declared.entry.Entry.TheVariants as entries
use Rattle.nr_shared.specs.declared.no_dialer.NoDialer.{NoDialer}
use Rattle.nr_shared.specs.declared.requester_with_sink.RequesterWithSink.{RequesterWithSink}
use Rattle.nr_shared.specs.declared.shared.SharedRequester.{SharedRequester}
use Rattle.nr_shared.specs.Histories.{closes_of}
use Rattle.nr_shared.specs.Sharing.{SharedRests}
use Rattle.nr_client.specs.declared.client_end.ClientEnd.{ClientEnd}
use Rattle.nr_client.specs.declared.client_end.ClientEnd.TheVariants as client
use Rattle.nr_client.specs.declared.fetching.AskedPiece.{AskedPiece}
use Rattle.nr_client.specs.declared.jobs.PieceRead.{PieceRead}
use Rattle.nr_client.specs.declared.jobs.ReadJob.{ReadJob}
use Rattle.nr_client.specs.Jobs.{AreExchanges, IsExchange, IsPiece, LacksAnswer, ReadsByJobs}
use Rattle.nr_client.specs.Reading.{file_read, piece_left, read_call}
use Rattle.nr_client.specs.Reading.FileRead.{SizeKnown}

-- a caller has seen more and has more places
pub record Grows {O C : Type 0} (p q : Pass (RequesterWithSink O C) Entry) : Type 0 where
  pub seen : Begins (seen_by p) (seen_by q)
  pub mine : (k : ℕ) → IsIn k (mine_of p) → IsIn k (mine_of q)

-- callers may make each READ of what is left of a piece
abbrev pub IsRuleOf : (Call → Form → Type 0) → (uid gid : ℕ) → (file : List ℕ) → (size : ℕ) → Type 0
IsRuleOf allows uid gid file size = (call : Call) → IsPiece uid gid file size call → allows call forms.Auto

-- why a call has no outcome: for this cause, or memory ran out
abbrev pub HasNone : {O C : Type 0} → Call → ClientEnd → Pass (RequesterWithSink O C) Entry → Type 0
HasNone call end p = (end ≡ client.Memory) ⊎ ((cause : CallEnd) × ((end ≡ client.Link cause) × LacksAnswer (seen_by p) call cause))

-- the outcome of the READ of a piece, if it has one, is that of an exchange of the caller's
abbrev pub IsFetched : (uid gid : ℕ) → (file : List ℕ) → (size at : ℕ) → Option Outcome → (seen : List Entry) → (mine : List ℕ) → Type 0
IsFetched uid gid file size at None seen mine = ⊤
IsFetched uid gid file size at (Some outcome) seen mine = IsExchange seen mine (read_call uid gid file at (piece_left size at)) outcome

abbrev pub AreFetched : (uid gid : ℕ) → (file : List ℕ) → (size : ℕ) → (seen : List Entry) → (mine : List ℕ) → List PieceRead → Type 0
AreFetched uid gid file size seen mine pieces =
    All (λ (piece : PieceRead). IsExchange seen mine (read_call uid gid file piece.at (piece_left size piece.at)) piece.outcome) pieces

-- The READ of what is left of a piece was submitted, at a place that is the caller's own, and open.
pub record IsAskedAt {O C : Type 0} (uid gid : ℕ) (file : List ℕ) (size : ℕ) (p : Pass (RequesterWithSink O C) Entry) (k : ℕ) (asked : AskedPiece) : Type 0 where
  pub stands : get_elem? (seen_by p) k ≡ some (entries.Submit (read_call uid gid file asked.at (piece_left size asked.at)) forms.Auto asked.ticket)
  pub opened : IsOpen closes_of (seen_by p) (mine_of p) k

-- such are the READs of these pieces, at places from this one on, each after those before it
abbrev pub AreAskedFrom : {O C : Type 0} → (uid gid : ℕ) → (file : List ℕ) → (size : ℕ) → Pass (RequesterWithSink O C) Entry → ℕ → List AskedPiece → Type 0
AreAskedFrom uid gid file size p from [] = ⊤
AreAskedFrom uid gid file size p from (asked ∷ more) =
    (k : ℕ) × ((from ≤ k) × (IsAskedAt uid gid file size p k asked × AreAskedFrom uid gid file size p (suc k) more))

abbrev pub AreAsked : {O C : Type 0} → (uid gid : ℕ) → (file : List ℕ) → (size : ℕ) → Pass (RequesterWithSink O C) Entry → List AskedPiece → Type 0
AreAsked uid gid file size p asked = AreAskedFrom uid gid file size p 0 asked

-- GETATTR with this outcome told the size, and these bytes came and were written
pub record ReadByJobs {O C : Type 0} (uid gid : ℕ) (file : List ℕ) (first : Outcome) (size at : ℕ) (p : Pass (RequesterWithSink O C) Entry)
    (taken taken' : Option (List ℕ)) : Type 0 where
  pub outcomes : List Outcome
  pub bytes : List ℕ
  pub made : AreExchanges uid gid file (seen_by p) (mine_of p) (first ∷ []) outcomes
  pub state : file_read (first ∷ outcomes) ≡ SizeKnown size at bytes
  pub appends : Appends taken taken' bytes

-- whatever was read and written before, it goes on so; or it has ended so
abbrev pub ReadsMore : {O C : Type 0} → (uid gid : ℕ) → (file : List ℕ) → (size at at' : ℕ) → (p q : Pass (RequesterWithSink O C) Entry)
    → (t t' : Option (List ℕ)) → Type 0
ReadsMore uid gid file size at at' p q t t' =
    (first : Outcome) (taken : Option (List ℕ)) → ReadByJobs uid gid file first size at p taken t → ReadByJobs uid gid file first size at' q taken t'

abbrev pub EndsMore : {O C : Type 0} → (uid gid : ℕ) → (file : List ℕ) → (size at : ℕ) → (p q : Pass (RequesterWithSink O C) Entry)
    → (t t' : Option (List ℕ)) → Result (Unit {0}) ClientEnd → Type 0
EndsMore uid gid file size at p q t t' given =
    (first : Outcome) (taken : Option (List ℕ)) → ReadByJobs uid gid file first size at p taken t
    → ReadsByJobs uid gid file first (seen_by q) (mine_of q) taken t' given

-- the replies reach this end of a piece, or what is left of it is up to there
abbrev pub IsUpTo : (size at end : ℕ) → Type 0
IsUpTo size at end = (at ≡ end) ⊎ ((at < end) × (at + piece_left size at ≡ end))

module _ {I O C : Type 0} where
  -- a job whose pass a caller can take back, with the pieces that it has read
  abbrev pub IsDone : SharedRequester I O C (NoDialer I O) → (uid gid : ℕ) → (file : List ℕ) → (size : ℕ) → ReadJob I O C → Type 0
  IsDone s uid gid file size j = SharedRests s j.pass × AreFetched uid gid file size (seen_by j.pass.main) (mine_of j.pass.main) j.fetched.items

  -- a job that may run: its pieces begin before the size, too
  abbrev pub IsReady : SharedRequester I O C (NoDialer I O) → (uid gid : ℕ) → (file : List ℕ) → (size : ℕ) → ReadJob I O C → Type 0
  IsReady s uid gid file size j = IsDone s uid gid file size j × All (λ at. at < size) j.offsets.items
