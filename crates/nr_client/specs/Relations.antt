-- What contracts say of the calls that are made over a link, whichever kind of link it is.
use Rattle.std.specs.Prelude.{◌≡◌, ◌≢◌, ◌⊎◌, ℕ, Option, None, Some, Result, Ok, Err}
use Rattle.nr_reduce.specs.declared.call.Call.{Call}
use Rattle.nr_reduce.specs.declared.call.Outcome.{Outcome}
use Rattle.nr_shared.specs.declared.call_end.CallEnd.{CallEnd}

-- Relations of what is known of a link before a call, or a part of one, and after it. `V` is what is known of such a link at a moment.
pub record CallRelations (V : Type 0) : Type 1 where
  -- The call was made, and answered with this outcome. It has no answer, for this end, which has its cause.
  pub answers : (v w : V) → Call → Outcome → Type 0
  pub gives_up : (v w : V) → Call → CallEnd → Type 0
  -- The call was submitted under this xid. It was not, for this end, which has its cause.
  pub submits : (v w : V) → Call → ℕ → Type 0
  pub refuses : (v w : V) → Call → CallEnd → Type 0
  -- The outcome of the call of this xid was handed over. The call was forgotten at this end of the link, which has its cause.
  pub completes : ℕ → Outcome → (v w : V) → Type 0
  pub forgets : ℕ → CallEnd → (v w : V) → Type 0
  -- The call of this xid was forgotten, whether or not its answer had come.
  pub forgets_call : ℕ → (v w : V) → Type 0
  -- It was asked whether a call can be submitted at once.
  pub looks : (v w : V) → Type 0
  -- What is known of the fault counts of its source and its sink. They count the fault of this end, if it is one of them.
  pub Faults : Type 0
  pub faults : V → Faults
  pub counts : CallEnd → (before after : Faults) → Type 0
  -- a call can be submitted at once; none can
  pub has_credit : V → Type 0
  pub lacks_credit : V → Type 0
  -- the call of this xid, if one was submitted and was neither handed over nor forgotten
  pub open_call : V → ℕ → Option Call
  -- no more was read of it than may be
  pub is_within : V → Type 0

-- it was asked whether a call can be submitted at once, or it wasn't
abbrev pub LooksOver : {V : Type 0} → CallRelations V → (v w : V) → Type 0
LooksOver rel v w = (w ≡ v) ⊎ rel.looks v w

-- every ticket is as it was
abbrev pub KeepsTicketsOver : {V : Type 0} → CallRelations V → (v w : V) → Type 0
KeepsTicketsOver rel v w = (xid : ℕ) → rel.open_call w xid ≡ rel.open_call v xid

-- the ticket of this call is open, and none was under its xid; all others are as they were
pub record OpensTicketOver {V : Type 0} (rel : CallRelations V) (xid : ℕ) (call : Call) (v w : V) : Type 0 where
  pub fresh : rel.open_call v xid ≡ None
  pub own : rel.open_call w xid ≡ Some call
  pub others : (x : ℕ) → x ≢ xid → rel.open_call w x ≡ rel.open_call v x

-- the ticket of an xid is closed; all others are as they were
pub record ClosesTicketOver {V : Type 0} (rel : CallRelations V) (xid : ℕ) (v w : V) : Type 0 where
  pub own : rel.open_call w xid ≡ None
  pub others : (x : ℕ) → x ≢ xid → rel.open_call w x ≡ rel.open_call v x

-- the fault counts are as before if a call was answered or submitted, and count the fault of an end
abbrev pub CountsEnd : {A V : Type 0} → (rel : CallRelations V) → Result A CallEnd → (v w : V) → Type 0
CountsEnd rel (Ok value) v w = rel.faults w ≡ rel.faults v
CountsEnd rel (Err end) v w = rel.counts end (rel.faults v) (rel.faults w)
