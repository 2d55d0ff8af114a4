-- What a caller knows: its pass, its turn, and its call.
use Rattle.std.specs.Prelude.{◌≡◌, ◌≢◌, ℕ, false, List, ◌++◌, Option, Some}
use mathlib.Core.Option.{some}
use lib.ListN.{get_elem?}
use Rattle.nr_reduce.specs.declared.call.Call.{Call}
use Rattle.nr_reduce.specs.declared.call.Form.{Form}
use Rattle.nr_turnstile.specs.declared.turn.Turn.{Turn}
use Rattle.nr_turnstile.specs.declared.turnstile.Pass.{Pass}
use Rattle.nr_turnstile.specs.Rule.{Earlier, IsIn, IsOpen, Lies}
use Rattle.nr_turnstile.specs.Passes.{seen_by, mine_of}
use Rattle.nr_turnstile.specs.Turns.{Has, pass_of}
use Rattle.nr_shared.specs.declared.entry.Entry.{Entry}
use Rattle.nr_shared.specs.declared.entry.InitialState.{InitialState}
use Rattle.nr_shared.specs.declared.requester_with_sink.RequesterWithSink.{RequesterWithSink}
use Rattle.nr_shared.specs.Histories.{ClosesCalls, FeedsInOrder, IsCallAt, IsUnclosed, closes_of, initial_of, is_feeding, last_feeding, place_of, rejoins}
use Rattle.nr_shared.specs.LinkRuns.{OnEachLink}
use Rattle.nr_shared.specs.LinkStanding.{KeepsLinkLaw}
use Rattle.nr_shared.specs.Adding.{Adds}
use Rattle.nr_shared.specs.Draining.{AreWrites}
use Rattle.nr_shared.specs.Output.{EntriesMayFollow, OutputBeforeInput, WritesInFull}
use Rattle.nr_shared.specs.Standing.{RejoinsWithin, Stands}

-- The turn has the value, which stands for the history that its pass has seen. The pass's places lie in it, and an entry closes only an earlier place.
pub record IsReady {O C : Type 0} (link : O → ℕ) (taken : O → Option (List ℕ)) (faults : O → ℕ) (allows : Call → Form → Type 0) (t : Turn (RequesterWithSink O C) Entry) : Type 0 where
  pub value : RequesterWithSink O C
  pub has : Has t value
  pub stands : Stands link taken faults allows value (seen_by (pass_of t))
  pub lies : Lies (seen_by (pass_of t)) (mine_of (pass_of t))
  pub earlier : Earlier closes_of (seen_by (pass_of t))

-- each entry of the pass closes only a place of its own
abbrev pub ClosesOwn : {O C : Type 0} → Pass (RequesterWithSink O C) Entry → Type 0
ClosesOwn p = (n k : ℕ) (e : Entry) → IsIn n (mine_of p) → get_elem? (seen_by p) n ≡ some e → closes_of e ≡ Some k → IsIn k (mine_of p)

-- The pass fed last: the last entry that feeds is its own, and open. Its entries close only its own places.
pub record IsFeeding {O C : Type 0} (p : Pass (RequesterWithSink O C) Entry) : Type 0 where
  pub initial : InitialState
  pub is_initial : initial_of (seen_by p) ≡ Some initial
  pub last : ℕ
  pub is_last : last_feeding (seen_by p) ≡ Some last
  pub is_open : IsOpen closes_of (seen_by p) (mine_of p) last
  pub closes_own : ClosesOwn p

-- The pass is a caller's: none of its own entries feeds, and each closes only a place of its own. All its places lie in what it has seen.
pub record IsCaller {O C : Type 0} (p : Pass (RequesterWithSink O C) Entry) : Type 0 where
  pub lies : Lies (seen_by p) (mine_of p)
  pub closes_own : ClosesOwn p
  pub feeds_none : (k : ℕ) (e : Entry) → IsIn k (mine_of p) → get_elem? (seen_by p) k ≡ some e → is_feeding e ≡ false

-- The marks of the history keep the law of the client's side, and the last grant, on each link; `n` is how many bytes were fed of the piece at which memory
-- ran out. A lost link is left as often as it may be, at most.
-- Output is written before more is fed, and in full. Bytes move until an end, and are fed only while a call is outstanding. Each entry that feeds
-- closes the one before it: so they are all of the one pass that feeds.
-- The history begins with the initial state. An entry by which a call ends closes the place of a call of that xid. A call that nothing closed is the last one of
-- its xid.
pub record KeepsLaw (history : List Entry) : Type 0 where
  pub initial : InitialState
  pub is_initial : initial_of history ≡ Some initial
  pub n : ℕ
  pub law : OnEachLink n history KeepsLinkLaw
  pub within_tries : RejoinsWithin initial.tries (rejoins history)
  pub output : OutputBeforeInput history
  pub in_full : WritesInFull history
  pub may_follow : EntriesMayFollow history
  pub in_order : FeedsInOrder history
  pub closes_calls : ClosesCalls history
  pub last_open : (xid k : ℕ) (call : Call) → IsCallAt history xid k call → IsUnclosed history k → place_of xid history ≡ Some k

-- A call of this xid stands at a place of the pass's own, which is open. All places of the pass lie in what it has seen.
pub record HasOpenCall {O C : Type 0} (p : Pass (RequesterWithSink O C) Entry) (xid : ℕ) : Type 0 where
  pub at : ℕ
  pub call : Call
  pub is_call : IsCallAt (seen_by p) xid at call
  pub stays : IsOpen closes_of (seen_by p) (mine_of p) at
  pub lies : Lies (seen_by p) (mine_of p)

-- each place of the pass that was open is open still; or each but one
abbrev pub KeepsOpen : {O C : Type 0} → Pass (RequesterWithSink O C) Entry → Pass (RequesterWithSink O C) Entry → Type 0
KeepsOpen p q = (k : ℕ) → IsOpen closes_of (seen_by p) (mine_of p) k → IsOpen closes_of (seen_by q) (mine_of q) k

abbrev pub KeepsOthers : {O C : Type 0} → ℕ → Pass (RequesterWithSink O C) Entry → Pass (RequesterWithSink O C) Entry → Type 0
KeepsOthers closed p q = (k : ℕ) → k ≢ closed → IsOpen closes_of (seen_by p) (mine_of p) k → IsOpen closes_of (seen_by q) (mine_of q) k

-- The turn added entries of bytes that were written, and that a write failed, and no others; and the pass has seen no others.
pub record Writes {O C : Type 0} (p q : Pass (RequesterWithSink O C) Entry) : Type 0 where
  pub es : List Entry
  pub are : AreWrites es
  pub seen : seen_by q ≡ seen_by p ++ es
  pub adds : Adds p q es
