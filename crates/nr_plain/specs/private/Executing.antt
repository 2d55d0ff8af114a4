-- For the code: a call that was executed by the state alone, and what the cache has of a call.
use Rattle.std.specs.Prelude.{◌≡◌, ◌≤◌, ⊤, ℕ, List, [], ◌∷◌, ◌++◌, length, Option, None, Some}
use Rattle.nr_outside.specs.declared.moment.Moment.{Moment}
use Rattle.nr_cache.specs.Entries.{Finding}
use Rattle.nr_cache.specs.Entries.Finding.{KeptCall, OldCall, NewCall}
use Rattle.nr_plain.specs.Setup.{Setup}
use Rattle.nr_plain.specs.History.{entries_added}
use Rattle.nr_reduce.specs.NumberedJournal.{entries_alone}
use Rattle.nr_plain.specs.Numbered.{RepresentsTagged}
use Rattle.nr_plain.specs.Replies.{Answer, plain_answer, plain_reply}
use Rattle.nr_plain.specs.ReplySizes.{reply_max}
use Rattle.nr_plain.specs.Stands.{PlainServerState, state_after_answer, state_kept}
use Rattle.nr_reduce.specs.declared.mark.TaggedEntry.{TaggedEntry}
use Rattle.nr_plain.specs.declared.fault.Fault.{Fault}
use Rattle.nr_plain.specs.declared.fault.Fault.TheVariants as faults
use Rattle.nr_plain.specs.declared.server.Reply.{Reply}

-- the reply is that of the plain server over the state, and the server is then as the answer leaves it
pub record ExecutedNow (before : PlainServerState) (m : Moment) (payload reply : List ℕ) (place : ℕ) (after : PlainServerState) : Type 0 where
  pub answer : Answer
  pub is : plain_answer before.parameters (state_kept before) m payload ≡ Some answer
  pub replied : reply ≡ answer.reply
  pub kept : after ≡ state_after_answer before answer.entries
  pub place_is : place ≡ before.count

-- the call of a client was executed after the entries T, at the end of the journal, which has the entry of the call then, if it has one
pub record ExecutesTagged (s : Setup) (T : List TaggedEntry) (client : ℕ) (m : Moment) (payload reply : List ℕ) (place : ℕ) (after : PlainServerState) : Type 0 where
  pub replied : plain_reply s (entries_alone T) place m payload ≡ Some reply
  pub place_is : place ≡ length T
  pub stands : RepresentsTagged s (T ++ entries_added client m payload reply) after

-- what is given of a call that is kept, and that nothing is given of a new one
abbrev pub IsFound : Option Reply → Finding → Type 0
IsFound None found = found ≡ NewCall
IsFound (Some r) found = found ≡ KeptCall r.place r.payload

-- a reply that is given is short
abbrev pub IsShort : Option Reply → Type 0
IsShort None = ⊤
IsShort (Some r) = length r.payload ≤ reply_max

-- only an old call is refused
abbrev pub IsRefusedBy : Fault → Finding → Type 0
IsRefusedBy (faults.NotCall at) found = ⊥
IsRefusedBy faults.Memory found = ⊤
IsRefusedBy (faults.Old top) found = found ≡ OldCall top

-- one entry
abbrev pub IsOne : List TaggedEntry → Type 0
IsOne T = (t : TaggedEntry) × (T ≡ t ∷ [])
