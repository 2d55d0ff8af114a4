-- The turns that a connection took at the server, one for each call whose turn came: it is answered, or refused since it is old.
use Rattle.std.specs.Prelude.{◌≡◌, ℕ, suc, ◌+◌, ◌≤◌, List, [], ◌∷◌, ◌++◌, length, take, drop}
use Rattle.std.specs.List.{flat_map}
use Rattle.nr_outside.specs.declared.moment.Moment.{Moment}
use Rattle.nr_reduce.specs.NumberedJournal.{entries_alone, standing_for, IsExecutedBy, IsOld}
use Rattle.nr_reduce.specs.NumberedJournal.Standing.{New}
use Rattle.nr_reduce.specs.declared.mark.TaggedEntry.{TaggedEntry}
use Rattle.nr_turnstile.specs.Rule.{Begins, places_from}
use Rattle.nr_plain.specs.History.{Answered, AreOfCalls, HasNoCallTwice, Opening, PassView, history, setup_in, xid_in}
use Rattle.nr_plain.specs.ReplyLaws.{plain_server}
use Rattle.nr_plain.specs.Setup.{Setup}
use Rattle.nr_plain.specs.Turns.{added_to}

-- A turn, with the moment that the clock gave for it: a call was answered, or the call of an xid was refused.
pub data Turn : Type 0 where
  Answers : (given : Moment) → Answered → Turn
  Refuses : (given : Moment) → (xid : ℕ) → Turn

abbrev pub given_for : Turn → Moment
given_for (Answers given a) = given
given_for (Refuses given xid) = given

-- what was made of a call at its turn: it was answered, or refused under its xid
pub data Handled : Type 0 where
  AnsweredCall : Answered → Handled
  RefusedCall : (xid : ℕ) → Handled

abbrev pub handled_at : Turn → Handled
handled_at (Answers given a) = AnsweredCall a
handled_at (Refuses given xid) = RefusedCall xid

-- the calls that were answered, in order
abbrev pub answered_at : Turn → List Answered
answered_at (Answers given a) = a ∷ []
answered_at (Refuses given xid) = []

unfoldable pub answered_in : List Turn → List Answered
answered_in turns = flat_map answered_at turns

-- ---- A turn after the first entries of the journal

-- what a call adds to the journal then: its entry, if it is new and has one
abbrev pub added_at : (client : ℕ) → List TaggedEntry → Moment → Answered → List TaggedEntry
added_at client T given a = added_to T client given a.payload a.reply

-- A call of a client was answered after the first k entries of the journal T. If it is new, it is executed at their end, at the moment that the
-- clock gave, and its entry is the next one of T. If it is kept, it has the place, the moment and the reply of its entry, and adds none. It isn't old.
pub record IsAnsweredAt (s : Setup) (client : ℕ) (T : List TaggedEntry) (k : ℕ) (given : Moment) (a : Answered) : Type 0 where
  pub executed : IsExecutedBy (plain_server s) (take k T) (standing_for (take k T) client (xid_in a.payload)) a.moment a.payload a.place a.reply
  pub moment_is : standing_for (take k T) client (xid_in a.payload) ≡ New → a.moment ≡ given
  pub there : take (length (added_at client (take k T) given a)) (drop k T) ≡ added_at client (take k T) given a

-- The turns of a client in a journal: each after the first k entries of T, the first one after n of them at least, and each later one after what the
-- turn before it added. `mine` are the places in the history of the entries that they added: the history begins with the server as it
-- was opened.
abbrev pub AreTurns : Setup → (client : ℕ) → (T : List TaggedEntry) → (n : ℕ) → List Turn → (mine : List ℕ) → Type 0
AreTurns s client T n [] mine = (n ≤ length T) × (mine ≡ [])
AreTurns s client T n (Answers given a ∷ turns) mine =
    (k : ℕ) × ((n ≤ k) × (IsAnsweredAt s client T k given a
    × ((later : List ℕ) × ((mine ≡ places_from (suc k) (length (added_at client (take k T) given a)) ++ later)
    × AreTurns s client T (k + length (added_at client (take k T) given a)) turns later))))
AreTurns s client T n (Refuses given xid ∷ turns) mine =
    (k : ℕ) × ((n ≤ k) × (IsOld (standing_for (take k T) client xid) × AreTurns s client T k turns mine))

-- A pass had seen a server that was opened so and has the journal T, and has now seen more. These turns of a client were taken in between, and
-- what they added is the pass's own. All else that was added is of others. Each entry that was added is that of a call, and no call of a client with
-- a number has two, whoever sent it, if none had two before.
pub record TakenOver (first : Opening) (T : List TaggedEntry) (client : ℕ) (before : PassView) (turns : List Turn) (after : PassView) : Type 0 where
  pub more : List TaggedEntry
  pub begins : Begins before.seen after.seen
  pub seen : after.seen ≡ history first (T ++ more)
  pub once : HasNoCallTwice before.seen → HasNoCallTwice after.seen
  pub of_calls : AreOfCalls (setup_in first) (entries_alone T) (entries_alone more)
  pub mine : List ℕ
  pub turned : AreTurns (setup_in first) client (T ++ more) (length T) turns mine
  pub mine_is : after.mine ≡ before.mine ++ mine

abbrev pub Taken : (client : ℕ) → (before : PassView) → List Turn → (after : PassView) → Type 0
Taken client before turns after = (first : Opening) (T : List TaggedEntry) → before.seen ≡ history first T → TakenOver first T client before turns after
