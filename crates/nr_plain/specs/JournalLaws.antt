-- Laws of a journal, its trees and the replies over it.
use Rattle.std.specs.Prelude.{◌≡◌, ℕ, ◌≤◌, false, List, [], ◌++◌, length, take, Some}
use Rattle.nr_nfs_base.specs.declared.caller.Caller.{Caller}
use Rattle.nr_nfs_base.specs.declared.procedure.NfsProcedure.{NfsProcedure}
use Rattle.nr_nfs_base.specs.declared.time.Time.{Time}
use Rattle.nr_nfs_args.specs.Arguments.{NfsArguments}
use Rattle.nr_outside.specs.declared.moment.Moment.{Moment}
use Rattle.nr_reduce.specs.declared.mark.Entry.{Entry}
use Rattle.nr_tree.specs.Sane.{IsSane}
use Rattle.nr_tree.specs.Tree.{Tree}
use Rattle.nr_tree.specs.declared.rules.Space.{Space}
use Rattle.nr_plain.specs.Setup.{Parameters, Setup, State}
use Rattle.nr_plain.specs.Programs.{nfs_results, nfs_tree, is_change}
use Rattle.nr_plain.specs.Journal.{state_of, tree_at}
use Rattle.nr_plain.specs.Replies.{Answer, plain_answer, plain_reply}
use Rattle.nr_plain.specs.Added.{entries_of_call}

-- the reply over the first entries of a journal stays the same when entries follow
abbrev pub RepliesStay : Type 0
RepliesStay =
    (s : Setup) (J K : List Entry) (place : ℕ) (m : Moment) (payload : List ℕ) → place ≤ length J
    → plain_reply s (J ++ K) place m payload ≡ plain_reply s J place m payload

-- what an answer adds to the journal is a function of the call and the reply
abbrev pub RepliesTellEntries : Type 0
RepliesTellEntries =
    (prm : Parameters) (st : State) (m : Moment) (payload : List ℕ) (a : Answer) → plain_answer prm st m payload ≡ Some a → a.entries ≡ entries_of_call m payload a.reply

-- the reply at a place is that of an answer over the entries before it, which adds what the call and the reply determine
abbrev pub RepliesAreThoseOfAnswers : Type 0
RepliesAreThoseOfAnswers =
    (s : Setup) (J : List Entry) (place : ℕ) (m : Moment) (payload reply : List ℕ) → plain_reply s J place m payload ≡ Some reply
    → plain_answer s.parameters (state_of s (take place J)) m payload ≡ Some (record { reply = reply; entries = entries_of_call m payload reply })

-- an answer that adds no entry is the answer at every moment
abbrev pub UnchangingRepliesDoNotDependOnTheMoment : Type 0
UnchangingRepliesDoNotDependOnTheMoment =
    (prm : Parameters) (st : State) (m other : Moment) (payload : List ℕ) (a : Answer)
    → plain_answer prm st m payload ≡ Some a → a.entries ≡ [] → plain_answer prm st other payload ≡ Some a

-- Each procedure leaves a sane tree sane, whoever calls it, with whichever arguments, space and moment. A refused call leaves the tree; of
-- any other its rules have said all that its step asks of a sane tree. No bound is asked for, since numbers and cookies have no end here.
abbrev pub ProceduresKeepTreesSane : Type 0
ProceduresKeepTreesSane =
    (t : Tree) (c : Caller) (space : Space) (now : Time) (p : NfsProcedure) (a : NfsArguments p) → IsSane t → IsSane (nfs_tree t c space now p a)

-- So the tree at each place of a journal is sane if the first one is. The journal may be any: an entry whose call is refused at its place, or
-- whose arguments can't be read, leaves the tree. At a place past the end the tree is that after all entries.
abbrev pub TreesStaySane : Type 0
TreesStaySane = (s : Setup) (J : List Entry) (k : ℕ) → IsSane s.tree → IsSane (tree_at s J k)

-- A procedure whose results have a status other than 0 leaves the tree, and so does each of the twelve that only read, whoever calls it, with
-- whichever arguments, space and moment. No sane tree is asked for.
abbrev pub FailuresLeaveTheTree : Type 0
FailuresLeaveTheTree =
    (t : Tree) (c : Caller) (space : Space) (now : Time) (p : NfsProcedure) (a : NfsArguments p) → is_change p (nfs_results t c space now p a) ≡ false
    → nfs_tree t c space now p a ≡ t
