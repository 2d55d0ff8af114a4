-- READs over a connection with record marks (RFC 5531 section 11).
use Rattle.std.specs.Prelude.{◌≡◌, ℕ, ◌≤◌, List, ◌∷◌, ◌++◌, length}
use Rattle.nr_nfs_args.specs.declared.bytes.ReadArgs.{ReadArgs}
use Rattle.nr_reduce.specs.declared.mark.Entry.{Entry}
use Rattle.nr_plain.specs.History.{Answered, IsHistory, Opening, setup_in}
use Rattle.nr_plain.specs.Journal.{tree_at}
use Rattle.nr_plain.specs.Setup.{Setup, caller_of}
use Rattle.nr_record_host.specs.RecordRuns.{Around, IsRecordsServed}
use Rattle.nr_record_host.specs.declared.record_end.RecordEnd.{RecordEnd}
use Rattle.nr_pair_laws.specs.FilesAt.{KeepPath}
use Rattle.nr_pair_laws.specs.PutThenGet.{HoldsFile, IsReadCall, ReadsOf, root_handle}

-- The place of a call is at least `least`. If the call is a READ of a file to which a path led at a place not after its
-- own, and no entry up to its place changes what the path leads to, its reply has what READ answers to its caller over the
-- tree at its place: with status 0 the bytes of the file. `files_refuse_for_rights` says for which cause it has another
-- status.
pub record AnswersReads (s : Setup) (J : List Entry) (least : ℕ) (x : Answered) : Type 0 where
  pub low : least ≤ x.place
  pub within : x.place ≤ length J
  pub reads : (names : List (List ℕ)) (bytes : List ℕ) (from : ℕ) (h : HoldsFile s J names bytes from) → from ≤ x.place → KeepPath s J root_handle names from x.place →
      (xid : ℕ) (a : ReadArgs) (call : IsReadCall x.payload xid a) → a.file ≡ h.file → ReadsOf (tree_at s J x.place) (caller_of call.cred) bytes xid a x.reply

-- A connection with record marks was served, whose pass had seen this journal. It has then seen one that goes on from it,
-- and each of its calls that were answered, in the order of their records, was answered so over that journal. Which of
-- the replies its sink took, the clause of the connection says (`took_is`).
abbrev pub RecordReadsGiveTheFile : Type 0
RecordReadsGiveTheFile =
    (first : Opening) (J : List Entry) (before after : Around) (end : RecordEnd) (served : IsRecordsServed before after end) → IsHistory first J before.view.seen →
    (more : List Entry) × (IsHistory first (J ++ more) after.view.seen
    × ((earlier : List Answered) (x : Answered) (later : List Answered) → served.exchanges ≡ earlier ++ x ∷ later → AnswersReads (setup_in first) (J ++ more) (length J) x))
