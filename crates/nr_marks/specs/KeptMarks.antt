-- Marks that are kept.
use Rattle.std.specs.Prelude.{◌≡◌, ℕ, ◌+◌, ◌≤◌, List, [], ◌∷◌, map, sum_by, Option, Some, None}
use Rattle.nr_reduce.specs.declared.call.Outcome.TheVariants as outcomes
use Rattle.nr_reduce.specs.declared.mark.Mark.{Mark}
use Rattle.nr_reduce.specs.declared.mark.Mark.TheVariants as marks
use Rattle.nr_marks.specs.declared.kept.Kept.{Kept}
use Rattle.nr_marks.specs.declared.kept.Kept.TheVariants as kinds
use Rattle.nr_marks.specs.Views.{plain_submit, mark_len}
use Rattle.nr_marks.specs.Pieces.{IsWithin, bytes_in, stored_len}

-- the mark that is kept
abbrev pub mark_of : List (List ℕ) → Kept → Mark
mark_of stores (kinds.Submit link call) = plain_submit link call.prog call.vers call.proc call.xid (bytes_in stores call.args)
mark_of stores (kinds.Wrote link side bytes) = marks.Wrote link side (bytes_in stores bytes)
mark_of stores (kinds.Fed link side bytes) = marks.Fed link side (bytes_in stores bytes)
mark_of stores (kinds.Execute e) = marks.Execute e.link e.xid e.moment (bytes_in stores e.payload) e.place (bytes_in stores e.reply)
mark_of stores (kinds.Done link xid reply) = marks.Done link xid (outcomes.Reply (bytes_in stores reply))
mark_of stores (kinds.Other mark) = mark

-- its pieces end within their stores
abbrev pub IsKept : List (List ℕ) → Kept → Type 0
IsKept stores (kinds.Submit link call) = IsWithin stores call.args
IsKept stores (kinds.Wrote link side bytes) = IsWithin stores bytes
IsKept stores (kinds.Fed link side bytes) = IsWithin stores bytes
IsKept stores (kinds.Execute e) = IsWithin stores e.payload × IsWithin stores e.reply
IsKept stores (kinds.Done link xid reply) = IsWithin stores reply
IsKept stores (kinds.Other mark) = Unit {0}

-- a mark is kept as this
pub record Keeps (stores : List (List ℕ)) (kept : Kept) (mark : Mark) : Type 0 where
  pub within : IsKept stores kept
  pub is : mark_of stores kept ≡ mark

abbrev pub marks_of : List (List ℕ) → List Kept → List Mark
marks_of stores entries = map (mark_of stores) entries

abbrev pub AreKept : List (List ℕ) → List Kept → Type 0
AreKept stores [] = Unit {0}
AreKept stores (k ∷ ks) = IsKept stores k × AreKept stores ks

-- the bytes that a kept mark has of its own, outside the stores
abbrev pub own_len : Kept → ℕ
own_len (kinds.Submit link call) = 0
own_len (kinds.Wrote link side bytes) = 0
own_len (kinds.Fed link side bytes) = 0
own_len (kinds.Execute e) = 0
own_len (kinds.Done link xid reply) = 0
own_len (kinds.Other mark) = mark_len mark

-- all bytes that are kept: those of the stores, and those of marks that are kept as they are
abbrev pub kept_len : List (List ℕ) → List Kept → ℕ
kept_len stores entries = stored_len stores + sum_by own_len entries

-- A mark that is kept apart from its bytes adds no more bytes to the stores than it has; one that isn't adds none.
abbrev pub AddsFew : (old new : List (List ℕ)) → ℕ → Option Kept → Type 0
AddsFew old new len None = stored_len new ≡ stored_len old
AddsFew old new len (Some kept) = stored_len new + own_len kept ≤ stored_len old + len
