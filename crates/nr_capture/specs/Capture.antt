-- The text of a capture: what it says, or its first line that is outside the grammar. Each line ends with a newline, and its words are
-- separated by one space. The first line is that of the script; each other line is a mark, of a link of the script.
use Rattle.std.specs.Prelude.{◌≡◌, ℕ, ◌+◌, Bool, ◌&&◌, nat_le, if◌then◌else◌, List, [], ◌∷◌, ◌++◌, Option, None, Some, Result, Ok, Err}
use Rattle.nr_texts.specs.declared.opening.Opening.{Opening}
use Rattle.nr_texts.specs.Words.{newline, space, parts}
use Rattle.nr_texts.specs.Openings.{opening_in}
use Rattle.nr_capture.specs.declared.capture.CapturedMark.{CapturedMark}
use Rattle.nr_capture.specs.declared.capture.CapturedMark.TheVariants as marks
use Rattle.nr_capture.specs.declared.capture.CaptureFault.{CaptureFault}
use Rattle.nr_capture.specs.declared.capture.CaptureFault.TheVariants as faults
use Rattle.nr_capture.specs.Marks.{mark_in}

-- a capture: its first line, and its marks in order
pub record CaptureLines : Type 0 where
  pub opening : Opening
  pub marks : List CapturedMark

abbrev pub link_of : CapturedMark → ℕ
link_of (marks.Submit link xid form call) = link
link_of (marks.Out link side bytes) = link
link_of (marks.In link side bytes) = link
link_of (marks.Exec link xid seconds) = link
link_of (marks.Done link xid outcome) = link
link_of (marks.Forget link xid) = link
link_of (marks.Revoke link xid) = link
link_of (marks.Drop link) = link
link_of (marks.Grant link credits) = link

-- a mark is of a link of the script
abbrev pub is_link : Opening → ℕ → Bool
is_link opening link = nat_le 1 link && nat_le link opening.clients

abbrev pub with_mark : CaptureLines → Option CapturedMark → Option CaptureLines
with_mark read None = None
with_mark read (Some mark) = if is_link read.opening (link_of mark) then Some (record read { marks = read.marks ++ mark ∷ [] }) else None

unfoldable pub with_line : CaptureLines → List ℕ → Option CaptureLines
with_line read line = with_mark read (mark_in (parts space line))

abbrev pub opened_by : Option Opening → Option CaptureLines
opened_by None = None
opened_by (Some opening) = Some (record { opening = opening; marks = [] })

unfoldable pub with_first_line : List ℕ → Option CaptureLines
with_first_line line = opened_by (opening_in (parts space line))

-- The last part of a text follows its last newline. It is empty in a capture.
abbrev pub capture_at_end : ℕ → CaptureLines → List ℕ → Result CaptureLines ℕ
capture_at_end number read (c ∷ others) = Err number
capture_at_end number read [] = Ok read

abbrev pub read_on : ℕ → Option CaptureLines → (CaptureLines → Result CaptureLines ℕ) → Result CaptureLines ℕ
read_on number None rest = Err number
read_on number (Some read) rest = rest read

-- what the parts of a text say, from the line of this number on
abbrev pub marks_from : ℕ → CaptureLines → List (List ℕ) → Result CaptureLines ℕ
marks_from number read [] = Err number
marks_from number read (line ∷ []) = capture_at_end number read line
marks_from number read (line ∷ next ∷ others) = read_on number (with_line read line) (λ more. marks_from (number + 1) more (next ∷ others))

abbrev pub capture_from : List (List ℕ) → Result CaptureLines ℕ
capture_from [] = Err 1
capture_from (line ∷ []) = Err 1
capture_from (line ∷ next ∷ others) = read_on 1 (with_first_line line) (λ read. marks_from 2 read (next ∷ others))

-- what a text says, or the number of its first invalid line, from 1
unfoldable pub capture_of : List ℕ → Result CaptureLines ℕ
capture_of text = capture_from (parts newline text)

-- The answer of reading is what the text says, or its first invalid line. Memory may run out.
abbrev pub GivesCapture : Result CaptureLines CaptureFault → Result CaptureLines ℕ → Type 0
GivesCapture (Ok capture) read = read ≡ Ok capture
GivesCapture (Err (faults.BadLine line)) read = read ≡ Err line
GivesCapture (Err faults.Memory) read = Unit {0}
