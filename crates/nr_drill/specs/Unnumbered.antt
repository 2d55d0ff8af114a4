-- Drills whose clients have no numbers: nothing is sent again, and each client has one link, which has its number.
use Rattle.std.specs.Prelude.{◌≡◌, ◌≢◌, ℕ, ◌+◌, List, [], ◌∷◌}
use Rattle.nr_wire.specs.declared.hello.Side.TheVariants.{Initiator, Responder}
use Rattle.nr_link.specs.Frames.{frames_of}
use Rattle.nr_reduce.specs.declared.mark.LinkParameters.{LinkParameters}
use Rattle.nr_reduce.specs.declared.mark.Mark.{Mark}
use Rattle.nr_reduce.specs.declared.mark.Mark.TheVariants as marks
use Rattle.nr_reduce.specs.declared.mark.Told.TheVariants as told
use Rattle.nr_reduce.specs.AtEachMark.{AtEachMark}
use Rattle.nr_reduce.specs.History.{bytes_received, is_dropped}
use Rattle.nr_reduce.specs.Journal.{PlacedMark, PlainMark}
use Rattle.nr_reduce.specs.NumberedJournal.{number_heard}
use Rattle.nr_reduce.specs.Opening.{IsFirstLink}
use Rattle.nr_script.specs.declared.script.Line.{Line}
use Rattle.nr_script.specs.declared.script.Line.TheVariants as lines
use Rattle.nr_drill.specs.Drill.{SerialServer, Setting, Drill, plain_of, links_of, cred_of, with_cred, after_submit, after_up, after_down, after_work, after_forget, after_revoke, after_drop, after_raw, after_grant}
use Rattle.nr_drill.specs.Follows.{Drains}

-- no link was reopened, and no client has a number
pub record AreFirst (s : Setting) : Type 0 where
  pub on : (link : ℕ) → IsFirstLink (s.opened link)
  pub unnumbered : (link : ℕ) → (s.opened link).client.number ≡ 0

-- each side of a link has the hello of the other, and the server has heard the number of its client
pub record Heard (o : LinkParameters) (link : ℕ) (run : List Mark) : Type 0 where
  pub client : frames_of Responder (bytes_received link Initiator run) ≢ []
  pub server : frames_of Initiator (bytes_received link Responder run) ≢ []
  pub number : number_heard run link ≡ o.client.number

-- a link of a client without a number, whose server heard it
pub record HeardNone (s : Setting) (link : ℕ) (run : List Mark) : Type 0 where
  pub heard : Heard (s.opened link) link run
  pub none : (s.opened link).client.number ≡ 0

-- a call is executed on a link whose server heard a client without a number, and none is told to be old
abbrev pub UnnumberedMark : List Mark → Mark → Type 0
UnnumberedMark before (marks.Execute l xid moment payload place reply) = (frames_of Initiator (bytes_received l Responder before) ≢ []) × (number_heard before l ≡ 0)
UnnumberedMark before (marks.Told l (told.Old xid at)) = ⊥
UnnumberedMark before mark = Unit {0}

-- each call is executed at the journal's end, with the reply of the plain server there
pub record IsPlainRun (server : SerialServer) (run : List Mark) : Type 0 where
  pub placed : AtEachMark (PlacedMark (plain_of server)) [] run
  pub plain_replies : AtEachMark (PlainMark (plain_of server)) [] run
  pub unnumbered : AtEachMark UnnumberedMark [] run

-- ---- What lines make of such a drill: each acts on the link of its client's number, which is opened as at first

abbrev pub first_line : Setting → Line → Drill → Drill
first_line s (lines.Cred client cred) d = with_cred client cred d
first_line s (lines.Call client form prog vers proc args) d = after_submit s client (record { prog = prog; vers = vers; proc = proc; cred = cred_of client d; args = args }) form d
first_line s (lines.Up client most) d = after_up s client most d
first_line s (lines.Down client most) d = after_down s client most d
first_line s (lines.Work client) d = after_work s client d
first_line s (lines.Tick seconds) d = record d { seconds = d.seconds + seconds }
first_line s (lines.Forget client number) d = after_forget s client number d
first_line s (lines.Revoke client number) d = after_revoke s client number d
first_line s (lines.Drop client) d = after_drop client d
first_line s (lines.Rejoin client) d = d
first_line s (lines.Raw client side bytes) d = after_raw client side bytes (is_dropped client d.marks) d
first_line s (lines.Grant client credits) d = after_grant client credits d
first_line s lines.Drain d = d

abbrev pub FirstMakes : Setting → ℕ → Line → Drill → Drill → Type 0
FirstMakes s clients lines.Drain old new = (rounds : ℕ) × Drains s (links_of clients) rounds old new
FirstMakes s clients line old new = new ≡ first_line s line old

abbrev pub FirstMakeAll : Setting → ℕ → List Line → Drill → Drill → Type 0
FirstMakeAll s clients [] old new = new ≡ old
FirstMakeAll s clients (line ∷ others) old new = (mid : Drill) × FirstMakes s clients line old mid × FirstMakeAll s clients others mid new
