-- What a step of a link makes of the drills that it stands for.
use Rattle.std.specs.Prelude.{◌≡◌, ◌≢◌, ℕ, ◌≤◌, List, [], ◌∷◌, ◌++◌, length, None, false}
use Rattle.std.specs.List.{AllByRecursion}
use Rattle.nr_wire.specs.declared.hello.Side.TheVariants.{Initiator, Responder}
use Rattle.nr_link.specs.Frames.{frames_of}
use Rattle.nr_link.specs.Agreement.{terms_with}
use Rattle.nr_reduce.specs.AtEachMark.{AtEachMark}
use Rattle.nr_reduce.specs.Asked.{AskedSoFar}
use Rattle.nr_reduce.specs.History.{bytes_received}
use Rattle.nr_reduce.specs.NumberedJournal.{number_heard, tagged_journal}
use Rattle.nr_reduce.specs.Opening.{ClientOpened, IsOpened, ServerOpened}
use Rattle.nr_reduce.specs.OutcomesDue.{outcomes_due}
use Rattle.nr_laws.specs.Typed.{IsTyped}
use Rattle.nr_reduce.specs.Reopening.{reopened}
use Rattle.nr_reduce.specs.Run.{client}
use Rattle.nr_reduce.specs.declared.mark.Mark.{Mark}
use Rattle.nr_reduce.specs.declared.mark.LinkParameters.{LinkParameters}
use Rattle.nr_reduce.specs.declared.mark.TaggedEntry.{TaggedEntry}
use Rattle.nr_requester.specs.RequesterState.{RequesterSide, queue_of}
use Rattle.nr_requester.specs.AfterCalls.{after_drain}
use Rattle.nr_requester.specs.ReopenedLinks.{KeepsOn}
use Rattle.nr_requester.specs.Standing.{RequesterRepresents}
use Rattle.nr_responder.specs.ResponderState.{ResponderSide, end_of, may_write, after_drain as after_server_drain}
use Rattle.nr_responder.specs.Standing.{ResponderRepresents}
use Rattle.nr_plain.specs.Setup.{Setup}
use Rattle.nr_texts.specs.declared.opening.Opening.{Opening}
use Rattle.nr_drill.specs.Drill.{link_of, Setting, Drill, client_of, plain_of, pipes_of, empty_pipes, settled, after_work, after_opening}
use Rattle.nr_drill.specs.DrillSetup.{server_of}
use Rattle.nr_drill.specs.Follows.{client_terms, parameters_of}
use Rattle.nr_drill.specs.InBytes.{RepliedInBytes}
use Rattle.nr_world.specs.DrillLinkState.{DrillLinkState}
use Rattle.nr_world.specs.DrillServers.{DrillServerState, StandsForEntries}
use Rattle.nr_world.specs.LinkStands.{LinkStands}
use Rattle.nr_reduce.specs.declared.mark.Mark.TheVariants as marks
use Rattle.nr_reduce.specs.declared.mark.Told.TheVariants as told

-- A link stands for a drill, and these are the drill's marks, each of whose replies is bytes.
pub record StandsAt (s : Setting) (link : ℕ) (d : Drill) (v : DrillLinkState) (run : List Mark) : Type 0 where
  pub stands : LinkStands s link d v
  pub marks : run ≡ d.marks
  pub replies : RepliedInBytes run

-- For every drill at which the link stood, it stands at the drill after the step.
abbrev pub Goes : (Setting → ℕ → Drill → Drill) → (before after : DrillLinkState) → (run run' : List Mark) → Type 0
Goes step before after run run' = (s : Setting) (link : ℕ) (d : Drill) → StandsAt s link d before run → StandsAt s link (step s link d) after run'

-- a setting whose plain server was opened with a setup
abbrev pub setting_over : Setup → (ℕ → LinkParameters) → Setting
setting_over setup opened = record { server = server_of setup; opened = opened }

-- the one journal of a drill over such a server
abbrev pub journal_over : Setup → List Mark → List TaggedEntry
journal_over setup run = tagged_journal (plain_of (server_of setup)) (number_heard run) run

-- a call was executed, or found old, after its server had heard the client
abbrev pub HearsFirst : List Mark → Mark → Type 0
HearsFirst before (marks.Execute l xid moment payload place reply) = frames_of Initiator (bytes_received l Responder before) ≢ []
HearsFirst before (marks.Told l (told.Old xid at)) = frames_of Initiator (bytes_received l Responder before) ≢ []
HearsFirst before mark = Unit {0}

-- A server that stands for the journal of a drill, each of whose calls was executed, or found old, after its server had heard the client.
pub record ServerStands (setup : Setup) (d : Drill) (kept : DrillServerState) : Type 0 where
  pub entries : StandsForEntries setup (journal_over setup d.marks) kept
  pub heard : AtEachMark HearsFirst [] d.marks

-- The same of a step that executes calls at this second, on a server that stands for the drill's journal.
abbrev pub Works : (Setting → ℕ → Drill → Drill) → (seconds : ℕ) → (before after : DrillLinkState) → (run run' : List Mark) → (kept kept' : DrillServerState) → Type 0
Works step seconds before after run run' kept kept' =
    (setup : Setup) (opened : ℕ → LinkParameters) (link : ℕ) (d : Drill) → d.seconds ≡ seconds → ServerStands setup d kept → StandsAt (setting_over setup opened) link d before run →
    StandsAt (setting_over setup opened) link (step (setting_over setup opened) link d) after run' × ServerStands setup (step (setting_over setup opened) link d) kept'

-- ---- A link opens

-- A drill in which a link hasn't opened yet: it has empty pipes for it, and no mark of it.
pub record IsBeforeOpening (link : ℕ) (d : Drill) : Type 0 where
  pub first : 1 ≤ link
  pub room : link ≤ length d.pipes
  pub pipes : pipes_of link d ≡ empty_pipes
  pub none : AllByRecursion (λ (mark : Mark). link_of mark ≢ link) d.marks

-- no mark is of a link of this client
abbrev pub HasNoMarkOf : Setting → (client : ℕ) → List Mark → Type 0
HasNoMarkOf s client run = AllByRecursion (λ (mark : Mark). client_of s (link_of mark) ≢ client) run

-- A new link opens in a drill whose ends of the link are opened with what this first line says. It is the first one of its client.
abbrev pub Opens : (link : ℕ) → Opening → DrillLinkState → (run run' : List Mark) → Type 0
Opens link opening v run run' =
    (s : Setting) (d : Drill) → s.opened link ≡ parameters_of opening link → IsBeforeOpening link d → HasNoMarkOf s (client_of s link) d.marks → run ≡ d.marks → RepliedInBytes run →
    StandsAt s link (after_opening s link d) v run'

-- ---- A client leaves its link and begins the next one

-- It may leave its link: it has a number and its client hasn't ended, the link was opened in range, the marks are typed, the client kept its law, and
-- no outcome is due.
pub record MayLeave (opened : LinkParameters) (link : ℕ) (run : List Mark) : Type 0 where
  pub numbered : opened.client.number ≢ 0
  pub typed : IsTyped run
  pub opens : IsOpened opened
  pub asked : AskedSoFar opened link run
  pub none_due : outcomes_due opened link run ≡ []
  pub stays : (client opened link run).ended ≡ None

-- A drill with the next link of the client of a link: it is opened as it goes on from that, and the others are as they were.
pub record HasNext (s t : Setting) (link next : ℕ) (d e : Drill) : Type 0 where
  pub marks : e.marks ≡ d.marks
  pub opened : t.opened next ≡ reopened (s.opened link) link d.marks
  pub same : AllByRecursion (λ (mark : Mark). t.opened (link_of mark) ≡ s.opened (link_of mark)) d.marks
  pub client : client_of t next ≡ client_of s link
  pub begins : IsBeforeOpening next e

-- the server of a link is opened as this first line says
pub record OpensServerSo (opening : Opening) (opened : LinkParameters) : Type 0 where
  pub granted : opened.granted ≡ opening.credits
  pub low : opened.low ≡ opening.credits
  pub receives : opened.receives ≡ opening.credits
  pub server : opened.server ≡ terms_with opening.server_units opening.invalidates

abbrev pub Reopens : (number : ℕ) → Opening → (before after : DrillLinkState) → (run run' : List Mark) → Type 0
Reopens number opening before after run run' =
    (s t : Setting) (link : ℕ) (d e : Drill) → MayLeave (s.opened link) link d.marks → HasNext s t link number d e → OpensServerSo opening (s.opened link) → StandsAt s link d before run →
    StandsAt t number (after_opening t number e) after run'

-- ---- For the code

-- a link with two ends that have written nothing
pub record IsFresh (link : ℕ) (opening : Opening) (v : DrillLinkState) : Type 0 where
  pub number : v.number ≡ link
  pub pipes : v.pipes ≡ empty_pipes
  pub stands : v.is_dropped ≡ false
  pub lines : v.lines ≡ 0
  pub awaited : v.awaited ≡ []
  pub calls : v.calls ≡ []
  pub waiting : v.waiting ≡ []
  pub client_live : v.client.state.side.ended ≡ None
  pub server_live : end_of v.server ≡ None
  pub client : (opened : LinkParameters) (l : ℕ) → opened.first_xid ≡ 1 → opened.first_stag ≡ 1 → ClientOpened opened opening.credits (client_terms opening link) → RequesterRepresents opened l v.client []
  pub server : (opened : LinkParameters) (l : ℕ) → ServerOpened opened opening.credits opening.credits (terms_with opening.server_units opening.invalidates) → ResponderRepresents opened l [] v.server

-- a client was drained: these are all bytes that it had to write
pub record ClientWrites (before after : RequesterSide) (bytes : List ℕ) : Type 0 where
  pub n : ℕ
  pub state : after ≡ after_drain n before
  pub all : bytes ≡ queue_of before.state
  pub stands : KeepsOn before (λ link. marks.Wrote link Initiator bytes) after

-- a server was drained: these are all bytes that it had to write
pub record ServerWrites (before after : ResponderSide) (bytes : List ℕ) : Type 0 where
  pub n : ℕ
  pub within : n ≤ length (may_write before)
  pub state : after ≡ after_server_drain before n
  pub all : bytes ≡ may_write before
  pub stands : (opened : LinkParameters) (link : ℕ) (run : List Mark) → ResponderRepresents opened link run before → ResponderRepresents opened link (run ++ marks.Wrote link Responder bytes ∷ []) after

-- The next call was executed at this second, or found old: the drill with its mark is what is left to settle of the step `after_work`.
pub record ExecutedAt (setup : Setup) (s : Setting) (link : ℕ) (d : Drill) (after : DrillLinkState) (run : List Mark) (kept : DrillServerState) : Type 0 where
  pub next : Drill
  pub work : after_work s link d ≡ settled s link next
  pub stands : StandsAt s link next after run
  pub server : ServerStands setup next kept

abbrev pub Executes : (seconds : ℕ) → (before after : DrillLinkState) → (run run' : List Mark) → (kept kept' : DrillServerState) → Type 0
Executes seconds before after run run' kept kept' =
    (setup : Setup) (opened : ℕ → LinkParameters) (link : ℕ) (d : Drill) → d.seconds ≡ seconds → ServerStands setup d kept → StandsAt (setting_over setup opened) link d before run →
    ExecutedAt setup (setting_over setup opened) link d after run' kept'
