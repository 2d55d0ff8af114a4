-- The links of a history whose link may be dialled again, as links of one client, which goes on from each to the next.
use Rattle.std.specs.Prelude.{◌≡◌, ◌≢◌, ⊤, ℕ, true, false, ◌==◌, if◌then◌else◌, List, [], ◌∷◌, ◌++◌, Option, None, Some, Ok, Contains}
use Rattle.std.specs.List.{AllByRecursion, list_any}
use Rattle.nr_wire.specs.declared.hello.Side.TheVariants.{Initiator}
use Rattle.nr_wire.specs.Segment.{Segment}
use Rattle.nr_regions.specs.RegisteredMemory.{Access}
use Rattle.nr_link.specs.Ending.{access_of}
use Rattle.nr_link.specs.Frames.{Frame, is_hello}
use Rattle.nr_reduce.specs.declared.call.Outcome.{Outcome}
use Rattle.nr_reduce.specs.declared.mark.LinkParameters.{LinkParameters}
use Rattle.nr_reduce.specs.declared.mark.Mark.{Mark}
use Rattle.nr_reduce.specs.declared.mark.Mark.TheVariants as marks
use Rattle.nr_reduce.specs.Client.{client_rules, client_segment, initial_client}
use Rattle.nr_reduce.specs.ClientState.{ClientState}
use Rattle.nr_reduce.specs.EndRules.{EndState, end_state_after}
use Rattle.nr_reduce.specs.Events.{RunEvent, events}
use Rattle.nr_reduce.specs.Events.RunEvent.{FrameReceived}
use Rattle.nr_reduce.specs.OfferedRegions.{Region}
use Rattle.nr_reduce.specs.Opening.{IsOpened}
use Rattle.nr_reduce.specs.Run.{client}
use Rattle.nr_requester.specs.RequesterState.{RequesterSide}
use Rattle.nr_laws.specs.MarkAt.{MarkAt}
use Rattle.nr_laws.specs.OnceEach.{AskedWithEarlier, IsEarlier, OpenedWithEarlier}
use Rattle.nr_laws.specs.Touches.{StopsAt}
use Rattle.nr_laws.specs.Typed.{IsTyped}
use Rattle.nr_shared.specs.declared.entry.Entry.{Entry}
use Rattle.nr_shared.specs.declared.entry.InitialState.{InitialState}
use Rattle.nr_shared.specs.declared.entry.Stop.{Stop}
use Rattle.nr_shared.specs.Callers.{KeepsLaw}
use Rattle.nr_shared.specs.Histories.{initial_of, rejoins}
use Rattle.nr_shared.specs.LinkRuns.{FitsHistory, FitsInitialState, LinkRun, OpenedLink, links_of}
use Rattle.nr_shared.specs.Output.{EntriesMayFollow}
use Rattle.nr_shared.specs.Standing.{RepresentsHistory, is_out_of_memory}

-- ---- The links by their numbers

-- What the link of this number was opened with. No link of the session has another number: for that it is of a client without a number, which goes on over no
-- next link.
abbrev pub unnumbered : LinkParameters → LinkParameters
unnumbered opened = record opened { client = record opened.client { number = 0 } }

abbrev pub opened_among : LinkParameters → List OpenedLink → ℕ → LinkParameters
opened_among other [] link = unnumbered other
opened_among other (e ∷ es) link = if e.link == link then e.opened else opened_among other es link

abbrev pub opened_by : LinkRun → ℕ → LinkParameters
opened_by l link = opened_among l.at.opened (l.at ∷ l.left) link

-- a link of these has this number
abbrev pub IsAmong : List OpenedLink → ℕ → Type 0
IsAmong es link = list_any (λ e. e.link == link) es ≡ true

abbrev pub HasLink : LinkRun → ℕ → Type 0
HasLink l link = IsAmong (l.at ∷ l.left) link

-- ---- A session

-- each was opened in range
abbrev pub AreOpened : LinkRun → Type 0
AreOpened l = AllByRecursion (λ e. IsOpened e.opened) (l.at ∷ l.left)

-- each goes on from those after it in this list, which has the last one first
abbrev pub AreEarlier : (ℕ → LinkParameters) → List Mark → List OpenedLink → Type 0
AreEarlier opened run [] = ⊤
AreEarlier opened run (at ∷ left) = AllByRecursion (λ e. IsEarlier opened run e.link at.link) (at ∷ left) × AreEarlier opened run left

-- The links are links of one client: each goes on from those before it. Each that one of them goes on from was opened in range, and its client keeps its law
-- so far.
pub record IsSession (l : LinkRun) : Type 0 where
  pub earlier : AreEarlier (opened_by l) l.run (l.at ∷ l.left)
  pub opened_with : (link : ℕ) → HasLink l link → OpenedWithEarlier (opened_by l) l.run link
  pub asked_with : (link : ℕ) → HasLink l link → AskedWithEarlier (opened_by l) l.run link

-- The links of a history that keeps the law are a session, if the client of the first one has a number, and they were opened in range.
abbrev pub SessionLinksGoOn : Type 0
SessionLinksGoOn = (history : List Entry) (opened : LinkParameters) (numbers : ℕ → ℕ) (before : List Mark) (k : KeepsLaw history) → FitsHistory history opened numbers before → opened.client.number ≢ 0 →
    AreOpened (links_of opened numbers before k.n history) → IsSession (links_of opened numbers before k.n history)

-- A requester stands for this history, whose entries may follow on one another, and hasn't run out of memory: then each link was opened in range, and they are
-- a session, if the client of the first one has a number.
abbrev pub RepresentedLinksGoOn : Type 0
RepresentedLinksGoOn = (initial : InitialState) (r : RequesterSide) (stopped : Option Stop) (history : List Entry) (opened : LinkParameters) (numbers : ℕ → ℕ) (before : List Mark) (n : ℕ) → initial_of history ≡ Some initial →
    RepresentsHistory initial r stopped history → is_out_of_memory stopped ≡ false → EntriesMayFollow history → FitsInitialState initial (rejoins history) opened numbers before →
    AreOpened (links_of opened numbers before n history) × (opened.client.number ≢ 0 → IsSession (links_of opened numbers before n history))

-- ---- What is so of each session

-- two outcomes of one call are one, on one link
abbrev pub OutcomesComeOnce : Type 0
OutcomesComeOnce = (l : LinkRun) (link other : ℕ) (before other_before : List Mark) (xid : ℕ) (outcome other_outcome : Outcome) → IsSession l → IsTyped l.run → HasLink l link → HasLink l other →
    MarkAt l.run before (marks.Done link xid outcome) → MarkAt l.run other_before (marks.Done other xid other_outcome) → (link ≡ other) × (before ≡ other_before)

-- What the client offered on an earlier link of the session is out of reach on a later one, whatever the server sends: an access by such an STag ends it, and
-- neither that frame nor a later one changes what the client knows, of which its memory is part.
abbrev pub SessionStagsAreDead : Type 0
SessionStagsAreDead = (l : LinkRun) (first last : ℕ) (offered : Region) (earlier later : List RunEvent) (f : Frame) (segment : Segment) (access : Access) →
    (let before : EndState ClientState = end_state_after (client_rules (opened_by l last)) (initial_client (opened_by l last)) earlier in
    IsEarlier (opened_by l) l.run first last → first ≢ last → Contains (client (opened_by l first) first l.run).state.regions offered → access.stag ≡ offered.stag →
    events last Initiator l.run ≡ earlier ++ FrameReceived f ∷ later → before.ended ≡ None → is_hello f ≡ false → client_segment before.state f ≡ Ok segment → access_of segment ≡ Some access →
    StopsAt (client_rules (opened_by l last)) before f (client (opened_by l last) last l.run))
