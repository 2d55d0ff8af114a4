-- What is known of a link that goes on from another one: it is opened in range, both hellos agree on the same lengths again, no STag of before is
-- live, and no call is left over.
use Rattle.std.specs.Prelude.{◌≡◌, ℕ, ◌≤◌, true, false, ◌||◌, ◌==◌, List, ◌∷◌, ◌++◌, None, Some, Ok, Contains}
use Rattle.std.specs.List.{list_any}
use Rattle.nr_wire.specs.declared.hello.Side.TheVariants.{Initiator}
use Rattle.nr_wire.specs.Segment.{Segment}
use Rattle.nr_regions.specs.RegisteredMemory.{Access}
use Rattle.nr_link.specs.Agreement.{IsSendLimit}
use Rattle.nr_link.specs.Frames.{Frame, is_hello}
use Rattle.nr_link.specs.Ending.{access_of}
use Rattle.nr_reduce.specs.declared.mark.LinkParameters.{LinkParameters}
use Rattle.nr_reduce.specs.declared.mark.Mark.{Mark}
use Rattle.nr_reduce.specs.declared.mark.ResumedCall.{ResumedCall}
use Rattle.nr_reduce.specs.ClientState.{ClientState, stag_after}
use Rattle.nr_reduce.specs.Client.{client_segment, client_rules, initial_client}
use Rattle.nr_reduce.specs.EndRules.{EndState, end_state_after}
use Rattle.nr_reduce.specs.Events.{RunEvent, events}
use Rattle.nr_reduce.specs.Events.RunEvent.{FrameReceived}
use Rattle.nr_reduce.specs.OfferedRegions.{Region}
use Rattle.nr_reduce.specs.History.{AcceptedCall, CompletedCall, is_abandoned}
use Rattle.nr_reduce.specs.Limits.{numbers_end}
use Rattle.nr_reduce.specs.Asked.{AskedSoFar, client_calls}
use Rattle.nr_reduce.specs.Opening.{IsOpened, lengths_before}
use Rattle.nr_reduce.specs.Reopening.{reopened, IsReopened}
use Rattle.nr_reduce.specs.Run.{client}
use Rattle.nr_laws.specs.EndCauses.{AgreesAgain}
use Rattle.nr_laws.specs.MatchedSoFar.{MatchedSoFar}
use Rattle.nr_laws.specs.OnceEach.{BegunLink, GoesOn}
use Rattle.nr_laws.specs.Touches.{StopsAt}
use Rattle.nr_laws.specs.Typed.{IsTyped}

-- The lengths of Sends that an earlier hello agreed on, if there was one, are from one unit to the most units.
abbrev pub AgreedInRange : LinkParameters → Type 0
AgreedInRange opened = IsSendLimit (lengths_before opened.agreed).up × IsSendLimit (lengths_before opened.agreed).down

-- If a client keeps its law on a link that was opened in range, and STags are left for its calls, the next link is opened in range.
abbrev pub ReopenedLinksAreOpened : Type 0
ReopenedLinksAreOpened = (opened : LinkParameters) (link : ℕ) (run : List Mark) → IsOpened opened → AgreedInRange opened → IsTyped run → AskedSoFar opened link run →
    stag_after (reopened opened link run).first_stag (reopened opened link run).resumed ≤ numbers_end → IsOpened (reopened opened link run) × AgreedInRange (reopened opened link run)

-- If a matched link's hellos agree on what an earlier one did, if there was one, those of the next link do, too.
abbrev pub ReopenedLinksAgree : Type 0
ReopenedLinksAgree = (opened next_opened : LinkParameters) (link : ℕ) (run before : List Mark) → IsReopened opened next_opened link run before →
    AgreesAgain opened → IsTyped run → MatchedSoFar opened link run → AgreesAgain next_opened

-- What a client offered on a link is out of reach on each later one of its links, whatever the server sends: an access by such an STag ends it, and
-- neither that frame nor a later one changes what the client knows, of which its memory is part.
abbrev pub EarlierStagsAreDead : Type 0
EarlierStagsAreDead = (opened : ℕ → LinkParameters) (first : ℕ) (last old : BegunLink) (links : List BegunLink) (run : List Mark) (offered : Region)
    (earlier later : List RunEvent) (f : Frame) (segment : Segment) (access : Access) →
    (let before : EndState ClientState = end_state_after (client_rules (opened last.link)) (initial_client (opened last.link)) earlier in
    GoesOn opened run first last (old ∷ links) → Contains (client (opened first) first run).state.regions offered → access.stag ≡ offered.stag →
    events last.link Initiator run ≡ earlier ++ FrameReceived f ∷ later → before.ended ≡ None → is_hello f ≡ false → client_segment before.state f ≡ Ok segment → access_of segment ≡ Some access →
    StopsAt (client_rules (opened last.link)) before f (client (opened last.link) last.link run))

-- Of each call that the client has, accepted on this link or to be sent again, and that wasn't given up, an outcome came, or the next link sends it
-- again.
abbrev pub NoCallIsLeftOver : Type 0
NoCallIsLeftOver = (opened : LinkParameters) (link : ℕ) (run : List Mark) (xid : ℕ) → (client opened link run).ended ≡ None → is_abandoned link xid run ≡ false →
    list_any (λ (a : AcceptedCall). a.xid == xid) (client_calls opened link run) ≡ true →
    (list_any (λ (c : CompletedCall). c.xid == xid) (client opened link run).state.outcomes || list_any (λ (r : ResumedCall). r.xid == xid) (reopened opened link run).resumed) ≡ true
