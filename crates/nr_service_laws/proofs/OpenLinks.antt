-- The client's side of a link has the events of its own marks, and on a matched link it stays open.
use Rattle.std.proofs.Common.{◌≡◌, ◌⊎◌, ℕ, Bool, true, false, cond, ◌&&◌, eqb, List, [], ◌∷◌, ◌++◌, length, Option, None, Result, Err, inl, inr, refl, sym, ap, subst, ◌∙◌, append-nil, eq-eqb}
use Rattle.std.specs.List.{AllByRecursion, filter}
use Rattle.nr_wire.specs.declared.hello.Side.TheVariants.{Initiator}
use Rattle.nr_link.specs.declared.end.End.TheVariants as ends
use Rattle.nr_link.specs.Frames.{Frame, frames_completed}
use Rattle.nr_reduce.specs.declared.call.Form.TheVariants as forms
use Rattle.nr_reduce.specs.declared.call.Submission.TheVariants as submissions
use Rattle.nr_reduce.specs.declared.mark.LinkParameters.{LinkParameters}
use Rattle.nr_reduce.specs.declared.mark.Mark.{Mark}
use Rattle.nr_reduce.specs.declared.mark.Mark.TheVariants as marks
use Rattle.nr_reduce.specs.AtEachMark.{AtEachMark}
use Rattle.nr_reduce.specs.Events.{RunEvent, events, events_at, events_from, if_own, mark_events}
use Rattle.nr_wire.specs.Hello.{peer}
use Rattle.nr_reduce.specs.History.{bytes_received, fed_at, same_side}
use Rattle.nr_reduce.specs.Client.{client_rules, initial_client}
use Rattle.nr_reduce.specs.EndRules.{end_state_after}
use Rattle.nr_reduce.specs.Run.{client as client_of, end_of_side}
use Rattle.nr_reduce.proofs.Standing.{one_more}
use Rattle.nr_link.specs.declared.agreement.Agreement.{Agreement}
use Rattle.nr_link.specs.Agreement.{agreement, responder_private}
use Rattle.nr_reduce.specs.Client.{has_same_sizes}
use Rattle.nr_reduce.specs.Hellos.{client_private}
use Rattle.nr_laws.specs.EndCauses.{AgreesAgain}
use Rattle.nr_laws.specs.Stays.{ConveyedMark, NotRevokedMark}
use Rattle.nr_laws.proofs.NeitherEnds.{links_stay}
use Rattle.nr_laws.proofs.NoOldCalls.{no_old_call}
use Rattle.nr_requester.specs.RequesterState.{RequesterSide}
use Rattle.nr_shared.specs.declared.call_end.CallEnd.TheVariants as calls
use Rattle.nr_client.specs.declared.client_end.ClientEnd.{ClientEnd}
use Rattle.nr_client.specs.declared.client_end.ClientEnd.TheVariants as client
use Rattle.nr_commands.specs.Running.Runs.{NotOpened, Opened}
use Rattle.nr_service_laws.specs.ClientMarks.{IsOwn, StandsAt}
use Rattle.nr_service_laws.specs.ServedCommands.{client_marks, is_client_mark}
use Rattle.nr_service_laws.specs.ServedLinks.{ServedClientsStayOpen, ServedCommandsStayOpen}

-- ---- Marks that are no client's

and_never : (b : Bool) → (b && false) ≡ false
and_never true = refl
and_never false = refl

not_own : (b : Bool) (es : List RunEvent) → b ≡ false → if_own b es ≡ []
not_own b es is = ap (λ (c : Bool). if_own c es) is

others_no_events : (link place : ℕ) (completed : List ℕ → List Frame) (m : Mark) → is_client_mark link m ≡ false → mark_events link Initiator place completed m ≡ []
others_no_events link place completed (marks.Wrote l side bytes) is = not_own (eqb l link && same_side side Initiator) _ is
others_no_events link place completed (marks.Fed l side bytes) is = not_own (eqb l link && same_side side Initiator) _ is
others_no_events link place completed (marks.Submit l call form (submissions.Accepted xid)) is = not_own (eqb l link && true) _ (ap (λ (b : Bool). b && true) is)
others_no_events link place completed (marks.Submit l call form (submissions.Refused why)) is = refl
others_no_events link place completed (marks.Submit l call form submissions.Dropped) is = refl
others_no_events link place completed (marks.Execute l xid moment payload at reply) is = not_own (eqb l link && false) _ (and_never (eqb l link))
others_no_events link place completed (marks.Done l xid outcome) is = refl
others_no_events link place completed (marks.Lost l xid) is = refl
others_no_events link place completed (marks.Forget l xid) is = refl
others_no_events link place completed (marks.Revoke l xid bytes) is = not_own (eqb l link && true) _ (ap (λ (b : Bool). b && true) is)
others_no_events link place completed (marks.Drop l) is = refl
others_no_events link place completed (marks.Told l what) is = not_own (eqb l link && false) _ (and_never (eqb l link))

pub others_not_fed : (link : ℕ) (m : Mark) → is_client_mark link m ≡ false → fed_at link Initiator m ≡ []
others_not_fed link (marks.Wrote l side bytes) is = refl
others_not_fed link (marks.Fed l side bytes) is = ap (λ (b : Bool). cond b bytes []) is
others_not_fed link (marks.Submit l call form answer) is = refl
others_not_fed link (marks.Execute l xid moment payload at reply) is = refl
others_not_fed link (marks.Done l xid outcome) is = refl
others_not_fed link (marks.Lost l xid) is = refl
others_not_fed link (marks.Forget l xid) is = refl
others_not_fed link (marks.Revoke l xid bytes) is = refl
others_not_fed link (marks.Drop l) is = refl
others_not_fed link (marks.Told l what) is = refl

received_more : (link : ℕ) (run : List Mark) (m : Mark) → bytes_received link Initiator (run ++ m ∷ []) ≡ bytes_received link Initiator run ++ fed_at link Initiator m
unfolding bytes_received
received_more link run m = one_more (fed_at link Initiator) run m

-- ---- The events of a client

pub events_kept : (link : ℕ) (before kept rest : List Mark) → bytes_received link Initiator before ≡ bytes_received link Initiator kept
    → events_from link Initiator before rest ≡ events_from link Initiator kept (filter (is_client_mark link) rest)
events_kept link before kept [] same = refl
events_kept link before kept (m ∷ rest) same =
    by (is_client_mark link m) refl (λ later agree. events_kept link (before ++ m ∷ []) later rest agree)
  where
    at_mark : events_at link Initiator before m ≡ events_at link Initiator kept m
    at_mark = ap (λ (bs : List ℕ). mark_events link Initiator (length bs) (frames_completed (peer Initiator) bs) m) same

    by : (b : Bool) → is_client_mark link m ≡ b
        → ((later : List Mark) → bytes_received link Initiator (before ++ m ∷ []) ≡ bytes_received link Initiator later
        → events_from link Initiator (before ++ m ∷ []) rest ≡ events_from link Initiator later (filter (is_client_mark link) rest))
        → events_at link Initiator before m ++ events_from link Initiator (before ++ m ∷ []) rest
        ≡ events_from link Initiator kept (cond (is_client_mark link m) (m ∷ filter (is_client_mark link) rest) (filter (is_client_mark link) rest))
    by true is goes =
        ap (λ (es : List RunEvent). es ++ events_from link Initiator (before ++ m ∷ []) rest) at_mark
        ∙ ap (λ (es : List RunEvent). events_at link Initiator kept m ++ es)
        (goes (kept ++ m ∷ []) (received_more link before m ∙ ap (λ (bs : List ℕ). bs ++ fed_at link Initiator m) same ∙ sym (received_more link kept m)))
        ∙ ap (λ (b : Bool). events_from link Initiator kept (cond b (m ∷ filter (is_client_mark link) rest) (filter (is_client_mark link) rest))) (sym is)
    by false is goes =
        ap (λ (es : List RunEvent). es ++ events_from link Initiator (before ++ m ∷ []) rest)
        (others_no_events link (length (bytes_received link Initiator before)) (frames_completed (peer Initiator) (bytes_received link Initiator before)) m is)
        ∙ goes kept (received_more link before m ∙ ap (λ (bs : List ℕ). bytes_received link Initiator before ++ bs) (others_not_fed link m is) ∙ append-nil (bytes_received link Initiator before) ∙ same)
        ∙ ap (λ (b : Bool). events_from link Initiator kept (cond b (m ∷ filter (is_client_mark link) rest) (filter (is_client_mark link) rest))) (sym is)

client_kept : (opened : LinkParameters) (link : ℕ) (both : List Mark) → end_of_side opened link Initiator both ≡ end_of_side opened link Initiator (client_marks link both)
unfolding end_of_side client_of events
client_kept opened link both =
    ap (λ (es : List RunEvent). (end_state_after (client_rules opened) (initial_client opened) es).ended)
    (events_kept link [] [] both refl)

-- ---- What each mark is, if the client's marks are those of a command

pub own_each : (Q : List Mark → Mark → Type 0) (link : ℕ) (before rest : List Mark) → ((earlier : List Mark) (m : Mark) → (is_client_mark link m ≡ true → IsOwn link m) → Q earlier m)
    → AllByRecursion (IsOwn link) (filter (is_client_mark link) rest) → AtEachMark Q before rest
own_each Q link before [] each all = tt
own_each Q link before (m ∷ rest) each all = by (is_client_mark link m) refl all (λ later. own_each Q link (before ++ m ∷ []) rest each later)
  where
    by : (b : Bool) → is_client_mark link m ≡ b → AllByRecursion (IsOwn link) (cond b (m ∷ filter (is_client_mark link) rest) (filter (is_client_mark link) rest))
        → (AllByRecursion (IsOwn link) (filter (is_client_mark link) rest) → AtEachMark Q (before ++ m ∷ []) rest) → Q before m × AtEachMark Q (before ++ m ∷ []) rest
    by true is own goes = (each before m (λ same. own.0), goes own.1)
    by false is own goes = (each before m (λ same. absurd (let wrong : true ≡ false = sym same ∙ is in cc)), goes own)

pub not_revoked : (link : ℕ) (before : List Mark) (m : Mark) → (is_client_mark link m ≡ true → IsOwn link m) → NotRevokedMark link before m
not_revoked link before (marks.Revoke l xid bytes) own = λ same. own (eq-eqb l link same)
not_revoked link before (marks.Wrote l side bytes) own = tt
not_revoked link before (marks.Fed l side bytes) own = tt
not_revoked link before (marks.Submit l call form answer) own = tt
not_revoked link before (marks.Execute l xid moment payload at reply) own = tt
not_revoked link before (marks.Done l xid outcome) own = tt
not_revoked link before (marks.Lost l xid) own = tt
not_revoked link before (marks.Forget l xid) own = tt
not_revoked link before (marks.Drop l) own = tt
not_revoked link before (marks.Told l what) own = tt

pub conveyed : (opened : LinkParameters) (link : ℕ) (before : List Mark) (m : Mark) → (is_client_mark link m ≡ true → IsOwn link m) → ConveyedMark opened link before m
conveyed opened link before (marks.Submit l call forms.Auto (submissions.Accepted xid)) own = λ same plan is. tt
conveyed opened link before (marks.Submit l call forms.Inline (submissions.Accepted xid)) own = λ same plan is. tt
conveyed opened link before (marks.Submit l call forms.Chunk (submissions.Accepted xid)) own = λ same plan is. tt
conveyed opened link before (marks.Submit l call forms.Long (submissions.Accepted xid)) own = λ same plan is. tt
conveyed opened link before (marks.Submit l call (forms.Given offer) (submissions.Accepted xid)) own = λ same plan is. absurd (own (eq-eqb l link same))
conveyed opened link before (marks.Submit l call form (submissions.Refused why)) own = tt
conveyed opened link before (marks.Submit l call form submissions.Dropped) own = tt
conveyed opened link before (marks.Wrote l side bytes) own = tt
conveyed opened link before (marks.Fed l side bytes) own = tt
conveyed opened link before (marks.Execute l xid moment payload at reply) own = tt
conveyed opened link before (marks.Done l xid outcome) own = tt
conveyed opened link before (marks.Lost l xid) own = tt
conveyed opened link before (marks.Forget l xid) own = tt
conveyed opened link before (marks.Revoke l xid bytes) own = tt
conveyed opened link before (marks.Drop l) own = tt
conveyed opened link before (marks.Told l what) own = tt

-- ---- The link stays open

-- no earlier hello agreed on anything
pub agrees_first : (opened : LinkParameters) → opened.agreed ≡ None → AgreesAgain opened
agrees_first opened none = ap (λ (a : Option Agreement). has_same_sizes a (agreement (client_private opened) (responder_private opened.server (client_private opened)))) none

pub served_clients_stay_lem : ServedClientsStayOpen
served_clients_stay_lem reply_to adds opened link run both is_opened again own served laws fresh =
    let owns = subst (λ (r : List Mark). AllByRecursion (IsOwn link) r) (sym served.client_side) own in
    let stays = links_stay reply_to adds opened link both is_opened again served.typed laws fresh (own_each (NotRevokedMark link) link [] both (not_revoked link) owns)
    (own_each (ConveyedMark opened link) link [] both (conveyed opened link) owns) served.limits served.plain in
    ap (λ (r : List Mark). end_of_side opened link Initiator r) (sym served.client_side) ∙ sym (client_kept opened link both) ∙ stays.0

pub requester_open : {A : Type 0} (result : Result A ClientEnd) (opened : LinkParameters) (link : ℕ) (h : RequesterSide) (ahead : List ℕ) (run : List Mark) → StandsAt result opened link h ahead run
    → end_of_side opened link Initiator run ≡ None
    → (h.state.side.ended ≡ None) ⊎ (result ≡ Err (client.Link (calls.Ended ends.Memory)))
unfolding end_of_side
requester_open result opened link h ahead run (inl (live, fed)) stays = inl (live.stands.keeps.kept.keeps.ended ∙ stays)
requester_open result opened link h ahead run (inr (is, out)) stays = inr is

pub served_commands_stay_lem : ServedCommandsStayOpen
served_commands_stay_lem opened link c before after input input' out out' result (NotOpened end is fails same_input same_out) = tt
served_commands_stay_lem opened link c before after input input' out out' result (Opened dialed s s' opens prints closes) = λ ran reply_to adds both is_opened served laws.
    let fresh = no_old_call opened link both served.typed served.matched ran.unnumbered in
    requester_open result opened link s'.requester ran.ahead ran.run ran.stands (served_clients_stay_lem reply_to adds opened link ran.run both is_opened (agrees_first opened ran.first_link.agreed) ran.own served laws fresh)
