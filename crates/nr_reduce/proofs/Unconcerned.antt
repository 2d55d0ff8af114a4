-- A mark that doesn't concern a side of a link changes nothing of it: it is no event of the side, brings no bytes, and the side's law asks
-- nothing of it.
use Rattle.std.proofs.Common.{◌≡◌, ◌≢◌, ℕ, Bool, true, false, cond, ◌&&◌, ◌||◌, eqb, List, [], ◌∷◌, ◌++◌, length, map, refl, sym, ap, ◌∙◌, append-nil}
use Rattle.std.proofs.lemmas.Bool.{eq-eqb}
use Rattle.nr_wire.specs.declared.hello.Side.{Side}
use Rattle.nr_wire.specs.declared.hello.Side.TheVariants.{Initiator, Responder}
use Rattle.nr_link.specs.Frames.{Frame, frames_completed}
use Rattle.nr_reduce.specs.declared.call.Call.{Call}
use Rattle.nr_reduce.specs.declared.call.Form.{Form}
use Rattle.nr_reduce.specs.declared.call.Submission.{Submission}
use Rattle.nr_reduce.specs.declared.call.Submission.TheVariants as submissions
use Rattle.nr_reduce.specs.declared.mark.Mark.{Mark}
use Rattle.nr_reduce.specs.declared.mark.Mark.TheVariants as marks
use Rattle.nr_reduce.specs.declared.mark.LinkParameters.{LinkParameters}
use Rattle.nr_wire.specs.Hello.{peer}
use Rattle.nr_reduce.specs.History.{written_at, fed_at, bytes_sent, bytes_received, accepted_as, accepted_at, executed_at, completed_at, abandons}
use Rattle.nr_reduce.specs.Concerns.{is_judged, is_fed, concerns}
use Rattle.nr_reduce.specs.Events.{RunEvent, if_own, mark_events, events_at}
use Rattle.nr_reduce.specs.Events.RunEvent.{FrameReceived, CallSubmitted, MemoryRevoked, CallExecuted, QueueWritten, ServerTold}
use Rattle.nr_reduce.specs.EndRules.{end_state_after}
use Rattle.nr_reduce.specs.Client.{client_rules}
use Rattle.nr_reduce.specs.Server.{server_rules}
use Rattle.nr_reduce.specs.Run.{client, server}
use Rattle.nr_reduce.specs.Credits.{WithinGrant}
use Rattle.nr_reduce.specs.Asked.{AskedMark}
use Rattle.nr_reduce.specs.Served.{ServedMark}
use Rattle.nr_reduce.proofs.Steps.{client_one, server_one}
use Rattle.nr_reduce.proofs.Standing.{sent_one, received_one}

-- ---- Marks of other links

-- a mark of another link concerns no side of this one
pub is_apart : (l link : ℕ) (b : Bool) → l ≢ link → (eqb l link && b) ≡ false
is_apart l link b ne = ap (λ (x : Bool). x && b) (by (eqb l link) refl)
  where
    by : (x : Bool) → eqb l link ≡ x → eqb l link ≡ false
    by true is = absurd (ne (Rattle.std.proofs.lemmas.Bool.eqb-true l link is))
    by false is = is

-- and one of this side is of another link, if it doesn't concern the side
pub not_own : (l link : ℕ) → (eqb l link && true) ≡ false → l ≢ link
not_own l link e same = absurd (let wrong : true ≡ false = sym (ap (λ (b : Bool). b && true) (eq-eqb l link same)) ∙ e in cc)

-- nor does a mark of the other side concern this one
pub fed_elsewhere : (b : Bool) → (b && false) ≡ false
fed_elsewhere true = refl
fed_elsewhere false = refl

pub of_other_side : (b : Bool) → ((b && false) || false) ≡ false
of_other_side b = ap (λ (x : Bool). x || false) (fed_elsewhere b)

pub submit_elsewhere : (link l : ℕ) (call : Call) (form : Form) (answer : Submission) → concerns link Responder (marks.Submit l call form answer) ≡ false
submit_elsewhere link l call form (submissions.Accepted xid) = of_other_side (eqb l link)
submit_elsewhere link l call form (submissions.Refused why) = refl
submit_elsewhere link l call form submissions.Dropped = refl

neither : (a b : Bool) → (a || b) ≡ false → (a ≡ false) × (b ≡ false)
neither true b e = absurd cc
neither false b e = (refl, e)

pub not_judged : (link : ℕ) (side : Side) (mark : Mark) → concerns link side mark ≡ false → is_judged link side mark ≡ false
not_judged link side mark e = (neither (is_judged link side mark) (is_fed link side mark) e).0

pub not_fed : (link : ℕ) (side : Side) (mark : Mark) → concerns link side mark ≡ false → is_fed link side mark ≡ false
not_fed link side mark e = (neither (is_judged link side mark) (is_fed link side mark) e).1

-- ---- Events and bytes

pub no_mark_events : (link : ℕ) (side : Side) (place : ℕ) (completed : List ℕ → List Frame) (mark : Mark) → is_judged link side mark ≡ false → is_fed link side mark ≡ false → mark_events link side place completed mark ≡ []
no_mark_events link side place completed (marks.Submit l call form (submissions.Accepted xid)) e fed = ap (λ (b : Bool). if_own b (CallSubmitted place (record { xid = xid; call = call; form = form }) ∷ [])) e
no_mark_events link side place completed (marks.Submit l call form (submissions.Refused why)) e fed = refl
no_mark_events link side place completed (marks.Submit l call form submissions.Dropped) e fed = refl
no_mark_events link side place completed (marks.Wrote l s bytes) e fed = ap (λ (b : Bool). if_own b (QueueWritten (length bytes) ∷ [])) e
no_mark_events link side place completed (marks.Fed l s bytes) e fed = ap (λ (b : Bool). if_own b (map FrameReceived (completed bytes))) fed
no_mark_events link side place completed (marks.Execute l xid moment payload at reply) e fed =
    ap (λ (b : Bool). if_own b (CallExecuted (record { xid = xid; moment = moment; payload = payload; place = at; reply = reply }) ∷ [])) e
no_mark_events link side place completed (marks.Done l xid outcome) e fed = refl
no_mark_events link side place completed (marks.Lost l xid) e fed = refl
no_mark_events link side place completed (marks.Forget l xid) e fed = refl
no_mark_events link side place completed (marks.Revoke l xid bytes) e fed = ap (λ (b : Bool). if_own b (MemoryRevoked place xid ∷ [])) e
no_mark_events link side place completed (marks.Drop l) e fed = refl
no_mark_events link side place completed (marks.Told l what) e fed = ap (λ (b : Bool). if_own b (ServerTold what ∷ [])) e

pub no_events : (link : ℕ) (side : Side) (before : List Mark) (mark : Mark) → concerns link side mark ≡ false → events_at link side before mark ≡ []
no_events link side before mark e =
    no_mark_events link side (length (bytes_received link side before)) (frames_completed (peer side) (bytes_received link side before)) mark (not_judged link side mark e) (not_fed link side mark e)

pub none_written : (link : ℕ) (side : Side) (mark : Mark) → is_judged link side mark ≡ false → written_at link side mark ≡ []
none_written link side (marks.Submit l call form answer) e = refl
none_written link side (marks.Wrote l s bytes) e = ap (λ (b : Bool). cond b bytes []) e
none_written link side (marks.Fed l s bytes) e = refl
none_written link side (marks.Execute l xid moment payload place reply) e = refl
none_written link side (marks.Done l xid outcome) e = refl
none_written link side (marks.Lost l xid) e = refl
none_written link side (marks.Forget l xid) e = refl
none_written link side (marks.Revoke l xid bytes) e = refl
none_written link side (marks.Drop l) e = refl
none_written link side (marks.Told l what) e = refl

pub none_fed : (link : ℕ) (side : Side) (mark : Mark) → is_fed link side mark ≡ false → fed_at link side mark ≡ []
none_fed link side (marks.Submit l call form answer) e = refl
none_fed link side (marks.Wrote l s bytes) e = refl
none_fed link side (marks.Fed l s bytes) e = ap (λ (b : Bool). cond b bytes []) e
none_fed link side (marks.Execute l xid moment payload place reply) e = refl
none_fed link side (marks.Done l xid outcome) e = refl
none_fed link side (marks.Lost l xid) e = refl
none_fed link side (marks.Forget l xid) e = refl
none_fed link side (marks.Revoke l xid bytes) e = refl
none_fed link side (marks.Drop l) e = refl
none_fed link side (marks.Told l what) e = refl

pub sent_stays : (link : ℕ) (side : Side) (run : List Mark) (mark : Mark) → is_judged link side mark ≡ false → bytes_sent link side (run ++ mark ∷ []) ≡ bytes_sent link side run
sent_stays link side run mark e = sent_one link side run mark ∙ ap (λ (xs : List ℕ). bytes_sent link side run ++ xs) (none_written link side mark e) ∙ append-nil (bytes_sent link side run)

pub received_stays : (link : ℕ) (side : Side) (run : List Mark) (mark : Mark) → is_fed link side mark ≡ false → bytes_received link side (run ++ mark ∷ []) ≡ bytes_received link side run
received_stays link side run mark e = received_one link side run mark ∙ ap (λ (xs : List ℕ). bytes_received link side run ++ xs) (none_fed link side mark e) ∙ append-nil (bytes_received link side run)

pub client_unconcerned : (opened : LinkParameters) (link : ℕ) (run : List Mark) (mark : Mark) → concerns link Initiator mark ≡ false → client opened link (run ++ mark ∷ []) ≡ client opened link run
client_unconcerned opened link run mark e = client_one opened link run mark ∙ ap (λ (es : List RunEvent). end_state_after (client_rules opened) (client opened link run) es) (no_events link Initiator run mark e)

pub server_unconcerned : (opened : LinkParameters) (link : ℕ) (run : List Mark) (mark : Mark) → concerns link Responder mark ≡ false → server opened link (run ++ mark ∷ []) ≡ server opened link run
server_unconcerned opened link run mark e = server_one opened link run mark ∙ ap (λ (es : List RunEvent). end_state_after (server_rules opened) (server opened link run) es) (no_events link Responder run mark e)

-- ---- Calls

other_link : (b : Bool) → (b && true) ≡ false → b ≡ false
other_link true e = e
other_link false e = refl

pub none_accepted : (link : ℕ) (mark : Mark) → is_judged link Initiator mark ≡ false → accepted_at link mark ≡ []
none_accepted link (marks.Submit l call form (submissions.Accepted xid)) e = ap (λ (b : Bool). cond b (record { xid = xid; call = call; form = form } ∷ []) []) (other_link (eqb l link) e)
none_accepted link (marks.Submit l call form (submissions.Refused why)) e = by (eqb l link)
  where
    by : (b : Bool) → cond b (accepted_as (submissions.Refused why) call form) [] ≡ []
    by true = refl
    by false = refl
none_accepted link (marks.Submit l call form submissions.Dropped) e = by (eqb l link)
  where
    by : (b : Bool) → cond b (accepted_as submissions.Dropped call form) [] ≡ []
    by true = refl
    by false = refl
none_accepted link (marks.Wrote l side bytes) e = refl
none_accepted link (marks.Fed l side bytes) e = refl
none_accepted link (marks.Execute l xid moment payload place reply) e = refl
none_accepted link (marks.Done l xid outcome) e = refl
none_accepted link (marks.Lost l xid) e = refl
none_accepted link (marks.Forget l xid) e = refl
none_accepted link (marks.Revoke l xid bytes) e = refl
none_accepted link (marks.Drop l) e = refl
none_accepted link (marks.Told l what) e = refl

pub none_completed : (link : ℕ) (mark : Mark) → is_judged link Initiator mark ≡ false → completed_at link mark ≡ []
none_completed link (marks.Submit l call form answer) e = refl
none_completed link (marks.Wrote l side bytes) e = refl
none_completed link (marks.Fed l side bytes) e = refl
none_completed link (marks.Execute l xid moment payload place reply) e = refl
none_completed link (marks.Done l xid outcome) e = ap (λ (b : Bool). cond b (record { xid = xid; outcome = outcome } ∷ []) []) (other_link (eqb l link) e)
none_completed link (marks.Lost l xid) e = refl
none_completed link (marks.Forget l xid) e = refl
none_completed link (marks.Revoke l xid bytes) e = refl
none_completed link (marks.Drop l) e = refl
none_completed link (marks.Told l what) e = refl

pub none_abandoned : (link xid : ℕ) (mark : Mark) → is_judged link Initiator mark ≡ false → abandons link xid mark ≡ false
none_abandoned link xid (marks.Submit l call form answer) e = refl
none_abandoned link xid (marks.Wrote l side bytes) e = refl
none_abandoned link xid (marks.Fed l side bytes) e = refl
none_abandoned link xid (marks.Execute l x moment payload place reply) e = refl
none_abandoned link xid (marks.Done l x outcome) e = refl
none_abandoned link xid (marks.Lost l x) e = ap (λ (b : Bool). b && eqb x xid) (other_link (eqb l link) e)
none_abandoned link xid (marks.Forget l x) e = ap (λ (b : Bool). b && eqb x xid) (other_link (eqb l link) e)
none_abandoned link xid (marks.Revoke l x bytes) e = ap (λ (b : Bool). b && eqb x xid) (other_link (eqb l link) e)
none_abandoned link xid (marks.Drop l) e = refl
none_abandoned link xid (marks.Told l what) e = refl

pub none_executed : (link : ℕ) (mark : Mark) → is_judged link Responder mark ≡ false → executed_at link mark ≡ []
none_executed link (marks.Submit l call form answer) e = refl
none_executed link (marks.Wrote l side bytes) e = refl
none_executed link (marks.Fed l side bytes) e = refl
none_executed link (marks.Execute l xid moment payload place reply) e =
    ap (λ (b : Bool). cond b (record { xid = xid; moment = moment; payload = payload; place = place; reply = reply } ∷ []) []) (other_link (eqb l link) e)
none_executed link (marks.Done l xid outcome) e = refl
none_executed link (marks.Lost l xid) e = refl
none_executed link (marks.Forget l xid) e = refl
none_executed link (marks.Revoke l xid bytes) e = refl
none_executed link (marks.Drop l) e = refl
none_executed link (marks.Told l what) e = refl

-- ---- The laws

pub none_asked : (Relates : List ℕ → List ℕ → Type 0) (opened : LinkParameters) (link : ℕ) (before : List Mark) (mark : Mark) → is_judged link Initiator mark ≡ false → AskedMark Relates opened link before mark
none_asked Relates opened link before (marks.Submit l call form (submissions.Accepted xid)) e = λ same. absurd (not_own l link e same)
none_asked Relates opened link before (marks.Submit l call form (submissions.Refused why)) e = tt
none_asked Relates opened link before (marks.Submit l call form submissions.Dropped) e = tt
none_asked Relates opened link before (marks.Wrote l Initiator bytes) e = λ same. absurd (not_own l link e same)
none_asked Relates opened link before (marks.Wrote l Responder bytes) e = tt
none_asked Relates opened link before (marks.Fed l side bytes) e = tt
none_asked Relates opened link before (marks.Execute l xid moment payload place reply) e = tt
none_asked Relates opened link before (marks.Done l xid outcome) e = λ same. absurd (not_own l link e same)
none_asked Relates opened link before (marks.Lost l xid) e = λ same. absurd (not_own l link e same)
none_asked Relates opened link before (marks.Forget l xid) e = λ same. absurd (not_own l link e same)
none_asked Relates opened link before (marks.Revoke l xid bytes) e = λ same. absurd (not_own l link e same)
none_asked Relates opened link before (marks.Drop l) e = tt
none_asked Relates opened link before (marks.Told l what) e = tt

pub none_granted : (opened : LinkParameters) (link : ℕ) (before : List Mark) (mark : Mark) → is_judged link Initiator mark ≡ false → WithinGrant opened link before mark
none_granted opened link before (marks.Submit l call form (submissions.Accepted xid)) e = λ same. absurd (not_own l link e same)
none_granted opened link before (marks.Submit l call form (submissions.Refused why)) e = tt
none_granted opened link before (marks.Submit l call form submissions.Dropped) e = tt
none_granted opened link before (marks.Wrote l side bytes) e = tt
none_granted opened link before (marks.Fed l side bytes) e = tt
none_granted opened link before (marks.Execute l xid moment payload place reply) e = tt
none_granted opened link before (marks.Done l xid outcome) e = tt
none_granted opened link before (marks.Lost l xid) e = tt
none_granted opened link before (marks.Forget l xid) e = tt
none_granted opened link before (marks.Revoke l xid bytes) e = tt
none_granted opened link before (marks.Drop l) e = tt
none_granted opened link before (marks.Told l what) e = tt

pub none_served : (Relates : List ℕ → List ℕ → Type 0) (opened : LinkParameters) (link : ℕ) (before : List Mark) (mark : Mark) → is_judged link Responder mark ≡ false → ServedMark Relates opened link before mark
none_served Relates opened link before (marks.Submit l call form answer) e = tt
none_served Relates opened link before (marks.Wrote l Initiator bytes) e = tt
none_served Relates opened link before (marks.Wrote l Responder bytes) e = λ same. absurd (not_own l link e same)
none_served Relates opened link before (marks.Fed l side bytes) e = tt
none_served Relates opened link before (marks.Execute l xid moment payload place reply) e = λ same. absurd (not_own l link e same)
none_served Relates opened link before (marks.Done l xid outcome) e = tt
none_served Relates opened link before (marks.Lost l xid) e = tt
none_served Relates opened link before (marks.Forget l xid) e = tt
none_served Relates opened link before (marks.Revoke l xid bytes) e = tt
none_served Relates opened link before (marks.Drop l) e = tt
none_served Relates opened link before (marks.Told l what) e = λ same. absurd (not_own l link e same)
