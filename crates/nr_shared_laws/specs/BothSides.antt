-- A run of both sides of the links of a session, and what the one journal has of the session's calls.
use Rattle.std.specs.Prelude.{◌≡◌, ◌≢◌, ℕ, ◌<◌, ◌^◌, Bool, false, ◌&&◌, ◌==◌, if◌then◌else◌, List, [], ◌∷◌, ◌++◌, Option, Some}
use Rattle.std.specs.List.{filter, list_any}
use Rattle.nr_outside.specs.declared.moment.Moment.{Moment}
use Rattle.nr_wire.specs.declared.hello.Side.TheVariants.{Initiator, Responder}
use Rattle.nr_reduce.specs.declared.call.Call.{Call}
use Rattle.nr_reduce.specs.declared.call.Form.{Form}
use Rattle.nr_reduce.specs.declared.call.Outcome.{Outcome}
use Rattle.nr_reduce.specs.declared.call.Outcome.TheVariants as outcomes
use Rattle.nr_reduce.specs.declared.mark.Entry.{Entry}
use Rattle.nr_reduce.specs.declared.mark.Mark.{Mark}
use Rattle.nr_reduce.specs.declared.mark.Mark.TheVariants as marks
use Rattle.nr_reduce.specs.declared.mark.TaggedEntry.{TaggedEntry}
use Rattle.nr_reduce.specs.ClientState.{call_payload}
use Rattle.nr_reduce.specs.Events.{events}
use Rattle.nr_reduce.specs.History.{same_side}
use Rattle.nr_reduce.specs.KeepsCalls.{KeepsCalls}
use Rattle.nr_reduce.specs.Matched.{Matched}
use Rattle.nr_reduce.specs.NumberedJournal.{HasNoEntryTwice, JournaledByNumber, number_heard}
use Rattle.nr_reduce.specs.PlainJournal.{PlainServer}
use Rattle.nr_reduce.specs.Served.{ServedSoFar}
use Rattle.nr_laws.specs.MarkAt.{MarkAt}
use Rattle.nr_laws.specs.OnceEach.{HasEntry, IsAskedFor, MatchedWithEarlier}
use Rattle.nr_laws.specs.Payloads.{form_conveyed}
use Rattle.nr_laws.specs.PlainLinks.{server_with}
use Rattle.nr_laws.specs.Typed.{IsTyped}
use Rattle.nr_shared.specs.LinkRuns.{LinkRun}
use Rattle.nr_shared_laws.specs.Sessions.{HasLink, IsSession, opened_by}

-- ---- The client's marks of a run of both sides

abbrev pub has_link : LinkRun → ℕ → Bool
has_link l link = list_any (λ e. e.link == link) (l.at ∷ l.left)

-- whether a mark is one of the client on a link of the session
abbrev pub is_client_mark : LinkRun → Mark → Bool
is_client_mark l (marks.Wrote link side bytes) = has_link l link && same_side side Initiator
is_client_mark l (marks.Fed link side bytes) = has_link l link && same_side side Initiator
is_client_mark l (marks.Submit link call form answer) = has_link l link
is_client_mark l (marks.Done link xid outcome) = has_link l link
is_client_mark l (marks.Lost link xid) = has_link l link
is_client_mark l (marks.Forget link xid) = has_link l link
is_client_mark l (marks.Revoke link xid bytes) = has_link l link
is_client_mark l mark = false

abbrev pub client_marks : LinkRun → List Mark → List Mark
client_marks l both = filter (is_client_mark l) both

-- A run up to the mark by which it has as many marks of one's own as `made`: up to the last of these, if it begins with them. The marks of others that follow
-- it aren't taken.
abbrev pub up_to : (Mark → Bool) → (made : List Mark) → List Mark → List Mark
up_to is_own [] run = []
up_to is_own (k ∷ made) [] = []
up_to is_own (k ∷ made) (mark ∷ run) = mark ∷ up_to is_own (if is_own mark then made else k ∷ made) run

-- ---- A run of both sides

-- The client's marks of the run, on the links of the session, are those of the session, in order. Marks of the servers, and of other links, stand between
-- them. Each server of the session keeps its law so far, and each side receives what the other sends. The server of a link has no event before the client has:
-- when the client has made some of its marks (`made`), with no event of the link, the server has had none. So a link begins at its server only after the
-- client left the one before.
pub record IsBothSides (l : LinkRun) (both : List Mark) : Type 0 where
  pub client_side : client_marks l both ≡ l.run
  pub served : (link : ℕ) → HasLink l link → ServedSoFar (opened_by l link) link both
  pub matched : (link : ℕ) → HasLink l link → Matched link both
  pub begins : (link : ℕ) (made more : List Mark) → HasLink l link → l.run ≡ made ++ more → events link Initiator made ≡ [] → events link Responder (up_to (is_client_mark l) made both) ≡ []

-- No other client has the number of this session: each link whose server heard it, as that of a link of the session, is a link of the session.
abbrev pub HasNumberAlone : LinkRun → List Mark → Type 0
HasNumberAlone l both = (link other : ℕ) → HasLink l link → number_heard both link ≢ 0 → number_heard both other ≡ number_heard both link → HasLink l other

-- ---- The laws

-- With the marks of both sides too its links are links of one client, and each of them is matched with those before it.
abbrev pub BothSidesGoOn : Type 0
BothSidesGoOn = (l : LinkRun) (both : List Mark) → IsSession l → IsBothSides l both → IsSession (record l { run = both }) × ((link : ℕ) → HasLink l link → MatchedWithEarlier (opened_by l) both link)

-- a call was submitted under this xid, on this link of the session or on one before it
pub record IsOfCall (l : LinkRun) (link xid : ℕ) : Type 0 where
  pub call : Call
  pub form : Form
  pub asked : IsAskedFor (opened_by l) link l.run xid call form

-- What is so of the changes of a session. No two entries of the journal are of one number and one xid. Each outcome that was handed over is of a call that was
-- submitted. If it is a reply, and what the form of a call that was submitted so conveys adds an entry, there is one entry with the session's number and the
-- call's xid: that which the call adds, and the reply is the one of that entry.
pub record SessionChangesOnce (plain : PlainServer) (T : List TaggedEntry) (l : LinkRun) : Type 0 where
  pub once : HasNoEntryTwice T
  pub of_call : (link : ℕ) (before : List Mark) (xid : ℕ) (outcome : Outcome) → HasLink l link → MarkAt l.run before (marks.Done link xid outcome) → IsOfCall l link xid
  pub completed : (link : ℕ) (before : List Mark) (xid : ℕ) (call : Call) (form : Form) (moment : Moment) (payload reply : List ℕ) → HasLink l link → IsAskedFor (opened_by l) link l.run xid call form →
      MarkAt l.run before (marks.Done link xid (outcomes.Reply reply)) → form_conveyed form (call_payload xid call) ≡ Some payload → plain.adds moment payload reply ≢ [] →
      HasEntry plain T l.at.opened.client.number xid payload reply

-- So it is in each run of both sides whose journal is what the run's calls add, each by the number that its server heard. The client has a number, which no
-- other client has, and the server keeps calls.
abbrev pub SessionChangesTakeEffectOnce : Type 0
SessionChangesTakeEffectOnce = (reply_to : List Entry → Moment → List ℕ → Option (List ℕ)) (adds : Moment → List ℕ → List ℕ → List Entry) (l : LinkRun) (both : List Mark) (T : List TaggedEntry) →
    IsSession l → IsBothSides l both → HasNumberAlone l both → l.at.opened.client.number ≢ 0 → l.at.opened.client.number < 2 ^ 64 → IsTyped both →
    JournaledByNumber (server_with reply_to adds) (number_heard both) T both → KeepsCalls reply_to adds → SessionChangesOnce (server_with reply_to adds) T l
