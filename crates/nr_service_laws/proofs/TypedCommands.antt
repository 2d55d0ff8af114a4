-- The marks of a command over a source of bytes are of their types.
use Rattle.std.proofs.Common.{◌≡◌, ℕ, Bool, true, false, cond, not, ◌&&◌, eqb, List, [], ◌∷◌, ◌++◌, Option, None, Some, sym, ap, subst}
use Rattle.std.specs.List.{AllByRecursion, flat_map}
use Rattle.std.proofs.lemmas.List.Elements.{All-contains, All-from_recursion}
use Rattle.std.specs.Io.KnownBytes.{Consumes}
use Rattle.nr_xdr.specs.Item.{IsBytes}
use Rattle.nr_xdr.proofs.Chains.{IsBytes_left, IsBytes_right}
use Rattle.nr_wire.specs.declared.hello.Side.TheVariants.{Initiator, Responder}
use Rattle.nr_reduce.specs.Asked.{AskedMark, IsCompleted}
use Rattle.nr_reduce.specs.AtEachMark.{AtEachMark}
use Rattle.nr_reduce.specs.Matched.{IsPrefixOf}
use Rattle.nr_reduce.specs.declared.call.Form.TheVariants as forms
use Rattle.nr_reduce.specs.declared.call.Outcome.{Outcome}
use Rattle.nr_reduce.specs.declared.call.Submission.TheVariants as submissions
use Rattle.nr_reduce.specs.declared.mark.LinkParameters.{LinkParameters}
use Rattle.nr_reduce.specs.declared.mark.Mark.{Mark}
use Rattle.nr_reduce.specs.declared.mark.Mark.TheVariants as marks
use Rattle.nr_reduce.specs.History.{bytes_received, fed_at}
use Rattle.nr_reduce.specs.Run.{client}
use Rattle.nr_reduce.proofs.Standing.{AtEachMark_more, itself}
use Rattle.nr_laws.specs.Typed.{IsTyped, TypedMark}
use Rattle.nr_byte_laws.specs.DueBytes.{AreInBytes, CompletedInBytes, OutcomeIsBytes}
use Rattle.nr_byte_laws.proofs.ByteClients.{none_again, outcome_bytes}
use Rattle.nr_commands.specs.Running.Runs.{NotOpened, Opened}
use Rattle.nr_service_laws.specs.ClientMarks.{AreMarksOf, IsOwn, without_bytes}
use Rattle.nr_service_laws.specs.Exchanges.{Exchange, tells_text}
use Rattle.nr_service_laws.specs.Exchanges.Exchange.{Answered, Forgotten, GivenUp, HandedOver, Submitted}
use Rattle.nr_service_laws.specs.ServedCommands.{client_marks, is_client_mark}
use Rattle.nr_service_laws.specs.TypedCommands.{CommandsAreTyped, SidesAreTyped, other_marks}
use Rattle.nr_service_laws.proofs.ByteCalls.{IsByteCall}
use Rattle.nr_service_laws.proofs.ByteCommands.{command_calls}
use Rattle.nr_service_laws.proofs.ByteExchanges.{CallsAreBytes}

-- ---- A run of a client's side

own_link : (link l : ℕ) → l ≡ link → eqb l link ≡ true
own_link link l same = let one : eqb l link ≡ eqb link link = ap (λ (n : ℕ). eqb n link) same in subst (λ (b : Bool). eqb l link ≡ b) (itself link) one

fed_bytes : (link l : ℕ) (bytes : List ℕ) → l ≡ link → fed_at link Initiator (marks.Fed l Initiator bytes) ≡ bytes
fed_bytes link l bytes same = ap (λ (b : Bool). cond (b && true) bytes []) (own_link link l same)

-- each call that marks submit is of bytes, if the outcomes that they handed over before it are
abbrev pub MarksOfBytes : List Mark → Type 0
MarksOfBytes [] = Unit {0}
MarksOfBytes (marks.Submit l call form answer ∷ run) = IsByteCall call × MarksOfBytes run
MarksOfBytes (marks.Done l xid outcome ∷ run) = OutcomeIsBytes outcome → MarksOfBytes run
MarksOfBytes (mark ∷ run) = MarksOfBytes run

pub exchanged : (link : ℕ) (made : List Exchange) (run : List Mark) → AreMarksOf link made run → CallsAreBytes made → MarksOfBytes run
exchanged link [] run is h = subst MarksOfBytes (sym is) tt
exchanged link (Answered call outcome ∷ made) run (xid, rest, (is, are)) h = subst MarksOfBytes (sym is) (h.0, λ o. exchanged link made rest are (h.1 o))
exchanged link (Forgotten call ∷ made) run (xid, rest, (is, are)) h = subst MarksOfBytes (sym is) (h.0, exchanged link made rest are h.1)
exchanged link (Submitted number call ∷ made) run (xid, rest, (is, are)) h = subst MarksOfBytes (sym is) (h.0, exchanged link made rest are h.1)
exchanged link (HandedOver number outcome ∷ made) run (xid, rest, (is, are)) h = subst MarksOfBytes (sym is) (λ o. exchanged link made rest are (h o))
exchanged link (GivenUp number ∷ made) run (xid, rest, (is, are)) h = subst MarksOfBytes (sym is) (exchanged link made rest are h)

with_bytes : (run : List Mark) → MarksOfBytes (without_bytes run) → MarksOfBytes run
with_bytes [] h = tt
with_bytes (marks.Wrote l side bytes ∷ run) h = with_bytes run h
with_bytes (marks.Fed l side bytes ∷ run) h = with_bytes run h
with_bytes (marks.Submit l call form answer ∷ run) h = (h.0, with_bytes run h.1)
with_bytes (marks.Execute l xid moment payload place reply ∷ run) h = with_bytes run h
with_bytes (marks.Done l xid outcome ∷ run) h = λ o. with_bytes run (h o)
with_bytes (marks.Lost l xid ∷ run) h = with_bytes run h
with_bytes (marks.Forget l xid ∷ run) h = with_bytes run h
with_bytes (marks.Revoke l xid bytes ∷ run) h = with_bytes run h
with_bytes (marks.Drop l ∷ run) h = with_bytes run h
with_bytes (marks.Told l what ∷ run) h = with_bytes run h

-- an outcome that is handed over is one that messages brought to a client that was fed bytes
handed_over : (opened : LinkParameters) (link : ℕ) → AreInBytes Initiator opened → (front : List Mark) (xid : ℕ) (outcome : Outcome) → IsTyped front → IsCompleted opened link front xid outcome → OutcomeIsBytes outcome
handed_over opened link again front xid outcome typed completed =
    All-contains CompletedInBytes (client opened link front).state.outcomes (record { xid = xid; outcome = outcome })
    (All-from_recursion CompletedInBytes (client opened link front).state.outcomes (outcome_bytes opened link front again typed)) completed.is_received

more_typed : (front : List Mark) (mark : Mark) → IsTyped front → TypedMark front mark → IsTyped (front ++ mark ∷ [])
more_typed front mark h t = AtEachMark_more TypedMark [] front mark h t

typed_from : (opened : LinkParameters) (link : ℕ) → AreInBytes Initiator opened → (front run : List Mark) → IsTyped front → AllByRecursion (IsOwn link) run → IsBytes (flat_map (fed_at link Initiator) run)
    → AtEachMark (AskedMark IsPrefixOf opened link) front run → MarksOfBytes run → AtEachMark TypedMark front run
typed_from opened link again front [] h own fed asked calls = tt
typed_from opened link again front (marks.Fed l Initiator bytes ∷ run) h own fed asked calls =
    let t = subst IsBytes (fed_bytes link l bytes own.0) (IsBytes_left (fed_at link Initiator (marks.Fed l Initiator bytes)) (flat_map (fed_at link Initiator) run) fed) in (
      t,
      typed_from opened link again (front ++ marks.Fed l Initiator bytes ∷ []) run (more_typed front (marks.Fed l Initiator bytes) h t) own.1
          (IsBytes_right (fed_at link Initiator (marks.Fed l Initiator bytes)) (flat_map (fed_at link Initiator) run) fed) asked.1 calls,
    )
typed_from opened link again front (marks.Wrote l Initiator bytes ∷ run) h own fed asked calls =
    (tt, typed_from opened link again (front ++ marks.Wrote l Initiator bytes ∷ []) run (more_typed front (marks.Wrote l Initiator bytes) h tt) own.1 fed asked.1 calls)
typed_from opened link again front (marks.Submit l call forms.Auto (submissions.Accepted xid) ∷ run) h own fed asked calls =
    let mark : Mark = marks.Submit l call forms.Auto (submissions.Accepted xid) in
    let t : TypedMark front mark = (calls.0.1 xid, tt, calls.0.0) in
    (t, typed_from opened link again (front ++ mark ∷ []) run (more_typed front mark h t) own.1 fed asked.1 calls.1)
typed_from opened link again front (marks.Done l xid outcome ∷ run) h own fed asked calls = (
  tt,
  typed_from opened link again (front ++ marks.Done l xid outcome ∷ []) run (more_typed front (marks.Done l xid outcome) h tt) own.1 fed asked.1
      (calls (handed_over opened link again front xid outcome h (asked.0 own.0))),
)
typed_from opened link again front (marks.Forget l xid ∷ run) h own fed asked calls =
    (tt, typed_from opened link again (front ++ marks.Forget l xid ∷ []) run (more_typed front (marks.Forget l xid) h tt) own.1 fed asked.1 calls)
typed_from opened link again front (marks.Fed l Responder bytes ∷ run) h own fed asked calls = absurd own.0
typed_from opened link again front (marks.Wrote l Responder bytes ∷ run) h own fed asked calls = absurd own.0
typed_from opened link again front (marks.Submit l call forms.Auto (submissions.Refused why) ∷ run) h own fed asked calls = absurd own.0
typed_from opened link again front (marks.Submit l call forms.Auto submissions.Dropped ∷ run) h own fed asked calls = absurd own.0
typed_from opened link again front (marks.Submit l call forms.Inline answer ∷ run) h own fed asked calls = absurd own.0
typed_from opened link again front (marks.Submit l call forms.Chunk answer ∷ run) h own fed asked calls = absurd own.0
typed_from opened link again front (marks.Submit l call forms.Long answer ∷ run) h own fed asked calls = absurd own.0
typed_from opened link again front (marks.Submit l call (forms.Given offer) answer ∷ run) h own fed asked calls = absurd own.0
typed_from opened link again front (marks.Execute l xid moment payload place reply ∷ run) h own fed asked calls = absurd own.0
typed_from opened link again front (marks.Lost l xid ∷ run) h own fed asked calls = absurd own.0
typed_from opened link again front (marks.Revoke l xid bytes ∷ run) h own fed asked calls = absurd own.0
typed_from opened link again front (marks.Drop l ∷ run) h own fed asked calls = absurd own.0
typed_from opened link again front (marks.Told l what ∷ run) h own fed asked calls = absurd own.0

given_bytes : (left : List ℕ) (after : Option (List ℕ)) (bytes : List ℕ) → Consumes (Some left) after bytes → IsBytes left → IsBytes bytes
given_bytes left None bytes takes h = absurd takes
given_bytes left (Some rest) bytes takes h = IsBytes_left bytes rest (subst IsBytes takes h)

-- ---- A run of both sides

typed_anywhere : (before after : List Mark) (mark : Mark) → TypedMark before mark → TypedMark after mark
typed_anywhere before after (marks.Submit l call form (submissions.Accepted xid)) h = h
typed_anywhere before after (marks.Submit l call form (submissions.Refused why)) h = h
typed_anywhere before after (marks.Submit l call form submissions.Dropped) h = h
typed_anywhere before after (marks.Fed l side bytes) h = h
typed_anywhere before after (marks.Wrote l side bytes) h = h
typed_anywhere before after (marks.Execute l xid moment payload place reply) h = h
typed_anywhere before after (marks.Done l xid outcome) h = h
typed_anywhere before after (marks.Lost l xid) h = h
typed_anywhere before after (marks.Forget l xid) h = h
typed_anywhere before after (marks.Revoke l xid bytes) h = h
typed_anywhere before after (marks.Drop l) h = h
typed_anywhere before after (marks.Told l what) h = h

typed_parts : (link : ℕ) (front own others run : List Mark) → AtEachMark TypedMark own (client_marks link run) → AtEachMark TypedMark others (other_marks link run) → AtEachMark TypedMark front run
typed_parts link front own others [] h k = tt
typed_parts link front own others (mark ∷ run) h k = by (is_client_mark link mark) (λ f o q. typed_parts link f o q run) h k
  where
    by : (b : Bool) → ((f o q : List Mark) → AtEachMark TypedMark o (client_marks link run) → AtEachMark TypedMark q (other_marks link run) → AtEachMark TypedMark f run)
        → AtEachMark TypedMark own (cond b (mark ∷ client_marks link run) (client_marks link run)) → AtEachMark TypedMark others (cond (not b) (mark ∷ other_marks link run) (other_marks link run))
        → AtEachMark TypedMark front (mark ∷ run)
    by true rest h k = (typed_anywhere own front mark h.0, rest (front ++ mark ∷ []) (own ++ mark ∷ []) others h.1 k)
    by false rest h k = (typed_anywhere others front mark k.0, rest (front ++ mark ∷ []) own (others ++ mark ∷ []) h k.1)

pub sides_are_typed_lem : SidesAreTyped
sides_are_typed_lem link both own others = typed_parts link [] [] [] both own others

-- ---- A command

pub commands_are_typed_lem : CommandsAreTyped
unfolding bytes_received
commands_are_typed_lem opened link c before after input input' out out' result (NotOpened end is fails same_input same_out) = tt
commands_are_typed_lem opened link c before after input input' out out' result (Opened dialed s s' opens prints closes) = λ ran is of.
    typed_from opened link (none_again opened ran.first_link.resumed) [] ran.run tt ran.own
    (IsBytes_left (flat_map (fed_at link Initiator) ran.run) ran.ahead
    (given_bytes is.left s'.bytes.left (flat_map (fed_at link Initiator) ran.run ++ ran.ahead)
    (subst (λ (o : Option (List ℕ)). Consumes o s'.bytes.left (flat_map (fed_at link Initiator) ran.run ++ ran.ahead)) is.known ran.left) is.bytes))
    ran.asked
    (with_bytes ran.run (exchanged link (tells_text c.uid c.gid c.export c.action input input' out prints.written s s' prints.text prints.made).made (without_bytes ran.run) ran.marks_are
    (command_calls c.uid c.gid c.export c.action input input' out prints.written s s' prints.text prints.made (of.uid, of.gid) of.export of.names)))
