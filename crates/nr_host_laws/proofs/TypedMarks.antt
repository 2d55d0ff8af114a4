-- The marks of a connection over a source of bytes are of their types.
use Rattle.std.proofs.Common.{◌≡◌, ℕ, zero, suc, ◌+◌, Bool, true, false, cond, not, ◌&&◌, eqb, List, [], ◌∷◌, ◌++◌, length, take, Option, None, Some, refl, sym, ap, ◌∙◌, subst}
use Rattle.std.specs.List.{AllByRecursion, flat_map}
use Rattle.std.proofs.lemmas.List.{take-map}
use Rattle.std.specs.Io.KnownBytes.{Consumes}
use Rattle.nr_xdr.specs.Item.{IsBytes}
use Rattle.nr_xdr.proofs.Chains.{IsBytes_left, IsBytes_right}
use Rattle.nr_wire.specs.declared.hello.Side.TheVariants.{Initiator, Responder}
use Rattle.nr_link.specs.declared.end.End.{End}
use Rattle.nr_outside.specs.declared.moment.Moment.{Moment}
use Rattle.nr_link.specs.Agreement.{default_terms, terms_with}
use Rattle.nr_reduce.specs.AtEachMark.{AtEachMark}
use Rattle.nr_reduce.specs.declared.call.Submission.TheVariants as submissions
use Rattle.nr_reduce.specs.History.{bytes_received, fed_at}
use Rattle.nr_reduce.specs.Matched.{IsPrefixOf}
use Rattle.nr_reduce.specs.Run.{server}
use Rattle.nr_reduce.specs.Served.{ServedMark, first_ready, next_call}
use Rattle.nr_reduce.specs.ServerState.{ReadyCall}
use Rattle.nr_reduce.specs.declared.mark.Entry.{Entry}
use Rattle.nr_reduce.specs.declared.mark.LinkParameters.{LinkParameters}
use Rattle.nr_reduce.specs.declared.mark.Mark.{Mark}
use Rattle.nr_reduce.specs.declared.mark.Mark.TheVariants as marks
use Rattle.nr_reduce.specs.declared.mark.TaggedEntry.{TaggedEntry}
use Rattle.nr_reduce.specs.declared.mark.Told.TheVariants as told
use Rattle.nr_reduce.specs.NumberedJournal.{Standing, entries_alone, number_heard, standing_for, IsExecutedBy}
use Rattle.nr_reduce.specs.NumberedJournal.Standing.{Kept, New, Old}
use Rattle.nr_reduce.proofs.Standing.{AtEachMark_more, itself}
use Rattle.nr_laws.specs.Typed.{IsTyped, TypedMark}
use Rattle.nr_laws.proofs.Basics.{each_append}
use Rattle.nr_plain.specs.History.{Answered, AreOfCalls, Opening, entries_in, setup_in, xid_in}
use Rattle.nr_plain.specs.ReplyLaws.{plain_server}
use Rattle.nr_plain.specs.Setup.{Setup}
use Rattle.nr_byte_laws.specs.InBytes.{EntriesInBytes, EntryInBytes, IsInBytes}
use Rattle.nr_byte_laws.proofs.ByteServers.{ready_bytes}
use Rattle.nr_byte_laws.proofs.PlainBytes.{entries_bytes, plain_reply_bytes}
use Rattle.nr_host.specs.Connections.{IsOwn, Outside, answer_of, answers_of, IsOpenedWith}
use Rattle.nr_host.specs.Turns.{AreTurns, Turn, added_at, answered_at, answered_in}
use Rattle.nr_host.specs.Turns.Turn.{Answers, Refuses}
use Rattle.nr_host.proofs.Turning.{alone_more}
use Rattle.nr_host.proofs.Unnumbered.{answers_handled}
use Rattle.nr_host.specs.declared.connection_limits.ConnectionLimits.{ConnectionLimits}
use Rattle.nr_host_laws.specs.OwnMarks.{is_own, other_marks, own_marks}
use Rattle.nr_host_laws.specs.Streams.{ServesStream}
use Rattle.nr_host_laws.specs.TypedMarks.{ConnectionsAreTyped}

-- ---- A call that is executed

first_bytes : (ready : List ReadyCall) (ended : Option End) (call : ReadyCall) → AllByRecursion (λ (r : ReadyCall). IsBytes r.payload) ready → first_ready ready ended ≡ Some call → IsBytes call.payload
first_bytes ready (Some end) call h e = absurd cc
first_bytes [] None call h e = absurd cc
first_bytes (r ∷ ready) None call h e = let same : r ≡ call = cc in subst (λ (c : ReadyCall). IsBytes c.payload) same h.0

next_bytes : (opened : LinkParameters) (link : ℕ) (run : List Mark) (call : ReadyCall) → IsTyped run → next_call opened link run ≡ Some call → IsBytes call.payload
unfolding next_call
next_bytes opened link run call typed e = first_bytes (server opened link run).state.ready (server opened link run).ended call (ready_bytes opened link run typed) e

-- ---- The entries of a journal

front_bytes : (n : ℕ) (J : List Entry) → EntriesInBytes J → EntriesInBytes (take n J)
front_bytes zero J h = tt
front_bytes (suc n) [] h = tt
front_bytes (suc n) (e ∷ J) h = (h.0, front_bytes n J h.1)

-- an entry of a call is in bytes, since the call's payload is bytes
pub of_calls_bytes : (s : Setup) (J more : List Entry) → AreOfCalls s J more → EntriesInBytes more
of_calls_bytes s J [] h = tt
of_calls_bytes s J (e ∷ more) (one, rest) =
    let here : EntriesInBytes (e ∷ []) = subst EntriesInBytes one.adds (entries_bytes one.moment one.payload one.reply one.bytes) in
    (here.0, of_calls_bytes s (J ++ e ∷ []) more rest)

pub all_bytes : (s : Setup) (J more : List Entry) → EntriesInBytes J → AreOfCalls s J more → EntriesInBytes (J ++ more)
all_bytes s J more entries calls = each_append EntryInBytes J more entries (of_calls_bytes s J more calls)

-- ---- The replies of turns

left_bytes : (J K : List Entry) → EntriesInBytes (J ++ K) → EntriesInBytes J
left_bytes [] K h = tt
left_bytes (e ∷ J) K h = (h.0, left_bytes J K h.1)

-- a reply by the entries that the journal had then, whether the call is new or kept
reply_by : (s : Setup) (U : List TaggedEntry) (o : Standing) (moment : Moment) (payload : List ℕ) (place : ℕ) (reply : List ℕ) → IsInBytes s.tree → EntriesInBytes (entries_alone U) → IsExecutedBy (plain_server s) U o moment payload place reply → IsBytes reply
reply_by s U (Old top) moment payload place reply tree entries is = absurd is
reply_by s U New moment payload place reply tree entries is = plain_reply_bytes s (entries_alone U) (length (entries_alone U)) moment payload reply tree entries is.1
reply_by s U (Kept at) moment payload place reply tree entries is =
    let r = is.1 in
    let all : entries_alone U ≡ entries_alone r.earlier ++ entries_alone (r.own ∷ r.later) = ap entries_alone r.is_cut ∙ alone_more r.earlier (r.own ∷ r.later) in
    plain_reply_bytes s (entries_alone r.earlier) (length (entries_alone r.earlier)) moment _ reply tree (left_bytes (entries_alone r.earlier) (entries_alone (r.own ∷ r.later)) (subst EntriesInBytes all entries)) r.replied

abbrev pub RepliesInBytes : List Answered → Type 0
RepliesInBytes calls = AllByRecursion (λ (a : Answered). IsBytes a.reply) calls

turn_replies : (s : Setup) (client : ℕ) (T : List TaggedEntry) (n : ℕ) (turns : List Turn) (mine : List ℕ) → IsInBytes s.tree → EntriesInBytes (entries_alone T) → AreTurns s client T n turns mine → RepliesInBytes (flat_map answered_at turns)
turn_replies s client T n [] mine tree entries h = tt
turn_replies s client T n (Answers given a ∷ turns) mine tree entries (k, (from, (is, (later, (mine_is, rest))))) =
    let until : EntriesInBytes (entries_alone (take k T)) = subst EntriesInBytes (take-map (λ (t : TaggedEntry). t.entry) k T) (front_bytes k (entries_alone T) entries) in (
      reply_by s (take k T) (standing_for (take k T) client (xid_in a.payload)) a.moment a.payload a.place a.reply tree until is.executed,
      turn_replies s client T (k + length (added_at client (take k T) given a)) turns later tree entries rest,
    )
turn_replies s client T n (Refuses given xid ∷ turns) mine tree entries (k, (from, (old, rest))) = turn_replies s client T k turns mine tree entries rest

pub replies_of : (s : Setup) (client : ℕ) (T : List TaggedEntry) (n : ℕ) (turns : List Turn) (mine : List ℕ) (run : List Mark) → answered_in turns ≡ answers_of run → IsInBytes s.tree → EntriesInBytes (entries_alone T) → AreTurns s client T n turns mine
    → RepliesInBytes (flat_map answer_of run)
unfolding answered_in answers_of
replies_of s client T n turns mine run same tree entries h = subst RepliesInBytes same (turn_replies s client T n turns mine tree entries h)

-- ---- A run of a server's side

own_bytes : (link l : ℕ) (bytes : List ℕ) → l ≡ link → fed_at link Responder (marks.Fed l Responder bytes) ≡ bytes
own_bytes link l bytes same = ap (λ (b : Bool). cond (b && true) bytes []) (ap (λ (m : ℕ). eqb m link) same ∙ itself link)

-- what is known of the marks made so far, and of those that follow
record Goes (opened : LinkParameters) (link : ℕ) (front run : List Mark) : Type 0 where
  typed : IsTyped front
  own : AtEachMark (λ earlier mark. IsOwn link mark) front run
  served : AtEachMark (ServedMark IsPrefixOf opened link) front run
  fed : IsBytes (flat_map (fed_at link Responder) run)
  replies : RepliesInBytes (flat_map answer_of run)

abbrev Typed : (front run : List Mark) → Type 0
Typed front run = AtEachMark TypedMark front run × EntriesInBytes (flat_map entries_in (flat_map answer_of run))

typed_from : (opened : LinkParameters) (link : ℕ) (front run : List Mark) → Goes opened link front run → Typed front run
typed_from opened link front [] g = (tt, tt)
typed_from opened link front (marks.Fed l Responder bytes ∷ run) g =
    let here : IsBytes bytes = subst IsBytes (own_bytes link l bytes g.own.0) (IsBytes_left (fed_at link Responder (marks.Fed l Responder bytes)) (flat_map (fed_at link Responder) run) g.fed) in
    let rest = typed_from opened link (front ++ marks.Fed l Responder bytes ∷ []) run (record {
      typed = AtEachMark_more TypedMark [] front (marks.Fed l Responder bytes) g.typed here;
      own = g.own.1;
      served = g.served.1;
      fed = IsBytes_right (fed_at link Responder (marks.Fed l Responder bytes)) (flat_map (fed_at link Responder) run) g.fed;
      replies = g.replies;
    }) in
    ((here, rest.0), rest.1)
typed_from opened link front (marks.Wrote l Responder bytes ∷ run) g =
    let rest = typed_from opened link (front ++ marks.Wrote l Responder bytes ∷ []) run (record {
      typed = AtEachMark_more TypedMark [] front (marks.Wrote l Responder bytes) g.typed tt;
      own = g.own.1;
      served = g.served.1;
      fed = g.fed;
      replies = g.replies;
    }) in
    ((tt, rest.0), rest.1)
typed_from opened link front (marks.Execute l xid moment payload place reply ∷ run) g =
    let mark = marks.Execute l xid moment payload place reply in
    let call : Answered = record { moment = moment; payload = payload; place = place; reply = reply } in
    let executed = g.served.0 g.own.0 in
    let bytes : IsBytes payload = subst IsBytes (sym executed.conveyed) (next_bytes opened link front executed.call g.typed executed.is_next) in
    let here : IsBytes reply = g.replies.0 in
    let added : EntriesInBytes (entries_in call) = entries_bytes moment payload reply bytes in
    let rest = typed_from opened link (front ++ mark ∷ []) run (record {
      typed = AtEachMark_more TypedMark [] front mark g.typed here;
      own = g.own.1;
      served = g.served.1;
      fed = g.fed;
      replies = g.replies.1;
    }) in
    ((here, rest.0), each_append EntryInBytes (entries_in call) (flat_map entries_in (flat_map answer_of run)) added rest.1)
typed_from opened link front (marks.Told l (told.Old xid at) ∷ run) g =
    let rest = typed_from opened link (front ++ marks.Told l (told.Old xid at) ∷ []) run (record {
      typed = AtEachMark_more TypedMark [] front (marks.Told l (told.Old xid at)) g.typed tt;
      own = g.own.1;
      served = g.served.1;
      fed = g.fed;
      replies = g.replies;
    }) in
    ((tt, rest.0), rest.1)
typed_from opened link front (marks.Fed l Initiator bytes ∷ run) g = absurd g.own.0
typed_from opened link front (marks.Wrote l Initiator bytes ∷ run) g = absurd g.own.0
typed_from opened link front (marks.Submit l call form answer ∷ run) g = absurd g.own.0
typed_from opened link front (marks.Done l xid outcome ∷ run) g = absurd g.own.0
typed_from opened link front (marks.Lost l xid ∷ run) g = absurd g.own.0
typed_from opened link front (marks.Forget l xid ∷ run) g = absurd g.own.0
typed_from opened link front (marks.Revoke l xid bytes ∷ run) g = absurd g.own.0
typed_from opened link front (marks.Drop l ∷ run) g = absurd g.own.0
typed_from opened link front (marks.Told l (told.Granted credits) ∷ run) g = absurd g.own.0

-- ---- A connection

given_bytes : (left : List ℕ) (after : Option (List ℕ)) (bytes : List ℕ) → Consumes (Some left) after bytes → IsBytes left → IsBytes bytes
given_bytes left None bytes takes h = absurd takes
given_bytes left (Some rest) bytes takes h = IsBytes_left bytes rest (subst IsBytes takes h)

pub connections_are_typed_lem : ConnectionsAreTyped
unfolding bytes_received answers_of
connections_are_typed_lem limits read link before after end first J left ended is =
    let T : List TaggedEntry = is.history.entries in
    let over = ended.runs.over first T is.history.is in
    let entries : EntriesInBytes (entries_alone (T ++ over.more)) =
    subst EntriesInBytes (sym (alone_more T over.more))
    (all_bytes (setup_in first) (entries_alone T) (entries_alone over.more) (subst EntriesInBytes (sym is.history.journal) is.entries) over.of_calls) in
    let opened : LinkParameters = record { first_xid = 1; first_stag = 1; wished = 1; granted = limits.credits; low = limits.low; receives = limits.credits; client = default_terms; server = terms_with limits.units limits.invalidates; resumed = []; agreed = None } in
    let all : IsBytes (flat_map (fed_at link Responder) ended.run ++ ended.ahead) =
    given_bytes left after.left (flat_map (fed_at link Responder) ended.run ++ ended.ahead)
    (subst (λ (o : Option (List ℕ)). Consumes o after.left (flat_map (fed_at link Responder) ended.run ++ ended.ahead)) is.known ended.runs.handed.from_left) is.bytes in
    typed_from opened link [] ended.run (record {
      typed = tt;
      own = ended.runs.own;
      served = ended.runs.served opened (refl, refl, refl, refl);
      fed = IsBytes_left (flat_map (fed_at link Responder) ended.run) ended.ahead all;
      replies = replies_of (setup_in first) (number_heard ended.run link) (T ++ over.more) (length T) ended.runs.turns over.mine ended.run (answers_handled ended.runs.turns ended.run ended.runs.handled) is.tree entries over.turned;
    })

-- so is the stream of a connection that served all of it
pub stream_is_typed : (limits : ConnectionLimits) (first : Opening) (J : List Entry) (link : ℕ) (before after : Outside) (stream : List ℕ) (served : ServesStream limits first J link before after stream) (opened : LinkParameters)
    → IsOpenedWith limits opened → IsBytes stream → IsInBytes (setup_in first).tree → EntriesInBytes J → IsTyped served.run
unfolding bytes_received answers_of
stream_is_typed limits first J link before after stream served opened same bytes tree entries =
    let T : List TaggedEntry = served.entries in
    let over = served.over in
    let all : EntriesInBytes (entries_alone (T ++ over.more)) =
    subst EntriesInBytes (sym (alone_more T over.more))
    (all_bytes (setup_in first) (entries_alone T) (entries_alone over.more) (subst EntriesInBytes (sym served.journal) entries) over.of_calls) in
    (typed_from opened link [] served.run (record {
      typed = tt;
      own = (served.made opened same).own;
      served = (served.made opened same).served;
      fed = subst IsBytes (sym served.fed) bytes;
      replies = replies_of (setup_in first) (number_heard served.run link) (T ++ over.more) (length T) served.turns over.mine served.run (answers_handled served.turns served.run served.handled) tree all over.turned;
    })).0

-- ---- A run of both sides

typed_anywhere : (before after : List Mark) (mark : Mark) → TypedMark before mark → TypedMark after mark
typed_anywhere before after (marks.Submit l call form (submissions.Accepted xid)) h = h
typed_anywhere before after (marks.Submit l call form (submissions.Refused why)) h = h
typed_anywhere before after (marks.Submit l call form submissions.Dropped) h = h
typed_anywhere before after (marks.Fed l side bytes) h = h
typed_anywhere before after (marks.Wrote l side bytes) h = h
typed_anywhere before after (marks.Execute l xid moment payload place reply) h = h
typed_anywhere before after (marks.Done l xid outcome) h = h
typed_anywhere before after (marks.Lost l xid) h = h
typed_anywhere before after (marks.Forget l xid) h = h
typed_anywhere before after (marks.Revoke l xid bytes) h = h
typed_anywhere before after (marks.Drop l) h = h
typed_anywhere before after (marks.Told l what) h = h

typed_parts : (link : ℕ) (front own others run : List Mark) → AtEachMark TypedMark own (own_marks link run) → AtEachMark TypedMark others (other_marks link run) → AtEachMark TypedMark front run
typed_parts link front own others [] h k = tt
typed_parts link front own others (mark ∷ run) h k = by (is_own link mark) (λ f o q. typed_parts link f o q run) h k
  where
    by : (b : Bool) → ((f o q : List Mark) → AtEachMark TypedMark o (own_marks link run) → AtEachMark TypedMark q (other_marks link run) → AtEachMark TypedMark f run)
        → AtEachMark TypedMark own (cond b (mark ∷ own_marks link run) (own_marks link run)) → AtEachMark TypedMark others (cond (not b) (mark ∷ other_marks link run) (other_marks link run))
        → AtEachMark TypedMark front (mark ∷ run)
    by true rest h k = (typed_anywhere own front mark h.0, rest (front ++ mark ∷ []) (own ++ mark ∷ []) others h.1 k)
    by false rest h k = (typed_anywhere others front mark k.0, rest (front ++ mark ∷ []) own (others ++ mark ∷ []) h k.1)

-- a run whose server's side is typed, and whose other marks are
pub both_typed : (link : ℕ) (run : List Mark) → IsTyped (own_marks link run) → IsTyped (other_marks link run) → IsTyped run
both_typed link run own others = typed_parts link [] [] [] run own others
