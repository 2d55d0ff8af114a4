-- Of the two sides of a matched link the one that ends first ends for what it makes of a message, or for what its memory denies.
use Rattle.std.proofs.Common.{◌≡◌, ◌≢◌, ℕ, ◌+◌, Bool, true, false, ◌&&◌, eqb, List, [], ◌∷◌, ◌++◌, length, map, Option, Some, None, refl, sym, ap, subst, ◌∙◌, arith, append_assoc, append-nil, ◌⊎◌}
use Rattle.std.proofs.lemmas.Bool.{eqb-true, ne_eqb}
use Rattle.std.specs.List.{concat}
use Rattle.nr_xdr.specs.Item.{IsBytes}
use Rattle.nr_wire.specs.declared.hello.Side.TheVariants.{Initiator, Responder}
use Rattle.nr_link.specs.declared.end.End.{End}
use Rattle.nr_link.specs.Frames.{Frame, frames_completed}
use Rattle.nr_reduce.specs.declared.call.Submission.TheVariants as submissions
use Rattle.nr_reduce.specs.declared.mark.Mark.{Mark}
use Rattle.nr_reduce.specs.declared.mark.Mark.TheVariants as marks
use Rattle.nr_reduce.specs.declared.mark.LinkParameters.{LinkParameters}
use Rattle.nr_reduce.specs.Opening.{IsOpened}
use Rattle.nr_reduce.specs.Credits.{WithinGrant}
use Rattle.nr_reduce.specs.History.{bytes_sent, bytes_received}
use Rattle.nr_reduce.specs.Events.{RunEvent, if_own, events_at}
use Rattle.nr_reduce.specs.Events.RunEvent.{FrameReceived, CallSubmitted, MemoryRevoked, CallExecuted, QueueWritten, ServerTold}
use Rattle.nr_reduce.specs.EndRules.{EndState, EndMachine, live, end_state_after}
use Rattle.nr_reduce.specs.ClientState.{ClientState}
use Rattle.nr_reduce.specs.ServerState.{ServerState}
use Rattle.nr_reduce.specs.Client.{client_rules}
use Rattle.nr_reduce.specs.Server.{server_rules}
use Rattle.nr_reduce.specs.Run.{client, server, end_of_side}
use Rattle.nr_reduce.specs.AtEachMark.{AtEachMark}
use Rattle.nr_reduce.specs.Matched.{MatchedMark, IsPrefixOf}
use Rattle.nr_reduce.specs.Asked.{AskedMark, IsAll}
use Rattle.nr_reduce.specs.Served.{ServedMark}
use Rattle.nr_reduce.proofs.Steps.{client_one, server_one, ended_stays}
use Rattle.nr_laws.specs.Typed.{TypedMark}
use Rattle.nr_laws.specs.EndCauses.{IsDenied, NotOldMark, AgreesAgain}
use Rattle.nr_laws.proofs.EndReasons.{EndsForCall, EndsForMessage, FirstServerEnd, FirstClientEnd}
use Rattle.nr_laws.proofs.FrameContents.{total_of, sends_in, requests_in}
use Rattle.nr_laws.proofs.Bytes.{bytes_both}
use Rattle.nr_laws.proofs.StreamFrames.{frames_at}
use Rattle.nr_laws.proofs.Writable.{IsOutput}
use Rattle.nr_laws.proofs.Guards.{Guards}
use Rattle.nr_laws.proofs.ServerFrames.{events_of, server_ends}
use Rattle.nr_laws.proofs.ClientFrames.{client_ends}
use Rattle.nr_laws.proofs.AgreeingRuns.{RunAgrees, MarkAgrees, place_of, preserved, arrives, other_events}
use Rattle.nr_laws.proofs.AgreeingMarks.{client_event, server_event, IsQuietFor}
use Rattle.nr_laws.proofs.EachRun.{starts, mark_preserves, no_events_lem, client_unended, server_unended}
use Rattle.nr_reduce.specs.declared.mark.Told.TheVariants.{Granted, Old}

-- ---- With guards, from mark to mark

pub record Guarded (opened : LinkParameters) (link : ℕ) (run : List Mark) : Type 0 where
  pub joined : RunAgrees opened link run
  pub guards : Guards opened joined.k joined.s joined.u joined.d joined.all_up joined.all_down joined.w (place_of opened joined.u)

guarded_more : (opened : LinkParameters) (link : ℕ) (run : List Mark) (mark : Mark) (j : RunAgrees opened link run) → MarkAgrees opened link run mark j → IsOpened opened → WithinGrant opened link run mark
    → Guards opened j.k j.s j.u j.d j.all_up j.all_down j.w (place_of opened j.u) → Guarded opened link (run ++ mark ∷ [])
unfolding preserved
guarded_more opened link run mark j g o within guards = record { joined = preserved opened link run mark j g; guards = g.guarded o within guards }

-- ---- The server

lasts : {S : Type 0} (rules : EndMachine S) (state : List Mark → EndState S) (added : List Mark → Mark → List RunEvent) → ((before : List Mark) (m : Mark) → state (before ++ m ∷ []) ≡ end_state_after rules (state before) (added before m)) → (before more : List Mark) (end : End)
    → (state before).ended ≡ Some end → (state (before ++ more)).ended ≡ Some end
lasts rules state added one before [] end e = ap (λ (run : List Mark). (state run).ended) (append-nil before) ∙ e
lasts {S} rules state added one before (m ∷ more) end e =
    let r = state before in
    let same : r ≡ record { state = r.state; ended = Some end } = λ i. record { state = r.state; ended = e i } in
    let next : (state (before ++ m ∷ [])).ended ≡ Some end =
    ap (λ (x : EndState S). x.ended) (one before m) ∙ ap (λ (x : EndState S). (end_state_after rules x (added before m)).ended) same ∙ ap (λ (x : EndState S). x.ended) (ended_stays rules r.state end (added before m)).0 in
    ap (λ (run : List Mark). (state run).ended) (sym (append_assoc before (m ∷ []) more)) ∙ lasts rules state added one (before ++ m ∷ []) more end next

server_last : (opened : LinkParameters) (link : ℕ) (before more : List Mark) (end : End) → (server opened link before).ended ≡ Some end → (server opened link (before ++ more)).ended ≡ Some end
server_last opened link before more end e = lasts (server_rules opened) (λ run. server opened link run) (λ earlier m. events_at link Responder earlier m) (λ earlier m. server_one opened link earlier m) before more end e

-- no event, or one that is no frame, ends it
not_by_none : (opened : LinkParameters) (s : ServerState) (es : List RunEvent) (end : End) → es ≡ [] → (end_state_after (server_rules opened) (live s) es).ended ≡ Some end → EndsForCall end
not_by_none opened s es end none e = absurd (let wrong : None ≡ Some end = ap (λ (xs : List RunEvent). (end_state_after (server_rules opened) (live s) xs).ended) (sym none) ∙ e in cc)

not_by_one : (opened : LinkParameters) (s : ServerState) (es : List RunEvent) (event : RunEvent) (b : Bool) (end : End) → ((f : Frame) → event ≢ FrameReceived f) → IsQuietFor s event → es ≡ if_own b (event ∷ []) → (end_state_after (server_rules opened) (live s) es).ended ≡ Some end → EndsForCall end
not_by_one opened s es event true end other quiet is e =
    absurd (let wrong : None ≡ Some end = sym (ap (λ (xs : List RunEvent). (end_state_after (server_rules opened) (live s) xs).ended) is ∙ ap (λ (x : EndState ServerState). x.ended) (server_event opened s event other quiet).state) ∙ e in cc)
not_by_one opened s es event false end other quiet is e = not_by_none opened s es end is e

by_fed : (opened : LinkParameters) (link : ℕ) (run : List Mark) (bytes : List ℕ) (g : Guarded opened link run) → IsOpened opened → IsPrefixOf (bytes_received link Responder run ++ bytes) (bytes_sent link Initiator run) → IsBytes bytes
    → (end : End) → (end_state_after (server_rules opened) (live g.joined.s) (map FrameReceived (frames_completed Initiator (bytes_received link Responder run) bytes))).ended ≡ Some end → EndsForCall end
by_fed opened link run bytes g o prefix typed end e =
    let j = g.joined in
    let got = bytes_received link Responder run in
    let stream : IsOutput (j.u ++ (j.w.up ++ j.w.queued_up)) = subst IsOutput (sym j.linked.parts_up) j.linked.stream_up in
    let a = arrives opened Initiator got bytes (bytes_sent link Initiator run) j.u j.w.up j.w.queued_up stream j.frames_up j.sent_up prefix (bytes_both got bytes j.bytes_up typed) in
    let n = 0 + total_of sends_in j.u in
    let r = 0 + total_of requests_in j.u in
    let es = events_of (place_of opened j.u) (frames_at opened Initiator n r a.new) in
    let same : map FrameReceived (frames_completed Initiator got bytes) ≡ es = ap (λ (fs : List Frame). map FrameReceived fs) a.frames in
    server_ends opened j.k j.d j.all_up a.left o end a.new j.s j.u j.all_down j.w n r (place_of opened j.u) j.linked g.guards a.parts (omega arith) (omega arith) a.place a.bytes_are a.some
    (ap (λ (xs : List RunEvent). (end_state_after (server_rules opened) (live j.s) xs).ended) (sym same) ∙ e)

server_mark : (opened : LinkParameters) (link : ℕ) (run : List Mark) (mark : Mark) (g : Guarded opened link run) → IsOpened opened → MatchedMark link run mark → TypedMark run mark → NotOldMark link run mark → (end : End)
    → (end_state_after (server_rules opened) (live g.joined.s) (events_at link Responder run mark)).ended ≡ Some end → EndsForCall end
server_mark opened link run (marks.Submit l call form (submissions.Accepted xid)) g o matched typed fresh end e = not_by_none opened g.joined.s _ end (other_events (eqb l link) _) e
server_mark opened link run (marks.Submit l call form (submissions.Refused why)) g o matched typed fresh end e = not_by_none opened g.joined.s _ end refl e
server_mark opened link run (marks.Submit l call form submissions.Dropped) g o matched typed fresh end e = not_by_none opened g.joined.s _ end refl e
server_mark opened link run (marks.Wrote l Initiator bytes) g o matched typed fresh end e = not_by_none opened g.joined.s _ end (other_events (eqb l link) _) e
server_mark opened link run (marks.Wrote l Responder bytes) g o matched typed fresh end e = not_by_one opened g.joined.s _ (QueueWritten (length bytes)) (eqb l link && true) end (λ f x. absurd cc) tt refl e
server_mark opened link run (marks.Fed l Initiator bytes) g o matched typed fresh end e = not_by_none opened g.joined.s _ end (other_events (eqb l link) _) e
server_mark opened link run (marks.Fed l Responder bytes) g o matched typed fresh end e = by (eqb l link) refl
  where
    fs : List Frame
    fs = frames_completed Initiator (bytes_received link Responder run) bytes

    by : (b : Bool) → eqb l link ≡ b → EndsForCall end
    by true is = by_fed opened link run bytes g o (matched (eqb-true l link is)) typed end (ap (λ (b : Bool). (end_state_after (server_rules opened) (live g.joined.s) (if_own (b && true) (map FrameReceived fs))).ended) (sym is) ∙ e)
    by false is = not_by_none opened g.joined.s _ end (no_events_lem (eqb l link) true (map FrameReceived fs) is) e
server_mark opened link run (marks.Execute l xid moment payload place reply) g o matched typed fresh end e =
    not_by_one opened g.joined.s _ (CallExecuted (record { xid = xid; moment = moment; payload = payload; place = place; reply = reply })) (eqb l link && true) end (λ f x. absurd cc) tt refl e
server_mark opened link run (marks.Done l xid outcome) g o matched typed fresh end e = not_by_none opened g.joined.s _ end refl e
server_mark opened link run (marks.Lost l xid) g o matched typed fresh end e = not_by_none opened g.joined.s _ end refl e
server_mark opened link run (marks.Forget l xid) g o matched typed fresh end e = not_by_none opened g.joined.s _ end refl e
server_mark opened link run (marks.Revoke l xid bytes) g o matched typed fresh end e = not_by_none opened g.joined.s _ end (other_events (eqb l link) _) e
server_mark opened link run (marks.Drop l) g o matched typed fresh end e = not_by_none opened g.joined.s _ end refl e
server_mark opened link run (marks.Told l (Granted credits)) g o matched typed fresh end e = not_by_one opened g.joined.s _ (ServerTold (Granted credits)) (eqb l link && true) end (λ f x. absurd cc) refl refl e
server_mark opened link run (marks.Told l (Old xid at)) g o matched typed fresh end e = not_by_none opened g.joined.s _ end (no_events_lem (eqb l link) true _ (ne_eqb l link fresh)) e

server_from : (opened : LinkParameters) (link : ℕ) (o : IsOpened opened) (end : End) (run before : List Mark) → Guarded opened link before → AtEachMark (AskedMark IsAll opened link) before run → AtEachMark (ServedMark IsAll opened link) before run → AtEachMark (MatchedMark link) before run
    → AtEachMark (WithinGrant opened link) before run → AtEachMark TypedMark before run → AtEachMark (NotOldMark link) before run → (client opened link (before ++ run)).ended ≡ None → (server opened link (before ++ run)).ended ≡ Some end → EndsForCall end
server_from opened link o end [] before g asked served matched grant typed fresh up down =
    absurd (let wrong : None ≡ Some end = sym (ap (λ (r : List Mark). (server opened link r).ended) (append-nil before) ∙ ap (λ (x : EndState ServerState). x.ended) g.joined.server_is) ∙ down in cc)
server_from opened link o end (m ∷ run) before g asked served matched grant typed fresh up down =
    by (server opened link (before ++ m ∷ [])).ended refl (λ next. server_from opened link o end run (before ++ m ∷ []) next asked.1 served.1 matched.1 grant.1 typed.1 fresh.1 up_all down_all)
  where
    assoc : (before ++ m ∷ []) ++ run ≡ before ++ m ∷ run
    assoc = append_assoc before (m ∷ []) run

    up_all : (client opened link ((before ++ m ∷ []) ++ run)).ended ≡ None
    up_all = ap (λ (r : List Mark). (client opened link r).ended) assoc ∙ up

    down_all : (server opened link ((before ++ m ∷ []) ++ run)).ended ≡ Some end
    down_all = ap (λ (r : List Mark). (server opened link r).ended) assoc ∙ down

    one : server opened link (before ++ m ∷ []) ≡ end_state_after (server_rules opened) (live g.joined.s) (events_at link Responder before m)
    one = server_one opened link before m ∙ ap (λ (r : EndState ServerState). end_state_after (server_rules opened) r (events_at link Responder before m)) g.joined.server_is

    by : (x : Option End) → (server opened link (before ++ m ∷ [])).ended ≡ x → (Guarded opened link (before ++ m ∷ []) → EndsForCall end) → EndsForCall end
    by None is later =
        later (guarded_more opened link before m g.joined (mark_preserves opened link before m g.joined asked.0 served.0 matched.0 typed.0 (client_unended opened link (before ++ m ∷ []) run up_all) is) o grant.0 g.guards)
    by (Some x) is later =
        let same : Some x ≡ Some end = sym (server_last opened link (before ++ m ∷ []) run x is) ∙ down_all in
        server_mark opened link before m g o matched.0 typed.0 fresh.0 end (ap (λ (r : EndState ServerState). r.ended) (sym one) ∙ is ∙ same)

pub first_server_end : FirstServerEnd
unfolding end_of_side
first_server_end opened link run o typed laws fresh up end down =
    let start = starts opened link in
    server_from opened link o end run [] (record { joined = start.joined; guards = start.guards o }) laws.client laws.server laws.matched laws.grant typed fresh up down

-- ---- The client

pub client_last : (opened : LinkParameters) (link : ℕ) (before more : List Mark) (end : End) → (client opened link before).ended ≡ Some end → (client opened link (before ++ more)).ended ≡ Some end
client_last opened link before more end e = lasts (client_rules opened) (λ run. client opened link run) (λ earlier m. events_at link Initiator earlier m) (λ earlier m. client_one opened link earlier m) before more end e

abbrev IsClientEnd : End → Type 0
IsClientEnd end = EndsForMessage end ⊎ IsDenied end

-- an event that is no frame ends no client
none_ends : (opened : LinkParameters) (k : ClientState) (es : List RunEvent) (end : End) → es ≡ [] → (end_state_after (client_rules opened) (live k) es).ended ≡ Some end → ⊥
none_ends opened k es end none e = absurd (let wrong : None ≡ Some end = ap (λ (xs : List RunEvent). (end_state_after (client_rules opened) (live k) xs).ended) (sym none) ∙ e in cc)

one_ends : (opened : LinkParameters) (k : ClientState) (es : List RunEvent) (event : RunEvent) (b : Bool) (end : End) → ((f : Frame) → event ≢ FrameReceived f) → es ≡ if_own b (event ∷ []) → (end_state_after (client_rules opened) (live k) es).ended ≡ Some end → ⊥
one_ends opened k es event true end other is e =
    absurd (let wrong : None ≡ Some end = sym (ap (λ (xs : List RunEvent). (end_state_after (client_rules opened) (live k) xs).ended) is ∙ ap (λ (x : EndState ClientState). x.ended) (client_event opened k event other).state) ∙ e in cc)
one_ends opened k es event false end other is e = none_ends opened k es end is e

-- so a client ends when it is fed bytes
pub fed_ends : (opened : LinkParameters) (link : ℕ) (run : List Mark) (mark : Mark) (k : ClientState) (end : End) (Lasting : Type 0) → MatchedMark link run mark → TypedMark run mark
    → ((bytes : List ℕ) → IsPrefixOf (bytes_received link Initiator run ++ bytes) (bytes_sent link Responder run) → IsBytes bytes
    → (end_state_after (client_rules opened) (live k) (map FrameReceived (frames_completed Responder (bytes_received link Initiator run) bytes))).ended ≡ Some end → Lasting)
    → (end_state_after (client_rules opened) (live k) (events_at link Initiator run mark)).ended ≡ Some end → Lasting
fed_ends opened link run (marks.Submit l call form (submissions.Accepted xid)) k end Lasting matched typed fed e =
    absurd (one_ends opened k _ (CallSubmitted (length (bytes_received link Initiator run)) (record { xid = xid; call = call; form = form })) (eqb l link && true) end (λ f x. absurd cc) refl e)
fed_ends opened link run (marks.Submit l call form (submissions.Refused why)) k end Lasting matched typed fed e = absurd (none_ends opened k _ end refl e)
fed_ends opened link run (marks.Submit l call form submissions.Dropped) k end Lasting matched typed fed e = absurd (none_ends opened k _ end refl e)
fed_ends opened link run (marks.Wrote l Initiator bytes) k end Lasting matched typed fed e = absurd (one_ends opened k _ (QueueWritten (length bytes)) (eqb l link && true) end (λ f x. absurd cc) refl e)
fed_ends opened link run (marks.Wrote l Responder bytes) k end Lasting matched typed fed e = absurd (none_ends opened k _ end (other_events (eqb l link) _) e)
fed_ends opened link run (marks.Fed l Initiator bytes) k end Lasting matched typed fed e = by (eqb l link) refl
  where
    fs : List Frame
    fs = frames_completed Responder (bytes_received link Initiator run) bytes

    by : (b : Bool) → eqb l link ≡ b → Lasting
    by true is = fed bytes (matched (eqb-true l link is)) typed (ap (λ (b : Bool). (end_state_after (client_rules opened) (live k) (if_own (b && true) (map FrameReceived fs))).ended) (sym is) ∙ e)
    by false is = absurd (none_ends opened k _ end (no_events_lem (eqb l link) true (map FrameReceived fs) is) e)
fed_ends opened link run (marks.Fed l Responder bytes) k end Lasting matched typed fed e = absurd (none_ends opened k _ end (other_events (eqb l link) _) e)
fed_ends opened link run (marks.Execute l xid moment payload place reply) k end Lasting matched typed fed e = absurd (none_ends opened k _ end (other_events (eqb l link) _) e)
fed_ends opened link run (marks.Done l xid outcome) k end Lasting matched typed fed e = absurd (none_ends opened k _ end refl e)
fed_ends opened link run (marks.Lost l xid) k end Lasting matched typed fed e = absurd (none_ends opened k _ end refl e)
fed_ends opened link run (marks.Forget l xid) k end Lasting matched typed fed e = absurd (none_ends opened k _ end refl e)
fed_ends opened link run (marks.Revoke l xid bytes) k end Lasting matched typed fed e =
    absurd (one_ends opened k _ (MemoryRevoked (length (bytes_received link Initiator run)) xid) (eqb l link && true) end (λ f x. absurd cc) refl e)
fed_ends opened link run (marks.Drop l) k end Lasting matched typed fed e = absurd (none_ends opened k _ end refl e)
fed_ends opened link run (marks.Told l what) k end Lasting matched typed fed e = absurd (none_ends opened k _ end (other_events (eqb l link) _) e)

client_fed : (opened : LinkParameters) (link : ℕ) (run : List Mark) (bytes : List ℕ) (g : Guarded opened link run) → IsOpened opened → AgreesAgain opened → IsPrefixOf (bytes_received link Initiator run ++ bytes) (bytes_sent link Responder run) → IsBytes bytes
    → (end : End) → (end_state_after (client_rules opened) (live g.joined.k) (map FrameReceived (frames_completed Responder (bytes_received link Initiator run) bytes))).ended ≡ Some end → IsClientEnd end
client_fed opened link run bytes g o again prefix typed end e =
    let j = g.joined in
    let got = bytes_received link Initiator run in
    let stream : IsOutput (j.d ++ (j.w.down ++ j.w.queued_down)) = subst IsOutput (sym j.linked.parts_down) j.linked.stream_down in
    let a = arrives opened Responder got bytes (bytes_sent link Responder run) j.d j.w.down j.w.queued_down stream j.frames_down j.sent_down prefix (bytes_both got bytes j.bytes_down typed) in
    let n = 0 + total_of sends_in j.d in
    let r = 0 + total_of requests_in j.d in
    let place = length (concat (frames_at opened Responder 0 0 j.d)) in
    let es = events_of place (frames_at opened Responder n r a.new) in
    let same : map FrameReceived (frames_completed Responder got bytes) ≡ es = ap (λ (fs : List Frame). map FrameReceived fs) a.frames in
    client_ends opened j.s j.u j.all_down a.left o again end (place_of opened j.u) a.new j.k j.d j.all_up j.w n r place j.linked g.guards a.parts (omega arith) (omega arith) a.place a.bytes_are a.some
    (ap (λ (xs : List RunEvent). (end_state_after (client_rules opened) (live j.k) xs).ended) (sym same) ∙ e)

-- along a run, what is kept while neither side ends decides why the client ends
pub client_first : (opened : LinkParameters) (link : ℕ) (State : List Mark → Type 0) (joined : (before : List Mark) → State before → RunAgrees opened link before) (Kept : List Mark → Mark → Type 0) (end : End) (Lasting : Type 0)
    → ((before : List Mark) (m : Mark) (a : State before) → MarkAgrees opened link before m (joined before a) → TypedMark before m → Kept before m → State (before ++ m ∷ []))
    → ((before : List Mark) (bytes : List ℕ) (a : State before) → IsPrefixOf (bytes_received link Initiator before ++ bytes) (bytes_sent link Responder before) → IsBytes bytes
    → (end_state_after (client_rules opened) (live (joined before a).k) (map FrameReceived (frames_completed Responder (bytes_received link Initiator before) bytes))).ended ≡ Some end → Lasting)
    → (run before : List Mark) → State before → AtEachMark (AskedMark IsAll opened link) before run → AtEachMark (ServedMark IsAll opened link) before run → AtEachMark (MatchedMark link) before run → AtEachMark Kept before run → AtEachMark TypedMark before run
    → (server opened link (before ++ run)).ended ≡ None → (client opened link (before ++ run)).ended ≡ Some end → Lasting
client_first opened link State joined Kept end Lasting more fed [] before a asked served matched kept typed down up =
    absurd (let wrong : None ≡ Some end = sym (ap (λ (r : List Mark). (client opened link r).ended) (append-nil before) ∙ ap (λ (x : EndState ClientState). x.ended) (joined before a).client_is) ∙ up in cc)
client_first opened link State joined Kept end Lasting more fed (m ∷ run) before a asked served matched kept typed down up =
    by (client opened link (before ++ m ∷ [])).ended refl (λ next. client_first opened link State joined Kept end Lasting more fed run (before ++ m ∷ []) next asked.1 served.1 matched.1 kept.1 typed.1 down_all up_all)
  where
    j : RunAgrees opened link before
    j = joined before a

    assoc : (before ++ m ∷ []) ++ run ≡ before ++ m ∷ run
    assoc = append_assoc before (m ∷ []) run

    down_all : (server opened link ((before ++ m ∷ []) ++ run)).ended ≡ None
    down_all = ap (λ (r : List Mark). (server opened link r).ended) assoc ∙ down

    up_all : (client opened link ((before ++ m ∷ []) ++ run)).ended ≡ Some end
    up_all = ap (λ (r : List Mark). (client opened link r).ended) assoc ∙ up

    one : client opened link (before ++ m ∷ []) ≡ end_state_after (client_rules opened) (live j.k) (events_at link Initiator before m)
    one = client_one opened link before m ∙ ap (λ (r : EndState ClientState). end_state_after (client_rules opened) r (events_at link Initiator before m)) j.client_is

    by : (x : Option End) → (client opened link (before ++ m ∷ [])).ended ≡ x → (State (before ++ m ∷ []) → Lasting) → Lasting
    by None is next =
        next (more before m a (mark_preserves opened link before m j asked.0 served.0 matched.0 typed.0 is (server_unended opened link (before ++ m ∷ []) run down_all)) typed.0 kept.0)
    by (Some x) is next =
        let same : Some x ≡ Some end = sym (client_last opened link (before ++ m ∷ []) run x is) ∙ up_all in
        fed_ends opened link before m j.k end Lasting matched.0 typed.0 (λ bytes prefix typed e. fed before bytes a prefix typed e) (ap (λ (r : EndState ClientState). r.ended) (sym one) ∙ is ∙ same)

pub first_client_end : FirstClientEnd
unfolding end_of_side
first_client_end opened link run o again typed laws down end up =
    let start = starts opened link in
    client_first opened link (Guarded opened link) (λ before g. g.joined) (WithinGrant opened link) end (IsClientEnd end) (λ before m g agrees typed within. guarded_more opened link before m g.joined agrees o within g.guards)
    (λ before bytes g prefix typed e. client_fed opened link before bytes g o again prefix typed end e) run [] (record { joined = start.joined; guards = start.guards o }) laws.client laws.server laws.matched laws.grant typed down up
