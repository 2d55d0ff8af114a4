-- On a matched link each call that the server receives has reads of one position, so its reads are kept along a run; and what its
-- memory holds is laid by the tagged segments that came.
use Rattle.std.proofs.Common.{◌≡◌, ℕ, ◌+◌, Bool, false, cond, List, [], ◌∷◌, ◌++◌, Option, None, Some, Ok, refl, sym, ap, subst, ◌∙◌, append_assoc, inl, inr}
use Rattle.nr_header.specs.declared.header.ChunkLists.{ChunkLists}
use Rattle.nr_header.specs.declared.header.Header.{Header}
use Rattle.nr_header.specs.Reading.{header_of}
use Rattle.nr_wire.specs.declared.hello.Side.TheVariants.{Responder}
use Rattle.nr_wire.specs.Segment.{segment_of}
use Rattle.nr_link.specs.declared.end.End.{End as Stop}
use Rattle.nr_link.specs.Frames.{Frame, is_hello}
use Rattle.nr_reduce.specs.Hellos.{server_hello}
use Rattle.nr_reduce.specs.declared.call.Submission.TheVariants as submissions
use Rattle.nr_reduce.specs.declared.mark.Mark.{Mark}
use Rattle.nr_reduce.specs.declared.mark.Mark.TheVariants as marks
use Rattle.nr_reduce.specs.declared.mark.LinkParameters.{LinkParameters}
use Rattle.nr_reduce.specs.declared.outline.Plan.{Plan}
use Rattle.nr_reduce.specs.Plans.{read_list, read_stag, lists_of}
use Rattle.nr_reduce.specs.ClientState.{call_payload, stag_for}
use Rattle.nr_reduce.specs.Events.{RunEvent, events}
use Rattle.nr_reduce.specs.Events.RunEvent.{FrameReceived, CallSubmitted, MemoryRevoked, CallExecuted, QueueWritten, ServerTold}
use Rattle.nr_reduce.specs.EndRules.{EndState, next_end_state, next_end_state_by, next_end_state_in, end_state_after}
use Rattle.nr_reduce.specs.Matched.{Matched}
use Rattle.nr_reduce.specs.Asked.{AskedSoFar}
use Rattle.nr_reduce.specs.Served.{ServedSoFar}
use Rattle.nr_reduce.specs.ServerState.{ServerState, PendingCall, credit_told}
use Rattle.nr_reduce.specs.ServerMessages.{verdict}
use Rattle.nr_reduce.specs.ServerMessages.Verdict.{MakesPending}
use Rattle.nr_reduce.specs.ServerFrames.{frame_effect}
use Rattle.nr_reduce.specs.Server.{server_rules, server_end, server_state_after, initial_server, with_effect, with_own_hello}
use Rattle.nr_reduce.specs.Run.{client}
use Rattle.nr_reduce.specs.RunLaws.{known_stream, server_by}
use Rattle.nr_reduce.specs.ChunkBytes.{lists_by}
use Rattle.nr_reduce.proofs.OwnStags.{AreNumbered, server_numbers}
use Rattle.nr_reduce.proofs.Steps.{end_state_after_append}
use Rattle.nr_laws.specs.Typed.{TypedMark, IsTyped}
use Rattle.nr_laws.proofs.EventOutputs.{GoesOn, along, outputs_by, outputs_in, place_after}
use Rattle.nr_laws.proofs.Outputs.{Output, server_says, server_final_outputs, effect_outputs}
use Rattle.nr_laws.proofs.ClientRun.{WasSubmitted}
use Rattle.nr_laws.proofs.ConveyedCalls.{planned_fits, plan_reads}
use Rattle.nr_laws.proofs.ExecutedCalls.{plain_came, frame_message, server_receives_of}
use Rattle.nr_laws.proofs.WaitingCalls.{accepted_stags, accepted_plan}
use Rattle.nr_laws.proofs.OnceByXid.{at_mark}
use Rattle.nr_laws.proofs.Outputs.Output.{AHello}
use Rattle.nr_laws.proofs.ReadsAlong.{ReadsAt, last_of, OwnMessages, frame_reads, executed_reads, other_reads}
use Rattle.nr_laws.proofs.ServerAlong.{ServerGood, hello_preserves, outs_of}
use Rattle.nr_laws.proofs.ServerSide.{server_goes}
use Rattle.nr_laws.proofs.SinksKept.{IsOwnRead}
use Rattle.nr_laws.proofs.MadePending.{made_pending}

-- ---- The lists of a call that a message makes pending

pub record HasLists (message : List ℕ) (c : PendingCall) : Type 0 where
  pub header : Header
  pub is : header_of message ≡ Ok header
  pub lists : c.lists ≡ lists_by header.body
  pub stream : c.inline ≡ known_stream message header.body

pub verdict_lists : (k : ServerState) (message : List ℕ) (c : PendingCall) → verdict k message ≡ MakesPending c → HasLists message c
verdict_lists k message c e =
    let m = made_pending k message c e in
    record { header = m.header; is = m.is_header; lists = ap (λ (x : PendingCall). x.lists) m.is; stream = ap (λ (x : PendingCall). x.inline) m.is }

own_list : (stag : ℕ) (p : Plan) → IsOwnRead (lists_of stag p).read
unfolding lists_of
own_list stag p = by p.read_at
  where
    by : (o : Option ℕ) → IsOwnRead (read_list stag p o)
    by None = record { position = 0; handle = 0; lengths = []; is = refl }
    by (Some position) = record { position = position; handle = read_stag stag p; lengths = p.read; is = refl }

own_message : (opened : LinkParameters) (link : ℕ) (run : List Mark) (index : ℕ) (message : List ℕ) (k : ServerState) (c : PendingCall) → IsTyped run → WasSubmitted opened link run index message → verdict k message ≡ MakesPending c → IsOwnRead c.lists.read
own_message opened link run index message k c typed w e =
    let l = verdict_lists k message c e in
    let stag : ℕ = stag_for (client opened link w.earlier).state w.xid in
    let p : Plan = w.accepted.plan in
    let formed = accepted_plan opened link w.earlier w.call w.form w.xid p w.accepted w.accepted.planned in
    let ok = at_mark TypedMark run w.earlier (marks.Submit link w.call w.form (submissions.Accepted w.xid)) w.later w.is typed in
    let fine = planned_fits (call_payload w.xid w.call) w.form formed.up formed.down stag p formed.up_fits formed.planned ok.0 ok.1 (accepted_stags opened link w.earlier w.call w.form w.xid w.accepted) in
    let r = plan_reads w.xid opened.wished stag p l.header fine.0 fine.1 w.accepted.xids (ap header_of (sym w.message_is) ∙ l.is) in
    subst (λ (lists : ChunkLists). IsOwnRead lists.read) (sym (l.lists ∙ r.lists)) (own_list stag p)

-- ---- Along the events

abbrev pub ServerOwn : EndState ServerState → RunEvent → Type 0
ServerOwn r (FrameReceived f) = r.ended ≡ None → is_hello f ≡ false → OwnMessages r.state f
ServerOwn r (CallSubmitted p a) = Unit {0}
ServerOwn r (MemoryRevoked p xid) = Unit {0}
ServerOwn r (CallExecuted e) = Unit {0}
ServerOwn r (QueueWritten taken) = Unit {0}
ServerOwn r (ServerTold what) = Unit {0}

abbrev pub ServerFine : EndState ServerState → RunEvent → Type 0
ServerFine r e = ServerGood r e × ServerOwn r e

own_event : (opened : LinkParameters) (link : ℕ) (run : List Mark) → IsTyped run → AskedSoFar opened link run → Matched link run
    → (es : List RunEvent) (e : RunEvent) (more : List RunEvent) → events link Responder run ≡ es ++ e ∷ more → ServerOwn (end_state_after (server_rules opened) (initial_server opened) es) e
own_event opened link run typed asked matched es (FrameReceived f) more all = λ live behind s message c is whole v.
    own_message opened link run (server_by opened es).received.sends message (server_by opened es) c typed (frame_message opened link run typed asked matched es f more s message all behind is whole live) v
own_event opened link run typed asked matched es (CallSubmitted p a) more all = tt
own_event opened link run typed asked matched es (MemoryRevoked p xid) more all = tt
own_event opened link run typed asked matched es (CallExecuted e) more all = tt
own_event opened link run typed asked matched es (QueueWritten taken) more all = tt
own_event opened link run typed asked matched es (ServerTold what) more all = tt

runs_preserve : (opened : LinkParameters) (link : ℕ) (run : List Mark) → IsTyped run → AskedSoFar opened link run → Matched link run
    → (es more : List RunEvent) (place : ℕ) (r : EndState ServerState) → events link Responder run ≡ es ++ more → r ≡ end_state_after (server_rules opened) (initial_server opened) es → GoesOn (server_rules opened) ServerGood place r more → GoesOn (server_rules opened) ServerFine place r more
runs_preserve opened link run typed asked matched es [] place r all same g = tt
runs_preserve opened link run typed asked matched es (e ∷ more) place r all same g = (
  g.0,
  (g.1, subst (λ (x : EndState ServerState). ServerOwn x e) (sym same) (own_event opened link run typed asked matched es e more all)),
  runs_preserve opened link run typed asked matched (es ++ e ∷ []) more (place_after place e) (next_end_state (server_rules opened) r e) (all ∙ sym (append_assoc es (e ∷ []) more))
      (ap (λ (x : EndState ServerState). next_end_state (server_rules opened) x e) same ∙ sym (end_state_after_append (server_rules opened) (initial_server opened) es (e ∷ []))) g.2,
)

-- each frame is fine, and its call has reads of one position
pub server_fine : (opened : LinkParameters) (link : ℕ) (run : List Mark) → IsTyped run → AskedSoFar opened link run → ServedSoFar opened link run → Matched link run
    → GoesOn (server_rules opened) ServerFine 0 (initial_server opened) (events link Responder run)
server_fine opened link run typed asked served matched =
    let g = server_goes opened link run typed served in
    let r = server_receives_of opened link run typed asked matched in
    let es = events link Responder run in
    runs_preserve opened link run typed asked matched [] es 0 (initial_server opened) refl refl (hello_preserves opened 0 (initial_server opened) es r.came g.goes r.brings r.from (plain_came opened link run typed asked matched))

pub record ReadsKept (opened : LinkParameters) (es : List RunEvent) (r : EndState ServerState) (outs : List Output) : Type 0 where
  pub state : r ≡ end_state_after (server_rules opened) (initial_server opened) es
  pub reads : r.ended ≡ None → ReadsAt opened es r.state outs

abbrev ReadsNext : LinkParameters → List RunEvent → ServerState → List Output → RunEvent → Option Stop → Type 0
ReadsNext opened es k outs e o =
    (next_end_state_by (server_rules opened) k e o).ended ≡ None → ReadsAt opened (es ++ e ∷ []) (next_end_state_by (server_rules opened) k e o).state (outs ++ outputs_by (server_rules opened) (server_says opened) server_final_outputs k e o)

frame_next : (opened : LinkParameters) (es : List RunEvent) (k : ServerState) (outs : List Output) (f : Frame) → ServerFine (record { state = k; ended = None }) (FrameReceived f) → AreNumbered 1 k.regions → server_end opened k (FrameReceived f) ≡ None → ReadsAt opened es k outs
    → ReadsAt opened (es ++ FrameReceived f ∷ []) (server_state_after opened k (FrameReceived f)) (outs ++ server_says opened k (FrameReceived f))
unfolding server_state_after server_says
frame_next opened es k outs f (inl h, own) numbered stays reads =
    subst (λ (b : Bool). ReadsAt opened (es ++ FrameReceived f ∷ []) (cond b (with_own_hello opened k f) (with_effect k f (frame_effect k f))) (outs ++ cond b (AHello (server_hello opened f) ∷ []) (effect_outputs k (frame_effect k f)))) (sym h.0)
    (other_reads opened es (FrameReceived f) k (with_own_hello opened k f) outs (AHello (server_hello opened f) ∷ []) (ap (λ (b : Bool). cond b 0 (last_of (segment_of f.bytes)) + 0) h.0) refl refl refl refl refl reads)
frame_next opened es k outs f (inr (s, behind, is), own) numbered stays reads =
    subst (λ (b : Bool). ReadsAt opened (es ++ FrameReceived f ∷ []) (cond b (with_own_hello opened k f) (with_effect k f (frame_effect k f))) (outs ++ cond b (AHello (server_hello opened f) ∷ []) (effect_outputs k (frame_effect k f)))) (sym behind)
    (frame_reads opened es k outs f s behind is stays (own refl behind) numbered reads)

reads_event : (opened : LinkParameters) (es : List RunEvent) (k : ServerState) (outs : List Output) (e : RunEvent) → ServerFine (record { state = k; ended = None }) e → AreNumbered 1 k.regions → (o : Option Stop) → server_end opened k e ≡ o → ReadsAt opened es k outs → ReadsNext opened es k outs e o
unfolding server_state_after server_says
reads_event opened es k outs e fine numbered (Some end) stops reads = λ live. absurd cc
reads_event opened es k outs (FrameReceived f) fine numbered None stays reads = λ live. frame_next opened es k outs f fine numbered stays reads
reads_event opened es k outs (CallSubmitted p a) fine numbered None stays reads = λ live. other_reads opened es (CallSubmitted p a) k k outs [] refl refl refl refl refl refl reads
reads_event opened es k outs (MemoryRevoked p xid) fine numbered None stays reads = λ live. other_reads opened es (MemoryRevoked p xid) k k outs [] refl refl refl refl refl refl reads
reads_event opened es k outs (CallExecuted e) fine numbered None stays reads = λ live. executed_reads opened es k outs e reads
reads_event opened es k outs (QueueWritten taken) fine numbered None stays reads = λ live. other_reads opened es (QueueWritten taken) k (record k { written = k.written + taken }) outs [] refl refl refl refl refl refl reads
reads_event opened es k outs (ServerTold what) fine numbered None stays reads = λ live. other_reads opened es (ServerTold what) k (record k { credit = credit_told k.credit what }) outs [] refl refl refl refl refl refl reads

reads_in : (opened : LinkParameters) (es : List RunEvent) (k : ServerState) (ended : Option Stop) (outs : List Output) (e : RunEvent) → ServerFine (record { state = k; ended = ended }) e → AreNumbered 1 k.regions → (ended ≡ None → ReadsAt opened es k outs)
    → (next_end_state_in (server_rules opened) k e ended).ended ≡ None → ReadsAt opened (es ++ e ∷ []) (next_end_state_in (server_rules opened) k e ended).state (outs ++ outputs_in (server_rules opened) (server_says opened) server_final_outputs k e ended)
reads_in opened es k (Some end) outs e fine numbered reads = λ live. absurd cc
reads_in opened es k None outs e fine numbered reads = reads_event opened es k outs e fine numbered (server_end opened k e) refl (reads refl)

reads_nothing : (opened : LinkParameters) → ReadsAt opened [] (initial_server opened).state []
reads_nothing opened = record { done = []; kept = record { calls = tt; sinks = tt; owners = tt }; requests = refl; lasts = refl }

pub reads_along : (opened : LinkParameters) (es : List RunEvent) → GoesOn (server_rules opened) ServerFine 0 (initial_server opened) es → ReadsKept opened es (end_state_after (server_rules opened) (initial_server opened) es) (outs_of opened es)
reads_along opened es g =
    along (server_rules opened) (server_says opened) server_final_outputs ServerFine (λ es place r outs. ReadsKept opened es r outs)
    (λ es place r outs e next fine p. record {
      state = ap (λ (x : EndState ServerState). next_end_state (server_rules opened) x e) p.state ∙ sym (end_state_after_append (server_rules opened) (initial_server opened) es (e ∷ []));
      reads = reads_in opened es r.state r.ended outs e fine (subst (λ (x : EndState ServerState). AreNumbered 1 x.state.regions) (sym p.state) (server_numbers opened es)) p.reads;
    })
    [] 0 (initial_server opened) [] es g (record { state = refl; reads = λ live. reads_nothing opened })
