-- The answer of an executed call ends its client for its reply alone: its lists suit what the call offered, and what they convey is that
-- reply. A plain server's reply has the call's xid, and doesn't end it.
use Rattle.std.proofs.Common.{◌≡◌, ℕ, ◌≤◌, ◌<◌, Bool, true, false, cond, ◌||◌, eqb, List, [], ◌∷◌, ◌++◌, map, Option, None, Some, Result, Ok, refl, sym, ap, subst, ◌∙◌, arith, append-nil}
use Rattle.std.specs.List.{find, list_any}
use Rattle.nr_xdr.specs.Item.{IsBytes}
use Rattle.nr_xdr.specs.Fields.{word_at}
use Rattle.nr_header.specs.declared.header.ChunkLists.{ChunkLists}
use Rattle.nr_header.specs.declared.header.Header.{Header}
use Rattle.nr_header.specs.Reading.{header_of}
use Rattle.nr_wire.specs.declared.hello.Side.TheVariants.{Initiator, Responder}
use Rattle.nr_rpc.specs.declared.head.CallHead.{CallHead}
use Rattle.nr_rpc.specs.Reading.{reply_of, xid_of_call, target_of}
use Rattle.nr_header.specs.Constants.{PAYLOAD_MAX}
use Rattle.nr_reduce.proofs.OwnLimits.{server_limits}
use Rattle.nr_reduce.specs.declared.call.Call.{Call}
use Rattle.nr_outside.specs.declared.moment.Moment.{Moment}
use Rattle.nr_reduce.specs.declared.mark.Entry.{Entry}
use Rattle.nr_reduce.specs.declared.mark.Mark.{Mark}
use Rattle.nr_reduce.specs.declared.mark.Mark.TheVariants as marks
use Rattle.nr_reduce.specs.declared.mark.LinkParameters.{LinkParameters}
use Rattle.nr_reduce.specs.declared.outline.Plan.{Plan}
use Rattle.nr_reduce.specs.History.{ExecutedCall}
use Rattle.nr_reduce.specs.Opening.{IsOpened}
use Rattle.nr_reduce.specs.KeepsReplyLimits.{KeepsReplyLimits, xid_of_reply}
use Rattle.nr_reduce.specs.Events.{RunEvent, events}
use Rattle.nr_reduce.specs.Events.RunEvent.{FrameReceived}
use Rattle.nr_reduce.specs.Plans.{Buffer, buffers, lists_of, read_list, write_stag, reply_stag}
use Rattle.nr_reduce.specs.Chunks.{answers_offer, reply_conveyed}
use Rattle.nr_reduce.specs.Holds.{Answer, answer_for, answer_lists, answer_message}
use Rattle.nr_reduce.specs.ChunkBytes.{IsOffer, answer_segments, lists_by, inline_by, ReadsAsAnswer}
use Rattle.nr_reduce.specs.ClientState.{ClientState, OutstandingCall, client_memory_at, stag_for}
use Rattle.nr_reduce.specs.ClientMessages.{reply_by_payload, answered_call}
use Rattle.nr_reduce.specs.ClientMessages.ReplyVerdict.{EndsLink}
use Rattle.nr_reduce.specs.Client.{client_rules, initial_client}
use Rattle.nr_reduce.specs.Run.{client}
use Rattle.nr_reduce.specs.ServerState.{ServerState, PendingCall, credit_word}
use Rattle.nr_reduce.specs.Server.{offer_by, offer_of, answer_of_target}
use Rattle.nr_reduce.specs.RunLaws.{server_by}
use Rattle.nr_reduce.proofs.AnswerMessages.{answer_again}
use Rattle.nr_reduce.proofs.Answering.{answered, suits_offer}
use Rattle.nr_reduce.proofs.Calls.{executed_head}
use Rattle.nr_reduce.proofs.OwnStags.{ClientNumbers, client_numbers}
use Rattle.nr_reduce.specs.Served.{ServedSoFar}
use Rattle.nr_laws.specs.MatchedSoFar.{MatchedSoFar}
use Rattle.nr_laws.specs.Typed.{TypedMark, IsTyped}
use Rattle.nr_laws.specs.Payloads.{HasPlan}
use Rattle.nr_laws.specs.PlainLinks.{server_with, HasPlainReplies, PlainReplyMark}
use Rattle.nr_laws.proofs.EventOutputs.{GoesOn, later_preserve, places_after}
use Rattle.nr_laws.proofs.Outputs.{Output}
use Rattle.nr_laws.proofs.Outputs.Output.{ASegment}
use Rattle.nr_laws.proofs.ServerAlong.{outs_of, SaidAnswer}
use Rattle.nr_laws.proofs.ExecuteMarks.{execute_mark, ExecuteMark}
use Rattle.nr_laws.proofs.OnceByXid.{at_mark, before_mark}
use Rattle.nr_laws.proofs.HeaderXid.{header_xid, answer_xid}
use Rattle.nr_laws.proofs.ClientSays.{ClientGood}
use Rattle.nr_laws.proofs.ClientRun.{SubmittedCall, client_goes}
use Rattle.nr_laws.proofs.ClientMemory.{HasBuffers, client_gathers}
use Rattle.nr_laws.proofs.Memory.{Part, parts_of, parts_out, gathers, Settled, settled_later}
use Rattle.nr_laws.proofs.Outcomes.{client_by}
use Rattle.nr_laws.proofs.DoneCalls.{AnsweredBy, answered_by_lem}
use Rattle.nr_laws.proofs.Following.{far_before}
use Rattle.nr_laws.proofs.Replied.{same_body_lem}
use Rattle.nr_laws.proofs.SubmittedPlans.{AnsweredCall, answered_submit}
use Rattle.nr_laws.proofs.KeptOffers.{PendingOffer, pending_offer}
use Rattle.nr_laws.proofs.ReplyMemory.{memory_conveys}
use Rattle.nr_laws.proofs.ServerCredits.{credits_by}
use Rattle.nr_laws.proofs.Guards.{word_most}
use Rattle.nr_reduce.proofs.Steps.{AtEachMark_first}
use Rattle.nr_laws.proofs.PendingRuns.{executes_pending}
use Rattle.nr_laws.proofs.OwnExecutes.{IsOwnPayload, own_executes}
use Rattle.nr_laws.proofs.JudgedMessages.{EndsFor}
use Rattle.nr_laws.proofs.JudgedReplies.{JudgedBy, answer_judged, own_reply_judged}

record FoundOne (xid : ℕ) (calls : List PendingCall) : Type 0 where
  call : PendingCall
  there : find (λ (c : PendingCall). eqb c.xid xid) calls ≡ Some call

found_one : (xid : ℕ) (calls : List PendingCall) → list_any (λ (c : PendingCall). eqb c.xid xid) calls ≡ true → FoundOne xid calls
found_one xid [] e = absurd (let wrong : false ≡ true = e in cc)
found_one xid (c ∷ calls) e = by (eqb c.xid xid) refl e (found_one xid calls)
  where
    by : (b : Bool) → eqb c.xid xid ≡ b → (b || list_any (λ (x : PendingCall). eqb x.xid xid) calls) ≡ true → (list_any (λ (x : PendingCall). eqb x.xid xid) calls ≡ true → FoundOne xid calls) → FoundOne xid (c ∷ calls)
    by true is e more = record { call = c; there = ap (λ (b : Bool). cond b (Some c) (find (λ (x : PendingCall). eqb x.xid xid) calls)) is }
    by false is e more = (let f = more e in record { call = f.call; there = ap (λ (b : Bool). cond b (Some c) (find (λ (x : PendingCall). eqb x.xid xid) calls)) is ∙ f.there })

-- ---- An answer is of the offer of the call that it answers

pub record OfferedTo (opened : LinkParameters) (link : ℕ) (run : List Mark) (earlier : List RunEvent) (call : OutstandingCall) (es : List RunEvent) (e : ExecutedCall) : Type 0 where
  pub answered : AnsweredBy opened link run e es
  pub own_xid : call.xid ≡ e.xid
  pub submitted : AnsweredCall opened link run earlier call
  pub same : e.xid ≡ submitted.submit.submit.xid
  pub fine : IsOffer (lists_of (stag_for (client opened link submitted.submit.submit.earlier).state submitted.submit.submit.xid) submitted.submit.submit.accepted.plan)
  pub offer : offer_of (server_by opened es) e.xid ≡ lists_of (stag_for (client opened link submitted.submit.submit.earlier).state submitted.submit.submit.xid) submitted.submit.submit.accepted.plan

pub offered_to : (opened : LinkParameters) (link : ℕ) (run : List Mark) → IsTyped run → MatchedSoFar opened link run → (earlier more : List RunEvent) → events link Initiator run ≡ earlier ++ more → (message : List ℕ) (header : Header) → header_of message ≡ Ok header
    → (call : OutstandingCall) → answered_call (client_by opened earlier).state header.xid ≡ Some call → call.xid ≡ header.xid → (xs : List Output) (s : SaidAnswer opened (events link Responder run) xs message) → OfferedTo opened link run earlier call s.earlier s.call
offered_to opened link run typed far earlier more is_events message header is_header call is_call own xs s = record {
  answered = x;
  own_xid = own_xid;
  submitted = w;
  same = same;
  fine = p.offer;
  offer = ap offer_by f.there ∙ p.lists;
}
  where
    server : ServerState
    server = server_by opened s.earlier

    e : ExecutedCall
    e = s.call

    x : AnsweredBy opened link run e s.earlier
    x = answered_by_lem opened link run typed far s.earlier e s.later s.is

    m : ExecuteMark link run s.earlier e
    m = x.mark

    word : e.xid < 4294967296
    word = x.fits

    -- the call that is answered is the one that was executed
    own_xid : call.xid ≡ e.xid
    own_xid = own ∙ header_xid message header is_header ∙ ap (λ (xs : List ℕ). word_at 0 xs) s.message ∙ answer_xid e.xid (credit_word server) (offer_of server e.xid) s.answer (omega (arith, word))

    w : AnsweredCall opened link run earlier call
    w = answered_submit opened link run typed far.asked earlier more is_events header.xid call is_call

    u : SubmittedCall opened link run w.submit.index w.submit.own
    u = w.submit.submit

    plan : Plan
    plan = u.accepted.plan

    stag : ℕ
    stag = stag_for (client opened link u.earlier).state u.xid

    same : e.xid ≡ u.xid
    same = sym own_xid ∙ w.submit.own_xid

    has : HasPlan opened link run u.xid plan
    has = record { call = u.call; form = u.form; before = u.earlier; at = record { after = u.later; is = u.is }; planned = u.accepted.planned }

    -- its offer
    f : FoundOne e.xid server.calls
    f = found_one e.xid server.calls (executes_pending opened link run typed far.served s.earlier e s.later s.is)

    p : PendingOffer f.call stag plan
    p = pending_offer opened link run m.earlier (execute_mark link e) m.later u.xid plan (before_mark TypedMark run m.earlier (execute_mark link e) m.later m.is typed) (far_before opened link run m.earlier (execute_mark link e) m.later m.is far) far.asked m.is
        has s.earlier [] (m.before ∙ sym (append-nil s.earlier)) s.live f.call (ap (λ (n : ℕ). find (λ (c : PendingCall). eqb c.xid n) server.calls) (sym same) ∙ f.there)

-- what a client makes of an answer is what it makes of the executed call's reply
pub record JudgesReply (opened : LinkParameters) (link : ℕ) (run : List Mark) (call : OutstandingCall) (earlier : List RunEvent) (e : ExecutedCall) (reason : ℕ) : Type 0 where
  pub answered : AnsweredBy opened link run e earlier
  pub own_xid : call.xid ≡ e.xid
  pub bytes : IsBytes e.payload
  pub by_reply : reply_by_payload call.xid (Some e.reply) ≡ EndsLink reason

pub answer_judges : (opened : LinkParameters) (link : ℕ) (run : List Mark) (reason : ℕ) → IsOpened opened → IsTyped run → MatchedSoFar opened link run
    → (d : EndsFor opened link run reason) (j : JudgedBy (client_by opened d.earlier).state d.frame.end d.message reason) (s : SaidAnswer opened (events link Responder run) d.before d.message) → JudgesReply opened link run j.call s.earlier s.call reason
unfolding lists_of
answer_judges opened link run reason opens typed far d j s = record {
  answered = x;
  own_xid = g.own_xid;
  bytes = own.bytes;
  by_reply = answer_judged k place j.call d.message j.header.body a.long a.stream (answer_lists (lists_of stag plan) a) e.reply reason lists inline
      ((λ i. answers_offer a.long (lists_of (stag_is i) (plan_is i)) (answer_lists (lists_of stag plan) a)) ∙ suits)
      (ap (λ (c : Call). reply_conveyed c.prog c.vers c.proc (cond a.long None (Some a.stream)) (answer_lists (lists_of stag plan) a) (client_memory_at k place)) call_is ∙ conveys)
      j.by_its_body;
}
  where
    k : ClientState
    k = (client_by opened d.earlier).state

    place : ℕ
    place = d.frame.end

    server : ServerState
    server = server_by opened s.earlier

    e : ExecutedCall
    e = s.call

    a : Answer
    a = s.answer

    g : OfferedTo opened link run d.earlier j.call s.earlier e
    g = offered_to opened link run typed far d.earlier (FrameReceived d.frame ∷ d.later) d.is d.message j.header j.is_header j.call j.is_call j.own d.before s

    x : AnsweredBy opened link run e s.earlier
    x = g.answered

    m : ExecuteMark link run s.earlier e
    m = x.mark

    word : e.xid < 4294967296
    word = x.fits

    credit : credit_word server < 4294967296
    credit =
        let served : ServedSoFar opened link m.earlier = AtEachMark_first _ [] m.earlier (execute_mark link e ∷ m.later) (subst (ServedSoFar opened link) m.is far.served) in
        let c = (credits_by opened link m.earlier s.earlier m.before opens served).most in
        let w = word_most server in
        let f = opens.granted_fits in
        omega (arith, c, w, f)

    bytes : IsBytes e.reply
    bytes = at_mark TypedMark run m.earlier (execute_mark link e) m.later m.is typed

    w : AnsweredCall opened link run d.earlier j.call
    w = g.submitted

    u : SubmittedCall opened link run w.submit.index w.submit.own
    u = w.submit.submit

    plan : Plan
    plan = u.accepted.plan

    stag : ℕ
    stag = stag_for (client opened link u.earlier).state u.xid

    stag_is : j.call.stag ≡ stag
    stag_is = w.submit.own_stag

    plan_is : j.call.plan ≡ plan
    plan_is = w.submit.own_plan

    call_is : j.call.call ≡ u.call
    call_is = w.submit.own_call

    has : HasPlan opened link run u.xid plan
    has = record { call = u.call; form = u.form; before = u.earlier; at = record { after = u.later; is = u.is }; planned = u.accepted.planned }

    offer : offer_of server e.xid ≡ lists_of stag plan
    offer = g.offer

    -- its target
    own : IsOwnPayload u.xid u.call e.payload
    own = own_executes opened link run m.earlier u.xid plan e.moment e.payload e.place e.reply typed far has
        (record { after = m.later; is = m.is ∙ ap (λ (n : ℕ). m.earlier ++ marks.Execute link n e.moment e.payload e.place e.reply ∷ m.later) g.same })

    down : ℕ
    down = server.down_max

    down_small : down ≤ PAYLOAD_MAX
    down_small = (let limit = (server_limits opened s.earlier).down.1 in omega (arith, limit))

    answer : answer_for (lists_of stag plan) down u.call.prog u.call.vers u.call.proc e.reply ≡ Some a
    answer = ap (λ (o : ChunkLists). answer_for o down u.call.prog u.call.vers u.call.proc e.reply) (sym offer)
        ∙ ap (λ (r : Result CallHead ℕ). answer_of_target (offer_of server e.xid) down e.reply (target_of r)) (sym own.head) ∙ s.is_answer

    -- what is read of its message
    message : d.message ≡ answer_message e.xid (credit_word server) (lists_of stag plan) a
    message = s.message ∙ ap (λ (o : ChunkLists). answer_message e.xid (credit_word server) o a) offer

    again : ReadsAsAnswer (lists_of stag plan) a e.xid (credit_word server) (answer_message e.xid (credit_word server) (lists_of stag plan) a)
    again = answer_again (read_list stag plan plan.read_at) (write_stag stag plan) (reply_stag stag plan) plan.write plan.reply down u.call.prog u.call.vers u.call.proc e.xid (credit_word server) e.reply a bytes g.fine answer down_small word credit

    body : again.body ≡ j.header.body
    body = same_body_lem e.xid (credit_word server) again.body j.header (sym again.reads ∙ ap header_of (sym message) ∙ j.is_header)

    inline : inline_by d.message j.header.body ≡ cond a.long None (Some a.stream)
    inline = (λ i. inline_by (message i) (sym body i)) ∙ again.stream

    lists : lists_by j.header.body ≡ answer_lists (lists_of stag plan) a
    lists = ap lists_by (sym body) ∙ again.lists

    suits : answers_offer a.long (lists_of stag plan) (answer_lists (lists_of stag plan) a) ≡ true
    suits = suits_offer (read_list stag plan plan.read_at) (write_stag stag plan) (reply_stag stag plan) plan.write plan.reply down u.call.prog u.call.vers u.call.proc e.reply a
        (answered (read_list stag plan plan.read_at) (write_stag stag plan) (reply_stag stag plan) plan.write plan.reply down u.call.prog u.call.vers u.call.proc e.reply a bytes answer)

    -- what the client's memory holds
    next : places_after 0 d.earlier < place
    next = (let g = client_goes opened link run typed far.asked in let rest = later_preserve (client_rules opened) (ClientGood opened) 0 (initial_client opened) d.earlier (FrameReceived d.frame ∷ d.later)
        (subst (λ (xs : List RunEvent). GoesOn (client_rules opened) (ClientGood opened) 0 (initial_client opened) xs) d.is g.goes) in let one = rest.0 in one.1)

    settled : Settled place k.regions k.accesses_received
    settled = settled_later (places_after 0 d.earlier) place k.regions k.accesses_received (omega (arith, next)) w.settled

    backed : HasBuffers k.regions (buffers stag plan)
    backed = subst (λ (bs : List Buffer). HasBuffers k.regions bs) (λ i. buffers (stag_is i) (plan_is i)) w.backed

    numbers : ClientNumbers opened k
    numbers = client_numbers opened d.earlier

    front : List Part
    front = parts_out (outs_of opened s.earlier)

    parts : parts_of k.accesses_received ≡ front ++ parts_out (map ASegment (answer_segments (lists_of stag plan) a))
    parts = gathers (client_rules opened) (λ (x : ClientState). x.accesses_received) (client_gathers opened) (initial_client opened) d.earlier d.before d.brings d.live
        ∙ s.before
        ∙ ap (λ (o : ChunkLists). front ++ parts_out (map ASegment (answer_segments o a))) offer

    conveys : reply_conveyed u.call.prog u.call.vers u.call.proc (cond a.long None (Some a.stream)) (answer_lists (lists_of stag plan) a) (client_memory_at k place) ≡ Some e.reply
    conveys = memory_conveys k place opened.first_stag stag plan a front down u.call.prog u.call.vers u.call.proc e.reply bytes numbers.regions settled backed parts answer

pub answer_ends_none : (reply_to : List Entry → Moment → List ℕ → Option (List ℕ)) (adds : Moment → List ℕ → List ℕ → List Entry) (opened : LinkParameters) (link : ℕ) (run : List Mark) (reason : ℕ) → IsOpened opened → IsTyped run → MatchedSoFar opened link run
    → HasPlainReplies (server_with reply_to adds) link run → KeepsReplyLimits (server_with reply_to adds)
    → (d : EndsFor opened link run reason) → JudgedBy (client_by opened d.earlier).state d.frame.end d.message reason → SaidAnswer opened (events link Responder run) d.before d.message → ⊥
answer_ends_none reply_to adds opened link run reason opens typed far plain_replies plain d j s = own_reply_judged j.call.xid e.reply reason reply_xid r.by_reply
  where
    e : ExecutedCall
    e = s.call

    r : JudgesReply opened link run j.call s.earlier e reason
    r = answer_judges opened link run reason opens typed far d j s

    m : ExecuteMark link run s.earlier e
    m = r.answered.mark

    -- the reply has the call's xid
    replied : (entries : List Entry) × (server_with reply_to adds).Replies entries e.moment e.payload e.reply
    replied = at_mark (PlainReplyMark (server_with reply_to adds) link) run m.earlier (execute_mark link e) m.later m.is plain_replies refl

    reply_xid : xid_of_reply (reply_of e.reply) ≡ Some j.call.xid
    reply_xid =
        let h = executed_head opened link m.earlier e.xid e.payload r.answered.executed.executed in
        plain.xid replied.0 e.moment e.payload e.reply r.bytes replied.1
        ∙ ap xid_of_call h.1.0 ∙ ap (λ (n : ℕ). Some n) (h.1.1 ∙ sym r.own_xid)
