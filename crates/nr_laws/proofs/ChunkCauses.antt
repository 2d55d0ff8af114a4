-- A call completes with Chunk if and only if its message is refused, or its offer doesn't hold the reply.
use Rattle.std.proofs.Common.{◌≡◌, ◌≢◌, ℕ, List, ◌∷◌, ◌++◌, None, Some, refl, sym, ap, subst, ◌∙◌, inl, inr, ◌⊎◌}
use Rattle.nr_wire.specs.declared.hello.Side.TheVariants.{Responder}
use Rattle.nr_rpc.specs.Reading.{call_of, target_of}
use Rattle.nr_header.specs.declared.header.ChunkLists.{ChunkLists}
use Rattle.nr_reduce.specs.declared.call.Outcome.{Outcome}
use Rattle.nr_reduce.specs.declared.call.Outcome.TheVariants as outcomes
use Rattle.nr_outside.specs.declared.moment.Moment.{Moment}
use Rattle.nr_reduce.specs.declared.mark.Mark.{Mark}
use Rattle.nr_reduce.specs.declared.mark.Mark.TheVariants as marks
use Rattle.nr_reduce.specs.declared.mark.LinkParameters.{LinkParameters}
use Rattle.nr_reduce.specs.declared.outline.Plan.{Plan}
use Rattle.nr_reduce.specs.History.{ExecutedCall}
use Rattle.nr_reduce.specs.Plans.{lists_of}
use Rattle.nr_reduce.specs.Events.{RunEvent, events}
use Rattle.nr_reduce.specs.Server.{offer_of, answer_of_target}
use Rattle.nr_reduce.specs.Run.{client, server}
use Rattle.nr_reduce.specs.RunLaws.{server_by}
use Rattle.nr_reduce.specs.Holds.{Answer}
use Rattle.nr_laws.specs.Typed.{TypedMark, IsTyped}
use Rattle.nr_laws.specs.MarkAt.{MarkAt}
use Rattle.nr_laws.specs.MatchedSoFar.{MatchedSoFar}
use Rattle.nr_laws.specs.Payloads.{HasPlan}
use Rattle.nr_laws.specs.RefusedMessages.{HasRefusedMessage}
use Rattle.nr_laws.specs.ChunkOutcomes.{HasChunkCause, answer_held, ChunkHasCause, OthersHaveNoCause}
use Rattle.nr_laws.proofs.Outputs.{answer_of_call}
use Rattle.nr_laws.proofs.OnceByXid.{before_mark, no_xid_twice}
use Rattle.nr_laws.proofs.Ordered.{Order, order}
use Rattle.nr_laws.proofs.Ordered.Order.{Behind, Here, Before}
use Rattle.nr_laws.proofs.Following.{DoneAt, done_at, far_before}
use Rattle.nr_laws.proofs.Replied.{replied_by_lem}
use Rattle.nr_laws.proofs.Completed.{ChunkCause, OutcomeCause, outcome_cause, version_never}
use Rattle.nr_laws.proofs.Completed.ChunkCause.{SendRefused, NotHeld}
use Rattle.nr_laws.proofs.Completed.OutcomeCause.{OfAnswer, OfChunk}
use Rattle.nr_laws.proofs.ExecutedPayloads.{executes_have_plans}
use Rattle.nr_laws.proofs.PlannedOffers.{offers_are_planned}
use Rattle.nr_laws.proofs.LaterMarks.{mark_later, plan_later}
use Rattle.nr_laws.proofs.RefusedMessages.{refused_message, refused_not_executed}
use Rattle.nr_reduce.specs.ClientState.{stag_for}

-- ---- Of two Executes under one xid there is one

pub record SameExecute (before others : List Mark) (payload asked reply answer : List ℕ) : Type 0 where
  pub place : before ≡ others
  pub payload_is : payload ≡ asked
  pub reply_is : reply ≡ answer

pub one_execute : (opened : LinkParameters) (link : ℕ) (run before others : List Mark) (xid : ℕ) (moment now : Moment) (payload asked : List ℕ) (place later : ℕ) (reply answer : List ℕ) → IsTyped run → MatchedSoFar opened link run
    → MarkAt run before (marks.Execute link xid moment payload place reply) → MarkAt run others (marks.Execute link xid now asked later answer) → SameExecute before others payload asked reply answer
one_execute opened link run before others xid moment now payload asked place later reply answer typed far at there = by (order before one at.after others two there.after (sym at.is ∙ there.is))
  where
    one : Mark
    one = marks.Execute link xid moment payload place reply

    two : Mark
    two = marks.Execute link xid now asked later answer

    by : Order before one at.after others two there.after → SameExecute before others payload asked reply answer
    by (Here e m) = record { place = e; payload_is = cc; reply_is = cc }
    by (Behind gap e then) = absurd (no_xid_twice opened link run before gap xid xid moment now payload asked place later reply answer typed far
        (record { after = there.after; is = there.is ∙ ap (λ (b : List Mark). b ++ two ∷ there.after) e }) refl)
    by (Before gap e then) = absurd (no_xid_twice opened link run others gap xid xid now moment asked payload later place answer reply typed far
        (record { after = at.after; is = at.is ∙ ap (λ (b : List Mark). b ++ one ∷ at.after) e }) refl)

-- what an executed call is answered, by its mark
pub held_at : (opened : LinkParameters) (link : ℕ) (before : List Mark) (es : List RunEvent) (xid : ℕ) (e : ExecutedCall) → events link Responder before ≡ es → e.xid ≡ xid → answer_held opened link before xid e.payload e.reply ≡ answer_of_call (server_by opened es) e
unfolding server
held_at opened link before es xid e is own = λ i. answer_of_target (offer_of (server_by opened (is i)) (sym own i)) (server_by opened (is i)).down_max e.reply (target_of (call_of e.payload))

-- ---- What ERR_CHUNK says

-- a call was executed under this xid with a reply that the offer which its server keeps doesn't hold
pub record ExecuteNotHeld (opened : LinkParameters) (link : ℕ) (run : List Mark) (xid : ℕ) : Type 0 where
  pub moment : Moment
  pub payload : List ℕ
  pub place : ℕ
  pub reply : List ℕ
  pub before : List Mark
  pub at : MarkAt run before (marks.Execute link xid moment payload place reply)
  pub none : answer_held opened link before xid payload reply ≡ None

cause_of_lem : (opened : LinkParameters) (link : ℕ) (run : List Mark) (xid : ℕ) (m : List ℕ) → IsTyped run → MatchedSoFar opened link run → ChunkCause opened link run xid m → HasRefusedMessage opened link run xid ⊎ ExecuteNotHeld opened link run xid
cause_of_lem opened link run xid m typed far (SendRefused s r own) = inl (subst (λ (x : ℕ). HasRefusedMessage opened link run x) own (refused_message opened link run m typed far s r))
cause_of_lem opened link run xid m typed far (NotHeld s a own) =
    let e = s.call in
    let k = a.mark in
    inr (record {
      moment = e.moment;
      payload = e.payload;
      place = e.place;
      reply = e.reply;
      before = k.earlier;
      at = record { after = k.later; is = k.is ∙ ap (λ (x : ℕ). k.earlier ++ marks.Execute link x e.moment e.payload e.place e.reply ∷ k.later) own };
      none = held_at opened link k.earlier s.earlier xid e k.before own ∙ s.none;
    })

pub chunk_caused : (opened : LinkParameters) (link : ℕ) (run before after : List Mark) (xid : ℕ) → IsTyped run → MatchedSoFar opened link run → run ≡ before ++ marks.Done link xid outcomes.Chunk ∷ after
    → HasRefusedMessage opened link before xid ⊎ ExecuteNotHeld opened link before xid
chunk_caused opened link run before after xid typed far is = by (outcome_cause opened link run before after xid outcomes.Chunk typed far is)
  where
    d : DoneAt opened link before xid outcomes.Chunk
    d = done_at opened link run before after xid outcomes.Chunk typed far is

    by : OutcomeCause opened link before xid d.said.given.message outcomes.Chunk → HasRefusedMessage opened link before xid ⊎ ExecuteNotHeld opened link before xid
    by (OfAnswer w) = elim w [ ]
    by (OfChunk w cause) = cause_of_lem opened link before xid d.said.given.message d.typed d.far cause

-- ---- The offer by the call's plan

-- what the offer holds which the server keeps is what the plan's offer holds
pub held_by_plan : (opened : LinkParameters) (link : ℕ) (run before : List Mark) (xid : ℕ) (plan : Plan) (moment : Moment) (payload : List ℕ) (place : ℕ) (reply : List ℕ) → IsTyped run → MatchedSoFar opened link run
    → (has : HasPlan opened link run xid plan) → MarkAt run before (marks.Execute link xid moment payload place reply)
    → answer_held opened link before xid payload reply ≡ answer_of_target (lists_of (stag_for (client opened link has.before).state xid) plan) (server opened link before).state.down_max reply (target_of (call_of payload))
held_by_plan opened link run before xid plan moment payload place reply typed far has at =
    let offer = offers_are_planned opened link run before xid plan moment payload place reply typed far has at in
    ap (λ (o : ChunkLists). answer_of_target o (server opened link before).state.down_max reply (target_of (call_of payload))) offer

planned_cause : (opened : LinkParameters) (link : ℕ) (run : List Mark) (xid : ℕ) → IsTyped run → MatchedSoFar opened link run → HasRefusedMessage opened link run xid ⊎ ExecuteNotHeld opened link run xid → HasChunkCause opened link run xid
planned_cause opened link run xid typed far (inl m) = inl m
planned_cause opened link run xid typed far (inr u) =
    let execute : Mark = marks.Execute link xid u.moment u.payload u.place u.reply in
    let p = executes_have_plans opened link run u.before xid u.moment u.payload u.place u.reply typed far u.at in
    let has = plan_later opened link run u.before execute u.at.after xid p.0 u.at.is p.1 in
    inr (record {
      plan = p.0;
      has = has;
      moment = u.moment;
      payload = u.payload;
      place = u.place;
      reply = u.reply;
      before = u.before;
      at = u.at;
      none = sym (held_by_plan opened link run u.before xid p.0 u.moment u.payload u.place u.reply typed far has u.at) ∙ u.none;
    })

-- ---- If one of them stands, no reply is handed over

executed_without_cause : (opened : LinkParameters) (link : ℕ) (run before : List Mark) (xid : ℕ) (moment : Moment) (payload : List ℕ) (place : ℕ) (reply : List ℕ) (a : Answer) → IsTyped run → MatchedSoFar opened link run
    → MarkAt run before (marks.Execute link xid moment payload place reply) → answer_held opened link before xid payload reply ≡ Some a → HasChunkCause opened link run xid → ⊥
executed_without_cause opened link run before xid moment payload place reply a typed far at is (inl m) = refused_not_executed opened link run before xid moment payload place reply typed far m at
executed_without_cause opened link run before xid moment payload place reply a typed far at is (inr u) =
    let s = one_execute opened link run before u.before xid moment u.moment payload u.payload place u.place reply u.reply typed far at u.at in
    let wrong : Some a ≡ None =
    sym is ∙ (λ i. answer_held opened link (s.place i) xid (s.payload_is i) (s.reply_is i))
    ∙ held_by_plan opened link run u.before xid u.plan u.moment u.payload u.place u.reply typed far u.has u.at ∙ u.none in
    absurd cc

-- the Execute of a reply that was handed over, whose offer held it
record HeldExecute (opened : LinkParameters) (link : ℕ) (run : List Mark) (xid : ℕ) : Type 0 where
  moment : Moment
  payload : List ℕ
  place : ℕ
  reply : List ℕ
  before : List Mark
  at : MarkAt run before (marks.Execute link xid moment payload place reply)
  answer : Answer
  held : answer_held opened link before xid payload reply ≡ Some answer

held_execute : (opened : LinkParameters) (link : ℕ) (run before after : List Mark) (xid : ℕ) (reply : List ℕ) → IsTyped run → MatchedSoFar opened link run → run ≡ before ++ marks.Done link xid (outcomes.Reply reply) ∷ after → HeldExecute opened link before xid
held_execute opened link run before after xid reply typed far is =
    let r = replied_by_lem opened link run before after xid reply typed far is in
    let e = r.answer.call in
    let mark = r.by.mark in
    record {
      moment = e.moment;
      payload = e.payload;
      place = e.place;
      reply = e.reply;
      before = mark.earlier;
      at = record { after = mark.later; is = mark.is ∙ ap (λ (x : ℕ). mark.earlier ++ marks.Execute link x e.moment e.payload e.place e.reply ∷ mark.later) r.own };
      answer = r.answer.answer;
      held = held_at opened link mark.earlier r.answer.earlier xid e mark.before r.own ∙ r.answer.is_answer;
    }

-- ---- The laws

pub others_have_no_cause : OthersHaveNoCause
others_have_no_cause opened link run before xid outcome typed far at other cause = by outcome at.is other
  where
    by : (o : Outcome) → run ≡ before ++ marks.Done link xid o ∷ at.after → o ≢ outcomes.Chunk → ⊥
    by (outcomes.Reply reply) is other =
        let mark : Mark = marks.Done link xid (outcomes.Reply reply) in
        let h = held_execute opened link run before at.after xid reply typed far is in
        let execute : Mark = marks.Execute link xid h.moment h.payload h.place h.reply in
        executed_without_cause opened link run h.before xid h.moment h.payload h.place h.reply h.answer typed far (mark_later run before mark at.after h.before execute is h.at) h.held cause
    by outcomes.Chunk is other = other refl
    by (outcomes.Version low high) is other = version_never opened link run before at.after xid low high typed far is

pub chunk_has_cause : ChunkHasCause
chunk_has_cause opened link run before xid outcome typed far at = (to, λ cause. by outcome at.is (later cause))
  where
    to : outcome ≡ outcomes.Chunk → HasChunkCause opened link before xid
    to e =
        planned_cause opened link before xid (before_mark TypedMark run before (marks.Done link xid outcome) at.after at.is typed) (far_before opened link run before (marks.Done link xid outcome) at.after at.is far)
        (chunk_caused opened link run before at.after xid typed far (at.is ∙ ap (λ (o : Outcome). before ++ marks.Done link xid o ∷ at.after) e))

    later : HasChunkCause opened link before xid → HasChunkCause opened link run xid
    later (inl m) = inl (record { plan = m.plan; has = plan_later opened link run before (marks.Done link xid outcome) at.after xid m.plan at.is m.has; refused = m.refused })
    later (inr u) = inr (record {
      plan = u.plan;
      has = plan_later opened link run before (marks.Done link xid outcome) at.after xid u.plan at.is u.has;
      moment = u.moment;
      payload = u.payload;
      place = u.place;
      reply = u.reply;
      before = u.before;
      at = mark_later run before (marks.Done link xid outcome) at.after u.before (marks.Execute link xid u.moment u.payload u.place u.reply) at.is u.at;
      none = u.none;
    })

    by : (o : Outcome) → run ≡ before ++ marks.Done link xid o ∷ at.after → HasChunkCause opened link run xid → o ≡ outcomes.Chunk
    by (outcomes.Reply reply) is cause = absurd (others_have_no_cause opened link run before xid (outcomes.Reply reply) typed far (record { after = at.after; is = is }) (λ e. absurd cc) cause)
    by outcomes.Chunk is cause = refl
    by (outcomes.Version low high) is cause = absurd (version_never opened link run before at.after xid low high typed far is)
