-- Places follow what callers see: an executed call whose outcome was handed over was executed before that.
use Rattle.std.proofs.Common.{◌≡◌, ℕ, ◌+◌, List, [], ◌∷◌, ◌++◌, Some, refl, sym, ap, ◌∙◌, arith, append_assoc}
use Rattle.nr_xdr.specs.Fields.{word_at}
use Rattle.nr_wire.specs.declared.hello.Side.TheVariants.{Responder}
use Rattle.nr_reduce.specs.declared.call.Outcome.{Outcome}
use Rattle.nr_reduce.specs.declared.call.Submission.TheVariants as submissions
use Rattle.nr_outside.specs.declared.moment.Moment.{Moment}
use Rattle.nr_reduce.specs.declared.mark.Mark.{Mark}
use Rattle.nr_reduce.specs.declared.mark.Mark.TheVariants as marks
use Rattle.nr_reduce.specs.declared.mark.LinkParameters.{LinkParameters}
use Rattle.nr_reduce.specs.PlainJournal.{any_that_adds}
use Rattle.nr_reduce.specs.History.{ExecutedCall}
use Rattle.nr_reduce.specs.Matched.{MatchedMark, IsPrefixOf}
use Rattle.nr_reduce.specs.Events.{RunEvent, events}
use Rattle.nr_reduce.specs.Events.RunEvent.{FrameReceived}
use Rattle.nr_reduce.specs.Asked.{AskedMark, IsCompleted}
use Rattle.nr_reduce.specs.Served.{ServedMark}
use Rattle.nr_laws.specs.MatchedSoFar.{MatchedSoFar}
use Rattle.nr_reduce.specs.RunLaws.{server_by}
use Rattle.nr_reduce.specs.Server.{offer_of}
use Rattle.nr_reduce.specs.ServerState.{credit_word}
use Rattle.nr_reduce.proofs.Refusals.{refused_never}
use Rattle.nr_reduce.proofs.Placing.{places_rise}
use Rattle.nr_reduce.proofs.Steps.{events_one}
use Rattle.nr_laws.specs.Typed.{TypedMark, IsTyped}
use Rattle.nr_laws.specs.Places.{PlacesFollow}
use Rattle.nr_laws.proofs.HeaderXid.{answer_xid, chunk_error_xid}
use Rattle.nr_laws.proofs.Outputs.{Output}
use Rattle.nr_laws.proofs.ServerAlong.{Said}
use Rattle.nr_laws.proofs.ServerAlong.Said.{IsRefusal, IsAnswer, IsNoAnswer}
use Rattle.nr_laws.proofs.Outcomes.{client_by, OutcomeSaid, outcome_said}
use Rattle.nr_laws.proofs.ExecuteMarks.{execute_mark}
use Rattle.nr_laws.proofs.OnceByXid.{at_mark, before_mark, executed_at_lem, no_xid_twice, one_submit}
use Rattle.nr_laws.proofs.RefusedCalls.{refused_submit}
use Rattle.nr_laws.proofs.DoneCalls.{AnsweredBy, answered_by_lem, verdict_xid}
use Rattle.nr_laws.proofs.Ordered.{Order, order}
use Rattle.nr_laws.proofs.Ordered.Order.{Behind, Here, Before}
use Rattle.nr_reduce.specs.Run.{client}

pub far_before : (opened : LinkParameters) (link : ℕ) (run before : List Mark) (mark : Mark) (after : List Mark) → run ≡ before ++ mark ∷ after → MatchedSoFar opened link run → MatchedSoFar opened link before
far_before opened link run before mark after is far = record {
  asked = before_mark (AskedMark IsPrefixOf opened link) run before mark after is far.asked;
  served = before_mark (ServedMark IsPrefixOf opened link) run before mark after is far.served;
  matched = before_mark (MatchedMark link) run before mark after is far.matched;
}

-- a completed call at its Done, with what the server said
pub record DoneAt (opened : LinkParameters) (link : ℕ) (before : List Mark) (xid : ℕ) (outcome : Outcome) : Type 0 where
  pub typed : IsTyped before
  pub far : MatchedSoFar opened link before
  pub completed : IsCompleted opened link before xid outcome
  pub said : OutcomeSaid opened link before (record { xid = xid; outcome = outcome })

pub done_at : (opened : LinkParameters) (link : ℕ) (run before after : List Mark) (xid : ℕ) (outcome : Outcome) → IsTyped run → MatchedSoFar opened link run → run ≡ before ++ marks.Done link xid outcome ∷ after → DoneAt opened link before xid outcome
done_at opened link run before after xid outcome typed far is =
    let mark = marks.Done link xid outcome in
    let first = far_before opened link run before mark after is far in
    let own = before_mark TypedMark run before mark after is typed in
    let done : IsCompleted opened link before xid outcome = at_mark (AskedMark IsPrefixOf opened link) run before mark after is far.asked refl in
    record { typed = own; far = first; completed = done; said = outcome_said opened link before own first.asked first.served first.matched (record { xid = xid; outcome = outcome }) done.is_received }

-- events of a run that goes on
pub events_more : (link : ℕ) (side : Rattle.nr_wire.specs.declared.hello.Side.Side) (run more : List Mark) → (rest : List RunEvent) × (events link side (run ++ more) ≡ events link side run ++ rest)
events_more link side run [] = ([], ap (λ (r : List Mark). events link side r) (Rattle.std.proofs.Common.append-nil run) ∙ sym (Rattle.std.proofs.Common.append-nil (events link side run)))
events_more link side run (mark ∷ more) =
    let next = events_more link side (run ++ mark ∷ []) more in
    let one = Rattle.nr_reduce.specs.Events.events_at link side run mark in (
      one ++ next.0,
      ap (λ (r : List Mark). events link side r) (sym (append_assoc run (mark ∷ []) more)) ∙ next.1
          ∙ ap (λ (es : List RunEvent). es ++ next.0) (events_one link side run mark) ∙ append_assoc (events link side run) one next.0,
    )

-- A call isn't executed after the client received a message of its xid.
pub not_after_message : (opened : LinkParameters) (link : ℕ) (run before mid rest : List Mark) (xid : ℕ) (moment : Moment) (payload : List ℕ) (place : ℕ) (reply : List ℕ) (outs : List Output) (message : List ℕ) → IsTyped run → MatchedSoFar opened link run
    → IsTyped before → MatchedSoFar opened link before → Said opened (events link Responder before) outs message → xid ≡ word_at 0 message
    → run ≡ before ++ (mid ++ marks.Execute link xid moment payload place reply ∷ rest) → ⊥
not_after_message opened link run before mid rest xid moment payload place reply outs message typed far first_typed first_far said own_xid is =
    by said
  where
    execute : Mark
    execute = marks.Execute link xid moment payload place reply

    whole : run ≡ (before ++ mid) ++ execute ∷ rest
    whole = is ∙ sym (append_assoc before mid (execute ∷ rest))

    again : (es : List RunEvent) (e : ExecutedCall) → AnsweredBy opened link before e es → e.xid ≡ xid → ⊥
    again es e a same =
        let m = a.mark in
        let all : run ≡ (m.earlier ++ execute_mark link e ∷ (m.later ++ mid)) ++ execute ∷ rest =
        whole ∙ ap (λ (b : List Mark). (b ++ mid) ++ execute ∷ rest) m.is ∙ ap (λ (b : List Mark). b ++ execute ∷ rest) (append_assoc m.earlier (execute_mark link e ∷ m.later) mid) in
        no_xid_twice opened link run m.earlier (m.later ++ mid) e.xid xid e.moment moment e.payload payload e.place place e.reply reply typed far (record { after = rest; is = all }) same

    by : Said opened (events link Responder before) outs message → ⊥
    by (IsAnswer s) =
        let a = answered_by_lem opened link before first_typed first_far s.earlier s.call s.later s.is in
        let f = a.fits in
        again s.earlier s.call a (sym (answer_xid s.call.xid (credit_word (server_by opened s.earlier)) (offer_of (server_by opened s.earlier) s.call.xid) s.answer (omega (arith, f)))
        ∙ ap (λ (x : List ℕ). word_at 0 x) (sym s.message) ∙ sym own_xid)
    by (IsNoAnswer s) =
        let a = answered_by_lem opened link before first_typed first_far s.earlier s.call s.later s.is in
        let f = a.fits in
        again s.earlier s.call a (sym (chunk_error_xid s.call.xid (credit_word (server_by opened s.earlier)) (omega (arith, f))) ∙ ap (λ (x : List ℕ). word_at 0 x) (sym s.message) ∙ sym own_xid)
    by (IsRefusal s) =
        let r = refused_submit opened link before first_typed first_far.asked first_far.matched message s in
        let x = executed_at_lem opened link run (before ++ mid) rest xid moment payload place reply typed far whole in
        let more = events_more link Responder before mid in
        let all : events link Responder (before ++ mid) ≡ s.earlier ++ FrameReceived s.frame ∷ (s.later ++ more.0) =
        more.1 ∙ ap (λ (es : List RunEvent). es ++ more.0) s.is ∙ append_assoc s.earlier (FrameReceived s.frame ∷ s.later) more.0 in
        let w = r.submitted in
        let y = x.submit.submitted in
        let first : run ≡ w.earlier ++ marks.Submit link w.call w.form (submissions.Accepted w.xid) ∷ ((w.later ++ mid) ++ execute ∷ rest) =
        whole ∙ ap (λ (b : List Mark). (b ++ mid) ++ execute ∷ rest) w.is
        ∙ ap (λ (b : List Mark). b ++ execute ∷ rest) (append_assoc w.earlier (marks.Submit link w.call w.form (submissions.Accepted w.xid) ∷ w.later) mid)
        ∙ append_assoc w.earlier (marks.Submit link w.call w.form (submissions.Accepted w.xid) ∷ (w.later ++ mid)) (execute ∷ rest) in
        let second : run ≡ y.earlier ++ marks.Submit link y.call y.form (submissions.Accepted y.xid) ∷ (y.later ++ execute ∷ rest) =
        whole ∙ ap (λ (b : List Mark). b ++ execute ∷ rest) y.is ∙ append_assoc y.earlier (marks.Submit link y.call y.form (submissions.Accepted y.xid) ∷ y.later) (execute ∷ rest) in
        let u = r.xid in
        let v = x.submit.own_xid in
        let place : w.earlier ≡ y.earlier = one_submit opened link run w.earlier y.earlier ((w.later ++ mid) ++ execute ∷ rest) (y.later ++ execute ∷ rest) w.call y.call w.form y.form w.xid y.xid far (omega (arith, u, v, own_xid)) first second in
        let sends = ap (λ (b : List Mark). (client opened link b).state.sends) place in
        let m = w.counted in
        let n = x.submit.number in
        let equal : x.executed.call.number ≡ r.index + 1 = omega (arith, m, n, sends) in
        refused_never opened link (before ++ mid) s.earlier (s.later ++ more.0) s.frame s.segment (r.index + 1) all s.behind s.is_segment r.refuses xid payload x.executed equal

-- So one whose outcome was received isn't.
pub not_after_outcome : (opened : LinkParameters) (link : ℕ) (run before mid rest : List Mark) (xid : ℕ) (outcome : Outcome) (moment : Moment) (payload : List ℕ) (place : ℕ) (reply : List ℕ) → IsTyped run → MatchedSoFar opened link run
    → IsTyped before → MatchedSoFar opened link before → OutcomeSaid opened link before (record { xid = xid; outcome = outcome })
    → run ≡ before ++ (mid ++ marks.Execute link xid moment payload place reply ∷ rest) → ⊥
not_after_outcome opened link run before mid rest xid outcome moment payload place reply typed far first_typed first_far d is =
    not_after_message opened link run before mid rest xid moment payload place reply d.before d.given.message typed far first_typed first_far d.said
    (verdict_xid (client_by opened d.given.earlier).state d.given.frame.end d.given.message xid (Some outcome) d.given.given) is

-- Nor is one whose outcome was handed over.
not_after : (opened : LinkParameters) (link : ℕ) (run before mid rest : List Mark) (xid : ℕ) (outcome : Outcome) (moment : Moment) (payload : List ℕ) (place : ℕ) (reply : List ℕ) → IsTyped run → MatchedSoFar opened link run
    → run ≡ before ++ marks.Done link xid outcome ∷ (mid ++ marks.Execute link xid moment payload place reply ∷ rest) → ⊥
not_after opened link run before mid rest xid outcome moment payload place reply typed far is =
    let d = done_at opened link run before (mid ++ marks.Execute link xid moment payload place reply ∷ rest) xid outcome typed far is in
    not_after_outcome opened link run before (marks.Done link xid outcome ∷ mid) rest xid outcome moment payload place reply typed far d.typed d.far d.said is

pub executed_before : (opened : LinkParameters) (link : ℕ) (run before after first last : List Mark) (xid : ℕ) (outcome : Outcome) (moment : Moment) (payload : List ℕ) (place : ℕ) (reply : List ℕ) → IsTyped run → MatchedSoFar opened link run
    → run ≡ before ++ marks.Done link xid outcome ∷ after → run ≡ first ++ marks.Execute link xid moment payload place reply ∷ last
    → (mid : List Mark) × (before ≡ first ++ marks.Execute link xid moment payload place reply ∷ mid)
executed_before opened link run before after first last xid outcome moment payload place reply typed far here there =
    by (order before (marks.Done link xid outcome) after first (marks.Execute link xid moment payload place reply) last (sym here ∙ there))
  where
    by : Order before (marks.Done link xid outcome) after first (marks.Execute link xid moment payload place reply) last → (mid : List Mark) × (before ≡ first ++ marks.Execute link xid moment payload place reply ∷ mid)
    by (Behind between is then) = absurd (not_after opened link run before between last xid outcome moment payload place reply typed far (here ∙ ap (λ (t : List Mark). before ++ marks.Done link xid outcome ∷ t) then))
    by (Here same wrong) = absurd (let e = wrong in cc)
    by (Before between is then) = (between, is)

pub places_follow : PlacesFollow
places_follow adds J one two link other run before between first second call form xid yid outcome moment now payload asked place later reply answer typed far away journaled submit h g =
    let done = marks.Done link xid outcome in
    let sub = marks.Submit other call form (submissions.Accepted yid) in
    let e1 = marks.Execute link xid moment payload place reply in
    let e2 = marks.Execute other yid now asked later answer in
    let done_is : run ≡ before ++ done ∷ (between ++ sub ∷ submit.after) = submit.is ∙ append_assoc before (done ∷ between) (sub ∷ submit.after) in
    let early = executed_before one link run before (between ++ sub ∷ submit.after) first h.after xid outcome moment payload place reply typed far done_is h.is in
    let x = executed_at_lem two other run second g.after yid now asked later answer typed away g.is in
    let w = x.submit.submitted in
    let own = marks.Submit other w.call w.form (submissions.Accepted w.xid) in
    let whole : run ≡ w.earlier ++ own ∷ (w.later ++ e2 ∷ g.after) = g.is ∙ ap (λ (b : List Mark). b ++ e2 ∷ g.after) w.is ∙ append_assoc w.earlier (own ∷ w.later) (e2 ∷ g.after) in
    let same : before ++ done ∷ between ≡ w.earlier = one_submit two other run (before ++ done ∷ between) w.earlier submit.after (w.later ++ e2 ∷ g.after) call w.call form w.form yid w.xid away (sym x.submit.own_xid) submit.is whole in
    let start : w.earlier ≡ first ++ e1 ∷ (early.0 ++ done ∷ between) = sym same ∙ ap (λ (b : List Mark). b ++ done ∷ between) early.1 ∙ append_assoc first (e1 ∷ early.0) (done ∷ between) in
    let gap : List Mark = (early.0 ++ done ∷ between) ++ own ∷ w.later in
    let all : run ≡ first ++ e1 ∷ (gap ++ e2 ∷ g.after) =
    whole ∙ ap (λ (b : List Mark). b ++ own ∷ (w.later ++ e2 ∷ g.after)) start
    ∙ append_assoc first (e1 ∷ (early.0 ++ done ∷ between)) (own ∷ (w.later ++ e2 ∷ g.after))
    ∙ ap (λ (t : List Mark). first ++ e1 ∷ t) (sym (append_assoc (early.0 ++ done ∷ between) (own ∷ w.later) (e2 ∷ g.after))) in
    places_rise (any_that_adds adds) J run first gap g.after link other xid yid moment now payload asked place later reply answer all journaled
