-- Each outcome that a command hands over on a link with a plain server is that server's reply to its call.
use Rattle.std.proofs.Common.{◌≡◌, ℕ, Bool, true, false, cond, not, List, [], ◌∷◌, ◌++◌, length, Option, Some, inl, inr, refl, sym, ap, subst, ◌∙◌, append_assoc}
use Rattle.std.specs.List.{filter}
use Rattle.nr_rpc.specs.Credential.{CredFits}
use Rattle.nr_outside.specs.declared.moment.Moment.{Moment}
use Rattle.nr_reduce.specs.declared.call.Call.{Call}
use Rattle.nr_reduce.specs.declared.call.Form.TheVariants as forms
use Rattle.nr_reduce.specs.declared.call.Outcome.{Outcome}
use Rattle.nr_reduce.specs.declared.call.Outcome.TheVariants as outcomes
use Rattle.nr_reduce.specs.declared.call.Submission.TheVariants as submissions
use Rattle.nr_reduce.specs.declared.mark.Entry.{Entry}
use Rattle.nr_reduce.specs.declared.mark.LinkParameters.{LinkParameters}
use Rattle.nr_reduce.specs.Opening.{IsOpened}
use Rattle.nr_reduce.specs.declared.mark.Mark.{Mark}
use Rattle.nr_reduce.specs.declared.mark.Mark.TheVariants as marks
use Rattle.nr_reduce.specs.Asked.{AskedMark, IsAccepted}
use Rattle.nr_reduce.specs.ClientState.{call_payload}
use Rattle.nr_reduce.specs.Matched.{IsPrefixOf}
use Rattle.nr_laws.specs.MarkAt.{MarkAt}
use Rattle.nr_laws.specs.Payloads.{HasPlan}
use Rattle.nr_laws.specs.MatchedSoFar.{MatchedSoFar}
use Rattle.nr_laws.specs.PlainLinks.{HasPlainReplies, PlainReplyMark}
use Rattle.nr_laws.specs.Typed.{IsTyped, TypedMark}
use Rattle.nr_laws.proofs.AutoReplies.{auto_has_replies}
use Rattle.nr_laws.proofs.Basics.{some_is_lem}
use Rattle.nr_laws.proofs.LaterMarks.{mark_later}
use Rattle.nr_laws.proofs.OnceByXid.{at_mark}
use Rattle.nr_laws.proofs.OwnReplies.{executed_replies_are_handed_over}
use Rattle.nr_laws.proofs.WaitingCalls.{resumes_planned}
use Rattle.nr_tree.specs.Sane.{IsSane}
use Rattle.nr_plain.specs.Added.{entries_of_call}
use Rattle.nr_plain.specs.ReplyLaws.{plain_server}
use Rattle.nr_plain.specs.Replies.{plain_reply}
use Rattle.nr_plain.specs.Setup.{Setup}
use Rattle.nr_plain.proofs.PlainServers.{server_is_plain}
use Rattle.nr_client.specs.Reading.{OpenRead}
use Rattle.nr_reply_laws.specs.Replies.{IsPlainReplyTo}
use Rattle.nr_service_laws.specs.ClientMarks.{AreMarksOf, moves_bytes, without_bytes}
use Rattle.nr_service_laws.specs.Exchanges.{Exchange}
use Rattle.nr_service_laws.specs.Exchanges.Exchange.{Answered, Forgotten, GivenUp, HandedOver, Submitted}
use Rattle.nr_service_laws.specs.ServedCommands.{client_marks, is_client_mark}
use Rattle.nr_service_laws.proofs.JudgedParts.{AreJudged, IsOf}

-- ---- One mark before another

-- the first mark stands in the run, and the second after it
record Precede (run : List Mark) (first second : Mark) : Type 0 where
  before : List Mark
  between : List Mark
  after : List Mark
  is : run ≡ before ++ first ∷ (between ++ second ∷ after)

-- where a mark stands of a run that is filtered
record FoundIn (f : Mark → Bool) (run : List Mark) (m : Mark) (rest : List Mark) : Type 0 where
  before : List Mark
  after : List Mark
  is : run ≡ before ++ m ∷ after
  kept : filter f after ≡ rest

head_or : Mark → List Mark → Mark
head_or other [] = other
head_or other (m ∷ run) = m

tail_of : List Mark → List Mark
tail_of [] = []
tail_of (m ∷ run) = run

found_in : (f : Mark → Bool) (run before : List Mark) (m : Mark) (rest : List Mark) → filter f run ≡ before ++ m ∷ rest → FoundIn f run m rest
unfolding head_or tail_of
found_in f [] [] m rest is = absurd cc
found_in f [] (y ∷ before) m rest is = absurd cc
found_in f (x ∷ run) before m rest is = by (f x) is (λ p e. found_in f run p m rest e)
  where
    more : FoundIn f run m rest → FoundIn f (x ∷ run) m rest
    more found = record { before = x ∷ found.before; after = found.after; is = ap (λ (l : List Mark). x ∷ l) found.is; kept = found.kept }

    kept_first : (p : List Mark) → x ∷ filter f run ≡ p ++ m ∷ rest → ((q : List Mark) → filter f run ≡ q ++ m ∷ rest → FoundIn f run m rest) → FoundIn f (x ∷ run) m rest
    kept_first [] same goes = record { before = []; after = run; is = ap (λ (l : List Mark). head_or x l ∷ run) same; kept = ap tail_of same }
    kept_first (y ∷ p) same goes = more (goes p (ap tail_of same))

    by : (b : Bool) → cond b (x ∷ filter f run) (filter f run) ≡ before ++ m ∷ rest → ((q : List Mark) → filter f run ≡ q ++ m ∷ rest → FoundIn f run m rest) → FoundIn f (x ∷ run) m rest
    by true same goes = kept_first before same goes
    by false same goes = more (goes before same)

precede_in : (f : Mark → Bool) (run : List Mark) (first second : Mark) → Precede (filter f run) first second → Precede run first second
precede_in f run first second p =
    let one = found_in f run p.before first (p.between ++ second ∷ p.after) p.is in
    let two = found_in f one.after p.between second p.after one.kept in
    record { before = one.before; between = two.before; after = two.after; is = one.is ∙ ap (λ (l : List Mark). one.before ++ first ∷ l) two.is }

-- ---- The reply to a call

abbrev pub submit_of : ℕ → Call → ℕ → Mark
submit_of link call xid = marks.Submit link call forms.Auto (submissions.Accepted xid)

-- the plain server's reply to a call whose credential can be encoded
pub record IsServedReply (setup : Setup) (call : Call) (o : Outcome) : Type 0 where
  pub replied : IsPlainReplyTo setup call o
  pub cred : CredFits call.cred

-- the client's side of a link that is matched so far, whose calls this plain server answers
pub record IsPlainSide (setup : Setup) (opened : LinkParameters) (link : ℕ) (run both : List Mark) : Type 0 where
  pub client_side : client_marks link both ≡ run
  pub typed : IsTyped both
  pub matched : MatchedSoFar opened link both
  pub plain : HasPlainReplies (plain_server setup) link both

module _ (setup : Setup) (sane : IsSane setup.tree) (opened : LinkParameters) (link : ℕ) (run both : List Mark) (fine : IsOpened opened) (served : IsPlainSide setup opened link run both) where
  replies_to : List Entry → Moment → List ℕ → Option (List ℕ)
  replies_to entries moment payload = plain_reply setup entries (length entries) moment payload

  one_reply : (call : Call) (xid : ℕ) (reply : List ℕ) → Precede both (submit_of link call xid) (marks.Done link xid (outcomes.Reply reply)) → IsServedReply setup call (outcomes.Reply reply)
  one_reply call xid reply p =
      let submit = submit_of link call xid in
      let done = marks.Done link xid (outcomes.Reply reply) in
      let upto = p.before ++ submit ∷ p.between in
      let at_submit : MarkAt both p.before submit = record { after = p.between ++ done ∷ p.after; is = p.is } in
      let at_done : MarkAt both upto done = record { after = p.after; is = p.is ∙ sym (append_assoc p.before (submit ∷ p.between) (done ∷ p.after)) } in
      let accepted : IsAccepted opened link p.before call forms.Auto xid = at_mark (AskedMark IsPrefixOf opened link) both p.before submit at_submit.after at_submit.is served.matched.asked refl in
      let typed = at_mark TypedMark both p.before submit at_submit.after at_submit.is served.typed in
      let has : HasPlan opened link both xid accepted.plan = record { call = call; form = forms.Auto; before = p.before; at = at_submit; planned = accepted.planned } in
      let own = executed_replies_are_handed_over opened link both upto xid accepted.plan reply served.typed served.matched has at_done in
      let execute = marks.Execute link xid own.moment own.payload own.place reply in
      let there = mark_later both upto done p.after own.before execute at_done.is own.at in
      let plain = at_mark (PlainReplyMark (plain_server setup) link) both own.before execute there.after there.is served.plain refl in
      let same : call_payload xid call ≡ own.payload = some_is_lem (call_payload xid call) own.payload own.conveyed in
      record {
        replied = record {
          xid = xid;
          fits = accepted.xids;
          journal = plain.0;
          place = length plain.0;
          moment = own.moment;
          reply = reply;
          is = refl;
          replied = subst (λ (l : List ℕ). plain_reply setup plain.0 (length plain.0) own.moment l ≡ Some reply) (sym same) plain.1;
        };
        cred = typed.2.3;
      }

  one_outcome : (call : Call) (xid : ℕ) (outcome : Outcome) → Precede both (submit_of link call xid) (marks.Done link xid outcome) → IsServedReply setup call outcome
  unfolding replies_to
  one_outcome call xid outcome p =
      let submit = submit_of link call xid in
      let done = marks.Done link xid outcome in
      let at_submit : MarkAt both p.before submit = record { after = p.between ++ done ∷ p.after; is = p.is } in
      let at_done : MarkAt both (p.before ++ submit ∷ p.between) done = record { after = p.after; is = p.is ∙ sym (append_assoc p.before (submit ∷ p.between) (done ∷ p.after)) } in
      let reply = auto_has_replies replies_to entries_of_call opened link both p.before (p.before ++ submit ∷ p.between) call xid outcome (resumes_planned opened fine) (server_is_plain setup sane) served.plain served.typed served.matched at_submit at_done in
      subst (λ (o : Outcome). IsServedReply setup call o) (sym reply.1)
      (one_reply call xid reply.0 (subst (λ (o : Outcome). Precede both (submit_of link call xid) (marks.Done link xid o)) reply.1 p))

  own_outcome : (call : Call) (xid : ℕ) (outcome : Outcome) → Precede (without_bytes run) (submit_of link call xid) (marks.Done link xid outcome) → IsServedReply setup call outcome
  own_outcome call xid outcome p =
      let in_run = precede_in (λ mark. not (moves_bytes mark)) run (submit_of link call xid) (marks.Done link xid outcome) p in
      one_outcome call xid outcome
      (precede_in (is_client_mark link) both (submit_of link call xid) (marks.Done link xid outcome)
      (subst (λ (r : List Mark). Precede r (submit_of link call xid) (marks.Done link xid outcome)) (sym served.client_side) in_run))

-- ---- The exchanges of a command

record HasMark (run : List Mark) (m : Mark) : Type 0 where
  before : List Mark
  after : List Mark
  is : run ≡ before ++ m ∷ after

has_more : (run more : List Mark) (m : Mark) → HasMark run m → HasMark (run ++ more) m
has_more run more m has = record { before = has.before; after = has.after ++ more; is = ap (λ (l : List Mark). l ++ more) has.is ∙ append_assoc has.before (m ∷ has.after) more }

AllSubmitted : ℕ → List OpenRead → List Mark → Type 0
AllSubmitted link reads run = (xid : ℕ) (call : Call) → IsOf reads xid call → HasMark run (submit_of link call xid)

judged_from : (R : Call → Outcome → Type 0) (link : ℕ) (all : List Mark) → ((call : Call) (xid : ℕ) (outcome : Outcome) → Precede all (submit_of link call xid) (marks.Done link xid outcome) → R call outcome)
    → (made : List Exchange) (reads : List OpenRead) (before later : List Mark) → all ≡ before ++ later → AllSubmitted link reads before → AreMarksOf link made later → AreJudged R reads made
unfolding AllSubmitted
judged_from R link all judge [] reads before later is there are = tt
judged_from R link all judge (Answered call outcome ∷ made) reads before later is there (xid, rest, (same, more)) =
    let submit = submit_of link call xid in
    let done = marks.Done link xid outcome in
    let here : all ≡ before ++ submit ∷ ([] ++ done ∷ rest) = is ∙ ap (λ (l : List Mark). before ++ l) same in (
      judge call xid outcome (record { before = before; between = []; after = rest; is = here }),
      judged_from R link all judge made reads (before ++ submit ∷ done ∷ []) rest (here ∙ sym (append_assoc before (submit ∷ done ∷ []) rest))
          (λ x c of. has_more before (submit ∷ done ∷ []) (submit_of link c x) (there x c of)) more,
    )
judged_from R link all judge (Forgotten call ∷ made) reads before later is there (xid, rest, (same, more)) =
    let two = submit_of link call xid ∷ marks.Forget link xid ∷ [] in
    judged_from R link all judge made reads (before ++ two) rest (is ∙ ap (λ (l : List Mark). before ++ l) same ∙ sym (append_assoc before two rest))
    (λ x c of. has_more before two (submit_of link c x) (there x c of)) more
judged_from R link all judge (Submitted number call ∷ made) reads before later is there (xid, rest, (same, more)) =
    let one = submit_of link call number ∷ [] in
    judged_from R link all judge made (record { xid = number; call = call } ∷ reads) (before ++ one) rest (is ∙ ap (λ (l : List Mark). before ++ l) same ∙ sym (append_assoc before one rest))
    (λ x c of. by x c of) more
  where
    by : (x : ℕ) (c : Call) → IsOf (record { xid = number; call = call } ∷ reads) x c → HasMark (before ++ submit_of link call number ∷ []) (submit_of link c x)
    by x c (inl (same_xid, same_call)) =
        subst (λ (n : ℕ). HasMark (before ++ submit_of link call number ∷ []) (submit_of link c n)) same_xid
        (subst (λ (k : Call). HasMark (before ++ submit_of link call number ∷ []) (submit_of link k number)) same_call (record { before = before; after = []; is = refl }))
    by x c (inr of) = has_more before (submit_of link call number ∷ []) (submit_of link c x) (there x c of)
judged_from R link all judge (HandedOver number outcome ∷ made) reads before later is there (xid, rest, (same, more)) =
    let done = marks.Done link number outcome in
    let here : all ≡ before ++ done ∷ rest = is ∙ ap (λ (l : List Mark). before ++ l) same in (
      (λ call of.
          let has = there number call of in
          judge call number outcome (record {
            before = has.before;
            between = has.after;
            after = rest;
            is = here ∙ ap (λ (l : List Mark). l ++ done ∷ rest) has.is ∙ append_assoc has.before (submit_of link call number ∷ has.after) (done ∷ rest);
          })),
      judged_from R link all judge made reads (before ++ done ∷ []) rest (here ∙ sym (append_assoc before (done ∷ []) rest)) (λ x c of. has_more before (done ∷ []) (submit_of link c x) (there x c of)) more,
    )
judged_from R link all judge (GivenUp number ∷ made) reads before later is there (xid, rest, (same, more)) =
    let one = marks.Forget link number ∷ [] in
    judged_from R link all judge made reads (before ++ one) rest (is ∙ ap (λ (l : List Mark). before ++ l) same ∙ sym (append_assoc before one rest)) (λ x c of. has_more before one (submit_of link c x) (there x c of)) more

pub exchanges_judged : (setup : Setup) (opened : LinkParameters) (link : ℕ) (run both : List Mark) (made : List Exchange) → IsSane setup.tree → IsOpened opened → IsPlainSide setup opened link run both → AreMarksOf link made (without_bytes run)
    → AreJudged (IsServedReply setup) [] made
unfolding AllSubmitted
exchanges_judged setup opened link run both made sane fine served are =
    judged_from (IsServedReply setup) link (without_bytes run) (own_outcome setup sane opened link run both fine served) made [] [] (without_bytes run) refl (λ x c of. absurd of) are
