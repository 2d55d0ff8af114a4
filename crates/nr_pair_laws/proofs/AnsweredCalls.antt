-- Each outcome that a command hands over is the plain server's reply to its call at the call's place, and the places follow the order of its calls.
use Rattle.std.proofs.Common.{◌≡◌, ℕ, ◌+◌, ◌≤◌, Bool, true, false, cond, not, ◌&&◌, List, [], ◌∷◌, ◌++◌, length, Option, refl, sym, ap, subst, ◌∙◌, arith, append_assoc, length-append}
use Rattle.std.specs.List.{AllByRecursion, filter}
use Rattle.nr_outside.specs.declared.moment.Moment.{Moment}
use Rattle.nr_reduce.specs.declared.call.Call.{Call}
use Rattle.nr_reduce.specs.declared.call.Form.TheVariants as forms
use Rattle.nr_reduce.specs.declared.call.Outcome.{Outcome}
use Rattle.nr_reduce.specs.declared.call.Outcome.TheVariants as outcomes
use Rattle.nr_reduce.specs.declared.call.Submission.TheVariants as submissions
use Rattle.nr_reduce.specs.declared.mark.Entry.{Entry}
use Rattle.nr_reduce.specs.declared.mark.LinkParameters.{LinkParameters}
use Rattle.nr_reduce.specs.declared.mark.Mark.{Mark}
use Rattle.nr_reduce.specs.declared.mark.Mark.TheVariants as marks
use Rattle.nr_reduce.specs.Asked.{AskedMark, IsAccepted}
use Rattle.nr_reduce.specs.ClientState.{call_payload}
use Rattle.nr_reduce.specs.Matched.{IsPrefixOf}
use Rattle.nr_laws.specs.MarkAt.{MarkAt}
use Rattle.nr_laws.specs.Payloads.{HasPlan}
use Rattle.nr_laws.specs.MatchedSoFar.{MatchedSoFar}
use Rattle.nr_laws.specs.PlainLinks.{HasPlainReplies}
use Rattle.nr_laws.specs.Typed.{IsTyped}
use Rattle.nr_laws.proofs.AutoReplies.{auto_replies}
use Rattle.nr_laws.proofs.Basics.{some_is_lem}
use Rattle.nr_laws.proofs.ExecutedPayloads.{executes_have_plans}
use Rattle.nr_laws.proofs.OnceByXid.{at_mark, one_submit}
use Rattle.nr_laws.proofs.Ordered.{Order, order}
use Rattle.nr_laws.proofs.Ordered.Order.{Behind, Here, Before}
use Rattle.nr_laws.proofs.OwnReplies.{executed_replies_are_handed_over}
use Rattle.nr_tree.specs.Sane.{IsSane}
use Rattle.nr_plain.specs.Added.{entries_of_call}
use Rattle.nr_plain.specs.History.{AllPlaced}
use Rattle.nr_plain.specs.Replies.{plain_reply}
use Rattle.nr_plain.specs.ReplyLaws.{plain_server}
use Rattle.nr_plain.specs.Setup.{Setup}
use Rattle.nr_plain.proofs.PlainServers.{server_is_plain}
use Rattle.nr_service_laws.specs.ClientMarks.{AreMarksOf, moves_bytes, without_bytes}
use Rattle.nr_service_laws.specs.Exchanges.{Exchange}
use Rattle.nr_service_laws.specs.Exchanges.Exchange.{Answered, Forgotten, GivenUp, HandedOver, Submitted}
use Rattle.nr_service_laws.specs.ServedCommands.{client_marks, is_client_mark}
use Rattle.nr_service_laws.proofs.ServedAnswers.{submit_of}
use Rattle.nr_service_laws.proofs.ServedOutcomes.{WaitsAsPlanned}
use Rattle.nr_pair_laws.specs.Pairs.{AreAnsweredFrom, IsAnsweredBetween, OpenCall, place_after}
use Rattle.nr_pair_laws.proofs.PlacedCalls.{StandsBetween, bound, bound_low, bound_rises, served_calls, stands_between}

-- ---- Marks of a filtered run

-- where the first mark of a run that is filtered stands in the run
record FoundAt (f : Mark → Bool) (run : List Mark) (m : Mark) (rest : List Mark) : Type 0 where
  before : List Mark
  after : List Mark
  is : run ≡ before ++ m ∷ after
  kept : filter f after ≡ rest

found_first : (f : Mark → Bool) (run : List Mark) (m : Mark) (rest : List Mark) → filter f run ≡ m ∷ rest → FoundAt f run m rest
found_first f [] m rest is = absurd cc
found_first f (x ∷ run) m rest is = by (f x) is (λ e. found_first f run m rest e)
  where
    by : (b : Bool) → cond b (x ∷ filter f run) (filter f run) ≡ m ∷ rest → (filter f run ≡ m ∷ rest → FoundAt f run m rest) → FoundAt f (x ∷ run) m rest
    by true same goes = (let first : x ≡ m = cc in let more : filter f run ≡ rest = cc in record { before = []; after = run; is = ap (λ (y : Mark). y ∷ run) first; kept = more })
    by false same goes = let found = goes same in record { before = x ∷ found.before; after = found.after; is = ap (λ (l : List Mark). x ∷ l) found.is; kept = found.kept }

filter_twice : (f g : Mark → Bool) (run : List Mark) → filter g (filter f run) ≡ filter (λ m. f m && g m) run
filter_twice f g [] = refl
filter_twice f g (m ∷ run) = by (f m) (filter_twice f g run)
  where
    by : (b : Bool) → filter g (filter f run) ≡ filter (λ k. f k && g k) run
        → filter g (cond b (m ∷ filter f run) (filter f run)) ≡ cond (b && g m) (m ∷ filter (λ k. f k && g k) run) (filter (λ k. f k && g k) run)
    by true rest = ap (λ (l : List Mark). cond (g m) (m ∷ l) l) rest
    by false rest = rest

-- the marks of the client of this link that move no bytes
abbrev pub is_exchanged : ℕ → Mark → Bool
is_exchanged link mark = is_client_mark link mark && not (moves_bytes mark)

pub exchanged_in : (link : ℕ) (both : List Mark) → without_bytes (client_marks link both) ≡ filter (is_exchanged link) both
exchanged_in link both = filter_twice (is_client_mark link) (λ mark. not (moves_bytes mark)) both

-- ---- One call

front_is_short : (first : List Mark) (m : Mark) (rest : List Mark) → first ≡ first ++ m ∷ rest → ⊥
front_is_short first m rest is = let same = ap (λ (l : List Mark). length l) is in let sum = length-append first (m ∷ rest) in absurd (omega (arith, same, sum))

module _ (s : Setup) (sane : IsSane s.tree) (J : List Entry) (n : ℕ) (opened : LinkParameters) (link : ℕ) (waits : WaitsAsPlanned opened link) (both : List Mark) (typed : IsTyped both) (far : MatchedSoFar opened link both)
    (plain : HasPlainReplies (plain_server s) link both) (placed : AllPlaced s J n (served_calls link both)) where
  replies_to : List Entry → Moment → List ℕ → Option (List ℕ)
  replies_to entries moment payload = plain_reply s entries (length entries) moment payload

  abbrev limit : List Mark → ℕ
  limit run = bound s J link n both placed run

  -- a call is executed after it was submitted
  executed_after : (call : Call) (xid : ℕ) (u v before after rest : List Mark) (moment : Moment) (payload : List ℕ) (place : ℕ) (reply : List ℕ)
      → both ≡ (u ++ submit_of link call xid ∷ v) ++ rest → u ++ submit_of link call xid ∷ v ≡ before ++ marks.Execute link xid moment payload place reply ∷ after
      → (between : List Mark) × (before ≡ u ++ submit_of link call xid ∷ between)
  executed_after call xid u v before after rest moment payload place reply is same =
      by (order u submit v before execute after same)
    where
      submit : Mark
      submit = submit_of link call xid

      execute : Mark
      execute = marks.Execute link xid moment payload place reply

      here : both ≡ u ++ submit ∷ (v ++ rest)
      here = is ∙ append_assoc u (submit ∷ v) rest

      there : both ≡ before ++ execute ∷ (after ++ rest)
      there = is ∙ ap (λ (l : List Mark). l ++ rest) same ∙ append_assoc before (execute ∷ after) rest

      by : Order u submit v before execute after → (between : List Mark) × (before ≡ u ++ submit ∷ between)
      by (Behind between e then) = (between, e)
      by (Here e wrong) = absurd (let w = wrong in cc)
      by (Before between e then) =
          let has = (executes_have_plans opened link both before xid moment payload place reply typed far (record { after = after ++ rest; is = there })).1 in
          let own = marks.Submit link has.call has.form (submissions.Accepted xid) in
          let whole : both ≡ has.before ++ own ∷ (has.at.after ++ execute ∷ (after ++ rest)) =
          there ∙ ap (λ (b : List Mark). b ++ execute ∷ (after ++ rest)) has.at.is ∙ append_assoc has.before (own ∷ has.at.after) (execute ∷ (after ++ rest)) in
          let one : u ≡ has.before = one_submit opened link both u has.before (v ++ rest) (has.at.after ++ execute ∷ (after ++ rest)) call has.call forms.Auto has.form xid xid far refl here whole in
          let long : u ≡ has.before ++ own ∷ (has.at.after ++ execute ∷ between) =
          e ∙ ap (λ (b : List Mark). b ++ execute ∷ between) has.at.is ∙ append_assoc has.before (own ∷ has.at.after) (execute ∷ between) in
          absurd (front_is_short has.before own (has.at.after ++ execute ∷ between) (sym one ∙ long))

  one_reply : (call : Call) (xid : ℕ) (reply : List ℕ) (u v w : List Mark) → both ≡ u ++ submit_of link call xid ∷ (v ++ marks.Done link xid (outcomes.Reply reply) ∷ w)
      → IsAnsweredBetween s J call (outcomes.Reply reply) (limit u) (limit (u ++ submit_of link call xid ∷ (v ++ marks.Done link xid (outcomes.Reply reply) ∷ [])))
  one_reply call xid reply u v w is =
      let submit = submit_of link call xid in
      let done = marks.Done link xid (outcomes.Reply reply) in
      let upto = u ++ submit ∷ v in
      let at_submit : MarkAt both u submit = record { after = v ++ done ∷ w; is = is } in
      let here : both ≡ upto ++ done ∷ w = is ∙ sym (append_assoc u (submit ∷ v) (done ∷ w)) in
      let at_done : MarkAt both upto done = record { after = w; is = here } in
      let accepted : IsAccepted opened link u call forms.Auto xid = at_mark (AskedMark IsPrefixOf opened link) both u submit (v ++ done ∷ w) is far.asked refl in
      let has : HasPlan opened link both xid accepted.plan = record { call = call; form = forms.Auto; before = u; at = at_submit; planned = accepted.planned } in
      let own = executed_replies_are_handed_over opened link both upto xid accepted.plan reply typed far has at_done in
      let execute = marks.Execute link xid own.moment own.payload own.place reply in
      let later = executed_after call xid u v own.before own.at.after (done ∷ w) own.moment own.payload own.place reply here own.at.is in
      let same : call_payload xid call ≡ own.payload = some_is_lem (call_payload xid call) own.payload own.conveyed in
      let split : both ≡ own.before ++ execute ∷ ((own.at.after ++ done ∷ []) ++ w) =
      here ∙ ap (λ (l : List Mark). l ++ done ∷ w) own.at.is ∙ append_assoc own.before (execute ∷ own.at.after) (done ∷ w)
      ∙ ap (λ (l : List Mark). own.before ++ execute ∷ l) (sym (append_assoc own.at.after (done ∷ []) w)) in
      let stands = stands_between s J link n both placed xid own.moment own.payload own.place reply own.before (own.at.after ++ done ∷ []) w split in
      let whole : u ++ submit ∷ (v ++ done ∷ []) ≡ own.before ++ execute ∷ (own.at.after ++ done ∷ []) =
      sym (append_assoc u (submit ∷ v) (done ∷ [])) ∙ ap (λ (l : List Mark). l ++ done ∷ []) own.at.is ∙ append_assoc own.before (execute ∷ own.at.after) (done ∷ []) in
      let first : limit u ≤ limit own.before =
      subst (λ (l : List Mark). limit u ≤ limit l) (sym later.1)
      (bound_rises s J link n both placed u (submit ∷ later.0) (execute ∷ ((own.at.after ++ done ∷ []) ++ w))
      (split ∙ ap (λ (l : List Mark). l ++ execute ∷ ((own.at.after ++ done ∷ []) ++ w)) later.1 ∙ append_assoc u (submit ∷ later.0) (execute ∷ ((own.at.after ++ done ∷ []) ++ w)))) in
      let a : StandsBetween s J own.moment reply own.place (limit own.before) (limit (own.before ++ execute ∷ (own.at.after ++ done ∷ []))) (call_payload xid call) =
      subst (λ (l : List ℕ). StandsBetween s J own.moment reply own.place (limit own.before) (limit (own.before ++ execute ∷ (own.at.after ++ done ∷ []))) l) (sym same) stands in
      let from = a.from in (
        own.place,
        (
          record { xid = xid; fits = accepted.xids; moment = own.moment; reply = reply; is = refl; at = a.at },
          (
            (let m : limit u ≤ own.place = omega (arith, first, from) in m),
            subst (λ (l : List Mark). own.place + length (entries_of_call own.moment (call_payload xid call) reply) ≤ limit l) (sym whole) a.until,
          ),
        ),
      )

  pub one_outcome : (call : Call) (xid : ℕ) (outcome : Outcome) (u v w : List Mark) → both ≡ u ++ submit_of link call xid ∷ (v ++ marks.Done link xid outcome ∷ w)
      → IsAnsweredBetween s J call outcome (limit u) (limit (u ++ submit_of link call xid ∷ (v ++ marks.Done link xid outcome ∷ [])))
  unfolding replies_to
  one_outcome call xid outcome u v w is =
      let submit = submit_of link call xid in
      let done = marks.Done link xid outcome in
      let at_submit : MarkAt both u submit = record { after = v ++ done ∷ w; is = is } in
      let at_done : MarkAt both (u ++ submit ∷ v) done = record { after = w; is = is ∙ sym (append_assoc u (submit ∷ v) (done ∷ w)) } in
      let reply = auto_replies replies_to entries_of_call opened link both u (u ++ submit ∷ v) call xid outcome (waits u) (server_is_plain s sane) plain typed far at_submit at_done in
      subst (λ (o : Outcome). IsAnsweredBetween s J call o (limit u) (limit (u ++ submit ∷ (v ++ marks.Done link xid o ∷ [])))) (sym reply.1)
      (one_reply call xid reply.0 u v w (subst (λ (o : Outcome). both ≡ u ++ submit ∷ (v ++ marks.Done link xid o ∷ w)) reply.1 is))

  -- ---- The exchanges of a command

  -- a call that waits was submitted when the places were that far
  record WasSubmitted (front : List Mark) (c : OpenCall) : Type 0 where
    before : List Mark
    after : List Mark
    is : front ≡ before ++ submit_of link c.call c.xid ∷ after
    least : c.least ≤ limit before

  all_later : (front more : List Mark) (waiting : List OpenCall) → AllByRecursion (WasSubmitted front) waiting → AllByRecursion (WasSubmitted (front ++ more)) waiting
  all_later front more [] all = tt
  all_later front more (c ∷ waiting) (one, all) = (
    record {
      before = one.before;
      after = one.after ++ more;
      is = ap (λ (l : List Mark). l ++ more) one.is ∙ append_assoc one.before (submit_of link c.call c.xid ∷ one.after) more;
      least = one.least;
    },
    all_later front more waiting all,
  )

  -- what the outcome of each waiting call under this xid is
  handed_over : (front rest w : List Mark) (xid : ℕ) (outcome : Outcome) → both ≡ front ++ (rest ++ marks.Done link xid outcome ∷ w) → (waiting : List OpenCall) → AllByRecursion (WasSubmitted front) waiting
      → AllByRecursion (λ (c : OpenCall). c.xid ≡ xid → IsAnsweredBetween s J c.call outcome c.least (limit (front ++ (rest ++ marks.Done link xid outcome ∷ [])))) waiting
  handed_over front rest w xid outcome is [] all = tt
  handed_over front rest w xid outcome is (c ∷ waiting) (one, all) = (by, handed_over front rest w xid outcome is waiting all)
    where
      by : c.xid ≡ xid → IsAnsweredBetween s J c.call outcome c.least (limit (front ++ (rest ++ marks.Done link xid outcome ∷ [])))
      by same =
          let submit = submit_of link c.call xid in
          let done = marks.Done link xid outcome in
          let front_is : front ≡ one.before ++ submit ∷ one.after = one.is ∙ ap (λ (x : ℕ). one.before ++ submit_of link c.call x ∷ one.after) same in
          let there : (tail : List Mark) → front ++ (rest ++ done ∷ tail) ≡ one.before ++ submit ∷ ((one.after ++ rest) ++ done ∷ tail) = (λ tail.
          ap (λ (l : List Mark). l ++ (rest ++ done ∷ tail)) front_is ∙ append_assoc one.before (submit ∷ one.after) (rest ++ done ∷ tail)
          ∙ ap (λ (l : List Mark). one.before ++ submit ∷ l) (sym (append_assoc one.after rest (done ∷ tail)))) in
          let a = one_outcome c.call xid outcome one.before (one.after ++ rest) w (is ∙ there w) in
          let low = a.1.1.0 in
          let least = one.least in
          (a.0, (a.1.0, ((let m : c.least ≤ a.0 = omega (arith, low, least) in m), subst (λ (l : List Mark). place_after s J c.call outcome a.0 a.1.0 ≤ limit l) (sym (there [])) a.1.1.1)))

  answered_from : (made : List Exchange) (waiting : List OpenCall) (least : ℕ) (front rest : List Mark) → both ≡ front ++ rest → least ≤ limit front → AllByRecursion (WasSubmitted front) waiting
      → AreMarksOf link made (filter (is_exchanged link) rest) → AreAnsweredFrom s J least waiting made
  answered_from [] waiting least front rest is from all are = let end = bound_low s J link n both placed front rest is in (let m : least ≤ length J = omega (arith, from, end) in m)
  answered_from (Answered call outcome ∷ made) waiting least front rest is from all (xid, others, (same, more)) =
      let submit = submit_of link call xid in
      let done = marks.Done link xid outcome in
      let one = found_first (is_exchanged link) rest submit (done ∷ others) same in
      let two = found_first (is_exchanged link) one.after done others one.kept in
      let part = one.before ++ submit ∷ (two.before ++ done ∷ []) in
      let rest_is : rest ≡ one.before ++ submit ∷ (two.before ++ done ∷ two.after) = one.is ∙ ap (λ (l : List Mark). one.before ++ submit ∷ l) two.is in
      let cut : rest ≡ part ++ two.after =
      rest_is ∙ ap (λ (l : List Mark). one.before ++ submit ∷ l) (sym (append_assoc two.before (done ∷ []) two.after)) ∙ sym (append_assoc one.before (submit ∷ (two.before ++ done ∷ [])) two.after) in
      let whole : both ≡ (front ++ one.before) ++ submit ∷ (two.before ++ done ∷ two.after) =
      is ∙ ap (λ (l : List Mark). front ++ l) rest_is ∙ sym (append_assoc front one.before (submit ∷ (two.before ++ done ∷ two.after))) in
      let a = one_outcome call xid outcome (front ++ one.before) two.before two.after whole in
      let up = bound_rises s J link n both placed front one.before (submit ∷ (two.before ++ done ∷ two.after)) (is ∙ ap (λ (l : List Mark). front ++ l) rest_is) in
      let at = a.1.1.0 in
      let next = place_after s J call outcome a.0 a.1.0 in
      let end : next ≤ limit (front ++ part) = subst (λ (l : List Mark). next ≤ limit l) (append_assoc front one.before (submit ∷ (two.before ++ done ∷ []))) a.1.1.1 in (
        a.0,
        (
          a.1.0,
          (
            (let m : least ≤ a.0 = omega (arith, from, up, at) in m),
            answered_from made waiting next (front ++ part) two.after (is ∙ ap (λ (l : List Mark). front ++ l) cut ∙ sym (append_assoc front part two.after)) end
                (all_later front part waiting all) (subst (λ (l : List Mark). AreMarksOf link made l) (sym two.kept) more),
          ),
        ),
      )
  answered_from (Forgotten call ∷ made) waiting least front rest is from all (xid, others, (same, more)) =
      let submit = submit_of link call xid in
      let gone = marks.Forget link xid in
      let one = found_first (is_exchanged link) rest submit (gone ∷ others) same in
      let two = found_first (is_exchanged link) one.after gone others one.kept in
      let part = one.before ++ submit ∷ (two.before ++ gone ∷ []) in
      let cut : rest ≡ part ++ two.after =
      one.is ∙ ap (λ (l : List Mark). one.before ++ submit ∷ l) (two.is ∙ sym (append_assoc two.before (gone ∷ []) two.after)) ∙ sym (append_assoc one.before (submit ∷ (two.before ++ gone ∷ [])) two.after) in
      let there : both ≡ front ++ (part ++ two.after) = is ∙ ap (λ (l : List Mark). front ++ l) cut in
      let up = bound_rises s J link n both placed front part two.after there in
      answered_from made waiting least (front ++ part) two.after (there ∙ sym (append_assoc front part two.after)) (let m : least ≤ limit (front ++ part) = omega (arith, from, up) in m)
      (all_later front part waiting all) (subst (λ (l : List Mark). AreMarksOf link made l) (sym two.kept) more)
  answered_from (Submitted number call ∷ made) waiting least front rest is from all (xid, others, (same, more)) =
      let submit = submit_of link call number in
      let one = found_first (is_exchanged link) rest submit others same in
      let part = one.before ++ submit ∷ [] in
      let there : both ≡ front ++ (part ++ one.after) = is ∙ ap (λ (l : List Mark). front ++ l) (one.is ∙ sym (append_assoc one.before (submit ∷ []) one.after)) in
      let up = bound_rises s J link n both placed front part one.after there in
      let upto = bound_rises s J link n both placed front one.before (submit ∷ one.after) (is ∙ ap (λ (l : List Mark). front ++ l) one.is) in
      answered_from made (record { xid = number; call = call; least = least } ∷ waiting) least (front ++ part) one.after (there ∙ sym (append_assoc front part one.after))
      (let m : least ≤ limit (front ++ part) = omega (arith, from, up) in m) (
        record {
          before = front ++ one.before;
          after = [];
          is = sym (append_assoc front one.before (submit ∷ []));
          least = (let m : least ≤ limit (front ++ one.before) = omega (arith, from, upto) in m);
        },
        all_later front part waiting all,
      )
      (subst (λ (l : List Mark). AreMarksOf link made l) (sym one.kept) more)
  answered_from (HandedOver number outcome ∷ made) waiting least front rest is from all (xid, others, (same, more)) =
      let done = marks.Done link number outcome in
      let one = found_first (is_exchanged link) rest done others same in
      let part = one.before ++ done ∷ [] in
      let here : both ≡ front ++ (one.before ++ done ∷ one.after) = is ∙ ap (λ (l : List Mark). front ++ l) one.is in
      let there : both ≡ front ++ (part ++ one.after) = here ∙ ap (λ (l : List Mark). front ++ l) (sym (append_assoc one.before (done ∷ []) one.after)) in
      let up = bound_rises s J link n both placed front part one.after there in (
        limit (front ++ part),
        (
          (let m : least ≤ limit (front ++ part) = omega (arith, from, up) in m),
          (
            handed_over front one.before one.after number outcome here waiting all,
            answered_from made waiting (limit (front ++ part)) (front ++ part) one.after (there ∙ sym (append_assoc front part one.after)) (omega arith)
                (all_later front part waiting all) (subst (λ (l : List Mark). AreMarksOf link made l) (sym one.kept) more),
          ),
        ),
      )
  answered_from (GivenUp number ∷ made) waiting least front rest is from all (xid, others, (same, more)) =
      let gone = marks.Forget link number in
      let one = found_first (is_exchanged link) rest gone others same in
      let part = one.before ++ gone ∷ [] in
      let there : both ≡ front ++ (part ++ one.after) = is ∙ ap (λ (l : List Mark). front ++ l) (one.is ∙ sym (append_assoc one.before (gone ∷ []) one.after)) in
      let up = bound_rises s J link n both placed front part one.after there in
      answered_from made waiting least (front ++ part) one.after (there ∙ sym (append_assoc front part one.after)) (let m : least ≤ limit (front ++ part) = omega (arith, from, up) in m)
      (all_later front part waiting all) (subst (λ (l : List Mark). AreMarksOf link made l) (sym one.kept) more)

  pub exchanges_answered : (made : List Exchange) → AreMarksOf link made (without_bytes (client_marks link both)) → AreAnsweredFrom s J n [] made
  exchanges_answered made are = answered_from made [] n [] both refl (omega arith) tt (subst (λ (l : List Mark). AreMarksOf link made l) (exchanged_in link both) are)
