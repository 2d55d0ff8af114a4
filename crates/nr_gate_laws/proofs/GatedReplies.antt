-- Each record that a gateway's connection answered has the plain server's reply.
use Rattle.std.proofs.Common.{◌≡◌, ◌⊎◌, ⊎_elim, inl, inr, ℕ, ◌^◌, ◌<◌, ◌≤◌, List, [], ◌∷◌, ◌++◌, length, take, Option, None, Some, Result, Ok, Err, refl, sym, ap, ◌∙◌, subst, append_assoc, append-nil, arith, le_refl}
use Rattle.std.specs.Prelude.{is_some}
use Rattle.std.specs.Option.{option_map}
use Rattle.std.specs.List.{AllByRecursion, flat_map}
use Rattle.std.proofs.lemmas.List.{length-append, take-append-le, take_all}
use Rattle.nr_xdr.specs.Item.{IsBytes}
use Rattle.nr_outside.specs.declared.moment.Moment.{Moment}
use Rattle.nr_rpc.specs.Reading.{target_of}
use Rattle.nr_rpc.specs.declared.head.CallHead.{CallHead}
use Rattle.nr_rpc.specs.declared.head.CallHead.TheVariants as calls
use Rattle.nr_reduce.specs.Asked.{AskedMark, IsAccepted}
use Rattle.nr_reduce.specs.ClientState.{call_payload}
use Rattle.nr_reduce.specs.Matched.{IsPrefixOf}
use Rattle.nr_reduce.specs.declared.call.Call.{Call}
use Rattle.nr_reduce.specs.declared.call.Form.TheVariants as forms
use Rattle.nr_reduce.specs.declared.call.Outcome.{Outcome}
use Rattle.nr_reduce.specs.declared.call.Outcome.TheVariants as outcomes
use Rattle.nr_reduce.specs.declared.call.Submission.TheVariants as submissions
use Rattle.nr_reduce.specs.declared.mark.Entry.{Entry as JournalEntry}
use Rattle.nr_reduce.specs.declared.mark.LinkParameters.{LinkParameters}
use Rattle.nr_reduce.specs.declared.mark.Mark.{Mark}
use Rattle.nr_reduce.specs.declared.mark.Mark.TheVariants as marks
use Rattle.nr_requester.specs.declared.taking.Done.{Done}
use Rattle.nr_laws.specs.MarkAt.{MarkAt}
use Rattle.nr_laws.specs.Payloads.{HasPlan}
use Rattle.nr_laws.proofs.Basics.{some_is_lem}
use Rattle.nr_laws.proofs.Following.{places_follow}
use Rattle.nr_laws.proofs.LaterMarks.{mark_later}
use Rattle.nr_laws.proofs.OnceByXid.{at_mark}
use Rattle.nr_laws.proofs.PlainReplies.{any_replies_are_plain}
use Rattle.nr_service_laws.specs.ServedCommands.{is_client_mark}
use Rattle.nr_plain.specs.Added.{entries_of_call}
use Rattle.nr_plain.specs.Journal.{state_of}
use Rattle.nr_plain.specs.Replies.{Answer, answer_by, plain_answer, plain_reply}
use Rattle.nr_plain.specs.ReplyLaws.{plain_server}
use Rattle.nr_plain.specs.Setup.{Setup}
use Rattle.nr_turnstile.specs.declared.turnstile.Pass.{Pass}
use Rattle.nr_turnstile.specs.Passes.{seen_by}
use Rattle.nr_turnstile.specs.Rule.{Begins}
use Rattle.nr_record_loop.specs.Connections.{Exchange, Unanswered, calls as exchanged_calls, loop_at}
use Rattle.nr_record_loop.specs.declared.answering.NoReply.{NoReply}
use Rattle.nr_record_loop.specs.declared.answering.NoReply.TheVariants as reasons
use Rattle.nr_shared.specs.declared.call_end.CallEnd.{CallEnd}
use Rattle.nr_shared.specs.declared.call_end.CallEnd.TheVariants as call_ends
use Rattle.nr_shared.specs.declared.entry.Entry.{Entry}
use Rattle.nr_shared.specs.declared.entry.Entry.TheVariants as entries
use Rattle.nr_shared.specs.declared.requester_with_sink.RequesterWithSink.{RequesterWithSink}
use Rattle.nr_shared.specs.OneLink.{mark_at, run_of}
use Rattle.nr_shared.specs.Waiting.{Calls, NoAnswer, SendsNone}
use Rattle.nr_gate.specs.declared.gate_end.GateEnd.{GateEnd}
use Rattle.nr_gate.specs.declared.gate_end.GateEnd.TheVariants as ends
use Rattle.nr_gate.specs.Forwarding.{Asks, forwarded, with_xid}
use Rattle.nr_gate.specs.Gating.{EndsRemotely, Forwards, ForwardsAll, Gates, HasOutcome, IsForwarded, IsMismatch, IsUnfit, Makes, Unforwarded}
use Rattle.nr_gate.proofs.Steps.{remote_made}
use Rattle.nr_gate_laws.specs.GatedReplies.{ArePlain, GatedLinksArePlain, GatedRepliesArePlain, IsPlain, IsRemoteLink, PlainInLongerJournals}
use Rattle.nr_gate_laws.proofs.Forwarding.{forwarded_payload, reply_comes_back}
use Rattle.nr_gate_laws.proofs.Remote.{Between, Kept, between, kept, run_at, shorter_begins}

begins_then : {E : Type 0} (xs ys zs : List E) → Begins xs ys → Begins ys zs → Begins xs zs
begins_then {E} xs ys zs a b = (a.0 ++ b.0, b.1 ∙ ap (λ (l : List E). l ++ b.0) a.1 ∙ append_assoc xs a.0 b.0)

begins_same : {E : Type 0} (xs ys : List E) → ys ≡ xs → Begins xs ys
begins_same xs ys same = ([], same ∙ sym (append-nil xs))

-- ---- what a pass has seen grows

module _ {O C : Type 0} where
  one_grows : (p q : Pass (RequesterWithSink O C) Entry) (bytes reply : List ℕ) → Forwards p q bytes reply → Begins (seen_by p) (seen_by q)
  one_grows p q bytes reply f = ⊎_elim
      (λ (own : IsForwarded p q bytes reply). own.answer.adds.seen)
      (λ (at_once : IsMismatch p q bytes reply). begins_same (seen_by p) (seen_by q) (ap seen_by at_once.unchanged))
      f

  all_grow : (p q : Pass (RequesterWithSink O C) Entry) (xs : List Exchange) → ForwardsAll p q xs → Begins (seen_by p) (seen_by q)
  all_grow p q [] is = begins_same (seen_by p) (seen_by q) (ap seen_by is)
  all_grow p q (x ∷ xs) (m, (one, later)) = begins_then (seen_by p) (seen_by m) (seen_by q) (one_grows p m x.call x.reply one) (all_grow m q xs later)

  call_grows : (p q : Pass (RequesterWithSink O C) Entry) (asked : Call) (result : Result Done CallEnd) → Calls p q asked forms.Auto result → Begins (seen_by p) (seen_by q)
  call_grows p q asked (Ok done) c = c.adds.seen
  call_grows p q asked (Err end) c = ⊎_elim
      (λ (none : SendsNone p q asked forms.Auto end). none.adds.seen)
      (λ (lost : NoAnswer p q asked forms.Auto end). lost.adds.seen)
      c

  ended_grows : (end : GateEnd) (p q : Pass (RequesterWithSink O C) Entry) (bytes : List ℕ) → EndsRemotely end p q bytes → Begins (seen_by p) (seen_by q)
  ended_grows (ends.Remote end) p q bytes ended = (let m = remote_made end p q bytes ended in call_grows p q m.asked (Err end) m.made)
  ended_grows ends.Chunk p q bytes made = call_grows p q made.makes.asked (Ok made.done) made.makes.made
  ended_grows (ends.Version low high) p q bytes made = call_grows p q made.makes.asked (Ok made.done) made.makes.made
  ended_grows ends.Closed p q bytes made = absurd made
  ended_grows (ends.Cut at) p q bytes made = absurd made
  ended_grows ends.LinkRead p q bytes made = absurd made
  ended_grows ends.LinkWrite p q bytes made = absurd made
  ended_grows (ends.Bad at reason) p q bytes made = absurd made
  ended_grows (ends.Budget read) p q bytes made = absurd made
  ended_grows ends.Memory p q bytes made = absurd made

  last_grows : (end : GateEnd) (reason : NoReply) (p q : Pass (RequesterWithSink O C) Entry) (bytes : List ℕ) → Unforwarded end reason p q bytes → Begins (seen_by p) (seen_by q)
  last_grows end reasons.NotCall p q bytes same = begins_same (seen_by p) (seen_by q) (ap seen_by same)
  last_grows end reasons.Memory p q bytes out = ⊎_elim
      (λ (same : q ≡ p). begins_same (seen_by p) (seen_by q) (ap seen_by same))
      (λ (made : Makes p q bytes (Err call_ends.Memory) ⊎ ((payload : List ℕ) × (IsUnfit payload × HasOutcome p q bytes (outcomes.Reply payload)))). ⊎_elim
      (λ (none : Makes p q bytes (Err call_ends.Memory)). call_grows p q none.asked (Err call_ends.Memory) none.made)
      (λ (unfit : (payload : List ℕ) × (IsUnfit payload × HasOutcome p q bytes (outcomes.Reply payload))). call_grows p q unfit.1.1.makes.asked (Ok unfit.1.1.done) unfit.1.1.makes.made)
      made)
      out
  last_grows end reasons.Other p q bytes made = ended_grows end p q bytes made

-- ---- replies of the plain server

module _ (s : Setup) (J : List JournalEntry) (place : ℕ) (moment : Moment) where
  -- over the entries before the place
  at_place : (payload reply : List ℕ) → plain_reply s (take place J) (length (take place J)) moment payload ≡ Some reply → plain_reply s J place moment payload ≡ Some reply
  at_place payload reply is =
      ap (λ (l : List JournalEntry). option_map (λ (a : Answer). a.reply) (plain_answer s.parameters (state_of s l) moment payload)) (sym (take_all (length (take place J)) (take place J) (le_refl _))) ∙ is

  -- a call of another version is answered at every place alike
  mismatch_plain : {O C : Type 0} (p q : Pass (RequesterWithSink O C) Entry) (bytes reply : List ℕ) → IsMismatch p q bytes reply → plain_reply s J place moment bytes ≡ Some reply
  mismatch_plain p q bytes reply at_once =
      ap (λ (r : Result CallHead ℕ). option_map (λ (a : Answer). a.reply) (answer_by s.parameters (state_of s (take place J)) moment bytes r)) at_once.head ∙ ap Some (sym at_once.reply_is)

  -- the reply to the forwarded call, with the record's own xid
  forwarded_plain : (xid x : ℕ) (asked : Call) (bytes payload reply : List ℕ) → IsBytes bytes → x < 2 ^ 32 → Asks bytes xid asked
      → plain_reply s J place moment (call_payload x asked) ≡ Some payload → reply ≡ with_xid xid payload → plain_reply s J place moment bytes ≡ Some reply
  forwarded_plain xid x asked bytes payload reply is_bytes fits asks is reply_is =
      let head : CallHead = calls.Version2 xid asked.prog asked.vers asked.proc asked.cred asks.args_at in
      let sent : forwarded x bytes ≡ call_payload x asked = forwarded_payload xid x asked bytes asks in
      sym (reply_comes_back s J place moment x bytes head is_bytes fits (ap (λ (r : Result CallHead ℕ). is_some (target_of r)) asks.head) asks.head)
      ∙ ap (λ (l : List ℕ). option_map (with_xid xid) (plain_reply s J place moment l)) sent
      ∙ ap (option_map (with_xid xid)) is ∙ ap Some (sym reply_is)

-- ---- one call of the link

module _ (s : Setup) (J : List JournalEntry) (opened : LinkParameters) (link : ℕ) (history : List Entry) (both : List Mark) (r : IsRemoteLink s J opened link history both) where
  abbrev run_to : List Entry → List Mark
  run_to h = run_of r.before r.n link h

  -- the mark of an entry of the history, in the run of both sides
  stands : (front back : List Entry) (e : Entry) (m : Mark) → history ≡ front ++ e ∷ back → mark_at r.n link e ≡ m ∷ []
      → Kept (is_client_mark link) both (run_to front) m (flat_map (mark_at r.n link) back)
  stands front back e m is one = kept (is_client_mark link) both (run_to front) m (flat_map (mark_at r.n link) back) (r.client_side ∙ run_at r.before r.n link history front back e m is one)

  -- a call whose outcome this beginning of the history has, and its place
  record Answered (seen : List Entry) (least : ℕ) : Type 0 where
    front : List Entry
    back : List Entry
    xid : ℕ
    submit : ℕ
    payload : List ℕ
    is : seen ≡ front ++ entries.Done xid (outcomes.Reply payload) submit ∷ back
    first : List Mark
    moment : Moment
    sent : List ℕ
    reply : List ℕ
    executed : MarkAt both first (marks.Execute link xid moment sent least reply)

  abbrev IsLeast : List Entry → ℕ → Type 0
  IsLeast seen least = (least ≡ 0) ⊎ Answered seen least

  -- the call of a record that was forwarded: the place at which it was executed
  record Executed (seen : List Entry) (bytes reply : List ℕ) (least : ℕ) : Type 0 where
    place : ℕ
    moment : Moment
    rises : least ≤ place
    within : place ≤ length J
    plain : plain_reply s J place moment bytes ≡ Some reply
    next : IsLeast seen place

  module _ {O C : Type 0} (p m : Pass (RequesterWithSink O C) Entry) (bytes reply : List ℕ) (f : IsForwarded p m bytes reply) (is_bytes : IsBytes bytes) (more : List Entry) (history_is : history ≡ seen_by m ++ more) where
    abbrev xid : ℕ
    xid = f.answer.xid

    abbrev done_entry : Entry
    done_entry = entries.Done xid f.done.outcome f.answer.at

    abbrev submit_entry : Entry
    submit_entry = entries.Submit f.asked forms.Auto xid

    abbrev submit_mark : Mark
    submit_mark = marks.Submit link f.asked forms.Auto (submissions.Accepted xid)

    abbrev done_mark : Mark
    done_mark = marks.Done link xid (outcomes.Reply f.payload)

    at_submit : Between (seen_by m) f.answer.at submit_entry
    at_submit = between (seen_by m) f.answer.at submit_entry f.answer.stands

    submitted : Kept (is_client_mark link) both (run_to at_submit.front) submit_mark (flat_map (mark_at r.n link) (at_submit.back ++ more))
    submitted =
        stands at_submit.front (at_submit.back ++ more) submit_entry submit_mark
        (history_is ∙ ap (λ (l : List Entry). l ++ more) at_submit.is ∙ append_assoc at_submit.front (submit_entry ∷ at_submit.back) more) refl

    done_is : seen_by m ≡ f.answer.before ++ entries.Done xid (outcomes.Reply f.payload) f.answer.at ∷ []
    done_is = f.answer.seen ∙ ap (λ (o : Outcome). f.answer.before ++ entries.Done xid o f.answer.at ∷ []) f.outcome

    completed : Kept (is_client_mark link) both (run_to f.answer.before) done_mark (flat_map (mark_at r.n link) more)
    completed =
        stands f.answer.before more (entries.Done xid (outcomes.Reply f.payload) f.answer.at) done_mark
        (history_is ∙ ap (λ (l : List Entry). l ++ more) done_is ∙ append_assoc f.answer.before (entries.Done xid (outcomes.Reply f.payload) f.answer.at ∷ []) more) refl

    accepted : IsAccepted opened link submitted.front f.asked forms.Auto xid
    accepted = at_mark (AskedMark IsPrefixOf opened link) both submitted.front submit_mark submitted.back submitted.is r.matched.asked refl

    abbrev has_plan : HasPlan opened link both xid accepted.plan
    has_plan = record { call = f.asked; form = forms.Auto; before = submitted.front; at = record { after = submitted.back; is = submitted.is }; planned = accepted.planned }

    done_at : MarkAt both completed.front done_mark
    done_at = record { after = completed.back; is = completed.is }

    executed : (least : ℕ) → IsLeast (seen_by p) least → Executed (seen_by m) bytes reply least
    executed least prior =
        let h = any_replies_are_plain (plain_server s) J opened link both completed.front xid accepted.plan f.payload r.typed r.matched r.at_places has_plan done_at in
        let own = h.own in
        let there : MarkAt both own.before (marks.Execute link xid own.moment own.payload own.place f.payload) =
        mark_later both completed.front done_mark completed.back own.before (marks.Execute link xid own.moment own.payload own.place f.payload) completed.is own.at in
        let sent : call_payload xid f.asked ≡ own.payload = some_is_lem (call_payload xid f.asked) own.payload own.conveyed in
        let replied : plain_reply s J own.place own.moment own.payload ≡ Some f.payload = at_place s J own.place own.moment own.payload f.payload h.plain_replies.replied in
        record {
          place = own.place;
          moment = own.moment;
          rises = rises own.place own.moment own.payload own.before there;
          within = h.plain_replies.within;
          plain = forwarded_plain s J own.place own.moment f.xid xid f.asked bytes f.payload reply is_bytes accepted.xids f.asks
              (subst (λ (l : List ℕ). plain_reply s J own.place own.moment l ≡ Some f.payload) (sym sent) replied) f.reply_is;
          next = inr (record {
            front = f.answer.before;
            back = [];
            xid = xid;
            submit = f.answer.at;
            payload = f.payload;
            is = done_is;
            first = own.before;
            moment = own.moment;
            sent = own.payload;
            reply = f.payload;
            executed = there;
          });
        } where
          -- the call before was answered before this one was submitted
          rises : (place : ℕ) (moment : Moment) (payload : List ℕ) (first : List Mark) → MarkAt both first (marks.Execute link xid moment payload place f.payload) → least ≤ place
          rises place moment payload first there = ⊎_elim
              (λ (none : least ≡ 0). (let le : least ≤ place = omega (arith, none) in le))
              (λ (a : Answered (seen_by p) least). after a)
              prior where
                after : Answered (seen_by p) least → least ≤ place
                after a =
                    let grows = f.answer.adds.seen in
                    let count = at_submit.count in
                    let later = f.answer.new in
                    let (mid, front_is) = shorter_begins (seen_by p) at_submit.front grows.0 (submit_entry ∷ at_submit.back) (sym grows.1 ∙ at_submit.is) (omega (arith, count, later)) in
                    let done = entries.Done a.xid (outcomes.Reply a.payload) a.submit in
                    let mark = marks.Done link a.xid (outcomes.Reply a.payload) in
                    let shape : at_submit.front ≡ a.front ++ done ∷ (a.back ++ mid) = front_is ∙ ap (λ (l : List Entry). l ++ mid) a.is ∙ append_assoc a.front (done ∷ a.back) mid in
                    let k = kept (is_client_mark link) submitted.front (run_to a.front) mark (flat_map (mark_at r.n link) (a.back ++ mid))
                    (submitted.front_is ∙ run_at r.before r.n link at_submit.front a.front (a.back ++ mid) done mark shape refl) in
                    let sub : MarkAt both (k.front ++ mark ∷ k.back) submit_mark =
                    record { after = submitted.back; is = subst (λ (l : List Mark). both ≡ l ++ submit_mark ∷ submitted.back) k.is submitted.is } in
                    places_follow entries_of_call J opened opened link link both k.front k.back a.first first f.asked forms.Auto a.xid xid (outcomes.Reply a.payload)
                    a.moment moment a.sent payload least place a.reply f.payload r.typed r.matched r.matched r.journaled sub a.executed there

  -- ---- all records

  no_moment : Moment
  no_moment = record { seconds = 0; nanos = 0 }

  all_plain : {O C : Type 0} (p q : Pass (RequesterWithSink O C) Entry) (xs : List Exchange) (least : ℕ) → ForwardsAll p q xs → Begins (seen_by q) history → AllByRecursion IsBytes (exchanged_calls xs)
      → IsLeast (seen_by p) least → least ≤ length J → ArePlain s J least xs
  all_plain {O} {C} p q [] least all begins bytes prior within = tt
  all_plain {O} {C} p q (x ∷ xs) least (m, (one, later)) begins bytes prior within = ⊎_elim
      (λ (f : IsForwarded p m x.call x.reply).
      let to_here = begins_then (seen_by m) (seen_by q) history (all_grow m q xs later) begins in
      let e = executed p m x.call x.reply f bytes.0 to_here.0 to_here.1 least prior in
      let plain : IsPlain s J e.place x = record { within = e.within; moment = e.moment; replied = e.plain } in
      (e.place, (e.rises, (plain, all_plain m q xs e.place later begins bytes.1 e.next e.within))))
      (λ (at_once : IsMismatch p m x.call x.reply).
      let plain : IsPlain s J least x = record { within = within; moment = no_moment; replied = mismatch_plain s J least no_moment p m x.call x.reply at_once } in
      let next : IsLeast (seen_by m) least = subst (λ (t : Pass (RequesterWithSink O C) Entry). IsLeast (seen_by t) least) (sym at_once.unchanged) prior in
      (least, (le_refl least, (plain, all_plain m q xs least later begins bytes.1 next within))))
      one

all_front : {A : Type 0} (P : A → Type 0) (xs ys : List A) → AllByRecursion P (xs ++ ys) → AllByRecursion P xs
all_front P [] ys all = tt
all_front P (x ∷ xs) ys all = (all.0, all_front P xs ys all.1)

pub gated_replies_are_plain : {O C : Type 0} → GatedRepliesArePlain O C
gated_replies_are_plain {O} {C} s J opened link history both before after end g bytes begins r =
    by_more g.more g.serves.did where
      own : AllByRecursion IsBytes (exchanged_calls g.exchanges)
      own = all_front IsBytes (exchanged_calls g.exchanges) g.others (subst (AllByRecursion IsBytes) g.order bytes)

      first : 0 ≤ length J
      first = omega arith

      by_more : (more : Option Unanswered) → Gates end before.state after.state g.exchanges more → ArePlain s J 0 g.exchanges
      by_more None all = all_plain s J opened link history both r before.state after.state g.exchanges 0 all begins own (inl refl) first
      by_more (Some x) (m, (all, last)) =
          let to_end = begins_then (seen_by m) (seen_by after.state) history (last_grows end x.reason m after.state x.call last) begins in
          all_plain s J opened link history both r before.state m g.exchanges 0 all to_end own (inl refl) first

pub gated_links_are_plain : {O C : Type 0} → GatedLinksArePlain O C
gated_links_are_plain {O} {C} s J opened link history both p q accepted hung_up source_faults sink_faults end g bytes begins r =
    gated_replies_are_plain s J opened link history both (loop_at accepted.left accepted.given accepted.taken g.first) (loop_at hung_up.left hung_up.given hung_up.taken g.own) end g.gated bytes begins r

-- ---- in a longer journal

longer : (s : Setup) (J more : List JournalEntry) (place : ℕ) (x : Exchange) → IsPlain s J place x → IsPlain s (J ++ more) place x
longer s J more place x one = record {
  within = omega (arith, one.within, length-append J more);
  moment = one.moment;
  replied = ap (λ (l : List JournalEntry). option_map (λ (a : Answer). a.reply) (plain_answer s.parameters (state_of s l) one.moment x.call)) (take-append-le place J more one.within)
      ∙ one.replied;
}

pub plain_in_longer_journals : PlainInLongerJournals
plain_in_longer_journals s J more least [] are = (tt, refl)
plain_in_longer_journals s J more least (x ∷ xs) (place, (rises, (one, others))) =
    let (later, same) = plain_in_longer_journals s J more place xs others in
    ((place, (rises, (longer s J more place x one, later))), ap (λ (l : List ℕ). place ∷ l) same)
