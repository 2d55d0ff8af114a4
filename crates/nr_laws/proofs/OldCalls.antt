-- No call is old on links that are matched from their client's first one on, until the client leaves the link: an entry with a much larger xid would
-- have been submitted while this call was outstanding.
use Rattle.std.proofs.Common.{◌≡◌, ◌≢◌, ℕ, ◌+◌, ◌≤◌, ◌<◌, ◌^◌, max, Bool, true, false, cond, ◌||◌, eqb, eqb-true, leb, List, [], ◌∷◌, ◌++◌, length, refl, sym, ap, subst, ◌∙◌, arith, append_assoc, ◌⊎◌, inl, inr, Option, None, Some, suc}
use Rattle.std.specs.Prelude.{slice_get}
use Rattle.std.specs.List.{AllByRecursion, flat_map, fold}
use Rattle.std.proofs.lemmas.Bool.{eq-eqb, leb-true, leb-false}
use Rattle.nr_xdr.specs.Item.{IsBytes}
use Rattle.nr_outside.specs.declared.moment.Moment.{Moment}
use Rattle.nr_wire.specs.declared.hello.Side.TheVariants.{Initiator, Responder}
use Rattle.nr_reduce.specs.declared.call.Call.{Call}
use Rattle.nr_reduce.specs.declared.call.Form.{Form}
use Rattle.nr_reduce.specs.declared.call.Submission.TheVariants as submissions
use Rattle.nr_reduce.specs.declared.mark.Entry.{Entry}
use Rattle.nr_reduce.specs.declared.mark.LinkParameters.{LinkParameters}
use Rattle.nr_reduce.specs.declared.mark.Mark.{Mark}
use Rattle.nr_reduce.specs.declared.mark.Mark.TheVariants as marks
use Rattle.nr_reduce.specs.declared.mark.ResumedCall.{ResumedCall}
use Rattle.nr_reduce.specs.declared.mark.TaggedEntry.{TaggedEntry}
use Rattle.nr_reduce.specs.declared.mark.Told.TheVariants as told
use Rattle.nr_reduce.specs.Asked.{AskedMark, AskedSoFar, IsAccepted}
use Rattle.nr_reduce.specs.AtEachMark.{AtEachMark}
use Rattle.nr_reduce.specs.ClientState.{ClientState, OutstandingCall}
use Rattle.nr_reduce.specs.Events.{RunEvent, events}
use Rattle.nr_reduce.specs.Events.RunEvent.{CallExecuted}
use Rattle.nr_reduce.specs.History.{AcceptedCall, accepted_at, accepted_calls}
use Rattle.nr_reduce.specs.Limits.{window}
use Rattle.nr_reduce.specs.Matched.{MatchedMark, IsPrefixOf}
use Rattle.nr_reduce.specs.NumberedJournal.{Standing, standing, standing_for, top_of, largest_xid, place_of_entry, kept_or_new, tagged_journal, number_heard, IsOld, NumberedMark}
use Rattle.nr_reduce.specs.NumberedJournal.Standing.{Old, New}
use Rattle.nr_reduce.specs.Opening.{IsOpened}
use Rattle.nr_reduce.specs.Reopening.{IsReopened, calls_kept}
use Rattle.nr_reduce.specs.Run.{client}
use Rattle.nr_reduce.specs.Served.{ServedMark, IsExecuted, IsRefusedAsOld}
use Rattle.nr_reduce.specs.SubmitAnswer.{next_sent_xid}
use Rattle.nr_reduce.proofs.Placing.{xids_differ}
use Rattle.nr_reduce.proofs.Standing.{AtEachMark_more}
use Rattle.nr_reduce.proofs.Steps.{AtEachMark_first}
use Rattle.nr_laws.specs.Grant.{AcceptsByRule}
use Rattle.nr_laws.specs.MarkAt.{MarkAt}
use Rattle.nr_laws.specs.MatchedSoFar.{MatchedSoFar}
use Rattle.nr_laws.specs.OnceEach.{BegunLink, GoesOn, IsEarlier, MatchedWithEarlier, OpenedWithEarlier, AcceptsWithEarlier, IsLeft, NoCallIsOld}
use Rattle.nr_laws.specs.PlainLinks.{server_with}
use Rattle.nr_laws.specs.Typed.{TypedMark, IsTyped}
use Rattle.nr_laws.proofs.AccountedCalls.{is_outstanding}
use Rattle.nr_laws.proofs.AnsweredXids.{WasHeard, heard_of, message_said}
use Rattle.nr_laws.proofs.Basics.{each_right}
use Rattle.nr_laws.proofs.EarlierLinks.{InFirst, event_at_mark, execute_event, none_is, submitted_in_time, LinkKeeps, next_opening, xid_below, each_earlier}
use Rattle.nr_laws.proofs.FarCalls.{near_outstanding}
use Rattle.nr_laws.proofs.Following.{far_before, not_after_message}
use Rattle.nr_laws.proofs.JournalPlaces.{journal_from, AddedBy}
use Rattle.nr_laws.proofs.KeptEntries.{IsTagOf, tag_of, entry_added}
use Rattle.nr_laws.proofs.LaterOutcomes.{again_on, not_kept}
use Rattle.nr_laws.proofs.LinkedChains.{IsLater, later_earlier, same_or_later, later_than, earlier_than}
use Rattle.nr_laws.proofs.NumbersHeard.{heard_or_none}
use Rattle.nr_laws.proofs.OnceByXid.{at_mark, before_mark}
use Rattle.nr_laws.proofs.Ordered.{Order, order}
use Rattle.nr_laws.proofs.Ordered.Order.{Here, Behind, Before}
use Rattle.nr_laws.proofs.OutstandingSubmits.{HasSubmit}
use Rattle.nr_laws.proofs.PlacesByNumber.{SubmittedBefore, submitted_before}
use Rattle.nr_laws.proofs.ResumedCalls.{IsOneOf, WasOutstanding, new_or_again, kept_of}
use Rattle.nr_laws.proofs.RisingCalls.{IsGone, rises_of, waits_above, gone_later}

-- ---- An old call has an entry of its client far above it

record HasFar (T : List TaggedEntry) (client least : ℕ) : Type 0 where
  place : ℕ
  own : TaggedEntry
  there : slice_get T place ≡ Some own
  client_is : own.client ≡ client
  far : least ≤ own.xid

far_more : (t : TaggedEntry) (T : List TaggedEntry) (client least : ℕ) → HasFar T client least → HasFar (t ∷ T) client least
far_more t T client least h = record { place = suc h.place; own = h.own; there = h.there; client_is = h.client_is; far = h.far }

far_from : (T : List TaggedEntry) (client least top : ℕ) → least ≤ fold (largest_xid client) top T → (least ≤ top) ⊎ HasFar T client least
far_from [] client least top h = inl h
far_from (t ∷ T) client least top h = later (far_from T client least (largest_xid client top t) h)
  where
    by_client : (b : Bool) → eqb t.client client ≡ b → least ≤ cond b (max top t.xid) top → (least ≤ top) ⊎ HasFar (t ∷ T) client least
    by_client false is le = inl le
    by_client true is le = by_xid (leb least t.xid) refl
      where
        by_xid : (c : Bool) → leb least t.xid ≡ c → (least ≤ top) ⊎ HasFar (t ∷ T) client least
        by_xid true far = inr (record { place = 0; own = t; there = refl; client_is = eqb-true t.client client is; far = leb-true least t.xid far })
        by_xid false far = inl (let lt = leb-false least t.xid far in omega (arith, lt, le))

    later : (least ≤ largest_xid client top t) ⊎ HasFar T client least → (least ≤ top) ⊎ HasFar (t ∷ T) client least
    later (inl le) = by_client (eqb t.client client) refl le
    later (inr far) = inr (far_more t T client least far)

old_far : (T : List TaggedEntry) (client xid : ℕ) → IsOld (standing_for T client xid) → HasFar T client (xid + window)
unfolding standing top_of
old_far T client xid old = by_number (eqb client 0) old
  where
    far : xid + window ≤ fold (largest_xid client) 0 T → HasFar T client (xid + window)
    far le = above (far_from T client (xid + window) 0 le)
      where
        above : (xid + window ≤ 0) ⊎ HasFar T client (xid + window) → HasFar T client (xid + window)
        above (inl none) = absurd (omega (arith, none))
        above (inr h) = h

    not_old : (place : Option ℕ) → IsOld (kept_or_new place) → ⊥
    not_old None wrong = absurd wrong
    not_old (Some place) wrong = absurd wrong

    by_top : (b : Bool) → leb (xid + window) (fold (largest_xid client) 0 T) ≡ b → IsOld (cond b (Old (fold (largest_xid client) 0 T)) (kept_or_new (place_of_entry T client xid))) → HasFar T client (xid + window)
    by_top true is old = far (leb-true (xid + window) (fold (largest_xid client) 0 T) is)
    by_top false is old = absurd (not_old (place_of_entry T client xid) old)

    by_number : (b : Bool) → IsOld (cond b New (standing T client xid)) → HasFar T client (xid + window)
    by_number true wrong = absurd wrong
    by_number false old = by_top (leb (xid + window) (fold (largest_xid client) 0 T)) refl old

old_numbered : (T : List TaggedEntry) (client xid : ℕ) → IsOld (standing_for T client xid) → client ≢ 0
old_numbered T client xid old none = by (eqb client 0) (eq-eqb client 0 none) old
  where
    by : (b : Bool) → b ≡ true → IsOld (cond b New (standing T client xid)) → ⊥
    by true e wrong = absurd wrong
    by false e wrong = absurd cc

-- ---- Outstanding or not

none_out : (os : List OutstandingCall) (xid : ℕ) → is_outstanding os xid ≡ false → AllByRecursion (λ (o : OutstandingCall). o.xid ≢ xid) os
none_out [] xid e = tt
none_out (o ∷ os) xid e = by (eqb o.xid xid) refl e (none_out os xid)
  where
    by : (b : Bool) → eqb o.xid xid ≡ b → (b || is_outstanding os xid) ≡ false → (is_outstanding os xid ≡ false → AllByRecursion (λ (x : OutstandingCall). x.xid ≢ xid) os) → AllByRecursion (λ (x : OutstandingCall). x.xid ≢ xid) (o ∷ os)
    by true is e later = absurd cc
    by false is e later = ((λ same. (let wrong : true ≡ false = sym (eq-eqb o.xid xid same) ∙ is in cc)), later e)

-- what holds of each accepted call holds of one that was submitted
each_at : (P : AcceptedCall → Type 0) (link : ℕ) (before after : List Mark) (call : Call) (form : Form) (xid : ℕ) → AllByRecursion P (accepted_calls link (before ++ marks.Submit link call form (submissions.Accepted xid) ∷ after)) → P (record { xid = xid; call = call; form = form })
unfolding accepted_calls
each_at P link [] after call form xid h = by (eqb link link) (eq-eqb link link refl) h
  where
    a : AcceptedCall
    a = record { xid = xid; call = call; form = form }

    by : (b : Bool) → b ≡ true → AllByRecursion P (cond b (a ∷ []) [] ++ flat_map (accepted_at link) after) → P a
    by true e h = h.0
    by false e h = absurd cc
each_at P link (mark ∷ before) after call form xid h =
    each_at P link before after call form xid (each_right P (accepted_at link mark) (flat_map (accepted_at link) (before ++ marks.Submit link call form (submissions.Accepted xid) ∷ after)) h)

-- ---- A server that executed a call has had an event

pub executed_some : (link : ℕ) (before after : List Mark) (xid : ℕ) (moment : Moment) (payload : List ℕ) (place : ℕ) (reply : List ℕ) → events link Responder (before ++ marks.Execute link xid moment payload place reply ∷ after) ≢ []
executed_some link before after xid moment payload place reply none =
    let event : RunEvent = CallExecuted (record { xid = xid; moment = moment; payload = payload; place = place; reply = reply }) in
    let all = event_at_mark link Responder before (marks.Execute link xid moment payload place reply) event after (execute_event link before xid moment payload place reply) in
    none_is (events link Responder before) event all.0 (sym all.1 ∙ none)

-- ---- A call that is submitted as a new one

record IsNewOn (opened : ℕ → LinkParameters) (run : List Mark) (link xid : ℕ) : Type 0 where
  call : Call
  form : Form
  before : List Mark
  after : List Mark
  is : run ≡ before ++ marks.Submit link call form (submissions.Accepted xid) ∷ after
  new : (opened link).first_xid ≤ xid

-- a call that is sent again was one on an earlier link
record WasNewOn (opened : ℕ → LinkParameters) (run : List Mark) (link : BegunLink) (xid : ℕ) : Type 0 where
  first : ℕ
  old : BegunLink
  links : List BegunLink
  goes_on : GoesOn opened run first link (old ∷ links)
  submitted : IsNewOn opened run first xid

was_new : (opened : ℕ → LinkParameters) (run : List Mark) (first : ℕ) → (opened first).resumed ≡ [] → (link : BegunLink) (links : List BegunLink) → AllByRecursion (LinkKeeps opened run) links → GoesOn opened run first link links
    → (xid : ℕ) (call : Call) (form : Form) → IsOneOf (opened link.link).resumed xid call form → WasNewOn opened run link xid
was_new opened run first none link [] keeps same xid call form one =
    absurd (subst (λ (rs : List ResumedCall). IsOneOf rs xid call form) (ap (λ (l : ℕ). (opened l).resumed) same ∙ none) one)
was_new opened run first none link (old ∷ links) (keeps, others) (n, g) xid call form one =
    by (λ other way again. was_new opened run first none old links others g xid other way again)
    (kept_of (opened old.link) old.link link.began xid call form (subst (λ (rs : List ResumedCall). IsOneOf rs xid call form) (next_opening opened run old link n).1 one))
  where
    further : WasNewOn opened run old xid → WasNewOn opened run link xid
    further w = record { first = w.first; old = old; links = w.old ∷ w.links; goes_on = (n, w.goes_on); submitted = w.submitted }

    by : ((other : Call) (way : Form) → IsOneOf (opened old.link).resumed xid other way → WasNewOn opened run old xid) → WasOutstanding old.link link.began xid call form ⊎ IsOneOf (opened old.link).resumed xid call form → WasNewOn opened run link xid
    by older (inr waits) = further (older call form waits)
    by older (inl was) = here (new_or_again (opened old.link) old.link own.before call own.form xid accepted)
      where
        own : HasSubmit old.link link.began xid call
        own = was.own

        at : MarkAt link.began own.before (marks.Submit old.link call own.form (submissions.Accepted xid))
        at = own.at

        rest : List Mark
        rest = at.after ++ n.reopened.after

        there : run ≡ own.before ++ marks.Submit old.link call own.form (submissions.Accepted xid) ∷ rest
        there = n.reopened.is_cut ∙ ap (λ (r : List Mark). r ++ n.reopened.after) at.is ∙ append_assoc own.before (marks.Submit old.link call own.form (submissions.Accepted xid) ∷ at.after) n.reopened.after

        accepted : IsAccepted (opened old.link) old.link own.before call own.form xid
        accepted = at_mark (AskedMark IsPrefixOf (opened old.link) old.link) run own.before (marks.Submit old.link call own.form (submissions.Accepted xid)) rest there keeps.asked refl

        here : ((opened old.link).first_xid ≤ xid) ⊎ IsOneOf (opened old.link).resumed xid call own.form → WasNewOn opened run link xid
        here (inl new) = record { first = old.link; old = old; links = []; goes_on = (n, refl); submitted = record { call = call; form = own.form; before = own.before; after = rest; is = there; new = new } }
        here (inr again) = further (older call own.form again)

-- ---- A call that a client keeps isn't far below one that it submitted later

module _ (opened : ℕ → LinkParameters) (run : List Mark) (typed : IsTyped run) (first : ℕ) (accepts : AcceptsByRule (opened first) first run) (top xid : ℕ) (far : xid + window ≤ top) (new : IsNewOn opened run first top) where
  -- on the link on which that was submitted
  kept_near : (next_opened : LinkParameters) (cut : List Mark) → IsOpened (opened first) → AskedSoFar (opened first) first run → IsReopened (opened first) next_opened first run cut
      → (call : Call) (form : Form) → IsOneOf (calls_kept (opened first) first cut) xid call form → ⊥
  kept_near next_opened cut opens asked r call form one = by (is_outstanding k.outstanding xid) refl
    where
      submit : Mark
      submit = marks.Submit first new.call new.form (submissions.Accepted top)

      in_time : InFirst cut new.before submit
      in_time = submitted_in_time (opened first) next_opened first run cut new.before new.after new.call new.form top r new.is

      k : ClientState
      k = (client (opened first) first new.before).state

      typed_then : IsTyped new.before
      typed_then = before_mark TypedMark run new.before submit new.after new.is typed

      asked_then : AskedSoFar (opened first) first new.before
      asked_then = before_mark (AskedMark IsPrefixOf (opened first) first) run new.before submit new.after new.is asked

      accepted : IsAccepted (opened first) first new.before new.call new.form top
      accepted = at_mark (AskedMark IsPrefixOf (opened first) first) run new.before submit new.after new.is asked refl

      typed_cut : IsTyped cut
      typed_cut = AtEachMark_first TypedMark [] cut r.after (subst IsTyped r.is_cut typed)

      asked_cut : AskedSoFar (opened first) first cut
      asked_cut = AtEachMark_first (AskedMark IsPrefixOf (opened first) first) [] cut r.after (subst (AskedSoFar (opened first) first) r.is_cut asked)

      by : (b : Bool) → is_outstanding k.outstanding xid ≡ b → ⊥
      by true out =
          (let near = near_outstanding (opened first) first run new.before new.after new.call new.form top xid opens (rises_of (opened first) first new.before opens typed_then asked_then) accepts r.numbered new.is new.new out in
          omega (arith, near, far))
      by false out =
          let next = accepted.next in
          let gone : IsGone k.outstanding (next_sent_xid k) xid = (omega (arith, next, far), none_out k.outstanding xid out) in
          let there : cut ≡ new.before ++ submit ∷ in_time.rest = in_time.is in
          let later = gone_later (opened first) first new.before (submit ∷ in_time.rest) xid (subst IsTyped there typed_cut) (subst (AskedSoFar (opened first) first) there asked_cut) gone in
          let then : IsGone (client (opened first) first cut).state.outstanding (next_sent_xid (client (opened first) first cut).state) xid =
          subst (λ (r : List Mark). IsGone (client (opened first) first r).state.outstanding (next_sent_xid (client (opened first) first r).state) xid) (sym there) later in
          not_kept (opened first) first cut xid call form then
          (waits_above (accepted_calls first cut) (client (opened first) first cut).state (rises_of (opened first) first cut opens typed_cut asked_cut)) one

  -- and on no later one
  resumed_near : (link old : BegunLink) (links : List BegunLink) → AllByRecursion (LinkKeeps opened run) (old ∷ links) → GoesOn opened run first link (old ∷ links) → (call : Call) (form : Form) → IsOneOf (opened link.link).resumed xid call form → ⊥
  resumed_near link old [] (keeps, none) (n, same) call form one =
      let kept : IsOneOf (calls_kept (opened old.link) old.link link.began) xid call form = subst (λ (rs : List ResumedCall). IsOneOf rs xid call form) (next_opening opened run old link n).1 one in
      kept_near (opened link.link) link.began (subst (λ (l : ℕ). IsOpened (opened l)) same keeps.opens) (subst (λ (l : ℕ). AskedSoFar (opened l) l run) same keeps.asked)
      (subst (λ (l : ℕ). IsReopened (opened l) (opened link.link) l run link.began) same n.reopened) call form
      (subst (λ (l : ℕ). IsOneOf (calls_kept (opened l) l link.began) xid call form) same kept)
  resumed_near link old (older ∷ links) (keeps, others) (n, g) call form one =
      by (λ other way again. resumed_near old older links others g other way again)
      (kept_of (opened old.link) old.link link.began xid call form (subst (λ (rs : List ResumedCall). IsOneOf rs xid call form) (next_opening opened run old link n).1 one))
    where
      below : xid < (opened old.link).first_xid
      below = (let above = xid_below opened run first new.before new.after new.call new.form top new.is old older links others g in omega (arith, above, far))

      by : ((other : Call) (way : Form) → IsOneOf (opened old.link).resumed xid other way → ⊥) → WasOutstanding old.link link.began xid call form ⊎ IsOneOf (opened old.link).resumed xid call form → ⊥
      by earlier (inl was) = (let again = again_on opened run typed old.link link.began n.reopened.after xid call form n.reopened.is_cut keeps.asked below was in earlier again.0 again.1.0 again.1.1)
      by earlier (inr waits) = earlier call form waits

-- ---- The old call

module _ (opened : ℕ → LinkParameters) (link : ℕ) (run before after : List Mark) (xid at : ℕ) (typed : IsTyped run) (opens : OpenedWithEarlier opened run link) (matched : MatchedWithEarlier opened run link) (accepts : AcceptsWithEarlier opened run link)
    (fits : (opened link).client.number < 2 ^ 64) (is : run ≡ before ++ marks.Told link (told.Old xid at) ∷ after) (moment : Moment) (reply : List ℕ) (reply_bytes : IsBytes reply) where
  abbrev refusal : Mark
  refusal = marks.Told link (told.Old xid at)

  itself : IsEarlier opened run link link
  itself = record { began = []; links = []; goes_on = refl }

  far : MatchedSoFar (opened link) link run
  far = matched link itself

  far_then : MatchedSoFar (opened link) link before
  far_then = far_before (opened link) link run before refusal after is far

  typed_then : IsTyped before
  typed_then = before_mark TypedMark run before refusal after is typed

  refused : IsRefusedAsOld (opened link) link before xid at
  refused = at_mark (ServedMark IsPrefixOf (opened link) link) run before refusal after is far.served refl

  numbered : (opened link).client.number ≢ 0
  numbered none = by (heard_or_none (opened link) link before typed_then far_then fits)
    where
      by : (number_heard before link ≡ 0) ⊎ (number_heard before link ≡ (opened link).client.number) → ⊥
      by (inl zero) = refused.numbered zero
      by (inr own) = refused.numbered (own ∙ none)

  -- the server could have executed it
  abbrev execute : Mark
  execute = marks.Execute link xid moment refused.call.payload 0 reply

  abbrev other_run : List Mark
  other_run = before ++ execute ∷ []

  other_typed : IsTyped other_run
  other_typed = AtEachMark_more TypedMark [] before execute typed_then reply_bytes

  other_far : MatchedSoFar (opened link) link other_run
  other_far = record {
    asked = AtEachMark_more (AskedMark IsPrefixOf (opened link) link) [] before execute far_then.asked tt;
    served = AtEachMark_more (ServedMark IsPrefixOf (opened link) link) [] before execute far_then.served (λ own. record { call = refused.call; is_next = refused.is_next; own = refused.own; conveyed = refl });
    matched = AtEachMark_more (MatchedMark link) [] before execute far_then.matched tt;
  }

  own : SubmittedBefore link other_run before xid
  own = submitted_before (opened link) link other_run before [] xid moment refused.call.payload 0 reply other_typed other_far refl

  abbrev own_submit : Mark
  own_submit = marks.Submit link own.call own.form (submissions.Accepted xid)

  own_is : run ≡ own.before ++ own_submit ∷ (own.mid ++ refusal ∷ after)
  own_is = is ∙ ap (λ (r : List Mark). r ++ refusal ∷ after) own.within ∙ append_assoc own.before (own_submit ∷ own.mid) (refusal ∷ after)

  own_accepted : IsAccepted (opened link) link own.before own.call own.form xid
  own_accepted = at_mark (AskedMark IsPrefixOf (opened link) link) run own.before own_submit (own.mid ++ refusal ∷ after) own_is far.asked refl

  keeps_of : (first : ℕ) (began : List Mark) (links : List BegunLink) → GoesOn opened run first (record { link = link; began = began }) links → AllByRecursion (LinkKeeps opened run) links
  keeps_of first began links g =
      each_earlier opened run first (record { link = link; began = began }) links (LinkKeeps opened run) g
      (λ earlier part h.
      (let e : IsEarlier opened run earlier.link link = record { began = began; links = part; goes_on = h } in
      record { opens = opens earlier.link e; asked = (matched earlier.link e).asked }))

  -- no call far above it was a new one on a link before this one
  not_earlier : (first top : ℕ) → xid + window ≤ top → IsNewOn opened run first top → IsLater opened run first link → ⊥
  not_earlier first top above new l = by (new_or_again (opened link) link own.before own.call own.form xid own_accepted)
    where
      last : BegunLink
      last = record { link = link; began = l.began }

      keeps : AllByRecursion (LinkKeeps opened run) (l.old ∷ l.links)
      keeps = keeps_of first l.began (l.old ∷ l.links) l.goes_on

      by : ((opened link).first_xid ≤ xid) ⊎ IsOneOf (opened link).resumed xid own.call own.form → ⊥
      by (inl least) = (let below = xid_below opened run first new.before new.after new.call new.form top new.is last l.old l.links keeps l.goes_on in omega (arith, least, below, above))
      by (inr again) =
          resumed_near opened run typed first (accepts first (later_earlier opened run first link l)) top xid above new last l.old l.links keeps l.goes_on own.call own.form again

  -- nor on this link
  not_here : (top : ℕ) → xid + window ≤ top → (front mid : List Mark) (call : Call) (form : Form) → before ≡ front ++ marks.Submit link call form (submissions.Accepted top) ∷ mid → (opened link).first_xid ≤ top → ⊥
  not_here top above front mid call form there new = by (order front submit mid own.before own_submit own.mid (sym there ∙ own.within))
    where
      submit : Mark
      submit = marks.Submit link call form (submissions.Accepted top)

      whole : run ≡ front ++ submit ∷ (mid ++ refusal ∷ after)
      whole = is ∙ ap (λ (r : List Mark). r ++ refusal ∷ after) there ∙ append_assoc front (submit ∷ mid) (refusal ∷ after)

      far_front : MatchedSoFar (opened link) link front
      far_front = far_before (opened link) link run front submit (mid ++ refusal ∷ after) whole far

      typed_front : IsTyped front
      typed_front = before_mark TypedMark run front submit (mid ++ refusal ∷ after) whole typed

      k : ClientState
      k = (client (opened link) link front).state

      by_call : (is_outstanding k.outstanding xid ≡ true) ⊎ WasHeard (opened link) (events link Initiator front) xid → ⊥
      by_call (inl out) =
          (let near = near_outstanding (opened link) link run front (mid ++ refusal ∷ after) call form top xid (opens link itself) (rises_of (opened link) link front (opens link itself) typed_front far_front.asked) (accepts link itself) numbered whole new out in
          omega (arith, near, above))
      by_call (inr heard) =
          let m = message_said (opened link) link front xid typed_front far_front heard in
          not_after_message (opened link) link other_run front (submit ∷ mid) [] xid moment refused.call.payload 0 reply m.before m.message other_typed other_far typed_front far_front m.said m.own
          (ap (λ (r : List Mark). r ++ execute ∷ []) there ∙ append_assoc front (submit ∷ mid) (execute ∷ []))

      by : Order front submit mid own.before own_submit own.mid → ⊥
      by (Here same mark) =
          let both : marks.Submit link call form (submissions.Accepted top) ≡ marks.Submit link own.call own.form (submissions.Accepted xid) = mark in
          let equal : top ≡ xid = cc in
          omega (arith, equal, above)
      by (Behind between later then) =
          (let lt = xids_differ IsPrefixOf (opened link) link run front between (own.mid ++ refusal ∷ after) call own.call form own.form top xid
          (own_is ∙ ap (λ (r : List Mark). r ++ own_submit ∷ (own.mid ++ refusal ∷ after)) later ∙ append_assoc front (submit ∷ between) (own_submit ∷ (own.mid ++ refusal ∷ after))) far.asked in
          omega (arith, lt, above))
      by (Before between earlier then) =
          by_call (each_at (λ (a : AcceptedCall). (is_outstanding k.outstanding a.xid ≡ true) ⊎ WasHeard (opened link) (events link Initiator front) a.xid) link own.before between own.call own.form xid
          (subst (λ (r : List Mark). AllByRecursion (λ (a : AcceptedCall). (is_outstanding k.outstanding a.xid ≡ true) ⊎ WasHeard (opened link) (events link Initiator front) a.xid) (accepted_calls link r)) earlier
          (heard_of (opened link) link front typed_front far_front)))

  -- so no entry of an earlier link, or of this one, is far above it
  not_executed : (first other : ℕ) → (opened first).resumed ≡ [] → IsEarlier opened run first other → IsEarlier opened run other link → (top : ℕ) → xid + window ≤ top
      → (front mid : List Mark) (now : Moment) (payload : List ℕ) (place : ℕ) (answer : List ℕ) → before ≡ front ++ marks.Execute other top now payload place answer ∷ mid → ⊥
  not_executed first other none begins e top above front mid now payload place answer there = by (new_or_again (opened other) other s.before s.call s.form top accepted)
    where
      executed : Mark
      executed = marks.Execute other top now payload place answer

      whole : run ≡ front ++ executed ∷ (mid ++ refusal ∷ after)
      whole = is ∙ ap (λ (r : List Mark). r ++ refusal ∷ after) there ∙ append_assoc front (executed ∷ mid) (refusal ∷ after)

      s : SubmittedBefore other run front top
      s = submitted_before (opened other) other run front (mid ++ refusal ∷ after) top now payload place answer typed (matched other e) whole

      accepted : IsAccepted (opened other) other s.before s.call s.form top
      accepted = at_mark (AskedMark IsPrefixOf (opened other) other) run s.before (marks.Submit other s.call s.form (submissions.Accepted top)) s.after s.is (matched other e).asked refl

      here : link ≡ other → (opened other).first_xid ≤ top → ⊥
      here same new =
          not_here top above s.before (s.mid ++ executed ∷ mid) s.call s.form
          (there ∙ ap (λ (r : List Mark). r ++ executed ∷ mid) s.within ∙ append_assoc s.before (marks.Submit other s.call s.form (submissions.Accepted top) ∷ s.mid) (executed ∷ mid)
          ∙ ap (λ (l : ℕ). s.before ++ marks.Submit l s.call s.form (submissions.Accepted top) ∷ (s.mid ++ executed ∷ mid)) (sym same))
          (subst (λ (l : ℕ). (opened l).first_xid ≤ top) (sym same) new)

      by_place : (opened other).first_xid ≤ top → (link ≡ other) ⊎ IsLater opened run other link → ⊥
      by_place new (inl same) = here same new
      by_place new (inr l) = not_earlier other top above (record { call = s.call; form = s.form; before = s.before; after = s.after; is = s.is; new = new }) l

      keeps : AllByRecursion (LinkKeeps opened run) begins.links
      keeps =
          each_earlier opened run first (record { link = other; began = begins.began }) begins.links (LinkKeeps opened run) begins.goes_on
          (λ earlier part h.
          (let y : IsEarlier opened run earlier.link link = earlier_than opened run other s.before s.after s.call s.form top s.is earlier.link link (record { began = begins.began; links = part; goes_on = h }) e in
          record { opens = opens earlier.link y; asked = (matched earlier.link y).asked }))

      by : ((opened other).first_xid ≤ top) ⊎ IsOneOf (opened other).resumed top s.call s.form → ⊥
      by (inl new) = by_place new (same_or_later opened run other link e)
      by (inr again) =
          let w = was_new opened run first none (record { link = other; began = begins.began }) begins.links keeps begins.goes_on top s.call s.form again in
          not_earlier w.first top above w.submitted
          (later_than opened run other s.before s.after s.call s.form top s.is w.first link (record { began = begins.began; old = w.old; links = w.links; goes_on = w.goes_on }) e)

pub no_call_is_old : NoCallIsOld
unfolding tagged_journal
no_call_is_old reply_to adds opened first link T run before xid at typed journaled few clients begins opens matched accepts fits told_at =
    by (clients a.link some same_client)
  where
    number : ℕ → ℕ
    number = number_heard run

    J : List TaggedEntry
    J = journal_from reply_to adds number [] before

    refusal : Mark
    refusal = marks.Told link (told.Old xid at)

    is_old : IsOld (standing_for J (number link) xid)
    is_old = at_mark (NumberedMark (server_with reply_to adds) number) run before refusal told_at.after told_at.is journaled.each

    some : number link ≢ 0
    some = old_numbered J (number link) xid is_old

    above : HasFar J (number link) (xid + window)
    above = old_far J (number link) xid is_old

    a : AddedBy reply_to adds number [] before above.place above.own
    a = entry_added reply_to adds number before above.place above.own few above.there

    tag : IsTagOf (number a.link) a.xid a.entry above.own
    tag = tag_of (number a.link) a.xid a.entry above.own a.own (λ e. some (sym above.client_is ∙ e))

    same_client : number a.link ≡ number link
    same_client = tag.client_is ∙ above.client_is

    far : xid + window ≤ a.xid
    far = (let le = above.far in let same = tag.xid_is in omega (arith, le, same))

    executed : Mark
    executed = marks.Execute a.link a.xid a.moment a.payload a.at a.reply

    in_run : run ≡ a.before ++ executed ∷ (a.after ++ refusal ∷ told_at.after)
    in_run = told_at.is ∙ ap (λ (r : List Mark). r ++ refusal ∷ told_at.after) a.is ∙ append_assoc a.before (executed ∷ a.after) (refusal ∷ told_at.after)

    reply_bytes : IsBytes a.reply
    reply_bytes = at_mark TypedMark run a.before executed (a.after ++ refusal ∷ told_at.after) in_run typed

    wrong : IsEarlier opened run a.link link → ⊥
    wrong e =
        not_executed opened link run before told_at.after xid at typed opens matched accepts fits told_at.is a.moment a.reply reply_bytes first a.link begins.opening.resumed (begins.all a.link same_client) e a.xid far a.before a.after a.moment a.payload a.at a.reply a.is

    left : IsEarlier opened run link a.link → (b : Bool) → eqb a.link link ≡ b → IsLeft opened run link before
    left e true is = absurd (wrong (record { began = []; links = []; goes_on = sym (eqb-true a.link link is) }))
    left e false is = record {
      next = a.link;
      goes_on = e;
      other = λ same. (let no : true ≡ false = sym (eq-eqb a.link link same) ∙ is in cc);
      begun = subst (λ (r : List Mark). events a.link Responder r ≢ []) (sym a.is) (executed_some a.link a.before a.after a.xid a.moment a.payload a.at a.reply);
    }

    by : IsEarlier opened run link a.link ⊎ IsEarlier opened run a.link link → IsLeft opened run link before
    by (inl e) = left e (eqb a.link link) refl
    by (inr e) = absurd (wrong e)
