-- Places follow what callers see, also if a call is sent again: whatever adds its entry comes after its first Submit.
use Rattle.std.proofs.Common.{◌≡◌, ◌≢◌, ℕ, ◌≤◌, List, [], ◌∷◌, ◌++◌, length, Option, refl, sym, ap, subst, ◌∙◌, arith, append_assoc, append-nil, length-append, ◌⊎◌, inl, inr}
use Rattle.std.specs.List.{AllByRecursion}
use Rattle.nr_outside.specs.declared.moment.Moment.{Moment}
use Rattle.nr_wire.specs.declared.hello.Side.TheVariants.{Initiator, Responder}
use Rattle.nr_reduce.specs.declared.call.Call.{Call}
use Rattle.nr_reduce.specs.declared.call.Form.{Form}
use Rattle.nr_reduce.specs.declared.call.Submission.TheVariants as submissions
use Rattle.nr_reduce.specs.declared.mark.Entry.{Entry}
use Rattle.nr_reduce.specs.declared.mark.LinkParameters.{LinkParameters}
use Rattle.nr_reduce.specs.declared.mark.Mark.{Mark}
use Rattle.nr_reduce.specs.declared.mark.Mark.TheVariants as marks
use Rattle.nr_reduce.specs.declared.mark.TaggedEntry.{TaggedEntry}
use Rattle.nr_reduce.specs.AtEachMark.{AtEachMark}
use Rattle.nr_reduce.specs.Events.{RunEvent, events}
use Rattle.nr_reduce.specs.Events.RunEvent.{CallSubmitted, CallExecuted}
use Rattle.nr_reduce.specs.History.{bytes_received}
use Rattle.nr_reduce.specs.KeepsCalls.{AddsOneAtMost}
use Rattle.nr_reduce.specs.NumberedJournal.{Standing, standing_for, tagged_journal, number_heard, IsExecutedBy, NumberedMark}
use Rattle.nr_reduce.specs.NumberedJournal.Standing.{Old, Kept, New}
use Rattle.nr_laws.specs.MarkAt.{MarkAt}
use Rattle.nr_laws.specs.MatchedSoFar.{MatchedSoFar}
use Rattle.nr_laws.specs.OnceEach.{BegunLink, GoesOn, IsEarlier, MatchedWithEarlier, OpenedWithEarlier, IsLinkOf, PlacesFollowByNumber}
use Rattle.nr_laws.specs.PlainLinks.{server_with}
use Rattle.nr_laws.specs.Typed.{IsTyped}
use Rattle.nr_laws.proofs.EarlierLinks.{InFirst, AfterFirst, mark_in_first, event_at_mark, submit_event, execute_event, none_is, submitted_in_time, LinkKeeps, xid_below, each_earlier, LeftBy, left_by}
use Rattle.nr_laws.proofs.ExecutedPayloads.{executes_have_plans}
use Rattle.nr_laws.proofs.Following.{executed_before}
use Rattle.nr_laws.proofs.JournalPlaces.{journal_from, journal_parts, journal_more, kept_entry}
use Rattle.nr_laws.proofs.KeptEntries.{tag_of, kept_numbered, entry_added}
use Rattle.nr_laws.proofs.LaterMarks.{mark_later}
use Rattle.nr_laws.proofs.LinkedChains.{IsLater, same_or_later, earlier_than}
use Rattle.nr_laws.proofs.OnceByXid.{at_mark, one_submit}

-- ---- After a mark of a link that was left

-- what comes after a link began comes after all that its client did on a link before it
after_left : (opened : ℕ → LinkParameters) (run front began : List Mark) (first : ℕ) (call : Call) (form : Form) (xid : ℕ) (back p : List Mark) → run ≡ front ++ marks.Submit first call form (submissions.Accepted xid) ∷ back
    → LeftBy opened run first began → AfterFirst began p → AfterFirst front p
after_left opened run front began first call form xid back p here l a =
    let submit : Mark = marks.Submit first call form (submissions.Accepted xid) in
    let f = submitted_in_time (opened first) l.next first run l.cut front back call form xid l.left here in
    record {
      between = submit ∷ (f.rest ++ (l.rest ++ a.between));
      is = a.is ∙ ap (λ (r : List Mark). r ++ a.between) (l.is ∙ ap (λ (r : List Mark). r ++ l.rest) f.is)
          ∙ append_assoc (front ++ submit ∷ f.rest) l.rest a.between ∙ append_assoc front (submit ∷ f.rest) (l.rest ++ a.between);
    }

after_more : (front p q : List Mark) → AfterFirst front p → AfterFirst front (p ++ q)
after_more front p q a = record { between = a.between ++ q; is = ap (λ (r : List Mark). r ++ q) a.is ∙ append_assoc front a.between q }

-- ---- The Submit of an Execute

pub record SubmittedBefore (link : ℕ) (run then : List Mark) (xid : ℕ) : Type 0 where
  pub call : Call
  pub form : Form
  pub before : List Mark
  pub mid : List Mark
  pub after : List Mark
  pub within : then ≡ before ++ marks.Submit link call form (submissions.Accepted xid) ∷ mid
  pub is : run ≡ before ++ marks.Submit link call form (submissions.Accepted xid) ∷ after

pub submitted_before : (opened : LinkParameters) (link : ℕ) (run then after : List Mark) (xid : ℕ) (moment : Moment) (payload : List ℕ) (place : ℕ) (reply : List ℕ) → IsTyped run → MatchedSoFar opened link run
    → run ≡ then ++ marks.Execute link xid moment payload place reply ∷ after → SubmittedBefore link run then xid
submitted_before opened link run then after xid moment payload place reply typed far is =
    let execute : Mark = marks.Execute link xid moment payload place reply in
    let there : MarkAt run then execute = record { after = after; is = is } in
    let p = executes_have_plans opened link run then xid moment payload place reply typed far there in
    let h = p.1 in
    let first = h.at in
    let submit : Mark = marks.Submit link h.call h.form (submissions.Accepted xid) in
    let at : MarkAt run h.before submit = mark_later run then execute after h.before submit is h.at in
    record { call = h.call; form = h.form; before = h.before; mid = first.after; after = at.after; within = first.is; is = at.is }

module _ (opened : ℕ → LinkParameters) (run : List Mark) (typed : IsTyped run) (other : ℕ) (front back : List Mark) (call : Call) (form : Form) (xid : ℕ)
    (here : run ≡ front ++ marks.Submit other call form (submissions.Accepted xid) ∷ back) where
  -- ---- A later link submits the call after its first Submit

  later_submit : (link : ℕ) → MatchedSoFar (opened other) other run → IsEarlier opened run other link → (p q : List Mark) (again : Call) (way : Form) → run ≡ p ++ marks.Submit link again way (submissions.Accepted xid) ∷ q → AfterFirst front p
  later_submit link far e p q again way there = by e.links e.goes_on
    where
      submit : Mark
      submit = marks.Submit link again way (submissions.Accepted xid)

      last : BegunLink
      last = record { link = link; began = e.began }

      new : (old : BegunLink) (links : List BegunLink) → GoesOn opened run other last (old ∷ links) → AfterFirst front p
      new old links (n, g) = by_place (mark_in_first run e.began n.reopened.after p submit q n.reopened.is_cut there)
        where
          by_place : InFirst e.began p submit ⊎ AfterFirst e.began p → AfterFirst front p
          by_place (inr a) = after_left opened run front e.began other call form xid back p here (left_by opened run other last old links (n, g)) a
          by_place (inl f) =
              let event : RunEvent = CallSubmitted (length (bytes_received link Initiator p)) (record { xid = xid; call = again; form = way }) in
              let all = event_at_mark link Initiator p submit event f.rest (submit_event link p again way xid) in
              absurd (none_is (events link Initiator p) event all.0 (sym all.1 ∙ ap (λ (r : List Mark). events link Initiator r) (sym f.is) ∙ n.fresh.0))

      by : (links : List BegunLink) → GoesOn opened run other last links → AfterFirst front p
      by [] same =
          let own : run ≡ p ++ marks.Submit other again way (submissions.Accepted xid) ∷ q = there ∙ ap (λ (n : ℕ). p ++ marks.Submit n again way (submissions.Accepted xid) ∷ q) same in
          let at : front ≡ p = one_submit (opened other) other run front p back q call again form way xid xid far refl here own in
          record { between = []; is = sym at ∙ sym (append-nil front) }
      by (old ∷ links) g = new old links g

  later_execute : (link : ℕ) → MatchedSoFar (opened other) other run → MatchedSoFar (opened link) link run → IsEarlier opened run other link → (p q : List Mark) (moment : Moment) (payload : List ℕ) (place : ℕ) (reply : List ℕ)
      → run ≡ p ++ marks.Execute link xid moment payload place reply ∷ q → AfterFirst front p
  later_execute link far near e p q moment payload place reply there =
      let s = submitted_before (opened link) link run p q xid moment payload place reply typed near there in
      let a = later_submit link far e s.before s.after s.call s.form s.is in
      subst (AfterFirst front) (sym s.within) (after_more front s.before (marks.Submit link s.call s.form (submissions.Accepted xid) ∷ s.mid) a)

  -- ---- So does a link that goes on from one that executed it

  beyond : (link next : ℕ) → MatchedSoFar (opened other) other run → MatchedSoFar (opened link) link run → IsEarlier opened run other link → (s t : List Mark) (moment : Moment) (payload : List ℕ) (place : ℕ) (reply : List ℕ)
      → run ≡ s ++ marks.Execute link xid moment payload place reply ∷ t → IsEarlier opened run link next → (p q : List Mark) (now : Moment) (bytes : List ℕ) (at : ℕ) (answer : List ℕ)
      → run ≡ p ++ marks.Execute next xid now bytes at answer ∷ q → AfterFirst front p
  beyond link next far near e s t moment payload place reply executed n p q now bytes at answer there = by n.links n.goes_on
    where
      execute : Mark
      execute = marks.Execute next xid now bytes at answer

      last : BegunLink
      last = record { link = next; began = n.began }

      later : (old : BegunLink) (links : List BegunLink) → GoesOn opened run link last (old ∷ links) → AfterFirst front p
      later old links (m, g) = by_place (mark_in_first run n.began m.reopened.after p execute q m.reopened.is_cut there)
        where
          by_place : InFirst n.began p execute ⊎ AfterFirst n.began p → AfterFirst front p
          by_place (inr a) =
              let x = submitted_before (opened link) link run s t xid moment payload place reply typed near executed in
              let first = later_submit link far e x.before x.after x.call x.form x.is in
              let own = after_left opened run x.before n.began link x.call x.form xid x.after p x.is (left_by opened run link last old links (m, g)) a in
              subst (AfterFirst front) (sym own.is) (after_more front x.before own.between first)
          by_place (inl f) =
              let event : RunEvent = CallExecuted (record { xid = xid; moment = now; payload = bytes; place = at; reply = answer }) in
              let all = event_at_mark next Responder p execute event f.rest (execute_event next p xid now bytes at answer) in
              absurd (none_is (events next Responder p) event all.0 (sym all.1 ∙ ap (λ (r : List Mark). events next Responder r) (sym f.is) ∙ m.fresh.1))

      by : (links : List BegunLink) → GoesOn opened run link last links → AfterFirst front p
      by [] same = later_execute link far near e p q now bytes at answer (there ∙ ap (λ (l : ℕ). p ++ marks.Execute l xid now bytes at answer ∷ q) same)
      by (old ∷ links) g = later old links g

-- ---- Places by the lengths of journals

module _ (reply_to : List Entry → Moment → List ℕ → Option (List ℕ)) (adds : Moment → List ℕ → List ℕ → List Entry) (number : ℕ → ℕ) where
  rises : (front p : List Mark) → AfterFirst front p → length (journal_from reply_to adds number [] front) ≤ length (journal_from reply_to adds number [] p)
  rises front p a =
      let J : List TaggedEntry = journal_from reply_to adds number [] front in
      let more = journal_more reply_to adds number J a.between in
      let all : journal_from reply_to adds number [] p ≡ J ++ more.0 = ap (λ (r : List Mark). journal_from reply_to adds number [] r) a.is ∙ journal_parts reply_to adds number [] front a.between ∙ more.1 in
      omega (arith, ap (λ (T : List TaggedEntry). length T) all, length-append J more.0)

  place_within : (run front after : List Mark) (link xid : ℕ) (moment : Moment) (payload : List ℕ) (place : ℕ) (reply : List ℕ) → AtEachMark (NumberedMark (server_with reply_to adds) number) [] run
      → run ≡ front ++ marks.Execute link xid moment payload place reply ∷ after → place ≤ length (journal_from reply_to adds number [] front)
  unfolding tagged_journal
  place_within run front after link xid moment payload place reply each is =
      by (standing_for J (number link) xid) (at_mark (NumberedMark (server_with reply_to adds) number) run front (marks.Execute link xid moment payload place reply) after is each)
    where
      J : List TaggedEntry
      J = journal_from reply_to adds number [] front

      by : (s : Standing) → IsExecutedBy (server_with reply_to adds) J s moment payload place reply → place ≤ length J
      by (Old top) law = absurd law
      by (Kept at) law = (let k = law.1 in let own = k.is_place in omega (arith, own, ap (λ (T : List TaggedEntry). length T) k.is_cut, length-append k.earlier (k.own ∷ k.later)))
      by New law = (let own = law.0 in omega (arith, own))

-- ---- The call that was submitted later

module _ (reply_to : List Entry → Moment → List ℕ → Option (List ℕ)) (adds : Moment → List ℕ → List ℕ → List Entry) (opened : ℕ → LinkParameters) (run : List Mark) (typed : IsTyped run) (each : AtEachMark (NumberedMark (server_with reply_to adds) (number_heard run)) [] run)
    (few : AddsOneAtMost adds) (other executing : ℕ) (clients : IsLinkOf opened run (number_heard run executing) executing) (one : IsLinkOf opened run (number_heard run executing) other) (e : IsEarlier opened run other executing) (opens : OpenedWithEarlier opened run executing) (matched : MatchedWithEarlier opened run executing)
    (front back : List Mark) (call : Call) (form : Form) (xid : ℕ) (first : (opened other).first_xid ≤ xid) (here : run ≡ front ++ marks.Submit other call form (submissions.Accepted xid) ∷ back)
    (then after : List Mark) (moment : Moment) (payload : List ℕ) (place : ℕ) (reply : List ℕ) (is : run ≡ then ++ marks.Execute executing xid moment payload place reply ∷ after) where
  abbrev number : ℕ → ℕ
  number = number_heard run

  abbrev execute : Mark
  execute = marks.Execute executing xid moment payload place reply

  abbrev J : List TaggedEntry
  J = journal_from reply_to adds number [] then

  far : MatchedSoFar (opened other) other run
  far = matched other e

  near : MatchedSoFar (opened executing) executing run
  near = matched executing (record { began = []; links = []; goes_on = refl })

  own_after : AfterFirst front then
  own_after = later_execute opened run typed other front back call form xid here executing far near e then after moment payload place reply is

  -- an earlier link that executed it submitted it after its first Submit, too
  earlier_after : (link : ℕ) → number executing ≢ 0 → number link ≡ number executing → IsEarlier opened run link executing → (p q : List Mark) (now : Moment) (bytes : List ℕ) (at : ℕ) (answer : List ℕ) → run ≡ p ++ marks.Execute link xid now bytes at answer ∷ q → AfterFirst front p
  earlier_after link some heard y p q now bytes at answer there = by (one link some heard)
    where
      after_first : IsEarlier opened run other link → AfterFirst front p
      after_first between = later_execute opened run typed other front back call form xid here link far (matched link y) between p q now bytes at answer there

      -- it isn't before the link of the first Submit, where the xid is a new one
      not_before : IsLater opened run link other → ⊥
      not_before l = (let below = xid_below opened run link s.before s.after s.call s.form xid s.is last l.old l.links keeps l.goes_on in omega (arith, below, first))
        where
          s : SubmittedBefore link run p xid
          s = submitted_before (opened link) link run p q xid now bytes at answer typed (matched link y) there

          last : BegunLink
          last = record { link = other; began = l.began }

          keeps : AllByRecursion (LinkKeeps opened run) (l.old ∷ l.links)
          keeps =
              each_earlier opened run link last (l.old ∷ l.links) (LinkKeeps opened run) l.goes_on
              (λ earlier part h.
              (let z : IsEarlier opened run earlier.link executing = earlier_than opened run other front back call form xid here earlier.link executing (record { began = l.began; links = part; goes_on = h }) e in
              record { opens = opens earlier.link z; asked = (matched earlier.link z).asked }))

      by_place : (other ≡ link) ⊎ IsLater opened run link other → AfterFirst front p
      by_place (inl same) = after_first (record { began = []; links = []; goes_on = sym same })
      by_place (inr l) = absurd (not_before l)

      by : IsEarlier opened run other link ⊎ IsEarlier opened run link other → AfterFirst front p
      by (inl between) = after_first between
      by (inr before) = by_place (same_or_later opened run link other before)

  entry_after : (at : ℕ) → standing_for (tagged_journal (server_with reply_to adds) number then) (number executing) xid ≡ Kept at → length (journal_from reply_to adds number [] front) ≤ at
  unfolding tagged_journal
  entry_after at kept =
      let some = kept_numbered J (number executing) xid at kept in
      let entry = kept_entry J (number executing) xid at kept in
      let a = entry_added reply_to adds number then at entry.own few entry.there in
      let tag = tag_of (number a.link) a.xid a.entry entry.own a.own (λ e. some (sym entry.client_is ∙ e)) in
      let same_client : number a.link ≡ number executing = tag.client_is ∙ entry.client_is in
      let same_xid : a.xid ≡ xid = tag.xid_is ∙ entry.xid_is in
      let earliest : Mark = marks.Execute a.link xid a.moment a.payload a.at a.reply in
      let there : then ≡ a.before ++ earliest ∷ a.after = a.is ∙ ap (λ (x : ℕ). a.before ++ marks.Execute a.link x a.moment a.payload a.at a.reply ∷ a.after) same_xid in
      let in_run : run ≡ a.before ++ earliest ∷ (a.after ++ execute ∷ after) = is ∙ ap (λ (r : List Mark). r ++ execute ∷ after) there ∙ append_assoc a.before (earliest ∷ a.after) (execute ∷ after) in
      let follows = by a.link some same_client a.before (a.after ++ execute ∷ after) a.moment a.payload a.at a.reply in_run (clients a.link some same_client) in
      let longer = rises reply_to adds number front a.before follows in
      let place_is = a.place_is in
      omega (arith, longer, place_is)
    where
      by : (link : ℕ) → number executing ≢ 0 → number link ≡ number executing → (p q : List Mark) (now : Moment) (bytes : List ℕ) (at : ℕ) (answer : List ℕ) → run ≡ p ++ marks.Execute link xid now bytes at answer ∷ q → IsEarlier opened run executing link ⊎ IsEarlier opened run link executing → AfterFirst front p
      by link some heard p q now bytes at answer there (inl later) = beyond opened run typed other front back call form xid here executing link far near e then after moment payload place reply is later p q now bytes at answer there
      by link some heard p q now bytes at answer there (inr earlier) = earlier_after link some heard earlier p q now bytes at answer there

  place_after : length (journal_from reply_to adds number [] front) ≤ place
  unfolding tagged_journal
  place_after = by (standing_for J (number executing) xid) refl (at_mark (NumberedMark (server_with reply_to adds) number) run then execute after is each)
    where
      by : (s : Standing) → standing_for J (number executing) xid ≡ s → IsExecutedBy (server_with reply_to adds) J s moment payload place reply → length (journal_from reply_to adds number [] front) ≤ place
      by (Old top) own law = absurd law
      by (Kept at) own law = (let longer = entry_after at own in let same = law.0 in omega (arith, longer, same))
      by New own law = (let longer = rises reply_to adds number front then own_after in let same = law.0 in omega (arith, longer, same))

pub places_follow_by_number : PlacesFollowByNumber
places_follow_by_number reply_to adds opened link other executing T run before between before_first before_second call form xid yid outcome moment now payload bytes place later reply answer typed journaled few clients one far e opens matched first submit h g =
    let done : Mark = marks.Done link xid outcome in
    let execute : Mark = marks.Execute link xid moment payload place reply in
    let front : List Mark = before ++ done ∷ between in
    let own : Mark = marks.Submit other call form (submissions.Accepted yid) in
    let whole : run ≡ before ++ done ∷ (between ++ own ∷ submit.after) = submit.is ∙ append_assoc before (done ∷ between) (own ∷ submit.after) in
    let came = executed_before (opened link) link run before (between ++ own ∷ submit.after) before_first h.after xid outcome moment payload place reply typed far whole h.is in
    let follows : AfterFirst before_first front = record {
      between = execute ∷ (came.0 ++ done ∷ between);
      is = ap (λ (r : List Mark). r ++ done ∷ between) came.1 ∙ append_assoc before_first (execute ∷ came.0) (done ∷ between);
    } in
    let one_place = place_within reply_to adds (number_heard run) run before_first h.after link xid moment payload place reply journaled.each h.is in
    let longer = rises reply_to adds (number_heard run) before_first front follows in
    let two_place = place_after reply_to adds opened run typed journaled.each few other executing clients one e opens matched front submit.after call form yid first submit.is before_second g.after now bytes later answer g.is in
    omega (arith, one_place, longer, two_place)
