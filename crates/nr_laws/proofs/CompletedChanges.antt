-- On matched links a reply that is handed over, and that adds an entry, has its one entry: its call was executed as a new one, or it was one before
-- that, on this link or an earlier one, and has kept its entry.
use Rattle.std.proofs.Common.{◌≡◌, ◌≢◌, ℕ, List, [], ◌∷◌, ◌++◌, length, Option, Some, refl, sym, ap, subst, ◌∙◌, append_assoc, ◌⊎◌, inl, inr}
use Rattle.std.specs.Prelude.{slice_get, Contains}
use Rattle.nr_xdr.specs.Item.{IsBytes}
use Rattle.nr_outside.specs.declared.moment.Moment.{Moment}
use Rattle.nr_rpc.specs.Reading.{call_of, xid_of_call}
use Rattle.nr_wire.specs.declared.hello.Side.TheVariants.{Responder}
use Rattle.nr_reduce.specs.declared.call.Call.{Call}
use Rattle.nr_reduce.specs.declared.call.Form.{Form}
use Rattle.nr_reduce.specs.declared.call.Outcome.TheVariants as outcomes
use Rattle.nr_reduce.specs.declared.call.Submission.TheVariants as submissions
use Rattle.nr_reduce.specs.declared.mark.Entry.{Entry}
use Rattle.nr_reduce.specs.declared.mark.LinkParameters.{LinkParameters}
use Rattle.nr_reduce.specs.declared.mark.Mark.{Mark}
use Rattle.nr_reduce.specs.declared.mark.Mark.TheVariants as marks
use Rattle.nr_reduce.specs.declared.mark.TaggedEntry.{TaggedEntry}
use Rattle.nr_reduce.specs.AtEachMark.{AtEachMark}
use Rattle.nr_reduce.specs.Asked.{AskedMark, IsCompleted}
use Rattle.nr_reduce.specs.ClientState.{call_payload}
use Rattle.nr_reduce.specs.Events.{events}
use Rattle.nr_reduce.specs.Events.RunEvent.{CallExecuted}
use Rattle.nr_reduce.specs.History.{CompletedCall}
use Rattle.nr_reduce.specs.KeepsCalls.{KeepsCalls}
use Rattle.nr_reduce.specs.Matched.{MatchedMark, IsPrefixOf}
use Rattle.nr_reduce.specs.NumberedJournal.{Standing, standing_for, tagged_journal, number_heard, entries_alone, call_of_entry, IsExecutedBy, NumberedMark, JournaledByNumber}
use Rattle.nr_reduce.specs.NumberedJournal.Standing.{Old, Kept, New}
use Rattle.nr_reduce.specs.Run.{client}
use Rattle.nr_reduce.specs.Served.{ServedMark, IsExecuted}
use Rattle.nr_reduce.proofs.Calls.{executed_head}
use Rattle.nr_reduce.proofs.LeftClients.{client_left}
use Rattle.nr_reduce.proofs.OutcomesStay.{outcomes_stay}
use Rattle.nr_reduce.proofs.Steps.{AtEachMark_first}
use Rattle.nr_laws.specs.MarkAt.{MarkAt}
use Rattle.nr_laws.specs.MatchedSoFar.{MatchedSoFar}
use Rattle.nr_laws.specs.OnceEach.{BegunLink, GoesOn, IsEarlier, MatchedWithEarlier, OpenedWithEarlier, IsLinkOf, HasEntry, IsAskedFor, CompletedChangesHaveEntries, ChangesTakeEffectOnce}
use Rattle.nr_laws.specs.Payloads.{HasPlan, form_conveyed}
use Rattle.nr_laws.specs.PlainLinks.{server_with}
use Rattle.nr_laws.specs.Typed.{TypedMark, IsTyped}
use Rattle.nr_laws.proofs.Basics.{some_is_lem}
use Rattle.nr_laws.proofs.EarlierLinks.{InFirst, AfterFirst, mark_in_first, event_at_mark, execute_event, none_is, SameCall, LeftBy, left_by}
use Rattle.nr_laws.proofs.EntriesApart.{no_entry_twice}
use Rattle.nr_laws.proofs.ExecutedPayloads.{executes_have_plans}
use Rattle.nr_laws.proofs.Following.{not_after_outcome}
use Rattle.nr_laws.proofs.JournalPlaces.{get_left, get_last, journal_from, journal_parts, journal_more}
use Rattle.nr_laws.proofs.KeptEntries.{entry_of, numbered, added_parts, adds_one, HaveSamePayload, kept_is}
use Rattle.nr_laws.proofs.LaterMarks.{mark_later}
use Rattle.nr_laws.proofs.NumbersHeard.{replied_number}
use Rattle.nr_laws.proofs.NumberedPlaces.{same_earlier}
use Rattle.nr_laws.proofs.OnceByXid.{at_mark}
use Rattle.nr_laws.proofs.Outcomes.{outcome_said}
use Rattle.nr_laws.proofs.OwnExecutes.{conveyed_bytes}
use Rattle.nr_laws.proofs.OwnPayloads.{payloads_are_own}
use Rattle.nr_laws.proofs.OwnReplies.{executed_replies_are_handed_over}
use Rattle.nr_laws.proofs.RepliedPlans.{replies_have_plans}

-- ---- The first part of a run

pub far_first : (opened : LinkParameters) (link : ℕ) (run cut rest : List Mark) → run ≡ cut ++ rest → MatchedSoFar opened link run → MatchedSoFar opened link cut
far_first opened link run cut rest is far = record {
  asked = AtEachMark_first (AskedMark IsPrefixOf opened link) [] cut rest (subst (AtEachMark (AskedMark IsPrefixOf opened link) []) is far.asked);
  served = AtEachMark_first (ServedMark IsPrefixOf opened link) [] cut rest (subst (AtEachMark (ServedMark IsPrefixOf opened link) []) is far.served);
  matched = AtEachMark_first (MatchedMark link) [] cut rest (subst (AtEachMark (MatchedMark link) []) is far.matched);
}

-- The Execute whose reply was handed over, with the Submit of its call.
record Handed (link : ℕ) (run before : List Mark) (xid : ℕ) (call : Call) (form : Form) (payload reply : List ℕ) : Type 0 where
  moment : Moment
  place : ℕ
  first : List Mark
  mid : List Mark
  after : List Mark
  within : before ≡ first ++ marks.Execute link xid moment payload place reply ∷ mid
  is : run ≡ first ++ marks.Execute link xid moment payload place reply ∷ after
  head : xid_of_call (call_of payload) ≡ Some xid
  bytes : IsBytes payload
  earlier : List Mark
  later : List Mark
  submitted : run ≡ earlier ++ marks.Submit link call form (submissions.Accepted xid) ∷ later

module _ (reply_to : List Entry → Moment → List ℕ → Option (List ℕ)) (adds : Moment → List ℕ → List ℕ → List Entry) (opened : ℕ → LinkParameters) (link : ℕ) (T : List TaggedEntry) (run : List Mark) (typed : IsTyped run)
    (journaled : JournaledByNumber (server_with reply_to adds) (number_heard run) T run) (keeps : KeepsCalls reply_to adds) (clients : IsLinkOf opened run (number_heard run link) link) (opens : OpenedWithEarlier opened run link) (matched : MatchedWithEarlier opened run link)
    (heard : number_heard run link ≢ 0) where
  abbrev number : ℕ → ℕ
  number = number_heard run

  itself : IsEarlier opened run link link
  itself = record { began = []; links = []; goes_on = refl }

  far : MatchedSoFar (opened link) link run
  far = matched link itself

  -- what an earlier link submitted
  earlier_call : (first : ℕ) → IsEarlier opened run first link → (before rest : List Mark) (call : Call) (form : Form) (xid : ℕ) → run ≡ before ++ marks.Submit first call form (submissions.Accepted xid) ∷ rest → SameCall opened run link xid call form
  earlier_call first e before rest call form xid is = same_earlier opened run first link e opens matched before rest call form xid is

  handed : (before : List Mark) (xid : ℕ) (call : Call) (form : Form) (payload reply : List ℕ) → IsAskedFor opened link run xid call form → MarkAt run before (marks.Done link xid (outcomes.Reply reply)) → form_conveyed form (call_payload xid call) ≡ Some payload → Handed link run before xid call form payload reply
  handed before xid call form payload reply asked done conveyed =
      let mark : Mark = marks.Done link xid (outcomes.Reply reply) in
      let p = replies_have_plans (opened link) link run before xid reply typed far done in
      let h = p.1 in
      let submit : Mark = marks.Submit link h.call h.form (submissions.Accepted xid) in
      let at : MarkAt run h.before submit = mark_later run before mark done.after h.before submit done.is h.at in
      let has : HasPlan (opened link) link run xid p.0 = record { call = h.call; form = h.form; before = h.before; at = at; planned = h.planned } in
      let r = executed_replies_are_handed_over (opened link) link run before xid p.0 reply typed far has done in
      let asked_at = asked.at in
      let same = (earlier_call asked.first asked.earlier asked.before asked_at.after call form xid asked_at.is).submitted h.before at.after h.call h.form at.is in
      let own : r.payload ≡ payload = some_is_lem r.payload payload (sym r.conveyed ∙ (λ i. form_conveyed (same.1 i) (call_payload xid (same.0 i))) ∙ conveyed) in
      let execute : Mark = marks.Execute link xid r.moment r.payload r.place reply in
      let r_at = r.at in
      let there : MarkAt run r.before execute = mark_later run before mark done.after r.before execute done.is r_at in
      let executed : IsExecuted (opened link) link r.before xid r.payload = at_mark (ServedMark IsPrefixOf (opened link) link) run r.before execute there.after there.is far.served refl in
      let head = executed_head (opened link) link r.before xid r.payload executed in
      record {
        moment = r.moment;
        place = r.place;
        first = r.before;
        mid = r_at.after;
        after = there.after;
        within = r_at.is ∙ ap (λ (q : List ℕ). r.before ++ marks.Execute link xid r.moment q r.place reply ∷ r_at.after) own;
        is = there.is ∙ ap (λ (q : List ℕ). r.before ++ marks.Execute link xid r.moment q r.place reply ∷ there.after) own;
        head = ap (λ (q : List ℕ). xid_of_call (call_of q)) (sym own) ∙ ap xid_of_call head.1.0 ∙ ap (λ (n : ℕ). Some n) head.1.1;
        bytes = conveyed_bytes form (call_payload xid call) payload (subst (λ (c : Call). IsBytes (call_payload xid c)) same.0 (at_mark TypedMark run h.before submit at.after at.is typed).0) conveyed;
        earlier = h.before;
        later = at.after;
        submitted = at.is ∙ (λ i. h.before ++ marks.Submit link (same.0 i) (same.1 i) (submissions.Accepted xid) ∷ at.after);
      }

  -- ---- The payload of an Execute of this xid on an earlier link

  earlier_payload : (before : List Mark) (xid : ℕ) (call : Call) (form : Form) (payload reply : List ℕ) → Handed link run before xid call form payload reply → form_conveyed form (call_payload xid call) ≡ Some payload
      → (first : ℕ) → IsEarlier opened run first link → (front back : List Mark) (moment : Moment) (other : List ℕ) (place : ℕ) (answer : List ℕ) → run ≡ front ++ marks.Execute first xid moment other place answer ∷ back → other ≡ payload
  earlier_payload before xid call form payload reply h conveyed first e front back moment other place answer is =
      let execute : Mark = marks.Execute first xid moment other place answer in
      let there : MarkAt run front execute = record { after = back; is = is } in
      let near : MatchedSoFar (opened first) first run = matched first e in
      let p = executes_have_plans (opened first) first run front xid moment other place answer typed near there in
      let q = p.1 in
      let submit : Mark = marks.Submit first q.call q.form (submissions.Accepted xid) in
      let at : MarkAt run q.before submit = mark_later run front execute back q.before submit is q.at in
      let has : HasPlan (opened first) first run xid p.0 = record { call = q.call; form = q.form; before = q.before; at = at; planned = q.planned } in
      let own = payloads_are_own (opened first) first run front xid p.0 moment other place answer typed near has there in
      let same = (earlier_call first e q.before at.after q.call q.form xid at.is).submitted h.earlier h.later call form h.submitted in
      some_is_lem other payload (sym own ∙ (λ i. form_conveyed (sym same.1 i) (call_payload xid (sym same.0 i))) ∙ conveyed)

  -- ---- No link that goes on from this one executed the call before

  not_later : (before : List Mark) (xid : ℕ) (call : Call) (form : Form) (payload reply : List ℕ) → MarkAt run before (marks.Done link xid (outcomes.Reply reply))
      → (other : ℕ) → IsEarlier opened run link other → (front mid : List Mark) (moment : Moment) (bytes : List ℕ) (place : ℕ) (answer : List ℕ) → (h : Handed link run before xid call form payload reply) → h.first ≡ front ++ marks.Execute other xid moment bytes place answer ∷ mid
      → IsEarlier opened run other link
  not_later before xid call form payload reply done other e front mid moment bytes place answer h there = by e.links e.goes_on
    where
      execute : Mark
      execute = marks.Execute other xid moment bytes place answer

      own : Mark
      own = marks.Execute link xid h.moment payload h.place reply

      last : BegunLink
      last = record { link = other; began = e.began }

      -- it began only after its client had left, and then the client had the reply
      wrong : (old : BegunLink) (links : List BegunLink) → GoesOn opened run link last (old ∷ links) → ⊥
      wrong old links (n, g) = by_place (mark_in_first run e.began n.reopened.after front execute (mid ++ own ∷ h.after) n.reopened.is_cut whole)
        where
          whole : run ≡ front ++ execute ∷ (mid ++ own ∷ h.after)
          whole = h.is ∙ ap (λ (r : List Mark). r ++ own ∷ h.after) there ∙ append_assoc front (execute ∷ mid) (own ∷ h.after)

          l : LeftBy opened run link e.began
          l = left_by opened run link last old links (n, g)

          in_time : InFirst e.began front execute → ⊥
          in_time f =
              let all = event_at_mark other Responder front execute (CallExecuted (record { xid = xid; moment = moment; payload = bytes; place = place; reply = answer })) f.rest (execute_event other front xid moment bytes place answer) in
              none_is (events other Responder front) (CallExecuted (record { xid = xid; moment = moment; payload = bytes; place = place; reply = answer })) all.0
              (sym all.1 ∙ ap (λ (r : List Mark). events other Responder r) (sym f.is) ∙ n.fresh.1)

          too_late : AfterFirst e.began front → ⊥
          too_late a =
              let gap : List Mark = l.rest ++ (a.between ++ execute ∷ mid) in
              let first_is : h.first ≡ l.cut ++ gap =
              there ∙ ap (λ (r : List Mark). r ++ execute ∷ mid) (a.is ∙ ap (λ (r : List Mark). r ++ a.between) l.is)
              ∙ append_assoc (l.cut ++ l.rest) a.between (execute ∷ mid) ∙ append_assoc l.cut l.rest (a.between ++ execute ∷ mid) in
              let run_is : run ≡ l.cut ++ (gap ++ own ∷ h.after) = h.is ∙ ap (λ (r : List Mark). r ++ own ∷ h.after) first_is ∙ append_assoc l.cut gap (own ∷ h.after) in
              let completed : IsCompleted (opened link) link before xid (outcomes.Reply reply) = at_mark (AskedMark IsPrefixOf (opened link) link) run before (marks.Done link xid (outcomes.Reply reply)) done.after done.is far.asked refl in
              let c : CompletedCall = record { xid = xid; outcome = outcomes.Reply reply } in
              let stays : Contains (client (opened link) link run).state.outcomes c =
              subst (λ (r : List Mark). Contains (client (opened link) link r).state.outcomes c) (sym done.is) (outcomes_stay (opened link) link before (marks.Done link xid (outcomes.Reply reply) ∷ done.after) c completed.is_received) in
              let received : Contains (client (opened link) link l.cut).state.outcomes c = subst (λ (cs : List CompletedCall). Contains cs c) (client_left (opened link) l.next link run l.cut l.left).1 stays in
              let near : MatchedSoFar (opened link) link l.cut = far_first (opened link) link run l.cut (gap ++ own ∷ h.after) run_is far in
              let early : IsTyped l.cut = AtEachMark_first TypedMark [] l.cut (gap ++ own ∷ h.after) (subst (AtEachMark TypedMark []) run_is typed) in
              not_after_outcome (opened link) link run l.cut gap h.after xid (outcomes.Reply reply) h.moment payload h.place reply typed far early near (outcome_said (opened link) link l.cut early near.asked near.served near.matched c received) run_is

          by_place : InFirst e.began front execute ⊎ AfterFirst e.began front → ⊥
          by_place (inl f) = in_time f
          by_place (inr a) = too_late a

      by : (links : List BegunLink) → GoesOn opened run link last links → IsEarlier opened run other link
      by [] same = record { began = []; links = []; goes_on = sym same }
      by (old ∷ links) g = absurd (wrong old links g)

  -- ---- A new call

  new_entry : (before : List Mark) (xid : ℕ) (call : Call) (form : Form) (payload reply : List ℕ) (moment : Moment) → (h : Handed link run before xid call form payload reply) → adds moment payload reply ≢ []
      → standing_for (tagged_journal (server_with reply_to adds) number h.first) (number link) xid ≡ New → IsExecutedBy (server_with reply_to adds) (tagged_journal (server_with reply_to adds) number h.first) New h.moment payload h.place reply
      → HasEntry (server_with reply_to adds) T (number link) xid payload reply
  unfolding tagged_journal
  new_entry before xid call form payload reply moment h some new law =
      let J : List TaggedEntry = journal_from reply_to adds number [] h.first in
      let one = adds_one reply_to adds keeps h.moment payload reply (keeps.alike moment h.moment payload reply some) in
      let e : Entry = one.0 in
      let own : TaggedEntry = entry_of (number link) xid e in
      let parts = added_parts reply_to adds number run h.first h.after link xid h.moment payload h.place reply e h.is new one.1 in
      let journal_is : T ≡ J ++ own ∷ parts.0 = sym journaled.is ∙ parts.1 ∙ ap (λ (x : TaggedEntry). J ++ x ∷ parts.0) (numbered (number link) xid e heard) in
      let moment_is : e.moment ≡ h.moment = keeps.moment h.moment payload reply e one.1 in
      let called : reply_to (entries_alone J) h.moment (call_of_entry xid e) ≡ Some reply = keeps.own (entries_alone J) h.moment payload reply xid e h.bytes law.1 one.1 h.head in
      record {
        place = length J;
        own = own;
        there = subst (λ (U : List TaggedEntry). slice_get U (length J) ≡ Some own) (sym journal_is) (get_last J own parts.0);
        client_is = refl;
        xid_is = refl;
        adds = ap (λ (m : Moment). adds m payload reply) moment_is ∙ one.1;
        reply_of = record {
          earlier = J;
          own = own;
          later = parts.0;
          is_cut = journal_is;
          is_place = refl;
          moment_is = refl;
          replied = ap (λ (m : Moment). reply_to (entries_alone J) m (call_of_entry xid e)) moment_is ∙ called;
        };
      }

  -- ---- A kept call

  earlier_of : (before : List Mark) (xid : ℕ) (call : Call) (form : Form) (payload reply : List ℕ) → MarkAt run before (marks.Done link xid (outcomes.Reply reply)) → (other : ℕ) → IsEarlier opened run link other ⊎ IsEarlier opened run other link
      → (front mid : List Mark) (moment : Moment) (bytes : List ℕ) (place : ℕ) (answer : List ℕ) → (h : Handed link run before xid call form payload reply) → h.first ≡ front ++ marks.Execute other xid moment bytes place answer ∷ mid → IsEarlier opened run other link
  earlier_of before xid call form payload reply done other (inl later) front mid moment bytes place answer h there = not_later before xid call form payload reply done other later front mid moment bytes place answer h there
  earlier_of before xid call form payload reply done other (inr earlier) front mid moment bytes place answer h there = earlier

  same_payloads : (before : List Mark) (xid : ℕ) (call : Call) (form : Form) (payload reply : List ℕ) → MarkAt run before (marks.Done link xid (outcomes.Reply reply)) → form_conveyed form (call_payload xid call) ≡ Some payload → (h : Handed link run before xid call form payload reply)
      → HaveSamePayload number h.first (number link) xid payload
  same_payloads before xid call form payload reply done conveyed h other same front mid moment bytes place answer there =
      let earliest : Mark = marks.Execute other xid moment bytes place answer in
      let execute : Mark = marks.Execute link xid h.moment payload h.place reply in
      let earlier = earlier_of before xid call form payload reply done other (clients other heard same) front mid moment bytes place answer h there in
      let in_run : run ≡ front ++ earliest ∷ (mid ++ execute ∷ h.after) = h.is ∙ ap (λ (r : List Mark). r ++ execute ∷ h.after) there ∙ append_assoc front (earliest ∷ mid) (execute ∷ h.after) in
      earlier_payload before xid call form payload reply h conveyed other earlier front (mid ++ execute ∷ h.after) moment bytes place answer in_run

  kept_has : (before : List Mark) (xid : ℕ) (call : Call) (form : Form) (payload reply : List ℕ) (at : ℕ) → MarkAt run before (marks.Done link xid (outcomes.Reply reply)) → form_conveyed form (call_payload xid call) ≡ Some payload → (h : Handed link run before xid call form payload reply)
      → standing_for (tagged_journal (server_with reply_to adds) number h.first) (number link) xid ≡ Kept at → IsExecutedBy (server_with reply_to adds) (tagged_journal (server_with reply_to adds) number h.first) (Kept at) h.moment payload h.place reply
      → HasEntry (server_with reply_to adds) T (number link) xid payload reply
  unfolding tagged_journal
  kept_has before xid call form payload reply at done conveyed h kept law =
      let J : List TaggedEntry = journal_from reply_to adds number [] h.first in
      let execute : Mark = marks.Execute link xid h.moment payload h.place reply in
      let each = AtEachMark_first (NumberedMark (server_with reply_to adds) number) [] h.first (execute ∷ h.after) (subst (AtEachMark (NumberedMark (server_with reply_to adds) number) []) h.is journaled.each) in
      let e = kept_is reply_to adds number h.first keeps (number link) xid at h.moment payload h.place reply heard each (same_payloads before xid call form payload reply done conveyed h) h.bytes h.head kept law in
      let k = law.1 in
      let more = journal_more reply_to adds number J (execute ∷ h.after) in
      let journal_is : T ≡ J ++ more.0 = sym journaled.is ∙ ap (λ (r : List Mark). journal_from reply_to adds number [] r) h.is ∙ journal_parts reply_to adds number [] h.first (execute ∷ h.after) ∙ more.1 in
      let here : slice_get J h.place ≡ Some k.own =
      subst (λ (U : List TaggedEntry). slice_get U h.place ≡ Some k.own) (sym k.is_cut) (ap (λ (n : ℕ). slice_get (k.earlier ++ k.own ∷ k.later) n) k.is_place ∙ get_last k.earlier k.own k.later) in
      record {
        place = h.place;
        own = k.own;
        there = subst (λ (U : List TaggedEntry). slice_get U h.place ≡ Some k.own) (sym journal_is) (get_left J more.0 h.place k.own here);
        client_is = e.client_is;
        xid_is = e.xid_is;
        adds = ap (λ (m : Moment). adds m payload reply) (sym k.moment_is) ∙ e.adds_is;
        reply_of = record {
          earlier = k.earlier;
          own = k.own;
          later = k.later ++ more.0;
          is_cut = journal_is ∙ ap (λ (U : List TaggedEntry). U ++ more.0) k.is_cut ∙ append_assoc k.earlier (k.own ∷ k.later) more.0;
          is_place = k.is_place;
          moment_is = refl;
          replied = ap (λ (m : Moment). reply_to (entries_alone k.earlier) m (call_of_entry k.own.xid k.own.entry)) (sym k.moment_is) ∙ k.replied;
        };
      }

  completed_has : (before : List Mark) (xid : ℕ) (call : Call) (form : Form) (moment : Moment) (payload reply : List ℕ) → IsAskedFor opened link run xid call form → MarkAt run before (marks.Done link xid (outcomes.Reply reply))
      → form_conveyed form (call_payload xid call) ≡ Some payload → adds moment payload reply ≢ [] → HasEntry (server_with reply_to adds) T (number link) xid payload reply
  completed_has before xid call form moment payload reply asked done conveyed some =
      by (standing_for J (number link) xid) refl (at_mark (NumberedMark (server_with reply_to adds) number) run h.first (marks.Execute link xid h.moment payload h.place reply) h.after h.is journaled.each)
    where
      h : Handed link run before xid call form payload reply
      h = handed before xid call form payload reply asked done conveyed

      J : List TaggedEntry
      J = tagged_journal (server_with reply_to adds) number h.first

      by : (s : Standing) → standing_for J (number link) xid ≡ s → IsExecutedBy (server_with reply_to adds) J s h.moment payload h.place reply → HasEntry (server_with reply_to adds) T (number link) xid payload reply
      by (Old top) is law = absurd law
      by (Kept at) is law = kept_has before xid call form payload reply at done conveyed h is law
      by New is law = new_entry before xid call form payload reply moment h some is law

pub completed_changes_have_entries : CompletedChangesHaveEntries
completed_changes_have_entries reply_to adds opened link T run before xid call form moment payload reply typed journaled keeps clients opens matched numbered fits asked done conveyed some =
    let heard : number_heard run link ≡ (opened link).client.number = replied_number (opened link) link run before xid reply typed (matched link (record { began = []; links = []; goes_on = refl })) fits done in
    subst (λ (number : ℕ). HasEntry (server_with reply_to adds) T number xid payload reply) heard
    (completed_has reply_to adds opened link T run typed journaled keeps clients opens matched (λ e. numbered (sym heard ∙ e)) before xid call form moment payload reply asked done conveyed some)

-- ---- Each change once

pub changes_take_effect_once : ChangesTakeEffectOnce
changes_take_effect_once reply_to adds opened T run typed journaled keeps = record {
  once = λ place other t u here there.
      no_entry_twice reply_to adds (number_heard run) run keeps.one place other t u (ap (λ (U : List TaggedEntry). slice_get U place) journaled.is ∙ here) (ap (λ (U : List TaggedEntry). slice_get U other) journaled.is ∙ there);
  completed = λ link before xid call form moment payload reply clients opens matched some fits asked done conveyed more.
      completed_changes_have_entries reply_to adds opened link T run before xid call form moment payload reply typed journaled keeps clients opens matched some fits asked done conveyed more;
}
