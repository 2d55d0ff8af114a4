-- What the laws of numbered clients say of the links of a script, if the plain server keeps its calls: each change once, each change that completes has
-- its entry, and each call is at its place in the one journal.
use Rattle.std.specs.Prelude.{slice_index_or, if◌then◌else◌}
use Rattle.std.specs.List.{AllByRecursion}
use Rattle.std.proofs.Common.{◌≡◌, ◌≢◌, ℕ, zero, suc, ◌+◌, ◌≤◌, ◌<◌, arith, Bool, true, false, List, [], ◌∷◌, ◌++◌, length, refl, sym, ap, subst, ◌∙◌, append_assoc, ◌⊎◌, inl, inr}
use Rattle.nr_wire.specs.declared.hello.Side.TheVariants.{Initiator}
use Rattle.nr_reduce.specs.declared.call.Outcome.TheVariants as outcomes
use Rattle.nr_reduce.specs.declared.mark.Mark.{Mark}
use Rattle.nr_reduce.specs.declared.mark.Mark.TheVariants as marks
use Rattle.nr_reduce.specs.declared.mark.LinkParameters.{LinkParameters}
use Rattle.nr_reduce.specs.declared.mark.TaggedEntry.{TaggedEntry}
use Rattle.nr_reduce.specs.declared.outline.Plan.{Plan}
use Rattle.nr_reduce.specs.Events.{events}
use Rattle.nr_reduce.specs.KeepsCalls.{AddsOneAtMost, FitsChanges, KeepsCalls}
use Rattle.nr_reduce.specs.KeepsReplyLimits.{KeepsReplyLimits}
use Rattle.nr_reduce.specs.NumberedJournal.{JournaledByNumber, HasNoEntryTwice, entries_alone, number_heard}
use Rattle.nr_reduce.specs.Asked.{AskedMark, AskedSoFar, IsAll}
use Rattle.nr_reduce.specs.Served.{ServedMark, ServedSoFar}
use Rattle.nr_reduce.specs.Matched.{IsPrefixOf, Matched}
use Rattle.nr_reduce.proofs.SoFarLaws.{AtEachMark_each, asked_mark, served_mark}
use Rattle.nr_laws.specs.MarkAt.{MarkAt}
use Rattle.nr_laws.specs.MatchedSoFar.{MatchedSoFar}
use Rattle.nr_laws.specs.Typed.{IsTyped}
use Rattle.nr_laws.specs.Payloads.{HasPlan}
use Rattle.nr_laws.specs.PlainLinks.{AtPlacesOn, HasPlainReplies}
use Rattle.nr_laws.specs.OnceEach.{IsEarlier, MatchedWithEarlier, OpenedWithEarlier, OneClientEach}
use Rattle.nr_laws.proofs.PlacedLinks.{placed_links_have_plain_replies}
use Rattle.nr_laws.proofs.RepliedPlans.{replies_have_plans}
use Rattle.nr_laws.proofs.PlainReplies.{replies_are_plain_at_places}
use Rattle.nr_laws.proofs.ChunkCauses.{chunk_has_cause}
use Rattle.nr_laws.proofs.Completed.{no_other_version}
use Rattle.nr_laws.proofs.AutoReplies.{auto_has_replies}
use Rattle.nr_laws.proofs.WaitingCalls.{resumes_planned}
use Rattle.nr_laws.proofs.EntriesApart.{no_entry_twice}
use Rattle.nr_laws.proofs.NumberedChanges.{numbered_changes_are_answered}
use Rattle.nr_laws.proofs.PlacesUntilLeft.{links_are_at_places_until_left}
use Rattle.nr_laws.proofs.CompletedChanges.{completed_changes_have_entries}
use Rattle.nr_script.specs.Script.{ScriptLines, IsScript}
use Rattle.nr_drill.specs.Drill.{SerialServer, link_of, Setting, IsLink, client_of, plain_of, journal_of}
use Rattle.nr_drill.specs.Follows.{Follows, setting_of, last_setting}
use Rattle.nr_drill.specs.Headline.{Completes, AnswersChanges, IsMatchedFromFirst, ChangesHaveEntries}
use Rattle.nr_drill.specs.InBytes.{RepliedInBytes}
use Rattle.nr_drill.specs.Memory.{KeepsMemory}
use Rattle.nr_drill.specs.Unnumbered.{Heard}
use Rattle.nr_drill.proofs.Remembered.{keeps_memory}
use Rattle.nr_drill.proofs.Links.{DrillHolds}
use Rattle.nr_drill.proofs.BegunLinks.{lines_hold}
use Rattle.nr_drill.proofs.CarriedLinks.{follows_keeps}
use Rattle.nr_drill.proofs.NumberedRuns.{follows_journaled, follows_numbers}
use Rattle.nr_drill.proofs.BegunOrder.{LinksInOrder, IsIn, le_or, some_event, links_in_order}
use Rattle.nr_drill.proofs.EarlierOnes.{earlier_is, heard_within, heard_owner, one_client_each}
use Rattle.nr_drill.proofs.LeftLinks.{executes_until_left}

-- a call that was accepted before a mark of a run was accepted in the run
in_run : (o : LinkParameters) (link : ℕ) (run before : List Mark) (mark : Mark) (xid : ℕ) (plan : Plan) → MarkAt run before mark → HasPlan o link before xid plan → HasPlan o link run xid plan
in_run o link run before mark xid plan at has = record {
  call = has.call;
  form = has.form;
  before = has.before;
  at = record {
    after = has.at.after ++ mark ∷ at.after;
    is = at.is ∙ ap (λ (xs : List Mark). xs ++ mark ∷ at.after) has.at.is ∙ append_assoc has.before (_ ∷ has.at.after) (mark ∷ at.after);
  };
  planned = has.planned;
}

-- past the end of a list
past : {X : Type 0} (xs : List X) (i : ℕ) (other : X) → length xs ≤ i → slice_index_or xs i other ≡ other
past [] i other le = refl
past (x ∷ xs) zero other le = absurd (omega (arith, le))
past (x ∷ xs) (suc i) other le = past xs i other (omega (arith, le))

module _ (server : SerialServer) (script : ScriptLines) (run : List Mark) (is : IsScript script) (replied : RepliedInBytes run) (follows : Follows server script run) where
  abbrev t : Setting
  t = last_setting follows

  abbrev clients : ℕ
  clients = script.opening.clients

  abbrev links : ℕ
  links = length follows.last.opened

  abbrev T : List TaggedEntry
  T = journal_of t run

  pub held : DrillHolds (setting_of server script.opening) script.opening (length script.lines) follows.last
  held = lines_hold server script is run replied follows

  pub typed : IsTyped run
  typed = subst IsTyped (sym follows.marks_are) held.typed.typed

  pub order : LinksInOrder t clients links follows.last.last_links run
  order = subst (λ (r : List Mark). LinksInOrder t clients links follows.last.last_links r) (sym follows.marks_are) (links_in_order server script is run replied follows)

  pub wrote : (link : ℕ) → IsIn links link → events link Initiator run ≢ []
  wrote link within = some_event (t.opened link) link run (subst (Heard (t.opened link) link) (sym follows.marks_are) (held.links link within).heard)

  first_number : (opening_numbered : Bool) (link : ℕ) → (link ≡ 0) ⊎ (clients < link) → ((if opening_numbered then link else 0) ≡ 0) ⊎ (clients < (if opening_numbered then link else 0))
  first_number true link (inl none) = inl none
  first_number true link (inr more) = inr more
  first_number false link place = inl refl

  pub outside : (link : ℕ) → (IsIn links link → ⊥) → ((t.opened link).client.number ≡ 0) ⊎ (clients < (t.opened link).client.number)
  outside zero not = first_number script.opening.numbered 0 (inl refl)
  outside (suc i) not = by (le_or (suc i) links)
    where
      by : (suc i ≤ links) ⊎ (links < suc i) → ((t.opened (suc i)).client.number ≡ 0) ⊎ (clients < (t.opened (suc i)).client.number)
      by (inl le) = absurd (not (omega arith, le))
      by (inr more) =
          let far = past follows.last.opened i ((setting_of server script.opening).opened (suc i)) (omega (arith, more)) in
          let many = order.many in
          subst (λ (o : LinkParameters). (o.client.number ≡ 0) ⊎ (clients < o.client.number)) (sym far) (first_number script.opening.numbered (suc i) (inr (omega (arith, more, many))))

  pub numbers : (link : ℕ) → IsIn links link → number_heard run link ≡ (t.opened link).client.number
  numbers link within = follows_numbers server script run is replied follows link within

  pub marks_within : AllByRecursion (λ (mark : Mark). IsIn links (link_of mark)) run
  marks_within = subst (λ (r : List Mark). AllByRecursion (λ (mark : Mark). IsIn links (link_of mark)) r) (sym follows.marks_are) held.frame.within

  -- what both sides of a link keep is kept so far
  pub asked_so_far : (link : ℕ) → IsIn links link → AskedSoFar (t.opened link) link run
  asked_so_far link within =
      let o = t.opened link in
      AtEachMark_each (AskedMark IsAll o link) (AskedMark IsPrefixOf o link) [] run (asked_mark o link) (follows_keeps server script run is replied follows link within).asked.each

  served_so_far : (link : ℕ) → IsIn links link → ServedSoFar (t.opened link) link run
  served_so_far link within =
      let o = t.opened link in
      AtEachMark_each (ServedMark IsAll o link) (ServedMark IsPrefixOf o link) [] run (served_mark o link) (follows_keeps server script run is replied follows link within).served.each

  pub far : (link : ℕ) → IsIn links link → Matched link run → MatchedSoFar (t.opened link) link run
  far link within matched = record { asked = asked_so_far link within; served = served_so_far link within; matched = matched }

  -- ===== the links before one

  pub older : (first link : ℕ) → IsIn links link → IsEarlier t.opened run first link → IsIn links first × (client_of t first ≡ client_of t link) × (first ≤ link)
  older first link within e = (let o = earlier_is t clients links follows.last.last_links run order wrote outside first link within e in (o.is, o.same, o.lower))

  pub opens_with : (link : ℕ) → IsIn links link → OpenedWithEarlier t.opened run link
  opens_with link within earlier e = (held.links earlier (older earlier link within e).0).opened

  pub matched_with : (link : ℕ) → IsIn links link → IsMatchedFromFirst t run link → MatchedWithEarlier t.opened run link
  matched_with link within matched earlier e = (let o = older earlier link within e in far earlier o.0 (matched earlier o.0.0 o.2 o.1))

  pub heard_link : (link : ℕ) → number_heard run link ≢ 0 → IsLink follows.last link
  heard_link link some = heard_within t clients links follows.last.last_links run order wrote outside numbers marks_within link some

  pub heard_client : (link : ℕ) → IsLink follows.last link → number_heard run link ≢ 0 → client_of t link ≡ number_heard run link
  heard_client link within some = heard_owner t clients links follows.last.last_links run order wrote outside numbers marks_within link within some

  pub one_each : OneClientEach t.opened run
  one_each = one_client_each t clients links follows.last.last_links run order wrote outside numbers marks_within

  pub journaled : JournaledByNumber (plain_of server) (number_heard run) T run
  journaled = follows_journaled server script run is replied follows

  -- ===== what the laws say

  pub memory : (link : ℕ) → IsLink follows.last link → KeepsMemory (t.opened link) link run
  memory link within = keeps_memory (t.opened link) link run typed (follows_keeps server script run is replied follows link within).asked

  pub at_places : KeepsCalls server.reply_to server.adds → (link : ℕ) → IsLink follows.last link → IsMatchedFromFirst t run link → AtPlacesOn (plain_of server) (entries_alone T) link run
  at_places keeps link within matched =
      links_are_at_places_until_left server.reply_to server.adds t.opened link T run typed journaled keeps (λ other numbered same. one_each link other numbered (sym same)) (opens_with link within) (matched_with link within matched)
      (executes_until_left t clients links follows.last.last_links run order wrote outside marks_within link)

  pub plainly : KeepsCalls server.reply_to server.adds → (link : ℕ) → IsLink follows.last link → IsMatchedFromFirst t run link → HasPlainReplies (plain_of server) link run
  plainly keeps link within matched = placed_links_have_plain_replies server.reply_to server.adds (entries_alone T) link run (at_places keeps link within matched)

  pub changes : KeepsReplyLimits (plain_of server) → AddsOneAtMost server.adds → FitsChanges (plain_of server) → (link : ℕ) → IsLink follows.last link → AnswersChanges server (t.opened link) link run
  changes plain few fits link within before xid moment payload place reply at some =
      numbered_changes_are_answered server.reply_to server.adds (t.opened link) link T run before xid moment payload place reply plain few fits typed journaled (served_so_far link within) at some

  pub completes : KeepsReplyLimits (plain_of server) → KeepsCalls server.reply_to server.adds → (link : ℕ) → IsLink follows.last link → IsMatchedFromFirst t run link → Completes (plain_of server) (entries_alone T) (t.opened link) link run
  unfolding in_run
  completes plain keeps link within matched =
      let o = t.opened link in
      let near = far link within (matched link within.0 (omega arith) refl) in
      record {
        reply = λ before xid reply at. (let p = replies_have_plans o link run before xid reply typed near at in (
          p.0,
          p.1,
          replies_are_plain_at_places server.reply_to server.adds (entries_alone T) o link run before xid p.0 reply typed near (at_places keeps link within matched)
              (in_run o link run before (marks.Done link xid (outcomes.Reply reply)) xid p.0 at p.1) at,
        ));
        chunk = λ before xid outcome at. chunk_has_cause o link run before xid outcome typed near at;
        version = λ before xid low high at. no_other_version o link run before xid low high typed near at;
        auto = λ earlier before call xid outcome submitted at.
            auto_has_replies server.reply_to server.adds o link run earlier before call xid outcome (resumes_planned o (held.links link within).opened) plain (plainly keeps link within matched) typed near submitted at;
      }

  pub once : AddsOneAtMost server.adds → HasNoEntryTwice T
  unfolding journal_of
  once few place other a b at other_at numbered same_client same_xid = no_entry_twice server.reply_to server.adds (number_heard run) run few place other a b at other_at numbered same_client same_xid

  pub entries : KeepsCalls server.reply_to server.adds → (link : ℕ) → IsLink follows.last link → (t.opened link).client.number ≢ 0 → IsMatchedFromFirst t run link → ChangesHaveEntries server T t.opened link run
  entries keeps link within numbered matched before xid call form moment payload reply asked at conveyed adds =
      completed_changes_have_entries server.reply_to server.adds t.opened link T run before xid call form moment payload reply typed journaled keeps (λ other numbered same. one_each link other numbered (sym same)) (opens_with link within) (matched_with link within matched)
      numbered (held.links link within).terms.terms.2 asked at conveyed adds
