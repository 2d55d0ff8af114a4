-- Places follow what callers see, on whichever of its client's links a call is executed.
use Rattle.std.specs.Prelude.{nat_lt}
use Rattle.std.proofs.Common.{◌≡◌, ◌≢◌, ℕ, ◌≤◌, ◌<◌, arith, false, List, [], ◌∷◌, ◌++◌, length, refl, sym, ap, ◌∙◌, append_assoc, ◌⊎◌, inl, inr}
use Rattle.std.proofs.lemmas.Bool.{lt-ltb}
use Rattle.nr_outside.specs.declared.moment.Moment.{Moment}
use Rattle.nr_reduce.specs.declared.call.Submission.TheVariants as submissions
use Rattle.nr_reduce.specs.declared.mark.Mark.{Mark}
use Rattle.nr_reduce.specs.declared.mark.Mark.TheVariants as marks
use Rattle.nr_reduce.specs.KeepsCalls.{AddsOneAtMost}
use Rattle.nr_reduce.specs.NumberedJournal.{number_heard}
use Rattle.nr_reduce.specs.Matched.{Matched}
use Rattle.nr_laws.specs.MarkAt.{MarkAt}
use Rattle.nr_laws.specs.OnceEach.{BegunLink, GoesOn, IsEarlier, IsLinkOf}
use Rattle.nr_laws.proofs.EarlierLinks.{LinkKeeps, each_earlier, xid_below}
use Rattle.nr_laws.proofs.ExecutedPayloads.{executes_have_plans}
use Rattle.nr_laws.proofs.PlacesByNumber.{places_follow_by_number}
use Rattle.nr_script.specs.Script.{ScriptLines, IsScript}
use Rattle.nr_drill.specs.Drill.{SerialServer, Setting, IsLink, client_of, journal_of}
use Rattle.nr_drill.specs.Follows.{Follows, last_setting}
use Rattle.nr_drill.specs.Headline.{IsMatchedFromFirst, PlacesRise}
use Rattle.nr_drill.specs.InBytes.{RepliedInBytes}
use Rattle.nr_drill.proofs.BegunOrder.{le_or}
use Rattle.nr_drill.proofs.EarlierOnes.{earlier_one}
use Rattle.nr_drill.proofs.NumberedDrills.{order, wrote, outside, typed, far, opens_with, matched_with, asked_so_far, older, journaled, heard_link, heard_client}

not_below : (a b : ℕ) → nat_lt a b ≡ false → b ≤ a
not_below a b e = by (le_or b a)
  where
    by : (b ≤ a) ⊎ (a < b) → b ≤ a
    by (inl le) = le
    by (inr lt) = absurd (let yes = sym (lt-ltb a b lt) ∙ e in cc)

module _ (server : SerialServer) (script : ScriptLines) (run : List Mark) (is : IsScript script) (replied : RepliedInBytes run) (follows : Follows server script run) where
  abbrev t : Setting
  t = last_setting follows

  -- the links of a client, in order
  one_of : (link other : ℕ) → IsLink follows.last link → IsLink follows.last other → client_of t link ≡ client_of t other → link ≤ other → IsEarlier t.opened run link other
  one_of link other within other_within same le =
      earlier_one t script.opening.clients (length follows.last.opened) follows.last.last_links run (order server script run is replied follows) (wrote server script run is replied follows) (outside server script run is replied follows)
      link other within other_within same le

  -- of a link of the client with a number, and each link whose server heard it
  is_link_of : (other executing : ℕ) → IsLink follows.last other → IsLink follows.last executing → client_of t other ≡ client_of t executing → IsLinkOf t.opened run (number_heard run executing) other
  is_link_of other executing within executing_within same link some heard = by (le_or other link)
    where
      own : number_heard run link ≢ 0
      own none = some (sym heard ∙ none)

      link_within : IsLink follows.last link
      link_within = heard_link server script run is replied follows link own

      one : client_of t other ≡ client_of t link
      one = same ∙ heard_client server script run is replied follows executing executing_within some ∙ sym heard ∙ sym (heard_client server script run is replied follows link link_within own)

      by : (other ≤ link) ⊎ (link < other) → IsEarlier t.opened run other link ⊎ IsEarlier t.opened run link other
      by (inl le) = inl (one_of other link within link_within one le)
      by (inr lt) = inr (one_of link other link_within within (sym one) (omega (arith, lt)))

  -- a call that is submitted for the first time on a link isn't executed on a link before it
  not_before : (other executing : ℕ) → IsLink follows.last other → IsLink follows.last executing → client_of t other ≡ client_of t executing → Matched executing run →
      (before : List Mark) (xid : ℕ) (moment : Moment) (payload : List ℕ) (place : ℕ) (reply : List ℕ) → MarkAt run before (marks.Execute executing xid moment payload place reply) →
      (t.opened other).first_xid ≤ xid → executing < other → ⊥
  not_before other executing within executing_within same matched before xid moment payload place reply at first lt =
      past e.links e.goes_on
    where
      e : IsEarlier t.opened run executing other
      e = one_of executing other executing_within within (sym same) (omega (arith, lt))

      last : BegunLink
      last = record { link = other; began = e.began }

      past : (links : List BegunLink) → GoesOn t.opened run executing last links → ⊥
      past [] own = omega (arith, own, lt)
      past (old ∷ links) g =
          let keeps = each_earlier t.opened run executing last (old ∷ links) (LinkKeeps t.opened run) g
          (λ earlier part h. (let there : IsEarlier t.opened run earlier.link other = record { began = e.began; links = part; goes_on = h } in record {
            opens = opens_with server script run is replied follows other within earlier.link there;
            asked = asked_so_far server script run is replied follows earlier.link (older server script run is replied follows earlier.link other within there).0;
          })) in
          let near = far server script run is replied follows executing executing_within matched in
          let p = executes_have_plans (t.opened executing) executing run before xid moment payload place reply (typed server script run is replied follows) near at in
          let h = p.1 in
          let whole : run ≡ h.before ++ marks.Submit executing h.call h.form (submissions.Accepted xid) ∷ (h.at.after ++ marks.Execute executing xid moment payload place reply ∷ at.after) =
          at.is ∙ ap (λ (r : List Mark). r ++ marks.Execute executing xid moment payload place reply ∷ at.after) h.at.is
          ∙ append_assoc h.before (marks.Submit executing h.call h.form (submissions.Accepted xid) ∷ h.at.after) (marks.Execute executing xid moment payload place reply ∷ at.after) in
          let below = xid_below t.opened run executing h.before (h.at.after ++ marks.Execute executing xid moment payload place reply ∷ at.after) h.call h.form xid whole last old links keeps g in
          omega (arith, below, first)

  pub places_rise : AddsOneAtMost server.adds → (link other executing : ℕ) → IsLink follows.last link → IsLink follows.last other → IsLink follows.last executing → client_of t other ≡ client_of t executing →
      Matched link run → IsMatchedFromFirst t run executing → PlacesRise t link other executing run
  places_rise few link other executing within other_within executing_within same matched executing_matched before between before_first before_second call form xid other_xid outcome moment other_moment payload other_payload place other_place reply other_reply
      done_then new first second =
      by (le_or other executing)
    where
      start : (t.opened other).first_xid ≤ other_xid
      start = not_below other_xid (t.opened other).first_xid new

      by : (other ≤ executing) ⊎ (executing < other) → place ≤ other_place
      by (inr lt) = absurd (not_before other executing other_within executing_within same (executing_matched executing executing_within.0 (omega arith) refl) before_second other_xid other_moment other_payload other_place other_reply second start lt)
      by (inl le) =
          places_follow_by_number server.reply_to server.adds t.opened link other executing (journal_of t run) run before between before_first before_second call form xid other_xid outcome moment other_moment payload other_payload place other_place
          reply other_reply (typed server script run is replied follows) (journaled server script run is replied follows) few (is_link_of executing executing executing_within executing_within refl) (is_link_of other executing other_within executing_within same)
          (far server script run is replied follows link within matched) (one_of other executing other_within executing_within same le) (opens_with server script run is replied follows executing executing_within)
          (matched_with server script run is replied follows executing executing_within executing_matched) start done_then first second
