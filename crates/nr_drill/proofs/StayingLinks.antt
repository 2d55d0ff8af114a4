-- The hellos of each link of a client agree on what the earlier ones did, if its links are matched; so neither side of a link ends, and its calls complete
-- once nothing waits.
use Rattle.std.proofs.Common.{◌≡◌, ◌≢◌, ℕ, zero, suc, ◌≤◌, ◌<◌, arith, None, List, [], length, refl, ap, subst, ◌∙◌, ◌⊎◌, inl, inr}
use Rattle.nr_wire.specs.declared.hello.Side.TheVariants.{Initiator, Responder}
use Rattle.nr_link.specs.declared.agreement.Agreement.{Agreement}
use Rattle.nr_link.specs.Agreement.{agreement, responder_private}
use Rattle.std.specs.Prelude.{Option}
use Rattle.nr_reduce.specs.Hellos.{client_private}
use Rattle.nr_reduce.specs.Client.{has_same_sizes}
use Rattle.nr_reduce.specs.declared.mark.Mark.{Mark}
use Rattle.nr_reduce.specs.declared.mark.Mark.TheVariants as marks
use Rattle.nr_reduce.specs.declared.mark.Told.TheVariants as told
use Rattle.nr_reduce.specs.declared.mark.LinkParameters.{LinkParameters}
use Rattle.nr_reduce.specs.KeepsCalls.{KeepsCalls}
use Rattle.nr_reduce.specs.KeepsReplyLimits.{KeepsReplyLimits}
use Rattle.nr_reduce.specs.NumberedJournal.{NumberedMark, IsOld, standing_for, tagged_journal, number_heard}
use Rattle.nr_reduce.specs.Run.{end_of_side}
use Rattle.nr_reduce.specs.SoFar.{InFull}
use Rattle.nr_reduce.proofs.SoFarLaws.{AtEachMark_each}
use Rattle.nr_laws.specs.EndCauses.{KeepLaws, HasNoOldCall, NotOldMark, AgreesAgain}
use Rattle.nr_laws.specs.Completion.{NothingInTransit, HaveCompleted}
use Rattle.nr_laws.specs.Stays.{HasNoRevoke, AreConveyedOrRefused}
use Rattle.nr_laws.proofs.NeitherEnds.{links_stay, matched_calls_complete}
use Rattle.nr_laws.proofs.ReopenedLinks.{reopened_links_agree}
use Rattle.nr_script.specs.Script.{ScriptLines, IsScript}
use Rattle.nr_drill.specs.Drill.{SerialServer, Setting, IsLink, plain_of}
use Rattle.nr_drill.specs.Follows.{Follows, last_setting}
use Rattle.nr_drill.specs.Headline.{IsMatchedFromFirst}
use Rattle.nr_drill.specs.InBytes.{RepliedInBytes}
use Rattle.nr_drill.proofs.CarriedLinks.{follows_keeps}
use Rattle.nr_drill.proofs.BegunOrder.{LinksInOrder, le_or}
use Rattle.nr_drill.proofs.EarlierOnes.{next_of}
use Rattle.nr_drill.proofs.NumberedDrills.{held, order, wrote, outside, typed, far, numbers, journaled, plainly}

-- no hello did
agrees_first : (opened : LinkParameters) → opened.agreed ≡ None → AgreesAgain opened
agrees_first opened none = ap (λ (a : Option Agreement). has_same_sizes a (agreement (client_private opened) (responder_private opened.server (client_private opened)))) none

module _ (server : SerialServer) (script : ScriptLines) (run : List Mark) (is : IsScript script) (replied : RepliedInBytes run) (follows : Follows server script run) where
  abbrev t : Setting
  t = last_setting follows

  abbrev clients : ℕ
  clients = script.opening.clients

  agrees_within : (fuel link : ℕ) → link ≤ fuel → IsLink follows.last link → IsMatchedFromFirst t run link → AgreesAgain (t.opened link)
  agrees_within zero link le within matched = absurd (let low = within.0 in omega (arith, low, le))
  agrees_within (suc fuel) link le within matched = by (le_or link clients) (λ more. agrees_within fuel (o.before link) (lower more) (o.older link within more).0 (λ other low at_most same. matched other low (not_above more other at_most) (same ∙ (o.older link within more).2)))
    where
      o : LinksInOrder t clients (length follows.last.opened) follows.last.last_links run
      o = order server script run is replied follows

      not_above : clients < link → (other : ℕ) → other ≤ o.before link → other ≤ link
      not_above more other at_most = (let lt = (o.older link within more).1 in omega (arith, lt, at_most))

      lower : clients < link → o.before link ≤ fuel
      lower more = (let lt = (o.older link within more).1 in omega (arith, lt, le))

      next : (more : clients < link) → AgreesAgain (t.opened (o.before link)) → AgreesAgain (t.opened link)
      next more again =
          let old = o.older link within more in
          let n = next_of t clients (length follows.last.opened) follows.last.last_links run o (wrote server script run is replied follows) (outside server script run is replied follows) link within more in
          reopened_links_agree (t.opened (o.before link)) (t.opened link) (o.before link) run (o.began link) n.reopened again (typed server script run is replied follows)
          (far server script run is replied follows (o.before link) old.0 (matched (o.before link) old.0.0 (not_above more (o.before link) (omega arith)) old.2))

      by : (link ≤ clients) ⊎ (clients < link) → (clients < link → AgreesAgain (t.opened (o.before link))) → AgreesAgain (t.opened link)
      by (inl first) rest = agrees_first (t.opened link) (o.firsts link within first).2.agreed
      by (inr more) rest = next more (rest more)

  agrees : (link : ℕ) → IsLink follows.last link → IsMatchedFromFirst t run link → AgreesAgain (t.opened link)
  agrees link within matched = agrees_within link link (omega arith) within matched

  -- no call of a client without a number is old
  none_old : (link : ℕ) → IsLink follows.last link → ((t.opened link).client.number ≢ 0 → HasNoOldCall link run) → HasNoOldCall link run
  none_old link within known = by (le_or (t.opened link).client.number 0)
    where
      mark_not : (t.opened link).client.number ≡ 0 → (before : List Mark) (mark : Mark) → NumberedMark (plain_of server) (number_heard run) before mark → NotOldMark link before mark
      mark_not unnumbered before (marks.Told l (told.Old xid at)) h = λ same.
          (let none : number_heard run l ≡ 0 = ap (λ (k : ℕ). number_heard run k) same ∙ numbers server script run is replied follows link within ∙ unnumbered in
          subst (λ (c : ℕ). IsOld (standing_for (tagged_journal (plain_of server) (number_heard run) before) c xid)) none h)
      mark_not unnumbered before (marks.Told l (told.Granted credits)) h = tt
      mark_not unnumbered before (marks.Submit l call form answer) h = tt
      mark_not unnumbered before (marks.Wrote l side bytes) h = tt
      mark_not unnumbered before (marks.Fed l side bytes) h = tt
      mark_not unnumbered before (marks.Execute l xid moment payload place reply) h = tt
      mark_not unnumbered before (marks.Done l xid outcome) h = tt
      mark_not unnumbered before (marks.Lost l xid) h = tt
      mark_not unnumbered before (marks.Forget l xid) h = tt
      mark_not unnumbered before (marks.Revoke l xid bytes) h = tt
      mark_not unnumbered before (marks.Drop l) h = tt

      by : ((t.opened link).client.number ≤ 0) ⊎ (0 < (t.opened link).client.number) → HasNoOldCall link run
      by (inl le) =
          AtEachMark_each (NumberedMark (plain_of server) (number_heard run)) (NotOldMark link) [] run (mark_not (omega (arith, le))) (journaled server script run is replied follows).each
      by (inr some) = known (λ none. omega (arith, none, some))

  -- ===== neither side ends

  kept : (link : ℕ) → IsLink follows.last link → IsMatchedFromFirst t run link → KeepLaws (t.opened link) link run
  kept link within matched =
      let laws = follows_keeps server script run is replied follows link within in
      record { client = laws.asked.each; server = laws.served.each; matched = matched link within.0 (omega arith) refl; grant = laws.grant }

  full : (link : ℕ) → IsLink follows.last link → IsMatchedFromFirst t run link → InFull (t.opened link) link run
  full link within matched =
      let laws = follows_keeps server script run is replied follows link within in
      record { asked = laws.asked; served = laws.served; matched = matched link within.0 (omega arith) refl; grant = laws.grant }

  pub both_stay : KeepsReplyLimits (plain_of server) → KeepsCalls server.reply_to server.adds → (link : ℕ) → IsLink follows.last link → IsMatchedFromFirst t run link → ((t.opened link).client.number ≢ 0 → HasNoOldCall link run) → HasNoRevoke link run →
      AreConveyedOrRefused (t.opened link) link run → (end_of_side (t.opened link) link Initiator run ≡ None) × (end_of_side (t.opened link) link Responder run ≡ None)
  both_stay plain keeps link within matched old kept_memory conveyed =
      links_stay server.reply_to server.adds (t.opened link) link run ((held server script run is replied follows).links link within).opened (agrees link within matched) (typed server script run is replied follows) (kept link within matched)
      (none_old link within old) kept_memory conveyed plain (plainly server script run is replied follows keeps link within matched)

  pub have_completed : KeepsReplyLimits (plain_of server) → KeepsCalls server.reply_to server.adds → (link : ℕ) → IsLink follows.last link → IsMatchedFromFirst t run link → ((t.opened link).client.number ≢ 0 → HasNoOldCall link run) → HasNoRevoke link run →
      AreConveyedOrRefused (t.opened link) link run → NothingInTransit (t.opened link) link run → HaveCompleted (t.opened link) link run
  have_completed plain keeps link within matched old kept_memory conveyed waits =
      matched_calls_complete server.reply_to server.adds (t.opened link) link run ((held server script run is replied follows).links link within).opened (agrees link within matched) (typed server script run is replied follows) (full link within matched)
      (none_old link within old) kept_memory conveyed plain (plainly server script run is replied follows keeps link within matched) waits
