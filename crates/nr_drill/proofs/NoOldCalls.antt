-- No call of a link that stands is old, if it and the links before it are matched: the client has left no such link.
use Rattle.std.proofs.Common.{◌≡◌, ◌≢◌, ℕ, ◌≤◌, ◌<◌, arith, false, List, [], ◌∷◌, ◌++◌, length, refl, sym, ap, subst, ◌∙◌, append-nil, append_assoc, ◌⊎◌, inl, inr}
use Rattle.nr_reduce.specs.declared.mark.Mark.{Mark}
use Rattle.nr_reduce.specs.declared.mark.Mark.TheVariants as marks
use Rattle.nr_reduce.specs.declared.mark.Told.TheVariants as told
use Rattle.nr_reduce.specs.AtEachMark.{AtEachMark}
use Rattle.nr_reduce.specs.History.{is_dropped}
use Rattle.nr_reduce.specs.KeepsCalls.{AddsOneAtMost}
use Rattle.nr_reduce.specs.NumberedJournal.{number_heard}
use Rattle.nr_laws.specs.MarkAt.{MarkAt}
use Rattle.nr_laws.specs.EndCauses.{HasNoOldCall, NotOldMark}
use Rattle.nr_laws.specs.OnceEach.{AcceptsWithEarlier, IsFirstOf, IsLeft}
use Rattle.nr_laws.proofs.OldCalls.{no_call_is_old}
use Rattle.nr_script.specs.Script.{ScriptLines, IsScript}
use Rattle.nr_drill.specs.Drill.{SerialServer, Setting, IsLink, client_of, last_link, journal_of}
use Rattle.nr_drill.specs.Follows.{Follows, last_setting}
use Rattle.nr_drill.specs.Headline.{IsMatchedFromFirst}
use Rattle.nr_drill.specs.InBytes.{RepliedInBytes}
use Rattle.nr_drill.proofs.CarriedLinks.{follows_keeps}
use Rattle.nr_drill.proofs.BegunOrder.{LinksInOrder, le_or}
use Rattle.nr_drill.proofs.EarlierOnes.{earlier_one}
use Rattle.nr_drill.proofs.LeftLinks.{happened_within}
use Rattle.nr_drill.proofs.NumberedDrills.{held, order, wrote, outside, marks_within, older, typed, numbers, opens_with, matched_with, one_each, journaled, heard_link, heard_client}

-- what is so at each mark of a run is so at every mark
each_by : (P : List Mark → Mark → Type 0) (before run : List Mark) → ((part : List Mark) (mark : Mark) (rest : List Mark) → run ≡ part ++ mark ∷ rest → P (before ++ part) mark) → AtEachMark P before run
each_by P before [] all = tt
each_by P before (mark ∷ run) all = (
  subst (λ (b : List Mark). P b mark) (append-nil before) (all [] mark run refl),
  each_by P (before ++ mark ∷ []) run (λ part m rest e. subst (λ (b : List Mark). P b m) (sym (append_assoc before (mark ∷ []) part)) (all (mark ∷ part) m rest (ap (λ (r : List Mark). mark ∷ r) e))),
)

module _ (server : SerialServer) (script : ScriptLines) (run : List Mark) (is : IsScript script) (replied : RepliedInBytes run) (follows : Follows server script run) where
  abbrev t : Setting
  t = last_setting follows

  abbrev clients : ℕ
  clients = script.opening.clients

  abbrev links : ℕ
  links = length follows.last.opened

  in_order : LinksInOrder t clients links follows.last.last_links run
  in_order = order server script run is replied follows

  -- the client's first link
  first_of : (link : ℕ) → IsLink follows.last link → number_heard run link ≢ 0 → IsFirstOf t.opened run (number_heard run link) (client_of t link)
  first_of link within some = record {
    opening = (in_order.firsts c first_within owner.1).2;
    all = λ l same.
        (let own : number_heard run l ≢ 0 = (λ none. some (sym same ∙ none)) in
        let l_within = heard_link server script run is replied follows l own in
        let client : client_of t l ≡ c = heard_client server script run is replied follows l l_within own ∙ same ∙ sym (heard_client server script run is replied follows link within some) in
        earlier_one t clients links follows.last.last_links run in_order (wrote server script run is replied follows) (outside server script run is replied follows) c l first_within l_within
        ((in_order.firsts c first_within owner.1).0 ∙ sym client) (lowest l l_within client (le_or l clients)));
  }
    where
      c : ℕ
      c = client_of t link

      owner : (1 ≤ c) × (c ≤ clients)
      owner = in_order.owners link within

      first_within : IsLink follows.last c
      first_within = (owner.0, (let most = owner.1 in let many = in_order.many in omega (arith, most, many)))

      lowest : (l : ℕ) → IsLink follows.last l → client_of t l ≡ c → (l ≤ clients) ⊎ (clients < l) → c ≤ l
      lowest l l_within client (inl few) = (let own = (in_order.firsts l l_within few).0 in omega (arith, own, client))
      lowest l l_within client (inr more) = (let most = owner.1 in omega (arith, most, more))

  accepts_with : (link : ℕ) → IsLink follows.last link → AcceptsWithEarlier t.opened run link
  accepts_with link within earlier e = (follows_keeps server script run is replied follows earlier (older server script run is replied follows earlier link within e).0).accepts

  -- a link that was left was dropped
  left_dropped : (link : ℕ) (before after : List Mark) → run ≡ before ++ after → IsLink follows.last link → IsLeft t.opened run link before → is_dropped link run ≡ false → ⊥
  left_dropped link before after cut within left standing =
      let next_within =
      happened_within t clients links follows.last.last_links run in_order (wrote server script run is replied follows) (outside server script run is replied follows) (marks_within server script run is replied follows) left.next before after cut left.begun in
      let o = older server script run is replied follows link left.next next_within left.goes_on in
      let most = in_order.last left.next next_within in
      let lower = o.2 in
      let apart : link ≢ left.next = (λ same. left.other (sym same)) in
      let gone = in_order.gone link within
      (λ same. apart (let top = ap (λ (c : ℕ). last_link c follows.last) o.1 in omega (arith, same, top, most, lower))) in
      (let wrong = sym standing ∙ gone in absurd cc)

  pub standing_has_no_old : AddsOneAtMost server.adds → (link : ℕ) → IsLink follows.last link → IsMatchedFromFirst t run link → is_dropped link run ≡ false → (t.opened link).client.number ≢ 0 → HasNoOldCall link run
  standing_has_no_old few link within matched standing numbered = each_by (NotOldMark link) [] run by
    where
      some : number_heard run link ≢ 0
      some none = numbered (sym (numbers server script run is replied follows link within) ∙ none)

      by : (part : List Mark) (mark : Mark) (rest : List Mark) → run ≡ part ++ mark ∷ rest → NotOldMark link part mark
      by part (marks.Told l (told.Old xid at)) rest cut = λ same.
          (let at_mark : MarkAt run part (marks.Told link (told.Old xid at)) = record { after = rest; is = cut ∙ ap (λ (k : ℕ). part ++ marks.Told k (told.Old xid at) ∷ rest) same } in
          let left = no_call_is_old server.reply_to server.adds t.opened (client_of t link) link (journal_of t run) run part xid at (typed server script run is replied follows) (journaled server script run is replied follows) few
          (λ other numbered again. one_each server script run is replied follows link other numbered (sym again)) (first_of link within some) (opens_with server script run is replied follows link within) (matched_with server script run is replied follows link within matched)
          (accepts_with link within) ((held server script run is replied follows).links link within).terms.terms.2 at_mark in
          left_dropped link part (marks.Told l (told.Old xid at) ∷ rest) cut within left standing)
      by part (marks.Told l (told.Granted credits)) rest cut = tt
      by part (marks.Submit l call form answer) rest cut = tt
      by part (marks.Wrote l side bytes) rest cut = tt
      by part (marks.Fed l side bytes) rest cut = tt
      by part (marks.Execute l xid moment payload place reply) rest cut = tt
      by part (marks.Done l xid outcome) rest cut = tt
      by part (marks.Lost l xid) rest cut = tt
      by part (marks.Forget l xid) rest cut = tt
      by part (marks.Revoke l xid bytes) rest cut = tt
      by part (marks.Drop l) rest cut = tt
