-- What a path leads to at a place of a journal, and what was answered there, in a longer journal.
use Rattle.std.proofs.Common.{◌≡◌, ℕ, ◌≤◌, List, [], ◌∷◌, ◌++◌, length, take, drop, sym, ap, subst, arith, length-append, take-append-drop}
use Rattle.std.proofs.lemmas.List.{take-append-le}
use Rattle.std.specs.List.{AllByRecursion}
use Rattle.std.specs.Prelude.{Some}
use Rattle.nr_reduce.specs.declared.call.Call.{Call}
use Rattle.nr_reduce.specs.declared.call.Outcome.{Outcome}
use Rattle.nr_reduce.specs.declared.mark.Entry.{Entry}
use Rattle.nr_reduce.specs.ClientState.{call_payload}
use Rattle.nr_tree.specs.Tree.{Tree}
use Rattle.nr_tree.specs.declared.node.Content.TheVariants.{Regular}
use Rattle.nr_plain.specs.Journal.{state_of, tree_at}
use Rattle.nr_plain.specs.Setup.{Setup}
use Rattle.nr_service_laws.specs.Exchanges.{Exchange}
use Rattle.nr_service_laws.specs.Exchanges.Exchange.{Answered, Forgotten, GivenUp, HandedOver, Submitted}
use Rattle.nr_pair_laws.specs.FilesAt.{content_at, handle_along}
use Rattle.nr_pair_laws.specs.Pairs.{AreAnsweredFrom, IsAnsweredAt, IsAnsweredBetween, OpenCall, place_after}
use Rattle.nr_pair_laws.specs.PutThenGet.{FilesInLongerJournals, root_handle}
use Rattle.nr_pair_laws.proofs.PlacedCalls.{at_place_later}

pub files_in_longer_journals_lem : FilesInLongerJournals
files_in_longer_journals_lem s J more names bytes place within h =
    let same : tree_at s (J ++ more) place ≡ tree_at s J place = ap (λ (K : List Entry). (state_of s K).tree) (take-append-le place J more within) in
    record {
      file = h.file;
      leads = subst (λ (t : Tree). handle_along t root_handle names ≡ Some h.file) (sym same) h.leads;
      holds = subst (λ (t : Tree). content_at t h.file ≡ Some (Regular bytes)) (sym same) h.holds;
    }

-- what was answered at a place of the beginning of a journal was answered there in the journal
abbrev answered_there : (s : Setup) (J more : List Entry) (call : Call) (o : Outcome) (place : ℕ) → IsAnsweredAt s J call o place → IsAnsweredAt s (J ++ more) call o place
answered_there s J more call o place a =
    record { xid = a.xid; fits = a.fits; moment = a.moment; reply = a.reply; is = a.is; at = at_place_later s J more a.moment (call_payload a.xid call) place a.reply a.at }

-- what was answered at places of the beginning of a journal was answered at those places of the journal
between_later : (s : Setup) (J more : List Entry) (xid : ℕ) (outcome : Outcome) (next : ℕ) (waiting : List OpenCall)
    → AllByRecursion (λ (c : OpenCall). c.xid ≡ xid → IsAnsweredBetween s J c.call outcome c.least next) waiting
    → AllByRecursion (λ (c : OpenCall). c.xid ≡ xid → IsAnsweredBetween s (J ++ more) c.call outcome c.least next) waiting
between_later s J more xid outcome next [] all = tt
between_later s J more xid outcome next (c ∷ waiting) (one, all) = (by, between_later s J more xid outcome next waiting all)
  where
    by : c.xid ≡ xid → IsAnsweredBetween s (J ++ more) c.call outcome c.least next
    by same = let a = one same in (a.0, (answered_there s J more c.call outcome a.0 a.1.0, a.1.1))

pub answered_later : (s : Setup) (J more : List Entry) (made : List Exchange) (waiting : List OpenCall) (least : ℕ) → AreAnsweredFrom s J least waiting made → AreAnsweredFrom s (J ++ more) least waiting made
answered_later s J more [] waiting least low = let sum = length-append J more in (let m : least ≤ length (J ++ more) = omega (arith, low, sum) in m)
answered_later s J more (Answered call outcome ∷ made) waiting least (place, (a, (low, rest))) =
    (place, (answered_there s J more call outcome place a, (low, answered_later s J more made waiting (place_after s J call outcome place a) rest)))
answered_later s J more (Submitted xid call ∷ made) waiting least are = answered_later s J more made (record { xid = xid; call = call; least = least } ∷ waiting) least are
answered_later s J more (HandedOver xid outcome ∷ made) waiting least (next, (low, (all, rest))) =
    (next, (low, (between_later s J more xid outcome next waiting all, answered_later s J more made waiting next rest)))
answered_later s J more (Forgotten call ∷ made) waiting least are = answered_later s J more made waiting least are
answered_later s J more (GivenUp xid ∷ made) waiting least are = answered_later s J more made waiting least are

pub answered_in_all : (s : Setup) (J : List Entry) (n least : ℕ) (made : List Exchange) → AreAnsweredFrom s (take n J) least [] made → AreAnsweredFrom s J least [] made
answered_in_all s J n least made are =
    subst (λ (K : List Entry). AreAnsweredFrom s K least [] made) (take-append-drop n J) (answered_later s (take n J) (drop n J) made [] least are)
