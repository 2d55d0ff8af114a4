-- The READs of a job that are outstanding.
use Rattle.std.proofs.Common.{◌≡◌, arith, ℕ, suc, ◌<◌, ◌≤◌, List, [], ◌∷◌, ◌++◌, length, Ok, sym, ap, subst, ◌∙◌}
use mathlib.Core.Option.{some}
use lib.ListN.{get_elem?}
use Rattle.nr_reduce.specs.declared.call.Call.{Call}
use Rattle.nr_reduce.specs.declared.call.Form.TheVariants as forms
use Rattle.nr_requester.specs.declared.taking.Done.{Done}
use Rattle.nr_turnstile.specs.declared.turnstile.Pass.{Pass}
use Rattle.nr_turnstile.specs.Passes.{mine_of, seen_by}
use Rattle.nr_turnstile.specs.Rule.{Begins, IsIn, IsOpen, Lies}
use Rattle.nr_shared.specs.declared.call_end.CallEnd.{CallEnd}
use Rattle.nr_shared.specs.declared.entry.Entry.{Entry}
use Rattle.nr_shared.specs.declared.entry.Entry.TheVariants as entries
use Rattle.nr_shared.specs.declared.requester_with_sink.RequesterWithSink.{RequesterWithSink}
use Rattle.nr_shared.specs.Callers.{HasOpenCall, KeepsOpen, KeepsOthers}
use Rattle.nr_shared.specs.Histories.{IsCallAt, closes_of}
use Rattle.nr_shared.specs.Waiting.{ForgetsCall, GivesUp, Sends, Waits}
use Rattle.nr_shared.proofs.Asking.{asked_just}
use Rattle.nr_shared.proofs.Lists.{in_more}
use Rattle.nr_client.specs.declared.fetching.AskedPiece.{AskedPiece}
use Rattle.nr_client.specs.Jobs.{IsExchange}
use Rattle.nr_client.specs.Reading.{piece_left, read_call}
use Rattle.nr_client.specs.private.JobReads.{AreAsked, AreAskedFrom, Grows, IsAskedAt}
use Rattle.nr_client.proofs.JobCalls.{grows_adds, in_later, last_at, still_there}

-- the READ of a piece
abbrev read_of : (uid gid : ℕ) → (file : List ℕ) → (size : ℕ) → AskedPiece → Call
read_of uid gid file size asked = read_call uid gid file asked.at (piece_left size asked.at)

abbrev submit_of : (uid gid : ℕ) → (file : List ℕ) → (size : ℕ) → AskedPiece → Entry
submit_of uid gid file size asked = entries.Submit (read_of uid gid file size asked) forms.Auto asked.ticket

module _ {O C : Type 0} (uid gid : ℕ) (file : List ℕ) (size : ℕ) where
  asked_on : (p q : Pass (RequesterWithSink O C) Entry) (k : ℕ) (asked : AskedPiece) → Begins (seen_by p) (seen_by q) → IsOpen closes_of (seen_by q) (mine_of q) k
      → IsAskedAt uid gid file size p k asked → IsAskedAt uid gid file size q k asked
  asked_on p q k asked begins opened is = record { stands = still_there (seen_by p) (seen_by q) k (submit_of uid gid file size asked) begins is.stands; opened = opened }

  -- places from this one on stay open
  all_on : (p q : Pass (RequesterWithSink O C) Entry) (from : ℕ) (asked : List AskedPiece) → Begins (seen_by p) (seen_by q)
      → ((k : ℕ) → from ≤ k → IsOpen closes_of (seen_by p) (mine_of p) k → IsOpen closes_of (seen_by q) (mine_of q) k)
      → AreAskedFrom uid gid file size p from asked → AreAskedFrom uid gid file size q from asked
  all_on p q from [] begins keeps are = tt
  all_on p q from (one ∷ more) begins keeps (k, (above, (is, rest))) =
      (k, (above, (asked_on p q k one begins (keeps k above is.opened) is, all_on p q (suc k) more begins (λ j beyond opened. keeps j (omega (arith, above, beyond)) opened) rest)))

  from_lower : (p : Pass (RequesterWithSink O C) Entry) (low from : ℕ) (asked : List AskedPiece) → low ≤ from → AreAskedFrom uid gid file size p from asked → AreAskedFrom uid gid file size p low asked
  from_lower p low from [] below are = tt
  from_lower p low from (one ∷ more) below (k, (above, rest)) = (k, (omega (arith, below, above), rest))

  one_more : (p q : Pass (RequesterWithSink O C) Entry) (from : ℕ) (asked : List AskedPiece) (k : ℕ) (last : AskedPiece) → Lies (seen_by p) (mine_of p) → Begins (seen_by p) (seen_by q) → KeepsOpen p q
      → from ≤ k → length (seen_by p) ≤ k → IsAskedAt uid gid file size q k last → AreAskedFrom uid gid file size p from asked → AreAskedFrom uid gid file size q from (asked ++ last ∷ [])
  one_more p q from [] k last lies begins keeps low new is are = (k, (low, (is, tt)))
  one_more p q from (one ∷ more) k last lies begins keeps low new is (j, (above, (it, rest))) =
      let below : j < length (seen_by p) = lies j it.opened.0 in
      (j, (above, (asked_on p q j one begins (keeps j it.opened) it, one_more p q (suc j) more k last lies begins keeps (omega (arith, below, new)) new is rest)))

  -- ---- What calls do

  -- all places stay open
  pub asked_still : (p q : Pass (RequesterWithSink O C) Entry) (asked : List AskedPiece) → Begins (seen_by p) (seen_by q) → KeepsOpen p q → AreAsked uid gid file size p asked → AreAsked uid gid file size q asked
  asked_still p q asked begins keeps are = all_on p q 0 asked begins (λ k above opened. keeps k opened) are

  pub asked_more : (p q : Pass (RequesterWithSink O C) Entry) (asked : List AskedPiece) (at count xid : ℕ) (call : Call) → call ≡ read_call uid gid file at count → count ≡ piece_left size at
      → Lies (seen_by p) (mine_of p) → Sends p q call forms.Auto xid → AreAsked uid gid file size p asked → AreAsked uid gid file size q (asked ++ record { at = at; ticket = xid } ∷ [])
  asked_more p q asked at count xid call is same lies sent are =
      let last : AskedPiece = record { at = at; ticket = xid } in
      let read : call ≡ read_of uid gid file size last = is ∙ ap (λ (n : ℕ). read_call uid gid file at n) same in
      one_more p q 0 asked sent.at last lies sent.adds.seen sent.keeps (omega arith) sent.new
      (record { stands = subst (λ (c : Call). get_elem? (seen_by q) sent.at ≡ some (entries.Submit c forms.Auto xid)) read sent.stands; opened = sent.opened }) are

  is_call : (p : Pass (RequesterWithSink O C) Entry) (k : ℕ) (asked : AskedPiece) → IsAskedAt uid gid file size p k asked → IsCallAt (seen_by p) asked.ticket k (read_of uid gid file size asked)
  is_call p k asked is = (submit_of uid gid file size asked, is.stands, asked_just asked.ticket (read_of uid gid file size asked) forms.Auto)

  pub oldest_open : (p : Pass (RequesterWithSink O C) Entry) (oldest : AskedPiece) (more : List AskedPiece) → Lies (seen_by p) (mine_of p) → AreAsked uid gid file size p (oldest ∷ more) → HasOpenCall p oldest.ticket
  oldest_open p oldest more lies (k, (above, (is, rest))) = record { at = k; call = read_of uid gid file size oldest; is_call = is_call p k oldest is; stays = is.opened; lies = lies }

  -- the place of the oldest is closed
  others_asked : (p q : Pass (RequesterWithSink O C) Entry) (k : ℕ) (more : List AskedPiece) → Begins (seen_by p) (seen_by q) → KeepsOthers k p q → AreAskedFrom uid gid file size p (suc k) more → AreAsked uid gid file size q more
  others_asked p q k more begins keeps rest =
      from_lower q 0 (suc k) more (omega arith) (all_on p q (suc k) more begins (λ j beyond opened. keeps j (λ same. absurd (omega (arith, beyond, same))) opened) rest)

  pub oldest_taken : (p q : Pass (RequesterWithSink O C) Entry) (oldest : AskedPiece) (more : List AskedPiece) (done : Done) → Waits p q oldest.ticket (Ok done) → AreAsked uid gid file size p (oldest ∷ more)
      → IsExchange (seen_by q) (mine_of q) (read_call uid gid file oldest.at (piece_left size oldest.at)) done.outcome × (AreAsked uid gid file size q more × Grows p q)
  oldest_taken p q oldest more done waits (k, (above, (is, rest))) =
      let w = waits k (read_of uid gid file size oldest) (is_call p k oldest is) is.opened in
      let l = last_at (seen_by q) w.adds.places w.writes (entries.Done oldest.ticket done.outcome k) w.adds.at in (
        record {
          xid = oldest.ticket;
          at = k;
          asked = still_there (seen_by p) (seen_by q) k (submit_of uid gid file size oldest) w.adds.seen is.stands;
          done = l.0;
          answered = l.1.1;
          own = (subst (IsIn k) (sym w.adds.mine) (in_more (mine_of p) w.adds.places k is.opened.0), subst (IsIn l.0) (sym w.adds.mine) (in_later (mine_of p) w.adds.places l.0 l.1.0));
        },
        (others_asked p q k more w.adds.seen w.keeps rest, grows_adds p q (w.writes ++ entries.Done oldest.ticket done.outcome k ∷ []) w.adds),
      )

  pub oldest_given_up : (p q : Pass (RequesterWithSink O C) Entry) (oldest : AskedPiece) (more : List AskedPiece) (end : CallEnd) → GivesUp p q oldest.ticket end → AreAsked uid gid file size p (oldest ∷ more)
      → AreAsked uid gid file size q more × Grows p q
  oldest_given_up p q oldest more end gives (k, (above, (is, rest))) =
      let w = gives k (read_of uid gid file size oldest) (is_call p k oldest is) is.opened in
      (others_asked p q k more w.adds.seen w.keeps rest, grows_adds p q (w.writes ++ entries.Forget oldest.ticket k ∷ []) w.adds)

  pub oldest_forgotten : (p q : Pass (RequesterWithSink O C) Entry) (oldest : AskedPiece) (more : List AskedPiece) → ForgetsCall p q oldest.ticket → AreAsked uid gid file size p (oldest ∷ more)
      → AreAsked uid gid file size q more × Grows p q
  oldest_forgotten p q oldest more forgets (k, (above, (is, rest))) =
      let w = forgets k (read_of uid gid file size oldest) (is_call p k oldest is) is.opened in
      (others_asked p q k more w.adds.seen w.keeps rest, grows_adds p q (entries.Forget oldest.ticket k ∷ []) w.adds)
