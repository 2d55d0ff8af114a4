-- Marks that follow others: what was exchanged by them, and one list of them after another.
use Rattle.std.proofs.Common.{◌≡◌, ℕ, Bool, true, cond, not, List, [], ◌∷◌, ◌++◌, length, Result, Ok, Err, arith, inl, inr, refl, sym, ap, subst, ◌∙◌, append_assoc, append-nil}
use Rattle.std.specs.List.{AllByRecursion}
use Rattle.std.specs.Io.KnownBytes.{Appends}
use Rattle.std.proofs.KnownBytes.{Appends-nil, Appends-trans}
use Rattle.std.proofs.lemmas.Grind.{flat_map-append}
use Rattle.std.proofs.lemmas.List.{length-append}
use Rattle.std.proofs.lemmas.List.Elements.{filter-append}
use Rattle.nr_outside.specs.Content.{HandsOut}
use Rattle.nr_outside.proofs.Moves.{HandsOut_append, HandsOut_nil}
use Rattle.nr_wire.specs.declared.hello.Side.TheVariants.{Initiator, Responder}
use Rattle.nr_link.specs.declared.end.End.TheVariants as ends
use Rattle.nr_reduce.specs.declared.mark.LinkParameters.{LinkParameters}
use Rattle.nr_reduce.specs.declared.mark.Mark.{Mark}
use Rattle.nr_reduce.specs.declared.mark.Mark.TheVariants as marks
use Rattle.nr_reduce.specs.History.{bytes_received, bytes_sent, fed_at, written_at}
use Rattle.nr_reduce.specs.Opening.{IsOpened}
use Rattle.nr_shared.specs.declared.call_end.CallEnd.TheVariants as calls
use Rattle.nr_client.specs.declared.client_end.ClientEnd.{ClientEnd}
use Rattle.nr_client.specs.declared.client_end.ClientEnd.TheVariants as client
use Rattle.nr_client.specs.Steps.{IsLive, WritesFirst}
use Rattle.nr_client.specs.Transfers.{IsTransfer, LinkBytes, Moves}
use Rattle.nr_client.specs.Views.{LinkView}
use Rattle.nr_client.proofs.Turns.{cut_after, first_both, whole_both}
use Rattle.nr_service_laws.specs.ClientMarks.{AreMarksOf, IsOwn, IsWholeFor, IsWrittenAt, LacksOutcome, StandsAt, exchange_marks, moves_bytes, without_bytes}
use Rattle.nr_service_laws.specs.SessionMarks.{Does, Extends, HasDone, LetsGoOn}
use Rattle.nr_service_laws.specs.Exchanges.{Exchange, Exchanges, and_then, none}

-- ---- Lists of marks, one after another

pub received_all : (link : ℕ) (run more : List Mark) → bytes_received link Initiator (run ++ more) ≡ bytes_received link Initiator run ++ bytes_received link Initiator more
unfolding bytes_received
received_all link run more = flat_map-append (fed_at link Initiator) run more

pub sent_all : (link : ℕ) (run more : List Mark) → bytes_sent link Initiator (run ++ more) ≡ bytes_sent link Initiator run ++ bytes_sent link Initiator more
unfolding bytes_sent
sent_all link run more = flat_map-append (written_at link Initiator) run more

pub without_all : (run more : List Mark) → without_bytes (run ++ more) ≡ without_bytes run ++ without_bytes more
without_all run more = filter-append (λ (mark : Mark). not (moves_bytes mark)) run more

pub own_all : (link : ℕ) (run more : List Mark) → AllByRecursion (IsOwn link) run → AllByRecursion (IsOwn link) more → AllByRecursion (IsOwn link) (run ++ more)
own_all link [] more first second = second
own_all link (m ∷ run) more first second = (first.0, own_all link run more first.1 second)

pub exchanges_all : (link : ℕ) (made then : List Exchange) (run more : List Mark) → AreMarksOf link made run → AreMarksOf link then more → AreMarksOf link (made ++ then) (run ++ more)
exchanges_all link [] then run more first second = subst (λ (l : List Mark). AreMarksOf link then (l ++ more)) (sym first) second
exchanges_all link (e ∷ made) then run more (xid, rest, (is, are)) second =
    (xid, rest ++ more, (ap (λ (l : List Mark). l ++ more) is ∙ append_assoc (exchange_marks link e xid) rest more, exchanges_all link made then rest more are second))

-- a transfer is a mark of the client without an exchange
transfer_is : (link : ℕ) (m : Mark) → IsTransfer link m → IsOwn link m × (moves_bytes m ≡ true)
transfer_is link (marks.Wrote l Initiator bytes) own = (own, refl)
transfer_is link (marks.Fed l Initiator bytes) own = (own, refl)
transfer_is link (marks.Wrote l Responder bytes) own = absurd own
transfer_is link (marks.Fed l Responder bytes) own = absurd own
transfer_is link (marks.Submit l call form answer) own = absurd own
transfer_is link (marks.Execute l xid moment payload place reply) own = absurd own
transfer_is link (marks.Done l xid outcome) own = absurd own
transfer_is link (marks.Lost l xid) own = absurd own
transfer_is link (marks.Forget l xid) own = absurd own
transfer_is link (marks.Revoke l xid bytes) own = absurd own
transfer_is link (marks.Drop l) own = absurd own
transfer_is link (marks.Told l what) own = absurd own

pub transfers_own : (link : ℕ) (moved : List Mark) → AllByRecursion (IsTransfer link) moved → AllByRecursion (IsOwn link) moved
transfers_own link [] own = tt
transfers_own link (m ∷ moved) own = ((transfer_is link m own.0).0, transfers_own link moved own.1)

pub transfers_none : (link : ℕ) (moved : List Mark) → AllByRecursion (IsTransfer link) moved → without_bytes moved ≡ []
transfers_none link [] own = refl
transfers_none link (m ∷ moved) own =
    ap (λ (b : Bool). cond (not b) (m ∷ without_bytes moved) (without_bytes moved)) (transfer_is link m own.0).1 ∙ transfers_none link moved own.1

-- ---- Extending

pub extends_none : (opened : LinkParameters) (link : ℕ) (run : List Mark) (b : LinkBytes) → Extends opened link run b b [] [] []
unfolding bytes_received bytes_sent
extends_none opened link run b = record {
  own = tt;
  handed = HandsOut_nil b.left b.given;
  taken = Appends-nil b.taken;
  count = omega arith;
  first = tt;
  marks_are = refl;
}

pub extends_moved : (opened : LinkParameters) (link : ℕ) (run : List Mark) (b c : LinkBytes) (ahead : List ℕ) (moved : List Mark)
    → Moves link b c ahead moved → WritesFirst opened link run moved → Extends opened link run b c ahead [] moved
extends_moved opened link run b c ahead moved moves first = record {
  own = transfers_own link moved moves.own;
  handed = moves.handed;
  taken = moves.taken;
  count = moves.count;
  first = first;
  marks_are = transfers_none link moved moves.own;
}

pub extends_both : (opened : LinkParameters) (link : ℕ) (run : List Mark) (b c d : LinkBytes) (ahead : List ℕ) (made then : List Exchange) (more later : List Mark)
    → Extends opened link run b c [] made more → Extends opened link (run ++ more) c d ahead then later → Extends opened link run b d ahead (made ++ then) (more ++ later)
extends_both opened link run b c d ahead made then more later one two =
    let got = bytes_received link Initiator more in
    let then_got = bytes_received link Initiator later in
    let all : bytes_received link Initiator (more ++ later) ++ ahead ≡ (got ++ []) ++ (then_got ++ ahead) =
    ap (λ (bytes : List ℕ). bytes ++ ahead) (received_all link more later) ∙ append_assoc got then_got ahead
    ∙ ap (λ (bytes : List ℕ). bytes ++ (then_got ++ ahead)) (sym (append-nil got)) in
    record {
      own = own_all link more later one.own two.own;
      handed = subst (HandsOut b.left b.given d.left d.given) (sym all)
          (HandsOut_append b.left b.given c.left c.given d.left d.given (got ++ []) (then_got ++ ahead) one.handed two.handed);
      taken = subst (Appends b.taken d.taken) (sym (sent_all link more later))
          (Appends-trans b.taken c.taken d.taken (bytes_sent link Initiator more) (bytes_sent link Initiator later) one.taken two.taken);
      count = (let a = one.count in let z = two.count in let len = ap length all in let both = length-append (got ++ []) (then_got ++ ahead) in omega (arith, a, z, len, both));
      first = first_both opened link run more later one.first two.first;
      marks_are = subst (λ (l : List Mark). AreMarksOf link (made ++ then) l) (sym (without_all more later))
          (exchanges_all link made then (without_bytes more) (without_bytes later) one.marks_are two.marks_are);
    }

-- ---- Doing

-- nothing was done
pub does_none : {A : Type 0} (result : Result A ClientEnd) (v : LinkView) → HasDone result v v none
does_none result v opened link run fine live = record {
  more = [];
  ahead = [];
  extends = extends_none opened link run v.bytes;
  stands = inl (subst (λ (all : List Mark). IsLive opened link v.requester all) (sym (append-nil run)) live, refl);
  written = tt;
  lacks = tt;
  whole = inr tt;
}

pub does_none_at : {A : Type 0} (result : Result A ClientEnd) (v w : LinkView) → w ≡ v → HasDone result v w none
does_none_at result v w same = subst (λ (x : LinkView). HasDone result v x none) (sym same) (does_none result v)

-- with another result: memory ran out for a frame only if it does for the other one
pub does_as : {A B : Type 0} (result : Result A ClientEnd) (given : Result B ClientEnd) (v w : LinkView) (exchanges : Exchanges)
    → ((end : ClientEnd) → result ≡ Err end → given ≡ Err end) → HasDone result v w exchanges → HasDone given v w exchanges
does_as result given v w exchanges same does opened link run fine live =
    let done = does opened link run fine live in
    record {
      more = done.more;
      ahead = done.ahead;
      extends = done.extends;
      stands = by done.ahead (run ++ done.more) done.stands;
      written = done.written;
      lacks = done.lacks;
      whole = whole_as run done.more done.whole;
    }
  where
    whole_as : (before more : List Mark) → IsWholeFor result opened link before more → IsWholeFor given opened link before more
    whole_as before more (inl failed) = inl (same (client.Link calls.LinkWrite) failed.0, failed.1)
    whole_as before more (inr whole) = inr whole

    by : (ahead : List ℕ) (all : List Mark) → StandsAt result opened link w.requester ahead all → StandsAt given opened link w.requester ahead all
    by ahead all (inl stands) = inl stands
    by ahead all (inr (is, out)) = inr (same (client.Link (calls.Ended ends.Memory)) is, out)

whole_more : {A B : Type 0} (given : Result A ClientEnd) (result : Result B ClientEnd) (opened : LinkParameters) (link : ℕ) (run more later : List Mark) → LetsGoOn given → IsWholeFor given opened link run more
    → IsWholeFor result opened link (run ++ more) later → IsWholeFor result opened link run (more ++ later)
whole_more given result opened link run more later on (inl failed) second = absurd (on.written failed.0)
whole_more given result opened link run more later on (inr first) (inl failed) = inl (failed.0, cut_after opened link run more later first failed.1)
whole_more given result opened link run more later on (inr first) (inr second) = inr (whole_both opened link run more later first second)

does_more : {A B : Type 0} (given : Result A ClientEnd) (result : Result B ClientEnd) (opened : LinkParameters) (link : ℕ) (run : List Mark) (b : LinkBytes) (v w : LinkView) (exchanges later : Exchanges)
    → LetsGoOn given → HasDone result v w later → IsOpened opened → (more : List Mark) (ahead : List ℕ) → Extends opened link run b v.bytes ahead exchanges.made more
    → StandsAt given opened link v.requester ahead (run ++ more) → IsWholeFor given opened link run more → Does result opened link run b w.bytes w.requester (and_then exchanges later)
does_more given result opened link run b v w exchanges later on does fine more ahead extends (inl (live, fed)) whole =
    let done = does opened link (run ++ more) fine live in
    let before : Extends opened link run b v.bytes [] exchanges.made more = subst (λ (l : List ℕ). Extends opened link run b v.bytes l exchanges.made more) fed extends in
    record {
      more = more ++ done.more;
      ahead = done.ahead;
      extends = extends_both opened link run b v.bytes w.bytes done.ahead exchanges.made later.made more done.more before done.extends;
      stands = subst (λ (all : List Mark). StandsAt result opened link w.requester done.ahead all) (append_assoc run more done.more) done.stands;
      written = subst (λ (all : List Mark). IsWrittenAt later.unanswered opened link all) (append_assoc run more done.more) done.written;
      lacks = subst (λ (all : List Mark). LacksOutcome later.lost opened link all) (append_assoc run more done.more) done.lacks;
      whole = whole_more given result opened link run more done.more on whole done.whole;
    }
does_more given result opened link run b v w exchanges later on does fine more ahead extends (inr (is, out)) whole = absurd (on.fed is)

-- one thing was done, and then another
pub does_after : {A B : Type 0} (given : Result A ClientEnd) (result : Result B ClientEnd) (u v w : LinkView) (exchanges later : Exchanges)
    → LetsGoOn given → HasDone given u v exchanges → HasDone result v w later → HasDone result u w (and_then exchanges later)
does_after given result u v w exchanges later on one two opened link run fine live =
    let done = one opened link run fine live in
    does_more given result opened link run u.bytes v w exchanges later on two fine done.more done.ahead done.extends done.stands done.whole

pub has_value : {A : Type 0} (value : A) → LetsGoOn {A = A} (Ok value)
has_value value = record { written = λ e. absurd cc; fed = λ e. absurd cc }

pub does_both : {A B : Type 0} (value : A) (result : Result B ClientEnd) (u v w : LinkView) (exchanges later : Exchanges)
    → HasDone {A = A} (Ok value) u v exchanges → HasDone result v w later → HasDone result u w (and_then exchanges later)
does_both {A} value result u v w exchanges later one two = does_after {A = A} (Ok value) result u v w exchanges later (has_value value) one two
