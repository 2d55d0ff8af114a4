-- A call that is executed is pending, with what the plan of its Submit offers.
use Rattle.std.proofs.Common.{◌≡◌, ℕ, Bool, true, false, cond, ◌||◌, eqb, List, [], ◌∷◌, ◌++◌, Option, None, Some, refl, sym, ap, ◌∙◌, append-nil}
use Rattle.std.specs.List.{find, list_any}
use Rattle.nr_wire.specs.declared.hello.Side.TheVariants.{Responder}
use Rattle.nr_link.specs.declared.end.End.{End}
use Rattle.nr_reduce.specs.declared.mark.Mark.{Mark}
use Rattle.nr_reduce.specs.declared.mark.Mark.TheVariants as marks
use Rattle.nr_reduce.specs.Matched.{IsPrefixOf}
use Rattle.nr_reduce.specs.Events.{RunEvent, events}
use Rattle.nr_reduce.specs.ServerState.{ServerState, PendingCall, ReadyCall}
use Rattle.nr_reduce.specs.Served.{ServedMark, IsExecuted, first_ready, next_call}
use Rattle.nr_reduce.specs.Server.{offer_by}
use Rattle.nr_reduce.specs.Run.{server}
use Rattle.nr_laws.specs.Typed.{TypedMark}
use Rattle.nr_laws.specs.ChunkOutcomes.{OffersArePlanned}
use Rattle.nr_laws.proofs.OnceByXid.{at_mark, before_mark}
use Rattle.nr_laws.proofs.Following.{far_before}
use Rattle.nr_laws.proofs.ExecutedCalls.{live_server}
use Rattle.nr_laws.proofs.PendingExecuted.{executed_there}
use Rattle.nr_laws.proofs.KeptOffers.{pending_offer}
use Rattle.nr_laws.proofs.KeptAtServer.{kept_at_server}

first_others : (ready : List ReadyCall) (ended : Option End) (r : ReadyCall) → first_ready ready ended ≡ Some r → (others : List ReadyCall) × (ready ≡ r ∷ others)
first_others ready (Some end) r e = absurd cc
first_others [] None r e = absurd cc
first_others (x ∷ ready) None r e = (ready, (let same : x ≡ r = (let s : Some x ≡ Some r = e in cc) in λ i. same i ∷ ready))

found_any : (xid : ℕ) (calls : List PendingCall) → list_any (λ (c : PendingCall). eqb c.xid xid) calls ≡ true → (c : PendingCall) × (find (λ (x : PendingCall). eqb x.xid xid) calls ≡ Some c)
found_any xid [] e = absurd cc
found_any xid (d ∷ calls) e = by (eqb d.xid xid) e (found_any xid calls)
  where
    by : (b : Bool) → (b || list_any (λ (c : PendingCall). eqb c.xid xid) calls) ≡ true
        → (list_any (λ (c : PendingCall). eqb c.xid xid) calls ≡ true → (c : PendingCall) × (find (λ (x : PendingCall). eqb x.xid xid) calls ≡ Some c))
        → (c : PendingCall) × (cond b (Some d) (find (λ (x : PendingCall). eqb x.xid xid) calls) ≡ Some c)
    by true e later = (d, refl)
    by false e later = later e

pub offers_are_planned : OffersArePlanned
unfolding server next_call
offers_are_planned opened link run before xid plan moment payload place reply typed far has at =
    let mark : Mark = marks.Execute link xid moment payload place reply in
    let x : IsExecuted opened link before xid payload = at_mark (ServedMark IsPrefixOf opened link) run before mark at.after at.is far.served refl in
    let first = before_mark TypedMark run before mark at.after at.is typed in
    let so_far = far_before opened link run before mark at.after at.is far in
    let es : List RunEvent = events link Responder before in
    let k : ServerState = (server opened link before).state in
    let all : es ≡ es ++ [] = sym (append-nil es) in
    let holds = kept_at_server opened link before first so_far.served es [] all in
    let ready = first_others k.ready (server opened link before).ended x.call x.is_next in
    let c = found_any xid k.calls (executed_there k xid x.call ready.0 holds.agree ready.1 x.own) in
    let offer = pending_offer opened link run before mark at.after xid plan first so_far far.asked at.is has es [] all (live_server opened link before x.call x.is_next) c.0 c.1 in
    ap offer_by c.1 ∙ offer.lists
