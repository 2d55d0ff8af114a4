-- Tickets that stay open, are added, and are closed.
use Rattle.std.specs.Prelude.{is_some}
use Rattle.std.specs.List.{AllByRecursion, remove}
use Rattle.std.proofs.Common.{◌≡◌, ◌≢◌, ℕ, ◌<◌, arith, zero, suc, List, [], ◌∷◌, ◌++◌, length, get_or, Option, None, ap, sym, ◌∙◌}
use Rattle.nr_reduce.specs.declared.call.Call.{Call}
use Rattle.nr_requester.specs.RequesterState.{RequesterState}
use Rattle.nr_requester.specs.OpenCalls.{open_call, KeepsTickets, OpensTicket, ClosesTicket}
use Rattle.nr_world.specs.declared.awaited.AwaitedCall.{AwaitedCall}
use Rattle.nr_world.specs.OpenTickets.{IsTicketOpen, AreApart, AreOpen}

pub none_open : (r : RequesterState) → AreOpen r []
none_open r = record { all_open = tt; apart = tt }

-- ---- All stay as they were

all_kept : (r r2 : RequesterState) (calls : List AwaitedCall) → KeepsTickets r r2 → AllByRecursion (IsTicketOpen r) calls → AllByRecursion (IsTicketOpen r2) calls
all_kept r r2 [] kept all = tt
all_kept r r2 (call ∷ calls) kept all = (ap (λ (o : Option Call). is_some o) (kept call.ticket) ∙ all.0, all_kept r r2 calls kept all.1)

pub kept_open : (r r2 : RequesterState) (calls : List AwaitedCall) → KeepsTickets r r2 → AreOpen r calls → AreOpen r2 calls
kept_open r r2 calls kept h = record { all_open = all_kept r r2 calls kept h.all_open; apart = h.apart }

-- ---- One more

others_kept : (r r2 : RequesterState) (xid : ℕ) (calls : List AwaitedCall) → ((x : ℕ) → x ≢ xid → open_call x r2 ≡ open_call x r) → AllByRecursion (λ (other : AwaitedCall). other.ticket ≢ xid) calls →
    AllByRecursion (IsTicketOpen r) calls → AllByRecursion (IsTicketOpen r2) calls
others_kept r r2 xid [] others apart all = tt
others_kept r r2 xid (call ∷ calls) others apart all =
    (ap (λ (o : Option Call). is_some o) (others call.ticket apart.0) ∙ all.0, others_kept r r2 xid calls others apart.1 all.1)

-- an xid whose ticket isn't open is none of theirs
none_is : (r : RequesterState) (xid : ℕ) (calls : List AwaitedCall) → open_call xid r ≡ None → AllByRecursion (IsTicketOpen r) calls → AllByRecursion (λ (other : AwaitedCall). other.ticket ≢ xid) calls
none_is r xid [] none all = tt
none_is r xid (call ∷ calls) none all = (
  (λ e. absurd (let no = sym (ap (λ (x : ℕ). is_some (open_call x r)) e ∙ ap (λ (o : Option Call). is_some o) none) ∙ all.0 in cc)),
  none_is r xid calls none all.1,
)

one_more : (P : AwaitedCall → Type 0) (calls : List AwaitedCall) (call : AwaitedCall) → AllByRecursion P calls → P call → AllByRecursion P (calls ++ call ∷ [])
one_more P [] call all last = (last, tt)
one_more P (c ∷ calls) call all last = (all.0, one_more P calls call all.1 last)

apart_more : (calls : List AwaitedCall) (call : AwaitedCall) → AreApart calls → AllByRecursion (λ (other : AwaitedCall). other.ticket ≢ call.ticket) calls → AreApart (calls ++ call ∷ [])
apart_more [] call apart none = (tt, tt)
apart_more (c ∷ calls) call apart none =
    (one_more (λ (other : AwaitedCall). other.ticket ≢ c.ticket) calls call apart.0 (λ e. none.0 (sym e)), apart_more calls call apart.1 none.1)

-- a call whose ticket was opened is added
pub more_open : (r r2 : RequesterState) (calls : List AwaitedCall) (call : AwaitedCall) (of : Call) → OpensTicket call.ticket of r r2 → AreOpen r calls → AreOpen r2 (calls ++ call ∷ [])
more_open r r2 calls call of opens h =
    let apart : AllByRecursion (λ (other : AwaitedCall). other.ticket ≢ call.ticket) calls = none_is r call.ticket calls opens.fresh h.all_open in
    record {
      all_open = one_more (IsTicketOpen r2) calls call (others_kept r r2 call.ticket calls opens.others apart h.all_open) (ap (λ (o : Option Call). is_some o) opens.own);
      apart = apart_more calls call h.apart apart;
    }

-- ---- One of them

all_at : (P : AwaitedCall → Type 0) (calls : List AwaitedCall) (at : ℕ) (d : AwaitedCall) → AllByRecursion P calls → at < length calls → P (get_or calls at d)
all_at P [] at d all within = absurd (omega (arith, within))
all_at P (c ∷ calls) zero d all within = all.0
all_at P (c ∷ calls) (suc at) d all within = all_at P calls at d all.1 (omega (arith, within))

pub open_at : (r : RequesterState) (calls : List AwaitedCall) (at : ℕ) (d : AwaitedCall) → AreOpen r calls → at < length calls → IsTicketOpen r (get_or calls at d)
open_at r calls at d h within = all_at (IsTicketOpen r) calls at d h.all_open within

-- ---- One less

all_less : (P : AwaitedCall → Type 0) (calls : List AwaitedCall) (at : ℕ) → AllByRecursion P calls → AllByRecursion P (remove calls at)
all_less P [] zero all = all
all_less P [] (suc at) all = all
all_less P (c ∷ calls) zero all = all.1
all_less P (c ∷ calls) (suc at) all = (all.0, all_less P calls at all.1)

apart_less : (calls : List AwaitedCall) (at : ℕ) → AreApart calls → AreApart (remove calls at)
apart_less [] zero apart = apart
apart_less [] (suc at) apart = apart
apart_less (c ∷ calls) zero apart = apart.1
apart_less (c ∷ calls) (suc at) apart = (all_less (λ (other : AwaitedCall). other.ticket ≢ c.ticket) calls at apart.0, apart_less calls at apart.1)

not_it : (calls : List AwaitedCall) (at : ℕ) (d : AwaitedCall) → AreApart calls → at < length calls → AllByRecursion (λ (other : AwaitedCall). other.ticket ≢ (get_or calls at d).ticket) (remove calls at)
not_it [] at d apart within = absurd (omega (arith, within))
not_it (c ∷ calls) zero d apart within = apart.0
not_it (c ∷ calls) (suc at) d apart within =
    ((λ e. all_at (λ (other : AwaitedCall). other.ticket ≢ c.ticket) calls at d apart.0 (omega (arith, within)) (sym e)), not_it calls at d apart.1 (omega (arith, within)))

-- the call at a place is taken out, and its ticket was closed
pub less_open : (r r2 : RequesterState) (calls : List AwaitedCall) (at : ℕ) (d : AwaitedCall) → at < length calls → ClosesTicket (get_or calls at d).ticket r r2 → AreOpen r calls → AreOpen r2 (remove calls at)
less_open r r2 calls at d within closes h =
    record {
      all_open = others_kept r r2 (get_or calls at d).ticket (remove calls at) closes.others (not_it calls at d h.apart within) (all_less (IsTicketOpen r) calls at h.all_open);
      apart = apart_less calls at h.apart;
    }
