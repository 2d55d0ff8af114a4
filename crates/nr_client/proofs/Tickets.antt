-- Which tickets are open after calls of a link.
use Rattle.std.proofs.Common.{◌≡◌, ◌≢◌, ℕ, Bool, true, false, eqb, List, [], ◌∷◌, ◌++◌, None, is_some, length, slice_index_or, ◌<◌, arith, refl, sym, ap, subst, ◌∙◌}
use Rattle.std.specs.List.{AllByRecursion, remove}
use Rattle.std.proofs.lemmas.Bool.{eqb-true, eqb-false}
use Rattle.nr_reduce.specs.declared.call.Call.{Call}
use Rattle.nr_requester.specs.OpenCalls.{ClosesTicket, KeepsTickets, OpensTicket, open_call}
use Rattle.nr_requester.specs.RequesterState.{RequesterSide, RequesterState}
use Rattle.nr_client.specs.Calls.{link_relations}
use Rattle.nr_client.specs.Reading.{ForgetsCallsOver}
use Rattle.nr_client.specs.Relations.{CallRelations, ClosesTicketOver, KeepsTicketsOver, OpensTicketOver}
use Rattle.nr_client.specs.Views.{LinkView}
use Rattle.nr_client.specs.private.OpenReads.{AreOpen}

pub keeps_itself : (h i : RequesterSide) → i ≡ h → KeepsTickets h.state i.state
keeps_itself h i same xid = ap (λ (x : RequesterSide). open_call xid x.state) same

pub keeps_then : (r s t : RequesterState) → KeepsTickets r s → KeepsTickets s t → KeepsTickets r t
keeps_then r s t first second xid = second xid ∙ first xid

pub opens_after : (xid : ℕ) (call : Call) (r s t : RequesterState) → KeepsTickets r s → OpensTicket xid call s t → OpensTicket xid call r t
opens_after xid call r s t keeps opens = record {
  fresh = sym (keeps xid) ∙ opens.fresh;
  own = opens.own;
  others = λ x apart. opens.others x apart ∙ keeps x;
}

pub closes_after : (xid : ℕ) (r s t : RequesterState) → KeepsTickets r s → ClosesTicket xid s t → ClosesTicket xid r t
closes_after xid r s t keeps closes = record { own = closes.own; others = λ x apart. closes.others x apart ∙ keeps x }

-- a call that was made, and whose ticket is closed
pub opened_and_closed : (xid : ℕ) (call : Call) (r s t : RequesterState) → OpensTicket xid call r s → ClosesTicket xid s t → KeepsTickets r t
opened_and_closed xid call r s t opens closes x = by (eqb x xid) refl
  where
    by : (b : Bool) → eqb x xid ≡ b → open_call x t ≡ open_call x r
    by true is =
        let same : x ≡ xid = eqb-true x xid is in
        subst (λ (y : ℕ). open_call y t ≡ open_call y r) (sym same) (closes.own ∙ sym opens.fresh)
    by false is =
        let apart : x ≢ xid = eqb-false x xid is in
        closes.others x apart ∙ opens.others x apart

-- ---- A link of one caller

pub opens_call : (xid : ℕ) (call : Call) (v w : LinkView) → OpensTicket xid call v.requester.state w.requester.state → OpensTicketOver link_relations xid call v w
opens_call xid call v w opens = record { fresh = opens.fresh; own = opens.own; others = opens.others }

pub closes_call : (xid : ℕ) (v w : LinkView) → ClosesTicket xid v.requester.state w.requester.state → ClosesTicketOver link_relations xid v w
closes_call xid v w closes = record { own = closes.own; others = closes.others }

-- ---- The tickets of READs

pub still_open : {V : Type 0} (rel : CallRelations V) (v w : V) (xids : List ℕ) → KeepsTicketsOver rel v w → AreOpen rel v xids → AreOpen rel w xids
still_open rel v w [] keeps are = are
still_open rel v w (xid ∷ xids) keeps are = (ap is_some (keeps xid) ∙ are.0, (are.1.0, still_open rel v w xids keeps are.1.1))

-- other tickets are as they were
open_beside : {V : Type 0} (rel : CallRelations V) (xid : ℕ) (v w : V) (xids : List ℕ) → ((x : ℕ) → x ≢ xid → rel.open_call w x ≡ rel.open_call v x) → AllByRecursion (λ x. x ≢ xid) xids → AreOpen rel v xids → AreOpen rel w xids
open_beside rel xid v w [] others apart are = are
open_beside rel xid v w (x ∷ xids) others apart are = (ap is_some (others x apart.0) ∙ are.0, (are.1.0, open_beside rel xid v w xids others apart.1 are.1.1))

pub open_after_first : {V : Type 0} (rel : CallRelations V) (xid : ℕ) (v w : V) (xids : List ℕ) → ClosesTicketOver rel xid v w → AreOpen rel v (xid ∷ xids) → AreOpen rel w xids
open_after_first rel xid v w xids closes are = open_beside rel xid v w xids closes.others are.1.0 are.1.1

-- a ticket that is not open is none of them
apart_from : {V : Type 0} (rel : CallRelations V) (xid : ℕ) (v : V) (xids : List ℕ) → rel.open_call v xid ≡ None → AreOpen rel v xids → AllByRecursion (λ x. x ≢ xid) xids
apart_from rel xid v [] fresh are = tt
apart_from rel xid v (x ∷ xids) fresh are =
    (λ same. absurd (let wrong : true ≡ false = sym are.0 ∙ ap (λ (y : ℕ). is_some (rel.open_call v y)) same ∙ ap is_some fresh in cc), apart_from rel xid v xids fresh are.1.1)

apart_at_end : (xid x : ℕ) (xids : List ℕ) → AllByRecursion (λ y. y ≢ x) xids → xid ≢ x → AllByRecursion (λ y. y ≢ x) (xids ++ xid ∷ [])
apart_at_end xid x [] all apart = (apart, tt)
apart_at_end xid x (y ∷ xids) all apart = (all.0, apart_at_end xid x xids all.1 apart)

with_last : {V : Type 0} (rel : CallRelations V) (xid : ℕ) (v : V) (xids : List ℕ) → is_some (rel.open_call v xid) ≡ true → AllByRecursion (λ x. x ≢ xid) xids → AreOpen rel v xids → AreOpen rel v (xids ++ xid ∷ [])
with_last rel xid v [] own apart are = (own, (tt, tt))
with_last rel xid v (x ∷ xids) own apart are =
    (are.0, (apart_at_end xid x xids are.1.0 (λ same. apart.0 (sym same)), with_last rel xid v xids own apart.1 are.1.1))

pub open_with_last : {V : Type 0} (rel : CallRelations V) (xid : ℕ) (call : Call) (v w : V) (xids : List ℕ) → OpensTicketOver rel xid call v w → AreOpen rel v xids → AreOpen rel w (xids ++ xid ∷ [])
open_with_last rel xid call v w xids opens are =
    let apart = apart_from rel xid v xids opens.fresh are in
    with_last rel xid w xids (ap is_some opens.own) apart (open_beside rel xid v w xids opens.others apart are)

-- ---- The first of them

-- what `remove(0)` took and left
pub front : {X : Type 0} (xs ys : List X) (x : X) → 0 < length xs → x ≡ slice_index_or xs 0 x → ys ≡ remove xs 0 → xs ≡ x ∷ ys
front [] ys x some value items = absurd (omega (arith, some))
front (y ∷ xs) ys x some value items = ap (λ k. k ∷ xs) (sym value) ∙ ap (λ l. x ∷ l) (sym items)

pub first_open : {V : Type 0} (rel : CallRelations V) (xid : ℕ) (v : V) (xs xids : List ℕ) → xs ≡ xid ∷ xids → AreOpen rel v xs → is_some (rel.open_call v xid) ≡ true
first_open rel xid v xs xids is are = (subst (λ (l : List ℕ). AreOpen rel v l) is are).0

pub rest_open : {V : Type 0} (rel : CallRelations V) (xid : ℕ) (v w : V) (xs xids : List ℕ) → xs ≡ xid ∷ xids → ClosesTicketOver rel xid v w → AreOpen rel v xs → AreOpen rel w xids
rest_open rel xid v w xs xids is closes are = open_after_first rel xid v w xids closes (subst (λ (l : List ℕ). AreOpen rel v l) is are)

-- one more is forgotten
pub forgets_first : {V : Type 0} (rel : CallRelations V) (xid : ℕ) (xs xids : List ℕ) (v w last : V) → xs ≡ xid ∷ xids → rel.forgets_call xid v w → ForgetsCallsOver rel xids w last
    → ForgetsCallsOver rel xs v last
forgets_first rel xid xs xids v w last is forgets rest = subst (λ (l : List ℕ). ForgetsCallsOver rel l v last) (sym is) (w, (forgets, rest))
