-- The next call of a responder is that of the server of a run.
use Rattle.std.proofs.Common.{◌≡◌, ◌≢◌, ℕ, ◌<◌, ◌≤◌, true, false, List, [], ◌∷◌, length, get_or, Option, Some, None, refl, sym, ap, subst, ◌∙◌, inl, inr, is_some, arith}
use Rattle.std.specs.Prelude.{map, slice_get, IfSome}
use Rattle.nr_link.specs.declared.end.End.{End}
use Rattle.nr_link.specs.declared.end.End.TheVariants as ends
use Rattle.nr_reduce.specs.declared.mark.Mark.{Mark}
use Rattle.nr_reduce.specs.declared.mark.LinkParameters.{LinkParameters}
use Rattle.nr_reduce.specs.EndRules.{EndState}
use Rattle.nr_reduce.specs.ServerState.{ReadyCall, ServerState}
use Rattle.nr_reduce.specs.Served.{first_ready, next_call}
use Rattle.nr_responder.specs.declared.call.Ready.{Ready}
use Rattle.nr_responder.specs.Sound.{xids_of}
use Rattle.nr_responder.specs.ResponderState.{ResponderSide, end_of}
use Rattle.nr_responder.specs.Keeping.{KeepsEnd}
use Rattle.nr_responder.specs.Standing.{RepresentsServer, ResponderRepresents}
use Rattle.nr_responder.proofs.Marks.{represents}

abbrev pub next_of : EndState ServerState → Option ReadyCall
next_of e = first_ready e.state.ready e.ended

pub next_is_lem : (opened : LinkParameters) (link : ℕ) (run : List Mark) (v : ResponderSide) (h : RepresentsServer opened link run v) → next_call opened link run ≡ next_of h.end
unfolding next_call
next_is_lem opened link run v h = ap next_of (sym h.stands.keeps)

-- an end that has ended has none
pub next_ended : (opened : LinkParameters) (link : ℕ) (run : List Mark) (v : ResponderSide) (end : End) → RepresentsServer opened link run v → end_of v ≡ Some end → next_call opened link run ≡ None
next_ended opened link run v end h is = next_is_lem opened link run v h ∙ by h.keeps
  where
    some : (o : Option End) (ready : List ReadyCall) → is_some o ≡ true → first_ready ready o ≡ None
    some None ready h = absurd cc
    some (Some e) ready h = refl

    by : KeepsEnd opened h.end h.input v → next_of h.end ≡ None
    by (inl live) =
        absurd (let two : None ≡ Some end = sym live.1.link.live ∙ is in cc)
    by (inr ended) = some h.end.ended h.end.state.ready ended.over

abbrev xid_of : ReadyCall → ℕ
xid_of r = r.xid

-- one that lives has the first that is ready
pub record IsFirst (o : Option ReadyCall) (first : Option ℕ) : Type 0 where
  pub none : first ≡ None → o ≡ None
  pub some : (x : ℕ) → first ≡ Some x → (r : ReadyCall) × ((o ≡ Some r) × (r.xid ≡ x))

first_of_lem : (ready : List ReadyCall) → IsFirst (slice_get ready 0) (slice_get (map xid_of ready) 0)
first_of_lem [] = record { none = λ _. refl; some = λ x e. absurd cc }
first_of_lem (r ∷ ready) = record { none = λ e. absurd cc; some = λ x e. (r, (refl, (let h : r.xid ≡ x = cc in h))) }

pub next_live : (opened : LinkParameters) (link : ℕ) (run : List Mark) (v : ResponderSide) → RepresentsServer opened link run v → end_of v ≡ None → IsFirst (next_call opened link run) (slice_get v.ready 0)
next_live opened link run v h is = subst (λ (o : Option ReadyCall). IsFirst o (slice_get v.ready 0)) (sym (next_is_lem opened link run v h)) (by h.keeps)
  where
    none : (o : Option End) → o ≡ None → is_some o ≡ true → ⊥
    none None e t = absurd cc
    none (Some end) e t = absurd cc

    by : KeepsEnd opened h.end h.input v → IsFirst (next_of h.end) (slice_get v.ready 0)
    by (inl live) =
        subst (λ (o : Option ReadyCall). IsFirst o (slice_get v.ready 0)) (ap (λ (e : Option End). first_ready h.end.state.ready e) (sym live.0))
        (subst (λ (xs : List ℕ). IsFirst (slice_get h.end.state.ready 0) (slice_get xs 0)) (sym live.1.ready) (first_of_lem h.end.state.ready))
    by (inr ended) = absurd (none h.end.ended (sym ended.why ∙ is) ended.over)

-- one that has ended, other than for memory, has no next call
pub next_over : (opened : LinkParameters) (link : ℕ) (run : List Mark) (v : ResponderSide) → ResponderRepresents opened link run v → end_of v ≢ Some ends.Memory → is_some (end_of v) ≡ true → next_call opened link run ≡ None
next_over opened link run v (inr out) other is = absurd (other out.output.0)
next_over opened link run v (inl h) other is = by (end_of v) refl is
  where
    by : (o : Option End) → end_of v ≡ o → is_some o ≡ true → next_call opened link run ≡ None
    by None e t = absurd cc
    by (Some end) e t = next_ended opened link run v end h e

pub not_over : (o : Option End) → is_some o ≡ false → o ≡ None
not_over None e = refl
not_over (Some end) e = absurd cc

-- the xid of the first call is that of the server's
pub first_xid_lem : (opened : LinkParameters) (link : ℕ) (run : List Mark) (v : ResponderSide) (x : ℕ) → ResponderRepresents opened link run v → end_of v ≡ None → slice_get v.ready 0 ≡ Some x →
    IfSome (next_call opened link run) (λ (r : ReadyCall). x ≡ r.xid) × (is_some (next_call opened link run) ≡ true)
first_xid_lem opened link run v x h live first =
    let found : (r : ReadyCall) × ((next_call opened link run ≡ Some r) × (r.xid ≡ x)) = (next_live opened link run v (represents opened link run v live h) live).some x first in
    subst (λ (o : Option ReadyCall). IfSome o (λ (r : ReadyCall). x ≡ r.xid) × (is_some o ≡ true)) (sym found.1.0) (sym found.1.1, refl)

pub first_none_lem : (opened : LinkParameters) (link : ℕ) (run : List Mark) (v : ResponderSide) → ResponderRepresents opened link run v → end_of v ≡ None → slice_get v.ready 0 ≡ None → next_call opened link run ≡ None
first_none_lem opened link run v h live none = (next_live opened link run v (represents opened link run v live h) live).none none

pub first_get : (xs : List Ready) (q : Ready) → 0 < length xs → q ≡ get_or xs 0 q → slice_get (xids_of xs) 0 ≡ Some q.xid
first_get [] q some is = absurd (omega (arith, some))
first_get (r ∷ xs) q some is = ap (λ (z : Ready). Some z.xid) (sym is)

pub none_get : (xs : List Ready) → length xs ≤ 0 → slice_get (xids_of xs) 0 ≡ None
none_get [] few = refl
none_get (q ∷ xs) few = absurd (omega (arith, few))
