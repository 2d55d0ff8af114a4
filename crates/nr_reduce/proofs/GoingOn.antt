-- The calls of a client that weren't given up go on over its next link.
use Rattle.std.proofs.Common.{◌≡◌, ℕ, inl, inr, Bool, true, false, cond, not, List, [], ◌∷◌, ◌++◌, map, Option, refl, sym, ap, subst, ◌∙◌, arith}
use Rattle.std.specs.List.{AllByRecursion, Contains, filter, flat_map}
use Rattle.std.proofs.lemmas.List.Elements.{Contains-append_left, Contains-append_right, Contains-append_cases, Contains-push_cases}
use Rattle.nr_reduce.specs.declared.mark.Mark.{Mark}
use Rattle.nr_reduce.specs.declared.mark.LinkParameters.{LinkParameters}
use Rattle.nr_reduce.specs.declared.mark.ResumedCall.{ResumedCall}
use Rattle.nr_reduce.specs.History.{AcceptedCall, accepted_calls, is_abandoned}
use Rattle.nr_reduce.specs.ClientState.{OutstandingCall, WaitingCall, ClientState}
use Rattle.nr_reduce.specs.Run.{client}
use Rattle.nr_reduce.specs.Reopening.{reopened, calls_kept, resumed_as, resumed_of, resumed_again}
use Rattle.nr_reduce.specs.ReopenedLinks.{GoesOn, ReopenedCallsGoOn}
use Rattle.nr_reduce.proofs.FoundCalls.{IsFound, calls_found}

-- ---- Elements

pub no_element : {X : Type 0} (x : X) → Contains [] x → ⊥
no_element x h = (let lt = h.1 in absurd (omega arith))

pub one_element : {X : Type 0} (x y : X) → Contains (y ∷ []) x → y ≡ x
one_element x y h = elim (Contains-push_cases [] y x h) [ inl none ↦ absurd (no_element x none) | inr e ↦ e ]

here : {X : Type 0} (x : X) (xs : List X) → Contains (x ∷ xs) x
here x xs = Contains-append_left (x ∷ []) xs x (0, omega arith, refl)

of_all : {X : Type 0} (P : X → Type 0) (xs : List X) (x : X) → AllByRecursion P xs → Contains xs x → P x
of_all P [] x h c = absurd (no_element x c)
of_all P (y ∷ ys) x h c = elim (Contains-append_cases (y ∷ []) ys x c) [
  | inl own ↦ subst P (one_element x y own) h.0
  | inr more ↦ of_all P ys x h.1 more
]

in_filter : {X : Type 0} (p : X → Bool) (xs : List X) (x : X) → Contains xs x → p x ≡ true → Contains (filter p xs) x
in_filter p [] x c is = absurd (no_element x c)
in_filter p (y ∷ ys) x c is = elim (Contains-append_cases (y ∷ []) ys x c) [
  | inl own ↦ by_own (p y) (ap p (one_element x y own) ∙ is) (one_element x y own)
  | inr more ↦ by_more (p y) (in_filter p ys x more is)
]
  where
    by_own : (b : Bool) → b ≡ true → y ≡ x → Contains (cond b (y ∷ filter p ys) (filter p ys)) x
    by_own true e own = subst (λ z. Contains (y ∷ filter p ys) z) own (here y (filter p ys))
    by_own false e own = absurd cc

    by_more : (b : Bool) → Contains (filter p ys) x → Contains (cond b (y ∷ filter p ys) (filter p ys)) x
    by_more true rest = Contains-append_right (y ∷ []) (filter p ys) x rest
    by_more false rest = rest

in_flat_map : {X Y : Type 0} (f : X → List Y) (xs : List X) (x : X) (y : Y) → Contains xs x → Contains (f x) y → Contains (flat_map f xs) y
in_flat_map f [] x y c is = absurd (no_element x c)
in_flat_map f (z ∷ zs) x y c is = elim (Contains-append_cases (z ∷ []) zs x c) [
  | inl own ↦ Contains-append_left (f z) (flat_map f zs) y (subst (λ w. Contains (f w) y) (sym (one_element x z own)) is)
  | inr more ↦ Contains-append_right (f z) (flat_map f zs) y (in_flat_map f zs x y more is)
]

in_map : {X Y : Type 0} (f : X → Y) (xs : List X) (x : X) → Contains xs x → Contains (map f xs) (f x)
in_map f [] x c = absurd (no_element x c)
in_map f (z ∷ zs) x c = elim (Contains-append_cases (z ∷ []) zs x c) [
  | inl own ↦ subst (λ w. Contains (f z ∷ map f zs) (f w)) (one_element x z own) (here (f z) (map f zs))
  | inr more ↦ Contains-append_right (f z ∷ []) (map f zs) (f x) (in_map f zs x more)
]

-- ---- The calls

abbrev all_calls : LinkParameters → ℕ → List Mark → List ResumedCall
all_calls opened link run = flat_map (resumed_of (accepted_calls link run)) (client opened link run).state.outstanding ++ map resumed_again (client opened link run).state.waiting

goes_on : (opened : LinkParameters) (link : ℕ) (run : List Mark) (r : ResumedCall) → Contains (all_calls opened link run) r → is_abandoned link r.xid run ≡ false → GoesOn opened link run r.xid r.call r.plan
unfolding reopened calls_kept
goes_on opened link run r there kept = record {
  resumed = r;
  is_resumed = in_filter (λ (x : ResumedCall). not (is_abandoned link x.xid run)) (all_calls opened link run) r there (ap not kept);
  xid_is = refl;
  call_is = refl;
  plan_is = refl;
}

outstanding_goes_on : (opened : LinkParameters) (link : ℕ) (run : List Mark) (o : OutstandingCall) → IsFound (accepted_calls link run) o → Contains (client opened link run).state.outstanding o → is_abandoned link o.xid run ≡ false →
    GoesOn opened link run o.xid o.call o.plan
outstanding_goes_on opened link run o is there kept =
    let k : ClientState = (client opened link run).state in
    let r : ResumedCall = record { xid = o.xid; call = o.call; form = is.own.form; plan = o.plan } in
    let own : Contains (resumed_of (accepted_calls link run) o) r = subst (λ (a : Option AcceptedCall). Contains (resumed_as o a) r) (sym is.found) (here r []) in
    goes_on opened link run r
    (Contains-append_left (flat_map (resumed_of (accepted_calls link run)) k.outstanding) (map resumed_again k.waiting) r (in_flat_map (resumed_of (accepted_calls link run)) k.outstanding o r there own)) kept

waiting_goes_on : (opened : LinkParameters) (link : ℕ) (run : List Mark) (w : WaitingCall) → Contains (client opened link run).state.waiting w → is_abandoned link w.xid run ≡ false → GoesOn opened link run w.xid w.call w.plan
waiting_goes_on opened link run w there kept =
    let k : ClientState = (client opened link run).state in
    goes_on opened link run (resumed_again w)
    (Contains-append_right (flat_map (resumed_of (accepted_calls link run)) k.outstanding) (map resumed_again k.waiting) (resumed_again w) (in_map resumed_again k.waiting w there)) kept

pub calls_go_on : ReopenedCallsGoOn
calls_go_on opened link run opens asked = (
  (λ o there kept. outstanding_goes_on opened link run o (of_all (λ (x : OutstandingCall). IsFound (accepted_calls link run) x) (client opened link run).state.outstanding o (calls_found opened link run opens asked) there) there kept),
  (λ w there kept. waiting_goes_on opened link run w there kept),
)
