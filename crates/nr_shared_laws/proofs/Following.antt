-- A link that its client left stays so, by marks of other links, and by an answer or a call that goes back.
use Rattle.std.proofs.Common.{◌≡◌, ◌≢◌, ℕ, eqb, cond, ◌&&◌, ◌||◌, Bool, true, false, List, [], ◌∷◌, ◌++◌, map, refl, sym, ap, subst, ◌∙◌, append_assoc, append-nil}
use Rattle.std.specs.Prelude.{Contains}
use Rattle.std.specs.List.{AllByRecursion, flat_map, list_any}
use Rattle.std.proofs.lemmas.Bool.{eqb-true, eqb-false, eq-eqb, ne_eqb}
use Rattle.std.proofs.lemmas.Grind.{flat_map-append}
use Rattle.std.proofs.lemmas.List.Folds.{list_any-append}
use Rattle.nr_wire.specs.declared.hello.Side.TheVariants.{Initiator}
use Rattle.nr_reduce.specs.declared.call.Outcome.{Outcome}
use Rattle.nr_reduce.specs.declared.mark.LinkParameters.{LinkParameters}
use Rattle.nr_reduce.specs.declared.mark.Mark.{Mark}
use Rattle.nr_reduce.specs.declared.mark.Mark.TheVariants as marks
use Rattle.nr_reduce.specs.declared.mark.ResumedCall.{ResumedCall}
use Rattle.nr_reduce.specs.Asked.{AskedMark, IsAwaitedOrWaits, as_accepted, client_calls}
use Rattle.nr_reduce.specs.Events.{events_at, if_own}
use Rattle.nr_reduce.specs.Events.RunEvent.{MemoryRevoked}
use Rattle.nr_reduce.specs.History.{AcceptedCall, CompletedCall, abandons, accepted_as, accepted_at, accepted_calls, bytes_received, is_abandoned}
use Rattle.nr_reduce.specs.Matched.{IsPrefixOf}
use Rattle.nr_reduce.specs.Reopening.{HasAnswer, IsLate, IsReopened, reopened}
use Rattle.nr_reduce.specs.Run.{client}
use Rattle.nr_reduce.proofs.LeftClients.{left_links_stay}
use Rattle.nr_requester.specs.Reopening.{HasNoMark, link_of}
use Rattle.nr_requester.proofs.NextBegins.{elsewhere}
use Rattle.nr_laws.proofs.LiveRegions.{passes_any, some_one}
use Rattle.nr_laws.proofs.ReopenedLinks.{no_call_is_left_over}
use Rattle.nr_shared.specs.LinkRuns.{OpenedLink, carries, last_carrier}

true_false : true ≡ false → ⊥
true_false e = absurd cc

-- ---- A mark of another link

abandons_none : (link xid : ℕ) (mark : Mark) → link_of mark ≢ link → abandons link xid mark ≡ false
abandons_none link xid (marks.Submit l call form answer) other = refl
abandons_none link xid (marks.Wrote l side bytes) other = refl
abandons_none link xid (marks.Fed l side bytes) other = refl
abandons_none link xid (marks.Execute l x moment payload place reply) other = refl
abandons_none link xid (marks.Done l x outcome) other = refl
abandons_none link xid (marks.Lost l x) other = λ i. ne_eqb l link other i && eqb x xid
abandons_none link xid (marks.Forget l x) other = λ i. ne_eqb l link other i && eqb x xid
abandons_none link xid (marks.Revoke l x bytes) other = λ i. ne_eqb l link other i && eqb x xid
abandons_none link xid (marks.Drop l) other = refl
abandons_none link xid (marks.Told l what) other = refl

accepted_none : (link : ℕ) (mark : Mark) → link_of mark ≢ link → accepted_at link mark ≡ []
accepted_none link (marks.Submit l call form answer) other = λ i. cond (ne_eqb l link other i) (accepted_as answer call form) []
accepted_none link (marks.Wrote l side bytes) other = refl
accepted_none link (marks.Fed l side bytes) other = refl
accepted_none link (marks.Execute l x moment payload place reply) other = refl
accepted_none link (marks.Done l x outcome) other = refl
accepted_none link (marks.Lost l x) other = refl
accepted_none link (marks.Forget l x) other = refl
accepted_none link (marks.Revoke l x bytes) other = refl
accepted_none link (marks.Drop l) other = refl
accepted_none link (marks.Told l what) other = refl

accepted_more : (link : ℕ) (run : List Mark) (mark : Mark) → accepted_at link mark ≡ [] → accepted_calls link (run ++ mark ∷ []) ≡ accepted_calls link run
unfolding accepted_calls
accepted_more link run mark none =
    flat_map-append (accepted_at link) run (mark ∷ [])
    ∙ (ap (λ (calls : List AcceptedCall). flat_map (accepted_at link) run ++ (calls ++ [])) none ∙ append-nil (flat_map (accepted_at link) run))

-- ---- A link that was left, and the one that follows

-- The client left the link e after the marks `began`, when the next one began. None of these is of the next link, and since then no call was accepted on e.
pub record Follows (run : List Mark) (e at : OpenedLink) (old began : List Mark) : Type 0 where
  pub gap : List Mark
  pub later : began ≡ old ++ gap
  pub reopened : IsReopened e.opened at.opened e.link run began
  pub none : HasNoMark at.link began
  pub same : accepted_calls e.link run ≡ accepted_calls e.link began

-- each of the links follows on the one after it in this list
abbrev pub Chain : List Mark → OpenedLink → List Mark → List OpenedLink → Type 0
Chain run at began [] = Unit {0}
Chain run at began (e ∷ left) = (old : List Mark) × Follows run e at old began × Chain run e old left

-- they have numbers of their own
abbrev pub Apart : List OpenedLink → Type 0
Apart [] = Unit {0}
Apart (x ∷ xs) = AllByRecursion (λ (e : OpenedLink). x.link ≢ e.link) xs × Apart xs

follows_more : (run : List Mark) (e at : OpenedLink) (old began : List Mark) (mark : Mark) → Follows run e at old began → accepted_at e.link mark ≡ [] → AllByRecursion (IsLate e.opened e.link began) (events_at e.link Initiator run mark)
    → ((xid : ℕ) → abandons e.link xid mark ≡ true → HasAnswer e.opened e.link began xid) → Follows (run ++ mark ∷ []) e at old began
follows_more run e at old began mark f none late gives = record {
  gap = f.gap;
  later = f.later;
  reopened = left_links_stay e.opened at.opened e.link run began mark f.reopened late gives;
  none = f.none;
  same = accepted_more e.link run mark none ∙ f.same;
}

follows_other : (run : List Mark) (e at : OpenedLink) (old began : List Mark) (mark : Mark) → link_of mark ≢ e.link → Follows run e at old began → Follows (run ++ mark ∷ []) e at old began
follows_other run e at old began mark other f =
    follows_more run e at old began mark f (accepted_none e.link mark other) (subst (AllByRecursion (IsLate e.opened e.link began)) (sym (elsewhere e.link run mark other).events) tt)
    (λ xid is. absurd (true_false (sym is ∙ abandons_none e.link xid mark other)))

pub chain_other : (run : List Mark) (mark : Mark) (left : List OpenedLink) (at : OpenedLink) (began : List Mark) → AllByRecursion (λ (e : OpenedLink). link_of mark ≢ e.link) left → Chain run at began left → Chain (run ++ mark ∷ []) at began left
chain_other run mark [] at began others c = tt
chain_other run mark (e ∷ left) at began others (old, f, rest) = (old, follows_other run e at old began mark others.0 f, chain_other run mark left e old others.1 rest)

heads : (mark : Mark) (ms : List Mark) (left : List OpenedLink) → AllByRecursion (λ (e : OpenedLink). HasNoMark e.link (mark ∷ ms)) left → AllByRecursion (λ (e : OpenedLink). link_of mark ≢ e.link) left
heads mark ms [] none = tt
heads mark ms (e ∷ left) none = (none.0.0, heads mark ms left none.1)

tails : (mark : Mark) (ms : List Mark) (left : List OpenedLink) → AllByRecursion (λ (e : OpenedLink). HasNoMark e.link (mark ∷ ms)) left → AllByRecursion (λ (e : OpenedLink). HasNoMark e.link ms) left
tails mark ms [] none = tt
tails mark ms (e ∷ left) none = (none.0.1, tails mark ms left none.1)

pub chain_others : (ms run : List Mark) (left : List OpenedLink) (at : OpenedLink) (began : List Mark) → AllByRecursion (λ (e : OpenedLink). HasNoMark e.link ms) left → Chain run at began left → Chain (run ++ ms) at began left
chain_others [] run left at began none c = subst (λ (r : List Mark). Chain r at began left) (sym (append-nil run)) c
chain_others (m ∷ ms) run left at began none c =
    subst (λ (r : List Mark). Chain r at began left) (append_assoc run (m ∷ []) ms)
    (chain_others ms (run ++ m ∷ []) left at began (tails m ms left none) (chain_other run m left at began (heads m ms left none) c))

-- ---- A call of a link that was left

first_false : (a b : Bool) → (a || b) ≡ false → a ≡ false
first_false true b e = absurd cc
first_false false b e = refl

or_first : (a b : Bool) → (a || b) ≡ true → b ≡ false → a ≡ true
or_first true b e none = refl
or_first false b e none = absurd (true_false (sym e ∙ none))

-- it has its answer, unless the next link carries it
answered : (e at : OpenedLink) (run began : List Mark) (xid : ℕ) → IsReopened e.opened at.opened e.link run began → accepted_calls e.link run ≡ accepted_calls e.link began → IsAwaitedOrWaits e.opened e.link run xid → carries at.opened xid ≡ false
    → HasAnswer e.opened e.link began xid
answered e at run began xid r same w none =
    let own : eqb w.asked.xid xid ≡ true = eq-eqb w.asked.xid xid w.own in
    let there : Contains (client_calls e.opened e.link began) w.asked = subst (λ (calls : List AcceptedCall). Contains (map as_accepted e.opened.resumed ++ calls) w.asked) same w.is_asked in
    let asked : list_any (λ (a : AcceptedCall). eqb a.xid xid) (client_calls e.opened e.link began) ≡ true = passes_any (λ (a : AcceptedCall). eqb a.xid xid) (client_calls e.opened e.link began) w.asked there own in
    let kept : is_abandoned e.link xid began ≡ false =
    first_false (is_abandoned e.link xid began) (is_abandoned e.link xid r.after) (sym (list_any-append (abandons e.link xid) began r.after) ∙ (ap (λ (m : List Mark). list_any (abandons e.link xid) m) (sym r.is_cut) ∙ w.kept)) in
    let unsent : list_any (λ (c : ResumedCall). eqb c.xid xid) (reopened e.opened e.link began).resumed ≡ false =
    ap (λ (o : LinkParameters). list_any (λ (c : ResumedCall). eqb c.xid xid) o.resumed) (sym r.next) ∙ first_false _ _ none in
    let outcomes = (client e.opened e.link began).state.outcomes in
    let found : list_any (λ (c : CompletedCall). eqb c.xid xid) outcomes ≡ true = or_first _ _ (no_call_is_left_over e.opened e.link began xid r.stays kept asked) unsent in
    let one = some_one (λ (c : CompletedCall). eqb c.xid xid) outcomes found in
    record { completed = one.one; is_received = one.there; own = eqb-true one.one.xid xid one.passes }

-- Such a mark hands the outcome of a call over, or gives the call up. If the call has its answer, a link that was left stays so.
pub record IsGiving (mark : ℕ → Mark) (xid : ℕ) : Type 0 where
  pub of : (link : ℕ) → link_of (mark link) ≡ link
  pub accepted : (link : ℕ) → accepted_at link (mark link) ≡ []
  pub goes : (opened : LinkParameters) (link : ℕ) (run began : List Mark) → AskedMark IsPrefixOf opened link run (mark link) → (IsAwaitedOrWaits opened link run xid → HasAnswer opened link began xid)
      → AllByRecursion (IsLate opened link began) (events_at link Initiator run (mark link)) × ((x : ℕ) → abandons link x (mark link) ≡ true → HasAnswer opened link began x)

second_true : (a b : Bool) → (a && b) ≡ true → b ≡ true
second_true true b e = e
second_true false b e = absurd cc

pub done_gives : (xid : ℕ) (outcome : Outcome) → IsGiving (λ link. marks.Done link xid outcome) xid
done_gives xid outcome = record { of = λ link. refl; accepted = λ link. refl; goes = λ opened link run began asked has. (tt, λ x is. absurd (true_false (sym is))) }

pub lost_gives : (xid : ℕ) → IsGiving (λ link. marks.Lost link xid) xid
lost_gives xid = record {
  of = λ link. refl;
  accepted = λ link. refl;
  goes = λ opened link run began asked has. (tt, λ x is. subst (λ (y : ℕ). HasAnswer opened link began y) (eqb-true xid x (second_true (eqb link link) (eqb xid x) is)) (has (asked refl).awaited));
}

pub forget_gives : (xid : ℕ) → IsGiving (λ link. marks.Forget link xid) xid
forget_gives xid = record {
  of = λ link. refl;
  accepted = λ link. refl;
  goes = λ opened link run began asked has. (tt, λ x is. subst (λ (y : ℕ). HasAnswer opened link began y) (eqb-true xid x (second_true (eqb link link) (eqb xid x) is)) (has (asked refl)));
}

late_if : (opened : LinkParameters) (link : ℕ) (began : List Mark) (place xid : ℕ) (own : Bool) → HasAnswer opened link began xid → AllByRecursion (IsLate opened link began) (if_own own (MemoryRevoked place xid ∷ []))
late_if opened link began place xid true has = (has, tt)
late_if opened link began place xid false has = tt

pub revoke_gives : (xid : ℕ) (bytes : List ℕ) → IsGiving (λ link. marks.Revoke link xid bytes) xid
revoke_gives xid bytes = record {
  of = λ link. refl;
  accepted = λ link. refl;
  goes = λ opened link run began asked has. (
    late_if opened link began _ xid (eqb link link && true) (has (asked refl).awaited),
    λ x is. subst (λ (y : ℕ). HasAnswer opened link began y) (eqb-true xid x (second_true (eqb link link) (eqb xid x) is)) (has (asked refl).awaited),
  );
}

-- ---- The mark of a call's own link

other_from : (mark : Mark) (c link : ℕ) (left : List OpenedLink) → link_of mark ≡ c → c ≡ link → AllByRecursion (λ (e : OpenedLink). link ≢ e.link) left → AllByRecursion (λ (e : OpenedLink). link_of mark ≢ e.link) left
other_from mark c link [] own is apart = tt
other_from mark c link (e ∷ left) own is apart = ((λ same. apart.0 (sym is ∙ (sym own ∙ same))), other_from mark c link left own is apart.1)

-- what the law of each link that was left asks of a mark
abbrev pub AskEach : List Mark → Mark → List OpenedLink → Type 0
AskEach run mark left = AllByRecursion (λ (e : OpenedLink). AskedMark IsPrefixOf e.opened e.link run mark) left

pub chain_call : (mark : ℕ → Mark) (xid : ℕ) → IsGiving mark xid → (run : List Mark) (c : ℕ) (left : List OpenedLink) (at : OpenedLink) (began : List Mark) → c ≡ (last_carrier at left xid).link → Apart (at ∷ left) → AskEach run (mark c) left → Chain run at began left
    → Chain (run ++ mark c ∷ []) at began left
chain_call mark xid g run c [] at began is apart asks chain = tt
chain_call mark xid g run c (e ∷ left) at began is apart asks (old, f, rest) = by (carries at.opened xid) refl is (λ own. chain_call mark xid g run c left e old own apart.1 asks.1 rest) where
  here : (b : Bool) → eqb c e.link ≡ b → carries at.opened xid ≡ false → Follows (run ++ mark c ∷ []) e at old began
  here true same none =
      let own : c ≡ e.link = eqb-true c e.link same in
      let goes = g.goes e.opened e.link run began (subst (λ (n : ℕ). AskedMark IsPrefixOf e.opened e.link run (mark n)) own asks.0) (λ w. answered e at run began xid f.reopened f.same w none) in
      subst (λ (n : ℕ). Follows (run ++ mark n ∷ []) e at old began) (sym own) (follows_more run e at old began (mark e.link) f (g.accepted e.link) goes.0 goes.1)
  here false other none = follows_other run e at old began (mark c) (λ same. eqb-false c e.link other (sym (g.of c) ∙ same)) f

  by : (b : Bool) → carries at.opened xid ≡ b → c ≡ (cond b at (last_carrier e left xid)).link → (c ≡ (last_carrier e left xid).link → Chain (run ++ mark c ∷ []) e old left) → Chain (run ++ mark c ∷ []) at began (e ∷ left)
  by true carried own later = chain_other run (mark c) (e ∷ left) at began (other_from (mark c) c at.link (e ∷ left) (g.of c) own apart.0) (old, f, rest)
  by false none own later = (old, here (eqb c e.link) refl none, later own)
