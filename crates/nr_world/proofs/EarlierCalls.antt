-- What settles a call for its client: a mark of the link, or one of an earlier link, and new calls have larger xids than those.
use Rattle.std.specs.Prelude.{◌&&◌, ◌||◌, ◌==◌, not}
use Rattle.std.specs.List.{flat_map, list_any}
use Rattle.std.proofs.Common.{◌≡◌, ℕ, eqb-true, Bool, true, false, cond, eqb, List, [], ◌∷◌, ◌++◌, refl, ap, sym, ◌∙◌}
use Rattle.std.proofs.lemmas.Bool.{eq-eqb}
use Rattle.nr_reduce.specs.declared.call.Outcome.{Outcome}
use Rattle.nr_reduce.specs.declared.mark.Mark.{Mark}
use Rattle.nr_reduce.specs.History.{CompletedCall, abandons, completed_at, completed_calls, is_abandoned}
use Rattle.nr_reduce.specs.OutcomesDue.{is_completed}
use Rattle.nr_laws.proofs.DistinctKeys.{any_append}
use Rattle.nr_requester.specs.KeptAnswers.{is_due}
use Rattle.nr_requester.specs.Laws.{gives_up}
use Rattle.nr_drill.specs.Drill.{Setting, client_of, link_of, settles}
use Rattle.nr_world.specs.LinkStands.{settles_elsewhere}
use Rattle.nr_reduce.specs.declared.mark.Mark.TheVariants as marks

-- ---- A mark

or_false : (b : Bool) → (b || false) ≡ b
or_false true = refl
or_false false = refl

same_client : (s : Setting) (l link : ℕ) → eqb l link ≡ true → (client_of s l == client_of s link) ≡ true
same_client s l link is = eq-eqb (client_of s l) (client_of s link) (ap (client_of s) (eqb-true l link is))

-- of a mark of a link `l` that settles a call if it is one of the client's
split : (s : Setting) (l link : ℕ) (same : Bool) → (client_of s l == client_of s link && same) ≡ ((eqb l link && same) || (not (eqb l link) && (client_of s l == client_of s link && same)))
split s l link same = by (eqb l link) refl
  where
    by : (b : Bool) → eqb l link ≡ b → (client_of s l == client_of s link && same) ≡ ((b && same) || (not b && (client_of s l == client_of s link && same)))
    by true is = ap (λ (c : Bool). c && same) (same_client s l link is) ∙ sym (or_false same)
    by false is = refl

done_own : (link l x xid : ℕ) (outcome : Outcome) → gives_up link xid (marks.Done l x outcome) ≡ (eqb l link && eqb x xid)
done_own link l x xid outcome = by (eqb l link)
  where
    by : (b : Bool) → (false || list_any (λ (c : CompletedCall). eqb c.xid xid) (cond b (record { xid = x; outcome = outcome } ∷ []) [])) ≡ (b && eqb x xid)
    by true = or_false (eqb x xid)
    by false = refl

settles_split : (s : Setting) (link xid : ℕ) (mark : Mark) → settles s (client_of s link) xid mark ≡ (gives_up link xid mark || settles_elsewhere s link xid mark)
settles_split s link xid (marks.Done l x outcome) = split s l link (eqb x xid) ∙ ap (λ (b : Bool). b || settles_elsewhere s link xid (marks.Done l x outcome)) (sym (done_own link l x xid outcome))
settles_split s link xid (marks.Forget l x) = split s l link (eqb x xid) ∙ ap (λ (b : Bool). b || settles_elsewhere s link xid (marks.Forget l x)) (sym (or_false (eqb l link && eqb x xid)))
settles_split s link xid (marks.Revoke l x bytes) = split s l link (eqb x xid) ∙ ap (λ (b : Bool). b || settles_elsewhere s link xid (marks.Revoke l x bytes)) (sym (or_false (eqb l link && eqb x xid)))
settles_split s link xid (marks.Lost l x) = split s l link (eqb x xid) ∙ ap (λ (b : Bool). b || settles_elsewhere s link xid (marks.Lost l x)) (sym (or_false (eqb l link && eqb x xid)))
settles_split s link xid (marks.Submit l call form answer) = quiet (eqb l link)
  where
    quiet : (b : Bool) → false ≡ (false || (not b && false))
    quiet true = refl
    quiet false = refl
settles_split s link xid (marks.Wrote l side bytes) = quiet (eqb l link)
  where
    quiet : (b : Bool) → false ≡ (false || (not b && false))
    quiet true = refl
    quiet false = refl
settles_split s link xid (marks.Fed l side bytes) = quiet (eqb l link)
  where
    quiet : (b : Bool) → false ≡ (false || (not b && false))
    quiet true = refl
    quiet false = refl
settles_split s link xid (marks.Execute l x moment payload place reply) = quiet (eqb l link)
  where
    quiet : (b : Bool) → false ≡ (false || (not b && false))
    quiet true = refl
    quiet false = refl
settles_split s link xid (marks.Drop l) = quiet (eqb l link)
  where
    quiet : (b : Bool) → false ≡ (false || (not b && false))
    quiet true = refl
    quiet false = refl
settles_split s link xid (marks.Told l what) = quiet (eqb l link)
  where
    quiet : (b : Bool) → false ≡ (false || (not b && false))
    quiet true = refl
    quiet false = refl

-- ---- All marks

swap : (a b c d : Bool) → ((a || b) || (c || d)) ≡ ((a || c) || (b || d))
swap true b c d = refl
swap false true true d = refl
swap false true false d = refl
swap false false true d = refl
swap false false false d = refl

-- a call is given up or completed on a link by one of its marks
given_is : (link xid : ℕ) (run : List Mark) → (is_abandoned link xid run || is_completed link xid run) ≡ list_any (gives_up link xid) run
unfolding completed_calls
given_is link xid [] = refl
given_is link xid (mark ∷ run) =
    ap (λ (b : Bool). is_abandoned link xid (mark ∷ run) || b) (any_append (λ (c : CompletedCall). eqb c.xid xid) (completed_at link mark) (flat_map (completed_at link) run))
    ∙ swap (abandons link xid mark) (is_abandoned link xid run) (list_any (λ (c : CompletedCall). eqb c.xid xid) (completed_at link mark)) (is_completed link xid run)
    ∙ ap (λ (b : Bool). gives_up link xid mark || b) (given_is link xid run)

settled_split : (s : Setting) (link xid : ℕ) (run : List Mark) → list_any (settles s (client_of s link) xid) run ≡ (list_any (gives_up link xid) run || list_any (settles_elsewhere s link xid) run)
settled_split s link xid [] = refl
settled_split s link xid (mark ∷ run) =
    (λ i. settles_split s link xid mark i || settled_split s link xid run i)
    ∙ swap (gives_up link xid mark) (settles_elsewhere s link xid mark) (list_any (gives_up link xid) run) (list_any (settles_elsewhere s link xid) run)

due_given : (link xid : ℕ) (run : List Mark) → is_due link run xid ≡ true → list_any (gives_up link xid) run ≡ false
due_given link xid run due = sym (given_is link xid run) ∙ not_true (is_abandoned link xid run || is_completed link xid run) due
  where
    not_true : (b : Bool) → not b ≡ true → b ≡ false
    not_true true e = absurd cc
    not_true false e = refl

-- a call that is due, and that no earlier link settled, isn't settled
pub none_settled : (s : Setting) (link xid : ℕ) (run : List Mark) → is_due link run xid ≡ true → list_any (settles_elsewhere s link xid) run ≡ false → list_any (settles s (client_of s link) xid) run ≡ false
none_settled s link xid run due none = settled_split s link xid run ∙ (λ i. due_given link xid run due i || none i)

-- ---- One mark more

pub elsewhere_on : (s : Setting) (link xid : ℕ) (run : List Mark) (mark : Mark) → settles_elsewhere s link xid mark ≡ false → list_any (settles_elsewhere s link xid) run ≡ false → list_any (settles_elsewhere s link xid) (run ++ mark ∷ []) ≡ false
elsewhere_on s link xid run mark one none = any_append (settles_elsewhere s link xid) run (mark ∷ []) ∙ (λ i. none i || (one i || false))

-- a mark of the link itself
pub own_elsewhere : (s : Setting) (link xid : ℕ) (mark : Mark) → link_of mark ≡ link → settles_elsewhere s link xid mark ≡ false
own_elsewhere s link xid mark own = ap (λ (b : Bool). not b && settles s (client_of s link) xid mark) (eq-eqb (link_of mark) link own)

-- one that settles no call of the client
pub quiet_elsewhere : (s : Setting) (link xid : ℕ) (mark : Mark) → settles s (client_of s link) xid mark ≡ false → settles_elsewhere s link xid mark ≡ false
quiet_elsewhere s link xid mark none = ap (λ (b : Bool). not (link_of mark == link) && b) none ∙ by (link_of mark == link)
  where
    by : (b : Bool) → (not b && false) ≡ false
    by true = refl
    by false = refl
