-- The call after the LOOKUPs of a command, and what the whole command has then.
use Rattle.std.proofs.Common.{◌≡◌, ℕ, ◌≤◌, List, [], ◌∷◌, ◌++◌, length, Result, Ok, Err, inl, inr, sym, ap, subst, ◌∙◌, arith, append-nil}
use Rattle.std.specs.Prelude.{◌⊎◌, MatchResult}
use Rattle.nr_outside.specs.declared.moment.Moment.{Moment}
use Rattle.nr_reduce.specs.declared.call.Call.{Call}
use Rattle.nr_reduce.specs.declared.call.Outcome.{Outcome}
use Rattle.nr_reduce.specs.declared.mark.Entry.{Entry}
use Rattle.nr_tree.specs.Tree.{Tree}
use Rattle.nr_plain.specs.Journal.{tree_at}
use Rattle.nr_plain.specs.Setup.{Setup}
use Rattle.nr_client.specs.declared.client_end.ClientEnd.{ClientEnd}
use Rattle.nr_client.specs.declared.client_end.ClientEnd.TheVariants as client
use Rattle.nr_commands.specs.Sessions.{Part, Request, SessionAt, Text, Then}
use Rattle.nr_service_laws.specs.Exchanges.Exchange.{Answered, Forgotten, GivenUp, HandedOver, Submitted}
use Rattle.nr_service_laws.specs.Exchanges.{Exchange, Tells, tells_none, tells_request, tells_then}
use Rattle.nr_pair_laws.specs.Pairs.{AreAnsweredFrom, IsAnsweredAt, OpenCall, place_after}
use Rattle.nr_text_laws.specs.CommandTexts.{IsOfTrees, IsUnanswered, on_value}
use Rattle.nr_text_laws.proofs.MadeOf.{made}
use Rattle.nr_text_laws.proofs.Parts.{IsAsked, IsPlaced, asked, same_end}

-- ---- A text

-- a text was made, or memory ran out
pub shown : (text : List ℕ) (r : Result (List ℕ) ClientEnd) → MatchResult r (λ t. t ≡ text) (λ end. end ≡ client.Memory) → IsUnanswered r ⊎ (r ≡ Ok text)
shown text (Ok t) is = inr (ap (λ (x : List ℕ). Ok x) is)
shown text (Err end) is = inl (subst (λ (e : ClientEnd). IsUnanswered {A = List ℕ} (Err e)) (sym is) tt)

-- nothing more is exchanged
pub nothing_more : (s : Setup) (J : List Entry) (from : ℕ) (made : List Exchange) → AreAnsweredFrom s J from [] made → AreAnsweredFrom s J from [] (made ++ [])
nothing_more s J from made are = subst (λ (l : List Exchange). AreAnsweredFrom s J from [] l) (sym (append-nil made)) are

-- what is answered from a place on is so within the journal
pub at_most : (s : Setup) (J : List Entry) (made : List Exchange) (least : ℕ) (waiting : List OpenCall) → AreAnsweredFrom s J least waiting made → least ≤ length J
at_most s J [] least waiting are = are
at_most s J (Answered call outcome ∷ made) least waiting (place, (a, (low, are))) = let most = at_most s J made (place_after s J call outcome place a) waiting are in omega (arith, low, most)
at_most s J (Submitted xid call ∷ made) least waiting are = at_most s J made least (record { xid = xid; call = call; least = least } ∷ waiting) are
at_most s J (HandedOver xid outcome ∷ made) least waiting (next, (low, (all, are))) = let most = at_most s J made next waiting are in omega (arith, low, most)
at_most s J (Forgotten call ∷ made) least waiting are = at_most s J made least waiting are
at_most s J (GivenUp xid ∷ made) least waiting are = at_most s J made least waiting are

-- a call and the text of its results
pub record IsCalled {B : Type 0} (s : Setup) (J : List Entry) (reads : Outcome → Result B ClientEnd) (call : Call) (text : B → List ℕ) (from : ℕ) (result : Result (List ℕ) ClientEnd) : Type 0 where
  pub outcome : Outcome
  pub place : ℕ
  pub answered : IsAnsweredAt s J call outcome place
  pub low : from ≤ place
  pub is : result ≡ made text (reads outcome)

pub called : {B : Type 0} (s : Setup) (J : List Entry) (reads : Outcome → Result B ClientEnd) (call : Call) (text : B → List ℕ) (t t' : SessionAt) (result : Result (List ℕ) ClientEnd)
    (is : Then (Request reads call) (λ x. Text (text x)) t t' result) (from : ℕ)
    → AreAnsweredFrom s J from [] (tells_then (Request reads call) (λ x. Text (text x)) (tells_request reads call) (λ x. tells_none (Text (text x))) t t' result is).made
    → IsUnanswered result ⊎ IsCalled s J reads call text from result
called {B} s J reads call text t t' result (inl (x, (mid, (asks, (still, shows))))) from are = by (asked s J reads call t mid (Ok x) asks from [] are) (shown (text x) result shows)
  where
    by : IsUnanswered {A = B} (Ok x) ⊎ IsAsked s J reads call from (Ok x) [] → IsUnanswered result ⊎ (result ≡ Ok (text x)) → IsUnanswered result ⊎ IsCalled s J reads call text from result
    by (inl un) shows = absurd un
    by (inr a) (inl un) = inl un
    by (inr a) (inr is) = inr (record { outcome = a.outcome; place = a.place; answered = a.answered; low = a.low; is = is ∙ ap (λ (r : Result B ClientEnd). made text r) a.is })
called {B} s J reads call text t t' result (inr (end, (asks, same))) from are = by (asked s J reads call t t' (Err end) asks from [] (nothing_more s J from (tells_request reads call t t' (Err end) asks).made are))
  where
    by : IsUnanswered {A = B} (Err end) ⊎ IsAsked s J reads call from (Err end) [] → IsUnanswered result ⊎ IsCalled s J reads call text from result
    by (inl un) = inl (same_end B end result same un)
    by (inr a) = inr (record { outcome = a.outcome; place = a.place; answered = a.answered; low = a.low; is = same ∙ ap (λ (r : Result B ClientEnd). made text r) a.is })

-- ---- A command

-- the last part of a command, at its place, and what else holds there
pub record IsLast (J : List Entry) (answer : (place : ℕ) → Moment → Result (List ℕ) ClientEnd) (Also : (place : ℕ) → Moment → Type 0) (from : ℕ) (result : Result (List ℕ) ClientEnd) : Type 0 where
  pub place : ℕ
  pub moment : Moment
  pub low : from ≤ place
  pub within : place ≤ length J
  pub is : result ≡ answer place moment
  pub also : Also place moment

-- the whole command, and what else holds at the place of its last call
pub record IsWhole {A : Type 0} (s : Setup) (J : List Entry) (from : ℕ) (finds : (trees : ℕ → Tree) → Result A ClientEnd) (answer : (place : ℕ) → Moment → A → Result (List ℕ) ClientEnd)
    (Also : A → Result (List ℕ) ClientEnd → (place : ℕ) → Moment → Type 0) (result : Result (List ℕ) ClientEnd) : Type 0 where
  pub of_trees : IsOfTrees s J from finds answer result
  pub also : (value : A) → finds (λ i. tree_at s J (of_trees.places i)) ≡ Ok value → Also value result of_trees.last of_trees.moment

-- a moment of a call that was not made
no_moment : Moment
no_moment = record { seconds = 0; nanos = 0 }

pub composed : {A : Type 0} (s : Setup) (J : List Entry) (first : Part A) (tells : Tells first) (finds : (trees : ℕ → Tree) → Result A ClientEnd) (next : A → Part (List ℕ)) (tells_next : (v : A) → Tells (next v))
    (answer : (place : ℕ) → Moment → A → Result (List ℕ) ClientEnd) (Also : A → Result (List ℕ) ClientEnd → (place : ℕ) → Moment → Type 0) (Good : A → Type 0)
    → ((trees : ℕ → Tree) (v : A) → finds trees ≡ Ok v → Good v)
    → ((t t' : SessionAt) (r : Result A ClientEnd) (is : first t t' r) (from : ℕ) (rest : List Exchange) → AreAnsweredFrom s J from [] ((tells t t' r is).made ++ rest) → IsUnanswered r ⊎ IsPlaced s J finds from r rest)
    → ((v : A) → Good v → (t t' : SessionAt) (r : Result (List ℕ) ClientEnd) (is : next v t t' r) (from : ℕ) → AreAnsweredFrom s J from [] (tells_next v t t' r is).made
    → IsUnanswered r ⊎ IsLast J (λ place m. answer place m v) (Also v r) from r)
    → (t t' : SessionAt) (result : Result (List ℕ) ClientEnd) (is : Then first next t t' result) (from : ℕ) → AreAnsweredFrom s J from [] (tells_then first next tells tells_next t t' result is).made
    → IsUnanswered result ⊎ IsWhole s J from finds answer Also result
composed {A} s J first tells finds next tells_next answer Also Good good placed ends t t' result (inl (v, (mid, (is, goes)))) from are = by (placed t mid (Ok v) is from (tells_next v mid t' result goes).made are)
  where
    joined : (p : IsPlaced s J finds from (Ok v) (tells_next v mid t' result goes).made) → IsUnanswered result ⊎ IsLast J (λ place m. answer place m v) (Also v result) p.last result → IsUnanswered result ⊎ IsWhole s J from finds answer Also result
    joined p (inl un) = inl un
    joined p (inr l) =
        inr (record {
          of_trees = record {
            places = p.places;
            last = l.place;
            are = record { first = p.first; rise = p.rise; ends = λ i. (let below = p.ends i in let low = l.low in omega (arith, below, low)); within = l.within };
            moment = l.moment;
            is = l.is ∙ ap (λ (r : Result A ClientEnd). on_value r (answer l.place l.moment)) p.is;
          };
          also = λ value found.
              let same : v ≡ value = (let both : ◌≡◌ {A = Result A ClientEnd} (Ok v) (Ok value) = p.is ∙ found in cc) in
              subst (λ (x : A). Also x result l.place l.moment) same l.also;
        })

    by : IsUnanswered (Ok v) ⊎ IsPlaced s J finds from (Ok v) (tells_next v mid t' result goes).made → IsUnanswered result ⊎ IsWhole s J from finds answer Also result
    by (inl un) = absurd un
    by (inr p) = joined p (ends v (good (λ i. tree_at s J (p.places i)) v (sym p.is)) mid t' result goes p.last p.later)
composed {A} s J first tells finds next tells_next answer Also Good good placed ends t t' result (inr (end, (is, same))) from are =
    by (placed t t' (Err end) is from [] (nothing_more s J from (tells t t' (Err end) is).made are))
  where
    by : IsUnanswered {A = A} (Err end) ⊎ IsPlaced s J finds from (Err end) [] → IsUnanswered result ⊎ IsWhole s J from finds answer Also result
    by (inl un) = inl (same_end A end result same un)
    by (inr p) =
        inr (record {
          of_trees = record {
            places = p.places;
            last = p.last;
            are = record { first = p.first; rise = p.rise; ends = p.ends; within = p.later };
            moment = no_moment;
            is = same ∙ ap (λ (r : Result A ClientEnd). on_value r (answer p.last no_moment)) p.is;
          };
          also = λ value found. absurd (let wrong : ◌≡◌ {A = Result A ClientEnd} (Err end) (Ok value) = p.is ∙ found in cc);
        })
