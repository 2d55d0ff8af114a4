-- On a matched link each side got the first bytes of what the other has to write.
use Rattle.std.proofs.Common.{◌≡◌, ℕ, Bool, true, false, cond, ◌&&◌, eqb, List, [], ◌∷◌, ◌++◌, refl, sym, ap, subst, ◌∙◌, append_assoc, append-nil, inl, inr, ◌⊎◌}
use Rattle.std.proofs.lemmas.Bool.{eqb-true}
use Rattle.nr_wire.specs.declared.hello.Side.{Side}
use Rattle.nr_wire.specs.declared.hello.Side.TheVariants.{Initiator, Responder}
use Rattle.nr_reduce.specs.declared.mark.Mark.{Mark}
use Rattle.nr_reduce.specs.declared.mark.Mark.TheVariants as marks
use Rattle.nr_reduce.specs.declared.mark.LinkParameters.{LinkParameters}
use Rattle.nr_wire.specs.Hello.{peer}
use Rattle.nr_reduce.specs.History.{bytes_sent, bytes_received, written_at, fed_at}
use Rattle.nr_reduce.specs.AtEachMark.{AtEachMark}
use Rattle.nr_reduce.specs.Matched.{IsPrefixOf, MatchedMark, Matched}
use Rattle.nr_reduce.specs.Events.{events_at}
use Rattle.nr_reduce.specs.EndRules.{output_for_all}
use Rattle.nr_reduce.specs.Client.{client_rules}
use Rattle.nr_reduce.specs.Server.{server_rules}
use Rattle.nr_reduce.specs.Run.{client, server, output_due}
use Rattle.nr_reduce.specs.Asked.{AskedMark, AskedSoFar}
use Rattle.nr_reduce.specs.Served.{ServedMark, ServedSoFar}
use Rattle.nr_reduce.proofs.Steps.{output_due_up_one, output_due_down_one}
use Rattle.nr_reduce.proofs.Standing.{received_one, sent_one}

pub prefix_through : (xs ys zs : List ℕ) → IsPrefixOf xs ys → IsPrefixOf ys zs → IsPrefixOf xs zs
prefix_through xs ys zs p q = (p.0 ++ q.0, sym (append_assoc xs p.0 q.0) ∙ ap (λ (s : List ℕ). s ++ q.0) p.1 ∙ q.1)

prefix_more : (xs ys more : List ℕ) → IsPrefixOf xs ys → IsPrefixOf xs (ys ++ more)
prefix_more xs ys more p = prefix_through xs ys (ys ++ more) p (more, refl)

-- what grows with each mark keeps within what grows too, if each growth of it does
record Keeps (P : List Mark → Mark → Type 0) (X Y : List Mark → List ℕ) : Type 0 where
  add : Mark → List ℕ
  adds : (before : List Mark) (mark : Mark) → X (before ++ mark ∷ []) ≡ X before ++ add mark
  more : List Mark → Mark → List ℕ
  mores : (before : List Mark) (mark : Mark) → Y (before ++ mark ∷ []) ≡ Y before ++ more before mark
  right : (before : List Mark) (mark : Mark) → P before mark → (add mark ≡ []) ⊎ IsPrefixOf (X before ++ add mark) (Y before)

keeps : (P : List Mark → Mark → Type 0) (X Y : List Mark → List ℕ) → Keeps P X Y → (before run : List Mark) → AtEachMark P before run → IsPrefixOf (X before) (Y before) → IsPrefixOf (X (before ++ run)) (Y (before ++ run))
keeps P X Y k before [] h p = subst (λ (b : List Mark). IsPrefixOf (X b) (Y b)) (sym (append-nil before)) p
keeps P X Y k before (mark ∷ run) h p =
    let within : IsPrefixOf (X before ++ k.add mark) (Y before) = elim (k.right before mark h.0) [
      | inl none ↦ subst (λ (xs : List ℕ). IsPrefixOf xs (Y before)) (sym (append-nil (X before)) ∙ ap (λ (xs : List ℕ). X before ++ xs) (sym none)) p
      | inr within ↦ within
    ] in
    let next : IsPrefixOf (X (before ++ mark ∷ [])) (Y (before ++ mark ∷ [])) =
    subst (λ (xs : List ℕ). IsPrefixOf xs (Y (before ++ mark ∷ []))) (sym (k.adds before mark))
    (subst (λ (ys : List ℕ). IsPrefixOf (X before ++ k.add mark) ys) (sym (k.mores before mark)) (prefix_more (X before ++ k.add mark) (Y before) (k.more before mark) within)) in
    subst (λ (b : List Mark). IsPrefixOf (X b) (Y b)) (append_assoc before (mark ∷ []) run) (keeps P X Y k (before ++ mark ∷ []) run h.1 next)

-- bytes that count on one link alone
if_link : (link l : ℕ) (bytes : List ℕ) (Q : List ℕ → Type 0) → (l ≡ link → Q bytes) → (cond (eqb l link && true) bytes [] ≡ []) ⊎ Q (cond (eqb l link && true) bytes [])
if_link link l bytes Q h = by (eqb l link) refl
  where
    by : (b : Bool) → eqb l link ≡ b → (cond (b && true) bytes [] ≡ []) ⊎ Q (cond (b && true) bytes [])
    by true e = inr (h (eqb-true l link e))
    by false e = inl refl

other_link : (link l : ℕ) (bytes : List ℕ) → cond (eqb l link && false) bytes [] ≡ []
other_link link l bytes = by (eqb l link)
  where
    by : (b : Bool) → cond (b && false) bytes [] ≡ []
    by true = refl
    by false = refl

asks_right : (opened : LinkParameters) (link : ℕ) (before : List Mark) (mark : Mark) → AskedMark IsPrefixOf opened link before mark
    → (written_at link Initiator mark ≡ []) ⊎ IsPrefixOf (bytes_sent link Initiator before ++ written_at link Initiator mark) (output_due opened link Initiator before)
asks_right opened link before (marks.Wrote l Initiator bytes) h = if_link link l bytes (λ (xs : List ℕ). IsPrefixOf (bytes_sent link Initiator before ++ xs) (output_due opened link Initiator before)) h
asks_right opened link before (marks.Wrote l Responder bytes) h = inl (other_link link l bytes)
asks_right opened link before (marks.Submit l call form answer) h = inl refl
asks_right opened link before (marks.Fed l side bytes) h = inl refl
asks_right opened link before (marks.Execute l xid moment payload place reply) h = inl refl
asks_right opened link before (marks.Done l xid outcome) h = inl refl
asks_right opened link before (marks.Lost l xid) h = inl refl
asks_right opened link before (marks.Forget l xid) h = inl refl
asks_right opened link before (marks.Revoke l xid bytes) h = inl refl
asks_right opened link before (marks.Drop l) h = inl refl
asks_right opened link before (marks.Told l what) h = inl refl

serves_right : (opened : LinkParameters) (link : ℕ) (before : List Mark) (mark : Mark) → ServedMark IsPrefixOf opened link before mark
    → (written_at link Responder mark ≡ []) ⊎ IsPrefixOf (bytes_sent link Responder before ++ written_at link Responder mark) (output_due opened link Responder before)
serves_right opened link before (marks.Wrote l Responder bytes) h = if_link link l bytes (λ (xs : List ℕ). IsPrefixOf (bytes_sent link Responder before ++ xs) (output_due opened link Responder before)) h
serves_right opened link before (marks.Wrote l Initiator bytes) h = inl (other_link link l bytes)
serves_right opened link before (marks.Submit l call form answer) h = inl refl
serves_right opened link before (marks.Fed l side bytes) h = inl refl
serves_right opened link before (marks.Execute l xid moment payload place reply) h = inl refl
serves_right opened link before (marks.Done l xid outcome) h = inl refl
serves_right opened link before (marks.Lost l xid) h = inl refl
serves_right opened link before (marks.Forget l xid) h = inl refl
serves_right opened link before (marks.Revoke l xid bytes) h = inl refl
serves_right opened link before (marks.Drop l) h = inl refl
serves_right opened link before (marks.Told l what) h = inl refl

feeds_right : (link : ℕ) (side : Side) (before : List Mark) (mark : Mark) → MatchedMark link before mark
    → (fed_at link side mark ≡ []) ⊎ IsPrefixOf (bytes_received link side before ++ fed_at link side mark) (bytes_sent link (peer side) before)
feeds_right link Initiator before (marks.Fed l Initiator bytes) h = if_link link l bytes (λ (xs : List ℕ). IsPrefixOf (bytes_received link Initiator before ++ xs) (bytes_sent link Responder before)) h
feeds_right link Responder before (marks.Fed l Responder bytes) h = if_link link l bytes (λ (xs : List ℕ). IsPrefixOf (bytes_received link Responder before ++ xs) (bytes_sent link Initiator before)) h
feeds_right link Initiator before (marks.Fed l Responder bytes) h = inl (other_link link l bytes)
feeds_right link Responder before (marks.Fed l Initiator bytes) h = inl (other_link link l bytes)
feeds_right link side before (marks.Wrote l s bytes) h = inl refl
feeds_right link side before (marks.Submit l call form answer) h = inl refl
feeds_right link side before (marks.Execute l xid moment payload place reply) h = inl refl
feeds_right link side before (marks.Done l xid outcome) h = inl refl
feeds_right link side before (marks.Lost l xid) h = inl refl
feeds_right link side before (marks.Forget l xid) h = inl refl
feeds_right link side before (marks.Revoke l xid bytes) h = inl refl
feeds_right link side before (marks.Drop l) h = inl refl
feeds_right link side before (marks.Told l what) h = inl refl

nothing_sent : (link : ℕ) (side : Side) → bytes_sent link side [] ≡ []
unfolding bytes_sent
nothing_sent link side = refl

nothing_got : (link : ℕ) (side : Side) → bytes_received link side [] ≡ []
unfolding bytes_received
nothing_got link side = refl

from_nothing : (xs ys : List ℕ) → xs ≡ [] → IsPrefixOf xs ys
from_nothing xs ys e = (ys, ap (λ (s : List ℕ). s ++ ys) e)

pub sent_up : (opened : LinkParameters) (link : ℕ) (run : List Mark) → AskedSoFar opened link run → IsPrefixOf (bytes_sent link Initiator run) (output_due opened link Initiator run)
sent_up opened link run h =
    keeps (AskedMark IsPrefixOf opened link) (bytes_sent link Initiator) (output_due opened link Initiator) (record {
      add = written_at link Initiator;
      adds = sent_one link Initiator;
      more = λ before mark. output_for_all (client_rules opened) (client opened link before) (events_at link Initiator before mark);
      mores = output_due_up_one opened link;
      right = asks_right opened link;
    }) [] run h (from_nothing _ _ (nothing_sent link Initiator))

pub sent_down : (opened : LinkParameters) (link : ℕ) (run : List Mark) → ServedSoFar opened link run → IsPrefixOf (bytes_sent link Responder run) (output_due opened link Responder run)
sent_down opened link run h =
    keeps (ServedMark IsPrefixOf opened link) (bytes_sent link Responder) (output_due opened link Responder) (record {
      add = written_at link Responder;
      adds = sent_one link Responder;
      more = λ before mark. output_for_all (server_rules opened) (server opened link before) (events_at link Responder before mark);
      mores = output_due_down_one opened link;
      right = serves_right opened link;
    }) [] run h (from_nothing _ _ (nothing_sent link Responder))

pub got_sent : (link : ℕ) (side : Side) (run : List Mark) → Matched link run → IsPrefixOf (bytes_received link side run) (bytes_sent link (peer side) run)
got_sent link side run h =
    keeps (MatchedMark link) (bytes_received link side) (bytes_sent link (peer side)) (record {
      add = fed_at link side;
      adds = received_one link side;
      more = λ before mark. written_at link (peer side) mark;
      mores = sent_one link (peer side);
      right = feeds_right link side;
    }) [] run h (from_nothing _ _ (nothing_got link side))

-- what the server got is the first of what the client owes, and the other way
pub flows_up : (opened : LinkParameters) (link : ℕ) (run : List Mark) → Matched link run → AskedSoFar opened link run → IsPrefixOf (bytes_received link Responder run) (output_due opened link Initiator run)
flows_up opened link run matched asked = prefix_through _ _ _ (got_sent link Responder run matched) (sent_up opened link run asked)

pub flows_down : (opened : LinkParameters) (link : ℕ) (run : List Mark) → Matched link run → ServedSoFar opened link run → IsPrefixOf (bytes_received link Initiator run) (output_due opened link Responder run)
flows_down opened link run matched served = prefix_through _ _ _ (got_sent link Initiator run matched) (sent_down opened link run served)
