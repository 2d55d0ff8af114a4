-- The code notes which calls were sent again: the first ones, until as many wait as the client says.
use Rattle.std.specs.Prelude.{◌-◌, is_some, slice_index_or, get_or}
use Rattle.std.specs.List.{remove}
use Rattle.std.proofs.Common.{◌≡◌, ℕ, ◌+◌, ◌<◌, ◌≤◌, arith, zero, suc, true, List, [], ◌∷◌, ◌++◌, length, map, take, drop, Option, None, Some, refl, ap, sym, subst, ◌∙◌, append-nil, append_assoc}
use Rattle.std.proofs.lemmas.List.{map-append, take_all, take_more}
use Rattle.nr_link.specs.declared.end.End.{End}
use Rattle.nr_reduce.specs.History.{AcceptedCall}
use Rattle.nr_reduce.specs.declared.mark.Mark.{Mark}
use Rattle.nr_world.specs.declared.awaited.AwaitedCall.{AwaitedCall}
use Rattle.nr_world.specs.declared.awaited.HeldCall.{HeldCall}
use Rattle.nr_world.specs.DrillLinkState.{DrillLinkState}
use Rattle.nr_world.specs.Views.{call_view, held_view}
use Rattle.nr_world.specs.private.Working.{NotesFirst, NotesResends, again_mark, resends_in, resends_of}

-- the first of them, where `waiting` are left in the end
pub record NotedSome (link waiting : ℕ) (before after : List AcceptedCall) (run run2 : List Mark) : Type 0 where
  pub n : ℕ
  pub few : n ≤ length before - waiting
  pub left : after ≡ drop n before
  pub marks_are : run2 ≡ run ++ map (again_mark link) (take n before)

pub noted_none : (link waiting : ℕ) (calls : List AcceptedCall) (run : List Mark) → NotedSome link waiting calls calls run run
noted_none link waiting calls run = record { n = 0; few = omega arith; left = refl; marks_are = sym (append-nil run) }

length_drop : (n : ℕ) (xs : List AcceptedCall) → length (drop n xs) ≡ length xs - n
length_drop zero xs = omega arith
length_drop (suc n) [] = omega arith
length_drop (suc n) (x ∷ xs) = (let rest = length_drop n xs in omega (arith, rest))

drop_next : (n : ℕ) (xs : List AcceptedCall) → drop 1 (drop n xs) ≡ drop (suc n) xs
drop_next zero [] = refl
drop_next zero (x ∷ xs) = refl
drop_next (suc n) [] = refl
drop_next (suc n) (x ∷ xs) = drop_next n xs

take_next : (n : ℕ) (xs rest : List AcceptedCall) (c : AcceptedCall) → drop n xs ≡ c ∷ rest → take (suc n) xs ≡ take n xs ++ c ∷ []
take_next zero [] rest c e = absurd cc
take_next zero (x ∷ xs) rest c e = (let same : x ≡ c = ap (λ (ys : List AcceptedCall). slice_index_or ys 0 x) e in ap (λ (y : AcceptedCall). y ∷ []) same)
take_next (suc n) [] rest c e = absurd cc
take_next (suc n) (x ∷ xs) rest c e = ap (λ (ys : List AcceptedCall). x ∷ ys) (take_next n xs rest c e)

-- the next one
pub noted_one : (link waiting : ℕ) (before after rest : List AcceptedCall) (run run2 run3 : List Mark) (c : AcceptedCall) → NotedSome link waiting before after run run2 → waiting < length after → after ≡ c ∷ rest →
    run3 ≡ run2 ++ again_mark link c ∷ [] → NotedSome link waiting before rest run run3
noted_one link waiting before after rest run run2 run3 c h more first marks_are =
    let left : drop h.n before ≡ c ∷ rest = sym h.left ∙ first in
    let count : length after ≡ length before - h.n = ap (λ (cs : List AcceptedCall). length cs) h.left ∙ length_drop h.n before in
    record {
      n = suc h.n;
      few = omega (arith, more, count, h.few);
      left = sym (ap (λ (xs : List AcceptedCall). drop 1 xs) left) ∙ drop_next h.n before;
      marks_are = marks_are
          ∙ ap (λ (ms : List Mark). ms ++ again_mark link c ∷ []) h.marks_are
          ∙ append_assoc run (map (again_mark link) (take h.n before)) (again_mark link c ∷ [])
          ∙ ap (λ (ms : List Mark). run ++ ms) (sym (map-append (again_mark link) (take h.n before) (c ∷ [])) ∙ ap (λ (cs : List AcceptedCall). map (again_mark link) cs) (sym (take_next h.n before rest c left)));
    }

-- all of them
pub noted_all : (link waiting : ℕ) (before after : List AcceptedCall) (run run2 : List Mark) → NotedSome link waiting before after run run2 → length after ≤ waiting → NotesFirst link waiting before after run run2
noted_all link waiting before after run run2 h le =
    let count : length after ≡ length before - h.n = ap (λ (cs : List AcceptedCall). length cs) h.left ∙ length_drop h.n before in
    let all : h.n ≡ length before - waiting = omega (arith, h.few, le, count) in
    (h.left ∙ ap (λ (m : ℕ). drop m before) all, h.marks_are ∙ ap (λ (m : ℕ). run ++ map (again_mark link) (take m before)) all)

-- so a client that is alive notes those that it sent
pub notes_live : (v h : DrillLinkState) (waiting : ℕ) (left : List AcceptedCall) (run run2 : List Mark) → v ≡ h → v.client.state.side.ended ≡ None → waiting ≡ length v.client.state.side.send_queue.held →
    NotesFirst v.number waiting v.waiting left run run2 → NotesResends h (record v { waiting = left }) run run2
notes_live v h waiting left run run2 is live held notes =
    let same : length v.waiting - waiting ≡ resends_in v =
    ap (λ (m : ℕ). length v.waiting - m) held ∙ sym (ap (λ (o : Option End). resends_of o (length v.waiting) (length v.client.state.side.send_queue.held)) live) in
    subst (λ (x : DrillLinkState). NotesResends x (record v { waiting = left }) run run2) is (record {
      link_is = ap (λ (cs : List AcceptedCall). record v { waiting = cs }) (notes.0 ∙ ap (λ (m : ℕ). drop m v.waiting) same);
      marks_are = notes.1 ∙ ap (λ (m : ℕ). run ++ map (again_mark v.number) (take m v.waiting)) same;
    })

-- a client that has ended sent none again
pub noted_ended : (v : DrillLinkState) (run : List Mark) → is_some v.client.state.side.ended ≡ true → NotesResends v v run run
noted_ended v run e = by v.client.state.side.ended refl e
  where
    by : (o : Option End) → v.client.state.side.ended ≡ o → is_some o ≡ true → NotesResends v v run run
    by None is e = absurd cc
    by (Some end) is e =
        let none : 0 ≡ resends_in v = sym (ap (λ (o : Option End). resends_of o (length v.waiting) (length v.client.state.side.send_queue.held)) is) in
        record {
          link_is = ap (λ (m : ℕ). record v { waiting = drop m v.waiting }) none;
          marks_are = sym (append-nil run) ∙ ap (λ (m : ℕ). run ++ map (again_mark v.number) (take m v.waiting)) none;
        }

-- as the code has it: the first of the calls that wait is taken out
pub held_first : (held left : List HeldCall) (x : HeldCall) → 0 < length held → x ≡ get_or held 0 x → left ≡ remove held 0 → map held_view held ≡ held_view x ∷ map held_view left
held_first [] left x lt at is = absurd (omega (arith, lt))
held_first (h ∷ hs) left x lt at is = (λ i. held_view (sym at i) ∷ map held_view (sym is i))

-- ---- Copies of the calls that are awaited

pub held_more : (held more : List HeldCall) (awaited : List AwaitedCall) (at : ℕ) (x : AwaitedCall) → at < length awaited → x ≡ get_or awaited at x → map held_view held ≡ map call_view (take at awaited) →
    map held_view more ≡ map held_view held ++ call_view x ∷ [] → map held_view more ≡ map call_view (take (at + 1) awaited)
held_more held more awaited at x lt is so_far pushed =
    let front : take (at + 1) awaited ≡ take at awaited ++ x ∷ [] =
    take_more awaited at x lt ∙ ap (λ (y : AwaitedCall). take at awaited ++ y ∷ []) (sym is) in
    pushed ∙ ap (λ (cs : List AcceptedCall). cs ++ call_view x ∷ []) so_far ∙ sym (map-append call_view (take at awaited) (x ∷ [])) ∙ sym (ap (λ (cs : List AwaitedCall). map call_view cs) front)

pub held_all : (held : List HeldCall) (awaited : List AwaitedCall) (at : ℕ) → length awaited ≤ at → map held_view held ≡ map call_view (take at awaited) → map held_view held ≡ map call_view awaited
held_all held awaited at le so_far = so_far ∙ ap (λ (cs : List AwaitedCall). map call_view cs) (take_all at awaited le)
