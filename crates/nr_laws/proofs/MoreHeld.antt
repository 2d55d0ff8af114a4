-- An offer that holds a reply with Sends of some length holds it with longer ones.
use Rattle.std.proofs.Common.{◌≡◌, ◌≢◌, ℕ, ◌+◌, ◌≤◌, Bool, true, false, cond, leb, List, length, Option, None, Some, refl, ap, ◌∙◌, arith}
use Rattle.std.proofs.lemmas.Bool.{leb-false, lt-leb}
use Rattle.nr_header.specs.declared.header.ChunkLists.{ChunkLists}
use Rattle.nr_rpc.specs.declared.head.CallTarget.{CallTarget}
use Rattle.nr_reduce.specs.Holds.{Answer, Parts, answer_for, answer_with, answer_size, fits_reply}
use Rattle.nr_reduce.specs.Server.{answer_of_target}

held_with : (offer : ChunkLists) (n m : ℕ) (o : Option Parts) → n ≤ m → answer_with offer n o ≢ None → answer_with offer m o ≢ None
held_with offer n m None le h = h
held_with offer n m (Some p) le h = by (leb size m) refl
  where
    size : ℕ
    size = answer_size offer.write + length p.stream

    short : Option Answer
    short = Some (record { long = false; stream = p.stream; moved = p.moved })

    long : Option Answer
    long = cond (fits_reply offer.reply (length p.stream)) (Some (record { long = true; stream = p.stream; moved = p.moved })) None

    by : (b : Bool) → leb size m ≡ b → cond b short long ≢ None
    by true is = λ e. absurd cc
    by false is = λ e. h (ap (λ (b : Bool). cond b short long) (lt-leb size n (let lt = leb-false size m is in omega (arith, lt, le))) ∙ e)

pub more_held : (offer : ChunkLists) (n m : ℕ) (reply : List ℕ) (t : Option CallTarget) → n ≤ m → answer_of_target offer n reply t ≢ None → answer_of_target offer m reply t ≢ None
unfolding answer_for
more_held offer n m reply None le h = held_with offer n m _ le h
more_held offer n m reply (Some t) le h = held_with offer n m _ le h
