-- One call more of a connection, whatever answers it.
use Rattle.std.proofs.Common.{◌≡◌, ℕ, List, [], ◌∷◌, ◌++◌, Option, None, Some, sym, subst}
use Rattle.std.specs.Io.KnownBytes.{Appends}
use Rattle.std.proofs.KnownBytes.{Appends-trans, Appends-nil}
use Rattle.nr_outside.specs.Content.{HandsOut}
use Rattle.nr_outside.proofs.Moves.{HandsOut_append, HandsOut_nil}
use Rattle.nr_record_loop.specs.Connections.{AnswersOne, Exchange, Loop, ServesBy, Unanswered, loop_at}

module _ {S : Type 0} (Did : S → S → List Exchange → Option Unanswered → Type 0) where
  module _ (before : Loop S) (left given taken taken' : Option (List ℕ)) (u u' : S) (bytes : List ℕ) (xs : List Exchange) (took : List ℕ)
      (s : ServesBy Did before (loop_at left given taken u) bytes xs None took) where
    -- a call was answered, and these bytes were written
    pub serves_more : (call reply part : List ℕ) → AnswersOne Did u u' call reply → Appends taken taken' part
        → ServesBy Did before (loop_at left given taken' u') bytes (xs ++ record { call = call; reply = reply } ∷ []) None (took ++ part)
    serves_more call reply part answers more = record {
      handed = s.handed;
      taken = Appends-trans before.taken taken taken' took part s.taken more;
      did = answers before.state xs s.did;
    }

    -- this call was not answered
    pub serves_none : (x : Unanswered) → ((first : S) (ys : List Exchange) → Did first u ys None → Did first u' ys (Some x)) → taken' ≡ taken
        → ServesBy Did before (loop_at left given taken' u') bytes xs (Some x) took
    serves_none x passes taken_is = record {
      handed = s.handed;
      taken = subst (λ (o : Option (List ℕ)). Appends before.taken o took) (sym taken_is) s.taken;
      did = passes before.state xs s.did;
    }

  -- bytes were read
  pub serves_read : (before : Loop S) (left given left' given' taken : Option (List ℕ)) (u : S) (bytes piece : List ℕ) (xs : List Exchange) (took : List ℕ)
      → ServesBy Did before (loop_at left given taken u) bytes xs None took → HandsOut left given left' given' piece
      → ServesBy Did before (loop_at left' given' taken u) (bytes ++ piece) xs None took
  serves_read before left given left' given' taken u bytes piece xs took s hands = record {
    handed = HandsOut_append before.left before.given left given left' given' bytes piece s.handed hands;
    taken = s.taken;
    did = s.did;
  }

  -- nothing was done
  pub serves_nothing : (before : Loop S) → Did before.state before.state [] None → ServesBy Did before before [] [] None []
  serves_nothing before none = record { handed = HandsOut_nil before.left before.given; taken = Appends-nil before.taken; did = none }
