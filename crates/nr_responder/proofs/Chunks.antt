-- The chunks of a read list that have bytes.
use Rattle.std.proofs.Common.{◌≡◌, Bool, true, false, not, ◌||◌, eqb, List, [], ◌∷◌, refl}
use Rattle.std.proofs.lemmas.Bool.{eqb-true}
use Rattle.nr_header.specs.declared.header.ReadSegment.{ReadSegment}
use Rattle.nr_responder.specs.Fetching.{has_bytes}
use Rattle.nr_responder.specs.private.CallsRead.{HasNoBytes}

pub none_has_bytes : (read : List ReadSegment) → has_bytes read ≡ false → HasNoBytes read
none_has_bytes [] is = tt
none_has_bytes (r ∷ read) is = by (eqb r.length 0) (λ e. eqb-true r.length 0 e) (has_bytes read) (λ e. none_has_bytes read e) is
  where
    by : (b : Bool) → (b ≡ true → r.length ≡ 0) → (c : Bool) → (c ≡ false → HasNoBytes read) → (not b || c) ≡ false → HasNoBytes (r ∷ read)
    by true zero false rest e = (zero refl, rest refl)
    by true zero true rest e = absurd cc
    by false zero c rest e = absurd cc
