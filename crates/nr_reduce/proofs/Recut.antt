-- What was cut is put together again.
use Rattle.std.proofs.Common.{◌≡◌, ℕ, cond, not, List, Option, Some, None, Ok, Err, refl, ap, subst, ◌∙◌}
use Rattle.std.proofs.lemmas.Bool.{eq-eqb}
use Rattle.nr_xdr.specs.Item.{IsBytes}
use Rattle.nr_reduce.specs.declared.item.Item.{Item}
use Rattle.nr_reduce.specs.declared.item.Of.{Of}
use Rattle.nr_reduce.specs.declared.item.Cut.{Cut}
use Rattle.nr_reduce.specs.declared.fault.Mismatch.TheVariants as mismatches
use Rattle.nr_reduce.specs.Items.{reducible_item, stream_of, moved_of}
use Rattle.nr_reduce.specs.Cuts.{cut_at, cut_of, joined_by, rebuilt_of}
use Rattle.nr_reduce.proofs.ItemSearch.{item_stands}
use Rattle.nr_reduce.proofs.Rebuilding.{reducible, restored_moved, moved_length, right_length}

abbrev some : Cut → Option Cut
some c = Some c

some_is : (c d : Cut) → some c ≡ some d → c ≡ d
some_is c d e = cc

at_item : (of : Of) (payload : List ℕ) (i : Item) → IsBytes payload → reducible_item of payload ≡ Some i → rebuilt_of of (stream_of payload i) i.pos (moved_of payload i) ≡ Ok payload
unfolding rebuilt_of
at_item of payload i fits e =
    let r = reducible of payload i e in
    let s = item_stands of payload i fits r.item in
    ap (λ (o : Option Item). joined_by of (stream_of payload i) i.pos (moved_of payload i) o) s.again
    ∙ (λ k. cond (not (eq-eqb i.pos i.pos refl k)) (Err mismatches.Position)
    (cond (not (right_length of i (moved_of payload i) (moved_length of payload i r) k)) (Err mismatches.Length) (Ok (restored_moved of payload i r k))))

by_item : (of : Of) (payload : List ℕ) (c : Cut) (o : Option Item) → IsBytes payload → reducible_item of payload ≡ o → cut_at payload o ≡ Some c → rebuilt_of of c.stream c.item.pos c.moved ≡ Ok payload
by_item of payload c None fits is e = absurd cc
by_item of payload c (Some i) fits is e =
    let same = some_is (record { item = i; stream = stream_of payload i; moved = moved_of payload i }) c e in
    subst (λ (c : Cut). rebuilt_of of c.stream c.item.pos c.moved ≡ Ok payload) same (at_item of payload i fits is)

pub cut_rebuilt : (of : Of) (payload : List ℕ) (c : Cut) → IsBytes payload → cut_of of payload ≡ Some c → rebuilt_of of c.stream c.item.pos c.moved ≡ Ok payload
unfolding cut_of
cut_rebuilt of payload c fits e = by_item of payload c (reducible_item of payload) fits refl e
