-- Arguments that are read completely: also at another offset, and so is the count after the fields before it.
use Rattle.std.proofs.Common.{◌≡◌, ℕ, ◌+◌, List, [], length, Some, Result, Ok, refl, sym, ap, ◌∙◌}
use Rattle.std.proofs.lemmas.List.{append-nil}
use Rattle.nr_xdr.specs.Item.{IsBytes}
use Rattle.nr_xdr.specs.Reading.{Cursor, unsigned_at}
use Rattle.nr_xdr.specs.Sequencing.{◌>>=◌, or_place, number_at}
use Rattle.nr_xdr.proofs.Chains.{standing, each_takes}
use Rattle.nr_nfs_base.specs.Codec.{Codec, Lawful, ReadsAs, read_all, ◌⊗◌, word}
use Rattle.nr_nfs_base.specs.Laws.{ok_is, bind_ok}
use Rattle.nr_nfs_base.specs.Fronts.{read_args_front, readdir_args_front, readdirplus_args_front}
use Rattle.nr_nfs_base.proofs.ReadingAll.{found_all}
use Rattle.nr_nfs_args.specs.Bytes.{read_args_codec, read_args_lawful}
use Rattle.nr_nfs_args.specs.Readdir.{readdir_args_codec, readdir_args_lawful, readdirplus_args_codec, readdirplus_args_lawful}
use Rattle.nr_nfs_args.specs.declared.bytes.ReadArgs.{ReadArgs}
use Rattle.nr_nfs_args.specs.declared.readdir.ReaddirArgs.{ReaddirArgs}
use Rattle.nr_nfs_args.specs.declared.readdir.ReaddirplusArgs.{ReaddirplusArgs}
use Rattle.nr_reduce.specs.Largest.{count_of, count_after, read_count, readdir_count, readdirplus_count}

-- what is read of all the bytes is read of them at any offset
read_there : {A : Type 0} (c : Codec A) → Lawful c → (place : ℕ) (bytes : List ℕ) (v : A) → IsBytes bytes → read_all c bytes ≡ Ok v
    → c.read (standing place bytes) ≡ Ok (v, standing (place + length bytes) [])
read_there c lawful place bytes v fits e =
    let reads : ReadsAs c v bytes = found_all c lawful bytes v fits e in
    lawful.encoded_is_read (standing place bytes) v (standing (place + length bytes) []) reads.0
    (each_takes (c.items v) bytes [] (standing place bytes) reads.1 (sym (append-nil bytes)))

-- the number after a front
number_there : {A : Type 0} (front : Codec A) (at : Cursor) (x : (A × ℕ) × Cursor) → (front ⊗ word).read at ≡ Ok x → count_after front at ≡ Some x.0.1
unfolding word
number_there {A} front at x e =
    let f = bind_ok (front.read at) (λ (y : A × Cursor). or_place (unsigned_at y.1) >>= λ n. Ok ((y.0, n.0), n.1)) x e in
    let n = bind_ok (or_place (unsigned_at f.0.1)) (λ (n : ℕ × Cursor). Ok ((f.0.0, n.0), n.1)) x f.2 in
    let made : (A × ℕ) × Cursor = ((f.0.0, n.0.0), n.0.1) in
    ap (λ (r : Result (A × Cursor) ℕ). count_of (r >>= λ y. number_at y.1)) f.1 ∙ ap count_of n.1 ∙ ap (λ (y : (A × ℕ) × Cursor). Some y.0.1) (ok_is made x n.2)

-- of what is made of a front and a number
count_there : {A B : Type 0} (make : A × ℕ → B) (front : Codec A) (count : B → ℕ) → ((x : A × ℕ) → count (make x) ≡ x.1) → (at : Cursor) (v : B) (after : Cursor)
    → ◌>>=◌ {A = (A × ℕ) × Cursor} {B = B × Cursor} ((front ⊗ word).read at) (λ x. Ok (make x.0, x.1)) ≡ Ok (v, after) → count_after front at ≡ Some (count v)
count_there {A} {B} make front count counts at v after e =
    let x = bind_ok ((front ⊗ word).read at) (λ (y : (A × ℕ) × Cursor). Ok (make y.0, y.1)) (v, after) e in
    let made : B × Cursor = (make x.0.0, x.0.1) in
    number_there front at x.0 x.1 ∙ ap (λ (n : ℕ). Some n) (sym (counts x.0.0)) ∙ ap (λ (y : B × Cursor). Some (count y.0)) (ok_is made (v, after) x.2)

module _ (place : ℕ) (bytes : List ℕ) (fits : IsBytes bytes) where
  pub read_counted : (v : ReadArgs) → read_all read_args_codec bytes ≡ Ok v → read_count (standing place bytes) ≡ Some v.count
  unfolding read_args_codec read_count
  read_counted v e =
      count_there _ read_args_front (λ (a : ReadArgs). a.count) (λ x. refl) (standing place bytes) v (standing (place + length bytes) []) (read_there read_args_codec read_args_lawful place bytes v fits e)

  pub readdir_counted : (v : ReaddirArgs) → read_all readdir_args_codec bytes ≡ Ok v → readdir_count (standing place bytes) ≡ Some v.count
  unfolding readdir_args_codec readdir_count
  readdir_counted v e =
      count_there _ readdir_args_front (λ (a : ReaddirArgs). a.count) (λ x. refl) (standing place bytes) v (standing (place + length bytes) []) (read_there readdir_args_codec readdir_args_lawful place bytes v fits e)

  pub readdirplus_counted : (v : ReaddirplusArgs) → read_all readdirplus_args_codec bytes ≡ Ok v → readdirplus_count (standing place bytes) ≡ Some v.maxcount
  unfolding readdirplus_args_codec readdirplus_count
  readdirplus_counted v e =
      count_there _ readdirplus_args_front (λ (a : ReaddirplusArgs). a.maxcount) (λ x. refl) (standing place bytes) v (standing (place + length bytes) []) (read_there readdirplus_args_codec readdirplus_args_lawful place bytes v fits e)
