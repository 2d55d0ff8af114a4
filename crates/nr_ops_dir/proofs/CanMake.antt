-- What a MKDIR, SYMLINK or MKNOD that no rule refuses is known to be.
use Rattle.std.proofs.Common.{◌≡◌, ℕ, ◌≤◌, true, false, eqb, ltb, List, length, Option, None, Some, unwrap_or, refl, ap, sym, arith}
use Rattle.std.proofs.lemmas.Bool.{both_ways, eqb-false, ltb-false}
use Rattle.nr_nfs_base.specs.declared.caller.Caller.{Caller}
use Rattle.nr_nfs_base.specs.declared.set_attributes.SetAttributes.{SetAttributes}
use Rattle.nr_nfs_base.specs.declared.time.Time.{Time}
use Rattle.nr_nfs_args.specs.declared.create.MkdirArgs.{MkdirArgs}
use Rattle.nr_nfs_args.specs.declared.special.SymlinkArgs.{SymlinkArgs}
use Rattle.nr_nfs_args.specs.declared.special.MknodArgs.{MknodArgs}
use Rattle.nr_nfs_args.specs.declared.special.MknodData.{MknodData}
use Rattle.nr_tree.specs.declared.node.Content.{Content}
use Rattle.nr_tree.specs.declared.node.Content.TheVariants.{Block, Character, Socket, Fifo}
use Rattle.nr_nfs_base.specs.declared.status.Status.TheVariants.{Exist, Inval, Nametoolong}
use Rattle.nr_tree.specs.declared.rules.Space.{Space}
use Rattle.nr_tree.specs.Tree.{Tree, is_directory}
use Rattle.nr_tree.specs.Sane.{skeleton}
use Rattle.nr_tree.specs.Steps.{IsFree, is_dir_at, IsNew, CanAddNode}
use Rattle.nr_tree.specs.Rules.{first, number_of_handle}
use Rattle.nr_tree.proofs.PassedRules.{AllClear, all_clear, clear}
use Rattle.nr_ops_dir.specs.Entries.{is_taken, entry_rules}
use Rattle.nr_ops_dir.specs.Creation.{new_name_rules, mkdir_rules, new_directory, path_rules, symlink_rules, new_link, special_content, special_attributes, mknod_rules, new_special}
use Rattle.nr_nfs_args.specs.declared.special.MknodData.TheVariants as data_of
use Rattle.nr_ops_dir.proofs.Passed.{directory_passed, free_name, links_passed}
use Rattle.nr_nfs_base.specs.Limits.{link_target_max}

record IsPlace (t : Tree) (h name : List ℕ) : Type 0 where
  directory : is_dir_at t (number_of_handle h) ≡ true
  free : IsFree (skeleton t) (number_of_handle h) name

place_passed : (t : Tree) (c : Caller) (h name : List ℕ) (a : SetAttributes) → first (new_name_rules t c h name a) ≡ None → IsPlace t h name
place_passed t c h name a none =
    let all : AllClear (new_name_rules t c h name a) = all_clear (new_name_rules t c h name a) none in
    let entry : AllClear (entry_rules t c h name) = all_clear (entry_rules t c h name) all.0 in
    record {
      directory = directory_passed t c h entry.0 entry.1.1.0;
      free = free_name t (number_of_handle h) name entry.1.0 (clear (is_taken t (number_of_handle h) name) Exist all.1.0);
    }

pub can_make_directory : (t : Tree) (c : Caller) (space : Space) (now : Time) (args : MkdirArgs) → first (mkdir_rules t c space args) ≡ None
    → CanAddNode t (number_of_handle args.dir) args.name (new_directory c now args)
can_make_directory t c space now args none =
    let all : AllClear (mkdir_rules t c space args) = all_clear (mkdir_rules t c space args) none in
    let place : IsPlace t args.dir args.name = place_passed t c args.dir args.name args.attributes all.0 in
    record {
      directory = place.directory;
      free = place.free;
      new = record { fit = (omega arith, tt); empty = refl; first_cookie = omega arith; parent = refl; links = refl };
      links = λ dir. links_passed t (number_of_handle args.dir) all.1.0;
    }

pub can_make_link : (t : Tree) (c : Caller) (space : Space) (now : Time) (args : SymlinkArgs) → first (symlink_rules t c space args) ≡ None
    → CanAddNode t (number_of_handle args.dir) args.name (new_link c now args)
can_make_link t c space now args none =
    let all : AllClear (symlink_rules t c space args) = all_clear (symlink_rules t c space args) none in
    let place : IsPlace t args.dir args.name = place_passed t c args.dir args.name args.attributes all.0 in
    let path : AllClear (path_rules args.path) = all_clear (path_rules args.path) all.1.0 in
    let some : length args.path ≡ 0 → ⊥ = eqb-false (length args.path) 0 (clear (eqb (length args.path) 0) Inval path.0) in
    let few : length args.path ≤ link_target_max = ltb-false link_target_max (length args.path) (clear (ltb link_target_max (length args.path)) Nametoolong path.1.0) in
    record {
      directory = place.directory;
      free = place.free;
      new = record { fit = (omega (arith, some), few); empty = refl; first_cookie = omega arith; parent = refl; links = refl };
      links = λ dir. absurd cc;
    }

some_is : (a b : Content) → Some a ≡ Some b → a ≡ b
some_is a b e = ap (λ (o : Option Content). unwrap_or o a) e

special_is_new : (c : Caller) (now : Time) (args : MknodArgs) (what : MknodData) (content : Content) → special_content what ≡ Some content
    → IsNew (new_special c now args content) (number_of_handle args.dir) × (is_directory content ≡ false)
special_is_new c now args data_of.Reg content e = absurd cc
special_is_new c now args data_of.Dir content e = absurd cc
special_is_new c now args (data_of.Blk d) content e = rw (sym (some_is (Block d.device) content e)) (record { fit = tt; empty = refl; first_cookie = omega arith; parent = refl; links = refl }, refl)
special_is_new c now args (data_of.Chr d) content e = rw (sym (some_is (Character d.device) content e)) (record { fit = tt; empty = refl; first_cookie = omega arith; parent = refl; links = refl }, refl)
special_is_new c now args data_of.Lnk content e = absurd cc
special_is_new c now args (data_of.Sock a) content e = rw (sym (some_is Socket content e)) (record { fit = tt; empty = refl; first_cookie = omega arith; parent = refl; links = refl }, refl)
special_is_new c now args (data_of.Fifo a) content e = rw (sym (some_is Fifo content e)) (record { fit = tt; empty = refl; first_cookie = omega arith; parent = refl; links = refl }, refl)

pub can_make_special : (t : Tree) (c : Caller) (space : Space) (now : Time) (args : MknodArgs) (content : Content) → first (mknod_rules t c space args) ≡ None → special_content args.what ≡ Some content
    → CanAddNode t (number_of_handle args.dir) args.name (new_special c now args content)
can_make_special t c space now args content none e =
    let all : AllClear (mknod_rules t c space args) = all_clear (mknod_rules t c space args) none in
    let place : IsPlace t args.dir args.name = place_passed t c args.dir args.name (special_attributes args.what) all.1.1.0 in
    let new : IsNew (new_special c now args content) (number_of_handle args.dir) × (is_directory content ≡ false) = special_is_new c now args args.what content e in
    record {
      directory = place.directory;
      free = place.free;
      new = new.0;
      links = λ dir. absurd (both_ways (is_directory content) new.1 dir);
    }
