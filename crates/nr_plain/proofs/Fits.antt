-- The results of the procedures that change the tree fit into the room of a reply. The handle in those of CREATE and its kin is short.
use Rattle.std.proofs.Common.{◌≡◌, ℕ, ◌<◌, ◌≤◌, List, length, Option, None, Some, Result, Ok, Err, IfOk, sym, subst, arith}
use Rattle.std.specs.Option.{option_map}
use Rattle.nr_xdr.specs.Item.{hyper}
use Rattle.nr_xdr.specs.Items.{encodings}
use Rattle.nr_xdr.proofs.WordBytes.{length_hyper}
use Rattle.nr_nfs_base.specs.declared.caller.Caller.{Caller}
use Rattle.nr_nfs_base.specs.declared.status.Status.{Status}
use Rattle.nr_nfs_base.specs.declared.status_union.StatusUnion.{StatusUnion}
use Rattle.nr_nfs_base.specs.declared.status_union.StatusUnion.TheVariants.{Done, Failed}
use Rattle.nr_nfs_base.specs.declared.time.Time.{Time}
use Rattle.nr_nfs_base.specs.declared.weak_cache.WccData.{WccData}
use Rattle.nr_nfs_args.specs.declared.create.CreateArgs.{CreateArgs}
use Rattle.nr_nfs_args.specs.declared.create.MkdirArgs.{MkdirArgs}
use Rattle.nr_nfs_args.specs.declared.special.MknodArgs.{MknodArgs}
use Rattle.nr_nfs_args.specs.declared.special.SymlinkArgs.{SymlinkArgs}
use Rattle.nr_nfs_base.specs.WeakCache.{wcc_data_codec}
use Rattle.nr_nfs_res.specs.Bytes.{write_ok_codec}
use Rattle.nr_nfs_res.specs.Create.{create_ok_codec}
use Rattle.nr_nfs_res.specs.Remove.{link_wcc_codec, rename_wcc_codec}
use Rattle.nr_nfs_res.specs.Results.{setattr_res_codec, write_res_codec, create_res_codec, rename_res_codec, link_res_codec}
use Rattle.nr_nfs_res.specs.declared.bytes.WriteOk.{WriteOk}
use Rattle.nr_nfs_res.specs.declared.remove.LinkWcc.{LinkWcc}
use Rattle.nr_nfs_res.specs.declared.remove.RenameWcc.{RenameWcc}
use Rattle.nr_nfs_res.specs.declared.create.CreateOk.{CreateOk}
use Rattle.nr_tree.specs.Tree.{Tree}
use Rattle.nr_tree.specs.Rules.{answer, first, handle_of, number_of_handle}
use Rattle.nr_tree.specs.Replies.{wcc_data}
use Rattle.nr_tree.specs.declared.rules.Space.{Space}
use Rattle.nr_ops_dir.specs.Entries.{number_of_entry}
use Rattle.nr_ops_dir.specs.Create.{create_rules, create_tree, create_reply}
use Rattle.nr_ops_dir.specs.Creation.{create_ok, mkdir_rules, mkdir_tree, mkdir_reply, symlink_rules, symlink_tree, symlink_reply, mknod_rules, mknod_tree, mknod_reply}
use Rattle.nr_plain.specs.ReplySizes.{results_max, HandleFits, ObjectFits}
use Rattle.nr_plain.proofs.Lengths.{wcc_size, write_size, create_size, rename_size, link_size, done_size, failed_size, union_fits}

-- ===== of every result, if there is one

pub any_ok : {R E : Type 0} {Q : R → Type 0} (r : Result R E) → ((x : R) → Q x) → IfOk r Q
any_ok (Ok x) holds = holds x
any_ok (Err e) holds = tt

pub every_ok : {R E : Type 0} {P Q : R → Type 0} (r : Result R E) → IfOk r P → ((x : R) → P x → Q x) → IfOk r Q
every_ok (Ok x) p holds = holds x p
every_ok (Err e) p holds = tt

pub lacks_and_has : {n m : ℕ} → n < m → m ≤ n → ⊥
lacks_and_has p q = omega (arith, p, q)

-- ===== results whose parts are all short

-- SETATTR, REMOVE and RMDIR
pub wcc_results_fit : (r : StatusUnion WccData WccData Status) → length (encodings (setattr_res_codec.items r)) ≤ results_max
wcc_results_fit r = union_fits wcc_data_codec wcc_data_codec r results_max (λ f. omega (arith, wcc_size f)) (λ d. omega (arith, wcc_size d))

pub write_results_fit : (r : StatusUnion WriteOk WccData Status) → length (encodings (write_res_codec.items r)) ≤ results_max
write_results_fit r = union_fits write_ok_codec wcc_data_codec r results_max (λ f. omega (arith, wcc_size f)) (λ d. omega (arith, write_size d))

pub rename_results_fit : (r : StatusUnion RenameWcc RenameWcc Status) → length (encodings (rename_res_codec.items r)) ≤ results_max
rename_results_fit r = union_fits rename_wcc_codec rename_wcc_codec r results_max (λ f. omega (arith, rename_size f)) (λ d. omega (arith, rename_size d))

pub link_results_fit : (r : StatusUnion LinkWcc LinkWcc Status) → length (encodings (link_res_codec.items r)) ≤ results_max
link_results_fit r = union_fits link_wcc_codec link_wcc_codec r results_max (λ f. omega (arith, link_size f)) (λ d. omega (arith, link_size d))

-- ===== CREATE and its kin

create_results_fit : (r : StatusUnion CreateOk WccData Status) → ObjectFits r → length (encodings (create_res_codec.items r)) ≤ results_max
create_results_fit (Done d) fits = omega (arith, done_size create_ok_codec wcc_data_codec d, create_size d fits)
create_results_fit (Failed s f) fits = omega (arith, failed_size create_ok_codec wcc_data_codec s f, wcc_size f)

length_handle : (n : ℕ) → length (handle_of n) ≡ 8
unfolding hyper
length_handle n = length_hyper n

handle_fits : (o : Option ℕ) → HandleFits (option_map handle_of o)
handle_fits None = tt
handle_fits (Some n) = omega (arith, length_handle n)

object_fits : (o : Option Status) (wcc : WccData) (ok : CreateOk) → HandleFits ok.object → ObjectFits (answer o (λ s. Failed s wcc) (Done ok))
object_fits None wcc ok fits = fits
object_fits (Some s) wcc ok fits = tt

abbrev Fits : StatusUnion CreateOk WccData Status → Type 0
Fits r = length (encodings (create_res_codec.items r)) ≤ results_max

module _ (t : Tree) (c : Caller) (space : Space) (now : Time) where
  -- what is made has the name in the directory of the tree after the call
  made_fits : (o : Option Status) (after : Tree) (dir name : List ℕ) → Fits (answer o (λ s. Failed s (wcc_data t t dir)) (Done (create_ok t after dir name)))
  made_fits o after dir name =
      create_results_fit _ (object_fits o (wcc_data t t dir) (create_ok t after dir name) (handle_fits (number_of_entry after (number_of_handle dir) name)))

  pub create_reply_fits : (a : CreateArgs) (r : StatusUnion CreateOk WccData Status) → r ≡ create_reply t c space now a → Fits r
  create_reply_fits a r is = subst Fits (sym is) (made_fits (first (create_rules t c space a)) (create_tree t c space now a) a.dir a.name)

  pub mkdir_reply_fits : (a : MkdirArgs) (r : StatusUnion CreateOk WccData Status) → r ≡ mkdir_reply t c space now a → Fits r
  mkdir_reply_fits a r is = subst Fits (sym is) (made_fits (first (mkdir_rules t c space a)) (mkdir_tree t c space now a) a.dir a.name)

  pub symlink_reply_fits : (a : SymlinkArgs) (r : StatusUnion CreateOk WccData Status) → r ≡ symlink_reply t c space now a → Fits r
  symlink_reply_fits a r is = subst Fits (sym is) (made_fits (first (symlink_rules t c space a)) (symlink_tree t c space now a) a.dir a.name)

  pub mknod_reply_fits : (a : MknodArgs) (r : StatusUnion CreateOk WccData Status) → r ≡ mknod_reply t c space now a → Fits r
  mknod_reply_fits a r is = subst Fits (sym is) (made_fits (first (mknod_rules t c space a)) (mknod_tree t c space now a) a.dir a.name)
