-- What is read of the encodings of a command's arguments and of results that it prints.
use Rattle.std.proofs.Common.{◌≡◌, ℕ, ◌<◌, ◌≤◌, ◌^◌, List, ◌++◌, length, Ok, ap, ◌∙◌, arith}
use Rattle.std.specs.Prelude.{codes}
use Rattle.nr_xdr.specs.Items.{encodings}
use Rattle.nr_nfs_base.specs.Attributes.{attributes_codec, special_data_codec}
use Rattle.nr_nfs_base.specs.Codec.{boolean, enumeration, hyper, opaque, optional, read_all, word}
use Rattle.nr_nfs_base.specs.FileType.{each_file_type, file_type_codec, file_type_number, file_types}
use Rattle.nr_nfs_base.specs.Laws.{hyper_lawful}
use Rattle.nr_nfs_base.specs.Limits.{handle_max, link_target_max, mount_path_max, name_length_max}
use Rattle.nr_nfs_base.specs.Names.{text_codec}
use Rattle.nr_nfs_base.specs.SetAttributes.{set_attributes_codec, set_time_codec, time_how_codec}
use Rattle.nr_nfs_base.specs.Time.{time_codec}
use Rattle.nr_nfs_base.specs.declared.attributes.Attributes.{Attributes}
use Rattle.nr_nfs_base.specs.declared.file_type.FileType.{FileType}
use Rattle.nr_nfs_base.specs.declared.file_type.FileType.TheVariants as types
use Rattle.nr_nfs_base.specs.declared.time.Time.{Time}
use Rattle.nr_nfs_args.specs.Attributes.{getattr_args_codec, getattr_args_lawful}
use Rattle.nr_nfs_args.specs.Create.{mkdir_args_codec, mkdir_args_lawful}
use Rattle.nr_nfs_args.specs.Lookup.{lookup_args_codec, lookup_args_lawful, readlink_args_codec, readlink_args_lawful}
use Rattle.nr_nfs_args.specs.Mount.{mnt_args_codec, mnt_args_lawful}
use Rattle.nr_nfs_args.specs.Remove.{remove_args_codec, remove_args_lawful}
use Rattle.nr_nfs_args.specs.Special.{symlink_args_codec, symlink_args_lawful}
use Rattle.nr_nfs_res.specs.Lookup.{readlink_ok_codec}
use Rattle.nr_nfs_res.specs.declared.lookup.ReadlinkOk.{ReadlinkOk}
use Rattle.nr_commands.specs.Printed.{attributes_text, mode_text, owner_text, path_text, size_text, type_text}
use Rattle.nr_reply_laws.proofs.Decoding.{Any, IsRead, enumeration_is, hyper_any, lawful_read, opaque_is, pair_is, structure_is, weaker, word_any, word_is}
use Rattle.nr_reply_laws.proofs.Values.{some_attributes}
use Rattle.nr_pair_laws.proofs.ReadBack.{written_read}
use Rattle.nr_text_laws.specs.CommandTexts.{FitFields, mkdir_of, remove_of, symlink_of}

-- ---- Arguments

pub lookup_args_read : (dir name : List ℕ) → length dir ≤ handle_max → length name ≤ name_length_max
    → read_all lookup_args_codec (encodings (lookup_args_codec.items (record { dir = dir; name = name }))) ≡ Ok (record { dir = dir; name = name })
unfolding lookup_args_codec opaque
lookup_args_read dir name short few =
    written_read lookup_args_codec (record { dir = dir; name = name }) lookup_args_lawful (short, omega (arith, few)) (omega (arith, short), (omega (arith, few), tt))

pub getattr_args_read : (file : List ℕ) → length file ≤ handle_max → read_all getattr_args_codec (encodings (getattr_args_codec.items (record { object = file }))) ≡ Ok (record { object = file })
unfolding getattr_args_codec opaque
getattr_args_read file short = written_read getattr_args_codec (record { object = file }) getattr_args_lawful short (omega (arith, short), tt)

pub readlink_args_read : (file : List ℕ) → length file ≤ handle_max → read_all readlink_args_codec (encodings (readlink_args_codec.items (record { symlink = file }))) ≡ Ok (record { symlink = file })
unfolding readlink_args_codec opaque
readlink_args_read file short = written_read readlink_args_codec (record { symlink = file }) readlink_args_lawful short (omega (arith, short), tt)

pub mnt_args_read : (export : List ℕ) → length export ≤ mount_path_max → read_all mnt_args_codec (encodings (mnt_args_codec.items (record { dirpath = export }))) ≡ Ok (record { dirpath = export })
unfolding mnt_args_codec opaque
mnt_args_read export short = written_read mnt_args_codec (record { dirpath = export }) mnt_args_lawful short (omega (arith, short), tt)

pub remove_args_read : (at : List ℕ × List ℕ) → length at.0 ≤ handle_max → length at.1 ≤ name_length_max → read_all remove_args_codec (encodings (remove_args_codec.items (remove_of at))) ≡ Ok (remove_of at)
unfolding remove_args_codec opaque
remove_args_read at short few = written_read remove_args_codec (remove_of at) remove_args_lawful (short, omega (arith, few)) (omega (arith, short), (omega (arith, few), tt))

pub mkdir_args_read : (at : List ℕ × List ℕ) → length at.0 ≤ handle_max → length at.1 ≤ name_length_max → read_all mkdir_args_codec (encodings (mkdir_args_codec.items (mkdir_of at))) ≡ Ok (mkdir_of at)
unfolding mkdir_args_codec set_attributes_codec set_time_codec time_how_codec opaque hyper word boolean enumeration optional
mkdir_args_read at short few =
    written_read mkdir_args_codec (mkdir_of at) mkdir_args_lawful
    (short, (omega (arith, few), ((tt, tt), ((tt, tt), ((tt, tt), ((tt, tt), ((tt, tt), (tt, tt))))))))
    (omega (arith, short), (omega (arith, few), (tt, (omega arith, (tt, (tt, (tt, (omega arith, (omega arith, tt)))))))))

pub symlink_args_read : (target : List ℕ) (at : List ℕ × List ℕ) → length target ≤ link_target_max → length at.0 ≤ handle_max → length at.1 ≤ name_length_max
    → read_all symlink_args_codec (encodings (symlink_args_codec.items (symlink_of target at))) ≡ Ok (symlink_of target at)
unfolding symlink_args_codec set_attributes_codec set_time_codec time_how_codec opaque hyper word boolean enumeration optional
symlink_args_read target at within short few =
    written_read symlink_args_codec (symlink_of target at) symlink_args_lawful
    ((short, (omega (arith, few), ((tt, tt), ((tt, tt), ((tt, tt), ((tt, tt), ((tt, tt), (tt, tt)))))))), omega (arith, within))
    (omega (arith, short), (omega (arith, few), (tt, (tt, (tt, (tt, (omega arith, (omega arith, (omega (arith, within), tt)))))))))

-- ---- Attributes

pub hyper_is : (n : ℕ) → n < 2 ^ 64 → IsRead hyper (hyper.items n) (λ m. m ≡ n)
unfolding hyper
hyper_is n fits = lawful_read hyper n hyper_lawful tt (fits, tt)

file_type_read : (v : FileType) → IsRead file_type_codec (file_type_codec.items v) (λ w. w ≡ v)
unfolding file_type_codec
file_type_read v = enumeration_is file_type_number file_types v each_file_type (fits v)
  where
    fits : (w : FileType) → file_type_number w < 2 ^ 32
    fits types.Reg = omega arith
    fits types.Dir = omega arith
    fits types.Blk = omega arith
    fits types.Chr = omega arith
    fits types.Lnk = omega arith
    fits types.Sock = omega arith
    fits types.Fifo = omega arith

time_read : (v : Time) → IsRead time_codec (time_codec.items v) Any
unfolding time_codec
time_read v = structure_is _ _ _ _ _ Any (λ w is. tt) (pair_is word word _ _ Any Any (word_any v.seconds) (word_any v.nanoseconds))

-- the numbers that are printed are the same
record SamePrinted (v w : Attributes) : Type 0 where
  file_type : w.file_type ≡ v.file_type
  mode : w.mode ≡ v.mode
  nlink : w.nlink ≡ v.nlink
  uid : w.uid ≡ v.uid
  gid : w.gid ≡ v.gid
  size : w.size ≡ v.size
  fileid : w.fileid ≡ v.fileid

printed_read : (v : Attributes) → FitFields v → IsRead attributes_codec (attributes_codec.items v) (λ w. SamePrinted v w)
unfolding attributes_codec special_data_codec time_codec
printed_read v fit =
    structure_is _ _ _ _ _ _
    (λ w is. record {
      file_type = is.0;
      mode = is.1.0;
      nlink = is.1.1.0;
      uid = is.1.1.1.0;
      gid = is.1.1.1.1.0;
      size = is.1.1.1.1.1.0;
      fileid = is.1.1.1.1.1.1.1.1.1.0;
    })
    (pair_is file_type_codec _ _ _ _ _ (file_type_read v.file_type)
    (pair_is word _ _ _ _ _ (word_is v.mode fit.mode)
    (pair_is word _ _ _ _ _ (word_is v.nlink fit.nlink)
    (pair_is word _ _ _ _ _ (word_is v.uid fit.uid)
    (pair_is word _ _ _ _ _ (word_is v.gid fit.gid)
    (pair_is hyper _ _ _ _ _ (hyper_is v.size fit.size)
    (pair_is hyper _ _ _ _ _ (hyper_any v.used)
    (pair_is special_data_codec _ _ _ _ _ (structure_is _ _ _ _ _ Any (λ w is. tt) (pair_is word word _ _ Any Any (word_any v.rdev.major) (word_any v.rdev.minor)))
    (pair_is hyper _ _ _ _ _ (hyper_any v.fsid)
    (pair_is hyper _ _ _ _ _ (hyper_is v.fileid fit.fileid)
    (pair_is time_codec _ _ _ _ _ (time_read v.atime)
    (pair_is time_codec time_codec _ _ _ _ (time_read v.mtime) (time_read v.ctime)))))))))))))

abbrev printed : FileType → (mode nlink uid gid size fileid : ℕ) → List ℕ
printed t mode nlink uid gid size fileid = type_text t ++ codes " " ++ mode_text mode ++ owner_text nlink uid gid ++ size_text size fileid

same_text : (v w : Attributes) → SamePrinted v w → attributes_text w ≡ attributes_text v
same_text v w same =
    ap (λ (t : FileType). printed t w.mode w.nlink w.uid w.gid w.size w.fileid) same.file_type
    ∙ ap (λ (n : ℕ). printed v.file_type n w.nlink w.uid w.gid w.size w.fileid) same.mode
    ∙ ap (λ (n : ℕ). printed v.file_type v.mode n w.uid w.gid w.size w.fileid) same.nlink
    ∙ ap (λ (n : ℕ). printed v.file_type v.mode v.nlink n w.gid w.size w.fileid) same.uid
    ∙ ap (λ (n : ℕ). printed v.file_type v.mode v.nlink v.uid n w.size w.fileid) same.gid
    ∙ ap (λ (n : ℕ). printed v.file_type v.mode v.nlink v.uid v.gid n w.fileid) same.size
    ∙ ap (λ (n : ℕ). printed v.file_type v.mode v.nlink v.uid v.gid v.size n) same.fileid

pub attributes_text_read : (v : Attributes) → FitFields v → IsRead attributes_codec (attributes_codec.items v) (λ w. attributes_text w ≡ attributes_text v)
attributes_text_read v fit = weaker attributes_codec (attributes_codec.items v) (λ w. SamePrinted v w) (λ w. attributes_text w ≡ attributes_text v) (λ w same. same_text v w same) (printed_read v fit)

-- ---- The path of a link

path_read : (v : ReadlinkOk) → length v.path < 2 ^ 32 → IsRead readlink_ok_codec (readlink_ok_codec.items v) (λ w. w.path ≡ v.path)
unfolding readlink_ok_codec
path_read v short =
    structure_is _ _ _ _ _ _ (λ w is. is.1)
    (pair_is (optional attributes_codec) text_codec _ _ _ _ (some_attributes v.attributes) (opaque_is 4294967295 v.path (omega (arith, short)) short))

pub path_text_read : (v : ReadlinkOk) → length v.path < 2 ^ 32 → IsRead readlink_ok_codec (readlink_ok_codec.items v) (λ w. path_text w.path ≡ path_text v.path)
path_text_read v short = weaker readlink_ok_codec (readlink_ok_codec.items v) (λ w. w.path ≡ v.path) (λ w. path_text w.path ≡ path_text v.path) (λ w same. ap (λ (p : List ℕ). path_text p) same) (path_read v short)
