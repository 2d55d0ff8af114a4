-- What a client makes of results that were encoded: of their value, or of their status.
use Rattle.std.proofs.Common.{◌≡◌, ℕ, ◌<◌, ◌^◌, false, true, List, ◌++◌, Option, None, Some, Result, Ok, Err, refl, ap, ◌∙◌, append_assoc, arith}
use Rattle.std.specs.Prelude.{◌==◌}
use Rattle.nr_xdr.specs.Item.{Item}
use Rattle.nr_xdr.specs.Items.{encodings}
use Rattle.nr_xdr.specs.Reading.{Cursor}
use Rattle.nr_xdr.specs.Sequencing.{◌>>=◌}
use Rattle.nr_xdr.proofs.Chains.{standing}
use Rattle.nr_nfs_base.specs.Codec.{Codec, arm_value, enumeration, value_with_number}
use Rattle.nr_nfs_base.specs.MountStatus.{each_mount_status, mount_status_not_ok, mount_status_number, mount_statuses}
use Rattle.nr_nfs_base.specs.Status.{each_status, status_not_ok, status_number, statuses}
use Rattle.nr_nfs_base.specs.StatusUnion.{each_status_tag, status_tag_number, status_tags, status_union_codec, status_union_read}
use Rattle.nr_nfs_base.specs.declared.mount_status.MountStatus.{MountStatus}
use Rattle.nr_nfs_base.specs.declared.mount_status.MountStatus.TheVariants as mount_status
use Rattle.nr_nfs_base.specs.declared.status.Status.{Status}
use Rattle.nr_nfs_base.specs.declared.status.Status.TheVariants as status
use Rattle.nr_nfs_base.specs.declared.status_union.StatusUnion.{StatusUnion}
use Rattle.nr_nfs_base.specs.declared.status_union.StatusUnion.TheVariants.{Done, Failed}
use Rattle.nr_nfs_res.specs.Results.{nfs_result}
use Rattle.nr_reduce.specs.declared.call.Outcome.TheVariants as outcomes
use Rattle.nr_plain.specs.Programs.{is_done}
use Rattle.nr_plain.specs.Replies.{results_reply}
use Rattle.nr_plain.proofs.FrontReads.{encodings_append}
use Rattle.nr_client.specs.declared.client_end.ClientEnd.{ClientEnd}
use Rattle.nr_client.specs.declared.client_end.ClientEnd.TheVariants as client
use Rattle.nr_client.specs.Requests.{nfs_reads}
use Rattle.nr_client.specs.Results.{mount_done, nfs_done, result_of_reply}
use Rattle.nr_reply_laws.proofs.Decoding.{Any, IsRead, enumeration_is}
use Rattle.nr_reply_laws.proofs.Replied.{results_read}
use Rattle.nr_text_laws.specs.CommandTexts.{on_value, result_by}

-- what is made of a value that is read is what is made of the value that was encoded
abbrev pub ReadsAs : {A D F S : Type 0} → Codec D → (D → A) → StatusUnion D F S → Type 0
ReadsAs done make (Done d) = IsRead done (done.items d) (λ w. make w ≡ make d)
ReadsAs done make (Failed status part) = Unit {0}

pub reads_as : {A D F S : Type 0} (done : Codec D) (make : D → A) (results : StatusUnion D F S) → ((d : D) → results ≡ Done d → IsRead done (done.items d) (λ w. make w ≡ make d)) → ReadsAs done make results
reads_as done make (Done d) reads = reads d refl
reads_as done make (Failed status part) reads = tt

-- results that are read as these are, but for what isn't looked at
abbrev Same : {A D F S : Type 0} → (D → A) → StatusUnion D F S → StatusUnion D F S → Type 0
Same make (Done d) (Done w) = make w ≡ make d
Same make (Done d) (Failed status part) = ⊥
Same make (Failed status part) (Done w) = ⊥
Same make (Failed status part) (Failed read other) = read ≡ status

split : (xs ys : List Item) (rest : List ℕ) → encodings (xs ++ ys) ++ rest ≡ encodings xs ++ (encodings ys ++ rest)
split xs ys rest = ap (λ (l : List ℕ). l ++ rest) (encodings_append xs ys) ∙ append_assoc (encodings xs) (encodings ys) rest

module _ {D F S : Type 0} (number : S → ℕ) (all : List S) (not_ok : (s : S) → (0 == number s) ≡ false) (each : (s : S) → value_with_number number all (number s) ≡ Some s) (few : (s : S) → number s < 2 ^ 32)
    (done : Codec D) (failed : Codec F) where
  tag_fits : (t : Option S) → status_tag_number number t < 2 ^ 32
  tag_fits None = omega arith
  tag_fits (Some s) = few s

  tag_is : (t : Option S) → IsRead (enumeration (status_tag_number number) (status_tags all)) ((enumeration (status_tag_number number) (status_tags all)).items t) (λ w. w ≡ t)
  tag_is t = enumeration_is (status_tag_number number) (status_tags all) t (each_status_tag number all not_ok each) (tag_fits t)

  -- the status, and a part that is read after it
  part_read : {B : Type 0} (t : Option S) (part : Codec B) (v : B) (make : B → StatusUnion D F S) (P : B → Type 0) (Q : StatusUnion D F S → Type 0) → ((at : Cursor) → status_union_read done failed t at ≡ arm_value make (part.read at))
      → ((w : B) → P w → Q (make w)) → IsRead part (part.items v) P → IsRead (status_union_codec number all done failed) ((enumeration (status_tag_number number) (status_tags all)).items t ++ part.items v) Q
  unfolding status_union_codec
  part_read {B} t part v make P Q arm so of_part = record {
    at = λ place rest.
        let f = (tag_is t).at place (encodings (part.items v) ++ rest) in
        let g = of_part.at f.after rest in record {
          value = make g.value;
          after = g.after;
          is = ap (λ (l : List ℕ). (status_union_codec number all done failed).read (standing place l)) (split ((enumeration (status_tag_number number) (status_tags all)).items t) (part.items v) rest)
              ∙ ap (λ (r : Result (Option S × Cursor) ℕ). ◌>>=◌ {A = Option S × Cursor} {B = StatusUnion D F S × Cursor} r (λ x. status_union_read done failed x.0 x.1)) f.is
              ∙ ap (λ (o : Option S). status_union_read done failed o (standing f.after (encodings (part.items v) ++ rest))) f.holds
              ∙ arm (standing f.after (encodings (part.items v) ++ rest))
              ∙ ap (λ (r : Result (B × Cursor) ℕ). arm_value {B = StatusUnion D F S} make r) g.is;
          holds = so g.value g.holds;
        };
  }

  pub union_read : {A : Type 0} (make : D → A) (results : StatusUnion D F S) → ((part : F) → IsRead failed (failed.items part) Any) → ReadsAs done make results
      → IsRead (status_union_codec number all done failed) ((status_union_codec number all done failed).items results) (λ r. Same make results r)
  unfolding status_union_codec
  union_read {A} make (Done d) fails reads = part_read None done d Done (λ w. make w ≡ make d) (λ r. Same make (Done d) r) (λ at. refl) (λ w is. is) reads
  union_read {A} make (Failed s part) fails reads = part_read (Some s) failed part (Failed s) Any (λ r. Same make (Failed s part) r) (λ at. refl) (λ w is. refl) (fails part)

-- ---- Of replies

status_fits : (s : Status) → status_number s < 2 ^ 32
status_fits status.Perm = omega arith
status_fits status.Noent = omega arith
status_fits status.Io = omega arith
status_fits status.Nxio = omega arith
status_fits status.Acces = omega arith
status_fits status.Exist = omega arith
status_fits status.Xdev = omega arith
status_fits status.Nodev = omega arith
status_fits status.Notdir = omega arith
status_fits status.Isdir = omega arith
status_fits status.Inval = omega arith
status_fits status.Fbig = omega arith
status_fits status.Nospc = omega arith
status_fits status.Rofs = omega arith
status_fits status.Mlink = omega arith
status_fits status.Nametoolong = omega arith
status_fits status.Notempty = omega arith
status_fits status.Dquot = omega arith
status_fits status.Stale = omega arith
status_fits status.Remote = omega arith
status_fits status.Badhandle = omega arith
status_fits status.NotSync = omega arith
status_fits status.BadCookie = omega arith
status_fits status.Notsupp = omega arith
status_fits status.Toosmall = omega arith
status_fits status.Serverfault = omega arith
status_fits status.Badtype = omega arith
status_fits status.Jukebox = omega arith

mount_status_fits : (m : MountStatus) → mount_status_number m < 2 ^ 32
mount_status_fits mount_status.Perm = omega arith
mount_status_fits mount_status.Noent = omega arith
mount_status_fits mount_status.Io = omega arith
mount_status_fits mount_status.Acces = omega arith
mount_status_fits mount_status.Notdir = omega arith
mount_status_fits mount_status.Inval = omega arith
mount_status_fits mount_status.Nametoolong = omega arith
mount_status_fits mount_status.Notsupp = omega arith
mount_status_fits mount_status.Serverfault = omega arith

-- what a command makes of a value that was read
abbrev pub made : {A D : Type 0} → (D → A) → Result D ClientEnd → Result A ClientEnd
made make read = on_value read (λ d. Ok (make d))

nfs_same : {A D F : Type 0} (make : D → A) (results read : StatusUnion D F Status) → Same make results read → made make (nfs_done {D = D} {F = F} (Ok read)) ≡ result_by make results
nfs_same {A} make (Done d) (Done w) same = ap (λ (x : A). Ok x) same
nfs_same make (Done d) (Failed s part) same = absurd same
nfs_same make (Failed s part) (Done w) same = absurd same
nfs_same {A} make (Failed s part) (Failed t other) same = ap (λ (x : Status). Err (client.Nfs x)) same

pub nfs_made : {A D F : Type 0} (xid : ℕ) → xid < 2 ^ 32 → (done : Codec D) (failed : Codec F) (make : D → A) (results : StatusUnion D F Status) → ((part : F) → IsRead failed (failed.items part) Any) → ReadsAs done make results
    → made make (nfs_reads done failed (outcomes.Reply (results_reply xid (nfs_result done failed) results))) ≡ result_by make results
nfs_made {A} {D} {F} xid fits done failed make results fails reads =
    let r = results_read xid fits (nfs_result done failed) results (λ v. Same make results v) (union_read status_number statuses status_not_ok each_status status_fits done failed make results fails reads) in
    ap (λ (x : Result (StatusUnion D F Status) ClientEnd). made make (nfs_done x)) r.1.0 ∙ nfs_same make results r.0 r.1.1

-- results of MOUNT: a value, or the status as the end of a command
abbrev pub mount_result_by : {A D F : Type 0} → (D → A) → StatusUnion D F MountStatus → Result A ClientEnd
mount_result_by make (Done value) = Ok (make value)
mount_result_by make (Failed s part) = Err (client.Mount s)

mount_same : {A D F : Type 0} (make : D → A) (results read : StatusUnion D F MountStatus) → Same make results read → made make (mount_done {D = D} {F = F} (Ok read)) ≡ mount_result_by make results
mount_same {A} make (Done d) (Done w) same = ap (λ (x : A). Ok x) same
mount_same make (Done d) (Failed s part) same = absurd same
mount_same make (Failed s part) (Done w) same = absurd same
mount_same {A} make (Failed s part) (Failed t other) same = ap (λ (x : MountStatus). Err (client.Mount x)) same

pub mount_made : {A D F : Type 0} (xid : ℕ) → xid < 2 ^ 32 → (done : Codec D) (failed : Codec F) (make : D → A) (results : StatusUnion D F MountStatus) → ((part : F) → IsRead failed (failed.items part) Any) → ReadsAs done make results
    → made make (mount_done (result_of_reply (status_union_codec mount_status_number mount_statuses done failed) (results_reply xid (status_union_codec mount_status_number mount_statuses done failed) results)))
    ≡ mount_result_by make results
mount_made {A} {D} {F} xid fits done failed make results fails reads =
    let codec = status_union_codec mount_status_number mount_statuses done failed in
    let r = results_read xid fits codec results (λ v. Same make results v) (union_read mount_status_number mount_statuses mount_status_not_ok each_mount_status mount_status_fits done failed make results fails reads) in
    ap (λ (x : Result (StatusUnion D F MountStatus) ClientEnd). made make (mount_done x)) r.1.0 ∙ mount_same make results r.0 r.1.1

-- ---- Of results

-- a value that was made is that of a success
pub value_made : {A D F : Type 0} (make : D → A) (results : StatusUnion D F Status) (v : A) → result_by make results ≡ Ok v → (d : D) × ((results ≡ Done d) × (make d ≡ v))
value_made make (Done d) v is = (d, (refl, cc))
value_made make (Failed s part) v is = absurd cc

pub made_done : {A D F : Type 0} (make : D → A) (results : StatusUnion D F Status) (v : A) → result_by make results ≡ Ok v → is_done results ≡ true
made_done make (Done d) v is = refl
made_done make (Failed s part) v is = absurd cc
