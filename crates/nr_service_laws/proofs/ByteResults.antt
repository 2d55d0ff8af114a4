-- The file handles that are read of replies of bytes are bytes.
use Rattle.std.proofs.Common.{◌≡◌, ℕ, Bool, true, false, cond, eqb, List, [], ◌∷◌, ◌++◌, length, drop, Option, None, Some, Result, Ok, Err, refl, ap, subst}
use Rattle.nr_xdr.specs.Item.{Item, IsBytes}
use Rattle.nr_xdr.specs.Item.Item.{Unsigned, Hyper, Boolean, Opaque, Fixed}
use Rattle.nr_xdr.specs.Items.{TakesAll}
use Rattle.nr_xdr.specs.Reading.{Cursor, Takes}
use Rattle.nr_xdr.proofs.Chains.{IsBytes_after, IsBytes_left, IsBytes_opaque}
use Rattle.nr_xdr.proofs.WordBytes.{IsBytes_drop}
use Rattle.nr_rpc.specs.declared.head.ReplyHead.{ReplyHead}
use Rattle.nr_rpc.specs.declared.head.ReplyHead.TheVariants as heads
use Rattle.nr_rpc.specs.Reading.{reply_of}
use Rattle.nr_nfs_base.specs.Attributes.{attributes_codec, attributes_lawful}
use Rattle.nr_nfs_base.specs.Codec.{Codec, Lawful, boolean, enumeration, opaque, optional, value_at_end, void, word}
use Rattle.nr_nfs_base.specs.Laws.{bind_ok, optional_lawful, void_lawful}
use Rattle.nr_nfs_base.specs.MountStatus.{each_mount_status, mount_status_not_ok, mount_status_number, mount_statuses}
use Rattle.nr_nfs_base.specs.Names.{handle_codec}
use Rattle.nr_nfs_base.specs.Status.{each_status, status_not_ok, status_number, statuses}
use Rattle.nr_nfs_base.specs.StatusUnion.{status_union_codec, status_union_lawful}
use Rattle.nr_nfs_base.specs.WeakCache.{wcc_data_codec, wcc_data_lawful}
use Rattle.nr_nfs_base.specs.declared.mount_status.MountStatus.{MountStatus}
use Rattle.nr_nfs_base.specs.declared.status.Status.{Status}
use Rattle.nr_nfs_base.specs.declared.status_union.StatusUnion.{StatusUnion}
use Rattle.nr_nfs_base.specs.declared.status_union.StatusUnion.TheVariants.{Done, Failed}
use Rattle.nr_nfs_res.specs.Create.{create_ok_codec, create_ok_lawful}
use Rattle.nr_nfs_res.specs.Lookup.{lookup_ok_codec, lookup_ok_lawful}
use Rattle.nr_nfs_res.specs.Mount.{mount_ok_codec, mount_ok_lawful}
use Rattle.nr_nfs_res.specs.declared.create.CreateOk.{CreateOk}
use Rattle.nr_nfs_res.specs.declared.lookup.LookupOk.{LookupOk}
use Rattle.nr_nfs_res.specs.declared.mount.MountOk.{MountOk}
use Rattle.nr_reduce.specs.declared.call.Outcome.{Outcome}
use Rattle.nr_reduce.specs.declared.call.Outcome.TheVariants as outcomes
use Rattle.nr_script.proofs.ByteLists.{AreOfBytes, OfBytes}
use Rattle.nr_byte_laws.specs.DueBytes.{OutcomeIsBytes}
use Rattle.nr_byte_laws.proofs.PayloadBytes.{IfBytes}
use Rattle.nr_client.specs.declared.client_end.ClientEnd.{ClientEnd}
use Rattle.nr_client.specs.declared.client_end.ClientEnd.TheVariants as client
use Rattle.nr_client.specs.declared.client_end.RpcKind.TheVariants as kinds
use Rattle.nr_client.specs.Reading.{results_offset}
use Rattle.nr_client.specs.Requests.{create_result, handle_of, lookup_result, mnt_result, nfs_reads}
use Rattle.nr_client.specs.Results.{mount_done, nfs_done, result_by_head, result_by_reading, result_of_outcome, results_in, results_or}
use Rattle.nr_client.specs.Walking.{object_in, object_result}
use Rattle.nr_client.specs.Writing.{created_file, created_handle, handle_or}

-- what is read of an outcome that is bytes has this property
abbrev pub ReadsBytes : {A : Type 0} → (A → Type 0) → (Outcome → Result A ClientEnd) → Type 0
ReadsBytes {A} P reads = (outcome : Outcome) (value : A) → OutcomeIsBytes outcome → reads outcome ≡ Ok value → P value

-- ---- Items

item_taken : (old new : Cursor) (item : Item) → Takes old new item → IsBytes old.rest → OfBytes item
item_taken old new (Unsigned n) t h = tt
item_taken old new (Hyper n) t h = tt
item_taken old new (Boolean b) t h = tt
item_taken old new (Opaque bytes) t h = IsBytes_opaque old new bytes t h
item_taken old new (Fixed bytes) t h = IsBytes_left bytes t.reads.pad (subst IsBytes t.reads.bytes_are (IsBytes_left t.bytes new.rest (subst IsBytes t.rest h)))

items_taken : (old new : Cursor) (items : List Item) → IsBytes old.rest → TakesAll old new items → AreOfBytes items
items_taken old new [] h t = tt
items_taken old new (item ∷ items) h t = (item_taken old t.0 item t.1 h, items_taken t.0 new items (IsBytes_after old t.0 item t.1 h) t.2)

-- ---- Results in a reply

at_end : {A : Type 0} (x : A × Cursor) (value : A) → value_at_end x ≡ Ok value → x.0 ≡ value
at_end {A} x value e = by (eqb (length (x.1).rest) 0) e
  where
    by : (b : Bool) → cond b (Ok x.0) (Err (x.1).place) ≡ Ok value → x.0 ≡ value
    by true e = cc
    by false e = absurd cc

results_items : {A : Type 0} (codec : Codec A) → Lawful codec → (payload : List ℕ) (at : ℕ) (value : A) → IsBytes payload → results_in codec payload at ≡ Ok value → AreOfBytes (codec.items value)
results_items {A} codec lawful payload at value h e =
    let start : Cursor = record { place = at; rest = drop at payload } in
    let x = bind_ok (codec.read start) (λ (x : A × Cursor). value_at_end x) value e in
    let bytes = IsBytes_drop at payload h in
    let taken = lawful.read_is_encoded start (x.0).0 (x.0).1 bytes x.1 in
    subst (λ (v : A). AreOfBytes (codec.items v)) (at_end x.0 value x.2) (items_taken start (x.0).1 (codec.items (x.0).0) bytes taken.1)

results_ok : {A : Type 0} (r : Result A ℕ) (value : A) → results_or r ≡ Ok value → r ≡ Ok value
results_ok (Ok v) value e = (let same : v ≡ value = cc in ap Ok same)
results_ok (Err at) value e = absurd cc

head_items : {A : Type 0} (codec : Codec A) → Lawful codec → (payload : List ℕ) (head : ReplyHead) (value : A) → IsBytes payload → result_by_head codec payload head ≡ Ok value → AreOfBytes (codec.items value)
head_items {A} codec lawful payload (heads.Accepted xid stat at) value h e = by (eqb stat 0) e
  where
    by : (b : Bool) → cond b (results_or (results_in codec payload at)) (Err (client.Rpc kinds.Accept stat)) ≡ Ok value → AreOfBytes (codec.items value)
    by true e = results_items codec lawful payload at value h (results_ok (results_in codec payload at) value e)
    by false e = absurd cc
head_items codec lawful payload (heads.ProgMismatch xid low high) value h e = absurd cc
head_items codec lawful payload (heads.RpcMismatch xid low high) value h e = absurd cc
head_items codec lawful payload (heads.AuthError xid stat) value h e = absurd cc

reading_items : {A : Type 0} (codec : Codec A) → Lawful codec → (payload : List ℕ) (r : Result ReplyHead ℕ) (value : A) → IsBytes payload → result_by_reading codec payload r ≡ Ok value → AreOfBytes (codec.items value)
reading_items codec lawful payload (Ok head) value h e = head_items codec lawful payload head value h e
reading_items codec lawful payload (Err at) value h e = absurd cc

outcome_items : {A : Type 0} (codec : Codec A) → Lawful codec → ReadsBytes (λ (v : A). AreOfBytes (codec.items v)) (λ outcome. result_of_outcome codec outcome)
outcome_items codec lawful (outcomes.Reply payload) value h e = reading_items codec lawful payload (reply_of payload) value h e
outcome_items codec lawful outcomes.Chunk value h e = absurd cc
outcome_items codec lawful (outcomes.Version low high) value h e = absurd cc

-- ---- Results after a status

union_items : {D F S : Type 0} (number : S → ℕ) (all : List S) (done : Codec D) (failed : Codec F) (d : D) → AreOfBytes ((status_union_codec number all done failed).items (Done d)) → AreOfBytes (done.items d)
unfolding status_union_codec enumeration word
union_items number all done failed d h = h.1

nfs_is_done : {D F : Type 0} (r : Result (StatusUnion D F Status) ClientEnd) (value : D) → nfs_done r ≡ Ok value → r ≡ Ok (Done value)
nfs_is_done (Ok (Done v)) value e = (let same : v ≡ value = cc in ap (λ (d : _). Ok (Done d)) same)
nfs_is_done (Ok (Failed status part)) value e = absurd cc
nfs_is_done (Err end) value e = absurd cc

mount_is_done : {D F : Type 0} (r : Result (StatusUnion D F MountStatus) ClientEnd) (value : D) → mount_done r ≡ Ok value → r ≡ Ok (Done value)
mount_is_done (Ok (Done v)) value e = (let same : v ≡ value = cc in ap (λ (d : _). Ok (Done d)) same)
mount_is_done (Ok (Failed status part)) value e = absurd cc
mount_is_done (Err end) value e = absurd cc

nfs_items : {D F : Type 0} (done : Codec D) (failed : Codec F) → Lawful done → Lawful failed → ReadsBytes (λ (v : D). AreOfBytes (done.items v)) (nfs_reads done failed)
nfs_items {D} {F} done failed of_done of_failed outcome value h e =
    let codec = status_union_codec status_number statuses done failed in
    union_items status_number statuses done failed value
    (outcome_items codec (status_union_lawful status_number statuses status_not_ok each_status done failed of_done of_failed) outcome (Done value) h
    (nfs_is_done (result_of_outcome codec outcome) value e))

-- ---- File handles

mount_handle : (v : MountOk) → AreOfBytes (mount_ok_codec.items v) → IsBytes v.handle
unfolding mount_ok_codec opaque
mount_handle v h = h.0

mounted : (r : Result MountOk ClientEnd) (handle : List ℕ) → ((v : MountOk) → r ≡ Ok v → IsBytes v.handle) → handle_of r ≡ Ok handle → IsBytes handle
mounted (Ok v) handle h e = (let same : v.handle ≡ handle = cc in subst IsBytes same (h v refl))
mounted (Err end) handle h e = absurd cc

-- of MNT, of LOOKUP and of CREATE
pub mnt_bytes : ReadsBytes IsBytes mnt_result
mnt_bytes outcome handle h e =
    let codec = status_union_codec mount_status_number mount_statuses mount_ok_codec void in
    mounted (mount_done (result_of_outcome codec outcome)) handle
    (λ v is. mount_handle v (union_items mount_status_number mount_statuses mount_ok_codec void v
    (outcome_items codec (status_union_lawful mount_status_number mount_statuses mount_status_not_ok each_mount_status mount_ok_codec void mount_ok_lawful void_lawful) outcome (Done v) h
    (mount_is_done (result_of_outcome codec outcome) v is)))) e

lookup_object : (v : LookupOk) → AreOfBytes (lookup_ok_codec.items v) → IsBytes v.object
unfolding lookup_ok_codec opaque
lookup_object v h = h.0

found : (r : Result LookupOk ClientEnd) (handle : List ℕ) → ((v : LookupOk) → r ≡ Ok v → IsBytes v.object) → object_in r ≡ Ok handle → IsBytes handle
found (Ok v) handle h e = (let same : v.object ≡ handle = cc in subst IsBytes same (h v refl))
found (Err end) handle h e = absurd cc

pub object_bytes : ReadsBytes IsBytes object_result
object_bytes outcome handle h e =
    found (lookup_result outcome) handle
    (λ v is. lookup_object v (nfs_items lookup_ok_codec (optional attributes_codec) lookup_ok_lawful (optional_lawful attributes_codec attributes_lawful) outcome v h is)) e

option_items : (o : Option (List ℕ)) (rest : List Item) → AreOfBytes ((optional handle_codec).items o ++ rest) → IfBytes o
unfolding optional boolean opaque
option_items None rest h = tt
option_items (Some handle) rest h = h.1.0

create_object : (v : CreateOk) → AreOfBytes (create_ok_codec.items v) → IfBytes v.object
unfolding create_ok_codec
create_object v h = option_items v.object _ h

given_handle : (at : ℕ) (o : Option (List ℕ)) (handle : List ℕ) → IfBytes o → handle_or at o ≡ Ok handle → IsBytes handle
given_handle at (Some h) handle b e = (let same : h ≡ handle = cc in subst IsBytes same b)
given_handle at None handle b e = absurd cc

created : (at : ℕ) (r : Result CreateOk ClientEnd) (handle : List ℕ) → ((v : CreateOk) → r ≡ Ok v → IfBytes v.object) → created_handle at r ≡ Ok handle → IsBytes handle
created at (Ok v) handle h e = given_handle at v.object handle (h v refl) e
created at (Err end) handle h e = absurd cc

pub created_bytes : ReadsBytes IsBytes created_file
created_bytes outcome handle h e =
    created (results_offset outcome) (create_result outcome) handle
    (λ v is. create_object v (nfs_items create_ok_codec wcc_data_codec create_ok_lawful wcc_data_lawful outcome v h is)) e
