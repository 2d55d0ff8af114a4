-- The items of replies to READ and to READLINK: what stands before them is short, and so are they.
use Rattle.std.proofs.Common.{◌≡◌, ℕ, zero, suc, ◌+◌, ◌≤◌, ◌<◌, ◌^◌, Bool, true, false, cond, eqb, List, [], ◌∷◌, ◌++◌, length, drop, replicate, Option, None, Some, Result, Ok, refl, ap, sym, ◌∙◌, subst, append_assoc, arith}
use Rattle.std.specs.Prelude.{◌&&◌}
use Rattle.std.specs.List.{list_all}
use Rattle.std.proofs.Math.Seq.{drop-append_seam}
use Rattle.std.proofs.lemmas.Bool.{eq-eqb}
use Rattle.std.proofs.lemmas.List.{append-nil, drop_at, length-append, length-replicate}
use Rattle.nr_xdr.specs.Item.{Item as XdrItem, word, pad_len}
use Rattle.nr_xdr.specs.Item.Item.{Unsigned, Opaque}
use Rattle.nr_xdr.specs.Items.{encodings}
use Rattle.nr_xdr.specs.Reading.{Cursor}
use Rattle.nr_xdr.specs.Sequencing.{◌>>=◌, number_at}
use Rattle.nr_xdr.proofs.Chains.{standing, encoding_reads}
use Rattle.nr_xdr.proofs.SequencingSteps.{number_again}
use Rattle.nr_xdr.proofs.WordBytes.{length_word}
use Rattle.nr_rpc.specs.Reply.{CanWriteReply, ReplyFits, reply_head, reply_encoding, reply_again}
use Rattle.nr_rpc.specs.declared.head.ReplyHead.{ReplyHead}
use Rattle.nr_rpc.proofs.Replies.{reply_written}
use Rattle.nr_nfs_base.specs.Attributes.{attributes_codec}
use Rattle.nr_nfs_base.specs.Codec.{Codec, optional, enumeration, boolean, opaque, word as word_codec}
use Rattle.nr_nfs_base.specs.Fronts.{success, success_codec, read_ok_front, readlink_ok_front, read_res_front, readlink_res_front}
use Rattle.nr_nfs_base.specs.Status.{status_number, status_not_ok}
use Rattle.nr_nfs_base.specs.StatusUnion.{status_union_codec}
use Rattle.nr_nfs_base.specs.declared.attributes.Attributes.{Attributes}
use Rattle.nr_nfs_base.specs.declared.fronts.Success.{Success}
use Rattle.nr_nfs_base.specs.declared.status.Status.{Status}
use Rattle.nr_nfs_base.specs.declared.status.Status.TheVariants.{Perm, Noent, Io, Nxio, Acces, Exist, Xdev, Nodev, Notdir, Isdir, Inval, Fbig, Nospc, Rofs, Mlink, Nametoolong, Notempty, Dquot, Stale, Remote, Badhandle, NotSync, BadCookie, Notsupp, Toosmall, Serverfault, Badtype, Jukebox}
use Rattle.nr_nfs_base.specs.declared.status_union.StatusUnion.{StatusUnion}
use Rattle.nr_nfs_base.specs.declared.status_union.StatusUnion.TheVariants.{Done, Failed}
use Rattle.nr_nfs_res.specs.Bytes.{read_ok_codec}
use Rattle.nr_nfs_res.specs.Lookup.{readlink_ok_codec}
use Rattle.nr_nfs_res.specs.Results.{nfs_result}
use Rattle.nr_nfs_res.specs.declared.bytes.ReadOk.{ReadOk}
use Rattle.nr_nfs_res.specs.declared.lookup.ReadlinkOk.{ReadlinkOk}
use Rattle.nr_reduce.specs.Items.{item_by, item_at, before_read, before_target, result_item, results_item, results_of, reply_item, reducible_item, from_place, if_ends, ends_with_item}
use Rattle.nr_reduce.specs.declared.item.Item.{Item}
use Rattle.nr_reduce.specs.declared.item.Of.TheVariants.{Reply}
use Rattle.nr_ops_list.proofs.Sizes.{items_size, items_size_append, length_encodings}
use Rattle.nr_plain.specs.Replies.{refusal, accepted}
use Rattle.nr_plain.proofs.FrontReads.{Readable, encodings_append, read_front_readable, readlink_front_readable, failure_unread}
use Rattle.nr_plain.proofs.Lengths.{some_attributes, failed_size}
use Rattle.nr_plain.proofs.ReplyLimits.{refusal_size, results_size, head_size}

-- ===== an item after a front

module _ (bytes : List ℕ) where
  abbrev pad : List ℕ
  pad = replicate {A = ℕ} (pad_len (length bytes)) 0

  item_read : (place : ℕ) → length bytes < 2 ^ 32 → item_by (number_at (standing place (encodings (Opaque bytes ∷ [])))) ≡ Some (record { pos = place + 4; len = length bytes })
  item_read place fits =
      ap item_by (number_again (standing place (encodings (Opaque bytes ∷ []))) (length bytes) (standing (place + 4) ((bytes ++ pad) ++ [])) (record {
        bytes = word (length bytes);
        reads = encoding_reads (Unsigned (length bytes)) fits;
        rest = append_assoc (word (length bytes)) (bytes ++ pad) [];
        place = omega (arith, length_word (length bytes));
      }))

  front_item : {A : Type 0} (front : Codec A) (xs : List XdrItem) (place : ℕ) → Readable front xs → length bytes < 2 ^ 32
      → item_at (◌>>=◌ {A = A × Cursor} {B = Cursor} (front.read (standing place (encodings (xs ++ Opaque bytes ∷ [])))) (λ f. Ok f.1)) ≡ Some (record { pos = place + items_size xs + 4; len = length bytes })
  front_item {A} front xs place readable fits =
      let f : (v : A) × (front.read (standing place (encodings xs ++ encodings (Opaque bytes ∷ []))) ≡ Ok (v, standing (place + items_size xs) (encodings (Opaque bytes ∷ [])))) = readable.at place (encodings (Opaque bytes ∷ [])) in
      ap (λ (l : List ℕ). item_at (◌>>=◌ {A = A × Cursor} {B = Cursor} (front.read (standing place l)) (λ f. Ok f.1))) (encodings_append xs (Opaque bytes ∷ []))
      ∙ ap (λ (r : Result (A × Cursor) ℕ). item_at (◌>>=◌ {A = A × Cursor} {B = Cursor} r (λ f. Ok f.1))) f.1
      ∙ item_read (place + items_size xs) fits

  zeros : (n : ℕ) → list_all (λ (b : ℕ). eqb b 0) (replicate {A = ℕ} n 0) ≡ true
  zeros zero = refl
  zeros (suc n) = zeros n

  all_of : (a b : Bool) → a ≡ true → b ≡ true → (a && b) ≡ true
  all_of true b p q = q
  all_of false b p q = absurd cc

  parted : (head : List ℕ) (xs : List XdrItem) → head ++ encodings (xs ++ Opaque bytes ∷ []) ≡ (head ++ (encodings xs ++ (word (length bytes) ++ bytes))) ++ pad
  parted head xs =
      ap (λ (l : List ℕ). head ++ l) (encodings_append xs (Opaque bytes ∷ []))
      ∙ ap (λ (l : List ℕ). head ++ (encodings xs ++ l)) (append-nil (word (length bytes) ++ (bytes ++ pad)))
      ∙ simp append_assoc

  item_ends : (head : List ℕ) (xs : List XdrItem) → ends_with_item (head ++ encodings (xs ++ Opaque bytes ∷ [])) (record { pos = length head + items_size xs + 4; len = length bytes }) ≡ true
  item_ends head xs =
      let front : List ℕ = head ++ (encodings xs ++ (word (length bytes) ++ bytes)) in
      let at : ℕ = length head + items_size xs + 4 + length bytes in
      let len : length front ≡ at =
      omega (arith, length-append head (encodings xs ++ (word (length bytes) ++ bytes)), length-append (encodings xs) (word (length bytes) ++ bytes), length-append (word (length bytes)) bytes, length_word (length bytes), length_encodings xs) in
      let whole : length (head ++ encodings (xs ++ Opaque bytes ∷ [])) ≡ at + pad_len (length bytes) =
      omega (arith, ap length (parted head xs), length-append front pad, len, length-replicate {A = ℕ} (pad_len (length bytes)) 0) in
      let left : drop at (head ++ encodings (xs ++ Opaque bytes ∷ [])) ≡ pad = ap (drop at) (parted head xs) ∙ drop_at front pad at len in
      all_of _ _ (eq-eqb (length (head ++ encodings (xs ++ Opaque bytes ∷ []))) (at + pad_len (length bytes)) whole) (ap (list_all (λ (b : ℕ). eqb b 0)) left ∙ zeros (pad_len (length bytes)))

-- ===== the items of replies

module _ (proc xid : ℕ) (fits : xid < 2 ^ 32) where
  -- by what is read of the results
  looked : (results : List ℕ) → reducible_item (Reply 100003 3 proc) (reply_encoding (accepted xid 0) results) ≡ if_ends (reply_encoding (accepted xid 0) results) (result_item 100003 3 proc (standing 24 results))
  unfolding reducible_item reply_item
  looked results =
      let reply : List ℕ = reply_encoding (accepted xid 0) results in
      let head : List ℕ = reply_head (accepted xid 0) in
      let there : from_place (length head) reply ≡ standing 24 results = λ i. record { place = head_size xid i; rest = drop-append_seam head results i } in
      ap (λ (r : Result ReplyHead ℕ). if_ends reply (results_item 100003 3 proc reply (results_of r))) (reply_written (accepted xid 0) results (λ e. absurd cc) (fits, omega arith))
      ∙ ap (λ (c : Cursor). if_ends reply (result_item 100003 3 proc c)) there

  -- a call that was refused
  refused_item : (head : ReplyHead) → CanWriteReply head → ReplyFits head → results_of (Ok (reply_again head)) ≡ None → reducible_item (Reply 100003 3 proc) (refusal head).reply ≡ None
  unfolding reducible_item reply_item
  refused_item head can head_fits none =
      let reply : List ℕ = (refusal head).reply in
      ap (λ (r : Result ReplyHead ℕ). if_ends reply (results_item 100003 3 proc reply (results_of r))) (reply_written head [] can head_fits)
      ∙ ap (λ (o : Option ℕ). if_ends reply (results_item 100003 3 proc reply o)) none

-- An item is no longer than this, and what stands before it is short; a reply without one is short.
abbrev pub Suits : ℕ → List ℕ → Option Item → Type 0
Suits n reply None = length reply ≤ 116
Suits n reply (Some i) = (i.len ≤ n) × (i.pos ≤ 128)

abbrev pub IsSuited : ℕ → ℕ → List ℕ → Type 0
IsSuited n proc reply = (o : Option Item) × (reducible_item (Reply 100003 3 proc) reply ≡ o) × Suits n reply o

pub refused_suited : (n proc xid : ℕ) (head : ReplyHead) → CanWriteReply head → ReplyFits head → results_of (Ok (reply_again head)) ≡ None → xid < 2 ^ 32 → IsSuited n proc (refusal head).reply
refused_suited n proc xid head can head_fits none fits = (None, refused_item proc xid fits head can head_fits none, omega (arith, refusal_size head))

status_fits : (s : Status) → status_number s < 2 ^ 32
status_fits Perm = omega arith
status_fits Noent = omega arith
status_fits Io = omega arith
status_fits Nxio = omega arith
status_fits Acces = omega arith
status_fits Exist = omega arith
status_fits Xdev = omega arith
status_fits Nodev = omega arith
status_fits Notdir = omega arith
status_fits Isdir = omega arith
status_fits Inval = omega arith
status_fits Fbig = omega arith
status_fits Nospc = omega arith
status_fits Rofs = omega arith
status_fits Mlink = omega arith
status_fits Nametoolong = omega arith
status_fits Notempty = omega arith
status_fits Dquot = omega arith
status_fits Stale = omega arith
status_fits Remote = omega arith
status_fits Badhandle = omega arith
status_fits NotSync = omega arith
status_fits BadCookie = omega arith
status_fits Notsupp = omega arith
status_fits Toosmall = omega arith
status_fits Serverfault = omega arith
status_fits Badtype = omega arith
status_fits Jukebox = omega arith

-- ===== READ

read_parts : (d : ReadOk) → (nfs_result read_ok_codec (optional attributes_codec)).items (Done d) ≡ read_res_front.items (success, (d.attributes, (d.count, d.eof))) ++ Opaque d.bytes ∷ []
unfolding status_union_codec enumeration word_codec success_codec read_ok_codec opaque
read_parts d = refl

read_front_size : (o : Option Attributes) (count : ℕ) (eof : Bool) → items_size (read_res_front.items (success, (o, (count, eof)))) ≤ 100
unfolding enumeration word_codec success_codec boolean
read_front_size o count eof = omega (arith, items_size_append ((optional attributes_codec).items o) (word_codec.items count ++ boolean.items eof), some_attributes o)

read_failed : (s : Status) (o : Option Attributes) → result_item 100003 3 6 (standing 24 (encodings ((nfs_result read_ok_codec (optional attributes_codec)).items (Failed s o)))) ≡ None
unfolding before_read status_union_codec enumeration word_codec
read_failed s o =
    let rest : List ℕ = encodings ((optional attributes_codec).items o) in
    ap (λ (r : Result (Success × Cursor) ℕ). item_at (◌>>=◌ {A = (Success × (Option Attributes × (ℕ × Bool))) × Cursor} {B = Cursor} (◌>>=◌ {A = Success × Cursor} {B = (Success × (Option Attributes × (ℕ × Bool))) × Cursor} r (λ x. ◌>>=◌ {A = (Option Attributes × (ℕ × Bool)) × Cursor} {B = (Success × (Option Attributes × (ℕ × Bool))) × Cursor} (read_ok_front.read x.1) (λ y. Ok ((x.0, y.0), y.1)))) (λ f. Ok f.1)))
    (ap (λ (l : List ℕ). success_codec.read (standing 24 l)) (ap (λ (l : List ℕ). l ++ rest) (sym (append-nil (word (status_number s))))) ∙ failure_unread (status_number s) 24 rest (status_fits s) (status_not_ok s))

module _ (n xid : ℕ) (fits : xid < 2 ^ 32) where
  pub read_suited : (r : StatusUnion ReadOk (Option Attributes) Status) → ((d : ReadOk) → r ≡ Done d → (length d.bytes ≤ n) × (length d.bytes < 2 ^ 32)) → IsSuited n 6 (reply_encoding (accepted xid 0) (encodings ((nfs_result read_ok_codec (optional attributes_codec)).items r)))
  unfolding before_read
  read_suited (Done d) short =
      let xs : List XdrItem = read_res_front.items (success, (d.attributes, (d.count, d.eof))) in
      let i : Item = record { pos = 24 + items_size xs + 4; len = length d.bytes } in
      let head : List ℕ = reply_head (accepted xid 0) in
      let results : List ℕ = encodings (xs ++ Opaque d.bytes ∷ []) in
      let ends : ends_with_item (head ++ results) i ≡ true = subst (λ (k : ℕ). ends_with_item (head ++ results) (record { pos = k + items_size xs + 4; len = length d.bytes }) ≡ true) (head_size xid) (item_ends d.bytes head xs) in
      let is : reducible_item (Reply 100003 3 6) (head ++ results) ≡ Some i =
      looked 6 xid fits results ∙ ap (if_ends (head ++ results)) (front_item d.bytes read_res_front xs 24 (read_front_readable d.attributes d.count d.eof) (short d refl).1)
      ∙ ap (λ (b : Bool). cond b (Some i) None) ends in
      (Some i, ap (λ (l : List XdrItem). reducible_item (Reply 100003 3 6) (head ++ encodings l)) (read_parts d) ∙ is, ((short d refl).0, omega (arith, read_front_size d.attributes d.count d.eof)))
  read_suited (Failed s o) short =
      let results : List ℕ = encodings ((nfs_result read_ok_codec (optional attributes_codec)).items (Failed s o)) in
      (None, looked 6 xid fits results ∙ ap (if_ends (reply_encoding (accepted xid 0) results)) (read_failed s o), omega (arith, results_size xid results, failed_size read_ok_codec (optional attributes_codec) s o, some_attributes o))

-- ===== READLINK

readlink_parts : (d : ReadlinkOk) → (nfs_result readlink_ok_codec (optional attributes_codec)).items (Done d) ≡ readlink_res_front.items (success, d.attributes) ++ Opaque d.path ∷ []
unfolding status_union_codec enumeration word_codec success_codec readlink_ok_codec opaque
readlink_parts d = refl

readlink_front_size : (o : Option Attributes) → items_size (readlink_res_front.items (success, o)) ≤ 92
unfolding enumeration word_codec success_codec
readlink_front_size o = omega (arith, some_attributes o)

readlink_failed : (s : Status) (o : Option Attributes) → result_item 100003 3 5 (standing 24 (encodings ((nfs_result readlink_ok_codec (optional attributes_codec)).items (Failed s o)))) ≡ None
unfolding before_target status_union_codec enumeration word_codec
readlink_failed s o =
    let rest : List ℕ = encodings ((optional attributes_codec).items o) in
    ap (λ (r : Result (Success × Cursor) ℕ). item_at (◌>>=◌ {A = (Success × Option Attributes) × Cursor} {B = Cursor} (◌>>=◌ {A = Success × Cursor} {B = (Success × Option Attributes) × Cursor} r (λ x. ◌>>=◌ {A = Option Attributes × Cursor} {B = (Success × Option Attributes) × Cursor} (readlink_ok_front.read x.1) (λ y. Ok ((x.0, y.0), y.1)))) (λ f. Ok f.1)))
    (ap (λ (l : List ℕ). success_codec.read (standing 24 l)) (ap (λ (l : List ℕ). l ++ rest) (sym (append-nil (word (status_number s))))) ∙ failure_unread (status_number s) 24 rest (status_fits s) (status_not_ok s))

module _ (n xid : ℕ) (fits : xid < 2 ^ 32) where
  pub readlink_suited : (r : StatusUnion ReadlinkOk (Option Attributes) Status) → ((d : ReadlinkOk) → r ≡ Done d → (length d.path ≤ n) × (length d.path < 2 ^ 32)) → IsSuited n 5 (reply_encoding (accepted xid 0) (encodings ((nfs_result readlink_ok_codec (optional attributes_codec)).items r)))
  unfolding before_target
  readlink_suited (Done d) short =
      let xs : List XdrItem = readlink_res_front.items (success, d.attributes) in
      let i : Item = record { pos = 24 + items_size xs + 4; len = length d.path } in
      let head : List ℕ = reply_head (accepted xid 0) in
      let results : List ℕ = encodings (xs ++ Opaque d.path ∷ []) in
      let ends : ends_with_item (head ++ results) i ≡ true = subst (λ (k : ℕ). ends_with_item (head ++ results) (record { pos = k + items_size xs + 4; len = length d.path }) ≡ true) (head_size xid) (item_ends d.path head xs) in
      let is : reducible_item (Reply 100003 3 5) (head ++ results) ≡ Some i =
      looked 5 xid fits results ∙ ap (if_ends (head ++ results)) (front_item d.path readlink_res_front xs 24 (readlink_front_readable d.attributes) (short d refl).1)
      ∙ ap (λ (b : Bool). cond b (Some i) None) ends in
      (Some i, ap (λ (l : List XdrItem). reducible_item (Reply 100003 3 5) (head ++ encodings l)) (readlink_parts d) ∙ is, ((short d refl).0, omega (arith, readlink_front_size d.attributes)))
  readlink_suited (Failed s o) short =
      let results : List ℕ = encodings ((nfs_result readlink_ok_codec (optional attributes_codec)).items (Failed s o)) in
      (None, looked 5 xid fits results ∙ ap (if_ends (reply_encoding (accepted xid 0) results)) (readlink_failed s o), omega (arith, results_size xid results, failed_size readlink_ok_codec (optional attributes_codec) s o, some_attributes o))
