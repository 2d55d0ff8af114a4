-- What is read of arguments and results that were encoded.
use Rattle.std.proofs.Common.{◌≡◌, ℕ, ◌<◌, ◌^◌, List, [], ◌++◌, length, drop, Result, Ok, refl, sym, ap, subst, ◌∙◌, arith, append-nil}
use Rattle.std.proofs.lemmas.List.{drop_at}
use Rattle.nr_xdr.specs.Items.{AllFit, encodings}
use Rattle.nr_xdr.specs.Reading.{Cursor}
use Rattle.nr_xdr.specs.Sequencing.{◌>>=◌}
use Rattle.nr_xdr.proofs.Chains.{standing}
use Rattle.nr_rpc.specs.Reply.{reply_head}
use Rattle.nr_rpc.specs.declared.head.ReplyHead.{ReplyHead}
use Rattle.nr_rpc.proofs.Replies.{reply_written}
use Rattle.nr_nfs_base.specs.Codec.{Codec, Lawful, read_all, value_at_end}
use Rattle.nr_nfs_base.specs.Status.{each_status, status_not_ok, status_number, statuses}
use Rattle.nr_nfs_base.specs.declared.status.Status.{Status}
use Rattle.nr_nfs_base.specs.declared.status_union.StatusUnion.{StatusUnion}
use Rattle.nr_nfs_base.specs.declared.status_union.StatusUnion.TheVariants.{Done, Failed}
use Rattle.nr_nfs_res.specs.Results.{nfs_result}
use Rattle.nr_reduce.specs.declared.call.Outcome.TheVariants as outcomes
use Rattle.nr_plain.specs.Replies.{accepted, results_reply}
use Rattle.nr_client.specs.declared.client_end.ClientEnd.{ClientEnd}
use Rattle.nr_client.specs.Requests.{nfs_reads}
use Rattle.nr_client.specs.Results.{nfs_done, result_by_reading, result_of_reply, results_or}
use Rattle.nr_reply_laws.proofs.Decoding.{Any, IsRead, UnionIs, done_is, failed_is, lawful_read}
use Rattle.nr_reply_laws.proofs.Procedures.{status_fits}

-- ---- Arguments

-- a value within its limits is read of its encoding, and nothing is left over
pub written_read : {A : Type 0} (codec : Codec A) (v : A) → Lawful codec → codec.fits v → AllFit (codec.items v) → read_all codec (encodings (codec.items v)) ≡ Ok v
written_read {A} codec v lawful fits all =
    let f = (lawful_read codec v lawful fits all).at 0 [] in
    ap (λ (l : List ℕ). ◌>>=◌ {A = A × Cursor} {B = A} (codec.read (standing 0 l)) value_at_end) (sym (append-nil (encodings (codec.items v))))
    ∙ ap (λ (r : Result (A × Cursor) ℕ). ◌>>=◌ {A = A × Cursor} {B = A} r value_at_end) f.is
    ∙ ap (λ (w : A). Ok w) f.holds

-- ---- Results

-- the value that a client read, or that a procedure had
abbrev pub Gave : {A : Type 0} → Result A ClientEnd → A → Type 0
Gave result value = result ≡ Ok value

abbrev pub Succeeds : {D F : Type 0} → StatusUnion D F Status → D → Type 0
Succeeds results value = results ≡ Done value

module _ (xid : ℕ) (xid_fits : xid < 2 ^ 32) where
  -- results that are read completely, with nothing after them
  pub results_read : {A : Type 0} (codec : Codec A) (results : A) (P : A → Type 0) → IsRead codec (codec.items results) P → (v : A) × ((result_of_reply codec (results_reply xid codec results) ≡ Ok v) × P v)
  results_read {A} codec results P reads =
      let bytes = encodings (codec.items results) in
      let head = reply_head (accepted xid 0) in
      let reply = results_reply xid codec results in
      let f = reads.at (length head) [] in
      let there : drop (length head) (head ++ bytes) ≡ bytes ++ [] = drop_at head bytes (length head) refl ∙ sym (append-nil bytes) in (
        f.value,
        (
          ap (λ (r : Result ReplyHead ℕ). result_by_reading codec reply r) (reply_written (accepted xid 0) bytes (λ e. absurd cc) (xid_fits, omega arith))
              ∙ ap (λ (l : List ℕ). results_or (◌>>=◌ {A = A × Cursor} {B = A} (codec.read (standing (length head) l)) value_at_end)) there
              ∙ ap (λ (r : Result (A × Cursor) ℕ). results_or (◌>>=◌ {A = A × Cursor} {B = A} r value_at_end)) f.is,
          f.holds,
        ),
      )

  -- What a client reads as results was a success, whose encoding is read so.
  pub read_as_done : {D F : Type 0} (done : Codec D) (failed : Codec F) (P : D → D → Type 0) (results : StatusUnion D F Status) (w : D)
      → ((part : F) → IsRead failed (failed.items part) Any) → ((d : D) → results ≡ Done d → IsRead done (done.items d) (P d))
      → nfs_reads done failed (outcomes.Reply (results_reply xid (nfs_result done failed) results)) ≡ Ok w → (d : D) × ((results ≡ Done d) × P d w)
  read_as_done {D} {F} done failed P (Done d) w fails reads e =
      let r = results_read (nfs_result done failed) (Done d) (UnionIs (P d)) (done_is status_number statuses status_not_ok each_status status_fits done failed d (P d) (reads d refl)) in
      by r.0 r.1.1 (sym (ap (λ (x : Result (StatusUnion D F Status) ClientEnd). nfs_done x) r.1.0) ∙ e)
    where
      by : (v : StatusUnion D F Status) → UnionIs (P d) v → Gave (nfs_done {D = D} {F = F} (Ok v)) w → (x : D) × (Succeeds {D = D} {F = F} (Done d) x × P x w)
      by (Done x) holds is = let same : x ≡ w = cc in (d, (refl, subst (P d) same holds))
      by (Failed status part) holds is = absurd cc
  read_as_done {D} {F} done failed P (Failed s part) w fails reads e =
      let r = results_read (nfs_result done failed) (Failed s part) (UnionIs (λ (x : D). ⊥)) (failed_is status_number statuses status_not_ok each_status status_fits done failed s part (λ (x : D). ⊥) (fails part)) in
      by r.0 r.1.1 (sym (ap (λ (x : Result (StatusUnion D F Status) ClientEnd). nfs_done x) r.1.0) ∙ e)
    where
      by : (v : StatusUnion D F Status) → UnionIs (λ (x : D). ⊥) v → Gave (nfs_done {D = D} {F = F} (Ok v)) w → (x : D) × (Succeeds {D = D} {F = F} (Failed s part) x × P x w)
      by (Done x) holds is = absurd holds
      by (Failed status rest) holds is = absurd cc
