-- What READs of a file give is its bytes.
use Rattle.std.proofs.Common.{◌≡◌, ℕ, ◌+◌, ◌<◌, ◌≤◌, ◌^◌, min, Bool, true, false, cond, ltb, List, [], ◌∷◌, ◌++◌, length, take, Some, Result, Ok, Err, refl, ap, sym, ◌∙◌, subst, arith}
use Rattle.std.specs.Prelude.{nat_le}
use Rattle.std.specs.List.{fold}
use Rattle.std.proofs.lemmas.Bool.{ltb-false, ltb-true}
use Rattle.std.proofs.lemmas.List.{take_all}
use Rattle.std.proofs.lemmas.List.Folds.{fold_stays}
use Rattle.nr_nfs_base.specs.Limits.{handle_max, transfer_max}
use Rattle.nr_nfs_base.specs.declared.attributes.Attributes.{Attributes}
use Rattle.nr_nfs_res.specs.declared.bytes.ReadOk.{ReadOk}
use Rattle.nr_reduce.specs.declared.call.Outcome.{Outcome}
use Rattle.nr_reduce.specs.declared.mark.Entry.{Entry}
use Rattle.nr_tree.specs.declared.node.Content.TheVariants.{Regular}
use Rattle.nr_ops_file.specs.Bytes.{piece_read}
use Rattle.nr_plain.specs.Journal.{tree_at}
use Rattle.nr_plain.specs.Setup.{Setup}
use Rattle.nr_client.specs.declared.client_end.ClientEnd.{ClientEnd}
use Rattle.nr_client.specs.Following.{Next}
use Rattle.nr_client.specs.Following.Next.{Calls, Returns}
use Rattle.nr_client.specs.Reading.{FileRead, after_reply, bytes_of, next_read, offset_after, piece_left, read_call, read_result, with_data, with_size}
use Rattle.nr_client.specs.Reading.FileRead.{NothingKnown, ReadEnds, SizeKnown}
use Rattle.nr_client.specs.Requests.{getattr_result}
use Rattle.nr_reply_laws.specs.Replies.{AreIds}
use Rattle.nr_pair_laws.specs.FilesAt.{KeepPath, content_at, handle_along}
use Rattle.nr_pair_laws.specs.Pairs.{IsAnsweredAt}
use Rattle.nr_pair_laws.specs.PutThenGet.{AnsweredSince, OnCall, root_handle}
use Rattle.nr_pair_laws.proofs.Bytes.{next_piece, piece_length}
use Rattle.nr_pair_laws.proofs.Calls.{data_at, size_at}
use Rattle.nr_pair_laws.proofs.Kept.{file_kept, kept}

-- what was read after some replies, and these replies more
abbrev pub read_after : FileRead → List Outcome → FileRead
read_after state later = fold after_reply state later

abbrev pub request_after : (uid gid : ℕ) → (file : List ℕ) → FileRead → List Outcome → Next (Unit {0})
request_after uid gid file state later = next_read uid gid file (read_after state later)

-- a request is done
abbrev Ends : Next (Unit {0}) → Type 0
Ends next = next ≡ Returns (Ok tt)

-- a request that has ended doesn't end with a value
ended : (uid gid : ℕ) (file : List ℕ) (end : ClientEnd) (bytes : List ℕ) (os : List Outcome) → request_after uid gid file (ReadEnds end bytes) os ≡ Returns (Ok tt) → ⊥
ended uid gid file end bytes os is =
    let stays : fold after_reply (ReadEnds end bytes) os ≡ ReadEnds end bytes = fold_stays after_reply (ReadEnds end bytes) (λ o. refl) os in
    let wrong : Ends (Returns (Err end)) = sym (ap (λ (w : FileRead). next_read uid gid file w) stays) ∙ is in
    absurd cc

-- what is left of a piece is no more than one READ moves, and than the file has
pub left_few : (size at : ℕ) → piece_left size at ≤ transfer_max
left_few size at = omega arith

module _ (s : Setup) (J : List Entry) (uid gid : ℕ) (ids : AreIds uid gid) (names : List (List ℕ)) (file bytes : List ℕ) (from : ℕ) (short : length file ≤ handle_max) (few : length bytes < 2 ^ 64)
    (leads : handle_along (tree_at s J from) root_handle names ≡ Some file) (holds : content_at (tree_at s J from) file ≡ Some (Regular bytes)) where
  -- the file has its bytes at each later place
  there : (place : ℕ) → from ≤ place → KeepPath s J root_handle names from place → content_at (tree_at s J place) file ≡ Some (Regular bytes)
  there place rises keeps = (file_kept root_handle names (tree_at s J from) (tree_at s J place) file (Regular bytes) (kept s J root_handle names from place rises keeps) leads holds).1

  -- one READ more: all that it asks for
  piece_there : (at : ℕ) (w : ReadOk) → at < length bytes → w.bytes ≡ piece_read bytes at (piece_left (length bytes) at)
      → w.eof ≡ nat_le (length bytes) (at + length (piece_read bytes at (piece_left (length bytes) at)))
      → (offset_after (length bytes) at w ≡ at + length w.bytes) × ((take at bytes ++ w.bytes ≡ take (at + length w.bytes) bytes) × (at + length w.bytes ≤ length bytes))
  piece_there at w more same eof =
      let asked = piece_left (length bytes) at in
      let size = piece_length bytes at (min asked transfer_max) in
      let full : length (piece_read bytes at asked) ≡ asked = omega (arith, size, left_few (length bytes) at) in
      let long : length w.bytes ≡ asked = ap length same ∙ full in (
        by w.eof long,
        (
          ap (λ (l : List ℕ). take at bytes ++ l) same ∙ next_piece at (min asked transfer_max) bytes ∙ ap (λ (l : List ℕ). take (at + length l) bytes) (sym same),
          omega (arith, long, more),
        ),
      )
    where
      by : (b : Bool) → length w.bytes ≡ piece_left (length bytes) at → at + cond b (piece_left (length bytes) at) (length w.bytes) ≡ at + length w.bytes
      by true long = ap (λ (n : ℕ). at + n) (sym long)
      by false long = refl

  -- the READs
  pieces_read : (at : ℕ) (os : List Outcome) → at ≤ length bytes
      → AnsweredSince s J (KeepPath s J root_handle names) (request_after uid gid file (SizeKnown (length bytes) at (take at bytes))) os from
      → request_after uid gid file (SizeKnown (length bytes) at (take at bytes)) os ≡ Returns (Ok tt) → bytes_of (read_after (SizeKnown (length bytes) at (take at bytes)) os) ≡ bytes
  pieces_read at [] within made ends = by (ltb at (length bytes)) refl ends
    where
      by : (b : Bool) → ltb at (length bytes) ≡ b → Ends (cond b (Calls (read_call uid gid file at (piece_left (length bytes) at))) (Returns (Ok tt))) → take at bytes ≡ bytes
      by true less bad = absurd cc
      by false full good = take_all at bytes (ltb-false at (length bytes) full)
  pieces_read at (o ∷ os) within made ends = by (ltb at (length bytes)) refl made (λ next few_more calls good. pieces_read next os few_more calls good)
    where
      by : (b : Bool) → ltb at (length bytes) ≡ b
          → OnCall {A = Unit {0}} (cond b (Calls (read_call uid gid file at (piece_left (length bytes) at))) (Returns (Ok tt)))
          (λ call. (place : ℕ) × (answered : IsAnsweredAt s J call o place) × ((from ≤ place) × (KeepPath s J root_handle names from place
          × AnsweredSince s J (KeepPath s J root_handle names) (λ more. request_after uid gid file (SizeKnown (length bytes) at (take at bytes)) (o ∷ more)) os from)))
          → ((next : ℕ) → next ≤ length bytes → AnsweredSince s J (KeepPath s J root_handle names) (request_after uid gid file (SizeKnown (length bytes) next (take next bytes))) os from
          → request_after uid gid file (SizeKnown (length bytes) next (take next bytes)) os ≡ Returns (Ok tt) → bytes_of (read_after (SizeKnown (length bytes) next (take next bytes)) os) ≡ bytes)
          → bytes_of (read_after (SizeKnown (length bytes) at (take at bytes)) (o ∷ os)) ≡ bytes
      by false full none rest_of = absurd none
      by true less (place, answered, (rises, (keeps, calls))) rest_of = read (read_result (piece_left (length bytes) at) o) refl calls ends
        where
          read : (r : Result ReadOk ClientEnd) → read_result (piece_left (length bytes) at) o ≡ r
              → AnsweredSince s J (KeepPath s J root_handle names) (request_after uid gid file (with_data (length bytes) at (take at bytes) r)) os from
              → request_after uid gid file (with_data (length bytes) at (take at bytes) r) os ≡ Returns (Ok tt)
              → bytes_of (read_after (with_data (length bytes) at (take at bytes) r) os) ≡ bytes
          read (Err end) is next_calls bad = absurd (ended uid gid file end (take at bytes) os bad)
          read (Ok w) is next_calls good =
              let more : at < length bytes = ltb-true at (length bytes) less in
              let asked = left_few (length bytes) at in
              let given = data_at s J uid gid ids file at (piece_left (length bytes) at) o place bytes short (omega (arith, more, few)) (omega (arith, asked)) (there place rises keeps) answered w is in
              let p = piece_there at w more given.0 given.1 in
              let state : SizeKnown (length bytes) (at + length w.bytes) (take (at + length w.bytes) bytes) ≡ SizeKnown (length bytes) (offset_after (length bytes) at w) (take at bytes ++ w.bytes) =
              λ i. SizeKnown (length bytes) (sym p.0 i) (sym p.1.0 i) in
              ap (λ (x : FileRead). bytes_of (read_after x os)) (sym state)
              ∙ rest_of (at + length w.bytes) p.1.1
              (subst (λ (x : FileRead). AnsweredSince s J (KeepPath s J root_handle names) (request_after uid gid file x) os from) (sym state) next_calls)
              (ap (λ (x : FileRead). request_after uid gid file x os) state ∙ good)

  -- GETATTR, and then the READs
  pub file_read : (os : List Outcome) → AnsweredSince s J (KeepPath s J root_handle names) (request_after uid gid file NothingKnown) os from
      → request_after uid gid file NothingKnown os ≡ Returns (Ok tt) → bytes_of (read_after NothingKnown os) ≡ bytes
  file_read [] made ends = absurd cc
  file_read (o ∷ os) (place, answered, (rises, (keeps, calls))) ends = by (getattr_result o) refl calls ends
    where
      by : (r : Result Attributes ClientEnd) → getattr_result o ≡ r → AnsweredSince s J (KeepPath s J root_handle names) (request_after uid gid file (with_size r)) os from
          → request_after uid gid file (with_size r) os ≡ Returns (Ok tt) → bytes_of (read_after (with_size r) os) ≡ bytes
      by (Err end) is next_calls bad = absurd (ended uid gid file end [] os bad)
      by (Ok attributes) is next_calls good =
          let size : attributes.size ≡ length bytes = size_at s J uid gid ids file o place bytes short few (there place rises keeps) answered attributes is in
          ap (λ (n : ℕ). bytes_of (read_after (SizeKnown n 0 []) os)) size
          ∙ pieces_read 0 os (omega arith)
          (subst (λ (n : ℕ). AnsweredSince s J (KeepPath s J root_handle names) (request_after uid gid file (SizeKnown n 0 [])) os from) size next_calls)
          (ap (λ (n : ℕ). request_after uid gid file (SizeKnown n 0 []) os) (sym size) ∙ good)
