-- A file that CREATE and WRITEs made has the bytes of the input.
use Rattle.std.proofs.Common.{◌≡◌, ℕ, suc, ◌+◌, ◌<◌, ◌≤◌, Bool, true, false, cond, ltb, List, [], ◌∷◌, ◌++◌, length, take, Some, Result, Ok, Err, refl, ap, sym, ◌∙◌, subst, arith, length-take}
use Rattle.std.specs.List.{fold}
use Rattle.std.proofs.lemmas.Bool.{ltb-false, ltb-true}
use Rattle.std.proofs.lemmas.List.{take_all}
use Rattle.std.proofs.lemmas.List.Folds.{fold_stays}
use Rattle.nr_nfs_base.specs.Limits.{handle_max, name_length_max, transfer_max}
use Rattle.nr_outside.specs.Whole.{input_max}
use Rattle.nr_reduce.specs.declared.call.Outcome.{Outcome}
use Rattle.nr_reduce.specs.declared.mark.Entry.{Entry}
use Rattle.nr_tree.specs.Changes.{tree_with_bytes}
use Rattle.nr_tree.specs.Rules.{handle_of, number_of_handle}
use Rattle.nr_tree.specs.Sane.{IsSane}
use Rattle.nr_tree.specs.Tree.{Tree}
use Rattle.nr_tree.specs.declared.node.Content.TheVariants.{Regular}
use Rattle.nr_plain.specs.Journal.{tree_at}
use Rattle.nr_plain.specs.Setup.{Setup, time_of}
use Rattle.nr_plain.proofs.Lengths.{length_handle}
use Rattle.nr_client.specs.declared.client_end.ClientEnd.{ClientEnd}
use Rattle.nr_client.specs.declared.client_end.ClientEnd.TheVariants as client
use Rattle.nr_client.specs.Following.{Next}
use Rattle.nr_client.specs.Following.Next.{Calls, Returns}
use Rattle.nr_client.specs.Writing.{FileWrite, after_write_reply, create_call, created_file, next_write, piece_at, with_count, with_handle, write_call, write_end, write_result}
use Rattle.nr_client.specs.Writing.FileWrite.{Created, NotCreated, WriteEnds}
use Rattle.nr_reply_laws.specs.Replies.{AreIds}
use Rattle.nr_pair_laws.specs.FilesAt.{KeepPath, NumbersFit, content_at, handle_along}
use Rattle.nr_pair_laws.specs.Pairs.{IsAnsweredAt, place_after}
use Rattle.nr_pair_laws.specs.PutThenGet.{AnsweredInOrder, HoldsFile, OnCall, root_handle}
use Rattle.nr_pair_laws.proofs.Bytes.{piece_added, piece_length}
use Rattle.nr_pair_laws.proofs.Calls.{created_at, written_at}
use Rattle.nr_pair_laws.proofs.Changed.{written_content, written_names}
use Rattle.nr_pair_laws.proofs.Kept.{file_kept, kept}
use Rattle.nr_pair_laws.proofs.Paths.{along_grows, along_name, along_same}

-- what was written of an input after some replies, and these replies more
abbrev written_after : (uid gid : ℕ) → (dir name input : List ℕ) → FileWrite → List Outcome → Next (Unit {0})
written_after uid gid dir name input state later = next_write uid gid dir name input (fold (after_write_reply input) state later)

-- a request is done
abbrev Ends : Next (Unit {0}) → Type 0
Ends next = next ≡ Returns (Ok tt)

-- a request that has ended doesn't end with a value
ended : (uid gid : ℕ) (dir name input : List ℕ) (end : ClientEnd) (os : List Outcome) → written_after uid gid dir name input (WriteEnds end) os ≡ Returns (Ok tt) → ⊥
ended uid gid dir name input end os is =
    let stays : fold (after_write_reply input) (WriteEnds end) os ≡ WriteEnds end = fold_stays (after_write_reply input) (WriteEnds end) (λ o. refl) os in
    let wrong : Ends (Returns (Err end)) = sym (ap (λ (w : FileWrite). next_write uid gid dir name input w) stays) ∙ is in
    absurd cc

module _ (s : Setup) (J : List Entry) (uid gid : ℕ) (ids : AreIds uid gid) (names : List (List ℕ)) (dir name input : List ℕ) where
  -- so much of the input is in the file
  record HasWritten (file : List ℕ) (at place : ℕ) : Type 0 where
    leads : handle_along (tree_at s J place) root_handle names ≡ Some file
    holds : content_at (tree_at s J place) file ≡ Some (Regular (take at (take input_max input)))
    within : at ≤ length (take input_max input)

  whole_short : length (take input_max input) ≤ input_max
  whole_short = let cut = length-take input_max input in omega (arith, cut)

  -- all of it was written
  all_written : (file : List ℕ) (at place : ℕ) → HasWritten file at place → next_write uid gid dir name input (Created file at) ≡ Returns (Ok tt) → HoldsFile s J names input place
  all_written file at place has is = by (ltb at (length (take input_max input))) refl (ltb input_max (length input)) refl is
    where
      by : (b : Bool) → ltb at (length (take input_max input)) ≡ b → (c : Bool) → ltb input_max (length input) ≡ c
          → Ends (cond b (Calls (write_call uid gid file at (piece_at input at))) (Returns (cond c (Err (client.Budget input_max)) (Ok tt)))) → HoldsFile s J names input place
      by true less c more bad = absurd cc
      by false full true long bad = absurd cc
      by false full false short good =
          let few : length input ≤ input_max = ltb-false input_max (length input) short in
          let end : length (take input_max input) ≤ at = ltb-false at (length (take input_max input)) full in
          let same : take at (take input_max input) ≡ input = take_all at (take input_max input) end ∙ take_all input_max input few in
          record { file = file; leads = has.leads; holds = has.holds ∙ ap (λ (l : List ℕ). Some (Regular l)) same }

  -- one WRITE more
  piece_written : (file : List ℕ) (at from place : ℕ) (o : Outcome) → length file ≤ handle_max → HasWritten file at from → ltb at (length (take input_max input)) ≡ true → from ≤ place
      → KeepPath s J root_handle names from place → (a : IsAnsweredAt s J (write_call uid gid file at (piece_at input at)) o place) → (count : ℕ)
      → write_result (length (piece_at input at)) o ≡ Ok count → HasWritten file (at + count) (place_after s J (write_call uid gid file at (piece_at input at)) o place a)
  piece_written file at from place o short has less rises keeps a count is =
      let piece : List ℕ = piece_at input at in
      let more : at < length (take input_max input) = ltb-true at (length (take input_max input)) less in
      let size = piece_length (take input_max input) at transfer_max in
      let some : 0 < length piece = omega (arith, size, more) in
      let few : length piece ≤ transfer_max = omega (arith, size) in
      let done = written_at s J uid gid ids file at piece o place short (omega (arith, more, whole_short)) few a count is in
      let t : Tree = tree_at s J place in
      let there = file_kept root_handle names (tree_at s J from) t file (Regular (take at (take input_max input))) (kept s J root_handle names from place rises keeps) has.leads has.holds in
      let added : content_at (tree_with_bytes t (time_of a.moment) (number_of_handle file) at piece) file ≡ Some (Regular (take (at + count) (take input_max input))) =
      written_content t (time_of a.moment) file (take at (take input_max input)) at piece there.1 some
      ∙ ap (λ (l : List ℕ). Some (Regular l)) (piece_added (take input_max input) at transfer_max has.within)
      ∙ ap (λ (n : ℕ). Some (Regular (take (at + n) (take input_max input)))) (sym done.0) in
      let leads : handle_along (tree_with_bytes t (time_of a.moment) (number_of_handle file) at piece) root_handle names ≡ Some file =
      along_same t (tree_with_bytes t (time_of a.moment) (number_of_handle file) at piece) (written_names t (time_of a.moment) (number_of_handle file) at piece some) root_handle names ∙ there.0 in
      subst (λ (k : ℕ). HasWritten file (at + count) k) (sym done.1.1)
      (record {
        leads = ap (λ (u : Tree). handle_along u root_handle names) done.1.0 ∙ leads;
        holds = ap (λ (u : Tree). content_at u file) done.1.0 ∙ added;
        within = omega (arith, size, more, done.0);
      })

  -- the WRITEs
  pieces_written : (file : List ℕ) (at : ℕ) (os : List Outcome) (from to : ℕ) → length file ≤ handle_max → HasWritten file at from
      → AnsweredInOrder s J (KeepPath s J root_handle names) (written_after uid gid dir name input (Created file at)) os from to
      → written_after uid gid dir name input (Created file at) os ≡ Returns (Ok tt) → HoldsFile s J names input to
  pieces_written file at [] from to short has same ends = subst (λ (k : ℕ). HoldsFile s J names input k) (sym same) (all_written file at from has ends)
  pieces_written file at (o ∷ os) from to short has made ends =
      by (ltb at (length (take input_max input))) refl made (λ next count goes calls good. pieces_written file (at + count) os next to short goes calls good)
    where
      by : (b : Bool) → ltb at (length (take input_max input)) ≡ b
          → OnCall {A = Unit {0}} (cond b (Calls (write_call uid gid file at (piece_at input at))) (Returns (write_end input)))
          (λ call. (place : ℕ) × (answered : IsAnsweredAt s J call o place) × ((from ≤ place) × (KeepPath s J root_handle names from place
          × AnsweredInOrder s J (KeepPath s J root_handle names) (λ more. written_after uid gid dir name input (Created file at) (o ∷ more)) os (place_after s J call o place answered) to)))
          → ((next count : ℕ) → HasWritten file (at + count) next → AnsweredInOrder s J (KeepPath s J root_handle names) (written_after uid gid dir name input (Created file (at + count))) os next to
          → written_after uid gid dir name input (Created file (at + count)) os ≡ Returns (Ok tt) → HoldsFile s J names input to)
          → HoldsFile s J names input to
      by false full none rest_of = absurd none
      by true less (place, answered, (rises, (keeps, calls))) rest_of = counted (write_result (length (piece_at input at)) o) refl ends calls
        where
          counted : (r : Result ℕ ClientEnd) → write_result (length (piece_at input at)) o ≡ r → written_after uid gid dir name input (with_count file at r) os ≡ Returns (Ok tt)
              → AnsweredInOrder s J (KeepPath s J root_handle names) (written_after uid gid dir name input (with_count file at r)) os
              (place_after s J (write_call uid gid file at (piece_at input at)) o place answered) to
              → HoldsFile s J names input to
          counted (Err end) is bad next_calls = absurd (ended uid gid dir name input end os bad)
          counted (Ok count) is good next_calls = rest_of (place_after s J (write_call uid gid file at (piece_at input at)) o place answered) count (piece_written file at from place o short has less rises keeps answered count is) next_calls good

  -- CREATE, and then the WRITEs
  pub input_written : (walked : List (List ℕ)) (os : List Outcome) (from to : ℕ) → IsSane s.tree → NumbersFit s J → walked ++ name ∷ [] ≡ names
      → handle_along (tree_at s J from) root_handle walked ≡ Some dir → length dir ≤ handle_max → length name ≤ name_length_max
      → AnsweredInOrder s J (KeepPath s J root_handle names) (written_after uid gid dir name input NotCreated) os from to
      → written_after uid gid dir name input NotCreated os ≡ Returns (Ok tt) → HoldsFile s J names input to
  input_written walked [] from to sane fit all leads short few same ends = absurd cc
  input_written walked (o ∷ os) from to sane fit all leads short few (place, answered, (rises, (keeps, calls))) ends = by (created_file o) refl ends calls
    where
      by : (r : Result (List ℕ) ClientEnd) → created_file o ≡ r → written_after uid gid dir name input (with_handle r) os ≡ Returns (Ok tt)
          → AnsweredInOrder s J (KeepPath s J root_handle names) (written_after uid gid dir name input (with_handle r)) os (place_after s J (create_call uid gid dir name) o place answered) to
          → HoldsFile s J names input to
      by (Err end) is bad next_calls = absurd (ended uid gid dir name input end os bad)
      by (Ok file) is good next_calls =
          let made = created_at s J uid gid ids dir name o place sane (fit place) short few answered file is in
          let before : handle_along (tree_at s J place) root_handle walked ≡ Some dir = (kept s J root_handle names from place rises keeps).leads walked (name ∷ []) all ∙ leads in
          let u : Tree = tree_at s J (suc place) in
          let above : handle_along u root_handle walked ≡ Some dir = along_grows (tree_at s J place) u made.0.grows root_handle walked dir before in
          let there : handle_along u root_handle names ≡ Some (handle_of made.0.number) =
          ap (λ (l : List (List ℕ)). handle_along u root_handle l) (sym all) ∙ along_name u root_handle walked name dir (handle_of made.0.number) above made.0.leads in
          let long = length_handle made.0.number in
          pieces_written file 0 os (place_after s J (create_call uid gid dir name) o place answered) to (omega (arith, long, ap length made.1.0))
          (subst (λ (k : ℕ). HasWritten file 0 k) (sym made.1.1)
          (record {
            leads = there ∙ ap (λ (h : List ℕ). Some h) (sym made.1.0);
            holds = ap (λ (h : List ℕ). content_at u h) made.1.0 ∙ made.0.empty;
            within = omega arith;
          }))
          next_calls good
