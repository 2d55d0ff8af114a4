-- A file that `put` wrote is read by `get`: the calls of both, each answered at its place in one journal, and what is read.
use Rattle.std.specs.Prelude.{◌≡◌, ⊤, ℕ, ◌+◌, ◌≤◌, List, [], ◌∷◌, ◌++◌, length, drop, nat_le, Option, None, Some, Ok}
use Rattle.nr_outside.specs.declared.moment.Moment.{Moment}
use Rattle.nr_rpc.specs.Reading.{call_of}
use Rattle.nr_rpc.specs.declared.cred.Cred.{Cred}
use Rattle.nr_rpc.specs.declared.head.CallHead.TheVariants as heads
use Rattle.nr_nfs_base.specs.Codec.{read_all}
use Rattle.nr_nfs_base.specs.Procedures.{nfs_procedure_number, nfs_program, nfs_version}
use Rattle.nr_nfs_base.specs.declared.attributes.Attributes.{Attributes}
use Rattle.nr_nfs_base.specs.declared.caller.Caller.{Caller}
use Rattle.nr_nfs_base.specs.declared.procedure.NfsProcedure.TheVariants as nfs
use Rattle.nr_nfs_base.specs.declared.status.Status.{Status}
use Rattle.nr_nfs_base.specs.declared.status_union.StatusUnion.{StatusUnion}
use Rattle.nr_nfs_base.specs.declared.status_union.StatusUnion.TheVariants.{Done}
use Rattle.nr_nfs_args.specs.Bytes.{read_args_codec}
use Rattle.nr_nfs_args.specs.declared.bytes.ReadArgs.{ReadArgs}
use Rattle.nr_nfs_res.specs.Results.{read_res_codec}
use Rattle.nr_nfs_res.specs.declared.bytes.ReadOk.{ReadOk}
use Rattle.nr_reduce.specs.declared.call.Call.{Call}
use Rattle.nr_reduce.specs.declared.call.Outcome.{Outcome}
use Rattle.nr_reduce.specs.declared.mark.Entry.{Entry}
use Rattle.nr_tree.specs.Rules.{handle_of}
use Rattle.nr_tree.specs.Sane.{IsSane}
use Rattle.nr_tree.specs.Tree.{Tree}
use Rattle.nr_tree.specs.declared.node.Content.TheVariants.{Regular}
use Rattle.nr_ops_file.specs.Bytes.{piece_read, read_reply}
use Rattle.nr_plain.specs.Journal.{tree_at}
use Rattle.nr_plain.specs.Replies.{cred_refusal, plain_reply, results_reply}
use Rattle.nr_plain.specs.Setup.{Setup, caller_of}
use Rattle.nr_client.specs.Following.{Next, asking}
use Rattle.nr_client.specs.Following.Next.{Calls, Returns}
use Rattle.nr_client.specs.Paths.{path_names}
use Rattle.nr_client.specs.Reading.{bytes_read, reading}
use Rattle.nr_client.specs.Requests.{mnt_call, mnt_result}
use Rattle.nr_client.specs.Walking.{parent_next, walk_next}
use Rattle.nr_client.specs.Writing.{writing}
use Rattle.nr_reply_laws.specs.Replies.{AreIds}
use Rattle.nr_pair_laws.specs.Pairs.{IsAnsweredAt, place_after}
use Rattle.nr_pair_laws.specs.FilesAt.{KeepPath, NumbersFit, content_at, handle_along}

-- ===== calls that are answered at places of one journal

-- what holds of the call that a request makes next; a request that has its result makes none
abbrev pub OnCall : {A : Type 0} → Next A → (Call → Type 0) → Type 0
OnCall (Calls call) P = P call
OnCall (Returns result) P = ⊥

-- The first calls of a request were answered with these outcomes, one after another, from a place on up to another. Of the entries between two calls
-- the others say what holds.
abbrev pub AnsweredInOrder : {A : Type 0} → Setup → List Entry → (Others : ℕ → ℕ → Type 0) → (request : List Outcome → Next A) → List Outcome → (from to : ℕ) → Type 0
AnsweredInOrder s J Others request [] from to = to ≡ from
AnsweredInOrder s J Others request (o ∷ later) from to =
    OnCall (request [])
    (λ call. (place : ℕ) × (answered : IsAnsweredAt s J call o place) × ((from ≤ place) × (Others from place
    × AnsweredInOrder s J Others (λ more. request (o ∷ more)) later (place_after s J call o place answered) to)))

-- The first calls of a request were answered with these outcomes, each at a place that isn't before this one. Of the entries before the place the
-- others say what holds.
abbrev pub AnsweredSince : {A : Type 0} → Setup → List Entry → (Others : ℕ → ℕ → Type 0) → (request : List Outcome → Next A) → List Outcome → (from : ℕ) → Type 0
AnsweredSince s J Others request [] from = ⊤
AnsweredSince s J Others request (o ∷ later) from =
    OnCall (request [])
    (λ call. (place : ℕ) × (answered : IsAnsweredAt s J call o place) × ((from ≤ place) × (Others from place
    × AnsweredSince s J Others (λ more. request (o ∷ more)) later from)))

-- ===== put

-- MNT as a request
abbrev pub mounting : (uid gid : ℕ) → (export : List ℕ) → List Outcome → Next (List ℕ)
mounting uid gid export = asking (mnt_call uid gid export) mnt_result (λ root later. Returns (Ok root))

-- the handle of the root, which is what is exported
abbrev pub root_handle : List ℕ
root_handle = handle_of 1

-- A `put` of an input to a path ended with status 0. Its calls, MNT, a LOOKUP for each component but the last, CREATE and WRITEs, were answered at
-- places from one place of the journal up to another, and no entry between its own changes what the path leads to.
pub record PutsFile (s : Setup) (J : List Entry) (uid gid : ℕ) (export path : List ℕ) (names : List (List ℕ)) (input : List ℕ) (from to : ℕ) : Type 0 where
  pub names_are : path_names path ≡ Ok names
  pub root : List ℕ
  pub mounted : Outcome
  pub mounted_at : ℕ
  pub mounts : AnsweredInOrder s J (KeepPath s J root_handle names) (mounting uid gid export) (mounted ∷ []) from mounted_at
  pub root_is : mnt_result mounted ≡ Ok root
  pub dir : List ℕ
  pub name : List ℕ
  pub found : List Outcome
  pub found_at : ℕ
  pub finds : AnsweredInOrder s J (KeepPath s J root_handle names) (parent_next uid gid root path) found mounted_at found_at
  pub place_is : parent_next uid gid root path found ≡ Returns (Ok (dir, name))
  pub written : List Outcome
  pub writes : AnsweredInOrder s J (KeepPath s J root_handle names) (writing uid gid dir name input) written found_at to
  pub done : writing uid gid dir name input written ≡ Returns (Ok tt)

-- the path leads to a regular file with these bytes, in the tree at this place
pub record HoldsFile (s : Setup) (J : List Entry) (names : List (List ℕ)) (bytes : List ℕ) (place : ℕ) : Type 0 where
  pub file : List ℕ
  pub leads : handle_along (tree_at s J place) root_handle names ≡ Some file
  pub holds : content_at (tree_at s J place) file ≡ Some (Regular bytes)

-- Then the path leads to a file with the bytes of the input.
abbrev pub PutsLeaveTheFile : Type 0
PutsLeaveTheFile =
    (s : Setup) (J : List Entry) (uid gid : ℕ) (export path : List ℕ) (names : List (List ℕ)) (input : List ℕ) (from to : ℕ) → IsSane s.tree → NumbersFit s J → AreIds uid gid
    → PutsFile s J uid gid export path names input from to → HoldsFile s J names input to

-- Entries that don't change what the path leads to keep the file.
abbrev pub OtherEntriesKeepTheFile : Type 0
OtherEntriesKeepTheFile =
    (s : Setup) (J : List Entry) (names : List (List ℕ)) (bytes : List ℕ) (from to : ℕ) → from ≤ to → KeepPath s J root_handle names from to
    → HoldsFile s J names bytes from → HoldsFile s J names bytes to

-- ===== get

-- A `get` of a path read the file to its end. Its calls, MNT, LOOKUPs, GETATTR and READs, which may be outstanding at the same time, were answered
-- at places that aren't before this one, and no entry up to any of them changes what the path leads to. The outcomes of the READs are in order of
-- offset: READs of several jobs, and those that one job has outstanding, may be executed in any order.
pub record GetsFile (s : Setup) (J : List Entry) (uid gid : ℕ) (export path : List ℕ) (names : List (List ℕ)) (from : ℕ) (outcomes : List Outcome) : Type 0 where
  pub names_are : path_names path ≡ Ok names
  pub root : List ℕ
  pub mounted : Outcome
  pub mounts : AnsweredSince s J (KeepPath s J root_handle names) (mounting uid gid export) (mounted ∷ []) from
  pub root_is : mnt_result mounted ≡ Ok root
  pub file : List ℕ
  pub found : List Outcome
  pub finds : AnsweredSince s J (KeepPath s J root_handle names) (walk_next uid gid root path) found from
  pub file_is : walk_next uid gid root path found ≡ Returns (Ok file)
  pub reads : AnsweredSince s J (KeepPath s J root_handle names) (reading uid gid file) outcomes from
  pub done : reading uid gid file outcomes ≡ Returns (Ok tt)

-- Then what it read is the bytes of the file: these are what the output of a `get` takes.
abbrev pub GetsGiveTheFile : Type 0
GetsGiveTheFile =
    (s : Setup) (J : List Entry) (uid gid : ℕ) (export path : List ℕ) (names : List (List ℕ)) (bytes : List ℕ) (from : ℕ) (outcomes : List Outcome) → IsSane s.tree → AreIds uid gid
    → HoldsFile s J names bytes from → GetsFile s J uid gid export path names from outcomes → bytes_read outcomes ≡ bytes

-- ===== any READ of the file

-- A call is a READ of NFS version 3 with these arguments, under an accepted credential: whoever made it, over whichever link (RFC 5531 section 9, RFC
-- 1813 section 3.3.6).
pub record IsReadCall (payload : List ℕ) (xid : ℕ) (a : ReadArgs) : Type 0 where
  pub cred : Cred
  pub args_at : ℕ
  pub head : call_of payload ≡ Ok (heads.Version2 xid nfs_program nfs_version (nfs_procedure_number nfs.Read) cred args_at)
  pub accepted : cred_refusal cred ≡ None
  pub args : read_all read_args_codec (drop args_at payload) ≡ Ok a

-- These are the results in the reply: what READ answers to this caller over this tree (RFC 1813 section 3.3.6), whatever its status. If their status is 0,
-- the data are the bytes asked for, as many as one READ moves and the file has, and eof says whether they reach the end of the file.
pub record ReadsOf (t : Tree) (c : Caller) (bytes : List ℕ) (xid : ℕ) (a : ReadArgs) (reply : List ℕ) : Type 0 where
  pub results : StatusUnion ReadOk (Option Attributes) Status
  pub is : reply ≡ results_reply xid read_res_codec results
  pub results_are : results ≡ read_reply t c a
  pub given : (ok : ReadOk) → results ≡ Done ok → (ok.bytes ≡ piece_read bytes a.offset a.count) × (ok.eof ≡ nat_le (length bytes) (a.offset + length ok.bytes))

-- Each READ of the file reads its bytes, also one that came over a record-marked connection.
abbrev pub ReadsGiveTheFile : Type 0
ReadsGiveTheFile =
    (s : Setup) (J : List Entry) (names : List (List ℕ)) (bytes : List ℕ) (from place : ℕ) (h : HoldsFile s J names bytes from) → from ≤ place → KeepPath s J root_handle names from place →
    (m : Moment) (payload reply : List ℕ) (xid : ℕ) (a : ReadArgs) (call : IsReadCall payload xid a) → a.file ≡ h.file → plain_reply s J place m payload ≡ Some reply →
    ReadsOf (tree_at s J place) (caller_of call.cred) bytes xid a reply

-- So a `get` after a `put` of the same path gives the input, whoever makes either.
abbrev pub GetsGiveWhatWasPut : Type 0
GetsGiveWhatWasPut =
    (s : Setup) (J : List Entry) (uid gid other_uid other_gid : ℕ) (export other_export path other_path : List ℕ) (names : List (List ℕ)) (input : List ℕ) (from to : ℕ) (outcomes : List Outcome)
    → IsSane s.tree → NumbersFit s J → AreIds uid gid → AreIds other_uid other_gid
    → PutsFile s J uid gid export path names input from to → GetsFile s J other_uid other_gid other_export other_path names to outcomes → bytes_read outcomes ≡ input

-- A file to which a path leads at a place of a journal is there in each journal that goes on from it.
abbrev pub FilesInLongerJournals : Type 0
FilesInLongerJournals =
    (s : Setup) (J more : List Entry) (names : List (List ℕ)) (bytes : List ℕ) (place : ℕ) → place ≤ length J → HoldsFile s J names bytes place → HoldsFile s (J ++ more) names bytes place
