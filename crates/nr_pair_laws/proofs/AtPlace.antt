-- What the plain server replies to a call of a client at a place of a journal, and the tree after it.
use Rattle.std.proofs.Common.{◌≡◌, ℕ, zero, suc, ◌<◌, ◌^◌, List, [], ◌∷◌, length, take, drop, Option, Some, Result, Ok, refl, sym, ap, ◌∙◌, arith}
use Rattle.std.proofs.lemmas.List.{drop_at, take_all}
use Rattle.std.proofs.lemmas.Option.{same_Some}
use Rattle.nr_rpc.specs.Call.{call_head}
use Rattle.nr_rpc.specs.declared.cred.Cred.TheVariants as creds
use Rattle.nr_rpc.specs.declared.head.CallHead.{CallHead}
use Rattle.nr_rpc.specs.declared.head.CallHead.TheVariants as heads
use Rattle.nr_rpc.specs.Reading.{call_of}
use Rattle.nr_rpc.proofs.Calls.{call_written}
use Rattle.nr_rpc.proofs.FittingCredentials.{sys_fit}
use Rattle.nr_nfs_base.specs.Codec.{read_all}
use Rattle.nr_nfs_base.specs.Procedures.{each_nfs_procedure, nfs_procedure_number, nfs_program, nfs_version}
use Rattle.nr_nfs_base.specs.declared.procedure.NfsProcedure.{NfsProcedure}
use Rattle.nr_nfs_base.specs.declared.procedure.NfsProcedure.TheVariants as nfs
use Rattle.nr_nfs_args.specs.Arguments.{NfsArguments, nfs_arguments_codec}
use Rattle.nr_nfs_res.specs.Results.{NfsResults}
use Rattle.nr_outside.specs.declared.moment.Moment.{Moment}
use Rattle.nr_reduce.specs.declared.call.Call.{Call}
use Rattle.nr_reduce.specs.declared.mark.Entry.{Entry}
use Rattle.nr_reduce.specs.ClientState.{call_payload}
use Rattle.nr_tree.specs.Tree.{Tree}
use Rattle.nr_plain.specs.Added.{entries_of_call}
use Rattle.nr_plain.specs.Journal.{next_state, state_after, state_of, tree_at, tree_by_arguments, tree_by_procedure}
use Rattle.nr_plain.specs.Programs.{nfs_results, nfs_tree}
use Rattle.nr_plain.specs.Replies.{answer_by, nfs_answer, nfs_by_arguments, nfs_by_procedure, nfs_call, plain_answer, plain_reply}
use Rattle.nr_plain.specs.Setup.{Setup, State, caller_of, space_of, time_of}
use Rattle.nr_plain.proofs.Added.{answer_of_reply}
use Rattle.nr_client.specs.Requests.{client_call, machine}
use Rattle.nr_reply_laws.specs.Replies.{AreIds}

-- the state at a place, taken of the entries before it
state_before : (s : Setup) (J : List Entry) (place : ℕ) → state_of s (take (length (take place J)) (take place J)) ≡ state_of s (take place J)
state_before s J place = ap (λ (l : List Entry). state_of s l) (take_all (length (take place J)) (take place J) (omega arith))

-- ---- The journal

later : (s : Setup) (st : State) (J : List Entry) (place : ℕ) (e : Entry) → take 1 (drop place J) ≡ e ∷ [] → state_after s.parameters st (take (suc place) J) ≡ next_state s.parameters (state_after s.parameters st (take place J)) e
later s st [] zero e is = absurd cc
later s st [] (suc place) e is = absurd cc
later s st (x ∷ J) zero e is = let same : x ≡ e = cc in ap (λ (y : Entry). next_state s.parameters st y) same
later s st (x ∷ J) (suc place) e is = later s (next_state s.parameters st x) J place e is

-- the tree after the entry at a place
pub tree_after : (s : Setup) (J : List Entry) (place : ℕ) (e : Entry) → take 1 (drop place J) ≡ e ∷ [] → tree_at s J (suc place) ≡ (next_state s.parameters (state_of s (take place J)) e).tree
tree_after s J place e is = ap (λ (st : State). st.tree) (later s (record { tree = s.tree; cost = 0 }) J place e is)

-- ---- A call of a client

-- the entry of a call of NFS
abbrev pub entry_by : (uid gid : ℕ) → Moment → NfsProcedure → List ℕ → Entry
entry_by uid gid m p args = record { moment = m; cred = creds.Sys 0 machine uid gid []; proc = nfs_procedure_number p; args = args }

abbrev pub nfs_client_call : (uid gid : ℕ) → NfsProcedure → List ℕ → Call
nfs_client_call uid gid p args = client_call nfs_program nfs_version (nfs_procedure_number p) uid gid args

-- the results of a call of NFS at a place, and the tree that it makes
abbrev pub results_at : Setup → (uid gid : ℕ) → (p : NfsProcedure) → List ℕ → NfsArguments p → List Entry → (place : ℕ) → Moment → NfsResults p
results_at s uid gid p args a J place m =
    nfs_results (tree_at s J place) (caller_of (creds.Sys 0 machine uid gid [])) (space_of s.parameters (state_of s (take place J)) args) (time_of m) p a

abbrev pub tree_by : Setup → (uid gid : ℕ) → (p : NfsProcedure) → List ℕ → NfsArguments p → List Entry → (place : ℕ) → Moment → Tree
tree_by s uid gid p args a J place m =
    nfs_tree (tree_at s J place) (caller_of (creds.Sys 0 machine uid gid [])) (space_of s.parameters (state_of s (take place J)) args) (time_of m) p a

-- the tree after the entry of a call of NFS whose arguments are read as these
pub tree_after_call : (s : Setup) (uid gid : ℕ) (p : NfsProcedure) (args : List ℕ) (a : NfsArguments p) (J : List Entry) (place : ℕ) (m : Moment) → read_all (nfs_arguments_codec p) args ≡ Ok a
    → take 1 (drop place J) ≡ entry_by uid gid m p args ∷ [] → tree_at s J (suc place) ≡ tree_by s uid gid p args a J place m
unfolding next_state
tree_after_call s uid gid p args a J place m read is =
    let st : State = state_of s (take place J) in
    let e : Entry = entry_by uid gid m p args in
    tree_after s J place e is
    ∙ ap (λ (o : Option NfsProcedure). tree_by_procedure s.parameters st e o) (each_nfs_procedure p)
    ∙ ap (λ (r : Result (NfsArguments p) ℕ). tree_by_arguments s.parameters st e p r) read

procedure_fits : (p : NfsProcedure) → nfs_procedure_number p < 2 ^ 32
procedure_fits nfs.Null = omega arith
procedure_fits nfs.Getattr = omega arith
procedure_fits nfs.Setattr = omega arith
procedure_fits nfs.Lookup = omega arith
procedure_fits nfs.Access = omega arith
procedure_fits nfs.Readlink = omega arith
procedure_fits nfs.Read = omega arith
procedure_fits nfs.Write = omega arith
procedure_fits nfs.Create = omega arith
procedure_fits nfs.Mkdir = omega arith
procedure_fits nfs.Symlink = omega arith
procedure_fits nfs.Mknod = omega arith
procedure_fits nfs.Remove = omega arith
procedure_fits nfs.Rmdir = omega arith
procedure_fits nfs.Rename = omega arith
procedure_fits nfs.Link = omega arith
procedure_fits nfs.Readdir = omega arith
procedure_fits nfs.Readdirplus = omega arith
procedure_fits nfs.Fsstat = omega arith
procedure_fits nfs.Fsinfo = omega arith
procedure_fits nfs.Pathconf = omega arith
procedure_fits nfs.Commit = omega arith

module _ (s : Setup) (uid gid xid : ℕ) (ids : AreIds uid gid) (xid_fits : xid < 2 ^ 32) where
  head_len : NfsProcedure → ℕ
  head_len p = length (call_head (heads.Version2 xid nfs_program nfs_version (nfs_procedure_number p) (creds.Sys 0 machine uid gid []) 0))

  head_read : (p : NfsProcedure) (args : List ℕ)
      → call_of (call_payload xid (nfs_client_call uid gid p args)) ≡ Ok (heads.Version2 xid nfs_program nfs_version (nfs_procedure_number p) (creds.Sys 0 machine uid gid []) (head_len p))
  unfolding call_payload head_len
  head_read p args =
      let head : CallHead = heads.Version2 xid nfs_program nfs_version (nfs_procedure_number p) (creds.Sys 0 machine uid gid []) 0 in
      let fits = sys_fit 0 machine uid gid [] (omega arith) (omega arith) ids.uid_fits ids.gid_fits (omega arith) (λ i. omega arith) in
      call_written head args (omega arith, omega arith) (xid_fits, omega arith, omega arith, procedure_fits p, fits)

  args_read : (p : NfsProcedure) (args : List ℕ) → drop (head_len p) (call_payload xid (nfs_client_call uid gid p args)) ≡ args
  unfolding call_payload head_len
  args_read p args = drop_at (call_head (heads.Version2 xid nfs_program nfs_version (nfs_procedure_number p) (creds.Sys 0 machine uid gid []) 0)) args (head_len p) refl

  -- the plain server's answer to a call of NFS over a state
  answer_is : (p : NfsProcedure) (args : List ℕ) (st : State) (m : Moment)
      → plain_answer s.parameters st m (call_payload xid (nfs_client_call uid gid p args)) ≡ Some (nfs_by_arguments s.parameters st xid (entry_by uid gid m p args) p (read_all (nfs_arguments_codec p) args))
  unfolding nfs_call
  answer_is p args st m =
      let payload = call_payload xid (nfs_client_call uid gid p args) in
      ap (λ (r : Result CallHead ℕ). answer_by s.parameters st m payload r) (head_read p args)
      ∙ ap (λ (o : Option NfsProcedure). Some (nfs_by_procedure s.parameters st xid (entry_by uid gid m p (drop (head_len p) payload)) o)) (each_nfs_procedure p)
      ∙ ap (λ (l : List ℕ). Some (nfs_by_arguments s.parameters st xid (entry_by uid gid m p l) p (read_all (nfs_arguments_codec p) l))) (args_read p args)

  -- A call of NFS whose arguments are read as these, at a place: its reply has the results over the tree there, and it adds its entry if it is a change.
  pub answered_at : (p : NfsProcedure) (args : List ℕ) (a : NfsArguments p) (J : List Entry) (place : ℕ) (m : Moment) (reply : List ℕ) → read_all (nfs_arguments_codec p) args ≡ Ok a
      → plain_reply s (take place J) (length (take place J)) m (call_payload xid (nfs_client_call uid gid p args)) ≡ Some reply
      → record { reply = reply; entries = entries_of_call m (call_payload xid (nfs_client_call uid gid p args)) reply }
      ≡ nfs_answer xid (entry_by uid gid m p args) p (results_at s uid gid p args a J place m)
  answered_at p args a J place m reply read e =
      let payload = call_payload xid (nfs_client_call uid gid p args) in
      let st : State = state_of s (take place J) in
      let both : Some (record { reply = reply; entries = entries_of_call m payload reply }) ≡ Some (nfs_by_arguments s.parameters st xid (entry_by uid gid m p args) p (Ok a)) =
      sym (answer_of_reply s (take place J) (length (take place J)) m payload reply e)
      ∙ ap (λ (k : State). plain_answer s.parameters k m payload) (state_before s J place)
      ∙ answer_is p args st m
      ∙ ap (λ (r : Result (NfsArguments p) ℕ). Some (nfs_by_arguments s.parameters st xid (entry_by uid gid m p args) p r)) read in
      same_Some _ _ both
