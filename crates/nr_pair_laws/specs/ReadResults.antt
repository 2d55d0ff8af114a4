-- What a client reads of the plain server's reply to a call of NFS: what the procedure answers over the tree at the call's place.
use Rattle.std.specs.Prelude.{◌≡◌, ℕ, List, [], take, Ok}
use Rattle.nr_xdr.specs.Items.{AllFit, encodings}
use Rattle.nr_rpc.specs.declared.cred.Cred.TheVariants as creds
use Rattle.nr_nfs_base.specs.Codec.{Codec}
use Rattle.nr_nfs_base.specs.Procedures.{nfs_procedure_number, nfs_program, nfs_version}
use Rattle.nr_nfs_base.specs.declared.procedure.NfsProcedure.{NfsProcedure}
use Rattle.nr_nfs_args.specs.Arguments.{NfsArguments, nfs_arguments_codec}
use Rattle.nr_nfs_res.specs.Results.{NfsResults, nfs_results_codec}
use Rattle.nr_outside.specs.declared.moment.Moment.{Moment}
use Rattle.nr_reduce.specs.declared.call.Call.{Call}
use Rattle.nr_reduce.specs.declared.call.Outcome.{Outcome}
use Rattle.nr_reduce.specs.declared.mark.Entry.{Entry}
use Rattle.nr_plain.specs.Journal.{state_of, tree_at}
use Rattle.nr_plain.specs.Programs.{nfs_results}
use Rattle.nr_plain.specs.Setup.{Setup, caller_of, space_of, time_of}
use Rattle.nr_client.specs.Requests.{client_call, machine}
use Rattle.nr_client.specs.Results.{result_of_outcome}
use Rattle.nr_reply_laws.specs.Replies.{AreIds}
use Rattle.nr_pair_laws.specs.Pairs.{IsAnsweredAt}

-- each number and each length of a value fits its field (RFC 4506)
abbrev pub IsEncodable : {A : Type 0} → Codec A → A → Type 0
IsEncodable codec value = codec.fits value × AllFit (codec.items value)

-- the arguments as a call has them, and the call of a command with them (RFC 1813 section 3.3)
abbrev pub encoded_arguments : (p : NfsProcedure) → NfsArguments p → List ℕ
encoded_arguments p a = encodings ((nfs_arguments_codec p).items a)

abbrev pub procedure_call : (uid gid : ℕ) → (p : NfsProcedure) → NfsArguments p → Call
procedure_call uid gid p a = client_call nfs_program nfs_version (nfs_procedure_number p) uid gid (encoded_arguments p a)

-- what the procedure answers to this user over the tree at a place of a journal, at this moment
abbrev pub results_there : Setup → List Entry → (place : ℕ) → Moment → (uid gid : ℕ) → (p : NfsProcedure) → NfsArguments p → NfsResults p
results_there s J place m uid gid p a =
    nfs_results (tree_at s J place) (caller_of (creds.Sys 0 machine uid gid [])) (space_of s.parameters (state_of s (take place J)) (encoded_arguments p a)) (time_of m) p a

-- The outcome of such a call that was answered at a place of a journal is read as just these results, if they fit their
-- fields: as all parts of a value, or as the status and what comes with it.
abbrev pub ResultsAreRead : Type 0
ResultsAreRead =
    (s : Setup) (J : List Entry) (uid gid : ℕ) (p : NfsProcedure) (a : NfsArguments p) (o : Outcome) (place : ℕ) (answered : IsAnsweredAt s J (procedure_call uid gid p a) o place) →
    AreIds uid gid → IsEncodable (nfs_arguments_codec p) a → IsEncodable (nfs_results_codec p) (results_there s J place answered.moment uid gid p a) →
    result_of_outcome (nfs_results_codec p) o ≡ Ok (results_there s J place answered.moment uid gid p a)
