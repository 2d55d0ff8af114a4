-- What a client reads of the plain server's replies to its calls: results that it can go on with, or a refusal.
use Rattle.std.specs.Prelude.{◌≡◌, ⊤, ℕ, ◌<◌, ◌≤◌, ◌^◌, List, length, Some, Result, Ok, Err, false}
use Rattle.nr_nfs_base.specs.Limits.{handle_max, transfer_max}
use Rattle.nr_nfs_base.specs.declared.verifier.Verifier.{Verifier}
use Rattle.nr_nfs_res.specs.Readdir.{ReaddirOk}
use Rattle.nr_outside.specs.declared.moment.Moment.{Moment}
use Rattle.nr_reduce.specs.declared.call.Call.{Call}
use Rattle.nr_reduce.specs.declared.call.Outcome.{Outcome}
use Rattle.nr_reduce.specs.declared.call.Outcome.TheVariants as outcomes
use Rattle.nr_reduce.specs.declared.mark.Entry.{Entry}
use Rattle.nr_reduce.specs.ClientState.{call_payload}
use Rattle.nr_tree.specs.Sane.{IsSane}
use Rattle.nr_plain.specs.Setup.{Setup}
use Rattle.nr_plain.specs.Replies.{plain_reply}
use Rattle.nr_client.specs.declared.client_end.ClientEnd.{ClientEnd}
use Rattle.nr_client.specs.declared.client_end.ClientEnd.TheVariants as client
use Rattle.nr_client.specs.Listing.{is_stuck, readdir_call, readdir_result}
use Rattle.nr_client.specs.Reading.{read_call, read_result}
use Rattle.nr_client.specs.Requests.{create_result, getattr_call, getattr_result, lookup_call, mkdir_call, mnt_call, mnt_result, readlink_call, readlink_result, remove_call, remove_result, symlink_call}
use Rattle.nr_client.specs.Walking.{object_result}
use Rattle.nr_client.specs.Writing.{create_call, created_file, write_call, write_result}

-- The outcome of a call is the plain server's reply to it, under some xid and at some place of a journal.
pub record IsPlainReplyTo (s : Setup) (call : Call) (o : Outcome) : Type 0 where
  pub xid : ℕ
  pub fits : xid < 2 ^ 32
  pub journal : List Entry
  pub place : ℕ
  pub moment : Moment
  pub reply : List ℕ
  pub is : o ≡ outcomes.Reply reply
  pub replied : plain_reply s journal place moment (call_payload xid call) ≡ Some reply

-- the server refused the call, or its procedure failed
abbrev pub IsRefusal : ClientEnd → Type 0
IsRefusal (client.Rpc kind code) = ⊤
IsRefusal (client.Mount status) = ⊤
IsRefusal (client.Nfs status) = ⊤
IsRefusal end = ⊥

-- a result is a value with this property, or a refusal
abbrev pub HasResults : {A : Type 0} → (A → Type 0) → Result A ClientEnd → Type 0
HasResults P (Ok value) = P value
HasResults P (Err end) = IsRefusal end

abbrev pub AnyValue : {A : Type 0} → A → Type 0
AnyValue value = ⊤

-- the length that a file handle may have
abbrev pub IsHandle : List ℕ → Type 0
IsHandle handle = length handle ≤ handle_max

-- results that list something, or say that the directory ends
abbrev pub ListsOn : ReaddirOk → Type 0
ListsOn listing = is_stuck listing ≡ false

-- the numbers of the user and of its group are words
pub record AreIds (uid gid : ℕ) : Type 0 where
  pub uid_fits : uid < 2 ^ 32
  pub gid_fits : gid < 2 ^ 32

-- Each call of a command, by its outcome.
abbrev pub MountRepliesAreRead : Type 0
MountRepliesAreRead = (s : Setup) (uid gid : ℕ) (export : List ℕ) (o : Outcome) → AreIds uid gid → IsPlainReplyTo s (mnt_call uid gid export) o → HasResults IsHandle (mnt_result o)

abbrev pub LookupRepliesAreRead : Type 0
LookupRepliesAreRead = (s : Setup) (uid gid : ℕ) (dir name : List ℕ) (o : Outcome) → AreIds uid gid → IsPlainReplyTo s (lookup_call uid gid dir name) o → HasResults IsHandle (object_result o)

abbrev pub GetattrRepliesAreRead : Type 0
GetattrRepliesAreRead = (s : Setup) (uid gid : ℕ) (file : List ℕ) (o : Outcome) → AreIds uid gid → IsPlainReplyTo s (getattr_call uid gid file) o → HasResults AnyValue (getattr_result o)

abbrev pub ReadlinkRepliesAreRead : Type 0
ReadlinkRepliesAreRead =
    (s : Setup) (uid gid : ℕ) (file : List ℕ) (o : Outcome) → IsSane s.tree → AreIds uid gid → IsPlainReplyTo s (readlink_call uid gid file) o → HasResults AnyValue (readlink_result o)

abbrev pub MkdirRepliesAreRead : Type 0
MkdirRepliesAreRead = (s : Setup) (uid gid : ℕ) (dir name : List ℕ) (o : Outcome) → AreIds uid gid → IsPlainReplyTo s (mkdir_call uid gid dir name) o → HasResults AnyValue (create_result o)

abbrev pub SymlinkRepliesAreRead : Type 0
SymlinkRepliesAreRead = (s : Setup) (uid gid : ℕ) (dir name path : List ℕ) (o : Outcome) → AreIds uid gid → IsPlainReplyTo s (symlink_call uid gid dir name path) o → HasResults AnyValue (create_result o)

abbrev pub RemoveRepliesAreRead : Type 0
RemoveRepliesAreRead = (s : Setup) (uid gid : ℕ) (dir name : List ℕ) (o : Outcome) → AreIds uid gid → IsPlainReplyTo s (remove_call uid gid dir name) o → HasResults AnyValue (remove_result o)

abbrev pub ReaddirRepliesAreRead : Type 0
ReaddirRepliesAreRead =
    (s : Setup) (uid gid : ℕ) (dir : List ℕ) (cookie : ℕ) (verifier : Verifier) (o : Outcome) → IsSane s.tree → AreIds uid gid → IsPlainReplyTo s (readdir_call uid gid dir cookie verifier) o
    → HasResults ListsOn (readdir_result o)

abbrev pub CreateRepliesAreRead : Type 0
CreateRepliesAreRead = (s : Setup) (uid gid : ℕ) (dir name : List ℕ) (o : Outcome) → IsSane s.tree → AreIds uid gid → IsPlainReplyTo s (create_call uid gid dir name) o → HasResults IsHandle (created_file o)

abbrev pub ReadRepliesAreRead : Type 0
ReadRepliesAreRead =
    (s : Setup) (uid gid : ℕ) (file : List ℕ) (offset count : ℕ) (o : Outcome) → IsHandle file → 0 < count → count ≤ transfer_max → AreIds uid gid → IsPlainReplyTo s (read_call uid gid file offset count) o
    → HasResults AnyValue (read_result count o)

abbrev pub WriteRepliesAreRead : Type 0
WriteRepliesAreRead =
    (s : Setup) (uid gid : ℕ) (file : List ℕ) (offset : ℕ) (bytes : List ℕ) (o : Outcome) → IsHandle file → 0 < length bytes → length bytes ≤ transfer_max → AreIds uid gid
    → IsPlainReplyTo s (write_call uid gid file offset bytes) o → HasResults AnyValue (write_result (length bytes) o)
