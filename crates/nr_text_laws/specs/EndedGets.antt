-- Why a `get` ends if its path leads to a regular file: each end, not a status of NFS alone.
use Rattle.std.specs.Prelude.{◌≡◌, ℕ, ◌≤◌, List, [], length, Ok, Err}
use Rattle.nr_outside.specs.Streams.{SinkAt}
use Rattle.nr_nfs_base.specs.declared.status.Status.{Status}
use Rattle.nr_reduce.specs.declared.mark.Entry.{Entry}
use Rattle.nr_tree.specs.Sane.{IsSane}
use Rattle.nr_plain.specs.Setup.{Setup}
use Rattle.nr_client.specs.declared.client_end.ClientEnd.{ClientEnd}
use Rattle.nr_client.specs.declared.client_end.ClientEnd.TheVariants as client
use Rattle.nr_client.specs.Paths.{path_names}
use Rattle.nr_commands.specs.Commands.{Gets}
use Rattle.nr_commands.specs.Sessions.{SessionAt}
use Rattle.nr_service_laws.specs.Exchanges.{Exchange, tells_get}
use Rattle.nr_reply_laws.specs.Replies.{AreIds}
use Rattle.nr_pair_laws.specs.FilesAt.{KeepPath}
use Rattle.nr_pair_laws.specs.Pairs.{AreAnsweredFrom}
use Rattle.nr_pair_laws.specs.PutThenGet.{HoldsFile, root_handle}
use Rattle.nr_pair_laws.specs.RefusedGets.{HasCause}
use Rattle.nr_text_laws.specs.CommandTexts.{IsUnanswered, root_of}

-- A `get` with these calls ended so: a call has no answer, or memory ran out; a write to the output failed; MNT was refused, or not sent, since the path isn't
-- that of the server's export or is too long; or a call was refused with a status of NFS, for a cause in the tree at a place at which the server answers it so.
pub data EndsForACause (s : Setup) (J : List Entry) (from uid gid : ℕ) (export : List ℕ) (made : List Exchange) (names : List (List ℕ)) (file : List ℕ) (end : ClientEnd) : Type 0 where
  Unanswered : IsUnanswered {A = List ℕ} (Err end) → EndsForACause s J from uid gid export made names file end
  OutputFailed : end ≡ client.OutputFault → EndsForACause s J from uid gid export made names file end
  NotMounted : root_of s.parameters.export export ≡ Err end → EndsForACause s J from uid gid export made names file end
  Refused : (status : Status) → end ≡ client.Nfs status → (place : ℕ) → from ≤ place → HasCause s J uid gid made names file status place → EndsForACause s J from uid gid export made names file end

-- Premises as those of `gets_end_for_a_cause` of nr_pair_laws. So a `get` does not end with an RPC refusal, a bad path, or a reply that can't be read. For which
-- cause a call has no answer is not said here.
abbrev pub EndsOfGetsHaveCauses : Type 0
EndsOfGetsHaveCauses =
    (s : Setup) (J : List Entry) (uid gid : ℕ) (export path : List ℕ) (names : List (List ℕ)) (bytes : List ℕ) (out out' : SinkAt) (before after : SessionAt) (end : ClientEnd) (from : ℕ)
    (h : HoldsFile s J names bytes from) (gets : Gets uid gid export path out out' before after (Err end)) → IsSane s.tree → AreIds uid gid → path_names path ≡ Ok names →
    KeepPath s J root_handle names from (length J) → AreAnsweredFrom s J from [] (tells_get uid gid export path out out' before after (Err end) gets).made →
    EndsForACause s J from uid gid export (tells_get uid gid export path out out' before after (Err end) gets).made names h.file end
