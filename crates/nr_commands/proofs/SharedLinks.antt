-- A link that jobs shared.
use Rattle.std.proofs.Common.{◌≡◌, ℕ, List, Result, subst}
use Rattle.nr_outside.specs.Streams.{SinkAt}
use Rattle.nr_client.specs.declared.client_end.ClientEnd.{ClientEnd}
use Rattle.nr_client.specs.Dialing.{DialerAt}
use Rattle.nr_commands.specs.ByJobs.{ReadsAndHangsUp}
use Rattle.nr_commands.specs.Sessions.{SessionAt}

-- by a user and a group that a session kept
pub reads_as : (uid gid uid' gid' : ℕ) (file : List ℕ) (number : ℕ) (s : SessionAt) (before after : DialerAt) (out out' : SinkAt) (result : Result (Unit {0}) ClientEnd)
    → uid' ≡ uid → gid' ≡ gid → ReadsAndHangsUp uid' gid' file number s before after out out' result → ReadsAndHangsUp uid gid file number s before after out out' result
reads_as uid gid uid' gid' file number s before after out out' result same_uid same_gid reads =
    subst (λ (n : ℕ). ReadsAndHangsUp n gid file number s before after out out' result) same_uid (subst (λ (n : ℕ). ReadsAndHangsUp uid' n file number s before after out out' result) same_gid reads)
