-- The marks of a client and those of a server in one order, in which each side receives only what the other has sent.
use Rattle.std.specs.Prelude.{◌≡◌, ℕ, ◌<◌, ◌⊎◌, true, List, [], ◌∷◌, ◌++◌, length}
use Rattle.std.specs.List.{AllByRecursion}
use Rattle.nr_wire.specs.declared.hello.Side.TheVariants.{Initiator, Responder}
use Rattle.nr_reduce.specs.declared.mark.Mark.{Mark}
use Rattle.nr_reduce.specs.declared.mark.Mark.TheVariants as marks
use Rattle.nr_reduce.specs.AtEachMark.{AtEachMark}
use Rattle.nr_reduce.specs.History.{bytes_received, bytes_sent}
use Rattle.nr_reduce.specs.Matched.{IsPrefixOf}
use Rattle.nr_host.specs.Connections as connections
use Rattle.nr_service_laws.specs.ClientMarks as commands
use Rattle.nr_service_laws.specs.ServedCommands.{is_client_mark}
use Rattle.nr_pair_laws.specs.JobRuns.{IsJobMark}
use Rattle.nr_pair_laws.specs.Pairs.{AreSidesOf}

-- Each side waits for the other. What they did before stands in one list (`both`). The next mark of the client receives
-- bytes of which the server has not sent the last by then, and the next mark of the server receives bytes of which the
-- client has not sent the last.
pub record BothWait (link : ℕ) (client_run server_run : List Mark) : Type 0 where
  pub client_done : List Mark
  pub client_bytes : List ℕ
  pub client_left : List Mark
  pub client_parts : client_done ++ marks.Fed link Initiator client_bytes ∷ client_left ≡ client_run
  pub server_done : List Mark
  pub server_bytes : List ℕ
  pub server_left : List Mark
  pub server_parts : server_done ++ marks.Fed link Responder server_bytes ∷ server_left ≡ server_run
  pub both : List Mark
  pub sides : AreSidesOf link client_done server_done both
  pub client_waits : length (bytes_sent link Responder server_done) < length (bytes_received link Initiator client_done ++ client_bytes)
  pub server_waits : length (bytes_sent link Initiator client_done) < length (bytes_received link Responder server_done ++ server_bytes)

-- Of a client's run and a server's run, each of which received a beginning of what the other sent, either there is a list
-- with both as its sides, or each waits for the other, and not both. The client's marks are any of its link.
abbrev pub SidesAreInterleaved : Type 0
SidesAreInterleaved =
    (link : ℕ) (client_run server_run : List Mark) → AllByRecursion (λ mark. is_client_mark link mark ≡ true) client_run →
    AtEachMark (λ earlier mark. connections.IsOwn link mark) [] server_run →
    IsPrefixOf (bytes_received link Initiator client_run) (bytes_sent link Responder server_run) →
    IsPrefixOf (bytes_received link Responder server_run) (bytes_sent link Initiator client_run) →
    (((both : List Mark) × AreSidesOf link client_run server_run both) ⊎ BothWait link client_run server_run)
    × ((both : List Mark) → AreSidesOf link client_run server_run both → BothWait link client_run server_run → ⊥)

-- The own marks of a command (`IsCommandRun`), and those of a `get` by jobs (`IsJobsRun`), are such marks.
abbrev pub CommandsMakeClientMarks : Type 0
CommandsMakeClientMarks = (link : ℕ) (run : List Mark) → AllByRecursion (commands.IsOwn link) run → AllByRecursion (λ mark. is_client_mark link mark ≡ true) run

abbrev pub JobsMakeClientMarks : Type 0
JobsMakeClientMarks = (link : ℕ) (run : List Mark) → AllByRecursion (IsJobMark link) run → AllByRecursion (λ mark. is_client_mark link mark ≡ true) run
