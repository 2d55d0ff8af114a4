-- The statuses that a run ends with.
use Rattle.std.specs.Prelude.{◌≡◌, ℕ, ◌⊎◌}

-- the command was done
abbrev pub done : ℕ
done = 0

-- the words are not those of a command
abbrev pub bad_arguments : ℕ
bad_arguments = 1

-- memory ran out
abbrev pub no_memory : ℕ
no_memory = 2

-- the link failed: the fault count of a dialer or of an acceptor rose, or a dialer's count of lost links
abbrev pub link_fault : ℕ
link_fault = 3

-- the server ended its stream before the answer to a call came, or the link of a client with a number was lost once more after all tries
abbrev pub link_closed : ℕ
link_closed = 4

-- the protocol of the link was broken, or a reply had no results
abbrev pub protocol_fault : ℕ
protocol_fault = 5

-- the server refused a call, or to mount an export
abbrev pub refused : ℕ
refused = 6

-- an NFS procedure failed
abbrev pub nfs_failed : ℕ
nfs_failed = 7

-- the server answered ERR_CHUNK or ERR_VERS (RFC 8166 section 4.5)
abbrev pub transport_error : ℕ
transport_error = 8

-- a read or a write failed
abbrev pub fault : ℕ
fault = 9

-- the input is no script, or no configuration, or a path is bad
abbrev pub bad_input : ℕ
bad_input = 10

-- a limit was passed: the input is longer than a script or a configuration may be, or one of a client
abbrev pub over_budget : ℕ
over_budget = 11

-- a drill has no other status
abbrev pub IsStatus : ℕ → Type 0
IsStatus status = (status ≡ done) ⊎ ((status ≡ no_memory) ⊎ ((status ≡ fault) ⊎ ((status ≡ bad_input) ⊎ (status ≡ over_budget))))
