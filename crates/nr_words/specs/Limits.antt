-- The limits of what words and configurations may say, each by its one name. All are own, but for that of an export.
use Rattle.std.specs.Prelude.{ℕ}

-- the maximum of a user or a group ID, and of a seed
abbrev pub id_max : ℕ
id_max = 4294967295

abbrev pub seed_max : ℕ
seed_max = 18446744073709551615

-- the maximum number of clients and of calls of a script that is generated
abbrev pub clients_max : ℕ
clients_max = 16

abbrev pub calls_max : ℕ
calls_max = 1000000

-- the maximum number of a client, and how often the link of such a client is dialled again at most
abbrev pub client_number_max : ℕ
client_number_max = 18446744073709551615

abbrev pub tries_max : ℕ
tries_max = 16

-- the maximum number of jobs of a `get`, and how many it has if nothing is said
abbrev pub jobs_max : ℕ
jobs_max = 16

abbrev pub default_jobs : ℕ
default_jobs = 1

-- the maximum length of the path of an export in bytes (RFC 1813 section 5.1.4, MNTPATHLEN)
abbrev pub mount_path_max : ℕ
mount_path_max = 1024

-- the maximum number of credits of a server, of what its journal may cost in bytes, and of its connections
abbrev pub credits_max : ℕ
credits_max = 64

abbrev pub capacity_max : ℕ
capacity_max = 9223372036854775807

abbrev pub connections_max : ℕ
connections_max = 4294967295

-- The maximum of the units that a client or a server has for its Sends in each direction (one unit is 1,024 bytes), and how many it has if
-- nothing is said
abbrev pub units_max : ℕ
units_max = 16

abbrev pub default_units : ℕ
default_units = 1
