-- The limits of scripts and captures, each by its one name. All are own. The maximum of credits is in nr_reduce, that of units in nr_wire.
use Rattle.std.specs.Prelude.{ℕ}

-- the maximum number of clients
abbrev pub clients_max : ℕ
clients_max = 16

-- the maximum of a number, if nothing else is said, and of what the clock may show: 2^32 - 1
abbrev pub number_max : ℕ
number_max = 4294967295

-- the bytes that the journal may cost: if a text doesn't say (2^40), and at most (2^63 - 1)
abbrev pub default_capacity : ℕ
default_capacity = 1099511627776

abbrev pub capacity_max : ℕ
capacity_max = 9223372036854775807

-- the units of a client and of a server if a text doesn't say them
abbrev pub default_units : ℕ
default_units = 1
