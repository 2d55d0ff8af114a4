-- The limits and the numbers of RPC heads (RFC 5531).
use Rattle.std.specs.Prelude.{ℕ}

-- the maximum length of the body of a credential or a verifier in bytes (RFC 5531 section 8.2)
abbrev pub AUTH_BODY_MAX : ℕ
AUTH_BODY_MAX = 400

-- the maximum length of the machine name of AUTH_SYS in bytes (RFC 5531 appendix A)
abbrev pub MACHINE_MAX : ℕ
MACHINE_MAX = 255

-- the maximum number of further groups of AUTH_SYS (RFC 5531 appendix A)
abbrev pub GIDS_MAX : ℕ
GIDS_MAX = 16

-- the version of RPC (RFC 5531 section 9)
abbrev pub RPC_VERSION : ℕ
RPC_VERSION = 2

-- the message type of a call (RFC 5531 section 9)
abbrev pub CALL : ℕ
CALL = 0

-- the message type of a reply (RFC 5531 section 9)
abbrev pub REPLY : ℕ
REPLY = 1

-- the reply status of a call that was accepted (RFC 5531 section 9)
abbrev pub MSG_ACCEPTED : ℕ
MSG_ACCEPTED = 0

-- the reply status of a call that was denied (RFC 5531 section 9)
abbrev pub MSG_DENIED : ℕ
MSG_DENIED = 1

-- the accept status that the lowest and the highest version follow (RFC 5531 section 9)
abbrev pub PROG_MISMATCH : ℕ
PROG_MISMATCH = 2

-- the reject status for another version of RPC (RFC 5531 section 9)
abbrev pub RPC_MISMATCH : ℕ
RPC_MISMATCH = 0

-- the reject status for a credential that was refused (RFC 5531 section 9)
abbrev pub AUTH_ERROR : ℕ
AUTH_ERROR = 1

-- the flavor without a body (RFC 5531 section 8.2)
abbrev pub AUTH_NONE : ℕ
AUTH_NONE = 0

-- the flavor with a user's and its groups' numbers (RFC 5531 section 8.2)
abbrev pub AUTH_SYS : ℕ
AUTH_SYS = 1
