-- The numbers of the link's formats (RFC 5040, 5041, 5044), and the reasons for which its frames are refused.
use Rattle.std.specs.Prelude.{ℕ}

-- how many bytes a hello has before its private data (RFC 5044 section 7.1), the revision that it names, and the maximum length of
-- private data
abbrev pub HELLO_LEN : ℕ
HELLO_LEN = 20

abbrev pub HELLO_REVISION : ℕ
HELLO_REVISION = 1

abbrev pub PRIVATE_MAX : ℕ
PRIVATE_MAX = 512

-- The private data of a hello that says terms (own): its length in bytes without and with the number of a client, the version that it
-- names, the flags that say that such a number follows and that Sends with Invalidate are made or taken, and the maximum of units
abbrev pub TERMS_LEN : ℕ
TERMS_LEN = 8

abbrev pub NUMBERED_TERMS_LEN : ℕ
NUMBERED_TERMS_LEN = 16

abbrev pub TERMS_VERSION : ℕ
TERMS_VERSION = 1

abbrev pub TERMS_NUMBER : ℕ
TERMS_NUMBER = 1

abbrev pub TERMS_INVALIDATE : ℕ
TERMS_INVALIDATE = 2

abbrev pub UNITS_MAX : ℕ
UNITS_MAX = 16

-- the flags of a hello: it asks for markers, it asks for a CRC, a reply refuses the connection
abbrev pub FLAG_MARKERS : ℕ
FLAG_MARKERS = 128

abbrev pub FLAG_CRC : ℕ
FLAG_CRC = 64

abbrev pub FLAG_REJECT : ℕ
FLAG_REJECT = 32

-- how many bytes the length field and the CRC of an FPDU have (RFC 5044 section 4), and the maximum lengths of an ULPDU and of an
-- FPDU
abbrev pub LENGTH_LEN : ℕ
LENGTH_LEN = 2

abbrev pub CRC_LEN : ℕ
CRC_LEN = 4

abbrev pub ULPDU_MAX : ℕ
ULPDU_MAX = 65535

abbrev pub FPDU_MAX : ℕ
FPDU_MAX = 65544

-- how many bytes the header of a tagged and of an untagged segment has (RFC 5041 sections 4.2 and 4.3)
abbrev pub TAGGED_LEN : ℕ
TAGGED_LEN = 14

abbrev pub UNTAGGED_LEN : ℕ
UNTAGGED_LEN = 18

-- the bits of an ULPDU's first byte: the segment is tagged, it is the last of its message (RFC 5041 section 4.1)
abbrev pub BIT_TAGGED : ℕ
BIT_TAGGED = 128

abbrev pub BIT_LAST : ℕ
BIT_LAST = 64

-- the versions of DDP (RFC 5041 section 4.1) and of RDMAP (RFC 5040 section 4.1)
abbrev pub DDP_VERSION : ℕ
DDP_VERSION = 1

abbrev pub RDMAP_VERSION : ℕ
RDMAP_VERSION = 1

-- the opcodes (RFC 5040 section 4)
abbrev pub OPCODE_WRITE : ℕ
OPCODE_WRITE = 0

abbrev pub OPCODE_READ_REQUEST : ℕ
OPCODE_READ_REQUEST = 1

abbrev pub OPCODE_READ_RESPONSE : ℕ
OPCODE_READ_RESPONSE = 2

abbrev pub OPCODE_SEND : ℕ
OPCODE_SEND = 3

abbrev pub OPCODE_SEND_INVALIDATE : ℕ
OPCODE_SEND_INVALIDATE = 4

abbrev pub OPCODE_TERMINATE : ℕ
OPCODE_TERMINATE = 7

-- the queues of untagged segments (RFC 5040 section 4)
abbrev pub QUEUE_SEND : ℕ
QUEUE_SEND = 0

abbrev pub QUEUE_READ_REQUEST : ℕ
QUEUE_READ_REQUEST = 1

abbrev pub QUEUE_TERMINATE : ℕ
QUEUE_TERMINATE = 2

-- why a hello is refused: its key, its flags, its revision, its private data
abbrev pub REASON_KEY : ℕ
REASON_KEY = 1

abbrev pub REASON_FLAGS : ℕ
REASON_FLAGS = 2

abbrev pub REASON_REVISION : ℕ
REASON_REVISION = 3

abbrev pub REASON_PRIVATE : ℕ
REASON_PRIVATE = 4

-- why an FPDU is refused: its length, its version of DDP or of RDMAP, its opcode, its form, its queue
abbrev pub REASON_LENGTH : ℕ
REASON_LENGTH = 5

abbrev pub REASON_DDP_VERSION : ℕ
REASON_DDP_VERSION = 6

abbrev pub REASON_RDMAP_VERSION : ℕ
REASON_RDMAP_VERSION = 7

abbrev pub REASON_OPCODE : ℕ
REASON_OPCODE = 8

abbrev pub REASON_TAGGED : ℕ
REASON_TAGGED = 9

abbrev pub REASON_QUEUE : ℕ
REASON_QUEUE = 10
