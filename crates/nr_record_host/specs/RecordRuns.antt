-- A connection over record-marked TCP (RFC 5531 section 11): the calls that were answered, and what they say of its
-- source, its sink, its clock and its pass; and how it ends, and why.
use Rattle.std.specs.Prelude.{◌≡◌, ⊤, ℕ, ◌<◌, ◌≤◌, ◌⊎◌, List, [], ◌∷◌, ◌++◌, length, Option, None, Some}
use Rattle.std.specs.List.{AllByRecursion}
use Rattle.std.specs.Io.KnownBytes.{Appends, IsAtEnd}
use Rattle.nr_outside.specs.Content.{HandsOut}
use Rattle.nr_outside.specs.Faults.{Rises}
use Rattle.nr_outside.specs.declared.moment.Moment.{Moment}
use Rattle.nr_links.specs.Limits.{read_max}
use Rattle.nr_record.specs.Constants.{REASON_RECORD}
use Rattle.nr_record.specs.Records.{RecordsEncode}
use Rattle.nr_record.specs.RecordsState.{IsInLimit}
use Rattle.nr_plain.specs.History.{Answered, PassView, Over}
use Rattle.nr_record_loop.specs.Connections.{AllAnswered, BreaksOffIn, Exchange, IsNoCall, IsTooLong, calls as exchanged_calls, written as exchanged_replies}
use Rattle.nr_record_host.specs.declared.record_end.RecordEnd.{RecordEnd}
use Rattle.nr_record_host.specs.declared.record_end.RecordEnd.TheVariants as ends

-- the number of the client at the other end, with which its entries stand in the server's history: none is told over
-- TCP with record marks
abbrev pub NO_CLIENT : ℕ
NO_CLIENT = 0

-- ===== calls that were answered, in order

-- as calls and replies alone
abbrev pub exchanges_of : List Answered → List Exchange
exchanges_of [] = []
exchanges_of (x ∷ xs) = record { call = x.payload; reply = x.reply } ∷ exchanges_of xs

-- their records
abbrev pub calls : List Answered → List (List ℕ)
calls xs = exchanged_calls (exchanges_of xs)

abbrev pub moments : List Answered → List Moment
moments [] = []
moments (x ∷ xs) = x.moment ∷ moments xs

-- their replies, each as a record of one fragment
abbrev pub written : List Answered → List ℕ
written xs = exchanged_replies (exchanges_of xs)

-- ===== the connection

-- what is known of the source, the sink and the clock of a connection, and what its pass knows of the server's history
pub record Around : Type 0 where
  pub left : Option (List ℕ)
  pub given : Option (List ℕ)
  pub taken : Option (List ℕ)
  pub gave : Option (List Moment)
  pub view : PassView

abbrev pub around : (left given taken : Option (List ℕ)) → Option (List Moment) → PassView → Around
around left given taken gave view = record { left = left; given = given; taken = taken; gave = gave; view = view }

-- a clock gave these moments, in order, if it is known what it gave
abbrev pub GivesAll : Option (List Moment) → Option (List Moment) → List Moment → Type 0
GivesAll before None given = ⊤
GivesAll before (Some after) given = (earlier : List Moment) × (before ≡ Some earlier) × (after ≡ earlier ++ given)

-- The source handed out these bytes, these calls were executed by the pass, each under a turn, the clock gave their
-- moments and `more`, and the sink took these bytes.
pub record Serves (before after : Around) (bytes : List ℕ) (xs : List Answered) (more : List Moment) (took : List ℕ) : Type 0 where
  pub handed : HandsOut before.left before.given after.left after.given bytes
  pub taken : Appends before.taken after.taken took
  pub over : Over before.view xs after.view
  pub gave : GivesAll before.gave after.gave (moments xs ++ more)

-- ===== its end

-- The bytes that were read and not judged: some only after a record that ends the connection, after a failed write, or
-- if memory ran out.
abbrev pub UnreadAt : RecordEnd → List ℕ → Type 0
UnreadAt (ends.Bad at reason) unread = ⊤
UnreadAt ends.LinkWrite unread = ⊤
UnreadAt ends.Memory unread = ⊤
UnreadAt end unread = unread ≡ []

-- the bytes that the sink took: all replies, or the last one broke off, if its write failed
abbrev pub TookAt : RecordEnd → List ℕ → List Answered → Type 0
TookAt ends.LinkWrite took xs = BreaksOffIn took (exchanges_of xs)
TookAt end took xs = took ≡ written xs

-- the moments that were given for no call that was executed: one at most, if a record has no call head or memory ran
-- out
abbrev pub MoreAt : RecordEnd → List Moment → Type 0
MoreAt (ends.Bad at reason) more = (length more ≤ 1) × (reason ≡ REASON_RECORD → more ≡ [])
MoreAt ends.Memory more = length more ≤ 1
MoreAt end more = more ≡ []

-- Why it ended, by what the source has left, the stream that was read, what of it is no complete record, and the
-- records that were answered and those that were not.
abbrev pub IsRecordCause : Option (List ℕ) → (stream rest : List ℕ) → (answered others : List (List ℕ)) → RecordEnd → Type 0
IsRecordCause left stream rest answered others ends.Closed = AllAnswered stream others × (IsAtEnd left × ((rest ≡ []) × (length stream < read_max)))
IsRecordCause left stream rest answered others (ends.Cut at) =
    AllAnswered stream others × (IsAtEnd left × ((0 < length rest) × ((at ≡ length stream) × (length stream < read_max))))
IsRecordCause left stream rest answered others ends.LinkRead = AllAnswered stream others × (length stream < read_max)
IsRecordCause left stream rest answered others ends.LinkWrite = ⊤
IsRecordCause left stream rest answered others (ends.Bad at reason) =
    IsTooLong stream answered others at reason ⊎ IsNoCall stream answered others at reason
IsRecordCause left stream rest answered others (ends.Budget read) =
    AllAnswered stream others × ((read ≡ read_max) × (length stream ≡ read_max))
IsRecordCause left stream rest answered others ends.Memory = ⊤

-- A connection was served to its end: `stream` and `unread` are the bytes that were read, `records` those of the
-- stream, each within the limit, and `rest` what follows them in it.
pub record IsRecordsServed (before after : Around) (end : RecordEnd) : Type 0 where
  pub stream : List ℕ
  pub unread : List ℕ
  pub records : List (List ℕ)
  pub rest : List ℕ
  pub exchanges : List Answered
  pub others : List (List ℕ)
  pub more : List Moment
  pub took : List ℕ
  pub encode : RecordsEncode stream records rest
  pub limit : AllByRecursion IsInLimit records
  pub order : records ≡ calls exchanges ++ others
  pub serves : Serves before after (stream ++ unread) exchanges more took
  pub within : length (stream ++ unread) ≤ read_max
  pub unread_is : UnreadAt end unread
  pub took_is : TookAt end took exchanges
  pub more_is : MoreAt end more
  pub cause : IsRecordCause after.left (stream ++ unread) rest (calls exchanges) others end

-- the fault counts of the source and of the sink
abbrev pub SourceCount : RecordEnd → ℕ → ℕ → Type 0
SourceCount ends.LinkRead before after = Rises before after
SourceCount _ before after = after ≡ before

abbrev pub SinkCount : RecordEnd → ℕ → ℕ → Type 0
SinkCount ends.LinkWrite before after = Rises before after
SinkCount _ before after = after ≡ before
