-- A connection over record-marked TCP (RFC 5531 section 11), whatever answers its calls: the calls that were answered, and
-- what they say of its source and its sink; and how it ends, and why.
use Rattle.std.specs.Prelude.{◌≡◌, ⊤, ℕ, ◌<◌, ◌≤◌, ◌⊎◌, true, false, List, [], ◌∷◌, ◌++◌, length, Option, None, Some, is_ok}
use Rattle.std.specs.List.{AllByRecursion}
use Rattle.std.specs.Io.KnownBytes.{Appends, IsAtEnd}
use Rattle.nr_outside.specs.Content.{HandsOut}
use Rattle.nr_outside.specs.Faults.{Rises}
use Rattle.nr_links.specs.Limits.{read_max}
use Rattle.nr_record.specs.Constants.{REASON_RECORD}
use Rattle.nr_record.specs.Records.{IsAboveAt, RecordsEncode, contents, fragment}
use Rattle.nr_record.specs.RecordsState.{IsFaultOf, IsInLimit}
use Rattle.nr_record.specs.declared.fault.RecordFault.TheVariants as faults
use Rattle.nr_rpc.specs.Reading.{call_of}
use Rattle.nr_record_loop.specs.declared.answering.NoReply.{NoReply}
use Rattle.nr_record_loop.specs.declared.answering.NoReply.TheVariants as reasons
use Rattle.nr_record_loop.specs.declared.loop_end.LoopEnd.{LoopEnd}
use Rattle.nr_record_loop.specs.declared.loop_end.LoopEnd.TheVariants as ends

-- the reason for which a record without a call head ends a connection
abbrev pub REASON_CALL : ℕ
REASON_CALL = 27

-- ===== calls

-- a call that was answered
pub record Exchange : Type 0 where
  pub call : List ℕ
  pub reply : List ℕ

-- a call that has no reply, and why
pub record Unanswered : Type 0 where
  pub call : List ℕ
  pub reason : NoReply

-- calls that were answered, in order: their records
abbrev pub calls : List Exchange → List (List ℕ)
calls [] = []
calls (x ∷ xs) = x.call ∷ calls xs

-- their replies, each as a record of one fragment
abbrev pub written : List Exchange → List ℕ
written [] = []
written (x ∷ xs) = fragment true x.reply ++ written xs

-- ===== what answers calls

-- a call without a reply has no call head, unless there is another reason
abbrev pub HasReason : NoReply → List ℕ → Type 0
HasReason reasons.NotCall call = is_ok (call_of call) ≡ false
HasReason reason call = ⊤

-- S has the states of what answers calls. `Did first now xs more` says that from `first` to `now` these calls were answered,
-- in order, and then, if there is one, `more` was not.
module _ {S : Type 0} (Did : S → S → List Exchange → Option Unanswered → Type 0) where
  -- one call more was answered so
  abbrev pub AnswersOne : (u u' : S) → (call reply : List ℕ) → Type 0
  AnswersOne u u' call reply = (first : S) (xs : List Exchange) → Did first u xs None → Did first u' (xs ++ record { call = call; reply = reply } ∷ []) None

  -- one call more was not answered, for this reason
  abbrev pub AnswersNone : (u u' : S) → (call : List ℕ) → NoReply → Type 0
  AnswersNone u u' call reason =
      HasReason reason call × ((first : S) (xs : List Exchange) → Did first u xs None → Did first u' xs (Some (record { call = call; reason = reason })))

-- ===== the connection

-- what is known of the source and the sink of a connection, and the state of what answers its calls
pub record Loop (S : Type 0) : Type 0 where
  pub left : Option (List ℕ)
  pub given : Option (List ℕ)
  pub taken : Option (List ℕ)
  pub state : S

abbrev pub loop_at : {S : Type 0} (left given taken : Option (List ℕ)) → S → Loop S
loop_at left given taken u = record { left = left; given = given; taken = taken; state = u }

-- The source handed out these bytes, these calls were answered, `more` was not, and the sink took these bytes.
pub record ServesBy {S : Type 0} (Did : S → S → List Exchange → Option Unanswered → Type 0) (before now : Loop S) (bytes : List ℕ) (xs : List Exchange) (more : Option Unanswered) (took : List ℕ) : Type 0 where
  pub handed : HandsOut before.left before.given now.left now.given bytes
  pub taken : Appends before.taken now.taken took
  pub did : Did before.state now.state xs more

-- ===== its end

-- The bytes that were read and not judged: some only after a record that ends the connection, after a failed write, or
-- if memory ran out.
abbrev pub UnreadAt : LoopEnd → List ℕ → Type 0
UnreadAt (ends.Bad at reason) unread = ⊤
UnreadAt ends.LinkWrite unread = ⊤
UnreadAt ends.Memory unread = ⊤
UnreadAt ends.Unanswered unread = ⊤
UnreadAt end unread = unread ≡ []

-- the sink took all replies but the last, and a part of that, from its front
pub record BreaksOffIn (took : List ℕ) (xs : List Exchange) : Type 0 where
  pub answered : List Exchange
  pub last : Exchange
  pub xs_are : xs ≡ answered ++ last ∷ []
  pub part : List ℕ
  pub others : List ℕ
  pub is_part : part ++ others ≡ fragment true last.reply
  pub took_is : took ≡ written answered ++ part

-- the bytes that the sink took: all replies, or the last one broke off, if its write failed
abbrev pub TookAt : LoopEnd → List ℕ → List Exchange → Type 0
TookAt ends.LinkWrite took xs = BreaksOffIn took xs
TookAt end took xs = took ≡ written xs

-- the first of these records is the call that has no reply, for this reason
pub record IsNext (others : List (List ℕ)) (more : Option Unanswered) (reason : NoReply) : Type 0 where
  pub call : List ℕ
  pub later : List (List ℕ)
  pub others_are : others ≡ call ∷ later
  pub more_is : more ≡ Some (record { call = call; reason = reason })

-- the call that has no reply: the next one, if it ended the connection
abbrev pub MoreAt : LoopEnd → List (List ℕ) → Option Unanswered → Type 0
MoreAt (ends.Bad at reason) others more = (reason ≡ REASON_RECORD → more ≡ None) × (reason ≡ REASON_CALL → IsNext others more reasons.NotCall)
MoreAt ends.Memory others more = (more ≡ None) ⊎ IsNext others more reasons.Memory
MoreAt ends.Unanswered others more = IsNext others more reasons.Other
MoreAt end others more = more ≡ None

-- the next record after these begins at this offset of the stream
pub record BeginsAt (stream : List ℕ) (records : List (List ℕ)) (at : ℕ) : Type 0 where
  pub front : List ℕ
  pub back : List ℕ
  pub stream_is : stream ≡ front ++ back
  pub encode : RecordsEncode front records []
  pub at_is : at ≡ length front

-- a record has no call head, and those before it were answered
pub record IsNoCall (stream : List ℕ) (answered others : List (List ℕ)) (at reason : ℕ) : Type 0 where
  pub call : List ℕ
  pub more : List (List ℕ)
  pub others_are : others ≡ call ∷ more
  pub no_head : is_ok (call_of call) ≡ false
  pub begins : BeginsAt stream answered at
  pub reason_is : reason ≡ REASON_CALL

-- a fragment takes its record above the limit; the records that end before its header were answered, and no others
pub record IsTooLong (stream : List ℕ) (answered others : List (List ℕ)) (at reason : ℕ) : Type 0 where
  pub others_are : others ≡ []
  pub fault : IsFaultOf stream (faults.Bad at reason)
  pub before : contents fault.1.cuts ≡ answered

-- all records were answered, and no fragment takes one above the limit
abbrev pub AllAnswered : List ℕ → List (List ℕ) → Type 0
AllAnswered stream others = (others ≡ []) × ((at : ℕ) → ¬ (IsAboveAt stream at))

-- Why it ended, by what the source has left, the stream that was read, what of it is no complete record, and the
-- records that were answered and those that were not.
abbrev pub IsLoopCause : Option (List ℕ) → (stream rest : List ℕ) → (answered others : List (List ℕ)) → LoopEnd → Type 0
IsLoopCause left stream rest answered others ends.Closed = AllAnswered stream others × (IsAtEnd left × ((rest ≡ []) × (length stream < read_max)))
IsLoopCause left stream rest answered others (ends.Cut at) =
    AllAnswered stream others × (IsAtEnd left × ((0 < length rest) × ((at ≡ length stream) × (length stream < read_max))))
IsLoopCause left stream rest answered others ends.LinkRead = AllAnswered stream others × (length stream < read_max)
IsLoopCause left stream rest answered others ends.LinkWrite = ⊤
IsLoopCause left stream rest answered others (ends.Bad at reason) =
    IsTooLong stream answered others at reason ⊎ IsNoCall stream answered others at reason
IsLoopCause left stream rest answered others (ends.Budget read) =
    AllAnswered stream others × ((read ≡ read_max) × (length stream ≡ read_max))
IsLoopCause left stream rest answered others ends.Memory = ⊤
IsLoopCause left stream rest answered others ends.Unanswered = ⊤

-- A connection was served to its end: `stream` and `unread` are the bytes that were read, `records` those of the
-- stream, each within the limit, and `rest` what follows them in it.
pub record IsServedBy {S : Type 0} (Did : S → S → List Exchange → Option Unanswered → Type 0) (before after : Loop S) (end : LoopEnd) : Type 0 where
  pub stream : List ℕ
  pub unread : List ℕ
  pub records : List (List ℕ)
  pub rest : List ℕ
  pub exchanges : List Exchange
  pub others : List (List ℕ)
  pub more : Option Unanswered
  pub took : List ℕ
  pub encode : RecordsEncode stream records rest
  pub limit : AllByRecursion IsInLimit records
  pub order : records ≡ calls exchanges ++ others
  pub serves : ServesBy Did before after (stream ++ unread) exchanges more took
  pub within : length (stream ++ unread) ≤ read_max
  pub unread_is : UnreadAt end unread
  pub took_is : TookAt end took exchanges
  pub more_is : MoreAt end others more
  pub cause : IsLoopCause after.left (stream ++ unread) rest (calls exchanges) others end

-- the fault counts of the source and of the sink
abbrev pub SourceCount : LoopEnd → ℕ → ℕ → Type 0
SourceCount ends.LinkRead before after = Rises before after
SourceCount _ before after = after ≡ before

abbrev pub SinkCount : LoopEnd → ℕ → ℕ → Type 0
SinkCount ends.LinkWrite before after = Rises before after
SinkCount _ before after = after ≡ before
