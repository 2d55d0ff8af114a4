-- The laws of the plain server's replies.
use Rattle.std.specs.Prelude.{◌≡◌, ◌≢◌, ℕ, ◌≤◌, List, [], length, None, Some, is_some, Ok, is_ok}
use Rattle.nr_xdr.specs.Item.{IsBytes}
use Rattle.nr_header.specs.WithinLimits.{ListsWithin}
use Rattle.nr_header.specs.declared.header.ChunkLists.{ChunkLists}
use Rattle.nr_rpc.specs.Reading.{call_of, reply_of, target_of, xid_of_call}
use Rattle.nr_reduce.specs.KeepsCalls.{FitsChanges, KeepsCalls}
use Rattle.nr_reduce.specs.KeepsReplyLimits.{xid_of_reply, KeepsReplyLimits}
use Rattle.nr_reduce.specs.PlainJournal.{PlainServer}
use Rattle.nr_outside.specs.declared.moment.Moment.{Moment}
use Rattle.nr_reduce.specs.declared.mark.Entry.{Entry}
use Rattle.nr_reduce.specs.declared.call.Form.TheVariants as forms
use Rattle.nr_reduce.specs.declared.outline.Plan.{Plan}
use Rattle.nr_reduce.specs.Plans.{plan_of, lists_of}
use Rattle.nr_reduce.specs.Largest.{largest_reply}
use Rattle.nr_reduce.specs.Limits.{send_unit}
use Rattle.nr_reduce.specs.Server.{answer_of_target}
use Rattle.nr_tree.specs.Sane.{IsSane}
use Rattle.nr_plain.specs.Setup.{Parameters, Setup, State}
use Rattle.nr_plain.specs.Replies.{Answer, plain_answer, plain_reply}
use Rattle.nr_plain.specs.ReplySizes.{reply_max}
use Rattle.nr_plain.specs.Added.{entries_of_call}

-- A reply begins with a reply head, whose xid is that of its call.
abbrev pub RepliesBeginWithTheXid : Type 0
RepliesBeginWithTheXid = (s : Parameters) (st : State) (m : Moment) (payload : List ℕ) (a : Answer) → IsBytes payload →
    plain_answer s st m payload ≡ Some a → xid_of_reply (reply_of a.reply) ≡ xid_of_call (call_of payload)

-- So does a reply at any place of a journal.
abbrev pub PlacedRepliesBeginWithTheXid : Type 0
PlacedRepliesBeginWithTheXid = (s : Setup) (J : List Entry) (place : ℕ) (m : Moment) (payload reply : List ℕ) → IsBytes payload →
    plain_reply s J place m payload ≡ Some reply → xid_of_reply (reply_of reply) ≡ xid_of_call (call_of payload)

-- There is a reply, at any place, if and only if the payload begins with a call head.
abbrev pub CallsAloneHaveReplies : Type 0
CallsAloneHaveReplies = (s : Setup) (J : List Entry) (place : ℕ) (m : Moment) (payload : List ℕ) →
    is_some (plain_reply s J place m payload) ≡ is_ok (call_of payload)

-- A reply at a place of a journal is no longer than its call's program, version and procedure let it be, if the first tree is sane.
abbrev pub RepliesAreWithinTheirLimit : Type 0
RepliesAreWithinTheirLimit = (s : Setup) (J : List Entry) (place : ℕ) (m : Moment) (payload reply : List ℕ) → IsSane s.tree → IsBytes payload →
    plain_reply s J place m payload ≡ Some reply → length reply ≤ largest_reply payload

-- The reply of a call that adds an entry to the journal has at most reply_max bytes.
abbrev pub ChangesAreShort : Type 0
ChangesAreShort = (s : Parameters) (st : State) (m : Moment) (payload : List ℕ) (a : Answer) → plain_answer s st m payload ≡ Some a →
    a.entries ≢ [] → length a.reply ≤ reply_max

-- So every offer within the limits of a header holds it, if a Send back may have send_unit bytes or more.
abbrev pub ChangesFitEveryOffer : Type 0
ChangesFitEveryOffer = (s : Parameters) (st : State) (m : Moment) (payload : List ℕ) (a : Answer) (offer : ChunkLists) (down : ℕ) →
    plain_answer s st m payload ≡ Some a → a.entries ≢ [] → ListsWithin offer → send_unit ≤ down →
    answer_of_target offer down a.reply (target_of (call_of payload)) ≢ None

-- So does it at any place of a journal, if the call and the reply say that there is an entry.
abbrev pub PlacedChangesFitEveryOffer : Type 0
PlacedChangesFitEveryOffer = (s : Setup) (J : List Entry) (place : ℕ) (m : Moment) (payload reply : List ℕ) (offer : ChunkLists) (down : ℕ) →
    plain_reply s J place m payload ≡ Some reply → entries_of_call m payload reply ≢ [] → ListsWithin offer → send_unit ≤ down →
    answer_of_target offer down reply (target_of (call_of payload)) ≢ None

-- What a call offers in the form Auto holds its reply at each place of a journal, if the first tree is sane.
abbrev pub AutoOffersHoldTheirReplies : Type 0
AutoOffersHoldTheirReplies = (s : Setup) (J : List Entry) (place : ℕ) (m : Moment) (payload reply : List ℕ) (up down stag : ℕ) (p : Plan) → IsSane s.tree →
    IsBytes payload → plain_reply s J place m payload ≡ Some reply → send_unit ≤ down → plan_of payload forms.Auto up down ≡ Ok p →
    answer_of_target (lists_of stag p) down reply (target_of (call_of payload)) ≢ None

-- the plain server that was opened with this setup: its reply over a journal, at the journal's end
abbrev pub plain_server : Setup → PlainServer
plain_server s = record { Replies = λ J m payload reply. plain_reply s J (length J) m payload ≡ Some reply; adds = entries_of_call }

-- It keeps what a run asks of a plain server, if the first tree is sane.
abbrev pub ServerIsPlain : Type 0
ServerIsPlain = (s : Setup) → IsSane s.tree → KeepsReplyLimits (plain_server s)

-- It keeps so much of a call that adds an entry that the call which is made of the entry has the same reply.
abbrev pub ServerKeepsCalls : Type 0
ServerKeepsCalls = (s : Setup) → KeepsCalls (λ J m payload. plain_reply s J (length J) m payload) entries_of_call

-- The reply to the call of an entry can be sent back to each call that would add an entry by it.
abbrev pub ServerFitsChanges : Type 0
ServerFitsChanges = (s : Setup) → FitsChanges (plain_server s)
