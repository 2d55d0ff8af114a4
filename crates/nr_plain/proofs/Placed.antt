-- Whose a reply at a place of a journal is, which payloads have one, and that every offer holds that of a change.
use Rattle.std.proofs.Common.{◌≡◌, ◌≢◌, ℕ, ◌≤◌, List, [], take, None, Some, Result, Ok, Err, refl}
use Rattle.std.specs.Prelude.{is_some, is_ok}
use Rattle.std.specs.Option.{option_map}
use Rattle.nr_xdr.specs.Item.{IsBytes}
use Rattle.nr_header.specs.WithinLimits.{ListsWithin}
use Rattle.nr_header.specs.declared.header.ChunkLists.{ChunkLists}
use Rattle.nr_rpc.specs.declared.head.CallHead.{CallHead}
use Rattle.nr_rpc.specs.Reading.{call_of, reply_of, target_of, xid_of_call}
use Rattle.nr_reduce.specs.declared.mark.Entry.{Entry}
use Rattle.nr_outside.specs.declared.moment.Moment.{Moment}
use Rattle.nr_reduce.specs.Limits.{send_unit}
use Rattle.nr_reduce.specs.Server.{answer_of_target}
use Rattle.nr_plain.specs.Setup.{Parameters, Setup, State}
use Rattle.nr_plain.specs.Journal.{state_of}
use Rattle.nr_plain.specs.Added.{entries_of_call}
use Rattle.nr_plain.specs.Replies.{Answer, plain_reply, answer_by}
use Rattle.nr_reduce.specs.KeepsReplyLimits.{xid_of_reply}
use Rattle.nr_plain.proofs.Added.{answer_of_reply}
use Rattle.nr_plain.proofs.Changes.{changes_held}
use Rattle.nr_plain.proofs.ReplyHeads.{begins_with_xid}

pub begins_with_xid_at : (s : Setup) (J : List Entry) (place : ℕ) (m : Moment) (payload reply : List ℕ) → IsBytes payload → plain_reply s J place m payload ≡ Some reply
    → xid_of_reply (reply_of reply) ≡ xid_of_call (call_of payload)
begins_with_xid_at s J place m payload reply bytes e =
    begins_with_xid s.parameters (state_of s (take place J)) m payload (record { reply = reply; entries = entries_of_call m payload reply }) bytes (answer_of_reply s J place m payload reply e)

has_answer : (prm : Parameters) (st : State) (m : Moment) (payload : List ℕ) (r : Result CallHead ℕ) → is_some (option_map (λ (a : Answer). a.reply) (answer_by prm st m payload r)) ≡ is_ok r
has_answer prm st m payload (Ok head) = refl
has_answer prm st m payload (Err at) = refl

pub calls_alone : (s : Setup) (J : List Entry) (place : ℕ) (m : Moment) (payload : List ℕ) → is_some (plain_reply s J place m payload) ≡ is_ok (call_of payload)
calls_alone s J place m payload = has_answer s.parameters (state_of s (take place J)) m payload (call_of payload)

pub changes_held_at : (s : Setup) (J : List Entry) (place : ℕ) (m : Moment) (payload reply : List ℕ) (offer : ChunkLists) (down : ℕ) → plain_reply s J place m payload ≡ Some reply
    → entries_of_call m payload reply ≢ [] → ListsWithin offer → send_unit ≤ down → answer_of_target offer down reply (target_of (call_of payload)) ≢ None
changes_held_at s J place m payload reply offer down e some within room =
    changes_held s.parameters (state_of s (take place J)) m payload (record { reply = reply; entries = entries_of_call m payload reply }) offer down (answer_of_reply s J place m payload reply e) some within room
