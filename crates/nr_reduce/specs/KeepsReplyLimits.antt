-- What a plain RPC server keeps, so that each of its replies can be sent back and is known to be its call's.
use Rattle.std.specs.Prelude.{◌≡◌, ◌≢◌, ℕ, ◌≤◌, List, [], length, Option, None, Some, Result, Ok, Err, IsOk}
use Rattle.nr_xdr.specs.Item.{IsBytes}
use Rattle.nr_rpc.specs.Reading.{call_of, reply_of, target_of, xid_of_call}
use Rattle.nr_rpc.specs.declared.head.ReplyHead.{ReplyHead}
use Rattle.nr_header.specs.WithinLimits.{ListsWithin}
use Rattle.nr_header.specs.declared.header.ChunkLists.{ChunkLists}
use Rattle.nr_outside.specs.declared.moment.Moment.{Moment}
use Rattle.nr_reduce.specs.declared.mark.Entry.{Entry}
use Rattle.nr_reduce.specs.declared.call.Form.TheVariants as forms
use Rattle.nr_reduce.specs.declared.outline.Plan.{Plan}
use Rattle.nr_reduce.specs.ClientMessages.{reply_xid}
use Rattle.nr_reduce.specs.Largest.{largest_reply}
use Rattle.nr_reduce.specs.Limits.{send_unit}
use Rattle.nr_reduce.specs.Plans.{plan_of, lists_of}
use Rattle.nr_reduce.specs.Server.{answer_of_target}
use Rattle.nr_reduce.specs.PlainJournal.{PlainServer}

-- the xid of the reply head that was read, if one was
abbrev pub xid_of_reply : Result ReplyHead ℕ → Option ℕ
xid_of_reply (Ok head) = Some (reply_xid head)
xid_of_reply (Err at) = None

-- A payload without a call head has no reply. A reply begins with a reply head of the call's xid (RFC 5531 section 9), and is no longer than
-- the call lets it be. What the call offers in the form Auto holds it, if a Send back may have send_unit bytes or more; and one that adds an entry to
-- the journal fits every offer within the limits of a header, so that no change is made whose reply can't be sent.
pub record KeepsReplyLimits (plain : PlainServer) : Type 0 where
  pub call : (J : List Entry) (m : Moment) (payload reply : List ℕ) → plain.Replies J m payload reply → IsOk (call_of payload)
  pub xid : (J : List Entry) (m : Moment) (payload reply : List ℕ) → IsBytes payload → plain.Replies J m payload reply →
      xid_of_reply (reply_of reply) ≡ xid_of_call (call_of payload)
  pub limit : (J : List Entry) (m : Moment) (payload reply : List ℕ) → IsBytes payload → plain.Replies J m payload reply →
      length reply ≤ largest_reply payload
  pub auto : (J : List Entry) (m : Moment) (payload reply : List ℕ) (up down stag : ℕ) (p : Plan) → IsBytes payload → plain.Replies J m payload reply →
      send_unit ≤ down → plan_of payload forms.Auto up down ≡ Ok p → answer_of_target (lists_of stag p) down reply (target_of (call_of payload)) ≢ None
  pub change : (J : List Entry) (m : Moment) (payload reply : List ℕ) (offer : ChunkLists) (down : ℕ) → plain.Replies J m payload reply →
      plain.adds m payload reply ≢ [] → ListsWithin offer → send_unit ≤ down → answer_of_target offer down reply (target_of (call_of payload)) ≢ None
