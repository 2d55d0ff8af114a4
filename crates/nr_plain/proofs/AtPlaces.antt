-- The laws of replies over a sane tree, at each place of a journal.
use Rattle.std.proofs.Common.{◌≡◌, ◌≢◌, ℕ, ◌≤◌, List, length, take, Option, None, Some, Ok, subst, refl}
use Rattle.std.specs.Option.{option_map}
use Rattle.nr_xdr.specs.Item.{IsBytes}
use Rattle.nr_rpc.specs.Reading.{call_of, target_of}
use Rattle.nr_reduce.specs.declared.mark.Entry.{Entry}
use Rattle.nr_outside.specs.declared.moment.Moment.{Moment}
use Rattle.nr_reduce.specs.declared.call.Form.TheVariants as forms
use Rattle.nr_reduce.specs.declared.outline.Plan.{Plan}
use Rattle.nr_reduce.specs.Plans.{plan_of, lists_of}
use Rattle.nr_reduce.specs.Largest.{largest_reply}
use Rattle.nr_reduce.specs.Limits.{send_unit}
use Rattle.nr_reduce.specs.Server.{answer_of_target}
use Rattle.nr_tree.specs.Sane.{IsSane}
use Rattle.nr_plain.specs.Setup.{Setup}
use Rattle.nr_plain.specs.Journal.{state_of}
use Rattle.nr_plain.specs.Replies.{Answer, plain_answer, plain_reply}
use Rattle.nr_plain.proofs.SaneTrees.{tree_sane}
use Rattle.nr_plain.proofs.ReplyLimits.{within_limit}
use Rattle.nr_plain.proofs.AutoOffers.{auto_held}

-- a reply is that of an answer
pub record IsReplyOf (o : Option Answer) (reply : List ℕ) : Type 0 where
  pub answer : Answer
  pub is : o ≡ Some answer
  pub replied : answer.reply ≡ reply

answered_by : (o : Option Answer) (reply : List ℕ) → option_map (λ (a : Answer). a.reply) o ≡ Some reply → IsReplyOf o reply
answered_by None reply e = absurd cc
answered_by (Some a) reply e = record { answer = a; is = refl; replied = cc }

pub answered : (s : Setup) (J : List Entry) (k : ℕ) (m : Moment) (payload reply : List ℕ) → plain_reply s J k m payload ≡ Some reply → IsReplyOf (plain_answer s.parameters (state_of s (take k J)) m payload) reply
answered s J k m payload reply e = answered_by (plain_answer s.parameters (state_of s (take k J)) m payload) reply e

pub within_limit_at : (s : Setup) (J : List Entry) (k : ℕ) (m : Moment) (payload reply : List ℕ) → IsSane s.tree → IsBytes payload → plain_reply s J k m payload ≡ Some reply → length reply ≤ largest_reply payload
within_limit_at s J k m payload reply sane bytes e =
    let of : IsReplyOf (plain_answer s.parameters (state_of s (take k J)) m payload) reply = answered s J k m payload reply e in
    subst (λ (r : List ℕ). length r ≤ largest_reply payload) of.replied (within_limit s.parameters (state_of s (take k J)) m payload of.answer bytes (tree_sane s J k sane) of.is)

pub auto_held_at : (s : Setup) (J : List Entry) (k : ℕ) (m : Moment) (payload reply : List ℕ) (up down stag : ℕ) (p : Plan) → IsSane s.tree → IsBytes payload → plain_reply s J k m payload ≡ Some reply → send_unit ≤ down
    → plan_of payload forms.Auto up down ≡ Ok p → answer_of_target (lists_of stag p) down reply (target_of (call_of payload)) ≢ None
auto_held_at s J k m payload reply up down stag p sane bytes e room plan =
    let of : IsReplyOf (plain_answer s.parameters (state_of s (take k J)) m payload) reply = answered s J k m payload reply e in
    subst (λ (r : List ℕ). answer_of_target (lists_of stag p) down r (target_of (call_of payload)) ≢ None) of.replied
    (auto_held s.parameters (state_of s (take k J)) m payload of.answer up down stag p bytes (tree_sane s J k sane) of.is room plan)
