-- The server keeps what a run asks of a plain one.
use Rattle.std.proofs.Common.{◌≡◌, ℕ, List, length, take, Some, Result, Ok, Err, refl}
use Rattle.std.specs.Prelude.{IsOk}
use Rattle.std.specs.Option.{option_map}
use Rattle.nr_rpc.specs.declared.head.CallHead.{CallHead}
use Rattle.nr_rpc.specs.Reading.{call_of}
use Rattle.nr_outside.specs.declared.moment.Moment.{Moment}
use Rattle.nr_plain.specs.Setup.{Parameters, State}
use Rattle.nr_plain.specs.Journal.{state_of}
use Rattle.nr_plain.specs.Replies.{Answer, answer_by}
use Rattle.nr_plain.specs.ReplyLaws.{ServerIsPlain}
use Rattle.nr_plain.proofs.AtPlaces.{within_limit_at, auto_held_at}
use Rattle.nr_plain.proofs.Placed.{begins_with_xid_at, changes_held_at}

has_head : (prm : Parameters) (st : State) (m : Moment) (payload reply : List ℕ) (r : Result CallHead ℕ) → option_map (λ (a : Answer). a.reply) (answer_by prm st m payload r) ≡ Some reply → IsOk r
has_head prm st m payload reply (Ok head) e = refl
has_head prm st m payload reply (Err at) e = absurd cc

pub server_is_plain : ServerIsPlain
server_is_plain s sane = record {
  call = λ J m payload reply e. has_head s.parameters (state_of s (take (length J) J)) m payload reply (call_of payload) e;
  xid = λ J m payload reply bytes e. begins_with_xid_at s J (length J) m payload reply bytes e;
  limit = λ J m payload reply bytes e. within_limit_at s J (length J) m payload reply sane bytes e;
  auto = λ J m payload reply up down stag p bytes e room plan. auto_held_at s J (length J) m payload reply up down stag p sane bytes e room plan;
  change = λ J m payload reply offer down e some within room. changes_held_at s J (length J) m payload reply offer down e some within room;
}
