-- What a plain server keeps, so that each entry of its journal tells which call it is of, and a call that is sent again has the same reply.
use Rattle.std.specs.Prelude.{◌≡◌, ◌≢◌, ℕ, ◌<◌, ◌≤◌, List, [], ◌∷◌, length, Option, None, Some}
use Rattle.nr_xdr.specs.Item.{IsBytes}
use Rattle.nr_outside.specs.declared.moment.Moment.{Moment}
use Rattle.nr_rpc.specs.Reading.{call_of, target_of, xid_of_call}
use Rattle.nr_header.specs.WithinLimits.{ListsWithin}
use Rattle.nr_header.specs.declared.header.ChunkLists.{ChunkLists}
use Rattle.nr_reduce.specs.declared.mark.Entry.{Entry}
use Rattle.nr_reduce.specs.Limits.{send_unit}
use Rattle.nr_reduce.specs.NumberedJournal.{call_of_entry}
use Rattle.nr_reduce.specs.PlainJournal.{PlainServer}
use Rattle.nr_reduce.specs.Server.{answer_of_target}

-- what a call adds is one entry or none
abbrev pub AddsOneAtMost : (Moment → List ℕ → List ℕ → List Entry) → Type 0
AddsOneAtMost adds = (moment : Moment) (payload reply : List ℕ) → length (adds moment payload reply) < 2

-- Whether a call adds an entry doesn't depend on its moment. The entry keeps that moment, and so much of the call that the call which is made of it
-- has the same reply. A call that is executed is always of bytes.
pub record KeepsCalls (reply_to : List Entry → Moment → List ℕ → Option (List ℕ)) (adds : Moment → List ℕ → List ℕ → List Entry) : Type 0 where
  pub one : AddsOneAtMost adds
  pub alike : (m n : Moment) (payload reply : List ℕ) → adds m payload reply ≢ [] → adds n payload reply ≢ []
  pub moment : (m : Moment) (payload reply : List ℕ) (e : Entry) → adds m payload reply ≡ e ∷ [] → e.moment ≡ m
  pub own : (J : List Entry) (m : Moment) (payload reply : List ℕ) (xid : ℕ) (e : Entry) → IsBytes payload → reply_to J m payload ≡ Some reply → adds m payload reply ≡ e ∷ [] →
      xid_of_call (call_of payload) ≡ Some xid → reply_to J m (call_of_entry xid e) ≡ Some reply

-- The reply to the call of an entry can be sent back to each call that would add an entry by it, whatever that one offers within the limits of a
-- header: also to another call, if a client sends that under the xid of the entry.
abbrev pub FitsChanges : PlainServer → Type 0
FitsChanges plain = (J : List Entry) (m n o : Moment) (payload asked answer reply : List ℕ) (xid : ℕ) (e : Entry) (offer : ChunkLists) (down : ℕ) →
    plain.adds o asked answer ≡ e ∷ [] → plain.Replies J m (call_of_entry xid e) reply → plain.adds n payload reply ≢ [] → ListsWithin offer → send_unit ≤ down →
    answer_of_target offer down reply (target_of (call_of payload)) ≢ None
