-- What goes back to a caller that takes its answer, and what the buffers have.
use Rattle.std.specs.Prelude.{◌≡◌, ◌≢◌, ℕ, ◌==◌, List, None, Some, map, Contains}
use Rattle.std.specs.List.{filter}
use Rattle.nr_wire.specs.declared.hello.Side.TheVariants.{Initiator}
use Rattle.nr_reduce.specs.declared.mark.LinkParameters.{LinkParameters}
use Rattle.nr_reduce.specs.declared.mark.Mark.{Mark}
use Rattle.nr_reduce.specs.Asked.{revoked_bytes}
use Rattle.nr_reduce.specs.History.{CompletedCall}
use Rattle.nr_reduce.specs.Run.{client, placed_bytes}
use Rattle.nr_link.specs.declared.end.End.{End}
use Rattle.nr_link.specs.declared.end.End.TheVariants as ends
use Rattle.nr_requester.specs.declared.answer.Buffers.{Buffers}
use Rattle.nr_requester.specs.Buffers.{bytes_of_buffers}
use Rattle.nr_requester.specs.KeptAnswers.{buffers_in}
use Rattle.nr_shared.specs.declared.entry.Entry.{Entry}
use Rattle.nr_shared.specs.declared.entry.Entry.TheVariants as entries
use Rattle.nr_shared.specs.declared.entry.Stop.TheVariants as causes
use Rattle.nr_shared.specs.Histories.{place_of, place_or_none, stop_of}
use Rattle.nr_shared.specs.LinkRuns.{OnCallLink, OnLink}

-- what each region of a call holds by these marks, in the order read chunk, write chunk, reply chunk
abbrev pub regions_placed : LinkParameters → (link : ℕ) → List Mark → (xid : ℕ) → List (List ℕ)
regions_placed opened link run xid = map (λ r. placed_bytes opened link Initiator run r.stag) (filter (λ r. r.call == xid) (client opened link run).state.regions)

-- The buffers of a call have what its regions hold by this history; `n` is how many bytes were fed of the piece at which memory ran out.
pub record HavePlaced (xid : ℕ) (buffers : Buffers) (history : List Entry) : Type 0 where
  pub n : ℕ
  pub placed : OnCallLink n xid history (λ opened link run. buffers_in buffers ≡ regions_placed opened link run xid)

-- The same of the buffers of a call that is lost, one after the other; and no message brought an outcome of it.
pub record IsLostWith (xid : ℕ) (buffers : Buffers) (history : List Entry) : Type 0 where
  pub n : ℕ
  pub placed : OnCallLink n xid history (λ opened link run. bytes_of_buffers buffers ≡ revoked_bytes opened link run xid)
  pub none : OnCallLink n xid history (λ opened link run. (c : CompletedCall) → Contains (client opened link run).state.outcomes c → c.xid ≢ xid)

-- No message brought an outcome of the call by this history. One that it got over an earlier link would have kept it from being sent again.
pub record IsUnanswered (xid : ℕ) (history : List Entry) : Type 0 where
  pub n : ℕ
  pub none : OnCallLink n xid history (λ opened link run. (c : CompletedCall) → Contains (client opened link run).state.outcomes c → c.xid ≢ xid)

-- Memory hasn't run out for a frame, the client of the run hasn't ended, and no message brought an outcome of the call.
abbrev pub IsAwaitedStill : (xid : ℕ) → List Entry → Type 0
IsAwaitedStill xid history = (stop_of history ≢ Some causes.Memory) × (OnLink 0 history (λ opened link run. (client opened link run).ended ≡ None) × OnCallLink 0 xid history (λ opened link run. (c : CompletedCall) → Contains (client opened link run).state.outcomes c → c.xid ≢ xid))

-- A call that stands at this place is lost; or, if memory ran out for a frame, so that the client of the run hasn't ended, its memory is revoked.
abbrev pub lost_entry : End → (xid : ℕ) → Buffers → (submit : ℕ) → Entry
lost_entry ends.Memory xid buffers submit = entries.Revoke xid (bytes_of_buffers buffers) submit
lost_entry end xid buffers submit = entries.Lost xid submit

abbrev pub lost_by : List Entry → End → (xid : ℕ) → Buffers → Entry
lost_by history end xid buffers = lost_entry end xid buffers (place_or_none (place_of xid history))
