-- How calls are made again for the next link, for the code.
use Rattle.std.specs.Prelude.{◌≡◌, ℕ, ◌+◌, ◌^◌, ◌<◌, ◌≤◌, ◌==◌, List, [], ◌∷◌, ◌++◌, length, map, take, drop, sum, Option, None, Some}
use Rattle.std.specs.List.{AllByRecursion, find}
use Rattle.nr_wire.specs.Constants.{FPDU_MAX}
use Rattle.nr_wire.specs.declared.hello.Side.TheVariants.{Initiator}
use Rattle.nr_regions.specs.RegisteredMemory.{AreHeldFrom, initial_memory}
use Rattle.nr_endpoint.specs.EndpointState.{EndpointState}
use Rattle.nr_endpoint.specs.LinkState.{LinkState, LinkSide, initial_link, last_agreed}
use Rattle.nr_endpoint.specs.SendQueue.{with_held}
use Rattle.nr_endpoint.specs.Calls.{with_state}
use Rattle.nr_reduce.specs.declared.call.Call.{Call}
use Rattle.nr_reduce.specs.declared.outline.Plan.{Plan}
use Rattle.nr_reduce.specs.Plans.{Buffer, buffers, call_message, given_region, total}
use Rattle.nr_reduce.specs.KeptClient.{registered_all}
use Rattle.nr_requester.specs.declared.outstanding.OutstandingCall.{OutstandingCall}
use Rattle.nr_requester.specs.AfterCalls.{stored_call}
use Rattle.nr_requester.specs.RequesterState.{StoredCall, awaited_call}
use Rattle.nr_requester.specs.Reopening.{CallsAgain, calls_again_from, plan_again, stags_for_calls}
use Rattle.nr_requester.specs.Views.{stored_view, HasRoom, AreRising}
use Rattle.nr_requester.specs.HeldClaims.{all_claims, OffersOwn, IsOfferOf, SentHeld}
use Rattle.nr_requester.specs.HeldBytes.{NothingOutside, LinkFits, IsCount, RegionsHave, AreRisingBy, send_of, claims_total, CallFits}

-- the plan made again of the lengths of the segments that were offered
abbrev pub plan_by_lengths : (payload : List ℕ) → (read_at : Option ℕ) → (read : List ℕ) → (write reply : Option (List ℕ)) → Plan
plan_by_lengths payload None read write reply = record { inline = payload; read_at = None; read = []; region = []; write = write; reply = reply }
plan_by_lengths payload (Some at) read write reply = record {
  inline = take at payload;
  read_at = Some at;
  read = read;
  region = given_region payload at (sum read);
  write = write;
  reply = reply;
}

-- the side once the regions of a plan were registered and its message was held back
abbrev pub held_back : LinkState → (message : List ℕ) → List Buffer → LinkState
held_back s message bs = record s { memory = registered_all s.memory bs; send_queue = with_held message s.send_queue }

-- the link once a call was made again by a plan, under this xid and with this credit word
abbrev pub with_held_call : (xid credit : ℕ) → Plan → LinkSide → LinkSide
with_held_call xid credit plan link =
    with_state (held_back link.state (call_message xid credit link.state.memory.next plan) (buffers link.state.memory.next plan)) link

-- ---- The calls that go on, which are moved once all memory was taken

abbrev pub with_awaited : Option Call → List Call → List Call
with_awaited None calls = calls
with_awaited (Some call) calls = call ∷ calls

-- the calls whose answer is awaited
abbrev pub awaited_calls : List OutstandingCall → List Call
awaited_calls [] = []
awaited_calls (c ∷ cs) = with_awaited (awaited_call (stored_view c)) (awaited_calls cs)

abbrev pub with_call : Call → OutstandingCall → OutstandingCall
with_call call o =
    record { xid = o.xid; send = o.send; call = Some call; is_forgotten = o.is_forgotten; read_at = o.read_at; offered = o.offered; given = o.given; claims = o.claims; room = o.room }

-- what was made again of each, with the call
abbrev pub with_calls : List Call → List OutstandingCall → List OutstandingCall
with_calls [] made = []
with_calls (call ∷ calls) [] = []
with_calls (call ∷ calls) (o ∷ made) = with_call call o ∷ with_calls calls made

-- ---- The loop

-- what was made so far, as the definitions see it
abbrev pub made_again : EndpointState → List OutstandingCall → CallsAgain
made_again e made = record { calls = map stored_view made; memory = e.link.state.memory; messages = e.link.state.send_queue.held }

-- the side with other memory and messages
abbrev pub resumed_link : LinkSide → CallsAgain → LinkSide
resumed_link link a = with_state (record link.state { memory = a.memory; send_queue = record link.state.send_queue { held = a.messages } }) link

-- Some calls were made again, from those before the first `i` of these: what holds of the endpoint and of them. Their xids rise and are those of
-- calls that were outstanding.
pub record AreResumed (len next : ℕ) (e : EndpointState) (calls : List OutstandingCall) (i : ℕ) (made : List OutstandingCall) : Type 0 where
  pub staging : length e.staging ≡ FPDU_MAX
  pub live : e.link.state.ended ≡ None
  pub outside : NothingOutside e
  pub link : LinkFits len e.link.state
  pub few : length made ≤ i
  pub messages : length e.link.state.send_queue.held ≡ length made
  pub numbers : AreRisingBy send_of made (length made)
  pub rising : AreRising made next
  pub before : AllByRecursion (λ (c : OutstandingCall). AllByRecursion (λ (o : OutstandingCall). o.xid < c.xid) made) (drop i calls)
  pub known : (xid : ℕ) → find (λ (c : OutstandingCall). c.xid == xid) calls ≡ None → find (λ (o : OutstandingCall). o.xid == xid) made ≡ None
  pub held : AreHeldFrom e.link.state.memory 0 (all_claims made)
  pub offers : AllByRecursion OffersOwn made
  pub rooms : AllByRecursion (HasRoom len) made
  pub each : AllByRecursion (CallFits len) made
  pub regions : (size : ℕ → ℕ) → IsCount size → RegionsHave size e.link.state.memory (claims_total size made)

-- A call was made again, or nothing was if its owner doesn't await the answer.
pub record MadeOne (credit len : ℕ) (c : OutstandingCall) (call : Call) (e e2 : EndpointState) (made made2 : List OutstandingCall) : Type 0 where
  pub one : OutstandingCall
  pub more : made2 ≡ made ++ one ∷ []
  pub stored : stored_view (with_call call one) ≡ stored_call c.xid (length made) call (plan_again (stored_view c) call) e.link.state.memory
  pub link : e2.link ≡ with_held_call c.xid credit (plan_again (stored_view c) call) e.link
  pub staging : e2.staging ≡ e.staging
  pub outside : NothingOutside e → NothingOutside e2
  pub held : SentHeld e.link.state.memory e2.link.state.memory one.claims
  pub offer : IsOfferOf one.claims one.offered
  pub room : (one.room.len ≡ len + (total (plan_again (stored_view c) call).write + (total (plan_again (stored_view c) call).reply + 3))) × (one.room.len < 2 ^ 32)
  pub empty : one.room.bytes ≡ []

abbrev pub IsMadeAgain : (credit len : ℕ) → OutstandingCall → Option Call → (e e2 : EndpointState) → (made made2 : List OutstandingCall) → Type 0
IsMadeAgain credit len c None e e2 made made2 = (e2 ≡ e) × (made2 ≡ made)
IsMadeAgain credit len c (Some call) e e2 made made2 = MadeOne credit len c call e e2 made made2

-- the calls that are outstanding when a link is left
pub record AreLeft (len next : ℕ) (calls : List OutstandingCall) : Type 0 where
  pub own : AllByRecursion OffersOwn calls
  pub rising : AreRising calls next
  pub fits : AllByRecursion (CallFits len) calls

-- Of those before the first `i` all that go on were made again, on an endpoint that was `first` before.
pub record AreResuming (credit len next : ℕ) (first e : EndpointState) (calls : List OutstandingCall) (i : ℕ) (made : List OutstandingCall) : Type 0 where
  pub left : AreLeft len next calls
  pub resumed : AreResumed len next e calls i (with_calls (awaited_calls (take i calls)) made)
  pub again : calls_again_from credit (map stored_view (drop i calls)) (made_again e (with_calls (awaited_calls (take i calls)) made)) ≡ calls_again_from credit (map stored_view calls) (made_again first [])
  pub link : e.link ≡ resumed_link first.link (made_again e [])
  pub count : length made ≡ length (awaited_calls (take i calls))
  pub stags : e.link.state.memory.next + stags_for_calls (map stored_view (drop i calls)) ≤ 2 ^ 32

-- the next link of a side, with all calls that go on
pub record IsNextLink (credit : ℕ) (left : LinkState) (next : ℕ) (e : EndpointState) (calls made : List OutstandingCall) : Type 0 where
  pub resumed : AreResumed left.receive_queue.receive_length next e calls (length calls) (with_calls (awaited_calls calls) made)
  pub again : made_again e (with_calls (awaited_calls calls) made) ≡ calls_again_from credit (map stored_view calls) (record { calls = []; memory = initial_memory left.memory.next; messages = [] })
  pub link : e.link ≡ resumed_link (initial_link Initiator 1 left.memory.next left.terms (last_agreed left)) (made_again e [])
  pub count : length made ≡ length (awaited_calls calls)

-- the first of some messages that are held back; no bytes if there is none
abbrev pub first_message : List (List ℕ) → List ℕ
first_message [] = []
first_message (message ∷ messages) = message

-- the xids of some calls rise
abbrev pub RiseBy : List StoredCall → Type 0
RiseBy [] = Unit {0}
RiseBy (c ∷ cs) = AllByRecursion (λ (d : StoredCall). c.xid < d.xid) cs × RiseBy cs
