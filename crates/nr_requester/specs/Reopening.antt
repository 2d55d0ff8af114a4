-- A requester leaves its link and begins the next one: its calls go on, with their buffers under new STags, and their Sends wait to be sent again.
use Rattle.std.specs.Prelude.{◌≡◌, ◌≢◌, ℕ, ◌+◌, ◌-◌, ◌≤◌, nat_lt, Bool, if◌then◌else◌, List, [], ◌∷◌, ◌++◌, length, map, Option, None, Some, is_some}
use Rattle.std.specs.List.{AllByRecursion}
use Rattle.nr_regions.specs.RegisteredMemory.{RegisteredMemory, initial_memory}
use Rattle.nr_link.specs.Agreement.{IsSendLimit}
use Rattle.nr_link.specs.declared.end.End.{End}
use Rattle.nr_wire.specs.declared.hello.Side.TheVariants.{Initiator, Responder}
use Rattle.nr_wire.specs.declared.stream.Awaited.TheVariants.{Hello as HelloFrom}
use Rattle.nr_endpoint.specs.Hellos.{first_private}
use Rattle.nr_endpoint.specs.LinkState.{LinkState, initial_state, last_agreed}
use Rattle.nr_endpoint.specs.SendQueue.{initial_queue}
use Rattle.nr_reduce.specs.declared.call.Call.{Call}
use Rattle.nr_reduce.specs.declared.call.Refused.{Refused}
use Rattle.nr_reduce.specs.declared.call.Refused.TheVariants as refusals
use Rattle.nr_reduce.specs.declared.mark.Mark.{Mark}
use Rattle.nr_reduce.specs.declared.mark.Mark.TheVariants as marks
use Rattle.nr_reduce.specs.declared.mark.LinkParameters.{LinkParameters}
use Rattle.nr_reduce.specs.declared.outline.Plan.{Plan}
use Rattle.nr_reduce.specs.Limits.{numbers_end}
use Rattle.nr_reduce.specs.Plans.{buffers, call_message, regions_needed}
use Rattle.nr_reduce.specs.PlansByLists.{plan_by_lists}
use Rattle.nr_reduce.specs.ClientState.{WaitingCall, call_payload, stag_after, waiting_from}
use Rattle.nr_reduce.specs.KeptClient.{registered_all, resumed_kept, resumed_memory}
use Rattle.nr_reduce.specs.Reopening.{reopened}
use Rattle.nr_reduce.specs.Asked.{AskedSoFar}
use Rattle.nr_reduce.specs.Opening.{IsOpened, lengths_before}
use Rattle.nr_requester.specs.RequesterState.{StoredCall, RequesterState, RequesterSide, awaited_call, kept_call}
use Rattle.nr_requester.specs.AfterCalls.{stored_call}
use Rattle.nr_requester.specs.ReopenedLinks.{RequesterKeeps, KeepsEarlier, next_own, earlier_own}

-- the plan of a call, made again of what is kept of it
abbrev pub plan_again : StoredCall → Call → Plan
plan_again c call = plan_by_lists (call_payload c.xid call) c.read_at c.offered

-- ---- The calls that go on: those whose owner awaits the answer

-- What is made of them: the calls, each with the number of its Send, from `send` on; the registered memory; and the messages of the Sends that wait, with
-- this credit word, in their order.
pub record CallsAgain : Type 0 where
  pub calls : List StoredCall
  pub memory : RegisteredMemory
  pub messages : List (List ℕ)

abbrev pub with_call_again : ℕ → (credit : ℕ) → StoredCall → Call → CallsAgain → CallsAgain
with_call_again send credit c call a = record {
  calls = a.calls ++ stored_call c.xid send call (plan_again c call) a.memory ∷ [];
  memory = registered_all a.memory (buffers a.memory.next (plan_again c call));
  messages = a.messages ++ call_message c.xid credit a.memory.next (plan_again c call) ∷ [];
}

abbrev pub call_again : (credit : ℕ) → StoredCall → Option Call → CallsAgain → CallsAgain
call_again credit c None a = a
call_again credit c (Some call) a = with_call_again (length a.calls) credit c call a

abbrev pub calls_again_from : (credit : ℕ) → List StoredCall → CallsAgain → CallsAgain
calls_again_from credit [] a = a
calls_again_from credit (c ∷ cs) a = calls_again_from credit cs (call_again credit c (awaited_call c) a)

-- under STags from the next one on
unfoldable pub calls_again : RequesterState → CallsAgain
calls_again r = calls_again_from r.wished r.outstanding (record { calls = []; memory = initial_memory r.side.memory.next; messages = [] })

-- ---- Whether it leaves its link

abbrev pub stags_for_call : StoredCall → Option Call → ℕ
stags_for_call c None = 0
stags_for_call c (Some call) = regions_needed (plan_again c call)

abbrev pub stags_for_calls : List StoredCall → ℕ
stags_for_calls [] = 0
stags_for_calls (c ∷ cs) = stags_for_call c (awaited_call c) + stags_for_calls cs

abbrev pub unless_stags_spent : (left need : ℕ) → Option Refused
unless_stags_spent left need = if nat_lt left need then Some (refusals.Spent left need) else None

abbrev pub reopen_refusal_by : RequesterState → Option End → Option Refused
reopen_refusal_by r (Some end) = Some (refusals.Ended end)
reopen_refusal_by r None = unless_stags_spent (numbers_end - r.side.memory.next) (stags_for_calls r.outstanding)

-- It doesn't if its link has ended, or if too few STags are left for its calls.
unfoldable pub reopen_refusal : RequesterState → Option Refused
reopen_refusal r = reopen_refusal_by r r.side.ended

-- ---- What it keeps for the next link

-- these calls, this memory and these messages are those with which the client of the next link is opened
pub record OpensNext (next : LinkParameters) (r : RequesterState) (a : CallsAgain) : Type 0 where
  pub calls : map (kept_call 0) a.calls ≡ resumed_kept 0 next.first_stag next.resumed
  pub memory : a.memory ≡ resumed_memory (initial_memory next.first_stag) next.resumed
  pub messages : a.messages ≡ map (λ w. call_message w.xid next.wished w.stag w.plan) (waiting_from next.first_stag next.resumed)
  pub count : length a.calls ≡ length next.resumed
  pub xid : r.next_xid ≡ next.first_xid
  pub wished : r.wished ≡ next.wished
  pub terms : r.side.terms ≡ next.client
  pub agreed : last_agreed r.side ≡ next.agreed
  pub stags : stag_after next.first_stag next.resumed ≡ r.side.memory.next + stags_for_calls r.outstanding

-- A requester that stands for the marks of its link, which has kept the client's law and hasn't ended, keeps what its next link is opened with.
abbrev pub CallsGoOn : Type 0
CallsGoOn = (is_own : ℕ → Bool) (earlier : ℕ) (opened : LinkParameters) (link : ℕ) (h : RequesterSide) (run : List Mark) → IsOpened opened → AskedSoFar opened link run →
    RequesterKeeps is_own earlier opened link h run → h.state.side.ended ≡ None → OpensNext (reopened opened link run) h.state (calls_again h.state)

-- ---- The next link

-- Its side: a hello waits, and the Sends of its calls are held back. A hello of the server's has to agree on what the last one did.
abbrev pub next_side : RequesterState → LinkState
next_side r = record (initial_state Initiator 1 r.side.memory.next r.side.terms (last_agreed r.side)) {
  memory = (calls_again r).memory;
  send_queue = record (initial_queue Initiator (first_private r.side.terms Initiator)) { held = (calls_again r).messages };
}

-- The requester goes on with its xids, its answers and its count of marks.
unfoldable pub after_reopen : RequesterSide → (staging : List ℕ) → RequesterSide
after_reopen h staging = record {
  awaited = HelloFrom Responder;
  rest = [];
  state = record h.state { side = next_side h.state; sent = 0; sends = 0; grant = 1; outstanding = (calls_again h.state).calls };
  staging = staging;
  marks = h.marks;
}

-- the link of a mark
abbrev pub link_of : Mark → ℕ
link_of (marks.Submit link call form answer) = link
link_of (marks.Wrote link side bytes) = link
link_of (marks.Fed link side bytes) = link
link_of (marks.Execute link xid moment payload place reply) = link
link_of (marks.Done link xid outcome) = link
link_of (marks.Lost link xid) = link
link_of (marks.Forget link xid) = link
link_of (marks.Revoke link xid bytes) = link
link_of (marks.Drop link) = link
link_of (marks.Told link what) = link

-- these marks have none of a link
abbrev pub HasNoMark : (link : ℕ) → List Mark → Type 0
HasNoMark link run = AllByRecursion (λ mark. link_of mark ≢ link) run

-- So a requester that leaves its link stands for no marks of the next one, and keeps the answers of the one that it left.
abbrev pub ReopenStands : RequesterSide → RequesterSide → Type 0
ReopenStands before after = (is_own : ℕ → Bool) (earlier : ℕ) (opened : LinkParameters) (link next : ℕ) (run : List Mark) → IsOpened opened → AskedSoFar opened link run →
    RequesterKeeps is_own earlier opened link before run → HasNoMark next run →
    RequesterKeeps (next_own before.state) before.marks (reopened opened link run) next after run × KeepsEarlier (earlier_own is_own before.state) opened link after run

abbrev pub NextBegins : Type 0
NextBegins = (h : RequesterSide) (staging : List ℕ) → h.state.side.ended ≡ None → ReopenStands h (after_reopen h staging)

-- The lengths of Sends that an earlier hello agreed on, if there was one, are from one unit to the most units.
abbrev pub AgreedInRange : LinkParameters → Type 0
AgreedInRange opened = IsSendLimit (lengths_before opened.agreed).up × IsSendLimit (lengths_before opened.agreed).down

-- If the link that it leaves was opened in range, and its client kept the law there, so is the next one.
abbrev pub NextIsOpened : RequesterSide → Type 0
NextIsOpened before = (is_own : ℕ → Bool) (earlier : ℕ) (opened : LinkParameters) (link : ℕ) (run : List Mark) → IsOpened opened → AgreedInRange opened → AskedSoFar opened link run →
    RequesterKeeps is_own earlier opened link before run → IsOpened (reopened opened link run) × AgreedInRange (reopened opened link run)

abbrev pub NextLinksAreOpened : Type 0
NextLinksAreOpened = (h : RequesterSide) → reopen_refusal h.state ≡ None → h.state.next_xid ≤ numbers_end → NextIsOpened h
