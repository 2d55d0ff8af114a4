-- One more call: from the side's new state to the list of calls.
use Rattle.std.proofs.Common.{◌≡◌, ℕ, ◌≤◌, List, [], ◌∷◌, ◌++◌, length, take, Bool, true, false, cond, is_some, Option, None, Some, Result, Ok, Err, refl, sym, ap, subst, ◌∙◌, if◌then◌else◌}
use Rattle.std.specs.Prelude.{OnOk, IsErr}
use Rattle.nr_link.specs.declared.end.End.{End}
use Rattle.nr_regions.specs.declared.right.Right.{Right}
use Rattle.nr_regions.specs.RegisteredMemory.{after_invalidate, after_register, after_release}
use Rattle.nr_link.specs.declared.end.End.TheVariants as ends
use Rattle.nr_endpoint.specs.SendQueue.{with_send_by, with_held, with_held_sent, with_write, with_request, writable, written}
use Rattle.nr_endpoint.specs.Offering.{send_call}
use Rattle.nr_endpoint.specs.ReceiveQueue.{delivered, posted}
use Rattle.nr_endpoint.specs.LinkState.{LinkSide, LinkState, has_ended}
use Rattle.nr_endpoint.specs.Judging.{with_end_of}
use Rattle.std.specs.Ordering.{nat_cmp}
use Rattle.std.specs.FinMap.{FinMap}
use Rattle.nr_regions.specs.RegisteredMemory.{Outside}
use Rattle.nr_endpoint.specs.EndpointState.{EndpointState}
use Rattle.nr_endpoint.specs.Calls.{Call, after_call, after_calls, StandsOn, StandsOnAll, with_state, unless_ended, ended_link}
use Rattle.nr_endpoint.specs.Calls.Call.{NextEvent, Post, Stop, OutOfMemory, Hold, SendHeld, WriteRemote, ReadRemote, Drain, Register, Release, Invalidate}

pub after_calls_append : (link : LinkSide) (calls : List Call) (call : Call) → after_calls link (calls ++ call ∷ []) ≡ after_call (after_calls link calls) call
unfolding after_calls
after_calls_append link [] call = refl
after_calls_append link (first ∷ calls) call = after_calls_append (after_call link first) calls call

after_calls_append_all : (link : LinkSide) (calls more : List Call) → after_calls link (calls ++ more) ≡ after_calls (after_calls link calls) more
unfolding after_calls
after_calls_append_all link [] more = refl
after_calls_append_all link (first ∷ calls) more = after_calls_append_all (after_call link first) calls more

pub stands_on_all : (before : LinkSide) (more : List Call) (after : LinkSide) → after ≡ after_calls before more → StandsOnAll before more after
stands_on_all before more after is = λ start calls stands. is ∙ ap (λ (link : LinkSide). after_calls link more) stands ∙ sym (after_calls_append_all start calls more)

pub stands_on : (before : LinkSide) (call : Call) (after : LinkSide) → after ≡ after_call before call → StandsOn before call after
stands_on before call after is = λ start calls stands. is ∙ ap (λ (link : LinkSide). after_call link call) stands ∙ sym (after_calls_append start calls call)

-- what holds of the fields holds of the value
pub seen : {room : ℕ} {outside : FinMap nat_cmp Outside} (before : LinkSide) (staging : List ℕ) (now : EndpointState) (after : LinkSide) (call : Call) → record { link = before; staging = staging; room = room; outside = outside } ≡ now →
    after ≡ after_call before call → after ≡ after_call now.link call
seen before staging now after call view is = is ∙ ap (λ (e : EndpointState). after_call e.link call) view

pub on_ok : {T E : Type 0} {P Q : Type 0} (r : Result T E) → (P → Q) → OnOk r P → OnOk r Q
on_ok (Ok x) f p = f p
on_ok (Err e) f p = p

-- ---- Each call

pub told_state : (l : LinkSide) (t : LinkState) → t ≡ record l.state { receive_queue = delivered l.state.receive_queue } → with_state t l ≡ after_call l NextEvent
unfolding after_call
told_state l t is = ap (λ (s : LinkState). with_state s l) is

pub posted_state : (l : LinkSide) (t : LinkState) → t ≡ record l.state { receive_queue = posted l.state.receive_queue } → with_state t l ≡ after_call l Post
unfolding after_call
posted_state l t is = ap (λ (s : LinkState). with_state s l) is

pub live_state : (s after : LinkState) → s.ended ≡ None → unless_ended s after ≡ after
live_state s after none = ap (λ (b : Bool). cond b s after) (ap (λ (e : Option End). is_some e) none)

pub stopped_state : (l : LinkSide) (t : LinkState) (reason : ℕ) → l.state.ended ≡ None → t ≡ with_end_of (ends.Bad l.state.last reason) l.state → ended_link t l ≡ after_call l (Stop reason)
unfolding after_call
stopped_state l t reason none is = ap (λ (s : LinkState). ended_link s l) (is ∙ sym (live_state l.state _ none))

pub out_of_memory_state : (l : LinkSide) (t : LinkState) → l.state.ended ≡ None → t ≡ record l.state { ended = Some ends.Memory } → ended_link t l ≡ after_call l OutOfMemory
unfolding after_call
out_of_memory_state l t none is = ap (λ (s : LinkState). ended_link s l) (is ∙ sym (live_state l.state _ none))

pub sent_state : (l : LinkSide) (t : LinkState) (named : Option ℕ) (message : List ℕ) → t ≡ unless_ended l.state (record l.state { send_queue = with_send_by named message l.state.send_queue }) → with_state t l ≡ after_call l (send_call named message)
unfolding after_call
sent_state l t None message is = ap (λ (s : LinkState). with_state s l) is
sent_state l t (Some stag) message is = ap (λ (s : LinkState). with_state s l) is

pub held_state : (l : LinkSide) (t : LinkState) (message : List ℕ) → t ≡ unless_ended l.state (record l.state { send_queue = with_held message l.state.send_queue }) → with_state t l ≡ after_call l (Hold message)
unfolding after_call
held_state l t message is = ap (λ (s : LinkState). with_state s l) is

pub held_sent_state : (l : LinkSide) (t : LinkState) (message : List ℕ) → t ≡ unless_ended l.state (record l.state { send_queue = with_held_sent message l.state.send_queue }) → with_state t l ≡ after_call l (SendHeld message)
unfolding after_call
held_sent_state l t message is = ap (λ (s : LinkState). with_state s l) is

pub written_state : (l : LinkSide) (t : LinkState) (stag to : ℕ) (bytes : List ℕ) → t ≡ unless_ended l.state (record l.state { send_queue = with_write stag to bytes l.state.send_queue }) →
    with_state t l ≡ after_call l (WriteRemote stag to bytes)
unfolding after_call
written_state l t stag to bytes is = ap (λ (s : LinkState). with_state s l) is

pub read_state : (l : LinkSide) (t : LinkState) (sink at stag to len : ℕ) → t ≡ unless_ended l.state (record l.state {
  send_queue = with_request sink at len stag to l.state.send_queue;
  reads = l.state.reads ++ record { sink = sink; at = at; left = len } ∷ [];
}) →
    with_state t l ≡ after_call l (ReadRemote sink at stag to len)
unfolding after_call
read_state l t sink at stag to len is = ap (λ (s : LinkState). with_state s l) is

pub drained_state : (l : LinkSide) (t : LinkState) (n : ℕ) → t ≡ record l.state { send_queue = written n l.state.send_queue } → with_state t l ≡ after_call l (Drain n)
unfolding after_call
drained_state l t n is = ap (λ (s : LinkState). with_state s l) is

pub registered_state : (l : LinkSide) (t : LinkState) (buf : List ℕ) (right : Right) → t ≡ record l.state { memory = after_register l.state.memory right buf } → with_state t l ≡ after_call l (Register buf right)
unfolding after_call
registered_state l t buf right is = ap (λ (s : LinkState). with_state s l) is

pub released_state : (l : LinkSide) (t : LinkState) (stag : ℕ) → t ≡ record l.state { memory = after_release l.state.memory stag } → with_state t l ≡ after_call l (Release stag)
unfolding after_call
released_state l t stag is = ap (λ (s : LinkState). with_state s l) is

pub invalidated_state : (l : LinkSide) (t : LinkState) (stag : ℕ) → t ≡ record l.state { memory = after_invalidate l.state.memory stag } → with_state t l ≡ after_call l (Invalidate stag)
unfolding after_call
invalidated_state l t stag is = ap (λ (s : LinkState). with_state s l) is

-- ---- If a call does nothing, or some of it

pub told_if : {room : ℕ} {outside : FinMap nat_cmp Outside} (b : Bool) (l : LinkSide) (staging : List ℕ) (now : EndpointState) (t : LinkState) → record { link = l; staging = staging; room = room; outside = outside } ≡ now →
    t ≡ (if b then record l.state { receive_queue = delivered l.state.receive_queue } else l.state) → with_state t l ≡ (if b then after_call now.link NextEvent else now.link)
told_if true l staging now t view is = seen l staging now (with_state t l) NextEvent view (told_state l t is)
told_if false l staging now t view is = ap (λ (s : LinkState). with_state s l) is ∙ ap (λ (e : EndpointState). e.link) view

pub told_stands : (b : Bool) (before after : LinkSide) → after ≡ (if b then after_call before NextEvent else before) → b ≡ true → StandsOn before NextEvent after
told_stands true before after is = λ holds. stands_on before NextEvent after is
told_stands false before after is = λ holds. absurd cc

-- if a result is an error, nothing is asked of `Ok`
pub on_err : {T E : Type 0} (r : Result T E) → IsErr r → (Q : Type 0) → OnOk r Q
on_err (Ok x) is Q = absurd cc
on_err (Err e) is Q = cc

-- After a drain of some bytes: they were taken, as this says, and they are all, if that was said.
abbrev pub IsDrained : (List ℕ → Type 0) → (ℕ → ℕ → Type 0) → LinkSide → LinkSide → Type 0
IsDrained IsTaken IsAll before after =
    (n : ℕ) × (n ≤ length (writable before.state.has_hello before.state.send_queue)) × IsTaken (take n (writable before.state.has_hello before.state.send_queue))
    × (after ≡ after_call before (Drain n)) × StandsOn before (Drain n) after
    × IsAll n (length (writable before.state.has_hello before.state.send_queue))

abbrev pub WasDrained : (List ℕ → Type 0) → (ℕ → ℕ → Type 0) → LinkState → LinkState → Type 0
WasDrained IsTaken IsAll s t =
    (n : ℕ) × (n ≤ length (writable s.has_hello s.send_queue)) × (t ≡ record s { send_queue = written n s.send_queue })
    × IsTaken (take n (writable s.has_hello s.send_queue)) × IsAll n (length (writable s.has_hello s.send_queue))

pub drained : {room : ℕ} {outside : FinMap nat_cmp Outside} (IsTaken : List ℕ → Type 0) (WasAll IsAll : ℕ → ℕ → Type 0) → ((n len : ℕ) → WasAll n len → IsAll n len) → (before : LinkSide) (staging : List ℕ) (now : EndpointState) (t : LinkState) →
    record { link = before; staging = staging; room = room; outside = outside } ≡ now → WasDrained IsTaken WasAll before.state t → IsDrained IsTaken IsAll now.link (with_state t before)
drained IsTaken WasAll IsAll on before staging now t view (n, fits, is, took, all) =
    let same : with_state t before ≡ after_call before (Drain n) = drained_state before t n is in
    let done : IsDrained IsTaken IsAll before (with_state t before) = (n, fits, took, same, stands_on before (Drain n) (with_state t before) same, on n (length (writable before.state.has_hello before.state.send_queue)) all) in
    subst (λ (e : EndpointState). IsDrained IsTaken IsAll e.link (with_state t before)) view done

-- ---- An end

-- a side that has ended keeps no input
pub stopped : {room : ℕ} {outside : FinMap nat_cmp Outside} (before : LinkSide) (staging : List ℕ) (now : EndpointState) (t : LinkState) (reason : ℕ) → record { link = before; staging = staging; room = room; outside = outside } ≡ now → now.link.state.ended ≡ None →
    t ≡ with_end_of (ends.Bad before.state.last reason) before.state → ended_link t before ≡ after_call now.link (Stop reason)
stopped before staging now t reason view none is =
    seen before staging now (ended_link t before) (Stop reason) view (stopped_state before t reason (ap (λ (e : EndpointState). e.link.state.ended) view ∙ none) is)

pub out_of_memory : {room : ℕ} {outside : FinMap nat_cmp Outside} (before : LinkSide) (staging : List ℕ) (now : EndpointState) (t : LinkState) → record { link = before; staging = staging; room = room; outside = outside } ≡ now → now.link.state.ended ≡ None →
    t ≡ record before.state { ended = Some ends.Memory } → ended_link t before ≡ after_call now.link OutOfMemory
out_of_memory before staging now t view none is =
    seen before staging now (ended_link t before) OutOfMemory view (out_of_memory_state before t (ap (λ (e : EndpointState). e.link.state.ended) view ∙ none) is)

-- one that has ended already stays as it is
pub memory_kept : (l : LinkSide) → has_ended l.state ≡ true → l.rest ≡ [] → l ≡ after_call l OutOfMemory
unfolding after_call
memory_kept l over none =
    λ i. record { awaited = l.awaited; rest = none i; state = sym (ap (λ (b : Bool). cond b l.state (record l.state { ended = Some ends.Memory })) over) i }
