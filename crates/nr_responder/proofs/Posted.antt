-- Receives that are posted again, one by one.
use Rattle.std.proofs.Common.{◌≡◌, ℕ, ◌+◌, ◌-◌, Bool, true, false, cond, List, Option, Some, None, refl, ap, ◌∙◌, arith, inl, inr, is_some}
use Rattle.std.specs.Prelude.{◌⊎◌, Result, Ok, Err, IfOk, IsOk}
use Rattle.nr_link.specs.declared.end.End.{End}
use Rattle.nr_link.specs.declared.end.End.TheVariants as ends
use Rattle.nr_endpoint.specs.ReceiveQueue.{delivered}
use Rattle.nr_endpoint.specs.LinkState.{LinkState, LinkSide, has_ended}
use Rattle.nr_endpoint.specs.Judging.{with_end_of}
use Rattle.nr_endpoint.specs.SendQueue.{with_send, with_end}
use Rattle.nr_endpoint.specs.Calls.{after_call}
use Rattle.nr_endpoint.specs.Calls.Call.{Post, Stop, OutOfMemory, Send, NextEvent}
use Rattle.nr_responder.specs.ResponderState.{posted_times}
use Rattle.nr_responder.specs.Sound.{SameInput}

pub post_more : (l m : LinkSide) (n : ℕ) → m ≡ posted_times n l → after_call m Post ≡ posted_times (n + 1) l
unfolding after_call
post_more l m n is =
    let free : l.state.receive_queue.free + n + 1 ≡ l.state.receive_queue.free + (n + 1) = omega arith in
    let lent : l.state.receive_queue.lent - n - 1 ≡ l.state.receive_queue.lent - (n + 1) = omega arith in
    ap (λ (x : LinkSide). after_call x Post) is
    ∙ (λ i. record { awaited = l.awaited; rest = l.rest; state = record l.state { receive_queue = record l.state.receive_queue { free = free i; lent = lent i } } })

pub lent_left : (l m : LinkSide) (n : ℕ) → m ≡ posted_times n l → m.state.receive_queue.lent ≡ l.state.receive_queue.lent - n
lent_left l m n is = ap (λ (x : LinkSide). x.state.receive_queue.lent) is

-- ---- The input stays, or is dropped

if_heard : (b : Bool) (s t : LinkState) → t.last ≡ s.last → t.client ≡ s.client → ((cond b s t).last ≡ s.last) × ((cond b s t).client ≡ s.client)
if_heard true s t last client = (refl, refl)
if_heard false s t last client = (last, client)

if_input : (b : Bool) (s t : LinkState) → t.receive_queue ≡ s.receive_queue → t.place ≡ s.place → t.send_queue.send_ends ≡ s.send_queue.send_ends → t.memory ≡ s.memory → ((cond b s t).receive_queue ≡ s.receive_queue) × (((cond b s t).place ≡ s.place) × (((cond b s t).send_queue.send_ends ≡ s.send_queue.send_ends) × ((cond b s t).memory ≡ s.memory)))
if_input true s t queue place ends memory = (refl, (refl, (refl, refl)))
if_input false s t queue place ends memory = (queue, (place, (ends, memory)))

-- the side stops, or runs out of memory
pub record StaysAs (l m : LinkSide) : Type 0 where
  pub input : SameInput l m
  pub ends_are : m.state.send_queue.send_ends ≡ l.state.send_queue.send_ends
  pub memory : m.state.memory ≡ l.state.memory

pub stopped_as : (l m : LinkSide) (reason : ℕ) → m ≡ after_call l (Stop reason) → StaysAs l m
unfolding after_call with_end
stopped_as l m reason is =
    let both = if_input (has_ended l.state) l.state (with_end_of (ends.Bad l.state.last reason) l.state) refl refl refl refl in
    let heard = if_heard (has_ended l.state) l.state (with_end_of (ends.Bad l.state.last reason) l.state) refl refl in
    record {
      input = record {
        queue = ap (λ (x : LinkSide). x.state.receive_queue) is ∙ both.0;
        place = ap (λ (x : LinkSide). x.state.place) is ∙ both.1.0;
        awaited = ap (λ (x : LinkSide). x.awaited) is;
        rest = inr (ap (λ (x : LinkSide). x.rest) is);
        last = ap (λ (x : LinkSide). x.state.last) is ∙ heard.0;
        client = ap (λ (x : LinkSide). x.state.client) is ∙ heard.1;
      };
      ends_are = ap (λ (x : LinkSide). x.state.send_queue.send_ends) is ∙ both.1.1.0;
      memory = ap (λ (x : LinkSide). x.state.memory) is ∙ both.1.1.1;
    }

pub memory_as : (l m : LinkSide) → m ≡ after_call l OutOfMemory → StaysAs l m
unfolding after_call
memory_as l m is =
    let both = if_input (has_ended l.state) l.state (record l.state { ended = Some ends.Memory }) refl refl refl refl in
    let heard = if_heard (has_ended l.state) l.state (record l.state { ended = Some ends.Memory }) refl refl in
    record {
      input = record {
        queue = ap (λ (x : LinkSide). x.state.receive_queue) is ∙ both.0;
        place = ap (λ (x : LinkSide). x.state.place) is ∙ both.1.0;
        awaited = ap (λ (x : LinkSide). x.awaited) is;
        rest = inr (ap (λ (x : LinkSide). x.rest) is);
        last = ap (λ (x : LinkSide). x.state.last) is ∙ heard.0;
        client = ap (λ (x : LinkSide). x.state.client) is ∙ heard.1;
      };
      ends_are = ap (λ (x : LinkSide). x.state.send_queue.send_ends) is ∙ both.1.1.0;
      memory = ap (λ (x : LinkSide). x.state.memory) is ∙ both.1.1.1;
    }

pub ended_as : (l m : LinkSide) (reason : ℕ) → (m ≡ after_call l (Stop reason)) ⊎ (m ≡ after_call l OutOfMemory) → StaysAs l m
ended_as l m reason (inl is) = stopped_as l m reason is
ended_as l m reason (inr is) = memory_as l m is

-- then it has ended
over_if : (s t : LinkState) (o : Option End) → s.ended ≡ o → is_some t.ended ≡ true → is_some (cond (is_some o) s t).ended ≡ true
over_if s t None same over = over
over_if s t (Some end) same over = ap is_some same

stopped_over : (l m : LinkSide) (reason : ℕ) → m ≡ after_call l (Stop reason) → is_some m.state.ended ≡ true
unfolding after_call with_end
stopped_over l m reason is = ap (λ (x : LinkSide). is_some x.state.ended) is ∙ over_if l.state (with_end_of (ends.Bad l.state.last reason) l.state) l.state.ended refl refl

pub memory_over : (l m : LinkSide) → m ≡ after_call l OutOfMemory → is_some m.state.ended ≡ true
unfolding after_call
memory_over l m is = ap (λ (x : LinkSide). is_some x.state.ended) is ∙ over_if l.state (record l.state { ended = Some ends.Memory }) l.state.ended refl refl

pub ended_over : (l m : LinkSide) (reason : ℕ) → (m ≡ after_call l (Stop reason)) ⊎ (m ≡ after_call l OutOfMemory) → is_some m.state.ended ≡ true
ended_over l m reason (inl is) = stopped_over l m reason is
ended_over l m reason (inr is) = memory_over l m is

-- memory ran out of a side that hadn't ended: it ends for that, and queues nothing
pub memory_ends : (l m : LinkSide) → l.state.ended ≡ None → m ≡ after_call l OutOfMemory → (m.state.ended ≡ Some ends.Memory) × (m.state.send_queue ≡ l.state.send_queue)
unfolding after_call
memory_ends l m live is =
    let state : m.state ≡ cond (has_ended l.state) l.state (record l.state { ended = Some ends.Memory }) = ap (λ (x : LinkSide). x.state) is in
    let now : m.state ≡ record l.state { ended = Some ends.Memory } = state ∙ ap (λ (o : Option End). cond (is_some o) l.state (record l.state { ended = Some ends.Memory })) live in
    (ap (λ (t : LinkState). t.ended) now, ap (λ (t : LinkState). t.send_queue) now)

-- ---- A Send is queued

pub sent_link : (l m : LinkSide) (message : List ℕ) → l.state.ended ≡ None → m ≡ after_call l (Send message) → m ≡ record { awaited = l.awaited; rest = l.rest; state = record l.state { send_queue = with_send message l.state.send_queue } }
unfolding after_call
sent_link l m message live is =
    is ∙ ap (λ (o : Option End). record { awaited = l.awaited; rest = l.rest; state = cond (is_some o) l.state (record l.state { send_queue = with_send message l.state.send_queue }) }) live

pub sent_input : (l m : LinkSide) (message : List ℕ) → l.state.ended ≡ None → m ≡ after_call l (Send message) → SameInput l m
sent_input l m message live is =
    let now = sent_link l m message live is in
    record {
      queue = ap (λ (x : LinkSide). x.state.receive_queue) now;
      place = ap (λ (x : LinkSide). x.state.place) now;
      awaited = ap (λ (x : LinkSide). x.awaited) now;
      rest = inl (ap (λ (x : LinkSide). x.rest) now);
      last = ap (λ (x : LinkSide). x.state.last) now;
      client = ap (λ (x : LinkSide). x.state.client) now;
    }

pub sent_memory : {E : Type 0} (made : Result (List ℕ) E) (l m : LinkSide) → l.state.ended ≡ None → IfOk made (λ x. m ≡ after_call l (Send x)) × IsOk made → m.state.memory ≡ l.state.memory
sent_memory (Ok x) l m live sent = ap (λ (y : LinkSide). y.state.memory) (sent_link l m x live sent.0)
sent_memory (Err e) l m live sent = absurd (let wrong : false ≡ true = sent.1 in cc)

-- ---- An event is delivered

pub record ToldLink (l m : LinkSide) : Type 0 where
  pub live : m.state.ended ≡ l.state.ended
  pub place : m.state.place ≡ l.state.place
  pub queue : m.state.receive_queue ≡ delivered l.state.receive_queue
  pub ends_are : m.state.send_queue.send_ends ≡ l.state.send_queue.send_ends
  pub memory : m.state.memory ≡ l.state.memory
  pub awaited : m.awaited ≡ l.awaited
  pub rest : m.rest ≡ l.rest
  pub last : m.state.last ≡ l.state.last
  pub client : m.state.client ≡ l.state.client

pub told_link_lem : (l m : LinkSide) → m ≡ after_call l NextEvent → ToldLink l m
unfolding after_call
told_link_lem l m is = record {
  live = ap (λ (x : LinkSide). x.state.ended) is;
  place = ap (λ (x : LinkSide). x.state.place) is;
  queue = ap (λ (x : LinkSide). x.state.receive_queue) is;
  ends_are = ap (λ (x : LinkSide). x.state.send_queue.send_ends) is;
  memory = ap (λ (x : LinkSide). x.state.memory) is;
  awaited = ap (λ (x : LinkSide). x.awaited) is;
  rest = ap (λ (x : LinkSide). x.rest) is;
  last = ap (λ (x : LinkSide). x.state.last) is;
  client = ap (λ (x : LinkSide). x.state.client) is;
}

-- an error message was queued, or memory ran out
pub refused_input : {E : Type 0} (made : Result (List ℕ) E) (l m : LinkSide) → l.state.ended ≡ None → (IfOk made (λ x. m ≡ after_call l (Send x)) × IsOk made) ⊎ (m ≡ after_call l OutOfMemory) → SameInput l m
refused_input (Ok x) l m live (inl sent) = sent_input l m x live sent.0
refused_input (Err e) l m live (inl sent) = absurd (let wrong : false ≡ true = sent.1 in cc)
refused_input made l m live (inr is) = (memory_as l m is).input
