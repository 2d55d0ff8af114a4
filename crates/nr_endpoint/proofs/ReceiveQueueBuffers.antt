-- What a receive queue keeps of its buffers, and what it delivers: when a read is done, when a message comes, when an event
-- is delivered.
use Rattle.std.proofs.Common.{◌≡◌, ℕ, zero, suc, ◌+◌, ◌-◌, ◌<◌, ◌≤◌, nat_lt, true, List, [], ◌∷◌, ◌++◌, length, take, replicate, Option, refl, sym, ap, ◌∙◌, arith, append_assoc, length-append}
use Rattle.std.proofs.lemmas.List.{length-replicate, replicate_more}
use Rattle.std.proofs.lemmas.List.Elements.{All-head, All-tail, All-rest, All-cons}
use Rattle.nr_endpoint.specs.ReceiveQueue.{DeliveredEvent, messages_in}
use Rattle.nr_endpoint.specs.ReceiveQueue.DeliveredEvent.{MessageReceived, ReadDone}
use Rattle.nr_endpoint.specs.Receives.{InBuffer, AreReceives}
use Rattle.nr_endpoint.specs.Views.{deliveries, reads_first, without_first_read}
use Rattle.nr_endpoint.specs.declared.receive_queue.BegunSend.{BegunSend}
use Rattle.nr_endpoint.specs.declared.receive_queue.ReceivedMessage.{ReceivedMessage}

-- ---- What it delivers

-- the same reads stand before the events of the other messages
behind : (m : ReceivedMessage) (xs ys : List DeliveredEvent) (zs : List DeliveredEvent) → xs ≡ ys ++ zs →
    replicate m.reads_done ReadDone ++ MessageReceived m.number m.invalidated (take m.len m.buf) ∷ xs ≡ (replicate m.reads_done ReadDone ++ MessageReceived m.number m.invalidated (take m.len m.buf) ∷ ys) ++ zs
behind m xs ys zs is =
    ap (λ (list : List DeliveredEvent). replicate m.reads_done ReadDone ++ MessageReceived m.number m.invalidated (take m.len m.buf) ∷ list) is
    ∙ sym (append_assoc (replicate m.reads_done ReadDone) (MessageReceived m.number m.invalidated (take m.len m.buf) ∷ ys) zs)

-- one more read was done
pub deliveries_read : (messages : List ReceivedMessage) (reads_done : ℕ) → deliveries messages (reads_done + 1) ≡ deliveries messages reads_done ++ ReadDone ∷ []
deliveries_read [] reads_done = sym (replicate_more reads_done ReadDone)
deliveries_read (m ∷ messages) reads_done = behind m (deliveries messages (reads_done + 1)) (deliveries messages reads_done) (ReadDone ∷ []) (deliveries_read messages reads_done)

-- a message came: the reads that were done since the last one stand before it
pub deliveries_message : (messages : List ReceivedMessage) (reads_done number : ℕ) (named : Option ℕ) (buf : List ℕ) (len : ℕ) →
    deliveries (messages ++ record { reads_done = reads_done; number = number; invalidated = named; buf = buf; len = len } ∷ []) 0 ≡ deliveries messages reads_done ++ MessageReceived number named (take len buf) ∷ []
deliveries_message [] reads_done number named buf len = refl
deliveries_message (m ∷ messages) reads_done number named buf len =
    behind m (deliveries (messages ++ record { reads_done = reads_done; number = number; invalidated = named; buf = buf; len = len } ∷ []) 0) (deliveries messages reads_done) (MessageReceived number named (take len buf) ∷ []) (deliveries_message messages reads_done number named buf len)

-- the reads that are counted are among the events
pub reads_within : (messages : List ReceivedMessage) (reads_done : ℕ) → reads_done ≤ length (deliveries messages reads_done)
reads_within [] reads_done = omega (arith, length-replicate reads_done ReadDone)
reads_within (m ∷ messages) reads_done =
    omega (arith, reads_within messages reads_done, length-append (replicate m.reads_done ReadDone) (MessageReceived m.number m.invalidated (take m.len m.buf) ∷ deliveries messages reads_done))

-- how many of the events are of messages
messages_in_reads : (n : ℕ) (others : List DeliveredEvent) → messages_in (replicate n ReadDone ++ others) ≡ messages_in others
messages_in_reads zero others = refl
messages_in_reads (suc n) others = messages_in_reads n others

pub messages_in_deliveries : (messages : List ReceivedMessage) (reads_done : ℕ) → messages_in (deliveries messages reads_done) ≡ length messages
messages_in_deliveries [] reads_done = by reads_done
  where
    by : (n : ℕ) → messages_in (replicate n ReadDone) ≡ 0
    by zero = refl
    by (suc n) = by n
messages_in_deliveries (m ∷ messages) reads_done =
    let first : messages_in (deliveries (m ∷ messages) reads_done) ≡ 1 + messages_in (deliveries messages reads_done) = messages_in_reads m.reads_done (MessageReceived m.number m.invalidated (take m.len m.buf) ∷ deliveries messages reads_done) in
    omega (arith, first, messages_in_deliveries messages reads_done)

-- what is delivered is a read that was done before the first message, or after the last one
pub deliveries_first_read : (messages : List ReceivedMessage) (reads_done : ℕ) → nat_lt 0 (reads_first messages) ≡ true →
    deliveries messages reads_done ≡ ReadDone ∷ deliveries (without_first_read messages) reads_done
deliveries_first_read [] reads_done some = absurd cc
deliveries_first_read (m ∷ messages) reads_done some = by m.reads_done some
  where
    by : (n : ℕ) → nat_lt 0 n ≡ true →
        replicate n ReadDone ++ MessageReceived m.number m.invalidated (take m.len m.buf) ∷ deliveries messages reads_done ≡ ReadDone ∷ (replicate (n - 1) ReadDone ++ MessageReceived m.number m.invalidated (take m.len m.buf) ∷ deliveries messages reads_done)
    by zero s = absurd cc
    by (suc n) s =
        let less : n ≡ suc n - 1 = omega arith in
        ap (λ (k : ℕ). ReadDone ∷ (replicate k ReadDone ++ MessageReceived m.number m.invalidated (take m.len m.buf) ∷ deliveries messages reads_done)) less

pub deliveries_last_read : (messages : List ReceivedMessage) (reads_done : ℕ) → messages ≡ [] → 0 < reads_done → deliveries messages reads_done ≡ ReadDone ∷ deliveries messages (reads_done - 1)
deliveries_last_read [] zero none some = absurd (omega (arith, some))
deliveries_last_read [] (suc n) none some =
    let less : n ≡ suc n - 1 = omega arith in
    ap (λ (k : ℕ). ReadDone ∷ replicate k ReadDone) less
deliveries_last_read (m ∷ messages) reads_done none some = absurd (omega (arith, ap (λ (list : List ReceivedMessage). length list) none))

-- ---- Its buffers

pub with_read_told : (n : ℕ) (free : List (List ℕ)) (begun : Option BegunSend) (messages : List ReceivedMessage) (lent receives room message_room : ℕ)
    → AreReceives n free begun messages lent receives room message_room
    → AreReceives n free begun (without_first_read messages) lent receives room message_room
with_read_told n free begun [] lent receives room message_room a = a
with_read_told n free begun (m ∷ messages) lent receives room message_room a = record {
  free_len = a.free_len;
  begun_len = a.begun_len;
  messages_len = All-cons (InBuffer n) (record { reads_done = m.reads_done - 1; number = m.number; invalidated = m.invalidated; buf = m.buf; len = m.len }) messages (All-head (InBuffer n) m messages a.messages_len) (All-tail (InBuffer n) m messages a.messages_len);
  total = a.total;
  fits = a.fits;
  messages_fit = a.messages_fit;
}

-- the receive of the first message is lent
pub with_message_told : (n : ℕ) (free : List (List ℕ)) (begun : Option BegunSend) (m : ReceivedMessage) (messages left : List ReceivedMessage) (lent receives room message_room : ℕ)
    → AreReceives n free begun messages lent receives room message_room
    → messages ≡ m ∷ left
    → AreReceives n free begun left (lent + 1) receives room message_room
with_message_told n free begun m messages left lent receives room message_room a is = record {
  free_len = a.free_len;
  begun_len = a.begun_len;
  messages_len = All-rest (InBuffer n) m left messages is a.messages_len;
  total = omega (arith, a.total, ap (λ (list : List ReceivedMessage). length list) is);
  fits = a.fits;
  messages_fit = a.messages_fit;
}
