use Rattle.std.proofs.Common.{◌≡◌, ◌<◌, refl, drop, Bool, List, [], ◌∷◌, if◌then◌else◌, length, ap, sym, ◌∙◌, arith}
use Rattle.std.proofs.lemmas.List.{length-drop}
use Rattle.nr_endpoint.specs.Views.{deliveries, without_first_read}
use Rattle.nr_endpoint.specs.declared.receive_queue.ReceivedMessage.{ReceivedMessage}
use Rattle.nr_endpoint.proofs.ReceiveQueueBuffers.{deliveries_last_read, with_read_told, with_message_told}
use Rattle.nr_endpoint.proofs.ReceiveQueueSteps.{read_told}
use Rattle.nr_endpoint.proofs.receive_queue.ReceiveQueue.next_event.Goals as goal

pub invariant_of-self : goal.invariant_of-self
invariant_of-self c =
    let left : c.take_first_read.new.messages.items ≡ without_first_read c.self.inside.messages.items =
    c.take_first_read.ensures.left ∙ ap (λ (b : Bool). if b then without_first_read c.self.inside.messages.items else c.self.inside.messages.items) c.if-take_first_read.true in
    rw (left, c.take_first_read.ensures.capacity) (with_read_told _ _ _ c.self.inside.messages.items _ _ _ _ c.self.invariant)

pub invariant_of-self-in-Some : goal.invariant_of-self-in-Some
invariant_of-self-in-Some c =
    let items : c.self.inside.messages.items ≡ c.in-Some.message ∷ c.pop_front.new.self.items =
    sym (c.take_first_read.ensures.left ∙ ap (λ (b : Bool). if b then without_first_read c.self.inside.messages.items else c.self.inside.messages.items) c.if-take_first_read.false) ∙ c.in-Some.ensures.items in
    rw (c.pop_front.ensures.capacity, c.take_first_read.ensures.capacity)
    (with_message_told _ _ _ c.in-Some.message c.self.inside.messages.items c.pop_front.new.self.items _ _ _ _ c.self.invariant items)

no_items_lem : (xs ys : List ReceivedMessage) → xs ≡ ys → ys ≡ drop 1 xs → ys ≡ []
no_items_lem xs [] same rest = refl
no_items_lem xs (m ∷ ys) same rest = absurd (omega (arith, ap (λ (list : List ReceivedMessage). length list) same, ap (λ (list : List ReceivedMessage). length list) rest, length-drop 1 xs))

pub returns-clause-event : goal.returns-clause-event
returns-clause-event c =
    let left : c.take_first_read.new.messages.items ≡ c.self.inside.messages.items =
    c.take_first_read.ensures.left ∙ ap (λ (b : Bool). if b then without_first_read c.self.inside.messages.items else c.self.inside.messages.items) c.if-take_first_read.false in
    let none : c.pop_front.new.self.items ≡ [] = no_items_lem c.take_first_read.new.messages.items c.pop_front.new.self.items c.in_default.ensures.items c.pop_front.ensures.rest in
    let some : 0 < c.self.inside.reads_done = omega (arith, c.if-self-eq0.false) in
    rw (← c.self.view_is) ((λ i. deliveries (sym left i) c.self.inside.reads_done) ∙ (λ i. deliveries (c.in_default.ensures.items i) c.self.inside.reads_done) ∙ deliveries_last_read c.pop_front.new.self.items c.self.inside.reads_done none some)

pub returns-clause-after : goal.returns-clause-after
returns-clause-after c =
    let left : c.take_first_read.new.messages.items ≡ c.self.inside.messages.items =
    c.take_first_read.ensures.left ∙ ap (λ (b : Bool). if b then without_first_read c.self.inside.messages.items else c.self.inside.messages.items) c.if-take_first_read.false in
    let none : c.pop_front.new.self.items ≡ [] = no_items_lem c.take_first_read.new.messages.items c.pop_front.new.self.items c.in_default.ensures.items c.pop_front.ensures.rest in
    let some : 0 < c.self.inside.reads_done = omega (arith, c.if-self-eq0.false) in
    rw (← c.self.view_is) (read_told _ _ ((λ i. deliveries (sym left i) c.self.inside.reads_done) ∙ (λ i. deliveries (c.in_default.ensures.items i) c.self.inside.reads_done) ∙ deliveries_last_read c.pop_front.new.self.items c.self.inside.reads_done none some))
