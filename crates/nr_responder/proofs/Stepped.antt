-- A responder after a step on a piece, by what its side of the link answered and delivered.
use Rattle.std.proofs.Common.{◌≡◌, ◌≢◌, ℕ, ◌+◌, ◌≤◌, Bool, true, false, cond, List, [], ◌∷◌, ◌++◌, length, take, drop, Option, Some, None, Ok, refl, sym, ap, subst, ◌∙◌, arith, inl, inr, is_some}
use Rattle.std.specs.Prelude.{◌⊎◌}
use Rattle.std.proofs.lemmas.List.{append-nil, take_all, take-append-drop}
use Rattle.nr_wire.specs.declared.stream.Awaited.{Awaited}
use Rattle.nr_wire.specs.declared.stream.Awaited.TheVariants.{Fpdu}
use Rattle.nr_wire.specs.declared.hello.Side.TheVariants.{Initiator}
use Rattle.nr_wire.specs.Constants.{OPCODE_SEND}
use Rattle.nr_wire.specs.Hello.{hello_of}
use Rattle.nr_wire.specs.Segment.Segment.{Untagged}
use Rattle.nr_wire.specs.Stream.{IsPartial}
use Rattle.nr_wire.specs.Feeding.{bytes_taken}
use Rattle.nr_link.specs.declared.end.End.{End}
use Rattle.nr_link.specs.declared.end.End.TheVariants as ends
use Rattle.nr_link.specs.Input.{InputState}
use Rattle.nr_link.specs.ReceiveState.{ReceiveState}
use Rattle.nr_link.specs.Ending.{segment_taken}
use Rattle.nr_endpoint.specs.ReceiveQueue.{DeliveredEvent}
use Rattle.nr_endpoint.specs.ReceiveQueue.DeliveredEvent.{MessageReceived, ReadDone}
use Rattle.nr_endpoint.specs.LinkState.{LinkState, LinkSide}
use Rattle.nr_endpoint.specs.Judging.{next_frame, with_frame, with_peer_hello}
use Rattle.nr_endpoint.specs.Calls.{after_call, makes_whole, QueuesOutput}
use Rattle.nr_endpoint.specs.Calls.Call.{FeedOne, NextEvent, OutOfMemory}
use Rattle.nr_reduce.specs.declared.mark.LinkParameters.{LinkParameters}
use Rattle.nr_reduce.specs.ServerState.{PendingRead, ServerState}
use Rattle.nr_responder.specs.Heard.{SameHeard}
use Rattle.nr_responder.specs.ResponderState.{ResponderSide, end_of, present_word}
use Rattle.nr_responder.specs.Keeping.{Begins, Keeps}
use Rattle.nr_responder.specs.Keeping.Begins.{BeforeHello, AfterHello}
use Rattle.nr_responder.specs.Steps.{FedOn, Fed}
use Rattle.nr_responder.specs.Steps.Fed.{WentOn, RanOut}
use Rattle.nr_responder.specs.private.Handling.{IsServerOf, IsHandled, IsTaken, Handled, on_link}
use Rattle.nr_responder.proofs.Fed.{StepOf, step_of, step_goes, ended_goes, ended_fed_lem, not_ended_lem}
use Rattle.nr_responder.proofs.Fed.StepOf.{Part, WholeFrame}
use Rattle.nr_endpoint.specs.FedBytes.{fed_bytes}
use Rattle.nr_endpoint.proofs.FedBytes.{fed_one_within}
use Rattle.nr_responder.specs.declared.call.Pending.{Pending}
use Rattle.nr_responder.specs.declared.call.Ready.{Ready}
use Rattle.nr_responder.specs.Sound.{QueuesInvariant}
use Rattle.nr_responder.proofs.Handled.{Goes, RanOutOf, makes_handled, step_counts, same_fed, told_server_of}
use Rattle.nr_responder.proofs.Posted.{memory_as}
use Rattle.nr_responder.proofs.Sounds.{sound_step, sound_ended}
use Rattle.nr_responder.specs.private.ReadsDone.{HandlesRead, ReadHandled, ReadRanOut}
use Rattle.nr_responder.proofs.DoneReads.{impossible_none}
use Rattle.nr_responder.proofs.Responses.{IsSend, IsResponse, Lives, frame_is, none_expected}
use Rattle.nr_responder.proofs.ReadsTaken.{response_deliveries}
use Rattle.nr_responder.proofs.Out.{out_by_link, out_by_message, out_by_read}
use Rattle.nr_responder.proofs.Pieces.{fed_parts}
use Rattle.nr_responder.proofs.SendFrames.{frame_lives, part_framed, last_framed}
use Rattle.nr_responder.proofs.Steps.{hello_deliveries}
use Rattle.nr_responder.proofs.Whole.{whole_message}

-- the side of the link ended, or ran out of memory
pub step_failed : (v : ResponderSide) (piece : List ℕ) (m : LinkSide) (end : End) → end_of v ≡ None → IsPartial v.link.awaited v.link.rest → (end ≢ ends.Memory → m ≡ after_call v.link (FeedOne piece)) →
    (end ≡ ends.Memory → (m ≡ after_call v.link OutOfMemory) × ((makes_whole v.link piece ≡ true) × QueuesOutput v.link piece)) → m.state.ended ≡ Some end → Fed v piece (on_link v m)
step_failed v piece m (ends.Bad at reason) live p fed out ended = WentOn (ended_goes v piece m (ends.Bad at reason) live p (step_of v.link m piece p live (fed (λ e. absurd cc))) ended)
step_failed v piece m (ends.Denied stag offset why) live p fed out ended = WentOn (ended_goes v piece m (ends.Denied stag offset why) live p (step_of v.link m piece p live (fed (λ e. absurd cc))) ended)
step_failed v piece m (ends.NoBuffer msn) live p fed out ended = WentOn (ended_goes v piece m (ends.NoBuffer msn) live p (step_of v.link m piece p live (fed (λ e. absurd cc))) ended)
step_failed v piece m (ends.Terminated reason) live p fed out ended = WentOn (ended_goes v piece m (ends.Terminated reason) live p (step_of v.link m piece p live (fed (λ e. absurd cc))) ended)
step_failed v piece m ends.Memory live p fed out ended =
    let o = out refl in
    out_by_link v (on_link v m) piece live p (ap (λ (l : LinkSide). on_link v l) o.0) o.1.0 o.1.1

-- what a side keeps of its own then
pub failed_sound : (l m : LinkSide) (piece : List ℕ) (end : End) (calls : List Pending) (ready : List Ready) (used : List (List ℕ)) (a b c : ℕ) → l.state.ended ≡ None → IsPartial l.awaited l.rest → (end ≢ ends.Memory → m ≡ after_call l (FeedOne piece)) →
    (end ≡ ends.Memory → m ≡ after_call l OutOfMemory) → QueuesInvariant 0 l.state calls ready used a b c → QueuesInvariant 0 m.state calls ready used a b c
failed_sound l m piece end calls ready used a b c live p fed out h = by end fed out
  where
    went : m ≡ after_call l (FeedOne piece) → QueuesInvariant 0 m.state calls ready used a b c
    went is = sound_step l.state m.state calls ready used a b c (step_counts l m piece (step_of l m piece p live is)) h

    by : (end : End) → (end ≢ ends.Memory → m ≡ after_call l (FeedOne piece)) → (end ≡ ends.Memory → m ≡ after_call l OutOfMemory) → QueuesInvariant 0 m.state calls ready used a b c
    by (ends.Bad at reason) fed out = went (fed (λ e. absurd cc))
    by (ends.Denied stag offset why) fed out = went (fed (λ e. absurd cc))
    by (ends.NoBuffer msn) fed out = went (fed (λ e. absurd cc))
    by (ends.Terminated reason) fed out = went (fed (λ e. absurd cc))
    by ends.Memory fed out = sound_ended 0 17 l m calls ready used a b c (inr (out refl)) h

pub failed_within : (l m : LinkSide) (piece : List ℕ) (end : End) → (end ≢ ends.Memory → m ≡ after_call l (FeedOne piece)) → (end ≡ ends.Memory → m ≡ after_call l OutOfMemory) → fed_bytes m ≤ fed_bytes l + length piece
failed_within l m piece end fed out = by end fed out
  where
    went : m ≡ after_call l (FeedOne piece) → fed_bytes m ≤ fed_bytes l + length piece
    went is = omega (arith, fed_one_within l piece, ap fed_bytes is)

    by : (end : End) → (end ≢ ends.Memory → m ≡ after_call l (FeedOne piece)) → (end ≡ ends.Memory → m ≡ after_call l OutOfMemory) → fed_bytes m ≤ fed_bytes l + length piece
    by (ends.Bad at reason) fed out = went (fed (λ e. absurd cc))
    by (ends.Denied stag offset why) fed out = went (fed (λ e. absurd cc))
    by (ends.NoBuffer msn) fed out = went (fed (λ e. absurd cc))
    by (ends.Terminated reason) fed out = went (fed (λ e. absurd cc))
    by ends.Memory fed out = (let same = same_fed l m (memory_as l m (out refl)).input in omega (arith, same))

-- ---- What a step delivers

-- nothing, the message of the next Send, or a read that is done
abbrev pub FewDeliveries : ℕ → List PendingRead → List DeliveredEvent → Type 0
FewDeliveries sends reads deliveries = (deliveries ≡ []) ⊎ (((message : List ℕ) × (deliveries ≡ MessageReceived (sends + 1) None message ∷ [])) ⊎ ((deliveries ≡ ReadDone ∷ []) × (reads ≢ [])))

send_deliveries : (opened : LinkParameters) (k : ServerState) (so_far : InputState) (v : ResponderSide) (frame : List ℕ) → Keeps opened k so_far v → (with_frame v.link.state Fpdu frame).ended ≡ None → (send : IsSend v.link.state frame) → (b : Bool) → send.last ≡ b →
    FewDeliveries k.received.sends v.fetching.reads (with_frame v.link.state Fpdu frame).receive_queue.deliveries
send_deliveries opened k so_far v frame h lives send false is =
    let s : LinkState = v.link.state in
    let reads : segment_taken false frame ≡ Ok (Untagged false OPCODE_SEND send.w send.queue_number send.msn send.offset send.payload) = send.reads ∙ ap (λ (b : Bool). Ok (Untagged b OPCODE_SEND send.w send.queue_number send.msn send.offset send.payload)) is in
    let state = (frame_lives s frame (Untagged false OPCODE_SEND send.w send.queue_number send.msn send.offset send.payload) h.link.side reads lives).1 ∙ part_framed s frame send.w send.queue_number send.msn send.offset send.payload in
    inl (ap (λ (t : LinkState). t.receive_queue.deliveries) state ∙ append-nil s.receive_queue.deliveries ∙ h.link.told)
send_deliveries opened k so_far v frame h lives send true is =
    let s : LinkState = v.link.state in
    let reads : segment_taken false frame ≡ Ok (Untagged true OPCODE_SEND send.w send.queue_number send.msn send.offset send.payload) = send.reads ∙ ap (λ (b : Bool). Ok (Untagged b OPCODE_SEND send.w send.queue_number send.msn send.offset send.payload)) is in
    let state = (frame_lives s frame (Untagged true OPCODE_SEND send.w send.queue_number send.msn send.offset send.payload) h.link.side reads lives).1 ∙ last_framed s frame send.w send.queue_number send.msn send.offset send.payload in
    let whole : List ℕ = whole_message s send.payload in
    inr (inl (
      whole,
      ap (λ (t : LinkState). t.receive_queue.deliveries) state ∙ ap (λ (deliveries : List DeliveredEvent). deliveries ++ MessageReceived (s.receive_queue.received.sends + 1) None whole ∷ []) h.link.told
          ∙ ap (λ (n : ℕ). MessageReceived n None whole ∷ []) (ap (λ (r : ReceiveState). r.sends + 1) h.link.received),
    ))

read_deliveries : (opened : LinkParameters) (k : ServerState) (so_far : InputState) (v : ResponderSide) (frame : List ℕ) → Keeps opened k so_far v → (with_frame v.link.state Fpdu frame).ended ≡ None → (r : IsResponse v.link.state frame) → (b : Bool) → r.last ≡ b →
    FewDeliveries k.received.sends v.fetching.reads (with_frame v.link.state Fpdu frame).receive_queue.deliveries
read_deliveries opened k so_far v frame h lives r false is = inl (response_deliveries opened k so_far v frame h lives r false is)
read_deliveries opened k so_far v frame h lives r true is =
    inr (inr (response_deliveries opened k so_far v frame h lives r true is, (λ none. none_expected k v.link.state r.last r.stag r.to (length r.payload) h.link.reads r.expected (sym h.reads ∙ none))))

fpdu_deliveries : (opened : LinkParameters) (k : ServerState) (so_far : InputState) (v : ResponderSide) (frame : List ℕ) → Keeps opened k so_far v → (with_frame v.link.state Fpdu frame).ended ≡ None → Lives v.link.state frame →
    FewDeliveries k.received.sends v.fetching.reads (with_frame v.link.state Fpdu frame).receive_queue.deliveries
fpdu_deliveries opened k so_far v frame h lives (inl send) = send_deliveries opened k so_far v frame h lives send send.last refl
fpdu_deliveries opened k so_far v frame h lives (inr r) = read_deliveries opened k so_far v frame h lives r r.last refl

frame_deliveries : (opened : LinkParameters) (k : ServerState) (so_far : InputState) (v : ResponderSide) (frame : List ℕ) → Keeps opened k so_far v → (with_frame v.link.state v.link.awaited frame).ended ≡ None → Begins v.link →
    FewDeliveries k.received.sends v.fetching.reads (with_frame v.link.state v.link.awaited frame).receive_queue.deliveries
frame_deliveries opened k so_far v frame h lives (BeforeHello place awaited hello none) =
    let as_hello : with_frame v.link.state v.link.awaited frame ≡ with_peer_hello (next_frame v.link.state frame) (hello_of Initiator frame) v.link.state = ap (λ (a : Awaited). with_frame v.link.state a frame) awaited in
    inl (ap (λ (t : LinkState). t.receive_queue.deliveries) as_hello ∙ hello_deliveries v.link.state (next_frame v.link.state frame) (hello_of Initiator frame) ∙ h.link.told)
frame_deliveries opened k so_far v frame h lives (AfterHello place awaited hello) =
    let lives_on : (with_frame v.link.state Fpdu frame).ended ≡ None = subst (λ (a : Awaited). (with_frame v.link.state a frame).ended ≡ None) awaited lives in
    subst (λ (a : Awaited). FewDeliveries k.received.sends v.fetching.reads (with_frame v.link.state a frame).receive_queue.deliveries) (sym awaited) (fpdu_deliveries opened k so_far v frame h lives_on (frame_is opened k v.link.state frame h.link h.server lives_on))

pub few_deliveries : (opened : LinkParameters) (k : ServerState) (so_far : InputState) (v : ResponderSide) (piece : List ℕ) (m : LinkSide) → Keeps opened k so_far v → m.state.ended ≡ None → StepOf v.link piece m → FewDeliveries k.received.sends v.fetching.reads m.state.receive_queue.deliveries
few_deliveries opened k so_far v piece m h lives (Part w link) = inl (ap (λ (l : LinkSide). l.state.receive_queue.deliveries) link ∙ h.link.told)
few_deliveries opened k so_far v piece m h lives (WholeFrame frame w frame_is long link) =
    subst (λ (l : LinkSide). FewDeliveries k.received.sends v.fetching.reads l.state.receive_queue.deliveries) (sym link) (frame_deliveries opened k so_far v frame h (sym (ap (λ (l : LinkSide). l.state.ended) link) ∙ lives) h.begins)

-- ---- A step after which something was delivered

-- all of the piece is taken if the side has ended
abbrev pub taken_at : Option End → ℕ → ℕ → ℕ
taken_at ended whole part = cond (is_some ended) whole part

pub at_most : (o : Option End) (whole part : ℕ) → part ≤ whole → taken_at o whole part ≤ whole
at_most None whole part le = le
at_most (Some end) whole part le = omega arith

pub at_least : (o : Option End) (whole part : ℕ) → part ≤ whole → part ≤ taken_at o whole part
at_least None whole part le = omega arith
at_least (Some end) whole part le = le

went_on : (v after : ResponderSide) (piece : List ℕ) (n : ℕ) (o : Option End) → end_of after ≡ o → FedOn v (take n piece) after → Fed v (take (taken_at o (length piece) n) piece) after
went_on v after piece n None is fed = WentOn fed
went_on v after piece n (Some end) is fed =
    subst (λ (bytes : List ℕ). Fed v bytes after) (take-append-drop n piece ∙ sym (take_all (length piece) piece (omega arith)))
    (WentOn (fed_parts v after after (take n piece) (drop n piece) fed (ended_fed_lem after (drop n piece) (ap (λ (x : Option End). is_some x) is))))

pub same_message : (a b : ℕ) (i j : Option ℕ) (x y : List ℕ) (rest others : List DeliveredEvent) → MessageReceived a i x ∷ rest ≡ MessageReceived b j y ∷ others → (a ≡ b) × (x ≡ y)
same_message a b i j x y rest others is = ((let h : a ≡ b = cc in h), (let h : x ≡ y = cc in h))

not_two : (sends : ℕ) (reads : List PendingRead) (number : ℕ) (invalidated : Option ℕ) (bytes : List ℕ) (x : DeliveredEvent) (rest : List DeliveredEvent) → FewDeliveries sends reads (MessageReceived number invalidated bytes ∷ (x ∷ rest)) → ⊥
not_two sends reads number invalidated bytes x rest (inl none) = absurd cc
not_two sends reads number invalidated bytes x rest (inr (inl one)) = (let e : MessageReceived number invalidated bytes ∷ (x ∷ rest) ≡ MessageReceived (sends + 1) None one.0 ∷ [] = one.1 in cc)
not_two sends reads number invalidated bytes x rest (inr (inr done)) = (let e : MessageReceived number invalidated bytes ∷ (x ∷ rest) ≡ ReadDone ∷ [] = done.0 in cc)

not_more : (sends : ℕ) (reads : List PendingRead) (x : DeliveredEvent) (rest : List DeliveredEvent) → FewDeliveries sends reads (ReadDone ∷ (x ∷ rest)) → ⊥
not_more sends reads x rest (inl none) = absurd cc
not_more sends reads x rest (inr (inl one)) = (let e : ReadDone ∷ (x ∷ rest) ≡ MessageReceived (sends + 1) None one.0 ∷ [] = one.1 in cc)
not_more sends reads x rest (inr (inr done)) = (let e : ReadDone ∷ (x ∷ rest) ≡ ReadDone ∷ [] = done.0 in cc)

not_read : (sends : ℕ) (reads : List PendingRead) → reads ≡ [] → FewDeliveries sends reads (ReadDone ∷ []) → ⊥
not_read sends reads none (inl never) = absurd cc
not_read sends reads none (inr (inl one)) = (let e : ReadDone ∷ [] ≡ MessageReceived (sends + 1) None one.0 ∷ [] = one.1 in cc)
not_read sends reads none (inr (inr done)) = done.1 none

pub step_done_by : (v after : ResponderSide) (piece : List ℕ) (m : LinkSide) → end_of v ≡ None → IsPartial v.link.awaited v.link.rest → StepOf v.link piece m → m.state.ended ≡ None → v.credits.word ≡ present_word v → IsTaken (on_link v m) after → SameHeard m after.link →
    Fed v (take (taken_at (end_of after) (length piece) (bytes_taken v.link.awaited v.link.rest piece)) piece) after
step_done_by v after piece m live p step lives word taken heard = by m.state.receive_queue.deliveries refl
  where
    n : ℕ
    n = bytes_taken v.link.awaited v.link.rest piece

    goes : ((k : ServerState) → IsServerOf k (on_link v m) → IsHandled k (on_link v m) after) → FedOn v (take n piece) after
    goes handled = step_goes v after piece m live p step lives word handled heard

    never : (deliveries : List DeliveredEvent) → m.state.receive_queue.deliveries ≡ deliveries → ((sends : ℕ) → FewDeliveries sends v.fetching.reads deliveries → ⊥) → FedOn v (take n piece) after
    never deliveries found wrong opened end so_far keeps =
        absurd (wrong end.state.received.sends (subst (FewDeliveries end.state.received.sends v.fetching.reads) found (few_deliveries opened end.state so_far v piece m (not_ended_lem opened end so_far v live keeps).1 lives step)))

    message : (number : ℕ) (invalidated : Option ℕ) (bytes : List ℕ) → m.state.receive_queue.deliveries ≡ MessageReceived number invalidated bytes ∷ [] → Goes (on_link v m) number bytes after ⊎ RanOutOf (on_link v m) number bytes after →
        Fed v (take (taken_at (end_of after) (length piece) n) piece) after
    message number invalidated bytes one (inl handled) =
        went_on v after piece n (end_of after) refl (goes (λ k server. record {
          credits = server.credits;
          none = λ none. absurd (let two : [] ≡ MessageReceived number invalidated bytes ∷ [] = sym none ∙ one in cc);
          some = λ other j x found count.
              let same = same_message other number j invalidated x bytes [] [] (sym found ∙ one) in
              subst (λ (b : List ℕ). Handled k b (on_link v m) after) (sym same.1) (handled k server (sym same.0 ∙ count));
          read = λ done x rest reads. absurd (let two : ReadDone ∷ [] ≡ MessageReceived number invalidated bytes ∷ [] = sym done ∙ one in cc);
        }))
    message number invalidated bytes one (inr ran) =
        let out = out_by_message v after piece m number invalidated bytes [] live p step lives word one ran in
        subst (λ (o : Option End). Fed v (take (taken_at o (length piece) n) piece) after) (sym out.ended) (subst (λ (bytes : List ℕ). Fed v bytes after) (sym (take_all (length piece) piece (omega arith))) (RanOut 0 out))

    same_reads : (x y : PendingRead) (rest others : List PendingRead) → v.fetching.reads ≡ x ∷ rest → v.fetching.reads ≡ y ∷ others → x ∷ rest ≡ y ∷ others
    same_reads x y rest others this that = sym this ∙ that

    done : (x : PendingRead) (rest : List PendingRead) → m.state.receive_queue.deliveries ≡ ReadDone ∷ [] → v.fetching.reads ≡ x ∷ rest → ReadHandled (on_link v (after_call m NextEvent)) x rest after ⊎ ReadRanOut (on_link v (after_call m NextEvent)) x rest after →
        Fed v (take (taken_at (end_of after) (length piece) n) piece) after
    done x rest one reads (inl handled) =
        went_on v after piece n (end_of after) refl (goes (λ k server. record {
          credits = server.credits;
          none = λ none. absurd (let two : [] ≡ ReadDone ∷ [] = sym none ∙ one in cc);
          some = λ number j b found count. absurd (let two : ReadDone ∷ [] ≡ MessageReceived number j b ∷ [] = sym one ∙ found in cc);
          read = λ told y others found.
              let both : x ∷ rest ≡ y ∷ others = same_reads x y rest others reads found in
              let first : x ≡ y = cc in
              let others_are : rest ≡ others = cc in
              subst (λ (r : PendingRead). ReadHandled (on_link v (after_call m NextEvent)) r others after) first (subst (λ (rs : List PendingRead). ReadHandled (on_link v (after_call m NextEvent)) x rs after) others_are handled);
        }))
    done x rest one reads (inr ran) =
        let out = out_by_read v after piece m x rest live p step lives one reads ran in
        subst (λ (o : Option End). Fed v (take (taken_at o (length piece) n) piece) after) (sym out.ended) (subst (λ (bytes : List ℕ). Fed v bytes after) (sym (take_all (length piece) piece (omega arith))) (RanOut 0 out))

    which : (x : PendingRead) (rest : List PendingRead) → m.state.receive_queue.deliveries ≡ ReadDone ∷ [] → v.fetching.reads ≡ x ∷ rest → HandlesRead (on_link v (after_call m NextEvent)) x rest after →
        Fed v (take (taken_at (end_of after) (length piece) n) piece) after
    which x rest one reads (inl impossible) =
        went_on v after piece n (end_of after) refl (goes (λ k server. absurd (impossible_none k (on_link v (after_call m NextEvent)) x rest (told_server_of k (on_link v m) server) reads impossible)))
    which x rest one reads (inr handled) = done x rest one reads handled

    read : m.state.receive_queue.deliveries ≡ ReadDone ∷ [] → (reads : List PendingRead) → v.fetching.reads ≡ reads → Fed v (take (taken_at (end_of after) (length piece) n) piece) after
    read one [] none = went_on v after piece n (end_of after) refl (never (ReadDone ∷ []) one (λ sends. not_read sends v.fetching.reads none))
    read one (x ∷ rest) is = which x rest one is (taken.read one x rest is)

    by : (deliveries : List DeliveredEvent) → m.state.receive_queue.deliveries ≡ deliveries → Fed v (take (taken_at (end_of after) (length piece) n) piece) after
    by [] none =
        went_on v after piece n (end_of after) refl (goes (λ k server. record { credits = server.credits; none = λ e. taken.none none; some = λ number j x found count. absurd (let two : [] ≡ MessageReceived number j x ∷ [] = sym none ∙ found in cc); read = λ done x rest reads. absurd (let two : [] ≡ ReadDone ∷ [] = sym none ∙ done in cc) }))
    by (MessageReceived number invalidated bytes ∷ []) one = message number invalidated bytes one (makes_handled (on_link v m) after number bytes (taken.some number invalidated bytes one))
    by (MessageReceived number invalidated bytes ∷ (x ∷ rest)) found = went_on v after piece n (end_of after) refl (never (MessageReceived number invalidated bytes ∷ (x ∷ rest)) found (λ sends. not_two sends v.fetching.reads number invalidated bytes x rest))
    by (ReadDone ∷ []) found = read found v.fetching.reads refl
    by (ReadDone ∷ (x ∷ rest)) found = went_on v after piece n (end_of after) refl (never (ReadDone ∷ (x ∷ rest)) found (λ sends. not_more sends v.fetching.reads x rest))

pub step_done : (v after : ResponderSide) (piece : List ℕ) (m : LinkSide) → end_of v ≡ None → IsPartial v.link.awaited v.link.rest → m ≡ after_call v.link (FeedOne piece) → m.state.ended ≡ None → v.credits.word ≡ present_word v → IsTaken (on_link v m) after → SameHeard m after.link →
    Fed v (take (taken_at (end_of after) (length piece) (bytes_taken v.link.awaited v.link.rest piece)) piece) after
step_done v after piece m live p is lives word taken heard = step_done_by v after piece m live p (step_of v.link m piece p live is) lives word taken heard
