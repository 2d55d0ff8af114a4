-- What is agreed on a side, call after call.
use Rattle.std.proofs.Common.{◌≡◌, ℕ, ◌≤◌, Bool, true, false, cond, List, [], ◌∷◌, ◌++◌, length, take, drop, Option, Some, None, Result, Ok, Err, refl, sym, ap, subst, ◌∙◌, eqb, append_assoc, arith}
use Rattle.std.proofs.lemmas.List.{append-nil, take-append-le}
use Rattle.nr_wire.specs.Constants.{OPCODE_READ_RESPONSE}
use Rattle.nr_wire.specs.declared.hello.Side.{Side}
use Rattle.nr_wire.specs.declared.hello.Side.TheVariants.{Initiator, Responder}
use Rattle.nr_wire.specs.declared.stream.Awaited.{Awaited}
use Rattle.nr_wire.specs.declared.stream.Awaited.TheVariants.{Hello as HelloFrom, Fpdu}
use Rattle.nr_wire.specs.Stream.{Split, split, is_whole, frame_len}
use Rattle.nr_wire.specs.Feeding.{bytes_taken, feeding_after, feeding_after_frames, feeding_after_step, feeding_in}
use Rattle.nr_wire.specs.Hello.{Hello, hello_of, peer}
use Rattle.nr_wire.specs.Segment.{Segment}
use Rattle.nr_wire.specs.Segment.Segment.{Tagged, Untagged}
use Rattle.nr_wire.proofs.Frames.{frame_len_append, is_whole_from, partial_from, whole_append, whole_from}
use Rattle.nr_wire.proofs.Splits.{split_partial, split_whole}
use Rattle.nr_wire.proofs.Feedings.{feeding_after_step-ended}
use Rattle.nr_regions.specs.RegisteredMemory.{after_invalidate, after_place, after_register, after_release}
use Rattle.nr_link.specs.declared.agreement.SideTerms.{SideTerms}
use Rattle.nr_link.specs.declared.agreement.Agreement.{Agreement}
use Rattle.nr_link.specs.declared.end.End.{End}
use Rattle.nr_link.specs.Agreement.{IsSendLimit, default_agreement}
use Rattle.nr_link.specs.Limits.{send_unit}
use Rattle.nr_link.specs.SegmentFaults.{ExpectedResponse}
use Rattle.nr_link.specs.Frames.{Frame}
use Rattle.nr_link.proofs.Agreements.{agreements_bounded}
use Rattle.nr_endpoint.specs.Hellos.{own_private, received_max, client_heard, receive_length_for, side_agreement}
use Rattle.nr_endpoint.specs.LinkState.{LinkState, LinkSide, has_ended, initial_link}
use Rattle.nr_endpoint.specs.Judging.{after_frame, with_agreement, segment_end, next_frame, with_frame, with_segment_by, with_fpdu, with_peer_hello, with_effect, with_read_response, next_segment, with_other_sizes}
use Rattle.nr_endpoint.specs.SendQueue.{SendQueue, written}
use Rattle.nr_endpoint.specs.ReceiveQueue.{delivered, posted}
use Rattle.nr_endpoint.specs.Calls.{Call, after_call, after_calls, ended_link, with_state}
use Rattle.nr_endpoint.specs.Calls.Call.{Feed, FeedOne, NextEvent, Post, Stop, OutOfMemory, Send, SendInvalidate, Hold, SendHeld, WriteRemote, ReadRemote, Drain, Register, Release, Invalidate}
use Rattle.nr_endpoint.specs.Laws.{bytes_fed, bytes_in_call}
use Rattle.nr_endpoint.specs.AgreedLaws.{BeginsWith, HasAgreed, IsAgreed, AgreesByHellos}
use Rattle.nr_endpoint.proofs.Agreed.{agreed_fits}
use Rattle.nr_endpoint.proofs.AlongFrames.{frames_keep, step_by_lem}
use Rattle.nr_endpoint.proofs.Pieces.{step_taken}
use Rattle.nr_endpoint.proofs.HellosFrom.{hello_from}

-- ---- More bytes

begins_longer : (side : Side) (bytes more : List ℕ) (hello : Hello) → BeginsWith side bytes hello → BeginsWith side (bytes ++ more) hello
begins_longer side bytes more hello h =
    let w = whole_from (HelloFrom side) bytes h.0 in
    let len : frame_len (HelloFrom side) (bytes ++ more) ≡ frame_len (HelloFrom side) bytes = frame_len_append (HelloFrom side) bytes more w.fields in (
      is_whole_from (HelloFrom side) (bytes ++ more) (whole_append (HelloFrom side) bytes more w),
      ap (λ (n : ℕ). hello_of side (take n (bytes ++ more))) len ∙ ap (hello_of side) (take-append-le (frame_len (HelloFrom side) bytes) bytes more w.frame) ∙ h.1,
    )

agreed_longer : (terms : SideTerms) (side : Side) (bytes more private : List ℕ) (agreed : Agreement) (client : ℕ) → HasAgreed terms side bytes private agreed client → HasAgreed terms side (bytes ++ more) private agreed client
agreed_longer terms side bytes more private agreed client h = (h.0, begins_longer (peer side) bytes more h.0 h.1, h.2, h.3, h.4)

-- ---- What is known of a side that was fed these bytes

-- Its terms and which side it is stay. Until it has ended, a side without the peer's hello awaits that, and keeps all bytes of it; afterwards it awaits an FPDU.
record Knows (terms : SideTerms) (side : Side) (fed : List ℕ) (a : Awaited) (rest : List ℕ) (over has_hello : Bool) (own_terms : SideTerms) (own_side : Side) (private : List ℕ) (agreed : Agreement) (message_max client : ℕ) : Type 0 where
  same_terms : own_terms ≡ terms
  same_side : own_side ≡ side
  is : IsAgreed terms side fed has_hello private agreed message_max client
  before : over ≡ false → has_hello ≡ false → (a ≡ HelloFrom (peer side)) × (rest ≡ fed) × (is_whole (HelloFrom (peer side)) fed ≡ false)
  after : over ≡ false → has_hello ≡ true → a ≡ Fpdu

module _ (terms : SideTerms) (side : Side) where
  abbrev SideKnows : List ℕ → Awaited → List ℕ → LinkState → Type 0
  SideKnows fed a rest s = Knows terms side fed a rest (has_ended s) s.has_hello s.terms s.side s.private s.agreed s.message_max s.client

  abbrev LinkKnows : List ℕ → LinkSide → Type 0
  LinkKnows fed link = SideKnows fed link.awaited link.rest link.state

  longer : (fed more : List ℕ) (has_hello : Bool) (private : List ℕ) (agreed : Agreement) (message_max client : ℕ) → IsAgreed terms side fed has_hello private agreed message_max client → IsAgreed terms side (fed ++ more) has_hello private agreed message_max client
  longer fed more has_hello private agreed message_max client is = record {
    before = is.before;
    unheard = is.unheard;
    after = λ some. agreed_longer terms side fed more private agreed client (is.after some);
    received = is.received;
    fits = is.fits;
    up = is.up;
    down = is.down;
  }

  -- a side that has ended keeps what it has agreed
  ended_knows : (fed more : List ℕ) (a b : Awaited) (rest left : List ℕ) (over now has_hello : Bool) (own_terms : SideTerms) (own_side : Side) (private : List ℕ) (agreed : Agreement) (message_max client : ℕ) → now ≡ true →
      Knows terms side fed a rest over has_hello own_terms own_side private agreed message_max client → Knows terms side (fed ++ more) b left now has_hello own_terms own_side private agreed message_max client
  ended_knows fed more a b rest left over now has_hello own_terms own_side private agreed message_max client is k = record {
    same_terms = k.same_terms;
    same_side = k.same_side;
    is = longer fed more has_hello private agreed message_max client k.is;
    before = λ live. absurd (let wrong : true ≡ false = sym is ∙ live in cc);
    after = λ live. absurd (let wrong : true ≡ false = sym is ∙ live in cc);
  }

  -- ---- FPDUs

  -- the peer's hello was accepted
  record Settled (fed : List ℕ) (a : Awaited) (has_hello : Bool) (own_terms : SideTerms) (own_side : Side) (private : List ℕ) (agreed : Agreement) (message_max client : ℕ) : Type 0 where
    awaits : a ≡ Fpdu
    has : has_hello ≡ true
    same_terms : own_terms ≡ terms
    same_side : own_side ≡ side
    is : IsAgreed terms side fed has_hello private agreed message_max client

  abbrev SideSettled : List ℕ → Awaited → LinkState → Type 0
  SideSettled fed a s = Settled fed a s.has_hello s.terms s.side s.private s.agreed s.message_max s.client

  settled_knows : (fed : List ℕ) (link : LinkSide) → SideSettled fed link.awaited link.state → LinkKnows fed link
  settled_knows fed link k = record {
    same_terms = k.same_terms;
    same_side = k.same_side;
    is = k.is;
    before = λ live none. absurd (let wrong : true ≡ false = sym k.has ∙ none in cc);
    after = λ live some. k.awaits;
  }

  placed_settled : (fed : List ℕ) (s : LinkState) (b last : Bool) (n : ℕ) → SideSettled fed Fpdu s → SideSettled fed Fpdu (cond b (with_read_response last n s) s)
  placed_settled fed s true last n is = is
  placed_settled fed s false last n is = is

  segment_settled : (fed : List ℕ) (s : LinkState) (f : Frame) (segment : Segment) (e : Option End) → SideSettled fed Fpdu s → SideSettled fed Fpdu (with_segment_by f segment e s)
  unfolding with_effect
  segment_settled fed s f segment (Some end) is = is
  segment_settled fed s f (Untagged last opcode w queue msn offset payload) None is = is
  segment_settled fed s f (Tagged last opcode stag to payload) None is =
      placed_settled fed (record s { memory = after_place s.memory stag to payload }) (eqb opcode OPCODE_READ_RESPONSE) last (length payload) is

  fpdu_settled : (fed : List ℕ) (s : LinkState) (f : Frame) (r : Result Segment ℕ) → SideSettled fed Fpdu s → SideSettled fed Fpdu (with_fpdu f r s)
  unfolding with_fpdu
  fpdu_settled fed s f (Ok segment) is = segment_settled fed s f segment (segment_end s f segment) is
  fpdu_settled fed s f (Err reason) is = is

  frame_settled : (fed : List ℕ) (a : Awaited) (s : LinkState) (frame : List ℕ) → has_ended s ≡ false → SideSettled fed a s → SideSettled fed Fpdu (with_frame s a frame)
  frame_settled fed (HelloFrom of) s frame live is = absurd (let wrong : HelloFrom of ≡ Fpdu = is.awaits in cc)
  frame_settled fed Fpdu s frame live is = fpdu_settled fed s (next_frame s frame) (next_segment s frame) is

  -- ---- The peer's hello

  ended_frames : (fed more : List ℕ) (a b : Awaited) (rest left : List ℕ) (frames : List (List ℕ)) (s : LinkState) → has_ended s ≡ true → SideKnows fed a rest s → LinkKnows (fed ++ more) (feeding_after_frames has_ended with_frame frames left b s)
  ended_frames fed more a b rest left [] s is k = ended_knows fed more a b rest _ (has_ended s) (has_ended s) s.has_hello s.terms s.side s.private s.agreed s.message_max s.client is k
  ended_frames fed more a b rest left (frame ∷ frames) s is k =
      subst (λ (w : Bool). LinkKnows (fed ++ more) (cond w (feeding_in has_ended with_frame b [] s) (feeding_after_frames has_ended with_frame frames left Fpdu (with_frame s b frame))))
      (sym is) (ended_knows fed more a b rest _ (has_ended s) (has_ended s) s.has_hello s.terms s.side s.private s.agreed s.message_max s.client is k)

  limits : (own peer_private : List ℕ) (of : Side) → IsSendLimit (side_agreement of own peer_private).up × IsSendLimit (side_agreement of own peer_private).down
  limits own peer_private Initiator = agreements_bounded own peer_private
  limits own peer_private Responder = agreements_bounded peer_private own

  sizes_knows : (fed more : List ℕ) (a : Awaited) (rest left : List ℕ) (f : Frame) (frames : List (List ℕ)) (s : LinkState) → SideKnows fed a rest s →
      LinkKnows (fed ++ more) (feeding_after_frames has_ended with_frame frames left Fpdu (with_other_sizes f s))
  sizes_knows fed more a rest left f frames s k = ended_frames fed more a Fpdu rest left frames (with_other_sizes f s) refl (record {
    same_terms = k.same_terms;
    same_side = k.same_side;
    is = k.is;
    before = λ live. absurd (let wrong : true ≡ false = live in cc);
    after = λ live. absurd (let wrong : true ≡ false = live in cc);
  })

  hello_knows : (fed more : List ℕ) (a : Awaited) (rest left frame : List ℕ) (frames : List (List ℕ)) (s : LinkState) (r : Result Hello ℕ) → hello_of (peer side) frame ≡ r → is_whole (HelloFrom (peer side)) (fed ++ more) ≡ true →
      frame ≡ take (frame_len (HelloFrom (peer side)) (fed ++ more)) (fed ++ more) → SideKnows fed a rest s → LinkKnows (fed ++ more) (feeding_after_frames has_ended with_frame frames left Fpdu (with_peer_hello (next_frame s frame) r s))
  unfolding with_peer_hello
  hello_knows fed more a rest left frame frames s (Err reason) read whole front k =
      ended_frames fed more a Fpdu rest left frames _ refl (ended_knows_now k)
    where
      ended_knows_now : SideKnows fed a rest s → Knows terms side fed a rest true s.has_hello s.terms s.side s.private s.agreed s.message_max s.client
      ended_knows_now k = record {
        same_terms = k.same_terms;
        same_side = k.same_side;
        is = k.is;
        before = λ live. absurd (let wrong : true ≡ false = live in cc);
        after = λ live. absurd (let wrong : true ≡ false = live in cc);
      }
  hello_knows fed more a rest left frame frames s (Ok hello) read whole front k =
      settled_knows (fed ++ more) (feeding_after_frames has_ended with_frame frames left Fpdu after) (frames_keep (SideSettled (fed ++ more)) (frame_settled (fed ++ more)) frames left Fpdu after (has_ended after) refl now)
    where
      own : List ℕ
      own = own_private s.terms s.side hello.private

      after : LinkState
      after = after_frame (next_frame s frame) (with_agreement own hello.private s)

      said : hello_of (peer side) (take (frame_len (HelloFrom (peer side)) (fed ++ more)) (fed ++ more)) ≡ Ok hello
      said = ap (hello_of (peer side)) (sym front) ∙ read

      now : Settled (fed ++ more) Fpdu true s.terms s.side own (side_agreement s.side own hello.private) (received_max s.side (side_agreement s.side own hello.private)) (client_heard s.terms s.side hello.private)
      now = record {
        awaits = refl;
        has = refl;
        same_terms = k.same_terms;
        same_side = k.same_side;
        is = record {
          before = λ none. absurd (let wrong : true ≡ false = none in cc);
          unheard = λ none. absurd (let wrong : true ≡ false = none in cc);
          after = λ some. (hello, (whole, said), (λ i. own_private (k.same_terms i) (k.same_side i) hello.private), (λ i. side_agreement (k.same_side i) own hello.private), (λ i. client_heard (k.same_terms i) (k.same_side i) hello.private));
          received = λ i. received_max (k.same_side i) (side_agreement s.side own hello.private);
          fits = subst (λ (t : SideTerms). received_max s.side (side_agreement s.side own hello.private) ≤ receive_length_for t) k.same_terms (agreed_fits s.terms s.side hello.private);
          up = (limits own hello.private s.side).0;
          down = (limits own hello.private s.side).1;
        };
      }

  -- ---- A piece

  begun_knows : (fed piece : List ℕ) (s : LinkState) → has_ended s ≡ false → s.has_hello ≡ false → SideKnows fed (HelloFrom (peer side)) fed s →
      LinkKnows (fed ++ piece) (feeding_after_frames has_ended with_frame (split (HelloFrom (peer side)) (fed ++ piece)).frames (split (HelloFrom (peer side)) (fed ++ piece)).rest (HelloFrom (peer side)) s)
  begun_knows fed piece s live none k = by (is_whole (HelloFrom (peer side)) (fed ++ piece)) refl
    where
      after : Split → LinkSide
      after x = feeding_after_frames has_ended with_frame x.frames x.rest (HelloFrom (peer side)) s

      frame : List ℕ
      frame = take (frame_len (HelloFrom (peer side)) (fed ++ piece)) (fed ++ piece)

      later : Split
      later = split Fpdu (drop (frame_len (HelloFrom (peer side)) (fed ++ piece)) (fed ++ piece))

      by : (w : Bool) → is_whole (HelloFrom (peer side)) (fed ++ piece) ≡ w → LinkKnows (fed ++ piece) (after (split (HelloFrom (peer side)) (fed ++ piece)))
      by false w = subst (λ (x : Split). LinkKnows (fed ++ piece) (after x)) (sym (split_partial (HelloFrom (peer side)) (fed ++ piece) w)) (record {
        same_terms = k.same_terms;
        same_side = k.same_side;
        is = longer fed piece s.has_hello s.private s.agreed s.message_max s.client k.is;
        before = λ live none. (refl, ap (λ (b : Bool). cond b [] (fed ++ piece)) live, w);
        after = λ live some. absurd (let wrong : true ≡ false = sym some ∙ none in cc);
      })
      by true w =
          subst (λ (x : Split). LinkKnows (fed ++ piece) (after x)) (sym (split_whole (HelloFrom (peer side)) (fed ++ piece) w))
          (subst (λ (b : Bool). LinkKnows (fed ++ piece) (cond b (feeding_in has_ended with_frame (HelloFrom (peer side)) [] s)
          (feeding_after_frames has_ended with_frame later.frames later.rest Fpdu (with_frame s (HelloFrom (peer side)) frame)))) (sym live)
          (hello_from (λ t. LinkKnows (fed ++ piece) (feeding_after_frames has_ended with_frame later.frames later.rest Fpdu t)) (peer side) (next_frame s frame) (hello_of (peer side) frame) s
          (hello_knows fed piece (HelloFrom (peer side)) fed later.rest frame later.frames s (hello_of (peer side) frame) refl w refl k)
          (sizes_knows fed piece (HelloFrom (peer side)) fed later.rest (next_frame s frame) later.frames s k)))

  feed_knows : (fed piece : List ℕ) (link : LinkSide) → LinkKnows fed link → LinkKnows (fed ++ piece) (feeding_after has_ended with_frame link piece)
  unfolding feeding_after
  feed_knows fed piece link k = by (has_ended link.state) refl link.state.has_hello refl
    where
      after : Awaited → List ℕ → LinkSide
      after a rest = feeding_after_frames has_ended with_frame (split a (rest ++ piece)).frames (split a (rest ++ piece)).rest a link.state

      by : (over : Bool) → has_ended link.state ≡ over → (has : Bool) → link.state.has_hello ≡ has → LinkKnows (fed ++ piece) (after link.awaited link.rest)
      by true e has h = ended_frames fed piece link.awaited link.awaited link.rest (split link.awaited (link.rest ++ piece)).rest (split link.awaited (link.rest ++ piece)).frames link.state e k
      by false e true h =
          settled_knows (fed ++ piece) (after link.awaited link.rest) (frames_keep (SideSettled (fed ++ piece)) (frame_settled (fed ++ piece)) (split link.awaited (link.rest ++ piece)).frames (split link.awaited (link.rest ++ piece)).rest link.awaited link.state (has_ended link.state) refl
          (record { awaits = k.after e h; has = h; same_terms = k.same_terms; same_side = k.same_side; is = longer fed piece link.state.has_hello link.state.private link.state.agreed link.state.message_max link.state.client k.is }))
      by false e false h =
          let b = k.before e h in
          subst (λ (a : Awaited). LinkKnows (fed ++ piece) (after a link.rest)) (sym b.0)
          (subst (λ (r : List ℕ). LinkKnows (fed ++ piece) (after (HelloFrom (peer side)) r)) (sym b.1)
          (begun_knows fed piece link.state e h (record { same_terms = k.same_terms; same_side = k.same_side; is = k.is; before = λ live none. (refl, refl, b.2); after = λ live some. absurd (let wrong : true ≡ false = sym some ∙ h in cc) })))

  feed_one_knows : (fed piece : List ℕ) (link : LinkSide) → LinkKnows fed link → LinkKnows (fed ++ take (bytes_taken link.awaited link.rest piece) piece) (feeding_after_step has_ended with_frame link piece)
  feed_one_knows fed piece link k = by (has_ended link.state) refl link.state.has_hello refl
    where
      taken : List ℕ
      taken = take (bytes_taken link.awaited link.rest piece) piece

      by : (over : Bool) → has_ended link.state ≡ over → (has : Bool) → link.state.has_hello ≡ has → LinkKnows (fed ++ taken) (feeding_after_step has_ended with_frame link piece)
      by true e has h =
          subst (λ (x : LinkSide). LinkKnows (fed ++ taken) x) (sym (feeding_after_step-ended has_ended with_frame link piece e))
          (ended_knows fed taken link.awaited link.awaited link.rest [] (has_ended link.state) (has_ended link.state) link.state.has_hello link.state.terms link.state.side link.state.private link.state.agreed link.state.message_max link.state.client e k)
      by false e true h =
          settled_knows (fed ++ taken) (feeding_after_step has_ended with_frame link piece) (step_by_lem (SideSettled (fed ++ taken)) (frame_settled (fed ++ taken)) link piece (has_ended link.state) (is_whole link.awaited (link.rest ++ piece)) refl refl
          (record { awaits = k.after e h; has = h; same_terms = k.same_terms; same_side = k.same_side; is = longer fed taken link.state.has_hello link.state.private link.state.agreed link.state.message_max link.state.client k.is }))
      by false e false h =
          let b = k.before e h in
          let partial = partial_from link.awaited link.rest ((λ i. is_whole (b.0 i) (b.1 i)) ∙ b.2) in
          subst (λ (x : LinkSide). LinkKnows (fed ++ taken) x) (sym (step_taken has_ended with_frame link piece (is_whole link.awaited (link.rest ++ piece)) refl e partial))
          (feed_knows fed taken link k)

  -- ---- A call

  same_knows : (fed : List ℕ) (link : LinkSide) → LinkKnows fed link → LinkKnows (fed ++ []) link
  same_knows fed link k = subst (λ (bytes : List ℕ). LinkKnows bytes link) (sym (append-nil fed)) k

  -- it ends, or had ended before
  stop_knows : (fed : List ℕ) (link : LinkSide) (b : Bool) (end : End) → has_ended link.state ≡ b → (q : SendQueue) → LinkKnows fed link →
      LinkKnows (fed ++ []) (ended_link (cond b link.state (record link.state { ended = Some end; send_queue = q })) link)
  stop_knows fed link true end is q k = ended_knows fed [] link.awaited link.awaited link.rest [] (has_ended link.state) (has_ended link.state) link.state.has_hello link.state.terms link.state.side link.state.private link.state.agreed link.state.message_max link.state.client is k
  stop_knows fed link false end is q k = ended_knows fed [] link.awaited link.awaited link.rest [] (has_ended link.state) true link.state.has_hello link.state.terms link.state.side link.state.private link.state.agreed link.state.message_max link.state.client refl k

  -- what it queues changes nothing of it
  queued_knows : (fed : List ℕ) (link : LinkSide) (b : Bool) (q : SendQueue) (reads : List ExpectedResponse) → LinkKnows fed link →
      LinkKnows (fed ++ []) (with_state (cond b link.state (record link.state { send_queue = q; reads = reads })) link)
  queued_knows fed link true q reads k = same_knows fed link k
  queued_knows fed link false q reads k = same_knows fed (with_state (record link.state { send_queue = q; reads = reads }) link) k

  call_knows : (fed : List ℕ) (link : LinkSide) (call : Call) → LinkKnows fed link → LinkKnows (fed ++ bytes_in_call link call) (after_call link call)
  unfolding after_call
  call_knows fed link (Feed piece) k = feed_knows fed piece link k
  call_knows fed link (FeedOne piece) k = feed_one_knows fed piece link k
  call_knows fed link NextEvent k = same_knows fed (with_state (record link.state { receive_queue = delivered link.state.receive_queue }) link) k
  call_knows fed link Post k = same_knows fed (with_state (record link.state { receive_queue = posted link.state.receive_queue }) link) k
  call_knows fed link (Stop reason) k = stop_knows fed link (has_ended link.state) _ refl _ k
  call_knows fed link OutOfMemory k = stop_knows fed link (has_ended link.state) _ refl link.state.send_queue k
  call_knows fed link (Send message) k = queued_knows fed link (has_ended link.state) _ link.state.reads k
  call_knows fed link (SendInvalidate stag message) k = queued_knows fed link (has_ended link.state) _ link.state.reads k
  call_knows fed link (Hold message) k = queued_knows fed link (has_ended link.state) _ link.state.reads k
  call_knows fed link (SendHeld message) k = queued_knows fed link (has_ended link.state) _ link.state.reads k
  call_knows fed link (WriteRemote stag to bytes) k = queued_knows fed link (has_ended link.state) _ link.state.reads k
  call_knows fed link (ReadRemote sink at stag to len) k = queued_knows fed link (has_ended link.state) _ _ k
  call_knows fed link (Drain count) k = same_knows fed (with_state (record link.state { send_queue = written count link.state.send_queue }) link) k
  call_knows fed link (Register buf right) k = same_knows fed (with_state (record link.state { memory = after_register link.state.memory right buf }) link) k
  call_knows fed link (Release stag) k = same_knows fed (with_state (record link.state { memory = after_release link.state.memory stag }) link) k
  call_knows fed link (Invalidate stag) k = same_knows fed (with_state (record link.state { memory = after_invalidate link.state.memory stag }) link) k

  calls_know : (fed : List ℕ) (link : LinkSide) (calls : List Call) → LinkKnows fed link → LinkKnows (fed ++ bytes_fed link calls) (after_calls link calls)
  unfolding after_calls
  calls_know fed link [] k = same_knows fed link k
  calls_know fed link (call ∷ calls) k =
      subst (λ (bytes : List ℕ). LinkKnows bytes (after_calls (after_call link call) calls)) (append_assoc fed (bytes_in_call link call) (bytes_fed (after_call link call) calls))
      (calls_know (fed ++ bytes_in_call link call) (after_call link call) calls (call_knows fed link call k))

  initial_knows : (receives first_stag : ℕ) (earlier : Option Agreement) → LinkKnows [] (initial_link side receives first_stag terms earlier)
  unfolding initial_link is_whole
  initial_knows receives first_stag earlier = record {
    same_terms = refl;
    same_side = refl;
    is = record {
      before = λ none. refl;
      unheard = λ none. refl;
      after = λ some. absurd (let wrong : true ≡ false = sym some in cc);
      received = one_unit side;
      fits = omega arith;
      up = (omega arith, omega arith);
      down = (omega arith, omega arith);
    };
    before = λ live none. (refl, refl, refl);
    after = λ live some. absurd (let wrong : true ≡ false = sym some in cc);
  }
    where
      one_unit : (of : Side) → send_unit ≡ received_max of default_agreement
      one_unit Initiator = refl
      one_unit Responder = refl

pub agrees_by_hellos_lem : AgreesByHellos
agrees_by_hellos_lem side receives first_stag terms earlier calls = (calls_know terms side [] (initial_link side receives first_stag terms earlier) calls (initial_knows terms side receives first_stag earlier)).is
