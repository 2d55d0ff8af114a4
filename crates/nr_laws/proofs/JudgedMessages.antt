-- A client that ends for what it makes of a message: no rule of the link has such a reason, so a frame completed that message.
use Rattle.std.proofs.Common.{◌≡◌, ℕ, Bool, true, false, cond, List, [], ◌∷◌, ◌++◌, Option, None, Some, Result, Ok, refl, sym, ap, subst, ◌∙◌, append_assoc, ◌≢◌, inl, inr, arith, Err}
use Rattle.nr_wire.specs.declared.hello.Side.TheVariants.{Initiator, Responder}
use Rattle.nr_wire.specs.declared.stream.Awaited.TheVariants.{Hello as HelloFrom, Fpdu}
use Rattle.nr_wire.specs.Hello.{hello_of}
use Rattle.nr_wire.specs.Segment.{Segment, segment_of}
use Rattle.nr_regions.specs.declared.denied.Denied.{Denied}
use Rattle.nr_regions.specs.RegisteredMemory.{Access}
use Rattle.nr_regions.specs.Access.{Grant}
use Rattle.nr_link.specs.declared.end.End.{End as Stop}
use Rattle.nr_link.specs.declared.end.End.TheVariants as ends
use Rattle.nr_link.specs.Frames.{Frame, is_hello}
use Rattle.nr_link.specs.ReceiveState.{message_completed, stag_invalidated}
use Rattle.nr_link.specs.SegmentFaults.{Readiness, SegmentReason, segment_reason}
use Rattle.nr_link.specs.SegmentFaults.SegmentReason.{Reason, NoBuffer, AccessDenied, PeerTerminated}
use Rattle.nr_link.specs.Ending.{frame_end_by, end_of_fault, denied_at, access_of, hello_end, missing_access}
use Rattle.nr_reduce.specs.declared.mark.Mark.{Mark}
use Rattle.nr_reduce.specs.declared.mark.LinkParameters.{LinkParameters}
use Rattle.nr_reduce.specs.OfferedRegions.{region_grants}
use Rattle.nr_reduce.specs.Events.{RunEvent, events}
use Rattle.nr_reduce.specs.Events.RunEvent.{FrameReceived, CallSubmitted, MemoryRevoked, CallExecuted, QueueWritten, ServerTold}
use Rattle.nr_reduce.specs.ClientState.{ClientState}
use Rattle.nr_reduce.specs.ClientMessages.{ReplyVerdict, reply_verdict, message_verdict}
use Rattle.nr_reduce.specs.ClientMessages.ReplyVerdict.{EndsLink, GivesOutcome}
use Rattle.nr_reduce.specs.Client.{client_segment, client_rules, client_end, initial_client, client_readiness, or_message_end, client_message_end, end_of_verdict, or_other_sizes, has_same_sizes}
use Rattle.nr_reduce.specs.Hellos.{agreement_with}
use Rattle.nr_reduce.specs.Run.{client}
use Rattle.nr_laws.proofs.EndReasons.{IsMessageReason, IsVerdictReason}
use Rattle.nr_laws.specs.MatchedSoFar.{MatchedSoFar}
use Rattle.nr_laws.specs.Typed.{IsTyped}
use Rattle.nr_laws.proofs.Outputs.{Output}
use Rattle.nr_laws.proofs.Outputs.Output.{AHello, ASegment}
use Rattle.nr_laws.proofs.Brought.{Brings, Brought, AreFrom, IsHelloFrame}
use Rattle.nr_laws.proofs.Completions.{completed_by, begun_from}
use Rattle.nr_laws.proofs.ReceivedMessages.{hears, client_receives, brings_at, completed_message, own_segment}
use Rattle.nr_laws.proofs.ServerAlong.{outs_of, Said, SaidBy}
use Rattle.nr_laws.proofs.ServerSide.{server_tells, client_receives_of}
use Rattle.nr_laws.proofs.Outcomes.{client_by}
use Rattle.nr_laws.proofs.EndingEvents.{EndsAt, ends_at_lem}
use Rattle.nr_laws.proofs.OtherReasons.{OtherFault, fault_other}
use Rattle.nr_laws.proofs.NamedReplies.{message_end_in, ends_as_plain}
use Rattle.nr_laws.proofs.ReadFrames.{bad_frame}
use Rattle.nr_link.proofs.TakenSegments.{taken_read, untaken}
use Rattle.nr_link.specs.Reasons.{REASON_INVALIDATED, REASON_SIZES}
use Rattle.nr_wire.specs.Constants.{REASON_OPCODE}

-- ---- A segment that ends a client by such a reason

-- it completes a message, for which the client ends
record JudgesMessage (k : ClientState) (f : Frame) (s : Segment) (reason : ℕ) : Type 0 where
  message : List ℕ
  whole : message_completed k.received s ≡ Some message
  judged : message_verdict k f.end (stag_invalidated s) message ≡ EndsLink reason

bad_reason : (at place reason other : ℕ) → ◌≡◌ {A = Option Stop} (Some (ends.Bad at reason)) (Some (ends.Bad place other)) → reason ≡ other
bad_reason at place reason other e = cc

pub by_fault_lem : (f : Frame) (s : Segment) (o : Option (SegmentReason Denied)) → OtherFault o → (at reason : ℕ) → IsVerdictReason reason → end_of_fault f s o ≡ Some (ends.Bad at reason) → ⊥
by_fault_lem f s None h at reason is e = cc
by_fault_lem f s (Some (Reason x)) h at reason is e = h (subst IsVerdictReason (sym (bad_reason f.at at x reason e)) is)
by_fault_lem f s (Some (NoBuffer msn)) h at reason is e = cc
by_fault_lem f s (Some (AccessDenied why)) h at reason is e = by (access_of s) e
  where
    by : (o : Option Access) → Some (denied_at o why) ≡ Some (ends.Bad at reason) → ⊥
    by None e = cc
    by (Some access) e = cc
by_fault_lem f s (Some (PeerTerminated word)) h at reason is e = cc

pub by_verdict_lem : (f : Frame) (v : ReplyVerdict) (at reason : ℕ) → end_of_verdict f v ≡ Some (ends.Bad at reason) → v ≡ EndsLink reason
by_verdict_lem f (EndsLink x) at reason e = ap EndsLink (bad_reason f.at at x reason e)
by_verdict_lem f (GivesOutcome xid outcome) at reason e = absurd cc

-- the reason of a message isn't that of the STag that it names
not_invalidated : (reason : ℕ) → IsMessageReason reason → reason ≢ REASON_INVALIDATED
not_invalidated reason (inl chunks) is = omega (arith, chunks, is)
not_invalidated reason (inr (inl head)) is = omega (arith, head, is)
not_invalidated reason (inr (inr xid)) is = omega (arith, xid, is)

by_message_lem : (k : ClientState) (f : Frame) (s : Segment) (at reason : ℕ) (o : Option (List ℕ)) → message_completed k.received s ≡ o → client_message_end k f (stag_invalidated s) o ≡ Some (ends.Bad at reason) → JudgesMessage k f s reason
by_message_lem k f s at reason None whole e = absurd cc
by_message_lem k f s at reason (Some message) whole e =
    record { message = message; whole = whole; judged = by_verdict_lem f (message_verdict k f.end (stag_invalidated s) message) at reason e }

segment_judges : (k : ClientState) (f : Frame) (s : Segment) (at reason : ℕ) → IsVerdictReason reason → is_hello f ≡ false → client_segment k f ≡ Ok s → client_end k (FrameReceived f) ≡ Some (ends.Bad at reason) → JudgesMessage k f s reason
unfolding client_end
segment_judges k f s at reason is behind own e =
    by (end_of_fault f s (segment_reason ready s)) (by_fault_lem f s (segment_reason ready s) (fault_other ready s) at reason is)
    (sym (λ i. cond (behind i) (or_other_sizes k f (hello_end (hello_of Responder f.bytes))) (or_message_end k f (frame_end_by (client_readiness k) grants f (own i)))) ∙ e)
  where
    grants : List Grant
    grants = region_grants f.end k.regions

    ready : Readiness Denied
    ready = client_readiness k (missing_access grants f s)

    by : (o : Option Stop) → (o ≡ Some (ends.Bad at reason) → ⊥) → or_message_end k f o ≡ Some (ends.Bad at reason) → JudgesMessage k f s reason
    by (Some end) none e = absurd (none e)
    by None none e = by_message_lem k f s at reason (message_completed k.received s) refl (ap (λ (r : Result Segment ℕ). message_end_in k f r) (sym own) ∙ e)

-- the hello of the other side ends no client, but for the lengths that it agrees on
hello_reason : (k : ClientState) (f : Frame) (at reason : ℕ) → is_hello f ≡ true → IsHelloFrame Responder f.bytes → client_end k (FrameReceived f) ≡ Some (ends.Bad at reason) → reason ≡ REASON_SIZES
unfolding client_end
hello_reason k f at reason first read e = by (has_same_sizes k.agreed (agreement_with k.terms f)) whole
  where
    whole : cond (has_same_sizes k.agreed (agreement_with k.terms f)) None (Some (ends.Bad f.at REASON_SIZES)) ≡ Some (ends.Bad at reason)
    whole =
        sym (ap (λ (b : Bool). cond b (or_other_sizes k f (hello_end (hello_of Responder f.bytes))) (or_message_end k f (frame_end_by (client_readiness k) (region_grants f.end k.regions) f (client_segment k f)))) first
        ∙ ap (λ (o : Option Stop). or_other_sizes k f o) (ap hello_end read.says))
        ∙ e

    by : (b : Bool) → cond b None (Some (ends.Bad f.at REASON_SIZES)) ≡ Some (ends.Bad at reason) → reason ≡ REASON_SIZES
    by true e = absurd cc
    by false e = (let same : REASON_SIZES ≡ reason = cc in sym same)

-- ---- The event that ends a client

abbrev NoFrame : RunEvent → Type 0
NoFrame (FrameReceived f) = ⊥
NoFrame (CallSubmitted place a) = Unit {0}
NoFrame (MemoryRevoked place xid) = Unit {0}
NoFrame (CallExecuted call) = Unit {0}
NoFrame (QueueWritten taken) = Unit {0}
NoFrame (ServerTold what) = Unit {0}

only_frames : (k : ClientState) (e : RunEvent) → NoFrame e → client_end k e ≡ None
unfolding client_end
only_frames k (FrameReceived f) h = absurd h
only_frames k (CallSubmitted place a) h = refl
only_frames k (MemoryRevoked place xid) h = refl
only_frames k (CallExecuted call) h = refl
only_frames k (QueueWritten taken) h = refl
only_frames k (ServerTold what) h = refl

none_some_lem : {o : Option Stop} (end : Stop) → o ≡ None → o ≡ Some end → ⊥
none_some_lem end none some = (let wrong : None ≡ Some end = sym none ∙ some in cc)

-- ---- On a matched link

-- what the server writes first is its hello
first_hello_lem : (xs ys : List Output) (o : Output) (f : Frame) → AreFrom (HelloFrom Responder) (xs ++ o ∷ ys) → Brought o f → is_hello f ≡ true → IsHelloFrame Responder f.bytes
first_hello_lem [] ys (AHello bytes) f from b is = subst (λ (bytes : List ℕ). IsHelloFrame Responder bytes) (sym b.1) from.0
first_hello_lem [] ys (ASegment s) f from b is = absurd from
first_hello_lem (AHello bytes ∷ xs) ys o f from b is = absurd (later xs from.1)
  where
    later : (zs : List Output) → AreFrom Fpdu (zs ++ o ∷ ys) → ⊥
    later [] h = here o b h
      where
        here : (x : Output) → Brought x f → AreFrom Fpdu (x ∷ ys) → ⊥
        here (AHello bytes) b h = h
        here (ASegment s) b h = (let wrong : false ≡ true = sym b.0 ∙ is in cc)
    later (AHello bytes ∷ zs) h = h
    later (ASegment s ∷ zs) h = later zs h.1
first_hello_lem (ASegment s ∷ xs) ys o f from b is = absurd from

not_sizes : (reason : ℕ) → IsVerdictReason reason → reason ≡ REASON_SIZES → ⊥
not_sizes reason (inl (inl chunks)) is = omega (arith, chunks, is)
not_sizes reason (inl (inr (inl head))) is = omega (arith, head, is)
not_sizes reason (inl (inr (inr xid))) is = omega (arith, xid, is)
not_sizes reason (inr named) is = omega (arith, named, is)

not_opcode : (reason : ℕ) → IsVerdictReason reason → reason ≡ REASON_OPCODE → ⊥
not_opcode reason (inl (inl chunks)) is = omega (arith, chunks, is)
not_opcode reason (inl (inr (inl head))) is = omega (arith, head, is)
not_opcode reason (inl (inr (inr xid))) is = omega (arith, xid, is)
not_opcode reason (inr named) is = omega (arith, named, is)

-- the message for which the client ends, with what came before it, and why the server said it
pub record EndsBy (opened : LinkParameters) (link : ℕ) (run : List Mark) (reason : ℕ) : Type 0 where
  pub earlier : List RunEvent
  pub frame : Frame
  pub later : List RunEvent
  pub is : events link Initiator run ≡ earlier ++ FrameReceived frame ∷ later
  pub live : (client_by opened earlier).ended ≡ None
  pub segment : Segment
  pub is_segment : segment_of frame.bytes ≡ Ok segment
  pub message : List ℕ
  pub judged : message_verdict (client_by opened earlier).state frame.end (stag_invalidated segment) message ≡ EndsLink reason
  pub before : List Output
  pub brings : Brings earlier before
  pub said : SaidBy opened (events link Responder run) before message segment

-- if it ends for what the message is, whatever STag that names
pub record EndsFor (opened : LinkParameters) (link : ℕ) (run : List Mark) (reason : ℕ) : Type 0 where
  pub earlier : List RunEvent
  pub frame : Frame
  pub later : List RunEvent
  pub is : events link Initiator run ≡ earlier ++ FrameReceived frame ∷ later
  pub live : (client_by opened earlier).ended ≡ None
  pub segment : Segment
  pub is_segment : segment_of frame.bytes ≡ Ok segment
  pub message : List ℕ
  pub judged : reply_verdict (client_by opened earlier).state frame.end message ≡ EndsLink reason
  pub before : List Output
  pub brings : Brings earlier before
  pub said : Said opened (events link Responder run) before message

pub ends_by : (opened : LinkParameters) (link : ℕ) (run : List Mark) (at reason : ℕ) → IsTyped run → MatchedSoFar opened link run → IsVerdictReason reason → (client opened link run).ended ≡ Some (ends.Bad at reason) → EndsBy opened link run reason
unfolding client
ends_by opened link run at reason typed far bad e = by a.event a.is a.ends
  where
    a : EndsAt (client_rules opened) (initial_client opened) (events link Initiator run) (ends.Bad at reason)
    a = ends_at_lem (client_rules opened) (initial_client opened) (events link Initiator run) (ends.Bad at reason) refl e

    k : ClientState
    k = (client_by opened a.earlier).state

    by_frame : (f : Frame) → events link Initiator run ≡ a.earlier ++ FrameReceived f ∷ a.later → client_end k (FrameReceived f) ≡ Some (ends.Bad at reason) → EndsBy opened link run reason
    by_frame f is why =
        let r = client_receives_of opened link run typed far.asked far.served far.matched in
        let t = server_tells opened link run typed far.asked far.served far.matched in
        let b = brings_at a.earlier f a.later r.came (subst (λ (xs : List RunEvent). Brings xs r.came) is r.brings) in
        let counted = hears (client_rules opened) (λ (x : ClientState). x.received) (client_receives opened) (initial_client opened) a.earlier b.earlier b.brings a.live in
        let from : AreFrom (HelloFrom Responder) (b.earlier ++ b.own ∷ b.later) = subst (λ (xs : List Output). AreFrom (HelloFrom Responder) xs) b.parts r.from in
        let parts : outs_of opened (events link Responder run) ≡ b.earlier ++ b.own ∷ (b.later ++ r.left) =
        sym r.parts ∙ ap (λ (xs : List Output). xs ++ r.left) b.parts ∙ append_assoc b.earlier (b.own ∷ b.later) r.left in
        own b.own b.brought (λ first. absurd (not_sizes reason bad (hello_reason k f at reason first (first_hello_lem b.earlier b.later b.own f from b.brought first) why)))
        (λ s behind reads same.
        let j = segment_judges k f s at reason bad behind reads why in
        let one : completed_by (begun_from None b.earlier) s ≡ j.message ∷ [] = completed_message k.received (begun_from None b.earlier) s j.message counted.begun j.whole in
        record {
          earlier = a.earlier;
          frame = f;
          later = a.later;
          is = is;
          live = a.live;
          segment = s;
          is_segment = taken_read k.invalidates f.bytes s reads;
          message = j.message;
          judged = j.judged;
          before = b.earlier;
          brings = b.brings;
          said = t.said b.earlier s (b.later ++ r.left) j.message (parts ∙ ap (λ (o : Output). b.earlier ++ o ∷ (b.later ++ r.left)) same) one;
        })
      where
        own : (o : Output) → Brought o f → (is_hello f ≡ true → EndsBy opened link run reason) → ((s : Segment) → is_hello f ≡ false → client_segment k f ≡ Ok s → o ≡ ASegment s → EndsBy opened link run reason) → EndsBy opened link run reason
        own (AHello bytes) h hello segment = hello h.0
        own (ASegment s) h hello segment = by_read (client_segment k f) refl
          where
            by_read : (r : Result Segment ℕ) → client_segment k f ≡ r → EndsBy opened link run reason
            by_read (Ok t) reads = segment t h.0 reads (own_segment (ASegment s) f t h h.0 (taken_read k.invalidates f.bytes t reads))
            by_read (Err x) reads = absurd (not_opcode reason bad (sym (bad_reason f.at at x reason (sym (bad_frame k f x h.0 reads) ∙ why)) ∙ untaken k.invalidates f.bytes s x h.1 reads))

    by : (x : RunEvent) → events link Initiator run ≡ a.earlier ++ x ∷ a.later → client_end k x ≡ Some (ends.Bad at reason) → EndsBy opened link run reason
    by (FrameReceived f) is why = by_frame f is why
    by (CallSubmitted place call) is why = absurd (none_some_lem (ends.Bad at reason) (only_frames k (CallSubmitted place call) tt) why)
    by (MemoryRevoked place xid) is why = absurd (none_some_lem (ends.Bad at reason) (only_frames k (MemoryRevoked place xid) tt) why)
    by (CallExecuted call) is why = absurd (none_some_lem (ends.Bad at reason) (only_frames k (CallExecuted call) tt) why)
    by (QueueWritten taken) is why = absurd (none_some_lem (ends.Bad at reason) (only_frames k (QueueWritten taken) tt) why)
    by (ServerTold what) is why = absurd (none_some_lem (ends.Bad at reason) (only_frames k (ServerTold what) tt) why)

pub ends_for : (opened : LinkParameters) (link : ℕ) (run : List Mark) (at reason : ℕ) → IsTyped run → MatchedSoFar opened link run → IsMessageReason reason → (client opened link run).ended ≡ Some (ends.Bad at reason) → EndsFor opened link run reason
ends_for opened link run at reason typed far bad e =
    let d = ends_by opened link run at reason typed far (inl bad) e in
    record {
      earlier = d.earlier;
      frame = d.frame;
      later = d.later;
      is = d.is;
      live = d.live;
      segment = d.segment;
      is_segment = d.is_segment;
      message = d.message;
      judged = ends_as_plain (client_by opened d.earlier).state d.frame.end (stag_invalidated d.segment) d.message reason (not_invalidated reason bad) d.judged;
      before = d.before;
      brings = d.brings;
      said = d.said.said;
    }
