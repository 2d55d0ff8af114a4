-- On a matched link an error message that the server says at a frame refuses the Send of an accepted call.
use Rattle.std.proofs.Common.{◌≡◌, ℕ, ◌+◌, not, List, [], ◌∷◌, ◌++◌, Some, Ok, refl, sym, ap, ◌∙◌, arith, inl, inr}
use Rattle.nr_xdr.specs.Fields.{word_at}
use Rattle.nr_wire.specs.declared.hello.Side.TheVariants.{Responder}
use Rattle.nr_wire.specs.Segment.{Segment}
use Rattle.nr_link.specs.Frames.{Frame}
use Rattle.nr_link.specs.ReceiveState.{message_completed}
use Rattle.nr_link.specs.Ending.{frame_segment}
use Rattle.nr_reduce.specs.declared.mark.Mark.{Mark}
use Rattle.nr_reduce.specs.declared.mark.LinkParameters.{LinkParameters}
use Rattle.nr_reduce.specs.Matched.{Matched}
use Rattle.nr_reduce.specs.Events.{events}
use Rattle.nr_reduce.specs.Events.RunEvent.{FrameReceived}
use Rattle.nr_reduce.specs.Holds.{chunk_error, version_error}
use Rattle.nr_reduce.specs.Chunks.{is_read_chunk_of_item}
use Rattle.nr_reduce.specs.ServerState.{ServerState, PendingCall, credit_word}
use Rattle.nr_reduce.specs.ServerReads.{reads_of, regions_of}
use Rattle.nr_reduce.specs.ServerMessages.{Verdict, CallVerdict, verdict, chunk_bytes, pending_payload, by_payload}
use Rattle.nr_reduce.specs.ServerMessages.Verdict.{EndsLink, OtherVersion, BadChunks, MakesPending}
use Rattle.nr_reduce.specs.ServerMessages.CallVerdict.{Refuses, IsReady}
use Rattle.nr_reduce.specs.ServerFrames.{FrameEffect, no_effect, with_verdict, ready_if_whole, message_effect, with_refused_call, is_stream_read, with_access, frame_effect}
use Rattle.nr_reduce.specs.Run.{client}
use Rattle.nr_reduce.specs.RunLaws.{server_by, IsReceivedCall, IsStreamRefused, RefusesSend}
use Rattle.nr_reduce.specs.Asked.{AskedSoFar}
use Rattle.nr_reduce.proofs.Conveyed.{Known, known_from, each_found}
use Rattle.nr_laws.specs.Typed.{IsTyped}
use Rattle.nr_laws.proofs.ClientRun.{WasSubmitted}
use Rattle.nr_laws.proofs.ExecutedCalls.{frame_message, received_message}
use Rattle.nr_laws.proofs.HeaderXid.{header_xid, call_xid_lem, chunk_error_xid, version_error_xid}
use Rattle.nr_laws.proofs.ServerAlong.{SaidError}
use Rattle.nr_laws.proofs.Basics.{none_one_lem}
use Rattle.std.proofs.lemmas.Bool.{and_parts, not-true}
use Rattle.nr_laws.proofs.EachEffect.{EffectCase, effect_case, read_over, whole_rule}
use Rattle.nr_laws.proofs.EachEffect.EffectCase.{Unchanged, OfMessage, OfRead, OfRefusal, OfCall}
use Rattle.nr_reduce.specs.ClientState.{stag_for}

-- ---- The cause of an error message

pub data Cause (k : ServerState) (f : Frame) (segment : Segment) (m : List ℕ) : Type 0 where
  ByVersion : (message : List ℕ) → message_completed k.received segment ≡ Some message → verdict k message ≡ OtherVersion → m ≡ version_error (word_at 0 message) (word_at 4 message) (credit_word k) → Cause k f segment m
  ByChunks : (message : List ℕ) → message_completed k.received segment ≡ Some message → verdict k message ≡ BadChunks → m ≡ chunk_error (word_at 0 message) (credit_word k) → Cause k f segment m
  ByStream : (c : PendingCall) → IsStreamRefused k f segment c → m ≡ chunk_error c.xid (credit_word k) → Cause k f segment m

same_errors : (o : CallVerdict) (s : FrameEffect) → (with_verdict o s).errors ≡ s.errors
same_errors (Refuses reason) s = refl
same_errors (IsReady r) s = refl

whole_errors : (k : ServerState) (place : ℕ) (c : PendingCall) (s : FrameEffect) → (ready_if_whole k place c s).errors ≡ s.errors
whole_errors k place c s = whole_rule (λ x. x.errors ≡ s.errors) k place c s (λ same. same_errors (by_payload c (pending_payload k place c)) s) refl

one_of_lem : (a b : List ℕ) → a ∷ [] ≡ b ∷ [] → b ≡ a
one_of_lem a b e = (let t : a ≡ b = cc in sym t)

message_cause : (k : ServerState) (f : Frame) (segment : Segment) (message m : List ℕ) → message_completed k.received segment ≡ Some message → (v : Verdict) → verdict k message ≡ v → (message_effect k f.end message v).errors ≡ m ∷ [] → Cause k f segment m
message_cause k f segment message m whole (EndsLink reason) is e = none_one_lem m [] refl e
message_cause k f segment message m whole OtherVersion is e = ByVersion message whole is (one_of_lem (version_error (word_at 0 message) (word_at 4 message) (credit_word k)) m e)
message_cause k f segment message m whole BadChunks is e = ByChunks message whole is (one_of_lem (chunk_error (word_at 0 message) (credit_word k)) m e)
message_cause k f segment message m whole (MakesPending c) is e =
    none_one_lem m (message_effect k f.end message (MakesPending c)).errors
    (whole_errors k f.end c (record (no_effect k) { calls = k.calls ++ c ∷ []; reads = k.reads ++ reads_of (k.regions ++ regions_of k f.end c) c; regions = k.regions ++ regions_of k f.end c })) e

pub cause : (k : ServerState) (f : Frame) (segment : Segment) (m : List ℕ) → frame_segment f ≡ Ok segment → (frame_effect k f).errors ≡ m ∷ [] → Cause k f segment m
cause k f segment m is e = by (effect_case k f segment is)
  where
    said : (s : FrameEffect) → frame_effect k f ≡ s → s.errors ≡ m ∷ []
    said s same = ap (λ (x : FrameEffect). x.errors) (sym same) ∙ e

    by : EffectCase k f segment (frame_effect k f) → Cause k f segment m
    by (Unchanged same) = none_one_lem m [] refl (said (no_effect k) same)
    by (OfMessage message whole same) = message_cause k f segment message m whole (verdict k message) refl (said (message_effect k f.end message (verdict k message)) same)
    by (OfRead r reads last own same) = none_one_lem m [] refl (said (read_over k reads) same)
    by (OfRefusal r reads c last own found test same) =
        let both = and_parts (is_stream_read c r reads) (not (is_read_chunk_of_item (chunk_bytes (with_access k f segment) f.end c 0) c.lists.read)) test in
        ByStream c
        (record { is_last = last; read = r; others = reads; reads = own; call = found; stream = both.0; unsuited = not-true (is_read_chunk_of_item (chunk_bytes (with_access k f segment) f.end c 0) c.lists.read) both.1 })
        (one_of_lem (chunk_error c.xid (credit_word k)) m (said (with_refused_call k c (read_over k reads)) same))
    by (OfCall r reads c last own found same) =
        let s = ready_if_whole (with_access k f segment) f.end c (read_over k reads) in
        none_one_lem m s.errors (whole_errors (with_access k f segment) f.end c (read_over k reads)) (said s same)

-- ---- The call that is refused

pub record RefusedSubmit (opened : LinkParameters) (link : ℕ) (run : List Mark) (m : List ℕ) (s : SaidError opened (events link Responder run) m) : Type 0 where
  pub index : ℕ
  pub message : List ℕ
  pub submitted : WasSubmitted opened link run index message
  pub xid : word_at 0 m ≡ submitted.xid
  pub refuses : RefusesSend (server_by opened s.earlier) s.frame s.segment (index + 1)
  pub cause_is : Cause (server_by opened s.earlier) s.frame s.segment m

submitted_xid : (opened : LinkParameters) (link : ℕ) (run : List Mark) (index : ℕ) (message : List ℕ) (w : WasSubmitted opened link run index message) → word_at 0 message ≡ w.xid
submitted_xid opened link run index message w =
    let fits = w.accepted.xids in
    ap (λ (x : List ℕ). word_at 0 x) w.message_is ∙ call_xid_lem w.xid opened.wished (stag_for (client opened link w.earlier).state w.xid) w.accepted.plan (omega (arith, fits))

pub refused_submit : (opened : LinkParameters) (link : ℕ) (run : List Mark) → IsTyped run → AskedSoFar opened link run → Matched link run → (m : List ℕ) (s : SaidError opened (events link Responder run) m) → RefusedSubmit opened link run m s
refused_submit opened link run typed asked matched m s = by (cause (server_by opened s.earlier) s.frame s.segment m s.is_segment s.errors)
  where
    k : ServerState
    k = server_by opened s.earlier

    of_message : (message : List ℕ) → message_completed k.received s.segment ≡ Some message → WasSubmitted opened link run k.received.sends message
    of_message message whole = frame_message opened link run typed asked matched s.earlier s.frame s.later s.segment message s.is s.behind s.is_segment whole s.live

    known : Known opened s.earlier k
    known = known_from opened [] s.earlier (record { calls = tt; ready = tt })

    by : Cause k s.frame s.segment m → RefusedSubmit opened link run m s
    by (ByVersion message whole bad is) =
        let w = of_message message whole in
        let x = submitted_xid opened link run k.received.sends message w in
        let fits = w.accepted.xids in
        record {
          index = k.received.sends;
          message = message;
          submitted = w;
          xid = ap (λ (y : List ℕ). word_at 0 y) is ∙ version_error_xid (word_at 0 message) (word_at 4 message) (credit_word k) (omega (arith, x, fits)) ∙ x;
          refuses = inl (message, (whole, (refl, inr bad)));
          cause_is = ByVersion message whole bad is;
        }
    by (ByChunks message whole bad is) =
        let w = of_message message whole in
        let x = submitted_xid opened link run k.received.sends message w in
        let fits = w.accepted.xids in
        record {
          index = k.received.sends;
          message = message;
          submitted = w;
          xid = ap (λ (y : List ℕ). word_at 0 y) is ∙ chunk_error_xid (word_at 0 message) (credit_word k) (omega (arith, x, fits)) ∙ x;
          refuses = inl (message, (whole, (refl, inl bad)));
          cause_is = ByChunks message whole bad is;
        }
    by (ByStream c refused is) =
        let own : IsReceivedCall opened s.earlier c = each_found (IsReceivedCall opened s.earlier) refused.read.number k.calls c known.calls refused.call in
        let w = received_message opened link run typed asked matched c (FrameReceived s.frame ∷ s.later) s.earlier s.is own s.live in
        let x = submitted_xid opened link run (server_by opened own.earlier).received.sends own.message w in
        let fits = w.accepted.xids in
        let c_xid : c.xid ≡ w.xid = own.xid ∙ header_xid own.message own.header own.is_header ∙ x in
        record {
          index = (server_by opened own.earlier).received.sends;
          message = own.message;
          submitted = w;
          xid = ap (λ (y : List ℕ). word_at 0 y) is ∙ chunk_error_xid c.xid (credit_word k) (omega (arith, c_xid, fits)) ∙ c_xid;
          refuses = inr (c, (refused, sym own.number));
          cause_is = ByStream c refused is;
        }
