-- What a side writes before the peer's hello.
use Rattle.std.proofs.Common.{◌≡◌, ℕ, Bool, true, false, cond, List, [], ◌∷◌, ◌++◌, length, take, drop, Option, Some, None, Result, Ok, Err, inl, inr, refl, sym, ap, subst, ◌∙◌, append_assoc, eqb, arith}
use Rattle.std.specs.Prelude.{◌⊎◌, is_some}
use Rattle.std.proofs.lemmas.List.{append-nil, take-append-drop}
use Rattle.nr_wire.specs.Constants.{OPCODE_READ_RESPONSE, REASON_FLAGS}
use Rattle.nr_wire.specs.declared.hello.Side.{Side}
use Rattle.nr_wire.specs.declared.hello.Side.TheVariants.{Initiator, Responder}
use Rattle.nr_wire.specs.declared.stream.Awaited.{Awaited}
use Rattle.nr_wire.specs.declared.stream.Awaited.TheVariants.{Hello as HelloFrom, Fpdu}
use Rattle.nr_wire.specs.Hello.{Hello, hello_of, peer}
use Rattle.nr_wire.specs.Segment.{Segment}
use Rattle.nr_wire.specs.Segment.Segment.{Tagged, Untagged}
use Rattle.nr_regions.specs.RegisteredMemory.{after_place}
use Rattle.nr_link.specs.declared.agreement.SideTerms.{SideTerms}
use Rattle.nr_link.specs.declared.agreement.Agreement.{Agreement}
use Rattle.nr_link.specs.declared.end.End.{End}
use Rattle.nr_link.specs.declared.end.End.TheVariants as ends
use Rattle.nr_link.specs.Frames.{Frame}
use Rattle.nr_link.specs.Output.{refusing_hello, terminate_message}
use Rattle.nr_endpoint.specs.SendQueue.{with_end, written, writable}
use Rattle.nr_link.specs.Ending.{rejection}
use Rattle.nr_endpoint.specs.LinkState.{LinkState, LinkSide, has_ended, initial_link}
use Rattle.nr_endpoint.specs.Judging.{segment_end, next_frame, with_frame, with_segment_by, with_fpdu, with_peer_hello, with_effect, with_read_response, next_segment, with_other_sizes}
use Rattle.nr_endpoint.specs.Calls.{Call, after_call, after_calls}
use Rattle.nr_endpoint.specs.Calls.Call.{Feed, FeedOne, NextEvent, Post, Stop, OutOfMemory, Send, WriteRemote, ReadRemote, Drain, Register, Release, SendInvalidate, Hold, SendHeld, Invalidate}
use Rattle.nr_endpoint.specs.Laws.{MayBeCalled, MayAllBeCalled, bytes_drained, bytes_written, IsHelloAlone, NoFpduBeforeHello}
use Rattle.nr_endpoint.proofs.AlongFrames.{feed_keeps, feed_one_keeps}
use Rattle.nr_endpoint.proofs.HellosFrom.{hello_from}
use Rattle.nr_link.specs.Reasons.{REASON_SIZES}

abbrev awaits_hello : Awaited → Bool
awaits_hello (HelloFrom side) = true
awaits_hello Fpdu = false

-- it is its peer's hello that a side awaits
abbrev pub IsOfPeer : Side → Awaited → Type 0
IsOfPeer side (HelloFrom other) = other ≡ peer side
IsOfPeer side Fpdu = Unit {0}

-- a side to which the peer's hello didn't come yet, after these bytes were written
record IsEarly (side : Side) (terms : SideTerms) (out : List ℕ) (a : Awaited) (s : LinkState) : Type 0 where
  pub start : s.place ≡ 0
  pub from : IsOfPeer side a
  pub awaited : has_ended s ≡ false → awaits_hello a ≡ true
  pub alone : IsHelloAlone side terms (has_ended s) (out ++ s.send_queue.hello)

abbrev Early : Side → SideTerms → List ℕ → Awaited → LinkState → Type 0
Early side terms out a s = (s.side ≡ side) × (s.has_hello ≡ false → IsEarly side terms out a s)

-- ---- A frame

by_reason : (b : Bool) → (cond b refusing_hello [] ≡ []) ⊎ ((true ≡ true) × (cond b refusing_hello [] ≡ refusing_hello))
by_reason true = inr (refl, refl)
by_reason false = inl refl

-- a side that rejects the peer's hello
rejected : (side : Side) (terms : SideTerms) (out hello : List ℕ) (at reason : ℕ) (gone : Bool) → gone ≡ false → IsHelloAlone side terms gone (out ++ hello) →
    IsHelloAlone side terms true (out ++ (hello ++ rejection side (ends.Bad at reason)))
rejected Initiator terms out hello at reason gone live (inl alone) = inl (ap (λ (xs : List ℕ). out ++ xs) (append-nil hello) ∙ alone)
rejected Initiator terms out hello at reason gone live (inr (ended, is)) = absurd (let h : true ≡ false = sym ended ∙ live in cc)
rejected Responder terms out hello at reason gone live (inr (ended, is)) = absurd (let h : true ≡ false = sym ended ∙ live in cc)
rejected Responder terms out hello at reason gone live (inl none) =
    let same : out ++ (hello ++ cond (eqb reason REASON_FLAGS) refusing_hello []) ≡ cond (eqb reason REASON_FLAGS) refusing_hello [] =
    sym (append_assoc out hello (cond (eqb reason REASON_FLAGS) refusing_hello [])) ∙ ap (λ (xs : List ℕ). xs ++ cond (eqb reason REASON_FLAGS) refusing_hello []) none in
    subst (λ (xs : List ℕ). (xs ≡ []) ⊎ ((true ≡ true) × (xs ≡ refusing_hello))) (sym same) (by_reason (eqb reason REASON_FLAGS))

-- an initiator that refuses the lengths that the peer's hello agrees on
refused : (side : Side) (terms : SideTerms) (out hello : List ℕ) (gone : Bool) → gone ≡ false → Responder ≡ peer side → IsHelloAlone side terms gone (out ++ hello) →
    IsHelloAlone side terms true (out ++ (hello ++ terminate_message REASON_SIZES))
refused Initiator terms out hello gone live of (inl alone) = inr (refl, sym (append_assoc out hello (terminate_message REASON_SIZES)) ∙ ap (λ (xs : List ℕ). xs ++ terminate_message REASON_SIZES) alone)
refused Initiator terms out hello gone live of (inr (ended, is)) = absurd (let h : true ≡ false = sym ended ∙ live in cc)
refused Responder terms out hello gone live of alone = absurd (let h : Responder ≡ Initiator = of in cc)

sizes_early : (side : Side) (terms : SideTerms) (out : List ℕ) (s : LinkState) (f : Frame) → has_ended s ≡ false → Early side terms out (HelloFrom Responder) s → Early side terms out Fpdu (with_other_sizes f s)
sizes_early side terms out s f live early = (
  early.0,
  λ none.
      let e : IsEarly side terms out (HelloFrom Responder) s = early.1 none in
      record {
        start = e.start;
        from = tt;
        awaited = λ ended. absurd (let h : true ≡ false = ended in cc);
        alone = refused side terms out s.send_queue.hello (has_ended s) live e.from e.alone;
      },
)

hello_early : (side : Side) (terms : SideTerms) (out : List ℕ) (a : Awaited) (s : LinkState) (f : Frame) (r : Result Hello ℕ) → has_ended s ≡ false → Early side terms out a s →
    Early side terms out Fpdu (with_peer_hello f r s)
unfolding with_peer_hello with_end
hello_early side terms out a s f (Ok hello) live early = (early.0, λ none. absurd (let h : true ≡ false = none in cc))
hello_early side terms out a s f (Err reason) live early = (
  early.0,
  λ none. record {
    start = (early.1 none).start;
    from = tt;
    awaited = λ ended. absurd (let h : true ≡ false = ended in cc);
    alone = subst (λ (own : Side). IsHelloAlone side terms true (out ++ (s.send_queue.hello ++ rejection own (ends.Bad f.at reason)))) (sym early.0)
        (rejected side terms out s.send_queue.hello f.at reason (has_ended s) live (early.1 none).alone);
  },
)

-- an FPDU changes neither the side nor whether the hello came
abbrev pub SameSide : LinkState → LinkState → Type 0
SameSide s after = (after.side ≡ s.side) × (after.has_hello ≡ s.has_hello)

placed_side : (s : LinkState) (b last : Bool) (n : ℕ) → SameSide s (cond b (with_read_response last n s) s)
placed_side s true last n = (refl, refl)
placed_side s false last n = (refl, refl)

segment_side : (s : LinkState) (f : Frame) (segment : Segment) (e : Option End) → SameSide s (with_segment_by f segment e s)
unfolding with_effect
segment_side s f segment (Some end) = (refl, refl)
segment_side s f (Untagged last opcode w queue msn offset payload) None = (refl, refl)
segment_side s f (Tagged last opcode stag to payload) None =
    placed_side (record s { memory = after_place s.memory stag to payload }) (eqb opcode OPCODE_READ_RESPONSE) last (length payload)

pub fpdu_side : (s : LinkState) (f : Frame) (r : Result Segment ℕ) → SameSide s (with_fpdu f r s)
unfolding with_fpdu
fpdu_side s f (Ok segment) = segment_side s f segment (segment_end s f segment)
fpdu_side s f (Err reason) = (refl, refl)

frame_early : (side : Side) (terms : SideTerms) (out : List ℕ) (a : Awaited) (s : LinkState) (frame : List ℕ) → has_ended s ≡ false → Early side terms out a s → Early side terms out Fpdu (with_frame s a frame)
frame_early side terms out (HelloFrom Initiator) s frame live early = hello_early side terms out (HelloFrom Initiator) s (next_frame s frame) (hello_of Initiator frame) live early
frame_early side terms out (HelloFrom Responder) s frame live early =
    hello_from (Early side terms out Fpdu) Responder (next_frame s frame) (hello_of Responder frame) s
    (hello_early side terms out (HelloFrom Responder) s (next_frame s frame) (hello_of Responder frame) live early) (sizes_early side terms out s (next_frame s frame) live early)
frame_early side terms out Fpdu s frame live early =
    let same : SameSide s (with_fpdu (next_frame s frame) (next_segment s frame) s) = fpdu_side s (next_frame s frame) (next_segment s frame) in
    (same.0 ∙ early.0, λ none. absurd (let h : false ≡ true = (early.1 (sym same.1 ∙ none)).awaited live in cc))

-- ---- A call

-- a call that queues FPDUs at most
unless_early : (side : Side) (terms : SideTerms) (out : List ℕ) (a : Awaited) (s after : LinkState) (b : Bool) → after.side ≡ s.side → after.has_hello ≡ s.has_hello → after.place ≡ s.place →
    after.ended ≡ s.ended → after.send_queue.hello ≡ s.send_queue.hello → Early side terms out a s → Early side terms out a (cond b s after)
unless_early side terms out a s after true own has place gone hello early = early
unless_early side terms out a s after false own has place gone hello early = (
  own ∙ early.0,
  λ none.
      let e : IsEarly side terms out a s = early.1 (sym has ∙ none) in
      record {
        start = place ∙ e.start;
        from = e.from;
        awaited = λ live. e.awaited (ap (λ (x : Option End). is_some x) (sym gone) ∙ live);
        alone = subst (λ (x : Option End). IsHelloAlone side terms (is_some x) (out ++ after.send_queue.hello)) (sym gone)
            (subst (λ (xs : List ℕ). IsHelloAlone side terms (has_ended s) (out ++ xs)) (sym hello) e.alone);
      },
)

ended_alone : (side : Side) (terms : SideTerms) (b : Bool) (bytes : List ℕ) → IsHelloAlone side terms b bytes → IsHelloAlone side terms true bytes
ended_alone Initiator terms b bytes (inl own) = inl own
ended_alone Initiator terms b bytes (inr (gone, is)) = inr (refl, is)
ended_alone Responder terms b bytes (inl none) = inl none
ended_alone Responder terms b bytes (inr (gone, is)) = inr (refl, is)

drained_early : (side : Side) (terms : SideTerms) (out : List ℕ) (a : Awaited) (s : LinkState) (n : ℕ) → Early side terms out a s →
    Early side terms (out ++ take n (writable s.has_hello s.send_queue)) a (record s { send_queue = written n s.send_queue })
unfolding written
drained_early side terms out a s n early = (
  early.0,
  λ none.
      let e : IsEarly side terms out a s = early.1 none in
      let hello : List ℕ = s.send_queue.hello in
      let all : writable s.has_hello s.send_queue ≡ hello = ap (λ (b : Bool). hello ++ cond b s.send_queue.fpdus []) none ∙ append-nil hello in
      let same : (out ++ take n (writable s.has_hello s.send_queue)) ++ drop n hello ≡ out ++ hello =
      ap (λ (xs : List ℕ). (out ++ take n xs) ++ drop n hello) all ∙ append_assoc out (take n hello) (drop n hello) ∙ ap (λ (xs : List ℕ). out ++ xs) (take-append-drop n hello) in
      record {
        start = e.start;
        from = e.from;
        awaited = e.awaited;
        alone = subst (λ (xs : List ℕ). IsHelloAlone side terms (has_ended s) xs) (sym same) e.alone;
      },
)

no_more_lem : (side : Side) (terms : SideTerms) (out : List ℕ) (a : Awaited) (s : LinkState) → Early side terms out a s → Early side terms (out ++ []) a s
no_more_lem side terms out a s early = subst (λ (xs : List ℕ). Early side terms xs a s) (sym (append-nil out)) early

either_early : (side : Side) (terms : SideTerms) (out : List ℕ) (a : Awaited) (s after : LinkState) (b : Bool) → Early side terms out a s → Early side terms out a after → Early side terms out a (cond b s after)
either_early side terms out a s after true early later = early
either_early side terms out a s after false early later = later

call_early : (side : Side) (terms : SideTerms) (out : List ℕ) (link : LinkSide) (call : Call) → MayBeCalled link call → Early side terms out link.awaited link.state →
    Early side terms (out ++ bytes_drained link call) (after_call link call).awaited (after_call link call).state
unfolding after_call with_end
call_early side terms out link (Feed piece) may early =
    no_more_lem side terms out (after_call link (Feed piece)).awaited (after_call link (Feed piece)).state (feed_keeps (Early side terms out) (frame_early side terms out) link piece early)
call_early side terms out link (FeedOne piece) may early =
    no_more_lem side terms out (after_call link (FeedOne piece)).awaited (after_call link (FeedOne piece)).state (feed_one_keeps (Early side terms out) (frame_early side terms out) link piece early)
call_early side terms out link NextEvent may early = no_more_lem side terms out link.awaited _ (early.0, λ none. let e = early.1 none in record { start = e.start; from = e.from; awaited = e.awaited; alone = e.alone })
call_early side terms out link Post may early = no_more_lem side terms out link.awaited _ (early.0, λ none. let e = early.1 none in record { start = e.start; from = e.from; awaited = e.awaited; alone = e.alone })
call_early side terms out link (Stop reason) may early = no_more_lem side terms out link.awaited _ (either_early side terms out link.awaited link.state _ (has_ended link.state) early (early.0, λ none. absurd (let e = early.1 none in omega (arith, may, e.start))))
call_early side terms out link OutOfMemory may early = no_more_lem side terms out link.awaited _ (either_early side terms out link.awaited link.state _ (has_ended link.state) early (
  early.0,
  λ none. let e = early.1 none in record {
    start = e.start;
    from = e.from;
    awaited = λ ended. absurd (let h : true ≡ false = ended in cc);
    alone = ended_alone side terms (has_ended link.state) (out ++ link.state.send_queue.hello) e.alone;
  },
))
call_early side terms out link (Send message) may early = no_more_lem side terms out link.awaited _ (unless_early side terms out link.awaited link.state _ (has_ended link.state) refl refl refl refl refl early)
call_early side terms out link (SendInvalidate stag message) may early = no_more_lem side terms out link.awaited _ (unless_early side terms out link.awaited link.state _ (has_ended link.state) refl refl refl refl refl early)
call_early side terms out link (Hold message) may early = no_more_lem side terms out link.awaited _ (unless_early side terms out link.awaited link.state _ (has_ended link.state) refl refl refl refl refl early)
call_early side terms out link (SendHeld message) may early = no_more_lem side terms out link.awaited _ (unless_early side terms out link.awaited link.state _ (has_ended link.state) refl refl refl refl refl early)
call_early side terms out link (WriteRemote stag to bytes) may early = no_more_lem side terms out link.awaited _ (unless_early side terms out link.awaited link.state _ (has_ended link.state) refl refl refl refl refl early)
call_early side terms out link (ReadRemote sink at stag to len) may early = no_more_lem side terms out link.awaited _ (unless_early side terms out link.awaited link.state _ (has_ended link.state) refl refl refl refl refl early)
call_early side terms out link (Drain count) may early = drained_early side terms out link.awaited link.state count early
call_early side terms out link (Register buf right) may early = no_more_lem side terms out link.awaited _ (early.0, λ none. let e = early.1 none in record { start = e.start; from = e.from; awaited = e.awaited; alone = e.alone })
call_early side terms out link (Release stag) may early = no_more_lem side terms out link.awaited _ (early.0, λ none. let e = early.1 none in record { start = e.start; from = e.from; awaited = e.awaited; alone = e.alone })
call_early side terms out link (Invalidate stag) may early = no_more_lem side terms out link.awaited _ (early.0, λ none. let e = early.1 none in record { start = e.start; from = e.from; awaited = e.awaited; alone = e.alone })

calls_early : (side : Side) (terms : SideTerms) (out : List ℕ) (link : LinkSide) (calls : List Call) → MayAllBeCalled link calls → Early side terms out link.awaited link.state →
    Early side terms (out ++ bytes_written link calls) (after_calls link calls).awaited (after_calls link calls).state
unfolding after_calls
calls_early side terms out link [] may early = no_more_lem side terms out link.awaited link.state early
calls_early side terms out link (call ∷ calls) may early =
    subst (λ (xs : List ℕ). Early side terms xs (after_calls (after_call link call) calls).awaited (after_calls (after_call link call) calls).state)
    (append_assoc out (bytes_drained link call) (bytes_written (after_call link call) calls))
    (calls_early side terms (out ++ bytes_drained link call) (after_call link call) calls may.1 (call_early side terms out link call may.0 early))

initial_early : (side : Side) (receives first_stag : ℕ) (terms : SideTerms) (earlier : Option Agreement) → Early side terms [] (initial_link side receives first_stag terms earlier).awaited (initial_link side receives first_stag terms earlier).state
unfolding initial_link
initial_early Initiator receives first_stag terms earlier = (refl, λ none. record { start = refl; from = refl; awaited = λ live. refl; alone = inl refl })
initial_early Responder receives first_stag terms earlier = (refl, λ none. record { start = refl; from = refl; awaited = λ live. refl; alone = inl refl })

pub no_fpdu_before_hello_lem : NoFpduBeforeHello
no_fpdu_before_hello_lem side receives first_stag terms earlier calls may none =
    let start : LinkSide = initial_link side receives first_stag terms earlier in
    let s : LinkState = (after_calls start calls).state in
    let all : writable s.has_hello s.send_queue ≡ s.send_queue.hello = ap (λ (b : Bool). s.send_queue.hello ++ cond b s.send_queue.fpdus []) none ∙ append-nil s.send_queue.hello in
    subst (λ (xs : List ℕ). IsHelloAlone side terms (has_ended s) (bytes_written start calls ++ xs)) (sym all)
    ((calls_early side terms [] start calls may (initial_early side receives first_stag terms earlier)).1 none).alone
