-- A server says what it has to, from event to event, and each of its messages has its cause.
use Rattle.std.proofs.Common.{◌≡◌, ℕ, ◌<◌, true, false, List, [], ◌∷◌, ◌++◌, length, map, Option, None, Some, Ok, refl, sym, ap, subst, ◌∙◌, arith, append_assoc, append-nil, length-append, inl, inr, ◌⊎◌}
use Rattle.nr_xdr.specs.Item.{IsBytes}
use Rattle.nr_wire.specs.declared.hello.Side.TheVariants.{Initiator, Responder}
use Rattle.nr_wire.specs.declared.stream.Awaited.TheVariants.{Hello as HelloFrom, Fpdu}
use Rattle.nr_wire.specs.Segment.{Segment, segment_of}
use Rattle.nr_link.specs.Frames.{Frame, is_hello}
use Rattle.nr_link.specs.ReceiveState.{begun_bytes, stag_invalidated}
use Rattle.nr_link.specs.Ending.{frame_segment}
use Rattle.nr_link.proofs.TakenSegments.{plain_taken}
use Rattle.nr_reduce.specs.declared.mark.LinkParameters.{LinkParameters}
use Rattle.nr_reduce.specs.History.{ExecutedCall}
use Rattle.nr_reduce.specs.Events.{RunEvent}
use Rattle.nr_reduce.specs.Events.RunEvent.{FrameReceived, CallSubmitted, MemoryRevoked, CallExecuted, QueueWritten, ServerTold}
use Rattle.nr_reduce.specs.EndRules.{EndState, next_end_state, end_state_after, output_for, output_for_all}
use Rattle.nr_reduce.specs.Holds.{Answer, answer_message, chunk_error}
use Rattle.nr_reduce.specs.ChunkBytes.{answer_segments}
use Rattle.nr_reduce.specs.ServerState.{ServerState, ReadyCall, credit_word}
use Rattle.nr_reduce.specs.ServerFrames.{frame_effect}
use Rattle.nr_reduce.specs.Server.{server_rules, server_end, offer_of, initial_server, stag_named}
use Rattle.nr_reduce.specs.RunLaws.{server_by}
use Rattle.nr_reduce.proofs.Steps.{output_for_all_append, end_state_after_append}
use Rattle.nr_laws.proofs.EventOutputs.{GoesOn, place_after, outputs_for, outputs_all}
use Rattle.nr_laws.proofs.Outputs.{Output, bytes_of_all, bytes_append, server_says, server_final_outputs, answer_of_call}
use Rattle.nr_laws.proofs.Outputs.Output.{AHello, ASegment}
use Rattle.nr_laws.proofs.PlainOutputs.{ArePlain, IsPlain}
use Rattle.nr_laws.proofs.Brought.{AreFrom, Brings, IsHelloFrame}
use Rattle.nr_laws.proofs.Words.{from_append}
use Rattle.nr_laws.proofs.Completions.{completed_by, begun_from, begun_append}
use Rattle.nr_laws.proofs.Memory.{parts_out}
use Rattle.nr_laws.proofs.ServerOutputs.{IsError, AtMostOne, CallsFit}
use Rattle.nr_laws.proofs.ServerOutputs.AtMostOne.{NoError, OneError}
use Rattle.nr_laws.proofs.Basics.{first_is_lem, PartedTwo, parted_two}
use Rattle.nr_laws.proofs.Basics.PartedTwo.{InFirst, InSecond}

-- ---- Events of a server on a matched link

pub record IsGoodExecution (r : EndState ServerState) (e : ExecutedCall) : Type 0 where
  pub stays : r.ended ≡ None
  pub call : ReadyCall
  pub others : List ReadyCall
  pub is_next : r.state.ready ≡ call ∷ others
  pub xid : e.xid ≡ call.xid
  pub payload : e.payload ≡ call.payload
  pub bytes : IsBytes e.reply

-- a frame is the client's hello, or a segment that can be read
abbrev pub FrameGood : Frame → Type 0
FrameGood f = ((is_hello f ≡ true) × IsHelloFrame Initiator f.bytes) ⊎ ((s : Segment) × (is_hello f ≡ false) × (frame_segment f ≡ Ok s))

abbrev pub ServerGood : EndState ServerState → RunEvent → Type 0
ServerGood r (FrameReceived f) = FrameGood f
ServerGood r (CallSubmitted p a) = Unit {0}
ServerGood r (MemoryRevoked p xid) = Unit {0}
ServerGood r (CallExecuted e) = IsGoodExecution r e
ServerGood r (QueueWritten taken) = Unit {0}
ServerGood r (ServerTold what) = Unit {0}

-- without what is known of frames
abbrev pub ServerPlain : EndState ServerState → RunEvent → Type 0
ServerPlain r (FrameReceived f) = Unit {0}
ServerPlain r (CallSubmitted p a) = Unit {0}
ServerPlain r (MemoryRevoked p xid) = Unit {0}
ServerPlain r (CallExecuted e) = IsGoodExecution r e
ServerPlain r (QueueWritten taken) = Unit {0}
ServerPlain r (ServerTold what) = Unit {0}

-- a segment of another opcode is read by a server as it is
plain_frame : (f : Frame) (s : Segment) → segment_of f.bytes ≡ Ok s → IsPlain s → frame_segment f ≡ Ok s
unfolding frame_segment
plain_frame f s is plain = plain_taken false f.bytes s is plain

fpdus_preserve : (opened : LinkParameters) (place : ℕ) (r : EndState ServerState) (es : List RunEvent) (came : List Output) → GoesOn (server_rules opened) ServerPlain place r es → Brings es came → AreFrom Fpdu came → ArePlain came → GoesOn (server_rules opened) ServerGood place r es
fpdus_preserve opened place r [] came g b from plain = tt
fpdus_preserve opened place r (FrameReceived f ∷ es) [] g b from plain = absurd b
fpdus_preserve opened place r (FrameReceived f ∷ es) (AHello bytes ∷ came) g b from plain = absurd from
fpdus_preserve opened place r (FrameReceived f ∷ es) (ASegment s ∷ came) g b from plain = (g.0, inr (s, b.0.0, plain_frame f s b.0.1 plain.0), fpdus_preserve opened f.end (next_end_state (server_rules opened) r (FrameReceived f)) es came g.2 b.1 from.1 plain.1)
fpdus_preserve opened place r (CallSubmitted p a ∷ es) came g b from plain = (g.0, g.1, fpdus_preserve opened place (next_end_state (server_rules opened) r (CallSubmitted p a)) es came g.2 b from plain)
fpdus_preserve opened place r (MemoryRevoked p xid ∷ es) came g b from plain = (g.0, g.1, fpdus_preserve opened place (next_end_state (server_rules opened) r (MemoryRevoked p xid)) es came g.2 b from plain)
fpdus_preserve opened place r (CallExecuted e ∷ es) came g b from plain = (g.0, g.1, fpdus_preserve opened place (next_end_state (server_rules opened) r (CallExecuted e)) es came g.2 b from plain)
fpdus_preserve opened place r (QueueWritten taken ∷ es) came g b from plain = (g.0, g.1, fpdus_preserve opened place (next_end_state (server_rules opened) r (QueueWritten taken)) es came g.2 b from plain)
fpdus_preserve opened place r (ServerTold what ∷ es) came g b from plain = (g.0, g.1, fpdus_preserve opened place (next_end_state (server_rules opened) r (ServerTold what)) es came g.2 b from plain)

pub hello_preserves : (opened : LinkParameters) (place : ℕ) (r : EndState ServerState) (es : List RunEvent) (came : List Output) → GoesOn (server_rules opened) ServerPlain place r es → Brings es came → AreFrom (HelloFrom Initiator) came → ArePlain came → GoesOn (server_rules opened) ServerGood place r es
hello_preserves opened place r [] came g b from plain = tt
hello_preserves opened place r (FrameReceived f ∷ es) [] g b from plain = absurd b
hello_preserves opened place r (FrameReceived f ∷ es) (AHello bytes ∷ came) g b from plain = (g.0, inl (b.0.0, subst (λ (bytes : List ℕ). IsHelloFrame Initiator bytes) (sym b.0.1) from.0), fpdus_preserve opened f.end (next_end_state (server_rules opened) r (FrameReceived f)) es came g.2 b.1 from.1 plain)
hello_preserves opened place r (FrameReceived f ∷ es) (ASegment s ∷ came) g b from plain = absurd from
hello_preserves opened place r (CallSubmitted p a ∷ es) came g b from plain = (g.0, g.1, hello_preserves opened place (next_end_state (server_rules opened) r (CallSubmitted p a)) es came g.2 b from plain)
hello_preserves opened place r (MemoryRevoked p xid ∷ es) came g b from plain = (g.0, g.1, hello_preserves opened place (next_end_state (server_rules opened) r (MemoryRevoked p xid)) es came g.2 b from plain)
hello_preserves opened place r (CallExecuted e ∷ es) came g b from plain = (g.0, g.1, hello_preserves opened place (next_end_state (server_rules opened) r (CallExecuted e)) es came g.2 b from plain)
hello_preserves opened place r (QueueWritten taken ∷ es) came g b from plain = (g.0, g.1, hello_preserves opened place (next_end_state (server_rules opened) r (QueueWritten taken)) es came g.2 b from plain)
hello_preserves opened place r (ServerTold what ∷ es) came g b from plain = (g.0, g.1, hello_preserves opened place (next_end_state (server_rules opened) r (ServerTold what)) es came g.2 b from plain)

-- ---- Why a message is said

abbrev pub outs_of : LinkParameters → List RunEvent → List Output
outs_of opened es = outputs_all (server_rules opened) (server_says opened) server_final_outputs (initial_server opened) es

abbrev pub is_live : LinkParameters → List RunEvent → Type 0
is_live opened es = (end_state_after (server_rules opened) (initial_server opened) es).ended ≡ None

-- it refuses a Send, at a frame
pub record SaidError (opened : LinkParameters) (es : List RunEvent) (m : List ℕ) : Type 0 where
  pub earlier : List RunEvent
  pub frame : Frame
  pub later : List RunEvent
  pub is : es ≡ earlier ++ FrameReceived frame ∷ later
  pub behind : is_hello frame ≡ false
  pub segment : Segment
  pub is_segment : frame_segment frame ≡ Ok segment
  pub live : is_live opened earlier
  pub stays : server_end opened (server_by opened earlier) (FrameReceived frame) ≡ None
  pub errors : (frame_effect (server_by opened earlier) frame).errors ≡ m ∷ []
  pub kind : IsError m

-- it answers an executed call
pub record SaidAnswer (opened : LinkParameters) (es : List RunEvent) (xs : List Output) (m : List ℕ) : Type 0 where
  pub earlier : List RunEvent
  pub call : ExecutedCall
  pub later : List RunEvent
  pub is : es ≡ earlier ++ CallExecuted call ∷ later
  pub live : is_live opened earlier
  pub answer : Answer
  pub is_answer : answer_of_call (server_by opened earlier) call ≡ Some answer
  pub message : m ≡ answer_message call.xid (credit_word (server_by opened earlier)) (offer_of (server_by opened earlier) call.xid) answer
  -- what came before the last segment of its message: the Writes of the answer, after those of earlier outputs
  pub before : parts_out xs ≡ parts_out (outs_of opened earlier) ++ parts_out (map ASegment (answer_segments (offer_of (server_by opened earlier) call.xid) answer))

-- or it says that its offer doesn't hold the reply
pub record SaidNoAnswer (opened : LinkParameters) (es : List RunEvent) (m : List ℕ) : Type 0 where
  pub earlier : List RunEvent
  pub call : ExecutedCall
  pub later : List RunEvent
  pub is : es ≡ earlier ++ CallExecuted call ∷ later
  pub live : is_live opened earlier
  pub none : answer_of_call (server_by opened earlier) call ≡ None
  pub message : m ≡ chunk_error call.xid (credit_word (server_by opened earlier))

pub data Said (opened : LinkParameters) (es : List RunEvent) (xs : List Output) (m : List ℕ) : Type 0 where
  IsRefusal : SaidError opened es m → Said opened es xs m
  IsAnswer : SaidAnswer opened es xs m → Said opened es xs m
  IsNoAnswer : SaidNoAnswer opened es m → Said opened es xs m

said_later : (opened : LinkParameters) (es : List RunEvent) (e : RunEvent) (xs : List Output) (m : List ℕ) → Said opened es xs m → Said opened (es ++ e ∷ []) xs m
said_later opened es e xs m (IsRefusal s) = IsRefusal (record {
  earlier = s.earlier;
  frame = s.frame;
  later = s.later ++ e ∷ [];
  is = ap (λ (all : List RunEvent). all ++ e ∷ []) s.is ∙ append_assoc s.earlier (FrameReceived s.frame ∷ s.later) (e ∷ []);
  behind = s.behind;
  segment = s.segment;
  is_segment = s.is_segment;
  live = s.live;
  stays = s.stays;
  errors = s.errors;
  kind = s.kind;
})
said_later opened es e xs m (IsAnswer s) = IsAnswer (record {
  earlier = s.earlier;
  call = s.call;
  later = s.later ++ e ∷ [];
  is = ap (λ (all : List RunEvent). all ++ e ∷ []) s.is ∙ append_assoc s.earlier (CallExecuted s.call ∷ s.later) (e ∷ []);
  live = s.live;
  answer = s.answer;
  is_answer = s.is_answer;
  message = s.message;
  before = s.before;
})
said_later opened es e xs m (IsNoAnswer s) = IsNoAnswer (record {
  earlier = s.earlier;
  call = s.call;
  later = s.later ++ e ∷ [];
  is = ap (λ (all : List RunEvent). all ++ e ∷ []) s.is ∙ append_assoc s.earlier (CallExecuted s.call ∷ s.later) (e ∷ []);
  live = s.live;
  none = s.none;
  message = s.message;
})

-- The STag that its last segment names: that of the offer that is answered, and none else.
abbrev pub NamesBy : (opened : LinkParameters) (es : List RunEvent) (xs : List Output) (m : List ℕ) → Segment → Said opened es xs m → Type 0
NamesBy opened es xs m s (IsRefusal y) = stag_invalidated s ≡ None
NamesBy opened es xs m s (IsAnswer y) = stag_invalidated s ≡ stag_named (server_by opened y.earlier).invalidates (offer_of (server_by opened y.earlier) y.call.xid)
NamesBy opened es xs m s (IsNoAnswer y) = stag_invalidated s ≡ None

names_later : (opened : LinkParameters) (es : List RunEvent) (e : RunEvent) (xs : List Output) (m : List ℕ) (s : Segment) (y : Said opened es xs m) → NamesBy opened es xs m s y → NamesBy opened (es ++ e ∷ []) xs m s (said_later opened es e xs m y)
unfolding said_later
names_later opened es e xs m s (IsRefusal y) h = h
names_later opened es e xs m s (IsAnswer y) h = h
names_later opened es e xs m s (IsNoAnswer y) h = h

pub record SaidBy (opened : LinkParameters) (es : List RunEvent) (xs : List Output) (m : List ℕ) (s : Segment) : Type 0 where
  pub said : Said opened es xs m
  pub names : NamesBy opened es xs m s said

abbrev pub EachSaid : LinkParameters → List RunEvent → List Output → Type 0
EachSaid opened es outs = (xs : List Output) (s : Segment) (ys : List Output) (m : List ℕ) → outs ≡ xs ++ ASegment s ∷ ys → completed_by (begun_from None xs) s ≡ m ∷ [] → SaidBy opened es xs m s

each_more : (opened : LinkParameters) (es : List RunEvent) (e : RunEvent) (outs more : List Output) → begun_from None outs ≡ None → EachSaid opened es outs
    → ((pre : List Output) (s : Segment) (post : List Output) (m : List ℕ) → more ≡ pre ++ ASegment s ∷ post → completed_by (begun_from None pre) s ≡ m ∷ [] → SaidBy opened (es ++ e ∷ []) (outs ++ pre) m s)
    → EachSaid opened (es ++ e ∷ []) (outs ++ more)
each_more opened es e outs more none old new xs s ys m is one = by (parted_two outs more xs (ASegment s) ys is)
  where
    by : PartedTwo outs more xs (ASegment s) ys → SaidBy opened (es ++ e ∷ []) xs m s
    by (InFirst rest same) = (let was = old xs s rest m same one in record { said = said_later opened es e xs m was.said; names = names_later opened es e xs m s was.said was.names })
    by (InSecond rest same then) = subst (λ (zs : List Output). SaidBy opened (es ++ e ∷ []) zs m s) (sym same)
        (new rest s ys m then (ap (λ (b : Option (List ℕ)). completed_by b s) (sym (ap (λ (zs : List Output). begun_from None zs) same ∙ begun_append None outs rest ∙ ap (λ (b : Option (List ℕ)). begun_from b rest) none)) ∙ one))

pub nothing_at : (ms a : List (List ℕ)) (m : List ℕ) (b : List (List ℕ)) → ms ≡ [] → ms ≡ a ++ m ∷ b → ⊥
nothing_at ms a m b none e = by a (sym none ∙ e)
  where
    by : (a : List (List ℕ)) → [] ≡ a ++ m ∷ b → ⊥
    by [] e = absurd cc
    by (x ∷ a) e = absurd cc

single : (x : List ℕ) (a : List (List ℕ)) (m : List ℕ) (b : List (List ℕ)) → x ∷ [] ≡ a ++ m ∷ b → x ≡ m
single x [] m b e = first_is_lem x m [] b e
single x (y ∷ a) m b e = absurd (let l = ap (λ (zs : List (List ℕ)). length zs) e in let n = length-append a (m ∷ b) in omega (arith, l, n))

pub at_most_lem : (ms : List (List ℕ)) → AtMostOne ms → (a : List (List ℕ)) (m : List ℕ) (b : List (List ℕ)) → ms ≡ a ++ m ∷ b → (ms ≡ m ∷ []) × IsError m
at_most_lem ms NoError a m b e = absurd (nothing_at [] a m b refl e)
at_most_lem ms (OneError x k) a m b e = (let same = single x a m b e in (ap (λ (y : List ℕ). y ∷ []) same, subst IsError same k))

-- ---- What is kept

abbrev pub Greeted : List Output → Type 0
Greeted outs = (hello : List ℕ) × (rest : List Output) × (outs ≡ AHello hello ∷ rest) × IsHelloFrame Responder hello × AreFrom Fpdu rest

abbrev pub Shape : ℕ → EndState ServerState → List Output → Type 0
Shape place r outs = ((place ≡ 0) × (outs ≡ []) × (r.state.ready ≡ []) × (r.ended ≡ None)) ⊎ ((0 < place) × Greeted outs)

pub record ServerTells (opened : LinkParameters) (es : List RunEvent) (place : ℕ) (r : EndState ServerState) (outs : List Output) : Type 0 where
  pub state : r ≡ end_state_after (server_rules opened) (initial_server opened) es
  pub outs_are : outs ≡ outs_of opened es
  pub bytes : output_for_all (server_rules opened) (initial_server opened) es ≡ bytes_of_all outs
  pub begun : IsBytes (begun_bytes r.state.received.begun)
  pub fit : CallsFit r.state.calls
  pub shape : Shape place r outs
  pub none_begun : begun_from None outs ≡ None
  pub said : EachSaid opened es outs

pub greeted_more : (outs more : List Output) → Greeted outs → AreFrom Fpdu more → Greeted (outs ++ more)
greeted_more outs more (hello, rest, is, read, words) h = (hello, rest ++ more, ap (λ (xs : List Output). xs ++ more) is, read, from_append rest more words h)

outs_append : (opened : LinkParameters) (r : EndState ServerState) (es : List RunEvent) (e : RunEvent) → outputs_all (server_rules opened) (server_says opened) server_final_outputs r (es ++ e ∷ [])
    ≡ outputs_all (server_rules opened) (server_says opened) server_final_outputs r es ++ outputs_for (server_rules opened) (server_says opened) server_final_outputs (end_state_after (server_rules opened) r es) e
outs_append opened r [] e = append-nil (outputs_for (server_rules opened) (server_says opened) server_final_outputs r e)
outs_append opened r (x ∷ es) e =
    let o = outputs_for (server_rules opened) (server_says opened) server_final_outputs r x in
    ap (λ (xs : List Output). o ++ xs) (outs_append opened (next_end_state (server_rules opened) r x) es e)
    ∙ sym (append_assoc o (outputs_all (server_rules opened) (server_says opened) server_final_outputs (next_end_state (server_rules opened) r x) es)
    (outputs_for (server_rules opened) (server_says opened) server_final_outputs (end_state_after (server_rules opened) (next_end_state (server_rules opened) r x) es) e))

-- one event more, if its outputs are `more`
pub record Grows (opened : LinkParameters) (es : List RunEvent) (place : ℕ) (r : EndState ServerState) (outs : List Output) (e : RunEvent) (more : List Output) : Type 0 where
  pub outputs : outputs_for (server_rules opened) (server_says opened) server_final_outputs r e ≡ more
  pub said : output_for (server_rules opened) r e ≡ bytes_of_all more
  pub begun : IsBytes (begun_bytes (next_end_state (server_rules opened) r e).state.received.begun)
  pub fit : CallsFit (next_end_state (server_rules opened) r e).state.calls
  pub shape : Shape (place_after place e) (next_end_state (server_rules opened) r e) (outs ++ more)
  pub none_begun : begun_from None more ≡ None
  pub cause : (pre : List Output) (s : Segment) (post : List Output) (m : List ℕ) → more ≡ pre ++ ASegment s ∷ post → completed_by (begun_from None pre) s ≡ m ∷ [] → SaidBy opened (es ++ e ∷ []) (outs ++ pre) m s

pub grown : (opened : LinkParameters) (es : List RunEvent) (place : ℕ) (r : EndState ServerState) (outs : List Output) (e : RunEvent) (more : List Output) → ServerTells opened es place r outs → Grows opened es place r outs e more
    → ServerTells opened (es ++ e ∷ []) (place_after place e) (next_end_state (server_rules opened) r e) (outs ++ outputs_for (server_rules opened) (server_says opened) server_final_outputs r e)
grown opened es place r outs e more t g =
    let rules = server_rules opened in
    subst (λ (xs : List Output). ServerTells opened (es ++ e ∷ []) (place_after place e) (next_end_state rules r e) (outs ++ xs)) (sym g.outputs)
    (record {
      state = ap (λ (x : EndState ServerState). next_end_state rules x e) t.state ∙ sym (end_state_after_append rules (initial_server opened) es (e ∷ []));
      outs_are = (λ i. t.outs_are i ++ sym g.outputs i) ∙ ap (λ (x : EndState ServerState). outs_of opened es ++ outputs_for rules (server_says opened) server_final_outputs x e) t.state ∙ sym (outs_append opened (initial_server opened) es e);
      bytes = output_for_all_append rules (initial_server opened) es (e ∷ [])
          ∙ (λ i. t.bytes i ++ (append-nil (output_for rules (sym t.state i) e) i))
          ∙ ap (λ (xs : List ℕ). bytes_of_all outs ++ xs) g.said
          ∙ sym (bytes_append outs more);
      begun = g.begun;
      fit = g.fit;
      shape = g.shape;
      none_begun = begun_append None outs more ∙ ap (λ (b : Option (List ℕ)). begun_from b more) t.none_begun ∙ g.none_begun;
      said = each_more opened es e outs more t.none_begun t.said g.cause;
    })
