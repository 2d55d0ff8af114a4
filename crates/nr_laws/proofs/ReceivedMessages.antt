-- What a side has of the messages that its frames brought: how many its segments completed.
use Rattle.std.proofs.Common.{◌≡◌, ℕ, ◌+◌, Bool, true, false, cond, List, [], ◌∷◌, ◌++◌, length, length-append, Option, None, Some, Result, Ok, Err, refl, sym, ap, subst, ◌∙◌, arith}
use Rattle.std.specs.Prelude.{option_to_list}
use Rattle.nr_wire.specs.Segment.{Segment, segment_of}
use Rattle.nr_link.specs.declared.end.End.{End as Stop}
use Rattle.nr_link.specs.Frames.{Frame, is_hello}
use Rattle.nr_link.specs.ReceiveState.{ReceiveState, received_after, message_completed}
use Rattle.nr_reduce.specs.declared.mark.LinkParameters.{LinkParameters}
use Rattle.nr_reduce.specs.Events.{RunEvent}
use Rattle.nr_reduce.specs.Events.RunEvent.{FrameReceived, CallSubmitted, MemoryRevoked, CallExecuted, QueueWritten, ServerTold}
use Rattle.nr_reduce.specs.EndRules.{EndMachine, EndState, next_end_state, next_end_state_by, next_end_state_in, end_state_after}
use Rattle.nr_reduce.specs.ClientState.{ClientState}
use Rattle.nr_reduce.specs.Client.{client_rules, client_segment, client_state_after, with_segment, with_hello}
use Rattle.nr_reduce.specs.ServerState.{ServerState}
use Rattle.nr_reduce.specs.Server.{server_rules, server_state_after, received_by, with_own_hello}
use Rattle.nr_reduce.proofs.Steps.{ended_stays, end_state_after_append}
use Rattle.nr_laws.proofs.Outputs.{Output}
use Rattle.nr_laws.proofs.Outputs.Output.{AHello, ASegment}
use Rattle.nr_laws.proofs.Brought.{Brought, Brings}
use Rattle.nr_laws.proofs.ReadFrames.{server_read, client_read}
use Rattle.nr_laws.proofs.Completions.{completed_by, begun_by, completed_from, begun_from, begun_is, completed_is, sends_is}

-- ---- An end that hasn't ended hadn't before

pub was_live_lem : {S : Type 0} (rules : EndMachine S) (r : EndState S) (es : List RunEvent) → (end_state_after rules r es).ended ≡ None → r.ended ≡ None
was_live_lem rules r es e = by r.state r.ended e
  where
    by : (s : _) (ended : Option Stop) → (end_state_after rules (record { state = s; ended = ended }) es).ended ≡ None → ended ≡ None
    by s None e = refl
    by s (Some end) e = absurd (let t = ap (λ (x : EndState _). x.ended) (ended_stays rules s end es).0 in let u : Some end ≡ None = sym t ∙ e in cc)

pub live_first : {S : Type 0} (rules : EndMachine S) (r : EndState S) (es more : List RunEvent) → (end_state_after rules r (es ++ more)).ended ≡ None → (end_state_after rules r es).ended ≡ None
live_first rules r es more e = was_live_lem rules (end_state_after rules r es) more (ap (λ (x : EndState _). x.ended) (sym (end_state_after_append rules r es more)) ∙ e)

-- ---- What is received

abbrev pub received_event : ReceiveState → RunEvent → ReceiveState
received_event h (FrameReceived f) = cond (is_hello f) h (received_by h (segment_of f.bytes))
received_event h (CallSubmitted p a) = h
received_event h (MemoryRevoked p xid) = h
received_event h (CallExecuted e) = h
received_event h (QueueWritten taken) = h
received_event h (ServerTold what) = h

-- a machine that receives so, unless it ends
abbrev pub Receiving : {S : Type 0} → EndMachine S → (S → ReceiveState) → Type 0
Receiving rules received = (s : _) (e : RunEvent) → rules.end_at s e ≡ None → received (rules.state_after s e) ≡ received_event (received s) e

-- n Sends were completed, and these bytes of one have begun
pub record Count (before after : ReceiveState) (n : ℕ) (bytes : Option (List ℕ)) : Type 0 where
  pub sends : after.sends ≡ before.sends + n
  pub begun : after.begun ≡ bytes

count_segment : (h : ReceiveState) (s : Segment) → Count h (received_after h s) (length (completed_by h.begun s)) (begun_by h.begun s)
count_segment h s = record { sends = sends_is h s; begun = begun_is h s }

count_none : (h t : ReceiveState) → t ≡ h → Count h t 0 h.begun
count_none h t e = record { sends = (let s = ap (λ (x : ReceiveState). x.sends) e in omega (arith, s)); begun = ap (λ (x : ReceiveState). x.begun) e }

abbrev completed_of : Option (List ℕ) → Output → List (List ℕ)
completed_of b (AHello bytes) = []
completed_of b (ASegment s) = completed_by b s

abbrev begun_of : Option (List ℕ) → Output → Option (List ℕ)
begun_of b (AHello bytes) = b
begun_of b (ASegment s) = begun_by b s

count_frame : (h : ReceiveState) (o : Output) (f : Frame) → Brought o f → Count h (received_event h (FrameReceived f)) (length (completed_of h.begun o)) (begun_of h.begun o)
count_frame h (AHello bytes) f b = count_none h (received_event h (FrameReceived f)) (ap (λ (x : Bool). cond x h (received_by h (segment_of f.bytes))) b.0)
count_frame h (ASegment s) f b =
    let is : received_event h (FrameReceived f) ≡ received_after h s = (λ i. cond (b.0 i) h (received_by h (b.1 i))) in
    subst (λ (t : ReceiveState). Count h t (length (completed_by h.begun s)) (begun_by h.begun s)) (sym is) (count_segment h s)

completed_first : (b : Option (List ℕ)) (o : Output) (outs : List Output) → completed_from b (o ∷ outs) ≡ completed_of b o ++ completed_from (begun_of b o) outs
completed_first b (AHello bytes) outs = refl
completed_first b (ASegment s) outs = refl

begun_first : (b : Option (List ℕ)) (o : Output) (outs : List Output) → begun_from b (o ∷ outs) ≡ begun_from (begun_of b o) outs
begun_first b (AHello bytes) outs = refl
begun_first b (ASegment s) outs = refl

pub one_step_lem : {S : Type 0} (rules : EndMachine S) (received : S → ReceiveState) → Receiving rules received → (r : EndState S) (e : RunEvent) → (next_end_state rules r e).ended ≡ None → received (next_end_state rules r e).state ≡ received_event (received r.state) e
one_step_lem {S} rules received goes r e live = by_end r.state r.ended live
  where
    by_why : (s : S) (o : Option Stop) → rules.end_at s e ≡ o → (next_end_state_by rules s e o).ended ≡ None → received (next_end_state_by rules s e o).state ≡ received_event (received s) e
    by_why s None is h = goes s e is
    by_why s (Some end) is h = absurd cc

    by_end : (s : S) (o : Option Stop) → (next_end_state_in rules s e o).ended ≡ None → received (next_end_state_in rules s e o).state ≡ received_event (received s) e
    by_end s None h = by_why s (rules.end_at s e) refl h
    by_end s (Some end) h = absurd cc

count_both : (a b c : ReceiveState) (m n : ℕ) (x y : Option (List ℕ)) → Count a b m x → Count b c n y → Count a c (m + n) y
count_both a b c m n x y p q = record { sends = (let d = p.sends in let e = q.sends in omega (arith, d, e)); begun = q.begun }

pub hears : {S : Type 0} (rules : EndMachine S) (received : S → ReceiveState) → Receiving rules received → (r : EndState S) (es : List RunEvent) (outs : List Output) → Brings es outs → (end_state_after rules r es).ended ≡ None
    → Count (received r.state) (received (end_state_after rules r es).state) (length (completed_from (received r.state).begun outs)) (begun_from (received r.state).begun outs)
hears rules received goes r [] outs b live =
    subst (λ (xs : List Output). Count (received r.state) (received r.state) (length (completed_from (received r.state).begun xs)) (begun_from (received r.state).begun xs)) (sym b) (count_none (received r.state) (received r.state) refl)
hears rules received goes r (FrameReceived f ∷ es) [] b live = absurd b
hears rules received goes r (FrameReceived f ∷ es) (o ∷ outs) b live =
    let t = next_end_state rules r (FrameReceived f) in
    let bytes : Option (List ℕ) = (received r.state).begun in
    let same = one_step_lem rules received goes r (FrameReceived f) (was_live_lem rules t es live) in
    let first : Count (received r.state) (received t.state) (length (completed_of bytes o)) (begun_of bytes o) =
    subst (λ (h : ReceiveState). Count (received r.state) h (length (completed_of bytes o)) (begun_of bytes o)) (sym same) (count_frame (received r.state) o f b.0) in
    let rest : Count (received t.state) (received (end_state_after rules t es).state) (length (completed_from (begun_of bytes o) outs)) (begun_from (begun_of bytes o) outs) =
    subst (λ (x : Option (List ℕ)). Count (received t.state) (received (end_state_after rules t es).state) (length (completed_from x outs)) (begun_from x outs)) first.begun (hears rules received goes t es outs b.1 live) in
    let number : length (completed_of bytes o) + length (completed_from (begun_of bytes o) outs) ≡ length (completed_from bytes (o ∷ outs)) =
    sym (length-append (completed_of bytes o) (completed_from (begun_of bytes o) outs)) ∙ ap (λ (ms : List (List ℕ)). length ms) (sym (completed_first bytes o outs)) in
    let both = count_both (received r.state) (received t.state) (received (end_state_after rules t es).state) (length (completed_of bytes o)) (length (completed_from (begun_of bytes o) outs)) (begun_of bytes o) (begun_from (begun_of bytes o) outs) first rest in
    record { sends = both.sends ∙ ap (λ (n : ℕ). (received r.state).sends + n) number; begun = both.begun ∙ sym (begun_first bytes o outs) }
hears rules received goes r (CallSubmitted p a ∷ es) outs b live =
    let t = next_end_state rules r (CallSubmitted p a) in
    let same = one_step_lem rules received goes r (CallSubmitted p a) (was_live_lem rules t es live) in
    subst (λ (h : ReceiveState). Count h (received (end_state_after rules t es).state) (length (completed_from h.begun outs)) (begun_from h.begun outs)) same
    (hears rules received goes t es outs b live)
hears rules received goes r (MemoryRevoked p xid ∷ es) outs b live =
    let t = next_end_state rules r (MemoryRevoked p xid) in
    let same = one_step_lem rules received goes r (MemoryRevoked p xid) (was_live_lem rules t es live) in
    subst (λ (h : ReceiveState). Count h (received (end_state_after rules t es).state) (length (completed_from h.begun outs)) (begun_from h.begun outs)) same
    (hears rules received goes t es outs b live)
hears rules received goes r (CallExecuted e ∷ es) outs b live =
    let t = next_end_state rules r (CallExecuted e) in
    let same = one_step_lem rules received goes r (CallExecuted e) (was_live_lem rules t es live) in
    subst (λ (h : ReceiveState). Count h (received (end_state_after rules t es).state) (length (completed_from h.begun outs)) (begun_from h.begun outs)) same
    (hears rules received goes t es outs b live)
hears rules received goes r (QueueWritten taken ∷ es) outs b live =
    let t = next_end_state rules r (QueueWritten taken) in
    let same = one_step_lem rules received goes r (QueueWritten taken) (was_live_lem rules t es live) in
    subst (λ (h : ReceiveState). Count h (received (end_state_after rules t es).state) (length (completed_from h.begun outs)) (begun_from h.begun outs)) same
    (hears rules received goes t es outs b live)
hears rules received goes r (ServerTold what ∷ es) outs b live =
    let t = next_end_state rules r (ServerTold what) in
    let same = one_step_lem rules received goes r (ServerTold what) (was_live_lem rules t es live) in
    subst (λ (h : ReceiveState). Count h (received (end_state_after rules t es).state) (length (completed_from h.begun outs)) (begun_from h.begun outs)) same
    (hears rules received goes t es outs b live)

-- ---- The two machines receive so

pub server_receives : (opened : LinkParameters) → Receiving (server_rules opened) (λ (k : ServerState). k.received)
unfolding server_state_after
server_receives opened k (FrameReceived f) lives = by (is_hello f) refl
  where
    by : (b : Bool) → is_hello f ≡ b → (cond b (with_own_hello opened k f) (Rattle.nr_reduce.specs.Server.with_effect k f (Rattle.nr_reduce.specs.ServerFrames.frame_effect k f))).received ≡ cond b k.received (received_by k.received (segment_of f.bytes))
    by true first = refl
    by false behind = ap (λ (r : Result Segment ℕ). received_by k.received r) (server_read opened k f behind lives)
server_receives opened k (CallSubmitted p a) lives = refl
server_receives opened k (MemoryRevoked p xid) lives = refl
server_receives opened k (CallExecuted e) lives = refl
server_receives opened k (QueueWritten taken) lives = refl
server_receives opened k (ServerTold what) lives = refl

pub client_receives : (opened : LinkParameters) → Receiving (client_rules opened) (λ (k : ClientState). k.received)
unfolding client_state_after
client_receives opened k (FrameReceived f) lives = by (is_hello f) refl
  where
    one : (r : Result Segment ℕ) → (with_segment k f r).received ≡ received_by k.received r
    one (Ok segment) = refl
    one (Err reason) = refl

    by : (b : Bool) → is_hello f ≡ b → (cond b (with_hello opened k f) (with_segment k f (client_segment k f))).received ≡ cond b k.received (received_by k.received (segment_of f.bytes))
    by true first = refl
    by false behind = one (client_segment k f) ∙ ap (λ (r : Result Segment ℕ). received_by k.received r) (client_read k f behind lives)
client_receives opened k (CallSubmitted p a) lives = refl
client_receives opened k (MemoryRevoked p xid) lives = refl
client_receives opened k (CallExecuted e) lives = refl
client_receives opened k (QueueWritten taken) lives = refl
client_receives opened k (ServerTold what) lives = refl

-- ---- At one frame

pub record BringsAt (es : List RunEvent) (f : Frame) (more : List RunEvent) (outs : List Output) : Type 0 where
  pub earlier : List Output
  pub own : Output
  pub later : List Output
  pub parts : outs ≡ earlier ++ own ∷ later
  pub brings : Brings es earlier
  pub brought : Brought own f
  pub behind : Brings more later

pub brings_at : (es : List RunEvent) (f : Frame) (more : List RunEvent) (outs : List Output) → Brings (es ++ FrameReceived f ∷ more) outs → BringsAt es f more outs
brings_at [] f more [] b = absurd b
brings_at [] f more (o ∷ outs) b = record { earlier = []; own = o; later = outs; parts = refl; brings = refl; brought = b.0; behind = b.1 }
brings_at (FrameReceived g ∷ es) f more [] b = absurd b
brings_at (FrameReceived g ∷ es) f more (o ∷ outs) b =
    let r = brings_at es f more outs b.1 in
    record { earlier = o ∷ r.earlier; own = r.own; later = r.later; parts = ap (λ (xs : List Output). o ∷ xs) r.parts; brings = (b.0, r.brings); brought = r.brought; behind = r.behind }
brings_at (CallSubmitted p a ∷ es) f more outs b = (let r = brings_at es f more outs b in record { earlier = r.earlier; own = r.own; later = r.later; parts = r.parts; brings = r.brings; brought = r.brought; behind = r.behind })
brings_at (MemoryRevoked p xid ∷ es) f more outs b = (let r = brings_at es f more outs b in record { earlier = r.earlier; own = r.own; later = r.later; parts = r.parts; brings = r.brings; brought = r.brought; behind = r.behind })
brings_at (CallExecuted e ∷ es) f more outs b = (let r = brings_at es f more outs b in record { earlier = r.earlier; own = r.own; later = r.later; parts = r.parts; brings = r.brings; brought = r.brought; behind = r.behind })
brings_at (QueueWritten taken ∷ es) f more outs b = (let r = brings_at es f more outs b in record { earlier = r.earlier; own = r.own; later = r.later; parts = r.parts; brings = r.brings; brought = r.brought; behind = r.behind })
brings_at (ServerTold what ∷ es) f more outs b = (let r = brings_at es f more outs b in record { earlier = r.earlier; own = r.own; later = r.later; parts = r.parts; brings = r.brings; brought = r.brought; behind = r.behind })

-- the output that brought a segment
pub own_segment : (o : Output) (f : Frame) (s : Segment) → Brought o f → is_hello f ≡ false → segment_of f.bytes ≡ Ok s → o ≡ ASegment s
own_segment (AHello bytes) f s b behind is = absurd (let t : true ≡ false = sym b.0 ∙ behind in cc)
own_segment (ASegment t) f s b behind is = (let e : Ok t ≡ Ok s = sym b.1 ∙ is in ap ASegment (let u : t ≡ s = same t s e in u))
  where
    same : (t s : Segment) → ◌≡◌ {A = Result Segment ℕ} (Ok t) (Ok s) → t ≡ s
    same t s e = cc

-- the message that a segment completes is that of its outputs
pub completed_message : (h : ReceiveState) (b : Option (List ℕ)) (s : Segment) (message : List ℕ) → h.begun ≡ b → message_completed h s ≡ Some message → completed_by b s ≡ message ∷ []
completed_message h b s message is e = ap (λ (x : Option (List ℕ)). completed_by x s) (sym is) ∙ sym (completed_is h s) ∙ ap (λ (o : Option (List ℕ)). option_to_list o) e
