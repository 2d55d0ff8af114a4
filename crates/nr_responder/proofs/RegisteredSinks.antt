-- A sink is registered: those that are held stay so.
use Rattle.std.proofs.Common.{◌≡◌, ◌≢◌, ℕ, zero, suc, ◌+◌, ◌<◌, ◌^◌, List, [], ◌∷◌, ◌++◌, length, drop, get_or, map, All, refl, sym, ap, subst, ◌∙◌, arith, append_assoc}
use Rattle.std.specs.List.{remove}
use Rattle.std.specs.FinMap.{FinMap, get, insert}
use Rattle.std.specs.Ordering.{nat_cmp}
use Rattle.std.proofs.lemmas.List.{drop_more}
use Rattle.nr_header.specs.declared.header.ReadSegment.{ReadSegment}
use Rattle.nr_regions.specs.declared.right.Right.{Right}
use Rattle.nr_regions.specs.declared.right.Right.TheVariants.{Sink}
use Rattle.nr_regions.specs.RegisteredMemory.{RegisteredMemory, Claim, IsHeld, Outside, after_register, claim_of, outside_len, AreHeldFrom}
use Rattle.nr_regions.specs.Table.{IsTotal}
use Rattle.nr_regions.proofs.Holding.{get_insert_other}
use Rattle.nr_regions.proofs.Totals.{sound_register}
use Rattle.nr_endpoint.specs.EndpointState.{EndpointState}
use Rattle.nr_endpoint.specs.LinkState.{LinkSide}
use Rattle.nr_endpoint.specs.Calls.{Call, after_call, after_calls}
use Rattle.nr_endpoint.specs.Calls.Call.{Register, Release}
use Rattle.nr_endpoint.proofs.ClaimLaws.{claims_stay_lem}
use Rattle.nr_reduce.specs.OfferedRegions.{Region}
use Rattle.nr_responder.specs.Fetching.{SinkRegion, open_sinks}
use Rattle.nr_responder.specs.declared.call.OpenSink.{OpenSink}
use Rattle.nr_responder.specs.private.CallsRead.{sink_buffer, sinks_from, with_registered}
use Rattle.nr_responder.specs.Sound.{HasOutside, claims_of}
use Rattle.nr_responder.specs.Views.{sink_view}

one_call : (l : LinkSide) (call : Call) → after_calls l (call ∷ []) ≡ after_call l call
unfolding after_calls
one_call l call = refl

no_release : (buf : List ℕ) (right : Right) (stag : ℕ) → All (λ call. call ≢ Release stag) (Register buf right ∷ [])
no_release buf right stag = λ k d lt. by k d lt
  where
    by : (k : ℕ) (d : Call) → k < 1 → get_or (Register buf right ∷ []) k d ≢ Release stag
    by zero d lt = λ e. absurd cc
    by (suc k) d lt = absurd (omega (arith, lt))

stays_held : (l m : LinkSide) (buf : List ℕ) (right : Right) (c : Claim) → m ≡ after_call l (Register buf right) → IsHeld l.state.memory c → IsHeld m.state.memory c
stays_held l m buf right c is h =
    subst (λ (x : LinkSide). IsHeld x.state.memory c) (one_call l (Register buf right) ∙ sym is) (claims_stay_lem l c (Register buf right ∷ []) h (no_release buf right c.stag))

pub registered_next : (l m : LinkSide) (buf : List ℕ) (right : Right) → m ≡ after_call l (Register buf right) → m.state.memory.next ≡ l.state.memory.next + 1
unfolding after_call after_register
registered_next l m buf right is = ap (λ (x : LinkSide). x.state.memory.next) is

held_more : (m n : RegisteredMemory) (low : ℕ) (cs : List Claim) (c : Claim) → ((d : Claim) → IsHeld m d → IsHeld n d) → c.stag ≡ m.next → IsHeld n c → n.next ≡ m.next + 1 → AreHeldFrom m low cs → AreHeldFrom n low (cs ++ c ∷ [])
held_more m n low [] c keeps stag held next h = (omega (arith, h, stag), (held, omega (arith, next, stag)))
held_more m n low (d ∷ cs) c keeps stag held next h = (h.0, (keeps d h.1.0, held_more m n (d.stag + 1) cs c keeps stag held next h.1.1))

pub registered_held : (l m : LinkSide) (buf : List ℕ) (sinks later : List OpenSink) (s : OpenSink) → m ≡ after_call l (Register buf Sink) → s.registration ≡ claim_of l.state.memory buf → IsHeld m.state.memory s.registration → later ≡ sinks ++ s ∷ [] →
    AreHeldFrom l.state.memory 0 (claims_of sinks) → AreHeldFrom m.state.memory 0 (claims_of later)
registered_held l m buf sinks later s is claim held later_is h =
    subst (λ (ss : List OpenSink). AreHeldFrom m.state.memory 0 (claims_of ss)) (sym later_is)
    (subst (λ (cs : List Claim). AreHeldFrom m.state.memory 0 cs) (sym (claims_more sinks s))
    (held_more l.state.memory m.state.memory 0 (claims_of sinks) s.registration (λ c. stays_held l m buf Sink c is) (ap (λ (c : Claim). c.stag) claim) held (registered_next l m buf Sink is) h))
  where
    claims_more : (ss : List OpenSink) (t : OpenSink) → claims_of (ss ++ t ∷ []) ≡ claims_of ss ++ t.registration ∷ []
    claims_more [] t = refl
    claims_more (x ∷ ss) t = ap (λ (cs : List Claim). x.registration ∷ cs) (claims_more ss t)

pub registered_outside : (e f : EndpointState) (buf : List ℕ) (o : Outside) (n : ℕ) → f.link ≡ after_call e.link (Register buf Sink) → f.outside ≡ insert e.outside e.link.state.memory.next o → e.link.state.memory.next < 2 ^ 32 → outside_len o < 2 ^ 64 → HasOutside e n → HasOutside f (n + outside_len o)
registered_outside e f buf o n is outside fits small h = record {
  total = h.total + outside_len o;
  sum = subst (λ (k : ℕ). IsTotal outside_len k (h.total + outside_len o) f.outside) (sym (registered_next e.link f.link buf Sink is))
      (subst (λ (m : FinMap nat_cmp Outside). IsTotal outside_len (e.link.state.memory.next + 1) (h.total + outside_len o) m) (sym outside) (sound_register outside_len e.link.state.memory.next h.total e.outside o h.sum fits small));
  most = (let most = h.most in omega (arith, most));
}

pub registered_kept : (e f : EndpointState) (o : Outside) → f.outside ≡ insert e.outside e.link.state.memory.next o → (stag : ℕ) → stag < e.link.state.memory.next → get f.outside stag ≡ get e.outside stag
registered_kept e f o outside = λ stag lt. ap (λ (m : FinMap nat_cmp Outside). get m stag) outside ∙ get_insert_other e.outside e.link.state.memory.next o stag (λ e. omega (arith, lt, e))

-- ---- One of the chunks

pub link_step : (number : ℕ) (read : List ReadSegment) (chunks : List ℕ) (i : ℕ) (l m before : LinkSide) (all : List Region) (buf : List ℕ) → i < length chunks → m ≡ after_call l (Register buf Sink) → buf ≡ sink_buffer read (get_or chunks i 0) →
    with_registered (sinks_from number l.state.memory.next read (drop i chunks)) l ≡ with_registered all before → with_registered (sinks_from number m.state.memory.next read (drop (i + 1) chunks)) m ≡ with_registered all before
unfolding after_call after_register
link_step number read chunks i l m before all buf lt is bytes so_far =
    let left : drop i chunks ≡ get_or chunks i 0 ∷ drop (i + 1) chunks = drop_more chunks i 0 lt in
    (λ j. with_registered (sinks_from number (is j).state.memory.next read (drop (i + 1) chunks)) (is j))
    ∙ (λ j. with_registered (sinks_from number (l.state.memory.next + 1) read (drop (i + 1) chunks)) (after_call l (Register (bytes j) Sink)))
    ∙ (λ j. with_registered (sinks_from number l.state.memory.next read (sym left j)) l)
    ∙ so_far

pub sinks_step : (number : ℕ) (read : List ReadSegment) (chunks : List ℕ) (i : ℕ) (l m : LinkSide) (sinks later : List OpenSink) (all : List SinkRegion) (buf : List ℕ) (s : OpenSink) → i < length chunks → m.state.memory.next ≡ l.state.memory.next + 1 → buf ≡ sink_buffer read (get_or chunks i 0) →
    s ≡ record { number = number; position = get_or chunks i 0; registration = claim_of l.state.memory buf } → later ≡ sinks ++ s ∷ [] →
    map sink_view sinks ++ open_sinks (sinks_from number l.state.memory.next read (drop i chunks)) ≡ all → map sink_view later ++ open_sinks (sinks_from number m.state.memory.next read (drop (i + 1) chunks)) ≡ all
sinks_step number read chunks i l m sinks later all buf s lt next bytes is later_is so_far =
    let left : drop i chunks ≡ get_or chunks i 0 ∷ drop (i + 1) chunks = drop_more chunks i 0 lt in
    let rest : List SinkRegion = open_sinks (sinks_from number (l.state.memory.next + 1) read (drop (i + 1) chunks)) in
    (λ j. map sink_view (later_is j) ++ open_sinks (sinks_from number (next j) read (drop (i + 1) chunks)))
    ∙ ap (λ (ss : List SinkRegion). ss ++ rest) (views sinks s)
    ∙ append_assoc (map sink_view sinks) (sink_view s ∷ []) rest
    ∙ (λ j. map sink_view sinks ++ sink_view (is j) ∷ rest)
    ∙ (λ j. map sink_view sinks ++ record { number = number; position = get_or chunks i 0; stag = l.state.memory.next; len = length (bytes j) } ∷ rest)
    ∙ (λ j. map sink_view sinks ++ open_sinks (sinks_from number l.state.memory.next read (sym left j)))
    ∙ so_far
  where
    views : (ss : List OpenSink) (t : OpenSink) → map sink_view (ss ++ t ∷ []) ≡ map sink_view ss ++ sink_view t ∷ []
    views [] t = refl
    views (x ∷ ss) t = ap (λ (vs : List SinkRegion). sink_view x ∷ vs) (views ss t)

-- the buffers in their order
pub first_buffer : (read : List ReadSegment) (chunks : List ℕ) (i : ℕ) (buffers : List (List ℕ)) (d : List ℕ) → i < length chunks → buffers ≡ map (sink_buffer read) (drop i chunks) →
    (get_or buffers 0 d ≡ sink_buffer read (get_or chunks i 0)) × (remove buffers 0 ≡ map (sink_buffer read) (drop (i + 1) chunks))
first_buffer read chunks i buffers d lt is =
    let left : drop i chunks ≡ get_or chunks i 0 ∷ drop (i + 1) chunks = drop_more chunks i 0 lt in
    let all : buffers ≡ sink_buffer read (get_or chunks i 0) ∷ map (sink_buffer read) (drop (i + 1) chunks) = is ∙ ap (λ (ps : List ℕ). map (sink_buffer read) ps) left in
    (ap (λ (bs : List (List ℕ)). get_or bs 0 d) all, ap (λ (bs : List (List ℕ)). remove bs 0) all)
