-- A message with a call whose stream stands in it: what the code did is what is said of it.
use Rattle.std.proofs.Common.{◌≡◌, ℕ, ◌+◌, Bool, true, false, sym, List, [], ◌∷◌, ◌++◌, map, drop, Option, Some, None, Result, Ok, Err, refl, ap, subst, ◌∙◌, ◌≤◌, arith, inl, inr}
use Rattle.std.specs.Prelude.{◌⊎◌}
use Rattle.nr_xdr.specs.Fields.{word_at}
use Rattle.nr_rpc.specs.declared.head.CallHead.{CallHead}
use Rattle.nr_rpc.specs.Reading.{call_of, xid_of_call, head_xid}
use Rattle.nr_header.specs.declared.header.ChunkLists.{ChunkLists}
use Rattle.nr_link.specs.Reasons.{REASON_HEAD, REASON_XID}
use Rattle.std.proofs.lemmas.List.{map-append}
use Rattle.nr_endpoint.specs.EndpointState.{EndpointState}
use Rattle.nr_endpoint.specs.LinkState.{LinkSide}
use Rattle.nr_endpoint.specs.Calls.{after_call, IsStopReason}
use Rattle.nr_endpoint.specs.Calls.Call.{OutOfMemory, Stop}
use Rattle.nr_reduce.specs.ServerState.{PendingCall, PendingRead, ServerState, next_stag}
use Rattle.nr_responder.specs.Fetching.{payload_added}
use Rattle.nr_reduce.specs.ServerReads.{is_read}
use Rattle.nr_responder.specs.ResponderState.{ResponderSide}
use Rattle.nr_responder.specs.private.Handling.{on_link, with_ready, OrOut, IsServerOf, Begins, ReadsXid}
use Rattle.nr_responder.specs.private.Handling.Begins.{NoCall, OtherXid, IsReady}
use Rattle.nr_responder.specs.private.Handling.ReadsXid.{ReadsNoCall, ReadsOther, ReadsOwn}
use Rattle.nr_responder.specs.declared.call.Pending.{Pending}
use Rattle.nr_responder.specs.declared.call.Ready.{Ready}
use Rattle.nr_responder.specs.declared.call.ReadEntry.{ReadEntry}
use Rattle.nr_responder.specs.declared.server_end.ServerEnd.{ServerEnd}
use Rattle.nr_responder.specs.Sound.{payloads_of, state_of, xids_of}
use Rattle.nr_responder.specs.Views.{call_view, read_view, sink_view}

pub no_head_lem : (bytes : List ℕ) → None ≡ xid_of_call (call_of bytes) → (at : ℕ) × (call_of bytes ≡ Err at)
no_head_lem bytes is = by (call_of bytes) refl
  where
    by : (r : Result CallHead ℕ) → call_of bytes ≡ r → (at : ℕ) × (call_of bytes ≡ Err at)
    by (Err at) e = (at, e)
    by (Ok head) e = absurd (let h : None ≡ Some (head_xid head) = is ∙ ap xid_of_call e in cc)

pub record HasHead (bytes : List ℕ) (x : ℕ) : Type 0 where
  pub head : CallHead
  pub reads : call_of bytes ≡ Ok head
  pub own : head_xid head ≡ x

pub some_head : (bytes : List ℕ) (x : ℕ) → Some x ≡ xid_of_call (call_of bytes) → HasHead bytes x
some_head bytes x is = by (call_of bytes) refl
  where
    by : (r : Result CallHead ℕ) → call_of bytes ≡ r → HasHead bytes x
    by (Err at) e = absurd (let h : Some x ≡ None = is ∙ ap xid_of_call e in cc)
    by (Ok head) e = (let h : Some x ≡ Some (head_xid head) = is ∙ ap xid_of_call e in let same : head_xid head ≡ x = cc in record { head = head; reads = e; own = same })

pub few_stags : (k : ServerState) (v : ResponderSide) → IsServerOf k v → v.link.state.memory.next ≤ 4294967296 → next_stag k ≤ 4294967296
few_stags k v server le = (let next = server.next in omega (arith, next, le))

-- the side stopped, or memory ran out
pub or_out : (v : ResponderSide) (l m : LinkSide) → (m ≡ l) ⊎ (m ≡ after_call v.link OutOfMemory) → OrOut v l (on_link v m)
or_out v l m (inl is) = inl (ap (λ (x : LinkSide). on_link v x) is)
or_out v l m (inr is) = inr (ap (λ (x : LinkSide). on_link v x) is)

pub fresh_number : (number : ℕ) (reads now : List ReadEntry) (b : Bool) → now ≡ reads → b ≡ is_read (map read_view now) number → b ≡ true → is_read (map read_view reads) number ≡ true
fresh_number number reads now b same is read = sym (ap (λ (rs : List ReadEntry). is_read (map read_view rs) number) same) ∙ sym is ∙ read

-- a Send that comes now has a number of which no read is left
pub not_fresh : (k : ServerState) (v : ResponderSide) (number : ℕ) → IsServerOf k v → number ≡ k.received.sends + 1 → (b : Bool) → b ≡ is_read v.fetching.reads number → b ≡ false → ⊥
not_fresh k v number server count b is left = absurd (let two : false ≡ true = sym left ∙ (is ∙ ap (λ (n : ℕ). is_read v.fetching.reads n) count ∙ ap (λ (rs : List PendingRead). is_read rs (k.received.sends + 1)) (sym server.reads) ∙ server.new_read) in cc)

-- with a call more, which is ready with this payload, or with its stream
abbrev pub ready_with : ResponderSide → LinkSide → PendingCall → Option (List ℕ) → ResponderSide
ready_with v l c payload = record { link = l; calls = v.calls ++ c ∷ []; ready = v.ready ++ c.xid ∷ []; credits = v.credits; fetching = payload_added payload v.fetching }

pub pushed_with : (r s : ServerEnd) (call : Pending) (payload : Option (List ℕ)) → s.endpoint ≡ r.endpoint → s.credits ≡ r.credits → s.reads.items ≡ r.reads.items → s.sinks.items ≡ r.sinks.items → s.calls.items ≡ r.calls.items ++ call ∷ [] →
    s.ready.items ≡ r.ready.items ++ record { xid = call.xid; payload = payload } ∷ [] → state_of s ≡ ready_with (state_of r) r.endpoint.link (call_view call) payload
pushed_with r s call payload endpoint credits reads sinks calls ready = λ i. record {
  link = ap (λ (e : EndpointState). e.link) endpoint i;
  calls = (ap (λ (cs : List Pending). map call_view cs) calls ∙ map-append call_view r.calls.items (call ∷ [])) i;
  ready = (ap xids_of ready ∙ map-append (λ (q : Ready). q.xid) r.ready.items (record { xid = call.xid; payload = payload } ∷ [])) i;
  credits = credits i;
  fetching = record {
    reads = map read_view (reads i);
    sinks = map sink_view (sinks i);
    payloads = (ap payloads_of ready ∙ map-append (λ (q : Ready). q.payload) r.ready.items (record { xid = call.xid; payload = payload } ∷ [])) i;
  };
}

pub pushed_view : (r s : ServerEnd) (call : Pending) → s.endpoint ≡ r.endpoint → s.credits ≡ r.credits → s.reads.items ≡ r.reads.items → s.sinks.items ≡ r.sinks.items → s.calls.items ≡ r.calls.items ++ call ∷ [] →
    s.ready.items ≡ r.ready.items ++ record { xid = call.xid; payload = None } ∷ [] → state_of s ≡ with_ready (state_of r) r.endpoint.link (call_view call)
pushed_view r s call endpoint credits reads sinks calls ready = pushed_with r s call None endpoint credits reads sinks calls ready

-- ---- The xid of a call, or why the link ends

pub stops_as : (message : List ℕ) (stream_at reason : ℕ) → ReadsXid message stream_at (Err reason) → IsStopReason reason
stops_as message stream_at reason (ReadsNoCall at e is) = inr (inl (let same : reason ≡ REASON_HEAD = cc in same))
stops_as message stream_at reason (ReadsOther head e other is) = inr (inr (inl (let same : reason ≡ REASON_XID = cc in same)))
stops_as message stream_at reason (ReadsOwn head e own is) = absurd cc

pub ends_as : (v : ResponderSide) (number reason : ℕ) (message : List ℕ) (lists : ChunkLists) (stream_at : ℕ) (w : ResponderSide) → ReadsXid message stream_at (Err reason) →
    OrOut v (after_call v.link (Stop reason)) w → Begins v w number message lists stream_at
ends_as v number reason message lists stream_at w (ReadsNoCall at e is) ended =
    let same : reason ≡ REASON_HEAD = cc in
    NoCall at e (subst (λ (x : ℕ). OrOut v (after_call v.link (Stop x)) w) same ended)
ends_as v number reason message lists stream_at w (ReadsOther head e other is) ended =
    let same : reason ≡ REASON_XID = cc in
    OtherXid head e other (subst (λ (x : ℕ). OrOut v (after_call v.link (Stop x)) w) same ended)
ends_as v number reason message lists stream_at w (ReadsOwn head e own is) ended = absurd cc

pub begins_as : (v w : ResponderSide) (number xid : ℕ) (message : List ℕ) (lists : ChunkLists) (stream_at : ℕ) → ReadsXid message stream_at (Ok xid) →
    w ≡ with_ready v v.link (record { number = number; xid = xid; lists = lists; inline = Some (drop stream_at message) }) → Begins v w number message lists stream_at
begins_as v w number xid message lists stream_at (ReadsNoCall at e is) pushed = absurd cc
begins_as v w number xid message lists stream_at (ReadsOther head e other is) pushed = absurd cc
begins_as v w number xid message lists stream_at (ReadsOwn head e own is) pushed =
    let same : xid ≡ word_at 0 message = cc in
    IsReady head e own (pushed ∙ ap (λ (x : ℕ). with_ready v v.link (record { number = number; xid = x; lists = lists; inline = Some (drop stream_at message) })) same)
