-- What a form conveys of a call is judged to be ready, if it has a call head; a message that makes a call pending isn't refused.
use Rattle.std.proofs.Common.{◌≡◌, ◌≢◌, ℕ, ◌+◌, ◌^◌, ◌≤◌, ◌<◌, Bool, true, false, cond, eqb, ltb, List, [], ◌∷◌, length, Option, None, Some, Result, Ok, Err, refl, sym, ap, subst, ◌∙◌, eqb-true, eq-eqb, inl, inr}
use Rattle.std.specs.Prelude.{IfSome, is_ok}
use Rattle.std.proofs.lemmas.Bool.{eqb-false, or_parts, not-false, ltb-false}
use Rattle.std.proofs.lemmas.List.Elements.{All-head}
use Rattle.nr_xdr.specs.Item.{IsBytes}
use Rattle.nr_xdr.specs.Fields.{word_at}
use Rattle.nr_header.specs.declared.fault.HeaderFault.{HeaderFault}
use Rattle.nr_header.specs.declared.fault.HeaderFault.TheVariants as faults
use Rattle.nr_header.specs.declared.header.ReadSegment.{ReadSegment}
use Rattle.nr_header.specs.declared.header.ChunkLists.{ChunkLists}
use Rattle.nr_header.specs.declared.header.Body.{Body}
use Rattle.nr_header.specs.declared.header.Body.TheVariants.{Msg, Nomsg, ErrVers, ErrChunk}
use Rattle.nr_header.specs.declared.header.Header.{Header}
use Rattle.nr_header.specs.Reading.{header_of, header_by, body_by, error_by, HasNoStream, IsBad}
use Rattle.nr_rpc.specs.declared.head.CallHead.{CallHead}
use Rattle.nr_rpc.specs.declared.head.CallHead.TheVariants as calls
use Rattle.nr_rpc.specs.Credential.{CanWriteCred}
use Rattle.nr_rpc.specs.Reading.{call_of, head_xid}
use Rattle.nr_reduce.specs.declared.call.Call.{Call}
use Rattle.nr_reduce.specs.declared.call.Form.{Form}
use Rattle.nr_reduce.specs.declared.call.Form.TheVariants as forms
use Rattle.nr_reduce.specs.declared.outline.Plan.{Plan}
use Rattle.nr_reduce.specs.Plans.{entries_from, read_list, read_stag, lists_of, inline_at, inline_stream}
use Rattle.nr_reduce.specs.Chunks.{is_read_chunk_of_item}
use Rattle.nr_reduce.specs.ClientState.{call_payload}
use Rattle.nr_reduce.specs.ServerState.{ServerState, PendingCall, ReadyCall, is_pending}
use Rattle.nr_reduce.specs.ServerMessages.{verdict, by_head, by_payload}
use Rattle.nr_reduce.specs.ServerMessages.CallVerdict.{Refuses, IsReady}
use Rattle.nr_reduce.specs.ServerMessages.Verdict.{BadChunks, MakesPending}
use Rattle.nr_reduce.specs.RunLaws.{known_stream, OtherChunk, HasOtherChunk}
use Rattle.nr_reduce.specs.ChunkBytes.{lists_by, inline_by}
use Rattle.nr_reduce.proofs.BadMessages.{bad_refused}
use Rattle.nr_laws.specs.Payloads.{form_conveyed}
use Rattle.nr_laws.specs.Typed.{IsTypedCall}
use Rattle.nr_laws.specs.RefusedMessages.{IsRefusedMessage}
use Rattle.nr_laws.specs.Stays.{HasCallHead, IsConveyedOrRefused}
use Rattle.nr_laws.proofs.CallTargets.{conveyed_head}
use Rattle.nr_laws.proofs.OwnHeads.{OwnHead, own_head_lem}
use Rattle.nr_laws.proofs.SuitedCalls.{HasNoBytes}
use Rattle.nr_laws.proofs.MadePending.{Suits, made_pending}

-- ---- A payload with a call head

ready_not : (r : ReadyCall) (reason : ℕ) → IsReady r ≡ Refuses reason → ⊥
ready_not r reason e = cc

head_same : (a b : CallHead) → ◌≡◌ {A = Result CallHead ℕ} (Ok a) (Ok b) → a ≡ b
head_same a b e = cc

-- what a form conveys of it is that of a call under the same xid, if it has a head
pub conveyed_ready : (xid : ℕ) (call : Call) (form : Form) (c : PendingCall) (reason : ℕ) → xid < 2 ^ 32 → IsTypedCall call → CanWriteCred call.cred → IsBytes (call_payload xid call) → c.xid ≡ xid
    → (o : Option (List ℕ)) → o ≡ form_conveyed form (call_payload xid call) → HasCallHead o → by_payload c o ≡ Refuses reason → ⊥
conveyed_ready xid call form c reason small typed can bytes same None is h e = h
conveyed_ready xid call form c reason small typed can bytes same (Some q) is h e = by (call_of q) refl h e
  where
    own : OwnHead xid call
    own = own_head_lem xid call small typed can

    own_head : CallHead
    own_head = calls.Version2 xid call.prog call.vers call.proc call.cred own.args_at

    by : (r : Result CallHead ℕ) → call_of q ≡ r → is_ok r ≡ true → by_head c q r ≡ Refuses reason → ⊥
    by (Err at) read ok e = (let wrong : false ≡ true = ok in cc)
    by (Ok head) read ok e =
        let one : head ≡ own_head = head_same head own_head (sym read ∙ conveyed_head form (call_payload xid call) q own_head head bytes own.is (sym is) read ∙ own.is) in
        let number : eqb (head_xid head) c.xid ≡ true = eq-eqb (head_xid head) c.xid (ap head_xid one ∙ sym same) in
        ready_not (record { number = c.number; xid = c.xid; payload = q }) reason
        (ap (λ (b : Bool). cond b (IsReady (record { number = c.number; xid = c.xid; payload = q })) (Refuses 19)) (sym number) ∙ e)

-- what is conveyed has a head, if the message isn't refused
pub conveyed_head_there : (xid : ℕ) (call : Call) (form : Form) (message : List ℕ) → xid < 2 ^ 32 → IsTypedCall call → CanWriteCred call.cred → IsConveyedOrRefused form (call_payload xid call) message → (IsRefusedMessage message → ⊥)
    → HasCallHead (form_conveyed form (call_payload xid call))
conveyed_head_there xid call form message small typed can given fine = by form given
  where
    own : is_ok (call_of (call_payload xid call)) ≡ true
    own = ap (λ (r : Result CallHead ℕ). is_ok r) (own_head_lem xid call small typed can).is

    by : (form : Form) → IsConveyedOrRefused form (call_payload xid call) message → HasCallHead (form_conveyed form (call_payload xid call))
    by forms.Auto given = own
    by forms.Inline given = own
    by forms.Chunk given = own
    by forms.Long given = own
    by (forms.Given offer) (inl h) = h
    by (forms.Given offer) (inr refused) = absurd (fine refused)

-- ---- A message that makes a call pending isn't refused

header_long : (message : List ℕ) (h : Header) → header_of message ≡ Ok h → 16 ≤ length message
unfolding header_of
header_long message h e = by (ltb (length message) 16) refl (body_by (error_by (word_at 12 message) message) (word_at 4 message) (word_at 12 message) message) e
  where
    by : (b : Bool) → ltb (length message) 16 ≡ b → (r : Result Body HeaderFault) → cond b (Err faults.Short) (header_by (word_at 0 message) (word_at 8 message) r) ≡ Ok h → 16 ≤ length message
    by true is r e = absurd cc
    by false is r e = ltb-false (length message) 16 is

-- the tests that a message passed
record Passed (k : ServerState) (message : List ℕ) : Type 0 where
  long : 16 ≤ length message
  version : word_at 4 message ≡ 1
  done : word_at 12 message ≢ 3
  error : word_at 12 message ≢ 4
  free : is_pending k (word_at 0 message) ≡ false

passed : (k : ServerState) (message : List ℕ) (c : PendingCall) → verdict k message ≡ MakesPending c → Passed k message
passed k message c e =
    let m = made_pending k message c e in
    let kinds = or_parts (eqb (word_at 12 message) 3) (eqb (word_at 12 message) 4) m.kind in
    record {
      long = header_long message m.header m.is_header;
      version = eqb-true (word_at 4 message) 1 (not-false (eqb (word_at 4 message) 1) m.version);
      done = eqb-false (word_at 12 message) 3 kinds.0;
      error = eqb-false (word_at 12 message) 4 kinds.1;
      free = m.free;
    }

pub pending_fine : (k : ServerState) (message : List ℕ) (c : PendingCall) → verdict k message ≡ MakesPending c → IsRefusedMessage message → ⊥
pending_fine k message c is refused =
    let p = passed k message c is in
    let bad : verdict k message ≡ BadChunks = (bad_refused k message p.long p.version p.done p.error p.free).1 refused in
    wrong (sym is ∙ bad)
  where
    wrong : MakesPending c ≡ BadChunks → ⊥
    wrong e = cc

-- ---- Nor is one of a call that suits its lists and has bytes to be read

suited_fine : (lists : ChunkLists) (o : Option (List ℕ)) → IfSome o (λ stream. is_read_chunk_of_item stream lists.read ≡ true) → OtherChunk lists o → ⊥
suited_fine lists None s h = h
suited_fine lists (Some stream) s h = (let wrong : true ≡ false = sym s ∙ h in cc)

entries_none : (position stag offset : ℕ) (lengths : List ℕ) → position ≡ 0 → HasNoStream (Nomsg (record { read = entries_from position stag offset lengths; write = []; reply = None })) → HasNoBytes (entries_from position stag offset lengths)
entries_none position stag offset [] zero_is none = tt
entries_none position stag offset (n ∷ lengths) zero_is none =
    absurd (All-head (λ (r : ReadSegment). r.position ≢ 0) (record { position = position; handle = stag; length = n; offset = offset }) (entries_from position stag (offset + n) lengths) none zero_is)

-- RDMA_NOMSG without a stream has no bytes to be read, if it goes out by a plan
no_stream_lem : (stag : ℕ) (p : Plan) (message : List ℕ) (body : Body) → HasNoStream body → inline_by message body ≡ inline_stream p → lists_by body ≡ lists_of stag p → HasNoBytes (lists_by body).read
unfolding lists_of
no_stream_lem stag p message (Msg lists at) none inline is = absurd none
no_stream_lem stag p message (Nomsg lists) none inline is = by p.read_at inline (ap (λ (l : ChunkLists). l.read) is)
  where
    by_place : (position : ℕ) (b : Bool) → eqb position 0 ≡ b → None ≡ cond b None (Some p.inline) → lists.read ≡ entries_from position (read_stag stag p) 0 p.read → HasNoBytes lists.read
    by_place position false at e read = absurd cc
    by_place position true at e read =
        subst HasNoBytes (sym read)
        (entries_none position (read_stag stag p) 0 p.read (eqb-true position 0 at) (subst (λ (rs : List ReadSegment). HasNoStream (Nomsg (record { read = rs; write = []; reply = None }))) read none))

    by : (o : Option ℕ) → None ≡ inline_at o p.inline → lists.read ≡ read_list stag p o → HasNoBytes lists.read
    by None e read = absurd cc
    by (Some position) e read = by_place position (eqb position 0) refl e read
no_stream_lem stag p message (ErrVers version low high) none inline is = absurd none
no_stream_lem stag p message (ErrChunk version) none inline is = absurd none

pub read_fine : (stag : ℕ) (p : Plan) (message : List ℕ) (header : Header) (c : PendingCall) → header_of message ≡ Ok header → c.lists ≡ lists_by header.body → c.inline ≡ known_stream message header.body → inline_by message header.body ≡ inline_stream p
    → lists_by header.body ≡ lists_of stag p → Suits c → (HasNoBytes c.lists.read → ⊥) → IsRefusedMessage message → ⊥
read_fine stag p message header c is lists stream inline own suits some (inl bad) =
    some (subst (λ (l : ChunkLists). HasNoBytes l.read) (sym lists) (no_stream_lem stag p message header.body (subst IsBad is bad) inline own))
read_fine stag p message header c is lists stream inline own suits some (inr other) =
    suited_fine c.lists c.inline suits (subst (λ (l : ChunkLists). OtherChunk l c.inline) (sym lists) (subst (λ (o : Option (List ℕ)). OtherChunk (lists_by header.body) o) (sym stream) (subst (HasOtherChunk message) is other)))
