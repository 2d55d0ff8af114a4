-- The message of a plan whose form isn't given is never refused: it opens its call, with the plan's lists and its stream.
use Rattle.std.proofs.Common.{◌≡◌, ℕ, ◌+◌, ◌^◌, ◌<◌, ◌≤◌, Bool, true, false, cond, not, ◌&&◌, ◌||◌, eqb, ltb, List, [], ◌++◌, length, drop, Option, Some, None, Result, Ok, Err, refl, sym, ap, subst, ◌∙◌, arith}
use Rattle.std.proofs.lemmas.Bool.{eq-eqb, ne_eqb, eqb-true}
use Rattle.nr_header.specs.declared.header.ChunkLists.{ChunkLists}
use Rattle.nr_header.specs.declared.header.Body.{Body}
use Rattle.nr_header.specs.declared.header.Body.TheVariants.{Msg, Nomsg, ErrVers, ErrChunk}
use Rattle.nr_header.specs.declared.header.Header.{Header}
use Rattle.nr_header.specs.declared.fault.HeaderFault.{HeaderFault}
use Rattle.nr_header.specs.declared.fault.HeaderFault.TheVariants as faults
use Rattle.nr_header.specs.Reading.{header_of, body_by, error_by, version1_of, header_by}
use Rattle.std.proofs.lemmas.List.{drop_at}
use Rattle.nr_xdr.specs.Item.{IsBytes, pad_len}
use Rattle.nr_header.specs.Constants.{PAYLOAD_MAX}
use Rattle.nr_header.specs.Header.{header_encoding}
use Rattle.nr_header.specs.WithinLimits.{body_again, header_again}
use Rattle.nr_reduce.specs.declared.call.Form.{Form}
use Rattle.nr_reduce.specs.declared.item.Item.{Item}
use Rattle.nr_reduce.specs.Items.{stream_of}
use Rattle.nr_reduce.specs.declared.item.Of.TheVariants.{Call}
use Rattle.nr_reduce.specs.declared.outline.Plan.{Plan}
use Rattle.nr_reduce.specs.Plans.{segments_for, plan_of, regions_needed, lists_of, inline_stream, call_message}
use Rattle.nr_reduce.specs.Chunks.{is_read_chunk_of_item, is_read_chunk_at, is_item, item_position, total_at}
use Rattle.nr_reduce.specs.ChunkBytes.{IsNotGiven}
use Rattle.nr_reduce.specs.ServerState.{ServerState, is_pending}
use Rattle.nr_reduce.specs.ServerMessages.{Verdict, verdict, by_header, by_body, by_stream, by_need, no_stream}
use Rattle.nr_reduce.specs.ServerMessages.Verdict.{BadChunks}
use Rattle.nr_reduce.proofs.ItemSearch.{item_stands}
use Rattle.nr_reduce.proofs.Rebuilding.{reducible}
use Rattle.nr_reduce.proofs.PlanKinds.{Offering, offered, IsSmall, MessageKind, shape, IsKind, is_plan}
use Rattle.nr_reduce.proofs.PlanKinds.MessageKind.{Short, Chunked, Long}
use Rattle.nr_reduce.proofs.Segments.{some_segment, own_added, item_at, total_own, is_at_zero}
use Rattle.nr_reduce.proofs.Asking.{lists, lists_shape, body_of, stream_in, reads_shape}
use Rattle.nr_xdr.specs.Fields.{word_at}

-- a body that a call has
abbrev pub IsCall : Body → Type 0
IsCall (Msg lists stream_at) = Unit {0}
IsCall (Nomsg lists) = Unit {0}
IsCall (ErrVers version low high) = ⊥
IsCall (ErrChunk version) = ⊥

-- what a header that was read says of the first words
record Words (bytes : List ℕ) (h : Header) : Type 0 where
  xid : word_at 0 bytes ≡ h.xid
  version : eqb (word_at 4 bytes) 1 ≡ true
  done : eqb (word_at 12 bytes) 3 ≡ false
  error : eqb (word_at 12 bytes) 4 ≡ false

abbrev read_as : Header → Result Header HeaderFault
read_as h = Ok h

no_error : (kind : ℕ) (bytes : List ℕ) (c : Body) → error_by kind bytes ≡ Some c → IsCall c → ⊥
no_error kind bytes c e is = by (eqb kind 4) (eqb (length bytes) 28 && eqb (word_at 16 bytes) 1) (eqb (length bytes) 20 && eqb (word_at 16 bytes) 2) e
  where
    by : (a v k : Bool) → cond a (cond v (Some (ErrVers (word_at 4 bytes) (word_at 20 bytes) (word_at 24 bytes))) (cond k (Some (ErrChunk (word_at 4 bytes))) None)) None ≡ Some c → ⊥
    by false v k e = absurd cc
    by true true k e = subst IsCall (let s : c ≡ ErrVers (word_at 4 bytes) (word_at 20 bytes) (word_at 24 bytes) = cc in s) is
    by true false true e = subst IsCall (let s : c ≡ ErrChunk (word_at 4 bytes) = cc in s) is
    by true false false e = absurd cc

kinds : (kind n : ℕ) → kind ≡ n → n < 2 → (eqb kind 3 ≡ false) × (eqb kind 4 ≡ false)
kinds kind n e lt = (ne_eqb kind 3 (λ f. omega (arith, e, f, lt)), ne_eqb kind 4 (λ f. omega (arith, e, f, lt)))

kind_read : (kind : ℕ) (x y : Result Body HeaderFault) (b : Body) → cond (eqb kind 0) x (cond (eqb kind 1) y (Err (faults.Kind kind))) ≡ Ok b → (eqb kind 3 ≡ false) × (eqb kind 4 ≡ false)
kind_read kind x y b e = by (eqb kind 0) refl (eqb kind 1) refl e
  where
    by : (p : Bool) → eqb kind 0 ≡ p → (q : Bool) → eqb kind 1 ≡ q → cond p x (cond q y (Err (faults.Kind kind))) ≡ Ok b → (eqb kind 3 ≡ false) × (eqb kind 4 ≡ false)
    by true is q other e = kinds kind 0 (eqb-true kind 0 is) (omega arith)
    by false is true other e = kinds kind 1 (eqb-true kind 1 other) (omega arith)
    by false is false other e = absurd cc

body_read : (version kind : ℕ) (bytes : List ℕ) (o : Option Body) (b : Body) → IsCall b → ((c : Body) → o ≡ Some c → IsCall c → ⊥) → body_by o version kind bytes ≡ Ok b
    → (eqb version 1 ≡ true) × (eqb kind 3 ≡ false) × (eqb kind 4 ≡ false)
unfolding body_by version1_of
body_read version kind bytes (Some c) b is never e = absurd (never c refl (subst IsCall (let s : b ≡ c = cc in s) is))
body_read version kind bytes None b is never e = by (eqb version 1) refl e
  where
    by : (v : Bool) → eqb version 1 ≡ v → cond v (version1_of kind bytes) (Err (faults.Version version)) ≡ Ok b → (eqb version 1 ≡ true) × (eqb kind 3 ≡ false) × (eqb kind 4 ≡ false)
    by false v e = absurd cc
    by true v e = (let k = kind_read kind _ _ b e in (v, k.0, k.1))

headed_ok : (xid credit : ℕ) (r : Result Body HeaderFault) (h : Header) → header_by xid credit r ≡ Ok h → (xid ≡ h.xid) × (r ≡ Ok h.body)
headed_ok xid credit (Err fault) h e = absurd cc
headed_ok xid credit (Ok body) h e =
    let mine : Header = record { xid = xid; credit = credit; body = body } in
    let same : mine ≡ h = (let s : read_as mine ≡ read_as h = e in cc) in
    (ap (λ (x : Header). x.xid) same, ap (λ (x : Header). (let r : Result Body HeaderFault = Ok x.body in r)) same)

words : (bytes : List ℕ) (h : Header) → header_of bytes ≡ Ok h → IsCall h.body → Words bytes h
unfolding header_of
words bytes h e is = by (ltb (length bytes) 16) e
  where
    r : Result Body HeaderFault
    r = body_by (error_by (word_at 12 bytes) bytes) (word_at 4 bytes) (word_at 12 bytes) bytes

    by : (b : Bool) → cond b (Err faults.Short) (header_by (word_at 0 bytes) (word_at 8 bytes) r) ≡ Ok h → Words bytes h
    by true e = absurd cc
    by false e =
        let a = headed_ok (word_at 0 bytes) (word_at 8 bytes) r h e in
        let b = body_read (word_at 4 bytes) (word_at 12 bytes) bytes (error_by (word_at 12 bytes) bytes) h.body is (λ c f. no_error (word_at 12 bytes) bytes c f) a.1 in
        record { xid = a.0; version = b.0; done = b.1; error = b.2 }

-- What a server makes of a message whose header reads as a call's, if its xid isn't open.
pub judged_call : (k : ServerState) (message : List ℕ) (h : Header) → header_of message ≡ Ok h → IsCall h.body → is_pending k h.xid ≡ false → verdict k message ≡ by_body k h.xid message h.body
unfolding verdict
judged_call k message h e is free =
    let w = words message h e is in
    ap (λ (b : Bool). cond (not b) Verdict.OtherVersion (cond (eqb (word_at 12 message) 3 || eqb (word_at 12 message) 4) (Verdict.EndsLink 17) (cond (is_pending k (word_at 0 message)) (Verdict.EndsLink 20) (by_header k message (header_of message))))) w.version
    ∙ (λ i. cond (w.done i || w.error i) (Verdict.EndsLink 17) (cond (is_pending k (word_at 0 message)) (Verdict.EndsLink 20) (by_header k message (header_of message))))
    ∙ ap (λ (x : ℕ). cond (is_pending k x) (Verdict.EndsLink 20) (by_header k message (header_of message))) w.xid
    ∙ ap (λ (b : Bool). cond b (Verdict.EndsLink 20) (by_header k message (header_of message))) free
    ∙ ap (λ (r : Result Header HeaderFault). by_header k message r) e

-- ---- The message of a plan

abbrev pub inline_of : List ℕ → MessageKind → Option (List ℕ)
inline_of payload Short = Some payload
inline_of payload (Chunked i) = Some (stream_of payload i)
inline_of payload Long = None

inline_shape : (payload : List ℕ) (way : MessageKind) (w r : Offering) → IsBytes payload → IsKind payload way → inline_of payload way ≡ inline_stream (shape payload way (offered w) (offered r))
inline_shape payload Short w r fits is = refl
inline_shape payload (Chunked i) w r fits is =
    let stands = item_stands Call payload i fits (reducible Call payload i is).item in
    let least = stands.least in
    ap (λ (b : Bool). cond b None (Some (stream_of payload i))) (sym (ne_eqb i.pos 0 (λ e. omega (arith, e, least))))
inline_shape payload Long w r fits is = refl

-- A stream suits its read list, and a call in one chunk waits for it.
opens_way : (k : ServerState) (xid : ℕ) (payload : List ℕ) (way : MessageKind) (w r : Offering) (stag : ℕ) (head : List ℕ) → IsBytes payload → IsKind payload way → 0 < length payload
    → by_body k xid (head ++ stream_in payload way) (body_again (body_of way (lists payload way w r stag)) (length head))
    ≡ by_need k (record { number = k.received.sends + 1; xid = xid; lists = lists payload way w r stag; inline = inline_of payload way })
unfolding is_read_chunk_of_item item_position
opens_way k xid payload Short w r stag head fits is some =
    ap (λ (xs : List ℕ). by_need k (record { number = k.received.sends + 1; xid = xid; lists = lists payload Short w r stag; inline = Some xs })) (drop_at head payload (length head) refl)
opens_way k xid payload (Chunked i) w r stag head fits is some =
    let red = reducible Call payload i is in
    let stands = item_stands Call payload i fits red.item in
    let ls : ChunkLists = lists payload (Chunked i) w r stag in
    let least = stands.least in
    let here : eqb i.pos 0 ≡ false = ne_eqb i.pos 0 (λ e. omega (arith, e, least)) in
    let stream : drop (length head) (head ++ stream_of payload i) ≡ stream_of payload i = drop_at head (stream_of payload i) (length head) refl in
    let whole : Verdict = by_need k (record { number = k.received.sends + 1; xid = xid; lists = ls; inline = Some (stream_of payload i) }) in
    (λ j. by_stream k ls xid (Some (stream j)))
    ∙ ap (λ (o : Option ℕ). cond (is_read_chunk_at (stream_of payload i) ls.read o) whole BadChunks) (item_at i.pos stag 0 (segments_for i.len) (some_segment i.len) here)
    ∙ ap (λ (o : Option Item). cond (is_item o i.pos (total_at i.pos ls.read)) whole BadChunks) stands.again
    ∙ ap (λ (n : ℕ). cond (is_item (Some i) i.pos n) whole BadChunks) (total_own i.pos stag 0 (segments_for i.len) ∙ own_added i.len)
    ∙ ap (λ (b : Bool). cond (b && (eqb i.len i.len || eqb i.len (i.len + pad_len i.len))) whole BadChunks) (eq-eqb i.pos i.pos refl)
    ∙ ap (λ (b : Bool). cond (b || eqb i.len (i.len + pad_len i.len)) whole BadChunks) (eq-eqb i.len i.len refl)
opens_way k xid payload Long w r stag head fits is some =
    let ls : ChunkLists = lists payload Long w r stag in
    let total : total_at 0 ls.read ≡ length payload = total_own 0 stag 0 (segments_for (length payload)) ∙ own_added (length payload) in
    ap (λ (b : Bool). cond b (by_stream k ls xid (no_stream ls.read)) BadChunks) (is_at_zero stag 0 (segments_for (length payload)) (some_segment (length payload)))
    ∙ ap (λ (b : Bool). by_stream k ls xid (cond b (Some []) None)) (ne_eqb (total_at 0 ls.read) 0 (λ e. omega (arith, e, total, some)))

-- A server gets the message of a plan whose form isn't given as a call, with the plan's lists and stream: it is never refused.
pub opens_call : (k : ServerState) (payload : List ℕ) (form : Form) (up down xid credit stag : ℕ) (p : Plan) → IsBytes payload → IsNotGiven form → plan_of payload form up down ≡ Ok p → 0 < length payload → xid < 2 ^ 32 → credit < 2 ^ 32
    → stag + regions_needed p ≤ 2 ^ 32 → is_pending k xid ≡ false
    → verdict k (call_message xid credit stag p) ≡ by_need k (record { number = k.received.sends + 1; xid = xid; lists = lists_of stag p; inline = inline_stream p })
unfolding call_message
opens_call k payload form up down xid credit stag p fits own e some fits_x fits_c room free =
    let is = is_plan payload form up down p own e in
    let s = is.shaped in
    let law = λ (q : Plan). stag + regions_needed q ≤ 2 ^ 32
    → verdict k (call_message xid credit stag q) ≡ by_need k (record { number = k.received.sends + 1; xid = xid; lists = lists_of stag q; inline = inline_stream q }) in
    subst law (sym s.is) (λ room. by_shape s.kind s.write s.reply s.is_kind s.write_small s.reply_small is.payload_fits room) room
  where
    is_call : (way : MessageKind) (ls : ChunkLists) (n : ℕ) → IsCall (body_again (body_of way ls) n)
    is_call Short ls n = tt
    is_call (Chunked i) ls n = tt
    is_call Long ls n = tt

    by_shape : (way : MessageKind) (w r : Offering) → IsKind payload way → IsSmall w → IsSmall r → length payload ≤ PAYLOAD_MAX → stag + regions_needed (shape payload way (offered w) (offered r)) ≤ 2 ^ 32
        → verdict k (call_message xid credit stag (shape payload way (offered w) (offered r))) ≡ by_need k (record { number = k.received.sends + 1; xid = xid; lists = lists_of stag (shape payload way (offered w) (offered r)); inline = inline_stream (shape payload way (offered w) (offered r)) })
    by_shape way w r is_kind small_w small_r size room =
        let m = reads_shape payload way w r xid credit stag fits is_kind size small_w small_r fits_x fits_c room in
        let h : Header = record { xid = xid; credit = credit; body = body_of way (lists payload way w r stag) } in
        ap (λ (bytes : List ℕ). verdict k bytes) m.0
        ∙ judged_call k (header_encoding h ++ stream_in payload way) (header_again h) m.1 (is_call way (lists payload way w r stag) (length (header_encoding h))) free
        ∙ opens_way k xid payload way w r stag (header_encoding h) fits is_kind some
        ∙ (λ i. by_need k (record { number = k.received.sends + 1; xid = xid; lists = sym (lists_shape payload way w r stag) i; inline = inline_shape payload way w r fits is_kind i }))
