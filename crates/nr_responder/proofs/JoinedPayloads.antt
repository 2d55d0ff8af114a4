-- The payload of a call, put together of its stream and of what was read.
use Rattle.std.proofs.Common.{◌≡◌, ℕ, ◌+◌, Bool, true, false, not, cond, eqb, ◌||◌, List, [], ◌++◌, take, drop, replicate, Option, Some, None, Result, Ok, Err, IfSome, refl, sym, ap, ◌∙◌, arith}
use Rattle.std.proofs.lemmas.Bool.{eq-eqb, eqb-true, ne_eqb}
use Rattle.std.proofs.lemmas.List.{take-append-drop}
use Rattle.nr_xdr.specs.Item.{pad_len}
use Rattle.nr_xdr.specs.Reading.{unsigned_at}
use Rattle.nr_rpc.specs.declared.head.CallHead.{CallHead}
use Rattle.nr_rpc.specs.Reading.{call_at, call_of, target_of}
use Rattle.nr_header.specs.declared.header.ReadSegment.{ReadSegment}
use Rattle.nr_reduce.specs.declared.item.Item.{Item}
use Rattle.nr_reduce.specs.declared.item.Of.TheVariants as of
use Rattle.nr_reduce.specs.declared.fault.Mismatch.{Mismatch}
use Rattle.nr_reduce.specs.declared.fault.Mismatch.TheVariants as mismatches
use Rattle.nr_link.specs.Reasons.{REASON_HEAD}
use Rattle.nr_reduce.specs.Items.{call_item, item_of, restored_payload, target_item}
use Rattle.nr_reduce.specs.ServerState.{PendingCall}
use Rattle.nr_reduce.specs.ServerMessages.{CallVerdict, by_head, by_payload}
use Rattle.nr_reduce.specs.ServerMessages.CallVerdict.{Refuses}
use Rattle.nr_reduce.specs.Chunks.{call_conveyed, call_moved, call_stream, has_moved_length, item_position, whole, whole_by}
use Rattle.nr_reduce.specs.Cuts.{joined_by, rebuilt_of}
use Rattle.nr_responder.specs.private.CallsRead.{payload_at_once, verdict_by}

-- a stream and a chunk that don't belong together
pub no_payload : (stream moved : List ℕ) (i : Item) (why : Mismatch) → item_of of.Call stream ≡ Some i → rebuilt_of of.Call stream i.pos moved ≡ Err why → None ≡ whole of.Call stream (Some moved)
unfolding rebuilt_of
no_payload stream moved i why item is = by (has_moved_length of.Call i moved) refl ∙ ap (λ (o : Option Item). whole_by of.Call stream moved o) (sym item)
  where
    joined : cond (not (eqb i.pos i.pos)) (Err mismatches.Position) (cond (not (has_moved_length of.Call i moved)) (Err mismatches.Length) (Ok (restored_payload i stream moved))) ≡ Err why
    joined = ap (λ (o : Option Item). joined_by of.Call stream i.pos moved o) (sym item) ∙ is

    same : eqb i.pos i.pos ≡ true
    same = eq-eqb i.pos i.pos refl

    by : (b : Bool) → has_moved_length of.Call i moved ≡ b → None ≡ cond (has_moved_length of.Call i moved) (Some (restored_payload i stream moved)) None
    by false e = ap (λ (c : Bool). cond c (Some (restored_payload i stream moved)) None) (sym e)
    by true e =
        absurd (let two : Ok (restored_payload i stream moved) ≡ Err why =
        (λ j. cond (not (sym same j)) (Err mismatches.Position) (cond (not (sym e j)) (Err mismatches.Length) (Ok (restored_payload i stream moved)))) ∙ joined in cc)

pub conveyed_is : (inline : Option (List ℕ)) (read : List ReadSegment) (chunk : ℕ → List ℕ) (o : Option ℕ) → o ≡ item_position read → whole of.Call (call_stream inline chunk) (call_moved o chunk) ≡ call_conveyed inline read chunk
unfolding call_conveyed
conveyed_is inline read chunk o is = ap (λ (p : Option ℕ). whole of.Call (call_stream inline chunk) (call_moved p chunk)) is

-- ---- An item of no bytes

nothing_restored : (stream : List ℕ) (i : Item) → i.len ≡ 0 → restored_payload i stream [] ≡ stream
unfolding restored_payload pad_len
nothing_restored stream i none =
    (λ j. take i.pos stream ++ (take (none j) [] ++ (replicate (pad_len (none j)) 0 ++ drop i.pos stream))) ∙ take-append-drop i.pos stream

-- a stream and an empty chunk: the stream alone, if its item has no bytes
pub item_alone : (stream : List ℕ) (i : Item) → item_of of.Call stream ≡ Some i → whole of.Call stream (Some []) ≡ cond (eqb i.len 0) (Some stream) None
item_alone stream i item = ap (λ (o : Option Item). whole_by of.Call stream [] o) item ∙ by (eqb i.len 0) refl
  where
    by : (b : Bool) → eqb i.len 0 ≡ b → whole_by of.Call stream [] (Some i) ≡ cond (eqb i.len 0) (Some stream) None
    by true e =
        let none : i.len ≡ 0 = eqb-true i.len 0 e in
        ap (λ (b : Bool). cond (b || eqb 0 (i.len + pad_len i.len)) (Some (restored_payload i stream [])) None) (eq-eqb 0 i.len (sym none))
        ∙ ap (λ (bytes : List ℕ). Some bytes) (nothing_restored stream i none)
        ∙ ap (λ (b : Bool). cond b (Some stream) None) (sym e)
    by false e =
        let some : 0 ≡ i.len → ⊥ = λ none. (let two : true ≡ false = sym (eq-eqb i.len 0 (sym none)) ∙ e in cc) in
        let more : 0 ≡ i.len + pad_len i.len → ⊥ = λ none. some (omega (arith, none)) in
        (λ j. cond (ne_eqb 0 i.len some j || ne_eqb 0 (i.len + pad_len i.len) more j) (Some (restored_payload i stream [])) None)
        ∙ ap (λ (b : Bool). cond b (Some stream) None) (sym e)

pub no_item_alone : (stream : List ℕ) → item_of of.Call stream ≡ None → whole of.Call stream (Some []) ≡ None
no_item_alone stream item = ap (λ (o : Option Item). whole_by of.Call stream [] o) item

-- ---- A call without a stream in its message, of which nothing is read

no_head : call_of [] ≡ Err 0
unfolding call_of call_at unsigned_at
no_head = refl

no_item : item_of of.Call [] ≡ None
unfolding call_item
no_item = ap (λ (r : Result CallHead ℕ). target_item [] (target_of r)) no_head

pub no_stream_ends : (c : PendingCall) → c.inline ≡ None → by_payload c (payload_at_once c) ≡ Refuses REASON_HEAD
no_stream_ends c none =
    ap (λ (inline : Option (List ℕ)). by_payload c (call_conveyed inline c.lists.read (λ position. []))) none
    ∙ ap (by_payload c) (sym (conveyed_is None c.lists.read (λ position. []) (item_position c.lists.read) refl))
    ∙ by (item_position c.lists.read)
  where
    by : (o : Option ℕ) → by_payload c (whole of.Call [] (call_moved o (λ position. []))) ≡ Refuses REASON_HEAD
    by None = ap (by_head c []) no_head
    by (Some position) = ap (by_payload c) (no_item_alone [] no_item)

-- ---- A call with its stream in its message, of which nothing is read

pub stream_conveyed : (c : PendingCall) (stream : List ℕ) (o : Option (List ℕ)) → c.inline ≡ Some stream → whole of.Call stream (call_moved (item_position c.lists.read) (λ position. [])) ≡ o → by_payload c (payload_at_once c) ≡ by_payload c o
stream_conveyed c stream o inline is =
    ap (λ (i : Option (List ℕ)). by_payload c (call_conveyed i c.lists.read (λ position. []))) inline
    ∙ ap (by_payload c) (sym (conveyed_is (Some stream) c.lists.read (λ position. []) (item_position c.lists.read) refl) ∙ is)

pub alone_as : (s0 s : List ℕ) (read r : List ReadSegment) (b v : Bool) → s ≡ s0 → r ≡ read → whole of.Call s (call_moved (item_position r) (λ position. [])) ≡ cond b (Some s) None → b ≡ v →
    whole of.Call s0 (call_moved (item_position read) (λ position. [])) ≡ cond v (Some s0) None
alone_as s0 s read r b v same reads is value =
    (λ i. whole of.Call (sym same i) (call_moved (item_position (sym reads i)) (λ position. []))) ∙ is ∙ (λ i. cond (value i) (Some (same i)) None)

pub ends_by : (c : PendingCall) (s : List ℕ) (o : Option ℕ) (v : CallVerdict) → v ≡ verdict_by c s o → IfSome o (λ reason. v ≡ Refuses reason)
ends_by c s None v is = tt
ends_by c s (Some reason) v is = is
