-- What a reply brings, for the code.
use Rattle.std.proofs.Common.{◌≡◌, ℕ, ◌≤◌, Bool, true, false, cond, not, eqb, List, [], ◌++◌, append_assoc, length, take, drop, Result, None, Some, Ok, Err, refl, sym, ap, ◌∙◌, arith}
use Rattle.std.proofs.lemmas.List.{take-append-drop}
use Rattle.nr_xdr.specs.Item.{IsBytes}
use Rattle.nr_rpc.specs.Reading.{reply_of}
use Rattle.nr_rpc.specs.declared.head.ReplyHead.{ReplyHead}
use Rattle.nr_rpc.proofs.Replies.{reply_begins, begins_reply}
use Rattle.nr_header.specs.declared.header.RdmaSegment.{RdmaSegment}
use Rattle.nr_regions.specs.RegisteredMemory.{RegisteredMemory, Claim, held_region, bytes_in}
use Rattle.nr_reduce.specs.declared.fault.Mismatch.{Mismatch}
use Rattle.nr_reduce.specs.declared.fault.Mismatch.TheVariants as mismatches
use Rattle.nr_reduce.specs.declared.item.Item.{Item}
use Rattle.nr_reduce.specs.declared.item.Of.{Of}
use Rattle.nr_reduce.specs.declared.item.Of.TheVariants.{Reply as OfReply}
use Rattle.nr_reduce.specs.Items.{item_of, reply_item, results_item, results_of, restored_payload}
use Rattle.nr_reduce.proofs.ItemSearch.{IsBytes_take, item_stands}
use Rattle.nr_reduce.specs.Chunks.{chunk_total, joined_bytes, whole, whole_by}
use Rattle.nr_reduce.specs.Cuts.{joined_by, rebuilt_of}
use Rattle.nr_reduce.specs.KeptClient.{bytes_under}
use Rattle.nr_reduce.proofs.Standing.{itself}
use Rattle.nr_requester.specs.Judged.{ComesBack}
use Rattle.nr_requester.proofs.CameBack.{came_back}

-- the bytes of a chunk that came back are the first ones of its region
pub filled_bytes : (m : RegisteredMemory) (claim : Claim) (back : List RdmaSegment) (bytes : List ℕ) → ComesBack m (Some claim) back → bytes ≡ bytes_in (held_region m claim.stag) → length bytes ≡ claim.len →
    (joined_bytes (bytes_under m) back ≡ take (chunk_total back) bytes) × (chunk_total back ≤ length bytes)
filled_bytes m claim back bytes c is len =
    let b = came_back (bytes_under m) claim.stag c.1.0 back c.1.1.1 in
    let most = b.1 in
    let all = c.1.1.0 in (
      b.0 ∙ ap (λ (x : List ℕ). take (chunk_total back) x) (sym is),
      omega (arith, most, all, len),
    )

pub none_joined : (m : RegisteredMemory) (back : List RdmaSegment) → ComesBack m None back → joined_bytes (bytes_under m) back ≡ []
unfolding joined_bytes
none_joined m back e = ap (λ (xs : List RdmaSegment). joined_bytes (bytes_under m) xs) e

-- bytes that don't belong together
pub not_whole : (prog vers proc : ℕ) (stream moved : List ℕ) (item : Item) (why : Mismatch) → item_of (OfReply prog vers proc) stream ≡ Some item → rebuilt_of (OfReply prog vers proc) stream item.pos moved ≡ Err why → whole (OfReply prog vers proc) stream (Some moved) ≡ None
unfolding rebuilt_of
not_whole prog vers proc stream moved item why is e =
    ap (whole_by (OfReply prog vers proc) stream moved) is
    ∙ by (eqb (length moved) item.len) refl (ap (λ (b : Bool). cond (not b) (Err mismatches.Position) (cond (not (eqb (length moved) item.len)) (Err mismatches.Length) (Ok (restored_payload item stream moved)))) (sym (itself item.pos))
    ∙ sym (ap (joined_by (OfReply prog vers proc) stream item.pos moved) is) ∙ e)
  where
    by : (b : Bool) → eqb (length moved) item.len ≡ b → cond (not b) (Err mismatches.Length) (Ok (restored_payload item stream moved)) ≡ Err why → cond b (Some (restored_payload item stream moved)) None ≡ None
    by true same wrong = absurd cc
    by false same wrong = refl

-- the same of an item that is known to be a reply's
pub parts_differ : (of : Of) (stream moved : List ℕ) (item : Item) (why : Mismatch) → (prog : ℕ) × ((vers : ℕ) × ((proc : ℕ) × (of ≡ OfReply prog vers proc))) → item_of of stream ≡ Some item → rebuilt_of of stream item.pos moved ≡ Err why →
    whole of stream (Some moved) ≡ None
parts_differ of stream moved item why r is e =
    ap (λ (o : Of). whole o stream (Some moved)) r.1.1.1
    ∙ not_whole r.0 r.1.0 r.1.1.0 stream moved item why (ap (λ (o : Of). item_of o stream) (sym r.1.1.1) ∙ is) (ap (λ (o : Of). rebuilt_of o stream item.pos moved) (sym r.1.1.1) ∙ e)

-- ---- The head of a reply that is put together

-- bytes that begin with a head begin with it whatever follows them
longer_head : (bytes more : List ℕ) (head : ReplyHead) → IsBytes bytes → reply_of bytes ≡ Ok head → reply_of (bytes ++ more) ≡ Ok head
longer_head bytes more head fits is =
    let begins = reply_begins bytes head fits is in
    begins_reply (bytes ++ more) head (begins.0, begins.1 ++ more, begins.2, ap (λ (xs : List ℕ). xs ++ more) begins.3 ∙ append_assoc begins.0 begins.1 more)

-- a stream without a head has no item
pub headless : (of : Of) (stream : List ℕ) (at : ℕ) → (prog : ℕ) × ((vers : ℕ) × ((proc : ℕ) × (of ≡ OfReply prog vers proc))) → reply_of stream ≡ Err at → item_of of stream ≡ None
unfolding reply_item
headless of stream at r is =
    ap (λ (o : Of). item_of o stream) r.1.1.1
    ∙ ap (λ (read : Result ReplyHead ℕ). results_item r.0 r.1.0 r.1.1.0 stream (results_of read)) is

-- a stream with an item has a head
item_has_head : (prog vers proc : ℕ) (bytes : List ℕ) (item : Item) → item_of (OfReply prog vers proc) bytes ≡ Some item → (head : ReplyHead) × (reply_of bytes ≡ Ok head)
unfolding reply_item
item_has_head prog vers proc bytes item e = by (reply_of bytes) refl e
  where
    by : (r : Result ReplyHead ℕ) → reply_of bytes ≡ r → results_item prog vers proc bytes (results_of r) ≡ Some item → (head : ReplyHead) × (reply_of bytes ≡ Ok head)
    by (Ok head) is e = (head, is)
    by (Err at) is e = absurd cc

-- the head stands before the item, so it stays when the item is put back
restored_head : (prog vers proc : ℕ) (stream moved : List ℕ) (item : Item) (head : ReplyHead) → IsBytes stream → reply_of stream ≡ Ok head → item_of (OfReply prog vers proc) stream ≡ Some item →
    reply_of (restored_payload item stream moved) ≡ Ok head
unfolding restored_payload
restored_head prog vers proc stream moved item head fits is has =
    let front : List ℕ = take item.pos stream in
    let stands = item_stands (OfReply prog vers proc) stream item fits has in
    let bytes : IsBytes front = IsBytes_take item.pos stream fits in
    let found = item_has_head prog vers proc front item stands.again in
    let whole_stream : reply_of stream ≡ Ok found.0 = ap reply_of (sym (take-append-drop item.pos stream)) ∙ longer_head front (drop item.pos stream) found.0 bytes found.1 in
    longer_head front _ found.0 bytes found.1 ∙ sym whole_stream ∙ is

pub whole_head : (of : Of) (stream moved payload : List ℕ) (item : Item) (head : ReplyHead) → (prog : ℕ) × ((vers : ℕ) × ((proc : ℕ) × (of ≡ OfReply prog vers proc))) → IsBytes stream → reply_of stream ≡ Ok head → item_of of stream ≡ Some item →
    whole of stream (Some moved) ≡ Some payload → reply_of payload ≡ Ok head
whole_head of stream moved payload item head r fits is has brings =
    let own : item_of (OfReply r.0 r.1.0 r.1.1.0) stream ≡ Some item = ap (λ (o : Of). item_of o stream) (sym r.1.1.1) ∙ has in
    by (eqb (length moved) item.len) (sym (ap (whole_by (OfReply r.0 r.1.0 r.1.1.0) stream moved) own) ∙ ap (λ (o : Of). whole o stream (Some moved)) (sym r.1.1.1) ∙ brings) own
  where
    by : (b : Bool) → cond b (Some (restored_payload item stream moved)) None ≡ Some payload → item_of (OfReply r.0 r.1.0 r.1.1.0) stream ≡ Some item → reply_of payload ≡ Ok head
    by true e own = let same : restored_payload item stream moved ≡ payload = cc in ap reply_of (sym same) ∙ restored_head r.0 r.1.0 r.1.1.0 stream moved item head fits is own
    by false e own = absurd cc
