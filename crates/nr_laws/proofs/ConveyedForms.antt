-- A call that was received with the lists and the stream of its plan conveys what its form conveys, if its read chunk brings the
-- plan's region.
use Rattle.std.proofs.Common.{◌≡◌, ℕ, zero, suc, ◌+◌, ◌^◌, ◌≤◌, Bool, true, false, cond, eqb, not, List, [], ◌∷◌, length, take, Option, None, Some, Ok, refl, sym, ap, subst, ◌∙◌, arith, eqb-true}
use Rattle.std.specs.Prelude.{sum, find, IfSome}
use Rattle.std.proofs.lemmas.Bool.{ne_eqb}
use Rattle.nr_xdr.specs.Item.{IsBytes}
use Rattle.nr_header.specs.declared.header.ReadSegment.{ReadSegment}
use Rattle.nr_link.specs.Agreement.{IsSendLimit}
use Rattle.nr_reduce.specs.declared.call.Form.{Form}
use Rattle.nr_reduce.specs.declared.call.Form.TheVariants as forms
use Rattle.nr_reduce.specs.declared.call.Offer.{Offer}
use Rattle.nr_reduce.specs.declared.item.Of.TheVariants.{Call}
use Rattle.nr_reduce.specs.declared.outline.Plan.{Plan}
use Rattle.nr_reduce.specs.Plans.{plan_of, regions_needed, given_read, given_region, entries_from, read_list, lists_of, read_stag, inline_at, inline_stream, HasWordPosition}
use Rattle.nr_reduce.specs.Chunks.{total_at, position_of, item_position, call_moved, call_stream, whole, call_conveyed}
use Rattle.nr_reduce.specs.ServerMessages.{no_stream}
use Rattle.nr_reduce.specs.ServerState.{PendingCall}
use Rattle.nr_reduce.specs.PayloadLaws.{moved_by, given_conveyed}
use Rattle.nr_reduce.specs.ChunkBytes.{IsNotGiven, ChunkHolds}
use Rattle.nr_reduce.proofs.WrittenChunks.{added_up, sum_added}
use Rattle.nr_reduce.proofs.Segments.{own_added}
use Rattle.nr_reduce.proofs.PlanKinds.{MessageKind, IsKind, offered, shape, is_plan}
use Rattle.nr_reduce.proofs.PlanKinds.MessageKind.{Short, Chunked, Long}
use Rattle.nr_reduce.proofs.Asking.{asks}
use Rattle.nr_reduce.proofs.Sizes.{is_formed}
use Rattle.nr_reduce.proofs.Rebuilding.{reducible, moved_length}
use Rattle.nr_laws.specs.Payloads.{form_conveyed}
use Rattle.nr_laws.proofs.PlanLists.{stream_known}
use Rattle.nr_laws.proofs.SinkReads.{total_own}
use Rattle.nr_laws.proofs.ConveyedCalls.{planned_fits, plan_reads}
use Rattle.nr_laws.proofs.ExecutedPayloads.{IsOfPlan}
use Rattle.nr_reduce.proofs.Offers.{no_item, region_length}

-- ---- The region of a plan is as long as its chunk

pub record HasChunk (p : Plan) : Type 0 where
  pub size : length p.region ≡ added_up p.read
  pub apart : p.read_at ≡ None → p.read ≡ []

chunk_given : (payload : List ℕ) (offer : Offer) (read : Option (List ℕ)) → HasChunk (given_read payload offer.read_at read (record { inline = payload; read_at = None; read = []; region = []; write = offer.write; reply = offer.reply }))
chunk_given payload offer None = record { size = refl; apart = λ e. refl }
chunk_given payload offer (Some ns) = record { size = region_length payload offer.read_at (sum ns) ∙ sum_added ns; apart = λ e. absurd cc }

chunk_shape : (payload : List ℕ) (kind : MessageKind) (w r : Option (List ℕ)) → IsKind payload kind → HasChunk (shape payload kind w r)
chunk_shape payload Short w r is = record { size = refl; apart = λ e. refl }
chunk_shape payload (Chunked i) w r is = record { size = (let l = moved_length Call payload i (reducible Call payload i is) in omega (arith, l, own_added i.len)); apart = λ e. absurd cc }
chunk_shape payload Long w r is = record { size = omega (arith, own_added (length payload)); apart = λ e. absurd cc }

own_chunk : (payload : List ℕ) (form : Form) (up down : ℕ) (p : Plan) → IsNotGiven form → plan_of payload form up down ≡ Ok p → HasChunk p
own_chunk payload form up down p own e = (let s = (is_plan payload form up down p own e).shaped in subst HasChunk (sym s.is) (chunk_shape payload s.kind (offered s.write) (offered s.reply) s.is_kind))

pub planned_chunk : (payload : List ℕ) (form : Form) (up down : ℕ) (p : Plan) → plan_of payload form up down ≡ Ok p → HasChunk p
planned_chunk payload forms.Auto up down p e = own_chunk payload forms.Auto up down p tt e
planned_chunk payload forms.Inline up down p e = own_chunk payload forms.Inline up down p tt e
planned_chunk payload forms.Chunk up down p e = own_chunk payload forms.Chunk up down p tt e
planned_chunk payload forms.Long up down p e = own_chunk payload forms.Long up down p tt e
planned_chunk payload (forms.Given offer) up down p e = subst HasChunk (is_formed payload (forms.Given offer) up down p e).is (chunk_given payload offer offer.read)

-- ---- A stream that isn't read

pub no_bytes_lem : (xs : List ℕ) → length xs ≡ 0 → xs ≡ []
no_bytes_lem [] e = refl
no_bytes_lem (x ∷ xs) e = absurd (omega (arith, e))

-- a stream whose chunk has no bytes is there before anything is read
known_zero : (read : List ReadSegment) (chunk : ℕ → List ℕ) → (total_at 0 read ≡ 0 → chunk 0 ≡ []) → call_conveyed (no_stream read) read chunk ≡ call_conveyed None read chunk
unfolding call_conveyed
known_zero read chunk none = by (eqb (total_at 0 read) 0) refl
  where
    by : (b : Bool) → eqb (total_at 0 read) 0 ≡ b → whole Call (call_stream (cond b (Some []) None) chunk) (call_moved (item_position read) chunk) ≡ whole Call (chunk 0) (call_moved (item_position read) chunk)
    by true is = ap (λ (xs : List ℕ). whole Call xs (call_moved (item_position read) chunk)) (sym (none (eqb-true (total_at 0 read) 0 is)))
    by false is = refl

known_as : (o : Option ℕ) (stream : List ℕ) (read : List ReadSegment) (chunk : ℕ → List ℕ) → (o ≡ Some 0 → total_at 0 read ≡ 0 → chunk 0 ≡ []) → call_conveyed (stream_known o stream read) read chunk ≡ call_conveyed (inline_at o stream) read chunk
known_as None stream read chunk none = refl
known_as (Some position) stream read chunk none = by (eqb position 0) refl
  where
    by : (b : Bool) → eqb position 0 ≡ b → call_conveyed (cond b (no_stream read) (Some stream)) read chunk ≡ call_conveyed (cond b None (Some stream)) read chunk
    by true is = known_zero read chunk (none (ap (λ (n : ℕ). Some n) (eqb-true position 0 is)))
    by false is = refl

entries_zero : (stag : ℕ) (p : Plan) → p.read_at ≡ Some 0 → total_at 0 (lists_of stag p).read ≡ added_up p.read
unfolding lists_of
entries_zero stag p at = ap (λ (o : Option ℕ). total_at 0 (read_list stag p o)) at ∙ total_own 0 (read_stag stag p) 0 p.read

holds_at : (chunk : ℕ → List ℕ) (region : List ℕ) (o : Option ℕ) (position : ℕ) → o ≡ Some position → IfSome o (λ n. chunk n ≡ region) → chunk position ≡ region
holds_at chunk region o position e h = (let t : IfSome (Some position) (λ n. chunk n ≡ region) = subst (λ (x : Option ℕ). IfSome x (λ n. chunk n ≡ region)) e h in t)

received_as : (stag : ℕ) (p : Plan) (c : PendingCall) (chunk : ℕ → List ℕ) → HasChunk p → IsOfPlan stag p c → ChunkHolds chunk p → call_conveyed c.inline c.lists.read chunk ≡ call_conveyed (inline_stream p) (lists_of stag p).read chunk
received_as stag p c chunk size is holds =
    (λ i. call_conveyed (is.stream i) (is.lists i).read chunk)
    ∙ known_as p.read_at p.inline (lists_of stag p).read chunk
    (λ at none. holds_at chunk p.region p.read_at 0 at holds ∙ no_bytes_lem p.region (let l = size.size in let t = entries_zero stag p at in omega (arith, l, t, none)))

-- ---- What the form conveys

own_conveys : (payload : List ℕ) (form : Form) (up down stag : ℕ) (p : Plan) (chunk : ℕ → List ℕ) → IsBytes payload → IsNotGiven form → HasWordPosition form → IsSendLimit up → plan_of payload form up down ≡ Ok p → stag + regions_needed p ≤ 2 ^ 32 → ChunkHolds chunk p
    → call_conveyed (inline_stream p) (lists_of stag p).read chunk ≡ Some payload
own_conveys payload form up down stag p chunk bytes own typed limit e stags holds =
    let m = asks payload form up down 0 0 stag p bytes own e (omega arith) (omega arith) stags in
    let fine = planned_fits payload form up down stag p limit e bytes typed stags in
    let r = plan_reads 0 0 stag p (record { xid = 0; credit = 0; body = m.body }) fine.0 fine.1 (omega arith) m.reads in
    ap (λ (o : Option (List ℕ)). call_conveyed o (lists_of stag p).read chunk) (sym r.inline) ∙ m.conveys chunk holds

given_stream : (chunk : ℕ → List ℕ) (region : List ℕ) (stag : ℕ) (lengths : List ℕ) → chunk 0 ≡ region → call_conveyed None (entries_from 0 stag 0 lengths) chunk ≡ Some region
unfolding call_conveyed
given_stream chunk region stag lengths holds = (λ i. whole Call (holds i) (call_moved (no_item stag 0 lengths i) chunk))

given_item : (stream region : List ℕ) (chunk : ℕ → List ℕ) (at stag : ℕ) (lengths : List ℕ) → eqb at 0 ≡ false → chunk at ≡ region → call_conveyed (Some stream) (entries_from at stag 0 lengths) chunk ≡ whole Call stream (moved_by lengths region)
unfolding call_conveyed item_position
given_item stream region chunk at stag [] apart holds = refl
given_item stream region chunk at stag (n ∷ lengths) apart holds =
    ap (λ (b : Bool). whole Call stream (call_moved (position_of (cond (not b) (Some (record { position = at; handle = stag; length = n; offset = 0 })) (find (λ (r : ReadSegment). not (eqb r.position 0)) (entries_from at stag (0 + n) lengths)))) chunk)) apart
    ∙ ap (λ (xs : List ℕ). whole Call stream (Some xs)) holds

given_at : (payload : List ℕ) (chunk : ℕ → List ℕ) (at stag : ℕ) (lengths : List ℕ) → chunk at ≡ given_region payload at (sum lengths)
    → call_conveyed (inline_at (Some at) (take at payload)) (entries_from at stag 0 lengths) chunk ≡ given_conveyed payload at (Some lengths)
given_at payload chunk zero stag lengths holds = given_stream chunk (given_region payload 0 (sum lengths)) stag lengths holds
given_at payload chunk (suc k) stag lengths holds =
    let region = given_region payload (suc k) (sum lengths) in
    let apart : eqb (suc k) 0 ≡ false = ne_eqb (suc k) 0 (λ e. omega (arith, e)) in
    ap (λ (b : Bool). call_conveyed (cond b None (Some (take (suc k) payload))) (entries_from (suc k) stag 0 lengths) chunk) apart
    ∙ given_item (take (suc k) payload) region chunk (suc k) stag lengths apart holds
    ∙ ap (λ (b : Bool). cond b (Some region) (whole Call (take (suc k) payload) (moved_by lengths region))) (sym apart)

given_list : (payload : List ℕ) (chunk : ℕ → List ℕ) (at : ℕ) (o w r : Option (List ℕ)) (stag : ℕ) → (let q : Plan = given_read payload at o (record { inline = payload; read_at = None; read = []; region = []; write = w; reply = r }) in
    ChunkHolds chunk q → call_conveyed (inline_stream q) (lists_of stag q).read chunk ≡ given_conveyed payload at o)
unfolding lists_of call_conveyed item_position
given_list payload chunk at None w r stag holds = refl
given_list payload chunk at (Some lengths) w r stag holds = given_at payload chunk at stag lengths holds

given_conveys : (payload : List ℕ) (offer : Offer) (up down stag : ℕ) (p : Plan) (chunk : ℕ → List ℕ) → plan_of payload (forms.Given offer) up down ≡ Ok p → ChunkHolds chunk p
    → call_conveyed (inline_stream p) (lists_of stag p).read chunk ≡ given_conveyed payload offer.read_at offer.read
given_conveys payload offer up down stag p chunk e holds =
    subst (λ (q : Plan). ChunkHolds chunk q → call_conveyed (inline_stream q) (lists_of stag q).read chunk ≡ given_conveyed payload offer.read_at offer.read) (is_formed payload (forms.Given offer) up down p e).is
    (given_list payload chunk offer.read_at offer.read offer.write offer.reply stag) holds

pub plan_conveys : (payload : List ℕ) (form : Form) (up down stag : ℕ) (p : Plan) (chunk : ℕ → List ℕ) → IsBytes payload → HasWordPosition form → IsSendLimit up → plan_of payload form up down ≡ Ok p → stag + regions_needed p ≤ 2 ^ 32 → ChunkHolds chunk p
    → call_conveyed (inline_stream p) (lists_of stag p).read chunk ≡ form_conveyed form payload
plan_conveys payload forms.Auto up down stag p chunk bytes typed limit e stags holds = own_conveys payload forms.Auto up down stag p chunk bytes tt tt limit e stags holds
plan_conveys payload forms.Inline up down stag p chunk bytes typed limit e stags holds = own_conveys payload forms.Inline up down stag p chunk bytes tt tt limit e stags holds
plan_conveys payload forms.Chunk up down stag p chunk bytes typed limit e stags holds = own_conveys payload forms.Chunk up down stag p chunk bytes tt tt limit e stags holds
plan_conveys payload forms.Long up down stag p chunk bytes typed limit e stags holds = own_conveys payload forms.Long up down stag p chunk bytes tt tt limit e stags holds
plan_conveys payload (forms.Given offer) up down stag p chunk bytes typed limit e stags holds = given_conveys payload offer up down stag p chunk e holds

-- What is conveyed to the server by a call with the lists and the stream of its plan, if its read chunk brings the plan's region.
pub received_conveys : (payload : List ℕ) (form : Form) (up down stag : ℕ) (p : Plan) (c : PendingCall) (chunk : ℕ → List ℕ) → IsBytes payload → HasWordPosition form → IsSendLimit up → plan_of payload form up down ≡ Ok p → stag + regions_needed p ≤ 2 ^ 32
    → IsOfPlan stag p c → ChunkHolds chunk p → call_conveyed c.inline c.lists.read chunk ≡ form_conveyed form payload
received_conveys payload form up down stag p c chunk bytes typed limit e stags is holds =
    received_as stag p c chunk (planned_chunk payload form up down p e) is holds ∙ plan_conveys payload form up down stag p chunk bytes typed limit e stags holds
