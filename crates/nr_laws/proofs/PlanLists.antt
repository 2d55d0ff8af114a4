-- The message of an accepted call is read with the lists of its plan, in every form.
use Rattle.std.proofs.Common.{◌≡◌, ℕ, ◌+◌, ◌*◌, ◌^◌, ◌≤◌, ◌<◌, Bool, true, false, cond, eqb, List, [], ◌∷◌, ◌++◌, length, drop, Option, None, Some, Ok, refl, sym, ap, subst, ◌∙◌, arith}
use Rattle.std.proofs.lemmas.List.{drop_at}
use Rattle.nr_xdr.specs.Item.{Item, IsBytes}
use Rattle.nr_xdr.specs.Item.Item.{Unsigned}
use Rattle.nr_xdr.specs.Items.{AllFit, encodings}
use Rattle.nr_header.specs.declared.header.ReadSegment.{ReadSegment}
use Rattle.nr_header.specs.declared.header.ChunkLists.{ChunkLists}
use Rattle.nr_header.specs.declared.header.Body.{Body}
use Rattle.nr_header.specs.declared.header.Body.TheVariants.{Msg, Nomsg, ErrVers, ErrChunk}
use Rattle.nr_header.specs.declared.header.Header.{Header}
use Rattle.nr_header.specs.Header.{read_items, segments_items, write_items, reply_items, lists_items, body_items, fixed_items, header_encoding}
use Rattle.nr_header.specs.WithinLimits.{IsMessage}
use Rattle.nr_header.specs.Reading.{header_of}
use Rattle.nr_header.proofs.Messages.{header_take}
use Rattle.nr_wire.specs.Constants.{UNITS_MAX}
use Rattle.nr_link.specs.Agreement.{IsSendLimit}
use Rattle.nr_reduce.specs.declared.call.Offer.{Offer}
use Rattle.nr_reduce.specs.declared.outline.Plan.{Plan}
use Rattle.nr_reduce.specs.Limits.{send_unit, given_max}
use Rattle.nr_reduce.specs.Plans.{plan_size, given_plan, given_read, given_total, total, has_segment, one_if, write_stag, reply_stag, regions_needed, segments_from, entries_from, read_list, write_list, reply_chunk, lists_of, body_by, call_message}
use Rattle.nr_reduce.specs.Plans as plans
use Rattle.nr_reduce.specs.ChunkBytes.{lists_by, inline_by}
use Rattle.nr_reduce.specs.RunLaws.{known_stream}
use Rattle.nr_reduce.specs.ServerMessages.{no_stream}
use Rattle.nr_reduce.proofs.WrittenChunks.{added_up, sum_added}
use Rattle.nr_laws.proofs.SameLists.{peel_word, lists_same}
use Rattle.nr_reduce.proofs.Sizes.{segments_count}

-- ---- The lists of an offer that is given fit

entries_fit_lem : (position handle offset : ℕ) (lengths : List ℕ) (more : List Item) → position < 2 ^ 32 → (0 < length lengths → handle < 2 ^ 32) → offset + added_up lengths < 2 ^ 32 → AllFit more → AllFit (read_items (entries_from position handle offset lengths) more)
entries_fit_lem position handle offset [] more p h o m = (tt, m)
entries_fit_lem position handle offset (n ∷ lengths) more p h o m =
    (tt, (p, (h (omega arith), (omega (arith, o), (omega (arith, o), entries_fit_lem position handle (offset + n) lengths more p (λ some. h (omega arith)) (omega (arith, o)) m)))))

segments_fit_lem : (handle offset : ℕ) (lengths : List ℕ) (more : List Item) → (0 < length lengths → handle < 2 ^ 32) → offset + added_up lengths < 2 ^ 32 → AllFit more → AllFit (segments_items (segments_from handle offset lengths) more)
segments_fit_lem handle offset [] more h o m = m
segments_fit_lem handle offset (n ∷ lengths) more h o m =
    (h (omega arith), (omega (arith, o), (omega (arith, o), segments_fit_lem handle (offset + n) lengths more (λ some. h (omega arith)) (omega (arith, o)) m)))

write_fit_lem : (stag : ℕ) (w : Option (List ℕ)) (more : List Item) → (has_segment w ≡ true → stag < 2 ^ 32) → total w < 2 ^ 32 → length (Rattle.nr_reduce.specs.ChunkBytes.lengths w) < 2 ^ 32 → AllFit more → AllFit (write_items (write_list stag w) more)
write_fit_lem stag None more h t l m = (tt, m)
write_fit_lem stag (Some ns) more h t l m =
    (tt, ((let c = segments_count stag 0 ns in omega (arith, c, l)), segments_fit_lem stag 0 ns (write_items [] more) (by ns h) (let s = sum_added ns in omega (arith, s, t)) (tt, m)))
  where
    by : (ns : List ℕ) → (has_segment (Some ns) ≡ true → stag < 2 ^ 32) → 0 < length ns → stag < 2 ^ 32
    by [] h some = absurd (omega (arith, some))
    by (n ∷ ns) h some = h refl

reply_fit_lem : (stag : ℕ) (r : Option (List ℕ)) → (has_segment r ≡ true → stag < 2 ^ 32) → total r < 2 ^ 32 → length (Rattle.nr_reduce.specs.ChunkBytes.lengths r) < 2 ^ 32 → AllFit (reply_items (reply_chunk stag r) [])
reply_fit_lem stag None h t l = (tt, tt)
reply_fit_lem stag (Some ns) h t l =
    (tt, ((let c = segments_count stag 0 ns in omega (arith, c, l)), segments_fit_lem stag 0 ns [] (by ns h) (let s = sum_added ns in omega (arith, s, t)) tt))
  where
    by : (ns : List ℕ) → (has_segment (Some ns) ≡ true → stag < 2 ^ 32) → 0 < length ns → stag < 2 ^ 32
    by [] h some = absurd (omega (arith, some))
    by (n ∷ ns) h some = h refl

counts : (up : ℕ) (p : Plan) → IsSendLimit up → plan_size p ≤ up → (length (Rattle.nr_reduce.specs.ChunkBytes.lengths p.write) < 2 ^ 32) × (length (Rattle.nr_reduce.specs.ChunkBytes.lengths p.reply) < 2 ^ 32)
unfolding plan_size
counts up p limit small = (by_write p.write (omega (arith, small, limit.1)), by_reply p.reply (omega (arith, small, limit.1)))
  where
    by_write : (w : Option (List ℕ)) → plans.write_size w ≤ send_unit * UNITS_MAX → length (Rattle.nr_reduce.specs.ChunkBytes.lengths w) < 2 ^ 32
    by_write None h = omega arith
    by_write (Some ns) h = omega (arith, h)

    by_reply : (r : Option (List ℕ)) → plans.reply_size r ≤ send_unit * UNITS_MAX → length (Rattle.nr_reduce.specs.ChunkBytes.lengths r) < 2 ^ 32
    by_reply None h = omega arith
    by_reply (Some ns) h = omega (arith, h)

some_true : (ns : List ℕ) → 0 < length ns → has_segment (Some ns) ≡ true
some_true [] h = absurd (omega (arith, h))
some_true (n ∷ ns) h = refl

pub given_fit : (payload : List ℕ) (offer : Offer) (up stag : ℕ) → given_total offer ≤ given_max → offer.read_at < 2 ^ 32 → IsSendLimit up → plan_size (given_plan payload offer) ≤ up → stag + regions_needed (given_plan payload offer) ≤ 2 ^ 32 → AllFit (lists_items (lists_of stag (given_plan payload offer)))
unfolding lists_of regions_needed
given_fit payload offer up stag small at limit sized stags = by offer.read offer.write offer.reply (omega (arith, small)) (counts up (given_plan payload offer) limit sized) stags
  where
    plan : Option (List ℕ) → Option (List ℕ) → Option (List ℕ) → Plan
    plan read w r = given_read payload offer.read_at read (record { inline = payload; read_at = None; read = []; region = []; write = w; reply = r })

    by_lists : (p : Plan) (read : List ReadSegment) → (length (Rattle.nr_reduce.specs.ChunkBytes.lengths p.write) < 2 ^ 32) × (length (Rattle.nr_reduce.specs.ChunkBytes.lengths p.reply) < 2 ^ 32) → total p.write + total p.reply ≤ given_max
        → stag + (one_if (has_segment (Some p.read)) + one_if (has_segment p.write) + one_if (has_segment p.reply)) ≤ 2 ^ 32 → ((more : List Item) → AllFit more → AllFit (read_items read more))
        → AllFit (lists_items (record { read = read; write = write_list (write_stag stag p) p.write; reply = reply_chunk (reply_stag stag p) p.reply }))
    by_lists p read count totals stags front =
        front (write_items (write_list (write_stag stag p) p.write) (reply_items (reply_chunk (reply_stag stag p) p.reply) []))
        (write_fit_lem (write_stag stag p) p.write (reply_items (reply_chunk (reply_stag stag p) p.reply) []) (λ e. (let o = ap one_if e in omega (arith, o, stags))) (omega (arith, totals)) count.0
        (reply_fit_lem (reply_stag stag p) p.reply (λ e. (let o = ap one_if e in omega (arith, o, stags))) (omega (arith, totals)) count.1))

    by : (read w r : Option (List ℕ)) → total read + total w + total r ≤ given_max → (length (Rattle.nr_reduce.specs.ChunkBytes.lengths (plan read w r).write) < 2 ^ 32) × (length (Rattle.nr_reduce.specs.ChunkBytes.lengths (plan read w r).reply) < 2 ^ 32)
        → stag + (one_if (has_segment (Some (plan read w r).read)) + one_if (has_segment (plan read w r).write) + one_if (has_segment (plan read w r).reply)) ≤ 2 ^ 32
        → AllFit (lists_items (record { read = read_list stag (plan read w r) (plan read w r).read_at; write = write_list (write_stag stag (plan read w r)) (plan read w r).write; reply = reply_chunk (reply_stag stag (plan read w r)) (plan read w r).reply }))
    by None w r small count stags = by_lists (plan None w r) [] count (omega (arith, small)) stags (λ more m. (tt, m))
    by (Some ns) w r small count stags =
        by_lists (plan (Some ns) w r) (entries_from offer.read_at stag 0 ns) count (omega (arith, small)) stags
        (λ more m. entries_fit_lem offer.read_at stag 0 ns more at (λ some. (let o = ap one_if (some_true ns some) in omega (arith, o, stags))) (let s = sum_added ns in omega (arith, s, small)) m)

-- ---- What is read

-- the stream of a plan, if it is there before anything is read
abbrev pub stream_known : Option ℕ → List ℕ → List ReadSegment → Option (List ℕ)
stream_known None stream read = Some stream
stream_known (Some position) stream read = cond (eqb position 0) (no_stream read) (Some stream)

pub record ReadsLists (stag : ℕ) (p : Plan) (message : List ℕ) (header : Header) : Type 0 where
  pub lists : lists_by header.body ≡ lists_of stag p
  -- a stream that is in the message
  pub inline : inline_by message header.body ≡ plans.inline_stream p
  -- a stream that is there before anything is read
  pub known : known_stream message header.body ≡ stream_known p.read_at p.inline (lists_of stag p).read

fixed_same : (a b c d e f g h : ℕ) (more others : List Item) (x y : List ℕ) → AllFit (fixed_items a b c d more) → AllFit (fixed_items e f g h others) → encodings (fixed_items a b c d more) ++ x ≡ encodings (fixed_items e f g h others) ++ y
    → (d ≡ h) × (encodings more ++ x ≡ encodings others ++ y)
fixed_same a b c d e f g h more others x y p q is =
    let one = peel_word a e _ _ x y p.0 q.0 is in
    let two = peel_word b f _ _ x y p.1.0 q.1.0 one.1 in
    let three = peel_word c g _ _ x y p.1.1.0 q.1.1.0 two.1 in
    peel_word d h _ _ x y p.1.1.1.0 q.1.1.1.0 three.1

msg_reads : (xid credit : ℕ) (header : Header) (ls : ChunkLists) (inline : List ℕ) (at : ℕ) → IsMessage header (header_encoding (record { xid = xid; credit = credit; body = Msg ls at }) ++ inline) → AllFit (lists_items ls) → xid < 2 ^ 32 → credit < 2 ^ 32
    → (lists_by header.body ≡ ls) × (inline_by (header_encoding (record { xid = xid; credit = credit; body = Msg ls at }) ++ inline) header.body ≡ Some inline)
    × (known_stream (header_encoding (record { xid = xid; credit = credit; body = Msg ls at }) ++ inline) header.body ≡ Some inline)
msg_reads xid credit header ls inline at m fits fx fc = by header.body m.fits m.parts m.place
  where
    whole : List ℕ
    whole = header_encoding (record { xid = xid; credit = credit; body = Msg ls at }) ++ inline

    own : AllFit (fixed_items xid 1 credit 0 (lists_items ls))
    own = (fx, (omega arith, (fc, (omega arith, fits))))

    by : (b : Body) → AllFit (body_items header.xid header.credit b) → whole ≡ header_encoding (record { xid = header.xid; credit = header.credit; body = b }) ++ m.stream → Rattle.nr_header.specs.WithinLimits.StreamAt b (length (header_encoding (record { xid = header.xid; credit = header.credit; body = b })))
        → (lists_by b ≡ ls) × (inline_by whole b ≡ Some inline) × (known_stream whole b ≡ Some inline)
    by (Msg ms place) f parts where_is =
        let k = fixed_same xid 1 credit 0 header.xid 1 header.credit 0 (lists_items ls) (lists_items ms) inline m.stream own f parts in
        let s = lists_same ls ms inline m.stream fits f.1.1.1.1 k.1 in
        let stream : Some (drop place whole) ≡ Some inline =
        ap (λ (bytes : List ℕ). Some (drop place bytes)) parts
        ∙ ap (λ (bytes : List ℕ). Some bytes) (drop_at (header_encoding (record { xid = header.xid; credit = header.credit; body = Msg ms place })) m.stream place (sym where_is)) ∙ ap (λ (bytes : List ℕ). Some bytes) (sym s.rest) in
        (sym s.same, stream, stream)
    by (Nomsg ms) f parts where_is = absurd (let k = (fixed_same xid 1 credit 0 header.xid 1 header.credit 1 (lists_items ls) (lists_items ms) inline m.stream own f parts).0 in omega (arith, k))
    by (ErrVers version low high) f parts where_is = absurd (let k = (fixed_same xid 1 credit 0 header.xid version header.credit 4 (lists_items ls) (Unsigned 1 ∷ (Unsigned low ∷ (Unsigned high ∷ []))) inline m.stream own f parts).0 in omega (arith, k))
    by (ErrChunk version) f parts where_is = absurd (let k = (fixed_same xid 1 credit 0 header.xid version header.credit 4 (lists_items ls) (Unsigned 2 ∷ []) inline m.stream own f parts).0 in omega (arith, k))

nomsg_reads : (xid credit : ℕ) (header : Header) (ls : ChunkLists) (inline : List ℕ) → IsMessage header (header_encoding (record { xid = xid; credit = credit; body = Nomsg ls }) ++ inline) → AllFit (lists_items ls) → xid < 2 ^ 32 → credit < 2 ^ 32
    → (lists_by header.body ≡ ls) × (inline_by (header_encoding (record { xid = xid; credit = credit; body = Nomsg ls }) ++ inline) header.body ≡ None)
    × (known_stream (header_encoding (record { xid = xid; credit = credit; body = Nomsg ls }) ++ inline) header.body ≡ no_stream ls.read)
nomsg_reads xid credit header ls inline m fits fx fc = by header.body m.fits m.parts
  where
    whole : List ℕ
    whole = header_encoding (record { xid = xid; credit = credit; body = Nomsg ls }) ++ inline

    own : AllFit (fixed_items xid 1 credit 1 (lists_items ls))
    own = (fx, (omega arith, (fc, (omega arith, fits))))

    by : (b : Body) → AllFit (body_items header.xid header.credit b) → whole ≡ header_encoding (record { xid = header.xid; credit = header.credit; body = b }) ++ m.stream → (lists_by b ≡ ls) × (inline_by whole b ≡ None) × (known_stream whole b ≡ no_stream ls.read)
    by (Msg ms place) f parts = absurd (let k = (fixed_same xid 1 credit 1 header.xid 1 header.credit 0 (lists_items ls) (lists_items ms) inline m.stream own f parts).0 in omega (arith, k))
    by (Nomsg ms) f parts =
        let k = fixed_same xid 1 credit 1 header.xid 1 header.credit 1 (lists_items ls) (lists_items ms) inline m.stream own f parts in
        let same : ms ≡ ls = sym (lists_same ls ms inline m.stream fits f.1.1.1.1 k.1).same in
        (same, refl, ap (λ (l : ChunkLists). no_stream l.read) same)
    by (ErrVers version low high) f parts = absurd (let k = (fixed_same xid 1 credit 1 header.xid version header.credit 4 (lists_items ls) (Unsigned 1 ∷ (Unsigned low ∷ (Unsigned high ∷ []))) inline m.stream own f parts).0 in omega (arith, k))
    by (ErrChunk version) f parts = absurd (let k = (fixed_same xid 1 credit 1 header.xid version header.credit 4 (lists_items ls) (Unsigned 2 ∷ []) inline m.stream own f parts).0 in omega (arith, k))

pub fitting_reads : (xid credit stag : ℕ) (p : Plan) (header : Header) → IsBytes (call_message xid credit stag p) → header_of (call_message xid credit stag p) ≡ Ok header → AllFit (lists_items (lists_of stag p)) → xid < 2 ^ 32 → credit < 2 ^ 32 → ReadsLists stag p (call_message xid credit stag p) header
unfolding call_message
fitting_reads xid credit stag p header bytes is fits fx fc = by p.read_at refl (header_take _ header bytes is)
  where
    ls : ChunkLists
    ls = lists_of stag p

    message : Option ℕ → List ℕ
    message o = header_encoding (record { xid = xid; credit = credit; body = body_by o ls }) ++ p.inline

    by_kind : (position : ℕ) → p.read_at ≡ Some position → (b : Bool) → eqb position 0 ≡ b → IsMessage header (header_encoding (record { xid = xid; credit = credit; body = cond b (Nomsg ls) (Msg ls 0) }) ++ p.inline)
        → (lists_by header.body ≡ ls) × (inline_by (header_encoding (record { xid = xid; credit = credit; body = cond b (Nomsg ls) (Msg ls 0) }) ++ p.inline) header.body ≡ cond b None (Some p.inline))
        × (known_stream (header_encoding (record { xid = xid; credit = credit; body = cond b (Nomsg ls) (Msg ls 0) }) ++ p.inline) header.body ≡ cond b (no_stream ls.read) (Some p.inline))
    by_kind position own true at_zero m = nomsg_reads xid credit header ls p.inline m fits fx fc
    by_kind position own false at_zero m = msg_reads xid credit header ls p.inline 0 m fits fx fc

    by : (o : Option ℕ) → p.read_at ≡ o → IsMessage header (message p.read_at) → ReadsLists stag p (message p.read_at) header
    by None own m =
        let r = msg_reads xid credit header ls p.inline 0 (subst (λ (o : Option ℕ). IsMessage header (message o)) own m) fits fx fc in
        record { lists = r.0; inline = (λ i. inline_by (message (own i)) header.body) ∙ r.1 ∙ ap (λ (o : Option ℕ). plans.inline_at o p.inline) (sym own); known = (λ i. known_stream (message (own i)) header.body) ∙ r.2 ∙ ap (λ (o : Option ℕ). stream_known o p.inline ls.read) (sym own) }
    by (Some position) own m =
        let r = by_kind position own (eqb position 0) refl (subst (λ (o : Option ℕ). IsMessage header (message o)) own m) in
        record { lists = r.0; inline = (λ i. inline_by (message (own i)) header.body) ∙ r.1 ∙ ap (λ (o : Option ℕ). plans.inline_at o p.inline) (sym own); known = (λ i. known_stream (message (own i)) header.body) ∙ r.2 ∙ ap (λ (o : Option ℕ). stream_known o p.inline ls.read) (sym own) }
