-- A message is read if and only if it is encoded within the limits.
use Rattle.std.proofs.Common.{◌≡◌, ◌≢◌, ℕ, ◌+◌, ◌≤◌, Bool, true, false, cond, eqb, ltb, ◌||◌, ◌&&◌, List, [], ◌∷◌, ◌++◌, length, take, drop, sum_by, All, Option, Some, None, Result, Ok, Err, refl, sym, ap, subst, ◌∙◌, arith, inl, inr, ◌⊎◌, ◌↔◌}
use Rattle.std.specs.Prelude.{IfSome, IfOk}
use Rattle.std.specs.List.{AllByRecursion}
use Rattle.std.proofs.lemmas.Bool.{ltb-false, le-ltb, eqb-true}
use Rattle.std.proofs.lemmas.List.{append-nil, nil_from_length, length-drop, drop-drop, drop_all}
use Rattle.std.proofs.lemmas.List.Elements.{All-from_recursion, All-head, All-tail}
use Rattle.nr_xdr.specs.declared.fault.ItemFault.TheVariants as items
use Rattle.nr_xdr.specs.Item.{Item, IsBytes, Reads, padding, encoding, word, word_of}
use Rattle.nr_xdr.specs.Item.Item.{Unsigned}
use Rattle.nr_xdr.specs.Fields.{word_at}
use Rattle.nr_xdr.specs.Items.{ReadsAll, AllFit, encodings, TakesAll}
use Rattle.nr_xdr.specs.Reading.{Cursor, Takes, cursor_past, unsigned_at}
use Rattle.nr_xdr.proofs.Cursors.{cursor_is, guard_ok, ok_parts}
use Rattle.nr_xdr.proofs.Items.{unsigned_takes, unsigned_again}
use Rattle.nr_xdr.proofs.WordBytes.{IsBytes_drop}
use Rattle.nr_xdr.proofs.Chains.{standing, each_takes, each_between, encodings_read}
use Rattle.nr_xdr.proofs.SequencingSteps.{bind_ok, chosen, done, ok_is}
use Rattle.nr_header.specs.Constants.{VERSION, FIXED_LEN, MSG, NOMSG, ERROR, ERR_VERS, ERR_CHUNK, READ_SEGMENTS_MAX, WRITE_CHUNKS_MAX, CHUNK_SEGMENTS_MAX, WRITE_SEGMENTS_MAX, PAYLOAD_MAX}
use Rattle.nr_header.specs.declared.fault.HeaderFault.{HeaderFault}
use Rattle.nr_header.specs.declared.fault.HeaderFault.TheVariants as faults
use Rattle.nr_header.specs.declared.header.RdmaSegment.{RdmaSegment}
use Rattle.nr_header.specs.declared.header.ReadSegment.{ReadSegment}
use Rattle.nr_header.specs.declared.header.ChunkLists.{ChunkLists}
use Rattle.nr_header.specs.declared.header.Body.{Body}
use Rattle.nr_header.specs.declared.header.Body.TheVariants.{Msg, Nomsg, ErrVers, ErrChunk}
use Rattle.nr_header.specs.declared.header.Header.{Header}
use Rattle.nr_header.specs.Header.{read_items, segments_items, write_items, reply_items, lists_items, fixed_items, body_items, header_encoding, HeaderFits}
use Rattle.nr_header.specs.WithinLimits.{SegmentsEnd, ListsWithin, read_total, CanRead, StreamAt, IsMessage, body_again, header_again}
use Rattle.nr_header.specs.Reading.{HasNoStream, IsBad, HeaderBad, lists_at, sums_pass, msg_at, nomsg_at, error_of, error_by, in_lists, version1_of, body_by, header_by, header_of, read_list_at, write_list_at, reply_chunk_at}
use Rattle.nr_header.proofs.Segments.{SegmentEnds, write_list_take, write_list_again, reply_chunk_take, reply_chunk_again}
use Rattle.nr_header.proofs.ReadLists.{EntryEnds, Stand, ZeroAllowed, position_of, stand_one, stand_apart, one_stands, read_list_take, read_list_again}

-- ---- the words of a message

module _ (bytes : List ℕ) (k : ℕ) where
  -- what was taken as a word at an offset is the word there, and the next offset is four further on
  pub word_taken : (d : Cursor) (n : ℕ) → Takes (standing k (drop k bytes)) d (Unsigned n)
      → (k + 4 ≤ length bytes) × (word_at k bytes ≡ n) × (d ≡ standing (k + 4) (drop (k + 4) bytes))
  unfolding unsigned_at cursor_past
  word_taken d n t =
      let rest = drop k bytes in
      let c = standing k rest in
      let g = guard_ok (ltb (length rest) 4) (items.Short k) (Ok (word_of (take 4 rest), cursor_past 4 c)) (n, d) (unsigned_again c n d t) in
      let p = ok_parts (word_of (take 4 rest)) n (cursor_past 4 c) d g.1 in
      (omega (arith, ltb-false (length rest) 4 g.0, length-drop k bytes), p.0, sym p.1 ∙ cursor_is (cursor_past 4 c) (standing (k + 4) (drop (k + 4) bytes)) refl (drop-drop 4 k bytes))

  pub word_there : k + 4 ≤ length bytes → IsBytes bytes → Takes (standing k (drop k bytes)) (standing (k + 4) (drop (k + 4) bytes)) (Unsigned (word_at k bytes))
  unfolding unsigned_at cursor_past
  word_there le fits =
      let rest = drop k bytes in
      let c = standing k rest in
      let long : 4 ≤ length rest = omega (arith, length-drop k bytes) in
      let there : unsigned_at c ≡ Ok (word_of (take 4 rest), cursor_past 4 c) = rw (le-ltb (length rest) 4 long) refl in
      subst (λ (d : Cursor). Takes c d (Unsigned (word_at k bytes))) (cursor_is (cursor_past 4 c) (standing (k + 4) (drop (k + 4) bytes)) refl (drop-drop 4 k bytes))
      (unsigned_takes c (word_of (take 4 rest)) (cursor_past 4 c) (IsBytes_drop k bytes fits) there)

-- the fixed words of a message, and what was taken after them
record Fixed (bytes : List ℕ) (xid version credit kind : ℕ) (more : List Item) (after : Cursor) : Type 0 where
  long : 16 ≤ length bytes
  xid_is : word_at 0 bytes ≡ xid
  version_is : word_at 4 bytes ≡ version
  credit_is : word_at 8 bytes ≡ credit
  kind_is : word_at 12 bytes ≡ kind
  behind : TakesAll (standing 16 (drop 16 bytes)) after more

fixed_taken : (bytes : List ℕ) (xid version credit kind : ℕ) (more : List Item) (after : Cursor) → TakesAll (standing 0 bytes) after (fixed_items xid version credit kind more)
    → Fixed bytes xid version credit kind more after
fixed_taken bytes xid version credit kind more after (a, ta, (b, tb, (d, td, (f, tf, others)))) =
    let wa = word_taken bytes 0 a xid ta in
    let wb = word_taken bytes 4 b version (subst (λ (x : Cursor). Takes x b (Unsigned version)) wa.2 tb) in
    let wd = word_taken bytes 8 d credit (subst (λ (x : Cursor). Takes x d (Unsigned credit)) wb.2 td) in
    let wf = word_taken bytes 12 f kind (subst (λ (x : Cursor). Takes x f (Unsigned kind)) wd.2 tf) in
    record { long = wf.0; xid_is = wa.1; version_is = wb.1; credit_is = wd.1; kind_is = wf.1; behind = subst (λ (x : Cursor). TakesAll x after more) wf.2 others }

fixed_there : (bytes : List ℕ) (more : List Item) (after : Cursor) → 16 ≤ length bytes → IsBytes bytes → TakesAll (standing 16 (drop 16 bytes)) after more
    → TakesAll (standing 0 bytes) after (fixed_items (word_at 0 bytes) (word_at 4 bytes) (word_at 8 bytes) (word_at 12 bytes) more)
fixed_there bytes more after long fits others = (
  standing 4 (drop 4 bytes),
  word_there bytes 0 (omega arith) fits,
  (
    standing 8 (drop 8 bytes),
    word_there bytes 4 (omega arith) fits,
    (
      standing 12 (drop 12 bytes),
      word_there bytes 8 (omega arith) fits,
      (standing 16 (drop 16 bytes), word_there bytes 12 (omega arith) fits, others),
    ),
  ),
)

-- ---- items without pad bytes

abbrev PlainEach : List Item → Type 0
PlainEach [] = Unit {0}
PlainEach (item ∷ is) = (padding item ≡ 0) × PlainEach is

no_pad : (item : Item) (bytes : List ℕ) → padding item ≡ 0 → Reads item bytes → bytes ≡ encoding item
no_pad item bytes plain reads =
    let none : reads.pad ≡ [] = nil_from_length reads.pad (reads.pad_is ∙ plain) in
    let zeros : Rattle.std.specs.Prelude.replicate (padding item) 0 ≡ [] = rw plain refl in
    reads.bytes_are ∙ ap (λ (p : List ℕ). Rattle.nr_xdr.specs.Item.padded item p) (none ∙ sym zeros)

plain_encoded : (is : List Item) (bytes : List ℕ) → PlainEach is → ReadsAll is bytes → (bytes ≡ encodings is) × AllFit is
plain_encoded [] bytes plain reads = (reads, tt)
plain_encoded (item ∷ is) bytes plain (front, behind, first, others, parts) =
    let more = plain_encoded is behind plain.1 others in
    let one = no_pad item front plain.0 first in
    (parts ∙ ap (λ (b : List ℕ). b ++ behind) one ∙ ap (λ (b : List ℕ). encoding item ++ b) more.0, (first.fits, more.1))

plain_read : (rs : List ReadSegment) (more : List Item) → PlainEach more → PlainEach (read_items rs more)
plain_read [] more p = (refl, p)
plain_read (r ∷ rs) more p = (refl, (refl, (refl, (refl, (refl, plain_read rs more p)))))

plain_segments : (ss : List RdmaSegment) (more : List Item) → PlainEach more → PlainEach (segments_items ss more)
plain_segments [] more p = p
plain_segments (s ∷ ss) more p = (refl, (refl, (refl, plain_segments ss more p)))

plain_write : (chunks : List (List RdmaSegment)) (more : List Item) → PlainEach more → PlainEach (write_items chunks more)
plain_write [] more p = (refl, p)
plain_write (chunk ∷ chunks) more p = (refl, (refl, plain_segments chunk (write_items chunks more) (plain_write chunks more p)))

plain_reply : (reply : Option (List RdmaSegment)) (more : List Item) → PlainEach more → PlainEach (reply_items reply more)
plain_reply None more p = (refl, p)
plain_reply (Some chunk) more p = (refl, (refl, plain_segments chunk more p))

plain_lists : (lists : ChunkLists) → PlainEach (lists_items lists)
plain_lists lists = plain_read lists.read (write_items lists.write (reply_items lists.reply [])) (plain_write lists.write (reply_items lists.reply []) (plain_reply lists.reply [] tt))

plain_body : (xid credit : ℕ) (body : Body) → PlainEach (body_items xid credit body)
plain_body xid credit (Msg lists stream_at) = (refl, (refl, (refl, (refl, plain_lists lists))))
plain_body xid credit (Nomsg lists) = (refl, (refl, (refl, (refl, plain_lists lists))))
plain_body xid credit (ErrVers version low high) = (refl, (refl, (refl, (refl, (refl, (refl, (refl, tt)))))))
plain_body xid credit (ErrChunk version) = (refl, (refl, (refl, (refl, (refl, tt)))))

-- ---- all of a list

recursion_from_All : {X : Type 0} (P : X → Type 0) (xs : List X) → All P xs → AllByRecursion P xs
recursion_from_All P [] all = tt
recursion_from_All P (x ∷ xs) all = (All-head P x xs all, recursion_from_All P xs (All-tail P x xs all))

recursion_map : {X : Type 0} (P Q : X → Type 0) (xs : List X) → ((x : X) → P x → Q x) → AllByRecursion P xs → AllByRecursion Q xs
recursion_map P Q [] f all = tt
recursion_map P Q (x ∷ xs) f all = (f x all.0, recursion_map P Q xs f all.1)

some_map : {X : Type 0} (P Q : X → Type 0) (o : Option X) → ((x : X) → P x → Q x) → IfSome o P → IfSome o Q
some_map P Q (Some x) f h = f x h
some_map P Q None f h = tt

-- ---- the lists

or_false : (a b : Bool) → (a || b) ≡ false → (a ≡ false) × (b ≡ false)
or_false true b e = absurd cc
or_false false b e = (refl, e)

record Sums (lists : ChunkLists) (stream : ℕ) : Type 0 where
  segments : sum_by (λ chunk. length chunk) lists.write ≤ WRITE_SEGMENTS_MAX
  payload : stream + read_total lists.read ≤ PAYLOAD_MAX

sums_within : (lists : ChunkLists) (stream : ℕ) → sums_pass lists stream ≡ false → Sums lists stream
sums_within lists stream e =
    let o = or_false (ltb WRITE_SEGMENTS_MAX (sum_by (λ chunk. length chunk) lists.write)) (ltb PAYLOAD_MAX (stream + read_total lists.read)) e in
    record { segments = ltb-false _ _ o.0; payload = ltb-false _ _ o.1 }

within_sums : (lists : ChunkLists) (stream : ℕ) → sum_by (λ chunk. length chunk) lists.write ≤ WRITE_SEGMENTS_MAX → stream + read_total lists.read ≤ PAYLOAD_MAX → sums_pass lists stream ≡ false
within_sums lists stream segments payload =
    rw (le-ltb WRITE_SEGMENTS_MAX (sum_by (λ chunk. length chunk) lists.write) segments, le-ltb PAYLOAD_MAX (stream + read_total lists.read) payload) refl

record TookLists (zero_allowed : Bool) (lists : ChunkLists) (c d : Cursor) : Type 0 where
  each : TakesAll c d (lists_items lists)
  zeros : ZeroAllowed zero_allowed lists.read
  within : sum_by (λ chunk. length chunk) lists.write ≤ WRITE_SEGMENTS_MAX → ListsWithin lists

stand_zeros : (zero_allowed : Bool) (rs : List ReadSegment) → Stand zero_allowed 0 rs → ZeroAllowed zero_allowed rs
stand_zeros true rs stand = tt
stand_zeros false rs stand = stand_apart 0 rs stand

lists_take : (zero_allowed : Bool) (c : Cursor) (x : ChunkLists × Cursor) → IsBytes c.rest → lists_at zero_allowed c ≡ Ok x → TookLists zero_allowed x.0 c x.1
unfolding lists_at
lists_take zero_allowed c x fits e =
    let read = bind_ok (read_list_at READ_SEGMENTS_MAX zero_allowed 0 c) _ x e in
    let r = read_list_take READ_SEGMENTS_MAX zero_allowed 0 c read.0 fits read.1 in
    let write = bind_ok (write_list_at WRITE_CHUNKS_MAX read.0.1) _ x read.2 in
    let w = write_list_take WRITE_CHUNKS_MAX read.0.1 write.0 r.fits write.1 in
    let reply = bind_ok (reply_chunk_at write.0.1) _ x write.2 in
    let p = reply_chunk_take write.0.1 reply.0 w.fits reply.1 in
    let lists : ChunkLists = record { read = read.0.0; write = write.0.0; reply = reply.0.0 } in
    let made : ChunkLists × Cursor = (lists, reply.0.1) in
    subst (λ (y : ChunkLists × Cursor). TookLists zero_allowed y.0 c y.1) (ok_is made x reply.2) (record {
      each = r.before (write_items write.0.0 (reply_items reply.0.0 [])) reply.0.1 (w.before (reply_items reply.0.0 []) reply.0.1 (p.before [] reply.0.1 (refl {a = reply.0.1})));
      zeros = stand_zeros zero_allowed read.0.0 r.stand;
      within = λ segments. record {
        read_segments = r.within;
        read_ends = All-from_recursion EntryEnds read.0.0 r.ends;
        one_position = (position_of 0 read.0.0, All-from_recursion (λ (s : ReadSegment). s.position ≢ 0 → s.position ≡ position_of 0 read.0.0) read.0.0 (stand_one zero_allowed 0 read.0.0 r.stand));
        write_chunks = w.within;
        chunk_segments = All-from_recursion (λ (chunk : List RdmaSegment). length chunk ≤ CHUNK_SEGMENTS_MAX) write.0.0 w.small;
        write_segments = segments;
        write_ends = All-from_recursion SegmentsEnd write.0.0 (recursion_map (AllByRecursion SegmentEnds) SegmentsEnd write.0.0 (λ ss ends. All-from_recursion SegmentEnds ss ends) w.ends);
        reply_segments = p.within;
        reply_ends = some_map (AllByRecursion SegmentEnds) SegmentsEnd reply.0.0 (λ ss ends. All-from_recursion SegmentEnds ss ends) p.ends;
      };
    })

lists_again : (zero_allowed : Bool) (lists : ChunkLists) (c after : Cursor) → ListsWithin lists → ZeroAllowed zero_allowed lists.read → TakesAll c after (lists_items lists)
    → lists_at zero_allowed c ≡ Ok (lists, after)
unfolding lists_at
lists_again zero_allowed lists c after within zeros taken =
    let one = within.one_position in
    let stand = one_stands zero_allowed 0 one.0 lists.read (λ some. absurd (some refl)) (recursion_from_All (λ (s : ReadSegment). s.position ≢ 0 → s.position ≡ one.0) lists.read one.1) zeros in
    let (d, read, behind) = read_list_again lists.read READ_SEGMENTS_MAX zero_allowed 0 (write_items lists.write (reply_items lists.reply [])) c after within.read_segments stand
    (recursion_from_All EntryEnds lists.read within.read_ends) taken in
    let ends = recursion_map SegmentsEnd (AllByRecursion SegmentEnds) lists.write (λ ss all. recursion_from_All SegmentEnds ss all) (recursion_from_All SegmentsEnd lists.write within.write_ends) in
    let (f, write, others) = write_list_again lists.write WRITE_CHUNKS_MAX (reply_items lists.reply []) d after within.write_chunks (recursion_from_All (λ (chunk : List RdmaSegment). length chunk ≤ CHUNK_SEGMENTS_MAX) lists.write within.chunk_segments) ends behind in
    let (g, reply, last) = reply_chunk_again lists.reply [] f after within.reply_segments
    (some_map SegmentsEnd (AllByRecursion SegmentEnds) lists.reply (λ ss all. recursion_from_All SegmentEnds ss all) within.reply_ends) others in
    rw (read, write, reply) (ap (λ (m : Cursor). Ok (lists, m)) last)

-- ---- the message

abbrev good : {A : Type 0} → A → Result A HeaderFault
good x = Ok x

good_is : {A : Type 0} (x y : A) → good x ≡ good y → x ≡ y
good_is x y e = cc

abbrev some : {A : Type 0} → A → Option A
some x = Some x

some_is : {A : Type 0} (x y : A) → some x ≡ some y → x ≡ y
some_is x y e = cc

-- a header by its parts
abbrev header : ℕ → ℕ → Body → Header
header xid credit body = record { xid = xid; credit = credit; body = body }

-- what was taken as the items of a body from the front on encodes the header
record Encoded (h : Header) (bytes stream : List ℕ) : Type 0 where
  fits : HeaderFits h
  parts : bytes ≡ header_encoding h ++ stream

encoded_by : (h : Header) (bytes : List ℕ) (after : Cursor) → TakesAll (standing 0 bytes) after (body_items h.xid h.credit h.body)
    → Encoded h bytes after.rest × (after.place ≡ length (header_encoding h))
encoded_by h bytes after taken =
    let is = body_items h.xid h.credit h.body in
    let b = each_between is (standing 0 bytes) after taken in
    let p = plain_encoded is b.bytes (plain_body h.xid h.credit h.body) b.reads in
    (record { fits = p.1; parts = b.rest ∙ ap (λ (x : List ℕ). x ++ after.rest) p.0 }, omega (arith, b.place, ap length p.0))

ended : (rest : List ℕ) → ltb 0 (length rest) ≡ false → rest ≡ []
ended rest e = nil_from_length rest (omega (arith, ltb-false 0 (length rest) e))

-- the fixed words of a message are these, with this body's items after them
abbrev Front : List ℕ → ℕ → ℕ → Type 0
Front bytes version kind = (16 ≤ length bytes) × IsBytes bytes × (word_at 4 bytes ≡ version) × (word_at 12 bytes ≡ kind)

front_items : (bytes : List ℕ) (version kind : ℕ) (more : List Item) (after : Cursor) → Front bytes version kind → TakesAll (standing 16 (drop 16 bytes)) after more
    → TakesAll (standing 0 bytes) after (fixed_items (word_at 0 bytes) version (word_at 8 bytes) kind more)
front_items bytes version kind more after f others =
    let there = fixed_there bytes more after f.0 f.1 others in
    let by_version = subst (λ (v : ℕ). TakesAll (standing 0 bytes) after (fixed_items (word_at 0 bytes) v (word_at 8 bytes) (word_at 12 bytes) more)) f.2 there in
    subst (λ (k : ℕ). TakesAll (standing 0 bytes) after (fixed_items (word_at 0 bytes) version (word_at 8 bytes) k more)) f.3 by_version

abbrev in_message : List ℕ → Body → Header
in_message bytes body = header (word_at 0 bytes) (word_at 8 bytes) body

msg_take : (bytes : List ℕ) (body : Body) → Front bytes VERSION MSG → msg_at (standing 16 (drop 16 bytes)) ≡ Ok body → IsMessage (in_message bytes body) bytes
unfolding msg_at
msg_take bytes body f e =
    let lists = bind_ok (lists_at false (standing 16 (drop 16 bytes))) _ body e in
    let l = lists.0.0 in
    let after = lists.0.1 in
    let t = lists_take false (standing 16 (drop 16 bytes)) lists.0 (IsBytes_drop 16 bytes f.1) lists.1 in
    elim (chosen (sums_pass l (length after.rest)) (Err after.place) (Ok (Msg l after.place)) (Ok body) lists.2) [
      | inl above ↦ absurd (let wrong : Err after.place ≡ done body = above.1 in cc)
      | inr within ↦
          let sums = sums_within l (length after.rest) within.0 in
          let made = Msg l after.place in
          let s = encoded_by (in_message bytes made) bytes after (front_items bytes VERSION MSG (lists_items l) after f t.each) in
          subst (λ (b : Body). IsMessage (in_message bytes b) bytes) (ok_is made body within.1) (record {
            stream = after.rest;
            parts = s.0.parts;
            fits = s.0.fits;
            can = (t.within sums.segments, All-from_recursion (λ (r : ReadSegment). r.position ≢ 0) l.read t.zeros, sums.payload);
            place = s.1;
          })
    ]

nomsg_take : (bytes : List ℕ) (body : Body) → Front bytes VERSION NOMSG → nomsg_at (standing 16 (drop 16 bytes)) ≡ Ok body → IsMessage (in_message bytes body) bytes
unfolding nomsg_at
nomsg_take bytes body f e =
    let lists = bind_ok (lists_at true (standing 16 (drop 16 bytes))) _ body e in
    let l = lists.0.0 in
    let after = lists.0.1 in
    let t = lists_take true (standing 16 (drop 16 bytes)) lists.0 (IsBytes_drop 16 bytes f.1) lists.1 in
    elim (chosen (sums_pass l 0 || ltb 0 (length after.rest)) (Err after.place) (Ok (Nomsg l)) (Ok body) lists.2) [
      | inl above ↦ absurd (let wrong : Err after.place ≡ done body = above.1 in cc)
      | inr within ↦
          let both = or_false (sums_pass l 0) (ltb 0 (length after.rest)) within.0 in
          let sums = sums_within l 0 both.0 in
          let made = Nomsg l in
          let s = encoded_by (in_message bytes made) bytes after (front_items bytes VERSION NOMSG (lists_items l) after f t.each) in
          subst (λ (b : Body). IsMessage (in_message bytes b) bytes) (ok_is made body within.1) (record {
            stream = after.rest;
            parts = s.0.parts;
            fits = s.0.fits;
            can = (ended after.rest both.1, t.within sums.segments, omega (arith, sums.payload));
            place = tt;
          })
    ]

in_lists_ok : (r : Result Body ℕ) (body : Body) → in_lists r ≡ Ok body → r ≡ Ok body
in_lists_ok (Ok b) body e = let is : b ≡ body = cc in ap Ok is
in_lists_ok (Err at) body e = absurd cc

version1_take : (bytes : List ℕ) (body : Body) (kind : ℕ) → Front bytes VERSION kind → version1_of kind bytes ≡ Ok body → IsMessage (in_message bytes body) bytes
unfolding version1_of
version1_take bytes body kind f e =
    let c = standing 16 (drop 16 bytes) in
    let other : Result Body HeaderFault = cond (eqb kind NOMSG) (in_lists (nomsg_at c)) (Err (faults.Kind kind)) in
    elim (chosen (eqb kind MSG) (in_lists (msg_at c)) other (Ok body) e) [
      | inl msg ↦
          let is = eqb-true kind MSG msg.0 in
          msg_take bytes body (f.0, f.1, f.2, f.3 ∙ is) (in_lists_ok (msg_at c) body msg.1)
      | inr others ↦
          elim (chosen (eqb kind NOMSG) (in_lists (nomsg_at c)) (Err (faults.Kind kind)) (Ok body) others.1) [
            | inl nomsg ↦
                let is = eqb-true kind NOMSG nomsg.0 in
                nomsg_take bytes body (f.0, f.1, f.2, f.3 ∙ is) (in_lists_ok (nomsg_at c) body nomsg.1)
            | inr neither ↦ absurd (let wrong : Err (faults.Kind kind) ≡ good body = neither.1 in cc)
          ]
    ]

and_true : (a b : Bool) → (a && b) ≡ true → (a ≡ true) × (b ≡ true)
and_true true b e = (refl, e)
and_true false b e = absurd cc

-- a complete error message that was read
error_take : (bytes : List ℕ) (body : Body) → IsBytes bytes → word_at 12 bytes ≡ ERROR → error_of bytes ≡ Some body → IsMessage (in_message bytes body) bytes
error_take bytes body fits kind e =
    let vers = ErrVers (word_at 4 bytes) (word_at 20 bytes) (word_at 24 bytes) in
    let chunk = ErrChunk (word_at 4 bytes) in
    let is_vers = (eqb (length bytes) 28) && (eqb (word_at 16 bytes) ERR_VERS) in
    let is_chunk = (eqb (length bytes) 20) && (eqb (word_at 16 bytes) ERR_CHUNK) in
    let other : Option Body = cond is_chunk (Some chunk) None in
    elim (chosen is_vers (Some vers) other (Some body) e) [
      | inl way ↦
          let both = and_true (eqb (length bytes) 28) (eqb (word_at 16 bytes) ERR_VERS) way.0 in
          let len : length bytes ≡ 28 = eqb-true _ _ both.0 in
          let code : word_at 16 bytes ≡ ERR_VERS = eqb-true _ _ both.1 in
          let coded = subst (λ (n : ℕ). Takes (standing 16 (drop 16 bytes)) (standing 20 (drop 20 bytes)) (Unsigned n)) code (word_there bytes 16 (omega arith) fits) in
          let after = standing 28 (drop 28 bytes) in
          let taken : TakesAll (standing 16 (drop 16 bytes)) after (Unsigned ERR_VERS ∷ (Unsigned (word_at 20 bytes) ∷ (Unsigned (word_at 24 bytes) ∷ []))) =
          (standing 20 (drop 20 bytes), coded, (standing 24 (drop 24 bytes), word_there bytes 20 (omega arith) fits, (after, word_there bytes 24 (omega arith) fits, refl))) in
          let s = encoded_by (in_message bytes vers) bytes after (front_items bytes (word_at 4 bytes) ERROR (Unsigned ERR_VERS ∷ (Unsigned (word_at 20 bytes) ∷ (Unsigned (word_at 24 bytes) ∷ []))) after (omega arith, fits, refl, kind) taken) in
          subst (λ (b : Body). IsMessage (in_message bytes b) bytes) (some_is vers body way.1)
          (record { stream = after.rest; parts = s.0.parts; fits = s.0.fits; can = drop_all 28 bytes (omega arith); place = tt })
      | inr way ↦
          elim (chosen is_chunk (Some chunk) None (Some body) way.1) [
            | inl yes_chunk ↦
                let both = and_true (eqb (length bytes) 20) (eqb (word_at 16 bytes) ERR_CHUNK) yes_chunk.0 in
                let len : length bytes ≡ 20 = eqb-true _ _ both.0 in
                let code : word_at 16 bytes ≡ ERR_CHUNK = eqb-true _ _ both.1 in
                let after = standing 20 (drop 20 bytes) in
                let coded = subst (λ (n : ℕ). Takes (standing 16 (drop 16 bytes)) after (Unsigned n)) code (word_there bytes 16 (omega arith) fits) in
                let taken : TakesAll (standing 16 (drop 16 bytes)) after (Unsigned ERR_CHUNK ∷ []) = (after, coded, refl) in
                let s = encoded_by (in_message bytes chunk) bytes after (front_items bytes (word_at 4 bytes) ERROR (Unsigned ERR_CHUNK ∷ []) after (omega arith, fits, refl, kind) taken) in
                subst (λ (b : Body). IsMessage (in_message bytes b) bytes) (some_is chunk body yes_chunk.1)
                (record { stream = after.rest; parts = s.0.parts; fits = s.0.fits; can = drop_all 20 bytes (omega arith); place = tt })
            | inr neither ↦ absurd (let wrong : None ≡ some body = neither.1 in cc)
          ]
    ]

body_cases : (o : Option Body) (version kind : ℕ) (bytes : List ℕ) (body : Body) → body_by o version kind bytes ≡ Ok body
    → (o ≡ Some body) ⊎ ((version ≡ VERSION) × (version1_of kind bytes ≡ Ok body))
unfolding body_by
body_cases (Some b) version kind bytes body e = let is : b ≡ body = cc in inl (ap Some is)
body_cases None version kind bytes body e =
    elim (chosen (eqb version VERSION) (version1_of kind bytes) (Err (faults.Version version)) (Ok body) e) [
      | inl one ↦ inr (eqb-true version VERSION one.0, one.1)
      | inr other ↦ absurd (let wrong : Err (faults.Version version) ≡ good body = other.1 in cc)
    ]

header_by_ok : (xid credit : ℕ) (r : Result Body HeaderFault) (h : Header) → header_by xid credit r ≡ Ok h → (body : Body) × (r ≡ Ok body) × (header xid credit body ≡ h)
header_by_ok xid credit (Ok body) h e = (body, refl, good_is (header xid credit body) h e)
header_by_ok xid credit (Err fault) h e = absurd cc

body_take : (bytes : List ℕ) (body : Body) → IsBytes bytes → 16 ≤ length bytes
    → (error_by (word_at 12 bytes) bytes ≡ Some body) ⊎ ((word_at 4 bytes ≡ VERSION) × (version1_of (word_at 12 bytes) bytes ≡ Ok body)) → IsMessage (in_message bytes body) bytes
body_take bytes body fits long (inl error) =
    elim (chosen (eqb (word_at 12 bytes) ERROR) (error_of bytes) None (Some body) error) [
      | inl is ↦ error_take bytes body fits (eqb-true (word_at 12 bytes) ERROR is.0) is.1
      | inr not ↦ absurd (let wrong : None ≡ some body = not.1 in cc)
    ]
body_take bytes body fits long (inr one) = version1_take bytes body (word_at 12 bytes) (long, fits, one.0, refl) one.1

-- the header that is read is the message's
pub header_take : (bytes : List ℕ) (h : Header) → IsBytes bytes → header_of bytes ≡ Ok h → IsMessage h bytes
unfolding header_of
header_take bytes h fits e =
    let kind = word_at 12 bytes in
    let version = word_at 4 bytes in
    let by = error_by kind bytes in
    let read = header_by (word_at 0 bytes) (word_at 8 bytes) (body_by by version kind bytes) in
    elim (chosen (ltb (length bytes) FIXED_LEN) (Err faults.Short) read (Ok h) e) [
      | inl short ↦ absurd (let wrong : Err faults.Short ≡ good h = short.1 in cc)
      | inr long ↦
          let le : 16 ≤ length bytes = ltb-false (length bytes) FIXED_LEN long.0 in
          let b = header_by_ok (word_at 0 bytes) (word_at 8 bytes) (body_by by version kind bytes) h long.1 in
          subst (λ (x : Header). IsMessage x bytes) b.2 (body_take bytes b.0 fits le (body_cases by version kind bytes b.0 b.1))
    ]

-- ---- what is encoded is read

-- an encoded header's items are taken from the front on
encoding_taken : (h : Header) (bytes stream : List ℕ) → HeaderFits h → bytes ≡ header_encoding h ++ stream
    → TakesAll (standing 0 bytes) (standing (0 + length (header_encoding h)) stream) (body_items h.xid h.credit h.body)
encoding_taken h bytes stream fits parts =
    each_takes (body_items h.xid h.credit h.body) (header_encoding h) stream (standing 0 bytes) (encodings_read (body_items h.xid h.credit h.body) fits) parts

-- the answer for a message whose fixed words are these
answer : (bytes : List ℕ) (xid credit : ℕ) (body : Body) → 16 ≤ length bytes → word_at 0 bytes ≡ xid → word_at 8 bytes ≡ credit
    → body_by (error_by (word_at 12 bytes) bytes) (word_at 4 bytes) (word_at 12 bytes) bytes ≡ Ok body → header_of bytes ≡ Ok (header xid credit body)
unfolding header_of
answer bytes xid credit body long x c is = rw (le-ltb (length bytes) FIXED_LEN long, is, x, c) refl

error_length : (xid version credit low high : ℕ) → length (header_encoding (header xid credit (ErrVers version low high))) ≡ 28
unfolding word
error_length xid version credit low high = refl

chunk_length : (xid version credit : ℕ) → length (header_encoding (header xid credit (ErrChunk version))) ≡ 20
unfolding word
chunk_length xid version credit = refl

whole_is : (encoded bytes stream : List ℕ) → bytes ≡ encoded ++ stream → stream ≡ [] → bytes ≡ encoded
whole_is encoded bytes stream parts none = parts ∙ ap (λ (r : List ℕ). encoded ++ r) none ∙ append-nil encoded

pub message_is_read : (h : Header) (bytes : List ℕ) → IsMessage h bytes → header_of bytes ≡ Ok h
unfolding body_by version1_of msg_at nomsg_at
message_is_read h bytes m = by_body h.xid h.credit h.body bytes m.stream m.fits m.parts m.can m.place
  where
    by_body : (xid credit : ℕ) (body : Body) (bytes stream : List ℕ) → HeaderFits (header xid credit body) → bytes ≡ header_encoding (header xid credit body) ++ stream
        → CanRead body stream → StreamAt body (length (header_encoding (header xid credit body)))
        → header_of bytes ≡ Ok (header xid credit body)
    by_body xid credit (Msg lists stream_at) bytes stream fits parts (within, apart, payload) place =
        let h = header xid credit (Msg lists stream_at) in
        let after = standing (0 + length (header_encoding h)) stream in
        let f = fixed_taken bytes xid VERSION credit MSG (lists_items lists) after (encoding_taken h bytes stream fits parts) in
        let read = lists_again false lists (standing 16 (drop 16 bytes)) after within (recursion_from_All (λ (r : ReadSegment). r.position ≢ 0) lists.read apart) f.behind in
        let at : 0 + length (header_encoding h) ≡ stream_at = omega arith in
        answer bytes xid credit (Msg lists stream_at) f.long f.xid_is f.credit_is
        (rw (f.kind_is, f.version_is, read, within_sums lists (length stream) within.write_segments payload) (ap (λ (p : ℕ). Ok (Msg lists p)) at))
    by_body xid credit (Nomsg lists) bytes stream fits parts (none, within, payload) place =
        let h = header xid credit (Nomsg lists) in
        let after = standing (0 + length (header_encoding h)) [] in
        let whole = whole_is (header_encoding h) bytes stream parts none in
        let f = fixed_taken bytes xid VERSION credit NOMSG (lists_items lists) after (encoding_taken h bytes [] fits (whole ∙ sym (append-nil (header_encoding h)))) in
        let read = lists_again true lists (standing 16 (drop 16 bytes)) after within tt f.behind in
        answer bytes xid credit (Nomsg lists) f.long f.xid_is f.credit_is
        (rw (f.kind_is, f.version_is, read, within_sums lists 0 within.write_segments (omega (arith, payload))) refl)
    by_body xid credit (ErrVers version low high) bytes stream fits parts none place =
        let h = header xid credit (ErrVers version low high) in
        let after = standing (0 + length (header_encoding h)) [] in
        let whole = whole_is (header_encoding h) bytes stream parts none in
        let f = fixed_taken bytes xid version credit ERROR (Unsigned ERR_VERS ∷ (Unsigned low ∷ (Unsigned high ∷ []))) after (encoding_taken h bytes [] fits (whole ∙ sym (append-nil (header_encoding h)))) in
        let (a, ta, (b, tb, (d, td, last))) = f.behind in
        let wa = word_taken bytes 16 a ERR_VERS ta in
        let wb = word_taken bytes 20 b low (subst (λ (x : Cursor). Takes x b (Unsigned low)) wa.2 tb) in
        let wd = word_taken bytes 24 d high (subst (λ (x : Cursor). Takes x d (Unsigned high)) wb.2 td) in
        let len : length bytes ≡ 28 = ap length whole ∙ error_length xid version credit low high in
        answer bytes xid credit (ErrVers version low high) f.long f.xid_is f.credit_is
        (rw (f.kind_is, len, wa.1, f.version_is, wb.1, wd.1) refl)
    by_body xid credit (ErrChunk version) bytes stream fits parts none place =
        let h = header xid credit (ErrChunk version) in
        let after = standing (0 + length (header_encoding h)) [] in
        let whole = whole_is (header_encoding h) bytes stream parts none in
        let f = fixed_taken bytes xid version credit ERROR (Unsigned ERR_CHUNK ∷ []) after (encoding_taken h bytes [] fits (whole ∙ sym (append-nil (header_encoding h)))) in
        let (a, ta, last) = f.behind in
        let wa = word_taken bytes 16 a ERR_CHUNK ta in
        let len : length bytes ≡ 20 = ap length whole ∙ chunk_length xid version credit in
        answer bytes xid credit (ErrChunk version) f.long f.xid_is f.credit_is
        (rw (f.kind_is, len, wa.1, f.version_is) refl)

-- a message that is read is bad if and only if it is RDMA_NOMSG and has no stream
pub message_is_bad : (h : Header) (bytes : List ℕ) → IsMessage h bytes → HeaderBad bytes ↔ HasNoStream h.body
message_is_bad h bytes m =
    subst (λ (r : Result Header HeaderFault). IsBad r ↔ HasNoStream h.body) (sym (message_is_read h bytes m)) (λ bad. bad, λ lacks. lacks)

pub header_is_found : (bytes : List ℕ) (r : Result Header HeaderFault) → IsBytes bytes → r ≡ header_of bytes → IfOk r (λ h. IsMessage h bytes)
header_is_found bytes (Ok h) fits is = header_take bytes h fits (sym is)
header_is_found bytes (Err fault) fits is = tt

again_encoded : (xid credit : ℕ) (body : Body) (len : ℕ) → body_items xid credit (body_again body len) ≡ body_items xid credit body
again_encoded xid credit (Msg lists stream_at) len = refl
again_encoded xid credit (Nomsg lists) len = refl
again_encoded xid credit (ErrVers version low high) len = refl
again_encoded xid credit (ErrChunk version) len = refl

again_can : (body : Body) (len : ℕ) (stream : List ℕ) → CanRead body stream → CanRead (body_again body len) stream
again_can (Msg lists stream_at) len stream can = can
again_can (Nomsg lists) len stream can = can
again_can (ErrVers version low high) len stream can = can
again_can (ErrChunk version) len stream can = can

again_at : (body : Body) (len at : ℕ) → len ≡ at → StreamAt (body_again body len) at
again_at (Msg lists stream_at) len at e = e
again_at (Nomsg lists) len at e = tt
again_at (ErrVers version low high) len at e = tt
again_at (ErrChunk version) len at e = tt

-- what is written is read again
pub header_written : (h : Header) (stream : List ℕ) → HeaderFits h → CanRead h.body stream → header_of (header_encoding h ++ stream) ≡ Ok (header_again h)
header_written h stream fits can =
    let len = length (header_encoding h) in
    let same : body_items h.xid h.credit (body_again h.body len) ≡ body_items h.xid h.credit h.body = again_encoded h.xid h.credit h.body len in
    let encoded : header_encoding (header_again h) ≡ header_encoding h = ap encodings same in
    message_is_read (header_again h) (header_encoding h ++ stream) (record {
      stream = stream;
      parts = ap (λ (b : List ℕ). b ++ stream) (sym encoded);
      fits = subst AllFit (sym same) fits;
      can = again_can h.body len stream can;
      place = again_at h.body len (length (header_encoding (header_again h))) (ap length (sym encoded));
    })
