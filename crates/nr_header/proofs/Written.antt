-- Lists written one element after the other: what is written and what is still to be written make all of it.
use Rattle.std.proofs.Common.{◌≡◌, ℕ, ◌+◌, ◌<◌, true, List, [], ◌∷◌, ◌++◌, length, get_or, drop, refl, sym, ap, ◌∙◌, append_assoc}
use Rattle.std.proofs.lemmas.List.{drop_more}
use Rattle.nr_xdr.specs.Item.{Item, encoding}
use Rattle.nr_xdr.specs.Item.Item.{Unsigned, Boolean}
use Rattle.nr_xdr.specs.Items.{encodings}
use Rattle.nr_header.specs.declared.header.RdmaSegment.{RdmaSegment}
use Rattle.nr_header.specs.declared.header.ReadSegment.{ReadSegment}
use Rattle.nr_header.specs.declared.header.ChunkLists.{ChunkLists}
use Rattle.nr_header.specs.Header.{segment_items, entry_items, read_items, segments_items, chunk_items, write_items, reply_items, lists_items}

encodings_append : (is js : List Item) → encodings (is ++ js) ≡ encodings is ++ encodings js
encodings_append [] js = refl
encodings_append (item ∷ is) js = ap (λ (b : List ℕ). encoding item ++ b) (encodings_append is js) ∙ sym (append_assoc (encoding item) (encodings is) (encodings js))

segments_split : (ss : List RdmaSegment) (more : List Item) → segments_items ss more ≡ segments_items ss [] ++ more
segments_split [] more = refl
segments_split (s ∷ ss) more = ap (segment_items s) (segments_split ss more)

chunk_split : (chunk : List RdmaSegment) (more : List Item) → chunk_items chunk more ≡ chunk_items chunk [] ++ more
chunk_split chunk more = ap (λ (is : List Item). Unsigned (length chunk) ∷ is) (segments_split chunk more)

write_step : (chunk : List RdmaSegment) (chunks : List (List RdmaSegment)) → write_items (chunk ∷ chunks) [] ≡ (Boolean true ∷ chunk_items chunk []) ++ write_items chunks []
write_step chunk chunks = ap (λ (is : List Item). Boolean true ∷ is) (chunk_split chunk (write_items chunks []))

-- one chunk more is written
pub chunk_goes : (chunks : List (List RdmaSegment)) (i : ℕ) (chunk : List RdmaSegment) (total now after : List ℕ) → i < length chunks → chunk ≡ get_or chunks i chunk
    → now ++ encodings (write_items (drop i chunks) []) ≡ total → after ≡ now ++ encodings (Boolean true ∷ chunk_items chunk [])
    → after ++ encodings (write_items (drop (i + 1) chunks) []) ≡ total
chunk_goes chunks i chunk total now after lt is so_far e =
    let others = drop (i + 1) chunks in
    let rest = encodings (write_items others []) in
    let one = encodings (Boolean true ∷ chunk_items chunk []) in
    let left : drop i chunks ≡ chunk ∷ others = drop_more chunks i chunk lt ∙ ap (λ (k : List RdmaSegment). k ∷ others) (sym is) in
    let split : encodings (write_items (drop i chunks) []) ≡ one ++ rest =
    ap (λ (ks : List (List RdmaSegment)). encodings (write_items ks [])) left ∙ ap encodings (write_step chunk others) ∙ encodings_append (Boolean true ∷ chunk_items chunk []) (write_items others []) in
    ap (λ (b : List ℕ). b ++ rest) e ∙ append_assoc now one rest ∙ ap (λ (b : List ℕ). now ++ b) (sym split) ∙ so_far

read_split : (rs : List ReadSegment) (more : List Item) → read_items rs more ≡ read_items rs [] ++ more
read_split [] more = refl
read_split (r ∷ rs) more = ap (entry_items r) (read_split rs more)

write_split : (chunks : List (List RdmaSegment)) (more : List Item) → write_items chunks more ≡ write_items chunks [] ++ more
write_split [] more = refl
write_split (chunk ∷ chunks) more =
    ap (λ (is : List Item). Boolean true ∷ is)
    (chunk_split chunk (write_items chunks more)
    ∙ ap (λ (is : List Item). chunk_items chunk [] ++ is) (write_split chunks more)
    ∙ sym (append_assoc (chunk_items chunk []) (write_items chunks []) more)
    ∙ ap (λ (is : List Item). is ++ more) (sym (chunk_split chunk (write_items chunks []))))

-- the three lists one after the other
lists_encoded : (lists : ChunkLists) → encodings (lists_items lists) ≡ encodings (read_items lists.read []) ++ (encodings (write_items lists.write []) ++ encodings (reply_items lists.reply []))
lists_encoded lists =
    ap encodings (read_split lists.read (write_items lists.write (reply_items lists.reply [])))
    ∙ encodings_append (read_items lists.read []) (write_items lists.write (reply_items lists.reply []))
    ∙ ap (λ (b : List ℕ). encodings (read_items lists.read []) ++ b)
    (ap encodings (write_split lists.write (reply_items lists.reply [])) ∙ encodings_append (write_items lists.write []) (reply_items lists.reply []))

-- the lists are written one after the other
pub lists_put : (lists : ChunkLists) (start read write all : List ℕ) → read ≡ start ++ encodings (read_items lists.read []) → write ≡ read ++ encodings (write_items lists.write [])
    → all ≡ write ++ encodings (reply_items lists.reply []) → all ≡ start ++ encodings (lists_items lists)
lists_put lists start read write all r w p =
    let a = encodings (read_items lists.read []) in
    let b = encodings (write_items lists.write []) in
    let c = encodings (reply_items lists.reply []) in
    p ∙ ap (λ (x : List ℕ). x ++ c) (w ∙ ap (λ (x : List ℕ). x ++ b) r ∙ append_assoc start a b) ∙ append_assoc start (a ++ b) c
    ∙ ap (λ (x : List ℕ). start ++ x) (append_assoc a b c ∙ sym (lists_encoded lists))
