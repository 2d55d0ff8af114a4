-- The message of a call has at most one read chunk, however it is read: so a server needs at most one STag for it.
use Rattle.std.proofs.Common.{◌≡◌, ◌≢◌, ℕ, ◌+◌, ◌^◌, ◌≤◌, ◌<◌, Bool, true, false, cond, not, eqb, List, [], ◌∷◌, ◌++◌, length, take, drop, Option, Some, None, Ok, refl, sym, ap, subst, ◌∙◌, arith, append_assoc, ◌⊎◌, inl, inr}
use Rattle.std.specs.List.{AllByRecursion, filter}
use Rattle.std.proofs.lemmas.Bool.{eqb-true, eq-eqb}
use Rattle.std.proofs.lemmas.List.{take_at, drop_at}
use Rattle.std.proofs.lemmas.List.Elements.{recursion_from_All}
use Rattle.nr_xdr.specs.Item.{Item, IsBytes, word, hyper, word_of}
use Rattle.nr_xdr.specs.Items.{AllFit, encodings}
use Rattle.nr_xdr.proofs.WordBytes.{length_word, word_of_word, length_hyper}
use Rattle.nr_header.specs.declared.header.ReadSegment.{ReadSegment}
use Rattle.nr_header.specs.declared.header.ChunkLists.{ChunkLists}
use Rattle.nr_header.specs.declared.header.Body.{Body}
use Rattle.nr_header.specs.declared.header.Body.TheVariants.{Msg, Nomsg, ErrVers, ErrChunk}
use Rattle.nr_header.specs.declared.header.Header.{Header}
use Rattle.nr_header.specs.Header.{read_items, write_items, reply_items, body_items, header_encoding}
use Rattle.nr_header.specs.WithinLimits.{IsMessage, CanRead}
use Rattle.nr_header.specs.Reading.{header_of}
use Rattle.nr_header.proofs.Messages.{header_take}
use Rattle.nr_reduce.specs.declared.outline.Plan.{Plan}
use Rattle.nr_reduce.specs.Plans.{entries_from, read_list, read_stag, lists_of, body_by, call_message}
use Rattle.nr_reduce.specs.Chunks.{positions}
use Rattle.nr_reduce.specs.ServerReads.{chunks_of}

abbrev pub HasOneChunk : Body → Type 0
HasOneChunk (Msg lists at) = length (chunks_of lists) ≤ 1
HasOneChunk (Nomsg lists) = length (chunks_of lists) ≤ 1
HasOneChunk (ErrVers version low high) = Unit {0}
HasOneChunk (ErrChunk version) = Unit {0}

abbrev pub OneChunk : List ℕ → Type 0
OneChunk message = (h : Header) → IsBytes message → header_of message ≡ Ok h → HasOneChunk h.body

-- ---- Entries of one position

abbrev IsAt : ℕ → ReadSegment → Type 0
IsAt p r = r.position ≡ p

all_at : (p : ℕ) (read : List ReadSegment) → AllByRecursion (IsAt p) read → (positions read ≡ []) ⊎ (positions read ≡ p ∷ [])
all_at p [] h = inl refl
all_at p (r ∷ read) h = inr (by (all_at p read h.1))
  where
    by : (positions read ≡ []) ⊎ (positions read ≡ p ∷ []) → r.position ∷ filter (λ q. not (eqb q r.position)) (positions read) ≡ p ∷ []
    by (inl e) = ap (λ (qs : List ℕ). r.position ∷ filter (λ q. not (eqb q r.position)) qs) e ∙ ap (λ (q : ℕ). q ∷ []) h.0
    by (inr e) =
        ap (λ (qs : List ℕ). r.position ∷ filter (λ q. not (eqb q r.position)) qs) e
        ∙ ap (λ (b : Bool). r.position ∷ cond (not b) (p ∷ []) []) (eq-eqb p r.position (sym h.0)) ∙ ap (λ (q : ℕ). q ∷ []) h.0

at_most_one_lem : (f : ℕ → Bool) (p : ℕ) (qs : List ℕ) → (qs ≡ []) ⊎ (qs ≡ p ∷ []) → length (filter f qs) ≤ 1
at_most_one_lem f p qs (inl e) = subst (λ (xs : List ℕ). length (filter f xs) ≤ 1) (sym e) (omega arith)
at_most_one_lem f p qs (inr e) = subst (λ (xs : List ℕ). length (filter f xs) ≤ 1) (sym e) (by (f p))
  where
    by : (b : Bool) → length (cond b (p ∷ []) []) ≤ 1
    by true = omega arith
    by false = omega arith

few_chunks : (p : ℕ) (lists : ChunkLists) → AllByRecursion (IsAt p) lists.read → length (chunks_of lists) ≤ 1
few_chunks p lists h = at_most_one_lem _ p (positions lists.read) (all_at p lists.read h)

the_other : (p : ℕ) (read : List ReadSegment) → AllByRecursion (λ (r : ReadSegment). r.position ≢ 0) read → AllByRecursion (λ (r : ReadSegment). r.position ≢ 0 → r.position ≡ p) read → AllByRecursion (IsAt p) read
the_other p [] some one = tt
the_other p (r ∷ read) some one = (one.0 some.0, the_other p read some.1 one.1)

-- ---- What is read of an encoding

pub fronts : (a b x y : List ℕ) (n : ℕ) → length a ≡ n → length b ≡ n → a ++ x ≡ b ++ y → (a ≡ b) × (x ≡ y)
fronts a b x y n as_long too e = (
  sym (take_at a x n as_long) ∙ ap (λ (zs : List ℕ). take n zs) e ∙ take_at b y n too,
  sym (drop_at a x n as_long) ∙ ap (λ (zs : List ℕ). drop n zs) e ∙ drop_at b y n too,
)

after_word : (a b : ℕ) (x y more others : List ℕ) → (word a ++ x) ++ more ≡ (word b ++ y) ++ others → (word a ≡ word b) × (x ++ more ≡ y ++ others)
after_word a b x y more others e =
    fronts (word a) (word b) (x ++ more) (y ++ others) 4 (length_word a) (length_word b) (sym (append_assoc (word a) x more) ∙ e ∙ append_assoc (word b) y others)

after_hyper : (a b : ℕ) (x y more others : List ℕ) → (hyper a ++ x) ++ more ≡ (hyper b ++ y) ++ others → x ++ more ≡ y ++ others
after_hyper a b x y more others e =
    (fronts (hyper a) (hyper b) (x ++ more) (y ++ others) 8 (length_hyper a) (length_hyper b) (sym (append_assoc (hyper a) x more) ∙ e ∙ append_assoc (hyper b) y others)).1

same_word : (a b : ℕ) → a < 2 ^ 32 → b < 2 ^ 32 → word a ≡ word b → a ≡ b
same_word a b small too e = sym (word_of_word a small) ∙ ap word_of e ∙ word_of_word b too

-- entries that are encoded at position 0 are read so
zero_positions : (handle offset : ℕ) (ns : List ℕ) (more others : List Item) (read : List ReadSegment) (x y : List ℕ) → AllFit (read_items read others)
    → encodings (read_items (entries_from 0 handle offset ns) more) ++ x ≡ encodings (read_items read others) ++ y → AllByRecursion (IsAt 0) read
zero_positions handle offset ns more others [] x y fits e = tt
zero_positions handle offset [] more others (r ∷ read) x y fits e = absurd (let wrong = same_word 0 1 (omega arith) (omega arith) (after_word 0 1 _ _ x y e).0 in omega (arith, wrong))
zero_positions handle offset (n ∷ ns) more others (r ∷ read) x y fits e =
    let a = after_word 1 1 _ _ x y e in
    let b = after_word 0 r.position _ _ x y a.1 in
    let c = after_word handle r.handle _ _ x y b.1 in
    let d = after_word n r.length _ _ x y c.1 in
    let rest = after_hyper offset r.offset _ _ x y d.1 in
    (sym (same_word 0 r.position (omega arith) fits.1.0 b.0), zero_positions handle (offset + n) ns more others read x y fits.1.1.1.1.1 rest)

after_fixed : (a b c d e f g h : ℕ) (x y more others : List ℕ) → (word a ++ (word b ++ (word c ++ (word d ++ x)))) ++ more ≡ (word e ++ (word f ++ (word g ++ (word h ++ y)))) ++ others
    → (word d ≡ word h) × (x ++ more ≡ y ++ others)
after_fixed a b c d e f g h x y more others is =
    let one = after_word a e _ _ more others is in
    let two = after_word b f _ _ more others one.1 in
    let three = after_word c g _ _ more others two.1 in
    after_word d h x y more others three.1

-- ---- A message

msg_one : (message : List ℕ) (h : Header) (stream : List ℕ) (lists : ChunkLists) (at : ℕ) → CanRead (Msg lists at) stream → length (chunks_of lists) ≤ 1
msg_one message h stream lists at can =
    let one = can.0.one_position in
    few_chunks one.0 lists (the_other one.0 lists.read (recursion_from_All _ lists.read can.1) (recursion_from_All _ lists.read one.1))

of_msg : (xid credit : ℕ) (ls : ChunkLists) (inline message : List ℕ) (h : Header) → message ≡ header_encoding (record { xid = xid; credit = credit; body = Msg ls 0 }) ++ inline → IsMessage h message → HasOneChunk h.body
of_msg xid credit ls inline message h is m = by h.body m.parts m.can
  where
    by : (b : Body) → message ≡ encodings (body_items h.xid h.credit b) ++ m.stream → CanRead b m.stream → HasOneChunk b
    by (Msg lists at) parts can = msg_one message h m.stream lists at can
    by (Nomsg lists) parts can =
        absurd (let wrong = same_word 0 1 (omega arith) (omega arith) (after_fixed xid 1 credit 0 h.xid 1 h.credit 1 _ _ inline m.stream (sym is ∙ parts)).0 in omega (arith, wrong))
    by (ErrVers version low high) parts can = tt
    by (ErrChunk version) parts can = tt

of_nomsg : (xid credit handle : ℕ) (ns : List ℕ) (ls : ChunkLists) (inline message : List ℕ) (h : Header) → ls.read ≡ entries_from 0 handle 0 ns → message ≡ header_encoding (record { xid = xid; credit = credit; body = Nomsg ls }) ++ inline → IsMessage h message → HasOneChunk h.body
of_nomsg xid credit handle ns ls inline message h read is m = by h.body m.fits m.parts m.can
  where
    by : (b : Body) → AllFit (body_items h.xid h.credit b) → message ≡ encodings (body_items h.xid h.credit b) ++ m.stream → CanRead b m.stream → HasOneChunk b
    by (Msg lists at) fits parts can = msg_one message h m.stream lists at can
    by (Nomsg lists) fits parts can =
        let rest = (after_fixed xid 1 credit 1 h.xid 1 h.credit 1 _ _ inline m.stream (sym is ∙ parts)).1 in
        few_chunks 0 lists
        (zero_positions handle 0 ns (write_items ls.write (reply_items ls.reply [])) (write_items lists.write (reply_items lists.reply [])) lists.read inline m.stream fits.1.1.1.1
        (ap (λ (rs : List ReadSegment). encodings (read_items rs (write_items ls.write (reply_items ls.reply []))) ++ inline) (sym read) ∙ rest))
    by (ErrVers version low high) fits parts can = tt
    by (ErrChunk version) fits parts can = tt

pub one_chunk : (xid credit stag : ℕ) (p : Plan) → OneChunk (call_message xid credit stag p)
unfolding call_message lists_of
one_chunk xid credit stag p h bytes is = by p.read_at refl (header_take _ h bytes is)
  where
    ls : ChunkLists
    ls = lists_of stag p

    encoded : Body → List ℕ
    encoded b = header_encoding (record { xid = xid; credit = credit; body = b }) ++ p.inline

    by_position : (position : ℕ) → p.read_at ≡ Some position → (b : Bool) → eqb position 0 ≡ b → IsMessage h (encoded (body_by p.read_at ls)) → HasOneChunk h.body
    by_position position own true zero m =
        of_nomsg xid credit (read_stag stag p) p.read ls p.inline (encoded (body_by p.read_at ls)) h
        (ap (λ (o : Option ℕ). read_list stag p o) own ∙ ap (λ (n : ℕ). entries_from n (read_stag stag p) 0 p.read) (eqb-true position 0 zero))
        (ap (λ (o : Option ℕ). encoded (body_by o ls)) own ∙ ap (λ (b : Bool). encoded (cond b (Nomsg ls) (Msg ls 0))) zero) m
    by_position position own false other m =
        of_msg xid credit ls p.inline (encoded (body_by p.read_at ls)) h
        (ap (λ (o : Option ℕ). encoded (body_by o ls)) own ∙ ap (λ (b : Bool). encoded (cond b (Nomsg ls) (Msg ls 0))) other) m

    by : (o : Option ℕ) → p.read_at ≡ o → IsMessage h (encoded (body_by p.read_at ls)) → HasOneChunk h.body
    by None own m = of_msg xid credit ls p.inline (encoded (body_by p.read_at ls)) h (ap (λ (o : Option ℕ). encoded (body_by o ls)) own) m
    by (Some position) own m = by_position position own (eqb position 0) refl m
