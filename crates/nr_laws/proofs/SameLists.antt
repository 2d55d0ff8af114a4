-- What is read of an accepted call's message has the lists of its plan.
use Rattle.std.proofs.Common.{◌≡◌, ℕ, ◌^◌, ◌<◌, List, [], ◌∷◌, ◌++◌, length, Option, None, Some, refl, sym, ap, ◌∙◌, arith, append_assoc}
use Rattle.nr_xdr.specs.Item.{Item, word, word_of, hyper, hyper_of}
use Rattle.nr_xdr.specs.Items.{AllFit, encodings}
use Rattle.nr_xdr.proofs.WordBytes.{length_word, word_of_word, length_hyper, hyper_of_hyper}
use Rattle.nr_header.specs.declared.header.RdmaSegment.{RdmaSegment}
use Rattle.nr_header.specs.declared.header.ReadSegment.{ReadSegment}
use Rattle.nr_header.specs.declared.header.ChunkLists.{ChunkLists}
use Rattle.nr_header.specs.Header.{read_items, segments_items, write_items, reply_items, lists_items}
use Rattle.nr_laws.proofs.OneChunk.{fronts}
use Rattle.nr_reduce.proofs.AnswerMessages.{segments_tail}

abbrev Fit : ℕ → Type 0
Fit n = n < 2 ^ 32

pub peel_word : (a b : ℕ) (x y more others : List ℕ) → Fit a → Fit b → (word a ++ x) ++ more ≡ (word b ++ y) ++ others → (a ≡ b) × (x ++ more ≡ y ++ others)
peel_word a b x y more others fa fb e =
    let both = fronts (word a) (word b) (x ++ more) (y ++ others) 4 (length_word a) (length_word b) (sym (append_assoc (word a) x more) ∙ e ∙ append_assoc (word b) y others) in
    (sym (word_of_word a fa) ∙ ap word_of both.0 ∙ word_of_word b fb, both.1)

peel_hyper : (a b : ℕ) (x y more others : List ℕ) → a < 2 ^ 64 → b < 2 ^ 64 → (hyper a ++ x) ++ more ≡ (hyper b ++ y) ++ others → (a ≡ b) × (x ++ more ≡ y ++ others)
peel_hyper a b x y more others fa fb e =
    let both = fronts (hyper a) (hyper b) (x ++ more) (y ++ others) 8 (length_hyper a) (length_hyper b) (sym (append_assoc (hyper a) x more) ∙ e ∙ append_assoc (hyper b) y others) in
    (sym (hyper_of_hyper a fa) ∙ ap hyper_of both.0 ∙ hyper_of_hyper b fb, both.1)

one_not_zero : {W : Type 0} (x y more others : List ℕ) → (word 1 ++ x) ++ more ≡ (word 0 ++ y) ++ others → W
one_not_zero x y more others e = absurd (let p = (peel_word 1 0 x y more others (omega arith) (omega arith) e).0 in omega (arith, p))

-- ---- Segments and lists

record SegmentsSame (ss ts : List RdmaSegment) (more mores : List Item) (x y : List ℕ) : Type 0 where
  same : ss ≡ ts
  rest : encodings more ++ x ≡ encodings mores ++ y

segments_same : (ss ts : List RdmaSegment) (more mores : List Item) (x y : List ℕ) → length ss ≡ length ts → AllFit (segments_items ss more) → AllFit (segments_items ts mores)
    → encodings (segments_items ss more) ++ x ≡ encodings (segments_items ts mores) ++ y → SegmentsSame ss ts more mores x y
segments_same [] [] more mores x y len f g e = record { same = refl; rest = e }
segments_same [] (t ∷ ts) more mores x y len f g e = absurd (omega (arith, len))
segments_same (s ∷ ss) [] more mores x y len f g e = absurd (omega (arith, len))
segments_same (s ∷ ss) (t ∷ ts) more mores x y len f g e =
    let a = peel_word s.handle t.handle _ _ x y f.0 g.0 e in
    let b = peel_word s.length t.length _ _ x y f.1.0 g.1.0 a.1 in
    let c = peel_hyper s.offset t.offset _ _ x y f.1.1.0 g.1.1.0 b.1 in
    let rest = segments_same ss ts more mores x y (omega (arith, len)) f.1.1.1 g.1.1.1 c.1 in
    record { same = (λ i. record { handle = a.0 i; length = b.0 i; offset = c.0 i } ∷ rest.same i); rest = rest.rest }

record ReadSame (rs ss : List ReadSegment) (more mores : List Item) (x y : List ℕ) : Type 0 where
  same : rs ≡ ss
  rest : encodings more ++ x ≡ encodings mores ++ y
  fits : AllFit more × AllFit mores

read_same : (rs ss : List ReadSegment) (more mores : List Item) (x y : List ℕ) → AllFit (read_items rs more) → AllFit (read_items ss mores)
    → encodings (read_items rs more) ++ x ≡ encodings (read_items ss mores) ++ y → ReadSame rs ss more mores x y
read_same [] [] more mores x y f g e = record { same = refl; rest = (peel_word 0 0 _ _ x y (omega arith) (omega arith) e).1; fits = (f.1, g.1) }
read_same [] (s ∷ ss) more mores x y f g e = one_not_zero _ _ y x (sym e)
read_same (r ∷ rs) [] more mores x y f g e = one_not_zero _ _ x y e
read_same (r ∷ rs) (s ∷ ss) more mores x y f g e =
    let a = peel_word 1 1 _ _ x y (omega arith) (omega arith) e in
    let b = peel_word r.position s.position _ _ x y f.1.0 g.1.0 a.1 in
    let c = peel_word r.handle s.handle _ _ x y f.1.1.0 g.1.1.0 b.1 in
    let d = peel_word r.length s.length _ _ x y f.1.1.1.0 g.1.1.1.0 c.1 in
    let h = peel_hyper r.offset s.offset _ _ x y f.1.1.1.1.0 g.1.1.1.1.0 d.1 in
    let rest = read_same rs ss more mores x y f.1.1.1.1.1 g.1.1.1.1.1 h.1 in
    record { same = (λ i. record { position = b.0 i; handle = c.0 i; length = d.0 i; offset = h.0 i } ∷ rest.same i); rest = rest.rest; fits = rest.fits }

record WriteSame (cs ds : List (List RdmaSegment)) (more mores : List Item) (x y : List ℕ) : Type 0 where
  same : cs ≡ ds
  rest : encodings more ++ x ≡ encodings mores ++ y
  fits : AllFit more × AllFit mores

write_same : (cs ds : List (List RdmaSegment)) (more mores : List Item) (x y : List ℕ) → AllFit (write_items cs more) → AllFit (write_items ds mores)
    → encodings (write_items cs more) ++ x ≡ encodings (write_items ds mores) ++ y → WriteSame cs ds more mores x y
write_same [] [] more mores x y f g e = record { same = refl; rest = (peel_word 0 0 _ _ x y (omega arith) (omega arith) e).1; fits = (f.1, g.1) }
write_same [] (d ∷ ds) more mores x y f g e = one_not_zero _ _ y x (sym e)
write_same (c ∷ cs) [] more mores x y f g e = one_not_zero _ _ x y e
write_same (c ∷ cs) (d ∷ ds) more mores x y f g e =
    let a = peel_word 1 1 _ _ x y (omega arith) (omega arith) e in
    let b = peel_word (length c) (length d) _ _ x y f.1.0 g.1.0 a.1 in
    let s = segments_same c d (write_items cs more) (write_items ds mores) x y b.0 f.1.1 g.1.1 b.1 in
    let rest = write_same cs ds more mores x y (segments_tail c (write_items cs more) f.1.1) (segments_tail d (write_items ds mores) g.1.1) s.rest in
    record { same = (λ i. s.same i ∷ rest.same i); rest = rest.rest; fits = rest.fits }

record ReplySame (c d : Option (List RdmaSegment)) (x y : List ℕ) : Type 0 where
  same : c ≡ d
  rest : x ≡ y

reply_same : (c d : Option (List RdmaSegment)) (x y : List ℕ) → AllFit (reply_items c []) → AllFit (reply_items d []) → encodings (reply_items c []) ++ x ≡ encodings (reply_items d []) ++ y → ReplySame c d x y
reply_same None None x y f g e = record { same = refl; rest = (peel_word 0 0 [] [] x y (omega arith) (omega arith) e).1 }
reply_same None (Some d) x y f g e = one_not_zero _ _ y x (sym e)
reply_same (Some c) None x y f g e = one_not_zero _ _ x y e
reply_same (Some c) (Some d) x y f g e =
    let a = peel_word 1 1 _ _ x y (omega arith) (omega arith) e in
    let b = peel_word (length c) (length d) _ _ x y f.1.0 g.1.0 a.1 in
    let s = segments_same c d [] [] x y b.0 f.1.1 g.1.1 b.1 in
    record { same = ap (λ (q : List RdmaSegment). Some q) s.same; rest = s.rest }

pub record ListsSame (l m : ChunkLists) (x y : List ℕ) : Type 0 where
  pub same : l ≡ m
  pub rest : x ≡ y

pub lists_same : (l m : ChunkLists) (x y : List ℕ) → AllFit (lists_items l) → AllFit (lists_items m) → encodings (lists_items l) ++ x ≡ encodings (lists_items m) ++ y → ListsSame l m x y
lists_same l m x y f g e =
    let r = read_same l.read m.read (write_items l.write (reply_items l.reply [])) (write_items m.write (reply_items m.reply [])) x y f g e in
    let w = write_same l.write m.write (reply_items l.reply []) (reply_items m.reply []) x y r.fits.0 r.fits.1 r.rest in
    let p = reply_same l.reply m.reply x y w.fits.0 w.fits.1 w.rest in
    record { same = λ i. record { read = r.same i; write = w.same i; reply = p.same i }; rest = p.rest }
