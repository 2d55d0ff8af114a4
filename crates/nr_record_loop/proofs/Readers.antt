-- The records of a stream that were answered.
use Rattle.std.proofs.Common.{◌≡◌, ℕ, ◌+◌, ◌*◌, ◌^◌, ◌<◌, ◌≤◌, true, List, [], ◌∷◌, ◌++◌, length, take, Option, None, refl, sym, ap, ◌∙◌, subst, append_assoc, append-nil, arith}
use Rattle.std.specs.List.{AllByRecursion}
use Rattle.std.proofs.lemmas.List.{length-append, take_at}
use Rattle.std.proofs.Math.Option.{none-ne-some, some-injective}
use Rattle.nr_xdr.specs.Item.{bit}
use Rattle.nr_xdr.proofs.WordBytes.{length_word}
use Rattle.nr_record.specs.declared.fault.RecordFault.{RecordFault}
use Rattle.nr_record.specs.Records.{Cut, Fits, content, contents, encoding, encodings, fragment, fragments, header}
use Rattle.nr_record.specs.RecordsState.{IsAt, IsState, RecordsState, RepresentsStream, rest_in}
use Rattle.nr_record.proofs.Begun.{all_fit}
use Rattle.nr_record.proofs.Lists.{all_end, encodings_end}
use Rattle.nr_record.proofs.Unique.{begun_none, one_encoding}
use Rattle.nr_record_loop.specs.Connections.{BeginsAt, Exchange, calls}
use Rattle.nr_record_loop.specs.private.Steps.{HasRead}
use Rattle.nr_record_loop.proofs.Exchanges.{all_after, calls_end, contents_end, length_calls, length_contents, length_end}

-- A stream begins with these encodings, and is these others and a rest: the first are the first of the others.
pub record GoesOnBy (done cuts : List Cut) (back rest : List ℕ) : Type 0 where
  pub more : List Cut
  pub cuts_are : cuts ≡ done ++ more
  pub back_is : back ≡ encodings more ++ rest

front_of : (done cuts : List Cut) (back rest : List ℕ) → AllByRecursion Fits done → AllByRecursion Fits cuts → length done ≤ length cuts
    → encodings done ++ back ≡ encodings cuts ++ rest → GoesOnBy done cuts back rest
front_of [] cuts back rest p q le e = record { more = cuts; cuts_are = refl; back_is = e }
front_of (d ∷ done) [] back rest p q le e = absurd (omega (arith, le))
front_of (d ∷ done) (c ∷ cuts) back rest p q le e =
    let s = one_encoding d c (encodings done ++ back) (encodings cuts ++ rest) p.0 q.0
    (sym (append_assoc (encoding d) (encodings done) back) ∙ (e ∙ append_assoc (encoding c) (encodings cuts) rest)) in
    let t = front_of done cuts back rest p.1 q.1 (omega (arith, le)) s.1 in
    let same : c ≡ d = sym s.0 in
    record { more = t.more; cuts_are = (λ i. same i ∷ t.cuts_are i); back_is = t.back_is }

module _ (k : RecordsState) (stream : List ℕ) (xs : List Exchange) (h : HasRead k stream xs) where
  pub done_count : length h.done ≡ length xs
  done_count = sym (length_contents h.done) ∙ ap length h.calls_are ∙ length_calls xs

  pub go_on : GoesOnBy h.done h.stands.cuts h.back (rest_in h.stands ++ h.stands.unread)
  go_on =
      let s = h.stands in
      let count = done_count in
      let some = s.taken_some in
      front_of h.done s.cuts h.back (rest_in s ++ s.unread) h.fit (all_fit s.cuts s.within) (omega (arith, count, some))
      (sym h.stream_is ∙ (s.stream_is ∙ append_assoc (encodings s.cuts) (rest_in s) s.unread))

  -- the offset of the record that is next
  pub place_of : (at : ℕ) → at ≡ length (encodings (take (length xs) h.stands.cuts)) → at ≡ length (encodings h.done)
  place_of at is =
      let g = go_on in
      is ∙ ap (λ (c : List Cut). length (encodings (take (length xs) c))) g.cuts_are
      ∙ ap (λ (c : List Cut). length (encodings c)) (take_at h.done g.more (length xs) done_count)

  -- it begins there
  pub begins : (at : ℕ) → at ≡ length (encodings h.done) → BeginsAt stream (calls xs) at
  begins at is = record {
    front = encodings h.done;
    back = h.back;
    stream_is = h.stream_is;
    encode = record { cuts = h.done; fit = h.fit; records_are = sym h.calls_are; bytes_are = sym (append-nil (encodings h.done)); begun = begun_none };
    at_is = is;
  }

  -- no more records, if all were answered
  pub none_more : length xs ≡ length h.stands.cuts → go_on.more ≡ []
  none_more all = none go_on.more (omega (arith, all, done_count, ap length go_on.cuts_are, length-append h.done go_on.more)) where
    none : (more : List Cut) → length more ≡ 0 → more ≡ []
    none [] e = refl
    none (c ∷ more) e = absurd (omega (arith, e))

at_front : (done more : List Cut) (bytes : List ℕ) → IsAt (contents (done ++ more)) (length done) bytes
    → (cut : Cut) × ((rest : List Cut) × ((more ≡ cut ∷ rest) × (content cut ≡ bytes)))
at_front [] [] bytes at = absurd (none-ne-some bytes at)
at_front [] (c ∷ more) bytes at = (c, (more, (refl, some-injective (content c) bytes at)))
at_front (d ∷ done) more bytes at = at_front done more bytes at

-- the next record
pub record NextOf (done cuts : List Cut) (more : List Cut) (back bytes : List ℕ) : Type 0 where
  pub cut : Cut
  pub others : List Cut
  pub fits : Fits cut
  pub content_is : content cut ≡ bytes
  pub more_is : more ≡ cut ∷ others
  pub after : List ℕ
  pub back_is : back ≡ encoding cut ++ after

module _ (k : RecordsState) (stream : List ℕ) (xs : List Exchange) (h : HasRead k stream xs) (bytes : List ℕ) (at : IsAt (contents h.stands.cuts) (length xs) bytes) where
  pub next_of : NextOf h.done h.stands.cuts (go_on k stream xs h).more h.back bytes
  next_of =
      let g = go_on k stream xs h in
      let s = h.stands in
      let here : IsAt (contents (h.done ++ g.more)) (length h.done) bytes =
      subst (λ (n : ℕ). IsAt (contents (h.done ++ g.more)) n bytes) (sym (done_count k stream xs h)) (subst (λ (c : List Cut). IsAt (contents c) (length xs) bytes) g.cuts_are at) in
      let (cut, (others, (more_is, content_is))) = at_front h.done g.more bytes here in
      let fit : AllByRecursion Fits (h.done ++ cut ∷ others) =
      subst (AllByRecursion Fits) (g.cuts_are ∙ ap (λ (l : List Cut). h.done ++ l) more_is) (all_fit s.cuts s.within) in
      record {
        cut = cut;
        others = others;
        fits = (all_after Fits h.done (cut ∷ others) fit).0;
        content_is = content_is;
        more_is = more_is;
        after = encodings others ++ (rest_in s ++ s.unread);
        back_is = g.back_is ∙ ap (λ (l : List Cut). encodings l ++ (rest_in s ++ s.unread)) more_is ∙ append_assoc (encoding cut) (encodings others) (rest_in s ++ s.unread);
      }

  -- it was answered
  pub read_on : (k' : RecordsState) (x : Exchange) → x.call ≡ bytes → RepresentsStream k' stream (length xs + 1) → HasRead k' stream (xs ++ x ∷ [])
  read_on k' x call_is stands' =
      let n = next_of in
      let same : content n.cut ≡ x.call = n.content_is ∙ sym call_is in
      record {
        stands = subst (RepresentsStream k' stream) (sym (length_end xs x)) stands';
        done = h.done ++ n.cut ∷ [];
        fit = all_end Fits h.done n.cut h.fit n.fits;
        calls_are = contents_end h.done n.cut ∙ (λ i. h.calls_are i ++ same i ∷ []) ∙ sym (calls_end xs x);
        back = n.after;
        stream_is = h.stream_is ∙ ap (λ (l : List ℕ). encodings h.done ++ l) n.back_is ∙ sym (append_assoc (encodings h.done) (encoding n.cut) n.after)
            ∙ ap (λ (l : List ℕ). l ++ n.after) (sym (encodings_end h.done n.cut));
      }

-- a piece more was fed
pub read_piece : (k k' : RecordsState) (stream piece : List ℕ) (xs : List Exchange) → HasRead k stream xs → RepresentsStream k' (stream ++ piece) (length xs) → HasRead k' (stream ++ piece) xs
read_piece k k' stream piece xs h stands' = record {
  stands = stands';
  done = h.done;
  fit = h.fit;
  calls_are = h.calls_are;
  back = h.back ++ piece;
  stream_is = ap (λ (l : List ℕ). l ++ piece) h.stream_is ∙ append_assoc (encodings h.done) h.back piece;
}

-- nothing was read
pub read_none : (k : RecordsState) → RepresentsStream k [] 0 → HasRead k [] []
read_none k stands = record { stands = stands; done = []; fit = tt; calls_are = refl; back = []; stream_is = refl }

-- without a fault all that was fed was read
pub none_unread : (k : RecordsState) (stream : List ℕ) (taken : ℕ) (s : RepresentsStream k stream taken) → k.fault ≡ None → s.unread ≡ []
none_unread k stream taken s e = by_fault k.fault e s.state where
  by_fault : (f : Option RecordFault) → f ≡ None → IsState f k s.begun s.partial s.unread (length (encodings s.cuts ++ fragments s.begun)) → s.unread ≡ []
  by_fault f is h = (subst (λ (o : Option RecordFault). IsState o k s.begun s.partial s.unread (length (encodings s.cuts ++ fragments s.begun))) is h).0

-- an encoding has bytes, so no bytes encode no records
pub encoding_some : (c : Cut) → 0 < length (encoding c)
encoding_some c =
    omega (arith, length-append (fragments c.before) (fragment true c.last), length-append (header true (length c.last)) c.last, length_word (2 ^ 31 * bit true + length c.last))

pub none_cuts : (cuts : List Cut) (rest unread : List ℕ) → [] ≡ (encodings cuts ++ rest) ++ unread → 0 ≡ length cuts
none_cuts [] rest unread e = refl
none_cuts (c ∷ cuts) rest unread e =
    absurd (omega (
      arith,
      ap length e,
      length-append ((encoding c ++ encodings cuts) ++ rest) unread,
      length-append (encoding c ++ encodings cuts) rest,
      length-append (encoding c) (encodings cuts),
      encoding_some c,
    ))
