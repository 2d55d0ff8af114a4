-- A record connection over a complete stream.
use Rattle.std.proofs.Common.{◌≡◌, ℕ, ◌+◌, ◌*◌, ◌^◌, ◌<◌, true, false, List, [], ◌∷◌, ◌++◌, length, Option, None, Some, refl, sym, ap, ◌∙◌, subst, ⊎_elim, append_assoc, append-nil, arith}
use Rattle.std.specs.List.{AllByRecursion}
use Rattle.std.specs.Io.KnownBytes.{Consumes, IsAtEnd}
use Rattle.std.proofs.lemmas.Bool.{true≢false}
use Rattle.std.proofs.lemmas.List.{length-append}
use Rattle.nr_outside.specs.Faults.{Rises}
use Rattle.nr_outside.specs.declared.moment.Moment.{Moment}
use Rattle.nr_links.specs.Limits.{read_max}
use Rattle.nr_xdr.specs.Item.{bit}
use Rattle.nr_xdr.proofs.WordBytes.{length_word}
use Rattle.nr_record.specs.Records.{Cut, Fits, IsAboveAt, RecordsEncode, contents, encoding, encodings, fragments, header}
use Rattle.nr_record.specs.RecordsState.{IsContentInLimit}
use Rattle.nr_record.proofs.Above.{none_list}
use Rattle.nr_record.proofs.Begun.{all_fit}
use Rattle.nr_record.proofs.Unique.{begun_none, one_encoding, one_reading}
use Rattle.nr_record_loop.specs.Connections.{IsNoCall, IsTooLong}
use Rattle.nr_record_host.specs.RecordRuns.{Around, IsRecordsServed, Serves, SinkCount, SourceCount, calls, written}
use Rattle.nr_record_host.specs.Completing.{HasCallHead, IsComplete}
use Rattle.nr_record_host.specs.declared.record_end.RecordEnd.{RecordEnd}
use Rattle.nr_record_host.specs.declared.record_end.RecordEnd.TheVariants as ends
use Rattle.nr_record_loop.proofs.Exchanges.{all_after, contents_both}
use Rattle.nr_record_loop.proofs.Readers.{encoding_some}

-- what was read, and what is left: the first bytes of those that were left, and the others
reads_of : (all bytes : List ℕ) (left : Option (List ℕ)) → Consumes (Some all) left bytes → (rest : List ℕ) × ((left ≡ Some rest) × (all ≡ bytes ++ rest))
reads_of all bytes None c = absurd c
reads_of all bytes (Some rest) c = (rest, (refl, c))

-- complete records at the front of the encodings of records are the first of these
first_of : (done cuts : List Cut) (back : List ℕ) → AllByRecursion Fits done → AllByRecursion Fits cuts → encodings done ++ back ≡ encodings cuts
    → (more : List Cut) × (cuts ≡ done ++ more)
first_of [] cuts back p q e = (cuts, refl)
first_of (d ∷ done) [] back p q e =
    let some = encoding_some d in
    absurd (omega (arith, some, ap length e, length-append (encoding d ++ encodings done) back, length-append (encoding d) (encodings done)))
first_of (d ∷ done) (c ∷ cuts) back p q e =
    let s = one_encoding d c (encodings done ++ back) (encodings cuts) p.0 q.0 (sym (append_assoc (encoding d) (encodings done) back) ∙ e) in
    let (more, is) = first_of done cuts back p.1 q.1 s.1 in
    let same : c ≡ d = sym s.0 in
    (more, (λ i. same i ∷ is i))

-- no fragment of records within the limit takes one above it, nor one of the bytes at their front
none_too_long : (cuts : List Cut) (stream back : List ℕ) (at : ℕ) → AllByRecursion IsContentInLimit cuts → stream ++ back ≡ encodings cuts → ¬ (IsAboveAt stream at)
none_too_long cuts stream back at within e a =
    none_list cuts a.cuts [] a.begun a.last a.len (a.more ++ back) within a.fit a.begun_fit a.short a.above begun_none no_bytes
    (append-nil (encodings cuts) ∙ sym e ∙ ap (λ (l : List ℕ). l ++ back) a.stream_is
    ∙ append_assoc (encodings a.cuts ++ fragments a.begun) (header a.last a.len ++ a.more) back
    ∙ ap (λ (l : List ℕ). (encodings a.cuts ++ fragments a.begun) ++ l) (append_assoc (header a.last a.len) a.more back)) where
      no_bytes : ¬ ([] ≡ fragments a.begun ++ (header a.last a.len ++ (a.more ++ back)))
      no_bytes none =
          absurd (omega (
            arith,
            ap length none,
            length-append (fragments a.begun) (header a.last a.len ++ (a.more ++ back)),
            length-append (header a.last a.len) (a.more ++ back),
            length_word (2 ^ 31 * bit a.last + a.len),
          ))

-- a record among those that all have a call head
has_head : (front : List (List ℕ)) (call : List ℕ) (more : List (List ℕ)) → AllByRecursion HasCallHead (front ++ call ∷ more) → HasCallHead call
has_head front call more all = (all_after HasCallHead front (call ∷ more) all).0

module _ (before after : Around) (cuts : List Cut) (left_is : before.left ≡ Some (encodings cuts)) (within : AllByRecursion IsContentInLimit cuts) (heads : AllByRecursion HasCallHead (contents cuts))
    (few : length (encodings cuts) < read_max) where
  module _ (end : RecordEnd) (s : IsRecordsServed before after end) where
    abbrev read : List ℕ
    read = s.stream ++ s.unread

    consumed : (rest : List ℕ) × ((after.left ≡ Some rest) × (encodings cuts ≡ read ++ rest))
    consumed = reads_of (encodings cuts) read after.left (subst (λ (o : Option (List ℕ)). Consumes o after.left read) left_is s.serves.handed.from_left)

    at_front : (back : List ℕ) × (s.stream ++ back ≡ encodings cuts)
    at_front = let (rest, (kept, is)) = consumed in (s.unread ++ rest, sym (is ∙ append_assoc s.stream s.unread rest))

    fewer : length read < read_max
    fewer = let (rest, (kept, is)) = consumed in omega (arith, few, ap length is, length-append read rest)

    -- all was read
    complete : IsAtEnd after.left → s.unread ≡ [] → s.stream ≡ encodings cuts
    complete over none =
        let (rest, (kept, is)) = consumed in
        let empty : rest ≡ [] = subst IsAtEnd kept over in
        sym (is ∙ ap (λ (l : List ℕ). read ++ l) empty ∙ append-nil read ∙ ap (λ (l : List ℕ). s.stream ++ l) none ∙ append-nil s.stream)

    as_sent : s.stream ≡ encodings cuts → (s.records ≡ contents cuts) × (s.rest ≡ [])
    as_sent is =
        one_reading (encodings cuts) s.records (contents cuts) s.rest [] (subst (λ (l : List ℕ). RecordsEncode l s.records s.rest) is s.encode)
        (record { cuts = cuts; fit = all_fit cuts within; records_are = refl; bytes_are = sym (append-nil (encodings cuts)); begun = begun_none })

    -- no record is without a call head
    no_stop : (at reason : ℕ) → ¬ (IsNoCall read (calls s.exchanges) s.others at reason)
    no_stop at reason stop =
        let (back, front_is) = at_front in
        let e = s.encode in
        let shape : encodings e.cuts ++ (s.rest ++ back) ≡ encodings cuts =
        sym (append_assoc (encodings e.cuts) s.rest back) ∙ ap (λ (l : List ℕ). l ++ back) (sym e.bytes_are) ∙ front_is in
        let (more, is) = first_of e.cuts cuts (s.rest ++ back) e.fit (all_fit cuts within) shape in
        let records_are : contents cuts ≡ s.records ++ contents more =
        ap contents is ∙ contents_both e.cuts more ∙ ap (λ (l : List (List ℕ)). l ++ contents more) (sym e.records_are) in
        let all : contents cuts ≡ calls s.exchanges ++ stop.call ∷ (stop.more ++ contents more) =
        records_are ∙ ap (λ (l : List (List ℕ)). l ++ contents more) (s.order ∙ ap (λ (l : List (List ℕ)). calls s.exchanges ++ l) stop.others_are)
        ∙ append_assoc (calls s.exchanges) (stop.call ∷ stop.more) (contents more) in
        let head = has_head (calls s.exchanges) stop.call (stop.more ++ contents more) (subst (AllByRecursion HasCallHead) all heads) in
        true≢false (sym head ∙ stop.no_head)

    none_above : (at : ℕ) → ¬ (IsAboveAt read at)
    none_above at = let (rest, (kept, is)) = consumed in none_too_long cuts read rest at within (sym is)

no_bytes_left : (xs : List ℕ) → xs ≡ [] → ¬ (0 < length xs)
no_bytes_left xs none some = absurd (omega (arith, some, ap length none))

pub completes : (before after : Around) (end : RecordEnd) (cuts : List Cut) (reads reads' writes writes' : ℕ)
    → before.left ≡ Some (encodings cuts) → AllByRecursion IsContentInLimit cuts → AllByRecursion HasCallHead (contents cuts) → length (encodings cuts) < read_max
    → IsRecordsServed before after end → SourceCount end reads reads' → SinkCount end writes writes' → ¬ (Rises reads reads') → ¬ (Rises writes writes')
    → IsComplete before after (contents cuts) end
completes before after ends.Closed cuts reads reads' writes writes' left_is within heads few s source sink no_read no_write =
    let (answered, (over, (rest_is, less))) = s.cause in
    let all : s.stream ≡ encodings cuts = complete before after cuts left_is within heads few ends.Closed s over s.unread_is in
    let sent = as_sent before after cuts left_is within heads few ends.Closed s all in
    record {
      bytes = s.stream ++ s.unread;
      exchanges = s.exchanges;
      all = sym (append-nil (calls s.exchanges)) ∙ ap (λ (l : List (List ℕ)). calls s.exchanges ++ l) (sym answered.0) ∙ sym s.order ∙ sent.0;
      serves = subst (λ (m : List Moment). Serves before after (s.stream ++ s.unread) s.exchanges m (written s.exchanges)) s.more_is
          (subst (λ (t : List ℕ). Serves before after (s.stream ++ s.unread) s.exchanges s.more t) s.took_is s.serves);
      left = over;
    }
completes before after (ends.Cut at) cuts reads reads' writes writes' left_is within heads few s source sink no_read no_write =
    let (answered, (over, (some, more))) = s.cause in
    let all : s.stream ≡ encodings cuts = complete before after cuts left_is within heads few (ends.Cut at) s over s.unread_is in
    no_bytes_left s.rest (as_sent before after cuts left_is within heads few (ends.Cut at) s all).1 some
completes before after ends.LinkRead cuts reads reads' writes writes' left_is within heads few s source sink no_read no_write = no_read source
completes before after ends.LinkWrite cuts reads reads' writes writes' left_is within heads few s source sink no_read no_write = no_write sink
completes before after (ends.Bad at reason) cuts reads reads' writes writes' left_is within heads few s source sink no_read no_write = ⊎_elim
    (λ (long : IsTooLong (s.stream ++ s.unread) (calls s.exchanges) s.others at reason). none_above before after cuts left_is within heads few (ends.Bad at reason) s at long.fault.1)
    (λ (stop : IsNoCall (s.stream ++ s.unread) (calls s.exchanges) s.others at reason). no_stop before after cuts left_is within heads few (ends.Bad at reason) s at reason stop)
    s.cause
completes before after (ends.Budget n) cuts reads reads' writes writes' left_is within heads few s source sink no_read no_write =
    let (answered, (n_is, count)) = s.cause in
    let less = fewer before after cuts left_is within heads few (ends.Budget n) s in absurd (omega (arith, count, less))
completes before after ends.Memory cuts reads reads' writes writes' left_is within heads few s source sink no_read no_write = tt
