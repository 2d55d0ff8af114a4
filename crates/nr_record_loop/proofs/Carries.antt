-- Pieces of the stream, one after another, and the ends at them.
use Rattle.std.proofs.Common.{◌≡◌, ◌≢◌, ℕ, zero, suc, le_refl, ◌+◌, ◌<◌, ◌≤◌, List, [], ◌∷◌, ◌++◌, length, take, Option, None, Some, Result, Err, inl, refl, sym, ap, ◌∙◌, subst, arith}
use Rattle.std.specs.Prelude.{IfErr}
use Rattle.std.specs.Io.KnownBytes.{IsAtEnd}
use Rattle.std.proofs.lemmas.List.{length-append, take_all}
use Rattle.nr_outside.specs.Content.{HandsOut}
use Rattle.nr_links.specs.Limits.{read_max}
use Rattle.nr_record.specs.Records.{Cut, contents, encodings}
use Rattle.nr_record.specs.RecordsState.{RecordsState, RepresentsStream, read_in, rest_in}
use Rattle.nr_record.specs.declared.fault.RecordFault.{RecordFault}
use Rattle.nr_record.specs.declared.fault.RecordFault.TheVariants as faults
use Rattle.nr_record.proofs.Above.{bad_above}
use Rattle.nr_record.proofs.Unique.{begun_none}
use Rattle.nr_record_loop.specs.Connections.{AllAnswered, Exchange, IsServedBy, Loop, ServesBy, Unanswered, written, loop_at}
use Rattle.nr_record_loop.specs.private.Steps.{AnswerEnds, AnswersAll, CarriesTo, EndsStream, HasRead, IsAnswered, IsLive, IsPlace, PieceEnds, TakesIn, end_at_fault}
use Rattle.nr_record_loop.specs.declared.loop_end.LoopEnd.{LoopEnd}
use Rattle.nr_record_loop.specs.declared.loop_end.LoopEnd.TheVariants as ends
use Rattle.nr_record_loop.proofs.Executions.{serves_nothing, serves_read}
use Rattle.nr_record_loop.proofs.Readers.{go_on, none_cuts, none_unread, read_piece}
use Rattle.nr_record_loop.proofs.Ends.{all_answered, ended, nothing_ahead, still_nothing}
use Rattle.nr_record_loop.proofs.Above.{too_long}

empty : (xs : List ℕ) → length xs ≡ 0 → xs ≡ []
empty [] e = refl
empty (x ∷ xs) e = absurd (omega (arith, e))

some : (n : ℕ) → n ≢ 0 → 0 < n
some zero other = absurd (other refl)
some (suc n) other = omega arith

module _ {S : Type 0} (Did : S → S → List Exchange → Option Unanswered → Type 0) where
  -- ---- a piece

  -- the fault that was answered is the one that is known
  pub fault_kept : {A : Type 0} (k : RecordsState) (result : Result A RecordFault) (fault : RecordFault) → IfErr result (λ (f : RecordFault). k.fault ≡ Some f) → result ≡ Err fault → k.fault ≡ Some fault
  fault_kept {A} k result fault view is = subst (λ (r : Result A RecordFault). IfErr r (λ (f : RecordFault). k.fault ≡ Some f)) is view

  module _ (k k1 : RecordsState) (piece : List ℕ) (feeds : (stream : List ℕ) (n : ℕ) → RepresentsStream k stream n → RepresentsStream k1 (stream ++ piece) n) where
    live_fed : (before now : Loop S) (stream : List ℕ) → IsLive Did before now k stream piece → IsLive Did before now k1 (stream ++ piece) []
    live_fed before now stream live = record {
      exchanges = live.exchanges;
      read = read_piece k k1 stream piece live.exchanges live.read (feeds stream (length live.exchanges) live.read.stands);
      serves = still_nothing Did before now (stream ++ piece) live.exchanges None (written live.exchanges) live.serves;
    }

    pub piece_taken : (k' : RecordsState) (taken taken' : Option (List ℕ)) (u u' : S)
        → AnswersAll Did k1 k' taken taken' u u' → TakesIn Did piece k k' taken taken' u u'
    piece_taken k' taken taken' u u' answers before left given stream live =
        answers before left given (stream ++ piece) (live_fed before (loop_at left given taken u) stream live)

    pub piece_ends : (end : LoopEnd) (taken taken' : Option (List ℕ)) (u u' : S)
        → AnswerEnds Did end k1 taken taken' u u' → PieceEnds Did end piece k taken taken' u u'
    piece_ends end taken taken' u u' ends before left given stream within live =
        ends before left given (stream ++ piece) within (live_fed before (loop_at left given taken u) stream live)

    -- a record is above the limit, and those before it were answered
    pub piece_bad : (k' : RecordsState) (at reason : ℕ) (taken taken' : Option (List ℕ)) (u u' : S)
        → AnswersAll Did k1 k' taken taken' u u' → k'.fault ≡ Some (faults.Bad at reason) → PieceEnds Did (ends.Bad at reason) piece k taken taken' u u'
    piece_bad k' at reason taken taken' u u' answers bad before left given stream within live =
        let all : List ℕ = stream ++ piece in
        let after = loop_at left given taken' u' in
        let a = answers before left given all (live_fed before (loop_at left given taken u) stream live) in
        let xs = a.live.exchanges in
        let h = a.live.read in
        ended Did before after (ends.Bad at reason) k' all xs None (written xs) h (nothing_ahead Did before after all xs None (written xs) a.live.serves) within tt refl
        ((λ e. refl), λ e. absurd (omega (arith, e, (bad_above k' all (length xs) at reason h.stands bad).0)))
        (inl (too_long k' all xs at reason h bad a.all))

    -- memory ran out
    pub piece_out : (k' : RecordsState) (taken taken' : Option (List ℕ)) (u u' : S)
        → AnswersAll Did k1 k' taken taken' u u' → PieceEnds Did ends.Memory piece k taken taken' u u'
    piece_out k' taken taken' u u' answers before left given stream within live =
        let all : List ℕ = stream ++ piece in
        let after = loop_at left given taken' u' in
        let a = answers before left given all (live_fed before (loop_at left given taken u) stream live) in
        let xs = a.live.exchanges in
        ended Did before after ends.Memory k' all xs None (written xs) a.live.read (nothing_ahead Did before after all xs None (written xs) a.live.serves) within tt
        refl (inl refl) tt

    -- one of the two
    pub piece_fault : (k' : RecordsState) (fault : RecordFault) (taken taken' : Option (List ℕ)) (u u' : S)
        → AnswersAll Did k1 k' taken taken' u u' → k'.fault ≡ Some fault → PieceEnds Did (end_at_fault fault) piece k taken taken' u u'
    piece_fault k' (faults.Bad at reason) taken taken' u u' answers is = piece_bad k' at reason taken taken' u u' answers is
    piece_fault k' faults.Memory taken taken' u u' answers is = piece_out k' taken taken' u u' answers

  -- ---- read after read

  pub begins_with : (first : Loop S) (k : RecordsState) → Did first.state first.state [] None → RepresentsStream k [] 0 → CarriesTo Did first first k 0
  begins_with first k none stands = record {
    stream = [];
    answered = record {
      live = record { exchanges = []; read = record { stands = stands; done = []; fit = tt; calls_are = refl; back = []; stream_is = refl }; serves = serves_nothing Did first none };
      all = none_cuts stands.cuts (rest_in stands) stands.unread stands.stream_is;
    };
    count = refl;
  }

  module _ (first : Loop S) (left given left' given' taken : Option (List ℕ)) (u : S) (k : RecordsState) (read : ℕ)
      (carries : CarriesTo Did first (loop_at left given taken u) k read) where
    -- bytes were read, and not fed
    live_read : (piece : List ℕ) → HandsOut left given left' given' piece → IsLive Did first (loop_at left' given' taken u) k carries.stream piece
    live_read piece hands =
        let l = carries.answered.live in
        record {
          exchanges = l.exchanges;
          read = l.read;
          serves = serves_read Did first left given left' given' taken u carries.stream piece l.exchanges (written l.exchanges)
              (nothing_ahead Did first (loop_at left given taken u) carries.stream l.exchanges None (written l.exchanges) l.serves) hands;
        }

    count_more : (piece : List ℕ) → length (carries.stream ++ piece) ≡ read + length piece
    count_more piece = length-append carries.stream piece ∙ ap (λ (n : ℕ). n + length piece) carries.count

    pub carry_on : (piece : List ℕ) → HandsOut left given left' given' piece → (k' : RecordsState) (taken' : Option (List ℕ)) (u' : S)
        → TakesIn Did piece k k' taken taken' u u' → CarriesTo Did first (loop_at left' given' taken' u') k' (read + length piece)
    carry_on piece hands k' taken' u' takes = record {
      stream = carries.stream ++ piece;
      answered = takes first left' given' carries.stream (live_read piece hands);
      count = count_more piece;
    }

    pub carry_ends : (piece : List ℕ) → HandsOut left given left' given' piece → (end : LoopEnd) (taken' : Option (List ℕ)) (u' : S)
        → read + length piece ≤ read_max → PieceEnds Did end piece k taken taken' u u' → IsServedBy Did first (loop_at left' given' taken' u') end
    carry_ends piece hands end taken' u' most ends =
        ends first left' given' carries.stream (subst (λ (n : ℕ). n ≤ read_max) (sym (count_more piece)) most) (live_read piece hands)

    -- no byte was read
    nothing_read : HandsOut left given left' given' [] → IsAnswered Did first (loop_at left' given' taken u) k carries.stream
    unfolding live_read
    nothing_read hands =
        let l = carries.answered.live in
        record {
          live = record { exchanges = l.exchanges; read = l.read; serves = (live_read [] hands).serves };
          all = carries.answered.all;
        }

    within : read < read_max → length carries.stream < read_max
    within less = omega (arith, less, carries.count)

    -- the read failed
    pub read_fails : HandsOut left given left' given' [] → k.fault ≡ None → read < read_max → IsServedBy Did first (loop_at left' given' taken u) ends.LinkRead
    read_fails hands none less =
        let a = nothing_read hands in
        let xs = a.live.exchanges in
        let h = a.live.read in
        let after = loop_at left' given' taken u in
        ended Did first after ends.LinkRead k carries.stream xs None (written xs) h (nothing_ahead Did first after carries.stream xs None (written xs) a.live.serves)
        (omega (arith, within less)) (none_unread k carries.stream (length xs) h.stands none) refl refl
        (all_answered Did k carries.stream xs h none a.all, within less)

    -- the client ended Did its stream
    pub read_ends : (end : LoopEnd) → HandsOut left given left' given' [] → IsAtEnd left' → k.fault ≡ None → read < read_max
        → (at : ℕ) × (IsPlace k at × EndsStream end read at) → IsServedBy Did first (loop_at left' given' taken u) end
    read_ends end hands over none less (at, (place, how)) = by_end end how where
      a : IsAnswered Did first (loop_at left' given' taken u) k carries.stream
      a = nothing_read hands

      xs : List Exchange
      xs = a.live.exchanges

      h : HasRead k carries.stream xs
      h = a.live.read

      unread : h.stands.unread ≡ []
      unread = none_unread k carries.stream (length xs) h.stands none

      -- the complete records, and what follows them
      at_is : at ≡ length (encodings h.stands.cuts)
      at_is = place carries.stream (length xs) h.stands ∙ ap (λ (n : ℕ). length (encodings (take n h.stands.cuts))) a.all ∙ ap (λ (c : List Cut). length (encodings c)) (take_all (length h.stands.cuts) h.stands.cuts (le_refl _))

      count : read ≡ at + length (rest_in h.stands)
      count = omega (arith, carries.count, at_is, ap length h.stands.stream_is, ap length unread, length-append (read_in h.stands) h.stands.unread, length-append (encodings h.stands.cuts) (rest_in h.stands))

      after : Loop S
      after = loop_at left' given' taken u

      serves : ServesBy Did first after carries.stream xs None (written xs)
      serves = nothing_ahead Did first after carries.stream xs None (written xs) a.live.serves

      most : length carries.stream ≤ read_max
      most = omega (arith, within less)

      answered : AllAnswered carries.stream (contents (go_on k carries.stream xs h).more)
      answered = all_answered Did k carries.stream xs h none a.all

      by_end : (end : LoopEnd) → EndsStream end read at → IsServedBy Did first after end
      by_end ends.Closed e =
          ended Did first after ends.Closed k carries.stream xs None (written xs) h serves most unread refl refl (answered, (over, (empty (rest_in h.stands) (omega (arith, e, count)), within less)))
      by_end (ends.Cut n) (n_is, other) =
          ended Did first after (ends.Cut n) k carries.stream xs None (written xs) h serves most unread refl refl
          (answered, (over, (some (length (rest_in h.stands)) (λ e. other (omega (arith, e, count))), (n_is ∙ sym carries.count, within less))))
      by_end ends.LinkRead e = absurd e
      by_end ends.LinkWrite e = absurd e
      by_end (ends.Bad n reason) e = absurd e
      by_end (ends.Budget n) e = absurd e
      by_end ends.Memory e = absurd e
      by_end ends.Unanswered e = absurd e

    -- the maximum was read
    pub read_enough : k.fault ≡ None → read ≡ read_max → IsServedBy Did first (loop_at left given taken u) (ends.Budget read)
    read_enough none all =
        let l = carries.answered.live in
        let xs = l.exchanges in
        let now = loop_at left given taken u in
        let same : length carries.stream ≡ read_max = carries.count ∙ all in
        ended Did first now (ends.Budget read) k carries.stream xs None (written xs) l.read (nothing_ahead Did first now carries.stream xs None (written xs) l.serves)
        (omega (arith, same)) (none_unread k carries.stream (length xs) l.read.stands none) refl refl
        (all_answered Did k carries.stream xs l.read none carries.answered.all, (all, same))

  -- memory ran out before the first read
  pub out_at_once : (first : Loop S) → Did first.state first.state [] None → IsServedBy Did first first ends.Memory
  out_at_once first none = record {
    stream = [];
    unread = [];
    records = [];
    rest = [];
    exchanges = [];
    others = [];
    more = None;
    took = [];
    encode = record { cuts = []; fit = tt; records_are = refl; bytes_are = refl; begun = begun_none };
    limit = tt;
    order = refl;
    serves = serves_nothing Did first none;
    within = (let none : 0 ≤ read_max = omega arith in none);
    unread_is = tt;
    took_is = refl;
    more_is = inl refl;
    cause = tt;
  }
