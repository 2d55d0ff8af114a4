-- The calls of a connection with record marks, each at its place.
use Rattle.std.proofs.Common.{ℕ, List, ◌∷◌, ◌++◌, length, subst, arith}
use Rattle.nr_reduce.specs.declared.mark.Entry.{Entry}
use Rattle.nr_plain.specs.History.{AllPlaced, Answered, setup_in}
use Rattle.nr_plain.specs.Setup.{Setup}
use Rattle.nr_pair_laws.specs.RecordReads.{AnswersReads, RecordReadsGiveTheFile}
use Rattle.nr_pair_laws.proofs.AnyReads.{any_read}
use Rattle.nr_pair_laws.proofs.PlacedCalls.{at_place_of, place_after_all, placed_first, placed_last, rises}

one_answered : (s : Setup) (J : List Entry) (least : ℕ) (earlier : List Answered) (x : Answered) (later : List Answered) → AllPlaced s J least (earlier ++ x ∷ later) → AnswersReads s J least x
one_answered s J least earlier x later placed =
    let first = place_after_all least earlier in
    let there : AllPlaced s J first (x ∷ later) = placed_last s J least earlier (x ∷ later) placed in
    let low = rises s J least earlier (placed_first s J least earlier (x ∷ later) placed) in
    let own = there.0 in
    let at = at_place_of s J first x later there in
    record {
      low = omega (arith, low, own);
      within = at.within;
      reads = λ names bytes from h rising keeps xid a call same. any_read s J names bytes from x.place h rising keeps x.moment x.payload x.reply xid a call same there.1.0;
    }

pub record_reads_lem : RecordReadsGiveTheFile
record_reads_lem first J before after end served history =
    let over = served.serves.over first J history in (
      over.more,
      (
        over.seen,
        λ earlier x later is.
            one_answered (setup_in first) (J ++ over.more) (length J) earlier x later (subst (λ (xs : List Answered). AllPlaced (setup_in first) (J ++ over.more) (length J) xs) is over.placed),
      ),
    )
