-- What the answer to one record makes of the sink and of what answers calls.
use Rattle.std.specs.Prelude.{◌≡◌, ℕ, true, List, ◌++◌, Option}
use Rattle.std.specs.Io.KnownBytes.{Appends}
use Rattle.nr_outside.specs.Faults.{Rises}
use Rattle.nr_record.specs.Records.{fragment}
use Rattle.nr_record_loop.specs.Connections.{AnswersNone, AnswersOne, Exchange, Unanswered}
use Rattle.nr_record_loop.specs.declared.answering.NoReply.{NoReply}
use Rattle.nr_record_loop.specs.declared.answering.NoReply.TheVariants as reasons
use Rattle.nr_record_loop.specs.declared.answering.Stop.{Stop}
use Rattle.nr_record_loop.specs.declared.answering.Stop.TheVariants as stops

module _ {S : Type 0} (Did : S → S → List Exchange → Option Unanswered → Type 0) where
  -- a call was answered, and its reply was written
  abbrev pub AnswersCall : List ℕ → (taken taken' : Option (List ℕ)) (u u' : S) → Type 0
  AnswersCall call taken taken' u u' = (reply : List ℕ) × (AnswersOne Did u u' call reply × Appends taken taken' (fragment true reply))

  -- or some of it, from the front
  abbrev pub BreaksOff : List ℕ → (taken taken' : Option (List ℕ)) (u u' : S) → Type 0
  BreaksOff call taken taken' u u' =
      (reply : List ℕ) × (AnswersOne Did u u' call reply
      × ((part : List ℕ) × ((others : List ℕ) × ((part ++ others ≡ fragment true reply) × Appends taken taken' part))))

  -- it was not, for this reason, and nothing was written
  abbrev pub DoesNone : List ℕ → NoReply → (taken taken' : Option (List ℕ)) (u u' : S) → Type 0
  DoesNone call reason taken taken' u u' = AnswersNone Did u u' call reason × (taken' ≡ taken)

  abbrev pub StopsAt : Stop → List ℕ → (taken taken' : Option (List ℕ)) (u u' : S) → Type 0
  StopsAt stops.NotCall call taken taken' u u' = DoesNone call reasons.NotCall taken taken' u u'
  StopsAt stops.LinkWrite call taken taken' u u' = BreaksOff call taken taken' u u'
  StopsAt stops.Memory call taken taken' u u' = DoesNone call reasons.Memory taken taken' u u'
  StopsAt stops.Other call taken taken' u u' = DoesNone call reasons.Other taken taken' u u'

abbrev pub CountAt : Stop → ℕ → ℕ → Type 0
CountAt stops.LinkWrite before after = Rises before after
CountAt _ before after = after ≡ before
