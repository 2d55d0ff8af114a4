-- The answer to one record, whatever answers its call.
use Rattle.std.proofs.Common.{◌≡◌, ℕ, ◌<◌, true, List, ◌++◌, length, take, drop, Option, ap, ap₂, ◌∙◌, subst, take-append-drop}
use Rattle.std.specs.Io.KnownBytes.{Appends}
use Rattle.nr_record.specs.Records.{fragment, header}
use Rattle.nr_record_loop.specs.Connections.{AnswersOne, Exchange, Unanswered}
use Rattle.nr_record_loop.specs.private.Answering.{AnswersCall, BreaksOff}

-- the header of a reply, and then the reply
pub framed : (head bytes reply : List ℕ) (len : ℕ) → head ≡ header true len → len ≡ length reply → bytes ≡ reply
    → head ++ bytes ≡ fragment true reply
framed head bytes reply len head_is len_is bytes_are = ap₂ (λ (l r : List ℕ). l ++ r) (head_is ∙ ap (header true) len_is) bytes_are

module _ {S : Type 0} (Did : S → S → List Exchange → Option Unanswered → Type 0) (call : List ℕ) (u u' : S) (reply : List ℕ) (answers : AnswersOne Did u u' call reply) where
  module _ (taken taken' : Option (List ℕ)) (bytes : List ℕ) (bytes_are : bytes ≡ fragment true reply) where
    pub answered : Appends taken taken' bytes → AnswersCall Did call taken taken' u u'
    answered appends = (reply, (answers, subst (Appends taken taken') bytes_are appends))

    pub broken : (n : ℕ) × (n < length bytes) × Appends taken taken' (take n bytes) → BreaksOff Did call taken taken' u u'
    broken (n, short, appends) = (reply, (answers, (take n bytes, (drop n bytes, (take-append-drop n bytes ∙ bytes_are, appends)))))
