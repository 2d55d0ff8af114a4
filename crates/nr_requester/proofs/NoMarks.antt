-- No marks of a link keep the law of its client; and a piece keeps it, with all that is sent again.
use Rattle.std.proofs.Common.{◌≡◌, ◌≢◌, ℕ, Bool, true, false, ◌&&◌, List, [], ◌∷◌, ◌++◌, refl, sym, ap, subst, ◌∙◌, append-nil, append_assoc}
use Rattle.std.proofs.lemmas.Bool.{ne_eqb}
use Rattle.nr_wire.specs.declared.hello.Side.TheVariants.{Initiator, Responder}
use Rattle.nr_reduce.specs.declared.call.Submission.TheVariants as submissions
use Rattle.nr_reduce.specs.declared.mark.LinkParameters.{LinkParameters}
use Rattle.nr_reduce.specs.declared.mark.Mark.{Mark}
use Rattle.nr_reduce.specs.declared.mark.Mark.TheVariants as marks
use Rattle.nr_reduce.specs.Asked.{AskedSoFar}
use Rattle.nr_reduce.specs.Credits.{KeepsGrant}
use Rattle.nr_reduce.specs.History.{same_side}
use Rattle.nr_reduce.specs.Resending.{resends_after}
use Rattle.nr_reduce.proofs.Resending.{resends_keep_law}
use Rattle.nr_requester.specs.KeptLaw.{NoMarksLaw, PieceLaw}
use Rattle.nr_requester.specs.Laws.{AsksNothing}
use Rattle.nr_requester.specs.Reopening.{HasNoMark, link_of}
use Rattle.nr_requester.proofs.OwnLaw.{others_keep_law, piece_keeps_law}

-- nothing is asked of a mark of another link
asks_nothing : (link : ℕ) (mark : Mark) → link_of mark ≢ link → AsksNothing link mark
asks_nothing link (marks.Submit l call form (submissions.Accepted xid)) other = λ i. ne_eqb l link other i && same_side Initiator Initiator
asks_nothing link (marks.Submit l call form (submissions.Refused why)) other = refl
asks_nothing link (marks.Submit l call form submissions.Dropped) other = refl
asks_nothing link (marks.Wrote l side bytes) other = λ i. ne_eqb l link other i && same_side side Initiator
asks_nothing link (marks.Fed l side bytes) other = refl
asks_nothing link (marks.Execute l xid moment payload place reply) other = λ i. ne_eqb l link other i && same_side Responder Initiator
asks_nothing link (marks.Done l xid outcome) other = λ i. ne_eqb l link other i && same_side Initiator Initiator
asks_nothing link (marks.Lost l xid) other = λ i. ne_eqb l link other i && same_side Initiator Initiator
asks_nothing link (marks.Forget l xid) other = λ i. ne_eqb l link other i && same_side Initiator Initiator
asks_nothing link (marks.Revoke l xid bytes) other = λ i. ne_eqb l link other i && same_side Initiator Initiator
asks_nothing link (marks.Drop l) other = refl
asks_nothing link (marks.Told l what) other = λ i. ne_eqb l link other i && same_side Responder Initiator

abbrev KeepsLaw : LinkParameters → ℕ → List Mark → Type 0
KeepsLaw opened link run = AskedSoFar opened link run × KeepsGrant opened link run

law_beside : (opened : LinkParameters) (link : ℕ) (before run : List Mark) → HasNoMark link run → KeepsLaw opened link before → KeepsLaw opened link (before ++ run)
law_beside opened link before [] none law = subst (λ (all : List Mark). KeepsLaw opened link all) (sym (append-nil before)) law
law_beside opened link before (mark ∷ run) none law =
    subst (λ (all : List Mark). KeepsLaw opened link all) (append_assoc before (mark ∷ []) run)
    (law_beside opened link (before ++ mark ∷ []) run none.1 (others_keep_law opened link before mark (asks_nothing link mark none.0) law.0 law.1))

pub no_marks_law : NoMarksLaw
no_marks_law opened link run none = law_beside opened link [] run none (tt, tt)

pub piece_law : PieceLaw
piece_law opened link run piece opens asked grant =
    let mark : Mark = marks.Fed link Initiator piece in
    let fed = piece_keeps_law opened link run piece asked grant in
    subst (λ (all : List Mark). KeepsLaw opened link all) (append_assoc run (mark ∷ []) (resends_after opened link (run ++ mark ∷ [])))
    (resends_keep_law opened link (run ++ mark ∷ []) opens fed.0 fed.1).0
