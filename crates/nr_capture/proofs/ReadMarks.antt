-- What is read of a line can be written.
use Rattle.std.specs.Prelude.{codes}
use Rattle.std.specs.Str.{bytes_eq}
use Rattle.std.proofs.Common.{ℕ, List, [], ◌∷◌, Option, None, Some, refl}
use Rattle.nr_xdr.specs.Item.{IsBytes}
use Rattle.nr_rpc.specs.declared.cred.Cred.{Cred}
use Rattle.nr_rpc.specs.declared.cred.Cred.TheVariants as creds
use Rattle.nr_wire.specs.declared.hello.Side.{Side}
use Rattle.nr_reduce.specs.declared.call.Call.{Call}
use Rattle.nr_reduce.specs.declared.call.Form.{Form}
use Rattle.nr_reduce.specs.declared.call.Outcome.TheVariants as outcomes
use Rattle.nr_texts.specs.declared.program.Program.{Program}
use Rattle.nr_texts.specs.Words.{◌>>=◌, IsWord, parts, number_in, bytes_in, arguments_in, one_number, two_numbers}
use Rattle.nr_texts.specs.Forms.{dot, form_in, numbered_program, IsWritableForm}
use Rattle.nr_texts.specs.Openings.{sys_cred}
use Rattle.nr_texts.proofs.TypedTexts.{If, then_if, if_if, IsAny, any_if, small_if, some_bytes_if, arguments_if, writable_form_if, ProgramSmall, numbered_if, PairSmall, two_if}
use Rattle.nr_capture.specs.declared.capture.CapturedMark.{CapturedMark}
use Rattle.nr_capture.specs.declared.capture.CapturedMark.TheVariants as marks
use Rattle.nr_capture.specs.Marks.{cred_in, called_in, call_with, call_in, submit_with, submit_in, end_in, bytes_with, piece_as, piece_mark, reply_with, version_in, outcome_in, done_with, done_in, exec_in, call_mark_in, link_mark_in, plain_mark, mark_named, mark_in}
use Rattle.nr_capture.specs.Writable.{IsWritableCred, IsWritableCall, IsWritableOutcome, IsPiece, IsWritableMark}

-- ===== calls

cred_if : (word : List ℕ) → If IsWritableCred (cred_in word)
cred_if word =
    if_if IsWritableCred (bytes_eq word (codes "none")) (Some creds.None) (two_numbers (parts dot word) >>= λ p. Some (sys_cred p.0 p.1)) tt
    (then_if PairSmall IsWritableCred (two_numbers (parts dot word)) (λ p. Some (sys_cred p.0 p.1)) (two_if (parts dot word)) (λ p h. (refl, h.0, h.1)))

abbrev CalledFits : Program × ℕ → Type 0
CalledFits called = ProgramSmall called.0 × IsWord called.1

called_if : (program proc : List ℕ) → If CalledFits (called_in program proc)
called_if program proc =
    then_if ProgramSmall CalledFits (numbered_program (parts dot program)) (λ p. number_in proc >>= λ n. Some (p, n)) (numbered_if (parts dot program))
    (λ p h. then_if IsWord CalledFits (number_in proc) (λ n. Some (p, n)) (small_if proc) (λ n k. (h, k)))

call_with_if : (called : Program × ℕ) (cred : Option Cred) (args : Option (List ℕ)) → CalledFits called → If IsWritableCred cred → If IsBytes args → If IsWritableCall (call_with called cred args)
call_with_if called None args h c b = tt
call_with_if called (Some cred) None h c b = tt
call_with_if called (Some cred) (Some args) h c b = record { prog = h.0.0; vers = h.0.1; proc = h.1; cred = c; args = b }

call_if : (program proc cred args : List ℕ) → If IsWritableCall (call_in program proc cred args)
call_if program proc cred args =
    then_if CalledFits IsWritableCall (called_in program proc) (λ called. call_with called (cred_in cred) (arguments_in args)) (called_if program proc)
    (λ called h. call_with_if called (cred_in cred) (arguments_in args) h (cred_if cred) (arguments_if args))

submit_with_if : (at : ℕ × ℕ) (form : Option Form) (call : Option Call) → PairSmall at → If IsWritableForm form → If IsWritableCall call → If IsWritableMark (submit_with at form call)
submit_with_if at None call h f c = tt
submit_with_if at (Some form) None h f c = tt
submit_with_if at (Some form) (Some call) h f c = (h.1, f, c)

submit_if : (words : List (List ℕ)) → If IsWritableMark (submit_in words)
submit_if [] = tt
submit_if (link ∷ []) = tt
submit_if (link ∷ xid ∷ []) = tt
submit_if (link ∷ xid ∷ form ∷ []) = tt
submit_if (link ∷ xid ∷ form ∷ program ∷ []) = tt
submit_if (link ∷ xid ∷ form ∷ program ∷ proc ∷ []) = tt
submit_if (link ∷ xid ∷ form ∷ program ∷ proc ∷ cred ∷ []) = tt
submit_if (link ∷ xid ∷ form ∷ program ∷ proc ∷ cred ∷ args ∷ []) =
    then_if PairSmall IsWritableMark (two_numbers (link ∷ xid ∷ [])) (λ at. submit_with at (form_in form) (call_in program proc cred args)) (two_if (link ∷ xid ∷ []))
    (λ at h. submit_with_if at (form_in form) (call_in program proc cred args) h (writable_form_if form) (call_if program proc cred args))
submit_if (link ∷ xid ∷ form ∷ program ∷ proc ∷ cred ∷ args ∷ more ∷ others) = tt

-- ===== pieces

piece_if : (mark : ℕ → Side → List ℕ → CapturedMark) (words : List (List ℕ)) → ((link : ℕ) (side : Side) (bytes : List ℕ) → IsPiece bytes → IsWritableMark (mark link side bytes)) →
    If IsWritableMark (piece_mark mark words)
piece_if mark [] h = tt
piece_if mark (link ∷ []) h = tt
piece_if mark (link ∷ side ∷ []) h = tt
piece_if mark (link ∷ side ∷ hex ∷ []) h = by (end_in link side) (bytes_in hex) (some_bytes_if hex)
  where
    by : (at : Option (ℕ × Side)) (bytes : Option (List ℕ)) → If IsPiece bytes → If IsWritableMark ((at >>= λ a. bytes_with a bytes) >>= λ p. Some (piece_as mark p))
    by None bytes b = tt
    by (Some a) None b = tt
    by (Some a) (Some bytes) b = h a.0 a.1 bytes b
piece_if mark (link ∷ side ∷ hex ∷ more ∷ others) h = tt

-- ===== outcomes

outcome_if : (words : List (List ℕ)) → If IsWritableOutcome (outcome_in words)
outcome_if [] = tt
outcome_if (kind ∷ []) = if_if IsWritableOutcome (bytes_eq kind (codes "chunk")) (Some outcomes.Chunk) None tt tt
outcome_if (kind ∷ hex ∷ []) =
    if_if IsWritableOutcome (bytes_eq kind (codes "reply")) (reply_with (arguments_in hex)) None
    (then_if IsBytes IsWritableOutcome (arguments_in hex) (λ b. Some (outcomes.Reply b)) (arguments_if hex) (λ b h. h)) tt
outcome_if (kind ∷ low ∷ high ∷ []) =
    if_if IsWritableOutcome (bytes_eq kind (codes "version")) (version_in low high) None
    (then_if PairSmall IsWritableOutcome (two_numbers (low ∷ high ∷ [])) (λ p. Some (outcomes.Version p.0 p.1)) (two_if (low ∷ high ∷ [])) (λ p h. h)) tt
outcome_if (kind ∷ low ∷ high ∷ more ∷ others) = tt

done_if : (words : List (List ℕ)) → If IsWritableMark (done_in words)
done_if [] = tt
done_if (link ∷ []) = tt
done_if (link ∷ xid ∷ others) =
    then_if PairSmall IsWritableMark (two_numbers (link ∷ xid ∷ [])) (λ at. done_with at (outcome_in others)) (two_if (link ∷ xid ∷ []))
    (λ at h. then_if IsWritableOutcome IsWritableMark (outcome_in others) (λ o. Some (marks.Done at.0 at.1 o)) (outcome_if others) (λ o k. (h.1, k)))

-- ===== lines of numbers

exec_if : (words : List (List ℕ)) → If IsWritableMark (exec_in words)
exec_if [] = tt
exec_if (link ∷ []) = tt
exec_if (link ∷ xid ∷ []) = tt
exec_if (link ∷ xid ∷ seconds ∷ []) =
    then_if PairSmall IsWritableMark (two_numbers (link ∷ xid ∷ [])) (λ at. number_in seconds >>= λ s. Some (marks.Exec at.0 at.1 s)) (two_if (link ∷ xid ∷ []))
    (λ at h. then_if IsWord IsWritableMark (number_in seconds) (λ s. Some (marks.Exec at.0 at.1 s)) (small_if seconds) (λ s k. (h.1, k)))
exec_if (link ∷ xid ∷ seconds ∷ more ∷ others) = tt

call_mark_if : (mark : ℕ → ℕ → CapturedMark) (words : List (List ℕ)) → ((link xid : ℕ) → IsWord xid → IsWritableMark (mark link xid)) → If IsWritableMark (call_mark_in mark words)
call_mark_if mark words h = then_if PairSmall IsWritableMark (two_numbers words) (λ at. Some (mark at.0 at.1)) (two_if words) (λ at k. h at.0 at.1 k.1)

link_mark_if : (words : List (List ℕ)) → If IsWritableMark (link_mark_in marks.Drop words)
link_mark_if words = then_if IsAny IsWritableMark (one_number words) (λ link. Some (marks.Drop link)) (any_if (one_number words)) (λ link any. tt)

-- ===== a line

plain_if : (name : List ℕ) (others : List (List ℕ)) → If IsWritableMark (plain_mark name others)
plain_if name others =
    if_if IsWritableMark (bytes_eq name (codes "exec")) (exec_in others) _ (exec_if others)
    (if_if IsWritableMark (bytes_eq name (codes "forget")) (call_mark_in marks.Forget others) _ (call_mark_if marks.Forget others (λ link xid h. h))
    (if_if IsWritableMark (bytes_eq name (codes "revoke")) (call_mark_in marks.Revoke others) _ (call_mark_if marks.Revoke others (λ link xid h. h))
    (if_if IsWritableMark (bytes_eq name (codes "drop")) (link_mark_in marks.Drop others) _ (link_mark_if others)
    (if_if IsWritableMark (bytes_eq name (codes "grant")) (call_mark_in marks.Grant others) None (call_mark_if marks.Grant others (λ link credits h. h)) tt))))

named_if : (name : List ℕ) (others : List (List ℕ)) → If IsWritableMark (mark_named name others)
named_if name others =
    if_if IsWritableMark (bytes_eq name (codes "submit")) (submit_in others) _ (submit_if others)
    (if_if IsWritableMark (bytes_eq name (codes "out")) (piece_mark marks.Out others) _ (piece_if marks.Out others (λ link side bytes h. h))
    (if_if IsWritableMark (bytes_eq name (codes "in")) (piece_mark marks.In others) _ (piece_if marks.In others (λ link side bytes h. h))
    (if_if IsWritableMark (bytes_eq name (codes "done")) (done_in others) (plain_mark name others) (done_if others) (plain_if name others))))

pub mark_if : (words : List (List ℕ)) → If IsWritableMark (mark_in words)
unfolding mark_in
mark_if [] = tt
mark_if (name ∷ others) = named_if name others
