-- No call is sent past the last grant, and what a server grants (RFC 8166 section 3.3).
use Rattle.std.specs.Prelude.{◌≡◌, ℕ, ◌≤◌, min, ◌==◌, if◌then◌else◌, List, [], ◌∷◌, None, ◌⊎◌}
use Rattle.nr_reduce.specs.declared.call.Submission.TheVariants as submissions
use Rattle.nr_reduce.specs.declared.mark.Mark.{Mark}
use Rattle.nr_reduce.specs.declared.mark.Mark.TheVariants as marks
use Rattle.nr_reduce.specs.declared.mark.Told.TheVariants.{Granted, Old}
use Rattle.nr_reduce.specs.declared.mark.LinkParameters.{LinkParameters}
use Rattle.nr_reduce.specs.Opening.{IsOpened}
use Rattle.nr_reduce.specs.ServerState.{credit_word, is_busy}
use Rattle.nr_reduce.specs.Served.{ServedSoFar}
use Rattle.nr_reduce.specs.ClientState.{WaitingCall, ClientState}
use Rattle.nr_reduce.specs.EndRules.{EndState}
use Rattle.nr_reduce.specs.Run.{client, server}
use Rattle.nr_reduce.specs.AtEachMark.{AtEachMark}
use Rattle.nr_reduce.specs.SubmitAnswer.{calls_to_resend, submit_answer_after}
use Rattle.nr_reduce.specs.Credits.{KeepsGrant}

-- the call of this xid is the first that is to be sent again
pub record IsNextToResend (r : EndState ClientState) (xid : ℕ) : Type 0 where
  pub call : WaitingCall
  pub calls : List WaitingCall
  pub first : calls_to_resend r ≡ call ∷ calls
  pub own : call.xid ≡ xid

-- a call is accepted only if that is a client's answer to it, or if it is the first that is to be sent again
abbrev pub AcceptedMark : LinkParameters → ℕ → List Mark → Mark → Type 0
AcceptedMark opened link before (marks.Submit l call form (submissions.Accepted xid)) = l ≡ link →
    (submit_answer_after opened link before call form ≡ submissions.Accepted xid) ⊎ IsNextToResend (client opened link before) xid
AcceptedMark opened link before mark = Unit {0}

abbrev pub AcceptsByRule : LinkParameters → ℕ → List Mark → Type 0
AcceptsByRule opened link run = AtEachMark (AcceptedMark opened link) [] run

-- On every link whose client accepts by its rule, whatever its server sends: at each accepted Submit fewer calls are
-- outstanding than are granted.
abbrev pub SubmitsWithinGrant : Type 0
SubmitsWithinGrant = (opened : LinkParameters) (link : ℕ) (run : List Mark) → AcceptsByRule opened link run → KeepsGrant opened link run

-- On every link whose server keeps its law so far, whatever its client sends: it grants from 1 to the credits that the link was opened with.
abbrev pub ServerGrantsInRange : Type 0
ServerGrantsInRange = (opened : LinkParameters) (link : ℕ) (run : List Mark) → IsOpened opened → 1 ≤ opened.low → ServedSoFar opened link run →
    (1 ≤ credit_word (server opened link run).state) × (credit_word (server opened link run).state ≤ opened.granted)

-- the credits that the owner of a link's server set last, at first these
abbrev pub granted_at : ℕ → ℕ → Mark → ℕ
granted_at link credits (marks.Told l (Granted n)) = if l == link then n else credits
granted_at link credits (marks.Told l (Old xid at)) = credits
granted_at link credits mark = credits

abbrev pub last_granted : ℕ → ℕ → List Mark → ℕ
last_granted link credits [] = credits
last_granted link credits (mark ∷ run) = last_granted link (granted_at link credits mark) run

-- On every link a server that hasn't ended grants these, but at most `low` while more than half of its receives are in use.
abbrev pub ServerGrantsWhatIsSet : Type 0
ServerGrantsWhatIsSet = (opened : LinkParameters) (link : ℕ) (run : List Mark) → (server opened link run).ended ≡ None →
    credit_word (server opened link run).state
    ≡ (if is_busy (server opened link run).state then min opened.low (last_granted link opened.granted run) else last_granted link opened.granted run)
