-- A run of which the laws hold in full has them so far at each of its first parts.
use Rattle.std.proofs.Common.{◌≡◌, ℕ, List, [], ◌∷◌, ◌++◌, ◌∙◌, append-nil}
use Rattle.nr_wire.specs.declared.hello.Side.TheVariants.{Initiator, Responder}
use Rattle.nr_reduce.specs.declared.call.Submission.TheVariants as submissions
use Rattle.nr_reduce.specs.declared.mark.Mark.{Mark}
use Rattle.nr_reduce.specs.declared.mark.Mark.TheVariants as marks
use Rattle.nr_reduce.specs.declared.mark.LinkParameters.{LinkParameters}
use Rattle.nr_reduce.specs.AtEachMark.{AtEachMark}
use Rattle.nr_reduce.specs.Matched.{IsPrefixOf}
use Rattle.nr_reduce.specs.Asked.{IsAll, AskedMark}
use Rattle.nr_reduce.specs.Served.{ServedMark}
use Rattle.nr_reduce.specs.SoFar.{SoFar, InFull}
use Rattle.nr_reduce.proofs.Steps.{AtEachMark_first}

pub AtEachMark_each : (P Q : List Mark → Mark → Type 0) (before run : List Mark) → ((b : List Mark) (m : Mark) → P b m → Q b m) → AtEachMark P before run → AtEachMark Q before run
AtEachMark_each P Q before [] f h = tt
AtEachMark_each P Q before (m ∷ run) f h = (f before m h.0, AtEachMark_each P Q (before ++ m ∷ []) run f h.1)

pub all_first : (xs ys : List ℕ) → xs ≡ ys → IsPrefixOf xs ys
all_first xs ys is = ([], append-nil xs ∙ is)

pub asked_mark : (opened : LinkParameters) (link : ℕ) (before : List Mark) (mark : Mark) → AskedMark IsAll opened link before mark → AskedMark IsPrefixOf opened link before mark
asked_mark opened link before (marks.Submit l call form (submissions.Accepted xid)) h = h
asked_mark opened link before (marks.Submit l call form (submissions.Refused why)) h = h
asked_mark opened link before (marks.Submit l call form submissions.Dropped) h = h
asked_mark opened link before (marks.Wrote l Initiator bytes) h = λ same. all_first _ _ (h same)
asked_mark opened link before (marks.Wrote l Responder bytes) h = h
asked_mark opened link before (marks.Fed l side bytes) h = h
asked_mark opened link before (marks.Execute l xid moment payload place reply) h = h
asked_mark opened link before (marks.Done l xid outcome) h = h
asked_mark opened link before (marks.Lost l xid) h = h
asked_mark opened link before (marks.Forget l xid) h = h
asked_mark opened link before (marks.Revoke l xid bytes) h = h
asked_mark opened link before (marks.Drop l) h = h
asked_mark opened link before (marks.Told l what) h = h

pub served_mark : (opened : LinkParameters) (link : ℕ) (before : List Mark) (mark : Mark) → ServedMark IsAll opened link before mark → ServedMark IsPrefixOf opened link before mark
served_mark opened link before (marks.Submit l call form answer) h = h
served_mark opened link before (marks.Wrote l Initiator bytes) h = h
served_mark opened link before (marks.Wrote l Responder bytes) h = λ same. all_first _ _ (h same)
served_mark opened link before (marks.Fed l side bytes) h = h
served_mark opened link before (marks.Execute l xid moment payload place reply) h = h
served_mark opened link before (marks.Done l xid outcome) h = h
served_mark opened link before (marks.Lost l xid) h = h
served_mark opened link before (marks.Forget l xid) h = h
served_mark opened link before (marks.Revoke l xid bytes) h = h
served_mark opened link before (marks.Drop l) h = h
served_mark opened link before (marks.Told l what) h = h

pub so_far : (opened : LinkParameters) (link : ℕ) (run more : List Mark) → InFull opened link (run ++ more) → SoFar opened link run
so_far opened link run more full = record {
  asked = AtEachMark_first _ [] run more (AtEachMark_each _ _ [] (run ++ more) (asked_mark opened link) full.asked.each);
  served = AtEachMark_first _ [] run more (AtEachMark_each _ _ [] (run ++ more) (served_mark opened link) full.served.each);
  matched = AtEachMark_first _ [] run more full.matched;
  grant = AtEachMark_first _ [] run more full.grant;
}

pub first_part : (opened : LinkParameters) (link : ℕ) (run more : List Mark) → SoFar opened link (run ++ more) → SoFar opened link run
first_part opened link run more h = record {
  asked = AtEachMark_first _ [] run more h.asked;
  served = AtEachMark_first _ [] run more h.served;
  matched = AtEachMark_first _ [] run more h.matched;
  grant = AtEachMark_first _ [] run more h.grant;
}
