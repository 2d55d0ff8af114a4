-- A file is read, or written.
use Rattle.std.proofs.Common.{ℕ, List, [], ◌∷◌, ◌++◌, Option, Result, Ok, sym, ap, subst}
use Rattle.nr_client.specs.declared.client_end.ClientEnd.{ClientEnd}
use Rattle.nr_client.specs.Reading.{EndsReading, LeadsBy, OpenRead, ReadStep, ReadingAt, ReadsFile, starts_at, xids_of}
use Rattle.nr_client.specs.Reading.ReadStepOver.{MakesAlone, AsksAhead, TakesOldest, Looks}
use Rattle.nr_client.specs.Reading.EndsReadingOver.{EndsByReplies, OutputFails, NotAnswered, NotSubmitted, OldestForgotten}
use Rattle.nr_client.specs.Writing.{EndsWriting, WritesFile, writing}
use Rattle.nr_client.specs.Writing.EndsWritingOver.{FollowsInput, InputFails}
use Rattle.nr_client.specs.Views.{LinkView}
use Rattle.nr_service_laws.specs.Exchanges.{giving_up, lost_by, made_exchanges, read_exchanges, reading_end_exchanges, refused_by, step_exchanges, steps_exchanges, unanswered_exchanges, write_exchanges, write_exchanges_by}
use Rattle.nr_service_laws.specs.Exchanges.Exchange.{GivenUp}
use Rattle.nr_service_laws.specs.SessionMarks.{HasDone}
use Rattle.nr_service_laws.proofs.Extending.{does_both, does_none_at}
use Rattle.nr_service_laws.proofs.OneCall.{does_answers, does_completes, does_forgets, does_giving_up, does_refuses, does_submits}
use Rattle.nr_service_laws.proofs.SeveralCalls.{does_any, does_follows, does_made, does_unanswered}

does_step : (uid gid : ℕ) (file : List ℕ) (s t : ReadingAt) (step : ReadStep uid gid file s t)
    → HasDone {A = Unit {0}} (Ok tt) s.link t.link (step_exchanges uid gid file s t step)
does_step uid gid file s t (MakesAlone call outcome alone answers replies waits) = does_answers {A = Unit {0}} tt call outcome s.link t.link answers.0
does_step uid gid file s t (AsksAhead read ahead submits replies waits) = does_submits {A = Unit {0}} tt read.call read.xid s.link t.link submits
does_step uid gid file s t (TakesOldest read outcome full is completes replies waits) = does_completes {A = Unit {0}} tt read.xid outcome s.link t.link completes
does_step uid gid file s t (Looks looks replies waits) = does_none_at {A = Unit {0}} (Ok tt) s.link t.link looks

pub does_steps : (uid gid : ℕ) (file : List ℕ) (first : ReadingAt) (states : List ReadingAt) (last : ReadingAt) (leads : LeadsBy uid gid file first states last)
    → HasDone {A = Unit {0}} (Ok tt) first.link last.link (steps_exchanges uid gid file first states last leads)
does_steps uid gid file first [] last same =
    does_none_at {A = Unit {0}} (Ok tt) first.link last.link (ap (λ (r : ReadingAt). r.link) same)
does_steps uid gid file first (s ∷ states) last (step, leads) =
    does_both {A = Unit {0}} {B = Unit {0}} tt (Ok tt) first.link s.link last.link (steps_exchanges uid gid file first states s leads) (step_exchanges uid gid file s last step)
    (does_steps uid gid file first states s leads) (does_step uid gid file s last step)

pub does_reading_end : (uid gid : ℕ) (file : List ℕ) (s : ReadingAt) (left : List OpenRead) (b : LinkView) (taken taken' : Option (List ℕ)) (given : Result (Unit {0}) ClientEnd)
    (ends : EndsReading uid gid file s left b taken taken' given) → HasDone given s.link b (reading_end_exchanges uid gid file s left b taken taken' given ends)
does_reading_end uid gid file s left b taken taken' given (EndsByReplies same is waits takes) = does_none_at given s.link b same
does_reading_end uid gid file s left b taken taken' given (OutputFails is same waits takes) = does_none_at given s.link b same
does_reading_end uid gid file s left b taken taken' given (NotAnswered call end alone is gone waits takes) =
    subst (λ (r : Result (Unit {0}) ClientEnd). HasDone r s.link b (unanswered_exchanges call s.link b end gone)) (sym is)
    (does_unanswered {A = Unit {0}} call s.link b end gone)
does_reading_end uid gid file s left b taken taken' given (NotSubmitted call end ahead is refused waits takes) =
    subst (λ (r : Result (Unit {0}) ClientEnd). HasDone r s.link b (refused_by end)) (sym is) (does_refuses {A = Unit {0}} call end s.link b refused.0)
does_reading_end uid gid file s left b taken taken' given (OldestForgotten read end full is given_is forgets waits takes) =
    subst (λ (r : Result (Unit {0}) ClientEnd). HasDone r s.link b (lost_by (GivenUp read.xid) end)) (sym given_is)
    (does_forgets {A = Unit {0}} read.xid end s.link b forgets.0)

pub does_reads : (uid gid : ℕ) (file : List ℕ) (b c : LinkView) (taken taken' : Option (List ℕ)) (given : Result (Unit {0}) ClientEnd)
    (f : ReadsFile uid gid file b c taken taken' given) → HasDone given b c (read_exchanges uid gid file b c taken taken' given f)
does_reads uid gid file b c taken taken' given f =
    let exchanges = reading_end_exchanges uid gid file f.last f.left f.ended taken taken' given f.ends in
    does_both {A = Unit {0}} {B = Unit {0}} tt given b f.last.link c (steps_exchanges uid gid file (starts_at b) f.between f.last f.made) (giving_up exchanges (xids_of f.left))
    (does_steps uid gid file (starts_at b) f.between f.last f.made)
    (does_giving_up given f.last.link f.ended c (xids_of f.left) exchanges (does_reading_end uid gid file f.last f.left f.ended taken taken' given f.ends) f.forgets)

does_writes_by : (uid gid : ℕ) (dir name handed rest : List ℕ) (b c : LinkView) (result : Result (Unit {0}) ClientEnd)
    (w : EndsWriting uid gid dir name handed rest b c result) → HasDone result b c (write_exchanges_by uid gid dir name handed rest b c result w)
does_writes_by uid gid dir name handed rest b c result (FollowsInput follows count ahead) = does_follows (writing uid gid dir name (handed ++ rest)) b c result follows
does_writes_by uid gid dir name handed rest b c result (InputFails outcomes is made ahead) =
    does_any result b c (made_exchanges (writing uid gid dir name (handed ++ rest)) outcomes b c made) (does_made (writing uid gid dir name (handed ++ rest)) outcomes b c made)

pub does_writes : (uid gid : ℕ) (dir name : List ℕ) (b c : LinkView) (left given left' given' : Option (List ℕ)) (result : Result (Unit {0}) ClientEnd)
    (w : WritesFile uid gid dir name b c left given left' given' result) → HasDone result b c (write_exchanges uid gid dir name b c left given left' given' result w)
does_writes uid gid dir name b c left given left' given' result w = does_writes_by uid gid dir name w.handed w.rest b c result w.calls
