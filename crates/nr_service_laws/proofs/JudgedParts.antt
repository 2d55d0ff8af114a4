-- The ends of parts of a command whose outcomes are judged call by call, each with its cause if a call has no answer.
use Rattle.std.proofs.Common.{◌≡◌, ◌<◌, ℕ, arith, Bool, true, false, List, [], ◌∷◌, ◌++◌, length, ltb-true, Option, None, Some, Result, Ok, Err, inl, inr, refl, sym, ap, subst, ◌∙◌}
use Rattle.std.specs.Prelude.{◌⊎◌, IfSome, MatchBool, nat_lt}
use Rattle.std.specs.Io.KnownBytes.{Consumes, IsAtEnd}
use Rattle.std.proofs.lemmas.List.{length-append, nil_from_length}
use Rattle.nr_wire.specs.declared.hello.Side.TheVariants.{Initiator}
use Rattle.nr_outside.specs.Faults.{Rises}
use Rattle.nr_outside.specs.Streams.{SinkAt, SourceAt}
use Rattle.nr_nfs_base.specs.Limits.{link_target_max}
use Rattle.nr_outside.specs.Whole.{input_max}
use Rattle.nr_words.specs.Limits.{mount_path_max}
use Rattle.nr_link.specs.declared.end.End.TheVariants as ends
use Rattle.nr_reduce.specs.declared.call.Call.{Call}
use Rattle.nr_reduce.specs.declared.call.Form.TheVariants as forms
use Rattle.nr_reduce.specs.declared.call.Outcome.{Outcome}
use Rattle.nr_reduce.specs.declared.mark.LinkParameters.{LinkParameters}
use Rattle.nr_reduce.specs.declared.mark.Mark.{Mark}
use Rattle.nr_reduce.specs.declared.mark.Mark.TheVariants as marks
use Rattle.nr_reduce.specs.ClientState.{ClientState}
use Rattle.nr_reduce.specs.EndRules.{EndState}
use Rattle.nr_reduce.specs.History.{bytes_sent}
use Rattle.nr_reduce.specs.Opening.{IsOpened}
use Rattle.nr_reduce.specs.Run.{output_due}
use Rattle.nr_reduce.specs.SubmitAnswer.{calls_counted, submit_answer}
use Rattle.nr_links.specs.Limits.{read_max}
use Rattle.nr_requester.specs.RequesterState.{RequesterSide, queue_of}
use Rattle.nr_requester.specs.Answers.{answer_of}
use Rattle.nr_requester.proofs.Accepting.{answers_as_client, counts_as_client}
use Rattle.nr_shared.specs.declared.call_end.CallEnd.{CallEnd}
use Rattle.nr_shared.specs.declared.call_end.CallEnd.TheVariants as calls
use Rattle.nr_client.specs.declared.client_end.ClientEnd.{ClientEnd}
use Rattle.nr_client.specs.declared.client_end.ClientEnd.TheVariants as client
use Rattle.nr_client.specs.Ending.{IsCauseIn, LinkCause}
use Rattle.nr_client.specs.Following.{EndsWith, Follows, MakesCalls, Next, Unanswered}
use Rattle.nr_client.specs.Following.Next.{Calls, Returns}
use Rattle.nr_client.specs.Paths.{path_names}
use Rattle.nr_client.specs.Reading.{ForgetsCalls, EndsReading, InputFaults, OutputFaults, LeadsBy, OpenRead, ReadStep, ReadingAt, ReadsFile, reading, starts_at, xids_of}
use Rattle.nr_client.specs.Reading.ReadStepOver.{MakesAlone, AsksAhead, TakesOldest, Looks}
use Rattle.nr_client.specs.Reading.EndsReadingOver.{EndsByReplies, OutputFails, NotAnswered, NotSubmitted, OldestForgotten}
use Rattle.nr_client.specs.Requests.{Asks, create_result, mnt_call, mnt_result, symlink_call}
use Rattle.nr_client.specs.Results.{Gives}
use Rattle.nr_client.specs.Steps.{IsLive}
use Rattle.nr_client.specs.Transfers.{LinkBytes}
use Rattle.nr_client.specs.Walking.{parent_next, walk_next}
use Rattle.nr_client.proofs.Turns.{written_now}
use Rattle.nr_client.specs.Writing.{EndsWriting, writing}
use Rattle.nr_client.specs.Writing.EndsWritingOver.{FollowsInput, InputFails}
use Rattle.nr_client.specs.Views.{LinkView}
use Rattle.nr_commands.specs.Commands.{Finds, FindsParent, IsSilent, Mounts, ReadsOut, Symlinks, WritesIn}
use Rattle.nr_commands.specs.Sessions.{Fails, Part, Request, Requests, SessionAt, Text as Prints, Then}
use Rattle.nr_service_laws.specs.ClientMarks.{StandsAt}
use Rattle.nr_service_laws.specs.EndCauses.{CauseAt}
use Rattle.nr_service_laws.specs.ReplyEnds.{AreAnswers}
use Rattle.nr_service_laws.specs.Exchanges.{Exchange, Exchanges, Tells, asked_exchanges, followed_exchanges, made_exchanges, read_exchanges, step_exchanges, steps_exchanges, tells_finds, tells_finds_parent, tells_mounts, tells_none, tells_reads_out, tells_request, tells_requests, tells_symlinks, tells_then, tells_writes_in, within_exchanges, write_exchanges_by}
use Rattle.nr_service_laws.specs.Exchanges.Exchange.{Answered, Forgotten, GivenUp, HandedOver, Submitted}
use Rattle.nr_service_laws.proofs.Judged.{Any, BadParent, Judgement, NextIs, RequestIs, ResultIs, IsReadEnd, answers_more, parent_is, reading_is, walk_is, writing_is}
use Rattle.nr_service_laws.proofs.Files.{does_reading_end, does_steps}
use Rattle.nr_service_laws.proofs.OneCall.{client_still, written_still}
use Rattle.nr_service_laws.proofs.Parts.{Has, has_mounts}

-- ---- Exchanges that are judged

abbrev pub IsOf : List OpenRead → ℕ → Call → Type 0
IsOf [] xid call = ⊥
IsOf (read ∷ open_reads) xid call = ((read.xid ≡ xid) × (read.call ≡ call)) ⊎ IsOf open_reads xid call

-- each outcome that is handed over is judged as one of its call; these READs were submitted before
abbrev pub AreJudged : (Call → Outcome → Type 0) → List OpenRead → List Exchange → Type 0
AreJudged R reads [] = Unit {0}
AreJudged R reads (Answered call outcome ∷ rest) = R call outcome × AreJudged R reads rest
AreJudged R reads (Forgotten call ∷ rest) = AreJudged R reads rest
AreJudged R reads (Submitted xid call ∷ rest) = AreJudged R (record { xid = xid; call = call } ∷ reads) rest
AreJudged R reads (HandedOver xid outcome ∷ rest) = ((call : Call) → IsOf reads xid call → R call outcome) × AreJudged R reads rest
AreJudged R reads (GivenUp xid ∷ rest) = AreJudged R reads rest

abbrev pub reads_after : List OpenRead → List Exchange → List OpenRead
reads_after reads [] = reads
reads_after reads (Submitted xid call ∷ rest) = reads_after (record { xid = xid; call = call } ∷ reads) rest
reads_after reads (Answered call outcome ∷ rest) = reads_after reads rest
reads_after reads (Forgotten call ∷ rest) = reads_after reads rest
reads_after reads (HandedOver xid outcome ∷ rest) = reads_after reads rest
reads_after reads (GivenUp xid ∷ rest) = reads_after reads rest

pub judged_both : (R : Call → Outcome → Type 0) (reads : List OpenRead) (made later : List Exchange) → AreJudged R reads (made ++ later) → AreJudged R reads made × AreJudged R (reads_after reads made) later
judged_both R reads [] later are = (tt, are)
judged_both R reads (Answered call outcome ∷ rest) later (is, are) = let both = judged_both R reads rest later are in ((is, both.0), both.1)
judged_both R reads (Forgotten call ∷ rest) later are = judged_both R reads rest later are
judged_both R reads (Submitted xid call ∷ rest) later are = judged_both R (record { xid = xid; call = call } ∷ reads) rest later are
judged_both R reads (HandedOver xid outcome ∷ rest) later (is, are) = let both = judged_both R reads rest later are in ((is, both.0), both.1)
judged_both R reads (GivenUp xid ∷ rest) later are = judged_both R reads rest later are

-- ---- Ends

abbrev pub EndsAs : (ClientEnd → Type 0) → ClientEnd → LinkView → Type 0
EndsAs F client.DialFault v = ⊥
EndsAs F (client.Link end) v = CauseAt end v
EndsAs F client.Memory v = Unit {0}
EndsAs F end v = F end

abbrev pub GivenIs : {A : Type 0} → (A → Type 0) → (ClientEnd → Type 0) → Result A ClientEnd → LinkView → Type 0
GivenIs V F (Ok value) v = V value
GivenIs V F (Err end) v = EndsAs F end v

end_is : (F : ClientEnd → Type 0) (end : ClientEnd) (b : LinkView) → IsReadEnd F end → EndsAs F end b
end_is F client.DialFault b is = is
end_is F (client.Link end) b is = absurd is
end_is F (client.Rpc kind code) b is = is
end_is F (client.Mount status) b is = is
end_is F (client.Nfs status) b is = is
end_is F client.Chunk b is = is
end_is F (client.Version low high) b is = is
end_is F (client.BadReply at reason) b is = is
end_is F (client.BadPath at) b is = is
end_is F client.InputFault b is = absurd is
end_is F client.OutputFault b is = absurd is
end_is F (client.Budget count) b is = is
end_is F client.Memory b is = tt

read_is : {A : Type 0} (V : A → Type 0) (F : ClientEnd → Type 0) (result : Result A ClientEnd) (b : LinkView) → ResultIs V F result → GivenIs V F result b
read_is V F (Ok value) b is = is
read_is V F (Err end) b is = end_is F end b is

-- what is given is what is read, or memory ran out
given_or_memory : {A : Type 0} (given read : Result A ClientEnd) → Gives given read → (given ≡ Err client.Memory) ⊎ (read ≡ given)
given_or_memory (Ok value) read gives = inr gives
given_or_memory (Err client.DialFault) read gives = inr gives
given_or_memory (Err (client.Link end)) read gives = inr gives
given_or_memory (Err (client.Rpc kind code)) read gives = inr gives
given_or_memory (Err (client.Mount status)) read gives = inr gives
given_or_memory (Err (client.Nfs status)) read gives = inr gives
given_or_memory (Err client.Chunk) read gives = inr gives
given_or_memory (Err (client.Version low high)) read gives = inr gives
given_or_memory (Err (client.BadReply at reason)) read gives = inr gives
given_or_memory (Err (client.BadPath at)) read gives = inr gives
given_or_memory (Err client.InputFault) read gives = inr gives
given_or_memory (Err client.OutputFault) read gives = inr gives
given_or_memory (Err (client.Budget count)) read gives = inr gives
given_or_memory (Err client.Memory) read gives = inl refl

gives_is : {A : Type 0} (V : A → Type 0) (F : ClientEnd → Type 0) (given read : Result A ClientEnd) (b : LinkView) → Gives given read → ResultIs V F read → GivenIs V F given b
gives_is {A} V F given read b gives is = by (given_or_memory given read gives)
  where
    by : (given ≡ Err client.Memory) ⊎ (read ≡ given) → GivenIs V F given b
    by (inl same) = subst (λ (r : Result A ClientEnd). GivenIs V F r b) (sym same) tt
    by (inr same) = read_is V F given b (subst (λ (r : Result A ClientEnd). ResultIs V F r) same is)

link_cause_at : (end : CallEnd) (b : LinkView) → LinkCause end b.bytes.left b.bytes.read b.requester → CauseAt end b
link_cause_at (calls.Ended end) b cause = inr cause
link_cause_at calls.LinkRead b cause = cause
link_cause_at calls.LinkWrite b cause = tt
link_cause_at calls.Closed b cause = cause
link_cause_at (calls.Tries n) b cause = absurd cause
link_cause_at calls.DialFault b cause = absurd cause
link_cause_at (calls.Spent left_over need) b cause = absurd cause
link_cause_at (calls.TooLarge need room) b cause = absurd cause
link_cause_at (calls.Budget count) b cause = cause
link_cause_at calls.Memory b cause = tt

cause_at : (end : CallEnd) (b : LinkView) (call : Call) → IsCauseIn end b call → CauseAt end b
cause_at (calls.Ended end) b call cause = inr cause
cause_at calls.LinkRead b call cause = cause
cause_at calls.LinkWrite b call cause = tt
cause_at calls.Closed b call cause = cause
cause_at (calls.Tries n) b call cause = absurd cause
cause_at calls.DialFault b call cause = absurd cause
cause_at (calls.Spent left_over need) b call cause = (call, cause)
cause_at (calls.TooLarge need room) b call cause = (call, cause)
cause_at (calls.Budget count) b call cause = cause
cause_at calls.Memory b call cause = tt

unanswered_is : (F : ClientEnd → Type 0) (call : Call) (b c : LinkView) (end : ClientEnd) → Unanswered call b c end → EndsAs F end c
unanswered_is F call b c end (inl (cause, (is, (gives_up, why)))) = subst (λ (e : ClientEnd). EndsAs F e c) (sym is) (cause_at cause c call why)
unanswered_is F call b c end (inr (is, same)) = subst (λ (e : ClientEnd). EndsAs F e c) (sym is) tt

-- ---- Requests

asks_is : {A : Type 0} (R : Call → Outcome → Type 0) (V : A → Type 0) (F : ClientEnd → Type 0) (reads : Outcome → Result A ClientEnd) (call : Call) (b c : LinkView) (result : Result A ClientEnd)
    (asks : Asks reads call b c result) (before : List OpenRead) → ((o : Outcome) → R call o → ResultIs V F (reads o)) → AreJudged R before (asked_exchanges reads call b c result asks).made → GivenIs V F result c
asks_is R V F reads call b c result (inl (outcome, (answers, gives))) before judge are = gives_is V F result (reads outcome) c gives (judge outcome are.0)
asks_is {A} R V F reads call b c result (inr (inl (cause, (is, (gives_up, why))))) before judge are =
    subst (λ (r : Result A ClientEnd). GivenIs V F r c) (sym is) (cause_at cause c call why)
asks_is {A} R V F reads call b c result (inr (inr (is, same))) before judge are = subst (λ (r : Result A ClientEnd). GivenIs V F r c) (sym is) tt

pub answers_of : {A : Type 0} (R : Call → Outcome → Type 0) (request : List Outcome → Next A) (outcomes : List Outcome) (b c : LinkView) (made : MakesCalls request outcomes b c) (before : List OpenRead)
    → AreJudged R before (made_exchanges request outcomes b c made).made → AreAnswers R request outcomes
answers_of R request [] b c made before are = tt
answers_of R request (outcome ∷ outcomes) b c (call, d, (is, (answers, rest))) before (judged, are) =
    ((call, (is, judged)), answers_of R (λ later. request (outcome ∷ later)) outcomes d c rest before are)

ends_is : {A : Type 0} (V : A → Type 0) (F : ClientEnd → Type 0) (next : Next A) (b c : LinkView) (given : Result A ClientEnd) → EndsWith next b c given → NextIs V F next → GivenIs V F given c
ends_is V F (Returns result) b c given (gives, same) is = gives_is V F given result c gives is
ends_is {A} V F (Calls call) b c given (end, (same, gone)) is = subst (λ (r : Result A ClientEnd). GivenIs V F r c) (sym same) (unanswered_is F call b c end gone)

follows_is : {A : Type 0} (R : Call → Outcome → Type 0) (V : A → Type 0) (F : ClientEnd → Type 0) (request : List Outcome → Next A) (b c : LinkView) (given : Result A ClientEnd)
    (f : Follows request b c given) (before : List OpenRead) → RequestIs R V F request → AreJudged R before (followed_exchanges request b c given f).made → GivenIs V F given c
follows_is R V F request b c given f before judge are =
    let made = (made_exchanges request f.outcomes b f.between f.made).made in
    ends_is V F (request f.outcomes) f.between c given f.ends
    (judge f.outcomes (answers_of R request f.outcomes b f.between f.made before (judged_both R before made _ are).0))

-- ---- A requester whose calls are forgotten

keeps_ended : (opened : LinkParameters) (link : ℕ) (run : List Mark) (v w : LinkView) (xids : List ℕ) → IsLive opened link v.requester run → ForgetsCalls xids v w → w.requester.state.side.ended ≡ v.requester.state.side.ended
keeps_ended opened link run v w [] live same = ap (λ (x : LinkView). x.requester.state.side.ended) same
keeps_ended opened link run v w (xid ∷ xids) live (mid, (forgets, rest)) =
    let next = forgets.0.0 opened link run live in
    keeps_ended opened link (run ++ marks.Forget link xid ∷ []) mid w xids next rest
    ∙ next.stands.keeps.kept.keeps.ended
    ∙ ap (λ e. e.ended) (client_still opened link xid run)
    ∙ sym live.stands.keeps.kept.keeps.ended

-- as many calls stay outstanding
keeps_waiting : (opened : LinkParameters) (link : ℕ) (run : List Mark) (v w : LinkView) (xids : List ℕ) → IsLive opened link v.requester run → ForgetsCalls xids v w
    → length w.requester.state.outstanding ≡ length v.requester.state.outstanding
keeps_waiting opened link run v w [] live same = ap (λ (x : LinkView). length x.requester.state.outstanding) same
keeps_waiting opened link run v w (xid ∷ xids) live (mid, (forgets, rest)) =
    let next = forgets.0.0 opened link run live in
    keeps_waiting opened link (run ++ marks.Forget link xid ∷ []) mid w xids next rest
    ∙ (counts_as_client opened link mid.requester (run ++ marks.Forget link xid ∷ []) next.stands).0
    ∙ ap (λ (e : EndState ClientState). calls_counted e.state) (client_still opened link xid run)
    ∙ sym (counts_as_client opened link v.requester run live.stands).0

-- if all that may be written is written, it stays so
none_left : (xs ys zs : List ℕ) → xs ++ ys ≡ zs → xs ≡ zs → ys ≡ []
none_left xs ys zs all same = nil_from_length ys (let sum = ap length all in let both = length-append xs ys in let one = ap length same in omega (arith, sum, both, one))

keeps_written : (opened : LinkParameters) (link : ℕ) (run : List Mark) (v w : LinkView) (xids : List ℕ) → IsLive opened link v.requester run → ForgetsCalls xids v w
    → queue_of v.requester.state ≡ [] → queue_of w.requester.state ≡ []
keeps_written opened link run v w [] live same none = ap (λ (x : LinkView). queue_of x.requester.state) same ∙ none
keeps_written opened link run v w (xid ∷ xids) live (mid, (forgets, rest)) none =
    let next = forgets.0.0 opened link run live in
    let more = run ++ marks.Forget link xid ∷ [] in
    keeps_written opened link more mid w xids next rest
    (none_left (bytes_sent link Initiator more) (queue_of mid.requester.state) (output_due opened link Initiator more) next.stands.keeps.kept.output
    (written_still opened link xid run (written_now opened link run v.requester none live)))

-- and it refuses the same calls
keeps_answers : (opened : LinkParameters) (link : ℕ) (run : List Mark) (v w : LinkView) (xids : List ℕ) (call : Call) → IsLive opened link v.requester run → ForgetsCalls xids v w
    → answer_of w.requester.state call forms.Auto ≡ answer_of v.requester.state call forms.Auto
keeps_answers opened link run v w [] call live same = ap (λ (x : LinkView). answer_of x.requester.state call forms.Auto) same
keeps_answers opened link run v w (xid ∷ xids) call live (mid, (forgets, rest)) =
    let next = forgets.0.0 opened link run live in
    let more = run ++ marks.Forget link xid ∷ [] in
    keeps_answers opened link more mid w xids call next rest
    ∙ answers_as_client opened link mid.requester more call forms.Auto next.stands
    ∙ ap (λ (e : EndState ClientState). submit_answer e call forms.Auto) (client_still opened link xid run)
    ∙ sym (answers_as_client opened link v.requester run call forms.Auto live.stands)

-- no byte moves
keeps_bytes : (v w : LinkView) (xids : List ℕ) → ForgetsCalls xids v w → w.bytes ≡ v.bytes
keeps_bytes v w [] same = ap (λ (x : LinkView). x.bytes) same
keeps_bytes v w (xid ∷ xids) (mid, (forgets, rest)) = keeps_bytes mid w xids rest ∙ forgets.1.0

-- so a cause stays
record KeepsCause (v w : LinkView) : Type 0 where
  bytes : w.bytes ≡ v.bytes
  ended : w.requester.state.side.ended ≡ v.requester.state.side.ended
  waiting : length w.requester.state.outstanding ≡ length v.requester.state.outstanding
  written : queue_of v.requester.state ≡ [] → queue_of w.requester.state ≡ []
  answers : (call : Call) → answer_of w.requester.state call forms.Auto ≡ answer_of v.requester.state call forms.Auto

keeps_cause : (opened : LinkParameters) (link : ℕ) (run : List Mark) (v w : LinkView) (xids : List ℕ) → IsLive opened link v.requester run → ForgetsCalls xids v w → KeepsCause v w
keeps_cause opened link run v w xids live forgets = record {
  bytes = keeps_bytes v w xids forgets;
  ended = keeps_ended opened link run v w xids live forgets;
  waiting = keeps_waiting opened link run v w xids live forgets;
  written = keeps_written opened link run v w xids live forgets;
  answers = λ call. keeps_answers opened link run v w xids call live forgets;
}

cause_kept : (end : CallEnd) (v w : LinkView) → KeepsCause v w → CauseAt end v → CauseAt end w
cause_kept (calls.Ended end) v w same (inl is) = inl is
cause_kept (calls.Ended end) v w same (inr is) = inr (same.ended ∙ is)
cause_kept calls.LinkRead v w same (is, below) = (same.ended ∙ is, subst (λ (b : LinkBytes). b.read < read_max) (sym same.bytes) below)
cause_kept calls.LinkWrite v w same cause = tt
cause_kept (calls.Tries n) v w same wrong = absurd wrong
cause_kept calls.DialFault v w same wrong = absurd wrong
cause_kept calls.Closed v w same (is, (at_end, (below, (some, none)))) = (
  same.ended ∙ is,
  (
    subst (λ (b : LinkBytes). IsAtEnd b.left) (sym same.bytes) at_end,
    (subst (λ (b : LinkBytes). b.read < read_max) (sym same.bytes) below, (subst (λ (k : ℕ). 0 < k) (sym same.waiting) some, same.written none)),
  ),
)
cause_kept (calls.Spent left_over need) v w same (call, is) = (call, same.answers call ∙ is)
cause_kept (calls.TooLarge need room) v w same (call, is) = (call, same.answers call ∙ is)
cause_kept (calls.Budget count) v w same (is, (all, read)) = (same.ended ∙ is, (all, ap (λ (b : LinkBytes). b.read) same.bytes ∙ read))
cause_kept calls.Memory v w same cause = tt

ends_kept : (F : ClientEnd → Type 0) (end : ClientEnd) (v w : LinkView) → KeepsCause v w → EndsAs F end v → EndsAs F end w
ends_kept F client.DialFault v w same is = is
ends_kept F (client.Link end) v w same is = cause_kept end v w same is
ends_kept F (client.Rpc kind code) v w same is = is
ends_kept F (client.Mount status) v w same is = is
ends_kept F (client.Nfs status) v w same is = is
ends_kept F client.Chunk v w same is = is
ends_kept F (client.Version low high) v w same is = is
ends_kept F (client.BadReply at reason) v w same is = is
ends_kept F (client.BadPath at) v w same is = is
ends_kept F client.InputFault v w same is = is
ends_kept F client.OutputFault v w same is = is
ends_kept F (client.Budget count) v w same is = is
ends_kept F client.Memory v w same is = is

given_kept : (V : Unit {0} → Type 0) (F : ClientEnd → Type 0) (given : Result (Unit {0}) ClientEnd) (v w : LinkView) → KeepsCause v w → GivenIs V F given v → GivenIs V F given w
given_kept V F (Ok value) v w same is = is
given_kept V F (Err end) v w same is = ends_kept F end v w same is

given_out : (V : Unit {0} → Type 0) (F : ClientEnd → Type 0) (given : Result (Unit {0}) ClientEnd) (b : LinkView) → given ≡ Err (client.Link (calls.Ended ends.Memory)) → GivenIs V F given b
given_out V F given b is = subst (λ (r : Result (Unit {0}) ClientEnd). GivenIs V F r b) (sym is) (inl refl)

-- ---- A file that is read

pub AllOf : List OpenRead → List OpenRead → Type 0
AllOf reads [] = Unit {0}
AllOf reads (read ∷ waiting) = IsOf reads read.xid read.call × AllOf reads waiting

pub all_more : (read : OpenRead) (reads waiting : List OpenRead) → AllOf reads waiting → AllOf (read ∷ reads) waiting
unfolding AllOf
all_more read reads [] all = tt
all_more read reads (x ∷ waiting) (is, all) = (inr is, all_more read reads waiting all)

pub all_last : (read : OpenRead) (reads waiting : List OpenRead) → AllOf reads waiting → IsOf reads read.xid read.call → AllOf reads (waiting ++ read ∷ [])
unfolding AllOf
all_last read reads [] all is = (is, tt)
all_last read reads (x ∷ waiting) (one, all) is = (one, all_last read reads waiting all is)

pub record IsReadSoFar (R : Call → Outcome → Type 0) (uid gid : ℕ) (file : List ℕ) (reads : List OpenRead) (s : ReadingAt) : Type 0 where
  pub answers : AreAnswers R (reading uid gid file) s.outcomes
  pub waiting : AllOf reads s.waiting

pub step_judged : (R : Call → Outcome → Type 0) (uid gid : ℕ) (file : List ℕ) (reads : List OpenRead) (s t : ReadingAt) (step : ReadStep uid gid file s t) → IsReadSoFar R uid gid file reads s
    → AreJudged R reads (step_exchanges uid gid file s t step).made → IsReadSoFar R uid gid file (reads_after reads (step_exchanges uid gid file s t step).made) t
unfolding AllOf
step_judged R uid gid file reads s t (MakesAlone call outcome alone answers replies waits) so_far (judged, are) = record {
  answers = subst (λ (os : List Outcome). AreAnswers R (reading uid gid file) os) (sym replies) (answers_more R (reading uid gid file) s.outcomes call outcome so_far.answers alone.0 judged);
  waiting = subst (λ (w : List OpenRead). AllOf reads w) (sym waits) so_far.waiting;
}
step_judged R uid gid file reads s t (AsksAhead read ahead submits replies waits) so_far are = record {
  answers = subst (λ (os : List Outcome). AreAnswers R (reading uid gid file) os) (sym replies) so_far.answers;
  waiting = subst (λ (w : List OpenRead). AllOf (record { xid = read.xid; call = read.call } ∷ reads) w) (sym waits)
      (all_last read (record { xid = read.xid; call = read.call } ∷ reads) s.waiting (all_more (record { xid = read.xid; call = read.call }) reads s.waiting so_far.waiting) (inl (refl, refl)));
}
step_judged R uid gid file reads s t (TakesOldest read outcome full is completes replies waits) so_far (judged, are) =
    let all = subst (λ (w : List OpenRead). AllOf reads w) waits so_far.waiting in
    record {
      answers = subst (λ (os : List Outcome). AreAnswers R (reading uid gid file) os) (sym replies)
          (answers_more R (reading uid gid file) s.outcomes read.call outcome so_far.answers is (judged read.call all.0));
      waiting = all.1;
    }
step_judged R uid gid file reads s t (Looks looks replies waits) so_far are = record {
  answers = subst (λ (os : List Outcome). AreAnswers R (reading uid gid file) os) (sym replies) so_far.answers;
  waiting = subst (λ (w : List OpenRead). AllOf reads w) (sym waits) so_far.waiting;
}

pub steps_judged : (R : Call → Outcome → Type 0) (uid gid : ℕ) (file : List ℕ) (reads : List OpenRead) (b : LinkView) (states : List ReadingAt) (last : ReadingAt) (leads : LeadsBy uid gid file (starts_at b) states last)
    → AreJudged R reads (steps_exchanges uid gid file (starts_at b) states last leads).made → IsReadSoFar R uid gid file (reads_after reads (steps_exchanges uid gid file (starts_at b) states last leads).made) last
unfolding AllOf
steps_judged R uid gid file reads b [] last same are = subst (λ (s : ReadingAt). IsReadSoFar R uid gid file reads s) (sym same) (record { answers = tt; waiting = tt })
steps_judged R uid gid file reads b (s ∷ states) last (step, leads) are =
    let before = (steps_exchanges uid gid file (starts_at b) states s leads).made in
    let one = (step_exchanges uid gid file s last step).made in
    let both = judged_both R reads before one are in
    subst (λ (r : List OpenRead). IsReadSoFar R uid gid file r last) (sym (after_both reads before one))
    (step_judged R uid gid file (reads_after reads before) s last step (steps_judged R uid gid file reads b states s leads both.0) both.1)
  where
    after_both : (rs : List OpenRead) (made later : List Exchange) → reads_after rs (made ++ later) ≡ reads_after (reads_after rs made) later
    after_both rs [] later = refl
    after_both rs (Answered call outcome ∷ rest) later = after_both rs rest later
    after_both rs (Forgotten call ∷ rest) later = after_both rs rest later
    after_both rs (Submitted xid call ∷ rest) later = after_both (record { xid = xid; call = call } ∷ rs) rest later
    after_both rs (HandedOver xid outcome ∷ rest) later = after_both rs rest later
    after_both rs (GivenUp xid ∷ rest) later = after_both rs rest later

returned_is : (F : ClientEnd → Type 0) (given : Result (Unit {0}) ClientEnd) (next : Next (Unit {0})) (b : LinkView) → NextIs Any F next → (given ≡ Err client.Memory) ⊎ (next ≡ Returns given) → GivenIs Any F given b
returned_is F given next b is (inl same) = subst (λ (r : Result (Unit {0}) ClientEnd). GivenIs Any F r b) (sym same) tt
returned_is F given next b is (inr same) = read_is Any F given b (subst (λ (n : Next (Unit {0})). NextIs Any F n) same is)

reading_end_is : (F : ClientEnd → Type 0) (uid gid : ℕ) (file : List ℕ) (s : ReadingAt) (left : List OpenRead) (b : LinkView) (taken taken' : Option (List ℕ)) (given : Result (Unit {0}) ClientEnd)
    → EndsReading uid gid file s left b taken taken' given → (given ≡ Err client.OutputFault → F client.OutputFault) → NextIs Any F (reading uid gid file s.outcomes) → GivenIs Any F given b
reading_end_is F uid gid file s left b taken taken' given (EndsByReplies same is waits takes) fault next = returned_is F given (reading uid gid file s.outcomes) b next is
reading_end_is F uid gid file s left b taken taken' given (OutputFails is same waits takes) fault next = subst (λ (r : Result (Unit {0}) ClientEnd). GivenIs Any F r b) (sym is) (fault is)
reading_end_is F uid gid file s left b taken taken' given (NotAnswered call end alone is gone waits takes) fault next =
    subst (λ (r : Result (Unit {0}) ClientEnd). GivenIs Any F r b) (sym is) (unanswered_is F call s.link b end gone)
reading_end_is F uid gid file s left b taken taken' given (NotSubmitted call end ahead is refused waits takes) fault next =
    subst (λ (r : Result (Unit {0}) ClientEnd). GivenIs Any F r b) (sym is) (cause_at end b call refused.1)
reading_end_is F uid gid file s left b taken taken' given (OldestForgotten read end full is given_is forgets waits takes) fault next =
    subst (λ (r : Result (Unit {0}) ClientEnd). GivenIs Any F r b) (sym given_is) (link_cause_at end b forgets.1)

-- ---- Parts

pub live_after : {A : Type 0} (value : A) (opened : LinkParameters) (link : ℕ) (h : RequesterSide) (ahead : List ℕ) (run : List Mark) → StandsAt {A = A} (Ok value) opened link h ahead run → IsLive opened link h run
live_after value opened link h ahead run (inl (live, fed)) = live
live_after value opened link h ahead run (inr (is, out)) = absurd (let wrong = is in cc)

reads_is : (R : Call → Outcome → Type 0) (F : ClientEnd → Type 0) (uid gid : ℕ) (file : List ℕ) (b c : LinkView) (taken taken' : Option (List ℕ)) (given : Result (Unit {0}) ClientEnd)
    (f : ReadsFile uid gid file b c taken taken' given) (before : List OpenRead) (opened : LinkParameters) (link : ℕ) (run : List Mark) → (given ≡ Err client.OutputFault → F client.OutputFault) → RequestIs R Any F (reading uid gid file)
    → IsOpened opened → IsLive opened link b.requester run → AreJudged R before (read_exchanges uid gid file b c taken taken' given f).made → GivenIs Any F given c
reads_is R F uid gid file b c taken taken' given f before opened link run fault judge fine live are =
    let steps = (steps_exchanges uid gid file (starts_at b) f.between f.last f.made).made in
    let so_far = steps_judged R uid gid file before b f.between f.last f.made (judged_both R before steps _ are).0 in
    let end = reading_end_is F uid gid file f.last f.left f.ended taken taken' given f.ends fault (judge f.last.outcomes so_far.answers) in
    let done = does_steps uid gid file (starts_at b) f.between f.last f.made opened link run fine live in
    let there = live_after {A = Unit {0}} tt opened link f.last.link.requester done.ahead (run ++ done.more) done.stands in
    let last = does_reading_end uid gid file f.last f.left f.ended taken taken' given f.ends opened link (run ++ done.more) fine there in
    by last.ahead ((run ++ done.more) ++ last.more) last.stands end
  where
    by : (ahead : List ℕ) (all : List Mark) → StandsAt given opened link f.ended.requester ahead all → GivenIs Any F given f.ended → GivenIs Any F given c
    by ahead all (inl (stands, fed)) is = given_kept Any F given f.ended c (keeps_cause opened link all f.ended c (xids_of f.left) stands f.forgets) is
    by ahead all (inr (out, stands)) is = given_out Any F given c out

-- what each part gives, with the cause of its end
abbrev pub PartIs : (Call → Outcome → Type 0) → {A : Type 0} → (A → Type 0) → (ClientEnd → Type 0) → (part : Part A) → Tells part → Type 0
PartIs R {A} V F part exchanges =
    (s s' : SessionAt) (result : Result A ClientEnd) (is : part s s' result) (before : List OpenRead) (opened : LinkParameters) (link : ℕ) (run : List Mark) → IsOpened opened → IsLive opened link s.requester run
    → AreJudged R before (exchanges s s' result is).made → GivenIs V F result s'

pub text_is : (R : Call → Outcome → Type 0) (F : ClientEnd → Type 0) (text : List ℕ) → PartIs R Any F (Prints text) (tells_none (Prints text))
text_is R F text s s' (Ok t) (same, is) before opened link run fine live are = tt
text_is R F text s s' (Err end) (same, is) before opened link run fine live are = subst (λ (e : ClientEnd). EndsAs F e s') (sym is) tt

pub request_is : {A : Type 0} (R : Call → Outcome → Type 0) (V : A → Type 0) (F : ClientEnd → Type 0) (reads : Outcome → Result A ClientEnd) (call : Call) → ((o : Outcome) → R call o → ResultIs V F (reads o))
    → PartIs R V F (Request reads call) (tells_request reads call)
request_is R V F reads call judge s s' result is before opened link run fine live are = asks_is R V F reads call s s' result is.0 before judge are

pub requests_is : {A : Type 0} (R : Call → Outcome → Type 0) (V : A → Type 0) (F : ClientEnd → Type 0) (request : List Outcome → Next A) → RequestIs R V F request → PartIs R V F (Requests request) (tells_requests request)
requests_is R V F request judge s s' result is before opened link run fine live are = follows_is R V F request s s' result is.0 before judge are

pub then_is : {A B : Type 0} (R : Call → Outcome → Type 0) (V : A → Type 0) (W : B → Type 0) (F : ClientEnd → Type 0) (first : Part A) (next : A → Part B) (exchanges : Tells first) (later : (value : A) → Tells (next value))
    → Has first exchanges → PartIs R V F first exchanges → ((value : A) → V value → PartIs R W F (next value) (later value)) → PartIs R W F (Then first next) (tells_then first next exchanges later)
then_is {A} R V W F first next exchanges later has judge goes_on s s' result (inl (value, (mid, (is, goes)))) before opened link run fine live are =
    let both = judged_both R before (exchanges s mid (Ok value) is).made (later value mid s' result goes).made are in
    let done = has s mid (Ok value) is opened link run fine live in
    goes_on value (judge s mid (Ok value) is before opened link run fine live both.0) mid s' result goes (reads_after before (exchanges s mid (Ok value) is).made) opened link (run ++ done.more) fine
    (live_after {A = A} value opened link mid.requester done.ahead (run ++ done.more) done.stands) both.1
then_is {A} {B} R V W F first next exchanges later has judge goes_on s s' result (inr (end, (is, same))) before opened link run fine live are =
    subst (λ (r : Result B ClientEnd). GivenIs W F r s') (sym same) (judge s s' (Err end) is before opened link run fine live are)

within_is : (above : Bool) (Above Within Is : Type 0) (exchanges : Within → Exchanges) (J : List Exchange → Type 0) → (above ≡ true → Above → Is) → ((is : Within) → J (exchanges is).made → Is)
    → (is : MatchBool above Above Within) → J (within_exchanges above Above Within exchanges is).made → Is
within_is true Above Within Is exchanges J beyond within is are = beyond refl is
within_is false Above Within Is exchanges J beyond within is are = within is are

module _ (R : Call → Outcome → Type 0) (V : List ℕ → Type 0) (F : ClientEnd → Type 0) (uid gid : ℕ) (judge : Judgement R V F uid gid) where
  fails_is : {A : Type 0} (W : A → Type 0) (count : ℕ) (s s' : SessionAt) (result : Result A ClientEnd) → F (client.Budget count) → Fails (client.Budget count) s s' result → GivenIs W F result s'
  fails_is {A} W count s s' result over (same, is) = subst (λ (r : Result A ClientEnd). GivenIs W F r s') (sym is) over

  pub mounts_is : (export : List ℕ) → (mount_path_max < length export → F (client.Budget mount_path_max)) → PartIs R V F (Mounts uid gid export) (tells_mounts uid gid export)
  mounts_is export over s s' result is before opened link run fine live are =
      within_is (nat_lt mount_path_max (length export)) (Fails (client.Budget mount_path_max) s s' result) (Request mnt_result (mnt_call uid gid export) s s' result)
      (GivenIs V F result s') (tells_request mnt_result (mnt_call uid gid export) s s' result) (AreJudged R before)
      (λ above. fails_is V mount_path_max s s' result (over (ltb-true mount_path_max (length export) above)))
      (λ made judged. request_is R V F mnt_result (mnt_call uid gid export) (judge.mounted export) s s' result made before opened link run fine live judged) is are

  pub symlinks_is : (dir name target : List ℕ) → (link_target_max < length target → F (client.Budget link_target_max)) → PartIs R Any F (Symlinks uid gid dir name target) (tells_symlinks uid gid dir name target)
  symlinks_is dir name target over s s' result is before opened link run fine live are =
      within_is (nat_lt link_target_max (length target)) (Fails (client.Budget link_target_max) s s' result) (Request create_result (symlink_call uid gid dir name target) s s' result)
      (GivenIs Any F result s') (tells_request create_result (symlink_call uid gid dir name target) s s' result) (AreJudged R before)
      (λ above. fails_is Any link_target_max s s' result (over (ltb-true link_target_max (length target) above)))
      (λ made judged. request_is R Any F create_result (symlink_call uid gid dir name target) (judge.link_made dir name target) s s' result made before opened link run fine live judged) is are

  pub finds_is : (export path : List ℕ) → (mount_path_max < length export → F (client.Budget mount_path_max)) → ((at : ℕ) → path_names path ≡ Err (client.BadPath at) → F (client.BadPath at))
      → PartIs R V F (Finds uid gid export path) (tells_finds uid gid export path)
  finds_is export path over bad =
      then_is R V V F (Mounts uid gid export) (λ root. Requests (walk_next uid gid root path)) (tells_mounts uid gid export) (λ root. tells_requests (walk_next uid gid root path))
      (has_mounts uid gid export) (mounts_is export over) (λ root holds. requests_is R V F (walk_next uid gid root path) (walk_is R V F uid gid judge root path holds bad))

  pub finds_parent_is : (export path : List ℕ) → (mount_path_max < length export → F (client.Budget mount_path_max)) → BadParent F path → PartIs R (λ (p : List ℕ × List ℕ). V p.0) F (FindsParent uid gid export path) (tells_finds_parent uid gid export path)
  finds_parent_is export path over bad =
      then_is R V (λ (p : List ℕ × List ℕ). V p.0) F (Mounts uid gid export) (λ root. Requests (parent_next uid gid root path)) (tells_mounts uid gid export) (λ root. tells_requests (parent_next uid gid root path))
      (has_mounts uid gid export) (mounts_is export over)
      (λ root holds. requests_is R (λ (p : List ℕ × List ℕ). V p.0) F (parent_next uid gid root path) (parent_is R V F uid gid judge root path holds bad))

  -- parts that have no text
  silent_is : (s' : SessionAt) (done : Result (Unit {0}) ClientEnd) (text : Result (List ℕ) ClientEnd) → IsSilent done text → GivenIs Any F done s' → GivenIs Any F text s'
  silent_is s' (Ok done) (Ok text) silent is = tt
  silent_is s' (Ok done) (Err why) silent is = absurd silent
  silent_is s' (Err end) (Ok text) silent is = absurd silent
  silent_is s' (Err end) (Err why) silent is = subst (λ (e : ClientEnd). EndsAs F e s') (sym silent) is

  output_rose : (done : Result (Unit {0}) ClientEnd) (before after : ℕ) → OutputFaults done before after → done ≡ Err client.OutputFault → Rises before after
  output_rose done before after counts is = subst (λ (r : Result (Unit {0}) ClientEnd). OutputFaults r before after) is counts

  input_rose : (done : Result (Unit {0}) ClientEnd) (before after : ℕ) → InputFaults done before after → done ≡ Err client.InputFault → Rises before after
  input_rose done before after counts is = subst (λ (r : Result (Unit {0}) ClientEnd). InputFaults r before after) is counts

  pub reads_out_is : (file : List ℕ) (out out' : SinkAt) → (Rises out.faults out'.faults → F client.OutputFault) → V file → PartIs R Any F (ReadsOut uid gid file out out') (tells_reads_out uid gid file out out')
  reads_out_is file out out' fault holds s s' text (done, ((reads, counts), silent)) before opened link run fine live are =
      silent_is s' done text silent
      (reads_is R F uid gid file s s' out.taken out'.taken done reads before opened link run (λ is. fault (output_rose done out.faults out'.faults counts.0 is))
      (reading_is R V F uid gid judge file holds) fine live are)

  writes_is : (dir name handed rest : List ℕ) (b c : LinkView) (result : Result (Unit {0}) ClientEnd) (w : EndsWriting uid gid dir name handed rest b c result)
      (before : List OpenRead) → (input_max < length (handed ++ rest) → F (client.Budget input_max)) → (result ≡ Err client.InputFault → F client.InputFault) → AreJudged R before (write_exchanges_by uid gid dir name handed rest b c result w).made → GivenIs Any F result c
  writes_is dir name handed rest b c result (FollowsInput follows count ahead) before over fault are =
      follows_is R Any F (writing uid gid dir name (handed ++ rest)) b c result follows before (writing_is R V F uid gid judge dir name (handed ++ rest) over) are
  writes_is dir name handed rest b c result (InputFails outcomes is made ahead) before over fault are = subst (λ (r : Result (Unit {0}) ClientEnd). GivenIs Any F r c) (sym is) (fault is)

  -- an input that was read is its bytes
  whole_input : (handed rest : List ℕ) (left left' : Option (List ℕ)) → Consumes left left' handed → IfSome left' (λ known. rest ≡ known) → input_max < length (handed ++ rest) → IfSome left (λ known. input_max < length known)
  whole_input handed rest None left' takes is long = tt
  whole_input handed rest (Some left) None takes is long = absurd takes
  whole_input handed rest (Some left) (Some known) takes is long =
      subst (λ (bytes : List ℕ). input_max < length bytes) (ap (λ (r : List ℕ). handed ++ r) is ∙ sym takes) long

  pub writes_in_is : (dir name : List ℕ) (input input' : SourceAt) → (IfSome input.left (λ known. input_max < length known) → F (client.Budget input_max)) → (Rises input.faults input'.faults → F client.InputFault) → PartIs R Any F (WritesIn uid gid dir name input input') (tells_writes_in uid gid dir name input input')
  writes_in_is dir name input input' over fault s s' text (done, ((writes, counts), silent)) before opened link run fine live are =
      silent_is s' done text silent (writes_is dir name writes.handed writes.rest s s' done writes.calls before
      (λ long. over (whole_input writes.handed writes.rest input.left input'.left writes.hands_out.from_left writes.is_rest long)) (λ is. fault (input_rose done input.faults input'.faults counts.0 is)) are)
