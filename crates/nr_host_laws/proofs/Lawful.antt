-- The marks of a connection that memory didn't end, with one Wrote before each piece: the law of a link's server holds of them in full.
use Rattle.std.proofs.Common.{◌≡◌, ℕ, ◌+◌, ◌<◌, ◌⊎◌, inl, inr, List, [], ◌++◌, length, Option, None, Some, refl, sym, ap, subst, ◌∙◌}
use Rattle.nr_outside.specs.Content.{HandsOut}
use Rattle.nr_outside.specs.declared.moment.Moment.{Moment}
use Rattle.nr_wire.specs.declared.hello.Side.TheVariants.{Initiator}
use Rattle.nr_link.specs.declared.end.End.{End}
use Rattle.nr_link.specs.Input.{input_of}
use Rattle.nr_link.specs.Agreement.{default_terms, terms_with}
use Rattle.nr_reduce.specs.declared.mark.Mark.{Mark}
use Rattle.nr_reduce.specs.declared.mark.LinkParameters.{LinkParameters}
use Rattle.nr_reduce.specs.Asked.{IsAll}
use Rattle.nr_reduce.specs.AtEachMark.{AtEachMark}
use Rattle.nr_reduce.specs.EndRules.{EndState}
use Rattle.nr_reduce.specs.Matched.{IsPrefixOf}
use Rattle.nr_reduce.specs.Run.{server}
use Rattle.nr_reduce.specs.Served.{Served, ServedMark, next_call}
use Rattle.nr_reduce.specs.ServerState.{ServerState}
use Rattle.nr_reduce.proofs.SoFarLaws.{AtEachMark_each, served_mark}
use Rattle.nr_link.specs.Frames.{frames_of}
use Rattle.nr_reduce.specs.NumberedJournal.{number_heard, number_in_frames}
use Rattle.nr_host.specs.Turns.{Taken}
use Rattle.nr_host.specs.Connections.{FrameMark, IsOwn, IsQuiet, Outside, QuietMark, Runs, Takes, WriteMark, IsOpenedWith}
use Rattle.nr_host.specs.Ending.{IsCause, IsIdle, begun_bytes, open_calls}
use Rattle.nr_host.specs.Steps.{with_failed}
use Rattle.nr_host.specs.declared.connection_limits.ConnectionLimits.{ConnectionLimits}
use Rattle.nr_host.specs.declared.conn_end.ConnEnd.{ConnEnd}
use Rattle.nr_host.specs.declared.conn_end.ConnEnd.TheVariants as ends
use Rattle.nr_host_laws.specs.Laws.{ConnectionsKeepTheLaw}
use Rattle.nr_host_laws.proofs.Merged.{KeepsTo, both, merge, merged, quiet_same}
use Rattle.nr_host_laws.proofs.WholeWrites.{IsSame}

-- ---- The causes

idle_same : (opened : LinkParameters) (link : ℕ) (run run' : List Mark) → IsSame opened link run run' → IsIdle opened link run → IsIdle opened link run'
idle_same opened link run run' h idle = record {
  quiet = quiet_same opened link run run' h idle.quiet;
  live = ap (λ (e : EndState ServerState). e.ended) h.state ∙ idle.live;
}

cause_same : (opened : LinkParameters) (link : ℕ) (run run' : List Mark) (left : Option (List ℕ)) (end : ConnEnd) → IsSame opened link run run' → IsCause opened link run left end
    → IsCause opened link run' left end
cause_same opened link run run' left ends.Closed h (idle, (at, (begun, calls))) =
    (idle_same opened link run run' h idle, (at, (ap (λ (l : List ℕ). length (input_of Initiator l).rest) h.received ∙ begun, ap (λ (e : EndState ServerState). length e.state.calls) h.state ∙ calls)))
cause_same opened link run run' left (ends.Cut at calls) h (idle, (ended, (at_is, (calls_is, some)))) =
    (idle_same opened link run run' h idle, (ended, (at_is ∙ ap (λ (l : List ℕ). length l) (sym h.received), (calls_is ∙ sym (ap (λ (e : EndState ServerState). length e.state.calls) h.state), by some))))
  where
    by : (0 < begun_bytes link run) ⊎ (0 < open_calls opened link run) → (0 < begun_bytes link run') ⊎ (0 < open_calls opened link run')
    by (inl more) = inl (subst (λ (l : List ℕ). 0 < length (input_of Initiator l).rest) (sym h.received) more)
    by (inr more) = inr (subst (λ (e : EndState ServerState). 0 < length e.state.calls) (sym h.state) more)
cause_same opened link run run' left ends.LinkRead h idle = idle_same opened link run run' h idle
cause_same opened link run run' left ends.LinkWrite h quiet = quiet_same opened link run run' h quiet
cause_same opened link run run' left (ends.Protocol end) h (ended, written) = (ap (λ (e : EndState ServerState). e.ended) h.state ∙ ended, h.sent ∙ written ∙ sym h.due)
cause_same opened link run run' left (ends.Budget read) h (idle, (read_is, most)) =
    (idle_same opened link run run' h idle, (read_is, ap (λ (l : List ℕ). length l) h.received ∙ most))
cause_same opened link run run' left ends.Memory h cause = tt

none_waits : (opened : LinkParameters) (link : ℕ) (run : List Mark) (end : End) → (server opened link run).ended ≡ Some end → next_call opened link run ≡ None
unfolding next_call
none_waits opened link run end over = rw over refl

-- so all is written and executed, unless memory ran out
quiet_at : (opened : LinkParameters) (link : ℕ) (run : List Mark) (left : Option (List ℕ)) (end : ConnEnd) → (end ≡ ends.Memory → ⊥) → IsCause opened link run left end
    → IsQuiet opened link run
quiet_at opened link run left ends.Closed other cause = cause.0.quiet
quiet_at opened link run left (ends.Cut at calls) other cause = cause.0.quiet
quiet_at opened link run left ends.LinkRead other cause = cause.quiet
quiet_at opened link run left (ends.Budget read) other cause = cause.0.quiet
quiet_at opened link run left ends.LinkWrite other cause = cause
quiet_at opened link run left (ends.Protocol end) other cause = record { written = cause.1; executed = none_waits opened link run end cause.0 }
quiet_at opened link run left ends.Memory other cause = absurd (other refl)

-- ---- The marks

-- parameters of a link whose server has these limits
abbrev pub with_limits : ConnectionLimits → LinkParameters
with_limits limits = record { first_xid = 1; first_stag = 1; wished = 1; granted = limits.credits; low = limits.low; receives = limits.credits; client = default_terms; server = terms_with limits.units limits.invalidates; resumed = []; agreed = None }

module _ (limits : ConnectionLimits) (read link : ℕ) (before now : Outside) (ahead : List ℕ) (more : List Moment) (run : List Mark) (r : Runs limits read link before now ahead more run)
    (all : (opened : LinkParameters) → IsOpenedWith limits opened → IsQuiet opened link run) where
  as_whole : (opened : LinkParameters) → IsOpenedWith limits opened → AtEachMark (KeepsTo IsAll opened link) [] (merge link [] run) × IsSame opened link run (merge link [] run)
  as_whole opened is =
      let each : AtEachMark (KeepsTo IsPrefixOf opened link) [] run =
      both (λ earlier mark. IsOwn link mark) (λ b m. ServedMark IsPrefixOf opened link b m × (QuietMark opened link b m × (WriteMark opened link b m × FrameMark opened link b m))) [] run r.own
      (both (ServedMark IsPrefixOf opened link) (λ b m. QuietMark opened link b m × (WriteMark opened link b m × FrameMark opened link b m)) [] run (r.served opened is)
      (both (QuietMark opened link) (λ b m. WriteMark opened link b m × FrameMark opened link b m) [] run (r.quiet opened is)
      (both (WriteMark opened link) (FrameMark opened link) [] run (r.writes opened is) (r.frames opened is)))) in
      let first : IsSame opened link [] [] = record { state = refl; due = refl; sent = refl; received = refl; handled = refl } in
      merged opened link [] [] [] run each (all opened is) (inl (first, refl))

  same_run : IsSame (with_limits limits) link run (merge link [] run)
  same_run = (as_whole (with_limits limits) (refl, refl, refl, refl)).1

  same_number : number_heard (merge link [] run) link ≡ number_heard run link
  unfolding number_heard
  same_number = ap (λ (bytes : List ℕ). number_in_frames (frames_of Initiator bytes)) same_run.received

  pub merged_runs : Runs limits read link before now ahead more (merge link [] run)
  merged_runs = record {
    own = AtEachMark_each (KeepsTo IsAll (with_limits limits) link) (λ earlier mark. IsOwn link mark) [] (merge link [] run) (λ b m h. h.0) (as_whole (with_limits limits) (refl, refl, refl, refl)).0;
    handed = subst (λ (l : List ℕ). HandsOut before.left before.given now.left now.given (l ++ ahead)) (sym same_run.received) r.handed;
    taken = subst (λ (l : List ℕ). Takes before.sink now.sink l) (sym same_run.sent) r.taken;
    served = λ opened is. AtEachMark_each (KeepsTo IsAll opened link) (ServedMark IsPrefixOf opened link) [] (merge link [] run) (λ b m h. served_mark opened link b m h.1.0) (as_whole opened is).0;
    quiet = λ opened is. AtEachMark_each (KeepsTo IsAll opened link) (QuietMark opened link) [] (merge link [] run) (λ b m h. h.1.1.0) (as_whole opened is).0;
    writes = λ opened is. AtEachMark_each (KeepsTo IsAll opened link) (WriteMark opened link) [] (merge link [] run) (λ b m h. h.1.1.1.0) (as_whole opened is).0;
    frames = λ opened is. AtEachMark_each (KeepsTo IsAll opened link) (FrameMark opened link) [] (merge link [] run) (λ b m h. h.1.1.1.1) (as_whole opened is).0;
    turns = r.turns;
    handled = r.handled ∙ sym same_run.handled;
    over = subst (λ (n : ℕ). Taken n before.view r.turns now.view) (sym same_number) r.over;
    greeted = λ some none. r.greeted some (ap (frames_of Initiator) (sym same_run.received) ∙ none);
    gave = r.gave;
    count = ap (λ (l : List ℕ). length l + length ahead) same_run.received ∙ r.count;
  }

  pub merged_served : (opened : LinkParameters) → IsOpenedWith limits opened → Served opened link (merge link [] run)
  merged_served opened is = record {
    each = AtEachMark_each (KeepsTo IsAll opened link) (ServedMark IsAll opened link) [] (merge link [] run) (λ b m h. h.1.0) (as_whole opened is).0;
    written = (as_whole opened is).1.sent ∙ (all opened is).written ∙ sym (as_whole opened is).1.due;
  }

  pub merged_cause : (left : Option (List ℕ)) (end : ConnEnd) → ((opened : LinkParameters) → IsOpenedWith limits opened → IsCause opened link run left end)
      → (opened : LinkParameters) → IsOpenedWith limits opened → IsCause opened link (merge link [] run) left end
  merged_cause left end cause opened is = cause_same opened link run (merge link [] run) left end (as_whole opened is).1 (cause opened is)

pub keep_the_law : ConnectionsKeepTheLaw
keep_the_law limits before after end other served link =
    let (read, (failed, e)) = served link in
    let now : Outside = with_failed failed after in
    let all : (opened : LinkParameters) → IsOpenedWith limits opened → IsQuiet opened link e.run =
    λ opened is. quiet_at opened link e.run after.left end other (e.cause opened is) in (
      read,
      (
        failed,
        (
          record {
            run = merge link [] e.run;
            ahead = e.ahead;
            more = e.more;
            runs = merged_runs limits read link before now e.ahead e.more e.run e.runs all;
            ahead_is = e.ahead_is;
            more_is = e.more_is;
            read_is = e.read_is;
            failed_is = e.failed_is;
            cause = merged_cause limits read link before now e.ahead e.more e.run e.runs all after.left end e.cause;
          },
          merged_served limits read link before now e.ahead e.more e.run e.runs all,
        ),
      ),
    )
