-- A connection, read after read.
use Rattle.std.proofs.Common.{◌≡◌, ℕ, ◌+◌, ◌<◌, ◌≤◌, Bool, true, false, List, [], ◌++◌, length, Option, None, Some, arith, refl, sym, ap, subst, ◌∙◌, append-nil}
use Rattle.std.specs.Io.KnownBytes.{IsAtEnd}
use Rattle.std.proofs.KnownBytes.{Appends-nil}
use Rattle.std.specs.Io.KnownBytes.{Appends}
use Rattle.nr_outside.specs.Content.{HandsOut}
use Rattle.nr_outside.proofs.Moves.{HandsOut_nil}
use Rattle.nr_outside.specs.declared.moment.Moment.{Moment}
use Rattle.nr_endpoint.specs.LinkState.{initial_link}
use Rattle.nr_wire.specs.declared.hello.Side.TheVariants.{Responder}
use Rattle.nr_link.specs.Agreement.{terms_with}
use Rattle.nr_reduce.specs.declared.mark.Mark.{Mark}
use Rattle.nr_reduce.specs.declared.mark.LinkParameters.{LinkParameters}
use Rattle.nr_reduce.specs.History.{bytes_received, bytes_sent}
use Rattle.nr_reduce.specs.NumberedJournal.{number_heard}
use Rattle.nr_responder.specs.ResponderState.{ResponderSide, end_of, opened_side, queue}
use Rattle.nr_responder.specs.Standing.{ResponderRepresents}
use Rattle.nr_plain.specs.History.{PassView}
use Rattle.nr_host.specs.declared.connection_limits.ConnectionLimits.{ConnectionLimits}
use Rattle.nr_host.specs.declared.conn_end.ConnEnd.{ConnEnd}
use Rattle.nr_host.specs.declared.conn_end.ConnEnd.TheVariants as ends
use Rattle.nr_host.specs.Connections.{Outside, Runs, SinkState, GivesAll, handled_in, IsOpenedWith}
use Rattle.nr_links.specs.Limits.{read_max}
use Rattle.nr_host.specs.Ending.{AheadAt, FailedAt, HasRead, IsCause, MoreAt, ReadAt}
use Rattle.nr_host.specs.Steps.{AllQuiet, CarriesTo, EndsIdle, FeedEnds, FeedsTo, IsLive, IsServed, outside, sink_state}
use Rattle.nr_host.proofs.Idle.{facts}
use Rattle.nr_host.proofs.Marks.{read_more}
use Rattle.nr_host.proofs.Quiet.{quiet}
use Rattle.nr_host.proofs.Turning.{taken_none}

module _ (limits : ConnectionLimits) (before : Outside) (left given left' given' : Option (List ℕ)) (sink : SinkState) (gave : Option (List Moment)) (view : PassView) (v : ResponderSide) (read : ℕ)
    (piece : List ℕ) (carries : CarriesTo limits before (outside left given sink gave view) v read) (hands : HandsOut left given left' given' piece) where
  waits : (link : ℕ) (run : List Mark) → IsLive limits read link before (outside left given sink gave view) [] run v
      → IsLive limits (read + length piece) link before (outside left' given' sink gave view) (piece ++ []) run v
  waits link run live = record {
    runs = subst (λ (bytes : List ℕ). Runs limits (read + length piece) link before (outside left' given' sink gave view) bytes [] run) (sym (append-nil piece))
        (read_more limits read link before left given left' given' sink gave view piece run live.runs hands);
    stands = live.stands;
  }

  -- a piece is read and fed
  pub carry_on : (sink' : SinkState) (gave' : Option (List Moment)) (view' : PassView) (v' : ResponderSide)
      → FeedsTo piece [] sink sink' gave gave' view view' v v' → CarriesTo limits before (outside left' given' sink' gave' view') v' (read + length piece)
  carry_on sink' gave' view' v' feeds link =
      let (run, (live, quiet)) = carries link in
      feeds limits (read + length piece) link before left' given' [] run (waits link run live) quiet

  -- the connection ends within the piece
  pub carry_ends : (end : ConnEnd) (taken' : Option (List ℕ)) (faults' : ℕ) (failed : Bool) (gave' : Option (List Moment)) (view' : PassView)
      → HasRead (read + length piece) → FeedEnds end piece sink (sink_state taken' faults' failed) gave gave' view view' v
      → IsServed limits before (outside left' given' (sink_state taken' faults' false) gave' view') end
  carry_ends end taken' faults' failed gave' view' most feeds link =
      let (run, (live, quiet)) = carries link in
      (read + length piece, (failed, feeds limits (read + length piece) link before left' given' run most (waits link run live) quiet))

pub has_read : (read : ℕ) → 0 < read → read ≤ read_max → HasRead read
has_read read some most = (some, most)

-- nothing more is read, and the connection ends
pub carried : (limits : ConnectionLimits) (before now : Outside) (v : ResponderSide) (read : ℕ) (end : ConnEnd) → CarriesTo limits before now v read → AheadAt end [] → MoreAt end []
    → ReadAt end read → FailedAt end now.sink.failed
    → ((opened : LinkParameters) (link : ℕ) (run : List Mark) → ResponderRepresents opened link run v → AllQuiet limits link run → IsOpenedWith limits opened
    → length (bytes_received link Responder run) ≡ read → IsCause opened link run now.left end)
    → IsServed limits before now end
carried limits before now v read end carries ahead more most failed cause link =
    let (run, (live, quiet)) = carries link in
    let count = live.runs.count in (
      read,
      (
        now.sink.failed,
        record {
          run = run;
          ahead = [];
          more = [];
          runs = live.runs;
          ahead_is = ahead;
          more_is = more;
          read_is = most;
          failed_is = failed;
          cause = λ opened granted. cause opened link run (live.stands opened granted) quiet granted (omega (arith, count));
        },
      ),
    )

pub served_same : (limits : ConnectionLimits) (before before' after after' : Outside) (end : ConnEnd) → before ≡ before' → after ≡ after' → IsServed limits before after end → IsServed limits before' after' end
served_same limits before before' after after' end same same' served =
    subst (λ (o : Outside). IsServed limits o after' end) same (subst (λ (o : Outside). IsServed limits before o end) same' served)

-- a read that handed out nothing
pub nothing_read : (limits : ConnectionLimits) (before : Outside) (left given left' given' : Option (List ℕ)) (sink : SinkState) (gave : Option (List Moment)) (view : PassView) (v : ResponderSide) (read : ℕ)
    → CarriesTo limits before (outside left given sink gave view) v read → HandsOut left given left' given' [] → CarriesTo limits before (outside left' given' sink gave view) v (read + 0)
nothing_read limits before left given left' given' sink gave view v read carries hands link =
    let (run, (live, quiet)) = carries link in
    (run, (waits limits before left given left' given' sink gave view v read [] carries hands link run live, quiet))

-- the read failed
pub read_fails : (limits : ConnectionLimits) (before now : Outside) (v : ResponderSide) (read : ℕ) → CarriesTo limits before now v read → end_of v ≡ None → read < read_max → now.sink.failed ≡ false
    → IsServed limits before now ends.LinkRead
read_fails limits before now v read carries live less failed =
    carried limits before now v read ends.LinkRead carries refl refl less failed
    (λ opened link run stands quiet granted count. (facts opened link run v stands live (quiet opened granted)).idle)

-- the client ended its stream
pub read_ends : (limits : ConnectionLimits) (before now : Outside) (v : ResponderSide) (read : ℕ) (end : ConnEnd) → CarriesTo limits before now v (read + 0) → IsAtEnd now.left → EndsIdle end read v
    → AheadAt end [] → MoreAt end [] → ReadAt end (read + 0) → FailedAt end now.sink.failed → IsServed limits before now end
read_ends limits before now v read end carries ended idle ahead more most failed =
    carried limits before now v (read + 0) end carries ahead more most failed
    (λ opened link run stands quiet granted count. idle opened link run now.left stands (quiet opened granted) ended (omega (arith, count)))

-- the maximum number of bytes was read
pub read_enough : (limits : ConnectionLimits) (before now : Outside) (v : ResponderSide) (read : ℕ) → CarriesTo limits before now v read → end_of v ≡ None → read ≡ read_max → now.sink.failed ≡ false
    → IsServed limits before now (ends.Budget read)
read_enough limits before now v read carries live most failed =
    carried limits before now v read (ends.Budget read) carries refl refl most failed
    (λ opened link run stands quiet granted count. ((facts opened link run v stands live (quiet opened granted)).idle, (most, count ∙ most)))

-- a write failed while the piece was fed
pub write_failed : (limits : ConnectionLimits) (before now : Outside) (v : ResponderSide) (read : ℕ) → CarriesTo limits before now v read → HasRead read → now.sink.failed ≡ true
    → IsServed limits before now ends.LinkWrite
write_failed limits before now v read carries most failed =
    carried limits before now v read ends.LinkWrite carries refl refl most failed (λ opened link run stands quiet granted count. quiet opened granted)

-- ---- Before the first read

gives_none : (gave : Option (List Moment)) → GivesAll gave gave []
gives_none None = tt
gives_none (Some given) = (given, refl, sym (append-nil given))

received_none : (link : ℕ) → bytes_received link Responder [] ≡ []
unfolding bytes_received
received_none link = refl

sent_none : (link : ℕ) → bytes_sent link Responder [] ≡ []
unfolding bytes_sent
sent_none link = refl

none_handled : [] ≡ handled_in []
unfolding handled_in
none_handled = refl

-- a connection at its first byte
abbrev pub first_outside : (left given taken : Option (List ℕ)) (faults : ℕ) (gave : Option (List Moment)) (view : PassView) → Outside
first_outside left given taken faults gave view = outside left given (sink_state taken faults false) gave view

module _ (left given taken : Option (List ℕ)) (faults : ℕ) (gave : Option (List Moment)) (view : PassView) where
  abbrev first : Outside
  first = first_outside left given taken faults gave view

  begins : (limits : ConnectionLimits) (link : ℕ) → Runs limits 0 link first first [] [] []
  begins limits link = record {
    own = tt;
    handed = subst (λ (bytes : List ℕ). HandsOut left given left given (bytes ++ [])) (sym (received_none link)) (HandsOut_nil left given);
    taken = (refl, subst (Appends taken taken) (sym (sent_none link)) (Appends-nil taken));
    served = λ opened granted. tt;
    quiet = λ opened granted. tt;
    writes = λ opened granted. tt;
    frames = λ opened granted. tt;
    turns = [];
    handled = none_handled;
    over = taken_none (number_heard [] link) view;
    greeted = λ some. absurd (some refl);
    gave = gives_none gave;
    count = ap (λ (bytes : List ℕ). length bytes + 0) (received_none link);
  }

  pub opened : (limits : ConnectionLimits) (v : ResponderSide) → v ≡ opened_side limits.credits limits.low (terms_with limits.units limits.invalidates) → end_of v ≡ None
      → ((opened : LinkParameters) (link : ℕ) → IsOpenedWith limits opened → ResponderRepresents opened link [] v) → CarriesTo limits first first v 0
  unfolding initial_link
  opened limits v is live stands link = (
    [],
    (
      record { runs = begins limits link; stands = λ o granted. stands o link granted },
      λ o granted. quiet o link [] v (stands o link granted) live (ap queue is) (ap (λ (w : ResponderSide). w.ready) is),
    ),
  )

  -- there was no memory for it
  pub unopened : (limits : ConnectionLimits) → IsServed limits first first ends.Memory
  unopened limits link = (
    0,
    (
      false,
      record {
        run = [];
        ahead = [];
        more = [];
        runs = begins limits link;
        ahead_is = tt;
        more_is = (let none : 0 ≤ 1 = omega arith in none);
        read_is = (let none : 0 ≤ read_max = omega arith in none);
        failed_is = tt;
        cause = λ o granted. tt;
      },
    ),
  )
