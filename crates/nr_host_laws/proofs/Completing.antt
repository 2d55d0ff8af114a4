-- How a connection ends whose client sends a complete stream.
use Rattle.std.proofs.Common.{◌≡◌, ◌≢◌, ℕ, ◌<◌, ◌⊎◌, inl, inr, Bool, false, List, [], ◌∷◌, ◌++◌, length, Option, Some, None, refl, arith, subst, sym, ap, ◌∙◌, append_assoc, append-nil}
use Rattle.std.specs.Prelude.{map}
use Rattle.std.proofs.lemmas.List.{length-append}
use Rattle.std.proofs.lemmas.Option.{none-some, same_Some}
use Rattle.std.specs.Io.KnownBytes.{Appends, Consumes, IsAtEnd}
use Rattle.nr_outside.specs.Faults.{Rises}
use Rattle.nr_outside.specs.declared.moment.Moment.{Moment}
use Rattle.nr_wire.specs.declared.hello.Side.TheVariants.{Initiator, Responder}
use Rattle.nr_link.specs.Input.{input_of}
use Rattle.nr_link.specs.Reasons.{REASON_OLD}
use Rattle.nr_link.specs.declared.end.End.{End}
use Rattle.nr_link.specs.declared.end.End.TheVariants as link_ends
use Rattle.nr_reduce.specs.declared.mark.Mark.{Mark}
use Rattle.nr_reduce.specs.declared.mark.Entry.{Entry}
use Rattle.nr_reduce.specs.declared.mark.LinkParameters.{LinkParameters}
use Rattle.nr_reduce.specs.History.{bytes_received, bytes_sent}
use Rattle.nr_reduce.specs.Matched.{IsPrefixOf}
use Rattle.nr_reduce.specs.NumberedJournal.{number_heard}
use Rattle.nr_reduce.specs.Run.{server}
use Rattle.nr_reduce.specs.ServerState.{PendingCall}
use Rattle.nr_host_laws.proofs.Lawful.{keep_the_law, with_limits}
use Rattle.nr_reduce.specs.Served.{Served}
use Rattle.nr_plain.specs.History.{IsHistory, Opening, setup_in}
use Rattle.nr_links.specs.Limits.{read_max}
use Rattle.nr_host.specs.Connections.{Outside, Runs, TakesUntil, GivesAll, IsOpenedWith, refusals_of}
use Rattle.nr_host.specs.Turns.{AreTurns, given_for}
use Rattle.nr_host.proofs.Unnumbered.{none_refused}
use Rattle.nr_host.specs.Ending.{Ended, IsCause, IsIdle, SinkCount, SourceCount, begun_bytes, open_calls}
use Rattle.nr_host.specs.Steps.{IsServed, sink_state, with_failed}
use Rattle.nr_host.specs.declared.connection_limits.ConnectionLimits.{ConnectionLimits}
use Rattle.nr_host.specs.declared.conn_end.ConnEnd.{ConnEnd}
use Rattle.nr_host.specs.declared.conn_end.ConnEnd.TheVariants as ends
use Rattle.nr_host_laws.specs.Laws.{Completes, ConnectionsComplete, EndsForOldCall}
use Rattle.nr_host_laws.proofs.OldEnds.{ends_for_old}
use Rattle.nr_host_laws.specs.Streams.{MayHaveMade, IsCompleteStream, ServesStream}

-- ---- What is read of a stream that is known

read_first : (left : Option (List ℕ)) (stream received ahead : List ℕ) → Consumes (Some stream) left (received ++ ahead) → IsPrefixOf received stream
read_first None stream received ahead never = absurd never
read_first (Some rest) stream received ahead is = (ahead ++ rest, sym (is ∙ append_assoc received ahead rest))

read_all : (left : Option (List ℕ)) (stream received ahead : List ℕ) → Consumes (Some stream) left (received ++ ahead) → ahead ≡ [] → IsAtEnd left → (received ≡ stream) × (left ≡ Some [])
read_all None stream received ahead never none at = absurd never
read_all (Some rest) stream received ahead is none at = (
  sym (is ∙ ap (λ (l : List ℕ). (received ++ ahead) ++ l) at ∙ append-nil (received ++ ahead) ∙ ap (λ (l : List ℕ). received ++ l) none ∙ append-nil received),
  ap (λ (l : List ℕ). Some l) at,
)

no_longer : (received stream : List ℕ) → IsPrefixOf received stream → length stream < read_max → length received ≡ read_max → ⊥
no_longer received stream (rest, is) within most =
    let all : length (received ++ rest) ≡ length stream = ap length is in
    let parts = length-append received rest in
    absurd (omega (arith, all, parts, within, most))

none_below : (xs : List ℕ) → xs ≡ [] → 0 < length xs → ⊥
none_below [] none more = absurd (omega (arith, more))
none_below (x ∷ xs) none more = absurd cc

no_calls_below : (xs : List PendingCall) → xs ≡ [] → 0 < length xs → ⊥
no_calls_below [] none more = absurd (omega (arith, more))
no_calls_below (x ∷ xs) none more = absurd cc

not_memory : ends.Closed ≡ ends.Memory → ⊥
not_memory e = absurd cc

-- the ends of a connection over such a stream
abbrev IsLeftOf : ConnEnd → Type 0
IsLeftOf end = (end ≡ ends.Memory) ⊎ ((end ≡ ends.Closed) ⊎ ((why : End) × (end ≡ ends.Protocol why)))

-- ---- One connection

module _ (limits : ConnectionLimits) (before after : Outside) (first : Opening) (J : List Entry) (stream : List ℕ) (stands : IsHistory first J before.view.seen) (known : before.left ≡ Some stream)
    (complete : IsCompleteStream limits (setup_in first) J stream) where
  consumed : (read link : ℕ) (failed : Bool) (ahead : List ℕ) (more : List Moment) (run : List Mark) → Runs limits read link before (with_failed failed after) ahead more run
      → Consumes (Some stream) after.left (bytes_received link Responder run ++ ahead)
  consumed read link failed ahead more run r =
      subst (λ (l : Option (List ℕ)). Consumes l after.left (bytes_received link Responder run ++ ahead)) known r.handed.from_left

  made_by : (read link : ℕ) (failed : Bool) (ahead : List ℕ) (more : List Moment) (run : List Mark) → Runs limits read link before (with_failed failed after) ahead more run
      → (opened : LinkParameters) → IsOpenedWith limits opened → MayHaveMade (setup_in first) J opened link stream run
  made_by read link failed ahead more run r opened same = record {
    own = r.own;
    begins = read_first after.left stream (bytes_received link Responder run) ahead (consumed read link failed ahead more run r);
    served = r.served opened same;
    quiet = r.quiet opened same;
    writes = r.writes opened same;
    frames = r.frames opened same;
    entries = stands.entries;
    journal = stands.journal;
    more = (r.over first stands.entries stands.is).more;
    turns = r.turns;
    handled = r.handled;
    mine = (r.over first stands.entries stands.is).mine;
    turned = (r.over first stands.entries stands.is).turned;
  }

  -- a connection that read all of it, and is idle, has closed
  closed : (read link : ℕ) (failed : Bool) (ahead : List ℕ) (more : List Moment) (run : List Mark) → Runs limits read link before (with_failed failed after) ahead more run
      → ahead ≡ [] → more ≡ [] → failed ≡ false
      → ((opened : LinkParameters) → IsOpenedWith limits opened → IsIdle opened link run × IsAtEnd after.left)
      → ((opened : LinkParameters) → IsOpenedWith limits opened → Served opened link run)
      → ServesStream limits first J link before after stream
  closed read link failed ahead more run r none no_more fine idle served =
      let at : IsAtEnd after.left = (idle (with_limits limits) (refl, refl, refl, refl)).1 in
      let all : (bytes_received link Responder run ≡ stream) × (after.left ≡ Some []) = read_all after.left stream (bytes_received link Responder run) ahead (consumed read link failed ahead more run r) none at in
      record {
        run = run;
        fed = all.0;
        left = all.1;
        given = subst (λ (l : List ℕ). Appends before.given after.given l)
            (ap (λ (l : List ℕ). bytes_received link Responder run ++ l) none ∙ append-nil (bytes_received link Responder run) ∙ all.0) r.handed.to_given;
        taken = (subst (λ (f : Bool). TakesUntil f before.sink (sink_state after.sink.taken after.sink.faults f) (bytes_sent link Responder run)) fine r.taken).1;
        turns = r.turns;
        handled = r.handled;
        gave = subst (λ (l : List Moment). GivesAll before.gave after.gave l)
            (ap (λ (l : List Moment). map given_for r.turns ++ l) no_more ∙ append-nil (map given_for r.turns)) r.gave;
        entries = stands.entries;
        journal = stands.journal;
        over = r.over first stands.entries stands.is;
        made = made_by read link failed ahead more run r;
        served = served;
        idle = λ opened same. (idle opened same).0;
        answered = λ opened same. complete.answered opened link run same (made_by read link failed ahead more run r opened same) all.0 (idle opened same).0;
      }

  -- a connection whose side ended has refused a call
  refused_at : (why : End) (link read : ℕ) (failed : Bool) → Ended limits read link before (with_failed failed after) (ends.Protocol why) → EndsForOldCall limits link before after (ends.Protocol why)
  refused_at why link read failed e = by (refusals_of e.run) refl
    where
      opened : LinkParameters
      opened = with_limits limits

      ended : (server opened link e.run).ended ≡ Some why
      ended = (e.cause opened (refl, refl, refl, refl)).0

      none_of_zero : number_heard e.run link ≡ 0 → refusals_of e.run ≡ []
      none_of_zero zero =
          let over = e.runs.over first stands.entries stands.is in
          none_refused (setup_in first) (stands.entries ++ over.more) (length stands.entries) e.runs.turns over.mine e.run
          (subst (λ (n : ℕ). AreTurns (setup_in first) n (stands.entries ++ over.more) (length stands.entries) e.runs.turns over.mine) zero over.turned) e.runs.handled

      by : (xids : List ℕ) → refusals_of e.run ≡ xids → EndsForOldCall limits link before after (ends.Protocol why)
      by [] none =
          absurd (none-some why (sym (complete.stays opened link e.run (refl, refl, refl, refl) (made_by read link failed e.ahead e.more e.run e.runs opened (refl, refl, refl, refl)) none) ∙ ended))
      by (xid ∷ xids) some =
          let old = ends_for_old opened link e.run e.runs.own (e.runs.served opened (refl, refl, refl, refl)) xid xids some in
          let refused : refusals_of e.run ≢ [] = λ none. absurd (let wrong : xid ∷ xids ≡ [] = sym some ∙ none in cc) in
          record {
            at = old.0;
            end_is = ap (λ (x : End). ends.Protocol x) (same_Some why (link_ends.Bad old.0 REASON_OLD) (sym ended ∙ old.1));
            read = read;
            failed = failed;
            ended = e;
            numbered = λ zero. refused (none_of_zero zero);
            refused = refused;
          }

  -- the ends that are left
  by_end : (end : ConnEnd) (source source' : ℕ) → SourceCount end source source' → SinkCount end before.sink.faults after.sink.faults
      → (Rises source source' → ⊥) → (Rises before.sink.faults after.sink.faults → ⊥)
      → (read : ℕ) (failed : Bool) → Ended limits read 0 before (with_failed failed after) end → IsLeftOf end
  by_end ends.Memory source source' sc kc quiet fine read failed e = inl refl
  by_end ends.Closed source source' sc kc quiet fine read failed e = inr (inl refl)
  by_end ends.LinkRead source source' sc kc quiet fine read failed e = absurd (quiet sc)
  by_end ends.LinkWrite source source' sc kc quiet fine read failed e = absurd (fine kc)
  by_end (ends.Protocol why) source source' sc kc quiet fine read failed e = inr (inr (why, refl))
  by_end (ends.Budget most) source source' sc kc quiet fine read failed e =
      let opened : LinkParameters = with_limits limits in
      absurd (no_longer (bytes_received 0 Responder e.run) stream (made_by read 0 failed e.ahead e.more e.run e.runs opened (refl, refl, refl, refl)).begins complete.within (e.cause opened (refl, refl, refl, refl)).1.1)
  by_end (ends.Cut at calls) source source' sc kc quiet fine read failed e =
      let opened : LinkParameters = with_limits limits in
      let why : IsCause opened 0 e.run after.left (ends.Cut at calls) = e.cause opened (refl, refl, refl, refl) in
      let all : (bytes_received 0 Responder e.run ≡ stream) × (after.left ≡ Some []) =
      read_all after.left stream (bytes_received 0 Responder e.run) e.ahead (consumed read 0 failed e.ahead e.more e.run e.runs) e.ahead_is why.1.0 in
      absurd (by (ap (λ (l : List ℕ). (input_of Initiator l).rest) all.0 ∙ complete.frames)
      (complete.answered opened 0 e.run (refl, refl, refl, refl) (made_by read 0 failed e.ahead e.more e.run e.runs opened (refl, refl, refl, refl)) all.0 why.0) why.1.1.1.1)
    where
      by : (input_of Initiator (bytes_received 0 Responder e.run)).rest ≡ [] → (server (with_limits limits) 0 e.run).state.calls ≡ []
          → (0 < begun_bytes 0 e.run) ⊎ (0 < open_calls (with_limits limits) 0 e.run) → ⊥
      by rest calls (inl more) = none_below (input_of Initiator (bytes_received 0 Responder e.run)).rest rest more
      by rest calls (inr more) = no_calls_below (server (with_limits limits) 0 e.run).state.calls calls more

  closed_at : (end : ConnEnd) → end ≡ ends.Closed → IsServed limits before after end → (link : ℕ) → ServesStream limits first J link before after stream
  closed_at end is served link =
      let (read, (failed, (e, lawful))) = keep_the_law limits before after ends.Closed not_memory (subst (λ (c : ConnEnd). IsServed limits before after c) is served) link in
      closed read link failed e.ahead e.more e.run e.runs e.ahead_is e.more_is e.failed_is (λ opened same. ((e.cause opened same).0, (e.cause opened same).1.0)) lawful

  refused_by : (end : ConnEnd) (why : End) → end ≡ ends.Protocol why → IsServed limits before after end → (link : ℕ) → EndsForOldCall limits link before after end
  refused_by end why is served link =
      let (read, (failed, e)) = subst (λ (c : ConnEnd). IsServed limits before after c) is served link in
      subst (λ (c : ConnEnd). EndsForOldCall limits link before after c) (sym is) (refused_at why link read failed e)

  completes_by : (end : ConnEnd) → IsServed limits before after end → IsLeftOf end → Completes limits first J before after stream end
  completes_by end served (inl memory) = inl memory
  completes_by end served (inr (inl is)) = inr (inl (is, closed_at end is served))
  completes_by end served (inr (inr (why, is))) = inr (inr (refused_by end why is served))

pub completes : ConnectionsComplete
completes limits before after end source source' first J stream served sc kc quiet fine stands known complete =
    let (read, (failed, e)) = served 0 in
    completes_by limits before after first J stream stands known complete end served
    (by_end limits before after first J stream stands known complete end source source' sc kc quiet fine read failed e)
