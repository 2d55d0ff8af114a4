-- The value stands on with entries of bytes that move.
use Rattle.std.proofs.Common.{◌≡◌, ℕ, ◌+◌, ◌-◌, ◌*◌, ◌<◌, ◌≤◌, ◌⊎◌, ⊎_elim, inl, inr, arith, Bool, true, false, ◌||◌, is_some, List, [], ◌∷◌, ◌++◌, length, length-append, append-nil, append_assoc, take, drop, Option, Some, None, refl, sym, ap, subst, ◌∙◌}
use Rattle.std.proofs.Math.Seq.{drop-length}
use Rattle.std.proofs.lemmas.List.{length-drop}
use Rattle.std.specs.Io.KnownBytes.{Appends}
use Rattle.nr_outside.specs.Faults.{Rises}
use Rattle.nr_wire.specs.declared.hello.Side.TheVariants.{Initiator}
use Rattle.nr_reduce.specs.declared.mark.Mark.{Mark}
use Rattle.nr_reduce.specs.declared.mark.Mark.TheVariants as marks
use Rattle.nr_requester.specs.RequesterState.{RequesterSide, queue_of}
use Rattle.nr_requester.specs.AfterCalls.{after_drain}
use Rattle.nr_requester.specs.OpenCalls.{KeepsTickets}
use Rattle.nr_requester.specs.EarlierLinks.{KeepsEarlierBeside}
use Rattle.nr_requester.specs.ReopenedLinks.{KeepsOn, StopsOn}
use Rattle.nr_requester.specs.Fed.{fed_bytes}
use Rattle.nr_requester.proofs.EarlierBeside.{earlier_drains}
use Rattle.nr_requester.proofs.KeptLaw.{drain_law}
use Rattle.nr_requester.proofs.StoppedLaw.{drain_stopped_law}
use Rattle.nr_requester.proofs.Queues.{written_writable}
use Rattle.nr_shared.specs.declared.entry.Stop.{Stop}
use Rattle.nr_shared.specs.declared.entry.Entry.{Entry}
use Rattle.nr_shared.specs.declared.entry.Entry.TheVariants as entries
use Rattle.nr_shared.specs.declared.requester_with_sink.RequesterWithSink.{RequesterWithSink}
use Rattle.nr_shared.specs.Histories.{PresentLink, closes_of, is_feeding, bytes_fed, has_write_failed, present, present_after, rejoins, sink_of, stop_of}
use Rattle.nr_shared.specs.Draining.{taken_between}
use Rattle.nr_shared.specs.Standing.{IsWithin, KeepsSink, KeepsSinkIf, KeepsSinkOf, RejoinsWithin, RepresentsHistory, Stands, Becomes, one_if}
use Rattle.nr_shared.proofs.Chains.{chained_end}
use Rattle.nr_shared.proofs.Histories.{initial_end, allowed_end, fed_same, present_end}
use Rattle.nr_shared.proofs.Calls.{calls_kept, closes_end}
use Rattle.nr_shared.specs.declared.entry.InitialState.{InitialState}
use Rattle.nr_shared.specs.declared.entry.InitialSink.{InitialSink}
use Rattle.nr_shared.specs.LinkRuns.{LinkRun, is_of, marks_at}
use Rattle.nr_shared.specs.LinkStanding.{IsLiveOn, IsOutOn}
use Rattle.nr_shared.proofs.Output.{follow_end, full_failed, full_wrote, output_same, queue_written}
use Rattle.nr_shared.proofs.Steps.{IsApart, false_true, follows_by, still_numbered}
use Rattle.nr_shared.proofs.LinkRuns.{is_rejoin, with_marks, with_none}
use Rattle.nr_shared.proofs.LinkSteps.{goes_on, none_left, stays_out}
use Rattle.nr_shared.proofs.Sinks.{sink_wrote, some_sink}
use Rattle.nr_reduce.specs.declared.call.Call.{Call}
use Rattle.nr_reduce.specs.declared.call.Form.{Form}

drained_ended : (r s : RequesterSide) (n : ℕ) → s ≡ after_drain n r → s.state.side.ended ≡ r.state.side.ended
unfolding after_drain
drained_ended r s n is = ap (λ (x : RequesterSide). x.state.side.ended) is

drained_next : (r s : RequesterSide) (n : ℕ) → s ≡ after_drain n r → s.state.next_xid ≡ r.state.next_xid
unfolding after_drain
drained_next r s n is = ap (λ (x : RequesterSide). x.state.next_xid) is

drained_terms : (r s : RequesterSide) (n : ℕ) → s ≡ after_drain n r → s.state.side.terms ≡ r.state.side.terms
unfolding after_drain
drained_terms r s n is = ap (λ (x : RequesterSide). x.state.side.terms) is

-- what stays in the queue
drained_queue : (r s : RequesterSide) (n : ℕ) → s ≡ after_drain n r → queue_of s.state ≡ drop n (queue_of r.state)
unfolding after_drain
drained_queue r s n is = ap (λ (x : RequesterSide). queue_of x.state) is ∙ written_writable r.state.side.has_hello n r.state.side.send_queue

drained_all : (r s : RequesterSide) (n : ℕ) → s ≡ after_drain n r → n ≡ length (queue_of r.state) → queue_of s.state ≡ []
drained_all r s n is all = drained_queue r s n is ∙ (ap (λ (k : ℕ). drop k (queue_of r.state)) all ∙ drop-length (queue_of r.state))

-- the sink took the bytes by which the queue became shorter
pub took_them : (r s : RequesterSide) (n : ℕ) → s ≡ after_drain n r → n ≤ length (queue_of r.state) → take n (queue_of r.state) ≡ taken_between r.state s.state
took_them r s n is length_bound =
    let left : length (queue_of s.state) ≡ length (queue_of r.state) - n = ap length (drained_queue r s n is) ∙ length-drop n (queue_of r.state) in
    let same : n ≡ length (queue_of r.state) - length (queue_of s.state) = omega (arith, left, length_bound) in
    ap (λ (k : ℕ). take k (queue_of r.state)) same

-- what a write leaves of the numbers
within_moved : {fed_before : ℕ} (r s : RequesterSide) (pending pending' sink_failed sink_failed' : Bool) (stopped : Option Stop) (h h' : List Entry) (n : ℕ) → bytes_fed h' ≡ bytes_fed h → rejoins h' ≡ rejoins h → length h' ≡ length h + n
    → n + one_if pending' + 2 * one_if sink_failed ≤ one_if pending + 2 * one_if sink_failed'
    → KeepsTickets r.state s.state → s.state.next_xid ≡ r.state.next_xid → fed_bytes s ≡ fed_bytes r → IsWithin fed_before r pending sink_failed stopped h → IsWithin fed_before s pending' sink_failed' stopped h'
within_moved r s pending pending' sink_failed sink_failed' stopped h h' n same left len pays keeps next fed w =
    let bytes : length (bytes_fed h') ≡ length (bytes_fed h) = ap length same in
    let length_bound = w.length_bound in
    record {
      open_xids = w.open_xids;
      is_open_xid = λ x there. w.is_open_xid x (sym (ap is_some (keeps x)) ∙ there);
      length_bound = omega (arith, len, bytes, pays, length_bound, next, left);
      few = (let f = w.few in omega (arith, f, left));
      xids = (let k = w.xids in omega (arith, k, next));
      bytes = (let b = w.bytes in omega (arith, b, bytes));
      before = w.before;
      fed = (let f = w.fed in omega (arith, f, fed, bytes));
    }

-- an entry that is no mark
pub follows_same : (o : Option Stop) (c : InitialState) (r : RequesterSide) (h : List Entry) (e : Entry) → is_rejoin e ≡ false → ((n : ℕ) (l : LinkRun) → marks_at n l e ≡ []) → RepresentsHistory c r o h → RepresentsHistory c r o (h ++ e ∷ [])
follows_same o c r h e none quiet represents = follows_by o c r r h e none refl
    (λ n l apart live. subst (λ (ms : List Mark). IsLiveOn (with_marks l ms) r) (sym (quiet n l)) (subst (λ (x : LinkRun). IsLiveOn x r) (sym (with_none l)) live))
    (λ n l apart out. subst (λ (ms : List Mark). IsOutOn (with_marks l ms) r) (sym (quiet n l)) (subst (λ (x : LinkRun). IsOutOn x r) (sym (with_none l)) out)) represents

true_false : true ≡ false → ⊥
true_false e = absurd cc

pub rises_from : (a b c : ℕ) → a ≤ b → Rises b c → Rises a c
rises_from a b c le up = ⊎_elim (λ (more : b < c). inl (omega (arith, le, more))) (λ last. inr last) up

module _ {O C : Type 0} (link : O → ℕ) (taken : O → Option (List ℕ)) (faults : O → ℕ) (allows : Call → Form → Type 0) where
  -- nothing changed
  pub nothing_moves : (m : RequesterWithSink O C) → Becomes link taken faults allows m m []
  nothing_moves m h st = subst (λ (l : List Entry). Stands link taken faults allows m l) (sym (append-nil h)) st

  -- what a drain gave: this sink took `n` bytes
  pub record Drains (m m' : RequesterWithSink O C) (s s' : O) (n : ℕ) : Type 0 where
    pub was : m.sink ≡ Some s
    pub becomes : m'.sink ≡ Some s'
    pub number : link s' ≡ link s
    pub tries : m'.tries ≡ m.tries
    pub rejoined : m'.rejoined ≡ m.rejoined
    pub stopped : m'.stopped ≡ m.stopped
    pub some : n ≤ length (queue_of m.requester.state)
    pub takes : Appends (taken s) (taken s') (take n (queue_of m.requester.state))
    pub never : faults s ≤ faults s'
    pub after : m'.requester ≡ after_drain n m.requester
    pub on : KeepsOn m.requester (λ link. marks.Wrote link Initiator (take n (queue_of m.requester.state))) m'.requester
    pub stops : StopsOn m.requester (λ link. marks.Wrote link Initiator (take n (queue_of m.requester.state))) m'.requester
    pub keeps : KeepsTickets m.requester.state m'.requester.state
    pub fed : fed_bytes m'.requester ≡ fed_bytes m.requester

  module _ (m m' : RequesterWithSink O C) (s s' : O) (n : ℕ) (d : Drains m m' s s' n) where
    abbrev bytes : List ℕ
    bytes = take n (queue_of m.requester.state)

    beside : KeepsEarlierBeside m.requester m'.requester
    beside = subst (KeepsEarlierBeside m.requester) (sym d.after) (earlier_drains m.requester n)

    -- the requester follows the entry of what was written
    follows_wrote : (c : InitialState) (h : List Entry) → RepresentsHistory c m.requester m.stopped h → RepresentsHistory c m'.requester m'.stopped (h ++ entries.Wrote bytes ∷ [])
    follows_wrote c h represents =
        let e : Entry = entries.Wrote bytes in
        subst (λ o. RepresentsHistory c m'.requester o (h ++ e ∷ [])) (sym d.stopped)
        (follows_by m.stopped c m.requester m'.requester h e refl (drained_ended m.requester m'.requester n d.after)
        (λ k l apart live.
        (let mark : Mark = marks.Wrote l.at.link Initiator bytes in
        let kept = drain_law (is_of l l.at.link) live.earlier l.at.opened l.at.link m.requester l.run live.keeps n live.law.asked live.law.granted in
        goes_on l m.requester m'.requester (mark ∷ []) live (d.on (is_of l l.at.link) live.earlier l.at.opened l.at.link l.run live.keeps) (record { asked = kept.0; granted = kept.1 }) beside (none_left mark l.at.link l.left refl apart)))
        (λ k l apart out.
        (let mark : Mark = marks.Wrote l.at.link Initiator bytes in
        let kept = drain_stopped_law (is_of l l.at.link) out.earlier l.at.opened l.at.link m.requester out.stopped l.run out.keeps n out.law.asked out.law.granted in
        stays_out l m.requester m'.requester (mark ∷ []) out.stopped out (d.stops (is_of l l.at.link) out.earlier l.at.opened l.at.link out.stopped l.run out.keeps) (record { asked = kept.0; granted = kept.1 }) beside (none_left mark l.at.link l.left refl apart)))
        represents)

    -- there is a link
    pub has_sink : (h : List Entry) → Stands link taken faults allows m h → is_some (sink_of h) ≡ true
    has_sink h st = some_sink link taken faults m.sink s (sink_of h) (present h) d.was st.sink

    sink_after : (h h' : List Entry) → sink_of h' ≡ sink_of h → (present h').written ≡ (present h).written ++ bytes
        → ((f : InitialSink) → KeepsSink link taken faults s f (present h) → (has_write_failed h' ≡ true → Rises f.faults (faults s')) × (has_write_failed h' ≡ false → faults s' ≡ f.faults))
        → Stands link taken faults allows m h → KeepsSinkOf link taken faults m'.sink (present h')
    sink_after h h' same written counts st = subst (λ (o : Option O). KeepsSinkOf link taken faults o (present h')) (sym d.becomes)
        (subst (λ (i : Option InitialSink). KeepsSinkIf link taken faults (Some s') i (present h')) (sym same)
        (sink_wrote link taken faults s s' (sink_of h) (present h) (present h') bytes written d.number d.takes d.never counts
        (subst (λ (o : Option O). KeepsSinkOf link taken faults o (present h)) d.was st.sink)))

    terms : m'.requester.state.side.terms ≡ m.requester.state.side.terms
    terms = drained_terms m.requester m'.requester n d.after

    -- the sink took all that waited
    wrote : (h : List Entry) → m.pending ≡ true → m.write_failed ≡ false → n ≡ length (queue_of m.requester.state) → faults s' ≡ faults s → m'.entries ≡ m.entries + 1 → m'.pending ≡ false → m'.write_failed ≡ false
        → Stands link taken faults allows m h → Stands link taken faults allows m' (h ++ entries.Wrote bytes ∷ [])
    wrote h was whole all same count pending sink_failed st =
        let e : Entry = entries.Wrote bytes in
        let c = st.initial in
        let len = length-append h (e ∷ []) in
        let here : present (h ++ e ∷ []) ≡ present_after (present h) e = present_end h e in
        let initial_l = initial_end h e c st.is_initial in
        let represents_l = follows_wrote c h st.represents in
        let stopped_l : m'.stopped ≡ stop_of (h ++ e ∷ []) = d.stopped ∙ (st.stopped ∙ sym (ap (λ (p : PresentLink). p.stopped) here)) in
        let failed_l : has_write_failed (h ++ e ∷ []) ≡ has_write_failed h = ap (λ (p : PresentLink). p.write_failed) here in
        let left_l : rejoins (h ++ e ∷ []) ≡ rejoins h = ap (λ (p : PresentLink). length p.left) here in
        record {
          initial = c;
          is_initial = initial_l;
          entries = (let k = st.entries in omega (arith, k, len, count));
          represents = represents_l;
          calls = calls_kept m.requester.state m'.requester.state h e (λ xid. refl) d.keeps st.calls;
          sink = sink_after h (h ++ e ∷ []) (ap (λ (p : PresentLink). p.sink) here) (ap (λ (p : PresentLink). p.written) here)
              (λ f keeps. ((λ is. absurd (true_false (sym is ∙ (failed_l ∙ (sym st.write_failed ∙ whole))))), (λ is. same ∙ keeps.counted (sym st.write_failed ∙ whole)))) st;
          tries = d.tries ∙ st.tries;
          rejoined = d.rejoined ∙ (st.rejoined ∙ sym left_l);
          within_tries = subst (RejoinsWithin c.tries) (sym left_l) st.within_tries;
          numbered = still_numbered c.tries m.requester.state m'.requester.state terms st.numbered;
          write_failed = sink_failed ∙ (sym whole ∙ (st.write_failed ∙ sym failed_l));
          stopped = stopped_l;
          in_order = chained_end closes_of is_feeding 0 None h e st.in_order (λ is. absurd (false_true is));
          allowed = allowed_end allows h e st.allowed tt;
          closes_calls = closes_end h e tt st.closes_calls;
          output = output_same h e refl st.output;
          in_full = full_wrote h bytes (queue_written c m'.requester m'.stopped (h ++ e ∷ []) initial_l stopped_l represents_l (drained_all m.requester m'.requester n d.after all)) st.in_full;
          may_follow = follow_end h e (sym st.write_failed ∙ whole, has_sink h st) st.may_follow;
          pending = λ is. drained_all m.requester m'.requester n d.after all;
          within = subst (λ b. IsWithin (fed_bytes c.requester) m'.requester m'.pending b m'.stopped (h ++ e ∷ [])) (sym sink_failed)
              (subst (λ b. IsWithin (fed_bytes c.requester) m'.requester b false m'.stopped (h ++ e ∷ [])) (sym pending)
              (subst (λ o. IsWithin (fed_bytes c.requester) m'.requester false false o (h ++ e ∷ [])) (sym d.stopped)
              (within_moved m.requester m'.requester true false false false m.stopped h (h ++ e ∷ []) 1 (fed_same h e refl) left_l len (omega arith) d.keeps (drained_next m.requester m'.requester n d.after) d.fed
              (subst (λ b. IsWithin (fed_bytes c.requester) m.requester b false m.stopped h) was (subst (λ b. IsWithin (fed_bytes c.requester) m.requester m.pending b m.stopped h) whole st.within)))));
        }

    -- the sink took the first bytes, and a write failed
    wrote_then_failed : (h : List Entry) → m.pending ≡ true → m.write_failed ≡ false → Rises (faults s) (faults s') → m'.entries ≡ m.entries + 2 → m'.pending ≡ true → m'.write_failed ≡ true
        → Stands link taken faults allows m h → Stands link taken faults allows m' ((h ++ entries.Wrote bytes ∷ []) ++ entries.WriteFailed ∷ [])
    wrote_then_failed h was whole up count pending sink_failed st =
        let e : Entry = entries.Wrote bytes in
        let f : Entry = entries.WriteFailed in
        let l : List Entry = h ++ e ∷ [] in
        let c = st.initial in
        let len = length-append h (e ∷ []) in
        let len2 = length-append l (f ∷ []) in
        let here : present l ≡ present_after (present h) e = present_end h e in
        let there : present (l ++ f ∷ []) ≡ present_after (present_after (present h) e) f = present_end l f ∙ ap (λ (p : PresentLink). present_after p f) here in
        let initial_l = initial_end h e c st.is_initial in
        let left_l : rejoins (l ++ f ∷ []) ≡ rejoins h = ap (λ (p : PresentLink). length p.left) there in
        record {
          initial = c;
          is_initial = initial_end l f c initial_l;
          entries = (let k = st.entries in omega (arith, k, len, len2, count));
          represents = follows_same m'.stopped c m'.requester l f refl (λ k x. refl) (follows_wrote c h st.represents);
          calls = calls_kept m'.requester.state m'.requester.state l f (λ xid. refl) (λ xid. refl) (calls_kept m.requester.state m'.requester.state h e (λ xid. refl) d.keeps st.calls);
          sink = sink_after h (l ++ f ∷ []) (ap (λ (p : PresentLink). p.sink) there) (ap (λ (p : PresentLink). p.written) there)
              (λ i keeps. ((λ is. rises_from i.faults (faults s) (faults s') keeps.never_falls up), (λ is. absurd (true_false (sym (ap (λ (p : PresentLink). p.write_failed) there) ∙ is))))) st;
          tries = d.tries ∙ st.tries;
          rejoined = d.rejoined ∙ (st.rejoined ∙ sym left_l);
          within_tries = subst (RejoinsWithin c.tries) (sym left_l) st.within_tries;
          numbered = still_numbered c.tries m.requester.state m'.requester.state terms st.numbered;
          write_failed = sink_failed ∙ sym (ap (λ (p : PresentLink). p.write_failed) there);
          stopped = d.stopped ∙ (st.stopped ∙ sym (ap (λ (p : PresentLink). p.stopped) there));
          in_order = chained_end closes_of is_feeding 0 None l f (chained_end closes_of is_feeding 0 None h e st.in_order (λ is. absurd (false_true is))) (λ is. absurd (false_true is));
          allowed = allowed_end allows l f (allowed_end allows h e st.allowed tt) tt;
          closes_calls = closes_end l f tt (closes_end h e tt st.closes_calls);
          output = output_same l f refl (output_same h e refl st.output);
          in_full = full_failed h bytes st.in_full;
          may_follow = follow_end l f (ap (λ (p : PresentLink). p.write_failed) here ∙ (sym st.write_failed ∙ whole)) (follow_end h e (sym st.write_failed ∙ whole, has_sink h st) st.may_follow);
          pending = λ is. absurd (false_true (sym is ∙ pending));
          within = subst (λ b. IsWithin (fed_bytes c.requester) m'.requester m'.pending b m'.stopped (l ++ f ∷ [])) (sym sink_failed)
              (subst (λ b. IsWithin (fed_bytes c.requester) m'.requester b true m'.stopped (l ++ f ∷ [])) (sym pending)
              (subst (λ o. IsWithin (fed_bytes c.requester) m'.requester true true o (l ++ f ∷ [])) (sym d.stopped)
              (within_moved m.requester m'.requester true true false true m.stopped h (l ++ f ∷ []) 2 (fed_same l f refl ∙ fed_same h e refl) left_l (omega (arith, len, len2)) (omega arith) d.keeps (drained_next m.requester m'.requester n d.after) d.fed
              (subst (λ b. IsWithin (fed_bytes c.requester) m.requester b false m.stopped h) was (subst (λ b. IsWithin (fed_bytes c.requester) m.requester m.pending b m.stopped h) whole st.within)))));
        }

    pub drains_all : m.pending ≡ true → m.write_failed ≡ false → n ≡ length (queue_of m.requester.state) → faults s' ≡ faults s → m'.entries ≡ m.entries + 1 → m'.pending ≡ false → m'.write_failed ≡ false
        → Becomes link taken faults allows m m' (entries.Wrote (taken_between m.requester.state m'.requester.state) ∷ [])
    drains_all was whole all same count pending sink_failed h st = subst (λ (b : List ℕ). Stands link taken faults allows m' (h ++ entries.Wrote b ∷ [])) (took_them m.requester m'.requester n d.after d.some) (wrote h was whole all same count pending sink_failed st)

    pub drains_some : m.pending ≡ true → m.write_failed ≡ false → Rises (faults s) (faults s') → m'.entries ≡ m.entries + 2 → m'.pending ≡ true → m'.write_failed ≡ true
        → Becomes link taken faults allows m m' (entries.Wrote (taken_between m.requester.state m'.requester.state) ∷ entries.WriteFailed ∷ [])
    drains_some was whole up count pending sink_failed h st =
        subst (λ (b : List ℕ). Stands link taken faults allows m' (h ++ entries.Wrote b ∷ entries.WriteFailed ∷ [])) (took_them m.requester m'.requester n d.after d.some)
        (subst (λ (l : List Entry). Stands link taken faults allows m' l) (append_assoc h (entries.Wrote bytes ∷ []) (entries.WriteFailed ∷ [])) (wrote_then_failed h was whole up count pending sink_failed st))
