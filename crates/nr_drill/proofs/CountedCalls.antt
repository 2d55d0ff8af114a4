-- After all lines of a script: the xids of a client's new calls rise by one from 1 over all its links, and a call that is sent again has one of these. No
-- later link of a client has executed a call.
use Rattle.std.specs.Prelude.{◌-◌, slice_index_or}
use Rattle.std.specs.List.{AllByRecursion}
use Rattle.std.proofs.Common.{◌≡◌, ◌≢◌, ℕ, zero, suc, ◌+◌, ◌≤◌, ◌<◌, arith, Bool, true, false, eqb, eqb-true, ◌&&◌, List, [], ◌∷◌, ◌++◌, length, None, refl, sym, ap, subst, ◌∙◌, ◌⊎◌, inl, inr, append-nil, append_assoc, length-append}
use Rattle.std.proofs.lemmas.Bool.{eq-eqb}
use Rattle.nr_wire.specs.declared.hello.Side.TheVariants.{Initiator, Responder}
use Rattle.nr_link.specs.Frames.{frames_completed}
use Rattle.nr_reduce.specs.declared.mark.Mark.{Mark}
use Rattle.nr_reduce.specs.declared.mark.Mark.TheVariants as marks
use Rattle.nr_reduce.specs.declared.mark.LinkParameters.{LinkParameters}
use Rattle.nr_reduce.specs.AtEachMark.{AtEachMark}
use Rattle.nr_reduce.specs.Asked.{AskedMark, IsAll}
use Rattle.nr_reduce.specs.ClientState.{ClientState, WaitingCall, stag_after}
use Rattle.nr_reduce.specs.Limits.{numbers_end}
use Rattle.nr_reduce.specs.EndRules.{EndState}
use Rattle.nr_reduce.specs.Events.{events, events_at}
use Rattle.nr_reduce.specs.Events.RunEvent.{MemoryRevoked, QueueWritten, ServerTold}
use Rattle.nr_reduce.specs.History.{bytes_received, executed_at, executed_calls, is_dropped, same_side}
use Rattle.nr_reduce.specs.Reopening.{reopened}
use Rattle.nr_reduce.specs.Run.{client}
use Rattle.nr_reduce.proofs.Unresumed.{none_resent}
use Rattle.nr_texts.specs.declared.opening.Opening.{Opening}
use Rattle.nr_script.specs.Limits.{lines_max}
use Rattle.nr_script.specs.Script.{ScriptLines, IsScript}
use Rattle.nr_drill.specs.Drill.{SerialServer, link_of, Setting, Drill, IsLink, client_of, last_link, links_of, setting_now, start, with_cred, after_opening, after_openings, after_leaving}
use Rattle.nr_drill.specs.Follows.{Follows, setting_of, opened_drill}
use Rattle.nr_drill.specs.InBytes.{RepliedInBytes}
use Rattle.nr_drill.specs.private.Drafts.{HasNextXid, new_at, new_calls}
use Rattle.nr_drill.proofs.DraftLists.{executed_one}
use Rattle.nr_drill.proofs.AddedMarks.{QuietRules, opening_by}
use Rattle.nr_drill.proofs.NumberedRuns.{each_then}
use Rattle.nr_drill.proofs.Followed.{Extends, apart, client_elsewhere, laws_of, opening_adds, same_setting}
use Rattle.nr_drill.proofs.OpenCalls.{SameOn}
use Rattle.nr_drill.proofs.Actions.{Action, after_action, counted, IsLastOf, IsKept, AnyRaw, lines_kept, lines_of, all_act}
use Rattle.nr_drill.proofs.Links.{DrillHolds, LinkHolds, NoMarkOf, map_all, action_extends}
use Rattle.nr_drill.proofs.BegunLinks.{IsBegun, begun_drill, next_link, begins_so, begun_owned, new_holds, next_stags, other_last, same_on, counted_most, replied_before, open_drill, index_map, first_then}
use Rattle.nr_drill.proofs.BegunOrder.{InOrder, OrderThen, order_begun, order_kept, first_order, none_begun, le_or}
use Rattle.nr_drill.proofs.NextXids.{IsQuiet, frames_quiet, if_quiet, never, first_next, IsCounted, quiet_mark, counts_all, IsOfLatest, latest_all, same_client_lem, same_calls, each_same, latest_same, other_calls}

-- ===== a drill

pub record AreCounted (t : Setting) (clients : ℕ) (d : Drill) : Type 0 where
  pub counts : (c link : ℕ) → IsLastOf clients c link d → IsCounted t link d.marks
  pub each : AtEachMark (HasNextXid t) [] d.marks
  pub latest : AtEachMark (IsOfLatest t) [] d.marks

each_rest : (P : List Mark → Mark → Type 0) (before first second : List Mark) → AtEachMark P before (first ++ second) → AtEachMark P (before ++ first) second
each_rest P before [] second h = subst (λ (run : List Mark). AtEachMark P run second) (sym (append-nil before)) h
each_rest P before (mark ∷ first) second h = subst (λ (run : List Mark). AtEachMark P run second) (append_assoc before (mark ∷ []) first) (each_rest P (before ++ mark ∷ []) first second h.1)

each_join : (P : List Mark → Mark → Type 0) (before first second : List Mark) → AtEachMark P before first → AtEachMark P (before ++ first) second → AtEachMark P before (first ++ second)
each_join P before [] second h g = subst (λ (run : List Mark). AtEachMark P run second) (append-nil before) g
each_join P before (mark ∷ first) second h g =
    (h.0, each_join P (before ++ mark ∷ []) first second h.1 (subst (λ (run : List Mark). AtEachMark P run second) (sym (append_assoc before (mark ∷ []) first)) g))

-- marks of the last link of a client leave this
counts_extend : (t : Setting) (opening : Opening) (n c link : ℕ) (old new : Drill) → IsLastOf opening.clients c link old → Extends link old new → LinkHolds opening n (t.opened link) link new.marks →
    ((other l : ℕ) → IsLastOf opening.clients other l old → IsLink old l × (client_of t l ≡ other)) → AllByRecursion (λ (mark : Mark). IsLink old (link_of mark)) old.marks → InOrder t opening.clients old →
    AreCounted t opening.clients old → AreCounted t opening.clients new
counts_extend t opening n c link old new last x holds owned within order h = record {
  counts = λ other l is. subst (λ (run : List Mark). IsCounted t l run) (sym x.marks.is) (count_of other l (record { low = is.low; high = is.high; is = is.is ∙ ap (λ (ls : List ℕ). slice_index_or ls (other - 1) other) x.last_links }));
  each = subst (AtEachMark (HasNextXid t) []) (sym x.marks.is) (each_join (HasNextXid t) [] old.marks x.marks.added h.each own_counts.0);
  latest = subst (AtEachMark (IsOfLatest t) []) (sym x.marks.is) (each_join (IsOfLatest t) [] old.marks x.marks.added h.latest (latest_all t link old.marks x.marks.added x.marks.own fresh));
}
  where
    here : IsLink old link × (client_of t link ≡ c)
    here = owned c link last

    own_counts : AtEachMark (HasNextXid t) old.marks x.marks.added × IsCounted t link (old.marks ++ x.marks.added)
    own_counts =
        counts_all t link holds.opened old.marks x.marks.added x.marks.own
        (each_rest (AskedMark IsAll (t.opened link) link) [] old.marks x.marks.added
        (subst (AtEachMark (AskedMark IsAll (t.opened link) link) []) x.marks.is (laws_of (t.opened link) link new.marks holds.lawful holds.written holds.none).asked.each))
        (h.counts c link last)

    -- a later link of the client isn't there yet
    fresh : (other : ℕ) → client_of t other ≡ client_of t link → link < other → NoMarkOf other old.marks
    fresh other same lt = by (le_or other (length old.opened))
      where
        by : (other ≤ length old.opened) ⊎ (length old.opened < other) → NoMarkOf other old.marks
        by (inl le) =
            absurd (let high = order.last other (omega (arith, lt), le) in
            let own : slice_index_or old.last_links (client_of t other - 1) (client_of t other) ≡ link = ap (λ (m : ℕ). slice_index_or old.last_links (m - 1) m) (same ∙ here.1) ∙ sym last.is in
            omega (arith, high, own, lt))
        by (inr past) = map_all (λ (mark : Mark). IsLink old (link_of mark)) (λ (mark : Mark). link_of mark ≢ other) old.marks (λ mark is at. (let most = is.1 in omega (arith, most, at, past))) within

    count_of : (other l : ℕ) → IsLastOf opening.clients other l old → IsCounted t l (old.marks ++ x.marks.added)
    count_of other l is = by (eqb link l) refl
      where
        differs : true ≡ false → ⊥
        differs wrong = absurd cc

        by : (b : Bool) → eqb link l ≡ b → IsCounted t l (old.marks ++ x.marks.added)
        by true same = subst (λ (k : ℕ). IsCounted t k (old.marks ++ x.marks.added)) (eqb-true link l same) own_counts.1
        by false ne =
            let from : link ≢ l = (λ same. differs (sym (eq-eqb link l same) ∙ ne)) in
            let apart_of : client_of t link ≢ client_of t l =
            (λ same. from (last.is ∙ ap (λ (m : ℕ). slice_index_or old.last_links (m - 1) m) (sym here.1 ∙ same ∙ (owned other l is).1) ∙ sym is.is)) in
            let state = ap (λ (r : EndState ClientState). r.state.next_xid) (client_elsewhere (t.opened l) l link old.marks x.marks.added from x.marks.own) in
            let calls = ap (λ (xs : List ℕ). length xs) (other_calls t (client_of t l) link old.marks x.marks.added apart_of x.marks.own) in
            let was = h.counts other l is in
            omega (arith, state, calls, was)

-- ===== a link begins

reopened_first : (o : LinkParameters) (link : ℕ) (run : List Mark) → (reopened o link run).first_xid ≡ (client o link run).state.next_xid
unfolding reopened
reopened_first o link run = refl

module _ (s : Setting) (opening : Opening) (n c link : ℕ) (d : Drill) (within : suc n ≤ lines_max) (last : IsLastOf opening.clients c link d) (numbered : opening.numbered ≡ true)
    (stays : (client ((setting_now s d).opened link) link d.marks).ended ≡ None) (held : DrillHolds s opening n d) (h : AreCounted (setting_now s d) opening.clients d) where
  abbrev t : Setting
  t = setting_now s d

  abbrev begun : Drill
  begun = begun_drill s c link d

  abbrev u : Setting
  u = setting_now s begun

  abbrev next : ℕ
  next = next_link d

  b : IsBegun s c link d
  b = begins_so s opening n c link d within last numbered stays held

  alike : SameOn t u d.marks
  alike = same_on s opening n c link d within last numbered stays held

  new_count : IsCounted u next d.marks
  new_count =
      let none : events next Initiator d.marks ≡ [] = (none_begun next d.marks b.apart).0 in
      let first = first_next (u.opened next) next d.marks none in
      let from = ap (λ (o : LinkParameters). o.first_xid) b.new_link ∙ reopened_first (t.opened link) link d.marks in
      let calls : length (new_calls u (client_of u next) d.marks) ≡ length (new_calls t (client_of t link) d.marks) =
      ap (λ (xs : List ℕ). length xs) (same_calls t u (client_of u next) d.marks alike ∙ ap (λ (m : ℕ). new_calls t m d.marks) (b.owner ∙ sym (held.frame.owned c link last).1)) in
      let was = h.counts c link last in
      omega (arith, first, from, calls, was)

  pub counts_begun : AreCounted u opening.clients begun
  counts_begun = record {
    counts = λ other l is. by other l is (eqb other c) refl;
    each = each_same t u [] d.marks tt alike h.each;
    latest = latest_same t u [] d.marks (λ other. which other (le_or other (length d.opened))) alike h.latest;
  }
    where
      differs : true ≡ false → ⊥
      differs wrong = absurd cc

      which : (other : ℕ) → (other ≤ length d.opened) ⊎ (length d.opened < other) → (NoMarkOf other [] × NoMarkOf other d.marks) ⊎ (client_of u other ≡ client_of t other)
      which other (inr past) = inl (tt, map_all (λ (mark : Mark). IsLink d (link_of mark)) (λ (mark : Mark). link_of mark ≢ other) d.marks (λ mark is at. (let most = is.1 in omega (arith, most, at, past))) held.frame.within)
      which zero (inl le) = inr refl
      which (suc other) (inl le) = inr (same_client_lem t u (suc other) (b.old_link (suc other) (omega arith, le)))

      by : (other l : ℕ) → IsLastOf opening.clients other l begun → (e : Bool) → eqb other c ≡ e → IsCounted u l d.marks
      by other l is true same =
          let own = eqb-true other c same in
          subst (λ (k : ℕ). IsCounted u k d.marks) (sym (is.is ∙ ap (λ (m : ℕ). last_link m begun) own ∙ b.is_last)) new_count
      by other l is false ne =
          let from : other ≢ c = (λ same. differs (sym (eq-eqb other c same) ∙ ne)) in
          let old : IsLastOf opening.clients other l d = record { low = is.low; high = is.high; is = is.is ∙ other_last s opening n c link d within last numbered stays held other is.low from } in
          let was = held.frame.owned other l old in
          let same : u.opened l ≡ t.opened l = b.old_link l was.0 in
          let state = ap (λ (o : LinkParameters). (client o l d.marks).state.next_xid) same in
          let calls : length (new_calls u (client_of u l) d.marks) ≡ length (new_calls t (client_of t l) d.marks) =
          ap (λ (xs : List ℕ). length xs) (same_calls t u (client_of u l) d.marks alike ∙ ap (λ (m : ℕ). new_calls t m d.marks) (same_client_lem t u l same)) in
          let count = h.counts other l old in
          omega (arith, state, calls, count)

  pub counts_left : stag_after (reopened (t.opened link) link d.marks).first_stag (reopened (t.opened link) link d.marks).resumed ≤ numbers_end → is_dropped link d.marks ≡ true → InOrder t opening.clients d →
      AreCounted (setting_now s (after_leaving s c link d)) opening.clients (after_leaving s c link d)
  counts_left stags left order =
      let in_begun : AllByRecursion (λ (mark : Mark). IsLink begun (link_of mark)) d.marks =
      map_all (λ (mark : Mark). IsLink d (link_of mark)) (λ (mark : Mark). IsLink begun (link_of mark)) d.marks
      (λ mark is. (is.0, (let few = is.1 in let more = length-append d.opened (reopened (t.opened link) link d.marks ∷ []) in omega (arith, few, more)))) held.frame.within in
      let opened : AreCounted u opening.clients (after_opening u next begun) =
      counts_extend u opening (suc n) c next begun (after_opening u next begun) (record { low = last.low; high = last.high; is = sym b.is_last }) (opening_adds u next begun)
      (new_holds s opening n c link d within last numbered stays held) (begun_owned s opening n c link d within last numbered stays held) in_begun
      (order_begun s opening n c link d last b held numbered stays stags left order) counts_begun in
      let whole : AreCounted u opening.clients (after_opening u (last_link c begun) begun) = subst (λ (l : ℕ). AreCounted u opening.clients (after_opening u l begun)) (sym b.is_last) opened in
      let x = opening_adds u (last_link c begun) begun in
      subst (λ (v : Setting). AreCounted v opening.clients (after_leaving s c link d)) (sym (same_setting s begun (after_leaving s c link d) (record { opened = x.opened; last_links = x.last_links }))) whole

-- ===== all lines

abbrev CountedThen : Setting → Opening → ℕ → Drill → Type 0
CountedThen s opening n d = OrderThen s opening n d × (n ≤ lines_max → RepliedInBytes d.marks → AreCounted (setting_now s d) opening.clients d)

same_counts : (t : Setting) (clients : ℕ) (old new : Drill) → new.marks ≡ old.marks → new.last_links ≡ old.last_links → AreCounted t clients old → AreCounted t clients new
same_counts t clients old new marks_are links_are h = record {
  counts = λ c l is. subst (IsCounted t l) (sym marks_are) (h.counts c l (record { low = is.low; high = is.high; is = is.is ∙ ap (λ (ls : List ℕ). slice_index_or ls (c - 1) c) links_are }));
  each = subst (AtEachMark (HasNextXid t) []) (sym marks_are) h.each;
  latest = subst (AtEachMark (IsOfLatest t) []) (sym marks_are) h.latest;
}

counted_kept : (s : Setting) (opening : Opening) → IsKept s opening AnyRaw AnyRaw (CountedThen s opening)
counted_kept s opening =
    let k = order_kept s opening in
    record {
      count = λ n d p. k.count n d p.0;
      later = λ n d p. (k.later n d p.0, λ le replied. p.1 (omega (arith, le)) replied);
      credential = λ n c cred d can typed p. (k.credential n c cred d can typed p.0, λ le replied. same_counts (setting_now s d) opening.clients d (with_cred c cred d) refl refl (p.1 le replied));
      time = λ n seconds d p. (k.time n seconds d p.0, λ le replied. same_counts (setting_now s d) opening.clients d (record d { seconds = d.seconds + seconds }) refl refl (p.1 le replied));
      action = λ n c link a d last acts may p. (
        k.action n c link a d last acts may p.0,
        λ le replied. acted n c link a d last p le replied ((k.action n c link a d last acts may p.0).0.1 le replied),
      );
      begins = λ n c link d last acts numbered gone stays p. (
        k.begins n c link d last acts numbered gone stays p.0,
        λ le replied. (let fits : n ≤ lines_max = omega (arith, le) in
            let begun = begun_drill s c link d in
            let before = replied_before (last_link c begun) begun (after_leaving s c link d) (opening_adds (setting_now s begun) (last_link c begun) begun) replied in
            let held = p.0.0.1 fits before in
            counts_left s opening n c link d le last numbered stays held (p.1 fits before) (next_stags s opening n c link d le last numbered stays held) gone (p.0.1 fits before)),
      );
    }
  where
    acted : (n c link : ℕ) (a : Action) (d : Drill) → IsLastOf opening.clients c link d → CountedThen s opening n d → counted a n ≤ lines_max → RepliedInBytes (after_action (setting_now s d) link a d).marks →
        DrillHolds s opening (counted a n) (after_action (setting_now s d) link a d) → AreCounted (setting_now s (after_action (setting_now s d) link a d)) opening.clients (after_action (setting_now s d) link a d)
    acted n c link a d last p le replied holds =
        let t = setting_now s d in
        let new = after_action t link a d in
        let x = action_extends t link a d in
        let most = counted_most a n in
        let fits : n ≤ lines_max = omega (arith, le, most) in
        let before = replied_before link d new x replied in
        let held = p.0.0.1 fits before in
        let same : setting_now s new ≡ t = same_setting s d new (record { opened = x.opened; last_links = x.last_links }) in
        let here = (held.frame.owned c link last).0 in
        let l = holds.links link (subst (λ (os : List LinkParameters). (1 ≤ link) × (link ≤ length os)) (sym x.opened) here) in
        subst (λ (v : Setting). AreCounted v opening.clients new) (sym same)
        (counts_extend t opening (counted a n) c link d new last x (subst (λ (v : Setting). LinkHolds opening (counted a n) (v.opened link) link new.marks) same l) held.frame.owned held.frame.within (p.0.1 fits before) (p.1 fits before))

-- ===== the first links: no call is submitted or executed as they open

abbrev NoCallMark : List Mark → Mark → Type 0
NoCallMark before (marks.Submit l call form answer) = ⊥
NoCallMark before (marks.Execute l xid moment payload place reply) = ⊥
NoCallMark before mark = Unit {0}

no_call_rules : (s : Setting) (link : ℕ) → (s.opened link).resumed ≡ [] → QuietRules NoCallMark s link
no_call_rules s link none = record {
  wrote = λ run side bytes. tt;
  fed = λ run side bytes. tt;
  done = λ run xid outcome. tt;
  resent = λ run w rest is. absurd (let e : ◌≡◌ {A = List WaitingCall} [] (w ∷ rest) = sym (none_resent (s.opened link) link run none) ∙ is in cc);
}

openings_quiet : (s : Setting) (links : List ℕ) (d : Drill) → ((l : ℕ) → (s.opened l).resumed ≡ []) → AtEachMark NoCallMark [] d.marks → AtEachMark NoCallMark [] (after_openings s links d).marks
openings_quiet s [] d none h = h
openings_quiet s (link ∷ links) d none h =
    openings_quiet s links (after_opening s link d) none (each_then NoCallMark d (after_opening s link d) (opening_by NoCallMark s link (no_call_rules s link (none link)) d) h)

no_new : (s : Setting) (c : ℕ) (before : List Mark) (mark : Mark) → NoCallMark before mark → new_at s c mark ≡ []
no_new s c before (marks.Submit l call form answer) q = absurd q
no_new s c before (marks.Execute l xid moment payload place reply) q = absurd q
no_new s c before (marks.Wrote l side bytes) q = refl
no_new s c before (marks.Fed l side bytes) q = refl
no_new s c before (marks.Done l xid outcome) q = refl
no_new s c before (marks.Lost l xid) q = refl
no_new s c before (marks.Forget l xid) q = refl
no_new s c before (marks.Revoke l xid bytes) q = refl
no_new s c before (marks.Drop l) q = refl
no_new s c before (marks.Told l what) q = refl

no_execution : (link : ℕ) (before : List Mark) (mark : Mark) → NoCallMark before mark → executed_at link mark ≡ []
no_execution link before (marks.Submit l call form answer) q = absurd q
no_execution link before (marks.Execute l xid moment payload place reply) q = absurd q
no_execution link before (marks.Wrote l side bytes) q = refl
no_execution link before (marks.Fed l side bytes) q = refl
no_execution link before (marks.Done l xid outcome) q = refl
no_execution link before (marks.Lost l xid) q = refl
no_execution link before (marks.Forget l xid) q = refl
no_execution link before (marks.Revoke l xid bytes) q = refl
no_execution link before (marks.Drop l) q = refl
no_execution link before (marks.Told l what) q = refl

no_events : (s : Setting) (link : ℕ) (run : List Mark) (mark : Mark) → NoCallMark run mark → AllByRecursion (IsQuiet (s.opened link)) (events_at link Initiator run mark)
no_events s link run (marks.Submit l call form answer) q = absurd q
no_events s link run (marks.Execute l xid moment payload place reply) q = absurd q
no_events s link run (marks.Wrote l side bytes) q = if_quiet (s.opened link) (eqb l link && same_side side Initiator) (QueueWritten (length bytes) ∷ []) (tt, tt)
no_events s link run (marks.Fed l side bytes) q = if_quiet (s.opened link) (eqb l link && same_side side Initiator) _ (frames_quiet (s.opened link) (frames_completed Responder (bytes_received link Initiator run) bytes))
no_events s link run (marks.Done l xid outcome) q = tt
no_events s link run (marks.Lost l xid) q = tt
no_events s link run (marks.Forget l xid) q = tt
no_events s link run (marks.Revoke l xid bytes) q = if_quiet (s.opened link) (eqb l link && true) (MemoryRevoked (length (bytes_received link Initiator run)) xid ∷ []) (tt, tt)
no_events s link run (marks.Drop l) q = tt
no_events s link run (marks.Told l what) q = never (s.opened link) (eqb l link) (ServerTold what ∷ [])

no_next : (s : Setting) (before : List Mark) (mark : Mark) → NoCallMark before mark → HasNextXid s before mark
no_next s before (marks.Submit l call form answer) q = absurd q
no_next s before (marks.Execute l xid moment payload place reply) q = absurd q
no_next s before (marks.Wrote l side bytes) q = tt
no_next s before (marks.Fed l side bytes) q = tt
no_next s before (marks.Done l xid outcome) q = tt
no_next s before (marks.Lost l xid) q = tt
no_next s before (marks.Forget l xid) q = tt
no_next s before (marks.Revoke l xid bytes) q = tt
no_next s before (marks.Drop l) q = tt
no_next s before (marks.Told l what) q = tt

quiet_counts : (s : Setting) (link : ℕ) (before run : List Mark) → AtEachMark NoCallMark before run → IsCounted s link before → IsCounted s link (before ++ run)
quiet_counts s link before [] q is = subst (IsCounted s link) (sym (append-nil before)) is
quiet_counts s link before (mark ∷ run) q is =
    subst (IsCounted s link) (append_assoc before (mark ∷ []) run)
    (quiet_counts s link (before ++ mark ∷ []) run q.1 (quiet_mark s before link mark (no_events s link before mark q.0) (no_new s (client_of s link) before mark q.0) is))

executed_more : (link : ℕ) (run : List Mark) (mark : Mark) → executed_calls link run ≡ [] → executed_at link mark ≡ [] → executed_calls link (run ++ mark ∷ []) ≡ []
executed_more link run mark none own = executed_one link run mark ∙ (λ i. none i ++ own i)

quiet_each : (s : Setting) (before run : List Mark) → ((link : ℕ) → executed_calls link before ≡ []) → AtEachMark NoCallMark before run → AtEachMark (HasNextXid s) before run × AtEachMark (IsOfLatest s) before run
quiet_each s before [] none q = (tt, tt)
quiet_each s before (mark ∷ run) none q =
    let rest = quiet_each s (before ++ mark ∷ []) run (λ link. executed_more link before mark (none link) (no_execution link before mark q.0)) q.1 in
    ((no_next s before mark q.0, rest.0), ((λ other same lt. none other), rest.1))

none_at_first : (s : Setting) (link : ℕ) → (s.opened link).first_xid ≡ 1 → IsCounted s link []
unfolding events new_calls
none_at_first s link one = (let first = first_next (s.opened link) link [] refl in omega (arith, first, one))

none_so_far : (link : ℕ) → executed_calls link [] ≡ []
unfolding executed_calls
none_so_far link = refl

module _ (server : SerialServer) (script : ScriptLines) (is : IsScript script) where
  abbrev first : Drill
  first = opened_drill server script.opening

  abbrev base : Setting
  base = setting_of server script.opening

  quiet_first : AtEachMark NoCallMark [] first.marks
  unfolding opened_drill
  quiet_first = openings_quiet base (links_of script.opening.clients) (start base script.opening.clients) (λ l. refl) tt

  as_at_first : setting_now base first ≡ base
  as_at_first =
      ap (λ (all : List LinkParameters). record base { opened = λ link. slice_index_or (base.opened 0 ∷ all) link (base.opened link) }) (open_drill server script is).opened
      ∙ (λ i. record base { opened = λ link. index_map base.opened 0 (suc script.opening.clients) link link (omega arith) i })

  counts_first : AreCounted (setting_now base first) script.opening.clients first
  counts_first =
      let each = quiet_each base [] first.marks none_so_far quiet_first in
      subst (λ (v : Setting). AreCounted v script.opening.clients first) (sym as_at_first) (record {
        counts = λ c link last. quiet_counts base link [] first.marks quiet_first (none_at_first base link refl);
        each = each.0;
        latest = each.1;
      })

  -- after all lines of a script
  pub calls_are_counted : (run : List Mark) → RepliedInBytes run → (follows : Follows server script run) → AreCounted (setting_now base follows.last) script.opening.clients follows.last
  calls_are_counted run replied follows =
      (lines_kept base script.opening AnyRaw AnyRaw (CountedThen base script.opening) (counted_kept base script.opening) 0 (length script.lines) script.opening.clients script.lines (opened_drill server script.opening) follows.last
      (lines_of script is) (all_act script.lines) (omega arith) follows.makes ((first_then server script is, λ le replied. first_order server script is), λ le replied. counts_first)).1 is.few_lines (subst RepliedInBytes follows.marks_are replied)
