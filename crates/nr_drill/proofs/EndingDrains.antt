-- After the first lines of a script, none of which is a `raw` line, a drain ends.
use Rattle.std.specs.Prelude.{◌<◌, ◌≤◌, ◌-◌, slice_index_or}
use Rattle.std.specs.List.{AllByRecursion}
use Rattle.std.proofs.Common.{◌≡◌, ◌≢◌, ℕ, zero, suc, ◌+◌, arith, Bool, true, false, List, [], ◌∷◌, ◌++◌, length, take, drop, Option, Some, refl, sym, ap, subst, ◌∙◌, length-append}
use Rattle.nr_reduce.specs.declared.mark.Mark.{Mark}
use Rattle.nr_reduce.specs.declared.mark.Mark.TheVariants as marks
use Rattle.nr_reduce.specs.History.{is_dropped}
use Rattle.nr_reduce.specs.NumberedJournal.{Standing, entries_alone, number_heard, standing_for}
use Rattle.nr_reduce.specs.NumberedJournal.Standing.{Old, Kept, New}
use Rattle.nr_reduce.specs.declared.mark.Told.TheVariants as told
use Rattle.nr_reduce.specs.KeepsCalls.{KeepsCalls}
use Rattle.nr_laws.proofs.KeptEntries.{kept_numbered}
use Rattle.nr_reduce.specs.ServerState.{ReadyCall}
use Rattle.nr_reduce.specs.Served.{next_call, last_frame_at}
use Rattle.nr_script.specs.Limits.{lines_max}
use Rattle.nr_script.specs.declared.script.Line.{Line}
use Rattle.nr_drill.specs.Drill.{Setting, Drill, GivenReply, client_of, setting_now, pipes_of, settled, with_mark, waiting_call, given, kept_reply, reply_by, standing_of, reply_given, journal_of, now, after_call, after_execution, after_work}
use Rattle.nr_drill.specs.Follows.{setting_of, opened_drill}
use Rattle.nr_drill.specs.WorkLeft.{DrainStep, after_step}
use Rattle.nr_drill.specs.WorkLeft.DrainStep.{AllUp, Work, AllDown}
use Rattle.nr_drill.specs.Drains.{IsRunning, DrainsEnd}
use Rattle.nr_drill.specs.Lines.{IsClient}
use Rattle.nr_drill.specs.InBytes.{RepliedInBytes}
use Rattle.nr_drill.proofs.Followed.{settled_adds}
use Rattle.nr_drill.proofs.TypedDrills.{KeptBySteps, up_keeps, work_keeps, down_keeps}
use Rattle.nr_drill.proofs.Actions.{IsLastOf, AnyRaw, NotOf, IsLineOf, all_act, part_not_of, lines_of, lines_kept}
use Rattle.nr_drill.proofs.Links.{DrillHolds, link_bytes}
use Rattle.nr_drill.proofs.BegunLinks.{first_then}
use Rattle.nr_drill.proofs.CarriedLinks.{CarriesThen, ClientCarries, carries_kept, first_carries}
use Rattle.nr_drill.proofs.ByteDrills.{IsByteDrill, BytesThen, byte_steps, bytes_kept, first_bytes, byte_replied, next_of_lem}
use Rattle.nr_drill.proofs.DrainedSteps.{running_from, front_of}
use Rattle.nr_drill.proofs.KeptReplies.{IsKnown, OwnThen, first_own, kept_replied, own_kept, step_known}
use Rattle.nr_drill.proofs.NumberedRuns.{JournaledThen, first_journaled, journaled_kept}
use Rattle.nr_drill.proofs.LessRounds.{AllFit, AllRun, AreApart, Fits, drain_ends}

-- ===== a call that waits is executed

longer : (xs ys : List Mark) (m : Mark) → (xs ++ m ∷ []) ++ ys ≡ xs → ⊥
longer xs ys m e =
    let all = ap (λ (r : List Mark). length r) e in
    let one = length-append (xs ++ m ∷ []) ys in
    let two = length-append xs (m ∷ []) in
    omega (arith, all, one, two)

moved_by : (s : Setting) (link : ℕ) (mark : Mark) (d : Drill) → after_work s link d ≡ settled s link (with_mark mark d) → (after_work s link d).marks ≢ d.marks
moved_by s link mark d work =
    let x = settled_adds s link (with_mark mark d) in
    λ same. longer d.marks x.marks.added mark (sym x.marks.is ∙ sym (ap (λ (o : Drill). o.marks) work) ∙ same)

work_is : (s : Setting) (link : ℕ) (d : Drill) (call : ReadyCall) → waiting_call s link d.marks ≡ Some call → after_work s link d ≡ after_call s link call (standing_of s link d call) (reply_given s link d call) d
unfolding after_work
work_is s link d call e = ap (λ (c : Option ReadyCall). after_execution s link c d) e

waiting_next : (s : Setting) (link : ℕ) (run : List Mark) (call : ReadyCall) → waiting_call s link run ≡ Some call → next_call (s.opened link) link run ≡ Some call
unfolding waiting_call
waiting_next s link run call e = next_of_lem (is_dropped link run) call (next_call (s.opened link) link run) e

standing_is : (s : Setting) (link : ℕ) (d : Drill) (call : ReadyCall) (is : Standing) → standing_of s link d call ≡ is → standing_for (journal_of s d.marks) (number_heard d.marks link) call.xid ≡ is
unfolding standing_of
standing_is s link d call is e = e

kept_given : (s : Setting) (link : ℕ) (d : Drill) (call : ReadyCall) (place : ℕ) (g : GivenReply) → standing_of s link d call ≡ Kept place → kept_reply s.server place (take place (journal_of s d.marks)) (drop place (journal_of s d.marks)) ≡ Some g →
    reply_given s link d call ≡ Some g
unfolding reply_given
kept_given s link d call place g is e = ap (λ (x : Standing). reply_by s.server (journal_of s d.marks) (now d) call.payload x) is ∙ e

new_given : (s : Setting) (link : ℕ) (d : Drill) (call : ReadyCall) (reply : List ℕ) → standing_of s link d call ≡ New → s.server.reply_to (entries_alone (journal_of s d.marks)) (now d) call.payload ≡ Some reply →
    reply_given s link d call ≡ Some (record { moment = now d; place = length (journal_of s d.marks); reply = reply })
unfolding reply_given
new_given s link d call reply is e =
    ap (λ (x : Standing). reply_by s.server (journal_of s d.marks) (now d) call.payload x) is ∙ ap (λ (r : Option (List ℕ)). given (now d) (length (journal_of s d.marks)) r) e

-- A call that waits is executed, or it is old. A kept one has the reply of its entry.
answered : (s : Setting) (link : ℕ) → ((s.opened link).client.number ≢ 0 → KeepsCalls s.server.reply_to s.server.adds) →
    ((d : Drill) (call : ReadyCall) → next_call (s.opened link) link d.marks ≡ Some call → (reply : List ℕ) × (s.server.reply_to (entries_alone (journal_of s d.marks)) (now d) call.payload ≡ Some reply)) →
    (d : Drill) (call : ReadyCall) → IsRunning s link d → IsKnown s.server d → waiting_call s link d.marks ≡ Some call → (after_work s link d).marks ≢ d.marks
answered s link keeps answers d call r k e = by (standing_of s link d call) refl
  where
    executes : (is : Standing) (g : GivenReply) → standing_of s link d call ≡ is → reply_given s link d call ≡ Some g → after_call s link call is (Some g) d ≡ settled s link (with_mark (marks.Execute link call.xid g.moment call.payload g.place g.reply) d) →
        (after_work s link d).marks ≢ d.marks
    executes is g e_is e_given makes =
        moved_by s link (marks.Execute link call.xid g.moment call.payload g.place g.reply) d (work_is s link d call e ∙ (λ i. after_call s link call (e_is i) (e_given i) d) ∙ makes)

    by : (is : Standing) → standing_of s link d call ≡ is → (after_work s link d).marks ≢ d.marks
    by (Old top) is =
        moved_by s link (marks.Told link (told.Old call.xid (last_frame_at link d.marks))) d
        (work_is s link d call e ∙ ap (λ (x : Standing). after_call s link call x (reply_given s link d call) d) is)
    by (Kept place) is =
        let T = journal_of s d.marks in
        let n = number_heard d.marks link in
        let at = standing_is s link d call (Kept place) is in
        let some : (s.opened link).client.number ≢ 0 = (λ none. kept_numbered T n call.xid place at (r.number ∙ none)) in
        let g = kept_replied s d (keeps some) k n call.xid place at in
        executes (Kept place) g.0 is (kept_given s link d call place g.0 is g.1) refl
    by New is =
        let answer = answers d call (waiting_next s link d.marks call e) in
        executes New (record { moment = now d; place = length (journal_of s d.marks); reply = answer.0 }) is (new_given s link d call answer.0 is answer.1) refl

-- ===== the last links of clients

-- they are of clients one after the other
abbrev pub Owned : (P : ℕ → ℕ → Type 0) → ℕ → List ℕ → Type 0
Owned P k [] = Unit {0}
Owned P k (x ∷ xs) = P k x × Owned P (suc k) xs

owned_at : (P : ℕ → ℕ → Type 0) (k : ℕ) (xs : List ℕ) → ((i n other : ℕ) → i < length xs → n ≡ k + i → P n (slice_index_or xs i other)) → Owned P k xs
owned_at P k [] all = tt
owned_at P k (x ∷ xs) all = (all 0 k x (omega arith) (omega arith), owned_at P (suc k) xs (λ i n other lt e. all (suc i) n other (omega (arith, lt)) (omega (arith, e))))

abbrev OfClient : Setting → ℕ → ℕ → Type 0
OfClient t c link = (1 ≤ link) × (client_of t link ≡ c)

later_apart : (t : Setting) (k j x : ℕ) (xs : List ℕ) → client_of t x ≡ k → k < j → Owned (OfClient t) j xs → AllByRecursion (λ (y : ℕ). (1 ≤ y) × (y ≢ x)) xs
later_apart t k j x [] own lt h = tt
later_apart t k j x (y ∷ xs) own lt h =
    ((h.0.0, λ same. (let one = h.0.1 in let two = ap (client_of t) same in omega (arith, own, lt, one, two))), later_apart t k (suc j) x xs own (omega (arith, lt)) h.1)

are_apart : (t : Setting) (k : ℕ) (xs : List ℕ) → Owned (OfClient t) k xs → AreApart xs
are_apart t k [] h = tt
are_apart t k (x ∷ xs) h = (h.0.0, later_apart t k (suc k) x xs h.0.1 (omega arith) h.1, are_apart t (suc k) xs h.1)

owned_all : (P : ℕ → ℕ → Type 0) (Q : ℕ → Type 0) (k : ℕ) (xs : List ℕ) → ((c link : ℕ) → P c link → Q link) → Owned P k xs → AllByRecursion Q xs
owned_all P Q k [] all h = tt
owned_all P Q k (x ∷ xs) all h = (all k x h.0, owned_all P Q (suc k) xs all h.1)

pub owned_map : (P Q : ℕ → ℕ → Type 0) (k : ℕ) (xs : List ℕ) → ((c link : ℕ) → P c link → Q c link) → Owned P k xs → Owned Q k xs
owned_map P Q k [] all h = tt
owned_map P Q k (x ∷ xs) all h = (all k x h.0, owned_map P Q (suc k) xs all h.1)

pub last_owned : (clients : ℕ) (d : Drill) → length d.last_links ≡ clients → Owned (λ (c : ℕ) (link : ℕ). IsLastOf clients c link d) 1 d.last_links
last_owned clients d count = owned_at (λ (c : ℕ) (link : ℕ). IsLastOf clients c link d) 1 d.last_links (λ i n other lt e. at i n other lt e)
  where
    inside : (links : List ℕ) (i one two : ℕ) → i < length links → slice_index_or links i one ≡ slice_index_or links i two
    inside [] i one two lt = absurd (omega (arith, lt))
    inside (l ∷ links) zero one two lt = refl
    inside (l ∷ links) (suc i) one two lt = inside links i one two (omega (arith, lt))

    at : (i n other : ℕ) → i < length d.last_links → n ≡ 1 + i → IsLastOf clients n (slice_index_or d.last_links i other) d
    at i n other lt e =
        let here : i ≡ n - 1 = omega (arith, e) in
        record {
          low = omega (arith, e);
          high = omega (arith, e, lt, count);
          is = inside d.last_links i other n lt ∙ ap (λ (k : ℕ). slice_index_or d.last_links k n) here;
        }

-- ===== a script

pub drains_end : DrainsEnd
unfolding journal_of
drains_end server script is keeps replies answers before after cut raw mid made = drain_ends t mid.last_links apart fits mid run known
  where
    s : Setting
    s = setting_of server script.opening

    clients : ℕ
    clients = script.opening.clients

    t : Setting
    t = setting_now s mid

    parts : AllByRecursion (IsLineOf script.opening AnyRaw) before
    parts = front_of (IsLineOf script.opening AnyRaw) before after (subst (AllByRecursion (IsLineOf script.opening AnyRaw)) cut (lines_of script is))

    few : length before ≤ lines_max
    few =
        let most = is.few_lines in
        let all = ap (λ (ls : List Line). length ls) cut in
        let sum = length-append before after in
        omega (arith, most, all, sum)

    kept : BytesThen s script.opening (length before) mid
    kept =
        lines_kept s script.opening AnyRaw AnyRaw (BytesThen s script.opening) (bytes_kept s script.opening AnyRaw replies) 0 (length before) clients before (opened_drill server script.opening) mid parts (all_act before) (omega arith) made
        (first_bytes server script is replies)

    bytes : IsByteDrill mid
    bytes = kept.1 few

    known : IsKnown server mid
    known = record {
      bytes = bytes;
      journaled = (lines_kept s script.opening AnyRaw AnyRaw (JournaledThen s script.opening) (journaled_kept s script.opening) 0 (length before) clients before (opened_drill server script.opening) mid parts (all_act before) (omega arith) made
          (first_then server script is, λ le all. first_journaled server script.opening)).1 few (byte_replied mid bytes);
      xids = (lines_kept s script.opening AnyRaw AnyRaw (OwnThen script.opening) (own_kept s script.opening) 0 (length before) clients before (opened_drill server script.opening) mid parts (all_act before) (omega arith) made
          (first_own server script is)).1;
    }

    replied : RepliedInBytes mid.marks
    replied = byte_replied mid bytes

    held : DrillHolds s script.opening (length before) mid
    held = kept.0.1 few replied

    -- the last links, by their clients
    owned : Owned (λ (c : ℕ) (link : ℕ). IsLastOf clients c link mid) 1 mid.last_links
    owned = last_owned clients mid held.frame.count

    apart : AreApart mid.last_links
    apart = are_apart t 1 mid.last_links (owned_map (λ (c : ℕ) (link : ℕ). IsLastOf clients c link mid) (OfClient t) 1 mid.last_links (λ c link last. (let own = held.frame.owned c link last in (own.0.0, own.1))) owned)

    link_fits : (c link : ℕ) → IsLastOf clients c link mid → Fits t link
    link_fits c link last =
        let l = held.links link (held.frame.owned c link last).0 in
        let k : KeptBySteps t link IsByteDrill = byte_steps t link (link_bytes script.opening (length before) (t.opened link) link mid.marks l) l.again (λ d typed executed. replies t.opened link d typed executed) in
        record {
          numbers = l.opened;
          keeps = λ step d running h. step_known t link step d running.server_heard (by k step d h.bytes) h;
          answers = λ d call r h e. answered t link (λ some. calls_kept script.opening.numbered refl (λ e_none. some (l.terms.unnumbered e_none))) (λ x waiting next. answers t.opened link x waiting next) d call r h e;
        }
      where
        calls_kept : (b : Bool) → script.opening.numbered ≡ b → (script.opening.numbered ≡ false → ⊥) → KeepsCalls server.reply_to server.adds
        calls_kept true is some = keeps is
        calls_kept false is some = absurd (some is)

        by : KeptBySteps t link IsByteDrill → (step : DrainStep) (d : Drill) → IsByteDrill d → IsByteDrill (after_step t link step d)
        by k AllUp d h = up_keeps t link IsByteDrill k (length (pipes_of link d).up) d h
        by k Work d h = work_keeps t link IsByteDrill k d h
        by k AllDown d h = down_keeps t link IsByteDrill k (length (pipes_of link d).down) d h

    fits : AllFit t mid.last_links
    fits = owned_all (λ (c : ℕ) (link : ℕ). IsLastOf clients c link mid) (Fits t) 1 mid.last_links link_fits owned

    carried : (c : ℕ) → IsClient script c → ClientCarries s c mid
    carried c within =
        (lines_kept s script.opening AnyRaw (NotOf c) (CarriesThen s script.opening c) (carries_kept s script.opening c) 0 (length before) clients before (opened_drill server script.opening) mid
        (part_not_of script.opening c before (raw c within) parts) (all_act before) (omega arith) made (first_then server script is, λ le all. first_carries server script is c)).1 few replied

    link_runs : (c link : ℕ) → IsLastOf clients c link mid → IsRunning t link mid
    link_runs c link last =
        let here = held.frame.owned c link last in
        let l = held.links link here.0 in
        running_from t link mid (l.lawful, l.written, l.none) (carried c (last.low, last.high) link here.0 here.1) l.heard

    run : AllRun t mid.last_links mid
    run = owned_all (λ (c : ℕ) (link : ℕ). IsLastOf clients c link mid) (λ (link : ℕ). IsRunning t link mid) 1 mid.last_links link_runs owned
