-- After a last drain nothing waits, and all calls have completed.
use Rattle.std.specs.Prelude.{◌-◌, ◌==◌, ◌&&◌, is_none, slice_index_or, if◌then◌else◌}
use Rattle.std.specs.List.{list_all, AllByRecursion}
use Rattle.std.proofs.Common.{◌≡◌, ◌≢◌, ℕ, zero, suc, ◌+◌, ◌≤◌, ◌<◌, arith, eqb, eqb-true, Bool, true, false, List, [], ◌∷◌, ◌++◌, length, Option, None, Some, refl, sym, ap, subst, ◌∙◌, append-nil, append_assoc, length-append}
use Rattle.std.proofs.lemmas.Bool.{eq-eqb}
use Rattle.std.proofs.lemmas.List.{get_or-set_other}
use Rattle.nr_wire.specs.declared.hello.Side.TheVariants.{Initiator, Responder}
use Rattle.nr_reduce.specs.declared.mark.Mark.{Mark}
use Rattle.nr_reduce.specs.declared.mark.LinkParameters.{LinkParameters}
use Rattle.nr_reduce.specs.History.{bytes_sent, bytes_received, is_dropped}
use Rattle.nr_reduce.specs.Matched.{Matched}
use Rattle.nr_reduce.specs.Reopening.{reopened}
use Rattle.nr_reduce.specs.ServerState.{ReadyCall, ServerState}
use Rattle.nr_reduce.specs.Served.{next_call, first_ready}
use Rattle.nr_laws.specs.Completion.{NothingInTransit}
use Rattle.nr_reduce.specs.Events.{RunEvent}
use Rattle.nr_reduce.specs.EndRules.{EndState, end_state_after}
use Rattle.nr_reduce.specs.Server.{server_rules}
use Rattle.nr_reduce.specs.Run.{server}
use Rattle.nr_reduce.proofs.Steps.{server_one}
use Rattle.nr_laws.proofs.Flows.{got_sent}
use Rattle.nr_texts.specs.declared.opening.Opening.{Opening}
use Rattle.nr_script.specs.Limits.{lines_max}
use Rattle.nr_script.specs.declared.script.Line.{Line}
use Rattle.nr_script.specs.declared.script.Line.TheVariants as lines
use Rattle.nr_script.specs.Script.{ScriptLines, IsScript}
use Rattle.nr_drill.specs.Lines.{EndsWithDrain}
use Rattle.nr_drill.specs.Drill.{link_of, SerialServer, Setting, Drill, IsLink, client_of, last_link, setting_now, pipes_of, with_cred, if_standing, waiting_call, after_moves, after_round, after_opening, after_leaving}
use Rattle.nr_drill.specs.Follows.{is_empty, is_still, Drains, MakeAll, Follows, setting_of, last_setting, opened_drill}
use Rattle.nr_drill.specs.InBytes.{RepliedInBytes}
use Rattle.nr_drill.proofs.Followed.{Extends, KeepsLinks, no_event, extending_keeps, same_setting, moves_adds, opening_adds}
use Rattle.nr_drill.proofs.Carried.{IsSameHere, same_here}
use Rattle.nr_drill.proofs.NoneLost.{NoneLost, follows_lose_nothing}
use Rattle.nr_drill.proofs.Actions.{Action, after_action, IsLastOf, IsKept, AnyRaw, NotOf, IsLineOf, then_keep, all_act, lines_apart, lines_of, line_kept, lines_kept}
use Rattle.nr_drill.proofs.Links.{DrillHolds, action_extends}
use Rattle.nr_drill.proofs.BegunLinks.{Holds, IsBegun, begun_drill, next_link, begins_so, holds_kept, counted_most, replied_before, first_then}
use Rattle.nr_drill.proofs.BegunOrder.{InOrder, links_in_order}
use Rattle.nr_drill.proofs.DrainedSteps.{IsCut, cut_at, front_of, back_of}

both_true : (a b : Bool) → (a && b) ≡ true → (a ≡ true) × (b ≡ true)
both_true true b e = (refl, e)
both_true false b e = absurd cc

none_left : (xs : List ℕ) → is_empty xs ≡ true → xs ≡ []
none_left [] e = refl
none_left (x ∷ xs) e = absurd cc

none_there : (call : Option ReadyCall) → is_none call ≡ true → call ≡ None
none_there None e = refl
none_there (Some call) e = absurd cc

pub drained_all : (s : Setting) (links : List ℕ) (rounds : ℕ) (old new : Drill) → Drains s links rounds old new → list_all (is_still s new) links ≡ true
drained_all s links zero old new drains = subst (λ (d : Drill). list_all (is_still s d) links ≡ true) (sym drains.1) drains.0
drained_all s links (suc rounds) old new drains = drained_all s links rounds (after_round s links old) new drains.1

all_at : (p : ℕ → Bool) (xs : List ℕ) (i other : ℕ) → list_all p xs ≡ true → i < length xs → p (slice_index_or xs i other) ≡ true
all_at p [] i other e lt = absurd (omega (arith, lt))
all_at p (x ∷ xs) zero other e lt = (both_true (p x) (list_all p xs) e).0
all_at p (x ∷ xs) (suc i) other e lt = all_at p xs i other (both_true (p x) (list_all p xs) e).1 (omega (arith, lt))

no_more : (xs ys rest : List ℕ) → xs ++ rest ≡ ys → length ys ≤ length xs → xs ≡ ys
no_more xs ys [] e le = sym (append-nil xs) ∙ e
no_more xs ys (b ∷ rest) e le = absurd (let count : length xs + length (b ∷ rest) ≡ length ys = sym (length-append xs (b ∷ rest)) ∙ ap length e in omega (arith, count, le))

-- On a matched link that isn't dropped, and on which nothing moves, nothing waits.
nothing_waits : (s : Setting) (link : ℕ) (d : Drill) → Matched link d.marks → NoneLost link d → is_dropped link d.marks ≡ false → is_still s d link ≡ true → NothingInTransit (s.opened link) link d.marks
unfolding is_still waiting_call
nothing_waits s link d matched none standing still =
    let pipes = pipes_of link d in
    let call = if_standing (is_dropped link d.marks) (next_call (s.opened link) link d.marks) in
    let parts = both_true (is_empty pipes.up) (is_empty pipes.down && is_none call) still in
    let more = both_true (is_empty pipes.down) (is_none call) parts.1 in
    let up = got_sent link Responder d.marks matched in
    let down = got_sent link Initiator d.marks matched in
    let up_len : length (bytes_sent link Initiator d.marks) ≤ length (bytes_received link Responder d.marks) + length pipes.up = none.up standing in
    let down_len : length (bytes_sent link Responder d.marks) ≤ length (bytes_received link Initiator d.marks) + length pipes.down = none.down standing in
    let no_up : length pipes.up ≡ 0 = ap length (none_left pipes.up parts.0) in
    let no_down : length pipes.down ≡ 0 = ap length (none_left pipes.down more.0) in
    record {
      up = no_more (bytes_received link Responder d.marks) (bytes_sent link Initiator d.marks) up.0 up.1 (omega (arith, up_len, no_up));
      down = no_more (bytes_received link Initiator d.marks) (bytes_sent link Responder d.marks) down.0 down.1 (omega (arith, down_len, no_down));
      executed = ap (λ (b : Bool). if_standing b (next_call (s.opened link) link d.marks)) (sym standing) ∙ none_there call more.1;
    }

-- ===== lines after a last drain

next_by : (o : LinkParameters) (link : ℕ) (old new : List Mark) → server o link new ≡ server o link old → next_call o link new ≡ next_call o link old
unfolding next_call
next_by o link old new same = ap (λ (r : EndState ServerState). first_ready r.state.ready r.ended) same

next_one : (o : LinkParameters) (link : ℕ) (run : List Mark) (mark : Mark) → link_of mark ≢ link → next_call o link (run ++ mark ∷ []) ≡ next_call o link run
next_one o link run mark from =
    next_by o link run (run ++ mark ∷ [])
    (server_one o link run mark ∙ ap (λ (es : List RunEvent). end_state_after (server_rules o) (server o link run) es) (no_event link Responder run mark from))

-- the next call stays with marks of another link
same_next : (o : LinkParameters) (link other : ℕ) (old added : List Mark) → other ≢ link → AllByRecursion (λ (mark : Mark). link_of mark ≡ other) added → next_call o link (old ++ added) ≡ next_call o link old
same_next o link other old [] ne own = ap (λ (run : List Mark). next_call o link run) (append-nil old)
same_next o link other old (mark ∷ added) ne own =
    let from : link_of mark ≢ link = (λ same. ne (sym own.0 ∙ same)) in
    ap (λ (run : List Mark). next_call o link run) (sym (append_assoc old (mark ∷ []) added)) ∙ same_next o link other (old ++ mark ∷ []) added ne own.1 ∙ next_one o link old mark from

-- a link is left as it is
abbrev IsLeft : Setting → ℕ → Drill → Drill → Type 0
IsLeft s link old new = is_still s new link ≡ is_still s old link

left_elsewhere : (s : Setting) (link other : ℕ) (old new : Drill) → 1 ≤ link → 1 ≤ other → other ≢ link → Extends other old new → IsLeft s link old new
unfolding is_still waiting_call
left_elsewhere s link other old new one some ne x =
    let o = s.opened link in
    let same : IsSameHere link old.marks new.marks = subst (IsSameHere link old.marks) (sym x.marks.is) (same_here link other old.marks x.marks.added ne x.marks.own) in
    let pipes = x.pipes link (λ same. ne (let a = some in let b = one in let c = same in omega (arith, a, b, c))) in
    let next : next_call o link new.marks ≡ next_call o link old.marks = ap (λ (run : List Mark). next_call o link run) x.marks.is ∙ same_next o link other old.marks x.marks.added ne x.marks.own in
    λ i. is_empty (pipes i).up && (is_empty (pipes i).down && is_none (if_standing (same.dropped i) (next i)))

-- with the same marks and pipes
still_by : (s t : Setting) (link : ℕ) (old new : Drill) → t.opened link ≡ s.opened link → new.marks ≡ old.marks → pipes_of link new ≡ pipes_of link old → is_still t new link ≡ is_still s old link
unfolding is_still waiting_call
still_by s t link old new o m p = λ i. is_empty (p i).up && (is_empty (p i).down && is_none (if_standing (is_dropped link (m i)) (next_call (o i) link (m i))))

-- ===== a client that doesn't act any more

-- nothing moves on its last link
record StaysStill (s : Setting) (own link : ℕ) (d : Drill) : Type 0 where
  is_last : last_link own d ≡ link
  within : IsLink d link
  owner : client_of (setting_now s d) link ≡ own
  still : is_still (setting_now s d) d link ≡ true

abbrev StillThen : Setting → Opening → (own link n : ℕ) → Drill → Type 0
StillThen s opening own link n d = Holds s opening n d × (n ≤ lines_max → RepliedInBytes d.marks → StaysStill s own link d)

still_acts : (s : Setting) (opening : Opening) (own link n c acted : ℕ) (a : Action) (d : Drill) → IsLastOf opening.clients c acted d → c ≢ own → DrillHolds s opening n d → StaysStill s own link d → StaysStill s own link (after_action (setting_now s d) acted a d)
still_acts s opening own link n c acted a d last apart h q = record {
  is_last = ap (λ (ls : List ℕ). slice_index_or ls (own - 1) own) x.last_links ∙ q.is_last;
  within = (q.within.0, (let few = q.within.1 in let more = ap (λ (os : List LinkParameters). length os) x.opened in omega (arith, few, more)));
  owner = ap (λ (v : Setting). client_of v link) same ∙ q.owner;
  still = ap (λ (v : Setting). is_still v new link) same ∙ left_elsewhere t link acted d new q.within.0 here.0.0 ne x ∙ q.still;
}
  where
    t : Setting
    t = setting_now s d

    new : Drill
    new = after_action t acted a d

    x : Extends acted d new
    x = action_extends t acted a d

    same : setting_now s new ≡ t
    same = same_setting s d new (record { opened = x.opened; last_links = x.last_links })

    here : IsLink d acted × (client_of t acted ≡ c)
    here = h.frame.owned c acted last

    ne : acted ≢ link
    ne at = apart (sym here.1 ∙ ap (client_of t) at ∙ q.owner)

still_begins : (s : Setting) (opening : Opening) (own link n c old : ℕ) (d : Drill) → IsLastOf opening.clients c old d → c ≢ own → 1 ≤ own → IsBegun s c old d → DrillHolds s opening n d → StaysStill s own link d → StaysStill s own link (after_leaving s c old d)
still_begins s opening own link n c old d last apart low b h q = subst (λ (l : ℕ). StaysStill s own link (after_opening u l begun)) (sym b.is_last) (record {
  is_last = ap (λ (ls : List ℕ). slice_index_or ls (own - 1) own) x.last_links
      ∙ get_or-set_other d.last_links (c - 1) (own - 1) next own (λ same. apart (let some = last.low in omega (arith, same, low, some))) ∙ q.is_last;
  within = (
    q.within.0,
    (let few = q.within.1 in let more = ap (λ (os : List LinkParameters). length os) x.opened in
        let one = length-append d.opened (reopened (t.opened old) old d.marks ∷ []) in omega (arith, few, more, one)),
  );
  owner = ap (λ (v : Setting). client_of v link) same ∙ ap (λ (o : LinkParameters). if o.client.number == 0 then link else o.client.number) (b.old_link link q.within) ∙ q.owner;
  still = ap (λ (v : Setting). is_still v new link) same ∙ left_elsewhere u link next begun new q.within.0 b.is_link.0 ne x ∙ still_by t u link d begun (b.old_link link q.within) refl (b.old_pipes link q.within) ∙ q.still;
})
  where
    t : Setting
    t = setting_now s d

    begun : Drill
    begun = begun_drill s c old d

    u : Setting
    u = setting_now s begun

    next : ℕ
    next = next_link d

    new : Drill
    new = after_opening u next begun

    x : Extends next begun new
    x = opening_adds u next begun

    same : setting_now s new ≡ u
    same = same_setting s begun new (record { opened = x.opened; last_links = x.last_links })

    ne : next ≢ link
    ne at = (let few = q.within.1 in let pipes = h.frame.pipes in omega (arith, at, few, pipes))

still_kept : (s : Setting) (opening : Opening) (own link : ℕ) → 1 ≤ own → IsKept s opening (NotOf own) AnyRaw (StillThen s opening own link)
still_kept s opening own link low =
    let k = holds_kept s opening (NotOf own) AnyRaw in
    record {
      count = λ n d p. k.count n d p.0;
      later = λ n d p. (k.later n d p.0, λ le replied. p.1 (omega (arith, le)) replied);
      credential = λ n c cred d can typed p. (
        k.credential n c cred d can typed p.0,
        λ le replied. (let q = p.1 le replied in record {
          is_last = q.is_last;
          within = q.within;
          owner = q.owner;
          still = still_by (setting_now s d) (setting_now s d) link d (with_cred c cred d) refl refl refl ∙ q.still;
        }),
      );
      time = λ n seconds d p. (
        k.time n seconds d p.0,
        λ le replied. (let q = p.1 le replied in record {
          is_last = q.is_last;
          within = q.within;
          owner = q.owner;
          still = still_by (setting_now s d) (setting_now s d) link d (record d { seconds = d.seconds + seconds }) refl refl refl ∙ q.still;
        }),
      );
      action = λ n c acted a d last acts may p. (
        k.action n c acted a d last acts may p.0,
        λ le replied. (let most = counted_most a n in
            let fits : n ≤ lines_max = omega (arith, le, most) in
            let before = replied_before acted d (after_action (setting_now s d) acted a d) (action_extends (setting_now s d) acted a d) replied in
            still_acts s opening own link n c acted a d last acts (p.0.1 fits before) (p.1 fits before)),
      );
      begins = λ n c old d last acts numbered gone stays p. (
        k.begins n c old d last acts numbered gone stays p.0,
        λ le replied. (let fits : n ≤ lines_max = omega (arith, le) in
            let begun = begun_drill s c old d in
            let before = replied_before (last_link c begun) begun (after_leaving s c old d) (opening_adds (setting_now s begun) (last_link c begun) begun) replied in
            let held = p.0.1 fits before in
            still_begins s opening own link n c old d last acts low (begins_so s opening n c old d le last numbered stays held) held (p.1 fits before)),
      );
    }

differs_at : false ≡ true → ⊥
differs_at e = absurd cc

-- a drain leaves what the links were opened with, and which are the last
round_keeps : (s : Setting) (links : List ℕ) (d : Drill) → KeepsLinks d (after_round s links d)
round_keeps s [] d = record { opened = refl; last_links = refl }
round_keeps s (l ∷ links) d = then_keep d (after_moves s l d) (after_round s links (after_moves s l d)) (extending_keeps l d (after_moves s l d) (moves_adds s l d)) (round_keeps s links (after_moves s l d))

drains_keep : (s : Setting) (links : List ℕ) (rounds : ℕ) (old new : Drill) → Drains s links rounds old new → KeepsLinks old new
drains_keep s links zero old new e = subst (λ (d : Drill). KeepsLinks old d) (sym e.1) (record { opened = refl; last_links = refl })
drains_keep s links (suc rounds) old new e = then_keep old (after_round s links old) new (round_keeps s links old) (drains_keep s links rounds (after_round s links old) new e.1)

-- ===== a script that ends with a drain, for a link

-- A link that isn't dropped is the last one of its client.
pub standing_is_last : (server : SerialServer) (script : ScriptLines) (run : List Mark) → IsScript script → RepliedInBytes run → (follows : Follows server script run) → (link : ℕ) → IsLink follows.last link →
    is_dropped link run ≡ false → link ≡ last_link (client_of (last_setting follows) link) follows.last
standing_is_last server script run is replied follows link within standing = by (eqb link last) refl
  where
    last : ℕ
    last = last_link (client_of (last_setting follows) link) follows.last

    order : InOrder (last_setting follows) script.opening.clients follows.last
    order = links_in_order server script is run replied follows

    by : (b : Bool) → eqb link last ≡ b → link ≡ last
    by true e = eqb-true link last e
    by false e = absurd (let gone = order.gone link within (λ same. differs_at (sym e ∙ eq-eqb link last same)) in differs_at (sym standing ∙ ap (λ (r : List Mark). is_dropped link r) follows.marks_are ∙ gone))

-- After a drain that no later line of the client of a matched link follows nothing waits on it, if it wasn't dropped.
pub follows_waits : (server : SerialServer) (script : ScriptLines) (run : List Mark) → IsScript script → RepliedInBytes run → (follows : Follows server script run) → (link : ℕ) → IsLink follows.last link → Matched link run →
    is_dropped link run ≡ false → EndsWithDrain script (client_of (last_setting follows) link) → NothingInTransit ((last_setting follows).opened link) link run
follows_waits server script run is replied follows link within matched standing ends =
    let here : is_dropped link follows.last.marks ≡ false = ap (λ (r : List Mark). is_dropped link r) (sym follows.marks_are) ∙ standing in
    subst (NothingInTransit (t.opened link) link) (sym follows.marks_are)
    (nothing_waits t link follows.last (subst (Matched link) follows.marks_are matched) (follows_lose_nothing server script run is replied follows link within) here
    (subst (λ (l : ℕ). is_still t follows.last l ≡ true) (sym (last_is ∙ at_end.is_last)) at_end.still))
  where
    t : Setting
    t = last_setting follows

    s : Setting
    s = setting_of server script.opening

    clients : ℕ
    clients = script.opening.clients

    own : ℕ
    own = client_of t link

    marks_replied : RepliedInBytes follows.last.marks
    marks_replied = subst RepliedInBytes follows.marks_are replied

    order : InOrder t clients follows.last
    order = links_in_order server script is run replied follows

    last_is : link ≡ last_link own follows.last
    last_is = standing_is_last server script run is replied follows link within standing

    cut : IsCut s clients ends.before ends.after (opened_drill server script.opening) follows.last
    cut = cut_at s clients ends.before ends.after (opened_drill server script.opening) follows.last
        (subst (λ (ls : List Line). MakeAll s clients ls (opened_drill server script.opening) follows.last) ends.is_cut follows.makes)

    parts : AllByRecursion (IsLineOf script.opening AnyRaw) (ends.before ++ lines.Drain ∷ ends.after)
    parts = subst (AllByRecursion (IsLineOf script.opening AnyRaw)) ends.is_cut (lines_of script is)

    count : length ends.before + 1 + length ends.after ≤ lines_max
    count =
        let most = is.few_lines in
        let all = ap (λ (ls : List Line). length ls) ends.is_cut in
        let sum = length-append ends.before (lines.Drain ∷ ends.after) in
        omega (arith, most, all, sum)

    at_first : Holds s script.opening (length ends.before) cut.first
    at_first =
        lines_kept s script.opening AnyRaw AnyRaw (Holds s script.opening) (holds_kept s script.opening AnyRaw AnyRaw) 0 (length ends.before) clients ends.before (opened_drill server script.opening) cut.first
        (front_of (IsLineOf script.opening AnyRaw) ends.before (lines.Drain ∷ ends.after) parts) (all_act ends.before) (omega arith) cut.made (first_then server script is)

    at_drained : Holds s script.opening (suc (length ends.before)) cut.drained
    at_drained =
        line_kept s script.opening AnyRaw AnyRaw (Holds s script.opening) (holds_kept s script.opening AnyRaw AnyRaw) (length ends.before) clients lines.Drain cut.first cut.drained tt (λ c. tt) (cut.rounds, cut.drains) at_first

    -- the client's last link, from the drain on
    m : ℕ
    m = last_link own cut.drained

    keeps : KeepsLinks cut.first cut.drained
    keeps = drains_keep (setting_now s cut.first) cut.first.last_links cut.rounds cut.first cut.drained cut.drains

    low : 1 ≤ own
    low = (order.owners link within).0

    high : own ≤ clients
    high = (order.owners link within).1

    -- nothing moves on it once the drain is over
    drained_so : suc (length ends.before) ≤ lines_max → RepliedInBytes cut.drained.marks → StaysStill s own m cut.drained
    drained_so le some =
        let h = at_drained.1 le some in
        let there = h.frame.owned own m (record { low = low; high = high; is = refl }) in
        let all = drained_all (setting_now s cut.first) cut.first.last_links cut.rounds cut.first cut.drained cut.drains in
        let count = at_first.0 in
        let same = same_setting s cut.first cut.drained keeps in
        record {
          is_last = refl;
          within = there.0;
          owner = there.1;
          still = ap (λ (v : Setting). is_still v cut.drained m) same ∙ ap (λ (ls : List ℕ). is_still (setting_now s cut.first) cut.drained (slice_index_or ls (own - 1) own)) keeps.last_links
              ∙ all_at (is_still (setting_now s cut.first) cut.drained) cut.first.last_links (own - 1) own all (omega (arith, count, low, high));
        }

    k : IsKept s script.opening (NotOf own) AnyRaw (StillThen s script.opening own m)
    k = still_kept s script.opening own m low

    at_end : StaysStill s own m follows.last
    at_end =
        (lines_kept s script.opening (NotOf own) AnyRaw (StillThen s script.opening own m) k (suc (length ends.before)) (length ends.before + 1 + length ends.after) clients ends.after cut.drained follows.last
        (back_of (IsLineOf script.opening AnyRaw) ends.before (lines.Drain ∷ ends.after) parts).1 (lines_apart own ends.after ends.none_after) (omega arith) cut.later (at_drained, λ le some. drained_so le some)).1 count marks_replied
