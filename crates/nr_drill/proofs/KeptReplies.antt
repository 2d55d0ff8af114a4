-- A call that is sent again, and has an entry, has a reply: that of the call which added the entry.
use Rattle.std.specs.Prelude.{◌-◌, if◌then◌else◌, map}
use Rattle.std.proofs.Common.{◌≡◌, ◌≢◌, ℕ, ◌+◌, ◌<◌, arith, Bool, true, false, cond, eqb, eqb-true, leb, ◌&&◌, List, [], ◌∷◌, ◌++◌, length, take, drop, Option, None, Some, refl, sym, ap, subst, ◌∙◌, append_assoc, append-nil, length-append}
use Rattle.std.proofs.lemmas.Bool.{and_parts}
use Rattle.std.proofs.lemmas.List.{length-set}
use Rattle.std.proofs.Math.Seq.{take-append_seam}
use Rattle.nr_xdr.specs.Item.{IsBytes}
use Rattle.nr_outside.specs.declared.moment.Moment.{Moment}
use Rattle.nr_rpc.specs.Reading.{call_of, xid_of_call}
use Rattle.nr_wire.specs.declared.hello.Side.TheVariants.{Initiator, Responder}
use Rattle.nr_link.specs.Frames.{frames_of}
use Rattle.nr_reduce.specs.declared.mark.Entry.{Entry}
use Rattle.nr_reduce.specs.declared.mark.Mark.{Mark}
use Rattle.nr_reduce.specs.declared.mark.Mark.TheVariants as marks
use Rattle.nr_reduce.specs.declared.mark.TaggedEntry.{TaggedEntry}
use Rattle.nr_reduce.specs.AtEachMark.{AtEachMark}
use Rattle.nr_reduce.specs.History.{bytes_received, is_dropped}
use Rattle.nr_reduce.specs.KeepsCalls.{KeepsCalls}
use Rattle.nr_reduce.specs.Limits.{window}
use Rattle.nr_reduce.specs.NumberedJournal.{Standing, IsExecutedBy, added_by, call_of_entry, entries_alone, kept_or_new, number_heard, place_from, place_of_entry, standing, standing_for, tagged, tagged_journal, top_of}
use Rattle.nr_reduce.specs.NumberedJournal.Standing.{Old, Kept, New}
use Rattle.nr_reduce.specs.ServerState.{ReadyCall}
use Rattle.nr_reduce.specs.Served.{next_call}
use Rattle.nr_reduce.proofs.Calls.{executed_head}
use Rattle.nr_reduce.proofs.Standing.{AtEachMark_more}
use Rattle.nr_laws.proofs.KeptEntries.{kept_numbered, numbered}
use Rattle.nr_texts.specs.declared.opening.Opening.{Opening}
use Rattle.nr_drill.specs.Drill.{SerialServer, Setting, Drill, GivenReply, given, journal_of, kept_reply, last_link, links_of, plain_of, setting_now, start, waiting_call, after_opening, after_openings}
use Rattle.nr_drill.specs.Follows.{setting_of, opened_drill}
use Rattle.nr_drill.specs.InBytes.{ExecutedMark}
use Rattle.nr_drill.specs.WorkLeft.{DrainStep, after_step}
use Rattle.nr_drill.specs.WorkLeft.DrainStep.{AllUp, Work, AllDown}
use Rattle.nr_drill.specs.Drill.{pipes_of}
use Rattle.nr_drill.proofs.Followed.{opening_adds}
use Rattle.nr_drill.proofs.Actions.{Action, IsKept, AnyRaw, action_keeps, after_action}
use Rattle.nr_drill.proofs.Actions.Action.{FeedUp, FeedDown, WorkOnce}
use Rattle.nr_drill.proofs.AddedMarks.{QuietRules, opening_by}
use Rattle.nr_drill.proofs.BegunLinks.{begun_drill, first_count}
use Rattle.nr_drill.proofs.ByteDrills.{IsByteDrill, next_of_lem}
use Rattle.nr_drill.proofs.NumberedJournals.{HeardMark, JournalSoFar, StandingMark, journal_more}
use Rattle.nr_drill.proofs.NumberedRuns.{ActionRules, IsJournaled, action_by, acted_journaled, each_then}
use Rattle.nr_drill.proofs.Opening.{number_more}
use Rattle.nr_script.specs.Script.{ScriptLines, IsScript}

-- ===== each call is executed under the xid of its payload

abbrev pub OwnXidMark : List Mark → Mark → Type 0
OwnXidMark before (marks.Execute l xid moment payload place reply) = xid_of_call (call_of payload) ≡ Some xid
OwnXidMark before mark = Unit {0}

own_quiet : (s : Setting) (link : ℕ) → QuietRules OwnXidMark s link
own_quiet s link = record { wrote = λ run side bytes. tt; fed = λ run side bytes. tt; done = λ run xid outcome. tt; resent = λ run w rest is. tt }

own_executes : (s : Setting) (link : ℕ) (d : Drill) (call : ReadyCall) → waiting_call s link d.marks ≡ Some call → xid_of_call (call_of call.payload) ≡ Some call.xid
unfolding waiting_call
own_executes s link d call e =
    let next = next_of_lem (is_dropped link d.marks) call (next_call (s.opened link) link d.marks) e in
    let h = executed_head (s.opened link) link d.marks call.xid call.payload (record { call = call; is_next = next; own = refl; conveyed = refl }) in
    ap xid_of_call h.1.0 ∙ ap (λ (n : ℕ). Some n) h.1.1

own_actions : (s : Setting) (link : ℕ) → ActionRules OwnXidMark s link
own_actions s link = record {
  marks_by = record { quiet = own_quiet s link; executes = λ d call g next is. own_executes s link d call next; told_old = λ d call top next is. tt; forgot = λ run xid. tt; revoked = λ run xid bytes. tt };
  submits = λ d call form. tt;
  drops = λ run. tt;
  grants = λ run credits. tt;
}

abbrev pub OwnThen : Opening → ℕ → Drill → Type 0
OwnThen opening n d = (length d.last_links ≡ opening.clients) × AtEachMark OwnXidMark [] d.marks

pub own_kept : (s : Setting) (opening : Opening) → IsKept s opening AnyRaw AnyRaw (OwnThen opening)
own_kept s opening = record {
  count = λ n d p. p.0;
  later = λ n d p. p;
  credential = λ n c cred d can typed p. p;
  time = λ n seconds d p. p;
  action = λ n c link a d last acts may p.
      (let t = setting_now s d in
      (ap (λ (ls : List ℕ). length ls) (action_keeps t link a d).last_links ∙ p.0, each_then OwnXidMark d (after_action t link a d) (action_by OwnXidMark t link (own_actions t link) a d) p.1));
  begins = λ n c link d last acts numbered gone stays p.
      (let begun = begun_drill s c link d in
      let own = last_link c begun in
      let u = setting_now s begun in (
        ap (λ (ls : List ℕ). length ls) (opening_adds u own begun).last_links ∙ length-set d.last_links (c - 1) (length d.pipes + 1) ∙ p.0,
        each_then OwnXidMark begun (after_opening u own begun) (opening_by OwnXidMark u own (own_quiet u own) begun) p.1,
      ));
}

openings_own : (s : Setting) (links : List ℕ) (d : Drill) → AtEachMark OwnXidMark [] d.marks → AtEachMark OwnXidMark [] (after_openings s links d).marks
openings_own s [] d h = h
openings_own s (link ∷ links) d h = openings_own s links (after_opening s link d) (each_then OwnXidMark d (after_opening s link d) (opening_by OwnXidMark s link (own_quiet s link) d) h)

pub first_own : (server : SerialServer) (script : ScriptLines) → IsScript script → OwnThen script.opening 0 (opened_drill server script.opening)
unfolding opened_drill
first_own server script is = (first_count server script is, openings_own (setting_of server script.opening) (links_of script.opening.clients) (start (setting_of server script.opening) script.opening.clients) tt)

-- ===== what is known of a drill, and kept by each step of a link whose server has heard its client

pub record IsKnown (server : SerialServer) (d : Drill) : Type 0 where
  pub bytes : IsByteDrill d
  pub journaled : IsJournaled server d
  pub xids : AtEachMark OwnXidMark [] d.marks

-- each step is an action
act_of : ℕ → DrainStep → Drill → Action
act_of link AllUp d = FeedUp (length (pipes_of link d).up)
act_of link Work d = WorkOnce
act_of link AllDown d = FeedDown (length (pipes_of link d).down)

act_is : (s : Setting) (link : ℕ) (step : DrainStep) (d : Drill) → after_action s link (act_of link step d) d ≡ after_step s link step d
unfolding act_of
act_is s link AllUp d = refl
act_is s link Work d = refl
act_is s link AllDown d = refl

pub step_known : (s : Setting) (link : ℕ) (step : DrainStep) (d : Drill) → frames_of Initiator (bytes_received link Responder d.marks) ≢ [] → IsByteDrill (after_step s link step d) → IsKnown s.server d → IsKnown s.server (after_step s link step d)
step_known s link step d heard bytes k =
    let a = act_of link step d in
    record {
      bytes = bytes;
      journaled = subst (IsJournaled s.server) (act_is s link step d) (acted_journaled s link a d heard k.journaled);
      xids = subst (λ (x : Drill). AtEachMark OwnXidMark [] x.marks) (act_is s link step d) (each_then OwnXidMark d (after_action s link a d) (action_by OwnXidMark s link (own_actions s link) a d) k.xids);
    }

-- ===== each entry of a client that has a number has a reply

abbrev HasReply : SerialServer → List TaggedEntry → TaggedEntry → Type 0
HasReply server earlier t = t.client ≢ 0 → (reply : List ℕ) × (server.reply_to (entries_alone earlier) t.entry.moment (call_of_entry t.xid t.entry) ≡ Some reply)

abbrev HaveReplies : SerialServer → List TaggedEntry → List TaggedEntry → Type 0
HaveReplies server earlier [] = Unit {0}
HaveReplies server earlier (t ∷ T) = HasReply server earlier t × HaveReplies server (earlier ++ t ∷ []) T

both_reply : (server : SerialServer) (earlier T U : List TaggedEntry) → HaveReplies server earlier T → HaveReplies server (earlier ++ T) U → HaveReplies server earlier (T ++ U)
both_reply server earlier [] U h g = subst (λ (E : List TaggedEntry). HaveReplies server E U) (append-nil earlier) g
both_reply server earlier (t ∷ T) U h g =
    (h.0, both_reply server (earlier ++ t ∷ []) T U h.1 (subst (λ (E : List TaggedEntry). HaveReplies server E U) (sym (append_assoc earlier (t ∷ []) T)) g))

-- an entry with or without the number and the xid of its call
abbrev tagged_if : (n xid : ℕ) → Entry → Bool → TaggedEntry
tagged_if n xid e true = record { entry = e; client = 0; xid = 0 }
tagged_if n xid e false = record { entry = e; client = n; xid = xid }

tagged_is : (n xid : ℕ) (e : Entry) (b : Bool) → eqb n 0 ≡ b → tagged n xid e ≡ tagged_if n xid e b
tagged_is n xid e b is = same (eqb n 0) ∙ ap (tagged_if n xid e) is
  where
    same : (c : Bool) → (if c then record { entry = e; client = 0; xid = 0 } else record { entry = e; client = n; xid = xid }) ≡ tagged_if n xid e c
    same true = refl
    same false = refl

-- what a call that is executed adds
tagged_reply : (server : SerialServer) (keeps : KeepsCalls server.reply_to server.adds) (T : List TaggedEntry) (n xid : ℕ) (moment : Moment) (payload : List ℕ) (reply : List ℕ) (es : List Entry) → server.adds moment payload reply ≡ es → length es < 2 →
    IsBytes payload → xid_of_call (call_of payload) ≡ Some xid → server.reply_to (entries_alone T) moment payload ≡ Some reply → HaveReplies server T (map (tagged n xid) es)
tagged_reply server keeps T n xid moment payload reply [] is few bytes head replied = tt
tagged_reply server keeps T n xid moment payload reply (e ∷ f ∷ es) is few bytes head replied = absurd (omega (arith, few))
tagged_reply server keeps T n xid moment payload reply (e ∷ []) is few bytes head replied = ((λ some. by some (eqb n 0) refl), tt)
  where
    same : e.moment ≡ moment
    same = keeps.moment moment payload reply e is

    by : (tagged n xid e).client ≢ 0 → (b : Bool) → eqb n 0 ≡ b → (r : List ℕ) × (server.reply_to (entries_alone T) (tagged n xid e).entry.moment (call_of_entry (tagged n xid e).xid (tagged n xid e).entry) ≡ Some r)
    by some true zero_is = absurd (some (ap (λ (t : TaggedEntry). t.client) (tagged_is n xid e true zero_is)))
    by some false some_is =
        let own : tagged n xid e ≡ record { entry = e; client = n; xid = xid } = tagged_is n xid e false some_is in (
          reply,
          (λ i. server.reply_to (entries_alone T) (own i).entry.moment (call_of_entry (own i).xid (own i).entry)) ∙ ap (λ (m : Moment). server.reply_to (entries_alone T) m (call_of_entry xid e)) same
              ∙ keeps.own (entries_alone T) moment payload reply xid e bytes replied is head,
        )

added_reply : (server : SerialServer) (keeps : KeepsCalls server.reply_to server.adds) (T : List TaggedEntry) (n xid : ℕ) (moment : Moment) (payload : List ℕ) (place : ℕ) (reply : List ℕ) (is : Standing) → IsBytes payload → xid_of_call (call_of payload) ≡ Some xid →
    IsExecutedBy (plain_of server) T is moment payload place reply → HaveReplies server T (added_by is (map (tagged n xid) (server.adds moment payload reply)))
added_reply server keeps T n xid moment payload place reply (Old top) bytes head h = tt
added_reply server keeps T n xid moment payload place reply (Kept at) bytes head h = tt
added_reply server keeps T n xid moment payload place reply New bytes head h = tagged_reply server keeps T n xid moment payload reply (server.adds moment payload reply) refl (keeps.one moment payload reply) bytes head h.1

module _ (s : Setting) (keeps : KeepsCalls s.server.reply_to s.server.adds) (before : List Mark) (heard : AtEachMark HeardMark [] before) (so_far : HaveReplies s.server [] (JournalSoFar s.server before)) where
  none_more : (mark : Mark) → journal_of s (before ++ mark ∷ []) ≡ JournalSoFar s.server before ++ [] → HaveReplies s.server [] (journal_of s (before ++ mark ∷ []))
  none_more mark is = subst (HaveReplies s.server []) (sym (is ∙ append-nil (JournalSoFar s.server before))) so_far

  mark_replies : (mark : Mark) → HeardMark before mark → StandingMark s.server before mark → OwnXidMark before mark → ExecutedMark before mark → HaveReplies s.server [] (journal_of s (before ++ mark ∷ []))
  mark_replies (marks.Execute l xid moment payload place reply) here stands head bytes =
      let T = JournalSoFar s.server before in
      let mark = marks.Execute l xid moment payload place reply in
      let n = number_heard before l in
      let more : journal_of s (before ++ mark ∷ []) ≡ T ++ added_by (standing_for T n xid) (map (tagged n xid) (s.server.adds moment payload reply)) =
      journal_more s before mark heard ∙ ap (λ (m : ℕ). T ++ added_by (standing_for T m xid) (map (tagged m xid) (s.server.adds moment payload reply))) (number_more l before (mark ∷ []) here) in
      subst (HaveReplies s.server []) (sym more)
      (both_reply s.server [] T (added_by (standing_for T n xid) (map (tagged n xid) (s.server.adds moment payload reply))) so_far
      (added_reply s.server keeps T n xid moment payload place reply (standing_for T n xid) bytes head (stands here)))
  mark_replies (marks.Submit l call form answer) here stands head bytes = none_more (marks.Submit l call form answer) (journal_more s before (marks.Submit l call form answer) heard)
  mark_replies (marks.Wrote l side bs) here stands head bytes = none_more (marks.Wrote l side bs) (journal_more s before (marks.Wrote l side bs) heard)
  mark_replies (marks.Fed l side bs) here stands head bytes = none_more (marks.Fed l side bs) (journal_more s before (marks.Fed l side bs) heard)
  mark_replies (marks.Done l xid outcome) here stands head bytes = none_more (marks.Done l xid outcome) (journal_more s before (marks.Done l xid outcome) heard)
  mark_replies (marks.Lost l xid) here stands head bytes = none_more (marks.Lost l xid) (journal_more s before (marks.Lost l xid) heard)
  mark_replies (marks.Forget l xid) here stands head bytes = none_more (marks.Forget l xid) (journal_more s before (marks.Forget l xid) heard)
  mark_replies (marks.Revoke l xid bs) here stands head bytes = none_more (marks.Revoke l xid bs) (journal_more s before (marks.Revoke l xid bs) heard)
  mark_replies (marks.Drop l) here stands head bytes = none_more (marks.Drop l) (journal_more s before (marks.Drop l) heard)
  mark_replies (marks.Told l what) here stands head bytes = none_more (marks.Told l what) (journal_more s before (marks.Told l what) heard)

as_so_far : (s : Setting) (before : List Mark) → HaveReplies s.server [] (journal_of s before) → HaveReplies s.server [] (JournalSoFar s.server before)
unfolding journal_of
as_so_far s before h = h

none_replied : (s : Setting) → HaveReplies s.server [] (journal_of s [])
unfolding journal_of tagged_journal
none_replied s = tt

all_replies : (s : Setting) (keeps : KeepsCalls s.server.reply_to s.server.adds) (before run : List Mark) → AtEachMark HeardMark [] before → AtEachMark HeardMark before run → AtEachMark (StandingMark s.server) before run → AtEachMark OwnXidMark before run →
    AtEachMark ExecutedMark before run → HaveReplies s.server [] (journal_of s before) → HaveReplies s.server [] (journal_of s (before ++ run))
all_replies s keeps before [] first heard stands xids bytes h = subst (λ (r : List Mark). HaveReplies s.server [] (journal_of s r)) (sym (append-nil before)) h
all_replies s keeps before (mark ∷ run) first heard stands xids bytes h =
    subst (λ (r : List Mark). HaveReplies s.server [] (journal_of s r)) (append_assoc before (mark ∷ []) run)
    (all_replies s keeps (before ++ mark ∷ []) run (AtEachMark_more HeardMark [] before mark first heard.0) heard.1 stands.1 xids.1 bytes.1 (mark_replies s keeps before first (as_so_far s before h) mark heard.0 stands.0 xids.0 bytes.0))

-- ===== so a kept call has one

drop_seam : {X : Type 0} (xs ys : List X) → drop (length xs) (xs ++ ys) ≡ ys
drop_seam [] ys = refl
drop_seam (x ∷ xs) ys = drop_seam xs ys

kept_from : (server : SerialServer) (earlier T : List TaggedEntry) (at place client xid : ℕ) → at ≡ length earlier → client ≢ 0 → place_from at client xid T ≡ Some place → HaveReplies server earlier T →
    (g : GivenReply) × (kept_reply server place (take place (earlier ++ T)) (drop place (earlier ++ T)) ≡ Some g)
kept_from server earlier [] at place client xid here some found h = absurd cc
kept_from server earlier (t ∷ T) at place client xid here some found h =
    by (eqb t.client client && eqb t.xid xid) refl found (λ later. kept_from server (earlier ++ t ∷ []) T (at + 1) place client xid (let more = length-append earlier (t ∷ []) in omega (arith, here, more)) some later h.1)
  where
    Goal : List TaggedEntry → Type 0
    Goal all = (g : GivenReply) × (kept_reply server place (take place all) (drop place all) ≡ Some g)

    by : (b : Bool) → (eqb t.client client && eqb t.xid xid) ≡ b → cond b (Some at) (place_from (at + 1) client xid T) ≡ Some place → (place_from (at + 1) client xid T ≡ Some place → Goal ((earlier ++ t ∷ []) ++ T)) → Goal (earlier ++ t ∷ T)
    by true is found later =
        let same : at ≡ place = cc in
        let owner : t.client ≡ client = eqb-true t.client client (and_parts (eqb t.client client) (eqb t.xid xid) is).0 in
        let r = h.0 (λ none. some (sym owner ∙ none)) in
        let cut : place ≡ length earlier = sym same ∙ here in
        let front : take place (earlier ++ t ∷ T) ≡ earlier = ap (λ (n : ℕ). take n (earlier ++ t ∷ T)) cut ∙ take-append_seam earlier (t ∷ T) in
        let back : drop place (earlier ++ t ∷ T) ≡ t ∷ T = ap (λ (n : ℕ). drop n (earlier ++ t ∷ T)) cut ∙ drop_seam earlier (t ∷ T) in
        (record { moment = t.entry.moment; place = place; reply = r.0 }, (λ i. kept_reply server place (front i) (back i)) ∙ ap (given t.entry.moment place) r.1)
    by false is found later = subst Goal (append_assoc earlier (t ∷ []) T) (later found)

kept_found : (T : List TaggedEntry) (client xid place : ℕ) → standing_for T client xid ≡ Kept place → place_from 0 client xid T ≡ Some place
unfolding standing place_of_entry
kept_found T client xid place is = outer (eqb client 0) is
  where
    inner : (b : Bool) (p : Option ℕ) → place_from 0 client xid T ≡ p → cond b (Old (top_of T client)) (kept_or_new p) ≡ Kept place → place_from 0 client xid T ≡ Some place
    inner true p own is = absurd cc
    inner false None own is = absurd cc
    inner false (Some at) own is = (let same : at ≡ place = cc in own ∙ ap (λ (n : ℕ). Some n) same)

    outer : (b : Bool) → cond b New (cond (leb (xid + window) (top_of T client)) (Old (top_of T client)) (kept_or_new (place_from 0 client xid T))) ≡ Kept place → place_from 0 client xid T ≡ Some place
    outer true is = absurd cc
    outer false is = inner (leb (xid + window) (top_of T client)) (place_from 0 client xid T) refl is

pub kept_replied : (s : Setting) (d : Drill) → KeepsCalls s.server.reply_to s.server.adds → IsKnown s.server d → (client xid place : ℕ) → standing_for (journal_of s d.marks) client xid ≡ Kept place →
    (g : GivenReply) × (kept_reply s.server place (take place (journal_of s d.marks)) (drop place (journal_of s d.marks)) ≡ Some g)
kept_replied s d keeps k client xid place is =
    let T = journal_of s d.marks in
    kept_from s.server [] T 0 place client xid refl (kept_numbered T client xid place is) (kept_found T client xid place is)
    (all_replies s keeps [] d.marks tt k.journaled.heard k.journaled.stands k.xids k.bytes.executed (none_replied s))
