-- Each outcome of a `get` by several jobs is the plain server's reply to its call at the call's place; and the file that it read.
use Rattle.std.proofs.Common.{◌≡◌, ℕ, zero, suc, ◌+◌, ◌<◌, ◌≤◌, Bool, cond, List, [], ◌∷◌, ◌++◌, length, take, Option, Result, Ok, Err, inl, inr, refl, sym, ap, subst, ◌∙◌, arith, append_assoc, append-nil, length-append}
use Rattle.std.specs.Prelude.{nat_lt}
use Rattle.std.specs.List.{AllByRecursion, filter, flat_map}
use Rattle.std.specs.Io.KnownBytes.{Appends}
use Rattle.std.proofs.lemmas.Grind.{flat_map-append}
use Rattle.std.proofs.lemmas.List.{take_at}
use Rattle.std.proofs.lemmas.List.Elements.{filter-append}
use mathlib.Core.Option.{some, some-ne-none}
use lib.ListN.{get_elem?}
use Rattle.nr_links.specs.Links.{LinkLog}
use Rattle.nr_words.specs.Limits.{mount_path_max}
use Rattle.nr_reduce.specs.declared.call.Call.{Call}
use Rattle.nr_reduce.specs.declared.call.Form.TheVariants as forms
use Rattle.nr_reduce.specs.declared.call.Outcome.{Outcome}
use Rattle.nr_reduce.specs.declared.mark.Entry.{Entry}
use Rattle.nr_reduce.specs.declared.mark.LinkParameters.{LinkParameters}
use Rattle.nr_reduce.specs.declared.mark.Mark.{Mark}
use Rattle.nr_reduce.specs.declared.mark.Mark.TheVariants as marks
use Rattle.nr_reduce.specs.Asked.{AskedMark, AskedSoFar, IsAll}
use Rattle.nr_reduce.specs.AtEachMark.{AtEachMark}
use Rattle.nr_reduce.specs.Matched.{IsPrefixOf, MatchedMark}
use Rattle.nr_reduce.specs.NumberedJournal.{number_heard}
use Rattle.nr_reduce.specs.Served.{Served, ServedMark}
use Rattle.nr_reduce.proofs.SoFarLaws.{AtEachMark_each, served_mark}
use Rattle.nr_reduce.proofs.Standing.{itself}
use Rattle.nr_reduce.proofs.Steps.{AtEachMark_first}
use Rattle.nr_laws.specs.MatchedSoFar.{MatchedSoFar}
use Rattle.nr_laws.specs.PlainLinks.{AtPlacesOn, HasPlainReplies, PlainReplyMark}
use Rattle.nr_laws.specs.Typed.{IsTyped, TypedMark}
use Rattle.nr_turnstile.specs.Rule.{Begins, Earlier}
use Rattle.nr_shared.specs.declared.entry.Entry.{Entry as SharedEntry}
use Rattle.nr_shared.specs.declared.entry.Entry.TheVariants as entries
use Rattle.nr_shared.specs.Histories.{closes_of}
use Rattle.nr_shared.specs.OneLink.{mark_at, run_of}
use Rattle.nr_tree.specs.Sane.{IsSane}
use Rattle.nr_plain.specs.History.{AllPlaced, Answered as AnsweredCall, setup_in}
use Rattle.nr_plain.specs.ReplyLaws.{plain_server}
use Rattle.nr_plain.specs.Setup.{Setup}
use Rattle.nr_client.specs.declared.client_end.ClientEnd.{ClientEnd}
use Rattle.nr_client.specs.Following.Next.{Returns}
use Rattle.nr_outside.specs.Streams.{SinkAt, SourceAt}
use Rattle.nr_client.specs.Jobs.{AreExchanges, EndsByJobs, IsExchange, LinkAt, ReadsFileByJobs, ReadsShared, view_at}
use Rattle.nr_client.specs.Jobs.ReadsFileByJobs.{NoAttributes, Shared}
use Rattle.nr_client.specs.Paths.{path_names}
use Rattle.nr_client.specs.Reading.{bytes_read, reading}
use Rattle.nr_client.specs.Requests.{getattr_call, getattr_result, mnt_call}
use Rattle.nr_client.specs.Walking.{walk_next}
use Rattle.nr_commands.specs.ByJobs.{link_of}
use Rattle.nr_commands.specs.ByJobs.GetsByJobs.{Found, NotFound, NotOpened}
use Rattle.nr_commands.specs.Commands.{Finds}
use Rattle.nr_commands.specs.Sessions.{SessionAt, sink_of, source_of}
use Rattle.nr_host.specs.Connections.{answers_of}
use Rattle.nr_service_laws.specs.ClientMarks.{AreMarksOf, without_bytes}
use Rattle.nr_service_laws.specs.Exchanges.{Exchange, asked_exchanges, followed_exchanges, tells_finds, tells_mounts}
use Rattle.nr_service_laws.specs.Exchanges.Exchange.{Answered}
use Rattle.nr_service_laws.specs.ReplyEnds.{AreAnswers}
use Rattle.nr_service_laws.specs.ServedCommands.{client_marks, is_client_mark}
use Rattle.nr_service_laws.proofs.Judged.{answers_more}
use Rattle.nr_service_laws.proofs.JudgedParts.{AreJudged, judged_both, reads_after}
use Rattle.nr_service_laws.proofs.ServedAnswers.{submit_of}
use Rattle.nr_service_laws.proofs.ServedOutcomes.{WaitsAsPlanned, first_waits}
use Rattle.nr_pair_laws.specs.FilesAt.{KeepPath}
use Rattle.nr_pair_laws.specs.JobPairs.{AreJobsAnsweredFrom, IsServedJobs, JobsAreServed, JobsGiveTheFile, JobsReadTheFile}
use Rattle.nr_pair_laws.specs.JobRuns.{IsJobMark, IsJobsRun, SaysOfFile}
use Rattle.nr_pair_laws.specs.Pairs.{AreAnsweredFrom, AreSidesOf, IsAnsweredBetween, place_after}
use Rattle.nr_pair_laws.specs.PutThenGet.{GetsFile, mounting, root_handle}
use Rattle.nr_pair_laws.proofs.AnsweredCalls.{exchanges_answered, one_outcome}
use Rattle.nr_pair_laws.proofs.Getting.{AnsweredAfter, followed, judged, mounted, since}
use Rattle.nr_pair_laws.proofs.JobMarks.{job_asked_in_both, kept_at, two_at}
use Rattle.nr_pair_laws.proofs.JobOrder.{begins_after, begins_before, begins_run, begins_upto, bound_begins, kept_upto, marks_rise, upto}
use Rattle.nr_pair_laws.proofs.LongerJournals.{answered_in_all}
use Rattle.nr_pair_laws.proofs.Pairs.{both_placed, none_heard}
use Rattle.nr_pair_laws.proofs.PlacedCalls.{bound, calls_more, placed_first, placed_in_first, served_calls}
use Rattle.nr_pair_laws.proofs.PutThenGet.{get_gives, others_keep}
use Rattle.nr_pair_laws.proofs.ServerSide.{served_in_both}

-- ---- Both sides

-- what is known of both sides of such a list, whatever the types of the marks
pub record JobFar (opened : LinkParameters) (link : ℕ) (both : List Mark) : Type 0 where
  pub served : AtEachMark (ServedMark IsAll opened link) [] both
  pub far : MatchedSoFar opened link both

pub job_far : (opened : LinkParameters) (link : ℕ) (run own both : List Mark) → AllByRecursion (IsJobMark link) run → AskedSoFar opened link run → AreSidesOf link run own both → Served opened link own → JobFar opened link both
job_far opened link run own both marks asked sides law =
    let served : AtEachMark (ServedMark IsAll opened link) [] both =
    served_in_both IsAll opened link both (subst (λ (r : List Mark). AtEachMark (ServedMark IsAll opened link) [] r) (sym sides.server_side) law.each) in
    let back = sym sides.client_side in
    record {
      served = served;
      far = record {
        asked = job_asked_in_both IsPrefixOf opened link both (subst (λ (r : List Mark). AllByRecursion (IsJobMark link) r) back marks) (subst (λ (r : List Mark). AskedSoFar opened link r) back asked);
        served = AtEachMark_each (ServedMark IsAll opened link) (ServedMark IsPrefixOf opened link) [] both (served_mark opened link) served;
        matched = sides.matched;
      };
    }

-- and at what places its calls are
pub record JobSides (s : Setup) (J : List Entry) (n : ℕ) (opened : LinkParameters) (link : ℕ) (both : List Mark) : Type 0 where
  pub placed : AllPlaced s J n (served_calls link both)
  pub at_places : AtPlacesOn (plain_server s) J link both
  pub plain : HasPlainReplies (plain_server s) link both
  pub served : AtEachMark (ServedMark IsAll opened link) [] both
  pub far : MatchedSoFar opened link both

job_sides : (s : Setup) (J : List Entry) (n : ℕ) (opened : LinkParameters) (link : ℕ) (run own both : List Mark) → AllByRecursion (IsJobMark link) run → AskedSoFar opened link run
    → AreSidesOf link run own both → Served opened link own → AllPlaced s J n (answers_of own) → JobSides s J n opened link both
job_sides s J n opened link run own both marks asked sides law placed =
    let f = job_far opened link run own both marks asked sides law in
    let p = both_placed s J n link own both sides.server_side placed in
    record { placed = p.placed; at_places = p.at_places; plain = p.plain; served = f.served; far = f.far }

-- ---- Each call

run_parts : (alone : List Mark) (n link : ℕ) (x y z : List SharedEntry) (call : Call) (xid at : ℕ) (outcome : Outcome)
    → run_of alone n link (x ++ entries.Submit call forms.Auto xid ∷ (y ++ entries.Done xid outcome at ∷ z))
    ≡ (alone ++ flat_map (mark_at n link) x) ++ submit_of link call xid ∷ (flat_map (mark_at n link) y ++ marks.Done link xid outcome ∷ flat_map (mark_at n link) z)
unfolding run_of
run_parts alone n link x y z call xid at outcome =
    let rest = submit_of link call xid ∷ (flat_map (mark_at n link) y ++ marks.Done link xid outcome ∷ flat_map (mark_at n link) z) in
    ap (λ (l : List Mark). alone ++ l)
    (flat_map-append (mark_at n link) x (entries.Submit call forms.Auto xid ∷ (y ++ entries.Done xid outcome at ∷ z))
    ∙ ap (λ (l : List Mark). flat_map (mark_at n link) x ++ submit_of link call xid ∷ l) (flat_map-append (mark_at n link) y (entries.Done xid outcome at ∷ z)))
    ∙ sym (append_assoc alone (flat_map (mark_at n link) x) rest)

pub run_first : (alone : List Mark) (n link : ℕ) (history : List SharedEntry) → run_of alone n link history ≡ alone ++ flat_map (mark_at n link) history
unfolding run_of
run_first alone n link history = refl

each_first : (P : List Mark → Mark → Type 0) (both first last : List Mark) → both ≡ first ++ last → AtEachMark P [] both → AtEachMark P [] first
each_first P both first last is h = AtEachMark_first P [] first last (subst (λ (r : List Mark). AtEachMark P [] r) is h)

-- ---- Entries of a history, by their places

taken_first : {E : Type 0} (all xs ys : List E) (k : ℕ) → all ≡ xs ++ ys → length xs ≡ k → take k all ≡ xs
taken_first {E} all xs ys k is count = ap (λ (l : List E). take k l) is ∙ take_at xs ys k count

two_parts : {E : Type 0} (x y z : List E) (a b : E) → x ++ a ∷ (y ++ b ∷ z) ≡ (x ++ a ∷ (y ++ b ∷ [])) ++ z
two_parts {E} x y z a b = ap (λ (l : List E). x ++ a ∷ l) (sym (append_assoc y (b ∷ []) z)) ∙ sym (append_assoc x (a ∷ (y ++ b ∷ [])) z)

two_length : {E : Type 0} (x y : List E) (a b : E) (k : ℕ) → length x + suc (length y) ≡ k → length (x ++ a ∷ (y ++ b ∷ [])) ≡ suc k
two_length x y a b k is = let outer = length-append x (a ∷ (y ++ b ∷ [])) in let inner = length-append y (b ∷ []) in omega (arith, is, outer, inner)

more_marks : (alone x y : List Mark) (a b : Mark) (kept : List Mark) (made : ℕ) → kept ≡ (alone ++ x) ++ a ∷ y → made ≡ length alone + length (x ++ a ∷ (y ++ b ∷ [])) → length kept < made
more_marks alone x y a b kept made is count =
    let kept_count = ap (λ (l : List Mark). length l) is in
    let first = length-append (alone ++ x) (a ∷ y) in
    let inner = length-append alone x in
    let second = length-append x (a ∷ (y ++ b ∷ [])) in
    let last = length-append y (b ∷ []) in
    omega (arith, count, kept_count, first, inner, second, last)

module _ (s : Setup) (sane : IsSane s.tree) (J : List Entry) (n : ℕ) (opened : LinkParameters) (link : ℕ) (waits : WaitsAsPlanned opened link) (both : List Mark) (typed : IsTyped both) (b : JobSides s J n opened link both) where
  -- the marks of the session alone are the first ones of its side, and their calls come first in the journal
  alone_answered : (alone rest : List Mark) (made : List Exchange) → client_marks link both ≡ alone ++ rest → AreMarksOf link made (without_bytes alone)
      → AreAnsweredFrom s (take (bound s J link n both b.placed (upto (is_client_mark link) (length alone) both)) J) n [] made
  alone_answered alone rest made is are =
      let first = upto (is_client_mark link) (length alone) both in
      let whole = begins_run (is_client_mark link) (length alone) both in
      let kept : client_marks link first ≡ alone = kept_upto (is_client_mark link) both alone rest is in
      let calls = ap (λ (r : List Mark). served_calls link r) whole.1 ∙ calls_more link first whole.0 in
      let placed = placed_first s J n (served_calls link first) (served_calls link whole.0) (subst (λ (l : List AnsweredCall). AllPlaced s J n l) calls b.placed) in
      exchanges_answered s sane (take (bound s J link n both b.placed first) J) n opened link waits first (each_first TypedMark both first whole.0 whole.1 typed)
      (record {
        asked = each_first (AskedMark IsPrefixOf opened link) both first whole.0 whole.1 b.far.asked;
        served = each_first (ServedMark IsPrefixOf opened link) both first whole.0 whole.1 b.far.served;
        matched = each_first (MatchedMark link) both first whole.0 whole.1 b.far.matched;
      })
      (each_first (PlainReplyMark (plain_server s) link) both first whole.0 whole.1 b.plain) (placed_in_first s J n (served_calls link first) placed) made
      (subst (λ (r : List Mark). AreMarksOf link made (without_bytes r)) (sym kept) are)

  module _ (alone : List Mark) (fed : ℕ) (history : List SharedEntry) (is : client_marks link both ≡ run_of alone fed link history) where
    -- how many marks the client made up to an entry of the shared requester's history, and how far the journal was used then
    made_upto : ℕ → ℕ
    made_upto k = length alone + length (flat_map (mark_at fed link) (take k history))

    used_upto : ℕ → ℕ
    used_upto k = bound s J link n both b.placed (upto (is_client_mark link) (made_upto k) both)

    alone_first : (made : List Exchange) → AreMarksOf link made (without_bytes alone) → AreAnsweredFrom s (take (used_upto 0) J) n [] made
    unfolding made_upto used_upto
    alone_first made are =
        let count : length alone ≡ length alone + 0 = omega arith in
        subst (λ (k : ℕ). AreAnsweredFrom s (take (bound s J link n both b.placed (upto (is_client_mark link) k both)) J) n [] made) count
        (alone_answered alone (flat_map (mark_at fed link) history) made (is ∙ run_first alone fed link history) are)

    used_rises : (i j : ℕ) → i ≤ j → used_upto i ≤ used_upto j
    unfolding made_upto used_upto
    used_rises i j less =
        let count = marks_rise (mark_at fed link) history i j less in
        let rest = begins_run (is_client_mark link) (made_upto j) both in
        bound_begins s J link n both b.placed (upto (is_client_mark link) (made_upto i) both) (upto (is_client_mark link) (made_upto j) both) rest.0 rest.1
        (begins_upto (is_client_mark link) (made_upto i) (made_upto j) both (omega (arith, count)))

    used_first : n ≤ used_upto 0
    unfolding used_upto
    used_first =
        let rest = begins_run (is_client_mark link) (made_upto 0) both in
        bound_begins s J link n both b.placed [] (upto (is_client_mark link) (made_upto 0) both) rest.0 rest.1 (upto (is_client_mark link) (made_upto 0) both, refl)

    -- a call of the shared requester's history
    shared_answered : Earlier closes_of history → (mine : List ℕ) (call : Call) (outcome : Outcome) (e : IsExchange history mine call outcome)
        → IsAnsweredBetween s J call outcome (used_upto e.at) (used_upto (suc e.done))
    unfolding made_upto used_upto
    shared_answered earlier mine call outcome e =
        let submit = submit_of link call e.xid in
        let done = marks.Done link e.xid outcome in
        let f = is_client_mark link in
        let entry = entries.Submit call forms.Auto e.xid in
        let close = entries.Done e.xid outcome e.at in
        let less : e.at < e.done = earlier e.at e.done close e.answered refl in
        let two = two_at history e.at e.done entry close less e.asked e.answered in
        let x = flat_map (mark_at fed link) two.before in
        let y = flat_map (mark_at fed link) two.between in
        let z = flat_map (mark_at fed link) two.after in
        let parts : client_marks link both ≡ (alone ++ x) ++ submit ∷ (y ++ done ∷ z) =
        is ∙ ap (λ (h : List SharedEntry). run_of alone fed link h) two.is ∙ run_parts alone fed link two.before two.between two.after call e.xid e.at outcome in
        let first = kept_at f both (alone ++ x) submit (y ++ done ∷ z) parts in
        let second = kept_at f first.after y done z first.kept in
        let u = first.before in
        let v = second.before in
        let w = second.after in
        let whole : both ≡ u ++ submit ∷ (v ++ done ∷ w) = first.is ∙ ap (λ (l : List Mark). u ++ submit ∷ l) second.is in
        let split : both ≡ (u ++ submit ∷ v) ++ done ∷ w = whole ∙ sym (append_assoc u (submit ∷ v) (done ∷ w)) in
        let a = one_outcome s sane J n opened link waits both typed b.far b.plain b.placed call e.xid outcome u v w whole in
        let made_first : made_upto e.at ≡ length (filter f u) =
        ap (λ (l : List SharedEntry). length alone + length (flat_map (mark_at fed link) l)) (taken_first history two.before (entry ∷ (two.between ++ close ∷ two.after)) e.at two.is two.first)
        ∙ sym (length-append alone x) ∙ sym (ap (λ (l : List Mark). length l) first.first) in
        let low : Begins (upto f (made_upto e.at) both) u =
        subst (λ (r : List Mark). Begins (upto f (made_upto e.at) r) u) (sym whole) (begins_before f (made_upto e.at) u (submit ∷ (v ++ done ∷ w)) (omega (arith, made_first))) in
        let from = bound_begins s J link n both b.placed (upto f (made_upto e.at) both) u (submit ∷ (v ++ done ∷ w)) whole low in
        let kept_done : filter f (u ++ submit ∷ v) ≡ (alone ++ x) ++ submit ∷ y =
        filter-append f u (submit ∷ v) ∙ ap (λ (k : Bool). filter f u ++ cond k (submit ∷ filter f v) (filter f v)) (itself link)
        ∙ ap (λ (l : List Mark). l ++ submit ∷ filter f v) first.first ∙ ap (λ (l : List Mark). (alone ++ x) ++ submit ∷ l) second.first in
        let made_last : made_upto (suc e.done) ≡ length alone + length (x ++ submit ∷ (y ++ done ∷ [])) =
        ap (λ (l : List SharedEntry). length alone + length (flat_map (mark_at fed link) l))
        (taken_first history (two.before ++ entry ∷ (two.between ++ close ∷ [])) two.after (suc e.done) (two.is ∙ two_parts two.before two.between two.after entry close) (two_length two.before two.between entry close e.done two.second))
        ∙ ap (λ (l : List Mark). length alone + length l)
        (flat_map-append (mark_at fed link) two.before (entry ∷ (two.between ++ close ∷ [])) ∙ ap (λ (l : List Mark). x ++ submit ∷ l) (flat_map-append (mark_at fed link) two.between (close ∷ []))) in
        let count : length (filter f (u ++ submit ∷ v)) < made_upto (suc e.done) =
        more_marks alone x y submit done (filter f (u ++ submit ∷ v)) (made_upto (suc e.done)) kept_done made_last in
        let high : Begins ((u ++ submit ∷ v) ++ done ∷ []) (upto f (made_upto (suc e.done)) both) =
        subst (λ (r : List Mark). Begins ((u ++ submit ∷ v) ++ done ∷ []) (upto f (made_upto (suc e.done)) r)) (sym split) (begins_after f (made_upto (suc e.done)) (u ++ submit ∷ v) done w count) in
        let rest = begins_run f (made_upto (suc e.done)) both in
        let until = bound_begins s J link n both b.placed ((u ++ submit ∷ v) ++ done ∷ []) (upto f (made_upto (suc e.done)) both) rest.0 rest.1 high in
        let same : bound s J link n both b.placed (u ++ submit ∷ (v ++ done ∷ [])) ≡ bound s J link n both b.placed ((u ++ submit ∷ v) ++ done ∷ []) =
        ap (λ (l : List Mark). bound s J link n both b.placed l) (sym (append_assoc u (submit ∷ v) (done ∷ []))) in
        let at = a.1.1.0 in
        let next = a.1.1.1 in
        (a.0, (a.1.0, ((let m : used_upto e.at ≤ a.0 = omega (arith, from, at) in m), (let m : place_after s J call outcome a.0 a.1.0 ≤ used_upto (suc e.done) = omega (arith, next, same, until) in m))))

pub none_earlier : Earlier closes_of []
none_earlier p q e at is = absurd (some-ne-none e (sym at))

-- a run of a `get` by jobs and that of a connection
job_served : (setup : Setup) → IsSane setup.tree → (J more : List Entry) (opened : LinkParameters) (link : ℕ) (own : List Mark) → Served opened link own → AllPlaced setup (J ++ more) (length J) (answers_of own)
    → (s : SessionAt) (source : SourceAt) (sink : SinkAt) (log log' : Option LinkLog) (result : Result (Unit {0}) ClientEnd) (made : List Exchange) (history : List SharedEntry)
    (ran : IsJobsRun opened link s source sink log log' result made history) → Earlier closes_of history → (both : List Mark) → AreSidesOf link ran.run own both → IsTyped both
    → IsServedJobs setup J more opened link ran.run both made history
job_served setup sane J more opened link own law placed s source sink log log' result made history ran earlier both sides typed =
    let b = job_sides setup (J ++ more) (length J) opened link ran.run own both ran.own ran.asked sides law placed in
    let marks_are : client_marks link both ≡ run_of ran.alone ran.fed link history = sides.client_side ∙ ran.run_is in
    let waits = first_waits opened link ran.first_link.resumed in
    record {
      served = record { client_side = sides.client_side; typed = typed; served = b.served; matched = sides.matched; plain = b.plain };
      so_far = b.far;
      at_places = b.at_places;
      answered = record {
        alone = alone_first setup sane (J ++ more) (length J) opened link waits both typed b ran.alone ran.fed history marks_are made ran.marks_are;
        used = used_upto setup sane (J ++ more) (length J) opened link waits both typed b ran.alone ran.fed history marks_are;
        first = used_first setup sane (J ++ more) (length J) opened link waits both typed b ran.alone ran.fed history marks_are;
        rises = used_rises setup sane (J ++ more) (length J) opened link waits both typed b ran.alone ran.fed history marks_are;
        shared = shared_answered setup sane (J ++ more) (length J) opened link waits both typed b ran.alone ran.fed history marks_are earlier;
      };
    }

pub jobs_are_served_lem : JobsAreServed
jobs_are_served_lem limits first J opened link outside outside' end connection get before after out out' result (NotOpened why is fails same) sane = tt
jobs_are_served_lem limits first J opened link outside outside' end connection get before after out out' result (NotFound dialed s s' why opens finds is same closes) sane = λ ran both sides typed.
    let f = job_far opened link ran.run connection.ended.run both ran.own ran.asked sides connection.served in
    let none = none_heard opened link connection.ended.run both sides.server_side typed f.far ran.unnumbered in (
      none,
      job_served (setup_in first) sane J (connection.over none).more opened link connection.ended.run connection.served (connection.over none).placed s (source_of s') (sink_of s') dialed.ended after.ended result
          (tells_finds get.uid get.gid get.export get.path s s' (Err why) finds).made [] ran none_earlier both sides typed,
    )
jobs_are_served_lem limits first J opened link outside outside' end connection get before after out out' result (Found dialed s s' file opens finds hangs) sane = by hangs.reads
  where
    served : (made : List Exchange) (history : List SharedEntry) (ran : IsJobsRun opened link s hangs.source hangs.sink dialed.ended after.ended result made history) → Earlier closes_of history → (both : List Mark)
        → AreSidesOf link ran.run connection.ended.run both → IsTyped both
        → (none : number_heard connection.ended.run link ≡ 0) × IsServedJobs (setup_in first) J (connection.over none).more opened link ran.run both made history
    served made history ran earlier both sides typed =
        let f = job_far opened link ran.run connection.ended.run both ran.own ran.asked sides connection.served in
        let none = none_heard opened link connection.ended.run both sides.server_side typed f.far ran.unnumbered in (
          none,
          job_served (setup_in first) sane J (connection.over none).more opened link connection.ended.run connection.served (connection.over none).placed s hangs.source hangs.sink dialed.ended after.ended result
              made history ran earlier both sides typed,
        )

    found : List Exchange
    found = (tells_finds get.uid get.gid get.export get.path s s' (Ok file) finds).made

    by : (reads : ReadsFileByJobs get.uid get.gid file (link_of s') hangs.source hangs.sink out.taken out'.taken result)
        → SaysOfFile (λ source sink made history. (ran : IsJobsRun opened link s source sink dialed.ended after.ended result made history) → (both : List Mark) → AreSidesOf link ran.run connection.ended.run both →
        IsTyped both → (none : number_heard connection.ended.run link ≡ 0) × IsServedJobs (setup_in first) J (connection.over none).more opened link ran.run both made history) (tells_finds get.uid get.gid get.export get.path s s' (Ok file) finds).made
        get.uid get.gid file s' hangs.source hangs.sink out.taken out'.taken result reads
    by (NoAttributes mid why gets is same none) = λ ran both sides typed.
        served (found ++ (asked_exchanges getattr_result (getattr_call get.uid get.gid file) (view_at (link_of s')) (view_at mid) (Err why) gets.asks).made) [] ran none_earlier both sides typed
    by (Shared mid outcome attributes gets shared) = λ ran both sides typed.
        served (found ++ Answered (getattr_call get.uid get.gid file) outcome ∷ []) shared.back.history ran shared.back.earlier both sides typed

-- ---- The file

at_more : {E : Type 0} (xs ys : List E) (k : ℕ) (a : E) → get_elem? xs k ≡ some a → get_elem? (xs ++ ys) k ≡ some a
at_more [] ys k a at = absurd (some-ne-none a (sym at))
at_more (x ∷ xs) ys zero a at = at
at_more (x ∷ xs) ys (suc k) a at = at_more xs ys k a at

pub exchange_more : (seen history : List SharedEntry) (mine : List ℕ) (call : Call) (outcome : Outcome) → Begins seen history → IsExchange seen mine call outcome → IsExchange history mine call outcome
exchange_more seen history mine call outcome begins e =
    let later : (k : ℕ) (x : SharedEntry) → get_elem? seen k ≡ some x → get_elem? history k ≡ some x =
    (λ k x at. subst (λ (h : List SharedEntry). get_elem? h k ≡ some x) (sym begins.1) (at_more seen begins.0 k x at)) in
    record {
      xid = e.xid;
      at = e.at;
      asked = later e.at (entries.Submit call forms.Auto e.xid) e.asked;
      done = e.done;
      answered = later e.done (entries.Done e.xid outcome e.at) e.answered;
      own = e.own;
    }

-- the outcomes of the READs follow those before them
all_answers : (R : Call → Outcome → Type 0) (uid gid : ℕ) (file : List ℕ) (seen : List SharedEntry) (mine : List ℕ) → ((call : Call) (outcome : Outcome) → IsExchange seen mine call outcome → R call outcome)
    → (before after : List Outcome) → AreAnswers R (reading uid gid file) before → AreExchanges uid gid file seen mine before after → AreAnswers R (reading uid gid file) (before ++ after)
all_answers R uid gid file seen mine judge before [] are made = subst (λ (os : List Outcome). AreAnswers R (reading uid gid file) os) (sym (append-nil before)) are
all_answers R uid gid file seen mine judge before (outcome ∷ after) are ((call, is, exchange), made) =
    subst (λ (os : List Outcome). AreAnswers R (reading uid gid file) os) (append_assoc before (outcome ∷ []) after)
    (all_answers R uid gid file seen mine judge (before ++ outcome ∷ []) after (answers_more R (reading uid gid file) before call outcome are is (judge call outcome exchange)) made)

-- it ended with its value: all READs were answered, and the output took their data
record HasRead (uid gid : ℕ) (file : List ℕ) (outcomes : List Outcome) (taken taken' : Option (List ℕ)) : Type 0 where
  is : reading uid gid file outcomes ≡ Returns (Ok tt)
  takes : Appends taken taken' (bytes_read outcomes)

has_read : (uid gid : ℕ) (file : List ℕ) (seen : List SharedEntry) (outcomes : List Outcome) (taken taken' : Option (List ℕ)) → EndsByJobs uid gid file seen outcomes taken taken' (Ok tt)
    → HasRead uid gid file outcomes taken taken'
has_read uid gid file seen outcomes taken taken' (inl (inl (inl wrong, takes))) = absurd (let w = wrong in cc)
has_read uid gid file seen outcomes taken taken' (inl (inl (inr is, inl takes))) = record { is = is; takes = takes }
has_read uid gid file seen outcomes taken taken' (inl (inl (inr is, inr (wrong, rest)))) = absurd (let w = wrong in cc)
has_read uid gid file seen outcomes taken taken' (inl (inr (wrong, rest))) = absurd (let w = wrong in cc)
has_read uid gid file seen outcomes taken taken' (inr (call, end, (is, (wrong, rest)))) = absurd (let w = wrong in cc)

-- what a `get` that is done read, and that the place of its GETATTR is in the journal
record ReadsWhole (s : Setup) (J : List Entry) (uid gid : ℕ) (export path : List ℕ) (names : List (List ℕ)) (from : ℕ) (taken taken' : Option (List ℕ)) : Type 0 where
  outcomes : List Outcome
  gets : GetsFile s J uid gid export path names from outcomes
  takes : Appends taken taken' (bytes_read outcomes)

within_journal : (s : Setup) (J : List Entry) (from : ℕ) (call : Call) (outcome : Outcome) → AnsweredAfter s J from call outcome → from ≤ length J
within_journal s J from call outcome (place, (a, low)) = let within = a.at.within in omega (arith, low, within)

module _ (s : Setup) (J : List Entry) (uid gid : ℕ) (export path file : List ℕ) (names : List (List ℕ)) (from : ℕ) (at mid : SessionAt) where
  -- the parts of what was exchanged before the requester was shared
  record AloneJudged (finds : Finds uid gid export path at mid (Ok file)) (outcome : Outcome) : Type 0 where
    finding : AreJudged (AnsweredAfter s J from) [] (tells_finds uid gid export path at mid (Ok file) finds).made
    first : AnsweredAfter s J from (getattr_call uid gid file) outcome

  alone_judged : (finds : Finds uid gid export path at mid (Ok file)) (outcome : Outcome)
      → AreAnsweredFrom s J from [] ((tells_finds uid gid export path at mid (Ok file) finds).made ++ Answered (getattr_call uid gid file) outcome ∷ []) → AloneJudged finds outcome
  alone_judged finds outcome are =
      let made = (tells_finds uid gid export path at mid (Ok file) finds).made in
      let parts = judged_both (AnsweredAfter s J from) [] made (Answered (getattr_call uid gid file) outcome ∷ [])
      (judged s J from (made ++ Answered (getattr_call uid gid file) outcome ∷ []) [] from (omega arith) tt are) in
      record { finding = parts.0; first = parts.1.0 }

  whole_read : (finds : Finds uid gid export path at mid (Ok file)) (outcome : Outcome) → AloneJudged finds outcome → path_names path ≡ Ok names → KeepPath s J root_handle names from (length J)
      → (later : List Outcome) (taken taken' : Option (List ℕ)) → AreAnswers (AnsweredAfter s J from) (reading uid gid file) (outcome ∷ later) → HasRead uid gid file (outcome ∷ later) taken taken'
      → ReadsWhole s J uid gid export path names from taken taken'
  whole_read (inr (end, (is, wrong))) outcome alone are_names keep later taken taken' answers read = absurd (let w = wrong in cc)
  whole_read (inl (root, (m, (mounts, walks)))) outcome alone are_names keep later taken taken' answers read =
      let R = AnsweredAfter s J from in
      let mounts_made = (tells_mounts uid gid export at m (Ok root) mounts).made in
      let walks_made = (followed_exchanges (walk_next uid gid root path) m mid (Ok file) walks.0).made in
      let parts = judged_both R [] mounts_made walks_made alone.finding in
      let mount = mounted R uid gid export at m root (nat_lt mount_path_max (length export)) mounts parts.0 in
      let walk = followed R (walk_next uid gid root path) m mid file walks.0 (reads_after [] mounts_made) parts.1 in
      record {
        outcomes = outcome ∷ later;
        gets = record {
          names_are = are_names;
          root = root;
          mounted = mount.0;
          mounts = since s J from root_handle names keep (mounting uid gid export) (mount.0 ∷ []) ((mnt_call uid gid export, (refl, mount.1.1)), tt);
          root_is = mount.1.0;
          file = file;
          found = walk.outcomes;
          finds = since s J from root_handle names keep (walk_next uid gid root path) walk.outcomes walk.answers;
          file_is = walk.is;
          reads = since s J from root_handle names keep (reading uid gid file) (outcome ∷ later) answers;
          done = read.is;
        };
        takes = read.takes;
      }

-- the outcome of a call of the history is a reply at a place from this one on
pub shared_after : (s : Setup) (J : List Entry) (from : ℕ) (made : List Exchange) (history : List SharedEntry) → AreJobsAnsweredFrom s J from made history
    → (mine : List ℕ) (call : Call) (o : Outcome) → IsExchange history mine call o → AnsweredAfter s J from call o
shared_after s J from made history answered mine call o e =
    let a = answered.shared mine call o e in
    let first = answered.first in
    let later = answered.rises 0 e.at (omega arith) in
    let low = a.1.1.0 in
    (a.0, (a.1.0, (let m : from ≤ a.0 = omega (arith, first, later, low) in m)))

shared_read : (s : Setup) (J : List Entry) (uid gid : ℕ) (export path file : List ℕ) (names : List (List ℕ)) (from : ℕ) (at mid : SessionAt) (finds : Finds uid gid export path at mid (Ok file)) (outcome : Outcome) (size : ℕ) (link : LinkAt)
    (source : SourceAt) (sink : SinkAt) (taken taken' : Option (List ℕ)) (shared : ReadsShared uid gid file outcome size link source sink taken taken' (Ok tt)) → path_names path ≡ Ok names
    → KeepPath s J root_handle names from (length J)
    → AreJobsAnsweredFrom s J from ((tells_finds uid gid export path at mid (Ok file) finds).made ++ Answered (getattr_call uid gid file) outcome ∷ []) shared.back.history
    → ReadsWhole s J uid gid export path names from taken taken'
shared_read s J uid gid export path file names from at mid finds outcome size link source sink taken taken' shared are_names keep answered =
    let R = AnsweredAfter s J from in
    let made = (tells_finds uid gid export path at mid (Ok file) finds).made ++ Answered (getattr_call uid gid file) outcome ∷ [] in
    let alone = alone_judged s J uid gid export path file names from at mid finds outcome (answered_in_all s J (answered.used 0) from made answered.alone) in
    let judge : (call : Call) (o : Outcome) → IsExchange shared.seen shared.mine call o → R call o =
    (λ call o exchange. shared_after s J from made shared.back.history answered shared.mine call o (exchange_more shared.seen shared.back.history shared.mine call o shared.back.begins exchange)) in
    let answers = all_answers R uid gid file shared.seen shared.mine judge (outcome ∷ []) shared.reads.outcomes ((getattr_call uid gid file, (refl, alone.first)), tt) shared.reads.made in
    whole_read s J uid gid export path file names from at mid finds outcome alone are_names keep shared.reads.outcomes taken taken' answers
    (has_read uid gid file shared.seen (outcome ∷ shared.reads.outcomes) taken taken' shared.reads.ends)

pub jobs_read_the_file_lem : JobsReadTheFile
jobs_read_the_file_lem s J get before after out out' (NotOpened why is fails same) names from are_names keep = tt
jobs_read_the_file_lem s J get before after out out' (NotFound dialed at mid why opens finds is same closes) names from are_names keep = λ answered. absurd (let wrong = is in cc)
jobs_read_the_file_lem s J get before after out out' (Found dialed at mid file opens finds hangs) names from are_names keep = by hangs.reads
  where
    by : (reads : ReadsFileByJobs get.uid get.gid file (link_of mid) hangs.source hangs.sink out.taken out'.taken (Ok tt))
        → SaysOfFile (λ source sink made history. AreJobsAnsweredFrom s J from made history →
        (outcomes : List Outcome) × (GetsFile s J get.uid get.gid get.export get.path names from outcomes × Appends out.taken out'.taken (bytes_read outcomes)))
        (tells_finds get.uid get.gid get.export get.path at mid (Ok file) finds).made get.uid get.gid file mid hangs.source hangs.sink out.taken out'.taken (Ok tt) reads
    by (NoAttributes link why gets is same none) = λ answered. absurd (let wrong = is in cc)
    by (Shared link outcome attributes gets shared) = λ answered.
        let read = shared_read s J get.uid get.gid get.export get.path file names from at mid finds outcome attributes.size link hangs.source hangs.sink out.taken out'.taken shared are_names keep answered in
        (read.outcomes, (read.gets, read.takes))

pub jobs_give_the_file_lem : JobsGiveTheFile
jobs_give_the_file_lem s J get before after out out' (NotOpened why is fails same) names bytes to from sane ids are_names holds low keep = tt
jobs_give_the_file_lem s J get before after out out' (NotFound dialed at mid why opens finds is same closes) names bytes to from sane ids are_names holds low keep = λ answered. absurd (let wrong = is in cc)
jobs_give_the_file_lem s J get before after out out' (Found dialed at mid file opens finds hangs) names bytes to from sane ids are_names holds low keep = by hangs.reads
  where
    by : (reads : ReadsFileByJobs get.uid get.gid file (link_of mid) hangs.source hangs.sink out.taken out'.taken (Ok tt))
        → SaysOfFile (λ source sink made history. AreJobsAnsweredFrom s J from made history → Appends out.taken out'.taken bytes)
        (tells_finds get.uid get.gid get.export get.path at mid (Ok file) finds).made get.uid get.gid file mid hangs.source hangs.sink out.taken out'.taken (Ok tt) reads
    by (NoAttributes link why gets is same none) = λ answered. absurd (let wrong = is in cc)
    by (Shared link outcome attributes gets shared) = λ answered.
        let made = (tells_finds get.uid get.gid get.export get.path at mid (Ok file) finds).made ++ Answered (getattr_call get.uid get.gid file) outcome ∷ [] in
        let alone = alone_judged s J get.uid get.gid get.export get.path file names from at mid finds outcome (answered_in_all s J (answered.used 0) from made answered.alone) in
        let within = within_journal s J from (getattr_call get.uid get.gid file) outcome alone.first in
        let until : KeepPath s J root_handle names to from = (λ k lo hi. keep k lo (omega (arith, hi, within))) in
        let later : KeepPath s J root_handle names from (length J) = (λ k lo hi. keep k (omega (arith, low, lo)) hi) in
        let there = others_keep s J names bytes to from low until holds in
        let read = shared_read s J get.uid get.gid get.export get.path file names from at mid finds outcome attributes.size link hangs.source hangs.sink out.taken out'.taken shared are_names later answered in
        subst (λ (l : List ℕ). Appends out.taken out'.taken l) (get_gives s J get.uid get.gid get.export get.path names bytes from read.outcomes sane ids there read.gets) read.takes
