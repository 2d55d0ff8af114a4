-- What holds of the client's marks of a run holds of the complete run, on a link whose client's marks are among them: its events, its calls, and its law.
use Rattle.std.proofs.Common.{◌≡◌, ℕ, Bool, true, false, cond, ◌&&◌, ◌||◌, eqb, List, [], ◌∷◌, ◌++◌, length, map, None, Ok, refl, sym, ap, subst, ◌∙◌, append-nil}
use Rattle.std.specs.Prelude.{◌+◌, ◌≤◌, Contains}
use Rattle.std.specs.List.{filter, flat_map, list_any}
use Rattle.std.proofs.lemmas.List.Elements.{filter-append}
use Rattle.nr_wire.specs.declared.hello.Side.TheVariants.{Initiator, Responder}
use Rattle.nr_wire.specs.Hello.{peer}
use Rattle.nr_link.specs.Frames.{Frame, frames_completed}
use Rattle.nr_reduce.specs.declared.call.Call.{Call}
use Rattle.nr_reduce.specs.declared.call.Form.{Form}
use Rattle.nr_reduce.specs.declared.call.Submission.TheVariants as submissions
use Rattle.nr_reduce.specs.declared.mark.LinkParameters.{LinkParameters}
use Rattle.nr_reduce.specs.declared.mark.Mark.{Mark}
use Rattle.nr_reduce.specs.declared.mark.Mark.TheVariants as marks
use Rattle.nr_reduce.specs.Asked.{AskedMark, IsAccepted, IsAwaited, IsAwaitedOrWaits, IsLost, IsResent, as_accepted, revoked_bytes}
use Rattle.nr_reduce.specs.AtEachMark.{AtEachMark}
use Rattle.nr_reduce.specs.Client.{client_rules, initial_client}
use Rattle.nr_reduce.specs.ClientState.{ClientState, plan_for, stags_taken}
use Rattle.nr_reduce.specs.EndRules.{EndState, end_state_after, output_for_all}
use Rattle.nr_reduce.specs.Events.{RunEvent, events, events_at, events_from, if_own, mark_events}
use Rattle.nr_reduce.specs.Hellos.{client_hello}
use Rattle.nr_reduce.specs.History.{AcceptedCall, CompletedCall, abandons, accepted_as, accepted_at, accepted_calls, bytes_received, bytes_sent, completed_at, completed_calls, fed_at, is_abandoned, same_side, written_at}
use Rattle.nr_reduce.specs.Limits.{numbers_end}
use Rattle.nr_reduce.specs.OfferedRegions.{Region, region_bytes, region_grants}
use Rattle.nr_reduce.specs.Run.{client, grants_of, output_due, placed_bytes}
use Rattle.nr_reduce.specs.SubmitAnswer.{next_sent_xid}
use Rattle.nr_reduce.proofs.Standing.{itself, one_more}

-- ---- Marks that are not of the client of a link

-- whether a mark is one of the client of this link
abbrev pub is_mark_of : ℕ → Mark → Bool
is_mark_of link (marks.Wrote l side bytes) = eqb l link && same_side side Initiator
is_mark_of link (marks.Fed l side bytes) = eqb l link && same_side side Initiator
is_mark_of link (marks.Submit l call form answer) = eqb l link
is_mark_of link (marks.Done l xid outcome) = eqb l link
is_mark_of link (marks.Lost l xid) = eqb l link
is_mark_of link (marks.Forget l xid) = eqb l link
is_mark_of link (marks.Revoke l xid bytes) = eqb l link
is_mark_of link mark = false

and_never : (b : Bool) → (b && false) ≡ false
and_never true = refl
and_never false = refl

not_own : (b : Bool) (es : List RunEvent) → b ≡ false → if_own b es ≡ []
not_own b es is = ap (λ (c : Bool). if_own c es) is

others_no_events : (link place : ℕ) (completed : List ℕ → List Frame) (m : Mark) → is_mark_of link m ≡ false → mark_events link Initiator place completed m ≡ []
others_no_events link place completed (marks.Wrote l side bytes) is = not_own (eqb l link && same_side side Initiator) _ is
others_no_events link place completed (marks.Fed l side bytes) is = not_own (eqb l link && same_side side Initiator) _ is
others_no_events link place completed (marks.Submit l call form (submissions.Accepted xid)) is = not_own (eqb l link && true) _ (ap (λ (b : Bool). b && true) is)
others_no_events link place completed (marks.Submit l call form (submissions.Refused why)) is = refl
others_no_events link place completed (marks.Submit l call form submissions.Dropped) is = refl
others_no_events link place completed (marks.Execute l xid moment payload at reply) is = not_own (eqb l link && false) _ (and_never (eqb l link))
others_no_events link place completed (marks.Done l xid outcome) is = refl
others_no_events link place completed (marks.Lost l xid) is = refl
others_no_events link place completed (marks.Forget l xid) is = refl
others_no_events link place completed (marks.Revoke l xid bytes) is = not_own (eqb l link && true) _ (ap (λ (b : Bool). b && true) is)
others_no_events link place completed (marks.Drop l) is = refl
others_no_events link place completed (marks.Told l what) is = not_own (eqb l link && false) _ (and_never (eqb l link))

others_not_fed : (link : ℕ) (m : Mark) → is_mark_of link m ≡ false → fed_at link Initiator m ≡ []
others_not_fed link (marks.Wrote l side bytes) is = refl
others_not_fed link (marks.Fed l side bytes) is = ap (λ (b : Bool). cond b bytes []) is
others_not_fed link (marks.Submit l call form answer) is = refl
others_not_fed link (marks.Execute l xid moment payload at reply) is = refl
others_not_fed link (marks.Done l xid outcome) is = refl
others_not_fed link (marks.Lost l xid) is = refl
others_not_fed link (marks.Forget l xid) is = refl
others_not_fed link (marks.Revoke l xid bytes) is = refl
others_not_fed link (marks.Drop l) is = refl
others_not_fed link (marks.Told l what) is = refl

others_not_written : (link : ℕ) (m : Mark) → is_mark_of link m ≡ false → written_at link Initiator m ≡ []
others_not_written link (marks.Wrote l side bytes) is = ap (λ (b : Bool). cond b bytes []) is
others_not_written link (marks.Fed l side bytes) is = refl
others_not_written link (marks.Submit l call form answer) is = refl
others_not_written link (marks.Execute l xid moment payload place reply) is = refl
others_not_written link (marks.Done l xid outcome) is = refl
others_not_written link (marks.Lost l xid) is = refl
others_not_written link (marks.Forget l xid) is = refl
others_not_written link (marks.Revoke l xid bytes) is = refl
others_not_written link (marks.Drop l) is = refl
others_not_written link (marks.Told l what) is = refl

others_not_accepted : (link : ℕ) (m : Mark) → is_mark_of link m ≡ false → accepted_at link m ≡ []
others_not_accepted link (marks.Wrote l side bytes) is = refl
others_not_accepted link (marks.Fed l side bytes) is = refl
others_not_accepted link (marks.Submit l call form answer) is = ap (λ (b : Bool). cond b (accepted_as answer call form) []) is
others_not_accepted link (marks.Execute l xid moment payload place reply) is = refl
others_not_accepted link (marks.Done l xid outcome) is = refl
others_not_accepted link (marks.Lost l xid) is = refl
others_not_accepted link (marks.Forget l xid) is = refl
others_not_accepted link (marks.Revoke l xid bytes) is = refl
others_not_accepted link (marks.Drop l) is = refl
others_not_accepted link (marks.Told l what) is = refl

others_not_abandoned : (link xid : ℕ) (m : Mark) → is_mark_of link m ≡ false → abandons link xid m ≡ false
others_not_abandoned link xid (marks.Wrote l side bytes) is = refl
others_not_abandoned link xid (marks.Fed l side bytes) is = refl
others_not_abandoned link xid (marks.Submit l call form answer) is = refl
others_not_abandoned link xid (marks.Execute l x moment payload place reply) is = refl
others_not_abandoned link xid (marks.Done l x outcome) is = refl
others_not_abandoned link xid (marks.Lost l x) is = ap (λ (b : Bool). b && eqb x xid) is
others_not_abandoned link xid (marks.Forget l x) is = ap (λ (b : Bool). b && eqb x xid) is
others_not_abandoned link xid (marks.Revoke l x bytes) is = ap (λ (b : Bool). b && eqb x xid) is
others_not_abandoned link xid (marks.Drop l) is = refl
others_not_abandoned link xid (marks.Told l what) is = refl

others_none : (link : ℕ) (m : Mark) → is_mark_of link m ≡ false → completed_at link m ≡ []
others_none link (marks.Wrote l side bytes) is = refl
others_none link (marks.Fed l side bytes) is = refl
others_none link (marks.Submit l call form answer) is = refl
others_none link (marks.Execute l xid moment payload place reply) is = refl
others_none link (marks.Done l xid outcome) is = ap (λ (b : Bool). cond b (record { xid = xid; outcome = outcome } ∷ []) []) is
others_none link (marks.Lost l xid) is = refl
others_none link (marks.Forget l xid) is = refl
others_none link (marks.Revoke l xid bytes) is = refl
others_none link (marks.Drop l) is = refl
others_none link (marks.Told l what) is = refl

received_more : (link : ℕ) (run : List Mark) (m : Mark) → bytes_received link Initiator (run ++ m ∷ []) ≡ bytes_received link Initiator run ++ fed_at link Initiator m
unfolding bytes_received
received_more link run m = one_more (fed_at link Initiator) run m

-- ---- What is kept of a list

kept_all : {A : Type 0} (f : Mark → List A) (p : Mark → Bool) (run : List Mark) → ((m : Mark) → p m ≡ false → f m ≡ []) → flat_map f run ≡ flat_map f (filter p run)
kept_all f p [] none = refl
kept_all {A} f p (m ∷ run) none = by (kept_all f p run none) (p m) refl
  where
    by : flat_map f run ≡ flat_map f (filter p run) → (b : Bool) → p m ≡ b → f m ++ flat_map f run ≡ flat_map f (cond (p m) (m ∷ filter p run) (filter p run))
    by rest true is = ap (λ (l : List A). f m ++ l) rest ∙ ap (λ (b : Bool). flat_map f (cond b (m ∷ filter p run) (filter p run))) (sym is)
    by rest false is = ap (λ (l : List A). l ++ flat_map f run) (none m is) ∙ rest ∙ ap (λ (b : Bool). flat_map f (cond b (m ∷ filter p run) (filter p run))) (sym is)

any_kept : (f p : Mark → Bool) (run : List Mark) → ((m : Mark) → p m ≡ false → f m ≡ false) → list_any f run ≡ list_any f (filter p run)
any_kept f p [] none = refl
any_kept f p (m ∷ run) none = by (any_kept f p run none) (p m) refl
  where
    by : list_any f run ≡ list_any f (filter p run) → (b : Bool) → p m ≡ b → (f m || list_any f run) ≡ list_any f (cond (p m) (m ∷ filter p run) (filter p run))
    by rest true is = ap (λ (x : Bool). f m || x) rest ∙ ap (λ (b : Bool). list_any f (cond b (m ∷ filter p run) (filter p run))) (sym is)
    by rest false is = ap (λ (x : Bool). x || list_any f run) (none m is) ∙ rest ∙ ap (λ (b : Bool). list_any f (cond b (m ∷ filter p run) (filter p run))) (sym is)

-- ---- The client's marks alone

module _ (is_own : Mark → Bool) (link : ℕ) (others : (m : Mark) → is_own m ≡ false → is_mark_of link m ≡ false) where
  events_kept : (before kept rest : List Mark) → bytes_received link Initiator before ≡ bytes_received link Initiator kept
      → events_from link Initiator before rest ≡ events_from link Initiator kept (filter is_own rest)
  events_kept before kept [] same = refl
  events_kept before kept (m ∷ rest) same =
      by (is_own m) refl (λ later agree. events_kept (before ++ m ∷ []) later rest agree)
    where
      at_mark : events_at link Initiator before m ≡ events_at link Initiator kept m
      at_mark = ap (λ (bs : List ℕ). mark_events link Initiator (length bs) (frames_completed (peer Initiator) bs) m) same

      by : (b : Bool) → is_own m ≡ b
          → ((later : List Mark) → bytes_received link Initiator (before ++ m ∷ []) ≡ bytes_received link Initiator later
          → events_from link Initiator (before ++ m ∷ []) rest ≡ events_from link Initiator later (filter is_own rest))
          → events_at link Initiator before m ++ events_from link Initiator (before ++ m ∷ []) rest
          ≡ events_from link Initiator kept (cond (is_own m) (m ∷ filter is_own rest) (filter is_own rest))
      by true is goes =
          ap (λ (es : List RunEvent). es ++ events_from link Initiator (before ++ m ∷ []) rest) at_mark
          ∙ ap (λ (es : List RunEvent). events_at link Initiator kept m ++ es)
          (goes (kept ++ m ∷ []) (received_more link before m ∙ ap (λ (bs : List ℕ). bs ++ fed_at link Initiator m) same ∙ sym (received_more link kept m)))
          ∙ ap (λ (b : Bool). events_from link Initiator kept (cond b (m ∷ filter is_own rest) (filter is_own rest))) (sym is)
      by false is goes =
          ap (λ (es : List RunEvent). es ++ events_from link Initiator (before ++ m ∷ []) rest)
          (others_no_events link (length (bytes_received link Initiator before)) (frames_completed (peer Initiator) (bytes_received link Initiator before)) m (others m is))
          ∙ goes kept (received_more link before m ∙ ap (λ (bs : List ℕ). bytes_received link Initiator before ++ bs) (others_not_fed link m (others m is)) ∙ append-nil (bytes_received link Initiator before) ∙ same)
          ∙ ap (λ (b : Bool). events_from link Initiator kept (cond b (m ∷ filter is_own rest) (filter is_own rest))) (sym is)

  pub events_same : (run : List Mark) → events link Initiator run ≡ events link Initiator (filter is_own run)
  unfolding events
  events_same run = events_kept [] [] run refl

  pub client_same : (opened : LinkParameters) (run : List Mark) → client opened link run ≡ client opened link (filter is_own run)
  unfolding client
  client_same opened run = ap (λ (es : List RunEvent). end_state_after (client_rules opened) (initial_client opened) es) (events_same run)

  due_same : (opened : LinkParameters) (run : List Mark) → output_due opened link Initiator run ≡ output_due opened link Initiator (filter is_own run)
  unfolding output_due
  due_same opened run = ap (λ (es : List RunEvent). client_hello opened ++ output_for_all (client_rules opened) (initial_client opened) es) (events_same run)

  sent_same : (run : List Mark) → bytes_sent link Initiator run ≡ bytes_sent link Initiator (filter is_own run)
  unfolding bytes_sent
  sent_same run = kept_all (written_at link Initiator) is_own run (λ m is. others_not_written link m (others m is))

  received_same : (run : List Mark) → bytes_received link Initiator run ≡ bytes_received link Initiator (filter is_own run)
  unfolding bytes_received
  received_same run = kept_all (fed_at link Initiator) is_own run (λ m is. others_not_fed link m (others m is))

  pub accepted_same : (run : List Mark) → accepted_calls link run ≡ accepted_calls link (filter is_own run)
  unfolding accepted_calls
  accepted_same run = kept_all (accepted_at link) is_own run (λ m is. others_not_accepted link m (others m is))

  completed_same : (run : List Mark) → completed_calls link run ≡ completed_calls link (filter is_own run)
  unfolding completed_calls
  completed_same run = kept_all (completed_at link) is_own run (λ m is. others_none link m (others m is))

  pub abandoned_same : (xid : ℕ) (run : List Mark) → is_abandoned link xid run ≡ is_abandoned link xid (filter is_own run)
  abandoned_same xid run = any_kept (abandons link xid) is_own run (λ m is. others_not_abandoned link xid m (others m is))

  revoked_same : (opened : LinkParameters) (xid : ℕ) (run : List Mark) → revoked_bytes opened link run xid ≡ revoked_bytes opened link (filter is_own run) xid
  unfolding placed_bytes grants_of
  revoked_same opened xid run =
      λ i. flat_map
      (λ (r : Region). region_bytes (region_grants (length (received_same run i)) (client_same opened run i).state.regions) (client_same opened run i).state.regions (client_same opened run i).state.accesses_received r.stag)
      (filter (λ (r : Region). eqb r.call xid) (client_same opened run i).state.regions)

  module _ (Relates : List ℕ → List ℕ → Type 0) (opened : LinkParameters) (before : List Mark) where
    awaited_back : (xid : ℕ) → IsAwaited link (filter is_own before) xid → IsAwaited link before xid
    awaited_back xid w = record {
      asked = w.asked;
      is_asked = subst (λ (l : List AcceptedCall). Contains l w.asked) (sym (accepted_same before)) w.is_asked;
      own = w.own;
      first = λ c there. w.first c (subst (λ (l : List CompletedCall). Contains l c) (completed_same before) there);
      kept = abandoned_same xid before ∙ w.kept;
    }

    waits_back : (xid : ℕ) → IsAwaitedOrWaits opened link (filter is_own before) xid → IsAwaitedOrWaits opened link before xid
    waits_back xid w = record {
      asked = w.asked;
      is_asked = subst (λ (l : List AcceptedCall). Contains (map as_accepted opened.resumed ++ l) w.asked) (sym (accepted_same before)) w.is_asked;
      own = w.own;
      first = λ c there. w.first c (subst (λ (l : List CompletedCall). Contains l c) (completed_same before) there);
      kept = abandoned_same xid before ∙ w.kept;
    }

    accepted_back : (call : Call) (form : Form) (xid : ℕ) → IsAccepted opened link (filter is_own before) call form xid → IsAccepted opened link before call form xid
    accepted_back call form xid a =
        let back : client opened link (filter is_own before) ≡ client opened link before = sym (client_same opened before) in
        record {
          stays = subst (λ (c : EndState ClientState). c.ended ≡ None) back a.stays;
          next = subst (λ (c : EndState ClientState). xid ≡ next_sent_xid c.state) back a.next;
          resent = subst (λ (c : EndState ClientState). IsResent c.state.has_hello c.state.next_xid c.state.waiting call form) back a.resent;
          plan = a.plan;
          planned = subst (λ (c : EndState ClientState). plan_for c.state xid call form ≡ Ok a.plan) back a.planned;
          xids = a.xids;
          stags = subst (λ (c : EndState ClientState). c.state.stag + stags_taken c.state xid a.plan ≤ numbers_end) back a.stags;
          writable = a.writable;
        }

    lost_back : (xid : ℕ) → IsLost opened link (filter is_own before) xid → IsLost opened link before xid
    lost_back xid lost = record {
      awaited = waits_back xid lost.awaited;
      ended = lost.ended;
      is_ended = ap (λ (c : EndState ClientState). c.ended) (client_same opened before) ∙ lost.is_ended;
      none = λ c there. lost.none c (subst (λ (k : EndState ClientState). Contains k.state.outcomes c) (client_same opened before) there);
    }

    asked_back : (m : Mark) → AskedMark Relates opened link (filter is_own before) m → AskedMark Relates opened link before m
    asked_back (marks.Submit l call form (submissions.Accepted xid)) h = λ same. accepted_back call form xid (h same)
    asked_back (marks.Submit l call form (submissions.Refused why)) h = tt
    asked_back (marks.Submit l call form submissions.Dropped) h = tt
    asked_back (marks.Wrote l Initiator bytes) h = λ same.
        subst (λ (sent : List ℕ). Relates (sent ++ bytes) (output_due opened link Initiator before)) (sym (sent_same before))
        (subst (λ (due : List ℕ). Relates (bytes_sent link Initiator (filter is_own before) ++ bytes) due) (sym (due_same opened before)) (h same))
    asked_back (marks.Wrote l Responder bytes) h = tt
    asked_back (marks.Fed l side bytes) h = tt
    asked_back (marks.Execute l xid moment payload place reply) h = tt
    asked_back (marks.Done l xid outcome) h = λ same.
        record { awaited = awaited_back xid (h same).awaited; is_received = subst (λ (c : EndState ClientState). Contains c.state.outcomes (record { xid = xid; outcome = outcome })) (sym (client_same opened before)) (h same).is_received }
    asked_back (marks.Lost l xid) h = λ same. lost_back xid (h same)
    asked_back (marks.Forget l xid) h = λ same. waits_back xid (h same)
    asked_back (marks.Revoke l xid bytes) h = λ same. record { awaited = waits_back xid (h same).awaited; bytes_are = (h same).bytes_are ∙ sym (revoked_same opened xid before) }
    asked_back (marks.Drop l) h = tt
    asked_back (marks.Told l what) h = tt

    not_here : (l : ℕ) → eqb l link ≡ false → l ≡ link → ⊥
    not_here l is same = absurd (let wrong : true ≡ false = sym (itself link) ∙ ap (λ (k : ℕ). eqb k link) (sym same) ∙ is in cc)

    not_here_own : (l : ℕ) → (eqb l link && true) ≡ false → l ≡ link → ⊥
    not_here_own l is same = absurd (let wrong : true ≡ false = ap (λ (b : Bool). b && true) (sym (itself link) ∙ ap (λ (k : ℕ). eqb k link) (sym same)) ∙ is in cc)

    -- of a mark that is no client's nothing is asked
    asked_others : (m : Mark) → is_mark_of link m ≡ false → AskedMark Relates opened link before m
    asked_others (marks.Submit l call form (submissions.Accepted xid)) is = λ same. absurd (not_here l is same)
    asked_others (marks.Submit l call form (submissions.Refused why)) is = tt
    asked_others (marks.Submit l call form submissions.Dropped) is = tt
    asked_others (marks.Wrote l Initiator bytes) is = λ same. absurd (not_here_own l is same)
    asked_others (marks.Wrote l Responder bytes) is = tt
    asked_others (marks.Fed l side bytes) is = tt
    asked_others (marks.Execute l xid moment payload place reply) is = tt
    asked_others (marks.Done l xid outcome) is = λ same. absurd (not_here l is same)
    asked_others (marks.Lost l xid) is = λ same. absurd (not_here l is same)
    asked_others (marks.Forget l xid) is = λ same. absurd (not_here l is same)
    asked_others (marks.Revoke l xid bytes) is = λ same. absurd (not_here l is same)
    asked_others (marks.Drop l) is = tt
    asked_others (marks.Told l what) is = tt

  -- the law of all marks
  each_back : (P : List Mark → Mark → Type 0) → ((earlier : List Mark) (m : Mark) → P (filter is_own earlier) m → P earlier m) → ((earlier : List Mark) (m : Mark) → is_own m ≡ false → P earlier m) → (before rest : List Mark)
      → AtEachMark P (filter is_own before) (filter is_own rest) → AtEachMark P before rest
  each_back P back none before [] each = tt
  each_back P back none before (m ∷ rest) each = by (is_own m) refl each (each_back P back none (before ++ m ∷ []) rest) where
    more : filter is_own (before ++ m ∷ []) ≡ filter is_own before ++ cond (is_own m) (m ∷ []) []
    more = filter-append is_own before (m ∷ [])

    later : (xs : List Mark) → filter is_own (before ++ m ∷ []) ≡ xs → AtEachMark P xs (filter is_own rest) → AtEachMark P (filter is_own (before ++ m ∷ [])) (filter is_own rest)
    later xs same all = subst (λ (l : List Mark). AtEachMark P l (filter is_own rest)) (sym same) all

    by : (b : Bool) → is_own m ≡ b → AtEachMark P (filter is_own before) (cond b (m ∷ filter is_own rest) (filter is_own rest))
        → (AtEachMark P (filter is_own (before ++ m ∷ [])) (filter is_own rest) → AtEachMark P (before ++ m ∷ []) rest) → P before m × AtEachMark P (before ++ m ∷ []) rest
    by true is all goes = (back before m all.0, goes (later (filter is_own before ++ m ∷ []) (more ∙ ap (λ (b : Bool). filter is_own before ++ cond b (m ∷ []) []) is) all.1))
    by false is all goes = (none before m is, goes (later (filter is_own before) (more ∙ ap (λ (b : Bool). filter is_own before ++ cond b (m ∷ []) []) is ∙ append-nil (filter is_own before)) all))

  pub asked_in_both : (Relates : List ℕ → List ℕ → Type 0) (opened : LinkParameters) (both : List Mark) → AtEachMark (AskedMark Relates opened link) [] (filter is_own both) → AtEachMark (AskedMark Relates opened link) [] both
  asked_in_both Relates opened both each = each_back (AskedMark Relates opened link) (asked_back Relates opened) (λ earlier m is. asked_others Relates opened earlier m (others m is)) [] both each
