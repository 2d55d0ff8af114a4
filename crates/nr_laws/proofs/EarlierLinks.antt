-- A call that a client sends again, on whatever later link, is the one that it submitted under that xid.
use Rattle.std.proofs.Common.{◌≡◌, ℕ, ◌<◌, ◌≤◌, List, [], ◌∷◌, ◌++◌, length, refl, sym, ap, subst, ◌∙◌, arith, eq-eqb, Bool, true, ◌&&◌, append_assoc, append-nil, ◌⊎◌, inl, inr, length-append}
use Rattle.std.specs.List.{AllByRecursion}
use Rattle.std.proofs.lemmas.List.{append_cancel_left}
use Rattle.nr_outside.specs.declared.moment.Moment.{Moment}
use Rattle.nr_wire.specs.declared.hello.Side.{Side}
use Rattle.nr_wire.specs.declared.hello.Side.TheVariants.{Initiator, Responder}
use Rattle.nr_reduce.specs.declared.call.Call.{Call}
use Rattle.nr_reduce.specs.declared.call.Form.{Form}
use Rattle.nr_reduce.specs.declared.call.Submission.TheVariants as submissions
use Rattle.nr_reduce.specs.declared.mark.Mark.{Mark}
use Rattle.nr_reduce.specs.declared.mark.Mark.TheVariants as marks
use Rattle.nr_reduce.specs.declared.mark.LinkParameters.{LinkParameters}
use Rattle.nr_reduce.specs.declared.mark.ResumedCall.{ResumedCall}
use Rattle.nr_reduce.specs.Asked.{AskedMark, AskedSoFar, IsAccepted}
use Rattle.nr_reduce.specs.Matched.{IsPrefixOf}
use Rattle.nr_reduce.specs.Opening.{IsOpened}
use Rattle.nr_reduce.specs.Reopening.{IsLate, IsReopened, calls_kept, reopened}
use Rattle.nr_reduce.specs.Events.{RunEvent, events, events_at, if_own}
use Rattle.nr_reduce.specs.Events.RunEvent.{CallSubmitted, CallExecuted}
use Rattle.nr_reduce.specs.History.{bytes_received}
use Rattle.nr_reduce.specs.Run.{client}
use Rattle.nr_reduce.proofs.Placing.{xids_differ}
use Rattle.nr_reduce.proofs.Steps.{events_one, AtEachMark_first}
use Rattle.nr_laws.specs.OnceEach.{BegunLink, IsNextLink, GoesOn}
use Rattle.nr_laws.proofs.Basics.{first_is_lem, rest_is_lem, each_right}
use Rattle.nr_laws.proofs.OnceByXid.{at_mark}
use Rattle.nr_laws.proofs.Ordered.{Order, order}
use Rattle.nr_laws.proofs.Ordered.Order.{Here, Behind, Before}
use Rattle.nr_laws.proofs.Following.{events_more}
use Rattle.nr_laws.proofs.ResumedCalls.{IsOneOf, WasOutstanding, resumed_below, resumed_each, next_least, new_or_again, accepted_below, kept_of}

-- ---- A mark of a run stands in the first marks of it, or after them

pub record InFirst (cut before : List Mark) (mark : Mark) : Type 0 where
  pub rest : List Mark
  pub is : cut ≡ before ++ mark ∷ rest

pub record AfterFirst (cut before : List Mark) : Type 0 where
  pub between : List Mark
  pub is : before ≡ cut ++ between

first_or_after : (cut rest before : List Mark) (mark : Mark) (after : List Mark) → cut ++ rest ≡ before ++ mark ∷ after → InFirst cut before mark ⊎ AfterFirst cut before
first_or_after [] rest before mark after e = inr (record { between = before; is = refl })
first_or_after (x ∷ cut) rest [] mark after e = inl (record { rest = cut; is = λ i. first_is_lem x mark (cut ++ rest) after e i ∷ cut })
first_or_after (x ∷ cut) rest (y ∷ before) mark after e = by (first_or_after cut rest before mark after (rest_is_lem x y (cut ++ rest) (before ++ mark ∷ after) e))
  where
    same : x ≡ y
    same = first_is_lem x y (cut ++ rest) (before ++ mark ∷ after) e

    by : InFirst cut before mark ⊎ AfterFirst cut before → InFirst (x ∷ cut) (y ∷ before) mark ⊎ AfterFirst (x ∷ cut) (y ∷ before)
    by (inl h) = inl (record { rest = h.rest; is = λ i. same i ∷ h.is i })
    by (inr h) = inr (record { between = h.between; is = λ i. sym same i ∷ h.is i })

pub mark_in_first : (run cut rest before : List Mark) (mark : Mark) (after : List Mark) → run ≡ cut ++ rest → run ≡ before ++ mark ∷ after → InFirst cut before mark ⊎ AfterFirst cut before
mark_in_first run cut rest before mark after first is = first_or_after cut rest before mark after (sym first ∙ is)

pub in_run : (run cut rest before : List Mark) (mark : Mark) → run ≡ cut ++ rest → (h : InFirst cut before mark) → run ≡ before ++ mark ∷ (h.rest ++ rest)
in_run run cut rest before mark first h = first ∙ ap (λ (r : List Mark). r ++ rest) h.is ∙ append_assoc before (mark ∷ h.rest) rest

no_more : {X : Type 0} (xs : List X) (x : X) (ys : List X) → xs ++ x ∷ ys ≡ xs → ⊥
no_more xs x ys e = (let n = ap (λ (zs : List _). length zs) e in let m = length-append xs (x ∷ ys) in omega (arith, n, m))

-- a side that has an event at a mark has it then
pub event_at_mark : (link : ℕ) (side : Side) (before : List Mark) (mark : Mark) (e : RunEvent) (after : List Mark) → events_at link side before mark ≡ e ∷ [] → (rest : List RunEvent) × (events link side (before ++ mark ∷ after) ≡ events link side before ++ e ∷ rest)
event_at_mark link side before mark e after own =
    let more = events_more link side (before ++ mark ∷ []) after in (
      more.0,
      ap (λ (r : List Mark). events link side r) (sym (append_assoc before (mark ∷ []) after)) ∙ more.1
          ∙ ap (λ (es : List RunEvent). es ++ more.0) (events_one link side before mark ∙ ap (λ (es : List RunEvent). events link side before ++ es) own)
          ∙ append_assoc (events link side before) (e ∷ []) more.0,
    )

pub submit_event : (link : ℕ) (before : List Mark) (call : Call) (form : Form) (xid : ℕ)
    → events_at link Initiator before (marks.Submit link call form (submissions.Accepted xid)) ≡ CallSubmitted (length (bytes_received link Initiator before)) (record { xid = xid; call = call; form = form }) ∷ []
submit_event link before call form xid = ap (λ (b : Bool). if_own (b && true) (CallSubmitted (length (bytes_received link Initiator before)) (record { xid = xid; call = call; form = form }) ∷ [])) (eq-eqb link link refl)

pub execute_event : (link : ℕ) (before : List Mark) (xid : ℕ) (moment : Moment) (payload : List ℕ) (at : ℕ) (reply : List ℕ)
    → events_at link Responder before (marks.Execute link xid moment payload at reply) ≡ CallExecuted (record { xid = xid; moment = moment; payload = payload; place = at; reply = reply }) ∷ []
execute_event link before xid moment payload at reply =
    ap (λ (b : Bool). if_own (b && true) (CallExecuted (record { xid = xid; moment = moment; payload = payload; place = at; reply = reply }) ∷ [])) (eq-eqb link link refl)

pub none_is : {X : Type 0} (xs : List X) (x : X) (ys : List X) → xs ++ x ∷ ys ≡ [] → ⊥
none_is xs x ys e = (let n = ap (λ (zs : List _). length zs) e in let m = length-append xs (x ∷ ys) in omega (arith, n, m))

-- A client that left its link after some marks of a run submitted all its calls there before.
pub submitted_in_time : (opened next_opened : LinkParameters) (link : ℕ) (run cut before after : List Mark) (call : Call) (form : Form) (xid : ℕ) → IsReopened opened next_opened link run cut
    → run ≡ before ++ marks.Submit link call form (submissions.Accepted xid) ∷ after → InFirst cut before (marks.Submit link call form (submissions.Accepted xid))
submitted_in_time opened next_opened link run cut before after call form xid r is = by (mark_in_first run cut r.after before submit after r.is_cut is)
  where
    submit : Mark
    submit = marks.Submit link call form (submissions.Accepted xid)

    e : RunEvent
    e = CallSubmitted (length (bytes_received link Initiator before)) (record { xid = xid; call = call; form = form })

    wrong : AfterFirst cut before → ⊥
    wrong h =
        let all = event_at_mark link Initiator before submit e after (submit_event link before call form xid) in
        let more = events_more link Initiator cut h.between in
        let both : events link Initiator cut ++ (more.0 ++ e ∷ all.0) ≡ events link Initiator cut ++ r.late =
        sym (append_assoc (events link Initiator cut) more.0 (e ∷ all.0))
        ∙ ap (λ (es : List RunEvent). es ++ e ∷ all.0) (sym (ap (λ (r : List Mark). events link Initiator r) h.is ∙ more.1))
        ∙ sym all.1 ∙ ap (λ (r : List Mark). events link Initiator r) (sym is) ∙ r.left in
        let late : r.late ≡ more.0 ++ e ∷ all.0 = sym (append_cancel_left (events link Initiator cut) (more.0 ++ e ∷ all.0) r.late both) in
        (each_right (IsLate opened link cut) more.0 (e ∷ all.0) (subst (AllByRecursion (IsLate opened link cut)) late r.harmless)).0

    by : InFirst cut before submit ⊎ AfterFirst cut before → InFirst cut before submit
    by (inl h) = h
    by (inr h) = absurd (wrong h)

-- ---- One link after the other

-- what is asked of each link: it was opened in range, and its client keeps its law
pub record LinkKeeps (opened : ℕ → LinkParameters) (run : List Mark) (link : BegunLink) : Type 0 where
  pub opens : IsOpened (opened link.link)
  pub asked : AskedSoFar (opened link.link) link.link run

pub next_opening : (opened : ℕ → LinkParameters) (run : List Mark) (old link : BegunLink) → IsNextLink opened run old link
    → ((opened link.link).first_xid ≡ (client (opened old.link) old.link link.began).state.next_xid) × ((opened link.link).resumed ≡ calls_kept (opened old.link) old.link link.began)
unfolding reopened
next_opening opened run old link n = (ap (λ (o : LinkParameters). o.first_xid) n.reopened.next, ap (λ (o : LinkParameters). o.resumed) n.reopened.next)

-- an xid of an earlier link is below the first new one
pub xid_below : (opened : ℕ → LinkParameters) (run : List Mark) (first : ℕ) (before rest : List Mark) (call : Call) (form : Form) (xid : ℕ) → run ≡ before ++ marks.Submit first call form (submissions.Accepted xid) ∷ rest
    → (link old : BegunLink) (links : List BegunLink) → AllByRecursion (LinkKeeps opened run) (old ∷ links) → GoesOn opened run first link (old ∷ links) → xid < (opened link.link).first_xid
xid_below opened run first before rest call form xid is link old [] (keeps, none) (n, e) =
    let cut = n.reopened in
    let here : run ≡ before ++ marks.Submit old.link call form (submissions.Accepted xid) ∷ rest = is ∙ ap (λ (l : ℕ). before ++ marks.Submit l call form (submissions.Accepted xid) ∷ rest) (sym e) in
    let in_time = submitted_in_time (opened old.link) (opened link.link) old.link run link.began before rest call form xid cut here in
    let asked : AskedSoFar (opened old.link) old.link link.began = AtEachMark_first (AskedMark IsPrefixOf (opened old.link) old.link) [] link.began cut.after (subst (AskedSoFar (opened old.link) old.link) cut.is_cut keeps.asked) in
    let below = accepted_below (opened old.link) old.link link.began before in_time.rest call form xid keeps.opens asked in_time.is in
    let next = (next_opening opened run old link n).0 in
    omega (arith, below, next)
xid_below opened run first before rest call form xid is link old (older ∷ links) (keeps, others) (n, g) =
    let below = xid_below opened run first before rest call form xid is old older links others g in
    let least = next_least (opened old.link) old.link link.began in
    let next = (next_opening opened run old link n).0 in
    omega (arith, below, least, next)

-- two Submits of one link under one xid are one
same_submit : (opened : LinkParameters) (link : ℕ) (run early late rest others : List Mark) (call other : Call) (form way : Form) (xid : ℕ) → AskedSoFar opened link run
    → run ≡ early ++ marks.Submit link call form (submissions.Accepted xid) ∷ rest → run ≡ late ++ marks.Submit link other way (submissions.Accepted xid) ∷ others → (call ≡ other) × (form ≡ way)
same_submit opened link run early late rest others call other form way xid asked here again =
    by (order early (marks.Submit link call form (submissions.Accepted xid)) rest late (marks.Submit link other way (submissions.Accepted xid)) others (sym here ∙ again))
  where
    by : Order early (marks.Submit link call form (submissions.Accepted xid)) rest late (marks.Submit link other way (submissions.Accepted xid)) others → (call ≡ other) × (form ≡ way)
    by (Here e m) = (cc, cc)
    by (Behind gap e then) =
        absurd (let lt = xids_differ IsPrefixOf opened link run early gap others call other form way xid xid (here ∙ ap (λ (t : List Mark). early ++ marks.Submit link call form (submissions.Accepted xid) ∷ t) then) asked in omega (arith, lt))
    by (Before gap e then) =
        absurd (let lt = xids_differ IsPrefixOf opened link run late gap rest other call way form xid xid (again ∙ ap (λ (t : List Mark). late ++ marks.Submit link other way (submissions.Accepted xid) ∷ t) then) asked in omega (arith, lt))

-- What a link has of an xid is that call: what it was opened with to be sent again, and what it submitted.
pub record SameCall (opened : ℕ → LinkParameters) (run : List Mark) (link xid : ℕ) (call : Call) (form : Form) : Type 0 where
  pub resumed : (other : Call) (way : Form) → IsOneOf (opened link).resumed xid other way → (other ≡ call) × (way ≡ form)
  pub submitted : (before rest : List Mark) (other : Call) (way : Form) → run ≡ before ++ marks.Submit link other way (submissions.Accepted xid) ∷ rest → (other ≡ call) × (way ≡ form)

-- of the next link, if it is so of the old one
same_next : (opened : ℕ → LinkParameters) (run : List Mark) (xid : ℕ) (call : Call) (form : Form) (link old : BegunLink) → LinkKeeps opened run link → IsNextLink opened run old link → xid < (opened link.link).first_xid → SameCall opened run old.link xid call form → SameCall opened run link.link xid call form
same_next opened run xid call form link old keeps n below earlier = record {
  resumed = again;
  submitted = λ early later other way there. by_submit other way
      (new_or_again (opened link.link) link.link early other way xid
      (at_mark (AskedMark IsPrefixOf (opened link.link) link.link) run early (marks.Submit link.link other way (submissions.Accepted xid)) later there keeps.asked refl));
}
  where
    kept : (other : Call) (way : Form) → WasOutstanding old.link link.began xid other way ⊎ IsOneOf (opened old.link).resumed xid other way → (other ≡ call) × (way ≡ form)
    kept other way (inr one) = earlier.resumed other way one
    kept other way (inl h) =
        let own = h.own in
        let at = own.at in
        let there : run ≡ own.before ++ marks.Submit old.link other own.form (submissions.Accepted xid) ∷ (at.after ++ n.reopened.after) =
        n.reopened.is_cut ∙ ap (λ (r : List Mark). r ++ n.reopened.after) at.is ∙ append_assoc own.before (marks.Submit old.link other own.form (submissions.Accepted xid) ∷ at.after) n.reopened.after in
        let a = h.accepted in
        let found = h.submitted in
        let place = found.at in
        let formed : run ≡ found.before ++ marks.Submit old.link a.call a.form (submissions.Accepted xid) ∷ (place.after ++ n.reopened.after) =
        n.reopened.is_cut ∙ ap (λ (r : List Mark). r ++ n.reopened.after) place.is ∙ append_assoc found.before (marks.Submit old.link a.call a.form (submissions.Accepted a.xid) ∷ place.after) n.reopened.after
        ∙ ap (λ (x : ℕ). found.before ++ marks.Submit old.link a.call a.form (submissions.Accepted x) ∷ (place.after ++ n.reopened.after)) h.xid_is in (
          (earlier.submitted own.before (at.after ++ n.reopened.after) other own.form there).0,
          sym h.form_is ∙ (earlier.submitted found.before (place.after ++ n.reopened.after) a.call a.form formed).1,
        )

    again : (other : Call) (way : Form) → IsOneOf (opened link.link).resumed xid other way → (other ≡ call) × (way ≡ form)
    again other way one =
        kept other way (kept_of (opened old.link) old.link link.began xid other way (subst (λ (rs : List ResumedCall). IsOneOf rs xid other way) (next_opening opened run old link n).1 one))

    by_submit : (other : Call) (way : Form) → ((opened link.link).first_xid ≤ xid) ⊎ IsOneOf (opened link.link).resumed xid other way → (other ≡ call) × (way ≡ form)
    by_submit other way (inr one) = again other way one
    by_submit other way (inl new) = absurd (omega (arith, below, new))

pub same_call : (opened : ℕ → LinkParameters) (run : List Mark) (first : ℕ) (before rest : List Mark) (call : Call) (form : Form) (xid : ℕ) → run ≡ before ++ marks.Submit first call form (submissions.Accepted xid) ∷ rest
    → (link : BegunLink) (links : List BegunLink) → AllByRecursion (LinkKeeps opened run) (link ∷ links) → GoesOn opened run first link links → SameCall opened run link.link xid call form
same_call opened run first before rest call form xid is link [] (keeps, none) e = record {
  resumed = λ other way one. by_first other way one (new_or_again (opened link.link) link.link before call form xid accepted);
  submitted = λ early others other way there. same_submit (opened link.link) link.link run early before others rest other call way form xid keeps.asked there here;
}
  where
    here : run ≡ before ++ marks.Submit link.link call form (submissions.Accepted xid) ∷ rest
    here = is ∙ ap (λ (l : ℕ). before ++ marks.Submit l call form (submissions.Accepted xid) ∷ rest) (sym e)

    accepted : IsAccepted (opened link.link) link.link before call form xid
    accepted = at_mark (AskedMark IsPrefixOf (opened link.link) link.link) run before (marks.Submit link.link call form (submissions.Accepted xid)) rest here keeps.asked refl

    by_first : (other : Call) (way : Form) → IsOneOf (opened link.link).resumed xid other way → ((opened link.link).first_xid ≤ xid) ⊎ IsOneOf (opened link.link).resumed xid call form → (other ≡ call) × (way ≡ form)
    by_first other way one (inl first) = absurd (let below = resumed_below (opened link.link) xid other way keeps.opens one in omega (arith, below, first))
    by_first other way one (inr own) = resumed_each (opened link.link) xid other call way form keeps.opens one own
same_call opened run first before rest call form xid is link (old ∷ links) (keeps, others) (n, g) =
    same_next opened run xid call form link old keeps n (xid_below opened run first before rest call form xid is link old links others (n, g)) (same_call opened run first before rest call form xid is old links others g)

-- ---- Each link of a chain is one that the last link goes on from

pub each_earlier : (opened : ℕ → LinkParameters) (run : List Mark) (first : ℕ) (link : BegunLink) (links : List BegunLink) (Q : BegunLink → Type 0) → GoesOn opened run first link links
    → ((earlier : BegunLink) (part : List BegunLink) → GoesOn opened run earlier.link link part → Q earlier) → AllByRecursion Q links
each_earlier opened run first link [] Q g f = tt
each_earlier opened run first link (old ∷ links) Q (n, g) f =
    (f old (old ∷ []) (n, refl), each_earlier opened run first old links Q g (λ earlier part h. f earlier (old ∷ part) (n, h)))

-- ---- The client of a link that was left submits no call after that

pub record LeftBy (opened : ℕ → LinkParameters) (run : List Mark) (first : ℕ) (began : List Mark) : Type 0 where
  pub next : LinkParameters
  pub cut : List Mark
  pub rest : List Mark
  pub is : began ≡ cut ++ rest
  pub left : IsReopened (opened first) next first run cut

pub left_by : (opened : ℕ → LinkParameters) (run : List Mark) (first : ℕ) (link old : BegunLink) (links : List BegunLink) → GoesOn opened run first link (old ∷ links) → LeftBy opened run first link.began
left_by opened run first link old [] (n, e) = record {
  next = opened link.link;
  cut = link.began;
  rest = [];
  is = sym (append-nil link.began);
  left = subst (λ (l : ℕ). IsReopened (opened l) (opened link.link) l run link.began) e n.reopened;
}
left_by opened run first link old (older ∷ links) (n, g) =
    let h = left_by opened run first old older links g in
    record { next = h.next; cut = h.cut; rest = h.rest ++ n.gap; is = n.later ∙ ap (λ (r : List Mark). r ++ n.gap) h.is ∙ append_assoc h.cut h.rest n.gap; left = h.left }
