-- The links of a client in a drill: each goes on from the one before, on which nothing more happens then.
use Rattle.std.specs.Prelude.{◌-◌, ◌||◌, ◌&&◌, ◌==◌, slice_index_or, if◌then◌else◌}
use Rattle.std.proofs.Common.{◌≡◌, ◌≢◌, ℕ, zero, suc, ◌+◌, ◌≤◌, ◌<◌, arith, cond, eqb, eqb-true, Bool, true, false, List, [], ◌∷◌, ◌++◌, length, None, refl, sym, ap, subst, ◌∙◌, append_assoc, append-nil, length-append, ◌⊎◌, inl, inr}
use Rattle.std.proofs.lemmas.Bool.{eq-eqb}
use Rattle.std.proofs.lemmas.List.{get_or-set_other}
use Rattle.nr_wire.specs.declared.hello.Side.{Side}
use Rattle.nr_wire.specs.declared.hello.Side.TheVariants.{Initiator, Responder}
use Rattle.nr_link.specs.Frames.{frames_of}
use Rattle.nr_reduce.specs.declared.mark.Mark.{Mark}
use Rattle.nr_reduce.specs.declared.mark.Mark.TheVariants as marks
use Rattle.nr_reduce.specs.declared.mark.LinkParameters.{LinkParameters}
use Rattle.nr_reduce.specs.Limits.{numbers_end}
use Rattle.nr_reduce.specs.Opening.{IsFirstLink}
use Rattle.nr_reduce.specs.ClientState.{stag_after}
use Rattle.nr_reduce.specs.Events.{RunEvent, events}
use Rattle.nr_reduce.specs.History.{abandons, is_abandoned, is_drop_of, is_dropped}
use Rattle.nr_reduce.specs.Reopening.{reopened}
use Rattle.nr_reduce.specs.Run.{client}
use Rattle.nr_reduce.proofs.Steps.{events_one}
use Rattle.nr_laws.proofs.DistinctKeys.{any_append}
use Rattle.nr_laws.proofs.Brought.{frames_in, events_frames}
use Rattle.nr_laws.specs.OnceEach.{HasNotBegun, IsNextLink}
use Rattle.nr_texts.specs.declared.opening.Opening.{Opening}
use Rattle.nr_script.specs.Limits.{lines_max}
use Rattle.nr_script.specs.Script.{ScriptLines, IsScript}
use Rattle.nr_drill.specs.Drill.{SerialServer, link_of, Setting, Drill, IsLink, client_of, last_link, setting_now, after_opening, after_leaving}
use Rattle.nr_drill.specs.Follows.{Follows, setting_of, opened_drill}
use Rattle.nr_drill.specs.InBytes.{RepliedInBytes}
use Rattle.nr_drill.specs.Unnumbered.{Heard}
use Rattle.nr_drill.proofs.Followed.{Extends, apart, no_event, same_setting, opening_adds}
use Rattle.nr_drill.proofs.Actions.{after_action, IsLastOf, IsKept, AnyRaw, lines_kept, lines_of, all_act}
use Rattle.nr_drill.proofs.Links.{DrillHolds, NoMarkOf, both_all, map_all, action_extends}
use Rattle.nr_drill.proofs.BegunLinks.{Holds, IsBegun, begun_drill, next_link, begins_so, next_stags, holds_kept, counted_most, replied_before, index_map, index_range, first_owner, open_drill, opened_count, first_then}

-- ===== marks of other links

-- such marks are no events of a link, and give up none of its calls
pub none_happens : (link : ℕ) (side : Side) (run more : List Mark) → NoMarkOf link more → events link side (run ++ more) ≡ events link side run
none_happens link side run [] none = ap (λ (r : List Mark). events link side r) (append-nil run)
none_happens link side run (mark ∷ more) none =
    ap (λ (r : List Mark). events link side r) (sym (append_assoc run (mark ∷ []) more)) ∙ none_happens link side (run ++ mark ∷ []) more none.1
    ∙ events_one link side run mark ∙ ap (λ (es : List RunEvent). events link side run ++ es) (no_event link side run mark none.0) ∙ append-nil (events link side run)

pub none_begun : (link : ℕ) (run : List Mark) → NoMarkOf link run → HasNotBegun link run
unfolding events
none_begun link run none = (none_happens link Initiator [] run none, none_happens link Responder [] run none)

gives_up_other : (link xid : ℕ) (mark : Mark) → link_of mark ≢ link → abandons link xid mark ≡ false
gives_up_other link xid (marks.Submit l call form answer) ne = refl
gives_up_other link xid (marks.Wrote l side bytes) ne = refl
gives_up_other link xid (marks.Fed l side bytes) ne = refl
gives_up_other link xid (marks.Execute l x moment payload place reply) ne = refl
gives_up_other link xid (marks.Done l x outcome) ne = refl
gives_up_other link xid (marks.Lost l x) ne = ap (λ (b : Bool). b && eqb x xid) (apart l link ne)
gives_up_other link xid (marks.Forget l x) ne = ap (λ (b : Bool). b && eqb x xid) (apart l link ne)
gives_up_other link xid (marks.Revoke l x bytes) ne = ap (λ (b : Bool). b && eqb x xid) (apart l link ne)
gives_up_other link xid (marks.Drop l) ne = refl
gives_up_other link xid (marks.Told l what) ne = refl

none_given_up : (link xid : ℕ) (more : List Mark) → NoMarkOf link more → is_abandoned link xid more ≡ false
none_given_up link xid [] none = refl
none_given_up link xid (mark ∷ more) none = ap (λ (b : Bool). b || is_abandoned link xid more) (gives_up_other link xid mark none.0) ∙ none_given_up link xid more none.1

or_false : (b c : Bool) → (b || c) ≡ true → c ≡ false → b ≡ true
or_false true c e none = refl
or_false false c e none = absurd (let wrong : true ≡ false = sym e ∙ none in cc)

-- ===== a link goes on from an older one

-- the older one was left after the marks `began`, and nothing happened on it since
pub record StepsOn (opened : ℕ → LinkParameters) (run : List Mark) (old link : ℕ) (began : List Mark) : Type 0 where
  pub after : List Mark
  pub is_cut : run ≡ began ++ after
  pub quiet : NoMarkOf old after
  pub numbered : (opened old).client.number ≢ 0
  pub stays : (client (opened old) old began).ended ≡ None
  pub next : opened link ≡ reopened (opened old) old began
  pub stags : stag_after (opened link).first_stag (opened link).resumed ≤ numbers_end
  pub fresh : NoMarkOf link began

step_extends : (opened : ℕ → LinkParameters) (run more : List Mark) (old link : ℕ) (began : List Mark) → NoMarkOf old more → StepsOn opened run old link began → StepsOn opened (run ++ more) old link began
step_extends opened run more old link began none h = record {
  after = h.after ++ more;
  is_cut = ap (λ (r : List Mark). r ++ more) h.is_cut ∙ append_assoc began h.after more;
  quiet = both_all (λ (mark : Mark). link_of mark ≢ old) h.after more h.quiet none;
  numbered = h.numbered;
  stays = h.stays;
  next = h.next;
  stags = h.stags;
  fresh = h.fresh;
}

step_same : (opened now : ℕ → LinkParameters) (run : List Mark) (old link : ℕ) (began : List Mark) → now old ≡ opened old → now link ≡ opened link → StepsOn opened run old link began → StepsOn now run old link began
step_same opened now run old link began old_is link_is h = record {
  after = h.after;
  is_cut = h.is_cut;
  quiet = h.quiet;
  numbered = subst (λ (o : LinkParameters). o.client.number ≢ 0) (sym old_is) h.numbered;
  stays = subst (λ (o : LinkParameters). (client o old began).ended ≡ None) (sym old_is) h.stays;
  next = link_is ∙ h.next ∙ ap (λ (o : LinkParameters). reopened o old began) (sym old_is);
  stags = subst (λ (o : LinkParameters). stag_after o.first_stag o.resumed ≤ numbers_end) (sym link_is) h.stags;
  fresh = h.fresh;
}

-- as the laws say it
pub step_is_next : (opened : ℕ → LinkParameters) (run : List Mark) (old link : ℕ) (old_began began gap : List Mark) → began ≡ old_began ++ gap → StepsOn opened run old link began →
    IsNextLink opened run (record { link = old; began = old_began }) (record { link = link; began = began })
step_is_next opened run old link old_began began gap later h = record {
  gap = gap;
  later = later;
  reopened = record {
    after = h.after;
    is_cut = h.is_cut;
    numbered = h.numbered;
    stays = h.stays;
    late = [];
    left = ap (λ (r : List Mark). events old Initiator r) h.is_cut ∙ none_happens old Initiator began h.after h.quiet ∙ sym (append-nil (events old Initiator began));
    harmless = tt;
    given_up = λ xid e. inl (or_false (is_abandoned old xid began) (is_abandoned old xid h.after)
        (sym (any_append (abandons old xid) began h.after) ∙ ap (λ (r : List Mark). is_abandoned old xid r) (sym h.is_cut) ∙ e) (none_given_up old xid h.after h.quiet));
    next = h.next;
    stags = h.stags;
  };
  fresh = none_begun link began h.fresh;
}

still_dropped : (link : ℕ) (run more : List Mark) → is_dropped link run ≡ true → is_dropped link (run ++ more) ≡ true
still_dropped link run more e = any_append (is_drop_of link) run more ∙ ap (λ (b : Bool). b || is_dropped link more) e

-- ===== the links of a drill

abbrev pub IsIn : (links link : ℕ) → Type 0
IsIn links link = (1 ≤ link) × (link ≤ links)

abbrev last_in : List ℕ → ℕ → ℕ
last_in lasts client = slice_index_or lasts (client - 1) client

-- which link each one goes on from, and after which marks it began; the first links of the clients go on from none
pub record LinksInOrder (t : Setting) (clients links : ℕ) (lasts : List ℕ) (run : List Mark) : Type 0 where
  pub began : ℕ → List Mark
  pub before : ℕ → ℕ
  pub many : clients ≤ links
  pub firsts : (link : ℕ) → IsIn links link → link ≤ clients → (client_of t link ≡ link) × (began link ≡ []) × IsFirstLink (t.opened link)
  pub steps : (link : ℕ) → IsIn links link → clients < link → StepsOn t.opened run (before link) link (began link)
  pub older : (link : ℕ) → IsIn links link → clients < link → IsIn links (before link) × (before link < link) × (client_of t (before link) ≡ client_of t link)
  pub follows : (link : ℕ) → IsIn links link → clients < link → (gap : List Mark) × (began link ≡ began (before link) ++ gap)
  pub between : (link other : ℕ) → IsIn links link → IsIn links other → clients < other → link < other → client_of t link ≡ client_of t other → link ≤ before other
  pub wrote : (link other : ℕ) → IsIn links link → IsIn links other → clients < other → link < other → events link Initiator (began other) ≢ []
  pub owners : (link : ℕ) → IsIn links link → (1 ≤ client_of t link) × (client_of t link ≤ clients)
  pub last : (link : ℕ) → IsIn links link → link ≤ last_in lasts (client_of t link)
  pub gone : (link : ℕ) → IsIn links link → link ≢ last_in lasts (client_of t link) → is_dropped link run ≡ true

abbrev pub InOrder : Setting → ℕ → Drill → Type 0
InOrder t clients d = LinksInOrder t clients (length d.opened) d.last_links d.marks

-- marks of the last link of a client leave this
order_extends : (t : Setting) (clients c acted : ℕ) (old new : Drill) → Extends acted old new → client_of t acted ≡ c → acted ≡ last_link c old → InOrder t clients old → InOrder t clients new
order_extends t clients c acted old new x owner last h =
    subst (λ (ls : List ℕ). LinksInOrder t clients (length new.opened) ls new.marks) (sym x.last_links)
    (subst (λ (os : List LinkParameters). LinksInOrder t clients (length os) old.last_links new.marks) (sym x.opened)
    (subst (λ (run : List Mark). LinksInOrder t clients (length old.opened) old.last_links run) (sym x.marks.is) longer))
  where
    -- an older link isn't the last one
    left : (link : ℕ) → IsLink old link → clients < link → acted ≡ h.before link → ⊥
    left link is more same =
        let o = h.older link is more in
        let owned : client_of t link ≡ c = sym o.2 ∙ ap (client_of t) (sym same) ∙ owner in
        let high : link ≤ last_link c old = subst (λ (n : ℕ). link ≤ last_in old.last_links n) owned (h.last link is) in
        let low = o.1 in
        omega (arith, same, low, high, last)

    longer : LinksInOrder t clients (length old.opened) old.last_links (old.marks ++ x.marks.added)
    longer = record {
      began = h.began;
      before = h.before;
      many = h.many;
      firsts = h.firsts;
      steps = λ link is more.
          step_extends t.opened old.marks x.marks.added (h.before link) link (h.began link)
          (map_all (λ (mark : Mark). link_of mark ≡ acted) (λ (mark : Mark). link_of mark ≢ h.before link) x.marks.added (λ mark own same. left link is more (sym own ∙ same)) x.marks.own)
          (h.steps link is more);
      older = h.older;
      follows = h.follows;
      between = h.between;
      wrote = h.wrote;
      owners = h.owners;
      last = h.last;
      gone = λ link is ne. still_dropped link old.marks x.marks.added (h.gone link is ne);
    }

-- ===== a link begins

-- one more value of a function
pick : {X : Type 0} → ℕ → X → (ℕ → X) → ℕ → X
pick next x f link = cond (eqb link next) x (f link)

pick_new : {X : Type 0} (next : ℕ) (x : X) (f : ℕ → X) → pick next x f next ≡ x
unfolding pick
pick_new next x f = ap (λ (b : Bool). cond b x (f next)) (eq-eqb next next refl)

pick_old : {X : Type 0} (next : ℕ) (x : X) (f : ℕ → X) (link : ℕ) → link ≢ next → pick next x f link ≡ f link
unfolding pick
pick_old next x f link ne = ap (λ (b : Bool). cond b x (f link)) (apart link next ne)

pub le_or : (a b : ℕ) → (a ≤ b) ⊎ (b < a)
le_or zero b = inl (omega arith)
le_or (suc a) zero = inr (omega arith)
le_or (suc a) (suc b) = up (le_or a b)
  where
    up : (a ≤ b) ⊎ (b < a) → (suc a ≤ suc b) ⊎ (suc b < suc a)
    up (inl l) = inl (omega (arith, l))
    up (inr l) = inr (omega (arith, l))

-- each side heard the other, so the client had an event
pub some_event : (o : LinkParameters) (link : ℕ) (run : List Mark) → Heard o link run → events link Initiator run ≢ []
unfolding frames_of
some_event o link run h none =
    h.client (sym (events_frames link Initiator run) ∙ ap (λ (es : List RunEvent). frames_in es) none)

module _ (s : Setting) (opening : Opening) (n c link : ℕ) (d : Drill) (last : IsLastOf opening.clients c link d) (b : IsBegun s c link d) (held : DrillHolds s opening n d) (numbered : opening.numbered ≡ true)
    (stays : (client ((setting_now s d).opened link) link d.marks).ended ≡ None)
    (stags : stag_after (reopened ((setting_now s d).opened link) link d.marks).first_stag (reopened ((setting_now s d).opened link) link d.marks).resumed ≤ numbers_end)
    (left : is_dropped link d.marks ≡ true) (h : InOrder (setting_now s d) opening.clients d) where
  abbrev t : Setting
  t = setting_now s d

  abbrev clients : ℕ
  clients = opening.clients

  abbrev begun : Drill
  begun = begun_drill s c link d

  abbrev u : Setting
  u = setting_now s begun

  abbrev next : ℕ
  next = next_link d

  here : IsLink d link × (client_of t link ≡ c)
  here = held.frame.owned c link last

  same_owner : (l : ℕ) → IsLink d l → client_of u l ≡ client_of t l
  same_owner l is = ap (λ (o : LinkParameters). if o.client.number == 0 then l else o.client.number) (b.old_link l is)

  above : (l : ℕ) → IsLink d l → l < next
  above l is = (let few = is.1 in let same = held.frame.pipes in omega (arith, few, same))

  old_one : (l : ℕ) → IsLink d l → l ≢ next
  old_one l is same = (let lt = above l is in omega (arith, lt, same))

  still : (l : ℕ) → IsLink d l → IsLink begun l
  still l is = (is.0, (let few = is.1 in let more = length-append d.opened (reopened (t.opened link) link d.marks ∷ []) in omega (arith, few, more)))

  high : clients < next
  high = (let many = h.many in let same = held.frame.pipes in omega (arith, many, same))

  -- the new link, or an old one
  each : (l : ℕ) → IsLink begun l → (l ≡ next) ⊎ IsLink d l
  each l is = by (eqb l next) refl
    where
      by : (e : Bool) → eqb l next ≡ e → (l ≡ next) ⊎ IsLink d l
      by true e = inl (eqb-true l next e)
      by false e = inr (b.was_link l (λ same. absurd (let wrong : true ≡ false = sym (eq-eqb l next same) ∙ e in cc)) is)

  abbrev began : ℕ → List Mark
  began = pick next d.marks h.began

  abbrev before : ℕ → ℕ
  before = pick next link h.before

  began_new : began next ≡ d.marks
  began_new = pick_new next d.marks h.began

  before_new : before next ≡ link
  before_new = pick_new next link h.before

  began_old : (l : ℕ) → IsLink d l → began l ≡ h.began l
  began_old l is = pick_old next d.marks h.began l (old_one l is)

  before_old : (l : ℕ) → IsLink d l → before l ≡ h.before l
  before_old l is = pick_old next link h.before l (old_one l is)

  new_step : StepsOn u.opened d.marks (before next) next (began next)
  new_step =
      subst (λ (m : ℕ). StepsOn u.opened d.marks m next (began next)) (sym before_new)
      (subst (λ (r : List Mark). StepsOn u.opened d.marks link next r) (sym began_new) (record {
        after = [];
        is_cut = sym (append-nil d.marks);
        quiet = tt;
        numbered = subst (λ (o : LinkParameters). o.client.number ≢ 0) (sym (b.old_link link here.0)) ((held.links link here.0).terms.numbered numbered);
        stays = subst (λ (o : LinkParameters). (client o link d.marks).ended ≡ None) (sym (b.old_link link here.0)) stays;
        next = b.new_link ∙ ap (λ (o : LinkParameters). reopened o link d.marks) (sym (b.old_link link here.0));
        stags = subst (λ (o : LinkParameters). stag_after o.first_stag o.resumed ≤ numbers_end) (sym b.new_link) stags;
        fresh = b.apart;
      }))

  old_step : (l : ℕ) → IsLink d l → clients < l → StepsOn u.opened d.marks (before l) l (began l)
  old_step l is more =
      subst (λ (m : ℕ). StepsOn u.opened d.marks m l (began l)) (sym (before_old l is))
      (subst (λ (r : List Mark). StepsOn u.opened d.marks (h.before l) l r) (sym (began_old l is))
      (step_same t.opened u.opened d.marks (h.before l) l (h.began l) (b.old_link (h.before l) (h.older l is more).0) (b.old_link l is) (h.steps l is more)))

  -- all that happened before is what came since a link began
  since : (l : ℕ) → IsLink d l → (gap : List Mark) × (d.marks ≡ h.began l ++ gap)
  since l is = by (le_or l clients)
    where
      by : (l ≤ clients) ⊎ (clients < l) → (gap : List Mark) × (d.marks ≡ h.began l ++ gap)
      by (inl few) = (d.marks, ap (λ (r : List Mark). r ++ d.marks) (sym (h.firsts l is few).1))
      by (inr more) = (let st = h.steps l is more in (st.after, st.is_cut))

  last_is : (l : ℕ) → IsLink d l → l ≤ last_in begun.last_links (client_of t l)
  last_is l is = by (eqb (client_of t l) c) refl
    where
      by : (e : Bool) → eqb (client_of t l) c ≡ e → l ≤ last_in begun.last_links (client_of t l)
      by true e =
          let own = eqb-true (client_of t l) c e in
          subst (λ (m : ℕ). l ≤ last_in begun.last_links m) (sym own) (let top = b.is_last in let lt = above l is in omega (arith, top, lt))
      by false e =
          let ne : client_of t l ≢ c = (λ same. absurd (let wrong : true ≡ false = sym (eq-eqb (client_of t l) c same) ∙ e in cc)) in
          let low = last.low in
          let some = (h.owners l is).0 in
          subst (λ (m : ℕ). l ≤ m) (sym (get_or-set_other d.last_links (c - 1) (client_of t l - 1) next (client_of t l) (λ same. ne (omega (arith, same, low, some))))) (h.last l is)

  pub order_begun : InOrder u clients begun
  order_begun = record {
    began = began;
    before = before;
    many = (let many = h.many in let more = length-append d.opened (reopened (t.opened link) link d.marks ∷ []) in omega (arith, many, more));
    firsts = λ l is few. firsts_of l is few (each l is);
    steps = λ l is more. steps_of l more (each l is);
    older = λ l is more. older_of l more (each l is);
    follows = λ l is more. follows_of l more (each l is);
    between = λ l other is other_is more lt same. between_of l other more lt same (each l is) (each other other_is);
    wrote = λ l other is other_is more lt. wrote_of l other more lt (each l is) (each other other_is);
    owners = λ l is. owners_of l (each l is);
    last = λ l is. last_of l (each l is);
    gone = λ l is ne. gone_of l ne (each l is);
  }
    where
      firsts_of : (l : ℕ) → IsLink begun l → l ≤ clients → (l ≡ next) ⊎ IsLink d l → (client_of u l ≡ l) × (began l ≡ []) × IsFirstLink (u.opened l)
      firsts_of l is few (inl same) = absurd (let more = high in omega (arith, few, same, more))
      firsts_of l is few (inr was) = (same_owner l was ∙ (h.firsts l was few).0, began_old l was ∙ (h.firsts l was few).1, subst IsFirstLink (sym (b.old_link l was)) (h.firsts l was few).2)

      steps_of : (l : ℕ) → clients < l → (l ≡ next) ⊎ IsLink d l → StepsOn u.opened d.marks (before l) l (began l)
      steps_of l more (inl same) = subst (λ (m : ℕ). StepsOn u.opened d.marks (before m) m (began m)) (sym same) new_step
      steps_of l more (inr was) = old_step l was more

      older_of : (l : ℕ) → clients < l → (l ≡ next) ⊎ IsLink d l → IsLink begun (before l) × (before l < l) × (client_of u (before l) ≡ client_of u l)
      older_of l more (inl same) =
          subst (λ (m : ℕ). IsLink begun (before m) × (before m < m) × (client_of u (before m) ≡ client_of u m)) (sym same)
          (subst (λ (m : ℕ). IsLink begun m × (m < next) × (client_of u m ≡ client_of u next)) (sym before_new)
          (still link here.0, above link here.0, same_owner link here.0 ∙ here.1 ∙ sym b.owner))
      older_of l more (inr was) =
          let o = h.older l was more in
          subst (λ (m : ℕ). IsLink begun m × (m < l) × (client_of u m ≡ client_of u l)) (sym (before_old l was))
          (still (h.before l) o.0, o.1, same_owner (h.before l) o.0 ∙ o.2 ∙ sym (same_owner l was))

      follows_of : (l : ℕ) → clients < l → (l ≡ next) ⊎ IsLink d l → (gap : List Mark) × (began l ≡ began (before l) ++ gap)
      follows_of l more (inl same) =
          let p = since link here.0 in
          subst (λ (m : ℕ). (gap : List Mark) × (began m ≡ began (before m) ++ gap)) (sym same)
          (p.0, began_new ∙ p.1 ∙ ap (λ (r : List Mark). r ++ p.0) (sym (ap began before_new ∙ began_old link here.0)))
      follows_of l more (inr was) =
          let p = h.follows l was more in
          (p.0, began_old l was ∙ p.1 ∙ ap (λ (r : List Mark). r ++ p.0) (sym (ap began (before_old l was) ∙ began_old (h.before l) (h.older l was more).0)))

      between_of : (l other : ℕ) → clients < other → l < other → client_of u l ≡ client_of u other → (l ≡ next) ⊎ IsLink d l → (other ≡ next) ⊎ IsLink d other → l ≤ before other
      between_of l other more lt same (inl new) (inl other_new) = absurd (omega (arith, lt, new, other_new))
      between_of l other more lt same (inl new) (inr other_was) = absurd (let low = above other other_was in omega (arith, lt, new, low))
      between_of l other more lt same (inr was) (inl other_new) =
          let owned : client_of t l ≡ c = sym (same_owner l was) ∙ same ∙ ap (client_of u) other_new ∙ b.owner in
          let at_most : l ≤ last_link c d = subst (λ (m : ℕ). l ≤ last_in d.last_links m) owned (h.last l was) in
          let is : before other ≡ link = ap before other_new ∙ before_new in
          let own = last.is in
          omega (arith, at_most, is, own)
      between_of l other more lt same (inr was) (inr other_was) =
          subst (λ (m : ℕ). l ≤ m) (sym (before_old other other_was)) (h.between l other was other_was more lt (sym (same_owner l was) ∙ same ∙ same_owner other other_was))

      wrote_of : (l other : ℕ) → clients < other → l < other → (l ≡ next) ⊎ IsLink d l → (other ≡ next) ⊎ IsLink d other → events l Initiator (began other) ≢ []
      wrote_of l other more lt (inl new) (inl other_new) = absurd (omega (arith, lt, new, other_new))
      wrote_of l other more lt (inl new) (inr other_was) = absurd (let low = above other other_was in omega (arith, lt, new, low))
      wrote_of l other more lt (inr was) (inl other_new) =
          subst (λ (r : List Mark). events l Initiator r ≢ []) (sym (ap began other_new ∙ began_new)) (some_event (t.opened l) l d.marks (held.links l was).heard)
      wrote_of l other more lt (inr was) (inr other_was) = subst (λ (r : List Mark). events l Initiator r ≢ []) (sym (began_old other other_was)) (h.wrote l other was other_was more lt)

      owners_of : (l : ℕ) → (l ≡ next) ⊎ IsLink d l → (1 ≤ client_of u l) × (client_of u l ≤ clients)
      owners_of l (inl same) = subst (λ (m : ℕ). (1 ≤ m) × (m ≤ clients)) (sym (ap (client_of u) same ∙ b.owner)) (last.low, last.high)
      owners_of l (inr was) = subst (λ (m : ℕ). (1 ≤ m) × (m ≤ clients)) (sym (same_owner l was)) (h.owners l was)

      gone_of : (l : ℕ) → l ≢ last_in begun.last_links (client_of u l) → (l ≡ next) ⊎ IsLink d l → is_dropped l d.marks ≡ true
      gone_of l ne (inl same) = absurd (ne (same ∙ sym b.is_last ∙ ap (last_in begun.last_links) (sym (ap (client_of u) same ∙ b.owner))))
      gone_of l ne (inr was) = by (eqb link l) refl
        where
          by : (e : Bool) → eqb link l ≡ e → is_dropped l d.marks ≡ true
          by true e = subst (λ (m : ℕ). is_dropped m d.marks ≡ true) (eqb-true link l e) left
          by false e = h.gone l was (λ at. was_last at (eqb (client_of t l) c) refl)
            where
              was_last : l ≡ last_in d.last_links (client_of t l) → (f : Bool) → eqb (client_of t l) c ≡ f → ⊥
              was_last at true own = absurd (let wrong : true ≡ false = sym (eq-eqb link l (last.is ∙ ap (last_in d.last_links) (sym (eqb-true (client_of t l) c own)) ∙ sym at)) ∙ e in cc)
              was_last at false own =
                  let other : client_of t l ≢ c = (λ same. absurd (let wrong : true ≡ false = sym (eq-eqb (client_of t l) c same) ∙ own in cc)) in
                  let low = last.low in
                  let some = (h.owners l was).0 in
                  ne (at ∙ sym (get_or-set_other d.last_links (c - 1) (client_of t l - 1) next (client_of t l) (λ same. other (omega (arith, same, low, some)))) ∙ ap (last_in begun.last_links) (sym (same_owner l was)))

      last_of : (l : ℕ) → (l ≡ next) ⊎ IsLink d l → l ≤ last_in begun.last_links (client_of u l)
      last_of l (inl same) =
          subst (λ (m : ℕ). m ≤ last_in begun.last_links (client_of u m)) (sym same)
          (subst (λ (m : ℕ). next ≤ last_in begun.last_links m) (sym b.owner) (let top = b.is_last in omega (arith, top)))
      last_of l (inr was) = subst (λ (m : ℕ). l ≤ last_in begun.last_links m) (sym (same_owner l was)) (last_is l was)

  order_begins : InOrder u clients (after_opening u next begun)
  order_begins = order_extends u clients c next begun (after_opening u next begun) (opening_adds u next begun) b.owner (sym b.is_last) order_begun

  order_left : InOrder (setting_now s (after_leaving s c link d)) clients (after_leaving s c link d)
  order_left =
      let whole : InOrder u clients (after_opening u (last_link c begun) begun) = subst (λ (l : ℕ). InOrder u clients (after_opening u l begun)) (sym b.is_last) order_begins in
      let x = opening_adds u (last_link c begun) begun in
      subst (λ (v : Setting). InOrder v clients (after_leaving s c link d)) (sym (same_setting s begun (after_leaving s c link d) (record { opened = x.opened; last_links = x.last_links }))) whole

-- ===== all lines

abbrev pub OrderThen : Setting → Opening → ℕ → Drill → Type 0
OrderThen s opening n d = Holds s opening n d × (n ≤ lines_max → RepliedInBytes d.marks → InOrder (setting_now s d) opening.clients d)

pub order_kept : (s : Setting) (opening : Opening) → IsKept s opening AnyRaw AnyRaw (OrderThen s opening)
order_kept s opening =
    let k = holds_kept s opening AnyRaw AnyRaw in
    record {
      count = λ n d p. k.count n d p.0;
      later = λ n d p. (k.later n d p.0, λ le replied. p.1 (omega (arith, le)) replied);
      credential = λ n c cred d can typed p. (k.credential n c cred d can typed p.0, λ le replied. p.1 le replied);
      time = λ n seconds d p. (k.time n seconds d p.0, λ le replied. p.1 le replied);
      action = λ n c link a d last acts may p. (
        k.action n c link a d last acts may p.0,
        λ le replied. (let most = counted_most a n in
            let fits : n ≤ lines_max = omega (arith, le, most) in
            let t = setting_now s d in
            let new = after_action t link a d in
            let x = action_extends t link a d in
            let before = replied_before link d new x replied in
            let here = (p.0.1 fits before).frame.owned c link last in
            subst (λ (v : Setting). InOrder v opening.clients new) (sym (same_setting s d new (record { opened = x.opened; last_links = x.last_links })))
            (order_extends t opening.clients c link d new x here.1 last.is (p.1 fits before))),
      );
      begins = λ n c link d last acts numbered gone stays p. (
        k.begins n c link d last acts numbered gone stays p.0,
        λ le replied. (let fits : n ≤ lines_max = omega (arith, le) in
            let begun = begun_drill s c link d in
            let before = replied_before (last_link c begun) begun (after_leaving s c link d) (opening_adds (setting_now s begun) (last_link c begun) begun) replied in
            let held = p.0.1 fits before in
            order_left s opening n c link d last (begins_so s opening n c link d le last numbered stays held) held numbered stays
            (next_stags s opening n c link d le last numbered stays held) gone (p.1 fits before)),
      );
    }

-- ===== the first links

module _ (server : SerialServer) (script : ScriptLines) (is : IsScript script) where
  abbrev first : Drill
  first = opened_drill server script.opening

  abbrev base : Setting
  base = setting_of server script.opening

  pub first_order : InOrder (setting_now base first) script.opening.clients first
  first_order = record {
    began = λ link. [];
    before = λ link. 0;
    many = (let same = all in omega (arith, same));
    firsts = λ link within few. (owner link within, refl, subst IsFirstLink (sym (now link within)) (record { resumed = refl; agreed = refl }));
    steps = λ link within more. absurd (none link within more);
    older = λ link within more. absurd (none link within more);
    follows = λ link within more. absurd (none link within more);
    between = λ link other within other_within more lt same. absurd (none other other_within more);
    wrote = λ link other within other_within more lt. absurd (none other other_within more);
    owners = λ link within. subst (λ (m : ℕ). (1 ≤ m) × (m ≤ clients)) (sym (owner link within)) (within.0, few link within);
    last = λ link within. subst (λ (m : ℕ). link ≤ last_in first.last_links m) (sym (owner link within)) (let at = own_last link within in omega (arith, at));
    gone = λ link within ne. absurd (ne (sym (ap (last_in first.last_links) (owner link within) ∙ own_last link within)));
  }
    where
      clients : ℕ
      clients = script.opening.clients

      all : length first.opened ≡ clients
      all = opened_count server script is

      few : (link : ℕ) → IsLink first link → link ≤ clients
      few link within = (let most = within.1 in let same = all in omega (arith, most, same))

      none : (link : ℕ) → IsLink first link → clients < link → ⊥
      none link within more = (let most = few link within in omega (arith, most, more))

      now : (link : ℕ) → IsLink first link → (setting_now base first).opened link ≡ base.opened link
      now link within =
          ap (λ (os : List LinkParameters). slice_index_or (base.opened 0 ∷ os) link (base.opened link)) (open_drill server script is).opened
          ∙ index_map base.opened 0 (suc clients) link link (omega arith)

      owner : (link : ℕ) → IsLink first link → client_of (setting_now base first) link ≡ link
      owner link within = ap (λ (o : LinkParameters). if o.client.number == 0 then link else o.client.number) (now link within) ∙ first_owner script.opening link

      own_last : (link : ℕ) → IsLink first link → last_link link first ≡ link
      own_last link within =
          ap (λ (ls : List ℕ). slice_index_or ls (link - 1) link) (open_drill server script is).last_links ∙ index_range 1 clients (link - 1) link (let low = within.0 in omega (arith, low))

  -- the links of every script are in order
  pub links_in_order : (run : List Mark) → RepliedInBytes run → (follows : Follows server script run) → InOrder (setting_now base follows.last) script.opening.clients follows.last
  links_in_order run replied follows =
      (lines_kept base script.opening AnyRaw AnyRaw (OrderThen base script.opening) (order_kept base script.opening) 0 (length script.lines) script.opening.clients script.lines (opened_drill server script.opening) follows.last
      (lines_of script is) (all_act script.lines) (omega arith) follows.makes (first_then server script is, λ le replied. first_order)).1 is.few_lines (subst RepliedInBytes follows.marks_are replied)
