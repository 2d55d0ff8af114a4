-- What holds of each link of a drill, and of all of them together, after any lines of a script: both ends keep their laws, each outcome that is due is
-- handed over, each side has heard the other, and the last link of a client knows the client's open calls.
use Rattle.std.specs.Prelude.{◌-◌, ◌*◌, slice_index_or}
use Rattle.std.specs.List.{AllByRecursion}
use Rattle.std.proofs.Common.{◌≡◌, ◌≢◌, ℕ, suc, ◌+◌, ◌≤◌, ◌<◌, arith, eqb, eqb-true, Bool, true, false, List, [], ◌∷◌, ◌++◌, length, refl, sym, ap, subst, ◌∙◌}
use Rattle.std.proofs.lemmas.Bool.{eq-eqb}
use Rattle.nr_wire.specs.declared.hello.Side.TheVariants.{Initiator, Responder}
use Rattle.nr_rpc.specs.declared.cred.Cred.{Cred}
use Rattle.nr_rpc.specs.declared.cred.Cred.TheVariants as creds
use Rattle.nr_rpc.specs.Credential.{CanWriteCred}
use Rattle.nr_reduce.specs.declared.mark.Mark.{Mark}
use Rattle.nr_reduce.specs.declared.mark.Mark.TheVariants as marks
use Rattle.nr_reduce.specs.declared.mark.Told.TheVariants.{Granted}
use Rattle.nr_reduce.specs.declared.mark.LinkParameters.{LinkParameters}
use Rattle.nr_reduce.specs.Limits.{credits_max}
use Rattle.nr_reduce.specs.EndRules.{EndState}
use Rattle.nr_reduce.specs.ClientState.{ClientState}
use Rattle.nr_reduce.specs.SubmitAnswer.{calls_to_resend, submit_answer_after}
use Rattle.nr_reduce.specs.History.{bytes_sent, bytes_received, is_dropped}
use Rattle.nr_reduce.specs.Opening.{IsOpened, IsResumed, lengths_before}
use Rattle.nr_reduce.specs.declared.mark.ResumedCall.{ResumedCall}
use Rattle.nr_link.specs.declared.agreement.Agreement.{Agreement}
use Rattle.nr_laws.specs.Reopened.{AgreedInRange}
use Rattle.nr_laws.proofs.WaitingCalls.{resumes_planned}
use Rattle.nr_byte_laws.specs.DueBytes.{AreInBytes}
use Rattle.nr_script.specs.Script.{IsTypedCred}
use Rattle.nr_drill.specs.InBytes.{RepliedInBytes}
use Rattle.nr_drill.proofs.TypedDrills.{IsTypedDrill, TypedIf, ResumedTyped, IsPlanned, typed_if, resumed_bytes, action_keeps_steps, with_cred_at_lem}
use Rattle.nr_reduce.specs.Run.{client}
use Rattle.nr_texts.specs.declared.opening.Opening.{Opening}
use Rattle.nr_drill.specs.Drill.{link_of, Setting, Drill, IsLink, client_of, last_link, setting_now, settled, pipes_of, empty_pipes, with_cred, with_mark, after_submit, after_opening}
use Rattle.nr_drill.specs.Unnumbered.{Heard}
use Rattle.nr_drill.proofs.Lawful.{IsLawful, IsWritten, Keeps, NoneAgain, OpenIsAwaited, lawful_submit, lawful_after_up, lawful_after_down, lawful_work, lawful_revoke}
use Rattle.nr_drill.proofs.Followed.{Extends, KeepsLinks, AreWritable, same_all, elsewhere, same_setting, cred_at, with_cred_at, submit_adds, up_adds, down_adds, work_adds, forget_adds, revoke_adds, drop_adds, raw_adds, grant_adds, keeps_drop, keeps_grant, keeps_forget, keeps_raw, opening_keeps, start_lawful, start_none}
use Rattle.nr_drill.proofs.Handed.{NoneDue, none_elsewhere, submit_hands, up_hands, down_hands, work_hands, forget_hands, revoke_hands, drop_hands, grant_hands, raw_hands, opening_hands}
use Rattle.nr_drill.proofs.Carried.{here_all, fresh_carries}
use Rattle.nr_drill.proofs.Opening.{AreTerms, start_fresh, fresh_all, heard_by_lem, opening_heard}
use Rattle.nr_drill.proofs.Greeted.{greeted_by_frames}
use Rattle.nr_drill.proofs.OpenCalls.{KnowsCalls, knows_more, open_is_awaited}
use Rattle.nr_drill.proofs.AddedMarks.{settled_by, up_by, down_by, work_by, forget_by, revoke_by, opening_by, raw_by}
use Rattle.nr_drill.proofs.StagBounds.{NextStag, TakesNone, takes_none, no_submit_if, none_taken_rules, none_added, submit_stags}
use Rattle.nr_drill.proofs.Actions.{Action, after_action, IsLastOf, MayAct, counted, AnyRaw}
use Rattle.nr_drill.proofs.Actions.Action.{SubmitCall, FeedUp, FeedDown, WorkOnce, ForgetCall, RevokeCall, DropLink, PutRaw, GrantCredits}

-- ===== a link

-- what each link of a script is opened with
pub record HasTerms (opening : Opening) (o : LinkParameters) : Type 0 where
  pub granted : o.granted ≡ opening.credits
  pub terms : AreTerms o.client
  pub numbered : opening.numbered ≡ true → o.client.number ≢ 0
  pub unnumbered : opening.numbered ≡ false → o.client.number ≡ 0

-- a link, after so many calls were submitted and links begun
pub record LinkHolds (opening : Opening) (n : ℕ) (o : LinkParameters) (link : ℕ) (run : List Mark) : Type 0 where
  pub lawful : IsLawful o link run
  pub written : IsWritten o link run
  pub none : NoneAgain o link run
  pub opened : IsOpened o
  pub few : length o.resumed ≤ credits_max
  pub heard : Heard o link run
  pub due : NoneDue o link run
  pub stags : NextStag o link run ≤ 1 + n * 192
  pub terms : HasTerms opening o
  pub agreed : AgreedInRange o
  pub again : AllByRecursion ResumedTyped o.resumed

pub link_later : (opening : Opening) (n : ℕ) (o : LinkParameters) (link : ℕ) (run : List Mark) → LinkHolds opening n o link run → LinkHolds opening (suc n) o link run
link_later opening n o link run h = record {
  lawful = h.lawful;
  written = h.written;
  none = h.none;
  opened = h.opened;
  few = h.few;
  heard = h.heard;
  due = h.due;
  stags = (let le = h.stags in omega (arith, le));
  terms = h.terms;
  agreed = h.agreed;
  again = h.again;
}

-- what its client sends again are bytes
pub link_bytes : (opening : Opening) (n : ℕ) (o : LinkParameters) (link : ℕ) (run : List Mark) → LinkHolds opening n o link run → AreInBytes Initiator o
link_bytes opening n o link run h = resumed_bytes o.resumed (each_planned (lengths_before o.agreed) o.resumed (resumes_planned o h.opened)) h.again
  where
    each_planned : (agreed : Agreement) (rs : List ResumedCall) → AllByRecursion (IsResumed agreed) rs → AllByRecursion IsPlanned rs
    each_planned agreed [] planned = tt
    each_planned agreed (r ∷ rs) planned = (planned.0.planned, each_planned agreed rs planned.1)

-- marks of another link
pub link_elsewhere : (opening : Opening) (n : ℕ) (o : LinkParameters) (link acted : ℕ) (old new : Drill) → acted ≢ link → Extends acted old new → LinkHolds opening n o link old.marks → LinkHolds opening n o link new.marks
link_elsewhere opening n o link acted old new ne x h =
    let same = elsewhere o link acted old.marks new.marks ne x.marks in
    record {
      lawful = same.lawful h.lawful;
      written = same.written h.lawful h.written;
      none = ap calls_to_resend same.same_client ∙ h.none;
      opened = h.opened;
      few = h.few;
      heard = heard_by_lem o link acted old new x h.heard;
      due = subst (NoneDue o link) (sym x.marks.is) (none_elsewhere o link acted old.marks x.marks.added ne x.marks.own h.due);
      stags = (let is = ap (λ (r : EndState ClientState). r.state.stag) same.same_client in let le = h.stags in omega (arith, is, le));
      terms = h.terms;
      agreed = h.agreed;
      again = h.again;
    }

-- ===== an action on the link itself

pub action_extends : (s : Setting) (link : ℕ) (a : Action) (d : Drill) → Extends link d (after_action s link a d)
action_extends s link (SubmitCall call form) d = submit_adds s link call form d
action_extends s link (FeedUp most) d = up_adds s link most d
action_extends s link (FeedDown most) d = down_adds s link most d
action_extends s link WorkOnce d = work_adds s link d
action_extends s link (ForgetCall number) d = forget_adds s link number d
action_extends s link (RevokeCall number) d = revoke_adds s link number d
action_extends s link DropLink d = drop_adds link d
action_extends s link (PutRaw side bytes) d = raw_adds link side bytes (is_dropped link d.marks) d
action_extends s link (GrantCredits credits) d = grant_adds link credits d

-- its STags
action_stags : (s : Setting) (link : ℕ) (a : Action) (d : Drill) (n : ℕ) → NextStag (s.opened link) link d.marks ≤ 1 + n * 192 → NextStag (s.opened link) link (after_action s link a d).marks ≤ 1 + counted a n * 192
unfolding after_submit
action_stags s link (SubmitCall call form) d n le =
    let o = s.opened link in
    let answer = submit_answer_after o link d.marks call form in
    let mid = with_mark (marks.Submit link call form answer) d in
    let one = submit_stags o link d.marks call form answer in
    let same = none_added o link mid (settled s link mid) (settled_by (TakesNone o link) s link (none_taken_rules s link).quiet mid) in
    omega (arith, one, same, le)
action_stags s link (FeedUp most) d n le = (let same = none_added (s.opened link) link d _ (up_by (TakesNone (s.opened link) link) s link (none_taken_rules s link).quiet most d) in omega (arith, same, le))
action_stags s link (FeedDown most) d n le = (let same = none_added (s.opened link) link d _ (down_by (TakesNone (s.opened link) link) s link (none_taken_rules s link).quiet most d) in omega (arith, same, le))
action_stags s link WorkOnce d n le = (let same = none_added (s.opened link) link d _ (work_by (TakesNone (s.opened link) link) s link (none_taken_rules s link) d) in omega (arith, same, le))
action_stags s link (ForgetCall number) d n le = (let same = none_added (s.opened link) link d _ (forget_by (TakesNone (s.opened link) link) s link (none_taken_rules s link) number d) in omega (arith, same, le))
action_stags s link (RevokeCall number) d n le = (let same = none_added (s.opened link) link d _ (revoke_by (TakesNone (s.opened link) link) s link (none_taken_rules s link) number d) in omega (arith, same, le))
action_stags s link DropLink d n le = (let same = takes_none (s.opened link) link d.marks (marks.Drop link) tt in omega (arith, same, le))
action_stags s link (PutRaw side bytes) d n le =
    (let same = none_added (s.opened link) link d _ (raw_by (TakesNone (s.opened link) link) link side bytes (is_dropped link d.marks) d) in omega (arith, same, le))
action_stags s link (GrantCredits credits) d n le =
    (let same = takes_none (s.opened link) link d.marks (marks.Told link (Granted credits)) (no_submit_if _ (_ ∷ []) (tt, tt)) in omega (arith, same, le))

-- its laws
abbrev LinkKeeps : Setting → ℕ → Drill → Type 0
LinkKeeps s link d = Keeps s link d × NoneDue (s.opened link) link d.marks

module _ (opening : Opening) (s : Setting) (c link n : ℕ) (d : Drill) (h : LinkHolds opening n (s.opened link) link d.marks) (awaited : OpenIsAwaited s link d) (writable : AreWritable d.creds) where
  before : Keeps s link d
  before = (h.lawful, h.written, h.none)

  own_keeps : (a : Action) → MayAct AnyRaw opening.credits c d a → LinkKeeps s link (after_action s link a d)
  own_keeps (SubmitCall call form) may =
      let greeted = greeted_by_frames (s.opened link) link d.marks h.heard.client in
      let can : CanWriteCred call.cred = subst CanWriteCred (sym may.0) (cred_at d.creds (c - 1) writable) in
      (lawful_submit s link call form d h.opened greeted can before, submit_hands s link call form d h.opened greeted can before h.due)
  own_keeps (FeedUp most) may = (lawful_after_up s link most d before, up_hands s link most d h.due)
  own_keeps (FeedDown most) may = (lawful_after_down s link most d h.opened before, down_hands s link most d)
  own_keeps WorkOnce may = (lawful_work s link d before, work_hands s link d h.due)
  own_keeps (ForgetCall number) may = (keeps_forget s link number d awaited before, forget_hands s link number d h.due)
  own_keeps (RevokeCall number) may = (lawful_revoke s link number d awaited before, revoke_hands s link number d h.due)
  own_keeps DropLink may = (keeps_drop s link d before, drop_hands s link d h.due)
  own_keeps (PutRaw side bytes) may = (keeps_raw s link side bytes (is_dropped link d.marks) d before, raw_hands s link side bytes (is_dropped link d.marks) d h.due)
  own_keeps (GrantCredits credits) may =
      let granted = h.terms.granted in
      (keeps_grant s link credits d (may.0, (let few = may.1 in omega (arith, few, granted))) before, grant_hands s link credits d h.due)

  own_holds : (a : Action) → MayAct AnyRaw opening.credits c d a → LinkHolds opening (counted a n) (s.opened link) link (after_action s link a d).marks
  own_holds a may =
      let k = own_keeps a may in
      record {
        lawful = k.0.0;
        written = k.0.1;
        none = k.0.2;
        opened = h.opened;
        few = h.few;
        heard = heard_by_lem (s.opened link) link link d (after_action s link a d) (action_extends s link a d) h.heard;
        due = k.1;
        stags = action_stags s link a d n h.stags;
        terms = h.terms;
        agreed = h.agreed;
        again = h.again;
      }

-- ===== a link that opens

abbrev pub NoMarkOf : ℕ → List Mark → Type 0
NoMarkOf link run = AllByRecursion (λ (mark : Mark). link_of mark ≢ link) run

pub none_sent : (link : ℕ) (run : List Mark) → NoMarkOf link run → (bytes_sent link Initiator run ≡ []) × (bytes_sent link Responder run ≡ []) × (bytes_received link Initiator run ≡ []) × (bytes_received link Responder run ≡ [])
unfolding bytes_sent bytes_received
none_sent link run apart = (let here = here_all link [] run apart in (here.sent Initiator, here.sent Responder, here.received Initiator, here.received Responder))

pub opens : (opening : Opening) (s : Setting) (link n : ℕ) (d : Drill) → NoMarkOf link d.marks → pipes_of link d ≡ empty_pipes → link - 1 < length d.pipes → IsOpened (s.opened link) → length (s.opened link).resumed ≤ credits_max →
    HasTerms opening (s.opened link) → AgreedInRange (s.opened link) → AllByRecursion ResumedTyped (s.opened link).resumed → NextStag (s.opened link) link [] ≤ 1 + n * 192 → LinkHolds opening n (s.opened link) link (after_opening s link d).marks
opens opening s link n d apart empty room numbers few terms agreed again le =
    let o = s.opened link in
    let fresh = same_all o link [] d.marks apart in
    let here = here_all link [] d.marks apart in
    let lawful : IsLawful o link d.marks = fresh.lawful (start_lawful o link) in
    let none : NoneAgain o link d.marks = ap calls_to_resend fresh.same_client ∙ start_none o link in
    let k = opening_keeps s link d numbers none lawful in
    let b = none_sent link d.marks apart in
    let carries = fresh_carries link d room empty b.0 b.1 b.2 b.3 (here.matched tt) in
    let same = none_added o link d (after_opening s link d) (opening_by (TakesNone o link) s link (none_taken_rules s link).quiet d) in
    let first = ap (λ (r : EndState ClientState). r.state.stag) fresh.same_client in
    record {
      lawful = k.0;
      written = k.1;
      none = k.2;
      opened = numbers;
      few = few;
      heard = opening_heard s link d terms.terms none lawful here.dropped carries (fresh_all o link [] d.marks apart (start_fresh o link));
      due = opening_hands s link d;
      stags = omega (arith, same, first, le);
      terms = terms;
      agreed = agreed;
      again = again;
    }

-- ===== all links

-- how the links of a drill are its clients', apart from what holds on each
pub record IsFrame (s : Setting) (opening : Opening) (d : Drill) : Type 0 where
  pub count : length d.last_links ≡ opening.clients
  pub pipes : length d.pipes ≡ length d.opened
  pub owned : (c link : ℕ) → IsLastOf opening.clients c link d → IsLink d link × (client_of (setting_now s d) link ≡ c)
  pub within : AllByRecursion (λ (mark : Mark). IsLink d (link_of mark)) d.marks
  pub creds : AreWritable d.creds
  pub knows : (c link : ℕ) → IsLastOf opening.clients c link d → KnowsCalls (setting_now s d) c link d.marks

pub record DrillHolds (s : Setting) (opening : Opening) (n : ℕ) (d : Drill) : Type 0 where
  pub frame : IsFrame s opening d
  pub typed : IsTypedDrill d
  pub links : (link : ℕ) → IsLink d link → LinkHolds opening n ((setting_now s d).opened link) link d.marks

pub drill_later : (s : Setting) (opening : Opening) (n : ℕ) (d : Drill) → DrillHolds s opening n d → DrillHolds s opening (suc n) d
drill_later s opening n d h = record { frame = h.frame; typed = h.typed; links = λ link is. link_later opening n ((setting_now s d).opened link) link d.marks (h.links link is) }

-- the same links
pub link_of_same : (old new : Drill) (link : ℕ) → new.opened ≡ old.opened → IsLink new link → IsLink old link
link_of_same old new link same h = (h.0, subst (λ (os : List LinkParameters). link ≤ length os) same h.1)

pub last_of_same : (clients c link : ℕ) (old new : Drill) → new.last_links ≡ old.last_links → IsLastOf clients c link new → IsLastOf clients c link old
last_of_same clients c link old new same h = record { low = h.low; high = h.high; is = h.is ∙ ap (λ (links : List ℕ). slice_index_or links (c - 1) c) same }

pub map_all : {X : Type 0} (P Q : X → Type 0) (xs : List X) → ((x : X) → P x → Q x) → AllByRecursion P xs → AllByRecursion Q xs
map_all P Q [] f h = tt
map_all P Q (x ∷ xs) f h = (f x h.0, map_all P Q xs f h.1)

pub both_all : {X : Type 0} (P : X → Type 0) (xs ys : List X) → AllByRecursion P xs → AllByRecursion P ys → AllByRecursion P (xs ++ ys)
both_all P [] ys h g = g
both_all P (x ∷ xs) ys h g = (h.0, both_all P xs ys h.1 g)

-- marks of one link are added
pub same_frame : (s : Setting) (opening : Opening) (link : ℕ) (old new : Drill) → Extends link old new → IsLink old link → ((c last : ℕ) → IsLastOf opening.clients c last old → client_of (setting_now s old) link ≡ c → link ≡ last) →
    IsFrame s opening old → IsFrame s opening new
same_frame s opening link old new x is own h =
    let keeps : KeepsLinks old new = record { opened = x.opened; last_links = x.last_links } in
    let same : setting_now s old ≡ setting_now s new = sym (same_setting s old new keeps) in
    let forth : (l : ℕ) → IsLink old l → IsLink new l = (λ l a. link_of_same new old l (sym x.opened) a) in
    record {
      count = ap (λ (ls : List ℕ). length ls) x.last_links ∙ h.count;
      pipes = x.room ∙ h.pipes ∙ ap (λ (os : List LinkParameters). length os) (sym x.opened);
      owned = λ c l last. (let o = h.owned c l (last_of_same opening.clients c l old new x.last_links last) in (forth l o.0, subst (λ (t : Setting). client_of t l ≡ c) same o.1));
      within = subst (λ (run : List Mark). AllByRecursion (λ (mark : Mark). IsLink new (link_of mark)) run) (sym x.marks.is)
          (both_all (λ (mark : Mark). IsLink new (link_of mark)) old.marks x.marks.added
          (map_all (λ (mark : Mark). IsLink old (link_of mark)) (λ (mark : Mark). IsLink new (link_of mark)) old.marks (λ mark a. forth (link_of mark) a) h.within)
          (map_all (λ (mark : Mark). link_of mark ≡ link) (λ (mark : Mark). IsLink new (link_of mark)) x.marks.added (λ mark e. subst (IsLink new) (sym e) (forth link is)) x.marks.own));
      creds = subst AreWritable (sym x.creds) h.creds;
      knows = λ c l last.
          (let old_last = last_of_same opening.clients c l old new x.last_links last in
          subst (λ (t : Setting). KnowsCalls t c l new.marks) same
          (subst (KnowsCalls (setting_now s old) c l) (sym x.marks.is)
          (knows_more (setting_now s old) c l link old.marks x.marks.added (own c l old_last) x.marks.own (h.knows c l old_last))));
    }

pub same_links : (s : Setting) (opening : Opening) (n link : ℕ) (old new : Drill) → Extends link old new → ((other : ℕ) → IsLink old other → LinkHolds opening n ((setting_now s old).opened other) other new.marks) →
    (other : ℕ) → IsLink new other → LinkHolds opening n ((setting_now s new).opened other) other new.marks
same_links s opening n link old new x links other is =
    let keeps : KeepsLinks old new = record { opened = x.opened; last_links = x.last_links } in
    subst (λ (t : Setting). LinkHolds opening n (t.opened other) other new.marks) (sym (same_setting s old new keeps)) (links other (link_of_same old new other x.opened is))

-- an action
pub own_last : (s : Setting) (opening : Opening) (c link : ℕ) (d : Drill) → IsLastOf opening.clients c link d → client_of (setting_now s d) link ≡ c → (other last : ℕ) → IsLastOf opening.clients other last d → client_of (setting_now s d) link ≡ other → link ≡ last
own_last s opening c link d is owner other last of same =
    let mine : c ≡ other = sym owner ∙ same in
    is.is ∙ ap (λ (x : ℕ). last_link x d) mine ∙ sym of.is

pub drill_acts : (s : Setting) (opening : Opening) (n c link : ℕ) (a : Action) (d : Drill) → IsLastOf opening.clients c link d → MayAct AnyRaw opening.credits c d a → RepliedInBytes (after_action (setting_now s d) link a d).marks → DrillHolds s opening n d →
    DrillHolds s opening (counted a n) (after_action (setting_now s d) link a d)
drill_acts s opening n c link a d last may replied h =
    record {
      frame = same_frame s opening link d (after_action t link a d) x here.0 (own_last s opening c link d last here.1) h.frame;
      typed = action_keeps_steps t link c opening.credits AnyRaw TypedIf (typed_if t link (link_bytes opening n (t.opened link) link d.marks own_link) own_link.again) a d h.typed.creds may (λ old. h.typed) replied;
      links = same_links s opening (counted a n) link d (after_action t link a d) x links;
    }
  where
    t : Setting
    t = setting_now s d

    x : Extends link d (after_action t link a d)
    x = action_extends t link a d

    here : IsLink d link × (client_of t link ≡ c)
    here = h.frame.owned c link last

    own_link : LinkHolds opening n (t.opened link) link d.marks
    own_link = h.links link here.0

    awaited : OpenIsAwaited t link d
    awaited = open_is_awaited t link d (subst (λ (k : ℕ). KnowsCalls t k link d.marks) (sym here.1) (h.frame.knows c link last))

    later : (a : Action) (o : LinkParameters) (l : ℕ) (run : List Mark) → LinkHolds opening n o l run → LinkHolds opening (counted a n) o l run
    later (SubmitCall call form) o l run k = link_later opening n o l run k
    later (FeedUp most) o l run k = k
    later (FeedDown most) o l run k = k
    later WorkOnce o l run k = k
    later (ForgetCall number) o l run k = k
    later (RevokeCall number) o l run k = k
    later DropLink o l run k = k
    later (PutRaw side bytes) o l run k = k
    later (GrantCredits credits) o l run k = k

    links : (other : ℕ) → IsLink d other → LinkHolds opening (counted a n) (t.opened other) other (after_action t link a d).marks
    links other is = by (eqb link other) refl
      where
        differs : false ≡ true → ⊥
        differs e = absurd cc

        by : (b : Bool) → eqb link other ≡ b → LinkHolds opening (counted a n) (t.opened other) other (after_action t link a d).marks
        by true same =
            subst (λ (l : ℕ). LinkHolds opening (counted a n) (t.opened l) l (after_action t link a d).marks) (eqb-true link other same)
            (own_holds opening t c link n d (h.links link here.0) awaited h.frame.creds a may)
        by false apart =
            later a (t.opened other) other (after_action t link a d).marks
            (link_elsewhere opening n (t.opened other) other link d (after_action t link a d) (λ same. differs (sym apart ∙ eq-eqb link other same)) x (h.links other is))

-- a credential, and the clock
pub drill_credential : (s : Setting) (opening : Opening) (n c : ℕ) (cred : Cred) (d : Drill) → CanWriteCred cred → IsTypedCred cred → DrillHolds s opening n d → DrillHolds s opening n (with_cred c cred d)
drill_credential s opening n c cred d can typed h =
    let f = h.frame in
    record {
      frame = record {
        count = f.count;
        pipes = f.pipes;
        owned = λ o l last. f.owned o l (last_of_same opening.clients o l d (with_cred c cred d) refl last);
        within = f.within;
        creds = with_cred_at d.creds (c - 1) cred f.creds can;
        knows = λ o l last. f.knows o l (last_of_same opening.clients o l d (with_cred c cred d) refl last);
      };
      typed = record { typed = h.typed.typed; pipes = h.typed.pipes; creds = with_cred_at_lem d.creds (c - 1) cred h.typed.creds typed };
      links = h.links;
    }

pub drill_time : (s : Setting) (opening : Opening) (n seconds : ℕ) (d : Drill) → DrillHolds s opening n d → DrillHolds s opening n (record d { seconds = d.seconds + seconds })
drill_time s opening n seconds d h =
    let f = h.frame in
    let new : Drill = record d { seconds = d.seconds + seconds } in
    record {
      frame = record {
        count = f.count;
        pipes = f.pipes;
        owned = λ c l last. f.owned c l (last_of_same opening.clients c l d new refl last);
        within = f.within;
        creds = f.creds;
        knows = λ c l last. f.knows c l (last_of_same opening.clients c l d new refl last);
      };
      typed = record { typed = h.typed.typed; pipes = h.typed.pipes; creds = h.typed.creds };
      links = h.links;
    }
