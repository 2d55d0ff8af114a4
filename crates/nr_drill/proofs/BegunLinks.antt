-- A client leaves its link and begins the next one, which holds as each other does. So all links hold after all lines of a script.
use Rattle.std.specs.Prelude.{◌-◌, ◌*◌, ◌==◌, if◌then◌else◌, map, slice_index_or}
use Rattle.std.specs.List.{AllByRecursion, range_with_len}
use Rattle.std.proofs.Common.{◌≡◌, ◌≢◌, ℕ, zero, suc, ◌+◌, ◌≤◌, ◌<◌, ◌^◌, arith, eqb, eqb-true, Bool, true, false, cond, List, [], ◌∷◌, ◌++◌, length, None, refl, sym, ap, subst, ◌∙◌, length-append}
use Rattle.std.proofs.lemmas.Bool.{eq-eqb}
use Rattle.std.proofs.lemmas.List.{get_or-set_same, get_or-set_other, length-set, length-replicate, get_or-replicate}
use Rattle.nr_reduce.specs.declared.call.Submission.TheVariants as submissions
use Rattle.nr_reduce.specs.declared.mark.Mark.{Mark}
use Rattle.nr_reduce.specs.declared.mark.LinkParameters.{LinkParameters}
use Rattle.nr_reduce.specs.Limits.{credits_max, numbers_end}
use Rattle.nr_reduce.specs.ClientState.{stag_after}
use Rattle.nr_reduce.specs.Events.{events}
use Rattle.nr_reduce.specs.Opening.{IsOpened}
use Rattle.nr_reduce.specs.Reopening.{calls_kept, reopened}
use Rattle.nr_reduce.specs.Run.{client}
use Rattle.nr_laws.proofs.OpenedAgain.{reopened_links_are_opened}
use Rattle.nr_laws.specs.Reopened.{AgreedInRange}
use Rattle.nr_reduce.proofs.Steps.{AtEachMark_first}
use Rattle.nr_script.proofs.ByteLists.{no_bytes_lem}
use Rattle.nr_drill.specs.InBytes.{RepliedMark, RepliedInBytes}
use Rattle.nr_drill.proofs.TypedDrills.{IsTypedDrill, PipesOfBytes, TypedIf, ResumedTyped, typed_if, kept_typed, opening_keeps_steps, start_typed}
use Rattle.nr_texts.specs.declared.opening.Opening.{Opening}
use Rattle.nr_texts.specs.Limits.{clients_max}
use Rattle.nr_script.specs.Limits.{lines_max}
use Rattle.nr_script.specs.Script.{ScriptLines, IsScript}
use Rattle.nr_drill.specs.Drill.{SerialServer, link_of, Setting, Drill, IsLink, client_of, last_link, setting_now, links_of, pipes_of, empty_pipes, start, with_link, after_opening, after_openings, after_leaving}
use Rattle.nr_drill.specs.Follows.{Follows, parameters_of, setting_of, opened_drill}
use Rattle.nr_drill.proofs.Lawful.{asked_so_far, none_in}
use Rattle.nr_drill.proofs.Followed.{Extends, opening_adds, opened_by_script, start_creds, AreWritable}
use Rattle.nr_drill.proofs.OpenCalls.{HasCall, KnowsCalls, SameOn, knows_more, knows_same, knows_next}
use Rattle.nr_drill.proofs.StagBounds.{NextStag, few_calls, few_kept, reopened_stags, reopened_fits}
use Rattle.nr_drill.proofs.Actions.{Action, IsLastOf, counted, IsKept, AnyRaw, may_any, action_keeps, lines_kept, lines_of, all_act, after_action}
use Rattle.nr_drill.proofs.Actions.Action.{SubmitCall, FeedUp, FeedDown, WorkOnce, ForgetCall, RevokeCall, DropLink, PutRaw, GrantCredits}
use Rattle.nr_drill.proofs.Links.{HasTerms, LinkHolds, IsFrame, DrillHolds, NoMarkOf, link_later, link_elsewhere, opens, drill_later, drill_acts, drill_credential, drill_time, same_frame, same_links, map_all, both_all, link_bytes, action_extends}

-- ===== an index of longer lists

pub in_front : {X : Type 0} (xs ys : List X) (i : ℕ) (other : X) → i < length xs → slice_index_or (xs ++ ys) i other ≡ slice_index_or xs i other
in_front [] ys i other lt = absurd (omega (arith, lt))
in_front (x ∷ xs) ys zero other lt = refl
in_front (x ∷ xs) ys (suc i) other lt = in_front xs ys i other (omega (arith, lt))

pub at_end : {X : Type 0} (xs : List X) (y other : X) → slice_index_or (xs ++ y ∷ []) (length xs) other ≡ y
at_end [] y other = refl
at_end (x ∷ xs) y other = at_end xs y other

-- ===== what the next link is opened with

resumed_are : (o : LinkParameters) (link : ℕ) (run : List Mark) → (reopened o link run).resumed ≡ calls_kept o link run
unfolding reopened
resumed_are o link run = refl

next_terms : (opening : Opening) (o : LinkParameters) (link : ℕ) (run : List Mark) → HasTerms opening o → HasTerms opening (reopened o link run)
unfolding reopened
next_terms opening o link run h = record { granted = h.granted; terms = h.terms; numbered = h.numbered; unnumbered = h.unnumbered }

pub next_number : (o : LinkParameters) (link : ℕ) (run : List Mark) → (reopened o link run).client.number ≡ o.client.number
unfolding reopened
next_number o link run = refl

-- the client of a link with a number
abbrev pub owner_of : LinkParameters → ℕ → ℕ
owner_of o link = if o.client.number == 0 then link else o.client.number

pub numbered_owner : (o : LinkParameters) (link : ℕ) → o.client.number ≢ 0 → owner_of o link ≡ o.client.number
numbered_owner o link some = by (eqb o.client.number 0) refl
  where
    by : (b : Bool) → eqb o.client.number 0 ≡ b → cond b link o.client.number ≡ o.client.number
    by true is = absurd (some (eqb-true o.client.number 0 is))
    by false is = refl

-- ===== a client begins a link

-- the drill with the link that a client begins next, before it opens, and the number of that link
abbrev pub begun_drill : Setting → (c link : ℕ) → Drill → Drill
begun_drill s c link d = with_link c (reopened ((setting_now s d).opened link) link d.marks) d

abbrev pub next_link : Drill → ℕ
next_link d = length d.pipes + 1

-- what is known of it: it is the client's last link, nothing happened on it, and what the other links were opened with, and their pipes, stay
pub record IsBegun (s : Setting) (c link : ℕ) (d : Drill) : Type 0 where
  pub is_last : last_link c (begun_drill s c link d) ≡ next_link d
  pub apart : NoMarkOf (next_link d) d.marks
  pub empty : pipes_of (next_link d) (begun_drill s c link d) ≡ empty_pipes
  pub room : next_link d - 1 < length (begun_drill s c link d).pipes
  pub longer : length d.pipes < length (begun_drill s c link d).pipes
  pub old_pipes : (l : ℕ) → IsLink d l → pipes_of l (begun_drill s c link d) ≡ pipes_of l d
  pub old_link : (l : ℕ) → IsLink d l → (setting_now s (begun_drill s c link d)).opened l ≡ (setting_now s d).opened l
  pub new_link : (setting_now s (begun_drill s c link d)).opened (next_link d) ≡ reopened ((setting_now s d).opened link) link d.marks
  pub is_link : IsLink (begun_drill s c link d) (next_link d)
  pub was_link : (l : ℕ) → l ≢ next_link d → IsLink (begun_drill s c link d) l → IsLink d l
  pub owner : client_of (setting_now s (begun_drill s c link d)) (next_link d) ≡ c

module _ (s : Setting) (opening : Opening) (n c link : ℕ) (d : Drill) (within : suc n ≤ lines_max) (last : IsLastOf opening.clients c link d) (numbered : opening.numbered ≡ true)
    (stays : (client ((setting_now s d).opened link) link d.marks).ended ≡ None) (h : DrillHolds s opening n d) where
  abbrev t : Setting
  t = setting_now s d

  abbrev o : LinkParameters
  o = t.opened link

  abbrev next_o : LinkParameters
  next_o = reopened o link d.marks

  abbrev begun : Drill
  begun = with_link c next_o d

  abbrev u : Setting
  u = setting_now s begun

  abbrev next : ℕ
  next = length d.pipes + 1

  f : IsFrame s opening d
  f = h.frame

  here : IsLink d link × (client_of t link ≡ c)
  here = f.owned c link last

  k : LinkHolds opening n o link d.marks
  k = h.links link here.0

  next_is : next ≡ length d.opened + 1
  next_is = ap (λ (m : ℕ). m + 1) f.pipes

  more_links : length begun.opened ≡ length d.opened + 1
  more_links = length-append d.opened (next_o ∷ [])

  old_link : (l : ℕ) → IsLink d l → u.opened l ≡ t.opened l
  old_link l is = in_front (s.opened 0 ∷ d.opened) (next_o ∷ []) l (s.opened l) (let few = is.1 in omega (arith, few))

  new_link : u.opened next ≡ next_o
  new_link =
      let at : next ≡ suc (length d.opened) = omega (arith, next_is) in
      ap (λ (i : ℕ). slice_index_or (s.opened 0 ∷ (d.opened ++ next_o ∷ [])) i (s.opened next)) at ∙ at_end d.opened next_o (s.opened next)

  still_link : (l : ℕ) → IsLink d l → IsLink begun l
  still_link l is = (is.0, (let few = is.1 in omega (arith, few, more_links)))

  is_link : IsLink begun next
  is_link = (omega arith, omega (arith, next_is, more_links))

  is_last : last_link c begun ≡ next
  is_last = get_or-set_same d.last_links (c - 1) next c (let count = f.count in let low = last.low in let high = last.high in omega (arith, count, low, high))

  pub other_last : (other : ℕ) → 1 ≤ other → other ≢ c → last_link other begun ≡ last_link other d
  other_last other some ne = get_or-set_other d.last_links (c - 1) (other - 1) next other (λ same. ne (let low = last.low in omega (arith, same, low, some)))

  apart : NoMarkOf next d.marks
  apart = map_all (λ (mark : Mark). IsLink d (link_of mark)) (λ (mark : Mark). link_of mark ≢ next) d.marks (λ mark is. (λ same. (let few = is.1 in omega (arith, few, same, next_is)))) f.within

  pub same_on : SameOn t u d.marks
  same_on = map_all (λ (mark : Mark). IsLink d (link_of mark)) (λ (mark : Mark). u.opened (link_of mark) ≡ t.opened (link_of mark)) d.marks (λ mark is. old_link (link_of mark) is) f.within

  owner : client_of u next ≡ c
  owner =
      let number : next_o.client.number ≡ o.client.number = next_number o link d.marks in
      let some : o.client.number ≢ 0 = k.terms.numbered numbered in
      ap (λ (x : LinkParameters). owner_of x next) new_link ∙ numbered_owner next_o next (λ zero. some (sym number ∙ zero)) ∙ number ∙ sym (numbered_owner o link some) ∙ here.1

  few : length next_o.resumed ≤ credits_max
  few =
      let kept = few_kept o link d.marks in
      let most = few_calls o link d.marks k.few k.lawful.accepts in
      let are = ap (λ (rs : List _). length rs) (resumed_are o link d.marks) in
      omega (arith, kept, most, are)

  few_calls_kept : length (calls_kept o link d.marks) ≤ credits_max
  few_calls_kept = (let kept = few_kept o link d.marks in let most = few_calls o link d.marks k.few k.lawful.accepts in omega (arith, kept, most))

  pub next_stags : stag_after next_o.first_stag next_o.resumed ≤ numbers_end
  next_stags =
      let fits = reopened_fits o link d.marks few_calls_kept in
      let low = k.stags in
      omega (arith, fits, low, within)

  numbers : IsOpened next_o × AgreedInRange next_o
  numbers = reopened_links_are_opened o link d.marks k.opened k.agreed h.typed.typed (asked_so_far o link d.marks k.lawful) next_stags

  again : AllByRecursion ResumedTyped next_o.resumed
  again = subst (AllByRecursion ResumedTyped) (sym (resumed_are o link d.marks)) (kept_typed o link d.marks h.typed.typed k.again)

  empty_is : pipes_of next begun ≡ empty_pipes
  empty_is =
      let at : next - 1 ≡ length d.pipes = omega arith in
      ap (λ (i : ℕ). slice_index_or (d.pipes ++ empty_pipes ∷ []) i empty_pipes) at ∙ at_end d.pipes empty_pipes empty_pipes

  room_is : next - 1 < length begun.pipes
  room_is = (let more = length-append d.pipes (empty_pipes ∷ []) in omega (arith, more))

  pub new_holds : LinkHolds opening (suc n) (u.opened next) next (after_opening u next begun).marks
  new_holds =
      let stags = reopened_stags o link next d.marks few_calls_kept in
      let low = k.stags in
      opens opening u next (suc n) begun apart empty_is room_is
      (subst IsOpened (sym new_link) numbers.0)
      (subst (λ (x : LinkParameters). length x.resumed ≤ credits_max) (sym new_link) few)
      (subst (HasTerms opening) (sym new_link) (next_terms opening o link d.marks k.terms))
      (subst AgreedInRange (sym new_link) numbers.1)
      (subst (λ (x : LinkParameters). AllByRecursion ResumedTyped x.resumed) (sym new_link) again)
      (subst (λ (x : LinkParameters). NextStag x next [] ≤ 1 + suc n * 192) (sym new_link) (omega (arith, stags, low)))

  pub begun_owned : (other l : ℕ) → IsLastOf opening.clients other l begun → IsLink begun l × (client_of u l ≡ other)
  begun_owned other l is = by (eqb other c) refl
    where
      differs : false ≡ true → ⊥
      differs e = absurd cc

      by : (b : Bool) → eqb other c ≡ b → IsLink begun l × (client_of u l ≡ other)
      by true same =
          let own = eqb-true other c same in
          let here_l : next ≡ l = sym (is.is ∙ ap (λ (x : ℕ). last_link x begun) own ∙ is_last) in
          (subst (IsLink begun) here_l is_link, ap (client_of u) (sym here_l) ∙ owner ∙ sym own)
      by false apart_from =
          let ne : other ≢ c = (λ same. differs (sym apart_from ∙ eq-eqb other c same)) in
          let old : IsLastOf opening.clients other l d = record { low = is.low; high = is.high; is = is.is ∙ other_last other is.low ne } in
          let was = f.owned other l old in
          (still_link l was.0, ap (λ (x : LinkParameters). owner_of x l) (old_link l was.0) ∙ was.1)

  begun_knows : (other l : ℕ) → IsLastOf opening.clients other l begun → KnowsCalls u other l d.marks
  begun_knows other l is = by (eqb other c) refl
    where
      differs : false ≡ true → ⊥
      differs e = absurd cc

      by : (b : Bool) → eqb other c ≡ b → KnowsCalls u other l d.marks
      by true same =
          let own = eqb-true other c same in
          let here_l : next ≡ l = sym (is.is ∙ ap (λ (x : ℕ). last_link x begun) own ∙ is_last) in
          subst (λ (m : ℕ). KnowsCalls u other m d.marks) here_l
          (subst (λ (x : ℕ). KnowsCalls u x next d.marks) (here.1 ∙ sym own)
          (knows_next t u link next d.marks same_on new_link k.opened k.lawful k.due stays (subst (λ (x : ℕ). KnowsCalls t x link d.marks) (sym here.1) (f.knows c link last))))
      by false apart_from =
          let ne : other ≢ c = (λ same. differs (sym apart_from ∙ eq-eqb other c same)) in
          let old : IsLastOf opening.clients other l d = record { low = is.low; high = is.high; is = is.is ∙ other_last other is.low ne } in
          knows_same t u other l d.marks same_on (old_link l (f.owned other l old).0) (f.knows other l old)

  begun_frame : IsFrame s opening begun
  begun_frame = record {
    count = length-set d.last_links (c - 1) next ∙ f.count;
    pipes = length-append d.pipes (empty_pipes ∷ []) ∙ ap (λ (m : ℕ). m + 1) f.pipes ∙ sym more_links;
    owned = begun_owned;
    within = map_all (λ (mark : Mark). IsLink d (link_of mark)) (λ (mark : Mark). IsLink begun (link_of mark)) d.marks (λ mark is. still_link (link_of mark) is) f.within;
    creds = f.creds;
    knows = begun_knows;
  }

  pub begun_typed : IsTypedDrill begun
  begun_typed = record { typed = h.typed.typed; pipes = both_all PipesOfBytes d.pipes (empty_pipes ∷ []) h.typed.pipes ((no_bytes_lem, no_bytes_lem), tt); creds = h.typed.creds }

  opened_holds : RepliedInBytes (after_opening u next begun).marks → DrillHolds s opening (suc n) (after_opening u next begun)
  opened_holds replied = record {
    frame = same_frame s opening next begun (after_opening u next begun) x is_link own begun_frame;
    typed = opening_keeps_steps u next TypedIf (typed_if u next (link_bytes opening (suc n) (u.opened next) next (after_opening u next begun).marks new_holds) new_holds.again) begun (λ old. begun_typed) replied;
    links = same_links s opening (suc n) next begun (after_opening u next begun) x links;
  }
    where
      x : Extends next begun (after_opening u next begun)
      x = opening_adds u next begun

      own : (other l : ℕ) → IsLastOf opening.clients other l begun → client_of u next ≡ other → next ≡ l
      own other l is same = (let mine : c ≡ other = sym owner ∙ same in sym is_last ∙ ap (λ (y : ℕ). last_link y begun) mine ∙ sym is.is)

      links : (other : ℕ) → IsLink begun other → LinkHolds opening (suc n) (u.opened other) other (after_opening u next begun).marks
      links other is = by (eqb next other) refl
        where
          differs : false ≡ true → ⊥
          differs e = absurd cc

          by : (b : Bool) → eqb next other ≡ b → LinkHolds opening (suc n) (u.opened other) other (after_opening u next begun).marks
          by true same = subst (λ (l : ℕ). LinkHolds opening (suc n) (u.opened l) l (after_opening u next begun).marks) (eqb-true next other same) new_holds
          by false apart_from =
              let ne : next ≢ other = (λ same. differs (sym apart_from ∙ eq-eqb next other same)) in
              let was : IsLink d other = (is.0, (let few_links = is.1 in omega (arith, few_links, more_links, next_is, ne))) in
              link_later opening n (u.opened other) other (after_opening u next begun).marks
              (link_elsewhere opening n (u.opened other) other next begun (after_opening u next begun) ne x (subst (λ (y : LinkParameters). LinkHolds opening n y other d.marks) (sym (old_link other was)) (h.links other was)))

  pub begins_so : IsBegun s c link d
  begins_so = record {
    is_last = is_last;
    apart = apart;
    empty = empty_is;
    room = room_is;
    longer = (let more = length-append d.pipes (empty_pipes ∷ []) in omega (arith, more));
    old_pipes = λ l is. in_front d.pipes (empty_pipes ∷ []) (l - 1) empty_pipes (let some = is.0 in let most = is.1 in let as_many = f.pipes in omega (arith, some, most, as_many));
    old_link = old_link;
    new_link = new_link;
    is_link = is_link;
    was_link = λ l ne is. (is.0, (let most = is.1 in omega (arith, most, more_links, next_is, ne)));
    owner = owner;
  }

  pub drill_begins : RepliedInBytes (after_leaving s c link d).marks → DrillHolds s opening (suc n) (after_leaving s c link d)
  drill_begins replied =
      subst (λ (l : ℕ). DrillHolds s opening (suc n) (after_opening u l begun)) (sym is_last) (opened_holds (subst (λ (l : ℕ). RepliedInBytes (after_opening u l begun).marks) is_last replied))

-- ===== what is kept

abbrev pub Holds : Setting → Opening → ℕ → Drill → Type 0
Holds s opening n d = (length d.last_links ≡ opening.clients) × (n ≤ lines_max → RepliedInBytes d.marks → DrillHolds s opening n d)

-- what is replied before it is too
pub replied_before : (link : ℕ) (old new : Drill) → Extends link old new → RepliedInBytes new.marks → RepliedInBytes old.marks
replied_before link old new x replied = AtEachMark_first RepliedMark [] old.marks x.marks.added (subst RepliedInBytes x.marks.is replied)

pub counted_most : (a : Action) (n : ℕ) → n ≤ counted a n
counted_most (SubmitCall call form) n = omega arith
counted_most (FeedUp most) n = omega arith
counted_most (FeedDown most) n = omega arith
counted_most WorkOnce n = omega arith
counted_most (ForgetCall number) n = omega arith
counted_most (RevokeCall number) n = omega arith
counted_most DropLink n = omega arith
counted_most (PutRaw side bytes) n = omega arith
counted_most (GrantCredits credits) n = omega arith

pub holds_kept : (s : Setting) (opening : Opening) (Acts Raws : ℕ → Type 0) → IsKept s opening Acts Raws (Holds s opening)
holds_kept s opening Acts Raws = record {
  count = λ n d p. p.0;
  later = λ n d p. (p.0, λ le replied. drill_later s opening n d (p.1 (omega (arith, le)) replied));
  credential = λ n c cred d can typed p. (p.0, λ le replied. drill_credential s opening n c cred d can typed (p.1 le replied));
  time = λ n seconds d p. (p.0, λ le replied. drill_time s opening n seconds d (p.1 le replied));
  action = λ n c link a d last acts may p. (
    ap (λ (ls : List ℕ). length ls) (action_keeps (setting_now s d) link a d).last_links ∙ p.0,
    λ le replied. (let most = counted_most a n in
        drill_acts s opening n c link a d last (may_any Raws opening.credits c d a may) replied
        (p.1 (omega (arith, le, most)) (replied_before link d (after_action (setting_now s d) link a d) (action_extends (setting_now s d) link a d) replied))),
  );
  begins = λ n c link d last acts numbered gone stays p.
      (let begun = begun_drill s c link d in
      let own = last_link c begun in
      let x = opening_adds (setting_now s begun) own begun in (
        ap (λ (ls : List ℕ). length ls) x.last_links ∙ length-set d.last_links (c - 1) (length d.pipes + 1) ∙ p.0,
        λ le replied. drill_begins s opening n c link d le last numbered stays (p.1 (omega (arith, le)) (replied_before own begun (after_leaving s c link d) x replied)) replied,
      ));
}

-- ===== the links of the first line open

pub index_map : {X : Type 0} (g : ℕ → X) (from n i x : ℕ) → x ≡ from + i → slice_index_or (map g (range_with_len from n)) i (g x) ≡ g x
index_map g from zero i x is = refl
index_map g from (suc n) zero x is = (let same : from ≡ x = omega (arith, is) in ap g same)
index_map g from (suc n) (suc i) x is = index_map g (from + 1) n i x (omega (arith, is))

pub index_range : (from n i x : ℕ) → x ≡ from + i → slice_index_or (range_with_len from n) i x ≡ x
index_range from zero i x is = refl
index_range from (suc n) zero x is = omega (arith, is)
index_range from (suc n) (suc i) x is = index_range (from + 1) n i x (omega (arith, is))

range_length : (from n : ℕ) → length (range_with_len from n) ≡ n
range_length from zero = refl
range_length from (suc n) = ap (λ (m : ℕ). suc m) (range_length (from + 1) n)

map_length : {X : Type 0} (g : ℕ → X) (xs : List ℕ) → length (map g xs) ≡ length xs
map_length g [] = refl
map_length g (x ∷ xs) = ap (λ (m : ℕ). suc m) (map_length g xs)

-- what the links of a script are opened with
first_terms : (script : ScriptLines) → IsScript script → (link : ℕ) → 1 ≤ link → link ≤ script.opening.clients → HasTerms script.opening (parameters_of script.opening link)
first_terms script is link low high = record {
  granted = refl;
  terms = (is.some_client_units, is.few_client_units, by script.opening.numbered);
  numbered = λ numbered zero. (let own : link ≡ 0 = sym (ap (λ (b : Bool). if b then link else 0) numbered) ∙ zero in omega (arith, own, low));
  unnumbered = λ off. ap (λ (b : Bool). if b then link else 0) off;
}
  where
    few : script.opening.clients ≤ clients_max
    few = is.few_clients

    by : (b : Bool) → (if b then link else 0) < 2 ^ 64
    by true = (let most = few in omega (arith, high, most))
    by false = omega arith

first_stags : (opening : Opening) (link : ℕ) → NextStag (parameters_of opening link) link [] ≤ 1 + 0 * 192
unfolding client events
first_stags opening link = omega arith

pub first_owner : (opening : Opening) (link : ℕ) → owner_of (parameters_of opening link) link ≡ link
first_owner opening link = by opening.numbered
  where
    inner : (b : Bool) (m : ℕ) → m ≡ link → cond b link m ≡ link
    inner true m is = refl
    inner false m is = is

    by : (b : Bool) → (if (if b then link else 0) == 0 then link else (if b then link else 0)) ≡ link
    by true = inner (eqb link 0) link refl
    by false = refl

-- the first links are open, of those of a script
pub record AreOpen (server : SerialServer) (script : ScriptLines) (done : ℕ) (d : Drill) : Type 0 where
  pub creds : AreWritable d.creds
  pub opened : d.opened ≡ (start (setting_of server script.opening) script.opening.clients).opened
  pub last_links : d.last_links ≡ links_of script.opening.clients
  pub room : length d.pipes ≡ script.opening.clients
  pub empty : (link : ℕ) → done < link → link ≤ script.opening.clients → pipes_of link d ≡ empty_pipes
  pub within : AllByRecursion (λ (mark : Mark). (1 ≤ link_of mark) × (link_of mark ≤ done)) d.marks
  pub links : (link : ℕ) → 1 ≤ link → link ≤ done → LinkHolds script.opening 0 (parameters_of script.opening link) link d.marks
  pub knows : (c : ℕ) → KnowsCalls (setting_of server script.opening) c c d.marks
  pub typed : RepliedInBytes d.marks → IsTypedDrill d

pub none_of_next : (server : SerialServer) (script : ScriptLines) (done : ℕ) (d : Drill) → AreOpen server script done d → NoMarkOf (done + 1) d.marks
none_of_next server script done d h =
    map_all (λ (mark : Mark). (1 ≤ link_of mark) × (link_of mark ≤ done)) (λ (mark : Mark). link_of mark ≢ done + 1) d.marks (λ mark a. (λ same. (let most = a.1 in omega (arith, most, same)))) h.within

module _ (server : SerialServer) (script : ScriptLines) (is : IsScript script) where
  abbrev base : Setting
  base = setting_of server script.opening

  pub open_one : (done : ℕ) (d : Drill) → done + 1 ≤ script.opening.clients → AreOpen server script done d → AreOpen server script (done + 1) (after_opening base (done + 1) d)
  open_one done d le h = record {
    creds = subst AreWritable (sym x.creds) h.creds;
    opened = x.opened ∙ h.opened;
    last_links = x.last_links ∙ h.last_links;
    room = x.room ∙ h.room;
    empty = λ link low high. x.pipes link (λ same. (let at = same in omega (arith, at, low))) ∙ h.empty link (omega (arith, low)) high;
    within = subst (λ (run : List Mark). AllByRecursion (λ (mark : Mark). (1 ≤ link_of mark) × (link_of mark ≤ done + 1)) run) (sym x.marks.is)
        (both_all (λ (mark : Mark). (1 ≤ link_of mark) × (link_of mark ≤ done + 1)) d.marks x.marks.added
        (map_all (λ (mark : Mark). (1 ≤ link_of mark) × (link_of mark ≤ done)) (λ (mark : Mark). (1 ≤ link_of mark) × (link_of mark ≤ done + 1)) d.marks (λ mark a. (a.0, (let most = a.1 in omega (arith, most)))) h.within)
        (map_all (λ (mark : Mark). link_of mark ≡ done + 1) (λ (mark : Mark). (1 ≤ link_of mark) × (link_of mark ≤ done + 1)) x.marks.added (λ mark e. (omega (arith, e), omega (arith, e))) x.marks.own));
    links = λ link low high. by link low high (eqb (done + 1) link) refl;
    knows = λ c. subst (KnowsCalls base c c) (sym x.marks.is)
        (knows_more base c c (done + 1) d.marks x.marks.added (λ same. sym (first_owner script.opening (done + 1)) ∙ same) x.marks.own (h.knows c));
    typed = opening_keeps_steps base (done + 1) TypedIf (typed_if base (done + 1) tt tt) d h.typed;
  }
    where
      x : Extends (done + 1) d (after_opening base (done + 1) d)
      x = opening_adds base (done + 1) d

      differs : false ≡ true → ⊥
      differs e = absurd cc

      apart : NoMarkOf (done + 1) d.marks
      apart = none_of_next server script done d h

      by : (link : ℕ) → 1 ≤ link → link ≤ done + 1 → (b : Bool) → eqb (done + 1) link ≡ b → LinkHolds script.opening 0 (parameters_of script.opening link) link (after_opening base (done + 1) d).marks
      by link low high true same =
          subst (λ (l : ℕ). LinkHolds script.opening 0 (parameters_of script.opening l) l (after_opening base (done + 1) d).marks) (eqb-true (done + 1) link same)
          (opens script.opening base (done + 1) 0 d apart (h.empty (done + 1) (omega arith) le) (let room = h.room in omega (arith, room, le)) (opened_by_script script is (done + 1)) (omega arith)
          (first_terms script is (done + 1) (omega arith) le) ((omega arith, omega arith), (omega arith, omega arith)) tt (first_stags script.opening (done + 1)))
      by link low high false apart_from =
          let ne : done + 1 ≢ link = (λ same. differs (sym apart_from ∙ eq-eqb (done + 1) link same)) in
          link_elsewhere script.opening 0 (parameters_of script.opening link) link (done + 1) d (after_opening base (done + 1) d) ne x (h.links link low (omega (arith, high, ne)))

  open_all : (done more : ℕ) (d : Drill) → done + more ≡ script.opening.clients → AreOpen server script done d → AreOpen server script script.opening.clients (after_openings base (range_with_len (done + 1) more) d)
  open_all done zero d all h = (let same : done ≡ script.opening.clients = omega (arith, all) in subst (λ (m : ℕ). AreOpen server script m d) same h)
  open_all done (suc more) d all h = open_all (done + 1) more (after_opening base (done + 1) d) (omega (arith, all)) (open_one done d (omega (arith, all)) h)

  pub at_start : AreOpen server script 0 (start base script.opening.clients)
  at_start = record {
    creds = start_creds script.opening.clients;
    opened = refl;
    last_links = refl;
    room = length-replicate script.opening.clients empty_pipes;
    empty = λ link low high. get_or-replicate script.opening.clients (link - 1) empty_pipes empty_pipes (omega (arith, low, high));
    within = tt;
    links = λ link low high. absurd (omega (arith, low, high));
    knows = λ c xid found none. none_in {W = HasCall (base.opened c) c [] xid} (submissions.Accepted xid) found;
    typed = λ replied. start_typed base script.opening.clients;
  }

  pub open_drill : AreOpen server script script.opening.clients (opened_drill server script.opening)
  unfolding opened_drill
  open_drill = open_all 0 script.opening.clients (start base script.opening.clients) (omega arith) at_start

  pub first_count : length (opened_drill server script.opening).last_links ≡ script.opening.clients
  first_count = ap (λ (ls : List ℕ). length ls) open_drill.last_links ∙ range_length 1 script.opening.clients

  pub first_holds : RepliedInBytes (opened_drill server script.opening).marks → DrillHolds base script.opening 0 (opened_drill server script.opening)
  first_holds replied = record {
    frame = record {
      count = first_count;
      pipes = a.room ∙ sym many;
      owned = λ c link last. (let own = own_link c link last in (in_links link (own.1, own.2), ap (λ (x : LinkParameters). owner_of x link) (now link (own.1, own.2)) ∙ first_owner script.opening link ∙ own.0));
      within = map_all (λ (mark : Mark). (1 ≤ link_of mark) × (link_of mark ≤ clients)) (λ (mark : Mark). IsLink d (link_of mark)) d.marks (λ mark within. in_links (link_of mark) within) a.within;
      creds = a.creds;
      knows = λ c link last.
          (let own = own_link c link last in
          subst (λ (l : ℕ). KnowsCalls (setting_now base d) c l d.marks) (sym own.0)
          (knows_same base (setting_now base d) c c d.marks
          (map_all (λ (mark : Mark). (1 ≤ link_of mark) × (link_of mark ≤ clients)) (λ (mark : Mark). (setting_now base d).opened (link_of mark) ≡ base.opened (link_of mark)) d.marks (λ mark within. now (link_of mark) within) a.within)
          (now c (last.low, last.high)) (a.knows c)));
    };
    typed = a.typed replied;
    links = λ link within.
        (let in_first : (1 ≤ link) × (link ≤ clients) = (within.0, (let few = within.1 in omega (arith, few, many))) in
        subst (λ (x : LinkParameters). LinkHolds script.opening 0 x link d.marks) (sym (now link in_first)) (a.links link in_first.0 in_first.1));
  }
    where
      clients : ℕ
      clients = script.opening.clients

      d : Drill
      d = opened_drill server script.opening

      a : AreOpen server script clients d
      a = open_drill

      many : length d.opened ≡ clients
      many = ap (λ (os : List LinkParameters). length os) a.opened ∙ map_length base.opened (range_with_len 1 clients) ∙ range_length 1 clients

      in_links : (link : ℕ) → (1 ≤ link) × (link ≤ clients) → IsLink d link
      in_links link within = (within.0, (let most = within.1 in omega (arith, most, many)))

      now : (link : ℕ) → (1 ≤ link) × (link ≤ clients) → (setting_now base d).opened link ≡ base.opened link
      now link within =
          ap (λ (os : List LinkParameters). slice_index_or (base.opened 0 ∷ os) link (base.opened link)) a.opened
          ∙ index_map base.opened 0 (suc clients) link link (omega arith)

      own_link : (c link : ℕ) → IsLastOf clients c link d → (link ≡ c) × (1 ≤ link) × (link ≤ clients)
      own_link c link last =
          let same : link ≡ c =
          last.is ∙ ap (λ (ls : List ℕ). slice_index_or ls (c - 1) c) a.last_links ∙ index_range 1 clients (c - 1) c (let low = last.low in omega (arith, low)) in
          (same, (let low = last.low in omega (arith, same, low)), (let high = last.high in omega (arith, same, high)))

  pub opened_count : length (opened_drill server script.opening).opened ≡ script.opening.clients
  opened_count = ap (λ (os : List LinkParameters). length os) open_drill.opened ∙ map_length base.opened (range_with_len 1 script.opening.clients) ∙ range_length 1 script.opening.clients

  -- what holds of the drill whose links are open, and is kept, holds in the end
  pub first_then : Holds base script.opening 0 (opened_drill server script.opening)
  first_then = (first_count, λ le replied. first_holds replied)

  pub lines_hold : (follows_run : List Mark) → RepliedInBytes follows_run → (follows : Follows server script follows_run) → DrillHolds base script.opening (length script.lines) follows.last
  lines_hold run replied follows =
      (lines_kept base script.opening AnyRaw AnyRaw (Holds base script.opening) (holds_kept base script.opening AnyRaw AnyRaw) 0 (length script.lines) script.opening.clients script.lines (opened_drill server script.opening) follows.last
      (lines_of script is) (all_act script.lines) (omega arith) follows.makes first_then).1 is.few_lines (subst RepliedInBytes follows.marks_are replied)
