-- The links of a history with one entry more; their numbers; and a history over one link.
use Rattle.std.proofs.Common.{◌≡◌, ◌≢◌, ◌⊎◌, ⊎_elim, inl, inr, ℕ, zero, suc, ◌+◌, ◌<◌, ◌≤◌, arith, eqb, Bool, true, false, if◌then◌else◌, List, [], ◌∷◌, ◌++◌, length, map, Option, Some, None, refl, sym, ap, subst, ◌∙◌, append_assoc, append-nil}
use Rattle.std.specs.List.{AllByRecursion}
use Rattle.std.proofs.lemmas.Bool.{cases_eq, cases_lt}
use Rattle.nr_wire.specs.declared.hello.Side.TheVariants.{Initiator}
use Rattle.nr_reduce.specs.declared.call.Submission.TheVariants as submissions
use Rattle.nr_reduce.specs.declared.mark.LinkParameters.{LinkParameters}
use Rattle.nr_reduce.specs.declared.mark.Mark.{Mark}
use Rattle.nr_reduce.specs.declared.mark.Mark.TheVariants as marks
use Rattle.nr_reduce.specs.ClientState.{WaitingCall}
use Rattle.nr_reduce.specs.Resending.{resend_mark, resends_after}
use Rattle.nr_reduce.specs.SubmitAnswer.{calls_to_resend}
use Rattle.nr_reduce.specs.Run.{client}
use Rattle.nr_link.specs.declared.agreement.Agreement.{Agreement}
use Rattle.nr_link.specs.Agreement.{IsSendLimit}
use Rattle.nr_link.specs.Limits.{send_unit}
use Rattle.nr_reduce.specs.Opening.{IsFirstLink, lengths_before}
use Rattle.nr_requester.specs.Reopening.{AgreedInRange, HasNoMark, link_of}
use Rattle.nr_shared.specs.declared.entry.Entry.{Entry}
use Rattle.nr_shared.specs.declared.entry.Entry.TheVariants as entries
use Rattle.nr_shared.specs.declared.entry.InitialState.{InitialState}
use Rattle.nr_shared.specs.Histories.{PresentLink, no_link, present, present_after, present_from, rejoins}
use Rattle.nr_shared.specs.LinkRuns.{AreNew, FitsInitialState, LinkRun, OpenedLink, call_link, carries, first_link, last_carrier, link_after, links_after, links_of, marks_at, next_link}

-- ---- One entry more

after_end : (n : ℕ) (numbers : ℕ → ℕ) (l : LinkRun) (h : List Entry) (e : Entry) → links_after n numbers l (h ++ e ∷ []) ≡ link_after n (numbers (suc (length (links_after n numbers l h).left))) (links_after n numbers l h) e
after_end n numbers l [] e = refl
after_end n numbers l (x ∷ xs) e = after_end n numbers (link_after n (numbers (suc (length l.left))) l x) xs e

pub links_end : (opened : LinkParameters) (numbers : ℕ → ℕ) (before : List Mark) (n : ℕ) (h : List Entry) (e : Entry) →
    links_of opened numbers before n (h ++ e ∷ []) ≡ link_after n (numbers (suc (length (links_of opened numbers before n h).left))) (links_of opened numbers before n h) e
unfolding links_of
links_end opened numbers before n h e = after_end n numbers (first_link opened numbers before) h e

-- an entry that is no Rejoin adds its marks
abbrev pub is_rejoin : Entry → Bool
is_rejoin (entries.Rejoin sink previous) = true
is_rejoin e = false

abbrev pub with_marks : LinkRun → List Mark → LinkRun
with_marks l ms = record l { run = l.run ++ ms }

pub link_same : (n next : ℕ) (l : LinkRun) (e : Entry) → is_rejoin e ≡ false → link_after n next l e ≡ with_marks l (marks_at n l e)
link_same n next l (entries.Initial initial) none = refl
link_same n next l (entries.Rejoin sink previous) none = absurd cc
link_same n next l (entries.Submit call form xid) none = refl
link_same n next l (entries.Wrote bytes) none = refl
link_same n next l (entries.Fed bytes previous) none = refl
link_same n next l (entries.Done xid outcome submit) none = refl
link_same n next l (entries.Lost xid submit) none = refl
link_same n next l (entries.Forget xid submit) none = refl
link_same n next l (entries.Revoke xid bytes submit) none = refl
link_same n next l entries.WriteFailed none = refl
link_same n next l (entries.Stopped cause previous) none = refl
link_same n next l (entries.OutOfMemory piece previous) none = refl

pub links_more : (opened : LinkParameters) (numbers : ℕ → ℕ) (before : List Mark) (n : ℕ) (h : List Entry) (e : Entry) → is_rejoin e ≡ false →
    links_of opened numbers before n (h ++ e ∷ []) ≡ with_marks (links_of opened numbers before n h) (marks_at n (links_of opened numbers before n h) e)
links_more opened numbers before n h e none = let l = links_of opened numbers before n h in links_end opened numbers before n h e ∙ link_same n (numbers (suc (length l.left))) l e none

pub with_none : (l : LinkRun) → with_marks l [] ≡ l
with_none l = λ i. record l { run = append-nil l.run i }

-- an entry that is no mark
pub links_same : (opened : LinkParameters) (numbers : ℕ → ℕ) (before : List Mark) (n : ℕ) (h : List Entry) (e : Entry) → is_rejoin e ≡ false → ((l : LinkRun) → marks_at n l e ≡ []) → links_of opened numbers before n (h ++ e ∷ []) ≡ links_of opened numbers before n h
links_same opened numbers before n h e none quiet = let l = links_of opened numbers before n h in links_more opened numbers before n h e none ∙ (ap (λ (ms : List Mark). with_marks l ms) (quiet l) ∙ with_none l)

-- ---- How many links were left

left_by : (n : ℕ) (numbers : ℕ → ℕ) (l : LinkRun) (p : PresentLink) (h : List Entry) → length l.left ≡ length p.left → length (links_after n numbers l h).left ≡ length (present_from p h).left
left_by n numbers l p [] same = same
left_by n numbers l p (entries.Initial initial ∷ es) same = left_by n numbers (with_marks l []) (present_after p (entries.Initial initial)) es same
left_by n numbers l p (entries.Rejoin sink previous ∷ es) same =
    left_by n numbers (next_link (numbers (suc (length l.left))) l) (present_after p (entries.Rejoin sink previous)) es (omega (arith, same))
left_by n numbers l p (entries.Submit call form xid ∷ es) same = left_by n numbers (with_marks l (marks_at n l (entries.Submit call form xid))) p es same
left_by n numbers l p (entries.Wrote bytes ∷ es) same = left_by n numbers (with_marks l (marks_at n l (entries.Wrote bytes))) (present_after p (entries.Wrote bytes)) es same
left_by n numbers l p (entries.Fed bytes previous ∷ es) same = left_by n numbers (with_marks l (marks_at n l (entries.Fed bytes previous))) (present_after p (entries.Fed bytes previous)) es same
left_by n numbers l p (entries.Done xid outcome submit ∷ es) same = left_by n numbers (with_marks l (marks_at n l (entries.Done xid outcome submit))) p es same
left_by n numbers l p (entries.Lost xid submit ∷ es) same = left_by n numbers (with_marks l (marks_at n l (entries.Lost xid submit))) p es same
left_by n numbers l p (entries.Forget xid submit ∷ es) same = left_by n numbers (with_marks l (marks_at n l (entries.Forget xid submit))) p es same
left_by n numbers l p (entries.Revoke xid bytes submit ∷ es) same = left_by n numbers (with_marks l (marks_at n l (entries.Revoke xid bytes submit))) p es same
left_by n numbers l p (entries.WriteFailed ∷ es) same = left_by n numbers (with_marks l []) (present_after p entries.WriteFailed) es same
left_by n numbers l p (entries.Stopped cause previous ∷ es) same = left_by n numbers (with_marks l []) (present_after p (entries.Stopped cause previous)) es same
left_by n numbers l p (entries.OutOfMemory piece previous ∷ es) same = left_by n numbers (with_marks l (marks_at n l (entries.OutOfMemory piece previous))) (present_after p (entries.OutOfMemory piece previous)) es same

pub left_is : (opened : LinkParameters) (numbers : ℕ → ℕ) (before : List Mark) (n : ℕ) (h : List Entry) → length (links_of opened numbers before n h).left ≡ rejoins h
unfolding links_of
left_is opened numbers before n h = left_by n numbers (first_link opened numbers before) no_link h refl

-- ---- The numbers of the links

-- each link has its number
abbrev pub AreNumbered : (numbers : ℕ → ℕ) → List OpenedLink → Type 0
AreNumbered numbers [] = Unit {0}
AreNumbered numbers (e ∷ es) = (e.link ≡ numbers (length es)) × AreNumbered numbers es

-- and no mark has the number of a link that is still to come
pub record KeepsNumbers (numbers : ℕ → ℕ) (most : ℕ) (l : LinkRun) : Type 0 where
  pub numbered : AreNumbered numbers (l.at ∷ l.left)
  pub unused : (k : ℕ) → length l.left < k → k ≤ most → HasNoMark (numbers k) l.run

-- the link of a call is one of them
carrier_at : (numbers : ℕ → ℕ) (at : OpenedLink) (left : List OpenedLink) (xid : ℕ) → AreNumbered numbers (at ∷ left) → (j : ℕ) × (j ≤ length left) × ((last_carrier at left xid).link ≡ numbers j)
carrier_at numbers at [] xid all = (0, omega arith, all.0)
carrier_at numbers at (e ∷ left) xid all = by (carries at.opened xid) (carrier_at numbers e left xid all.1)
  where
    by : (b : Bool) → (j : ℕ) × (j ≤ length left) × ((last_carrier e left xid).link ≡ numbers j) → (j : ℕ) × (j ≤ suc (length left)) × ((if b then at else last_carrier e left xid).link ≡ numbers j)
    by true rest = (suc (length left), omega arith, all.0)
    by false (j, le, is) = (j, omega (arith, le), is)

none_more : (link : ℕ) (run ms : List Mark) → HasNoMark link run → HasNoMark link ms → HasNoMark link (run ++ ms)
none_more link [] ms none more = more
none_more link (m ∷ run) ms none more = (none.0, none_more link run ms none.1 more)

pub none_resent : (link at : ℕ) (ws : List WaitingCall) → at ≢ link → HasNoMark link (map (resend_mark at) ws)
none_resent link at [] apart = tt
none_resent link at (w ∷ ws) apart = (apart, none_resent link at ws apart)

module _ (numbers : ℕ → ℕ) (most : ℕ) (apart : (j k : ℕ) → j < k → k ≤ most → numbers j ≢ numbers k) where
  at_other : (l : LinkRun) (k : ℕ) → KeepsNumbers numbers most l → length l.left < k → k ≤ most → l.at.link ≢ numbers k
  at_other l k keeps more le same = apart (length l.left) k more le (sym keeps.numbered.0 ∙ same)

  call_other : (l : LinkRun) (xid k : ℕ) → KeepsNumbers numbers most l → length l.left < k → k ≤ most → (call_link l xid).link ≢ numbers k
  call_other l xid k keeps more le same =
      let c = carrier_at numbers l.at l.left xid keeps.numbered in
      let below : c.0 ≤ length l.left = c.1 in
      apart c.0 k (omega (arith, below, more)) le (sym c.2 ∙ same)

  none_of : (n : ℕ) (l : LinkRun) (e : Entry) (k : ℕ) → KeepsNumbers numbers most l → length l.left < k → k ≤ most → HasNoMark (numbers k) (marks_at n l e)
  none_of n l (entries.Initial initial) k keeps more le = tt
  none_of n l (entries.Submit call form xid) k keeps more le = (at_other l k keeps more le, tt)
  none_of n l (entries.Wrote bytes) k keeps more le = (at_other l k keeps more le, tt)
  none_of n l (entries.Fed bytes previous) k keeps more le =
      (at_other l k keeps more le, none_resent (numbers k) l.at.link (calls_to_resend (client l.at.opened l.at.link (l.run ++ marks.Fed l.at.link Initiator bytes ∷ []))) (at_other l k keeps more le))
  none_of n l (entries.Done xid outcome submit) k keeps more le = (call_other l xid k keeps more le, tt)
  none_of n l (entries.Lost xid submit) k keeps more le = (call_other l xid k keeps more le, tt)
  none_of n l (entries.Forget xid submit) k keeps more le = (call_other l xid k keeps more le, tt)
  none_of n l (entries.Revoke xid bytes submit) k keeps more le = (call_other l xid k keeps more le, tt)
  none_of n l entries.WriteFailed k keeps more le = tt
  none_of n l (entries.Stopped cause previous) k keeps more le = tt
  none_of n l (entries.OutOfMemory piece previous) k keeps more le = (at_other l k keeps more le, tt)
  none_of n l (entries.Rejoin sink previous) k keeps more le = tt

  next_numbers : (l : LinkRun) → KeepsNumbers numbers most l → KeepsNumbers numbers most (next_link (numbers (suc (length l.left))) l)
  next_numbers l keeps = record { numbered = (refl, keeps.numbered); unused = λ k more le. keeps.unused k (omega (arith, more)) le }

  numbers_after : (n : ℕ) (l : LinkRun) (e : Entry) → KeepsNumbers numbers most l → KeepsNumbers numbers most (link_after n (numbers (suc (length l.left))) l e)
  numbers_after n l e keeps = by (is_rejoin e) refl where
    more : is_rejoin e ≡ false → KeepsNumbers numbers most (link_after n (numbers (suc (length l.left))) l e)
    more none = subst (KeepsNumbers numbers most) (sym (link_same n (numbers (suc (length l.left))) l e none))
        (record { numbered = keeps.numbered; unused = λ k above le. none_more (numbers k) l.run (marks_at n l e) (keeps.unused k above le) (none_of n l e k keeps above le) })

    rejoined : (f : Entry) → is_rejoin f ≡ true → KeepsNumbers numbers most (link_after n (numbers (suc (length l.left))) l f)
    rejoined (entries.Rejoin sink previous) is = next_numbers l keeps
    rejoined (entries.Initial initial) is = absurd cc
    rejoined (entries.Submit call form xid) is = absurd cc
    rejoined (entries.Wrote bytes) is = absurd cc
    rejoined (entries.Fed bytes previous) is = absurd cc
    rejoined (entries.Done xid outcome submit) is = absurd cc
    rejoined (entries.Lost xid submit) is = absurd cc
    rejoined (entries.Forget xid submit) is = absurd cc
    rejoined (entries.Revoke xid bytes submit) is = absurd cc
    rejoined entries.WriteFailed is = absurd cc
    rejoined (entries.Stopped cause previous) is = absurd cc
    rejoined (entries.OutOfMemory piece previous) is = absurd cc

    by : (b : Bool) → is_rejoin e ≡ b → KeepsNumbers numbers most (link_after n (numbers (suc (length l.left))) l e)
    by true is = rejoined e is
    by false is = more is

  numbers_all : (n : ℕ) (l : LinkRun) (h : List Entry) → KeepsNumbers numbers most l → KeepsNumbers numbers most (links_after n numbers l h)
  numbers_all n l [] keeps = keeps
  numbers_all n l (e ∷ es) keeps = numbers_all n (link_after n (numbers (suc (length l.left))) l e) es (numbers_after n l e keeps)

pub numbers_of : (opened : LinkParameters) (numbers : ℕ → ℕ) (before : List Mark) (n most : ℕ) (h : List Entry) → AreNew numbers most before → KeepsNumbers numbers most (links_of opened numbers before n h)
unfolding links_of
numbers_of opened numbers before n most h new = numbers_all numbers most new.apart n (first_link opened numbers before) h (record { numbered = (refl, tt); unused = λ k more le. new.unused k more le })

-- a link that was left has another number than the one at hand
pub apart_from : (numbers : ℕ → ℕ) (most : ℕ) (link : ℕ) (k : ℕ) (left : List OpenedLink) → ((i j : ℕ) → i < j → j ≤ most → numbers i ≢ numbers j) → link ≡ numbers k → length left ≤ k → k ≤ most → AreNumbered numbers left → AllByRecursion (λ (e : OpenedLink). link ≢ e.link) left
apart_from numbers most link k [] apart is le within all = tt
apart_from numbers most link k (e ∷ left) apart is le within all = (
  (λ same. apart (length left) k le within (sym all.0 ∙ (sym same ∙ is))),
  apart_from numbers most link k left apart is (omega (arith, le)) within all.1,
)

-- fewer links follow
pub fewer_new : (numbers : ℕ → ℕ) (few most : ℕ) (before : List Mark) → few ≤ most → AreNew numbers most before → AreNew numbers few before
fewer_new numbers few most before le new = record {
  apart = λ j k less within. new.apart j k less (omega (arith, within, le));
  unused = λ k some within. new.unused k some (omega (arith, within, le));
}

pub fits_fewer : (initial : InitialState) (few most : ℕ) (opened : LinkParameters) (numbers : ℕ → ℕ) (before : List Mark) → few ≤ most → FitsInitialState initial most opened numbers before → FitsInitialState initial few opened numbers before
fits_fewer initial few most opened numbers before le fits = record { opens = fits.opens; first = fits.first; live = fits.live; new = fewer_new numbers few most before le fits.new }

-- a first link is opened in range
pub first_in_range : (opened : LinkParameters) → IsFirstLink opened → AgreedInRange opened
first_in_range opened first = subst (λ (o : Option Agreement). IsSendLimit (lengths_before o).up × IsSendLimit (lengths_before o).down) (sym first.agreed) (unit, unit) where
  unit : IsSendLimit send_unit
  unit = (omega arith, omega arith)
