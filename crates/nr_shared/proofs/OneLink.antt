-- What is said of the links of a history is said of the one link, if that was never left.
use Rattle.std.proofs.Common.{◌≡◌, ℕ, suc, ◌<◌, ◌≤◌, arith, List, [], ◌∷◌, ◌++◌, length, map, refl, sym, ap, subst, ◌∙◌, append_assoc, append-nil}
use Rattle.std.specs.List.{flat_map}
use Rattle.nr_wire.specs.declared.hello.Side.TheVariants.{Initiator}
use Rattle.nr_reduce.specs.declared.mark.LinkParameters.{LinkParameters}
use Rattle.nr_reduce.specs.declared.mark.Mark.{Mark}
use Rattle.nr_reduce.specs.declared.mark.Mark.TheVariants as marks
use Rattle.nr_reduce.specs.ClientState.{WaitingCall}
use Rattle.nr_reduce.specs.Resending.{resend_mark}
use Rattle.nr_reduce.proofs.Unresumed.{none_resent}
use Rattle.nr_shared.specs.declared.entry.Entry.{Entry}
use Rattle.nr_shared.specs.declared.entry.Entry.TheVariants as entries
use Rattle.nr_shared.specs.Histories.{PresentLink, no_link, present_after, present_from, rejoins}
use Rattle.nr_shared.specs.LinkRuns.{FitsHistory, LinkRun, OnLinks, OpenedLink, links_after, links_of, marks_at}
use Rattle.nr_shared.specs.OneLink.{FitsOneLink, mark_at, one_link, run_of}
use Rattle.nr_shared.proofs.Histories.{from_grows}
use Rattle.nr_shared.proofs.LinkRuns.{with_marks}

abbrev at_one : OpenedLink → List Mark → LinkRun
at_one at run = record { at = at; left = []; run = run }

module _ (numbers : ℕ → ℕ) (n : ℕ) (at : OpenedLink) (first : at.opened.resumed ≡ []) where
  abbrev RunsOn : List Mark → List Entry → Type 0
  RunsOn run h = links_after n numbers (at_one at run) h ≡ at_one at (run ++ flat_map (mark_at n at.link) h)

  more : (run ms : List Mark) (es : List Entry) → RunsOn (run ++ ms) es → links_after n numbers (at_one at (run ++ ms)) es ≡ at_one at (run ++ (ms ++ flat_map (mark_at n at.link) es))
  more run ms es rest = rest ∙ ap (at_one at) (append_assoc run ms (flat_map (mark_at n at.link) es))

  -- after a piece no call is sent again
  fed_none : (run : List Mark) (bytes : List ℕ) → with_marks (at_one at run) (marks_at n (at_one at run) (entries.Fed bytes 0)) ≡ at_one at (run ++ marks.Fed at.link Initiator bytes ∷ [])
  fed_none run bytes = ap (λ (ws : List WaitingCall). at_one at (run ++ marks.Fed at.link Initiator bytes ∷ map (resend_mark at.link) ws)) (none_resent at.opened at.link (run ++ marks.Fed at.link Initiator bytes ∷ []) first)

  none : (run : List Mark) (es : List Entry) → RunsOn run es → links_after n numbers (at_one at (run ++ [])) es ≡ at_one at (run ++ flat_map (mark_at n at.link) es)
  none run es rest = subst (λ (r : List Mark). links_after n numbers (at_one at r) es ≡ at_one at (run ++ flat_map (mark_at n at.link) es)) (sym (append-nil run)) rest

  runs_on : (run : List Mark) (p : PresentLink) (h : List Entry) → length (present_from p h).left ≡ length p.left → RunsOn run h
  runs_on run p [] same = ap (at_one at) (sym (append-nil run))
  runs_on run p (entries.Initial initial ∷ es) same = none run es (runs_on run (present_after p (entries.Initial initial)) es same)
  runs_on run p (entries.Submit call form xid ∷ es) same = let ms = mark_at n at.link (entries.Submit call form xid) in more run ms es (runs_on (run ++ ms) p es same)
  runs_on run p (entries.Wrote bytes ∷ es) same = let ms = mark_at n at.link (entries.Wrote bytes) in more run ms es (runs_on (run ++ ms) (present_after p (entries.Wrote bytes)) es same)
  runs_on run p (entries.Fed bytes previous ∷ es) same =
      let ms = mark_at n at.link (entries.Fed bytes previous) in
      ap (λ (l : LinkRun). links_after n numbers l es) (fed_none run bytes) ∙ more run ms es (runs_on (run ++ ms) (present_after p (entries.Fed bytes previous)) es same)
  runs_on run p (entries.Done xid outcome submit ∷ es) same = let ms = mark_at n at.link (entries.Done xid outcome submit) in more run ms es (runs_on (run ++ ms) p es same)
  runs_on run p (entries.Lost xid submit ∷ es) same = let ms = mark_at n at.link (entries.Lost xid submit) in more run ms es (runs_on (run ++ ms) p es same)
  runs_on run p (entries.Forget xid submit ∷ es) same = let ms = mark_at n at.link (entries.Forget xid submit) in more run ms es (runs_on (run ++ ms) p es same)
  runs_on run p (entries.Revoke xid bytes submit ∷ es) same = let ms = mark_at n at.link (entries.Revoke xid bytes submit) in more run ms es (runs_on (run ++ ms) p es same)
  runs_on run p (entries.WriteFailed ∷ es) same = none run es (runs_on run (present_after p entries.WriteFailed) es same)
  runs_on run p (entries.Stopped cause previous ∷ es) same = none run es (runs_on run (present_after p (entries.Stopped cause previous)) es same)
  runs_on run p (entries.OutOfMemory piece previous ∷ es) same = let ms = mark_at n at.link (entries.OutOfMemory piece previous) in more run ms es (runs_on (run ++ ms) (present_after p (entries.OutOfMemory piece previous)) es same)
  runs_on run p (entries.Rejoin sink previous ∷ es) same = let grows = from_grows (present_after p (entries.Rejoin sink previous)) es in absurd (too_few grows same) where
    too_few : suc (length p.left) ≤ length (present_from (present_after p (entries.Rejoin sink previous)) es).left → length (present_from (present_after p (entries.Rejoin sink previous)) es).left ≡ length p.left → ⊥
    too_few le is = omega (arith, le, is)

-- the links of a history in which none was left
pub one_is : (opened : LinkParameters) (numbers : ℕ → ℕ) (before : List Mark) (n : ℕ) (h : List Entry) → opened.resumed ≡ [] → rejoins h ≡ 0 → links_of opened numbers before n h ≡ one_link opened (numbers 0) before n h
unfolding links_of run_of
one_is opened numbers before n h first none = runs_on numbers n (record { opened = opened; link = numbers 0 }) first before no_link h none

-- what fits the one link fits the history
pub fits_links : (h : List Entry) (opened : LinkParameters) (link : ℕ) (before : List Mark) → rejoins h ≡ 0 → FitsOneLink h opened link before → FitsHistory h opened (λ k. link) before
fits_links h opened link before none (initial, is, fits) = (
  initial,
  is,
  record {
    opens = fits.opens;
    first = fits.live.stands.first;
    live = fits.live;
    new = record { apart = λ j k less within. absurd (no_more j k less within); unused = λ k some within. absurd (no_more 0 k some within) };
  },
)
  where
    no_more : (j k : ℕ) → j < k → k ≤ rejoins h → ⊥
    no_more j k less within = omega (arith, less, within, none)

-- so what is said of its links is said of that one
pub on_one_link : (Says : LinkRun → Type 0) (n : ℕ) (h : List Entry) → rejoins h ≡ 0 → OnLinks n h Says → (opened : LinkParameters) (link : ℕ) (before : List Mark) → FitsOneLink h opened link before → Says (one_link opened link before n h)
on_one_link Says n h none says opened link before fits =
    subst Says (one_is opened (λ k. link) before n h fits.2.live.stands.first.resumed none) (says opened (λ k. link) before (fits_links h opened link before none fits))
