-- A requester goes on with the links of its history: by marks of the link at hand, and by an answer or a call that goes back.
use Rattle.std.proofs.Common.{◌≡◌, ◌≢◌, ℕ, ◌+◌, eqb, ◌&&◌, Bool, true, false, List, [], ◌∷◌, ◌++◌, refl, sym, ap, subst, ◌∙◌, append_assoc, append-nil}
use Rattle.std.proofs.lemmas.Bool.{eqb-true, eqb-false, ne_eqb}
use Rattle.std.specs.List.{AllByRecursion}
use Rattle.nr_wire.specs.declared.hello.Side.TheVariants.{Initiator, Responder}
use Rattle.nr_reduce.specs.declared.call.Submission.TheVariants as submissions
use Rattle.nr_reduce.specs.declared.mark.LinkParameters.{LinkParameters}
use Rattle.nr_reduce.specs.declared.mark.Mark.{Mark}
use Rattle.nr_reduce.specs.declared.mark.Mark.TheVariants as marks
use Rattle.nr_reduce.specs.Concerns.{is_judged}
use Rattle.nr_reduce.specs.History.{same_side}
use Rattle.nr_requester.specs.EarlierLinks.{KeepsEarlierBeside}
use Rattle.nr_requester.specs.RequesterState.{RequesterSide}
use Rattle.nr_requester.specs.ReopenedLinks.{KeepsEarlier, KeepsOn, RequesterKeeps, RequesterStops}
use Rattle.nr_requester.specs.Reopening.{HasNoMark, link_of}
use Rattle.nr_requester.proofs.OwnLaw.{others_keep_law}
use Rattle.nr_shared.specs.LinkRuns.{LinkRun, OpenedLink, call_link, is_of}
use Rattle.nr_shared.specs.LinkStanding.{IsLeft, IsLiveOn, IsOutOn, KeepsLinkLaw}
use Rattle.nr_shared.proofs.LinkRuns.{with_marks}

-- ---- The law of a link, by marks of others

judged_other : (link : ℕ) (mark : Mark) → link_of mark ≢ link → is_judged link Initiator mark ≡ false
judged_other link (marks.Submit l call form (submissions.Accepted xid)) other = λ i. ne_eqb l link other i && same_side Initiator Initiator
judged_other link (marks.Submit l call form (submissions.Refused why)) other = refl
judged_other link (marks.Submit l call form submissions.Dropped) other = refl
judged_other link (marks.Wrote l side bytes) other = λ i. ne_eqb l link other i && same_side side Initiator
judged_other link (marks.Fed l side bytes) other = refl
judged_other link (marks.Execute l xid moment payload place reply) other = λ i. ne_eqb l link other i && same_side Responder Initiator
judged_other link (marks.Done l xid outcome) other = λ i. ne_eqb l link other i && same_side Initiator Initiator
judged_other link (marks.Lost l xid) other = λ i. ne_eqb l link other i && same_side Initiator Initiator
judged_other link (marks.Forget l xid) other = λ i. ne_eqb l link other i && same_side Initiator Initiator
judged_other link (marks.Revoke l xid bytes) other = λ i. ne_eqb l link other i && same_side Initiator Initiator
judged_other link (marks.Drop l) other = refl
judged_other link (marks.Told l what) other = λ i. ne_eqb l link other i && same_side Responder Initiator

pub law_other : (opened : LinkParameters) (link : ℕ) (run : List Mark) (mark : Mark) → link_of mark ≢ link → KeepsLinkLaw opened link run → KeepsLinkLaw opened link (run ++ mark ∷ [])
law_other opened link run mark other law = let both = others_keep_law opened link run mark (judged_other link mark other) law.asked law.granted in record { asked = both.0; granted = both.1 }

pub law_others : (opened : LinkParameters) (link : ℕ) (run ms : List Mark) → HasNoMark link ms → KeepsLinkLaw opened link run → KeepsLinkLaw opened link (run ++ ms)
law_others opened link run [] none law = subst (KeepsLinkLaw opened link) (sym (append-nil run)) law
law_others opened link run (m ∷ ms) none law = subst (KeepsLinkLaw opened link) (append_assoc run (m ∷ []) ms) (law_others opened link (run ++ m ∷ []) ms none.1 (law_other opened link run m none.0 law))

-- ---- Marks of the link at hand

left_stay : (l : LinkRun) (h h' : RequesterSide) (ms : List Mark) (left : List OpenedLink) → KeepsEarlierBeside h h' → AllByRecursion (λ (e : OpenedLink). HasNoMark e.link ms) left → AllByRecursion (IsLeft l h) left → AllByRecursion (IsLeft (with_marks l ms) h') left
left_stay l h h' ms [] stays none all = tt
left_stay l h h' ms (e ∷ left) stays none all = (
  record { keeps = stays (is_of l e.link) e.opened e.link l.run ms all.0.keeps none.0; opens = all.0.opens; law = law_others e.opened e.link l.run ms none.0 all.0.law },
  left_stay l h h' ms left stays none.1 all.1,
)

pub goes_on : (l : LinkRun) (h h' : RequesterSide) (ms : List Mark) → (live : IsLiveOn l h) → RequesterKeeps (is_of l l.at.link) live.earlier l.at.opened l.at.link h' (l.run ++ ms) → KeepsLinkLaw l.at.opened l.at.link (l.run ++ ms)
    → KeepsEarlierBeside h h' → AllByRecursion (λ (e : OpenedLink). HasNoMark e.link ms) l.left → IsLiveOn (with_marks l ms) h'
goes_on l h h' ms live keeps law stays none = record { earlier = live.earlier; keeps = keeps; opens = live.opens; in_range = live.in_range; law = law; left = left_stay l h h' ms l.left stays none live.left }

pub runs_out : (l : LinkRun) (h h' : RequesterSide) (ms stopped : List Mark) → (live : IsLiveOn l h) → RequesterStops (is_of l l.at.link) live.earlier l.at.opened l.at.link h' stopped (l.run ++ ms) → KeepsLinkLaw l.at.opened l.at.link (l.run ++ ms)
    → KeepsEarlierBeside h h' → AllByRecursion (λ (e : OpenedLink). HasNoMark e.link ms) l.left → IsOutOn (with_marks l ms) h'
runs_out l h h' ms stopped live stops law stays none = record { earlier = live.earlier; stopped = stopped; keeps = stops; law = law; left = left_stay l h h' ms l.left stays none live.left }

pub stays_out : (l : LinkRun) (h h' : RequesterSide) (ms stopped : List Mark) → (out : IsOutOn l h) → RequesterStops (is_of l l.at.link) out.earlier l.at.opened l.at.link h' stopped (l.run ++ ms) → KeepsLinkLaw l.at.opened l.at.link (l.run ++ ms)
    → KeepsEarlierBeside h h' → AllByRecursion (λ (e : OpenedLink). HasNoMark e.link ms) l.left → IsOutOn (with_marks l ms) h'
stays_out l h h' ms stopped out stops law stays none = record { earlier = out.earlier; stopped = stopped; keeps = stops; law = law; left = left_stay l h h' ms l.left stays none out.left }

-- a mark of the link at hand is none of those that were left
pub none_left : (mark : Mark) (link : ℕ) (left : List OpenedLink) → link_of mark ≡ link → AllByRecursion (λ (e : OpenedLink). link ≢ e.link) left → AllByRecursion (λ (e : OpenedLink). HasNoMark e.link (mark ∷ [])) left
none_left mark link [] is apart = tt
none_left mark link (e ∷ left) is apart = (((λ same. apart.0 (sym is ∙ same)), tt), none_left mark link left is apart.1)

-- ---- A call that goes back

-- The call of this xid goes back by such a mark, and the requester is then in this state: what it keeps of each link, by the mark of the call's link.
pub record Closes (h h' : RequesterSide) (xid : ℕ) (mark : ℕ → Mark) : Type 0 where
  pub of : (link : ℕ) → link_of (mark link) ≡ link
  pub goes : (is_own : ℕ → Bool) (opened : LinkParameters) (link : ℕ) (run : List Mark) → KeepsEarlier is_own opened link h run → is_own xid ≡ true → KeepsEarlier is_own opened link h' (run ++ mark link ∷ [])
  pub stays : (is_own : ℕ → Bool) (opened : LinkParameters) (link : ℕ) (run : List Mark) (m : Mark) → KeepsEarlier is_own opened link h run → is_own xid ≡ false → link_of m ≢ link → KeepsEarlier is_own opened link h' (run ++ m ∷ [])
  pub law_left : (is_own : ℕ → Bool) (opened : LinkParameters) (link : ℕ) (run : List Mark) → KeepsEarlier is_own opened link h run → is_own xid ≡ true → KeepsLinkLaw opened link run → KeepsLinkLaw opened link (run ++ mark link ∷ [])

pub record ClosesLive (h h' : RequesterSide) (xid : ℕ) (mark : ℕ → Mark) : Type 0 where
  pub closes : Closes h h' xid mark
  pub keeps : KeepsOn h mark h'
  pub counts : (is_own : ℕ → Bool) (earlier : ℕ) (opened : LinkParameters) (link : ℕ) (run : List Mark) (m : Mark) → RequesterKeeps is_own earlier opened link h run → is_own xid ≡ false → link_of m ≢ link → RequesterKeeps is_own (earlier + 1) opened link h' (run ++ m ∷ [])
  pub law : (is_own : ℕ → Bool) (earlier : ℕ) (opened : LinkParameters) (link : ℕ) (run : List Mark) → RequesterKeeps is_own earlier opened link h run → is_own xid ≡ true → KeepsLinkLaw opened link run → KeepsLinkLaw opened link (run ++ mark link ∷ [])

-- the same of one that ran out of memory, which stops anew if the mark is an event
pub record ClosesOut (h h' : RequesterSide) (xid : ℕ) (mark : ℕ → Mark) : Type 0 where
  pub closes : Closes h h' xid mark
  pub keeps : (is_own : ℕ → Bool) (earlier : ℕ) (opened : LinkParameters) (link : ℕ) (stopped run : List Mark) → RequesterStops is_own earlier opened link h stopped run → (again : List Mark) × RequesterStops is_own earlier opened link h' again (run ++ mark link ∷ [])
  pub counts : (is_own : ℕ → Bool) (earlier : ℕ) (opened : LinkParameters) (link : ℕ) (stopped run : List Mark) (m : Mark) → RequesterStops is_own earlier opened link h stopped run → is_own xid ≡ false → link_of m ≢ link → RequesterStops is_own (earlier + 1) opened link h' stopped (run ++ m ∷ [])
  pub law : (is_own : ℕ → Bool) (earlier : ℕ) (opened : LinkParameters) (link : ℕ) (stopped run : List Mark) → RequesterStops is_own earlier opened link h stopped run → is_own xid ≡ true → KeepsLinkLaw opened link run → KeepsLinkLaw opened link (run ++ mark link ∷ [])

module _ (l : LinkRun) (h h' : RequesterSide) (xid : ℕ) (mark : ℕ → Mark) where
  -- the mark is one of the link of the call
  abbrev own_mark : Mark
  own_mark = mark (call_link l xid).link

  at_link : (link : ℕ) → is_of l link xid ≡ true → own_mark ≡ mark link
  at_link link is = ap mark (eqb-true (call_link l xid).link link is)

  other_link : (link : ℕ) → Closes h h' xid mark → is_of l link xid ≡ false → link_of own_mark ≢ link
  other_link link c is same = eqb-false (call_link l xid).link link is (sym (c.of (call_link l xid).link) ∙ same)

  close_left : (e : OpenedLink) → Closes h h' xid mark → IsLeft l h e → IsLeft (with_marks l (own_mark ∷ [])) h' e
  close_left e c left = by (is_of l e.link xid) refl where
    by : (b : Bool) → is_of l e.link xid ≡ b → IsLeft (with_marks l (own_mark ∷ [])) h' e
    by true own = record {
      keeps = subst (λ (m : Mark). KeepsEarlier (is_of l e.link) e.opened e.link h' (l.run ++ m ∷ [])) (sym (at_link e.link own)) (c.goes (is_of l e.link) e.opened e.link l.run left.keeps own);
      opens = left.opens;
      law = subst (λ (m : Mark). KeepsLinkLaw e.opened e.link (l.run ++ m ∷ [])) (sym (at_link e.link own)) (c.law_left (is_of l e.link) e.opened e.link l.run left.keeps own left.law);
    }
    by false other = record {
      keeps = c.stays (is_of l e.link) e.opened e.link l.run own_mark left.keeps other (other_link e.link c other);
      opens = left.opens;
      law = law_other e.opened e.link l.run own_mark (other_link e.link c other) left.law;
    }

  close_all : (left : List OpenedLink) → Closes h h' xid mark → AllByRecursion (IsLeft l h) left → AllByRecursion (IsLeft (with_marks l (own_mark ∷ [])) h') left
  close_all [] c all = tt
  close_all (e ∷ left) c all = (close_left e c all.0, close_all left c all.1)

  pub closes_live : ClosesLive h h' xid mark → IsLiveOn l h → IsLiveOn (with_marks l (own_mark ∷ [])) h'
  closes_live c live = by (is_of l l.at.link xid) refl where
    by : (b : Bool) → is_of l l.at.link xid ≡ b → IsLiveOn (with_marks l (own_mark ∷ [])) h'
    by true own = record {
      earlier = live.earlier;
      keeps = subst (λ (m : Mark). RequesterKeeps (is_of l l.at.link) live.earlier l.at.opened l.at.link h' (l.run ++ m ∷ [])) (sym (at_link l.at.link own)) (c.keeps (is_of l l.at.link) live.earlier l.at.opened l.at.link l.run live.keeps);
      opens = live.opens;
      in_range = live.in_range;
      law = subst (λ (m : Mark). KeepsLinkLaw l.at.opened l.at.link (l.run ++ m ∷ [])) (sym (at_link l.at.link own)) (c.law (is_of l l.at.link) live.earlier l.at.opened l.at.link l.run live.keeps own live.law);
      left = close_all l.left c.closes live.left;
    }
    by false other = record {
      earlier = live.earlier + 1;
      keeps = c.counts (is_of l l.at.link) live.earlier l.at.opened l.at.link l.run own_mark live.keeps other (other_link l.at.link c.closes other);
      opens = live.opens;
      in_range = live.in_range;
      law = law_other l.at.opened l.at.link l.run own_mark (other_link l.at.link c.closes other) live.law;
      left = close_all l.left c.closes live.left;
    }

  pub closes_out : ClosesOut h h' xid mark → IsOutOn l h → IsOutOn (with_marks l (own_mark ∷ [])) h'
  closes_out c out = by (is_of l l.at.link xid) refl where
    by : (b : Bool) → is_of l l.at.link xid ≡ b → IsOutOn (with_marks l (own_mark ∷ [])) h'
    by true own =
        let stops = c.keeps (is_of l l.at.link) out.earlier l.at.opened l.at.link out.stopped l.run out.keeps in
        record {
          earlier = out.earlier;
          stopped = stops.0;
          keeps = subst (λ (m : Mark). RequesterStops (is_of l l.at.link) out.earlier l.at.opened l.at.link h' stops.0 (l.run ++ m ∷ [])) (sym (at_link l.at.link own)) stops.1;
          law = subst (λ (m : Mark). KeepsLinkLaw l.at.opened l.at.link (l.run ++ m ∷ [])) (sym (at_link l.at.link own)) (c.law (is_of l l.at.link) out.earlier l.at.opened l.at.link out.stopped l.run out.keeps own out.law);
          left = close_all l.left c.closes out.left;
        }
    by false other = record {
      earlier = out.earlier + 1;
      stopped = out.stopped;
      keeps = c.counts (is_of l l.at.link) out.earlier l.at.opened l.at.link out.stopped l.run own_mark out.keeps other (other_link l.at.link c.closes other);
      law = law_other l.at.opened l.at.link l.run own_mark (other_link l.at.link c.closes other) out.law;
      left = close_all l.left c.closes out.left;
    }
