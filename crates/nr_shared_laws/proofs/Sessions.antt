-- The links of a history that keeps the law are a session.
use Rattle.std.proofs.Common.{◌≡◌, ◌≢◌, ℕ, eqb, cond, ◌&&◌, ◌||◌, Bool, true, false, List, [], ◌∷◌, ◌++◌, length, map, refl, sym, ap, subst, ◌∙◌, append-nil}
use Rattle.std.specs.List.{AllByRecursion, list_any}
use Rattle.std.proofs.lemmas.Bool.{eqb-true, eq-eqb, ne_eqb}
use Rattle.nr_wire.specs.declared.hello.Side.{Side}
use Rattle.nr_wire.specs.declared.hello.Side.TheVariants.{Initiator, Responder}
use Rattle.nr_link.specs.Frames.{Frame}
use Rattle.nr_reduce.specs.declared.call.Submission.TheVariants as submissions
use Rattle.nr_reduce.specs.declared.mark.LinkParameters.{LinkParameters}
use Rattle.nr_reduce.specs.declared.mark.Mark.{Mark}
use Rattle.nr_reduce.specs.declared.mark.Mark.TheVariants as marks
use Rattle.nr_reduce.specs.Asked.{AskedSoFar}
use Rattle.nr_reduce.specs.Events.{RunEvent, events, events_at, events_from, if_own, mark_events}
use Rattle.nr_reduce.specs.Events.RunEvent.{CallExecuted, CallSubmitted, FrameReceived, MemoryRevoked, QueueWritten, ServerTold}
use Rattle.nr_reduce.specs.History.{same_side}
use Rattle.nr_reduce.specs.Opening.{IsOpened}
use Rattle.nr_reduce.specs.Reopening.{IsReopened}
use Rattle.nr_requester.specs.RequesterState.{RequesterSide}
use Rattle.nr_requester.specs.Reopening.{HasNoMark, link_of}
use Rattle.nr_laws.specs.OnceEach.{BegunLink, GoesOn, HasNotBegun, IsEarlier, IsNextLink}
use Rattle.nr_shared.specs.declared.entry.Entry.{Entry}
use Rattle.nr_shared.specs.LinkRuns.{AllLinks, FitsHistory, LinkRun, OpenedLink, links_of}
use Rattle.nr_shared.specs.LinkStanding.{IsLeft, IsLiveOn, KeepsLinkLaw}
use Rattle.nr_shared.specs.Output.{EntriesMayFollow}
use Rattle.nr_shared.specs.Standing.{RepresentsHistoryIf}
use Rattle.nr_shared_laws.specs.Sessions.{AreEarlier, AreOpened, IsAmong, IsSession, RepresentedLinksGoOn, SessionLinksGoOn, opened_among, opened_by, unnumbered}
use Rattle.nr_shared_laws.proofs.Following.{Apart, Chain}
use Rattle.nr_shared_laws.proofs.GoingOn.{all_go, links_apart}
use Rattle.nr_shared_laws.proofs.Prefixes.{IsLawful}

-- ---- A link that has no mark has no events

no_mark : (link : ℕ) (side : Side) (place : ℕ) (completed : List ℕ → List Frame) (mark : Mark) → link_of mark ≢ link → mark_events link side place completed mark ≡ []
no_mark link side place completed (marks.Submit l call form (submissions.Accepted xid)) other = λ i. if_own (ne_eqb l link other i && same_side Initiator side) (CallSubmitted place (record { xid = xid; call = call; form = form }) ∷ [])
no_mark link side place completed (marks.Submit l call form (submissions.Refused why)) other = refl
no_mark link side place completed (marks.Submit l call form submissions.Dropped) other = refl
no_mark link side place completed (marks.Wrote l s bytes) other = λ i. if_own (ne_eqb l link other i && same_side s side) (QueueWritten (length bytes) ∷ [])
no_mark link side place completed (marks.Fed l s bytes) other = λ i. if_own (ne_eqb l link other i && same_side s side) (map FrameReceived (completed bytes))
no_mark link side place completed (marks.Execute l xid moment payload at reply) other =
    λ i. if_own (ne_eqb l link other i && same_side Responder side) (CallExecuted (record { xid = xid; moment = moment; payload = payload; place = at; reply = reply }) ∷ [])
no_mark link side place completed (marks.Revoke l xid bytes) other = λ i. if_own (ne_eqb l link other i && same_side Initiator side) (MemoryRevoked place xid ∷ [])
no_mark link side place completed (marks.Done l xid outcome) other = refl
no_mark link side place completed (marks.Lost l xid) other = refl
no_mark link side place completed (marks.Forget l xid) other = refl
no_mark link side place completed (marks.Drop l) other = refl
no_mark link side place completed (marks.Told l what) other = λ i. if_own (ne_eqb l link other i && same_side Responder side) (ServerTold what ∷ [])

none_from : (link : ℕ) (side : Side) (before run : List Mark) → HasNoMark link run → events_from link side before run ≡ []
none_from link side before [] none = refl
none_from link side before (m ∷ run) none =
    ap (λ (es : List RunEvent). es ++ events_from link side (before ++ m ∷ []) run) (no_mark link side _ _ m none.0) ∙ none_from link side (before ++ m ∷ []) run none.1

not_begun : (link : ℕ) (run : List Mark) → HasNoMark link run → HasNotBegun link run
unfolding events
not_begun link run none = (none_from link Initiator [] run none, none_from link Responder [] run none)

-- ---- The links by their numbers

-- what each was opened with is found by its number
finds : (other : LinkParameters) (xs : List OpenedLink) → Apart xs → AllByRecursion (λ (e : OpenedLink). opened_among other xs e.link ≡ e.opened) xs
finds other [] apart = tt
finds other (x ∷ xs) apart = ((λ i. cond (eq-eqb x.link x.link refl i) x.opened (opened_among other xs x.link)), more xs apart.0 (finds other xs apart.1)) where
  more : (es : List OpenedLink) → AllByRecursion (λ (e : OpenedLink). x.link ≢ e.link) es → AllByRecursion (λ (e : OpenedLink). opened_among other xs e.link ≡ e.opened) es → AllByRecursion (λ (e : OpenedLink). opened_among other (x ∷ xs) e.link ≡ e.opened) es
  more [] others all = tt
  more (e ∷ es) others all = ((λ i. cond (ne_eqb x.link e.link others.0 i) x.opened (opened_among other xs e.link)) ∙ all.0, more es others.1 all.1)

not_among : (other : LinkParameters) (xs : List OpenedLink) (link : ℕ) → list_any (λ (e : OpenedLink). eqb e.link link) xs ≡ false → opened_among other xs link ≡ unnumbered other
not_among other [] link none = refl
not_among other (x ∷ xs) link none = by (eqb x.link link) none (not_among other xs link) where
  by : (b : Bool) → (b || list_any (λ (e : OpenedLink). eqb e.link link) xs) ≡ false → (list_any (λ (e : OpenedLink). eqb e.link link) xs ≡ false → opened_among other xs link ≡ unnumbered other) → cond b x.opened (opened_among other xs link) ≡ unnumbered other
  by true is later = absurd (let wrong : true ≡ false = is in cc)
  by false is later = later is

-- a link with a client number is one of these
pub numbered_among : (other : LinkParameters) (xs : List OpenedLink) (link : ℕ) → (opened_among other xs link).client.number ≢ 0 → IsAmong xs link
numbered_among other xs link numbered = by (list_any (λ (e : OpenedLink). eqb e.link link) xs) refl where
  by : (b : Bool) → list_any (λ (e : OpenedLink). eqb e.link link) xs ≡ b → IsAmong xs link
  by true is = is
  by false none = absurd (numbered (ap (λ (o : LinkParameters). o.client.number) (not_among other xs link none)))

-- what is so of each link is so of the one with a number
among_all : (P : LinkParameters → ℕ → Type 0) (other : LinkParameters) (xs : List OpenedLink) (link : ℕ) → AllByRecursion (λ (e : OpenedLink). P e.opened e.link) xs → IsAmong xs link → P (opened_among other xs link) link
among_all P other [] link all there = absurd (let wrong : false ≡ true = there in cc)
among_all P other (x ∷ xs) link all there = by (eqb x.link link) refl there (among_all P other xs link all.1) where
  by : (b : Bool) → eqb x.link link ≡ b → (b || list_any (λ (e : OpenedLink). eqb e.link link) xs) ≡ true → (IsAmong xs link → P (opened_among other xs link) link) → P (cond b x.opened (opened_among other xs link)) link
  by true is some later = subst (λ (k : ℕ). P x.opened k) (eqb-true x.link link is) all.0
  by false is some later = later some

-- ---- One link goes on from another

-- a link that one of these goes on from is one of them
pub in_session : (other : LinkParameters) (xs : List OpenedLink) (run : List Mark) (first : ℕ) (link : BegunLink) (links : List BegunLink) → GoesOn (opened_among other xs) run first link links → IsAmong xs link.link → IsAmong xs first
in_session other xs run first link [] goes there = subst (IsAmong xs) goes there
in_session other xs run first link (old ∷ links) goes there = in_session other xs run first old links goes.1 (numbered_among other xs old.link goes.0.reopened.numbered)

module _ (opened : ℕ → LinkParameters) (run : List Mark) where
  abbrev GoesTo : (first : ℕ) → OpenedLink → List Mark → Type 0
  GoesTo first x began = (links : List BegunLink) × GoesOn opened run first (record { link = x.link; began = began }) links

  reach : (x : OpenedLink) (began : List Mark) (left : List OpenedLink) → AllByRecursion (λ (e : OpenedLink). opened e.link ≡ e.opened) (x ∷ left) → Chain run x began left → AllByRecursion (λ (f : OpenedLink). GoesTo f.link x began) (x ∷ left)
  reach x began [] knows chain = (([], refl), tt)
  reach x began (e ∷ left) knows (old, f, rest) = (([], refl), later (e ∷ left) (reach e old left knows.1 rest)) where
    next : IsNextLink opened run (record { link = e.link; began = old }) (record { link = x.link; began = began })
    next = record {
      gap = f.gap;
      later = f.later;
      reopened = subst (λ (o : LinkParameters). IsReopened o (opened x.link) e.link run began) (sym knows.1.0) (subst (λ (o : LinkParameters). IsReopened e.opened o e.link run began) (sym knows.0) f.reopened);
      fresh = not_begun x.link began f.none;
    }

    later : (fs : List OpenedLink) → AllByRecursion (λ (g : OpenedLink). GoesTo g.link e old) fs → AllByRecursion (λ (g : OpenedLink). GoesTo g.link x began) fs
    later [] all = tt
    later (g ∷ fs) all = ((record { link = e.link; began = old } ∷ all.0.0, (next, all.0.1)), later fs all.1)

  to_earlier : (x : OpenedLink) (began : List Mark) (fs : List OpenedLink) → AllByRecursion (λ (f : OpenedLink). GoesTo f.link x began) fs → AllByRecursion (λ (f : OpenedLink). IsEarlier opened run f.link x.link) fs
  to_earlier x began [] all = tt
  to_earlier x began (f ∷ fs) all = (record { began = began; links = all.0.0; goes_on = all.0.1 }, to_earlier x began fs all.1)

  are_earlier : (x : OpenedLink) (began : List Mark) (left : List OpenedLink) → AllByRecursion (λ (e : OpenedLink). opened e.link ≡ e.opened) (x ∷ left) → Chain run x began left → AreEarlier opened run (x ∷ left)
  are_earlier x began [] knows chain = (to_earlier x began (x ∷ []) (reach x began [] knows chain), tt)
  are_earlier x began (e ∷ left) knows (old, f, rest) = (to_earlier x began (x ∷ e ∷ left) (reach x began (e ∷ left) knows (old, f, rest)), are_earlier e old left knows.1 rest)

-- ---- A history that keeps the law

lawful_all : (run : List Mark) (left : List OpenedLink) → AllByRecursion (λ (e : OpenedLink). KeepsLinkLaw e.opened e.link run) left → AllByRecursion (λ (e : OpenedLink). IsOpened e.opened) left → AllByRecursion (λ (e : OpenedLink). IsLawful e.opened e.link run) left
lawful_all run [] law opens = tt
lawful_all run (e ∷ left) law opens = ((law.0.asked, opens.0), lawful_all run left law.1 opens.1)

asked_all : (run : List Mark) (left : List OpenedLink) → AllByRecursion (λ (e : OpenedLink). KeepsLinkLaw e.opened e.link run) left → AllByRecursion (λ (e : OpenedLink). AskedSoFar e.opened e.link run) left
asked_all run [] law = tt
asked_all run (e ∷ left) law = (law.0.asked, asked_all run left law.1)

session_of : (history : List Entry) (opened : LinkParameters) (numbers : ℕ → ℕ) (before : List Mark) (n : ℕ) → FitsHistory history opened numbers before → EntriesMayFollow history → AllLinks KeepsLinkLaw (links_of opened numbers before n history)
    → AreOpened (links_of opened numbers before n history) → opened.client.number ≢ 0 → IsSession (links_of opened numbers before n history)
session_of history opened numbers before n fits follow law opens number =
    let l : LinkRun = links_of opened numbers before n history in
    let lawful : AllLinks IsLawful l = ((law.0.asked, opens.0), lawful_all l.run l.left law.1 opens.1) in
    let going = all_go history opened numbers before n fits follow lawful number in
    let apart : Apart (l.at ∷ l.left) = links_apart history opened numbers before n fits follow lawful history [] (sym (append-nil history)) in
    let all = l.at ∷ l.left in
    record {
      earlier = are_earlier (opened_by l) l.run l.at going.began l.left (finds l.at.opened all apart) going.chain;
      opened_with = λ link there earlier e.
          among_all (λ (o : LinkParameters) (m : ℕ). IsOpened o) l.at.opened all earlier opens (in_session l.at.opened all l.run earlier (record { link = link; began = e.began }) e.links e.goes_on there);
      asked_with = λ link there earlier e.
          among_all (λ (o : LinkParameters) (m : ℕ). AskedSoFar o m l.run) l.at.opened all earlier (law.0.asked, asked_all l.run l.left law.1)
          (in_session l.at.opened all l.run earlier (record { link = link; began = e.began }) e.links e.goes_on there);
    }

pub session_links_go_on : SessionLinksGoOn
session_links_go_on history opened numbers before k fits number opens = session_of history opened numbers before k.n fits k.may_follow (k.law opened numbers before fits) opens number

-- ---- A history that a requester stands for

left_opened : (l : LinkRun) (h : RequesterSide) (left : List OpenedLink) → AllByRecursion (IsLeft l h) left → AllByRecursion (λ (e : OpenedLink). IsOpened e.opened) left
left_opened l h [] all = tt
left_opened l h (e ∷ left) all = (all.0.opens, left_opened l h left all.1)

left_law : (l : LinkRun) (h : RequesterSide) (left : List OpenedLink) → AllByRecursion (IsLeft l h) left → AllByRecursion (λ (e : OpenedLink). KeepsLinkLaw e.opened e.link l.run) left
left_law l h [] all = tt
left_law l h (e ∷ left) all = (all.0.law, left_law l h left all.1)

pub represented_links_go_on : RepresentedLinksGoOn
represented_links_go_on initial r stopped history opened numbers before n is represents none follow fits =
    let l : LinkRun = links_of opened numbers before n history in
    let live = subst (λ (b : Bool). RepresentsHistoryIf b initial r history) none represents in
    let on : IsLiveOn l r = live.1 n opened numbers before fits in
    let opens : AreOpened l = (on.opens, left_opened l r l.left on.left) in
    (opens, λ number. session_of history opened numbers before n (initial, is, fits) follow (on.law, left_law l r l.left on.left) opens number)
