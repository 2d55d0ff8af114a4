-- The links of a history that keeps the law go on from one another.
use Rattle.std.proofs.Common.{◌≡◌, ◌≢◌, ℕ, suc, ◌<◌, ◌≤◌, arith, Bool, true, false, List, [], ◌∷◌, ◌++◌, length, map, take, Option, None, Some, inl, refl, sym, ap, subst, ◌∙◌, append_assoc, append-nil}
use Rattle.std.specs.List.{AllByRecursion}
use Rattle.nr_wire.specs.declared.hello.Side.TheVariants.{Initiator}
use Rattle.nr_link.specs.declared.agreement.SideTerms.{SideTerms}
use Rattle.nr_reduce.specs.declared.call.Submission.TheVariants as submissions
use Rattle.nr_reduce.specs.declared.mark.LinkParameters.{LinkParameters}
use Rattle.nr_reduce.specs.declared.mark.Mark.{Mark}
use Rattle.nr_reduce.specs.declared.mark.Mark.TheVariants as marks
use Rattle.nr_reduce.specs.Asked.{AskedMark}
use Rattle.nr_reduce.specs.ClientState.{WaitingCall, stag_after}
use Rattle.nr_reduce.specs.Events.{events}
use Rattle.nr_reduce.specs.Limits.{numbers_end}
use Rattle.nr_reduce.specs.Matched.{IsPrefixOf}
use Rattle.nr_reduce.specs.Reopening.{reopened}
use Rattle.nr_reduce.specs.Resending.{resend_mark}
use Rattle.nr_reduce.specs.Run.{client}
use Rattle.nr_reduce.specs.SubmitAnswer.{calls_to_resend}
use Rattle.nr_reduce.proofs.Placing.{AtEachMark_at}
use Rattle.nr_requester.specs.Reopening.{HasNoMark, link_of}
use Rattle.nr_shared.specs.declared.entry.Entry.{Entry}
use Rattle.nr_shared.specs.declared.entry.Entry.TheVariants as entries
use Rattle.nr_shared.specs.Histories.{rejoins}
use Rattle.nr_shared.specs.LinkRuns.{AllLinks, AreNew, FitsHistory, LinkRun, OpenedLink, call_link, first_link, last_carrier, links_of, marks_at, next_link}
use Rattle.nr_shared.specs.Output.{EntriesMayFollow, MayFollow, MayRejoin}
use Rattle.nr_shared.proofs.Histories.{rejoins_grow}
use Rattle.nr_shared.proofs.LinkRuns.{AreNumbered, apart_from, is_rejoin, left_is, links_end, links_more, none_resent, numbers_of, with_marks}
use Rattle.nr_shared.proofs.LinkSteps.{none_left}
use Rattle.nr_shared_laws.proofs.Following.{Apart, AskEach, Chain, IsGiving, chain_call, chain_others, done_gives, forget_gives, lost_gives, revoke_gives}
use Rattle.nr_shared_laws.proofs.Prefixes.{IsLawful, IsWhole, lawful_begin, live_at, whole_end}

-- ---- Links that go on

pub record Going (l : LinkRun) : Type 0 where
  pub began : List Mark
  pub rest : List Mark
  pub is : l.run ≡ began ++ rest
  pub chain : Chain l.run l.at began l.left
  pub numbered : l.at.opened.client.number ≢ 0

going_own : (l : LinkRun) (ms : List Mark) → AllByRecursion (λ (e : OpenedLink). HasNoMark e.link ms) l.left → Going l → Going (with_marks l ms)
going_own l ms none g = record {
  began = g.began;
  rest = g.rest ++ ms;
  is = ap (λ (r : List Mark). r ++ ms) g.is ∙ append_assoc g.began g.rest ms;
  chain = chain_others ms l.run l.left l.at g.began none g.chain;
  numbered = g.numbered;
}

going_call : (l : LinkRun) (mark : ℕ → Mark) (xid : ℕ) → IsGiving mark xid → Apart (l.at ∷ l.left) → AskEach l.run (mark (call_link l xid).link) l.left → Going l → Going (with_marks l (mark (call_link l xid).link ∷ []))
going_call l mark xid gives apart asks g =
    let m = mark (call_link l xid).link in
    record {
      began = g.began;
      rest = g.rest ++ m ∷ [];
      is = ap (λ (r : List Mark). r ++ m ∷ []) g.is ∙ append_assoc g.began g.rest (m ∷ []);
      chain = chain_call mark xid gives l.run (call_link l xid).link l.left l.at g.began refl apart asks g.chain;
      numbered = g.numbered;
    }

pub client_kept : (opened : LinkParameters) (link : ℕ) (run : List Mark) → (reopened opened link run).client ≡ opened.client
unfolding reopened
client_kept opened link run = refl

going_next : (next : ℕ) (l : LinkRun) → (client l.at.opened l.at.link l.run).ended ≡ None → stag_after (reopened l.at.opened l.at.link l.run).first_stag (reopened l.at.opened l.at.link l.run).resumed ≤ numbers_end → HasNoMark next l.run → Going l → Going (next_link next l)
going_next next l stays stags none g = record {
  began = l.run;
  rest = [];
  is = sym (append-nil l.run);
  chain = (
    g.began,
    record {
      gap = g.rest;
      later = g.is;
      reopened = record {
        after = [];
        is_cut = sym (append-nil l.run);
        numbered = g.numbered;
        stays = stays;
        late = [];
        left = sym (append-nil (events l.at.link Initiator l.run));
        harmless = tt;
        given_up = λ xid e. inl e;
        next = refl;
        stags = stags;
      };
      none = none;
      same = refl;
    },
    g.chain,
  );
  numbered = λ none. g.numbered (sym (ap (λ (c : SideTerms). c.number) (client_kept l.at.opened l.at.link l.run)) ∙ none);
}

-- ---- The marks of an entry

all_none : (left : List OpenedLink) → AllByRecursion (λ (e : OpenedLink). HasNoMark e.link []) left
all_none [] = tt
all_none (e ∷ left) = (tt, all_none left)

fed_none : (mark : Mark) (link : ℕ) (ws : List WaitingCall) (left : List OpenedLink) → link_of mark ≡ link → AllByRecursion (λ (e : OpenedLink). link ≢ e.link) left → AllByRecursion (λ (e : OpenedLink). HasNoMark e.link (mark ∷ map (resend_mark link) ws)) left
fed_none mark link ws [] is apart = tt
fed_none mark link ws (e ∷ left) is apart = (((λ same. apart.0 (sym is ∙ same)), none_resent e.link link ws apart.0), fed_none mark link ws left is apart.1)

-- what the law of each link that was left asks of the last mark
asks_last : (run : List Mark) (mark : Mark) (left : List OpenedLink) → AllByRecursion (λ (e : OpenedLink). IsLawful e.opened e.link (run ++ mark ∷ [])) left → AskEach run mark left
asks_last run mark [] all = tt
asks_last run mark (e ∷ left) all = (AtEachMark_at (AskedMark IsPrefixOf e.opened e.link) [] run mark [] all.0.0, asks_last run mark left all.1)

going_entry : (n : ℕ) (l : LinkRun) (e : Entry) → is_rejoin e ≡ false → Apart (l.at ∷ l.left) → AllLinks IsLawful (with_marks l (marks_at n l e)) → Going l → Going (with_marks l (marks_at n l e))
going_entry n l (entries.Initial initial) none apart lawful g = going_own l [] (all_none l.left) g
going_entry n l (entries.Submit call form xid) none apart lawful g = let m : Mark = marks.Submit l.at.link call form (submissions.Accepted xid) in going_own l (m ∷ []) (none_left m l.at.link l.left refl apart.0) g
going_entry n l (entries.Wrote bytes) none apart lawful g = let m : Mark = marks.Wrote l.at.link Initiator bytes in going_own l (m ∷ []) (none_left m l.at.link l.left refl apart.0) g
going_entry n l (entries.Fed bytes previous) none apart lawful g =
    let m : Mark = marks.Fed l.at.link Initiator bytes in
    going_own l (marks_at n l (entries.Fed bytes previous)) (fed_none m l.at.link (calls_to_resend (client l.at.opened l.at.link (l.run ++ m ∷ []))) l.left refl apart.0) g
going_entry n l (entries.Done xid outcome submit) none apart lawful g =
    going_call l (λ link. marks.Done link xid outcome) xid (done_gives xid outcome) apart (asks_last l.run (marks.Done (call_link l xid).link xid outcome) l.left lawful.1) g
going_entry n l (entries.Lost xid submit) none apart lawful g = going_call l (λ link. marks.Lost link xid) xid (lost_gives xid) apart (asks_last l.run (marks.Lost (call_link l xid).link xid) l.left lawful.1) g
going_entry n l (entries.Forget xid submit) none apart lawful g = going_call l (λ link. marks.Forget link xid) xid (forget_gives xid) apart (asks_last l.run (marks.Forget (call_link l xid).link xid) l.left lawful.1) g
going_entry n l (entries.Revoke xid bytes submit) none apart lawful g =
    going_call l (λ link. marks.Revoke link xid bytes) xid (revoke_gives xid bytes) apart (asks_last l.run (marks.Revoke (call_link l xid).link xid bytes) l.left lawful.1) g
going_entry n l entries.WriteFailed none apart lawful g = going_own l [] (all_none l.left) g
going_entry n l (entries.Stopped cause previous) none apart lawful g = going_own l [] (all_none l.left) g
going_entry n l (entries.OutOfMemory piece previous) none apart lawful g =
    going_own l (marks_at n l (entries.OutOfMemory piece previous)) (fed_none (marks.Fed l.at.link Initiator (take n piece)) l.at.link [] l.left refl apart.0) g
going_entry n l (entries.Rejoin sink previous) none apart lawful g = absurd cc

-- ---- The numbers

pub apart_all : (numbers : ℕ → ℕ) (most : ℕ) → ((i j : ℕ) → i < j → j ≤ most → numbers i ≢ numbers j) → (x : OpenedLink) (left : List OpenedLink) → length left ≤ most → AreNumbered numbers (x ∷ left) → Apart (x ∷ left)
apart_all numbers most apart x [] le all = (tt, tt)
apart_all numbers most apart x (e ∷ left) le all =
    (apart_from numbers most x.link (suc (length left)) (e ∷ left) apart all.0 (omega arith) le all.1, apart_all numbers most apart e left (omega (arith, le)) all.1)

-- ---- The whole history

module _ (history : List Entry) (opened : LinkParameters) (numbers : ℕ → ℕ) (before : List Mark) (n : ℕ) (fits : FitsHistory history opened numbers before) (follow : EntriesMayFollow history) (lawful : AllLinks IsLawful (links_of opened numbers before n history)) where
  new : AreNew numbers (rejoins history) before
  new = fits.2.new

  few : (h ys : List Entry) → history ≡ h ++ ys → length (links_of opened numbers before n h).left ≤ rejoins history
  few h ys is =
      let left : length (links_of opened numbers before n h).left ≡ rejoins h = left_is opened numbers before n h in
      let grow : rejoins h ≤ rejoins (h ++ ys) = rejoins_grow h ys in
      let same : rejoins history ≡ rejoins (h ++ ys) = ap rejoins is in
      omega (arith, left, grow, same)

  pub links_apart : (h ys : List Entry) → history ≡ h ++ ys → Apart ((links_of opened numbers before n h).at ∷ (links_of opened numbers before n h).left)
  links_apart h ys is = let l = links_of opened numbers before n h in apart_all numbers (rejoins history) new.apart l.at l.left (few h ys is) (numbers_of opened numbers before n (rejoins history) h new).numbered

  record State (h : List Entry) : Type 0 where
    pub going : Going (links_of opened numbers before n h)
    pub whole : IsWhole opened numbers before n h

  step : (h : List Entry) (e : Entry) (ys : List Entry) → history ≡ h ++ e ∷ ys → State h → State (h ++ e ∷ [])
  step h e ys is s = record { going = by (is_rejoin e) refl; whole = whole_end opened numbers before n h e may s.whole } where
    l : LinkRun
    l = links_of opened numbers before n h

    may : MayFollow h e
    may = follow h ys e is

    more : history ≡ (h ++ e ∷ []) ++ ys
    more = is ∙ sym (append_assoc h (e ∷ []) ys)

    now : AllLinks IsLawful (links_of opened numbers before n (h ++ e ∷ []))
    now = lawful_begin opened numbers before n (h ++ e ∷ []) ys (subst (λ (x : List Entry). AllLinks IsLawful (links_of opened numbers before n x)) more lawful)

    next_few : (f : Entry) → history ≡ h ++ f ∷ ys → links_of opened numbers before n (h ++ f ∷ []) ≡ next_link (numbers (suc (length l.left))) l → suc (length l.left) ≤ rejoins history
    next_few f at end =
        let below = few (h ++ f ∷ []) ys (at ∙ sym (append_assoc h (f ∷ []) ys)) in
        let size : length (links_of opened numbers before n (h ++ f ∷ [])).left ≡ suc (length l.left) = ap (λ (k : LinkRun). length k.left) end in
        omega (arith, below, size)

    rejoined : (f : Entry) → is_rejoin f ≡ true → history ≡ h ++ f ∷ ys → MayFollow h f → AllLinks IsLawful (links_of opened numbers before n (h ++ f ∷ [])) → Going (links_of opened numbers before n (h ++ f ∷ []))
    rejoined (entries.Rejoin sink previous) re at can all =
        let next = numbers (suc (length l.left)) in
        let end : links_of opened numbers before n (h ++ entries.Rejoin sink previous ∷ []) ≡ next_link next l = links_end opened numbers before n h (entries.Rejoin sink previous) in
        let fitting : FitsHistory (h ++ entries.Rejoin sink previous ∷ ys) opened numbers before = subst (λ (x : List Entry). FitsHistory x opened numbers before) at fits in
        let here : AllLinks IsLawful (next_link next l) = subst (λ (k : LinkRun). AllLinks IsLawful k) end all in
        let le : suc (length l.left) ≤ rejoins history = next_few (entries.Rejoin sink previous) at end in
        subst Going (sym end)
        (going_next next l (live_at opened numbers before n h (entries.Rejoin sink previous ∷ ys) fitting s.whole can) here.0.1.stag_fits
        ((numbers_of opened numbers before n (rejoins history) h new).unused (suc (length l.left)) (omega arith) le) s.going)
    rejoined (entries.Initial initial) re at can all = absurd cc
    rejoined (entries.Submit call form xid) re at can all = absurd cc
    rejoined (entries.Wrote bytes) re at can all = absurd cc
    rejoined (entries.Fed bytes previous) re at can all = absurd cc
    rejoined (entries.Done xid outcome submit) re at can all = absurd cc
    rejoined (entries.Lost xid submit) re at can all = absurd cc
    rejoined (entries.Forget xid submit) re at can all = absurd cc
    rejoined (entries.Revoke xid bytes submit) re at can all = absurd cc
    rejoined entries.WriteFailed re at can all = absurd cc
    rejoined (entries.Stopped cause previous) re at can all = absurd cc
    rejoined (entries.OutOfMemory piece previous) re at can all = absurd cc

    by : (b : Bool) → is_rejoin e ≡ b → Going (links_of opened numbers before n (h ++ e ∷ []))
    by true re = rejoined e re is may now
    by false none =
        let end : links_of opened numbers before n (h ++ e ∷ []) ≡ with_marks l (marks_at n l e) = links_more opened numbers before n h e none in
        subst Going (sym end) (going_entry n l e none (links_apart h (e ∷ ys) is) (subst (λ (k : LinkRun). AllLinks IsLawful k) end now) s.going)

  go : (h ys : List Entry) → history ≡ h ++ ys → State h → State (h ++ ys)
  go h [] is s = subst State (sym (append-nil h)) s
  go h (e ∷ ys) is s = subst State (append_assoc h (e ∷ []) ys) (go (h ++ e ∷ []) ys (is ∙ sym (append_assoc h (e ∷ []) ys)) (step h e ys is s))

  first : opened.client.number ≢ 0 → State []
  unfolding links_of
  first numbered = record { going = record { began = []; rest = before; is = refl; chain = tt; numbered = numbered }; whole = inl refl }

  pub all_go : opened.client.number ≢ 0 → Going (links_of opened numbers before n history)
  all_go numbered = (go [] history refl (first numbered)).going
