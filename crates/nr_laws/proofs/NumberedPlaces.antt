-- On matched links each call, new or kept, has the plain server's reply at its place in the one journal.
use Rattle.std.proofs.Common.{◌≡◌, ◌≢◌, ℕ, suc, Bool, true, false, cond, eqb, List, [], ◌∷◌, ◌++◌, length, take, drop, map, Option, Some, refl, sym, ap, subst, ◌∙◌, arith, append_assoc, length-append, ◌⊎◌, inl, inr}
use Rattle.std.proofs.lemmas.List.{take_at, drop_at, map-append}
use Rattle.nr_xdr.specs.Item.{IsBytes}
use Rattle.nr_outside.specs.declared.moment.Moment.{Moment}
use Rattle.nr_rpc.specs.Reading.{call_of, xid_of_call}
use Rattle.nr_reduce.specs.declared.call.Call.{Call}
use Rattle.nr_reduce.specs.declared.call.Form.{Form}
use Rattle.nr_reduce.specs.declared.call.Submission.TheVariants as submissions
use Rattle.nr_reduce.specs.declared.mark.Entry.{Entry}
use Rattle.nr_reduce.specs.declared.mark.LinkParameters.{LinkParameters}
use Rattle.nr_reduce.specs.declared.mark.Mark.{Mark}
use Rattle.nr_reduce.specs.declared.mark.Mark.TheVariants as marks
use Rattle.nr_reduce.specs.declared.mark.TaggedEntry.{TaggedEntry}
use Rattle.nr_reduce.specs.ClientState.{call_payload}
use Rattle.nr_reduce.specs.Journal.{AtPlace}
use Rattle.nr_reduce.specs.KeepsCalls.{KeepsCalls}
use Rattle.nr_reduce.specs.Matched.{IsPrefixOf}
use Rattle.nr_reduce.specs.NumberedJournal.{Standing, standing_for, tagged, tagged_by, added_by, tagged_journal, number_heard, entries_alone, IsExecutedBy, NumberedMark, JournaledByNumber}
use Rattle.nr_reduce.specs.NumberedJournal.Standing.{Old, Kept, New}
use Rattle.nr_reduce.specs.PlainJournal.{PlainServer}
use Rattle.nr_reduce.specs.Served.{ServedMark, IsExecuted}
use Rattle.nr_reduce.proofs.Calls.{executed_head}
use Rattle.nr_laws.specs.MarkAt.{MarkAt}
use Rattle.nr_laws.specs.MatchedSoFar.{MatchedSoFar}
use Rattle.nr_laws.specs.OnceEach.{BegunLink, IsEarlier, MatchedWithEarlier, OpenedWithEarlier, IsLinkOf, ClientIsMatched, NumberedLinksAreAtPlaces}
use Rattle.nr_laws.specs.Payloads.{HasPlan, form_conveyed}
use Rattle.nr_laws.specs.PlainLinks.{AtPlacesOn, server_with, AtPlaceOnMark}
use Rattle.nr_laws.specs.Typed.{TypedMark, IsTyped}
use Rattle.nr_laws.proofs.Basics.{some_is_lem}
use Rattle.nr_laws.proofs.EarlierLinks.{LinkKeeps, SameCall, same_call, each_earlier}
use Rattle.nr_laws.proofs.ExecutedPayloads.{executes_have_plans}
use Rattle.nr_laws.proofs.JournalPlaces.{journal_from, journal_parts, journal_more}
use Rattle.nr_laws.proofs.KeptEntries.{HaveSamePayload, kept_numbered, kept_is}
use Rattle.nr_laws.proofs.LaterMarks.{mark_later}
use Rattle.nr_laws.proofs.OnceByXid.{at_mark, before_mark}
use Rattle.nr_laws.proofs.OwnExecutes.{conveyed_bytes}
use Rattle.nr_laws.proofs.OwnPayloads.{payloads_are_own}
use Rattle.nr_laws.proofs.PlacedLinks.{each_is}

-- ---- A place among entries

-- a call that is answered over the entries in front, and adds those that follow them
placed : (plain : PlainServer) (J front back : List Entry) (moment : Moment) (payload : List ℕ) (place : ℕ) (reply : List ℕ) → J ≡ front ++ (plain.adds moment payload reply ++ back) → place ≡ length front → plain.Replies front moment payload reply
    → AtPlace plain J moment payload place reply
placed plain J front back moment payload place reply whole at replied =
    let own : List Entry = plain.adds moment payload reply in
    let first : take place J ≡ front = ap (λ (es : List Entry). take place es) whole ∙ take_at front (own ++ back) place (sym at) in
    let behind : drop place J ≡ own ++ back = ap (λ (es : List Entry). drop place es) whole ∙ drop_at front (own ++ back) place (sym at) in
    record {
      within = omega (arith, at, ap (λ (es : List Entry). length es) whole, length-append front (own ++ back));
      replied = subst (λ (es : List Entry). plain.Replies es moment payload reply) (sym first) replied;
      entry = ap (λ (es : List Entry). take (length own) es) behind ∙ take_at own back (length own) refl;
    }

alone_append : (xs ys : List TaggedEntry) → entries_alone (xs ++ ys) ≡ entries_alone xs ++ entries_alone ys
alone_append xs ys = map-append (λ (t : TaggedEntry). t.entry) xs ys

alone_length : (T : List TaggedEntry) → length (entries_alone T) ≡ length T
alone_length [] = refl
alone_length (t ∷ T) = ap (λ (n : ℕ). suc n) (alone_length T)

untagged_one : (b : Bool) (client xid : ℕ) (e : Entry) → (cond {A = TaggedEntry} b (record { entry = e; client = 0; xid = 0 }) (record { entry = e; client = client; xid = xid })).entry ≡ e
untagged_one true client xid e = refl
untagged_one false client xid e = refl

untagged : (client xid : ℕ) (es : List Entry) → entries_alone (map (tagged client xid) es) ≡ es
untagged client xid [] = refl
untagged client xid (e ∷ es) = (let own : (tagged client xid e).entry ≡ e = untagged_one (eqb client 0) client xid e in λ i. own i ∷ untagged client xid es i)

-- ---- The call that an Execute is of

pub record ExecutedOf (link : ℕ) (run : List Mark) (xid : ℕ) (payload : List ℕ) : Type 0 where
  pub call : Call
  pub form : Form
  pub before : List Mark
  pub after : List Mark
  pub is : run ≡ before ++ marks.Submit link call form (submissions.Accepted xid) ∷ after
  pub conveyed : form_conveyed form (call_payload xid call) ≡ Some payload
  pub bytes : IsBytes payload
  pub head : xid_of_call (call_of payload) ≡ Some xid

pub executed_of : (opened : LinkParameters) (link : ℕ) (run before after : List Mark) (xid : ℕ) (moment : Moment) (payload : List ℕ) (place : ℕ) (reply : List ℕ) → IsTyped run → MatchedSoFar opened link run
    → run ≡ before ++ marks.Execute link xid moment payload place reply ∷ after → ExecutedOf link run xid payload
executed_of opened link run before after xid moment payload place reply typed far is =
    let execute : Mark = marks.Execute link xid moment payload place reply in
    let there : MarkAt run before execute = record { after = after; is = is } in
    let p = executes_have_plans opened link run before xid moment payload place reply typed far there in
    let h = p.1 in
    let submit : Mark = marks.Submit link h.call h.form (submissions.Accepted xid) in
    let at : MarkAt run h.before submit = mark_later run before execute after h.before submit is h.at in
    let has : HasPlan opened link run xid p.0 = record { call = h.call; form = h.form; before = h.before; at = at; planned = h.planned } in
    let own = payloads_are_own opened link run before xid p.0 moment payload place reply typed far has there in
    let executed : IsExecuted opened link before xid payload = at_mark (ServedMark IsPrefixOf opened link) run before execute after is far.served refl in
    let head = executed_head opened link before xid payload executed in
    record {
      call = h.call;
      form = h.form;
      before = h.before;
      after = at.after;
      is = at.is;
      conveyed = own;
      bytes = conveyed_bytes h.form (call_payload xid h.call) payload (at_mark TypedMark run h.before submit at.after at.is typed).0 own;
      head = ap xid_of_call head.1.0 ∙ ap (λ (n : ℕ). Some n) head.1.1;
    }

-- what an earlier link has of an xid is what this link has
pub same_earlier : (opened : ℕ → LinkParameters) (run : List Mark) (first link : ℕ) → IsEarlier opened run first link → OpenedWithEarlier opened run link → MatchedWithEarlier opened run link
    → (before rest : List Mark) (call : Call) (form : Form) (xid : ℕ) → run ≡ before ++ marks.Submit first call form (submissions.Accepted xid) ∷ rest → SameCall opened run link xid call form
same_earlier opened run first link e opens matched before rest call form xid is =
    let itself : IsEarlier opened run link link = record { began = []; links = []; goes_on = refl } in
    let last : BegunLink = record { link = link; began = e.began } in
    let own : LinkKeeps opened run last = record { opens = opens link itself; asked = (matched link itself).asked } in
    same_call opened run first before rest call form xid is last e.links (
      own,
      each_earlier opened run first last e.links (LinkKeeps opened run) e.goes_on
          (λ earlier part h.
          (let there : IsEarlier opened run earlier.link link = record { began = e.began; links = part; goes_on = h } in
          record { opens = opens earlier.link there; asked = (matched earlier.link there).asked })),
    )
    e.goes_on

-- so both are executed with the same payload
pub same_payload : (opened : ℕ → LinkParameters) (run : List Mark) (first link xid : ℕ) (p q : List ℕ) → IsEarlier opened run first link → OpenedWithEarlier opened run link → MatchedWithEarlier opened run link
    → ExecutedOf first run xid p → ExecutedOf link run xid q → p ≡ q
same_payload opened run first link xid p q e opens matched x y =
    let same = (same_earlier opened run first link e opens matched x.before x.after x.call x.form xid x.is).submitted y.before y.after y.call y.form y.is in
    some_is_lem p q (sym x.conveyed ∙ (λ i. form_conveyed (sym same.1 i) (call_payload xid (sym same.0 i))) ∙ y.conveyed)

module _ (reply_to : List Entry → Moment → List ℕ → Option (List ℕ)) (adds : Moment → List ℕ → List ℕ → List Entry) (opened : ℕ → LinkParameters) (link : ℕ) (T : List TaggedEntry) (run : List Mark) (typed : IsTyped run)
    (journaled : JournaledByNumber (server_with reply_to adds) (number_heard run) T run) (keeps : KeepsCalls reply_to adds) (matched : number_heard run link ≢ 0 → MatchedSoFar (opened link) link run)
    (same_payloads : number_heard run link ≢ 0 → (before after : List Mark) (xid : ℕ) (moment : Moment) (payload : List ℕ) (place : ℕ) (reply : List ℕ) → run ≡ before ++ marks.Execute link xid moment payload place reply ∷ after
    → HaveSamePayload (number_heard run) before (number_heard run link) xid payload) where
  abbrev plain : PlainServer
  plain = server_with reply_to adds

  abbrev number : ℕ → ℕ
  number = number_heard run

  module _ (before after : List Mark) (xid : ℕ) (moment : Moment) (payload : List ℕ) (place : ℕ) (reply : List ℕ) (is : run ≡ before ++ marks.Execute link xid moment payload place reply ∷ after) where
    abbrev execute : Mark
    execute = marks.Execute link xid moment payload place reply

    abbrev J : List TaggedEntry
    J = journal_from reply_to adds number [] before

    -- ---- A new call

    new_placed : standing_for (tagged_journal plain number before) (number link) xid ≡ New → IsExecutedBy plain (tagged_journal plain number before) New moment payload place reply → AtPlace plain (entries_alone T) moment payload place reply
    unfolding tagged_journal
    new_placed new law =
        let own : List TaggedEntry = map (tagged (number link) xid) (adds moment payload reply) in
        let added : tagged_by plain number J execute ≡ own = ap (λ (s : Standing). added_by s own) new in
        let more = journal_more reply_to adds number (J ++ tagged_by plain number J execute) after in
        let journal_is : T ≡ J ++ (own ++ more.0) =
        sym journaled.is ∙ ap (λ (r : List Mark). journal_from reply_to adds number [] r) is ∙ journal_parts reply_to adds number [] before (execute ∷ after) ∙ more.1
        ∙ ap (λ (xs : List TaggedEntry). (J ++ xs) ++ more.0) added ∙ append_assoc J own more.0 in
        let alone : entries_alone T ≡ entries_alone J ++ (adds moment payload reply ++ entries_alone more.0) =
        ap entries_alone journal_is ∙ alone_append J (own ++ more.0)
        ∙ ap (λ (es : List Entry). entries_alone J ++ es) (alone_append own more.0 ∙ ap (λ (es : List Entry). es ++ entries_alone more.0) (untagged (number link) xid (adds moment payload reply))) in
        placed plain (entries_alone T) (entries_alone J) (entries_alone more.0) moment payload place reply alone (law.0 ∙ sym (alone_length J)) law.1

    -- ---- A kept call

    kept_placed : (at : ℕ) → standing_for (tagged_journal plain number before) (number link) xid ≡ Kept at → IsExecutedBy plain (tagged_journal plain number before) (Kept at) moment payload place reply → AtPlace plain (entries_alone T) moment payload place reply
    unfolding tagged_journal
    kept_placed at kept law =
        let some = kept_numbered (tagged_journal plain number before) (number link) xid at kept in
        let y = executed_of (opened link) link run before after xid moment payload place reply typed (matched some) is in
        let each = before_mark (NumberedMark plain number) run before execute after is journaled.each in
        let e = kept_is reply_to adds number before keeps (number link) xid at moment payload place reply some each (same_payloads some before after xid moment payload place reply is) y.bytes y.head kept law in
        let k = law.1 in
        let more = journal_more reply_to adds number J (execute ∷ after) in
        let journal_is : T ≡ k.earlier ++ k.own ∷ (k.later ++ more.0) =
        sym journaled.is ∙ ap (λ (r : List Mark). journal_from reply_to adds number [] r) is ∙ journal_parts reply_to adds number [] before (execute ∷ after) ∙ more.1
        ∙ ap (λ (U : List TaggedEntry). U ++ more.0) k.is_cut ∙ append_assoc k.earlier (k.own ∷ k.later) more.0 in
        let alone : entries_alone T ≡ entries_alone k.earlier ++ (adds moment payload reply ++ entries_alone (k.later ++ more.0)) =
        ap entries_alone journal_is ∙ alone_append k.earlier (k.own ∷ (k.later ++ more.0))
        ∙ ap (λ (es : List Entry). entries_alone k.earlier ++ (es ++ entries_alone (k.later ++ more.0))) (sym e.adds_is) in
        placed plain (entries_alone T) (entries_alone k.earlier) (entries_alone (k.later ++ more.0)) moment payload place reply alone (k.is_place ∙ sym (alone_length k.earlier)) e.replied

    execute_placed : AtPlace plain (entries_alone T) moment payload place reply
    execute_placed = by (standing_for (tagged_journal plain number before) (number link) xid) refl (at_mark (NumberedMark plain number) run before execute after is journaled.each)
      where
        by : (s : Standing) → standing_for (tagged_journal plain number before) (number link) xid ≡ s → IsExecutedBy plain (tagged_journal plain number before) s moment payload place reply → AtPlace plain (entries_alone T) moment payload place reply
        by (Old top) own law = absurd law
        by (Kept at) own law = kept_placed at own law
        by New own law = new_placed own law

  mark_placed : (before : List Mark) (mark : Mark) (after : List Mark) → run ≡ before ++ mark ∷ after → AtPlaceOnMark plain (entries_alone T) link before mark
  mark_placed before (marks.Execute l xid moment payload place reply) after is = λ own.
      execute_placed before after xid moment payload place reply (is ∙ ap (λ (n : ℕ). before ++ marks.Execute n xid moment payload place reply ∷ after) own)
  mark_placed before (marks.Submit l call form answer) after is = tt
  mark_placed before (marks.Wrote l side bytes) after is = tt
  mark_placed before (marks.Fed l side bytes) after is = tt
  mark_placed before (marks.Done l xid outcome) after is = tt
  mark_placed before (marks.Lost l xid) after is = tt
  mark_placed before (marks.Forget l xid) after is = tt
  mark_placed before (marks.Revoke l xid bytes) after is = tt
  mark_placed before (marks.Drop l) after is = tt
  mark_placed before (marks.Told l what) after is = tt

pub links_at_places : (reply_to : List Entry → Moment → List ℕ → Option (List ℕ)) (adds : Moment → List ℕ → List ℕ → List Entry) (opened : ℕ → LinkParameters) (link : ℕ) (T : List TaggedEntry) (run : List Mark) → IsTyped run
    → JournaledByNumber (server_with reply_to adds) (number_heard run) T run → KeepsCalls reply_to adds → (number_heard run link ≢ 0 → MatchedSoFar (opened link) link run)
    → (number_heard run link ≢ 0 → (before after : List Mark) (xid : ℕ) (moment : Moment) (payload : List ℕ) (place : ℕ) (reply : List ℕ) → run ≡ before ++ marks.Execute link xid moment payload place reply ∷ after
    → HaveSamePayload (number_heard run) before (number_heard run link) xid payload) → AtPlacesOn (server_with reply_to adds) (entries_alone T) link run
links_at_places reply_to adds opened link T run typed journaled keeps matched same =
    each_is (AtPlaceOnMark (server_with reply_to adds) (entries_alone T) link) run [] (mark_placed reply_to adds opened link T run typed journaled keeps matched same)

-- ---- All links of the client are matched

module _ (opened : ℕ → LinkParameters) (link : ℕ) (run : List Mark) (typed : IsTyped run) (clients : IsLinkOf opened run (number_heard run link) link) (matched : number_heard run link ≢ 0 → ClientIsMatched opened run (number_heard run link)) where
  itself : (other : ℕ) → IsEarlier opened run other other
  itself other = record { began = []; links = []; goes_on = refl }

  far : number_heard run link ≢ 0 → MatchedSoFar (opened link) link run
  far some = (matched some link refl).1 link (itself link)

  same_payloads : number_heard run link ≢ 0 → (before after : List Mark) (xid : ℕ) (moment : Moment) (payload : List ℕ) (place : ℕ) (reply : List ℕ) → run ≡ before ++ marks.Execute link xid moment payload place reply ∷ after
      → HaveSamePayload (number_heard run) before (number_heard run link) xid payload
  same_payloads some before after xid moment payload place reply is other same front mid now bytes at answer there =
      let execute : Mark = marks.Execute link xid moment payload place reply in
      let earliest : Mark = marks.Execute other xid now bytes at answer in
      let in_run : run ≡ front ++ earliest ∷ (mid ++ execute ∷ after) = is ∙ ap (λ (r : List Mark). r ++ execute ∷ after) there ∙ append_assoc front (earliest ∷ mid) (execute ∷ after) in
      let mine = matched some link refl in
      let its = matched some other same in
      let x = executed_of (opened other) other run front (mid ++ execute ∷ after) xid now bytes at answer typed (its.1 other (itself other)) in_run in
      let y = executed_of (opened link) link run before after xid moment payload place reply typed (far some) is in
      by xid bytes payload other x y mine its (clients other some same)
    where
      by : (n : ℕ) (bytes payload : List ℕ) (other : ℕ) → ExecutedOf other run n bytes → ExecutedOf link run n payload → OpenedWithEarlier opened run link × MatchedWithEarlier opened run link → OpenedWithEarlier opened run other × MatchedWithEarlier opened run other
          → IsEarlier opened run link other ⊎ IsEarlier opened run other link → bytes ≡ payload
      by n bytes payload other x y mine its (inl later) = sym (same_payload opened run link other n payload bytes later its.0 its.1 y x)
      by n bytes payload other x y mine its (inr earlier) = same_payload opened run other link n bytes payload earlier mine.0 mine.1 x y

pub numbered_links_are_at_places : NumberedLinksAreAtPlaces
numbered_links_are_at_places reply_to adds opened link T run typed journaled keeps clients matched =
    links_at_places reply_to adds opened link T run typed journaled keeps (far opened link run typed clients matched) (same_payloads opened link run typed clients matched)
