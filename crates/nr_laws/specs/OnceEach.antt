-- Each change once: over any number of links of a numbered client, whatever was dropped and begun again, its calls take effect at most once, and
-- exactly once if they complete with a reply that adds an entry.
use Rattle.std.specs.Prelude.{◌≡◌, ◌≢◌, ℕ, ◌^◌, ◌<◌, ◌≤◌, List, [], ◌∷◌, ◌++◌, slice_get, Option, Some, ◌⊎◌}
use Rattle.nr_outside.specs.declared.moment.Moment.{Moment}
use Rattle.nr_wire.specs.declared.hello.Side.TheVariants.{Initiator, Responder}
use Rattle.nr_reduce.specs.declared.call.Call.{Call}
use Rattle.nr_reduce.specs.declared.call.Form.{Form}
use Rattle.nr_reduce.specs.declared.call.Outcome.{Outcome}
use Rattle.nr_reduce.specs.declared.call.Outcome.TheVariants as outcomes
use Rattle.nr_reduce.specs.declared.call.Submission.TheVariants as submissions
use Rattle.nr_reduce.specs.declared.mark.Entry.{Entry}
use Rattle.nr_reduce.specs.declared.mark.LinkParameters.{LinkParameters}
use Rattle.nr_reduce.specs.declared.mark.Mark.{Mark}
use Rattle.nr_reduce.specs.declared.mark.Mark.TheVariants as marks
use Rattle.nr_reduce.specs.PlainJournal.{PlainServer}
use Rattle.nr_reduce.specs.ClientState.{call_payload}
use Rattle.nr_reduce.specs.Asked.{AskedSoFar}
use Rattle.nr_reduce.specs.Events.{events}
use Rattle.nr_reduce.specs.KeepsCalls.{AddsOneAtMost, FitsChanges, KeepsCalls}
use Rattle.nr_reduce.specs.KeepsReplyLimits.{KeepsReplyLimits}
use Rattle.nr_reduce.specs.Opening.{IsOpened, IsFirstLink}
use Rattle.nr_reduce.specs.declared.mark.TaggedEntry.{TaggedEntry}
use Rattle.nr_reduce.specs.declared.mark.Told.TheVariants.{Old}
use Rattle.nr_reduce.specs.NumberedJournal.{tagged_journal, number_heard, entries_alone, HasNoEntryTwice, JournaledByNumber, IsReplyOf}
use Rattle.nr_reduce.specs.Reopening.{IsReopened}
use Rattle.nr_reduce.specs.Served.{ServedSoFar}
use Rattle.nr_laws.specs.ChunkOutcomes.{IsAnswered}
use Rattle.nr_laws.specs.Grant.{AcceptsByRule}
use Rattle.nr_laws.specs.MarkAt.{MarkAt}
use Rattle.nr_laws.specs.MatchedSoFar.{MatchedSoFar}
use Rattle.nr_laws.specs.Payloads.{form_conveyed}
use Rattle.nr_laws.specs.PlainLinks.{server_with, AtPlacesOn}
use Rattle.nr_laws.specs.Typed.{IsTyped}

-- ---- The links of one client

-- a link, and the marks of the run after which it began
pub record BegunLink : Type 0 where
  pub link : ℕ
  pub began : List Mark

-- none of these marks is an event of the link
abbrev pub HasNotBegun : ℕ → List Mark → Type 0
HasNotBegun link before = (events link Initiator before ≡ []) × (events link Responder before ≡ [])

-- a link is reopened from an old one, and begins after that one began
pub record IsNextLink (opened : ℕ → LinkParameters) (run : List Mark) (old next : BegunLink) : Type 0 where
  pub gap : List Mark
  pub later : next.began ≡ old.began ++ gap
  pub reopened : IsReopened (opened old.link) (opened next.link) old.link run next.began
  pub fresh : HasNotBegun next.link next.began

-- A link goes on from an earlier one through the links between, of which the last comes first.
abbrev pub GoesOn : (ℕ → LinkParameters) → List Mark → (first : ℕ) → BegunLink → List BegunLink → Type 0
GoesOn opened run first link [] = link.link ≡ first
GoesOn opened run first link (old ∷ links) = IsNextLink opened run old link × GoesOn opened run first old links

-- a link, or one that it goes on from
pub record IsEarlier (opened : ℕ → LinkParameters) (run : List Mark) (first link : ℕ) : Type 0 where
  pub began : List Mark
  pub links : List BegunLink
  pub goes_on : GoesOn opened run first (record { link = link; began = began }) links

-- A numbered client's link is matched as the headline means it: it is, and each of its links before it was.
abbrev pub MatchedWithEarlier : (ℕ → LinkParameters) → List Mark → ℕ → Type 0
MatchedWithEarlier opened run link = (earlier : ℕ) → IsEarlier opened run earlier link → MatchedSoFar (opened earlier) earlier run

-- each of them was opened in range
abbrev pub OpenedWithEarlier : (ℕ → LinkParameters) → List Mark → ℕ → Type 0
OpenedWithEarlier opened run link = (earlier : ℕ) → IsEarlier opened run earlier link → IsOpened (opened earlier)

-- the client of each of them keeps its law so far
abbrev pub AskedWithEarlier : (ℕ → LinkParameters) → List Mark → ℕ → Type 0
AskedWithEarlier opened run link = (earlier : ℕ) → IsEarlier opened run earlier link → AskedSoFar (opened earlier) earlier run

-- each link whose server heard this number was opened in range and is matched, and so is each that it goes on from
abbrev pub ClientIsMatched : (ℕ → LinkParameters) → List Mark → (number : ℕ) → Type 0
ClientIsMatched opened run number = (link : ℕ) → number_heard run link ≡ number → OpenedWithEarlier opened run link × MatchedWithEarlier opened run link

-- One number names one client: of two links whose servers heard the same number, one goes on from the other. Then each link is one of its client's
-- (`IsLinkOf`), which is all that the laws ask, of the link at hand.
abbrev pub OneClientEach : (ℕ → LinkParameters) → List Mark → Type 0
OneClientEach opened run = (link other : ℕ) → number_heard run link ≢ 0 → number_heard run link ≡ number_heard run other →
    IsEarlier opened run link other ⊎ IsEarlier opened run other link

-- The first link of the client with this number: it was not reopened, and each link whose server heard the number goes on from it.
pub record IsFirstOf (opened : ℕ → LinkParameters) (run : List Mark) (number first : ℕ) : Type 0 where
  pub opening : IsFirstLink (opened first)
  pub all : (link : ℕ) → number_heard run link ≡ number → IsEarlier opened run first link

-- Its client has left a link: another one goes on from it, whose server has had an event by then.
pub record IsLeft (opened : ℕ → LinkParameters) (run : List Mark) (link : ℕ) (before : List Mark) : Type 0 where
  pub next : ℕ
  pub goes_on : IsEarlier opened run link next
  pub other : next ≢ link
  pub begun : events next Responder before ≢ []

-- its server executes no call after that
abbrev pub ExecutesUntilLeft : (ℕ → LinkParameters) → List Mark → ℕ → Type 0
ExecutesUntilLeft opened run link = (before : List Mark) (xid : ℕ) (moment : Moment) (payload : List ℕ) (place : ℕ) (reply : List ℕ) →
    MarkAt run before (marks.Execute link xid moment payload place reply) → IsLeft opened run link before → ⊥

-- the client of each of a link's earlier ones, and its own, accepts calls by its rule
abbrev pub AcceptsWithEarlier : (ℕ → LinkParameters) → List Mark → ℕ → Type 0
AcceptsWithEarlier opened run link = (earlier : ℕ) → IsEarlier opened run earlier link → AcceptsByRule (opened earlier) earlier run

-- the link is one of the client's with this number, if that isn't 0: of it and each link whose server heard the number, one goes on from the other
abbrev pub IsLinkOf : (ℕ → LinkParameters) → List Mark → (number link : ℕ) → Type 0
IsLinkOf opened run number link = (other : ℕ) → number ≢ 0 → number_heard run other ≡ number → IsEarlier opened run link other ⊎ IsEarlier opened run other link

-- ---- The theorem

-- No two entries are of one call of a numbered client: whatever the clients sent.
abbrev pub NoEntryTwice : Type 0
NoEntryTwice = (reply_to : List Entry → Moment → List ℕ → Option (List ℕ)) (adds : Moment → List ℕ → List ℕ → List Entry) (number : ℕ → ℕ) (run : List Mark) →
    AddsOneAtMost adds → HasNoEntryTwice (tagged_journal (server_with reply_to adds) number run)

-- A call has an entry under its client and its xid: what its form conveys of its own call adds just that entry, and the reply is the one of that
-- entry.
pub record HasEntry (plain : PlainServer) (T : List TaggedEntry) (client xid : ℕ) (payload reply : List ℕ) : Type 0 where
  pub place : ℕ
  pub own : TaggedEntry
  pub there : slice_get T place ≡ Some own
  pub client_is : own.client ≡ client
  pub xid_is : own.xid ≡ xid
  pub adds : plain.adds own.entry.moment payload reply ≡ own.entry ∷ []
  pub reply_of : IsReplyOf plain T place own.entry.moment reply

-- the call was submitted under this xid, on this link or on one that it goes on from
pub record IsAskedFor (opened : ℕ → LinkParameters) (link : ℕ) (run : List Mark) (xid : ℕ) (call : Call) (form : Form) : Type 0 where
  pub first : ℕ
  pub earlier : IsEarlier opened run first link
  pub before : List Mark
  pub at : MarkAt run before (marks.Submit first call form (submissions.Accepted xid))

-- On a matched link a server that executed a call heard the number of its client.
abbrev pub NumbersAreHeard : Type 0
NumbersAreHeard = (opened : LinkParameters) (link : ℕ) (run before : List Mark) (xid : ℕ) (moment : Moment) (payload : List ℕ) (place : ℕ) (reply : List ℕ) →
    IsTyped run → MatchedSoFar opened link run → opened.client.number < 2 ^ 64 → MarkAt run before (marks.Execute link xid moment payload place reply) →
    number_heard run link ≡ opened.client.number

-- On matched links of a client with a number, a reply that is handed over, and that adds an entry, has its one entry.
abbrev pub CompletedChangesHaveEntries : Type 0
CompletedChangesHaveEntries = (reply_to : List Entry → Moment → List ℕ → Option (List ℕ)) (adds : Moment → List ℕ → List ℕ → List Entry)
    (opened : ℕ → LinkParameters) (link : ℕ) (T : List TaggedEntry) (run before : List Mark) (xid : ℕ) (call : Call) (form : Form) (moment : Moment) (payload reply : List ℕ) →
    IsTyped run → JournaledByNumber (server_with reply_to adds) (number_heard run) T run → KeepsCalls reply_to adds →
    IsLinkOf opened run (number_heard run link) link → OpenedWithEarlier opened run link → MatchedWithEarlier opened run link → (opened link).client.number ≢ 0 → (opened link).client.number < 2 ^ 64 →
    IsAskedFor opened link run xid call form →
    MarkAt run before (marks.Done link xid (outcomes.Reply reply)) → form_conveyed form (call_payload xid call) ≡ Some payload → adds moment payload reply ≢ [] →
    HasEntry (server_with reply_to adds) T (opened link).client.number xid payload reply

-- If the links of a client are matched, each call on them, new or sent again, has the plain server's reply at its place in the one journal, and
-- what it adds stands there. Of a link without a number nothing is asked.
abbrev pub NumberedLinksAreAtPlaces : Type 0
NumberedLinksAreAtPlaces = (reply_to : List Entry → Moment → List ℕ → Option (List ℕ)) (adds : Moment → List ℕ → List ℕ → List Entry)
    (opened : ℕ → LinkParameters) (link : ℕ) (T : List TaggedEntry) (run : List Mark) →
    IsTyped run → JournaledByNumber (server_with reply_to adds) (number_heard run) T run → KeepsCalls reply_to adds → IsLinkOf opened run (number_heard run link) link →
    (number_heard run link ≢ 0 → ClientIsMatched opened run (number_heard run link)) → AtPlacesOn (server_with reply_to adds) (entries_alone T) link run

-- The same of a link that is matched with its earlier ones, whatever comes on the later ones, if its server executes no call once its client has
-- left it.
abbrev pub LinksAreAtPlacesUntilLeft : Type 0
LinksAreAtPlacesUntilLeft = (reply_to : List Entry → Moment → List ℕ → Option (List ℕ)) (adds : Moment → List ℕ → List ℕ → List Entry)
    (opened : ℕ → LinkParameters) (link : ℕ) (T : List TaggedEntry) (run : List Mark) →
    IsTyped run → JournaledByNumber (server_with reply_to adds) (number_heard run) T run → KeepsCalls reply_to adds → IsLinkOf opened run (number_heard run link) link →
    OpenedWithEarlier opened run link → MatchedWithEarlier opened run link → ExecutesUntilLeft opened run link → AtPlacesOn (server_with reply_to adds) (entries_alone T) link run

-- On matched links a call is submitted for the first time after the outcome of another was handed over. If both are executed, the call on whichever
-- later link of its client, its place isn't smaller.
abbrev pub PlacesFollowByNumber : Type 0
PlacesFollowByNumber = (reply_to : List Entry → Moment → List ℕ → Option (List ℕ)) (adds : Moment → List ℕ → List ℕ → List Entry)
    (opened : ℕ → LinkParameters) (link other executing : ℕ) (T : List TaggedEntry) (run before between before_first before_second : List Mark)
    (call : Call) (form : Form) (xid other_xid : ℕ) (outcome : Outcome)
    (moment other_moment : Moment) (payload other_payload : List ℕ) (place other_place : ℕ) (reply other_reply : List ℕ) →
    IsTyped run → JournaledByNumber (server_with reply_to adds) (number_heard run) T run → AddsOneAtMost adds →
    IsLinkOf opened run (number_heard run executing) executing → IsLinkOf opened run (number_heard run executing) other →
    MatchedSoFar (opened link) link run → IsEarlier opened run other executing → OpenedWithEarlier opened run executing → MatchedWithEarlier opened run executing →
    (opened other).first_xid ≤ other_xid →
    MarkAt run (before ++ marks.Done link xid outcome ∷ between) (marks.Submit other call form (submissions.Accepted other_xid)) →
    MarkAt run before_first (marks.Execute link xid moment payload place reply) →
    MarkAt run before_second (marks.Execute executing other_xid other_moment other_payload other_place other_reply) → place ≤ other_place

-- The outcome of a call is handed over once, on one link of its client, whatever the servers send.
abbrev pub NoOutcomeTwice : Type 0
NoOutcomeTwice = (opened : ℕ → LinkParameters) (link other : ℕ) (run before other_before : List Mark) (xid : ℕ) (outcome other_outcome : Outcome) →
    IsTyped run → IsEarlier opened run link other → OpenedWithEarlier opened run other → AskedWithEarlier opened run other →
    MarkAt run before (marks.Done link xid outcome) → MarkAt run other_before (marks.Done other xid other_outcome) → (link ≡ other) × (before ≡ other_before)

-- The links of one client are matched from its first one on. Then a call on a link is old only if its client has left that link. `Refused::Window` of a
-- client keeps the xids that it has outstanding within the window of a server.
abbrev pub NoCallIsOld : Type 0
NoCallIsOld = (reply_to : List Entry → Moment → List ℕ → Option (List ℕ)) (adds : Moment → List ℕ → List ℕ → List Entry)
    (opened : ℕ → LinkParameters) (first link : ℕ) (T : List TaggedEntry) (run before : List Mark) (xid at : ℕ) →
    IsTyped run → JournaledByNumber (server_with reply_to adds) (number_heard run) T run → AddsOneAtMost adds → IsLinkOf opened run (number_heard run link) link →
    IsFirstOf opened run (number_heard run link) first → OpenedWithEarlier opened run link → MatchedWithEarlier opened run link → AcceptsWithEarlier opened run link →
    (opened link).client.number < 2 ^ 64 → MarkAt run before (marks.Told link (Old xid at)) → IsLeft opened run link before

-- On every link, whatever its client sends, the reply to each executed call that adds an entry goes out, also the one that such a call has kept.
abbrev pub NumberedChangesAreAnswered : Type 0
NumberedChangesAreAnswered = (reply_to : List Entry → Moment → List ℕ → Option (List ℕ)) (adds : Moment → List ℕ → List ℕ → List Entry)
    (opened : LinkParameters) (link : ℕ) (T : List TaggedEntry) (run before : List Mark) (xid : ℕ) (moment : Moment) (payload : List ℕ) (place : ℕ) (reply : List ℕ) →
    KeepsReplyLimits (server_with reply_to adds) → AddsOneAtMost adds → FitsChanges (server_with reply_to adds) → IsTyped run →
    JournaledByNumber (server_with reply_to adds) (number_heard run) T run → ServedSoFar opened link run →
    MarkAt run before (marks.Execute link xid moment payload place reply) → adds moment payload reply ≢ [] →
    IsAnswered opened link before xid moment payload place reply

-- What is so of the changes of the clients with numbers, over all their links: no two entries are of one call, and a reply that is handed over on
-- matched links, and that adds an entry, has its one entry. So each change takes effect once at most, and once if its reply came.
pub record EachChangeOnce (plain : PlainServer) (T : List TaggedEntry) (opened : ℕ → LinkParameters) (run : List Mark) : Type 0 where
  pub once : HasNoEntryTwice T
  pub completed : (link : ℕ) (before : List Mark) (xid : ℕ) (call : Call) (form : Form) (moment : Moment) (payload reply : List ℕ) →
      IsLinkOf opened run (number_heard run link) link → OpenedWithEarlier opened run link → MatchedWithEarlier opened run link → (opened link).client.number ≢ 0 → (opened link).client.number < 2 ^ 64 →
      IsAskedFor opened link run xid call form → MarkAt run before (marks.Done link xid (outcomes.Reply reply)) →
      form_conveyed form (call_payload xid call) ≡ Some payload → plain.adds moment payload reply ≢ [] →
      HasEntry plain T (opened link).client.number xid payload reply

-- Its premise: the server keeps calls.
abbrev pub ChangesTakeEffectOnce : Type 0
ChangesTakeEffectOnce = (reply_to : List Entry → Moment → List ℕ → Option (List ℕ)) (adds : Moment → List ℕ → List ℕ → List Entry)
    (opened : ℕ → LinkParameters) (T : List TaggedEntry) (run : List Mark) → IsTyped run → JournaledByNumber (server_with reply_to adds) (number_heard run) T run →
    KeepsCalls reply_to adds → EachChangeOnce (server_with reply_to adds) T opened run
