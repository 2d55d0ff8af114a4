-- The replies of a gateway's connection, if its remote link is matched and served.
use Rattle.std.specs.Prelude.{◌≡◌, ⊤, ℕ, ◌≤◌, List, ◌∷◌, [], ◌++◌, length, Some}
use Rattle.std.specs.List.{AllByRecursion}
use Rattle.nr_xdr.specs.Item.{IsBytes}
use Rattle.nr_outside.specs.declared.moment.Moment.{Moment}
use Rattle.nr_reduce.specs.declared.mark.Entry.{Entry as JournalEntry}
use Rattle.nr_reduce.specs.declared.mark.LinkParameters.{LinkParameters}
use Rattle.nr_reduce.specs.declared.mark.Mark.{Mark}
use Rattle.nr_reduce.specs.Journal.{Journaled}
use Rattle.nr_reduce.specs.PlainJournal.{any_that_adds}
use Rattle.nr_laws.specs.MatchedSoFar.{MatchedSoFar}
use Rattle.nr_laws.specs.PlainLinks.{AtPlacesOn}
use Rattle.nr_laws.specs.Typed.{IsTyped}
use Rattle.nr_service_laws.specs.ServedCommands.{client_marks}
use Rattle.nr_plain.specs.Added.{entries_of_call}
use Rattle.nr_plain.specs.ReplyLaws.{plain_server}
use Rattle.nr_plain.specs.Replies.{plain_reply}
use Rattle.nr_plain.specs.Setup.{Setup}
use Rattle.nr_turnstile.specs.declared.turnstile.Pass.{Pass}
use Rattle.nr_turnstile.specs.Passes.{seen_by}
use Rattle.nr_turnstile.specs.Rule.{Begins}
use Rattle.nr_record_loop.specs.Connections.{Exchange, Loop}
use Rattle.nr_shared.specs.declared.entry.Entry.{Entry}
use Rattle.nr_shared.specs.declared.requester_with_sink.RequesterWithSink.{RequesterWithSink}
use Rattle.nr_shared.specs.OneLink.{run_of}
use Rattle.nr_gate.specs.declared.gate_end.GateEnd.{GateEnd}
use Rattle.nr_links.specs.Links.{EndedLink}
use Rattle.nr_gate.specs.Gating.{IsGated}
use Rattle.nr_gate.specs.GateLinks.{GatesByPass}

-- A run has both sides of the link over which a gateway forwards: its client's marks are those of this history, after the marks `before`.
-- The link is matched so far, the journal is what all calls of the run add, and each call of the link is answered as the plain server answers at
-- its place in the journal.
pub record IsRemoteLink (s : Setup) (J : List JournalEntry) (opened : LinkParameters) (link : ℕ) (history : List Entry) (both : List Mark) : Type 0 where
  pub n : ℕ
  pub before : List Mark
  pub client_side : client_marks link both ≡ run_of before n link history
  pub typed : IsTyped both
  pub matched : MatchedSoFar opened link both
  pub journaled : Journaled (any_that_adds entries_of_call) J both
  pub at_places : AtPlacesOn (plain_server s) J link both

-- The call has the reply of the plain server at this place of the journal.
pub record IsPlain (s : Setup) (J : List JournalEntry) (place : ℕ) (x : Exchange) : Type 0 where
  pub within : place ≤ length J
  pub moment : Moment
  pub replied : plain_reply s J place moment x.call ≡ Some x.reply

-- So has each of these calls. The places don't fall, and none is below `least`.
abbrev pub ArePlain : Setup → List JournalEntry → (least : ℕ) → List Exchange → Type 0
ArePlain s J least [] = ⊤
ArePlain s J least (x ∷ xs) = (place : ℕ) × ((least ≤ place) × (IsPlain s J place x × ArePlain s J place xs))

-- those places, in order
abbrev pub places_of : (s : Setup) (J : List JournalEntry) (least : ℕ) (xs : List Exchange) → ArePlain s J least xs → List ℕ
places_of s J least [] are = []
places_of s J least (x ∷ xs) (place, (rises, (one, others))) = place ∷ places_of s J place xs others

-- So has each record that a connection of the gateway answered. `history` has what the pass of the connection has seen in the end, and may go on from
-- it: so it can be one history, and J one journal, for all connections of a gateway.
abbrev pub GatedRepliesArePlain : (O C : Type 0) → Type 0
GatedRepliesArePlain O C = (s : Setup) (J : List JournalEntry) (opened : LinkParameters) (link : ℕ) (history : List Entry) (both : List Mark) (before after : Loop (Pass (RequesterWithSink O C) Entry)) (end : GateEnd)
    (g : IsGated before after end) → AllByRecursion IsBytes g.records → Begins (seen_by after.state) history → IsRemoteLink s J opened link history both → ArePlain s J 0 g.exchanges

-- So has each record of each link that a gateway served itself.
abbrev pub GatedLinksArePlain : (O C : Type 0) → Type 0
GatedLinksArePlain O C = (s : Setup) (J : List JournalEntry) (opened : LinkParameters) (link : ℕ) (history : List Entry) (both : List Mark) (p q : Pass (RequesterWithSink O C) Entry) (accepted hung_up : EndedLink)
    (source_faults sink_faults : ℕ) (end : GateEnd) (g : GatesByPass p accepted hung_up source_faults sink_faults end q) → AllByRecursion IsBytes g.gated.records → Begins (seen_by g.own) history →
    IsRemoteLink s J opened link history both → ArePlain s J 0 g.gated.exchanges

-- What has the plain server's reply at a place of a journal has it at that place of each journal that goes on from it.
abbrev pub PlainInLongerJournals : Type 0
PlainInLongerJournals = (s : Setup) (J more : List JournalEntry) (least : ℕ) (xs : List Exchange) (a : ArePlain s J least xs) →
    (b : ArePlain s (J ++ more) least xs) × (places_of s (J ++ more) least xs b ≡ places_of s J least xs a)
