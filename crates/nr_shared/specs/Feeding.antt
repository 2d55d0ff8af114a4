-- The source of a link, and the pass that feeds what it gives.
use Rattle.std.specs.Prelude.{◌≡◌, ◌≢◌, ⊤, ℕ, ◌+◌, ◌≤◌, Bool, true, false, List, [], ◌∷◌, length, Option, None, Some, is_some}
use Rattle.std.specs.Io.KnownBytes.{Appends, IsAtEnd}
use Rattle.std.specs.String.{string_bytes}
use Rattle.nr_outside.specs.Content.{HandsOut}
use Rattle.nr_outside.specs.Faults.{Rises}
use Rattle.nr_links.specs.Asked.{Asks}
use Rattle.nr_links.specs.Limits.{piece_max, read_max}
use Rattle.nr_links.specs.Links.{EndsLink, HasOpenLink, IsNewLink, IsToldNew, LinkLog, MakesLink, ended_link}
use Rattle.nr_turnstile.specs.Rule.{Lies}
use Rattle.nr_turnstile.specs.Passes.{IsOutside, home_of, seen_by, mine_of}
use Rattle.nr_shared.specs.declared.entry.InitialSink.{InitialSink}
use Rattle.nr_shared.specs.declared.entry.Stop.{Stop}
use Rattle.nr_shared.specs.declared.entry.Stop.TheVariants as causes
use Rattle.nr_shared.specs.declared.source_reader.SourceReader.{SourceReader}
use Rattle.nr_shared.specs.declared.source_reader.InitialSource.{InitialSource}
use Rattle.nr_shared.specs.Callers.{IsFeeding}
use Rattle.nr_shared.specs.Histories.{PastLink, PresentLink, bytes_fed, present, tries_of}

abbrev pub closes_none : {I O C D : Type 0} → InitialSource I O C D → Option ℕ
closes_none b = None

-- Why the history says that no more is fed over the link at hand, by its source: a read failed since bytes began to move there; it is at its end; the
-- maximum was read of all links.
abbrev pub StopHolds : Option Stop → (faults faults' : ℕ) → Option (List ℕ) → (read : ℕ) → Type 0
StopHolds (Some causes.LinkRead) faults faults' left read = Rises faults faults'
StopHolds (Some causes.Closed) faults faults' left read = IsAtEnd left
StopHolds (Some causes.Budget) faults faults' left read = read ≡ read_max
StopHolds stopped faults faults' left read = ⊤

-- ---- The source at hand

-- a source when its bytes began to move here
pub record InitialGiving : Type 0 where
  pub left : Option (List ℕ)
  pub given : Option (List ℕ)
  pub faults : ℕ

-- The source as it was shared, if no link was left; else it and its sink are new, and their bytes are known if the dialer's log is told.
abbrev pub IsFirstGiving : (told : Bool) → (shared : InitialGiving) → (left : List PastLink) → InitialSink → InitialGiving → Type 0
IsFirstGiving told shared [] sink first = first ≡ shared
IsFirstGiving told shared (link ∷ left) sink first = IsNewLink first.given sink.taken first.faults sink.faults × (told ≡ true → IsToldNew first.given first.left sink.taken)

-- What was fed over its link is what the source gave. Its fault count is as it was, unless a read failed. If the link may be dialled again, both halves have one
-- number.
pub record KeepsSource {I : Type 0} (link : I → ℕ) (left given : I → Option (List ℕ)) (faults : I → ℕ) (numbered told : Bool) (shared : InitialGiving) (source : I) (sink : InitialSink) (read : ℕ) (present : PresentLink) : Type 0 where
  pub number : numbered ≡ true → link source ≡ sink.link
  pub first : InitialGiving
  pub is_first : IsFirstGiving told shared present.left sink first
  pub gave : HandsOut first.left first.given (left source) (given source) present.fed
  pub never_falls : first.faults ≤ faults source
  pub failed : present.read_failed ≡ true → Rises first.faults (faults source)
  pub counted : present.read_failed ≡ false → faults source ≡ first.faults
  pub stop : StopHolds present.stopped first.faults (faults source) (left source) read

-- there is none if the last dial failed
abbrev pub KeepsSourceIf : {I : Type 0} → (link : I → ℕ) → (left given : I → Option (List ℕ)) → (faults : I → ℕ) → (numbered told : Bool) → (shared : InitialGiving) → Option I → Option InitialSink → (read : ℕ) → PresentLink → Type 0
KeepsSourceIf link left given faults numbered told shared (Some source) (Some sink) read present = KeepsSource link left given faults numbered told shared source sink read present
KeepsSourceIf link left given faults numbered told shared None None read present = present.stopped ≡ Some causes.DialFault
KeepsSourceIf link left given faults numbered told shared source sink read present = ⊥

abbrev pub KeepsSourceOf : {I : Type 0} → (link : I → ℕ) → (left given : I → Option (List ℕ)) → (faults : I → ℕ) → (numbered told : Bool) → (shared : InitialGiving) → Option I → (read : ℕ) → PresentLink → Type 0
KeepsSourceOf link left given faults numbered told shared source read present = KeepsSourceIf link left given faults numbered told shared source present.sink read present

-- ---- The dialer

-- A link that was left was hung up: its sink had taken what the history says was written over it, and its source had given what was fed.
pub record LinkEndedBy (told : Bool) (shared : InitialGiving) (past : List PastLink) (p : PastLink) (sink : InitialSink) (before after : Option LinkLog) : Type 0 where
  pub given : Option (List ℕ)
  pub left : Option (List ℕ)
  pub taken : Option (List ℕ)
  pub ends : EndsLink before after (ended_link sink.link given left taken)
  pub took : Appends sink.taken taken p.written
  pub first : InitialGiving
  pub is_first : IsFirstGiving told shared past sink first
  pub gave : HandsOut first.left first.given left given p.fed

abbrev pub LinkEndedIf : (told : Bool) → InitialGiving → List PastLink → PastLink → Option InitialSink → (before after : Option LinkLog) → Type 0
LinkEndedIf told shared past p (Some sink) before after = LinkEndedBy told shared past p sink before after
LinkEndedIf told shared past p None before after = after ≡ before

-- a link was made, if there is a sink of it
abbrev pub LinkMade : Option InitialSink → (before after : Option LinkLog) → Type 0
LinkMade (Some sink) before after = MakesLink before after
LinkMade None before after = after ≡ before

-- The links that were left, the last one first, were hung up one after the other, and after each of them the next one was made, unless its dial failed.
-- `sink` is that of the link that followed on them.
abbrev pub HungUp : (told : Bool) → InitialGiving → (sink : Option InitialSink) → List PastLink → (before after : Option LinkLog) → Type 0
HungUp told shared sink [] before after = after ≡ before
HungUp told shared sink (p ∷ past) before after = (found : Option LinkLog) × (ended : Option LinkLog) × HungUp told shared p.sink past before found × LinkEndedIf told shared past p p.sink found ended × LinkMade sink ended after

-- a link was asked for by this address, if there is a sink of it
abbrev pub AskedIf : Option InitialSink → (addr : List ℕ) → (before after : Option (List (List ℕ))) → Type 0
AskedIf (Some sink) addr before after = Asks before after addr
AskedIf None addr before after = after ≡ before

-- Each link that followed on one that was left was asked for by this address, unless its dial failed; and no others were. `sink` is that of the link at hand.
abbrev pub AskedEach : (addr : List ℕ) → (sink : Option InitialSink) → List PastLink → (before after : Option (List (List ℕ))) → Type 0
AskedEach addr sink [] before after = after ≡ before
AskedEach addr sink (p ∷ past) before after = (between : Option (List (List ℕ))) × AskedEach addr p.sink past before between × AskedIf sink addr between after

-- Each link that was left was hung up, and fewer were hung up than made while there is a link. Each link that was made since was asked for by this address. The
-- dialer's count rose if and only if the last dial failed.
pub record KeepsDialer {D : Type 0} (asked : D → Option (List (List ℕ))) (ended : D → Option LinkLog) (faults : D → ℕ) (addr : List ℕ) (giving : InitialGiving) (shared dialer : D) (present : PresentLink) : Type 0 where
  pub open_link : is_some present.sink ≡ true → HasOpenLink (ended shared) → HasOpenLink (ended dialer)
  pub hung_up : HungUp (is_some (ended shared)) giving present.sink present.left (ended shared) (ended dialer)
  pub dialled : AskedEach addr present.sink present.left (asked shared) (asked dialer)
  pub counted : present.stopped ≢ Some causes.DialFault → faults dialer ≡ faults shared
  pub failed : present.stopped ≡ Some causes.DialFault → Rises (faults shared) (faults dialer)

-- ---- The pass that feeds

abbrev pub shared_giving : {I : Type 0} → (left given : I → Option (List ℕ)) → (faults : I → ℕ) → I → InitialGiving
shared_giving left given faults source = record { left = left source; given = given source; faults = faults source }

-- the address that is dialled
abbrev pub address_of : {I O C D : Type 0} → InitialSource I O C D → List ℕ
address_of b = string_bytes b.addr.value

-- What the source gives is fed by this pass alone: the last entry that feeds is its own and open. The address stays.
pub record FeedsFor {I O C D : Type 0} (link : I → ℕ) (left given : I → Option (List ℕ)) (faults : I → ℕ) (asked : D → Option (List (List ℕ))) (ended : D → Option LinkLog) (dialer_faults : D → ℕ) (b : InitialSource I O C D) (s : SourceReader I O C D) : Type 0 where
  pub home : home_of s.pass ≡ home_of b.pass.value
  pub outside : IsOutside s.pass
  pub lies : Lies (seen_by s.pass) (mine_of s.pass)
  pub feeding : IsFeeding s.pass
  pub source : KeepsSourceOf link left given faults (is_some (tries_of (seen_by s.pass))) (is_some (ended b.dialer.value)) (shared_giving left given faults b.source.value) s.source s.read (present (seen_by s.pass))
  pub dialer : KeepsDialer asked ended dialer_faults (address_of b) (shared_giving left given faults b.source.value) b.dialer.value s.dialer (present (seen_by s.pass))
  pub open_link : is_some (tries_of (seen_by s.pass)) ≡ true → HasOpenLink (ended b.dialer.value)
  pub address : string_bytes s.addr ≡ address_of b
  pub read : s.read ≡ b.read + length (bytes_fed (seen_by s.pass))
  pub within : s.read ≤ read_max
  pub room : length s.buf.items ≡ piece_max

-- it has one entry: the source and the dialer when they were shared, the address, and the pass that fed first
abbrev pub Feeds : {I O C D : Type 0} → (I → ℕ) → (I → Option (List ℕ)) → (I → Option (List ℕ)) → (I → ℕ) → (D → Option (List (List ℕ))) → (D → Option LinkLog) → (D → ℕ) → SourceReader I O C D → List (InitialSource I O C D) → Type 0
Feeds {I} {O} {C} {D} link left given faults asked ended dialer_faults s history = (b : InitialSource I O C D) × (history ≡ b ∷ []) × FeedsFor link left given faults asked ended dialer_faults b s
