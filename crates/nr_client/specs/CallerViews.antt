-- What a caller of a shared requester knows, and what its calls make of that.
use Rattle.std.specs.Prelude.{◌≡◌, ◌≢◌, ◌≤◌, ◌⊎◌, ◌==◌, ◌||◌, ⊤, ℕ, Bool, true, false, if◌then◌else◌, List, [], ◌∷◌, ◌++◌, length, map, Option, None, Some}
use Rattle.std.specs.List.{AllByRecursion}
use mathlib.Core.Option.{some, none}
use lib.ListN.{get_elem?}
use Rattle.nr_reduce.specs.declared.call.Call.{Call}
use Rattle.nr_reduce.specs.declared.call.Form.TheVariants as forms
use Rattle.nr_reduce.specs.declared.call.Outcome.{Outcome}
use Rattle.nr_links.specs.Links.{LinkLog}
use Rattle.nr_turnstile.specs.Passes.{mine_of, seen_by}
use Rattle.nr_turnstile.specs.Rule.{Begins, IsIn, IsOpen, Rising}
use Rattle.nr_shared.specs.declared.call_end.CallEnd.{CallEnd}
use Rattle.nr_shared.specs.declared.entry.Entry.{Entry}
use Rattle.nr_shared.specs.declared.entry.Entry.TheVariants as entries
use Rattle.nr_shared.specs.declared.shared.Pass.{Pass}
use Rattle.nr_shared.specs.declared.source_reader.InitialSource.{InitialSource}
use Rattle.nr_shared.specs.Adding.{AreAt}
use Rattle.nr_shared.specs.Callers.{KeepsLaw}
use Rattle.nr_shared.specs.Draining.{AreWrites}
use Rattle.nr_shared.specs.Ending.{IsCause, LinkEnded}
use Rattle.nr_shared.specs.Feeding.{address_of}
use Rattle.nr_shared.specs.HandedBack.{IsUnanswered}
use Rattle.nr_shared.specs.Histories.{IsCallAt, closes_of, submitted_call}
use Rattle.nr_shared.specs.Output.{HasWrittenOutput}
use Rattle.nr_shared.specs.Sharing.{SaysCredit, SaysCreditOutOfMemory}
use Rattle.nr_client.specs.Relations.{CallRelations}

-- what is known of a source and a dialer when the requester was shared; the address that is dialled; and how many bytes were read of the source before
pub record FirstLink : Type 0 where
  pub link : ℕ
  pub left : Option (List ℕ)
  pub given : Option (List ℕ)
  pub faults : ℕ
  pub asked : Option (List (List ℕ))
  pub ended : Option LinkLog
  pub dialer_faults : ℕ
  pub addr : List ℕ
  pub read : ℕ

-- the beginning of the history that its pass has seen, the places of its own entries, and the link when the requester was shared
pub record CallerView : Type 0 where
  pub seen : List Entry
  pub mine : List ℕ
  pub firsts : List FirstLink

module _ {I O C D : Type 0} (link : I → ℕ) (left given : I → Option (List ℕ)) (faults : I → ℕ) (asked : D → Option (List (List ℕ))) (ended : D → Option LinkLog) (dialer_faults : D → ℕ) where
  abbrev pub first_link : InitialSource I O C D → FirstLink
  first_link b = record {
    link = link b.source.value;
    left = left b.source.value;
    given = given b.source.value;
    faults = faults b.source.value;
    asked = asked b.dialer.value;
    ended = ended b.dialer.value;
    dialer_faults = dialer_faults b.dialer.value;
    addr = address_of b;
    read = b.read;
  }

  abbrev pub caller_view : Pass I O C D → CallerView
  caller_view p = record { seen = seen_by p.main; mine = mine_of p.main; firsts = map first_link (seen_by p.source) }

-- Between two moments the caller added these entries, in this order, and no others. It had seen none of them before.
pub record AddsTo (v w : CallerView) (es : List Entry) : Type 0 where
  pub seen : Begins v.seen w.seen
  pub places : List ℕ
  pub mine : w.mine ≡ v.mine ++ places
  pub rising : Rising places
  pub at : AreAt w.seen places es
  pub new : AllByRecursion (λ k. length v.seen ≤ k) places
  pub same_firsts : w.firsts ≡ v.firsts

-- ---- Its open calls

-- a place of the caller's own, which no entry closes
abbrev pub IsOpenAt : CallerView → ℕ → Type 0
IsOpenAt v k = IsOpen closes_of v.seen v.mine k

-- each such place is open still; or each but one
abbrev pub KeepsOpenAt : (v w : CallerView) → Type 0
KeepsOpenAt v w = (k : ℕ) → IsOpenAt v k → IsOpenAt w k

abbrev pub KeepsOthersAt : ℕ → (v w : CallerView) → Type 0
KeepsOthersAt closed v w = (k : ℕ) → k ≢ closed → IsOpenAt v k → IsOpenAt w k

-- at such a place stands this call, under this xid
pub record HasCallAt (v : CallerView) (xid k : ℕ) (call : Call) : Type 0 where
  pub stands : IsCallAt v.seen xid k call
  pub open_place : IsOpenAt v k

-- an entry of the list closes this place
abbrev pub is_place : ℕ → Option ℕ → Bool
is_place k None = false
is_place k (Some n) = n == k

abbrev pub is_closed : List Entry → ℕ → Bool
is_closed [] k = false
is_closed (e ∷ es) k = is_place k (closes_of e) || is_closed es k

abbrev pub submitted_in : ℕ → mathlib.Core.Option.Option Entry → Option Call
submitted_in xid (some e) = submitted_call xid e
submitted_in xid none = None

-- the call of an xid that stands at a place and isn't closed, and the first one of several places
abbrev pub unclosed_call : List Entry → (xid k : ℕ) → Option Call
unclosed_call seen xid k = if is_closed seen k then None else submitted_in xid (get_elem? seen k)

abbrev pub or_later : Option Call → Option Call → Option Call
or_later (Some call) later = Some call
or_later None later = later

abbrev pub unclosed_in : List Entry → (xid : ℕ) → List ℕ → Option Call
unclosed_in seen xid [] = None
unclosed_in seen xid (k ∷ ks) = or_later (unclosed_call seen xid k) (unclosed_in seen xid ks)

-- the call of an xid that the caller submitted, and that was neither handed over nor forgotten
abbrev pub open_call_of : CallerView → ℕ → Option Call
open_call_of v xid = unclosed_in v.seen xid v.mine

-- ---- A call, and its two halves

-- The call has its own answer: a Submit of it, and the Done that closes the Submit's place, with bytes that are written before and between.
pub record AnswersBy (v w : CallerView) (call : Call) (outcome : Outcome) : Type 0 where
  pub writes_before : List Entry
  pub are_writes_before : AreWrites writes_before
  pub writes_after : List Entry
  pub are_writes_after : AreWrites writes_after
  pub xid : ℕ
  pub at : ℕ
  pub stands : get_elem? w.seen at ≡ some (entries.Submit call forms.Auto xid)
  pub adds : AddsTo v w ((writes_before ++ entries.Submit call forms.Auto xid ∷ writes_after) ++ entries.Done xid outcome at ∷ [])
  pub new : length v.seen ≤ at
  pub own : IsIn at w.mine
  pub keeps : KeepsOpenAt v w
  pub before : List Entry
  pub seen : w.seen ≡ before ++ entries.Done xid outcome at ∷ []
  pub law : KeepsLaw w.seen

-- The call is not submitted, since the history says so. Bytes are written: all that is due.
pub record RefusesBy (v w : CallerView) (call : Call) (end : CallEnd) : Type 0 where
  pub writes_before : List Entry
  pub are_writes_before : AreWrites writes_before
  pub adds : AddsTo v w writes_before
  pub keeps : KeepsOpenAt v w
  pub cause : IsCause end call forms.Auto w.seen
  pub written : HasWrittenOutput w.seen
  pub law : KeepsLaw w.seen

-- The call was submitted and forgotten, since the link had ended so by the history before, and no answer had come. All output that was due
-- by then is written.
pub record ForgottenBy (v w : CallerView) (call : Call) (end : CallEnd) : Type 0 where
  pub writes_before : List Entry
  pub are_writes_before : AreWrites writes_before
  pub writes_after : List Entry
  pub are_writes_after : AreWrites writes_after
  pub xid : ℕ
  pub at : ℕ
  pub stands : get_elem? w.seen at ≡ some (entries.Submit call forms.Auto xid)
  pub adds : AddsTo v w ((writes_before ++ entries.Submit call forms.Auto xid ∷ writes_after) ++ entries.Forget xid at ∷ [])
  pub new : length v.seen ≤ at
  pub own : IsIn at w.mine
  pub keeps : KeepsOpenAt v w
  pub before : List Entry
  pub seen : w.seen ≡ before ++ entries.Forget xid at ∷ []
  pub ended : LinkEnded end before
  pub unanswered : IsUnanswered xid before
  pub written : HasWrittenOutput before
  pub law : KeepsLaw w.seen

abbrev pub GivesUpBy : (v w : CallerView) → Call → CallEnd → Type 0
GivesUpBy v w call end = RefusesBy v w call end ⊎ ForgottenBy v w call end

-- The call is submitted. Before that and after it bytes are written: all that is due.
pub record SubmitsBy (v w : CallerView) (call : Call) (xid : ℕ) : Type 0 where
  pub writes_before : List Entry
  pub are_writes_before : AreWrites writes_before
  pub writes_after : List Entry
  pub are_writes_after : AreWrites writes_after
  pub adds : AddsTo v w (writes_before ++ entries.Submit call forms.Auto xid ∷ writes_after)
  pub keeps : KeepsOpenAt v w
  pub at : ℕ
  pub stands : get_elem? w.seen at ≡ some (entries.Submit call forms.Auto xid)
  pub new : length v.seen ≤ at
  pub opened : IsOpenAt w at
  pub written : HasWrittenOutput w.seen
  pub law : KeepsLaw w.seen

-- The outcome of the open call of an xid is handed over. Bytes are written first: by a history between those seen before and after, all that is due.
pub record CompletesBy (xid : ℕ) (outcome : Outcome) (v w : CallerView) : Type 0 where
  pub at : ℕ
  pub call : Call
  pub had : HasCallAt v xid at call
  pub writes : List Entry
  pub are_writes : AreWrites writes
  pub adds : AddsTo v w (writes ++ entries.Done xid outcome at ∷ [])
  pub keeps : KeepsOthersAt at v w
  pub before : List Entry
  pub seen : w.seen ≡ before ++ entries.Done xid outcome at ∷ []
  pub at_turn : List Entry
  pub begins : Begins v.seen at_turn
  pub goes_on : Begins at_turn w.seen
  pub written : HasWrittenOutput at_turn
  pub law : KeepsLaw w.seen

-- It is forgotten, since the link had ended so by the history before, and no answer had come. Bytes are written first: all that is due.
pub record ForgetsBy (xid : ℕ) (end : CallEnd) (v w : CallerView) : Type 0 where
  pub at : ℕ
  pub call : Call
  pub had : HasCallAt v xid at call
  pub writes : List Entry
  pub are_writes : AreWrites writes
  pub adds : AddsTo v w (writes ++ entries.Forget xid at ∷ [])
  pub keeps : KeepsOthersAt at v w
  pub before : List Entry
  pub seen : w.seen ≡ before ++ entries.Forget xid at ∷ []
  pub ended : LinkEnded end before
  pub unanswered : IsUnanswered xid before
  pub written : HasWrittenOutput before
  pub law : KeepsLaw w.seen

-- it is forgotten, whether or not its answer has come
pub record ForgetsCallBy (xid : ℕ) (v w : CallerView) : Type 0 where
  pub at : ℕ
  pub call : Call
  pub had : HasCallAt v xid at call
  pub adds : AddsTo v w (entries.Forget xid at ∷ [])
  pub keeps : KeepsOthersAt at v w
  pub law : KeepsLaw w.seen

-- it was asked whether a call can be submitted at once: nothing is added
pub record LooksBy (v w : CallerView) : Type 0 where
  pub adds : AddsTo v w []
  pub keeps : KeepsOpenAt v w
  pub law : KeepsLaw w.seen

-- whether a call can be submitted at once, by the run of the history
abbrev pub SaysCreditAt : Bool → CallerView → Type 0
SaysCreditAt has v = SaysCredit has v.seen × SaysCreditOutOfMemory has v.seen

-- ---- The relations of a shared requester's caller

-- Nothing is known of the fault counts of a link, or of how many bytes were read of it, until it is given back.
abbrev pub shared_relations : CallRelations CallerView
shared_relations = record {
  answers = AnswersBy;
  gives_up = GivesUpBy;
  submits = SubmitsBy;
  refuses = RefusesBy;
  completes = CompletesBy;
  forgets = ForgetsBy;
  forgets_call = ForgetsCallBy;
  looks = LooksBy;
  Faults = ⊤;
  faults = λ v. tt;
  counts = λ end before after. ⊤;
  has_credit = λ v. SaysCreditAt true v;
  lacks_credit = λ v. SaysCreditAt false v;
  open_call = open_call_of;
  is_within = λ v. ⊤;
}
