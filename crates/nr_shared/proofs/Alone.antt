-- No other pass feeds: what was fed, and why no more is, is as the pass that fed last knew it.
use Rattle.std.proofs.Common.{◌≡◌, ◌≢◌, ℕ, zero, suc, Bool, true, false, List, [], ◌∷◌, ◌++◌, Option, Some, None, refl, sym, ap, subst, ◌∙◌, append-nil, ◌⊎◌, ⊎_elim}
use Rattle.std.specs.List.{AllByRecursion, flat_map}
use Rattle.std.proofs.lemmas.Grind.{flat_map-append}
use mathlib.Core.Option.{some, some-injective, some-ne-none}
use lib.ListN.{get_elem?}
use Rattle.nr_turnstile.specs.declared.turnstile.Turnstile.{Turnstile}
use Rattle.nr_turnstile.specs.declared.turnstile.Pass.{Pass}
use Rattle.nr_turnstile.specs.Rule.{IsIn, IsOpen, Lies}
use Rattle.nr_turnstile.specs.Passes.{Gets, seen_by, mine_of}
use Rattle.nr_turnstile.proofs.Open.{stays_open}
use Rattle.nr_shared.specs.declared.entry.Stop.{Stop}
use Rattle.nr_shared.specs.declared.entry.Stop.TheVariants as causes
use Rattle.nr_shared.specs.declared.entry.InitialState.{InitialState}
use Rattle.nr_shared.specs.declared.entry.Entry.{Entry}
use Rattle.nr_shared.specs.declared.entry.Entry.TheVariants as entries
use Rattle.nr_shared.specs.declared.requester_with_sink.RequesterWithSink.{RequesterWithSink}
use Rattle.nr_shared.specs.Histories.{PresentLink, closes_of, is_feeding, last_feeding, FeedsInOrder, initial_of, fed_by, bytes_fed, no_link, present, present_after, present_from, tries_in, tries_of}
use Rattle.nr_shared.specs.Standing.{Stands}
use Rattle.nr_shared.specs.Callers.{IsFeeding, Writes}
use Rattle.nr_shared.specs.Draining.{AreWrites, fed_entry}
use Rattle.nr_shared.specs.private.Reading.{IsReadEnd, read_part}
use Rattle.nr_shared.specs.Output.{IsCallOutstanding, MayFeed, MayStop}
use Rattle.nr_shared.proofs.Adding.{closes_own_on, got}
use Rattle.nr_shared.proofs.Calls.{none_some}
use Rattle.nr_shared.proofs.Lists.{at_after, at_either, in_more}
use Rattle.nr_shared.proofs.Chains.{last_same, no_link_after}
use Rattle.nr_shared.proofs.Histories.{initial_more, present_end}
use Rattle.nr_shared.proofs.Outstanding.{outstanding_quiet}
use Rattle.nr_reduce.specs.declared.call.Call.{Call}
use Rattle.nr_reduce.specs.declared.call.Form.{Form}

true_false : true ≡ false → ⊥
true_false e = absurd cc

-- an entry that doesn't feed has no bytes that were fed, and tells nothing of the link at hand but what is written
quiet_bytes : (e : Entry) → is_feeding e ≡ false → fed_by e ≡ []
quiet_bytes (entries.Submit call form xid) none = refl
quiet_bytes (entries.Wrote bytes) none = refl
quiet_bytes (entries.Done xid outcome submit) none = refl
quiet_bytes (entries.Lost xid submit) none = refl
quiet_bytes (entries.Forget xid submit) none = refl
quiet_bytes (entries.Revoke xid bytes submit) none = refl
quiet_bytes entries.WriteFailed none = refl
quiet_bytes (entries.Initial initial) none = absurd (true_false none)
quiet_bytes (entries.Fed bytes previous) none = absurd (true_false none)
quiet_bytes (entries.Stopped cause previous) none = absurd (true_false none)
quiet_bytes (entries.Rejoin sink previous) none = absurd (true_false none)
quiet_bytes (entries.OutOfMemory piece previous) none = absurd (true_false none)

quiet_part : (l : PresentLink) (e : Entry) → is_feeding e ≡ false → read_part (present_after l e) ≡ read_part l
quiet_part l (entries.Submit call form xid) none = refl
quiet_part l (entries.Wrote bytes) none = refl
quiet_part l (entries.Done xid outcome submit) none = refl
quiet_part l (entries.Lost xid submit) none = refl
quiet_part l (entries.Forget xid submit) none = refl
quiet_part l (entries.Revoke xid bytes submit) none = refl
quiet_part l entries.WriteFailed none = refl
quiet_part l (entries.Initial initial) none = absurd (true_false none)
quiet_part l (entries.Fed bytes previous) none = absurd (true_false none)
quiet_part l (entries.Stopped cause previous) none = absurd (true_false none)
quiet_part l (entries.Rejoin sink previous) none = absurd (true_false none)
quiet_part l (entries.OutOfMemory piece previous) none = absurd (true_false none)

abbrev pub AreQuiet : List Entry → Type 0
AreQuiet es = AllByRecursion (λ (e : Entry). is_feeding e ≡ false) es

none_fed : (es : List Entry) → AreQuiet es → flat_map fed_by es ≡ []
none_fed [] all = refl
none_fed (e ∷ es) all = ap (λ (l : List ℕ). l ++ flat_map fed_by es) (quiet_bytes e all.0) ∙ none_fed es all.1

part_from : (l : PresentLink) (es : List Entry) → AreQuiet es → read_part (present_from l es) ≡ read_part l
part_from l [] all = refl
part_from l (e ∷ es) all = part_from (present_after l e) es all.1 ∙ quiet_part l e all.0

-- what was fed, and what is told of the link at hand, of a history with such entries
pub bytes_quiet : (xs ys : List Entry) → AreQuiet ys → bytes_fed (xs ++ ys) ≡ bytes_fed xs
bytes_quiet xs ys quiet = flat_map-append fed_by xs ys ∙ (ap (λ (l : List ℕ). flat_map fed_by xs ++ l) (none_fed ys quiet) ∙ append-nil (flat_map fed_by xs))

from_both : (l : PresentLink) (xs ys : List Entry) → present_from l (xs ++ ys) ≡ present_from (present_from l xs) ys
from_both l [] ys = refl
from_both l (x ∷ xs) ys = from_both (present_after l x) xs ys

pub part_quiet : (xs ys : List Entry) → AreQuiet ys → read_part (present (xs ++ ys)) ≡ read_part (present xs)
part_quiet xs ys quiet = ap (λ (l : PresentLink). read_part l) (from_both no_link xs ys) ∙ part_from (present xs) ys quiet

-- what a pass that fed last knows of feeding is so still
pub record FeedsAlone {O C : Type 0} (p q : Pass (RequesterWithSink O C) Entry) : Type 0 where
  pub feeding : IsFeeding q
  pub bytes : bytes_fed (seen_by q) ≡ bytes_fed (seen_by p)
  pub part : read_part (present (seen_by q)) ≡ read_part (present (seen_by p))
  pub initial_is : initial_of (seen_by q) ≡ initial_of (seen_by p)
  pub outstanding : IsCallOutstanding (seen_by p) → IsCallOutstanding (seen_by q)

pub alone : {O C : Type 0} (link : O → ℕ) (taken : O → Option (List ℕ)) (faults : O → ℕ) (allows : Call → Form → Type 0) (t : Turnstile (RequesterWithSink O C) Entry) (p q : Pass (RequesterWithSink O C) Entry) (y : RequesterWithSink O C) → Lies (seen_by p) (mine_of p) → Gets (Stands link taken faults allows) closes_of t p q → Stands link taken faults allows y (seen_by q)
    → IsFeeding p → FeedsAlone p q
alone link taken faults allows t p q y lies g st fe =
    let xs = seen_by p in
    let ys = g.3.0 in
    let seen : seen_by q ≡ xs ++ ys = g.3.1 in
    let stays = stays_open (Stands link taken faults allows) closes_of t p q fe.last lies fe.is_open g in
    let quiet : AreQuiet ys = no_link_after closes_of is_feeding xs ys fe.last (subst FeedsInOrder seen st.in_order) fe.is_last
    (λ e i link closes. let (n, (is, at)) = at_after xs ys i.0 e i.1 in stays.1 n e (subst (λ (l : List Entry). get_elem? l n ≡ some e) (sym seen) at) closes) in
    record {
      feeding = record {
        initial = fe.initial;
        is_initial = subst (λ (l : List Entry). initial_of l ≡ Some fe.initial) (sym seen) (initial_more xs ys fe.initial fe.is_initial);
        last = fe.last;
        is_last = ap (λ (l : List Entry). last_feeding l) seen ∙ (last_same is_feeding xs ys quiet ∙ fe.is_last);
        is_open = stays;
        closes_own = closes_own_on closes_of p q [] lies fe.closes_own (got (Stands link taken faults allows) closes_of t p q g) (λ e i k closes. absurd (some-ne-none e (sym i.1)));
      };
      bytes = ap (λ (l : List Entry). bytes_fed l) seen ∙ bytes_quiet xs ys quiet;
      part = ap (λ (l : List Entry). read_part (present l)) seen ∙ part_quiet xs ys quiet;
      initial_is = ap (λ (l : List Entry). initial_of l) seen ∙ (initial_more xs ys fe.initial fe.is_initial ∙ sym fe.is_initial);
      outstanding = λ out. subst IsCallOutstanding (sym seen) (outstanding_quiet xs ys fe.initial fe.is_initial quiet out);
    }

-- ---- Writes leave all of this

pub writes_quiet : (es : List Entry) → AreWrites es → AreQuiet es
writes_quiet [] all = tt
writes_quiet (entries.Wrote bytes ∷ es) all = (refl, writes_quiet es all)
writes_quiet (entries.WriteFailed ∷ es) all = (refl, writes_quiet es all)
writes_quiet (entries.Initial initial ∷ es) all = absurd all
writes_quiet (entries.Submit call form xid ∷ es) all = absurd all
writes_quiet (entries.Fed bytes previous ∷ es) all = absurd all
writes_quiet (entries.Done xid outcome submit ∷ es) all = absurd all
writes_quiet (entries.Lost xid submit ∷ es) all = absurd all
writes_quiet (entries.Forget xid submit ∷ es) all = absurd all
writes_quiet (entries.Revoke xid bytes submit ∷ es) all = absurd all
writes_quiet (entries.Stopped cause previous ∷ es) all = absurd all
writes_quiet (entries.Rejoin sink previous ∷ es) all = absurd all
writes_quiet (entries.OutOfMemory piece previous ∷ es) all = absurd all

pub writes_close : (es : List Entry) → AreWrites es → (i : ℕ) (e : Entry) → get_elem? es i ≡ some e → closes_of e ≡ None
writes_close [] all i e at = absurd (some-ne-none e (sym at))
writes_close (entries.Wrote bytes ∷ es) all zero e at = ap closes_of (sym (some-injective (entries.Wrote bytes) e at))
writes_close (entries.Wrote bytes ∷ es) all (suc i) e at = writes_close es all i e at
writes_close (entries.WriteFailed ∷ es) all zero e at = ap closes_of (sym (some-injective entries.WriteFailed e at))
writes_close (entries.WriteFailed ∷ es) all (suc i) e at = writes_close es all i e at
writes_close (entries.Initial initial ∷ es) all i e at = absurd all
writes_close (entries.Submit call form xid ∷ es) all i e at = absurd all
writes_close (entries.Fed bytes previous ∷ es) all i e at = absurd all
writes_close (entries.Done xid outcome submit ∷ es) all i e at = absurd all
writes_close (entries.Lost xid submit ∷ es) all i e at = absurd all
writes_close (entries.Forget xid submit ∷ es) all i e at = absurd all
writes_close (entries.Revoke xid bytes submit ∷ es) all i e at = absurd all
writes_close (entries.Stopped cause previous ∷ es) all i e at = absurd all
writes_close (entries.Rejoin sink previous ∷ es) all i e at = absurd all
writes_close (entries.OutOfMemory piece previous ∷ es) all i e at = absurd all

-- an open place stays open
pub open_writes : {O C : Type 0} (p q : Pass (RequesterWithSink O C) Entry) (k : ℕ) → Writes p q → IsOpen closes_of (seen_by p) (mine_of p) k → IsOpen closes_of (seen_by q) (mine_of q) k
open_writes p q k w o = (
  subst (IsIn k) (sym w.adds.mine) (in_more (mine_of p) w.adds.places k o.0),
  λ n e at closes. ⊎_elim
      (λ (old : get_elem? (seen_by p) n ≡ some e). o.1 n e old closes)
      (λ (new : (i : ℕ) × (get_elem? w.es i ≡ some e)). none_some k (sym (writes_close w.es w.are new.0 e new.1) ∙ closes))
      (at_either (seen_by p) w.es n e (subst (λ (l : List Entry). get_elem? l n ≡ some e) w.seen at)),
)

pub alone_writes : {O C : Type 0} (p q : Pass (RequesterWithSink O C) Entry) → Writes p q → Lies (seen_by p) (mine_of p) → IsFeeding p → FeedsAlone p q
alone_writes p q w lies fe =
    let xs = seen_by p in
    let quiet = writes_quiet w.es w.are in
    record {
      feeding = record {
        initial = fe.initial;
        is_initial = subst (λ (l : List Entry). initial_of l ≡ Some fe.initial) (sym w.seen) (initial_more xs w.es fe.initial fe.is_initial);
        last = fe.last;
        is_last = ap (λ (l : List Entry). last_feeding l) w.seen ∙ (last_same is_feeding xs w.es quiet ∙ fe.is_last);
        is_open = open_writes p q fe.last w fe.is_open;
        closes_own = closes_own_on closes_of p q w.es lies fe.closes_own w.adds (λ e i k closes. absurd (none_some k (sym (writes_close w.es w.are i.0 e i.1) ∙ closes)));
      };
      bytes = ap (λ (l : List Entry). bytes_fed l) w.seen ∙ bytes_quiet xs w.es quiet;
      part = ap (λ (l : List Entry). read_part (present l)) w.seen ∙ part_quiet xs w.es quiet;
      initial_is = ap (λ (l : List Entry). initial_of l) w.seen ∙ (initial_more xs w.es fe.initial fe.is_initial ∙ sym fe.is_initial);
      outstanding = λ out. subst IsCallOutstanding (sym w.seen) (outstanding_quiet xs w.es fe.initial fe.is_initial quiet out);
    }

-- ---- One entry that feeds

pub part_piece : (h : List Entry) (out : Bool) (piece : List ℕ) (n : ℕ) → read_part (present (h ++ fed_entry out piece n ∷ [])) ≡ present_after (read_part (present h)) (fed_entry out piece 0)
part_piece h true piece n = ap (λ (l : PresentLink). read_part l) (present_end h (entries.OutOfMemory piece n))
part_piece h false piece n = ap (λ (l : PresentLink). read_part l) (present_end h (entries.Fed piece n))

pub part_stop : (h : List Entry) (cause : Stop) (n : ℕ) → read_part (present (h ++ entries.Stopped cause n ∷ [])) ≡ present_after (read_part (present h)) (entries.Stopped cause 0)
part_stop h cause n = ap (λ (l : PresentLink). read_part l) (present_end h (entries.Stopped cause n))

pub tries_more : (h : List Entry) (e : Entry) (c : InitialState) → initial_of h ≡ Some c → tries_of (h ++ e ∷ []) ≡ tries_of h
tries_more h e c is = ap tries_in (initial_more h (e ∷ []) c is ∙ sym is)

-- the end of a read may follow while more may be fed
pub may_read : (cause : Stop) (h : List Entry) → IsReadEnd cause → MayFeed h → MayStop cause h
may_read causes.LinkRead h end may = may
may_read causes.Closed h end may = may
may_read causes.Budget h end may = may
may_read causes.Memory h end may = absurd end
may_read causes.DialFault h end may = absurd end
may_read (causes.Spent spent need) h end may = absurd end
may_read causes.NotReopened h end may = absurd end

pub not_memory : (cause : Stop) → IsReadEnd cause → cause ≢ causes.Memory
not_memory cause end e = subst IsReadEnd e end
