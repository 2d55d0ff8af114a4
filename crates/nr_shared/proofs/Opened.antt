-- A requester that is shared stands for the history that is named, and the first pass feeds.
use Rattle.std.proofs.Common.{◌≡◌, ◌⊎◌, ⊎_elim, ℕ, zero, suc, ◌^◌, ◌<◌, ◌≤◌, ◌==◌, arith, Bool, true, false, is_some, List, [], ◌∷◌, length, append-nil, Option, Some, None, refl, sym, ap, subst, ◌∙◌, eq-eqb}
use Rattle.std.proofs.lemmas.Bool.{cases_lt}
use Rattle.std.specs.Io.KnownBytes.{Appends}
use Rattle.std.specs.String.{string_bytes}
use Rattle.std.proofs.KnownBytes.{Appends-nil}
use mathlib.Core.Option.{some, some-injective, some-ne-none}
use lib.ListN.{get_elem?}
use Rattle.nr_outside.proofs.Moves.{HandsOut_nil}
use Rattle.nr_links.specs.Limits.{piece_max, read_max}
use Rattle.nr_links.specs.Links.{LinkLog}
use Rattle.nr_reduce.specs.declared.call.Call.{Call}
use Rattle.nr_reduce.specs.declared.mark.LinkParameters.{LinkParameters}
use Rattle.nr_reduce.specs.declared.mark.Mark.{Mark}
use Rattle.nr_requester.specs.RequesterState.{RequesterSide, RequesterState}
use Rattle.nr_requester.specs.Fed.{fed_bytes}
use Rattle.nr_requester.specs.ReopenedLinks.{RequesterKeeps}
use Rattle.nr_requester.proofs.ReopenedLinks.{first_links_are_kept}
use Rattle.nr_requester.specs.OpenCalls.{IsFresh, call_with, found_answer, found_call, open_call}
use Rattle.nr_requester.specs.declared.answer.AnsweredCall.{AnsweredCall}
use Rattle.nr_requester.specs.RequesterState.{StoredCall}
use Rattle.nr_turnstile.specs.declared.turnstile.Pass.{Pass}
use Rattle.nr_turnstile.specs.Rule.{Earlier, IsIn, Lies, places}
use Rattle.nr_turnstile.specs.Passes.{IsOutside, home_of, mine_of, seen_by}
use Rattle.nr_shared.specs.declared.entry.Entry.{Entry}
use Rattle.nr_shared.specs.declared.entry.Entry.TheVariants as entries
use Rattle.nr_shared.specs.declared.entry.InitialState.{InitialState}
use Rattle.nr_shared.specs.declared.entry.Stop.{Stop}
use Rattle.nr_shared.specs.declared.source_reader.InitialSource.{InitialSource}
use Rattle.nr_shared.specs.declared.source_reader.SourceReader.{SourceReader}
use Rattle.nr_shared.specs.declared.requester_with_sink.RequesterWithSink.{RequesterWithSink}
use Rattle.nr_shared.specs.Callers.{IsFeeding}
use Rattle.nr_shared.specs.Feeding.{FeedsFor, InitialGiving, KeepsDialer, KeepsSourceOf, address_of, shared_giving}
use Rattle.nr_shared.specs.Histories.{AreAllowed, IsCallAt, submitted_call, bytes_fed, closes_of, initial_of, last_feeding, present, tries_of}
use Rattle.nr_shared.specs.Opening.{IsInitialHistory}
use Rattle.nr_shared.specs.LinkRuns.{FitsInitialState, OpenedLink, is_of, links_of}
use Rattle.nr_shared.specs.LinkStanding.{IsLiveOn}
use Rattle.nr_shared.specs.Marks.{IsLive}
use Rattle.nr_shared.specs.Numbered.{IsBegun}
use Rattle.nr_shared.specs.Standing.{IsNumbered, KeepsSinkOf, RejoinsWithin, RepresentsHistory, Stands, one_if}
use Rattle.nr_shared.proofs.Asking.{none_closed}
use Rattle.nr_shared.proofs.Calls.{closes_end, none_closes, none_some}
use Rattle.nr_shared.proofs.Histories.{allowed_end}
use Rattle.nr_shared.proofs.LinkRuns.{first_in_range}
use Rattle.nr_shared.proofs.Lists.{at_below, at_end, in_places, place_in, places_len}
use Rattle.nr_shared.proofs.Output.{follow_end, full_same, none_follow, none_wrote, output_none}
use Rattle.nr_shared.proofs.Steps.{false_true}
use Rattle.nr_reduce.specs.declared.call.Form.{Form}

-- ---- The initial state

-- the initial state closes nothing, and is no call
earlier_first : (c : InitialState) → Earlier closes_of (entries.Initial c ∷ [])
earlier_first c p q f at is = ⊎_elim
    (λ (old : get_elem? [] q ≡ some f). absurd (some-ne-none f (sym old)))
    (λ (new : (q ≡ 0) × (entries.Initial c ≡ f)). absurd (none_closed p (ap closes_of new.1 ∙ is)))
    (at_end [] (entries.Initial c) f q at)

initial_allowed : (allows : Call → Form → Type 0) (c : InitialState) → AreAllowed allows (entries.Initial c ∷ [])
initial_allowed allows c = allowed_end allows [] (entries.Initial c) (λ k e at. absurd (some-ne-none e (sym at))) tt

not_asked : (e : Entry) (xid k : ℕ) (call : Call) → submitted_call xid e ≡ None → IsCallAt (e ∷ []) xid k call → ⊥
not_asked e xid zero call none (f, at, is) = none_some call (sym none ∙ (ap (λ (x : Entry). submitted_call xid x) (some-injective e f at) ∙ is))
not_asked e xid (suc k) call none (f, at, is) = some-ne-none f (sym at)

-- ---- The requester

is_none : (c : Option StoredCall) (a : Option AnsweredCall) → c ≡ None → a ≡ None → call_with c a ≡ None
is_none None None one two = refl
is_none (Some c) a one two = absurd cc
is_none None (Some a) one two = absurd cc

below_next : (r : RequesterState) (xid : ℕ) → ((x : ℕ) → r.next_xid ≤ x → IsFresh r x) → is_some (open_call xid r) ≡ true → xid < r.next_xid
below_next r xid fresh there = ⊎_elim
    (λ (lt : xid < r.next_xid). lt)
    (λ (ge : r.next_xid ≤ xid). (let f = fresh xid ge in absurd (false_true (sym (ap is_some (is_none (found_call xid r) (found_answer xid r) f.0 f.1)) ∙ there))))
    (cases_lt xid r.next_xid)

-- each call belongs to the first link
all_own : (at : OpenedLink) (run : List Mark) → is_of (record { at = at; left = []; run = run }) at.link ≡ (λ (xid : ℕ). true)
all_own at run = λ i. λ (xid : ℕ). same at.link i where
  same : (n : ℕ) → (n == n) ≡ true
  same n = eq-eqb n n refl

live_first : (opened : LinkParameters) (numbers : ℕ → ℕ) (before : List Mark) (n most : ℕ) (c : InitialState) (r : RequesterSide) → c.requester ≡ r → FitsInitialState c most opened numbers before → IsLiveOn (links_of opened numbers before n (entries.Initial c ∷ [])) r
unfolding links_of
live_first opened numbers before n most c r is fits =
    let at : OpenedLink = record { opened = opened; link = numbers 0 } in
    let live : IsLive opened (numbers 0) r before = subst (λ (x : RequesterSide). IsLive opened (numbers 0) x before) is fits.live in
    subst (λ (run : List Mark). IsLiveOn (record { at = at; left = []; run = run }) r) (sym (append-nil before)) (record {
      earlier = 0;
      keeps = subst (λ (own : ℕ → Bool). RequesterKeeps own 0 opened (numbers 0) r before) (sym (all_own at before)) (first_links_are_kept opened (numbers 0) r before live.stands);
      opens = fits.opens;
      in_range = first_in_range opened fits.first;
      law = record { asked = live.asked; granted = live.granted };
      left = tt;
    })

module _ {O C : Type 0} (link : O → ℕ) (taken : O → Option (List ℕ)) (faults : O → ℕ) (allows : Call → Form → Type 0) where
  pub opens : (m : RequesterWithSink O C) (sink : O) (tries : Option ℕ) (history : List Entry) → IsInitialHistory link taken faults m.requester sink tries history → m.sink ≡ Some sink → m.tries ≡ tries → m.rejoined ≡ 0 → m.entries ≡ 1 → m.pending ≡ true → m.write_failed ≡ false → m.stopped ≡ None
      → ((x : ℕ) → m.requester.state.next_xid ≤ x → IsFresh m.requester.state x) → m.requester.state.next_xid ≤ 2 ^ 32 → Stands link taken faults allows m history
  opens m sink tries history o has most none count pending whole going fresh small =
      let c = o.initial in
      let e : Entry = entries.Initial c in
      let n : length (places m.requester.state.next_xid) ≡ m.requester.state.next_xid = places_len m.requester.state.next_xid 0 in
      let is_due : one_if m.pending ≡ 1 = ap one_if pending in
      let fed = o.fed in
      let same : fed_bytes c.requester ≡ fed_bytes m.requester = ap fed_bytes o.requester_is in
      subst (Stands link taken faults allows m) (sym o.history_is) (record {
        initial = c;
        is_initial = refl;
        entries = count;
        represents = subst (λ (s : Option Stop). RepresentsHistory c m.requester s (e ∷ [])) (sym going) (o.has_memory, λ k opened numbers before fits. live_first opened numbers before k 0 c m.requester o.requester_is fits);
        calls = λ xid k call asked unclosed. absurd (not_asked e xid k call refl asked);
        sink = subst (λ (k : Option O). KeepsSinkOf link taken faults k (present (e ∷ []))) (sym has) (record {
          number = sym o.sink_link;
          took = subst (λ (t : Option (List ℕ)). Appends t (taken sink) []) (sym o.sink_taken) (Appends-nil (taken sink));
          never_falls = (let f = o.sink_faults in omega (arith, f));
          failed = λ is. absurd cc;
          counted = λ is. sym o.sink_faults;
        });
        tries = most ∙ sym o.tries_are;
        rejoined = none;
        within_tries = subst (λ (k : Option ℕ). RejoinsWithin k 0) (sym o.tries_are) o.few;
        numbered = subst (λ (k : Option ℕ). IsNumbered k m.requester.state) (sym o.tries_are) o.numbered;
        write_failed = whole;
        stopped = going;
        in_order = ((λ is. refl), tt);
        allowed = initial_allowed allows c;
        closes_calls = closes_end [] e tt none_closes;
        output = output_none (e ∷ []) (refl, tt);
        in_full = full_same [] e refl none_wrote;
        may_follow = follow_end [] e tt none_follow;
        pending = λ is. absurd (false_true (sym is ∙ pending));
        within = (let none : length (bytes_fed (e ∷ [])) ≡ 0 = refl in record {
          open_xids = places m.requester.state.next_xid;
          is_open_xid = λ xid there. place_in m.requester.state.next_xid xid (below_next m.requester.state xid fresh there);
          length_bound = omega (arith, n, is_due, none);
          few = omega arith;
          xids = small;
          bytes = omega (arith, none);
          before = omega (arith, fed, same);
          fed = omega (arith, same, none);
        });
      })

-- ---- The first pass

module _ {O : Type 0} (link : O → ℕ) (taken : O → Option (List ℕ)) (faults : O → ℕ) where
  pub earlier_opened : (r : RequesterSide) (sink : O) (tries : Option ℕ) (history : List Entry) → IsInitialHistory link taken faults r sink tries history → Earlier closes_of history
  earlier_opened r sink tries history o = subst (Earlier closes_of) (sym o.history_is) (earlier_first o.initial)

-- the history of a requester that is never reopened
pub begun_once : {I O D : Type 0} (source_link : I → ℕ) (link : O → ℕ) (taken : O → Option (List ℕ)) (faults : O → ℕ) (ended : D → Option LinkLog) (r : RequesterSide) (sink : O) (history : List Entry) (source : I) (dialer : D) → IsInitialHistory link taken faults r sink None history → IsBegun source_link ended history source dialer
begun_once source_link link taken faults ended r sink history source dialer o = record {
  initial = o.initial;
  history_is = o.history_is;
  same = λ some. absurd (false_true (sym (ap (λ (t : Option ℕ). is_some t) o.tries_are) ∙ some));
  link_made = λ some. absurd (false_true (sym (ap (λ (t : Option ℕ). is_some t) o.tries_are) ∙ some));
}

-- its initial state
pub initial_once : {O : Type 0} (link : O → ℕ) (taken : O → Option (List ℕ)) (faults : O → ℕ) (r : RequesterSide) (sink : O) (tries : Option ℕ) (history : List Entry) → IsInitialHistory link taken faults r sink tries history → (c : InitialState) × ((initial_of history ≡ Some c) × (tries_of history ≡ tries))
initial_once link taken faults r sink tries history o = (o.initial, (ap (λ (h : List Entry). initial_of h) o.history_is, ap (λ (h : List Entry). tries_of h) o.history_is ∙ o.tries_are))

-- of a history of one entry, the initial state
pub earlier_begun : {I D : Type 0} (link : I → ℕ) (ended : D → Option LinkLog) (history : List Entry) (source : I) (dialer : D) → IsBegun link ended history source dialer → Earlier closes_of history
earlier_begun link ended history source dialer o = subst (Earlier closes_of) (sym o.history_is) (earlier_first o.initial)

module _ {O C : Type 0} where
  pub first_feeds : {I D : Type 0} (link : I → ℕ) (ended : D → Option LinkLog) (history : List Entry) (source : I) (dialer : D) (p : Pass (RequesterWithSink O C) Entry) → IsBegun link ended history source dialer → seen_by p ≡ history → mine_of p ≡ places (length history) → IsFeeding p
  first_feeds link ended history source dialer p o seen mine =
      let c = o.initial in
      let e : Entry = entries.Initial c in
      let is : seen_by p ≡ e ∷ [] = seen ∙ o.history_is in
      let len : length history ≡ 1 = ap length o.history_is in
      let earlier : Earlier closes_of (seen_by p) = subst (Earlier closes_of) (sym is) (earlier_first c) in
      let seen_len : length (seen_by p) ≡ length history = ap length seen in
      record {
        initial = c;
        is_initial = ap (λ (l : List Entry). initial_of l) is;
        last = 0;
        is_last = ap (λ (l : List Entry). last_feeding l) is;
        is_open = (
          subst (IsIn 0) (sym mine) (place_in (length history) 0 (omega (arith, len))),
          λ q f at closes. (let l = earlier 0 q f at closes in let b = at_below (seen_by p) q f at in omega (arith, l, b, len, seen_len)),
        );
        closes_own = λ n k f i at closes. absurd (let l = earlier k n f at closes in let b = at_below (seen_by p) n f at in omega (arith, l, b, len, seen_len));
      }

  pub first_lies : (history : List Entry) (p : Pass (RequesterWithSink O C) Entry) → seen_by p ≡ history → mine_of p ≡ places (length history) → Lies (seen_by p) (mine_of p)
  first_lies history p seen mine k i =
      let l = in_places (length history) 0 k (subst (IsIn k) mine i) in
      let same : length (seen_by p) ≡ length history = ap length seen in
      omega (arith, l, same)

-- its source, and the dialer
source_first : {I : Type 0} (link : I → ℕ) (left given : I → Option (List ℕ)) (faults : I → ℕ) (told : Bool) (c : InitialState) (source : I) (read : ℕ) → (is_some c.tries ≡ true → link source ≡ c.sink.link) → KeepsSourceOf link left given faults (is_some (tries_of (entries.Initial c ∷ []))) told (shared_giving left given faults source) (Some source) read (present (entries.Initial c ∷ []))
source_first link left given faults told c source read number = record {
  number = number;
  first = shared_giving left given faults source;
  is_first = refl;
  gave = HandsOut_nil (left source) (given source);
  never_falls = omega arith;
  failed = λ is. absurd cc;
  counted = λ is. refl;
  stop = tt;
}

pub source_begun : {I D : Type 0} (link : I → ℕ) (left given : I → Option (List ℕ)) (faults : I → ℕ) (ended : D → Option LinkLog) (told : Bool) (history : List Entry) (source : I) (dialer : D) (read : ℕ) → IsBegun link ended history source dialer
    → KeepsSourceOf link left given faults (is_some (tries_of history)) told (shared_giving left given faults source) (Some source) read (present history)
source_begun link left given faults ended told history source dialer read o = subst (λ (h : List Entry). KeepsSourceOf link left given faults (is_some (tries_of h)) told (shared_giving left given faults source) (Some source) read (present h)) (sym o.history_is)
    (source_first link left given faults told o.initial source read o.same)

pub dialer_begun : {I D : Type 0} (link : I → ℕ) (asked : D → Option (List (List ℕ))) (ended : D → Option LinkLog) (faults : D → ℕ) (addr : List ℕ) (giving : InitialGiving) (history : List Entry) (source : I) (dialer : D) → IsBegun link ended history source dialer → KeepsDialer asked ended faults addr giving dialer dialer (present history)
dialer_begun link asked ended faults addr giving history source dialer o = subst (λ (h : List Entry). KeepsDialer asked ended faults addr giving dialer dialer (present h)) (sym o.history_is) (record {
  open_link = λ some opened. opened;
  hung_up = refl;
  dialled = refl;
  counted = λ no. refl;
  failed = λ is. absurd cc;
})

pub first_reader : {I O C D : Type 0} (link : I → ℕ) (left given : I → Option (List ℕ)) (faults : I → ℕ) (asked : D → Option (List (List ℕ))) (ended : D → Option LinkLog) (dialer_faults : D → ℕ) (b : InitialSource I O C D) (s : SourceReader I O C D) (history : List Entry)
    → string_bytes s.addr ≡ address_of b → home_of s.pass ≡ home_of b.pass.value → IsOutside s.pass → Lies (seen_by s.pass) (mine_of s.pass) → IsFeeding s.pass → seen_by s.pass ≡ history → IsBegun link ended history b.source.value b.dialer.value
    → s.source ≡ Some b.source.value → s.dialer ≡ b.dialer.value → s.read ≡ b.read → b.read ≤ read_max → length s.buf.items ≡ piece_max → FeedsFor link left given faults asked ended dialer_faults b s
first_reader {I} {O} {C} {D} link left given faults asked ended dialer_faults b s history address home outside lies feeding seen o source dialer read small room = record {
  home = home;
  outside = outside;
  lies = lies;
  feeding = feeding;
  source = (let shared = shared_giving left given faults b.source.value in
      subst (λ (x : Option I). KeepsSourceOf link left given faults (is_some (tries_of (seen_by s.pass))) (is_some (ended b.dialer.value)) shared x s.read (present (seen_by s.pass))) (sym source)
      (subst (λ (h : List Entry). KeepsSourceOf link left given faults (is_some (tries_of h)) (is_some (ended b.dialer.value)) shared (Some b.source.value) s.read (present h)) (sym seen) (source_begun link left given faults ended (is_some (ended b.dialer.value)) history b.source.value b.dialer.value s.read o)));
  dialer = (let shared = shared_giving left given faults b.source.value in
      subst (λ (d : D). KeepsDialer asked ended dialer_faults (address_of b) shared b.dialer.value d (present (seen_by s.pass))) (sym dialer)
      (subst (λ (h : List Entry). KeepsDialer asked ended dialer_faults (address_of b) shared b.dialer.value b.dialer.value (present h)) (sym seen) (dialer_begun link asked ended dialer_faults (address_of b) shared history b.source.value b.dialer.value o)));
  open_link = λ some. o.link_made (sym (ap (λ (h : List Entry). is_some (tries_of h)) (seen ∙ o.history_is)) ∙ some);
  address = address;
  read = (let len : length (bytes_fed (seen_by s.pass)) ≡ 0 = ap (λ (l : List Entry). length (bytes_fed l)) (seen ∙ o.history_is) in omega (arith, read, len));
  within = omega (arith, read, small);
  room = room;
}
