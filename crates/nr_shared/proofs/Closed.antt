-- What is given back at the end.
use Rattle.std.proofs.Common.{◌≡◌, ◌⊎◌, ⊎_elim, ℕ, ◌+◌, ◌<◌, ◌≤◌, arith, Bool, true, false, List, [], ◌∷◌, length, length-append, append-nil, Option, None, Some, is_some, refl, sym, ap, subst, ◌∙◌}
use mathlib.Core.Option.{some, some-injective, some-ne-none}
use lib.ListN.{get_elem?}
use Rattle.nr_links.specs.Links.{HasOpenLink, LinkLog}
use Rattle.nr_links.specs.Limits.{read_max}
use Rattle.nr_turnstile.specs.declared.turnstile.Pass.{Pass as TurnPass}
use Rattle.nr_turnstile.specs.Rule.{Begins, Earlier, IsIn, Lies, Owns, Rising, in_order}
use Rattle.nr_turnstile.specs.Passes.{Joins, mine_of, seen_by}
use Rattle.nr_shared.specs.declared.entry.Entry.{Entry}
use Rattle.nr_shared.specs.declared.entry.InitialSink.{InitialSink}
use Rattle.nr_shared.specs.declared.entry.InitialState.{InitialState}
use Rattle.nr_shared.specs.declared.entry.Stop.{Stop}
use Rattle.nr_shared.specs.declared.entry.Stop.TheVariants as causes
use Rattle.nr_shared.specs.declared.source_reader.InitialSource.{InitialSource}
use Rattle.nr_shared.specs.declared.source_reader.SourceReader.{SourceReader}
use Rattle.nr_shared.specs.declared.requester_with_sink.RequesterWithSink.{RequesterWithSink}
use Rattle.nr_shared.specs.Callers.{IsCaller, IsFeeding}
use Rattle.nr_shared.specs.Feeding.{FeedsFor, InitialGiving, KeepsSourceIf, KeepsSourceOf, address_of, shared_giving}
use Rattle.nr_shared.specs.Histories.{FeedsInOrder, PresentLink, bytes_fed, closes_of, initial_of, is_feeding, present, sink_of, stop_of, tries_in, tries_of}
use Rattle.nr_shared.specs.Numbered.{IsBegun}
use Rattle.nr_shared.specs.Opening.{GivesBack, GivesLink, IsInitialHistory}
use Rattle.nr_shared.specs.Standing.{KeepsSinkIf, KeepsSinkOf, RepresentsHistory, Stands}
use Rattle.nr_shared.specs.private.Reading.{both, read_part}
use Rattle.nr_shared.proofs.Adding.{begins_then}
use Rattle.nr_shared.proofs.Alone.{AreQuiet, bytes_quiet, part_quiet}
use Rattle.nr_shared.proofs.Chains.{no_link_after}
use Rattle.nr_shared.proofs.Kept.{dialer_same, source_same}
use Rattle.nr_shared.proofs.Histories.{allowed_by, initial_more}
use Rattle.nr_requester.specs.RequesterState.{RequesterSide}
use Rattle.nr_shared.proofs.Lists.{at_after, at_begin, in_ordered, not_twice, still_first, still_ordered}
use Rattle.nr_shared.proofs.Opened.{dialer_begun, earlier_begun, initial_once, source_begun}
use Rattle.nr_shared.proofs.Resting.{seen_one}
use Rattle.nr_shared.proofs.Told.{IsTold, tries_told}
use Rattle.nr_reduce.specs.declared.call.Call.{Call}
use Rattle.nr_reduce.specs.declared.call.Form.{Form}

true_false : true ≡ false → ⊥
true_false e = absurd cc

module _ {O C : Type 0} where
  -- After what the pass that feeds has seen the history has no entry that feeds: such an entry closes a place of this pass, so that it is an entry
  -- of this pass, or of the caller's into which it was joined. It isn't the first, since it comes after what that pass has seen; and a
  -- caller's entries don't feed.
  after_feeding : (p f j : TurnPass (RequesterWithSink O C) Entry) (h : List Entry) (b : Begins (seen_by f) h) → IsCaller p → (fe : IsFeeding f) → Lies (seen_by f) (mine_of f) → FeedsInOrder h
      → Begins (seen_by p) (seen_by j) → mine_of j ≡ in_order (mine_of p) (mine_of f) → Begins (seen_by j) h → Owns closes_of h (mine_of j) → AreQuiet b.0
  after_feeding p f j h b c fe lies chained first mine whole owns =
      let xs = seen_by f in
      let ys = b.0 in
      let last_own : IsIn fe.last (mine_of j) = subst (IsIn fe.last) (sym mine) (still_ordered (mine_of p) (mine_of f) fe.last fe.is_open.0) in
      let p_begins : Begins (seen_by p) h = begins_then (seen_by p) (seen_by j) h first whole in
      no_link_after closes_of is_feeding xs ys fe.last (subst FeedsInOrder b.1 chained) fe.is_last
      (λ e i link closes.
      (let (n, (is, at)) = at_after xs ys i.0 e i.1 in
      let there : get_elem? h n ≡ some e = subst (λ (l : List Entry). get_elem? l n ≡ some e) (sym b.1) at in
      let own : IsIn n (mine_of j) = owns fe.last n e last_own there closes in
      ⊎_elim
      (λ (caller : IsIn n (mine_of p)).
      (let here : get_elem? (seen_by p) n ≡ some e = at_begin (seen_by p) p_begins.0 n e (c.lies n caller) (subst (λ (l : List Entry). get_elem? l n ≡ some e) p_begins.1 there) in
      true_false (sym link ∙ c.feeds_none n e caller here)))
      (λ (feeds : IsIn n (mine_of f)). (let l = lies n feeds in omega (arith, l, is)))
      (in_ordered (mine_of p) (mine_of f) n (subst (IsIn n) mine own))))

-- a history that begins with one entry and has one has that entry
pub same_initial_source : {A : Type 0} (b c : A) (p q : List A) → p ≡ b ∷ [] → q ≡ c ∷ [] → Begins p q → c ≡ b
same_initial_source b c p q one two begins = some-injective c b (ap (λ l. get_elem? l 0) (sym two ∙ (seen_one p q b c one two begins ∙ one)))

module _ {I O : Type 0} (link : I → ℕ) (left given : I → Option (List ℕ)) (source_faults : I → ℕ) (sink_link : O → ℕ) (taken : O → Option (List ℕ)) (sink_faults : O → ℕ) where
  gives_if : (numbered told : Bool) (shared : InitialGiving) (o : Option I) (k : Option O) (i : Option InitialSink) (read : ℕ) (h : List Entry) → KeepsSourceIf link left given source_faults numbered told shared o i read (present h) → KeepsSinkIf sink_link taken sink_faults k i (present h)
      → GivesLink link left given source_faults sink_link taken sink_faults numbered told shared read (both o k) i h
  gives_if numbered told shared (Some source) (Some sink) (Some i) read h s k = (k, s)
  gives_if numbered told shared None None None read h s k = s
  gives_if numbered told shared (Some source) k None read h s t = absurd s
  gives_if numbered told shared None k (Some i) read h s t = absurd s
  gives_if numbered told shared (Some source) None (Some i) read h s t = absurd t
  gives_if numbered told shared None (Some sink) None read h s t = absurd t

module _ {I O C D : Type 0} (link : I → ℕ) (left given : I → Option (List ℕ)) (source_faults : I → ℕ) (sink_link : O → ℕ) (taken : O → Option (List ℕ)) (sink_faults : O → ℕ) (asked : D → Option (List (List ℕ))) (ended : D → Option LinkLog) (dialer_faults : D → ℕ) (allows : Call → Form → Type 0) where
  pub gives_back : (p j : TurnPass (RequesterWithSink O C) Entry) (s : SourceReader I O C D) (m : RequesterWithSink O C) (b : InitialSource I O C D) (h : List Entry) → IsCaller p → FeedsFor link left given source_faults asked ended dialer_faults b s
      → Joins closes_of p s.pass j → Stands sink_link taken sink_faults allows m h → Begins (seen_by j) h → ((n : ℕ) → IsIn n (mine_of j) → n < length h) → Owns closes_of h (mine_of j) → Earlier closes_of h
      → GivesBack link left given source_faults sink_link taken sink_faults asked ended dialer_faults allows (seen_by p) (mine_of p) b.source.value b.dialer.value (address_of b) b.read m.requester (both s.source m.sink) s.dialer
  gives_back p j s m b h c f (longer_is, first, second, mine, rising, own, lies_j, missed) st whole inside owns earlier =
      let begins : Begins (seen_by p) h = begins_then (seen_by p) (seen_by j) h first whole in
      let fed : Begins (seen_by s.pass) h = begins_then (seen_by s.pass) (seen_by j) h second whole in
      let quiet = after_feeding p s.pass j h fed c f.feeding f.lies st.in_order first mine whole owns in
      let bytes : bytes_fed h ≡ bytes_fed (seen_by s.pass) = ap (λ (l : List Entry). bytes_fed l) fed.1 ∙ bytes_quiet (seen_by s.pass) fed.0 quiet in
      let part : read_part (present h) ≡ read_part (present (seen_by s.pass)) = ap (λ (l : List Entry). read_part (present l)) fed.1 ∙ part_quiet (seen_by s.pass) fed.0 quiet in
      let read : s.read ≡ b.read + length (bytes_fed h) = f.read ∙ ap (λ (l : List ℕ). b.read + length l) (sym bytes) in
      let shared = shared_giving left given source_faults b.source.value in
      let tries : tries_of h ≡ tries_of (seen_by s.pass) = ap (λ (l : List Entry). tries_of l) fed.1 ∙ (ap tries_in (initial_more (seen_by s.pass) fed.0 f.feeding.initial f.feeding.is_initial) ∙ sym (ap tries_in f.feeding.is_initial)) in
      record {
        history = h;
        begins = begins;
        stays_open = λ k o n e at closes. (let own_j = owns k n e (subst (IsIn k) (sym mine) (still_first (mine_of p) (mine_of s.pass) k o.0)) at closes in ⊎_elim
            (λ (caller : IsIn n (mine_of p)). o.1 n e (at_begin (seen_by p) begins.0 n e (c.lies n caller) (subst (λ (l : List Entry). get_elem? l n ≡ some e) begins.1 at)) closes)
            (λ (feeds : IsIn n (mine_of s.pass)). not_twice (mine_of p) (mine_of s.pass) k (subst Rising mine rising) o.0
            (f.feeding.closes_own n k e feeds (at_begin (seen_by s.pass) fed.0 n e (f.lies n feeds) (subst (λ (l : List Entry). get_elem? l n ≡ some e) fed.1 at)) closes))
            (in_ordered (mine_of p) (mine_of s.pass) n (subst (IsIn n) mine own_j)));
        lies = λ k i. (let old = c.lies k i in let len = ap length begins.1 ∙ length-append (seen_by p) begins.0 in omega (arith, old, len));
        earlier = earlier;
        initial = st.initial;
        is_initial = st.is_initial;
        represents = subst (λ (o : Option Stop). RepresentsHistory st.initial m.requester o h) st.stopped st.represents;
        calls = st.calls;
        in_order = st.in_order;
        allowed = st.allowed;
        closes_calls = st.closes_calls;
        output = st.output;
        in_full = st.in_full;
        may_follow = st.may_follow;
        within_tries = st.within_tries;
        fed = st.within.fed;
        read = (let w = f.within in omega (arith, w, read));
        link_is = (let x = is_some (tries_of (seen_by s.pass)) in
            subst (λ (z : Bool). GivesLink link left given source_faults sink_link taken sink_faults z (is_some (ended b.dialer.value)) shared (b.read + length (bytes_fed h)) (both s.source m.sink) (sink_of h) h) (ap (λ (o : Option ℕ). is_some o) (sym tries ∙ ap tries_in st.is_initial))
            (gives_if link left given source_faults sink_link taken sink_faults x (is_some (ended b.dialer.value)) shared s.source m.sink (sink_of h) (b.read + length (bytes_fed h)) h
            (subst (λ (n : ℕ). KeepsSourceOf link left given source_faults x (is_some (ended b.dialer.value)) shared s.source n (present h)) read (source_same link left given source_faults x (is_some (ended b.dialer.value)) shared s.source s.read (present (seen_by s.pass)) (present h) part f.source))
            st.sink));
        dialer_is = dialer_same asked ended dialer_faults (address_of b) shared b.dialer.value s.dialer (present (seen_by s.pass)) (present h) part f.dialer;
      }

  -- what wasn't shared
  pub unshared : (m : RequesterWithSink O C) (h : List Entry) (source : I) (dialer : D) (addr : List ℕ) (read_before : ℕ) → read_before ≤ read_max → Stands sink_link taken sink_faults allows m h → Earlier closes_of h → IsBegun link ended h source dialer
      → GivesBack link left given source_faults sink_link taken sink_faults asked ended dialer_faults allows h [] source dialer addr read_before m.requester (both (Some source) m.sink) dialer
  unshared m h source dialer addr read_before within st earlier begun =
      let none : bytes_fed h ≡ [] = ap (λ (l : List Entry). bytes_fed l) begun.history_is in
      record {
        history = h;
        begins = ([], sym (append-nil h));
        lies = λ k i. absurd (some-ne-none k (sym i.1));
        stays_open = λ k o. absurd (some-ne-none k (sym o.0.1));
        earlier = earlier;
        initial = st.initial;
        is_initial = st.is_initial;
        represents = subst (λ (o : Option Stop). RepresentsHistory st.initial m.requester o h) st.stopped st.represents;
        calls = st.calls;
        in_order = st.in_order;
        allowed = st.allowed;
        closes_calls = st.closes_calls;
        output = st.output;
        in_full = st.in_full;
        may_follow = st.may_follow;
        within_tries = st.within_tries;
        fed = st.within.fed;
        read = (let len : length (bytes_fed h) ≡ 0 = ap length none in omega (arith, within, len));
        link_is = (let shared = shared_giving left given source_faults source in let read = read_before + length (bytes_fed h) in
            subst (λ (z : Bool). GivesLink link left given source_faults sink_link taken sink_faults z (is_some (ended dialer)) shared read (both (Some source) m.sink) (sink_of h) h) (ap (λ (o : Option ℕ). is_some o) (ap tries_in st.is_initial))
            (gives_if link left given source_faults sink_link taken sink_faults (is_some (tries_of h)) (is_some (ended dialer)) shared (Some source) m.sink (sink_of h) read h (source_begun link left given source_faults ended (is_some (ended dialer)) h source dialer read begun) st.sink));
        dialer_is = dialer_begun link asked ended dialer_faults addr (shared_giving left given source_faults source) h source dialer begun;
      }

  -- the same of what came back
  pub unshared_as : (m : RequesterWithSink O C) (h : List Entry) (source : I) (dialer : D) (addr : List ℕ) (read_before : ℕ) (r : RequesterSide) (both_halves : Option (I × O)) (d : D) → read_before ≤ read_max → Stands sink_link taken sink_faults allows m h → IsBegun link ended h source dialer
      → r ≡ m.requester → both_halves ≡ both (Some source) m.sink → d ≡ dialer → GivesBack link left given source_faults sink_link taken sink_faults asked ended dialer_faults allows h [] source dialer addr read_before r both_halves d
  unshared_as m h source dialer addr read_before r both_halves d within st begun same_requester same_link same_dialer =
      subst (λ (x : RequesterSide). GivesBack link left given source_faults sink_link taken sink_faults asked ended dialer_faults allows h [] source dialer addr read_before x both_halves d) (sym same_requester)
      (subst (λ (x : Option (I × O)). GivesBack link left given source_faults sink_link taken sink_faults asked ended dialer_faults allows h [] source dialer addr read_before m.requester x d) (sym same_link)
      (subst (λ (x : D). GivesBack link left given source_faults sink_link taken sink_faults asked ended dialer_faults allows h [] source dialer addr read_before m.requester (both (Some source) m.sink) x) (sym same_dialer)
      (unshared m h source dialer addr read_before within st (earlier_begun link ended h source dialer begun) begun)))

-- by another rule, which allows what this one does
pub back_by : {I O D : Type 0} (link : I → ℕ) (left given : I → Option (List ℕ)) (source_faults : I → ℕ) (sink_link : O → ℕ) (taken : O → Option (List ℕ)) (sink_faults : O → ℕ) (asked : D → Option (List (List ℕ))) (ended : D → Option LinkLog) (dialer_faults : D → ℕ)
    (allows allows' : Call → Form → Type 0) → ((call : Call) (form : Form) → allows call form → allows' call form)
    → (seen : List Entry) (mine : List ℕ) (first : I) (first_dialer : D) (addr : List ℕ) (read_before : ℕ) (r : RequesterSide) (both_halves : Option (I × O)) (dialer : D)
    → GivesBack link left given source_faults sink_link taken sink_faults asked ended dialer_faults allows seen mine first first_dialer addr read_before r both_halves dialer
    → GivesBack link left given source_faults sink_link taken sink_faults asked ended dialer_faults allows' seen mine first first_dialer addr read_before r both_halves dialer
back_by link left given source_faults sink_link taken sink_faults asked ended dialer_faults allows allows' more seen mine first first_dialer addr read_before r both_halves dialer b = record {
  history = b.history;
  begins = b.begins;
  lies = b.lies;
  stays_open = b.stays_open;
  earlier = b.earlier;
  initial = b.initial;
  is_initial = b.is_initial;
  represents = b.represents;
  calls = b.calls;
  in_order = b.in_order;
  allowed = allowed_by allows allows' b.history more b.allowed;
  closes_calls = b.closes_calls;
  output = b.output;
  in_full = b.in_full;
  may_follow = b.may_follow;
  within_tries = b.within_tries;
  fed = b.fed;
  read = b.read;
  link_is = b.link_is;
  dialer_is = b.dialer_is;
}

-- ---- A link that came back

-- it has both halves, unless it may be dialled again
pub link_back : {I O D : Type 0} (link : I → ℕ) (left given : I → Option (List ℕ)) (source_faults : I → ℕ) (sink_link : O → ℕ) (taken : O → Option (List ℕ)) (sink_faults : O → ℕ) (asked : D → Option (List (List ℕ))) (ended : D → Option LinkLog) (dialer_faults : D → ℕ) (allows : Call → Form → Type 0)
    (history : List Entry) (mine : List ℕ) (first : I) (first_dialer : D) (addr : List ℕ) (read : ℕ) (r : RequesterSide) (dialer : D) → tries_of history ≡ None → (c : InitialState) → initial_of history ≡ Some c
    → GivesBack link left given source_faults sink_link taken sink_faults asked ended dialer_faults allows history mine first first_dialer addr read r None dialer → ⊥
link_back link left given source_faults sink_link taken sink_faults asked ended dialer_faults allows history mine first first_dialer addr read r dialer none c is b = by (sink_of b.history) b.link_is where
  same : initial_of b.history ≡ Some c
  same = ap (λ (l : List Entry). initial_of l) b.begins.1 ∙ initial_more history b.begins.0 c is

  no_tries : b.initial.tries ≡ None
  no_tries = ap tries_in (sym b.is_initial ∙ (same ∙ sym is)) ∙ none

  by : (i : Option InitialSink) → GivesLink link left given source_faults sink_link taken sink_faults (is_some b.initial.tries) (is_some (ended first_dialer)) (shared_giving left given source_faults first) (read + length (bytes_fed b.history)) None i b.history → ⊥
  by None stop = subst (λ (o : Option ℕ). IsTold o (Some causes.DialFault)) no_tries (subst (IsTold b.initial.tries) stop (tries_told b.initial b.history b.is_initial b.may_follow))
  by (Some sink) bad = bad

pub never_none : {I O D : Type 0} (link : I → ℕ) (left given : I → Option (List ℕ)) (source_faults : I → ℕ) (sink_link : O → ℕ) (taken : O → Option (List ℕ)) (sink_faults : O → ℕ) (asked : D → Option (List (List ℕ))) (ended : D → Option LinkLog) (dialer_faults : D → ℕ) (allows : Call → Form → Type 0)
    (k : RequesterSide) (sink : O) (history : List Entry) (first : I) (first_dialer : D) (addr : List ℕ) (read : ℕ) (r : RequesterSide) (halves : Option (I × O)) (dialer : D) → IsInitialHistory sink_link taken sink_faults k sink None history → halves ≡ None
    → GivesBack link left given source_faults sink_link taken sink_faults asked ended dialer_faults allows history [] first first_dialer addr read r halves dialer → ⊥
never_none {I} {O} {D} link left given source_faults sink_link taken sink_faults asked ended dialer_faults allows k sink history first first_dialer addr read r halves dialer o none b =
    let (c, (is, tries)) = initial_once sink_link taken sink_faults k sink None history o in
    link_back link left given source_faults sink_link taken sink_faults asked ended dialer_faults allows history [] first first_dialer addr read r dialer tries c is (subst (λ (x : Option (I × O)). GivesBack link left given source_faults sink_link taken sink_faults asked ended dialer_faults allows history [] first first_dialer addr read r x dialer) none b)

-- as two halves, of a requester without an address
pub halves_back : {I O D : Type 0} (link : I → ℕ) (left given : I → Option (List ℕ)) (source_faults : I → ℕ) (sink_link : O → ℕ) (taken : O → Option (List ℕ)) (sink_faults : O → ℕ) (asked : D → Option (List (List ℕ))) (ended : D → Option LinkLog) (dialer_faults : D → ℕ) (allows : Call → Form → Type 0)
    (history : List Entry) (first : I) (first_dialer : D) (addr : List ℕ) (read : ℕ) (r : RequesterSide) (halves : Option (I × O)) (source : I) (sink : O) (dialer : D) → halves ≡ Some (source, sink) → addr ≡ []
    → GivesBack link left given source_faults sink_link taken sink_faults asked ended dialer_faults allows history [] first first_dialer addr read r halves dialer
    → (d : D) × ((e : D) × GivesBack link left given source_faults sink_link taken sink_faults asked ended dialer_faults allows history [] first d [] read r (Some (source, sink)) e)
halves_back {I} {O} {D} link left given source_faults sink_link taken sink_faults asked ended dialer_faults allows history first first_dialer addr read r halves source sink dialer both_are none b = (
  first_dialer,
  (
    dialer,
    subst (λ (x : Option (I × O)). GivesBack link left given source_faults sink_link taken sink_faults asked ended dialer_faults allows history [] first first_dialer [] read r x dialer) both_are
        (subst (λ (a : List ℕ). GivesBack link left given source_faults sink_link taken sink_faults asked ended dialer_faults allows history [] first first_dialer a read r halves dialer) none b),
  ),
)

-- it can be hung up, if it may be dialled again
pub back_open : {I O D : Type 0} (link : I → ℕ) (left given : I → Option (List ℕ)) (source_faults : I → ℕ) (sink_link : O → ℕ) (taken : O → Option (List ℕ)) (sink_faults : O → ℕ) (asked : D → Option (List (List ℕ))) (ended : D → Option LinkLog) (dialer_faults : D → ℕ) (allows : Call → Form → Type 0)
    (history : List Entry) (mine : List ℕ) (first : I) (first_dialer : D) (addr : List ℕ) (read : ℕ) (r : RequesterSide) (source : I) (sink : O) (dialer : D) → is_some (tries_of history) ≡ true → (c : InitialState) → initial_of history ≡ Some c → HasOpenLink (ended first_dialer)
    → GivesBack link left given source_faults sink_link taken sink_faults asked ended dialer_faults allows history mine first first_dialer addr read r (Some (source, sink)) dialer → (link source ≡ sink_link sink) × HasOpenLink (ended dialer)
back_open link left given source_faults sink_link taken sink_faults asked ended dialer_faults allows history mine first first_dialer addr read r source sink dialer numbered c is opened b = by (sink_of b.history) refl b.link_is where
  same : initial_of b.history ≡ Some c
  same = ap (λ (l : List Entry). initial_of l) b.begins.1 ∙ initial_more history b.begins.0 c is

  tries : is_some b.initial.tries ≡ true
  tries = ap (λ (o : Option InitialState). is_some (tries_in o)) (sym b.is_initial ∙ (same ∙ sym is)) ∙ numbered

  by : (i : Option InitialSink) → sink_of b.history ≡ i → GivesLink link left given source_faults sink_link taken sink_faults (is_some b.initial.tries) (is_some (ended first_dialer)) (shared_giving left given source_faults first) (read + length (bytes_fed b.history)) (Some (source, sink)) i b.history
      → (link source ≡ sink_link sink) × HasOpenLink (ended dialer)
  by None none bad = absurd bad
  by (Some i) there (keeps, gave) = (gave.number tries ∙ sym keeps.number, b.dialer_is.open_link (ap (λ (o : Option InitialSink). is_some o) there) opened)
