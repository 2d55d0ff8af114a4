-- A requester that is shared over a link that was just dialled.
use Rattle.std.proofs.Common.{◌≡◌, ◌⊎◌, inr, ℕ, ◌<◌, ◌≤◌, ◌≢◌, arith, true, is_some, List, [], ◌∷◌, Option, Some, None, refl, sym, ap, subst, ◌∙◌}
use Rattle.std.specs.Prelude.{IfSome}
use Rattle.nr_outside.specs.Faults.{Rises}
use Rattle.nr_link.specs.declared.end.End.TheVariants as ends
use Rattle.nr_links.specs.Asked.{Asks}
use Rattle.nr_links.specs.Links.{HasOpenLink, IsNewLink, IsNumbered, IsTold, LinkLog, MakesLink}
use Rattle.nr_reduce.specs.declared.call.Call.{Call}
use Rattle.nr_reduce.specs.declared.call.Form.{Form}
use Rattle.nr_requester.specs.RequesterState.{RequesterSide}
use Rattle.nr_turnstile.specs.Passes.{mine_of, seen_by}
use Rattle.nr_requester.specs.Fed.{fed_bytes}
use Rattle.nr_shared.specs.declared.entry.Entry.{Entry}
use Rattle.nr_shared.specs.declared.entry.Entry.TheVariants as entries
use Rattle.nr_shared.specs.declared.entry.InitialSink.{InitialSink}
use Rattle.nr_shared.specs.declared.entry.InitialState.{InitialState}
use Rattle.nr_shared.specs.declared.opening.NotShared.{NotShared}
use Rattle.nr_shared.specs.declared.opening.NotShared.TheVariants as not_shared
use Rattle.nr_shared.specs.declared.shared.Pass.{Pass}
use Rattle.nr_shared.specs.declared.source_reader.InitialSource.{InitialSource}
use Rattle.nr_shared.specs.Feeding.{address_of}
use Rattle.nr_shared.specs.Histories.{initial_of, tries_in, tries_of}
use Rattle.nr_shared.specs.Numbered.{GivesUpDialled, HangsUpBack, IsBegun, IsNotShared, NumberedOpened, NumberedRefused}
use Rattle.nr_shared.specs.Opening.{GivesBack, IsInitialHistory}
use Rattle.nr_shared.specs.Standing.{bytes_before}
use Rattle.nr_shared.proofs.Closed.{back_open}

abbrev pub dialled_sink : {O : Type 0} → (link : O → ℕ) → (taken : O → Option (List ℕ)) → (faults : O → ℕ) → O → InitialSink
dialled_sink link taken faults sink = record { link = link sink; faults = faults sink; taken = taken sink }

abbrev pub dialled_state : {O : Type 0} → (link : O → ℕ) → (taken : O → Option (List ℕ)) → (faults : O → ℕ) → RequesterSide → O → ℕ → InitialState
dialled_state link taken faults r sink tries = record { requester = r; sink = dialled_sink link taken faults sink; tries = Some tries }

pub initial_dialled : {O : Type 0} (link : O → ℕ) (taken : O → Option (List ℕ)) (faults : O → ℕ) (r : RequesterSide) (sink : O) (tries : ℕ) → r.state.side.ended ≢ Some ends.Memory → fed_bytes r ≤ bytes_before → 0 < r.state.side.terms.number → tries ≤ 16
    → IsInitialHistory link taken faults r sink (Some tries) (entries.Initial (dialled_state link taken faults r sink tries) ∷ [])
initial_dialled link taken faults r sink tries memory fed number few = record {
  initial = dialled_state link taken faults r sink tries;
  history_is = refl;
  requester_is = refl;
  has_memory = memory;
  fed = fed;
  sink_link = refl;
  sink_taken = refl;
  sink_faults = refl;
  tries_are = refl;
  numbered = number;
  few = (omega arith, few);
}

pub begun_dialled : {I O D : Type 0} (source_link : I → ℕ) (link : O → ℕ) (taken : O → Option (List ℕ)) (faults : O → ℕ) (ended : D → Option LinkLog) (r : RequesterSide) (source : I) (sink : O) (dialer : D) (tries : ℕ) → source_link source ≡ link sink → HasOpenLink (ended dialer)
    → IsBegun source_link ended (entries.Initial (dialled_state link taken faults r sink tries) ∷ []) source dialer
begun_dialled source_link link taken faults ended r source sink dialer tries same made = record { initial = dialled_state link taken faults r sink tries; history_is = refl; same = λ some. same; link_made = λ some. made }

module _ {I O D : Type 0} (link : I → ℕ) (left given : I → Option (List ℕ)) (source_faults : I → ℕ) (sink_link : O → ℕ) (taken : O → Option (List ℕ)) (sink_faults : O → ℕ) (asked : D → Option (List (List ℕ))) (ended : D → Option LinkLog) (dialer_faults : D → ℕ) (allows : Call → Form → Type 0) where
  -- the link that came back can be hung up
  pub back_dialled : (tries : ℕ) (r : RequesterSide) (sink : O) (history : List Entry) (first : I) (first_dialer : D) (addr : List ℕ) (read : ℕ) (r' : RequesterSide) (halves : Option (I × O)) (dialer : D) → IsInitialHistory sink_link taken sink_faults r sink (Some tries) history → IsBegun link ended history first first_dialer
      → GivesBack link left given source_faults sink_link taken sink_faults asked ended dialer_faults allows history [] first first_dialer addr read r' halves dialer → IfSome halves (λ h. (link h.0 ≡ sink_link h.1) × HasOpenLink (ended dialer))
  back_dialled tries r sink history first first_dialer addr read r' None dialer o begun back = tt
  back_dialled tries r sink history first first_dialer addr read r' (Some (a, b)) dialer o begun back =
      back_open link left given source_faults sink_link taken sink_faults asked ended dialer_faults allows history [] first first_dialer addr read r' a b dialer
      (ap (λ (h : List Entry). is_some (tries_of h)) o.history_is ∙ ap (λ (t : Option ℕ). is_some t) o.tries_are) o.initial (ap (λ (h : List Entry). initial_of h) o.history_is)
      (begun.link_made (ap (λ (c : Option InitialState). is_some (tries_in c)) (ap (λ (h : List Entry). initial_of h) (sym begun.history_is ∙ o.history_is)) ∙ ap (λ (t : Option ℕ). is_some t) o.tries_are)) back

  -- memory ran out after the dial
  not_shared_at : (r : RequesterSide) (dialer dialled : D) (addr : List ℕ) (tries : ℕ) (source : I) (sink : O) (why : NotShared D) → link source ≡ sink_link sink → IsNewLink (given source) (taken sink) (source_faults source) (sink_faults sink) → IsTold (ended dialled) (given source) (left source) (taken sink) → Asks (asked dialer) (asked dialled) addr
      → MakesLink (ended dialer) (ended dialled) → dialer_faults dialled ≡ dialer_faults dialer
      → NumberedRefused link left given source_faults sink_link taken sink_faults asked ended dialer_faults allows (entries.Initial (dialled_state sink_link taken sink_faults r sink tries) ∷ []) source dialled addr why
      → IsNotShared link left given source_faults sink_link taken sink_faults asked ended dialer_faults allows r dialer addr tries why
  not_shared_at r dialer dialled addr tries source sink (not_shared.DialFault r' dialer') same new told asks made counted refused = absurd refused
  not_shared_at r dialer dialled addr tries source sink (not_shared.Memory r' dialer') same new told asks made counted refused = inr (record {
    sink = dialled_sink sink_link taken sink_faults sink;
    source = source;
    dialled = dialled;
    same = same;
    new = new;
    told = told;
    asks = asks;
    made = made;
    counted = counted;
    gives_up = refused;
  })

  -- `kept` is the copy of the address
  pub not_dialled : (r : RequesterSide) (dialer dialled : D) (addr kept : List ℕ) (tries : ℕ) (source : I) (sink : O) (why : NotShared D) → kept ≡ addr → link source ≡ sink_link sink → IsNewLink (given source) (taken sink) (source_faults source) (sink_faults sink) → IsTold (ended dialled) (given source) (left source) (taken sink) → Asks (asked dialer) (asked dialled) addr
      → MakesLink (ended dialer) (ended dialled) → dialer_faults dialled ≡ dialer_faults dialer
      → NumberedRefused link left given source_faults sink_link taken sink_faults asked ended dialer_faults allows (entries.Initial (dialled_state sink_link taken sink_faults r sink tries) ∷ []) source dialled kept why
      → IsNotShared link left given source_faults sink_link taken sink_faults asked ended dialer_faults allows r dialer addr tries why
  not_dialled r dialer dialled addr kept tries source sink why copied same new told asks made counted refused =
      not_shared_at r dialer dialled addr tries source sink why same new told asks made counted
      (subst (λ (a : List ℕ). NumberedRefused link left given source_faults sink_link taken sink_faults asked ended dialer_faults allows (entries.Initial (dialled_state sink_link taken sink_faults r sink tries) ∷ []) source dialled a why) copied refused)

-- it is shared
pub opened_dialled : {I O C D : Type 0} (link : I → ℕ) (left given : I → Option (List ℕ)) (source_faults : I → ℕ) (sink_link : O → ℕ) (taken : O → Option (List ℕ)) (sink_faults : O → ℕ) (asked : D → Option (List (List ℕ))) (ended : D → Option LinkLog) (dialer_faults : D → ℕ)
    (r : RequesterSide) (dialer dialled : D) (addr : List ℕ) (tries : ℕ) (source : I) (sink : O) (pass : Pass I O C D) (b : InitialSource I O C D)
    → seen_by pass.main ≡ entries.Initial (dialled_state sink_link taken sink_faults r sink tries) ∷ [] → mine_of pass.main ≡ [] → seen_by pass.source ≡ b ∷ []
    → b.source.value ≡ source → b.dialer.value ≡ dialled → address_of b ≡ addr → b.read ≡ 0
    → link source ≡ sink_link sink → IsNewLink (given source) (taken sink) (source_faults source) (sink_faults sink) → IsTold (ended dialled) (given source) (left source) (taken sink) → Asks (asked dialer) (asked dialled) addr
    → MakesLink (ended dialer) (ended dialled) → dialer_faults dialled ≡ dialer_faults dialer → NumberedOpened link left given source_faults asked ended dialer_faults r dialer addr tries pass
opened_dialled {I} {O} {C} {D} link left given source_faults sink_link taken sink_faults asked ended dialer_faults r dialer dialled addr tries source sink pass b seen mine at is_source is_dialer address unread same new told asks made counted = record {
  sink = dialled_sink sink_link taken sink_faults sink;
  seen = seen;
  mine = mine;
  first = b;
  source = at;
  same = subst (λ (i : I). link i ≡ sink_link sink) (sym is_source) same;
  new = subst (λ (i : I). IsNewLink (given i) (taken sink) (source_faults i) (sink_faults sink)) (sym is_source) new;
  told = subst (λ (d : D). IsTold (ended d) (given b.source.value) (left b.source.value) (taken sink)) (sym is_dialer) (subst (λ (i : I). IsTold (ended dialled) (given i) (left i) (taken sink)) (sym is_source) told);
  unread = unread;
  dialled = subst (λ (d : D). Asks (asked dialer) (asked d) addr) (sym is_dialer) asks;
  made = subst (λ (d : D). MakesLink (ended dialer) (ended d)) (sym is_dialer) made;
  counted = subst (λ (d : D). dialer_faults d ≡ dialer_faults dialer) (sym is_dialer) counted;
  address = address;
}
