use Rattle.std.proofs.Common.{◌≡◌, ◌≢◌, ℕ, ◌<◌, List, length, drop, take, get_or, refl, sym, ap, subst, ◌∙◌, None, Some, Bool, true, false, is_some}
use Rattle.std.specs.List.{list_any}
use Rattle.nr_responder.specs.declared.call.Pending.{Pending}
use Rattle.nr_responder.specs.Views.{call_view, inline_of}
use Rattle.nr_responder.specs.Sound.{state_of}
use Rattle.nr_reduce.specs.Served.{IsExecuted}
use Rattle.nr_responder.proofs.Answered.{has, payload_is_lem, payload_there_lem, inline_is_lem, none_any, get_view}
use Rattle.nr_responder.proofs.server_end.ServerEnd.inline_payload.Goals as goal

streams : (b : Bool) (stream : List ℕ) → is_some (inline_of b stream) ≡ true → inline_of b stream ≡ Some stream
streams true stream is = refl
streams false stream is = absurd cc

pub returns-in-Some : goal.returns-in-Some
returns-in-Some c = record {
  exact = λ opened link run h.
      let p : Pending = c.index-pending.result.now in
      let is : p ≡ get_or c.args.self.now.calls.items c.in-Some.at p = c.index-pending.ensures in
      let place : c.in-Some.at < length c.args.self.now.calls.items = subst (λ (xs : List Pending). c.in-Some.at < length xs) c.as_slice.ensures.value c.in-Some.ensures.some.0 in
      let found : (get_or c.args.self.now.calls.items c.in-Some.at p).xid ≡ c.args.xid = subst (λ (xs : List Pending). (get_or xs c.in-Some.at p).xid ≡ c.args.xid) c.as_slice.ensures.value (c.in-Some.ensures.some.1 p) in
      let own : p.xid ≡ c.args.xid = ap (λ (x : Pending). x.xid) is ∙ found in
      subst (λ (bytes : List ℕ). IsExecuted opened link run c.args.xid bytes) (sym c.stream_of.ensures)
      (payload_is_lem opened link run (state_of c.args.self.now) c.args.xid h c.requires.live c.requires.next c.in-Some.at (call_view p) None (drop p.stream_at (take p.len p.buf))
      (get_view c.args.self.now.calls.items c.in-Some.at p place is) own c.requires.inline
      (streams p.inline (drop p.stream_at (take p.len p.buf)) (inline_is_lem opened link run (state_of c.args.self.now) c.args.xid h c.requires.live c.requires.next c.in-Some.at (call_view p) (get_view c.args.self.now.calls.items c.in-Some.at p place is) own c.requires.inline)));
}

pub returns-in-None : goal.returns-in-None
returns-in-None c = record {
  exact = λ opened link run h.
      absurd (let there : list_any (has c.args.xid) (state_of c.args.self.now).calls ≡ true = payload_there_lem opened link run (state_of c.args.self.now) c.args.xid h c.requires.live c.requires.next in
      let not_there : (k : ℕ) (d : Pending) → k < length c.args.self.now.calls.items → (get_or c.args.self.now.calls.items k d).xid ≢ c.args.xid =
      subst (λ (xs : List Pending). (k : ℕ) (d : Pending) → k < length xs → (get_or xs k d).xid ≢ c.args.xid) c.as_slice.ensures.value (c.in-None.ensures.none refl) in
      let none : list_any (has c.args.xid) (state_of c.args.self.now).calls ≡ false = none_any c.args.xid c.args.self.now.calls.items not_there in
      let two : true ≡ false = sym there ∙ none in cc);
}
