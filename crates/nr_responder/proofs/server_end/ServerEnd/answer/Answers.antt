use Rattle.std.proofs.Common.{◌≡◌, ◌≢◌, ℕ, ◌<◌, List, Bool, true, false, is_some, length, get_or, sym, subst, ◌∙◌, refl}
use Rattle.std.specs.List.{list_any}
use Rattle.nr_responder.specs.declared.call.Pending.{Pending}
use Rattle.nr_responder.specs.Sound.{state_of, with_staging}
use Rattle.nr_responder.specs.Views.{call_view, inline_of}
use Rattle.nr_responder.proofs.Answered.{has, get_view, inline_is_lem, none_any, payload_there_lem, same_item, next_read_lem, down_limit}
use Rattle.nr_responder.proofs.Counts.{answered_all}
use Rattle.nr_responder.proofs.StepBounds.{answer_fits}
use Rattle.nr_responder.proofs.ReadWindows.{none_outside}
use Rattle.nr_responder.proofs.server_end.ServerEnd.answer.Goals as goal

streams : (b : Bool) (stream : List ℕ) → is_some (inline_of b stream) ≡ true → b ≡ true
streams true stream is = refl
streams false stream is = absurd cc

pub answer_at-requires-clause-inline : goal.answer_at-requires-clause-inline
answer_at-requires-clause-inline c = λ d none.
    let s = c.requires.stands in
    let p : Pending = get_or c.args.self.now.calls.items c.in-Some.at d in
    let place : c.in-Some.at < length c.args.self.now.calls.items = subst (λ (xs : List Pending). c.in-Some.at < length xs) c.as_slice.ensures.value c.in-Some.ensures.some.0 in
    let own : p.xid ≡ c.args.xid = subst (λ (xs : List Pending). (get_or xs c.in-Some.at d).xid ≡ c.args.xid) c.as_slice.ensures.value (c.in-Some.ensures.some.1 d) in
    streams p.inline _ (inline_is_lem s.0 s.1.0 s.1.1.0 (state_of c.args.self.now) c.args.xid s.1.1.1 c.requires.live c.requires.next c.in-Some.at (call_view p)
    (get_view c.args.self.now.calls.items c.in-Some.at p place (same_item c.args.self.now.calls.items c.in-Some.at p d place)) own none)

pub unreachable-requires : goal.unreachable-requires
unreachable-requires c =
    let s = c.requires.stands in
    let there : list_any (has c.args.xid) (state_of c.args.self.now).calls ≡ true = payload_there_lem s.0 s.1.0 s.1.1.0 (state_of c.args.self.now) c.args.xid s.1.1.1 c.requires.live c.requires.next in
    let not_there : (k : ℕ) (d : Pending) → k < length c.args.self.now.calls.items → (get_or c.args.self.now.calls.items k d).xid ≢ c.args.xid =
    subst (λ (xs : List Pending). (k : ℕ) (d : Pending) → k < length xs → (get_or xs k d).xid ≢ c.args.xid) c.as_slice.ensures.value (c.in-None.ensures.none refl) in
    let none : list_any (has c.args.xid) (state_of c.args.self.now).calls ≡ false = none_any c.args.xid c.args.self.now.calls.items not_there in
    let two : true ≡ false = sym there ∙ none in
    absurd cc

pub returns-clause-stands : goal.returns-clause-stands
returns-clause-stands c = answered_all c.answer_at.result (state_of c.args.self.now) (state_of c.answer_at.new.self) c.args.xid c.args.reply.now c.requires.live c.answer_at.ensures.answers

pub returns-clause-bounded : goal.returns-clause-bounded
returns-clause-bounded c = record { goes = answer_fits c.answer_at.result (with_staging c.args.self.now) (with_staging c.answer_at.new.self) c.args.xid c.args.reply.now c.requires.live c.requires.next c.answer_at.ensures.answers c.answer_at.ensures.err }

pub answer_at-requires-clause-windows : goal.answer_at-requires-clause-windows
answer_at-requires-clause-windows c = c.requires.windows c.requires.live

pub answer_at-requires-clause-none : goal.answer_at-requires-clause-none
answer_at-requires-clause-none c = λ d.
    let s = c.requires.stands in
    let p : Pending = get_or c.args.self.now.calls.items c.in-Some.at d in
    let place : c.in-Some.at < length c.args.self.now.calls.items = subst (λ (xs : List Pending). c.in-Some.at < length xs) c.as_slice.ensures.value c.in-Some.ensures.some.0 in
    let own : p.xid ≡ c.args.xid = subst (λ (xs : List Pending). (get_or xs c.in-Some.at d).xid ≡ c.args.xid) c.as_slice.ensures.value (c.in-Some.ensures.some.1 d) in
    none_outside c.args.self.now.calls.items c.in-Some.at d c.args.self.now.reads.items place
    (next_read_lem s.0 s.1.0 s.1.1.0 (state_of c.args.self.now) c.args.xid s.1.1.1 c.requires.live c.requires.next c.in-Some.at (call_view p)
    (get_view c.args.self.now.calls.items c.in-Some.at p place (same_item c.args.self.now.calls.items c.in-Some.at p d place)) own) (c.requires.windows c.requires.live)

pub answer_at-requires-clause-limit : goal.answer_at-requires-clause-limit
answer_at-requires-clause-limit c = (let s = c.requires.stands in down_limit s.0 s.1.0 s.1.1.0 (state_of c.args.self.now) s.1.1.1 c.requires.live)
