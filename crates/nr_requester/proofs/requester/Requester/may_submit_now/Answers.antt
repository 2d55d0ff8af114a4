use Rattle.std.proofs.Common.{◌≡◌, ℕ, ◌≤◌, ◌<◌, false, true, arith, length, Option, sym, ap, ◌∙◌}
use Rattle.std.specs.Prelude.{is_some}
use Rattle.std.proofs.lemmas.Bool.{le-ltb}
use Rattle.std.proofs.lemmas.List.{length-map}
use Rattle.nr_link.specs.declared.end.End.{End}
use Rattle.nr_requester.specs.RequesterState.{RequesterSide}
use Rattle.nr_requester.specs.Views.{stored_view}
use Rattle.nr_requester.proofs.MaySubmit.{may_ended, may_live, may_none}
use Rattle.nr_requester.proofs.requester.Requester.may_submit_now.Goals as goal

pub returns-then-is_some : goal.returns-then-is_some
returns-then-is_some c =
    let r = c.args.self.now.state in
    let i = c.self.inside in
    let out : length i.outstanding.items ≡ length r.outstanding = sym (length-map i.outstanding.items stored_view) ∙ ap (λ (h : RequesterSide). length h.state.outstanding) c.self.view_is in
    let grant : i.grant ≡ r.grant = ap (λ (h : RequesterSide). h.state.grant) c.self.view_is in
    let count = c.len.ensures in
    let credit : length r.outstanding < r.grant = omega (arith, out, grant, count, c.if-len-self.true) in
    let ended : is_some r.side.ended ≡ true = ap (λ (o : Option End). is_some o) (sym c.end.ensures) ∙ sym c.is_some.ensures ∙ c.if-is_some.true in
    c.if-is_some.true ∙ sym (may_ended r credit ended)

pub returns-else-is_some : goal.returns-else-is_some
returns-else-is_some c =
    let r = c.args.self.now.state in
    let i = c.self.inside in
    let out : length i.outstanding.items ≡ length r.outstanding = sym (length-map i.outstanding.items stored_view) ∙ ap (λ (h : RequesterSide). length h.state.outstanding) c.self.view_is in
    let grant : i.grant ≡ r.grant = ap (λ (h : RequesterSide). h.state.grant) c.self.view_is in
    let count = c.len.ensures in
    let credit : length r.outstanding < r.grant = omega (arith, out, grant, count, c.if-len-self.true) in
    let lives : is_some r.side.ended ≡ false = ap (λ (o : Option End). is_some o) (sym c.end.ensures) ∙ sym c.is_some.ensures ∙ c.if-is_some.false in
    c.is_free.ensures ∙ sym (may_live r credit lives)

pub returns-else-len-self : goal.returns-else-len-self
returns-else-len-self c =
    let r = c.args.self.now.state in
    let i = c.self.inside in
    let out : length i.outstanding.items ≡ length r.outstanding = sym (length-map i.outstanding.items stored_view) ∙ ap (λ (h : RequesterSide). length h.state.outstanding) c.self.view_is in
    let grant : i.grant ≡ r.grant = ap (λ (h : RequesterSide). h.state.grant) c.self.view_is in
    let count = c.len.ensures in
    let spent : r.grant ≤ length r.outstanding = omega (arith, out, grant, count, c.if-len-self.false) in
    let left : i.grant ≤ c.len.result = omega (arith, c.if-len-self.false) in
    le-ltb c.len.result i.grant left ∙ sym (may_none r spent)
