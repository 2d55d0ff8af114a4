-- A requester that was opened has not ended.
use Rattle.std.proofs.Common.{◌≡◌, ◌≢◌, ℕ, List, None, Some, refl, sym, ap, ◌∙◌}
use Rattle.std.proofs.lemmas.Option.{none-some}
use Rattle.nr_link.specs.declared.agreement.SideTerms.{SideTerms}
use Rattle.nr_link.specs.declared.end.End.TheVariants as ends
use Rattle.nr_requester.specs.AfterCalls.{opened_as}
use Rattle.nr_requester.specs.RequesterState.{RequesterSide}

alive : (first_xid first_stag wished : ℕ) (terms : SideTerms) (staging : List ℕ) → (opened_as first_xid first_stag wished terms staging).state.side.ended ≡ None
unfolding opened_as
alive first_xid first_stag wished terms staging = refl

pub has_memory : (r : RequesterSide) (first_xid first_stag wished : ℕ) (terms : SideTerms) (staging : List ℕ) → r ≡ opened_as first_xid first_stag wished terms staging → r.state.side.ended ≢ Some ends.Memory
has_memory r first_xid first_stag wished terms staging is ended =
    absurd (none-some ends.Memory (sym (alive first_xid first_stag wished terms staging) ∙ sym (ap (λ (s : RequesterSide). s.state.side.ended) is) ∙ ended))
