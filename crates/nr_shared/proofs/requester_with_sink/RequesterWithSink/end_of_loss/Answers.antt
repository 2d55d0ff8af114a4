use Rattle.std.proofs.Common.{◌≡◌, ℕ, List, Option, None, sym, ap, subst, ◌∙◌}
use Rattle.nr_shared.specs.declared.call_end.CallEnd.{CallEnd}
use Rattle.nr_shared.specs.declared.call_end.CallEnd.TheVariants as calls
use Rattle.nr_shared.specs.declared.entry.Entry.{Entry}
use Rattle.nr_shared.specs.Ending.{LinkEnded, LossEnds}
use Rattle.nr_shared.specs.Histories.{tries_in, tries_of}
use Rattle.nr_shared.proofs.requester_with_sink.RequesterWithSink.end_of_loss.Goals as goal

-- a loss is an end if the link isn't dialled again
loss_ends : (end : CallEnd) (history : List Entry) → tries_of history ≡ None → LossEnds None end history → LinkEnded end history
loss_ends calls.LinkWrite history none how = subst (λ (o : Option ℕ). LossEnds o calls.LinkWrite history) (sym none) how
loss_ends calls.LinkRead history none how = subst (λ (o : Option ℕ). LossEnds o calls.LinkRead history) (sym none) how
loss_ends calls.Closed history none how = subst (λ (o : Option ℕ). LossEnds o calls.Closed history) (sym none) how
loss_ends (calls.Ended end) history none how = absurd how
loss_ends (calls.Tries n) history none how = absurd how
loss_ends calls.DialFault history none how = absurd how
loss_ends (calls.Spent left need) history none how = absurd how
loss_ends (calls.TooLarge need room) history none how = absurd how
loss_ends (calls.Budget read) history none how = absurd how
loss_ends calls.Memory history none how = absurd how

pub returns-in-None-clause-some : goal.returns-in-None-clause-some
returns-in-None-clause-some g c = λ history st. loss_ends c.in-Some.loss history (ap tries_in st.is_initial ∙ (sym st.tries ∙ c.in-None.is)) (c.in-Some.ensures.how history st)
