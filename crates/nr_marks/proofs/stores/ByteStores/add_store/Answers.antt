use Rattle.std.proofs.Common.{true, ◌∙◌}
use Rattle.nr_marks.proofs.Growing.{grows_is, grows_push, stored_is, stored_push, length_push, if_any}
use Rattle.nr_marks.proofs.stores.ByteStores.add_store.Goals as goal

pub returns-in-Err-clause-grows : goal.returns-in-Err-clause-grows
returns-in-Err-clause-grows c = grows_is _ _ (c.in-Err.ensures.items ∙ c.self.view_is)

pub returns-in-Err-clause-size : goal.returns-in-Err-clause-size
returns-in-Err-clause-size c = stored_is _ _ (c.in-Err.ensures.items ∙ c.self.view_is)

pub returns-clause-grows : goal.returns-clause-grows
returns-clause-grows c = grows_push true _ _ _ _ c.self.view_is c.new.ensures c.in-Ok.ensures.items

pub returns-clause-size : goal.returns-clause-size
returns-clause-size c = stored_push _ _ _ _ c.self.view_is c.new.ensures c.in-Ok.ensures.items

pub returns-clause-one : goal.returns-clause-one
returns-clause-one c = if_any c.match-push-2.result _ (length_push _ _ _ _ c.self.view_is c.in-Ok.ensures.items)
