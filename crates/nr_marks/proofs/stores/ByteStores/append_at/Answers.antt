use Rattle.nr_marks.proofs.Growing.{grows_same, grows_left, grows_write, holds_write, stored_write, store_there}
use Rattle.nr_marks.proofs.stores.ByteStores.append_at.Goals as goal

pub returns-in_err-extend_from_slice-clause-grows : goal.returns-in_err-extend_from_slice-clause-grows
returns-in_err-extend_from_slice-clause-grows c =
    grows_left _ _ _ _ _ c.self.view_is c.index_mut-own.ensures.value (store_there _ _ _ c.self.view_is c.requires) c.in_err-extend_from_slice.ensures.err

pub returns-clause-grows : goal.returns-clause-grows
returns-clause-grows c = grows_write _ _ _ _ _ _ c.self.view_is c.index_mut-own.ensures.value (store_there _ _ _ c.self.view_is c.requires) c.in_ok-extend_from_slice.ensures.ok

pub returns-clause-piece : goal.returns-clause-piece
returns-clause-piece c =
    holds_write _ _ _ _ _ _ _ c.index_mut-own.ensures.value (store_there _ _ _ c.self.view_is c.requires) c.len-at.ensures c.in-Some.ensures c.in_ok-extend_from_slice.ensures.ok

pub returns-clause-size : goal.returns-clause-size
returns-clause-size c = stored_write _ _ _ _ _ _ c.self.view_is c.index_mut-own.ensures.value (store_there _ _ _ c.self.view_is c.requires) c.in_ok-extend_from_slice.ensures.ok

pub returns-in_default-clause-grows : goal.returns-in_default-clause-grows
returns-in_default-clause-grows c = grows_same _
