use Rattle.std.proofs.Common.{refl}
use Rattle.nr_responder.specs.declared.granting.Credits.{Credits}
use Rattle.nr_responder.specs.Sound.{state_of}
use Rattle.nr_responder.proofs.GrantedCredits.{fits_as, represents_as, taken_as}
use Rattle.nr_responder.proofs.server_end.ServerEnd.step.Goals as goal

pub returns-clause-goes : goal.returns-clause-goes
returns-clause-goes c =
    let credits : Credits = record c.args.self.now.credits { word = c.present_word-word.result } in
    taken_as (state_of c.args.self.now) (state_of c.take_piece.new.self) _ credits refl c.take_piece.ensures.goes

pub returns-clause-first : goal.returns-clause-first
returns-clause-first c =
    let credits : Credits = record c.args.self.now.credits { word = c.present_word-word.result } in
    taken_as (state_of c.args.self.now) (state_of c.take_piece.new.self) _ credits refl c.take_piece.ensures.first

pub returns-clause-bounded : goal.returns-clause-bounded
returns-clause-bounded c = λ opened link run stands fit.
    let credits : Credits = record c.args.self.now.credits { word = c.present_word-word.result } in
    c.take_piece.ensures.bounded opened link run (represents_as opened link run (state_of c.args.self.now) credits refl stands) (fits_as (state_of c.args.self.now) credits refl fit)
