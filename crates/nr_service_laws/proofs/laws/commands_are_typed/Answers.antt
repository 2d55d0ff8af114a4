use Rattle.nr_service_laws.proofs.TypedCommands.{commands_are_typed_lem, sides_are_typed_lem}
use Rattle.nr_service_laws.proofs.laws.commands_are_typed.Goals as goal

pub returns-clause-commands : goal.returns-clause-commands
returns-clause-commands c = commands_are_typed_lem

pub returns-clause-sides : goal.returns-clause-sides
returns-clause-sides c = sides_are_typed_lem
