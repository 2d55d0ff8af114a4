use Rattle.std.proofs.Common.{Result, Ok, Err, refl, sym, subst}
use Rattle.nr_client.specs.declared.client_end.ClientEnd.{ClientEnd}
use Rattle.nr_commands.specs.Commands.{IsSilent}
use Rattle.nr_commands.proofs.files.silent.Goals as goal

pub returns-in-Ok : goal.returns-in-Ok
returns-in-Ok c = subst (λ (done : Result (Unit {0}) ClientEnd). IsSilent done (Ok c.new.result)) (sym c.in-Ok.is) c.new.ensures

pub returns-in-Err : goal.returns-in-Err
returns-in-Err c = subst (λ (done : Result (Unit {0}) ClientEnd). IsSilent done (Err c.in-Err.end)) (sym c.in-Err.is) refl
