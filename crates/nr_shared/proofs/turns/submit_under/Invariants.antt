use Rattle.nr_shared.specs.declared.entry.Entry.TheVariants as entries
use Rattle.nr_shared.proofs.turns.submit_under.Given as goal

abbrev pub ghosts-append_submit : goal.ghosts-append_submit
ghosts-append_submit g a = record { entry = entries.Submit a._call.now.value a._form.now.value a._ticket.now }
