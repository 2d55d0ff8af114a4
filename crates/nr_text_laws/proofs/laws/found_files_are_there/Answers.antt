use Rattle.nr_text_laws.proofs.Finding.{found_files_are_there_lem, found_parents_are_there_lem}
use Rattle.nr_text_laws.proofs.laws.found_files_are_there.Goals as goal

pub returns-clause-file : goal.returns-clause-file
returns-clause-file c = found_files_are_there_lem

pub returns-clause-parent : goal.returns-clause-parent
returns-clause-parent c = found_parents_are_there_lem
