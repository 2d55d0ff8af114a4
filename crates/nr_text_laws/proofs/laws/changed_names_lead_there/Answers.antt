use Rattle.nr_text_laws.proofs.NamesAfter.{made_directories_are_there_lem, made_links_are_there_lem, removed_names_are_gone_lem}
use Rattle.nr_text_laws.proofs.laws.changed_names_lead_there.Goals as goal

pub returns-clause-directory : goal.returns-clause-directory
returns-clause-directory c = made_directories_are_there_lem

pub returns-clause-link : goal.returns-clause-link
returns-clause-link c = made_links_are_there_lem

pub returns-clause-removed : goal.returns-clause-removed
returns-clause-removed c = removed_names_are_gone_lem
