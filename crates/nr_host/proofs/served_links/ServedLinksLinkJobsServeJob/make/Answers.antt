use Rattle.std.proofs.Common.{refl, ap}
use Rattle.nr_turnstile.specs.declared.plays.View.{View}
use Rattle.nr_plain.specs.declared.history_entry.HistoryEntry.{HistoryEntry}
use Rattle.nr_host.proofs.Links.{view_of_pass}
use Rattle.nr_host.proofs.served_links.ServedLinksLinkJobsServeJob.make.Goals as goal

pub returns-clause-makes : goal.returns-clause-makes
returns-clause-makes g c = (ap (λ m. view_of_pass m.0) c.split.ensures.unchanged.1, (refl, refl))

pub returns-clause-made : goal.returns-clause-made
returns-clause-made g c =
    let kept = ap (λ m. view_of_pass m.0) c.split.ensures.unchanged.1 in
    let own = ap (λ (v : View HistoryEntry). view_of_pass v) c.split.ensures.new.1 in
    (refl, (refl, (c.requires.fits, (refl, (refl, (own, (c.another.ensures, (kept, (refl, refl)))))))))
