-- A server that is opened, and its links.
use Rattle.std.proofs.Common.{◌≡◌, ℕ, List, [], ◌++◌, Option, Result, Ok, Err, length, inl, inr, refl, sym, ap, subst, ◌∙◌}
use Rattle.std.specs.Prelude.{MatchResult}
use Rattle.nr_outside.specs.declared.moment.Moment.{Moment}
use Rattle.nr_outside.specs.Faults.{Rises}
use Rattle.nr_outside.specs.Streams.{SinkAt, Writes}
use Rattle.nr_links.specs.Asked.{Asks}
use Rattle.nr_links.specs.Links.{LinkLog}
use Rattle.nr_plain.specs.History.{IsHistory, IsOpenedBy, OnlyOthersAdded, PassView, setup_in}
use Rattle.nr_plain.specs.Setup.{Setup}
use Rattle.nr_plain.specs.Stands.{PlainServerState}
use Rattle.nr_plain.proofs.OfCalls.{both_of_calls}
use Rattle.nr_words.specs.declared.settings.Settings.{Settings}
use Rattle.nr_words.specs.Lines.{Text}
use Rattle.nr_host.specs.declared.link_end.LinkEnd.{LinkEnd}
use Rattle.nr_host.specs.Serving as host
use Rattle.nr_accept.specs.declared.fault.ServeFault.{ServeFault}
use Rattle.nr_accept.specs.declared.fault.ServeFault.TheVariants as faults
use Rattle.nr_serve.specs.Serving.{AcceptorAt, Serves, ServesConnections, SpawnerAt, limits_of, served_text, setup_of}
use Rattle.nr_serve.specs.Stops.{IsServeFault, LinksStopped, OpensServer, OpensShared, ServesAndPrints, ServesLinks, ServesLinksOf, StoppedPrinting, StoppedServing, StopsServing, stop_of_serve}
use Rattle.nr_serve.specs.Stops.StopsServing.{AtPrinting}
use Rattle.nr_serve.specs.declared.stop.ServeStop.{ServeStop}
use Rattle.nr_serve.proofs.Journals.{journal_after}

-- the server that a configuration asks for stands behind a turnstile
pub shares : (settings : Settings Text) (gave gave' : Option (List Moment)) (kept : PlainServerState) (view : PassView) → OpensServer settings gave gave' kept → IsOpenedBy kept view
    → OpensShared settings gave gave' view
shares settings gave gave' kept view opens (first, is, empty) = record {
  first = first;
  opens = record {
    moment = opens.moment;
    gave = opens.gave;
    setup = ap (λ (k : PlainServerState). record { tree = k.tree; parameters = k.parameters }) is ∙ same opens.stands.journal.tree opens.stands.journal.parameters;
  };
  empty = record { entries = []; is = ap (λ (v : PassView). v.seen) empty; journal = refl };
  own = ap (λ (v : PassView). v.mine) empty;
}
  where
    s : Setup
    s = setup_of settings opens.moment

    same : kept.tree ≡ s.tree → kept.parameters ≡ s.parameters → ◌≡◌ {A = Setup} (record { tree = kept.tree; parameters = kept.parameters }) s
    same trees parameters i = record { tree = trees i; parameters = parameters i }

-- it listened, and then took links
pub links_served : (settings : Settings Text) (before mid after : AcceptorAt) (spawner spawner' : SpawnerAt) (view view' : PassView) (ends : List LinkEnd)
    → Asks before.asked mid.asked settings.listen → mid.ended ≡ before.ended → mid.lost ≡ before.lost → after.asked ≡ mid.asked
    → host.Serves (limits_of settings) settings.records (host.between mid.ended mid.lost spawner.started view) ends (host.between after.ended after.lost spawner'.started view') → spawner'.ended ≡ spawner'.started
    → ServesLinks settings before after spawner spawner' view view' ends
links_served settings before mid after spawner spawner' view view' ends asks ended lost same all waited = record {
  listens = subst (λ (a : Option (List (List ℕ))). Asks before.asked a settings.listen) (sym same) asks;
  serves = subst (λ (n : ℕ). host.Serves (limits_of settings) settings.records (host.between before.ended n spawner.started view) ends (host.between after.ended after.lost spawner'.started view')) lost
      (subst (λ (log : Option LinkLog). host.Serves (limits_of settings) settings.records (host.between log mid.lost spawner.started view) ends (host.between after.ended after.lost spawner'.started view')) ended all);
  waited = waited;
}

-- why it served fewer
pub serve_fault : (fault : ServeFault) (before mid after : ℕ) → mid ≡ before → host.AcceptorCount fault mid after → IsServeFault (stop_of_serve fault) before after
serve_fault faults.AcceptFault before mid after same rises = subst (λ (n : ℕ). Rises n after) same rises
serve_fault faults.Memory before mid after same is = is ∙ same

module _ (settings : Settings Text) (before after : AcceptorAt) (spawner spawner' : SpawnerAt) (gave gave' : Option (List Moment)) (view view' : PassView) (opens : OpensShared settings gave gave' view) where
  serves_by : (ends : List LinkEnd) → ServesLinks settings before after spawner spawner' view view' ends → Serves settings before after spawner spawner' gave gave' ends opens.first view'
  serves_by ends links = record { opened = view; opens = opens.opens; empty = opens.empty; own = opens.own; listens = links.listens; serves = links.serves; waited = links.waited }

  -- all links were served, and its own pass had one turn more
  pub serves_all : (last : PassView) → ServesLinksOf settings before after spawner spawner' view view' → OnlyOthersAdded view' last
      → (s : ServesConnections settings before after spawner spawner' gave gave') × IsHistory s.first s.journal last.seen
  serves_all last links turn =
      let links_are = links.serves.serves in
      let (J, (knew, calls)) = journal_after (limits_of settings) settings.records opens.first [] (host.between before.ended before.lost spawner.started view) (host.between after.ended after.lost spawner'.started view') links_are.links links_are.all opens.empty tt in
      let found = turn opens.first J knew in (
        record {
          first = opens.first;
          ends = links.ends;
          view = view';
          last = last;
          known = J;
          journal = J ++ found.others;
          serves = serves_by links.ends links.serves;
          all = links.all;
          back = links.back;
          knew = knew;
          turn = turn;
          saw = found.seen;
          begins = (found.others, refl);
          of_calls = both_of_calls (setup_in opens.first) [] J found.others calls found.of_calls;
          once = found.once;
          unfailing = links.unfailing;
        },
        found.seen,
      )

  pub serves_fewer : (stop : ServeStop) → LinksStopped stop settings before after spawner spawner' view view' → StoppedServing stop settings before after spawner spawner' gave gave'
  serves_fewer stop (inl (same, none), fault) = (inl (same, (none, (opens.opens.moment, opens.opens.gave))), fault)
  serves_fewer stop (inr (ends, (less, (back, links))), fault) = (inr (ends, (less, (back, (opens.first, (view', serves_by ends links))))), fault)

-- what was printed of them
pub printed : {A : Type 0} (settings : Settings Text) (out out' : SinkAt) (before after : AcceptorAt) (spawner spawner' : SpawnerAt) (gave gave' : Option (List Moment)) (r : Result A ServeStop)
    (serves : ServesConnections settings before after spawner spawner' gave gave') (len : ℕ) → len ≡ length serves.journal
    → MatchResult r (λ (a : A). Writes out out' (served_text settings.connections len)) (λ stop. StoppedPrinting stop out out' (served_text settings.connections len))
    → MatchResult r (λ (a : A). ServesAndPrints settings out out' before after spawner spawner' gave gave') (λ stop. StopsServing stop settings out out' before after spawner spawner' gave gave')
printed settings out out' before after spawner spawner' gave gave' (Ok a) serves len is prints =
    record { serves = serves; prints = subst (λ (n : ℕ). Writes out out' (served_text settings.connections n)) is prints }
printed settings out out' before after spawner spawner' gave gave' (Err stop) serves len is prints =
    AtPrinting serves (subst (λ (n : ℕ). StoppedPrinting stop out out' (served_text settings.connections n)) is prints)
