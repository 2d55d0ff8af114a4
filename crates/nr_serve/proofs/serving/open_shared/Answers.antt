use Rattle.nr_plain.specs.History.{pass_view}
use Rattle.nr_words.specs.Settings.{config_settings}
use Rattle.nr_serve.specs.Serving.{setup_of}
use Rattle.nr_serve.proofs.Servers.{shares}
use Rattle.nr_serve.proofs.serving.open_shared.Goals as goal

pub share-requires : goal.share-requires
share-requires g c = (setup_of (config_settings c.args.config.now) c.in-Ok.ensures.opens.moment, c.in-Ok.ensures.opens.stands)

pub returns-clause-opens : goal.returns-clause-opens
returns-clause-opens g c =
    shares (config_settings c.args.config.now) (g.C.Clock.gave c.args.clock.now) (g.C.Clock.gave c.open_server.new.clock) c.in-Ok.server (pass_view c.in-Ok-share.pass) c.in-Ok.ensures.opens c.in-Ok-share.ensures.1
