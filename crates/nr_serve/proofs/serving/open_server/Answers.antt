use Rattle.std.proofs.Common.{[], subst, ◌∙◌}
use Rattle.nr_plain.specs.Setup.{Setup}
use Rattle.nr_plain.specs.Numbered.{RepresentsTagged}
use Rattle.nr_serve.proofs.serving.open_server.Goals as goal

pub returns-clause-opens : goal.returns-clause-opens
returns-clause-opens g c =
    let number = c.from_be_bytes.ensures in
    let export = c.in-Ok.ensures ∙ c.as_bytes.ensures.value in
    let tree = c.in-Ok-root_only.ensures.ok in
    record {
      moment = c.now-moment.result;
      gave = c.now-moment.ensures.gave;
      stands = subst (λ (s : Setup). RepresentsTagged s [] c.open.result)
          (λ i. record { tree = tree i; parameters = record { capacity = c.args.config.now.capacity; verifier = record { number = number i }; export = export i } }) c.open.ensures.numbered;
    }
