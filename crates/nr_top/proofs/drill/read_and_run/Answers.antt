use Rattle.nr_top.proofs.drill.read_and_run.Goals as goal

pub returns : goal.returns
returns g c = record {
  script = c.in_ok-script.script;
  given = c.in_ok-script.ensures;
  prints = c.in_ok-printed.ensures;
}
