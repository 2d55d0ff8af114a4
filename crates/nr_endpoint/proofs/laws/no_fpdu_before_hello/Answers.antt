use Rattle.nr_endpoint.proofs.HelloLaws.{no_fpdu_before_hello_lem}
use Rattle.nr_endpoint.proofs.laws.no_fpdu_before_hello.Goals as goal

pub returns : goal.returns
returns c = no_fpdu_before_hello_lem
