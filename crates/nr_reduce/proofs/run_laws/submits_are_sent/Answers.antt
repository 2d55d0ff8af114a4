use Rattle.nr_reduce.proofs.Calls.{submit_sent, hello_sends}
use Rattle.nr_reduce.proofs.Waiting.{accepted_wait}
use Rattle.nr_reduce.proofs.ReadChunks.{chunk_stays}
use Rattle.nr_reduce.proofs.run_laws.submits_are_sent.Goals as goal

pub returns-clause-submit : goal.returns-clause-submit
returns-clause-submit c = submit_sent

pub returns-clause-hello : goal.returns-clause-hello
returns-clause-hello c = hello_sends

pub returns-clause-waiting : goal.returns-clause-waiting
returns-clause-waiting c = accepted_wait

pub returns-clause-chunk : goal.returns-clause-chunk
returns-clause-chunk c = chunk_stays
