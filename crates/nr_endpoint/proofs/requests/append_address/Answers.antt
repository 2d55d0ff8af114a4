use Rattle.std.proofs.Common.{◌++◌, ◌∙◌, append_assoc}
use Rattle.nr_xdr.specs.Item.{word, hyper}
use Rattle.nr_endpoint.proofs.requests.append_address.Goals as goal

pub returns-clause-bytes : goal.returns-clause-bytes
unfolding word hyper
returns-clause-bytes c =
    c.append-2.ensures.bytes
    ∙ (λ i. c.append.ensures.bytes i ++ c.to_be_bytes-2.ensures i)
    ∙ (λ i. (c.args.out.now.items ++ c.to_be_bytes.ensures i) ++ hyper c.args.to)
    ∙ append_assoc c.args.out.now.items (word c.args.stag) (hyper c.args.to)
