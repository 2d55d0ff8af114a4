use Rattle.std.proofs.Common.{ℕ, List, ◌++◌, ◌∙◌, append_assoc}
use Rattle.nr_xdr.specs.Item.{word, hyper}
use Rattle.nr_endpoint.proofs.requests.request_payload.Goals as goal

pub returns : goal.returns
unfolding word
returns c =
    let from : List ℕ = word c.args.read.now.sink ++ hyper c.args.read.now.at in
    let to : List ℕ = word c.args.read.now.stag ++ hyper c.args.read.now.to in
    c.append_address-2.ensures.bytes
    ∙ (λ i. c.append.ensures.bytes i ++ to)
    ∙ (λ i. (c.append_address.ensures.bytes i ++ c.to_be_bytes.ensures i) ++ to)
    ∙ (λ i. ((c.new-out.ensures i ++ from) ++ word c.args.read.now.len) ++ to)
    ∙ append_assoc from (word c.args.read.now.len) to
    ∙ append_assoc (word c.args.read.now.sink) (hyper c.args.read.now.at) (word c.args.read.now.len ++ to)
