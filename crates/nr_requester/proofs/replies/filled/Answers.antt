use Rattle.std.proofs.Common.{◌≡◌, ℕ, Option, sym, ap, subst, ◌∙◌, take, arith}
use Rattle.nr_regions.specs.RegisteredMemory.{Claim}
use Rattle.nr_requester.specs.Judged.{ComesBack}
use Rattle.nr_requester.proofs.ReplyParts.{filled_bytes, none_joined}
use Rattle.nr_requester.proofs.replies.filled.Goals as goal

pub returns-in-None-clause-bytes : goal.returns-in-None-clause-bytes
returns-in-None-clause-bytes c = sym (none_joined c.args.regions.now.memory c.args.chunk.now (subst (λ (o : Option Claim). ComesBack c.args.regions.now.memory o c.args.chunk.now) c.in-None.is c.requires))

pub returns-in-Some-clause-bytes : goal.returns-in-Some-clause-bytes
returns-in-Some-clause-bytes c =
    let f = filled_bytes c.args.regions.now.memory c.in-Some.registration c.args.chunk.now c.bytes-bytes.result.now (subst (λ (o : Option Claim). ComesBack c.args.regions.now.memory o c.args.chunk.now) c.in-Some.is c.requires) c.bytes-bytes.ensures.bytes c.bytes-bytes.ensures.len in
    let le = f.1 in
    let count : c.at_most.result ≡ _ = c.at_most.ensures ∙ (let t = c.total.ensures in omega (arith, t, le)) in
    c.split_at.ensures.front ∙ ap (λ (n : ℕ). take n c.bytes-bytes.result.now) count ∙ sym f.0
