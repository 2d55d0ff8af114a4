use Rattle.std.proofs.Common.{◌≡◌, ◌++◌, ◌∷◌, [], ℕ, List, arith, ap, replicate, ◌∙◌}
use Rattle.nr_rpc.specs.declared.cred.Cred.{Cred}
use Rattle.nr_rpc.specs.declared.cred.Cred.TheVariants as credentials
use Rattle.nr_world.proofs.OpenLinks.{one_more_cred}
use Rattle.nr_world.proofs.opening.push_creds.Goals as goal

pub loop-at-preserved : goal.loop-at-preserved
loop-at-preserved c = c.in_ok-push.ensures.items ∙ ap (λ (all : List Cred). all ++ credentials.None ∷ []) c.loop-at.invariant ∙ one_more_cred c.loop-at._at

pub returns : goal.returns
returns c =
    let all : c.loop-at._at ≡ c.args.clients = omega arith in
    c.loop-at.invariant ∙ ap (λ (n : ℕ). replicate n credentials.None) all
