use Rattle.std.proofs.Common.{◌≤◌, List, ℕ, length, subst, sym, ◌∙◌}
use Rattle.nr_rpc.specs.Constants.{AUTH_BODY_MAX}
use Rattle.nr_rpc.specs.Credential.{CanWriteCred}
use Rattle.nr_rpc.proofs.Credentials.{length_sys}
use Rattle.nr_rpc.proofs.put.put_cred.Goals as goal

pub put_auth-requires-in-Sys : goal.put_auth-requires-in-Sys
put_auth-requires-in-Sys c =
    let s = c.in-Sys in
    let can = subst CanWriteCred s.is c.requires in
    subst (λ (b : List ℕ). length b ≤ AUTH_BODY_MAX) (sym (c.as_slice.ensures ∙ c.in_ok-body-in-Sys.ensures))
    (length_sys s.stamp s.machine s.uid s.gid s.gids can.0 can.1)
