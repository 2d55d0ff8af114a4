-- The numbers of a credential are words.
use Rattle.std.proofs.Common.{ℕ, suc, ◌<◌, ◌≤◌, List, [], ◌∷◌, get_or, length, map, arith}
use Rattle.nr_xdr.specs.Item.Item.{Unsigned}
use Rattle.nr_xdr.specs.Items.{AllFit}
use Rattle.nr_rpc.specs.Constants.{MACHINE_MAX, GIDS_MAX}
use Rattle.nr_rpc.specs.Credential.{sys_items}

gids_fit : (gids : List ℕ) → ((i : ℕ) → get_or gids i 0 < 4294967296) → AllFit (map Unsigned gids)
gids_fit [] h = tt
gids_fit (gid ∷ gids) h = (h 0, gids_fit gids (λ i. h (suc i)))

pub sys_fit : (stamp : ℕ) (machine : List ℕ) (uid gid : ℕ) (gids : List ℕ) → stamp < 4294967296 → length machine ≤ MACHINE_MAX → uid < 4294967296 → gid < 4294967296
    → length gids ≤ GIDS_MAX → ((i : ℕ) → get_or gids i 0 < 4294967296) → AllFit (sys_items stamp machine uid gid gids)
sys_fit stamp machine uid gid gids s m u g l h = (s, (omega (arith, m), (u, (g, (omega (arith, l), gids_fit gids h)))))
