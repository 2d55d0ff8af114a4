-- Credentials and verifiers (RFC 5531 section 8.2): a flavor, and a body of bytes.
use Rattle.std.specs.Prelude.{◌≡◌, ◌≢◌, ℕ, ◌^◌, ◌<◌, ◌≤◌, List, [], ◌∷◌, length, map}
use Rattle.nr_xdr.specs.Item.{Item}
use Rattle.nr_xdr.specs.Item.Item.{Unsigned, Opaque}
use Rattle.nr_xdr.specs.Items.{ReadsAll, AllFit, encodings}
use Rattle.nr_rpc.specs.Constants.{MACHINE_MAX, GIDS_MAX, AUTH_NONE, AUTH_SYS}
use Rattle.nr_rpc.specs.declared.cred.Cred.{Cred}
use Rattle.nr_rpc.specs.declared.cred.Cred.TheVariants as creds

-- a credential or a verifier, as a head has it
pub record Auth : Type 0 where
  pub flavor : ℕ
  pub body : List ℕ

abbrev pub auth_items : Auth → List Item → List Item
auth_items auth more = Unsigned auth.flavor ∷ (Opaque auth.body ∷ more)

-- the body of AUTH_SYS (RFC 5531 appendix A): a stamp, the machine's name, the user, the group and further groups
abbrev pub sys_items : ℕ → List ℕ → ℕ → ℕ → List ℕ → List Item
sys_items stamp machine uid gid gids =
    Unsigned stamp ∷ (Opaque machine ∷ (Unsigned uid ∷ (Unsigned gid ∷ (Unsigned (length gids) ∷ map Unsigned gids))))

-- the body encodes AUTH_SYS, with nothing after it and whatever its pad bytes are
pub record ReadsSys (stamp : ℕ) (machine : List ℕ) (uid gid : ℕ) (gids body : List ℕ) : Type 0 where
  pub items : ReadsAll (sys_items stamp machine uid gid gids) body
  pub machine_within : length machine ≤ MACHINE_MAX
  pub gids_within : length gids ≤ GIDS_MAX

-- The credential that a flavor and a body are. AUTH_SYS with a body that doesn't encode it is another flavor.
abbrev pub ReadsCred : Cred → Auth → Type 0
ReadsCred creds.None auth = auth.flavor ≡ AUTH_NONE
ReadsCred (creds.Sys stamp machine uid gid gids) auth = (auth.flavor ≡ AUTH_SYS) × ReadsSys stamp machine uid gid gids auth.body
ReadsCred (creds.Other flavor) auth =
    (auth.flavor ≡ flavor) × (flavor ≢ AUTH_NONE)
    × (flavor ≡ AUTH_SYS → (stamp : ℕ) (machine : List ℕ) (uid gid : ℕ) (gids : List ℕ) → ReadsSys stamp machine uid gid gids auth.body → ⊥)

-- what is written for a credential: the body of AUTH_SYS, otherwise an empty one
abbrev pub auth_of : Cred → Auth
auth_of creds.None = record { flavor = AUTH_NONE; body = [] }
auth_of (creds.Sys stamp machine uid gid gids) = record { flavor = AUTH_SYS; body = encodings (sys_items stamp machine uid gid gids) }
auth_of (creds.Other flavor) = record { flavor = flavor; body = [] }

-- the verifier of every head that is written (RFC 5531 section 8.2)
abbrev pub no_verifier : Auth
no_verifier = record { flavor = AUTH_NONE; body = [] }

-- what can be written, apart from the ranges of the numbers
abbrev pub CanWriteCred : Cred → Type 0
CanWriteCred creds.None = Unit {0}
CanWriteCred (creds.Sys stamp machine uid gid gids) = (length machine ≤ MACHINE_MAX) × (length gids ≤ GIDS_MAX)
CanWriteCred (creds.Other flavor) = flavor ≢ AUTH_NONE

-- the numbers of a credential are words
abbrev pub CredFits : Cred → Type 0
CredFits creds.None = Unit {0}
CredFits (creds.Sys stamp machine uid gid gids) = AllFit (sys_items stamp machine uid gid gids)
CredFits (creds.Other flavor) = flavor < 2 ^ 32
