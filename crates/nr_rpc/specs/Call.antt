-- The head of a call (RFC 5531 section 9): its encoding, and which bytes read as it.
use Rattle.std.specs.Prelude.{◌≡◌, ◌≢◌, ℕ, ◌^◌, ◌<◌, ◌≤◌, List, [], ◌∷◌, ◌++◌, length}
use Rattle.nr_xdr.specs.Item.{Item}
use Rattle.nr_xdr.specs.Item.Item.{Unsigned}
use Rattle.nr_xdr.specs.Items.{ReadsAll, encodings}
use Rattle.nr_rpc.specs.Constants.{AUTH_BODY_MAX, RPC_VERSION, CALL}
use Rattle.nr_rpc.specs.declared.cred.Cred.{Cred}
use Rattle.nr_rpc.specs.declared.head.CallTarget.{CallTarget}
use Rattle.nr_rpc.specs.declared.head.CallHead.{CallHead}
use Rattle.nr_rpc.specs.declared.head.CallHead.TheVariants as calls
use Rattle.nr_rpc.specs.Credential.{Auth, auth_items, auth_of, no_verifier, ReadsCred, CanWriteCred, CredFits}

-- the items of a head of version 2, and of a head that ends after another version
abbrev pub version2_items : ℕ → ℕ → ℕ → ℕ → Auth → Auth → List Item
version2_items xid prog vers proc cred verifier =
    Unsigned xid ∷ (Unsigned CALL ∷ (Unsigned RPC_VERSION ∷ (Unsigned prog ∷ (Unsigned vers ∷ (Unsigned proc ∷ auth_items cred (auth_items verifier []))))))

abbrev pub other_items : ℕ → ℕ → List Item
other_items xid rpcvers = Unsigned xid ∷ (Unsigned CALL ∷ (Unsigned rpcvers ∷ []))

-- all of the bytes encode the head, whatever the verifier and the pad bytes are
abbrev pub ReadsCall : CallHead → List ℕ → Type 0
ReadsCall (calls.Version2 xid prog vers proc cred args_at) bytes =
    (auth : Auth) × (verifier : Auth) × (length auth.body ≤ AUTH_BODY_MAX) × (length verifier.body ≤ AUTH_BODY_MAX)
    × ReadsCred cred auth × ReadsAll (version2_items xid prog vers proc auth verifier) bytes × (args_at ≡ length bytes)
ReadsCall (calls.Other xid rpcvers) bytes = (rpcvers ≢ RPC_VERSION) × ReadsAll (other_items xid rpcvers) bytes

-- the bytes begin with the head
abbrev pub BeginsCall : CallHead → List ℕ → Type 0
BeginsCall head bytes = (front : List ℕ) × (behind : List ℕ) × ReadsCall head front × (bytes ≡ front ++ behind)

-- the encoding of the head, and of the head followed by these arguments
abbrev pub call_head : CallHead → List ℕ
call_head (calls.Version2 xid prog vers proc cred args_at) = encodings (version2_items xid prog vers proc (auth_of cred) no_verifier)
call_head (calls.Other xid rpcvers) = encodings (other_items xid rpcvers)

abbrev pub call_encoding : CallHead → List ℕ → List ℕ
call_encoding head args = call_head head ++ args

-- the head of a call of version 2 with this credential
abbrev pub call_of_target : CallTarget → Cred → CallHead
call_of_target t cred = calls.Version2 t.xid t.prog t.vers t.proc cred t.args_at

-- what can be written: a machine's name of at most 255 bytes, at most 16 further groups, a flavor other than 0 in another
-- credential, a version other than 2 in another head
abbrev pub CanWriteCall : CallHead → Type 0
CanWriteCall (calls.Version2 xid prog vers proc cred args_at) = CanWriteCred cred
CanWriteCall (calls.Other xid rpcvers) = rpcvers ≢ RPC_VERSION

-- the numbers of a head are words
abbrev pub CallFits : CallHead → Type 0
CallFits (calls.Version2 xid prog vers proc cred args_at) =
    (xid < 2 ^ 32) × (prog < 2 ^ 32) × (vers < 2 ^ 32) × (proc < 2 ^ 32) × CredFits cred
CallFits (calls.Other xid rpcvers) = (xid < 2 ^ 32) × (rpcvers < 2 ^ 32)

-- the head as it is read from its own encoding: the arguments begin after that
abbrev pub call_again : CallHead → CallHead
call_again (calls.Version2 xid prog vers proc cred args_at) =
    calls.Version2 xid prog vers proc cred (length (call_head (calls.Version2 xid prog vers proc cred args_at)))
call_again (calls.Other xid rpcvers) = calls.Other xid rpcvers
