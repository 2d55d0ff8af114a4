-- The heads of replies as words.
use Rattle.std.proofs.Common.{◌≡◌, ℕ, List, [], ◌∷◌, ◌++◌, map, refl}
use Rattle.nr_xdr.specs.Item.{word, pad_len}
use Rattle.nr_xdr.specs.Item.Item.{Unsigned}
use Rattle.nr_xdr.specs.Items.{encodings}
use Rattle.nr_rpc.specs.Constants.{REPLY, MSG_ACCEPTED, MSG_DENIED, AUTH_NONE}
use Rattle.nr_rpc.specs.Credential.{no_verifier}
use Rattle.nr_rpc.specs.Reply.{accepted_items, denied_items}

-- a body of no bytes is the word 0
pub accepted_words : (xid : ℕ) (status : List ℕ) → encodings (map Unsigned (xid ∷ REPLY ∷ MSG_ACCEPTED ∷ AUTH_NONE ∷ 0 ∷ [])) ++ encodings (map Unsigned status) ≡ encodings (accepted_items xid no_verifier (map Unsigned status))
unfolding word pad_len
accepted_words xid status = refl

pub denied_words : (xid : ℕ) (status : List ℕ) → encodings (map Unsigned (xid ∷ REPLY ∷ MSG_DENIED ∷ [])) ++ encodings (map Unsigned status) ≡ encodings (denied_items xid (map Unsigned status))
unfolding word
denied_words xid status = refl
