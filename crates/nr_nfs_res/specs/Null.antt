-- No results.
use Rattle.std.proofs.Common.{refl}
use Rattle.nr_nfs_base.specs.Codec.{Codec, Lawful, void, structure}
use Rattle.nr_nfs_base.specs.Laws.{void_lawful, structure_lawful}
use Rattle.nr_nfs_res.specs.declared.null.NullRes.{NullRes}

-- the results of NULL (RFC 1813 sections 3.3.0 and 5.2.0)
unfoldable pub null_res_codec : Codec NullRes
null_res_codec =
    structure (λ _. record {}) (λ _. tt) void

pub null_res_lawful : Lawful null_res_codec
unfolding null_res_codec
null_res_lawful =
    structure_lawful _ _ _ (λ _. refl) (λ _. refl)
    void_lawful
