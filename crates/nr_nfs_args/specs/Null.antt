-- No arguments.
use Rattle.std.proofs.Common.{refl}
use Rattle.nr_nfs_args.specs.declared.null.NullArgs.{NullArgs}
use Rattle.nr_nfs_base.specs.Codec.{Codec, Lawful, void, structure}
use Rattle.nr_nfs_base.specs.Laws.{void_lawful, structure_lawful}

-- the arguments of NULL (RFC 1813 sections 3.3.0 and 5.2.0)
unfoldable pub null_args_codec : Codec NullArgs
null_args_codec =
    structure (λ _. record {}) (λ _. tt) void

pub null_args_lawful : Lawful null_args_codec
unfolding null_args_codec
null_args_lawful =
    structure_lawful _ _ _ (λ _. refl) (λ _. refl)
    void_lawful
