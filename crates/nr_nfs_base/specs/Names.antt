-- Handles, names, paths and data.
use Rattle.std.specs.Prelude.{ℕ, List}
use Rattle.nr_nfs_base.specs.Codec.{Codec, Lawful, opaque}
use Rattle.nr_nfs_base.specs.Laws.{opaque_lawful}
use Rattle.nr_nfs_base.specs.Limits.{handle_max, mount_path_max}

-- a file handle (RFC 1813 section 2.5, nfs_fh3; section 5.1.5, fhandle3)
abbrev pub handle_codec : Codec (List ℕ)
handle_codec = opaque handle_max

pub handle_lawful : Lawful handle_codec
handle_lawful = opaque_lawful handle_max

-- a name, a path or the data of a file, as long as a count word can say (RFC 1813 section 2.5, filename3 and nfspath3;
-- RFC 4506 section 4.10)
abbrev pub text_codec : Codec (List ℕ)
text_codec = opaque 4294967295

pub text_lawful : Lawful text_codec
text_lawful = opaque_lawful 4294967295

-- a path to mount (RFC 1813 section 5.1.5, dirpath)
abbrev pub mount_path_codec : Codec (List ℕ)
mount_path_codec = opaque mount_path_max

pub mount_path_lawful : Lawful mount_path_codec
mount_path_lawful = opaque_lawful mount_path_max
