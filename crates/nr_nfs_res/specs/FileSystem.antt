-- Results about a file system.
use Rattle.std.proofs.Common.{refl}
use Rattle.nr_nfs_base.specs.Attributes.{attributes_codec, attributes_lawful}
use Rattle.nr_nfs_base.specs.Codec.{Codec, Lawful, word, hyper, boolean, ◌⊗◌, ◌&◌, structure, optional}
use Rattle.nr_nfs_base.specs.Laws.{word_lawful, hyper_lawful, boolean_lawful, ◌⊠◌, structure_lawful, optional_lawful}
use Rattle.nr_nfs_base.specs.Time.{time_codec, time_lawful}
use Rattle.nr_nfs_res.specs.declared.file_system.FsinfoOk.{FsinfoOk}
use Rattle.nr_nfs_res.specs.declared.file_system.FsstatOk.{FsstatOk}
use Rattle.nr_nfs_res.specs.declared.file_system.PathconfOk.{PathconfOk}

-- the results of FSSTAT on success (RFC 1813 section 3.3.18)
unfoldable pub fsstat_ok_codec : Codec FsstatOk
fsstat_ok_codec =
    structure (λ p. record {
      attributes = p.0;
      tbytes = p.1.0;
      fbytes = p.1.1.0;
      abytes = p.1.1.1.0;
      tfiles = p.1.1.1.1.0;
      ffiles = p.1.1.1.1.1.0;
      afiles = p.1.1.1.1.1.1.0;
      invarsec = p.1.1.1.1.1.1.1;
    })
    (λ v. v.attributes & v.tbytes & v.fbytes & v.abytes & v.tfiles & v.ffiles & v.afiles & v.invarsec)
    ((optional attributes_codec) ⊗ hyper ⊗ hyper ⊗ hyper ⊗ hyper ⊗ hyper ⊗ hyper ⊗ word)

pub fsstat_ok_lawful : Lawful fsstat_ok_codec
unfolding fsstat_ok_codec
fsstat_ok_lawful =
    structure_lawful _ _ _ (λ _. refl) (λ _. refl)
    ((optional_lawful _ attributes_lawful) ⊠ hyper_lawful ⊠ hyper_lawful ⊠ hyper_lawful ⊠ hyper_lawful
    ⊠ hyper_lawful ⊠ hyper_lawful ⊠ word_lawful)

-- the results of FSINFO on success (RFC 1813 section 3.3.19)
unfoldable pub fsinfo_ok_codec : Codec FsinfoOk
fsinfo_ok_codec =
    structure (λ p. record {
      attributes = p.0;
      rtmax = p.1.0;
      rtpref = p.1.1.0;
      rtmult = p.1.1.1.0;
      wtmax = p.1.1.1.1.0;
      wtpref = p.1.1.1.1.1.0;
      wtmult = p.1.1.1.1.1.1.0;
      dtpref = p.1.1.1.1.1.1.1.0;
      maxfilesize = p.1.1.1.1.1.1.1.1.0;
      time_delta = p.1.1.1.1.1.1.1.1.1.0;
      properties = p.1.1.1.1.1.1.1.1.1.1;
    })
    (λ v. v.attributes & v.rtmax & v.rtpref & v.rtmult & v.wtmax & v.wtpref & v.wtmult & v.dtpref
    & v.maxfilesize & v.time_delta & v.properties)
    ((optional attributes_codec) ⊗ word ⊗ word ⊗ word ⊗ word ⊗ word ⊗ word ⊗ word ⊗ hyper ⊗ time_codec
    ⊗ word)

pub fsinfo_ok_lawful : Lawful fsinfo_ok_codec
unfolding fsinfo_ok_codec
fsinfo_ok_lawful =
    structure_lawful _ _ _ (λ _. refl) (λ _. refl)
    ((optional_lawful _ attributes_lawful) ⊠ word_lawful ⊠ word_lawful ⊠ word_lawful ⊠ word_lawful
    ⊠ word_lawful ⊠ word_lawful ⊠ word_lawful ⊠ hyper_lawful ⊠ time_lawful ⊠ word_lawful)

-- the results of PATHCONF on success (RFC 1813 section 3.3.20)
unfoldable pub pathconf_ok_codec : Codec PathconfOk
pathconf_ok_codec =
    structure (λ p. record {
      attributes = p.0;
      linkmax = p.1.0;
      name_max = p.1.1.0;
      no_trunc = p.1.1.1.0;
      chown_restricted = p.1.1.1.1.0;
      case_insensitive = p.1.1.1.1.1.0;
      case_preserving = p.1.1.1.1.1.1;
    })
    (λ v. v.attributes & v.linkmax & v.name_max & v.no_trunc & v.chown_restricted & v.case_insensitive
    & v.case_preserving)
    ((optional attributes_codec) ⊗ word ⊗ word ⊗ boolean ⊗ boolean ⊗ boolean ⊗ boolean)

pub pathconf_ok_lawful : Lawful pathconf_ok_codec
unfolding pathconf_ok_codec
pathconf_ok_lawful =
    structure_lawful _ _ _ (λ _. refl) (λ _. refl)
    ((optional_lawful _ attributes_lawful) ⊠ word_lawful ⊠ word_lawful ⊠ boolean_lawful ⊠ boolean_lawful
    ⊠ boolean_lawful ⊠ boolean_lawful)
