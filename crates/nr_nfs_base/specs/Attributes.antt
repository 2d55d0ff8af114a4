-- Attributes.
use Rattle.std.proofs.Common.{refl}
use Rattle.nr_nfs_base.specs.Codec.{Codec, Lawful, word, hyper, ◌⊗◌, ◌&◌, structure}
use Rattle.nr_nfs_base.specs.FileType.{file_type_codec, file_type_lawful}
use Rattle.nr_nfs_base.specs.Laws.{word_lawful, hyper_lawful, ◌⊠◌, structure_lawful}
use Rattle.nr_nfs_base.specs.Time.{time_codec, time_lawful}
use Rattle.nr_nfs_base.specs.declared.attributes.Attributes.{Attributes}
use Rattle.nr_nfs_base.specs.declared.attributes.SpecialData.{SpecialData}

-- the device of a special file (RFC 1813 section 2.5, specdata3)
unfoldable pub special_data_codec : Codec SpecialData
special_data_codec =
    structure (λ p. record { major = p.0; minor = p.1 })
    (λ v. v.major & v.minor)
    (word ⊗ word)

pub special_data_lawful : Lawful special_data_codec
unfolding special_data_codec
special_data_lawful =
    structure_lawful _ _ _ (λ _. refl) (λ _. refl)
    (word_lawful ⊠ word_lawful)

-- the attributes of a file (RFC 1813 section 2.5, fattr3)
unfoldable pub attributes_codec : Codec Attributes
attributes_codec =
    structure (λ p. record {
      file_type = p.0;
      mode = p.1.0;
      nlink = p.1.1.0;
      uid = p.1.1.1.0;
      gid = p.1.1.1.1.0;
      size = p.1.1.1.1.1.0;
      used = p.1.1.1.1.1.1.0;
      rdev = p.1.1.1.1.1.1.1.0;
      fsid = p.1.1.1.1.1.1.1.1.0;
      fileid = p.1.1.1.1.1.1.1.1.1.0;
      atime = p.1.1.1.1.1.1.1.1.1.1.0;
      mtime = p.1.1.1.1.1.1.1.1.1.1.1.0;
      ctime = p.1.1.1.1.1.1.1.1.1.1.1.1;
    })
    (λ v. v.file_type & v.mode & v.nlink & v.uid & v.gid & v.size & v.used & v.rdev & v.fsid & v.fileid
    & v.atime & v.mtime & v.ctime)
    (file_type_codec ⊗ word ⊗ word ⊗ word ⊗ word ⊗ hyper ⊗ hyper ⊗ special_data_codec ⊗ hyper ⊗ hyper
    ⊗ time_codec ⊗ time_codec ⊗ time_codec)

pub attributes_lawful : Lawful attributes_codec
unfolding attributes_codec
attributes_lawful =
    structure_lawful _ _ _ (λ _. refl) (λ _. refl)
    (file_type_lawful ⊠ word_lawful ⊠ word_lawful ⊠ word_lawful ⊠ word_lawful ⊠ hyper_lawful
    ⊠ hyper_lawful ⊠ special_data_lawful ⊠ hyper_lawful ⊠ hyper_lawful ⊠ time_lawful ⊠ time_lawful
    ⊠ time_lawful)
