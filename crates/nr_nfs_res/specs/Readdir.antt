-- Results of the calls that list directories.
use Rattle.std.proofs.Common.{refl}
use Rattle.nr_nfs_base.specs.Attributes.{attributes_codec, attributes_lawful}
use Rattle.nr_nfs_base.specs.Codec.{Codec, Lawful, hyper, boolean, ◌⊗◌, ◌&◌, structure, optional, linked_list}
use Rattle.nr_nfs_base.specs.Laws.{hyper_lawful, boolean_lawful, ◌⊠◌, structure_lawful, optional_lawful, linked_list_lawful}
use Rattle.nr_nfs_base.specs.Names.{handle_codec, handle_lawful, text_codec, text_lawful}
use Rattle.nr_nfs_base.specs.Verifier.{verifier_codec, verifier_lawful}
use Rattle.nr_nfs_res.specs.declared.readdir.Entry.{Entry}
use Rattle.nr_nfs_res.specs.declared.readdir.EntryPlus.{EntryPlus}
use Rattle.nr_nfs_res.specs.declared.readdir.Listing.{Listing}

-- an entry of a directory (RFC 1813 section 3.3.16, entry3)
unfoldable pub entry_codec : Codec Entry
entry_codec =
    structure (λ p. record { fileid = p.0; name = p.1.0; cookie = p.1.1 })
    (λ v. v.fileid & v.name & v.cookie)
    (hyper ⊗ text_codec ⊗ hyper)

pub entry_lawful : Lawful entry_codec
unfolding entry_codec
entry_lawful =
    structure_lawful _ _ _ (λ _. refl) (λ _. refl)
    (hyper_lawful ⊠ text_lawful ⊠ hyper_lawful)

-- a part of a directory, with entries of a kind (RFC 1813 sections 3.3.16 and 3.3.17)
unfoldable pub listing_codec : {E : Type 0} → Codec E → Codec (Listing E)
listing_codec c =
    structure (λ p. record { dir_attributes = p.0; verifier = p.1.0; entries = p.1.1.0; eof = p.1.1.1 })
    (λ v. v.dir_attributes & v.verifier & v.entries & v.eof)
    ((optional attributes_codec) ⊗ verifier_codec ⊗ (linked_list c) ⊗ boolean)

pub listing_lawful : {E : Type 0} (c : Codec E) → Lawful c → Lawful (listing_codec c)
unfolding listing_codec
listing_lawful c l =
    structure_lawful _ _ _ (λ _. refl) (λ _. refl)
    ((optional_lawful _ attributes_lawful) ⊠ verifier_lawful ⊠ (linked_list_lawful c l) ⊠ boolean_lawful)

-- the results of READDIR on success (RFC 1813 section 3.3.16)
abbrev pub ReaddirOk : Type 0
ReaddirOk = Listing Entry

abbrev pub readdir_ok_codec : Codec ReaddirOk
readdir_ok_codec = listing_codec entry_codec

-- an entry of a directory and what it names (RFC 1813 section 3.3.17, entryplus3)
unfoldable pub entry_plus_codec : Codec EntryPlus
entry_plus_codec =
    structure (λ p. record {
      fileid = p.0;
      name = p.1.0;
      cookie = p.1.1.0;
      attributes = p.1.1.1.0;
      handle = p.1.1.1.1;
    })
    (λ v. v.fileid & v.name & v.cookie & v.attributes & v.handle)
    (hyper ⊗ text_codec ⊗ hyper ⊗ (optional attributes_codec) ⊗ (optional handle_codec))

pub entry_plus_lawful : Lawful entry_plus_codec
unfolding entry_plus_codec
entry_plus_lawful =
    structure_lawful _ _ _ (λ _. refl) (λ _. refl)
    (hyper_lawful ⊠ text_lawful ⊠ hyper_lawful ⊠ (optional_lawful _ attributes_lawful)
    ⊠ (optional_lawful _ handle_lawful))

-- the results of READDIRPLUS on success (RFC 1813 section 3.3.17)
abbrev pub ReaddirplusOk : Type 0
ReaddirplusOk = Listing EntryPlus

abbrev pub readdirplus_ok_codec : Codec ReaddirplusOk
readdirplus_ok_codec = listing_codec entry_plus_codec
