-- How a call line says in which form its call is sent, and of which program it is.
use Rattle.std.specs.Prelude.{ℕ, ◌<◌, ◌&&◌, if◌then◌else◌, List, [], ◌∷◌, ◌≡◌, Bool, codes, Option, None, Some, is_none, length, take, drop}
use Rattle.std.specs.List.{AllByRecursion}
use Rattle.std.specs.Str.{bytes_eq}
use Rattle.nr_nfs_base.specs.Procedures.{nfs_program, nfs_version, mount_program, mount_version}
use Rattle.nr_reduce.specs.declared.call.Form.{Form}
use Rattle.nr_reduce.specs.declared.call.Form.TheVariants as forms
use Rattle.nr_reduce.specs.declared.call.Offer.{Offer}
use Rattle.nr_texts.specs.declared.program.Program.{Program}
use Rattle.nr_texts.specs.Words.{◌>>=◌, IsWord, parts, each_read, number_in}

-- ===== offers that are given

-- a part of an offer: the lengths of the segments of one of its lists
pub data OfferPart : Type 0 where
  Read : (at : ℕ) → (lengths : List ℕ) → OfferPart
  Write : (lengths : List ℕ) → OfferPart
  Reply : (lengths : List ℕ) → OfferPart

abbrev pub comma : ℕ
comma = 44

abbrev pub semicolon : ℕ
semicolon = 59

abbrev pub equals : ℕ
equals = 61

abbrev pub at_sign : ℕ
at_sign = 64

abbrev pub dot : ℕ
dot = 46

-- one length or more
unfoldable pub lengths_in : List ℕ → Option (List ℕ)
lengths_in text = each_read number_in (parts comma text)

-- a write chunk may be without segments
abbrev pub write_lengths_in : List ℕ → Option (List ℕ)
write_lengths_in [] = Some []
write_lengths_in (c ∷ others) = lengths_in (c ∷ others)

-- `write=A,B`, `reply=A,B` and `read@P=A,B`, by what stands before and after the sign
abbrev pub position_by : List (List ℕ) → Option ℕ
position_by (name ∷ position ∷ []) = if bytes_eq name (codes "read") then number_in position else None
position_by words = None

abbrev pub read_part : List (List ℕ) → List ℕ → Option OfferPart
read_part words text = position_by words >>= λ at. lengths_in text >>= λ lengths. Some (Read at lengths)

abbrev pub write_part : List ℕ → Option OfferPart
write_part text = write_lengths_in text >>= λ lengths. Some (Write lengths)

abbrev pub reply_part : List ℕ → Option OfferPart
reply_part text = lengths_in text >>= λ lengths. Some (Reply lengths)

abbrev pub named_part : List ℕ → List ℕ → Option OfferPart
named_part name text =
    if bytes_eq name (codes "write") then write_part text
    else (if bytes_eq name (codes "reply") then reply_part text else read_part (parts at_sign name) text)

abbrev pub part_by : List (List ℕ) → Option OfferPart
part_by (name ∷ text ∷ []) = named_part name text
part_by words = None

unfoldable pub part_in : List ℕ → Option OfferPart
part_in text = part_by (parts equals text)

-- each part at most once, in this order
abbrev pub nothing_offered : Offer
nothing_offered = record { read_at = 0; read = None; write = None; reply = None }

abbrev pub with_part : Offer → OfferPart → Option Offer
with_part offer (Read at lengths) =
    if is_none offer.read && (is_none offer.write && is_none offer.reply) then Some (record offer { read_at = at; read = Some lengths }) else None
with_part offer (Write lengths) = if is_none offer.write && is_none offer.reply then Some (record offer { write = Some lengths }) else None
with_part offer (Reply lengths) = if is_none offer.reply then Some (record offer { reply = Some lengths }) else None

abbrev pub offer_by : Offer → List (List ℕ) → Option Offer
offer_by offer [] = Some offer
offer_by offer (text ∷ others) = part_in text >>= λ part. with_part offer part >>= λ more. offer_by more others

-- an offer after a part, and whether the part was added: it is there, and may follow what the offer has
abbrev pub IsAdded : Offer → Option OfferPart → Offer → Bool → Type 0
IsAdded old part new added = (part >>= λ p. with_part old p) ≡ (if added then Some new else None)

-- without a part nothing is offered
unfoldable pub offer_in : List ℕ → Option Offer
offer_in [] = Some nothing_offered
offer_in (c ∷ others) = offer_by nothing_offered (parts semicolon (c ∷ others))

-- ===== forms

abbrev pub given : List ℕ
given = codes "given:"

abbrev pub given_form : List ℕ → Option Form
given_form word =
    if bytes_eq (take (length given) word) given then (offer_in (drop (length given) word) >>= λ offer. Some (forms.Given offer)) else None

unfoldable pub form_in : List ℕ → Option Form
form_in word =
    if bytes_eq word (codes "auto") then Some forms.Auto
    else (if bytes_eq word (codes "inline") then Some forms.Inline
    else (if bytes_eq word (codes "chunk") then Some forms.Chunk
    else (if bytes_eq word (codes "long") then Some forms.Long
    else given_form word)))

-- ===== forms that a word can say

-- a list of an offer that has segments: one or more
abbrev pub HasSegments : Option (List ℕ) → Type 0
HasSegments None = Unit {0}
HasSegments (Some lengths) = (0 < length lengths) × AllByRecursion IsWord lengths

-- a write chunk may be without segments
abbrev pub MayHaveSegments : Option (List ℕ) → Type 0
MayHaveSegments None = Unit {0}
MayHaveSegments (Some lengths) = AllByRecursion IsWord lengths

-- the position of a read chunk, and 0 if none is offered
abbrev pub IsPosition : Option (List ℕ) → ℕ → Type 0
IsPosition None at = at ≡ 0
IsPosition (Some lengths) at = IsWord at

pub record IsWritableOffer (offer : Offer) : Type 0 where
  pub position : IsPosition offer.read offer.read_at
  pub read : HasSegments offer.read
  pub write : MayHaveSegments offer.write
  pub reply : HasSegments offer.reply

abbrev pub IsWritableForm : Form → Type 0
IsWritableForm forms.Auto = Unit {0}
IsWritableForm forms.Inline = Unit {0}
IsWritableForm forms.Chunk = Unit {0}
IsWritableForm forms.Long = Unit {0}
IsWritableForm (forms.Given offer) = IsWritableOffer offer

-- ===== programs

abbrev pub numbered_program : List (List ℕ) → Option Program
numbered_program (prog ∷ vers ∷ []) = number_in prog >>= λ p. number_in vers >>= λ v. Some (record { prog = p; vers = v })
numbered_program words = None

unfoldable pub program_in : List ℕ → Option Program
program_in word =
    if bytes_eq word (codes "nfs") then Some (record { prog = nfs_program; vers = nfs_version })
    else (if bytes_eq word (codes "mnt") then Some (record { prog = mount_program; vers = mount_version })
    else numbered_program (parts dot word))
