-- What is read of words is of its types: a number is a word, bytes are bytes, and the numbers of a first line are in range.
use Rattle.std.specs.Prelude.{◌&&◌, ◌==◌, codes, is_none, length, take, drop}
use Rattle.std.specs.List.{AllByRecursion}
use Rattle.std.specs.Str.{bytes_eq}
use Rattle.std.proofs.Common.{◌≡◌, ℕ, ◌≤◌, ◌<◌, Bool, true, false, cond, leb, leb-true, List, [], ◌∷◌, ◌++◌, Option, None, Some, Result, Ok, Err, refl, arith}
use Rattle.nr_xdr.specs.Item.{IsBytes}
use Rattle.hex.specs.Hex.{decode_of}
use Rattle.hex.proofs.HexLemmas.{decode_of-ok}
use Rattle.nr_nfs_base.specs.Procedures.{nfs_program, nfs_version, mount_program, mount_version}
use Rattle.nr_reduce.specs.declared.call.Form.{Form}
use Rattle.nr_reduce.specs.declared.call.Form.TheVariants as forms
use Rattle.nr_reduce.specs.declared.call.Offer.{Offer}
use Rattle.nr_wire.specs.Constants.{UNITS_MAX}
use Rattle.nr_reduce.specs.Limits.{credits_max}
use Rattle.nr_texts.specs.declared.opening.Opening.{Opening}
use Rattle.nr_texts.specs.declared.program.Program.{Program}
use Rattle.nr_texts.specs.Limits.{clients_max, number_max, default_capacity, default_units, capacity_max}
use Rattle.nr_texts.specs.Words.{◌>>=◌, IsWord, is_numeral, numeral_value, number_within, number_in, each_read, decoded, bytes_in, arguments_in, parts, two_numbers}
use Rattle.nr_reduce.specs.Plans.{HasWordPosition}
use Rattle.nr_texts.specs.Forms.{OfferPart, comma, semicolon, equals, at_sign, dot, lengths_in, write_lengths_in, position_by, read_part, write_part, reply_part, named_part, part_by, part_in, nothing_offered, with_part, offer_by, offer_in, given, given_form, form_in, numbered_program, program_in, IsPosition, IsWritableOffer, IsWritableForm}
use Rattle.nr_texts.specs.Forms.OfferPart.{Read, Write, Reply}
use Rattle.nr_texts.proofs.Pieces.{split}
use Rattle.nr_texts.specs.Openings.{capacity_in, sizes_of, sizes_in, numbered_in, invalidate_in, opening_of, opening_in, IsOpening}

abbrev pub If : {A : Type 0} → (A → Type 0) → Option A → Type 0
If P None = Unit {0}
If P (Some x) = P x

pub both_true_lem : (a b : Bool) → a && b ≡ true → (a ≡ true) × (b ≡ true)
both_true_lem true b e = (refl, e)
both_true_lem false b e = absurd cc

-- what follows from a value that is read
pub then_if : {A B : Type 0} (Q : A → Type 0) (P : B → Type 0) (o : Option A) (f : A → Option B) → If Q o → ((x : A) → Q x → If P (f x)) → If P (o >>= f)
then_if Q P None f h g = tt
then_if Q P (Some x) f h g = g x h

pub if_if : {A : Type 0} (P : A → Type 0) (b : Bool) (x y : Option A) → If P x → If P y → If P (cond b x y)
if_if P true x y h g = h
if_if P false x y h g = g

pub all_more : {A : Type 0} (P : A → Type 0) (all : List A) (last : A) → AllByRecursion P all → P last → AllByRecursion P (all ++ last ∷ [])
all_more P [] last h p = (p, tt)
all_more P (x ∷ all) last h p = (h.0, all_more P all last h.1 p)

-- ===== words

within_if : (low high : ℕ) (word : List ℕ) → If (λ n. (low ≤ n) × (n ≤ high)) (number_within low high word)
unfolding number_within
within_if low high word = by (is_numeral word && (leb low v && leb v high)) refl
  where
    v : ℕ
    v = numeral_value word

    by : (b : Bool) → is_numeral word && (leb low v && leb v high) ≡ b → If (λ n. (low ≤ n) × (n ≤ high)) (cond b (Some v) None)
    by true is =
        let parts = both_true_lem (leb low v) (leb v high) (both_true_lem (is_numeral word) (leb low v && leb v high) is).1 in
        (leb-true low v parts.0, leb-true v high parts.1)
    by false is = tt

pub small_if : (word : List ℕ) → If IsWord (number_in word)
small_if word = by (number_in word) (within_if 0 number_max word)
  where
    by : (o : Option ℕ) → If (λ n. (0 ≤ n) × (n ≤ number_max)) o → If IsWord o
    by None h = tt
    by (Some n) h = (let le = h.1 in omega (arith, le))

abbrev pub IsSomeBytes : List ℕ → Type 0
IsSomeBytes bytes = (0 < length bytes) × IsBytes bytes

pub some_bytes_if : (word : List ℕ) → If IsSomeBytes (bytes_in word)
unfolding bytes_in
some_bytes_if [] = tt
some_bytes_if (digit ∷ others) = by (decode_of (digit ∷ others)) refl
  where
    by : (r : Result (List ℕ) _) → decode_of (digit ∷ others) ≡ r → If IsSomeBytes (decoded r)
    by (Ok bytes) is = let ok = decode_of-ok (digit ∷ others) bytes is in (let len = ok.2 in omega (arith, len), ok.3)
    by (Err fault) is = tt

pub bytes_if : (word : List ℕ) → If IsBytes (bytes_in word)
bytes_if word = by (bytes_in word) (some_bytes_if word)
  where
    by : (o : Option (List ℕ)) → If IsSomeBytes o → If IsBytes o
    by None h = tt
    by (Some bytes) h = h.1

pub arguments_if : (word : List ℕ) → If IsBytes (arguments_in word)
unfolding arguments_in
arguments_if word = if_if IsBytes (bytes_eq word (codes "-")) (Some []) (bytes_in word) (λ i. omega arith) (bytes_if word)

-- ===== forms

abbrev AreLengths : List ℕ → Type 0
AreLengths lengths = AllByRecursion IsWord lengths

abbrev AreSome : List ℕ → Type 0
AreSome lengths = (0 < length lengths) × AreLengths lengths

abbrev PartFits : OfferPart → Type 0
PartFits (Read at lengths) = IsWord at × AreSome lengths
PartFits (Write lengths) = AreLengths lengths
PartFits (Reply lengths) = AreSome lengths

abbrev pub IsAny : {A : Type 0} → A → Type 0
IsAny x = Unit {0}

pub any_if : {A : Type 0} (o : Option A) → If IsAny o
any_if None = tt
any_if (Some x) = tt

each_if : (texts : List (List ℕ)) → If AreLengths (each_read number_in texts)
each_if [] = tt
each_if (text ∷ texts) =
    then_if IsWord AreLengths (number_in text) (λ n. each_read number_in texts >>= λ ns. Some (n ∷ ns)) (small_if text)
    (λ n h. then_if AreLengths AreLengths (each_read number_in texts) (λ ns. Some (n ∷ ns)) (each_if texts) (λ ns all. (h, all)))

some_if : (text : List ℕ) (texts : List (List ℕ)) → If AreSome (each_read number_in (text ∷ texts))
some_if text texts =
    then_if IsWord AreSome (number_in text) (λ n. each_read number_in texts >>= λ ns. Some (n ∷ ns)) (small_if text)
    (λ n h. then_if AreLengths AreSome (each_read number_in texts) (λ ns. Some (n ∷ ns)) (each_if texts) (λ ns all. (omega arith, (h, all))))

lengths_if : (text : List ℕ) → If AreSome (lengths_in text)
unfolding lengths_in
lengths_if text = let s = split (λ c. c == comma) text in rw (s.is) (some_if s.first s.others)

write_lengths_if : (text : List ℕ) → If AreLengths (write_lengths_in text)
write_lengths_if [] = tt
write_lengths_if (c ∷ others) = by (lengths_in (c ∷ others)) (lengths_if (c ∷ others))
  where
    by : (o : Option (List ℕ)) → If AreSome o → If AreLengths o
    by None h = tt
    by (Some lengths) h = h.1

position_if : (words : List (List ℕ)) → If IsWord (position_by words)
position_if [] = tt
position_if (name ∷ []) = tt
position_if (name ∷ position ∷ []) = if_if IsWord (bytes_eq name (codes "read")) (number_in position) None (small_if position) tt
position_if (name ∷ position ∷ more ∷ others) = tt

read_if : (words : List (List ℕ)) (text : List ℕ) → If PartFits (read_part words text)
read_if words text =
    then_if IsWord PartFits (position_by words) (λ at. lengths_in text >>= λ lengths. Some (Read at lengths)) (position_if words)
    (λ at small. then_if AreSome PartFits (lengths_in text) (λ lengths. Some (Read at lengths)) (lengths_if text) (λ lengths fit. (small, fit)))

named_if : (name text : List ℕ) → If PartFits (named_part name text)
named_if name text =
    if_if PartFits (bytes_eq name (codes "write")) (write_part text) _
    (then_if AreLengths PartFits (write_lengths_in text) (λ lengths. Some (Write lengths)) (write_lengths_if text) (λ lengths fit. fit))
    (if_if PartFits (bytes_eq name (codes "reply")) (reply_part text) (read_part (parts at_sign name) text)
    (then_if AreSome PartFits (lengths_in text) (λ lengths. Some (Reply lengths)) (lengths_if text) (λ lengths fit. fit)) (read_if (parts at_sign name) text))

part_by_if : (words : List (List ℕ)) → If PartFits (part_by words)
part_by_if [] = tt
part_by_if (name ∷ []) = tt
part_by_if (name ∷ text ∷ []) = named_if name text
part_by_if (name ∷ text ∷ more ∷ others) = tt

part_if : (text : List ℕ) → If PartFits (part_in text)
unfolding part_in
part_if text = part_by_if (parts equals text)

with_if : (offer : Offer) (part : OfferPart) → IsWritableOffer offer → PartFits part → If IsWritableOffer (with_part offer part)
with_if offer (Read at lengths) h p =
    if_if IsWritableOffer (is_none offer.read && (is_none offer.write && is_none offer.reply)) (Some (record offer { read_at = at; read = Some lengths })) None
    (record { position = p.0; read = p.1; write = h.write; reply = h.reply }) tt
with_if offer (Write lengths) h p =
    if_if IsWritableOffer (is_none offer.write && is_none offer.reply) (Some (record offer { write = Some lengths })) None
    (record { position = h.position; read = h.read; write = p; reply = h.reply }) tt
with_if offer (Reply lengths) h p =
    if_if IsWritableOffer (is_none offer.reply) (Some (record offer { reply = Some lengths })) None (record { position = h.position; read = h.read; write = h.write; reply = p }) tt

by_if : (offer : Offer) (texts : List (List ℕ)) → IsWritableOffer offer → If IsWritableOffer (offer_by offer texts)
by_if offer [] h = h
by_if offer (text ∷ others) h =
    then_if PartFits IsWritableOffer (part_in text) (λ part. with_part offer part >>= λ more. offer_by more others) (part_if text)
    (λ part p. then_if IsWritableOffer IsWritableOffer (with_part offer part) (λ more. offer_by more others) (with_if offer part h p) (λ more m. by_if more others m))

nothing_right : IsWritableOffer nothing_offered
nothing_right = record { position = refl; read = tt; write = tt; reply = tt }

offer_if : (text : List ℕ) → If IsWritableOffer (offer_in text)
unfolding offer_in
offer_if [] = nothing_right
offer_if (c ∷ others) = by_if nothing_offered (parts semicolon (c ∷ others)) nothing_right

pub writable_form_if : (word : List ℕ) → If IsWritableForm (form_in word)
unfolding form_in
writable_form_if word =
    if_if IsWritableForm (bytes_eq word (codes "auto")) (Some forms.Auto) _ tt
    (if_if IsWritableForm (bytes_eq word (codes "inline")) (Some forms.Inline) _ tt
    (if_if IsWritableForm (bytes_eq word (codes "chunk")) (Some forms.Chunk) _ tt
    (if_if IsWritableForm (bytes_eq word (codes "long")) (Some forms.Long) (given_form word) tt
    (if_if IsWritableForm (bytes_eq (take (length given) word) given) (offer_in (drop (length given) word) >>= λ offer. Some (forms.Given offer)) None
    (then_if IsWritableOffer IsWritableForm (offer_in (drop (length given) word)) (λ offer. Some (forms.Given offer)) (offer_if (drop (length given) word)) (λ offer h. h)) tt))))

word_position : (offer : Offer) → (read : Option (List ℕ)) → IsPosition read offer.read_at → IsWord offer.read_at
word_position offer None is = omega (arith, is)
word_position offer (Some lengths) is = is

pub form_if : (word : List ℕ) → If HasWordPosition (form_in word)
form_if word = by (form_in word) (writable_form_if word)
  where
    by : (o : Option Form) → If IsWritableForm o → If HasWordPosition o
    by None h = tt
    by (Some forms.Auto) h = tt
    by (Some forms.Inline) h = tt
    by (Some forms.Chunk) h = tt
    by (Some forms.Long) h = tt
    by (Some (forms.Given offer)) h = word_position offer offer.read h.position

abbrev pub ProgramSmall : Program → Type 0
ProgramSmall p = IsWord p.prog × IsWord p.vers

pub numbered_if : (words : List (List ℕ)) → If ProgramSmall (numbered_program words)
numbered_if [] = tt
numbered_if (prog ∷ []) = tt
numbered_if (prog ∷ vers ∷ []) =
    then_if IsWord ProgramSmall (number_in prog) (λ p. number_in vers >>= λ v. Some (record { prog = p; vers = v })) (small_if prog)
    (λ p small. then_if IsWord ProgramSmall (number_in vers) (λ v. Some (record { prog = p; vers = v })) (small_if vers) (λ v also. (small, also)))
numbered_if (prog ∷ vers ∷ more ∷ others) = tt

pub program_if : (word : List ℕ) → If ProgramSmall (program_in word)
unfolding program_in
program_if word =
    if_if ProgramSmall (bytes_eq word (codes "nfs")) (Some (record { prog = nfs_program; vers = nfs_version })) _ (omega arith, omega arith)
    (if_if ProgramSmall (bytes_eq word (codes "mnt")) (Some (record { prog = mount_program; vers = mount_version })) (numbered_program (parts dot word)) (omega arith, omega arith) (numbered_if (parts dot word)))

abbrev pub PairSmall : ℕ × ℕ → Type 0
PairSmall p = IsWord p.0 × IsWord p.1

pub two_if : (words : List (List ℕ)) → If PairSmall (two_numbers words)
two_if [] = tt
two_if (first ∷ []) = tt
two_if (first ∷ second ∷ []) =
    then_if IsWord PairSmall (number_in first) (λ n. number_in second >>= λ m. Some (n, m)) (small_if first)
    (λ n h. then_if IsWord PairSmall (number_in second) (λ m. Some (n, m)) (small_if second) (λ m k. (h, k)))
two_if (first ∷ second ∷ more ∷ others) = tt

-- ===== the first line

abbrev CapacityFits : ℕ × List (List ℕ) → Type 0
CapacityFits p = p.0 ≤ capacity_max

capacity_if : (words : List (List ℕ)) → If CapacityFits (capacity_in words)
capacity_if [] = omega arith
capacity_if (name ∷ []) = omega arith
capacity_if (name ∷ bytes ∷ others) =
    if_if CapacityFits (bytes_eq name (codes "capacity")) (number_within 0 capacity_max bytes >>= λ b. Some (b, others)) (Some (default_capacity, name ∷ bytes ∷ others))
    (then_if (λ n. (0 ≤ n) × (n ≤ capacity_max)) CapacityFits (number_within 0 capacity_max bytes) (λ b. Some (b, others)) (within_if 0 capacity_max bytes) (λ b h. h.1)) (omega arith)

abbrev AreUnits : ℕ → Type 0
AreUnits units = (1 ≤ units) × (units ≤ UNITS_MAX)

abbrev PairFits : ℕ × ℕ → Type 0
PairFits p = AreUnits p.0 × AreUnits p.1

abbrev SizesFit : (ℕ × ℕ) × List (List ℕ) → Type 0
SizesFit p = PairFits p.0

pair_if : (client server : List ℕ) → If PairFits (sizes_of client server)
pair_if client server =
    then_if AreUnits PairFits (number_within 1 UNITS_MAX client) (λ a. number_within 1 UNITS_MAX server >>= λ b. Some (a, b)) (within_if 1 UNITS_MAX client)
    (λ a h. then_if AreUnits PairFits (number_within 1 UNITS_MAX server) (λ b. Some (a, b)) (within_if 1 UNITS_MAX server) (λ b k. (h, k)))

default_pair : PairFits (default_units, default_units)
default_pair = ((omega arith, omega arith), (omega arith, omega arith))

sizes_if : (words : List (List ℕ)) → If SizesFit (sizes_in words)
sizes_if [] = default_pair
sizes_if (name ∷ []) = default_pair
sizes_if (name ∷ client ∷ []) = default_pair
sizes_if (name ∷ client ∷ server ∷ others) =
    if_if SizesFit (bytes_eq name (codes "sizes")) (sizes_of client server >>= λ units. Some (units, others)) (Some ((default_units, default_units), name ∷ client ∷ server ∷ others))
    (then_if PairFits SizesFit (sizes_of client server) (λ units. Some (units, others)) (pair_if client server) (λ units h. h)) default_pair

abbrev AnyBool : Bool → Type 0
AnyBool b = Unit {0}

bool_if : (o : Option Bool) → If AnyBool o
bool_if None = tt
bool_if (Some b) = tt

opening_of_if : (clients credits : List ℕ) (others : List (List ℕ)) → If IsOpening (opening_of clients credits others)
opening_of_if clients credits others =
    then_if (λ n. (1 ≤ n) × (n ≤ clients_max)) IsOpening (number_within 1 clients_max clients)
    (λ n. number_within 1 credits_max credits >>= λ g. capacity_in others >>= λ p. sizes_in p.1 >>= λ s. invalidate_in (numbered_in s.1).1 >>= λ v. made n g p s v) (within_if 1 clients_max clients)
    (λ n h. then_if (λ g. (1 ≤ g) × (g ≤ credits_max)) IsOpening (number_within 1 credits_max credits)
    (λ g. capacity_in others >>= λ p. sizes_in p.1 >>= λ s. invalidate_in (numbered_in s.1).1 >>= λ v. made n g p s v) (within_if 1 credits_max credits)
    (λ g k. then_if CapacityFits IsOpening (capacity_in others) (λ p. sizes_in p.1 >>= λ s. invalidate_in (numbered_in s.1).1 >>= λ v. made n g p s v) (capacity_if others)
    (λ p f. then_if SizesFit IsOpening (sizes_in p.1) (λ s. invalidate_in (numbered_in s.1).1 >>= λ v. made n g p s v) (sizes_if p.1)
    (λ s u. then_if AnyBool IsOpening (invalidate_in (numbered_in s.1).1) (λ v. made n g p s v) (bool_if (invalidate_in (numbered_in s.1).1))
    (λ v t. record { some_clients = h.0; few_clients = h.1; some_credits = k.0; few_credits = k.1; capacity = f; some_client_units = u.0.0; few_client_units = u.0.1; some_server_units = u.1.0; few_server_units = u.1.1 })))))
  where
    made : ℕ → ℕ → ℕ × List (List ℕ) → (ℕ × ℕ) × List (List ℕ) → Bool → Option Opening
    made n g p s v = Some (record { clients = n; credits = g; capacity = p.0; client_units = s.0.0; server_units = s.0.1; numbered = (numbered_in s.1).0; invalidates = v })

pub opening_if : (words : List (List ℕ)) → If IsOpening (opening_in words)
unfolding opening_in
opening_if [] = tt
opening_if (first ∷ []) = tt
opening_if (first ∷ clients ∷ []) = tt
opening_if (first ∷ clients ∷ second ∷ []) = tt
opening_if (first ∷ clients ∷ second ∷ credits ∷ others) =
    if_if IsOpening (bytes_eq first (codes "clients") && bytes_eq second (codes "credits")) (opening_of clients credits others) None (opening_of_if clients credits others) tt
