-- Sequences of items: the bytes that encode them, and the bytes that are read as them.
use Rattle.std.specs.Prelude.{◌≡◌, ℕ, List, [], ◌∷◌, ◌++◌}
use Rattle.std.specs.List.{AllByRecursion}
use Rattle.nr_xdr.specs.Item.{Item, Fits, Reads, encoding}
use Rattle.nr_xdr.specs.Reading.{Cursor, Takes}

-- each item has an encoding
abbrev pub AllFit : List Item → Type 0
AllFit items = AllByRecursion Fits items

-- the one encoding of a sequence: the encodings of its items, in their order
abbrev pub encodings : List Item → List ℕ
encodings [] = []
encodings (item ∷ items) = encoding item ++ encodings items

-- the bytes are read as these items, to the last byte, whatever the pad bytes are
abbrev pub ReadsAll : List Item → List ℕ → Type 0
ReadsAll [] bytes = bytes ≡ []
ReadsAll (item ∷ items) bytes =
    (front : List ℕ) × (rest : List ℕ) × Reads item front × ReadsAll items rest × (bytes ≡ front ++ rest)

-- from old to new the reader took these items, in their order
abbrev pub TakesAll : Cursor → Cursor → List Item → Type 0
TakesAll old new [] = old ≡ new
TakesAll old new (item ∷ items) = (after : Cursor) × Takes old after item × TakesAll after new items
