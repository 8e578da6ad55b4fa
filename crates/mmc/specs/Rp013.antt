-- MIDI Machine Control (RP-013), strings: how long an item is by its name (Message Length, p. 5), the string of items, and
-- the message (p. 1). Bytes are in hexadecimal, as on the page. Left out: what a name means (Rp013Commands). Assumes nothing.
use Rattle.std.specs.Prelude.{ℕ, zero, suc, ◌≤◌, ◌<◌, ◌≡◌, ◌⊎◌, List, [], ◌∷◌, ◌++◌, length, get_or}
use Rattle.mmc.specs.declared.length.Kind.{Kind}
use Rattle.mmc.specs.declared.length.Kind.TheVariants.{Commands, Fields}
use Rattle.mmc.specs.declared.length.Length.{Length}
use Rattle.mmc.specs.declared.length.Length.TheVariants.{Fixed, Count}

-- ---- Message Length (p. 5)

-- Names from one byte to another, and what follows them: so many data bytes, or a count byte and that many.
pub record Range : Type 0 where
  pub from : ℕ
  pub to : ℕ
  pub follows : Length

-- A row of the page: names from, to, and what follows.
abbrev pub names : ℕ → ℕ → Length → Range
names from to follows = record { from = from; to = to; follows = follows }

-- Commands: 01H to 3FH have no data, 40H to 77H a count byte, 78H to 7FH no data. Information Fields: 01H to 1FH have 5 data
-- bytes, 20H to 3FH have 2, 40H to 77H a count byte, 78H to 7FH no data.
abbrev pub ranges : Kind → List Range
ranges Commands = names 0x01 0x3F (Fixed 0) ∷ names 0x40 0x77 Count ∷ names 0x78 0x7F (Fixed 0) ∷ []
ranges Fields =
    names 0x01 0x1F (Fixed 5) ∷ names 0x20 0x3F (Fixed 2) ∷ names 0x40 0x77 Count ∷ names 0x78 0x7F (Fixed 0) ∷ []

-- The byte is in one of the ranges, which says what follows.
abbrev pub Among : List Range → ℕ → Length → Type 0
Among [] byte follows = ⊥
Among (r ∷ rs) byte follows = ((r.from ≤ byte) × (byte ≤ r.to) × (follows ≡ r.follows)) ⊎ Among rs byte follows

-- What follows a name with this last byte.
abbrev pub Follows : Kind → ℕ → Length → Type 0
Follows kind last follows = Among (ranges kind) last follows

-- ---- names, with the extension prefixes (p. 5)

-- A byte after so many prefixes 00H.
abbrev pub prefixed : ℕ → ℕ → List ℕ
prefixed zero last = last ∷ []
prefixed (suc k) last = 0x00 ∷ prefixed k last

-- A name: at most two prefixes, and a last byte that is not 00H.
pub record Name (name : List ℕ) (last : ℕ) : Type 0 where
  pub prefixes : ℕ
  pub few : prefixes ≤ 2
  pub no_prefix : 0x01 ≤ last
  pub bytes : name ≡ prefixed prefixes last

-- ---- items

-- An item: its name and its data.
pub record Item : Type 0 where
  pub name : List ℕ
  pub «data» : List ℕ

-- What stands after the name: the data, so many; or a count byte, at most 7FH, and that many.
abbrev pub After : Length → List ℕ → List ℕ → Type 0
After (Fixed n) d rest = (length d ≡ n) × (rest ≡ d)
After Count d rest = (length d ≤ 0x7F) × (rest ≡ length d ∷ d)

-- The bytes of an item.
pub record IsItem (kind : Kind) (item : Item) (bytes : List ℕ) : Type 0 where
  pub last : ℕ
  pub named : Name item.name last
  pub follows : Length
  pub ranged : Follows kind last follows
  pub rest : List ℕ
  pub after : After follows item.«data» rest
  pub joined : bytes ≡ item.name ++ rest

-- ---- strings

-- The bytes of items one after another.
abbrev pub Spell : Kind → List Item → List ℕ → Type 0
Spell kind [] bytes = bytes ≡ []
Spell kind (x ∷ xs) bytes =
    (front : List ℕ) × (rest : List ℕ) × IsItem kind x front × Spell kind xs rest × (bytes ≡ front ++ rest)

-- A well-formed string: some items' bytes one after another.
abbrev pub WellFormed : Kind → List ℕ → Type 0
WellFormed kind bytes = (items : List Item) × Spell kind items bytes

-- ---- the message (p. 1)

-- Sub-ID#1: 06H for commands, 07H for responses, which are Information Fields.
abbrev pub sub_id1_of : Kind → ℕ
sub_id1_of Commands = 0x06
sub_id1_of Fields = 0x07

-- The highest device ID: 7FH, all devices, for commands, and 7EH as the source of responses.
abbrev pub last_device : Kind → ℕ
last_device Commands = 0x7F
last_device Fields = 0x7E

-- F0H 7FH, the device ID, 06H or 07H, the string, F7H.
abbrev pub envelope : Kind → ℕ → List ℕ → List ℕ
envelope kind device string = 0xF0 ∷ 0x7F ∷ device ∷ sub_id1_of kind ∷ (string ++ 0xF7 ∷ [])

-- A message: a well-formed string of 1 to 48 bytes, each at most 7FH, in its envelope.
pub record Message (kind : Kind) (device : ℕ) (string bytes : List ℕ) : Type 0 where
  pub device_in_range : device ≤ last_device kind
  pub least : 1 ≤ length string
  pub most : length string ≤ 48
  pub seven_bits : (i : ℕ) → i < length string → get_or string i 0 ≤ 0x7F
  pub well_formed : WellFormed kind string
  pub joined : bytes ≡ envelope kind device string
