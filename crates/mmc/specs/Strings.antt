-- Strings of items, for commands and for fields alike: an item's bytes by the length rule, the walk over a whole string, and
-- what commands and fields are as items. Assumes nothing.
use Rattle.std.specs.Prelude.{ℕ, zero, suc, ◌+◌, ◌*◌, ◌≤◌, ◌≡◌, Bool, true, false, ◌&&◌, ◌||◌, List, [], ◌∷◌, ◌++◌, map, ◌⊎◌, eqb, length}
use Rattle.mmc.specs.declared.command.MmcCommand.{MmcCommand}
use Rattle.mmc.specs.declared.command.MmcCommand.TheVariants as C
use Rattle.mmc.specs.declared.field.InfoField.{InfoField}
use Rattle.mmc.specs.declared.field.InfoField.TheVariants as F
use Rattle.mmc.specs.declared.length.Kind.{Kind}
use Rattle.mmc.specs.declared.length.Kind.TheVariants.{Commands, Fields}
use Rattle.mmc.specs.declared.length.Length.{Length}
use Rattle.mmc.specs.declared.length.Length.TheVariants.{Fixed, Count}
use Rattle.mmc.specs.Command.{CommandCase, stop, play, deferred_play, fast_forward, rewind, record_strobe, record_exit, pause, reset, write, locate_field, locate_target, move, read_command, command_of_case, next_command}
use Rattle.mmc.specs.Field.{FieldCase, time_code_field, short_field, read_field, field_of_case, next_field}
use Rattle.mmc.specs.Item.{command_item, field_item}
use Rattle.mmc.specs.Length.{length_of}
use Rattle.mmc.specs.Named.{name_fits, last_of_name}
use Rattle.mmc.specs.Part.{part, part_of}
use Rattle.mmc.specs.Rp013.{Item, IsItem}
use Rattle.mmc.specs.Rp013Commands as P
use Rattle.mmc.specs.Split.{split_at, ItemPlace, Next, next, next_as, parts_of}
use Rattle.codes.specs.TimeCode.{standard_list, short_list, zeroed}
use Rattle.universal.specs.Emission.{Emission, sent, ◌then◌}
use Rattle.universal.specs.Message.{all_low}
use Rattle.universal.specs.Refusals.{Refusal, refusal, Answer, gives, refused}

-- ---- the bytes of items

-- An item by its name and data.
abbrev pub item : List ℕ → List ℕ → Item
item name d = record { name = name; «data» = d }

-- The rule that an item's name gives.
abbrev pub rule_of : Kind → Item → Length
rule_of kind x = length_of kind (last_of_name x.name)

-- Data by the rule, with the count byte before them where it asks for one.
abbrev pub with_count : Length → List ℕ → List ℕ
with_count (Fixed n) d = d
with_count Count d = length d ∷ d

-- The bytes of an item: its name, a count byte where the rule asks for one, its data.
unfoldable pub item_bytes : Kind → Item → List ℕ
item_bytes kind x = x.name ++ with_count (rule_of kind x) x.«data»

-- The bytes of items one after another.
unfoldable pub joined : Kind → List Item → List ℕ
joined kind [] = []
joined kind (x ∷ xs) = item_bytes kind x ++ joined kind xs

-- As many data as the rule says; with a count, any number.
abbrev pub data_fits : Length → List ℕ → Bool
data_fits (Fixed n) d = eqb n (length d)
data_fits Count d = true

-- A name that may be one, with data by its rule.
unfoldable pub item_fits : Kind → Item → Bool
item_fits kind x = name_fits x.name && data_fits (rule_of kind x) x.«data»

-- Each of the items fits.
unfoldable pub all_fit : Kind → List Item → Bool
all_fit kind [] = true
all_fit kind (x ∷ xs) = item_fits kind x && all_fit kind xs

-- The item named 00 00 00, which mmc.rs takes and RP-013 does not have.
abbrev pub zeros_item : Item
zeros_item = item (0 ∷ 0 ∷ 0 ∷ []) []

-- A name that ends with 00H: of the names that fit, only 00 00 00 does.
abbrev pub is_zeros : Item → Bool
is_zeros x = eqb (last_of_name x.name) 0

-- One of the items is named 00 00 00.
unfoldable pub any_zeros : List Item → Bool
any_zeros [] = false
any_zeros (x ∷ xs) = is_zeros x || any_zeros xs

-- Each of the items is one of the page, or the one named 00 00 00.
abbrev pub OfPageOrZeros : Kind → List Item → Type 0
OfPageOrZeros kind [] = Unit
OfPageOrZeros kind (x ∷ xs) = (IsItem kind x (item_bytes kind x) ⊎ (x ≡ zeros_item)) × OfPageOrZeros kind xs

-- ---- where items stand

-- How many bytes stand between name and data.
abbrev pub count_bytes : Length → ℕ
count_bytes (Fixed n) = 0
count_bytes Count = 1

-- Where the name and the data of an item stand that begins at a place.
abbrev pub item_place : Kind → ℕ → Item → ItemPlace
item_place kind place x =
    record {
      name = part place (length x.name);
      «data» = part (place + length x.name + count_bytes (rule_of kind x)) (length x.«data»);
    }

-- Where those of items stand that begin at a place, one after another.
unfoldable pub item_places : Kind → ℕ → List Item → List ItemPlace
item_places kind place [] = []
item_places kind place (x ∷ xs) = item_place kind place x ∷ item_places kind (place + length (item_bytes kind x)) xs

-- Each item read by its name and data, and by where they stand.
unfoldable pub read_as : {A : Type 0} → (List ℕ → List ℕ → ItemPlace → A) → Kind → ℕ → List Item → List A
read_as read kind place [] = []
read_as read kind place (x ∷ xs) =
    read x.name x.«data» (item_place kind place x) ∷ read_as read kind (place + length (item_bytes kind x)) xs

-- An item is found at a place: the splitter gives its parts there and the place after it, and the parts have its bytes.
pub record Found (kind : Kind) (body : List ℕ) (place : ℕ) (x : Item) : Type 0 where
  pub split : split_at kind body place
      ≡ parts_of (item_place kind place x).name (item_place kind place x).«data» (place + length (item_bytes kind x))
  pub name_bytes : part_of body (item_place kind place x).name ≡ x.name
  pub data_bytes : part_of body (item_place kind place x).«data» ≡ x.«data»

-- ---- the walk over a string

-- What a walk gave, and the refusal that ended it.
pub record Walk (A : Type 0) : Type 0 where
  pub items : List A
  pub stop : Refusal

-- What a read gives, before what the walk gives after it; nothing comes after a refusal.
abbrev pub before : {A : Type 0} → Answer A → Walk A → Walk A
before (gives a) rest = record { items = a ∷ rest.items; stop = rest.stop }
before (refused r) rest = record { items = []; stop = r }

-- Reads from a place until one is refused, at most so many; after the last of these it stops with 0, which no read gives.
unfoldable pub walk_from : {A : Type 0} → (ℕ → Next A) → ℕ → ℕ → Walk A
walk_from read zero place = record { items = []; stop = refusal 0 }
walk_from read (suc most) place = before (read place).answer (walk_from read most (read place).place)

-- As many reads as a string can have: one for each byte, and the one that is refused.
abbrev pub reads_of : List ℕ → ℕ
reads_of body = suc (length body)

-- The bytes of a name and data that were found.
abbrev pub item_at : List ℕ → ItemPlace → Item
item_at body l = item (part_of body l.name) (part_of body l.«data»)

-- A read at a place found an item and goes on after it: the item fits, lies where its bytes stand from the place on, and ends there.
pub record FoundThere (kind : Kind) (body : List ℕ) (place : ℕ) (l : ItemPlace) (after : ℕ) : Type 0 where
  pub fits : item_fits kind (item_at body l) ≡ true
  pub lies : l ≡ item_place kind place (item_at body l)
  pub goes_on : after ≡ place + length (item_bytes kind (item_at body l))

-- The items of a string from a place on.
unfoldable pub walk : Kind → List ℕ → ℕ → Walk Item
walk kind body place = walk_from (λ p. next_as (item_at body) (next kind body p)) (reads_of body) place

-- ---- commands and fields

-- What an item of a kind means: a command or a field.
abbrev pub Meaning : Kind → Type 0
Meaning Commands = MmcCommand
Meaning Fields = InfoField

-- What a name and data, which stand at two parts, are read as.
abbrev pub meaning : (kind : Kind) → List ℕ → List ℕ → ItemPlace → Meaning kind
meaning Commands name d l = command_of_case (read_command name d) l.name l.«data»
meaning Fields name d l = field_of_case (read_field name d) l.name l.«data»

-- What commands or fields the items are that begin at a place.
abbrev pub meanings : (kind : Kind) → ℕ → List Item → List (Meaning kind)
meanings kind place xs = read_as (meaning kind) kind place xs

-- What the items of a walk mean, which begin at a place.
abbrev pub walk_means : (kind : Kind) → ℕ → Walk Item → Walk (Meaning kind)
walk_means kind place w = record { items = meanings kind place w.items; stop = w.stop }

-- A walk goes on as another.
abbrev pub on_to : {A : Type 0} → Walk A → Walk A → Walk A
on_to v w = record { items = v.items ++ w.items; stop = w.stop }

-- The next command or field.
abbrev pub next_of : (kind : Kind) → List ℕ → ℕ → Next (Meaning kind)
next_of Commands body place = next_command body place
next_of Fields body place = next_field body place

-- The commands or fields of a string from a place on.
unfoldable pub read_from : (kind : Kind) → List ℕ → ℕ → Walk (Meaning kind)
read_from kind body place = walk_from (next_of kind body) (reads_of body) place

-- All commands of a string.
abbrev pub commands_read : List ℕ → Walk MmcCommand
commands_read body = read_from Commands body 0

-- All fields of a string.
abbrev pub fields_read : List ℕ → Walk InfoField
fields_read body = read_from Fields body 0

-- ---- what is written

-- A command as an item.
unfoldable pub command_pair : List ℕ → MmcCommand → Item
command_pair source C.Stop = item (P.byte_of P.Stop ∷ []) []
command_pair source C.Play = item (P.byte_of P.Play ∷ []) []
command_pair source C.DeferredPlay = item (P.byte_of P.DeferredPlay ∷ []) []
command_pair source C.FastForward = item (P.byte_of P.FastForward ∷ []) []
command_pair source C.Rewind = item (P.byte_of P.Rewind ∷ []) []
command_pair source C.RecordStrobe = item (P.byte_of P.RecordStrobe ∷ []) []
command_pair source C.RecordExit = item (P.byte_of P.RecordExit ∷ []) []
command_pair source C.Pause = item (P.byte_of P.Pause ∷ []) []
command_pair source C.Reset = item (P.byte_of P.MmcReset ∷ []) []
command_pair source (C.Write d) = item (P.byte_of P.Write ∷ []) (part_of source d)
command_pair source (C.LocateField r) = item (P.byte_of P.Locate ∷ []) (0 ∷ r ∷ [])
command_pair source (C.LocateTarget c) = item (P.byte_of P.Locate ∷ []) (1 ∷ standard_list c)
command_pair source (C.Move d s) = item (P.byte_of P.Move ∷ []) (d ∷ s ∷ [])
command_pair source (C.Other n d) = item (part_of source n) (part_of source d)

-- A field as an item.
unfoldable pub field_pair : List ℕ → InfoField → Item
field_pair source (F.TimeCode f c) = item (f ∷ []) (standard_list c)
field_pair source (F.Short f c) = item ((f + 32) ∷ []) (short_list c)
field_pair source (F.Other n d) = item (part_of source n) (part_of source d)

-- What holds of an accepted item: its bytes are those of its name and data, which fit; each is at most 7FH; there are at most
-- 131, a name of three, a count byte and 127.
pub record AcceptedItem (kind : Kind) (x : Item) (bytes : List ℕ) : Type 0 where
  pub are_item_bytes : bytes ≡ item_bytes kind x
  pub fits : item_fits kind x ≡ true
  pub low : all_low bytes ≡ true
  pub short : length bytes ≤ 131

-- A command or field as it is given to be written, with the lent source of its parts.
pub record Given (kind : Kind) : Type 0 where
  pub source : List ℕ
  pub meant : Meaning kind

-- It by its source and what is meant.
abbrev pub given : (kind : Kind) → List ℕ → Meaning kind → Given kind
given kind source meant = record { source = source; meant = meant }

-- Its name and data.
abbrev pub pair_of : (kind : Kind) → Given kind → Item
pair_of Commands g = command_pair g.source g.meant
pair_of Fields g = field_pair g.source g.meant

-- What it emits.
abbrev pub emission : (kind : Kind) → Given kind → Emission
emission Commands g = command_item g.source g.meant
emission Fields g = field_item g.source g.meant

-- What all of a list emit, up to the first refusal.
unfoldable pub emissions : (kind : Kind) → List (Given kind) → Emission
emissions kind [] = sent []
emissions kind (g ∷ gs) = emission kind g then emissions kind gs

-- Their names and data.
abbrev pub pairs_of : (kind : Kind) → List (Given kind) → List Item
pairs_of kind gs = map (pair_of kind) gs

-- What holds of the bytes of an accepted list: they are those of its items, which fit; each is at most 7FH; there are at most
-- 131 for each item.
pub record AcceptedItems (kind : Kind) (xs : List Item) (bytes : List ℕ) : Type 0 where
  pub are_item_bytes : bytes ≡ joined kind xs
  pub fits : all_fit kind xs ≡ true
  pub low : all_low bytes ≡ true
  pub short : length bytes ≤ 131 * length xs

-- ---- what comes back

-- The case that an accepted command comes back as: its own, with zeros for the label of a blank target; another command as
-- its name and data are read.
abbrev pub command_back : List ℕ → MmcCommand → CommandCase
command_back source C.Stop = stop
command_back source C.Play = play
command_back source C.DeferredPlay = deferred_play
command_back source C.FastForward = fast_forward
command_back source C.Rewind = rewind
command_back source C.RecordStrobe = record_strobe
command_back source C.RecordExit = record_exit
command_back source C.Pause = pause
command_back source C.Reset = reset
command_back source (C.Write d) = write
command_back source (C.LocateField r) = locate_field r
command_back source (C.LocateTarget c) = locate_target (zeroed c)
command_back source (C.Move d s) = move d s
command_back source (C.Other n d) = read_command (part_of source n) (part_of source d)

-- The case that an accepted field comes back as, likewise.
abbrev pub field_back : List ℕ → InfoField → FieldCase
field_back source (F.TimeCode f c) = time_code_field f (zeroed c)
field_back source (F.Short f c) = short_field f c
field_back source (F.Other n d) = read_field (part_of source n) (part_of source d)

-- What comes back, with its name and data at two parts.
abbrev pub back : (kind : Kind) → Given kind → ItemPlace → Meaning kind
back Commands g l = command_of_case (command_back g.source g.meant) l.name l.«data»
back Fields g l = field_of_case (field_back g.source g.meant) l.name l.«data»
