-- A word that was written reads back: as the same word, or as that of its zeros where it is a blank Locate. Assumes nothing.
use Rattle.std.specs.Prelude.{Option, Some, None}
use Prim.Native.Nat.{ℕ, ◌+◌, ◌%◌}
use mathlib.Core.Bool.{Bool, true, false, cond}
use mathlib.Core.List.{[], append-nil}
use mathlib.Core.Path.{◌≡◌, refl, sym, ap, subst, ◌∙◌}
use native.Mathlib.Omega.{arith}
use lib.Dec.{eqb, ltb}
use lib.ListN.{length}
use Rattle.mmc.specs.declared.command.MmcCommand.{MmcCommand}
use Rattle.mmc.specs.declared.command.MmcCommand.TheVariants.{Stop, Play, DeferredPlay, FastForward, Rewind, RecordStrobe, RecordExit, Pause, Reset, Write, LocateField, LocateTarget, Move, Other}
use Rattle.mmc.specs.declared.length.Kind.TheVariants.{Commands}
use Rattle.mmc.specs.Command.{next_command}
use Rattle.mmc.specs.Item.{command_item}
use Rattle.mmc.specs.declared.split.ItemPlace.{ItemPlace}
use Rattle.mmc.specs.Strings.{Given, given, AcceptedItem, back, item_bytes, item_place, pair_of}
use Rattle.mmc.proofs.StringLaws.{item_accepted, item_read, meaning_back}
use Rattle.universal.specs.Emission.{Emission}
use Rattle.universal.specs.Refusals.{gives}
use Rattle.fast_mmc.specs.Word.{plain_command, byte_at, word_code, said_command, if_word, word_command, word_item, option_item, command_word, next_word, answer_word}
use Rattle.fast_mmc.specs.Words.{as_read}
use Rattle.fast_mmc.proofs.CommandWords.{word_back}

-- ---- the command of a word has no parts

abbrev HasNoParts : MmcCommand → Type 0
HasNoParts Stop = Unit
HasNoParts Play = Unit
HasNoParts DeferredPlay = Unit
HasNoParts FastForward = Unit
HasNoParts Rewind = Unit
HasNoParts RecordStrobe = Unit
HasNoParts RecordExit = Unit
HasNoParts Pause = Unit
HasNoParts Reset = Unit
HasNoParts (Write d) = ⊥
HasNoParts (LocateField r) = Unit
HasNoParts (LocateTarget c) = Unit
HasNoParts (Move a b) = Unit
HasNoParts (Other n d) = ⊥

abbrev NoneHasParts : Option MmcCommand → Type 0
NoneHasParts None = Unit
NoneHasParts (Some c) = HasNoParts c

plain_no_parts : (n : ℕ) → HasNoParts (plain_command n)
unfolding plain_command
plain_no_parts n = go (eqb n 0) (eqb n 1) (eqb n 2) (eqb n 3) (eqb n 4) (eqb n 5) (eqb n 6) (eqb n 7)
  where
    go : (a b c d e f g h : Bool)
        → HasNoParts (cond a Stop (cond b Play (cond c DeferredPlay (cond d FastForward (cond e Rewind (cond f RecordStrobe (cond g RecordExit (cond h Pause Reset))))))))
    go true b c d e f g h = tt
    go false true c d e f g h = tt
    go false false true d e f g h = tt
    go false false false true e f g h = tt
    go false false false false true f g h = tt
    go false false false false false true g h = tt
    go false false false false false false true h = tt
    go false false false false false false false true = tt
    go false false false false false false false false = tt

said_no_parts : (w : ℕ) → NoneHasParts (said_command w)
unfolding said_command
said_no_parts w = go (ltb (w % 256) 9) (eqb (w % 256) 10) (eqb (w % 256) 11) (eqb (w % 256) 12)
  where
    go : (a b c d : Bool)
        → NoneHasParts (cond a (Some (plain_command (w % 256)))
        (cond b (Some (LocateField (byte_at 256 w)))
        (cond c (Some (LocateTarget (word_code w))) (cond d (Some (Move (byte_at 256 w) (byte_at 65536 w))) None))))
    go true b c d = plain_no_parts (w % 256)
    go false true c d = tt
    go false false true d = tt
    go false false false true = tt
    go false false false false = tt

word_no_parts : (w : ℕ) → NoneHasParts (word_command w)
unfolding word_command
word_no_parts w = go (said_command w) (said_no_parts w)
  where
    go : (o : Option MmcCommand) → NoneHasParts o → NoneHasParts (if_word w o)
    go None h = tt
    go (Some c) h = kept (eqb (command_word c) w)
      where
        kept : (b : Bool) → NoneHasParts (cond b (Some c) None)
        kept true = h
        kept false = tt

-- ---- what is read

-- A command without parts comes back as it is, but for a blank target's zeros.
back_as_read : (c : MmcCommand) (l : ItemPlace) → HasNoParts c → back Commands (given Commands [] c) l ≡ as_read c
back_as_read Stop l h = refl
back_as_read Play l h = refl
back_as_read DeferredPlay l h = refl
back_as_read FastForward l h = refl
back_as_read Rewind l h = refl
back_as_read RecordStrobe l h = refl
back_as_read RecordExit l h = refl
back_as_read Pause l h = refl
back_as_read Reset l h = refl
back_as_read (Write d) l h = absurd h
back_as_read (LocateField r) l h = refl
back_as_read (LocateTarget c) l h = refl
back_as_read (Move a b) l h = refl
back_as_read (Other n d) l h = absurd h

command_reads_back : (c : MmcCommand) → HasNoParts c → (command_item [] c).stop ≡ None
    → next_command (command_item [] c).bytes 0 ≡ record { answer = gives (as_read c); place = length (command_item [] c).bytes }
command_reads_back c p h =
    let g : Given Commands = given Commands [] c in
    let s : AcceptedItem Commands (pair_of Commands g) (command_item [] c).bytes = item_accepted Commands g h in
    let l : ItemPlace = item_place Commands 0 (pair_of Commands g) in
    let long : ℕ = 0 + length (item_bytes Commands (pair_of Commands g)) in
    let whole : 0 + length (item_bytes Commands (pair_of Commands g)) ≡ length (command_item [] c).bytes = omega (arith, ap length s.are_item_bytes) in
    item_read Commands (command_item [] c).bytes [] (pair_of Commands g) [] 0 s.fits (s.are_item_bytes ∙ sym (append-nil _)) refl
    ∙ ap (λ (m : MmcCommand). record { answer = gives m; place = long }) (meaning_back Commands g h l ∙ back_as_read c l p)
    ∙ ap (λ (n : ℕ). record { answer = gives (as_read c); place = n }) whole

-- ---- the laws

-- Of a word that is accepted, the bytes read back as the word of its command, with zeros where that is blank, and to their end.
pub word_reads_back : (w : ℕ) (c : MmcCommand) → word_command w ≡ Some c → (word_item w).stop ≡ None
    → next_word (next_command (word_item w).bytes 0) ≡ record { word = command_word (as_read c); place = length (word_item w).bytes }
unfolding word_item next_word answer_word
word_reads_back w c e h =
    let i : word_item w ≡ command_item [] c = ap option_item e in
    let p : HasNoParts c = subst NoneHasParts e (word_no_parts w) in
    let k = command_reads_back c p (ap (λ (x : Emission). x.stop) (sym i) ∙ h) in
    ap (λ (x : Emission). next_word (next_command x.bytes 0)) i
    ∙ ap next_word k
    ∙ ap (λ (x : Emission). record { word = command_word (as_read c); place = length x.bytes }) (sym i)

-- A command that a read gives back as it was reads back as the same word.
pub same_word_back : (w : ℕ) (c : MmcCommand) → word_command w ≡ Some c → as_read c ≡ c → (word_item w).stop ≡ None
    → next_word (next_command (word_item w).bytes 0) ≡ record { word = w; place = length (word_item w).bytes }
same_word_back w c e z h =
    word_reads_back w c e h
    ∙ ap (λ (n : ℕ). record { word = n; place = length (word_item w).bytes }) (ap command_word z ∙ word_back w c e)
