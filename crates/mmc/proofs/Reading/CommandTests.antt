-- Reading a command, test by test. Assumes nothing.
use Prim.Native.Nat.{ℕ, ◌≤◌, ◌<◌}
use mathlib.Core.Path.{◌≡◌, refl, sym, ap, ◌∙◌}
use mathlib.Core.List.{List}
use borrow.Author.Tests.{lt-ltb, le-ltb, ne_eqb}
use lib.ListN.{length, get_or}
use Rattle.mmc.specs.declared.command.MmcCommand.TheVariants.{LocateField, LocateTarget, Move, Other}
use Rattle.mmc.specs.declared.part.Part.{Part}
use Rattle.mmc.specs.Command.{CommandCase, other, read_locate, read_move, command_by_name, read_command, command_of_case}
use Rattle.codes.specs.TimeCode.{read_standard}

module _ (d : List ℕ) (n a : Part) where
  -- ---- locate

  pub locate_short : length d < 2 → Other n a ≡ command_of_case (read_locate d) n a
  unfolding read_locate
  locate_short h = rw (lt-ltb (length d) 2 h)

  pub locate_no_register : 2 ≤ length d → get_or d 0 0 ≡ 0 → get_or d 1 0 ≡ 0 → Other n a ≡ command_of_case (read_locate d) n a
  unfolding read_locate
  locate_no_register h e z = rw (le-ltb (length d) 2 h, e, z)

  pub locate_register : 2 ≤ length d → get_or d 0 0 ≡ 0 → (get_or d 1 0 ≡ 0 → ⊥)
      → LocateField (get_or d 1 0) ≡ command_of_case (read_locate d) n a
  unfolding read_locate
  locate_register h e z = rw (le-ltb (length d) 2 h, e, ne_eqb (get_or d 1 0) 0 z)

  pub locate_unknown : 2 ≤ length d → (get_or d 0 0 ≡ 0 → ⊥) → (get_or d 0 0 ≡ 1 → ⊥) → Other n a ≡ command_of_case (read_locate d) n a
  unfolding read_locate
  locate_unknown h e z = rw (le-ltb (length d) 2 h, ne_eqb (get_or d 0 0) 0 e, ne_eqb (get_or d 0 0) 1 z)

  pub locate_cut : 2 ≤ length d → get_or d 0 0 ≡ 1 → length d < 6 → Other n a ≡ command_of_case (read_locate d) n a
  unfolding read_locate
  locate_cut h e l = rw (le-ltb (length d) 2 h, e, lt-ltb (length d) 6 l)

  pub locate_to_time : 2 ≤ length d → get_or d 0 0 ≡ 1 → 6 ≤ length d
      → LocateTarget (read_standard (get_or d 1 0) (get_or d 2 0) (get_or d 3 0) (get_or d 4 0) (get_or d 5 0)) ≡ command_of_case (read_locate d) n a
  unfolding read_locate
  locate_to_time h e l = rw (le-ltb (length d) 2 h, e, le-ltb (length d) 6 l)

  -- ---- move

  pub move_short : length d < 2 → Other n a ≡ command_of_case (read_move d) n a
  unfolding read_move
  move_short h = rw (lt-ltb (length d) 2 h)

  pub move_no_destination : 2 ≤ length d → get_or d 0 0 ≡ 0 → Other n a ≡ command_of_case (read_move d) n a
  unfolding read_move
  move_no_destination h e = rw (le-ltb (length d) 2 h, e)

  pub move_no_source : 2 ≤ length d → (get_or d 0 0 ≡ 0 → ⊥) → get_or d 1 0 ≡ 0 → Other n a ≡ command_of_case (read_move d) n a
  unfolding read_move
  move_no_source h e z = rw (le-ltb (length d) 2 h, ne_eqb (get_or d 0 0) 0 e, z)

  pub move_both : 2 ≤ length d → (get_or d 0 0 ≡ 0 → ⊥) → (get_or d 1 0 ≡ 0 → ⊥)
      → Move (get_or d 0 0) (get_or d 1 0) ≡ command_of_case (read_move d) n a
  unfolding read_move
  move_both h e z = rw (le-ltb (length d) 2 h, ne_eqb (get_or d 0 0) 0 e, ne_eqb (get_or d 1 0) 0 z)

  -- ---- by name

  pub long_name : (name : List ℕ) → (length name ≡ 1 → ⊥) → Other n a ≡ command_of_case (read_command name d) n a
  unfolding read_command
  long_name name h = rw (ne_eqb (length name) 1 h)

  pub by_byte : (name : List ℕ) (k : ℕ) → length name ≡ 1 → get_or name 0 0 ≡ k
      → command_of_case (command_by_name k d) n a ≡ command_of_case (read_command name d) n a
  unfolding read_command
  by_byte name k l e = rw (l, e)

  -- None of the known names.
  abbrev pub Unknown : ℕ → Type 0
  Unknown x =
      (((((((((((Unit {0} × (x ≡ 1 → ⊥)) × (x ≡ 2 → ⊥)) × (x ≡ 3 → ⊥)) × (x ≡ 4 → ⊥)) × (x ≡ 5 → ⊥)) × (x ≡ 6 → ⊥)) × (x ≡ 7 → ⊥))
      × (x ≡ 9 → ⊥)) × (x ≡ 13 → ⊥)) × (x ≡ 64 → ⊥)) × (x ≡ 68 → ⊥)) × (x ≡ 76 → ⊥)

  pub unknown_byte : (x : ℕ) → Unknown x → command_by_name x d ≡ other
  unfolding command_by_name
  unknown_byte x u =
      rw (
        ne_eqb x 76 u.1,
        ne_eqb x 68 u.0.1,
        ne_eqb x 64 u.0.0.1,
        ne_eqb x 13 u.0.0.0.1,
        ne_eqb x 9 u.0.0.0.0.1,
        ne_eqb x 7 u.0.0.0.0.0.1,
        ne_eqb x 6 u.0.0.0.0.0.0.1,
        ne_eqb x 5 u.0.0.0.0.0.0.0.1,
        ne_eqb x 4 u.0.0.0.0.0.0.0.0.1,
        ne_eqb x 3 u.0.0.0.0.0.0.0.0.0.1,
        ne_eqb x 2 u.0.0.0.0.0.0.0.0.0.0.1,
        ne_eqb x 1 u.0.0.0.0.0.0.0.0.0.0.0.1,
      )

  pub unknown_name : (name : List ℕ) → length name ≡ 1 → Unknown (get_or name 0 0) → Other n a ≡ command_of_case (read_command name d) n a
  unknown_name name l u =
      sym (ap (λ (k : CommandCase). command_of_case k n a) (unknown_byte (get_or name 0 0) u)) ∙ by_byte name (get_or name 0 0) l refl
