-- The version of the library as one number: 10,000 for each whole version, 100 for each minor one, and the patch. `make write-bindings`
-- makes this file from bindings/rust/Cargo.toml. Assumes nothing.
use Rattle.std.specs.Prelude.{ℕ, ◌+◌, ◌*◌}

-- 0.7.0
abbrev pub version : ℕ
version = 0 * 10000 + 7 * 100 + 0
