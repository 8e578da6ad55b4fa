-- What decides in a reader, together with the bytes that led there: no piece held; one piece and no direction; or the first
-- k + 1 pieces of a direction. Every call keeps the shape, and after the first byte of a stream one of three is left.
-- Assumes nothing.
use Rattle.mtc.specs.declared.reader.MtcSequence.{MtcSequence}
use Rattle.std.specs.Prelude.{Option, Some, None}
use Prim.Native.Nat.{ℕ, zero, suc, ◌+◌, ◌-◌, ◌<◌}
use mathlib.Core.Bool.{Bool, true, false, cond, ◌||◌, false≢true}
use mathlib.Core.List.{List, [], ◌∷◌, map}
use mathlib.Core.Logic.{◌⊎◌, inl, inr}
use mathlib.Core.Path.{◌≡◌, refl, sym, ◌∙◌, ap, ap₂, subst, subst₂}
use native.Mathlib.Nat.{eq-or-lt_of_le}
use native.Mathlib.Omega.{arith}
use borrow.Author.Tests.{eqb-true, eqb-false, ne_eqb}
use lib.Dec.{T, eqb, ltb, eqb→eq}
use lib.ListN.{take, set}
use Rattle.mtc.specs.Generator.{first, after, opposite}
use Rattle.mtc.specs.QuarterFrame.{piece_of}
use Rattle.mtc.specs.Reader.{Standing, control, direction_between, out_of_order, order_of, starts, number_after, number_of, stored, reader_by_number, report_by_number, after_piece, report_of}
use Rattle.mtc.specs.declared.generator.Direction.{Direction}
use Rattle.mtc.specs.declared.generator.Direction.TheVariants.{Forward, Reverse}
use Rattle.mtc.specs.declared.reader.MtcReader.{MtcReader}
use Rattle.mtc.proofs.ReaderCalls.{below_suc, both_r, order_second, order_next, order_turned}

-- ---- directions

-- The pieces of a direction by their place, 0 to 7.
abbrev pub nth_piece : Direction → ℕ → ℕ
nth_piece Forward k = k
nth_piece Reverse k = 7 - k

-- The first k pieces of a direction, the newest first.
abbrev pub history : Direction → ℕ → List ℕ
history d zero = []
history d (suc k) = nth_piece d k ∷ history d k

same_first : (d e : Direction) → first d ≡ first e → d ≡ e
same_first Forward Forward h = refl
same_first Forward Reverse h = absurd (omega arith)
same_first Reverse Forward h = absurd (omega arith)
same_first Reverse Reverse h = refl

other_first : (d e : Direction) → (first d ≡ first e → ⊥) → e ≡ opposite d
other_first Forward Forward h = absurd (h refl)
other_first Forward Reverse h = refl
other_first Reverse Forward h = refl
other_first Reverse Reverse h = absurd (h refl)

piece_after : (d : Direction) (k : ℕ) → k < 7 → after d (nth_piece d k) ≡ nth_piece d (suc k)
piece_after Forward k h = omega arith
piece_after Reverse k h = omega arith

-- ---- shapes

pub data Shape (bs : List ℕ) (r : MtcReader) : Type 0 where
  idle : r.count ≡ 0 → Shape bs r
  one_piece : (d : Direction) → r.count ≡ 1 → r.first ≡ first d → r.last ≡ Some (first d) → r.direction ≡ None
      → map piece_of (take 1 bs) ≡ history d 1 → Shape bs r
  going : (d : Direction) (k : ℕ) → k < 7 → r.count ≡ suc k → r.last ≡ Some (nth_piece d k) → r.direction ≡ Some d
      → map piece_of (take (suc k) bs) ≡ history d (suc k) → Shape bs r

-- ---- a piece that is the next one

between_after : (l p : ℕ) (f : Direction) → direction_between l p ≡ Some f → after f l ≡ p
between_after l p f = go (eqb (after Forward l) p) (eqb (after Reverse l) p) refl refl
  where
    go : (x y : Bool) → eqb (after Forward l) p ≡ x → eqb (after Reverse l) p ≡ y
        → cond x (Some Forward) (cond y (Some Reverse) None) ≡ Some f → after f l ≡ p
    go true y ex ey e =
        let i : Forward ≡ f = cc in subst (λ (x : Direction). after x l ≡ p) i (eqb-true (after Forward l) p ex)
    go false true ex ey e =
        let i : Reverse ≡ f = cc in subst (λ (x : Direction). after x l ≡ p) i (eqb-true (after Reverse l) p ey)
    go false false ex ey e = let z : ◌≡◌ {A = ℕ} 0 1 = cc in absurd (omega arith)

-- The second piece goes on only where the first one was its direction's first.
second_next : (r : MtcReader) (x : Option Direction) → (out_of_order (control r) None x).next ≡ true
    → (f : Direction) × (x ≡ Some f) × (r.first ≡ first f)
second_next r None e = absurd (false≢true e)
second_next r (Some f) e =
    (f, refl, eqb→eq r.first (first f) (both_r (ltb 0 r.count) (eqb r.first (first f)) (subst T (sym e) tt)))

-- A piece that is the next one, after k + 1 others of its direction.
record NextInDirection (bs : List ℕ) (r : MtcReader) (p : ℕ) : Type 0 where
  way : Direction
  number : ℕ
  few : number < 7
  count : r.count ≡ suc number
  direction : (order_of (control r) p).direction ≡ Some way
  piece : p ≡ nth_piece way (suc number)
  before : map piece_of (take (suc number) bs) ≡ history way (suc number)

-- Out of order in a direction is never next.
turned_next : (r : MtcReader) (d : Direction) (x : Option Direction) → (out_of_order (control r) (Some d) x).next ≡ false
turned_next r d None = refl
turned_next r d (Some f) = refl

second_piece : (d : Direction) → after d (first d) ≡ nth_piece d 1
second_piece Forward = refl
second_piece Reverse = refl

module _ (bs : List ℕ) (r : MtcReader) (p : ℕ) where
  one_next : (d : Direction) → r.count ≡ 1 → r.first ≡ first d → r.last ≡ Some (first d) → r.direction ≡ None
      → map piece_of (take 1 bs) ≡ history d 1 → (order_of (control r) p).next ≡ true → NextInDirection bs r p
  one_next d c f l n h e =
      let x = direction_between (first d) p in
      let q : out_of_order (control r) None x ≡ order_of (control r) p =
      ap (λ (m : Option Direction). out_of_order (control r) m x) (sym n) ∙ order_second (control r) p l refl n in
      let s = second_next r x (ap (λ (o : Standing). o.next) q ∙ e) in
      let same : s.0 ≡ d = same_first s.0 d (sym s.2 ∙ f) in
      record {
        way = d;
        number = 0;
        few = omega arith;
        count = c;
        direction =
            sym (ap (λ (o : Standing). o.direction) q)
            ∙ ap (λ (m : Option Direction). (out_of_order (control r) None m).direction) s.1
            ∙ ap Some same;
        piece =
            sym (between_after (first d) p s.0 s.1) ∙ ap (λ (y : Direction). after y (first d)) same ∙ second_piece d;
        before = h;
      }

  going_next : (d : Direction) (k : ℕ) → k < 7 → r.count ≡ suc k → r.last ≡ Some (nth_piece d k) → r.direction ≡ Some d
      → map piece_of (take (suc k) bs) ≡ history d (suc k) → (order_of (control r) p).next ≡ true → NextInDirection bs r p
  going_next d k s c l n h e = go (eqb (after d (nth_piece d k)) p) refl
    where
      go : (x : Bool) → eqb (after d (nth_piece d k)) p ≡ x → NextInDirection bs r p
      go true i =
          record {
            way = d;
            number = k;
            few = s;
            count = c;
            direction = sym (ap (λ (o : Standing). o.direction) (order_next (control r) p l n (eqb-true _ p i)));
            piece = sym (eqb-true _ p i) ∙ piece_after d k s;
            before = h;
          }
      go false i =
          absurd
          (false≢true
          (sym (turned_next r d (direction_between (nth_piece d k) p))
          ∙ ap (λ (o : Standing). o.next) (order_turned (control r) p l refl n (eqb-false _ p i))
          ∙ e))

  follows : Shape bs r → (r.count ≡ 0 → ⊥) → (order_of (control r) p).next ≡ true → NextInDirection bs r p
  follows (idle c) z e = absurd (z c)
  follows (one_piece d c f l n h) z e = one_next d c f l n h e
  follows (going d k s c l n h) z e = going_next d k s c l n h e

-- ---- a piece's number

-- 0, where it starts nothing; 1, where it starts a sequence; or one more than those held, where it is the next one.
pub data Number (next : Bool) (count : ℕ) (begins : Bool) (n : ℕ) : Type 0 where
  none_begun : n ≡ 0 → begins ≡ false → Number next count begins n
  begins_one : n ≡ 1 → begins ≡ true → Number next count begins n
  next_one : next ≡ true → (count ≡ 0 → ⊥) → n ≡ count + 1 → Number next count begins n

pub number_cases : (next : Bool) (count : ℕ) (begins : Bool) → Number next count begins (number_after (cond next count 0) begins)
number_cases false c true = begins_one refl refl
number_cases false c false = none_begun refl refl
number_cases true zero true = begins_one refl refl
number_cases true zero false = none_begun refl refl
number_cases true (suc c) b = next_one refl (λ e. omega arith) (rw (ne_eqb (suc c) 0 (λ e. omega arith)))

stored_by_number : (r : MtcReader) (o : Standing) (n p v : ℕ) → (n ≡ 0 → ⊥) → (n ≡ 8 → ⊥) → reader_by_number r o n p v ≡ stored r o n p v
stored_by_number r o n p v y z = rw (ne_eqb n 0 y, ne_eqb n 8 z)

-- ---- every call keeps the shape

pub first_piece : (d : Direction) → first d ≡ nth_piece d 0
first_piece Forward = refl
first_piece Reverse = refl

-- Without a direction a sequence starts at the first piece of either.
start : (p : ℕ) → starts None p ≡ true → (d : Direction) × (p ≡ first d)
start p = go (eqb p 0) refl
  where
    go : (x : Bool) → eqb p 0 ≡ x → (x || eqb p 7) ≡ true → (d : Direction) × (p ≡ first d)
    go true e h = (Forward, eqb-true p 0 e)
    go false e h = (Reverse, eqb-true p 7 h)

module _ (bs : List ℕ) (b : ℕ) (s : MtcReader) where
  started_shape : (m : Option Direction) → starts m (piece_of b) ≡ true → s.count ≡ 1 → s.first ≡ piece_of b
      → s.last ≡ Some (piece_of b) → s.direction ≡ m → Shape (b ∷ bs) s
  started_shape None e c f l n =
      let w = start (piece_of b) e in
      let i : piece_of b ≡ nth_piece w.0 0 = w.1 ∙ first_piece w.0 in
      one_piece w.0 c (f ∙ w.1) (l ∙ ap Some w.1) n (ap (λ (x : ℕ). x ∷ []) i)
  started_shape (Some d) e c f l n =
      let i : piece_of b ≡ nth_piece d 0 = eqb-true (piece_of b) (first d) e ∙ first_piece d in
      going d 0 (omega arith) c (l ∙ ap Some i) n (ap (λ (x : ℕ). x ∷ []) i)

module _ (bs : List ℕ) (r : MtcReader) (h : Shape bs r) (b v : ℕ) where
  o : Standing
  o = order_of (control r) (piece_of b)

  -- The reader by a piece's number.
  By : ℕ → Type 0
  By n = Shape (b ∷ bs) (reader_by_number r o n (piece_of b) v)

  next_shape : (n : ℕ) → n ≡ r.count + 1 → NextInDirection bs r (piece_of b) → By n
  unfolding By o
  next_shape n e w = go (eq-or-lt_of_le (below_suc w.few))
    where
      go : (w.number ≡ 6) ⊎ (w.number < 6) → Shape (b ∷ bs) (reader_by_number r (order_of (control r) (piece_of b)) n (piece_of b) v)
      go (inl i) =
          let eight : n ≡ 8 = omega (arith, e, w.count, i) in
          subst (λ (k : ℕ). Shape (b ∷ bs) (reader_by_number r (order_of (control r) (piece_of b)) k (piece_of b) v)) (sym eight) (idle refl)
      go (inr l) =
          let y : n ≡ suc (suc w.number) = omega (arith, e, w.count) in
          rw (stored_by_number r (order_of (control r) (piece_of b)) n (piece_of b) v (λ q. omega arith) (λ q. omega arith))
          (going w.way (suc w.number) (omega arith) (omega arith) (ap Some w.piece) w.direction
          (ap₂ ◌∷◌ w.piece w.before))

  pub piece_shape : Shape (b ∷ bs) (after_piece r (piece_of b) v)
  unfolding after_piece number_of By o
  piece_shape = go _ (number_cases o.next r.count (starts o.direction (piece_of b)))
    where
      go : (n : ℕ) → Number o.next r.count (starts o.direction (piece_of b)) n → By n
      go n (none_begun e z) = subst By (sym e) (idle refl)
      go n (begins_one e z) =
          subst By (sym e)
          (started_shape bs b (stored r o 1 (piece_of b) v) o.direction z refl refl refl refl)
      go n (next_one x z e) = next_shape n e (follows bs r (piece_of b) h z x)

-- ---- the first byte of a stream

-- It starts a sequence, in its direction or with none known yet; or the reader still goes the other way, and holds nothing.
pub data Begun (d : Direction) (n : List ℕ) (s : MtcReader) : Type 0 where
  begun_held : (m : Option Direction) → (m ≡ None) ⊎ (m ≡ Some d) → s.nibbles ≡ n → s.count ≡ 1 → s.first ≡ first d
      → s.last ≡ Some (first d) → s.direction ≡ m → Begun d n s
  begun_turning : s.count ≡ 0 → s.last ≡ Some (first d) → s.direction ≡ Some (opposite d) → Begun d n s

-- What it reports: nothing, unless the bytes before were the other direction's first seven pieces.
abbrev pub Quiet : Direction → List ℕ → Option MtcSequence → Type 0
Quiet d bs s = (s ≡ None) ⊎ (map piece_of (take 7 bs) ≡ history (opposite d) 7)

no_start : (d : Direction) (m : Option Direction) → starts m (first d) ≡ false → m ≡ Some (opposite d)
no_start Forward None e = absurd (false≢true (sym e))
no_start Reverse None e = absurd (false≢true (sym e))
no_start d (Some f) e = ap Some (other_first d f (eqb-false (first d) (first f) e))

pub a_start : (d : Direction) (m : Option Direction) → starts m (first d) ≡ true → (m ≡ None) ⊎ (m ≡ Some d)
a_start d None e = inl refl
a_start d (Some f) e = inr (ap Some (sym (same_first d f (eqb-true (first d) (first f) e))))

-- A direction's first piece is the next one only as the other direction's last.
last_piece : (d e : Direction) (k : ℕ) → k < 7 → first d ≡ nth_piece e (suc k) → (e ≡ opposite d) × (k ≡ 6)
last_piece Forward Forward k l h = absurd (omega arith)
last_piece Forward Reverse k l h = (refl, omega arith)
last_piece Reverse Forward k l h = (refl, omega arith)
last_piece Reverse Reverse k l h = absurd (omega arith)

module _ (bs : List ℕ) (r : MtcReader) (h : Shape bs r) (d : Direction) (v : ℕ) where
  x : Standing
  x = order_of (control r) (first d)

  First : ℕ → Type 0
  First n = Begun d (set r.nibbles (first d) v) (reader_by_number r x n (first d) v) × Quiet d bs (report_by_number r x n (first d) v)

  ended : (n : ℕ) → n ≡ r.count + 1 → NextInDirection bs r (first d) → First n
  unfolding First x
  ended n e w =
      let q = last_piece d w.way w.number w.few w.piece in
      let eight : n ≡ 8 = omega (arith, e, w.count, q.1) in
      rw eight (
        begun_turning refl refl (w.direction ∙ ap Some q.0),
        inr (subst₂ (λ (k : ℕ) (f : Direction). map piece_of (take (suc k) bs) ≡ history f (suc k)) q.1 q.0 w.before),
      )

  pub first_byte : Begun d (set r.nibbles (first d) v) (after_piece r (first d) v) × Quiet d bs (report_of r (first d) v)
  unfolding after_piece report_of number_of First x
  first_byte = go _ (number_cases x.next r.count (starts x.direction (first d)))
    where
      go : (n : ℕ) → Number x.next r.count (starts x.direction (first d)) n → First n
      go n (none_begun e z) = subst First (sym e) (begun_turning refl refl (no_start d x.direction z), inl refl)
      go n (begins_one e z) = subst First (sym e) (begun_held x.direction (a_start d x.direction z) refl refl refl refl refl, inl refl)
      go n (next_one y z e) = ended n e (follows bs r (first d) h z y)
