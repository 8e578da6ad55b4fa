-- What a run leaves: the commands read, applied one by one. Assumes nothing.
use Rattle.std.specs.Prelude.{Option, Some, None}
use Prim.Native.Nat.{ℕ, zero, suc, ◌≤◌}
use mathlib.Core.Path.{◌≡◌, refl, sym, ap, ◌∙◌}
use mathlib.Core.Bool.{Bool, true, false, cond, ◌&&◌}
use mathlib.Core.List.{List, [], ◌∷◌, ◌++◌, append-nil}
use native.Mathlib.Omega.{arith}
use lib.Dec.{leb}
use lib.ListN.{length}
use Rattle.mmc.specs.declared.command.MmcCommand.{MmcCommand}
use Rattle.mmc.specs.declared.command.MmcCommand.TheVariants.{Stop, Play, DeferredPlay, FastForward, Rewind, RecordStrobe, RecordExit, Pause, Reset, Write, LocateField, LocateTarget, Move, Other}
use Rattle.mmc.specs.declared.length.Kind.TheVariants.{Commands}
use Rattle.codes.specs.declared.time_code.StandardTimeCode.{StandardTimeCode}
use Rattle.mmc.specs.Command.{next_command}
use Rattle.mmc.specs.Strings.{Walk, before, walk, walk_from, walk_means, on_to, next_of, reads_of, commands_read}
use Rattle.mmc.proofs.StringLaws.{walk_none, walk_more, read_from_lem, read_joined, read_after, meanings_none}
use Rattle.mtc.specs.Stream.{run_from}
use Rattle.mtc.specs.declared.generator.Direction.TheVariants.{Forward}
use Rattle.mtc.specs.declared.generator.MtcGenerator.{MtcGenerator}
use Rattle.labels.specs.declared.time.MtcTime.{MtcTime}
use Rattle.universal.specs.Message.{is_addressed}
use Rattle.universal.specs.Refusals.{Refusal, refusal, Answer, gives, refused}
use Rattle.transport.specs.Transport.{NotMine, Outcome, resolved, unchanged, locate_outcome, acted, applied}
use Rattle.transport.specs.Demand3.{Run, answered, on_read, obey_from, applied_all, answers_to, applied_walk, ReadActs, CutActs, RefusedPasses}
use Rattle.transport.proofs.Acting.{mine}

-- ---- a run is the walk's commands, applied one by one

-- One read.
step : (device own : ℕ) (a : Answer MmcCommand) (rest : MtcGenerator → Run) (w : Walk MmcCommand) (g : MtcGenerator)
    → ((h : MtcGenerator) → rest h ≡ applied_walk device own h w)
    → on_read a (λ c. answered (applied g device own c) (rest (applied g device own c).generator)) g
    ≡ applied_walk device own g (before a w)
unfolding applied_all answers_to
step device own (gives c) rest w g h = ap (answered (applied g device own c)) (h (applied g device own c).generator)
step device own (refused r) rest w g h = refl

-- All of them.
obey_walk : (most : ℕ) (body : List ℕ) (device own place : ℕ) (g : MtcGenerator)
    → obey_from most body device own place g ≡ applied_walk device own g (walk_from (next_of Commands body) most place)
unfolding obey_from applied_all answers_to
obey_walk zero body device own place g = ap (applied_walk device own g) (sym (walk_none (next_of Commands body) place))
obey_walk (suc most) body device own place g =
    step device own (next_command body place).answer (obey_from most body device own (next_command body place).place)
    (walk_from (next_of Commands body) most (next_command body place).place) g
    (obey_walk most body device own (next_command body place).place)
    ∙ ap (applied_walk device own g) (sym (walk_more (next_of Commands body) most place))

-- A run that may read once more.
pub obey_more : (most : ℕ) (body : List ℕ) (device own place : ℕ) (g : MtcGenerator)
    → obey_from (suc most) body device own place g
    ≡ on_read (next_command body place).answer
    (λ c.
    answered (applied g device own c)
    (obey_from most body device own (next_command body place).place (applied g device own c).generator)) g
unfolding obey_from
obey_more most body device own place g = refl

-- Any data: the commands read have acted.
pub read_acts : ReadActs
read_acts body device own g =
    obey_walk (reads_of body) body device own 0 g ∙ ap (applied_walk device own g) (sym (read_from_lem Commands body 0))

-- ---- before a cut

-- Data that is read to its end, and then bytes that cannot be split: the commands are those of the first.
cut_read : (a b : List ℕ) → (commands_read a).stop ≡ refusal 9 → walk Commands b 0 ≡ record { items = []; stop = refusal 2 }
    → commands_read (a ++ b) ≡ on_to (commands_read a) (record { items = []; stop = refusal 2 })
cut_read a b h k =
    read_joined Commands a b h
    ∙ ap (on_to (commands_read a))
    (read_after Commands a b
    ∙ ap (walk_means Commands (length a)) k
    ∙ ap (λ (l : List MmcCommand). record { items = l; stop = refusal 2 }) (meanings_none Commands (length a)))

pub cut_acts : CutActs
cut_acts a b device own g h k =
    read_acts (a ++ b) device own g
    ∙ ap (applied_walk device own g) (cut_read a b h k)
    ∙ ap (λ (l : List MmcCommand). applied_walk device own g (record { items = l; stop = refusal 2 })) (append-nil (commands_read a).items)
    ∙ ap (λ (q : Run). record { generator = q.generator; answers = q.answers; stop = refusal 2 }) (sym (read_acts a device own g))

-- ---- refused commands

-- A target that resolves to none, or to a label.
refused_locate : (g : MtcGenerator) (t : Option MtcTime) (r : Refusal) → (locate_outcome g t).answer ≡ refused r → (locate_outcome g t).generator ≡ g
refused_locate g (Some t) r h = let z : ◌≡◌ {A = ℕ} 0 1 = cc in absurd (omega arith)
refused_locate g None r h = refl

-- A command that is refused leaves the generator.
refused_acted : (g : MtcGenerator) (c : MmcCommand) (r : Refusal) → (acted g c).answer ≡ refused r → (acted g c).generator ≡ g
unfolding acted
refused_acted g (LocateTarget c) r h = refused_locate g (resolved c) r h
refused_acted g Stop r h = let z : ◌≡◌ {A = ℕ} 0 1 = cc in absurd (omega arith)
refused_acted g Play r h = let z : ◌≡◌ {A = ℕ} 0 1 = cc in absurd (omega arith)
refused_acted g DeferredPlay r h = let z : ◌≡◌ {A = ℕ} 0 1 = cc in absurd (omega arith)
refused_acted g FastForward r h = refl
refused_acted g Rewind r h = refl
refused_acted g RecordStrobe r h = refl
refused_acted g RecordExit r h = refl
refused_acted g Pause r h = let z : ◌≡◌ {A = ℕ} 0 1 = cc in absurd (omega arith)
refused_acted g Reset r h = refl
refused_acted g (Write d) r h = refl
refused_acted g (LocateField n) r h = refl
refused_acted g (Move d s) r h = refl
refused_acted g (Other n d) r h = refl

pub refused_unchanged : (g : MtcGenerator) (device own : ℕ) (c : MmcCommand) (r : Refusal) → (applied g device own c).answer ≡ refused r
    → (applied g device own c).generator ≡ g
unfolding applied
refused_unchanged g device own c r = go (leb device 127 && leb own 127) (is_addressed device own)
  where
    go : (b a : Bool)
        → (cond b (cond a (acted g c) (record { generator = g; answer = gives NotMine })) (unchanged g 5)).answer ≡ refused r
        → (cond b (cond a (acted g c) (record { generator = g; answer = gives NotMine })) (unchanged g 5)).generator ≡ g
    go true true h = refused_acted g c r h
    go true false h = refl
    go false a h = refl

pub refused_passes : RefusedPasses
unfolding applied_all
refused_passes [] behind c device own g r h = ap (λ (k : MtcGenerator). applied_all device own k behind) (refused_unchanged g device own c r h)
refused_passes (x ∷ xs) behind c device own g r h = refused_passes xs behind c device own (applied g device own x).generator r h

-- ---- Locate, then Play

-- Commands one after another.
pub applied_append : (device own : ℕ) (g : MtcGenerator) (xs ys : List MmcCommand)
    → applied_all device own g (xs ++ ys) ≡ applied_all device own (applied_all device own g xs) ys
unfolding applied_all
applied_append device own g [] ys = refl
applied_append device own g (x ∷ xs) ys = applied_append device own (applied g device own x).generator xs ys

-- As many answers as commands.
pub answers_each : (device own : ℕ) (g : MtcGenerator) (xs : List MmcCommand) → length (answers_to device own g xs) ≡ length xs
unfolding answers_to
answers_each device own g [] = refl
answers_each device own g (x ∷ xs) = ap suc (answers_each device own (applied g device own x).generator xs)

-- Locate to a target that resolves to T, and then Play: the generator as it is located at T and set running forward.
pub target_played : (device own : ℕ) (g : MtcGenerator) (c : StandardTimeCode) (t : MtcTime) → device ≤ 127 → own ≤ 127
    → is_addressed device own ≡ true → resolved c ≡ Some t
    → applied_all device own g (LocateTarget c ∷ Play ∷ []) ≡ run_from g t Forward
unfolding applied_all acted
target_played device own g c t h k a e =
    let l : applied g device own (LocateTarget c) ≡ locate_outcome g (Some t) =
    mine g device own (LocateTarget c) h k a ∙ ap (locate_outcome g) e in
    ap (λ (o : Outcome). (applied o.generator device own Play).generator) l
    ∙ ap (λ (o : Outcome). o.generator) (mine (locate_outcome g (Some t)).generator device own Play h k a)
