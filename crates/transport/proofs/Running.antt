-- A string's commands, read and applied one by one: a turn, by what is read, and the loop over all of them. Assumes nothing.
use Rattle.std.specs.Prelude.{Result, Ok, Err}
use Rattle.transport.specs.Transport.{Reply}
use Rattle.universal.specs.Refusals.{answer_of}
use Prim.Native.Nat.{ℕ, suc, ◌+◌, ◌-◌, ◌≤◌, ◌<◌}
use mathlib.Core.Path.{◌≡◌, refl, sym, ap, ap₂, subst, ◌∙◌}
use mathlib.Core.List.{List, ◌∷◌}
use native.Mathlib.Omega.{arith}
use lib.ListN.{length}
use Rattle.mmc.proofs.StringLaws.{read_goes_on}
use Rattle.mmc.specs.declared.command.MmcCommand.{MmcCommand}
use Rattle.mmc.specs.declared.length.Kind.TheVariants.{Commands}
use Rattle.mmc.specs.Command.{next_command}
use Rattle.mtc.specs.declared.generator.MtcGenerator.{MtcGenerator}
use Rattle.transport.specs.declared.run.Turn.{Turn}
use Rattle.transport.specs.Demand3.{Run, over, answered, on_read, obey_from}
use Rattle.transport.specs.Obey.{CommandReply, TurnOutcome, turn_by, obey_next, command_reply_of, turn_of, one_refused, refused_in, Summary, summed_up, summary_after}
use Rattle.transport.specs.Transport.{Outcome, applied}
use Rattle.transport.proofs.Obeying.{obey_more}
use Rattle.universal.specs.Refusals.{Refusal, Answer, gives, refused, refusal_of}
use Rattle.universal.specs.declared.error.SysexError.{SysexError}

-- ---- what a turn tells

-- A turn that gave a command read it, and has the transport's answer to it and the generator that came back.
record Gave (a : Answer MmcCommand) (act : MmcCommand → Outcome) (t : TurnOutcome) (x : CommandReply) : Type 0 where
  read : a ≡ gives x.command
  reply : x.reply ≡ (act x.command).answer
  generator : t.generator ≡ (act x.command).generator

gave : (a : Answer MmcCommand) (place : ℕ) (act : MmcCommand → Outcome) (g : MtcGenerator) (x : CommandReply)
    → (turn_by a place act g).told ≡ gives x → Gave a act (turn_by a place act g) x
gave (gives c) place act g x h =
    let e : record { command = c; reply = (act c).answer } ≡ x = cc in
    let k : c ≡ x.command = ap (λ (y : CommandReply). y.command) e in
    record {
      read = ap gives k;
      reply = sym (ap (λ (y : CommandReply). y.reply) e) ∙ ap (λ (y : MmcCommand). (act y).answer) k;
      generator = ap (λ (y : MmcCommand). (act y).generator) k;
    }
gave (refused r) place act g x h = let z : ◌≡◌ {A = ℕ} 0 1 = cc in absurd (omega arith)

-- A turn that gave none was a refused read.
ended_by : (a : Answer MmcCommand) (place : ℕ) (act : MmcCommand → Outcome) (g : MtcGenerator) (r : Refusal)
    → (turn_by a place act g).told ≡ refused r → a ≡ refused r
ended_by (gives c) place act g r h = let z : ◌≡◌ {A = ℕ} 0 1 = cc in absurd (omega arith)
ended_by (refused q) place act g r h = cc

-- ---- the counts

-- Those of an answer and of the run behind it.
counts : (commands refusals : ℕ) (o : Outcome) (rest : Run)
    → summary_after commands refusals (answered o rest) ≡ summary_after (commands + 1) (refusals + one_refused o.answer) rest
unfolding summary_after refused_in
counts commands refusals o rest =
    let n : commands + length (o.answer ∷ rest.answers) ≡ commands + 1 + length rest.answers = omega arith in
    let k : refusals + (one_refused o.answer + refused_in rest.answers)
    ≡ refusals + one_refused o.answer + refused_in rest.answers = omega arith in
    ap₂ (λ (a b : ℕ). summed_up rest.generator a b rest.stop) n k

-- Nothing more is read.
ends_with : (commands refusals : ℕ) (g : MtcGenerator) (r : Refusal)
    → summary_after commands refusals (over g r) ≡ summed_up g commands refusals r
unfolding summary_after refused_in
ends_with commands refusals g r =
    let n : commands + 0 ≡ commands = omega arith in
    let k : refusals + 0 ≡ refusals = omega arith in
    ap₂ (λ (a b : ℕ). summed_up g a b r) n k

-- ---- the loop

module _ (body : List ℕ) (device own place : ℕ) (g : MtcGenerator) (t : Turn) (h : turn_of t ≡ obey_next body device own place g) where
  gives_told : (c : MmcCommand) (r : Result Reply SysexError) → t.answer ≡ Ok (record { command = c; reply = r })
      → Gave (next_command body place).answer (applied g device own) (obey_next body device own place g) (record { command = c; reply = answer_of r })
  unfolding obey_next
  gives_told c r a =
      gave (next_command body place).answer (next_command body place).place (applied g device own) g
      (record { command = c; reply = answer_of r })
      (ap (λ (x : TurnOutcome). x.told) (sym h) ∙ ap command_reply_of a)

  -- The place after it is that of the read.
  after_place : t.place ≡ (next_command body place).place
  unfolding obey_next
  after_place = ap (λ (x : TurnOutcome). x.place) h ∙ go (next_command body place).answer
    where
      go : (a : Answer MmcCommand) → (turn_by a (next_command body place).place (applied g device own) g).place ≡ (next_command body place).place
      go (gives c) = refl
      go (refused r) = refl

  -- A turn that gave a command goes on past its place.
  pub on_turn : (c : MmcCommand) (r : Result Reply SysexError) → t.answer ≡ Ok (record { command = c; reply = r }) → (place < t.place) × (t.place ≤ length body)
  on_turn c r a =
      subst (λ (k : ℕ). (place < k) × (k ≤ length body)) (sym after_place)
      (read_goes_on Commands body place c (gives_told c r a).read)

  module _ (commands refusals : ℕ) (whole : Summary)
      (i : whole ≡ summary_after commands refusals (obey_from (suc (length body - commands)) body device own place g)) where
    rest : MmcCommand → Run
    rest c =
        answered (applied g device own c)
        (obey_from (length body - commands) body device own (next_command body place).place (applied g device own c).generator)

    -- The read was refused.
    pub last_turn : (e : SysexError) → t.answer ≡ Err e → summed_up g commands refusals (refusal_of e) ≡ whole
    unfolding obey_next rest
    last_turn e a =
        let b : (next_command body place).answer ≡ refused (refusal_of e) =
        ended_by (next_command body place).answer (next_command body place).place (applied g device own) g (refusal_of e)
        (ap (λ (x : TurnOutcome). x.told) (sym h) ∙ ap command_reply_of a) in
        sym (i
        ∙ ap (summary_after commands refusals) (obey_more (length body - commands) body device own place g ∙ ap (λ (x : Answer MmcCommand). on_read x rest g) b)
        ∙ ends_with commands refusals g (refusal_of e))

    -- A command was read and applied: what is left.
    pub next_turn : (c : MmcCommand) (r : Result Reply SysexError) (k : ℕ) → t.answer ≡ Ok (record { command = c; reply = r }) → commands < length body
        → k ≡ one_refused (answer_of r)
        → whole
        ≡ summary_after (commands + 1) (refusals + k) (obey_from (suc (length body - (commands + 1))) body device own t.place t.generator)
    unfolding rest
    next_turn c r k a l q =
        let m : length body - commands ≡ suc (length body - (commands + 1)) = omega arith in
        let v = gives_told c r a in
        let left : t.generator ≡ (applied g device own c).generator = ap (λ (x : TurnOutcome). x.generator) h ∙ v.generator in
        i
        ∙ ap (summary_after commands refusals) (obey_more (length body - commands) body device own place g ∙ ap (λ (x : Answer MmcCommand). on_read x rest g) v.read)
        ∙ counts commands refusals (applied g device own c) (obey_from (length body - commands) body device own (next_command body place).place (applied g device own c).generator)
        ∙ ap (λ (x : ℕ). summary_after (commands + 1) (refusals + x) (obey_from (length body - commands) body device own (next_command body place).place (applied g device own c).generator))
        (ap one_refused (sym v.reply) ∙ sym q)
        ∙ rw (m, ← left, ← after_place)
