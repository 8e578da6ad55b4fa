-- Demand 3, proved: the string that an accepted writing left, read back and applied; in reverse; and by what is written. Assumes
-- nothing.
use Rattle.std.specs.Prelude.{Some}
use Prim.Native.Nat.{ℕ, ◌≤◌}
use mathlib.Core.Path.{◌≡◌, ap, subst, ◌∙◌}
use mathlib.Core.Bool.{Bool, true, false}
use mathlib.Core.List.{List, [], ◌∷◌}
use lib.Dec.{T}
use Rattle.mmc.specs.declared.command.MmcCommand.{MmcCommand}
use Rattle.mmc.specs.declared.command.MmcCommand.TheVariants.{LocateTarget, Play}
use Rattle.mmc.specs.declared.length.Kind.TheVariants.{Commands}
use Rattle.codes.specs.declared.time_code.StandardTimeCode.{StandardTimeCode}
use Rattle.mmc.specs.Strings.{Given, Walk, meanings, pairs_of, commands_read}
use Rattle.codes.specs.TimeCode.{written_label, zeroed}
use Rattle.mmc.specs.WholeLists.{ReadBack}
use Rattle.mmc.specs.Writings.{string_answer, string_of, body_of}
use Rattle.mmc.proofs.StringLaws.{locate_play_back}
use Rattle.mmc.proofs.WritingLaws.{string_accepted, accepted_reads_back}
use Rattle.labels.specs.St12.{is_valid}
use Rattle.mtc.specs.Reader.{fresh}
use Rattle.mtc.specs.Stream.{Call, Answers, run_from, bytes_sent, after_calls, events}
use Rattle.mtc.specs.declared.generator.Direction.TheVariants.{Forward, Reverse}
use Rattle.mtc.specs.declared.generator.MtcGenerator.{MtcGenerator}
use Rattle.labels.specs.declared.time.MtcTime.{MtcTime}
use Rattle.mtc.proofs.Laws.{stream_law, all_heard, sent_heard}
use Rattle.universal.proofs.Tests.{holds_true}
use Rattle.universal.specs.Message.{is_addressed}
use Rattle.universal.specs.Refusals.{Answer, gives}
use Rattle.transport.specs.Transport.{before_midnight, by_sign, resolved}
use Rattle.transport.specs.Demand3.{Run, obey_message, obeyed, applied_all, applied_walk, EndsAt, Promised, ending_at, Demand3, Demand3Reverse, WrittenFor, Demand3Written}
use Rattle.transport.proofs.Obeying.{read_acts, applied_append, target_played}
use Rattle.transport.proofs.Targets.{valid_by_sign, resolved_valid}

-- ---- demand 3

-- A string for a device that addresses the transport's own: its commands are read to the end and applied.
obeyed_walk : (gs : List (Given Commands)) (device own : ℕ) (s : List ℕ) (g : MtcGenerator) → ReadBack Commands device gs s
    → obeyed s own g ≡ applied_walk device own g (commands_read (body_of s))
unfolding obeyed
obeyed_walk gs device own s g b =
    ap (λ (m : Answer _). obey_message m (body_of s) own g) b.message ∙ read_acts (body_of s) device own g

-- The generator after the commands: located at T and running forward.
generator_at : (s : List ℕ) (device own : ℕ) (g : MtcGenerator) (t : MtcTime) → device ≤ 127 → own ≤ 127 → T (is_addressed device own)
    → (e : EndsAt s t)
    → applied_all device own g (commands_read (body_of s)).items ≡ run_from (applied_all device own g e.before) t Forward
generator_at s device own g t h k a e =
    ap (applied_all device own g) e.read
    ∙ applied_append device own g e.before (LocateTarget e.target ∷ Play ∷ [])
    ∙ target_played device own (applied_all device own g e.before) e.target t h k (holds_true (is_addressed device own) a) e.resolves

promised : (gs : List (Given Commands)) (device own : ℕ) (s : List ℕ) (g : MtcGenerator) (calls : List Call) (t : MtcTime)
    → ReadBack Commands device gs s → own ≤ 127 → T (is_addressed device own) → EndsAt s t → Promised s device own g calls t
promised gs device own s g calls t b k a e =
    let o : obeyed s own g ≡ applied_walk device own g (commands_read (body_of s)) = obeyed_walk gs device own s g b in
    let v : T (is_valid t) = resolved_valid e.target t e.resolves in
    let r : (obeyed s own g).generator ≡ run_from (applied_all device own g e.before) t Forward =
    ap (λ (q : Run). q.generator) o ∙ generator_at s device own g t b.device_in_range k a e in
    record {
      message = b.message;
      whole = ap (λ (q : Run). q.stop) o ∙ ap (λ (w : Walk MmcCommand). w.stop) b.whole;
      each = ap (λ (q : Run). q.answers) o;
      valid = v;
      answers = λ bs h. stream_law calls (applied_all device own g e.before) t Forward bs v (h ∙ ap (bytes_sent 24) r);
    }

pub demand3 : Demand3
demand3 gs device own out n g calls t h k a e =
    promised gs device own (string_of Commands device gs out n) g calls t (accepted_reads_back Commands device gs out n h) k a e

-- The twenty-four alone are answered so.
pub promised_alone : (s : List ℕ) (device own : ℕ) (g : MtcGenerator) (calls : List Call) (t : MtcTime) → Promised s device own g calls t
    → Answers calls Forward t (events (after_calls fresh calls) (bytes_sent 24 (obeyed s own g).generator))
promised_alone s device own g calls t p =
    let sent : List ℕ = bytes_sent 24 (obeyed s own g).generator in
    (p.answers sent (all_heard sent (sent_heard (obeyed s own g).generator 24))).answers

-- In reverse it is the stream law.
pub demand3_reverse : Demand3Reverse
demand3_reverse g calls t bs v h = stream_law calls g t Reverse bs v h

-- ---- by what is written

-- A target that is valid and not blank is written as it is, and resolves by its sign from its time.
written_resolves : (c : StandardTimeCode) → T (is_valid c.time) → c.blank ≡ false → resolved (zeroed c) ≡ Some (by_sign c.negative c.time)
written_resolves c v k =
    let w : written_label c ≡ c.time = rw k in
    valid_by_sign (zeroed c) k (rw w v) ∙ ap (λ (t : MtcTime). Some (by_sign c.negative t)) w

-- A list that is written so ends so when it is read back.
ends_at : (gs : List (Given Commands)) (a b : List ℕ) (c : StandardTimeCode) (device : ℕ) (out : List ℕ) (n : ℕ)
    → string_answer Commands device (ending_at gs a b c) out ≡ gives n → T (is_valid c.time) → c.blank ≡ false
    → EndsAt (string_of Commands device (ending_at gs a b c) out n) (by_sign c.negative c.time)
ends_at gs a b c device out n h v k =
    record {
      before = meanings Commands 0 (pairs_of Commands gs);
      target = zeroed c;
      read =
          ap (λ (s : List ℕ). (commands_read s).items) (accepted_reads_back Commands device (ending_at gs a b c) out n h).body
          ∙ ap (λ (w : Walk MmcCommand). w.items) (locate_play_back gs a b c ((string_accepted Commands device (ending_at gs a b c) out n).0 h).items);
      resolves = written_resolves c v k;
    }

pub demand3_written : Demand3Written
demand3_written c v k gs a b device own out n g calls h o r =
    demand3 (ending_at gs a b c) device own out n g calls (by_sign c.negative c.time) h o r (ends_at gs a b c device out n h v k)

-- Without a sign T is the target's time, as before.
pub demand3_unsigned : (c : StandardTimeCode) → T (is_valid c.time) → c.blank ≡ false → c.negative ≡ false → WrittenFor c c.time
demand3_unsigned c v k s = subst (λ (negative : Bool). WrittenFor c (by_sign negative c.time)) s (demand3_written c v k)

-- With a sign T is as many labels before midnight.
pub demand3_negative : (c : StandardTimeCode) → T (is_valid c.time) → c.blank ≡ false → c.negative ≡ true
    → WrittenFor c (before_midnight c.time)
demand3_negative c v k s = subst (λ (negative : Bool). WrittenFor c (by_sign negative c.time)) s (demand3_written c v k)
