-- What the transport answers, as flat records. Assumes nothing.
use Rattle.std.specs.Prelude.{ℕ}
use Rattle.fast_mtc.specs.Generator.{flat_generator}
use Rattle.fast_mmc.specs.declared.apply.FlatApplied.{FlatApplied}
use Rattle.transport.specs.Transport.{Outcome}
use Rattle.transport.specs.declared.transport.Reply.{Reply}
use Rattle.transport.specs.declared.transport.Reply.TheVariants.{Done, NotMine}
use Rattle.universal.specs.Refusals.{Answer, gives, refused}

-- 0 for done, 255 for another device, else the refusal.
unfoldable pub flat_reply : Answer Reply → ℕ
flat_reply (gives Done) = 0
flat_reply (gives NotMine) = 255
flat_reply (refused r) = r.number

unfoldable pub flat_applied : Outcome → FlatApplied
flat_applied o = record { generator = flat_generator o.generator; answer = flat_reply o.answer }
