-- The split parts of messages, and what reading them answers, as flat records, and back. Assumes nothing.
use Rattle.std.specs.Prelude.{ℕ, Bool, true, false, cond, [], ◌∷◌, eqb, Option, Some, None}
use Rattle.fast_mtc.specs.Time.{flat_time, no_time}
use Rattle.fast_mmc.specs.declared.message.FlatFullMessage.{FlatFullMessage}
use Rattle.fast_mmc.specs.declared.message.FlatMmcMessage.{FlatMmcMessage}
use Rattle.fast_mmc.specs.declared.message.FlatReadUserBits.{FlatReadUserBits}
use Rattle.fast_mmc.specs.declared.message.FlatUniversal.{FlatUniversal}
use Rattle.fast_mmc.specs.declared.message.FlatUserBits.{FlatUserBits}
use Rattle.mmc.specs.declared.message.MmcMessage.{MmcMessage}
use Rattle.mmc.specs.declared.message.MmcMessage.TheVariants.{Commands, Responses}
use Rattle.mtc.specs.UserBits.{user_bits}
use Rattle.mtc.specs.declared.full_message.FullMessage.{FullMessage}
use Rattle.mtc.specs.declared.user_bits.UserBits.{UserBits}
use Rattle.universal.specs.Message.{header}
use Rattle.universal.specs.Refusals.{Answer, gives, refused}
use Rattle.universal.specs.declared.message.Universal.{Universal}

-- A sub-ID 2, where the header has one.
unfoldable pub sub_id2_of : Bool → ℕ → Option ℕ
sub_id2_of has s = cond has (Some s) None

unfoldable pub universal_of : FlatUniversal → Universal
universal_of u = header u.real_time u.device_id u.sub_id1 (sub_id2_of u.has_sub_id2 u.sub_id2)

unfoldable pub user_bits_of : FlatUserBits → UserBits
user_bits_of b = user_bits b.device_id b.groups b.flags

unfoldable pub flat_bits : UserBits → FlatUserBits
flat_bits b = record { device_id = b.device_id; groups = b.groups; flags = b.flags }

-- ---- what reading answers: 0 and a message, 255 for another kind, or a refusal

unfoldable pub flat_answer : {A : Type 0} → Answer (Option A) → ℕ
flat_answer (gives (Some a)) = 0
flat_answer (gives None) = 255
flat_answer (refused r) = r.number

-- No full message.
abbrev pub no_message : ℕ → FlatFullMessage
no_message n = record { answer = n; device_id = 0; time = no_time }

unfoldable pub flat_full_message : Answer (Option FullMessage) → FlatFullMessage
flat_full_message (gives (Some m)) = record { answer = 0; device_id = m.device_id; time = flat_time m.time }
flat_full_message (gives None) = no_message 255
flat_full_message (refused r) = no_message r.number

-- Device 0, with all groups and flags 0.
abbrev pub no_bits : UserBits
no_bits = user_bits 0 (0 ∷ 0 ∷ 0 ∷ 0 ∷ 0 ∷ 0 ∷ 0 ∷ 0 ∷ []) 0

-- The message of an answer, or `no_bits` where it has none.
abbrev pub bits_in : Answer (Option UserBits) → UserBits
bits_in (gives (Some b)) = b
bits_in (gives None) = no_bits
bits_in (refused r) = no_bits

-- An answer with user bits beside it.
unfoldable pub flat_read_bits : Answer (Option UserBits) → UserBits → FlatReadUserBits
flat_read_bits a b = record { answer = flat_answer a; bits = flat_bits b }

-- User bits, all 0 where there are none.
abbrev pub flat_user_bits : Answer (Option UserBits) → FlatReadUserBits
flat_user_bits a = flat_read_bits a (bits_in a)

-- A machine control message: responses or commands, and the device.
abbrev pub flat_mmc : ℕ → Bool → ℕ → FlatMmcMessage
flat_mmc n responses device = record { answer = n; responses = responses; device_id = device }

unfoldable pub flat_mmc_message : Answer (Option MmcMessage) → FlatMmcMessage
flat_mmc_message (gives (Some (Commands device))) = flat_mmc 0 false device
flat_mmc_message (gives (Some (Responses device))) = flat_mmc 0 true device
flat_mmc_message (gives None) = flat_mmc 255 false 0
flat_mmc_message (refused r) = flat_mmc r.number false 0

-- The same without the device: 0 for commands, 128 for responses, 255 for another kind, or the refusal.
unfoldable pub mmc_kind : Answer (Option MmcMessage) → ℕ
mmc_kind (gives (Some (Commands device))) = 0
mmc_kind (gives (Some (Responses device))) = 128
mmc_kind (gives None) = 255
mmc_kind (refused r) = r.number

-- The message of such a number, with the device that the header gives.
unfoldable pub mmc_of : ℕ → ℕ → FlatMmcMessage
mmc_of device n = cond (eqb n 0) (flat_mmc 0 false device) (cond (eqb n 128) (flat_mmc 0 true device) (flat_mmc n false 0))
