-- How what is wrong with a burst prints.
use Rattle.std.specs.Prelude.{ℕ, List, codes}
use Rattle.packet.specs.declared.Damage.{Damage}

abbrev pub damage_word : Damage → List ℕ
damage_word Damage.TooShort = codes "too-short"
damage_word Damage.TooLong = codes "too-long"
damage_word Damage.Size = codes "size"
damage_word Damage.Checksum = codes "checksum"
