-- The three control words. 000, 2.2; 01, "Answering a burst": data 0x00 and then 0x06, 0x15 or 0x18.
use Rattle.std.specs.Prelude.{ℕ, List, [], ◌∷◌}
use Rattle.packet.specs.declared.Control.{Control}

abbrev pub control_byte : Control → ℕ
control_byte Control.Ack = 0x06
control_byte Control.Nack = 0x15
control_byte Control.Nav = 0x18

abbrev pub control_data : Control → List ℕ
control_data c = 0x00 ∷ control_byte c ∷ []
