-- A packet for a QX panel, and its answer. 004, 2.3 and 2.4.1; 02, A13.
use Rattle.std.specs.Prelude.{ℕ, ◌+◌, List, [], ◌∷◌, ◌++◌, length}
use Rattle.xor.specs.Xor.{xor_all}
use Rattle.packet.specs.declared.MonitorId.{MonitorId}

-- behind its head a message has a length, counted from the control byte to the checksum, the control byte 0x01, the data, and the
-- XOR of all that stands before it
unfoldable pub message : List ℕ → List ℕ → List ℕ
message head d = let bytes = head ++ (length d + 2) ∷ 0x01 ∷ d in bytes ++ xor_all bytes ∷ []

-- header, ID, category, code 0, code 1
unfoldable pub qx_packet : MonitorId → List ℕ → List ℕ
qx_packet id d = message (0xA6 ∷ id.0 ∷ 0x00 ∷ 0x00 ∷ 0x00 ∷ []) d

-- header, ID, category, page
unfoldable pub qx_answer : MonitorId → List ℕ → List ℕ
qx_answer id d = message (0x21 ∷ id.0 ∷ 0x00 ∷ 0x00 ∷ []) d
