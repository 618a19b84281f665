-- What is read of a burst by its front, the count of its bytes and the XOR of all: of its bytes the first three count for the verdict, so
-- that a front stands for it; a whole burst is its own front. 02, A14.
use Rattle.std.specs.Prelude.{ℕ, List, [], take, drop}
use Rattle.packet.specs.Edition.{head_size}
use Rattle.packet.specs.Packet.{verdict_by}
use Rattle.packet.specs.Reading.{Reading, seems_for}
use Rattle.packet.specs.declared.Edition.{Edition}
use Rattle.packet.specs.declared.Verdict.{Verdict}

-- the bytes from behind the head to the one before the checksum, of an intact burst, as far as its front has them; otherwise none
abbrev pub data_by : Edition → List ℕ → Verdict → List ℕ
data_by edition front Verdict.Empty = []
data_by edition front (Verdict.Damaged damage) = []
data_by edition front (Verdict.Intact id group n) = take n (drop (head_size edition) front)

abbrev pub reading_by : Edition → List ℕ → ℕ → ℕ → Reading
reading_by edition front count sum = let verdict = verdict_by edition front count sum in record { verdict = verdict; part = data_by edition front verdict; seems = seems_for edition front }
