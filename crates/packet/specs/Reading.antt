-- What a burst says on a line of an edition: a box answers by this alone. 01, "Packet and burst", "Answering a burst"; 02, A11.
use Rattle.std.specs.Prelude.{ℕ, cond, ◌&&◌, List, leb, eqb, length, get_or, Option, Some, None}
use Rattle.packet.specs.declared.Edition.{Edition}
use Rattle.packet.specs.declared.Reading.{Reading as ReadReading}
use Rattle.packet.specs.declared.MonitorId.{MonitorId}
use Rattle.packet.specs.declared.Verdict.{Verdict}
use Rattle.packet.specs.Edition.{group_on, head_size}
use Rattle.packet.specs.Packet.{monitor_id, verdict_of, data_of}

-- whom a damaged burst seems to be for: it has a head, which on 2.01 says group 0, and then the second byte is the ID
unfoldable pub seems_for : Edition → List ℕ → Option MonitorId
seems_for edition burst = cond (leb (head_size edition) (length burst) && eqb (group_on edition (get_or burst 2 0)) 0) (Some (monitor_id (get_or burst 1 0))) None

-- the verdict; the data, which is a part of the burst; and whom the burst seems to be for, if it is damaged
pub record Reading : Type 0 where
  pub verdict : Verdict
  pub part : List ℕ
  pub seems : Option MonitorId

-- what the box has read
abbrev pub reading_in : ReadReading → Reading
reading_in r = record { verdict = r.verdict; part = r.data.now; seems = r.seems }

abbrev pub reading_of : Edition → List ℕ → Reading
reading_of edition burst = record { verdict = verdict_of edition burst; part = data_of edition burst; seems = seems_for edition burst }
