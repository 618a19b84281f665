-- What a burst says to the host that waits for a request. 01, "Host side": it heeds only an intact burst with group 0 and the
-- request's ID: for a set ACK, for a get its report with the right length and allowed values, for either NAV or NACK. 02, A11: on
-- 1.85 every burst's group is 0.
use Rattle.std.specs.Prelude.{ℕ, cond, ◌&&◌, List, eqb, Option, None}
use Rattle.requests.specs.Said.{word_in}
use Rattle.packet.specs.Reading.{Reading}
use Rattle.packet.specs.declared.Verdict.{Verdict}
use Rattle.requests.specs.declared.Request.{Request}
use Rattle.requests.specs.declared.Said.{Said}

-- what a burst with that verdict and data says to the host that waits for r
unfoldable pub said_by : Request → Verdict → List ℕ → Option Said
said_by r Verdict.Empty d = None
said_by r (Verdict.Damaged damage) d = None
said_by r (Verdict.Intact id group n) d = cond (eqb group.0 0 && eqb id.0 r.id.0) (word_in r.model r.code d) None

unfoldable pub said_to : Request → Reading → Option Said
said_to r reading = said_by r reading.verdict reading.part
