-- What a reading does, by its verdict. Assumes nothing.
use mathlib.Core.Path.{◌≡◌, ap}
use Rattle.packet.specs.declared.Damage.{Damage}
use Rattle.packet.specs.declared.GroupId.{GroupId}
use Rattle.packet.specs.declared.MonitorId.{MonitorId}
use Rattle.packet.specs.declared.Verdict.{Verdict}
use Rattle.packet.specs.Reading.{Reading}
use Rattle.panels.specs.Wall.{Wall}
use Prim.Native.Nat.{ℕ}
use Rattle.answers.specs.Judged.{command}
use Rattle.answers.specs.Played.{nack_from, played_packet, answered_by, answered}

module _ (w : Wall) (r : Reading) where
  -- a damaged burst changes no panel
  pub answered_damaged : (d : Damage) → r.verdict ≡ Verdict.Damaged d → answered w r ≡ record { wall = w; reply = nack_from w r.seems }
  unfolding answered
  answered_damaged d e = ap (λ (v : Verdict). answered_by v w r.part r.seems) e

  pub answered-intact : (i : MonitorId) (g : GroupId) (n : ℕ) → r.verdict ≡ Verdict.Intact i g n → answered w r ≡ played_packet w i g (command r.part)
  unfolding answered
  answered-intact i g n e = ap (λ (v : Verdict). answered_by v w r.part r.seems) e
