use mathlib.Core.Path.{◌≡◌, refl}
use mathlib.Core.List.{List, [], ◌∷◌, map, flatten, append-nil}
use Prim.Native.Nat.{ℕ}
use Rattle.std.specs.Prelude.{Some}
use Rattle.lists.specs.Lists.{laid_over, laid_at}
use Rattle.lists.proofs.Laid.{laid_over_lem}
use Rattle.packet.specs.declared.MonitorId.{MonitorId}
use Rattle.qx.specs.declared.Asked.{Asked}
use Rattle.qx.specs.Message.{qx_packet}
use Rattle.qx.specs.Asked.{data_for}
use Rattle.qx.proofs.writing.put_all.Goals as goal

-- Each way to ask has its packets. Assumes nothing.
-- a single packet
one : (id : MonitorId) (out : List ℕ) {asked known : Asked} {d p x : List ℕ} → asked ≡ known → data_for (Some known) ≡ d ∷ [] → p ≡ qx_packet id d → x ≡ laid_at 0 p out
    → x ≡ laid_over (flatten (map (qx_packet id) (data_for (Some asked)))) out
unfolding flatten
one id out ea ed ep ex = rw (ea, ed, append-nil, ex, ep) (laid_over_lem _ out)

pub returns-in-GetPower : goal.returns-in-GetPower
unfolding data_for
returns-in-GetPower c =
    let a = c.args in
    one a.id a.out.now c.in-GetPower.is refl c.get_packet.ensures c.put.ensures

pub returns-in-SetPower : goal.returns-in-SetPower
unfolding data_for
returns-in-SetPower c =
    let a = c.args in
    one a.id a.out.now c.in-SetPower.is refl c.set_packet.ensures c.put-in-SetPower.ensures
