use mathlib.Core.Path.{◌≡◌, refl, ap, ◌∙◌}
use mathlib.Core.List.{List, [], ◌∷◌, ◌++◌, map, flatten}
use Prim.Native.Nat.{ℕ, ◌≤◌}
use native.Mathlib.Omega.{arith}
use lib.ListN.{length}
use Rattle.std.specs.Prelude.{Some}
use Rattle.lists.specs.Lists.{laid_over, laid_at}
use Rattle.lists.proofs.Laid.{laid_then, laid_over_lem}
use Rattle.packet.specs.declared.MonitorId.{MonitorId}
use Rattle.packet.specs.Packet.{longest}
use Rattle.qx.specs.declared.Asked.{Asked}
use Rattle.qx.specs.Message.{message, qx_packet}
use Rattle.qx.specs.Asked.{data_for, brightness_set, contrast_set, black_level_set}
use Rattle.qx.proofs.writing.put_picture.Goals as goal

-- Three packets, each of ten bytes. Assumes nothing.
-- one packet laid behind the other
three : (id : MonitorId) (b c l : ℕ) (out : List ℕ) {p q r x y z : List ℕ} → longest ≤ length out
    → p ≡ qx_packet id (brightness_set ∷ b ∷ []) → q ≡ qx_packet id (contrast_set ∷ c ∷ []) → r ≡ qx_packet id (black_level_set ∷ l ∷ [])
    → x ≡ laid_at 0 p out → y ≡ laid_at 10 q x → z ≡ laid_at 20 r y
    → z ≡ laid_over (flatten (map (qx_packet id) (data_for (Some (Asked.SetPicture b c l))))) out
unfolding qx_packet message data_for flatten
three id b c l out room ep eq er ex ey ez =
    let p = qx_packet id (brightness_set ∷ b ∷ []) in
    let q = qx_packet id (contrast_set ∷ c ∷ []) in
    let r = qx_packet id (black_level_set ∷ l ∷ []) in
    rw (ez, ey, ex, ep, eq, er)
    (ap (laid_at 20 r) (laid_then 0 10 p q out refl (omega arith))
    ∙ laid_then 0 20 (p ++ q) r out refl (omega arith)
    ∙ laid_over_lem _ out)

pub returns : goal.returns
returns c =
    let a = c.args in
    three a.id a.brightness a.contrast a.black_level a.out.now
    c.requires
    c.set_packet.ensures
    c.set_packet-2.ensures
    c.set_packet-3.ensures
    c.put.ensures
    c.put-2.ensures
    c.put-3.ensures
