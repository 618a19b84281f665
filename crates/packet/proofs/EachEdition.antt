-- What holds of both editions. Assumes nothing.
use mathlib.Core.Path.{◌≡◌, refl, ap}
use mathlib.Core.Bool.{true}
use Prim.Native.Nat.{◌≤◌}
use native.Mathlib.Omega.{arith}
use borrow.Author.Tests.{eqb-true}
use Rattle.std.specs.Prelude.{Some}
use Rattle.packet.specs.declared.Edition.{Edition}
use Rattle.packet.specs.declared.GroupId.{GroupId}
use Rattle.packet.specs.Edition.{edition_number, edition_with, group_on, carries, head_size}
use Rattle.packet.specs.Packet.{group_id}

pub number_back : (edition : Edition) → edition_with (edition_number edition) ≡ Some edition
unfolding edition_with
number_back Edition.Sicp185 = refl
number_back Edition.Sicp201 = refl

-- a head has two bytes or three
pub head_few : (edition : Edition) → (2 ≤ head_size edition) × (head_size edition ≤ 3)
head_few Edition.Sicp185 = (omega arith, omega arith)
head_few Edition.Sicp201 = (omega arith, omega arith)

-- group 0 is carried by both
pub group-none : (edition : Edition) → group_on edition 0 ≡ 0
group-none Edition.Sicp185 = refl
group-none Edition.Sicp201 = refl

-- and a group that is carried is read
pub carried : (edition : Edition) (group : GroupId) → carries edition group ≡ true → group_id (group_on edition group.0) ≡ group
carried edition group e = ap group_id (eqb-true _ _ e)
