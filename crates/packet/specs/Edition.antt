-- The editions of the protocol, and all in which they differ: a packet has a group byte on 2.01 and none on 1.85. 000, 2.2.1;
-- 001, 2.3; 02, A11.
use Rattle.std.specs.Prelude.{ℕ, Bool, cond, List, [], ◌∷◌, eqb, Option, Some, None}
use Rattle.std.specs.Option.{option_map_or}
use Rattle.refusals.specs.Refusals.{unknown_edition}
use Rattle.packet.specs.declared.Edition.{Edition}
use Rattle.packet.specs.declared.GroupId.{GroupId}

-- an edition's number is its name without the point
abbrev pub edition_number : Edition → ℕ
edition_number Edition.Sicp185 = 185
edition_number Edition.Sicp201 = 201

unfoldable pub edition_with : ℕ → Option Edition
edition_with n = cond (eqb n 185) (Some Edition.Sicp185) (cond (eqb n 201) (Some Edition.Sicp201) None)

-- what opening a line or a host with a number is refused by, 0 where it is not
abbrev pub open_refusal : Option Edition → ℕ
open_refusal numbered = option_map_or (λ edition. 0) numbered unknown_edition

-- the group's byte in a packet
abbrev pub group_bytes : Edition → ℕ → List ℕ
group_bytes Edition.Sicp185 group = []
group_bytes Edition.Sicp201 group = group ∷ []

-- the group of a packet whose third byte this is: 0 where there is no group byte
abbrev pub group_on : Edition → ℕ → ℕ
group_on Edition.Sicp185 third = 0
group_on Edition.Sicp201 third = third

-- a packet can say this group
abbrev pub carries : Edition → GroupId → Bool
carries edition group = eqb (group_on edition group.0) group.0

-- the bytes before the data: size, monitor ID, and the group's
abbrev pub head_size : Edition → ℕ
head_size Edition.Sicp185 = 2
head_size Edition.Sicp201 = 3
