use mathlib.Core.Path.{◌≡◌, sym, ap, ◌∙◌}
use Prim.Native.Nat.{ℕ, ◌+◌, ◌-◌}
use native.Mathlib.Omega.{arith}
use borrow.Author.Rules.{rules}
use lib.ListN.{length, take}
use Rattle.panels.proofs.Laws.{first_many, in_first}
use Rattle.panels.proofs.Index.{places_from, members_from, no_places, no_members, index_next, counted_few, table_is}
use Rattle.std.proofs.Common.{[], get_or, ◌<◌}
use Rattle.panels.specs.declared.Panel.{Panel}
use Rattle.settings.specs.declared.Profile.{Profile}
use Rattle.panels.specs.Wall.{id_count, group_count}
use Rattle.panels.proofs.table_of.Goals as goal

-- what stands for a panel past the array's end
abbrev unread : Panel
unread = record { id = record { 0 = 0 }; group = record { 0 = 0 }; profile = Profile.General; values = [] }

pub loop-k-init : goal.loop-k-init
loop-k-init c =
    let many : length (take c.args.count c.args.panels) ≡ c.args.count = first_many c.args.count c.requires.0 c.requires.1 in
    let w = take c.args.count c.args.panels in
    (no_places w _ (sym many), no_members w _ (sym many))

pub overflow_add-members : goal.overflow_add-members
overflow_add-members c =
    let p = get_or c.args.panels (c.loop-k.k - 1) unread in
    let g : p.group.0 < group_count = search rules in
    let many : length (take c.args.count c.args.panels) ≡ c.args.count = first_many c.args.count c.requires.0 c.requires.1 in
    let few = counted_few (take c.args.count c.args.panels) c.loop-k.k p.group.0 c.loop-k.invariant.1 g in
    omega (arith, few, many, c.requires.0)

pub loop-k-preserved : goal.loop-k-preserved
loop-k-preserved c =
    let many : length (take c.args.count c.args.panels) ≡ c.args.count = first_many c.args.count c.requires.0 c.requires.1 in
    let n = c.args.count in
    let l = c.args.panels in
    let k = c.loop-k.k - 1 in
    let p = get_or l k unread in
    let i : p.id.0 < id_count = search rules in
    let g : p.group.0 < group_count = search rules in
    let next : c.loop-k.k ≡ k + 1 = omega arith in
    let (places, members) =
    index_next (take n l) k {p = p} (in_first l n k _ many (omega arith)) (omega (arith, many)) i g
    (c.loop-k.invariant.0 ∙ ap (λ (m : ℕ). places_from m (take n l)) next) (c.loop-k.invariant.1 ∙ ap (λ (m : ℕ). members_from m (take n l)) next) in
    (places, members)

pub returns : goal.returns
returns c =
    let many : length (take c.args.count c.args.panels) ≡ c.args.count = first_many c.args.count c.requires.0 c.requires.1 in
    let w = take c.args.count c.args.panels in
    let all : c.loop-k.k ≡ 0 = omega arith in
    table_is _ w c.requires.1 (sym many) (c.loop-k.invariant.0 ∙ ap (λ (m : ℕ). places_from m w) all) (c.loop-k.invariant.1 ∙ ap (λ (m : ℕ). members_from m w) all)
