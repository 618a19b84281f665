-- Where a panel sits in the wall. Assumes nothing.
use Prim.Native.Nat.{ℕ, ◌+◌, ◌<◌}
use mathlib.Core.Bool.{Bool, true, false, cond, false≢true, ◌&&◌, and-true, and-false}
use mathlib.Core.Path.{◌≡◌, refl, sym, ap, ◌∙◌}
use mathlib.Core.List.{List, [], ◌∷◌, flatten}
use native.Mathlib.Omega.{arith}
use borrow.Author.Tests.{le-leb}
use lib.Dec.{leb, eqb}
use lib.ListN.{get_or, take, drop}
use Rattle.std.specs.Option.{option_map_or}
use Rattle.lists.proofs.Both.{both}
use Rattle.tiling.specs.declared.Kind.{Kind}
use Rattle.tiling.specs.Walls.{up_to}
use Rattle.tiling.specs.Kinds.{kind_number, kind_with, largest, in_wall}
use Rattle.tiling.proofs.Walls.{in_bounds, height_back, width_back, byte_fits, byte_back, height_fits, width_fits}
use Rattle.tiling.proofs.Sizes.{largest_few, panels_few}
use Rattle.tiling.proofs.Numbers.{number_back}
use Rattle.models.specs.declared.Model.{Model}
use Rattle.settings.specs.Settings.{settings, allowed_by_row, within, all_allowed, in_ranges, values_of, kind_row, tiling_row}
use Rattle.codes.specs.Found.{found_from}
use Rattle.models.specs.Models.{allowed_for, kind_for, filled}
use Rattle.settings.proofs.Laws.{value_of}
use Rattle.packet.specs.Packet.{group_id}
use Rattle.panels.specs.declared.Panel.{Panel}
use Rattle.panels.specs.Wall.{model_of, blank, panels_of}
use Rattle.panels.specs.WellFormed.{GoodPanel}
use Rattle.panels.proofs.Laws.{place_there}
use Rattle.panels.proofs.Formed.{good_at}
use Rattle.answers.specs.Judged.{Command, set_of, command, off_already, held_then, takes, judge, stored, reply_by}
use Rattle.answers.proofs.Formed.{stored_own}
use Rattle.requests.specs.Said.{is_report}
use Rattle.demands.proofs.Demand2.{in_range_lem}
use Rattle.demands.proofs.Profiles.{up_to_lem, own_model}
use Rattle.demands.proofs.ToOne.{set-reply, panel, asked_good, asked_reached, asked_replies}
use Rattle.demands.specs.Tiling.{WallBack, ByteBack, ManualWrong, sits, TilingSet, AlwaysSits, HostTiling}
use Rattle.std.proofs.lemmas.Grind.{common_steps}

-- The arithmetic.
pub wall_back : WallBack
wall_back widest highest v h tall wide = grind (arith, common_steps, in_bounds, byte_fits, height_back, width_back)

pub byte_and_wall : ByteBack
byte_and_wall widest highest byte fits = grind (arith, common_steps, height_fits, width_fits, byte_back)

pub manual_wrong : ManualWrong
manual_wrong = (refl, refl, refl, refl)

-- The two kinds in the paper's numbers.
sits_in_wall : (n position byte : ℕ) → sits n position byte ≡ in_wall (kind_for n) position byte
unfolding sits in_wall kind_with
sits_in_wall n position byte = grind (arith, common_steps)

-- a position and a wall are bytes
wall-few : (kind : Kind) (position byte : ℕ) → in_wall kind position byte ≡ true → (leb position 255 ≡ true) × (leb byte 255 ≡ true)
unfolding in_wall
wall-few kind position byte e = grind (arith, common_steps, both, largest, in_bounds, le-leb, panels_few, largest_few)

-- so that of a tiling only the flags' ranges and the wall count
four : (a b c x y : Bool) → (c ≡ true → (x ≡ true) × (y ≡ true)) → ((a && (b && (x && (y && true)))) && c) ≡ (a && (b && c))
four false b c x y h = refl
four true false c x y h = refl
four true true false x y h = and-false (x && (y && true))
four true true true x y h = let (p, q) = h refl in rw (p, q)

allowed_is : (model : Model) (enable frame position wall : ℕ)
    → allowed_for model tiling_row (enable ∷ frame ∷ position ∷ wall ∷ []) ≡ (leb enable 1 && (leb frame 1 && in_wall model.kind position wall))
unfolding settings all_allowed
allowed_is model enable frame position wall = grind (arith, common_steps, up_to_lem, four, wall-few)

-- Kind, position and wall among a panel's values.
module _ (values : List ℕ) where
  kind_is : get_or values 0 0 ≡ get_or (values_of kind_row values) 0 0
  unfolding settings allowed_by_row flatten
  kind_is = sym (value_of kind_row 0 values (omega arith))

  pub in_own_wall : (position byte : ℕ) → sits (get_or values 0 0) position byte ≡ in_wall (kind_for (get_or (values_of kind_row values) 0 0)) position byte
  in_own_wall position byte = grind (arith, common_steps, sits_in_wall, kind_for, kind_is)

  pub value_at : (k : ℕ) → k < 4 → get_or (values_of tiling_row values) k 0 ≡ get_or values (2 + k) 0
  unfolding settings allowed_by_row flatten
  value_at k h = value_of tiling_row k values h

-- What a panel then holds.
module _ (p : Panel) (enable frame position byte : ℕ) where
  abbrev vs : List ℕ
  vs = enable ∷ frame ∷ position ∷ byte ∷ []

  abbrev wall : ℕ
  wall = cond (eqb byte 0) (get_or p.values 5 0) byte

  abbrev good : Bool
  good = leb enable 1 && (leb frame 1 && sits (get_or p.values 0 0) position wall)

  held_is : held_then tiling_row vs p ≡ enable ∷ frame ∷ position ∷ wall ∷ []
  unfolding filled
  held_is = grind (arith, common_steps, values_of, tiling_row, value_at)

  pub held-allowed : allowed_for (model_of p) tiling_row (held_then tiling_row vs p) ≡ good
  held-allowed =
      ap (allowed_for (model_of p) tiling_row) held_is ∙ allowed_is (model_of p) enable frame position wall
      ∙ ap (λ (s : Bool). leb enable 1 && (leb frame 1 && s)) (sym (in_own_wall p.values position wall))

  takes_it : takes tiling_row vs p ≡ good
  unfolding takes off_already
  takes_it = and-true (allowed_for (model_of p) tiling_row (held_then tiling_row vs p)) ∙ held-allowed

sets_tiling : (enable frame position byte : ℕ)
    → command (0x22 ∷ enable ∷ frame ∷ position ∷ byte ∷ []) ≡ set_of tiling_row (enable ∷ frame ∷ position ∷ byte ∷ [])
unfolding settings found_from command
sets_tiling enable frame position byte = refl

-- the panel after it
tiling_then : (p : Panel) → GoodPanel p → (enable frame position byte : ℕ) (t : Bool) → good p enable frame position byte ≡ t
    → take 4 (drop 2 (cond t (stored tiling_row (held_then tiling_row (vs p enable frame position byte) p) p) p).values)
    ≡ cond t (enable ∷ frame ∷ position ∷ wall p enable frame position byte ∷ []) (take 4 (drop 2 p.values))
unfolding settings allowed_by_row flatten
tiling_then p ok enable frame position byte true e =
    stored_own tiling_row (held_then tiling_row (vs p enable frame position byte) p) p (held-allowed p enable frame position byte ∙ e) ok.full
    ∙ held_is p enable frame position byte
tiling_then p ok enable frame position byte false e = refl

pub tiling_set : TilingSet
unfolding judge
tiling_set t f i k enable frame position byte n there r intact part =
    let p = panel t f i k there in
    let sets = ap command part ∙ sets_tiling enable frame position byte in
    let after = own_model (panels_of t) r i (group_id 0) n tiling_row (vs p enable frame position byte) intact sets k (place_there i (panels_of t) k there).0 in (
      asked_replies t f i k there r n intact ∙ ap (λ (c : Command). reply_by i (judge c p)) sets
          ∙ rw (takes_it p enable frame position byte) (set-reply i (good p enable frame position byte) _),
      ap (λ (q : Panel). take 4 (drop 2 q.values)) after
          ∙ rw (asked_reached t f i k there, held-allowed p enable frame position byte)
          (tiling_then p (asked_good t f i k there) enable frame position byte (good p enable frame position byte) refl),
    )

-- At all times.
kind_few : (model : Model) (values : List ℕ) → allowed_for model kind_row (values_of kind_row values) ≡ true → leb (get_or values 0 0) 1 ≡ true
unfolding settings allowed_by_row flatten all_allowed
kind_few model [] e = absurd (false≢true e)
kind_few model (n ∷ values) e = grind (arith, common_steps, up_to_lem, both, within)

sits_there : (p : Panel) → allowed_for (model_of p) tiling_row (values_of tiling_row p.values) ≡ true
    → sits (get_or p.values 0 0) (get_or p.values 4 0) (get_or p.values 5 0) ≡ true
sits_there p e = grind (arith, common_steps, in_own_wall, model_of, value_at, both, in_ranges, tiling_row, values_of)

pub always-sits : AlwaysSits
always-sits t c k h =
    let p = get_or (panels_of t) k blank in
    let ok = good_at (panels_of t) (in_range_lem t c).good k h in
    (kind_few (model_of p) p.values (ok.in_range kind_row (omega arith)), sits_there p (ok.in_range tiling_row (omega arith)))

-- The host.
in_largest : (kind : Kind) (position : ℕ) → in_wall kind position (largest kind) ≡ up_to (cond (eqb (kind_number kind) 0) 25 150) position
unfolding in_wall up_to
in_largest Kind.FiveByFive position = refl
in_largest Kind.FifteenByTen position = refl

sits_by : (kind : Kind) (position byte : ℕ) → in_wall kind position byte ≡ sits (kind_number kind) position byte
sits_by kind position byte = grind (arith, common_steps, option_map_or, number_back, sits_in_wall, kind_number)

pub host_tiling : HostTiling
unfolding settings is_report filled
host_tiling model enable frame position byte = grind (arith, common_steps, allowed_for, tiling_row, kind_number, allowed_is, sits_by, largest, in_largest)
