use mathlib.Core.Path.{◌≡◌, refl, sym, ap, ◌∙◌}
use mathlib.Core.List.{List}
use Prim.Native.Nat.{ℕ}
use Rattle.settings.specs.declared.Profile.{Profile}
use Rattle.settings.specs.Settings.{Range, all_allowed, in_ranges, video_row}
use Rattle.settings.proofs.Laws.{all_else, eq_other, is_general}
use Rattle.settings.proofs.ranges.in_ranges.Goals as goal
use Rattle.settings.proofs.ranges.in_ranges.Goals.{in-Phoenix+else-eq, in_default}

-- All but the video of a Phoenix panel is as general. Assumes nothing.
as_general : (profile : Profile) (row : ℕ) (vs : List ℕ) → (row ≡ video_row → ⊥) → in_ranges Profile.General row vs ≡ in_ranges profile row vs
as_general Profile.General row vs ne = refl
as_general Profile.Phoenix row vs ne = ap (λ (rs : List (List Range)). all_allowed rs vs) (sym (all_else row ne))

pub returns : goal.returns
returns c =
    c.general_allowed.ensures
    ∙ elim c.match-profile.branch [
      | in-Phoenix+else-eq w ↦ as_general _ _ _ (eq_other w.eq.ensures w.if-eq.false)
      | in_default w ↦ ap (λ (profile : Profile). in_ranges profile c.args.row c.args.values.now) (sym (is_general c.args.profile w.in_default.not-Phoenix))
    ]
