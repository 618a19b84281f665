use mathlib.Core.Path.{◌≡◌, ◌∙◌}
use mathlib.Core.List.{List, [], ◌∷◌, flatten}
use Prim.Native.Nat.{ℕ, ◌+◌}
use lib.Dec.{T, ltb, ltb→lt}
use lib.ListN.{get_or, take, drop}
use lib.Seq.{get_or-take, get_or-drop}
use Rattle.settings.specs.Settings.{settings, allowed_by_row, video_row, values_of}
use Rattle.profiles.specs.Video.{video_in}
use Rattle.panels.specs.Wall.{video_of}
use Rattle.panels.proofs.video_of.Goals as goal

-- The seven values are those of the row. Assumes nothing.
-- a panel's seven values from place 6 on, one by one
seven : List ℕ → List ℕ
seven v = get_or v 6 0 ∷ get_or v 7 0 ∷ get_or v 8 0 ∷ get_or v 9 0 ∷ get_or v 10 0 ∷ get_or v 11 0 ∷ get_or v 12 0 ∷ []

at : (v : List ℕ) (k : ℕ) → T (ltb k 7) → get_or (take 7 (drop 6 v)) k 0 ≡ get_or v (6 + k) 0
at v k t = get_or-take 7 (drop 6 v) k 0 (ltb→lt k 7 t) ∙ get_or-drop 6 v k 0

same-video : (v : List ℕ) → video_in (seven v) ≡ video_in (values_of video_row v)
unfolding video_in seven settings allowed_by_row flatten
same-video v = rw (at v 0 tt, at v 1 tt, at v 2 tt, at v 3 tt, at v 4 tt, at v 5 tt, at v 6 tt)

pub returns-in_default : goal.returns-in_default
unfolding video_of
returns-in_default c = rw c.in_default.is

pub returns : goal.returns
unfolding video_of seven
returns c =
    rw (c.video_in.ensures, c.in-Phoenix.is, same-video c.args.p.values)
