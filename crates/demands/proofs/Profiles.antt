-- Walls of both profiles and both kinds, and the tint with its sign. Assumes nothing.
use mathlib.Core.Path.{◌≡◌, refl, sym, ap₂, ◌∙◌}
use mathlib.Core.Bool.{Bool, true, false, cond, not, ◌&&◌, and-true, or-false}
use mathlib.Core.List.{List, [], ◌∷◌, ◌++◌}
use Prim.Native.Nat.{ℕ, ◌<◌}
use native.Mathlib.Omega.{arith}
use borrow.Author.Tests.{le-leb}
use lib.Dec.{leb}
use lib.IntN.{ℤ, pos, negsuc}
use lib.ListN.{length, get_or}
use lib.Signed.{mag, le_z}
use mir.Syntax.{w8}
use mir.Val.{SFits}
use Rattle.std.proofs.lemmas.List.{get_or-map}
use Rattle.lists.proofs.Each.{alike}
use Rattle.profiles.specs.declared.Video.{Video}
use Rattle.settings.specs.Settings.{settings, ◌to◌, within, all_allowed, byte_count, video_row}
use Rattle.models.specs.Models.{allowed_for}
use Rattle.profiles.specs.Video.{tint_of, video_in, bytes_of}
use Rattle.profiles.proofs.Tints.{byte_back, tint_back}
use Rattle.panels.specs.declared.Panel.{Panel}
use Rattle.panels.specs.Wall.{model_of, blank, video_of}
use Rattle.panels.specs.Addressed.{reaches}
use Rattle.panels.proofs.Values.{set-row}
use Rattle.answers.specs.Judged.{set_of, off_already, held_then, takes, judge, stored, taken, not_available, panel_after}
use Rattle.answers.specs.Played.{turned}
use Rattle.answers.proofs.Formed.{off-same}
use Rattle.answers.proofs.Readings.{answered-intact}
use Rattle.demands.specs.Profiles.{OwnModel, TintBack, in_phoenix_range, VideoAllowed, SeenAsSet}

-- one panel and a set
one_set : (r : Bool) (t : Bool) (q p : Panel) → cond r (panel_after (cond t (taken q) not_available) p) p ≡ cond (r && t) q p
one_set true true q p = refl
one_set true false q p = refl
one_set false t q p = refl

-- power off to a panel that is off is not taken, and storing it changes nothing
as_allowed : (r : Bool) (row : ℕ) (vs : List ℕ) (p : Panel)
    → let q = stored row (held_then row vs p) p in cond (r && takes row vs p) q p ≡ cond (r && allowed_for (model_of p) row (held_then row vs p)) q p
unfolding takes
as_allowed false row vs p = refl
as_allowed true row vs p = go (allowed_for (model_of p) row (held_then row vs p)) (off_already row vs p) refl
  where
    go : (a t : Bool) → off_already row vs p ≡ t
        → let q = stored row (held_then row vs p) p in cond (a && not t) q p ≡ cond a q p
    go false t e = refl
    go true false e = refl
    go true true e = sym (off-same row vs p e)

pub own_model : OwnModel
unfolding turned judge
own_model w r i g n row values intact named k h =
    let f = turned i g (set_of row values) in
    let p = get_or w k blank in
    rw (answered-intact w r i g n intact, named) (get_or-map f w k blank blank h ∙ one_set (reaches i g p) (takes row values p) (stored row (held_then row values p) p) p ∙ as_allowed (reaches i g p) row values p)

fits : (t : ℤ) → mag t < 128 → SFits w8 t
fits t h = record { sfits = h }

pub tint_and_byte : TintBack
tint_and_byte = ((λ b h. byte_back h), (λ t h. tint_back t (fits t h)))

-- the ranges one by one
pub up_to_lem : (high v : ℕ) → within (0 to high) v ≡ leb v high
unfolding within
up_to_lem high v = rw (le-leb 0 v (omega arith)) (or-false (leb v high))

gammas : (v : ℕ) → within (1 to 5) v && true ≡ (leb 1 v && leb v 5)
unfolding within
gammas v = and-true _ ∙ or-false (leb 1 v && leb v 5)

tints : {b : ℕ} → b < 256 → within (0 to 50 ++ 206 to 255) b ≡ (le_z (negsuc 49) (tint_of b) && le_z (tint_of b) (pos 50))
unfolding within tint_of
tints h = alike (λ b. within (0 to 50 ++ 206 to 255) b) (λ b. le_z (negsuc 49) (tint_of b) && le_z (tint_of b) (pos 50)) 256 refl h

and : {a b c d : Bool} → a ≡ b → c ≡ d → (a && c) ≡ (b && d)
and e d = ap₂ ◌&&◌ e d

seven_tests : (a b c d e f g : Bool) → (a && (b && (c && (d && (e && (f && g)))))) ≡ (a && b && c && d && e && f && g)
seven_tests false b c d e f g = refl
seven_tests true false c d e f g = refl
seven_tests true true false d e f g = refl
seven_tests true true true false e f g = refl
seven_tests true true true true false f g = refl
seven_tests true true true true true false g = refl
seven_tests true true true true true true g = refl

pub video-allowed : VideoAllowed
unfolding settings all_allowed video_in in_phoenix_range
video-allowed (b ∷ c ∷ k ∷ s ∷ t ∷ l ∷ g ∷ []) kind e h =
    and-true _ ∙ and (up_to_lem 100 b) (and (up_to_lem 100 c) (and (up_to_lem 100 k) (and (up_to_lem 10 s) (and (tints h) (and (up_to_lem 100 l) (gammas g))))))
    ∙ seven_tests (leb b 100) (leb c 100) (leb k 100) (leb s 10) (le_z (negsuc 49) (tint_of t) && le_z (tint_of t) (pos 50)) (leb l 100) (leb 1 g && leb g 5)
video-allowed [] kind e h = absurd (omega arith)
video-allowed (b ∷ []) kind e h = absurd (omega arith)
video-allowed (b ∷ c ∷ []) kind e h = absurd (omega arith)
video-allowed (b ∷ c ∷ k ∷ []) kind e h = absurd (omega arith)
video-allowed (b ∷ c ∷ k ∷ s ∷ []) kind e h = absurd (omega arith)
video-allowed (b ∷ c ∷ k ∷ s ∷ t ∷ []) kind e h = absurd (omega arith)
video-allowed (b ∷ c ∷ k ∷ s ∷ t ∷ l ∷ []) kind e h = absurd (omega arith)
video-allowed (b ∷ c ∷ k ∷ s ∷ t ∷ l ∷ g ∷ x ∷ rest) kind e h = absurd (omega arith)

video_back : (v : Video) → mag v.tint < 128 → video_in (bytes_of v) ≡ v
unfolding video_in bytes_of
video_back v h = rw (tint_back v.tint (fits _ h))

seven : (v : Video) → length (bytes_of v) ≡ byte_count video_row
unfolding settings bytes_of
seven v = refl

pub seen_as_set : SeenAsSet
unfolding video_of stored
seen_as_set p v good phoenix h = rw (phoenix, set-row video_row (bytes_of v) p.values (seven v) good.full, video_back v h)
