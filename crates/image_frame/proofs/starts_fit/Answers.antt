use mathlib.Core.Path.{◌≡◌, sym, ap, ◌∙◌}
use mathlib.Core.Bool.{◌&&◌}
use mathlib.Core.List.{List}
use Prim.Native.Nat.{ℕ, suc, ◌+◌, ◌-◌, ◌≤◌, ◌<◌}
use native.Mathlib.Numerals.{add-one}
use native.Mathlib.Omega.{arith}
use borrow.Author.Tests.{le-ltb, lt-ltb, eq-eqb, ne_eqb}
use lib.Dec.{ltb, eqb}
use Rattle.image_frame.specs.Frame.{count_of, edge, rises, starts_fit}
use Rattle.image_frame.proofs.starts_fit.Goals as goal

-- with the count at hand
fits_by : (image : List ℕ) (n : ℕ) → n ≡ count_of image → starts_fit image ≡ (eqb (edge image 0) 0 && rises image 0 n)
unfolding starts_fit
fits_by image n e = ap (λ (m : ℕ). eqb (edge image 0) 0 && rises image 0 m) (sym e)

step : (image : List ℕ) (k n : ℕ) → k < n → rises image k (n - k) ≡ (ltb (edge image k) (edge image (k + 1)) && rises image (k + 1) (n - (k + 1)))
unfolding rises
step image k n h = let e : n - k ≡ suc (n - (k + 1)) = omega arith in rw e (rw add-one)

pub returns-then-here-ne0 : goal.returns-then-here-ne0
returns-then-here-ne0 c =
    sym (fits_by _ _ c.requires.0 ∙ simp (ne_eqb (edge c.args.image.now 0) 0 (λ e. c.if-here-ne0.true (c.edge_at-here.ensures ∙ e))))

pub returns-then-next-here : goal.returns-then-next-here
returns-then-next-here c =
    let first : starts_fit c.args.image.now ≡ rises c.args.image.now 0 c.args.n = fits_by _ _ c.requires.0 ∙ simp (eq-eqb (edge c.args.image.now 0) 0 (sym c.edge_at-here.ensures ∙ c.if-here-ne0.false)) in
    let image = c.args.image.now in
    let k = c.loop-k.k in
    let low : edge image (k + 1) ≤ edge image k = omega (arith, c.edge_at-next.ensures, c.loop-k.invariant.0) in
    sym (first ∙ c.loop-k.invariant.1 ∙ step image k c.args.n (omega arith) ∙ simp (le-ltb (edge image k) (edge image (k + 1)) low))

pub loop-k-preserved : goal.loop-k-preserved
loop-k-preserved c =
    let image = c.args.image.now in
    let k = c.loop-k.k in
    let up : edge image k < edge image (k + 1) = omega (arith, c.edge_at-next.ensures, c.loop-k.invariant.0) in
    (c.edge_at-next.ensures, c.loop-k.invariant.1 ∙ step image k c.args.n (omega arith) ∙ simp (lt-ltb (edge image k) (edge image (k + 1)) up))

pub returns : goal.returns
unfolding rises
returns c =
    let first : starts_fit c.args.image.now ≡ rises c.args.image.now 0 c.args.n = fits_by _ _ c.requires.0 ∙ simp (eq-eqb (edge c.args.image.now 0) 0 (sym c.edge_at-here.ensures ∙ c.if-here-ne0.false)) in
    let none : c.args.n - c.loop-k.k ≡ 0 = omega arith in
    sym (first ∙ c.loop-k.invariant.1 ∙ rw none)
