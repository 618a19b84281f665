use mathlib.Core.Path.{◌≡◌}
use mathlib.Core.Bool.{true}
use native.Mathlib.Omega.{arith}
use borrow.Author.Tests.{le-leb, lt-leb, eq-eqb, ne_eqb}
use lib.Dec.{leb}
use lib.ListN.{length}
use Rattle.image_forms.specs.Forms.{head_size}
use Rattle.image_record.specs.Head.{head_fits}
use Rattle.image_record.proofs.head_fits.Goals as goal

pub returns-then-bytes-head_size : goal.returns-then-bytes-head_size
unfolding head_fits
returns-then-bytes-head_size c =
    let a = c.args in
    simp (lt-leb (head_size a.form) (length a.bytes.now) (omega (arith, c.head_size.ensures)))

pub returns-then-id-eq0 : goal.returns-then-id-eq0
unfolding head_fits
returns-then-id-eq0 c =
    let whole : let a = c.args in leb (head_size a.form) (length a.bytes.now) ≡ true = let a = c.args in le-leb (head_size a.form) (length a.bytes.now) (omega (arith, c.head_size.ensures)) in
    simp (whole, eq-eqb _ _ c.if-id-eq0.true)

pub returns-then-bytes-eq0 : goal.returns-then-bytes-eq0
unfolding head_fits
returns-then-bytes-eq0 c =
    let whole : let a = c.args in leb (head_size a.form) (length a.bytes.now) ≡ true = let a = c.args in le-leb (head_size a.form) (length a.bytes.now) (omega (arith, c.head_size.ensures)) in
    simp (whole, ne_eqb _ _ c.if-id-eq0.false, eq-eqb _ _ c.if-bytes-eq0.true)

pub returns : goal.returns
unfolding head_fits
returns c =
    let whole : let a = c.args in leb (head_size a.form) (length a.bytes.now) ≡ true = let a = c.args in le-leb (head_size a.form) (length a.bytes.now) (omega (arith, c.head_size.ensures)) in
    simp (whole, ne_eqb _ _ c.if-id-eq0.false, ne_eqb _ _ c.if-bytes-eq0.false)
