use mathlib.Core.Path.{◌≡◌, sym, ◌∙◌}
use mathlib.Core.Bool.{true}
use borrow.Author.Tests.{leb-true}
use Rattle.lists.proofs.Both.{both}
use Rattle.image_record.specs.Head.{marked, head_fits, head_in}
use Rattle.image_record.proofs.head_in.Goals as goal

pub returns-then-not-head_fits : goal.returns-then-not-head_fits
unfolding head_in
returns-then-not-head_fits c = let misfit = sym c.head_fits.ensures ∙ c.if-not-head_fits.true in rw misfit

pub profile_in-requires : goal.profile_in-requires
unfolding head_fits
profile_in-requires c =
    let head : let a = c.args in head_fits a.form (marked a.seen.now) a.bytes.now ≡ true = sym c.head_fits.ensures ∙ c.if-not-head_fits.false in
    let (abc, _) = both _ _ head in
    let (ab, _) = both _ _ abc in
    leb-true _ _ (both _ _ ab).0

pub returns : goal.returns
unfolding head_in
returns c =
    let head : let a = c.args in head_fits a.form (marked a.seen.now) a.bytes.now ≡ true = sym c.head_fits.ensures ∙ c.if-not-head_fits.false in
    rw head c.profile_in.ensures
