use Rattle.std.proofs.Common.{◌≡◌, ℕ, ◌+◌, ◌-◌, ◌*◌, ◌≤◌, List, [], ◌∷◌, ◌++◌, length, set, sym, ap, ◌∙◌, Ok, arith, length-append}
use mathlib.Core.List.{flatten}
use borrow.Author.Tests.{lt-leb}
use borrow.Rule.Slice.PartMut.{mid_of, put_mid}
use lib.ListN.{length-map}
use Rattle.lists.specs.Lists.{each, laid_at, laid_over}
use Rattle.lists.proofs.Laid.{laid_two}
use Rattle.panels.specs.Wall.{Wall, panels_of}
use Rattle.panels.specs.WellFormed.{GoodWall}
use Rattle.image_forms.specs.declared.Form.{Form}
use Rattle.image_forms.specs.Forms.{form_byte}
use Rattle.image_write.specs.Written.{high_low, records_of, image_of, setup_of, record_of, size_of, written_of, output_of, record_size, panel_size}
use Rattle.image_write.proofs.Lengths.{records_long, starts_are, starts_count, products}
use Rattle.image_write.proofs.Losing.{is_written}
use Rattle.image_write.proofs.Parts.{length_over, behind, laid_next}
use Rattle.image_write.proofs.write_image.Goals as goal

-- Records, starts, count and form byte stand one behind the other. Assumes nothing.
abbrev starts_of_lem : Form → ℕ → List ℕ
starts_of_lem form n = flatten (each (λ k. high_low (record_size form * k)) n)

module _ (form : Form) (w : Wall) (good : GoodWall w) (out : List ℕ) (room : size_of form w ≤ length out) where
  sizes : panel_size form * length w ≡ record_size form * length w + 2 * length w
  sizes = (products form 0 (length w)).0

  starts_long : length (starts_of_lem form (length w)) ≡ 2 * length w
  starts_long =
      ap (λ (ls : List (List ℕ)). length (flatten ls)) (sym (starts_are form w good)) ∙ starts_count (records_of form w) ∙ ap (λ (m : ℕ). 2 * m) (length-map w (record_of form))

  -- the starts are laid behind the records
  starts_laid : (m n : ℕ) (h last : List ℕ) → m ≡ record_size form * length w → n ≡ length w → h ≡ laid_over (flatten (records_of form w)) out
      → last ≡ laid_over (starts_of_lem form n) (mid_of m (length h - m) h)
      → put_mid m (length h - m) h last ≡ laid_over (flatten (records_of form w) ++ starts_of_lem form (length w)) out
  starts_laid m n h last e en so_far is =
      let long = records_long form w good in
      let many = starts_long in
      laid_next m (flatten (records_of form w)) (starts_of_lem form (length w)) out h last so_far (omega arith) (omega (arith, sizes))
      (is ∙ ap (λ (n : ℕ). laid_over (starts_of_lem form n) (mid_of m (length h - m) h)) en)

  -- and the trailer behind them
  image_laid : (m n b : ℕ) (h : List ℕ) → m ≡ panel_size form * length w → n ≡ length w → b ≡ form_byte form
      → h ≡ laid_over (flatten (records_of form w) ++ starts_of_lem form (length w)) out → set (set h m n) (m + 1) b ≡ laid_over (setup_of form w) out
  unfolding image_of
  image_laid m n b h e en eb so_far =
      let r = flatten (records_of form w) in
      let s = starts_of_lem form (length w) in
      let trailer = length w ∷ form_byte form ∷ [] in
      let both : length (r ++ s) ≡ panel_size form * length w = length-append r s ∙ omega (arith, records_long form w good, starts_long, sizes) in
      let long = ap length so_far ∙ length_over (r ++ s) out (omega arith) in
      rw (en, eb) (laid_two m (length w) (form_byte form) h (omega arith))
      ∙ ap (laid_at m trailer) so_far ∙ behind m (r ++ s) trailer out (omega arith) (omega arith) ∙ rw (starts_are form w good, length-map w (record_of form))

pub returns-then-not-loses_nothing-clause-value : goal.returns-then-not-loses_nothing-clause-value
unfolding written_of
returns-then-not-loses_nothing-clause-value c =
    let loses = sym c.loses_nothing.ensures ∙ c.if-not-loses_nothing.true in
    simp loses

pub returns-then-not-loses_nothing-clause-out_after : goal.returns-then-not-loses_nothing-clause-out_after
unfolding output_of
returns-then-not-loses_nothing-clause-out_after c =
    let loses = sym c.loses_nothing.ensures ∙ c.if-not-loses_nothing.true in
    simp loses

pub returns-then-out-size-clause-value : goal.returns-then-out-size-clause-value
unfolding written_of
returns-then-out-size-clause-value c =
    let all_held = sym c.loses_nothing.ensures ∙ c.if-not-loses_nothing.false in
    let short = lt-leb _ _ (rw c.size_of-size.ensures at c.if-out-size.true) in
    simp (all_held, short)

pub returns-then-out-size-clause-out_after : goal.returns-then-out-size-clause-out_after
unfolding output_of
returns-then-out-size-clause-out_after c =
    let all_held = sym c.loses_nothing.ensures ∙ c.if-not-loses_nothing.false in
    let short = lt-leb _ _ (rw c.size_of-size.ensures at c.if-out-size.true) in
    simp (all_held, short)

pub returns-clause-value : goal.returns-clause-value
returns-clause-value c =
    let all_held = sym c.loses_nothing.ensures ∙ c.if-not-loses_nothing.false in
    let written = is_written c.args.form (panels_of c.args.t) c.args.out.now all_held (rw c.size_of-size.ensures at c.if-out-size.false) in
    ap Ok c.size_of-size.ensures ∙ sym written.0

pub returns-clause-out_after : goal.returns-clause-out_after
returns-clause-out_after c =
    let all_held = sym c.loses_nothing.ensures ∙ c.if-not-loses_nothing.false in
    let room = rw c.size_of-size.ensures at c.if-out-size.false in
    let written = is_written c.args.form (panels_of c.args.t) c.args.out.now all_held room in
    let form = c.args.form in
    let w = panels_of c.args.t in
    let size = c.size_of-size.ensures in
    let n = c.count_of-n.ensures in
    let both = sizes form w c.requires.good c.args.out.now room in
    let starts = starts_laid form w c.requires.good c.args.out.now room _ _ _ _ (omega arith) n c.records.ensures c.starts.ensures in
    image_laid form w c.requires.good c.args.out.now room _ _ _ _ (omega arith) n c.from.ensures starts ∙ sym written.1
