-- What a command makes of a panel, and what the panel says to it, goes by the row that it names, the profile and the kind; all else
-- may have been set before or behind it. Assumes nothing.
use Prim.Native.Nat.{ℕ}
use mathlib.Core.Bool.{Bool, true, false, cond}
use mathlib.Core.Path.{◌≡◌, refl, sym, ap, ◌∙◌}
use mathlib.Core.List.{List}
use native.Mathlib.Omega.{arith}
use borrow.Author.Tests.{eqb-true, eqb-false}
use lib.Dec.{eqb}
use lib.ListN.{length}
use Rattle.settings.specs.Settings.{byte_count, values_of, values_with, value_count, kind_row}
use Rattle.models.proofs.Laws.{allowed_many}
use Rattle.packet.specs.declared.MonitorId.{MonitorId}
use Rattle.panels.specs.declared.Panel.{Panel}
use Rattle.panels.specs.Wall.{model_of}
use Rattle.panels.specs.WellFormed.{GoodPanel}
use Rattle.panels.proofs.Values.{length_with, set-row, other_row, by_rows}
use Rattle.answers.specs.Judged.{Command, get_of, set_of, unavailable, held_then, off_already, takes, judge, stored, panel_after, reply_by, not_available, taken}
use Rattle.answers.proofs.Orders.{OnLine, taken-allowed}
use Rattle.answers.proofs.Formed.{stored-others}

-- a panel after a command that is to it
abbrev pub after : Command → Panel → Panel
after c p = panel_after (judge c p) p

-- two panels that are alike in a row
pub record AlikeIn (row : ℕ) (p q : Panel) : Type 0 where
  pub profile : q.profile ≡ p.profile
  pub kind : values_of kind_row q.values ≡ values_of kind_row p.values
  pub own : values_of row q.values ≡ values_of row p.values

-- what a command names is alike
abbrev pub AlikeFor : Command → Panel → Panel → Type 0
AlikeFor (get_of row) p q = AlikeIn row p q
AlikeFor (set_of row vs) p q = AlikeIn row p q
AlikeFor unavailable p q = Unit {0}

module _ {row : ℕ} {p q : Panel} (a : AlikeIn row p q) (vs : List ℕ) where
  held_alike : held_then row vs q ≡ held_then row vs p
  held_alike = rw a.own

  takes_alike : takes row vs q ≡ takes row vs p
  unfolding takes off_already
  takes_alike = rw (a.profile, a.kind, a.own)

  set_alike : after (set_of row vs) q ≡ cond (takes row vs p) (stored row (held_then row vs p) q) q
  unfolding judge
  set_alike = ap (λ (t : Bool). panel_after (cond t (taken (stored row (held_then row vs q) q)) not_available) q) takes_alike ∙ go (takes row vs p)
    where
      go : (t : Bool) → panel_after (cond t (taken (stored row (held_then row vs q) q)) not_available) q ≡ cond t (stored row (held_then row vs p) q) q
      go true = ap (λ (l : List ℕ). stored row l q) held_alike
      go false = refl

pub same-reply : (i : MonitorId) (c : Command) (p q : Panel) → AlikeFor c p q → reply_by i (judge c q) ≡ reply_by i (judge c p)
unfolding judge
same-reply i (get_of row) p q a = rw a.own
same-reply i (set_of row vs) p q a = ap (λ (t : Bool). reply_by i (cond t (taken (stored row (held_then row vs q) q)) not_available)) (takes_alike a vs) ∙ go (takes row vs p)
  where
    go : (t : Bool) → reply_by i (cond t (taken (stored row (held_then row vs q) q)) not_available) ≡ reply_by i (cond t (taken (stored row (held_then row vs p) p)) not_available)
    go true = refl
    go false = refl
same-reply i unavailable p q a = refl

-- values that were stored in two rows, in either order
module _ {row other : ℕ} (ne : row ≡ other → ⊥) (vs us values : List ℕ) (n : length vs ≡ byte_count row) (m : length us ≡ byte_count other)
    (full : length values ≡ value_count) where
  full_with : length (values_with row vs values) ≡ value_count
  full_with = length_with row vs values n full

  full-other : length (values_with other us values) ≡ value_count
  full-other = length_with other us values m full

  either_first : values_with row vs (values_with other us values) ≡ values_with other us (values_with row vs values)
  either_first =
      by_rows _ _ (length_with row vs _ n full-other) (length_with other us _ m full_with) (λ r h. go r (eqb r row) (eqb r other) refl refl)
    where
      go : (r : ℕ) (a b : Bool) → eqb r row ≡ a → eqb r other ≡ b
          → values_of r (values_with row vs (values_with other us values)) ≡ values_of r (values_with other us (values_with row vs values))
      go r true b e f =
          let is = eqb-true r row e in
          rw is (set-row row vs _ n full-other ∙ sym (other_row other us _ m full_with row ne ∙ set-row row vs values n full))
      go r false true e f =
          let is = eqb-true r other f in
          rw is (other_row row vs _ n full-other other (λ s. ne (sym s)) ∙ set-row other us values m full ∙ sym (set-row other us _ m full_with))
      go r false false e f =
          other_row row vs _ n full-other r (eqb-false r row e) ∙ other_row other us values m full r (eqb-false r other f)
          ∙ sym (other_row other us _ m full_with r (eqb-false r other f) ∙ other_row row vs values n full r (eqb-false r row e))

-- a command that does not set a row
abbrev pub Leaves : Command → ℕ → Type 0
Leaves (get_of other) row = Unit {0}
Leaves (set_of other us) row = row ≡ other → ⊥
Leaves unavailable row = Unit {0}

alike_itself : (row : ℕ) (p : Panel) → AlikeIn row p p
alike_itself row p = record { profile = refl; kind = refl; own = refl }

-- leaves the panel alike in it
pub left_alike : (row : ℕ) (d : Command) → OnLine d → Leaves d row → (p : Panel) → GoodPanel p → AlikeIn row p (after d p)
unfolding judge
left_alike row (get_of other) on l p good = alike_itself row p
left_alike row unavailable on l p good = alike_itself row p
left_alike row (set_of other us) on l p good = go (takes other us p) refl
  where
    go : (t : Bool) → takes other us p ≡ t → AlikeIn row p (panel_after (cond t (taken (stored other (held_then other us p) p)) not_available) p)
    go false e = alike_itself row p
    go true e =
        let others = stored-others other (held_then other us p) p (taken-allowed other us p e) good.full in
        record { profile = unfold stored in refl; kind = others kind_row (λ s. absurd (omega (arith, on.0, s))); own = others row l }

-- two sets of different rows, in either order
pub sets_either : (row other : ℕ) → (row ≡ other → ⊥) → (vs us : List ℕ) → OnLine (set_of row vs) → OnLine (set_of other us) → (p : Panel) → GoodPanel p
    → after (set_of row vs) (after (set_of other us) p) ≡ after (set_of other us) (after (set_of row vs) p)
sets_either row other ne vs us on on-other p good =
    set_alike (left_alike row (set_of other us) on-other ne p good) vs
    ∙ ap (λ (q : Panel). cond t (stored row held q) q) (set_alike (alike_itself other p) us)
    ∙ go t s refl refl
    ∙ sym (ap (λ (q : Panel). cond s (stored other held-other q) q) (set_alike (alike_itself row p) vs))
    ∙ sym (set_alike (left_alike other (set_of row vs) on (λ e. ne (sym e)) p good) us)
  where
    t : Bool
    t = takes row vs p

    s : Bool
    s = takes other us p

    held : List ℕ
    held = held_then row vs p

    held-other : List ℕ
    held-other = held_then other us p

    both_stored : t ≡ true → s ≡ true → stored row held (stored other held-other p) ≡ stored other held-other (stored row held p)
    both_stored x y =
        unfold stored in
        ap {B = Panel} (λ (l : List ℕ). record { id = p.id; group = p.group; profile = p.profile; values = l })
        (either_first ne held held-other p.values (allowed_many (model_of p) row held (taken-allowed row vs p x))
        (allowed_many (model_of p) other held-other (taken-allowed other us p y)) good.full)

    go : (a b : Bool) → t ≡ a → s ≡ b
        → let q = cond b (stored other held-other p) p in
        let r = cond a (stored row held p) p in
        cond a (stored row held q) q ≡ cond b (stored other held-other r) r
    go true true x y = both_stored x y
    go true false x y = refl
    go false true x y = refl
    go false false x y = refl
