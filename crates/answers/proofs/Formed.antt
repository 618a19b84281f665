-- A burst keeps a wall good: every setting stays in its range. Assumes nothing.
use mathlib.Core.Path.{◌≡◌, refl, sym, ap, subst, ◌∙◌}
use mathlib.Core.Bool.{Bool, true, false, cond}
use mathlib.Core.List.{List}
use Prim.Native.Nat.{ℕ, ◌<◌}
use native.Mathlib.Omega.{arith}
use borrow.Author.Tests.{eqb-true}
use lib.Dec.{eqb}
use lib.ListN.{length, get_or, length-map}
use Rattle.std.specs.Prelude.{Option}
use Rattle.lists.specs.Lists.{same}
use Rattle.lists.proofs.Both.{both}
use Rattle.lists.proofs.Same.{same_is}
use Rattle.settings.specs.Settings.{byte_count, values_of, values_with, value_count, kind_row, power_row, off}
use Rattle.models.specs.Models.{allowed_for}
use Rattle.models.proofs.Laws.{allowed_many}
use Rattle.models.proofs.Filled.{filled-other}
use Rattle.packet.specs.declared.MonitorId.{MonitorId}
use Rattle.packet.specs.declared.GroupId.{GroupId}
use Rattle.packet.specs.declared.Verdict.{Verdict}
use Rattle.packet.specs.Reading.{Reading}
use Rattle.panels.specs.declared.Panel.{Panel}
use Rattle.panels.specs.declared.Table.{Table}
use Rattle.panels.specs.Wall.{Wall, model_of, table_of, panels_of}
use Rattle.panels.specs.Addressed.{reaches}
use Rattle.panels.specs.WellFormed.{GoodPanel, GoodWall, WellFormed}
use Rattle.panels.proofs.Values.{with_own, set-row, other_row, with_in_range}
use Rattle.panels.proofs.Formed.{formed, good-map}
use Rattle.panels.proofs.Laws.{panels_of_table}
use Rattle.answers.specs.declared.Played.{Played}
use Rattle.answers.specs.Judged.{Command, get_of, set_of, unavailable, command, not_available, taken, off_already, held_then, takes, judge, stored, panel_after}
use Rattle.answers.specs.Played.{turned, answered_by, answered, answered_on}
use Rattle.answers.proofs.Orders.{OnLine, on_line, taken-allowed}

-- storing what a row has changes nothing
stored-held : (row : ℕ) (vs : List ℕ) (p : Panel) → values_of row p.values ≡ vs → stored row vs p ≡ p
unfolding stored
stored-held row vs p e =
    ap {B = Panel} (λ (l : List ℕ). record { id = p.id; group = p.group; profile = p.profile; values = l })
    (ap (λ (u : List ℕ). values_with row u p.values) (sym e) ∙ with_own row p.values)

-- A row that was stored to has the values, and every other row has what it had.
module _ (row : ℕ) (vs : List ℕ) (p : Panel) (ok : allowed_for (model_of p) row vs ≡ true) (full : length p.values ≡ value_count) where
  n : length vs ≡ byte_count row
  n = allowed_many (model_of p) row vs ok

  pub stored_own : values_of row (stored row vs p).values ≡ vs
  unfolding stored
  stored_own = set-row row vs p.values n full

  pub stored-others : (other : ℕ) → (other ≡ row → ⊥) → values_of other (stored row vs p).values ≡ values_of other p.values
  unfolding stored
  stored-others = other_row row vs p.values n full

  -- storing the same once more changes nothing
  pub stored-twice : stored row vs (stored row vs p) ≡ stored row vs p
  stored-twice = stored-held row vs (stored row vs p) stored_own

-- a good panel with allowed values stored in the row of a setting is good
stored-good : (row : ℕ) (vs : List ℕ) (p : Panel) → kind_row < row → allowed_for (model_of p) row vs ≡ true → GoodPanel p → GoodPanel (stored row vs p)
unfolding stored
stored-good row vs p s ok g =
    let i = with_in_range (record { full = g.full; rows = g.in_range }) row vs ok (λ e. absurd (omega arith)) in
    record { named = g.named; grouped = g.grouped; full = i.full; in_range = i.rows }

-- power off leaves a panel that is off as it is
pub off-same : (row : ℕ) (vs : List ℕ) (p : Panel) → off_already row vs p ≡ true → stored row (held_then row vs p) p ≡ p
unfolding off_already
off-same row vs p e =
    let (power, values) = both (eqb row power_row) _ e in
    let (to, from) = both (same vs off) _ values in
    let as-sent = filled-other row (get_or (values_of row p.values) 3 0) vs (λ t. omega (arith, eqb-true row power_row power)) in
    stored-held row _ p (same_is (values_of row p.values) off from ∙ sym (as-sent ∙ same_is vs off to))

-- what storing keeps, a panel that is turned keeps: its names
module _ {A : Type 0} (f : Panel → A) (p : Panel) (kept : (row : ℕ) (vs : List ℕ) → f (stored row vs p) ≡ f p) where
  judged-keeps : (c : Command) → f (panel_after (judge c p) p) ≡ f p
  unfolding judge
  judged-keeps (get_of row) = refl
  judged-keeps (set_of row vs) = go (takes row vs p)
    where
      go : (t : Bool) → f (panel_after (cond t (taken (stored row (held_then row vs p) p)) not_available) p) ≡ f p
      go true = kept row (held_then row vs p)
      go false = refl
  judged-keeps unavailable = refl

  pub turned-keeps : (i : MonitorId) (g : GroupId) (c : Command) → f (turned i g c p) ≡ f p
  unfolding turned
  turned-keeps i g c = go (reaches i g p)
    where
      go : (t : Bool) → f (cond t (panel_after (judge c p) p) p) ≡ f p
      go true = judged-keeps c
      go false = refl

judged-good : (c : Command) → OnLine c → (p : Panel) → GoodPanel p → GoodPanel (panel_after (judge c p) p)
unfolding judge
judged-good (get_of row) s p g = g
judged-good (set_of row vs) s p g = go (takes row vs p) refl
  where
    go : (t : Bool) → takes row vs p ≡ t → GoodPanel (panel_after (cond t (taken (stored row (held_then row vs p) p)) not_available) p)
    go true e = stored-good row (held_then row vs p) p s.0 (taken-allowed row vs p e) g
    go false e = g
judged-good unavailable s p g = g

turned-id : (i : MonitorId) (g : GroupId) (c : Command) (p : Panel) → (turned i g c p).id ≡ p.id
unfolding stored
turned-id i g c p = turned-keeps (λ (q : Panel). q.id) p (λ row vs. refl) i g c

turned-good : (i : MonitorId) (g : GroupId) (c : Command) → OnLine c → (p : Panel) → GoodPanel p → GoodPanel (turned i g c p)
unfolding turned
turned-good i g c s p ok = go (reaches i g p)
  where
    go : (t : Bool) → GoodPanel (cond t (panel_after (judge c p) p) p)
    go true = judged-good c s p ok
    go false = ok

by_verdict : (v : Verdict) (w : Wall) (d : List ℕ) (a : Option MonitorId)
    → let o = answered_by v w d a in (GoodWall w → GoodWall o.wall) × (length o.wall ≡ length w)
by_verdict Verdict.Empty w d a = (λ good. good, refl)
by_verdict (Verdict.Damaged damage) w d a = (λ good. good, refl)
by_verdict (Verdict.Intact i g n) w d a =
    let c = command d in
    (good-map (turned i g c) (turned-id i g c) (turned-good i g c (on_line d)) w, length-map w (turned i g c))

-- no panel comes or goes
pub answered-count : (w : Wall) (r : Reading) → length (answered w r).wall ≡ length w
unfolding answered
answered-count w r = (by_verdict r.verdict w r.part r.seems).1

-- and a good wall stays one
pub answered-good : (w : Wall) → GoodWall w → (r : Reading) → GoodWall (answered w r).wall
unfolding answered
answered-good w good r = (by_verdict r.verdict w r.part r.seems).0 good

pub answered_formed : {t : Table} → WellFormed t → (r : Reading) → WellFormed (table_of (answered (panels_of t) r).wall)
answered_formed {t} f r = formed _ (omega (arith, f.few, answered-count (panels_of t) r)) (answered-good (panels_of t) f.good r)

-- what was answered on a table: its own, and its wall
module _ {t : Table} (f : WellFormed t) (r : Reading) {p : Played} (is : p ≡ answered_on t r) where
  pub formed_played : WellFormed p.table
  formed_played = subst WellFormed (sym (ap (λ (q : Played). q.table) is)) (answered_formed f r)

  pub wall-played : panels_of p.table ≡ (answered (panels_of t) r).wall
  wall-played = ap (λ (q : Played). panels_of q.table) is ∙ panels_of_table _
