-- What the table has of the names in a burst decides what the burst leaves. Assumes nothing.
use mathlib.Core.Path.{◌≡◌, sym, ap, ap₂, subst, ◌∙◌}
use mathlib.Core.List.{List, map}
use Prim.Native.Nat.{ℕ, ◌%◌, ◌<◌}
use native.Mathlib.Omega.{arith}
use lib.ListN.{length, get_or}
use Rattle.std.proofs.lemmas.List.{get_or_default}
use Rattle.packet.specs.declared.MonitorId.{MonitorId}
use Rattle.packet.specs.declared.Edition.{Edition}
use Rattle.packet.specs.declared.Verdict.{Verdict}
use Rattle.packet.specs.Packet.{damage_in}
use Rattle.packet.specs.Reading.{Reading}
use Rattle.panels.specs.declared.Panel.{Panel}
use Rattle.panels.specs.declared.Table.{Table}
use Rattle.panels.specs.Wall.{Wall, blank, panels_of, table_of, most_panels, id_count, group_count}
use Rattle.panels.specs.WellFormed.{WellFormed}
use Rattle.panels.proofs.Laws.{held_places, places_many}
use Rattle.panels.proofs.Index.{place_found, members_found}
use Rattle.answers.specs.declared.Entry.{Entry}
use Rattle.answers.specs.declared.Names.{Names}
use Rattle.answers.specs.declared.Played.{Played}
use Rattle.answers.specs.declared.Heard.{Heard}
use Rattle.answers.specs.declared.Turn.{Turn}
use Rattle.answers.specs.declared.Change.{Change}
use Rattle.answers.specs.Played.{answered_by, answered, answered_on}
use Rattle.std.specs.Prelude.{Option, Some, None}
use Rattle.answers.specs.Turn.{names_in, entry_of, turn_by, turn_on, heard_as, turned_by, Fits}
use Rattle.answers.proofs.Turns.{Leaves, turn_leaves, turn_replies}

-- the index and the places of a table have what its wall has
pub entry_is : {t : Table} → WellFormed t → (n : Names) → n.id.0 < id_count → n.group.0 < group_count → (count : ℕ) → count ≡ length (panels_of t) → (d : Panel)
    → let at = get_or t.places n.id.0 0 in
    ◌≡◌ {A = Entry} (record { count = count; members = get_or t.members n.group.0 0; at = at; panel = get_or t.panels (at % most_panels) d }) (entry_of (panels_of t) n)
unfolding entry_of
entry_is {t} f n i g count c d =
    let at = place_found f n.id i 0 in
    let members = members_found f n.group g 0 in
    let k = get_or t.places n.id.0 0 % most_panels in
    let many : length t.panels ≡ most_panels = ap length (held_places f) ∙ places_many _ f.few in
    let panel : get_or t.panels k d ≡ get_or t.panels k blank = get_or_default t.panels k d blank (omega arith) in
    let there = panel ∙ ap₂ (λ (l : List Panel) (m : ℕ). get_or l m blank) (held_places f) (ap (λ (m : ℕ). m % most_panels) at) in
    λ j. record { count = c j; members = members j; at = at j; panel = there j }

-- a burst by its parts
abbrev pub reading : Verdict → List ℕ → Option MonitorId → Reading
reading v d a = record { verdict = v; part = d; seems = a }

module _ {t : Table} (f : WellFormed t) (v : Verdict) (d : List ℕ) (a : Option MonitorId) where
  -- by what the table has of its names
  pub turn_is : {n : Names} {e : Entry} {turn : Turn} → n ≡ names_in v a → e ≡ entry_of (panels_of t) n → turn ≡ turn_by e v d a → turn ≡ turn_on (panels_of t) v d a
  turn_is named there is = is ∙ ap (λ (e : Entry). turn_by e v d a) (there ∙ ap (entry_of (panels_of t)) named)

  -- what a burst leaves of a table's wall
  pub leaves : Leaves (turn_on (panels_of t) v d a).change d (panels_of t) (answered_by v (panels_of t) d a).wall
  leaves = turn_leaves (panels_of t) f.few f.good v d a

  -- and of the table
  pub left_is : {u : Table} → u ≡ table_of (answered_by v (panels_of t) d a).wall
      → ◌≡◌ {A = Played} (record { table = u; reply = (turn_on (panels_of t) v d a).reply; damage = damage_in v }) (answered_on t (reading v d a))
  unfolding answered
  left_is e = λ j. record { table = e j; reply = turn_replies (panels_of t) f.few f.good v d a j; damage = damage_in v }

-- what was heard of a burst
pub heard_leaves : {t : Table} (f : WellFormed t) (edition : Edition) (v : Verdict) (d : List ℕ) (a : Option MonitorId) {h : Heard} → h ≡ heard_as edition (turn_on (panels_of t) v d a)
    → Leaves h.change d (panels_of t) (answered_by v (panels_of t) d a).wall
heard_leaves {t} f edition v d a gave =
    subst (λ (o : Option Change). Leaves o d (panels_of t) (answered_by v (panels_of t) d a).wall) (sym (ap (λ (h : Heard). h.change) gave)) (leaves f v d a)

module _ {t : Table} (f : WellFormed t) (d : List ℕ) (w : Wall) where
  -- nothing changes: the table stays
  pub table_stays : {o : Option Change} → o ≡ None → Leaves o d (panels_of t) w → t ≡ table_of w
  table_stays e l = f.held ∙ ap table_of (sym (subst (λ (o : Option Change). Leaves o d (panels_of t) w) e l))

  pub change_fits : {o : Option Change} {c : Change} → o ≡ Some c → Leaves o d (panels_of t) w → Fits c d (panels_of t)
  change_fits e l = (subst (λ (o : Option Change). Leaves o d (panels_of t) w) e l).0

  pub table_changed : {o : Option Change} {c : Change} {u : Table} → o ≡ Some c → Leaves o d (panels_of t) w → u ≡ table_of (map (turned_by c d) (panels_of t)) → u ≡ table_of w
  table_changed e l is = is ∙ ap table_of (sym (subst (λ (o : Option Change). Leaves o d (panels_of t) w) e l).1)
