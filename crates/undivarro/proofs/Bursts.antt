-- What the parts of a burst that is played leave together. Assumes nothing.
use mathlib.Core.Path.{◌≡◌, ap, ap₂, ◌∙◌}
use mathlib.Core.List.{List}
use Prim.Native.Nat.{ℕ}
use lib.ListN.{length}
use Rattle.std.specs.Prelude.{Option}
use Rattle.packet.specs.declared.MonitorId.{MonitorId}
use Rattle.lists.specs.Lists.{laid_over}
use Rattle.packet.specs.declared.Edition.{Edition}
use Rattle.packet.specs.declared.Verdict.{Verdict}
use Rattle.packet.specs.Packet.{damage_in, damage_number}
use Rattle.packet.specs.Reading.{reading_of}
use Rattle.panels.specs.declared.Table.{Table}
use Rattle.panels.specs.Wall.{panels_of, table_of}
use Rattle.panels.specs.WellFormed.{WellFormed}
use Rattle.answers.specs.declared.Heard.{Heard}
use Rattle.answers.specs.declared.Played.{Played}
use Rattle.answers.specs.Reply.{sent_bytes}
use Rattle.answers.specs.Played.{answered_by, answered_on}
use Rattle.answers.specs.Turn.{turn_on, heard_as}
use Rattle.answers.proofs.Formed.{formed_played}
use Rattle.answers.proofs.Entries.{reading, left_is}
use Rattle.image_forms.specs.declared.Form.{Form}
use Rattle.image_write.specs.Written.{setup_of, size_of}
use Rattle.undivarro.specs.declared.Outcome.{Outcome}
use Rattle.undivarro.specs.Calls.{After, after_burst}
use Rattle.undivarro.proofs.Calls.{size_played, given-played}

-- by what was read of it, and with the table that it leaves
module _ {t : Table} (f : WellFormed t) (edition : Edition) (burst answer out : List ℕ) (v : Verdict) (d : List ℕ) (a : Option MonitorId)
    (is_read : reading v d a ≡ reading_of edition burst) {u : Table} (is : u ≡ table_of (answered_by v (panels_of t) d a).wall) where
  abbrev after : After
  after = after_burst edition (panels_of t) burst answer out

  abbrev sent : List ℕ
  sent = sent_bytes edition (turn_on (panels_of t) v d a).reply

  played_is : ◌≡◌ {A = Played} (record { table = u; reply = (turn_on (panels_of t) v d a).reply; damage = damage_in v }) (answered_on t (reading_of edition burst))
  played_is = left_is f v d a is ∙ ap (answered_on t) is_read

  pub formed_left : WellFormed u
  formed_left = formed_played f (reading_of edition burst) played_is

  pub size_left : size_of Form.Two (panels_of u) ≡ size_of Form.Two (panels_of t)
  size_left = size_played f edition burst played_is

  -- the numbers and both outputs
  all : record { outcome = record { refusal = 0; answered = length sent; written = length (setup_of Form.Two (panels_of u)); damage = damage_number (damage_in v) }; answer = laid_over sent answer; out = laid_over (setup_of Form.Two (panels_of u)) out } ≡ after
  all = given-played f edition burst played_is answer out

  pub outcome_left : (h : Heard) → h ≡ heard_as edition (turn_on (panels_of t) v d a) → (o : Outcome) (m : ℕ) → o ≡ record { refusal = 0; answered = h.sent; written = m; damage = damage_number (damage_in v) }
      → m ≡ length (setup_of Form.Two (panels_of u)) → o ≡ after.outcome
  outcome_left h gave o m g w =
      g ∙ ap₂ {C = Outcome} (λ (n m : ℕ). record { refusal = 0; answered = n; written = m; damage = damage_number (damage_in v) }) (ap (λ (h : Heard). h.sent) gave) w
      ∙ ap (λ (r : After). r.outcome) all

  pub answer_left : (l : List ℕ) → l ≡ laid_over sent answer → l ≡ after.answer
  answer_left l g = g ∙ ap (λ (r : After). r.answer) all

  pub out_left : (l : List ℕ) → l ≡ laid_over (setup_of Form.Two (panels_of u)) out → l ≡ after.out
  out_left l g = g ∙ ap (λ (r : After). r.out) all
