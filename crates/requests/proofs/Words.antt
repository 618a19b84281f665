-- What data says: control words and reports by their bytes. Assumes nothing.
use mathlib.Core.Path.{◌≡◌, refl}
use mathlib.Core.Bool.{Bool, true, false, false≢true, cond, ◌&&◌}
use mathlib.Core.List.{List, [], ◌∷◌}
use Prim.Native.Nat.{ℕ, ◌+◌, ◌≤◌, ◌<◌}
use native.Mathlib.Omega.{arith}
use lib.Dec.{eqb}
use lib.ListN.{length, get_or, drop}
use Rattle.std.specs.Prelude.{Option, Some, None}
use Rattle.models.specs.declared.Model.{Model}
use Rattle.settings.specs.Settings.{get_code, row_count, most_values}
use Rattle.codes.specs.Found.{found_by}
use Rattle.models.specs.Models.{allowed_for}
use Rattle.std.proofs.Common.{Option, Some, None}
use Rattle.codes.specs.declared.Code.{Code}
use Rattle.lists.proofs.Both.{both}
use Rattle.settings.proofs.Laws.{byte-count-few}
use Rattle.codes.proofs.Laws.{IsFound, found_right}
use Rattle.models.proofs.Laws.{allowed_many}
use Rattle.packet.specs.declared.Control.{Control}
use Rattle.requests.specs.declared.Said.{Said}
use Rattle.requests.specs.Said.{is_control, is_report, ended_by, word_in}

pub report_some : (model : Model) (k : ℕ) (d : List ℕ) → 0 < length d
    → is_report model k d ≡ eqb (get_or d 0 0) (get_code k) && allowed_for model k (drop 1 d)
unfolding is_report
report_some model k [] h = absurd (omega arith)
report_some model k (c ∷ values) h = refl

pub word_found : (model : Model) (code : ℕ) (d : List ℕ) (f : Option Code)
    → is_control Control.Nack d ≡ false → is_control Control.Nav d ≡ false → found_by code ≡ f → word_in model code d ≡ ended_by model f d
unfolding word_in
word_found model code d f nack nav e = rw (nack, nav, e)

abbrev Fits : List ℕ → Type 0
Fits d = (1 ≤ length d) × (length d ≤ most_values + 1)

report_fits : (model : Model) (row : ℕ) (d : List ℕ) → row < row_count → is_report model row d ≡ true → Fits d
unfolding is_report
report_fits model row [] h e = absurd (false≢true e)
report_fits model row (c ∷ values) h e =
    let n = allowed_many model row values (both (eqb c (get_code row)) _ e).1 in
    let most = byte-count-few h in
    (omega arith, omega arith)

only_report : (t : Bool) → cond t (Some Said.Report) None ≡ Some Said.Report → t ≡ true
only_report true e = refl
only_report false e = let z : ◌≡◌ {A = ℕ} 0 1 = cc in absurd (omega arith)

-- Data that is taken for a report has the code and at most seven values.
pub report_length : (model : Model) (code : ℕ) (d : List ℕ) → word_in model code d ≡ Some Said.Report → Fits d
unfolding word_in ended_by
report_length model code d e =
    by_found (found_by code) (found_right code) (by_word (is_control Control.Nack d) (is_control Control.Nav d) (ended_by model (found_by code) d) e)
  where
    by_word : (a b : Bool) (s : Option Said) → cond a (Some Said.Nack) (cond b (Some Said.Nav) s) ≡ Some Said.Report → s ≡ Some Said.Report
    by_word true b s e = let z : ◌≡◌ {A = ℕ} 0 1 = cc in absurd (omega arith)
    by_word false true s e = let z : ◌≡◌ {A = ℕ} 0 1 = cc in absurd (omega arith)
    by_word false false s e = e

    no_ack : (t : Bool) → cond t (Some Said.Ack) None ≡ Some Said.Report → ⊥
    no_ack true e = let z : ◌≡◌ {A = ℕ} 0 1 = cc in omega arith
    no_ack false e = let z : ◌≡◌ {A = ℕ} 0 1 = cc in omega arith

    by_found : (f : Option Code) → IsFound code f → ended_by model f d ≡ Some Said.Report → Fits d
    by_found (Some (Code.Set row)) h e = absurd (no_ack (is_control Control.Ack d) e)
    by_found (Some (Code.Get row)) h e = report_fits model row d h.0 (only_report (is_report model row d) e)
    by_found None h e = let z : ◌≡◌ {A = ℕ} 0 1 = cc in absurd (omega arith)
