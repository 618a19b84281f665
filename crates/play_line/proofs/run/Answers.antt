-- Burst after burst the receiver is open, and the table is what some bursts leave. Assumes nothing.
use Rattle.std.proofs.Common.{◌≡◌, List, [], ◌∷◌, ◌++◌, ℕ, refl, ap, ◌∙◌, rules}
use mathlib.Core.List.{foldl}
use Rattle.panels.specs.declared.Table.{Table}
use Rattle.panels.specs.WellFormed.{WellFormed}
use Rattle.text.proofs.Runs.{kept}
use Rattle.play_line.specs.declared.Line.{Line}
use Rattle.play_line.specs.Played.{table_after, Ends}
use Rattle.play_line.proofs.run.Goals as goal

-- one burst more
fold-behind : {A B : Type 0} (f : B → A → B) (x : B) (l : List A) (a : A) → f (foldl f x l) a ≡ foldl f x (l ++ a ∷ [])
fold-behind f x [] a = refl
fold-behind f x (b ∷ l) a = fold-behind f (f x b) l a

one_more : {t u : Table} (burst : List ℕ) → Ends t → u ≡ table_after t burst → Ends u
one_more burst (bursts, e) is = (bursts ++ burst ∷ [], is ∙ ap (λ (t : Table). table_after t burst) e ∙ fold-behind table_after _ bursts burst)

pub each_step-requires : goal.each_step-requires
each_step-requires g c = λ n s runs bytes h.
    let Plays : Line g.row.R.Denot → Type 0 = λ l. WellFormed l.table × g.R.LineReceiver.is_open l.receiver in
    let held = kept Plays runs (c.two_panels.ensures.1, c.open_201.ensures) (λ s n bytes t formed met. search rules) in search rules

pub returns : goal.returns
returns g c =
    let Plays : Line g.row.R.Denot → Type 0 = λ l. WellFormed l.table × g.R.LineReceiver.is_open l.receiver × Ends l.table in
    let held = kept Plays c.in_ok-last.ensures.1 (c.two_panels.ensures.1, c.open_201.ensures, ([], c.two_panels.ensures.0))
    (λ s n bytes t h met.
    let table : t.table ≡ table_after s.table bytes.now = search rules in
    let on : WellFormed t.table × g.R.LineReceiver.is_open t.receiver = search rules in
    (on.0, on.1, one_more bytes.now h.2 table)) in
    held.2
