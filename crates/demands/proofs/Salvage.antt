-- Salvage of a setup image. Assumes nothing.
use mathlib.Core.Path.{◌≡◌, refl, sym, subst, ◌∙◌}
use mathlib.Core.Bool.{false}
use mathlib.Core.Logic.{inl, inr, ⊎_elim}
use mathlib.Core.List.Memᴰ
use mathlib.Core.List.{List, [], ◌∷◌, ◌++◌, append_assoc, append-nil, Memᴰ}
use Prim.Native.Nat.{ℕ, ◌<◌}
use native.Mathlib.Omega.{arith}
use lib.ListN.{get_or, drop, replicate}
use Rattle.std.specs.Prelude.{Option, Some, None}
use Rattle.settings.specs.declared.Profile.{Profile}
use Rattle.settings.specs.Settings.{set_code, fresh_values, values_of, row_count}
use Rattle.panels.specs.Wall.{Wall, table_of, panels_of}
use Rattle.panels.proofs.Laws.{panels_of_table}
use Rattle.image_forms.specs.declared.Form.{Form}
use Rattle.image_forms.specs.Forms.{head_size}
use Rattle.image_faults.specs.declared.Fault.{Fault}
use Rattle.image_frame.specs.Frame.{form_of, records_in}
use Rattle.image_record.specs.Head.{id_in, head_in, headed}
use Rattle.image_record.proofs.Steps.{none_seen}
use Rattle.image_record.proofs.Gathering.{none_gathered}
use Rattle.image_record.proofs.Heads.{head-known}
use Rattle.image_write.proofs.Losing.{two_holds}
use Rattle.image_back.proofs.Back.{reads_back}
use Rattle.image_salvage.specs.Kept.{Kept, kept_of, most_faults}
use Rattle.image_salvage.specs.Salvaged.{Salvage, salvaged_from, salvage_of}
use Rattle.image_salvage.proofs.Sound.{record_dropped, record_kept, salvage_formed}
use Rattle.image_salvage.proofs.Told.{lines_few, text_short}
use Rattle.demands.specs.Salvage.{KeptReads, LinesFew, TellsRow, Tells, Told, none, dropped, panel, AllTold}
use Rattle.image_salvage.proofs.Unseen.{unseen}
use Rattle.image_salvage.proofs.Walked.{walked_fields}
use Rattle.image_salvage.proofs.KeptWalk.{KeptWalk, kept_walk, none_dropped}
use Rattle.demands.proofs.RowsTold.{RowTold, walked_row}

pub kept_reads : KeptReads
kept_reads image =
    let f = salvage_formed image in
    let same = panels_of_table (salvage_of image).wall in
    (f, rw (← same) (reads_back Form.Two (panels_of (table_of (salvage_of image).wall)) f.good f.few (two_holds _)))

pub lines_are_few : LinesFew
lines_are_few image = (lines_few image, text_short image)

module _ (form : Form) (bytes : List ℕ) (profile : Profile) where
  abbrev behind : List ℕ
  behind = drop (head_size form) bytes

  abbrev kept : Kept
  kept = kept_of form profile behind

  walk : KeptWalk form profile (replicate row_count false) (fresh_values profile) behind kept
  unfolding unseen
  walk = kept_walk form profile most_faults (replicate row_count false) (fresh_values profile) behind (none_gathered form profile) (omega arith)

  -- the faults of the walk are among those of the record
  among : (f : Fault) → Memᴰ f walk.fs → Memᴰ f kept.faults
  among f m =
      ⊎_elim (λ x. subst (Memᴰ f) (sym x.1) m) (λ x. subst (Memᴰ f) (sym x.1) (Memᴰ.append_left (Fault.Broken (get_or walk.rest 0 0) ∷ []) m)) walk.ends

  not_dropped : Memᴰ Fault.Dropped kept.faults → ⊥
  not_dropped m =
      ⊎_elim (λ x. none_dropped form profile walk.walk (subst (Memᴰ Fault.Dropped) x.1 m))
      (λ x. ⊎_elim (λ in-walk. none_dropped form profile walk.walk in-walk) last (Memᴰ.append_cases walk.fs (subst (Memᴰ Fault.Dropped) x.1 m))) walk.ends
    where
      last : Memᴰ Fault.Dropped (Fault.Broken (get_or walk.rest 0 0) ∷ []) → ⊥
      last d = ⊎_elim (λ e. let z : ◌≡◌ {A = ℕ} 0 1 = cc in omega arith) (λ n. Memᴰ.not-nil n) (Memᴰ.cases_cons d)

  more_faults : (row : ℕ) → TellsRow profile walk.es walk.fs row (values_of row kept.values) → TellsRow profile walk.es kept.faults row (values_of row kept.values)
  more_faults row = ⊎_elim (λ x. inl x) (λ x. inr (x.0, ⊎_elim (λ w. inl w) (λ m. inr (among (Fault.NotAllowed (set_code row)) m)) x.1))

  row_told : (row : ℕ) → row < row_count → RowTold profile walk.last kept.values walk.es walk.fs row
  row_told row h = walked_row (none_gathered form profile) walk.walk row h (none_seen row_count row)

  tells : (w : Wall) → head_in form (id_in w) bytes ≡ Some profile → Tells form bytes kept.faults (headed bytes profile kept.values)
  tells w e =
      record {
        head = refl;
        known = (head-known form (id_in w) bytes profile e).1;
        es = walk.es;
        rest = walk.rest;
        fields = walked_fields walk.walk;
        seen = walk.last;
        marks = λ row h. ((row_told row h).unseen, (row_told row h).seen);
        stops = ⊎_elim (λ x. inl x.0)
            (λ x. inr (x.0, subst (Memᴰ (Fault.Broken (get_or walk.rest 0 0))) (sym x.1) (Memᴰ.append_right walk.fs (Memᴰ.head refl)))) walk.ends;
        rows = λ row h. more_faults row (row_told row h).tells;
        kept = not_dropped;
      }

-- what is told of the records that are left, behind a wall
record ToldOn (form : Form) (w : Wall) (records : List (List ℕ)) (s : Salvage) : Type 0 where
  more : Wall
  wall : s.wall ≡ w ++ more
  told : Told form records s.faults more

from_told : (form : Form) (w : Wall) (records : List (List ℕ)) → ToldOn form w records (salvaged_from form w records)
unfolding salvaged_from
from_told form w [] = record { more = []; wall = sym (append-nil w); told = none }
from_told form w (bytes ∷ records) = go (head_in form (id_in w) bytes) refl (λ v. from_told form v records)
  where
    so : {s : Salvage} → salvaged_from form w (bytes ∷ records) ≡ s → ToldOn form w (bytes ∷ records) s → ToldOn form w (bytes ∷ records) (salvaged_from form w (bytes ∷ records))
    so e t = subst (ToldOn form w (bytes ∷ records)) (sym e) t

    go : (n : Option Profile) → head_in form (id_in w) bytes ≡ n → ((v : Wall) → ToldOn form v records (salvaged_from form v records))
        → ToldOn form w (bytes ∷ records) (salvaged_from form w (bytes ∷ records))
    go (Some profile) e ih =
        let p = headed bytes profile (kept form bytes profile).values in
        let rest = ih (w ++ p ∷ []) in
        so (record_kept form w bytes records profile e)
        (record { more = p ∷ rest.more; wall = rest.wall ∙ append_assoc w (p ∷ []) rest.more; told = panel (tells form bytes profile w e) rest.told })
    go None e ih =
        let rest = ih w in
        so (record_dropped form w bytes records e) (record { more = rest.more; wall = rest.wall; told = dropped rest.told })

pub all_told : AllTold
unfolding salvage_of
all_told image e =
    let t = from_told (form_of image) [] (records_in image) in
    rw e (subst (Told (form_of image) (records_in image) _) (sym t.wall) t.told)
