-- What a record comes to, by what its head says and by its fields, whatever its form. Assumes nothing.
use mathlib.Core.Path.{◌≡◌, refl}
use mathlib.Core.Bool.{Bool, true, false, cond, not, ◌&&◌}
use mathlib.Core.List.{List, ◌++◌}
use Prim.Native.Nat.{ℕ, ◌≤◌}
use native.Mathlib.Omega.{arith}
use borrow.Author.Tests.{le-leb}
use lib.Dec.{eqb}
use lib.ListN.{length, length-append}
use Rattle.std.specs.Prelude.{Some, None, Result, Ok, Err, IsOk}
use Rattle.std.specs.Option.{option_map_or}
use Rattle.settings.specs.declared.Profile.{Profile}
use Rattle.packet.specs.Packet.{monitor_id, group_id}
use Rattle.panels.specs.declared.Panel.{Panel}
use Rattle.panels.specs.Wall.{Wall}
use Rattle.image_forms.specs.declared.Form.{Form}
use Rattle.image_forms.specs.Forms.{head_size, head_of, holds}
use Rattle.image_forms.proofs.Laws.{head-length, profile_back, behind-head}
use Rattle.refusals.specs.declared.Refusal.{Refusal}
use Rattle.image_record.specs.Head.{id_in, head_fits, head_in}
use Rattle.image_read.specs.Fields.{fields_in}
use Rattle.refusals.specs.Refusals.{if_sound}
use Rattle.image_read.specs.Read.{panel_in}

unfoldable pub said_panel : Wall → ℕ → ℕ → Profile → Result (List ℕ) Refusal → Result Panel Refusal
said_panel w id group profile fields =
    cond (not (eqb id 0) && not (eqb group 0) && not (id_in w id))
    (if_sound fields (λ values. Ok (record { id = monitor_id id; group = group_id group; profile = profile; values = values }))) (Err Refusal.Record)

module _ (form : Form) (id group : ℕ) (profile : Profile) (rest : List ℕ) (held : holds form profile ≡ true) where
  pub panel-said : (w : Wall) → panel_in form (id_in w) (head_of form id group profile ++ rest) ≡ said_panel w id group profile (fields_in form profile rest)
  unfolding panel_in head_in head_fits said_panel
  panel-said w =
      let long : head_size form ≤ length (head_of form id group profile ++ rest) = omega (arith, head-length id group profile form, length-append (head_of form id group profile) rest) in
      rw (le-leb _ _ long, profile_back id group profile form rest held, behind-head id group profile form rest)
      (go (not (eqb id 0) && not (eqb group 0) && not (id_in w id)))
    where
      panel : Profile → List ℕ → Result Panel Refusal
      panel profile values = Ok (record { id = monitor_id id; group = group_id group; profile = profile; values = values })

      go : (t : Bool) → option_map_or (λ p. if_sound (fields_in form p rest) (panel p)) (cond t (Some profile) None) (Err Refusal.Record)
          ≡ cond t (if_sound (fields_in form profile rest) (panel profile)) (Err Refusal.Record)
      go true = refl
      go false = refl

pub fields-sound : (w : Wall) (id group : ℕ) (profile : Profile) (fields : Result (List ℕ) Refusal) → IsOk (said_panel w id group profile fields) → IsOk fields
unfolding said_panel
fields-sound w id group profile fields e = go (not (eqb id 0) && not (eqb group 0) && not (id_in w id)) fields e
  where
    panel : List ℕ → Result Panel Refusal
    panel values = Ok (record { id = monitor_id id; group = group_id group; profile = profile; values = values })

    go : (t : Bool) (f : Result (List ℕ) Refusal) → IsOk (cond t (if_sound f panel) (Err Refusal.Record)) → IsOk f
    go t (Ok values) e = refl
    go true (Err r) e = e
    go false (Err r) e = e
