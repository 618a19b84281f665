-- The wrong hosts. Assumes nothing.
use Prim.Native.Nat.{ℕ}
use mathlib.Core.Path.{◌≡◌, refl, sym, ap, ◌∙◌}
use mathlib.Core.List.{List, [], ◌∷◌, map, flatten}
use native.Mathlib.Omega.{arith}
use lib.ListN.{get_or}
use Rattle.settings.specs.Settings.{settings, allowed_by_row, within, all_allowed}
use Rattle.codes.specs.Found.{found_from}
use Rattle.models.specs.Models.{filled}
use Rattle.lists.specs.Lists.{same}
use Rattle.packet.specs.declared.Edition.{Edition}
use Rattle.xor.specs.Xor.{◌⊕◌, xor_all}
use Rattle.packet.specs.Packet.{is_intact, verdict_of, data_of}
use Rattle.packet.specs.Answered.{is_heard}
use Rattle.requests.specs.Request.{is_taken, is_request}
use Rattle.requests.specs.Said.{is_control, ended_by, word_in}
use Rattle.host.specs.declared.Outcome.{Outcome}
use Rattle.host.specs.Heard.{said_by, said_to}
use Rattle.host.specs.Machine.{Happening, State, idle, begun, again, ending, heard, step}
use Rattle.demands.specs.WrongHosts.{outcomes, with_three, always_three, busy_panel, Booked, HostsDiffer}
use Rattle.demands.specs.HostCalls.{sendings_in}

pub booked : Booked
unfolding settings found_from allowed_by_row within all_allowed filled flatten ◌⊕◌ xor_all is_intact verdict_of data_of is_heard same is_taken is_request is_control ended_by word_in said_by said_to begun again ending heard step outcomes
booked Edition.Sicp185 = (refl, refl)
booked Edition.Sicp201 = (refl, refl)

-- the sendings that the kth outcome tells
abbrev told : ℕ → List Outcome → ℕ
told k l = sendings_in (get_or l k Outcome.Idle)

always_three_lem : (s : State) (hs : List Happening) → outcomes always_three s hs ≡ map with_three (outcomes step s hs)
unfolding outcomes
always_three_lem s [] = refl
always_three_lem s (h ∷ hs) = ap (λ (l : List Outcome). with_three (step s h).outcome ∷ l) (always_three_lem (step s h).next hs)

pub hosts_differ : HostsDiffer
hosts_differ edition =
    let (before, ours) = booked edition in
    let three = always_three_lem (idle edition) (busy_panel edition) ∙ ap (map with_three) ours in (
      (λ e. absurd (omega (arith, ap (told 4) (sym before ∙ e ∙ ours)))),
      (λ e. absurd (omega (arith, ap (told 2) (sym three ∙ e ∙ ours)))),
    )
