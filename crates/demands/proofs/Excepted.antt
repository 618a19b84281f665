-- What the premises of the two rooms are for, by computing. Assumes nothing.
use Prim.Native.Nat.{ℕ, zero, suc, ◌<◌}
use mathlib.Core.Bool.{false}
use mathlib.Core.Path.{◌≡◌, refl, sym, ap, ◌∙◌}
use mathlib.Core.List.{List, [], ◌∷◌, flatten}
use native.Mathlib.Omega.{arith}
use lib.ListN.{get_or}
use Rattle.lists.specs.Lists.{laid_at, same}
use Rattle.settings.specs.Settings.{settings, allowed_by_row, fresh_values, within, all_allowed}
use Rattle.codes.specs.Found.{found_from}
use Rattle.settings.specs.Profiles.{profile_with}
use Rattle.tiling.specs.Kinds.{kind_with}
use Rattle.models.specs.Models.{filled}
use Rattle.packet.specs.declared.Edition.{Edition}
use Rattle.xor.specs.Xor.{◌⊕◌, xor_all}
use Rattle.packet.specs.Packet.{is_intact, verdict_of, data_of, packet_of}
use Rattle.packet.specs.Reading.{seems_for, reading_of}
use Rattle.packet.specs.Answered.{is_heard}
use Rattle.panels.specs.Wall.{Wall, blank, place_from}
use Rattle.panels.specs.Addressed.{reaches}
use Rattle.table_calls.specs.Calls.{add_refusal, added}
use Rattle.answers.specs.declared.Reply.{Reply}
use Rattle.answers.specs.Judged.{command, stored, off_already, takes, judge}
use Rattle.answers.specs.Played.{Outcome, turned, answered, played}
use Rattle.answers.specs.Sample.{two_panels}
use Rattle.demands.specs.Apart.{addressed_by}
use Rattle.demands.specs.Alone.{OwnGroup}
use Rattle.demands.specs.Rooms.{to_panel, OneSetting, with_three, AddExcepted}

abbrev fan : ℕ → Wall → ℕ
fan k w = get_or (get_or w k blank).values 16 0

abbrev two : Edition → List ℕ → List ℕ → Outcome
two edition b c = played edition (played edition two_panels b).wall c

-- what is seen in either order: the fan after two sets, the fan that a get reports, the fan of panel 3, and whose answer the set gets
abbrev seen : Edition → List ℕ
seen edition =
    let set = to_panel edition 1 (0x61 ∷ 4 ∷ []) in
    let other = to_panel edition 1 (0x61 ∷ 2 ∷ []) in
    let get = to_panel edition 1 (0x62 ∷ []) in
    let three = to_panel edition 3 (0x61 ∷ 4 ∷ []) in
    fan 0 (two edition set other).wall
    ∷ fan 0 (two edition other set).wall
    ∷ get_or (played edition two_panels get).reply.bytes 1 0
    ∷ get_or (two edition set get).reply.bytes 1 0
    ∷ fan 2 (played edition (with_three two_panels) three).wall
    ∷ fan 2 (with_three (played edition two_panels three).wall)
    ∷ (played edition (with_three two_panels) three).reply.id.0
    ∷ (played edition two_panels three).reply.id.0
    ∷ []

-- one computed test
tested : (edition : Edition) → seen edition ≡ 2 ∷ 4 ∷ 1 ∷ 4 ∷ 4 ∷ 1 ∷ 3 ∷ 0 ∷ []
unfolding settings found_from allowed_by_row fresh_values within all_allowed filled flatten ◌⊕◌ xor_all is_intact verdict_of data_of packet_of place_from reaches is_heard command stored laid_at off_already takes judge turned seems_for answered two_panels same add_refusal added profile_with kind_with
tested Edition.Sicp185 = refl
tested Edition.Sicp201 = refl

at : (edition : Edition) (k : ℕ) → get_or (seen edition) k 0 ≡ get_or (2 ∷ 4 ∷ 1 ∷ 4 ∷ 4 ∷ 1 ∷ 3 ∷ 0 ∷ []) k 0
at edition k = ap (λ (l : List ℕ). get_or l k 0) (tested edition)

pub one-setting : OneSetting
one-setting edition = (
  (λ e. omega (arith, sym (at edition 0) ∙ ap (fan 0) e.0 ∙ at edition 1)),
  (λ e. omega (arith, sym (at edition 2) ∙ ap (λ (r : Reply). get_or r.bytes 1 0) e.2 ∙ at edition 3)),
)

pub own_group : OwnGroup
unfolding settings found_from allowed_by_row fresh_values within all_allowed filled flatten ◌⊕◌ xor_all is_intact verdict_of data_of packet_of place_from reaches is_heard command stored laid_at off_already takes judge turned seems_for answered same
own_group e = let fans : ◌≡◌ {A = ℕ} 4 1 = ap (λ (values : List ℕ). get_or values 16 0) e in omega (arith, fans)

not_addressed : (edition : Edition) (k : ℕ) → k < 2 → addressed_by (reading_of edition (to_panel edition 3 (0x61 ∷ 4 ∷ []))).verdict (get_or two_panels k blank) ≡ false
unfolding ◌⊕◌ xor_all is_intact verdict_of data_of packet_of reaches two_panels
not_addressed Edition.Sicp185 zero h = refl
not_addressed Edition.Sicp185 (suc zero) h = refl
not_addressed Edition.Sicp201 zero h = refl
not_addressed Edition.Sicp201 (suc zero) h = refl
not_addressed edition (suc (suc k)) h = absurd (omega (arith, h))

pub add_excepted : AddExcepted
add_excepted edition = (
  not_addressed edition,
  (λ e. omega (arith, sym (at edition 4) ∙ ap (fan 2) e ∙ at edition 5)),
  (λ e. omega (arith, sym (at edition 6) ∙ ap (λ (r : Reply). r.id.0) e ∙ at edition 7)),
)
