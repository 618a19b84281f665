-- What a request asks of a QX panel is found by its code, and its packets are compared byte by byte. Assumes nothing.
use Prim.Native.Nat.{ℕ, ◌≤◌, ◌<◌}
use mathlib.Core.Bool.{Bool, true, false, cond, ◌&&◌, ◌||◌}
use mathlib.Core.Path.{◌≡◌, refl, sym, ap, ◌∙◌}
use mathlib.Core.List.{List, [], ◌∷◌, map, flatten}
use native.Mathlib.Omega.{arith}
use borrow.Author.Tests.{leb-true, leb-false, le-ltb, lt-ltb, eqb-true, ne_eqb}
use lib.Dec.{leb, eqb}
use Rattle.std.specs.Prelude.{Result, Ok, Err}
use lib.ListN.{length, get_or, length-map}
use Rattle.lists.specs.Lists.{laid_over}
use Rattle.settings.specs.Settings.{settings, set_code, get_code, byte_count, power_row, video_row}
use Rattle.settings.specs.declared.Profile.{Profile}
use Rattle.settings.specs.Profiles.{profile_number}
use Rattle.std.proofs.Common.{Some}
use Rattle.codes.specs.declared.Code.{Code}
use Rattle.codes.specs.Found.{found_from, found_by}
use Rattle.packet.specs.declared.Edition.{Edition}
use Rattle.packet.specs.declared.MonitorId.{MonitorId}
use Rattle.packet.specs.Answered.{is_heard}
use Rattle.requests.specs.declared.Request.{Request}
use Rattle.requests.specs.Request.{is_request, values_of}
use Rattle.requests.proofs.Sets.{value_is}
use Rattle.qx.specs.Message.{message, qx_packet}
use Rattle.qx.specs.Asked as asked
use Rattle.qx.proofs.Translations.{picture_data, asked_data}
use Rattle.qx.specs.declared.Packets.{Packets}
use Rattle.qx.specs.declared.Refusal.{Refusal}
use Rattle.qx.specs.Translation.{packets_for, carried_by, packets_in, packets_told, translated, translated_over}
use Rattle.demands.specs.Qx.{number_of, number_for, is_carried, nothing_lost, packets_of, QxNumbers, Translated, NotTranslated}

-- the data of the packets of a request that is carried
abbrev pub wanted : Request → List (List ℕ)
wanted r =
    let v = values_of r in
    cond (eqb r.code 0x19) ((0x19 ∷ []) ∷ [])
    (cond (eqb r.code 0x18) ((0x18 ∷ get_or v 0 0 ∷ []) ∷ []) ((0xC0 ∷ get_or v 0 0 ∷ []) ∷ (0xC2 ∷ get_or v 2 0 ∷ []) ∷ (0xC4 ∷ get_or v 5 0 ∷ []) ∷ []))

abbrev by_code : Request → Bool
by_code r = eqb r.code 0x19 || eqb r.code 0x18 || (eqb r.code 0x32 && eqb (profile_number r.model.profile) 0 && nothing_lost (values_of r))

codes_are : (get_code power_row ≡ 0x19) × (set_code power_row ≡ 0x18) × (set_code video_row ≡ 0x32)
unfolding settings
codes_are = (refl, refl, refl)

found_are : (found_by 0x18 ≡ Some (Code.Set power_row)) × (found_by 0x32 ≡ Some (Code.Set video_row)) × (byte_count power_row ≡ 1) × (byte_count video_row ≡ 7)
unfolding settings found_from
found_are = (refl, refl, refl, refl)

module _ (r : Request) (e : is_request Edition.Sicp201 r ≡ true) where
  power_value : eqb r.code 0x18 ≡ true → get_or r.values 0 0 ≡ get_or (values_of r) 0 0
  power_value q = value_is Edition.Sicp201 r power_row e (ap found_by (eqb-true r.code 0x18 q) ∙ found_are.0) 0 (omega (arith, found_are.2))

  video_value : eqb r.code 0x32 ≡ true → (k : ℕ) → k < 7 → get_or r.values k 0 ≡ get_or (values_of r) k 0
  video_value q k h = value_is Edition.Sicp201 r video_row e (ap found_by (eqb-true r.code 0x32 q) ∙ found_are.1) k (omega (arith, found_are.3))

  -- a video of which nothing is lost, or something is
  picture_by : (p : Profile) → eqb r.code 0x32 ≡ true
      → asked.data_for (asked.picture_of p r.values)
      ≡ cond (eqb (profile_number p) 0 && nothing_lost (values_of r))
      ((0xC0 ∷ get_or (values_of r) 0 0 ∷ []) ∷ (0xC2 ∷ get_or (values_of r) 2 0 ∷ []) ∷ (0xC4 ∷ get_or (values_of r) 5 0 ∷ []) ∷ []) []
  unfolding asked.is_carried
  picture_by p q =
      picture_data p r.values
      ∙ rw (video_value q 0 (omega arith), video_value q 1 (omega arith), video_value q 2 (omega arith), video_value q 3 (omega arith), video_value q 4 (omega arith), video_value q 5 (omega arith), video_value q 6 (omega arith))

  data_by_lem : (a b c : Bool) → eqb r.code 0x19 ≡ a → eqb r.code 0x18 ≡ b → eqb r.code 0x32 ≡ c → asked.data_for (asked.asked_by r) ≡ cond (by_code r) (wanted r) []
  unfolding asked.asked_by asked.data_for
  data_by_lem true b c ea eb ec = rw (codes_are.0, ea)
  data_by_lem false true c ea eb ec = rw (codes_are.0, codes_are.1, ea, eb, power_value eb)
  data_by_lem false false true ea eb ec = rw (codes_are.0, codes_are.1, codes_are.2, ea, eb, ec) (picture_by r.model.profile ec)
  data_by_lem false false false ea eb ec = rw (codes_are.0, codes_are.1, codes_are.2, ea, eb, ec)

  pub data_is : asked.data_for (asked.asked_of r) ≡ cond (is_carried r) (wanted r) []
  unfolding is_heard
  data_is = asked_data r ∙ rw e (go (is_heard r.id r.group))
    where
      go : (h : Bool) → cond h (asked.data_for (asked.asked_by r)) [] ≡ cond (h && by_code r) (wanted r) []
      go true = data_by_lem (eqb r.code 0x19) (eqb r.code 0x18) (eqb r.code 0x32) refl refl refl
      go false = refl

-- a request that is none asks nothing
no_data : (r : Request) → is_request Edition.Sicp201 r ≡ false → asked.data_for (asked.asked_of r) ≡ []
no_data r e = asked_data r ∙ rw e

-- the codes of some packets to a panel
abbrev pub Fits : MonitorId → List ℕ → List (List ℕ) → Type 0
Fits id [] [] = Unit {0}
Fits id [] (p ∷ ps) = ⊥
Fits id (c ∷ cs) [] = ⊥
Fits id (c ∷ cs) (p ∷ ps) = (get_or p 1 0 ≡ id.0) × (get_or p 7 0 ≡ c) × Fits id cs ps

-- its packets are those of the statement, to that panel, with the codes of the data; there is one at least
pub record Written (r : Request) : Type 0 where
  pub packets : map (qx_packet r.id) (wanted r) ≡ packets_of r
  pub fits : Fits r.id (map (λ d. get_or d 0 0) (wanted r)) (packets_of r)
  pub some : 0 < length (packets_of r)

pub written : (r : Request) → Written r
unfolding qx_packet message
written r = go (eqb r.code 0x19) (eqb r.code 0x18) refl refl
  where
    go : (a b : Bool) → eqb r.code 0x19 ≡ a → eqb r.code 0x18 ≡ b → Written r
    go true b ea eb = record { packets = rw ea; fits = rw ea (refl, refl, tt); some = rw ea (omega arith) }
    go false true ea eb = record { packets = rw (ea, eb); fits = rw (ea, eb) (refl, refl, tt); some = rw (ea, eb) (omega arith) }
    go false false ea eb =
        record { packets = rw (ea, eb); fits = rw (ea, eb) (refl, refl, (refl, refl, (refl, refl, tt))); some = rw (ea, eb) (omega arith) }

-- so that nothing is wrong with it
all_told : (r : Request) → carried_by (packets_of r) ≡ Ok (packets_told (packets_of r))
all_told r = rw (ne_eqb (length (packets_of r)) 0 (λ e. omega (arith, (written r).some)))

carried_or_not : (r : Request) (t : Bool) → number_of (carried_by (map (qx_packet r.id) (cond t (wanted r) []))) ≡ cond t 0 34
carried_or_not r true = rw ((written r).packets, all_told r)
carried_or_not r false = refl

pub qx_numbers : QxNumbers
unfolding translated packets_for
qx_numbers room r = go (leb 40 room) refl (is_request Edition.Sicp201 r) refl
  where
    go : (t : Bool) → leb 40 room ≡ t → (u : Bool) → is_request Edition.Sicp201 r ≡ u → number_for room r ≡ cond t (cond u (cond (is_carried r) 0 34) 22) 19
    go true h true e = rw (le-ltb room 40 (leb-true 40 room h), e, data_is r e) (carried_or_not r (is_carried r))
    go true h false e = rw (le-ltb room 40 (leb-true 40 room h), e)
    go false h u e = rw (lt-ltb room 40 (leb-false 40 room h))

-- what is not refused
pub record Taken (room : ℕ) (r : Request) : Type 0 where
  pub room_there : 40 ≤ room
  pub request : is_request Edition.Sicp201 r ≡ true
  pub carried : is_carried r ≡ true

pub taken : (room : ℕ) (r : Request) → number_for room r ≡ 0 → Taken room r
taken room r z = go (leb 40 room) (is_request Edition.Sicp201 r) (is_carried r) refl refl refl (sym (qx_numbers room r) ∙ z)
  where
    go : (t u w : Bool) → leb 40 room ≡ t → is_request Edition.Sicp201 r ≡ u → is_carried r ≡ w → cond {A = ℕ} t (cond u (cond w 0 34) 22) 19 ≡ 0 → Taken room r
    go true true true h e c z = record { room_there = leb-true 40 room h; request = e; carried = c }
    go true true false h e c z = absurd (omega arith)
    go true false w h e c z = absurd (omega arith)
    go false u w h e c z = absurd (omega arith)

-- then its packets are those
packets_is : (r : Request) → is_request Edition.Sicp201 r ≡ true → is_carried r ≡ true → packets_for r ≡ packets_of r
unfolding packets_for
packets_is r e c = rw (data_is r e, c) (written r).packets

pub translated_is : Translated
unfolding translated packets_told packets_in translated_over laid_over
translated_is out r z =
    let t = taken (length out) r z in
    let is = packets_is r t.request t.carried in
    (rw (le-ltb _ 40 t.room_there, is), rw (le-ltb _ 40 t.room_there, t.request, is, all_told r, length-map (packets_of r) length))

-- and of what is refused there are none
pub refused_data : (r : Request) → (cond {A = ℕ} (is_request Edition.Sicp201 r) (cond (is_carried r) 0 34) 22 ≡ 0 → ⊥) → asked.data_for (asked.asked_of r) ≡ []
refused_data r ne = go (is_request Edition.Sicp201 r) refl (is_carried r) refl ne
  where
    go : (u : Bool) → is_request Edition.Sicp201 r ≡ u → (w : Bool) → is_carried r ≡ w → (cond {A = ℕ} u (cond w 0 34) 22 ≡ 0 → ⊥) → asked.data_for (asked.asked_of r) ≡ []
    go true e true c z = absurd (z refl)
    go true e false c z = data_is r e ∙ rw c
    go false e w c z = no_data r e

none_in : (room : ℕ) (r : Request) → (number_for room r ≡ 0 → ⊥) → packets_in room r ≡ []
unfolding packets_in packets_for
none_in room r ne = go (leb 40 room) refl
  where
    go : (t : Bool) → leb 40 room ≡ t → packets_in room r ≡ []
    go true h = rw (le-ltb room 40 (leb-true 40 room h), refused_data r (λ z. ne (qx_numbers room r ∙ rw h z)))
    go false h = rw (lt-ltb room 40 (leb-false 40 room h))

is_refused : (told : Result Packets Refusal) → (number_of told ≡ 0 → ⊥) → (refusal : Refusal) × (told ≡ Err refusal)
is_refused (Ok packets) ne = absurd (ne refl)
is_refused (Err refusal) ne = (refusal, refl)

pub not_translated : NotTranslated
unfolding translated_over laid_over flatten
not_translated out r ne = (rw (none_in (length out) r ne), is_refused (translated (length out) r) ne)
