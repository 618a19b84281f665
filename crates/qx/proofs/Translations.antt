-- A request translated, by its three tests, and the data of its packets. Assumes nothing.
use Prim.Native.Nat.{ℕ, ◌≤◌, ◌<◌}
use mathlib.Core.Bool.{Bool, true, false, cond, ◌&&◌}
use mathlib.Core.List.{List, [], ◌∷◌, map, flatten}
use mathlib.Core.Path.{◌≡◌, refl}
use native.Mathlib.Omega.{arith}
use borrow.Author.Tests.{lt-ltb, le-ltb}
use lib.Dec.{eqb}
use lib.ListN.{length, get_or}
use Rattle.std.specs.Prelude.{Option, Result, Some, None, Ok, Err, ok_or}
use Rattle.lists.specs.Lists.{laid_over}
use Rattle.settings.specs.declared.Profile.{Profile}
use Rattle.settings.specs.Profiles.{profile_number}
use Rattle.packet.specs.declared.Edition.{Edition}
use Rattle.packet.specs.Answered.{is_heard}
use Rattle.packet.specs.Packet.{longest}
use Rattle.requests.specs.declared.Request.{Request}
use Rattle.requests.specs.Request.{is_request}
use Rattle.qx.specs.declared.Refusal.{Refusal}
use Rattle.qx.specs.declared.Asked.{Asked}
use Rattle.qx.specs.Message.{qx_packet}
use Rattle.qx.specs.Asked.{is_carried, picture_of, asked_by, asked_of, data_for, brightness_set, contrast_set, black_level_set}
use Rattle.qx.specs.Translation.{packets_for, packets_in, packets_told, translated, translated_over}

module _ (out : List ℕ) (r : Request) where
  -- an output that is too small
  pub small : length out < longest → (Err Refusal.NoRoom ≡ translated (length out) r) × (out ≡ translated_over out r)
  unfolding translated packets_in translated_over laid_over flatten
  small h = (simp (lt-ltb _ _ h), simp (lt-ltb _ _ h))

  -- what is no request has no packets
  no_packets : is_request Edition.Sicp201 r ≡ false → packets_for r ≡ []
  unfolding packets_for asked_of data_for
  no_packets e = rw e

  pub no_request : longest ≤ length out → is_request Edition.Sicp201 r ≡ false
      → (Err Refusal.NotARequest ≡ translated (length out) r) × (out ≡ translated_over out r)
  unfolding translated packets_in translated_over laid_over flatten
  no_request h e = (simp (le-ltb _ _ h, e), simp (le-ltb _ _ h, no_packets e))

  -- a request that asks nothing
  pub not_carried : (o : Option Asked) {e : Refusal} → longest ≤ length out → is_request Edition.Sicp201 r ≡ true → o ≡ asked_of r → ok_or o Refusal.NotCarried ≡ Err e
      → (Err e ≡ translated (length out) r) × (out ≡ translated_over out r)
  unfolding translated packets_in translated_over packets_for data_for laid_over flatten
  not_carried None {e = e} h t s q =
      let is : Err Refusal.NotCarried ≡ translated (length out) r = rw (le-ltb _ _ h, t, ← s) in
      let told : ◌≡◌ {A = Result Asked Refusal} (Err Refusal.NotCarried) (Err e) = q in
      let same : Refusal.NotCarried ≡ e = cc in
      (rw (← same) is, rw (le-ltb _ _ h, ← s))
  not_carried (Some asked) {e = e} h t s q = let z : ◌≡◌ {A = ℕ} 0 1 = cc in absurd (omega arith)

  some_packets : (asked : Asked) → eqb (length (map (qx_packet r.id) (data_for (Some asked)))) 0 ≡ false
  unfolding data_for
  some_packets Asked.GetPower = refl
  some_packets (Asked.SetPower v) = refl
  some_packets (Asked.SetPicture b c l) = refl

  -- and of what is asked, the packets are written
  pub written : (asked : Asked) → longest ≤ length out → is_request Edition.Sicp201 r ≡ true → Some asked ≡ asked_of r
      → let ps = map (qx_packet r.id) (data_for (Some asked)) in
      (Ok (packets_told ps) ≡ translated (length out) r) × (laid_over (flatten ps) out ≡ translated_over out r)
  unfolding translated packets_in translated_over packets_for
  written asked h t s = (rw (le-ltb _ _ h, t, ← s, some_packets asked), rw (le-ltb _ _ h, ← s))

-- the data of a picture's packets, and of what a request asks
pub picture_data : (p : Profile) (v : List ℕ)
    → data_for (picture_of p v)
    ≡ cond (eqb (profile_number p) 0 && is_carried v)
    ((brightness_set ∷ get_or v 0 0 ∷ []) ∷ (contrast_set ∷ get_or v 2 0 ∷ []) ∷ (black_level_set ∷ get_or v 5 0 ∷ []) ∷ []) []
unfolding picture_of data_for
picture_data Profile.General v = go (is_carried v)
  where
    go : (t : Bool) → data_for (cond t (Some (Asked.SetPicture (get_or v 0 0) (get_or v 2 0) (get_or v 5 0))) None)
        ≡ cond t ((brightness_set ∷ get_or v 0 0 ∷ []) ∷ (contrast_set ∷ get_or v 2 0 ∷ []) ∷ (black_level_set ∷ get_or v 5 0 ∷ []) ∷ []) []
    go true = refl
    go false = refl
picture_data Profile.Phoenix v = refl

pub asked_data : (r : Request) → data_for (asked_of r) ≡ cond (is_request Edition.Sicp201 r && is_heard r.id r.group) (data_for (asked_by r)) []
unfolding asked_of data_for
asked_data r = go (is_request Edition.Sicp201 r && is_heard r.id r.group)
  where
    go : (t : Bool) → data_for (cond t (asked_by r) None) ≡ cond t (data_for (asked_by r)) []
    go true = refl
    go false = refl
