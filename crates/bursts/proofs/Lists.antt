-- What a list is, by what was made of it. Assumes nothing.
use Rattle.std.proofs.Common.{◌≡◌, refl, true, false, Bool, cond, List, ℕ, Option, Some, None, sym, ap, ◌∙◌}
use Rattle.std.specs.Option.{option_map}
use Rattle.bursts.specs.declared.BurstList.{BurstList}
use Rattle.bursts.specs.Bursts.{bursts_in}
use Rattle.bursts.specs.Left.{bursts_left, whole_bursts}

module _ (list : List ℕ) {o : Option BurstList} (is : option_map bursts_left o ≡ whole_bursts list) where
  -- a list that is whole, and its bursts
  pub made_whole : (b : BurstList) → o ≡ Some b → ((bursts_in list).cut ≡ false) × (bursts_left b ≡ (bursts_in list).whole)
  unfolding whole_bursts
  made_whole b e = go (bursts_in list).cut refl (sym (ap (option_map bursts_left) e) ∙ is)
    where
      go : (t : Bool) → (bursts_in list).cut ≡ t → ◌≡◌ {A = Option (List (List ℕ))} (Some (bursts_left b)) (cond t None (Some (bursts_in list).whole)) → ((bursts_in list).cut ≡ false) × (bursts_left b ≡ (bursts_in list).whole)
      go true s h = cc
      go false s h = (s, cc)

  -- and one that stops inside a burst
  pub made_none : o ≡ None → (bursts_in list).cut ≡ true
  unfolding whole_bursts
  made_none e = go (bursts_in list).cut refl (sym (ap (option_map bursts_left) e) ∙ is)
    where
      go : (t : Bool) → (bursts_in list).cut ≡ t → ◌≡◌ {A = Option (List (List ℕ))} None (cond t None (Some (bursts_in list).whole)) → (bursts_in list).cut ≡ true
      go true s h = s
      go false s h = cc
