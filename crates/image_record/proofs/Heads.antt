-- A head that fits, and the IDs seen before, of a wall or marked. Assumes nothing.
use mathlib.Core.Path.{◌≡◌, refl, sym, subst, ◌∙◌}
use mathlib.Core.Bool.{Bool, true, false, cond, false≢true}
use mathlib.Core.List.{List, [], ◌∷◌, ◌++◌}
use Prim.Native.Nat.{ℕ, suc, ◌≤◌, ◌<◌}
use borrow.Author.Tests.{leb-true, eqb-true, eqb-false, not-true}
use native.Mathlib.Omega.{arith}
use lib.Dec.{leb, eqb}
use lib.ListN.{length, get_or, set, replicate}
use lib.Seq.{get_or-set_same, get_or-set_other}
use Rattle.std.specs.Prelude.{Some, None, Option, is_some}
use Rattle.settings.specs.declared.Profile.{Profile}
use Rattle.lists.proofs.Both.{both}
use Rattle.packet.specs.Packet.{monitor_id}
use Rattle.panels.specs.declared.Panel.{Panel}
use Rattle.panels.specs.Wall.{Wall, place_from, place_of}
use Rattle.panels.specs.WellFormed.{GoodWall}
use Rattle.panels.proofs.Formed.{nowhere_absent, good_snoc}
use Rattle.panels.proofs.Values.{InRange}
use Rattle.image_forms.specs.declared.Form.{Form}
use Rattle.image_forms.specs.Forms.{head_size, profile_in}
use Rattle.image_record.specs.Head.{id_in, marked, head_fits, head_in, headed}
use Rattle.image_record.proofs.Steps.{none_seen}

-- what a head is that fits behind a wall
pub record HeadFits (w : Wall) (bytes : List ℕ) : Type 0 where
  pub named : get_or bytes 0 0 ≡ 0 → ⊥
  pub grouped : get_or bytes 1 0 ≡ 0 → ⊥
  pub new : place_of (monitor_id (get_or bytes 0 0)) w ≡ None

pub head_fits_lem : (form : Form) (w : Wall) (bytes : List ℕ) → head_fits form (id_in w) bytes ≡ true → HeadFits w bytes
unfolding head_fits
head_fits_lem form w bytes e =
    let (abc, d) = both _ _ e in
    let (ab, c) = both _ _ abc in
    let b = (both (leb (head_size form) (length bytes)) _ ab).1 in
    record { named = eqb-false _ _ (not-true _ b); grouped = eqb-false _ _ (not-true _ c); new = nowhere _ (not-true _ d) }
  where
    nowhere : (q : Option ℕ) → cond (is_some q) true false ≡ false → q ≡ None
    nowhere (Some k) e = absurd (false≢true (sym e))
    nowhere None e = refl

-- where a profile comes of it, the head fits and says that profile
pub head-known : (form : Form) (seen : ℕ → Bool) (bytes : List ℕ) (profile : Profile) → head_in form seen bytes ≡ Some profile
    → (head_fits form seen bytes ≡ true) × (profile_in form bytes ≡ Some profile)
unfolding head_in
head-known form seen bytes profile e = go (head_fits form seen bytes) refl e
  where
    go : (t : Bool) → head_fits form seen bytes ≡ t → cond t (profile_in form bytes) None ≡ Some profile
        → (head_fits form seen bytes ≡ true) × (profile_in form bytes ≡ Some profile)
    go true f e = (f, e)
    go false f e = absurd (different e)
      where
        different : None ≡ Some profile → ⊥
        different e = let z : ◌≡◌ {A = ℕ} 0 1 = cc in omega arith

-- and is whole
pub head-whole : (form : Form) (seen : ℕ → Bool) (bytes : List ℕ) (profile : Profile) → head_in form seen bytes ≡ Some profile → head_size form ≤ length bytes
unfolding head_fits
head-whole form seen bytes profile e =
    let (abc, _) = both _ _ (head-known form seen bytes profile e).0 in
    let (ab, _) = both _ _ abc in
    leb-true _ _ (both _ _ ab).0

-- exactly the IDs of a wall are marked
pub record Marks (seen : List Bool) (w : Wall) : Type 0 where
  pub alike : (i : ℕ) → marked seen i ≡ id_in w i

pub none-marked : (n : ℕ) → Marks (replicate n false) []
unfolding place_from
none-marked n = record { alike = none_seen n }

there_snoc : (i k : ℕ) (w : Wall) (p : Panel)
    → cond (is_some (place_from (monitor_id i) k (w ++ p ∷ []))) true false
    ≡ cond (eqb p.id.0 i) true (cond (is_some (place_from (monitor_id i) k w)) true false)
unfolding place_from
there_snoc i k [] p = go (eqb p.id.0 i)
  where
    go : (t : Bool) → cond (is_some (cond t (Some k) None)) true false ≡ cond t true false
    go true = refl
    go false = refl
there_snoc i k (q ∷ w) p = go (eqb q.id.0 i) (eqb p.id.0 i) _ _ (there_snoc i (suc k) w p)
  where
    go : (s t : Bool) (a b : Option ℕ) → cond (is_some a) true false ≡ cond t true (cond (is_some b) true false)
        → cond (is_some (cond s (Some k) a)) true false ≡ cond t true (cond (is_some (cond s (Some k) b)) true false)
    go true true a b e = refl
    go true false a b e = refl
    go false t a b e = e

-- the ID of one more panel is marked
pub one_more : {seen : List Bool} {w : Wall} (p : Panel) → Marks seen w → p.id.0 < length seen
    → Marks (set seen p.id.0 true) (w ++ p ∷ [])
one_more {seen} {w} p m h = record { alike = λ i. rw (there_snoc i 0 w p) (go i (eqb p.id.0 i) refl) }
  where
    go : (i : ℕ) (t : Bool) → eqb p.id.0 i ≡ t
        → get_or (set seen p.id.0 true) i false ≡ cond t true (cond (is_some (place_from (monitor_id i) 0 w)) true false)
    go i true e = subst (λ (j : ℕ). get_or (set seen p.id.0 true) j false ≡ true) (eqb-true _ _ e) (get_or-set_same seen p.id.0 true false h)
    go i false e = get_or-set_other seen p.id.0 i true false (λ s. eqb-false _ _ e (sym s)) ∙ m.alike i

-- by either a head comes to the same
pub head_alike : {seen : List Bool} {w : Wall} → Marks seen w → (form : Form) (bytes : List ℕ)
    → head_in form (marked seen) bytes ≡ head_in form (id_in w) bytes
unfolding head_in head_fits
head_alike m form bytes = rw (m.alike (get_or bytes 0 0))

-- the panel of a record whose head fits, with values that are in range, is good behind the wall
pub headed-good : (form : Form) (w : Wall) (bytes : List ℕ) (profile : Profile) {values : List ℕ} → head_in form (id_in w) bytes ≡ Some profile
    → InRange profile values → GoodWall w → GoodWall (w ++ headed bytes profile values ∷ [])
headed-good form w bytes profile {values} known i good =
    let h = head_fits_lem form w bytes (head-known form (id_in w) bytes profile known).0 in
    good_snoc w (headed bytes profile values) good (record { named = h.named; grouped = h.grouped; full = i.full; in_range = i.rows })
    (nowhere_absent (monitor_id (get_or bytes 0 0)) 0 w h.new)
