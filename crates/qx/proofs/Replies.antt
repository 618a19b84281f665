-- What a list of answers says, answer by answer. Assumes nothing.
use Prim.Native.Nat.{ℕ, ◌<◌}
use mathlib.Core.Bool.{Bool, true, false, cond, and-false, or-false, ◌||◌}
use mathlib.Core.List.{List, [], ◌∷◌}
use mathlib.Core.Path.{◌≡◌, refl, ap}
use native.Mathlib.Omega.{arith}
use borrow.Author.Tests.{lt-ltb, eq-eqb, ne_eqb}
use lib.Dec.{ltb}
use lib.ListN.{length}
use Rattle.std.specs.Prelude.{Some, None, Ok, Err}
use Rattle.bursts.specs.Bursts.{bursts_in}
use Rattle.bursts.specs.Left.{whole_bursts}
use Rattle.packet.specs.declared.MonitorId.{MonitorId}
use Rattle.qx.specs.declared.Reply.{Reply}
use Rattle.qx.specs.declared.NoAnswer.{NoAnswer}
use Rattle.qx.specs.declared.Asked.{Asked}
use Rattle.qx.specs.Asked.{data_for, codes_for}
use Rattle.qx.specs.Replies.{Answer, wrong, replies_to, is_wrong, is_ack, any_wrong, first_other, joined, answers_all, heard_in}

-- one reply is all that is said
pub alone : (r : Answer) → joined (r ∷ []) ≡ r
unfolding joined any_wrong first_other
alone (Ok Reply.Ack) = refl
alone (Ok Reply.Nack) = refl
alone (Ok Reply.Nav) = refl
alone (Ok (Reply.Report v)) = refl
alone (Err e) = refl

pub joined_two : (a b : Answer) → joined (a ∷ b ∷ []) ≡ cond (is_wrong b) wrong (cond (is_ack a) b a)
unfolding joined any_wrong first_other
joined_two (Ok Reply.Ack) (Ok Reply.Ack) = refl
joined_two (Ok Reply.Ack) (Ok Reply.Nack) = refl
joined_two (Ok Reply.Ack) (Ok Reply.Nav) = refl
joined_two (Ok Reply.Ack) (Ok (Reply.Report v)) = refl
joined_two (Ok Reply.Ack) (Err e) = refl
joined_two (Ok Reply.Nack) b = rw (or-false (is_wrong b))
joined_two (Ok Reply.Nav) b = rw (or-false (is_wrong b))
joined_two (Ok (Reply.Report v)) b = rw (or-false (is_wrong b))
joined_two (Err e) b = go (is_wrong b)
  where
    go : (t : Bool) → wrong ≡ cond t wrong wrong
    go true = refl
    go false = refl

-- the first two may be joined before the others
other_first : (a : Answer) (t : Bool) (rs : List Answer) → is_wrong a ≡ false → is_ack a ≡ false
    → joined (cond (t || false) wrong a ∷ rs) ≡ cond (t || any_wrong rs) wrong a
unfolding joined any_wrong first_other
other_first a true rs w k = refl
other_first a false rs w k = rw (w, k)

pub joined_on : (a b : Answer) (rs : List Answer) → joined (joined (a ∷ b ∷ []) ∷ rs) ≡ joined (a ∷ b ∷ rs)
unfolding joined any_wrong first_other
joined_on (Ok Reply.Ack) b rs = ap (λ (r : Answer). joined (r ∷ rs)) (alone b)
joined_on (Ok Reply.Nack) b rs = other_first (Ok Reply.Nack) (is_wrong b) rs refl refl
joined_on (Ok Reply.Nav) b rs = other_first (Ok Reply.Nav) (is_wrong b) rs refl refl
joined_on (Ok (Reply.Report v)) b rs = other_first (Ok (Reply.Report v)) (is_wrong b) rs refl refl
joined_on (Err e) b rs = refl

-- the first of two that are replies may go in front of the others
pub joined_first : (a b : Reply) (rs : List Answer) → joined (Ok (cond (is_ack (Ok a)) b a) ∷ rs) ≡ joined (Ok a ∷ Ok b ∷ rs)
unfolding joined any_wrong first_other
joined_first Reply.Ack b rs = refl
joined_first Reply.Nack b rs = refl
joined_first Reply.Nav b rs = refl
joined_first (Reply.Report v) b rs = refl

-- and an answer that is none is all that is said
pub joined_wrong : (a : Reply) (e : NoAnswer) (rs : List Answer) → joined (Ok a ∷ Err e ∷ rs) ≡ Err e
unfolding joined any_wrong
joined_wrong a e rs = refl

-- before the first nothing is said
pub joined_ack : (rs : List Answer) → joined (Ok Reply.Ack ∷ rs) ≡ joined rs
unfolding joined any_wrong first_other
joined_ack rs = refl

-- of the codes or the answers none is left
pub replies_end : (id : MonitorId) (codes : List ℕ) (answers : List (List ℕ)) → answers ≡ [] → replies_to id codes answers ≡ []
unfolding replies_to
replies_end id [] answers e = refl
replies_end id (c ∷ codes) answers e = rw e

-- a list of bursts that is taken apart, or stops inside one
pub cut_of : (list : List ℕ) → whole_bursts list ≡ None → (bursts_in list).cut ≡ true
unfolding whole_bursts
cut_of list e = go (bursts_in list).cut (bursts_in list).whole e
  where
    go : (t : Bool) (v : List (List ℕ)) → cond t None (Some v) ≡ None → t ≡ true
    go true v e = refl
    go false v e = let z : ◌≡◌ {A = ℕ} 0 1 = cc in absurd (omega arith)

pub whole_of : (list : List ℕ) {w : List (List ℕ)} → whole_bursts list ≡ Some w → ((bursts_in list).cut ≡ false) × ((bursts_in list).whole ≡ w)
unfolding whole_bursts
whole_of list {w = w} e = go (bursts_in list).cut (bursts_in list).whole e
  where
    go : (t : Bool) (v : List (List ℕ)) → cond t None (Some v) ≡ Some w → (t ≡ false) × (v ≡ w)
    go true v e = let z : ◌≡◌ {A = ℕ} 0 1 = cc in absurd (omega arith)
    go false v e = (refl, cc)

-- what is asked has a packet at least
some_codes : (asked : Asked) → 0 < length (codes_for (Some asked))
unfolding codes_for data_for
some_codes Asked.GetPower = omega arith
some_codes (Asked.SetPower v) = omega arith
some_codes (Asked.SetPicture b c l) = omega arith

-- a list of answers to what is asked
module _ (id : MonitorId) (asked : Asked) (list : List ℕ) where
  pub heard-cut : (bursts_in list).cut ≡ true → heard_in id (codes_for (Some asked)) (bursts_in list) ≡ None
  unfolding heard_in answers_all
  heard-cut e = rw (e, and-false (ltb 0 (length (codes_for (Some asked)))))

  module _ (e : (bursts_in list).cut ≡ false) where
    pub heard-other : (length (bursts_in list).whole ≡ length (codes_for (Some asked)) → ⊥) → heard_in id (codes_for (Some asked)) (bursts_in list) ≡ None
    unfolding heard_in answers_all
    heard-other ne = rw (e, ne_eqb _ _ ne, and-false (ltb 0 (length (codes_for (Some asked)))))

    pub heard-each : length (bursts_in list).whole ≡ length (codes_for (Some asked))
        → heard_in id (codes_for (Some asked)) (bursts_in list) ≡ Some (joined (replies_to id (codes_for (Some asked)) (bursts_in list).whole))
    unfolding heard_in answers_all
    heard-each n = rw (e, eq-eqb _ _ n, lt-ltb _ _ (some_codes asked))
