-- The host's move for a burst and for a mark, by the bytes. Assumes nothing.
use Prim.Native.Nat.{ℕ, zero, suc}
use mathlib.Core.Bool.{Bool, true, false, cond, and-true, ◌&&◌}
use mathlib.Core.Path.{◌≡◌, refl, ◌∙◌}
use mathlib.Core.List.{List, [], ◌∷◌}
use native.Mathlib.Omega.{arith}
use borrow.Author.Tests.{ltb-true, ltb-false, lt-ltb, lt-leb, le-leb, ne_eqb}
use lib.Dec.{leb, ltb, eqb}
use lib.ListN.{length}
use Rattle.std.specs.Prelude.{Option, Some, None}
use Rattle.lists.specs.Lists.{same}
use Rattle.settings.specs.Settings.{settings, get_code}
use Rattle.std.proofs.Common.{Option, Some, None}
use Rattle.codes.specs.declared.Code.{Code}
use Rattle.codes.specs.Found.{found_by}
use Rattle.packet.specs.declared.Edition.{Edition}
use Rattle.packet.specs.Packet.{is_intact, data_of}
use Rattle.packet.specs.Reading.{reading_of}
use Rattle.requests.specs.declared.Request.{Request}
use Rattle.requests.specs.declared.Said.{Said}
use Rattle.requests.specs.Request.{is_power_off}
use Rattle.requests.specs.Said.{is_control, is_report, ended_by, word_in}
use Rattle.host.specs.Heard.{said_to}
use Rattle.host.specs.Machine.{State, waits, quiet, unasked, again, nav_ends, ending, heard, step}
use Rattle.demands.specs.Editions.{heeds}
use Rattle.demands.specs.HostMoves.{data_in, ends_by, said, sent_again, moved_by, heard_by, MarkMoves}
use Rattle.demands.proofs.Editions.{heeded}

-- What a burst says to a request.

pub data_in_lem : (edition : Edition) (b : List ℕ) → is_intact edition b ≡ true → data_of edition b ≡ data_in edition b
unfolding data_of
data_in_lem Edition.Sicp185 b e = rw e
data_in_lem Edition.Sicp201 b e = rw e

ends_by_lem : (r : Request) (f : Option Code) (d : List ℕ) → ended_by r.model f d ≡ ends_by r f d
unfolding ended_by is_control is_report same
ends_by_lem r (Some (Code.Set row)) d = refl
ends_by_lem r (Some (Code.Get row)) [] = refl
ends_by_lem r (Some (Code.Get row)) (c ∷ values) = rw (and-true (eqb c (get_code row)))
ends_by_lem r None d = refl

word_in_lem : (r : Request) (d : List ℕ) → word_in r.model r.code d ≡ cond (same d (0x00 ∷ 0x15 ∷ [])) (Some Said.Nack) (cond (same d (0x00 ∷ 0x18 ∷ [])) (Some Said.Nav) (ends_by r (found_by r.code) d))
unfolding word_in is_control
word_in_lem r d = rw (ends_by_lem r (found_by r.code) d)

pub said_is : (edition : Edition) (r : Request) (b : List ℕ) → said_to r (reading_of edition b) ≡ said edition r b
said_is edition r b = heeded edition r b ∙ go (is_intact edition b) refl
  where
    go : (t : Bool) → is_intact edition b ≡ t
        → cond (is_intact edition b && heeds edition r b) (word_in r.model r.code (data_of edition b)) None ≡ said edition r b
    go true e = rw (data_in_lem edition b e, word_in_lem r (data_in edition b))
    go false e = rw e

-- The host's move, by what the burst says.

never_both : {A : Type 0} (n : ℕ) (x y : A) → cond (ltb n 3) x y ≡ cond (leb 3 n) y x
never_both n x y = go (ltb n 3) refl
  where
    go : (t : Bool) → ltb n 3 ≡ t → cond (ltb n 3) x y ≡ cond (leb 3 n) y x
    go true e = rw (e, lt-leb 3 n (ltb-true n 3 e))
    go false e = rw (e, le-leb 3 n (ltb-false n 3 e))

again_by : (s : State) → again s ≡ sent_again s
unfolding again
again_by s = never_both (length s.given) _ _

moved_by_lem : (s : State) (d : List ℕ) (w : Option Said) → ending s d w ≡ moved_by s d w
unfolding ending nav_ends is_power_off settings
moved_by_lem s d (Some Said.Ack) = refl
moved_by_lem s d (Some Said.Nack) = again_by s
moved_by_lem s d (Some Said.Nav) = refl
moved_by_lem s d (Some Said.Report) = refl
moved_by_lem s d None = refl

-- what is not intact says nothing
waiting_by : (s : State) (b : List ℕ) → heard s (reading_of s.edition b) ≡ moved_by s (data_in s.edition b) (said s.edition s.request b)
unfolding heard
waiting_by s b = rw (said_is s.edition s.request b) (moved_by_lem s _ _ ∙ go (is_intact s.edition b) refl)
  where
    go : (t : Bool) → is_intact s.edition b ≡ t
        → moved_by s (data_of s.edition b) (said s.edition s.request b) ≡ moved_by s (data_in s.edition b) (said s.edition s.request b)
    go true e = rw (data_in_lem s.edition b e)
    go false e = rw e

-- nothing waits where no packet was given out
pub some_or_none : {A : Type 0} (n : ℕ) (x y : A) → cond (ltb 0 n) x y ≡ cond (eqb n 0) y x
some_or_none zero x y = refl
some_or_none (suc n) x y = rw (lt-ltb 0 (suc n) (omega arith), ne_eqb (suc n) 0 (λ e. omega arith))

pub heard_by_lem : (s : State) (b : List ℕ) → cond (waits s) (heard s (reading_of s.edition b)) (quiet s (unasked s.resting)) ≡ heard_by s b
heard_by_lem s b = rw (waiting_by s b) (some_or_none (length s.given) _ _)

pub mark_moves : MarkMoves
unfolding step
mark_moves s = rw (again_by s) (some_or_none (length s.given) _ _)
