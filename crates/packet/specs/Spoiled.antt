-- A burst spoiled by one byte: changed, lost, or one added at any place. The third demand; 01, "Ways it has gone wrong".
use Rattle.std.specs.Prelude.{ℕ, suc, ◌≤◌, ◌<◌, ◌≡◌, List, ◌∷◌, ◌++◌, length, get_or, take, drop, set}

pub data Spoiling : Type 0 where
  changed : ℕ → ℕ → Spoiling
  lost : ℕ → Spoiling
  added : ℕ → ℕ → Spoiling

-- byte i becomes v; byte i goes; v comes before byte i, or behind the last
unfoldable pub spoiled : Spoiling → List ℕ → List ℕ
spoiled (changed i v) burst = set burst i v
spoiled (lost i) burst = take i burst ++ drop (suc i) burst
spoiled (added i v) burst = take i burst ++ v ∷ drop i burst

-- the byte is one of the burst's, and it changes to another
unfoldable pub Spoils : Spoiling → List ℕ → Type 0
Spoils (changed i v) burst = (i < length burst) × (get_or burst i 0 ≡ v → ⊥)
Spoils (lost i) burst = i < length burst
Spoils (added i v) burst = i ≤ length burst
