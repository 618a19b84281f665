-- A burst sent again. 01, "Host side": the same packet again; 02, A5: a set sent one, two or three times leaves the same table.
use Rattle.std.specs.Prelude.{ℕ, ◌≡◌, List, [], ◌∷◌}
use Rattle.packet.specs.declared.Edition.{Edition}
use Rattle.panels.specs.declared.Table.{Table}
use Rattle.panels.specs.Wall.{Wall, panels_of}
use Rattle.panels.specs.WellFormed.{WellFormed}
use Rattle.answers.specs.Session.{session}
use Rattle.demands.specs.Apart.{Apart}

-- bursts among which b is sent again, the others to other panels; and these others alone
pub data Again (edition : Edition) (w : Wall) (b : List ℕ) : List (List ℕ) → List (List ℕ) → Type 0 where
  done : Again edition w b [] []
  again : {bs others : List (List ℕ)} → Again edition w b bs others → Again edition w b (b ∷ bs) others
  other : {bs others : List (List ℕ)} (c : List ℕ) → Apart edition w b c → Again edition w b bs others → Again edition w b (c ∷ bs) (c ∷ others)

-- A burst, and so a set, leaves the same table however often it is sent, also with bursts to other panels between.
abbrev pub SentAgain : Type 0
SentAgain =
    (edition : Edition) (t : Table) → WellFormed t → (b : List ℕ) (bs others : List (List ℕ)) → Again edition (panels_of t) b bs others
    → (session edition (panels_of t) (b ∷ bs)).wall ≡ (session edition (panels_of t) (b ∷ others)).wall
