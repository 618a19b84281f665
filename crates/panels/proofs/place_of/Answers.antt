use mathlib.Core.Path.{sym}
use native.Mathlib.Omega.{arith}
use borrow.Author.Rules.{rules}
use Rattle.panels.proofs.Index.{place_found, place_by}
use Rattle.panels.proofs.place_of.Goals as goal

pub returns-then-k-lt-MOST_PANELS : goal.returns-then-k-lt-MOST_PANELS
returns-then-k-lt-MOST_PANELS c =
    sym ((place_by c.args.id _ c.requires.few _ (place_found c.requires c.args.id (search rules) 0)).0 c.if-k-lt-MOST_PANELS.true)

pub returns-else-k-lt-MOST_PANELS : goal.returns-else-k-lt-MOST_PANELS
returns-else-k-lt-MOST_PANELS c =
    sym ((place_by c.args.id _ c.requires.few _ (place_found c.requires c.args.id (search rules) 0)).1 (omega arith))
