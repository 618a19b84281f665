use borrow.Author.Rules.{rules}
use Rattle.answers.proofs.Entries.{entry_is}
use Rattle.answers.proofs.playing.entry_of.Goals as goal

-- The index and the places have what the wall has. Assumes nothing.
pub returns : goal.returns
returns c = entry_is c.requires c.args.names (search rules) (search rules) _ c.count_of.ensures _
