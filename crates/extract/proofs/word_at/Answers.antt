use borrow.Author.Rules.{rules}
use Rattle.extract.specs.Extract.{word}
use Rattle.extract.proofs.word_at.Goals as goal

pub returns : goal.returns
unfolding word
returns c = search rules
