use mathlib.Core.Bool.{◌&&◌}
use Rattle.std.proofs.Common.{rules, true}
use borrow.Author.Tests.{tests}
use Rattle.std.proofs.lemmas.Iterator.{YieldsList-from_slice}
use Rattle.std.proofs.lemmas.Iterator.Consumers.{fold_from_yields_List}
use Rattle.lexer.specs.Scans.{plain}
use Rattle.lexer.proofs.scan.is_plain.Goals as goal

pub returns : goal.returns
returns c = fold_from_yields_List _ (λ p b. p && plain b) true _ c.fold.ensures.ran (YieldsList-from_slice c.args.t.now cc) (λ a x b q k. search (rules, tests))
