use borrow.Author.Rules.{rules}
use native.Mathlib.Omega.{arith}
use Rattle.utf8.specs.Utf8.{begins}
use Rattle.utf8.proofs.Laws.{refused, one_here, two_arm, three_arm, four_arm}
use Rattle.utf8.proofs.char_len.Goals as goal

pub returns-in-len1-up : goal.returns-in-len1-up
returns-in-len1-up c = begins _ 1 (one_here (omega arith))

pub returns-in-len2-up : goal.returns-in-len2-up
returns-in-len2-up c = search (rules, two_arm)

pub returns-in-len3-up : goal.returns-in-len3-up
returns-in-len3-up c = search (rules, three_arm)

pub returns-in-len4-up : goal.returns-in-len4-up
returns-in-len4-up c = search (rules, four_arm)

pub returns-in_default : goal.returns-in_default
returns-in_default c = refused (omega arith)

pub returns-in_default-2 : goal.returns-in_default-2
returns-in_default-2 c = refused (omega arith)

pub returns-in_default-3 : goal.returns-in_default-3
returns-in_default-3 c = refused (omega arith)

pub returns-in_default-4 : goal.returns-in_default-4
returns-in_default-4 c = refused (omega arith)
