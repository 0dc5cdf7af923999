use Rattle.std.proofs.Common.{rules}
use Rattle.std.proofs.lemmas.Iterator.Search.{all_from_yields_List}
use Rattle.std.proofs.lemmas.Iterator.Consumers.{YieldsList-from_first}
use Rattle.tables.specs.Tables.{decode_node, nodes_of}
use Rattle.tables.specs.Left.{entries_left}
use Rattle.listing.specs.Answers.{known, all_are_known}
use Rattle.listing.proofs.all_known.Goals as goal

pub returns : goal.returns
unfolding nodes_of all_are_known
returns c =
    all_from_yields_List (λ n. known n.kind) c.all.new.self _ _ c.all.ensures.ran (YieldsList-from_first (λ n. n) (entries_left 16 decode_node) _ c.entries.ensures) (λ x b q k. search rules)
