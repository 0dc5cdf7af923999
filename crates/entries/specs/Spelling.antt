-- The spelling of a name. Assumes nothing.
use Rattle.std.specs.Prelude.{Bool, cond, ◌&&◌, ◌||◌, List, [], ℕ, ◌-◌, eqb, leb, length, take, drop}
use Rattle.grammar.specs.Kinds.{Name, Named, Identifier}

-- the kinds of nodes that have a spelling
abbrev pub spelt : ℕ → Bool
spelt kind = eqb kind Name || eqb kind Named || eqb kind Identifier

-- that part of the text; another kind, or a span not within the text, gives an empty part
abbrev pub spelling_of : List ℕ → (kind start end : ℕ) → List ℕ
spelling_of text kind start end = cond (spelt kind && leb start end && leb end (length text)) (take (end - start) (drop start text)) []
