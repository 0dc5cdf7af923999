-- From the reading of all items to the answer; and two answers agree. Assumes nothing.
use mathlib.Core.Path.{◌≡◌, refl, sym, ap, ◌∙◌}
use mathlib.Core.List.{List}
use Prim.Native.Nat.{ℕ, ◌/◌, ◌<◌}
use native.Mathlib.Omega.{arith}
use lib.ListN.{length, replicate}
use Rattle.std.specs.Prelude.{Result as Answer, Ok, Err}
use Rattle.tables.specs.Tables.{Token, Node, kept, table}
use Rattle.tables.proofs.Laws.{tokens_length}
use Rattle.grammar.specs.Derive.{Input, S, Out, got, begin, Derives}
use Rattle.grammar.specs.Grammar.{body, file, Tree, Deep, Stops}
use Rattle.grammar.proofs.Unique.{unique, same}
use Rattle.grammar.proofs.Whole.{tree_one, stops_one}
use Rattle.cursor.specs.Entries.{input, entry_of}
use Rattle.cursor.specs.Read.{Attempt, Represents, reached, Result, matched, failed, exceeded, Reads, still, reads, start}
use Rattle.parser.specs.Parse.{Verdict, tree, syntax, deep, VerdictIs, is_deep, is_tree, is_syntax, answer_of, nodes_of, ParsedIs}
use Rattle.cursor.specs.declared.Cursor.{Cursor}
use Rattle.parser.specs.declared.ParseError.{ParseError}
use Rattle.cursor.proofs.Cursors.{near}
use Rattle.cursor.proofs.Holding.{holds_none, held}
use Rattle.cursor.proofs.Laws.{clash, fine}
use Rattle.cursor.specs.declared.Status.TheVariants.{Reading, Failed, Deep as TooDeep}

result : {text w : List ℕ} {p : Cursor} {T U : List ℕ} → Reads file text w start T p U → Result file text w start begin T p U
result (still n e i f) = absurd (n refl)
result (reads z k) = k begin (record { at = refl; first = refl; parts = near; mark = near; from = near; to = near; count = near })

shallow : {x : Input} {o : Out} {a b : ℕ} → Attempt x file 0 begin o a b → Deep x → ⊥
shallow c d = let h = c.within.limit d.token d.nest d.takes in omega (arith, d.above)

-- from the first token on, what is reached is the first token that no attempt takes
stops : {x : Input} {o : Out} {b : ℕ} → Attempt x file 0 begin o 0 b → Stops x b
stops {b = b} c = record { taken = λ i h. c.within.taken i (omega arith) h; untaken = λ t. omega (arith, c.within.below b t.0 t.1) }

-- the table is as long as it was
all_zero : {W : List ℕ} {n m : ℕ} → m ≡ n → W ≡ replicate m 0 → W ≡ replicate n 0
all_zero l e = e ∙ ap (λ (n : ℕ). replicate n 0) l

module _ {text w : List ℕ} {p : Cursor} {r : Answer ℕ ParseError} {T U W : List ℕ} where
  pub too_deep : Reads file text w start T p U → (p.status ≡ Reading → ⊥) → W ≡ replicate (length U) 0 → length U ≡ length T → r ≡ Err ParseError.Deep → ParsedIs text w (length T) W r
  too_deep y n k l e = go (result y)
    where
      go : Result file text w start begin T p U → ParsedIs text w (length T) W r
      go (matched t z m v c f) = absurd (n z)
      go (failed z c f) = absurd (fine y (λ e. clash Reading Failed refl e (omega arith)) z)
      go (exceeded z c) =
          record { verdict = deep; is = is_deep (record { token = c.token; nest = c.nest; above = c.above; takes = c.takes }); answer = e; nodes = all_zero l k }

  pub rejected : {n i : ℕ} → Reads file text w start T p U → p.status ≡ Reading → n ≡ length w / 16 → (p.at ≡ n → ⊥) → W ≡ replicate (length U) 0 → length U ≡ length T → i ≡ reached p → r ≡ Err (ParseError.Syntax i)
      → ParsedIs text w (length T) W r
  rejected y z m a k l i e = go (result y)
    where
      other : {t : S} → Represents p t → Derives body (input text w) file begin (got t) → (ns : List Node) (us : List Token) → Tree (input text w) ns us → ⊥
      other v d ns us t = a (v.at ∙ ap (λ (x : S). x.at) (same (unique d t.derived)) ∙ t.all ∙ tokens_length w ∙ sym m)

      go : Result file text w start begin T p U → ParsedIs text w (length T) W r
      go (matched t _ _ v c f) = record { verdict = syntax (reached p); is = is_syntax (shallow c) (other v c.derived) (stops c); answer = e ∙ ap (λ (k : ℕ). Err (ParseError.Syntax k)) i; nodes = all_zero l k }
      go (failed z' c f) = clash Failed Reading z' z (omega arith)
      go (exceeded z' c) = clash TooDeep Reading z' z (omega arith)

  pub accepted : {n : ℕ} → Reads file text w start T p U → p.status ≡ Reading → n ≡ length w / 16 → p.at ≡ n → length T < 0x1_0000_0000_0000_0000 → p.count < 0x1_0000_0000_0000_0000 → W ≡ kept 16 p.count U → length U ≡ length T → r ≡ Ok p.count → ParsedIs text w (length T) W r
  accepted y z m a b h k l e = go (result y)
    where
      go : Result file text w start begin T p U → ParsedIs text w (length T) W r
      go (matched t _ _ v c f) =
          record {
            verdict = tree t.nodes;
            is = is_tree (shallow c) (record { last = t; derived = c.derived; all = sym v.at ∙ a ∙ m ∙ sym (tokens_length w); these = refl; unknowns = refl });
            answer = e ∙ ap (λ (k : ℕ). Ok k) (omega (arith, v.count.upto));
            nodes = k ∙ held (omega arith) v.count (f (holds_none T)) ∙ ap (λ (n : ℕ). table 16 entry_of n t.nodes) l;
          }
      go (failed z' c f) = clash Failed Reading z' z (omega arith)
      go (exceeded z' c) = clash TooDeep Reading z' z (omega arith)

-- ---- determined

pub verdict_one : {x : Input} {a b : Verdict} → VerdictIs x a → VerdictIs x b → a ≡ b
verdict_one (is_deep d) (is_deep e) = refl
verdict_one (is_deep d) (is_tree n t) = absurd (n d)
verdict_one (is_deep d) (is_syntax n s i) = absurd (n d)
verdict_one (is_tree n t) (is_deep d) = absurd (n d)
verdict_one (is_tree n t) (is_tree m u) = ap tree (tree_one t u).0
verdict_one (is_tree n t) (is_syntax m s i) = absurd (s _ _ t)
verdict_one (is_syntax n s i) (is_deep d) = absurd (n d)
verdict_one (is_syntax n s i) (is_tree m t) = absurd (s _ _ t)
verdict_one (is_syntax n s i) (is_syntax m u j) = ap syntax (stops_one i j)

pub parsed_one : {text w : List ℕ} {n : ℕ} {U W : List ℕ} {r q : Answer ℕ ParseError} → ParsedIs text w n U r → ParsedIs text w n W q → (r ≡ q) × (U ≡ W)
parsed_one {n = n} a b =
    let e = verdict_one a.is b.is in
    (a.answer ∙ ap answer_of e ∙ sym b.answer, a.nodes ∙ ap (nodes_of n) e ∙ sym b.nodes)
