-- For every text and whatever tables: the base of each entry is what the bytes of its span say. Assumes nothing.
use mathlib.Core.Path.{◌≡◌, refl, sym, subst, ◌∙◌}
use mathlib.Core.List.{List, []}
use Prim.Native.Nat.{ℕ, ◌/◌, ◌≤◌, ◌<◌}
use native.Mathlib.Omega.{arith}
use native.Mathlib.Decide.{dec_lt}
use lib.ListN.{length, get_or}
use borrow.Author.Tests.{eq-eqb}
use Rattle.tables.specs.Tables.{Token, Node, token_at, node_at, token_table, node_table}
use Rattle.tables.specs.TokenKinds.{NUMBER}
use Rattle.tables.proofs.Laws.{TokenFits, NodeFits, zero_token, zero_node, token_read, token_past, node_read, node_past}
use Rattle.numeral.specs.Numeral.{base_of}
use Rattle.lexer.specs.Lexes.{Lexes}
use Rattle.grammar.specs.Derive.{Input, token, spelling}
use Rattle.grammar.specs.Grammar.{Tree}
use Rattle.grammar.proofs.On.{is_token}
use Rattle.grammar.proofs.Fits as nodes
use Rattle.grammar.proofs.Bases.{bases}
use Rattle.cairo_m.specs.Bases.{token_base, node_base, BasesAre}
use Rattle.cairo_m.specs.Reading.{input, Outcome, TokensAre, is_nest, is_syntax, is_suffix, is_node_room, is_accepted}
use Rattle.cairo_m.specs.Reading.{OutcomeIs, is_long, is_encoding, is_lexical, is_token_room, is_lexed, tokens_of, nodes_of, Reading, ReadingIs}
use Rattle.cairo_m.proofs.Lexed.{ordered, fits, values, token_bases}
use Rattle.cairo_m.proofs.Demand3.{each_at}

-- what holds of each entry stored, and of one that is all zero, holds of every entry read
entries : {A : Type 0} (P : A → Type 0) (at : ℕ → A) (l : List A) (d : A) → ((i : ℕ) → i < length l → at i ≡ get_or l i d) → ((i : ℕ) → length l ≤ i → at i ≡ d)
    → ((i : ℕ) → i < length l → P (get_or l i d)) → P d → (i : ℕ) → P (at i)
entries P at l d within past p z i = elim (dec_lt i (length l)) [ yes h ↦ subst P (sym (within i h)) (p i h) | no h ↦ subst P (sym (past i (omega arith))) z ]

module _ (text : List ℕ) (k m : ℕ) where
  abbrev Holds : List Token → List Node → Type 0
  Holds ts ns = BasesAre text (token_table k ts) (node_table m ns)

  holds : (ts : List Token) (ns : List Node) → length ts ≤ k / 16 → length ns ≤ m / 16
      → ((i : ℕ) → i < length ts → TokenFits (get_or ts i zero_token) × ((get_or ts i zero_token).base ≡ token_base text (get_or ts i zero_token)))
      → ((i : ℕ) → i < length ns → NodeFits (get_or ns i zero_node) × ((get_or ns i zero_node).base ≡ node_base text (get_or ns i zero_node))) → Holds ts ns
  unfolding token_base node_base
  holds ts ns h g t n =
      record {
        tokens = entries (λ a. a.base ≡ token_base text a) (λ i. token_at (token_table k ts) i) ts zero_token (λ i l. token_read k ts i zero_token l (omega arith) (t i l).0) (token_past k ts) (λ i l. (t i l).1) refl;
        nodes = entries (λ a. a.base ≡ node_base text a) (λ i. node_at (node_table m ns) i) ns zero_node (λ i l. node_read m ns i zero_node l (omega arith) (n i l).0) (node_past m ns) (λ i l. (n i l).1) refl;
      }

  none : Holds [] []
  none = holds [] [] (omega arith) (omega arith) (λ i h. absurd (omega arith)) (λ i h. absurd (omega arith))

  some : {ts : List Token} {ns : List Node} {us : List Token} → length text ≤ 65535 → Lexes 0 text ts [] → length ts ≤ k / 16 → Tree (input text ts) ns us → length ns ≤ m / 16 → Holds ts ns
  unfolding token_base node_base
  some {ts} {ns} short l h t g =
      holds ts ns h g (λ i j. (fits l short i j, token_bases l i j)) (λ i j. (each_at (nodes.fits (ordered l) short (values l) t) i j, (each_at (bases x base_of told t) i j).is))
    where
      x : Input
      x = input text ts

      told : (i : ℕ) → (token x i).kind ≡ NUMBER → (token x i).base ≡ base_of (spelling x (token x i))
      told i e = token_bases l i (is_token x i NUMBER e (omega arith)) ∙ rw (eq-eqb (token x i).kind NUMBER e)

  by_tokens : {ts : List Token} {o : Outcome} → length text ≤ 65535 → Lexes 0 text ts [] → length ts ≤ k / 16 → TokensAre text (m / 16) ts o → Holds (tokens_of o) (nodes_of o)
  by_tokens h l q (is_nest d) = none
  by_tokens h l q (is_syntax d s i) = none
  by_tokens h l q (is_suffix d t) = none
  by_tokens h l q (is_node_room d t g) = none
  by_tokens h l q (is_accepted d t g) = some h l q t g

  by_outcome : {o : Outcome} → OutcomeIs text (k / 16) (m / 16) o → Holds (tokens_of o) (nodes_of o)
  by_outcome (is_long h) = none
  by_outcome (is_encoding h u) = none
  by_outcome (is_lexical h u l) = none
  by_outcome (is_token_room h u l q) = none
  by_outcome (is_lexed h u l q a) = by_tokens h l q a

pub bases_are : {text : List ℕ} {k m n : ℕ} {a b c : List ℕ} {r : Reading} → ReadingIs text k m n a b c r → BasesAre text a b
bases_are {text} {k} {m} v = rw (v.tokens, v.nodes) (by_outcome text k m v.is)
