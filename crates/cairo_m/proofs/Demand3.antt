-- Demand 3, for every text and whatever tables: accepted exactly if the grammar derives all tokens; then the nodes handed out are the tree that it derives, and it derives no other. Assumes nothing.
use mathlib.Core.Path.{◌≡◌, refl, sym, ap, subst, ◌∙◌}
use mathlib.Core.List.{List, []}
use Prim.Native.Nat.{ℕ, suc, zero, ◌/◌, ◌≤◌, ◌<◌}
use native.Mathlib.Omega.{arith}
use lib.ListN.{length, get_or}
use Rattle.tables.specs.Tables.{Token, Node, Diagnostic, node_at, node_table, tabulate}
use Rattle.tables.proofs.Laws.{zero_node, nodes_of_table}
use Rattle.utf8.specs.Utf8.{Utf8}
use Rattle.lexer.specs.Lexes.{Lexes}
use Rattle.lexer.proofs.Determined.{lexes_one}
use Rattle.grammar.specs.Grammar.{Tree, Deep}
use Rattle.grammar.proofs.Whole.{tree_one}
use Rattle.grammar.proofs.Spans.{Each, no_node, node}
use Rattle.grammar.proofs.Fits.{fits}
use Rattle.cairo_m.specs.Reading.{input, Outcome, accepted, syntax, TokensAre, is_nest, is_syntax, is_suffix, is_node_room, is_accepted}
use Rattle.cairo_m.specs.Reading.{OutcomeIs, is_long, is_encoding, is_lexical, is_token_room, is_lexed, Reading, reading_of, nodes_of, ReadingIs, outcome_of, counts_of}
use Rattle.cairo_m.proofs.Determined.{errors_one, moved}
use Rattle.cairo_m.proofs.Lexed.{ordered, values}

-- the premises: UTF-8, at most 65,535 bytes, lexes without error to ts, tokens fit, no attempt above nest 64, the derived tree if there is one fits and has no literal of suffix 3
pub record Premises (text : List ℕ) (t n : ℕ) (ts : List Token) : Type 0 where
  pub utf8 : Utf8 text
  pub short : length text ≤ 65535
  pub lexes : Lexes 0 text ts []
  pub tokens_fit : length ts ≤ t
  pub not_deep : Deep (input text ts) → ⊥
  pub tree_fits : (ns : List Node) (us : List Token) → Tree (input text ts) ns us → length ns ≤ n
  pub no_suffix : (ns : List Node) (us : List Token) → Tree (input text ts) ns us → us ≡ []

-- the grammar derives all tokens
pub record Derived (text : List ℕ) (ts : List Token) : Type 0 where
  pub nodes : List Node
  pub unknown : List Token
  pub tree : Tree (input text ts) nodes unknown

-- the nodes handed out in the table b: as many as the count says
abbrev pub handed : List ℕ → ℕ → List Node
handed b count = tabulate count (λ i. node_at b i)

pub record Demand (text : List ℕ) (ts : List Token) (b : List ℕ) (outcome count : ℕ) : Type 0 where
  -- accepted exactly if the grammar derives all tokens
  pub only_if : outcome ≡ 0 → Derived text ts
  pub if : Derived text ts → outcome ≡ 0
  -- then the nodes handed out are a tree that it derives, and it derives no other
  pub tree : outcome ≡ 0 → Tree (input text ts) (handed b count) []
  pub no_other : outcome ≡ 0 → (ns : List Node) (us : List Token) → Tree (input text ts) ns us → ns ≡ handed b count

-- ---- the proof

-- under the premises there are two outcomes
data Under (text : List ℕ) (n : ℕ) (ts : List Token) : Outcome → Type 0 where
  underived : {d : Diagnostic} → ((ns : List Node) (us : List Token) → Tree (input text ts) ns us → ⊥) → Under text n ts (syntax d)
  derived : {ns : List Node} → Tree (input text ts) ns [] → length ns ≤ n → Under text n ts (accepted ts ns)

under_tokens : {text : List ℕ} {t n : ℕ} {ts : List Token} {o : Outcome} → Premises text t n ts → TokensAre text n ts o → Under text n ts o
under_tokens p (is_nest d) = absurd (p.not_deep d)
under_tokens p (is_syntax d s i) = underived s
under_tokens p (is_suffix d t) = cc (p.no_suffix _ _ t)
under_tokens p (is_node_room d t h) = absurd (omega (arith, p.tree_fits _ _ t))
under_tokens p (is_accepted d t h) = derived t h

under : {text : List ℕ} {t n : ℕ} {ts : List Token} {o : Outcome} → Premises text t n ts → OutcomeIs text t n o → Under text n ts o
under p (is_long h) = absurd (omega (arith, p.short))
under p (is_encoding h u) = absurd (u p.utf8)
under p (is_lexical h u l) = absurd (errors_one l p.lexes)
under p (is_token_room h u l q) = absurd (omega (arith, p.tokens_fit, ap length (lexes_one l p.lexes).0))
under p (is_lexed h u l q a) = under_tokens p (moved l p.lexes a)

pub each_at : {P : Node → Type 0} {ns : List Node} → Each P ns → (i : ℕ) → i < length ns → P (get_or ns i zero_node)
each_at no_node i h = absurd (omega arith)
each_at (node p e) zero h = p
each_at (node p e) (suc i) h = each_at e i (omega arith)

demanded : {text : List ℕ} (m : ℕ) {b : List ℕ} {t : ℕ} {ts : List Token} {o : Outcome} → Premises text t (m / 16) ts → Under text (m / 16) ts o → b ≡ node_table m (nodes_of o)
    → Demand text ts b (outcome_of (reading_of o)) (counts_of (reading_of o)).nodes
demanded m p (underived s) e =
    record { only_if = λ z. absurd (omega arith); if = λ d. absurd (s _ _ d.tree); tree = λ z. absurd (omega arith); no_other = λ z. absurd (omega arith) }
demanded {text} m {b} {ts = ts} p (derived {ns = ns} t h) e =
    let same : handed b (length ns) ≡ ns =
    rw e (nodes_of_table ns m h (each_at (fits (ordered p.lexes) p.short (values p.lexes) t))) in
    record {
      only_if = λ z. record { nodes = ns; unknown = []; tree = t };
      if = λ d. refl;
      tree = λ z. subst (λ (x : List Node). Tree (input text ts) x []) (sym same) t;
      no_other = λ z ns' us t'. (tree_one t' t).0 ∙ sym same;
    }

pub demand_3 : {text : List ℕ} {k m n : ℕ} {a b c : List ℕ} {r : Reading} {ts : List Token} → ReadingIs text k m n a b c r → Premises text (k / 16) (m / 16) ts
    → Demand text ts b (outcome_of r) (counts_of r).nodes
demand_3 {text} {m = m} {b = b} {ts = ts} v p = subst (λ (r : Reading). Demand text ts b (outcome_of r) (counts_of r).nodes) (sym v.answer) (demanded m p (under p v.is) v.nodes)
