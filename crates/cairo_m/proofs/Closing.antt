-- From the tokens on: what `parse` answers, the literals with an unknown suffix and the room make the outcome. Assumes nothing.
use mathlib.Core.Path.{◌≡◌, refl, sym, ap, ap₂, subst, ◌∙◌}
use mathlib.Core.List.{List, [], ◌∷◌, map}
use Prim.Native.Nat.{ℕ, ◌/◌, ◌≤◌, ◌<◌, min}
use native.Mathlib.Omega.{arith}
use native.Mathlib.Decide.{dec_lt}
use lib.ListN.{length, replicate}
use borrow.Author.Tests.{lt-ltb, le-ltb}
use Rattle.std.specs.Prelude.{Result, Ok, Err}
use Rattle.tables.specs.Tables.{Token, Node, Diagnostic, encode_diagnostic, stored, tokens_of as tokens_in, laid, table}
use Rattle.tables.proofs.Laws.{diagnostic_size, tokens_at, laid_none, laid_more, table_none, tokens_length}
use Rattle.grammar.specs.Grammar.{Tree, Deep, Stops}
use Rattle.tables.specs.Suffix.{unknown_numerals}
use Rattle.grammar.proofs.Suffix.{unknown_suffixes}
use Rattle.grammar.proofs.Few.{few}
use Rattle.parser.specs.Parse.{Verdict, tree, syntax, deep, VerdictIs, is_deep, is_tree, is_syntax, MAX64, entry_of, answer_of, nodes_of, ParsedIs}
use Rattle.parser.specs.declared.ParseError.{ParseError}
use Rattle.cairo_m.specs.declared.Refusal.{Refusal}
use Rattle.cairo_m.specs.Reading.{input, nest, suffix, node_room, accepted, is_nest, is_suffix, is_node_room, is_accepted, suffix_error}
use Rattle.cairo_m.specs.Reading as R
use Rattle.cairo_m.specs.Suffixes.{stop_of, TokensRead}

-- what `parse` answered, read back
data Seen (text w : List ℕ) (m : ℕ) (U : List ℕ) : Result ℕ ParseError → Type 0 where
  seen_deep : Deep (input text (tokens_in w)) → U ≡ replicate m 0 → Seen text w m U (Err ParseError.Deep)
  seen_syntax : {i : ℕ} → (Deep (input text (tokens_in w)) → ⊥) → ((ns : List Node) (us : List Token) → Tree (input text (tokens_in w)) ns us → ⊥) → Stops (input text (tokens_in w)) i → U ≡ replicate m 0
      → Seen text w m U (Err (ParseError.Syntax i))
  seen_tree : {ns : List Node} {k : ℕ} → (Deep (input text (tokens_in w)) → ⊥) → Tree (input text (tokens_in w)) ns (unknown_numerals (tokens_in w)) → k ≡ min (length ns) MAX64 → U ≡ table 16 entry_of m ns
      → Seen text w m U (Ok k)

seen : {text w : List ℕ} {m : ℕ} {U : List ℕ} {p : Result ℕ ParseError} → ParsedIs text w m U p → Seen text w m U p
seen {text} {w} {m} {U} v = subst (Seen text w m U) (sym v.answer) (go v.verdict v.is v.nodes)
  where
    go : (x : Verdict) → VerdictIs (input text (tokens_in w)) x → U ≡ nodes_of m x → Seen text w m U (answer_of x)
    go deep (is_deep d) n = seen_deep d n
    go (tree ns) (is_tree d t) n = seen_tree d (subst (Tree _ ns) (unknown_suffixes t) t) refl n
    go (syntax i) (is_syntax d s j) n = seen_syntax d s j n

-- the stop that is listed is the one of the grammar
stops : {text : List ℕ} (w : List ℕ) {i e : ℕ} → Stops (input text (tokens_in w)) i → e ≡ length text → R.StopIs text (tokens_in w) (stop_of w i e)
stops {text} w {i} {e} s g =
    elim (dec_lt i (length w / 16)) [
      | yes h ↦ rw (lt-ltb i (length w / 16) h) (subst (λ (t : Token). R.StopIs text (tokens_in w) (record { start = t.start; end = t.end; reason = 5 })) (tokens_at w i) (R.at_token s (omega (arith, tokens_length w))))
      | no h ↦ rw (le-ltb i (length w / 16) (omega arith), g) (R.at_end (λ k l. s.taken k (omega (arith, tokens_length w))))
    ]

no_errors : {C : List ℕ} → C ≡ laid 8 encode_diagnostic C []
no_errors {C} = sym (laid_none encode_diagnostic 8 (omega arith) diagnostic_size C)

module _ {text w : List ℕ} {m : ℕ} {U C : List ℕ} where
  pub closes_nest : {p : ParseError} → ParsedIs text w m U (Err p) → p ≡ ParseError.Deep → TokensRead text w m U C C (Err Refusal.Nest)
  closes_nest v e = go (subst (λ (p : ParseError). Seen text w m U (Err p)) e (seen v))
    where
      go : Seen text w m U (Err ParseError.Deep) → TokensRead text w m U C C (Err Refusal.Nest)
      go (seen_deep d n) = record { outcome = nest; is = is_nest d; answer = refl; nodes = n ∙ sym (table_none entry_of 16 m); diagnostics = no_errors }

  pub closes_syntax : {p : ParseError} {i e : ℕ} {c : List ℕ} → ParsedIs text w m U (Err p) → p ≡ ParseError.Syntax i → e ≡ length text → c ≡ stored 8 C 0 (encode_diagnostic (stop_of w i e)) → TokensRead text w m U C c (Err Refusal.Syntax)
  closes_syntax {i = i} {e} {c} v f g y = go (subst (λ (p : ParseError). Seen text w m U (Err p)) f (seen v))
    where
      -- one error is laid
      one : (d : Diagnostic) → c ≡ stored 8 C 0 (encode_diagnostic d) → c ≡ laid 8 encode_diagnostic C (d ∷ [])
      one d f = f ∙ ap (λ (T : List ℕ). stored 8 T 0 (encode_diagnostic d)) no_errors ∙ laid_more encode_diagnostic 8 (omega arith) diagnostic_size C [] d

      go : Seen text w m U (Err (ParseError.Syntax i)) → TokensRead text w m U C c (Err Refusal.Syntax)
      go (seen_syntax d s j n) =
          record { outcome = R.syntax _; is = R.is_syntax d s (stops w j g); answer = refl; nodes = n ∙ sym (table_none entry_of 16 m); diagnostics = one _ y }

-- a tree of k nodes; n numerals have an unknown suffix
module _ {text w : List ℕ} {m : ℕ} {U : List ℕ} {k n : ℕ} (v : ParsedIs text w m U (Ok k)) (z : n ≡ length (unknown_numerals (tokens_in w))) where
  -- no node is left
  cleared_nodes : {Y : List ℕ} → Y ≡ replicate (length U) 0 → length U ≡ m → Y ≡ table 16 entry_of m []
  cleared_nodes e l = e ∙ ap (λ (n : ℕ). replicate n 0) l ∙ sym (table_none entry_of 16 m)

  pub closes_suffix : 0 < n → {Y : List ℕ} → Y ≡ replicate (length U) 0 → length U ≡ m → {C c : List ℕ} → c ≡ laid 8 encode_diagnostic C (map suffix_error (unknown_numerals (tokens_in w))) → TokensRead text w m Y C c (Err (Refusal.Suffix n))
  closes_suffix h {Y} f l {C} {c} q = go (seen v) (unknown_numerals (tokens_in w)) refl
    where
      go : Seen text w m U (Ok k) → (us : List Token) → unknown_numerals (tokens_in w) ≡ us → TokensRead text w m Y C c (Err (Refusal.Suffix n))
      go (seen_tree d t k-is i) [] g = absurd (omega (arith, z, ap length g))
      go (seen_tree d t k-is i) (x ∷ us) g =
          record {
            outcome = suffix (x ∷ us);
            is = is_suffix d (subst (Tree _ _) g t);
            answer = ap (λ (n : ℕ). Err (Refusal.Suffix n)) (z ∙ ap length g);
            nodes = cleared_nodes f l;
            diagnostics = q ∙ ap (λ (y : List Token). laid 8 encode_diagnostic C (map suffix_error y)) g;
          }

  -- none has, and all nodes are counted
  record Plain : Type 0 where
    ns : List Node
    shallow : Deep (input text (tokens_in w)) → ⊥
    tree_is : Tree (input text (tokens_in w)) ns []
    count : k ≡ length ns
    nodes : U ≡ table 16 entry_of m ns

  plain : n ≤ 0 → length w < 0x1_0000_0000_0000_0000 → Plain
  plain h b = go (seen v) (unknown_numerals (tokens_in w)) refl
    where
      go : Seen text w m U (Ok k) → (us : List Token) → unknown_numerals (tokens_in w) ≡ us → Plain
      go (seen_tree {ns = ns} d t k-is i) [] g =
          record { ns = ns; shallow = d; tree_is = subst (Tree _ _) g t; count = omega (arith, k-is, few t, tokens_length w); nodes = i }
      go (seen_tree d t k-is i) (x ∷ us) g = absurd (omega (arith, z, ap length g))

  pub closes_room : n ≤ 0 → length w < 0x1_0000_0000_0000_0000 → {r : ℕ} → r ≡ length U / 16 → r < k → {Y : List ℕ} → Y ≡ replicate (length U) 0 → length U ≡ m → {C : List ℕ} → TokensRead text w m Y C C (Err (Refusal.NodeRoom k))
  closes_room h b f g n l =
      let y = plain h b in
      record {
        outcome = node_room y.ns;
        is = is_node_room y.shallow y.tree_is (omega (arith, y.count, f, ap (λ (j : ℕ). j / 16) l));
        answer = ap (λ (n : ℕ). Err (Refusal.NodeRoom n)) y.count;
        nodes = cleared_nodes n l;
        diagnostics = no_errors;
      }

  pub closes_accepted : n ≤ 0 → length w < 0x1_0000_0000_0000_0000 → {r t : ℕ} → r ≡ length U / 16 → k ≤ r → t ≡ length w / 16 → length U ≡ m → {C : List ℕ} → TokensRead text w m U C C (Ok (record { tokens = t; nodes = k }))
  closes_accepted h b f g t_is l =
      let y = plain h b in
      record {
        outcome = accepted (tokens_in w) y.ns;
        is = is_accepted y.shallow y.tree_is (omega (arith, y.count, f, ap (λ (j : ℕ). j / 16) l));
        answer = ap₂ (λ (a b : ℕ). Ok (record { tokens = a; nodes = b })) (t_is ∙ sym (tokens_length w)) y.count;
        nodes = y.nodes;
        diagnostics = no_errors;
      }
