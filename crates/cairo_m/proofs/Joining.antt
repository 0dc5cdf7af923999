-- The whole reading, from what lexing alone answers and what the tokens come to. Assumes nothing.
use mathlib.Core.Path.{◌≡◌, refl, sym, ap, subst, ◌∙◌}
use mathlib.Core.Bool.{true, false, false≢true}
use mathlib.Core.List.{List, [], ◌∷◌}
use Prim.Native.Nat.{ℕ, ◌*◌, ◌/◌, ◌≤◌}
use native.Mathlib.Omega.{arith}
use native.Mathlib.Decide.{dec_lt}
use lib.Dec.{ltb}
use lib.ListN.{length, take, replicate}
use borrow.Author.Tests.{lt-ltb, le-ltb}
use Rattle.std.specs.Prelude.{Result, Ok, Err, is_err}
use Rattle.tables.specs.Tables.{Token, Node, encode_token, encode_node, encode_diagnostic, tokens_of as tokens_in, laid, table, token_table, node_table, diagnostic_table}
use Rattle.tables.specs.Suffix.{unknown_numerals}
use Rattle.tables.proofs.Laws.{token_size, diagnostic_size, laid_zeros, table_none, table_front, tokens_of_table}
use Rattle.utf8.specs.Utf8.{Utf8}
use Rattle.lexer.specs.Lexes.{Lexes}
use Rattle.lexer.specs.Answers.{Lexemes, lexed, ResultIs, too_long, not_utf8, lexes, answer_of, tokens_after, diagnostics_of as errorsIn, AnswerIs}
use Rattle.lexer.specs.declared.lexing.TextError.{TextError}
use Rattle.lexer.specs.declared.entry.LexedAlone.{LexedAlone}
use Rattle.lexer.specs.declared.entry.LexError.{LexError}
use Rattle.grammar.specs.Grammar.{Tree}
use Rattle.parser.specs.Parse.{entry_of}
use Rattle.parser.proofs.Uncapped.{uncapped}
use Rattle.cairo_m.specs.declared.Refusal.{Refusal}
use Rattle.cairo_m.specs.Reading.{input, Outcome, accepted, lexical, token_room, TokensAre, is_nest, is_syntax, is_suffix, is_node_room, is_accepted}
use Rattle.cairo_m.specs.Reading.{OutcomeIs, is_long, is_encoding, is_lexical, is_token_room, is_lexed, Reading, reading_of, tokens_of, nodes_of, diagnostics_of, ReadingIs}
use Rattle.cairo_m.specs.Reading as R
use Rattle.cairo_m.specs.Suffixes.{TokensRead}
use Rattle.cairo_m.proofs.Lexed.{ordered, fits, values}
use Rattle.cairo_m.proofs.Demand1.{none_out}

-- ---- what lexing alone answers
-- a text that neither 1, 2, 3 nor 4 is said of, with its tokens in the table
pub record Taken (text : List ℕ) (k n : ℕ) (a c : List ℕ) (t u : ℕ) : Type 0 where
  pub ts : List Token
  pub short : length text ≤ 65535
  pub utf8 : Utf8 text
  pub lexes : Lexes 0 text ts []
  pub fit : length ts ≤ k / 16
  pub count : t ≡ length ts
  pub unknown : u ≡ length (unknown_numerals ts)
  pub tokens : a ≡ token_table k ts
  pub diagnostics : c ≡ diagnostic_table n []

data Joined (text : List ℕ) (k n : ℕ) (a c : List ℕ) : Result LexedAlone LexError → Type 0 where
  refused : {e : LexError} → (o : Outcome) → ((m : ℕ) → OutcomeIs text (k / 16) m o) → Err (Refusal.Lexing e) ≡ reading_of o → a ≡ replicate k 0 → c ≡ diagnostic_table n (diagnostics_of o) → Joined text k n a c (Err e)
  taken : {l : LexedAlone} → Taken text k n a c l.tokens l.unknown → Joined text k n a c (Ok l)

joined : {text : List ℕ} {k n : ℕ} {a c : List ℕ} {r : Result LexedAlone LexError} → AnswerIs text k n a c r → Joined text k n a c r
joined {text} {k} {n} {a} {c} v =
    subst (Joined text k n a c) (sym v.answer)
    (go v.result v.is (v.tokens ∙ ap (tokens_after k v.result) v.answer) v.diagnostics)
  where
    go : (x : Result Lexemes TextError) → ResultIs text x → a ≡ tokens_after k x (answer_of k x) → c ≡ errorsIn n x → Joined text k n a c (answer_of k x)
    go (Err TextError.Long) (too_long h) e f = refused R.long (λ m. is_long h) refl e (f ∙ sym (table_none encode_diagnostic 8 n))
    go (Err TextError.Encoding) (not_utf8 h u) e f = refused R.encoding (λ m. is_encoding h u) refl e (f ∙ sym (table_none encode_diagnostic 8 n))
    go (Ok (lexed ts (d ∷ ds))) (lexes h u l) e f = refused (lexical (d ∷ ds)) (λ m. is_lexical h u l) refl e f
    go (Ok (lexed ts [])) (lexes h u l) e f =
        elim (dec_lt (k / 16) (length ts)) [
          | yes p ↦
              let q : ltb (k / 16) (length ts) ≡ true = lt-ltb (k / 16) (length ts) p in
              rw q (refused (token_room ts) (λ m. is_token_room h u l p) refl (rw q at e) f)
          | no p ↦
              let q : ltb (k / 16) (length ts) ≡ false = le-ltb (k / 16) (length ts) (omega arith) in
              rw q (taken (record { ts = ts; short = h; utf8 = u; lexes = l; fit = omega arith; count = refl; unknown = refl; tokens = rw q at e; diagnostics = f }))
        ]

module _ {text : List ℕ} {k n : ℕ} {a c : List ℕ} where
  -- no node is left
  pub refuses : {e : LexError} {r : Refusal} → AnswerIs text k n a c (Err e) → r ≡ Refusal.Lexing e → {m : ℕ} (B : List ℕ) {Y : List ℕ} → Y ≡ replicate (length B) 0 → length B ≡ m → ReadingIs text k m n a Y c (Err r)
  refuses {e} {r} v f {m} B {Y} y l = go (joined v)
    where
      go : Joined text k n a c (Err e) → ReadingIs text k m n a Y c (Err r)
      go (refused o i z w x) =
          let none = none_out o (ap is_err (sym z)) in
          record {
            outcome = o;
            is = i (m / 16);
            answer = ap Err f ∙ z;
            tokens = w ∙ sym (rw none.0 (table_none encode_token 16 k));
            nodes = y ∙ ap (λ (j : ℕ). replicate j 0) l ∙ sym (rw none.1 (table_none encode_node 16 m));
            diagnostics = x;
          }

  pub takes : {l : LexedAlone} → AnswerIs text k n a c (Ok l) → Taken text k n a c l.tokens l.unknown
  takes {l} v = go (joined v)
    where
      go : Joined text k n a c (Ok l) → Taken text k n a c l.tokens l.unknown
      go (taken x) = x

  -- the tokens fill as many bytes as the table has
  pub in_table : {l : LexedAlone} → AnswerIs text k n a c (Ok l) → length a ≡ k → l.tokens * 16 ≤ length a
  in_table v e = let x = takes v in omega (arith, x.count, x.fit)

module _ {text : List ℕ} {k n t u : ℕ} {a c w : List ℕ} (x : Taken text k n a c t u) (e : w ≡ take (t * 16) a) where
  same_tokens : tokens_in w ≡ x.ts
  same_tokens =
      let ts = x.ts in
      ap tokens_in (e ∙ rw (x.count, x.tokens) (table_front encode_token 16 (omega arith) token_size k ts x.fit))
      ∙ tokens_of_table ts (length ts * 16) (omega arith) (fits x.lexes x.short)

  pub unknown_in : u ≡ length (unknown_numerals (tokens_in w))
  unknown_in = x.unknown ∙ ap (λ (ts : List Token). length (unknown_numerals ts)) (sym same_tokens)

-- ---- what the tokens come to
data Ended (text : List ℕ) (ts : List Token) : Outcome → Type 0 where
  whole : {ns : List Node} → Tree (input text ts) ns [] → Ended text ts (accepted ts ns)
  nothing : {o : Outcome} → is_err (reading_of o) ≡ true → Ended text ts o

ended : {text : List ℕ} {n : ℕ} {ts : List Token} {o : Outcome} → TokensAre text n ts o → Ended text ts o
ended (is_nest d) = nothing refl
ended (is_syntax d s i) = nothing refl
ended (is_suffix d t) = nothing refl
ended (is_node_room d t h) = nothing refl
ended (is_accepted d t h) = whole t

module _ {text : List ℕ} {k m n t u : ℕ} {a b w C c : List ℕ} {r : Reading} (x : Taken text k n a C t u) (v : TokensRead text w m b C c r) (e : w ≡ take (t * 16) a) where
  is : TokensAre text (m / 16) x.ts v.outcome
  is = subst (λ (ts : List Token). TokensAre text (m / 16) ts v.outcome) (same_tokens x e) v.is

  nodes : (o : Outcome) → Ended text x.ts o → table 16 entry_of m (nodes_of o) ≡ node_table m (nodes_of o)
  nodes o (whole t) = uncapped (ordered x.lexes) x.short (values x.lexes) t m
  nodes o (nothing h) = rw (none_out o h).1 (table_none entry_of 16 m ∙ sym (table_none encode_node 16 m))

  closes : {A : List ℕ} → A ≡ token_table k (tokens_of v.outcome) → ReadingIs text k m n A b c r
  closes f =
      record {
        outcome = v.outcome;
        is = is_lexed x.short x.utf8 x.lexes x.fit is;
        answer = v.answer;
        tokens = f;
        nodes = v.nodes ∙ nodes v.outcome (ended is);
        diagnostics = v.diagnostics ∙ ap (λ (T : List ℕ). laid 8 encode_diagnostic T (diagnostics_of v.outcome)) (x.diagnostics ∙ table_none encode_diagnostic 8 n) ∙ laid_zeros encode_diagnostic 8 (omega arith) diagnostic_size n (diagnostics_of v.outcome);
      }

  pub reads_accepted : is_err r ≡ false → ReadingIs text k m n a b c r
  reads_accepted h = closes (x.tokens ∙ go v.outcome (ended is) (ap is_err (sym v.answer) ∙ h))
    where
      go : (o : Outcome) → Ended text x.ts o → is_err (reading_of o) ≡ false → token_table k x.ts ≡ token_table k (tokens_of o)
      go o (whole t) z = refl
      go o (nothing f) z = absurd (false≢true (sym z ∙ f))

  pub reads_refused : is_err r ≡ true → {A : List ℕ} → A ≡ replicate (length a) 0 → length a ≡ k → ReadingIs text k m n A b c r
  reads_refused h f l =
      closes (f ∙ ap (λ (j : ℕ). replicate j 0) l ∙ sym (rw (none_out v.outcome (ap is_err (sym v.answer) ∙ h)).0 (table_none encode_token 16 k)))
