-- Lexing alone, from what `lex` answers. Assumes nothing.
use mathlib.Core.Path.{◌≡◌, refl, sym, ap, subst, ◌∙◌}
use mathlib.Core.List.{List, [], ◌∷◌}
use Prim.Native.Nat.{ℕ, ◌/◌, ◌≤◌, ◌<◌}
use native.Mathlib.Omega.{arith}
use lib.ListN.{length, replicate}
use borrow.Author.Tests.{lt-ltb}
use Rattle.std.specs.Prelude.{Result, Ok, Err}
use Rattle.tables.specs.Tables.{Token, Diagnostic}
use Rattle.tables.specs.Suffix.{unknown_numerals}
use Rattle.lexer.specs.Answers.{Lexemes, lexed, lexed_of, LexedIs, answer_of, AnswerIs, zeros}
use Rattle.lexer.specs.declared.lexing.Lexed.{Lexed}
use Rattle.lexer.specs.declared.lexing.TextError.{TextError}
use Rattle.lexer.specs.declared.entry.LexError.{LexError}

-- what `lex` answered, read back
record Done (l : Lexed) (x : Result Lexemes TextError) : Type 0 where
  ts : List Token
  ds : List Diagnostic
  t_is : l.tokens ≡ length ts
  u_is : l.unknown ≡ length (unknown_numerals ts)
  d_is : l.diagnostics ≡ length ds
  x_is : x ≡ Ok (lexed ts ds)

is_done : (l : Lexed) (x : Result Lexemes TextError) → Ok l ≡ lexed_of x → Done l x
is_done l (Err e) q = absurd (let z : ◌≡◌ {A = ℕ} 0 1 = cc in omega arith)
is_done l (Ok (lexed ts ds)) q =
    let e : l ≡ record { tokens = length ts; unknown = length (unknown_numerals ts); diagnostics = length ds } = cc in
    record { ts = ts; ds = ds; t_is = ap (λ (l : Lexed). l.tokens) e; u_is = ap (λ (l : Lexed). l.unknown) e; d_is = ap (λ (l : Lexed). l.diagnostics) e; x_is = refl }

-- the outcome by the counts
lexical_of : (n : ℕ) (ts : List Token) (ds : List Diagnostic) → 0 < length ds → Err (LexError.Lexical (length ds)) ≡ answer_of n (Ok (lexed ts ds))
lexical_of n ts [] h = absurd (omega arith)
lexical_of n ts (d ∷ ds) h = refl

room_of : (n : ℕ) (ts : List Token) (ds : List Diagnostic) → length ds ≤ 0 → n / 16 < length ts → Err (LexError.TokenRoom (length ts)) ≡ answer_of n (Ok (lexed ts ds))
room_of n ts [] h k = rw (lt-ltb (n / 16) (length ts) k)
room_of n ts (d ∷ ds) h k = absurd (omega arith)

module _ {text : List ℕ} {n m : ℕ} {a b : List ℕ} {r : Result Lexed TextError} (w : LexedIs text n m a b r) where
  module _ {l : Lexed} (e : r ≡ Ok l) where
    v : Done l w.result
    v = is_done l w.result (sym e ∙ w.answer)

    pub alone_lexical : {a' : List ℕ} → 0 < l.diagnostics → a' ≡ replicate (length a) 0 → length a ≡ n → AnswerIs text n m a' b (Err (LexError.Lexical (l.diagnostics)))
    alone_lexical h p q =
        record {
          result = w.result;
          is = w.is;
          answer = ap (λ (d : ℕ). Err (LexError.Lexical d)) v.d_is ∙ lexical_of n v.ts v.ds (omega (arith, v.d_is)) ∙ ap (answer_of n) (sym v.x_is);
          tokens = p ∙ ap zeros q;
          diagnostics = w.diagnostics;
        }

    pub alone_room : {a' : List ℕ} {i : ℕ} → l.diagnostics ≤ 0 → i ≡ length a / 16 → i < l.tokens → a' ≡ replicate (length a) 0 → length a ≡ n → AnswerIs text n m a' b (Err (LexError.TokenRoom (l.tokens)))
    alone_room h q k p z =
        let f : n / 16 < length v.ts = subst (λ (i : ℕ). n / 16 < i) v.t_is (rw (q, z) at k) in
        record {
          result = w.result;
          is = w.is;
          answer = ap (λ (t : ℕ). Err (LexError.TokenRoom t)) v.t_is ∙ room_of n v.ts v.ds (omega (arith, v.d_is)) f ∙ ap (answer_of n) (sym v.x_is);
          tokens = p ∙ ap zeros z;
          diagnostics = w.diagnostics;
        }
