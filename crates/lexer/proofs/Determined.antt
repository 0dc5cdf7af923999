-- A text has one list of tokens and one of errors, and lexing one answer. Assumes nothing.
use mathlib.Core.Path.{◌≡◌, refl, sym, ap, ap₂, subst, ◌∙◌}
use mathlib.Core.List.{List}
use Rattle.std.specs.Prelude.{Result, Ok}
use Prim.Native.Nat.{ℕ, ◌+◌, ◌≤◌}
use native.Mathlib.Omega.{arith}
use lib.ListN.{length, take, drop, length-take}
use Rattle.tables.specs.Tables.{Token, Diagnostic}
use Rattle.utf8.proofs.Laws.{begins_some, begins_size}
use Rattle.numeral.specs.Numeral.{numeral_of}
use Rattle.lexer.specs.Tokens.{Best, Spells}
use Rattle.lexer.specs.Lexes.{Item, item_of, Step, matched, strange, Lexes, done, step}
use Rattle.lexer.specs.Answers.{Lexemes, lexed, ResultIs, too_long, not_utf8, lexes, lexed_of, tokens_of, diagnostics_of, LexedIs, answer_of, tokens_after, AnswerIs}
use Rattle.lexer.specs.declared.lexing.Lexed.{Lexed}
use Rattle.lexer.specs.declared.lexing.TextError.{TextError}
use Rattle.lexer.specs.declared.entry.LexedAlone.{LexedAlone}
use Rattle.lexer.specs.declared.entry.LexError.{LexError}
use Rattle.lexer.proofs.Leads.{spells_some}

-- the longest match is one, and so is a step
best_one : {s : List ℕ} {k n k' n' : ℕ} → Best s k n → Best s k' n' → (n ≡ n') × (k ≡ k')
best_one {s} {k} {n} {k'} {n'} b b' =
    let e : n ≡ n' = omega (arith, b.longest k' n' b'.within b'.spells, b'.longest k n b.within b.spells) in
    (e, omega (arith, b.first k' (subst (λ (m : ℕ). Spells k' (take m s)) (sym e) b'.spells), b'.first k (subst (λ (m : ℕ). Spells k (take m s)) e b.spells)))

pub step_some : {s : List ℕ} {n : ℕ} {i : Item} → Step s n i → (1 ≤ n) × (n ≤ length s)
step_some {s} {n} (matched k b e) = (omega (arith, spells_some k (take n s) b.spells, length-take n s), b.within)
step_some (strange c t b e) = begins_some b

pub step_one : {s : List ℕ} {n n' : ℕ} {i i' : Item} → Step s n i → Step s n' i' → (n ≡ n') × (i ≡ i')
step_one {s} (matched k b e) (matched k' b' e') =
    let h = best_one b b' in
    (h.0, e ∙ ap₂ item_of h.1 (ap (λ (m : ℕ). numeral_of (take m s)) h.0) ∙ sym e')
step_one {s} {n} (matched k b e) (strange c t b' e') = absurd (t k n b.within b.spells)
step_one {s} {n} {n'} (strange c t b e) (matched k b' e') = absurd (t k n' b'.within b'.spells)
step_one (strange c t b e) (strange c' t' b' e') = (begins_size b b', e ∙ sym e')

pub lexes_one : {at : ℕ} {s : List ℕ} {ts ts' : List Token} {ds ds' : List Diagnostic} → Lexes at s ts ds → Lexes at s ts' ds' → (ts ≡ ts') × (ds ≡ ds')
lexes_one done done = (refl, refl)
lexes_one done (step n i st l) = absurd (omega (arith, step_some st))
lexes_one (step n i st l) done = absurd (omega (arith, step_some st))
lexes_one {at} {s} (step {ts = us} {ds = gs} n i st l) (step {ts = us'} {ds = gs'} n' i' st' l') =
    let h = step_one st st' in
    let l'' : Lexes (at + n) (drop n s) us' gs' = subst (λ (m : ℕ). Lexes (at + m) (drop m s) us' gs') (sym h.0) l' in
    let d = lexes_one l l'' in
    (cc, cc)

-- ---- a text is one thing to the lexer, so its answers are one
result_one : {text : List ℕ} {x y : Result Lexemes TextError} → ResultIs text x → ResultIs text y → x ≡ y
result_one (too_long h) (too_long k) = refl
result_one (too_long h) (not_utf8 k u) = absurd (omega arith)
result_one (too_long h) (lexes k u l) = absurd (omega arith)
result_one (not_utf8 h u) (too_long k) = absurd (omega arith)
result_one (not_utf8 h u) (not_utf8 k v) = refl
result_one (not_utf8 h u) (lexes k v l) = absurd (u v)
result_one (lexes h u l) (too_long k) = absurd (omega arith)
result_one (lexes h u l) (not_utf8 k v) = absurd (v u)
result_one (lexes h u l) (lexes k v m) = let e = lexes_one l m in ap₂ (λ (ts : List Token) (ds : List Diagnostic). Ok (lexed ts ds)) e.0 e.1

module _ {text : List ℕ} {n m : ℕ} {a b a' b' : List ℕ} where
  pub lexed_one : {r r' : Result Lexed TextError} → LexedIs text n m a b r → LexedIs text n m a' b' r' → (r ≡ r') × (a ≡ a') × (b ≡ b')
  lexed_one p q =
      let e = result_one p.is q.is in
      (p.answer ∙ ap lexed_of e ∙ sym q.answer, p.tokens ∙ ap (tokens_of n) e ∙ sym q.tokens, p.diagnostics ∙ ap (diagnostics_of m) e ∙ sym q.diagnostics)

  pub answer_one : {r r' : Result LexedAlone LexError} → AnswerIs text n m a b r → AnswerIs text n m a' b' r' → (r ≡ r') × (a ≡ a') × (b ≡ b')
  answer_one p q =
      let e = result_one p.is q.is in
      let f = p.answer ∙ ap (answer_of n) e ∙ sym q.answer in
      (f, p.tokens ∙ ap₂ (tokens_after n) e f ∙ sym q.tokens, p.diagnostics ∙ ap (diagnostics_of m) e ∙ sym q.diagnostics)
