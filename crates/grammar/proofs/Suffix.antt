-- Where all tokens are derived, the literals kept with an unknown suffix are exactly the numerals with suffix 3, in text order.
-- Assumes nothing.
use Prim.Native.Nat.{ℕ, zero, suc}
use mathlib.Core.Path.{◌≡◌, refl, sym, ap, ◌∙◌}
use mathlib.Core.Bool.{Bool, true, false, cond, ◌&&◌}
use mathlib.Core.List.{List, [], ◌∷◌, ◌++◌, append-nil, append_assoc}
use lib.Dec.{T, eqb}
use lib.ListN.{length, get_or}
use lib.ListN as L
use borrow.Author.Tests.{eqb-true}
use Rattle.grammar.specs.Derive.{Token, Node, Input, token, R, Act, skip, leaf, named, literal, count, index, mark, Step, take, close, tick, alone, done}
use Rattle.grammar.specs.Derive.{S, next, act, yields}
use Rattle.grammar.specs.Grammar.{body, Tree}
use Rattle.tables.specs.Suffix.{unknown_suffix, keep, unknown_numerals}
use Rattle.grammar.proofs.Bodies.{every}
use Rattle.grammar.proofs.On.{On, on, on_if}
use Rattle.grammar.proofs.Keeps.{passes, tree_keeps}

abbrev none_such : Token
none_such = record { kind = 0; start = 0; end = 0; value = 0; suffix = 0; base = 0 }

pub one_later : (ts : List Token) (n : ℕ) → unknown_numerals (L.take (suc n) ts) ≡ unknown_numerals (L.take n ts) ++ keep (unknown_suffix (get_or ts n none_such)) (get_or ts n none_such)
one_later [] zero = refl
one_later [] (suc n) = refl
one_later (t ∷ ts) zero = append-nil (keep (unknown_suffix t) t)
one_later (t ∷ ts) (suc n) = ap (keep (unknown_suffix t) t ++◌) (one_later ts n) ∙ sym (append_assoc (keep (unknown_suffix t) t) _ _)

-- a numeral is kept as a literal, or turned down if it has a suffix
heeds : Act → Bool
heeds skip = false
heeds (leaf k v) = false
heeds named = false
heeds literal = true
heeds count = true
heeds index = true
heeds (mark m) = false

plain : Act → Bool
plain skip = true
plain (leaf k v) = true
plain named = true
plain literal = false
plain count = true
plain index = true
plain (mark m) = true

tidy : Step → Bool
tidy (take k a) = cond (eqb k 1) (heeds a) (plain a)
tidy (close k a b) = true
tidy tick = true
tidy alone = true
tidy done = true

tidy_body : (r : R) → T (passes tidy (body r))
unfolding passes tidy heeds plain body
tidy_body r = every (λ r. passes tidy (body r)) (λ n. tt) r

abbrev odds : Input → ℕ → List Token
odds x n = unknown_numerals (L.take n x.tokens)

-- the numerals kept are those before the place reached
abbrev Fair : Input → S → Type 0
Fair x t = t.unknown ≡ odds x t.at

kept : (x : Input) (i : ℕ) (b : Bool) → unknown_suffix (token x i) ≡ b → odds x (suc i) ≡ odds x i ++ keep b (token x i)
kept x i b e = one_later x.tokens i ∙ ap (λ (c : Bool). odds x i ++ keep c (token x i)) e

unkept : (x : Input) (i : ℕ) → unknown_suffix (token x i) ≡ false → odds x i ≡ odds x (suc i)
unkept x i e = sym (kept x i false e ∙ append-nil (odds x i))

both_second : (a c : Bool) → c ≡ false → (a && c) ≡ false
both_second true c e = e
both_second false c e = refl

no_suffix : (t : Token) → eqb t.suffix 0 ≡ true → unknown_suffix t ≡ false
no_suffix t e = both_second (eqb t.kind 1) (eqb t.suffix 3) (ap (λ (n : ℕ). eqb n 3) (eqb-true t.suffix 0 e))

module _ (x : Input) (s : S) (e : Fair x s) where
  -- a token that is no numeral
  other : (a : Act) → T (plain a) → unknown_suffix (token x s.at) ≡ false → On (Fair x) (act x a (token x s.at) (next s))
  unfolding plain
  other skip p q = on (e ∙ unkept x s.at q)
  other (leaf k v) p q = on (e ∙ unkept x s.at q)
  other named p q = on (e ∙ unkept x s.at q)
  other literal p q = absurd p
  other count p q = on_if (eqb (token x s.at).suffix 0) (λ z. on (e ∙ unkept x s.at q))
  other index p q = on_if (eqb (token x s.at).suffix 0) (λ z. on (e ∙ unkept x s.at q))
  other (mark m) p q = on (e ∙ unkept x s.at q)

  noted_unknown : (c : Bool) → unknown_suffix (token x s.at) ≡ c → cond c (s.unknown ++ (token x s.at ∷ [])) s.unknown ≡ odds x (suc s.at)
  noted_unknown true q = ap (◌++ (token x s.at ∷ [])) e ∙ sym (kept x s.at true q)
  noted_unknown false q = e ∙ unkept x s.at q

  number : (a : Act) → T (heeds a) → eqb (token x s.at).kind 1 ≡ true → On (Fair x) (act x a (token x s.at) (next s))
  unfolding heeds
  number skip p q = absurd p
  number (leaf k v) p q = absurd p
  number named p q = absurd p
  number literal p q =
      on (noted_unknown (eqb (token x s.at).suffix 3) (ap (λ (c : Bool). (c && eqb (token x s.at).suffix 3)) q))
  number count p q = on_if (eqb (token x s.at).suffix 0) (λ z. on (e ∙ unkept x s.at (no_suffix (token x s.at) z)))
  number index p q = on_if (eqb (token x s.at).suffix 0) (λ z. on (e ∙ unkept x s.at (no_suffix (token x s.at) z)))
  number (mark m) p q = absurd p

  fair_take : (k : ℕ) (a : Act) (c : Bool) → eqb k 1 ≡ c → T (cond c (heeds a) (plain a)) → (token x s.at).kind ≡ k → On (Fair x) (act x a (token x s.at) (next s))
  fair_take k a true q p h = number a p (ap (λ (n : ℕ). eqb n 1) h ∙ q)
  fair_take k a false q p h =
      other a p (ap (λ (c : Bool). (c && eqb (token x s.at).suffix 3)) (ap (λ (n : ℕ). eqb n 1) h ∙ q))

  fair_run : (p : Step) → T (tidy p) → On (Fair x) (yields x p s)
  unfolding yields tidy
  fair_run (take k a) z =
      on_if (eqb (token x s.at).kind k) (λ q. fair_take k a (eqb k 1) refl z (eqb-true (token x s.at).kind k q))
  fair_run (close k a b) z = on e
  fair_run tick z = on e
  fair_run alone z = on_if (eqb s.frame.parts 1) (λ q. on e)
  fair_run done z = on e

take_all : (ts : List Token) → L.take (length ts) ts ≡ ts
take_all [] = refl
take_all (t ∷ ts) = ap (t ∷◌) (take_all ts)

pub unknown_suffixes : {x : Input} {ns : List Node} {ds : List Token} → Tree x ns ds → ds ≡ unknown_numerals x.tokens
unknown_suffixes {x} a =
    sym a.unknowns ∙ tree_keeps tidy tidy_body (Fair x) (λ p s z e. fair_run x s e p z) (λ s e. e) (λ s t e. e) refl a ∙ ap (odds x) a.all ∙ ap unknown_numerals (take_all x.tokens)
