-- An array whose values are written one by one. Assumes nothing.
use mathlib.Core.Path.{◌≡◌, refl, sym, ap, subst, ◌∙◌}
use mathlib.Core.List.{List, [], ◌∷◌, ◌++◌, map, append_assoc, append-nil}
use Prim.Native.Nat.{ℕ, ◌≤◌, ◌<◌}
use native.Mathlib.Omega.{arith}
use lib.ListN.{length}
use Rattle.tables.proofs.Numbered.{each, each_more}
use Rattle.json_text.specs.Json.{following, array}
use Rattle.json_text.specs.Writes.{Writes, added}
use Rattle.json_text.specs.declared.writer.Writer.{Writer}
use Rattle.json_text.proofs.Writing.{both, same_text, nothing}

-- values with commas between
pub begun : List (List ℕ) → List ℕ
unfolding added
begun [] = []
begun (w ∷ l) = w ++ added l

pub added_is : (l : List (List ℕ)) → added l ++ (93 ∷ []) ≡ following l
unfolding added following
added_is [] = refl
added_is (w ∷ l) = ap (44 ∷◌) (append_assoc w (added l) (93 ∷ []) ∙ ap (w ++◌) (added_is l))

array_is : (l : List (List ℕ)) → 91 ∷ (begun l ++ (93 ∷ [])) ≡ array l
unfolding begun array
array_is [] = refl
array_is (w ∷ l) = ap (91 ∷◌) (append_assoc w (added l) (93 ∷ []) ∙ ap (w ++◌) (added_is l))

added_more : (l : List (List ℕ)) (w : List ℕ) → added (l ++ (w ∷ [])) ≡ added l ++ (44 ∷ w)
unfolding added
added_more [] w = ap (44 ∷◌) (append-nil w)
added_more (v ∷ l) w = ap (λ x. 44 ∷ (v ++ x)) (added_more l w) ∙ ap (44 ∷◌) (sym (append_assoc v (added l) (44 ∷ w)))

module _ {A : Type 0} (f : A → List ℕ) where
  pub begun_none : {a : Writer} → Writes (begun (each f [])) a a
  unfolding begun
  begun_none = nothing

  pub begun_first : {a b b' c : Writer} (xs : List (ℕ × A)) {i : ℕ} (x : A) → i ≡ length xs → i ≤ 0 → Writes (begun (each f xs)) a b → b' ≡ b → Writes (f x) b' c → Writes (begun (each f (xs ++ ((i, x) ∷ [])))) a c
  unfolding begun added
  begun_first {c = c} [] x n h p e q = same_text (sym (append-nil (f x))) (both p (subst (λ (w : Writer). Writes (f x) w c) e q))
  begun_first (y ∷ xs) x n h p e q = absurd (omega arith)

  pub begun_next : {a b b' b'' c : Writer} (xs : List (ℕ × A)) {i : ℕ} (x : A) → i ≡ length xs → 0 < i → Writes (begun (each f xs)) a b → Writes (44 ∷ []) b b'' → b' ≡ b'' → Writes (f x) b' c → Writes (begun (each f (xs ++ ((i, x) ∷ [])))) a c
  unfolding begun
  begun_next [] x n h p s e q = absurd (omega arith)
  begun_next {c = c} (y ∷ xs) {i} x n h p s e q =
      same_text
      (append_assoc (f y.1) (added (each f xs)) (44 ∷ f x) ∙ ap (f y.1 ++◌) (sym (added_more (each f xs) (f x)) ∙ ap added (sym (each_more f xs (i, x)))))
      (both p (both s (subst (λ (w : Writer). Writes (f x) w c) e q)))

  pub begun_all : {s a b c : Writer} (xs : List (ℕ × A)) (l : List A) → Writes (91 ∷ []) s a → Writes (begun (each f xs)) a b → Writes (93 ∷ []) b c → each f xs ≡ map f l → Writes (array (map f l)) s c
  begun_all xs l p q r e = same_text (array_is (each f xs) ∙ ap array e) (both p (both q r))
