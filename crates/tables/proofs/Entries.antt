-- Entries stored and read as a whole. Assumes nothing.
use mathlib.Core.Path.{◌≡◌, refl, sym, ap, ap₂, subst, ◌∙◌}
use mathlib.Core.List.{List, [], ◌∷◌, ◌++◌, append_assoc, append-nil}
use Prim.Native.Nat.{ℕ, zero, suc, ◌+◌, ◌-◌, ◌*◌, ◌/◌, ◌≤◌, ◌<◌, min}
use native.Mathlib.Nat.{le-div_iff_mul-le, zero-mul, suc-mul, add_comm}
use native.Mathlib.Omega.{arith}
use native.Mathlib.Decide.{dec_lt}
use borrow.Author.Tests.{lt-ltb, le-ltb}
use borrow.Rule.Slice.PartMut.{put_mid}
use denote.Ref.{Bor}
use lib.ListN.{length, get_or, take, drop, replicate, length-drop, length-take}
use lib.Seq.{sets, sets-eq, drop-drop, drop-length, take_all}
use Rattle.std.proofs.lemmas.List.{take_more}
use Rattle.std.specs.Prelude.{MatchOption, Option}
use Rattle.std.specs.declared.option.Option.TheVariants.{Some, None}
use Rattle.std.specs.Ordering.{ord_min, nat_cmp, is_lt}
use Rattle.std.specs.declared.cmp.Ordering.TheVariants.{Equal, Greater}
use lib.Dec.{eqb}
use mathlib.Core.Bool.{Bool, true, false, cond}
use Rattle.std.specs.Slice.{IsItemAt}
use Rattle.std.specs.Simd.{first_chunks}
use Rattle.tables.specs.Tables.{le64, joined, stored, kept, cleared, entry_at}
use Rattle.tables.proofs.Laws.{sets_append, joined_length, joined_snoc, stored_some, word_size, eight}

-- eight bytes of the table written over
word_part : (a : ℕ) (t u b : List ℕ) → a + 8 ≤ length t → length b ≡ 8 → u ≡ b → put_mid a (a + 8 - a) t u ≡ sets t a b
word_part a t u b h l e =
    let r : a + length b ≤ length t = omega arith in
    let end : a + (a + 8 - a) ≡ a + 8 = omega arith in
    rw (e, sets-eq b t a r, drop-drop (a + 8 - a) a t, l) (ap (λ (k : ℕ). take a t ++ (b ++ drop k t)) end ∙ sym (append_assoc (take a t) b (drop (a + 8) t)))

-- one word more
pub word_more : (t₀ : List ℕ) (a k : ℕ) (ws t u : List ℕ) → a + 8 * length ws ≤ length t₀ → k < length ws → length t ≡ length t₀ → t ≡ sets t₀ a (joined le64 (take k ws)) → u ≡ le64 (get_or ws k 0)
    → put_mid (a + 8 * k) (a + 8 * k + 8 - (a + 8 * k)) t u ≡ sets t₀ a (joined le64 (take (k + 1) ws))
word_more t₀ a k ws t u fits h l e f =
    let n : length (joined le64 (take k ws)) ≡ 8 * k = joined_length le64 8 word_size (take k ws) ∙ omega (arith, length-take k ws) in
    word_part (a + 8 * k) t u (le64 (get_or ws k 0)) (omega arith) (word_size (get_or ws k 0)) f
    ∙ ap₂ (λ (x : List ℕ) (j : ℕ). sets x (a + j) (le64 (get_or ws k 0))) e (sym n)
    ∙ sets_append t₀ a (joined le64 (take k ws)) (le64 (get_or ws k 0))
    ∙ ap (sets t₀ a) (sym (joined_snoc le64 (take k ws) (get_or ws k 0)) ∙ ap (joined le64) (sym (take_more ws k 0 h)))

-- all words
pub words_stored : (n i : ℕ) (t₀ ws t : List ℕ) → i < length t₀ / (8 * n) → length ws ≤ n → t ≡ sets t₀ (i * (8 * n)) (joined le64 (take n ws)) → t ≡ stored (8 * n) t₀ i (joined le64 ws)
words_stored n i t₀ ws t h l e = stored_some t₀ i (8 * n) (joined le64 ws) h (e ∙ ap (λ (l : List ℕ). sets t₀ (i * (8 * n)) (joined le64 l)) (take_all n ws l))

-- an entry that begins with a word put together from bytes begins with these
pub head_stored : (w i : ℕ) (t r : List ℕ) (a b c d e f g h : ℕ) {t' : List ℕ} {v : ℕ} → a < 256 → b < 256 → c < 256 → d < 256 → e < 256 → f < 256 → g < 256 → h < 256
    → v ≡ a + b * 0x100 + c * 0x1_0000 + d * 0x100_0000 + e * 0x1_0000_0000 + f * 0x100_0000_0000 + g * 0x1_0000_0000_0000 + h * 0x100_0000_0000_0000
    → t' ≡ stored w t i (le64 v ++ r) → t' ≡ stored w t i (a ∷ b ∷ c ∷ d ∷ e ∷ f ∷ g ∷ h ∷ r)
unfolding le64
head_stored w i t r a b c d e f g h p q s u v x y z k m =
    m ∙ ap (λ (l : List ℕ). stored w t i (l ++ r)) (ap le64 k ∙ eight (omega arith) (omega arith) (omega arith) (omega arith) (omega arith) (omega arith) (omega arith) (omega arith))

-- the chunk at a place
chunk_at : {A : Type 0} (n k : ℕ) (l : List A) (i : ℕ) (d : List A) → i < k → get_or (first_chunks n k l) i d ≡ take n (drop (i * n) l)
chunk_at n zero l i d h = absurd (omega arith)
chunk_at n (suc k) l zero d h = rw (zero-mul n) refl
chunk_at n (suc k) l (suc i) d h = chunk_at n k (drop n l) i d (omega arith) ∙ rw (drop-drop (i * n) n l, suc-mul i n, add_comm (i * n) n) refl

-- an entry is the chunk at its place
pub entry_loaded : (w : ℕ) (t : List ℕ) (i : ℕ) (cs : List (List ℕ)) (r : Option (Bor (List ℕ))) → cs ≡ first_chunks w (length t / w) t → length cs ≡ length t / w → IsItemAt cs i r
    → MatchOption r (entry_at w t i ≡ []) (λ b. entry_at w t i ≡ b.now)
unfolding entry_at
entry_loaded w t i cs None e n p = rw (le-ltb i (length t / w) (omega (arith, p.3))) refl
entry_loaded w t i cs (Some b) e n p =
    let h : i < length t / w = omega (arith, p.3.0) in
    rw (lt-ltb i (length t / w) h) (sym (p.3.1 [] ∙ ap (λ (l : List (List ℕ)). get_or l i []) e ∙ chunk_at w (length t / w) t i [] h))

-- std's `min` of two numbers
least : (a b : ℕ) → ord_min nat_cmp a b ≡ min a b
least a b =
    elim (dec_lt b a) [
      | yes p ↦ rw (lt-ltb b a p) (omega arith)
      | no p ↦ rw (le-ltb b a (omega arith)) (go (eqb b a) (omega arith))
    ]
  where
    go : (t : Bool) → a ≤ b → cond (is_lt (cond t Equal Greater)) b a ≡ min a b
    go true h = omega arith
    go false h = omega arith

-- zeros over the rest
pub zeros_part : (m : ℕ) (t u : List ℕ) → m ≤ length t → u ≡ replicate (length (take (length t - m) (drop m t))) 0 → put_mid m (length t - m) t u ≡ cleared m t
unfolding cleared
zeros_part m t u h e =
    let n : length (take (length t - m) (drop m t)) ≡ length t - m = omega (arith, length-take (length t - m) (drop m t), length-drop m t) in
    let end : m + (length t - m) ≡ length t = omega arith in
    rw (e, n, drop-drop (length t - m) m t, end, drop-length t) (ap (take m t ++◌) (append-nil (replicate (length t - m) 0)))

-- all but the first of them cleared
pub kept_some_of : (w k : ℕ) (t u : List ℕ) {n z r : ℕ} → 0 < w → z ≡ w → r ≡ length t / w → n ≡ ord_min nat_cmp k r → u ≡ replicate (length (take (length t - n * z) (drop (n * z) t))) 0
    → put_mid (n * z) (length t - n * z) t u ≡ kept w k t
unfolding kept
kept_some_of w k t u {n} {z} {r} s e f g h =
    let i : n ≡ min k (length t / w) = g ∙ least k _ ∙ ap (min k) f in
    let within : n * w ≤ length t = (le-div_iff_mul-le {k = w} s).0 (omega arith) in
    zeros_part (n * z) t u (subst (λ (m : ℕ). n * m ≤ length t) (sym e) within) h ∙ ap (λ (m : ℕ). cleared m t) (ap₂ ◌*◌ i e)
