-- The hit among the first entries of a table. Assumes nothing.
use mathlib.Core.Path.{◌≡◌, refl, sym, subst}
use mathlib.Core.List.{List}
use Prim.Native.Nat.{ℕ, ◌+◌, ◌/◌, ◌<◌, ◌≤◌}
use native.Mathlib.Omega.{arith}
use native.Mathlib.Decide.{dec_lt}
use lib.ListN.{length}
use Rattle.tables.specs.Tables.{Node, node_at}
use Rattle.hit_test.specs.Hits.{Contains, width, IsHit, HitIs, nobody, node}
use Rattle.hit_test.specs.declared.Hit.{Hit}

-- what holds below k and at k holds below the next
upto : {P : ℕ → Type 0} {k : ℕ} → ((j : ℕ) → j < k → P j) → P k → (j : ℕ) → j < k + 1 → P j
upto {P} {k} f x j h = elim (dec_lt j k) [ yes p ↦ f j p | no p ↦ let e : k ≡ j = omega arith in subst P e x ]

module _ (o : ℕ) (t : List ℕ) where
  -- the first k entries were looked at: none contains the offset, and w is above every length; or entry i is hit, and w is its length
  pub data Seen (k w : ℕ) : Hit → Type 0 where
    none : 65535 < w → ((j : ℕ) → j < k → Contains o (node_at t j) → ⊥) → Seen k w Hit.Nobody
    some : {i : ℕ} → IsHit o t k i → width (node_at t i) ≡ w → Seen k w (Hit.Node i)

module _ {o : ℕ} {t : List ℕ} where
  pub begun : {w : ℕ} → 65535 < w → Seen o t 0 w Hit.Nobody
  begun h = none h (λ j p c. absurd (omega arith))

module _ {o : ℕ} {t : List ℕ} {k w : ℕ} where
  no_shorter : {h : Hit} → Seen o t k w h → (j : ℕ) → j < k → Contains o (node_at t j) → w ≤ width (node_at t j)
  no_shorter (none b f) j p c = absurd (f j p c)
  no_shorter (some s e) j p c = rw (sym e) (s.shortest j p c)

  -- the next one, x, is shorter
  pub shorter : {h : Hit} {x : Node} → node_at t k ≡ x → Seen o t k w h → Contains o x → width x < w → Seen o t (k + 1) (width x) (Hit.Node k)
  shorter e s =
      subst (λ (x : Node). Contains o x → width x < w → Seen o t (k + 1) (width x) (Hit.Node k)) e
      (λ c l. some (record {
        place = omega arith;
        contains = c;
        shortest = upto (λ j p d. omega (arith, no_shorter s j p d)) (λ d. omega arith);
        earliest = upto (λ j p d q. absurd (omega (arith, no_shorter s j p d))) (λ d q. omega arith);
      }) refl)

  passed : {h : Hit} → Seen o t k w h → (node_at t k).end < 65536 → (Contains o (node_at t k) → w ≤ width (node_at t k)) → Seen o t (k + 1) w h
  passed (none b f) u v = none b (upto f (λ c. absurd (omega (arith, v c))))
  passed (some {i} s e) u v =
      some (record {
        place = omega (arith, s.place);
        contains = s.contains;
        shortest = upto s.shortest (λ d. omega (arith, v d, e));
        earliest = upto s.earliest (λ d q. omega (arith, s.place));
      }) e

  -- it is not, or does not contain the offset
  pub missed : {h : Hit} {x : Node} → node_at t k ≡ x → Seen o t k w h → x.end < 65536 → (Contains o x → w ≤ width x) → Seen o t (k + 1) w h
  missed {h = h} e s = subst (λ (x : Node). x.end < 65536 → (Contains o x → w ≤ width x) → Seen o t (k + 1) w h) e (passed s)

  -- these were all
  pub ended : {h : Hit} {n : ℕ} → length t / 16 ≡ k → o < n → Seen o t k w h → HitIs o n t h
  ended e p (none b f) = nobody p (rw e f)
  ended e p (some s q) = node p (rw e s)
