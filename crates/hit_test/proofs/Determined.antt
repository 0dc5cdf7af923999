-- Two answers to the same offset, length and table agree. Assumes nothing.
use mathlib.Core.Path.{◌≡◌, refl, ap}
use mathlib.Core.List.{List}
use Prim.Native.Nat.{ℕ}
use native.Mathlib.Omega.{arith}
use Rattle.hit_test.specs.Hits.{HitIs, refused, nobody, node}
use Rattle.hit_test.specs.declared.Hit.{Hit}

pub hit_one : {o n : ℕ} {t : List ℕ} {a b : Hit} → HitIs o n t a → HitIs o n t b → a ≡ b
hit_one (refused h) (refused k) = refl
hit_one (refused h) (nobody k f) = absurd (omega arith)
hit_one (refused h) (node k s) = absurd (omega arith)
hit_one (nobody h f) (refused k) = absurd (omega arith)
hit_one (nobody h f) (nobody k g) = refl
hit_one (nobody h f) (node k s) = absurd (f _ s.place s.contains)
hit_one (node h r) (refused k) = absurd (omega arith)
hit_one (node h r) (nobody k g) = absurd (g _ r.place r.contains)
hit_one (node {i = i} h r) (node {i = j} k s) =
    let p = r.shortest j s.place s.contains in
    let q = s.shortest i r.place r.contains in
    ap Hit.Node (omega (arith, r.earliest j s.place s.contains (omega arith), s.earliest i r.place r.contains (omega arith)))
