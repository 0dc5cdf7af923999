-- Two answers of a hit test agree. Assumes nothing.
use mathlib.Core.Path.{◌≡◌, sym, ap, ◌∙◌}
use mathlib.Core.List.{List}
use Prim.Native.Nat.{ℕ}
use Rattle.hit_test.proofs.Determined.{hit_one}
use Rattle.entries.specs.Hits.{outcome_of, found_of, place_of, HitTestIs}

pub hit_test_one : {o n : ℕ} {t : List ℕ} {u f p u' f' p' : ℕ} → HitTestIs o n t u f p → HitTestIs o n t u' f' p' → (u ≡ u') × (f ≡ f') × (p ≡ p')
hit_test_one a b =
    let e = hit_one a.is b.is in
    (a.outcome_is ∙ ap outcome_of e ∙ sym b.outcome_is, a.found_is ∙ ap found_of e ∙ sym b.found_is, a.place_is ∙ ap place_of e ∙ sym b.place_is)
