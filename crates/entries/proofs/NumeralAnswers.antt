-- Two answers of the numeral entry agree. Assumes nothing.
use mathlib.Core.Path.{◌≡◌, sym, ap, ◌∙◌}
use mathlib.Core.List.{List}
use Prim.Native.Nat.{ℕ}
use Rattle.numeral.proofs.Entries.{answer_unique}
use Rattle.entries.specs.Numerals.{outcome_of, numbers_of, reason_of, NumeralIs}

pub numeral_one : {s : List ℕ} {o v x b r o' v' x' b' r' : ℕ} → NumeralIs s o v x b r → NumeralIs s o' v' x' b' r' → (o ≡ o') × (v ≡ v') × (x ≡ x') × (b ≡ b') × (r ≡ r')
numeral_one p q =
    let e = answer_unique p.is q.is in
    let n = ap numbers_of e in (
      p.outcome_is ∙ ap outcome_of e ∙ sym q.outcome_is,
      p.value_is ∙ ap (λ n. n.0) n ∙ sym q.value_is,
      p.suffix_is ∙ ap (λ n. n.1) n ∙ sym q.suffix_is,
      p.base_is ∙ ap (λ n. n.2) n ∙ sym q.base_is,
      p.reason_is ∙ ap reason_of e ∙ sym q.reason_is,
    )
