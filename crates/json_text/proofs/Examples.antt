-- The lines that 01 prints, and the values where their spelling changes, computed. Assumes nothing.
use mathlib.Core.Path.{◌≡◌, refl, ap}
use mathlib.Core.List.{[], ◌∷◌}
use native.Mathlib.Omega.{arith}
use Rattle.patterns.specs.Bytes.{bytes}
use Rattle.json_text.specs.Json.{digits, powers, decimal, following, array, quoted, names, kind_name, value_text, sixth, row, listing, diagnostic_row, diagnostic_rows, refusal}
use Rattle.json_text.proofs.Decimal.{fewest}

-- `const A = 1;`
pub worked : listing (record { kind = 1; base = 0; start = 6; end = 7; children = 0; value = 0 } ∷ record { kind = 7; base = 10; start = 10; end = 11; children = 0; value = 1 } ∷ record { kind = 27; base = 0; start = 0; end = 12; children = 2; value = 0 } ∷ [])
    ≡ bytes "[[\"Name\",6,7,0,0],[\"Literal\",10,11,0,1,10],[\"Const\",0,12,2,0]]"
unfolding listing array following row value_text sixth quoted kind_name names decimal digits powers
worked = refl

-- `@`
pub refused_text : refusal 3 (record { start = 0; end = 1; reason = 1 } ∷ []) ≡ bytes "{\"refused\":3,\"diagnostics\":[[0,1,1]]}"
unfolding refusal diagnostic_rows diagnostic_row array following decimal digits powers
refused_text = refl

-- the largest value that stays a number, the smallest and the largest that is a string
pub edges : (value_text 9007199254740991 ≡ bytes "9007199254740991") × (value_text 9007199254740992 ≡ bytes "\"9007199254740992\"") × (value_text 18446744073709551615 ≡ bytes "\"18446744073709551615\"")
unfolding value_text quoted digits
edges =
    (fewest 15 9007199254740991 (omega arith) (omega arith), ap quoted (fewest 15 9007199254740992 (omega arith) (omega arith)), ap quoted (fewest 19 18446744073709551615 (omega arith) (omega arith)))

-- an accepted text without nodes, and a refusal without diagnostics
pub empty_text : (listing [] ≡ bytes "[]") × (refusal 7 [] ≡ bytes "{\"refused\":7,\"diagnostics\":[]}")
unfolding listing refusal diagnostic_rows array decimal digits powers
empty_text = (refl, refl)
