-- 01's texts on the edge, from their bytes to the outcome, with just the room that they need. Assumes nothing.
use Prim.Native.String.{String}
use mathlib.Core.Path.{◌≡◌}
use mathlib.Core.Bool.{Bool, true, cond, ◌&&◌}
use mathlib.Core.List.{List, [], ◌∷◌}
use Prim.Native.Nat.{ℕ}
use native.Mathlib.Omega.{arith}
use native.Mathlib.Decide.{dec_lt}
use native.Mathlib.Nat.{le_refl}
use lib.Dec.{T, ltb}
use lib.ListN.{length}
use borrow.Author.Tests.{lt-ltb, le-ltb}
use Rattle.patterns.specs.Bytes.{bytes, same, starts}
use Rattle.patterns.proofs.Tests.{and_l, and_r, of_T}
use Rattle.tables.specs.Tables.{Token, Diagnostic}
use Rattle.grammar.specs.Derive.{token, begin, type_name, part, yields, leave, agree}
use Rattle.grammar.specs.Grammar.{body, nests, file, Stops}
use Rattle.grammar.proofs.Eval.{eval}
use Rattle.grammar.proofs.Verdict.{Verdict, tree, refused, unknown, within, is_shallow}
use Rattle.grammar.proofs.Edge.{Row, row, rows, Meets, All, edge}
use Rattle.cairo_m.specs.Reading.{input, accepted, syntax, suffix, StopIs, at_token, at_end, is_syntax, is_suffix, is_accepted, OutcomeIs, is_lexed}
use Rattle.cairo_m.proofs.Edge.{Lexed, LexedAll, edge_lexed}

-- over the token i, or at the end of the text
abbrev pub stop : String → List Token → ℕ → Diagnostic
stop w ts i =
    let t = token (input (bytes w) ts) i in
    cond (ltb i (length ts)) (record { start = t.start; end = t.end; reason = 5 }) (record { start = length (bytes w); end = length (bytes w); reason = 5 })

stopped : (w : String) (ts : List Token) (i : ℕ) → Stops (input (bytes w) ts) i → StopIs (bytes w) ts (stop w ts i)
stopped w ts i s =
    elim (dec_lt i (length ts)) [
      | yes h ↦ rw (lt-ltb i (length ts) h) (at_token s h)
      | no h ↦ rw (le-ltb i (length ts) (omega arith)) (at_end (λ k l. s.taken k (omega arith)))
    ]

-- accepted with that tree, 8 for its literals with an unknown suffix, or 7 with the place where it stops
abbrev pub Comes : Row → Type 0
Comes (row w ts (tree ns [])) = OutcomeIs (bytes w) (length ts) (length ns) (accepted ts ns)
Comes (row w ts (tree ns (u ∷ us))) = OutcomeIs (bytes w) (length ts) (length ns) (suffix (u ∷ us))
Comes (row w ts (refused i)) = OutcomeIs (bytes w) (length ts) 0 (syntax (stop w ts i))
Comes (row w ts unknown) = Unit {0}

abbrev pub ComesAll : List Row → Type 0
ComesAll [] = Unit {0}
ComesAll (r ∷ l) = Comes r × ComesAll l

-- no attempt is too deep
shallow : List Row → Bool
shallow [] = true
shallow (row w ts v ∷ l) = within (eval body nests (input (bytes w) ts) 300 file 0 begin) && shallow l

comes : (w : String) (ts : List Token) (v : Verdict) → Lexed (row w ts v) → Meets (row w ts v) → within (eval body nests (input (bytes w) ts) 300 file 0 begin) ≡ true → Comes (row w ts v)
comes w ts (tree ns []) (h, u, l) t s = is_lexed h u l (le_refl _) (is_accepted (is_shallow (input (bytes w) ts) 300 s) t (le_refl _))
comes w ts (tree ns (x ∷ us)) (h, u, l) t s = is_lexed h u l (le_refl _) (is_suffix (is_shallow (input (bytes w) ts) 300 s) t)
comes w ts (refused i) (h, u, l) (t, q) s = is_lexed h u l (le_refl _) (is_syntax (is_shallow (input (bytes w) ts) 300 s) t (stopped w ts i q))
comes w ts unknown l t s = tt

all : (l : List Row) → LexedAll l → All l → T (shallow l) → ComesAll l
unfolding shallow
all [] a b t = tt
all (row w ts v ∷ l) (a, c) (b, d) t =
    let m : Bool = within (eval body nests (input (bytes w) ts) 300 file 0 begin) in
    (comes w ts v a b (of_T m (and_l m (shallow l) t)), all l c d (and_r m (shallow l) t))

pub edge_outcomes : ComesAll rows
unfolding rows shallow eval body part yields leave agree type_name same starts
edge_outcomes = all rows edge_lexed edge tt
