-- The grammar of Cairo-M: every rule but an absent return type takes a token, every round too, and from every state there is an outcome.
-- Assumes nothing.
use Prim.Native.Nat.{ℕ, zero, suc, ◌-◌, ◌<◌}
use mathlib.Core.Path.{◌≡◌, sym, ap, ◌∙◌}
use mathlib.Core.Bool.{Bool, true, false}
use mathlib.Core.List.{List}
use native.Mathlib.Omega.{arith}
use lib.Dec.{T}
use lib.ListN.{length}
use Rattle.grammar.specs.Derive.{Token, Node, Input, R, type, alloc, pattern, expr, stmt, unary, init_let, init_action, for_step, param, unit, item, level, G, rule, S, Out, Derives}
use Rattle.grammar.specs.Grammar.{body, file, Tree, Stops}
use Rattle.patterns.proofs.Tests.{implies, modus}
use Rattle.grammar.proofs.Bodies.{every}
use Rattle.grammar.proofs.Unique.{unique, same}
use Rattle.grammar.proofs.On.{On}
use Rattle.grammar.proofs.Progress.{eats, sane?, Sane, sane_of, eaten, Ate}
use Rattle.grammar.proofs.Total.{Leads, Some, total}

abbrev pub solid : R → Bool
solid type = true
solid alloc = true
solid pattern = true
solid expr = true
solid stmt = true
solid unary = true
solid init_let = true
solid init_action = true
solid for_step = true
solid param = true
solid unit = false
solid item = true
solid (level n) = true

-- a rule reaches before any token only rules of lower rank
abbrev pub rank : R → ℕ
rank type = 0
rank alloc = 0
rank pattern = 0
rank expr = 7
rank stmt = 8
rank unary = 0
rank init_let = 0
rank init_action = 8
rank for_step = 8
rank param = 0
rank unit = 0
rank item = 0
rank (level n) = suc n

eating : (r : R) → T (solid r) → T (eats solid (body r))
unfolding body
eating r t = modus (solid r) _ (every (λ r. implies (solid r) (eats solid (body r))) (λ n. tt) r) t

leads : (r : R) → Leads solid (λ q. rank q < rank r) (body r)
unfolding body
leads type = omega arith
leads alloc = omega arith
leads pattern = omega arith
leads expr = omega arith
leads stmt = omega arith
leads unary = omega arith
leads init_let = omega arith
leads init_action = omega arith
leads for_step = omega arith
leads param = omega arith
leads unit = omega arith
leads item = omega arith
leads (level zero) = omega arith
leads (level (suc n)) = omega arith

sane : (r : R) → Sane solid (body r)
unfolding body
sane r = sane_of solid (body r) (every (λ r. sane? solid (body r)) (λ n. tt) r)

-- whatever a rule but `unit` derives stands past a token
pub rule_eats : {x : Input} {s : S} {o : Out} (r : R) → T (solid r) → Derives body x (rule r) s o → On (Ate s.at (length x.tokens)) o
rule_eats {x} r t d = eaten body x solid eating sane t tt d

pub derives : (x : Input) (g : G) (s : S) → Sane solid g → Some body x g s
derives x g s z = total body x solid eating sane rank leads (suc (length x.tokens - s.at)) g s z (omega arith)

pub file_derives : (x : Input) (s : S) → Some body x file s
file_derives x s = derives x file s (omega arith)

-- and so does whatever a grammar that eats derives
pub takes_one : {x : Input} {g : G} {s : S} {o : Out} → T (eats solid g) → T (sane? solid g) → Derives body x g s o → On (Ate s.at (length x.tokens)) o
takes_one {x} {g} t z d = eaten body x solid eating sane t (sane_of solid g z) d

-- a text has at most one tree
pub tree_one : {x : Input} {ns ms : List Node} {ds es : List Token} → Tree x ns ds → Tree x ms es → (ns ≡ ms) × (ds ≡ es)
tree_one a b =
    let e = same (unique a.derived b.derived) in
    (sym a.these ∙ ap (λ (s : S). s.nodes) e ∙ b.these, sym a.unknowns ∙ ap (λ (s : S). s.unknown) e ∙ b.unknowns)

-- and at most one token is the first that no attempt takes
pub stops_one : {x : Input} {i j : ℕ} → Stops x i → Stops x j → i ≡ j
stops_one {i = i} {j} a b =
    let p : i < j → ⊥ = λ l. a.untaken (b.taken i l) in
    let q : j < i → ⊥ = λ l. b.untaken (a.taken j l) in
    omega arith
