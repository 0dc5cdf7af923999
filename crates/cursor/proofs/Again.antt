-- A token and a rule that failed at a place fail there again, whatever else the state has, at the same nest or a lower one. Assumes nothing.
use Prim.Native.Nat.{ℕ, ◌+◌, ◌≤◌}
use mathlib.Core.Path.{◌≡◌, sym}
use native.Mathlib.Omega.{arith}
use Rattle.grammar.specs.Derive.{Input, R, ◌&◌, rule, S, none}
use Rattle.grammar.specs.Grammar.{tok}
use Rattle.grammar.proofs.Alike.{alike_then, takes_then}
use Rattle.cursor.specs.Read.{Attempt}
use Rattle.cursor.proofs.Attempts.{shift}

-- a token taken from t at nest m is taken from s at nest n, as much deeper as n is
pub again : {x : Input} {k : ℕ} {r : R} {n m b : ℕ} {s t : S} → s.at ≡ t.at → m ≤ n → Attempt x (tok k & rule r) n s none b b → Attempt x (tok k & rule r) m t none b b
again {n = n} {s = s} e h c =
    let v = c.within in
    record {
      derived = alike_then e c.derived;
      within =
          record {
            limit = λ i j u. let q = shift n (takes_then {t = s} (sym e) u) in omega (arith, h, q.was, v.limit i (n + q.deeper) q.is);
            up = v.up;
            taken = λ i f l. absurd (omega arith);
            below = λ i j u. let q = shift n (takes_then {t = s} (sym e) u) in v.below i (n + q.deeper) q.is;
          };
    }
