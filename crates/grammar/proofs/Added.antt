-- Nodes are only added, and a construct keeps its first token. Assumes nothing.
use mathlib.Core.Path.{◌≡◌, refl, sym, ◌∙◌}
use mathlib.Core.List.{List, [], ◌++◌, append_assoc, append-nil}
use lib.Dec.{eqb}
use Rattle.grammar.specs.Derive.{Token, Node, Input, token, R, Act, skip, leaf, named, literal, count, index, mark, Step, take, close, tick, alone, done, G, S, Out, next, part, act, yields}
use Rattle.grammar.specs.Derive.{Derives, stepped, and_not, and_then, or_first, or_else, no_more, one_more, agreed, ruled}
use Rattle.grammar.proofs.On.{On, off, on, on_of, on_map, on_if, on_agree, on_leave}

-- t has the nodes of s and perhaps more, and its construct began where that of s did
pub record Adds (s t : S) : Type 0 where
  pub more : List Node
  pub adds : t.nodes ≡ s.nodes ++ more
  pub first : t.frame.first ≡ s.frame.first

none : {s t : S} → t.nodes ≡ s.nodes → t.frame.first ≡ s.frame.first → Adds s t
none {s} e f = record { more = []; adds = e ∙ sym (append-nil s.nodes); first = f }

some : {s t : S} (m : List Node) → t.nodes ≡ s.nodes ++ m → t.frame.first ≡ s.frame.first → Adds s t
some m e f = record { more = m; adds = e; first = f }

both : {r s t : S} → Adds r s → Adds s t → Adds r t
both a b = record { more = a.more ++ b.more; adds = b.adds ∙ rw (a.adds, append_assoc) refl; first = b.first ∙ a.first }

adds_act : (x : Input) (a : Act) (t : Token) (s : S) → On (Adds s) (act x a t s)
unfolding part
adds_act x skip t s = on (none refl refl)
adds_act x (leaf k v) t s = on (some _ refl refl)
adds_act x named t s = on (some _ refl refl)
adds_act x literal t s = on (some _ refl refl)
adds_act x count t s = on_if (eqb t.suffix 0) (λ e. on (some _ refl refl))
adds_act x index t s = on_if (eqb t.suffix 0) (λ e. on (none refl refl))
adds_act x (mark m) t s = on (none refl refl)

adds_step : (x : Input) (p : Step) (s : S) → On (Adds s) (yields x p s)
unfolding yields
adds_step x (take k a) s = on_if (eqb (token x s.at).kind k) (λ e. on_map (λ t p. some p.more p.adds p.first) (adds_act x a (token x s.at) (next s)))
adds_step x (close k a b) s = on (some _ refl refl)
adds_step x tick s = on (none refl refl)
adds_step x alone s = on_if (eqb s.frame.parts 1) (λ e. on (none refl refl))
adds_step x done s = on (none refl refl)

pub added : {b : R → G} {x : Input} {g : G} {s : S} {o : Out} → Derives b x g s o → On (Adds s) o
unfolding part
added {x = x} (stepped {p = p} {s = s}) = adds_step x p s
added (and_not a) = off
added (and_then a c) = on_map (λ u. both (on_of (added a))) (added c)
added (or_first a) = added a
added (or_else a c) = added c
added (no_more a) = on (none refl refl)
added (one_more a c) = on_map (λ u. both (on_of (added a))) (added c)
added (agreed {o = o} a c) = on_agree o (added c)
added {s = s} (ruled a) = on_leave s (λ t p. some p.more p.adds refl) (added a)
