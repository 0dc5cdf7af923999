-- What every step of a grammar's rules keeps, its derivations keep. Assumes nothing.
use mathlib.Core.Bool.{Bool, true, ◌&&◌}
use mathlib.Core.List.{List}
use lib.Dec.{T}
use Rattle.patterns.proofs.Tests.{and_l, and_r}
use Rattle.grammar.specs.Derive.{Token, Node, Input, R, Step, G, step, ◌&◌, ◌or◌, many, both, rule, S, Out, begin, enter, yields}
use Rattle.grammar.specs.Derive.{Derives, stepped, and_not, and_then, or_first, or_else, no_more, one_more, agreed, ruled}
use Rattle.grammar.specs.Grammar.{body, Tree}
use Rattle.grammar.proofs.On.{On, off, on, on_of, on_agree, on_leave, left}

-- each step whose state is kept passes the test
unfoldable pub passes : (Step → Bool) → G → Bool
passes f (step p) = f p
passes f (g & h) = passes f g && passes f h
passes f (g or h) = passes f g && passes f h
passes f (many g) = passes f g
passes f (both g h) = passes f h
passes f (rule r) = true

module _ {b : R → G} {x : Input} (f : Step → Bool) (bodies : (r : R) → T (passes f (b r))) (P : S → Type 0)
    (steps : (p : Step) (s : S) → T (f p) → P s → On P (yields x p s)) (enters : (s : S) → P s → P (enter s)) (leaves : (s t : S) → P t → P (left s t)) where
  keeps : {g : G} {s : S} {o : Out} → T (passes f g) → P s → Derives b x g s o → On P o
  unfolding passes
  keeps z h (stepped {p = p} {s = s}) = steps p s z h
  keeps z h (and_not a) = off
  keeps z h (and_then {g = g} {h = k} a c) = keeps (and_r (passes f g) (passes f k) z) (on_of (keeps (and_l (passes f g) (passes f k) z) h a)) c
  keeps z h (or_first {g = g} {h = k} a) = keeps (and_l (passes f g) (passes f k) z) h a
  keeps z h (or_else {g = g} {h = k} a c) = keeps (and_r (passes f g) (passes f k) z) h c
  keeps z h (no_more a) = on h
  keeps z h (one_more a c) = keeps z (on_of (keeps z h a)) c
  keeps z h (agreed {o = o} a c) = on_agree o (keeps z h c)
  keeps {s = s} z h (ruled {r = r} a) = on_leave s (leaves s) (keeps (bodies r) (enters s h) a)

pub tree_keeps : {x : Input} (f : Step → Bool) → ((r : R) → T (passes f (body r))) → (P : S → Type 0) → ((p : Step) (s : S) → T (f p) → P s → On P (yields x p s))
    → ((s : S) → P s → P (enter s)) → ((s t : S) → P t → P (left s t)) → {ns : List Node} {us : List Token} → P begin → (a : Tree x ns us) → P a.last
unfolding passes
tree_keeps f bodies P steps enters leaves h a = on_of (keeps f bodies P steps enters leaves tt h a.derived)
