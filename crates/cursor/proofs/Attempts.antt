-- How attempts go together, form by form. Assumes nothing.
use Prim.Native.Nat.{ℕ, ◌+◌, ◌≤◌, ◌<◌, max}
use mathlib.Core.Path.{◌≡◌, refl}
use mathlib.Core.Logic.{◌⊎◌, inl, inr, ⊎_elim}
use native.Mathlib.Omega.{arith}
use native.Mathlib.Decide.{dec_lt}
use borrow.Author.Tests.{eq-eqb, ne_eqb}
use Rattle.grammar.specs.Derive.{Input, token, R, Act, Step, take, close, tick, alone, done, G, step, ◌&◌, ◌or◌, many, both, rule, S, Out, got, none, next, act, yields, agree, enter, leave}
use Rattle.grammar.specs.Derive.{Derives, stepped, and_not, and_then, or_first, or_else, no_more, one_more, agreed, ruled}
use Rattle.grammar.specs.Derive.{Takes, here, and_left, and_right, or_left, or_right, now, later, both_first, inside}
use Rattle.grammar.specs.Grammar.{body, nests}
use Rattle.grammar.proofs.Unique.{unique, apart, same}
use Rattle.cursor.specs.Read.{LIMIT, Upto, Within, Attempt, Exceeds}

-- a step that is no token
abbrev pub Silent : Step → Type 0
Silent (take k a) = ⊥
Silent (close k a b) = Unit {0}
Silent tick = Unit {0}
Silent alone = Unit {0}
Silent done = Unit {0}

-- a token taken, with the nest shifted all through
pub record Shifted (x : Input) (i m : ℕ) (g : G) (n k : ℕ) (s : S) : Type 0 where
  pub deeper : ℕ
  pub was : m ≡ n + deeper
  pub is : Takes body x nests i (k + deeper) g k s

module _ {x : Input} where
  along : {g h : G} {i m n k : ℕ} {s t : S} → ((j : ℕ) → Takes body x nests i j g k s → Takes body x nests i j h k t) → Shifted x i m g n k s → Shifted x i m h n k t
  along f r = record { deeper = r.deeper; was = r.was; is = f _ r.is }

  pub shift : {i m : ℕ} {g : G} {n : ℕ} {s : S} (k : ℕ) → Takes body x nests i m g n s → Shifted x i m g n k s
  shift k (here e f h) = record { deeper = 0; was = omega (arith, h); is = here {n = k} e f (omega arith) }
  shift k (and_left t) = along (λ j. and_left) (shift k t)
  shift k (and_right d t) = along (λ j. and_right d) (shift k t)
  shift k (or_left t) = along (λ j. or_left) (shift k t)
  shift k (or_right d t) = along (λ j. or_right d) (shift k t)
  shift k (now t) = along (λ j. now) (shift k t)
  shift k (later d t) = along (λ j. later d) (shift k t)
  shift k (both_first t) = along (λ j. both_first) (shift k t)
  shift k (inside {r = r} t) =
      let q = shift (k + nests r) t in
      let e : k + nests r + q.deeper ≡ k + (nests r + q.deeper) = omega arith in
      record { deeper = nests r + q.deeper; was = omega (arith, q.was); is = inside (rw e at q.is) }

  -- ---- what attempts take
  -- attempts at k take what those at g take, and what those at h do that come after
  pub within_both : {g h k : G} {n m l : ℕ} {s t u : S} {a b c : ℕ}
      → ((i j : ℕ) → Takes body x nests i j k l u → Takes body x nests i j g n s ⊎ Takes body x nests i j h m t)
      → ((i j : ℕ) → Takes body x nests i j g n s → Takes body x nests i j k l u)
      → ((i j : ℕ) → Takes body x nests i j h m t → Takes body x nests i j k l u)
      → Within x g n s a b → Within x h m t b c → Within x k l u a c
  within_both {b = b} cases left right v w =
      record {
        limit = λ i j t. ⊎_elim (v.limit i j) (w.limit i j) (cases i j t);
        up = omega (arith, v.up, w.up);
        taken = λ i e f. elim (dec_lt i b) [ yes q ↦ let (j, t) = v.taken i e q in (j, left i j t) | no q ↦ let (j, t) = w.taken i (omega arith) f in (j, right i j t) ];
        below = λ i j t. ⊎_elim (λ y. omega (arith, v.below i j y, w.up)) (w.below i j) (cases i j t);
      }

  pub within_as : {g k : G} {n l : ℕ} {s u : S} {a b : ℕ} → ((i j : ℕ) → Takes body x nests i j k l u → Takes body x nests i j g n s) → ((i j : ℕ) → Takes body x nests i j g n s → Takes body x nests i j k l u)
      → Within x g n s a b → Within x k l u a b
  within_as from to v =
      record { limit = λ i j t. v.limit i j (from i j t); up = v.up; taken = λ i e f. let (j, t) = v.taken i e f in (j, to i j t); below = λ i j t. v.below i j (from i j t) }

  -- those at h alone, where those at g take nothing new
  within_rest : {g h k : G} {n m l : ℕ} {s t u : S} {a b : ℕ}
      → ((i j : ℕ) → Takes body x nests i j k l u → Takes body x nests i j g n s ⊎ Takes body x nests i j h m t)
      → ((i j : ℕ) → Takes body x nests i j h m t → Takes body x nests i j k l u)
      → Within x g n s a a → Within x k l u a b → Within x h m t a b
  within_rest cases right v w =
      record {
        limit = λ i j t. w.limit i j (right i j t);
        up = w.up;
        taken = λ i e f. let (j, t) = w.taken i e f in ⊎_elim (λ y. absurd (omega (arith, v.below i j y))) (λ y. (j, y)) (cases i j t);
        below = λ i j t. w.below i j (right i j t);
      }

  pub within_none : {g : G} {n : ℕ} {s : S} {a : ℕ} → ((i m : ℕ) → Takes body x nests i m g n s → ⊥) → Within x g n s a a
  within_none f =
      record { limit = λ i m t. absurd (f i m t); up = omega arith; taken = λ i e h. absurd (omega arith); below = λ i m t. absurd (f i m t) }

  -- what is known to be taken is nothing new
  pub settled : {g : G} {n : ℕ} {s : S} {a b : ℕ} (c : ℕ) → b ≤ c → Within x g n s a b → Within x g n s c c
  settled c h v = record { limit = v.limit; up = omega arith; taken = λ i e f. absurd (omega arith); below = λ i m t. omega (arith, v.below i m t) }

  -- how far they come is single
  pub within_one : {g : G} {n : ℕ} {s : S} {a b c : ℕ} → Within x g n s a b → Within x g n s a c → b ≡ c
  within_one {b = b} {c} v w =
      elim (dec_lt b c) [
        | yes h ↦ let (m, t) = w.taken b v.up h in absurd (omega (arith, v.below b m t))
        | no h ↦ elim (dec_lt c b) [ yes k ↦ let (m, t) = v.taken c w.up k in absurd (omega (arith, w.below c m t)) | no k ↦ omega arith ]
      ]

  -- ---- within the limit
  pub attempt_as : {g : G} {n : ℕ} {s : S} {o q : Out} {a b : ℕ} → o ≡ q → Attempt x g n s o a b → Attempt x g n s q a b
  attempt_as e c = rw e at c

  pub attempt_from : {g : G} {n : ℕ} {s : S} {o : Out} {a b c d : ℕ} → a ≡ c → b ≡ d → Attempt x g n s o a b → Attempt x g n s o c d
  attempt_from e f c = rw (e, f) at c

  pub attempt_settled : {g : G} {n : ℕ} {s : S} {o : Out} {a b : ℕ} (c : ℕ) → b ≤ c → Attempt x g n s o a b → Attempt x g n s o c c
  attempt_settled c h e = record { derived = e.derived; within = settled c h e.within }

  pub attempt_and_not : {g h : G} {n : ℕ} {s : S} {a b : ℕ} → Attempt x g n s none a b → Attempt x (g & h) n s none a b
  attempt_and_not c =
      record { derived = and_not c.derived; within = within_as (λ i m t. elim t [ and_left u ↦ u | and_right d u ↦ apart (unique c.derived d) ]) (λ i m. and_left) c.within }

  pub attempt_and_then : {g h : G} {n : ℕ} {s t : S} {o : Out} {a b c : ℕ} → Attempt x g n s (got t) a b → Attempt x h n t o b c → Attempt x (g & h) n s o a c
  attempt_and_then c e =
      record {
        derived = and_then c.derived e.derived;
        within = within_both (λ i m t. elim t [ and_left u ↦ inl u | and_right d u ↦ inr (rw (← same (unique c.derived d)) at u) ]) (λ i m. and_left) (λ i m. and_right c.derived) c.within e.within;
      }

  pub attempt_or_first : {g h : G} {n : ℕ} {s t : S} {a b : ℕ} → Attempt x g n s (got t) a b → Attempt x (g or h) n s (got t) a b
  attempt_or_first c =
      record { derived = or_first c.derived; within = within_as (λ i m t. elim t [ or_left u ↦ u | or_right d u ↦ apart (unique d c.derived) ]) (λ i m. or_left) c.within }

  or_cases : {g h : G} {n : ℕ} {s : S} (i m : ℕ) → Takes body x nests i m (g or h) n s → Takes body x nests i m g n s ⊎ Takes body x nests i m h n s
  or_cases i m (or_left u) = inl u
  or_cases i m (or_right d u) = inr u

  pub attempt_or_else : {g h : G} {n : ℕ} {s : S} {o : Out} {a b c : ℕ} → Attempt x g n s none a b → Attempt x h n s o b c → Attempt x (g or h) n s o a c
  attempt_or_else c e =
      record { derived = or_else c.derived e.derived; within = within_both or_cases (λ i m. or_left) (λ i m. or_right c.derived) c.within e.within }

  -- one alternative alone, where the other fails and takes nothing new
  pub attempt_second : {g h : G} {n : ℕ} {s : S} {o : Out} {a b : ℕ} → Attempt x g n s none a a → Attempt x (g or h) n s o a b → Attempt x h n s o a b
  attempt_second {g} {h} {n} {s} {o} c e = record { derived = go e.derived; within = within_rest or_cases (λ i m. or_right c.derived) c.within e.within }
    where
      go : {o : Out} → Derives body x (g or h) s o → Derives body x h s o
      go (or_first d) = apart (unique c.derived d)
      go (or_else d d') = d'

  pub attempt_first : {g h : G} {n : ℕ} {s : S} {o : Out} {a b : ℕ} → Attempt x h n s none a a → Attempt x (g or h) n s o a b → Attempt x g n s o a b
  attempt_first {g} {h} {n} {s} {o} c e = record { derived = go e.derived; within = within_rest (λ i m t. ⊎_elim inr inl (or_cases i m t)) (λ i m. or_left) c.within e.within }
    where
      go : {o : Out} → Derives body x (g or h) s o → Derives body x g s o
      go (or_first d) = d
      go (or_else d d') = rw (unique d' c.derived) d

  pub attempt_no_more : {g : G} {n : ℕ} {s : S} {a b : ℕ} → Attempt x g n s none a b → Attempt x (many g) n s (got s) a b
  attempt_no_more c =
      record { derived = no_more c.derived; within = within_as (λ i m t. elim t [ now u ↦ u | later d u ↦ apart (unique c.derived d) ]) (λ i m. now) c.within }

  pub attempt_one_more : {g : G} {n : ℕ} {s t : S} {o : Out} {a b c : ℕ} → Attempt x g n s (got t) a b → Attempt x (many g) n t o b c → Attempt x (many g) n s o a c
  attempt_one_more c e =
      record {
        derived = one_more c.derived e.derived;
        within = within_both (λ i m t. elim t [ now u ↦ inl u | later d u ↦ inr (rw (← same (unique c.derived d)) at u) ]) (λ i m. now) (λ i m. later c.derived) c.within e.within;
      }

  pub attempt_both : {g h : G} {n : ℕ} {s : S} {o q : Out} {a b : ℕ} → Attempt x g n s o a b → Derives body x h s q → Attempt x (both g h) n s (agree o q) a b
  attempt_both c d = record { derived = agreed c.derived d; within = within_as (λ i m t. elim t [ both_first u ↦ u ]) (λ i m. both_first) c.within }

  -- nests past the limit are not told apart
  pub attempt_rule : {r : R} {n k : ℕ} {s : S} {o : Out} {a b : ℕ} → Upto (LIMIT + 1) k (n + nests r) → Attempt x (body r) k (enter s) o a b → Attempt x (rule r) n s (leave s o) a b
  attempt_rule {r} {n} {k} e c =
      let v = c.within in
      record {
        derived = ruled c.derived;
        within =
            record {
              limit = λ i m t. elim t [ inside u ↦ let q = shift k u in omega (arith, e.upto, q.was, v.limit i (k + q.deeper) q.is) ];
              up = v.up;
              taken = λ i f h. let (m, t) = v.taken i f h in let q = shift (n + nests r) t in (n + nests r + q.deeper, inside q.is);
              below = λ i m t. elim t [ inside u ↦ let q = shift k u in v.below i (k + q.deeper) q.is ];
            };
      }

  -- a token that is there: it is taken, and then nothing before it is new
  pub attempt_take : {k : ℕ} {c : Act} {n : ℕ} {s : S} {a b : ℕ} → (token x s.at).kind ≡ k → n ≤ LIMIT → s.at ≤ a → b ≡ max (s.at + 1) a → Attempt x (step (take k c)) n s (yields x (take k c) s) a b
  attempt_take {k} {c} {n} {s} {a} {b} h l q e =
      record {
        derived = stepped;
        within =
            record {
              limit = λ i m t. elim t [ here u v w ↦ omega arith ];
              up = omega arith;
              taken = λ i f g. (n, here h (omega arith) refl);
              below = λ i m t. elim t [ here u v w ↦ omega arith ];
            };
      }

  attempt_miss : {k : ℕ} {c : Act} {n : ℕ} {s : S} {a : ℕ} → ((token x s.at).kind ≡ k → ⊥) → Attempt x (step (take k c)) n s (yields x (take k c) s) a a
  attempt_miss h = record { derived = stepped; within = within_none (λ i m t. elim t [ here e f q ↦ h e ]) }

  -- a token that is there and one that is not
  pub attempt_there : {k : ℕ} {n : ℕ} {s : S} {a b : ℕ} (c : Act) → (token x s.at).kind ≡ k → n ≤ LIMIT → s.at ≤ a → b ≡ max (s.at + 1) a → Attempt x (step (take k c)) n s (act x c (token x s.at) (next s)) a b
  unfolding yields
  attempt_there c e h l q = attempt_as (rw (eq-eqb _ _ e)) (attempt_take e h l q)

  pub attempt_absent : {k : ℕ} {c : Act} {n : ℕ} {s : S} {a : ℕ} → ((token x s.at).kind ≡ k → ⊥) → Attempt x (step (take k c)) n s none a a
  unfolding yields
  attempt_absent h = attempt_as (rw (ne_eqb _ _ h)) (attempt_miss h)

  -- a step that is no token takes none
  quiet : {p : Step} {i m n : ℕ} {s : S} → Silent p → Takes body x nests i m (step p) n s → ⊥
  quiet z (here e f q) = z

  pub attempt_step : {p : Step} {n : ℕ} {s : S} {a : ℕ} → Silent p → Attempt x (step p) n s (yields x p s) a a
  attempt_step z = record { derived = stepped; within = within_none (λ i m. quiet z) }

  pub step_stays : {p : Step} {n : ℕ} {s : S} {o : Out} {a b : ℕ} → Silent p → Attempt x (step p) n s o a b → b ≡ a
  step_stays {a = a} {b = b} z c =
      elim (dec_lt a b) [ yes h ↦ let (m, t) = c.within.taken a (omega arith) h in absurd (quiet z t) | no h ↦ omega (arith, c.within.up) ]

  -- ---- above it
  pub exceeds_by : {g h : G} {n k : ℕ} {s t : S} → ((i m : ℕ) → LIMIT < m → Takes body x nests i m g n s → Takes body x nests i m h k t) → Exceeds x g n s → Exceeds x h k t
  exceeds_by f c = record { token = c.token; nest = c.nest; above = c.above; takes = f _ _ c.above c.takes }

  pub exceeds_and_left : {g h : G} {n : ℕ} {s : S} → Exceeds x g n s → Exceeds x (g & h) n s
  exceeds_and_left = exceeds_by (λ i m l. and_left)

  pub exceeds_and_right : {g h : G} {n : ℕ} {s t : S} → Derives body x g s (got t) → Exceeds x h n t → Exceeds x (g & h) n s
  exceeds_and_right d = exceeds_by (λ i m l. and_right d)

  pub exceeds_or_left : {g h : G} {n : ℕ} {s : S} → Exceeds x g n s → Exceeds x (g or h) n s
  exceeds_or_left = exceeds_by (λ i m l. or_left)

  pub exceeds_or_right : {g h : G} {n : ℕ} {s : S} → Derives body x g s none → Exceeds x h n s → Exceeds x (g or h) n s
  exceeds_or_right d = exceeds_by (λ i m l. or_right d)

  pub exceeds_second : {g h : G} {n : ℕ} {s : S} {a b : ℕ} → Attempt x g n s none a b → Exceeds x (g or h) n s → Exceeds x h n s
  exceeds_second c = exceeds_by (λ i m l t. elim t [ or_left u ↦ absurd (omega (arith, l, c.within.limit i m u)) | or_right d u ↦ u ])

  pub exceeds_first : {g h : G} {n : ℕ} {s : S} {a b : ℕ} → Attempt x h n s none a b → Exceeds x (g or h) n s → Exceeds x g n s
  exceeds_first c = exceeds_by (λ i m l t. elim t [ or_left u ↦ u | or_right d u ↦ absurd (omega (arith, l, c.within.limit i m u)) ])

  pub exceeds_now : {g : G} {n : ℕ} {s : S} → Exceeds x g n s → Exceeds x (many g) n s
  exceeds_now = exceeds_by (λ i m l. now)

  pub exceeds_later : {g : G} {n : ℕ} {s t : S} → Derives body x g s (got t) → Exceeds x (many g) n t → Exceeds x (many g) n s
  exceeds_later d = exceeds_by (λ i m l. later d)

  pub exceeds_both : {g h : G} {n : ℕ} {s : S} → Exceeds x g n s → Exceeds x (both g h) n s
  exceeds_both = exceeds_by (λ i m l. both_first)

  pub exceeds_rule : {r : R} {n k : ℕ} {s : S} → Upto (LIMIT + 1) k (n + nests r) → Exceeds x (body r) k (enter s) → Exceeds x (rule r) n s
  exceeds_rule {r} {n} e c =
      let q = shift (n + nests r) c.takes in
      record { token = c.token; nest = n + nests r + q.deeper; above = omega (arith, e.upto, q.was, c.above); takes = inside q.is }

  pub exceeds_take : {k : ℕ} {a : Act} {n : ℕ} {s : S} → (token x s.at).kind ≡ k → LIMIT < n → Exceeds x (step (take k a)) n s
  exceeds_take {n = n} {s = s} e h = record { token = s.at; nest = n; above = h; takes = here e refl refl }
