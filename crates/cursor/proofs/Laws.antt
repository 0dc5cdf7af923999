-- One law for each form of grammar: how a reader of the whole is made of readers of its parts. Assumes nothing.
use mathlib.Core.Path.{◌≡◌, refl, sym, ap, ◌∙◌}
use mathlib.Core.Bool.{not, ◌&&◌}
use mathlib.Core.List.{List}
use Prim.Native.Nat.{ℕ, ◌+◌, ◌≤◌}
use native.Mathlib.Omega.{arith}
use lib.Dec.{T as Yes}
use Rattle.tables.specs.Tables.{token_at}
use Rattle.tables.proofs.Laws.{tokens_at}
use Rattle.grammar.specs.Derive.{Input, token, R, G, step, done, ◌&◌, ◌or◌, many, rule, S, Out, got, none, yields, enter, leave, Derives, stepped, and_not, and_then, or_else, one_more}
use Rattle.grammar.specs.Grammar.{body, nests}
use Rattle.grammar.proofs.Unique.{apart, unique}
use Rattle.grammar.proofs.On.{on_of}
use Rattle.grammar.proofs.Added.{added}
use Rattle.grammar.proofs.Progress.{sane?}
use Rattle.grammar.proofs.Whole.{solid}
use Rattle.grammar.proofs.First.{empties, firsts, Absent, absent?, absent_of, misses, untaken}
use Rattle.patterns.proofs.Tests.{and_l, and_r}
use Rattle.cursor.specs.Entries.{input}
use Rattle.cursor.specs.Read.{LIMIT, Attempt, Exceeds, Holds, Upto, Represents, reached, Result, matched, failed, exceeded, Reads, still, reads, begun, ending, Inside, inside}
use Rattle.cursor.specs.Read.{Grown, grown, Step, steps, Free, free}
use Rattle.cursor.specs.Steps.{with_furthest, rewound, fresh_at, joining, Left, left_still, left}
use Rattle.cursor.specs.declared.Cursor.{Cursor}
use Rattle.cursor.specs.declared.Part.{Part}
use Rattle.cursor.specs.declared.Status.{Status}
use Rattle.cursor.proofs.Attempts.{within_none, attempt_from, attempt_settled, attempt_and_not, attempt_and_then, attempt_or_first, attempt_or_else, attempt_first, attempt_second, attempt_no_more, attempt_rule, attempt_step, exceeds_and_left, exceeds_and_right, exceeds_or_left, exceeds_or_right, exceeds_first, exceeds_second, exceeds_rule}
pub use Rattle.cursor.proofs.Cursors.{seen_as, represents_enter, represents_with, represents_leave, some}
use Rattle.cursor.proofs.Holding.{holds_fewer}
use Rattle.cursor.specs.declared.Status.TheVariants.{Reading, Failed, Deep}

infixr 40 ◌then◌
-- statuses told apart
abbrev number : Status → ℕ
number Status.Reading = 0
number Status.Failed = 1
number Status.Deep = 2

-- ---- cursors
-- two states of a cursor at once
pub clash : {A : Type 0} {n : Status} (a b : Status) → n ≡ a → n ≡ b → (number a ≡ number b → ⊥) → A
clash a b e f h = absurd (h (ap number (sym e ∙ f)))

pub reading? : (s : Status) → Dec (s ≡ Reading)
reading? Status.Reading = yes refl
reading? s = no (λ e. clash s Reading refl e (omega arith))

pub status_as : {p q : Cursor} {n : Status} → q ≡ p → p.status ≡ n → q.status ≡ n
status_as e z = ap (λ (q : Cursor). q.status) e ∙ z

-- what had nodes added still has the old
pub kept : {x : Input} {g : G} {s t : S} {U : List ℕ} → Derives body x g s (got t) → Holds U t.nodes → Holds U s.nodes
kept {s = s} d H = let a = on_of (added d) in holds_fewer s.nodes a.more (rw a.adds at H)

-- going into a rule
begun_in : (p : Cursor) → p.status ≡ Reading → fresh_at p.at p ≡ begun p.at p.count p.nest p.furthest
begun_in p z = rw z refl

pub as_deep : {n m : ℕ} → m ≡ 0 → Upto (LIMIT + 1) n (n + m)
as_deep e = record { upto = omega arith }

-- and out of it
leaves : {p y : Cursor} (e : Cursor) → y ≡ joining p (ending e) → Left p e y
leaves e g = elim (reading? e.status) [ yes z ↦ left z g | no n ↦ left_still n (ap (λ (q : Cursor). q.status) g) (ap reached g) ]

-- ---- what never fails: rounds, and what may be left out
module _ {x : Input} where
  pub many_never : {g : G} (u : S) → Derives body x (many g) u none → ⊥
  many_never u (one_more {t = t} a c) = many_never t c

  pub opt_never : {g : G} (u : S) → Derives body x (g or step done) u none → ⊥
  unfolding yields
  opt_never u (or_else d c) = apart (unique c stepped)

  pub and_never : {g h : G} → ((u : S) → Derives body x g u none → ⊥) → ((u : S) → Derives body x h u none → ⊥) → (u : S) → Derives body x (g & h) u none → ⊥
  and_never f k u (and_not a) = f u a
  and_never f k u (and_then {t = t} a c) = k t c

-- ---- how one reader is made of others
-- attempts at k from a on, of those at g from b on and from the same state; M and F are what is known where one matches and where it fails
pub record Becomes (x : Input) (n : ℕ) (s : S) (g k : G) (a b : ℕ) (M F : Type 0) : Type 0 where
  pub matches : M → (t : S) (c : ℕ) → Attempt x g n s (got t) b c → Attempt x k n s (got t) a c
  pub fails : F → (c : ℕ) → Attempt x g n s none b c → Attempt x k n s none a c
  pub exceeds : Exceeds x g n s → Exceeds x k n s

-- attempts at k, of those at g and at h from the state that g came to
pub record Joins (x : Input) (n : ℕ) (g h k : G) (F : Type 0) : Type 0 where
  pub fails : F → (s : S) {a b : ℕ} → Attempt x g n s none a b → Attempt x k n s none a b
  pub exceeds : (s : S) → Exceeds x g n s → Exceeds x k n s
  pub joins : (s t : S) (o : Out) {a b c : ℕ} → Attempt x g n s (got t) a b → Attempt x h n t o b c → Attempt x k n s o a c
  pub over : (s t : S) → Derives body x g s (got t) → Exceeds x h n t → Exceeds x k n s

pub becomes : {x : Input} {n : ℕ} {s : S} {g k : G} {a b : ℕ} {M F : Type 0} → ((o : Out) (c : ℕ) → Attempt x g n s o b c → Attempt x k n s o a c) → (Exceeds x g n s → Exceeds x k n s) → Becomes x n s g k a b M F
becomes f e = record { matches = λ _ t. f (got t); fails = λ _. f none; exceeds = e }

-- before a token that it cannot begin with, g fails and takes none
pub miss : {x : Input} {n k : ℕ} {g : G} {s : S} {a : ℕ} → k ≡ (token x s.at).kind → Absent k (firsts g) → Yes (not (empties g) && sane? solid g) → Attempt x g n s none a a
miss e a y = record { derived = misses e a y; within = within_none (λ i m t. untaken e a t) }

missed : (text w : List ℕ) {k : ℕ} {g : G} {p : Cursor} {s : S} {b : ℕ} → k ≡ (token_at w p.at).kind → Absent k (firsts g) → Yes (not (empties g) && sane? solid g) → Represents p s → Attempt (input text w) g p.nest s none b b
missed text w {k = k} {s = s} e a y v =
    let e' : k ≡ (token (input text w) s.at).kind = rw (← v.at, tokens_at) e in
    miss e' a y

-- the same where the token's kind is told by a number
missed_at : (text w : List ℕ) {k j : ℕ} {g : G} {p : Cursor} {s : S} {b : ℕ} → k ≡ (token_at w p.at).kind → k ≡ j → Yes (absent? j (firsts g) && (not (empties g) && sane? solid g)) → Represents p s → Attempt (input text w) g p.nest s none b b
missed_at text w {j = j} {g = g} e f y =
    missed text w (sym f ∙ e) (absent_of j (firsts g) (and_l (absent? j (firsts g)) _ y)) (and_r (absent? j (firsts g)) _ y)

-- back where an attempt began that failed
pub back : (p q : Cursor) → reached p ≤ reached q → reached (rewound p q) ≡ reached q
back p q h = omega arith

module _ {text w : List ℕ} where
  -- nothing is read where nothing is being read
  pub idle : {g : G} {p : Cursor} {T : List ℕ} → (p.status ≡ Reading → ⊥) → Reads g text w p T p T
  idle n = still n refl refl refl

  pub reads_as : {g : G} {p q r : Cursor} {T U : List ℕ} → p ≡ q → Reads g text w p T r U → Reads g text w q T r U
  reads_as e y = rw e at y

  become : {g k : G} {p p' r : Cursor} {s : S} {T U W : List ℕ} → p'.nest ≡ p.nest → Becomes (input text w) p.nest s g k (reached p) (reached p') (r.status ≡ Reading) (r.status ≡ Failed)
      → (Holds T s.nodes → Holds U s.nodes) → Result g text w p' s U r W → Result k text w p s T r W
  become i B f (matched t z n v c f') = matched t z (n ∙ i) v (B.matches z t _ (rw i at c)) (λ H. f' (f H))
  become i B f (failed z c f') = failed z (B.fails z _ (rw i at c)) (λ H. f' (f H))
  become i B f (exceeded z c) = exceeded z (B.exceeds (rw i at c))

  -- what is read is another grammar too
  pub turned : {g k : G} {p q : Cursor} {T U : List ℕ} → ((s : S) → Represents p s → Becomes (input text w) p.nest s g k (reached p) (reached p) (q.status ≡ Reading) (q.status ≡ Failed)) → Reads g text w p T q U → Reads k text w p T q U
  turned B (still n e i f) = still n e i f
  turned B (reads z l) = reads z (λ s v. become refl (B s v) (λ H. H) (l s v))

  -- h in place of g, which failed
  pub instead : {g h k : G} {p p' q r : Cursor} {T U W : List ℕ} → ((s : S) (b : ℕ) → Attempt (input text w) g p.nest s none (reached p) b → Becomes (input text w) p.nest s h k (reached p) b (r.status ≡ Reading) (r.status ≡ Failed))
      → Reads g text w p T q U → q.status ≡ Failed → p' ≡ rewound p q → Reads h text w p' U r W → Reads k text w p T r W
  instead {g} {h} {k} {p} {p'} {q} {r} {T} {U} {W} B y o e u = go y (rw e at u)
    where
      with_failed : (s : S) → Represents p s → Result g text w p s T q U → ((s : S) → Represents (rewound p q) s → Result h text w (rewound p q) s U r W) → Result k text w p s T r W
      with_failed s v (matched t z n v' c f) l = clash Reading Failed z o (omega arith)
      with_failed s v (failed z c f) l = become refl (B s _ (attempt_from refl (sym (back p q c.within.up)) c)) f (l s (represents_with (reached q) p.nest v))
      with_failed s v (exceeded z c) l = clash Deep Failed z o (omega arith)

      go : Reads g text w p T q U → Reads h text w (rewound p q) U r W → Reads k text w p T r W
      go (still n e i f) (still n' e' i' f') = still n e' (omega arith) (f' ∙ f)
      go (still n e i f) (reads z l) = absurd (n z)
      go (reads z l) (still n e i f) = absurd (n z)
      go (reads z l) (reads z' l') = reads z (λ s v. with_failed s v (l s v) l')

  pub no_less : {g : G} {p q : Cursor} {T U : List ℕ} → Reads g text w p T q U → (q.status ≡ Failed) → reached p ≤ reached q
  no_less (still n e i f) o = omega arith
  no_less {g} {p} {q} {T} {U} (reads z l) o = let (s, v) = some p in go (l s v)
    where
      go : {s : S} → Result g text w p s T q U → reached p ≤ reached q
      go (matched t z n v c f) = c.within.up
      go (failed z c f) = c.within.up
      go (exceeded z c) = clash Deep Failed z o (omega arith)

  -- tokens that were taken can be read again with nothing new
  pub reread : {g : G} {p q : Cursor} {T U : List ℕ} (f : ℕ) → reached q ≤ f → Reads g text w p T q U → Reads g text w (with_furthest f p) T (with_furthest f q) U
  reread f h (still n e i k) = still n e (omega arith) k
  reread {g} {p} {q} {T} {U} f h (reads z l) = reads z (λ s v. go (l s (represents_with p.furthest p.nest v)))
    where
      again : {s : S} {o : Out} → Attempt (input text w) g p.nest s o (reached p) (reached q) → Attempt (input text w) g p.nest s o (reached (with_furthest f p)) (reached (with_furthest f q))
      again c = attempt_from (omega (arith, c.within.up)) (omega arith) (attempt_settled f h c)

      go : {s : S} → Result g text w p s T q U → Result g text w (with_furthest f p) s T (with_furthest f q) U
      go (matched t z n v c k) = matched t z n (represents_with f q.nest v) (again c) k
      go (failed z c k) = failed z (again c) k
      go (exceeded z c) = exceeded z c

  -- h where g came to
  pub joined : {g h k : G} {p q r : Cursor} {T U W : List ℕ} → Joins (input text w) p.nest g h k (q.status ≡ Failed) → Reads g text w p T q U → Reads h text w q U r W → Reads k text w p T r W
  joined J (still n e i f) (still n' e' i' f') = still n (e' ∙ e) (i' ∙ i) (f' ∙ f)
  joined J (still n e i f) (reads z l) = absurd (n (sym e ∙ z))
  joined {g} {h} {k} {p} {q} {r} {T} {U} {W} J (reads z l) y = reads z (λ s v. go s (l s v) y)
    where
      after : (s t : S) → q.nest ≡ p.nest → Attempt (input text w) g p.nest s (got t) (reached p) (reached q) → (Holds T s.nodes → Holds U t.nodes) → Result h text w q t U r W → Result k text w p s T r W
      after s t n c f (matched u z n' v c' f') = matched u z (n' ∙ n) v (J.joins s t (got u) c (rw n at c')) (λ H. f' (f H))
      after s t n c f (failed z c' f') = failed z (J.joins s t none c (rw n at c')) (λ H. kept c.derived (f' (f H)))
      after s t n c f (exceeded z c') = exceeded z (J.over s t c.derived (rw n at c'))

      go : (s : S) → Result g text w p s T q U → Reads h text w q U r W → Result k text w p s T r W
      go s (matched t z n v c f) (still h e i e') = absurd (h z)
      go s (matched t z n v c f) (reads _ l) = after s t n c f (l t v)
      go s (failed z c f) (still h e i e') = failed (e ∙ z) (attempt_from refl (sym i) (J.fails z s c)) (λ H. rw e' (f H))
      go s (failed z c f) (reads z' l) = clash Failed Reading z z' (omega arith)
      go s (exceeded z c) (still h e i e') = exceeded (e ∙ z) (J.exceeds s c)
      go s (exceeded z c) (reads z' l) = clash Deep Reading z z' (omega arith)

  -- one part, then another
  pub ◌then◌ : {g h : G} {p q r : Cursor} {T U W : List ℕ} → Reads g text w p T q U → Reads h text w q U r W → Reads (g & h) text w p T r W
  ◌then◌ =
      joined (record {
        fails = λ z s c. attempt_and_not c;
        exceeds = λ s c. exceeds_and_left c;
        joins = λ s t o c d. attempt_and_then c d;
        over = λ s t d e. exceeds_and_right d e;
      })

  -- the first alternative, which did not fail
  pub first : {g h : G} {p q : Cursor} {T U : List ℕ} → Reads g text w p T q U → (q.status ≡ Failed → ⊥) → Reads (g or h) text w p T q U
  first y o = turned (λ s v. record { matches = λ z t c d. attempt_or_first d; fails = λ z c d. absurd (o z); exceeds = exceeds_or_left }) y

  -- the second, where the first failed
  pub other : {g h : G} {p p' q r : Cursor} {T U W : List ℕ} → Reads g text w p T q U → q.status ≡ Failed → p' ≡ rewound p q → Reads h text w p' U r W → Reads (g or h) text w p T r W
  other = instead (λ s b c. becomes (λ o d e. attempt_or_else c e) (exceeds_or_right c.derived))

  pub nothing : {p : Cursor} {T : List ℕ} → Reads (step done) text w p T p T
  unfolding yields
  nothing {p} {T} =
      elim (reading? p.status) [ yes z ↦ reads z (λ s v. matched s z refl v (attempt_step tt) (λ H. H)) | no n ↦ idle n ]

  -- nothing, where what may be there failed
  pub absent : {g : G} {p p' q : Cursor} {T U : List ℕ} → Reads g text w p T q U → q.status ≡ Failed → p' ≡ rewound p q → Reads (g or step done) text w p T p' U
  absent y o e = other y o e nothing

  pub never_failed : {g : G} {p q : Cursor} {T U : List ℕ} → ((u : S) → Represents p u → Derives body (input text w) g u none → ⊥) → Reads g text w p T q U → (p.status ≡ Failed → ⊥) → q.status ≡ Failed → ⊥
  never_failed never (still n e i f) h o = h (sym e ∙ o)
  never_failed {g} {p} {q} {T} {U} never (reads z l) h o = let (s, v) = some p in go s v (l s v)
    where
      go : (s : S) → Represents p s → Result g text w p s T q U → ⊥
      go s v (matched t z n v' c f) = clash Reading Failed z o (omega arith)
      go s v (failed z c f) = never s v c.derived
      go s v (exceeded z c) = clash Deep Failed z o (omega arith)

  pub fine : {g : G} {p q : Cursor} {T U : List ℕ} → Reads (many g) text w p T q U → (p.status ≡ Failed → ⊥) → q.status ≡ Failed → ⊥
  fine = never_failed (λ u v. many_never u)

  -- a rule: gone into, read, and gone out of
  ruled_by : (r : R) {p e y : Cursor} {n : ℕ} {T U : List ℕ} → Upto (LIMIT + 1) n (p.nest + nests r) → p.status ≡ Reading → Reads (body r) text w (begun p.at p.count n p.furthest) T e U → Left p e y
      → Reads (rule r) text w p T y U
  unfolding leave
  ruled_by r m z (still h e i f) l = absurd (h refl)
  ruled_by r {p} {e} {y} {n} {T} {U} m z (reads _ k) l = reads z (λ s v. go v (k (enter s) (represents_enter n p.furthest v)) l)
    where
      go : {s : S} → Represents p s → Result (body r) text w (begun p.at p.count n p.furthest) (enter s) T e U → Left p e y → Result (rule r) text w p s T y U
      go v (matched t z' m' v' c f) (left_still h i j) = absurd (h z')
      go v (matched t z' m' v' c f) (left _ i) = matched _ (status_as i z') (ap (λ (q : Cursor). q.nest) i) (seen_as i (represents_leave v v')) (attempt_from refl (sym (ap reached i)) (attempt_rule m c)) f
      go v (failed z' c f) (left_still h i j) = failed (i ∙ z') (attempt_from refl (sym j) (attempt_rule m c)) f
      go v (failed z' c f) (left z'' i) = clash Failed Reading z' z'' (omega arith)
      go v (exceeded z' c) (left_still h i j) = exceeded (i ∙ z') (exceeds_rule m c)
      go v (exceeded z' c) (left z'' i) = clash Deep Reading z' z'' (omega arith)

  pub by_rule : (r : R) {p q q' y : Cursor} {T U : List ℕ} → nests r ≡ 0 → p.status ≡ Reading → q ≡ fresh_at p.at p → Reads (body r) text w q T q' U → Left p q' y → Reads (rule r) text w p T y U
  by_rule r {p} e z i u l = ruled_by r (as_deep e) z (rw (i, begun_in p z) at u) l

  -- a rule whose inside is a function of its own
  pub by_part : (r : R) {p y : Cursor} {q : Part} {n : ℕ} {T U : List ℕ} → Upto (LIMIT + 1) n (p.nest + nests r) → p.status ≡ Reading → Inside r text w p.at p.count n p.furthest T q U → y ≡ joining p q
      → Reads (rule r) text w p T y U
  by_part r m z (inside e u f) g = ruled_by r m z u (leaves e (rw f at g))

  pub inside_by : {r : R} {s e : Cursor} {q : Part} {i c n f : ℕ} {T U : List ℕ} → s ≡ begun i c n f → Reads (body r) text w s T e U → q ≡ ending e → Inside r text w i c n f T q U
  inside_by {e = e} i u f = inside e (rw i at u) f

  -- ---- by the next token
  -- the first alternative alone, where the second cannot begin so
  pub only : {k j : ℕ} {g h : G} {p q : Cursor} {T U : List ℕ} → k ≡ (token_at w p.at).kind → k ≡ j → Yes (absent? j (firsts h) && (not (empties h) && sane? solid h)) → Reads g text w p T q U → Reads (g or h) text w p T q U
  only {h = h} e f y =
      turned (λ s v. record { matches = λ z t c d. attempt_or_first d; fails = λ z c d. attempt_or_else d (missed_at text w {g = h} e f y v); exceeds = exceeds_or_left })

  -- the second alone, where the first cannot
  pub pass : {k : ℕ} {g h : G} {p q : Cursor} {T U : List ℕ} → k ≡ (token_at w p.at).kind → Absent k (firsts g) → Yes (not (empties g) && sane? solid g) → Reads h text w p T q U → Reads (g or h) text w p T q U
  pass e a y u = turned (λ s v. becomes (λ o b. attempt_or_else (missed text w e a y v)) (exceeds_or_right (missed text w {b = 0} e a y v).derived)) u

  -- what is read of two alternatives is of one alone, where the other cannot begin so
  pub without_second : {k j : ℕ} {g h : G} {p q : Cursor} {T U : List ℕ} → k ≡ (token_at w p.at).kind → k ≡ j → Yes (absent? j (firsts h) && (not (empties h) && sane? solid h)) → Reads (g or h) text w p T q U → Reads g text w p T q U
  without_second {h = h} e f y = turned (λ s v. becomes (λ o b. attempt_first (missed_at text w {g = h} e f y v)) (exceeds_first (missed_at text w {g = h} {b = 0} e f y v)))

  pub without_first : {k j : ℕ} {g h : G} {p q : Cursor} {T U : List ℕ} → k ≡ (token_at w p.at).kind → k ≡ j → Yes (absent? j (firsts g) && (not (empties g) && sane? solid g)) → Reads (g or h) text w p T q U → Reads h text w p T q U
  without_first {g = g} e f y = turned (λ s v. becomes (λ o b. attempt_second (missed_at text w {g = g} e f y v)) (exceeds_second (missed_at text w {g = g} {b = 0} e f y v)))

  -- no round, where it cannot begin so
  pub many_miss : {k : ℕ} {g : G} {p : Cursor} {T : List ℕ} → k ≡ (token_at w p.at).kind → Absent k (firsts g) → Yes (not (empties g) && sane? solid g) → Reads (many g) text w p T p T
  many_miss {p = p} e a y =
      elim (reading? p.status) [ yes z ↦ reads z (λ s v. matched s z refl v (attempt_no_more (missed text w e a y v)) (λ H. H)) | no n ↦ idle n ]

  -- ---- a wrapper's contract, as a reader's
  pub one_grown : {g : G} {p r : Cursor} {T U : List ℕ} → Grown g p T r U → Reads g text w p T r U
  one_grown (grown y) = y text w

  pub one_step : {g : G} {p r : Cursor} {T : List ℕ} → Step g w p r → Reads g text w p T r T
  one_step {T = T} (steps y) = y text T

  pub one_free : {g : G} {p r : Cursor} {T : List ℕ} → Free g p r → Reads g text w p T r T
  one_free {T = T} (free y) = y text w T
