-- Where a statement has ended, an `else` that failed there is known to fail again. Assumes nothing.
use mathlib.Core.Path.{◌≡◌, refl, sym, ap, ◌∙◌}
use mathlib.Core.Bool.{Bool, true, false}
use mathlib.Core.List.{List}
use Prim.Native.Nat.{ℕ, ◌+◌, ◌≤◌, min}
use native.Mathlib.Omega.{arith}
use native.Mathlib.Decide.{dec_lt}
use Rattle.tables.specs.Tables.{token_at}
use Rattle.tables.specs.TokenKinds.{ELSE, LET, CONST}
use Rattle.grammar.specs.Derive.{Input, token, R, stmt, Start, End, close, G, step, ◌&◌, rule, S, none, yields, stepped, and_left, here}
use Rattle.grammar.specs.Grammar.{body, tok, else_part, let_stmt, const_def, statement}
use Rattle.grammar.proofs.Unique.{unique, same}
use Rattle.cursor.specs.Read.{LIMIT, Attempt, Represents, reached, Result, matched, failed, exceeded, Reads, still, reads, begun, ending_with, Inside, inside, Tried, Ends, ends}
use Rattle.cursor.specs.Steps.{rewound, joining}
use Rattle.cursor.specs.declared.Cursor.{Cursor}
use Rattle.cursor.specs.declared.Part.{Part}
use Rattle.cursor.specs.declared.Status.{Status}
use Rattle.cursor.specs.declared.StmtPart.{StmtPart}
use Rattle.cursor.proofs.Attempts.{attempt_settled, attempt_and_not, attempt_or_else, attempt_absent, attempt_step, step_stays}
use Rattle.cursor.proofs.Again.{again}
use Rattle.cursor.proofs.Laws.{clash, reading?, some, back, no_less, idle, absent, by_part, without_first, without_second, ◌then◌}
use Rattle.cursor.proofs.Falls.{one_if, on, was}
use Rattle.cursor.specs.declared.Status.TheVariants.{Reading, Failed, Deep}

infixr 40 ◌then_ends◌
-- what failed is not reading
pub fell : {n : Status} → n ≡ Failed → n ≡ Reading → ⊥
fell e z = clash Failed Reading e z (omega arith)

unset : false ≡ true → ⊥
unset e = omega (arith, ap one_if e)

-- an `else` that is not there fails
missing : {x : Input} {n : ℕ} {s : S} {b : ℕ} → ((token x s.at).kind ≡ ELSE → ⊥) → Attempt x (tok ELSE & rule stmt) n s none b b
missing h = attempt_and_not (attempt_absent h)

module _ {text w : List ℕ} where
  -- ---- what a reading keeps
  nest_kept : {g : G} {p q : Cursor} {T U : List ℕ} → Reads g text w p T q U → q.status ≡ Reading → q.nest ≡ p.nest
  nest_kept (still n e i f) z = absurd (n (sym e ∙ z))
  nest_kept {g} {p} {q} {T} {U} (reads y l) z = let (s, v) = some p in go s (l s v)
    where
      go : (s : S) → Result g text w p s T q U → q.nest ≡ p.nest
      go s (matched t z' n v c f) = n
      go s (failed o c f) = absurd (fell o z)
      go s (exceeded o c) = clash Deep Reading o z (omega arith)

  place_kept : {k : ℕ} {a : Start} {b : End} {p q : Cursor} {T U : List ℕ} → Reads (step (close k a b)) text w p T q U → q.status ≡ Reading → (q.at ≡ p.at) × (reached q ≡ reached p)
  unfolding yields
  place_kept (still n e i f) z = absurd (n (sym e ∙ z))
  place_kept {k} {a} {b} {p} {q} {T} {U} (reads y l) z = let (s, v) = some p in go s v (l s v)
    where
      go : (s : S) → Represents p s → Result (step (close k a b)) text w p s T q U → (q.at ≡ p.at) × (reached q ≡ reached p)
      go s v (matched t z' n u c f) = (u.at ∙ ap (λ (r : S). r.at) (same (unique c.derived stepped)) ∙ sym v.at, step_stays tt c)
      go s v (failed o c f) = absurd (fell o z)
      go s v (exceeded o c) = clash Deep Reading o z (omega arith)

  -- ---- an `else` that fails
  -- it fails at a lower nest too; nests past the limit are not told apart, and there it is missing, as it would have been taken
  outer : {n m k b : ℕ} → min m (LIMIT + 1) ≤ min n (LIMIT + 1) → Tried text w n k b → Tried text w m k b
  outer {n} {m} h t =
      record {
        fails =
            λ s e. elim (dec_lt n m) [
              | yes b ↦ missing (λ i. omega (arith, h, b, (t.fails s e).within.limit s.at n (and_left (here i refl refl))))
              | no b ↦ again refl (omega arith) (t.fails s e)
            ];
      }

  -- one that was read and failed
  tried_by : {p q : Cursor} {T U : List ℕ} → Reads (tok ELSE & rule stmt) text w p T q U → q.status ≡ Failed → p.status ≡ Reading → Tried text w p.nest p.at (reached q)
  tried_by (still n e i f) o z = absurd (n z)
  tried_by {p} {q} {T} {U} (reads y l) o z = let (s, v) = some p in go s v (l s v)
    where
      go : (s : S) → Represents p s → Result (tok ELSE & rule stmt) text w p s T q U → Tried text w p.nest p.at (reached q)
      go s v (matched t z' n u c f) = absurd (fell o z')
      go s v (failed o' c f) = record { fails = λ t e. again (sym v.at ∙ sym e) (omega arith) (attempt_settled (reached q) (omega arith) c) }
      go s v (exceeded o' c) = clash Deep Failed o' o (omega arith)

  -- it need not be read
  skipped : {p : Cursor} {T : List ℕ} → (p.status ≡ Reading → Tried text w p.nest p.at (reached p)) → Reads else_part text w p T p T
  unfolding yields
  skipped {p} t =
      elim (reading? p.status) [
        | yes z ↦ reads z (λ s v. matched s z refl v (attempt_or_else ((t z).fails s (sym v.at)) (attempt_step tt)) (λ H. H))
        | no n ↦ idle n
      ]

  -- ---- readers of statements
  -- one that says nothing of an `else`
  pub ends_by : {g : G} {s p e : Cursor} {q : StmtPart} {T U : List ℕ} → s ≡ p → Reads g text w s T e U → q ≡ ending_with false e → Ends g text w p T q U
  ends_by {e = e} i u g = ends e (rw i at u) (ap (λ (q : StmtPart). q.part) g) (λ j. absurd (unset (sym (ap (λ (q : StmtPart). q.tried) g) ∙ j)))

  -- what it reads is another grammar too
  pub ends_as : {g h : G} {s p : Cursor} {q : StmtPart} {T U : List ℕ} → s ≡ p → ((e : Cursor) → Reads g text w s T e U → Reads h text w s T e U) → Ends g text w s T q U → Ends h text w p T q U
  ends_as i l (ends e u f t) = rw i at (ends e (l e u) f t)

  -- one part, then the last
  pub ◌then_ends◌ : {g h : G} {p q : Cursor} {r : StmtPart} {T U W : List ℕ} → Reads g text w p T q U → Ends h text w q U r W → Ends (g & h) text w p T r W
  ◌then_ends◌ y (ends e u f t) = ends e (y then u) f (λ i z. rw (nest_kept y (was (on u) z)) at (t i z))

  -- a node, past which an `else` fails if it did before
  pub ends_close : {k : ℕ} {a : Start} {b : End} {p e : Cursor} {q : StmtPart} {f : Bool} {T U : List ℕ} → Reads (step (close k a b)) text w p T e U → q ≡ ending_with f e
      → (f ≡ true → p.status ≡ Reading → Tried text w p.nest p.at (reached p)) → Ends (step (close k a b)) text w p T q U
  ends_close {e = e} u g t =
      ends e u (ap (λ (q : StmtPart). q.part) g) (λ i z. let (j, k) = place_kept u z in rw (k, j) (t (sym (ap (λ (q : StmtPart). q.tried) g) ∙ i) (was (on u) z)))

  -- no `else`, where one is known to fail
  pub no_else : {k : ℕ} {a : Start} {b : End} {p e : Cursor} {q : StmtPart} {T U : List ℕ} → (p.status ≡ Reading → Tried text w p.nest p.at (reached p)) → Reads (step (close k a b)) text w p T e U → q ≡ ending_with true e
      → Ends (else_part & step (close k a b)) text w p T q U
  no_else t u g = ◌then_ends◌ (skipped t) (ends_close u g (λ _. t))

  -- nor where one has failed
  pub failed_else : {k : ℕ} {a : Start} {b : End} {p p' r e : Cursor} {q : StmtPart} {T U W : List ℕ} → Reads (tok ELSE & rule stmt) text w p T r U → r.status ≡ Failed → p' ≡ rewound p r → Reads (step (close k a b)) text w p' U e W → q ≡ ending_with true e
      → Ends (else_part & step (close k a b)) text w p T q W
  failed_else {p = p} {r = r} y o i u g = ◌then_ends◌ (absent y o i) (ends_close u g (λ _ z. rw (i, back p r (no_less y o)) (tried_by y o (rw i at z))))

  -- ---- a statement in what is around it
  pub by_stmt : {p y : Cursor} {q : StmtPart} {n : ℕ} {T U : List ℕ} → n ≡ min (p.nest + 1) (LIMIT + 1) → p.status ≡ Reading → Ends statement text w (begun p.at p.count n p.furthest) T q U → y ≡ joining p q.part
      → Reads (rule stmt) text w p T y U
  unfolding body
  by_stmt m z (ends e u f t) g = by_part stmt (record { upto = omega (arith, m) }) z (inside e u f) g

  -- what its flag says there
  pub tried_outside : {g : G} {y : Cursor} {q : StmtPart} {i c n l m a b d h : ℕ} {T U : List ℕ} → n ≡ min (m + 1) (LIMIT + 1) → Ends g text w (begun i c n l) T q U
      → y ≡ record { at = q.part.at; count = q.part.count; furthest = q.part.furthest; nest = m; status = q.part.status; first = a; parts = b; mark = d; from = h; to = q.part.to } → q.tried ≡ true → y.status ≡ Reading
      → Tried text w y.nest y.at (reached y)
  tried_outside l (ends e u f t) g i z =
      rw (g, f) (outer (omega (arith, l)) (t i (sym (ap (λ (p : Part). p.status) f) ∙ sym (ap (λ (p : Cursor). p.status) g) ∙ z)))

  -- ---- a statement that stands elsewhere too
  pub let_of : {k : ℕ} {p q : Cursor} {T U : List ℕ} → k ≡ (token_at w p.at).kind → k ≡ LET → Reads statement text w p T q U → Reads let_stmt text w p T q U
  let_of e f y =
      without_second e f tt (without_first e f tt (without_first e f tt (without_first e f tt (without_first e f tt (without_first e f tt (without_first e f tt (without_first e f tt y)))))))

  pub const_of : {k : ℕ} {p q : Cursor} {T U : List ℕ} → k ≡ (token_at w p.at).kind → k ≡ CONST → Reads statement text w p T q U → Reads const_def text w p T q U
  const_of e f y =
      without_second e f tt (without_first e f tt (without_first e f tt (without_first e f tt (without_first e f tt (without_first e f tt (without_first e f tt (without_first e f tt (without_first e f tt y))))))))

  -- the inside of a rule, read as a statement
  pub inside_as : {g : G} {r : R} {s : Cursor} {a : Part} {q : StmtPart} {i c n f : ℕ} {T U : List ℕ} → s ≡ begun i c n f → ((e : Cursor) → Reads g text w s T e U → Reads (body r) text w s T e U)
      → Ends g text w (begun i c n f) T q U → a ≡ q.part → Inside r text w i c n f T a U
  inside_as i l (ends e u f t) j = inside e (rw i at (l e (rw (← i) at u))) (j ∙ f)
