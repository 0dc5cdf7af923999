-- Readers that share a part among alternatives, or read one of two grammars that must agree. Assumes nothing.
use mathlib.Core.Path.{◌≡◌, refl, sym, ap, ◌∙◌}
use mathlib.Core.Bool.{Bool, cond}
use mathlib.Core.List.{List}
use Prim.Native.Nat.{ℕ}
use mathlib.Core.Logic.{◌⊎◌, inl, inr}
use native.Mathlib.Omega.{arith}
use lib.Dec.{T as Yes}
use borrow.Author.Tests.{eq-eqb, ne_eqb}
use Rattle.grammar.specs.Derive.{Input, Act, take, done, G, step, ◌&◌, ◌or◌, both, S, Out, got, none, yields, agree}
use Rattle.grammar.specs.Derive.{Derives, stepped, and_not, and_then, or_first, or_else}
use Rattle.grammar.specs.Derive.{Takes, here, and_left, and_right, or_left, or_right}
use Rattle.grammar.specs.Grammar.{body, nests}
use Rattle.grammar.proofs.Unique.{unique, apart, same}
use Rattle.grammar.proofs.Progress.{sane?, sane_of}
use Rattle.grammar.proofs.Whole.{solid, derives}
use Rattle.grammar.proofs.Total.{Some, some}
use Rattle.cursor.specs.Entries.{input}
use Rattle.cursor.specs.Read.{Attempt, reached, Result, matched, failed, exceeded, Reads, still, reads}
use Rattle.cursor.specs.Steps.{rewound, Agreed, agrees_not, agrees_else, agrees, shallow}
use Rattle.cursor.specs.declared.Cursor.{Cursor}
use Rattle.cursor.proofs.Attempts.{within_as, within_both, attempt_as, attempt_from, attempt_settled, attempt_and_not, attempt_and_then, attempt_or_else, attempt_both, attempt_step}
use Rattle.cursor.proofs.Attempts.{exceeds_by, exceeds_and_left, exceeds_and_right, exceeds_or_left, exceeds_or_right, exceeds_both}
use Rattle.cursor.proofs.Laws.{seen_as, represents_with, clash, status_as, kept, becomes, turned, instead, joined}
use Rattle.cursor.proofs.Steps.{halted}
pub use Rattle.cursor.proofs.Laws.{many_never, opt_never, and_never}
use Rattle.cursor.specs.declared.Status.TheVariants.{Reading, Failed, Deep}

-- ---- attempts put together otherwise
module _ {x : Input} where
  derives_assoc : {g h k : G} {s : S} {o : Out} → Derives body x ((g or h) or k) s o → Derives body x (g or (h or k)) s o
  derives_assoc (or_first (or_first d)) = or_first d
  derives_assoc (or_first (or_else d e)) = or_else d (or_first e)
  derives_assoc (or_else (or_else d e) f) = or_else d (or_else e f)

  takes_assoc : {g h k : G} {i m n : ℕ} {s : S} → Takes body x nests i m ((g or h) or k) n s → Takes body x nests i m (g or (h or k)) n s
  takes_assoc (or_left (or_left t)) = or_left t
  takes_assoc (or_left (or_right d t)) = or_right d (or_left t)
  takes_assoc (or_right (or_else d e) t) = or_right d (or_right e t)

  assoc_takes : {g h k : G} {i m n : ℕ} {s : S} → Takes body x nests i m (g or (h or k)) n s → Takes body x nests i m ((g or h) or k) n s
  assoc_takes (or_left t) = or_left (or_left t)
  assoc_takes (or_right d (or_left t)) = or_left (or_right d t)
  assoc_takes (or_right d (or_right e t)) = or_right (or_else d e) t

  -- what comes after a part fails if the part matches and the whole fails
  after_none : {a h : G} {s t : S} → Derives body x a s (got t) → Derives body x (a & h) s none → Derives body x h t none
  after_none d (and_not e) = apart (unique e d)
  after_none {h = h} d (and_then e f) = rw (same (unique e d)) at f

  moved : {a h : G} {i m n : ℕ} {s t u : S} → Derives body x a s (got t) → Derives body x a s (got u) → Takes body x nests i m h n u → Takes body x nests i m h n t
  moved d e y = rw (same (unique e d)) at y

  -- a part that both alternatives begin with
  derives_share : {a h k : G} {s t : S} {o : Out} → Derives body x a s (got t) → Derives body x (h or k) t o → Derives body x ((a & h) or (a & k)) s o
  derives_share d (or_first e) = or_first (and_then d e)
  derives_share d (or_else e f) = or_else (and_then d e) (and_then d f)

  takes_share : {a h k : G} {i m n : ℕ} {s t : S} → Derives body x a s (got t) → Takes body x nests i m (h or k) n t → Takes body x nests i m ((a & h) or (a & k)) n s
  takes_share d (or_left t) = or_left (and_right d t)
  takes_share d (or_right e t) = or_right (and_then d e) (and_right d t)

  share_cases : {a h k : G} {n : ℕ} {s t : S} → Derives body x a s (got t) → (i m : ℕ) → Takes body x nests i m ((a & h) or (a & k)) n s → Takes body x nests i m a n s ⊎ Takes body x nests i m (h or k) n t
  share_cases d i m (or_left (and_left t)) = inl t
  share_cases d i m (or_left (and_right e t)) = inr (or_left (moved d e t))
  share_cases d i m (or_right e (and_left t)) = inl t
  share_cases d i m (or_right e (and_right f t)) = inr (or_right (after_none d e) (moved d f t))

  -- a part that the first alternative begins with, and the second may
  derives_element : {a h k l : G} {s t : S} {o : Out} → ((u : S) → Derives body x k u none → ⊥) → Derives body x a s (got t) → Derives body x (h or (k & l)) t o
      → Derives body x ((a & h) or (((a & k) or step done) & l)) s o
  derives_element never d (or_first e) = or_first (and_then d e)
  derives_element {t = t} never d (or_else e (and_not f)) = absurd (never t f)
  derives_element never d (or_else e (and_then f g)) = or_else (and_then d e) (and_then (or_first (and_then d f)) g)

  takes_element : {a h k l : G} {i m n : ℕ} {s t : S} → Derives body x a s (got t) → Takes body x nests i m (h or (k & l)) n t → Takes body x nests i m ((a & h) or (((a & k) or step done) & l)) n s
  takes_element d (or_left t) = or_left (and_right d t)
  takes_element d (or_right e (and_left t)) = or_right (and_then d e) (and_left (or_left (and_right d t)))
  takes_element d (or_right e (and_right q t)) = or_right (and_then d e) (and_right (or_first (and_then d q)) t)

  element_cases : {a h k l : G} {n : ℕ} {s t : S} → ((u : S) → Derives body x k u none → ⊥) → Derives body x a s (got t) → (i m : ℕ) → Takes body x nests i m ((a & h) or (((a & k) or step done) & l)) n s
      → Takes body x nests i m a n s ⊎ Takes body x nests i m (h or (k & l)) n t
  element_cases never d i m (or_left (and_left t)) = inl t
  element_cases never d i m (or_left (and_right e t)) = inr (or_left (moved d e t))
  element_cases never d i m (or_right e (and_left (or_left (and_left t)))) = inl t
  element_cases never d i m (or_right e (and_left (or_left (and_right f t)))) = inr (or_right (after_none d e) (and_left (moved d f t)))
  element_cases never d i m (or_right e (and_left (or_right _ t))) = elim t [ ]
  element_cases never d i m (or_right e (and_right (or_first (and_then f g)) t)) = inr (or_right (after_none d e) (and_right (rw (same (unique f d)) at g) t))
  element_cases {t = t} never d i m (or_right e (and_right (or_else f g) y)) = absurd (never t (after_none d f))

-- ---- readers of them
module _ {text w : List ℕ} where
  pub regroup : {g h k : G} {p q : Cursor} {T U : List ℕ} → Reads ((g or h) or k) text w p T q U → Reads (g or (h or k)) text w p T q U
  regroup =
      turned (λ s v.
      becomes (λ o b c. record { derived = derives_assoc c.derived; within = within_as (λ i m. assoc_takes) (λ i m. takes_assoc) c.within }) (exceeds_by (λ i m l. takes_assoc)))

  -- two alternatives that begin alike: that part is read once
  pub share : {a h k : G} {p q r : Cursor} {T U W : List ℕ} → Reads a text w p T q U → Reads (h or k) text w q U r W → Reads ((a & h) or (a & k)) text w p T r W
  share =
      joined (record {
        fails = λ z s c. attempt_or_else (attempt_and_not c) (attempt_and_not (attempt_settled _ (omega arith) c));
        exceeds = λ s c. exceeds_or_left (exceeds_and_left c);
        joins =
            λ s t o c d.
            let e = c.derived in
            record { derived = derives_share e d.derived; within = within_both (share_cases e) (λ i m t. or_left (and_left t)) (λ i m. takes_share e) c.within d.within };
        over = λ s t d. exceeds_by (λ i m l. takes_share d);
      })

  -- the second may also do without it
  pub element : {a h k l : G} {p q r : Cursor} {T U W : List ℕ} → ((u : S) → Derives body (input text w) k u none → ⊥) → Reads a text w p T q U → (q.status ≡ Failed → ⊥) → Reads (h or (k & l)) text w q U r W
      → Reads ((a & h) or (((a & k) or step done) & l)) text w p T r W
  element never y f =
      joined (record {
        fails = λ z s c. absurd (f z);
        exceeds = λ s c. exceeds_or_left (exceeds_and_left c);
        joins =
            λ s t o c d.
            let e = c.derived in
            record { derived = derives_element never e d.derived; within = within_both (element_cases never e) (λ i m t. or_left (and_left t)) (λ i m. takes_element e) c.within d.within };
        over = λ s t d. exceeds_by (λ i m l. takes_element d);
      }) y

  pub no_element : {a h k l : G} {p p' q r : Cursor} {T U W : List ℕ} → Reads a text w p T q U → q.status ≡ Failed → p' ≡ rewound p q → Reads l text w p' U r W
      → Reads ((a & h) or (((a & k) or step done) & l)) text w p T r W
  unfolding yields
  no_element =
      instead (λ s b c.
      becomes
      (λ o e d. attempt_or_else (attempt_and_not c) (attempt_and_then (attempt_or_else (attempt_and_not (attempt_settled b (omega arith) c)) (attempt_step tt)) d))
      (λ d. exceeds_or_right (and_not c.derived) (exceeds_and_right (or_else (and_not c.derived) stepped) d)))

-- ---- two grammars that have to agree
agree_none : (q : Out) → agree none q ≡ none
unfolding agree
agree_none (got t) = refl
agree_none none = refl

-- tokens that are taken by steps alone are taken at the nest that they are tried at
pub data Flat : G → Type 0 where
  one : {k : ℕ} {a : Act} → Flat (step (take k a))
  two : {g h : G} → Flat g → Flat h → Flat (g & h)

flat : {x : Input} {g : G} {i m n : ℕ} {s : S} → Flat g → Takes body x nests i m g n s → m ≡ n
flat one (here e f h) = sym h
flat (two p q) (and_left t) = flat p t
flat (two p q) (and_right d t) = flat q t

module _ {text w : List ℕ} where
  pub both_not : {g h : G} {p e : Cursor} {T U : List ℕ} → Yes (sane? solid h) → Reads g text w p T e U → (e.status ≡ Reading → ⊥) → Reads (both g h) text w p T e U
  both_not {g} {h} y u f =
      turned (λ s v. record { matches = λ z t b c. absurd (f z); fails = λ z b c. with_second c (derives (input text w) h s (sane_of solid h y)); exceeds = exceeds_both }) u
    where
      with_second : {n : ℕ} {s : S} {a b : ℕ} → Attempt (input text w) g n s none a b → Some body (input text w) h s → Attempt (input text w) (both g h) n s none a b
      with_second c (some {o = q} d) = attempt_as (agree_none q) (attempt_both c d)

  -- the second is read at nest 0, as only the first's tokens count
  pub both_read : {g h : G} {p p₀ e q r : Cursor} {T U W : List ℕ} → Flat h → Reads g text w p T e U → e.status ≡ Reading → p₀ ≡ shallow p → Reads h text w p₀ U q W → Agreed p.nest e q r
      → Reads (both g h) text w p T r W
  unfolding agree
  both_read j (still n i m f) o k y a = absurd (n (sym i ∙ o))
  both_read j (reads z l) o k (still n i m f) a = absurd (n (rw k z))
  both_read {g} {h} {p} {p₀} {e} {q} {r} {T} {U} {W} j (reads z l) o k (reads z' l') a = reads z (λ s v. go (l s v) (rw k at (l' s (rw k (represents_with p.furthest 0 v)))) a)
    where
      go : {s : S} → Result g text w p s T e U → Result h text w (shallow p) s U q W → Agreed p.nest e q r → Result (both g h) text w p s T r W
      go (failed z c f) y a = clash Failed Reading z o (omega arith)
      go (exceeded z c) y a = clash Deep Reading z o (omega arith)
      go (matched t z n v c f) (matched u z₁ n₁ v₁ c₁ f₁) (agrees_not j i) = absurd (j z₁)
      go (matched t z n v c f) (matched u z₁ n₁ v₁ c₁ f₁) (agrees_else j i m) =
          let m' = halted o m in
          failed
          (status_as m' refl)
          (attempt_from refl (sym (ap reached m')) (attempt_as (ap (λ (d : Bool). cond d (got u) none) (ne_eqb _ _ (λ q. i (v.at ∙ q ∙ sym v₁.at)))) (attempt_both c c₁.derived)))
          (λ H. kept c₁.derived (f₁ (kept c.derived (f H))))
      go (matched t z n v c f) (matched u z₁ n₁ v₁ c₁ f₁) (agrees j i m) =
          matched
          u
          (status_as m z₁)
          (ap (λ (r : Cursor). r.nest) m)
          (seen_as m (represents_with e.furthest p.nest v₁))
          (attempt_from refl (omega (arith, i, ap reached m)) (attempt_as (ap (λ (d : Bool). cond d (got u) none) (eq-eqb _ _ (sym v.at ∙ i ∙ v₁.at))) (attempt_both c c₁.derived)))
          (λ H. f₁ (kept c.derived (f H)))
      go (matched t z n v c f) (failed z₁ c₁ f₁) (agrees_not j i) =
          let i' = halted o i in
          failed (status_as i' z₁) (attempt_from refl (sym (ap reached i')) (attempt_both c c₁.derived)) (λ H. f₁ (kept c.derived (f H)))
      go (matched t z n v c f) (failed z₁ c₁ f₁) (agrees_else j i m) = clash Failed Reading z₁ j (omega arith)
      go (matched t z n v c f) (failed z₁ c₁ f₁) (agrees j i m) = clash Failed Reading z₁ j (omega arith)
      go (matched t z n v c f) (exceeded z₁ c₁) a = let y : c₁.nest ≡ 0 = flat j c₁.takes in absurd (omega (arith, c₁.above))
