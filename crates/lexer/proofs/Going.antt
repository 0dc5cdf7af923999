-- One step through a text, and how far the way has come: the loop's invariant and its turns. Assumes nothing.
use mathlib.Core.Path.{◌≡◌, refl, sym, ap, ap₂, subst, ◌∙◌}
use mathlib.Core.Bool.{Bool, true, false, cond, ◌&&◌, false≢true}
use mathlib.Core.List.{List, [], ◌∷◌, ◌++◌, append_assoc, append-nil}
use Rattle.std.specs.Prelude.{Result, Ok, Err, IsErr, IsErrAnd, IfErr, is_err}
use Prim.Native.Nat.{ℕ, zero, suc, ◌+◌, ◌≤◌, ◌<◌, zero-le}
use native.Mathlib.Numerals.{add-one}
use native.Mathlib.Omega.{arith}
use lib.Dec.{lit<, eqb}
use lib.ListN.{length, take, drop, get_or, length-append, length-drop, drop_of_length-le}
use lib.Seq.{drop-drop, drop-cons}
use Rattle.tables.specs.Tables.{Token, Diagnostic, encode_token, encode_diagnostic, laid, stored, kept, cleared}
use Rattle.tables.proofs.Laws.{laid_length, laid_none, laid_more, laid_kept, token_size, diagnostic_size, cleared_all}
use Rattle.tables.specs.Suffix.{unknown_numerals}
use Rattle.tables.proofs.Suffix.{one_more}
use Rattle.patterns.specs.Bytes.{in_set, white, run}
use Rattle.patterns.proofs.Runs.{run_within}
use Rattle.utf8.specs.Utf8.{Rest}
use Rattle.utf8.proofs.Laws.{rest_none, rest_char, rest_more, rest_end, next_ascii}
use Rattle.numeral.specs.Entry.{reason_of}
use Rattle.numeral.specs.Numeral.{base_code, numeral_of}
use Rattle.numeral.specs.declared.NumberLiteral.{NumberLiteral}
use Rattle.numeral.specs.declared.NumberParseError.{NumberParseError}
use Rattle.lexer.specs.Classes.{class_of}
use Rattle.lexer.specs.Lexes.{Item, skipped, token, error, item_of, Step, matched, strange, tokens, errors, Lexes, done, step}
use Rattle.lexer.specs.Answers.{lexed, ResultIs, too_long, not_utf8, lexes, LexedIs, zeros}
use Rattle.lexer.specs.Scans.{Scanned, Reaches, Stepped, Refused}
use Rattle.lexer.specs.declared.scan.Found.{Found}
use Rattle.lexer.specs.declared.lexing.Item as declared
use Rattle.lexer.specs.declared.lexing.Item.TheVariants as Item
use Rattle.lexer.specs.declared.lexing.Lexed.{Lexed}
use Rattle.lexer.specs.declared.lexing.TextError.{TextError}
use Rattle.lexer.specs.declared.scan.NotUtf8.{NotUtf8}
use denote.Enum.Declared.{tag_of}
use denote.Enum.Bare.{sameb}
use mir.Val.{bool_byte}
use Rattle.tables.specs.contracts.entry_codes.Reason.{the_type}
use Rattle.tables.specs.contracts.entry_codes.Suffix.{the_type as suffixes}
use Rattle.tables.specs.declared.entry_codes.Suffix.{Suffix}
use Rattle.tables.specs.Codes.{suffix_code, reason_code}
use Rattle.tables.specs.declared.entry_codes.Reason.{Reason}
use Rattle.lexer.proofs.Leads.{best_white}
use Rattle.lexer.proofs.Determined.{step_some, step_one}
use Rattle.lexer.proofs.Scans.{run_first, white_ascii, class_white}

-- ---- one step
-- what was found is f, here g
found_at : {s : List ℕ} {f g : Found} → Scanned s (Ok f) → f ≡ g → Scanned s (Ok g)
found_at {s} i q = subst (λ (f : Found). Scanned s (Ok f)) q i

-- a numeral that says no number
error_is : (g : NumberParseError) → item_of 1 (Err g) ≡ error (reason_code (reason_of g))
error_is NumberParseError.Overflow = refl
error_is NumberParseError.InvalidFormat = refl

module _ {text s : List ℕ} {at : ℕ} (h : at ≤ length text) (e : s ≡ drop at text) where
  reaches : {n : ℕ} {j : Item} → Step s n j → Rest s n → Reaches text at n j
  reaches {n} st r =
      let k = step_some st in
      record { past = omega (arith, k); inside = omega (arith, k, ap length e, length-drop at text); step = rw e at st; rest = rw e at r }

  pub skip_step : {f : Found} {n : ℕ} → Scanned s (Ok f) → f ≡ Found.Skip n → Stepped text at (Ok (Item.Skipped, n))
  skip_step {f} {n} i q = go (found_at i q)
    where
      go : Scanned s (Ok (Found.Skip n)) → Stepped text at (Ok (Item.Skipped, n))
      go (Scanned.skip b r) = Stepped.skipped (reaches (matched 0 b refl) r)

  pub token_step : {f : Found} {k n : ℕ} → Scanned s (Ok f) → f ≡ Found.Token k n → Stepped text at (Ok (Item.Token k, n))
  token_step {f} {k} {n} i q = go (found_at i q)
    where
      plain : (k : ℕ) (a : Result NumberLiteral NumberParseError) → 2 ≤ k → token k 0 0 0 ≡ item_of k a
      plain zero a h = absurd (omega arith)
      plain (suc zero) a h = absurd (omega arith)
      plain (suc (suc k)) a h = refl

      go : Scanned s (Ok (Found.Token k n)) → Stepped text at (Ok (Item.Token k, n))
      go (Scanned.token h b r) = Stepped.token (reaches (matched k b (plain k (numeral_of (take n s)) h)) r)

  pub strange_step : {f : Found} {n : ℕ} → Scanned s (Ok f) → f ≡ Found.Strange n → Stepped text at (Ok (Item.Error Reason.Character, n))
  strange_step {f} {n} i q = go (found_at i q)
    where
      go : Scanned s (Ok (Found.Strange n)) → Stepped text at (Ok (Item.Error Reason.Character, n))
      go (Scanned.strange {c} t b) = Stepped.error (reaches (strange c t b refl) (rest_char b))

  pub broken_step : {r : Result Found NotUtf8} {n : NotUtf8} → Scanned s r → r ≡ Err n → (x : Result (declared.Item × ℕ) NotUtf8) → IsErr x → Stepped text at x
  broken_step {r} {n} i z x w = go (subst (Scanned s) z i) x w
    where
      go : Scanned s (Err n) → (x : Result (declared.Item × ℕ) NotUtf8) → IsErr x → Stepped text at x
      go (Scanned.broken u) (Err f) w = Stepped.broken (rw e at u)
      go (Scanned.broken u) (Ok f) w = absurd (false≢true w)

  module _ {f : Found} {a : Result NumberLiteral NumberParseError} {n : ℕ} (i : Scanned s (Ok f)) (p : f ≡ Found.Number a n) where
    number_step : (j : Item) → item_of 1 a ≡ j → Reaches text at n j
    number_step j w = go (found_at i p)
      where
        go : Scanned s (Ok (Found.Number a n)) → Reaches text at n j
        go (Scanned.number b r q) = reaches (matched 1 b (sym w ∙ ap (item_of 1) q)) r

    pub literal_step : {l : NumberLiteral} → a ≡ Ok l → Stepped text at (Ok (Item.Literal l, n))
    literal_step w = Stepped.literal (number_step _ (ap (item_of 1) w))

    pub error_step : {g : NumberParseError} {r : Reason} → a ≡ Err g → r ≡ reason_of g → Stepped text at (Ok (Item.Error r, n))
    error_step {g} {r} w z = subst (λ (q : Reason). Stepped text at (Ok (Item.Error q, n))) (sym z) (Stepped.error (number_step _ (ap (item_of 1) w ∙ error_is g)))

-- ---- white space, byte by byte: a way from the byte after one is a way from that byte, since the longest run is one step
white_step : (s : List ℕ) → 1 ≤ length s → in_set white (get_or s 0 0) ≡ true → Step s (run (in_set white) s) skipped
white_step s h w = matched 0 (best_white s h w) refl

past_white : {e : ℕ} {s : List ℕ} {us : List Token} {gs : List Diagnostic} (r : ℕ) → r ≡ run (in_set white) s → 1 ≤ r → Lexes e s us gs → Lexes (e + r) (drop r s) us gs
past_white r q h done = absurd (omega (arith, run_within (in_set white) []))
past_white {e} {s} r q h (step {ts = ts} {ds = ds} n i st l) =
    let f = run_first (in_set white) s (omega arith) in
    let u = step_one st (white_step s f.0 f.1) in
    subst (λ (j : Item). Lexes (e + r) (drop r s) (tokens j e (e + n) ts) (errors j e (e + n) ds)) (sym u.1)
    (subst (λ (k : ℕ). Lexes (e + k) (drop k s) ts ds) (u.0 ∙ sym q) l)

white_on : {at b : ℕ} {s : List ℕ} {us : List Token} {gs : List Diagnostic} → in_set white b ≡ true → Lexes (at + 1) s us gs → Lexes at (b ∷ s) us gs
unfolding run
white_on {at} {b} {s} {us} {gs} w l =
    let e : run (in_set white) (b ∷ s) ≡ suc (run (in_set white) s) = rw w in
    step (suc (run (in_set white) s)) skipped (subst (λ (n : ℕ). Step (b ∷ s) n skipped) e (white_step (b ∷ s) (omega arith) w)) (go (run (in_set white) s) refl)
  where
    go : (r : ℕ) → r ≡ run (in_set white) s → Lexes (at + suc r) (drop (suc r) (b ∷ s)) us gs
    go zero q = l
    go (suc r) q =
        let e : (at + 1) + suc r ≡ at + suc (suc r) = omega arith in
        subst (λ (k : ℕ). Lexes k (drop (suc r) s) us gs) e (past_white (suc r) q (omega arith) l)

-- ---- the way so far: at the place `at` of the text, nt tokens, of which nu have an unknown suffix, and nd errors are put down in tables that were a₀ and b₀
pub record Going (text a₀ b₀ a b : List ℕ) (at nt nu nd : ℕ) : Type 0 where
  pub short : length text ≤ 65535
  pub inside : at ≤ length text
  pub rest : Rest text at
  pub few_tokens : nt ≤ at
  pub few_unknown : nu ≤ at
  pub few_errors : nd ≤ at
  pub ts : List Token
  pub ds : List Diagnostic
  pub token_count : nt ≡ length ts
  pub unknown_count : nu ≡ length (unknown_numerals ts)
  pub error_count : nd ≡ length ds
  pub table_of_tokens : a ≡ laid 16 encode_token a₀ ts
  pub error_table : b ≡ laid 8 encode_diagnostic b₀ ds
  pub goes_on : (us : List Token) (gs : List Diagnostic) → Lexes at (drop at text) us gs → Lexes 0 text (ts ++ us) (ds ++ gs)

-- how far an item reaches
pub turned : {text : List ℕ} {at n : ℕ} {i : declared.Item} → Stepped text at (Ok (i, n)) → (1 ≤ n) × (at + n ≤ length text)
turned (Stepped.skipped r) = (r.past, r.inside)
turned (Stepped.token r) = (r.past, r.inside)
turned (Stepped.literal r) = (r.past, r.inside)
turned (Stepped.error r) = (r.past, r.inside)

-- what stands there is j, here i
step_at : {text : List ℕ} {at n : ℕ} {j i : declared.Item} → Stepped text at (Ok (j, n)) → j ≡ i → Stepped text at (Ok (i, n))
step_at {text} {at} {n} w q = subst (λ (i : declared.Item). Stepped text at (Ok (i, n))) q w

-- a token more, and an error more
more_tokens : (a₀ : List ℕ) (ts : List Token) (t : Token) → stored 16 (laid 16 encode_token a₀ ts) (length ts) (encode_token t) ≡ laid 16 encode_token a₀ (ts ++ (t ∷ []))
more_tokens = laid_more encode_token 16 (lit< tt) token_size

more_errors : (b₀ : List ℕ) (ds : List Diagnostic) (d : Diagnostic) → stored 8 (laid 8 encode_diagnostic b₀ ds) (length ds) (encode_diagnostic d) ≡ laid 8 encode_diagnostic b₀ (ds ++ (d ∷ []))
more_errors = laid_more encode_diagnostic 8 (lit< tt) diagnostic_size

-- reasons and suffixes as numbers
pub reason_is : (q : Reason) → tag_of the_type q + 1 ≡ reason_code q
reason_is Reason.Character = refl
reason_is Reason.Overflow = refl
reason_is Reason.Format = refl
reason_is Reason.UnknownSuffix = refl
reason_is Reason.Stopped = refl

pub suffix_is : (q : Suffix) → tag_of suffixes q ≡ suffix_code q
suffix_is Suffix.Absent = refl
suffix_is Suffix.Felt = refl
suffix_is Suffix.U32 = refl
suffix_is Suffix.Other = refl

-- the test for a suffix that is neither felt nor u32, as a number
pub other_is : (q : Suffix) → bool_byte (sameb suffixes q Suffix.Other) ≡ cond (eqb (suffix_code q) 3) 1 0
other_is Suffix.Absent = refl
other_is Suffix.Felt = refl
other_is Suffix.U32 = refl
other_is Suffix.Other = refl

one_most : (c : Bool) → cond c 1 0 ≤ 1
one_most true = omega arith
one_most false = zero-le

module _ {text a₀ b₀ : List ℕ} where
  pub going_none : length text ≤ 65535 → Going text a₀ b₀ a₀ b₀ 0 0 0 0
  going_none h =
      record {
        short = h;
        inside = zero-le;
        rest = rest_none;
        few_tokens = zero-le;
        few_unknown = zero-le;
        few_errors = zero-le;
        ts = [];
        ds = [];
        token_count = refl;
        unknown_count = refl;
        error_count = refl;
        table_of_tokens = sym (laid_none encode_token 16 (lit< tt) token_size a₀);
        error_table = sym (laid_none encode_diagnostic 8 (lit< tt) diagnostic_size b₀);
        goes_on = λ us gs l. l;
      }

  module _ {a b : List ℕ} {at nt nu nd : ℕ} (g : Going text a₀ b₀ a b at nt nu nd) where
    token_length : length a ≡ length a₀
    token_length = ap length g.table_of_tokens ∙ laid_length encode_token 16 (lit< tt) token_size a₀ g.ts

    error_length : length b ≡ length b₀
    error_length = ap length g.error_table ∙ laid_length encode_diagnostic 8 (lit< tt) diagnostic_size b₀ g.ds

    pub same_tokens : (l : List ℕ) → length l ≡ length a → length l ≡ length a₀
    same_tokens l e = e ∙ token_length

    pub same_errors : (l : List ℕ) → length l ≡ length b → length l ≡ length b₀
    same_errors l e = e ∙ error_length

    rest_on : {n : ℕ} {i : Item} → Reaches text at n i → Rest text (at + n)
    rest_on r = rest_more g.rest r.rest

    lexes_on : {n : ℕ} {i : Item} → Reaches text at n i → (us : List Token) (gs : List Diagnostic) → Lexes (at + n) (drop (at + n) text) us gs → Lexes at (drop at text) (tokens i at (at + n) us) (errors i at (at + n) gs)
    lexes_on {n} {i} r us gs l = step n i r.step (subst (λ (s : List ℕ). Lexes (at + n) s us gs) (sym (drop-drop n at text)) l)

    -- nothing is put down on the way to the place m
    going_past : {m : ℕ} → at ≤ m → m ≤ length text → Rest text m → ((us : List Token) (gs : List Diagnostic) → Lexes m (drop m text) us gs → Lexes at (drop at text) us gs) → Going text a₀ b₀ a b m nt nu nd
    going_past h k r f =
        record {
          short = g.short;
          inside = k;
          rest = r;
          few_tokens = omega (arith, g.few_tokens);
          few_unknown = omega (arith, g.few_unknown);
          few_errors = omega (arith, g.few_errors);
          ts = g.ts;
          ds = g.ds;
          token_count = g.token_count;
          unknown_count = g.unknown_count;
          error_count = g.error_count;
          table_of_tokens = g.table_of_tokens;
          error_table = g.error_table;
          goes_on = λ us gs l. g.goes_on us gs (f us gs l);
        }

    pub going_skipped : {j : declared.Item} {n : ℕ} → Stepped text at (Ok (j, n)) → j ≡ Item.Skipped → Going text a₀ b₀ a b (at + n) nt nu nd
    going_skipped {j} {n} w q = go (step_at w q)
      where
        go : Stepped text at (Ok (Item.Skipped, n)) → Going text a₀ b₀ a b (at + n) nt nu nd
        go (Stepped.skipped r) = going_past (omega (arith, r.past)) r.inside (rest_on r) (lexes_on r)

    pub going_white : {c : ℕ} → c ≡ class_of (get_or text at 0) → at < length text → get_or text at 0 < 256 → c ≡ 1 → Going text a₀ b₀ a b (at + 1) nt nu nd
    going_white r h k c =
        let w = class_white text at r k c in
        going_past (omega arith) (omega arith) (next_ascii g.rest h (white_ascii _ w))
        (λ us gs l. rw (drop-cons text at 0 h) (white_on w (subst (λ (k : ℕ). Lexes (at + 1) (drop k text) us gs) (add-one at) l)))

    -- any token
    going_more : {a' : List ℕ} {n k x y v mu : ℕ} → Reaches text at n (token k x y v) → mu ≡ nu + cond (eqb k 1 && eqb x 3) 1 0
        → a' ≡ stored 16 a nt (encode_token (record { kind = k; suffix = x; start = at; end = at + n; base = y; value = v })) → Going text a₀ b₀ a' b (at + n) (nt + 1) mu nd
    going_more {n = n} {k} {x} {y} {v} r u f =
        let t : Token = record { kind = k; suffix = x; start = at; end = at + n; base = y; value = v } in
        record {
          short = g.short;
          inside = r.inside;
          rest = rest_on r;
          few_tokens = omega (arith, r.past, g.few_tokens);
          few_unknown = omega (arith, r.past, g.few_unknown, u, one_most (eqb k 1 && eqb x 3));
          few_errors = omega (arith, r.past, g.few_errors);
          ts = g.ts ++ (t ∷ []);
          ds = g.ds;
          token_count = omega (arith, g.token_count, length-append g.ts (t ∷ []));
          unknown_count = omega (arith, u, g.unknown_count, one_more g.ts t);
          error_count = g.error_count;
          table_of_tokens = f ∙ ap₂ (λ (l : List ℕ) (j : ℕ). stored 16 l j (encode_token t)) g.table_of_tokens g.token_count ∙ more_tokens a₀ g.ts t;
          error_table = g.error_table;
          goes_on = λ us gs l.
              subst (λ (q : List Token). Lexes 0 text q (g.ds ++ gs)) (sym (append_assoc g.ts (t ∷ []) us)) (g.goes_on (t ∷ us) gs (lexes_on r us gs l));
        }

    pub going_token : {a' : List ℕ} {j : declared.Item} {n k x c v : ℕ} → Stepped text at (Ok (j, n)) → j ≡ Item.Token k
        → a' ≡ stored 16 a nt (encode_token (record { kind = k; suffix = x; start = at; end = at + n; base = c; value = v })) → x ≡ 0 → c ≡ 0 → v ≡ 0 → Going text a₀ b₀ a' b (at + n) (nt + 1) nu nd
    going_token {a'} {j} {n} {k} w q f x y z = go (step_at w q) (rw (x, y, z) at f)
      where
        none : (c : Bool) → nu ≡ nu + cond (c && false) 1 0
        none true = omega arith
        none false = omega arith

        go : Stepped text at (Ok (Item.Token k, n)) → a' ≡ stored 16 a nt (encode_token (record { kind = k; suffix = 0; start = at; end = at + n; base = 0; value = 0 })) → Going text a₀ b₀ a' b (at + n) (nt + 1) nu nd
        go (Stepped.token r) f = going_more r (none (eqb k 1)) f

    pub going_literal : {a' : List ℕ} {j : declared.Item} {n x o c : ℕ} {l : NumberLiteral} → Stepped text at (Ok (j, n)) → j ≡ Item.Literal l
        → a' ≡ stored 16 a nt (encode_token (record { kind = 1; suffix = x; start = at; end = at + n; base = c; value = l.value })) → x ≡ suffix_code l.suffix → c ≡ base_code l.base → o ≡ bool_byte (sameb suffixes l.suffix Suffix.Other) → Going text a₀ b₀ a' b (at + n) (nt + 1) (nu + o) nd
    going_literal {a'} {j} {n} {x} {o} {c} {l} w q f z y u = go (step_at w q) (rw (z, y) at f)
      where
        go : Stepped text at (Ok (Item.Literal l, n)) → a' ≡ stored 16 a nt (encode_token (record { kind = 1; suffix = suffix_code l.suffix; start = at; end = at + n; base = base_code l.base; value = l.value }))
            → Going text a₀ b₀ a' b (at + n) (nt + 1) (nu + o) nd
        go (Stepped.literal r) f = going_more r (ap (nu +◌) (u ∙ other_is l.suffix)) f

    pub going_error : {b' : List ℕ} {j : declared.Item} {n c : ℕ} {q : Reason} → Stepped text at (Ok (j, n)) → j ≡ Item.Error q → c ≡ reason_code q
        → b' ≡ stored 8 b nd (encode_diagnostic (record { start = at; end = at + n; reason = c })) → Going text a₀ b₀ a b' (at + n) nt nu (nd + 1)
    going_error {b'} {j} {n} {c} {q} w p z f = go (step_at w p) (rw z at f)
      where
        d : Diagnostic
        d = record { start = at; end = at + n; reason = reason_code q }

        go : Stepped text at (Ok (Item.Error q, n)) → b' ≡ stored 8 b nd (encode_diagnostic d) → Going text a₀ b₀ a b' (at + n) nt nu (nd + 1)
        go (Stepped.error r) f =
            record {
              short = g.short;
              inside = r.inside;
              rest = rest_on r;
              few_tokens = omega (arith, r.past, g.few_tokens);
              few_unknown = omega (arith, r.past, g.few_unknown);
              few_errors = omega (arith, r.past, g.few_errors);
              ts = g.ts;
              ds = g.ds ++ (d ∷ []);
              token_count = g.token_count;
              unknown_count = g.unknown_count;
              error_count = omega (arith, g.error_count, length-append g.ds (d ∷ []));
              table_of_tokens = g.table_of_tokens;
              error_table = f ∙ ap₂ (λ (l : List ℕ) (j : ℕ). stored 8 l j (encode_diagnostic d)) g.error_table g.error_count ∙ more_errors b₀ g.ds d;
              goes_on = λ us gs l.
                  subst (λ (q : List Diagnostic). Lexes 0 text (g.ts ++ us) q) (sym (append_assoc g.ds (d ∷ []) gs)) (g.goes_on us (d ∷ gs) (lexes_on r us gs l));
            }

    -- the ends
    module _ {a' b' : List ℕ} where
      pub going_done : length text ≤ at → a' ≡ kept 16 nt a → b' ≡ kept 8 nd b → LexedIs text (length a₀) (length b₀) a' b' (Ok (record { tokens = nt; unknown = nu; diagnostics = nd }))
      going_done h p q =
          let all = g.goes_on [] [] (subst (λ (l : List ℕ). Lexes at l [] []) (sym (drop_of_length-le text h)) done) in
          record {
            result = Ok (lexed g.ts g.ds);
            is = lexes g.short (rest_end h g.rest) (simp append-nil at all);
            answer = rw (g.token_count, g.unknown_count, g.error_count);
            tokens = p ∙ ap₂ (kept 16) g.token_count g.table_of_tokens ∙ laid_kept encode_token 16 (lit< tt) token_size a₀ g.ts;
            diagnostics = q ∙ ap₂ (kept 8) g.error_count g.error_table ∙ laid_kept encode_diagnostic 8 (lit< tt) diagnostic_size b₀ g.ds;
          }

    pub going_broken : {r : Result (declared.Item × ℕ) NotUtf8} {n : NotUtf8} → Stepped text at r → r ≡ Err n → (x : Result Lexed TextError) → IsErrAnd x (λ e. e ≡ TextError.Encoding) → IfErr x (λ e. Refused text e)
    going_broken {r} {n} w z x h = go (subst (Stepped text at) z w) x h
      where
        go : Stepped text at (Err n) → (x : Result Lexed TextError) → IsErrAnd x (λ e. e ≡ TextError.Encoding) → IfErr x (λ e. Refused text e)
        go (Stepped.broken u) (Err e) h = subst (Refused text) (sym h) (Refused.not_utf8 g.short (λ v. u (g.rest.there v)))
        go (Stepped.broken u) (Ok l) h = absurd h

-- ---- what is refused leaves no entry
refused_is : {text : List ℕ} {e : TextError} → Refused text e → ResultIs text (Err e)
refused_is (Refused.too_long h) = too_long h
refused_is (Refused.not_utf8 h u) = not_utf8 h u

module _ (text a₀ b₀ a b : List ℕ) {a' b' : List ℕ} (p : a' ≡ cleared 0 a) (q : b' ≡ cleared 0 b) (l : length a ≡ length a₀) (m : length b ≡ length b₀) where
  pub cleared_after : (r : Result Lexed TextError) → is_err r ≡ true → IfErr r (λ e. Refused text e) → LexedIs text (length a₀) (length b₀) a' b' r
  cleared_after (Ok x) t h = absurd (false≢true t)
  cleared_after (Err e) t h =
      record { result = Err e; is = refused_is h; answer = refl; tokens = p ∙ cleared_all a ∙ ap zeros l; diagnostics = q ∙ cleared_all b ∙ ap zeros m }
