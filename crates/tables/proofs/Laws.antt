-- Tables that are filled entry by entry, over the entry's size. Assumes nothing.
use mathlib.Core.Path.{◌≡◌, refl, sym, ap, ap₂, subst, ◌∙◌}
use mathlib.Core.List.{List, [], ◌∷◌, ◌++◌, append_assoc, append-nil}
use Prim.Native.Nat.{ℕ, zero, suc, ◌+◌, ◌-◌, ◌*◌, ◌/◌, ◌%◌, ◌^◌, ◌≤◌, ◌<◌, min, zero-le}
use native.Mathlib.Nat.{zero-mul, suc-mul, add_comm, add-zero, add-suc, suc-add, sub-zero, div-zero, mod-add-div, div-div-eq-div-mul, mul-le-mul_right, le-div_iff_mul-le, le_refl}
use native.Mathlib.Omega.{arith}
use native.Mathlib.Decide.{dec_lt}
use lib.ListN.{length, get_or, take, drop, set, replicate, length-append, length-take, length-drop, length-replicate, get_or-eq_default}
use lib.Seq.{take-nil, take_all, take-append-le, take-append-add, drop-append-add, take_at, drop_at, drop-drop, sets, sets-eq, get_or-take, get_or-drop, ext_get_or}
use borrow.Author.Tests.{lt-ltb, le-ltb}
use Rattle.tables.specs.Tables.{Token, Node, Diagnostic, le16, le64, encode_token, encode_node, encode_diagnostic, joined, filled, table, laid, stored, cleared, kept, number, entry_at, decode_token, decode_node, decode_diagnostic, token_at, node_at, diagnostic_at, token_table, node_table, diagnostic_table, tabulate, tokens_of}

abbrev zeros : ℕ → List ℕ
zeros n = replicate n 0

-- ---- an entry's bytes
pub sets_append : (l : List ℕ) (i : ℕ) (u v : List ℕ) → sets (sets l i u) (i + length u) v ≡ sets l i (u ++ v)
sets_append l i [] v = ap (λ (k : ℕ). sets l k v) (add-zero i)
sets_append l i (a ∷ u) v =
    ap (λ (k : ℕ). sets (sets (set l i a) (suc i) u) k v) (add-suc i (length u) ∙ sym (suc-add i (length u))) ∙ sets_append (set l i a) (suc i) u v

pub eight : {a b c d e f g h a' b' c' d' e' f' g' h' : ℕ} → a ≡ a' → b ≡ b' → c ≡ c' → d ≡ d' → e ≡ e' → f ≡ f' → g ≡ g' → h ≡ h'
    → ◌≡◌ {A = List ℕ} (a ∷ b ∷ c ∷ d ∷ e ∷ f ∷ g ∷ h ∷ []) (a' ∷ b' ∷ c' ∷ d' ∷ e' ∷ f' ∷ g' ∷ h' ∷ [])
eight p q r s t u v w = cc

pub stored_none : (w : ℕ) (t : List ℕ) (i : ℕ) (b : List ℕ) → length t / w ≤ i → t ≡ stored w t i b
unfolding stored
stored_none w t i b h = sym (rw (le-ltb i (length t / w) h))

module _ (t : List ℕ) (i : ℕ) {t' : List ℕ} where
  pub stored_some : (w : ℕ) (b : List ℕ) → i < length t / w → t' ≡ sets t (i * w) b → t' ≡ stored w t i b
  unfolding stored
  stored_some w b h e = e ∙ sym (rw (lt-ltb i (length t / w) h))

-- ---- a table with its first entries laid over what it had
take_zeros : (k n : ℕ) → k ≤ n → take k (zeros n) ≡ zeros k
take_zeros zero n h = refl
take_zeros (suc k) zero h = absurd (omega arith)
take_zeros (suc k) (suc n) h = ap (λ (l : List ℕ). 0 ∷ l) (take_zeros k n (omega arith))

pub filled_is : (n : ℕ) (b : List ℕ) → length b ≤ n → filled n b ≡ b ++ zeros (n - length b)
unfolding filled
filled_is n b h =
    let e : n ≡ length b + (n - length b) = omega arith in
    ap (λ (m : ℕ). take m (b ++ zeros n)) e ∙ take-append-add b (zeros n) (n - length b) ∙ ap (λ (l : List ℕ). b ++ l) (take_zeros (n - length b) n (omega arith))

joined_append : {A : Type 0} (f : A → List ℕ) (l m : List A) → joined f (l ++ m) ≡ joined f l ++ joined f m
unfolding joined
joined_append f [] m = refl
joined_append f (a ∷ l) m = ap (λ (x : List ℕ). f a ++ x) (joined_append f l m) ∙ sym (append_assoc (f a) (joined f l) (joined f m))

pub joined_snoc : {A : Type 0} (f : A → List ℕ) (l : List A) (a : A) → joined f (l ++ (a ∷ [])) ≡ joined f l ++ f a
unfolding joined
joined_snoc f l a = joined_append f l (a ∷ []) ∙ ap (λ (x : List ℕ). joined f l ++ x) (append-nil (f a))

pub joined_length : {A : Type 0} (f : A → List ℕ) (w : ℕ) → ((a : A) → length (f a) ≡ w) → (l : List A) → length (joined f l) ≡ length l * w
unfolding joined
joined_length f w h [] = sym (zero-mul w)
joined_length f w h (a ∷ l) = length-append (f a) (joined f l) ∙ ap₂ ◌+◌ (h a) (joined_length f w h l) ∙ add_comm w (length l * w) ∙ sym (suc-mul (length l) w)

in_room : {A : Type 0} (f : A → List ℕ) (w : ℕ) → 0 < w → ((a : A) → length (f a) ≡ w) → (n : ℕ) (l : List A) → length (joined f (take (n / w) l)) ≤ n
in_room f w some_size each n l =
    subst (λ (m : ℕ). m ≤ n) (sym (joined_length f w each (take (n / w) l))) ((le-div_iff_mul-le some_size).0 (omega (arith, length-take (n / w) l)))

-- the first of two lists and some of the second
begins : {A : Type 0} (n : ℕ) (l m : List A) → (x : List A) × (take n (l ++ m) ≡ take n l ++ x)
begins zero l m = ([], refl)
begins (suc n) [] m = (take (suc n) m, refl)
begins (suc n) (a ∷ l) m = let (x, e) = begins n l m in (x, ap (λ (y : List _). a ∷ y) e)

module _ {A : Type 0} (f : A → List ℕ) (w : ℕ) (some_size : 0 < w) (each : (a : A) → length (f a) ≡ w) (t : List ℕ) where
  pub laid_length : (l : List A) → length (laid w f t l) ≡ length t
  unfolding laid
  laid_length l =
      let b = joined f (take (length t / w) l) in
      omega (arith, length-append b (drop (length b) t), length-drop (length b) t, in_room f w some_size each (length t) l)

  pub laid_none : laid w f t [] ≡ t
  unfolding laid joined
  laid_none = ap (λ (l : List A). joined f l ++ drop (length (joined f l)) t) (take-nil (length t / w))

  pub laid_more : (l : List A) (a : A) → stored w (laid w f t l) (length l) (f a) ≡ laid w f t (l ++ (a ∷ []))
  unfolding stored laid
  laid_more l a =
      elim (dec_lt (length l) (length t / w)) [
        | yes p ↦
            let e : take (length t / w) l ≡ l = take_all (length t / w) l (omega arith) in
            let e' : take (length t / w) (l ++ (a ∷ [])) ≡ l ++ (a ∷ []) = take_all (length t / w) (l ++ (a ∷ [])) (omega (arith, length-append l (a ∷ []))) in
            let b = joined f l in
            let n : length b ≡ length l * w = joined_length f w each l in
            let m : length b + length (f a) ≤ length t =
            omega (arith, each a, suc-mul (length l) w, (le-div_iff_mul-le some_size).0 p) in
            rw (laid_length l, lt-ltb (length l) (length t / w) p, e, e', joined_snoc, ← n)
            (sets-eq (f a) (b ++ drop (length b) t) (length b) (omega (arith, length-append b (drop (length b) t), length-drop (length b) t))
            ∙ ap₂ (λ (x y : List ℕ). x ++ f a ++ y)
            (take_at b (drop (length b) t) (length b) refl)
            (drop-append-add b (drop (length b) t) (length (f a)) ∙ drop-drop (length (f a)) (length b) t ∙ ap (λ (k : ℕ). drop k t) (sym (length-append b (f a)))))
        | no p ↦ rw (laid_length l, le-ltb (length l) (length t / w) (omega arith), take-append-le (length t / w) l (a ∷ []) (omega arith))
      ]

  -- a table begins with the first of its entries
  pub laid_again : (l m : List A) → laid w f (laid w f t (l ++ m)) l ≡ laid w f t (l ++ m)
  unfolding laid
  laid_again l m =
      let (x, e) = begins (length t / w) l m in
      let a = joined f (take (length t / w) l) in
      let d = drop (length (a ++ joined f x)) t in
      rw (laid_length (l ++ m), e, joined_append f (take (length t / w) l) x, append_assoc a (joined f x) d)
      (ap (λ (y : List ℕ). a ++ y) (drop_at a (joined f x ++ d) (length a) refl))

  pub laid_kept : (l : List A) → kept w (length l) (laid w f t l) ≡ table w f (length t) l
  unfolding kept cleared laid table
  laid_kept l =
      let b = joined f (take (length t / w) l) in
      let n : min (length l) (length t / w) * w ≡ length b =
      ap (λ (k : ℕ). k * w) (omega (arith, length-take (length t / w) l)) ∙ sym (joined_length f w each (take (length t / w) l)) in
      rw (laid_length l, n, take_at b (drop (length b) t) (length b) refl) (sym (filled_is (length t) b (in_room f w some_size each (length t) l)))

-- a table without entries
pub table_none : {A : Type 0} (f : A → List ℕ) (w n : ℕ) → table w f n [] ≡ zeros n
unfolding table filled joined
table_none f w n = ap (λ (l : List _). take n (joined f l ++ zeros n)) (take-nil (n / w)) ∙ take_all n (zeros n) (omega (arith, length-replicate {A = ℕ} n 0))

-- laid over zeros
drop_zeros : (k n : ℕ) → k ≤ n → drop k (zeros n) ≡ zeros (n - k)
drop_zeros zero n h = ap zeros (sym (sub-zero n))
drop_zeros (suc k) zero h = absurd (omega arith)
drop_zeros (suc k) (suc n) h = let e : n - k ≡ suc n - suc k = omega arith in drop_zeros k n (omega arith) ∙ ap zeros e

module _ {A : Type 0} (f : A → List ℕ) (w : ℕ) (some_size : 0 < w) (each : (a : A) → length (f a) ≡ w) (n : ℕ) (l : List A) where
  pub laid_zeros : laid w f (zeros n) l ≡ table w f n l
  unfolding laid table
  laid_zeros =
      let b = joined f (take (n / w) l) in
      rw (length-replicate {A = ℕ} n 0) (ap (λ (z : List ℕ). b ++ z) (drop_zeros (length b) n (in_room f w some_size each n l)) ∙ sym (filled_is n b (in_room f w some_size each n l)))

  -- the front of a table with room for all is the table that has just their size
  pub table_front : length l ≤ n / w → take (length l * w) (table w f n l) ≡ table w f (length l * w) l
  unfolding table
  table_front h =
      let b = joined f l in
      let k : length b ≡ length l * w = joined_length f w each l in
      let r : length b ≤ n = subst (λ (m : List A). length (joined f m) ≤ n) (take_all (n / w) l h) (in_room f w some_size each n l) in
      let q : length l ≤ length l * w / w = (le-div_iff_mul-le some_size).1 (le_refl _) in
      let z : length l * w - length b ≡ 0 = omega arith in
      ap (λ (m : List A). take (length l * w) (filled n (joined f m))) (take_all (n / w) l h)
      ∙ ap (take (length l * w)) (filled_is n b r)
      ∙ take_at b (zeros (n - length b)) (length l * w) k
      ∙ sym (ap (λ (m : List A). filled (length l * w) (joined f m)) (take_all (length l * w / w) l q) ∙ filled_is (length l * w) b (omega arith) ∙ ap (λ (j : ℕ). b ++ zeros j) z ∙ append-nil b)

-- ---- entries' sizes, and tables that are all zero
pub word_size : (v : ℕ) → length (le64 v) ≡ 8
unfolding le64
word_size v = refl

pub token_size : (t : Token) → length (encode_token t) ≡ 16
unfolding encode_token le16 le64
token_size t = refl

pub node_size : (n : Node) → length (encode_node n) ≡ 16
unfolding encode_node le16 le64
node_size n = refl

pub diagnostic_size : (d : Diagnostic) → length (encode_diagnostic d) ≡ 8
unfolding encode_diagnostic le16
diagnostic_size d = refl

pub cleared_all : (t : List ℕ) → cleared 0 t ≡ zeros (length t)
unfolding cleared
cleared_all t = ap zeros (sub-zero (length t))

-- a table that was filled with zeros
pub filled_zero : (t : List ℕ) {u : List ℕ} → u ≡ zeros (length t) → u ≡ cleared 0 t
filled_zero t e = e ∙ sym (cleared_all t)

-- ---- reading an entry
-- entry i is within n bytes
pub room : (n w i : ℕ) → i < n / w → i * w + w ≤ n
room n zero i h = absurd (omega (arith, div-zero n))
room n (suc w) i h = omega (arith, suc-mul i (suc w), (le-div_iff_mul-le {k = suc w} (omega arith)).0 h)

get_d_padded : (b : List ℕ) (m i : ℕ) → length b ≤ i → get_or (b ++ zeros m) i 0 ≡ 0
get_d_padded [] zero i h = refl
get_d_padded [] (suc m) zero h = refl
get_d_padded [] (suc m) (suc i) h = get_d_padded [] m i zero-le
get_d_padded (x ∷ b) m zero h = absurd (omega arith)
get_d_padded (x ∷ b) m (suc i) h = get_d_padded b m i (omega arith)

number_padded : (b : List ℕ) (m a n : ℕ) → length b ≤ a → number (b ++ zeros m) a n ≡ 0
unfolding number
number_padded b m a zero h = refl
number_padded b m a (suc n) h = rw (get_d_padded b m a h, number_padded b m (suc a) n (omega arith))

module _ (w i : ℕ) (t : List ℕ) where
  number_entry : (a n : ℕ) → i < length t / w → a + n ≤ w → number t (i * w + a) n ≡ number (entry_at w t i) a n
  unfolding number entry_at
  number_entry a zero h fits = refl
  number_entry a (suc n) h fits =
      ap₂ (λ (x y : ℕ). x + 256 * y)
      (rw (lt-ltb i (length t / w) h) (sym (get_or-take w (drop (i * w) t) a 0 (omega arith) ∙ get_or-drop (i * w) t a 0)))
      (ap (λ (k : ℕ). number t k n) (sym (add-suc (i * w) a)) ∙ number_entry (suc a) n h (omega arith))

  pub number_none : (a n : ℕ) → length t / w ≤ i → 0 ≡ number (entry_at w t i) a n
  unfolding entry_at
  number_none a n h = rw (le-ltb i (length t / w) h) (sym (number_padded [] 0 a n zero-le))

-- ---- what was laid down is read back
module _ {A : Type 0} (f : A → List ℕ) (w : ℕ) (some_size : 0 < w) (each : (a : A) → length (f a) ≡ w) where
  joined_at : (l : List A) (i : ℕ) (d : A) (z : List ℕ) → i < length l → take w (drop (i * w) (joined f l ++ z)) ≡ f (get_or l i d)
  unfolding joined
  joined_at [] i d z h = absurd (omega arith)
  joined_at (a ∷ l) zero d z h = rw (zero-mul, append_assoc) (take_at (f a) (joined f l ++ z) w (each a))
  joined_at (a ∷ l) (suc i) d z h =
      rw (suc-mul, add_comm (i * w) w, append_assoc, ← drop-drop (i * w) w (f a ++ (joined f l ++ z)), drop_at (f a) (joined f l ++ z) w (each a))
      (joined_at l i d z (omega arith))

  module _ (n : ℕ) (l : List A) where
    table_is : table w f n l ≡ joined f (take (n / w) l) ++ zeros (n - length (joined f (take (n / w) l)))
    unfolding table
    table_is = filled_is n (joined f (take (n / w) l)) (in_room f w some_size each n l)

    pub table_length : length (table w f n l) ≡ n
    table_length =
        let b = joined f (take (n / w) l) in
        rw table_is (omega (arith, length-append b (zeros (n - length b)), length-replicate {A = ℕ} (n - length b) 0, in_room f w some_size each n l))

    pub entry_stored : (i : ℕ) (d : A) → i < length l → i < n / w → entry_at w (table w f n l) i ≡ f (get_or l i d)
    unfolding entry_at
    entry_stored i d h k =
        rw (table_length, lt-ltb i (n / w) k, table_is)
        (joined_at (take (n / w) l) i d (zeros (n - length (joined f (take (n / w) l)))) (omega (arith, length-take (n / w) l))
        ∙ ap f (get_or-take (n / w) l i d k))

    -- past them all is 0
    pub number_past : (i : ℕ) → length l ≤ i → (a k : ℕ) → a + k ≤ w → number (entry_at w (table w f n l) i) a k ≡ 0
    number_past i h a k fits =
        elim (dec_lt i (n / w)) [
          | yes p ↦
              let b = joined f (take (n / w) l) in
              let m : length (take (n / w) l) ≤ i = omega (arith, length-take (n / w) l) in
              sym (number_entry w i (table w f n l) a k (rw table_length p) fits)
              ∙ rw table_is (number_padded b (n - length b) (i * w + a) k (omega (arith, joined_length f w each (take (n / w) l), mul-le-mul_right w m)))
          | no p ↦ sym (number_none w i (table w f n l) a k (rw table_length (omega arith)))
        ]

-- every field fits its bytes
pub record TokenFits (t : Token) : Type 0 where
  pub kind_fits : t.kind < 256
  pub suffix_fits : t.suffix < 256
  pub start_fits : t.start < 65536
  pub end_fits : t.end < 65536
  pub base_fits : t.base < 256
  pub value_fits : t.value < 2 ^ 64

pub record NodeFits (n : Node) : Type 0 where
  pub kind_fits : n.kind < 256
  pub base_fits : n.base < 256
  pub start_fits : n.start < 65536
  pub end_fits : n.end < 65536
  pub children_fits : n.children < 65536
  pub value_fits : n.value < 2 ^ 64

pub record DiagnosticFits (d : Diagnostic) : Type 0 where
  pub start_fits : d.start < 65536
  pub end_fits : d.end < 65536
  pub reason_fits : d.reason < 256

half_decoded : (v : ℕ) → v < 65536 → v % 256 + 256 * (v / 256 % 256 + 256 * 0) ≡ v
half_decoded v h = omega arith

digit : (v m : ℕ) → v / m % 256 + 256 * (v / (m * 256)) ≡ v / m
digit v m = rw (← div-div-eq-div-mul v m 256) (mod-add-div (v / m) 256)

word_decoded : (v : ℕ) → v < 2 ^ 64 → number (le64 v) 0 8 ≡ v
unfolding number le64
word_decoded v h =
    let last : v / 2 ^ 56 % 256 + 256 * 0 ≡ v / 2 ^ 56 = omega arith in
    rw (last, digit v (2 ^ 48), digit v (2 ^ 40), digit v (2 ^ 32), digit v (2 ^ 24), digit v (2 ^ 16), digit v (2 ^ 8)) (mod-add-div v 256)

token_decoded : (t : Token) → TokenFits t → decode_token (encode_token t) ≡ t
unfolding encode_token le16 le64 number
token_decoded t h =
    rw (add-zero t.kind, add-zero t.suffix, half_decoded t.start h.start_fits, half_decoded t.end h.end_fits, add-zero t.base, word_decoded t.value h.value_fits)

node_decoded : (n : Node) → NodeFits n → decode_node (encode_node n) ≡ n
unfolding encode_node le16 le64 number
node_decoded n h =
    rw (add-zero n.kind, add-zero n.base, half_decoded n.start h.start_fits, half_decoded n.end h.end_fits, half_decoded n.children h.children_fits, word_decoded n.value h.value_fits)

diagnostic_decoded : (d : Diagnostic) → DiagnosticFits d → decode_diagnostic (encode_diagnostic d) ≡ d
unfolding encode_diagnostic le16 number
diagnostic_decoded t h =
    rw (half_decoded t.start h.start_fits, half_decoded t.end h.end_fits, add-zero t.reason)

pub token_read : (n : ℕ) (ts : List Token) (i : ℕ) (d : Token) → i < length ts → i < n / 16 → TokenFits (get_or ts i d) → token_at (token_table n ts) i ≡ get_or ts i d
token_read n ts i d h k fits = ap decode_token (entry_stored encode_token 16 (omega arith) token_size n ts i d h k) ∙ token_decoded (get_or ts i d) fits

pub node_read : (n : ℕ) (ns : List Node) (i : ℕ) (d : Node) → i < length ns → i < n / 16 → NodeFits (get_or ns i d) → node_at (node_table n ns) i ≡ get_or ns i d
node_read n ns i d h k fits = ap decode_node (entry_stored encode_node 16 (omega arith) node_size n ns i d h k) ∙ node_decoded (get_or ns i d) fits

pub diagnostic_read : (n : ℕ) (ds : List Diagnostic) (i : ℕ) (d : Diagnostic) → i < length ds → i < n / 8 → DiagnosticFits (get_or ds i d)
    → diagnostic_at (diagnostic_table n ds) i ≡ get_or ds i d
diagnostic_read n ds i d h k fits =
    ap decode_diagnostic (entry_stored encode_diagnostic 8 (omega arith) diagnostic_size n ds i d h k) ∙ diagnostic_decoded (get_or ds i d) fits

-- a token of kind 0, all else 0 too
abbrev pub zero_token : Token
zero_token = record { kind = 0; suffix = 0; start = 0; end = 0; base = 0; value = 0 }

token_none : (b : List ℕ) → ((a k : ℕ) → a + k ≤ 16 → number b a k ≡ 0) → decode_token b ≡ zero_token
token_none b h = rw (h 0 1 (omega arith), h 1 1 (omega arith), h 2 2 (omega arith), h 4 2 (omega arith), h 6 1 (omega arith), h 8 8 (omega arith))

pub token_past : (n : ℕ) (ts : List Token) (i : ℕ) → length ts ≤ i → token_at (token_table n ts) i ≡ zero_token
token_past n ts i h = token_none (entry_at 16 (token_table n ts) i) (number_past encode_token 16 (omega arith) token_size n ts i h)

-- a node of kind 0, likewise
abbrev pub zero_node : Node
zero_node = record { kind = 0; base = 0; start = 0; end = 0; children = 0; value = 0 }

pub node_past : (n : ℕ) (ns : List Node) (i : ℕ) → length ns ≤ i → node_at (node_table n ns) i ≡ zero_node
node_past n ns i h =
    let past = number_past encode_node 16 (omega arith) node_size n ns i h in
    rw (past 0 1 (omega arith), past 1 1 (omega arith), past 2 2 (omega arith), past 4 2 (omega arith), past 6 2 (omega arith), past 8 8 (omega arith))

pub diagnostic_past : (n : ℕ) (ds : List Diagnostic) (i : ℕ) → length ds ≤ i → diagnostic_at (diagnostic_table n ds) i ≡ record { start = 0; end = 0; reason = 0 }
diagnostic_past n ds i h =
    let past = number_past encode_diagnostic 8 (omega arith) diagnostic_size n ds i h in
    rw (past 0 2 (omega arith), past 2 2 (omega arith), past 4 1 (omega arith))

-- ---- all tokens of a table
module _ {A : Type 0} where
  pub tabulate_length : (n : ℕ) (f : ℕ → A) → length (tabulate n f) ≡ n
  unfolding tabulate
  tabulate_length zero f = refl
  tabulate_length (suc n) f = ap suc (tabulate_length n (λ i. f (suc i)))

  pub tabulate_at : (n : ℕ) (f : ℕ → A) (i : ℕ) (d : A) → i < n → get_or (tabulate n f) i d ≡ f i
  unfolding tabulate
  tabulate_at zero f i d h = absurd (omega arith)
  tabulate_at (suc n) f zero d h = refl
  tabulate_at (suc n) f (suc i) d h = tabulate_at n (λ j. f (suc j)) i d (omega arith)

pub tokens_length : (t : List ℕ) → length (tokens_of t) ≡ length t / 16
unfolding tokens_of
tokens_length t = tabulate_length _ _

pub tokens_at : (t : List ℕ) (i : ℕ) → get_or (tokens_of t) i zero_token ≡ token_at t i
unfolding tokens_of
tokens_at t i =
    elim (dec_lt i (length t / 16)) [
      | yes p ↦ tabulate_at _ _ i zero_token p
      | no p ↦
          get_or-eq_default (tokens_of t) zero_token (omega (arith, tokens_length t))
          ∙ sym (token_none (entry_at 16 t i) (λ a k _. sym (number_none 16 i t a k (omega arith))))
    ]

pub tokens_of_table : (ts : List Token) (n : ℕ) → n / 16 ≡ length ts → ((i : ℕ) → i < length ts → TokenFits (get_or ts i zero_token)) → tokens_of (token_table n ts) ≡ ts
tokens_of_table ts n e fits =
    let l : length (tokens_of (token_table n ts)) ≡ length ts =
    tokens_length (token_table n ts) ∙ ap (λ (m : ℕ). m / 16) (table_length encode_token 16 (omega arith) token_size n ts) ∙ e in
    ext_get_or zero_token (tokens_of (token_table n ts)) ts l
    (λ i h. tokens_at (token_table n ts) i ∙ token_read n ts i zero_token (omega arith) (omega arith) (fits i (omega arith)))

pub nodes_of_table : (ns : List Node) (n : ℕ) → length ns ≤ n / 16 → ((i : ℕ) → i < length ns → NodeFits (get_or ns i zero_node)) → tabulate (length ns) (λ i. node_at (node_table n ns) i) ≡ ns
nodes_of_table ns n h fits =
    let f : ℕ → Node = λ i. node_at (node_table n ns) i in
    let l = tabulate_length (length ns) f in
    ext_get_or zero_node (tabulate (length ns) f) ns l
    (λ i k. tabulate_at (length ns) f i zero_node (omega arith) ∙ node_read n ns i zero_node (omega arith) (omega arith) (fits i (omega arith)))
