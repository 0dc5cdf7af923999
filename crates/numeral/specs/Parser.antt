-- What a numeral's parser knows after the bytes so far, whatever follows them. Its own steps alone cite this; what a numeral says is in Numeral. Assumes nothing.
use Rattle.std.specs.Prelude.{◌≡◌, Bool, true, false, cond, List, [], ◌∷◌, ◌++◌, ℕ, ◌+◌, ◌*◌, ◌≤◌, ◌<◌, eqb, length, take, drop, get_or, Option, Some, None, Result, Ok, Err}
use Rattle.patterns.specs.Bytes.{bytes, in_set, either, word, starts}
use Rattle.patterns.specs.Patterns.{All}
use Rattle.tables.specs.declared.entry_codes.Suffix.{Suffix}
use Rattle.numeral.specs.Numeral.{most, base_code, base_in, base_of, digit_in, reading, rest_of}
use Rattle.numeral.specs.declared.Base.{Base}
use Rattle.numeral.specs.declared.NumberLiteral.{NumberLiteral}
use Rattle.numeral.specs.declared.NumberParseError.{NumberParseError}
use Rattle.numeral.specs.declared.NumberParser.{NumberParser}

-- the bytes that are read in the base
abbrev pub rest : List ℕ → List ℕ
rest s = cond (eqb (base_of s) 10) s (drop 2 s)

-- ---- the suffix words
pub data Word : List ℕ → Suffix → Type 0 where
  felt : Word (bytes "felt") Suffix.Felt
  u32 : Word (bytes "u32") Suffix.U32

-- the word that ends r
pub data Ending (r : List ℕ) : Suffix → Type 0 where
  ended : {w : List ℕ} {x : Suffix} (q : List ℕ) → Word w x → r ≡ q ++ w → Ending r x
  not_ended : ((q w : List ℕ) (x : Suffix) → Word w x → r ≡ q ++ w → ⊥) → Ending r Suffix.Absent

-- no word occurs in r
abbrev pub Never : List ℕ → Type 0
Never r = (w : List ℕ) (x : Suffix) (k : ℕ) → Word w x → k < length r → starts w (drop k r) ≡ true → ⊥

-- one does
pub record Occurs (r : List ℕ) : Type 0 where
  pub text : List ℕ
  pub suffix : Suffix
  pub place : ℕ
  pub is : Word text suffix
  pub within : place < length r
  pub there : starts text (drop place r) ≡ true

-- the last four bytes of r, zeros before its start, are the number l
pub record Last (r : List ℕ) (l : ℕ) : Type 0 where
  pub front : List ℕ
  pub a : ℕ
  pub b : ℕ
  pub c : ℕ
  pub d : ℕ
  pub bytes : (a < 256) × (b < 256) × (c < 256) × (d < 256)
  pub ends : 0 ∷ 0 ∷ 0 ∷ 0 ∷ r ≡ front ++ a ∷ b ∷ c ∷ d ∷ []
  pub is : l ≡ a * 16777216 + b * 65536 + c * 256 + d

-- ---- what digits say: a value or an error, as the answer with a suffix
abbrev pub literal : Base → Suffix → Result ℕ NumberParseError → Result NumberLiteral NumberParseError
literal base x (Ok v) = Ok (record { value = v; suffix = x; base = base })
literal base x (Err e) = Err e

abbrev pub said : ℕ → Result (Unit {0}) NumberParseError → Result ℕ NumberParseError
said v (Ok u) = Ok v
said v (Err e) = Err e

-- r, read as digits, says m; no digit at all is a format error
pub record Says (base : Base) (r : List ℕ) (m : Result ℕ NumberParseError) : Type 0 where
  pub nothing : r ≡ [] → m ≡ Err NumberParseError.InvalidFormat
  pub something : 0 < length r → (x : Suffix) → reading base x 0 r ≡ literal base x m

-- a suffix word begins with it, and has none after it
abbrev pub opens : ℕ → Bool
opens = in_set (either "f" "u")

-- what stands before the last such byte says m
pub record Marked (base : Base) (r : List ℕ) (m : Result ℕ NumberParseError) : Type 0 where
  pub says : (k : ℕ) → k < length r → opens (get_or r k 0) ≡ true → ((j : ℕ) → k < j → j < length r → opens (get_or r j 0) ≡ false) → Says base (take k r) m

-- however r goes on, it is read on from the value v
pub record Goes (base : Base) (r : List ℕ) (v : ℕ) : Type 0 where
  pub on : (x : Suffix) (t : List ℕ) → reading base x 0 (r ++ t) ≡ reading base x v t

-- however r goes on, it is the error e as digits
pub record Fails (base : Base) (r : List ℕ) (e : NumberParseError) : Type 0 where
  pub on : (x : Suffix) (t : List ℕ) → reading base x 0 (r ++ t) ≡ Err e

-- r has the value v as far as there are digits, the whole of it says w, and c is said unless a word ends it: while there are digits alone, after an overflow too, then from the first other byte on, and from a word on
pub data Reads (base : Base) (r : List ℕ) : ℕ → Result (Unit {0}) NumberParseError → Option (Result (Unit {0}) NumberParseError) → Type 0 where
  unread : r ≡ [] → Reads base r 0 (Err NumberParseError.InvalidFormat) None
  digits : {v : ℕ} {u : Unit {0}} → 0 < length r → All (digit_in (base_code base)) r → v ≤ most → Goes base r v → Reads base r v (Ok u) None
  over : {v : ℕ} → 0 < length r → All (digit_in (base_code base)) r → Fails base r NumberParseError.Overflow → Reads base r v (Err NumberParseError.Overflow) None
  other : {v : ℕ} {e : NumberParseError} {c : Result (Unit {0}) NumberParseError} → 0 < length r → Fails base r e → Never r → ((t : List ℕ) → Never (r ++ t) → rest_of base (r ++ t) ≡ literal base Suffix.Other (said v c)) → Reads base r v (Err e) (Some c)
  suffixed : {v : ℕ} {e : NumberParseError} → Fails base r e → Occurs r → Reads base r v (Err e) (Some (Err e))

-- an overflow
abbrev pub late : Result (Unit {0}) NumberParseError → Bool
late (Ok u) = false
late (Err NumberParseError.Overflow) = true
late (Err NumberParseError.InvalidFormat) = false

-- ---- the state n after the bytes r in a base
-- while digits only add to the value, there are digits alone, and they fit
pub record Ready (n : NumberParser) : Type 0 where
  pub few : n.digits ≤ 15
  pub based : n.digits ≤ n.radix
  pub uncut : n.cut ≡ None
  pub fits : late n.whole ≡ false

pub record Upto (base : Base) (r : List ℕ) (n : NumberParser) : Type 0 where
  pub base_is : n.base ≡ base
  pub radix : n.radix ≡ base_code base
  pub ready : 0 < n.digits → Ready n
  pub last : Last r n.last
  pub mark : Marked base r n.mark
  pub reads : Reads base r n.value n.whole n.cut

-- after the bytes s of a spelling
pub record After (s : List ℕ) (n : NumberParser) : Type 0 where
  pub words : All (in_set word) s
  pub upto : Upto (base_in s) (rest s) n

pub record Reached (n : NumberParser) : Type 0 where
  pub so_far : List ℕ
  pub after : After so_far n

-- with a digit more
pub data WithDigit (n : NumberParser) (d : ℕ) : Result ℕ NumberParseError → Type 0 where
  value : late n.whole ≡ false → n.value * n.radix + d ≤ most → WithDigit n d (Ok (n.value * n.radix + d))
  full : late n.whole ≡ false → most < n.value * n.radix + d → WithDigit n d (Err NumberParseError.Overflow)
  still : late n.whole ≡ true → WithDigit n d (Err NumberParseError.Overflow)

-- the base that b sets, after `0` alone
pub data BaseSet (n : NumberParser) (b : ℕ) : Option Base → Type 0 where
  set : {base : Base} → n.last ≡ 48 → n.radix ≡ 10 → base ≡ base_in (48 ∷ b ∷ []) → (base ≡ Base.Decimal → ⊥) → BaseSet n b (Some base)
  unset : (n.last ≡ 48 → n.radix ≡ 10 → Base.Decimal ≡ base_in (48 ∷ b ∷ [])) → BaseSet n b None

-- what is said unless a word ends the spelling, where the next byte is no digit or another byte stands before it
pub data NextCut (n : NumberParser) (d : ℕ) : Result (Unit {0}) NumberParseError → Type 0 where
  kept : {c : Result (Unit {0}) NumberParseError} → n.cut ≡ Some c → NextCut n d c
  decimal : n.cut ≡ None → d < 10 → NextCut n d (Err NumberParseError.InvalidFormat)
  first : n.cut ≡ None → 10 ≤ d → NextCut n d n.whole

-- why all of it, read as digits, is an error after another byte
abbrev pub fault : Result (Unit {0}) NumberParseError → NumberParseError
fault (Ok u) = NumberParseError.InvalidFormat
fault (Err e) = e

-- what is said from a word on
abbrev pub cut_unless : Suffix → Result (Unit {0}) NumberParseError → NumberParseError → Result (Unit {0}) NumberParseError
cut_unless Suffix.Absent cut e = cut
cut_unless Suffix.Felt cut e = Err e
cut_unless Suffix.U32 cut e = Err e
cut_unless Suffix.Other cut e = Err e

-- the state after that byte
pub record Ended (n : NumberParser) (cut : Result (Unit {0}) NumberParseError) (mark : Result ℕ NumberParseError) (last : ℕ) (m : NumberParser) : Type 0 where
  pub suffix : Suffix
  pub ending : (r : List ℕ) → Last r last → Ending r suffix
  pub is : m ≡ record { value = n.value; mark = mark; whole = Err (fault n.whole); cut = Some (cut_unless suffix cut (fault n.whole)); radix = n.radix; last = last; base = n.base; digits = 0 }

-- with the byte b more; or b is no letter, no digit and no `_`
pub data Step (n : NumberParser) (b : ℕ) : Option NumberParser → Type 0 where
  on : {m : NumberParser} → in_set word b ≡ true → ((s : List ℕ) → After s n → After (s ++ b ∷ []) m) → Step n b (Some m)
  stop : in_set word b ≡ false → Step n b None
