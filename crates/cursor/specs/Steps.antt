-- What the steps of a cursor make of it: the contracts that the readers' steps are built on. Assumes nothing.
use Rattle.std.specs.Prelude.{◌≡◌, ◌==◌, Bool, ◌||◌, cond, List, ℕ, ◌+◌, ◌/◌, ◌<◌, ◌≤◌, min, eqb, length}
use Rattle.std.specs.Prelude.{Option, Some, None}
use Rattle.tables.specs.Tables.{encode_node, token_at, stored}
use Rattle.tables.specs.TokenKinds.{NOT, MINUS, LPAREN, LBRACE, LBRACK, DOT}
use Rattle.grammar.specs.Derive.{Token, unary, Act, take, step, S, got, next, emit, act}
use Rattle.grammar.specs.Grammar.{body}
use Rattle.cursor.specs.Entries.{input, MAX16, MAX64}
use Rattle.cursor.specs.Read.{LIMIT, reached, Reads, ending}
use Rattle.cursor.specs.declared.Cursor.{Cursor}
use Rattle.cursor.specs.declared.Part.{Part}
use Rattle.cursor.specs.declared.Status.{Status}
use Rattle.grammar.specs.declared.node_value.NamedType.{NamedType}
use Rattle.grammar.specs.declared.node_value.UnaryOp.{UnaryOp}
use Rattle.cursor.specs.declared.Status.TheVariants.{Reading, Failed, Deep}

-- what a Named's value says
abbrev pub named_number : NamedType → ℕ
named_number NamedType.Felt = 0
named_number NamedType.Bool = 1
named_number NamedType.U32 = 2
named_number NamedType.Custom = 3

-- one more, up to l
abbrev pub up : ℕ → ℕ → ℕ
up l n = min (n + 1) l

-- another status
abbrev pub with_status : Status → Cursor → Cursor
with_status k p =
    record { at = p.at; count = p.count; furthest = p.furthest; nest = p.nest; status = k; first = p.first; parts = p.parts; mark = p.mark; from = p.from; to = p.to }

-- that status, if it was reading
pub data Halted (status : Status) (p r : Cursor) : Type 0 where
  was_halted : (p.status ≡ Reading → ⊥) → r ≡ p → Halted status p r
  halts : p.status ≡ Reading → r ≡ with_status status p → Halted status p r

-- dropped attempts came up to f
abbrev pub with_furthest : ℕ → Cursor → Cursor
with_furthest f p =
    record { at = p.at; count = p.count; furthest = f; nest = p.nest; status = p.status; first = p.first; parts = p.parts; mark = p.mark; from = p.from; to = p.to }

-- back at p, after an attempt that came to q is dropped
abbrev pub rewound : Cursor → Cursor → Cursor
rewound p q = with_furthest (reached q) p

-- past one token
abbrev pub past : Cursor → Cursor
past p =
    record { at = p.at + 1; count = p.count; furthest = p.furthest; nest = p.nest; status = p.status; first = p.first; parts = p.parts; mark = p.mark; from = p.from; to = p.to }

-- past a token of kind k: it is not there, it is too deep, or it is taken
pub data Advanced (w : List ℕ) (k : ℕ) (p r : Cursor) : Type 0 where
  not_reading : (p.status ≡ Reading → ⊥) → r ≡ p → Advanced w k p r
  not_there : p.status ≡ Reading → ((token_at w p.at).kind ≡ k → ⊥) → r ≡ with_status Failed p → Advanced w k p r
  too_deep : p.status ≡ Reading → (token_at w p.at).kind ≡ k → LIMIT < p.nest → r.status ≡ Deep → Advanced w k p r
  advanced : p.status ≡ Reading → (token_at w p.at).kind ≡ k → p.nest ≤ LIMIT → p.at < length w / 16 → r ≡ past p → Advanced w k p r

-- another mark
abbrev pub with_mark : ℕ → Cursor → Cursor
with_mark m p =
    record { at = p.at; count = p.count; furthest = p.furthest; nest = p.nest; status = p.status; first = p.first; parts = p.parts; mark = m; from = p.from; to = p.to }

-- one part more, from a to b
abbrev pub with_part : ℕ → ℕ → Cursor → Cursor
with_part a b p =
    record { at = p.at; count = p.count; furthest = p.furthest; nest = p.nest; status = p.status; first = p.first; parts = up MAX16 p.parts; mark = p.mark; from = cond (eqb p.parts 0) a p.from; to = b }

-- one node more
abbrev pub counted : Cursor → Cursor
counted p =
    record { at = p.at; count = up MAX64 p.count; furthest = p.furthest; nest = p.nest; status = p.status; first = p.first; parts = p.parts; mark = p.mark; from = p.from; to = p.to }

-- with these literals of an unknown suffix
abbrev pub with_unknown : List Token → S → S
with_unknown u s = record { at = s.at; nodes = s.nodes; unknown = u; frame = s.frame }

-- a leaf of kind n, base b and value v over a token of kind k: a reading of every act that makes this of the token
pub data Emitted (k n b v : ℕ) (w : List ℕ) (p : Cursor) (T : List ℕ) (r : Cursor) (U : List ℕ) : Type 0 where
  emitted : ((text : List ℕ) (a : Act) (u : S → List Token) → ((s : S) → act (input text w) a (token_at w p.at) (next s) ≡ got (with_unknown (u s) (emit (token_at w p.at) n b v (next s))))
      → Reads (step (take k a)) text w p T r U) → Emitted k n b v w p T r U

-- all parts are now one, from a to b
abbrev pub closed_at : ℕ → ℕ → Cursor → Cursor
closed_at a b p =
    record { at = p.at; count = up MAX64 p.count; furthest = p.furthest; nest = p.nest; status = p.status; first = p.first; parts = 1; mark = 0; from = a; to = b }

-- a node of what was gathered
pub data Closed (k a b : ℕ) (p : Cursor) (T : List ℕ) (r : Cursor) (U : List ℕ) : Type 0 where
  not_closed : (p.status ≡ Reading → ⊥) → r ≡ p → U ≡ T → Closed k a b p T r U
  closes : p.status ≡ Reading → r ≡ closed_at a b p
      → U ≡ stored 16 T p.count (encode_node (record { kind = k; base = 0; start = a; end = b; children = p.parts; value = p.mark })) → Closed k a b p T r U

-- at the token i, with nothing gathered
abbrev pub fresh_at : ℕ → Cursor → Cursor
fresh_at i p =
    record { at = i; count = p.count; furthest = p.furthest; nest = p.nest; status = p.status; first = i; parts = 0; mark = 0; from = 0; to = 0 }

-- p with what a rule has read as one part more
abbrev pub joining : Cursor → Part → Cursor
joining p q =
    record { at = q.at; count = q.count; furthest = q.furthest; nest = p.nest; status = q.status; first = p.first; parts = up MAX16 p.parts; mark = p.mark; from = cond (eqb p.parts 0) q.from p.from; to = q.to }

-- out of a rule again: what q gathered is one part more of what p did
pub data Left (p q r : Cursor) : Type 0 where
  left_still : (q.status ≡ Reading → ⊥) → r.status ≡ q.status → reached r ≡ reached q → Left p q r
  left : q.status ≡ Reading → r ≡ joining p (ending q) → Left p q r

-- another nest
abbrev pub at_nest : ℕ → Cursor → Cursor
at_nest n q =
    record { at = q.at; count = q.count; furthest = q.furthest; nest = n; status = q.status; first = q.first; parts = q.parts; mark = q.mark; from = q.from; to = q.to }

-- at nest 0
abbrev pub shallow : Cursor → Cursor
shallow p = at_nest 0 p

-- q at nest n, if e, which read the same tokens, came to the same place; how far attempts came is e's
pub data Agreed (n : ℕ) (e q r : Cursor) : Type 0 where
  agrees_not : (q.status ≡ Reading → ⊥) → Halted q.status e r → Agreed n e q r
  agrees_else : q.status ≡ Reading → (e.at ≡ q.at → ⊥) → Halted Failed e r → Agreed n e q r
  agrees : q.status ≡ Reading → e.at ≡ q.at → r ≡ with_furthest e.furthest (at_nest n q) → Agreed n e q r

-- ---- operands

-- a token's kind: it continues a name or a numeral before it
abbrev pub continues : ℕ → Bool
continues k = (k == LPAREN) || (k == DOT) || (k == LBRACK) || (k == LBRACE)

-- ---- prefixes

-- at the operand of prefixes that end there; if they are past the limit, too deep
pub data Restarted (e : ℕ) (p r : Cursor) : Type 0 where
  restarts_deep : p.at < e → LIMIT < p.nest → Halted Deep p r → Restarted e p r
  restarts : (p.at < e → p.nest ≤ LIMIT) → r ≡ fresh_at e p → Restarted e p r

-- past a prefix alone
abbrev pub signed_at : ℕ → ℕ → ℕ → Cursor → Cursor
signed_at i e m p =
    record { at = e; count = p.count; furthest = p.furthest; nest = p.nest; status = p.status; first = i; parts = 0; mark = m; from = 0; to = 0 }

-- the prefix that a kind of token is, if it is one
pub data Prefix (k : ℕ) (r : Option UnaryOp) : Type 0 where
  no_prefix : r ≡ None → (k ≡ NOT → ⊥) → (k ≡ MINUS → ⊥) → Prefix k r
  a_not : r ≡ Some UnaryOp.Not → k ≡ NOT → Prefix k r
  a_minus : r ≡ Some UnaryOp.Neg → k ≡ MINUS → Prefix k r

-- a token's kind: it is a prefix
abbrev pub is_prefix : ℕ → Bool
is_prefix k = (k == NOT) || (k == MINUS)

-- what a Unary's value says
abbrev pub unary_number : UnaryOp → ℕ
unary_number UnaryOp.Not = 0
unary_number UnaryOp.Neg = 1

-- the tokens from a to b are prefixes, and the next is not
pub record Prefixes (w : List ℕ) (a b : ℕ) : Type 0 where
  pub up : a ≤ b
  pub each : (i : ℕ) → a ≤ i → i < b → Prefix (token_at w i).kind None → ⊥
  pub over : Prefix (token_at w b).kind None

-- what was read past the prefixes from p on is made the operand of each, the last first
pub record Unwound (text w : List ℕ) (p : Cursor) (e : ℕ) (q : Cursor) (T : List ℕ) (r : Cursor) (U : List ℕ) : Type 0 where
  pub up : Prefixes w p.at e → p.status ≡ Reading → (p.at < e → p.nest ≤ LIMIT) → (T₀ : List ℕ)
      → Reads (body unary) text w (fresh_at e p) T₀ q T → Reads (body unary) text w (fresh_at p.at p) T₀ r U
