-- What a reader's contract says: how the cursor and the node table that it leaves stand to the grammar that it reads. Assumes nothing.
use Rattle.std.specs.Prelude.{◌≡◌, Bool, true, List, ℕ, ◌<◌, ◌≤◌, min, max, length}
use Rattle.tables.specs.Tables.{Node, laid}
use Rattle.tables.specs.TokenKinds.{ELSE}
use Rattle.grammar.specs.Derive.{Input, R, stmt, G, ◌&◌, rule, S, Out, got, none, Derives, Takes}
use Rattle.grammar.specs.Grammar.{body, nests, tok}
use Rattle.cursor.specs.Entries.{input, MAX16, MAX64, entry_of}
use Rattle.cursor.specs.declared.Cursor.{Cursor}
use Rattle.cursor.specs.declared.Part.{Part}
use Rattle.cursor.specs.declared.Source.{Source}
use Rattle.cursor.specs.declared.StmtPart.{StmtPart}
use Rattle.cursor.specs.declared.Status.TheVariants.{Reading, Failed, Deep}

-- ---- attempts

-- the deepest nest at which a token may be taken
abbrev pub LIMIT : ℕ
LIMIT = 64

-- what attempts at g from s at nest n take: no token above the limit, of the tokens from a on those before b, and none from b on
pub record Within (x : Input) (g : G) (n : ℕ) (s : S) (a b : ℕ) : Type 0 where
  pub limit : (i m : ℕ) → Takes body x nests i m g n s → m ≤ LIMIT
  pub up : a ≤ b
  pub taken : (i : ℕ) → a ≤ i → i < b → (m : ℕ) × Takes body x nests i m g n s
  pub below : (i m : ℕ) → Takes body x nests i m g n s → i < b

-- such an attempt comes to o
pub record Attempt (x : Input) (g : G) (n : ℕ) (s : S) (o : Out) (a b : ℕ) : Type 0 where
  pub derived : Derives body x g s o
  pub within : Within x g n s a b

-- it takes one above the limit
pub record Exceeds (x : Input) (g : G) (n : ℕ) (s : S) : Type 0 where
  pub token : ℕ
  pub nest : ℕ
  pub above : LIMIT < nest
  pub takes : Takes body x nests token nest g n s

-- ---- the node table

-- the table begins with the nodes, as far as it has room
pub record Holds (T : List ℕ) (ns : List Node) : Type 0 where
  pub under : List ℕ
  pub over : T ≡ laid 16 entry_of under ns

-- ---- cursors

-- the same number, or both at least l
pub record Upto (l n m : ℕ) : Type 0 where
  pub upto : min n l ≡ min m l

-- a cursor stands for a state of the derivation, but for its nest and status; what it counts stops at the largest number
pub record Represents (p : Cursor) (s : S) : Type 0 where
  pub at : p.at ≡ s.at
  pub first : p.first ≡ s.frame.first
  pub parts : Upto MAX16 p.parts s.frame.parts
  pub mark : Upto MAX64 p.mark s.frame.mark
  pub from : Upto MAX16 p.from s.frame.from
  pub to : Upto MAX16 p.to s.frame.to
  pub count : Upto MAX64 p.count (length s.nodes)

-- how far attempts have come: this one or one that was dropped
abbrev pub reached : Cursor → ℕ
reached p = max p.at p.furthest

-- what became of g, read with the cursor p, which stands for s, and the table T
pub data Result (g : G) (text w : List ℕ) (p : Cursor) (s : S) (T : List ℕ) (r : Cursor) (U : List ℕ) : Type 0 where
  matched : (t : S) → r.status ≡ Reading → r.nest ≡ p.nest → Represents r t → Attempt (input text w) g p.nest s (got t) (reached p) (reached r)
      → (Holds T s.nodes → Holds U t.nodes) → Result g text w p s T r U
  failed : r.status ≡ Failed → Attempt (input text w) g p.nest s none (reached p) (reached r) → (Holds T s.nodes → Holds U s.nodes) → Result g text w p s T r U
  exceeded : r.status ≡ Deep → Exceeds (input text w) g p.nest s → Result g text w p s T r U

-- a reader of g, given the cursor p and the node table T, left r and U; what is not reading stays so and comes no further
pub data Reads (g : G) (text w : List ℕ) (p : Cursor) (T : List ℕ) (r : Cursor) (U : List ℕ) : Type 0 where
  still : (p.status ≡ Reading → ⊥) → r.status ≡ p.status → reached r ≡ reached p → U ≡ T → Reads g text w p T r U
  reads : p.status ≡ Reading → ((s : S) → Represents p s → Result g text w p s T r U) → Reads g text w p T r U

-- the same, of a text and its tokens
abbrev pub Parses : G → Source → Cursor → List ℕ → Cursor → List ℕ → Type 0
Parses g x p T r U = Reads g x.text.now x.tokens.now p T r U

-- the same of one that looks at neither text nor tokens
pub data Grown (g : G) (p : Cursor) (T : List ℕ) (r : Cursor) (U : List ℕ) : Type 0 where
  grown : ((text w : List ℕ) → Reads g text w p T r U) → Grown g p T r U

-- of one that leaves the node table alone
pub data Step (g : G) (w : List ℕ) (p r : Cursor) : Type 0 where
  steps : ((text T : List ℕ) → Reads g text w p T r T) → Step g w p r

-- and looks at no token
pub data Free (g : G) (p r : Cursor) : Type 0 where
  free : ((text w T : List ℕ) → Reads g text w p T r T) → Free g p r

-- ---- rules
-- at the first token of a rule: the token i, after c nodes, at nest n, where dropped attempts came up to f
abbrev pub begun : ℕ → ℕ → ℕ → ℕ → Cursor
begun i c n f =
    record { at = i; count = c; furthest = f; nest = n; status = Reading; first = i; parts = 0; mark = 0; from = 0; to = 0 }

-- what a rule that ends so is to the construct around it
abbrev pub ending : Cursor → Part
ending e = record { at = e.at; count = e.count; furthest = e.furthest; from = e.from; to = e.to; status = e.status }

-- a reader of the inside of the rule r, from the token i on, after c nodes, at nest n, attempts having come up to f: it has read the part q
pub data Inside (r : R) (text w : List ℕ) (i c n f : ℕ) (T : List ℕ) (q : Part) (U : List ℕ) : Type 0 where
  inside : (e : Cursor) → Reads (body r) text w (begun i c n f) T e U → q ≡ ending e → Inside r text w i c n f T q U

-- at the first token of a text
abbrev pub start : Cursor
start = begun 0 0 0 0

-- ---- statements

-- an `else` at the token k fails at nest n, and takes no token from b on
pub record Tried (text w : List ℕ) (n k b : ℕ) : Type 0 where
  pub fails : (s : S) → s.at ≡ k → Attempt (input text w) (tok ELSE & rule stmt) n s none b b

-- what a statement that ends so is; f says that an `else` there is known to fail
abbrev pub ending_with : Bool → Cursor → StmtPart
ending_with f e = record { part = ending e; tried = f }

-- a reader of g, given the cursor p and the node table T, left U and has read q, and an `else` where that ends fails at p's nest if q says so
pub data Ends (g : G) (text w : List ℕ) (p : Cursor) (T : List ℕ) (q : StmtPart) (U : List ℕ) : Type 0 where
  ends : (e : Cursor) → Reads g text w p T e U → q.part ≡ ending e → (q.tried ≡ true → e.status ≡ Reading → Tried text w p.nest e.at (reached e)) → Ends g text w p T q U
