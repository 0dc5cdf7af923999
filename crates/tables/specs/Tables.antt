-- The tables that a caller lends: bytes, as a C struct lays the entries out. Assumes nothing.
use Rattle.std.specs.Prelude.{cond, List, [], ◌∷◌, ◌++◌, ℕ, zero, suc, ◌+◌, ◌-◌, ◌*◌, ◌/◌, ◌%◌, ◌^◌, min, ltb, length, get_or, take, drop, replicate}
use Rattle.std.proofs.lemmas.List.Edits.{sets}
use Rattle.tables.specs.declared.token.Token.{Token as TokenStruct}
use Rattle.tables.specs.declared.node.Node.{Node as NodeStruct}
use Rattle.tables.specs.declared.diagnostic.Diagnostic.{Diagnostic as DiagnosticStruct}

-- the entries: the structs of src/, by their names here
abbrev pub Token : Type 0
Token = TokenStruct

abbrev pub Node : Type 0
Node = NodeStruct

abbrev pub Diagnostic : Type 0
Diagnostic = DiagnosticStruct

-- little-endian numbers of 16 bits
unfoldable pub le16 : ℕ → List ℕ
le16 v = v % 256 ∷ v / 256 % 256 ∷ []

-- and of 64
unfoldable pub le64 : ℕ → List ℕ
le64 v =
    v % 256 ∷ v / 2 ^ 8 % 256 ∷ v / 2 ^ 16 % 256 ∷ v / 2 ^ 24 % 256 ∷ v / 2 ^ 32 % 256 ∷ v / 2 ^ 40 % 256 ∷ v / 2 ^ 48 % 256 ∷ v / 2 ^ 56 % 256 ∷ []

-- an entry of 16 bytes: kind u8, suffix u8, start u16, end u16, base u8, a zero byte, value u64
unfoldable pub encode_token : Token → List ℕ
unfolding le16 le64
encode_token t = (t.kind ∷ t.suffix ∷ le16 t.start) ++ le16 t.end ++ (t.base ∷ 0 ∷ le64 t.value)

-- an entry of 16 bytes: kind u8, base u8, start u16, end u16, children u16, value u64
unfoldable pub encode_node : Node → List ℕ
unfolding le16 le64
encode_node n = (n.kind ∷ n.base ∷ le16 n.start) ++ le16 n.end ++ le16 n.children ++ le64 n.value

-- an entry of 8 bytes: start u16, end u16, reason u8, three zero bytes
unfoldable pub encode_diagnostic : Diagnostic → List ℕ
unfolding le16
encode_diagnostic d = le16 d.start ++ le16 d.end ++ (d.reason ∷ 0 ∷ 0 ∷ 0 ∷ [])

-- entries one after the other
unfoldable pub joined : {A : Type 0} → (A → List ℕ) → List A → List ℕ
joined f [] = []
joined f (a ∷ l) = f a ++ joined f l

-- a table of n bytes: the bytes b, then zero
unfoldable pub filled : ℕ → List ℕ → List ℕ
filled n b = take n (b ++ replicate n 0)

-- a table of n bytes: its first entries, each of that size, as many as there is room for, then zero
unfoldable pub table : {A : Type 0} → ℕ → (A → List ℕ) → ℕ → List A → List ℕ
unfolding filled joined
table size f n l = filled n (joined f (take (n / size) l))

-- the table of these tokens, in n bytes
abbrev pub token_table : ℕ → List Token → List ℕ
token_table n ts = table 16 encode_token n ts

-- the table of these nodes, in n bytes
abbrev pub node_table : ℕ → List Node → List ℕ
node_table n ns = table 16 encode_node n ns

-- the table of these diagnostics, in n bytes
abbrev pub diagnostic_table : ℕ → List Diagnostic → List ℕ
diagnostic_table n ds = table 8 encode_diagnostic n ds

-- the table t with its first entries laid over what it had, as many as there is room for
unfoldable pub laid : {A : Type 0} → ℕ → (A → List ℕ) → List ℕ → List A → List ℕ
unfolding joined
laid size f t l = joined f (take (length t / size) l) ++ drop (length (joined f (take (length t / size) l))) t

-- ---- what the leaf functions do
-- entry i is b, where there is room for it
unfoldable pub stored : ℕ → List ℕ → ℕ → List ℕ → List ℕ
stored size t i b = cond (ltb i (length t / size)) (sets t (i * size) b) t

-- all bytes from that one on are zero
unfoldable pub cleared : ℕ → List ℕ → List ℕ
cleared from t = take from t ++ replicate (length t - from) 0

-- all but the first k entries are zero
unfoldable pub kept : ℕ → ℕ → List ℕ → List ℕ
unfolding cleared
kept size k t = cleared (min k (length t / size) * size) t

-- ---- what they read
-- the little-endian number of n bytes from place a on
unfoldable pub number : List ℕ → ℕ → ℕ → ℕ
number b a zero = 0
number b a (suc n) = get_or b a 0 + 256 * number b (suc a) n

-- the bytes of entry i of a table; none where the table has no entry i
unfoldable pub entry_at : ℕ → List ℕ → ℕ → List ℕ
entry_at size t i = cond (ltb i (length t / size)) (take size (drop (i * size) t)) []

-- the token that an entry's bytes say
abbrev pub decode_token : List ℕ → Token
decode_token b = record { kind = number b 0 1; suffix = number b 1 1; start = number b 2 2; end = number b 4 2; base = number b 6 1; value = number b 8 8 }

-- the node that an entry's bytes say
abbrev pub decode_node : List ℕ → Node
decode_node b = record { kind = number b 0 1; base = number b 1 1; start = number b 2 2; end = number b 4 2; children = number b 6 2; value = number b 8 8 }

-- the diagnostic that an entry's bytes say
abbrev pub decode_diagnostic : List ℕ → Diagnostic
decode_diagnostic b = record { start = number b 0 2; end = number b 2 2; reason = number b 4 1 }

-- entry i of a table of tokens, all 0 where the table has no entry i
abbrev pub token_at : List ℕ → ℕ → Token
token_at t i = decode_token (entry_at 16 t i)

-- entry i of a table of nodes, all 0 where the table has no entry i
abbrev pub node_at : List ℕ → ℕ → Node
node_at t i = decode_node (entry_at 16 t i)

-- entry i of a table of diagnostics, all 0 where the table has no entry i
abbrev pub diagnostic_at : List ℕ → ℕ → Diagnostic
diagnostic_at t i = decode_diagnostic (entry_at 8 t i)

-- the list of f 0, f 1 and so on, n of them
unfoldable pub tabulate : {A : Type 0} → ℕ → (ℕ → A) → List A
tabulate zero f = []
tabulate (suc n) f = f 0 ∷ tabulate n (λ i. f (suc i))

-- all tokens of a table
unfoldable pub tokens_of : List ℕ → List Token
unfolding tabulate
tokens_of t = tabulate (length t / 16) (λ i. token_at t i)

-- all nodes of a table
unfoldable pub nodes_of : List ℕ → List Node
unfolding tabulate
nodes_of t = tabulate (length t / 16) (λ i. node_at t i)

-- all diagnostics of a table
unfoldable pub diagnostics_of : List ℕ → List Diagnostic
unfolding tabulate
diagnostics_of t = tabulate (length t / 8) (λ i. diagnostic_at t i)
