-- Ordered-choice grammars: what a grammar derives at a place among the tokens, and which tokens its attempts take. Assumes nothing.
use Rattle.std.specs.Prelude.{ℕ, suc, pred, ◌+◌, ◌-◌, ◌≡◌, cond, List, [], ◌∷◌, ◌++◌, eqb, get_or}
use Rattle.std.proofs.Math.ListN as L
use Rattle.patterns.specs.Bytes.{bytes, same}
use Rattle.grammar.specs.Kinds.{Named, Count, Literal, LiteralFelt, LiteralU32}
pub use Rattle.tables.specs.Tables.{Token, Node}

infixr 50 ◌&◌
infixr 40 ◌or◌
-- a text's bytes and its tokens
pub record Input : Type 0 where
  pub text : List ℕ
  pub tokens : List Token

-- past the last token stands one of kind 0, which no grammar wants
abbrev pub token : Input → ℕ → Token
token x i = get_or x.tokens i (record { kind = 0; suffix = 0; start = 0; end = 0; base = 0; value = 0 })

-- Named's value, by the token's spelling: 0 felt, 1 bool, 2 u32, 3 other
unfoldable pub type_name : List ℕ → ℕ
unfolding same
type_name w = cond (same (bytes "felt") w) 0 (cond (same (bytes "bool") w) 1 (cond (same (bytes "u32") w) 2 3))

-- the bytes of the text under a token
abbrev pub spelling : Input → Token → List ℕ
spelling x t = L.take (t.end - t.start) (L.drop t.start x.text)

-- ---- grammars

-- the rules; `level n` is the nth binary level, tightest first, over `level 0`, casts
pub data R : Type 0 where
  type alloc pattern expr stmt unary init_let init_action for_step param unit item : R
  level : ℕ → R

-- what becomes of a token that is taken
pub data Act : Type 0 where
  skip : Act  -- nothing
  leaf : ℕ → ℕ → Act  -- a node of this kind and value
  named : Act  -- a Named, by its spelling
  literal : Act  -- a literal, by its suffix
  count : Act  -- a Count; with a suffix it is turned down
  index : Act  -- its value is the mark; with a suffix it is turned down
  mark : ℕ → Act  -- this number is the mark

-- where a node starts: at the first token, at the first part, or 0
pub data Start : Type 0 where
  first_token first_part from_nowhere : Start

-- where it ends: the last token taken, the last part, as a call, or 0
pub data End : Type 0 where
  last_token last_part call_end to_nowhere : End

-- what a grammar is made of, one at a time
pub data Step : Type 0 where
  take : ℕ → Act → Step  -- a token of this kind
  close : ℕ → Start → End → Step  -- all parts gathered become the children of a node of this kind; the mark is its value
  tick : Step  -- the mark goes up by 1
  alone : Step  -- turned down unless there is one part
  done : Step  -- nothing

-- expressions of ordered choice: first success wins, as 01 has it
pub data G : Type 0 where
  step : Step → G
  ◌&◌ : G → G → G  -- one after the other
  ◌or◌ : G → G → G  -- ordered choice, never reopened once an alternative has succeeded
  many : G → G  -- repetition, greedy; a failed round gives its tokens back
  both : G → G → G  -- the second, where the first reads the same tokens
  rule : R → G  -- a construct of its own: it is one part

-- ---- states

-- what the construct being read has gathered: the place of its first token, its parts, a mark, the start of the first part and the end of the last
pub record Frame : Type 0 where
  pub first : ℕ
  pub parts : ℕ
  pub mark : ℕ
  pub from : ℕ
  pub to : ℕ

-- the place reached; all nodes so far, children first; the literals so far with a suffix that is neither felt nor u32
pub record S : Type 0 where
  pub at : ℕ
  pub nodes : List Node
  pub unknown : List Token
  pub frame : Frame

-- a rule derives a state, or fails
pub data Out : Type 0 where
  got : S → Out
  none : Out

-- nothing gathered yet, before the token i
abbrev pub fresh : ℕ → Frame
fresh i = record { first = i; parts = 0; mark = 0; from = 0; to = 0 }

-- the start of a text
abbrev pub begin : S
begin = record { at = 0; nodes = []; unknown = []; frame = fresh 0 }

-- one part more, from a to b
unfoldable pub part : ℕ → ℕ → Frame → Frame
part a b f = record { first = f.first; parts = suc f.parts; mark = f.mark; from = cond (eqb f.parts 0) a f.from; to = b }

-- past one token
abbrev pub next : S → S
next s = record { at = suc s.at; nodes = s.nodes; unknown = s.unknown; frame = s.frame }

-- the same with the mark m
abbrev pub marked : ℕ → S → S
marked m s =
    let f = s.frame in
    record { at = s.at; nodes = s.nodes; unknown = s.unknown; frame = record { first = f.first; parts = f.parts; mark = m; from = f.from; to = f.to } }

-- a leaf over the token t, of kind k, base b and value v
abbrev pub emit : Token → ℕ → ℕ → ℕ → S → S
emit t k b v s =
    record {
      at = s.at;
      nodes = s.nodes ++ (record { kind = k; base = b; start = t.start; end = t.end; children = 0; value = v } ∷ []);
      unknown = s.unknown;
      frame = part t.start t.end s.frame;
    }

-- a literal with suffix 3 is derived as a Literal, and kept in mind
abbrev pub noted : Token → S → S
noted t s = record { at = s.at; nodes = s.nodes; unknown = cond (eqb t.suffix 3) (s.unknown ++ (t ∷ [])) s.unknown; frame = s.frame }

-- spans run from the first token's start to the last token's end, except ..
abbrev pub starts : Input → Start → S → ℕ
starts x first_token s = (token x s.frame.first).start
starts x first_part s = s.frame.from
starts x from_nowhere s = 0

-- .. a call without arguments ends at callee end + 2
abbrev pub ends : Input → End → S → ℕ
ends x last_token s = (token x (pred s.at)).end
ends x last_part s = s.frame.to
ends x call_end s = cond (eqb s.frame.parts 1) (s.frame.to + 2) s.frame.to
ends x to_nowhere s = 0

-- all parts become the children of one node, which is then the only part
abbrev pub closed : ℕ → ℕ → ℕ → S → S
closed k a b s =
    record {
      at = s.at;
      nodes = s.nodes ++ (record { kind = k; base = 0; start = a; end = b; children = s.frame.parts; value = s.frame.mark } ∷ []);
      unknown = s.unknown;
      frame = record { first = s.frame.first; parts = 1; mark = 0; from = a; to = b };
    }

-- the kind of a literal, by its suffix: 1 felt, 2 u32, else Literal
abbrev pub literal_kind : ℕ → ℕ
literal_kind n = cond (eqb n 1) LiteralFelt (cond (eqb n 2) LiteralU32 Literal)

-- ---- what a grammar derives

-- a token t of the kind wanted, just gone past; the three literals and Count carry its base, all other nodes have 0
abbrev pub act : Input → Act → Token → S → Out
act x skip t s = got s
act x (leaf k v) t s = got (emit t k 0 v s)
act x named t s = got (emit t Named 0 (type_name (spelling x t)) s)
act x literal t s = got (emit t (literal_kind t.suffix) t.base t.value (noted t s))
act x count t s = cond (eqb t.suffix 0) (got (emit t Count t.base t.value s)) none
act x index t s = cond (eqb t.suffix 0) (got (marked t.value s)) none
act x (mark m) t s = got (marked m s)

-- what one step makes of a state
unfoldable pub yields : Input → Step → S → Out
yields x (take k a) s = cond (eqb (token x s.at).kind k) (act x a (token x s.at) (next s)) none
yields x (close k a b) s = got (closed k (starts x a s) (ends x b s) s)
yields x tick s = got (marked (suc s.frame.mark) s)
yields x alone s = cond (eqb s.frame.parts 1) (got s) none
yields x done s = got s

-- a rule is read in a frame of its own, and is then one part of the frame around it
abbrev pub enter : S → S
enter s = record { at = s.at; nodes = s.nodes; unknown = s.unknown; frame = fresh s.at }

-- the nodes stay, and what was gathered inside is one part outside
unfoldable pub leave : S → Out → Out
leave s (got t) = got (record { at = t.at; nodes = t.nodes; unknown = t.unknown; frame = part t.frame.from t.frame.to s.frame })
leave s none = none

-- both succeed and end at the same place: the second's state
unfoldable pub agree : Out → Out → Out
agree (got a) (got b) = cond (eqb a.at b.at) (got b) none
agree (got a) none = none
agree none (got b) = none
agree none none = none

module _ (body : R → G) (x : Input) where
  -- what g derives from s: a state, or none
  pub data Derives : G → S → Out → Type 0 where
    stepped : {p : Step} {s : S} → Derives (step p) s (yields x p s)
    and_not : {g h : G} {s : S} → Derives g s none → Derives (g & h) s none
    and_then : {g h : G} {s t : S} {o : Out} → Derives g s (got t) → Derives h t o → Derives (g & h) s o
    or_first : {g h : G} {s t : S} → Derives g s (got t) → Derives (g or h) s (got t)
    or_else : {g h : G} {s : S} {o : Out} → Derives g s none → Derives h s o → Derives (g or h) s o
    no_more : {g : G} {s : S} → Derives g s none → Derives (many g) s (got s)
    one_more : {g : G} {s t : S} {o : Out} → Derives g s (got t) → Derives (many g) t o → Derives (many g) s o
    agreed : {g h : G} {s : S} {o q : Out} → Derives g s o → Derives h s q → Derives (both g h) s (agree o q)
    ruled : {r : R} {s : S} {o : Out} → Derives (body r) (enter s) o → Derives (rule r) s (leave s o)

  -- an attempt at g from s, begun at nest n, takes the token i at nest m, even if it then fails; `nests r` is what the rule r adds
  pub data Takes (nests : R → ℕ) (i m : ℕ) : G → ℕ → S → Type 0 where
    here : {k : ℕ} {a : Act} {n : ℕ} {s : S} → (token x s.at).kind ≡ k → s.at ≡ i → n ≡ m → Takes nests i m (step (take k a)) n s
    and_left : {g h : G} {n : ℕ} {s : S} → Takes nests i m g n s → Takes nests i m (g & h) n s
    and_right : {g h : G} {n : ℕ} {s t : S} → Derives g s (got t) → Takes nests i m h n t → Takes nests i m (g & h) n s
    or_left : {g h : G} {n : ℕ} {s : S} → Takes nests i m g n s → Takes nests i m (g or h) n s
    or_right : {g h : G} {n : ℕ} {s : S} → Derives g s none → Takes nests i m h n s → Takes nests i m (g or h) n s
    now : {g : G} {n : ℕ} {s : S} → Takes nests i m g n s → Takes nests i m (many g) n s
    later : {g : G} {n : ℕ} {s t : S} → Derives g s (got t) → Takes nests i m (many g) n t → Takes nests i m (many g) n s
    both_first : {g h : G} {n : ℕ} {s : S} → Takes nests i m g n s → Takes nests i m (both g h) n s
    inside : {r : R} {n : ℕ} {s : S} → Takes nests i m (body r) (n + nests r) (enter s) → Takes nests i m (rule r) n s
