-- From what is written to what is answered. Assumes nothing.
use mathlib.Core.Path.{◌≡◌, refl, ap, ◌∙◌}
use mathlib.Core.Bool.{Bool, true, false}
use mathlib.Core.List.{List, []}
use Prim.Native.Nat.{ℕ, zero-le}
use denote.Ref.{MutBor}
use lib.ListN.{length, replicate}
use borrow.Author.Tests.{le-leb, lt-leb}
use Rattle.std.specs.Prelude.{Option, Result, Err}
use Rattle.std.specs.Option.{ok_or}
use Rattle.tables.specs.Tables.{Node}
use Rattle.json_text.specs.Json.{listing}
use Rattle.json_text.specs.Writes.{Holds, held, Begins, Writes, Finished, fits, past, Finishes}
use Rattle.json_text.specs.declared.writer.Writer.{Writer}
use Rattle.listing.specs.Answers.{all_are_known, fitted, listed, ListedIs}
use Rattle.listing.specs.declared.ListError.{ListError}
use Rattle.listing.specs.declared.ListError.TheVariants.{Kind, Room}

finished : (n : ℕ) {t U : List ℕ} {r : Option ℕ} → Finished t n U r → ListedIs (fitted n t) n U (ok_or r Room)
unfolding fitted
finished n {t} (fits h) = rw (le-leb (length t) n h) record { answer = refl; bytes = refl }
finished n {t} (past h) = rw (lt-leb (length t) n h) record { answer = refl; bytes = refl }

began : {o : MutBor (List ℕ)} {a : Writer} → Begins o a → Holds [] a.out.now a.end
began p = rw p.end (held zero-le refl)

-- what was written from the start to the end is answered
pub written : {o : MutBor (List ℕ)} {a b : Writer} {w U V : List ℕ} {r : Option ℕ} {q : Result ℕ ListError} → Begins o a → Writes w a b → Finishes b V r → U ≡ V → q ≡ ok_or r Room → ListedIs (fitted (length o.now) w) (length o.now) U q
written {o} {a} {b} {w} p s f e g =
    let n : length b.out.now ≡ length o.now = s.size ∙ ap length p.bytes in
    rw (e, g, ← n) (finished _ (f.on w (s.on [] (began p))))

pub all_known : (ns : List Node) {b : Bool} {n : ℕ} {out : List ℕ} {r : Result ℕ ListError} → b ≡ all_are_known ns → b ≡ true → ListedIs (fitted n (listing ns)) n out r → ListedIs (listed n ns) n out r
unfolding listed
all_known ns e f p = rw (← e, f) p

pub some_unknown : (ns : List Node) {n : ℕ} {U : List ℕ} {b : Bool} → b ≡ all_are_known ns → b ≡ false → U ≡ replicate n 0 → ListedIs (listed n ns) n U (Err Kind)
unfolding listed
some_unknown ns e f g = rw (← e, f) record { answer = refl; bytes = g }
