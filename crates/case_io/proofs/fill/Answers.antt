use Rattle.std.proofs.Common.{◌≡◌, ℕ, ◌+◌, ◌≤◌, List, ◌++◌, length, take, rules, subst, sym, ◌∙◌, ap, length-take-le}
use Rattle.std.proofs.Math.Seq.{take-append-add}
use Rattle.std.proofs.lemmas.List.{take-append-le}
use Rattle.std.specs.Io.KnownBytes.{Consumes}
use Rattle.std.proofs.KnownBytes.{Consumes-trans}
use Rattle.case_io.proofs.fill.Goals as goal

-- the front of a buffer and the bytes that were read behind it
front_more : (a n : ℕ) (xs ys zs : List ℕ) → a ≤ length xs → n ≤ length ys → take a xs ++ take n ys ≡ take (a + n) (take a xs ++ (ys ++ zs))
front_more a n xs ys zs h k =
    sym (ap (λ m. take (m + n) (take a xs ++ (ys ++ zs))) (sym (length-take-le a xs h)) ∙ take-append-add (take a xs) (ys ++ zs) n ∙ ap (λ l. take a xs ++ l) (take-append-le n ys zs k))

pub loop-n-preserved : goal.loop-n-preserved
loop-n-preserved g c =
    let loop = c.loop-n.invariant in
    let read = c.in_ok-k.ensures in
    record {
      within = search rules;
      bytes = subst (Consumes _ _) (front_more c.loop-n.n c.in_ok-k.k c.loop-n.buf c.read.new.buf _ loop.within read.bound.0) (Consumes-trans _ _ _ _ _ loop.bytes read.bytes.0);
    }
