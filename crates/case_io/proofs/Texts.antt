-- The text of a listing is what its output begins with. Assumes nothing.
use Rattle.std.proofs.Common.{◌≡◌, ℕ, ◌≤◌, List, [], take, Result, Ok, Err, sym, ap, ◌∙◌, ◌++◌, length, replicate, true≢false}
use Rattle.std.proofs.lemmas.List.{take-take}
use Rattle.std.proofs.Math.Seq.{take-append_seam}
use Rattle.std.specs.Result.{result_unwrap_or, is_ok}
use Rattle.tables.specs.Tables.{filled}
use Rattle.listing.specs.Answers.{ListedIs}
use Rattle.listing.specs.declared.ListError.{ListError}

pub text_of : (x : Result (List ℕ) ListError) {n k : ℕ} {out : List ℕ} → ListedIs x n out (Ok k) → k ≤ n → x ≡ Ok (take k out)
unfolding filled
text_of (Ok w) {n} {k} h b =
    let size : k ≡ length w = ap (λ r. result_unwrap_or r 0) h.answer in
    sym (ap Ok (ap (take k) h.bytes ∙ take-take k n _ b ∙ ap (λ m. take m (w ++ replicate n 0)) size ∙ take-append_seam w _))
text_of (Err e) h b = absurd (true≢false (ap is_ok h.answer))

abbrev no_text : Result ℕ ListError → Result (List ℕ) ListError
no_text (Ok k) = Ok []
no_text (Err e) = Err e

pub error_of : (x : Result (List ℕ) ListError) {n : ℕ} {out : List ℕ} {e : ListError} → ListedIs x n out (Err e) → x ≡ Err e
error_of (Ok w) h = absurd (true≢false (ap is_ok (sym h.answer)))
error_of (Err e) h = sym (ap no_text h.answer)
