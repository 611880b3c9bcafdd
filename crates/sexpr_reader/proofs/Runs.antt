-- The longest text of bytes that pass a test is the only one.
use Rattle.std.proofs.Common.{◌≡◌, ℕ, Bool, true, false, List, [], ◌∷◌, ◌++◌, refl, sym, ◌∙◌}
use Rattle.std.specs.List.{list_all}
use Rattle.std.proofs.lemmas.Bool.{and_parts}
use Rattle.sexpr_reader.specs.Cursor.{Cursor, Over, Spans}
use Rattle.sexpr_reader.specs.Lead.{begins}
use Rattle.sexpr_reader.specs.Runs.{IsRun}
use Rattle.sexpr_reader.proofs.Cursors.{Over-same}

-- two texts that pass, each before a byte that doesn't or at the end, are one
same_text : (p : ℕ → Bool) (t u x y : List ℕ) → list_all p t ≡ true → list_all p u ≡ true → begins p x ≡ false → begins p y ≡ false → t ++ x ≡ u ++ y → t ≡ u
same_text p [] [] x y a b f g e = refl
same_text p [] (c ∷ u) x y a b f g e =
    let head : begins p x ≡ true = rw e ((and_parts (p c) (list_all p u) b).0) in absurd (cc)
same_text p (c ∷ t) [] x y a b f g e =
    let head : begins p y ≡ true = rw (← e) ((and_parts (p c) (list_all p t) a).0) in absurd (cc)
same_text p (c ∷ t) (d ∷ u) x y a b f g e =
    let heads : c ≡ d = cc in
    let tails : t ++ x ≡ u ++ y = cc in
    let one = same_text p t u x y ((and_parts (p c) (list_all p t) a).1) ((and_parts (p d) (list_all p u) b).1) f g tails in cc

pub IsRun-text : (p : ℕ → Bool) (t u : List ℕ) {c d e : Cursor} → IsRun p t c d → Spans p u c e → begins p e.rest ≡ false → t ≡ u
IsRun-text p t u {c} {d} {e} run other ends =
    same_text p t u d.rest e.rest run.spans.each other.each run.ends ends (sym run.spans.over.bytes ∙ other.over.bytes)

pub IsRun-same : (p : ℕ → Bool) (t u : List ℕ) {c d e : Cursor} → IsRun p t c d → Spans p u c e → begins p e.rest ≡ false → d ≡ e
IsRun-same p t u {c} {d} {e} run other ends =
    let other_over : Over t c e = rw (IsRun-text p t u run other ends) other.over in Over-same t run.spans.over other_over
