-- Why bytes are read as no trace, handed on.
use Rattle.std.proofs.Common.{◌≡◌, ℕ, List, refl, sym, subst, Option, Some, None, Result, Ok, Err}
use Rattle.std.specs.Option.{ok_or, IsNone}
use Rattle.std.specs.Result.{IfErr, IfOk, IsErrAnd, MatchResult}
use Rattle.serial_model.specs.declared.trace.LineKind.TheVariants.{BadLine}
use Rattle.serial_model.specs.Trace.{trace_refusal}
use Rattle.trace_text.specs.declared.no.LineNo.{LineNo}
use Rattle.trace_text.specs.declared.no.LineNo.TheVariants as no
use Rattle.trace_text.specs.declared.error.TraceNo.{TraceNo}
use Rattle.trace_text.specs.declared.error.TraceNo.TheVariants.{Refused, Memory}
use Rattle.trace_text.specs.Refused.{IsWhy, why_at}

-- an error that is handed on is the same
pub handed_on : {T : Type 0} (bytes : List ℕ) (r : Result T TraceNo) (found : TraceNo) → IsErrAnd r (λ why. why ≡ found) → IsWhy found bytes → IfErr r (λ why. IsWhy why bytes)
handed_on bytes (Ok x) found e why = tt
handed_on bytes (Err given) found e why = subst (λ no_trace. IsWhy no_trace bytes) (sym e) why

-- the error that stands for a missing value
pub for_no_value : {T : Type 0} (bytes : List ℕ) (o : Option T) (given found : TraceNo) (line : ℕ) → ok_or o given ≡ Err found → given ≡ Refused BadLine line → (IsNone o → trace_refusal bytes BadLine line) → IsWhy found bytes
for_no_value bytes None given found line e at refused = let same : found ≡ Refused BadLine line = cc in subst (λ why. IsWhy why bytes) (sym same) (refused refl)
for_no_value bytes (Some x) given found line e at refused = cc

-- what was read at a line
pub was_read : {T : Type 0} (read : Result T LineNo) (r : Result T TraceNo) (line : ℕ) (x : T) (P : T → Type 0)
    → MatchResult read (λ value. r ≡ Ok value) (λ found. r ≡ Err (why_at found line)) → r ≡ Ok x → IfOk read P → P x
was_read (Ok value) r line x P e was is = let same : value ≡ x = cc in subst P same is
was_read (Err found) r line x P e was is = cc

-- why nothing was read at a line
pub not_read : {T : Type 0} (bytes : List ℕ) (read : Result T LineNo) (r : Result T TraceNo) (line : ℕ) (found : TraceNo)
    → MatchResult read (λ value. r ≡ Ok value) (λ given. r ≡ Err (why_at given line)) → r ≡ Err found → (read ≡ Err no.Bad → trace_refusal bytes BadLine line) → IsWhy found bytes
not_read bytes (Ok value) r line found e was refused = cc
not_read bytes (Err no.Bad) r line found e was refused = let same : found ≡ Refused BadLine line = cc in subst (λ why. IsWhy why bytes) (sym same) (refused refl)
not_read bytes (Err no.Memory) r line found e was refused = let same : found ≡ Memory = cc in subst (λ why. IsWhy why bytes) (sym same) tt
