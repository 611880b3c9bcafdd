-- Why bytes are read as no schedule, handed on.
use Rattle.std.proofs.Common.{◌≡◌, ℕ, ◌+◌, ◌≤◌, List, length, sym, subst, Result, Ok, Err}
use Rattle.std.specs.Result.{IfErr, IsErrAnd}
use Rattle.serial_model.specs.declared.trace.LineKind.TheVariants.{BadLine}
use Rattle.schedule_text.specs.declared.error.LineNo.{LineNo}
use Rattle.schedule_text.specs.declared.error.LineNo.TheVariants.{Refused, Memory}
use Rattle.schedule_text.specs.declared.line.Line.{Line}
use Rattle.schedule_text.specs.Refused.{IsLineWhy, IsNameWhy, IsWhy}
use Rattle.schedule_text.specs.Schedule.{schedule_limit, schedule_refusal}
use Rattle.schedule_text.proofs.Passing.{Passed, none_leads, refused_here}
use Rattle.schedule_text.proofs.Shapes.{IsNoLine, IsNoName}
use Rattle.trace_text.specs.Cut.{IsCut}

-- an error that is handed on is the same
pub handed_on : {T : Type 0} (P : LineNo → Type 0) (r : Result T LineNo) (found : LineNo) → IsErrAnd r (λ why. why ≡ found) → P found → IfErr r P
handed_on P (Ok x) found e why = tt
handed_on P (Err given) found e why = subst P (sym e) why

-- a word that is no name's makes no line
pub line_why : (no : LineNo) (word text : List ℕ) (number : ℕ) → (IsNoName word → IsNoLine text) → IsNameWhy no word number → IsLineWhy no text number
line_why (Refused kind line) word text number none why = (why.0, why.1, none why.2)
line_why Memory word text number none why = tt

-- a text that is no line's, at its line
pub text_why : (no : LineNo) (bytes : List ℕ) (lines : List Line) (rest text after : List ℕ) (number : ℕ) → length bytes ≤ schedule_limit → Passed bytes lines rest → IsCut 10 rest text after
    → number ≡ 1 + length lines → IsLineWhy no text number → IsWhy no bytes
text_why (Refused kind line) bytes lines rest text after number short passed cut at why =
    let refused = refused_here bytes lines rest number short passed (none_leads rest text after cut why.2) at in
    subst (λ k. schedule_refusal bytes k line) (sym why.0) (subst (λ n. schedule_refusal bytes BadLine n) (sym why.1) refused)
text_why Memory bytes lines rest text after number short passed cut at why = tt
