-- Why bytes are read as no trace.
use Rattle.std.specs.Prelude.{ℕ, List}
use Rattle.serial_model.specs.Trace.{trace_refusal}
use Rattle.serial_model.specs.declared.trace.LineKind.TheVariants.{BadLine}
use Rattle.trace_text.specs.declared.no.LineNo.{LineNo}
use Rattle.trace_text.specs.declared.no.LineNo.TheVariants as no
use Rattle.trace_text.specs.declared.error.TraceNo.{TraceNo}
use Rattle.trace_text.specs.declared.error.TraceNo.TheVariants.{Refused, Memory}

-- what it means for a text that a line of it is not read
abbrev pub why_at : LineNo → ℕ → TraceNo
why_at no.Bad line = Refused BadLine line
why_at no.Memory line = Memory

-- a refusal is the one that the bytes have; memory may be wanting for any bytes
abbrev pub IsWhy : TraceNo → List ℕ → Type 0
IsWhy (Refused kind line) bytes = trace_refusal bytes kind line
IsWhy Memory bytes = Unit {0}
