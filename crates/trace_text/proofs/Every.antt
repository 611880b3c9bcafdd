-- Each text is a trace's or is refused.
use Rattle.std.proofs.Common.{◌≡◌, ℕ, zero, suc, ◌+◌, ◌<◌, ◌≤◌, true, List, [], ◌∷◌, ◌++◌, length, refl, arith, ◌⊎◌, inl, inr}
use Rattle.serial_model.specs.declared.end.End.{End}
use Rattle.serial_model.specs.declared.entry.Entry.{Entry}
use Rattle.serial_model.specs.declared.trace.Trace.{Trace}
use Rattle.serial_model.specs.declared.trace.LineKind.{LineKind}
use Rattle.serial_model.specs.declared.trace.LineKind.TheVariants.{BadLine, TooLong}
use Rattle.serial_model.specs.Limits.{Budget}
use Rattle.serial_model.specs.Trace.{IsTextOfTrace, trace_refusal, trace_limit}
use Rattle.trace_text.specs.Cut.{is_without}
use Rattle.trace_text.specs.Lines.{IsEndText}
use Rattle.trace_text.proofs.Cuts.{length_cut}
use Rattle.trace_text.proofs.Deciding.{Begins, Either, Parts, begins, is_cut, is_less, is_same}
use Rattle.trace_text.proofs.DecidingLines.{Found, IsLimitsLine, an_end, an_entry, is_limits, is_line, none}
use Rattle.trace_text.proofs.Passing.{Passed, done_trace, head_line, no_limits_lead, no_limits_uncut, none_leads, none_leads_uncut, passed_limits, passed_more, refused_after, refused_head, refused_here, refused_limits, taken}

-- the bytes are some trace's text, or they are refused
abbrev pub Settled : List ℕ → Type 0
Settled bytes = ((t : Trace) × IsTextOfTrace t bytes) ⊎ ((kind : LineKind) × (line : ℕ) × trace_refusal bytes kind line)

-- what is known of the bytes whose first lines are read, where the rest is so long at most
abbrev Rest : ℕ → List ℕ → Budget → Type 0
Rest bound bytes limits = (entries : List Entry) (rest : List ℕ) → length rest < bound → Passed bytes limits entries rest → Settled bytes

ended : (bytes : List ℕ) (limits : Budget) (entries : List Entry) (rest : List ℕ) (parts : Parts 10 rest) (end : End) → length bytes ≤ trace_limit → Passed bytes limits entries rest → IsEndText end parts.before
    → Either (parts.after ≡ []) → Settled bytes
ended bytes limits entries rest parts end short passed is (inl over) =
    inl (done_trace limits entries end, taken bytes limits (record { items = entries; room = 0 }) rest parts.before parts.after end short passed parts.cut is over)
ended bytes limits entries rest parts end short passed is (inr more) =
    inr (BadLine, 4 + length entries, refused_after bytes limits entries rest parts.before parts.after end (4 + length entries) short passed parts.cut is more refl)

one_line : (bound : ℕ) (bytes : List ℕ) (limits : Budget) (entries : List Entry) (rest : List ℕ) (parts : Parts 10 rest) → length bytes ≤ trace_limit → Rest bound bytes limits → length rest < suc bound → Passed bytes limits entries rest
    → Found parts.before → Settled bytes
one_line bound bytes limits entries rest parts short later within passed (an_entry entry is) =
    later (entries ++ entry ∷ []) parts.after (let less = length_cut 10 rest parts.before parts.after parts.cut in omega arith) (passed_more bytes limits entries rest parts.before parts.after entry passed parts.cut is)
one_line bound bytes limits entries rest parts short later within passed (an_end end is) = ended bytes limits entries rest parts end short passed is (is_same parts.after [])
one_line bound bytes limits entries rest parts short later within passed (none no_line) =
    inr (BadLine, 3 + length entries, refused_here bytes limits entries rest (3 + length entries) short passed (none_leads rest parts.before parts.after parts.cut no_line) refl)

cut_line : (bound : ℕ) (bytes : List ℕ) (limits : Budget) (entries : List Entry) (rest : List ℕ) → length bytes ≤ trace_limit → Rest bound bytes limits → length rest < suc bound → Passed bytes limits entries rest
    → Parts 10 rest ⊎ (is_without 10 rest ≡ true) → Settled bytes
cut_line bound bytes limits entries rest short later within passed (inl parts) = one_line bound bytes limits entries rest parts short later within passed (is_line parts.before)
cut_line bound bytes limits entries rest short later within passed (inr without) =
    inr (BadLine, 3 + length entries, refused_here bytes limits entries rest (3 + length entries) short passed (none_leads_uncut rest without) refl)

lines_from : (bound : ℕ) (bytes : List ℕ) (limits : Budget) → length bytes ≤ trace_limit → Rest bound bytes limits
lines_from zero bytes limits short entries rest within passed = absurd (omega arith)
lines_from (suc bound) bytes limits short entries rest within passed = cut_line bound bytes limits entries rest short (lines_from bound bytes limits short) within passed (is_cut 10 rest)

limits_from : (bytes : List ℕ) (begun : Begins head_line bytes) (parts : Parts 10 begun.rest) → length bytes ≤ trace_limit → Either (IsLimitsLine parts.before) → Settled bytes
limits_from bytes begun parts short (inl w) = lines_from (suc (length parts.after)) bytes w.limits short [] parts.after (omega arith) (passed_limits bytes begun.rest parts.before parts.after w.limits begun.joined parts.cut w.is)
limits_from bytes begun parts short (inr no_limits) =
    inr (BadLine, 2, refused_limits bytes begun.rest short begun.joined (no_limits_lead begun.rest parts.before parts.after parts.cut (λ limits is. no_limits (record { limits = limits; is = is }))))

second_line : (bytes : List ℕ) (begun : Begins head_line bytes) → length bytes ≤ trace_limit → Parts 10 begun.rest ⊎ (is_without 10 begun.rest ≡ true) → Settled bytes
second_line bytes begun short (inl parts) = limits_from bytes begun parts short (is_limits parts.before)
second_line bytes begun short (inr without) = inr (BadLine, 2, refused_limits bytes begun.rest short begun.joined (no_limits_uncut begun.rest without))

first_line : (bytes : List ℕ) → length bytes ≤ trace_limit → Either (Begins head_line bytes) → Settled bytes
first_line bytes short (inl begun) = second_line bytes begun short (is_cut 10 begun.rest)
first_line bytes short (inr other) = inr (BadLine, 1, refused_head bytes short (λ rest e. other (record { rest = rest; joined = e })))

by_length : (bytes : List ℕ) → Either (trace_limit < length bytes) → Settled bytes
by_length bytes (inl long) = inr (TooLong, 1, (long, refl))
by_length bytes (inr not_long) = first_line bytes (omega arith) (begins head_line bytes)

pub every : (bytes : List ℕ) → Settled bytes
every bytes = by_length bytes (is_less trace_limit (length bytes))
