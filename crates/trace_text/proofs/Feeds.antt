-- The lines of a trace have no line feed but the one that ends each.
use Rattle.std.proofs.Common.{◌≡◌, ℕ, ◌<◌, ◌^◌, true, List, ◌++◌, refl, arith, inl}
use Rattle.std.specs.Fmt.{decimal}
use Rattle.std.specs.Prelude.{codes}
use Rattle.value_core.specs.FaultCodes.{code_number}
use Rattle.value_core.specs.Name.{name_text}
use Rattle.value_core.specs.Place.{Spot}
use Rattle.serial_model.specs.declared.end.End.{End}
use Rattle.serial_model.specs.declared.end.End.TheVariants.{Done, Fault, Spent, UnitsSpent}
use Rattle.serial_model.specs.declared.entry.Entry.{Entry}
use Rattle.serial_model.specs.declared.entry.Entry.TheVariants.{Run, Take}
use Rattle.serial_model.specs.Limits.{Budget, IsInRange}
use Rattle.serial_model.specs.Trace.{IsEnd, IsEntry, IsName, IsPlace, end_text, entry_text, limits_text, place_text}
use Rattle.trace_text.specs.Cut.{is_without}
use Rattle.trace_text.proofs.Cuts.{without_append}
use Rattle.trace_text.proofs.Digits.{decimal_without, name_without}
use Rattle.trace_text.proofs.Shapes.{code_small}

name_one_line : (name : List ℕ) → IsName name → is_without 10 (name_text name) ≡ true
name_one_line name is = name_without 10 name (inl (omega arith)) refl is

number_one_line : (n : ℕ) → n < 2 ^ 64 → is_without 10 (decimal n) ≡ true
number_one_line n small = decimal_without 10 n (inl (omega arith)) small

-- two words with a mark between them
two : (a mark b : List ℕ) → is_without 10 a ≡ true → is_without 10 mark ≡ true → is_without 10 b ≡ true → is_without 10 ((a ++ mark) ++ b) ≡ true
two a mark b p q r = without_append 10 (a ++ mark) b (without_append 10 a mark p q) r

place_one_line : (at : Spot) → IsPlace at → is_without 10 (place_text at) ≡ true
place_one_line at is =
    let small_line = is.small_line in
    let small_column = is.small_column in
    two (decimal at.line) (codes ":") (decimal at.column) (number_one_line at.line (omega arith)) refl (number_one_line at.column (omega arith))

pub limits_one_line : (limits : Budget) → IsInRange limits → is_without 10 (limits_text limits) ≡ true
limits_one_line limits is =
    let low = is.most_fuel in
    let few = is.most_units in
    two (decimal limits.fuel) (codes " ") (decimal limits.units) (number_one_line limits.fuel (omega arith)) refl (number_one_line limits.units (omega arith))

pub entry_one_line : (entry : Entry) → IsEntry entry → is_without 10 (entry_text entry) ≡ true
entry_one_line (Run unit) is = name_one_line unit is
entry_one_line (Take actor sender) is = two (name_text actor) (codes " ") (name_text sender) (name_one_line actor is.0) refl (name_one_line sender is.1)

pub end_one_line : (end : End) → IsEnd end → is_without 10 (end_text end) ≡ true
end_one_line Done is = refl
end_one_line (Fault failed at unit) is =
    let small = code_small failed in
    two ((decimal (code_number failed) ++ codes " ") ++ place_text at) (codes " ") (name_text unit)
    (two (decimal (code_number failed)) (codes " ") (place_text at) (number_one_line (code_number failed) (omega arith)) refl (place_one_line at is.0)) refl (name_one_line unit is.1)
end_one_line (Spent unit) is = name_one_line unit is
end_one_line UnitsSpent is = refl
