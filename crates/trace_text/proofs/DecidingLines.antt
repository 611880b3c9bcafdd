-- Whether a line is that of limits, an entry or an end: each is found out.
use Rattle.std.proofs.Common.{◌≡◌, ℕ, ◌<◌, List, ◌∷◌, ◌++◌, sym, ap, subst, ◌∙◌, arith, inl, inr, append_assoc}
use Rattle.std.specs.Fmt.{decimal}
use Rattle.std.specs.Prelude.{codes}
use Rattle.value_core.specs.FaultCodes.{code_number}
use Rattle.value_core.specs.Name.{name_text}
use Rattle.value_core.specs.NameText.{read_on}
use Rattle.value_core.specs.Place.{Spot}
use Rattle.value_core.proofs.Names.{read_on-decimal}
use Rattle.serial_model.specs.declared.end.End.{End}
use Rattle.serial_model.specs.declared.end.End.TheVariants.{Done, Fault, Spent, UnitsSpent}
use Rattle.serial_model.specs.declared.entry.Entry.{Entry}
use Rattle.serial_model.specs.declared.entry.Entry.TheVariants.{Run, Take}
use Rattle.serial_model.specs.Limits.{Budget, IsInRange}
use Rattle.serial_model.specs.Trace.{IsName, place_text}
use Rattle.trace_text.specs.Cut.{IsCut}
use Rattle.trace_text.specs.Lines.{IsEntryText, IsEndText, IsLimitsText, IsNoLine}
use Rattle.trace_text.proofs.Deciding.{Begins, Either, begins, is_less, is_name, is_number, is_pair, is_same}
use Rattle.trace_text.proofs.LineShapes.{IsFaultWords, no_fault, no_other_end, no_other_line, no_run, no_spent, no_take, three_joined}
use Rattle.trace_text.proofs.Pairs.{IsPair}
use Rattle.trace_text.proofs.Shapes.{IsCode, IsNameWord, IsNumber, IsPlaceWord, code_small, codes_never_space, names_never_space, no_limits, no_place, no_place_at_zero, numbers_never_colon, numbers_never_space, out_of_range, place_is, places_never_space}
use Rattle.trace_text.proofs.Unique.{code_at, code_at_number}

-- ---- codes
pub is_code : (word : List ℕ) → Either (IsCode word)
is_code word = elim (is_same (decimal (code_number (code_at (read_on 0 word)))) word) [
  | inl spelled ↦ inl (record { failed = code_at (read_on 0 word); is = record { spelled = spelled } })
  | inr other ↦ inr (λ w. other (ap (λ failed. decimal (code_number failed)) (code_is w) ∙ w.is.spelled))
]
  where
    code_is : (w : IsCode word) → code_at (read_on 0 word) ≡ w.failed
    code_is w = let small = code_small w.failed in ap (λ text. code_at (read_on 0 text)) (sym w.is.spelled) ∙ ap code_at (read_on-decimal (code_number w.failed) (omega arith)) ∙ code_at_number w.failed

-- ---- places
abbrev Numbers : ℕ → List ℕ → Type 0
Numbers mark bytes = IsPair mark IsNumber IsNumber bytes

place_cut : (word : List ℕ) (pair : Numbers 58 word) → IsCut 58 word pair.left pair.right
place_cut word pair = record { first = numbers_never_colon pair.left pair.first; joined = pair.joined }

place_of : (word : List ℕ) (pair : Numbers 58 word) → Either (0 < pair.first.number) → Either (0 < pair.second.number) → Either (IsPlaceWord word)
place_of word pair (inl line) (inl column) =
    let at : Spot = record { line = pair.first.number; column = pair.second.number } in
    inl (record {
      at = at;
      is = record {
        is_place = record { from_one = omega arith; small_line = pair.first.is.small; from_first = omega arith; small_column = pair.second.is.small };
        spelled = place_is at ∙ (λ i. pair.first.is.spelled i ++ 58 ∷ pair.second.is.spelled i) ∙ sym pair.joined;
      };
    })
place_of word pair (inl line) (inr none) = inr (λ w. no_place_at_zero word pair.left pair.right pair.first.number pair.second.number (place_cut word pair) pair.first.is pair.second.is (inr (omega arith)) w.at w.is)
place_of word pair (inr none) column = inr (λ w. no_place_at_zero word pair.left pair.right pair.first.number pair.second.number (place_cut word pair) pair.first.is pair.second.is (inl (omega arith)) w.at w.is)

pub is_place_word : (word : List ℕ) → Either (IsPlaceWord word)
is_place_word word = elim (is_pair 58 numbers_never_colon is_number is_number word) [
  | inl pair ↦ place_of word pair (is_less 0 pair.first.number) (is_less 0 pair.second.number)
  | inr none ↦ inr (λ w. no_place word none w.at w.is)
]

-- ---- limits
-- the line is that of some limits
pub record IsLimitsLine (line : List ℕ) : Type 0 where
  pub limits : Budget
  pub is : IsLimitsText limits line

in_range : (fuel units : ℕ) → Either (0 < fuel) → Either (fuel < 10000001) → Either (0 < units) → Either (units < 1000001) → Either (IsInRange (record { fuel = fuel; units = units }))
in_range fuel units (inl a) (inl b) (inl c) (inl d) = inl (record { some_fuel = omega arith; most_fuel = omega arith; some_units = omega arith; most_units = omega arith })
in_range fuel units (inr a) b c d = inr (λ is. let some = is.some_fuel in a (omega arith))
in_range fuel units (inl a) (inr b) c d = inr (λ is. let most = is.most_fuel in b (omega arith))
in_range fuel units (inl a) (inl b) (inr c) d = inr (λ is. let some = is.some_units in c (omega arith))
in_range fuel units (inl a) (inl b) (inl c) (inr d) = inr (λ is. let most = is.most_units in d (omega arith))

limits_of : (line : List ℕ) (begun : Begins (codes "limits ") line) (pair : Numbers 32 begun.rest) → Either (IsInRange (record { fuel = pair.first.number; units = pair.second.number })) → Either (IsLimitsLine line)
limits_of line begun pair (inl range) =
    let limits : Budget = record { fuel = pair.first.number; units = pair.second.number } in
    let words : (decimal pair.first.number ++ codes " ") ++ decimal pair.second.number ≡ begun.rest =
    append_assoc (decimal pair.first.number) (codes " ") (decimal pair.second.number) ∙ (λ i. pair.first.is.spelled i ++ 32 ∷ pair.second.is.spelled i) ∙ sym pair.joined in
    inl (record { limits = limits; is = record { in_range = range; spelled = ap (λ t. codes "limits " ++ t) words ∙ sym begun.joined } })
limits_of line begun pair (inr none) =
    inr (λ w. out_of_range line begun.rest pair.left pair.right pair.first.number pair.second.number begun.joined (record { first = numbers_never_space pair.left pair.first; joined = pair.joined }) pair.first.is pair.second.is none w.limits w.is)

limits_from : (line : List ℕ) (begun : Begins (codes "limits ") line) → Either (Numbers 32 begun.rest) → Either (IsLimitsLine line)
limits_from line begun (inl pair) = limits_of line begun pair (in_range pair.first.number pair.second.number (is_less 0 pair.first.number) (is_less pair.first.number 10000001) (is_less 0 pair.second.number) (is_less pair.second.number 1000001))
limits_from line begun (inr none) = inr (λ w. no_limits line begun.rest begun.joined none w.limits w.is)

pub is_limits : (line : List ℕ) → Either (IsLimitsLine line)
is_limits line = elim (begins (codes "limits ") line) [
  | inl begun ↦ limits_from line begun (is_pair 32 numbers_never_space is_number is_number begun.rest)
  | inr none ↦ inr (λ w. none (record { rest = (decimal w.limits.fuel ++ codes " ") ++ decimal w.limits.units; joined = sym w.is.spelled }))
]

-- ---- entries and ends
pub data Found (line : List ℕ) : Type 0 where
  an_entry : (entry : Entry) → IsEntryText entry line → Found line
  an_end : (end : End) → IsEndText end line → Found line
  none : IsNoLine line → Found line

name_is : (word : List ℕ) (w : IsNameWord word) → IsName w.name
name_is word w = record { not_empty = w.is.not_empty; in_range = w.is.in_range }

run_of : (unit : List ℕ) → Either (IsNameWord unit) → Found (codes "run " ++ unit)
run_of unit (inl w) = an_entry (Run w.name) (record { is_entry = name_is unit w; spelled = ap (λ t. codes "run " ++ t) w.is.spelled })
run_of unit (inr no_name) = none (no_run unit (λ name is. no_name (record { name = name; is = is })))

take_of : (names : List ℕ) → Either (IsPair 32 IsNameWord IsNameWord names) → Found (codes "take " ++ names)
take_of names (inl pair) = an_entry (Take pair.first.name pair.second.name) (record {
  is_entry = (name_is pair.left pair.first, name_is pair.right pair.second);
  spelled = ap (λ t. codes "take " ++ t) (append_assoc (name_text pair.first.name) (codes " ") (name_text pair.second.name) ∙ (λ i. pair.first.is.spelled i ++ 32 ∷ pair.second.is.spelled i) ∙ sym pair.joined);
})
take_of names (inr no_names) = none (no_take names no_names)

spent_of : (unit : List ℕ) → Either (IsNameWord unit) → Found (codes "end spent " ++ unit)
spent_of unit (inl w) = an_end (Spent w.name) (record { is_end = name_is unit w; spelled = ap (λ t. codes "end spent " ++ t) w.is.spelled })
spent_of unit (inr no_name) = none (no_spent unit (λ name is. no_name (record { name = name; is = is })))

fault_of : (words : List ℕ) → Either (IsFaultWords words) → Found (codes "end fault " ++ words)
fault_of words (inl pair) = an_end (Fault pair.first.failed pair.second.first.at pair.second.second.name) (record {
  is_end = (pair.second.first.is.is_place, name_is pair.second.right pair.second.second);
  spelled = ap (λ t. codes "end fault " ++ t) (three_joined (decimal (code_number pair.first.failed)) (place_text pair.second.first.at) (name_text pair.second.second.name)
      ∙ (λ i. pair.first.is.spelled i ++ 32 ∷ (pair.second.first.is.spelled i ++ 32 ∷ pair.second.second.is.spelled i)) ∙ ap (λ t. pair.left ++ 32 ∷ t) (sym pair.second.joined) ∙ sym pair.joined);
})
fault_of words (inr no_words) = none (no_fault words no_words)

is_fault : (words : List ℕ) → Either (IsFaultWords words)
is_fault words = is_pair 32 codes_never_space is_code (is_pair 32 places_never_space is_place_word is_name) words

end_of : (words : List ℕ) → Either (words ≡ codes "done") → Either (words ≡ codes "units") → Either (Begins (codes "spent ") words) → Either (Begins (codes "fault ") words) → Found (codes "end " ++ words)
end_of words (inl is) units spent fault = an_end Done (record { is_end = tt; spelled = ap (λ t. codes "end " ++ t) (sym is) })
end_of words (inr not_done) (inl is) spent fault = an_end UnitsSpent (record { is_end = tt; spelled = ap (λ t. codes "end " ++ t) (sym is) })
end_of words (inr not_done) (inr not_units) (inl spent) fault = subst (λ t. Found (codes "end " ++ t)) (sym spent.joined) (spent_of spent.rest (is_name spent.rest))
end_of words (inr not_done) (inr not_units) (inr not_spent) (inl fault) = subst (λ t. Found (codes "end " ++ t)) (sym fault.joined) (fault_of fault.rest (is_fault fault.rest))
end_of words (inr not_done) (inr not_units) (inr not_spent) (inr not_fault) = none (no_other_end words (record {
  not_done = not_done;
  not_units = not_units;
  not_spent = λ rest e. not_spent (record { rest = rest; joined = e });
  not_fault = λ rest e. not_fault (record { rest = rest; joined = e });
}))

line_from : (line : List ℕ) → Either (Begins (codes "run ") line) → Either (Begins (codes "take ") line) → Either (Begins (codes "end ") line) → Found line
line_from line (inl run) take end = subst Found (sym run.joined) (run_of run.rest (is_name run.rest))
line_from line (inr not_run) (inl take) end = subst Found (sym take.joined) (take_of take.rest (is_pair 32 names_never_space is_name is_name take.rest))
line_from line (inr not_run) (inr not_take) (inl end) =
    subst Found (sym end.joined) (end_of end.rest (is_same end.rest (codes "done")) (is_same end.rest (codes "units")) (begins (codes "spent ") end.rest) (begins (codes "fault ") end.rest))
line_from line (inr not_run) (inr not_take) (inr not_end) = none (no_other_line line (record {
  not_run = λ rest e. not_run (record { rest = rest; joined = e });
  not_take = λ rest e. not_take (record { rest = rest; joined = e });
  not_end = λ rest e. not_end (record { rest = rest; joined = e });
}))

pub is_line : (line : List ℕ) → Found line
is_line line = line_from line (begins (codes "run ") line) (begins (codes "take ") line) (begins (codes "end ") line)
