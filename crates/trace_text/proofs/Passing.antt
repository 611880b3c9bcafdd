-- What is known of bytes whose first lines are read, and what they are refused or taken for.
use Rattle.std.proofs.Common.{◌≡◌, ◌≢◌, ℕ, suc, ◌+◌, ◌-◌, ◌≤◌, true, false, List, [], ◌∷◌, ◌++◌, length, take, map, All, refl, sym, ap, subst, ◌∙◌, arith, append_assoc, get_or}
use Rattle.std.specs.List.{flat_map}
use Rattle.std.specs.Prelude.{codes, ◌==◌}
use Rattle.std.proofs.lemmas.Bool.Decides.{nat_tests}
use Rattle.std.proofs.lemmas.List.{map-append}
use Rattle.std.proofs.lemmas.List.Elements.{All-nil, All-push}
use Rattle.value_core.specs.Roomy.{Roomy}
use Rattle.serial_model.specs.declared.end.End.{End}
use Rattle.serial_model.specs.declared.end.End.TheVariants.{Done, Fault, Spent, UnitsSpent}
use Rattle.serial_model.specs.declared.entry.Entry.{Entry}
use Rattle.serial_model.specs.declared.entry.Entry.TheVariants.{Run, Take}
use Rattle.serial_model.specs.declared.trace.Trace.{Trace}
use Rattle.serial_model.specs.declared.trace.LineKind.TheVariants.{BadLine}
use Rattle.serial_model.specs.Limits.{Budget, IsInRange}
use Rattle.serial_model.specs.Trace.{FitsUpTo, IsEnd, IsEntry, IsTextOfTrace, IsTrace, end_text, entry_text, limits_text, line_of, lines_of, trace_refusal, trace_text, trace_limit}
use Rattle.trace_text.specs.Cut.{IsCut, is_without}
use Rattle.trace_text.specs.Lines.{IsEntryText, IsEndText, IsLimitsText, IsNoLine}
use Rattle.trace_text.proofs.Feeds.{end_one_line, entry_one_line, limits_one_line}
use Rattle.trace_text.proofs.LineShapes.{apart}
use Rattle.trace_text.proofs.LinesOf.{first_line, joined, no_lines, joined_lines, lead_is, lines_first, lines_of_cut, no_lead}

-- ---- the lines of a trace
abbrev pub entry_line : Entry → List ℕ
entry_line entry = line_of (entry_text entry)

abbrev pub end_line : End → List ℕ
end_line end = line_of (end_text end)

abbrev pub entry_lines : List Entry → List (List ℕ)
entry_lines entries = map entry_line entries

abbrev pub head_line : List ℕ
head_line = codes "chocola-trace 1\n"

abbrev pub limits_line : Budget → List ℕ
limits_line limits = line_of (limits_text limits)

lines_of_body : (entries : List Entry) (end : End) → All IsEntry entries → IsEnd end
    → lines_of (flat_map line_of (map entry_text entries ++ end_text end ∷ [])) ≡ entry_lines entries ++ end_line end ∷ []
lines_of_body [] end each is = lines_first (end_text end) [] (end_one_line end is)
lines_of_body (entry ∷ entries) end each is =
    lines_first (entry_text entry) (flat_map line_of (map entry_text entries ++ end_text end ∷ [])) (entry_one_line entry (each 0 entry (omega arith)))
    ∙ ap (λ t. entry_line entry ∷ t) (lines_of_body entries end (λ k d lt. each (suc k) d (omega arith)) is)

pub lines_of_trace : (t : Trace) → IsTrace t → lines_of (trace_text t) ≡ head_line ∷ limits_line t.limits ∷ (entry_lines t.history.items ++ end_line t.end ∷ [])
lines_of_trace t is =
    ap (λ ls. head_line ∷ ls) (
    lines_first (limits_text t.limits) (flat_map line_of (map entry_text t.history.items ++ end_text t.end ∷ [])) (limits_one_line t.limits is.limits)
    ∙ ap (λ ls. limits_line t.limits ∷ ls) (lines_of_body t.history.items t.end is.entries is.end))

-- ---- an entry's line is no end's
pub not_end_line : (entry : Entry) (end : End) → entry_line entry ≢ end_line end
not_end_line (Run unit) Done e = apart 114 101 refl (ap (λ t. get_or t 0 0) e)
not_end_line (Run unit) (Fault failed at name) e = apart 114 101 refl (ap (λ t. get_or t 0 0) e)
not_end_line (Run unit) (Spent name) e = apart 114 101 refl (ap (λ t. get_or t 0 0) e)
not_end_line (Run unit) UnitsSpent e = apart 114 101 refl (ap (λ t. get_or t 0 0) e)
not_end_line (Take actor sender) Done e = apart 116 101 refl (ap (λ t. get_or t 0 0) e)
not_end_line (Take actor sender) (Fault failed at name) e = apart 116 101 refl (ap (λ t. get_or t 0 0) e)
not_end_line (Take actor sender) (Spent name) e = apart 116 101 refl (ap (λ t. get_or t 0 0) e)
not_end_line (Take actor sender) UnitsSpent e = apart 116 101 refl (ap (λ t. get_or t 0 0) e)

-- ---- what is read so far: the head, the limits and these entries
pub record Passed (bytes : List ℕ) (limits : Budget) (entries : List Entry) (rest : List ℕ) : Type 0 where
  pub in_range : IsInRange limits
  pub each : All IsEntry entries
  pub lines : lines_of bytes ≡ head_line ∷ limits_line limits ∷ (entry_lines entries ++ lines_of rest)

pub passed_limits : (bytes rest line after : List ℕ) (limits : Budget) → bytes ≡ head_line ++ rest → IsCut 10 rest line after → IsLimitsText limits line → Passed bytes limits [] after
passed_limits bytes rest line after limits e cut is = record {
  in_range = is.in_range;
  each = All-nil IsEntry;
  lines = ap lines_of e ∙ ap (λ ls. head_line ∷ ls) (ap lines_of cut.joined ∙ lines_of_cut line after cut.first ∙ ap (λ t. line_of t ∷ lines_of after) (sym is.spelled));
}

lines_after : (rest line after text : List ℕ) → IsCut 10 rest line after → text ≡ line → lines_of rest ≡ line_of text ∷ lines_of after
lines_after rest line after text cut e = ap lines_of cut.joined ∙ lines_of_cut line after cut.first ∙ ap (λ t. line_of t ∷ lines_of after) (sym e)

pub passed_more : (bytes : List ℕ) (limits : Budget) (entries : List Entry) (rest line after : List ℕ) (entry : Entry)
    → Passed bytes limits entries rest → IsCut 10 rest line after → IsEntryText entry line → Passed bytes limits (entries ++ entry ∷ []) after
passed_more bytes limits entries rest line after entry passed cut is = record {
  in_range = passed.in_range;
  each = All-push IsEntry entries entry passed.each is.is_entry;
  lines = passed.lines ∙ ap (λ ls. head_line ∷ limits_line limits ∷ ls) (
      ap (λ ls. entry_lines entries ++ ls) (lines_after rest line after (entry_text entry) cut is.spelled)
      ∙ sym (append_assoc (entry_lines entries) (entry_line entry ∷ []) (lines_of after))
      ∙ ap (λ ls. ls ++ lines_of after) (sym (map-append entry_line entries (entry ∷ []))));
}

-- the bytes are a trace's text where nothing stands after the end
pub taken : (bytes : List ℕ) (limits : Budget) (history : Roomy Entry) (rest line after : List ℕ) (end : End)
    → length bytes ≤ trace_limit → Passed bytes limits history.items rest → IsCut 10 rest line after → IsEndText end line → after ≡ []
    → IsTextOfTrace (record { limits = limits; history = history; end = end }) bytes
taken bytes limits history rest line after end short passed cut is none =
    let whole : Trace = record { limits = limits; history = history; end = end } in
    let good : IsTrace whole = record { limits = passed.in_range; entries = passed.each; end = is.is_end } in
    let ended : lines_of rest ≡ end_line end ∷ [] = lines_after rest line after (end_text end) cut is.spelled ∙ ap (λ t. end_line end ∷ lines_of t) none in
    let same : lines_of bytes ≡ lines_of (trace_text whole) = passed.lines ∙ ap (λ ls. head_line ∷ limits_line limits ∷ (entry_lines history.items ++ ls)) ended ∙ sym (lines_of_trace whole good) in
    record {
      is_trace = good;
      spelled = sym (joined_lines (trace_text whole)) ∙ ap joined (sym same) ∙ joined_lines bytes;
      short = short;
    }

-- ---- refusals
-- no line that a trace may have after its limits leads these bytes
pub record NoLineLeads (rest : List ℕ) : Type 0 where
  pub no_entry : (entry : Entry) → IsEntry entry → take 1 (lines_of rest) ≢ entry_line entry ∷ []
  pub no_end : (end : End) → IsEnd end → take 1 (lines_of rest) ≢ end_line end ∷ []

pub none_leads : (rest line after : List ℕ) → IsCut 10 rest line after → IsNoLine line → NoLineLeads rest
none_leads rest line after cut none = record {
  no_entry = λ entry is e. none.no_entry entry (record { is_entry = is; spelled = sym (lead_is rest line after (entry_text entry) cut (entry_one_line entry is) e) });
  no_end = λ end is e. none.no_end end (record { is_end = is; spelled = sym (lead_is rest line after (end_text end) cut (end_one_line end is) e) });
}

pub none_leads_uncut : (rest : List ℕ) → is_without 10 rest ≡ true → NoLineLeads rest
none_leads_uncut rest w = record {
  no_entry = λ entry is. no_lead rest (entry_text entry) w;
  no_end = λ end is. no_lead rest (end_text end) w;
}

never : (entries others : List Entry) (end : End) (rest : List ℕ) → NoLineLeads rest → All IsEntry others → IsEnd end
    → take (suc (length entries)) (entry_lines entries ++ lines_of rest) ≢ take (suc (length entries)) (entry_lines others ++ end_line end ∷ [])
never [] [] end rest none each is e = none.no_end end is e
never [] (other ∷ others) end rest none each is e = none.no_entry other (each 0 other (omega arith)) e
never (entry ∷ entries) [] end rest none each is e = let first : entry_line entry ≡ end_line end = cc in not_end_line entry end first
never (entry ∷ entries) (other ∷ others) end rest none each is e =
    let later : take (suc (length entries)) (entry_lines entries ++ lines_of rest) ≡ take (suc (length entries)) (entry_lines others ++ end_line end ∷ []) = cc in
    never entries others end rest none (λ k d lt. each (suc k) d (omega arith)) is later

same_front : (entries : List Entry) (xs ys : List (List ℕ)) → take (length entries) (entry_lines entries ++ xs) ≡ take (length entries) (entry_lines entries ++ ys)
same_front [] xs ys = refl
same_front (entry ∷ entries) xs ys = ap (λ ls. entry_line entry ∷ ls) (same_front entries xs ys)

-- the trace of these entries that is done
abbrev pub done_trace : Budget → List Entry → End → Trace
done_trace limits entries end = record { limits = limits; history = record { items = entries; room = 0 }; end = end }

pub refused_here : (bytes : List ℕ) (limits : Budget) (entries : List Entry) (rest : List ℕ) (line : ℕ)
    → length bytes ≤ trace_limit → Passed bytes limits entries rest → NoLineLeads rest → line ≡ 3 + length entries → trace_refusal bytes BadLine line
refused_here bytes limits entries rest line short passed none at =
    let before : line - 1 ≡ suc (suc (length entries)) = omega arith in
    let here : line ≡ suc (suc (suc (length entries))) = omega arith in
    (short, subst (λ n. FitsUpTo n bytes) (sym before) fits, λ is. never_fits (subst (λ n. FitsUpTo n bytes) here is))
  where
    fits : FitsUpTo (suc (suc (length entries))) bytes
    fits = record {
      trace = done_trace limits entries Done;
      is_trace = record { limits = passed.in_range; entries = passed.each; end = tt };
      alike = ap (take (suc (suc (length entries)))) passed.lines
          ∙ ap (λ ls. head_line ∷ limits_line limits ∷ ls) (same_front entries (lines_of rest) (end_line Done ∷ []))
          ∙ ap (take (suc (suc (length entries)))) (sym (lines_of_trace (done_trace limits entries Done) (record { limits = passed.in_range; entries = passed.each; end = tt })));
    }

    never_fits : ¬ (FitsUpTo (suc (suc (suc (length entries)))) bytes)
    never_fits is =
        let both = sym (ap (take (suc (suc (suc (length entries))))) passed.lines) ∙ is.alike ∙ ap (take (suc (suc (suc (length entries))))) (lines_of_trace is.trace is.is_trace) in
        let later : take (suc (length entries)) (entry_lines entries ++ lines_of rest) ≡ take (suc (length entries)) (entry_lines is.trace.history.items ++ end_line is.trace.end ∷ []) = cc in
        never entries is.trace.history.items is.trace.end rest none is.is_trace.entries is.is_trace.end later

-- text after the end
never_after : (entries others : List Entry) (end other : End) (after : List ℕ) → after ≢ [] → All IsEntry others
    → take (suc (suc (length entries))) (entry_lines entries ++ end_line end ∷ lines_of after) ≢ take (suc (suc (length entries))) (entry_lines others ++ end_line other ∷ [])
never_after [] [] end other after some each e = let later : take 1 (lines_of after) ≡ [] = cc in some (no_lines after later)
never_after [] (x ∷ others) end other after some each e = let first : entry_line x ≡ end_line end = cc in not_end_line x end first
never_after (entry ∷ entries) [] end other after some each e = let first : entry_line entry ≡ end_line other = cc in not_end_line entry other first
never_after (entry ∷ entries) (x ∷ others) end other after some each e =
    let later : take (suc (suc (length entries))) (entry_lines entries ++ end_line end ∷ lines_of after) ≡ take (suc (suc (length entries))) (entry_lines others ++ end_line other ∷ []) = cc in
    never_after entries others end other after some (λ k d lt. each (suc k) d (omega arith)) later

same_front_more : (entries : List Entry) (line : List ℕ) (xs ys : List (List ℕ)) → take (suc (length entries)) (entry_lines entries ++ line ∷ xs) ≡ take (suc (length entries)) (entry_lines entries ++ line ∷ ys)
same_front_more [] line xs ys = refl
same_front_more (entry ∷ entries) line xs ys = ap (λ ls. entry_line entry ∷ ls) (same_front_more entries line xs ys)

pub refused_after : (bytes : List ℕ) (limits : Budget) (entries : List Entry) (rest text after : List ℕ) (end : End) (line : ℕ)
    → length bytes ≤ trace_limit → Passed bytes limits entries rest → IsCut 10 rest text after → IsEndText end text → after ≢ [] → line ≡ 4 + length entries → trace_refusal bytes BadLine line
refused_after bytes limits entries rest text after end line short passed cut is some at =
    let before : line - 1 ≡ suc (suc (suc (length entries))) = omega arith in
    let here : line ≡ suc (suc (suc (suc (length entries)))) = omega arith in
    (short, subst (λ n. FitsUpTo n bytes) (sym before) fits, λ at_line. never_fits (subst (λ n. FitsUpTo n bytes) here at_line))
  where
    good : IsTrace (done_trace limits entries end)
    good = record { limits = passed.in_range; entries = passed.each; end = is.is_end }

    lines : lines_of bytes ≡ head_line ∷ limits_line limits ∷ (entry_lines entries ++ end_line end ∷ lines_of after)
    lines = passed.lines ∙ ap (λ ls. head_line ∷ limits_line limits ∷ (entry_lines entries ++ ls)) (lines_after rest text after (end_text end) cut is.spelled)

    fits : FitsUpTo (suc (suc (suc (length entries)))) bytes
    fits = record {
      trace = done_trace limits entries end;
      is_trace = good;
      alike = ap (take (suc (suc (suc (length entries))))) lines
          ∙ ap (λ ls. head_line ∷ limits_line limits ∷ ls) (same_front_more entries (end_line end) (lines_of after) [])
          ∙ ap (take (suc (suc (suc (length entries))))) (sym (lines_of_trace (done_trace limits entries end) good));
    }

    never_fits : ¬ (FitsUpTo (suc (suc (suc (suc (length entries))))) bytes)
    never_fits fitting =
        let both = sym (ap (take (suc (suc (suc (suc (length entries)))))) lines) ∙ fitting.alike ∙ ap (take (suc (suc (suc (suc (length entries)))))) (lines_of_trace fitting.trace fitting.is_trace) in
        let later : take (suc (suc (length entries))) (entry_lines entries ++ end_line end ∷ lines_of after) ≡ take (suc (suc (length entries))) (entry_lines fitting.trace.history.items ++ end_line fitting.trace.end ∷ []) = cc in
        never_after entries fitting.trace.history.items end fitting.trace.end after some fitting.is_trace.entries later

-- ---- the first two lines
abbrev some_trace : Trace
some_trace = done_trace (record { fuel = 1; units = 1 }) [] Done

some_trace_is : IsTrace some_trace
some_trace_is = record { limits = record { some_fuel = omega arith; most_fuel = omega arith; some_units = omega arith; most_units = omega arith }; entries = All-nil IsEntry; end = tt }

pub refused_head : (bytes : List ℕ) → length bytes ≤ trace_limit → ((rest : List ℕ) → bytes ≢ head_line ++ rest) → trace_refusal bytes BadLine 1
refused_head bytes short none = (short, record { trace = some_trace; is_trace = some_trace_is; alike = refl }, never_fits)
  where
    never_fits : ¬ (FitsUpTo 1 bytes)
    never_fits is =
        let found = first_line bytes head_line (is.alike ∙ ap (take 1) (lines_of_trace is.trace is.is_trace)) in
        none found.0 found.1

-- no limits lead these bytes
abbrev pub NoLimitsLead : List ℕ → Type 0
NoLimitsLead rest = (limits : Budget) → IsInRange limits → take 1 (lines_of rest) ≢ limits_line limits ∷ []

pub no_limits_lead : (rest line after : List ℕ) → IsCut 10 rest line after → ((limits : Budget) → ¬ (IsLimitsText limits line)) → NoLimitsLead rest
no_limits_lead rest line after cut none limits is e = none limits (record { in_range = is; spelled = sym (lead_is rest line after (limits_text limits) cut (limits_one_line limits is) e) })

pub no_limits_uncut : (rest : List ℕ) → is_without 10 rest ≡ true → NoLimitsLead rest
no_limits_uncut rest w limits is = no_lead rest (limits_text limits) w

pub refused_limits : (bytes rest : List ℕ) → length bytes ≤ trace_limit → bytes ≡ head_line ++ rest → NoLimitsLead rest → trace_refusal bytes BadLine 2
refused_limits bytes rest short e none = (short, record { trace = some_trace; is_trace = some_trace_is; alike = ap (take 1) lines ∙ ap (take 1) (sym (lines_of_trace some_trace some_trace_is)) }, never_fits)
  where
    lines : lines_of bytes ≡ head_line ∷ lines_of rest
    lines = ap lines_of e

    never_fits : ¬ (FitsUpTo 2 bytes)
    never_fits is =
        let both = sym (ap (take 2) lines) ∙ is.alike ∙ ap (take 2) (lines_of_trace is.trace is.is_trace) in
        let later : take 1 (lines_of rest) ≡ limits_line is.trace.limits ∷ [] = cc in
        none is.trace.limits is.is_trace.limits later

-- ---- whether text follows
is_zero : (n : ℕ) → true ≡ (n == 0) → n ≡ 0
is_zero n e = grind (arith, nat_tests)

pub no_text : (after : List ℕ) → true ≡ (length after == 0) → after ≡ []
no_text [] e = refl
no_text (byte ∷ after) e = let none = is_zero (length (byte ∷ after)) e in absurd (omega arith)

pub some_text : (after : List ℕ) → false ≡ (length after == 0) → after ≢ []
some_text [] e none = cc
some_text (byte ∷ after) e none = cc
