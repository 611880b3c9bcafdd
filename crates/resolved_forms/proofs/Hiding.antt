-- Hidden arguments of one unit after another.
use Rattle.std.proofs.Common.{◌≡◌, ℕ, suc, ◌+◌, ◌-◌, ◌<◌, List, [], ◌∷◌, ◌++◌, replicate, arith, sym, ap, ◌∙◌, append_assoc}
use Rattle.resolved_forms.specs.declared.layout.Hidden.{Hidden}
use Rattle.resolved_forms.specs.Units.{hidden_of, hidden_from}

plain_at : (reached : List (List ℕ)) (unit end : ℕ) → unit < end
    → hidden_from reached unit (replicate (end - unit) []) ≡ hidden_of reached unit [] ∷ hidden_from reached (unit + 1) (replicate (end - (unit + 1)) [])
plain_at reached unit end before =
    let one_less : end - unit ≡ suc (end - (unit + 1)) = omega arith in
    let one_more : suc unit ≡ unit + 1 = omega arith in
    ap (λ n. hidden_from reached unit (replicate n [])) one_less
    ∙ ap (λ n. hidden_of reached unit [] ∷ hidden_from reached n (replicate (end - (unit + 1)) [])) one_more

-- one more unit without levels
pub plain_step : (reached : List (List ℕ)) (unit end : ℕ) (before after due : List Hidden) → unit < end
    → after ≡ before ++ hidden_of reached unit [] ∷ []
    → before ++ hidden_from reached unit (replicate (end - unit) []) ≡ due
    → after ++ hidden_from reached (unit + 1) (replicate (end - (unit + 1)) []) ≡ due
plain_step reached unit end before after due within adds left =
    let rest = hidden_from reached (unit + 1) (replicate (end - (unit + 1)) []) in
    ap (λ h. h ++ rest) adds ∙ append_assoc before (hidden_of reached unit [] ∷ []) rest ∙ ap (λ l. before ++ l) (sym (plain_at reached unit end within)) ∙ left
