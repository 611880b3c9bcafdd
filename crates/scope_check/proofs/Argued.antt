-- The levels of the locals that are a loop's first arguments.
use Rattle.std.proofs.Common.{◌≡◌, ◌∙◌, ◌⊎◌, inl, inr, ℕ, suc, ◌+◌, ◌<◌, ◌≤◌, Bool, true, false, if◌then◌else◌, List, [], ◌∷◌, ◌++◌, length, map, Option, None, Some, refl, sym, ap, subst, arith}
use Rattle.std.specs.Prelude.{Contains}
use Rattle.std.specs.Cmp.Lexicographic.{nat_list_eq_equiv}
use Rattle.std.specs.Option.{unwrap_or}
use Rattle.std.specs.Str.{bytes_eq}
use Rattle.std.proofs.lemmas.Option.{none-some, same_Some}
use Rattle.scope_locals.specs.Innermost.{deeper, innermost, levels_of}
use Rattle.resolved_forms.proofs.Members.{none_in, in_cons, in_head, in_tail}

-- the innermost of these locals with a name
record Innermost (locals : List (List ℕ)) (name : List ℕ) : Type 0 where
  level : ℕ
  is : innermost locals name ≡ Some level
  within : level < length locals

step : (local : List ℕ) (locals : List (List ℕ)) (name : List ℕ) → Innermost locals name → Innermost (local ∷ locals) name
step local locals name found = record {
  level = suc found.level;
  is = ap (λ o. deeper o (if bytes_eq local name then Some 0 else None)) found.is;
  within = let lt = found.within in omega arith;
}

here_or_deeper : (local : List ℕ) (locals : List (List ℕ)) (name : List ℕ) (o : Option ℕ) → innermost locals name ≡ o → ((level : ℕ) → o ≡ Some level → level < length locals)
    → (b : Bool) → bytes_eq local name ≡ b → b ≡ true ⊎ Contains locals name → (Contains locals name → Innermost locals name) → Innermost (local ∷ locals) name
here_or_deeper local locals name (Some level) is within b same at further = step local locals name (record { level = level; is = is; within = within level refl })
here_or_deeper local locals name None is within true same at further = record {
  level = 0;
  is = ap (λ o. deeper o (if bytes_eq local name then Some 0 else None)) is ∙ ap (λ t. deeper None (if t then Some 0 else None)) same;
  within = omega arith;
}
here_or_deeper local locals name None is within false same (inl here) further = absurd (cc)
here_or_deeper local locals name None is within false same (inr there) further = step local locals name (further there)

deeper_within : (o here : Option ℕ) (n level : ℕ) → ((l : ℕ) → o ≡ Some l → l < n) → ((l : ℕ) → here ≡ Some l → l ≡ 0) → deeper o here ≡ Some level → level < suc n
deeper_within (Some l) here n level within first is = let lt = within l refl in let same = same_Some (suc l) level is in omega arith
deeper_within None here n level within first is = let none = first level is in omega arith

first_level : (b : Bool) (l : ℕ) → (if b then Some 0 else None) ≡ Some l → l ≡ 0
first_level true l is = sym (same_Some 0 l is)
first_level false l is = absurd (none-some l is)

-- a level that is found is that of a local
pub innermost_within : (locals : List (List ℕ)) (name : List ℕ) (level : ℕ) → innermost locals name ≡ Some level → level < length locals
innermost_within [] name level is = absurd (none-some level is)
innermost_within (local ∷ locals) name level is =
    deeper_within (innermost locals name) (if bytes_eq local name then Some 0 else None) (length locals) level (λ l found. innermost_within locals name l found) (first_level (bytes_eq local name)) is

found_in : (locals : List (List ℕ)) (name : List ℕ) → Contains locals name → Innermost locals name
found_in [] name there = absurd (none_in name there)
found_in (local ∷ locals) name there =
    let at : bytes_eq local name ≡ true ⊎ Contains locals name = elim (in_cons local name locals there) [
      | inl same ↦ inl (subst (λ (n : List ℕ). bytes_eq local n ≡ true) same (nat_list_eq_equiv.refl local))
      | inr behind ↦ inr behind
    ] in
    here_or_deeper local locals name (innermost locals name) refl (λ level is. innermost_within locals name level is) (bytes_eq local name) refl at (λ behind. found_in locals name behind)

behind_outer : (outer names : List (List ℕ)) (name : List ℕ) (level : ℕ) → innermost names name ≡ Some level → innermost (outer ++ names) name ≡ Some (length outer + level)
behind_outer [] names name level is = is ∙ ap Some (let same : level ≡ 0 + level = omega arith in same)
behind_outer (local ∷ outer) names name level is =
    ap (λ o. deeper o (if bytes_eq local name then Some 0 else None)) (behind_outer outer names name level is)
    ∙ ap Some (let same : suc (length outer + level) ≡ suc (length outer) + level = omega arith in same)

abbrev pub level_of : List (List ℕ) → List ℕ → ℕ
level_of locals name = unwrap_or (innermost locals name) 0

level_inner : (outer names : List (List ℕ)) (name : List ℕ) → Contains names name → (length outer ≤ level_of (outer ++ names) name) × (level_of (outer ++ names) name < length outer + length names)
level_inner outer names name there =
    let found = found_in names name there in
    let is : level_of (outer ++ names) name ≡ length outer + found.level = ap (λ o. unwrap_or o 0) (behind_outer outer names name found.level found.is) in
    let lt = found.within in
    (omega arith, omega arith)

-- what holds of each image holds of what is among them
pub mapped : {X : Type 0} (f : X → ℕ) (P : ℕ → Type 0) (xs : List X) → ((x : X) → Contains xs x → P (f x)) → (y : ℕ) → Contains (map f xs) y → P y
mapped f P [] holds y there = absurd (none_in y there)
mapped f P (x ∷ xs) holds y there = elim (in_cons (f x) y (map f xs) there) [
  | inl same ↦ subst P same (holds x (in_head x xs))
  | inr behind ↦ mapped f P xs (λ z at. holds z (in_tail x z xs at)) y behind
]

-- the arguments of a loop are among the locals that it binds
pub arguments_inner : (outer names : List (List ℕ)) (level : ℕ) → Contains (levels_of (outer ++ names) names) level → (length outer ≤ level) × (level < length outer + length names)
arguments_inner outer names level there =
    mapped (level_of (outer ++ names)) (λ l. (length outer ≤ l) × (l < length outer + length names)) names (λ name at. level_inner outer names name at) level there
