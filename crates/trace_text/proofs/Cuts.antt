-- Bytes cut at the first that is a mark.
use Rattle.std.proofs.Common.{◌≡◌, ℕ, zero, suc, ◌+◌, ◌-◌, ◌<◌, ◌≤◌, Bool, true, false, cond, not, List, [], ◌∷◌, ◌++◌, length, take, drop, refl, sym, ap, subst, ◌∙◌, arith, Some, None, add-one, length-append, length-drop}
use Rattle.std.specs.List.{position, position_or_len}
use borrow.Author.Tests.{ltb-true, ltb-false}
use Rattle.std.proofs.lemmas.Bool.Decides.{nat_tests}
use Rattle.std.proofs.lemmas.List.{take_all}
use Rattle.trace_text.specs.Cut.{IsCut, is_mark, is_without}

is_itself : (mark : ℕ) → is_mark mark mark ≡ true
is_itself mark = grind (arith, nat_tests)

pub is_the_mark : (mark byte : ℕ) → is_mark mark byte ≡ true → byte ≡ mark
is_the_mark mark byte e = grind (arith, nat_tests)

-- ---- without a mark
pub without_more : (mark byte : ℕ) (bytes : List ℕ) → is_mark mark byte ≡ false → is_without mark bytes ≡ true → is_without mark (byte ∷ bytes) ≡ true
without_more mark byte bytes e w = ap (λ t. cond t false (is_without mark bytes)) e ∙ w

pub without_parts : (t b : Bool) → cond t false b ≡ true → (t ≡ false) × (b ≡ true)
without_parts true b e = cc
without_parts false b e = (refl, e)

pub without_append : (mark : ℕ) (xs ys : List ℕ) → is_without mark xs ≡ true → is_without mark ys ≡ true → is_without mark (xs ++ ys) ≡ true
without_append mark [] ys p q = q
without_append mark (x ∷ xs) ys p q =
    let parts = without_parts (is_mark mark x) (is_without mark xs) p in
    without_more mark x (xs ++ ys) parts.0 (without_append mark xs ys parts.1 q)

-- what stands round the first mark is determined
pub cut_once : (mark : ℕ) (a b c d : List ℕ) → is_without mark a ≡ true → is_without mark c ≡ true → a ++ mark ∷ b ≡ c ++ mark ∷ d → (a ≡ c) × (b ≡ d)
cut_once mark [] b [] d p q e = let same : b ≡ d = cc in (refl, same)
cut_once mark [] b (x ∷ c) d p q e =
    let parts = without_parts (is_mark mark x) (is_without mark c) q in
    let same : mark ≡ x = cc in
    let marked : is_mark mark x ≡ true = ap (is_mark mark) (sym same) ∙ is_itself mark in
    cc
cut_once mark (x ∷ a) b [] d p q e =
    let parts = without_parts (is_mark mark x) (is_without mark a) p in
    let same : x ≡ mark = cc in
    let marked : is_mark mark x ≡ true = ap (is_mark mark) same ∙ is_itself mark in
    cc
cut_once mark (x ∷ a) b (y ∷ c) d p q e =
    let first : x ≡ y = cc in
    let rest : a ++ mark ∷ b ≡ c ++ mark ∷ d = cc in
    let parts = without_parts (is_mark mark x) (is_without mark a) p in
    let others = without_parts (is_mark mark y) (is_without mark c) q in
    let found = cut_once mark a b c d parts.1 others.1 rest in
    ((λ i. first i ∷ found.0 i), found.1)

-- a mark is somewhere, so the bytes are not without it
pub not_without : (mark : ℕ) (a b : List ℕ) → is_without mark (a ++ mark ∷ b) ≡ true → ⊥
not_without mark [] b w =
    let parts = without_parts (is_mark mark mark) (is_without mark b) w in
    let marked = is_itself mark in
    cc
not_without mark (x ∷ a) b w = not_without mark a b (without_parts (is_mark mark x) (is_without mark (a ++ mark ∷ b)) w).1

-- ---- the first mark
chosen : (b : Bool) (p place : ℕ) → Some place ≡ cond b (Some p) None → (b ≡ true) × (place ≡ p)
chosen true p place e = let same : place ≡ p = cc in (refl, same)
chosen false p place e = cc

not_chosen : (b : Bool) (p : ℕ) → None ≡ cond b (Some p) None → b ≡ false
not_chosen true p e = cc
not_chosen false p e = refl

abbrev At : ℕ → List ℕ → ℕ → Type 0
At mark bytes n = n ≡ position_or_len (is_mark mark) bytes → n < length bytes → IsCut mark bytes (take n bytes) (drop (suc n) bytes)

at_head : (mark x : ℕ) (xs : List ℕ) → ((m : ℕ) → At mark xs m) → (n : ℕ) (t : Bool) → is_mark mark x ≡ t → n ≡ cond (not t) (1 + position_or_len (is_mark mark) xs) 0 → n < suc (length xs)
    → IsCut mark (x ∷ xs) (take n (x ∷ xs)) (drop (suc n) (x ∷ xs))
at_head mark x xs later zero true is e lt = record { first = refl; joined = λ i. is_the_mark mark x is i ∷ xs }
at_head mark x xs later (suc m) true is e lt = absurd (omega arith)
at_head mark x xs later zero false is e lt = absurd (omega arith)
at_head mark x xs later (suc m) false is e lt =
    let found = later m (omega arith) (omega arith) in
    record { first = without_more mark x (take m xs) is found.first; joined = ap (λ t. x ∷ t) found.joined }

at_first : (mark : ℕ) (bytes : List ℕ) (n : ℕ) → At mark bytes n
at_first mark [] n e lt = absurd (omega arith)
at_first mark (x ∷ xs) n e lt = at_head mark x xs (at_first mark xs) n (is_mark mark x) refl e lt

without_all : (mark : ℕ) (bytes : List ℕ) → length bytes ≤ position_or_len (is_mark mark) bytes → is_without mark bytes ≡ true
without_all mark [] le = refl
without_all mark (x ∷ xs) le =
    elim (is_mark mark x) as (λ t. (suc (length xs) ≤ cond (not t) (1 + position_or_len (is_mark mark) xs) 0) → cond t false (is_without mark xs) ≡ true) [
      | true ↦ λ far. absurd (omega arith)
      | false ↦ λ far. without_all mark xs (omega arith)
    ] le

pub place_in_range : (mark : ℕ) (bytes : List ℕ) (place : ℕ) → Some place ≡ position (is_mark mark) bytes → place < length bytes
place_in_range mark bytes place e = let at = chosen _ _ _ e in let lt = ltb-true _ _ at.0 in omega arith

pub cut_at : (mark : ℕ) (bytes : List ℕ) (place : ℕ) → Some place ≡ position (is_mark mark) bytes → IsCut mark bytes (take place bytes) (take (length bytes - (place + 1)) (drop (place + 1) bytes))
cut_at mark bytes place e =
    let at = chosen _ _ _ e in
    let lt = place_in_range mark bytes place e in
    let found : IsCut mark bytes (take place bytes) (drop (place + 1) bytes) = subst (λ n. IsCut mark bytes (take place bytes) (drop n bytes)) (sym (add-one place)) (at_first mark bytes place at.1 lt) in
    rw (take_all (length bytes - (place + 1)) (drop (place + 1) bytes) (omega (arith, length-drop (place + 1) bytes))) found

pub no_mark : (mark : ℕ) (bytes : List ℕ) → None ≡ position (is_mark mark) bytes → is_without mark bytes ≡ true
no_mark mark bytes e = without_all mark bytes (ltb-false _ _ (not_chosen _ _ e))

-- what stands after a mark is shorter
pub length_cut : (mark : ℕ) (bytes before after : List ℕ) → IsCut mark bytes before after → length after + 1 ≤ length bytes
length_cut mark bytes before after cut = rw (ap length cut.joined) (omega (arith, length-append before (mark ∷ after)))
