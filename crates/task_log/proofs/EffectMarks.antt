-- Effects are known by their marks.
use Rattle.std.proofs.Common.{◌≡◌, ◌∙◌, ℕ, Bool, true, false, List, [], ◌∷◌, ◌++◌, refl, sym, ap, subst}
use Rattle.std.specs.Prelude.{◌==◌, ◌&&◌, ◌||◌, map}
use Rattle.std.proofs.lemmas.Bool.{eqb-true, eqb-false}
use Rattle.std.proofs.lemmas.List.Folds.{list_any-append}
use Rattle.serial_model.specs.declared.effect.Effect.{Effect}
use Rattle.serial_model.specs.Log.{is_held}
use Rattle.value_core.specs.Named.{Name, same_name, is_among, made_by}
use Rattle.value_core.proofs.NamedLaws.{same_name-equal, same_name-itself}
use Rattle.task_log.specs.Logged.{mark_of, HasMarks, HasMembers}

-- what was made with a number is made of one thing and one number
made-same : (p q : Name) (k l : ℕ) → made_by p k ≡ made_by q l → (p ≡ q) × (k ≡ l)
made-same [] [] k l is = (refl, (let same : k ≡ l = cc in same))
made-same [] (b ∷ []) k l is = cc
made-same [] (b ∷ c ∷ q) k l is = cc
made-same (a ∷ []) [] k l is = cc
made-same (a ∷ c ∷ p) [] k l is = cc
made-same (a ∷ p) (b ∷ q) k l is =
    let first : a ≡ b = cc in
    let rest = made-same p q k l (tail_same is) in (ap (λ x. x ∷ p) first ∙ ap (λ r. b ∷ r) rest.0, rest.1)
  where
    tail_same : a ∷ made_by p k ≡ b ∷ made_by q l → made_by p k ≡ made_by q l
    tail_same e = cc

-- the marks are the same where the task and the number are
same_mark : (e f : Effect) → same_name (mark_of f) (mark_of e) ≡ (same_name e.task f.task && (e.number == f.number))
same_mark e f = on (same_name (mark_of f) (mark_of e)) refl (same_name e.task f.task) refl (e.number == f.number) refl
  where
    on : (a : Bool) → same_name (mark_of f) (mark_of e) ≡ a → (b : Bool) → same_name e.task f.task ≡ b → (c : Bool) → (e.number == f.number) ≡ c → a ≡ (b && c)
    on true a true b true c = refl
    on true a true b false c = let is = made-same f.task e.task f.number e.number (same_name-equal (mark_of f) (mark_of e) a) in absurd (eqb-false e.number f.number c (sym is.1))
    on true a false b c of = let is = made-same f.task e.task f.number e.number (same_name-equal (mark_of f) (mark_of e) a) in
        let itself = subst (λ t. same_name t f.task ≡ true) is.0 (same_name-itself f.task) in cc
    on false a false b c of = refl
    on false a true b false c = refl
    on false a true b true c =
        let task = same_name-equal e.task f.task b in
        let number = eqb-true e.number f.number c in
        let itself = subst (λ m. same_name (mark_of f) m ≡ true) (ap (λ t. made_by t f.number) (sym task) ∙ ap (λ n. made_by e.task n) (sym number)) (same_name-itself (mark_of f)) in cc

-- an effect is held where its mark is there
held_mark : (effects : List Effect) (effect : Effect) → is_held effects effect ≡ is_among (mark_of effect) (map mark_of effects)
held_mark [] effect = refl
held_mark (e ∷ es) effect = ap (λ b. b || is_held es effect) (sym (same_mark e effect)) ∙ ap (λ b. same_name (mark_of effect) (mark_of e) || b) (held_mark es effect)

pub has_held : (members : List Name) (effects : List Effect) (effect : Effect) (mark : Name) → HasMarks members effects → mark ≡ mark_of effect → is_among mark members ≡ is_held effects effect
has_held members effects effect mark has is = ap (λ m. is_among m members) is ∙ has (mark_of effect) ∙ sym (held_mark effects effect)

-- one name more
pub more_members : (old new names : List Name) (k : Name) → HasMembers old names → ((q : Name) → is_among q new ≡ (is_among q old || same_name q k)) → HasMembers new (names ++ k ∷ [])
more_members old new names k has added q =
    added q ∙ ap (λ b. b || same_name q k) (has q) ∙ turned (is_among q names) (same_name q k) ∙ sym (list_any-append (same_name q) names (k ∷ []))
  where
    turned : (a b : Bool) → (a || b) ≡ (a || (b || false))
    turned true b = refl
    turned false true = refl
    turned false false = refl

map-append : (effects : List Effect) (effect : Effect) → map mark_of (effects ++ effect ∷ []) ≡ map mark_of effects ++ mark_of effect ∷ []
map-append [] effect = refl
map-append (e ∷ es) effect = ap (λ ms. mark_of e ∷ ms) (map-append es effect)

-- one effect more
pub more_marks : (old new : List Name) (effects : List Effect) (effect : Effect) (mark : Name) → HasMarks old effects → mark ≡ mark_of effect
    → ((q : Name) → is_among q new ≡ (is_among q old || same_name q mark)) → HasMarks new (effects ++ effect ∷ [])
more_marks old new effects effect mark has is added =
    subst (HasMembers new) (ap (λ m. map mark_of effects ++ m ∷ []) is ∙ sym (map-append effects effect)) (more_members old new (map mark_of effects) mark has added)
