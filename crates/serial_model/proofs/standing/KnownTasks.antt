-- The results that a task knows, as those of the tasks of a tree.
use Rattle.std.proofs.Common.{◌≡◌, ◌∙◌, Bool, true, false, List, cond, refl, sym, ap, subst, Option, Some, None}
use Rattle.std.specs.Prelude.{◌||◌, is_some, T, if◌then◌else◌}
use Rattle.std.specs.Option.{option_or}
use Rattle.value_core.specs.Named.{Name, is_among, same_name}
use Rattle.serial_model.specs.Task.{Known, Nothing, And, Result, result_of, with_known}
use Rattle.value_core.proofs.NamedLaws.{same_name-equal}
use Rattle.serial_model.specs.Standing.{Matches}

pub result_both : (known others : Known) (g : Name) → result_of g (with_known known others) ≡ option_or (result_of g known) (result_of g others)
result_both Nothing others g = refl
result_both (And name outcome log inner rest) others g = on (same_name name g) (result_both rest others g)
  where
    on : (b : Bool) → result_of g (with_known rest others) ≡ option_or (result_of g rest) (result_of g others)
        → cond b (Some (record { outcome = outcome; log = log; known = inner })) (result_of g (with_known rest others))
        ≡ option_or (cond b (Some (record { outcome = outcome; log = log; known = inner })) (result_of g rest)) (result_of g others)
    on true is = refl
    on false is = is

-- a known future has its task's result
pub matched : (results : Name → Result) (names : List Name) (known : Known) (future : Name) → Matches results names known → is_among future names ≡ true → result_of future known ≡ Some (results future)
matched results names known future matches among = matches future ∙ ap (λ b. cond b (Some (results future)) None) among

pub unmatched : (results : Name → Result) (names : List Name) (known : Known) (future : Name) → Matches results names known → is_among future names ≡ false → result_of future known ≡ None
unmatched results names known future matches among = matches future ∙ ap (λ b. cond b (Some (results future)) None) among

-- what both know
pub matches_both : (results : Name → Result) (one other both : List Name) (known others : Known) → ((g : Name) → is_among g both ≡ (is_among g one || is_among g other))
    → Matches results one known → Matches results other others → Matches results both (with_known known others)
matches_both results one other both known others all first second g =
    result_both known others g ∙ ap (λ o. option_or o (result_of g others)) (first g)
    ∙ ap (λ o. option_or (cond (is_among g one) (Some (results g)) None) o) (second g)
    ∙ on (is_among g one) (is_among g other) ∙ sym (ap (λ b. cond b (Some (results g)) None) (all g))
  where
    on : (a b : Bool) → option_or (cond a (Some (results g)) None) (cond b (Some (results g)) None) ≡ cond (a || b) (Some (results g)) None
    on true b = refl
    on false b = refl

-- one result more
pub matches_one : (results : Name → Result) (names more : List Name) (known : Known) (future : Name) (child : Result) → ((g : Name) → is_among g more ≡ (same_name future g || is_among g names))
    → results future ≡ child → Matches results names known → Matches results more (And future child.outcome child.log child.known known)
matches_one results names more known future child all is matches g =
    on (same_name future g) refl ∙ sym (ap (λ b. cond b (Some (results g)) None) (all g))
  where
    on : (b : Bool) → same_name future g ≡ b → cond b (Some child) (result_of g known) ≡ cond (b || is_among g names) (Some (results g)) None
    on true same = ap Some (sym is ∙ ap results (same_name-equal future g same))
    on false same = matches g

-- where the results of these names stay
pub matches_still : (results others : Name → Result) (names : List Name) (known : Known) → ((g : Name) → is_among g names ≡ true → others g ≡ results g)
    → Matches results names known → Matches others names known
matches_still results others names known same matches g = matches g ∙ on (is_among g names) refl
  where
    on : (b : Bool) → is_among g names ≡ b → cond b (Some (results g)) None ≡ cond b (Some (others g)) None
    on true among = ap Some (sym (same g among))
    on false among = refl

-- names that are the same
pub matches_same : (results : Name → Result) (names others : List Name) (known : Known) → ((g : Name) → is_among g others ≡ is_among g names)
    → Matches results names known → Matches results others known
matches_same results names others known same matches g = matches g ∙ sym (ap (λ b. cond b (Some (results g)) None) (same g))
