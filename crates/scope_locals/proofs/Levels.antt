-- The levels by name, where a local is bound and where it is left.
use Rattle.std.proofs.Common.{◌≡◌, inl, inr, ℕ, ◌-◌, ◌≤◌, Bool, true, false, cond, List, [], ◌∷◌, ◌++◌, length, take, drop, Option, Some, None, IsSome, refl, sym, ap, ◌∙◌, subst, arith}
use Rattle.std.specs.BTreeMap.{BTreeMap}
use Rattle.std.specs.Cmp.Lexicographic.{bytes_decides, nat_list_eq_equiv}
use Rattle.std.specs.Global.{Vec}
use Rattle.std.specs.List.{slice_get}
use Rattle.std.specs.Map.{update}
use Rattle.std.specs.Str.{bytes_eq}
use Rattle.std.proofs.lemmas.List.{take-append-le, take_all, length-map, drop-map, length-drop}
use Rattle.std.proofs.lemmas.Option.{slice_get_within}
use Rattle.core_syntax.proofs.Appends.{slice_get-append_left, slice_get-push, slice_get-push_cases}
use Rattle.scope_locals.specs.declared.locals.Local.{Local}
use Rattle.scope_locals.specs.ByName.{at_name}
use Rattle.scope_locals.specs.Levels.{names_of, AreLevels}
use Rattle.scope_locals.specs.Innermost.{innermost}
use Rattle.scope_locals.proofs.Innermost.{pushed, innermost_push}

-- the locals with one more behind them
names_push : (locals : List Local) (local : Local) → names_of (locals ++ local ∷ []) ≡ names_of locals ++ local.name ∷ []
names_push [] local = refl
names_push (l ∷ locals) local = ap (λ names. l.name ∷ names) (names_push locals local)

shown_push : (locals : List Local) (local : Local) (name : List ℕ) → innermost (names_of (locals ++ local ∷ [])) name ≡ pushed (bytes_eq local.name name) (length locals) (innermost (names_of locals) name)
shown_push locals local name =
    ap (λ names. innermost names name) (names_push locals local) ∙ innermost_push (names_of locals) local.name name
    ∙ ap (λ n. pushed (bytes_eq local.name name) n (innermost (names_of locals) name)) (length-map locals (λ (l : Local). l.name))

pushed_is : (b : Bool) (level : ℕ) (outside : Option ℕ) → cond b (Some level) outside ≡ pushed b level outside
pushed_is true level outside = refl
pushed_is false level outside = refl

take_before : (locals : List Local) (local : Local) (level : ℕ) → level ≤ length locals → take level (locals ++ local ∷ []) ≡ take level locals
take_before locals local level within = take-append-le level locals (local ∷ []) within

pub levels_pushed : (locals : List Local) (local : Local) (old new : BTreeMap (Vec ℕ) ℕ) → AreLevels locals old → local.hidden ≡ at_name old local.name
    → ((name : List ℕ) → at_name new name ≡ update bytes_eq (at_name old) local.name (Some (length locals)) name) → AreLevels (locals ++ local ∷ []) new
levels_pushed locals local old new levels hides changed =
    let earlier : (level : ℕ) (l : Local) → slice_get locals level ≡ Some l → l.hidden ≡ innermost (names_of (take level (locals ++ local ∷ []))) l.name = λ level l there.
    levels.hidden level l there ∙ ap (λ ls. innermost (names_of ls) l.name) (sym (take_before locals local level (let lt = slice_get_within locals level l there in omega arith))) in
    let before : take (length locals) (locals ++ local ∷ []) ≡ locals = take_before locals local (length locals) (omega arith) ∙ take_all (length locals) locals (omega arith) in
    let last : local.hidden ≡ innermost (names_of (take (length locals) (locals ++ local ∷ []))) local.name = hides ∙ levels.shown local.name ∙ ap (λ ls. innermost (names_of ls) local.name) (sym before) in
    record {
      shown = λ name. changed name ∙ ap (λ o. cond (bytes_eq local.name name) (Some (length locals)) o) (levels.shown name)
          ∙ pushed_is (bytes_eq local.name name) (length locals) (innermost (names_of locals) name) ∙ sym (shown_push locals local name);
      hidden = λ level l there. elim (slice_get-push_cases locals local level l there) [
        | inl old_one ↦ earlier level l old_one
        | inr is ↦ subst (λ (k : ℕ). l.hidden ≡ innermost (names_of (take k (locals ++ local ∷ []))) l.name) (sym is.0)
            (subst (λ (x : Local). x.hidden ≡ innermost (names_of (take (length locals) (locals ++ local ∷ []))) x.name) (sym is.1) last)
      ];
    }

left_shown : (b : Bool) (level : ℕ) (hidden at outside : Option ℕ) → at ≡ pushed b level outside → (b ≡ true → hidden ≡ outside) → cond b hidden at ≡ outside
left_shown true level hidden at outside was hides = hides refl
left_shown false level hidden at outside was hides = was

pub levels_popped : (locals : List Local) (local : Local) (old new : BTreeMap (Vec ℕ) ℕ) → AreLevels (locals ++ local ∷ []) old
    → ((name : List ℕ) → at_name new name ≡ update bytes_eq (at_name old) local.name local.hidden name) → AreLevels locals new
levels_popped locals local old new levels changed =
    let before : take (length locals) (locals ++ local ∷ []) ≡ locals = take_before locals local (length locals) (omega arith) ∙ take_all (length locals) locals (omega arith) in
    let hides : local.hidden ≡ innermost (names_of locals) local.name = levels.hidden (length locals) local (slice_get-push locals local) ∙ ap (λ ls. innermost (names_of ls) local.name) before in
    record {
      shown = λ name. changed name
          ∙ left_shown (bytes_eq local.name name) (length locals) local.hidden (at_name old name) (innermost (names_of locals) name) (levels.shown name ∙ shown_push locals local name)
          (λ same. hides ∙ ap (innermost (names_of locals)) ((bytes_decides local.name name).0 same));
      hidden = λ level l there. levels.hidden level l (slice_get-append_left locals (local ∷ []) level l there)
          ∙ ap (λ ls. innermost (names_of ls) l.name) (take_before locals local level (let lt = slice_get_within locals level l there in omega arith));
    }

shows : (o : Option ℕ) (level : ℕ) → o ≡ Some level → IsSome o
shows None level is = absurd (cc)
shows (Some x) level is = refl

pub last_shown : (locals : List Local) (local : Local) (levels : BTreeMap (Vec ℕ) ℕ) → AreLevels (locals ++ local ∷ []) levels → IsSome (at_name levels local.name)
last_shown locals local levels are =
    shows (at_name levels local.name) (length locals)
    (are.shown local.name ∙ shown_push locals local local.name ∙ ap (λ b. pushed b (length locals) (innermost (names_of locals) local.name)) (nat_list_eq_equiv.refl local.name))

-- the locals from a level on
pub names_from : (locals : List Local) (level : ℕ) → names_of (take (length locals - level) (drop level locals)) ≡ drop level (names_of locals)
names_from locals level =
    ap names_of (take_all (length locals - level) (drop level locals) (omega (arith, length-drop level locals))) ∙ sym (drop-map (λ (l : Local). l.name) level locals)
