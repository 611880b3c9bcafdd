-- What the names stand for, where one more definition comes.
use Rattle.std.proofs.Common.{◌≡◌, ℕ, Bool, true, false, cond, if◌then◌else◌, List, [], ◌∷◌, ◌++◌, Option, Some, None, IsSome, refl, sym, ap, ◌∙◌, subst}
use Rattle.std.specs.BTreeMap.{BTreeMap}
use Rattle.std.specs.Cmp.Lexicographic.{bytes_decides}
use Rattle.std.specs.Global.{Vec}
use Rattle.std.specs.Map.{update}
use Rattle.std.specs.Option.{is_some}
use Rattle.std.specs.Str.{bytes_eq}
use Rattle.scope_names.specs.declared.definition.Definition.{Definition}
use Rattle.scope_names.specs.declared.definition.What.{What}
use Rattle.scope_locals.specs.ByName.{at_name}
use Rattle.scope_names.specs.Names.{defined}

abbrev pub otherwise : Option What → Option What → Option What
otherwise (Some what) later = Some what
otherwise None later = later

earlier_first : (b : Bool) (what : What) (before all last : Option What) → all ≡ otherwise before last → (if b then Some what else all) ≡ otherwise (if b then Some what else before) last
earlier_first true what before all last is = refl
earlier_first false what before all last is = is

defined_push : (ds : List Definition) (d : Definition) (name : List ℕ) → defined (ds ++ d ∷ []) name ≡ otherwise (defined ds name) (if bytes_eq d.name name then Some d.what else None)
defined_push [] d name = refl
defined_push (x ∷ ds) d name = earlier_first (bytes_eq x.name name) x.what (defined ds name) (defined (ds ++ d ∷ []) name) (if bytes_eq d.name name then Some d.what else None) (defined_push ds d name)

-- a name that was not there is defined now
fresh_one : (b : Bool) (what : What) (before : Option What) → (b ≡ true → before ≡ None) → cond b (Some what) before ≡ otherwise before (if b then Some what else None)
fresh_one true what None none = refl
fresh_one true what (Some x) none = let e = none refl in absurd (cc)
fresh_one false what None none = refl
fresh_one false what (Some x) none = refl

pub defined_fresh : (ds : List Definition) (d : Definition) (old new : BTreeMap (Vec ℕ) What) → ((name : List ℕ) → at_name old name ≡ defined ds name) → at_name old d.name ≡ None
    → ((name : List ℕ) → at_name new name ≡ update bytes_eq (at_name old) d.name (Some d.what) name) → (name : List ℕ) → at_name new name ≡ defined (ds ++ d ∷ []) name
defined_fresh ds d old new are none changed name =
    changed name ∙ ap (λ before. cond (bytes_eq d.name name) (Some d.what) before) (are name)
    ∙ fresh_one (bytes_eq d.name name) d.what (defined ds name) (λ same. sym (are name) ∙ subst (λ (n : List ℕ). at_name old n ≡ None) ((bytes_decides d.name name).0 same) none)
    ∙ sym (defined_push ds d name)

-- a name that was there keeps its first definition
known_one : (b : Bool) (what : What) (before : Option What) → (b ≡ true → IsSome before) → before ≡ otherwise before (if b then Some what else None)
known_one true what None some = let e = some refl in absurd (cc)
known_one true what (Some x) some = refl
known_one false what None some = refl
known_one false what (Some x) some = refl

pub defined_known : (ds : List Definition) (d : Definition) (first : BTreeMap (Vec ℕ) What) → ((name : List ℕ) → at_name first name ≡ defined ds name) → IsSome (at_name first d.name)
    → (name : List ℕ) → at_name first name ≡ defined (ds ++ d ∷ []) name
defined_known ds d first are some name =
    are name
    ∙ known_one (bytes_eq d.name name) d.what (defined ds name)
    (λ same. subst (λ (o : Option What). IsSome o) (are name) (subst (λ (n : List ℕ). IsSome (at_name first n)) ((bytes_decides d.name name).0 same) some))
    ∙ sym (defined_push ds d name)

pub no_entry : (o : Option What) → is_some o ≡ false → o ≡ None
no_entry None none = refl
no_entry (Some x) none = absurd (cc)
