-- What stands as the function of an `alter` and is no symbol is what is written.
use Rattle.std.proofs.Common.{◌≡◌, ◌≢◌, ℕ, List, [], ◌∷◌, map, refl, sym, ap, ◌∙◌, rules}
use Rattle.value_core.specs.Place.{Spot}
use Rattle.sexpr_reader.specs.declared.form.Form.{Form}
use Rattle.sexpr_reader.specs.declared.form.FormKind.{FormKind, map-FormKind, the_lemmas}
use Rattle.sexpr_reader.specs.declared.form.FormKind.TheOpen as one
use Rattle.sexpr_reader.specs.declared.form.FormKind.TheVariants.{Sym}
use Rattle.sexpr_reader.specs.declared.form.FormKind.TheViews.{out-FormKind}
use Rattle.sexpr_reader.specs.declared.form.FormKind.TheFolds.{fold-FormKind, fold_out-FormKind, fold_out-Form}
use Rattle.sugar.specs.declared.expansion.Sugar.{Sugar}
use Rattle.sugar.specs.declared.expansion.Sugar.TheVariants.{Plain, If, When, Lookup, Alter}
use Rattle.sugar.specs.Meaning.{Meaning}
use Rattle.sugar.specs.Sugar.{callee}
use Rattle.sugar.specs.Expansion.{of_sugar, sugar_in, kind_step, form_step, meaning}

plain_sugar : (s : Sugar) (at : Spot) (parts : List Meaning) → callee (of_sugar s at parts) ≡ of_sugar s at parts
plain_sugar Plain at parts = refl
plain_sugar If at [] = refl
plain_sugar If at (a ∷ []) = refl
plain_sugar If at (a ∷ b ∷ []) = refl
plain_sugar If at (a ∷ b ∷ c ∷ []) = refl
plain_sugar If at (a ∷ b ∷ c ∷ d ∷ rest) = refl
plain_sugar When at [] = refl
plain_sugar When at (a ∷ []) = refl
plain_sugar When at (a ∷ b ∷ rest) = refl
plain_sugar Lookup at [] = refl
plain_sugar Lookup at (a ∷ []) = refl
plain_sugar Lookup at (a ∷ b ∷ []) = refl
plain_sugar Lookup at (a ∷ b ∷ c ∷ []) = refl
plain_sugar Lookup at (a ∷ b ∷ c ∷ d ∷ rest) = refl
plain_sugar Alter at [] = refl
plain_sugar Alter at (a ∷ []) = refl
plain_sugar Alter at (a ∷ b ∷ []) = refl
plain_sugar Alter at (a ∷ b ∷ c ∷ rest) = refl

symbol_of : (k : FormKind) (w : List ℕ) → out-FormKind k ≡ one.Sym w → k ≡ Sym w
symbol_of k w e = search (rules, the_lemmas)

plain_level : (k : FormKind) (l : one.FormKind-F FormKind Form) (at : Spot) → out-FormKind k ≡ l → ((w : List ℕ) → k ≢ Sym w)
    → let written = kind_step (map-FormKind FormKind Form (Spot → Meaning) Meaning (fold-FormKind (Spot → Meaning) Meaning kind_step form_step) meaning l) at in callee written ≡ written
plain_level k one.Nil at e other = refl
plain_level k (one.Bool b) at e other = refl
plain_level k (one.Int n) at e other = refl
plain_level k (one.Str text) at e other = refl
plain_level k (one.Kw name) at e other = refl
plain_level k (one.Sym name) at e other = absurd (other name (symbol_of k name e))
plain_level k (one.List parts) at e other = plain_sugar (sugar_in (map meaning parts)) at (map meaning parts)
plain_level k (one.Vector parts) at e other = refl
plain_level k (one.Map parts) at e other = refl
plain_level k (one.At parts) at e other = refl

level_of : (f : Form) → meaning f ≡ fold-FormKind (Spot → Meaning) Meaning kind_step form_step f.kind f.at
level_of f = fold_out-Form (Spot → Meaning) Meaning kind_step form_step f

pub plain_callee : (f : Form) → ((w : List ℕ) → f.kind ≢ Sym w) → callee (meaning f) ≡ meaning f
plain_callee f other =
    let written = level_of f ∙ ap (λ (m : Spot → Meaning). m f.at) (fold_out-FormKind (Spot → Meaning) Meaning kind_step form_step f.kind) in
    ap callee written ∙ plain_level f.kind (out-FormKind f.kind) f.at refl other ∙ sym written
