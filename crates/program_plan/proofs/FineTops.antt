-- Top-level forms whose expressions are fine.
use Rattle.std.proofs.Common.{ℕ, ◌+◌, List, [], ◌∷◌, ◌++◌, None, Some, refl}
use Rattle.resolved_forms.specs.declared.top.Top.{Top}
use Rattle.resolved_forms.specs.declared.top.TopKind.{TopKind}
use Rattle.resolved_forms.specs.declared.top.TopKind.TheVariants as top
use Rattle.resolved_forms.specs.FormsInRange as range
use Rattle.resolved_forms.specs.FormsInRange.{FormInRange, FormsFrom, functions_behind}
use Rattle.resolved_forms.specs.InRange.{Signatures}
use Rattle.program_plan.proofs.Fine.{Fine}
use Rattle.program_plan.proofs.FineExprs.{AreReady, fine}
use Rattle.program_plan.proofs.Parting.{Numbered-append}
use Rattle.program_plan.proofs.Setting.{Setting, Entry, Numbered}

-- the expression of a top-level form is fine: of the next function, where it is one
abbrev pub FineTop : Setting → ℕ → ℕ → ℕ → TopKind → Type 0
FineTop w number start end (top.Global value) = Fine w start end 0 None value
FineTop w number start end (top.Value value) = Fine w start end 0 None value
FineTop w number start end (top.Function takes inner) = Fine w start end takes (Some (record { number = number; takes = takes })) inner
FineTop w number start end (top.Behaviour head inner) = Fine w start end (head.state + head.message) None inner

-- forms from the function of that number on
pub data FineTops (w : Setting) : ℕ → ℕ → ℕ → List Top → Type 0 where
  none : {number start : ℕ} → FineTops w number start start []
  more : {number start mid end : ℕ} {form : Top} {forms : List Top} → FineTop w number start mid form.kind → FineTops w (functions_behind form.kind number) mid end forms
      → FineTops w number start end (form ∷ forms)

-- the loops of a form
abbrev pub top_entries : (w : Setting) (number start end : ℕ) (kind : TopKind) → FineTop w number start end kind → List Entry
top_entries w number start end (top.Global value) fine = fine.entries
top_entries w number start end (top.Value value) fine = fine.entries
top_entries w number start end (top.Function takes inner) fine = fine.entries
top_entries w number start end (top.Behaviour head inner) fine = fine.entries

-- the loops of some forms
abbrev pub tops_entries : (w : Setting) (number start end : ℕ) (forms : List Top) → FineTops w number start end forms → List Entry
tops_entries w number start end [] none = []
tops_entries w number start end (form ∷ forms) (more {mid = mid} first rest) =
    top_entries w number start mid form.kind first ++ tops_entries w (functions_behind form.kind number) mid end forms rest

top_numbered : (w : Setting) (number start end : ℕ) (kind : TopKind) (fine : FineTop w number start end kind) → Numbered start end (top_entries w number start end kind fine)
top_numbered w number start end (top.Global value) fine = fine.numbered
top_numbered w number start end (top.Value value) fine = fine.numbered
top_numbered w number start end (top.Function takes inner) fine = fine.numbered
top_numbered w number start end (top.Behaviour head inner) fine = fine.numbered

pub tops_numbered : (w : Setting) (number start end : ℕ) (forms : List Top) (fine : FineTops w number start end forms) → Numbered start end (tops_entries w number start end forms fine)
tops_numbered w number start end [] none = refl
tops_numbered w number start end (form ∷ forms) (more {mid = mid} first rest) =
    Numbered-append start mid end (top_entries w number start mid form.kind first) (tops_entries w (functions_behind form.kind number) mid end forms rest)
    (top_numbered w number start mid form.kind first) (tops_numbered w (functions_behind form.kind number) mid end forms rest)

-- forms in range are fine
module _ (w : Setting) (file : Signatures) (ready : AreReady w file) where
  form_fine : (number start end : ℕ) (kind : TopKind) → FormInRange file number start end kind → FineTop w number start end kind
  form_fine number start end (top.Global value) within = fine w file ready start end 0 None value within
  form_fine number start end (top.Value value) within = fine w file ready start end 0 None value within
  form_fine number start end (top.Function takes inner) within = fine w file ready start end takes (Some (record { number = number; takes = takes })) inner within
  form_fine number start end (top.Behaviour head inner) within = fine w file ready start end (head.state + head.message) None inner within

  pub forms_fine : (number start end : ℕ) (forms : List Top) → FormsFrom file number start end forms → FineTops w number start end forms
  forms_fine number start end [] range.none = none
  forms_fine number start end (form ∷ forms) (range.more {mid = mid} first rest) =
      more (form_fine number start mid form.kind first) (forms_fine (functions_behind form.kind number) mid end forms rest)
