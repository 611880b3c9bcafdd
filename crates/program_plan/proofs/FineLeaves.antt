-- Constants and names are fine.
use Rattle.std.proofs.Common.{◌≡◌, ℕ, ◌<◌, List, [], refl, sym, subst}
use Rattle.std.specs.Prelude.{ℤ, Bool, Option}
use Rattle.std.proofs.lemmas.Bool.{lt-ltb}
use Rattle.std.proofs.lemmas.List.Elements.{All-nil, All-cons}
use Rattle.value_core.specs.Place.{Spot}
use Rattle.value_core.specs.primitives.Words.{takes_of}
use Rattle.core_syntax.specs.declared.node.Node.{Node}
use Rattle.core_syntax.specs.declared.node.Node.TheVariants as node
use Rattle.core_syntax.specs.Fits.{NodeFits}
use Rattle.resolved_forms.specs.declared.expr.Expr.{Expr}
use Rattle.resolved_forms.specs.declared.expr.ExprKind.TheVariants as expr
use Rattle.resolved_forms.specs.InRange.{Target, expr_at}
use Rattle.resolved_forms.specs.declared.survey.Survey.{Survey}
use Rattle.program_plan.specs.Emitted.{Emitting, emitted, local}
use Rattle.program_plan.specs.Frame.{frame_of, global_place, local_place}
use Rattle.program_plan.specs.Made as made
use Rattle.resolved_forms.specs.Survey.{nothing, of_local, of_global, surveyed}
use Rattle.program_plan.proofs.Fine.{Fine, FineOf, named_nothing}
use Rattle.resolved_forms.proofs.Members.{in_head}
use Rattle.program_plan.proofs.Seated.{global_fits, local_fits}
use Rattle.program_plan.proofs.Setting.{Setting, Enough, size_in}
use Rattle.program_plan.proofs.Sized.{sized_node}
use Rattle.program_plan.proofs.Unfolded.{surveyed_nil, surveyed_bool, surveyed_int, surveyed_str, surveyed_kw, surveyed_local, surveyed_global, emitted_nil, emitted_bool, emitted_int, emitted_str, emitted_kw, emitted_local, emitted_global}

-- an expression that names this and makes that
pub fine_as : (w : Setting) (start end depth : ℕ) (target : Option Target) (e : Expr) (survey : Survey) (emitting : Emitting) → surveyed w.behaviours e ≡ survey → emitted e ≡ emitting
    → FineOf w start end depth target survey emitting → Fine w start end depth target e
fine_as w start end depth target e survey emitting named makes fine =
    subst (λ s. FineOf w start end depth target s (emitted e)) (sym named) (subst (λ p. FineOf w start end depth target survey p) (sym makes) fine)

module _ (w : Setting) (start depth : ℕ) (target : Option Target) (at : Spot) where
  -- a node without children that fits everywhere
  constant : (n : Node) → ((sizes : List ℕ) (size : ℕ) → NodeFits takes_of w.table sizes size n) → FineOf w start start depth target nothing (λ frame. made.node at n)
  constant n fits = record {
    entries = [];
    numbered = refl;
    surveys = refl;
    named = named_nothing w;
    makes = λ hidden base before. sized_node w _ at n before (size_in hidden base depth) (λ enough. fits before (size_in hidden base depth));
  }

  pub fine_nil : Fine w start start depth target (expr_at at expr.Nil)
  fine_nil = fine_as w start start depth target _ nothing _ (surveyed_nil w.behaviours at) (emitted_nil at) (constant node.Nil (λ sizes size. record { itself = refl; inside = tt }))

  pub fine_bool : (b : Bool) → Fine w start start depth target (expr_at at (expr.Bool b))
  fine_bool b = fine_as w start start depth target _ nothing _ (surveyed_bool w.behaviours at b) (emitted_bool at b) (constant (node.Bool b) (λ sizes size. record { itself = refl; inside = tt }))

  pub fine_int : (n : ℤ) → Fine w start start depth target (expr_at at (expr.Int n))
  fine_int n = fine_as w start start depth target _ nothing _ (surveyed_int w.behaviours at n) (emitted_int at n) (constant (node.Int n) (λ sizes size. record { itself = refl; inside = tt }))

  pub fine_str : (text : List ℕ) → Fine w start start depth target (expr_at at (expr.Str text))
  fine_str text = fine_as w start start depth target _ nothing _ (surveyed_str w.behaviours at text) (emitted_str at text) (constant (node.Str text) (λ sizes size. record { itself = refl; inside = tt }))

  pub fine_kw : (name : List ℕ) → Fine w start start depth target (expr_at at (expr.Kw name))
  fine_kw name = fine_as w start start depth target _ nothing _ (surveyed_kw w.behaviours at name) (emitted_kw at name) (constant (node.Kw name) (λ sizes size. record { itself = refl; inside = tt }))

  -- a local that is bound
  pub fine_local : (level : ℕ) → level < depth → Fine w start start depth target (expr_at at (expr.Local level))
  fine_local level lt = fine_as w start start depth target _ (of_local level) (local at level) (surveyed_local w.behaviours at level) (emitted_local at level) (record {
    entries = [];
    numbered = refl;
    surveys = refl;
    named = record { uses = All-nil _; inside = All-nil _ };
    makes = λ hidden base before.
        let place = local_place (frame_of w.layout hidden base) level in
        let size = size_in hidden base depth in
        sized_node w (Enough w hidden base depth target (of_local level) []) at (node.Local place) before size (λ enough. record {
          itself = lt-ltb place size (local_fits w.layout hidden base depth level enough.within lt (enough.levels level (in_head level [])));
          inside = tt;
        });
  })

  -- a global of the file
  pub fine_global : (number : ℕ) → number < w.globals → Fine w start start depth target (expr_at at (expr.Global number))
  fine_global number lt = fine_as w start start depth target _ (of_global number) _ (surveyed_global w.behaviours at number) (emitted_global at number) (record {
    entries = [];
    numbered = refl;
    surveys = refl;
    named = record { uses = All-cons (λ g. g < w.globals) number [] lt (All-nil (λ g. g < w.globals)); inside = All-nil _ };
    makes = λ hidden base before.
        let place = global_place (frame_of w.layout hidden base) number in
        let size = size_in hidden base depth in
        sized_node w (Enough w hidden base depth target (of_global number) []) at (node.Local place) before size (λ enough. record {
          itself = lt-ltb place size (global_fits w.layout hidden base depth number (enough.covers.named number (in_head number [])));
          inside = tt;
        });
  })
