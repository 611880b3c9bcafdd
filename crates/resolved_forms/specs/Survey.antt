-- What an expression names, and the loops in it.
use Rattle.std.specs.Prelude.{ℕ, ◌-◌, nat_lt, List, [], ◌∷◌, ◌++◌, length, get_or, take, filter}
use Rattle.resolved_forms.specs.declared.expr.Expr.{Expr}
use Rattle.resolved_forms.specs.declared.expr.ExprKind.TheOpen as one
use Rattle.resolved_forms.specs.declared.expr.ExprKind.TheFolds.{fold-Expr}
use Rattle.resolved_forms.specs.declared.expr.Looping.{Looping}
use Rattle.resolved_forms.specs.declared.survey.LoopSurvey.{LoopSurvey}
use Rattle.resolved_forms.specs.declared.survey.Survey.{Survey}
use Rattle.resolved_forms.specs.Uses.{no_uses, both_uses, function_unit, head_units}

abbrev pub nothing : Survey
nothing = record { uses = no_uses; levels = []; loops = [] }

abbrev pub of_global : ℕ → Survey
of_global number = record { uses = record { globals = number ∷ []; units = [] }; levels = []; loops = [] }

abbrev pub of_local : ℕ → Survey
of_local level = record { uses = no_uses; levels = level ∷ []; loops = [] }

abbrev pub of_units : List ℕ → Survey
of_units units = record { uses = record { globals = []; units = units }; levels = []; loops = [] }

-- one expression, and then another one
abbrev pub both : Survey → Survey → Survey
both first other = record {
  uses = both_uses first.uses other.uses;
  levels = first.levels ++ other.levels;
  loops = first.loops ++ other.loops;
}

-- several expressions one after another
abbrev pub all_of : List Survey → Survey
all_of [] = nothing
all_of (first ∷ others) = both first (all_of others)

-- the locals of what is round a loop that its body names, by their levels
abbrev pub hidden_levels : Looping → Survey → List ℕ
hidden_levels own body = filter (λ level. nat_lt level own.base) body.levels

abbrev pub own_survey : Looping → Survey → LoopSurvey
own_survey own body = record { uses = body.uses; levels = hidden_levels own body }

-- a loop names what its initial expressions do, then its own function, and the locals that this one takes from round it
abbrev pub of_loop : ℕ → Looping → Survey → Survey → Survey
of_loop behaviours own initial body = record {
  uses = record { globals = initial.uses.globals; units = initial.uses.units ++ function_unit behaviours own.number ∷ [] };
  levels = initial.levels ++ hidden_levels own body;
  loops = own_survey own body ∷ initial.loops ++ body.loops;
}

-- the body of a loop is the last of its parts
abbrev pub body_of : List Survey → Survey
body_of parts = get_or parts (length parts - 1) nothing

abbrev pub of_loop_parts : ℕ → Looping → List Survey → Survey
of_loop_parts behaviours own parts = of_loop behaviours own (all_of (take (length parts - 1) parts)) (body_of parts)

-- one level of an expression, with the survey of each part in its place
abbrev pub kind_step : ℕ → one.ExprKind-F Survey Survey → Survey
kind_step behaviours (one.Local level) = of_local level
kind_step behaviours (one.Global number) = of_global number
kind_step behaviours (one.Apply head parts) = both (of_units (head_units behaviours head)) (all_of parts)
kind_step behaviours (one.Let parts) = all_of parts
kind_step behaviours (one.Cond parts) = all_of parts
kind_step behaviours (one.And base parts) = all_of parts
kind_step behaviours (one.Or base parts) = all_of parts
kind_step behaviours (one.Loop own parts) = of_loop_parts behaviours own parts
kind_step behaviours _ = nothing

abbrev pub expr_step : one.Expr-F Survey Survey → Survey
expr_step expr = expr.kind

-- the globals, units and levels that an expression names, in their order, and its loops in the order of their numbers
abbrev pub surveyed : ℕ → Expr → Survey
surveyed behaviours = fold-Expr Survey Survey (kind_step behaviours) expr_step
