-- A function, a behaviour, a global and an expression as forms of a program.
use Rattle.std.proofs.Common.{◌≡◌, ℕ, ◌+◌, List, [], ap, ◌∙◌}
use Rattle.scope_names.specs.Shapes.{Value, shape_of}
use Rattle.sugar.specs.Meaning.{Meaning}
use Rattle.resolved_forms.specs.declared.top.Reacting.{Reacting}
use Rattle.resolved_forms.specs.declared.top.TopKind.TheVariants.{Value as value_kind, Function as function_kind, Behaviour as behaviour_kind, Global as global_kind}
use Rattle.resolved_forms.specs.TopSurvey.{behaviour_with, form_at, function_with}
use Rattle.scope_check.specs.Declaring.{declare}
use Rattle.made_programs.proofs.CoreTrees.{CoreTree, behaviour_by, behind_third, core_of, first_in, function_by, global_by, parts_in, place_of, second_of, third_of, value_by}
use Rattle.made_programs.proofs.ExprTrees.{ExprTree, expr_from, rows_are, size_of, survey_is, survey_of}
use Rattle.made_programs.proofs.Forms.{Before, Goes, MadeForm}
use Rattle.made_programs.proofs.Scoped.{IsBehaviour, IsFunction, IsGlobal, behaviour_top_of, function_top_of, global_top_of, value_top_of}
use Rattle.made_programs.proofs.Sizes.{rows_turn}
use Rattle.made_programs.proofs.Topped.{definitions, fine}

-- what goes for a form of any kind: its core form, and what it leaves to the next one
pub record Follows (m : Meaning) (c : CoreTree) (old new : Before) : Type 0 where
  pub expanded : m.core old.made ≡ core_of c
  pub made : old.made + m.made ≡ new.made
  pub declared : declare (core_of c) old.declared ≡ new.declared

module _ (m : Meaning) (c : CoreTree) (value : ExprTree) where
  abbrev pub function_form : ℕ → ℕ → MadeForm
  function_form takes globals = record {
    meaning = m;
    core = core_of c;
    at = place_of c;
    kind = function_kind takes (expr_from value (first_in (behind_third c)));
    survey = function_with globals (survey_of 2 value);
    most = size_of value;
  }

  abbrev pub behaviour_form : Reacting → CoreTree → ℕ → MadeForm
  behaviour_form reacting body globals = record (function_form 0 globals) {
    kind = behaviour_kind reacting (expr_from value body);
    survey = behaviour_with globals (survey_of 2 value);
    most = size_of value + 1;
  }

  abbrev pub global_form : ℕ → MadeForm
  global_form globals = record (function_form 0 globals) {
    kind = global_kind (expr_from value (third_of c));
    survey = form_at (place_of c) globals (globals + 1) (survey_of 2 value);
  }

  abbrev pub value_form : ℕ → MadeForm
  value_form globals = record (function_form 0 globals) {
    kind = value_kind (expr_from value c);
    survey = form_at (place_of c) globals globals (survey_of 2 value);
  }

  module _ (old new : Before) (follows : Follows m c old new) where
    pub function_goes : (name : List ℕ) (takes : ℕ) → IsFunction c name
        → function_by (place_of c) old.functions (parts_in (third_of c)) (behind_third c) definitions old.loops ≡ fine (place_of c) (function_form takes old.globals).kind new.loops
        → old.functions + 1 ≡ new.functions → old.globals ≡ new.globals → Goes (function_form takes old.globals) old new
    function_goes name takes shape is functions globals = record {
      expanded = follows.expanded;
      made = follows.made;
      declared = follows.declared;
      resolved = function_top_of c name old.functions definitions old.loops shape ∙ is;
      functions = functions;
      surveyed = ap (function_with old.globals) (survey_is 2 value (first_in (behind_third c)));
      globals = globals;
      sized = record { is = λ layout parts. rows_are value (first_in (behind_third c)) _ };
    }

    pub behaviour_goes : (name : List ℕ) (reacting : Reacting) (body : CoreTree) → IsBehaviour c name
        → behaviour_by (place_of c) (place_of (third_of c)) (parts_in (second_of (third_of c))) (parts_in (third_of (third_of c))) (behind_third (third_of c)) definitions old.loops
        ≡ fine (place_of c) (behaviour_form reacting body old.globals).kind new.loops
        → old.functions ≡ new.functions → old.globals ≡ new.globals → Goes (behaviour_form reacting body old.globals) old new
    behaviour_goes name reacting body shape is functions globals = record {
      expanded = follows.expanded;
      made = follows.made;
      declared = follows.declared;
      resolved = behaviour_top_of c name old.functions definitions old.loops shape ∙ is;
      functions = functions;
      surveyed = ap (behaviour_with old.globals) (survey_is 2 value body);
      globals = globals;
      sized = record { is = λ layout parts. rows_turn _ _ (size_of value) _ (rows_are value body _) };
    }

    pub global_goes : (name : List ℕ) → IsGlobal c name
        → global_by (place_of c) (third_of c) definitions old.loops ≡ fine (place_of c) (global_form old.globals).kind new.loops
        → old.functions ≡ new.functions → old.globals + 1 ≡ new.globals → Goes (global_form old.globals) old new
    global_goes name shape is functions globals = record {
      expanded = follows.expanded;
      made = follows.made;
      declared = follows.declared;
      resolved = global_top_of c name old.functions definitions old.loops shape ∙ is;
      functions = functions;
      surveyed = ap (form_at (place_of c) old.globals (old.globals + 1)) (survey_is 2 value (third_of c));
      globals = globals;
      sized = record { is = λ layout parts. rows_are value (third_of c) _ };
    }

    pub value_goes : shape_of (core_of c) ≡ Value → value_by (place_of c) c definitions old.loops ≡ fine (place_of c) (value_form old.globals).kind new.loops
        → old.functions ≡ new.functions → old.globals ≡ new.globals → Goes (value_form old.globals) old new
    value_goes shape is functions globals = record {
      expanded = follows.expanded;
      made = follows.made;
      declared = follows.declared;
      resolved = value_top_of c [] old.functions definitions old.loops shape ∙ is;
      functions = functions;
      surveyed = ap (form_at (place_of c) old.globals old.globals) (survey_is 2 value c);
      globals = globals;
      sized = record { is = λ layout parts. rows_are value c _ };
    }
