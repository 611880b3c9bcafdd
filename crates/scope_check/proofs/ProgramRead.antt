-- A program is read back as the forms that it was made of.
use Rattle.std.proofs.Common.{◌≡◌, ◌∙◌, ℕ, List, [], ◌∷◌, ◌++◌, length, refl, sym, ap, subst, length-append}
use Rattle.value_core.specs.Place.{Spot}
use Rattle.core_syntax.specs.declared.function.Function.{Function}
use Rattle.core_syntax.specs.declared.node_id.NodeId.{NodeId}
use Rattle.core_syntax.specs.Table.{Table}
use Rattle.sexpr_reader.specs.declared.form.Form.{Form}
use Rattle.sugar.specs.Expansion.{expanded}
use Rattle.resolved_forms.specs.declared.layout.Layout.{Layout}
use Rattle.resolved_forms.specs.declared.top.Top.{Top}
use Rattle.resolved_forms.specs.declared.top.TopKind.{TopKind}
use Rattle.resolved_forms.specs.declared.top.TopKind.TheVariants.{Global, Value, Function as Defined, Behaviour as Reacts}
use Rattle.scope_check.specs.Check.{IsProgram, declared_in, resolved_in, tops_in}
use Rattle.scope_check.specs.Declaring.{nothing}
use Rattle.program_plan.specs.Lowered.{Parts, no_parts, with_root, with_top, with_tops, program_of}
use Rattle.program_plan.specs.Made.{Draft}
use Rattle.program_plan.specs.Planned.{layout_in}
use Rattle.scope_check.specs.ReadBack.{MainStands, ReadsBack, ReadsTops, nothing_before}
use Rattle.resolved_forms.specs.FormsInRange.{functions_behind}
use Rattle.program_plan.proofs.Grown.{later_loops, loops_with_all}
use Rattle.program_plan.proofs.Holding.{Follow, HaveNumbers, numbers_behind}
use Rattle.scope_check.proofs.NumberedForms.{top_numbers, tops_numbered}
use Rattle.scope_check.proofs.Numbered.{none_appended}
use Rattle.scope_check.proofs.TopsRead.{main_there, tops_read}
use Rattle.scope_check.proofs.Written.{functions_after, functions_declared, none_of}

functions_with : (layout : Layout) (at : Spot) (kind : TopKind) (parts : Parts) (draft : Draft) (root : NodeId)
    → length (with_root layout at kind parts draft root).functions ≡ functions_behind kind (length parts.functions)
functions_with layout at (Global expr) parts draft root = refl
functions_with layout at (Value expr) parts draft root = refl
functions_with layout at (Defined params body) parts draft root = length-append parts.functions _
functions_with layout at (Reacts head body) parts draft root = refl

functions_with_all : (layout : Layout) (parts : Parts) (tops : List Top) → length (with_tops layout parts tops).functions ≡ functions_after (length parts.functions) tops
functions_with_all layout parts [] = refl
functions_with_all layout parts (top ∷ tops) =
    functions_with_all layout (with_top layout parts top) tops ∙ ap (λ n. functions_after n tops) (functions_with layout top.at top.kind parts _ _)

-- where loops follow the functions of the top level, their functions have their numbers
program_read : (layout : Layout) (tops : List Top) (to : ℕ) → Follow (functions_after 0 tops) to (top_numbers tops) → ReadsTops (program_of layout tops) layout nothing_before tops
program_read layout tops to follow =
    let final = with_tops layout no_parts tops in
    let loops = later_loops layout no_parts tops in
    let behind = numbers_behind final.functions loops to (top_numbers tops) (subst (λ (n : ℕ). Follow n to (top_numbers tops)) (sym (functions_with_all layout no_parts tops)) follow) in
    tops_read layout no_parts tops (subst (λ (l : List Function). HaveNumbers (final.functions ++ l) (top_numbers tops) loops) (sym (loops_with_all layout no_parts tops)) behind)

pub read_back : (forms : List Form) (table : Table) → IsProgram forms table → ReadsBack forms table
read_back forms table program =
    let declared = declared_in forms in
    let tops = tops_in forms in
    let plan = program.planned in
    let layout = layout_in tops plan.lists in
    let right = none_appended declared.refusals (resolved_in forms).refusals (none_of _ program.nothing_wrong) in
    let written = functions_declared (expanded forms) nothing 0 declared.definitions declared.functions right.0 in
    let follow = tops_numbered (expanded forms) 0 declared.definitions declared.functions right.1 in
    let to = (resolved_in forms).loops in
    record {
      lists = plan.lists;
      reached = plan.reached;
      main_stands = subst MainStands (sym plan.is) (main_there (with_tops layout no_parts tops));
      tops_read = subst (λ (t : Table). ReadsTops t layout nothing_before tops) (sym plan.is) (program_read layout tops to (subst (λ (n : ℕ). Follow n to (top_numbers tops)) written follow));
    }
