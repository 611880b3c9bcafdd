-- The fields of a program that is finished.
use Rattle.std.proofs.Common.{◌≡◌, ◌∙◌, ℕ, ◌≤◌, List, [], ◌∷◌, ◌++◌, length, sym, ap, subst}
use Rattle.std.specs.Prelude.{count_by}
use Rattle.core_syntax.specs.declared.behaviour.Behaviour.{Behaviour}
use Rattle.core_syntax.specs.declared.function.Function.{Function}
use Rattle.core_syntax.specs.declared.node_id.NodeId.{NodeId}
use Rattle.core_syntax.specs.declared.row.Row.{Row}
use Rattle.core_syntax.specs.declared.step.Step.{Step}
use Rattle.core_syntax.specs.Inside.{IsSound}
use Rattle.core_syntax.specs.Limit.{counted, node_limit}
use Rattle.core_syntax.specs.Table.{Table, main_row, finished, global_count}
use Rattle.core_syntax.specs.WellFormed.{ChildrenFirst, CanFinish, IsWellFormed}
use Rattle.core_syntax.proofs.Tables.{finished-well_formed, global_count-finished}

-- they are sound
pub finished-sound : (rows all : List Row) (steps : List Step) (functions : List Function) (written : ℕ) (behaviours : List Behaviour) (main : NodeId) (m n : ℕ)
    → all ≡ rows ++ main_row steps ∷ [] → main.index ≡ length rows → m ≡ length behaviours → n ≡ count_by (λ step. step.binds) steps
    → ChildrenFirst rows → counted rows ≤ node_limit → CanFinish rows steps functions written behaviours
    → IsSound (record { rows = all; functions = functions; written = written; behaviours = behaviours; main = main; behaviour_count = m; global_count = n })
finished-sound rows all steps functions written behaviours main m n pushed last behaviours_counted globals_counted first within can = record {
  well_formed = subst IsWellFormed (sym same) (finished-well_formed rows steps functions written behaviours first within can);
  behaviours_counted = behaviours_counted;
  globals_counted = globals_counted ∙ sym (ap global_count same ∙ global_count-finished rows steps functions written behaviours);
}
  where
    same : record { nodes = all; functions = functions; written = written; behaviours = behaviours; main = main } ≡ finished rows steps functions written behaviours
    same =
        let of_nodes : List Row → Table = λ nodes. record { nodes = nodes; functions = functions; written = written; behaviours = behaviours; main = main } in
        let of_main : ℕ → Table = λ index. record { nodes = rows ++ main_row steps ∷ []; functions = functions; written = written; behaviours = behaviours; main = record { index = index } } in
        ap of_nodes pushed ∙ ap of_main last
