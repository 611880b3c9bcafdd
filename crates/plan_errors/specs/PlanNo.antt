-- Why resolved forms have no program.
use Rattle.value_core.specs.Place.{Spot}
use Rattle.core_syntax.specs.declared.build_no.BuildNo.{BuildNo}
use Rattle.core_syntax.specs.declared.build_no.BuildNo.TheVariants as build
use Rattle.plan_errors.specs.declared.error.PlanKind.TheVariants.{TooManyNodes}
use Rattle.plan_errors.specs.declared.error.PlanNo.{PlanNo}
use Rattle.plan_errors.specs.declared.error.PlanNo.TheVariants.{Memory, Refused}

-- where a node of the form at that place is not taken: the nodes are too many there, or there is no memory
abbrev pub plan_no : BuildNo → Spot → PlanNo
plan_no build.TooManyNodes at = Refused TooManyNodes at
plan_no build.Memory at = Memory
