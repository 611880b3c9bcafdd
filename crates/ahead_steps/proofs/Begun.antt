-- A turn that runs ahead and begins an attempt.
use Rattle.std.proofs.Common.{◌≡◌, ◌∙◌, Bool, List, sym, ap, subst}
use Rattle.std.specs.Prelude.{Err, None, Ok, Option, Result, Some}
use Rattle.std.specs.declared.alloc.AllocError.{AllocError}
use Rattle.ahead_steps.proofs.Came.{some-same}
use Rattle.ahead_steps.specs.Leads.{IsLead, TriesOr}
use Rattle.core_syntax.specs.declared.node_id.NodeId.{NodeId}
use Rattle.serial_model.specs.Step.{next_made}
use Rattle.shared_world.specs.Ahead.{Ahead}
use Rattle.shared_world.specs.declared.given.Given.{Given}
use Rattle.shared_world.specs.rows.Attempts.{BeginsMarked}
use Rattle.shared_world.specs.rows.Leading.{LeadTries, is_definite, mark_ahead}
use Rattle.shared_world.specs.Shared.{Shared, unit_state}
use Rattle.unit_table.specs.Board.{unit_at}
use Rattle.unit_table.specs.declared.mark.Mark.TheVariants as mark
use Rattle.unit_table.specs.declared.mark.WaitOn.TheVariants as wait
use Rattle.unit_table.specs.declared.unit.Unit.{Unit}
use Rattle.value_core.specs.declared.value.Value.{Value}
use Rattle.value_core.specs.Named.{Name, named}
use Rattle.value_core.specs.Place.{Spot}
use Rattle.world_steps.specs.Rows.{BeginsOr}

-- the turn has begun an attempt
pub begun-ahead : (old new : Shared) (name : Name) (body : NodeId) (values : List Value) (at : Spot) (definite : Bool) (result : Result Given AllocError) → IsLead old name definite → BeginsOr old name body values at definite new result → TriesOr old name body values at new result
begun-ahead old new name body values at definite (Err e) lead same = same
begun-ahead old new name body values at definite (Ok found) lead begun = record {
  row = λ x there h leads.
      let same = some-same lead.lead h (sym lead.leads ∙ leads) in
      subst (λ a. LeadTries old name x h body values at a found new) (sym begun.free)
      (subst (λ (d : Bool). BeginsMarked old name x (mark_ahead d (mark.Waiting (wait.Finish (next_made name (unit_state x))))) body values at found new) (lead.definite_is ∙ ap (λ (k : Ahead). is_definite old.taken k.takes) same) (begun.row x there));
  claims = begun.claims;
}
