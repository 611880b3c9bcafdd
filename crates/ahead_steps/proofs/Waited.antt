-- A turn that waits until it is definite and holds nothing.
use Rattle.std.proofs.Common.{◌≡◌, ◌∙◌, ℕ, Bool, true, refl, sym, ap, subst}
use Rattle.std.specs.Prelude.{IfSome, None, Option, Some}
use Rattle.ahead_steps.proofs.Came.{came-so, changed-by}
use Rattle.ahead_steps.proofs.Marked.{goes-ahead, none-ahead, set-alone}
use Rattle.ahead_steps.specs.Leads.{Came, IsLead}
use Rattle.eval_step.specs.Evaluation.{Evaluation}
use Rattle.shared_world.specs.Ahead.{Ahead}
use Rattle.shared_world.specs.declared.given.Given.{Given}
use Rattle.shared_world.specs.declared.given.Given.TheVariants as given
use Rattle.shared_world.specs.rows.Leading.{WaitsDefinite, is_definite, mark_ahead}
use Rattle.shared_world.specs.rows.Pieces.{ClaimsEnd, IsMarkedUnit}
use Rattle.shared_world.specs.Shared.{Shared}
use Rattle.shared_world.specs.Stands.{Stands}
use Rattle.unit_table.specs.Board.{unit_at}
use Rattle.unit_table.specs.declared.mark.Mark.{Mark}
use Rattle.unit_table.specs.declared.mark.Mark.TheVariants as mark
use Rattle.unit_table.specs.declared.mark.WaitOn.TheVariants as wait
use Rattle.unit_table.specs.declared.piece.Piece.TheVariants as piece
use Rattle.unit_table.specs.declared.unit.Unit.{Unit}
use Rattle.value_core.specs.Named.{Name, named, same_name, with_named}
use Rattle.world_steps.proofs.Settling.{at-unit, marked-so, shift-claims}
use Rattle.world_steps.specs.Kept.{IsUnitOf}
use Rattle.world_steps.specs.Moved.{IsMoved}

module _ (old new : Shared) (name : Name) (moved : Evaluation) (definite : Bool) (made : ℕ) (waits told : Name) (found : Given) (st : Stands old) (is : IsUnitOf old name moved) (lead : IsLead old name definite) (waits_is : waits ≡ name) (told_is : told ≡ name)
    (made_is : IfSome (unit_at old.board name) (λ (x : Unit). made ≡ x.made)) (turns : (h : Ahead) → named name old.aheads ≡ Some h → new.aheads ≡ with_named old.aheads name (record h { waits = true }))
    (moves : IfSome (unit_at old.board name) (λ (x : Unit). IsMoved name x moved made (mark_ahead definite (mark.Waiting (wait.Definite waits))) old.board new.board)) (found_is : found ≡ given.Waiting (wait.Definite told))
    (others : new ≡ record old { board = new.board; aheads = new.aheads }) where
  same-made : made ≡ is.unit.made
  same-made = at-unit old.board name (λ (x : Unit). made ≡ x.made) is.unit is.there made_is

  marked : IsMarkedUnit old.setup name is.unit (mark_ahead definite (mark.Waiting (wait.Definite waits))) old.board new.board
  marked = marked-so old old new name moved made (mark_ahead definite (mark.Waiting (wait.Definite waits))) is (st.machines name is.unit is.there) refl same-made moves (none-ahead definite (mark.Waiting (wait.Definite waits)) refl)

  row : WaitsDefinite old name is.unit lead.lead found new
  row = record {
    found_is = found_is ∙ ap (λ n. given.Waiting (wait.Definite n)) told_is;
    unit = marked.unit;
    stands = record {
      state = marked.stands.state;
      machine = marked.stands.machine;
      mark = marked.stands.mark ∙ ap (λ d. mark_ahead d (mark.Waiting (wait.Definite waits))) lead.definite_is ∙ ap (λ n. mark_ahead (is_definite old.taken lead.lead.takes) (mark.Waiting (wait.Definite n))) waits_is;
    };
    put = set-alone name (piece.Unit marked.unit) (mark_ahead definite (mark.Waiting (wait.Definite waits))) old.board new.board (goes-ahead definite (mark.Waiting (wait.Definite waits)) refl) marked.set;
    aheads = changed-by name (record lead.lead { waits = true }) old.aheads new.aheads (turns lead.lead lead.leads);
    others = others;
  }

  claims : ClaimsEnd (λ q. same_name q name) old new
  claims = shift-claims old old new name moved made (mark_ahead definite (mark.Waiting (wait.Definite waits))) is (st.machines name is.unit is.there) refl same-made moves (ap (λ (s : Shared). s.end) others)

  pub waited-came : Came old name (λ x h found_so after. WaitsDefinite old name x h found_so after) new found
  waited-came = came-so old new name (λ x h found_so after. WaitsDefinite old name x h found_so after) found is.unit lead.lead is.there lead.leads row claims
