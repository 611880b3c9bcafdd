-- A unit that goes on as a turn that runs ahead.
use Rattle.std.proofs.Common.{◌≡◌, ◌∙◌, ℕ, Bool, false, refl, sym, ap, subst}
use Rattle.std.specs.Option.{IsSome, option_and_then}
use Rattle.std.specs.Prelude.{IfSome, None, Option, Some}
use Rattle.ahead_steps.proofs.Marked.{goes-ahead, set-alone}
use Rattle.ahead_steps.specs.Going.{GoesOn}
use Rattle.eval_step.specs.Evaluation.{Evaluation}
use Rattle.shared_world.specs.rows.Leading.{mark_ahead}
use Rattle.turns_ahead.specs.Leading.{becomes_or}
use Rattle.unit_table.specs.Board.{Board, IsPutAt, SameClaims, unit_at}
use Rattle.unit_table.specs.declared.mark.Mark.{Mark}
use Rattle.unit_table.specs.declared.mark.Mark.TheVariants as mark
use Rattle.unit_table.specs.declared.mark.Work.TheVariants as work
use Rattle.unit_table.specs.declared.piece.Piece.TheVariants as piece
use Rattle.unit_table.specs.declared.unit.Becoming.{Becoming}
use Rattle.unit_table.specs.declared.unit.Unit.{Unit}
use Rattle.unit_table.specs.Piece.{says_finished, unit_in}
use Rattle.value_core.specs.Named.{Name}
use Rattle.world_steps.proofs.Settling.{at-unit, unlent-after}
use Rattle.world_steps.specs.Moved.{IsMoved}

-- what its actor becomes was said first
pub goes-on : (old mid new : Board) (name : Name) (machine : Evaluation) (made : ℕ) (becomes : Option Becoming) (definite : Bool) (m : Mark) → m ≡ mark_ahead definite (mark.Ready work.Eval) → SameClaims old mid
    → IfSome (unit_at old name) (λ (x : Unit). IsPutAt name (Some (piece.Unit (record x { becomes = becomes_or becomes x.becomes }))) old mid) → IfSome (unit_at mid name) (λ (x : Unit). IsMoved name x machine made m mid new)
    → IfSome (unit_at old name) (λ (x : Unit). GoesOn name x (record { machine = machine; made = made; becomes = becomes; definite = definite }) old new)
goes-on old mid new name machine made becomes definite m is same put moves = on (unit_at old name) put
  where
    on : (found : Option Unit) → IfSome found (λ (x : Unit). IsPutAt name (Some (piece.Unit (record x { becomes = becomes_or becomes x.becomes }))) old mid)
        → IfSome found (λ (x : Unit). GoesOn name x (record { machine = machine; made = made; becomes = becomes; definite = definite }) old new)
    on None put = tt
    on (Some x) put =
        let y : Unit = record x { becomes = becomes_or becomes x.becomes } in
        let moved : IsMoved name y machine made m mid new = at-unit mid name (λ (z : Unit). IsMoved name z machine made m mid new) y (ap (option_and_then unit_in) put.here) moves in
        let alone = set-alone name (piece.Unit (record y { machine = machine; made = made; mark = m })) m mid new (ap says_finished is ∙ goes-ahead definite (mark.Ready work.Eval) refl) moved.set in
        record {
          put = record {
            here = alone.here ∙ ap (λ k. Some (piece.Unit (record y { machine = machine; made = made; mark = k }))) is;
            others = λ other ne. alone.others other ne ∙ put.others other ne;
          };
          unlent = unlent-after name old mid new same moved.unlent;
        }

-- a unit is there still
pub still-unit : (old mid : Board) (name : Name) (f : Unit → Unit) → IsSome (unit_at old name) → IfSome (unit_at old name) (λ (x : Unit). IsPutAt name (Some (piece.Unit (f x))) old mid) → IsSome (unit_at mid name)
still-unit old mid name f there put = on (unit_at old name) there put
  where
    on : (found : Option Unit) → IsSome found → IfSome found (λ (x : Unit). IsPutAt name (Some (piece.Unit (f x))) old mid) → IsSome (unit_at mid name)
    on None there put = cc
    on (Some x) there put = subst IsSome (sym (ap (option_and_then unit_in) put.here)) refl
