-- What is planned for a unit is what becomes of it.
use Rattle.std.proofs.Common.{◌≡◌, ◌∙◌, ℕ, Bool, true, false, cond, List, refl, sym, ap, subst}
use Rattle.std.specs.Option.{option_and_then, option_map}
use Rattle.std.specs.Prelude.{IsSome, None, Option, Some, take}
use Rattle.core_syntax.specs.declared.node_id.NodeId.{NodeId}
use Rattle.serial_model.specs.declared.answer.Answer.{Answer}
use Rattle.serial_model.specs.State.{Setup, UnitState}
use Rattle.shared_world.specs.Ahead.{Ahead}
use Rattle.shared_world.specs.rows.Resetting.{LeadBack, PieceBack, StandsBack, UnitBack, mail_back}
use Rattle.shared_world.specs.Seen.{left_at}
use Rattle.shared_world.specs.Shared.{Shared, actor_of, becoming_of, unit_state}
use Rattle.shared_world.specs.Stands.{IsMachine, Stands}
use Rattle.task_fork_join.specs.Attempt.{Attempt}
use Rattle.unit_table.specs.Board.{piece_at}
use Rattle.unit_table.specs.declared.mark.Mark.TheVariants as mark
use Rattle.unit_table.specs.declared.mark.Work.TheVariants as work
use Rattle.unit_table.specs.declared.piece.Piece.{Piece}
use Rattle.unit_table.specs.declared.piece.Piece.TheVariants as piece
use Rattle.unit_table.specs.declared.unit.Becoming.{Becoming}
use Rattle.unit_table.specs.declared.unit.Unit.{Unit}
use Rattle.unit_table.specs.Piece.{says_finished, unit_in}
use Rattle.value_core.specs.declared.value.Value.{Value}
use Rattle.value_core.specs.Named.{Name, named}
use Rattle.world_reset.specs.Back.{CanBe, IsBackBy, IsBackFor, IsLeadBack, IsUnitBack, anew_or_stays, put_back}
use Rattle.world_reset.specs.declared.back.Back.{Back}
use Rattle.world_reset.specs.declared.back.Back.TheVariants as back
use Rattle.world_reset.specs.declared.left.Left.{Left}
use Rattle.world_reset.specs.Left.{IsLeft}

-- the unit with that machine
abbrev stood : Unit → Left → Unit
stood x left = record x { machine = left.machine; made = left.made; becomes = left.becomes; mark = mark.Ready work.Eval }

module _ (setup : Setup) (x : Unit) (h : Ahead) (left : Left) (is : IsLeft setup.program x h left) (machine : IsMachine setup x.machine) where
  abbrev state : NodeId → List Value → List Answer → ℕ → Option Becoming → UnitState
  state body values answers made becomes = record { actor = actor_of x.kind; body = body; values = values; answers = answers; made = made; becomes = option_map becoming_of becomes; finished = None }

  stands-there : unit_state (stood x left) ≡ left_at h (unit_state x)
  stands-there =
      ap (λ body. state body left.machine.values left.machine.answers left.made left.becomes) is.machine.same.body
      ∙ ap (λ values. state x.machine.body values left.machine.answers left.made left.becomes) is.machine.same.values
      ∙ ap (λ answers. state x.machine.body x.machine.values answers left.made left.becomes) is.machine.answers
      ∙ ap (λ made. state x.machine.body x.machine.values (take h.answers x.machine.answers) made left.becomes) is.made
      ∙ ap (state x.machine.body x.machine.values (take h.answers x.machine.answers) h.made) is.becomes

  stands-back : StandsBack setup x h (Some (piece.Unit (stood x left)))
  stands-back = record {
    unit = stood x left;
    stands = record {
      state = stands-there;
      machine = record { inside = is.machine.same.inside ∙ machine.inside; fuel = is.machine.same.fuel ∙ machine.fuel; of = is.machine.of };
      mark = refl;
    };
    there = refl;
  }

module _ (s : Shared) (u : Name) (x : Unit) (b : Back) (machine : IsMachine s.setup x.machine) where
  lead-puts : (h : Ahead) (takes : Option Name) → IsLeadBack s.setup.program x h takes b → LeadBack s.setup x h takes (put_back b (mail_back s u) (Some (piece.Unit x)))
  lead-puts h None is = subst (λ k. StandsBack s.setup x h (put_back k (mail_back s u) (Some (piece.Unit x)))) (sym is.back_is) (stands-back s.setup x h is.left is.is machine)
  lead-puts h (Some a) is = ap (λ k. put_back k (mail_back s u) (Some (piece.Unit x))) is

  level-puts : (tried : Option Attempt) → b ≡ anew_or_stays tried x.mark → UnitBack s.setup x None tried (put_back b (mail_back s u) (Some (piece.Unit x)))
  level-puts None is = ap (λ k. put_back k (mail_back s u) (Some (piece.Unit x))) is
  level-puts (Some tree) is = ap (λ k. put_back k (mail_back s u) (Some (piece.Unit x))) is ∙ by (says_finished x.mark)
    where
      by : (c : Bool) → put_back (cond c back.Stays back.Anew) (mail_back s u) (Some (piece.Unit x)) ≡ Some (piece.Unit (record x { mark = cond c x.mark (mark.Ready work.Settle) }))
      by true = refl
      by false = refl

  unit-puts : (h : Option Ahead) (tried : Option Attempt) → IsBackBy s.setup.program x h tried b → UnitBack s.setup x h tried (put_back b (mail_back s u) (Some (piece.Unit x)))
  unit-puts None tried is = level-puts tried is
  unit-puts (Some h) tried is = lead-puts h h.takes is

  lead-can : (h : Ahead) (takes : Option Name) → IsLeadBack s.setup.program x h takes b → CanBe b (Some (piece.Unit x))
  lead-can h None is = subst (λ k. CanBe k (Some (piece.Unit x))) (sym is.back_is) refl
  lead-can h (Some a) is = subst (λ k. CanBe k (Some (piece.Unit x))) (sym is) refl

  unit-can : (h : Option Ahead) (tried : Option Attempt) → IsBackBy s.setup.program x h tried b → CanBe b (Some (piece.Unit x))
  unit-can None None is = subst (λ k. CanBe k (Some (piece.Unit x))) (sym is) tt
  unit-can None (Some tree) is = subst (λ k. CanBe k (Some (piece.Unit x))) (sym is) (by (says_finished x.mark))
    where
      by : (c : Bool) → CanBe (cond c back.Stays back.Anew) (Some (piece.Unit x))
      by true = tt
      by false = refl
  unit-can (Some h) tried is = lead-can h h.takes is

pub unit-for : (s : Shared) → Stands s → (u : Name) (x : Unit) (b : Back) → piece_at s.board u ≡ Some (piece.Unit x) → IsUnitBack s u x b → IsBackFor s u b
unit-for s st u x b there is = record {
  can_be = subst (CanBe b) (sym there) (unit-can s u x b machine (named u s.aheads) (named u s.attempts) is);
  puts = subst (λ found. PieceBack s u found (put_back b (mail_back s u) found)) (sym there) (unit-puts s u x b machine (named u s.aheads) (named u s.attempts) is);
}
  where
    machine : IsMachine s.setup x.machine
    machine = st.machines u x (ap (option_and_then unit_in) there)
