-- Main alone stands for the empty history.
use Rattle.std.proofs.Common.{◌≡◌, ◌∙◌, Bool, true, false, cond, [], not-suc-le-zero, refl, sym, ap, subst}
use Rattle.std.specs.Option.{option_and_then, option_map}
use Rattle.std.specs.Prelude.{None, Some}
use Rattle.core_syntax.specs.WellFormed.{IsWellFormed}
use Rattle.serial_model.specs.State.{Setup, main_name, new_unit}
use Rattle.shared_world.proofs.ActorPieces.{actor_of_piece, actors-put}
use Rattle.shared_world.proofs.Live.{no-piece}
use Rattle.shared_world.proofs.States.{machines-put, unit-put}
use Rattle.shared_world.specs.Opening.{IsOpening}
use Rattle.shared_world.specs.Shared.{Shared, state_at}
use Rattle.shared_world.specs.Stands.{IsMachine, Stands}
use Rattle.unit_table.specs.Board.{actor_at}
use Rattle.unit_table.specs.declared.piece.Piece.TheVariants as piece
use Rattle.unit_table.specs.declared.unit.Unit.{Unit}
use Rattle.unit_table.specs.Piece.{unit_in}
use Rattle.value_core.specs.Named.{Name, same_name}
use Rattle.world_model.proofs.Opens.{opens as world-opens}
use Rattle.world_model.specs.World.{opening_world, still}

pub opening-stands : (setup : Setup) (s : Shared) → IsWellFormed setup.program → IsOpening setup s → Stands s
opening-stands setup s formed is = subst Stands (sym is.rest) (record {
  formed = formed;
  world = opening_world setup;
  is_world = world-opens setup;
  seen = record {
    history = refl;
    refs = λ r. refl;
    units = λ q. unit q (same_name q main_name) (states q);
    actors = λ a. sym (no-actor a);
    taken = λ a. refl;
    mails = λ a. sym (is.no_mail a);
    attempts = λ going u. tt;
    bytes = refl;
    made = refl;
    end = refl;
  };
  machines = machines-put (IsMachine setup) main_name (Some (piece.Unit is.main)) is.empty s.board (λ z e. let same : is.main ≡ z = cc in subst (λ (k : Unit). IsMachine setup k.machine) same is.begins.machine) is.put
      (λ q x there. let no : None ≡ Some x = sym (ap (option_and_then unit_in) (is.nothing q)) ∙ there in cc);
  attempts = λ going u tree there. cc;
  numbers = λ r k d in_range. absurd (not-suc-le-zero in_range);
  aheads = λ u h leads. cc;
})
  where
    no-actor : (a : Name) → actor_at s.board a ≡ None
    no-actor a = actors-put main_name (Some (piece.Unit is.main)) is.empty s.board (sym (ap actor_of_piece (is.nothing main_name))) is.put a ∙ ap actor_of_piece (is.nothing a)

    states : (q : Name) → state_at s.board q ≡ cond (same_name q main_name) (Some (new_unit None setup.program.main [])) None
    states q =
        unit-put main_name is.main is.empty s.board is.put q
        ∙ ap (λ k. cond (same_name q main_name) (Some k) (state_at is.empty q)) is.begins.state
        ∙ ap (cond (same_name q main_name) (Some (new_unit None setup.program.main []))) (no-piece is.empty q (is.nothing q))

    unit : (q : Name) (c : Bool) → state_at s.board q ≡ cond c (Some (new_unit None setup.program.main [])) None
        → cond c (Some (still (new_unit None setup.program.main []))) None ≡ option_map still (state_at s.board q)
    unit q true e = sym (ap (option_map still) e)
    unit q false e = sym (ap (option_map still) e)
