-- Steps of units that are settled.
use Rattle.std.proofs.Common.{◌≡◌, ◌∙◌, ℕ, Bool, true, false, cond, [], ◌∷◌, ◌++◌, refl, sym, ap, subst, le_refl, le_trans}
use Rattle.std.specs.Prelude.{IfSome, Option, None, Some, if◌then◌else◌}
use Rattle.std.specs.Option.{option_and_then, option_map}
use Rattle.eval_step.specs.Evaluation.{Evaluation, IsOf, IsSame}
use Rattle.world_steps.specs.Kept.{IsUnitOf}
use Rattle.world_steps.specs.Moved.{IsMoved}
use Rattle.serial_model.specs.declared.answer.Answer.TheVariants as answer
use Rattle.serial_model.specs.declared.entry.Entry.TheVariants.{Run}
use Rattle.serial_model.specs.State.{Setup}
use Rattle.shared_world.specs.declared.given.Given.{Given}
use Rattle.shared_world.specs.declared.given.Given.TheVariants as given
use Rattle.shared_world.specs.rows.Pieces.{ClaimsEnd, IsMarkedUnit, IsSet, Settles, but_gone, mark_after}
use Rattle.shared_world.specs.Shared.{Shared, actor_of, becoming_of, claimed, finished_by, is_going, unit_state}
use Rattle.shared_world.specs.Stands.{IsMachine, Stands}
use Rattle.task_fork_join.specs.Stepping.{IsGiven}
use Rattle.unit_table.specs.Board.{Board, HasPlace, IsMarked, IsPutAt, IsUnlent, SameClaims, but_for, lent_to, unit_at}
use Rattle.unit_table.specs.declared.mark.Mark.{Mark}
use Rattle.unit_table.specs.declared.mark.Mark.TheVariants as mark
use Rattle.unit_table.specs.declared.mark.Work.TheVariants as work
use Rattle.unit_table.specs.declared.piece.Piece.TheVariants as piece
use Rattle.unit_table.specs.declared.unit.Unit.{Unit}
use Rattle.unit_table.specs.Piece.{beside, marked, says_dropped}
use Rattle.value_core.specs.declared.value.Value.{Value}
use Rattle.value_core.specs.Named.{Name, same_name}

-- what is lent no more, after claims that stayed
pub unlent-after : (name : Name) (old mid new : Board) → SameClaims old mid → IsUnlent name mid new → IsUnlent name old new
unlent-after name old mid new same is = record {
  here = is.here;
  others = λ other ne. is.others other ne ∙ same.lent other;
  to = λ claim. is.to claim ∙ ap (but_for name) (same.to claim);
  later = λ slot. let one = same.later slot in let two = is.later slot in le_trans one two;
}

-- the same claims are the same
pub same-claims : (b : Board) → SameClaims b b
same-claims b = record { lent = λ name. refl; to = λ claim. refl; later = λ slot. le_refl _ }

-- a unit that moved, and was marked then
pub moved-is : (name : Name) (old mid new : Board) (machine : Evaluation) (made : ℕ) (m : Mark) → says_dropped m ≡ false
    → IfSome (unit_at old name) (λ (x : Unit). IsPutAt name (Some (piece.Unit (record x { machine = machine; made = made }))) old mid) → SameClaims old mid → IsMarked name m mid new → IsUnlent name mid new
    → ((other : Name) → HasPlace old other → HasPlace new other) → IfSome (unit_at old name) (λ (x : Unit). IsMoved name x machine made m old new)
moved-is name old mid new machine made m stays put same is unlent places = on (unit_at old name) put
  where
    on : (found : Option Unit) → IfSome found (λ (x : Unit). IsPutAt name (Some (piece.Unit (record x { machine = machine; made = made }))) old mid) → IfSome found (λ (x : Unit). IsMoved name x machine made m old new)
    on None put = tt
    on (Some x) put = record {
      set = record {
        here = is.here ∙ ap (option_and_then (marked m)) put.here ∙ ap (λ c. cond c None (Some (piece.Unit (record x { machine = machine; made = made; mark = m })))) stays;
        others = λ other ne. is.others other ne ∙ ap (beside name m) (put.others other ne);
      };
      unlent = unlent-after name old mid new same unlent;
      places = places;
    }

-- the claims on the name end
pub claims-end : (name : Name) (old new : Shared) → new.end ≡ old.end → IsUnlent name old.board new.board → ClaimsEnd (λ q. same_name q name) old new
claims-end name old new same is going ticket = by (is_going old.end) (sym (ap is_going same) ∙ going)
  where
    but : (found : Option Name) → but_for name found ≡ but_gone (λ q. same_name q name) found
    but None = refl
    but (Some other) = refl

    by : (c : Bool) → is_going old.end ≡ true → claimed new ticket ≡ but_gone (λ q. same_name q name) (claimed old ticket)
    by c on =
        ap (λ g. if g then lent_to new.board ticket else None) going ∙ is.to ticket ∙ but (lent_to old.board ticket)
        ∙ ap (λ g. but_gone (λ q. same_name q name) (if g then lent_to old.board ticket else None)) (sym on)

-- the unit that stands under a name is one
pub row-for : (b : Board) (name : Name) (P : Unit → Type 0) (u : Unit) → unit_at b name ≡ Some u → P u → (x : Unit) → unit_at b name ≡ Some x → P x
row-for b name P u there is x so = let both : Some u ≡ Some x = sym there ∙ so in let same : u ≡ x = cc in subst P same is

-- a unit that was answered goes on so
pub settles : (base new : Shared) (name : Name) (x : Unit) (moved machine : Evaluation) (v : Value) (made : ℕ) (found : Given)
    → IsMachine base.setup x.machine → IsSame x.machine moved → IsOf base.setup.program moved → finished_by x.mark ≡ None → IsGiven moved (answer.Value v) machine
    → found ≡ given.Settled (Run name) → IsMoved name x machine made (mark.Ready work.Eval) base.board new.board → new ≡ record base { history = base.history ++ Run name ∷ []; board = new.board }
    → Settles base name x (record (unit_state x) { answers = x.machine.answers ++ answer.Value v ∷ []; made = made }) found new
settles base new name x moved machine v made found is same of unfinished given_so found_is moved_so others = record {
  found_is = found_is;
  unit = record x { machine = machine; made = made; mark = mark.Ready work.Eval };
  stands = record {
    state = λ i. record { actor = actor_of x.kind; body = body i; values = values i; answers = answers i; made = made; becomes = option_map becoming_of x.becomes; finished = sym unfinished i };
    machine = record { inside = given_so.same.inside ∙ same.task.inside ∙ is.inside; fuel = given_so.same.fuel ∙ same.task.fuel ∙ is.fuel; of = given_so.of base.setup.program of };
    mark = sym (ap mark_after unfinished);
  };
  set = subst (λ m. IsSet name (piece.Unit (record x { machine = machine; made = made; mark = mark.Ready work.Eval })) m base.board new.board) (sym (ap mark_after unfinished)) moved_so.set;
  others = others;
}
  where
    body : machine.body ≡ x.machine.body
    body = given_so.same.body ∙ same.task.body

    values : machine.values ≡ x.machine.values
    values = given_so.same.values ∙ same.task.values

    answers : machine.answers ≡ x.machine.answers ++ answer.Value v ∷ []
    answers = given_so.answers ∙ ap (λ given. given ++ answer.Value v ∷ []) same.answers

-- what holds of the unit under a name
pub at-unit : (b : Board) (name : Name) (P : Unit → Type 0) (x : Unit) → unit_at b name ≡ Some x → IfSome (unit_at b name) P → P x
at-unit b name P x there is = subst (λ found. IfSome found P) there is

-- A step of a unit that was prepared on what was kept, and settled on what differs from it as the row says.
module _ (old base before new : Shared) (name : Name) (moved machine : Evaluation) (v : Value) (made : ℕ) (found : Given) (st : Stands old) (is : IsUnitOf old name moved)
    (same_setup : base.setup ≡ old.setup) (there : unit_at base.board name ≡ Some is.unit) (kept : SameClaims old.board base.board) (same_end : base.end ≡ old.end) (at_base : before ≡ base) (given_so : IsGiven moved (answer.Value v) machine)
    (found_is : found ≡ given.Settled (Run name)) (set : IfSome (unit_at before.board name) (λ (x : Unit). IsMoved name x machine made (mark.Ready work.Eval) before.board new.board))
    (others : new ≡ record before { history = before.history ++ Run name ∷ []; board = new.board }) where
  moves : IsMoved name is.unit machine made (mark.Ready work.Eval) base.board new.board
  moves = at-unit base.board name (λ (x : Unit). IsMoved name x machine made (mark.Ready work.Eval) base.board new.board) is.unit there
      (subst (λ (s : Shared). IfSome (unit_at s.board name) (λ (x : Unit). IsMoved name x machine made (mark.Ready work.Eval) s.board new.board)) at_base set)

  so : new ≡ record base { history = base.history ++ Run name ∷ []; board = new.board }
  so = others ∙ ap (λ (s : Shared). record s { history = s.history ++ Run name ∷ []; board = new.board }) at_base

  pub settled-so : Settles base name is.unit (record (unit_state is.unit) { answers = is.unit.machine.answers ++ answer.Value v ∷ []; made = made }) found new
  settled-so = settles base new name is.unit moved machine v made found
      (subst (λ (s : Setup). IsMachine s is.unit.machine) (sym same_setup) (st.machines name is.unit is.there)) is.same (subst (λ (s : Setup). IsOf s.program moved) (sym same_setup) is.of) is.unfinished given_so found_is moves so

  pub claims-so : ClaimsEnd (λ q. same_name q name) old new
  claims-so = claims-end name old new (ap (λ (s : Shared). s.end) so ∙ same_end) (unlent-after name old.board base.board new.board kept moves.unlent)

-- A unit that moved to another mark, after what was kept.
module _ (old before new : Shared) (name : Name) (moved : Evaluation) (made : ℕ) (m : Mark) (is : IsUnitOf old name moved) (kept : IsMachine old.setup is.unit.machine) (at_base : before ≡ old)
    (made_so : made ≡ is.unit.made) (set : IfSome (unit_at before.board name) (λ (x : Unit). IsMoved name x moved made m before.board new.board)) where
  shifts : IsMoved name is.unit moved made m old.board new.board
  shifts = at-unit old.board name (λ (x : Unit). IsMoved name x moved made m old.board new.board) is.unit is.there
      (subst (λ (s : Shared). IfSome (unit_at s.board name) (λ (x : Unit). IsMoved name x moved made m s.board new.board)) at_base set)

  machine-so : IsMachine old.setup moved
  machine-so = record { inside = is.same.task.inside ∙ kept.inside; fuel = is.same.task.fuel ∙ kept.fuel; of = is.of }

  -- it is finished
  pub finished-so : (v : Value) (found : Given) → m ≡ mark.Finished v → found ≡ given.Settled (Run name) → new ≡ record old { history = old.history ++ Run name ∷ []; board = new.board }
      → Settles old name is.unit (record (unit_state is.unit) { finished = Some v }) found new
  finished-so v found is_m found_is others = record {
    found_is = found_is;
    unit = record is.unit { machine = moved; made = made; mark = m };
    stands = record {
      state = λ i. record { actor = actor_of is.unit.kind; body = is.same.task.body i; values = is.same.task.values i; answers = is.same.answers i; made = made_so i; becomes = option_map becoming_of is.unit.becomes; finished = finished_by (is_m i) };
      machine = machine-so;
      mark = is_m;
    };
    set = subst (λ k. IsSet name (piece.Unit (record is.unit { machine = moved; made = made; mark = m })) k old.board new.board) is_m shifts.set;
    others = others;
  }

  -- it stands where it did
  pub marked-so : finished_by m ≡ None → IsMarkedUnit old.setup name is.unit m old.board new.board
  marked-so none = record {
    unit = record is.unit { machine = moved; made = made; mark = m };
    stands = record {
      state = λ i. record { actor = actor_of is.unit.kind; body = is.same.task.body i; values = is.same.task.values i; answers = is.same.answers i; made = made_so i; becomes = option_map becoming_of is.unit.becomes; finished = (none ∙ sym is.unfinished) i };
      machine = machine-so;
      mark = refl;
    };
    set = shifts.set;
  }

  pub shift-claims : new.end ≡ old.end → ClaimsEnd (λ q. same_name q name) old new
  shift-claims same = claims-end name old new same shifts.unlent
