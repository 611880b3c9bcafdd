-- How the marks are right where everything is back where the history left it.
use Rattle.std.proofs.Common.{◌≡◌, ◌∙◌, false, inl, refl, sym, ap, ap₂, subst}
use Rattle.std.specs.Option.{option_and_then}
use Rattle.std.specs.Prelude.{◌||◌, Option, None, Some, is_some}
use Rattle.actor_mails.specs.Mails.{mail_at}
use Rattle.serial_model.specs.State.{UnitState}
use Rattle.serial_model.specs.Step.{next_of}
use Rattle.shared_world.proofs.Resetting.{anew-finished}
use Rattle.shared_world.proofs.States.{state_of}
use Rattle.shared_world.specs.Ahead.{Ahead}
use Rattle.shared_world.specs.Marks as marks
use Rattle.shared_world.specs.Marks.{AreMarked, UnitSays, UnitWaits}
use Rattle.shared_world.specs.rows.Actors.{actor_mark, has_turn}
use Rattle.shared_world.specs.rows.Leading.{can_settle, settles_next}
use Rattle.shared_world.specs.rows.Resetting.{LeadBack, PieceBack, Resets, ResetsMark, UnitBack, mark_anew, mail_back}
use Rattle.shared_world.specs.Shared.{Shared, finished_at, is_going, unit_state}
use Rattle.task_fork_join.specs.Attempt.{Attempt}
use Rattle.unit_table.specs.Board.{piece_at}
use Rattle.unit_table.specs.declared.mark.Mark.{Mark}
use Rattle.unit_table.specs.declared.mark.Mark.TheVariants as mark
use Rattle.unit_table.specs.declared.mark.WaitOn.TheVariants as wait
use Rattle.unit_table.specs.declared.mark.Work.TheVariants as work
use Rattle.unit_table.specs.declared.piece.Actor.{Actor}
use Rattle.unit_table.specs.declared.piece.Piece.{Piece}
use Rattle.unit_table.specs.declared.piece.Piece.TheVariants as piece
use Rattle.unit_table.specs.declared.unit.Unit.{Unit as Doing}
use Rattle.unit_table.specs.Piece.{unit_in}
use Rattle.value_core.specs.declared.value.Value.{Value}
use Rattle.value_core.specs.Named.{Name, named}

module _ (old new : Shared) (marked : AreMarked old) (r : Resets old new) where
  abbrev value_of : Option Piece → Option Value
  value_of found = option_and_then (λ (k : UnitState). k.finished) (state_of found)

  -- ---- what was not finished is not
  lead-open : (x : Doing) (h : Ahead) (takes : Option Name) (now : Option Piece) → LeadBack old.setup x h takes now → value_of now ≡ None
  lead-open x h None now back = ap value_of back.there ∙ ap (λ (k : UnitState). k.finished) back.stands.state
  lead-open x h (Some a) now back = ap value_of back

  unit-open : (x : Doing) (h : Option Ahead) (tried : Option Attempt) (now : Option Piece) → UnitBack old.setup x h tried now → (unit_state x).finished ≡ None → value_of now ≡ None
  unit-open x (Some h) tried now back none = lead-open x h h.takes now back
  unit-open x None tried now back none = ap value_of back ∙ anew-finished tried x.mark ∙ none

  piece-open : (u : Name) (found now : Option Piece) → PieceBack old u found now → value_of found ≡ None → value_of now ≡ None
  piece-open u None now back none = ap value_of back
  piece-open u (Some (piece.Unit x)) now back none = unit-open x (named u old.aheads) (named u old.attempts) now back none
  piece-open u (Some (piece.Task m)) now back none = ap value_of back
  piece-open u (Some (piece.Actor a)) now back none = ap value_of back

  over : (f : Name) → finished_at old.board f ≡ None → finished_at new.board f ≡ None
  over f none = piece-open f (piece_at old.board f) (piece_at new.board f) (r.pieces f) none

  -- ---- the units
  -- none holds anything that can be settled
  none-settles : (u : Name) → can_settle new u ≡ false
  none-settles u = ap (settles_next new.taken) (r.aheads u)

  -- the mark of a unit that stands where the history left it, and has no attempt, says the same
  level-says : (u : Name) (x : Doing) (m : Mark) → named u old.aheads ≡ None → named u old.attempts ≡ None → UnitSays old u x m → UnitSays new u x m
  level-says u x (mark.Ready work.Eval) level none is = r.attempts u
  level-says u x (mark.Ready work.Settle) level none is = inl (r.attempts u)
  level-says u x (mark.Ready work.Begin) level none is = absurd is
  level-says u x (mark.Waiting (wait.Finish f)) level none (marks.root not_yet tree there at_root) = let no : None ≡ Some tree = sym none ∙ there in cc
  level-says u x (mark.Waiting (wait.Finish f)) level none (marks.join ahead tried at asks unfinished) =
      marks.join (r.aheads u) (r.attempts u) at (ap (λ (s : Shared). next_of s.setup (unit_state x)) r.others ∙ asks) (over f unfinished)
  level-says u x (mark.Waiting (wait.Definite turn)) level none is = let no : None ≡ Some is.1.ahead = sym level ∙ ap (λ q. named q old.aheads) refl ∙ is.1.leads in cc
  level-says u x mark.Resting level none is = absurd is
  level-says u x (mark.Finished v) level none is = r.attempts u
  level-says u x mark.Dropped level none is = absurd is

  unit-says : (u : Name) (x z : Doing) (h : Option Ahead) (tried : Option Attempt) (now : Option Piece) → named u old.aheads ≡ h → named u old.attempts ≡ tried → UnitSays old u x x.mark → UnitBack old.setup x h tried now
      → option_and_then unit_in now ≡ Some z → UnitSays new u z z.mark
  unit-says u x z (Some h) tried now leads has says back at = lead h.takes back
    where
      lead : (takes : Option Name) → LeadBack old.setup x h takes now → UnitSays new u z z.mark
      lead None back =
          let both : Some back.unit ≡ Some z = sym (ap (option_and_then unit_in) back.there) ∙ at in
          let same : back.unit ≡ z = cc in
          subst (UnitSays new u z) (sym back.stands.mark ∙ ap (λ (k : Doing). k.mark) same) (r.attempts u)
      lead (Some a) back = let no : None ≡ Some z = sym (ap (option_and_then unit_in) back) ∙ at in cc
  unit-says u x z None None now level none says back at =
      let both : Some x ≡ Some z = sym (ap (option_and_then unit_in) back) ∙ at in
      let same : x ≡ z = cc in
      subst (λ (k : Doing). UnitSays new u k k.mark) same (level-says u x x.mark level none says)
  unit-says u x z None (Some tree) now level has says back at =
      let both : Some (record x { mark = mark_anew (Some tree) x.mark }) ≡ Some z = sym (ap (option_and_then unit_in) back) ∙ at in
      let same : record x { mark = mark_anew (Some tree) x.mark } ≡ z = cc in
      subst (UnitSays new u z) (ap (λ (k : Doing). k.mark) same) (by x.mark)
    where
      by : (m : Mark) → UnitSays new u z (mark_anew (Some tree) m)
      by (mark.Ready what) = inl (r.attempts u)
      by (mark.Waiting on) = inl (r.attempts u)
      by mark.Resting = inl (r.attempts u)
      by (mark.Finished v) = r.attempts u
      by mark.Dropped = inl (r.attempts u)

  says : (u : Name) (z : Doing) (found now : Option Piece) → piece_at old.board u ≡ found → PieceBack old u found now → option_and_then unit_in now ≡ Some z → UnitSays new u z z.mark
  says u z None now is back at = let no : None ≡ Some z = sym (ap (option_and_then unit_in) back) ∙ at in cc
  says u z (Some (piece.Unit x)) now is back at = unit-says u x z (named u old.aheads) (named u old.attempts) now refl refl (marked.units u x (ap (option_and_then unit_in) is)) back at
  says u z (Some (piece.Task m)) now is back at = let no : None ≡ Some z = sym (ap (option_and_then unit_in) back) ∙ at in cc
  says u z (Some (piece.Actor a)) now is back at = let no : None ≡ Some z = sym (ap (option_and_then unit_in) back) ∙ at in cc

  -- ---- no task is left
  no-task-lead : (x : Doing) (h : Ahead) (takes : Option Name) (now : Option Piece) (m : Mark) → LeadBack old.setup x h takes now → now ≡ Some (piece.Task m) → ⊥
  no-task-lead x h None now m back at = let no : Some (piece.Unit back.unit) ≡ Some (piece.Task m) = sym back.there ∙ at in cc
  no-task-lead x h (Some a) now m back at = let no : None ≡ Some (piece.Task m) = sym back ∙ at in cc

  no-task-unit : (x : Doing) (h : Option Ahead) (tried : Option Attempt) (now : Option Piece) (m : Mark) → UnitBack old.setup x h tried now → now ≡ Some (piece.Task m) → ⊥
  no-task-unit x (Some h) tried now m back at = no-task-lead x h h.takes now m back at
  no-task-unit x None tried now m back at = let no : Some (piece.Unit (record x { mark = mark_anew tried x.mark })) ≡ Some (piece.Task m) = sym back ∙ at in cc

  no-task : (u : Name) (found now : Option Piece) (m : Mark) → PieceBack old u found now → now ≡ Some (piece.Task m) → ⊥
  no-task u None now m back at = let no : None ≡ Some (piece.Task m) = sym back ∙ at in cc
  no-task u (Some (piece.Unit x)) now m back at = no-task-unit x (named u old.aheads) (named u old.attempts) now m back at
  no-task u (Some (piece.Task k)) now m back at = let no : None ≡ Some (piece.Task m) = sym back ∙ at in cc
  no-task u (Some (piece.Actor a)) now m back at = let no : Some (piece.Actor (record { state = a.state; mark = actor_mark a.state.busy (mail_back old u) })) ≡ Some (piece.Task m) = sym back ∙ at in cc

  -- ---- the actors
  abbrev ActorSays : Name → Actor → Type 0
  ActorSays a z = z.mark ≡ actor_mark (has_turn new.taken a z.state) (mail_at new.mails a)

  actor-lead : (x : Doing) (h : Ahead) (takes : Option Name) (now : Option Piece) (z : Actor) → LeadBack old.setup x h takes now → now ≡ Some (piece.Actor z) → ⊥
  actor-lead x h None now z back at = let no : Some (piece.Unit back.unit) ≡ Some (piece.Actor z) = sym back.there ∙ at in cc
  actor-lead x h (Some a) now z back at = let no : None ≡ Some (piece.Actor z) = sym back ∙ at in cc

  actor-unit : (x : Doing) (h : Option Ahead) (tried : Option Attempt) (now : Option Piece) (z : Actor) → UnitBack old.setup x h tried now → now ≡ Some (piece.Actor z) → ⊥
  actor-unit x (Some h) tried now z back at = actor-lead x h h.takes now z back at
  actor-unit x None tried now z back at = let no : Some (piece.Unit (record x { mark = mark_anew tried x.mark })) ≡ Some (piece.Actor z) = sym back ∙ at in cc

  actor-says : (a : Name) (found now : Option Piece) (z : Actor) → PieceBack old a found now → now ≡ Some (piece.Actor z) → ActorSays a z
  actor-says a None now z back at = let no : None ≡ Some (piece.Actor z) = sym back ∙ at in cc
  actor-says a (Some (piece.Unit x)) now z back at = absurd (actor-unit x (named a old.aheads) (named a old.attempts) now z back at)
  actor-says a (Some (piece.Task m)) now z back at = let no : None ≡ Some (piece.Actor z) = sym back ∙ at in cc
  actor-says a (Some (piece.Actor k)) now z back at =
      let both : Some (piece.Actor (record { state = k.state; mark = actor_mark k.state.busy (mail_back old a) })) ≡ Some (piece.Actor z) = sym back ∙ at in
      let same : record { state = k.state; mark = actor_mark k.state.busy (mail_back old a) } ≡ z = cc in
      subst (ActorSays a) same (sym (ap₂ (λ taken mail. actor_mark (taken || k.state.busy) mail) (ap is_some (r.taken a)) (r.mails a)))

  pub marked-reset : AreMarked new
  marked-reset = record {
    units = λ u z at. says u z (piece_at old.board u) (piece_at new.board u) refl (r.pieces u) at;
    tasks = λ n m at. absurd (no-task n (piece_at old.board n) (piece_at new.board n) m (r.pieces n) at);
    actors = λ a z at. actor-says a (piece_at old.board a) (piece_at new.board a) z (r.pieces a) at;
    pieces = λ u tree at n t among. let no : None ≡ Some tree = sym (r.attempts u) ∙ at in cc;
  }

pub resets-mark : ResetsMark
resets-mark old new st marked r going = marked-reset old new (marked (sym (ap (λ (s : Shared). is_going s.end) r.others) ∙ going)) r
