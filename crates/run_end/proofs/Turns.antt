-- Entries that are settled in turn.
use Rattle.std.proofs.Common.{◌≡◌, ◌∙◌, inl, inr, true, false, [], ◌∷◌, ◌++◌, List, append-nil, append_assoc, refl, sym, ap, subst}
use Rattle.std.specs.declared.cmp.Ordering.{Ordering}
use Rattle.std.specs.declared.cmp.Ordering.TheVariants.{Equal, Greater, Less}
use Rattle.std.specs.Option.{option_and_then, option_map}
use Rattle.std.specs.Ordering.{is_gt, ordering_reverse}
use Rattle.std.specs.Prelude.{IfSome, IsSome, None, Option, Some, not}
use Rattle.lent_pieces.specs.Giving.{IsOpenUnit}
use Rattle.run_end.proofs.First.{run-first, unit-first}
use Rattle.run_end.specs.InTurn.{AreInTurn, GoesInTurn, IsInTurn, IsOpenPiece, IsUpTo}
use Rattle.serial_model.proofs.runs.Stuck.{IsSound, replay-sound}
use Rattle.serial_model.proofs.tasks.TaskKeeps.{transactions-keep}
use Rattle.serial_model.proofs.runs.Replays.{replay_from-append}
use Rattle.serial_model.specs.declared.entry.Entry.{Entry}
use Rattle.serial_model.specs.declared.entry.Entry.TheVariants.{Run}
use Rattle.serial_model.specs.Replay.{replay, replay_from}
use Rattle.serial_model.specs.State.{Setup, State, UnitState, opening}
use Rattle.serial_model.specs.Step.{step}
use Rattle.shared_world.proofs.Live.{unit-piece}
use Rattle.shared_world.proofs.Over.{end-same, now, replays-here}
use Rattle.shared_world.specs.declared.given.Given.{Given}
use Rattle.shared_world.specs.declared.given.Given.TheVariants as given
use Rattle.shared_world.specs.Later.{Appends, IsLater, settled_by}
use Rattle.shared_world.specs.Seen.{live_with}
use Rattle.shared_world.specs.Shared.{Shared, finished_by, unit_state}
use Rattle.shared_world.specs.Stands.{Stands}
use Rattle.unit_table.specs.Board.{Board, ComesAfter, IsNextAfter, is_unfinished, piece_at, unit_at}
use Rattle.unit_table.specs.declared.mark.Mark.{Mark}
use Rattle.unit_table.specs.declared.mark.Mark.TheVariants as mark
use Rattle.unit_table.specs.declared.piece.Piece.{Piece}
use Rattle.unit_table.specs.declared.piece.Piece.TheVariants as piece
use Rattle.unit_table.specs.declared.unit.Unit.{Unit}
use Rattle.unit_table.specs.Piece.{goes_on, says_finished, unit_in}
use Rattle.value_core.proofs.Names.{after_cmp-IsAntisymmetric}
use Rattle.value_core.specs.Name.{after_cmp}
use Rattle.value_core.specs.NameOrder.{after_cmp_total}
use Rattle.value_core.specs.Named.{Name, named}
use Rattle.value_core.specs.NameSet.{holds_at}
use Rattle.world_model.specs.StandsFor.{UnitStands}

-- ---- entries in turn
any-step : (setup : Setup) (next : Option State) → IfSome next (λ t. AreInTurn setup t [])
any-step setup None = tt
any-step setup (Some t) = tt

-- where no entry comes
pub turns-none : (old new : Shared) → new.setup ≡ old.setup → new.history ≡ old.history → GoesInTurn old new
turns-none old new setup same = record { setup = setup; more = []; history = same ∙ sym (append-nil old.history); in_turn = any-step old.setup (replay old.setup old.history) }

pub turns-itself : (s : Shared) → GoesInTurn s s
turns-itself s = turns-none s s refl refl

-- entries behind entries
in-turn-then : (setup : Setup) (s : State) (first more : List Entry) → AreInTurn setup s first → IfSome (replay_from setup s first) (λ t. AreInTurn setup t more) → AreInTurn setup s (first ++ more)
unfolding replay_from
in-turn-then setup s [] more turns rest = rest
in-turn-then setup s (entry ∷ first) more turns rest = (turns.0, on (step setup s entry) (λ t. in-turn-then setup t first more) turns.1 rest)
  where
    on : (next : Option State) → ((t : State) → AreInTurn setup t first → IfSome (replay_from setup t first) (λ u. AreInTurn setup u more) → AreInTurn setup t (first ++ more)) → IfSome next (λ t. AreInTurn setup t first)
        → IfSome (option_and_then (λ t. replay_from setup t first) next) (λ u. AreInTurn setup u more) → IfSome next (λ t. AreInTurn setup t (first ++ more))
    on None below turns rest = tt
    on (Some t) below turns rest = below t turns rest

pub turns-then : (first mid last : Shared) → GoesInTurn first mid → GoesInTurn mid last → GoesInTurn first last
turns-then first mid last a b = record {
  setup = b.setup ∙ a.setup;
  more = a.more ++ b.more;
  history = b.history ∙ ap (λ h. h ++ b.more) a.history ∙ append_assoc first.history a.more b.more;
  in_turn = on (replay first.setup first.history) refl a.in_turn;
}
  where
    later : IfSome (replay first.setup (first.history ++ a.more)) (λ t. AreInTurn first.setup t b.more)
    later = subst (λ h. IfSome (replay first.setup h) (λ t. AreInTurn first.setup t b.more)) a.history (subst (λ setup. IfSome (replay setup mid.history) (λ t. AreInTurn setup t b.more)) a.setup b.in_turn)

    leads : (s : State) → replay first.setup first.history ≡ Some s → replay first.setup (first.history ++ a.more) ≡ replay_from first.setup s a.more
    leads s is = replay_from-append first.setup (opening first.setup) first.history a.more ∙ ap (option_and_then (λ t. replay_from first.setup t a.more)) is

    on : (found : Option State) → replay first.setup first.history ≡ found → IfSome found (λ s. AreInTurn first.setup s a.more) → IfSome found (λ s. AreInTurn first.setup s (a.more ++ b.more))
    on None is turns = tt
    on (Some s) is turns = in-turn-then first.setup s a.more b.more turns (subst (λ o. IfSome o (λ t. AreInTurn first.setup t b.more)) (leads s is) later)

-- what goes on in turn is later
pub turns-later : (old new : Shared) → GoesInTurn old new → IsLater old new
turns-later old new is = record { setup = is.setup; more = is.more; history = is.history }

-- the entry of an answer, where it settles one
pub turns-given : (old new : Shared) (st : Stands old) (found : Given) → Appends (settled_by found) old new → ((e : Entry) → found ≡ given.Settled e → IsInTurn (now old st) e) → GoesInTurn old new
turns-given old new st found is turn = record {
  setup = is.setup;
  more = settled_by found;
  history = is.history;
  in_turn = subst (λ o. IfSome o (λ s. AreInTurn old.setup s (settled_by found))) (sym (replays-here old st)) (on found turn);
}
  where
    on : (f : Given) → ((e : Entry) → f ≡ given.Settled e → IsInTurn (now old st) e) → AreInTurn old.setup (now old st) (settled_by f)
    on (given.Settled e) turn = (turn e refl, any-step old.setup (step old.setup (now old st) e))
    on given.Held turn = tt
    on given.Local turn = tt
    on (given.Began snapshot) turn = tt
    on (given.Waiting w) turn = tt
    on (given.Aborted u ref version) turn = tt
    on given.Stale turn = tt

-- ---- names in order
-- what is not behind a name is that name, or comes before it
pub not-behind : (u other : Name) → is_gt (after_cmp u other) ≡ false → IsUpTo u other
not-behind u other not_gt = on (after_cmp u other) refl not_gt
  where
    on : (o : Ordering) → after_cmp u other ≡ o → is_gt o ≡ false → IsUpTo u other
    on Less is e = inr is
    on Equal is e = inl (after_cmp-IsAntisymmetric u other is)
    on Greater is e = cc

-- two names each of which is up to the other are one
pub both-up-to : (a b : Name) → IsUpTo a b → IsUpTo b a → a ≡ b
both-up-to a b (inl same) two = same
both-up-to a b (inr less) (inl same) = sym same
both-up-to a b (inr less) (inr other) = let no : Less ≡ Greater = sym less ∙ after_cmp_total.antisymm a b ∙ ap ordering_reverse other in cc

-- ---- units that are not finished
-- a unit is there that is not finished
abbrev IsOpen : Option UnitState → Type 0
IsOpen None = ⊥
IsOpen (Some unit) = unit.finished ≡ None

-- a unit stands there
pub record IsOpenAt (b : Board) (u : Name) : Type 0 where
  pub unit : Unit
  pub there : unit_at b u ≡ Some unit
  pub unfinished : finished_by unit.mark ≡ None

value-none : (m : Mark) → not (says_finished m) ≡ true → finished_by m ≡ None
value-none (mark.Ready w) e = refl
value-none (mark.Waiting w) e = refl
value-none mark.Resting e = refl
value-none (mark.Finished v) e = cc
value-none mark.Dropped e = refl

none-value : (m : Mark) → finished_by m ≡ None → not (says_finished m) ≡ true
none-value (mark.Ready w) e = refl
none-value (mark.Waiting w) e = refl
none-value mark.Resting e = refl
none-value (mark.Finished v) e = cc
none-value mark.Dropped e = refl

pub open-at : (b : Board) (u : Name) → is_unfinished b u ≡ true → IsOpenAt b u
open-at b u is = on (piece_at b u) refl is
  where
    on : (found : Option Piece) → piece_at b u ≡ found → holds_at goes_on found ≡ true → IsOpenAt b u
    on None at e = cc
    on (Some (piece.Unit x)) at e = record { unit = x; there = ap (option_and_then unit_in) at; unfinished = value-none x.mark e }
    on (Some (piece.Task m)) at e = cc
    on (Some (piece.Actor a)) at e = cc

pub unfinished-at : (b : Board) (u : Name) (x : Unit) → unit_at b u ≡ Some x → finished_by x.mark ≡ None → is_unfinished b u ≡ true
unfinished-at b u x there none = ap (holds_at goes_on) (unit-piece b u x there) ∙ none-value x.mark none

-- what holds of each state that a history replays to
pub sound-here : (s : Shared) (st : Stands s) → IsSound s.setup (now s st)
sound-here s st = replay-sound s.setup st.formed transactions-keep s.history (now s st) (replays-here s st)

-- the units of the state are those that stand, where none runs ahead
module _ (s : Shared) (st : Stands s) (level : (u : Name) → named u s.aheads ≡ None) where
  stands-so : (u : Name) → UnitStands s.setup st.world.actors st.world.taken u (option_map (live_with None) (option_map unit_state (unit_at s.board u))) (named u (now s st).units)
  stands-so u = subst (λ live. UnitStands s.setup st.world.actors st.world.taken u live (named u (now s st).units))
      (st.seen.units u ∙ ap (λ h. option_map (live_with h) (option_map unit_state (unit_at s.board u))) (level u)) (st.is_world.stands.units u)

  -- what is not finished in the state is not on the board
  pub state-open : (u : Name) → IsOpen (named u (now s st).units) → is_unfinished s.board u ≡ true
  state-open u = on (unit_at s.board u) refl (named u (now s st).units) (stands-so u)
    where
      on : (x : Option Unit) → unit_at s.board u ≡ x → (found : Option UnitState) → UnitStands s.setup st.world.actors st.world.taken u (option_map (live_with None) (option_map unit_state x)) found → IsOpen found
          → is_unfinished s.board u ≡ true
      on None is None stands none = absurd none
      on None is (Some unit) stands none = absurd stands
      on (Some x) is None stands none = absurd none
      on (Some x) is (Some unit) stands none = unfinished-at s.board u x is (sym (ap (λ (k : UnitState). k.finished) stands.0) ∙ none)

  -- and what is not on the board is not in the state
  pub open-state : (u : Name) → is_unfinished s.board u ≡ true → IsOpen (named u (now s st).units)
  open-state u is = on (named u (now s st).units) (subst (λ x. UnitStands s.setup st.world.actors st.world.taken u (option_map (live_with None) (option_map unit_state x)) (named u (now s st).units)) at.there (stands-so u))
    where
      at : IsOpenAt s.board u
      at = open-at s.board u is

      on : (found : Option UnitState) → UnitStands s.setup st.world.actors st.world.taken u (Some (live_with None (unit_state at.unit))) found → IsOpen found
      on None stands = absurd stands
      on (Some unit) stands = ap (λ (k : UnitState). k.finished) stands.0 ∙ at.unfinished

  -- a step of the first unit that is not finished is in turn
  pub run-in-turn : s.end ≡ None → (u : Name) → is_unfinished s.board u ≡ true → ((other : Name) → is_unfinished s.board other ≡ true → IsUpTo u other) → IsInTurn (now s st) (Run u)
  run-in-turn going u open_so first = on (named u (now s st).units) refl (open-state u open_so)
    where
      at : (unit : UnitState) → named u (now s st).units ≡ Some unit → unit.finished ≡ None → IsInTurn (now s st) (Run u)
      at unit there unfinished =
          run-first (now s st) (end-same s st ∙ going) u
          (unit-first (now s st).units (sound-here s st).ordered.unit_names u unit there unfinished
          (λ other k is none. first other (state-open other (subst IsOpen (sym is) none))))

      on : (found : Option UnitState) → named u (now s st).units ≡ found → IsOpen found → IsInTurn (now s st) (Run u)
      on None is opened = absurd opened
      on (Some unit) is opened = at unit is opened

-- ---- the walk
some-piece : (found : Option Piece) → holds_at goes_on found ≡ true → IsSome found
some-piece None e = cc
some-piece (Some p) e = refl

-- what is the first behind what was passed is up to each unit that is not finished
pub next-first : (b : Board) (passed : Option Name) (next : Name) → IsNextAfter b passed next → ((u : Name) → is_unfinished b u ≡ true → ComesAfter passed u) → (u : Name) → is_unfinished b u ≡ true → IsUpTo next u
next-first b passed next is behind u open_so = not-behind next u (is.first u (behind u open_so) (some-piece (piece_at b u) open_so))

-- an open piece is no finished unit
pub open-unit : (b : Board) (name : Name) → IsOpenPiece (piece_at b name) → IsOpenUnit b name
open-unit b name opened x there = on x.mark (subst IsOpenPiece (unit-piece b name x there) opened)
  where
    on : (m : Mark) → says_finished m ≡ false → finished_by m ≡ None
    on (mark.Ready w) e = refl
    on (mark.Waiting w) e = refl
    on mark.Resting e = refl
    on (mark.Finished v) e = cc
    on mark.Dropped e = refl
