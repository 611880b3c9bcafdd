-- A step of the first piece that is not passed.
use Rattle.std.proofs.Common.{◌≡◌, ◌∙◌, ◌⊎◌, ◌==◌, Bool, ℕ, [], inl, inr, true, false, refl, sym, ap, subst}
use Rattle.std.specs.declared.cmp.Ordering.{Ordering}
use Rattle.std.specs.declared.cmp.Ordering.TheVariants.{Equal, Greater, Less}
use Rattle.std.specs.Option.{option_and_then}
use Rattle.std.specs.Ordering.{is_lt, ordering_reverse}
use Rattle.std.specs.Prelude.{IfSome, IsSome, None, Option, Some}
use Rattle.attempts_gone.proofs.Dropped.{trying-unfinished}
use Rattle.lent_pieces.specs.Giving as giving
use Rattle.lent_pieces.specs.Giving.{PieceGave}
use Rattle.run_end.proofs.Ends.{tried-has}
use Rattle.run_end.proofs.Level.{none-comes}
use Rattle.run_end.proofs.Mailed.{due-open, take-in-turn}
use Rattle.run_end.proofs.Turns.{both-up-to, next-first, run-in-turn, unfinished-at}
use Rattle.run_end.specs.Finishing.{NoneTried}
use Rattle.run_end.specs.InTurn.{IsDue, IsDueTurn, IsInTurn, IsLeft, IsLevel, IsMadeBehind, IsOpenPiece, IsUpTo, IsUpToOpen, IsWalked, IsWalkedOr, number_at, number_in}
use Rattle.serial_model.specs.declared.entry.Entry.{Entry}
use Rattle.serial_model.specs.declared.entry.Entry.TheVariants.{Take}
use Rattle.serial_model.specs.declared.halt.Halt.{Halt}
use Rattle.serial_model.specs.declared.halt.Halt.TheVariants as halt
use Rattle.serial_model.specs.declared.request.Request.TheVariants as request
use Rattle.serial_model.specs.State.{UnitState}
use Rattle.serial_model.specs.Step.{next_of}
use Rattle.shared_world.proofs.Live.{state-there, unit-piece}
use Rattle.shared_world.proofs.Over.{now}
use Rattle.shared_world.proofs.Spreads.{IsSpread, IsTaskSpread, IsTurnSpread, NoneOpens, gave-actor-spread, gave-task-spread, gave-unit-spread}
use Rattle.shared_world.specs.declared.given.Given.{Given}
use Rattle.shared_world.specs.declared.given.Given.TheVariants as given
use Rattle.shared_world.specs.Gave.{GaveTask, GaveUnit}
use Rattle.shared_world.specs.Rest.{AreFinished}
use Rattle.shared_world.specs.rows.Turns.{GaveActor, TakesIfAllowed}
use Rattle.shared_world.specs.rows.Units.{Tries, UnitGives}
use Rattle.shared_world.specs.Shared.{Shared, is_going, unit_state}
use Rattle.shared_world.specs.Stands.{IsUnderWay, Stands}
use Rattle.task_fork_join.specs.Attempt.{Attempt}
use Rattle.unit_table.specs.Board.{Board, ComesAfter, IsNextAfter, is_unfinished, piece_at}
use Rattle.value_core.proofs.Names.{after_cmp-IsAntisymmetric, below_first}
use Rattle.value_core.specs.Name.{after_cmp}
use Rattle.value_core.specs.NameOrder.{after_cmp_total}
use Rattle.value_core.specs.Named.{Name, Named, made_by, named}

some-same : (x y : UnitState) → Some x ≡ Some y → x ≡ y
some-same x y e = cc

-- a unit that takes a step has no attempt: else it would stand at its transaction
untried : (s : Shared) (st : Stands s) → s.end ≡ None → (u : Name) (found : Given) (new : Shared) → GaveUnit s u found new → IsSome (named u s.attempts) → ⊥
untried s st going u found new g some = on (named u s.attempts) refl some
  where
    at : (tree : Attempt) → named u s.attempts ≡ Some tree → IsUnderWay s u tree → ⊥
    at tree is way =
        let same : way.unit ≡ unit_state g.unit = some-same way.unit (unit_state g.unit) (sym way.there ∙ state-there s.board u g.unit g.there) in
        let asks : next_of s.setup (unit_state g.unit) ≡ halt.Ask (request.Dosync way.body way.values) way.at = ap (next_of s.setup) (sym same) ∙ way.asks in
        subst (λ tried. Tries s u g.unit way.body way.values way.at tried found new) is (subst (λ (h : Halt). UnitGives s u g.unit h found new) asks g.gives)

    on : (tried : Option Attempt) → named u s.attempts ≡ tried → IsSome tried → ⊥
    on None is e = absurd (cc)
    on (Some tree) is e = at tree is (st.attempts (ap is_going going) u tree is)

not-none : (tried : Option Attempt) → tried ≡ None → IsSome tried → ⊥
not-none None e is = cc
not-none (Some tree) e is = cc

-- the walk begins where no unit has an attempt, and none runs ahead
pub walked-first : (s : Shared) → NoneTried s.attempts → IsLevel s → IsWalkedOr s None
walked-first s none level going = record { level = level; behind = λ u is. tt; tried = λ v some u is. absurd (not-none (named v s.attempts) (none v) some) }

-- from the beginning each piece comes behind what was passed
pub walked-anew : (s : Shared) (passed : Option Name) → IsWalked s passed → IsWalked s None
walked-anew s passed walked = record { level = walked.level; behind = λ u is. tt; tried = walked.tried }

-- a piece that is no unfinished unit is passed
pub walked-past : (s : Shared) (passed : Option Name) (name : Name) → IsWalked s passed → IsNextAfter s.board passed name → is_unfinished s.board name ≡ false → IsWalked s (Some name)
walked-past s passed name walked next shut = record { level = walked.level; behind = λ u is. on u is (next-first s.board passed name next walked.behind u is); tried = walked.tried }
  where
    on : (u : Name) → is_unfinished s.board u ≡ true → IsUpTo name u → after_cmp name u ≡ Less
    on u is (inl same) = let no : false ≡ true = sym shut ∙ ap (is_unfinished s.board) same ∙ is in cc
    on u is (inr less) = less

-- where each unit is finished, any walk has come as far
pub walked-finished : (s : Shared) (left : Option Name) → IsLevel s → AreFinished s.board → IsWalked s left
walked-finished s left level all = record { level = level; behind = λ u is. absurd (none u is); tried = λ v some u is. absurd (none u is) }
  where
    none : (u : Name) → is_unfinished s.board u ≡ true → ⊥
    none u is = let no : true ≡ false = sym is ∙ all u in cc

-- and any name is up to those that are not
pub up-to-finished : (b : Board) (name : Name) → AreFinished b → IsUpToOpen b name
up-to-finished b name all u is = let no : true ≡ false = sym is ∙ all u in cc

-- what is still passed is as good a place in the walk as what was
pub walked-left : (s : Shared) (name : Name) (passed left : Option Name) → IsWalked s passed → IsLeft s.board name passed left → IsWalked s left
walked-left s name passed left walked is_left = record { level = walked.level; behind = λ u is. is_left.behind u (walked.behind u is); tried = walked.tried }

-- a name below what is made comes right before it
pub below-made : (b : Board) (name : Name) (k : ℕ) → number_at b name ≡ Some k → IsMadeBehind b name (Some (made_by (made_by name k) 0))
below-made b name k is = subst (λ n. IfSome n (λ j. ComesAfter (Some (made_by (made_by name k) 0)) (made_by name j))) (sym is) (below_first (made_by name k) 0 [])

-- what comes behind a name that does not come before what is made comes behind that one too
pub behind-below : (name made : Name) → is_lt (after_cmp name made) ≡ false → (other : Name) → ComesAfter (Some name) other → ComesAfter (Some (made_by made 0)) other
behind-below name made no_less other after = on (after_cmp name made) refl no_less
  where
    on : (o : Ordering) → after_cmp name made ≡ o → is_lt o ≡ false → after_cmp (made_by made 0) other ≡ Less
    on Less is e = cc
    on Equal is e = after_cmp_total.trans (made_by made 0) made other (below_first made 0 []) (subst (λ n. after_cmp n other ≡ Less) (after_cmp-IsAntisymmetric name made is) after)
    on Greater is e =
        let less : after_cmp made name ≡ Less = after_cmp_total.antisymm made name ∙ ap ordering_reverse is in
        after_cmp_total.trans (made_by made 0) made other (below_first made 0 []) (after_cmp_total.trans made name other less after)

module _ (old : Shared) (st : Stands old) (going : old.end ≡ None) (left : Option Name) (name : Name) (walked : IsWalked old left) (first : IsUpToOpen old.board name) (due : IsDue old name) where
  -- a unit that has an attempt is not finished
  tried-open : (v : Name) → IsSome (named v old.attempts) → is_unfinished old.board v ≡ true
  tried-open v some =
      let has = tried-has old st going v some in
      unfinished-at old.board v has.unit has.there (trying-unfinished old st going v has.unit has.tree has.there has.attempt)

  module _ (found : Given) (new : Shared) where
    unit-open : (g : GaveUnit old name found new) → is_unfinished old.board name ≡ true
    unit-open g = unfinished-at old.board name g.unit g.there (due-open old st name due g.unit g.there)

    owner-tried : (g : GaveTask old name found new) → IsSome (named g.owner old.attempts)
    owner-tried g = subst IsSome (sym g.attempt) refl

    owner-open : (g : GaveTask old name found new) → is_unfinished old.board g.owner ≡ true
    owner-open g = tried-open g.owner (owner-tried g)

    actor-due : (g : GaveActor old name found new) → IsDueTurn old name
    actor-due g = on due
      where
        on : IsOpenPiece (piece_at old.board name) ⊎ IsDueTurn old name → IsDueTurn old name
        on (inl opened) = absurd (subst IsOpenPiece g.there opened)
        on (inr turn) = turn

    actor-all : (g : GaveActor old name found new) → AreFinished old.board
    actor-all g = (actor-due g).finished

    actor-takes : (g : GaveActor old name found new) (full : Bool) → TakesIfAllowed old name g.actor.state g.first g.rest g.can.behaviour full found new → found ≡ given.Settled (Take name g.first.sender)
    actor-takes g true r = r.found_is
    actor-takes g false r = r.found_is

    one-entry : (e f : Entry) → given.Settled e ≡ given.Settled f → e ≡ f
    one-entry e f is = cc

    -- the entry that it settles is in turn
    pub due-turn : PieceGave old name found new → (e : Entry) → found ≡ given.Settled e → IsInTurn (now old st) e
    due-turn (giving.unit g) e is =
        let spread = gave-unit-spread old name found new g (unit-open g) in
        subst (IsInTurn (now old st)) (sym (spread.entry e is)) (run-in-turn old st walked.level.aheads going name (unit-open g) first)
    due-turn (giving.task g) e is =
        let spread = gave-task-spread old name found new g (owner-open g) in
        subst (IsInTurn (now old st)) (sym (spread.entry e is)) (run-in-turn old st walked.level.aheads going g.owner (owner-open g) (walked.tried g.owner (owner-tried g)))
    due-turn (giving.actor g) e is =
        let takes = actor-takes g (old.made == old.setup.limits.units) g.gives in
        subst (IsInTurn (now old st)) (one-entry (Take name g.first.sender) e (sym takes ∙ is)) (take-in-turn old st going name (actor-due g) g.first g.rest g.mail)

    module _ (made : IsMadeBehind old.board name left) where
      -- what a unit makes next, and the next turn of an actor
      unit-made : (g : GaveUnit old name found new) → ComesAfter left (made_by name g.unit.made)
      unit-made g = subst (λ p. IfSome (option_and_then number_in p) (λ k. ComesAfter left (made_by name k))) (unit-piece old.board name g.unit g.there) made

      actor-made : (g : GaveActor old name found new) → ComesAfter left (made_by name g.actor.state.turns)
      actor-made g = subst (λ p. IfSome (option_and_then number_in p) (λ k. ComesAfter left (made_by name k))) g.there made

      was-behind : (u : Name) → is_unfinished old.board u ≡ true → ComesAfter left u
      was-behind u is = walked.behind u is

      unit-walked : (g : GaveUnit old name found new) → IsWalked new left
      unit-walked g = record { level = none-comes old walked.level name found new (giving.unit g); behind = λ u is. behind u is spread.opens; tried = λ v some u is. tried v u is (spread.tries v some) }
        where
          child : Name
          child = made_by name g.unit.made

          spread : IsSpread old name child found new
          spread = gave-unit-spread old name found new g (unit-open g)

          opened : (u : Name) → (u ≡ child) ⊎ (is_unfinished old.board u ≡ true) → ComesAfter left u
          opened u (inl same) = subst (ComesAfter left) (sym same) (unit-made g)
          opened u (inr was) = was-behind u was

          behind : (u : Name) → is_unfinished new.board u ≡ true → NoneOpens old.board new.board ⊎ ((new.attempts ≡ old.attempts) × ((n : Name) → is_unfinished new.board n ≡ true → (n ≡ child) ⊎ (is_unfinished old.board n ≡ true))) → ComesAfter left u
          behind u is (inl none) = was-behind u (none u is)
          behind u is (inr one) = opened u (one.1 u is)

          -- only the first unit could have one, and has none
          had-none : (v : Name) → IsSome (named v old.attempts) → ⊥
          had-none v had =
              let same : name ≡ v = both-up-to name v (first v (tried-open v had)) (walked.tried v had name (unit-open g)) in
              untried old st going name found new g (subst (λ n. IsSome (named n old.attempts)) (sym same) had)

          tried : (v u : Name) → is_unfinished new.board u ≡ true → IsSome (named v old.attempts) ⊎ ((v ≡ name) × NoneOpens old.board new.board) → IsUpTo v u
          tried v u is (inl had) = absurd (had-none v had)
          tried v u is (inr here) = subst (λ n. IsUpTo n u) (sym here.0) (first u (here.1 u is))

      task-walked : (g : GaveTask old name found new) → IsWalked new left
      task-walked g = record { level = none-comes old walked.level name found new (giving.task g); behind = λ u is. was-behind u (spread.opens u is); tried = λ v some u is. walked.tried v (spread.tries v some) u (spread.opens u is) }
        where
          spread : IsTaskSpread old g.owner found new
          spread = gave-task-spread old name found new g (owner-open g)

      actor-walked : (g : GaveActor old name found new) → IsWalked new left
      actor-walked g = record { level = none-comes old walked.level name found new (giving.actor g); behind = λ u is. opened u (spread.opens u is); tried = λ v some u is. absurd (none v (subst (λ (a : Named Attempt). IsSome (named v a)) spread.attempts some)) }
        where
          spread : IsTurnSpread old (made_by name g.actor.state.turns) found new
          spread = gave-actor-spread old name found new g

          opened : (u : Name) → (u ≡ made_by name g.actor.state.turns) ⊎ (is_unfinished old.board u ≡ true) → ComesAfter left u
          opened u (inl same) = subst (ComesAfter left) (sym same) (actor-made g)
          opened u (inr was) = let no : true ≡ false = sym was ∙ actor-all g u in cc

          none : (v : Name) → IsSome (named v old.attempts) → ⊥
          none v had = let no : true ≡ false = sym (tried-open v had) ∙ actor-all g v in cc

      -- and the walk goes on behind what is left
      pub due-walked : PieceGave old name found new → IsWalked new left
      due-walked (giving.unit g) = unit-walked g
      due-walked (giving.task g) = task-walked g
      due-walked (giving.actor g) = actor-walked g
