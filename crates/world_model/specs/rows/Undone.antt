-- The rows that undo.
use Rattle.std.specs.Prelude.{Bool, None, Option, Some, [], cond, true, ◌++◌, ◌≡◌}
use Rattle.value_core.specs.Named.{Name}
use Rattle.world_model.specs.Dependence.{DependsOn}
use Rattle.actor_mailbox.specs.Messages.{without}
use Rattle.world_model.specs.World.{Attempt, LiveUnit, World, still}

-- an attempt that has not gone
abbrev pub unless_gone : (Name → Bool) → Option Attempt → Option Attempt
unless_gone gone None = None
unless_gone gone (Some tried) = cond (gone tried.root) None (Some tried)

-- the world without the names that have gone, and without the messages that depend on them
abbrev pub undone : World → (Name → Bool) → World
undone w gone = record w {
  units = λ v. cond (gone v) None (w.units v);
  taken = λ a. without gone (w.taken a);
  mails = λ a. without gone (w.mails a);
  attempts = λ v. unless_gone gone (w.attempts v);
}

-- Aborted: what hangs on an attempt has gone, and nothing else
pub record Aborts (w : World) (u : Name) (tried : Attempt) (gone : Name → Bool) : Type 0 where
  pub attempt : w.attempts u ≡ Some tried
  pub all : (n : Name) → DependsOn w tried.root n → gone n ≡ true
  pub only : (n : Name) → gone n ≡ true → DependsOn w tried.root n

-- a unit back where the history left it
abbrev pub reset_live : LiveUnit → Option Name → Option LiveUnit
reset_live x None = Some (still x.from)
reset_live x (Some a) = None

abbrev pub reset_unit : Option LiveUnit → Option LiveUnit
reset_unit None = None
reset_unit (Some x) = reset_live x x.takes

-- Every attempt, held effect and begun turn is undone. What was taken and settled is the first of its mailbox again.
abbrev pub reset : World → World
reset w = record w {
  units = λ u. reset_unit (w.units u);
  taken = λ a. [];
  mails = λ a. without (λ on. true) (w.taken a ++ w.mails a);
  attempts = λ u. None;
}
