-- The next that a turn holds is settled.
use Rattle.std.proofs.Common.{◌≡◌, ◌∙◌, ◌∷◌, [], List, refl, sym, ap, subst, true}
use Rattle.std.specs.Option.{IfSome, IsSome}
use Rattle.std.specs.Prelude.{Err, None, Ok, Option, Result, Some, is_some, not}
use Rattle.std.specs.declared.alloc.AllocError.{AllocError}
use Rattle.ahead_settling.proofs.Wakes.{waiters-of}
use Rattle.ahead_settling.specs.Beginning.{BeginComes, HoldsIts}
use Rattle.ahead_settling.specs.First.{FirstComes, IsOpen}
use Rattle.ahead_settling.specs.Settling.{HoldsBegin, HoldsFirst, IsNextHeld, NextSettled, SettlesComes}
use Rattle.serial_model.specs.declared.request.Request.{Request}
use Rattle.shared_world.specs.Ahead.{Ahead}
use Rattle.shared_world.specs.declared.given.Given.{Given}
use Rattle.shared_world.specs.Marks.{AreMarked}
use Rattle.shared_world.specs.rows.Leading.{NextSettles, is_definite, is_settled}
use Rattle.shared_world.specs.Shared.{Shared}
use Rattle.shared_world.specs.Stands.{Stands}
use Rattle.tentative_turn.specs.declared.held_effect.HeldEffect.{HeldEffect}
use Rattle.tentative_turn.specs.declared.held_effect.HeldEffect.TheVariants as held
use Rattle.turns_ahead.specs.declared.next_held.NextHeld.{NextHeld}
use Rattle.turns_ahead.specs.declared.next_held.NextHeld.TheVariants as next
use Rattle.turns_ahead.specs.Leading.{Leading, ahead_of, asked, first_asked}
use Rattle.turns_ahead.specs.Next.{IsFirstHeld}
use Rattle.unit_table.specs.Board.{unit_at}
use Rattle.unit_table.specs.declared.unit.Unit.{Unit}
use Rattle.value_core.proofs.NamedViews.{view_found}
use Rattle.value_core.specs.Named.{Name, Named, each_as, named}

-- ---- what the turn holds first
rest-of : (effects : List HeldEffect) (r : Request) → first_asked effects ≡ Some r → (rest : List Request) × (asked effects ≡ r ∷ rest)
rest-of [] r is = cc
rest-of (held.Take entry ∷ effects) r is = cc
rest-of (held.Asked q answer ∷ effects) r is = (asked effects, ap (λ k. k ∷ asked effects) (let both : Some q ≡ Some r = is in cc))

-- a turn that is kept holds what it holds first
pub next-is : (s : Shared) (u : Name) (all : Named Leading) (l : Leading) (n : NextHeld) → s.aheads ≡ each_as ahead_of all → named u all ≡ Some l → IsFirstHeld l n → IsNextHeld s u n
next-is s u all l (next.Begin a) is there first = record { ahead = ahead_of l; leads = ap (named u) is ∙ view_found ahead_of u all l there; takes = first }
next-is s u all l (next.Asked r) is there first =
    let more = rest-of l.turn.effects r first.1 in
    record { ahead = ahead_of l; leads = ap (named u) is ∙ view_found ahead_of u all l there; takes = first.0; rest = more.0; first = more.1 }

pub holds-its : (s : Shared) (u a : Name) → HoldsBegin s u a → HoldsIts s.aheads u
holds-its s u a is = subst (λ o. IfSome o (λ (h : Ahead). IsSome h.takes)) (sym is.leads) (subst IsSome (sym is.takes) refl)

-- ---- what is kept
pub opened-of : (s : Shared) (u : Name) → Stands s → AreMarked s → s.end ≡ None → IsSome (unit_at s.board u) → IsOpen s u
opened-of s u stands marked going there = record { stands = stands; going = going; there = there; waiters = waiters-of s marked u }

record IsUnitThere (s : Shared) (u : Name) : Type 0 where
  x : Unit
  there : unit_at s.board u ≡ Some x

unit-there : (s : Shared) (u : Name) → IsSome (unit_at s.board u) → IsUnitThere s u
unit-there s u is = on (unit_at s.board u) refl is
  where
    on : (o : Option Unit) → unit_at s.board u ≡ o → IsSome o → IsUnitThere s u
    on None e absent = cc
    on (Some x) e there = record { x = x; there = e }

-- ---- what the turn comes to
pub begin-comes : (old new : Shared) (u a : Name) (result : Result Given AllocError) → IsSome (unit_at old.board u) → HoldsBegin old u a → BeginComes old u a new result → SettlesComes old u new result
begin-comes old new u a (Err e) is h same = same
begin-comes old new u a (Ok found) is h settled =
    let at = unit-there old u is in
    let row = settled.row at.x h.ahead at.there h.leads h.takes in
    record {
      unit = at.x;
      there = at.there;
      ahead = h.ahead;
      leads = h.leads;
      definite = subst (λ t. is_definite old.taken t ≡ true) (sym h.takes) (ap is_settled row.0.took ∙ ap (λ (d : Option Name). not (is_some d)) row.0.definite);
      gives = subst (λ t. NextSettles old u at.x h.ahead t h.ahead.held found new) (sym h.takes) row;
      claims = settled.claims;
    }

pub first-comes : (old new : Shared) (u : Name) (r : Request) (result : Result Given AllocError) → IsSome (unit_at old.board u) → HoldsFirst old u r → FirstComes old u r new result → SettlesComes old u new result
first-comes old new u r (Err e) is h same = same
first-comes old new u r (Ok found) is h settled =
    let at = unit-there old u is in
    record {
      unit = at.x;
      there = at.there;
      ahead = h.ahead;
      leads = h.leads;
      definite = subst (λ t. is_definite old.taken t ≡ true) (sym h.takes) refl;
      gives = subst (λ t. NextSettles old u at.x h.ahead t h.ahead.held found new) (sym h.takes) (subst (λ rs. NextSettles old u at.x h.ahead None rs found new) (sym h.first) (settled.row at.x h.ahead h.rest at.there h.leads h.first));
      claims = settled.claims;
    }
