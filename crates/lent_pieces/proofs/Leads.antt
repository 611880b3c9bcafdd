-- What turns come to that run ahead.
use Rattle.std.proofs.Common.{◌≡◌, ◌∙◌, Bool, true, false, refl, sym, ap, subst}
use Rattle.std.specs.Option.{IsSome, option_map}
use Rattle.std.specs.Prelude.{◌&&◌, Err, IfSome, None, Ok, Option, Result, Some}
use Rattle.std.specs.declared.alloc.AllocError.{AllocError}
use Rattle.ahead_settling.specs.Settling.{SettlesComes}
use Rattle.ahead_steps.specs.Leads.{IsLead, LeadComes}
use Rattle.attempt_steps.proofs.Wanting.{same-wanting}
use Rattle.lent_pieces.proofs.Given.{IsThereUnit, halts-so, moved-of, there-unit}
use Rattle.lent_pieces.specs.declared.giving.Moved.{Moved}
use Rattle.lent_pieces.specs.Giving.{GivesTo, IsMovedOn}
use Rattle.lent_pieces.specs.Leading.{GivesLead, GivesLive, GoesAhead, IsSettling}
use Rattle.lent_pieces.specs.Leading as live_gave
use Rattle.actor_turns.specs.Turning.{AheadComes}
use Rattle.serial_model.specs.State.{UnitState}
use Rattle.shared_world.specs.Ahead.{Ahead}
use Rattle.shared_world.specs.declared.given.Given.{Given}
use Rattle.shared_world.specs.rows.Leading.{LeadGives, LeadGoes, is_definite, is_to_settle}
use Rattle.shared_world.specs.Shared.{Shared, kept_machine, unit_state}
use Rattle.shared_world.specs.Stands.{IsAheadAt, Stands}
use Rattle.unit_table.specs.Board.{unit_at}
use Rattle.unit_table.specs.declared.mark.Work.{Work}
use Rattle.unit_table.specs.declared.unit.Unit.{Unit}
use Rattle.value_core.specs.Named.{Name, named}

-- a turn of that name runs ahead
record IsAheadThere (s : Shared) (name : Name) : Type 0 where
  h : Ahead
  leads : named name s.aheads ≡ Some h

ahead-there : (s : Shared) (name : Name) → IsSome (named name s.aheads) → IsAheadThere s name
ahead-there s name some = on (named name s.aheads) refl some
  where
    on : (o : Option Ahead) → named name s.aheads ≡ o → IsSome o → IsAheadThere s name
    on None e is = absurd (cc)
    on (Some h) e is = record { h = h; leads = e }

-- its unit stands there
pub unit-of-lead : (s : Shared) (st : Stands s) (name : Name) → IsSome (named name s.aheads) → IsSome (unit_at s.board name)
unit-of-lead s st name some = let at = ahead-there s name some in let is : IsAheadAt s.board name at.h = st.aheads name at.h at.leads in on (unit_at s.board name) is.there
  where
    on : {unit : UnitState} (found : Option Unit) → option_map unit_state found ≡ Some unit → IsSome found
    on None e = absurd (cc)
    on (Some x) e = refl

-- it goes on by where its machine halts
pub goes-so : (old new : Shared) (st : Stands old) (name : Name) (moved : Moved) (result : Result Given AllocError) → IsSome (unit_at old.board name) → IfSome (kept_machine old name) (λ kept. IsMovedOn old.setup.program kept moved)
    → LeadComes old name moved.halt new result → GoesAhead old name new result
goes-so old new st name moved (Err e) some is r = r
goes-so old new st name moved (Ok found) some is r = record {
  row = λ x there h leads. subst (λ k. LeadGoes old name x h k found new) (halts-so old st name moved x there (moved-of old name moved x there is)) (r.row x there h leads);
  claims = r.claims;
}

-- whether it settles what it holds
pub settles-so : (s : Shared) (name : Name) (w : Work) (definite is_to : Bool) → IsLead s name definite → is_to ≡ is_to_settle w → IsSettling s name w (definite && is_to)
settles-so s name w definite is_to is so = record { ahead = is.lead; leads = is.leads; settles_is = ap (λ d. d && is_to) is.definite_is ∙ ap (λ t. is_definite s.taken is.lead.takes && t) so }

-- where it does, the next is settled
pub settled-so : (old new : Shared) (name : Name) (w : Work) (result : Result Given AllocError) → IsSettling old name w true → SettlesComes old name new result → GivesLead old name w new result
settled-so old new name w (Err e) is r = r
settled-so old new name w (Ok found) is r = record {
  unit = r.unit;
  there = r.there;
  ahead = r.ahead;
  leads = r.leads;
  gives = subst (λ b. LeadGives old name r.unit r.ahead b found new) (is.settles_is ∙ ap (λ (h : Ahead). is_definite old.taken h.takes && is_to_settle w) same) r.gives;
  claims = r.claims;
}
  where
    same : is.ahead ≡ r.ahead
    same = let both : Some is.ahead ≡ Some r.ahead = sym is.leads ∙ r.leads in cc

-- and else it goes on
pub gone-on : (old new : Shared) (st : Stands old) (name : Name) (w : Work) (result : Result Given AllocError) → IsSome (named name old.aheads) → IsSettling old name w false → GoesAhead old name new result → GivesLead old name w new result
gone-on old new st name w (Err e) some is r = r
gone-on old new st name w (Ok found) some is r = record {
  unit = at.x;
  there = at.there;
  ahead = is.ahead;
  leads = is.leads;
  gives = subst (λ b. LeadGives old name at.x is.ahead b found new) is.settles_is (r.row at.x at.there is.ahead is.leads);
  claims = r.claims;
}
  where
    at : IsThereUnit old name
    at = there-unit old name (unit-of-lead old st name some)

-- ---- what a piece comes to that was lent
pub lead-live : (old new : Shared) (st : Stands old) (name : Name) (w : Work) (result : Result Given AllocError) → GivesLead old name w new result → GivesLive old name w new result
lead-live old new st name w (Err e) r = same-wanting old new name st r
lead-live old new st name w (Ok found) r = live_gave.lead r

pub begun-live : (old new : Shared) (st : Stands old) (name : Name) (w : Work) (result : Result Given AllocError) → AheadComes old name new result → GivesLive old name w new result
begun-live old new st name w (Err e) r = same-wanting old new name st r
begun-live old new st name w (Ok found) r = live_gave.tentative r

pub piece-live : (old new : Shared) (name : Name) (w : Work) (result : Result Given AllocError) → GivesTo old name new result → GivesLive old name w new result
piece-live old new name w (Err e) r = r
piece-live old new name w (Ok found) r = live_gave.piece r
