-- A turn that holds one request more.
use Rattle.std.proofs.Common.{◌≡◌, ◌∙◌, ◌+◌, ◌++◌, ◌∷◌, [], ℕ, Bool, true, false, List, refl, sym, ap, subst, suc, arith}
use Rattle.std.specs.Option.{option_map}
use Rattle.std.specs.Prelude.{IfSome, None, Option, Some}
use Rattle.ahead_steps.proofs.Came.{came-so, changed-by, some-same}
use Rattle.ahead_steps.proofs.Marked.{none-ahead}
use Rattle.ahead_steps.specs.declared.holding.Going.{Going}
use Rattle.ahead_steps.specs.Going.{GoesOn, HoldsLast, IsGoing, IsGoingAt}
use Rattle.ahead_steps.specs.Leads.{Came}
use Rattle.eval_step.specs.Evaluation.{Evaluation, IsOf, IsSame}
use Rattle.serial_model.specs.declared.answer.Answer.TheVariants as answer
use Rattle.serial_model.specs.declared.request.Request.{Request}
use Rattle.serial_model.specs.declared.request.Request.TheVariants as request
use Rattle.serial_model.specs.Step.{answered, unit_after}
use Rattle.serial_model.specs.State.{UnitState}
use Rattle.shared_world.specs.Ahead.{Ahead}
use Rattle.shared_world.specs.declared.given.Given.{Given}
use Rattle.shared_world.specs.declared.given.Given.TheVariants as given
use Rattle.shared_world.specs.rows.Leading.{HoldsOn, becomes_after, is_definite, mark_ahead}
use Rattle.shared_world.specs.rows.Pieces.{ClaimsEnd}
use Rattle.shared_world.specs.Shared.{Shared, actor_of, becoming_of, finished_by, unit_state}
use Rattle.shared_world.specs.Stands.{IsMachine, Stands}
use Rattle.tentative_turn.specs.Turn.{IsDosync, IsLookUp, things_made}
use Rattle.turns_ahead.specs.Leading.{becomes_or}
use Rattle.unit_table.specs.Board.{SameClaims, unit_at}
use Rattle.unit_table.specs.declared.mark.Mark.TheVariants as mark
use Rattle.unit_table.specs.declared.mark.Work.TheVariants as work
use Rattle.unit_table.specs.declared.unit.Becoming.{Becoming as Turned}
use Rattle.unit_table.specs.declared.unit.Unit.{Unit}
use Rattle.value_core.specs.Named.{Name, named, same_name}
use Rattle.world_model.specs.Ahead.{after_answer}
use Rattle.world_steps.proofs.Settling.{at-unit, claims-end, same-claims, unlent-after}
use Rattle.world_steps.specs.Kept.{IsUnitOf}

-- what a request changes of its unit
unit-then : (u : UnitState) (b : Option Turned) (r : Request) → u.becomes ≡ option_map becoming_of b → unit_after u r ≡ record u { made = u.made + things_made r; becomes = option_map becoming_of (becomes_after r b) }
unit-then u b r is = on r
  where
    same : u ≡ record u { made = u.made + 0; becomes = option_map becoming_of b }
    same = let none : u.made ≡ u.made + 0 = omega arith in λ i. record u { made = none i; becomes = is i }

    more : record u { made = suc u.made } ≡ record u { made = u.made + 1; becomes = option_map becoming_of b }
    more = let one : suc u.made ≡ u.made + 1 = omega arith in λ i. record u { made = one i; becomes = is i }

    on : (q : Request) → unit_after u q ≡ record u { made = u.made + things_made q; becomes = option_map becoming_of (becomes_after q b) }
    on (request.Print text) = same
    on (request.NewRef content) = more
    on (request.Deref ref) = same
    on (request.RefSet ref content) = same
    on (request.Fork body values) = more
    on (request.Join future) = same
    on (request.Dosync body values) = same
    on (request.Spawn behaviour state) = more
    on (request.Send actor args) = same
    on (request.Become behaviour state) = let none : u.made ≡ u.made + 0 = omega arith in λ i. record u { made = none i; becomes = Some (record { behaviour = behaviour; state = state }) }
    on request.SelfActor = same

-- the unit that went on
abbrev pub unit_on : Unit → Going → Unit
unit_on x g = record x { machine = g.machine; made = g.made; becomes = becomes_or g.becomes x.becomes; mark = mark_ahead g.definite (mark.Ready work.Eval) }

state-on : (name : Name) (x : Unit) (moved : Evaluation) (r : Request) (g : Going) → IsSame x.machine moved → finished_by x.mark ≡ None → (is : IsGoing name x moved r g) → unit_state (unit_on x g) ≡ answered (unit_after (unit_state x) r) is.told
state-on name x moved r g same unfinished is = first ∙ ap (λ (u : UnitState). answered u is.told) (sym (unit-then (unit_state x) x.becomes r refl))
  where
    body : g.machine.body ≡ x.machine.body
    body = is.given.same.body ∙ same.task.body

    values : g.machine.values ≡ x.machine.values
    values = is.given.same.values ∙ same.task.values

    answers : g.machine.answers ≡ x.machine.answers ++ answer.Value is.told ∷ []
    answers = is.given.answers ∙ ap (λ given_so. given_so ++ answer.Value is.told ∷ []) same.answers

    finished : finished_by (mark_ahead g.definite (mark.Ready work.Eval)) ≡ finished_by x.mark
    finished = none-ahead g.definite (mark.Ready work.Eval) refl ∙ sym unfinished

    first : unit_state (unit_on x g) ≡ answered (record (unit_state x) { made = x.made + things_made r; becomes = option_map becoming_of (becomes_after r x.becomes) }) is.told
    first = λ i. record { actor = actor_of x.kind; body = body i; values = values i; answers = answers i; made = is.made i; becomes = option_map becoming_of (is.becomes x.becomes i); finished = finished i }

-- the request is held, and the turn goes on with its answer
pub holds-on : (base new : Shared) (name : Name) (x : Unit) (h : Ahead) (moved : Evaluation) (r : Request) (g : Going) (found : Given)
    → IsMachine base.setup x.machine → IsSame x.machine moved → IsOf base.setup.program moved → finished_by x.mark ≡ None → IsGoing name x moved r g → g.definite ≡ is_definite base.taken h.takes
    → named name base.aheads ≡ Some h → HoldsLast name r base.aheads new.aheads → found ≡ given.Held → GoesOn name x g base.board new.board → new ≡ record base { board = new.board; aheads = new.aheads }
    → HoldsOn base name x h r found new
holds-on base new name x h moved r g found kept same of unfinished is definite leads holds found_is goes others = record {
  found_is = found_is;
  after = answered (unit_after (unit_state x) r) is.told;
  gives = ap (after_answer (unit_after (unit_state x) r)) is.told_is;
  unit = unit_on x g;
  stands = record {
    state = state-on name x moved r g same unfinished is;
    machine = record { inside = is.given.same.inside ∙ same.task.inside ∙ kept.inside; fuel = is.given.same.fuel ∙ same.task.fuel ∙ kept.fuel; of = is.given.of base.setup.program of };
    mark = ap (λ d. mark_ahead d (mark.Ready work.Eval)) definite;
  };
  put = goes.put;
  aheads = changed-by name (record h { held = h.held ++ r ∷ []; waits = false }) base.aheads new.aheads (holds h leads);
  others = others;
}

-- what is answered ahead is no transaction, and not looked up
pub told-none : (name : Name) (x : Unit) (moved : Evaluation) (r : Request) (g : Going) → IsGoing name x moved r g → (IsDosync r → ⊥) × (IsLookUp r → ⊥)
told-none name x moved (request.Print text) g is = (λ h. h, λ h. h)
told-none name x moved (request.NewRef content) g is = (λ h. h, λ h. h)
told-none name x moved (request.Deref ref) g is = let no : None ≡ Some (answer.Value is.told) = is.told_is in cc
told-none name x moved (request.RefSet ref content) g is = let no : None ≡ Some (answer.Value is.told) = is.told_is in cc
told-none name x moved (request.Fork body values) g is = (λ h. h, λ h. h)
told-none name x moved (request.Join future) g is = let no : None ≡ Some (answer.Value is.told) = is.told_is in cc
told-none name x moved (request.Dosync body values) g is = let no : None ≡ Some (answer.Value is.told) = is.told_is in cc
told-none name x moved (request.Spawn behaviour state) g is = (λ h. h, λ h. h)
told-none name x moved (request.Send actor args) g is = (λ h. h, λ h. h)
told-none name x moved (request.Become behaviour state) g is = (λ h. h, λ h. h)
told-none name x moved request.SelfActor g is = (λ h. h, λ h. h)

-- A turn that holds one request more, of what was kept, and goes on with its answer once something was sent.
module _ (old mid new : Shared) (name : Name) (moved : Evaluation) (r : Request) (g : Going) (found : Given) (st : Stands old) (is : IsUnitOf old name moved) (going : IsGoingAt old name moved r g) (holds : HoldsLast name r old.aheads mid.aheads)
    (mid_is : mid ≡ record old { mails = mid.mails; board = mid.board; aheads = mid.aheads }) (there : unit_at mid.board name ≡ Some is.unit) (kept : SameClaims old.board mid.board) (found_is : found ≡ given.Held)
    (goes : IfSome (unit_at mid.board name) (λ x. GoesOn name x g mid.board new.board)) (new_is : new ≡ record mid { board = new.board }) where
  on-unit : GoesOn name is.unit g mid.board new.board
  on-unit = at-unit mid.board name (λ x. GoesOn name x g mid.board new.board) is.unit there goes

  going-unit : IsGoing name is.unit moved r g
  going-unit = subst (λ u. IsGoing name u moved r g) (some-same going.unit is.unit (sym going.there ∙ is.there)) going.going

  new-aheads : new.aheads ≡ mid.aheads
  new-aheads = ap (λ (s : Shared). s.aheads) new_is

  new-base : new ≡ record old { mails = mid.mails; board = new.board; aheads = new.aheads }
  new-base = new_is ∙ ap (λ (s : Shared). record s { board = new.board }) mid_is ∙ ap (λ a. record old { mails = mid.mails; board = new.board; aheads = a }) (sym new-aheads)

  pub holds-base : HoldsOn (record old { mails = mid.mails; board = mid.board }) name is.unit going.lead.lead r found new
  holds-base = holds-on (record old { mails = mid.mails; board = mid.board }) new name is.unit going.lead.lead moved r g found
      (st.machines name is.unit is.there) is.same is.of is.unfinished going-unit going.lead.definite_is going.lead.leads (subst (HoldsLast name r old.aheads) (sym new-aheads) holds) found_is on-unit new-base

  pub held-claims : ClaimsEnd (λ q. same_name q name) old new
  held-claims = claims-end name old new (ap (λ (s : Shared). s.end) new-base) (unlent-after name old.board mid.board new.board kept on-unit.unlent)

-- nothing was sent
pub held-came : (old mid new : Shared) (name : Name) (moved : Evaluation) (r : Request) (g : Going) (found : Given) → Stands old → IsUnitOf old name moved → IsGoingAt old name moved r g → HoldsLast name r old.aheads mid.aheads
    → mid ≡ record old { aheads = mid.aheads } → found ≡ given.Held → IfSome (unit_at mid.board name) (λ x. GoesOn name x g mid.board new.board) → new ≡ record mid { board = new.board }
    → Came old name (λ x lead found_so after. HoldsOn old name x lead r found_so after) new found
held-came old mid new name moved r g found st is going holds mid_is found_is goes new_is =
    came-so old new name (λ x lead found_so after. HoldsOn old name x lead r found_so after) found is.unit going.lead.lead is.there going.lead.leads
    (subst (λ (s : Shared). HoldsOn s name is.unit going.lead.lead r found new) level
    (holds-base old mid new name moved r g found st is going holds whole there kept found_is goes new_is))
    (held-claims old mid new name moved r g found st is going holds whole there kept found_is goes new_is)
  where
    mails : mid.mails ≡ old.mails
    mails = ap (λ (s : Shared). s.mails) mid_is

    board : mid.board ≡ old.board
    board = ap (λ (s : Shared). s.board) mid_is

    level : record old { mails = mid.mails; board = mid.board } ≡ old
    level = λ i. record old { mails = mails i; board = board i }

    whole : mid ≡ record old { mails = mid.mails; board = mid.board; aheads = mid.aheads }
    whole = mid_is ∙ ap (λ (s : Shared). record s { aheads = mid.aheads }) (sym level)

    there : unit_at mid.board name ≡ Some is.unit
    there = ap (λ b. unit_at b name) board ∙ is.there

    kept : SameClaims old.board mid.board
    kept = subst (λ b. SameClaims old.board b) (sym board) (same-claims old.board)
