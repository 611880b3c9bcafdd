-- A run is over exactly where an end is set, or nothing is left to be done.
use Rattle.std.proofs.Common.{◌≡◌, ◌∙◌, Bool, true, false, refl, sym, ap, subst}
use Rattle.std.specs.Borrow.{Bor}
use Rattle.std.specs.Option.{is_some, option_copied}
use Rattle.std.specs.Prelude.{IsTrue, None, Option, Some, ◌↔◌}
use Rattle.run_end.specs.Over.{IsOverWith, IsRunOver}
use Rattle.serial_model.specs.declared.end.End.{End}
use Rattle.serial_model.specs.declared.end.End.TheVariants.{Done}
use Rattle.serial_model.specs.Replay as over
use Rattle.serial_model.specs.Replay.{IsOver}
use Rattle.serial_model.specs.State.{State}
use Rattle.shared_world.proofs.Over.{end-same, now, over-at-rest, replays-here, state-end}
use Rattle.shared_world.specs.Rest.{IsAtRest}
use Rattle.shared_world.specs.Shared.{Shared}
use Rattle.shared_world.specs.Stands.{Stands}
use Rattle.unit_table.specs.Board.{is_unfinished}
use Rattle.value_core.specs.Named.{Name}

-- the end of a state is one
one-end : (a b : End) → Some a ≡ Some b → a ≡ b
one-end a b e = cc

module _ (s : Shared) (st : Stands s) where
  of-now : (end : End) → IsOver s.setup (now s st) end → IsOverWith s end
  of-now end is = record { state = now s st; replays = replays-here s st; over = is }

  -- ---- an end that is set
  set-only : (set end : End) → s.end ≡ Some set → (state : State) → state.end ≡ s.end → IsOver s.setup state end → set ≡ end
  set-only set end is state same (over.set ends) = one-end set end (sym is ∙ sym same ∙ ends)
  set-only set end is state same (over.still going none) = let no : Some set ≡ None = sym is ∙ sym same ∙ going in cc

  pub over-set : (set : End) → s.end ≡ Some set → (end : End) → IsOverWith s end ↔ (Some set ≡ Some end)
  over-set set is end = (
    λ ended. ap Some (set-only set end is ended.state (state-end s st ended.state ended.replays) ended.over),
    λ same. subst (IsOverWith s) (one-end set end same) (of-now set (over.set (end-same s st ∙ is))),
  )

  -- ---- no end is set
  rests-so : (end : End) → s.end ≡ None → IsOverWith s end → IsAtRest s × (end ≡ Done)
  rests-so end going is = (over-at-rest s st is.state is.replays going end).0 is.over

  -- where it is over, nothing is left to be done
  pub over-rests : (end : End) → s.end ≡ None → IsOverWith s end → IsAtRest s
  over-rests end going is = (rests-so end going is).0

  -- where nothing is left to be done, it is over with Done
  pub rest-is-over : s.end ≡ None → IsAtRest s → (end : End) → IsOverWith s end ↔ (Some Done ≡ Some end)
  rest-is-over going rest end = (
    λ ended. ap Some (sym (rests-so end going ended).1),
    λ same. of-now end ((over-at-rest s st (now s st) (replays-here s st) going end).1 (rest, sym (one-end Done end same))),
  )

  -- where something is left, it is not
  pub busy-not-over : s.end ≡ None → (IsAtRest s → ⊥) → (end : End) → IsOverWith s end ↔ (None ≡ Some end)
  busy-not-over going busy end = (λ ended. absurd (busy (over-rests end going ended)), λ same. cc)

  pub open-not-over : (u : Name) → s.end ≡ None → is_unfinished s.board u ≡ true → (end : End) → IsOverWith s end ↔ (None ≡ Some end)
  open-not-over u going open_still = busy-not-over going (λ rest. let no : true ≡ false = sym open_still ∙ rest.units u in cc)

-- a run is over where an end is seen
pub over-where-seen : (s : Shared) (seen : Option (Bor End)) (b : Bool) → b ≡ is_some seen → ((end : End) → IsOverWith s end ↔ (option_copied seen ≡ Some end)) → IsTrue b ↔ IsRunOver s
over-where-seen s None b none is = (λ some. let both : true ≡ false = sym some ∙ none in cc, λ over. let no : None ≡ Some over.0 = (is over.0).0 over.1 in cc)
over-where-seen s (Some end) b some is = (λ seen. (end.now, (is end.now).1 refl), λ over. some)
