use Rattle.std.proofs.Common.{◌≡◌, ◌∙◌, ap, subst, sym}
use Rattle.std.specs.Option.{IsSome, option_copied_mut}
use Rattle.std.specs.Prelude.{IfSome, None, Some}
use Rattle.ahead_settling.proofs.Lefts.{begun-left}
use Rattle.ahead_settling.proofs.leaving.settle_take.Goals as goal
use Rattle.turns_ahead.specs.Leading.{ahead_of}
use Rattle.value_core.proofs.NamedViews.{view_found, view_none, view_written}
use Rattle.value_core.proofs.NameMaps.{found_named, none_named}

pub settle_begin-requires : goal.settle_begin-requires
settle_begin-requires c =
    let there = found_named c.args.name.now c.args.aheads.now (option_copied_mut c.get_mut.result) _ c.get_mut.ensures.value (ap option_copied_mut c.in-Some.is) in
    subst (λ o. IfSome o (λ h. IsSome h.takes)) (view_found ahead_of c.args.name.now c.args.aheads.now.entries c.in-Some.turn.now there) c.requires

pub returns-in-Some : goal.returns-in-Some
returns-in-Some c =
    let there = found_named c.args.name.now c.args.aheads.now (option_copied_mut c.get_mut.result) _ c.get_mut.ensures.value (ap option_copied_mut c.in-Some.is) in
    let new = c.get_mut.follows.lender c.settle_begin.new.self in
    begun-left c.args.name.now c.args.aheads.now.entries new.entries c.in-Some.turn.now c.settle_begin.new.self c.still_ahead.result there (view_written ahead_of c.args.name.now c.args.aheads.now new c.settle_begin.new.self c.in-Some.turn.now (c.get_mut.follows.holds c.settle_begin.new.self) there)
    c.settle_begin.ensures.asked c.still_ahead.ensures.leads c.still_ahead.ensures.waits c.settle_begin.ensures.left

pub returns-in-None : goal.returns-in-None
returns-in-None c h leading =
    let none = none_named c.args.name.now c.args.aheads.now (option_copied_mut c.get_mut.result) c.get_mut.ensures.value (ap option_copied_mut c.in-None.is) in
    let no : None ≡ Some h = sym (view_none ahead_of c.args.name.now c.args.aheads.now.entries none) ∙ leading in cc
