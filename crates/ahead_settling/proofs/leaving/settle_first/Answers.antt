use Rattle.std.proofs.Common.{◌≡◌, ◌∙◌, ap, subst, sym}
use Rattle.std.specs.Option.{option_copied_mut}
use Rattle.std.specs.Prelude.{IfSome, None, Some}
use Rattle.ahead_settling.proofs.Lefts.{settled-left}
use Rattle.ahead_settling.proofs.leaving.settle_first.Goals as goal
use Rattle.turns_ahead.specs.Leading.{IsLeftNext, ahead_of}
use Rattle.value_core.proofs.NamedViews.{view_none, view_written}
use Rattle.value_core.proofs.NameMaps.{found_named, none_named}

pub settle_by-requires : goal.settle_by-requires
settle_by-requires c =
    let there = found_named c.args.name.now c.args.aheads.now (option_copied_mut c.get_mut.result) _ c.get_mut.ensures.value (ap option_copied_mut c.in-Some.is) in
    subst (λ o. IfSome o (λ l. IsLeftNext l c.args.left)) there c.requires

pub returns-in-Some : goal.returns-in-Some
returns-in-Some c =
    let there = found_named c.args.name.now c.args.aheads.now (option_copied_mut c.get_mut.result) _ c.get_mut.ensures.value (ap option_copied_mut c.in-Some.is) in
    let new = c.get_mut.follows.lender c.settle_by.new.self in
    settled-left c.args.name.now c.args.aheads.now.entries new.entries c.in-Some.turn.now c.settle_by.new.self c.still_ahead.result there (view_written ahead_of c.args.name.now c.args.aheads.now new c.settle_by.new.self c.in-Some.turn.now (c.get_mut.follows.holds c.settle_by.new.self) there)
    c.settle_by.ensures.asked c.still_ahead.ensures.leads c.still_ahead.ensures.waits c.args.left (subst (λ o. IfSome o (λ l. IsLeftNext l c.args.left)) there c.requires) c.settle_by.ensures.settled

pub returns-in-None : goal.returns-in-None
returns-in-None c h r rest leading held =
    let none = none_named c.args.name.now c.args.aheads.now (option_copied_mut c.get_mut.result) c.get_mut.ensures.value (ap option_copied_mut c.in-None.is) in
    let no : None ≡ Some h = sym (view_none ahead_of c.args.name.now c.args.aheads.now.entries none) ∙ leading in cc
