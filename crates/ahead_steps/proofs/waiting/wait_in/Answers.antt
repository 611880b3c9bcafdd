use Rattle.std.proofs.Common.{◌≡◌, ◌∙◌, ap, sym}
use Rattle.std.specs.Option.{option_copied_mut}
use Rattle.std.specs.Prelude.{None, Some}
use Rattle.ahead_steps.proofs.Written.{now-waits}
use Rattle.ahead_steps.proofs.waiting.wait_in.Goals as goal
use Rattle.turns_ahead.specs.Leading.{ahead_of}
use Rattle.value_core.proofs.NameMaps.{found_named, none_named}
use Rattle.value_core.proofs.NamedViews.{view_none}

pub returns-in-Some : goal.returns-in-Some
returns-in-Some c =
    let name = c.args.name.now in
    let there = found_named name c.args.aheads.now (option_copied_mut c.get_mut.result) _ c.get_mut.ensures.value (ap option_copied_mut c.in-Some.is) in
    now-waits name c.args.aheads.now (c.get_mut.follows.lender c.wait.new.self) c.wait.new.self c.in-Some.turn.now (c.get_mut.follows.holds c.wait.new.self) there c.wait.ensures

pub returns-in_default : goal.returns-in_default
returns-in_default c = λ h so.
    let name = c.args.name.now in
    let none = none_named name c.args.aheads.now (option_copied_mut c.get_mut.result) c.get_mut.ensures.value (ap option_copied_mut c.in_default.is) in
    let no : None ≡ Some h = sym (view_none ahead_of name c.args.aheads.now.entries none) ∙ so in cc
