use Rattle.std.proofs.Common.{◌≡◌, ◌∙◌, ◌-◌, length, take, sym, ap, Some}
use Rattle.std.specs.Option.{option_copied, option_or}
use Rattle.value_core.specs.Named.{named}
use Rattle.serial_units.specs.Tasks.{view_of}
use Rattle.serial_units.proofs.Replies.{viewed_last, last_split}
use Rattle.serial_units.proofs.tasks.+viewed.Goals as goal

pub returns-in-Some : goal.returns-in-Some
returns-in-Some t c =
    let tasks = c.args.tasks.now in
    let rest = take (length tasks - 1) tasks in
    let found : named c.args.name.now c.last-item.result.log.writes ≡ Some c.in-Some.value.now = sym c.written.ensures.value ∙ ap option_copied c.in-Some.is in
    sym (viewed_last tasks rest c.last-item.result c.args.name.now (last_split tasks c.last-item.result c.in-len1-up.len_at_least c.last-item.is) c.written.ensures.rises
    ∙ ap (λ o. option_or o (named c.args.name.now (view_of rest))) found)

pub returns-in-None : goal.returns-in-None
returns-in-None t c =
    let tasks = c.args.tasks.now in
    let rest = take (length tasks - 1) tasks in
    let none : named c.args.name.now c.last-item.result.log.writes ≡ _ = sym c.written.ensures.value ∙ ap option_copied c.in-None.is in
    c.viewed.ensures ∙ sym (viewed_last tasks rest c.last-item.result c.args.name.now (last_split tasks c.last-item.result c.in-len1-up.len_at_least c.last-item.is) c.written.ensures.rises
    ∙ ap (λ o. option_or o (named c.args.name.now (view_of rest))) none)
