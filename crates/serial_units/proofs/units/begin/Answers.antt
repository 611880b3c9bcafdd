use Rattle.std.proofs.Common.{◌∙◌, sym, ap, subst}
use Rattle.std.specs.Prelude.{not, is_some}
use Rattle.value_core.specs.Named.{Name, named}
use Rattle.value_core.specs.NameSet.{holds_at, HasJust, IsWithout}
use Rattle.value_core.proofs.NamedLaws.{named-here}
use Rattle.value_core.proofs.NameMarks.{agree_put, just_back, just_with}
use Rattle.serial_units.specs.Units.{is_unfinished}
use Rattle.serial_units.proofs.units.begin.Goals as goal

pub returns-in-Ok-put-clause-marked : goal.returns-in-Ok-put-clause-marked
returns-in-Ok-put-clause-marked c =
    let old = c.args.all.now.entries in
    let new = c.put.new.map.entries in
    just_with is_unfinished c.args.name old new c.args.unfinished.now c.mark.new.names c.requires.marked
    c.in-Ok.ensures.added
    (agree_put c.args.name c.args.unit old new c.in-Ok-put.ensures.put)
    (ap (λ us. holds_at is_unfinished (named c.args.name us)) c.in-Ok-put.ensures.put ∙ ap (holds_at is_unfinished) (named-here c.args.name c.args.unit old) ∙ ap (λ v. not (is_some v)) c.requires.begins)

pub returns-clause-marked : goal.returns-clause-marked
returns-clause-marked c =
    let old = c.args.all.now.entries in
    subst (HasJust is_unfinished c.remove.new.names) (sym c.in-Err-put.ensures.same)
    (just_back is_unfinished c.args.name old c.args.unfinished.now c.mark.new.names c.remove.new.names c.requires.marked (ap (holds_at is_unfinished) c.in-Err-put.ensures.absent)
    c.in-Ok.ensures.added
    (subst (λ (n : Name). IsWithout n c.mark.new.names c.remove.new.names) c.in-Ok.ensures.copy c.remove.ensures))
