use Rattle.std.proofs.Common.{Some, sym, ap, ◌∙◌}
use Rattle.std.specs.Map.{update}
use Rattle.std.specs.Str.{bytes_eq}
use Rattle.scope_locals.specs.ByName.{at_name}
use Rattle.scope_locals.proofs.ByName.{changed_at}
use Rattle.scope_locals.proofs.locals.restore.Goals as goal

pub returns-in-Some-get_mut : goal.returns-in-Some-get_mut
returns-in-Some-get_mut c = λ other.
    changed_at c.args.name.now c.args.levels.now (c.get_mut.follows.lender c.in-Some.hidden) (Some c.in-Some.hidden) ((c.get_mut.follows.holds c.in-Some.hidden).3 c.requires) other
    ∙ ap (λ h. update bytes_eq (at_name c.args.levels.now) c.args.name.now h other) (sym c.in-Some.is)

pub returns-in-None : goal.returns-in-None
returns-in-None c = λ other.
    changed_at c.args.name.now c.args.levels.now c.remove.new.self _ c.remove.ensures.updates other
    ∙ ap (λ h. update bytes_eq (at_name c.args.levels.now) c.args.name.now h other) (sym c.in-None.is)
