use Rattle.std.proofs.Common.{◌≡◌, ℕ, List, length, Some, sym, ap, ◌∙◌, subst, rules}
use Rattle.std.specs.Map.{update}
use Rattle.std.specs.Str.{bytes_eq}
use Rattle.scope_locals.specs.declared.locals.Local.{Local}
use Rattle.scope_locals.specs.ByName.{at_name}
use Rattle.scope_locals.specs.Levels.{AreLevels}
use Rattle.scope_locals.proofs.ByName.{changed_at}
use Rattle.scope_locals.proofs.Levels.{levels_pushed}
use Rattle.scope_locals.proofs.locals.Locals.bind.Goals as goal

pub invariant_of-self-in-Ok : goal.invariant_of-self-in-Ok
invariant_of-self-in-Ok c =
    let outer = c.self.inside.locals.items in
    let levels = c.self.inside.levels in
    let local : Local = record { name = c.args.name; hidden = c.copied-hidden.result } in
    let hides : c.copied-hidden.result ≡ at_name levels c.args.name = c.copied-hidden.ensures ∙ c.get.ensures.value ∙ ap (at_name levels) c.items-2.ensures in
    let key_is : c.in_ok-key.key.items ≡ c.args.name = c.in_ok-key.ensures.items ∙ c.items.ensures in
    let changed : (name : List ℕ) → at_name c.insert.new.self name ≡ update bytes_eq (at_name levels) c.args.name (Some (length outer)) name = λ name.
    changed_at c.in_ok-key.key.items levels c.insert.new.self (Some c.self.inside.count) c.in-Ok.ensures.updates name
    ∙ ap (λ bound. update bytes_eq (at_name levels) bound (Some c.self.inside.count) name) key_is
    ∙ ap (λ level. update bytes_eq (at_name levels) c.args.name (Some level) name) c.self.invariant.0 in
    (search rules, subst (λ (locals : List Local). AreLevels locals c.insert.new.self) (sym c.in_ok-push.ensures.items) (levels_pushed outer local levels c.insert.new.self c.self.invariant.1 hides changed))
