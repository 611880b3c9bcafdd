use Rattle.std.proofs.Common.{◌≡◌, ℕ, List, Some, None, IsSome, sym, ap, ◌∙◌, subst}
use Rattle.std.specs.Map.{update}
use Rattle.std.specs.Str.{bytes_eq}
use Rattle.scope_names.specs.declared.definition.Definition.{Definition}
use Rattle.scope_locals.specs.ByName.{at_name}
use Rattle.scope_names.specs.Names.{defined}
use Rattle.scope_locals.proofs.ByName.{changed_at}
use Rattle.scope_names.proofs.Defined.{defined_known, defined_fresh, no_entry}
use Rattle.scope_names.proofs.names.Names.add.Goals as goal

pub invariant_of-self-then-contains_key : goal.invariant_of-self-then-contains_key
invariant_of-self-then-contains_key c = λ name.
    let added : Definition = record { name = c.args.name; what = c.args.what } in
    let known : IsSome (at_name c.self.inside.first c.args.name) = subst (λ (n : List ℕ). IsSome (at_name c.self.inside.first n)) c.items.ensures (sym c.contains_key.ensures ∙ c.if-contains_key.true) in
    defined_known c.self.inside.definitions.items added c.self.inside.first c.self.invariant known name
    ∙ ap (λ ds. defined ds name) (sym c.in_ok-push.ensures.items)

pub invariant_of-self-in-Ok : goal.invariant_of-self-in-Ok
invariant_of-self-in-Ok c = λ name.
    let added : Definition = record { name = c.args.name; what = c.args.what } in
    let first = c.self.inside.first in
    let fresh : at_name first c.args.name ≡ None = ap (at_name first) (sym c.items.ensures) ∙ no_entry (at_name first c.items.result.now) (sym c.contains_key.ensures ∙ c.if-contains_key.false) in
    let key_is : c.in_ok-key.key.items ≡ c.args.name = c.in_ok-key.ensures.items ∙ c.items-2.ensures in
    let changed : (n : List ℕ) → at_name c.insert.new.self n ≡ update bytes_eq (at_name first) c.args.name (Some c.args.what) n = λ n.
    changed_at c.in_ok-key.key.items first c.insert.new.self (Some c.args.what) c.in-Ok.ensures.updates n
    ∙ ap (λ bound. update bytes_eq (at_name first) bound (Some c.args.what) n) key_is in
    defined_fresh c.self.inside.definitions.items added first c.insert.new.self c.self.invariant fresh changed name
    ∙ ap (λ ds. defined ds name) (sym c.in_ok-push-2.ensures.items)
