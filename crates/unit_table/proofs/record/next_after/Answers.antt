use Rattle.std.proofs.Common.{◌≡◌, ◌∙◌, None, Some, cond, is_some, sym, ap, true}
use Rattle.std.specs.Option.{option_copied}
use Rattle.unit_table.specs.declared.record.Record.{Record}
use Rattle.unit_table.proofs.Nexts.{first_in, next_found, none_found}
use Rattle.value_core.proofs.NameMaps.{rises_of}
use Rattle.unit_table.proofs.record.next_after.Goals as goal

pub returns-then-is_some-clause-some : goal.returns-then-is_some-clause-some
returns-then-is_some-clause-some c =
    let stands : is_some c.in-Some.place.now.piece ≡ true = ap (λ (r : Record). is_some r.piece) (sym c.kept.ensures) ∙ sym c.is_some.ensures ∙ c.if-is_some.true in
    let found : Some c.in-Some.next.now ≡ first_in c.loop-next.next-iterator =
    sym (ap first_in c.in-Some.ensures.steps ∙ ap (λ t. cond t (Some c.in-Some.next.now) (first_in c.next.new.self)) stands) in
    next_found c.args.records.now.entries (option_copied c.args.name) (Some c.in-Some.next.now) (rises_of c.args.records.now.entries c.range-next-items.ensures.ordered) (found ∙ c.loop-next.invariant)

pub returns-clause-none : goal.returns-clause-none
returns-clause-none c = none_found c.args.records.now.entries (option_copied c.args.name) None (sym (ap first_in c.in-None.ensures.steps.0) ∙ c.loop-next.invariant)
