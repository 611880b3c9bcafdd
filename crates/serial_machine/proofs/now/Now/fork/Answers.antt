use Rattle.std.proofs.Common.{◌∙◌, suc, sym, None}
use Rattle.std.proofs.lemmas.Result.{on_ok_weaker}
use Rattle.value_core.specs.declared.value.Value.TheVariants as value
use Rattle.serial_model.specs.State.{new_unit}
use Rattle.serial_model.specs.Step as row
use Rattle.value_core.proofs.NamedLaws.{named-other}
use Rattle.serial_machine.proofs.UnitRequests.{makes, not_allowed, is_allowed}
use Rattle.serial_machine.proofs.now.Now.fork.Goals as goal

pub returns-then-are_units_spent : goal.returns-then-are_units_spent
returns-then-are_units_spent c =
    not_allowed (record { program = c.args.program.now; limits = c.args.limits }) c.args.name.now c.args.self.now c.end_with.new.self
    (λ unit s. row.gets (row.with_unit s (row.next_made c.args.name.now unit) (new_unit None c.args.body c.args.values)) c.args.name.now (row.with_made unit) (value.Future (row.next_made c.args.name.now unit)))
    (sym c.are_units_spent.ensures ∙ c.if-are_units_spent.true) (c.end_with.ensures _)

pub returns : goal.returns
returns c = on_ok_weaker c.reply.result (λ replied.
    is_allowed (record { program = c.args.program.now; limits = c.args.limits }) c.args.name.now c.args.self.now c.reply.new.self
    (λ unit s. row.gets (row.with_unit s (row.next_made c.args.name.now unit) (new_unit None c.args.body c.args.values)) c.args.name.now (row.with_made unit) (value.Future (row.next_made c.args.name.now unit)))
    (sym c.are_units_spent.ensures ∙ c.if-are_units_spent.false)
    (makes (record { program = c.args.program.now; limits = c.args.limits }) c.args.name.now c.args.self.now c.start.new.self c.reply.new.self
    (λ n s. row.with_unit (record s { made = suc s.made }) n (new_unit None c.args.body c.args.values)) (λ n. value.Future n) c.in_ok-copy.field-0 c.in_ok-made.made
    c.in_ok-start.ensures.comes (replied _) (λ n s apart. named-other c.args.name.now n (new_unit None c.args.body c.args.values) s.units apart) c.in_ok-copy.ensures c.in_ok-made.ensures.other c.in_ok-made.ensures.value)) c.reply.ensures
