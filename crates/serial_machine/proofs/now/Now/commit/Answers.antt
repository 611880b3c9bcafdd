use Rattle.std.proofs.Common.{◌∙◌, refl, ap}
use Rattle.std.proofs.lemmas.Result.{on_ok_weaker}
use Rattle.value_core.specs.declared.value.Value.{Value}
use Rattle.value_core.specs.Named.{Named, over}
use Rattle.serial_machine.proofs.UnitRequests.{refs_over, commits_done}
use Rattle.serial_machine.proofs.now.Now.commit.Goals as goal

pub returns : goal.returns
returns c = on_ok_weaker c.reply.result (λ replied. λ setup.
    commits_done setup c.args.name.now c.args.self.now (record c.args.self.now { refs = c.put_over.new.refs }) c.take_effects.new.self c.reply.new.self c.args.log c.in_ok-effects.effects.items c.in_ok-becomes.becomes c.args.value
    (refs_over setup c.args.self.now (record c.args.self.now { refs = c.put_over.new.refs }) c.args.log.writes refl
    (c.in_ok-put_over.ensures ∙ ap (λ (w : Named Value). over w c.args.self.now.refs.entries) c.writes.ensures))
    c.in_ok-becomes.ensures.taken c.in_ok-becomes.ensures.units (c.in_ok-effects.ensures ∙ c.effects.ensures) (replied setup)) c.reply.ensures
