use Rattle.std.proofs.Common.{◌≡◌, ◌∙◌, suc, refl, sym, ap}
use Rattle.std.proofs.lemmas.Result.{on_ok_weaker}
use Rattle.value_core.specs.Named.{named}
use Rattle.value_core.proofs.NamedLaws.{named-other}
use Rattle.serial_machine.specs.declared.now.Now.{Now}
use Rattle.serial_machine.proofs.States.{started}
use Rattle.serial_machine.proofs.now.Now.start.Goals as goal

pub returns-clause-comes : goal.returns-clause-comes
returns-clause-comes c = on_ok_weaker c.count.result (λ counted.
    let units_are : c.count.new.self.units ≡ c.begin.new.self = ap (λ (n : Now). n.units) counted in
    started (record { program = c.args.program.now; limits = c.args.limits }) c.args.name c.args.actor c.args.body c.args.values c.args.self.now (record c.args.self.now { made = suc c.args.self.now.made }) c.count.new.self
    c.in_ok-machine.machine refl (units_are ∙ c.in_ok-begin.ensures) (counted ∙ ap (λ us. record c.args.self.now { made = suc c.args.self.now.made; units = us }) (sym units_are))
    c.in_ok-machine.ensures.body c.in_ok-machine.ensures.values c.in_ok-machine.ensures.answers
    c.in_ok-machine.ensures.inside (c.in_ok-machine.ensures.fuel ∙ c.fuel.ensures) (c.in_ok-machine.ensures.stands c.args.program.now c.requires)) c.count.ensures.counted

pub returns-clause-kept : goal.returns-clause-kept
returns-clause-kept c = on_ok_weaker c.count.result (λ counted. λ other apart.
    ap (λ (n : Now). named other n.units) counted ∙ ap (named other) c.in_ok-begin.ensures ∙ named-other other c.args.name _ c.args.self.now.units apart) c.count.ensures.counted
