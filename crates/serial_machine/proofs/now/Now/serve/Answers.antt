use Rattle.std.proofs.Common.{sym, subst, true, Bool}
use Rattle.std.proofs.lemmas.Result.{IfOk-weaker}
use Rattle.serial_model.specs.declared.request.Request.{Request}
use Rattle.serial_model.specs.Step as row
use Rattle.serial_machine.specs.Now.{Tries}
use Rattle.serial_machine.proofs.Transactions.{done_so}
use Rattle.serial_machine.proofs.now.Now.serve.Goals as goal

pub returns-in-Print : goal.returns-in-Print
returns-in-Print c = done_so c.done.result c.print.result _ (λ (done : Bool). Tries (record { program = c.args.program.now; limits = c.args.limits }) c.args.name.now c.args.self.now c.print.new.self done (λ s unit. row.does (record { program = c.args.program.now; limits = c.args.limits }) s c.args.name.now unit c.args.at c.args.request)) c.done.ensures.done c.done.ensures.did c.print.ensures (λ does.
    subst (λ (r : Request). Tries (record { program = c.args.program.now; limits = c.args.limits }) c.args.name.now c.args.self.now c.print.new.self true (λ s unit. row.does (record { program = c.args.program.now; limits = c.args.limits }) s c.args.name.now unit c.args.at r)) (sym c.in-Print.is) (does (record { program = c.args.program.now; limits = c.args.limits })))

pub returns-in-NewRef : goal.returns-in-NewRef
returns-in-NewRef c = done_so c.done-in-NewRef.result c.new_ref.result _ (λ (done : Bool). Tries (record { program = c.args.program.now; limits = c.args.limits }) c.args.name.now c.args.self.now c.new_ref.new.self done (λ s unit. row.does (record { program = c.args.program.now; limits = c.args.limits }) s c.args.name.now unit c.args.at c.args.request)) c.done-in-NewRef.ensures.done c.done-in-NewRef.ensures.did c.new_ref.ensures (λ does.
    subst (λ (r : Request). Tries (record { program = c.args.program.now; limits = c.args.limits }) c.args.name.now c.args.self.now c.new_ref.new.self true (λ s unit. row.does (record { program = c.args.program.now; limits = c.args.limits }) s c.args.name.now unit c.args.at r)) (sym c.in-NewRef.is) (does (record { program = c.args.program.now; limits = c.args.limits })))

pub returns-in-Deref : goal.returns-in-Deref
returns-in-Deref c = IfOk-weaker c.deref.result _ _ (λ done tries.
    subst (λ (r : Request). Tries (record { program = c.args.program.now; limits = c.args.limits }) c.args.name.now c.args.self.now c.deref.new.self done (λ s unit. row.does (record { program = c.args.program.now; limits = c.args.limits }) s c.args.name.now unit c.args.at r)) (sym c.in-Deref.is) (tries (record { program = c.args.program.now; limits = c.args.limits }))) c.deref.ensures

pub returns-in-RefSet : goal.returns-in-RefSet
returns-in-RefSet c = done_so c.done-in-RefSet.result c.fail.result _ (λ (done : Bool). Tries (record { program = c.args.program.now; limits = c.args.limits }) c.args.name.now c.args.self.now c.fail.new.self done (λ s unit. row.does (record { program = c.args.program.now; limits = c.args.limits }) s c.args.name.now unit c.args.at c.args.request)) c.done-in-RefSet.ensures.done c.done-in-RefSet.ensures.did c.fail.ensures (λ does.
    subst (λ (r : Request). Tries (record { program = c.args.program.now; limits = c.args.limits }) c.args.name.now c.args.self.now c.fail.new.self true (λ s unit. row.does (record { program = c.args.program.now; limits = c.args.limits }) s c.args.name.now unit c.args.at r)) (sym c.in-RefSet.is) (λ before s unit at there. does (record { program = c.args.program.now; limits = c.args.limits }) before s at))

pub returns-in-Join : goal.returns-in-Join
returns-in-Join c = IfOk-weaker c.join.result _ _ (λ done tries.
    subst (λ (r : Request). Tries (record { program = c.args.program.now; limits = c.args.limits }) c.args.name.now c.args.self.now c.join.new.self done (λ s unit. row.does (record { program = c.args.program.now; limits = c.args.limits }) s c.args.name.now unit c.args.at r)) (sym c.in-Join.is) (tries (record { program = c.args.program.now; limits = c.args.limits }))) c.join.ensures

pub returns-in-Spawn : goal.returns-in-Spawn
returns-in-Spawn c = done_so c.done-in-Spawn.result c.spawn.result _ (λ (done : Bool). Tries (record { program = c.args.program.now; limits = c.args.limits }) c.args.name.now c.args.self.now c.spawn.new.self done (λ s unit. row.does (record { program = c.args.program.now; limits = c.args.limits }) s c.args.name.now unit c.args.at c.args.request)) c.done-in-Spawn.ensures.done c.done-in-Spawn.ensures.did c.spawn.ensures (λ does.
    subst (λ (r : Request). Tries (record { program = c.args.program.now; limits = c.args.limits }) c.args.name.now c.args.self.now c.spawn.new.self true (λ s unit. row.does (record { program = c.args.program.now; limits = c.args.limits }) s c.args.name.now unit c.args.at r)) (sym c.in-Spawn.is) (does (record { program = c.args.program.now; limits = c.args.limits })))

pub returns-in-Send : goal.returns-in-Send
returns-in-Send c = done_so c.done-in-Send.result c.send.result _ (λ (done : Bool). Tries (record { program = c.args.program.now; limits = c.args.limits }) c.args.name.now c.args.self.now c.send.new.self done (λ s unit. row.does (record { program = c.args.program.now; limits = c.args.limits }) s c.args.name.now unit c.args.at c.args.request)) c.done-in-Send.ensures.done c.done-in-Send.ensures.did c.send.ensures (λ does.
    subst (λ (r : Request). Tries (record { program = c.args.program.now; limits = c.args.limits }) c.args.name.now c.args.self.now c.send.new.self true (λ s unit. row.does (record { program = c.args.program.now; limits = c.args.limits }) s c.args.name.now unit c.args.at r)) (sym c.in-Send.is) (does (record { program = c.args.program.now; limits = c.args.limits })))

pub returns-in-Become : goal.returns-in-Become
returns-in-Become c = done_so c.done-in-Become.result c.turn_into.result _ (λ (done : Bool). Tries (record { program = c.args.program.now; limits = c.args.limits }) c.args.name.now c.args.self.now c.turn_into.new.self done (λ s unit. row.does (record { program = c.args.program.now; limits = c.args.limits }) s c.args.name.now unit c.args.at c.args.request)) c.done-in-Become.ensures.done c.done-in-Become.ensures.did c.turn_into.ensures (λ does.
    subst (λ (r : Request). Tries (record { program = c.args.program.now; limits = c.args.limits }) c.args.name.now c.args.self.now c.turn_into.new.self true (λ s unit. row.does (record { program = c.args.program.now; limits = c.args.limits }) s c.args.name.now unit c.args.at r)) (sym c.in-Become.is) (does (record { program = c.args.program.now; limits = c.args.limits })))

pub returns-in-SelfActor : goal.returns-in-SelfActor
returns-in-SelfActor c = done_so c.done-in-SelfActor.result c.own_actor.result _ (λ (done : Bool). Tries (record { program = c.args.program.now; limits = c.args.limits }) c.args.name.now c.args.self.now c.own_actor.new.self done (λ s unit. row.does (record { program = c.args.program.now; limits = c.args.limits }) s c.args.name.now unit c.args.at c.args.request)) c.done-in-SelfActor.ensures.done c.done-in-SelfActor.ensures.did c.own_actor.ensures (λ does.
    subst (λ (r : Request). Tries (record { program = c.args.program.now; limits = c.args.limits }) c.args.name.now c.args.self.now c.own_actor.new.self true (λ s unit. row.does (record { program = c.args.program.now; limits = c.args.limits }) s c.args.name.now unit c.args.at r)) (sym c.in-SelfActor.is) (does (record { program = c.args.program.now; limits = c.args.limits })))

pub returns-in-Fork : goal.returns-in-Fork
returns-in-Fork c = done_so c.done-in-Fork.result c.fork.result _ (λ (done : Bool). Tries (record { program = c.args.program.now; limits = c.args.limits }) c.args.name.now c.args.self.now c.fork.new.self done (λ s unit. row.does (record { program = c.args.program.now; limits = c.args.limits }) s c.args.name.now unit c.args.at c.args.request)) c.done-in-Fork.ensures.done c.done-in-Fork.ensures.did c.fork.ensures (λ does.
    subst (λ (r : Request). Tries (record { program = c.args.program.now; limits = c.args.limits }) c.args.name.now c.args.self.now c.fork.new.self true (λ s unit. row.does (record { program = c.args.program.now; limits = c.args.limits }) s c.args.name.now unit c.args.at r)) (sym c.in-Fork.is) (does))

pub returns-in-Dosync : goal.returns-in-Dosync
returns-in-Dosync c = IfOk-weaker c.dosync.result _ _ (λ done tries.
    subst (λ (r : Request). Tries (record { program = c.args.program.now; limits = c.args.limits }) c.args.name.now c.args.self.now c.dosync.new.self done (λ s unit. row.does (record { program = c.args.program.now; limits = c.args.limits }) s c.args.name.now unit c.args.at r)) (sym c.in-Dosync.is) (tries)) c.dosync.ensures
