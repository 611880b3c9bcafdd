use Rattle.std.proofs.Common.{sym, subst, IfOk}
use Rattle.scope_check.specs.Moves.{GivesTop}
use Rattle.scope_names.specs.Shapes.{Shows, shape_of}
use Rattle.scope_check.specs.Tops.{shaped_top}
use Rattle.scope_names.proofs.Shown.{shown_function, shown_behaviour, shown_global, shown_malformed}
use Rattle.scope_check.proofs.resolver.Resolver.top.Goals as goal

pub returns-in-Function : goal.returns-in-Function
returns-in-Function c =
    let shape = shown_function (shape_of c.args.form.now) _ _ _ (subst (λ s. Shows (shape_of c.args.form.now) s) c.in-Function.is c.shape_of.ensures) in
    subst (λ s. IfOk c.function_top.result (GivesTop c.args.self.now c.function_top.new.self (shaped_top s c.args.form.now c.args.number c.args.self.now.definitions c.args.self.now.loops))) (sym shape) c.function_top.ensures

pub returns-in-Behaviour : goal.returns-in-Behaviour
returns-in-Behaviour c =
    let shape = shown_behaviour (shape_of c.args.form.now) _ _ (subst (λ s. Shows (shape_of c.args.form.now) s) c.in-Behaviour.is c.shape_of.ensures) in
    subst (λ s. IfOk c.behaviour_top.result (GivesTop c.args.self.now c.behaviour_top.new.self (shaped_top s c.args.form.now c.args.number c.args.self.now.definitions c.args.self.now.loops))) (sym shape) c.behaviour_top.ensures

pub returns-in-Global : goal.returns-in-Global
returns-in-Global c =
    let shape = shown_global (shape_of c.args.form.now) _ _ (subst (λ s. Shows (shape_of c.args.form.now) s) c.in-Global.is c.shape_of.ensures) in
    subst (λ s. IfOk c.global_top.result (GivesTop c.args.self.now c.global_top.new.self (shaped_top s c.args.form.now c.args.number c.args.self.now.definitions c.args.self.now.loops))) (sym shape) c.global_top.ensures

pub returns-in-Malformed : goal.returns-in-Malformed
returns-in-Malformed c =
    let shape = shown_malformed (shape_of c.args.form.now) (subst (λ s. Shows (shape_of c.args.form.now) s) c.in-Malformed.is c.shape_of.ensures) in
    subst (λ s. IfOk c.malformed_top.result (GivesTop c.args.self.now c.malformed_top.new.self (shaped_top s c.args.form.now c.args.number c.args.self.now.definitions c.args.self.now.loops))) (sym shape) c.malformed_top.ensures
