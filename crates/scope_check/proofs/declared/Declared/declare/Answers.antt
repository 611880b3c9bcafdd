use Rattle.std.proofs.Common.{◌≡◌, sym, ap, subst, inl, inr, OnOk}
use Rattle.scope_check.specs.Declaring.{declare_shape}
use Rattle.scope_names.specs.Shapes.{Shows, shape_of}
use Rattle.scope_names.proofs.Shown.{shown_function, shown_behaviour, shown_global, shown_value, shown_malformed}
use Rattle.scope_check.proofs.declared.Declared.declare.Goals as goal

pub returns-in-Function : goal.returns-in-Function
returns-in-Function c =
    let shape = shown_function (shape_of c.args.form.now) _ _ _ (subst (λ s. Shows (shape_of c.args.form.now) s) c.in-Function.is c.shape_of.ensures) in
    subst (λ s. OnOk c.function.result (c.function.new.self ≡ declare_shape s c.args.form.now.at c.args.self.now)) (sym shape) c.function.ensures

pub returns-in-Behaviour : goal.returns-in-Behaviour
returns-in-Behaviour c =
    let shape = shown_behaviour (shape_of c.args.form.now) _ _ (subst (λ s. Shows (shape_of c.args.form.now) s) c.in-Behaviour.is c.shape_of.ensures) in
    subst (λ s. OnOk c.behaviour.result (c.behaviour.new.self ≡ declare_shape s c.args.form.now.at c.args.self.now)) (sym shape) c.behaviour.ensures

pub returns-in-Global : goal.returns-in-Global
returns-in-Global c =
    let shape = shown_global (shape_of c.args.form.now) _ _ (subst (λ s. Shows (shape_of c.args.form.now) s) c.in-Global.is c.shape_of.ensures) in
    subst (λ s. OnOk c.global.result (c.global.new.self ≡ declare_shape s c.args.form.now.at c.args.self.now)) (sym shape) c.global.ensures

pub returns-in-Value : goal.returns-in-Value
returns-in-Value c = elim c.in-Value.is [
  | inl value ↦
      let shape = shown_value (shape_of c.args.form.now) (subst (λ s. Shows (shape_of c.args.form.now) s) value c.shape_of.ensures) in
      ap (λ s. declare_shape s c.args.form.now.at c.args.self.now) (sym shape)
  | inr malformed ↦
      let shape = shown_malformed (shape_of c.args.form.now) (subst (λ s. Shows (shape_of c.args.form.now) s) malformed c.shape_of.ensures) in
      ap (λ s. declare_shape s c.args.form.now.at c.args.self.now) (sym shape)
]
