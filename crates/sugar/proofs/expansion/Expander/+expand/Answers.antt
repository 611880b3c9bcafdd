use Rattle.std.proofs.Common.{◌+◌, ◌-◌, List, [], ◌∷◌, ◌++◌, length, map, take, drop, ap, ◌∙◌}
use Rattle.sugar.specs.declared.core_form.Core.{Core}
use Rattle.sugar.specs.declared.core_form.CoreKind.TheVariants.{Fresh}
use Rattle.sugar.specs.Expansion.{meaning}
use Rattle.sugar.specs.Meaning.{core_at, cores}
use Rattle.sugar.specs.Sugar.{bindings, names}
use Rattle.sugar.proofs.Alters.{gives_alter, three_and_rest}
use Rattle.sugar.proofs.expansion.Expander.+expand.Goals as goal

pub alter-returns : goal.alter-returns
alter-returns t c =
    let at = c.args.at in
    let forms = c.args.forms.now in
    let arguments = map meaning (take (length forms - 3) (drop 3 forms)) in
    let bound_ref = core_at at (Fresh c.args.self.now.next) ∷ (meaning c.reference-item.result).core (c.args.self.now.next + 1) ∷ [] in
    let bound_more = cores (bindings at arguments) c.callee.new.self.next in
    let called_more = names at arguments c.callee.new.self.next in
    let written = three_and_rest forms c.reference-item.result c.function-item.result c.in-len3-up.len_at_least c.reference-item.is c.function-item.is in
    rw written.1 (gives_alter at (meaning written.0) (meaning c.reference-item.result) (meaning c.function-item.result) arguments c.args.self.now.next c.bind_all.new.self.next c.in_ok-name.name c.bind_all.new.bindings c.bind_all.new.call (record {
      behind_ref = c.bind.new.self.next;
      behind_function = c.callee.new.self.next;
      head = c.in_ok-head.head;
      name_is = c.in_ok-name.ensures.name;
      counts_ref = c.in_ok-name.ensures.next;
      gives = c.in_ok-head.ensures;
      bound_is = c.in_ok-bind_all.ensures.bindings ∙ ap (λ b. b ++ bound_more) (c.in_ok-name.ensures.bindings ∙ ap (λ (b : List Core). b ++ bound_ref) c.new-bindings.ensures);
      called_is = c.in_ok-bind_all.ensures.call ∙ ap (λ l. l ++ called_more) c.in_ok-call.ensures;
      counts = c.in_ok-bind_all.ensures.next;
    }) c.let_of.result c.let_of.ensures)
