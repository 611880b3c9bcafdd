use Rattle.std.proofs.Common.{◌≡◌, ◌∙◌, Bool, List, length, refl, sym, ap, subst}
use Rattle.std.specs.Prelude.{Some}
use Rattle.std.specs.List.{slice_get}
use Rattle.std.proofs.lemmas.Bool.{ltb-true}
use Rattle.std.proofs.lemmas.Option.{slice_get_read}
use Rattle.value_core.specs.declared.value.Value.{Value}
use Rattle.value_ops.specs.Depths.{IsShallow}
use Rattle.serial_model.specs.Operation.{local_value}
use Rattle.eval_frames.proofs.Marks.{marks-at}
use Rattle.eval_frames.proofs.frame.Frame.is_shallow.Goals as goal

pub returns-in-Some : goal.returns-in-Some
returns-in-Some c = λ holds.
    let found : slice_get c.self.inside.marks.items c.args.place ≡ Some c.in-Some.mark.now =
    ap (λ (l : List Bool). slice_get l c.args.place) (sym c.as_slice.ensures) ∙
    slice_get_read c.as_slice.result.now (length c.as_slice.result.now) c.args.place c.in-Some.mark.now refl (ltb-true _ _ (sym c.in-Some.ensures.lookup.0)) c.in-Some.ensures.lookup.1 in
    subst (λ (l : List Value). IsShallow (local_value l c.args.place)) c.self.view_is
    (marks-at c.self.inside.marks.items c.self.inside.values.items c.args.place c.in-Some.mark.now c.self.invariant found holds)
