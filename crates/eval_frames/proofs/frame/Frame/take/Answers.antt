use Rattle.std.proofs.Common.{◌≡◌, ◌∙◌, ◌<◌, ◌≤◌, List, length, set, sym, ap, subst, arith}
use Rattle.std.specs.Prelude.{unwrap_or}
use Rattle.std.proofs.lemmas.Option.{slice_get_past}
use Rattle.value_core.specs.declared.value.Value.{Value}
use Rattle.value_core.specs.declared.value.Value.TheVariants as value
use Rattle.serial_model.specs.Operation.{local_value}
use Rattle.eval_frames.specs.Known.{AreMarks}
use Rattle.eval_frames.specs.Agreeing.{AgreeBut}
use Rattle.eval_frames.proofs.Agreeing.{agree-same, agree-set, local-read}
use Rattle.eval_frames.proofs.Marks.{marks-nil}
use Rattle.eval_frames.proofs.frame.Frame.take.Goals as goal

pub invariant_of-self : goal.invariant_of-self
invariant_of-self c =
    subst (λ (w : Value). AreMarks c.self.inside.marks.items (set c.self.inside.values.items c.args.place w)) (sym c.replace-value.ensures.after)
    (marks-nil c.self.inside.marks.items c.self.inside.values.items c.args.place c.self.invariant)

pub returns-then-index-len-clause-value : goal.returns-then-index-len-clause-value
returns-then-index-len-clause-value c =
    let within : c.args.place < length c.self.inside.values.items = grind (arith, c.len.ensures, c.if-index-len.true) in
    let read : c.replace-value.result ≡ local_value c.self.inside.values.items c.args.place =
    c.replace-value.ensures.value ∙ local-read c.self.inside.values.items c.args.place c.index_mut.result.now within c.index_mut.ensures.value in
    c.new.ensures ∙ subst (λ (l : List Value). c.replace-value.result ≡ local_value l c.args.place) c.self.view_is read

pub returns-then-index-len-clause-others : goal.returns-then-index-len-clause-others
returns-then-index-len-clause-others c =
    subst (λ (f : List Value). AgreeBut c.args.place c.args.self.now (set f c.args.place c.replace-value.new.dest)) (sym c.self.view_is) (agree-set c.args.place c.args.self.now c.replace-value.new.dest)

pub returns-else-index-len-clause-value : goal.returns-else-index-len-clause-value
returns-else-index-len-clause-value c =
    let same = ap length c.self.view_is in
    let past : length c.args.self.now ≤ c.args.place = grind (arith, same, c.len.ensures, c.if-index-len.false) in
    c.unseen.ensures ∙ sym (ap (λ found. unwrap_or found value.Nil) (slice_get_past c.args.self.now c.args.place past))

pub returns-else-index-len-clause-others : goal.returns-else-index-len-clause-others
returns-else-index-len-clause-others c = agree-same c.args.place c.args.self.now
