use Rattle.std.proofs.Common.{Bool, List, take, sym, subst}
use Rattle.eval_frames.specs.Known.{AreMarks}
use Rattle.eval_frames.proofs.Marks.{marks-take}
use Rattle.eval_frames.proofs.frame.Frame.shrink.Goals as goal

pub invariant_of-self : goal.invariant_of-self
invariant_of-self c =
    let kept = c.saturating_sub-kept.result in
    subst (λ (marks : List Bool). AreMarks marks c.truncate-2.new.self.items) (sym c.truncate.ensures.items)
    (subst (AreMarks (take kept c.self.inside.marks.items)) (sym c.truncate-2.ensures.items)
    (marks-take kept c.self.inside.marks.items c.self.inside.values.items c.self.invariant))
