use Rattle.std.proofs.Common.{◌≡◌, [], ◌∷◌, ◌++◌, length, sym, subst, arith, rules}
use Rattle.std.proofs.lemmas.Grind.{common_steps}
use Rattle.value_ops.specs.Depths.{IsShallow}
use Rattle.eval_frames.specs.Known.{AreMarks}
use Rattle.eval_frames.proofs.Marks.{marks-grow, marks-pushed}
use Rattle.eval_frames.proofs.frame.Frame.push.Goals as goal

pub invariant_of-self-then-is_marked : goal.invariant_of-self-then-is_marked
invariant_of-self-then-is_marked c =
    let pushed : c.push.new.self.items ≡ c.self.inside.values.items ++ c.into_value.result ∷ [] = first_of (search rules, grind (arith, common_steps)) in
    let same : length c.self.inside.marks.items ≡ length c.self.inside.values.items = grind (arith, c.len.ensures.value, c.len-2.ensures, c.if-is_marked.true) in
    subst (AreMarks c.push-then-is_marked.new.self.items) (sym pushed)
    (marks-pushed c.push-then-is_marked.result c.self.inside.marks c.push-then-is_marked.new.self (λ s. s.items) c.self.inside.values.items c.is_shallow-is_shallow.result c.into_value.result
    c.push-then-is_marked.ensures.ok c.push-then-is_marked.ensures.err c.self.invariant same
    (λ holds. subst IsShallow (sym c.into_value.ensures) (c.is_shallow-is_shallow.ensures holds)))

pub invariant_of-self-else-is_marked : goal.invariant_of-self-else-is_marked
invariant_of-self-else-is_marked c =
    let pushed : c.push.new.self.items ≡ c.self.inside.values.items ++ c.into_value.result ∷ [] = first_of (search rules, grind (arith, common_steps)) in
    subst (AreMarks c.self.inside.marks.items) (sym pushed) (marks-grow c.self.inside.marks.items c.self.inside.values.items c.into_value.result c.self.invariant)
