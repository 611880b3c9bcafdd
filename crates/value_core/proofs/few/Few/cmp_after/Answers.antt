use Rattle.std.proofs.Common.{◌∙◌, sym, ap}
use Rattle.std.specs.Ordering.{nat_cmp, ordering_then}
use Rattle.value_core.proofs.Names.{differing, tying}
use Rattle.value_core.proofs.Padding.{few_cmp}
use Rattle.value_core.proofs.few.Few.cmp_after.Goals as goal

-- where two places differ the answer is theirs
pub returns-then-is_ne : goal.returns-then-is_ne
returns-then-is_ne c =
    rw (← c.self.view_is, ← c.other.view_is)
    (sym (few_cmp c.self.inside.places c.other.inside.places c.self.inside.count c.other.inside.count c.self.told c.other.told c.self.invariant c.other.invariant
    ∙ ap (λ o. ordering_then o (nat_cmp c.other.inside.count c.self.inside.count)) (sym c.compare-found.ensures)
    ∙ differing c.compare-found.result (sym c.is_ne.ensures ∙ c.if-is_ne.true) (nat_cmp c.other.inside.count c.self.inside.count)))

-- where all places are the same the longer list is first
pub returns-else-is_ne : goal.returns-else-is_ne
returns-else-is_ne c =
    rw (← c.self.view_is, ← c.other.view_is)
    (c.cmp.ensures
    ∙ sym (few_cmp c.self.inside.places c.other.inside.places c.self.inside.count c.other.inside.count c.self.told c.other.told c.self.invariant c.other.invariant
    ∙ ap (λ o. ordering_then o (nat_cmp c.other.inside.count c.self.inside.count)) (sym c.compare-found.ensures)
    ∙ tying c.compare-found.result (sym c.is_ne.ensures ∙ c.if-is_ne.false) (nat_cmp c.other.inside.count c.self.inside.count)))
