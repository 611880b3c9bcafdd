use Rattle.std.proofs.Common.{◌≡◌, ◌∙◌, false, subst, sym, true}
use Rattle.std.specs.Prelude.{Some, ◌↔◌}
use Rattle.run_end.proofs.Finished.{busy-not-over, over-set, rest-is-over}
use Rattle.run_end.proofs.over.end_by.Goals as goal
use Rattle.world_steps.specs.Kept.{shared_of}
use Rattle.run_end.specs.Over.{IsOverWith}

pub returns-in-Some : goal.returns-in-Some
returns-in-Some c = over-set (shared_of c.args.kept.now) c.requires.stands c.in-Some.end c.in-Some.is

pub returns-in-None : goal.returns-in-None
returns-in-None c = λ end.
    let s = shared_of c.args.kept.now in
    subst (λ done. IsOverWith s end ↔ (Some done ≡ Some end)) (sym c.requires.done) (rest-is-over s c.requires.stands c.in-None.is (c.is_at_rest.ensures.0 c.if-is_at_rest.true) end)

pub returns-in-None-2 : goal.returns-in-None-2
returns-in-None-2 c = busy-not-over (shared_of c.args.kept.now) c.requires.stands c.in-None.is (λ rest. let no : true ≡ false = sym (c.is_at_rest.ensures.1 rest) ∙ c.if-is_at_rest.false in cc)
