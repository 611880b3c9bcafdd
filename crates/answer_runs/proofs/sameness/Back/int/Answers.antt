use Rattle.std.proofs.Common.{◌≡◌, ◌∙◌, sym, ap, rules}
use Rattle.std.specs.Prelude.{pos, ◌-ℤ◌, ◌*ℤ◌}
use Rattle.std.specs.Int.{w64, int_wrap}
use Rattle.std.proofs.lemmas.Int.{wraps, int_wrap-sub_right}
use Rattle.answer_runs.proofs.Earlier.{earlier_int-is}
use Rattle.answer_runs.proofs.sameness.Back.int.Goals as goal

pub returns : goal.returns
returns c =
    let number = c.args.number in
    let self = c.args.self in
    let taken : int_wrap w64 (number -ℤ c.distance.result) ≡ int_wrap w64 (number -ℤ pos self.steps *ℤ self.stride) =
    ap (λ d. int_wrap w64 (number -ℤ d)) c.distance.ensures ∙ int_wrap-sub_right w64 number (pos self.steps *ℤ self.stride) in
    let made = taken ∙ sym (earlier_int-is self.stride self.steps number c.ranges.number) in
    search (rules, wraps) ∙ made
