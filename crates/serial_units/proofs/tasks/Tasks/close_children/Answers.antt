use Rattle.std.proofs.Common.{◌≡◌, ◌∙◌, ◌-◌, ◌+◌, ◌<◌, ◌≤◌, ℕ, suc, zero, refl, sym, ap, subst, arith}
use Rattle.value_core.specs.Named.{made_by}
use Rattle.serial_model.specs.Task.{closes}
use Rattle.serial_model.specs.Standing.{here_of}
use Rattle.serial_units.specs.Tasks.{IsClosed}
use Rattle.serial_units.proofs.NewResults.{keeps_both}
use Rattle.serial_units.proofs.ChildJoins.{closing_more_by, closing_ends_by, closing_done}
use Rattle.serial_units.proofs.tasks.Tasks.close_children.Goals as goal

one_less : (number end : ℕ) → number < end → end - number ≡ suc (end - (number + 1))
one_less number end more = omega arith

one_more : (number : ℕ) → number + 1 ≡ suc number
one_more number = omega arith

all_left : (end : ℕ) → end - 0 ≡ end
all_left end = omega arith

none_left : (number end : ℕ) → end ≤ number → end - number ≡ zero
none_left number end all = omega arith

pub loop-number-init : goal.loop-number-init
loop-number-init c = record {
  below = refl;
  results = refl;
  made = record { name = refl; made = refl };
  number_end = c.made-number-end.ensures;
  closing = λ v answers known knows. record {
    here = here_of answers c.args.self.now.top.log known;
    at = record { log = refl; knows = knows };
    rest = ap (λ n. closes v 0 n (here_of answers c.args.self.now.top.log known)) (all_left c.made-number-end.result ∙ c.made-number-end.ensures);
  };
}

pub returns-in-Some-clause-closed : goal.returns-in-Some-clause-closed
returns-in-Some-clause-closed c = λ v answers known knows.
    let before = c.loop-number.invariant.closing v answers known knows in
    let new = c.close_child.new.self in
    let is = c.in_ok-end.ensures.closed before.here before.at in
    let ended = subst (IsClosed new.results.entries new.below.items new.top before.here (made_by c.loop-number.self.top.log.name c.loop-number.number)) c.in-Some.is is in
    let number = c.loop-number.number in
    let end = c.made-number-end.result in
    closing_ends_by c.loop-number.self.results.entries c.loop-number.self.below.items new.results.entries new.below.items
    (sym c.in_ok-end.ensures.results) (sym c.in_ok-end.ensures.below) c.loop-number.self.top new.top v number (end - number) (end - (number + 1)) _ before
    (one_less number end c.loop-number-test.true) c.in-Some.end ended

pub loop-number-preserved : goal.loop-number-preserved
loop-number-preserved c = record {
  below = c.in_ok-end.ensures.below ∙ c.loop-number.invariant.below;
  results = c.in_ok-end.ensures.results ∙ c.loop-number.invariant.results;
  made = keeps_both c.args.self.now.top.log c.loop-number.self.top.log c.close_child.new.self.top.log c.loop-number.invariant.made c.in_ok-end.ensures.made;
  number_end = c.loop-number.invariant.number_end;
  closing = λ v answers known knows.
      let before = c.loop-number.invariant.closing v answers known knows in
      let new = c.close_child.new.self in
      let is = c.in_ok-end.ensures.closed before.here before.at in
      let passed = subst (IsClosed new.results.entries new.below.items new.top before.here (made_by c.loop-number.self.top.log.name c.loop-number.number)) c.in-None.is is in
      let number = c.loop-number.number in
      let end = c.made-number-end.result in
      closing_more_by c.loop-number.self.results.entries c.loop-number.self.below.items new.results.entries new.below.items
      (sym c.in_ok-end.ensures.results) (sym c.in_ok-end.ensures.below) c.loop-number.self.top new.top v number (end - number) (number + 1) (end - (number + 1)) _ before
      (one_less number end c.loop-number-test.true) (one_more number) passed;
}

pub returns-clause-closed : goal.returns-clause-closed
returns-clause-closed c = λ v answers known knows.
    closing_done _ _ c.loop-number.self.top v c.loop-number.number _ _ (c.loop-number.invariant.closing v answers known knows) (none_left c.loop-number.number c.made-number-end.result c.loop-number-test.false)
