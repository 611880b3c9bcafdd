use Rattle.std.proofs.Common.{◌≡◌, ◌≢◌, ◌∙◌, ◌-◌, ◌+◌, ◌<◌, ◌≤◌, ℕ, suc, refl, sym, subst, arith}
use Rattle.std.specs.Prelude.{◌||◌}
use Rattle.value_core.specs.Named.{Name, same_name}
use Rattle.serial_model.specs.Log.{with_made, new_log}
use Rattle.serial_model.specs.Task.{forks, turns as turns_of}
use Rattle.serial_units.specs.declared.task.Task.{Task}
use Rattle.serial_units.specs.declared.tasks.Reply.TheVariants as reply
use Rattle.serial_units.specs.declared.task.TaskEnd.TheVariants as end_of
use Rattle.value_core.specs.NameSet.{has_name}
use Rattle.serial_units.specs.Tasks.{around_of, view_of, with_top, IsReply, IsResult}
use Rattle.serial_model.specs.Standing.{call_below, here_of}
use Rattle.std.proofs.lemmas.Result.{IfOk-weaker}
use Rattle.serial_units.proofs.Forks.{forked, extends_both}
use Rattle.serial_units.proofs.NewResults.{adds_below, adds_both, fork_adds, next_free, still_free, still_unmade}
use Rattle.serial_units.proofs.TaskTurns.{same_both, begun_done, child_done, extends_by, turned, turned_on, turned_end, turning_spent}
use Rattle.serial_units.proofs.tasks.Tasks.+task.Goals as goal

some_level : (levels : ℕ) → levels ≢ 0 → suc (levels - 1) ≡ levels
some_level levels some = omega arith

pub fork-keep-requires : goal.fork-keep-requires
fork-keep-requires t c =
    let old = c.args.self.now in
    let mid = c.run.new.self in
    still_free old.results.entries mid.results.entries c.in_ok-future.future
    (next_free old.results.entries old.top.log c.in_ok-future.future c.requires.unmade c.in_ok-future.ensures)
    c.in_ok-done.ensures.below_name

pub fork-returns-clause-reply : goal.fork-returns-clause-reply
fork-returns-clause-reply t c = λ answers known knows.
    let around = around_of c.args.around.now in
    let old = c.args.self.now in
    let mid = c.run.new.self in
    let new = c.keep.new.self in
    let kept = c.in_ok-answer.ensures in
    let ran = c.in_ok-done.ensures in
    let done = c.in_ok-done.done in
    let result = ran.done known knows in
    let replied = forked around (c.args.levels - 1) old.results.entries mid.results.entries new.results.entries old.below.items old.top new.top c.in_ok-future.future done answers known
    c.args.body c.args.values c.in_ok-answer.answer knows ran.results kept.results kept.kept result
    (subst (λ (top : Task). (g : Name) → has_name new.top.known g ≡ (has_name top.known g || same_name g c.in_ok-future.future)) ran.top kept.known) (subst (λ (top : Task). new.top.log ≡ with_made top.log) ran.top kept.log) kept.answer c.in_ok-future.ensures in
    let level = subst (λ levels. IsReply new.results.entries old.below.items new.top answers (reply.Answer c.in_ok-answer.answer)
    (forks levels (call_below around levels) (view_of old.below.items) (here_of answers old.top.log known) c.args.body c.args.values)) (some_level c.args.levels c.if-levels-eq0.false) replied in
    subst (λ below. IsReply new.results.entries below new.top answers (reply.Answer c.in_ok-answer.answer)
    (forks c.args.levels (call_below around c.args.levels) (view_of old.below.items) (here_of answers old.top.log known) c.args.body c.args.values)) (sym (kept.below ∙ ran.below)) level

pub fork-returns-clause-made : goal.fork-returns-clause-made
fork-returns-clause-made t c =
    let old = c.args.self.now in
    let mid = c.run.new.self in
    let new = c.keep.new.self in
    fork_adds old.results.entries mid.results.entries new.results.entries old.top.log new.top.log c.in_ok-future.future c.in_ok-done.done c.in_ok-future.ensures
    c.in_ok-done.ensures.below_name c.in_ok-answer.ensures.put
    (subst (λ (top : Task). new.top.log ≡ with_made top.log) c.in_ok-done.ensures.top c.in_ok-answer.ensures.log)

pub run-returns-clause-done : goal.run-returns-clause-done
run-returns-clause-done t c =
    let old = c.args.self.now in
    IfOk-weaker c.run_above-done.result _ _ (λ done is known knows.
    begun_done (around_of c.args.around.now) c.args.levels c.args.name.now c.in_ok-machine.machine c.args.body c.args.values (view_of (with_top old.below.items old.top)) known
    c.run_above-done.new.self.results.entries (with_top old.below.items old.top) done.task done.end
    c.in_ok-machine.ensures.body c.in_ok-machine.ensures.values c.in_ok-machine.ensures.answers (is known knows)) c.run_above-done.ensures.done

pub run_above-returns-in-Ok-clause-results : goal.run_above-returns-in-Ok-clause-results
run_above-returns-in-Ok-clause-results t c =
    IfOk-weaker c.leave.result _ _ (λ done is.
    extends_by c.args.self.now.results.entries c.begin.new.self.results.entries c.turns.new.self.results.entries c.leave.new.self.results.entries
    c.in_ok-begin.ensures.results c.leave.ensures.results c.in-Ok.ensures.results) c.leave.ensures.done

pub run_above-returns-in-Ok-clause-below_name : goal.run_above-returns-in-Ok-clause-below_name
run_above-returns-in-Ok-clause-below_name t c =
    IfOk-weaker c.leave.result _ _ (λ done is.
    adds_below c.args.self.now.results.entries c.begin.new.self.results.entries c.turns.new.self.results.entries c.leave.new.self.results.entries c.begin.new.self.top.log c.turns.new.self.top.log c.args.name.now
    c.in_ok-begin.ensures.results c.leave.ensures.results c.in_ok-begin.ensures.log c.in-Ok.ensures.made) c.leave.ensures.done

pub run_above-returns-in-Ok-clause-done : goal.run_above-returns-in-Ok-clause-done
run_above-returns-in-Ok-clause-done t c =
    let old = c.args.self.now in
    let machine = c.args.machine.now in
    IfOk-weaker c.leave.result _ _ (λ done is known knows.
    child_done old.results.entries c.begin.new.self.results.entries c.turns.new.self.results.entries c.leave.new.self.results.entries
    old.below.items c.begin.new.self.below.items c.turns.new.self.below.items old.top c.begin.new.self.top c.turns.new.self.top (new_log c.args.name.now)
    (around_of c.args.around.now) c.args.levels (call_below (around_of c.args.around.now) c.args.levels) machine.body machine.values machine.answers c.in-Ok.end done
    c.in_ok-begin.ensures.results c.in_ok-begin.ensures.below c.in_ok-begin.ensures.log c.in_ok-begin.ensures.known c.leave.ensures.results c.in-Ok.ensures.below is.0 is.1
    c.in-Ok.ensures.ended known knows) c.leave.ensures.done

one_less : (counter end : ℕ) → counter < end → suc (end - counter) ≡ suc (suc (end - (counter + 1)))
one_less counter end more = omega arith

none_left : (counter end : ℕ) → counter ≤ end → end ≤ counter → suc (end - counter) ≡ suc 0
none_left counter end low high = omega arith

pub turns-returns-in-Some-clause-made : goal.turns-returns-in-Some-clause-made
turns-returns-in-Some-clause-made t c =
    adds_both c.args.self.now.results.entries c.loop.self.results.entries c.turn.new.self.results.entries c.args.self.now.top.log c.loop.self.top.log c.turn.new.self.top.log
    c.loop.invariant.made c.in_ok-end.ensures.made

pub turns-returns-in-Some-2-clause-made : goal.turns-returns-in-Some-2-clause-made
turns-returns-in-Some-2-clause-made t c =
    adds_both c.args.self.now.results.entries c.loop.self.results.entries c.turn-2.new.self.results.entries c.args.self.now.top.log c.loop.self.top.log c.turn-2.new.self.top.log
    c.loop.invariant.made c.in_ok-end-2.ensures.made

pub turns-returns-in-None-2-clause-made : goal.turns-returns-in-None-2-clause-made
turns-returns-in-None-2-clause-made t c =
    adds_both c.args.self.now.results.entries c.loop.self.results.entries c.turn-2.new.self.results.entries c.args.self.now.top.log c.loop.self.top.log c.turn-2.new.self.top.log
    c.loop.invariant.made c.in_ok-end-2.ensures.made

pub turns-returns-in-Some-clause-ended : goal.turns-returns-in-Some-clause-ended
turns-returns-in-Some-clause-ended t c = λ known knows.
    let around = around_of c.args.around.now in
    let old = c.loop.self in
    let new = c.turn.new.self in
    let counter = c.loop.counter in
    let end = c.args.around.now.fuel in
    turned_end around c.args.levels (call_below around c.args.levels) c.args.machine.now new.results.entries c.args.self.now.below.items new.below.items new.top c.turn.new.machine.answers (suc (end - (counter + 1))) _
    c.in_ok-end.field-0 c.in-Some.end
    (turned around c.args.levels (call_below around c.args.levels) c.args.machine.now c.loop.machine c.args.self.now.below.items old.below.items new.below.items old.results.entries new.results.entries old.top new.top c.turn.new.machine.answers
    (suc (end - counter)) (suc (end - (counter + 1))) _ c.in_ok-end.field-0 c.loop.invariant.below c.in_ok-end.ensures.below c.loop.invariant.same (c.loop.invariant.turning known knows)
    (one_less counter end c.loop-test.true) c.in_ok-end.ensures.moved)
    c.in-Some.is

pub turns-loop-preserved : goal.turns-loop-preserved
turns-loop-preserved t c = record {
  machine = c.in_ok-end.ensures.machine;
  same = same_both c.args.machine.now c.loop.machine c.turn.new.machine c.loop.invariant.same c.in_ok-end.ensures.same;
  below = c.in_ok-end.ensures.below ∙ c.loop.invariant.below;
  end = refl;
  results = extends_both c.args.self.now.results.entries c.loop.self.results.entries c.turn.new.self.results.entries c.loop.invariant.results c.in_ok-end.ensures.results;
  made = adds_both c.args.self.now.results.entries c.loop.self.results.entries c.turn.new.self.results.entries c.args.self.now.top.log c.loop.self.top.log c.turn.new.self.top.log
      c.loop.invariant.made c.in_ok-end.ensures.made;
  unmade = still_unmade c.loop.self.results.entries c.turn.new.self.results.entries c.loop.self.top.log c.turn.new.self.top.log c.loop.invariant.unmade c.in_ok-end.ensures.made;
  turning = λ known knows.
      let around = around_of c.args.around.now in
      let old = c.loop.self in
      let new = c.turn.new.self in
      let counter = c.loop.counter in
      let end = c.args.around.now.fuel in
      turned_on around c.args.levels (call_below around c.args.levels) c.args.machine.now new.results.entries c.args.self.now.below.items new.below.items new.top c.turn.new.machine.answers (suc (end - (counter + 1))) _
      c.in_ok-end.field-0
      (turned around c.args.levels (call_below around c.args.levels) c.args.machine.now c.loop.machine c.args.self.now.below.items old.below.items new.below.items old.results.entries new.results.entries old.top new.top c.turn.new.machine.answers
      (suc (end - counter)) (suc (end - (counter + 1))) _ c.in_ok-end.field-0 c.loop.invariant.below c.in_ok-end.ensures.below c.loop.invariant.same (c.loop.invariant.turning known knows)
      (one_less counter end c.loop-test.true) c.in_ok-end.ensures.moved)
      c.in-None.is;
}

pub turns-returns-in-Some-2-clause-ended : goal.turns-returns-in-Some-2-clause-ended
turns-returns-in-Some-2-clause-ended t c = λ known knows.
    let around = around_of c.args.around.now in
    let old = c.loop.self in
    let new = c.turn-2.new.self in
    let counter = c.loop.counter in
    let end = c.args.around.now.fuel in
    turned_end around c.args.levels (call_below around c.args.levels) c.args.machine.now new.results.entries c.args.self.now.below.items new.below.items new.top c.turn-2.new.machine.answers 0 _
    c.in_ok-end-2.field-0 c.in-Some-2.end
    (turned around c.args.levels (call_below around c.args.levels) c.args.machine.now c.loop.machine c.args.self.now.below.items old.below.items new.below.items old.results.entries new.results.entries old.top new.top c.turn-2.new.machine.answers
    (suc (end - counter)) 0 _ c.in_ok-end-2.field-0 c.loop.invariant.below c.in_ok-end-2.ensures.below c.loop.invariant.same (c.loop.invariant.turning known knows)
    (none_left counter end c.loop.auto.counter-end c.loop-test.false) c.in_ok-end-2.ensures.moved)
    c.in-Some-2.is

pub turns-returns-in-None-2-clause-ended : goal.turns-returns-in-None-2-clause-ended
turns-returns-in-None-2-clause-ended t c = λ known knows.
    let around = around_of c.args.around.now in
    let old = c.loop.self in
    let new = c.turn-2.new.self in
    let counter = c.loop.counter in
    let end = c.args.around.now.fuel in
    let on = turned_on around c.args.levels (call_below around c.args.levels) c.args.machine.now new.results.entries c.args.self.now.below.items new.below.items new.top c.turn-2.new.machine.answers 0 _
    c.in_ok-end-2.field-0
    (turned around c.args.levels (call_below around c.args.levels) c.args.machine.now c.loop.machine c.args.self.now.below.items old.below.items new.below.items old.results.entries new.results.entries old.top new.top c.turn-2.new.machine.answers
    (suc (end - counter)) 0 _ c.in_ok-end-2.field-0 c.loop.invariant.below c.in_ok-end-2.ensures.below c.loop.invariant.same (c.loop.invariant.turning known knows)
    (none_left counter end c.loop.auto.counter-end c.loop-test.false) c.in_ok-end-2.ensures.moved)
    c.in-None-2.is in
    subst (λ below. IsResult new.results.entries below new.top end_of.Spent (turns_of around c.args.levels (call_below around c.args.levels) c.args.machine.now.body c.args.machine.now.values (view_of c.args.self.now.below.items) (suc end)
    (here_of c.args.machine.now.answers c.args.self.now.top.log known))) (sym (c.in_ok-end-2.ensures.below ∙ c.loop.invariant.below))
    (turning_spent around c.args.levels (call_below around c.args.levels) c.args.machine.now.body c.args.machine.now.values new.results.entries c.args.self.now.below.items new.top c.turn-2.new.machine.answers 0 _ on refl)
