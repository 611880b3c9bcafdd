use Rattle.std.proofs.Common.{◌≡◌, ◌∙◌, ◌+◌, ◌<◌, ◌++◌, ◌∷◌, [], ℕ, List, arith, get_or, length, sym, ap, subst, take}
use Rattle.std.proofs.lemmas.List.{length-take-le, take_more}
use Rattle.serial_model.specs.State.{Setup}
use Rattle.schedule_drive.specs.UnderWay.{AreOf, IsDrivenSo, stage}
use Rattle.schedule_text.specs.declared.line.Line.{Line}
use Rattle.schedule_drive.proofs.SoFar.{comes_later, later_more, on_err, setup_later, so_far_more}
use Rattle.schedule_drive.proofs.driving.do_lines.Goals as goal

pub returns-in_err-told-clause-later : goal.returns-in_err-told-clause-later
returns-in_err-told-clause-later c =
    on_err c.from_residual.result
    (later_more _ c.args.world.now c.loop-line.world c.do_line.new.world c.loop-line.report c.loop-line.kept.entries c.loop-line.invariant.so_far c.in_err-told.ensures.later)

pub returns-in_err-push_report-clause-later : goal.returns-in_err-push_report-clause-later
returns-in_err-push_report-clause-later c =
    on_err c.from_residual-in_err-push_report.result
    (later_more _ c.args.world.now c.loop-line.world c.do_line.new.world c.loop-line.report c.loop-line.kept.entries c.loop-line.invariant.so_far
    (comes_later c.line-item.result (stage c.loop-line.world c.loop-line.kept.entries) c.in_ok-told.told (stage c.do_line.new.world c.do_line.new.kept.entries) c.in_ok-told.ensures.came))

pub loop-line-preserved : goal.loop-line-preserved
loop-line-preserved c =
    let so = c.loop-line.invariant in
    let came = c.in_ok-told.ensures.came in
    let index : ℕ = c.loop-line.line-index in
    let within : index < length c.args.lines.now = subst (λ (lines : List Line). index < length lines) c.items-line-items.ensures c.loop-line-test.true in
    let item : c.line-item.result ≡ get_or c.args.lines.now index c.line-item.result = subst (λ (lines : List Line). c.line-item.result ≡ get_or lines index c.line-item.result) c.items-line-items.ensures c.line-item.is in
    let taken : take (index + 1) c.args.lines.now ≡ take index c.args.lines.now ++ c.line-item.result ∷ [] =
    take_more c.args.lines.now index c.line-item.result within ∙ ap (λ l. take index c.args.lines.now ++ l ∷ []) (sym item) in
    let number : c.loop-line.number ≡ length (take index c.args.lines.now) + 1 = so.number ∙ ap (λ n. n + 1) (sym (length-take-le index c.args.lines.now (omega (arith, within)))) in
    let same : c.do_line.new.world.setup ≡ c.loop-line.world.setup =
    setup_later c.loop-line.world c.do_line.new.world
    (comes_later c.line-item.result (stage c.loop-line.world c.loop-line.kept.entries) c.in_ok-told.told (stage c.do_line.new.world c.do_line.new.kept.entries) came) in
    record {
      so_far = subst (λ text. IsDrivenSo (take (index + 1) c.args.lines.now) c.args.world.now text c.do_line.new.world c.do_line.new.kept.entries) (sym c.in_ok-push_report.ensures)
          (so_far_more (take index c.args.lines.now) (take (index + 1) c.args.lines.now) c.line-item.result c.args.world.now c.loop-line.world c.do_line.new.world c.loop-line.report c.loop-line.kept.entries c.do_line.new.kept.entries c.loop-line.number c.in_ok-told.told
          so.so_far number taken came);
      number = ap (λ n. n + 1) so.number;
      setup = same ∙ so.setup;
      of = subst (λ (setup : Setup). AreOf setup.program c.do_line.new.kept.entries) so.setup c.in_ok-told.ensures.of;
    }
