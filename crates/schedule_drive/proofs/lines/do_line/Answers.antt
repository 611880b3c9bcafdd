use Rattle.std.proofs.Common.{sym, subst}
use Rattle.std.specs.Prelude.{IfOk}
use Rattle.std.proofs.lemmas.Result.{IfOk-weaker}
use Rattle.schedule_drive.specs.Drive.{Comes}
use Rattle.schedule_drive.specs.UnderWay.{ComesAlone, stage}
use Rattle.schedule_text.specs.declared.line.Line.TheVariants as line
use Rattle.schedule_drive.proofs.lines.do_line.Goals as goal

pub returns-in-Go-clause-came : goal.returns-in-Go-clause-came
returns-in-Go-clause-came c =
    subst (λ l. IfOk c.go.result (λ said. Comes l (stage c.args.world.now c.args.kept.now.entries) said (stage c.go.new.world c.args.kept.now.entries))) (sym c.in-Go.is)
    (IfOk-weaker c.go.result (λ said. ComesAlone (line.Go c.in-Go.name) c.args.world.now said c.go.new.world)
    (λ said. Comes (line.Go c.in-Go.name) (stage c.args.world.now c.args.kept.now.entries) said (stage c.go.new.world c.args.kept.now.entries))
    (λ said came. came c.args.kept.now.entries) c.go.ensures.came)

pub returns-in-Turn-clause-came : goal.returns-in-Turn-clause-came
returns-in-Turn-clause-came c =
    subst (λ l. IfOk c.turn.result (λ said. Comes l (stage c.args.world.now c.args.kept.now.entries) said (stage c.turn.new.world c.args.kept.now.entries))) (sym c.in-Turn.is)
    (IfOk-weaker c.turn.result (λ said. ComesAlone (line.Turn c.in-Turn.name) c.args.world.now said c.turn.new.world)
    (λ said. Comes (line.Turn c.in-Turn.name) (stage c.args.world.now c.args.kept.now.entries) said (stage c.turn.new.world c.args.kept.now.entries))
    (λ said came. came c.args.kept.now.entries) c.turn.ensures.came)
