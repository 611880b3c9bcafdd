use Rattle.std.proofs.Common.{◌≡◌, ◌∙◌, ap, false, subst, sym, true}
use Rattle.ahead_steps.proofs.Came.{came-weaker}
use Rattle.ahead_steps.proofs.Sent.{sends-kept}
use Rattle.ahead_steps.proofs.sending.send_ahead.Goals as goal
use Rattle.serial_model.specs.declared.request.Request.TheVariants as request
use Rattle.shared_world.specs.rows.Leading.{HoldsOn, SendsAhead}
use Rattle.world_steps.specs.Kept.{shared_of}

pub put_ahead-requires-clause-puts : goal.put_ahead-requires-clause-puts
put_ahead-requires-clause-puts c = λ h leads. (c.in_ok-puts_next.ensures h leads).0 c.if-branch.true

pub returns-else-branch : goal.returns-else-branch
returns-else-branch c =
    let old = shared_of c.args.kept.now in
    let name = c.args.name.now in
    came-weaker old (shared_of c.hold.new.kept) name (λ x lead found after. HoldsOn old name x lead (request.Send c.args.to c.args.args) found after) (λ x lead found after. SendsAhead old name x lead c.args.to c.args.args found after)
    (λ x h found there leads holds. sends-kept old (shared_of c.hold.new.kept) name x h c.args.to c.args.args found (λ can. let yes = (c.in_ok-puts_next.ensures h leads).1 can in let no : true ≡ false = sym yes ∙ c.if-branch.false in cc) holds)
    c.hold.result c.hold.ensures
