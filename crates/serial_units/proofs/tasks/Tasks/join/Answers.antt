use Rattle.std.proofs.Common.{◌∙◌, refl, sym, ap, subst, Some}
use Rattle.std.specs.Option.{option_copied}
use Rattle.serial_model.specs.Task.{result_of}
use Rattle.serial_units.specs.Tasks.{around_of, IsMet}
use Rattle.serial_model.specs.Standing.{here_of}
use Rattle.serial_units.proofs.Replies.{value_replied, end_replied, plain_replied, nothing_replied}
use Rattle.serial_units.proofs.tasks.Tasks.join.Goals as goal

pub returns-in-Value-clause-reply : goal.returns-in-Value-clause-reply
returns-in-Value-clause-reply c = λ answers known knows.
    value_replied _ _ _ (around_of c.args.around.now) answers c.args.self.now.top.log known c.args.future.now c.in-Value.value
    (subst (λ found. IsMet c.meet.new.self.results.entries c.meet.new.self.below.items c.meet.new.self.top (here_of answers c.args.self.now.top.log known) c.args.future.now found (result_of c.args.future.now known)) c.in-Value.is
    (c.in_ok-value.ensures.met (here_of answers c.args.self.now.top.log known) (record { log = refl; knows = knows })))

pub returns-in-Ended-clause-reply : goal.returns-in-Ended-clause-reply
returns-in-Ended-clause-reply c = λ answers known knows.
    end_replied _ _ _ (around_of c.args.around.now) answers c.args.self.now.top.log known c.args.future.now c.in-Ended.end
    (subst (λ found. IsMet c.meet.new.self.results.entries c.meet.new.self.below.items c.meet.new.self.top (here_of answers c.args.self.now.top.log known) c.args.future.now found (result_of c.args.future.now known)) c.in-Ended.is
    (c.in_ok-value.ensures.met (here_of answers c.args.self.now.top.log known) (record { log = refl; knows = knows })))

pub returns-in_ok-copy-in-Some-clause-reply : goal.returns-in_ok-copy-in-Some-clause-reply
returns-in_ok-copy-in-Some-clause-reply c = λ answers known knows.
    plain_replied _ _ _ (around_of c.args.around.now) answers c.args.self.now.top.log known c.args.future.now c.in_ok-copy-in-Some.field-0
    (sym c.finished.ensures ∙ ap option_copied c.in-Some.is ∙ ap Some (sym c.in_ok-copy-in-Some.ensures))
    (subst (λ found. IsMet c.meet.new.self.results.entries c.meet.new.self.below.items c.meet.new.self.top (here_of answers c.args.self.now.top.log known) c.args.future.now found (result_of c.args.future.now known)) c.in-Unknown.is
    (c.in_ok-value.ensures.met (here_of answers c.args.self.now.top.log known) (record { log = refl; knows = knows })))

pub returns-in-None-clause-reply : goal.returns-in-None-clause-reply
returns-in-None-clause-reply c = λ answers known knows.
    nothing_replied _ _ _ (around_of c.args.around.now) answers c.args.self.now.top.log known c.args.future.now
    (sym c.finished.ensures ∙ ap option_copied c.in-None.is)
    (subst (λ found. IsMet c.meet.new.self.results.entries c.meet.new.self.below.items c.meet.new.self.top (here_of answers c.args.self.now.top.log known) c.args.future.now found (result_of c.args.future.now known)) c.in-Unknown.is
    (c.in_ok-value.ensures.met (here_of answers c.args.self.now.top.log known) (record { log = refl; knows = knows })))
