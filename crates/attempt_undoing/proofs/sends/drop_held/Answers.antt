use Rattle.std.proofs.Common.{◌∙◌, List, ap, subst}
use Rattle.std.proofs.lemmas.List.{map-append}
use Rattle.std.specs.VecDeque.Iter.{deque_iter_rest}
use Rattle.attempt_undoing.proofs.Lists.{nothing-left}
use Rattle.attempt_undoing.proofs.SendsGone.{SendsLeft, no-sends, some-sent}
use Rattle.attempt_undoing.proofs.sends.drop_held.Goals as goal
use Rattle.attempt_undoing.specs.Hanging.{Sent, sent_on, sends_on}
use Rattle.attempt_undoing.specs.Sends.{SendsGone}
use Rattle.tentative_turn.specs.declared.held_effect.HeldEffect.{HeldEffect}
use Rattle.tentative_turn.specs.Sending.{held_receiver, held_receivers}
use Rattle.turns_ahead.proofs.Lines.{receivers-asked}
use Rattle.value_core.specs.Named.{Name}
use Rattle.world_steps.specs.declared.kept.Kept.{Kept}
use Rattle.world_steps.specs.Kept.{shared_of}

pub loop-effect-preserved : goal.loop-effect-preserved
loop-effect-preserved c =
    let on = c.args.name.now in
    let all = sends_on on (held_receivers c.args.turn.now.turn.effects) in
    let first = held_receiver c.in-Some.effect.now in
    let below = held_receivers (deque_iter_rest c.next.new.self) in
    let whole = ap (λ (es : List HeldEffect). sends_on on (held_receivers es)) c.in-Some.ensures.steps ∙ map-append (sent_on on) first below in
    record {
      left = some-sent (sends_on on first) (sends_on on below) (shared_of c.loop-effect.kept) (shared_of c.drop_to.new.kept) (subst (λ names. SendsGone (sends_on on names) (shared_of c.loop-effect.kept) (shared_of c.drop_to.new.kept)) c.receiver.ensures c.drop_to.ensures.gone) all
          (shared_of c.args.kept.now) (subst (λ (rest : List Sent). SendsLeft all rest (shared_of c.args.kept.now) (shared_of c.loop-effect.kept)) whole c.loop-effect.invariant.left);
      others = c.drop_to.ensures.others ∙ ap (λ (k : Kept). record k { units = c.drop_to.new.kept.units; mails = c.drop_to.new.kept.mails; taken = c.drop_to.new.kept.taken }) c.loop-effect.invariant.others;
    }

pub returns-clause-gone : goal.returns-clause-gone
returns-clause-gone c =
    let s = shared_of c.args.kept.now in
    let on = c.args.name.now in
    let all = sends_on on (held_receivers c.args.turn.now.turn.effects) in
    let none = nothing-left (deque_iter_rest c.loop-effect.effect-iterator) c.in-None.ensures.steps.0 in
    subst (λ (names : List Name). SendsGone (sends_on on names) s (shared_of c.loop-effect.kept)) (receivers-asked c.args.turn.now.turn.effects)
    (no-sends all s (shared_of c.loop-effect.kept) (subst (λ (es : List HeldEffect). SendsLeft all (sends_on on (held_receivers es)) s (shared_of c.loop-effect.kept)) none c.loop-effect.invariant.left))
