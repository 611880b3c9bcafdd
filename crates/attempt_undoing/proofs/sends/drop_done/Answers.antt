use Rattle.std.proofs.Common.{◌≡◌, ◌∙◌, List, ap, refl, reverse, subst, sym}
use Rattle.std.proofs.lemmas.List.{map-append, reverse-reverse}
use Rattle.std.specs.Option.{option_copied}
use Rattle.attempt_undoing.proofs.SendsGone.{SendsLeft, all-sends, no-sends, some-sent}
use Rattle.attempt_undoing.proofs.sends.drop_done.Goals as goal
use Rattle.attempt_undoing.specs.Hanging.{Sent, effect_receiver, effect_receivers, sent_on, sends_on}
use Rattle.attempt_undoing.specs.Sends.{SendsGone}
use Rattle.serial_model.specs.declared.effect.Effect.{Effect}
use Rattle.shared_chain.specs.Links.{from_link, link_items}
use Rattle.world_steps.specs.declared.kept.Kept.{Kept}
use Rattle.world_steps.specs.Kept.{shared_of}

pub loop-last-init : goal.loop-last-init
loop-last-init c =
    let s = shared_of c.args.kept.now in
    let all = sends_on c.args.on.now (effect_receivers (reverse c.args.effects.now)) in
    record {
      left = subst (λ (es : List Effect). SendsLeft all (sends_on c.args.on.now (effect_receivers es)) s s) (ap reverse (sym c.last-last.ensures) ∙ reverse-reverse (from_link (option_copied c.last-last.result))) (all-sends all s c.requires.marks);
      others = refl;
    }

pub loop-last-preserved : goal.loop-last-preserved
loop-last-preserved c =
    let on = c.args.on.now in
    let first = effect_receiver c.parts.result.0.now.what in
    let below = from_link (option_copied c.parts.result.1) in
    let at : from_link (option_copied c.loop-last.last) ≡ link_items c.in-Some.link.now = ap (λ o. from_link (option_copied o)) c.in-Some.is in
    let whole = ap (λ (es : List Effect). sends_on on (effect_receivers es)) (at ∙ c.parts.ensures) ∙ map-append (sent_on on) first (effect_receivers below) in
    record {
      left = some-sent (sends_on on first) (sends_on on (effect_receivers below)) (shared_of c.loop-last.kept) (shared_of c.drop_to.new.kept) (subst (λ names. SendsGone (sends_on on names) (shared_of c.loop-last.kept) (shared_of c.drop_to.new.kept)) c.receiver_of.ensures c.drop_to.ensures.gone)
          (sends_on on (effect_receivers (reverse c.args.effects.now))) (shared_of c.args.kept.now) (subst (λ (rest : List Sent). SendsLeft (sends_on on (effect_receivers (reverse c.args.effects.now))) rest (shared_of c.args.kept.now) (shared_of c.loop-last.kept)) whole c.loop-last.invariant.left);
      others = c.drop_to.ensures.others ∙ ap (λ (k : Kept). record k { units = c.drop_to.new.kept.units; mails = c.drop_to.new.kept.mails; taken = c.drop_to.new.kept.taken }) c.loop-last.invariant.others;
    }

-- none is left
pub returns-clause-gone : goal.returns-clause-gone
returns-clause-gone c =
    let s = shared_of c.args.kept.now in
    let all = sends_on c.args.on.now (effect_receivers (reverse c.args.effects.now)) in
    no-sends all s (shared_of c.loop-last.kept) (subst (λ o. SendsLeft all (sends_on c.args.on.now (effect_receivers (from_link (option_copied o)))) s (shared_of c.loop-last.kept)) c.in_default.is c.loop-last.invariant.left)
