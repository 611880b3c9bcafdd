-- What a turn holds once its begin or its first request is settled: requests alone.
use Rattle.std.proofs.Common.{◌≡◌, ◌∷◌, [], Bor, List, ap, refl, subst, sym}
use Rattle.std.specs.List.{slice_get}
use Rattle.std.specs.Option.{IfSome, IsSome, is_some, option_copied}
use Rattle.std.specs.Prelude.{None, Option, Some, drop}
use Rattle.shared_world.specs.rows.Leading.{leads_on}
use Rattle.tentative_turn.specs.declared.held_effect.HeldEffect.{HeldEffect}
use Rattle.tentative_turn.specs.declared.held_effect.HeldEffect.TheVariants as held
use Rattle.turns_ahead.proofs.Lines.{settled-so}
use Rattle.turns_ahead.specs.declared.turn_ahead.Left.{Left}
use Rattle.turns_ahead.specs.Leading.{Leading, ahead_of, becomes_or, begins, first_asked, AreAsked, HasSettled, IsLeftNext, IsLine}

-- behind the begin there are requests alone
pub behind-begin : (effects : List HeldEffect) → IsLine effects → IsSome (begins effects) → AreAsked (drop 1 effects)
behind-begin [] line is = cc
behind-begin (held.Take entry ∷ effects) line is = line
behind-begin (held.Asked r answer ∷ effects) line is = cc

-- and behind the first request
behind-first : (effects : List HeldEffect) (r : _) (answer : _) (rest : List HeldEffect) → effects ≡ held.Asked r answer ∷ rest → IsLine effects → AreAsked (drop 1 effects)
behind-first effects r answer rest is line = subst (λ es. AreAsked (drop 1 es)) (sym is) (subst IsLine is line)

pub behind-request : (l : Leading) (left : Left) → IsLine l.turn.effects → IsLeftNext l left → AreAsked (drop 1 l.turn.effects)
behind-request l left line next = behind-first l.turn.effects next.r next.answer next.rest next.first line

-- the first request is settled
pub settled-by : (l : Leading) (left : Left) → IsLine l.turn.effects → IsLeftNext l left
    → IfSome (first_asked l.turn.effects) (λ r. HasSettled l r (record l { turn = record l.turn { effects = drop 1 l.turn.effects }; answers = left.answers; made = left.made; becomes = becomes_or left.becomes l.becomes }))
settled-by l left line next =
    subst (λ o. IfSome o (λ r. HasSettled l r (record l { turn = record l.turn { effects = drop 1 l.turn.effects }; answers = left.answers; made = left.made; becomes = becomes_or left.becomes l.becomes }))) (sym (ap first_asked next.first))
    (settled-so l left next.r next.answer line next (ap (λ (es : List HeldEffect). slice_get es 0) next.first))

-- what is borrowed is there
pub copied-there : {X : Type 0} (o : Option (Bor X)) → is_some o ≡ is_some (option_copied o)
copied-there None = refl
copied-there (Some x) = refl

-- who holds requests alone runs ahead where one is held
pub holds-so : (l : Leading) → AreAsked l.turn.effects → is_some (slice_get l.turn.effects 0) ≡ is_some (leads_on (ahead_of l))
holds-so l are = on l.turn.effects are
  where
    on : (es : List HeldEffect) → AreAsked es → is_some (slice_get es 0) ≡ is_some (leads_on (ahead_of (record l { turn = record l.turn { effects = es } })))
    on [] is = refl
    on (held.Take entry ∷ es) is = absurd is
    on (held.Asked r answer ∷ es) is = refl
