-- How many effects send something to an actor.
use Rattle.std.proofs.Common.{◌≡◌, ◌∙◌, ◌+◌, ℕ, Bool, true, false, cond, length, length-append, List, [], ◌∷◌, ◌++◌, append-nil, refl, sym, ap, arith}
use Rattle.std.specs.Prelude.{Some}
use Rattle.serial_model.specs.declared.effect.Effect.{Effect}
use Rattle.serial_model.specs.declared.effect.What.{What}
use Rattle.serial_model.specs.declared.effect.What.TheVariants as what
use Rattle.serial_model.specs.Sends.{effects_to, what_sends}
use Rattle.value_core.proofs.NamedLaws.{named-with_named, same_name-equal}
use Rattle.value_core.specs.declared.value.Value.{Value}
use Rattle.value_core.specs.Named.{Name, Named, named, same_name, with_named}
use Rattle.task_log.specs.Logged.{count_at, count_in, CountsSends, IsCounted}

-- what one effect more sends
one-more : (actor : Name) (effects : List Effect) (effect : Effect) → length (effects_to actor (effects ++ effect ∷ [])) ≡ length (effects_to actor effects) + length (what_sends actor effect.what)
one-more actor [] effect = let is : length (effects_to actor (effect ∷ [])) ≡ length (what_sends actor effect.what) = ap length (append-nil (what_sends actor effect.what)) in omega (arith, is)
one-more actor (e ∷ es) effect =
    let whole : length (effects_to actor (e ∷ es ++ effect ∷ [])) ≡ length (what_sends actor e.what) + length (effects_to actor (es ++ effect ∷ [])) = length-append (what_sends actor e.what) (effects_to actor (es ++ effect ∷ [])) in
    let first : length (effects_to actor (e ∷ es)) ≡ length (what_sends actor e.what) + length (effects_to actor es) = length-append (what_sends actor e.what) (effects_to actor es) in
    let rest = one-more actor es effect in omega (arith, whole, first, rest)

-- the counts of one effect more
pub more_counts : (old new : Named ℕ) (effects : List Effect) (effect : Effect) → CountsSends old effects → IsCounted effect.what old new → CountsSends new (effects ++ effect ∷ [])
more_counts old new effects effect has counted actor = counted actor ∙ ap (λ n. n + length (what_sends actor effect.what)) (has actor) ∙ sym (one-more actor effects effect)

-- nothing is counted where nothing was done
pub none_counted : CountsSends [] []
none_counted actor = refl

-- one send more to an actor is counted
pub send_counted : (old new : Named ℕ) (to : Name) (args : List Value) → new ≡ with_named old to (count_at to old + 1) → IsCounted (what.Send to args) old new
send_counted old new to args is actor = ap (count_at actor) is ∙ ap count_in (named-with_named actor to (count_at to old + 1) old) ∙ on (same_name actor to) refl
  where
    on : (c : Bool) → same_name actor to ≡ c → count_in (cond c (Some (count_at to old + 1)) (named actor old)) ≡ count_at actor old + length (cond c (args ∷ []) [])
    on true e = ap (λ n. count_at n old + 1) (sym (same_name-equal actor to e))
    on false e = let none : count_at actor old ≡ count_at actor old + 0 = omega arith in none

-- what sends nothing is not
pub nothing_counted : (old : Named ℕ) (w : What) → ((actor : Name) → what_sends actor w ≡ []) → IsCounted w old old
nothing_counted old w none actor = let is : length (what_sends actor w) ≡ 0 = ap length (none actor) in omega (arith, is)
