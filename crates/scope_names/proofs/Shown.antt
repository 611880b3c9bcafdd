-- The shape that a given one shows.
use Rattle.std.proofs.Common.{◌≡◌, ℕ, List, Bor, refl, sym, ap, ◌∙◌}
use Rattle.sugar.specs.declared.core_form.Core.{Core}
use Rattle.scope_names.specs.declared.shape.Reaction.{Reaction as ReactionHere}
use Rattle.scope_names.specs.declared.shape.Shape.TheVariants as here
use Rattle.scope_names.specs.Shapes.{Shape, Function, Behaviour, Global, Value, Malformed, Shows, reaction_now}

pub shown_function : (s : Shape) (n : Bor (List ℕ)) (p b : Bor (List Core)) → Shows s (here.Function n p b) → s ≡ Function n.now p.now b.now
shown_function (Function name parameters body) n p b shows = cc
shown_function (Behaviour name reaction) n p b shows = absurd shows
shown_function (Global name value) n p b shows = absurd shows
shown_function Value n p b shows = absurd shows
shown_function Malformed n p b shows = absurd shows

pub shown_behaviour : (s : Shape) (n : Bor (List ℕ)) (given : ReactionHere) → Shows s (here.Behaviour n given) → s ≡ Behaviour n.now (reaction_now given)
shown_behaviour (Function name parameters body) n given shows = absurd shows
shown_behaviour (Behaviour name reaction) n given shows =
    let first = ap (λ x. Behaviour x reaction) (sym shows.0) in
    let at = ap (λ x. Behaviour n.now (record { at = x; state = reaction.state; message = reaction.message; body = reaction.body })) (sym shows.1.at) in
    let state = ap (λ x. Behaviour n.now (record { at = given.at; state = x; message = reaction.message; body = reaction.body })) (sym shows.1.state) in
    let message = ap (λ x. Behaviour n.now (record { at = given.at; state = given.state.now; message = x; body = reaction.body })) (sym shows.1.message) in
    let inner = ap (λ x. Behaviour n.now (record { at = given.at; state = given.state.now; message = given.message.now; body = x })) (sym shows.1.body) in
    first ∙ at ∙ state ∙ message ∙ inner
shown_behaviour (Global name value) n given shows = absurd shows
shown_behaviour Value n given shows = absurd shows
shown_behaviour Malformed n given shows = absurd shows

pub shown_global : (s : Shape) (n : Bor (List ℕ)) (v : Bor Core) → Shows s (here.Global n v) → s ≡ Global n.now v.now
shown_global (Function name parameters body) n v shows = absurd shows
shown_global (Behaviour name reaction) n v shows = absurd shows
shown_global (Global name value) n v shows = cc
shown_global Value n v shows = absurd shows
shown_global Malformed n v shows = absurd shows

pub shown_value : (s : Shape) → Shows s here.Value → s ≡ Value
shown_value (Function name parameters body) shows = absurd shows
shown_value (Behaviour name reaction) shows = absurd shows
shown_value (Global name value) shows = absurd shows
shown_value Value shows = refl
shown_value Malformed shows = absurd shows

pub shown_malformed : (s : Shape) → Shows s here.Malformed → s ≡ Malformed
shown_malformed (Function name parameters body) shows = absurd shows
shown_malformed (Behaviour name reaction) shows = absurd shows
shown_malformed (Global name value) shows = absurd shows
shown_malformed Value shows = absurd shows
shown_malformed Malformed shows = refl
