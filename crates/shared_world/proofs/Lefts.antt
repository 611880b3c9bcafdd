-- Where the history left a turn that runs ahead, before and after the first request that it holds is settled.
use Rattle.std.proofs.Common.{◌≡◌, ◌∙◌, ◌≤◌, ◌+◌, ℕ, false, zero, suc, length, length-append, append-nil, append_assoc, List, [], ◌∷◌, ◌++◌, refl, sym, ap, ap₂, subst, arith}
use Rattle.std.specs.Option.{option_map}
use Rattle.std.specs.Prelude.{None, Option, Some, take}
use Rattle.core_syntax.specs.declared.node_id.NodeId.{NodeId}
use Rattle.serial_model.specs.Ahead.{answer_ahead}
use Rattle.serial_model.specs.declared.answer.Answer.{Answer}
use Rattle.serial_model.specs.declared.answer.Answer.TheVariants as answer
use Rattle.serial_model.specs.declared.request.Request.{Request}
use Rattle.serial_model.specs.declared.request.Request.TheVariants as request
use Rattle.serial_model.specs.State.{Becoming, Setup, UnitState}
use Rattle.serial_model.specs.Step.{answered, next_made, unit_after}
use Rattle.shared_world.specs.Ahead.{Ahead}
use Rattle.shared_world.specs.rows.Leading.{left_after}
use Rattle.shared_world.specs.Seen.{left_at}
use Rattle.shared_world.specs.Shared.{becoming_of}
use Rattle.value_core.specs.declared.value.Value.{Value}
use Rattle.value_core.specs.Named.{Name}
use Rattle.world_model.specs.Ahead.{RunsAhead, after_answer, ahead}

-- the first so many, and one more
pub take-one : {X : Type 0} (n : ℕ) (xs : List X) (x : X) (more : List X) → take n xs ++ x ∷ more ≡ xs → take (suc n) xs ≡ take n xs ++ x ∷ []
take-one zero [] x more is = cc
take-one zero (y ∷ ys) x more is = first is
  where
    first : x ∷ more ≡ y ∷ ys → y ∷ [] ≡ x ∷ []
    first e = let same : x ≡ y = cc in ap (λ z. z ∷ []) (sym same)
take-one (suc n) [] x more is = cc
take-one (suc n) (y ∷ ys) x more is = ap (λ zs. y ∷ zs) (take-one n ys x more (rest is))
  where
    rest : y ∷ (take n ys ++ x ∷ more) ≡ y ∷ ys → take n ys ++ x ∷ more ≡ ys
    rest e = cc

-- there are so many, and one more
pub take-within : {X : Type 0} (n : ℕ) (xs : List X) (x : X) (more : List X) → take n xs ++ x ∷ more ≡ xs → suc n ≤ length xs
take-within zero [] x more is = cc
take-within zero (y ∷ ys) x more is = omega arith
take-within (suc n) [] x more is = cc
take-within (suc n) (y ∷ ys) x more is = let rest = take-within n ys x more (tail is) in omega (arith, rest)
  where
    tail : y ∷ (take n ys ++ x ∷ more) ≡ y ∷ ys → take n ys ++ x ∷ more ≡ ys
    tail e = cc

-- those that are there first stay the first
pub take-front : {X : Type 0} (n : ℕ) (xs ys : List X) → n ≤ length xs → take n (xs ++ ys) ≡ take n xs
take-front zero xs ys within = refl
take-front (suc n) [] ys within = absurd (omega (arith, within))
take-front (suc n) (x ∷ xs) ys within = ap (λ zs. x ∷ zs) (take-front n xs ys (omega (arith, within)))

-- what runs ahead keeps its answers, and is given more behind them
record HasMore (from now : UnitState) : Type 0 where
  more : List Answer
  answers : now.answers ≡ from.answers ++ more

after-more : (u : Name) (unit : UnitState) (r : Request) (after : UnitState) → ahead u unit r ≡ Some after → (v : Value) × (after ≡ answered (unit_after unit r) v)
after-more u unit r after is = on (answer_ahead unit.actor (next_made u unit) r) is
  where
    on : (found : Option Answer) → after_answer (unit_after unit r) found ≡ Some after → (v : Value) × (after ≡ answered (unit_after unit r) v)
    on None e = cc
    on (Some (answer.Value v)) e = (v, same e)
      where
        same : Some (answered (unit_after unit r) v) ≡ Some after → after ≡ answered (unit_after unit r) v
        same e = cc
    on (Some (answer.Fault failed)) e = cc

-- a request is done without an answer more or less, and finishes no unit
same-course : (unit : UnitState) (r : Request) → ((unit_after unit r).answers ≡ unit.answers) × ((unit_after unit r).finished ≡ unit.finished)
same-course unit (request.Print text) = (refl, refl)
same-course unit (request.NewRef v) = (refl, refl)
same-course unit (request.Deref ref) = (refl, refl)
same-course unit (request.RefSet ref v) = (refl, refl)
same-course unit (request.Fork body values) = (refl, refl)
same-course unit (request.Join future) = (refl, refl)
same-course unit (request.Dosync body values) = (refl, refl)
same-course unit (request.Spawn behaviour state) = (refl, refl)
same-course unit (request.Send to args) = (refl, refl)
same-course unit (request.Become behaviour state) = (refl, refl)
same-course unit request.SelfActor = (refl, refl)

runs-more : (setup : Setup) (u : Name) (from now : UnitState) (held : List Request) → RunsAhead setup u from held now → HasMore from now
runs-more setup u from now [] same = record { more = []; answers = ap (λ (k : UnitState). k.answers) (sym same) ∙ sym (append-nil from.answers) }
runs-more setup u from now (r ∷ rs) runs =
    let given = after-more u from r runs.1 runs.2.gives in
    let rest = runs-more setup u runs.1 now rs runs.3 in
    record {
      more = answer.Value given.0 ∷ rest.more;
      answers =
          rest.answers
          ∙ ap (λ gs. gs ++ rest.more) (ap (λ (k : UnitState). k.answers) given.1 ∙ ap (λ gs. gs ++ answer.Value given.0 ∷ []) (same-course from r).0)
          ∙ append_assoc from.answers (answer.Value given.0 ∷ []) rest.more;
    }

-- with the answer of the request it is where the history leaves it
one-left : (h : Ahead) (unit : UnitState) (r : Request) (rest : List Request) (v : Value) → take (suc h.answers) unit.answers ≡ take h.answers unit.answers ++ answer.Value v ∷ []
    → left_at (left_after h r rest) unit ≡ answered (unit_after (left_at h unit) r) v
one-left h unit r rest v is = on r
  where
    with_these : List Answer → ℕ → Option Becoming → UnitState
    with_these gs made becomes = record unit { answers = gs; made = made; becomes = becomes; finished = None }

    on : (r : Request) → left_at (left_after h r rest) unit ≡ answered (unit_after (left_at h unit) r) v
    on (request.Print text) = ap₂ (λ gs m. with_these gs m (option_map becoming_of h.becomes)) is (let e : h.made + 0 ≡ h.made = omega arith in e)
    on (request.NewRef w) = ap₂ (λ gs m. with_these gs m (option_map becoming_of h.becomes)) is (let e : h.made + 1 ≡ suc h.made = omega arith in e)
    on (request.Deref ref) = ap₂ (λ gs m. with_these gs m (option_map becoming_of h.becomes)) is (let e : h.made + 0 ≡ h.made = omega arith in e)
    on (request.RefSet ref w) = ap₂ (λ gs m. with_these gs m (option_map becoming_of h.becomes)) is (let e : h.made + 0 ≡ h.made = omega arith in e)
    on (request.Fork body values) = ap₂ (λ gs m. with_these gs m (option_map becoming_of h.becomes)) is (let e : h.made + 1 ≡ suc h.made = omega arith in e)
    on (request.Join future) = ap₂ (λ gs m. with_these gs m (option_map becoming_of h.becomes)) is (let e : h.made + 0 ≡ h.made = omega arith in e)
    on (request.Dosync body values) = ap₂ (λ gs m. with_these gs m (option_map becoming_of h.becomes)) is (let e : h.made + 0 ≡ h.made = omega arith in e)
    on (request.Spawn behaviour state) = ap₂ (λ gs m. with_these gs m (option_map becoming_of h.becomes)) is (let e : h.made + 1 ≡ suc h.made = omega arith in e)
    on (request.Send to args) = ap₂ (λ gs m. with_these gs m (option_map becoming_of h.becomes)) is (let e : h.made + 0 ≡ h.made = omega arith in e)
    on (request.Become behaviour state) = ap₂ (λ gs m. with_these gs m (Some (record { behaviour = behaviour; state = state }))) is (let e : h.made + 0 ≡ h.made = omega arith in e)
    on request.SelfActor = ap₂ (λ gs m. with_these gs m (option_map becoming_of h.becomes)) is (let e : h.made + 0 ≡ h.made = omega arith in e)

-- the first request that is held, with its answer: where the history leaves the turn then, and what it holds from there
pub record IsFirstHeld (setup : Setup) (u : Name) (h : Ahead) (unit : UnitState) (r : Request) (rest : List Request) : Type 0 where
  pub gives : ahead u (left_at h unit) r ≡ Some (left_at (left_after h r rest) unit)
  pub runs : RunsAhead setup u (left_at (left_after h r rest) unit) rest unit
  pub within : suc h.answers ≤ length unit.answers

pub first-held : (setup : Setup) (u : Name) (h : Ahead) (unit : UnitState) (r : Request) (rest : List Request) → RunsAhead setup u (left_at h unit) (r ∷ rest) unit → IsFirstHeld setup u h unit r rest
first-held setup u h unit r rest runs =
    let given = after-more u (left_at h unit) r runs.1 runs.2.gives in
    let behind = runs-more setup u runs.1 unit rest runs.3 in
    let whole : take h.answers unit.answers ++ answer.Value given.0 ∷ behind.more ≡ unit.answers =
    sym (behind.answers
    ∙ ap (λ gs. gs ++ behind.more) (ap (λ (k : UnitState). k.answers) given.1 ∙ ap (λ gs. gs ++ answer.Value given.0 ∷ []) (same-course (left_at h unit) r).0)
    ∙ append_assoc (take h.answers unit.answers) (answer.Value given.0 ∷ []) behind.more) in
    let same = one-left h unit r rest given.0 (take-one h.answers unit.answers (answer.Value given.0) behind.more whole) in
    record {
      gives = runs.2.gives ∙ ap (λ k. Some k) (given.1 ∙ sym same);
      runs = subst (λ k. RunsAhead setup u k rest unit) (given.1 ∙ sym same) runs.3;
      within = take-within h.answers unit.answers (answer.Value given.0) behind.more whole;
    }

-- with an answer more the history left it where it did
pub left-still : (h : Ahead) (unit after : UnitState) (u : Name) (r : Request) (held : List Request) → h.answers ≤ length unit.answers → ahead u unit r ≡ Some after
    → left_at (record h { held = held; waits = false }) after ≡ left_at h unit
left-still h unit after u r held within gives =
    let given = after-more u unit r after gives in
    ap (left_at h) given.1
    ∙ ap (λ gs. record (left_at h (answered (unit_after unit r) given.0)) { answers = gs }) (ap (λ gs. take h.answers (gs ++ answer.Value given.0 ∷ [])) (same-course unit r).0 ∙ take-front h.answers unit.answers (answer.Value given.0 ∷ []) within)
    ∙ on r
  where
    on : (r : Request) → record (left_at h (unit_after unit r)) { answers = take h.answers unit.answers } ≡ left_at h unit
    on (request.Print text) = refl
    on (request.NewRef v) = refl
    on (request.Deref ref) = refl
    on (request.RefSet ref v) = refl
    on (request.Fork body values) = refl
    on (request.Join future) = refl
    on (request.Dosync body values) = refl
    on (request.Spawn behaviour state) = refl
    on (request.Send to args) = refl
    on (request.Become behaviour state) = refl
    on request.SelfActor = refl

-- it is finished as before, and has no fewer answers
pub after-finished : (u : Name) (unit : UnitState) (r : Request) (after : UnitState) → ahead u unit r ≡ Some after → after.finished ≡ unit.finished
after-finished u unit r after gives = let given = after-more u unit r after gives in ap (λ (k : UnitState). k.finished) given.1 ∙ (same-course unit r).1

pub after-longer : (u : Name) (unit : UnitState) (r : Request) (after : UnitState) (n : ℕ) → ahead u unit r ≡ Some after → n ≤ length unit.answers → n ≤ length after.answers
after-longer u unit r after n gives within =
    let given = after-more u unit r after gives in
    let whole = ap (λ (k : UnitState). length k.answers) given.1 ∙ ap (λ gs. length (gs ++ answer.Value given.0 ∷ [])) (same-course unit r).0 in
    let long = length-append unit.answers (answer.Value given.0 ∷ []) in
    omega (arith, whole, long, within)

-- a transaction is not held
pub no-dosync : (u : Name) (unit : UnitState) (r : Request) (after : UnitState) → ahead u unit r ≡ Some after → (body : NodeId) (values : List Value) → r ≡ request.Dosync body values → ⊥
no-dosync u unit r after gives body values is = let no : None ≡ Some after = sym (ap (ahead u unit) is) ∙ gives in absurd (cc)
