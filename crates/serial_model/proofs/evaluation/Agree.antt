-- Two evaluations that come to the same, and whose requests hand on frames of the sizes that their bodies have.
use Rattle.std.proofs.Common.{◌≡◌, ◌∙◌, ℕ, zero, suc, Bool, true, false, List, [], ◌∷◌, ◌++◌, length, map, refl, sym, ap, subst, length-append, arith}
use Rattle.std.specs.Prelude.{Option, None, Some, IsSomeAnd, All, if◌then◌else◌}
use Rattle.std.specs.List.{slice_get}
use Rattle.std.proofs.lemmas.List.Elements.{All-head, All-tail}
use Rattle.std.proofs.lemmas.Option.{none-some, same_Some}
use Rattle.value_core.specs.Place.{Spot}
use Rattle.value_core.specs.declared.value.Value.{Value}
use Rattle.value_core.specs.declared.value.Value.TheVariants as value
use Rattle.core_syntax.specs.declared.function.Function.{Function}
use Rattle.core_syntax.specs.declared.node_id.NodeId.{NodeId}
use Rattle.core_syntax.specs.declared.step.Step.{Step}
use Rattle.core_syntax.specs.Fits.{HaveSizes, growing, step_sizes}
use Rattle.core_syntax.specs.Table.{Table}
use Rattle.serial_model.specs.declared.answer.Answer.{Answer}
use Rattle.serial_model.specs.declared.answer.Answer.TheVariants as answer
use Rattle.serial_model.specs.declared.halt.Halt.{Halt}
use Rattle.serial_model.specs.declared.halt.Halt.TheVariants as halt
use Rattle.serial_model.specs.declared.request.Request.{Request}
use Rattle.serial_model.specs.declared.request.Request.TheVariants as request
use Rattle.serial_model.specs.Eval.{Out, Got, Stop, Next, Evals, then_go, ask, each, in_turn, bind, choose, call, come, run_steps}
use Rattle.serial_model.specs.Operation.{Action, Gives, Faults, Asks, Calls}

-- a task or a transaction that is asked for has a frame of the size of its body
abbrev pub AskFits : List ℕ → Request → Type 0
AskFits sizes (request.Fork body frame) = slice_get sizes body.index ≡ Some (length frame)
AskFits sizes (request.Dosync body frame) = slice_get sizes body.index ≡ Some (length frame)
AskFits sizes _ = Unit {0}

abbrev pub HaltFits : List ℕ → Halt → Type 0
HaltFits sizes (halt.Ask asked at) = AskFits sizes asked
HaltFits sizes _ = Unit {0}

abbrev pub OutFits : List ℕ → Out → Type 0
OutFits sizes (Got v fuel answers) = Unit {0}
OutFits sizes (Stop halt) = HaltFits sizes halt

-- both come to the same, which fits
pub record Agree (sizes : List ℕ) (a b : Out) : Type 0 where
  pub same : a ≡ b
  pub fits : OutFits sizes b

-- two ways to evaluate nodes agree on each node in a frame of its size
abbrev pub EvalsAgree : List ℕ → Evals → Evals → Type 0
EvalsAgree sizes ev fv = (frame : List Value) (id : NodeId) (fuel : ℕ) (answers : List Answer)
    → slice_get sizes id.index ≡ Some (length frame) → Agree sizes (ev frame id fuel answers) (fv frame id fuel answers)

-- each node has the same size
abbrev pub all_of_size : ℕ → List NodeId → List ℕ
all_of_size size ids = map (λ id. size) ids

pub got_agrees : (sizes : List ℕ) (v : Value) (fuel : ℕ) (answers : List Answer) → Agree sizes (Got v fuel answers) (Got v fuel answers)
got_agrees sizes v fuel answers = record { same = refl; fits = tt }

pub stop_agrees : (sizes : List ℕ) (halt : Halt) → HaltFits sizes halt → Agree sizes (Stop halt) (Stop halt)
stop_agrees sizes halt fits = record { same = refl; fits = fits }

pub then_agrees : (sizes : List ℕ) (a b : Out) (k l : Next) → Agree sizes a b
    → ((v : Value) (fuel : ℕ) (answers : List Answer) → Agree sizes (k v fuel answers) (l v fuel answers)) → Agree sizes (then_go a k) (then_go b l)
then_agrees sizes a b k l first rest = subst (λ o. Agree sizes (then_go o k) (then_go b l)) (sym first.same) (on b first.fits)
  where
    on : (o : Out) → OutFits sizes o → Agree sizes (then_go o k) (then_go o l)
    on (Got v fuel answers) fits = rest v fuel answers
    on (Stop halt) fits = record { same = refl; fits = fits }

pub ask_agrees : (sizes : List ℕ) (asked : Request) (at : Spot) (fuel : ℕ) (answers : List Answer) → AskFits sizes asked
    → Agree sizes (ask asked at fuel answers) (ask asked at fuel answers)
ask_agrees sizes asked at fuel [] fits = record { same = refl; fits = fits }
ask_agrees sizes asked at fuel (answer.Value v ∷ answers) fits = record { same = refl; fits = tt }
ask_agrees sizes asked at fuel (answer.Fault code ∷ answers) fits = record { same = refl; fits = tt }

pub each_agrees : (sizes : List ℕ) (ev fv : Evals) → EvalsAgree sizes ev fv → (frame : List Value) (ids : List NodeId) (fuel : ℕ) (answers : List Answer)
    (k l : List Value → ℕ → List Answer → Out) → HaveSizes sizes ids (all_of_size (length frame) ids)
    → ((values : List Value) (fuel : ℕ) (answers : List Answer) → length values ≡ length ids → Agree sizes (k values fuel answers) (l values fuel answers))
    → Agree sizes (each ev frame ids fuel answers k) (each fv frame ids fuel answers l)
each_agrees sizes ev fv agree frame [] fuel answers k l have rest = rest [] fuel answers refl
each_agrees sizes ev fv agree frame (id ∷ ids) fuel answers k l have rest =
    then_agrees sizes (ev frame id fuel answers) (fv frame id fuel answers)
    (λ v fuel answers. each ev frame ids fuel answers (λ values. k (v ∷ values))) (λ v fuel answers. each fv frame ids fuel answers (λ values. l (v ∷ values)))
    (agree frame id fuel answers have.0)
    (λ v fuel answers. each_agrees sizes ev fv agree frame ids fuel answers (λ values. k (v ∷ values)) (λ values. l (v ∷ values)) have.1
    (λ values fuel answers many. rest (v ∷ values) fuel answers (ap suc many)))

pub in_turn_agrees : (sizes : List ℕ) (ev fv : Evals) → EvalsAgree sizes ev fv → (frame : List Value) (ids : List NodeId) (fuel : ℕ) (answers : List Answer)
    → HaveSizes sizes ids (all_of_size (length frame) ids) → Agree sizes (in_turn ev frame ids fuel answers) (in_turn fv frame ids fuel answers)
in_turn_agrees sizes ev fv agree frame [] fuel answers have = got_agrees sizes value.Nil fuel answers
in_turn_agrees sizes ev fv agree frame (id ∷ []) fuel answers have = agree frame id fuel answers have.0
in_turn_agrees sizes ev fv agree frame (id ∷ next ∷ ids) fuel answers have =
    then_agrees sizes (ev frame id fuel answers) (fv frame id fuel answers)
    (λ v fuel answers. in_turn ev frame (next ∷ ids) fuel answers) (λ v fuel answers. in_turn fv frame (next ∷ ids) fuel answers)
    (agree frame id fuel answers have.0)
    (λ v fuel answers. in_turn_agrees sizes ev fv agree frame (next ∷ ids) fuel answers have.1)

-- a frame with one value more
longer : (frame : List Value) (v : Value) → length (frame ++ v ∷ []) ≡ suc (length frame)
longer frame v = let added = length-append frame (v ∷ []) in omega arith

pub bind_agrees : (sizes : List ℕ) (ev fv : Evals) → EvalsAgree sizes ev fv → (frame : List Value) (ids : List NodeId) (body : NodeId) (fuel : ℕ) (answers : List Answer)
    → HaveSizes sizes (ids ++ body ∷ []) (growing (length frame) ids) → Agree sizes (bind ev frame ids body fuel answers) (bind fv frame ids body fuel answers)
bind_agrees sizes ev fv agree frame [] body fuel answers have = agree frame body fuel answers have.0
bind_agrees sizes ev fv agree frame (id ∷ ids) body fuel answers have =
    then_agrees sizes (ev frame id fuel answers) (fv frame id fuel answers)
    (λ v fuel answers. bind ev (frame ++ v ∷ []) ids body fuel answers) (λ v fuel answers. bind fv (frame ++ v ∷ []) ids body fuel answers)
    (agree frame id fuel answers have.0)
    (λ v fuel answers. bind_agrees sizes ev fv agree (frame ++ v ∷ []) ids body fuel answers
    (subst (λ n. HaveSizes sizes (ids ++ body ∷ []) (growing n ids)) (sym (longer frame v)) have.1))

pub choose_agrees : (sizes : List ℕ) (ev fv : Evals) → EvalsAgree sizes ev fv → (frame : List Value) (chosen : Bool) (taken other : NodeId) (fuel : ℕ) (answers : List Answer)
    → slice_get sizes taken.index ≡ Some (length frame) → slice_get sizes other.index ≡ Some (length frame)
    → Agree sizes (choose ev frame chosen taken other fuel answers) (choose fv frame chosen taken other fuel answers)
choose_agrees sizes ev fv agree frame true taken other fuel answers first second = agree frame other fuel answers second
choose_agrees sizes ev fv agree frame false taken other fuel answers first second = agree frame taken fuel answers first

-- a function's body has the size that the function takes
abbrev pub BodyFits : List ℕ → Function → Type 0
BodyFits sizes f = slice_get sizes f.body.index ≡ Some f.takes

pub all_at : {X : Type 0} (P : X → Type 0) (xs : List X) (i : ℕ) (x : X) → All P xs → slice_get xs i ≡ Some x → P x
all_at P [] i x all is = absurd (none-some x is)
all_at P (y ∷ xs) zero x all is = subst P (same_Some y x is) (All-head P y xs all)
all_at P (y ∷ xs) (suc i) x all is = all_at P xs i x (All-tail P y xs all) is

-- the function with that number takes so many values
abbrev pub CallFits : Option Function → ℕ → Type 0
CallFits found size = IsSomeAnd found (λ f. f.takes ≡ size)

pub call_agrees : (sizes : List ℕ) (ev fv : Evals) → EvalsAgree sizes ev fv → (functions : List Function) → All (BodyFits sizes) functions
    → (number : ℕ) (frame : List Value) (fuel : ℕ) (answers : List Answer) → CallFits (slice_get functions number) (length frame)
    → Agree sizes (call ev (slice_get functions number) frame fuel answers) (call fv (slice_get functions number) frame fuel answers)
call_agrees sizes ev fv agree functions bodies number frame fuel answers = on (slice_get functions number) refl
  where
    on : (found : Option Function) → slice_get functions number ≡ found → CallFits found (length frame)
        → Agree sizes (call ev found frame fuel answers) (call fv found frame fuel answers)
    on None is there = absurd there
    on (Some f) is takes = agree frame f.body fuel answers (all_at (BodyFits sizes) functions number f bodies is ∙ ap Some takes)

-- what an operation comes to hands on frames of the right sizes
abbrev pub OutcomeFits : List Function → List ℕ → Action → Type 0
OutcomeFits functions sizes (Gives v) = Unit {0}
OutcomeFits functions sizes (Faults code) = Unit {0}
OutcomeFits functions sizes (Asks asked) = AskFits sizes asked
OutcomeFits functions sizes (Calls number frame) = CallFits (slice_get functions number) (length frame)

pub come_agrees : (sizes : List ℕ) (table : Table) (ev fv : Evals) → EvalsAgree sizes ev fv → All (BodyFits sizes) table.functions
    → (at : Spot) (outcome : Action) (fuel : ℕ) (answers : List Answer) → OutcomeFits table.functions sizes outcome
    → Agree sizes (come table ev at outcome fuel answers) (come table fv at outcome fuel answers)
come_agrees sizes table ev fv agree bodies at (Gives v) fuel answers fits = got_agrees sizes v fuel answers
come_agrees sizes table ev fv agree bodies at (Faults code) fuel answers fits = stop_agrees sizes (halt.Fault code at) tt
come_agrees sizes table ev fv agree bodies at (Asks asked) fuel answers fits = ask_agrees sizes asked at fuel answers fits
come_agrees sizes table ev fv agree bodies at (Calls number frame) fuel answers fits = call_agrees sizes ev fv agree table.functions bodies number frame fuel answers fits

pub run_steps_agrees : (sizes : List ℕ) (ev fv : Evals) → EvalsAgree sizes ev fv → (frame : List Value) (steps : List Step) (fuel : ℕ) (answers : List Answer)
    → HaveSizes sizes (map (λ step. step.node) steps) (step_sizes (length frame) steps)
    → Agree sizes (run_steps ev frame steps fuel answers) (run_steps fv frame steps fuel answers)
run_steps_agrees sizes ev fv agree frame [] fuel answers have = got_agrees sizes value.Nil fuel answers
run_steps_agrees sizes ev fv agree frame (step ∷ steps) fuel answers have =
    then_agrees sizes (ev frame step.node fuel answers) (fv frame step.node fuel answers)
    (λ v fuel answers. run_steps ev (if step.binds then frame ++ v ∷ [] else frame) steps fuel answers)
    (λ v fuel answers. run_steps fv (if step.binds then frame ++ v ∷ [] else frame) steps fuel answers)
    (agree frame step.node fuel answers have.0)
    (λ v fuel answers. run_steps_agrees sizes ev fv agree (if step.binds then frame ++ v ∷ [] else frame) steps fuel answers (on v step.binds have.1))
  where
    on : (v : Value) (binds : Bool) → HaveSizes sizes (map (λ s. s.node) steps) (step_sizes (if binds then suc (length frame) else length frame) steps)
        → HaveSizes sizes (map (λ s. s.node) steps) (step_sizes (length (if binds then frame ++ v ∷ [] else frame)) steps)
    on v true have = subst (λ n. HaveSizes sizes (map (λ s. s.node) steps) (step_sizes n steps)) (sym (longer frame v)) have
    on v false have = have
