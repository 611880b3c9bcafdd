-- The bound of an evaluation is not met where it is at least the fuel: two bounds that are come to the same.
use Rattle.std.proofs.Common.{◌≡◌, ℕ, zero, suc, ◌≤◌, Bool, true, false, List, [], ◌∷◌, ◌++◌, refl, subst, arith}
use Rattle.std.specs.Prelude.{◌==◌, if◌then◌else◌, length, Option, None, Some}
use Rattle.std.specs.List.{slice_get}
use Rattle.value_core.specs.Place.{Spot}
use Rattle.value_core.specs.declared.value.Value.{Value}
use Rattle.value_core.specs.primitives.Kinds.{is_false}
use Rattle.core_syntax.specs.declared.function.Function.{Function}
use Rattle.core_syntax.specs.declared.node.Node.{Node}
use Rattle.core_syntax.specs.declared.node.Node.TheVariants as node
use Rattle.core_syntax.specs.declared.node_id.NodeId.{NodeId}
use Rattle.core_syntax.specs.declared.row.Row.{Row}
use Rattle.core_syntax.specs.declared.step.Step.{Step}
use Rattle.core_syntax.specs.Table.{Table}
use Rattle.serial_model.specs.declared.answer.Answer.{Answer}
use Rattle.serial_model.specs.declared.answer.Answer.TheVariants as answer
use Rattle.serial_model.specs.declared.halt.Halt.{Halt}
use Rattle.serial_model.specs.declared.request.Request.{Request}
use Rattle.serial_model.specs.Eval.{Out, Got, Stop, Next, Evals, then_go, ask, each, in_turn, bind, choose, call, come, by_arguments, dosync, level, unguarded, enter, eval, run_steps, turn, begin, begin_at}
use Rattle.serial_model.specs.Operation.{Action, Gives, Faults, Asks, Calls, arguments, operate}

-- what is left of the fuel is at most so much
abbrev pub LeavesAtMost : ℕ → Out → Type 0
LeavesAtMost n (Got v fuel answers) = fuel ≤ n
LeavesAtMost n (Stop halt) = Unit {0}

-- the two come to the same, and leave at most so much fuel
pub record AreAlike (n : ℕ) (left right : Out) : Type 0 where
  pub same : left ≡ right
  pub within : LeavesAtMost n left

-- the two evaluations are alike with at most so much fuel
pub record Agree (n : ℕ) (left right : Evals) : Type 0 where
  pub at : (frame : List Value) (id : NodeId) (fuel : ℕ) (answers : List Answer) → fuel ≤ n → AreAlike fuel (left frame id fuel answers) (right frame id fuel answers)

pub AreAlike-weaker : (m n : ℕ) (left right : Out) → m ≤ n → AreAlike m left right → AreAlike n left right
AreAlike-weaker m n left right le alike = record { same = alike.same; within = more left alike.within }
  where
    more : (out : Out) → LeavesAtMost m out → LeavesAtMost n out
    more (Got v fuel answers) within = omega arith
    more (Stop halt) within = tt

pub then_go-alike : (n : ℕ) (left right : Out) (next more : Next) → AreAlike n left right
    → ((v : Value) (fuel : ℕ) (answers : List Answer) → fuel ≤ n → AreAlike fuel (next v fuel answers) (more v fuel answers))
    → AreAlike n (then_go left next) (then_go right more)
then_go-alike n left right next more alike rest =
    let P : Out → Type 0 = λ out. AreAlike n (then_go left next) (then_go out more) in subst P alike.same (on left alike.within)
  where
    on : (out : Out) → LeavesAtMost n out → AreAlike n (then_go out next) (then_go out more)
    on (Got v fuel answers) within = AreAlike-weaker fuel n _ _ within (rest v fuel answers within)
    on (Stop halt) within = record { same = refl; within = tt }

got_alike : (v : Value) (fuel : ℕ) (answers : List Answer) → AreAlike fuel (Got v fuel answers) (Got v fuel answers)
got_alike v fuel answers = record { same = refl; within = omega arith }

stop_alike : (n : ℕ) (halt : Halt) → AreAlike n (Stop halt) (Stop halt)
stop_alike n halt = record { same = refl; within = tt }

pub ask-alike : (request : Request) (at : Spot) (fuel : ℕ) (answers : List Answer) → AreAlike fuel (ask request at fuel answers) (ask request at fuel answers)
ask-alike request at fuel [] = stop_alike fuel _
ask-alike request at fuel (answer.Value v ∷ answers) = got_alike v fuel answers
ask-alike request at fuel (answer.Fault code ∷ answers) = stop_alike fuel _

module _ (n : ℕ) (left right : Evals) (agree : Agree n left right) where
  pub each-alike : (frame : List Value) (ids : List NodeId) (fuel : ℕ) (answers : List Answer) (next more : List Value → ℕ → List Answer → Out) → fuel ≤ n
      → ((values : List Value) (fuel : ℕ) (answers : List Answer) → fuel ≤ n → AreAlike fuel (next values fuel answers) (more values fuel answers))
      → AreAlike fuel (each left frame ids fuel answers next) (each right frame ids fuel answers more)
  each-alike frame [] fuel answers next more le rest = rest [] fuel answers le
  each-alike frame (id ∷ ids) fuel answers next more le rest =
      then_go-alike fuel _ _ _ _ (agree.at frame id fuel answers le)
      (λ v left_fuel left_answers lower. each-alike frame ids left_fuel left_answers (λ values. next (v ∷ values)) (λ values. more (v ∷ values)) (omega arith) (λ values. rest (v ∷ values)))

  pub in_turn-alike : (frame : List Value) (ids : List NodeId) (fuel : ℕ) (answers : List Answer) → fuel ≤ n
      → AreAlike fuel (in_turn left frame ids fuel answers) (in_turn right frame ids fuel answers)
  in_turn-alike frame [] fuel answers le = got_alike _ fuel answers
  in_turn-alike frame (id ∷ []) fuel answers le = agree.at frame id fuel answers le
  in_turn-alike frame (id ∷ next ∷ ids) fuel answers le =
      then_go-alike fuel _ _ _ _ (agree.at frame id fuel answers le) (λ v left_fuel left_answers lower. in_turn-alike frame (next ∷ ids) left_fuel left_answers (omega arith))

  pub bind-alike : (frame : List Value) (ids : List NodeId) (body : NodeId) (fuel : ℕ) (answers : List Answer) → fuel ≤ n
      → AreAlike fuel (bind left frame ids body fuel answers) (bind right frame ids body fuel answers)
  bind-alike frame [] body fuel answers le = agree.at frame body fuel answers le
  bind-alike frame (id ∷ ids) body fuel answers le =
      then_go-alike fuel _ _ _ _ (agree.at frame id fuel answers le) (λ v left_fuel left_answers lower. bind-alike (frame ++ v ∷ []) ids body left_fuel left_answers (omega arith))

  pub choose-alike : (frame : List Value) (b : Bool) (taken other : NodeId) (fuel : ℕ) (answers : List Answer) → fuel ≤ n
      → AreAlike fuel (choose left frame b taken other fuel answers) (choose right frame b taken other fuel answers)
  choose-alike frame true taken other fuel answers le = agree.at frame other fuel answers le
  choose-alike frame false taken other fuel answers le = agree.at frame taken fuel answers le

  pub call-alike : (found : Option Function) (frame : List Value) (fuel : ℕ) (answers : List Answer) → fuel ≤ n
      → AreAlike fuel (call left found frame fuel answers) (call right found frame fuel answers)
  call-alike None frame fuel answers le = got_alike _ fuel answers
  call-alike (Some function) frame fuel answers le = agree.at frame function.body fuel answers le

  pub come-alike : (table : Table) (at : Spot) (outcome : Action) (fuel : ℕ) (answers : List Answer) → fuel ≤ n
      → AreAlike fuel (come table left at outcome fuel answers) (come table right at outcome fuel answers)
  come-alike table at (Gives v) fuel answers le = got_alike v fuel answers
  come-alike table at (Faults code) fuel answers le = stop_alike fuel _
  come-alike table at (Asks request) fuel answers le = ask-alike request at fuel answers
  come-alike table at (Calls number frame) fuel answers le = call-alike (slice_get table.functions number) frame fuel answers le

  pub by_arguments-alike : (table : Table) (frame : List Value) (at : Spot) (n' : Node) (fuel : ℕ) (answers : List Answer) → fuel ≤ n
      → AreAlike fuel (by_arguments table left frame at n' fuel answers) (by_arguments table right frame at n' fuel answers)
  by_arguments-alike table frame at n' fuel answers le =
      each-alike frame (arguments n') fuel answers _ _ le (λ values left_fuel left_answers lower. come-alike table at (operate frame n' values) left_fuel left_answers lower)

  pub transaction-alike : (table : Table) (inside : Bool) (frame : List Value) (at : Spot) (body : NodeId) (fuel : ℕ) (answers : List Answer) → fuel ≤ n
      → AreAlike fuel (dosync table inside left frame at body fuel answers) (dosync table inside right frame at body fuel answers)
  transaction-alike table true frame at body fuel answers le = agree.at frame body fuel answers le
  transaction-alike table false frame at body fuel answers le = by_arguments-alike table frame at (node.Dosync body) fuel answers le

  pub level-alike : (table : Table) (inside : Bool) (frame : List Value) (at : Spot) (which : Node) (fuel : ℕ) (answers : List Answer) → fuel ≤ n
      → AreAlike fuel (level table inside left frame at which fuel answers) (level table inside right frame at which fuel answers)
  level-alike table inside frame at (node.Do parts) fuel answers le = in_turn-alike frame parts fuel answers le
  level-alike table inside frame at (node.If condition taken other) fuel answers le =
      then_go-alike fuel _ _ _ _ (agree.at frame condition fuel answers le)
      (λ v left_fuel left_answers lower. choose-alike frame (is_false v) taken other left_fuel left_answers (omega arith))
  level-alike table inside frame at (node.Let bound body) fuel answers le = bind-alike frame bound body fuel answers le
  level-alike table inside frame at (node.Dosync body) fuel answers le = transaction-alike table inside frame at body fuel answers le
  level-alike table inside frame at other fuel answers le = by_arguments-alike table frame at other fuel answers le

  pub enter-alike : (table : Table) (inside : Bool) (frame : List Value) (row : Option Row) (fuel : ℕ) (answers : List Answer) → fuel ≤ n
      → AreAlike (suc fuel) (enter unguarded table inside left frame row (suc fuel) answers) (enter unguarded table inside right frame row (suc fuel) answers)
  enter-alike table inside frame None fuel answers le = AreAlike-weaker fuel (suc fuel) _ _ (omega arith) (got_alike _ fuel answers)
  enter-alike table inside frame (Some row) fuel answers le =
      AreAlike-weaker fuel (suc fuel) _ _ (omega arith) (level-alike table inside frame row.at row.node fuel answers le)

  pub run_steps-alike : (frame : List Value) (steps : List Step) (fuel : ℕ) (answers : List Answer) → fuel ≤ n
      → AreAlike fuel (run_steps left frame steps fuel answers) (run_steps right frame steps fuel answers)
  run_steps-alike frame [] fuel answers le = got_alike _ fuel answers
  run_steps-alike frame (step ∷ steps) fuel answers le =
      then_go-alike fuel _ _ _ _ (agree.at frame step.node fuel answers le)
      (λ v left_fuel left_answers lower. run_steps-alike (if step.binds then frame ++ v ∷ [] else frame) steps left_fuel left_answers (omega arith))

  pub turn-alike : (values : List Value) (at : Spot) (takes : Bool) (body : NodeId) (fuel : ℕ) (answers : List Answer) → fuel ≤ n
      → AreAlike fuel (turn left values at takes body fuel answers) (turn right values at takes body fuel answers)
  turn-alike values at true body fuel answers le = agree.at values body fuel answers le
  turn-alike values at false body fuel answers le = stop_alike fuel _

  pub begin-alike : (body : NodeId) (values : List Value) (at : Spot) (which : Node) (fuel : ℕ) (answers : List Answer) → fuel ≤ n
      → AreAlike fuel (begin left body values at which fuel answers) (begin right body values at which fuel answers)
  begin-alike body values at (node.Main steps) fuel answers le = run_steps-alike values steps fuel answers le
  begin-alike body values at (node.Turn takes inner) fuel answers le = turn-alike values at (length values == takes) inner fuel answers le
  begin-alike body values at other fuel answers le = agree.at values body fuel answers le

  pub begin_at-alike : (body : NodeId) (values : List Value) (row : Option Row) (fuel : ℕ) (answers : List Answer) → fuel ≤ n
      → AreAlike fuel (begin_at left body values row fuel answers) (begin_at right body values row fuel answers)
  begin_at-alike body values None fuel answers le = agree.at values body fuel answers le
  begin_at-alike body values (Some row) fuel answers le = begin-alike body values row.at row.node fuel answers le

-- two bounds that are at least the fuel
pub eval-alike : (table : Table) (inside : Bool) (m n : ℕ) (frame : List Value) (id : NodeId) (fuel : ℕ) (answers : List Answer) → fuel ≤ m → fuel ≤ n
    → AreAlike fuel (eval unguarded table inside m frame id fuel answers) (eval unguarded table inside n frame id fuel answers)
unfolding eval
eval-alike table inside zero zero frame id zero answers le le' = stop_alike zero _
eval-alike table inside zero (suc n) frame id zero answers le le' = stop_alike zero _
eval-alike table inside (suc m) zero frame id zero answers le le' = stop_alike zero _
eval-alike table inside (suc m) (suc n) frame id zero answers le le' = stop_alike zero _
eval-alike table inside zero n frame id (suc fuel) answers le le' = absurd (omega arith)
eval-alike table inside (suc m) zero frame id (suc fuel) answers le le' = absurd (omega arith)
eval-alike table inside (suc m) (suc n) frame id (suc fuel) answers le le' =
    enter-alike fuel _ _ (record { at = λ frame id lower answers below. eval-alike table inside m n frame id lower answers (omega arith) (omega arith) })
    table inside frame (slice_get table.nodes id.index) fuel answers (omega arith)
