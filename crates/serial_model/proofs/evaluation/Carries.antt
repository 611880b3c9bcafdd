-- What holds of the values that a body begins with and is answered holds of all that it gives and asks for. No future
-- goes out of it, and what it names is there.
use Rattle.std.proofs.Common.{◌≡◌, ℕ, zero, suc, ◌<◌, Bool, true, false, ◌||◌, List, [], ◌∷◌, ◌++◌, length, refl, subst, cond, arith}
use Rattle.std.specs.Prelude.{Some, Result, Ok, Err, All}
use Rattle.std.specs.List.{slice_get}
use Rattle.std.proofs.lemmas.List.Elements.{All-head, All-tail, All-append, All-map, All-weaker}
use Rattle.std.proofs.lemmas.Option.{slice_get_within}
use Rattle.value_core.specs.Place.{Spot}
use Rattle.value_core.specs.declared.code.Code.TheVariants as code
use Rattle.value_core.specs.declared.op.Op.{Op}
use Rattle.value_core.specs.declared.op.Op.TheVariants as op
use Rattle.value_core.specs.declared.value.Value.{Value}
use Rattle.value_core.specs.declared.value.Value.TheVariants as value
use Rattle.value_core.specs.declared.value.Value.TheOpen as one
use Rattle.value_core.specs.declared.value.Value.TheViews.{out-Value}
use Rattle.value_core.specs.Futures.{holds_future}
use Rattle.value_core.specs.Structural.{IsStructural}
use Rattle.value_core.proofs.Structural.{OfLevel, of_level}
use Rattle.value_core.specs.Texts.{line_of}
use Rattle.value_core.specs.declared.op_fault.OpFault.{OpFault}
use Rattle.value_core.specs.primitives.Apply.{apply_of, limited}
use Rattle.value_core.specs.primitives.Parts.{paired, put_rule}
use Rattle.value_core.specs.primitives.Words.{takes_of}
use Rattle.value_core.proofs.primitives.Carries.{OfResult, applied-carries, mapped-carries}
use Rattle.core_syntax.specs.declared.node.Node.{Node}
use Rattle.core_syntax.specs.declared.node.Node.TheVariants as node
use Rattle.core_syntax.specs.declared.node_id.NodeId.{NodeId}
use Rattle.core_syntax.specs.declared.row.Row.{Row}
use Rattle.core_syntax.specs.Children.{children}
use Rattle.core_syntax.specs.Table.{Table}
use Rattle.core_syntax.specs.WellFormed.{IsWellFormed, IsBelow, ChildrenBelow, BehavioursBelow}
use Rattle.serial_model.specs.declared.answer.Answer.{Answer}
use Rattle.serial_model.specs.declared.answer.Answer.TheVariants as answer
use Rattle.serial_model.specs.declared.halt.Halt.{Halt}
use Rattle.serial_model.specs.declared.halt.Halt.TheVariants as halt
use Rattle.serial_model.specs.declared.request.Request.{Request}
use Rattle.serial_model.specs.declared.request.Request.TheVariants as request
use Rattle.serial_model.specs.Actors.{is_of_actors, NeedsNoActor}
use Rattle.serial_model.specs.Carried.{OfAnswer, OfRequest, OfHalt, IsInner, IsSealed, IsThere}
use Rattle.serial_model.specs.Eval.{next}
use Rattle.serial_model.specs.Laws.{NoActorIsAsked, NoneIsBegunInside}
use Rattle.serial_model.specs.Operation.{Action, Faults, Asks, operate, local_value, hidden_values, action_of, applied, some_future, sealed, with_ref, with_actor, with_future, of_one, of_two, of_first, deref_outcome, ref_set_outcome, join_outcome, send_outcome}
use Rattle.serial_model.proofs.evaluation.Agree.{all_at}
use Rattle.serial_model.proofs.evaluation.Carrying.{HaltCarries, OutcomeCarries, IsEntered, next-good}

-- the value at a place of a frame, and nil outside it
local-carries : (P : Value → Type 0) → P value.Nil → (frame : List Value) (place : ℕ) → All P frame → P (local_value frame place)
local-carries P nil [] place all = nil
local-carries P nil (v ∷ frame) zero all = All-head P v frame all
local-carries P nil (v ∷ frame) (suc place) all = local-carries P nil frame place (All-tail P v frame all)

-- the hidden arguments and the written ones
state-carries : (P : Value → Type 0) → P value.Nil → (frame : List Value) (hidden : List ℕ) (values : List Value) → All P frame → All P values → All P (hidden_values frame hidden ++ values)
state-carries P nil frame hidden values all holds =
    All-append P (hidden_values frame hidden) values (All-map P (local_value frame) hidden (λ k d lt. local-carries P nil frame _ all)) holds

true_is_false : true ≡ false → ⊥
true_is_false never = cc

alone : (b : Bool) → (b || false) ≡ false → b ≡ false
alone true is = is
alone false is = refl

-- The requests are good that the nodes make for which N holds: with good values, with no future in what goes out, and a
-- transaction only outside one.
pub record Requests (P : Value → Type 0) (Q : Request → Type 0) (N : Node → Type 0) (inside : Bool) : Type 0 where
  pub print : (text : List ℕ) → Q (request.Print text)
  pub new_ref : (v : Value) → P v → holds_future v ≡ false → Q (request.NewRef v)
  pub deref : (name : List ℕ) → P (value.Ref name) → Q (request.Deref name)
  pub ref_set : (name : List ℕ) (v : Value) → P (value.Ref name) → P v → holds_future v ≡ false → Q (request.RefSet name v)
  pub fork : (body : NodeId) (frame : List Value) → N (node.Fork body) → All P frame → Q (request.Fork body frame)
  pub join : (name : List ℕ) → P (value.Future name) → Q (request.Join name)
  pub dosync : (body : NodeId) (frame : List Value) → N (node.Dosync body) → inside ≡ false → All P frame → Q (request.Dosync body frame)
  pub spawn : (number : ℕ) (hidden : List ℕ) (written : List NodeId) (state : List Value) → N (node.Spawn number hidden written) → All P state → some_future state ≡ false
      → Q (request.Spawn number state)
  pub become : (number : ℕ) (hidden : List ℕ) (written : List NodeId) (state : List Value) → N (node.Become number hidden written) → All P state → some_future state ≡ false
      → Q (request.Become number state)
  pub send : (receiver : NodeId) (written : List NodeId) (name : List ℕ) (message : List Value) → N (node.Send receiver written) → P (value.Actor name) → All P message → some_future message ≡ false
      → Q (request.Send name message)
  pub self : N node.SelfActor → Q request.SelfActor

module _ (P : Value → Type 0) (Q : Request → Type 0) where
  -- a request that would be sealed needs to be good only where no future goes out with the values
  sealed-carries : (values : List Value) (asked : Request) → (some_future values ≡ false → Q asked) → OutcomeCarries P Q (sealed values asked)
  sealed-carries values asked good = on (some_future values) refl
    where
      on : (escapes : Bool) → some_future values ≡ escapes → OutcomeCarries P Q (cond escapes (Faults code.FutureEscapes) (Asks asked))
      on true is = tt
      on false is = good is

  with_ref-carries : (v : one.Value-F Value) (act : List ℕ → Action) → OfLevel P v → ((name : List ℕ) → P (value.Ref name) → OutcomeCarries P Q (act name)) → OutcomeCarries P Q (with_ref v act)
  with_ref-carries (one.Ref name) act holds good = good name holds
  with_ref-carries _ act holds good = tt

  with_actor-carries : (v : one.Value-F Value) (act : List ℕ → Action) → OfLevel P v → ((name : List ℕ) → P (value.Actor name) → OutcomeCarries P Q (act name)) → OutcomeCarries P Q (with_actor v act)
  with_actor-carries (one.Actor name) act holds good = good name holds
  with_actor-carries _ act holds good = tt

  with_future-carries : (v : one.Value-F Value) (act : List ℕ → Action) → OfLevel P v → ((name : List ℕ) → P (value.Future name) → OutcomeCarries P Q (act name)) → OutcomeCarries P Q (with_future v act)
  with_future-carries (one.Future name) act holds good = good name holds
  with_future-carries _ act holds good = tt

  of_one-carries : (form : Value → Action) (values : List Value) → All P values → ((v : Value) → P v → OutcomeCarries P Q (form v)) → OutcomeCarries P Q (of_one form values)
  of_one-carries form [] all good = tt
  of_one-carries form (v ∷ []) all good = good v (All-head P v [] all)
  of_one-carries form (v ∷ w ∷ more) all good = tt

  of_two-carries : (form : Value → Value → Action) (values : List Value) → All P values → ((v w : Value) → P v → P w → OutcomeCarries P Q (form v w)) → OutcomeCarries P Q (of_two form values)
  of_two-carries form [] all good = tt
  of_two-carries form (v ∷ []) all good = tt
  of_two-carries form (v ∷ w ∷ []) all good = good v w (All-head P v (w ∷ []) all) (All-head P w [] (All-tail P v (w ∷ []) all))
  of_two-carries form (v ∷ w ∷ u ∷ more) all good = tt

  of_first-carries : (form : Value → List Value → Action) (values : List Value) → All P values → ((v : Value) (more : List Value) → P v → All P more → OutcomeCarries P Q (form v more))
      → OutcomeCarries P Q (of_first form values)
  of_first-carries form [] all good = tt
  of_first-carries form (v ∷ more) all good = good v more (All-head P v more all) (All-tail P v more all)

  result-carries : (result : Result Value OpFault) → OfResult P result → OutcomeCarries P Q (action_of result)
  result-carries (Ok v) holds = holds
  result-carries (Err fault) holds = tt

  module _ (structural : IsStructural P) where
    abbrev opened : (v : Value) → P v → OfLevel P (out-Value v)
    opened v holds = of_level P structural v holds

    primitive-carries : (op : Op) (values : List Value) → All P values → OutcomeCarries P Q (applied op values)
    primitive-carries op values all = on (takes_of op (length values))
      where
        on : (taken : Bool) → OutcomeCarries P Q (cond taken (action_of (apply_of op values)) (Faults code.WrongType))
        on true = result-carries (apply_of op values) (applied-carries P structural op values all)
        on false = tt

    module _ (N : Node → Type 0) (inside : Bool) (requests : Requests P Q N inside) where
      new_ref-carries : (v : Value) → P v → OutcomeCarries P Q (sealed (v ∷ []) (request.NewRef v))
      new_ref-carries v holds = sealed-carries (v ∷ []) (request.NewRef v) (λ none. requests.new_ref v holds (alone (holds_future v) none))

      deref-carries : (v : Value) → P v → OutcomeCarries P Q (deref_outcome v)
      deref-carries v holds = with_ref-carries (out-Value v) (λ name. Asks (request.Deref name)) (opened v holds) (λ name. requests.deref name)

      ref_set-carries : (v w : Value) → P v → P w → OutcomeCarries P Q (ref_set_outcome v w)
      ref_set-carries v w holds good =
          with_ref-carries (out-Value v) (λ name. sealed (w ∷ []) (request.RefSet name w)) (opened v holds)
          (λ name is_ref. sealed-carries (w ∷ []) (request.RefSet name w) (λ none. requests.ref_set name w is_ref good (alone (holds_future w) none)))

      join-carries : (v : Value) → P v → OutcomeCarries P Q (join_outcome v)
      join-carries v holds = with_future-carries (out-Value v) (λ name. Asks (request.Join name)) (opened v holds) (λ name. requests.join name)

      send-carries : (receiver : NodeId) (written : List NodeId) → N (node.Send receiver written) → (v : Value) (message : List Value) → P v → All P message → OutcomeCarries P Q (send_outcome v message)
      send-carries receiver written is v message holds all =
          with_actor-carries (out-Value v) (λ name. sealed message (request.Send name message)) (opened v holds)
          (λ name is_actor. sealed-carries message (request.Send name message) (requests.send receiver written name message is is_actor all))

      pub operation-carries : (frame : List Value) (n : Node) (values : List Value) → N n → IsEntered inside n → All P frame → All P values → OutcomeCarries P Q (operate frame n values)
      operation-carries frame node.Nil values is entered all good = structural.nil
      operation-carries frame (node.Bool b) values is entered all good = structural.bool b
      operation-carries frame (node.Int k) values is entered all good = structural.int k
      operation-carries frame (node.Str text) values is entered all good = structural.str text
      operation-carries frame (node.Kw name) values is entered all good = structural.kw name
      operation-carries frame (node.Local place) values is entered all good = local-carries P structural.nil frame place all
      operation-carries frame (node.Vector items) values is entered all good = result-carries (apply_of op.Vector values) (applied-carries P structural op.Vector values good)
      operation-carries frame (node.Map parts) values is entered all good = result-carries (limited (put_rule [] (paired values))) (mapped-carries P structural values good)
      operation-carries frame (node.Do parts) values is entered all good = structural.nil
      operation-carries frame (node.If condition taken other) values is entered all good = structural.nil
      operation-carries frame (node.Let bound body) values is entered all good = structural.nil
      operation-carries frame (node.Call number hidden written) values is entered all good = state-carries P structural.nil frame hidden values all good
      operation-carries frame (node.Op op written) values is entered all good = primitive-carries op values good
      operation-carries frame (node.Println written) values is entered all good = requests.print (line_of values)
      operation-carries frame (node.Ref content) values is entered all good = of_one-carries (λ v. sealed (v ∷ []) (request.NewRef v)) values good new_ref-carries
      operation-carries frame (node.Deref cell) values is entered all good = of_one-carries deref_outcome values good deref-carries
      operation-carries frame (node.RefSet cell content) values is entered all good = of_two-carries ref_set_outcome values good ref_set-carries
      operation-carries frame (node.Fork body) values is entered all good = requests.fork body frame is all
      operation-carries frame (node.Join future) values is entered all good = of_one-carries join_outcome values good join-carries
      operation-carries frame (node.Dosync body) values is entered all good = requests.dosync body frame is entered all
      operation-carries frame (node.Spawn number hidden written) values is entered all good =
          let state = hidden_values frame hidden ++ values in
          sealed-carries state (request.Spawn number state) (requests.spawn number hidden written state is (state-carries P structural.nil frame hidden values all good))
      operation-carries frame (node.Become number hidden written) values is entered all good =
          let state = hidden_values frame hidden ++ values in
          sealed-carries state (request.Become number state) (requests.become number hidden written state is (state-carries P structural.nil frame hidden values all good))
      operation-carries frame (node.Send receiver message) values is entered all good = of_first-carries send_outcome values good (send-carries receiver message is)
      operation-carries frame node.SelfActor values is entered all good = requests.self is
      operation-carries frame (node.Turn takes body) values is entered all good = structural.nil
      operation-carries frame (node.Main steps) values is entered all good = structural.nil

      -- where N holds of the nodes of a table, all that a body of it comes to is good
      pub carried : (table : Table) → ((id : ℕ) (row : Row) → slice_get table.nodes id ≡ Some row → N row.node) → (body : NodeId) (values : List Value) (answers : List Answer) (fuel : ℕ)
          → All P values → All (OfAnswer P) answers → HaltCarries P Q (next table body values inside answers fuel)
      carried table nodes body values answers fuel all good =
          next-good P Q table inside
          (record { nil = structural.nil; operation = λ id row is entered frame values holds good. operation-carries frame row.node values (nodes id row is) entered holds good })
          body values answers fuel all good

-- ---- the values of requests
requests_of : (P : Value → Type 0) (inside : Bool) → Requests P (OfRequest P) (λ n. Unit {0}) inside
requests_of P inside = record {
  print = λ text. tt;
  new_ref = λ v holds none. holds;
  deref = λ name holds. holds;
  ref_set = λ name v is_ref holds none. (is_ref, holds);
  fork = λ body frame is all. all;
  join = λ name holds. holds;
  dosync = λ body frame is outside all. all;
  spawn = λ number hidden written state is all none. all;
  become = λ number hidden written state is all none. all;
  send = λ receiver written name message is is_actor all none. (is_actor, all);
  self = λ is. tt;
}

-- what holds of all values that a body begins with and is answered holds of what it gives and asks for
pub next-carries : (P : Value → Type 0) → IsStructural P → (table : Table) (body : NodeId) (values : List Value) (inside : Bool) (answers : List Answer) (fuel : ℕ)
    → All P values → All (OfAnswer P) answers → OfHalt P (next table body values inside answers fuel)
next-carries P structural table body values inside answers fuel all good =
    on (next table body values inside answers fuel)
    (carried P (OfRequest P) structural (λ n. Unit {0}) inside (requests_of P inside) table (λ id row is. tt) body values answers fuel all good)
  where
    on : (end : Halt) → HaltCarries P (OfRequest P) end → OfHalt P end
    on (halt.Ask asked at) holds = holds
    on (halt.Value v) holds = holds
    on (halt.Fault code at) holds = tt
    on halt.Spent holds = tt

-- ---- requests alone
abbrev Any : Value → Type 0
Any v = Unit {0}

any_structural : IsStructural Any
any_structural = record {
  nil = tt;
  bool = λ b. tt;
  int = λ n. tt;
  str = λ text. tt;
  kw = λ name. tt;
  vector = λ vs all. tt;
  items = λ vs holds k d lt. tt;
  map = λ ps all. tt;
  parts = λ ps holds k d lt. tt;
}

any_answer : (a : Answer) → OfAnswer Any a
any_answer (answer.Value v) = tt
any_answer (answer.Fault code) = tt

-- what holds of the requests that the nodes of a table make holds of each request of its bodies
asked-good : (Q : Request → Type 0) (N : Node → Type 0) (inside : Bool) → Requests Any Q N inside → (table : Table) → ((id : ℕ) (row : Row) → slice_get table.nodes id ≡ Some row → N row.node)
    → (body : NodeId) (values : List Value) (answers : List Answer) (fuel : ℕ) (asked : Request) (at : Spot) → next table body values inside answers fuel ≡ halt.Ask asked at → Q asked
asked-good Q N inside requests table nodes body values answers fuel asked at is =
    subst (HaltCarries Any Q) is (carried Any Q any_structural N inside requests table nodes body values answers fuel (λ k d lt. tt) (λ k d lt. any_answer _))

sealed_requests : (inside : Bool) → Requests Any IsSealed (λ n. Unit {0}) inside
sealed_requests inside = record {
  print = λ text. tt;
  new_ref = λ v holds none. none;
  deref = λ name holds. tt;
  ref_set = λ name v is_ref holds none. none;
  fork = λ body frame is all. tt;
  join = λ name holds. tt;
  dosync = λ body frame is outside all. tt;
  spawn = λ number hidden written state is all none. none;
  become = λ number hidden written state is all none. none;
  send = λ receiver written name message is is_actor all none. none;
  self = λ is. tt;
}

-- no future goes out of a body into a ref, an actor or a message
pub ask-is-sealed : (table : Table) (body : NodeId) (values : List Value) (inside : Bool) (answers : List Answer) (fuel : ℕ) (asked : Request) (at : Spot)
    → next table body values inside answers fuel ≡ halt.Ask asked at → IsSealed asked
ask-is-sealed table body values inside answers fuel asked at is =
    asked-good IsSealed (λ n. Unit {0}) inside (sealed_requests inside) table (λ id row is. tt) body values answers fuel asked at is

-- the children of a node and the behaviours that it names are there
pub record NamesAreThere (table : Table) (n : Node) : Type 0 where
  pub children : ChildrenBelow (length table.nodes) n
  pub behaviours : BehavioursBelow (length table.behaviours) n

names_are_there : (table : Table) → IsWellFormed table → (id : ℕ) (row : Row) → slice_get table.nodes id ≡ Some row → NamesAreThere table row.node
names_are_there table formed id row is = record {
  children = All-weaker (IsBelow id) (IsBelow (length table.nodes)) (λ child lt. below child.index lt) (children row.node) (formed.children_first id row is);
  behaviours = all_at (λ row. BehavioursBelow (length table.behaviours) row.node) table.nodes id row formed.behaviours_there is;
}
  where
    below : (k : ℕ) → k < id → k < length table.nodes
    below k lt = let there = slice_get_within table.nodes id row is in omega arith

there_requests : (table : Table) (inside : Bool) → Requests Any (IsThere table inside) (NamesAreThere table) inside
there_requests table inside = record {
  print = λ text. tt;
  new_ref = λ v holds none. tt;
  deref = λ name holds. tt;
  ref_set = λ name v is_ref holds none. tt;
  fork = λ body frame there all. All-head (IsBelow (length table.nodes)) body [] there.children;
  join = λ name holds. tt;
  dosync = λ body frame there outside all. (All-head (IsBelow (length table.nodes)) body [] there.children, outside);
  spawn = λ number hidden written state there all none. All-head (λ number. number < length table.behaviours) number [] there.behaviours;
  become = λ number hidden written state there all none. All-head (λ number. number < length table.behaviours) number [] there.behaviours;
  send = λ receiver written name message there is_actor all none. tt;
  self = λ there. tt;
}

-- bodies and behaviours that a body names are in the table, and inside a transaction none is begun
pub ask-is-there : (table : Table) → IsWellFormed table → (body : NodeId) (values : List Value) (inside : Bool) (answers : List Answer) (fuel : ℕ) (asked : Request) (at : Spot)
    → next table body values inside answers fuel ≡ halt.Ask asked at → IsThere table inside asked
ask-is-there table formed body values inside answers fuel asked at is =
    asked-good (IsThere table inside) (NamesAreThere table) inside (there_requests table inside) table (names_are_there table formed) body values answers fuel asked at is

inner_requests : Requests Any IsInner (λ n. Unit {0}) true
inner_requests = record {
  print = λ text. tt;
  new_ref = λ v holds none. tt;
  deref = λ name holds. tt;
  ref_set = λ name v is_ref holds none. tt;
  fork = λ body frame is all. tt;
  join = λ name holds. tt;
  dosync = λ body frame is outside all. true_is_false outside;
  spawn = λ number hidden written state is all none. tt;
  become = λ number hidden written state is all none. tt;
  send = λ receiver written name message is is_actor all none. tt;
  self = λ is. tt;
}

-- inside a transaction a body asks for no other one
pub ask-is-inner : NoneIsBegunInside
ask-is-inner table body values answers fuel asked at is =
    asked-good IsInner (λ n. Unit {0}) true inner_requests table (λ id row is. tt) body values answers fuel asked at is

plain_requests : (inside : Bool) → Requests Any NeedsNoActor (λ n. is_of_actors n ≡ false) inside
plain_requests inside = record {
  print = λ text. tt;
  new_ref = λ v holds none. tt;
  deref = λ name holds. tt;
  ref_set = λ name v is_ref holds none. tt;
  fork = λ body frame is all. tt;
  join = λ name holds. tt;
  dosync = λ body frame is outside all. tt;
  spawn = λ number hidden written state is all none. true_is_false is;
  become = λ number hidden written state is all none. true_is_false is;
  send = λ receiver written name message is is_actor all none. true_is_false is;
  self = λ is. true_is_false is;
}

-- in a table without actors a body asks for none
pub ask-needs-no-actor : NoActorIsAsked
ask-needs-no-actor table without body values inside answers fuel asked at is =
    asked-good NeedsNoActor (λ n. is_of_actors n ≡ false) inside (plain_requests inside) table
    (λ id row there. all_at (λ row. is_of_actors row.node ≡ false) table.nodes id row without there) body values answers fuel asked at is
