-- How much a task knows: that only grows, and each task that it knows knew less.
use Rattle.std.proofs.Common.{◌≡◌, ◌<◌, ◌≤◌, ◌+◌, ℕ, zero, suc, Bool, true, false, cond, List, le_refl, ap, arith}
use Rattle.std.specs.Option.{unwrap_or}
use Rattle.std.specs.Prelude.{Option, None, Some}
use Rattle.core_syntax.specs.declared.node_id.NodeId.{NodeId}
use Rattle.serial_model.specs.declared.halt.Halt.{Halt}
use Rattle.serial_model.specs.declared.halt.Halt.TheVariants as halt
use Rattle.serial_model.specs.declared.request.Request.{Request}
use Rattle.serial_model.specs.declared.request.Request.TheVariants as request
use Rattle.serial_model.specs.Eval.{next}
use Rattle.serial_model.specs.Log.{merged}
use Rattle.serial_model.specs.Task.{And, Around, Blocked, Call, End, Fault, Here, Known, Moved, Nothing, On, Outcome, Result, Spent, Value, asks, closes, closes_child, follows, forks, gets, goes, joins, joins_child, joins_found, looks_up, read_in, result_of, task_step, then_moves, turns, unjoined, with_known}
use Rattle.value_core.specs.declared.value.Value.{Value as Datum}
use Rattle.value_core.specs.Named.{Name, Named, is_among, made_by, same_name}

-- how many results are known, with those that the tasks of the results knew
abbrev pub size : Known → ℕ
size Nothing = 0
size (And name outcome log inner others) = suc (size inner + size others)

-- of both it is what is known of each
size-both : (known others : Known) → size (with_known known others) ≡ size known + size others
size-both Nothing others = omega arith
size-both (And name outcome log inner rest) others = let both = size-both rest others in omega (arith, both)

-- a task that is known knew less
pub found-less : (f : Name) (known : Known) (child : Result) → result_of f known ≡ Some child → size child.known < size known
found-less f Nothing child is = absurd (cc)
found-less f (And name outcome log inner others) child is = on (same_name name f) is (λ e. found-less f others child e)
  where
    on : (b : Bool) → cond b (Some (record { outcome = outcome; log = log; known = inner })) (result_of f others) ≡ Some child
        → (result_of f others ≡ Some child → size child.known < size others) → size child.known < suc (size inner + size others)
    on true e rest = let same : size inner ≡ size child.known = ap (λ (o : Option Result). size (unwrap_or o child).known) e in omega (arith, same)
    on false e rest = let less = rest e in omega (arith, less)

-- no less is known afterwards
abbrev KnowsMore : Here → Moved → Type 0
KnowsMore here (On after) = size here.known ≤ size after.known
KnowsMore here (End outcome after) = size here.known ≤ size after.known

-- nor after what comes then
more-later : (here after : Here) (moved : Moved) → size here.known ≤ size after.known → KnowsMore after moved → KnowsMore here moved
more-later here after (On last) first then = omega (arith, first, then)
more-later here after (End outcome last) first then = omega (arith, first, then)

-- ---- what comes of each request
found-more : (here : Here) (found : Option Datum) → KnowsMore here (looks_up here found)
found-more here None = le_refl (size here.known)
found-more here (Some v) = le_refl (size here.known)

-- a fork knows its child besides
forks-more : (levels : ℕ) (call : Call) (view : Named Datum) (here : Here) (body : NodeId) (values : List Datum) → KnowsMore here (forks levels call view here body values)
forks-more zero call view here body values = le_refl (size here.known)
forks-more (suc levels) call view here body values = omega arith

-- a join knows what the child knew besides
joins-more : (here : Here) (future : Name) (child : Result) (outcome : Outcome) (go : Here → Datum → Moved) → ((after : Here) (v : Datum) → KnowsMore after (go after v)) → KnowsMore here (joins here future child outcome go)
joins-more here future child (Value v) go more = on (is_among future here.log.joined)
  where
    joint : Here
    joint = record here { log = merged here.log child.log; known = with_known here.known child.known }

    on : (b : Bool) → KnowsMore here (go (cond b here joint) v)
    on true = more here v
    on false = let both = size-both here.known child.known in more-later here joint (go joint v) (omega (arith, both)) (more joint v)
joins-more here future child (Fault code at) go more = le_refl (size here.known)
joins-more here future child Spent go more = le_refl (size here.known)
joins-more here future child Blocked go more = le_refl (size here.known)

-- of a task, or of a unit
join-more : (around : Around) (here : Here) (future : Name) (found : Option Result) → KnowsMore here (joins_found around here future found)
join-more around here future None = found-more here (around.finished future)
join-more around here future (Some child) = joins-more here future child child.outcome (λ after v. gets after after.log v) (λ after v. le_refl (size after.known))

-- whatever it asks for
asks-more : (around : Around) (levels : ℕ) (call : Call) (view : Named Datum) (here : Here) (asked : Request) → KnowsMore here (asks around levels call view here asked)
asks-more around levels call view here (request.Print text) = le_refl (size here.known)
asks-more around levels call view here (request.NewRef v) = le_refl (size here.known)
asks-more around levels call view here (request.Deref ref) = found-more here (read_in around view here.log ref)
asks-more around levels call view here (request.RefSet ref v) = le_refl (size here.known)
asks-more around levels call view here (request.Fork body values) = forks-more levels call view here body values
asks-more around levels call view here (request.Join future) = join-more around here future (result_of future here.known)
asks-more around levels call view here (request.Dosync body values) = le_refl (size here.known)
asks-more around levels call view here (request.Spawn behaviour state) = le_refl (size here.known)
asks-more around levels call view here (request.Send to message) = le_refl (size here.known)
asks-more around levels call view here (request.Become behaviour state) = le_refl (size here.known)
asks-more around levels call view here request.SelfActor = le_refl (size here.known)

-- ---- the joins at its value
child-more : (here : Here) (future : Name) (found : Option Result) → KnowsMore here (joins_child here future found)
child-more here future None = le_refl (size here.known)
child-more here future (Some child) = joins-more here future child child.outcome (λ after joined. On after) (λ after v. le_refl (size after.known))

-- of all its children
closes-more : (v : Datum) (k left : ℕ) (here : Here) → KnowsMore here (closes v k left here)
closes-more v k zero here = le_refl (size here.known)
closes-more v k (suc left) here = on (closes_child here k) (child-more here (made_by here.log.name k) (unjoined here (made_by here.log.name k))) (λ after. closes-more v (suc k) left after)
  where
    on : (moved : Moved) → KnowsMore here moved → ((after : Here) → KnowsMore after (closes v (suc k) left after)) → KnowsMore here (then_moves moved (λ after. closes v (suc k) left after))
    on (On after) more rest = more-later here after (closes v (suc k) left after) more (rest after)
    on (End outcome after) more rest = more

-- ---- whatever its body comes to
goes-more : (around : Around) (levels : ℕ) (call : Call) (view : Named Datum) (here : Here) (end : Halt) → KnowsMore here (goes around levels call view here end)
goes-more around levels call view here (halt.Ask asked at) = asks-more around levels call view here asked
goes-more around levels call view here (halt.Value v) = closes-more v 0 here.log.made here
goes-more around levels call view here (halt.Fault code at) = le_refl (size here.known)
goes-more around levels call view here halt.Spent = le_refl (size here.known)

-- the result of a task knows no less than the task does where it goes on
pub turns-more : (around : Around) (levels : ℕ) (call : Call) (body : NodeId) (values : List Datum) (view : Named Datum) (n : ℕ) (here : Here)
    → size here.known ≤ size (turns around levels call body values view n here).known
unfolding turns
turns-more around levels call body values view zero here = le_refl (size here.known)
turns-more around levels call body values view (suc n) here =
    on (task_step around levels call body values view here) (goes-more around levels call view here (next around.program body values true here.answers around.fuel))
    (λ after. turns-more around levels call body values view n after)
  where
    on : (moved : Moved) → KnowsMore here moved → ((after : Here) → size after.known ≤ size (turns around levels call body values view n after).known)
        → size here.known ≤ size (follows moved (λ after. turns around levels call body values view n after)).known
    on (On after) more rest = let then = rest after in omega (arith, more, then)
    on (End outcome after) more rest = more

-- nor than where it joins at its value: those joins end it
pub closes-grow : (v : Datum) (k left : ℕ) (here : Here) (go : Here → Result) → size here.known ≤ size (follows (closes v k left here) go).known
closes-grow v k zero here go = le_refl (size here.known)
closes-grow v k (suc left) here go = on (closes_child here k) (child-more here (made_by here.log.name k) (unjoined here (made_by here.log.name k))) (λ after. closes-grow v (suc k) left after go)
  where
    on : (moved : Moved) → KnowsMore here moved → ((after : Here) → size after.known ≤ size (follows (closes v (suc k) left after) go).known)
        → size here.known ≤ size (follows (then_moves moved (λ after. closes v (suc k) left after)) go).known
    on (On after) more rest = let then = rest after in omega (arith, more, then)
    on (End outcome after) more rest = more
