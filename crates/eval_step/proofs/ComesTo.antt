-- Where a step stands afterwards, and what the whole comes to from there.
use Rattle.std.proofs.Common.{◌≡◌, ℕ, ◌+◌, ◌*◌, ◌<◌, Bool, false, List, [], ◌∷◌, length, refl, sym, subst, arith}
use Rattle.std.specs.Prelude.{All}
use Rattle.std.specs.List.{slice_get}
use Rattle.std.proofs.lemmas.List.Elements.{All-cons}
use Rattle.value_core.specs.declared.value.Value.{Value}
use Rattle.core_syntax.specs.declared.node_id.NodeId.{NodeId}
use Rattle.core_syntax.specs.Table.{Table}
use Rattle.serial_model.specs.declared.answer.Answer.{Answer}
use Rattle.serial_model.specs.declared.halt.Halt.{Halt}
use Rattle.serial_model.specs.Eval.{Out, then_go}
use Rattle.eval_step.specs.declared.context.Context.{Context}
use Rattle.eval_frames.specs.Control.{Control}
use Rattle.eval_frames.specs.Control as control
use Rattle.eval_step.specs.declared.item.Item.{Item}
use Rattle.eval_step.specs.declared.item.Item.TheVariants as item
use Rattle.eval_step.specs.Resume.{run, resume, needs_frame, arguments_on}
use Rattle.eval_step.specs.Walk.{ItemIn, ComesTo, halted}

module _ (table : Table) (inside : Bool) (meant : ℕ → List Answer → Out) (frame : List Value) (stack : List Item) (items : All (ItemIn (length table.nodes)) stack) where
  -- a node is entered, and an item says what comes behind it
  pub comes_to_pushed : (new : List Item) (first : Item) (id : NodeId) → new ≡ first ∷ stack → ItemIn (length table.nodes) first → id.index < length table.nodes
      → ((fuel : ℕ) (answers : List Answer) → meant fuel answers ≡ then_go (run table inside frame id fuel answers) (resume table inside frame (first ∷ stack)))
      → ComesTo table inside meant (2 * length stack + 3) (record { frame = frame; stack = new }) (control.Enter id)
  comes_to_pushed new first id pushed there below same =
      let P : List Item → Type 0 = λ s. ComesTo table inside meant (2 * length stack + 3) (record { frame = frame; stack = s }) (control.Enter id) in
      subst P (sym pushed) (record {
        same = same;
        there = record { items = All-cons (ItemIn (length table.nodes)) first stack there items; here = below };
        small = omega arith;
      })

  -- a node is entered, and nothing comes behind it but what did before
  pub comes_to_node : (id : NodeId) → id.index < length table.nodes
      → ((fuel : ℕ) (answers : List Answer) → meant fuel answers ≡ then_go (run table inside frame id fuel answers) (resume table inside frame stack))
      → ComesTo table inside meant (2 * length stack + 3) (record { frame = frame; stack = stack }) (control.Enter id)
  comes_to_node id below same = record { same = same; there = record { items = items; here = below }; small = omega arith }

  -- the arguments of a node come next
  pub comes_to_arguments : (id : NodeId) (values : List Value) (number : ℕ) → id.index < length table.nodes
      → ((fuel : ℕ) (answers : List Answer)
      → meant fuel answers ≡ then_go (arguments_on table (run table inside) frame (slice_get table.nodes id.index) values number fuel answers) (resume table inside frame stack))
      → ComesTo table inside meant (2 * length stack + 4) (record { frame = frame; stack = stack }) (control.Arguments id values number)
  comes_to_arguments id values number below same = record { same = same; there = record { items = items; here = below }; small = omega arith }

  -- there is a value
  pub comes_to_value : (v : Value)
      → ((fuel : ℕ) (answers : List Answer) → meant fuel answers ≡ resume table inside frame stack v fuel answers)
      → ComesTo table inside meant (2 * length stack + 3) (record { frame = frame; stack = stack }) (control.Deliver v)
  comes_to_value v same = record { same = same; there = record { items = items; here = tt }; small = omega arith }

  -- the machine stops
  pub comes_to_halt : (stop : Halt)
      → ((fuel : ℕ) (answers : List Answer) → meant fuel answers ≡ halted (resume table inside frame stack) stop fuel answers)
      → ComesTo table inside meant (2 * length stack + 3) (record { frame = frame; stack = stack }) (control.Halted stop)
  comes_to_halt stop same = record { same = same; there = record { items = items; here = tt }; small = omega arith }

-- somewhat more of a stack may be allowed
pub comes_to_more : (table : Table) (inside : Bool) (meant : ℕ → List Answer → Out) (count : ℕ) (new : Context) (stands : Control)
    → ComesTo table inside meant (2 * count + 3) new stands → ComesTo table inside meant (2 * count + 4) new stands
comes_to_more table inside meant count new stands comes = record { same = comes.same; there = comes.there; small = let small = comes.small in omega arith }

-- where the frame is not looked at again any other frame serves as well
pub resume-unneeded : (table : Table) (inside : Bool) (frame other : List Value) (stack : List Item) (v : Value) (fuel : ℕ) (answers : List Answer) → needs_frame stack ≡ false
    → resume table inside frame stack v fuel answers ≡ resume table inside other stack v fuel answers
unfolding resume
resume-unneeded table inside frame other [] v fuel answers none = refl
resume-unneeded table inside frame other (item.Back outer ∷ stack) v fuel answers none = refl
resume-unneeded table inside frame other (item.Shrink count ∷ stack) v fuel answers none = absurd (cc)
resume-unneeded table inside frame other (item.Arguments id values number ∷ stack) v fuel answers none = absurd (cc)
resume-unneeded table inside frame other (item.Choose taken second ∷ stack) v fuel answers none = absurd (cc)
resume-unneeded table inside frame other (item.Do id number ∷ stack) v fuel answers none = absurd (cc)
resume-unneeded table inside frame other (item.Let id number ∷ stack) v fuel answers none = absurd (cc)
resume-unneeded table inside frame other (item.Steps id number binds ∷ stack) v fuel answers none = absurd (cc)
