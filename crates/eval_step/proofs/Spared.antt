-- Evaluations that do not read a place of their frame.
use Rattle.std.proofs.Common.{◌≡◌, ◌∙◌, ℕ, zero, suc, ◌+◌, ◌≤◌, Bool, true, false, List, [], ◌∷◌, ◌++◌, length, drop, refl, sym, ap, subst, arith}
use Rattle.std.specs.Prelude.{All, IsSomeAnd, Option, None, Some}
use Rattle.std.specs.List.{slice_get}
use Rattle.std.specs.Option.{option_map}
use Rattle.std.proofs.lemmas.List.Elements.{All-nil, All-cons, All-head, All-tail}
use Rattle.value_core.specs.Place.{Spot}
use Rattle.value_core.specs.declared.value.Value.{Value}
use Rattle.value_core.specs.primitives.Kinds.{is_false}
use Rattle.core_syntax.specs.declared.node.Node.{Node}
use Rattle.core_syntax.specs.declared.node.Node.TheVariants as node
use Rattle.core_syntax.specs.declared.node_id.NodeId.{NodeId}
use Rattle.core_syntax.specs.declared.row.Row.{Row}
use Rattle.core_syntax.specs.Table.{Table, node_at}
use Rattle.serial_model.specs.declared.answer.Answer.{Answer}
use Rattle.serial_model.specs.Eval.{Out, Next, then_go, each, in_turn, bind, choose, come, level}
use Rattle.serial_model.specs.Operation.{arguments, operate}
use Rattle.eval_step.specs.declared.item.Item.{Item}
use Rattle.eval_step.specs.declared.item.Item.TheVariants as item
use Rattle.eval_frames.specs.Finish.{finish}
use Rattle.eval_frames.specs.Frame.{shorter}
use Rattle.eval_step.specs.Resume.{run, resume, arguments_on, parts_on, bound_on}
use Rattle.eval_frames.specs.Agreeing.{AgreeBut}
use Rattle.eval_step.specs.Unread.{reads, Spares, SparesFrom, SparesBehind, ItemSpares}
use Rattle.eval_step.proofs.Frames.{agree-push, agree-shorter, agree-operate, agree-finish}
use Rattle.eval_step.proofs.Sequencing.{then_go-same}
use Rattle.eval_step.proofs.Runs.{run-enters, run-spent}
use Rattle.eval_step.proofs.Taking.{drop_some, drop_none, drop_zero}

-- two evaluations that come to the same, and then the same with their values
then-same : (a b : Out) (k l : Next) → a ≡ b → ((v : Value) (fuel : ℕ) (answers : List Answer) → k v fuel answers ≡ l v fuel answers) → then_go a k ≡ then_go b l
then-same a b k l same rest = ap (λ out. then_go out k) same ∙ then_go-same b k l rest

module _ (table : Table) (inside : Bool) (place : ℕ) where
  each-spared : (frame other : List Value) → AgreeBut place frame other → (ids : List NodeId) → All (Spares table place) ids → (fuel : ℕ) (answers : List Answer)
      (k l : List Value → ℕ → List Answer → Out) → ((values : List Value) (fuel : ℕ) (answers : List Answer) → k values fuel answers ≡ l values fuel answers)
      → each (run table inside) frame ids fuel answers k ≡ each (run table inside) other ids fuel answers l
  each-spared frame other agree [] all fuel answers k l rest = rest [] fuel answers
  each-spared frame other agree (id ∷ ids) all fuel answers k l rest =
      let first = All-head (Spares table place) id ids all in
      then-same _ _ (λ v fuel answers. each (run table inside) frame ids fuel answers (λ values. k (v ∷ values))) (λ v fuel answers. each (run table inside) other ids fuel answers (λ values. l (v ∷ values)))
      (first.same inside frame other agree fuel answers)
      (λ v fuel answers. each-spared frame other agree ids (All-tail (Spares table place) id ids all) fuel answers (λ values. k (v ∷ values)) (λ values. l (v ∷ values)) (λ values. rest (v ∷ values)))

  in_turn-spared : (frame other : List Value) → AgreeBut place frame other → (ids : List NodeId) → All (Spares table place) ids → (fuel : ℕ) (answers : List Answer)
      → in_turn (run table inside) frame ids fuel answers ≡ in_turn (run table inside) other ids fuel answers
  in_turn-spared frame other agree [] all fuel answers = refl
  in_turn-spared frame other agree (id ∷ []) all fuel answers =
      let first = All-head (Spares table place) id [] all in first.same inside frame other agree fuel answers
  in_turn-spared frame other agree (id ∷ next ∷ ids) all fuel answers =
      let first = All-head (Spares table place) id (next ∷ ids) all in
      then-same _ _ (λ v fuel answers. in_turn (run table inside) frame (next ∷ ids) fuel answers) (λ v fuel answers. in_turn (run table inside) other (next ∷ ids) fuel answers)
      (first.same inside frame other agree fuel answers)
      (λ v fuel answers. in_turn-spared frame other agree (next ∷ ids) (All-tail (Spares table place) id (next ∷ ids) all) fuel answers)

  bind-spared : (frame other : List Value) → AgreeBut place frame other → (ids : List NodeId) (body : NodeId) → All (Spares table place) (ids ++ body ∷ []) → (fuel : ℕ) (answers : List Answer)
      → bind (run table inside) frame ids body fuel answers ≡ bind (run table inside) other ids body fuel answers
  bind-spared frame other agree [] body all fuel answers =
      let first = All-head (Spares table place) body [] all in first.same inside frame other agree fuel answers
  bind-spared frame other agree (id ∷ ids) body all fuel answers =
      let first = All-head (Spares table place) id (ids ++ body ∷ []) all in
      then-same _ _ (λ v fuel answers. bind (run table inside) (frame ++ v ∷ []) ids body fuel answers) (λ v fuel answers. bind (run table inside) (other ++ v ∷ []) ids body fuel answers)
      (first.same inside frame other agree fuel answers)
      (λ v fuel answers. bind-spared (frame ++ v ∷ []) (other ++ v ∷ []) (agree-push place frame other v agree) ids body (All-tail (Spares table place) id (ids ++ body ∷ []) all) fuel answers)

  choose-spared : (frame other : List Value) → AgreeBut place frame other → (b : Bool) (taken otherwise : NodeId) → Spares table place taken → Spares table place otherwise → (fuel : ℕ) (answers : List Answer)
      → choose (run table inside) frame b taken otherwise fuel answers ≡ choose (run table inside) other b taken otherwise fuel answers
  choose-spared frame other agree true taken otherwise first second fuel answers = second.same inside frame other agree fuel answers
  choose-spared frame other agree false taken otherwise first second fuel answers = first.same inside frame other agree fuel answers

  level-spared : (frame other : List Value) → AgreeBut place frame other → (at : Spot) (which : Node) → reads place which ≡ false → All (Spares table place) (arguments which) → (fuel : ℕ) (answers : List Answer)
      → level table inside (run table inside) frame at which fuel answers ≡ level table inside (run table inside) other at which fuel answers
  level-spared frame other agree at (node.Do parts) own all fuel answers = in_turn-spared frame other agree parts all fuel answers
  level-spared frame other agree at (node.If condition taken otherwise) own all fuel answers =
      let rest = All-tail (Spares table place) condition (taken ∷ otherwise ∷ []) all in
      let first = All-head (Spares table place) condition (taken ∷ otherwise ∷ []) all in
      let second = All-head (Spares table place) taken (otherwise ∷ []) rest in
      let third = All-head (Spares table place) otherwise [] (All-tail (Spares table place) taken (otherwise ∷ []) rest) in
      then-same _ _ (λ v fuel answers. choose (run table inside) frame (is_false v) taken otherwise fuel answers) (λ v fuel answers. choose (run table inside) other (is_false v) taken otherwise fuel answers)
      (first.same inside frame other agree fuel answers)
      (λ v fuel answers. choose-spared frame other agree (is_false v) taken otherwise second third fuel answers)
  level-spared frame other agree at (node.Let bound body) own all fuel answers = bind-spared frame other agree bound body all fuel answers
  level-spared frame other agree at (node.Dosync body) own all fuel answers = absurd (cc)
  level-spared frame other agree at which own all fuel answers =
      each-spared frame other agree (arguments which) all fuel answers (λ values. come table (run table inside) at (operate frame which values)) (λ values. come table (run table inside) at (operate other which values))
      (λ values fuel answers. ap (λ meant. come table (run table inside) at meant fuel answers) (agree-operate which place frame other values own agree))

-- a node that does not read the place itself, and whose arguments are spared
pub node-spared : (table : Table) (place : ℕ) (id : NodeId) → IsSomeAnd (node_at table.nodes id) (SparesFrom table place 0) → Spares table place id
node-spared table place id spares = record { same = λ inside frame other agree fuel answers. on (slice_get table.nodes id.index) refl spares inside frame other agree fuel answers }
  where
    on : (found : Option Row) → slice_get table.nodes id.index ≡ found → IsSomeAnd (option_map (λ row. row.node) found) (SparesFrom table place 0)
        → (inside : Bool) (frame other : List Value) → AgreeBut place frame other → (fuel : ℕ) (answers : List Answer)
        → run table inside frame id fuel answers ≡ run table inside other id fuel answers
    on None is none inside frame other agree fuel answers = absurd none
    on (Some row) is spared inside frame other agree zero answers = run-spent table inside frame id answers ∙ sym (run-spent table inside other id answers)
    on (Some row) is spared inside frame other agree (suc fuel) answers =
        run-enters table inside frame id row fuel answers is
        ∙ level-spared table inside place frame other agree row.at row.node spared.own (subst (All (Spares table place)) (drop_zero (arguments row.node)) spared.others) fuel answers
        ∙ sym (run-enters table inside other id row fuel answers is)

-- ---- arguments from a number on
pub spares_on : (table : Table) (place number : ℕ) (which : Node) (child : NodeId) → slice_get (arguments which) number ≡ Some child → Spares table place child
    → All (Spares table place) (drop (number + 1) (arguments which)) → All (Spares table place) (drop number (arguments which))
spares_on table place number which child found first rest =
    subst (All (Spares table place)) (sym (drop_some (arguments which) number child found)) (All-cons (Spares table place) child (drop (number + 1) (arguments which)) first rest)

pub spares_none : (table : Table) (place number : ℕ) (which : Node) → slice_get (arguments which) number ≡ None → All (Spares table place) (drop number (arguments which))
spares_none table place number which none = subst (All (Spares table place)) (sym (drop_none (arguments which) number none)) (All-nil (Spares table place))

-- ---- items
-- the expressions and the body of a let from a number on
bound-parts : {X : Type 0} (P : X → Type 0) (number : ℕ) (bound : List X) (body : X) → number ≤ length bound → All P (drop number (bound ++ body ∷ [])) → All P (drop number bound ++ body ∷ [])
bound-parts P zero [] body le all = all
bound-parts P (suc number) [] body le all = absurd (omega arith)
bound-parts P zero (x ∷ bound) body le all = all
bound-parts P (suc number) (x ∷ bound) body le all = bound-parts P number bound body (omega arith) all

pub behind-nothing : (table : Table) (place : ℕ) → SparesBehind table place []
unfolding resume
behind-nothing table place = record { same = λ inside frame other agree v fuel answers. refl }

pub behind-back : (table : Table) (place : ℕ) (outer : List Value) (stack : List Item) → SparesBehind table place (item.Back outer ∷ stack)
unfolding resume
behind-back table place outer stack = record { same = λ inside frame other agree v fuel answers. refl }

pub back-spares : (table : Table) (place : ℕ) (outer : List Value) → ItemSpares table place (item.Back outer)
back-spares table place outer = record { before = λ stack behind. behind-back table place outer stack }

pub shrink-spares : (table : Table) (place count : ℕ) → ItemSpares table place (item.Shrink count)
unfolding resume
shrink-spares table place count = record {
  before = λ stack behind. record {
    same = λ inside frame other agree v fuel answers.
        behind.same inside (shorter count frame) (shorter count other) (agree-shorter count place frame other agree) v fuel answers;
  };
}

pub arguments-spare : (table : Table) (place : ℕ) (id : NodeId) (values : List Value) (number : ℕ) → IsSomeAnd (node_at table.nodes id) (SparesFrom table place number)
    → ItemSpares table place (item.Arguments id values number)
unfolding resume
arguments-spare table place id values number spares = record {
  before = λ stack behind. record {
    same = λ inside frame other agree v fuel answers.
        on (slice_get table.nodes id.index) spares stack behind inside frame other agree (values ++ v ∷ []) fuel answers;
  };
}
  where
    on : (found : Option Row) → IsSomeAnd (option_map (λ row. row.node) found) (SparesFrom table place number) → (stack : List Item) → SparesBehind table place stack
        → (inside : Bool) (frame other : List Value) → AgreeBut place frame other → (all : List Value) (fuel : ℕ) (answers : List Answer)
        → then_go (arguments_on table (run table inside) frame found all number fuel answers) (resume table inside frame stack)
        ≡ then_go (arguments_on table (run table inside) other found all number fuel answers) (resume table inside other stack)
    on None none stack behind inside frame other agree all fuel answers = absurd none
    on (Some row) spared stack behind inside frame other agree all fuel answers =
        then-same _ _ (resume table inside frame stack) (resume table inside other stack)
        (each-spared table inside place frame other agree (drop number (arguments row.node)) spared.others fuel answers
        (λ rest. come table (run table inside) row.at (finish frame row.node (all ++ rest))) (λ rest. come table (run table inside) row.at (finish other row.node (all ++ rest)))
        (λ rest fuel answers. ap (λ meant. come table (run table inside) row.at meant fuel answers) (agree-finish row.node place frame other (all ++ rest) spared.own agree)))
        (λ v fuel answers. behind.same inside frame other agree v fuel answers)

pub do-spares : (table : Table) (place : ℕ) (id : NodeId) (number : ℕ) → IsSomeAnd (node_at table.nodes id) (SparesFrom table place number)
    → ItemSpares table place (item.Do id number)
unfolding resume
do-spares table place id number spares = record {
  before = λ stack behind. record {
    same = λ inside frame other agree v fuel answers.
        then-same _ _ (resume table inside frame stack) (resume table inside other stack)
        (on (node_at table.nodes id) spares inside frame other agree fuel answers)
        (λ v fuel answers. behind.same inside frame other agree v fuel answers);
  };
}
  where
    on : (found : Option Node) → IsSomeAnd found (SparesFrom table place number) → (inside : Bool) (frame other : List Value) → AgreeBut place frame other → (fuel : ℕ) (answers : List Answer)
        → parts_on (run table inside) frame found number fuel answers ≡ parts_on (run table inside) other found number fuel answers
    on None none inside frame other agree fuel answers = absurd none
    on (Some (node.Do parts)) spared inside frame other agree fuel answers = in_turn-spared table inside place frame other agree (drop number parts) spared.others fuel answers
    on (Some which) spared inside frame other agree fuel answers = no_parts number inside frame other fuel answers
      where
        no_parts : (n : ℕ) (inside : Bool) (frame other : List Value) (fuel : ℕ) (answers : List Answer)
            → in_turn (run table inside) frame (drop n []) fuel answers ≡ in_turn (run table inside) other (drop n []) fuel answers
        no_parts zero inside frame other fuel answers = refl
        no_parts (suc n) inside frame other fuel answers = refl

pub let-spares : (table : Table) (place : ℕ) (id : NodeId) (bound : List NodeId) (body : NodeId) (number : ℕ) → node_at table.nodes id ≡ Some (node.Let bound body) → number ≤ length bound
    → IsSomeAnd (node_at table.nodes id) (SparesFrom table place number) → ItemSpares table place (item.Let id number)
unfolding resume
let-spares table place id bound body number seen le spares = record {
  before = λ stack behind. record {
    same = λ inside frame other agree v fuel answers.
        let more = agree-push place frame other v agree in
        let spared = subst (λ found. IsSomeAnd found (SparesFrom table place number)) seen spares in
        ap (λ found. bound_on (run table inside) (frame ++ v ∷ []) found number (λ outer. resume table inside outer stack) fuel answers) seen
        ∙ then-same _ _ (resume table inside (shorter number (frame ++ v ∷ [])) stack) (resume table inside (shorter number (other ++ v ∷ [])) stack)
        (bind-spared table inside place (frame ++ v ∷ []) (other ++ v ∷ []) more (drop number bound) body (bound-parts (Spares table place) number bound body le spared.others) fuel answers)
        (λ w fuel answers. behind.same inside (shorter number (frame ++ v ∷ [])) (shorter number (other ++ v ∷ [])) (agree-shorter number place (frame ++ v ∷ []) (other ++ v ∷ []) more) w fuel answers)
        ∙ ap (λ found. bound_on (run table inside) (other ++ v ∷ []) found number (λ outer. resume table inside outer stack) fuel answers) (sym seen);
  };
}

pub choose-spares : (table : Table) (place : ℕ) (taken otherwise : NodeId) → IsSomeAnd (node_at table.nodes taken) (SparesFrom table place 0) → IsSomeAnd (node_at table.nodes otherwise) (SparesFrom table place 0)
    → ItemSpares table place (item.Choose taken otherwise)
unfolding resume
choose-spares table place taken otherwise first second = record {
  before = λ stack behind. record {
    same = λ inside frame other agree v fuel answers.
        then-same _ _ (resume table inside frame stack) (resume table inside other stack)
        (choose-spared table inside place frame other agree (is_false v) taken otherwise (node-spared table place taken first) (node-spared table place otherwise second) fuel answers)
        (λ w fuel answers. behind.same inside frame other agree w fuel answers);
  };
}

-- ---- the stack
pub behind-item : (table : Table) (place depth : ℕ) (stack : List Item) (first : Item) → slice_get stack depth ≡ Some first → ItemSpares table place first
    → (SparesBehind table place (drop depth stack) → SparesBehind table place stack) → SparesBehind table place (drop (depth + 1) stack) → SparesBehind table place stack
behind-item table place depth stack first found spares whole rest =
    whole (subst (SparesBehind table place) (sym (drop_some stack depth first found)) (spares.before (drop (depth + 1) stack) rest))

pub behind-end : (table : Table) (place depth : ℕ) (stack : List Item) → slice_get stack depth ≡ None
    → (SparesBehind table place (drop depth stack) → SparesBehind table place stack) → SparesBehind table place stack
behind-end table place depth stack none whole = whole (subst (SparesBehind table place) (sym (drop_none stack depth none)) (behind-nothing table place))

pub behind-frame : (table : Table) (place depth : ℕ) (stack : List Item) (outer : List Value) → slice_get stack depth ≡ Some (item.Back outer)
    → (SparesBehind table place (drop depth stack) → SparesBehind table place stack) → SparesBehind table place stack
behind-frame table place depth stack outer found whole =
    whole (subst (SparesBehind table place) (sym (drop_some stack depth (item.Back outer) found)) (behind-back table place outer (drop (depth + 1) stack)))
