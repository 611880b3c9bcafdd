-- What is made, read in a table where its rows and the functions of its loops stand.
use Rattle.std.proofs.Common.{◌≡◌, ◌∙◌, ℕ, ◌+◌, List, [], ◌∷◌, ◌++◌, length, refl, sym, ap, subst, arith, append_assoc, append-nil}
use Rattle.std.specs.Prelude.{Some}
use Rattle.std.specs.List.{slice_get}
use Rattle.std.specs.Option.{option_map}
use Rattle.value_core.specs.Place.{Spot}
use Rattle.core_syntax.specs.declared.function.Function.{Function}
use Rattle.core_syntax.specs.declared.node.Node.{Node}
use Rattle.core_syntax.specs.declared.node_id.NodeId.{NodeId}
use Rattle.core_syntax.specs.declared.row.Row.{Row}
use Rattle.core_syntax.specs.Table.{Table}
use Rattle.program_plan.specs.Made.{Making, node, nothing, followed, in_loop}
use Rattle.program_plan.specs.Reads.{Stands}
use Rattle.program_plan.proofs.Holding.{HasRows, rows_first, rows_second, HaveNumbers}

-- the answer is as it should be where the rows are in the table, and where the functions of the loops have these numbers;
-- the functions behind them have the numbers behind
pub record Gives (table : Table) {A : Type 0} (making : Making A) (numbers : List ℕ) (Due : A → Type 0) : Type 0 where
  pub gives : (from : ℕ) (others : List ℕ) (functions : List Function) → HasRows table.nodes from (making from).rows
      → HaveNumbers table.functions (numbers ++ others) ((making from).loops ++ functions) → Due (making from).answer × HaveNumbers table.functions others functions

pub gives_node : (table : Table) (at : Spot) (n : Node) → Gives table (node at n) [] (λ id. Stands table at n id)
unfolding node
gives_node table at n = record {
  gives = λ from others functions has numbers.
      let row : Row = record { node = n; at = at } in
      let none : from + 0 ≡ from = omega arith in
      let here : slice_get table.nodes from ≡ Some row = ap (slice_get table.nodes) (sym none) ∙ has.there 0 row refl in
      (record { node_is = ap (option_map (λ (r : Row). r.node)) here; place_is = ap (option_map (λ (r : Row). r.at)) here }, numbers);
}

pub gives_nothing : {A : Type 0} (table : Table) (x : A) (Due : A → Type 0) → Due x → Gives table (nothing x) [] Due
unfolding nothing
gives_nothing table x Due due = record { gives = λ from others functions has numbers. (due, numbers) }

pub gives_followed : {A B : Type 0} {table : Table} {first : Making A} {xs ys : List ℕ} {Mid : A → Type 0} {Due : B → Type 0} (second : A → Making B)
    → Gives table first xs Mid → ((x : A) → Mid x → Gives table (second x) ys Due) → Gives table (followed first second) (xs ++ ys) Due
unfolding followed
gives_followed {A} {B} {table} {first} {xs} {ys} {Mid} {Due} second p q = record {
  gives = λ from others functions has numbers.
      let a = first from in
      let b = second a.answer (from + length a.rows) in
      let early = subst (λ (l : List Function). HaveNumbers table.functions (xs ++ (ys ++ others)) l) (append_assoc a.loops b.loops functions)
      (subst (λ (l : List ℕ). HaveNumbers table.functions l ((a.loops ++ b.loops) ++ functions)) (append_assoc xs ys others) numbers) in
      let mid = p.gives from (ys ++ others) (b.loops ++ functions) (rows_first from a.rows b.rows has) early in
      (q a.answer mid.0).gives (from + length a.rows) others functions (rows_second from a.rows b.rows has) mid.1;
}

pub gives_in_loop : {A : Type 0} {table : Table} {inside : Making A} {xs : List ℕ} {Mid Due : A → Type 0} (function : A → Function) (number : ℕ)
    → Gives table inside xs Mid → ((x : A) → Mid x → slice_get table.functions number ≡ Some (function x) → Due x) → Gives table (in_loop function inside) (number ∷ xs) Due
unfolding in_loop
gives_in_loop {A} {table} {inside} {xs} {Mid} {Due} function number p due = record {
  gives = λ from others functions has numbers.
      let mid = p.gives from others functions has numbers.1 in
      (due (inside from).answer mid.0 numbers.0, mid.1);
}

-- with less to say of the answer
pub gives_weaker : {A : Type 0} {table : Table} {making : Making A} {numbers : List ℕ} {More Due : A → Type 0} → ((x : A) → More x → Due x) → Gives table making numbers More → Gives table making numbers Due
gives_weaker {A} {table} {making} {numbers} {More} {Due} weaker p = record {
  gives = λ from others functions has have.
      let given = p.gives from others functions has have in
      (weaker (making from).answer given.0, given.1);
}

-- the numbers under another name
pub gives_numbers : {A : Type 0} {table : Table} {making : Making A} {xs ys : List ℕ} {Due : A → Type 0} → xs ≡ ys → Gives table making xs Due → Gives table making ys Due
gives_numbers {A} {table} {making} {xs} {ys} {Due} same p = subst (λ l. Gives table making l Due) same p

-- a step behind which no loop begins
pub gives_then : {A B : Type 0} {table : Table} {first : Making A} {xs : List ℕ} {Mid : A → Type 0} {Due : B → Type 0} (second : A → Making B)
    → Gives table first xs Mid → ((x : A) → Mid x → Gives table (second x) [] Due) → Gives table (followed first second) xs Due
gives_then {A} {B} {table} {first} {xs} {Mid} {Due} second p q = gives_numbers (append-nil xs) (gives_followed second p q)

-- the node that is due
pub gives_due : {table : Table} {Due : NodeId → Type 0} (at : Spot) (n : Node) → ((id : NodeId) → Stands table at n id → Due id) → Gives table (node at n) [] Due
gives_due {table} {Due} at n due = gives_weaker due (gives_node table at n)
