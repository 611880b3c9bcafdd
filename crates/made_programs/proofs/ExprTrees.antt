-- Expressions by their shape, what they name, and how many nodes they become.
use Rattle.std.proofs.Common.{◌≡◌, ◌≤◌, ℕ, ◌+◌, ℤ, arith, List, [], ◌∷◌, ◌++◌, map, length, length-append, refl, ap, ◌∙◌}
use Rattle.value_core.specs.Place.{Spot}
use Rattle.core_syntax.specs.declared.function.Function.{Function}
use Rattle.core_syntax.specs.declared.node.Node.{Node}
use Rattle.core_syntax.specs.declared.node_id.NodeId.{NodeId}
use Rattle.resolved_forms.specs.declared.expr.Expr.{Expr}
use Rattle.resolved_forms.specs.declared.expr.ExprKind.TheOpen as one
use Rattle.resolved_forms.specs.declared.expr.ExprKind.TheVariants as expr
use Rattle.resolved_forms.specs.declared.expr.Looping.{Looping}
use Rattle.resolved_forms.specs.declared.head.Head.{Head}
use Rattle.resolved_forms.specs.declared.survey.Survey.{Survey}
use Rattle.resolved_forms.specs.InRange.{expr_at}
use Rattle.resolved_forms.specs.Survey as named
use Rattle.resolved_forms.specs.Survey.{surveyed}
use Rattle.program_plan.specs.Emitted.{Emitting, each, emitted, local, loop_end}
use Rattle.program_plan.specs.Frame.{Frame, loop_frame}
use Rattle.program_plan.specs.Made.{Making, followed, gathered, in_loop, node, nothing}
use Rattle.program_plan.proofs.Unfolded.{emitted_apply, emitted_global, emitted_int, emitted_let, emitted_local, emitted_loop, emitted_nil, emitted_str, surveyed_apply, surveyed_global, surveyed_int, surveyed_let, surveyed_local, surveyed_loop, surveyed_nil, surveyed_str}
use Rattle.made_programs.proofs.CoreTrees.{CoreTree, CoreTrees, behind_first, first_in, parts_in, place_of, second_of, third_of}

-- What a core form comes to, by its shape: a head with arguments, or behind the name of a behaviour, one round what the same form comes to, the items of a vector,
-- and two bindings of a let or a loop with a body.
mutual
  pub data ExprTree : Type 0 where
    nil : ExprTree
    integer : ℤ → ExprTree
    string : List ℕ → ExprTree
    level : ℕ → ExprTree
    global : ℕ → ExprTree
    apply : Head → ExprTrees → ExprTree
    starts : Head → ExprTrees → ExprTree
    round : Head → ExprTree → ExprTree
    items : Head → ExprTrees → ExprTree
    bound : ExprTree → ExprTree → ExprTree → ExprTree
    loop : Looping → ExprTree → ExprTree → ExprTree → ExprTree

  pub data ExprTrees : Type 0 where
    none : ExprTrees
    more : ExprTree → ExprTrees → ExprTrees

-- the second and the fourth item of the vector of bindings
abbrev pub first_value : CoreTree → CoreTree
first_value c = second_of (second_of c)

abbrev pub second_value : CoreTree → CoreTree
second_value c = first_in (behind_first (behind_first (behind_first (parts_in (second_of c)))))

-- the expression of that shape, whose parts stand where those of the core form do
abbrev mutual
  pub expr_from : ExprTree → CoreTree → Expr
  expr_from ExprTree.nil c = expr_at (place_of c) expr.Nil
  expr_from (ExprTree.integer n) c = expr_at (place_of c) (expr.Int n)
  expr_from (ExprTree.string text) c = expr_at (place_of c) (expr.Str text)
  expr_from (ExprTree.level l) c = expr_at (place_of c) (expr.Local l)
  expr_from (ExprTree.global n) c = expr_at (place_of c) (expr.Global n)
  expr_from (ExprTree.apply head ts) c = expr_at (place_of c) (expr.Apply head (exprs_from ts (behind_first (parts_in c))))
  expr_from (ExprTree.starts head ts) c = expr_at (place_of c) (expr.Apply head (exprs_from ts (behind_first (behind_first (parts_in c)))))
  expr_from (ExprTree.round head t) c = expr_at (place_of c) (expr.Apply head (expr_from t c ∷ []))
  expr_from (ExprTree.items head ts) c = expr_at (place_of c) (expr.Apply head (exprs_from ts (parts_in c)))
  expr_from (ExprTree.bound first second body) c =
      expr_at (place_of c) (expr.Let (expr_from first (first_value c) ∷ expr_from second (second_value c) ∷ expr_from body (third_of c) ∷ []))
  expr_from (ExprTree.loop own first second body) c =
      expr_at (place_of c) (expr.Loop own (expr_from first (first_value c) ∷ expr_from second (second_value c) ∷ expr_from body (third_of c) ∷ []))

  pub exprs_from : ExprTrees → CoreTrees → List Expr
  exprs_from ExprTrees.none cs = []
  exprs_from (ExprTrees.more t ts) cs = expr_from t (first_in cs) ∷ exprs_from ts (behind_first cs)

-- what it names
module _ (behaviours : ℕ) where
  abbrev mutual
    pub survey_of : ExprTree → Survey
    survey_of ExprTree.nil = named.nothing
    survey_of (ExprTree.integer n) = named.nothing
    survey_of (ExprTree.string text) = named.nothing
    survey_of (ExprTree.level l) = named.of_local l
    survey_of (ExprTree.global n) = named.of_global n
    survey_of (ExprTree.apply head ts) = named.kind_step behaviours (one.Apply head (surveys_of ts))
    survey_of (ExprTree.starts head ts) = named.kind_step behaviours (one.Apply head (surveys_of ts))
    survey_of (ExprTree.round head t) = named.kind_step behaviours (one.Apply head (survey_of t ∷ []))
    survey_of (ExprTree.items head ts) = named.kind_step behaviours (one.Apply head (surveys_of ts))
    survey_of (ExprTree.bound first second body) = named.all_of (survey_of first ∷ survey_of second ∷ survey_of body ∷ [])
    survey_of (ExprTree.loop own first second body) = named.of_loop_parts behaviours own (survey_of first ∷ survey_of second ∷ survey_of body ∷ [])

    pub surveys_of : ExprTrees → List Survey
    surveys_of ExprTrees.none = []
    surveys_of (ExprTrees.more t ts) = survey_of t ∷ surveys_of ts

  three : {a b c x y z : Survey} → a ≡ x → b ≡ y → c ≡ z → a ∷ b ∷ c ∷ [] ≡ x ∷ y ∷ z ∷ []
  three {a} {b} {c} {x} {y} {z} e f g = ap (λ s. s ∷ b ∷ c ∷ []) e ∙ ap (λ s. x ∷ s ∷ c ∷ []) f ∙ ap (λ s. x ∷ y ∷ s ∷ []) g

  mutual
    pub survey_is : (t : ExprTree) (c : CoreTree) → surveyed behaviours (expr_from t c) ≡ survey_of t
    survey_is ExprTree.nil c = surveyed_nil behaviours (place_of c)
    survey_is (ExprTree.integer n) c = surveyed_int behaviours (place_of c) n
    survey_is (ExprTree.string text) c = surveyed_str behaviours (place_of c) text
    survey_is (ExprTree.level l) c = surveyed_local behaviours (place_of c) l
    survey_is (ExprTree.global n) c = surveyed_global behaviours (place_of c) n
    survey_is (ExprTree.apply head ts) c =
        surveyed_apply behaviours (place_of c) head (exprs_from ts (behind_first (parts_in c)))
        ∙ ap (λ l. named.kind_step behaviours (one.Apply head l)) (surveys_are ts (behind_first (parts_in c)))
    survey_is (ExprTree.starts head ts) c =
        surveyed_apply behaviours (place_of c) head (exprs_from ts (behind_first (behind_first (parts_in c))))
        ∙ ap (λ l. named.kind_step behaviours (one.Apply head l)) (surveys_are ts (behind_first (behind_first (parts_in c))))
    survey_is (ExprTree.round head t) c =
        surveyed_apply behaviours (place_of c) head (expr_from t c ∷ []) ∙ ap (λ s. named.kind_step behaviours (one.Apply head (s ∷ []))) (survey_is t c)
    survey_is (ExprTree.items head ts) c =
        surveyed_apply behaviours (place_of c) head (exprs_from ts (parts_in c)) ∙ ap (λ l. named.kind_step behaviours (one.Apply head l)) (surveys_are ts (parts_in c))
    survey_is (ExprTree.bound first second body) c =
        surveyed_let behaviours (place_of c) (expr_from first (first_value c) ∷ expr_from second (second_value c) ∷ expr_from body (third_of c) ∷ [])
        ∙ ap named.all_of (three (survey_is first (first_value c)) (survey_is second (second_value c)) (survey_is body (third_of c)))
    survey_is (ExprTree.loop own first second body) c =
        surveyed_loop behaviours (place_of c) own (expr_from first (first_value c) ∷ expr_from second (second_value c) ∷ expr_from body (third_of c) ∷ [])
        ∙ ap (named.of_loop_parts behaviours own) (three (survey_is first (first_value c)) (survey_is second (second_value c)) (survey_is body (third_of c)))

    pub surveys_are : (ts : ExprTrees) (cs : CoreTrees) → map (surveyed behaviours) (exprs_from ts cs) ≡ surveys_of ts
    surveys_are ExprTrees.none cs = refl
    surveys_are (ExprTrees.more t ts) cs =
        ap (λ s. s ∷ map (surveyed behaviours) (exprs_from ts (behind_first cs))) (survey_is t (first_in cs)) ∙ ap (λ l. survey_of t ∷ l) (surveys_are ts (behind_first cs))

-- what is made has at most so many nodes
pub record HasRows {A : Type 0} (most : ℕ) (making : Making A) : Type 0 where
  pub at_most : (count : ℕ) → length (making count).rows ≤ most

pub rows_node : (at : Spot) (n : Node) → HasRows 1 (node at n)
unfolding node
rows_node at n = record { at_most = λ count. omega arith }

rows_nothing : {A : Type 0} (x : A) → HasRows 0 (nothing x)
unfolding nothing
rows_nothing x = record { at_most = λ count. omega arith }

pub rows_followed : {A B : Type 0} (m n : ℕ) (p : Making A) (k : A → Making B) → HasRows m p → ((x : A) → HasRows n (k x)) → HasRows (m + n) (followed p k)
unfolding followed
rows_followed m n p k first second = record {
  at_most = λ count.
      let a = p count in
      omega (arith, length-append a.rows (k a.answer (count + length a.rows)).rows, first.at_most count, (second a.answer).at_most (count + length a.rows));
}

rows_in_loop : {A : Type 0} (n : ℕ) (f : A → Function) (p : Making A) → HasRows n p → HasRows n (in_loop f p)
unfolding in_loop
rows_in_loop n f p h = record { at_most = h.at_most }

-- how many it becomes at most
abbrev mutual
  pub size_of : ExprTree → ℕ
  size_of ExprTree.nil = 1
  size_of (ExprTree.integer n) = 1
  size_of (ExprTree.string text) = 1
  size_of (ExprTree.level l) = 1
  size_of (ExprTree.global n) = 1
  size_of (ExprTree.apply head ts) = sizes_of ts + 1
  size_of (ExprTree.starts head ts) = sizes_of ts + 1
  size_of (ExprTree.round head t) = size_of t + 1
  size_of (ExprTree.items head ts) = sizes_of ts + 1
  size_of (ExprTree.bound first second body) = size_of first + size_of second + size_of body + 1
  size_of (ExprTree.loop own first second body) = size_of first + size_of second + size_of body + length own.arguments + 2

  pub sizes_of : ExprTrees → ℕ
  sizes_of ExprTrees.none = 0
  sizes_of (ExprTrees.more t ts) = size_of t + sizes_of ts

rows_more : {A : Type 0} (m n : ℕ) (p : Making A) → m ≤ n → HasRows m p → HasRows n p
rows_more m n p le h = record { at_most = λ count. omega (arith, le, h.at_most count) }

module _ (frame : Frame) where
  -- the parts of a form, of which each has at most its nodes
  abbrev pub Parts : List Emitting → ExprTrees → Type 0
  Parts [] ExprTrees.none = Unit {0}
  Parts (part ∷ parts) (ExprTrees.more t ts) = HasRows (size_of t) (part frame) × Parts parts ts
  Parts _ _ = ⊥

  rows_each : (number : ℕ) (done : List NodeId) (parts : List Emitting) (ts : ExprTrees) → Parts parts ts → HasRows (sizes_of ts) (gathered (λ n part. part frame) number done parts)
  rows_each number done [] ExprTrees.none h = rows_nothing done
  rows_each number done (part ∷ parts) (ExprTrees.more t ts) h =
      rows_followed (size_of t) (sizes_of ts) (part frame) (λ y. gathered (λ n part. part frame) (number + 1) (done ++ y ∷ []) parts) h.0
      (λ y. rows_each (number + 1) (done ++ y ∷ []) parts ts h.1)
  rows_each number done [] (ExprTrees.more t ts) h = absurd h
  rows_each number done (part ∷ parts) ExprTrees.none h = absurd h

  rows_two : (first second : ExprTree) (p q : Emitting) → HasRows (size_of first) (p frame) → HasRows (size_of second) (q frame) → HasRows (size_of first + size_of second) (each frame (p ∷ q ∷ []))
  rows_two first second p q a b =
      rows_more (size_of first + (size_of second + 0)) (size_of first + size_of second) (each frame (p ∷ q ∷ [])) (omega arith)
      (rows_each 0 [] (p ∷ q ∷ []) (ExprTrees.more first (ExprTrees.more second ExprTrees.none)) (a, (b, tt)))

rows_locals : (at : Spot) (frame : Frame) (levels : List ℕ) (number : ℕ) (done : List NodeId) → HasRows (length levels) (gathered (λ n part. part frame) number done (map (local at) levels))
rows_locals at frame [] number done = rows_nothing done
rows_locals at frame (l ∷ ls) number done =
    rows_more (1 + length ls) (length (l ∷ ls)) _ (omega arith)
    (rows_followed 1 (length ls) (local at l frame) (λ y. gathered (λ n part. part frame) (number + 1) (done ++ y ∷ []) (map (local at) ls))
    (rows_node at _) (λ y. rows_locals at frame ls (number + 1) (done ++ y ∷ [])))

rows_loop_end : (at : Spot) (frame : Frame) (own : Looping) (values : List NodeId) → HasRows (length own.arguments + (1 + 1)) (loop_end at frame own values)
rows_loop_end at frame own values =
    rows_followed (length own.arguments) (1 + 1) (each frame (map (local at) own.arguments)) _ (rows_locals at frame own.arguments 0 [])
    (λ arguments. rows_followed 1 1 _ _ (rows_node at _) (λ call. rows_node at _))

mutual
  pub rows_are : (t : ExprTree) (c : CoreTree) (frame : Frame) → HasRows (size_of t) (emitted (expr_from t c) frame)
  rows_are ExprTree.nil c frame = rw (emitted_nil (place_of c)) (rows_node (place_of c) _)
  rows_are (ExprTree.integer n) c frame = rw (emitted_int (place_of c) n) (rows_node (place_of c) _)
  rows_are (ExprTree.string text) c frame = rw (emitted_str (place_of c) text) (rows_node (place_of c) _)
  rows_are (ExprTree.level l) c frame = rw (emitted_local (place_of c) l) (rows_node (place_of c) _)
  rows_are (ExprTree.global n) c frame = rw (emitted_global (place_of c) n) (rows_node (place_of c) _)
  rows_are (ExprTree.apply head ts) c frame =
      let parts = exprs_from ts (behind_first (parts_in c)) in
      rw (emitted_apply (place_of c) head parts)
      (rows_followed (sizes_of ts) 1 (each frame (map emitted parts)) _ (rows_each frame 0 [] (map emitted parts) ts (parts_are ts (behind_first (parts_in c)) frame)) (λ ids. rows_node (place_of c) _))
  rows_are (ExprTree.round head t) c frame =
      rw (emitted_apply (place_of c) head (expr_from t c ∷ []))
      (rows_more (size_of t + 0 + 1) (size_of t + 1) _ (omega arith)
      (rows_followed (size_of t + 0) 1 (each frame (emitted (expr_from t c) ∷ [])) _ (rows_each frame 0 [] (emitted (expr_from t c) ∷ []) (ExprTrees.more t ExprTrees.none) (rows_are t c frame, tt)) (λ ids. rows_node (place_of c) _)))
  rows_are (ExprTree.starts head ts) c frame =
      let parts = exprs_from ts (behind_first (behind_first (parts_in c))) in
      rw (emitted_apply (place_of c) head parts)
      (rows_followed (sizes_of ts) 1 (each frame (map emitted parts)) _ (rows_each frame 0 [] (map emitted parts) ts (parts_are ts (behind_first (behind_first (parts_in c))) frame)) (λ ids. rows_node (place_of c) _))
  rows_are (ExprTree.items head ts) c frame =
      let parts = exprs_from ts (parts_in c) in
      rw (emitted_apply (place_of c) head parts)
      (rows_followed (sizes_of ts) 1 (each frame (map emitted parts)) _ (rows_each frame 0 [] (map emitted parts) ts (parts_are ts (parts_in c) frame)) (λ ids. rows_node (place_of c) _))
  rows_are (ExprTree.bound first second body) c frame =
      let a = expr_from first (first_value c) in
      let b = expr_from second (second_value c) in
      let d = expr_from body (third_of c) in
      rw (emitted_let (place_of c) (a ∷ b ∷ d ∷ []))
      (rows_more (size_of first + size_of second + (size_of body + 1)) (size_of first + size_of second + size_of body + 1) _ (omega arith)
      (rows_followed (size_of first + size_of second) (size_of body + 1) (each frame (emitted a ∷ emitted b ∷ [])) _
      (rows_two frame first second (emitted a) (emitted b) (rows_are first (first_value c) frame) (rows_are second (second_value c) frame))
      (λ ids. rows_followed (size_of body) 1 (emitted d frame) _ (rows_are body (third_of c) frame) (λ id. rows_node (place_of c) _))))
  rows_are (ExprTree.loop own first second body) c frame =
      let a = expr_from first (first_value c) in
      let b = expr_from second (second_value c) in
      let d = expr_from body (third_of c) in
      let inner = loop_frame frame own.number own.base in
      rw (emitted_loop (place_of c) own (a ∷ b ∷ d ∷ []))
      (rows_more (size_of first + size_of second + (size_of body + 0) + (length own.arguments + (1 + 1))) (size_of first + size_of second + size_of body + length own.arguments + 2) _ (omega arith)
      (rows_followed (size_of first + size_of second + (size_of body + 0)) (length own.arguments + (1 + 1)) _ _
      (rows_in_loop (size_of first + size_of second + (size_of body + 0)) _ _
      (rows_followed (size_of first + size_of second) (size_of body + 0) (each frame (emitted a ∷ emitted b ∷ [])) _
      (rows_two frame first second (emitted a) (emitted b) (rows_are first (first_value c) frame) (rows_are second (second_value c) frame))
      (λ ids. rows_followed (size_of body) 0 (emitted d inner) _ (rows_are body (third_of c) inner) (λ root. rows_nothing _))))
      (λ begun. rows_loop_end (place_of c) frame own begun.values)))

  parts_are : (ts : ExprTrees) (cs : CoreTrees) (frame : Frame) → Parts frame (map emitted (exprs_from ts cs)) ts
  parts_are ExprTrees.none cs frame = tt
  parts_are (ExprTrees.more t ts) cs frame = (rows_are t (first_in cs) frame, parts_are ts (behind_first cs) frame)
